-- What `wait` keeps true from turn to turn.
use mathlib.Core.Path.{◌≡◌}
use Prim.Native.Nat.{◌≤◌}
use Rattle.reaching.proofs.Waited.{waited}
use Rattle.reaching.proofs.wait.Given as goal

-- place q is free
abbrev pub invariant-loop-q : goal.invariant-loop-q
invariant-loop-q l = (l.first ≤ l.q) × (waited l.e l.first l.q l.edges ≡ waited l.e l.first l.size l.initial.edges)
