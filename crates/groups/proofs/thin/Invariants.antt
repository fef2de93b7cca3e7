-- What `thin` keeps true from turn to turn.
use Prim.Native.Nat.{◌≤◌}
use Rattle.groups.specs.Passes.{stays_in}
use Rattle.groups.proofs.Judging.{Judged}
use Rattle.groups.proofs.thin.Given as goal

abbrev pub invariant-loop-e : goal.invariant-loop-e
invariant-loop-e l = (l.e ≤ l.book.count) × Judged (stays_in l.book l.labels l.limits) l.initial.left l.left l.e l.gone
