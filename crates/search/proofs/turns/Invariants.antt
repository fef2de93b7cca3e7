-- What `turns` keeps true from turn to turn, and what its turns count down.
use Prim.Native.Nat.{◌-◌, ◌≤◌}
use Rattle.std.specs.Prelude.{None}
use Rattle.search.specs.Given.{GivenFor}
use Rattle.search.specs.Answers.{TurnedIn}
use Rattle.search.proofs.turns.Given as goal

-- the turns before place q are over, whatever design the arrays stand for
abbrev pub invariant-loop-q : goal.invariant-loop-q
invariant-loop-q l =
    (1 ≤ l.q) × ((g : GivenFor l.limits l.book l.tables) → TurnedIn g l.initial.queue 1 None → (l.q ≤ g.d.m) × TurnedIn g l.queue l.q None)

abbrev pub decreases-loop-q : goal.decreases-loop-q
decreases-loop-q l = 379 - l.q
