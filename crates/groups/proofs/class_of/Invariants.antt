-- What `class_of` keeps true from turn to turn.
use Prim.Native.Nat.{◌≤◌}
use Rattle.groups.proofs.Crowds.{With}
use Rattle.groups.proofs.class_of.Given as goal

abbrev pub invariant-loop-i : goal.invariant-loop-i
invariant-loop-i l = (l.i ≤ l.j) × With l.labels.root l.labels.who l.v l.i l.word
