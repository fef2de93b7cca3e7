-- What `mark` keeps true from turn to turn.
use Prim.Native.Nat.{◌+◌}
use Rattle.search.specs.Marks.{Marked}
use Rattle.search.proofs.mark.Given as goal

abbrev pub invariant-loop-e : goal.invariant-loop-e
invariant-loop-e l = Marked l.queue.edges (l.e-index + 1) l.marks
