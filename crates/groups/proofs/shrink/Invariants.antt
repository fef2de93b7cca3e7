-- What `shrink` keeps true from turn to turn, and what its turns count down.
use Rattle.groups.proofs.Judging.{left_over}
use Rattle.groups.proofs.Shrinking.{Shrinking}
use Rattle.groups.proofs.shrink.Given as goal

abbrev pub invariant-loop-limits : goal.invariant-loop-limits
invariant-loop-limits l =
    Shrinking l.book.count l.book.ones l.book.others l.book.colours l.limits.red l.limits.black l.initial.left l.left

abbrev pub decreases-loop-limits : goal.decreases-loop-limits
decreases-loop-limits l = left_over l.book.count l.left
