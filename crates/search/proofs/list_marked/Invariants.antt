-- What `list_marked` keeps true from turn to turn.
use lib.ListN.{length}
use Rattle.rule.specs.Sets.{numbers}
use Rattle.search.specs.Marks.{MarksWritten, Markings}
use Rattle.search.proofs.MarkedList.{passed}
use Rattle.search.proofs.list_marked.Given as goal

abbrev pub invariant-loop-i : goal.invariant-loop-i
invariant-loop-i l =
    (t : Markings l.marks (length l.initial.list)) → MarksWritten l.initial.list 0 (numbers (passed l.marks l.i) t.m) l.list l.n
