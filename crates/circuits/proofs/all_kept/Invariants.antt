-- What `all_kept` keeps true from turn to turn.
use Rattle.rule.specs.Sets.{numbers}
use Rattle.search.specs.Marks.{MarksWritten}
use Rattle.book.proofs.Figures.{placed}
use Rattle.circuits.proofs.all_kept.Given as goal

abbrev pub invariant-loop-e : goal.invariant-loop-e
invariant-loop-e l = MarksWritten l.initial.list 0 (numbers (placed l.forests) l.e) l.list l.n
