-- What `plant` keeps true from turn to turn.
use Rattle.groups.proofs.Planting.{Grows}
use Rattle.groups.proofs.plant.Given as goal

abbrev pub invariant-loop-e : goal.invariant-loop-e
invariant-loop-e l = Grows l.book.count l.book.ones l.book.others l.left l.labels.root l.labels.who l.e
