-- What `begin` keeps true from turn to turn.
use Rattle.labels.proofs.Single.{Alone}
use Rattle.labels.proofs.begin.Given as goal

abbrev pub invariant-loop-i : goal.invariant-loop-i
invariant-loop-i l = Alone l.labels.root l.labels.who l.i
