-- What `number` keeps true from turn to turn.
use Rattle.text.proofs.Scans.{Turned}
use Rattle.text.proofs.number.Given as goal

abbrev pub invariant-loop-used : goal.invariant-loop-used
invariant-loop-used l = Turned l.s l.most l.value l.used
