-- What `line_start` keeps true from turn to turn.
use Rattle.text.proofs.LineStarts.{Reached}
use Rattle.text.proofs.line_start.Given as goal

abbrev pub invariant-loop : goal.invariant-loop
invariant-loop l = Reached l.text l.line l.at l.counter
