-- `text::put::number` calls itself on n / 10: the measure is n.
use Rattle.text.proofs.put.+number.Given as goal

abbrev pub decreases-number : goal.decreases-number
decreases-number l = l.n
