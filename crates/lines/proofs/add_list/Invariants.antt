-- What `add_list` keeps true.
use lib.ListN.{length, take}
use Rattle.text.specs.Lines.{listed}
use Rattle.lines.proofs.Rounds.{Rounds}
use Rattle.lines.proofs.add_list.Given as goal

abbrev pub invariant-loop-i : goal.invariant-loop-i
invariant-loop-i l = Rounds (λ j. listed (take j l.fn.list)) (length l.fn.list) l.initial.buffer l.buffer l.at l.next l.i
