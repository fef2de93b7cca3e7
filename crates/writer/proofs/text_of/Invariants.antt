-- What `text_of` keeps true from turn to turn.
use Rattle.reports.specs.Reports.{book_lines}
use Rattle.lines.proofs.Rounds.{Rounds}
use Rattle.writer.proofs.Sheets.{first_lines}
use Rattle.writer.proofs.text_of.Given as goal

abbrev pub invariant-loop-i : goal.invariant-loop-i
invariant-loop-i l = Rounds (first_lines l.book) (book_lines l.book).number l.initial.buffer l.buffer 0 l.end l.i
