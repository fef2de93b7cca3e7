-- `lines::add_book_line`: what `book_line` did to the part is said of the whole.
use native.Mathlib.Omega.{arith}
use Rattle.lines.proofs.Adding.{adds_part}
use Rattle.lines.proofs.add_book_line.Goals as goal

pub returns : goal.returns
returns c = adds_part _ _ (omega arith) c.book_line.ensures
