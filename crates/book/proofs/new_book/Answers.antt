-- `book::new_book`: zeros, as the definition has them.
use mathlib.Core.Path.{refl}
use Rattle.rule.specs.Calls.{new_book}
use Rattle.book.proofs.new_book.Goals as goal

pub returns : goal.returns
unfolding new_book
returns c = refl
