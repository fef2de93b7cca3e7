-- `book::sound_alone`: of what check 8 says the tables are left out.
use Rattle.rule.specs.Reasons.{book_checks}
use Rattle.book.specs.Checks.{HoldsForests}
use Rattle.book.proofs.Checks.{found_alone}
use Rattle.book.proofs.sound_alone.Goals as goal

pub returns : goal.returns
returns c = found_alone (book_checks c.args.book.now) (HoldsForests c.args.book.now c.sound.new.tables) c.sound.result c.sound.ensures
