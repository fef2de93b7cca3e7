-- `printing::send_text`: what was read can be stepped through (crate readings), and its pages are handed over. Assumes nothing.
use borrow.Author.Rules.{rules}
use Rattle.printing.proofs.Turns.{text_turn, text_sent}
use Rattle.printing.proofs.send_text.Goals as goal

pub send_pages-requires : goal.send_pages-requires
send_pages-requires c = let begun = c.begin.ensures in (text_turn _ begun (search rules), begun.start)

pub returns : goal.returns
returns c = text_sent c.begin.ensures c.send_pages.ensures
