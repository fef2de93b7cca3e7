-- `text::line_start` meets its contract: its loop stands where line i begins (`Reached`, proofs/LineStarts.antt). Assumes nothing.
use borrow.Author.Rules.{rules}
use Rattle.text.proofs.LineStarts.{reached_first, reached_next, reached_all}
use Rattle.text.proofs.line_start.Goals as goal

pub loop-init : goal.loop-init
loop-init c = reached_first c.requires

pub overflow_add-at : goal.overflow_add-at
overflow_add-at c = let next = reached_next c.loop.invariant c.loop-test.true c.line_end-at.ensures in search (rules, next.within)

pub loop-preserved : goal.loop-preserved
loop-preserved c = reached_next c.loop.invariant c.loop-test.true c.line_end-at.ensures

pub returns : goal.returns
returns c = reached_all c.loop.invariant c.loop-test.false
