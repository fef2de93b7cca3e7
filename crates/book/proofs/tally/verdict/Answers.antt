-- `book::verdict`: the two figures decide.
use Rattle.rule.specs.Figures.{verdict}
use Rattle.std.proofs.Common.{rules}
use Rattle.book.proofs.tally.verdict.Goals as goal

pub returns : goal.returns
unfolding verdict
returns c = search rules
