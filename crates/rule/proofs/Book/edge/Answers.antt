-- `rule::Book::edge`: edge i + 1 is what stands at index i.
use mathlib.Core.Path.{sym}
use Rattle.rule.proofs.Places.{edge_at_index}
use Rattle.rule.proofs.Book.edge.Goals as goal

pub returns : goal.returns
returns c = sym (edge_at_index c.args.self.now c.args.i)
