-- What `grow` keeps true from turn to turn.
use mathlib.Core.Path.{◌≡◌}
use Rattle.text.specs.EdgeLists.{lists_of}
use Rattle.reader.specs.Growing.{Growing}
use Rattle.reader.proofs.Lines.{HasHead}
use Rattle.reader.proofs.grow.Given as goal

abbrev pub invariant-loop-i : goal.invariant-loop-i
invariant-loop-i l =
    Growing (lists_of l.edges) l.book l.tables × (l.book.count ≡ l.i) × HasHead l.book l.fn.head.a l.fn.head.b l.fn.head.n
