-- What `replant` keeps true from turn to turn: some edges of the path are still to move, and nothing but the forests and the two lists
-- of the tables that a swap writes has changed.
use Rattle.std.proofs.Common.{◌≡◌, reverse}
use Rattle.moving.specs.Along.{Replants}
use Rattle.moving.proofs.Walking.{Walking}
use Rattle.moving.proofs.replant.Given as goal

abbrev pub invariant-loop-y : goal.invariant-loop-y
invariant-loop-y l =
    ((t : Replants l.number l.found l.path l.fn.book l.fn.tables)
    → Walking t l.book.forests l.tables.way l.tables.edge (reverse l.y-iterator.iter.rest.now) l.x)
    × (l.book ≡ record l.fn.book { forests = l.book.forests })
    × (l.tables.labels ≡ l.fn.tables.labels)
    × (l.tables.size ≡ l.fn.tables.size)
