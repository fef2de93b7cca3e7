-- `book::plant`: an edge with no forest changes nothing; one whose ends have one label closes a loop; any other is added.
use Rattle.book.proofs.Planted.{nowhere, closing, can_add, planted}
use Rattle.book.proofs.plant.Goals as goal

pub returns-then-forest-eq0 : goal.returns-then-forest-eq0
returns-then-forest-eq0 c =
    let x = c.args in
    nowhere x.edge x.forest x.e x.tables.now c.requires c.if-forest-eq0.true

pub returns-then-joined : goal.returns-then-joined
returns-then-joined c =
    let x = c.args in
    closing x.edge x.forest x.e x.tables.now c.requires c.if-forest-eq0.false c.joined.result
    (rw (c.from-f.ensures, c.from-x.ensures, c.from-y.ensures) at c.joined.ensures) c.if-joined.true

pub add-requires : goal.add-requires
add-requires c =
    let x = c.args in
    rw (c.from-f.ensures, c.from-x.ensures, c.from-y.ensures)
    (can_add x.edge x.forest x.e x.tables.now c.requires c.if-forest-eq0.false c.joined.result
    (rw (c.from-f.ensures, c.from-x.ensures, c.from-y.ensures) at c.joined.ensures) c.if-joined.false)

pub returns : goal.returns
returns c =
    let x = c.args in
    planted x.edge x.forest x.e x.tables.now c.requires c.if-forest-eq0.false c.joined.result
    (rw (c.from-f.ensures, c.from-x.ensures, c.from-y.ensures) at c.joined.ensures) c.if-joined.false c.add.new.tables
    (rw (c.from-f.ensures, c.from-x.ensures, c.from-y.ensures) at c.add.ensures)
