-- `book::scan`: the invariant and each step are those of proofs/Scanning.antt.
use Rattle.rule.proofs.Places.{edge_at_index}
use Rattle.book.proofs.Said.{refused, granted}
use Rattle.book.proofs.Scanning.{FineAt, scanning_none, scanned_all, not_fine, plantable, stops, scanning_more}
use Rattle.book.proofs.scan.Goals as goal

pub scan-init : goal.scan-init
scan-init c = scanning_none c.args.book.now _ c.begin.ensures c.clear.ensures

pub edge_fine-requires : goal.edge_fine-requires
edge_fine-requires c = (c.requires.profile.0.high, c.requires.profile.1.high)

pub plant-requires : goal.plant-requires
plant-requires c =
    rw (c.edge-edge.ensures, edge_at_index, c.from-i.ensures)
    (plantable c.args.book.now c.scan.e c.scan.tables c.scan.invariant c.if-book-e.false c.requires
    (granted {P = FineAt c.args.book.now c.scan.e} c.edge_fine.result (rw (c.edge-edge.ensures, edge_at_index, c.from-i.ensures) at c.edge_fine.ensures) c.if-not-edge_fine.false))

pub scan-preserved : goal.scan-preserved
scan-preserved c =
    scanning_more c.args.book.now c.scan.e c.scan.tables c.scan.invariant c.if-book-e.false c.requires
    (granted {P = FineAt c.args.book.now c.scan.e} c.edge_fine.result (rw (c.edge-edge.ensures, edge_at_index, c.from-i.ensures) at c.edge_fine.ensures) c.if-not-edge_fine.false)
    c.plant.new.tables c.plant.result (rw (c.edge-edge.ensures, edge_at_index, c.from-i.ensures) at c.plant.ensures) c.if-not-plant.false

pub returns-then-book-e : goal.returns-then-book-e
returns-then-book-e c = scanned_all c.args.book.now c.scan.e c.scan.tables c.scan.invariant c.if-book-e.true

pub returns-then-not-edge_fine : goal.returns-then-not-edge_fine
returns-then-not-edge_fine c =
    not_fine c.args.book.now c.scan.e c.scan.tables c.scan.invariant c.if-book-e.false
    (refused {P = FineAt c.args.book.now c.scan.e} c.edge_fine.result (rw (c.edge-edge.ensures, edge_at_index, c.from-i.ensures) at c.edge_fine.ensures) c.if-not-edge_fine.true) c.scan.tables

pub returns-then-not-plant : goal.returns-then-not-plant
returns-then-not-plant c =
    stops c.args.book.now c.scan.e c.scan.tables c.scan.invariant c.if-book-e.false c.requires
    (granted {P = FineAt c.args.book.now c.scan.e} c.edge_fine.result (rw (c.edge-edge.ensures, edge_at_index, c.from-i.ensures) at c.edge_fine.ensures) c.if-not-edge_fine.false)
    c.plant.new.tables c.plant.result (rw (c.edge-edge.ensures, edge_at_index, c.from-i.ensures) at c.plant.ensures) c.if-not-plant.true
