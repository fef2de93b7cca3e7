-- `planting::swap`: what its calls did, put together in proofs/Swapped.antt.
use Rattle.planting.proofs.Swapped.{swapped}
use Rattle.planting.proofs.swap.Goals as goal

pub returns-clause-swaps : goal.returns-clause-swaps
returns-clause-swaps c =
    let t = c.args.tables.now in
    swapped c.args.f c.args.u c.args.v c.args.x c.args.y c.slot_of-j.result t.way t.edge c.turn.new.way
    c.path.result c.one.result c.requires t.way_long t.edge_long c.slot_of-j.ensures c.path.ensures
    c.one.ensures c.turn.ensures
