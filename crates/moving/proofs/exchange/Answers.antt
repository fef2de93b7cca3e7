-- `moving::exchange`: the swap in the tables, and the forest of y stored for x.
use Rattle.std.proofs.Common.{◌∙◌}
use Rattle.moving.proofs.Walking.{exchange_done}
use Rattle.moving.proofs.exchange.Goals as goal

pub returns-clause-exchanges : goal.returns-clause-exchanges
returns-clause-exchanges c =
    let b = c.args.book.now in
    let t = c.args.tables.now in
    exchange_done c.args.x c.args.y b.ones b.others b.forests t.way t.edge _ _ _ c.read-f.result c.from.result c.from-2.result
    c.from-3.result c.read-f.ensures (c.from.ensures ∙ c.read-f.ensures) (c.from-2.ensures ∙ c.read-u.ensures)
    (c.from-3.ensures ∙ c.read-v.ensures) c.swap.ensures.swaps c.store.ensures
