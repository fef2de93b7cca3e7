-- `planting::add`: what its calls did, put together in proofs/Added.antt.
use Rattle.planting.proofs.Added.{added}
use Rattle.planting.proofs.Sizes.{sized}
use Rattle.planting.proofs.add.Goals as goal

pub returns : goal.returns
returns c =
    let t = c.args.tables.now in
    added c.args.f c.args.u c.args.v c.args.e c.from-t.result t.labels.root t.way t.labels.who t.edge t.size
    c.unite-bodies.new.labels.root c.change.new.way c.unite-bodies.new.labels.who
    c.unite-bodies.result c.path.result c.one.result c.requires (sized t) c.from-t.ensures c.unite-bodies.ensures
    c.path.ensures c.one.ensures c.change.ensures
