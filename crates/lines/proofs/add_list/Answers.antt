-- `lines::add_list`: its rounds add the numbers one by one (Rounds.antt, Listing.antt).
use native.Mathlib.Omega.{arith}
use mathlib.Core.Path.{ap}
use lib.Seq.{take-length}
use Rattle.text.specs.Lines.{listed}
use Rattle.lines.specs.Adding.{item}
use Rattle.lines.proofs.Adding.{adds_as}
use Rattle.lines.proofs.Rounds.{rounds_none, rounds_room, rounds_more, rounds_all}
use Rattle.lines.proofs.Listing.{numbers_pieces, numbers_room}
use Rattle.lines.proofs.add_list.Goals as goal

pub loop-i-init : goal.loop-i-init
loop-i-init c = rounds_none (numbers_pieces c.args.list.now) (omega (arith, c.requires))

pub add_item-next-requires : goal.add_item-next-requires
add_item-next-requires c =
    let list = c.args.list.now in
    rounds_room (numbers_pieces list) c.loop-i.invariant (numbers_room list _ _ c.requires) c.loop-i-test.true _ (ap (item c.loop-i.i) c.from.ensures)

pub loop-i-preserved : goal.loop-i-preserved
loop-i-preserved c =
    let list = c.args.list.now in
    rounds_more (numbers_pieces list) c.loop-i.invariant (numbers_room list _ _ c.requires) c.loop-i-test.true _ (ap (item c.loop-i.i) c.from.ensures)
    c.add_item-next.ensures

pub returns : goal.returns
returns c =
    let list = c.args.list.now in
    adds_as (ap listed (take-length list))
    (rounds_all (numbers_pieces list) c.loop-i.invariant (numbers_room list _ _ c.requires) c.loop-i-test.false)
