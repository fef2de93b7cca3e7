-- `planting::turn`: each place of the row in turn gets its word changed.
use borrow.Rule.Slice.PartMut.{mid_len}
use Prim.Native.Nat.{◌+◌, ◌-◌, ◌≤◌}
use lib.ListN.{length}
use native.Mathlib.Omega.{arith}
use Rattle.tables.specs.Tables.{start as begins}
use Rattle.planting.specs.Calls.{turned_by}
use Rattle.planting.proofs.Places.{passed_begun, passed_on, passed_all}
use Rattle.planting.proofs.turn.Goals as goal

pub loop-word-init : goal.loop-word-init
loop-word-init c =
    let base = begins c.args.f in
    passed_begun (turned_by c.args.j c.args.c) base c.args.way.now (base + 64 - base)

pub loop-word-preserved : goal.loop-word-preserved
loop-word-preserved c =
    let base = begins c.args.f in
    let long : base + 64 ≤ length c.args.way.now = omega (arith, c.told-way, c.requires.0.low, c.requires.0.high) in
    let part = mid_len base (base + 64) c.args.way.now long in
    passed_on (turned_by c.args.j c.args.c) base c.args.way.now (base + 64 - base) c.loop-word.word-items c.loop-word.word-index
    c.turned.result (omega (arith, part, c.loop-word-test.true)) (omega (arith, c.loop-word-test.true, c.loop-word.auto.word-items)) long c.turned.ensures
    c.loop-word.invariant

pub returns : goal.returns
returns c =
    let base = begins c.args.f in
    let long : base + 64 ≤ length c.args.way.now = omega (arith, c.told-way, c.requires.0.low, c.requires.0.high) in
    let part = mid_len base (base + 64) c.args.way.now long in
    passed_all (turned_by c.args.j c.args.c) base c.args.way.now _ c.loop-word.word-index (omega (arith, part, c.loop-word-test.false))
    c.loop-word.invariant
