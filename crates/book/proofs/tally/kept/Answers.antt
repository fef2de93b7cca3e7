-- `book::kept`: so far, the placed ones of the first edges are counted. The test is read as what it says of the forest, not by how it is written.
use mathlib.Core.Path.{◌≡◌}
use Prim.Native.Nat.{◌<◌}
use native.Mathlib.Omega.{arith}
use lib.ListN.{get_or, take, length-take}
use lib.Seq.{get_or-take}
use Rattle.rule.proofs.Counting.{count_le}
use Rattle.book.proofs.Figures.{placed, one_placed, none_placed}
use Rattle.book.proofs.tally.kept.Goals as goal

pub loop-forest-init : goal.loop-forest-init
loop-forest-init c = omega (arith, count_le (placed c.args.forests.now) 0)

pub overflow_add-found : goal.overflow_add-found
overflow_add-found c =
    omega (
      arith,
      length-take c.from.result c.args.forests.now,
      count_le (placed c.args.forests.now) c.loop-forest.forest-index,
    )

pub loop-forest-preserved : goal.loop-forest-preserved
loop-forest-preserved c =
    let forests = c.args.forests.now in
    let e = c.loop-forest.forest-index in
    let within : e < c.from.result = omega (arith, length-take c.from.result forests) in
    let read : get_or (take c.from.result forests) e 0 ≡ get_or forests e 0 = get_or-take c.from.result forests e 0 within in
    let one = one_placed forests e c.loop-forest.found c.loop-forest.invariant in
    let none = none_placed forests e c.loop-forest.found c.loop-forest.invariant in grind (arith, read, one, none)
