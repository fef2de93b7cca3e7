-- `groups::shrink`: pass after pass (Shrinking.antt). Each pass but the last leaves fewer edges.
use native.Mathlib.Omega.{arith}
use Rattle.groups.proofs.Judging.{thinned_fewer}
use Rattle.groups.proofs.Reading.{ends_tabled}
use Rattle.groups.proofs.Shrinking.{shrinking_none, shrinking_given, shrinking_next, shrinking_end}
use Rattle.groups.proofs.shrink.Goals as goal

pub loop-limits-init : goal.loop-limits-init
loop-limits-init c = shrinking_none

pub plant-requires : goal.plant-requires
plant-requires c = shrinking_given c.loop-limits.invariant c.requires

pub thin-gone-requires : goal.thin-gone-requires
thin-gone-requires c =
    let book = c.args.book.now in
    record {
      few = c.requires.lent.most;
      ends = ends_tabled c.requires.design book.count book.ones book.others c.requires.lent;
    }

pub returns-then-gone-eq0 : goal.returns-then-gone-eq0
returns-then-gone-eq0 c =
    shrinking_end c.loop-limits.invariant c.args.limits.red_few c.args.limits.black_few c.plant.ensures c.thin-gone.ensures (omega (arith, c.if-gone-eq0.true))

pub loop-limits-smaller : goal.loop-limits-smaller
loop-limits-smaller c =
    let fewer = thinned_fewer c.thin-gone.ensures in
    omega (arith, fewer, c.if-gone-eq0.false)

pub loop-limits-preserved : goal.loop-limits-preserved
loop-limits-preserved c =
    shrinking_next c.loop-limits.invariant c.args.limits.red_few c.args.limits.black_few c.plant.ensures c.thin-gone.ensures
