-- `groups::leaders`: the list is filled body by body (Listing.antt) with the lowest bit of the class (Crowds.antt).
use Prim.Native.Nat.{◌+◌}
use native.Mathlib.Omega.{arith}
use Rattle.groups.proofs.Crowds.{class_not_empty, class_leads}
use Rattle.groups.proofs.Listing.{listing_none, listing_more, listing_all}
use Rattle.groups.proofs.leaders.Goals as goal

pub loop-v-init : goal.loop-v-init
loop-v-init c = listing_none

pub class_of-word-requires : goal.class_of-word-requires
class_of-word-requires c =
    (c.requires.j_bound.0, (omega arith, c.requires.seated))

pub lowest-requires : goal.lowest-requires
lowest-requires c =
    class_not_empty c.args.labels.now.root c.args.labels.now.who c.requires.seated c.args.j c.args.n (c.loop-v.v + 1)
    c.class_of-word.result c.requires.j_bound.0 c.requires.j_bound.1.0 (omega arith) c.class_of-word.ensures

pub overflow_add-list : goal.overflow_add-list
overflow_add-list c = record { fits = omega (arith, c.lowest.ensures.small) }

pub overflow_cast-list : goal.overflow_cast-list
overflow_cast-list c = record { fits = omega (arith, c.lowest.ensures.small) }

pub bounds-list-v : goal.bounds-list-v
bounds-list-v c = omega (arith, c.loop-v.invariant.as_long)

pub loop-v-preserved : goal.loop-v-preserved
loop-v-preserved c =
    let root = c.args.labels.now.root in
    let who = c.args.labels.now.who in
    let j = c.args.j in
    let n = c.args.n in
    listing_more (omega arith) c.requires.j_bound.1.1
    (class_leads root who c.requires.seated j n (c.loop-v.v + 1) c.class_of-word.result c.requires.j_bound.0 c.requires.j_bound.1.0 (omega arith)
    c.class_of-word.ensures c.lowest.result c.lowest.ensures)
    c.loop-v.invariant

pub shape_of-list : goal.shape_of-list
shape_of-list c = c.loop-v.invariant.as_long

pub returns : goal.returns
returns c = listing_all c.loop-v-test.false c.loop-v.invariant
