-- `search::list_word`: the numbers of the bits passed are written, those of the bits left are still to come (`Listing`).
use mathlib.Core.Path.{sym, ap, ◌∙◌, subst}
use Prim.Native.Nat.{ℕ}
use native.Mathlib.Omega.{arith}
use Rattle.reaching.proofs.Laid.{laid_length}
use Rattle.search.proofs.Listing.{Listing, listing_begins, listing_room, listing_next, listing_ends}
use Rattle.search.proofs.list_word.Goals as goal

pub loop-t-init : goal.loop-t-init
loop-t-init c t =
    let list = c.args.list.now in
    subst (λ (left : ℕ). Listing c.args.base t.edges t.most c.args.start list list left c.args.start)
    (sym (ap (λ s. s.left) c.into_iter-t-iterator.ensures.into_iter_gives ∙ c.set_bits-t-items.ensures)) (listing_begins t)

pub offset_bounds-list-n : goal.offset_bounds-list-n
offset_bounds-list-n c =
    let t = c.requires.1 in
    let room = listing_room t (c.loop-t.invariant t) c.in-Some.ensures.steps.1 in
    omega (arith, room)

pub bounds-list-n : goal.bounds-list-n
bounds-list-n c =
    let t = c.requires.1 in
    let r = c.loop-t.invariant t in
    let room = listing_room t r c.in-Some.ensures.steps.1 in
    omega (arith, room, laid_length r.written.laid)

pub overflow_add-n : goal.overflow_add-n
overflow_add-n c =
    let t = c.requires.1 in
    let room = listing_room t (c.loop-t.invariant t) c.in-Some.ensures.steps.1 in
    omega (arith, room)

pub loop-t-preserved : goal.loop-t-preserved
loop-t-preserved c t = listing_next t (c.loop-t.invariant t) c.in-Some.ensures.steps.1 c.in-Some.ensures.steps.2

pub shape_of-list : goal.shape_of-list
shape_of-list c = laid_length (c.loop-t.invariant c.requires.1).written.laid

pub returns : goal.returns
returns c t = listing_ends t (c.loop-t.invariant t) c.in-None.ensures.steps.0
