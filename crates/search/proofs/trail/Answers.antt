-- `search::trail`: the way back, step by step (`Leading`).
use mathlib.Core.Path.{sym, subst}
use Prim.Native.Nat.{ℕ, ◌+◌}
use native.Mathlib.Omega.{arith}
use lib.ListN.{get_or, set}
use Rattle.search.proofs.Leading.{Leading, leading_begins, few_steps, goes_back, leading_next, leading_ends}
use Rattle.search.proofs.trail.Goals as goal

pub loop-q-init : goal.loop-q-init
loop-q-init c t = leading_begins t.w c.args.place c.args.path.now

pub offset_bounds-queue-q : goal.offset_bounds-queue-q
offset_bounds-queue-q c = let few = few_steps c.requires c.loop-q.q c.loop-q.n (c.loop-q.invariant c.requires) in omega (arith, few)

pub bounds-queue-q : goal.bounds-queue-q
bounds-queue-q c = let few = few_steps c.requires c.loop-q.q c.loop-q.n (c.loop-q.invariant c.requires) in omega (arith, few)

pub offset_bounds-path-n : goal.offset_bounds-path-n
offset_bounds-path-n c = let few = few_steps c.requires c.loop-q.q c.loop-q.n (c.loop-q.invariant c.requires) in omega (arith, few)

pub bounds-path-n : goal.bounds-path-n
bounds-path-n c = let few = few_steps c.requires c.loop-q.q c.loop-q.n (c.loop-q.invariant c.requires) in omega (arith, few)

pub offset_bounds-queue-q-in-loop-q : goal.offset_bounds-queue-q-in-loop-q
offset_bounds-queue-q-in-loop-q c = let few = few_steps c.requires c.loop-q.q c.loop-q.n (c.loop-q.invariant c.requires) in omega (arith, few)

pub bounds-queue-q-in-loop-q : goal.bounds-queue-q-in-loop-q
bounds-queue-q-in-loop-q c = let few = few_steps c.requires c.loop-q.q c.loop-q.n (c.loop-q.invariant c.requires) in omega (arith, few)

pub overflow_add-n : goal.overflow_add-n
overflow_add-n c = let few = few_steps c.requires c.loop-q.q c.loop-q.n (c.loop-q.invariant c.requires) in omega (arith, few)

pub loop-q-smaller : goal.loop-q-smaller
loop-q-smaller c =
    let back = goes_back c.requires c.loop-q.q c.loop-q.n (c.loop-q.invariant c.requires) (omega arith) in
    omega (arith, back, c.from-q.ensures)

pub loop-q-preserved : goal.loop-q-preserved
loop-q-preserved c t =
    subst
    (λ (z : ℕ). Leading t.w c.args.place z (c.loop-q.n + 1) c.args.path.now (set c.loop-q.path c.loop-q.n (get_or c.args.queue.now.edges c.loop-q.q 0)))
    (sym c.from-q.ensures) (leading_next t c.loop-q.q c.loop-q.n (c.loop-q.invariant t) (omega arith) (omega arith))

pub returns : goal.returns
returns c t = leading_ends t c.loop-q.q c.loop-q.n (c.loop-q.invariant t) c.loop-q-test.false
