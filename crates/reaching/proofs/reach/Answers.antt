-- `reaching::reach`: the edges of the bits passed wait, those of the bits left are still to come (`Reaching`).
use mathlib.Core.Path.{refl, sym, ap, ◌∙◌, subst}
use Prim.Native.Nat.{ℕ}
use native.Mathlib.Omega.{arith}
use lib.ListN.{length-set}
use Rattle.reaching.specs.Words.{standing_at}
use Rattle.reaching.proofs.Coming.{Reaching, reaching_begins, reaching_room, reaching_long, reaching_next, reaching_ends}
use Rattle.reaching.proofs.reach.Goals as goal

pub loop-t-init : goal.loop-t-init
loop-t-init c = (
  refl,
  λ t.
      let Q = c.args.queue.now in
      let of = standing_at c.args.edge.now c.args.base in
      subst (λ (left : ℕ). Reaching of t.edges t.most Q.size c.args.place Q.edges Q.from Q.edges Q.from left Q.size)
      (sym (ap (λ s. s.left) c.into_iter-t-iterator.ensures.into_iter_gives ∙ c.set_bits-t-items.ensures))
      (reaching_begins of t.edges t.most Q.size c.args.place c.args.word Q.edges Q.from t.carried t.room Q.edges_long Q.from_long),
)

pub wait-requires : goal.wait-requires
wait-requires c =
    let r = c.loop-t.invariant.1 c.requires.1 in
    (omega (arith, r.came.counts), reaching_room r c.in-Some.ensures.steps.1)

pub bounds-queue-n : goal.bounds-queue-n
bounds-queue-n c = reaching_room (c.loop-t.invariant.1 c.requires.1) c.in-Some.ensures.steps.1

pub invariant_of-queue-clause-few : goal.invariant_of-queue-clause-few
invariant_of-queue-clause-few c =
    let few = reaching_room (c.loop-t.invariant.1 c.requires.1) c.in-Some.ensures.steps.1 in
    omega (arith, few)

pub invariant_of-queue-clause-edges_long : goal.invariant_of-queue-clause-edges_long
invariant_of-queue-clause-edges_long c =
    reaching_long (c.loop-t.invariant.1 c.requires.1) c.in-Some.ensures.steps.1 c.wait.ensures ∙ c.args.queue.now.edges_long

pub invariant_of-queue-clause-from_long : goal.invariant_of-queue-clause-from_long
invariant_of-queue-clause-from_long c = length-set c.loop-t.queue.from c.loop-t.queue.size c.args.place ∙ c.loop-t.queue.from_long

pub loop-t-preserved : goal.loop-t-preserved
loop-t-preserved c = (
  c.loop-t.invariant.0,
  λ t. reaching_next (c.loop-t.invariant.1 t) c.in-Some.ensures.steps.1 c.in-Some.ensures.steps.2 c.args.queue.now.from_long c.wait.ensures,
)

pub returns : goal.returns
returns c t = record { came = reaching_ends (c.loop-t.invariant.1 t) c.in-None.ensures.steps.0; as_seen = c.loop-t.invariant.0 }
