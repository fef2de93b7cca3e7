-- `reaching::wait`: at each turn the queue is to come to what it was to come to at first (`waited`), and there it takes the edge in.
use mathlib.Core.Path.{◌≡◌, sym, ◌∙◌, subst}
use Prim.Native.Nat.{ℕ, ◌+◌, ◌-◌}
use native.Mathlib.Omega.{arith}
use lib.ListN.{set, get_or}
use Rattle.reaching.specs.Laid.{TakesIn}
use Rattle.reaching.proofs.Waited.{waited, waited_moves, takes_in}
use Rattle.reaching.proofs.wait.Goals as goal

pub returns-then-edges-q : goal.returns-then-edges-q
returns-then-edges-q c =
    let args = c.args in
    let q = c.loop-q.q in
    let last : q ≡ q - 1 + 1 = omega arith in
    subst (λ (z : ℕ). TakesIn args.e args.first args.size args.edges.now (set c.loop-q.edges z args.e)) last
    (takes_in args.e args.first args.size q args.edges.now c.loop-q.edges c.loop-q.invariant.1 (λ _. c.if-edges-q.true) (omega arith))

pub loop-q-preserved : goal.loop-q-preserved
loop-q-preserved c =
    let args = c.args in
    let q = c.loop-q.q in
    let last : q ≡ q - 1 + 1 = omega arith in (
      omega arith,
      subst (λ (z : ℕ). waited args.e args.first (q - 1) (set c.loop-q.edges z (get_or c.loop-q.edges (q - 1) 0)) ≡ waited args.e args.first args.size args.edges.now) last
          (sym (waited_moves args.e args.first q c.loop-q.edges (omega arith) c.if-edges-q.false) ∙ c.loop-q.invariant.1),
    )

pub returns : goal.returns
returns c =
    let args = c.args in
    let over : c.loop-q.q ≡ args.first = omega arith in
    subst (λ (z : ℕ). TakesIn args.e args.first args.size args.edges.now (set c.loop-q.edges z args.e)) over
    (takes_in args.e args.first args.size c.loop-q.q args.edges.now c.loop-q.edges c.loop-q.invariant.1 (λ h. absurd (omega arith)) (omega arith))
