-- `reaching::try_forests`: after each turn the queue is what the model has when one forest more is tried; a free forest ends both.
use mathlib.Core.Path.{sym, ◌∙◌, subst}
use native.Mathlib.Omega.{arith}
use Rattle.reaching.specs.Trying.{Tells}
use Rattle.reaching.proofs.AllForests.{none_tried, found_stays, all_tried, waits_on, own_passed, next_found, next_tried}
use Rattle.reaching.proofs.try_forests.Goals as goal

pub loop-f-init : goal.loop-f-init
loop-f-init c = (λ t _ _. none_tried t, omega arith, omega arith)

pub loop-f-preserved-then-f-own : goal.loop-f-preserved-then-f-own
loop-f-preserved-then-f-own c = (
  λ t last own.
      let f = c.loop-f in
      all_tried t (omega arith) (own_passed t f.f f.invariant.1 (f.invariant.0 t last own) (own ∙ sym c.if-f-own.true)),
  omega arith,
  omega arith,
)

pub try_forest-requires : goal.try_forest-requires
try_forest-requires c =
    let f = c.loop-f in
    let t = c.requires.0 in
    let last = c.requires.1.0 in
    let own = c.requires.1.1 in
    (waits_on t f.f f.invariant.1 (f.invariant.0 t last own), (omega (arith, f.invariant.1), λ q. c.if-f-own.false (sym q ∙ own)))

pub returns-in-Some : goal.returns-in-Some
returns-in-Some c t last own =
    let f = c.loop-f in
    let a = f.invariant.0 t last own in
    found_stays t _ f.f c.args.last (omega arith)
    (next_found t f.f f.invariant.1 a
    (subst (Tells _ _ _ _) c.in-Some.is
    (c.try_forest.ensures (waits_on t f.f f.invariant.1 a) (omega (arith, f.invariant.1)) (λ q. c.if-f-own.false (sym q ∙ own)))))

pub loop-f-preserved : goal.loop-f-preserved
loop-f-preserved c = (
  λ t last own.
      let f = c.loop-f in
      let a = f.invariant.0 t last own in
      all_tried t (omega arith)
      (next_tried t f.f f.invariant.1 a
      (subst (Tells _ _ _ _) c.in_default.is
      (c.try_forest.ensures (waits_on t f.f f.invariant.1 a) (omega (arith, f.invariant.1)) (λ q. c.if-f-own.false (sym q ∙ own))))),
  omega arith,
  omega arith,
)

pub returns : goal.returns
returns c t last own = all_tried t (omega arith) (c.loop-f.invariant.0 t last own)

pub returns-then-f-own : goal.returns-then-f-own
returns-then-f-own c t last own =
    let f = c.loop-f in
    all_tried t (omega arith) (own_passed t f.f f.invariant.1 (f.invariant.0 t last own) (own ∙ sym c.if-f-own.true))

pub returns-in_default : goal.returns-in_default
returns-in_default c t last own =
    let f = c.loop-f in
    let a = f.invariant.0 t last own in
    all_tried t (omega arith)
    (next_tried t f.f f.invariant.1 a
    (subst (Tells _ _ _ _) c.in_default.is
    (c.try_forest.ensures (waits_on t f.f f.invariant.1 a) (omega (arith, f.invariant.1)) (λ q. c.if-f-own.false (sym q ∙ own)))))
