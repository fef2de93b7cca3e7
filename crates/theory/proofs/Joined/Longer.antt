-- A design and the same with one edge more: a set that does not have the new edge joins the same bodies in both.
-- Assumes nothing.
use mathlib.Core.Path.{◌≡◌, sym, ap₂, ◌∙◌, subst}
use Prim.Native.Nat.{ℕ, suc}
use native.Mathlib.Omega.{arith}
use Rattle.rule.specs.Sets.{Is, Set, In, ◌without◌}
use Rattle.rule.specs.Legal.{Design}
use Rattle.rule.specs.Forests.{Chain}
use Rattle.rule.specs.Forests.Chain.{here, along, back}
use Rattle.rule.specs.declared.Edge.{Edge}
use Rattle.rule.specs.Books.{plus}
use Rattle.rule.proofs.Tests.{same_test, in_one, in_split, put_same, put_other, without_old}
use Rattle.theory.specs.Joined.{joined, spans}
use Rattle.theory.proofs.Joined.Chains.{joined_chain, chain_joined}
use Rattle.theory.proofs.Joined.Acyclic.{Acyclic}

module _ (d : Design) (given : Edge) where
  -- ---- the edges of the longer design

  old_one : (e : ℕ) → In d.m e → (plus d given).one e ≡ d.one e
  unfolding plus
  old_one e h = put_other d.one (suc d.m) given.one e (omega arith)

  old_other : (e : ℕ) → In d.m e → (plus d given).other e ≡ d.other e
  unfolding plus
  old_other e h = put_other d.other (suc d.m) given.other e (omega arith)

  module _ (s : Set) (none : ¬ (Is (s (suc d.m)))) where
    old : (e : ℕ) → In (suc d.m) e → Is (s e) → In d.m e
    old e h i = in_split d.m e h (λ k. k) (λ q. absurd (none (subst (λ (z : ℕ). Is (s z)) q i)))

    shorter : {x y : ℕ} → Chain (plus d given) s x y → Chain d s x y
    unfolding plus
    shorter (here x) = here x
    shorter {y = y} (along e h i c) =
        let k = old e h i in
        subst (λ (z : ℕ). Chain d s z y) (sym (old_one e k)) (along e k i (subst (λ (z : ℕ). Chain d s z y) (old_other e k) (shorter c)))
    shorter {y = y} (back e h i c) =
        let k = old e h i in
        subst (λ (z : ℕ). Chain d s z y) (sym (old_other e k)) (back e k i (subst (λ (z : ℕ). Chain d s z y) (old_one e k) (shorter c)))

    longer : {x y : ℕ} → Chain d s x y → Chain (plus d given) s x y
    unfolding plus
    longer (here x) = here x
    longer {y = y} (along e h i c) =
        subst (λ (z : ℕ). Chain (plus d given) s z y) (old_one e h)
        (along e (in_one d.m e h) i (subst (λ (z : ℕ). Chain (plus d given) s z y) (sym (old_other e h)) (longer c)))
    longer {y = y} (back e h i c) =
        subst (λ (z : ℕ). Chain (plus d given) s z y) (old_other e h)
        (back e (in_one d.m e h) i (subst (λ (z : ℕ). Chain (plus d given) s z y) (sym (old_one e h)) (longer c)))

    pub joined_longer : (x y : ℕ) → joined (plus d given) s x y ≡ joined d s x y
    joined_longer x y =
        same_test _ _ (λ t. chain_joined d s x y (shorter (joined_chain (plus d given) s x y t)))
        (λ t. chain_joined (plus d given) s x y (longer (joined_chain d s x y t)))

    pub spans_longer : (e : ℕ) → In d.m e → spans (plus d given) s e ≡ spans d s e
    unfolding spans
    spans_longer e h =
        ap₂ (λ (x y : ℕ). joined (plus d given) s x y) (old_one e h) (old_other e h) ∙ joined_longer (d.one e) (d.other e)

    pub spans_new : spans (plus d given) s (suc d.m) ≡ joined d s given.one given.other
    unfolding spans plus
    spans_new =
        ap₂ (λ (x y : ℕ). joined (plus d given) s x y) (put_same d.one (suc d.m) given.one) (put_same d.other (suc d.m) given.other) ∙ joined_longer given.one given.other

  pub acyclic_longer : (s : Set) → ¬ (Is (s (suc d.m))) → Acyclic d s → Acyclic (plus d given) s
  unfolding Acyclic plus
  acyclic_longer s none ac e h i p =
      let k = old s none e h i in
      ac e k i (sym (spans_longer (s without e) (λ t. none (without_old s e (suc d.m) t)) e k) ∙ p)
