-- An arrangement of a design is one of the same design with an edge more that stands nowhere: same kept edges, and a set of them covers
-- what it covered before.
-- Assumes nothing.
use mathlib.Core.Path.{◌≡◌, sym, ap, ◌∙◌, subst, fun_ext}
use mathlib.Core.Bool.{Bool, cond}
use Prim.Native.Nat.{ℕ, suc, ◌≤◌}
use native.Mathlib.Omega.{arith}
use Rattle.rule.specs.Sets.{Is, Set, In, put, ◌without◌}
use Rattle.rule.specs.Legal.{Design, k}
use Rattle.rule.specs.Forests.{limit, in_forest, kept_in, Permitted, Arranged}
use Rattle.rule.specs.declared.Edge.{Edge}
use Rattle.rule.specs.Books.{plus}
use Rattle.rule.proofs.Tests.{same_test, by_eq, in_split, put_same, put_other, without_old}
use Rattle.rule.proofs.Counting.{Within}
use Rattle.theory.specs.Joined.{joined, spans}
use Rattle.theory.specs.Closed.{standing, covers}
use Rattle.theory.proofs.Joined.Laws.{joined_agree}
use Rattle.theory.proofs.Joined.Acyclic.{loopless_acyclic, acyclic_loopless, without_mono, acyclic_sub}
use Rattle.theory.proofs.Joined.Longer.{joined_longer, spans_longer, spans_new, acyclic_longer}
use Rattle.theory.proofs.Legal.Kept.{forest_make, forest_is, kept_make, kept_has, kept_most}
use Rattle.theory.proofs.Closed.Laws.{standing_make, standing_in, standing_forest, covers_make, covers_at}
use Rattle.theory.proofs.Laws.Plus.{plus_red}

-- the new edge stands nowhere
abbrev pub unplaced_new : Design → (ℕ → ℕ) → ℕ → ℕ
unplaced_new d forest = put forest (suc d.m) 0

module _ (d : Design) (given : Edge) (forest : ℕ → ℕ) where
  abbrev wide : Design
  wide = plus d given

  abbrev phi : ℕ → ℕ
  phi = unplaced_new d forest

  pub phi_old : (e : ℕ) → In d.m e → unplaced_new d forest e ≡ forest e
  phi_old e h = put_other forest (suc d.m) 0 e (omega arith)

  pub phi_new : unplaced_new d forest (suc d.m) ≡ 0
  phi_new = put_same forest (suc d.m) 0

  pub limit_old : (e : ℕ) → In d.m e → limit (plus d given) e ≡ limit d e
  unfolding limit plus
  limit_old e h = ap (λ (t : Bool). cond t d.a (k d)) (plus_red d given e (omega arith))

  -- the new edge is in no forest
  none_new : (i : ℕ) → 1 ≤ i → ¬ (Is (in_forest phi i (suc d.m)))
  none_new i l t = omega (arith, phi_new, forest_is phi i (suc d.m) t)

  same_forest : (i : ℕ) → Within d.m (in_forest phi i) (in_forest forest i)
  same_forest i e h t = forest_make forest i e (sym (phi_old e h) ∙ forest_is phi i e t)

  forest_same : (i : ℕ) → Within d.m (in_forest forest i) (in_forest phi i)
  forest_same i e h t = forest_make phi i e (phi_old e h ∙ forest_is forest i e t)

  -- each forest joins what it joined, also without an edge of it
  pub joined_forest : (i : ℕ) → 1 ≤ i → (x y : ℕ) → joined (plus d given) (in_forest (unplaced_new d forest) i) x y ≡ joined d (in_forest forest i) x y
  joined_forest i l x y =
      joined_longer d given (in_forest phi i) (none_new i l) x y
      ∙ joined_agree d (in_forest phi i) (in_forest forest i) (same_forest i) (forest_same i) x y

  pub joined_forest_without : (i : ℕ) → 1 ≤ i → (e x y : ℕ)
      → joined (plus d given) (in_forest (unplaced_new d forest) i without e) x y ≡ joined d (in_forest forest i without e) x y
  joined_forest_without i l e x y =
      joined_longer d given (in_forest phi i without e) (λ t. none_new i l (without_old (in_forest phi i) e (suc d.m) t)) x y
      ∙ joined_agree d (in_forest phi i without e) (in_forest forest i without e)
      (without_mono d (in_forest phi i) (in_forest forest i) e (same_forest i)) (without_mono d (in_forest forest i) (in_forest phi i) e (forest_same i)) x y

  pub arranged_longer : Arranged d forest → Arranged (plus d given) (unplaced_new d forest)
  unfolding Permitted plus
  arranged_longer arr =
      record {
        permitted =
            λ e h.
            in_split d.m e h (λ r. omega (arith, phi_old e r, limit_old e r, arr.permitted e r))
            (λ q. subst (λ (z : ℕ). phi z ≤ limit wide z) (sym q) (omega (arith, phi_new)));
        loopless =
            λ i h.
            acyclic_loopless wide (in_forest phi i)
            (acyclic_longer d given (in_forest phi i) (none_new i h.low)
            (acyclic_sub d (in_forest phi i) (in_forest forest i) (same_forest i)
            (loopless_acyclic d (in_forest forest i) (arr.loopless i h))));
      }

  pub kept_longer : kept_in (plus d given) (unplaced_new d forest) ≡ kept_in d forest
  unfolding plus
  kept_longer =
      fun_ext
      (λ e.
      same_test _ _
      (λ t.
      let has = kept_has wide phi e t in
      by_eq e (suc d.m) (λ q. absurd (omega (arith, has, phi_new, ap phi q)))
      (λ ne.
      let o = put_other forest (suc d.m) 0 e ne in
      kept_make d forest e (omega (arith, kept_most wide phi e t)) (omega arith)))
      (λ t.
      let most = kept_most d forest e t in
      let o = put_other forest (suc d.m) 0 e (omega arith) in
      kept_make wide phi e (omega arith) (omega (arith, kept_has d forest e t))))

  -- ---- covering by a set of old edges

  module _ (c : Set) (only : (e : ℕ) → Is (c e) → e ≤ d.m) where
    no_new : (i : ℕ) → ¬ (Is (standing phi c i (suc d.m)))
    no_new i t = omega (arith, only (suc d.m) (standing_in phi c i (suc d.m) t))

    standing_old : (i x y : ℕ) → joined d (standing phi c i) x y ≡ joined d (standing forest c i) x y
    standing_old i =
        joined_agree d (standing phi c i) (standing forest c i)
        (λ e h t. standing_make forest c i e (standing_in phi c i e t) (forest_make forest i e (sym (phi_old e h) ∙ forest_is phi i e (standing_forest phi c i e t))))
        (λ e h t. standing_make phi c i e (standing_in forest c i e t) (forest_make phi i e (phi_old e h ∙ forest_is forest i e (standing_forest forest c i e t))))

    pub spans_old : (i e : ℕ) → In d.m e → spans (plus d given) (standing (unplaced_new d forest) c i) e ≡ spans d (standing forest c i) e
    unfolding spans
    spans_old i e h = spans_longer d given (standing phi c i) (no_new i) e h ∙ standing_old i (d.one e) (d.other e)

    pub spans_last : (i : ℕ) → spans (plus d given) (standing (unplaced_new d forest) c i) (suc d.m) ≡ joined d (standing forest c i) given.one given.other
    spans_last i = spans_new d given (standing phi c i) (no_new i) ∙ standing_old i given.one given.other

    pub covers_wide : (e : ℕ) → In d.m e → Is (covers d forest (limit d) c e) → Is (covers (plus d given) (unplaced_new d forest) (limit (plus d given)) c e)
    covers_wide e h t =
        covers_make wide phi (limit wide) c e (λ i r. spans_old i e h ∙ covers_at d forest (limit d) c e i t (subst (λ (z : ℕ). In z i) (limit_old e h) r))

    pub covers_narrow : (e : ℕ) → In d.m e → Is (covers (plus d given) (unplaced_new d forest) (limit (plus d given)) c e) → Is (covers d forest (limit d) c e)
    covers_narrow e h t =
        covers_make d forest (limit d) c e
        (λ i r. sym (spans_old i e h) ∙ covers_at wide phi (limit wide) c e i t (subst (λ (z : ℕ). In z i) (sym (limit_old e h)) r))
