-- One exchange: x, which stands nowhere, goes into the forest of y, and y then stands nowhere.
--
-- That forest loses y and gains x, on whose path y is, so it stays without a loop and joins what it joined (`swap_same`). The same
-- holds of it without any z that is not on the path of x: so no exchange with z appears or vanishes (`same_without`).
-- Assumes nothing.
use mathlib.Core.Path.{◌≡◌, sym, ap, ap₂, ◌∙◌, subst}
use mathlib.Core.Logic.{◌≢◌}
use mathlib.Core.Bool.{Bool, true, false}
use Prim.Native.Nat.{ℕ, ◌≤◌}
use native.Mathlib.Omega.{arith}
use Rattle.rule.specs.Sets.{Is, ◌=?◌, Set, In, put, ◌with◌, ◌without◌}
use Rattle.rule.specs.Legal.{Design}
use Rattle.rule.specs.Forests.{limit, in_forest, Permitted, Arranged}
use Rattle.rule.proofs.Tests.{cases, same_test, is_false, and_make, and_l, and_r, isnt_make, isnt_not, eq_of, eq_self, by_eq, by_le, put_same, put_other, put_id, put_comm, without_old, without_ne, without_make}
use Rattle.theory.specs.Joined.{joined, spans, on_path}
use Rattle.theory.specs.Exchange.{Arc, exchanged}
use Rattle.theory.proofs.Joined.Laws.{spans_mono, swap_same}
use Rattle.theory.proofs.Joined.Acyclic.{Acyclic, loopless_acyclic, acyclic_loopless, swap_acyclic}
use Rattle.theory.proofs.Legal.Kept.{forest_make, forest_is, forest_put}

-- what on_path says
module _ (d : Design) (s : Set) (x y : ℕ) where
  pub path_in : Is (on_path d s x y) → Is (s y)
  unfolding on_path
  path_in h = and_l _ _ h

  pub path_spans : Is (on_path d s x y) → Is (spans d s x)
  unfolding on_path
  path_spans h = and_l _ _ (and_r (s y) _ h)

  pub path_needs : Is (on_path d s x y) → ¬ (Is (spans d (s without y) x))
  unfolding on_path
  path_needs h = isnt_not _ (and_r (spans d s x) _ (and_r (s y) _ h))

  -- a number that is no edge joins nothing
  pub path_edge : Is (on_path d s x y) → In d.m y
  path_edge h =
      by_le 1 y (λ low. by_le y d.m (λ high. omega arith) (λ past. absurd (idle (λ e k q. omega (arith, k.high)))))
      (λ none. absurd (idle (λ e k q. omega (arith, k.low))))
    where
      idle : ¬ ((e : ℕ) → In d.m e → e ≢ y)
      idle f = path_needs h (spans_mono d s (s without y) (λ e k t. without_make s y e t (f e k)) x (path_spans h))

  pub path_make : Is (s y) → Is (spans d s x) → ¬ (Is (spans d (s without y) x)) → Is (on_path d s x y)
  unfolding on_path
  path_make i p n = and_make _ _ i (and_make _ _ p (isnt_make _ n))

module _ (d : Design) (forest : ℕ → ℕ) (x y : ℕ) (unplaced : forest x ≡ 0) (hx : In d.m x) (arc : Arc d forest x y) where
  different : x ≢ y
  different q = let e : forest y ≡ 0 = subst (λ (z : ℕ). forest z ≡ 0) q unplaced in omega (arith, arc.placed)

  at_x : exchanged forest x y x ≡ forest y
  at_x = put_other (put forest x (forest y)) y 0 x different ∙ put_same forest x (forest y)

  at_y : exchanged forest x y y ≡ 0
  at_y = put_same (put forest x (forest y)) y 0

  pub at_other : (z : ℕ) → z ≢ x → z ≢ y → exchanged forest x y z ≡ forest z
  at_other z nx ny = put_other (put forest x (forest y)) y 0 z ny ∙ put_other forest x (forest y) z nx

  abbrev own : Set
  own = in_forest forest (forest y)

  -- y's forest has x in place of y, and the others are as they were
  pub forest_swapped : in_forest (exchanged forest x y) (forest y) ≡ (in_forest forest (forest y) without y with x)
  forest_swapped =
      forest_put (put forest x (forest y)) y 0 (forest y)
      ∙ ap (λ (s : Set). put s y (0 =? forest y)) (forest_put forest x (forest y) (forest y))
      ∙ ap₂ (λ (s t : Bool). put (put (in_forest forest (forest y)) x s) y t) (eq_self (forest y))
      (is_false (0 =? forest y) (λ t. omega (arith, arc.placed, eq_of _ _ t)))
      ∙ put_comm (in_forest forest (forest y)) x y true false different

  pub forest_kept : (j : ℕ) → 1 ≤ j → j ≢ forest y → in_forest (exchanged forest x y) j ≡ in_forest forest j
  forest_kept j l ne =
      forest_put (put forest x (forest y)) y 0 j
      ∙ ap (λ (s : Set). put s y (0 =? j)) (forest_put forest x (forest y) j ∙ put_id (in_forest forest j) x (forest y =? j) (same_test _ _ (λ t. absurd (omega (arith, unplaced, forest_is forest j x t))) (λ t. absurd (ne (sym (eq_of _ _ t))))))
      ∙ put_id (in_forest forest j) y (0 =? j) (same_test _ _ (λ t. absurd (ne (sym (forest_is forest j y t)))) (λ t. absurd (omega (arith, eq_of _ _ t))))

  spanned : Is (spans d own x)
  spanned = path_spans d own x y arc.is_on_path

  needed : ¬ (Is (spans d (own without y) x))
  needed = path_needs d own x y arc.is_on_path

  -- ---- what each forest joins

  pub same_joined : (j : ℕ) → 1 ≤ j → (u v : ℕ) → joined d (in_forest (exchanged forest x y) j) u v ≡ joined d (in_forest forest j) u v
  same_joined j l u v =
      by_eq j (forest y)
      (λ q.
      subst (λ (i : ℕ). joined d (in_forest (exchanged forest x y) i) u v ≡ joined d (in_forest forest i) u v) (sym q)
      (ap (λ (s : Set). joined d s u v) forest_swapped ∙ swap_same d own x y hx spanned needed u v))
      (λ ne. ap (λ (s : Set). joined d s u v) (forest_kept j l ne))

  -- x does not want the place of z, so without z the ends of x are joined still
  spared : (z : ℕ) → 1 ≤ forest z → forest z ≡ forest y → ¬ (Arc d forest x z) → Is (spans d (own without z) x)
  spared z l q not =
      cases (spans d (own without z) x) (λ h. h)
      (λ n.
      absurd
      (not
      (record {
        placed = l;
        allowed = omega (arith, arc.allowed);
        is_on_path = subst (λ (i : ℕ). Is (on_path d (in_forest forest i) x z)) (sym q) (path_make d own x z (forest_make forest (forest y) z q) spanned n);
      })))

  -- and the same without z
  pub same_without : (z : ℕ) → z ≢ x → z ≢ y → 1 ≤ forest z → ¬ (Arc d forest x z) → (u v : ℕ)
      → joined d (in_forest (exchanged forest x y) (forest z) without z) u v ≡ joined d (in_forest forest (forest z) without z) u v
  same_without z nx ny l not u v =
      by_eq (forest z) (forest y)
      (λ q.
      subst (λ (i : ℕ). joined d (in_forest (exchanged forest x y) i without z) u v ≡ joined d (in_forest forest i without z) u v) (sym q)
      (ap (λ (s : Set). joined d (s without z) u v) forest_swapped
      ∙ ap (λ (s : Set). joined d s u v) (put_comm (own without y) x z true false (λ e. nx (sym e)) ∙ ap (λ (s : Set). s with x) (put_comm own y z false false (λ e. ny (sym e))))
      ∙ swap_same d (own without z) x y hx (spared z l q not)
      (λ h. needed (spans_mono d (own without z without y) (own without y) (λ e _ t. without_make own y e (without_old own z e (without_old (own without z) y e t)) (without_ne (own without z) y e t)) x h)) u v))
      (λ ne. ap (λ (s : Set). joined d (s without z) u v) (forest_kept (forest z) l ne))

  -- ---- the new arrangement

  pub exchanged_arranged : Arranged d forest → Arranged d (exchanged forest x y)
  unfolding Permitted
  exchanged_arranged arr =
      record {
        permitted =
            λ e h.
            by_eq e x (λ q. subst (λ (f : ℕ). exchanged forest x y f ≤ limit d f) (sym q) (omega (arith, at_x, arc.allowed)))
            (λ nx.
            by_eq e y (λ q. subst (λ (f : ℕ). exchanged forest x y f ≤ limit d f) (sym q) (omega (arith, at_y)))
            (λ ny. omega (arith, at_other e nx ny, arr.permitted e h)));
        loopless =
            λ i h.
            acyclic_loopless d (in_forest (exchanged forest x y) i)
            (by_eq i (forest y)
            (λ q.
            subst (λ (j : ℕ). Acyclic d (in_forest (exchanged forest x y) j)) (sym q)
            (subst (Acyclic d) (sym forest_swapped) (swap_acyclic d own x y needed (loopless_acyclic d own (arr.loopless (forest y) (omega arith))))))
            (λ ne. subst (Acyclic d) (sym (forest_kept i h.low ne)) (loopless_acyclic d (in_forest forest i) (arr.loopless i h))));
      }
