-- An edge between two bodies: z is between p and q when s joins them, and not without z.
--
-- Then z is an edge of s, and p and q hang at its two ends (`crossing`). So of two pairs of bodies that z is between, all stand in one
-- tree (`not_both`). Without an edge z of a loop-free set a tree falls into two parts, not three (`two_parts`).
-- Assumes nothing.
use mathlib.Core.Path.{◌≡◌, ap, subst}
use mathlib.Core.Logic.{⊎_elim}
use mathlib.Core.Bool.{Bool}
use Prim.Native.Nat.{ℕ}
use Rattle.rule.specs.Sets.{Is, ◌and◌, isnt, ◌≤?◌, Set, In, ◌with◌, ◌without◌}
use Rattle.rule.specs.Legal.{Design}
use Rattle.rule.proofs.Tests.{cases, same_test, and_make, and_l, and_r, isnt_make, isnt_not, not_isnt, le_of, le_is, without_old, without_make}
use Rattle.theory.specs.Joined.{joined, spans}
use Rattle.theory.proofs.Joined.Laws.{joined_sym, joined_trans, joined_mono, joined_split, spans_edge, ByWay, back_in}
use Rattle.theory.proofs.Joined.Acyclic.{Acyclic}

-- p and q are not joined without z
unfoldable pub between : Design → Set → (z p q : ℕ) → Bool
between d s z p q = isnt (joined d (s without z) p q)

module _ (d : Design) (s : Set) (z : ℕ) where
  pub between_make : (p q : ℕ) → ¬ (Is (joined d (s without z) p q)) → Is (between d s z p q)
  unfolding between
  between_make p q n = isnt_make _ n

  pub between_not : (p q : ℕ) → Is (between d s z p q) → ¬ (Is (joined d (s without z) p q))
  unfolding between
  between_not p q h = isnt_not _ h

  pub not_between : (p q : ℕ) → ¬ (Is (between d s z p q)) → Is (joined d (s without z) p q)
  unfolding between
  not_between p q n = not_isnt _ n

  pub between_sym : (p q : ℕ) → between d s z p q ≡ between d s z q p
  unfolding between
  between_sym p q = ap isnt (same_test _ _ (joined_sym d (s without z) p q) (joined_sym d (s without z) q p))

  -- what the other edges join, s joins
  pub up : (p q : ℕ) → Is (joined d (s without z) p q) → Is (joined d s p q)
  up = joined_mono d (s without z) s (λ e _ k. without_old s z e k)

  -- ---- an edge that is between bodies

  module _ (p q : ℕ) (over : Is (joined d s p q)) (not : ¬ (Is (joined d (s without z) p q))) where
    pub crossing : ByWay d (s without z) z p q
    crossing = ⊎_elim (λ h. absurd (not h)) (λ o. o) (joined_split d (s without z) z p q (joined_mono d s (s without z with z) (back_in d s z) p q over))

    pub crossing_edge : In d.m z × Is (s z)
    crossing_edge =
        cases ((1 ≤? z and z ≤? d.m) and s z)
        (λ t.
        let r = and_l _ _ t in
        (record { low = le_of 1 z (and_l _ _ r); high = le_of z d.m (and_r (1 ≤? z) _ r) }, and_r (1 ≤? z and z ≤? d.m) _ t))
        (λ n.
        absurd
        (not
        (joined_mono d s (s without z)
        (λ e h i.
        without_make s z e i
        (λ k.
        n
        (subst (λ (j : ℕ). Is ((1 ≤? j and j ≤? d.m) and s j)) k
        (and_make _ _ (and_make _ _ (le_is 1 e h.low) (le_is e d.m h.high)) i))))
        p q over)))

    -- q stands in the tree of z
    by_edge : Is (joined d s q (d.one z))
    unfolding spans
    by_edge =
        ⊎_elim
        (λ w.
        joined_trans d s q (d.other z) (d.one z) (joined_sym d s (d.other z) q (up (d.other z) q w.1))
        (joined_sym d s (d.one z) (d.other z) (spans_edge d s z crossing_edge.0 crossing_edge.1)))
        (λ w. joined_sym d s (d.one z) q (up (d.one z) q w.1)) crossing

  pub not_both : (p q u v : ℕ) → Is (joined d s p q) → ¬ (Is (joined d (s without z) p q)) → Is (joined d s u v)
      → ¬ (Is (joined d (s without z) u v)) → Is (joined d s q v)
  not_both p q u v pq npq uv nuv =
      joined_trans d s q (d.one z) v (by_edge p q pq npq) (joined_sym d s v (d.one z) (by_edge u v uv nuv))

  -- ---- two parts

  pub two_parts : Acyclic d s → (p q r : ℕ) → Is (joined d s p q) → ¬ (Is (joined d (s without z) p q)) → Is (joined d s q r)
      → ¬ (Is (joined d (s without z) q r)) → Is (joined d (s without z) p r)
  unfolding Acyclic spans
  two_parts ac p q r pq npq qr nqr =
      let edge = crossing_edge p q pq npq in
      let none : ¬ (Is (joined d (s without z) (d.one z) (d.other z))) = ac z edge.0 edge.1 in
      let tr = joined_trans d (s without z) in
      let sy = joined_sym d (s without z) in
      ⊎_elim
      (λ w.
      ⊎_elim (λ k. absurd (none (sy (d.other z) (d.one z) (tr (d.other z) q (d.one z) w.1 k.0))))
      (λ k. tr p (d.one z) r w.0 k.1) (crossing q r qr nqr))
      (λ w.
      ⊎_elim (λ k. tr p (d.other z) r w.0 k.1) (λ k. absurd (none (tr (d.one z) q (d.other z) w.1 k.0))) (crossing q r qr nqr))
      (crossing p q pq npq)
