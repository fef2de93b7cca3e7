-- Edges held by a set w of bodies, both ends of each in w: their rank is below the size of w, and just one below it exactly when they
-- join all of w.
--
-- Only bodies of w other than its smallest can have a smaller body joined to them (`held_lower`). Where all of those have one, each is
-- led by a body of w that has none, and that is the smallest (`held_joined`). Where all of w is joined, the smallest is joined to each.
-- Assumes nothing.
use mathlib.Core.Path.{sym, subst}
use mathlib.Core.Logic.{⊎_elim}
use Prim.Native.Nat.{ℕ, ◌-◌, ◌≤◌, ◌<◌}
use native.Mathlib.Omega.{arith}
use Rattle.rule.specs.Sets.{Is, ◌<?◌, Set, In, ◌with◌, ◌without◌, count}
use Rattle.rule.specs.Legal.{Design}
use Rattle.rule.proofs.Tests.{cases, lt_of, by_eq, with_elim, without_old, without_ne, without_make}
use Rattle.rule.proofs.Counting.{Within, count_mono, count_with, count_without}
use Rattle.theory.specs.Numbers.{smallest}
use Rattle.theory.specs.Joined.{joined}
use Rattle.theory.specs.Rank.{leader, rank_of, rank}
use Rattle.theory.proofs.Numbers.Smallest.{Smallest, smallest_is, count_some}
use Rattle.theory.proofs.Joined.Laws.{joined_sym, joined_trans, joined_both}
use Rattle.theory.proofs.Rank.Leaders.{leader_near, leader_in, leader_leads, lower_make}
use Rattle.theory.proofs.Rank.Laws.{joined_equivalence}

-- of two sets, one in the other and not smaller, each lies in the other
pub same_size_within : (m : ℕ) (s t : Set) → Within m s t → count t m ≤ count s m → Within m t s
same_size_within m s t f q i h k =
    cases (s i) (λ z. z)
    (λ n.
    absurd
    (omega (
      arith,
      count_with s m i h n,
      count_mono (s with i) t m (λ j hj z. ⊎_elim (λ e. subst (λ (x : ℕ). Is (t x)) (sym e) k) (λ o. f j hj o) (with_elim s i j z)),
    )))

-- both ends of each edge of s are in w
abbrev pub Held : Design → Set → Set → Type 0
Held d s w = (e : ℕ) → In d.m e → Is (s e) → Is (w (d.one e)) × Is (w (d.other e))

module _ (d : Design) (s w : Set) (held : Held d s w) (some_body : 1 ≤ count w d.n) where
  least : Smallest w d.n (smallest w d.n)
  least = let b = count_some w d.n some_body in smallest_is w d.n b.0 b.1.0 b.1.1

  held_lower : Within d.n (λ v. leader (joined d s) v <? v) (w without smallest w d.n)
  held_lower v h i =
      let near = joined d s in
      let eqv = joined_equivalence d s in
      let lower : leader near v < v = lt_of _ _ i in
      ⊎_elim (λ q. absurd (omega arith))
      (λ p. without_make w (smallest w d.n) v p.1 (λ q. omega (arith, lower, least.least (leader near v) (leader_in near eqv d.n v h) p.0)))
      (joined_both d s (λ x. Is (w x)) held (leader near v) v (leader_near near eqv v h.low))

  pub rank_held : rank d s ≤ count w d.n - 1
  unfolding rank rank_of
  rank_held =
      omega (
        arith,
        count_mono (λ v. leader (joined d s) v <? v) (w without smallest w d.n) d.n held_lower,
        count_without w d.n (smallest w d.n) least.range least.is_in,
      )

  -- ---- as large as can be

  module _ (full : count w d.n - 1 ≤ rank d s) where
    all_lower : Within d.n (w without smallest w d.n) (λ v. leader (joined d s) v <? v)
    unfolding rank rank_of
    all_lower =
        same_size_within d.n (λ v. leader (joined d s) v <? v) (w without smallest w d.n) held_lower
        (omega (arith, full, count_without w d.n (smallest w d.n) least.range least.is_in))

    -- each body of w is joined to the smallest
    to_smallest : (v : ℕ) → In d.n v → Is (w v) → Is (joined d s (smallest w d.n) v)
    to_smallest v h i =
        let near = joined d s in
        let eqv = joined_equivalence d s in
        let l = leader near v in
        let hl : In d.n l = leader_in near eqv d.n v h in
        let wl : Is (w l) =
        ⊎_elim (λ q. subst (λ (x : ℕ). Is (w x)) (sym q) i) (λ p. p.0) (joined_both d s (λ x. Is (w x)) held l v (leader_near near eqv v h.low)) in
        by_eq l (smallest w d.n) (λ q. subst (λ (x : ℕ). Is (joined d s x v)) q (leader_near near eqv v h.low))
        (λ ne.
        absurd
        (omega (arith, lt_of _ _ (all_lower l hl (without_make w (smallest w d.n) l wl ne)), leader_leads near eqv v h.low)))

    pub held_joined : (x y : ℕ) → In d.n x → In d.n y → Is (w x) → Is (w y) → Is (joined d s x y)
    held_joined x y hx hy wx wy =
        joined_trans d s x (smallest w d.n) y (joined_sym d s (smallest w d.n) x (to_smallest x hx wx)) (to_smallest y hy wy)

  -- ---- where all of w is joined

  pub joined_full : ((x y : ℕ) → In d.n x → In d.n y → Is (w x) → Is (w y) → Is (joined d s x y)) → count w d.n - 1 ≤ rank d s
  unfolding rank rank_of
  joined_full all =
      omega (
        arith,
        count_without w d.n (smallest w d.n) least.range least.is_in,
        count_mono (w without smallest w d.n) (λ v. leader (joined d s) v <? v) d.n
            (λ v h i.
            let wv = without_old w (smallest w d.n) v i in
            let ne = without_ne w (smallest w d.n) v i in
            lower_make (joined d s) (joined_equivalence d s) (smallest w d.n) v least.range.low
            (omega (arith, least.least v h wv)) (all (smallest w d.n) v least.range h least.is_in wv)),
      )
