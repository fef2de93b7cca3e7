-- Leaders of an equivalence on numbers, and how many of 1 to n are not their own leader when two classes are linked: one more.
--
-- Of the two leaders the larger loses its place, and nobody else does (`rank_linked`).
-- Assumes nothing.
use mathlib.Core.Path.{◌≡◌, sym, ◌∙◌, subst}
use mathlib.Core.Logic.{◌⊎◌, inl, inr, ⊎_elim}
use mathlib.Core.Bool.{Bool}
use Prim.Native.Nat.{ℕ, suc, ◌≤◌, ◌<◌}
use native.Mathlib.Nat.{le_antisymm}
use native.Mathlib.Omega.{arith}
use Rattle.rule.specs.Sets.{Is, ◌<?◌, In, ◌with◌}
use Rattle.rule.proofs.Tests.{same_test, lt_of, lt_is, by_eq, by_le, with_self, with_old, with_elim}
use Rattle.rule.proofs.Counting.{count_mono, count_eq, count_with}
use Rattle.theory.specs.Rank.{leader, rank_of}
use Rattle.theory.proofs.Numbers.Smallest.{Smallest, smallest_is}

pub record Equivalence (near : ℕ → ℕ → Bool) : Type 0 where
  pub rfl : (x : ℕ) → Is (near x x)
  pub symm : (x y : ℕ) → Is (near x y) → Is (near y x)
  pub trans : (x y z : ℕ) → Is (near x y) → Is (near y z) → Is (near x z)

module _ (near : ℕ → ℕ → Bool) (eqv : Equivalence near) where
  leads : (v : ℕ) → 1 ≤ v → Smallest (λ u. near u v) v (leader near v)
  unfolding leader
  leads v l = smallest_is (λ u. near u v) v v (omega arith) (eqv.rfl v)

  pub leader_near : (v : ℕ) → 1 ≤ v → Is (near (leader near v) v)
  leader_near v l = (leads v l).is_in

  pub leader_low : (v : ℕ) → 1 ≤ v → 1 ≤ leader near v
  leader_low v l = (leads v l).range.low

  pub leader_high : (v : ℕ) → 1 ≤ v → leader near v ≤ v
  leader_high v l = (leads v l).range.high

  pub leader_in : (n v : ℕ) → In n v → In n (leader near v)
  leader_in n v h = omega (arith, leader_low v h.low, leader_high v h.low)

  pub leader_least : (u v : ℕ) → 1 ≤ u → 1 ≤ v → Is (near u v) → leader near v ≤ u
  leader_least u v lu lv h = by_le u v (λ l. (leads v lv).least u (omega arith) h) (λ l. omega (arith, leader_high v lv))

  -- bodies that are near have one leader
  pub leader_same : (u v : ℕ) → 1 ≤ u → 1 ≤ v → Is (near u v) → leader near u ≡ leader near v
  leader_same u v lu lv h =
      le_antisymm
      (leader_least (leader near v) u (leader_low v lv) lu (eqv.trans _ _ _ (leader_near v lv) (eqv.symm u v h)))
      (leader_least (leader near u) v (leader_low u lu) lv (eqv.trans _ _ _ (leader_near u lu) h))

  -- and bodies with one leader are near
  pub same_leader : (u v : ℕ) → 1 ≤ u → 1 ≤ v → leader near u ≡ leader near v → Is (near u v)
  same_leader u v lu lv q =
      eqv.trans _ _ _ (eqv.symm _ _ (leader_near u lu)) (subst (λ (z : ℕ). Is (near z v)) (sym q) (leader_near v lv))

  pub leader_leads : (v : ℕ) → 1 ≤ v → leader near (leader near v) ≡ leader near v
  leader_leads v l = leader_same (leader near v) v (leader_low v l) l (leader_near v l)

  -- a body that is not its own leader has a smaller body near it, and the other way
  pub lower_make : (u v : ℕ) → 1 ≤ u → u < v → Is (near u v) → Is (leader near v <? v)
  lower_make u v l lt h = lt_is _ _ (omega (arith, leader_least u v l (omega arith) h))

-- ---- two relations

module _ (near far : ℕ → ℕ → Bool) (eqn : Equivalence near) (eqf : Equivalence far) where
  pub rank_mono : (n : ℕ) → ((x y : ℕ) → Is (near x y) → Is (far x y)) → rank_of near n ≤ rank_of far n
  unfolding rank_of
  rank_mono n f =
      count_mono _ _ n
      (λ v h i. lower_make far eqf (leader near v) v (leader_low near eqn v h.low) (lt_of _ _ i) (f _ _ (leader_near near eqn v h.low)))

  -- far is near with u and v linked
  pub record Linked (n u v : ℕ) : Type 0 where
    pub one_body : In n u
    pub other_body : In n v
    pub apart : ¬ (Is (near u v))
    pub grows : (x y : ℕ) → Is (near x y) → Is (far x y)
    pub links : Is (far u v)
    pub only : (x y : ℕ) → Is (far x y) → Is (near x y) ⊎ ((Is (near x u) × Is (near v y)) ⊎ (Is (near x v) × Is (near u y)))

  -- the leader of v loses its place where it is the larger
  module _ (n u v : ℕ) (k : Linked n u v) (less : leader near u < leader near v) where
    lu : 1 ≤ u
    lu = k.one_body.low

    lv : 1 ≤ v
    lv = k.other_body.low

    down : (w : ℕ) → In n w → Is (leader far w <? w) → Is (((λ w. leader near w <? w) with leader near v) w)
    down w h i =
        let x = leader far w in
        let x_low : 1 ≤ x = leader_low far eqf w h.low in
        let x_less : x < w = lt_of _ _ i in
        let old : leader near w < w → Is (((λ w. leader near w <? w) with leader near v) w) = λ l. with_old (λ w. leader near w <? w) (leader near v) w (lt_is _ _ l) in
        ⊎_elim (λ p. old (omega (arith, leader_least near eqn x w x_low h.low p)))
        (⊎_elim
        (λ p.
        let q : leader near v ≡ leader near w = leader_same near eqn v w lv h.low p.1 in
        by_eq w (leader near v) (λ r. subst (λ (z : ℕ). Is (((λ w. leader near w <? w) with leader near v) z)) (sym r) (with_self (λ w. leader near w <? w) (leader near v)))
        (λ ne. old (omega (arith, leader_high near eqn w h.low))))
        (λ p.
        let q : leader near u ≡ leader near w = leader_same near eqn u w lu h.low p.1 in
        old (omega (arith, leader_least near eqn x v x_low lv p.0))))
        (k.only x w (leader_near far eqf w h.low))

    up : (w : ℕ) → In n w → Is (((λ w. leader near w <? w) with leader near v) w) → Is (leader far w <? w)
    up w h i =
        ⊎_elim
        (λ q.
        lower_make far eqf (leader near u) w (leader_low near eqn u lu) (omega arith)
        (eqf.trans _ _ _ (k.grows _ _ (leader_near near eqn u lu))
        (eqf.trans _ _ _ k.links (subst (λ (z : ℕ). Is (far v z)) (sym q) (k.grows _ _ (eqn.symm _ _ (leader_near near eqn v lv)))))))
        (λ o.
        lower_make far eqf (leader near w) w (leader_low near eqn w h.low) (lt_of _ _ o) (k.grows _ _ (leader_near near eqn w h.low)))
        (with_elim (λ w. leader near w <? w) (leader near v) w i)

    rank_less : rank_of far n ≡ suc (rank_of near n)
    unfolding rank_of
    rank_less =
        count_eq _ ((λ w. leader near w <? w) with leader near v) n (λ w h. same_test _ _ (down w h) (up w h))
        ∙ count_with (λ w. leader near w <? w) n (leader near v) (leader_in near eqn n v k.other_body)
        (λ t. omega (arith, lt_of _ _ t, leader_leads near eqn v lv))

-- u and v are linked either way round
pub linked_turned : (near far : ℕ → ℕ → Bool) (eqn : Equivalence near) (eqf : Equivalence far) (n u v : ℕ) → Linked near far eqn eqf n u v
    → Linked near far eqn eqf n v u
linked_turned near far eqn eqf n u v k =
    record {
      one_body = k.other_body;
      other_body = k.one_body;
      apart = λ p. k.apart (eqn.symm v u p);
      grows = k.grows;
      links = eqf.symm u v k.links;
      only = λ x y p. ⊎_elim (λ q. inl q) (⊎_elim (λ q. inr (inr q)) (λ q. inr (inl q))) (k.only x y p);
    }

-- one more is not its own leader once two classes are linked
pub rank_linked : (near far : ℕ → ℕ → Bool) (eqn : Equivalence near) (eqf : Equivalence far) (n u v : ℕ) → Linked near far eqn eqf n u v
    → rank_of far n ≡ suc (rank_of near n)
rank_linked near far eqn eqf n u v k =
    by_le (leader near u) (leader near v)
    (λ l.
    by_eq (leader near u) (leader near v) (λ q. absurd (k.apart (same_leader near eqn u v k.one_body.low k.other_body.low q)))
    (λ ne. rank_less near far eqn eqf n u v k (omega arith)))
    (λ l. rank_less near far eqn eqf n v u (linked_turned near far eqn eqf n u v k) l)
