-- The test `joined` says just what a chain of edges says: joined by the edges 1 to j of s means a chain of edges of s below
-- j + 1. By induction on j, with the one-edge lemma `chain_split`.
-- Assumes nothing.
use mathlib.Core.Path.{sym, subst}
use mathlib.Core.Logic.{inl, inr, ⊎_elim, ◌≢◌}
use Prim.Native.Nat.{ℕ, zero, suc, ◌≤◌}
use native.Mathlib.Omega.{arith}
use Rattle.rule.specs.Sets.{Is, Set, In, ◌with◌, below}
use Rattle.rule.specs.Legal.{Design}
use Rattle.rule.specs.Forests.{Chain}
use Rattle.rule.specs.Forests.Chain.{here, along, back}
use Rattle.rule.proofs.Tests.{cases, and_make, and_l, and_r, or_l, or_r, or_elim, eq_of, eq_self, by_eq, with_self, with_old, below_in, below_lt, below_make}
use Rattle.rule.proofs.Counting.{Within}
use Rattle.rule.proofs.Loops.{chain_trans, chain_mono, chain_split, Over}
use Rattle.theory.specs.Joined.{linked, joined_up_to, joined}

module _ (d : Design) (s : Set) where
  -- the edges up to j and one more: j + 1 where it is in s
  one_more : (j : ℕ) → Within d.m (below s (suc (suc j))) (below s (suc j) with suc j)
  one_more j e h i =
      by_eq e (suc j) (λ q. subst (λ (f : ℕ). Is ((below s (suc j) with suc j) f)) (sym q) (with_self (below s (suc j)) (suc j)))
      (λ ne.
      with_old (below s (suc j)) (suc j) e (below_make s (suc j) e (below_in s (suc (suc j)) e i) (omega (arith, below_lt s (suc (suc j)) e i))))

  -- and nothing more where it is not
  none_more : (j : ℕ) → ¬ (Is (s (suc j))) → Within d.m (below s (suc (suc j))) (below s (suc j))
  none_more j not e h i =
      let in_s : Is (s e) = below_in s (suc (suc j)) e i in
      let ne : e ≢ suc j = λ q. not (subst (λ (f : ℕ). Is (s f)) q in_s) in
      below_make s (suc j) e in_s (omega (arith, below_lt s (suc (suc j)) e i))

  grow : (j : ℕ) → Within d.m (below s (suc j)) (below s (suc (suc j)))
  grow j e h i = below_make s (suc (suc j)) e (below_in s (suc j) e i) (omega (arith, below_lt s (suc j) e i))

  -- x to y by way of the edge j + 1, which is walked one way or the other
  by_way : (j : ℕ) (x y : ℕ) → In d.m (suc j) → Is (s (suc j)) → Over d (below s (suc j)) (suc j) x y → Chain d (below s (suc (suc j))) x y
  by_way j x y h i o =
      let e : Is (below s (suc (suc j)) (suc j)) = below_make s (suc (suc j)) (suc j) i (omega arith) in
      ⊎_elim (λ w. chain_trans d (chain_mono d (grow j) w.0) (along (suc j) h e (chain_mono d (grow j) w.1)))
      (λ w. chain_trans d (chain_mono d (grow j) w.0) (back (suc j) h e (chain_mono d (grow j) w.1))) o

  up_chain : (j : ℕ) → j ≤ d.m → (x y : ℕ) → Is (joined_up_to d s j x y) → Chain d (below s (suc j)) x y
  unfolding joined_up_to linked
  up_chain zero l x y h = subst (λ (z : ℕ). Chain d (below s 1) x z) (eq_of x y h) (here x)
  up_chain (suc j) l x y h =
      let ih : (x y : ℕ) → Is (joined_up_to d s j x y) → Chain d (below s (suc j)) x y = up_chain j (omega arith) in
      ⊎_elim (λ p. chain_mono d (grow j) (ih x y p))
      (λ p.
      by_way j x y (omega arith) (and_l _ _ p)
      (⊎_elim (λ q. inl (ih x _ (and_l _ _ q), ih _ y (and_r (joined_up_to d s j x (d.one (suc j))) _ q)))
      (λ q. inr (ih x _ (and_l _ _ q), ih _ y (and_r (joined_up_to d s j x (d.other (suc j))) _ q)))
      (or_elim _ _ (and_r (s (suc j)) _ p))))
      (or_elim _ _ h)

  chain_up : (j : ℕ) → j ≤ d.m → (x y : ℕ) → Chain d (below s (suc j)) x y → Is (joined_up_to d s j x y)
  unfolding joined_up_to linked
  chain_up zero l x y (here z) = eq_self z
  chain_up zero l x y (along e h i p) = absurd (omega (arith, below_lt s 1 e i))
  chain_up zero l x y (back e h i p) = absurd (omega (arith, below_lt s 1 e i))
  chain_up (suc j) l x y c =
      let ih : (x y : ℕ) → Chain d (below s (suc j)) x y → Is (joined_up_to d s j x y) = chain_up j (omega arith) in
      cases (s (suc j))
      (λ i.
      ⊎_elim (λ p. or_l _ _ (ih x y p))
      (λ o.
      or_r (joined_up_to d s j x y) _
      (and_make _ _ i
      (⊎_elim (λ w. or_l _ _ (and_make _ _ (ih _ _ w.0) (ih _ _ w.1))) (λ w. or_r _ _ (and_make _ _ (ih _ _ w.0) (ih _ _ w.1))) o)))
      (chain_split d (below s (suc j)) (suc j) (chain_mono d (one_more j) c)))
      (λ n. or_l _ _ (ih x y (chain_mono d (none_more j n) c)))

  pub joined_chain : (x y : ℕ) → Is (joined d s x y) → Chain d s x y
  unfolding joined
  joined_chain x y h = chain_mono d (λ e _ i. below_in s (suc d.m) e i) (up_chain d.m (omega arith) x y h)

  pub chain_joined : (x y : ℕ) → Chain d s x y → Is (joined d s x y)
  unfolding joined
  chain_joined x y c = chain_up d.m (omega arith) x y (chain_mono d (λ e h i. below_make s (suc d.m) e i (omega arith)) c)
