-- Laws of `smallest`, `some` and `every`.
-- Assumes nothing.
use mathlib.Core.Path.{◌≡◌, refl, sym, subst}
use mathlib.Core.Logic.{◌⊎◌, inl, inr, ⊎_elim}
use mathlib.Core.Bool.{Bool, cond}
use Prim.Native.Nat.{ℕ, zero, suc, ◌≤◌}
use native.Mathlib.Nat.{le_antisymm}
use native.Mathlib.Omega.{arith}
use Rattle.rule.specs.Sets.{Is, Set, In, count}
use Rattle.rule.proofs.Tests.{cases, never, is_false, and_make, and_l, and_r, or_l, or_r, or_elim, in_one, in_split}
use Rattle.rule.proofs.Counting.{count_none}
use Rattle.theory.specs.Numbers.{or_else, smallest, some, every}

-- i is the smallest of 1 to j that is in s
pub record Smallest (s : Set) (j i : ℕ) : Type 0 where
  pub range : In j i
  pub is_in : Is (s i)
  pub least : (k : ℕ) → In j k → Is (s k) → i ≤ k

-- none of 1 to j is in s
abbrev pub Nowhere : Set → ℕ → Type 0
Nowhere s j = (k : ℕ) → In j k → ¬ (Is (s k))

module _ (s : Set) where
  -- i is 0 and none is in s, or i is the smallest
  abbrev Found : ℕ → ℕ → Type 0
  Found j i = ((i ≡ 0) × Nowhere s j) ⊎ Smallest s j i

  -- the number after j comes in only where there was none
  found_next : (j i : ℕ) → Found j i → Found (suc j) (or_else i (cond (s (suc j)) (suc j) 0))
  found_next j i (inl p) =
      subst (λ (z : ℕ). Found (suc j) (or_else z (cond (s (suc j)) (suc j) 0))) (sym p.0)
      (cases (s (suc j))
      (λ t.
      subst (λ (b : Bool). Found (suc j) (cond b (suc j) 0)) (sym t)
      (inr (record { range = omega arith; is_in = t; least = λ k h i. in_split j k h (λ h'. absurd (p.1 k h' i)) (λ q. omega arith) })))
      (λ n.
      subst (λ (b : Bool). Found (suc j) (cond b (suc j) 0)) (sym (is_false (s (suc j)) n))
      (inl (refl, λ k h i. in_split j k h (λ h'. p.1 k h' i) (λ q. n (subst (λ (z : ℕ). Is (s z)) q i))))))
  found_next j zero (inr f) = absurd (omega (arith, f.range.low))
  found_next j (suc i) (inr f) =
      inr
      (record {
        range = in_one j (suc i) f.range;
        is_in = f.is_in;
        least = λ k h t. in_split j k h (λ h'. f.least k h' t) (λ q. omega (arith, f.range.high));
      })

  pub smallest_cases : (j : ℕ) → ((smallest s j ≡ 0) × Nowhere s j) ⊎ Smallest s j (smallest s j)
  unfolding smallest
  smallest_cases zero = inl (refl, λ k h. absurd (omega arith))
  smallest_cases (suc j) = found_next j (smallest s j) (smallest_cases j)

  -- where one of 1 to j is in s, `smallest` is the smallest
  pub smallest_is : (j k : ℕ) → In j k → Is (s k) → Smallest s j (smallest s j)
  smallest_is j k h i = ⊎_elim (λ p. absurd (p.1 k h i)) (λ f. f) (smallest_cases j)

  pub smallest_determined : (j i k : ℕ) → Smallest s j i → Smallest s j k → i ≡ k
  smallest_determined j i k p q = le_antisymm (p.least k q.range q.is_in) (q.least i p.range p.is_in)

  -- ---- some

  pub some_make : (j k : ℕ) → In j k → Is (s k) → Is (some s j)
  unfolding some
  some_make zero k h i = absurd (omega arith)
  some_make (suc j) k h i =
      in_split j k h (λ h'. or_l _ _ (some_make j k h' i)) (λ q. or_r (some s j) _ (subst (λ (z : ℕ). Is (s z)) q i))

  pub some_elim : (j : ℕ) → Is (some s j) → (k : ℕ) × (In j k × Is (s k))
  unfolding some
  some_elim zero h = never h
  some_elim (suc j) h =
      ⊎_elim (λ p. let w = some_elim j p in (w.0, (in_one j w.0 w.1.0, w.1.1))) (λ p. (suc j, (omega arith, p))) (or_elim _ _ h)

  -- a set that is not empty holds one of 1 to j
  pub count_some : (j : ℕ) → 1 ≤ count s j → (k : ℕ) × (In j k × Is (s k))
  count_some j l =
      ⊎_elim (λ p. absurd (omega (arith, count_none s j p.1))) (λ f. (smallest s j, (f.range, f.is_in))) (smallest_cases j)

  -- ---- every

  pub every_make : (j : ℕ) → ((k : ℕ) → In j k → Is (s k)) → Is (every s j)
  unfolding every
  every_make zero f = refl
  every_make (suc j) f = and_make _ _ (every_make j (λ k h. f k (in_one j k h))) (f (suc j) (omega arith))

  pub every_at : (j k : ℕ) → In j k → Is (every s j) → Is (s k)
  unfolding every
  every_at zero k h i = absurd (omega arith)
  every_at (suc j) k h i =
      in_split j k h (λ h'. every_at j k h' (and_l _ _ i)) (λ q. subst (λ (z : ℕ). Is (s z)) (sym q) (and_r (every s j) _ i))

  -- not each of 1 to j is in s: one is not
  pub not_every : (j : ℕ) → ¬ (Is (every s j)) → (k : ℕ) × (In j k × ¬ (Is (s k)))
  unfolding every
  not_every zero n = absurd (n refl)
  not_every (suc j) n =
      cases (every s j) (λ h. (suc j, (omega arith, λ t. n (and_make _ _ h t))))
      (λ h. let w = not_every j h in (w.0, (in_one j w.0 w.1.0, w.1.1)))
