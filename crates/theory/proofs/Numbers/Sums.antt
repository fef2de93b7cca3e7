-- Laws of `sum`, and a set counted by the values of a function (`fibre`).
-- Assumes nothing.
use mathlib.Core.Path.{◌≡◌, refl, sym, ap, ap₂, ◌∙◌}
use Prim.Native.Nat.{ℕ, zero, suc, ◌+◌, ◌*◌, ◌≤◌}
use native.Mathlib.Nat.{mul-zero, zero-mul, suc-mul, mul-add}
use native.Mathlib.Omega.{arith}
use Rattle.rule.specs.Sets.{Is, ◌and◌, ◌=?◌, Set, In, one_if, count}
use Rattle.rule.proofs.Tests.{cases, same_test, is_false, and_make, and_l, and_r, eq_of, eq_is, in_one, in_last, by_eq}
use Rattle.rule.proofs.Counting.{count_none}
use Rattle.theory.specs.Numbers.{sum}

pub sum_eq : (f g : ℕ → ℕ) (n : ℕ) → ((i : ℕ) → In n i → f i ≡ g i) → sum f n ≡ sum g n
unfolding sum
sum_eq f g zero e = refl
sum_eq f g (suc n) e = ap₂ (λ (x y : ℕ). x + y) (sum_eq f g n (λ i h. e i (in_one n i h))) (e (suc n) (in_last n))

pub sum_mono : (f g : ℕ → ℕ) (n : ℕ) → ((i : ℕ) → In n i → f i ≤ g i) → sum f n ≤ sum g n
unfolding sum
sum_mono f g zero e = omega arith
sum_mono f g (suc n) e = omega (arith, sum_mono f g n (λ i h. e i (in_one n i h)), e (suc n) (in_last n))

pub sum_add : (f g : ℕ → ℕ) (n : ℕ) → sum (λ i. f i + g i) n ≡ sum f n + sum g n
unfolding sum
sum_add f g zero = refl
sum_add f g (suc n) = omega (arith, sum_add f g n)

pub sum_mul : (c : ℕ) (f : ℕ → ℕ) (n : ℕ) → sum (λ i. c * f i) n ≡ c * sum f n
unfolding sum
sum_mul c f zero = sym (mul-zero c)
sum_mul c f (suc n) = ap (λ (x : ℕ). x + c * f (suc n)) (sum_mul c f n) ∙ sym (mul-add c (sum f n) (f (suc n)))

pub sum_const : (c n : ℕ) → sum (λ _. c) n ≡ n * c
unfolding sum
sum_const c zero = sym (zero-mul c)
sum_const c (suc n) = ap (λ (x : ℕ). x + c) (sum_const c n) ∙ sym (suc-mul n c)

-- a count is a sum
pub sum_count : (s : Set) (n : ℕ) → sum (λ i. one_if (s i)) n ≡ count s n
unfolding sum count
sum_count s zero = refl
sum_count s (suc n) = ap (λ (x : ℕ). x + one_if (s (suc n))) (sum_count s n)

-- exactly one of 1 to n is v
sum_one : (n v : ℕ) → In n v → sum (λ i. one_if (v =? i)) n ≡ 1
unfolding sum
sum_one zero v h = absurd (omega arith)
sum_one (suc n) v h =
    by_eq v (suc n)
    (λ q. omega (arith, ap one_if (eq_is v (suc n) q), none q))
    (λ ne. omega (arith, sum_one n v (omega arith), ap one_if (is_false (v =? suc n) (λ t. ne (eq_of v (suc n) t)))))
  where
    none : v ≡ suc n → sum (λ i. one_if (v =? i)) n ≡ 0
    none q = sum_count (λ i. v =? i) n ∙ count_none (λ i. v =? i) n (λ i k t. omega (arith, eq_of v i t))

-- the numbers of s with a given value, added up over the values, are the numbers of s
pub fibre : (s : Set) (g : ℕ → ℕ) (m n : ℕ) → ((i : ℕ) → In m i → Is (s i) → In n (g i)) → sum (λ v. count (λ i. s i and g i =? v) m) n ≡ count s m
unfolding count
fibre s g zero n range = sum_const 0 n ∙ mul-zero n
fibre s g (suc m) n range =
    sum_add (λ v. count (λ i. s i and g i =? v) m) (λ v. one_if (s (suc m) and g (suc m) =? v)) n
    ∙ ap₂ (λ (x y : ℕ). x + y) (fibre s g m n (λ i h. range i (in_one m i h)))
    (cases (s (suc m))
    (λ t.
    sum_eq (λ v. one_if (s (suc m) and g (suc m) =? v)) (λ v. one_if (g (suc m) =? v)) n (λ v h. ap one_if (same_test _ _ (λ k. and_r (s (suc m)) _ k) (λ k. and_make _ _ t k)))
    ∙ sum_one n (g (suc m)) (range (suc m) (in_last m) t)
    ∙ sym (ap one_if t))
    (λ f.
    sum_eq (λ v. one_if (s (suc m) and g (suc m) =? v)) (λ _. 0) n (λ v h. ap one_if (is_false (s (suc m) and g (suc m) =? v) (λ k. f (and_l _ _ k))))
    ∙ sum_const 0 n
    ∙ mul-zero n
    ∙ sym (ap one_if (is_false (s (suc m)) f))))
