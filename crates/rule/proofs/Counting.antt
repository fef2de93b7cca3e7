-- Laws of `count` and `numbers` (specs/Sets.antt).
--
-- In order: larger and equal sets; two sets apart; one number more or less; the list of a set. Each law asks only of the
-- numbers 1 to m.
-- Assumes nothing.
use mathlib.Core.Path.{◌≡◌, refl, sym, ap, ap₂, ◌∙◌, subst}
use mathlib.Core.Logic.{⊎_elim, ◌≢◌}
use mathlib.Core.Bool.{Bool, true, false}
use mathlib.Core.List.{List, ◌++◌}
use Prim.Native.Nat.{ℕ, zero, suc, ◌+◌, ◌≤◌, ◌<◌}
use native.Mathlib.Omega.{arith}
use lib.ListN.{length, length-append}
use Rattle.rule.specs.Sets.{Is, ◌and◌, ◌or◌, isnt, Set, In, put, ◌with◌, ◌without◌, one_if, count, only_if, numbers, Lists}
use Rattle.rule.proofs.Tests.{cases, by_eq, same_test, is_false, put_same, put_other, with_self, with_old, with_elim, without_ne, in_one, in_last}

-- ---- larger and equal sets

-- each number of s, of 1 to m, is in t
abbrev pub Within : ℕ → Set → Set → Type 0
Within m s t = (i : ℕ) → In m i → Is (s i) → Is (t i)

pub one_if_mono : (a b : Bool) → (Is a → Is b) → one_if a ≤ one_if b
one_if_mono true b f = subst (λ (t : Bool). 1 ≤ one_if t) (sym (f refl)) (omega arith)
one_if_mono false b f = omega arith

pub count_mono : (s t : Set) (m : ℕ) → Within m s t → count s m ≤ count t m
unfolding count
count_mono s t zero f = omega arith
count_mono s t (suc m) f =
    omega (arith, count_mono s t m (λ i h. f i (in_one m i h)), one_if_mono (s (suc m)) (t (suc m)) (f (suc m) (in_last m)))

pub with_mono : (m : ℕ) (s t : Set) (e : ℕ) → Within m s t → Within m (s with e) (t with e)
with_mono m s t e f i h k =
    ⊎_elim (λ q. subst (λ (j : ℕ). Is ((t with e) j)) (sym q) (with_self t e)) (λ o. with_old t e i (f i h o)) (with_elim s e i k)

-- two sets that hold the same of 1 to m
abbrev pub Agree : ℕ → Set → Set → Type 0
Agree m s t = (i : ℕ) → In m i → s i ≡ t i

pub agree : (s t : Set) (m : ℕ) → Within m s t → Within m t s → Agree m s t
agree s t m f g i h = same_test (s i) (t i) (f i h) (g i h)

pub count_eq : (s t : Set) (m : ℕ) → Agree m s t → count s m ≡ count t m
unfolding count
count_eq s t zero f = refl
count_eq s t (suc m) f = ap₂ (λ (x : ℕ) (y : Bool). x + one_if y) (count_eq s t m (λ i h. f i (in_one m i h))) (f (suc m) (in_last m))

pub count_le : (s : Set) (m : ℕ) → count s m ≤ m
unfolding count
count_le s zero = omega arith
count_le s (suc m) = omega (arith, count_le s m, one_if_mono (s (suc m)) true (λ _. refl))

pub count_none : (s : Set) (m : ℕ) → ((i : ℕ) → In m i → ¬ (Is (s i))) → count s m ≡ 0
unfolding count
count_none s zero f = refl
count_none s (suc m) f =
    omega (arith, count_none s m (λ i h. f i (in_one m i h)), ap one_if (is_false (s (suc m)) (f (suc m) (in_last m))))

pub count_all : (s : Set) (m : ℕ) → ((i : ℕ) → In m i → Is (s i)) → count s m ≡ m
unfolding count
count_all s zero f = refl
count_all s (suc m) f =
    omega (arith, count_all s m (λ i h. f i (in_one m i h)), ap one_if (f (suc m) (in_last m)))

-- a set that holds one of 1 to m is not empty
pub count_pos : (s : Set) (m i : ℕ) → In m i → Is (s i) → 1 ≤ count s m
unfolding count
count_pos s zero i h k = absurd (omega arith)
count_pos s (suc m) i h k =
    cases (s (suc m)) (λ t. omega (arith, ap one_if t))
    (λ nt. omega (arith, count_pos s m i (smaller nt) k))
  where
    smaller : ¬ (Is (s (suc m))) → In m i
    smaller nt = let ne : i ≢ suc m = λ e. nt (subst (λ (j : ℕ). Is (s j)) e k) in omega arith

-- ---- two sets apart

-- sums of two counts, compared number by number
pub count_sums : (s t u v : Set) (m : ℕ) → ((i : ℕ) → In m i → one_if (s i) + one_if (t i) ≡ one_if (u i) + one_if (v i))
    → count s m + count t m ≡ count u m + count v m
unfolding count
count_sums s t u v zero f = refl
count_sums s t u v (suc m) f = omega (arith, count_sums s t u v m (λ i h. f i (in_one m i h)), f (suc m) (in_last m))

pub one_if_or : (a b : Bool) → one_if (a or b) + one_if (a and b) ≡ one_if a + one_if b
unfolding ◌or◌ ◌and◌
one_if_or true b = omega arith
one_if_or false true = refl
one_if_or false false = refl

pub count_or : (s t : Set) (m : ℕ) → count (λ i. s i or t i) m + count (λ i. s i and t i) m ≡ count s m + count t m
count_or s t m = count_sums (λ i. s i or t i) (λ i. s i and t i) s t m (λ i h. one_if_or (s i) (t i))

pub one_if_split : (a b : Bool) → one_if (a and b) + one_if (a and isnt b) ≡ one_if a
unfolding ◌and◌ isnt
one_if_split true true = refl
one_if_split true false = refl
one_if_split false b = refl

pub count_split : (s t : Set) (m : ℕ) → count (λ i. s i and t i) m + count (λ i. s i and isnt (t i)) m ≡ count s m
unfolding count
count_split s t zero = refl
count_split s t (suc m) = omega (arith, count_split s t m, one_if_split (s (suc m)) (t (suc m)))

-- ---- one number more or less

pub count_with : (s : Set) (m e : ℕ) → In m e → ¬ (Is (s e)) → count (s with e) m ≡ suc (count s m)
unfolding count
count_with s zero e h n = absurd (omega arith)
count_with s (suc m) e h n =
    by_eq e (suc m) last
    (λ ne. omega (arith, count_with s m e (omega arith) n, ap one_if (put_other s e true (suc m) (λ q. ne (sym q)))))
  where
    last : e ≡ suc m → count (s with e) m + one_if ((s with e) (suc m)) ≡ suc (count s m + one_if (s (suc m)))
    last q =
        omega (
          arith,
          count_eq (s with e) s m (λ i k. put_other s e true i (omega arith)),
          ap one_if (subst (λ (j : ℕ). Is ((s with e) j)) q (put_same s e true)),
          ap one_if (is_false (s (suc m)) (λ t. n (subst (λ (j : ℕ). Is (s j)) (sym q) t))),
        )

-- to take a number out and put it back changes nothing
pub put_back : (s : Set) (m e : ℕ) → Is (s e) → Agree m (s without e with e) s
put_back s m e h i k =
    by_eq i e
    (λ q. subst (λ (j : ℕ). (s without e with e) j ≡ s j) (sym q) (put_same (s without e) e true ∙ sym h))
    (λ ne. put_other (s without e) e true i ne ∙ put_other s e false i ne)

pub count_without : (s : Set) (m e : ℕ) → In m e → Is (s e) → suc (count (s without e) m) ≡ count s m
count_without s m e h k =
    sym (count_with (s without e) m e h (λ t. without_ne s e e t refl)) ∙ count_eq (s without e with e) s m (put_back s m e k)

-- a number past the end is not counted
pub count_put_past : (s : Set) (m e : ℕ) (t : Bool) → m < e → count (put s e t) m ≡ count s m
count_put_past s m e t l = count_eq (put s e t) s m (λ i h. put_other s e t i (omega arith))

-- ---- the list of a set

pub numbers_eq : (s t : Set) (m : ℕ) → Agree m s t → numbers s m ≡ numbers t m
unfolding numbers
numbers_eq s t zero f = refl
numbers_eq s t (suc m) f =
    ap₂ (λ (x : List ℕ) (y : Bool). x ++ only_if y (suc m)) (numbers_eq s t m (λ i h. f i (in_one m i h))) (f (suc m) (in_last m))

length_only_if : (b : Bool) (x : ℕ) → length (only_if b x) ≡ one_if b
length_only_if true x = refl
length_only_if false x = refl

pub length_numbers : (s : Set) (m : ℕ) → length (numbers s m) ≡ count s m
unfolding numbers count
length_numbers s zero = refl
length_numbers s (suc m) =
    length-append (numbers s m) (only_if (s (suc m)) (suc m))
    ∙ ap₂ (λ (x y : ℕ). x + y) (length_numbers s m) (length_only_if (s (suc m)) (suc m))

-- two lists of the same numbers are one
pub lists_determined : {P : ℕ → Type 0} {m : ℕ} {l₁ l₂ : List ℕ} → Lists P m l₁ → Lists P m l₂ → l₁ ≡ l₂
lists_determined {m = m} x y =
    x.in_order
    ∙ numbers_eq x.chosen y.chosen m
    (agree x.chosen y.chosen m
    (λ i h k. (y.exactly i h).1 ((x.exactly i h).0 k))
    (λ i h k. (x.exactly i h).1 ((y.exactly i h).0 k)))
    ∙ sym y.in_order
