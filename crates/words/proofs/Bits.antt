-- Laws of `bit`: of the word operations, of a power of 2, of the lowest bit; two numbers with the same bits are equal.
-- Assumes nothing.
use mathlib.Core.Path.{◌≡◌, refl, sym, ap, ap₂, ◌∙◌, subst}
use mathlib.Core.Logic.{◌≢◌}
use mathlib.Core.Bool.{Bool, true, false, false≢true, beq, not}
use Prim.Native.Nat.{ℕ, zero, suc, ◌+◌, ◌*◌, ◌-◌, ◌/◌, ◌%◌, ◌^◌, ◌≤◌, ◌<◌, min, max}
use native.Mathlib.Nat.{pow-suc, mul-div_cancel, mul-mod_left, mod-lt}
use native.Mathlib.Omega.{arith}
use lib.Bits.{bit_and, bit_xor, bit_or, differ, and_step, xor_step, or_step, xor_zero_r}
use lib.Pow.{pow_pos}
use lib.Count.{count_trailing_zeros, under}
use lib.Dec.{eqb-suc-zero, eqb-zero-suc, eqb-suc-suc}
use Rattle.rule.specs.Sets.{Is, ◌and◌, ◌or◌, isnt, ◌=?◌}
use Rattle.rule.proofs.Tests.{is_false, eq_of, eq_is, by_eq}
use Rattle.words.specs.Bits.{bit}

infix 40 ◌differs◌
-- the tests differ
unfoldable pub ◌differs◌ : Bool → Bool → Bool
a differs b = not (beq a b)

-- ---- the lowest digit, and the rest

low : (x : ℕ) → x % 2 < 2
low x = mod-lt x (omega arith)

-- what holds where the lowest digit is 0, and where it is 1
by_digit : (P : ℕ → Type 0) → P 0 → P 1 → (x : ℕ) → P (x % 2)
by_digit P p q x = by_eq (x % 2) 1 (λ e. subst P (sym e) q) (λ ne. subst P (omega (arith, low x)) p)

pub bit_zero : (j : ℕ) → bit 0 j ≡ false
unfolding bit ◌=?◌
bit_zero zero = refl
bit_zero (suc j) = bit_zero j

-- a number is told by its digits: n is q with the digit r behind
first_digit : (n q r : ℕ) → n ≡ q * 2 + r → r < 2 → n % 2 ≡ r
first_digit n q r e l = omega arith

other_digits : (n q r : ℕ) → n ≡ q * 2 + r → r < 2 → n / 2 ≡ q
other_digits n q r e l = omega arith

-- ---- the operations on words

-- what an operation makes of two digits is a digit, and tells the test of the two
abbrev Digits : (digit : ℕ → ℕ → ℕ) (test : Bool → Bool → Bool) (a b : ℕ) → Type 0
Digits digit test a b = (digit a b < 2) × ((digit a b =? 1) ≡ test (a =? 1) (b =? 1))

-- an operation that goes digit by digit goes bit by bit
module _ (op digit : ℕ → ℕ → ℕ) (test : Bool → Bool → Bool) (step : (x y : ℕ) → op x y ≡ op (x / 2) (y / 2) * 2 + digit (x % 2) (y % 2))
    (none : Digits digit test 0 0) (other : Digits digit test 0 1) (one : Digits digit test 1 0) (both : Digits digit test 1 1) where
  digits : (x y : ℕ) → Digits digit test (x % 2) (y % 2)
  digits x y =
      by_digit (λ a. Digits digit test a (y % 2)) (by_digit (λ b. Digits digit test 0 b) none other y) (by_digit (λ b. Digits digit test 1 b) one both y) x

  bit_by_bit : (x y j : ℕ) → bit (op x y) j ≡ test (bit x j) (bit y j)
  unfolding bit
  bit_by_bit x y zero =
      ap (λ (n : ℕ). n =? 1) (first_digit (op x y) (op (x / 2) (y / 2)) (digit (x % 2) (y % 2)) (step x y) (digits x y).0) ∙ (digits x y).1
  bit_by_bit x y (suc j) =
      ap (λ (n : ℕ). bit n j) (other_digits (op x y) (op (x / 2) (y / 2)) (digit (x % 2) (y % 2)) (step x y) (digits x y).0) ∙ bit_by_bit (x / 2) (y / 2) j

pub bit_xor_lem : (x y j : ℕ) → bit (bit_xor x y) j ≡ bit x j differs bit y j
unfolding ◌differs◌ ◌=?◌
bit_xor_lem = bit_by_bit bit_xor differ ◌differs◌ xor_step (omega arith, refl) (omega arith, refl) (omega arith, refl) (omega arith, refl)

pub bit_or_lem : (x y j : ℕ) → bit (bit_or x y) j ≡ (bit x j or bit y j)
unfolding ◌or◌ ◌=?◌
bit_or_lem = bit_by_bit bit_or max ◌or◌ or_step (omega arith, refl) (omega arith, refl) (omega arith, refl) (omega arith, refl)

pub bit_and_lem : (x y j : ℕ) → bit (bit_and x y) j ≡ (bit x j and bit y j)
unfolding ◌and◌ ◌=?◌
bit_and_lem = bit_by_bit bit_and min ◌and◌ and_step (omega arith, refl) (omega arith, refl) (omega arith, refl) (omega arith, refl)

-- ---- one bit

pub bit_power : (t j : ℕ) → bit (2 ^ t) j ≡ (j =? t)
unfolding bit ◌=?◌
bit_power zero zero = refl
bit_power zero (suc j) = bit_zero j ∙ sym (eqb-suc-zero j)
bit_power (suc t) zero = ap (λ (n : ℕ). n % 2 =? 1) (pow-suc 2 t) ∙ ap (λ (n : ℕ). n =? 1) (mul-mod_left (2 ^ t) 2) ∙ sym (eqb-zero-suc t)
bit_power (suc t) (suc j) =
    ap (λ (n : ℕ). bit (n / 2) j) (pow-suc 2 t) ∙ ap (λ (n : ℕ). bit n j) (mul-div_cancel (2 ^ t) (omega arith)) ∙ bit_power t j ∙ sym (eqb-suc-suc j t)

all_digits : (k : ℕ) → 2 ^ suc k - 1 ≡ (2 ^ k - 1) * 2 + 1
all_digits k = omega (arith, pow-suc 2 k, pow_pos k)

-- the word with all bits below k
pub bit_all : (k j : ℕ) → j < k → Is (bit (2 ^ k - 1) j)
unfolding bit
bit_all zero j l = absurd (omega arith)
bit_all (suc k) zero l = eq_is _ 1 (first_digit (2 ^ suc k - 1) (2 ^ k - 1) 1 (all_digits k) (omega arith))
bit_all (suc k) (suc j) l =
    ap (λ (n : ℕ). bit n j) (other_digits (2 ^ suc k - 1) (2 ^ k - 1) 1 (all_digits k) (omega arith)) ∙ bit_all k j (omega arith)

-- ---- the lowest bit

half_small : (k x : ℕ) → x < 2 ^ suc k → x / 2 < 2 ^ k
half_small k x l = let p = pow-suc 2 k in omega arith

-- an even number's lowest bit is that of its half, one higher; an odd number's is bit 0
pub trailing_lowest : (k x : ℕ) → x ≢ 0 → x < 2 ^ k
    → (count_trailing_zeros k x < k) × (Is (bit x (count_trailing_zeros k x)) × ((j : ℕ) → j < count_trailing_zeros k x → ¬ (Is (bit x j))))
unfolding count_trailing_zeros bit ◌=?◌
trailing_lowest zero x ne l = absurd (ne (omega arith))
trailing_lowest (suc k) x ne l =
    by_eq (x % 2) 1
    (λ e.
    subst (λ (t : ℕ). (t < suc k) × (Is (bit x t) × ((j : ℕ) → j < t → ¬ (Is (bit x j))))) (sym (ap (λ (d : ℕ). under d (count_trailing_zeros k (x / 2))) e))
    (omega arith, (eq_is (x % 2) 1 e, λ j h. absurd (omega arith))))
    (λ odd.
    let e : x % 2 ≡ 0 = omega (arith, low x) in
    let ih = trailing_lowest k (x / 2) (λ z. ne (omega arith)) (half_small k x l) in
    subst (λ (t : ℕ). (t < suc k) × (Is (bit x t) × ((j : ℕ) → j < t → ¬ (Is (bit x j))))) (sym (ap (λ (d : ℕ). under d (count_trailing_zeros k (x / 2))) e))
    (omega (arith, ih.0), (ih.1.0, none e (count_trailing_zeros k (x / 2)) ih.1.1)))
  where
    none : x % 2 ≡ 0 → (t : ℕ) → ((j : ℕ) → j < t → ¬ (Is (bit (x / 2) j))) → (j : ℕ) → j < suc t → ¬ (Is (bit x j))
    none e t f zero h b = omega (arith, eq_of (x % 2) 1 b)
    none e t f (suc j) h b = f j (omega arith) b

-- ---- a bit taken away

differ_zero : (a : ℕ) → differ a 0 ≡ a
differ_zero zero = refl
differ_zero (suc a) = refl

pub xor_clears : (t x : ℕ) → Is (bit x t) → bit_xor x (2 ^ t) + 2 ^ t ≡ x
unfolding bit
xor_clears zero x b =
    let e : x % 2 ≡ 1 = eq_of (x % 2) 1 b in
    let s : bit_xor x 1 ≡ bit_xor (x / 2) 0 * 2 + differ (x % 2) 1 = xor_step x 1 in
    let z : differ (x % 2) 1 ≡ 0 = ap (λ (d : ℕ). differ d 1) e in
    omega (arith, xor_zero_r (x / 2))
xor_clears (suc t) x b =
    let p : 2 ^ suc t ≡ 2 ^ t * 2 = pow-suc 2 t in
    let half : 2 ^ suc t / 2 ≡ 2 ^ t = ap (λ (n : ℕ). n / 2) p ∙ mul-div_cancel (2 ^ t) (omega arith) in
    let even : 2 ^ suc t % 2 ≡ 0 = ap (λ (n : ℕ). n % 2) p ∙ mul-mod_left (2 ^ t) 2 in
    let s : bit_xor x (2 ^ suc t) ≡ bit_xor (x / 2) (2 ^ t) * 2 + x % 2 =
    xor_step x (2 ^ suc t) ∙ ap₂ (λ (h d : ℕ). bit_xor (x / 2) h * 2 + differ (x % 2) d) half even ∙ ap (λ (d : ℕ). bit_xor (x / 2) (2 ^ t) * 2 + d) (differ_zero (x % 2)) in
    omega (arith, s, p, xor_clears t (x / 2) b)

-- ---- a number below 2 ^ k has no bit from k on, and is told by the others

pub bit_small : (k x j : ℕ) → x < 2 ^ k → k ≤ j → bit x j ≡ false
unfolding bit
bit_small zero x j l h = ap (λ (z : ℕ). bit z j) (omega arith) ∙ bit_zero j
bit_small (suc k) x zero l h = absurd (omega arith)
bit_small (suc k) x (suc j) l h = bit_small k (x / 2) j (half_small k x l) (omega arith)

pub bit_ext : (k x y : ℕ) → x < 2 ^ k → y < 2 ^ k → ((j : ℕ) → j < k → bit x j ≡ bit y j) → x ≡ y
unfolding bit
bit_ext zero x y lx ly f = omega arith
bit_ext (suc k) x y lx ly f =
    let rest : x / 2 ≡ y / 2 = bit_ext k (x / 2) (y / 2) (half_small k x lx) (half_small k y ly) (λ j h. f (suc j) (omega arith)) in
    let first : (x % 2 =? 1) ≡ (y % 2 =? 1) = f 0 (omega arith) in
    by_eq (x % 2) 1
    (λ e. let g = eq_of (y % 2) 1 (sym first ∙ eq_is (x % 2) 1 e) in omega arith)
    (λ ne. by_eq (y % 2) 1 (λ e. absurd (ne (eq_of (x % 2) 1 (first ∙ eq_is (y % 2) 1 e)))) (λ ny. omega (arith, low x, low y)))

-- a word that is not 0 has a bit
pub bit_some : (k x : ℕ) → x ≢ 0 → x < 2 ^ k → (j : ℕ) × ((j < k) × Is (bit x j))
bit_some k x ne l = let t = trailing_lowest k x ne l in (count_trailing_zeros k x, (t.0, t.1.0))

pub bit_none : (k x : ℕ) → x < 2 ^ k → ((j : ℕ) → j < k → ¬ (Is (bit x j))) → x ≡ 0
bit_none k x l f = by_eq x 0 (λ e. e) (λ ne. let w = bit_some k x ne l in absurd (f w.0 w.1.0 w.1.1))

-- ---- tests that differ

pub differs_same : (a b : Bool) → ¬ (Is (a differs b)) → a ≡ b
unfolding ◌differs◌
differs_same true true n = refl
differs_same true false n = absurd (n refl)
differs_same false true n = absurd (n refl)
differs_same false false n = refl

pub same_differs : (a b : Bool) → a ≡ b → ¬ (Is (a differs b))
unfolding ◌differs◌
same_differs true true e t = false≢true t
same_differs true false e t = false≢true (sym e)
same_differs false true e t = false≢true e
same_differs false false e t = false≢true t

-- a bit that is set, told apart from itself, is gone, and the others stay
pub cleared : (x t j : ℕ) → Is (bit x t) → (bit x j differs (j =? t)) ≡ (bit x j and isnt (j =? t))
unfolding ◌differs◌ ◌and◌ isnt
cleared x t j b =
    by_eq j t
    (λ e.
    subst (λ (z : ℕ). (bit x z differs (z =? t)) ≡ (bit x z and isnt (z =? t))) (sym e)
    (ap₂ (λ (p q : Bool). p differs q) b (eq_is t t refl) ∙ sym (ap₂ (λ (p q : Bool). p and isnt q) b (eq_is t t refl))))
    (λ ne. subst (λ (q : Bool). (bit x j differs q) ≡ (bit x j and isnt q)) (sym (is_false (j =? t) (λ h. ne (eq_of j t h)))) (alone (bit x j)))
  where
    alone : (p : Bool) → (p differs false) ≡ (p and isnt false)
    alone true = refl
    alone false = refl
