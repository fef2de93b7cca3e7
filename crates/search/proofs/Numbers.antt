-- More laws of `numbers`: of a set with one whose numbers are all larger, and of a set and its smallest number. (The first laws: reaching's Numbers.antt.)
-- Assumes nothing.
use mathlib.Core.Path.{◌≡◌, refl, sym, ap, ap₂, ◌∙◌, subst}
use mathlib.Core.Logic.{⊎_elim}
use mathlib.Core.List.{List, [], ◌∷◌, ◌++◌, append_assoc, append-nil}
use Prim.Native.Nat.{ℕ, zero, suc, ◌≤◌, ◌<◌}
use native.Mathlib.Omega.{arith}
use Rattle.rule.specs.Sets.{Is, ◌or◌, ◌=?◌, Set, In, ◌without◌, numbers}
use Rattle.rule.proofs.Tests.{cases, same_test, or_l, or_r, or_elim, eq_of, eq_is, by_eq, without_old, without_ne, without_make, in_one, in_last}
use Rattle.rule.proofs.Counting.{numbers_eq}
use Rattle.reaching.proofs.Numbers.{numbers_in, numbers_out, numbers_none}

-- the numbers of s, and then those of t, are those of both, where all of t are larger
pub numbers_split : (s t : Set) (m : ℕ) → ((y z : ℕ) → In m y → In m z → Is (s y) → Is (t z) → y < z)
    → numbers (λ y. s y or t y) m ≡ numbers s m ++ numbers t m
unfolding numbers
numbers_split s t zero f = refl
numbers_split s t (suc m) f =
    let both : Set = λ y. s y or t y in
    let ih : numbers both m ≡ numbers s m ++ numbers t m = numbers_split s t m (λ y z hy hz. f y z (in_one m y hy) (in_one m z hz)) in
    cases (t (suc m))
    (λ ts.
    numbers_in both m (or_r (s (suc m)) _ ts)
    ∙ ap (λ (l : List ℕ). l ++ (suc m ∷ [])) ih
    ∙ append_assoc (numbers s m) (numbers t m) (suc m ∷ [])
    ∙ ap₂ (λ (k l : List ℕ). k ++ l)
    (sym (numbers_out s m (λ ss. absurd (omega (arith, f (suc m) (suc m) (in_last m) (in_last m) ss ts)))))
    (sym (numbers_in t m ts)))
    (λ tn.
    cases (s (suc m))
    (λ ss.
    let none : numbers t m ≡ [] = numbers_none t m (λ z h k. absurd (omega (arith, h.high, f (suc m) z (in_last m) (in_one m z h) ss k))) in
    numbers_in both m (or_l _ _ ss)
    ∙ ap (λ (l : List ℕ). l ++ (suc m ∷ [])) (ih ∙ ap (λ (l : List ℕ). numbers s m ++ l) none ∙ append-nil (numbers s m))
    ∙ sym (append-nil (numbers s m ++ (suc m ∷ [])))
    ∙ ap₂ (λ (k l : List ℕ). k ++ l) (sym (numbers_in s m ss)) (sym (numbers_out t m tn ∙ none)))
    (λ sn.
    numbers_out both m (λ b. ⊎_elim sn tn (or_elim _ _ b))
    ∙ ih
    ∙ ap₂ (λ (k l : List ℕ). k ++ l) (sym (numbers_out s m sn)) (sym (numbers_out t m tn))))

-- the numbers of one
numbers_one : (m x : ℕ) → In m x → numbers (λ y. y =? x) m ≡ x ∷ []
unfolding numbers
numbers_one zero x h = absurd (omega arith)
numbers_one (suc m) x h =
    by_eq x (suc m)
    (λ q.
    numbers_in (λ y. y =? x) m (eq_is (suc m) x (sym q))
    ∙ ap₂ (λ (l : List ℕ) (z : ℕ). l ++ (z ∷ [])) (numbers_none (λ y. y =? x) m (λ y k t. omega (arith, k.high, eq_of y x t))) (sym q))
    (λ ne. numbers_out (λ y. y =? x) m (λ t. ne (sym (eq_of (suc m) x t))) ∙ numbers_one m x (omega arith))

-- the smallest comes first
pub numbers_first : (s : Set) (m x : ℕ) → In m x → Is (s x) → ((y : ℕ) → In m y → Is (s y) → x ≤ y) → numbers s m ≡ x ∷ numbers (s without x) m
numbers_first s m x h i least =
    numbers_eq s (λ y. (y =? x) or (s without x) y) m
    (λ y _.
    same_test _ _
    (λ t. by_eq y x (λ q. or_l _ _ (eq_is y x q)) (λ ne. or_r (y =? x) _ (without_make s x y t ne)))
    (λ t. ⊎_elim (λ q. subst (λ (z : ℕ). Is (s z)) (sym (eq_of y x q)) i) (λ o. without_old s x y o) (or_elim _ _ t)))
    ∙ numbers_split (λ y. y =? x) (s without x) m
    (λ y z hy hz q t.
    let ne = without_ne s x z t in
    omega (arith, eq_of y x q, least z hz (without_old s x z t)))
    ∙ ap (λ (l : List ℕ). l ++ numbers (s without x) m) (numbers_one m x h)
