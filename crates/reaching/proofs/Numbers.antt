-- More laws of `numbers`: with one number more at the end, and of no numbers at all. (What stands in the list, and that it ascends: theory's
-- Numbers/Listing.antt.)
-- Assumes nothing.
use mathlib.Core.Path.{◌≡◌, refl, ap, ◌∙◌}
use mathlib.Core.Bool.{Bool}
use mathlib.Core.List.{[], ◌∷◌, ◌++◌, append-nil}
use Prim.Native.Nat.{ℕ, zero, suc}
use Rattle.rule.specs.Sets.{Is, Set, In, only_if, numbers}
use Rattle.rule.proofs.Tests.{is_false, in_one, in_last}

pub numbers_in : (s : Set) (m : ℕ) → Is (s (suc m)) → numbers s (suc m) ≡ numbers s m ++ (suc m ∷ [])
unfolding numbers
numbers_in s m t = ap (λ (b : Bool). numbers s m ++ only_if b (suc m)) t

pub numbers_out : (s : Set) (m : ℕ) → ¬ (Is (s (suc m))) → numbers s (suc m) ≡ numbers s m
unfolding numbers
numbers_out s m n = ap (λ (b : Bool). numbers s m ++ only_if b (suc m)) (is_false (s (suc m)) n) ∙ append-nil (numbers s m)

pub numbers_none : (s : Set) (m : ℕ) → ((y : ℕ) → In m y → ¬ (Is (s y))) → numbers s m ≡ []
unfolding numbers
numbers_none s zero f = refl
numbers_none s (suc m) f = numbers_out s m (f (suc m) (in_last m)) ∙ numbers_none s m (λ y h. f y (in_one m y h))
