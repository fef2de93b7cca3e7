-- Laws of `_differs_`, the exclusive or of two tests: with `simp` these bring two sums of tests to one form.
-- Assumes nothing.
use mathlib.Core.Path.{◌≡◌, refl, sym, ap, ◌∙◌}
use mathlib.Core.Bool.{Bool, true, false}
use Rattle.rule.specs.Sets.{◌and◌, isnt}
use Rattle.words.proofs.Bits.{◌differs◌}

pub differs_comm : (a b : Bool) → (a differs b) ≡ (b differs a)
unfolding ◌differs◌
differs_comm true true = refl
differs_comm true false = refl
differs_comm false true = refl
differs_comm false false = refl

pub false_differs : (a : Bool) → (false differs a) ≡ a
unfolding ◌differs◌
false_differs true = refl
false_differs false = refl

pub true_differs : (a : Bool) → (true differs a) ≡ isnt a
unfolding ◌differs◌ isnt
true_differs true = refl
true_differs false = refl

pub differs_self : (a : Bool) → (a differs a) ≡ false
unfolding ◌differs◌
differs_self true = refl
differs_self false = refl

pub differs_assoc : (a b c : Bool) → ((a differs b) differs c) ≡ (a differs (b differs c))
unfolding ◌differs◌
differs_assoc true true true = refl
differs_assoc true true false = refl
differs_assoc true false true = refl
differs_assoc true false false = refl
differs_assoc false true true = refl
differs_assoc false true false = refl
differs_assoc false false true = refl
differs_assoc false false false = refl

pub differs_left_comm : (a b c : Bool) → (a differs (b differs c)) ≡ (b differs (a differs c))
differs_left_comm a b c = sym (differs_assoc a b c) ∙ ap (λ (t : Bool). t differs c) (differs_comm a b) ∙ differs_assoc b a c

pub differs_cancel : (a b : Bool) → (a differs (a differs b)) ≡ b
differs_cancel a b = sym (differs_assoc a a b) ∙ ap (λ (t : Bool). t differs b) (differs_self a) ∙ false_differs b

-- a test that is added to both sides goes
pub differs_shift : (a b c : Bool) → ((a differs c) differs (b differs c)) ≡ (a differs b)
differs_shift a b c =
    differs_assoc a c (b differs c)
    ∙ ap (λ (t : Bool). a differs t) (ap (λ (t : Bool). c differs t) (differs_comm b c) ∙ differs_cancel c b)

pub and_differs : (a b c : Bool) → ((a differs b) and c) ≡ ((a and c) differs (b and c))
unfolding ◌and◌ ◌differs◌
and_differs true true true = refl
and_differs true true false = refl
and_differs true false true = refl
and_differs true false false = refl
and_differs false true true = refl
and_differs false true false = refl
and_differs false false c = refl

pub differs_isnt : (a b : Bool) → (isnt a differs isnt b) ≡ (a differs b)
unfolding ◌differs◌ isnt
differs_isnt true true = refl
differs_isnt true false = refl
differs_isnt false true = refl
differs_isnt false false = refl
