-- Shifts, as the machine has them.
-- Assumes nothing.
use mathlib.Core.Path.{◌≡◌, sym, ap, ◌∙◌}
use Prim.Native.Nat.{ℕ, zero, suc, ◌*◌, ◌/◌, ◌%◌, ◌^◌, ◌<◌}
use native.Mathlib.Nat.{one-mul, mod-eq_of_lt, div-one, div-div-eq-div-mul, mul_comm, pow-suc}
use lib.Pow.{pow-lt}
use Rattle.rule.specs.Sets.{◌=?◌}
use Rattle.words.specs.Bits.{bit}

-- 1 shifted by t

pub shifted_one : (t : ℕ) → t < 64 → (1 * 2 ^ t) % 2 ^ 64 ≡ 2 ^ t
shifted_one t l = ap (λ (n : ℕ). n % 2 ^ 64) (one-mul (2 ^ t)) ∙ mod-eq_of_lt (pow-lt l)

-- the word shifted down by t begins with bit t
pub bit_shifted : (x t : ℕ) → bit x t ≡ ((x / 2 ^ t) % 2 =? 1)
unfolding bit
bit_shifted x zero = ap (λ (n : ℕ). n % 2 =? 1) (sym (div-one x))
bit_shifted x (suc t) =
    bit_shifted (x / 2) t
    ∙ ap (λ (n : ℕ). n % 2 =? 1) (div-div-eq-div-mul x 2 (2 ^ t) ∙ ap (λ (n : ℕ). x / n) (mul_comm 2 (2 ^ t) ∙ sym (pow-suc 2 t)))
