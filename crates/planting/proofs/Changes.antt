-- How the bits of the words change: by the bits of a constant, at the bodies that were chosen. The constant is the path between two
-- bodies, as their words give it, with one bit turned.
-- Assumes nothing.
use mathlib.Core.Path.{◌≡◌, sym, ap, ap₂, ◌∙◌}
use mathlib.Core.Bool.{Bool, true, false, cond}
use mathlib.Core.List.{List}
use Prim.Native.Nat.{ℕ, ◌-◌, ◌^◌}
use native.Mathlib.Omega.{arith}
use lib.Bits.{bit_xor}
use Rattle.rule.specs.Sets.{◌and◌, ◌=?◌, In}
use Rattle.words.specs.Bits.{bit}
use Rattle.words.proofs.Bits.{◌differs◌, bit_xor_lem, bit_power}
use Rattle.words.proofs.Differs.{differs_comm, false_differs}
use Rattle.tables.specs.Tables.{start, word}
use Rattle.labels.specs.Rows.{Applied}
use Rattle.planting.specs.Calls.{turned_by}
use Rattle.planting.proofs.Tells.{changed}
use Rattle.planting.proofs.Seats.{bits}

-- the path between bodies with the words a and b, and bit t turned
abbrev pub across : (a b t : ℕ) → ℕ
across a b t = bit_xor (bit_xor a b) (2 ^ t)

pub bit_across : (a b t j : ℕ) → bit (across a b t) j ≡ ((bit a j differs bit b j) differs (j =? t))
bit_across a b t j = bit_xor_lem (bit_xor a b) (2 ^ t) j ∙ ap₂ ◌differs◌ (bit_xor_lem a b j) (bit_power t j)

bit_chosen : (t : Bool) (a c j : ℕ) → bit (cond t (bit_xor a c) a) j ≡ (bit a j differs (t and bit c j))
unfolding ◌and◌
bit_chosen true a c j = bit_xor_lem a c j
bit_chosen false a c j = sym (differs_comm (bit a j) false ∙ false_differs (bit a j))

module _ (f c : ℕ) (way way' : List ℕ) where
  -- at the bodies of a word
  pub bits_changed : (bodies : ℕ) → Applied (λ w. bit_xor w c) (start f) (bit bodies) way way' → (j x : ℕ) → In 64 x
      → bits way' f j x ≡ changed (bits way f j) (λ x. bit bodies (x - 1)) (bit c j) x
  bits_changed bodies a j x h = ap (λ (w : ℕ). bit w j) (a.row (x - 1) (omega arith)) ∙ bit_chosen (bit bodies (x - 1)) (word way f x) c j

  -- at the bodies that have bit i
  pub bits_turned : (i : ℕ) → Applied (turned_by i c) (start f) (λ _. true) way way' → (j x : ℕ) → In 64 x
      → bits way' f j x ≡ changed (bits way f j) (bits way f i) (bit c j) x
  unfolding turned_by
  bits_turned i a j x h = ap (λ (w : ℕ). bit w j) (a.row (x - 1) (omega arith)) ∙ bit_chosen (bits way f i x) (word way f x) c j
