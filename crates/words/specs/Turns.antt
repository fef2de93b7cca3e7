-- A turn of the iterator over the bits of a word.
use Rattle.std.specs.Prelude.{◌≡◌, ℕ, Option, Some, None}
use Rattle.words.specs.declared.SetBits.{SetBits}
use Rattle.words.specs.Bits.{Lowest, Without}

-- the lowest bit comes and is left no more; where no bit is left, none comes
abbrev pub NextBit : SetBits → Option ℕ → SetBits → Type 0
NextBit s None s' = (s.left ≡ 0) × (s' ≡ s)
NextBit s (Some t) s' = ¬ (s.left ≡ 0) × Lowest s.left t × Without s.left t s'.left
