-- A table of six rows of 64 places, one row for each forest, and a list changed by one function at some places of a row.
use Rattle.std.specs.Prelude.{◌≡◌, ◌≢◌, cond, List, ℕ, ◌+◌, ◌<◌, length, get_or}
use Rattle.rule.specs.Sets.{Set}

-- six rows of 64
abbrev pub Long : List ℕ → Type 0
Long list = length list ≡ 384

-- index i stands outside the row that begins at base
abbrev pub Outside : (base i : ℕ) → Type 0
Outside base i = (t : ℕ) → t < 64 → i ≢ base + t

-- at the places p of the row that begins at base the list has what g makes of what stood there, and all else is as it was
pub record Applied (g : ℕ → ℕ) (base : ℕ) (p : Set) (before after : List ℕ) : Type 0 where
  pub as_long : length after ≡ length before
  pub row : (t : ℕ) → t < 64 → get_or after (base + t) 0 ≡ cond (p t) (g (get_or before (base + t) 0)) (get_or before (base + t) 0)
  pub else : (i : ℕ) → Outside base i → get_or after i 0 ≡ get_or before i 0
