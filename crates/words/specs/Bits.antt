-- The bits of a number, counted from 0 at the lowest.
use Rattle.std.specs.Prelude.{◌≡◌, Bool, ℕ, zero, suc, ◌/◌, ◌%◌, ◌<◌}
use Rattle.rule.specs.Sets.{Is, ◌and◌, isnt, ◌=?◌}

unfoldable pub bit : ℕ → ℕ → Bool
bit x zero = x % 2 =? 1
bit x (suc j) = bit (x / 2) j

-- t is the lowest bit of x
pub record Lowest (x t : ℕ) : Type 0 where
  pub small : t < 64
  pub is_set : Is (bit x t)
  pub lowest : (j : ℕ) → j < t → ¬ (Is (bit x j))

-- y is x without bit t
pub record Without (x t y : ℕ) : Type 0 where
  pub less : y < x
  pub bits : (j : ℕ) → bit y j ≡ (bit x j and isnt (j =? t))
