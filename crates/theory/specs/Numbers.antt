-- The smallest number of a set; whether a set holds a number at all, or all; sums.
use Rattle.std.specs.Prelude.{ℕ, zero, suc, ◌+◌, Bool, true, false, cond}
use Rattle.rule.specs.Sets.{◌and◌, ◌or◌, Set}

-- the first number, or the second where the first is 0
abbrev pub or_else : ℕ → ℕ → ℕ
or_else zero j = j
or_else (suc i) j = suc i

-- the smallest of 1 to j that is in s, or 0 where none is
unfoldable pub smallest : Set → ℕ → ℕ
smallest s zero = 0
smallest s (suc j) = or_else (smallest s j) (cond (s (suc j)) (suc j) 0)

-- one of 1 to j is in s
unfoldable pub some : Set → ℕ → Bool
some s zero = false
some s (suc j) = some s j or s (suc j)

-- each of 1 to j is in s
unfoldable pub every : Set → ℕ → Bool
every s zero = true
every s (suc j) = every s j and s (suc j)

-- f 1 + .. + f n
unfoldable pub sum : (ℕ → ℕ) → ℕ → ℕ
sum f zero = 0
sum f (suc n) = sum f n + f (suc n)
