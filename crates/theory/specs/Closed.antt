-- Closed sets of kept edges. Edge e may stand in the forests 1 to `lim e`; a set covers e when, in each of these forests, its own
-- edges join the ends of e. A closed set covers each of its edges. The greatest one is what is left of the kept edges when those
-- that are not covered are deleted again and again.
use Rattle.std.specs.Prelude.{ℕ, zero, suc, Bool}
use Rattle.rule.specs.Sets.{Is, ◌and◌, Set, In}
use Rattle.rule.specs.Legal.{Design}
use Rattle.rule.specs.Forests.{in_forest, kept_in}
use Rattle.theory.specs.Numbers.{every}
use Rattle.theory.specs.Joined.{spans}

-- those of c that stand in forest i
unfoldable pub standing : (ℕ → ℕ) → Set → ℕ → Set
standing forest c i e = c e and in_forest forest i e

unfoldable pub covers : Design → (forest lim : ℕ → ℕ) → Set → ℕ → Bool
covers d forest lim c e = every (λ i. spans d (standing forest c i) e) (lim e)

abbrev pub Closed : Design → (forest lim : ℕ → ℕ) → Set → Type 0
Closed d forest lim c = (e : ℕ) → In d.m e → Is (c e) → Is (covers d forest lim c e)

-- one pass of deletion
unfoldable pub shrunk : Design → (forest lim : ℕ → ℕ) → Set → Set
shrunk d forest lim c e = c e and covers d forest lim c e

-- so many passes, beginning with all kept edges
unfoldable pub passes : Design → (forest lim : ℕ → ℕ) → ℕ → Set
passes d forest lim zero = kept_in d forest
passes d forest lim (suc j) = shrunk d forest lim (passes d forest lim j)

-- each pass but the last deletes an edge, so m passes are enough
unfoldable pub greatest : Design → (forest lim : ℕ → ℕ) → Set
greatest d forest lim = passes d forest lim d.m
