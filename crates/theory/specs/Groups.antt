-- Bodies that a set of kept edges joins in each of the first forests. With the greatest set closed under limit k for every edge this
-- is the rigid group of document 01; with that under each edge's own limit it answers request #102.
use Rattle.std.specs.Prelude.{ℕ, Bool}
use Rattle.rule.specs.Sets.{Set}
use Rattle.rule.specs.Legal.{Design, k}
use Rattle.rule.specs.Forests.{limit}
use Rattle.theory.specs.Numbers.{every}
use Rattle.theory.specs.Joined.{joined}
use Rattle.theory.specs.Closed.{standing, greatest}

-- u and v are joined by edges of c in each of the forests 1 to j
unfoldable pub joined_in_all : Design → (ℕ → ℕ) → Set → (j u v : ℕ) → Bool
joined_in_all d forest c j u v = every (λ i. joined d (standing forest c i) u v) j

-- the greatest closed set, each edge standing in all k forests
unfoldable pub rigid_core : Design → (ℕ → ℕ) → Set
rigid_core d forest = greatest d forest (λ _. k d)

-- the greatest closed set, each edge standing where its colour may
unfoldable pub core : Design → (ℕ → ℕ) → Set
core d forest = greatest d forest (limit d)
