-- The rank of a set of edges: how many bodies are not the smallest of those joined to them. It is r of request #111, the bodies
-- touched less the connected pieces (proofs/Rank/Touched.antt), and s of that request is the rank of the black edges.
use Rattle.std.specs.Prelude.{ℕ, Bool}
use Rattle.rule.specs.Sets.{◌and◌, ◌or◌, isnt, ◌=?◌, ◌<?◌, Set, count}
use Rattle.rule.specs.Legal.{Design}
use Rattle.theory.specs.Numbers.{smallest, some}
use Rattle.theory.specs.Joined.{joined}

-- the smallest body that `near` relates to v
unfoldable pub leader : (ℕ → ℕ → Bool) → ℕ → ℕ
leader near v = smallest (λ u. near u v) v

-- how many of 1 to n are not their own leader
unfoldable pub rank_of : (ℕ → ℕ → Bool) → ℕ → ℕ
rank_of near n = count (λ v. leader near v <? v) n

unfoldable pub rank : Design → Set → ℕ
rank d s = rank_of (joined d s) d.n

-- the black ones of s
unfoldable pub black : Design → Set → Set
black d s e = s e and isnt (d.red e)

-- body v is an end of an edge of s
unfoldable pub touched : Design → Set → Set
touched d s v = some (λ e. s e and (d.one e =? v or d.other e =? v)) d.m

-- the connected pieces that the edges of s make, each counted at its smallest body
unfoldable pub pieces : Design → Set → ℕ
pieces d s = count (λ v. touched d s v and isnt (leader (joined d s) v <? v)) d.n
