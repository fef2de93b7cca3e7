-- Forests, and how many edges moved.
--
-- In order: chains of edges; no closed loop; the forests that an edge may stand in; a permitted arrangement in forests; moved.
use Rattle.std.specs.Prelude.{cond, ℕ, ◌≤◌}
use Rattle.rule.specs.Sets.{Is, ◌and◌, isnt, ◌=?◌, ◌<?◌, ◌≤?◌, Set, In, ◌without◌, below, count}
use Rattle.rule.specs.Legal.{Design, k}

-- a chain of edges of s leads from body x to body y; an edge is walked either way
pub data Chain (d : Design) (s : Set) : ℕ → ℕ → Type 0 where
  here : (x : ℕ) → Chain d s x x
  along : {y : ℕ} (e : ℕ) → In d.m e → Is (s e) → Chain d s (d.other e) y → Chain d s (d.one e) y
  back : {y : ℕ} (e : ℕ) → In d.m e → Is (s e) → Chain d s (d.one e) y → Chain d s (d.other e) y

-- no closed loop: no edge of s has its ends joined by the others. Two edges between the same bodies are a loop
unfoldable pub Loopless : Design → Set → Type 0
Loopless d s = (e : ℕ) → In d.m e → Is (s e) → ¬ Chain d (s without e) (d.one e) (d.other e)

-- the same, with a loop charged to the edge that closes it among those of smaller number
unfoldable pub NoneCloses : Design → Set → Type 0
NoneCloses d s = (e : ℕ) → In d.m e → Is (s e) → ¬ Chain d (below s e) (d.one e) (d.other e)

-- red edges have forests 1 to a only, black ones 1 to k
unfoldable pub limit : Design → ℕ → ℕ
limit d e = cond (d.red e) d.a (k d)

-- the edges whose forest is i
unfoldable pub in_forest : (ℕ → ℕ) → ℕ → Set
in_forest forest i e = forest e =? i

-- the kept edges: those, up to m, that have a forest
unfoldable pub kept_in : Design → (ℕ → ℕ) → Set
kept_in d forest e = e ≤? d.m and 0 <? forest e

-- the forest number of edge e is permitted: 0, which means implied, or one that its colour may have
unfoldable pub Permitted : Design → (ℕ → ℕ) → ℕ → Type 0
Permitted d forest e = forest e ≤ limit d e

-- each edge has a permitted forest, and the edges of one forest form no closed loop
pub record Arranged (d : Design) (forest : ℕ → ℕ) : Type 0 where
  pub permitted : (e : ℕ) → In d.m e → Permitted d forest e
  pub loopless : (i : ℕ) → In (k d) i → Loopless d (in_forest forest i)

-- how many of the edges 1 to m have another forest after than before
unfoldable pub moved : (ℕ → ℕ) → (ℕ → ℕ) → ℕ → ℕ
moved before after m = count (λ e. isnt (before e =? after e)) m
