-- What moving along a path needs and does.
use Rattle.std.specs.Prelude.{◌≡◌, List, [], ◌∷◌, ℕ, zero, suc, ◌-◌, ◌≤◌, length, reverse, get_or, set}
use Rattle.rule.specs.Sets.{In, at}
use Rattle.rule.specs.Legal.{Design, k, Ends}
use Rattle.rule.specs.Forests.{Arranged}
use Rattle.theory.specs.Exchange.{Free, end, shifted}
use Rattle.theory.proofs.Exchange.Walk.{Start}
use Rattle.tables.specs.Tables.{Tabled}
use Rattle.planting.specs.Calls.{Sized, Swapped}

-- ---- one step

-- what `exchange` needs so that it stays inside the arrays
pub record Exchangeable (x y : ℕ) (ones others forests : List ℕ) : Type 0 where
  pub x_number : In 512 x
  pub y_number : In 512 y
  pub stands : In 6 (at forests y)
  pub one : In 64 (at ones x)
  pub other : In 64 (at others x)

-- x has y's forest, and y's place in the tables
pub record Exchanged (x y : ℕ) (ones others forests way edge forests' way' edge' : List ℕ) : Type 0 where
  pub stands : forests' ≡ set forests (x - 1) (at forests y)
  pub swaps : Swapped (at forests y) (at ones x) (at others x) x y way edge way' edge'

-- ---- the whole path

-- what stands at the places n - 1 down to 0
unfoldable pub backward : List ℕ → ℕ → List ℕ
backward path zero = []
backward path (suc i) = get_or path i 0 ∷ backward path i

-- the design's edges have their ends in two arrays
pub record Drawn (d : Design) (ones others : List ℕ) : Type 0 where
  pub edges : d.m ≤ 512
  pub forests : k d ≤ 6
  pub one : (e : ℕ) → In d.m e → d.one e ≡ at ones e
  pub other : (e : ℕ) → In d.m e → d.other e ≡ at others e
  pub bodies : In 64 d.n
  pub ends : Ends d

-- For some design: a path of exchanges leads from the edge `number`, which stands nowhere, to an edge that is free in the forest
-- found, and the tables hold the forests.
pub record Replanting (number found : ℕ) (path ones others forests root way who edge size : List ℕ) : Type 0 where
  pub d : Design
  pub drawn : Drawn d ones others
  pub arranged : Arranged d (at forests)
  pub start : Start d (at forests) number (reverse path)
  pub free : Free d (at forests) (end number (reverse path)) found
  pub tabled : Tabled d (at forests) root way who edge size
  pub forests_long : length forests ≡ 512

-- the edges have moved along the path, and the tables hold the forests as they are now
pub record Replanted {number found : ℕ} {path ones others forests root way who edge size : List ℕ}
    (t : Replanting number found path ones others forests root way who edge size) (forests' root' way' who' edge' size' : List ℕ) : Type 0 where
  pub shifts : at forests' ≡ shifted (at forests) (number ∷ reverse path) found
  pub tabled : Tabled t.d (at forests') root' way' who' edge' size'
  pub sized : Sized root' way' who' edge' size'
  pub forests_long : length forests' ≡ 512
