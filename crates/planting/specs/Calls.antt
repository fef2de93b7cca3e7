-- What the calls need and promise. What they promise of the tables holds for every design and all forests of its edges that the tables
-- hold before the call.
use Rattle.std.specs.Prelude.{◌≡◌, ◌≢◌, cond, List, ℕ, ◌≤◌, ◌<◌, length}
use Rattle.std.specs.Int.Bits.{bit_xor}
use Rattle.rule.specs.Sets.{Is, In, put}
use Rattle.rule.specs.Legal.{Design}
use Rattle.rule.specs.Forests.{in_forest, Loopless}
use Rattle.theory.specs.Joined.{joined}
use Rattle.theory.specs.Exchange.{Arc, exchanged}
use Rattle.words.specs.Bits.{bit}
use Rattle.tables.specs.Tables.{label, slot, filled, Tabled}
use Rattle.labels.specs.Rows.{Long}

-- the tables are as long as they must be
pub record Sized (root way who edge size : List ℕ) : Type 0 where
  pub root_long : Long root
  pub way_long : Long way
  pub who_long : Long who
  pub edge_long : Long edge
  pub size_long : length size ≡ 6

-- ---- an edge added

-- what `add` needs so that it stays inside the tables
pub record Addable (f u v : ℕ) (root size : List ℕ) : Type 0 where
  pub forest : In 6 f
  pub one : In 64 u
  pub other : In 64 v
  pub one_label : label root f u < 64
  pub other_label : label root f v < 64
  pub room : filled size f ≤ 62

-- edge e, between u and v, which forest f did not join, stands in forest f
pub record Added (f u v e : ℕ) (root way who edge size root' way' who' edge' size' : List ℕ) : Type 0 where
  pub sized : Sized root' way' who' edge' size'
  pub tabled : (d : Design) (forest : ℕ → ℕ) → In d.m e → forest e ≡ 0 → d.one e ≡ u → d.other e ≡ v
      → ¬ (Is (joined d (in_forest forest f) u v)) → Tabled d forest root way who edge size → Tabled d (put forest e f) root' way' who' edge' size'

-- ---- an edge swapped for another

-- what `swap` needs so that it stays inside the tables
pub record Swappable (f u v : ℕ) : Type 0 where
  pub forest : In 6 f
  pub one : In 64 u
  pub other : In 64 v

-- edge x, between u and v, has taken the place of y, which stood in forest f on the path between u and v
pub record Swapped (f u v x y : ℕ) (way edge way' edge' : List ℕ) : Type 0 where
  pub way_long : Long way'
  pub edge_long : Long edge'
  pub tabled : (d : Design) (forest : ℕ → ℕ) (root who size : List ℕ) → In d.m x → forest x ≡ 0 → d.one x ≡ u → d.other x ≡ v → forest y ≡ f
      → Arc d forest x y → Loopless d (in_forest forest f) → Tabled d forest root way who edge size
      → Tabled d (exchanged forest x y) root way' who edge' size

-- the word changed by c where it has bit j
unfoldable pub turned_by : (j c word : ℕ) → ℕ
turned_by j c word = cond (bit word j) (bit_xor word c) word

-- j is the first of the slots 0 to 62 of forest f that holds y, or 63 where none does
pub record FirstSlot (f y : ℕ) (edge : List ℕ) (j : ℕ) : Type 0 where
  pub most : j ≤ 63
  pub holds : j < 63 → slot edge f j ≡ y
  pub first : (i : ℕ) → i < j → slot edge f i ≢ y
