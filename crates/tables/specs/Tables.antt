-- What the tables of the forests hold (src/lib.rt says how they are laid out).
use Rattle.std.specs.Prelude.{◌≡◌, ◌↔◌, List, ℕ, ◌+◌, ◌-◌, ◌*◌, ◌≤◌, ◌<◌, get_or}
use Rattle.rule.specs.Sets.{Is, ◌=?◌, Set, In, ◌without◌}
use Rattle.rule.specs.Legal.{Design}
use Rattle.rule.specs.Forests.{in_forest}
use Rattle.theory.specs.Joined.{joined}
use Rattle.words.specs.Bits.{bit}

-- ---- where things stand

-- the index at which forest f begins, and that of body v in it
abbrev pub start : ℕ → ℕ
start f = (f - 1) * 64

abbrev pub spot : (f v : ℕ) → ℕ
spot f v = start f + (v - 1)

-- the label and the word of body v in forest f
abbrev pub label : List ℕ → (f v : ℕ) → ℕ
label root f v = get_or root (spot f v) 0

abbrev pub word : List ℕ → (f v : ℕ) → ℕ
word way f v = get_or way (spot f v) 0

-- the edge in slot j of forest f, and how many slots are filled
abbrev pub slot : List ℕ → (f j : ℕ) → ℕ
slot edge f j = get_or edge (start f + j) 0

abbrev pub filled : List ℕ → ℕ → ℕ
filled size f = get_or size (f - 1) 0

-- the bodies of the tree with label l of forest f, as a word
abbrev pub crowd : List ℕ → (f l : ℕ) → ℕ
crowd who f l = get_or who (start f + l) 0

-- ---- what they say of a forest

-- the slots hold the edges of forest f, each once
pub record Slots (d : Design) (forest : ℕ → ℕ) (f : ℕ) (edge size : List ℕ) : Type 0 where
  pub most : filled size f ≤ 63
  pub edge_in : (j : ℕ) → j < filled size f → In d.m (slot edge f j) × (forest (slot edge f j) ≡ f)
  pub slot_of : (e : ℕ) → In d.m e → forest e ≡ f → (j : ℕ) × ((j < filled size f) × (slot edge f j ≡ e))
  pub once : (i j : ℕ) → i < filled size f → j < filled size f → slot edge f i ≡ slot edge f j → i ≡ j

-- two bodies have one label exactly when the edges of s join them, and the word at a label has the bodies with that label
pub record Labels (d : Design) (s : Set) (f : ℕ) (root who : List ℕ) : Type 0 where
  pub small : (v : ℕ) → In 64 v → label root f v < 64
  pub same : (u v : ℕ) → In 64 u → In 64 v → (label root f u =? label root f v) ≡ joined d s u v
  pub bodies : (u v : ℕ) → In 64 u → In 64 v → bit (crowd who f (label root f u)) (v - 1) ≡ joined d s u v

-- two bodies that forest f joins have the same bit of a slot exactly when it joins them without the edge in that slot, and the same
-- bits of the slots that are not filled
pub record Ways (d : Design) (forest : ℕ → ℕ) (f : ℕ) (way edge size : List ℕ) : Type 0 where
  pub paths : (u v j : ℕ) → In 64 u → In 64 v → j < filled size f → Is (joined d (in_forest forest f) u v)
      → ((bit (word way f u) j ≡ bit (word way f v) j) ↔ Is (joined d (in_forest forest f without slot edge f j) u v))
  pub rest : (u v j : ℕ) → In 64 u → In 64 v → filled size f ≤ j → Is (joined d (in_forest forest f) u v) → bit (word way f u) j ≡ bit (word way f v) j

-- the tables hold the forests 1 to 6 of the design
pub record Tabled (d : Design) (forest : ℕ → ℕ) (root way who edge size : List ℕ) : Type 0 where
  pub slots : (f : ℕ) → In 6 f → Slots d forest f edge size
  pub labels : (f : ℕ) → In 6 f → Labels d (in_forest forest f) f root who
  pub ways : (f : ℕ) → In 6 f → Ways d forest f way edge size
