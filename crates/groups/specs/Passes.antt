-- What a pass of deletion, and the passes until nothing changes, leave behind. The set that is left is held as the forests of its
-- edges: an edge has its forest as long as it is in the set, and 0 from when it is deleted.
use Rattle.std.specs.Prelude.{◌≡◌, Bool, cond, List, ℕ, ◌-◌, ◌<◌, length}
use Rattle.rule.specs.declared.Book.{Book}
use Rattle.rule.specs.Sets.{Is, ◌and◌, isnt, ◌=?◌, ◌<?◌, Set, In, count, at}
use Rattle.rule.specs.Legal.{Design}
use Rattle.rule.specs.Forests.{in_forest, Arranged}
use Rattle.theory.specs.Numbers.{every}
use Rattle.theory.specs.Closed.{standing, greatest}
use Rattle.words.specs.Bits.{bit}
use Rattle.tables.specs.declared.Limits.{Limits}
use Rattle.tables.specs.declared.Labels.{Labels as Rows}
use Rattle.tables.specs.Tables.{label, crowd, Labels}
use Rattle.labels.specs.Rows.{Long}
use Rattle.groups.specs.Lent.{Lent, Coloured, limits}

-- ---- the labels of the forests

-- each body is in the word of its label
pub record Seated (root who : List ℕ) : Type 0 where
  pub small : (i v : ℕ) → In 6 i → In 64 v → label root i v < 64
  pub own : (i v : ℕ) → In 6 i → In 64 v → Is (bit (crowd who i (label root i v)) (v - 1))

-- root and who have the labels of each forest
pub record AllPlanted (m : ℕ) (ones others forests root who : List ℕ) : Type 0 where
  pub root_long : Long root
  pub who_long : Long who
  pub seated : Seated root who
  pub labels : (d : Design) → Lent d m ones others → Arranged d (at forests) → (i : ℕ) → In 6 i → Labels d (in_forest (at forests) i) i root who

-- ---- one pass

-- u and v have one label in each of the forests 1 to j
unfoldable pub same_labels : List ℕ → (j u v : ℕ) → Bool
same_labels root j u v = every (λ i. label root i u =? label root i v) j

-- the ends of edge e have one label in each of the forests 1 to its limit
unfoldable pub stays : (root ones others colours : List ℕ) (red black : ℕ) → Set
stays root ones others colours red black e = same_labels root (cond (at colours e =? 1) red black) (at ones e) (at others e)

-- of the edges 1 to m those that do not stay are deleted, so many of them
pub record Thinned (stay : Set) (m : ℕ) (before after : List ℕ) (gone : ℕ) : Type 0 where
  pub as_long : length after ≡ length before
  pub left : (e : ℕ) → In m e → at after e ≡ cond (stay e) (at before e) 0
  pub number : gone ≡ count (λ e. 0 <? at before e and isnt (stay e)) m

-- ---- until nothing changes

-- what is left is the greatest closed set, and root and who have the labels of its forests
pub record Core (d : Design) (forest lim : ℕ → ℕ) (after root who : List ℕ) : Type 0 where
  pub left : (e : ℕ) → In d.m e → at after e ≡ cond (greatest d forest lim e) (forest e) 0
  pub labels : (i : ℕ) → In 6 i → Labels d (standing forest (greatest d forest lim) i) i root who

pub record Shrunk (m : ℕ) (ones others colours : List ℕ) (red black : ℕ) (before after root who : List ℕ) : Type 0 where
  pub as_long : length after ≡ length before
  pub root_long : Long root
  pub who_long : Long who
  pub seated : Seated root who
  pub core : (d : Design) → Lent d m ones others → Coloured d colours → Arranged d (at before)
      → Core d (at before) (limits d red black) after root who

-- ---- the same of a book, its labels and its limits

abbrev pub SeatedIn : Rows → Type 0
SeatedIn L = Seated L.root L.who

abbrev pub PlantedIn : Book → (left : List ℕ) → Rows → Type 0
PlantedIn B left L = AllPlanted B.count B.ones B.others left L.root L.who

abbrev pub stays_in : Book → Rows → Limits → Set
stays_in B L limits = stays L.root B.ones B.others B.colours limits.red limits.black

abbrev pub ShrunkIn : Book → Limits → (before after : List ℕ) → Rows → Type 0
ShrunkIn B limits before after L = Shrunk B.count B.ones B.others B.colours limits.red limits.black before after L.root L.who
