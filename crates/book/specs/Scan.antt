-- The soundness scan: what it looks at, edge by edge, and what it answers.
use Rattle.std.specs.Prelude.{◌≡◌, ◌≢◌, Bool, cond, Option, Some, None, List, ℕ, ◌+◌, ◌≤◌, ◌<◌, length}
use Rattle.rule.specs.declared.Book.{Book}
use Rattle.rule.specs.declared.Edge.{Edge}
use Rattle.rule.specs.Sets.{Is, ◌=?◌, In, put}
use Rattle.rule.specs.Legal.{Design}
use Rattle.rule.specs.Forests.{in_forest}
use Rattle.rule.specs.Books.{design_of, forest_of, ColourRange, EdgeRule}
use Rattle.theory.specs.Joined.{joined}
use Rattle.tables.specs.declared.Tables.{Tables}
use Rattle.tables.specs.Tables.{label, filled}
use Rattle.tables.specs.Held.{Holds}

-- ---- the numbers of an edge

-- a colour, and a forest that it may have
pub record Permits (a b colour forest : ℕ) : Type 0 where
  pub coloured : ColourRange colour
  pub limited : forest ≤ cond (colour =? 1) a (a + b)

-- two different bodies of the book, and what the colour permits
pub record EdgeFine (B : Book) (given : Edge) (forest : ℕ) : Type 0 where
  pub one : In B.n given.one
  pub other : In B.n given.other
  pub different : given.one ≢ given.other
  pub permits : Permits B.a B.b given.colour forest

-- ---- one edge planted

-- what planting an edge in a forest, 0 for none, needs so that it stays inside the tables
pub record Plantable (given : Edge) (forest : ℕ) (T : Tables) : Type 0 where
  pub one : In 64 given.one
  pub other : In 64 given.other
  pub most : forest ≤ 6
  pub small : 1 ≤ forest → (x : ℕ) → In 64 x → label T.labels.root forest x < 64
  pub room : 1 ≤ forest → label T.labels.root forest given.one ≢ label T.labels.root forest given.other → filled T.size forest ≤ 62

-- the tables hold the forests with edge e in this one; or its ends were joined there already
pub record EdgePlanted (given : Edge) (forest e : ℕ) (before after : Tables) (fine : Bool) : Type 0 where
  pub tabled : Is fine → (d : Design) (forests : ℕ → ℕ) → In d.m e → forests e ≡ 0 → d.one e ≡ given.one → d.other e ≡ given.other
      → Holds d forests before
      → Holds d (put forests e forest) after × (1 ≤ forest → ¬ (Is (joined d (in_forest forests forest) given.one given.other)))
  pub closes : ¬ (Is fine) → (1 ≤ forest)
      × ((d : Design) (forests : ℕ → ℕ) → Holds d forests before → Is (joined d (in_forest forests forest) given.one given.other))

-- ---- the scan

-- no slot is filled
pub record Cleared (size : List ℕ) : Type 0 where
  pub size_long : length size ≡ 6
  pub none : (f : ℕ) → In 6 f → filled size f ≡ 0

-- none where no edge breaks its rule, and then the tables hold the forests; else the first edge that does
abbrev pub Scanned : Book → Option ℕ → Tables → Type 0
Scanned B None T = ((e : ℕ) → In B.count e → EdgeRule B e) × Holds (design_of B) (forest_of B) T
Scanned B (Some place) T = In B.count place × (¬ EdgeRule B place × ((e : ℕ) → 1 ≤ e → e < place → EdgeRule B e))
