-- What a search is given.
use Rattle.std.specs.Prelude.{◌≡◌, ◌≢◌, List, ℕ, ◌+◌}
use Rattle.rule.specs.Sets.{◌=?◌, In, at}
use Rattle.rule.specs.Legal.{Design, k}
use Rattle.rule.specs.declared.Book.{Book}
use Rattle.rule.specs.declared.Edge.{Edge}
use Rattle.rule.specs.Books.{the_edge}
use Rattle.tables.specs.declared.Limits.{Limits}
use Rattle.tables.specs.declared.Tables.{Tables}
use Rattle.reaching.specs.Setting.{Setting}

-- edge e of the design is this one, and stands in the forest `own`
pub record IsEdge (d : Design) (forest : ℕ → ℕ) (e : ℕ) (is : Edge) (own : ℕ) : Type 0 where
  pub one : d.one e ≡ is.one
  pub other : d.other e ≡ is.other
  pub red : d.red e ≡ (is.colour =? 1)
  pub stands : forest e ≡ own

-- What a search is given, for some design: the numbers a and k = a + b, the arrays with the edges before the new one (edge e at index e - 1), and
-- the tables. (The tables `who` and `size` say nothing that a search reads.)
pub record Given (a k' : ℕ) (ones others colours forests root way edge : List ℕ) : Type 0 where
  pub d : Design
  pub forest : ℕ → ℕ
  pub who : List ℕ
  pub size : List ℕ
  pub setting : Setting d forest root way who edge size
  pub for_red : d.a ≡ a
  pub for_black : k d ≡ k'
  pub old : (e : ℕ) → In d.m e → e ≢ d.m → IsEdge d forest e (the_edge (at ones e) (at others e) (at colours e)) (at forests e)

-- and the new edge, with its number
pub record Sought (a k' : ℕ) (sought : Edge) (number : ℕ) (ones others colours forests root way edge : List ℕ) : Type 0 where
  pub given : Given a k' ones others colours forests root way edge
  pub last : given.d.m ≡ number
  pub new : IsEdge given.d given.forest number sought 0

-- ---- said of a book and the tables

-- with the last forests of its edges, red and black
abbrev pub GivenFor : Limits → Book → Tables → Type 0
GivenFor L B T = Given L.red L.black B.ones B.others B.colours B.forests T.labels.root T.way T.edge

-- the numbers of the profile are the book's, and the new edge has the next number
abbrev pub SoughtIn : Book → Edge → Tables → Type 0
SoughtIn B edge T = Sought B.a (B.a + B.b) edge (B.count + 1) B.ones B.others B.colours B.forests T.labels.root T.way T.edge
