-- Taking an offered edge into the lists of a sound book, with the tables of its forests kept.
use Rattle.std.specs.Prelude.{◌≡◌, List, ℕ, length, set}
use Rattle.rule.specs.declared.Book.{Book}
use Rattle.rule.specs.declared.Answer.{Answer}
use Rattle.rule.specs.declared.Edge.{Edge}
use Rattle.rule.specs.Books.{design_of, forest_of}
use Rattle.rule.specs.Reasons.{Pass, offer_checks}
use Rattle.rule.specs.Calls.{Adds, Offer}
use Rattle.tables.specs.declared.Tables.{Tables}
use Rattle.tables.specs.Tables.{Tabled}
use Rattle.planting.specs.Calls.{Sized}

-- a book's lists have 512 places
pub record Full (B : Book) : Type 0 where
  pub ones : length B.ones ≡ 512
  pub others : length B.others ≡ 512
  pub colours : length B.colours ≡ 512
  pub forests : length B.forests ≡ 512

-- the edge stands in the book behind the others, in no forest
pub record Entered (before : Book) (given : Edge) (after : Book) : Type 0 where
  pub adds : Adds before after given
  pub nowhere : after.forests ≡ set before.forests before.count 0

-- the tables hold the forests of the book
pub record TablesReady (B : Book) (root way who edge size : List ℕ) : Type 0 where
  pub tabled : Tabled (design_of B) (forest_of B) root way who edge size
  pub sized : Sized root way who edge size
  pub full : Full B

-- the edge passes the checks of an offer
pub record Takeable (B : Book) (given : Edge) (list root way who edge size : List ℕ) : Type 0 where
  pub checked : Pass (offer_checks B given list)
  pub ready : TablesReady B root way who edge size

-- it has been offered, and the tables hold the forests of the book as it is now
pub record Takes (before after : Book) (given : Edge) (list listed root' way' who' edge' size' : List ℕ) (answer : Answer) : Type 0 where
  pub offer : Offer before after given list listed answer
  pub ready : TablesReady after root' way' who' edge' size'

-- ---- the same of tables as they stand

abbrev pub TablesReadyIn : Book → Tables → Type 0
TablesReadyIn B T = TablesReady B T.labels.root T.way T.labels.who T.edge T.size

abbrev pub TakeableIn : Book → Edge → (list : List ℕ) → Tables → Type 0
TakeableIn B given list T = Takeable B given list T.labels.root T.way T.labels.who T.edge T.size

abbrev pub TakesIn : (before after : Book) → Edge → (list listed : List ℕ) → Tables → Answer → Type 0
TakesIn before after given list listed T = Takes before after given list listed T.labels.root T.way T.labels.who T.edge T.size
