-- The search for a place of an offered edge, over the lists of a book.
use Rattle.std.specs.Prelude.{◌≡◌, List, ℕ, ◌≤◌, length}
use Rattle.rule.specs.declared.Book.{Book}
use Rattle.rule.specs.Sets.{In, put, ◌without◌, numbers}
use Rattle.rule.specs.declared.Edge.{Edge}
use Rattle.rule.specs.Books.{design_of, forest_of, offered, next, Sound}
use Rattle.rule.specs.Calls.{Filled}
use Rattle.theory.specs.Search.{Waiting, search, path_to}
use Rattle.theory.specs.Search.Result.{found, going}
use Rattle.tables.specs.Tables.{Tabled}
use Rattle.tables.specs.declared.Tables.{Tables}
use Rattle.moving.specs.Moves.{backward}
use Rattle.engine.specs.declared.Place.{Place}
use Rattle.engine.specs.declared.Place.TheVariants.{Found, Stuck}

-- the forests of a book, and the offered edge in none
abbrev pub forests_for : Book → ℕ → ℕ
forests_for B = put (forest_of B) (next B) 0

-- the book is sound, the tables hold its forests, and u and v are bodies of it
pub record Seekable (B : Book) (u v : ℕ) (root way edge : List ℕ) : Type 0 where
  pub sound : Sound B
  pub one : In B.n u
  pub other : In B.n v
  pub who : List ℕ
  pub size : List ℕ
  pub tabled : Tabled (design_of B) (forest_of B) root way who edge size

-- the same of an edge, and of tables as they stand
abbrev pub SeekableIn : Book → Edge → Tables → Type 0
SeekableIn B given T = Seekable B given.one given.other T.labels.root T.way T.edge

-- the search ended in forest f, and the first n places of an array hold the path to its end, last edge first
pub record EndsIn (B : Book) (given : Edge) (path : List ℕ) (n f : ℕ) : Type 0 where
  pub waiting : Waiting
  pub place : ℕ
  pub is_found : search (offered B given) (forests_for B) (next B) ≡ found place f waiting
  pub leads : backward path n ≡ path_to waiting place
  pub counts : n ≡ length (path_to waiting place)
  pub few : n ≤ 379

-- it did not end, and the first places of a list hold the edges that it reached
pub record Fails (B : Book) (given : Edge) (list listed : List ℕ) (n : ℕ) : Type 0 where
  pub waiting : Waiting
  pub is_stuck : search (offered B given) (forests_for B) (next B) ≡ going waiting
  pub fills : Filled (numbers (waiting.seen without next B) (next B)) list listed
  pub counts : n ≡ length (numbers (waiting.seen without next B) (next B))
  pub as_long : length listed ≡ length list

-- what seeking answers and leaves in the arrays
abbrev pub Seeks : Book → (given : Edge) (list path' listed : List ℕ) → Place → Type 0
Seeks B given list path' listed (Found n f) = EndsIn B given path' n f × (listed ≡ list)
Seeks B given list path' listed (Stuck n) = Fails B given list listed n
