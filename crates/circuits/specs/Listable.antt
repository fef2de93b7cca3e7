-- What the writer of an implied= line is given, and where the circuit stands.
use Rattle.std.specs.Prelude.{◌≡◌, List, ℕ, ◌≤◌, length, take}
use Rattle.rule.specs.declared.Book.{Book}
use Rattle.rule.specs.Sets.{In}
use Rattle.rule.specs.Legal.{Circuit}
use Rattle.rule.specs.Books.{design_of, forest_of, kept_of, Sound}
use Rattle.tables.specs.declared.Tables.{Tables}
use Rattle.tables.specs.Tables.{Tabled}

-- the book is sound, e is one of its edges and in no forest, and the tables hold its forests
pub record Listable (B : Book) (e : ℕ) (root way edge : List ℕ) : Type 0 where
  pub sound : Sound B
  pub place : In B.count e
  pub implied : forest_of B e ≡ 0
  pub who : List ℕ
  pub size : List ℕ
  pub tabled : Tabled (design_of B) (forest_of B) root way who edge size

-- the same of tables as they stand
abbrev pub ListableIn : Book → (e : ℕ) → Tables → Type 0
ListableIn B e T = Listable B e T.labels.root T.way T.edge

-- the first n places of the list hold the circuit of e among the kept edges
pub record HoldsCircuit (B : Book) (e : ℕ) (list : List ℕ) (n : ℕ) : Type 0 where
  pub within : n ≤ length list
  pub is_circuit : Circuit (design_of B) (kept_of B) e (take n list)
