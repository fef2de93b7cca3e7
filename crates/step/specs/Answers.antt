-- What a question needs once the checks have passed.
use Rattle.std.specs.Prelude.{List, ℕ}
use Rattle.rule.specs.declared.Book.{Book}
use Rattle.rule.specs.declared.Edge.{Edge}
use Rattle.rule.specs.Books.{design_of, forest_of}
use Rattle.rule.specs.Reasons.{Pass, question_checks}
use Rattle.tables.specs.declared.Tables.{Tables}
use Rattle.tables.specs.Tables.{Tabled}

-- the edge passes the checks of a question, and the tables hold the forests of the book
pub record Askable (B : Book) (given : Edge) (list root way edge : List ℕ) : Type 0 where
  pub checked : Pass (question_checks B given list)
  pub who : List ℕ
  pub size : List ℕ
  pub tabled : Tabled (design_of B) (forest_of B) root way who edge size

-- the same of tables as they stand
abbrev pub AskableIn : Book → Edge → (list : List ℕ) → Tables → Type 0
AskableIn B given list T = Askable B given list T.labels.root T.way T.edge
