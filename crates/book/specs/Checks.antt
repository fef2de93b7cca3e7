-- What the checks answer.
use Rattle.std.specs.Prelude.{◌≢◌, List, [], ◌∷◌, Result, Ok, Err, ℕ}
use Rattle.rule.specs.declared.Book.{Book}
use Rattle.rule.specs.declared.Edge.{Edge}
use Rattle.rule.specs.declared.Reason.{Reason}
use Rattle.rule.specs.Sets.{In}
use Rattle.rule.specs.Books.{design_of, forest_of, ColourRange}
use Rattle.rule.specs.Reasons.{Check, Pass, Fail, plain, room, circuit_room}
use Rattle.tables.specs.declared.Tables.{Tables}
use Rattle.tables.specs.Held.{Holds}

-- the tables hold the book's forests
abbrev pub HoldsForests : Book → Tables → Type 0
HoldsForests B T = Holds (design_of B) (forest_of B) T

-- all of the checks pass, and `more` is so; or the reason is what the first check that fails says
abbrev pub FoundBy : List Check → (more : Type 0) → Result Unit Reason → Type 0
FoundBy checks more (Ok x) = Pass checks × more
FoundBy checks more (Err reason) = Fail checks reason

-- the checks 5, 3, 4, 7 of an offered edge and the lent list
abbrev pub edge_checks : (n : ℕ) → Edge → List ℕ → List Check
edge_checks n given list =
    plain 5 (ColourRange given.colour) ∷ plain 3 (In n given.one × In n given.other) ∷ plain 4 (given.one ≢ given.other) ∷ room circuit_room list ∷ []
