-- Writing from a place on, for the writers of lines.
use Rattle.std.specs.Prelude.{List, ◌∷◌, ◌++◌, ℕ, zero, suc, take}
use Rattle.text.specs.Lines.{comma, numeral}
use Rattle.text.specs.Puts.{Writes}

-- these bytes are written from a place on, the other places are as they were, and the place past them is what the writer answers
pub record Appends (bytes before after : List ℕ) (at next : ℕ) : Type 0 where
  pub writes : Writes (take at before ++ bytes) before after next

-- what the number at index i adds to the numbers of a line: all but the first come after a comma
unfoldable pub item : ℕ → ℕ → List ℕ
item zero x = numeral x
item (suc i) x = comma ∷ numeral x
