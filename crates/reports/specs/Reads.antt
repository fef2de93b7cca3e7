-- A book and its text: what a book says as a sheet, and what reading and writing answer.
--
-- In order: the sheet of a book; edges offered one after the other; reading; writing.
use Rattle.std.specs.Prelude.{◌≡◌, List, [], ◌∷◌, ◌++◌, ℕ, zero, suc, Result}
use Rattle.rule.specs.declared.Edge.{Edge}
use Rattle.rule.specs.Books.{edge_of}
use Rattle.rule.specs.declared.Book.{Book}
use Rattle.rule.specs.declared.Answer.{Answer}
use Rattle.rule.specs.declared.Reason.{Reason}
use Rattle.rule.specs.Reasons.{Check, Pass, FailBy, soundness, room, offer_checks}
use Rattle.rule.specs.Answers.{FigureSays}
use Rattle.rule.specs.Calls.{new_book, zero_book, Offer}
use Rattle.text.specs.Sheets.{Sheet, SheetRange, text_of, text_room}
use Rattle.text.specs.Faults.{RefusedAt}
use Rattle.text.specs.Puts.{Writes}
use Rattle.text.specs.declared.Refusal.{Refusal}
use Rattle.reports.specs.Answers.{ReceivedSays}

-- ---- a book as a sheet

-- the edges 1 to m of a book, in order
unfoldable pub edges_of : Book → ℕ → List Edge
edges_of B zero = []
edges_of B (suc m) = edges_of B m ++ edge_of B (suc m) ∷ []

-- its profile, its number of bodies and its edges
unfoldable pub sheet_of : Book → Sheet
sheet_of B = record { a = B.a; b = B.b; n = B.n; edges = edges_of B B.count }

-- ---- reading

-- the edges are offered in order, each passing the checks of an offer, whatever is then answered
pub data Offers (first : Book) : List Edge → Book → Type 0 where
  none : Offers first [] first
  then : {before after : Book} {edges : List Edge} (e : Edge) (list listed : List ℕ) (answer : Answer) → Offers first edges before
      → Pass (offer_checks before e list)
      → Offer before after e list listed answer → Offers first (edges ++ e ∷ []) after

-- the text is that of a sheet in range; a book was opened and offered the sheet's edges in order
pub record Reads (text : List ℕ) (B : Book) : Type 0 where
  pub sheet : Sheet
  pub range : SheetRange sheet
  pub is_text : text ≡ text_of sheet
  pub offers : Offers (new_book sheet.a sheet.b sheet.n) sheet.edges B

-- what reading answers, and the book: zeros throughout where the text is refused
abbrev pub Receives : List ℕ → Book → Result Unit Refusal → Type 0
Receives text B = ReceivedSays (Reads text B) (λ reason line. RefusedAt text reason line × (B ≡ zero_book))

-- ---- writing

-- 8, then 7
abbrev pub write_checks : Book → List ℕ → List Check
write_checks B buffer = soundness B ∷ room text_room buffer ∷ []

-- the text of the book, and how long it is; places past it keep what they held
abbrev pub Written : Book → (buffer buffered : List ℕ) → Result ℕ Reason → Type 0
Written B buffer buffered =
    FigureSays (λ size. Pass (write_checks B buffer) × Writes (text_of (sheet_of B)) buffer buffered size)
    (λ number place. FailBy (write_checks B buffer) number place × (buffered ≡ buffer))
