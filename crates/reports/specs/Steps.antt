-- The report and the certificate line by line: what a stepper answers, writes and leaves behind, for every state, however it came about.
--
-- In order: a form, which is the report or the certificate; the lines of a state; the checks; the next line; a page of lines.
use Rattle.std.specs.Prelude.{◌≡◌, ◌⊎◌, List, [], ◌∷◌, ◌++◌, ℕ, suc, ◌+◌, ◌≤◌, ◌<◌, length, Result, Ok, Err}
use Rattle.rule.specs.declared.Book.{Book}
use Rattle.rule.specs.Books.{design_of, kept_of, Sound, FirstBad}
use Rattle.rule.specs.Reasons.{Check, Pass, FailBy, room}
use Rattle.text.specs.Puts.{Writes}
use Rattle.text.specs.declared.Refusal.{Refusal}
use Rattle.reports.specs.declared.State.{State}
use Rattle.reports.specs.declared.Line.{Line}
use Rattle.reports.specs.Answers.{LineSays}
use Rattle.reports.specs.Sections.{Section, lines_in, LineIn}
use Rattle.reports.specs.Reports.{report_lines, certificate_lines, refused_line}

-- ---- forms

-- how many lines it has of a book, and what line i is
pub record Form : Type 1 where
  pub number : Book → ℕ
  pub Says : Book → ℕ → List ℕ → Type 0

-- what comes in sections
abbrev pub in_sections : (Book → List Section) → Form
in_sections ss = record { number = λ B. lines_in (ss B); Says = λ B i bytes. LineIn (ss B) i bytes }

-- the report of a book, each circuit among all its kept edges
abbrev pub report : Form
report = in_sections (λ B. report_lines (design_of B) (kept_of B) (λ e. kept_of B))

-- the certificate of a book
abbrev pub certificate : Form
certificate = in_sections (λ B. certificate_lines B (λ e. kept_of B))

-- ---- the lines of a state

-- how many lines there are of what was read: of a refused text one
abbrev pub lines_of : Form → Book → Result Unit Refusal → ℕ
lines_of form B (Ok done) = form.number B
lines_of form B (Err refusal) = 1

-- what line i of it is
abbrev pub LineOf : Form → Book → Result Unit Refusal → ℕ → List ℕ → Type 0
LineOf form B (Ok done) i bytes = form.Says B i bytes
LineOf form B (Err refusal) i bytes = bytes ≡ refused_line refusal.reason refusal.line

-- the state with so many lines written
abbrev pub written : State → ℕ → State
written s i = record { received = s.received; book = s.book; line = i }

-- ---- the checks

-- a line buffer has at least so many places
abbrev pub line_room : ℕ
line_room = 2048

-- the book of a state is to be sound, unless the text was refused
abbrev pub Readable : Book → Result Unit Refusal → Type 0
Readable B (Ok done) = Sound B
Readable B (Err refusal) = Unit

-- 8, then 7. A refused text has no book: of it only 7
abbrev pub step_checks : State → List ℕ → List Check
step_checks s buffer =
    record { must = Readable s.book s.received; number = 8; with_it = FirstBad s.book } ∷ room line_room buffer ∷ []

-- ---- the next line

-- bytes of which this is said are written into the first places of the buffer, and so many is what the writer answers
pub record Puts (Says : List ℕ → Type 0) (before after : List ℕ) (size : ℕ) : Type 0 where
  pub bytes : List ℕ
  pub says : Says bytes
  pub writes : Writes bytes before after size

-- the next line stands in the first places of the buffer, whole with its LF, and the state is one line further
pub record NextLine (form : Form) (before after : State) (buffer buffered : List ℕ) (size : ℕ) : Type 0 where
  pub checked : Pass (step_checks before buffer)
  pub more : before.line < lines_of form before.book before.received
  pub bytes : List ℕ
  pub is_line : LineOf form before.book before.received before.line bytes
  pub writes : Writes bytes buffer buffered size
  pub further : after ≡ written before (suc before.line)

-- all lines have come, and nothing is changed
abbrev pub AllCome : Form → (before after : State) (buffer buffered : List ℕ) → Type 0
AllCome form before after buffer buffered =
    Pass (step_checks before buffer) × (lines_of form before.book before.received ≤ before.line) × (after ≡ before) × (buffered ≡ buffer)

-- a check fails, and nothing is changed
abbrev pub Refuses : (before after : State) (buffer buffered : List ℕ) (number place : ℕ) → Type 0
Refuses before after buffer buffered number place = FailBy (step_checks before buffer) number place × (after ≡ before) × (buffered ≡ buffer)

abbrev pub Next : Form → (before after : State) (buffer buffered : List ℕ) → Line → Type 0
Next form before after buffer buffered =
    LineSays (NextLine form before after buffer buffered) (AllCome form before after buffer buffered) (Refuses before after buffer buffered)

-- ---- a page

-- the lines from i on, up to the one before j, one behind the other; each was begun with at least a line's room left of so many places
pub data Lines (form : Form) (B : Book) (received : Result Unit Refusal) (places i : ℕ) : ℕ → List ℕ → Type 0 where
  none : Lines form B received places i i []
  then : {j : ℕ} {bytes : List ℕ} (more : List ℕ) → Lines form B received places i j bytes → length bytes + line_room ≤ places
      → j < lines_of form B received → LineOf form B received j more → Lines form B received places i (suc j) (bytes ++ more)

-- as many lines as a call for the next one, lent the unwritten rest of the buffer each time, would write
pub record PageOf (form : Form) (before after : State) (buffer buffered : List ℕ) (size : ℕ) : Type 0 where
  pub checked : Pass (step_checks before buffer)
  pub more : before.line < lines_of form before.book before.received
  pub bytes : List ℕ
  pub are_lines : Lines form before.book before.received (length buffer) before.line after.line bytes
  pub writes : Writes bytes buffer buffered size
  pub further : after ≡ written before after.line
  pub whole : (lines_of form before.book before.received ≤ after.line) ⊎ (length buffer < size + line_room)

abbrev pub Page : Form → (before after : State) (buffer buffered : List ℕ) → Line → Type 0
Page form before after buffer buffered =
    LineSays (PageOf form before after buffer buffered) (AllCome form before after buffer buffered) (Refuses before after buffer buffered)
