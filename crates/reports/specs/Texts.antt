-- The report and the certificate of a text, line by line: document 01, "The report, whole". Lines are counted from 0.
--
-- In order: the one line of a refused text; the report; the certificate. Here each circuit is among the edges kept before, as at the offer.
--
-- A text has one report, whichever book was read from it (crate readings: `report_determined`), so that each line may be said of some book. Of forests a text
-- leaves a choice: a certificate is of one book, and that book stands outside its lines.
use Rattle.std.specs.Prelude.{◌≡◌, ◌⊎◌, List, [], ◌∷◌, ℕ, ◌+◌, ◌<◌, length, get_or, Result}
use Rattle.rule.specs.declared.Book.{Book}
use Rattle.rule.specs.declared.Reason.{Reason}
use Rattle.rule.specs.Sets.{below}
use Rattle.rule.specs.Books.{design_of, kept_of}
use Rattle.text.specs.declared.Refusal.{Refusal}
use Rattle.text.specs.Lines.{line}
use Rattle.text.specs.Faults.{RefusedAt}
use Rattle.reports.specs.Keys.{key_forest}
use Rattle.reports.specs.Answers.{ReceivedSays}
use Rattle.reports.specs.Reads.{Reads, Receives}
use Rattle.reports.specs.Reports.{ReportLine, CertificateLine, refused_line}
use Rattle.reports.specs.Steps.{certificate, lines_of}

-- the text is refused, and the only line says so
abbrev pub OnlyRefused : List ℕ → ℕ → List ℕ → Type 0
OnlyRefused text i bytes = (reason : Reason) × (number : ℕ) × RefusedAt text reason number × (i ≡ 0) × (bytes ≡ refused_line reason number)

-- line i of the report of a text: a book is opened and offered the edges in order
abbrev pub Report : List ℕ → ℕ → List ℕ → Type 0
Report text i bytes =
    ((B : Book) × Reads text B × ReportLine (design_of B) (kept_of B) (below (kept_of B)) i bytes) ⊎ OnlyRefused text i bytes

-- line i of a certificate, where this book and this answer were received of the text
abbrev pub CertificateOf : Book → Result Unit Refusal → ℕ → List ℕ → Type 0
CertificateOf B received i bytes =
    ReceivedSays (CertificateLine B (below (kept_of B)) i bytes) (λ reason number. (i ≡ 0) × (bytes ≡ refused_line reason number)) received

-- the lines are a certificate of the text, whole: something was received of it, a book or a refusal, and all lines are of that
pub record Certificate (text : List ℕ) (lines : List (List ℕ)) : Type 0 where
  pub book : Book
  pub received : Result Unit Refusal
  pub is_received : Receives text book received
  pub so_many : length lines ≡ lines_of certificate book received
  pub each : (i : ℕ) → i < length lines → CertificateOf book received i (get_or lines i [])

-- among the lines of a certificate over m edges, edge e has the line forest=f
abbrev pub ForestShown : (lines : List (List ℕ)) (m e f : ℕ) → Type 0
ForestShown lines m e f = get_or lines (m + e + 3) [] ≡ line key_forest (f ∷ [])
