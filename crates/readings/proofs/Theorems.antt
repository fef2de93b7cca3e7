-- The face of crate readings: what the definitions of crate reports come to, in words and as statements. Every other file here is beneath this
-- one.
--
--  1 reading                          5 the calls end
--  2 the circuits settle              6 what a certificate shows
--  3 the steppers are determined      7 a text that is cut
--  4 the lines of a text              8 the round trip
-- Assumes nothing.
use mathlib.Core.Path.{◌≡◌}
use mathlib.Core.Logic.{◌↔◌}
use mathlib.Core.List.{List}
use Prim.Native.Nat.{ℕ, suc, ◌≤◌, ◌<◌}
use lib.ListN.{length, take}
use Rattle.std.specs.Prelude.{Result, Ok}
use Rattle.rule.specs.declared.Book.{Book}
use Rattle.rule.specs.Sets.{Is, Set, In, below}
use Rattle.rule.specs.Legal.{Grown}
use Rattle.rule.specs.Forests.{Loopless}
use Rattle.rule.specs.Books.{design_of, kept_of, Sound, GrownBook}
use Rattle.rule.specs.Reasons.{Pass}
use Rattle.rule.proofs.Outcomes.{SameButForests}
use Rattle.step.specs.Runs.{Run}
use Rattle.step.proofs.Runs.{Grew}
use Rattle.text.specs.declared.Refusal.{Refusal}
use Rattle.reports.specs.declared.State.{State}
use Rattle.reports.specs.declared.Line.{Line}
use Rattle.reports.specs.Reads.{sheet_of, Reads, Receives, Written}
use Rattle.reports.specs.Reports.{EdgeLine, ReportLine, CertificateLine}
use Rattle.reports.specs.Steps.{Form, report, certificate, lines_of, LineOf, step_checks, Next, Page}
use Rattle.reports.specs.Texts.{Report, CertificateOf, Certificate, ForestShown}
use Rattle.text.proofs.Cuts.{read_room}
use Rattle.readings.proofs.Reading
use Rattle.readings.proofs.Same.{BooksAgree}
use Rattle.readings.proofs.Same
use Rattle.readings.proofs.Circuits
use Rattle.readings.proofs.Stepping
use Rattle.readings.proofs.Calls.{Calls}
use Rattle.readings.proofs.Calls as Calling
use Rattle.readings.proofs.Pages.{Pages}
use Rattle.readings.proofs.Pages as Paging
use Rattle.readings.proofs.Texts
use Rattle.readings.proofs.Whole.{SoFar, PagesSoFar}
use Rattle.readings.proofs.Whole
use Rattle.readings.proofs.Certificates
use Rattle.readings.proofs.Cut
use Rattle.readings.proofs.Trips

-- ---- 1. Reading

-- a book that was read came from opening and a run of offers, so that the laws of undo (crate step) hold of it
pub reads_run : {text : List ℕ} {B : Book} → Reads text B → Run B
reads_run = Reading.reads_run

-- it is sound, grown from empty and whole
pub reads_grew : {text : List ℕ} {B : Book} → Reads text B → Grew B
reads_grew = Reading.reads_grew

-- its sheet is the one that the text is of
pub reads_sheet : {text : List ℕ} {B : Book} (r : Reads text B) → sheet_of B ≡ r.sheet
reads_sheet = Reading.reads_sheet

-- two books that were read from one text agree in all but the choice of forests, so they have one design and keep the same edges
module _ {text : List ℕ} {B C : Book} (p : Reads text B) (q : Reads text C) where
  pub reads_same : SameButForests B.count B C
  reads_same = Same.reads_same p q

  pub reads_design : design_of B ≡ design_of C
  reads_design = Same.same_design B C reads_same

  pub reads_kept : kept_of B ≡ kept_of C
  reads_kept = Same.same_kept B C reads_same

-- reading gives one answer; the books agree in all but the choice of forests, and whole where the text is refused
pub receives_determined : (text : List ℕ) (B C : Book) (r s : Result Unit Refusal) → Receives text B r → Receives text C s → (r ≡ s) × BooksAgree r B C
receives_determined = Same.receives_determined

-- ---- 2. The circuits settle

-- among all the kept edges of a grown book the lines are what they are among the edges kept before
module _ (B : Book) (sound : Sound B) (grown : GrownBook B) (i : ℕ) (bytes : List ℕ) where
  pub edge_settled : i < B.count
      → (EdgeLine (design_of B) (kept_of B) (λ e. kept_of B) (suc i) bytes ↔ EdgeLine (design_of B) (kept_of B) (below (kept_of B)) (suc i) bytes)
  edge_settled = Circuits.edge_settled B sound grown i bytes

  pub report_settled : ReportLine (design_of B) (kept_of B) (λ e. kept_of B) i bytes ↔ ReportLine (design_of B) (kept_of B) (below (kept_of B)) i bytes
  report_settled = Circuits.report_settled B sound grown i bytes

  pub certificate_settled : CertificateLine B (λ e. kept_of B) i bytes ↔ CertificateLine B (below (kept_of B)) i bytes
  certificate_settled = Circuits.certificate_settled B sound grown i bytes

-- ---- 3. The steppers are determined

-- any two outcomes for one state and one buffer agree: the answer, the state after it and every place of the buffer
abbrev pub StepDetermined : (State → State → List ℕ → List ℕ → Line → Type 0) → Type 0
StepDetermined P =
    (s : State) (buffer : List ℕ) (t u : State) (x y : List ℕ) (r q : Line) → P s t buffer x r → P s u buffer y q → (r ≡ q) × (t ≡ u) × (x ≡ y)

pub report_next_determined : StepDetermined (Next report)
report_next_determined = Stepping.next_determined report Stepping.report_determines

pub certificate_next_determined : StepDetermined (Next certificate)
certificate_next_determined = Stepping.next_determined certificate Stepping.certificate_determines

pub report_page_determined : StepDetermined (Page report)
report_page_determined = Stepping.page_determined report Stepping.report_determines

pub certificate_page_determined : StepDetermined (Page certificate)
certificate_page_determined = Stepping.page_determined certificate Stepping.certificate_determines

-- ---- 4. The lines of a text

-- of what was read each line is the text's, as many and no more
module _ (text : List ℕ) (B : Book) (i : ℕ) (bytes : List ℕ) (r : Result Unit Refusal) (p : Receives text B r) where
  pub report_of_text : i < lines_of report B r → (LineOf report B r i bytes ↔ Report text i bytes)
  report_of_text = Texts.report_of_text text B i bytes r p

  pub report_within : Report text i bytes → i < lines_of report B r
  report_within = Texts.report_within text B i bytes r p

  -- (the text leaves a choice of forests, so that a certificate is of one book that was read from it)
  pub certificate_of_text : i < lines_of certificate B r → (LineOf certificate B r i bytes ↔ CertificateOf B r i bytes)
  certificate_of_text = Texts.certificate_of_text text B i bytes r p

  pub certificate_within : CertificateOf B r i bytes → i < lines_of certificate B r
  certificate_within = Texts.certificate_within text B i bytes r

-- a text has one report
pub report_determined : (text : List ℕ) (i : ℕ) (x y : List ℕ) → Report text i x → Report text i y → x ≡ y
report_determined = Texts.report_determined

-- ---- 5. The calls end

-- successive calls from the first line on, each lent a buffer of its own, that wrote these lines of a text that was read (`Calls`): line i of
-- them is line i of the text's, they are at most as many as there are, and when all have come, and not before, the next call whose checks
-- pass, as they do in a buffer with a line's room, answers that it is over (`SoFar`)
module _ (text : List ℕ) (first : State) (received : Receives text first.book first.received) (start : first.line ≡ 0) where
  pub report_calls : (lines : List (List ℕ)) (t : State) → Calls report first lines t
      → SoFar (Next report) (Report text) (lines_of report first.book first.received) lines t
  report_calls = Whole.report_calls text first received start

  pub certificate_calls : (lines : List (List ℕ)) (t : State) → Calls certificate first lines t
      → SoFar (Next certificate) (CertificateOf first.book first.received) (lines_of certificate first.book first.received) lines t
  certificate_calls = Whole.certificate_calls text first received start

  -- and so for pages (`Pages`): their bytes are such lines one behind the other, at least as many as there were pages
  pub report_pages : (n : ℕ) (bytes : List ℕ) (t : State) → Pages report first n bytes t
      → PagesSoFar (Page report) (Report text) (lines_of report first.book first.received) n bytes t
  report_pages = Whole.report_pages text first received start

  pub certificate_pages : (n : ℕ) (bytes : List ℕ) (t : State) → Pages certificate first n bytes t
      → PagesSoFar (Page certificate) (CertificateOf first.book first.received) (lines_of certificate first.book first.received) n bytes t
  certificate_pages = Whole.certificate_pages text first received start

  -- there are at most so many lines
  pub report_few : lines_of report first.book first.received ≤ 516
  report_few = Paging.report_few first.book first.received (Whole.receives_readable text first.book first.received received)

  pub certificate_few : lines_of certificate first.book first.received ≤ 1028
  certificate_few = Paging.certificate_few first.book first.received (Whole.receives_readable text first.book first.received received)

  -- when all have come, they are a certificate of the text, whole
  pub certificate_whole : (lines : List (List ℕ)) (t : State) → Calls certificate first lines t
      → length lines ≡ lines_of certificate first.book first.received → Certificate text lines
  certificate_whole lines t run = Whole.certificate_whole text first received start lines (certificate_calls lines t run).are_lines

  pub certificate_pages_whole : (n : ℕ) (bytes : List ℕ) (t : State) (run : Pages certificate first n bytes t)
      → length (certificate_pages n bytes t run).lines ≡ lines_of certificate first.book first.received
      → Certificate text (certificate_pages n bytes t run).lines
  certificate_pages_whole n bytes t run =
      let pages = certificate_pages n bytes t run in
      Whole.certificate_whole text first received start pages.lines pages.so_far.are_lines

-- of any state, however it came about: after as many calls that write as there are lines, the answer is that all have come
pub calls_over : (form : Form) (first t u : State) (lines : List (List ℕ)) (buffer buffered : List ℕ) (answer : Line) → first.line ≡ 0
    → Calls form first lines t → length lines ≡ lines_of form first.book first.received → Pass (step_checks t buffer)
    → Next form t u buffer buffered answer → answer ≡ Line.Over
calls_over form first t u lines buffer buffered answer start run all passed next =
    Calling.calls_over form first start run all u buffer buffered passed answer next

-- a page that is written is at least one line further
pub page_further : (form : Form) (s t : State) (buffer buffered : List ℕ) (size : ℕ) → Page form s t buffer buffered (Line.Written size)
    → s.line < t.line
page_further = Paging.page_further

-- so after as many pages as there are lines, or more, the answer is that all have come
pub pages_end : (form : Form) (first t u : State) (n : ℕ) (bytes buffer buffered : List ℕ) (answer : Line) → first.line ≡ 0
    → Pages form first n bytes t → lines_of form first.book first.received ≤ n → Pass (step_checks t buffer)
    → Page form t u buffer buffered answer → answer ≡ Line.Over
pages_end form first t u n bytes buffer buffered answer start run all passed next =
    Paging.pages_end form first start run all u buffer buffered passed answer next

-- ---- 6. What a certificate shows

-- of the printed lines of a certificate, all of one book (`Certificate`), whoever counts them through may rely on this: a red edge has a forest line with 1
-- to a; edges whose lines name one forest form no closed loop; and the edges with a forest line are exactly the kept ones
module _ {text : List ℕ} {lines : List (List ℕ)} (c : Certificate text lines) (fine : c.received ≡ Ok tt) where
  pub shown_red : (e f : ℕ) → In c.book.count e → Is ((design_of c.book).red e) → ForestShown lines c.book.count e f → In c.book.a f
  unfolding design_of
  shown_red = Certificates.shown_red c fine

  pub shown_loopless : (f : ℕ) (s : Set) → ((e : ℕ) → In c.book.count e → Is (s e) → ForestShown lines c.book.count e f)
      → Loopless (design_of c.book) s
  shown_loopless = Certificates.shown_loopless c fine

  pub shown_kept : (kept : Set) → Grown (design_of c.book) kept → (e : ℕ) → In c.book.count e
      → (((f : ℕ) × ForestShown lines c.book.count e f) ↔ Is (kept e))
  shown_kept = Certificates.shown_kept c fine

-- ---- 7. A text that is cut

-- a text of at least 8,192 bytes is answered as the text that is cut there
module _ (text : List ℕ) (long : read_room ≤ length text) where
  pub report_cut : (i : ℕ) (bytes : List ℕ) → (Report text i bytes ↔ Report (take read_room text) i bytes)
  report_cut = Cut.report_cut text long

  pub certificate_cut : (lines : List (List ℕ)) → (Certificate text lines ↔ Certificate (take read_room text) lines)
  certificate_cut = Cut.certificate_cut text long

-- ---- 8. The round trip

module _ (B : Book) (buffer buffered : List ℕ) (n : ℕ) (w : Written B buffer buffered (Ok n)) where
  -- what was written of a book (which is then sound) is read again, as a book of the same sheet
  pub read_written : (C : Book) (r : Result Unit Refusal) → Receives (take n buffered) C r → (r ≡ Ok tt) × (sheet_of C ≡ sheet_of B)
  read_written = Trips.read_written B w

  -- what was read is written again, byte by byte
  pub write_read : (text : List ℕ) → Receives text B (Ok tt) → take n buffered ≡ text
  write_read = Trips.write_read B w
