-- Two permitted outcomes agree: for every entry point of the library, any two outcomes that its contract permits for one input are equal, the
-- refusals, the book and every place of every lent list included. The contracts cite the relations named here (crates rule, text and pages);
-- each theorem is proved where its relation is at home, and here they stand together.
--
-- The one exception is the choice of forests and, with it, moved: docs/EXCEPTIONS.md. An offer that keeps its edge, and a text that is read, leave books
-- that agree in all but the forests (`SameButForests`: the same edges have one); a certificate of one and the same state is determined.
-- Assumes nothing.
use mathlib.Core.Path.{◌≡◌, sym, ◌∙◌}
use mathlib.Core.List.{List}
use Prim.Native.Nat.{ℕ}
use denote.Ref.{Bor}
use Rattle.std.specs.Prelude.{Result}
use Rattle.rule.specs.declared.Reason.{Reason}
use Rattle.rule.specs.declared.Verdict.{Verdict}
use Rattle.text.specs.declared.Head.{Head}
use Rattle.text.specs.declared.Refusal.{Refusal}
use Rattle.rule.specs.declared.Book.{Book}
use Rattle.rule.specs.declared.Answer.{Answer}
use Rattle.rule.specs.declared.Edge.{Edge}
use Rattle.rule.specs.Books.{next}
use Rattle.rule.specs.Calls.{Open, Offer, Question, Freedom, Dropped, Judge, Grouped}
use Rattle.rule.proofs.Outcomes.{SameButForests, AnswersAgree}
use Rattle.rule.proofs.Outcomes as Outcomes
use Rattle.text.specs.Judgements.{Judges, Hands}
use Rattle.text.proofs.Answers as Answers
use Rattle.reports.specs.declared.State.{State}
use Rattle.reports.specs.Reads.{Receives, Written}
use Rattle.reports.specs.Steps.{report, certificate, Next, Page}
use Rattle.writer.proofs.Determined as Writing
use Rattle.readings.proofs.Same.{BooksAgree}
use Rattle.readings.proofs.Theorems.{StepDetermined}
use Rattle.readings.proofs.Theorems as Settled

-- ---- a book

-- `book::open`
pub open_agrees : (a b n : ℕ) (book other : Book) (x y : Result Unit Reason) → Open a b n book x → Open a b n other y → (book ≡ other) × (x ≡ y)
open_agrees = Outcomes.open_determined

-- `step::offer`
pub offer_agrees : (B : Book) (given : Edge) (list : List ℕ) (after other : Book) (listed lines : List ℕ) (x y : Answer)
    → Offer B after given list listed x → Offer B other given list lines y
    → AnswersAgree (SameButForests (next B) after other × (listed ≡ lines)) ((after ≡ other) × (listed ≡ lines)) x y
offer_agrees B given list = Outcomes.offer_determined B given list

-- `step::question`
pub question_agrees : (B : Book) (given : Edge) (list listed lines : List ℕ) (x y : Answer) → Question B given list listed x
    → Question B given list lines y → AnswersAgree (listed ≡ lines) (listed ≡ lines) x y
question_agrees B given list = Outcomes.question_determined B given list

-- `book::freedom`
pub freedom_agrees : (B : Book) (x y : Result ℕ Reason) → Freedom B x → Freedom B y → x ≡ y
freedom_agrees = Outcomes.freedom_determined

-- `book::dropped`
pub dropped_agrees : (B : Book) (x y : Result ℕ Reason) → Dropped B x → Dropped B y → x ≡ y
dropped_agrees = Outcomes.dropped_determined

-- `book::verdict`
pub verdict_agrees : (B : Book) (x y : Result Verdict Reason) → Judge B x → Judge B y → x ≡ y
verdict_agrees = Outcomes.judge_determined

-- `groups::groups`
pub groups_agrees : (B : Book) (list listed lines : List ℕ) (x y : Result Unit Reason) → Grouped B list listed x → Grouped B list lines y → (listed ≡ lines) × (x ≡ y)
groups_agrees = Outcomes.grouped_determined

-- ---- text

-- `text::judge`
pub judge_agrees : (text : List ℕ) (x y : Result Head Refusal) → Judges text x → Judges text y → x ≡ y
judge_agrees = Answers.judge_determined

-- `text::fault`: the part is one place of the lent text
pub fault_agrees : (text p q : Bor (List ℕ)) → Hands text p → Hands text q → (p.ref_ptr ≡ q.ref_ptr) × (p.now ≡ q.now)
fault_agrees = Answers.hands_determined

-- `reader::read`
pub read_agrees : (text : List ℕ) (B C : Book) (r s : Result Unit Refusal) → Receives text B r → Receives text C s → (r ≡ s) × BooksAgree r B C
read_agrees = Settled.receives_determined

-- `reader::begin`: the answer, the line and, as for `read`, the book
pub begin_agrees : (text : List ℕ) (s t : State) → Receives text s.book s.received × (s.line ≡ 0)
    → Receives text t.book t.received × (t.line ≡ 0)
    → (s.received ≡ t.received) × (s.line ≡ t.line) × BooksAgree s.received s.book t.book
begin_agrees text s t p q =
    let read = read_agrees text s.book t.book s.received t.received p.0 q.0 in
    (read.0, p.1 ∙ sym q.1, read.1)

-- `writer::write`
pub write_agrees : (B : Book) (buffer one other : List ℕ) (x y : Result ℕ Reason) → Written B buffer one x → Written B buffer other y → (one ≡ other) × (x ≡ y)
write_agrees = Writing.write_determined

-- ---- the steppers

-- `pager::next` and `pager::page`, of a report and of a certificate: the answer, the state after it and every place of the buffer
pub report_next_agrees : StepDetermined (Next report)
report_next_agrees = Settled.report_next_determined

pub certificate_next_agrees : StepDetermined (Next certificate)
certificate_next_agrees = Settled.certificate_next_determined

pub report_page_agrees : StepDetermined (Page report)
report_page_agrees = Settled.report_page_determined

pub certificate_page_agrees : StepDetermined (Page certificate)
certificate_page_agrees = Settled.certificate_page_determined
