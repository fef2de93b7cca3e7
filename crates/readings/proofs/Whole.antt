-- The report and the certificate of a text, whole: what successive calls and successive pages write of a text that was read are its lines,
-- in order, and when all have come the next call says so, and not before.
--
-- What was written are the lines of the state (Calls.antt, Pages.antt), and these are the text's (Texts.antt).
-- Assumes nothing.
use mathlib.Core.Path.{◌≡◌, sym, subst}
use mathlib.Core.Logic.{◌↔◌}
use mathlib.Core.List.{List, []}
use Prim.Native.Nat.{ℕ, ◌≤◌, ◌<◌}
use native.Mathlib.Omega.{arith}
use lib.ListN.{length, get_or}
use Rattle.std.specs.Prelude.{Result, Ok, Err}
use Rattle.rule.specs.declared.Book.{Book}
use Rattle.rule.specs.Reasons.{Pass}
use Rattle.text.specs.declared.Refusal.{Refusal}
use Rattle.reports.specs.declared.State.{State}
use Rattle.reports.specs.declared.Line.{Line}
use Rattle.reports.specs.Reads.{Receives}
use Rattle.reports.specs.Steps.{Form, report, certificate, lines_of, LineOf, written, line_room, Readable, step_checks, Next, Page}
use Rattle.reports.specs.Texts.{Report, CertificateOf, Certificate}
use Rattle.readings.proofs.Reading.{reads_grew}
use Rattle.readings.proofs.Texts.{report_of_text, certificate_of_text}
use Rattle.readings.proofs.Spelling.{AllSay, behind}
use Rattle.readings.proofs.Calls.{Calls, next_ends, calls_there, calls_within, calls_say}
use Rattle.readings.proofs.Pages.{Pages, page_ends, pages_to}

-- ---- what was read can be stepped through

pub receives_readable : (text : List ℕ) (B : Book) (r : Result Unit Refusal) → Receives text B r → Readable B r
receives_readable text B (Ok done) p = (reads_grew p).sound
receives_readable text B (Err refusal) p = tt

-- where the buffer has a line's room every check passes, however many lines have come
pub readable_pass : (first t : State) (k : ℕ) → t ≡ written first k → Readable first.book first.received → (buffer : List ℕ)
    → line_room ≤ length buffer → Pass (step_checks t buffer)
readable_pass first t k there readable buffer room = subst (λ (z : State). Pass (step_checks z buffer)) (sym there) (readable, (room, tt))

-- ---- so far

-- these lines, written so far, are the first of so many. The next call passes its checks where its buffer has a line's room, and then it says that all
-- have come where they have, and not before
pub record SoFar (Step : State → State → List ℕ → List ℕ → Line → Type 0) (Says : ℕ → List ℕ → Type 0) (number : ℕ) (lines : List (List ℕ))
    (t : State) : Type 0 where
  pub are_lines : AllSay Says lines
  pub few : length lines ≤ number
  pub passes : (buffer : List ℕ) → line_room ≤ length buffer → Pass (step_checks t buffer)
  pub ends : (u : State) (buffer buffered : List ℕ) → Pass (step_checks t buffer) → (answer : Line) → Step t u buffer buffered answer
      → ((answer ≡ Line.Over) ↔ (length lines ≡ number))

-- the bytes of so many pages are lines one behind the other, at least as many as there were pages
pub record PagesSoFar (Step : State → State → List ℕ → List ℕ → Line → Type 0) (Says : ℕ → List ℕ → Type 0) (number n : ℕ) (bytes : List ℕ)
    (t : State) : Type 0 where
  pub lines : List (List ℕ)
  pub is_bytes : bytes ≡ behind lines
  pub each : n ≤ length lines
  pub so_far : SoFar Step Says number lines t

module _ (form : Form) (Says : ℕ → List ℕ → Type 0) (first : State) (start : first.line ≡ 0)
    (readable : Readable first.book first.received)
    (says : (i : ℕ) (bytes : List ℕ) → i < lines_of form first.book first.received → LineOf form first.book first.received i bytes → Says i bytes) where
  abbrev number : ℕ
  number = lines_of form first.book first.received

  calls_so_far : (lines : List (List ℕ)) (t : State) → Calls form first lines t → SoFar (Next form) Says number lines t
  calls_so_far lines t run =
      let few : length lines ≤ number = calls_within form first start run in
      record {
        are_lines = λ i h. says i (get_or lines i []) (omega arith) (calls_say form first start run i h);
        few = few;
        passes = readable_pass first t (length lines) (calls_there form first start run) readable;
        ends = λ u buffer buffered. next_ends form first t u buffer buffered (length lines) (calls_there form first start run) few;
      }

  pages_so_far : (n : ℕ) (bytes : List ℕ) (t : State) → Pages form first n bytes t → PagesSoFar (Page form) Says number n bytes t
  pages_so_far n bytes t run =
      let r = pages_to form first start run in
      let s = r.spelled in
      let many : length s.lines ≡ t.line = s.so_many in
      let few : length s.lines ≤ number = omega (arith, r.few) in
      record {
        lines = s.lines;
        is_bytes = s.is_bytes;
        each = omega (arith, r.each);
        so_far =
            record {
              are_lines = λ i h. says i (get_or s.lines i []) (omega arith) (s.are_lines i h);
              few = few;
              passes = readable_pass first t t.line r.there readable;
              ends = λ u buffer buffered passed answer p.
                  let ends = page_ends form first t u buffer buffered t.line r.there r.few passed answer p in
                  subst (λ (k : ℕ). (answer ≡ Line.Over) ↔ (k ≡ number)) (sym many) ends;
            };
      }

-- ---- of a text

module _ (text : List ℕ) (first : State) (received : Receives text first.book first.received) (start : first.line ≡ 0) where
  readable : Readable first.book first.received
  readable = receives_readable text first.book first.received received

  report_says : (i : ℕ) (bytes : List ℕ) → i < lines_of report first.book first.received → LineOf report first.book first.received i bytes
      → Report text i bytes
  report_says i bytes h = (report_of_text text first.book i bytes first.received received h).0

  -- every line is of the one book that was read
  certificate_says : (i : ℕ) (bytes : List ℕ) → i < lines_of certificate first.book first.received
      → LineOf certificate first.book first.received i bytes → CertificateOf first.book first.received i bytes
  certificate_says i bytes h = (certificate_of_text text first.book i bytes first.received received h).0

  pub report_calls : (lines : List (List ℕ)) (t : State) → Calls report first lines t
      → SoFar (Next report) (Report text) (lines_of report first.book first.received) lines t
  report_calls = calls_so_far report (Report text) first start readable report_says

  pub certificate_calls : (lines : List (List ℕ)) (t : State) → Calls certificate first lines t
      → SoFar (Next certificate) (CertificateOf first.book first.received) (lines_of certificate first.book first.received) lines t
  certificate_calls = calls_so_far certificate (CertificateOf first.book first.received) first start readable certificate_says

  pub report_pages : (n : ℕ) (bytes : List ℕ) (t : State) → Pages report first n bytes t
      → PagesSoFar (Page report) (Report text) (lines_of report first.book first.received) n bytes t
  report_pages = pages_so_far report (Report text) first start readable report_says

  pub certificate_pages : (n : ℕ) (bytes : List ℕ) (t : State) → Pages certificate first n bytes t
      → PagesSoFar (Page certificate) (CertificateOf first.book first.received) (lines_of certificate first.book first.received) n bytes t
  certificate_pages = pages_so_far certificate (CertificateOf first.book first.received) first start readable certificate_says

  -- all lines of one book, as many as there are, are a certificate of the text
  pub certificate_whole : (lines : List (List ℕ)) → AllSay (CertificateOf first.book first.received) lines
      → length lines ≡ lines_of certificate first.book first.received → Certificate text lines
  certificate_whole lines says all =
      record { book = first.book; received = first.received; is_received = received; so_many = all; each = says }
