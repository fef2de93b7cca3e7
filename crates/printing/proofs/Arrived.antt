-- What arrives at standard output, put one behind the other: the lines of the report or the certificate in order, all of them where no write failed,
-- and otherwise a prefix of them.
--
-- A page arrives whole, or the write fails and some bytes of its front have arrived. As `send` requires, each is the page that is next, and none comes
-- after a write that failed. So what arrived whole are successive pages (crate readings), and with the rest of the page that was cut it is one page more.
-- Not here: that a program goes on until all lines have come (Turns.antt). That a write does this with its bytes is what no contract of the C library
-- says; the definition says it.
-- Assumes nothing.
use mathlib.Core.Path.{◌≡◌, sym, ap, ◌∙◌, subst}
use mathlib.Core.Bool.{false, true, true≢false}
use mathlib.Core.List.{List, [], ◌++◌, append_assoc, append-nil}
use Prim.Native.Nat.{ℕ, ◌≤◌, ◌<◌}
use native.Mathlib.Omega.{arith}
use lib.ListN.{get_or}
use Rattle.reports.specs.declared.State.{State}
use Rattle.reports.specs.Reads.{Receives}
use Rattle.reports.specs.Steps.{lines_of, LineOf}
use Rattle.reports.specs.Texts.{Report, CertificateOf}
use Rattle.pager.specs.declared.Kind.{Kind}
use Rattle.pager.specs.Kinds.{form_of}
use Rattle.readings.proofs.Spelling.{Spelled}
use Rattle.readings.proofs.Pages.{pages_to}
use Rattle.readings.proofs.Texts.{report_of_text, certificate_of_text}
use Rattle.printing.specs.declared.output.Sent.{Sent}
use Rattle.printing.specs.Sending.{all_lines, AtFirstLine, Sendable, Sends, state_after, TextSent}
use Rattle.printing.proofs.Turns.{UnderWay, under_way_first, under_way_to, next_run, under_way_again}

-- from what was begun on, these bytes have arrived, and this is what was handed over
pub data Arrived (first : Sent) : List ℕ → Sent → Type 0 where
  arrived_none : Arrived first [] first
  arrived_whole : {bytes : List ℕ} {s r : Sent} (after : State) (more : List ℕ) → Arrived first bytes s → Sendable s after more → Sends s after r
      → r.failed ≡ false → Arrived first (bytes ++ more) r
  arrived_part : {bytes : List ℕ} {s r : Sent} (after : State) (front rest : List ℕ) → Arrived first bytes s → Sendable s after (front ++ rest) → Sends s after r
      → r.failed ≡ true → Arrived first (bytes ++ front) r

-- the bytes are the front of so many lines one behind the other
pub record FrontOf (Says : ℕ → List ℕ → Type 0) (most : ℕ) (bytes : List ℕ) : Type 0 where
  pub rest : List ℕ
  pub number : ℕ
  pub few : number ≤ most
  pub spelled : Spelled Says number (bytes ++ rest)

-- ---- of what was begun

-- what line i of it is
abbrev pub SaysLine : Sent → ℕ → List ℕ → Type 0
SaysLine first = LineOf (form_of first.kind) first.state.book first.state.received

module _ (first : Sent) (fine : first.failed ≡ false) (start : first.state.line ≡ 0) where
  -- as long as no write has failed it is under way, with these bytes
  arrived_under_way : {bytes : List ℕ} {s : Sent} → Arrived first bytes s → s.failed ≡ false → UnderWay first bytes s
  arrived_under_way arrived_none f = under_way_first first fine
  arrived_under_way (arrived_whole {s = s} {r = r} after more a next sends q) f =
      let there : r.state ≡ after = sends.there ∙ ap (state_after s.state after) f in
      under_way_again first start (arrived_under_way a next.fine) r
      (record { same = sends.same; fine = f; bytes = more; next = subst (λ (z : State). Sendable s z more) (sym there) next })
  arrived_under_way (arrived_part after front rest a next sends q) f = absurd (true≢false (sym q ∙ f))

  -- what arrived is the lines up to the state's, none past the last
  pub arrived_lines : {bytes : List ℕ} {r : Sent} → Arrived first bytes r → r.failed ≡ false
      → Spelled (SaysLine first) r.state.line bytes × (r.state.line ≤ all_lines first)
  arrived_lines a f = let to = under_way_to first start (arrived_under_way a f) in (to.spelled, to.few)

  -- and so it is all of them, when all were handed over
  pub arrived_all : {kind : Kind} {text bytes : List ℕ} {r : Sent} → Arrived first bytes r → TextSent kind text r → r.failed ≡ false
      → Spelled (SaysLine first) (all_lines r) bytes
  arrived_all {bytes = bytes} a sent f = subst (λ (k : ℕ). Spelled (SaysLine first) k bytes) (sent.all f) (arrived_lines a f).0

  -- in any case it is a prefix
  lines_front : {bytes : List ℕ} {r : Sent} → Arrived first bytes r → r.failed ≡ false → FrontOf (SaysLine first) (all_lines first) bytes
  lines_front {bytes = bytes} {r = r} a f =
      let lines = arrived_lines a f in
      record { rest = []; number = r.state.line; few = lines.1; spelled = subst (Spelled (SaysLine first) r.state.line) (sym (append-nil bytes)) lines.0 }

  pub arrived_front : {bytes : List ℕ} {r : Sent} → Arrived first bytes r → FrontOf (SaysLine first) (all_lines first) bytes
  arrived_front arrived_none = lines_front arrived_none fine
  arrived_front (arrived_whole after more a next sends q) = lines_front (arrived_whole after more a next sends q) q
  arrived_front (arrived_part {bytes = bytes} after front rest a next sends q) =
      let run = next_run first start (arrived_under_way a next.fine) after (front ++ rest) next in
      let to = pages_to (form_of first.kind) first.state start run in
      record {
        rest = rest;
        number = after.line;
        few = to.few;
        spelled = subst (Spelled (SaysLine first) after.line) (sym (append_assoc bytes front rest)) to.spelled;
      }

-- ---- of a text

-- what line i says of it: in a report, whichever book was read; in a certificate, of the one book that was read
abbrev pub TextSays : Kind → List ℕ → Sent → ℕ → List ℕ → Type 0
TextSays Kind.Report text first = Report text
TextSays Kind.Certificate text first = CertificateOf first.state.book first.state.received

line_says : (kind : Kind) (text : List ℕ) (first : Sent) → Receives text first.state.book first.state.received → (i : ℕ) (x : List ℕ)
    → i < lines_of (form_of kind) first.state.book first.state.received
    → LineOf (form_of kind) first.state.book first.state.received i x → TextSays kind text first i x
line_says Kind.Report text first p i x h = (report_of_text text first.state.book i x first.state.received p h).0
line_says Kind.Certificate text first p i x h = (certificate_of_text text first.state.book i x first.state.received p h).0

module _ {kind : Kind} {text : List ℕ} (first : Sent) (begun : AtFirstLine kind text first) where
  says : (i : ℕ) (x : List ℕ) → i < all_lines first → SaysLine first i x → TextSays kind text first i x
  says =
      subst
      (λ (z : Kind).
      (i : ℕ) (x : List ℕ) → i < lines_of (form_of z) first.state.book first.state.received
      → LineOf (form_of z) first.state.book first.state.received i x → TextSays kind text first i x)
      (sym begun.same) (line_says kind text first begun.received)

  spelled_text : (k : ℕ) (bytes : List ℕ) → k ≤ all_lines first → Spelled (SaysLine first) k bytes → Spelled (TextSays kind text first) k bytes
  spelled_text k bytes few s =
      record {
        lines = s.lines;
        is_bytes = s.is_bytes;
        so_many = s.so_many;
        are_lines = λ i h. says i (get_or s.lines i []) (omega (arith, s.so_many)) (s.are_lines i h);
      }

  -- where no write failed, what arrived is the report or the certificate, whole
  pub text_arrived : {bytes : List ℕ} {r : Sent} → Arrived first bytes r → TextSent kind text r → r.failed ≡ false
      → Spelled (TextSays kind text first) (all_lines r) bytes
  text_arrived {bytes = bytes} {r = r} a sent f =
      let lines = arrived_lines first begun.fine begun.start a f in
      subst (λ (k : ℕ). Spelled (TextSays kind text first) k bytes) (sent.all f) (spelled_text r.state.line bytes lines.1 lines.0)

  -- where one failed, a front of it
  pub text_front : {bytes : List ℕ} {r : Sent} → Arrived first bytes r → FrontOf (TextSays kind text first) (all_lines first) bytes
  text_front {bytes = bytes} a =
      let front = arrived_front first begun.fine begun.start a in
      record {
        rest = front.rest;
        number = front.number;
        few = front.few;
        spelled = spelled_text front.number (bytes ++ front.rest) front.few front.spelled;
      }
