-- The lines of successive pages: each page that is written is at least one line further, its bytes are the lines between, one behind the
-- other, and so from the first line on the pages are the lines of the state, at most as many pages as there are lines.
--
-- A page begins with a line's room in its buffer and with a line left (its checks pass, and it is not over), and it ends where no line or not a line's
-- room is left: so it cannot end before its first line.
-- Assumes nothing.
use mathlib.Core.Path.{◌≡◌, refl, sym, ap, ◌∙◌, subst}
use mathlib.Core.Logic.{◌⊎◌, inl, inr, ◌↔◌}
use mathlib.Core.List.{List, [], ◌++◌, append_assoc, append-nil}
use Prim.Native.Nat.{ℕ, suc, ◌+◌, ◌≤◌, ◌<◌}
use native.Mathlib.Omega.{arith}
use lib.ListN.{length, take}
use Rattle.std.specs.Prelude.{Result, Ok, Err}
use Rattle.rule.specs.declared.Book.{Book}
use Rattle.rule.specs.Reasons.{Pass}
use Rattle.theory.proofs.Legal.Sound.{sound_head}
use Rattle.text.specs.declared.Refusal.{Refusal}
use Rattle.reports.specs.declared.State.{State}
use Rattle.reports.specs.declared.Line.{Line}
use Rattle.reports.specs.Steps.{Form, report, certificate, lines_of, LineOf, written, line_room, Readable, step_checks, Lines, none, then, PageOf, Page}
use Rattle.reports.proofs.Numbers.{report_number, certificate_number}
use Rattle.readings.proofs.Spelling.{writes_front, Spelled, spelled_none, spelled_more}
use Rattle.readings.proofs.Calls.{next_over, over_all, all_there}

-- ---- the lines of a page

module _ (form : Form) (B : Book) (received : Result Unit Refusal) (places i : ℕ) where
  -- they go on, or there is none
  lines_begin : {j : ℕ} {bytes : List ℕ} → Lines form B received places i j bytes → (i < j) ⊎ ((i ≡ j) × (bytes ≡ []))
  lines_begin none = inr (refl, refl)
  lines_begin (then more l room left is) = inl (onwards (lines_begin l))
    where
      onwards : {j : ℕ} {bytes : List ℕ} → (i < j) ⊎ ((i ≡ j) × (bytes ≡ [])) → i < suc j
      onwards (inl h) = omega arith
      onwards (inr q) = omega (arith, q.0)

  lines_few : {j : ℕ} {bytes : List ℕ} → i ≤ lines_of form B received → Lines form B received places i j bytes → j ≤ lines_of form B received
  lines_few h none = h
  lines_few h (then more l room left is) = left

  -- behind the lines up to i they are the lines up to j
  lines_on : {j : ℕ} {front bytes : List ℕ} → Spelled (LineOf form B received) i front → Lines form B received places i j bytes
      → Spelled (LineOf form B received) j (front ++ bytes)
  lines_on {front = front} s none = subst (Spelled (LineOf form B received) i) (sym (append-nil front)) s
  lines_on {front = front} s (then {j} {bytes} more l room left is) =
      subst (Spelled (LineOf form B received) (suc j)) (append_assoc front bytes more)
      (spelled_more (LineOf form B received) more (lines_on s l) is)

-- ---- one page

module _ (form : Form) (s t : State) (buffer buffered : List ℕ) where
  pub page_further : (size : ℕ) → PageOf form s t buffer buffered size → s.line < t.line
  page_further size p = begun (lines_begin form s.book s.received (length buffer) s.line p.are_lines) p.whole
    where
      begun : (s.line < t.line) ⊎ ((s.line ≡ t.line) × (p.bytes ≡ []))
          → (lines_of form s.book s.received ≤ t.line) ⊎ (length buffer < size + line_room) → s.line < t.line
      begun (inl h) whole = h
      begun (inr q) (inl all) = absurd (omega (arith, q.0, p.more))
      begun (inr q) (inr short) = absurd (omega (arith, ap length q.1, p.writes.number, p.checked.1.0))

  -- where no line is left, it says so
  pub page_over : Pass (step_checks s buffer) → lines_of form s.book s.received ≤ s.line → (answer : Line) → Page form s t buffer buffered answer
      → answer ≡ Line.Over
  page_over passed all (Line.Written size) p = absurd (omega (arith, p.more))
  page_over passed all Line.Over p = refl
  page_over passed all (Line.Refused reason) p = next_over form s t buffer buffered passed all (Line.Refused reason) p

-- the next page whose checks pass says that all lines have come where they have, and not before
pub page_ends : (form : Form) (first t u : State) (buffer buffered : List ℕ) (k : ℕ) → t ≡ written first k
    → k ≤ lines_of form first.book first.received → Pass (step_checks t buffer) → (answer : Line) → Page form t u buffer buffered answer
    → ((answer ≡ Line.Over) ↔ (k ≡ lines_of form first.book first.received))
page_ends form first t u buffer buffered k there few passed answer p = (
  λ q. over_all form first t u buffer buffered k there few (subst (λ (a : Line). Page form t u buffer buffered a) q p),
  λ q. page_over form t u buffer buffered passed (all_there form first t u buffer buffered k there few q) answer p,
)

-- ---- successive pages

-- so many pages one after the other, each with a buffer of its own, have been written: the bytes are the first places of each buffer, so many as were
-- answered, one behind the other
pub data Pages (form : Form) (first : State) : ℕ → List ℕ → State → Type 0 where
  none_yet : Pages form first 0 [] first
  page : {n : ℕ} {bytes : List ℕ} {s t : State} (buffer buffered : List ℕ) (size : ℕ) → Pages form first n bytes s
      → Page form s t buffer buffered (Line.Written size) → Pages form first (suc n) (bytes ++ take size buffered) t

-- the state is so many lines further, and the bytes are these lines
pub record PagesTo (form : Form) (first : State) (n : ℕ) (bytes : List ℕ) (t : State) : Type 0 where
  pub there : t ≡ written first t.line
  pub few : t.line ≤ lines_of form first.book first.received
  pub each : n ≤ t.line
  pub spelled : Spelled (LineOf form first.book first.received) t.line bytes

module _ (form : Form) (first : State) (start : first.line ≡ 0) where
  pages_more : {n : ℕ} {bytes : List ℕ} {s t : State} (buffer buffered : List ℕ) (size : ℕ) → PagesTo form first n bytes s
      → PageOf form s t buffer buffered size → PagesTo form first (suc n) (bytes ++ take size buffered) t
  pages_more {n} {bytes} {s} {t} buffer buffered size r p =
      let B = first.book in
      let received = first.received in
      let lines : Lines form B received (length buffer) s.line t.line p.bytes =
      subst (λ (z : State). Lines form z.book z.received (length buffer) s.line t.line p.bytes) r.there p.are_lines in
      record {
        there = p.further ∙ ap (λ (z : State). written z t.line) r.there;
        few = lines_few form B received (length buffer) s.line r.few lines;
        each = omega (arith, r.each, page_further form s t buffer buffered size p);
        spelled =
            subst (λ (z : List ℕ). Spelled (LineOf form B received) t.line (bytes ++ z)) (sym (writes_front p.writes))
            (lines_on form B received (length buffer) s.line r.spelled lines);
      }

  pub pages_to : {n : ℕ} {bytes : List ℕ} {t : State} → Pages form first n bytes t → PagesTo form first n bytes t
  pages_to none_yet =
      record {
        there = refl;
        few = omega arith;
        each = omega arith;
        spelled = subst (λ (k : ℕ). Spelled (LineOf form first.book first.received) k []) (sym start) (spelled_none (LineOf form first.book first.received));
      }
  pages_to (page buffer buffered size run p) = pages_more buffer buffered size (pages_to run) p

  -- after as many pages as there are lines the answer is that there are no more
  pub pages_end : {n : ℕ} {bytes : List ℕ} {t : State} → Pages form first n bytes t → lines_of form first.book first.received ≤ n → (u : State)
      (buffer buffered : List ℕ) → Pass (step_checks t buffer) → (answer : Line) → Page form t u buffer buffered answer → answer ≡ Line.Over
  pages_end {n} {bytes} {t} run all u buffer buffered passed answer p =
      let r = pages_to run in
      (page_ends form first t u buffer buffered t.line r.there r.few passed answer p).1 (omega (arith, r.few, r.each))

-- ---- how many lines there are

module _ (B : Book) where
  pub report_few : (r : Result Unit Refusal) → Readable B r → lines_of report B r ≤ 516
  report_few (Ok done) sound = omega (arith, report_number B, (sound_head B sound).edges)
  report_few (Err refusal) tt = omega arith

  pub certificate_few : (r : Result Unit Refusal) → Readable B r → lines_of certificate B r ≤ 1028
  certificate_few (Ok done) sound = omega (arith, certificate_number B, (sound_head B sound).edges)
  certificate_few (Err refusal) tt = omega arith
