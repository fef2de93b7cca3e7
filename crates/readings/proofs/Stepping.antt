-- The steppers are determined: for a form whose lines are, any two outcomes that the definitions permit for one state and one buffer agree,
-- the answer, the state after it and every place of the buffer. So for the next line of a report and of a certificate, and for a page.
--
-- A refusal, the end and a written line exclude each other: the checks fail or pass, and lines are left or not. A page ends where no line or
-- not a line's room is left: of two pages the longer would have begun a line where the shorter could not.
-- Assumes nothing.
use mathlib.Core.Path.{◌≡◌, refl, sym, ap, ap₂, ◌∙◌, subst}
use mathlib.Core.Logic.{◌⊎◌, inl, inr}
use mathlib.Core.List.{List, ◌++◌}
use Prim.Native.Nat.{ℕ, ◌+◌, ◌≤◌, ◌<◌}
use native.Mathlib.Omega.{arith}
use lib.ListN.{length, drop}
use Rattle.std.specs.Prelude.{Result, Ok, Err}
use Rattle.rule.specs.declared.Book.{Book}
use Rattle.rule.specs.declared.Reason.{Reason}
use Rattle.rule.specs.Books.{design_of, kept_of}
use Rattle.rule.specs.Reasons.{Pass}
use Rattle.rule.proofs.Tests.{by_eq}
use Rattle.rule.proofs.Determined.{Single, fail_determined, pass_not_fail, nothing_single, place_single}
use Rattle.text.specs.Puts.{Writes}
use Rattle.text.specs.declared.Refusal.{Refusal}
use Rattle.reports.specs.declared.State.{State}
use Rattle.reports.specs.declared.Line.{Line}
use Rattle.reports.specs.Steps.{Form, report, certificate, lines_of, LineOf, written, line_room, step_checks, NextLine, Next, Lines, none, then, PageOf, Page}
use Rattle.reports.proofs.Sections.{Determined}
use Rattle.readings.proofs.Lines.{report_line_determined, certificate_line_determined}

-- ---- forms whose lines are determined

abbrev pub LinesDetermined : Form → Type 0
LinesDetermined form = (B : Book) (i : ℕ) → Determined (form.Says B i)

pub report_determines : LinesDetermined report
report_determines B i = report_line_determined (design_of B) (kept_of B) (λ e. kept_of B) i

pub certificate_determines : LinesDetermined certificate
certificate_determines B i = certificate_line_determined B (λ e. kept_of B) i

line_determined : (form : Form) → LinesDetermined form → (B : Book) (received : Result Unit Refusal) (i : ℕ) → Determined (LineOf form B received i)
line_determined form det B (Ok done) i x y p q = det B i x y p q
line_determined form det B (Err refusal) i x y p q = p ∙ sym q

-- ---- one state, one buffer

writes_determined : {x y buffer left right : List ℕ} {n k : ℕ} → Writes x buffer left n → Writes y buffer right k → x ≡ y → (n ≡ k) × (left ≡ right)
writes_determined {buffer = buffer} p q e =
    (p.number ∙ ap length e ∙ sym q.number, p.fills ∙ ap (λ (z : List ℕ). z ++ drop (length z) buffer) e ∙ sym q.fills)

module _ (form : Form) (det : LinesDetermined form) (s : State) (buffer : List ℕ) where
  abbrev lines : ℕ
  lines = lines_of form s.book s.received

  single : Single (step_checks s buffer)
  single = (place_single s.book, (nothing_single, tt))

  -- a stepper whose answers are those of `next`, but for what is written
  module _ (P : State → List ℕ → Line → Type 0)
      (writes : (t : State) (x : List ℕ) (n : ℕ) → P t x (Line.Written n) → Pass (step_checks s buffer) × (s.line < lines))
      (over : (t : State) (x : List ℕ) → P t x Line.Over → Next form s t buffer x Line.Over)
      (refused : (t : State) (x : List ℕ) (r : Reason) → P t x (Line.Refused r) → Next form s t buffer x (Line.Refused r))
      (both : (t u : State) (x y : List ℕ) (n k : ℕ) → P t x (Line.Written n) → P u y (Line.Written k) → (n ≡ k) × (t ≡ u) × (x ≡ y)) where
    answers_determined : (t u : State) (x y : List ℕ) (r q : Line) → P t x r → P u y q → (r ≡ q) × (t ≡ u) × (x ≡ y)
    answers_determined t u x y (Line.Written n) (Line.Written k) p q =
        let same = both t u x y n k p q in
        (ap Line.Written same.0, same.1, same.2)
    answers_determined t u x y (Line.Written n) Line.Over p q = absurd (omega (arith, (writes t x n p).1, (over u y q).1))
    answers_determined t u x y (Line.Written n) (Line.Refused r) p q =
        absurd (pass_not_fail (step_checks s buffer) r (writes t x n p).0 (refused u y r q).0)
    answers_determined t u x y Line.Over (Line.Written k) p q = absurd (omega (arith, (writes u y k q).1, (over t x p).1))
    answers_determined t u x y Line.Over Line.Over p q =
        let one = over t x p in
        let other = over u y q in
        (refl, one.2 ∙ sym other.2, one.3 ∙ sym other.3)
    answers_determined t u x y Line.Over (Line.Refused r) p q =
        absurd (pass_not_fail (step_checks s buffer) r (over t x p).0 (refused u y r q).0)
    answers_determined t u x y (Line.Refused r) (Line.Written k) p q =
        absurd (pass_not_fail (step_checks s buffer) r (writes u y k q).0 (refused t x r p).0)
    answers_determined t u x y (Line.Refused r) Line.Over p q =
        absurd (pass_not_fail (step_checks s buffer) r (over u y q).0 (refused t x r p).0)
    answers_determined t u x y (Line.Refused r) (Line.Refused v) p q =
        let one = refused t x r p in
        let other = refused u y v q in
        (ap Line.Refused (fail_determined (step_checks s buffer) single one.0 other.0), one.1 ∙ sym other.1, one.2 ∙ sym other.2)

  -- ---- the next line

  next_both : (t u : State) (x y : List ℕ) (n k : ℕ) → NextLine form s t buffer x n → NextLine form s u buffer y k → (n ≡ k) × (t ≡ u) × (x ≡ y)
  next_both t u x y n k p q =
      let same = line_determined form det s.book s.received s.line p.bytes q.bytes p.is_line q.is_line in
      let puts = writes_determined p.writes q.writes same in
      (puts.0, p.further ∙ sym q.further, puts.1)

  pub next_determined : (t u : State) (x y : List ℕ) (r q : Line) → Next form s t buffer x r → Next form s u buffer y q → (r ≡ q) × (t ≡ u) × (x ≡ y)
  next_determined =
      answers_determined (λ t x r. Next form s t buffer x r) (λ t x n p. (p.checked, p.more)) (λ t x p. p) (λ t x r p. p) next_both

-- ---- the lines of a page

module _ (form : Form) (det : LinesDetermined form) (B : Book) (received : Result Unit Refusal) (places i : ℕ) where
  lines_up : {j : ℕ} {x : List ℕ} → Lines form B received places i j x → i ≤ j
  lines_up none = omega arith
  lines_up (then more l room left is) = omega (arith, lines_up l)

  lines_determined : {j k : ℕ} {x y : List ℕ} → Lines form B received places i j x → Lines form B received places i k y → j ≡ k → x ≡ y
  lines_determined none none q = refl
  lines_determined none (then more l room left is) q = absurd (omega (arith, lines_up l))
  lines_determined (then more l room left is) none q = absurd (omega (arith, lines_up l))
  lines_determined (then {j} more l room left is) (then {j = k} other m enough more_left is_other) q =
      let e : j ≡ k = omega arith in
      ap₂ (λ (x y : List ℕ). x ++ y) (lines_determined l m e)
      (line_determined form det B received k more other (subst (λ (z : ℕ). LineOf form B received z more) e is) is_other)

  -- before line j was begun, where it was, the lines up to it were written
  lines_through : (j : ℕ) {k : ℕ} {y : List ℕ} → Lines form B received places i k y → i ≤ j → j < k
      → (x : List ℕ) × Lines form B received places i j x × (length x + line_room ≤ places) × (j < lines_of form B received)
  lines_through j none low high = absurd (omega arith)
  lines_through j (then {j = k} {bytes} more l room left is) low high =
      by_eq j k
      (λ q. (bytes, subst (λ (z : ℕ). Lines form B received places i z bytes) (sym q) l, room, omega arith))
      (λ ne. lines_through j l low (omega arith))

  -- lines after which no other can be begun are not followed by more
  lines_last : {j k : ℕ} {x y : List ℕ} → Lines form B received places i j x
      → (lines_of form B received ≤ j) ⊎ (places < length x + line_room) → Lines form B received places i k y → ¬ (j < k)
  lines_last {j} l (inl all) m h = let t = lines_through j m (lines_up l) h in absurd (omega (arith, t.3))
  lines_last {j} l (inr short) m h =
      let t = lines_through j m (lines_up l) h in
      absurd (omega (arith, t.2, ap length (lines_determined l t.1 refl)))

-- ---- a page

module _ (form : Form) (det : LinesDetermined form) (s : State) (buffer : List ℕ) where
  page_stops : {t : State} {x : List ℕ} {n : ℕ} (p : PageOf form s t buffer x n)
      → (lines_of form s.book s.received ≤ t.line) ⊎ (length buffer < length p.bytes + line_room)
  page_stops {t} p = subst (λ (z : ℕ). (lines_of form s.book s.received ≤ t.line) ⊎ (length buffer < z + line_room)) p.writes.number p.whole

  page_last : {t u : State} {x y : List ℕ} {n k : ℕ} → PageOf form s t buffer x n → PageOf form s u buffer y k → ¬ (t.line < u.line)
  page_last p q = lines_last form det s.book s.received (length buffer) s.line p.are_lines (page_stops p) q.are_lines

  page_both : (t u : State) (x y : List ℕ) (n k : ℕ) → PageOf form s t buffer x n → PageOf form s u buffer y k → (n ≡ k) × (t ≡ u) × (x ≡ y)
  page_both t u x y n k p q =
      let shorter = page_last p q in
      let longer = page_last q p in
      let line : t.line ≡ u.line = omega arith in
      let puts =
      writes_determined p.writes q.writes
      (lines_determined form det s.book s.received (length buffer) s.line p.are_lines q.are_lines line) in
      (puts.0, p.further ∙ ap (written s) line ∙ sym q.further, puts.1)

  pub page_determined : (t u : State) (x y : List ℕ) (r q : Line) → Page form s t buffer x r → Page form s u buffer y q → (r ≡ q) × (t ≡ u) × (x ≡ y)
  page_determined =
      answers_determined form det s buffer (λ t x r. Page form s t buffer x r) (λ t x n p. (p.checked, p.more)) (λ t x p. p) (λ t x r p. p) page_both
