-- What a page answers, case by case: of a book that is not sound, lent a buffer that is too short, of one whose lines have all come, of one with lines
-- to come; and of a refused text, which has one line.
-- Assumes nothing.
use Rattle.std.specs.Prelude.{Result, Ok, Err}
use mathlib.Core.Path.{◌≡◌, refl, sym, ap, subst}
use mathlib.Core.Logic.{◌⊎◌, inl, inr}
use mathlib.Core.List.{List}
use Prim.Native.Nat.{ℕ, suc, ◌+◌, ◌≤◌, ◌<◌}
use native.Mathlib.Omega.{arith}
use lib.ListN.{length}
use Rattle.rule.specs.declared.Reason.{Reason}
use Rattle.rule.specs.Books.{Sound}
use Rattle.rule.specs.Reasons.{Fail, book_checks}
use Rattle.text.specs.Puts.{Writes}
use Rattle.text.specs.declared.Refusal.{Refusal}
use Rattle.reports.specs.declared.State.{State}
use Rattle.reports.specs.declared.Line.{Line}
use Rattle.reports.specs.declared.Stepped.{Stepped}
use Rattle.reports.specs.Reports.{refused_line}
use Rattle.reports.specs.Steps.{Form, lines_of, LineOf, written, line_room, Readable, step_checks, Lines, PageOf, Page}
use Rattle.reports.specs.Steps.Lines.{none, then}
use Rattle.pager.specs.declared.PageEnd.{PageEnd}
use Rattle.pager.specs.Lent.{FullRun}

-- a refused text has no book to be sound
pub none_to_read : (state : State) (refusal : Refusal) → state.received ≡ Err refusal
    → Readable state.book state.received
none_to_read state refusal refused = subst (Readable state.book) (sym refused) tt

module _ (form : Form) (state : State) (buffer : List ℕ) where
  -- what the function `short` answers, where check 8 passed and the buffer is too short; nothing is changed
  pub short_refused : Readable state.book state.received → length buffer < line_room → (r : Stepped)
      → r ≡ record { answer = Line.Refused Reason.Short; state = state } → Page form state r.state buffer buffer r.answer
  short_refused readable short r is =
      subst (λ (z : Stepped). Page form state z.state buffer buffer z.answer) (sym is)
      (inr (readable, inl ((λ room. omega (arith, room)), refl, refl)), refl, refl)

  -- ---- of a book

  module _ (fine : state.received ≡ Ok tt) where
    pub readable : Sound state.book → Readable state.book state.received
    readable sound = subst (Readable state.book) (sym fine) sound

    unreadable : ¬ Sound state.book → ¬ Readable state.book state.received
    unreadable unsound r = unsound (subst (Readable state.book) fine r)

    number_of : lines_of form state.book state.received ≡ form.number state.book
    number_of = ap (lines_of form state.book) fine

    unsound_refused : (reason : Reason) → Fail (book_checks state.book) reason → Fail (step_checks state buffer) reason
    unsound_refused reason (inl f) = inl (unreadable f.0, f.1, f.2)
    unsound_refused reason (inr f) = absurd f.1

    pub book_refused : (reason : Reason) → Fail (book_checks state.book) reason → Page form state state buffer buffer (Line.Refused reason)
    book_refused reason fails = (unsound_refused reason fails, refl, refl)

module _ (form : Form) (state : State) (buffer : List ℕ) (room : line_room ≤ length buffer) where
  module _ (fine : state.received ≡ Ok tt) where
    pub book_over : Sound state.book → form.number state.book ≤ state.line → Page form state state buffer buffer Line.Over
    book_over sound past = (
      (readable form state buffer fine sound, (room, tt)),
      subst (λ (z : ℕ). z ≤ state.line) (sym (number_of form state buffer fine)) past,
      refl,
      refl,
    )

    pub book_lines : Sound state.book → state.line < form.number state.book → (buffered : List ℕ) (filled : PageEnd)
        → FullRun form state.book state.line buffer buffered filled → (after : State) → after ≡ written state filled.line
        → Page form state after buffer buffered (Line.Written filled.end)
    book_lines sound less buffered filled full after is =
        subst (λ (s : State). PageOf form state s buffer buffered filled.end) (sym is)
        (record {
          checked = (readable form state buffer fine sound, (room, tt));
          more = subst (λ (z : ℕ). state.line < z) (sym (number_of form state buffer fine)) less;
          bytes = full.run.bytes;
          are_lines =
              subst (λ (z : Result Unit Refusal). Lines form state.book z (length buffer) state.line filled.line full.run.bytes) (sym fine)
              full.run.are_lines;
          writes = full.run.writes;
          further = refl;
          whole = subst (λ (z : ℕ). (z ≤ filled.line) ⊎ (length buffer < filled.end + line_room)) (sym (number_of form state buffer fine)) full.whole;
        })

  -- ---- of a refused text

  module _ (refusal : Refusal) (refused : state.received ≡ Err refusal) where
    one_line : lines_of form state.book state.received ≡ 1
    one_line = ap (lines_of form state.book) refused

    allowed : Readable state.book state.received
    allowed = none_to_read state refusal refused

    pub refused_over : 0 < state.line → Page form state state buffer buffer Line.Over
    refused_over past = ((allowed, (room, tt)), omega (arith, one_line), refl, refl)

    pub refused_line_lem : state.line ≡ 0 → (buffered : List ℕ) (size : ℕ) → Writes (refused_line refusal.reason refusal.line) buffer buffered size → (after : State)
        → after ≡ written state 1 → Page form state after buffer buffered (Line.Written size)
    refused_line_lem first buffered size writes after is =
        subst (λ (s : State). PageOf form state s buffer buffered size) (sym is)
        (record {
          checked = (allowed, (room, tt));
          more = omega (arith, one_line);
          bytes = refused_line refusal.reason refusal.line;
          are_lines =
              subst (λ (z : ℕ). Lines form state.book state.received (length buffer) state.line z (refused_line refusal.reason refusal.line)) (ap suc first)
              (then (refused_line refusal.reason refusal.line) none (omega arith) (omega (arith, one_line)) says);
          writes = writes;
          further = refl;
          whole = inl (omega (arith, one_line));
        })
      where
        says : LineOf form state.book state.received state.line (refused_line refusal.reason refusal.line)
        says = subst (λ (z : Result Unit Refusal). LineOf form state.book z state.line (refused_line refusal.reason refusal.line)) (sym refused) refl
