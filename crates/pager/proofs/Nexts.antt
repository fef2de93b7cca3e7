-- The next line alone is a page that is lent a line's room, or the whole buffer where that has less.
--
-- A buffer without a line's room is refused by both alike.
-- A second line would be begun with a line's room left; but the first one has a byte (Rooms.antt), so that less is left. And one line there
-- is, since a page that has lines to come writes as many as have room. The places past those that are lent stay as they are.
-- Assumes nothing.
use Rattle.std.specs.Prelude.{Result}
use mathlib.Core.Path.{◌≡◌, refl, ap, ◌∙◌}
use mathlib.Core.Logic.{◌⊎◌, inl, inr, ⊎_elim}
use mathlib.Core.List.{List, [], ◌++◌}
use Prim.Native.Nat.{ℕ, suc, ◌+◌, ◌≤◌, ◌<◌}
use native.Mathlib.Omega.{arith}
use lib.ListN.{length, take, drop, length-append, take-append-drop}
use lib.Seq.{length-take-le}
use Rattle.rule.specs.declared.Book.{Book}
use Rattle.rule.specs.declared.Reason.{Reason}
use Rattle.rule.specs.Reasons.{Pass, Fail}
use Rattle.text.specs.declared.Refusal.{Refusal}
use Rattle.reports.specs.declared.State.{State}
use Rattle.reports.specs.declared.Line.{Line}
use Rattle.reports.specs.Steps.{LineOf, written, line_room, step_checks, NextLine, Next, Lines, PageOf, Page}
use Rattle.reports.specs.Steps.Lines.{none, then}
use Rattle.pager.specs.declared.Kind.{Kind}
use Rattle.pager.specs.Kinds.{form_of}
use Rattle.pager.proofs.Rooms.{no_line_empty}
use Rattle.pager.proofs.Runs.{writes_whole}

-- where a line stands there is no room for another
no_second : (kind : Kind) (B : Book) (received : Result Unit Refusal) {places i j : ℕ} {bytes : List ℕ} (more : List ℕ)
    → Lines (form_of kind) B received places i j bytes → LineOf (form_of kind) B received j more → length (bytes ++ more) + line_room ≤ places
    → places ≡ line_room → ⊥
no_second kind B received {j = j} {bytes} more earlier is room all =
    omega (arith, length-append bytes more, no_line_empty kind B received j more is)

-- so there is no line, or one
alone : (kind : Kind) (B : Book) (received : Result Unit Refusal) {places i j : ℕ} {bytes : List ℕ} → places ≡ line_room
    → Lines (form_of kind) B received places i j bytes → ((j ≡ i) × (bytes ≡ [])) ⊎ ((j ≡ suc i) × LineOf (form_of kind) B received i bytes)
alone kind B received all none = inl (refl, refl)
alone kind B received all (then more none room less is) = inr (refl, is)
alone kind B received all (then more (then first earlier room₁ less₁ is₁) room less is) =
    absurd (no_second kind B received first earlier is₁ room all)

module _ (kind : Kind) (before : State) (buffer : List ℕ) (room : line_room ≤ length buffer) where
  front_long : length (take line_room buffer) ≡ line_room
  front_long = length-take-le line_room buffer room

  pass_whole : Pass (step_checks before (take line_room buffer)) → Pass (step_checks before buffer)
  pass_whole p = (p.0, (room, tt))

  fail_whole : (reason : Reason) → Fail (step_checks before (take line_room buffer)) reason → Fail (step_checks before buffer) reason
  fail_whole reason (inl x) = inl x
  fail_whole reason (inr (sound, inl x)) = absurd (x.0 (omega (arith, front_long)))
  fail_whole reason (inr (sound, inr x)) = absurd x.1

  kept_whole : (part : List ℕ) → part ≡ take line_room buffer → part ++ drop line_room buffer ≡ buffer
  kept_whole part q = ap (λ (l : List ℕ). l ++ drop line_room buffer) q ∙ take-append-drop line_room buffer

  module _ (part : List ℕ) (long : length part ≡ length (take line_room buffer)) where
    next_line : (after : State) (size : ℕ) → PageOf (form_of kind) before after (take line_room buffer) part size
        → NextLine (form_of kind) before after buffer (part ++ drop line_room buffer) size
    next_line after size p = ⊎_elim none_came one_came (alone kind before.book before.received front_long p.are_lines)
      where
        none_came : (after.line ≡ before.line) × (p.bytes ≡ []) → NextLine (form_of kind) before after buffer (part ++ drop line_room buffer) size
        none_came x =
            let empty : size ≡ 0 = p.writes.number ∙ ap length x.1 in
            absurd (⊎_elim (λ past. omega (arith, p.more, x.0)) (λ full. omega (arith, front_long)) p.whole)

        one_came : (after.line ≡ suc before.line) × LineOf (form_of kind) before.book before.received before.line p.bytes
            → NextLine (form_of kind) before after buffer (part ++ drop line_room buffer) size
        one_came x =
            record {
              checked = pass_whole p.checked;
              more = p.more;
              bytes = p.bytes;
              is_line = x.1;
              writes = writes_whole buffer room part long p.bytes size p.writes;
              further = p.further ∙ ap (written before) x.0;
            }

    pub next_of_page : (after : State) (answer : Line) → Page (form_of kind) before after (take line_room buffer) part answer
        → Next (form_of kind) before after buffer (part ++ drop line_room buffer) answer
    next_of_page after (Line.Written size) p = next_line after size p
    next_of_page after Line.Over p = (pass_whole p.0, p.1, p.2, kept_whole part p.3)
    next_of_page after (Line.Refused reason) p = (fail_whole reason p.0, p.1, kept_whole part p.2)

-- ---- a buffer without a line's room

pub next_of_short : (kind : Kind) (before after : State) (buffer buffered : List ℕ) → length buffer < line_room → (answer : Line)
    → Page (form_of kind) before after buffer buffered answer → Next (form_of kind) before after buffer buffered answer
next_of_short kind before after buffer buffered short (Line.Written size) p = absurd (omega (arith, p.checked.1.0))
next_of_short kind before after buffer buffered short Line.Over p = p
next_of_short kind before after buffer buffered short (Line.Refused reason) p = p
