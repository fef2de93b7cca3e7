-- The lines of successive calls: each call that writes is one line further, so from the first line on the calls write the lines of the
-- state, one after the other, as many as there are; and the next answers that all have come.
-- Assumes nothing.
use mathlib.Core.Path.{◌≡◌, refl, sym, ap, ◌∙◌, subst, subst₂}
use mathlib.Core.Logic.{◌↔◌}
use mathlib.Core.List.{List, [], ◌∷◌, ◌++◌}
use Prim.Native.Nat.{ℕ, suc, ◌+◌, ◌≤◌, ◌<◌}
use native.Mathlib.Omega.{arith}
use lib.ListN.{length, take}
use Rattle.rule.specs.Reasons.{Pass}
use Rattle.rule.proofs.Determined.{pass_not_fail}
use Rattle.reports.specs.declared.State.{State}
use Rattle.reports.specs.declared.Line.{Line}
use Rattle.reports.specs.Steps.{Form, lines_of, LineOf, written, step_checks, NextLine, Next}
use Rattle.readings.proofs.Spelling.{writes_front, AllSay, length_more, says_more}

-- ---- one call

module _ (form : Form) (s t : State) (buffer buffered : List ℕ) where
  -- a call that writes is one line further
  pub next_line_number : (size : ℕ) → NextLine form s t buffer buffered size → t.line ≡ suc s.line
  next_line_number size w = ap (λ (z : State). z.line) w.further

  module _ (passed : Pass (step_checks s buffer)) where
    -- where lines are left, it writes
    pub next_writes : s.line < lines_of form s.book s.received → (answer : Line) → Next form s t buffer buffered answer
        → (size : ℕ) × (answer ≡ Line.Written size)
    next_writes left (Line.Written size) n = (size, refl)
    next_writes left Line.Over n = absurd (omega (arith, n.1))
    next_writes left (Line.Refused reason) n = absurd (pass_not_fail (step_checks s buffer) reason passed n.0)

    -- where none is left, it says so
    pub next_over : lines_of form s.book s.received ≤ s.line → (answer : Line) → Next form s t buffer buffered answer → answer ≡ Line.Over
    next_over all (Line.Written size) n = absurd (omega (arith, n.more))
    next_over all Line.Over n = refl
    next_over all (Line.Refused reason) n = absurd (pass_not_fail (step_checks s buffer) reason passed n.0)

-- ---- where all have come

-- the state of a report or a certificate after k lines
module _ (form : Form) (first t u : State) (buffer buffered : List ℕ) (k : ℕ) (there : t ≡ written first k)
    (few : k ≤ lines_of form first.book first.received) where
  pub over_all : Next form t u buffer buffered Line.Over → k ≡ lines_of form first.book first.received
  over_all n =
      let all = subst (λ (z : State). lines_of form z.book z.received ≤ z.line) there n.1 in
      omega arith

  pub all_there : k ≡ lines_of form first.book first.received → lines_of form t.book t.received ≤ t.line
  all_there q = subst (λ (z : State). lines_of form z.book z.received ≤ z.line) (sym there) (omega arith)

  -- the next call whose checks pass says that all have come where they have, and not before
  pub next_ends : Pass (step_checks t buffer) → (answer : Line) → Next form t u buffer buffered answer
      → ((answer ≡ Line.Over) ↔ (k ≡ lines_of form first.book first.received))
  next_ends passed answer n = (
    λ q. over_all (subst (λ (a : Line). Next form t u buffer buffered a) q n),
    λ q. next_over form t u buffer buffered passed (all_there q) answer n,
  )

-- ---- successive calls

-- calls one after the other, each lent a buffer of its own, have written these lines: each the first places of its buffer, so many as it answered
pub data Calls (form : Form) (first : State) : List (List ℕ) → State → Type 0 where
  none : Calls form first [] first
  then : {lines : List (List ℕ)} {s t : State} (buffer buffered : List ℕ) (size : ℕ) → Calls form first lines s
      → Next form s t buffer buffered (Line.Written size) → Calls form first (lines ++ take size buffered ∷ []) t

module _ (form : Form) (first : State) where
  -- they are so many lines further, and nothing else has changed
  pub calls_further : {lines : List (List ℕ)} {t : State} → Calls form first lines t → t ≡ written first (first.line + length lines)
  calls_further none = ap (written first) (omega arith)
  calls_further (then {lines} {s} buffer buffered size run w) =
      let before = calls_further run in
      w.further
      ∙ ap (λ (z : State). written z (suc z.line)) before
      ∙ ap (written first) (omega (arith, length_more lines (take size buffered)))

  -- they are at most as many as there are lines left
  pub calls_few : {lines : List (List ℕ)} {t : State} → first.line ≤ lines_of form first.book first.received → Calls form first lines t
      → first.line + length lines ≤ lines_of form first.book first.received
  calls_few h none = omega arith
  calls_few h (then {lines} {s} buffer buffered size run w) =
      let more = subst (λ (z : State). z.line < lines_of form z.book z.received) (calls_further run) w.more in
      omega (arith, length_more lines (take size buffered))

  module _ (start : first.line ≡ 0) where
    pub calls_there : {lines : List (List ℕ)} {t : State} → Calls form first lines t → t ≡ written first (length lines)
    calls_there run = calls_further run ∙ ap (written first) (omega arith)

    pub calls_within : {lines : List (List ℕ)} {t : State} → Calls form first lines t → length lines ≤ lines_of form first.book first.received
    calls_within run = omega (arith, calls_few (omega arith) run)

    -- the lines written are the lines of the state, from the first on
    pub calls_say : {lines : List (List ℕ)} {t : State} → Calls form first lines t → AllSay (LineOf form first.book first.received) lines
    calls_say none = λ i h. absurd (omega arith)
    calls_say (then {lines} {s} buffer buffered size run w) =
        says_more (LineOf form first.book first.received) lines (take size buffered) (calls_say run)
        (subst₂ (λ (z : State) (bytes : List ℕ). LineOf form z.book z.received z.line bytes) (calls_there run) (sym (writes_front w.writes))
        w.is_line)

    -- after all the lines the answer is that there are no more
    pub calls_over : {lines : List (List ℕ)} {t : State} → Calls form first lines t → length lines ≡ lines_of form first.book first.received
        → (u : State) (buffer buffered : List ℕ) → Pass (step_checks t buffer) → (answer : Line) → Next form t u buffer buffered answer
        → answer ≡ Line.Over
    calls_over {lines} {t} run all u buffer buffered passed answer n =
        (next_ends form first t u buffer buffered (length lines) (calls_there run) (calls_within run) passed answer n).1 all
