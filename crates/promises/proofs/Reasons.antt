-- Reasons that are never given: no fault of a text has the number 5, 7 or 8, and a question is never refused with 6.
--
-- The number of a refusal is that of one of the checks. A text line that is not the one due has 9; the checks of the lines that are due
-- have 1, 1, 2, 6, and 3 and 4 for an edge line. A question has 8, 5, 3, 4 and 7.
-- Assumes nothing.
use mathlib.Core.Path.{◌≡◌, refl, sym, subst}
use mathlib.Core.Logic.{◌⊎◌, inl, inr, ◌≢◌}
use mathlib.Core.List.{List, [], ◌∷◌}
use Prim.Native.Nat.{ℕ, ◌<◌}
use native.Mathlib.Omega.{arith}
use Rattle.rule.specs.declared.Edge.{Edge}
use Rattle.rule.specs.declared.Book.{Book}
use Rattle.rule.specs.declared.Reason.{Reason}
use Rattle.rule.specs.declared.Answer.TheVariants.{Refused}
use Rattle.rule.specs.Reasons.{number_of, Check, Fail, question_checks}
use Rattle.rule.specs.Calls.{Question}
use Rattle.text.specs.Due.{Said, nothing, to_a, to_b, to_bodies, to_edges, due}
use Rattle.text.specs.Faults.{AtFault, Faulty, Fault, FirstFault}

-- ---- the number of a refusal

module _ (P : ℕ → Type 0) where
  -- P holds of the number of each check
  abbrev AllNumbers : List Check → Type 0
  AllNumbers [] = Unit
  AllNumbers (c ∷ rest) = P c.number × AllNumbers rest

  fails_with : (checks : List Check) → AllNumbers checks → (reason : Reason) → Fail checks reason → P (number_of reason)
  fails_with [] all reason f = absurd f
  fails_with (c ∷ rest) all reason (inl f) = subst P (sym f.1) all.0
  fails_with (c ∷ rest) all reason (inr f) = fails_with rest all.1 reason f.1

-- ---- a text

-- a number that a text may give
pub record InText (number : ℕ) : Type 0 where
  pub not_5 : number ≢ 5
  pub not_7 : number ≢ 7
  pub not_8 : number ≢ 8

early : (number : ℕ) → number < 5 → InText number
early number l = record { not_5 = λ q. omega arith; not_7 = λ q. omega arith; not_8 = λ q. omega arith }

six_or_nine : (number : ℕ) → (number ≡ 6) ⊎ (number ≡ 9) → InText number
six_or_nine number (inl s) = record { not_5 = λ q. omega arith; not_7 = λ q. omega arith; not_8 = λ q. omega arith }
six_or_nine number (inr s) = record { not_5 = λ q. omega arith; not_7 = λ q. omega arith; not_8 = λ q. omega arith }

all_due : (said : Said) (value : (due said).Value) → AllNumbers InText ((due said).checks value)
unfolding due
all_due nothing value = (early 1 (omega arith), tt)
all_due (to_a a) value = (early 1 (omega arith), tt)
all_due (to_b a b) value = (early 2 (omega arith), tt)
all_due (to_bodies a b n) value = (six_or_nine 6 (inl refl), tt)
all_due (to_edges a b n m edges) value = (early 3 (omega arith), (early 4 (omega arith), tt))

faulty_in_text : (said : Said) (rest : List ℕ) (reason : Reason) → Faulty said rest reason → InText (number_of reason)
faulty_in_text said rest reason (AtFault.other none going) = six_or_nine 9 (inr refl)
faulty_in_text said rest reason (AtFault.fails value more next f) = fails_with InText ((due said).checks value) (all_due said value) reason f

pub five_never_in_text : (text : List ℕ) (f : Fault) → FirstFault text f → InText (number_of f.reason)
five_never_in_text text f fault = faulty_in_text fault.said _ f.reason fault.at_fault

-- ---- a question

-- so a question is not refused for a full book
pub question_never_six : (B : Book) (given : Edge) (list listed : List ℕ) (reason : Reason) → Question B given list listed (Refused reason)
    → number_of reason ≢ 6
question_never_six B given list listed reason q =
    fails_with (λ (number : ℕ). number ≢ 6) (question_checks B given list)
    ((λ e. omega arith), ((λ e. omega arith), ((λ e. omega arith), ((λ e. omega arith), ((λ e. omega arith), tt))))) reason q.0
