-- A question answers as an offer would; and an edge 513 gets 6 from an offer, whether the question finds it kept or implied.
--
-- The checks of an offer are those of a question and one more, 6. So what an offer answers, but for 6, a question may answer too, and any
-- two answers of a question agree (crate rule). On a full book an offer fails at 6 where the question passes.
--
-- Not here: the way back, from a question to some offer, SomeOffer.antt.
-- Assumes nothing.
use mathlib.Core.Path.{◌≡◌, ap}
use mathlib.Core.Logic.{◌⊎◌, inl, inr, ⊎_elim, ◌≢◌}
use mathlib.Core.List.{List, [], ◌∷◌, ◌++◌}
use Prim.Native.Nat.{ℕ, ◌≤◌, ◌<◌}
use native.Mathlib.Omega.{arith}
use Rattle.rule.specs.declared.Book.{Book}
use Rattle.rule.specs.declared.Reason.{Reason}
use Rattle.rule.specs.declared.Reason.TheVariants.{Full}
use Rattle.rule.specs.declared.Answer.{Answer}
use Rattle.rule.specs.declared.Answer.TheVariants.{Kept, Implied, Refused}
use Rattle.rule.specs.declared.Edge.{Edge}
use Rattle.rule.specs.Books.{forest_of, capacity}
use Rattle.rule.specs.Reasons.{number_of, place_of, Check, plain, Pass, Fail, question_checks, offer_checks}
use Rattle.rule.specs.Calls.{Offer, Question}
use Rattle.rule.proofs.Passed.{passed_offer}
use Rattle.rule.proofs.Determined.{reason_determined, pass_not_fail}
use Rattle.rule.proofs.Outcomes.{AnswersAgree, question_determined}
use Rattle.step.specs.Runs.{Taken}

-- ---- one check more

module _ (c : Check) where
  pass_shorter : (checks : List Check) → Pass (checks ++ c ∷ []) → Pass checks
  pass_shorter [] p = tt
  pass_shorter (first ∷ rest) p = (p.0, pass_shorter rest p.1)

  pub pass_longer : (checks : List Check) → Pass checks → c.must → Pass (checks ++ c ∷ [])
  pass_longer [] p last = (last, tt)
  pass_longer (first ∷ rest) p last = (p.0, pass_longer rest p.1 last)

  pub fail_shorter : (checks : List Check) (reason : Reason) → Fail (checks ++ c ∷ []) reason
      → Fail checks reason ⊎ (¬ c.must × (number_of reason ≡ c.number) × c.with_it (place_of reason))
  fail_shorter [] reason (inl f) = inr f
  fail_shorter [] reason (inr f) = absurd f.1
  fail_shorter (first ∷ rest) reason (inl f) = inl (inl f)
  fail_shorter (first ∷ rest) reason (inr f) = ⊎_elim (λ g. inl (inr (f.0, g))) (λ g. inr g) (fail_shorter rest reason f.1)

  pub fail_longer : (checks : List Check) (reason : Reason) → Fail checks reason → Fail (checks ++ c ∷ []) reason
  fail_longer [] reason f = absurd f
  fail_longer (first ∷ rest) reason (inl f) = inl f
  fail_longer (first ∷ rest) reason (inr f) = inr (f.0, fail_longer rest reason f.1)

module _ (B : Book) (given : Edge) (list : List ℕ) where
  abbrev pub six : Check
  six = plain 6 (B.count < capacity)

  pub passes_question : Pass (offer_checks B given list) → Pass (question_checks B given list)
  passes_question = pass_shorter six (question_checks B given list)

  -- an offer is refused for a reason of the question, or for 6
  refused_for : (reason : Reason) → Fail (offer_checks B given list) reason → Fail (question_checks B given list) reason ⊎ (reason ≡ Full)
  refused_for reason f =
      ⊎_elim (λ g. inl g) (λ g. inr (reason_determined reason Full g.1 g.2)) (fail_shorter six (question_checks B given list) reason f)

  -- ---- the same answers

  -- what an offer answers, but for 6, a question may answer
  pub offer_as_question : (after : Book) (listed : List ℕ) (answer : Answer) → Offer B after given list listed answer
      → answer ≢ Refused Full → Question B given list listed answer
  offer_as_question after listed (Kept c) o not_six =
      record {
        checked = passes_question o.checked;
        forest = forest_of after;
        says = o.says;
        unwritten = o.unwritten;
      }
  offer_as_question after listed (Implied c) o not_six =
      record { checked = passes_question o.checked; says = o.says }
  offer_as_question after listed (Refused reason) o not_six =
      (⊎_elim (λ f. f) (λ q. absurd (not_six (ap Refused q))) (refused_for reason o.0), o.2)

  -- kept with kept; implied with implied, of one length and list; refused with refused, for one reason
  pub question_as_offer : (after : Book) (listed lines : List ℕ) (answer said : Answer) → Offer B after given list listed answer
      → answer ≢ Refused Full → Question B given list lines said → AnswersAgree (listed ≡ lines) (listed ≡ lines) answer said
  question_as_offer after listed lines answer said o not_six q =
      question_determined B given list listed lines answer said (offer_as_question after listed answer o not_six) q

  -- ---- a full book

  taken_passes : (listed : List ℕ) (said : Answer) → Taken said → Question B given list listed said → Pass (question_checks B given list)
  taken_passes listed (Kept c) taken q = q.checked
  taken_passes listed (Implied c) taken q = q.checked
  taken_passes listed (Refused reason) taken q = absurd taken

  six_when_full : (after : Book) (listed : List ℕ) (answer : Answer) → capacity ≤ B.count → Pass (question_checks B given list)
      → Offer B after given list listed answer → answer ≡ Refused Full
  six_when_full after listed (Kept c) full pass o = absurd (omega (arith, (passed_offer B given list o.checked).space))
  six_when_full after listed (Implied c) full pass o = absurd (omega (arith, (passed_offer B given list o.checked).space))
  six_when_full after listed (Refused reason) full pass o =
      ⊎_elim (λ f. absurd (pass_not_fail (question_checks B given list) reason pass f)) (λ q. ap Refused q) (refused_for reason o.0)

  pub full_book_six : (after : Book) (listed lines : List ℕ) (answer said : Answer) → capacity ≤ B.count → Taken said
      → Question B given list lines said → Offer B after given list listed answer → answer ≡ Refused Full
  full_book_six after listed lines answer said full taken q o = six_when_full after listed answer full (taken_passes lines said taken q) o
