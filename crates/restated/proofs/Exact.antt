-- Offer and question in lists: whatever their contracts permit is what specs/BookBars.antt says of the answer, for every input.
--
-- An edge that is answered kept or implied passed the checks, so the book is sound, the ends are bodies and the lent list has room; then kept and
-- implied are those of the lists (Kept.antt, Circuits.antt). What is said in lists determines the answer, but for moved.
-- Not here: the groups, which are in Groups.antt.
-- Assumes nothing.
use mathlib.Core.Path.{◌≡◌, sym, ◌∙◌}
use mathlib.Core.Logic.{◌⊎◌, inl, inr, ◌↔◌}
use mathlib.Core.List.{List}
use Prim.Native.Nat.{ℕ}
use Rattle.rule.specs.declared.Book.{Book}
use Rattle.rule.specs.declared.Answer.{Answer}
use Rattle.rule.specs.declared.Answer.TheVariants.{Kept, Implied, Refused}
use Rattle.rule.specs.declared.Edge.{Edge}
use Rattle.rule.specs.Calls.{KeepsIt, ImpliesIt, Offer, Question}
use Rattle.rule.proofs.Passed.{Asked, passed_offer, passed_question}
use Rattle.rule.proofs.Outcomes.{AnswersAgree}
use Rattle.step.specs.Runs.{Taken}
use Rattle.promises.specs.Undo.{IsKept, IsImplied}
use Rattle.restated.specs.BookBars.{LegalWith, SaysInLists}
use Rattle.restated.proofs.Kept.{keeps_iff}
use Rattle.restated.proofs.Circuits.{exact_circuit_determined, implied_iff_exact}

module _ (B : Book) (given : Edge) (list : List ℕ) where
  -- ---- what is said

  kept_says : Asked B given list → {forest : ℕ → ℕ} {moved : ℕ} → KeepsIt B given forest moved → LegalWith B given
  kept_says t says = (keeps_iff B given t.sound t.range.one t.range.other).0 says.keeps

  implied_says : Asked B given list → {listed : List ℕ} {number : ℕ} → ImpliesIt B given list listed number → SaysInLists B given list listed (Implied number)
  implied_says t {listed} {number} says = (implied_iff_exact B given t.sound t.range.one t.range.other list listed number t.room).0 says

  module _ (listed : List ℕ) where
    pub offer_says : (after : Book) (answer : Answer) → Offer B after given list listed answer → SaysInLists B given list listed answer
    offer_says after (Kept moved) o = (kept_says (passed_offer B given list o.checked).asked o.says, o.unwritten)
    offer_says after (Implied number) o = implied_says (passed_offer B given list o.checked).asked o.says
    offer_says after (Refused reason) o = o.2

    pub question_says : (answer : Answer) → Question B given list listed answer → SaysInLists B given list listed answer
    question_says (Kept moved) q = (kept_says (passed_question B given list q.checked) q.says, q.unwritten)
    question_says (Implied number) q = implied_says (passed_question B given list q.checked) q.says
    question_says (Refused reason) q = q.1

    -- ---- kept, or else implied

    pub kept_or_implied : (answer : Answer) → Taken answer → SaysInLists B given list listed answer
        → (IsKept answer × LegalWith B given) ⊎ (IsImplied answer × (¬ LegalWith B given))
    kept_or_implied (Kept moved) t s = inl (tt, s.0)
    kept_or_implied (Implied number) t s = inr (tt, s.0)
    kept_or_implied (Refused reason) t s = absurd t

    pub kept_exactly : (answer : Answer) → Taken answer → SaysInLists B given list listed answer → (IsKept answer ↔ LegalWith B given)
    kept_exactly (Kept moved) t s = ((λ _. s.0), (λ _. tt))
    kept_exactly (Implied number) t s = ((λ k. absurd k), s.0)
    kept_exactly (Refused reason) t s = absurd t

    pub implied_exactly : (answer : Answer) → Taken answer → SaysInLists B given list listed answer → (IsImplied answer ↔ (¬ LegalWith B given))
    implied_exactly (Kept moved) t s = ((λ k. absurd k), (λ n. n s.0))
    implied_exactly (Implied number) t s = ((λ _. s.0), (λ _. tt))
    implied_exactly (Refused reason) t s = absurd t

  -- ---- one answer

  pub says_determined : (listed lines : List ℕ) (x y : Answer) → Taken x → Taken y → SaysInLists B given list listed x
      → SaysInLists B given list lines y → AnswersAgree (listed ≡ lines) (listed ≡ lines) x y
  says_determined listed lines (Kept c) (Kept e) t w p q = p.1 ∙ sym q.1
  says_determined listed lines (Kept c) (Implied e) t w p q = q.0 p.0
  says_determined listed lines (Implied c) (Kept e) t w p q = p.0 q.0
  says_determined listed lines (Implied c) (Implied e) t w p q = exact_circuit_determined B given list listed lines c e p.1 q.1
  says_determined listed lines (Kept c) (Refused r) t w p q = absurd w
  says_determined listed lines (Implied c) (Refused r) t w p q = absurd w
  says_determined listed lines (Refused r) y t w p q = absurd t
