-- What comes of the checks and of the search, in the words of the contracts: a refusal is handed on, and what a search says of an edge
-- is what a question answers.
-- Assumes nothing.
use mathlib.Core.Path.{◌≡◌, refl, sym, subst}
use mathlib.Core.List.{List, ◌∷◌}
use Prim.Native.Nat.{ℕ}
use Rattle.rule.proofs.Passed.{passed_question}
use Rattle.rule.specs.declared.Book.{Book}
use Rattle.rule.specs.declared.Answer.TheVariants.{Kept, Implied, Refused}
use Rattle.rule.specs.declared.Reason.{Reason}
use Rattle.rule.specs.Reasons.{offer_checks, question_checks}
use Rattle.rule.specs.declared.Edge.{Edge}
use Rattle.rule.specs.Books.{next}
use Rattle.rule.specs.Calls.{KeepsIt, ImpliesIt, Offer, Question}
use Rattle.theory.specs.Exchange.{shifted}
use Rattle.theory.specs.Search.{path_to}
use Rattle.std.specs.Prelude.{Err}
use Rattle.book.specs.Checks.{FoundBy}
use Rattle.engine.specs.Seek.{forests_for, Seekable, EndsIn, Fails}
use Rattle.engine.proofs.Says.{found_says, stuck_says}
use Rattle.step.specs.Answers.{Askable}

-- ---- the checks

module _ (B : Book) (given : Edge) (list : List ℕ) (more : Type 0) (reason : Reason) where
  pub offer_refused : FoundBy (offer_checks B given list) more (Err reason) → Offer B B given list list (Refused reason)
  offer_refused f = (f, refl, refl)

  pub question_refused : FoundBy (question_checks B given list) more (Err reason) → Question B given list list (Refused reason)
  question_refused f = (f, refl)

-- ---- the search

module _ (B : Book) (given : Edge) {list root way edge : List ℕ} (a : Askable B given list root way edge) where
  pub asks : Seekable B given.one given.other root way edge
  asks =
      let c = passed_question B given list a.checked in
      record {
        sound = c.sound;
        one = c.range.one;
        other = c.range.other;
        who = a.who;
        size = a.size;
        tabled = a.tabled;
      }

  pub answers_kept : (path listed : List ℕ) (n f : ℕ) → EndsIn B given path n f → listed ≡ list → Question B given list listed (Kept n)
  answers_kept path listed n f e same =
      let s = asks in
      record {
        checked = a.checked;
        forest = shifted (forests_for B) (next B ∷ path_to e.waiting e.place) f;
        says =
            subst (KeepsIt B given (shifted (forests_for B) (next B ∷ path_to e.waiting e.place) f)) (sym e.counts)
            (found_says B given s.sound s.one s.other e.place f e.waiting e.is_found);
        unwritten = same;
      }

  pub answers_implied : (listed : List ℕ) (n : ℕ) → Fails B given list listed n → Question B given list listed (Implied n)
  answers_implied listed n f =
      let s = asks in
      record {
        checked = a.checked;
        says =
            subst (ImpliesIt B given list listed) (sym f.counts)
            (stuck_says B given s.sound s.one s.other f.waiting f.is_stuck list listed f.fills f.as_long);
      }
