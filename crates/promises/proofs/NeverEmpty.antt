-- The circuit that an offer or a question lists is never empty, whatever the book.
--
-- An edge that is answered implied passed the checks: the book is sound, so a is at least 1, and its ends are two bodies. The search for
-- it (crate theory) then lists its circuit and finds it not empty; and a circuit is one list.
-- Assumes nothing.
use mathlib.Core.Path.{◌≡◌, refl, sym, ap, ◌∙◌, subst}
use mathlib.Core.List.{List}
use Prim.Native.Nat.{ℕ, ◌≤◌}
use lib.ListN.{length}
use Rattle.rule.specs.declared.Book.{Book}
use Rattle.rule.specs.declared.Answer.TheVariants.{Implied}
use Rattle.rule.specs.Sets.{In, ◌without◌, numbers, at}
use Rattle.rule.specs.declared.Edge.{Edge}
use Rattle.rule.specs.Books.{design_of, kept_of, offered, plus, next, Sound, EdgeRange}
use Rattle.rule.specs.Calls.{ImpliesIt, Offer, Question}
use Rattle.rule.proofs.Passed.{passed_offer, passed_question}
use Rattle.rule.proofs.Tests.{put_same}
use Rattle.rule.proofs.Determined.{circuit_determined}
use Rattle.theory.specs.Search.{Waiting, Result, search}
use Rattle.theory.specs.Search.Result.{found, going}
use Rattle.theory.proofs.Legal.Sound.{sound_head}
use Rattle.theory.proofs.Theorems.{circuit_not_empty}
use Rattle.engine.specs.Seek.{forests_for}
use Rattle.engine.proofs.Says.{offered_ends, offered_arranged, offered_last, offered_unplaced, found_says, stuck_is_circuit}

module _ (B : Book) (given : Edge) (sound : Sound B) (range : EdgeRange B.n given) where
  hu : In B.n given.one
  hu = range.one

  hv : In B.n given.other
  hv = range.other

  stuck_some : (w : Waiting) → search (offered B given) (forests_for B) (next B) ≡ going w
      → 1 ≤ length (numbers (w.seen without next B) (next B))
  unfolding plus design_of
  stuck_some w q =
      circuit_not_empty (offered B given) (offered_ends B given sound hu hv) (forests_for B) (offered_arranged B given sound hu hv)
      (next B) (offered_last B given sound hu hv) (offered_unplaced B given sound hu hv) w q (sound_head B sound).profile.0.low
      (λ same. range.different (sym (put_same (at B.ones) (next B) given.one) ∙ same ∙ put_same (at B.others) (next B) given.other))

  said_some : (list listed : List ℕ) (n : ℕ) → ImpliesIt B given list listed n → 1 ≤ n
  said_some list listed n says = by_search (search (offered B given) (forests_for B) (next B)) refl
    where
      by_search : (r : Result) → search (offered B given) (forests_for B) (next B) ≡ r → 1 ≤ n
      by_search (found p i w) q = absurd (says.implies (found_says B given sound hu hv p i w q).keeps)
      by_search (going w) q =
          let again = stuck_is_circuit B given sound hu hv w q in
          let same = circuit_determined (offered B given) (kept_of B) (next B) again says.is_circuit in
          subst (λ (z : ℕ). 1 ≤ z) (ap length same ∙ sym says.number) (stuck_some w q)

module _ (B : Book) (given : Edge) (list listed : List ℕ) (n : ℕ) where
  pub circuit_never_empty : (after : Book) → Offer B after given list listed (Implied n) → 1 ≤ n
  circuit_never_empty after o =
      let c = (passed_offer B given list o.checked).asked in
      said_some B given c.sound c.range list listed n o.says

  pub question_circuit_never_empty : Question B given list listed (Implied n) → 1 ≤ n
  question_circuit_never_empty q =
      let c = passed_question B given list q.checked in
      said_some B given c.sound c.range list listed n q.says
