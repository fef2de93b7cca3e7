-- What an answer to a question says, where the book is sound and a list with room was lent: a refusal says that the edge does not fit
-- the number of bodies, and each other answer whether the book implies the edge. So two such questions are refused alike.
--
-- Of the checks of a question, the first is that the book is sound and the last that the list has room. Those between name the edge
-- and the number of bodies alone.
--
-- Not here: the laws that come of it, ByCalls.antt; a question beside an offer, AsOffer.antt.
-- Assumes nothing.
use mathlib.Core.Path.{◌≡◌, ap}
use mathlib.Core.Logic.{inl, inr, ⊎_elim, ◌↔◌, ◌≢◌}
use mathlib.Core.List.{List, [], ◌∷◌}
use Prim.Native.Nat.{ℕ, ◌≤◌}
use lib.ListN.{length}
use Rattle.std.specs.Prelude.{Result, Ok, Err}
use Rattle.rule.specs.declared.Book.{Book}
use Rattle.rule.specs.declared.Reason.{Reason}
use Rattle.rule.specs.declared.Answer.{Answer}
use Rattle.rule.specs.declared.Answer.TheVariants.{Kept, Implied, Refused}
use Rattle.rule.specs.Sets.{In}
use Rattle.rule.specs.Figures.{freedom}
use Rattle.rule.specs.declared.Edge.{Edge}
use Rattle.rule.specs.Books.{design_of, kept_of, ColourRange, Sound, EdgeRange}
use Rattle.rule.specs.Reasons.{Check, plain, room, circuit_room, Pass, Fail, question_checks, book_checks}
use Rattle.rule.specs.Calls.{Offer, Question, Freedom}
use Rattle.rule.proofs.Passed.{passed_question}
use Rattle.rule.proofs.Determined.{Single, nothing_single, fail_determined, pass_not_fail}
use Rattle.step.specs.Runs.{BookImplies}
use Rattle.step.proofs.Undo.{question_implied, question_kept}
use Rattle.promises.specs.Undo.{IsImplied, Alike}
use Rattle.promises.proofs.AsOffer.{fail_shorter}

-- ---- an offer

module _ (B after : Book) (given : Edge) (list listed : List ℕ) (n : ℕ) where
  pub offer_implied_implies : Offer B after given list listed (Implied n) → BookImplies B given
  unfolding design_of
  offer_implied_implies o = o.says.implies

  pub offer_kept_not_implies : Offer B after given list listed (Kept n) → ¬ (BookImplies B given)
  unfolding design_of
  offer_kept_not_implies o implied = implied o.says.keeps

-- ---- a question

-- the checks of a question that name the edge, over so many bodies
abbrev pub edge_checks : (n : ℕ) → Edge → List Check
edge_checks n given = plain 5 (ColourRange given.colour) ∷ plain 3 (In n given.one × In n given.other) ∷ plain 4 (given.one ≢ given.other) ∷ []

-- an answer says whether the checks pass and, where they do, whether the edge is implied
abbrev pub Tells : List Check → Type 0 → Answer → Type 0
Tells checks implied (Kept n) = Pass checks × ¬ implied
Tells checks implied (Implied n) = Pass checks × implied
Tells checks implied (Refused r) = Fail checks r

range_passes : (n : ℕ) (given : Edge) → EdgeRange n given → Pass (edge_checks n given)
range_passes n given r = (r.colour, ((r.one, r.other), (r.different, tt)))

pub passed_edge : (n : ℕ) (given : Edge) → Pass (edge_checks n given) → EdgeRange n given
passed_edge n given p = record { one = p.1.0.0; other = p.1.0.1; different = p.1.1.0; colour = p.0 }

module _ (B : Book) (given : Edge) (list : List ℕ) where
  pub passes_edge : Pass (question_checks B given list) → Pass (edge_checks B.n given)
  passes_edge c = range_passes B.n given (passed_question B given list c).range

  module _ (sound : Sound B) (long : circuit_room ≤ length list) where
    fails_edge : (r : Reason) → Fail (question_checks B given list) r → Fail (edge_checks B.n given) r
    fails_edge r (inl f) = absurd (f.0 sound)
    fails_edge r (inr f) =
        ⊎_elim (λ g. g) (λ g. absurd (g.0 long)) (fail_shorter (room circuit_room list) (edge_checks B.n given) r f.1)

    pub question_tells : (listed : List ℕ) (said : Answer) → Question B given list listed said
        → Tells (edge_checks B.n given) (BookImplies B given) said
    question_tells listed (Kept n) q = (passes_edge q.checked, question_kept B given list listed n q)
    question_tells listed (Implied n) q = (passes_edge q.checked, question_implied B given list listed n q)
    question_tells listed (Refused r) q = fails_edge r q.0

-- ---- what is said

-- an edge that fits and is implied is answered so
pub tells_implied : (checks : List Check) (implied : Type 0) (said : Answer) → Pass checks → implied → Tells checks implied said → IsImplied said
tells_implied checks implied (Kept n) pass i s = s.1 i
tells_implied checks implied (Implied n) pass i s = tt
tells_implied checks implied (Refused r) pass i s = pass_not_fail checks r pass s

-- where an edge that fits is implied here exactly when it is there, it is answered alike
pub tells_alike : (checks : List Check) → Single checks → (here there : Type 0) → (Pass checks → (here ↔ there)) → (said told : Answer)
    → Tells checks here said → Tells checks there told → Alike said told
tells_alike checks one here there same (Kept m) (Kept n) s t = tt
tells_alike checks one here there same (Kept m) (Implied n) s t = s.1 ((same s.0).1 t.1)
tells_alike checks one here there same (Kept m) (Refused r) s t = pass_not_fail checks r s.0 t
tells_alike checks one here there same (Implied m) (Kept n) s t = t.1 ((same s.0).0 s.1)
tells_alike checks one here there same (Implied m) (Implied n) s t = tt
tells_alike checks one here there same (Implied m) (Refused r) s t = pass_not_fail checks r s.0 t
tells_alike checks one here there same (Refused r) (Kept n) s t = pass_not_fail checks r t.0 s
tells_alike checks one here there same (Refused r) (Implied n) s t = pass_not_fail checks r t.0 s
tells_alike checks one here there same (Refused r) (Refused q) s t = fail_determined checks one s t

pub edge_single : (n : ℕ) (given : Edge) → Single (edge_checks n given)
edge_single n given = (nothing_single, (nothing_single, (nothing_single, tt)))

-- ---- freedom

pub freedom_tells : (B : Book) → Sound B → (x : Result ℕ Reason) → Freedom B x → x ≡ Ok (freedom (design_of B) (kept_of B))
freedom_tells B sound (Ok f) p = ap Ok p.1
freedom_tells B sound (Err r) p = absurd (pass_not_fail (book_checks B) r (sound, tt) p)
