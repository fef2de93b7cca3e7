-- Any two outcomes of a call that specs/Calls.antt permits for the same input agree: the answer, the book and every place of
-- every lent list. An offer that keeps its edge leaves the choice of forests open and with it moved, and a question moved: there
-- the rest agrees, and the same edges have a forest.
--
-- Two answers of different kinds cannot both be permitted: the checks pass or fail, and an edge is kept or implied. Two of one
-- kind agree because the circuit, the group list and the reason are determined (Determined.antt).
-- Assumes nothing.
use mathlib.Core.Path.{◌≡◌, refl, sym, ap, ap₂, ◌∙◌, subst}
use mathlib.Core.Logic.Iff
use mathlib.Core.Logic.{◌↔◌}
use mathlib.Core.List.{List, ◌++◌}
use Rattle.std.specs.Prelude.{Result, Ok, Err}
use Prim.Native.Nat.{ℕ, ◌≤◌}
use lib.ListN.{length, drop, take-append-drop}
use Rattle.rule.specs.declared.Book.{Book}
use Rattle.rule.specs.declared.Reason.{Reason}
use Rattle.rule.specs.declared.Verdict.{Verdict}
use Rattle.rule.specs.declared.Answer.{Answer}
use Rattle.rule.specs.declared.Answer.TheVariants.{Kept, Implied, Refused}
use Rattle.rule.specs.Sets.{In}
use Rattle.rule.specs.Legal.{Keeps}
use Rattle.rule.specs.Figures.{freedom, dropped}
use Rattle.rule.specs.declared.Edge.{Edge}
use Rattle.rule.specs.Books.{design_of, forest_of, kept_of, offered, next}
use Rattle.rule.specs.Reasons.{Check, Pass, Fail, opening_checks, question_checks, offer_checks, book_checks, groups_checks}
use Rattle.rule.specs.Calls.{ImpliesIt, OfferKept, OfferImplied, Offer, Question, Open, Freedom, Dropped, Judge, Grouped}
use Rattle.rule.proofs.Tests.{in_split}
use Rattle.rule.proofs.Determined.{circuit_determined, groups_determined, fail_determined, pass_not_fail, nothing_single, place_single, Single}

-- ---- the checks

offer_single : (B : Book) (given : Edge) (list : List ℕ) → Single (offer_checks B given list)
offer_single B given list =
    (place_single B, (nothing_single, (nothing_single, (nothing_single, (nothing_single, (nothing_single, tt))))))

question_single : (B : Book) (given : Edge) (list : List ℕ) → Single (question_checks B given list)
question_single B given list = (place_single B, (nothing_single, (nothing_single, (nothing_single, (nothing_single, tt)))))

-- ---- opening

pub open_determined : (a b n : ℕ) (book other : Book) (x y : Result Unit Reason) → Open a b n book x → Open a b n other y → (book ≡ other) × (x ≡ y)
open_determined a b n book other (Ok _) (Ok _) p q = (p.1 ∙ sym q.1, refl)
open_determined a b n book other (Ok _) (Err r) p q = absurd (pass_not_fail (opening_checks a b n) r p.0 q.0)
open_determined a b n book other (Err r) (Ok _) p q = absurd (pass_not_fail (opening_checks a b n) r q.0 p.0)
open_determined a b n book other (Err r) (Err s) p q =
    (p.1 ∙ sym q.1, ap Err (fail_determined (opening_checks a b n) (nothing_single, (nothing_single, tt)) p.0 q.0))

-- ---- an offer

pub book_eq : (x y : Book) → x.a ≡ y.a → x.b ≡ y.b → x.n ≡ y.n → x.count ≡ y.count → x.ones ≡ y.ones → x.others ≡ y.others
    → x.colours ≡ y.colours → x.forests ≡ y.forests → x ≡ y
book_eq x y a b n c o p q f = λ i. record { a = a i; b = b i; n = n i; count = c i; ones = o i; others = p i; colours = q i; forests = f i }

-- the books agree in all but the choice of forests: the same edges have one, and the places past the edges hold the same
pub record SameButForests (m : ℕ) (x y : Book) : Type 0 where
  pub a : x.a ≡ y.a
  pub b : x.b ≡ y.b
  pub n : x.n ≡ y.n
  pub count : x.count ≡ y.count
  pub ones : x.ones ≡ y.ones
  pub others : x.others ≡ y.others
  pub colours : x.colours ≡ y.colours
  pub as_long : length x.forests ≡ length y.forests
  pub kept : (e : ℕ) → In m e → ((1 ≤ forest_of x e) ↔ (1 ≤ forest_of y e))
  pub past : drop m x.forests ≡ drop m y.forests

-- ---- answers

-- two answers agree: both kept, and then what is said of two kept ones; or both implied or both refused, with the same number or
-- reason, and then what is said of those
abbrev pub AnswersAgree : (kept others : Type 0) → Answer → Answer → Type 0
AnswersAgree kept others (Kept c) (Kept e) = kept
AnswersAgree kept others (Kept c) (Implied e) = ⊥
AnswersAgree kept others (Kept c) (Refused r) = ⊥
AnswersAgree kept others (Implied c) (Kept e) = ⊥
AnswersAgree kept others (Implied c) (Implied e) = (c ≡ e) × others
AnswersAgree kept others (Implied c) (Refused r) = ⊥
AnswersAgree kept others (Refused r) (Kept e) = ⊥
AnswersAgree kept others (Refused r) (Implied e) = ⊥
AnswersAgree kept others (Refused r) (Refused s) = (r ≡ s) × others

-- what every relation between an input and an answer has: the checks cs decide on a refusal, and the claim K on kept or implied
record Decides (cs : List Check) (K : Type 0) (P : Answer → Type 0) : Type 0 where
  kept : (c : ℕ) → P (Kept c) → Pass cs × K
  implied : (c : ℕ) → P (Implied c) → Pass cs × ¬ K
  refused : (r : Reason) → P (Refused r) → Fail cs r

module _ (cs : List Check) (single : Single cs) (K kept others : Type 0) (P Q : Answer → Type 0) (p : Decides cs K P) (q : Decides cs K Q)
    (both_kept : (c e : ℕ) → P (Kept c) → Q (Kept e) → kept) (both_implied : (c e : ℕ) → P (Implied c) → Q (Implied e) → (c ≡ e) × others)
    (both_refused : (r s : Reason) → P (Refused r) → Q (Refused s) → others) where
  answers_agree : (x y : Answer) → P x → Q y → AnswersAgree kept others x y
  answers_agree (Kept c) (Kept e) a b = both_kept c e a b
  answers_agree (Kept c) (Implied e) a b = (q.implied e b).1 (p.kept c a).1
  answers_agree (Kept c) (Refused r) a b = pass_not_fail cs r (p.kept c a).0 (q.refused r b)
  answers_agree (Implied c) (Kept e) a b = (p.implied c a).1 (q.kept e b).1
  answers_agree (Implied c) (Implied e) a b = both_implied c e a b
  answers_agree (Implied c) (Refused r) a b = pass_not_fail cs r (p.implied c a).0 (q.refused r b)
  answers_agree (Refused r) (Kept e) a b = pass_not_fail cs r (q.kept e b).0 (p.refused r a)
  answers_agree (Refused r) (Implied e) a b = pass_not_fail cs r (q.implied e b).0 (p.refused r a)
  answers_agree (Refused r) (Refused s) a b = (fail_determined cs single (p.refused r a) (q.refused s b), both_refused r s a b)

-- ---- an offer and a question

module _ (B : Book) (given : Edge) (list : List ℕ) where
  -- the edge's circuit is one list, so its length and the lent list are determined
  implied_determined : {listed lines : List ℕ} {c e : ℕ} → ImpliesIt B given list listed c → ImpliesIt B given list lines e
      → (c ≡ e) × (listed ≡ lines)
  implied_determined p q =
      let same = circuit_determined (offered B given) (kept_of B) (next B) p.is_circuit q.is_circuit in
      (p.number ∙ ap length same ∙ sym q.number, p.fills ∙ ap (λ (z : List ℕ). z ++ drop (length z) list) same ∙ sym q.fills)

  same_but_forests : {after other : Book} {listed lines : List ℕ} {c e : ℕ} → OfferKept B after given list listed c
      → OfferKept B other given list lines e → SameButForests (next B) after other
  same_but_forests {after} {other} p q =
      record {
        a = p.adds.a ∙ sym q.adds.a;
        b = p.adds.b ∙ sym q.adds.b;
        n = p.adds.n ∙ sym q.adds.n;
        count = p.adds.count ∙ sym q.adds.count;
        ones = p.adds.ones ∙ sym q.adds.ones;
        others = p.adds.others ∙ sym q.adds.others;
        colours = p.adds.colours ∙ sym q.adds.colours;
        as_long = p.as_long ∙ sym q.as_long;
        kept =
            λ e h.
            in_split B.count e h
            (λ k. Iff.trans (p.says.earlier e k) (Iff.symm (q.says.earlier e k)))
            (λ z. subst (λ (j : ℕ). (1 ≤ forest_of after j) ↔ (1 ≤ forest_of other j)) (sym z) ((λ _. q.says.new), (λ _. p.says.new)));
        past = p.past ∙ sym q.past;
      }

  same_book : {after other : Book} {listed lines : List ℕ} {c e : ℕ} → OfferImplied B after given list listed c
      → OfferImplied B other given list lines e → after ≡ other
  same_book {after} {other} p q =
      book_eq after other (p.adds.a ∙ sym q.adds.a) (p.adds.b ∙ sym q.adds.b) (p.adds.n ∙ sym q.adds.n)
      (p.adds.count ∙ sym q.adds.count) (p.adds.ones ∙ sym q.adds.ones) (p.adds.others ∙ sym q.adds.others)
      (p.adds.colours ∙ sym q.adds.colours) (p.forests ∙ sym q.forests)

  abbrev Kept? : Type 0
  Kept? = Keeps (offered B given) (kept_of B) (next B)

  offer_decides : (after : Book) (listed : List ℕ) → Decides (offer_checks B given list) Kept? (Offer B after given list listed)
  offer_decides after listed =
      record { kept = λ c p. (p.checked, p.says.keeps); implied = λ c p. (p.checked, p.says.implies); refused = λ r p. p.0 }

  question_decides : (listed : List ℕ) → Decides (question_checks B given list) Kept? (Question B given list listed)
  question_decides listed =
      record { kept = λ c p. (p.checked, p.says.keeps); implied = λ c p. (p.checked, p.says.implies); refused = λ r p. p.0 }

  pub offer_determined : (after other : Book) (listed lines : List ℕ) (x y : Answer) → Offer B after given list listed x
      → Offer B other given list lines y
      → AnswersAgree (SameButForests (next B) after other × (listed ≡ lines)) ((after ≡ other) × (listed ≡ lines)) x y
  offer_determined after other listed lines =
      answers_agree (offer_checks B given list) (offer_single B given list) Kept? _ _ _ _ (offer_decides after listed)
      (offer_decides other lines)
      (λ c e p q. (same_but_forests p q, p.unwritten ∙ sym q.unwritten))
      (λ c e p q. let w = implied_determined p.says q.says in (w.0, (same_book p q, w.1)))
      (λ r s p q. (p.1 ∙ sym q.1, p.2 ∙ sym q.2))

  pub question_determined : (listed lines : List ℕ) (x y : Answer) → Question B given list listed x
      → Question B given list lines y → AnswersAgree (listed ≡ lines) (listed ≡ lines) x y
  question_determined listed lines =
      answers_agree (question_checks B given list) (question_single B given list) Kept? _ _ _ _ (question_decides listed)
      (question_decides lines)
      (λ c e p q. p.unwritten ∙ sym q.unwritten)
      (λ c e p q. implied_determined p.says q.says)
      (λ r s p q. p.1 ∙ sym q.1)

-- ---- calls that answer a figure, a verdict or a list

book_single : (B : Book) → Single (book_checks B)
book_single B = (place_single B, tt)

-- two figures by one definition
figure_determined : (B : Book) (number : ℕ) (P : Result ℕ Reason → Type 0) → ((c : ℕ) → P (Ok c) → Pass (book_checks B) × (c ≡ number))
    → ((r : Reason) → P (Err r) → Fail (book_checks B) r) → (x y : Result ℕ Reason) → P x → P y → x ≡ y
figure_determined B number P n f (Ok c) (Ok e) p q = ap Ok ((n c p).1 ∙ sym (n e q).1)
figure_determined B number P n f (Ok c) (Err r) p q = absurd (pass_not_fail (book_checks B) r (n c p).0 (f r q))
figure_determined B number P n f (Err r) (Ok e) p q = absurd (pass_not_fail (book_checks B) r (n e q).0 (f r p))
figure_determined B number P n f (Err r) (Err s) p q =
    ap Err (fail_determined (book_checks B) (book_single B) (f r p) (f s q))

pub freedom_determined : (B : Book) (x y : Result ℕ Reason) → Freedom B x → Freedom B y → x ≡ y
freedom_determined B = figure_determined B (freedom (design_of B) (kept_of B)) (Freedom B) (λ c p. p) (λ r p. p)

pub dropped_determined : (B : Book) (x y : Result ℕ Reason) → Dropped B x → Dropped B y → x ≡ y
dropped_determined B = figure_determined B (dropped (design_of B) (kept_of B)) (Dropped B) (λ c p. p) (λ r p. p)

pub judge_determined : (B : Book) (x y : Result Verdict Reason) → Judge B x → Judge B y → x ≡ y
judge_determined B (Ok v) (Ok w) p q = ap Ok (p.1 ∙ sym q.1)
judge_determined B (Ok v) (Err r) p q = absurd (pass_not_fail (book_checks B) r p.0 q)
judge_determined B (Err r) (Ok w) p q = absurd (pass_not_fail (book_checks B) r q.0 p)
judge_determined B (Err r) (Err s) p q = ap Err (fail_determined (book_checks B) (book_single B) p q)

pub grouped_determined : (B : Book) (list listed lines : List ℕ) (x y : Result Unit Reason) → Grouped B list listed x → Grouped B list lines y
    → (listed ≡ lines) × (x ≡ y)
grouped_determined B list listed lines (Ok _) (Ok _) p q = (
  sym (take-append-drop B.n listed)
      ∙ ap₂ (λ (s t : List ℕ). s ++ t) (groups_determined p.1 q.1) (p.2 ∙ sym q.2)
      ∙ take-append-drop B.n lines,
  refl,
)
grouped_determined B list listed lines (Ok _) (Err r) p q = absurd (pass_not_fail (groups_checks B list) r p.0 q.0)
grouped_determined B list listed lines (Err r) (Ok _) p q = absurd (pass_not_fail (groups_checks B list) r q.0 p.0)
grouped_determined B list listed lines (Err r) (Err s) p q =
    (p.1 ∙ sym q.1, ap Err (fail_determined (groups_checks B list) (place_single B, (nothing_single, tt)) p.0 q.0))
