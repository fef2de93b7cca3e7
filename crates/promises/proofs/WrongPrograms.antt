-- The wrong programs that document 01, "Promises that decide", says demand 2 shuts out: the contract of an offer permits none of them.
--
-- Two offers are enough, P2 of document 01: to a new book [1,2] of 2 bodies a red edge between them is kept, since it is legal by itself;
-- and the same red edge offered again is implied, since two red edges lie inside the two bodies, which hold 1·(2−1) = 1. Whatever the
-- lists lent, of 378 places or more, and whatever forest was chosen.
-- Assumes nothing.
use mathlib.Core.Path.{◌≡◌, refl, sym, ap, subst}
use mathlib.Core.Logic.{inl, ◌≢◌}
use mathlib.Core.Bool.{true}
use mathlib.Core.List.{List}
use Prim.Native.Nat.{ℕ, suc, ◌≤◌, ◌<◌}
use native.Mathlib.Omega.{arith}
use lib.ListN.{length}
use Rattle.rule.specs.declared.Book.{Book}
use Rattle.rule.specs.declared.Reason.{Reason}
use Rattle.rule.specs.declared.Answer.{Answer}
use Rattle.rule.specs.declared.Answer.TheVariants.{Kept, Implied, Refused}
use Rattle.rule.specs.Sets.{Is, ◌and◌, ◌or◌, isnt, ◌=?◌, ◌<?◌, ◌≤?◌, Set, put, ◌with◌, count, at}
use Rattle.rule.specs.Legal.{Design, inside, Sparse, first_part, second_part, Legal, Keeps}
use Rattle.rule.specs.Forests.{kept_in}
use Rattle.rule.specs.declared.Edge.{Edge}
use Rattle.rule.specs.Books.{the_edge, design_of, forest_of, kept_of, plus, offered, next, Sound}
use Rattle.rule.specs.Reasons.{Pass, offer_checks}
use Rattle.rule.specs.Calls.{new_book, Offer}
use Rattle.rule.proofs.Tests.{in_split, in_zero, with_self, with_old}
use Rattle.rule.proofs.Determined.{pass_not_fail}
use Rattle.rule.proofs.Legality.{legal_sub}
use Rattle.theory.proofs.Legal.Kept.{kept_make}
use Rattle.known.proofs.Trying.{some?, every?}
use Rattle.known.proofs.LegalTest.{sparse?, legal?, legal_decides}
use Rattle.engine.proofs.Says.{offered_ends}
use Rattle.step.specs.Runs.{Taken}
use Rattle.step.specs.Runs.Run.{opened}
use Rattle.step.proofs.Runs.{Grew, run_grew, offer_grew}
use Rattle.step.proofs.Undo.{taken_design}
use Rattle.promises.specs.Undo.{IsKept, IsImplied}

-- ---- both offers pass the checks

-- the new book
abbrev pub pair : Book
pair = new_book 1 2 2

-- the edge that is offered to it
abbrev pub red : Edge
red = the_edge 1 2 1

pair_grew : Grew pair
pair_grew = run_grew (opened 1 2 2 (((omega arith, omega arith), (omega arith, tt)), refl))

-- a book of two bodies with room
passes : (B : Book) (list : List ℕ) → Sound B → B.n ≡ 2 → B.count < 512 → 378 ≤ length list → Pass (offer_checks B red list)
passes B list sound two room long =
    (sound, (inl refl, ((omega arith, omega arith), ((λ q. omega arith), (long, (room, tt))))))

-- ---- the first is kept

one_legal : Keeps (offered pair red) (kept_of pair) (next pair)
unfolding new_book design_of plus legal? sparse? every? some? ◌and◌ ◌or◌ isnt ◌=?◌ ◌<?◌ ◌≤?◌ put count at kept_in inside first_part second_part
one_legal = (legal_decides (offered pair red) (offered_ends pair red pair_grew.sound (omega arith) (omega arith)) (kept_of pair with next pair)).0 refl

first_kept : (after : Book) (list listed : List ℕ) (answer : Answer) → 378 ≤ length list → Offer pair after red list listed answer → IsKept answer
unfolding new_book
first_kept after list listed (Kept c) long o = tt
first_kept after list listed (Implied c) long o = o.says.implies one_legal
first_kept after list listed (Refused r) long o =
    pass_not_fail (offer_checks pair red list) r (passes pair list pair_grew.sound refl (omega arith) long) o.0

-- ---- the second is implied

-- two red edges between the two bodies are not legal
two_not_legal : (s : Set) → Is (s 1) → ¬ Legal (plus (offered pair red) red) (s with 2)
unfolding new_book design_of plus Sparse ◌and◌ ◌or◌ ◌=?◌ put count inside first_part
two_not_legal s one legal =
    let both : Legal (plus (offered pair red) red) (λ _. true) =
    legal_sub (plus (offered pair red) red) (λ _. true) (s with 2)
    (λ i h _.
    in_split 1 i h
    (λ l. in_split 0 i l (λ z. in_zero z) (λ q. subst (λ (j : ℕ). Is ((s with 2) j)) (sym q) (with_old s 2 1 one)))
    (λ q. subst (λ (j : ℕ). Is ((s with 2) j)) (sym q) (with_self s 2)))
    legal in
    let over : 2 ≤ 1 = both.reds_with_first (λ _. true) (omega arith) in omega arith

second_not_kept : (after : Book) (list listed : List ℕ) (c : ℕ) → Offer pair after red list listed (Kept c)
    → ¬ Keeps (offered after red) (kept_of after) (next after)
unfolding new_book design_of plus
second_not_kept after list listed c o keeps =
    let design : design_of after ≡ offered pair red = taken_design pair after red list listed (Kept c) pair_grew tt o in
    subst (λ (d : Design). Is (kept_of after 1) → ¬ Legal (plus d red) (kept_of after with suc d.m)) (sym design) (two_not_legal (kept_of after))
    (kept_make (design_of after) (forest_of after) 1 (omega (arith, o.adds.count)) o.says.new) keeps

module _ (after : Book) (list listed : List ℕ) (long : 378 ≤ length list) where
  second_implied : (later : Book) (lent used : List ℕ) (answer said : Answer) → 378 ≤ length lent → Offer pair after red list listed answer
      → Offer after later red lent used said → IsImplied said
  unfolding new_book
  second_implied later lent used (Kept c) (Kept n) room o p = second_not_kept after list listed c o p.says.keeps
  second_implied later lent used (Kept c) (Implied n) room o p = tt
  second_implied later lent used (Kept c) (Refused r) room o p =
      pass_not_fail (offer_checks after red lent) r
      (passes after lent (offer_grew red list listed (Kept c) o pair_grew).sound o.adds.n (omega (arith, o.adds.count)) room) p.0
  second_implied later lent used (Implied c) said room o p = absurd (first_kept after list listed (Implied c) long o)
  second_implied later lent used (Refused r) said room o p = absurd (first_kept after list listed (Refused r) long o)

  -- ---- the wrong programs

  -- a step that refuses all
  pub not_refuses_all : (r : Reason) → ¬ Offer pair after red list listed (Refused r)
  not_refuses_all r o = first_kept after list listed (Refused r) long o

  -- one that implies all
  pub not_implies_all : (n : ℕ) → ¬ Offer pair after red list listed (Implied n)
  not_implies_all n o = first_kept after list listed (Implied n) long o

  module _ (later : Book) (lent used : List ℕ) (room : 378 ≤ length lent) where
    -- one that keeps all
    pub not_keeps_all : (answer : Answer) (n : ℕ) → Offer pair after red list listed answer → ¬ Offer after later red lent used (Kept n)
    not_keeps_all answer n o p = second_implied later lent used answer (Kept n) room o p

    -- one that judges the first edge and then repeats itself: what it answers next is of another kind
    pub not_first_repeated : (answer said : Answer) → Offer pair after red list listed answer → Offer after later red lent used said
        → IsKept answer × IsImplied said
    not_first_repeated answer said o p = (first_kept after list listed answer long o, second_implied later lent used answer said room o p)

    -- one that gives one fixed answer
    pub not_one_answer : (answer : Answer) → Offer pair after red list listed answer → ¬ Offer after later red lent used answer
    not_one_answer answer o p = apart answer (not_first_repeated answer answer o p)
      where
        apart : (x : Answer) → ¬ (IsKept x × IsImplied x)
        apart (Kept n) k = k.1
        apart (Implied n) k = k.0
        apart (Refused r) k = k.0

-- one that leaves the book as found after an offer, whatever the book and the edge
pub not_as_found : (before after : Book) (given : Edge) (list listed : List ℕ) (answer : Answer) → Taken answer
    → Offer before after given list listed answer → after ≢ before
not_as_found before after given list listed (Kept c) taken o same = omega (arith, o.adds.count, ap (λ (B : Book). B.count) same)
not_as_found before after given list listed (Implied c) taken o same = omega (arith, o.adds.count, ap (λ (B : Book). B.count) same)
not_as_found before after given list listed (Refused r) taken o same = absurd taken
