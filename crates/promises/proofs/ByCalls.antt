-- The laws of undo as a host sees them: what questions to books answer, of books that came from calls alone, with a list of 378 places
-- lent to each question. No later call is supposed to be answered; that it is follows.
--
--  1 the same edges in another order: the questions answer alike, a refusal with the same reason, and the freedom is the same
--  2 an offer, whatever it was answered, takes nothing out of what is implied
--  3 an offer that was answered implied puts nothing in
--  4 x is kept, and implied once y is offered in its place: then y is implied once x is offered
--
-- An answer that is not a refusal says whether the book implies the edge (Answered.antt), and of books those laws hold (crate step). A
-- refusal is for the edge and the number of bodies, which an offer and another order leave as they are.
--
-- Not here: what books that came from the same edges have to do with each other, Orders.antt.
-- Assumes nothing.
use mathlib.Core.Path.{◌≡◌, sym, ap, ◌∙◌, subst}
use mathlib.Core.List.{List}
use Prim.Native.Nat.{ℕ, ◌≤◌}
use lib.ListN.{length}
use Rattle.std.specs.Prelude.{Result, Ok}
use Rattle.rule.specs.declared.Reason.{Reason}
use Rattle.rule.specs.declared.Book.{Book}
use Rattle.rule.specs.declared.Answer.{Answer}
use Rattle.rule.specs.declared.Answer.TheVariants.{Kept, Implied, Refused}
use Rattle.rule.specs.declared.Edge.{Edge}
use Rattle.rule.specs.Books.{design_of, Sound}
use Rattle.rule.specs.Reasons.{circuit_room, Pass, offer_checks}
use Rattle.rule.specs.Calls.{Offer, Question, Freedom}
use Rattle.step.specs.Runs.{Taken, Run, BookImplies}
use Rattle.step.proofs.Runs.{run_grew, offer_grew}
use Rattle.step.proofs.Undo.{question_implied, undo_order_freedom, undo_order_implied, undo_more_implied, undo_implied_adds_none, undo_exchange}
use Rattle.promises.specs.Undo.{IsImplied, Alike, Came, Reordered}
use Rattle.promises.proofs.AsOffer.{passes_question}
use Rattle.promises.proofs.Orders.{InSomeOrder, came_run, came_reordered}
use Rattle.promises.proofs.Answered.{edge_checks, edge_single, passed_edge, passes_edge, Tells, tells_implied, tells_alike}
use Rattle.promises.proofs.Answered.{question_tells, freedom_tells, offer_implied_implies, offer_kept_not_implies}

-- ---- 1. Another order

module _ {a b n : ℕ} {edges others : List Edge} {B C : Book} (came_b : Came a b n edges B) (came_c : Came a b n others C)
    (order : Reordered edges others) where
  order_of : InSomeOrder (design_of B) (design_of C)
  order_of = came_reordered came_b came_c order

  sound_b : Sound B
  sound_b = (run_grew (came_run came_b)).sound

  sound_c : Sound C
  sound_c = (run_grew (came_run came_c)).sound

  same_bodies : B.n ≡ C.n
  unfolding design_of
  same_bodies = order_of.renumbered.n

  -- the questions answer alike
  pub calls_order_alike : (given : Edge) (list listed lent used : List ℕ) (said told : Answer) → circuit_room ≤ length list
      → circuit_room ≤ length lent → Question B given list listed said → Question C given lent used told → Alike said told
  calls_order_alike given list listed lent used said told long_b long_c p q =
      let r = order_of in
      tells_alike (edge_checks B.n given) (edge_single B.n given) (BookImplies B given) (BookImplies C given)
      (λ fits.
      let range = passed_edge B.n given fits in
      undo_order_implied B C (came_run came_b) (came_run came_c) r.to r.fro r.renumbered given range.one range.other)
      said told (question_tells B given list sound_b long_b listed said p)
      (subst (λ (z : ℕ). Tells (edge_checks z given) (BookImplies C given) told) (sym same_bodies)
      (question_tells C given lent sound_c long_c used told q))

  -- the freedom is the same
  pub calls_order_freedom : (x y : Result ℕ Reason) → Freedom B x → Freedom C y → x ≡ y
  calls_order_freedom x y p q =
      let r = order_of in
      freedom_tells B sound_b x p
      ∙ ap Ok (undo_order_freedom B C (came_run came_b) (came_run came_c) r.to r.fro r.renumbered)
      ∙ sym (freedom_tells C sound_c y q)

-- ---- an offer

module _ (B after : Book) (given : Edge) (list listed : List ℕ) where
  -- the number of bodies stays, so an edge that fits one of the books fits the other
  same_n : (answer : Answer) → Offer B after given list listed answer → B.n ≡ after.n
  same_n (Kept c) o = sym o.adds.n
  same_n (Implied c) o = sym o.adds.n
  same_n (Refused r) o = sym (ap (λ (z : Book). z.n) o.1)

  -- what is implied stays so
  still_implied : (answer : Answer) → Run B → Offer B after given list listed answer → (x : Edge) → BookImplies B x → BookImplies after x
  still_implied (Kept n) run o x i = undo_more_implied B after run x given list listed (Kept n) tt o i
  still_implied (Implied n) run o x i = undo_more_implied B after run x given list listed (Implied n) tt o i
  still_implied (Refused r) run o x i = subst (λ (z : Book). BookImplies z x) (sym o.1) i

-- ---- the other laws: the edge y is offered to a book

module _ (B By : Book) (run : Run B) (x y : Edge) (list listed : List ℕ) where
  -- ---- 2. The offer takes nothing out of what is implied

  pub calls_more_implied : (answer : Answer) → Offer B By y list listed answer → (lent used again filled : List ℕ) (m : ℕ) (said : Answer)
      → Question B x lent used (Implied m) → circuit_room ≤ length again → Question By x again filled said → IsImplied said
  calls_more_implied answer offer_y lent used again filled m said before long asked =
      tells_implied (edge_checks By.n x) (BookImplies By x) said
      (subst (λ (z : ℕ). Pass (edge_checks z x)) (same_n B By y list listed answer offer_y)
      (passes_edge B x lent before.checked))
      (still_implied B By y list listed answer run offer_y x (question_implied B x lent used m before))
      (question_tells By x again (offer_grew y list listed answer offer_y (run_grew run)).sound long filled said asked)

  -- ---- 3. It was answered implied: it puts nothing in

  pub calls_implied_adds_none : (k : ℕ) → Offer B By y list listed (Implied k) → (lent used again filled : List ℕ) (m : ℕ) (said : Answer)
      → Question By x again filled (Implied m) → circuit_room ≤ length lent → Question B x lent used said → IsImplied said
  calls_implied_adds_none k offer_y lent used again filled m said after long asked =
      tells_implied (edge_checks B.n x) (BookImplies B x) said
      (subst (λ (z : ℕ). Pass (edge_checks z x)) (sym (same_n B By y list listed (Implied k) offer_y))
      (passes_edge By x again after.checked))
      (undo_implied_adds_none B By run x y list listed (Implied k) tt offer_y
      (offer_implied_implies B By y list listed k offer_y) (question_implied By x again filled m after))
      (question_tells B x lent (run_grew run).sound long used said asked)

  -- ---- 4. Exchange

  module _ (Bx : Book) (lent used : List ℕ) (k : ℕ) (offer_x : Offer B Bx x lent used (Kept k)) where
    not_implied : ¬ (BookImplies B x)
    not_implied = offer_kept_not_implies B Bx x lent used k offer_x

    fits : Pass (offer_checks B y list) → Pass (edge_checks B.n y)
    fits c = passes_edge B y list (passes_question B y list c)

    taken_exchanged : (answer : Answer) → Taken answer → Offer B By y list listed answer → BookImplies By x
        → BookImplies Bx y
    taken_exchanged answer taken o =
        undo_exchange B By run x y list listed answer taken o Bx lent used (Kept k) tt offer_x not_implied

    -- y fits the book, and is implied once x is offered. (Refused, y would have left x kept.)
    exchanged : (answer : Answer) → Offer B By y list listed answer → BookImplies By x
        → Pass (edge_checks B.n y) × BookImplies Bx y
    exchanged (Kept c) o i = (fits o.checked, taken_exchanged (Kept c) tt o i)
    exchanged (Implied c) o i = (fits o.checked, taken_exchanged (Implied c) tt o i)
    exchanged (Refused r) o i = absurd (not_implied (subst (λ (z : Book). BookImplies z x) o.1 i))

    -- x is kept, and implied once y is offered: then y is implied once x is offered in its place
    pub calls_exchange : (answer : Answer) → Offer B By y list listed answer → (again filled more got : List ℕ) (m : ℕ) (said : Answer)
        → Question By x again filled (Implied m) → circuit_room ≤ length more → Question Bx y more got said → IsImplied said
    calls_exchange answer offer_y again filled more got m said after long asked =
        let follows = exchanged answer offer_y (question_implied By x again filled m after) in
        tells_implied (edge_checks Bx.n y) (BookImplies Bx y) said
        (subst (λ (z : ℕ). Pass (edge_checks z y)) (same_n B Bx x lent used (Kept k) offer_x) follows.0) follows.1
        (question_tells Bx y more (offer_grew x lent used (Kept k) offer_x (run_grew run)).sound long got said asked)
