-- The laws of undo over real books: books that came from opening and any run of offers. "Implied by a book" is what a question to it
-- answers.
--
-- Such a book is grown (Runs.antt), so the laws are those of grown designs (crate theory); an offer that is not refused makes the design
-- with one edge more (After.antt).
-- Assumes nothing.
use mathlib.Core.Path.{◌≡◌, sym, subst}
use mathlib.Core.Logic.{◌↔◌}
use mathlib.Core.List.{List}
use Prim.Native.Nat.{ℕ}
use Rattle.rule.proofs.Passed.{passed_offer}
use Rattle.rule.specs.declared.Book.{Book}
use Rattle.rule.specs.declared.Answer.{Answer}
use Rattle.rule.specs.declared.Answer.TheVariants.{Kept, Implied, Refused}
use Rattle.rule.specs.Sets.{In}
use Rattle.rule.specs.Legal.{Design, Grown}
use Rattle.rule.specs.Figures.{freedom}
use Rattle.rule.specs.declared.Edge.{Edge}
use Rattle.rule.specs.Books.{design_of, kept_of, plus}
use Rattle.rule.specs.Calls.{Offer, Question}
use Rattle.theory.specs.Order.{Renumbered, ImpliedBy}
use Rattle.theory.proofs.Theorems.{order_freedom, order_implies, more_implied, implied_adds_none, exchange_law}
use Rattle.theory.proofs.Legal.Sound.{sound_ends}
use Rattle.step.specs.Runs.{Taken, Run, BookImplies}
use Rattle.engine.proofs.After.{design_after}
use Rattle.step.proofs.Runs.{Grew, run_grew, offer_grew}

-- ---- a question says what a book implies

pub question_implied : (B : Book) (given : Edge) (list listed : List ℕ) (n : ℕ) → Question B given list listed (Implied n) → BookImplies B given
unfolding design_of
question_implied B given list listed n q = q.says.implies

pub question_kept : (B : Book) (given : Edge) (list listed : List ℕ) (n : ℕ) → Question B given list listed (Kept n) → ¬ (BookImplies B given)
unfolding design_of
question_kept B given list listed n q implied = implied q.says.keeps

-- ---- an offer that is not refused

pub taken_design : (before after : Book) (given : Edge) (list listed : List ℕ) (answer : Answer) → Grew before → Taken answer
    → Offer before after given list listed answer → design_of after ≡ plus (design_of before) given
taken_design before after given list listed (Kept n) g t o = design_after before after given o.adds g.full (passed_offer before given list o.checked).space
taken_design before after given list listed (Implied n) g t o = design_after before after given o.adds g.full (passed_offer before given list o.checked).space
taken_design before after given list listed (Refused r) g t o = absurd t

pub taken_grown : (before after : Book) (given : Edge) (list listed : List ℕ) (answer : Answer) → Grew before → Taken answer
    → Offer before after given list listed answer → Grown (plus (design_of before) given) (kept_of after)
taken_grown before after given list listed answer g t o =
    subst (λ (d : Design). Grown d (kept_of after)) (taken_design before after given list listed answer g t o)
    (offer_grew given list listed answer o g).grown

-- ---- the first law: another order

module _ (B C : Book) (run_b : Run B) (run_c : Run C) (to fro : ℕ → ℕ) (same : Renumbered (design_of B) (design_of C) to fro) where
  -- the same freedom
  pub undo_order_freedom : freedom (design_of B) (kept_of B) ≡ freedom (design_of C) (kept_of C)
  undo_order_freedom =
      let b = run_grew run_b in
      let c = run_grew run_c in
      order_freedom (design_of B) (design_of C) to fro same (sound_ends B b.sound) (sound_ends C c.sound) (kept_of B) (kept_of C) b.grown c.grown

  -- the same edges are implied
  pub undo_order_implied : (given : Edge) → In B.n given.one → In B.n given.other → (BookImplies B given ↔ BookImplies C given)
  unfolding design_of
  undo_order_implied given hu hv =
      let b = run_grew run_b in
      let c = run_grew run_c in
      order_implies (design_of B) (design_of C) to fro same (sound_ends B b.sound) (sound_ends C c.sound) (kept_of B) (kept_of C) b.grown c.grown given hu hv

-- ---- the other laws: the edge y is offered to a book

module _ (B By : Book) (run : Run B) (x y : Edge) (list listed : List ℕ) (answer : Answer) (taken : Taken answer)
    (offer_y : Offer B By y list listed answer) where
  design_y : design_of By ≡ plus (design_of B) y
  design_y = taken_design B By y list listed answer (run_grew run) taken offer_y

  grown_y : Grown (plus (design_of B) y) (kept_of By)
  grown_y = taken_grown B By y list listed answer (run_grew run) taken offer_y

  -- it takes nothing out of what is implied
  pub undo_more_implied : BookImplies B x → BookImplies By x
  undo_more_implied h =
      subst (λ (d : Design). ImpliedBy d (kept_of By) x) (sym design_y)
      (more_implied (design_of B) x y (kept_of B) (kept_of By) (run_grew run).grown grown_y h)

  -- where y itself is implied, it puts nothing in
  pub undo_implied_adds_none : BookImplies B y → BookImplies By x → BookImplies B x
  undo_implied_adds_none implied h =
      implied_adds_none (design_of B) x y (kept_of B) (kept_of By) (run_grew run).grown grown_y implied
      (subst (λ (d : Design). ImpliedBy d (kept_of By) x) design_y h)

  -- x is not implied by the book, but is once y is offered: then y is implied once x is offered in its place
  pub undo_exchange : (Bx : Book) (lent used : List ℕ) (said : Answer) → Taken said → Offer B Bx x lent used said
      → ¬ (BookImplies B x) → BookImplies By x → BookImplies Bx y
  undo_exchange Bx lent used said taken_x offer_x not h =
      let design_x : design_of Bx ≡ plus (design_of B) x = taken_design B Bx x lent used said (run_grew run) taken_x offer_x in
      let grown_x : Grown (plus (design_of B) x) (kept_of Bx) = taken_grown B Bx x lent used said (run_grew run) taken_x offer_x in
      subst (λ (d : Design). ImpliedBy d (kept_of Bx) y) (sym design_x)
      (exchange_law (design_of B) x y (kept_of B) (kept_of By) (run_grew run).grown grown_y (kept_of Bx) grown_x not
      (subst (λ (d : Design). ImpliedBy d (kept_of By) x) design_y h))
