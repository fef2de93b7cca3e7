-- Books that came from the same edges in another order: their designs are one, renumbered. And a book that was read came from the edges
-- of its text.
--
-- A book that came from some edges has the design of a new book with those edges put to it in order. Two neighbours changed about leave
-- the same edges with two numbers changed, whatever comes before and behind them; and such changes make every other order.
--
-- Not here: the laws of renumbered designs, crate theory; what follows for the calls, ByCalls.antt.
-- Assumes nothing.
use mathlib.Core.Path.{◌≡◌, refl, sym, ap, ◌∙◌, subst, subst₂}
use mathlib.Core.List.Permᴰ
use mathlib.Core.List.{List, [], ◌∷◌, ◌++◌}
use Prim.Native.Nat.{ℕ}
use Rattle.std.specs.Prelude.{Ok}
use Rattle.rule.specs.declared.Book.{Book}
use Rattle.rule.specs.declared.Answer.{Answer}
use Rattle.rule.specs.declared.Answer.TheVariants.{Kept, Implied, Refused}
use Rattle.rule.specs.Legal.{Design}
use Rattle.rule.specs.declared.Edge.{Edge}
use Rattle.rule.specs.Books.{design_of, plus}
use Rattle.rule.specs.Reasons.{Pass, offer_checks}
use Rattle.rule.specs.Calls.{new_book, Open, Offer}
use Rattle.rule.proofs.Determined.{pass_not_fail}
use Rattle.theory.specs.Order.{Renumbered}
use Rattle.theory.proofs.Laws.Reorder.{renumbered_same, renumbered_then, renumbered_plus, renumbered_swap}
use Rattle.reports.specs.Reads.{Offers, none, then, Reads}
use Rattle.step.specs.Runs.{Taken, Run}
use Rattle.step.specs.Runs.Run.{opened, offered}
use Rattle.step.proofs.Runs.{run_grew}
use Rattle.step.proofs.Undo.{taken_design}
use Rattle.promises.specs.Undo.{Came, begun, took, refused, Reordered}

-- ---- a book and its edges

-- what came from some edges came from opening and a run of offers
pub came_run : {a b n : ℕ} {edges : List Edge} {B : Book} → Came a b n edges B → Run B
came_run {a} {b} {n} (begun o) = opened a b n o
came_run (took e list listed answer came taken o) = offered e list listed answer (came_run came) o
came_run (refused given list listed r came o) = offered given list listed (Refused r) (came_run came) o

-- the design with these edges more, in order
unfoldable with_edges : Design → List Edge → Design
with_edges d [] = d
with_edges d (e ∷ rest) = with_edges (plus d e) rest

with_last : (d : Design) (edges : List Edge) (e : Edge) → with_edges d (edges ++ e ∷ []) ≡ plus (with_edges d edges) e
unfolding with_edges
with_last d [] e = refl
with_last d (x ∷ rest) e = with_last (plus d x) rest e

came_design : {a b n : ℕ} {edges : List Edge} {B : Book} → Came a b n edges B → design_of B ≡ with_edges (design_of (new_book a b n)) edges
unfolding with_edges
came_design (begun o) = ap design_of o.1
came_design {a} {b} {n} (took {edges} {before} {after} e list listed answer came taken o) =
    taken_design before after e list listed answer (run_grew (came_run came)) taken o
    ∙ ap (λ (d : Design). plus d e) (came_design came)
    ∙ sym (with_last (design_of (new_book a b n)) edges e)
came_design (refused given list listed r came o) = ap design_of o.1 ∙ came_design came

-- ---- another order

-- the one is the other, renumbered
pub record InSomeOrder (d e : Design) : Type 0 where
  pub to : ℕ → ℕ
  pub fro : ℕ → ℕ
  pub renumbered : Renumbered d e to fro

-- with the same edges behind both
both_with : (d e : Design) (edges : List Edge) → InSomeOrder d e → InSomeOrder (with_edges d edges) (with_edges e edges)
unfolding with_edges
both_with d e [] r = r
both_with d e (x ∷ rest) r =
    both_with (plus d x) (plus e x) rest
    (record { to = _; fro = _; renumbered = renumbered_plus d e r.to r.fro r.renumbered x })

neighbours : (d : Design) (x y : Edge) (rest : List Edge) → InSomeOrder (with_edges d (x ∷ y ∷ rest)) (with_edges d (y ∷ x ∷ rest))
unfolding with_edges
neighbours d x y rest =
    both_with (plus (plus d x) y) (plus (plus d y) x) rest
    (record { to = _; fro = _; renumbered = renumbered_swap d x y })

reordered_designs : (d : Design) {l k : List Edge} → Reordered l k → InSomeOrder (with_edges d l) (with_edges d k)
unfolding with_edges
reordered_designs d Permᴰ.nil = record { to = _; fro = _; renumbered = renumbered_same d }
reordered_designs d (Permᴰ.cons {a = x} {l₁ = l} {l₂ = k} same r) =
    subst (λ (z : Edge). InSomeOrder (with_edges d (x ∷ l)) (with_edges d (z ∷ k))) same (reordered_designs (plus d x) r)
reordered_designs d (Permᴰ.swap {a = x} {b = y} {l = rest} p q) =
    subst₂ (λ (z w : Edge). InSomeOrder (with_edges d (x ∷ y ∷ rest)) (with_edges d (z ∷ w ∷ rest))) q p (neighbours d x y rest)
reordered_designs d (Permᴰ.trans {l₁ = l} {l₂ = k} {l₃ = j} r s) =
    let p = reordered_designs d r in
    let q = reordered_designs d s in
    record {
      to = _;
      fro = _;
      renumbered =
          renumbered_then (with_edges d l) (with_edges d k) (with_edges d j) p.to p.fro q.to q.fro p.renumbered q.renumbered;
    }

pub came_reordered : {a b n : ℕ} {edges others : List Edge} {B C : Book} → Came a b n edges B → Came a b n others C → Reordered edges others
    → InSomeOrder (design_of B) (design_of C)
came_reordered {a} {b} {n} p q r =
    subst₂ InSomeOrder (sym (came_design p)) (sym (came_design q)) (reordered_designs (design_of (new_book a b n)) r)

-- ---- a book that was read

-- an offer that passed its checks was not refused
pub passed_taken : (before after : Book) (given : Edge) (list listed : List ℕ) (answer : Answer) → Pass (offer_checks before given list)
    → Offer before after given list listed answer → Taken answer
passed_taken before after given list listed (Kept n) pass o = tt
passed_taken before after given list listed (Implied n) pass o = tt
passed_taken before after given list listed (Refused r) pass o = pass_not_fail (offer_checks before given list) r pass o.0

offers_came : {a b n : ℕ} {first B : Book} {edges : List Edge} → Offers first edges B → Came a b n [] first → Came a b n edges B
offers_came none c = c
offers_came (then {before} {after} e list listed answer run pass o) c =
    took e list listed answer (offers_came run c) (passed_taken before after e list listed answer pass o) o

-- a text that was read names a book that opens
pub reads_open : {text : List ℕ} {B : Book} (r : Reads text B)
    → Open r.sheet.a r.sheet.b r.sheet.n (new_book r.sheet.a r.sheet.b r.sheet.n) (Ok tt)
reads_open r = ((r.range.profile, (r.range.bodies, tt)), refl)

pub reads_came : {text : List ℕ} {B : Book} (r : Reads text B) → Came r.sheet.a r.sheet.b r.sheet.n r.sheet.edges B
reads_came r = offers_came r.offers (begun (reads_open r))
