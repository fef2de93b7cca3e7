-- Reading is determined: a text gives one answer, and where it is refused one book; two books that were read from one text agree in all
-- but the choice of forests.
--
-- A text has one sheet (crate text), and a book that was read holds its edges in order and zeros past them (Reading.antt), so the lists of
-- two such books are equal. Both are grown, and what a grown design keeps is determined (crate rule).
-- Assumes nothing.
use mathlib.Core.Path.{◌≡◌, refl, sym, ap, ap₂, ◌∙◌, subst, fun_ext}
use mathlib.Core.Logic.{◌↔◌}
use mathlib.Core.List.{List}
use Prim.Native.Nat.{ℕ, zero, suc, ◌≤◌}
use native.Mathlib.Omega.{arith}
use lib.ListN.{drop}
use Rattle.std.specs.Prelude.{Result, Ok, Err}
use Rattle.rule.specs.declared.Book.{Book}
use Rattle.rule.specs.declared.Reason.{Reason}
use Rattle.rule.specs.Sets.{Is, ◌=?◌, In, at}
use Rattle.rule.specs.Legal.{Design, Grown}
use Rattle.rule.specs.declared.Edge.{Edge}
use Rattle.rule.specs.Books.{design_of, forest_of, kept_of}
use Rattle.rule.proofs.Tests.{same_test}
use Rattle.rule.proofs.Places.{at_zero}
use Rattle.rule.proofs.Determined.{grown_determined}
use Rattle.rule.proofs.Outcomes.{SameButForests}
use Rattle.theory.proofs.Legal.Kept.{kept_make, kept_has, kept_most}
use Rattle.text.specs.Sheets.{Sheet}
use Rattle.text.specs.Faults.{RefusedAt}
use Rattle.text.proofs.Answers.{same_sheet, never_both, judge_determined}
use Rattle.text.specs.declared.Refusal.{Refusal}
use Rattle.reports.specs.Reads.{Reads, Receives}
use Rattle.step.proofs.Runs.{Grew}
use Rattle.readings.proofs.Reading.{zeros, Holds, reads_grew, reads_hold}

-- ---- the design and the kept edges of books that agree

design_eq : (B C : Book) → B.a ≡ C.a → B.b ≡ C.b → B.n ≡ C.n → B.count ≡ C.count → B.ones ≡ C.ones → B.others ≡ C.others
    → B.colours ≡ C.colours → design_of B ≡ design_of C
unfolding design_of
design_eq B C a b n m one other colour =
    λ i. record { a = a i; b = b i; n = n i; m = m i; one = at (one i); other = at (other i); red = λ e. at (colour i) e =? 1 }

pub same_design : (B C : Book) → SameButForests B.count B C → design_of B ≡ design_of C
same_design B C s = design_eq B C s.a s.b s.n s.count s.ones s.others s.colours

-- an edge that is kept is one of the book's
kept_in : (B : Book) (e : ℕ) → Is (kept_of B e) → In B.count e
unfolding design_of
kept_in B zero k = absurd (omega (arith, kept_has (design_of B) (forest_of B) 0 k, at_zero B.forests))
kept_in B (suc i) k = let most = kept_most (design_of B) (forest_of B) (suc i) k in omega arith

-- where the same edges of a book have a forest, the same are kept
kept_to : (B C : Book) → B.count ≡ C.count → ((e : ℕ) → In B.count e → 1 ≤ forest_of B e → 1 ≤ forest_of C e) → (e : ℕ)
    → Is (kept_of B e) → Is (kept_of C e)
unfolding design_of
kept_to B C count has e k =
    let h = kept_in B e k in
    kept_make (design_of C) (forest_of C) e (omega (arith, h.high)) (has e h (kept_has (design_of B) (forest_of B) e k))

pub same_kept : (B C : Book) → SameButForests B.count B C → kept_of B ≡ kept_of C
same_kept B C s =
    fun_ext
    (λ e.
    same_test (kept_of B e) (kept_of C e) (kept_to B C s.count (λ f h. (s.kept f h).0) e)
    (kept_to C B (sym s.count) (λ f h. (s.kept f (subst (λ (m : ℕ). In m f) (sym s.count) h)).1) e))

-- ---- two books of one sheet

module _ {a b n : ℕ} {edges : List Edge} {B C : Book} (p : Holds a b n edges B) (q : Holds a b n edges C) (g_b : Grew B) (g_c : Grew C) where
  same_count : B.count ≡ C.count
  same_count = p.ones.number ∙ sym q.ones.number

  same_ones : B.ones ≡ C.ones
  same_ones = p.ones.fills ∙ sym q.ones.fills

  same_others : B.others ≡ C.others
  same_others = p.others.fills ∙ sym q.others.fills

  same_colours : B.colours ≡ C.colours
  same_colours = p.colours.fills ∙ sym q.colours.fills

  one_design : design_of B ≡ design_of C
  one_design =
      design_eq B C (p.a_is ∙ sym q.a_is) (p.b_is ∙ sym q.b_is) (p.n_is ∙ sym q.n_is) same_count same_ones same_others same_colours

  agree : (e : ℕ) → In B.count e → kept_of B e ≡ kept_of C e
  unfolding design_of
  agree =
      grown_determined (design_of B) (kept_of B) (kept_of C) g_b.grown (subst (λ (d : Design). Grown d (kept_of C)) (sym one_design) g_c.grown)

  same_forest : (e : ℕ) → In B.count e → ((1 ≤ forest_of B e) ↔ (1 ≤ forest_of C e))
  unfolding design_of
  same_forest e h = (
    λ l. kept_has (design_of C) (forest_of C) e (sym (agree e h) ∙ kept_make (design_of B) (forest_of B) e h.high l),
    λ l.
        kept_has (design_of B) (forest_of B) e
        (agree e h ∙ kept_make (design_of C) (forest_of C) e (omega (arith, h.high, same_count)) l),
  )

  holds_same : SameButForests B.count B C
  holds_same =
      record {
        a = p.a_is ∙ sym q.a_is;
        b = p.b_is ∙ sym q.b_is;
        n = p.n_is ∙ sym q.n_is;
        count = same_count;
        ones = same_ones;
        others = same_others;
        colours = same_colours;
        as_long = g_b.full.forests ∙ sym g_c.full.forests;
        kept = same_forest;
        past = p.past ∙ sym (ap (λ (k : ℕ). drop k C.forests) same_count ∙ q.past ∙ ap (λ (k : ℕ). drop k zeros) (sym same_count));
      }

-- two books that were read from one text
pub reads_same : {text : List ℕ} {B C : Book} → Reads text B → Reads text C → SameButForests B.count B C
reads_same {text} {B} {C} p q =
    let one = same_sheet text p.sheet q.sheet p.range q.range p.is_text q.is_text in
    holds_same (reads_hold p) (subst (λ (s : Sheet). Holds s.a s.b s.n s.edges C) (sym one) (reads_hold q)) (reads_grew p) (reads_grew q)

-- ---- reading

-- a text that was read is not refused
pub reads_not_refused : {X : Type 0} {text : List ℕ} {B : Book} {reason : Reason} {line : ℕ} → Reads text B → RefusedAt text reason line → X
reads_not_refused {text = text} p q = never_both text p.sheet q.0 p.range p.is_text q.1

abbrev refusal : Reason → ℕ → Refusal
refusal reason line = record { reason = reason; line = line }

-- a text is refused for one reason, in one line
pub refused_determined : (text : List ℕ) {r s : Reason} {i j : ℕ} → RefusedAt text r i → RefusedAt text s j → (r ≡ s) × (i ≡ j)
refused_determined text {r} {s} {i} {j} p q =
    let one = judge_determined text (Err (refusal r i)) (Err (refusal s j)) p q in
    let same : refusal r i ≡ refusal s j = cc in
    (ap (λ (x : Refusal). x.reason) same, ap (λ (x : Refusal). x.line) same)

-- the books agree: in all but the choice of forests, or whole where the text is refused
abbrev pub BooksAgree : Result Unit Refusal → Book → Book → Type 0
BooksAgree (Ok done) B C = SameButForests B.count B C
BooksAgree (Err refusal) B C = B ≡ C

pub receives_determined : (text : List ℕ) (B C : Book) (r s : Result Unit Refusal) → Receives text B r → Receives text C s → (r ≡ s) × BooksAgree r B C
receives_determined text B C (Ok done) (Ok too) p q = (refl, reads_same p q)
receives_determined text B C (Ok done) (Err refusal) p q = reads_not_refused p q.0
receives_determined text B C (Err refusal) (Ok done) p q = reads_not_refused q p.0
receives_determined text B C (Err r) (Err s) p q =
    let one = refused_determined text p.0 q.0 in
    (ap₂ (λ (reason : Reason) (line : ℕ). Err (refusal reason line)) one.0 one.1, p.1 ∙ sym q.1)
