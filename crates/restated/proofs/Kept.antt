-- An offered edge is kept, by the words of crate rule, exactly when the kept bars with its bar are legal in lists; and so with one kept edge left out.
--
-- The bars of a book's kept edges are read off its arrays place by place, and the bar of the offered edge stands in front of them. So the bars of
-- the kept edges with the offered one, in the design with one edge more, are those of specs/BookBars.antt, and legal is legal (Same.antt).
-- Not here: which edges are the circuit, which is in Circuits.antt.
-- Assumes nothing.
use mathlib.Core.Path.{◌≡◌, refl, sym, ◌∙◌, subst}
use mathlib.Core.Logic.{◌↔◌, ◌≢◌}
use mathlib.Core.Bool.{Bool, true, not, ◌&&◌}
use mathlib.Core.List.{List, ◌∷◌}
use Prim.Native.Nat.{ℕ, zero, suc, ◌≤◌, ◌<◌}
use native.Mathlib.Omega.{arith}
use lib.Dec.{eqb, ltb}
use lib.ListN.{get_or}
use Rattle.rule.specs.declared.Book.{Book}
use Rattle.rule.specs.Sets.{◌and◌, isnt, ◌=?◌, ◌<?◌, Set, In, ◌with◌, ◌without◌, at}
use Rattle.rule.specs.Legal.{Design, Legal, Keeps}
use Rattle.rule.specs.declared.Edge.{Edge}
use Rattle.rule.specs.Books.{design_of, forest_of, kept_of, offered, plus, next, Sound}
use Rattle.rule.proofs.Tests.{same_test, and_make, and_l, and_r, isnt_make, isnt_not, eq_of, eq_is, lt_of, lt_is, put_same, put_other, without_old, without_ne, without_make}
use Rattle.theory.proofs.Legal.Kept.{kept_make, kept_has}
use Rattle.theory.proofs.Laws.Plus.{plus_one, plus_other, plus_red, new_one, new_other, new_red}
use Rattle.engine.proofs.Says.{offered_ends}
use Rattle.restated.specs.Bars.{Bar, LegalBars}
use Rattle.restated.specs.BookBars.{place_bar, front_if, kept_up_to, kept_but, kept_bars, new_bar, LegalWith}
use Rattle.restated.proofs.Inside.{edge_bar, bars_of}
use Rattle.restated.proofs.Deals.{bars_agree}
use Rattle.restated.proofs.Same.{legal_iff_bars}

-- ---- the kept edges of a book

module _ (B : Book) where
  -- edge i + 1 is kept and is not y, by the arrays
  abbrev stays : (y i : ℕ) → Bool
  stays y i = not (eqb (suc i) y) && ltb 0 (get_or B.forests i 0)

  kept_stays : (y i : ℕ) → i < B.count → (kept_of B without y) (suc i) ≡ stays y i
  unfolding ◌and◌ isnt ◌=?◌ ◌<?◌ at design_of
  kept_stays y i h =
      same_test ((kept_of B without y) (suc i)) (isnt (suc i =? y) and 0 <? at B.forests (suc i))
      (λ k.
      and_make (isnt (suc i =? y)) _ (isnt_make (suc i =? y) (λ e. without_ne (kept_of B) y (suc i) k (eq_of (suc i) y e)))
      (lt_is 0 (at B.forests (suc i)) (kept_has (design_of B) (forest_of B) (suc i) (without_old (kept_of B) y (suc i) k))))
      (λ k.
      without_make (kept_of B) y (suc i)
      (kept_make (design_of B) (forest_of B) (suc i) (omega arith) (lt_of 0 (at B.forests (suc i)) (and_r (isnt (suc i =? y)) _ k)))
      (λ q. isnt_not (suc i =? y) (and_l (isnt (suc i =? y)) _ k) (eq_is (suc i) y q)))

  -- the bars of a design that has the book's edges
  module _ (d : Design) (same_bar : (i : ℕ) → i < B.count → edge_bar d (suc i) ≡ place_bar B i) where
    kept_up_to_lem : (y m : ℕ) → m ≤ B.count → bars_of d (kept_of B without y) m ≡ kept_up_to B y m
    unfolding bars_of kept_up_to
    kept_up_to_lem y zero h = refl
    kept_up_to_lem y (suc m) h =
        λ j. front_if (kept_stays y m (omega arith) j) (same_bar m (omega arith) j) (kept_up_to_lem y m (omega arith) j)

    pub but_bars : (y : ℕ) → bars_of d (kept_of B without y) B.count ≡ kept_but B y
    but_bars y = kept_up_to_lem y B.count (omega arith)

    pub all_bars : bars_of d (kept_of B) B.count ≡ kept_bars B
    all_bars = bars_agree d (kept_of B) (kept_of B without 0) B.count (λ i h. sym (put_other (kept_of B) 0 _ i (omega arith))) ∙ but_bars 0

  pub own_bars : bars_of (design_of B) (kept_of B) B.count ≡ kept_bars B
  unfolding edge_bar design_of at ◌=?◌
  own_bars = all_bars (design_of B) (λ i h. refl)

-- ---- with an offered edge

module _ (B : Book) (given : Edge) where
  bar_new : edge_bar (offered B given) (next B) ≡ new_bar given
  unfolding edge_bar design_of ◌=?◌
  bar_new =
      let d = design_of B in
      λ j. record { one = new_one d given j; other = new_other d given j; red = new_red d given j }

  bar_old : (i : ℕ) → i < B.count → edge_bar (offered B given) (suc i) ≡ place_bar B i
  unfolding edge_bar design_of at ◌=?◌
  bar_old i h =
      let d = design_of B in
      let old : suc i ≢ suc B.count = λ q. omega arith in
      λ j. record { one = plus_one d given (suc i) old j; other = plus_other d given (suc i) old j; red = plus_red d given (suc i) old j }

  -- the offered edge with some of the others
  new_with : (s : Set) (bars : List Bar) → bars_of (offered B given) s B.count ≡ bars
      → bars_of (offered B given) (s with next B) (next B) ≡ new_bar given ∷ bars
  unfolding bars_of
  new_with s bars q =
      let d = offered B given in
      let rest : bars_of d (s with next B) B.count ≡ bars =
      bars_agree d (s with next B) s B.count (λ i h. put_other s (next B) true i (omega arith)) ∙ q in
      λ j. front_if (put_same s (next B) true j) (bar_new j) (rest j)

  module _ (sound : Sound B) (hu : In B.n given.one) (hv : In B.n given.other) where
    legal_with : (s : Set) (bars : List Bar) → bars_of (offered B given) s B.count ≡ bars
        → (Legal (offered B given) (s with next B) ↔ LegalBars B.a B.b B.n (new_bar given ∷ bars))
    unfolding plus design_of
    legal_with s bars q =
        subst (λ (l : List Bar). Legal (offered B given) (s with next B) ↔ LegalBars B.a B.b B.n l) (new_with s bars q)
        (legal_iff_bars (offered B given) (offered_ends B given sound hu hv) (s with next B))

    pub keeps_iff : Keeps (offered B given) (kept_of B) (next B) ↔ LegalWith B given
    keeps_iff = legal_with (kept_of B) (kept_bars B) (all_bars B (offered B given) bar_old)

    pub without_iff : (y : ℕ)
        → (Legal (offered B given) (kept_of B without y with next B) ↔ LegalBars B.a B.b B.n (new_bar given ∷ kept_but B y))
    without_iff y = legal_with (kept_of B without y) (kept_but B y) (but_bars B (offered B given) bar_old y)
