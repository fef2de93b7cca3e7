-- A set of edges is (c,c)-sparse exactly when the list of its bars is.
--
-- The bars of a set of edges are listed, the newest first. A list of bodies and a set of bodies that hold the same hold as many bars as edges inside,
-- edge by edge; and how many bars are inside is one number. Each list of bodies holds a set, and each set is written as a list
-- (Bodies.antt), as long as the set is large. So one bound is the other.
-- Not here: the split, which is in Deals.antt.
-- Assumes nothing.
use mathlib.Core.Path.{◌≡◌, refl, ap, subst}
use mathlib.Core.Bool.{Bool, true, false, false≢true}
use mathlib.Core.List.{List, [], ◌∷◌}
use Prim.Native.Nat.{ℕ, zero, suc, ◌+◌, ◌*◌, ◌-◌, ◌≤◌}
use native.Mathlib.Omega.{arith}
use lib.ListN.{length}
use Rattle.rule.specs.Sets.{Is, Set, In, one_if, count, numbers}
use Rattle.rule.specs.Legal.{Design, Ends, inside, Sparse}
use Rattle.rule.proofs.Counting.{length_numbers}
use Rattle.rule.proofs.Legality.{inside_make, inside_in, inside_one, inside_other}
use Rattle.restated.specs.Bars.{Bar, Member, BothEnds, HoldInside, SparseBars}
use Rattle.restated.specs.Bars.HoldInside.{no_bars, bar_inside, bar_outside}
use Rattle.restated.specs.BookBars.{front_if}
use Rattle.restated.proofs.Members.{numbers_member, member_numbers}
use Rattle.restated.proofs.Bodies.{held_by, held_member, member_held, held_count, numbers_different}

-- ---- the bars of a set of edges

-- edge e as a bar
unfoldable pub edge_bar : Design → ℕ → Bar
edge_bar d e = record { one = d.one e; other = d.other e; red = d.red e }

-- those of the edges 1 to m that are in s, the newest first
unfoldable pub bars_of : Design → Set → ℕ → List Bar
bars_of d s zero = []
bars_of d s (suc m) = front_if (s (suc m)) (edge_bar d (suc m)) (bars_of d s m)

-- ---- how many are inside

pub inside_one_number : {bodies : List ℕ} {bars : List Bar} {i j : ℕ} → HoldInside bodies bars i → HoldInside bodies bars j → i ≡ j
inside_one_number no_bars no_bars = refl
inside_one_number (bar_inside p h) (bar_inside q k) = ap suc (inside_one_number h k)
inside_one_number (bar_inside p h) (bar_outside q k) = absurd (q p)
inside_one_number (bar_outside p h) (bar_inside q k) = absurd (p q)
inside_one_number (bar_outside p h) (bar_outside q k) = inside_one_number h k

-- one bar more, kept by the test t and inside by the test c
inside_step : (bodies : List ℕ) (x : Bar) (bars : List Bar) (i : ℕ) (t c : Bool) → (Is c → Is t × BothEnds bodies x) → (Is t → BothEnds bodies x → Is c)
    → HoldInside bodies bars i → HoldInside bodies (front_if t x bars) (i + one_if c)
inside_step bodies x bars i true true f g h = subst (HoldInside bodies (x ∷ bars)) (omega arith) (bar_inside (f refl).1 h)
inside_step bodies x bars i true false f g h = subst (HoldInside bodies (x ∷ bars)) (omega arith) (bar_outside (λ o. false≢true (g refl o)) h)
inside_step bodies x bars i false true f g h = absurd (false≢true (f refl).0)
inside_step bodies x bars i false false f g h = subst (HoldInside bodies bars) (omega arith) h

-- a set w and a list of bodies that hold the same
module _ (d : Design) (ends : Ends d) (s w : Set) (bodies : List ℕ) (member : (i : ℕ) → In d.n i → Is (w i) → Member i bodies)
    (held : (i : ℕ) → Member i bodies → Is (w i)) where
  inside_up_to : (m : ℕ) → m ≤ d.m → HoldInside bodies (bars_of d s m) (count (inside d s w) m)
  unfolding bars_of count edge_bar
  inside_up_to zero h = no_bars
  inside_up_to (suc m) h =
      let here : In d.m (suc m) = omega arith in
      inside_step bodies (edge_bar d (suc m)) (bars_of d s m) (count (inside d s w) m) (s (suc m)) (inside d s w (suc m))
      (λ k. (
        inside_in d s w (suc m) k,
        (member _ (ends.one (suc m) here) (inside_one d s w (suc m) k), member _ (ends.other (suc m) here) (inside_other d s w (suc m) k)),
      ))
      (λ k o. inside_make d s w (suc m) k (held _ o.0) (held _ o.1))
      (inside_up_to m (omega arith))

  pub inside_count : HoldInside bodies (bars_of d s d.m) (count (inside d s w) d.m)
  inside_count = inside_up_to d.m (omega arith)

module _ (d : Design) (ends : Ends d) (s : Set) where
  -- the set of a list of bodies
  pub list_inside : (bodies : List ℕ) → HoldInside bodies (bars_of d s d.m) (count (inside d s (held_by bodies)) d.m)
  list_inside bodies = inside_count d ends s (held_by bodies) bodies (λ i h k. held_member bodies i k) (member_held bodies)

  -- the list of a set of bodies
  pub set_inside : (w : Set) → HoldInside (numbers w d.n) (bars_of d s d.m) (count (inside d s w) d.m)
  set_inside w = inside_count d ends s w (numbers w d.n) (numbers_member w d.n) (λ i k. (member_numbers w d.n i k).1)

  -- ---- sparse

  pub sparse_bars : (c : ℕ) → Sparse d c s → SparseBars d.n c (bars_of d s d.m)
  unfolding Sparse SparseBars
  sparse_bars c sparse bodies different nonempty number holds =
      let size : count (held_by bodies) d.n ≡ length bodies = held_count d.n bodies different in
      subst (λ (z : ℕ). z ≤ c * (length bodies - 1)) (inside_one_number (list_inside bodies) holds)
      (subst (λ (z : ℕ). count (inside d s (held_by bodies)) d.m ≤ c * (z - 1)) size (sparse (held_by bodies) (omega arith)))

  pub bars_sparse : (c : ℕ) → SparseBars d.n c (bars_of d s d.m) → Sparse d c s
  unfolding Sparse SparseBars
  bars_sparse c sparse w nonempty =
      let size : length (numbers w d.n) ≡ count w d.n = length_numbers w d.n in
      subst (λ (z : ℕ). count (inside d s w) d.m ≤ c * (z - 1)) size
      (sparse (numbers w d.n) (numbers_different w d.n) (omega arith) (count (inside d s w) d.m) (set_inside w))
