-- Laws of covering and of the greatest closed set: it is closed, it lies in the kept edges, and every closed set of kept edges
-- lies in it.
--
-- Each pass keeps every closed set whole. After j passes the set is closed or has lost at least j edges, so after m it is closed.
-- Assumes nothing.
use mathlib.Core.Path.{subst}
use mathlib.Core.Logic.{◌⊎◌, inl, inr, ⊎_elim}
use Prim.Native.Nat.{ℕ, zero, suc, ◌+◌, ◌≤◌, ◌<◌}
use native.Mathlib.Omega.{arith}
use Rattle.rule.specs.Sets.{Is, ◌and◌, ◌or◌, isnt, Set, In, ◌without◌, count}
use Rattle.rule.specs.Legal.{Design}
use Rattle.rule.specs.Forests.{in_forest, kept_in}
use Rattle.rule.proofs.Tests.{cases, and_make, and_l, and_r, or_l, or_r, or_elim, isnt_make, isnt_not, without_make}
use Rattle.rule.proofs.Counting.{Within, count_mono, count_le, count_pos, count_without}
use Rattle.theory.specs.Numbers.{some}
use Rattle.theory.specs.Joined.{spans}
use Rattle.theory.specs.Closed.{standing, covers, Closed, shrunk, passes, greatest}
use Rattle.theory.proofs.Numbers.Smallest.{every_make, every_at, some_make, some_elim}
use Rattle.theory.proofs.Joined.Laws.{spans_mono}

module _ (forest : ℕ → ℕ) where
  pub standing_make : (c : Set) (i e : ℕ) → Is (c e) → Is (in_forest forest i e) → Is (standing forest c i e)
  unfolding standing
  standing_make c i e h k = and_make _ _ h k

  pub standing_in : (c : Set) (i e : ℕ) → Is (standing forest c i e) → Is (c e)
  unfolding standing
  standing_in c i e h = and_l _ _ h

  pub standing_forest : (c : Set) (i e : ℕ) → Is (standing forest c i e) → Is (in_forest forest i e)
  unfolding standing
  standing_forest c i e h = and_r (c e) _ h

module _ (d : Design) (forest lim : ℕ → ℕ) where
  pub covers_at : (c : Set) (e i : ℕ) → Is (covers d forest lim c e) → In (lim e) i → Is (spans d (standing forest c i) e)
  unfolding covers
  covers_at c e i h r = every_at _ (lim e) i r h

  pub covers_make : (c : Set) (e : ℕ) → ((i : ℕ) → In (lim e) i → Is (spans d (standing forest c i) e)) → Is (covers d forest lim c e)
  unfolding covers
  covers_make c e f = every_make _ (lim e) f

  pub covers_mono : (c b : Set) → Within d.m c b → (e : ℕ) → Is (covers d forest lim c e) → Is (covers d forest lim b e)
  covers_mono c b f e h =
      covers_make b e
      (λ i r.
      spans_mono d (standing forest c i) (standing forest b i)
      (λ g hg k. standing_make forest b i g (f g hg (standing_in forest c i g k)) (standing_forest forest c i g k)) e (covers_at c e i h r))

  -- unions of closed sets are closed
  pub closed_union : (c b : Set) → Closed d forest lim c → Closed d forest lim b → Closed d forest lim (λ e. c e or b e)
  closed_union c b cc cb e h i =
      ⊎_elim (λ k. covers_mono c (λ e. c e or b e) (λ g _ t. or_l _ _ t) e (cc e h k))
      (λ k. covers_mono b (λ e. c e or b e) (λ g _ t. or_r (c g) _ t) e (cb e h k))
      (or_elim _ _ i)

  -- ---- passes of deletion

  shrunk_in : (c : Set) (e : ℕ) → Is (shrunk d forest lim c e) → Is (c e)
  unfolding shrunk
  shrunk_in c e h = and_l _ _ h

  passes_kept : (j e : ℕ) → Is (passes d forest lim j e) → Is (kept_in d forest e)
  unfolding passes
  passes_kept zero e h = h
  passes_kept (suc j) e h = passes_kept j e (shrunk_in (passes d forest lim j) e h)

  -- a closed set of kept edges is never touched
  passes_hold : (c : Set) → Within d.m c (kept_in d forest) → Closed d forest lim c → (j : ℕ) → Within d.m c (passes d forest lim j)
  unfolding passes shrunk
  passes_hold c f cl zero e h i = f e h i
  passes_hold c f cl (suc j) e h i =
      and_make _ _ (passes_hold c f cl j e h i) (covers_mono c (passes d forest lim j) (passes_hold c f cl j) e (cl e h i))

  -- a closed set stays as it is
  shrunk_closed : (c : Set) → Closed d forest lim c → Closed d forest lim (shrunk d forest lim c)
  unfolding shrunk
  shrunk_closed c cl e h i = covers_mono c (shrunk d forest lim c) (λ g hg t. and_make _ _ t (cl g hg t)) e (cl e h (and_l _ _ i))

  -- a set that is not closed loses an edge
  shrunk_less : (c : Set) → Closed d forest lim c ⊎ (count (shrunk d forest lim c) d.m < count c d.m)
  unfolding shrunk
  shrunk_less c =
      cases (some (λ e. c e and isnt (covers d forest lim c e)) d.m)
      (λ t.
      let w = some_elim _ d.m t in
      let e = w.0 in
      inr
      (omega (
        arith,
        count_without c d.m e w.1.0 (and_l _ _ w.1.1),
        count_mono (shrunk d forest lim c) (c without e) d.m
            (λ g hg k.
            without_make c e g (and_l _ _ k)
            (λ q. isnt_not _ (and_r (c e) _ w.1.1) (subst (λ (z : ℕ). Is (covers d forest lim c z)) q (and_r (c g) _ k)))),
      )))
      (λ n.
      inl
      (λ e h i.
      cases (covers d forest lim c e) (λ k. k) (λ k. absurd (n (some_make _ d.m e h (and_make _ _ i (isnt_make _ k)))))))

  passes_close : (j : ℕ) → Closed d forest lim (passes d forest lim j) ⊎ (count (passes d forest lim j) d.m + j ≤ d.m)
  unfolding passes
  passes_close zero = inr (omega (arith, count_le (kept_in d forest) d.m))
  passes_close (suc j) =
      ⊎_elim (λ cl. inl (shrunk_closed (passes d forest lim j) cl))
      (λ l. ⊎_elim (λ cl. inl (shrunk_closed (passes d forest lim j) cl)) (λ less. inr (omega arith)) (shrunk_less (passes d forest lim j)))
      (passes_close j)

  -- ---- the greatest closed set

  pub greatest_kept : (e : ℕ) → Is (greatest d forest lim e) → Is (kept_in d forest e)
  unfolding greatest
  greatest_kept e h = passes_kept d.m e h

  pub greatest_closed : Closed d forest lim (greatest d forest lim)
  unfolding greatest
  greatest_closed =
      ⊎_elim (λ cl. cl) (λ l e h i. absurd (omega (arith, l, count_pos (passes d forest lim d.m) d.m e h i))) (passes_close d.m)

  pub greatest_holds : (c : Set) → Within d.m c (kept_in d forest) → Closed d forest lim c → Within d.m c (greatest d forest lim)
  unfolding greatest
  greatest_holds c f cl = passes_hold c f cl d.m
