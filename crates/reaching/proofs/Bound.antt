-- At most 379 edges wait: the new one, and kept ones, of which each of the six forests has at most 63, one in each of its slots.
-- Assumes nothing.
use mathlib.Core.Path.{◌≡◌, sym, ap, ◌∙◌, subst}
use mathlib.Core.Logic.{◌≢◌}
use mathlib.Core.List.{List}
use Prim.Native.Nat.{ℕ, zero, suc, ◌≤◌, ◌<◌}
use native.Mathlib.Omega.{arith}
use Rattle.rule.specs.Sets.{Is, ◌and◌, ◌=?◌, Set, In, ◌without◌, count}
use Rattle.rule.specs.Legal.{Design}
use Rattle.rule.proofs.Tests.{cases, and_r, eq_of, by_eq, by_le, without_old, without_ne}
use Rattle.rule.proofs.Counting.{count_none, count_without}
use Rattle.theory.specs.Search.{Waiting, edge_at, from_at}
use Rattle.theory.proofs.Numbers.Sums.{sum_mono, sum_const, fibre}
use Rattle.theory.proofs.Legal.Kept.{limit_most}
use Rattle.theory.proofs.Search.Reached.{size, Reached}
use Rattle.theory.proofs.Search.Image.{seen_count}
use Rattle.tables.specs.Tables.{slot, filled}
use Rattle.reaching.specs.Setting.{Setting}

-- ---- a set whose numbers are all among n has at most n of them

module _ (m : ℕ) (g : ℕ → ℕ) where
  -- each number of s, of 1 to m, is one of g 0 to g (n - 1)
  abbrev Named : Set → ℕ → Type 0
  Named s n = (y : ℕ) → In m y → Is (s y) → (j : ℕ) × ((j < n) × (g j ≡ y))

  named_less : (s : Set) (n : ℕ) → Named s (suc n) → ((y : ℕ) → In m y → Is (s y) → g n ≢ y) → Named s n
  named_less s n f not y h i =
      let k = f y h i in
      let ne : k.0 ≢ n = λ q. not y h i (ap g (sym q) ∙ k.1.1) in
      (k.0, (omega (arith, k.1.0), k.1.1))

  count_named : (s : Set) (n : ℕ) → Named s n → count s m ≤ n
  count_named s zero f = omega (arith, count_none s m (λ y h i. let k = f y h i in omega (arith, k.1.0)))
  count_named s (suc n) f =
      by_le 1 (g n)
      (λ low.
      by_le (g n) m
      (λ high.
      cases (s (g n))
      (λ i.
      omega (
        arith,
        count_without s m (g n) (omega arith) i,
        count_named (s without g n) n
            (named_less (s without g n) n (λ y h t. f y h (without_old s (g n) y t)) (λ y h t q. without_ne s (g n) y t (sym q))),
      ))
      (λ none. omega (arith, count_named s n (named_less s n f (λ y h i q. none (subst (λ (z : ℕ). Is (s z)) (sym q) i))))))
      (λ past. omega (arith, count_named s n (named_less s n f (λ y h i q. omega (arith, h.high))))))
      (λ under. omega (arith, count_named s n (named_less s n f (λ y h i q. omega (arith, h.low)))))

-- ---- what waits

module _ {d : Design} {forest : ℕ → ℕ} {root way who edge sizes : List ℕ} (s : Setting d forest root way who edge sizes) (w : Waiting)
    (r : Reached d forest d.m w) where
  -- whoever waits behind the new edge stands in one of the six forests
  placed : (y : ℕ) → In d.m y → Is ((w.seen without d.m) y) → In 6 (forest y)
  placed y h i =
      let at = r.seen_at y (without_old w.seen d.m y i) in
      by_eq at.0 0
      (λ z. absurd (without_ne w.seen d.m y i (sym at.1.1 ∙ ap (edge_at w) z ∙ r.first)))
      (λ later.
      let arc = r.arcs at.0 (omega arith) at.1.0 in
      subst (λ (z : ℕ). In 6 (forest z)) at.1.1 (omega (arith, arc.placed, arc.allowed, limit_most d (edge_at w (from_at w at.0)), s.forests)))

  in_forest : (f : ℕ) → In 6 f → count (λ y. (w.seen without d.m) y and forest y =? f) d.m ≤ 63
  in_forest f h =
      let slots = s.tabled.slots f h in
      omega (
        arith,
        slots.most,
        count_named d.m (slot edge f) (λ y. (w.seen without d.m) y and forest y =? f) (filled sizes f)
            (λ y k i. slots.slot_of y k (eq_of _ _ (and_r ((w.seen without d.m) y) _ i))),
      )

  pub few_wait : size w ≤ 379
  few_wait =
      let e = d.m in
      let here : In e e = omega (arith, s.edges.low) in
      omega (
        arith,
        seen_count d forest e w r,
        count_without w.seen e e here (subst (λ (z : ℕ). Is (w.seen z)) r.first (r.at_seen 0 r.some)),
        fibre (w.seen without e) forest e 6 placed,
        sum_mono (λ f. count (λ y. (w.seen without e) y and forest y =? f) e) (λ _. 63) 6 in_forest,
        sum_const 63 6,
      )
