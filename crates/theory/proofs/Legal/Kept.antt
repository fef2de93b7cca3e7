-- Laws of the kept edges, of one forest and of the limit of an edge (crate rule, specs/Forests.antt).
-- Assumes nothing.
use mathlib.Core.Path.{◌≡◌, ap}
use mathlib.Core.Bool.{cond}
use Prim.Native.Nat.{ℕ, ◌≤◌}
use native.Mathlib.Omega.{arith}
use Rattle.rule.specs.Sets.{Is, ◌=?◌, ◌≤?◌, put}
use Rattle.rule.specs.Legal.{Design, k}
use Rattle.rule.specs.Forests.{in_forest, kept_in, limit}
use Rattle.rule.proofs.Tests.{cases, is_false, and_make, and_l, and_r, eq_of, eq_is, lt_of, lt_is, le_of, le_is, put_map}

pub forest_make : (forest : ℕ → ℕ) (i e : ℕ) → forest e ≡ i → Is (in_forest forest i e)
unfolding in_forest
forest_make forest i e q = eq_is _ _ q

pub forest_is : (forest : ℕ → ℕ) (i e : ℕ) → Is (in_forest forest i e) → forest e ≡ i
unfolding in_forest
forest_is forest i e h = eq_of _ _ h

-- one edge reassigned
pub forest_put : (forest : ℕ → ℕ) (e i j : ℕ) → in_forest (put forest e i) j ≡ put (in_forest forest j) e (i =? j)
unfolding in_forest
forest_put forest e i j = put_map (λ z. z =? j) forest e i

module _ (d : Design) where
  pub kept_make : (forest : ℕ → ℕ) (e : ℕ) → e ≤ d.m → 1 ≤ forest e → Is (kept_in d forest e)
  unfolding kept_in
  kept_make forest e h l = and_make _ _ (le_is _ _ h) (lt_is _ _ l)

  pub kept_has : (forest : ℕ → ℕ) (e : ℕ) → Is (kept_in d forest e) → 1 ≤ forest e
  unfolding kept_in
  kept_has forest e h = lt_of _ _ (and_r (e ≤? d.m) _ h)

  pub kept_most : (forest : ℕ → ℕ) (e : ℕ) → Is (kept_in d forest e) → e ≤ d.m
  unfolding kept_in
  kept_most forest e h = le_of _ _ (and_l _ _ h)

  pub limit_red : (e : ℕ) → Is (d.red e) → limit d e ≡ d.a
  unfolding limit
  limit_red e r = ap (λ t. cond t d.a (k d)) r

  pub limit_black : (e : ℕ) → ¬ (Is (d.red e)) → limit d e ≡ k d
  unfolding limit
  limit_black e n = ap (λ t. cond t d.a (k d)) (is_false (d.red e) n)

  pub limit_most : (e : ℕ) → limit d e ≤ k d
  limit_most e = cases (d.red e) (λ r. omega (arith, limit_red e r)) (λ n. omega (arith, limit_black e n))

  pub limit_least : (e : ℕ) → d.a ≤ limit d e
  limit_least e = cases (d.red e) (λ r. omega (arith, limit_red e r)) (λ n. omega (arith, limit_black e n))
