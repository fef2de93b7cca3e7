-- The forests that a colour permits, as numbers: 1 to a for red, 1 to a + b for black.
-- Assumes nothing.
use mathlib.Core.Path.{◌≡◌, sym, ap, subst}
use mathlib.Core.Logic.{inl, inr, ⊎_elim, ◌↔◌, ◌≢◌}
use mathlib.Core.Bool.{Bool, cond}
use Prim.Native.Nat.{ℕ, ◌+◌, ◌≤◌}
use native.Mathlib.Omega.{arith}
use Rattle.rule.specs.Sets.{◌=?◌}
use Rattle.rule.proofs.Tests.{is_false, eq_of, eq_is, by_eq}
use Rattle.book.specs.Scan.{Permits}

module _ (a b colour forest : ℕ) where
  limit_red : colour ≡ 1 → cond (colour =? 1) a (a + b) ≡ a
  limit_red q = ap (λ (t : Bool). cond t a (a + b)) (eq_is colour 1 q)

  limit_black : colour ≢ 1 → cond (colour =? 1) a (a + b) ≡ a + b
  limit_black n = ap (λ (t : Bool). cond t a (a + b)) (is_false (colour =? 1) (λ h. n (eq_of colour 1 h)))

  pub red_permits : colour ≡ 1 → (forest ≤ a ↔ Permits a b colour forest)
  red_permits q = (
    λ l. record { coloured = inl q; limited = subst (λ (z : ℕ). forest ≤ z) (sym (limit_red q)) l },
    λ p. subst (λ (z : ℕ). forest ≤ z) (limit_red q) p.limited,
  )

  pub black_permits : colour ≢ 1 → colour ≡ 2 → (forest ≤ a + b ↔ Permits a b colour forest)
  black_permits n q = (
    λ l. record { coloured = inr q; limited = subst (λ (z : ℕ). forest ≤ z) (sym (limit_black n)) l },
    λ p. subst (λ (z : ℕ). forest ≤ z) (limit_black n) p.limited,
  )

  pub none_permits : colour ≢ 1 → colour ≢ 2 → ¬ Permits a b colour forest
  none_permits n m p = ⊎_elim n m p.coloured

  -- no forest above a + b
  pub permits_most : Permits a b colour forest → forest ≤ a + b
  permits_most p = by_eq colour 1 (λ q. omega (arith, (red_permits q).1 p)) (λ n. omega (arith, limit_black n, p.limited))
