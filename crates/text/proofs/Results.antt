-- The two cases of a `Result` are told apart, and each is of one value.
-- Assumes nothing.
use mathlib.Core.Path.{◌≡◌}
use native.Mathlib.Omega.{arith}
use Rattle.std.specs.Prelude.{Result, Ok, Err}

module _ {T E : Type 0} where
  pub same_ok : {x y : T} → ◌≡◌ {A = Result T E} (Ok x) (Ok y) → x ≡ y
  same_ok e = grind arith

  pub same_err : {x y : E} → ◌≡◌ {A = Result T E} (Err x) (Err y) → x ≡ y
  same_err e = grind arith

  pub ok_err : {x : T} {y : E} → ◌≡◌ {A = Result T E} (Ok x) (Err y) → ⊥
  ok_err e = grind arith
