-- What `widen` leaves in the wider list, as its callers use it: the list is as long as it was, and its first n numbers are the n bytes.
-- Assumes nothing.
use mathlib.Core.Path.{◌≡◌, ap, ◌∙◌}
use mathlib.Core.List.{List}
use Prim.Native.Nat.{ℕ, ◌≤◌}
use native.Mathlib.Omega.{arith}
use lib.ListN.{length, take, drop, length-append, length-drop}
use lib.Seq.{length-take-le, take_at}
use Rattle.rule.specs.Calls.{Filled}

module _ (list wide after : List ℕ) (n : ℕ) (bytes : n ≤ length list) (f : Filled (take n list) wide after) where
  pub widened : take n after ≡ take n list
  widened = ap (take n) f ∙ take_at (take n list) (drop (length (take n list)) wide) n (length-take-le n list bytes)

  pub widened_length : n ≤ length wide → length after ≡ length wide
  widened_length h =
      let front = length-take-le n list bytes in
      omega (
        arith,
        ap length f,
        length-append (take n list) (drop (length (take n list)) wide),
        length-drop (length (take n list)) wide,
      )
