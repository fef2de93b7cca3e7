-- When the group call refuses: check 8 comes first, then 7; and a refusal leaves the list as it was.
-- Assumes nothing.
use mathlib.Core.Path.{refl}
use mathlib.Core.Logic.{inl, inr}
use mathlib.Core.List.{List}
use Prim.Native.Nat.{ℕ, ◌≤◌, ◌<◌}
use native.Mathlib.Omega.{arith}
use lib.ListN.{length}
use Rattle.rule.specs.declared.Book.{Book}
use Rattle.rule.specs.declared.Reason.{Reason}
use Rattle.rule.specs.declared.Reason.TheVariants.{Short}
use Rattle.std.specs.Prelude.{Err}
use Rattle.rule.specs.Books.{Sound}
use Rattle.rule.specs.Reasons.{Fail, book_checks}
use Rattle.rule.specs.Calls.{Grouped}

pub refused_unsound : (B : Book) (list : List ℕ) (r : Reason) → Fail (book_checks B) r → Grouped B list list (Err r)
refused_unsound B list r (inl x) = (inl x, refl)
refused_unsound B list r (inr x) = absurd x.1

pub refused_short : (B : Book) (list : List ℕ) → Sound B → length list < 64 → Grouped B list list (Err Short)
refused_short B list sound few = (inr (sound, inl (short, refl, refl)), refl)
  where
    short : ¬ (64 ≤ length list)
    short l = omega arith
