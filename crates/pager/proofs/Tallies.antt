-- The kept edges counted on, edge by edge, and the freedom after an edge.
--
-- An edge with a forest adds one to the count, an edge without one nothing. Past the edges nothing is asked. Since the kept edges of a sound
-- book are at most k·(n−1), the freedom after each of them does not go below 0.
-- Assumes nothing.
use mathlib.Core.Path.{◌≡◌, sym, ap, ◌∙◌, subst}
use mathlib.Core.Logic.{◌≢◌}
use mathlib.Core.Bool.{Bool, true, false}
use Prim.Native.Nat.{ℕ, zero, suc, ◌+◌, ◌*◌, ◌-◌, ◌≤◌, ◌<◌}
use native.Mathlib.Nat.{le_trans}
use native.Mathlib.Numerals.{add-one}
use native.Mathlib.Omega.{arith}
use lib.ListN.{get_or}
use mir.Syntax.{w64}
use mir.Val.{Fits}
use Rattle.rule.specs.declared.Book.{Book}
use Rattle.rule.specs.Sets.{Is, Set, one_if, count, at}
use Rattle.rule.specs.Books.{design_of, forest_of, kept_of, Sound}
use Rattle.rule.proofs.Tests.{is_false, by_eq}
use Rattle.rule.proofs.Counting.{count_le, count_eq}
use Rattle.rule.proofs.Legality.{legal_size}
use Rattle.theory.proofs.Legal.Kept.{kept_make, kept_has}
use Rattle.theory.proofs.Legal.Sound.{sound_head, sound_legal}
use Rattle.book.proofs.Figures.{placed, kept_placed, full_fits}
use Rattle.reports.specs.Reports.{freedom_after}
use Rattle.pager.specs.Lent.{Tally}

-- the first of the numbers that are counted
count_upto : (s : Set) (m e : ℕ) → e ≤ m → count s e ≤ count s m
unfolding count
count_upto s zero e l =
    let none : 0 ≡ e = omega arith in
    subst (λ (z : ℕ). count s z ≤ count s 0) none (omega arith)
count_upto s (suc m) e l =
    by_eq e (suc m) (λ q. subst (λ (z : ℕ). count s e ≤ count s z) q (omega arith)) (λ ne. omega (arith, count_upto s m e (omega arith)))

module _ (B : Book) where
  -- ---- kept or implied, by the forest at an index

  pub forest_next : (i x : ℕ) → get_or B.forests i 0 ≡ x → forest_of B (i + 1) ≡ x
  unfolding at
  forest_next i x q = ap (at B.forests) (add-one i) ∙ q

  pub forest_none : (i : ℕ) → get_or B.forests i 0 ≡ 0 → forest_of B (suc i) ≡ 0
  unfolding at
  forest_none i q = q

  pub forest_some : (i : ℕ) → get_or B.forests i 0 ≢ 0 → 1 ≤ forest_of B (suc i)
  unfolding at
  forest_some i ne = omega arith

  pub is_kept : (i : ℕ) → i < B.count → 1 ≤ forest_of B (suc i) → Is (kept_of B (suc i))
  unfolding design_of
  is_kept i l f = kept_make (design_of B) (forest_of B) (suc i) (omega arith) f

  pub is_implied : (e : ℕ) → forest_of B e ≡ 0 → ¬ (Is (kept_of B e))
  is_implied e q t = omega (arith, kept_has (design_of B) (forest_of B) e t)

  -- ---- the count

  next_counted : (i : ℕ) (b : Bool) → kept_of B (suc i) ≡ b → count (kept_of B) (suc i) ≡ count (kept_of B) i + one_if b
  unfolding count
  next_counted i b q = ap (λ (t : Bool). count (kept_of B) i + one_if t) q

  pub tally_counted : (i kept : ℕ) → i ≤ B.count → kept ≡ count (placed B.forests) i → Tally B i kept
  tally_counted i kept l q =
      record {
        few = omega (arith, count_le (placed B.forests) i);
        counts = λ _. q ∙ sym (count_eq (kept_of B) (placed B.forests) i (λ e h. kept_placed B e (omega (arith, h.low, h.high))));
      }

  module _ (i kept : ℕ) (t : Tally B i kept) where
    pub tally_implied : get_or B.forests i 0 ≡ 0 → Tally B (suc i) kept
    tally_implied q =
        record {
          few = omega (arith, t.few);
          counts = λ m. omega (arith, t.counts (omega arith), next_counted i false (is_false _ (is_implied (suc i) (forest_none i q))));
        }

    pub tally_kept : i < B.count → 1 ≤ forest_of B (suc i) → Tally B (suc i) (kept + 1)
    tally_kept l f =
        record { few = omega (arith, t.few); counts = λ m. omega (arith, t.counts (omega arith), next_counted i true (is_kept i l f)) }

    -- ---- the freedom after a kept edge

    module _ (sound : Sound B) (l : i < B.count) (f : 1 ≤ forest_of B (suc i)) where
      counted_with : count (kept_of B) (suc i) ≡ kept + 1
      counted_with = sym ((tally_kept l f).counts (omega arith))

      pub kept_fits : kept + 1 ≤ (B.a + B.b) * (B.n - 1)
      unfolding design_of
      kept_fits =
          le_trans (subst (λ (z : ℕ). z ≤ count (kept_of B) B.count) counted_with (count_upto (kept_of B) B.count (suc i) (omega arith)))
          (legal_size (design_of B) (kept_of B) (sound_head B sound).bodies.low (sound_legal B sound))

      pub is_freedom_after : (B.a + B.b) * (B.n - 1) - (kept + 1) ≡ freedom_after (design_of B) (kept_of B) (suc i)
      unfolding freedom_after design_of
      is_freedom_after = ap (λ (z : ℕ). (B.a + B.b) * (B.n - 1) - z) (sym counted_with)

-- k·(n−1) of a sound book
pub sound_full : (B : Book) → Sound B → (B.a + B.b) * (B.n - 1) ≤ 378
sound_full B sound =
    let head = sound_head B sound in full_fits B.a B.b B.n head.profile.0.high head.profile.1.high head.bodies.high

-- what is left of it
pub left_fits : (x y : ℕ) → x ≤ 378 → Fits w64 (x - y)
left_fits x y h = record { fits = omega arith }
