-- The figures of a sound book: the edges with a forest are counted one by one; they are at most k·(n−1), so freedom does not go below 0;
-- and those that are left are implied.
-- Assumes nothing.
use mathlib.Core.Path.{◌≡◌, refl, sym, ap, ap₂, ◌∙◌, subst}
use mathlib.Core.Logic.{◌≢◌}
use mathlib.Core.Bool.{Bool, true, false, false≢true}
use mathlib.Core.List.{List}
use Prim.Native.Nat.{ℕ, zero, suc, ◌+◌, ◌*◌, ◌-◌, ◌≤◌}
use native.Mathlib.Nat.{mul-le-mul}
use native.Mathlib.Numerals.{add-one}
use native.Mathlib.Omega.{arith}
use lib.ListN.{get_or}
use Rattle.rule.specs.declared.Book.{Book}
use Rattle.rule.specs.declared.Verdict.TheVariants.{Tight, Loose, OverTight, OverLoose}
use Rattle.rule.specs.Sets.{isnt, ◌<?◌, Set, one_if, count, at}
use Rattle.rule.specs.Figures.{freedom, dropped, verdict_on}
use Rattle.rule.specs.Books.{design_of, forest_of, kept_of, Sound}
use Rattle.rule.proofs.Tests.{same_test, is_false, lt_of, lt_is}
use Rattle.rule.proofs.Counting.{Agree, count_le, count_eq, count_none, count_all, count_sums}
use Rattle.rule.proofs.Legality.{legal_size}
use Rattle.theory.proofs.Legal.Kept.{kept_make, kept_has}
use Rattle.theory.proofs.Legal.Sound.{sound_head, sound_legal}

-- ---- counting

-- the edges that have a forest
abbrev pub placed : List ℕ → Set
placed forests e = 0 <? at forests e

module _ (forests : List ℕ) (e found : ℕ) (so_far : found ≡ count (placed forests) e) where
  -- one edge more, by what it adds
  next : (b : Bool) → placed forests (suc e) ≡ b → count (placed forests) (e + 1) ≡ found + one_if b
  unfolding count
  next b q =
      ap (count (placed forests)) (add-one e)
      ∙ ap₂ (λ (x : ℕ) (t : Bool). x + one_if t) (sym so_far) q

  pub one_placed : get_or forests e 0 ≢ 0 → found + 1 ≡ count (placed forests) (e + 1)
  unfolding at
  one_placed ne = sym (next true (lt_is 0 (get_or forests e 0) (omega arith)))

  pub none_placed : get_or forests e 0 ≡ 0 → found ≡ count (placed forests) (e + 1)
  unfolding at
  none_placed q = omega (arith, next false (is_false (placed forests (suc e)) (λ t. omega (arith, lt_of 0 (get_or forests e 0) t))))

-- ---- the figures of a sound book

one_if_either : (b : Bool) → one_if b + one_if (isnt b) ≡ one_if true + one_if false
unfolding isnt
one_if_either true = refl
one_if_either false = refl

-- of a book's edges, those that have a forest are the kept ones
pub kept_placed : (B : Book) → Agree B.count (kept_of B) (placed B.forests)
unfolding design_of
kept_placed B e h =
    same_test _ _ (λ t. lt_is _ _ (kept_has (design_of B) (forest_of B) e t)) (λ t. kept_make (design_of B) (forest_of B) e h.high (lt_of _ _ t))

module _ (B : Book) (sound : Sound B) (found : ℕ) (counted : found ≡ count (placed B.forests) B.count) where
  kept_found : count (kept_of B) B.count ≡ found
  kept_found = count_eq (kept_of B) (placed B.forests) B.count (kept_placed B) ∙ sym counted

  pub found_fits : found ≤ (B.a + B.b) * (B.n - 1)
  unfolding design_of
  found_fits =
      subst (λ (z : ℕ). z ≤ (B.a + B.b) * (B.n - 1)) kept_found (legal_size (design_of B) (kept_of B) (sound_head B sound).bodies.low (sound_legal B sound))

  pub is_freedom : (B.a + B.b) * (B.n - 1) - found ≡ freedom (design_of B) (kept_of B)
  unfolding freedom design_of
  is_freedom = ap (λ (z : ℕ). (B.a + B.b) * (B.n - 1) - z) (sym kept_found)

  pub found_most : found ≤ B.count
  found_most = subst (λ (z : ℕ). z ≤ B.count) (sym counted) (count_le (placed B.forests) B.count)

  -- each edge is kept or implied
  pub is_dropped : B.count - found ≡ dropped (design_of B) (kept_of B)
  unfolding dropped design_of
  is_dropped =
      omega (
        arith,
        kept_found,
        count_sums (kept_of B) (λ e. isnt (kept_of B e)) (λ _. true) (λ _. false) B.count (λ e _. one_if_either (kept_of B e)),
        count_all (λ _. true) B.count (λ i _. refl),
        count_none (λ _. false) B.count (λ i _ t. false≢true t),
      )

-- k·(n−1) is at most 378
pub full_fits : (a b n : ℕ) → a ≤ 3 → b ≤ 3 → n ≤ 64 → (a + b) * (n - 1) ≤ 378
full_fits a b n ha hb hn = mul-le-mul {n₂ = 6} {m₂ = 63} (omega arith) (omega arith)

-- ---- the verdict

pub tight : (free implied : ℕ) → free ≡ 0 → implied ≡ 0 → Tight ≡ verdict_on free implied
tight free implied p q = sym (ap₂ verdict_on p q)

pub loose : (free implied : ℕ) → free ≢ 0 → implied ≡ 0 → Loose ≡ verdict_on free implied
loose zero implied n q = absurd (n refl)
loose (suc free) implied n q = sym (ap (verdict_on (suc free)) q)

pub over_tight : (free implied : ℕ) → free ≡ 0 → implied ≢ 0 → OverTight ≡ verdict_on free implied
over_tight free zero p n = absurd (n refl)
over_tight free (suc implied) p n = sym (ap (λ (f : ℕ). verdict_on f (suc implied)) p)

pub over_loose : (free implied : ℕ) → free ≢ 0 → implied ≢ 0 → OverLoose ≡ verdict_on free implied
over_loose zero implied p n = absurd (p refl)
over_loose (suc free) zero p n = absurd (n refl)
over_loose (suc free) (suc implied) p n = refl
