-- Going through the bits of a word, one after another: a word that carries a set carries it without the number of a bit when that bit is taken
-- away, and a word that is 0 carries nothing. This serves every loop over bits. And words that are all 0.
-- Assumes nothing.
use mathlib.Core.Path.{◌≡◌, refl, sym, ap, ◌∙◌, subst}
use mathlib.Core.Logic.{⊎_elim, ◌≢◌}
use mathlib.Core.Bool.{Bool, false≢true}
use Prim.Native.Nat.{ℕ, zero, suc, ◌<◌}
use lib.ListN.{get_or, replicate}
use Rattle.rule.specs.Sets.{Is, ◌or◌, Set, In, ◌without◌}
use Rattle.rule.proofs.Tests.{same_test, and_make, and_l, and_r, or_l, or_elim, isnt_make, isnt_not, eq_of, eq_is, without_old, without_ne, without_make}
use Rattle.words.specs.Bits.{bit, Without}
use Rattle.words.proofs.Bits.{bit_zero}
use Rattle.reaching.specs.Words.{Carries}

pub zeros_at : (n i : ℕ) → ◌≡◌ {A = ℕ} (get_or (replicate n 0) i 0) 0
zeros_at zero i = refl
zeros_at (suc n) zero = refl
zeros_at (suc n) (suc i) = zeros_at n i

pub or_none : (a b : Bool) → ¬ (Is b) → (a or b) ≡ a
or_none a b n = same_test _ _ (λ t. ⊎_elim (λ k. k) (λ k. absurd (n k)) (or_elim _ _ t)) (λ t. or_l _ _ t)

module _ (x t y : ℕ) (w : Without x t y) where
  pub bit_kept : (j : ℕ) → Is (bit x j) → j ≢ t → Is (bit y j)
  bit_kept j h ne = w.bits j ∙ and_make _ _ h (isnt_make _ (λ q. ne (eq_of j t q)))

  pub bit_old : (j : ℕ) → Is (bit y j) → Is (bit x j)
  bit_old j h = and_l _ _ (sym (w.bits j) ∙ h)

  pub bit_gone : (j : ℕ) → Is (bit y j) → j ≢ t
  bit_gone j h q = isnt_not _ (and_r (bit x j) _ (sym (w.bits j) ∙ h)) (eq_is j t q)

module _ (of : ℕ → ℕ) (s : Set) (m : ℕ) where
  pub carries_none : (x : ℕ) → Carries of x s m → x ≡ 0 → (y : ℕ) → In m y → ¬ (Is (s y))
  carries_none x c z y h i =
      let k = c.bit_of y h i in
      false≢true (sym (bit_zero k.0) ∙ subst (λ (v : ℕ). Is (bit v k.0)) z k.1.1.0)

  pub carries_without : (x t y : ℕ) → Carries of x s m → t < 64 → Is (bit x t) → Without x t y → Carries of y (s without of t) m
  carries_without x t y c l here w =
      record {
        number =
            λ j lj h.
            let k = c.number j lj (bit_old x t y w j h) in
            (k.0, without_make s (of t) (of j) k.1 (λ q. bit_gone x t y w j h (c.once j t lj l (bit_old x t y w j h) here q)));
        bit_of =
            λ z hz i.
            let k = c.bit_of z hz (without_old s (of t) z i) in
            (k.0, (k.1.0, (bit_kept x t y w k.0 k.1.1.0 (λ q. without_ne s (of t) z i (sym k.1.1.1 ∙ ap of q)), k.1.1.1)));
        once = λ i j li lj hi hj q. c.once i j li lj (bit_old x t y w i hi) (bit_old x t y w j hj) q;
      }
