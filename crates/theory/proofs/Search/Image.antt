-- How many wait: no edge waits twice, so as many as are seen, and at most m.
-- Assumes nothing.
use mathlib.Core.Path.{◌≡◌, sym, ap, ◌∙◌, subst}
use mathlib.Core.Logic.{⊎_elim}
use mathlib.Core.Bool.{false, false≢true}
use Prim.Native.Nat.{ℕ, zero, suc, ◌≤◌, ◌<◌}
use native.Mathlib.Omega.{arith}
use Rattle.rule.specs.Sets.{Is, Set, In, ◌with◌, count}
use Rattle.rule.specs.Legal.{Design}
use Rattle.rule.proofs.Tests.{same_test, by_eq, with_self, with_old, with_elim}
use Rattle.rule.proofs.Counting.{count_eq, count_none, count_le, count_with}
use Rattle.theory.specs.Search.{Waiting, edge_at}
use Rattle.theory.proofs.Search.Reached.{size, Reached}

-- the values of f at the places before j
image : (ℕ → ℕ) → ℕ → Set
image f zero = λ _. false
image f (suc j) = image f j with f j

image_elim : (f : ℕ → ℕ) (j y : ℕ) → Is (image f j y) → (p : ℕ) × ((p < j) × (f p ≡ y))
unfolding image
image_elim f zero y h = absurd (false≢true h)
image_elim f (suc j) y h =
    ⊎_elim (λ q. (j, (omega arith, sym q))) (λ o. let w = image_elim f j y o in (w.0, (omega (arith, w.1.0), w.1.1))) (with_elim (image f j) (f j) y h)

image_make : (f : ℕ → ℕ) (j p : ℕ) → p < j → Is (image f j (f p))
unfolding image
image_make f zero p h = absurd (omega arith)
image_make f (suc j) p h =
    by_eq p j (λ q. subst (λ (z : ℕ). Is ((image f j with f j) (f z))) (sym q) (with_self (image f j) (f j)))
    (λ ne. with_old (image f j) (f j) (f p) (image_make f j p (omega arith)))

-- where no value comes twice
image_count : (f : ℕ → ℕ) (m j : ℕ) → ((p : ℕ) → p < j → In m (f p)) → ((p q : ℕ) → p < j → q < j → f p ≡ f q → p ≡ q) → count (image f j) m ≡ j
unfolding image
image_count f m zero range once = count_none (λ _. false) m (λ i _ t. false≢true t)
image_count f m (suc j) range once =
    count_with (image f j) m (f j) (range j (omega arith))
    (λ t. let w = image_elim f j (f j) t in omega (arith, w.1.0, once w.0 j (omega (arith, w.1.0)) (omega arith) w.1.1))
    ∙ ap suc (image_count f m j (λ p h. range p (omega arith)) (λ p q hp hq. once p q (omega arith) (omega arith)))

module _ (d : Design) (forest : ℕ → ℕ) (e : ℕ) (w : Waiting) (r : Reached d forest e w) where
  pub seen_count : count w.seen d.m ≡ size w
  seen_count =
      count_eq w.seen (image (edge_at w) (size w)) d.m
      (λ y h.
      same_test _ _
      (λ s. let k = r.seen_at y s in subst (λ (z : ℕ). Is (image (edge_at w) (size w) z)) k.1.1 (image_make (edge_at w) (size w) k.0 k.1.0))
      (λ s. let k = image_elim (edge_at w) (size w) y s in subst (λ (z : ℕ). Is (w.seen z)) k.1.1 (r.at_seen k.0 k.1.0)))
      ∙ image_count (edge_at w) d.m (size w) r.edges r.once

  pub size_most : size w ≤ d.m
  size_most = omega (arith, seen_count, count_le w.seen d.m)
