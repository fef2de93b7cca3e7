-- Chains of edges, and the two ways to say that a set of edges has no closed loop.
--
-- One edge more: a chain of s with e goes without e, or from its start to one end of e and from the other end to its goal
-- (`chain_split`, by walking the chain). Hence a set into which the edges come one by one, none closing a loop among those of
-- smaller number, never has an edge whose ends the others join: if f's ends are joined by way of the new edge e, then e's are
-- by way of f.
-- Assumes nothing.
use mathlib.Core.Path.{sym, ◌∙◌, subst}
use mathlib.Core.Logic.{◌⊎◌, inl, inr, ⊎_elim, ◌≢◌}
use Prim.Native.Nat.{ℕ, zero, suc, ◌<◌}
use native.Mathlib.Nat.{lt_irrefl}
use native.Mathlib.Omega.{arith}
use Rattle.rule.specs.Sets.{Is, ◌and◌, ◌≤?◌, Set, In, ◌with◌, ◌without◌, below}
use Rattle.rule.specs.Legal.{Design}
use Rattle.rule.specs.Forests.{Chain, Loopless, NoneCloses}
use Rattle.rule.specs.Forests.Chain.{here, along, back}
use Rattle.rule.proofs.Tests.{cases, and_make, and_l, and_r, le_of, le_is, by_eq, with_self, with_old, with_elim, without_old, without_ne, without_make, below_in, below_lt, below_make}
use Rattle.rule.proofs.Counting.{Within}

module _ (d : Design) where
  pub chain_trans : {s : Set} {x y z : ℕ} → Chain d s x y → Chain d s y z → Chain d s x z
  chain_trans (here x) q = q
  chain_trans (along e h i p) q = along e h i (chain_trans p q)
  chain_trans (back e h i p) q = back e h i (chain_trans p q)

  pub chain_sym : {s : Set} {x y : ℕ} → Chain d s x y → Chain d s y x
  chain_sym (here x) = here x
  chain_sym (along e h i p) = chain_trans (chain_sym p) (back e h i (here (d.one e)))
  chain_sym (back e h i p) = chain_trans (chain_sym p) (along e h i (here (d.other e)))

  pub chain_edge : {s : Set} (e : ℕ) → In d.m e → Is (s e) → Chain d s (d.one e) (d.other e)
  chain_edge e h i = along e h i (here (d.other e))

  pub chain_mono : {s t : Set} {x y : ℕ} → Within d.m s t → Chain d s x y → Chain d t x y
  chain_mono f (here x) = here x
  chain_mono f (along e h i p) = along e h (f e h i) (chain_mono f p)
  chain_mono f (back e h i p) = back e h (f e h i) (chain_mono f p)

module _ (d : Design) (s : Set) (e : ℕ) where
  -- x to y by way of e, one way or the other
  abbrev pub Over : ℕ → ℕ → Type 0
  Over x y = (Chain d s x (d.one e) × Chain d s (d.other e) y) ⊎ (Chain d s x (d.other e) × Chain d s (d.one e) y)

  abbrev Either : ℕ → ℕ → Type 0
  Either x y = Chain d s x y ⊎ Over x y

  -- a step in front: another edge, or e itself
  front : {x x' y : ℕ} → ((z : ℕ) → Chain d s x z → Chain d s x' z) → Either x y → Either x' y
  front {y = y} step (inl c) = inl (step y c)
  front step (inr (inl w)) = inr (inl (step (d.one e) w.0, w.1))
  front step (inr (inr w)) = inr (inr (step (d.other e) w.0, w.1))

  along_e : {y : ℕ} → Either (d.other e) y → Either (d.one e) y
  along_e (inl c) = inr (inl (here (d.one e), c))
  along_e (inr (inl w)) = inr (inl (here (d.one e), w.1))
  along_e (inr (inr w)) = inl w.1

  back_e : {y : ℕ} → Either (d.one e) y → Either (d.other e) y
  back_e (inl c) = inr (inr (here (d.other e), c))
  back_e (inr (inl w)) = inl w.1
  back_e (inr (inr w)) = inr (inr (here (d.other e), w.1))

  -- a chain of s with e goes without e, or by way of e
  pub chain_split : {x y : ℕ} → Chain d (s with e) x y → Chain d s x y ⊎ Over x y
  chain_split (here x) = inl (here x)
  chain_split {y = y} (along f h i p) =
      ⊎_elim
      (λ q. subst (λ (g : ℕ). Either (d.other g) y → Either (d.one g) y) (sym q) along_e (chain_split p))
      (λ j. front (λ z c. along f h j c) (chain_split p))
      (with_elim s e f i)
  chain_split {y = y} (back f h i p) =
      ⊎_elim
      (λ q. subst (λ (g : ℕ). Either (d.one g) y → Either (d.other g) y) (sym q) back_e (chain_split p))
      (λ j. front (λ z c. back f h j c) (chain_split p))
      (with_elim s e f i)

-- ---- the two ways to say it

-- each edge with those of smaller number lies in the set without it
pub loopless_none_closes : (d : Design) (s : Set) → Loopless d s → NoneCloses d s
unfolding Loopless NoneCloses
loopless_none_closes d s loopless e h i c =
    loopless e h i (chain_mono d (λ f _ b. without_make s e f (below_in s e f b) (λ q. lt_irrefl e (subst (λ (g : ℕ). g < e) q (below_lt s e f b)))) c)

-- and where none closes a loop, no edge below e has its ends joined by the others below e: by induction on e
module _ (d : Design) (s : Set) (closes : (e : ℕ) → In d.m e → Is (s e) → ¬ Chain d (below s e) (d.one e) (d.other e)) where
  abbrev Good : ℕ → Type 0
  Good e = (f : ℕ) → In d.m f → Is (below s e f) → ¬ Chain d (below s e without f) (d.one f) (d.other f)

  -- e's ends joined by way of f, where f's are by way of e
  turned : (e f : ℕ) → In d.m f → Is (below s e f) → Over d (below s e without f) e (d.one f) (d.other f)
      → Chain d (below s e) (d.one e) (d.other e)
  turned e f h i o =
      let wide : Within d.m (below s e without f) (below s e) = λ g _ t. without_old (below s e) f g t in
      let edge : Chain d (below s e) (d.one f) (d.other f) = chain_edge d f h i in
      ⊎_elim
      (λ w. chain_trans d (chain_sym d (chain_mono d wide w.0)) (chain_trans d edge (chain_sym d (chain_mono d wide w.1))))
      (λ w. chain_trans d (chain_mono d wide w.1) (chain_trans d (chain_sym d edge) (chain_mono d wide w.0)))
      o

  -- of the numbers below e + 1 without f, those in range are e or lie below e
  step_in : (e f g : ℕ) → Is ((below s (suc e) without f) g) → g ≢ e → Is ((below s e without f) g)
  step_in e f g t ne =
      let b : Is (below s (suc e) g) = without_old (below s (suc e)) f g t in
      without_make (below s e) f g (below_make s e g (below_in s (suc e) g b) (omega (arith, below_lt s (suc e) g b))) (without_ne (below s (suc e)) f g t)

  -- e is an edge of s: no edge of those up to e has its ends joined by the others
  grows : (e : ℕ) → Good e → In d.m e → Is (s e) → Good (suc e)
  grows e good he ie f hf bf c =
      by_eq f e
      (λ q. closes e he ie (subst (λ (g : ℕ). Chain d (below s e) (d.one g) (d.other g)) q (chain_mono d (λ g hg t. without_old (below s e) f g (step_in e f g t (λ r. without_ne (below s (suc e)) f g t (r ∙ sym q)))) c)))
      (λ ne.
      let low : Is (below s e f) = below_make s e f (below_in s (suc e) f bf) (omega (arith, below_lt s (suc e) f bf)) in
      ⊎_elim (λ p. good f hf low p) (λ o. closes e he ie (turned e f hf low o))
      (chain_split d (below s e without f) e
      (chain_mono d (λ g hg t. by_eq g e (λ r. subst (λ (j : ℕ). Is ((below s e without f with e) j)) (sym r) (with_self (below s e without f) e)) (λ r. with_old (below s e without f) e g (step_in e f g t r))) c)))

  -- e is no edge of s, or no edge at all: nothing is new
  stays : (e : ℕ) → Good e → ((g : ℕ) → In d.m g → Is (s g) → g ≢ e) → Good (suc e)
  stays e good none f hf bf c =
      let i : Is (s f) = below_in s (suc e) f bf in
      let ne : f ≢ e = none f hf i in
      good f hf (below_make s e f i (omega (arith, below_lt s (suc e) f bf)))
      (chain_mono d (λ g hg t. step_in e f g t (none g hg (below_in s (suc e) g (without_old (below s (suc e)) f g t)))) c)

  all_good : (e : ℕ) → Good e
  all_good zero = λ f h b c. absurd (omega (arith, below_lt s 0 f b))
  all_good (suc e) =
      cases (s e and (1 ≤? e and e ≤? d.m))
      (λ t.
      let r = and_r (s e) _ t in
      grows e (all_good e) (record { low = le_of _ _ (and_l _ _ r); high = le_of _ _ (and_r (1 ≤? e) _ r) }) (and_l _ _ t))
      (λ n. stays e (all_good e) (λ g hg t q. n (subst (λ (j : ℕ). Is (s j and (1 ≤? j and j ≤? d.m))) q (and_make _ _ t (and_make _ _ (le_is _ _ hg.low) (le_is _ _ hg.high))))))

pub none_closes_loopless : (d : Design) (s : Set) → NoneCloses d s → Loopless d s
unfolding NoneCloses Loopless
none_closes_loopless d s closes e h i c =
    all_good d s closes (suc d.m) e h (below_make s (suc d.m) e i (omega arith))
    (chain_mono d (λ f hf t. without_make (below s (suc d.m)) e f (below_make s (suc d.m) f (without_old s e f t) (omega arith)) (without_ne s e f t)) c)
