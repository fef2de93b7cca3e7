-- Tests that decide sparse, legal and the circuit (crate rule, specs/Legal.antt), for any numbers of bodies and edges.
--
-- Sparse asks of a set of bodies how many of 1 to n it has and how many edges it holds. Where the edges' ends lie in 1 to n, both
-- depend on 1 to n alone, so it is enough to try every set of numbers of 1 to n. Legal asks for a choice of black edges, of which
-- only 1 to m count, so it is enough to try every set of numbers of 1 to m.
--
-- In order: the tests; what a change outside 1 to m, or outside 1 to n, leaves as it is; the decisions.
-- Assumes nothing.
use mathlib.Core.Path.{ap, ap₂, ◌∙◌, subst₂}
use mathlib.Core.Bool.{Bool}
use mathlib.Core.List.{List}
use Prim.Native.Nat.{ℕ, ◌*◌, ◌-◌, ◌≤◌}
use Rattle.rule.specs.Sets.{◌and◌, ◌or◌, isnt, ◌≤?◌, Set, ◌with◌, ◌without◌, count, numbers}
use Rattle.rule.specs.Legal.{Design, Ends, inside, Sparse, first_part, second_part, Legal, InCircuit, Circuit}
use Rattle.rule.proofs.Counting.{Agree, count_eq}
use Rattle.rule.proofs.Legality.{sparse_sub}
use Rattle.known.proofs.Decides.{Decides, self_decides, reworded, and_decides, if_decides, le_decides, same?, lists_decides}
use Rattle.known.proofs.Trying.{Depends, some?, every?, some_decides, every_decides}

unfoldable pub sparse? : Design → ℕ → Set → Bool
sparse? d c s =
    every? (λ w. isnt (1 ≤? count w d.n) or count (inside d s w) d.m ≤? c * (count w d.n - 1)) d.n

unfoldable pub legal? : Design → Set → Bool
legal? d s = some? (λ first. sparse? d d.a (first_part d s first) and sparse? d d.b (second_part d s first)) d.m

unfoldable pub in_circuit? : Design → Set → ℕ → Set
in_circuit? d kept e y = kept y and legal? d (kept without y with e)

unfoldable pub circuit? : Design → Set → ℕ → List ℕ → Bool
circuit? d kept e list = same? list (numbers (in_circuit? d kept e) d.m)

-- ---- what depends on 1 to m, and on 1 to n, alone

module _ (d : Design) where
  sparse_agrees : (c : ℕ) {s t : Set} → Agree d.m s t → Sparse d c s → Sparse d c t
  sparse_agrees c {s} {t} f = sparse_sub d c t s (λ e h i. f e h ∙ i)

  first_agrees : (s : Set) {v w : Set} → Agree d.m v w → Agree d.m (first_part d s v) (first_part d s w)
  unfolding first_part
  first_agrees s f e h = ap (λ (t : Bool). s e and (d.red e or t)) (f e h)

  second_agrees : (s : Set) {v w : Set} → Agree d.m v w → Agree d.m (second_part d s v) (second_part d s w)
  unfolding second_part
  second_agrees s f e h = ap (λ (t : Bool). s e and isnt (d.red e or t)) (f e h)

module _ (d : Design) (ends : Ends d) where
  inside_agrees : (s v w : Set) → Agree d.n v w → Agree d.m (inside d s v) (inside d s w)
  unfolding inside
  inside_agrees s v w f e h = ap₂ (λ (x y : Bool). s e and (x and y)) (f (d.one e) (ends.one e h)) (f (d.other e) (ends.other e h))

  -- what is said of how many bodies a set has and how many edges of s it holds depends on the bodies 1 to n alone
  pub counts_depend : (s : Set) (C : ℕ → ℕ → Type 0) → Depends d.n (λ w. C (count w d.n) (count (inside d s w) d.m))
  counts_depend s C v w f =
      subst₂ C (count_eq v w d.n f) (count_eq (inside d s v) (inside d s w) d.m (inside_agrees s v w f))

  -- ---- the decisions

  pub sparse_decides : (c : ℕ) (s : Set) → Decides (sparse? d c s) (Sparse d c s)
  unfolding sparse? Sparse
  sparse_decides c s =
      every_decides _ _ d.n (λ w. if_decides (le_decides _ _) (le_decides _ _))
      (counts_depend s (λ x y. 1 ≤ x → y ≤ c * (x - 1)))

  pub legal_decides : (s : Set) → Decides (legal? d s) (Legal d s)
  unfolding legal?
  legal_decides s =
      reworded
      (some_decides _ _ d.m (λ first. and_decides (sparse_decides d.a _) (λ _. sparse_decides d.b _))
      (λ v w f z. (sparse_agrees d d.a (first_agrees d s f) z.0, sparse_agrees d d.b (second_agrees d s f) z.1)))
      (λ z. record { first = z.0; reds_with_first = z.1.0; second = z.1.1 })
      (λ z. (z.first, (z.reds_with_first, z.second)))

  pub in_circuit_decides : (kept : Set) (e y : ℕ) → Decides (in_circuit? d kept e y) (InCircuit d kept e y)
  unfolding in_circuit?
  in_circuit_decides kept e y = and_decides (self_decides (kept y)) (λ _. legal_decides _)

  pub circuit_decides : (kept : Set) (e : ℕ) (list : List ℕ) → Decides (circuit? d kept e list) (Circuit d kept e list)
  unfolding circuit?
  circuit_decides kept e list = lists_decides _ _ d.m list (λ y _. in_circuit_decides kept e y)
