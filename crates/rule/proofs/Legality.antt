-- A subset of a legal set is legal; a legal set has at most k·(n−1) edges; so freedom and the kept count add up to k·(n−1).
--
-- The first: each part of the subset lies in the same part of the set, and a set inside a sparse one is sparse.
-- The second: every set of bodies holds at most a·(m−1) edges of the one part and b·(m−1) of the other; all bodies hold every edge.
-- Assumes nothing.
use mathlib.Core.Path.{◌≡◌, refl, subst}
use mathlib.Core.Bool.{true}
use Prim.Native.Nat.{ℕ, ◌+◌, ◌*◌, ◌-◌, ◌≤◌}
use native.Mathlib.Nat.{add-mul}
use native.Mathlib.Omega.{arith}
use Rattle.rule.specs.Sets.{Is, ◌and◌, ◌or◌, isnt, Set, count}
use Rattle.rule.specs.Legal.{Design, k, inside, Sparse, first_part, second_part, Legal}
use Rattle.rule.specs.Figures.{freedom}
use Rattle.rule.proofs.Tests.{and_make, and_l, and_r}
use Rattle.rule.proofs.Counting.{Within, count_mono, count_all, count_split}

module _ (d : Design) where
  pub inside_make : (s w : Set) (e : ℕ) → Is (s e) → Is (w (d.one e)) → Is (w (d.other e)) → Is (inside d s w e)
  unfolding inside
  inside_make s w e h u v = and_make _ _ h (and_make _ _ u v)

  pub inside_in : (s w : Set) (e : ℕ) → Is (inside d s w e) → Is (s e)
  unfolding inside
  inside_in s w e h = and_l _ _ h

  pub inside_one : (s w : Set) (e : ℕ) → Is (inside d s w e) → Is (w (d.one e))
  unfolding inside
  inside_one s w e h = and_l _ _ (and_r (s e) _ h)

  pub inside_other : (s w : Set) (e : ℕ) → Is (inside d s w e) → Is (w (d.other e))
  unfolding inside
  inside_other s w e h = and_r (w (d.one e)) _ (and_r (s e) _ h)

  pub inside_mono : (s t w : Set) → Within d.m s t → Within d.m (inside d s w) (inside d t w)
  inside_mono s t w f e h i = inside_make t w e (f e h (inside_in s w e i)) (inside_one s w e i) (inside_other s w e i)

  pub sparse_sub : (c : ℕ) (s t : Set) → Within d.m s t → Sparse d c t → Sparse d c s
  unfolding Sparse
  sparse_sub c s t f sp w nonempty =
      omega (arith, count_mono (inside d s w) (inside d t w) d.m (inside_mono s t w f), sp w nonempty)

module _ (d : Design) (s t first : Set) (f : Within d.m s t) where
  first_mono : Within d.m (first_part d s first) (first_part d t first)
  unfolding first_part
  first_mono e h i = and_make _ _ (f e h (and_l _ _ i)) (and_r (s e) _ i)

  second_mono : Within d.m (second_part d s first) (second_part d t first)
  unfolding second_part
  second_mono e h i = and_make _ _ (f e h (and_l _ _ i)) (and_r (s e) _ i)

-- a subset of a legal set is legal
pub legal_sub : (d : Design) (s t : Set) → Within d.m s t → Legal d t → Legal d s
legal_sub d s t f legal =
    record {
      first = legal.first;
      reds_with_first = sparse_sub d d.a _ _ (first_mono d s t legal.first f) legal.reds_with_first;
      second = sparse_sub d d.b _ _ (second_mono d s t legal.first f) legal.second;
    }

-- the two parts are the whole
pub parts_count : (d : Design) (s first : Set) → count (first_part d s first) d.m + count (second_part d s first) d.m ≡ count s d.m
unfolding first_part second_part
parts_count d s first = count_split s (λ e. d.red e or first e) d.m

-- every nonempty set of m bodies holds at most k·(m−1) edges of a legal set
pub legal_inside : (d : Design) (s w : Set) → Legal d s → 1 ≤ count w d.n → count (inside d s w) d.m ≤ k d * (count w d.n - 1)
unfolding Sparse first_part second_part
legal_inside d s w legal l =
    let chosen : Set = λ e. d.red e or legal.first e in
    let part : (p : Set) → Within d.m (λ e. inside d s w e and p e) (inside d (λ e. s e and p e) w) =
    λ p e h i.
    let o = and_l _ _ i in
    inside_make d (λ e. s e and p e) w e (and_make _ _ (inside_in d s w e o) (and_r (inside d s w e) _ i)) (inside_one d s w e o)
    (inside_other d s w e o) in
    omega (
      arith,
      count_split (inside d s w) chosen d.m,
      count_mono _ _ d.m (part chosen),
      count_mono _ _ d.m (part (λ e. isnt (chosen e))),
      legal.reds_with_first w l,
      legal.second w l,
      add-mul d.a d.b (count w d.n - 1),
    )

-- a legal set has at most k·(n−1) edges: all bodies hold every edge
pub legal_size : (d : Design) (s : Set) → 1 ≤ d.n → Legal d s → count s d.m ≤ k d * (d.n - 1)
legal_size d s h legal =
    let all : Set = λ _. true in
    let size : count all d.n ≡ d.n = count_all all d.n (λ i _. refl) in
    omega (
      arith,
      count_mono s (inside d s all) d.m (λ i _ e. inside_make d s all i e refl refl),
      subst (λ (z : ℕ). count (inside d s all) d.m ≤ k d * (z - 1)) size (legal_inside d s all legal (omega arith)),
    )

-- freedom and the kept count add up to k·(n−1)
pub freedom_adds_up : (d : Design) (kept : Set) → 1 ≤ d.n → Legal d kept → freedom d kept + count kept d.m ≡ k d * (d.n - 1)
unfolding freedom
freedom_adds_up d kept h legal = omega (arith, legal_size d kept h legal)
