-- The published rule: document 004, Definition 2.4 and section 2.3, as document 01 restates it.
--
-- In order: a design; the edges inside a set of bodies; (c,c)-sparse; legal; kept and implied; the circuit; grown from empty.
use Rattle.std.specs.Prelude.{◌↔◌, List, ℕ, ◌+◌, ◌*◌, ◌-◌, ◌≤◌}
use Rattle.rule.specs.Sets.{Is, ◌and◌, ◌or◌, isnt, Set, In, ◌with◌, ◌without◌, below, count, Lists}

-- A profile [a,b], bodies 1 to n and edges 1 to m. Edge e joins the bodies `one e` and `other e`; it is red or else black.
-- Several edges may join the same two bodies.
pub record Design : Type 0 where
  pub a : ℕ
  pub b : ℕ
  pub n : ℕ
  pub m : ℕ
  pub one : ℕ → ℕ
  pub other : ℕ → ℕ
  pub red : Set

-- the ends of each edge are bodies of the design
pub record Ends (d : Design) : Type 0 where
  pub one : (e : ℕ) → In d.m e → In d.n (d.one e)
  pub other : (e : ℕ) → In d.m e → In d.n (d.other e)

-- k = a + b
abbrev pub k : Design → ℕ
k d = d.a + d.b

-- the edges of s with both ends inside the set w of bodies
unfoldable pub inside : Design → Set → Set → Set
inside d s w e = s e and (w (d.one e) and w (d.other e))

-- (c,c)-sparse: every nonempty set of m bodies holds at most c·(m−1) edges of s with both ends inside
unfoldable pub Sparse : Design → ℕ → Set → Type 0
Sparse d c s = (w : Set) → 1 ≤ count w d.n → count (inside d s w) d.m ≤ c * (count w d.n - 1)

-- all red edges of s, with the chosen ones of its black edges
unfoldable pub first_part : Design → Set → Set → Set
first_part d s first e = s e and (d.red e or first e)

-- the black edges of s that are not chosen
unfoldable pub second_part : Design → Set → Set → Set
second_part d s first e = s e and isnt (d.red e or first e)

-- legal: the black edges of s can be split in two so that all red edges with the first black part are (a,a)-sparse and the
-- second black part is (b,b)-sparse
pub record Legal (d : Design) (s : Set) : Type 0 where
  pub first : Set
  pub reds_with_first : Sparse d d.a (first_part d s first)
  pub second : Sparse d d.b (second_part d s first)

-- an offered edge is kept exactly when the kept edges with it are legal
abbrev pub Keeps : Design → Set → ℕ → Type 0
Keeps d kept e = Legal d (kept with e)

-- otherwise it is implied
abbrev pub Implies : Design → Set → ℕ → Type 0
Implies d kept e = ¬ Keeps d kept e

-- y is in the circuit of e: a kept edge such that the kept edges without y, with e added, are legal
abbrev pub InCircuit : Design → Set → ℕ → ℕ → Type 0
InCircuit d kept e y = Is (kept y) × Legal d (kept without y with e)

-- the circuit of e, as a list of edge numbers, smallest first
abbrev pub Circuit : Design → Set → ℕ → List ℕ → Type 0
Circuit d kept e list = Lists (InCircuit d kept e) d.m list

-- the set kept when the edges 1 to m are offered in order to an empty book: each edge is kept exactly when the edges kept
-- before it and it are legal
abbrev pub Grown : Design → Set → Type 0
Grown d kept = (e : ℕ) → In d.m e → (Is (kept e) ↔ Keeps d (below kept e) e)
