-- The same edges in another order, and what a grown design implies.
use Rattle.std.specs.Prelude.{◌≡◌, ℕ, suc}
use Rattle.rule.specs.Sets.{Set, In}
use Rattle.rule.specs.Legal.{Design, Implies}
use Rattle.rule.specs.declared.Edge.{Edge}
use Rattle.rule.specs.Books.{plus}

-- e has the profile, the bodies and the edges of d, edge i of d being edge `to i` of e and edge j of e edge `fro j` of d
pub record Renumbered (d e : Design) (to fro : ℕ → ℕ) : Type 0 where
  pub a : d.a ≡ e.a
  pub b : d.b ≡ e.b
  pub n : d.n ≡ e.n
  pub to_range : (i : ℕ) → In d.m i → In e.m (to i)
  pub fro_range : (j : ℕ) → In e.m j → In d.m (fro j)
  pub there : (i : ℕ) → In d.m i → fro (to i) ≡ i
  pub back : (j : ℕ) → In e.m j → to (fro j) ≡ j
  pub one : (i : ℕ) → In d.m i → e.one (to i) ≡ d.one i
  pub other : (i : ℕ) → In d.m i → e.other (to i) ≡ d.other i
  pub red : (i : ℕ) → In d.m i → e.red (to i) ≡ d.red i

-- an edge between u and v is implied by a design of which the edges `kept` are kept
abbrev pub ImpliedBy : Design → Set → (given : Edge) → Type 0
ImpliedBy d kept given = Implies (plus d given) kept (suc d.m)
