-- Freedom, dropped and the verdict, and the rigid groups.
use Rattle.std.specs.Prelude.{◌≡◌, ◌⊎◌, List, ℕ, zero, suc, ◌*◌, ◌-◌, ◌≤◌, length}
use Rattle.rule.specs.declared.Verdict.{Verdict}
use Rattle.rule.specs.declared.Verdict.TheVariants.{Tight, Loose, OverTight, OverLoose}
use Rattle.rule.specs.Sets.{Is, isnt, Set, In, count, at}
use Rattle.rule.specs.Legal.{Design, k, inside}

-- k·(n−1) less the number kept
unfoldable pub freedom : Design → Set → ℕ
freedom d kept = k d * (d.n - 1) - count kept d.m

-- the number of implied edges
unfoldable pub dropped : Design → Set → ℕ
dropped d kept = count (λ e. isnt (kept e)) d.m

-- the verdict on a freedom and a number of implied edges
abbrev pub verdict_on : ℕ → ℕ → Verdict
verdict_on zero zero = Tight
verdict_on (suc free) zero = Loose
verdict_on zero (suc implied) = OverTight
verdict_on (suc free) (suc implied) = OverLoose

unfoldable pub verdict : Design → Set → Verdict
verdict d kept = verdict_on (freedom d kept) (dropped d kept)

-- two bodies share a group: some set of m bodies holding both has exactly k·(m−1) kept edges inside it
pub record Share (d : Design) (kept : Set) (u v : ℕ) : Type 0 where
  pub bodies : Set
  pub holds_one : Is (bodies u)
  pub holds_other : Is (bodies v)
  pub exact : count (inside d kept bodies) d.m ≡ k d * (count bodies d.n - 1)

-- v is in the group of u: it is u itself, or a body that shares a group with u
abbrev pub InGroup : Design → Set → ℕ → ℕ → Type 0
InGroup d kept u v = (v ≡ u) ⊎ Share d kept u v

-- the smallest body number of u's group
pub record GroupLead (d : Design) (kept : Set) (u lead : ℕ) : Type 0 where
  pub body : In d.n lead
  pub in_group : InGroup d kept u lead
  pub smallest : (v : ℕ) → In d.n v → InGroup d kept u v → lead ≤ v

-- the group list: for each body in order, the smallest body number of its group
pub record Groups (d : Design) (kept : Set) (list : List ℕ) : Type 0 where
  pub as_long : length list ≡ d.n
  pub leads : (u : ℕ) → In d.n u → GroupLead d kept u (at list u)
