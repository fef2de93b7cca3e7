-- Exchange: which edge may take another's place, and moving along a path of such edges.
use Rattle.std.specs.Prelude.{ℕ, ◌≤◌, ◌≢◌, List, [], ◌∷◌}
use Rattle.rule.specs.Sets.{Is, In, put}
use Rattle.rule.specs.Legal.{Design}
use Rattle.rule.specs.Forests.{limit, in_forest}
use Rattle.theory.specs.Joined.{spans, on_path}

-- x may take the place of y: y's forest is one that x may stand in, and y is on the path there between the ends of x
pub record Arc (d : Design) (forest : ℕ → ℕ) (x y : ℕ) : Type 0 where
  pub placed : 1 ≤ forest y
  pub allowed : forest y ≤ limit d x
  pub is_on_path : Is (on_path d (in_forest forest (forest y)) x y)

-- x may go into forest i as it is: the ends of x are not joined there
pub record Free (d : Design) (forest : ℕ → ℕ) (x i : ℕ) : Type 0 where
  pub allowed : In (limit d x) i
  pub not_joined : ¬ (Is (spans d (in_forest forest i) x))

-- each of the list has P
abbrev pub Each : (ℕ → Type 0) → List ℕ → Type 0
Each P [] = Unit
Each P (x ∷ rest) = P x × Each P rest

-- x is none of the list, and no edge of the list comes twice
abbrev pub Distinct : ℕ → List ℕ → Type 0
Distinct x [] = Unit
Distinct x (y ∷ rest) = Each (λ z. z ≢ x) (y ∷ rest) × Distinct y rest

-- a path of exchanges from x through the list, with no forward shortcut
abbrev pub Path : Design → (ℕ → ℕ) → ℕ → List ℕ → Type 0
Path d forest x [] = Unit
Path d forest x (y ∷ rest) = Arc d forest x y × (Each (λ z. ¬ Arc d forest x z) rest × Path d forest y rest)

-- where the list ends
abbrev pub end : ℕ → List ℕ → ℕ
end x [] = x
end x (y ∷ rest) = end y rest

-- the forests after x, which stood nowhere, has taken the place of y, which then stands nowhere
abbrev pub exchanged : (ℕ → ℕ) → ℕ → ℕ → ℕ → ℕ
exchanged forest x y = put (put forest x (forest y)) y 0

-- and so on along the list: its last edge stands nowhere, and each before it in the place of the next
unfoldable pub walked : (ℕ → ℕ) → ℕ → List ℕ → ℕ → ℕ
walked forest x [] = forest
walked forest x (y ∷ rest) = walked (exchanged forest x y) y rest

-- the forest that is free for whoever stands before the list: that of its first edge, or f where it is empty
abbrev pub freed : (ℕ → ℕ) → List ℕ → ℕ → ℕ
freed forest [] f = f
freed forest (y ∷ rest) f = forest y

-- each edge of the list moves into the forest of the one after it, the last into f
unfoldable pub shifted : (ℕ → ℕ) → List ℕ → ℕ → ℕ → ℕ
shifted forest [] f = forest
shifted forest (x ∷ rest) f = put (shifted forest rest f) x (freed forest rest f)
