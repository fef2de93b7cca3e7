-- The turn of a waiting edge, of the model that it computes (specs/Search.antt of crate theory).
use Rattle.std.specs.Prelude.{◌≡◌, List, ℕ, ◌<◌, length, Option, Some, None}
use Rattle.rule.specs.Legal.{Design}
use Rattle.theory.specs.Search.{Waiting, edge_at, Result}
use Rattle.theory.specs.Search.Result.{found, going}
use Rattle.theory.proofs.Search.Reached.{Grows}
use Rattle.reaching.specs.Setting.{Setting, SearchState}

-- the model has come to an outcome with edges waiting of which P holds
pub record Comes (P : Waiting → Type 0) (outcome : Waiting → Result) (model : Result) : Type 0 where
  pub waiting : Waiting
  pub is : model ≡ outcome waiting
  pub holds : P waiting

-- the answer of an edge that waits at a place is what the model has come to: a forest that is free, or none, and n edges wait then
abbrev pub Tells : (Waiting → Type 0) → (place : ℕ) → Result → (n : ℕ) → Option ℕ → Type 0
Tells P place model n (Some forest) = Comes P (found place forest) model
Tells P place model n None = Comes (λ w. (n ≡ length w.queue) × P w) going model

-- The edge x, which joins u and v, waits at a place of n.
pub record Trying (u v place n : ℕ) (root way edge queue from seen : List ℕ) : Type 0 where
  pub d : Design
  pub forest : ℕ → ℕ
  pub who : List ℕ
  pub size : List ℕ
  pub setting : Setting d forest root way who edge size
  pub w : Waiting
  pub state : SearchState d forest edge size queue from seen w
  pub waits : n ≡ length w.queue
  pub here : place < n
  pub x : ℕ
  pub is_x : edge_at w place ≡ x
  pub one : d.one x ≡ u
  pub other : d.other x ≡ v

-- after some forests of x the arrays hold v, which has what waited before and perhaps more behind
pub record Further (d : Design) (forest : ℕ → ℕ) (edge size : List ℕ) (w : Waiting) (queue from seen : List ℕ) (v : Waiting) : Type 0 where
  pub state : SearchState d forest edge size queue from seen v
  pub grows : Grows w v

abbrev pub After : {u v place n : ℕ} {root way edge queue from seen : List ℕ} → Trying u v place n root way edge queue from seen → (queue' from' seen' : List ℕ)
    → Waiting → Type 0
After {edge = edge} t queue' from' seen' = Further t.d t.forest edge t.size t.w queue' from' seen'
