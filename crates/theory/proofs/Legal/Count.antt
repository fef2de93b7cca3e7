-- Legal sets are small: of a legal set, any set x of edges has at most a·r(x) + b·s(x) edges, s(x) being the rank of its black ones.
-- The edges of the first part are (a,a)-sparse and x joins their ends; those of the second are black and (b,b)-sparse, and the
-- black edges of x join theirs.
-- Assumes nothing.
use Prim.Native.Nat.{ℕ, ◌+◌, ◌*◌, ◌≤◌}
use native.Mathlib.Omega.{arith}
use Rattle.rule.specs.Sets.{Is, Set, count}
use Rattle.rule.specs.Legal.{Design, Ends, Legal, first_part, second_part}
use Rattle.rule.proofs.Tests.{and_make, and_l, and_r, or_l, isnt_make, isnt_not}
use Rattle.rule.proofs.Counting.{Within}
use Rattle.rule.proofs.Legality.{legal_sub, parts_count}
use Rattle.theory.specs.Rank.{rank, black}
use Rattle.theory.proofs.Joined.Laws.{spans_edge}
use Rattle.theory.proofs.Rank.Sparse.{sparse_rank}

module _ (d : Design) where
  pub black_in : (s : Set) (e : ℕ) → Is (black d s e) → Is (s e)
  unfolding black
  black_in s e h = and_l _ _ h

  pub black_not : (s : Set) (e : ℕ) → Is (black d s e) → ¬ (Is (d.red e))
  unfolding black
  black_not s e h = isnt_not (d.red e) (and_r (s e) _ h)

  pub black_make : (s : Set) (e : ℕ) → Is (s e) → ¬ (Is (d.red e)) → Is (black d s e)
  unfolding black
  black_make s e h n = and_make _ _ h (isnt_make (d.red e) n)

  -- the edges of the first part are edges of s, those of the second black ones
  second_black : (s first : Set) (e : ℕ) → Is (second_part d s first e) → Is (black d s e)
  unfolding second_part
  second_black s first e h = black_make s e (and_l _ _ h) (λ r. isnt_not _ (and_r (s e) _ h) (or_l (d.red e) (first e) r))

  first_in : (s first : Set) (e : ℕ) → Is (first_part d s first e) → Is (s e)
  unfolding first_part
  first_in s first e h = and_l _ _ h

module _ (d : Design) (ends : Ends d) where
  legal_rank : (x : Set) → Legal d x → count x d.m ≤ d.a * rank d x + d.b * rank d (black d x)
  legal_rank x legal =
      omega (
        arith,
        parts_count d x legal.first,
        sparse_rank d ends d.a (first_part d x legal.first) x legal.reds_with_first (λ e h i. spans_edge d x e h (first_in d x legal.first e i)),
        sparse_rank d ends d.b (second_part d x legal.first) (black d x) legal.second
            (λ e h i. spans_edge d (black d x) e h (second_black d x legal.first e i)),
      )

  -- for every set x within a legal one
  pub legal_count : (legal x : Set) → Legal d legal → Within d.m x legal → count x d.m ≤ d.a * rank d x + d.b * rank d (black d x)
  legal_count l x legal f = legal_rank x (legal_sub d x l f legal)
