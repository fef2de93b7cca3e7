-- Closed sets are full. A set c of kept edges that covers every edge of u, and lies in u, has exactly a·r(u) + b·s(u) edges, s(u)
-- being the rank of the black ones: in each forest up to a its edges join what u joins, in each forest above a what the black
-- edges of u join, and in a forest there are as many edges as the rank. So no legal set holds c and an edge more that c covers.
-- Assumes nothing.
use mathlib.Core.Path.{◌≡◌, sym, ap, ◌∙◌, subst}
use mathlib.Core.Logic.{⊎_elim}
use Prim.Native.Nat.{ℕ, zero, suc, ◌+◌, ◌*◌, ◌≤◌, ◌<◌}
use native.Mathlib.Nat.{add-zero, add-suc, zero-mul, suc-mul}
use native.Mathlib.Omega.{arith}
use Rattle.rule.specs.Sets.{Is, Set, In, ◌with◌, count}
use Rattle.rule.specs.Legal.{Design, Ends, k, Legal}
use Rattle.rule.specs.Forests.{in_forest, kept_in, limit, Permitted, Arranged}
use Rattle.rule.proofs.Tests.{with_old, with_elim}
use Rattle.rule.proofs.Counting.{Within, count_with}
use Rattle.theory.specs.Numbers.{sum}
use Rattle.theory.specs.Rank.{rank, black}
use Rattle.theory.specs.Closed.{standing, covers, Closed}
use Rattle.theory.proofs.Numbers.Sums.{sum_eq, sum_const, fibre}
use Rattle.theory.proofs.Joined.Laws.{joined_same, spans_edge}
use Rattle.theory.proofs.Joined.Acyclic.{Acyclic, loopless_acyclic, acyclic_sub}
use Rattle.theory.proofs.Rank.Laws.{rank_same, rank_acyclic}
use Rattle.theory.proofs.Legal.Kept.{forest_is, kept_has, limit_red, limit_black, limit_most, limit_least}
use Rattle.theory.proofs.Legal.Count.{black_in, black_not, black_make, legal_count}
use Rattle.theory.proofs.Closed.Laws.{standing_in, standing_forest, covers_at}

-- a sum of x for the first a and y for the b after them
sum_two : (f : ℕ → ℕ) (a b x y : ℕ) → ((i : ℕ) → In a i → f i ≡ x) → ((i : ℕ) → a < i → i ≤ a + b → f i ≡ y) → sum f (a + b) ≡ a * x + b * y
unfolding sum
sum_two f a zero x y p q =
    ap (sum f) (add-zero a) ∙ sum_eq f (λ _. x) a p ∙ sum_const x a ∙ omega (arith, zero-mul y)
sum_two f a (suc b) x y p q =
    ap (sum f) (add-suc a b)
    ∙ omega (arith, sum_two f a b x y p (λ i l h. q i l (omega arith)), q (suc (a + b)) (omega arith) (omega arith), suc-mul b y)

module _ (d : Design) (ends : Ends d) (forest : ℕ → ℕ) (arr : Arranged d forest) where
  pub kept_range : (e : ℕ) → In d.m e → Is (kept_in d forest e) → In (k d) (forest e)
  unfolding Permitted
  kept_range e h i = omega (arith, kept_has d forest e i, arr.permitted e h, limit_most d e)

  pub forest_acyclic : (i : ℕ) → In (k d) i → Acyclic d (in_forest forest i)
  forest_acyclic i h = loopless_acyclic d (in_forest forest i) (arr.loopless i h)

  -- a set of kept edges is counted forest by forest
  pub standing_count : (c : Set) → Within d.m c (kept_in d forest) → sum (λ i. rank d (standing forest c i)) (k d) ≡ count c d.m
  unfolding standing in_forest
  standing_count c f =
      sum_eq (λ i. rank d (standing forest c i)) (λ i. count (standing forest c i) d.m) (k d)
      (λ i h. rank_acyclic d ends (standing forest c i) (acyclic_sub d (standing forest c i) (in_forest forest i) (λ e _ t. standing_forest forest c i e t) (forest_acyclic i h)))
      ∙ by_forest
    where
      by_forest : sum (λ i. count (standing forest c i) d.m) (k d) ≡ count c d.m
      by_forest = fibre c forest d.m (k d) (λ e h i. kept_range e h (f e h i))

  -- c lies in u and covers it
  module _ (c u : Set) (kept : Within d.m c (kept_in d forest)) (inner : Within d.m c u)
      (cover : (e : ℕ) → In d.m e → Is (u e) → Is (covers d forest (limit d) c e)) where
    -- in the forests up to a
    full_first : (i : ℕ) → In d.a i → rank d (standing forest c i) ≡ rank d u
    full_first i h =
        rank_same d (standing forest c i) u
        (joined_same d (standing forest c i) u (λ e he t. spans_edge d u e he (inner e he (standing_in forest c i e t)))
        (λ e he t. covers_at d forest (limit d) c e i (cover e he t) (omega (arith, limit_least d e))))

    -- in the forests above a stand black edges only
    above_black : (i e : ℕ) → d.a < i → In d.m e → Is (standing forest c i e) → Is (black d u e)
    unfolding Permitted
    above_black i e l h t =
        black_make d u e (inner e h (standing_in forest c i e t))
        (λ r. omega (arith, arr.permitted e h, limit_red d e r, forest_is forest i e (standing_forest forest c i e t)))

    full_second : (i : ℕ) → d.a < i → i ≤ k d → rank d (standing forest c i) ≡ rank d (black d u)
    full_second i l h =
        rank_same d (standing forest c i) (black d u)
        (joined_same d (standing forest c i) (black d u) (λ e he t. spans_edge d (black d u) e he (above_black i e l he t))
        (λ e he t.
        covers_at d forest (limit d) c e i (cover e he (black_in d u e t)) (omega (arith, limit_black d e (black_not d u e t)))))

    pub closed_count : count c d.m ≡ d.a * rank d u + d.b * rank d (black d u)
    closed_count =
        sym (standing_count c kept)
        ∙ sum_two (λ i. rank d (standing forest c i)) d.a d.b (rank d u) (rank d (black d u)) full_first full_second

  -- no legal set holds c and an edge more that c covers
  pub closed_none : (c legal : Set) (e : ℕ) → Within d.m c (kept_in d forest) → Closed d forest (limit d) c → In d.m e → ¬ (Is (c e))
      → Is (covers d forest (limit d) c e) → Legal d legal → ¬ (Within d.m (c with e) legal)
  closed_none c l e kept closed he not cover legal within =
      omega (
        arith,
        count_with c d.m e he not,
        legal_count d ends l (c with e) legal within,
        closed_count c (c with e) kept (λ f _ t. with_old c e f t)
            (λ f hf t. ⊎_elim (λ q. subst (λ (g : ℕ). Is (covers d forest (limit d) c g)) (sym q) cover) (λ o. closed f hf o) (with_elim c e f t)),
      )
