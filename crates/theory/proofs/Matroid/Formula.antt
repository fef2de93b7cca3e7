-- The rank formula. Let k be a legal set of edges of g to which no edge of g can be added. Then the number of its edges is the least,
-- over all choices s of edges of g, of the edges of g outside s plus a·r(s) plus b·s(s), and it is attained.
--
-- At most: of k, those in s are few (`legal_count`). Attained: take the greatest closed set of an arrangement of k, and the edges of g
-- that are not in k. Each of these is implied, so the search for it is stuck and what it reached is a closed set that covers it;
-- hence so does the greatest one, and `closed_count` gives its size.
-- Assumes nothing.
use mathlib.Core.Path.{◌≡◌, refl, sym, ◌∙◌, subst}
use mathlib.Core.Logic.{⊎_elim}
use Prim.Native.Nat.{ℕ, ◌+◌, ◌*◌, ◌≤◌}
use native.Mathlib.Nat.{mul-le-mul_left, le_antisymm}
use native.Mathlib.Omega.{arith}
use Rattle.rule.specs.Sets.{Is, ◌and◌, ◌or◌, isnt, Set, In, ◌with◌, ◌without◌, count}
use Rattle.rule.specs.Legal.{Design, Ends, Legal}
use Rattle.rule.specs.Forests.{limit, kept_in}
use Rattle.rule.proofs.Tests.{cases, same_test, and_make, and_l, and_r, or_l, or_r, or_elim, isnt_make, isnt_not, without_old, without_ne}
use Rattle.rule.proofs.Counting.{Within, with_mono, Agree, count_mono, count_eq, count_split}
use Rattle.rule.proofs.Legality.{legal_sub}
use Rattle.theory.specs.Rank.{rank, black}
use Rattle.theory.specs.Closed.{covers, greatest}
use Rattle.theory.specs.Search.{Result, search}
use Rattle.theory.specs.Search.Result.{found, going}
use Rattle.theory.proofs.Rank.Laws.{rank_sub}
use Rattle.theory.proofs.Legal.Count.{black_in, black_not, black_make, legal_count}
use Rattle.theory.proofs.Closed.Laws.{covers_mono, greatest_kept, greatest_closed, greatest_holds}
use Rattle.theory.proofs.Closed.Count.{closed_count}
use Rattle.theory.proofs.Search.Outcome.{found_kept, stuck_closed, stuck_covered, seen_kept}
use Rattle.theory.proofs.Matroid.Arrange.{Arrangement, unplaced, legal_arranged}

-- the edges of g outside s
abbrev pub outside : Set → Set → Set
outside g s = λ e. g e and isnt (s e)

-- what the choice s bounds the number kept of g by
unfoldable pub bound : Design → Set → Set → ℕ
bound d g s = count (outside g s) d.m + (d.a * rank d s + d.b * rank d (black d s))

-- c is the least of these bounds
pub record Least (d : Design) (g : Set) (c : ℕ) : Type 0 where
  pub choice : Set
  pub chosen : Within d.m choice g
  pub attained : c ≡ bound d g choice
  pub at_most : (s : Set) → Within d.m s g → c ≤ bound d g s

-- k is legal, its edges are edges of g, and no other edge of g can be added to it
pub record Maximal (d : Design) (g k : Set) : Type 0 where
  pub within : Within d.m k g
  pub legal : Legal d k
  pub full : (e : ℕ) → In d.m e → Is (g e) → ¬ (Is (k e)) → ¬ (Legal d (k with e))

module _ (d : Design) (ends : Ends d) where
  black_mono : (s t : Set) → Within d.m s t → Within d.m (black d s) (black d t)
  black_mono s t f e h i = black_make d t e (f e h (black_in d s e i)) (black_not d s e i)

  -- ---- at most

  pub legal_bound : (g k s : Set) → Within d.m k g → Legal d k → Within d.m s g → count k d.m ≤ bound d g s
  unfolding bound
  legal_bound g k s kg legal sg =
      let both : Set = λ e. k e and s e in
      let in_s : Within d.m both s = λ e h i. and_r (k e) _ i in
      omega (
        arith,
        count_split k s d.m,
        legal_count d ends k both legal (λ e h i. and_l _ _ i),
        mul-le-mul_left d.a (rank_sub d both s in_s),
        mul-le-mul_left d.b (rank_sub d (black d both) (black d s) (black_mono both s in_s)),
        count_mono (outside k s) (outside g s) d.m (λ e h i. and_make _ _ (kg e h (and_l _ _ i)) (and_r (k e) _ i)),
      )

  -- ---- attained

  module _ (g k : Set) (max : Maximal d g k) (r : Arrangement d k) where
    -- the greatest closed set
    abbrev core : Set
    core = greatest d r.forest (limit d)

    core_kept : Within d.m core k
    core_kept e h i = sym (r.keeps e h) ∙ greatest_kept d r.forest (limit d) e i

    -- it covers each edge of g that is not kept
    core_covers : (e : ℕ) → In d.m e → Is (g e) → ¬ (Is (k e)) → Is (covers d r.forest (limit d) core e)
    core_covers e h ge ke = go (search d r.forest e) refl
      where
        none : r.forest e ≡ 0
        none = unplaced d ends k r e h ke

        kept_with : Within d.m (k with e) (kept_in d r.forest with e)
        kept_with = with_mono d.m k (kept_in d r.forest) e (λ f hf t. r.keeps f hf ∙ t)

        go : (q : Result) → search d r.forest e ≡ q → Is (covers d r.forest (limit d) core e)
        go (found p i w) q =
            absurd (max.full e h ge ke (legal_sub d (k with e) (kept_in d r.forest with e) kept_with (found_kept d ends r.forest r.arranged e h none p i w q)))
        go (going w) q =
            covers_mono d r.forest (limit d) (w.seen without e) core
            (greatest_holds d r.forest (limit d) (w.seen without e)
            (λ f hf t. seen_kept d ends r.forest r.arranged e h none w q f hf (without_old w.seen e f t) (without_ne w.seen e f t))
            (stuck_closed d ends r.forest r.arranged e h none w q))
            e
            (stuck_covered d ends r.forest r.arranged e h none w q)

    -- the greatest closed set, and the edges of g that are not kept
    abbrev chosen_set : Set
    chosen_set = λ e. core e or outside g k e

    core_count : count core d.m ≡ d.a * rank d chosen_set + d.b * rank d (black d chosen_set)
    core_count =
        closed_count d ends r.forest r.arranged core chosen_set (λ e h i. greatest_kept d r.forest (limit d) e i) (λ e h i. or_l _ _ i)
        (λ e h i.
        ⊎_elim (λ c. greatest_closed d r.forest (limit d) e h c) (λ o. core_covers e h (and_l _ _ o) (isnt_not _ (and_r (g e) _ o)))
        (or_elim _ _ i))

    -- outside it are the kept edges that are not in the closed set
    left_over : Agree d.m (outside g chosen_set) (λ e. k e and isnt (core e))
    left_over e h =
        same_test _ _
        (λ i.
        let n = isnt_not _ (and_r (g e) _ i) in
        and_make _ _ (cases (k e) (λ t. t) (λ f. absurd (n (or_r (core e) _ (and_make _ _ (and_l _ _ i) (isnt_make _ f)))))) (isnt_make _ (λ c. n (or_l _ _ c))))
        (λ i.
        let t = and_l _ _ i in
        and_make _ _ (max.within e h t)
        (isnt_make _ (λ o. ⊎_elim (λ c. isnt_not _ (and_r (k e) _ i) c) (λ z. isnt_not _ (and_r (g e) _ z) t) (or_elim _ _ o))))

    pub formula_at : Least d g (count k d.m)
    unfolding bound
    formula_at =
        record {
          choice = chosen_set;
          chosen = λ e h i. ⊎_elim (λ c. max.within e h (core_kept e h c)) (λ o. and_l _ _ o) (or_elim _ _ i);
          attained =
              omega (
                arith,
                core_count,
                count_eq (outside g chosen_set) (λ e. k e and isnt (core e)) d.m left_over,
                count_split k core d.m,
                count_eq (λ e. k e and core e) core d.m (λ e h. same_test _ _ (λ i. and_r (k e) _ i) (λ i. and_make _ _ (core_kept e h i) i)),
              );
          at_most = λ s f. legal_bound g k s max.within max.legal f;
        }

  -- the rank formula
  pub formula : (g k : Set) → Maximal d g k → Least d g (count k d.m)
  formula g k max = formula_at g k max (legal_arranged d ends k max.legal)

  -- there is one least bound, so all sets to which nothing of g can be added are equally large
  pub least_determined : (g : Set) (c e : ℕ) → Least d g c → Least d g e → c ≡ e
  least_determined g c e p q =
      le_antisymm (subst (λ (z : ℕ). c ≤ z) (sym q.attained) (p.at_most q.choice q.chosen))
      (subst (λ (z : ℕ). e ≤ z) (sym p.attained) (q.at_most p.choice p.chosen))

  pub maximal_same_size : (g k l : Set) → Maximal d g k → Maximal d g l → count k d.m ≡ count l d.m
  maximal_same_size g k l p q = least_determined g (count k d.m) (count l d.m) (formula g k p) (formula g l q)

  -- no legal set of edges of g is larger
  pub maximal_largest : (g k l : Set) → Maximal d g k → Within d.m l g → Legal d l → count l d.m ≤ count k d.m
  maximal_largest g k l p within legal =
      let f = formula g k p in
      subst (λ (z : ℕ). count l d.m ≤ z) (sym f.attained) (legal_bound g l f.choice within legal f.chosen)
