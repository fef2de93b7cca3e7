-- Forests give legality. A set with no closed loop is (1,1)-sparse: its edges inside w are as many as their rank, and the smallest
-- body of w adds nothing to it. So c forests together are (c,c)-sparse; forests 1 to a are the first part, a + 1 to k the second.
-- Assumes nothing.
use mathlib.Core.Path.{subst}
use mathlib.Core.Logic.{⊎_elim}
use Prim.Native.Nat.{ℕ, zero, suc, ◌+◌, ◌-◌, ◌≤◌, ◌<◌}
use native.Mathlib.Nat.{add-mul, one-mul}
use native.Mathlib.Numerals.{add-one}
use native.Mathlib.Omega.{arith}
use Rattle.rule.specs.Sets.{Is, ◌and◌, ◌or◌, ◌<?◌, ◌≤?◌, Set, In, count}
use Rattle.rule.specs.Legal.{Design, Ends, k, inside, Sparse, Legal, first_part, second_part}
use Rattle.rule.specs.Forests.{in_forest, kept_in, Permitted, Arranged}
use Rattle.rule.proofs.Tests.{and_make, and_l, and_r, or_l, or_r, or_elim, isnt_not, eq_is, lt_of, lt_is, le_of, le_is, not_le, by_eq}
use Rattle.rule.proofs.Counting.{Within, count_mono, count_none, count_or}
use Rattle.rule.proofs.Legality.{inside_make, inside_in, inside_one, inside_other, sparse_sub}
use Rattle.theory.proofs.Legal.Kept.{kept_has, limit_red, limit_most}
use Rattle.theory.proofs.Joined.Acyclic.{Acyclic, loopless_acyclic, acyclic_sub}
use Rattle.theory.proofs.Rank.Laws.{rank_acyclic}
use Rattle.theory.proofs.Rank.Held.{rank_held}

module _ (d : Design) (ends : Ends d) where
  -- ---- one forest

  pub acyclic_sparse : (s : Set) → Acyclic d s → Sparse d 1 s
  unfolding Sparse
  acyclic_sparse s ac w l =
      omega (
        arith,
        rank_acyclic d ends (inside d s w) (acyclic_sub d (inside d s w) s (λ e _ i. inside_in d s w e i) ac),
        rank_held d (inside d s w) w (λ e _ i. (inside_one d s w e i, inside_other d s w e i)) l,
        one-mul (count w d.n - 1),
      )

  -- ---- several forests

  -- u lies in s and t together
  sparse_add : (c e : ℕ) (s t u : Set) → Within d.m u (λ i. s i or t i) → Sparse d c s → Sparse d e t → Sparse d (c + e) u
  unfolding Sparse
  sparse_add c e s t u f p q w l =
      omega (
        arith,
        p w l,
        q w l,
        add-mul c e (count w d.n - 1),
        count_or (inside d s w) (inside d t w) d.m,
        count_mono (inside d u w) (λ i. inside d s w i or inside d t w i) d.m
            (λ i h k.
            let one = inside_one d u w i k in
            let other = inside_other d u w i k in
            ⊎_elim (λ o. or_l _ _ (inside_make d s w i o one other)) (λ o. or_r _ _ (inside_make d t w i o one other))
            (or_elim _ _ (f i h (inside_in d u w i k)))),
      )

  -- the edges of the c forests after forest lo
  span : (ℕ → ℕ) → ℕ → ℕ → Set
  span forest lo c e = lo <? forest e and forest e ≤? (lo + c)

  sparse_none : (s : Set) → ((e : ℕ) → In d.m e → ¬ (Is (s e))) → Sparse d 0 s
  unfolding Sparse
  sparse_none s none w l = omega (arith, count_none (inside d s w) d.m (λ e h i. none e h (inside_in d s w e i)))

  -- one forest more
  span_suc : (forest : ℕ → ℕ) (lo c : ℕ) → Within d.m (span forest lo (suc c)) (λ e. span forest lo c e or in_forest forest (lo + suc c) e)
  unfolding span in_forest
  span_suc forest lo c e h i =
      by_eq (forest e) (lo + suc c) (λ q. or_r (lo <? forest e and forest e ≤? (lo + c)) _ (eq_is _ _ q))
      (λ ne.
      or_l _ _ (and_make _ _ (and_l _ _ i) (le_is _ _ (omega (arith, le_of (forest e) (lo + suc c) (and_r (lo <? forest e) _ i))))))

  forests_sparse : (forest : ℕ → ℕ) (lo c : ℕ) → ((i : ℕ) → lo < i → i ≤ lo + c → Acyclic d (in_forest forest i)) → Sparse d c (span forest lo c)
  unfolding span
  forests_sparse forest lo zero ac =
      sparse_none (span forest lo 0) (λ e h i. omega (arith, lt_of _ _ (and_l _ _ i), le_of (forest e) (lo + 0) (and_r (lo <? forest e) _ i)))
  forests_sparse forest lo (suc c) ac =
      subst (λ (z : ℕ). Sparse d z (span forest lo (suc c))) (add-one c)
      (sparse_add c 1 (span forest lo c) (in_forest forest (lo + suc c)) (span forest lo (suc c)) (span_suc forest lo c)
      (forests_sparse forest lo c (λ i l h. ac i l (omega arith)))
      (acyclic_sparse (in_forest forest (lo + suc c)) (ac (lo + suc c) (omega arith) (omega arith))))

  -- ---- both parts

  pub forests_legal : (forest : ℕ → ℕ) → Arranged d forest → Legal d (kept_in d forest)
  unfolding span first_part second_part Permitted
  forests_legal forest arr =
      record {
        first = λ e. forest e ≤? d.a;
        reds_with_first = sparse_sub d d.a _ (span forest 0 d.a) in_first (forests_sparse forest 0 d.a (λ i l h. acyclic i (omega arith)));
        second = sparse_sub d d.b _ (span forest d.a d.b) in_second (forests_sparse forest d.a d.b (λ i l h. acyclic i (omega arith)));
      }
    where
      acyclic : (i : ℕ) → In (k d) i → Acyclic d (in_forest forest i)
      acyclic i h = loopless_acyclic d (in_forest forest i) (arr.loopless i h)

      in_first : Within d.m (first_part d (kept_in d forest) (λ e. forest e ≤? d.a)) (span forest 0 d.a)
      in_first e h i =
          let kept = and_l _ _ i in
          and_make _ _ (lt_is _ _ (kept_has d forest e kept))
          (le_is _ _
          (⊎_elim (λ r. omega (arith, arr.permitted e h, limit_red d e r)) (λ l. omega (arith, le_of _ _ l))
          (or_elim _ _ (and_r (kept_in d forest e) _ i))))

      in_second : Within d.m (second_part d (kept_in d forest) (λ e. forest e ≤? d.a)) (span forest d.a d.b)
      in_second e h i =
          let n = isnt_not _ (and_r (kept_in d forest e) _ i) in
          and_make _ _ (lt_is _ _ (not_le _ _ (λ l. n (or_r (d.red e) _ l)))) (le_is _ _ (omega (arith, arr.permitted e h, limit_most d e)))
