-- From sparse sets to ranks: a (c,c)-sparse set whose edges' ends t joins has at most c times the rank of t edges.
--
-- Each class of bodies that t joins holds at most c·(size−1) of them, and every edge lies in one class. The sizes less one, added
-- up over the classes, are the rank of t.
-- Assumes nothing.
use mathlib.Core.Path.{◌≡◌, refl, ap, ◌∙◌, subst}
use mathlib.Core.Bool.{Bool, true, false, false≢true}
use Prim.Native.Nat.{ℕ, ◌+◌, ◌*◌, ◌-◌, ◌≤◌}
use native.Mathlib.Omega.{arith}
use Rattle.rule.specs.Sets.{Is, ◌and◌, ◌=?◌, ◌<?◌, Set, In, one_if, count}
use Rattle.rule.specs.Legal.{Design, Ends, inside, Sparse}
use Rattle.rule.proofs.Tests.{cases, same_test, is_false, and_make, and_l, and_r, eq_of, eq_is, lt_of, lt_is, by_le, by_eq}
use Rattle.rule.proofs.Counting.{count_eq, count_none, count_all, count_pos, count_sums}
use Rattle.rule.proofs.Legality.{inside_make, inside_in, inside_one}
use Rattle.theory.specs.Numbers.{sum}
use Rattle.theory.specs.Joined.{joined, spans}
use Rattle.theory.specs.Rank.{leader, rank_of, rank}
use Rattle.theory.proofs.Numbers.Sums.{sum_eq, sum_mono, sum_add, sum_mul, sum_count, fibre}
use Rattle.theory.proofs.Rank.Leaders.{Equivalence, leader_in, leader_high, leader_same, leader_leads}
use Rattle.theory.proofs.Rank.Laws.{joined_equivalence}

-- ---- the classes of an equivalence

-- the bodies whose leader is l
class : (ℕ → ℕ → Bool) → ℕ → Set
class near l v = leader near v =? l

module _ (near : ℕ → ℕ → Bool) (eqv : Equivalence near) (n : ℕ) where
  -- a class has its leader in it, and is empty where l leads nobody
  class_size : (l : ℕ) → In n l → count (class near l) n - 1 + one_if (leader near l =? l) ≡ count (class near l) n
  unfolding class
  class_size l h =
      cases (leader near l =? l)
      (λ t. omega (arith, ap one_if t, count_pos (class near l) n l h t))
      (λ f.
      omega (
        arith,
        ap one_if (is_false (leader near l =? l) f),
        count_none (class near l) n (λ v hv i. f (eq_is _ _ (subst (λ (z : ℕ). leader near z ≡ z) (eq_of _ _ i) (leader_leads near eqv v hv.low)))),
      ))

  -- each is its own leader or not
  own_or_not : count (λ l. leader near l =? l) n + rank_of near n ≡ n
  unfolding rank_of
  own_or_not =
      count_sums (λ l. leader near l =? l) (λ l. leader near l <? l) (λ _. true) (λ _. false) n
      (λ l h.
      by_eq (leader near l) l
      (λ q. omega (arith, ap one_if (eq_is _ _ q), ap one_if (is_false (leader near l <? l) (λ t. omega (arith, lt_of _ _ t)))))
      (λ ne.
      omega (
        arith,
        ap one_if (is_false (leader near l =? l) (λ t. ne (eq_of _ _ t))),
        ap one_if (lt_is (leader near l) l (omega (arith, leader_high near eqv l h.low))),
      )))
      ∙ omega (arith, count_all (λ _. true) n (λ i _. refl), count_none (λ _. false) n (λ i _ t. false≢true t))

  -- the sizes less one add up to the rank
  classes_rank : sum (λ l. count (class near l) n - 1) n ≡ rank_of near n
  unfolding class
  classes_rank =
      let all : sum (λ l. count (λ v. true and leader near v =? l) n) n ≡ count (λ _. true) n = fibre (λ _. true) (leader near) n n (λ v h _. leader_in near eqv n v h) in
      let sizes : sum (λ l. count (class near l) n) n ≡ sum (λ l. count (λ v. true and leader near v =? l) n) n =
      sum_eq _ _ n (λ l h. count_eq (class near l) (λ v. true and leader near v =? l) n (λ v hv. same_test _ _ (λ t. and_make _ _ refl t) (λ t. and_r true _ t))) in
      omega (
        arith,
        all,
        sizes,
        count_all (λ _. true) n (λ i _. refl),
        own_or_not,
        sum_add (λ l. count (class near l) n - 1) (λ l. one_if (leader near l =? l)) n,
        sum_eq (λ l. count (class near l) n - 1 + one_if (leader near l =? l)) (λ l. count (class near l) n) n class_size,
        sum_count (λ l. leader near l =? l) n,
      )

-- ---- the bound

module _ (d : Design) (ends : Ends d) (c : ℕ) (s t : Set) (sparse : Sparse d c s) (spanned : (e : ℕ) → In d.m e → Is (s e) → Is (spans d t e)) where
  eqv : Equivalence (joined d t)
  eqv = joined_equivalence d t

  -- an edge of s lies in the class of its first body
  in_class : (l e : ℕ) → In d.m e → inside d s (class (joined d t) l) e ≡ (s e and leader (joined d t) (d.one e) =? l)
  unfolding class spans
  in_class l e h =
      same_test _ _ (λ i. and_make _ _ (inside_in d s _ e i) (inside_one d s _ e i))
      (λ i.
      let k = and_l _ _ i in
      let o = and_r (s e) _ i in
      inside_make d s _ e k o
      (subst (λ (z : ℕ). Is (z =? l)) (leader_same (joined d t) eqv (d.one e) (d.other e) (ends.one e h).low (ends.other e h).low (spanned e h k)) o))

  class_bound : (l : ℕ) → In d.n l → count (inside d s (class (joined d t) l)) d.m ≤ c * (count (class (joined d t) l) d.n - 1)
  unfolding Sparse
  class_bound l h =
      by_le 1 (count (class (joined d t) l) d.n) (λ k. sparse (class (joined d t) l) k)
      (λ k.
      omega (
        arith,
        count_none (inside d s (class (joined d t) l)) d.m
            (λ e he i. omega (arith, count_pos (class (joined d t) l) d.n (d.one e) (ends.one e he) (inside_one d s _ e i))),
      ))

  pub sparse_rank : count s d.m ≤ c * rank d t
  unfolding rank
  sparse_rank =
      omega (
        arith,
        fibre s (λ e. leader (joined d t) (d.one e)) d.m d.n (λ e h _. leader_in (joined d t) eqv d.n (d.one e) (ends.one e h)),
        sum_eq (λ l. count (inside d s (class (joined d t) l)) d.m) (λ l. count (λ e. s e and leader (joined d t) (d.one e) =? l) d.m) d.n
            (λ l h. count_eq _ _ d.m (in_class l)),
        sum_mono (λ l. count (inside d s (class (joined d t) l)) d.m) (λ l. c * (count (class (joined d t) l) d.n - 1)) d.n class_bound,
        sum_mul c (λ l. count (class (joined d t) l) d.n - 1) d.n,
        ap (λ (z : ℕ). c * z) (classes_rank (joined d t) eqv d.n),
      )
