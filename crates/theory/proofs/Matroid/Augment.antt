-- Legal sets are a matroid: a subset of a legal set is legal (crate rule, `legal_sub`); of two legal sets the smaller can take an
-- edge of the larger (`augment`); all sets to which nothing of a given set can be added are equally large (`maximal_same_size`).
--
-- If no edge of the larger set could be taken, the smaller one would be as large as can be among the edges of both.
-- Assumes nothing.
use mathlib.Core.Path.{subst}
use mathlib.Core.Logic.{◌⊎◌, inl, inr, ⊎_elim}
use Prim.Native.Nat.{ℕ, zero, suc, ◌<◌}
use native.Mathlib.Omega.{arith}
use Rattle.rule.specs.Sets.{Is, ◌or◌, Set, In, ◌with◌, count}
use Rattle.rule.specs.Legal.{Design, Ends, Legal}
use Rattle.rule.proofs.Tests.{cases, or_l, or_r, or_elim, in_one, in_split}
use Rattle.theory.proofs.Matroid.Arrange.{legal_with?}
use Rattle.theory.proofs.Matroid.Formula.{maximal_largest}

-- one of 1 to j has P, or none has
pub find : (P : ℕ → Type 0) (j : ℕ) → ((i : ℕ) → In j i → Dec (P i)) → ((i : ℕ) × (In j i × P i)) ⊎ ((i : ℕ) → In j i → ¬ (P i))
find P zero f = inr (λ i h. absurd (omega arith))
find P (suc j) f = go (f (suc j) (omega arith)) (find P j (λ i h. f i (in_one j i h)))
  where
    go : Dec (P (suc j)) → ((i : ℕ) × (In j i × P i)) ⊎ ((i : ℕ) → In j i → ¬ (P i)) → ((i : ℕ) × (In (suc j) i × P i)) ⊎ ((i : ℕ) → In (suc j) i → ¬ (P i))
    go (yes p) rest = inl (suc j, (omega arith, p))
    go (no n) (inl w) = inl (w.0, (in_one j w.0 w.1.0, w.1.1))
    go (no n) (inr m) = inr (λ i h. in_split j i h (λ h'. m i h') (λ q p. n (subst P q p)))

module _ (d : Design) (ends : Ends d) (s t : Set) (ls : Legal d s) (lt : Legal d t) where
  -- an edge of t that s can take
  record Takes (e : ℕ) : Type 0 where
    of_t : Is (t e)
    not_s : ¬ (Is (s e))
    legal : Legal d (s with e)

  takes? : (e : ℕ) → In d.m e → Dec (Takes e)
  takes? e h =
      cases (t e)
      (λ te. cases (s e) (λ se. no (λ k. k.not_s se)) (λ ns. go ns te (legal_with? d ends s ls e h)))
      (λ nt. no (λ k. nt k.of_t))
    where
      go : ¬ (Is (s e)) → Is (t e) → Dec (Legal d (s with e)) → Dec (Takes e)
      go ns te (yes l) = yes (record { of_t = te; not_s = ns; legal = l })
      go ns te (no n) = no (λ k. n k.legal)

  pub augment : count s d.m < count t d.m → (e : ℕ) × (In d.m e × (Is (t e) × (¬ (Is (s e)) × Legal d (s with e))))
  augment less =
      ⊎_elim (λ w. (w.0, (w.1.0, (w.1.1.of_t, (w.1.1.not_s, w.1.1.legal)))))
      (λ none.
      absurd
      (omega (
        arith,
        less,
        maximal_largest d ends (λ e. s e or t e) s t
            (record {
              within = λ e h i. or_l _ _ i;
              legal = ls;
              full =
                  λ e h i n l.
                  none e h (record { of_t = ⊎_elim (λ z. absurd (n z)) (λ z. z) (or_elim _ _ i); not_s = n; legal = l });
            })
            (λ e h i. or_r (s e) _ i) lt,
      )))
      (find Takes d.m takes?)
