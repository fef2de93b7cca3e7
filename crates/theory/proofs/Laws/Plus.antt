-- One edge more: a design and the same with an edge appended have the same legal sets of old edges.
-- Assumes nothing.
use mathlib.Core.Path.{◌≡◌, refl, sym, subst}
use mathlib.Core.Logic.{⊎_elim, ◌≢◌}
use Prim.Native.Nat.{ℕ, suc}
use native.Mathlib.Omega.{arith}
use Rattle.rule.specs.Sets.{Is, ◌=?◌, Set, In, ◌with◌, below}
use Rattle.rule.specs.Legal.{Design, Ends, Legal, Keeps, Grown}
use Rattle.rule.specs.declared.Edge.{Edge}
use Rattle.rule.specs.Books.{plus}
use Rattle.rule.proofs.Tests.{in_one, in_split, put_same, put_other, with_elim, below_lt}
use Rattle.rule.proofs.Counting.{Within}
use Rattle.theory.proofs.Laws.Transport.{Carries, legal_carried}

module _ (d : Design) (given : Edge) where
  -- ---- the edges of the longer design

  pub plus_one : (e : ℕ) → e ≢ suc d.m → (plus d given).one e ≡ d.one e
  unfolding plus
  plus_one e ne = put_other d.one (suc d.m) given.one e ne

  pub plus_other : (e : ℕ) → e ≢ suc d.m → (plus d given).other e ≡ d.other e
  unfolding plus
  plus_other e ne = put_other d.other (suc d.m) given.other e ne

  pub plus_red : (e : ℕ) → e ≢ suc d.m → (plus d given).red e ≡ d.red e
  unfolding plus
  plus_red e ne = put_other d.red (suc d.m) (given.colour =? 1) e ne

  pub new_one : (plus d given).one (suc d.m) ≡ given.one
  unfolding plus
  new_one = put_same d.one (suc d.m) given.one

  pub new_other : (plus d given).other (suc d.m) ≡ given.other
  unfolding plus
  new_other = put_same d.other (suc d.m) given.other

  pub new_red : (plus d given).red (suc d.m) ≡ (given.colour =? 1)
  unfolding plus
  new_red = put_same d.red (suc d.m) (given.colour =? 1)

  pub plus_ends : Ends d → In d.n given.one → In d.n given.other → Ends (plus d given)
  unfolding plus
  plus_ends ends hu hv =
      record {
        one =
            λ e h.
            in_split d.m e h (λ k. subst (In d.n) (sym (plus_one e (omega arith))) (ends.one e k))
            (λ q. subst (λ (z : ℕ). In d.n ((plus d given).one z)) (sym q) (subst (In d.n) (sym new_one) hu));
        other =
            λ e h.
            in_split d.m e h (λ k. subst (In d.n) (sym (plus_other e (omega arith))) (ends.other e k))
            (λ q. subst (λ (z : ℕ). In d.n ((plus d given).other z)) (sym q) (subst (In d.n) (sym new_other) hv));
      }

  -- ---- the old edges

  shorter : (s t : Set) → Within d.m s t → Carries d (plus d given) s t (λ i. i)
  unfolding plus
  shorter s t f =
      record {
        a = refl;
        b = refl;
        n = refl;
        into = record { range = λ i h _. in_one d.m i h; goes = f; once = λ i j _ _ _ _ q. q };
        one = λ i h _. plus_one i (omega arith);
        other = λ i h _. plus_other i (omega arith);
        red = λ i h _. plus_red i (omega arith);
      }

  -- s has old edges only
  longer : (s t : Set) → ((i : ℕ) → In (suc d.m) i → Is (s i) → In d.m i × Is (t i)) → Carries (plus d given) d s t (λ i. i)
  unfolding plus
  longer s t f =
      record {
        a = refl;
        b = refl;
        n = refl;
        into = record { range = λ i h k. (f i h k).0; goes = λ i h k. (f i h k).1; once = λ i j _ _ _ _ q. q };
        one = λ i h k. let r = (f i h k).0 in sym (plus_one i (omega arith));
        other = λ i h k. let r = (f i h k).0 in sym (plus_other i (omega arith));
        red = λ i h k. let r = (f i h k).0 in sym (plus_red i (omega arith));
      }

  pub legal_shorter : (s t : Set) → Within d.m s t → Legal (plus d given) t → Legal d s
  legal_shorter s t f = legal_carried d (plus d given) s t (λ i. i) (shorter s t f)

  pub legal_longer : (s t : Set) → ((i : ℕ) → In (suc d.m) i → Is (s i) → In d.m i × Is (t i)) → Legal d t → Legal (plus d given) s
  legal_longer s t f = legal_carried (plus d given) d s t (λ i. i) (longer s t f)

  -- an old edge is kept in the one as in the other
  pub keeps_shorter : (k : Set) (e : ℕ) → In d.m e → Keeps (plus d given) (below k e) e → Keeps d (below k e) e
  keeps_shorter k e h = legal_shorter (below k e with e) (below k e with e) (λ i _ t. t)

  pub keeps_longer : (k : Set) (e : ℕ) → In d.m e → Keeps d (below k e) e → Keeps (plus d given) (below k e) e
  keeps_longer k e h =
      legal_longer (below k e with e) (below k e with e)
      (λ i hi t.
      (⊎_elim (λ q. subst (In d.m) (sym q) h) (λ o. let l = below_lt k e i o in omega arith) (with_elim (below k e) e i t), t))

  pub grown_shorter : (k : Set) → Grown (plus d given) k → Grown d k
  unfolding plus
  grown_shorter k g e h =
      let r = g e (in_one d.m e h) in
      ((λ t. keeps_shorter k e h (r.0 t)), (λ p. r.1 (keeps_longer k e h p)))
