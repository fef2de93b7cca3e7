-- The kept set of a grown design: it is legal, no edge can be added to it, it exists, and with one edge more it holds that edge
-- exactly when the edge is kept.
-- Assumes nothing.
use mathlib.Core.Path.{◌≡◌, refl, sym, ◌∙◌, subst}
use mathlib.Core.Logic.{⊎_elim, ◌↔◌, ◌≢◌}
use mathlib.Core.Bool.{Bool, true, false}
use Prim.Native.Nat.{ℕ, zero, suc, ◌≤◌, ◌<◌}
use native.Mathlib.Omega.{arith}
use Rattle.rule.specs.Sets.{Is, Set, In, put, ◌with◌, below, count}
use Rattle.rule.specs.Legal.{Design, Ends, Legal, Keeps, Grown}
use Rattle.rule.specs.declared.Edge.{Edge}
use Rattle.rule.specs.Books.{plus}
use Rattle.rule.proofs.Tests.{cases, never, by_eq, in_split, put_same, put_other, with_self, with_old, with_elim, without_old, below_in, below_lt, below_make}
use Rattle.rule.proofs.Counting.{Within, with_mono, Agree}
use Rattle.rule.proofs.Legality.{legal_sub}
use Rattle.rule.proofs.Determined.{keeps_same, grown_determined}
use Rattle.theory.proofs.Matroid.Arrange.{legal_none, legal_with?}
use Rattle.theory.proofs.Matroid.Formula.{Maximal, Least, formula}
use Rattle.theory.proofs.Laws.Plus.{keeps_shorter, keeps_longer, grown_shorter}

module _ (d : Design) (ends : Ends d) where
  -- ---- legal, and full

  -- the edges up to j are legal
  legal_up_to : (k : Set) → Grown d k → (j : ℕ) → j ≤ d.m → Legal d (below k (suc j))
  legal_up_to k g zero l = legal_none d ends (below k 1) (λ e h t. omega (arith, h.low, below_lt k 1 e t))
  legal_up_to k g (suc j) l =
      cases (k (suc j))
      (λ t.
      legal_sub d (below k (suc (suc j))) (below k (suc j) with suc j)
      (λ e h i.
      by_eq e (suc j) (λ q. subst (λ (f : ℕ). Is ((below k (suc j) with suc j) f)) (sym q) (with_self (below k (suc j)) (suc j)))
      (λ ne. with_old (below k (suc j)) (suc j) e (below_make k (suc j) e (below_in k (suc (suc j)) e i) (omega (arith, below_lt k (suc (suc j)) e i)))))
      ((g (suc j) (omega arith)).0 t))
      (λ n.
      legal_sub d (below k (suc (suc j))) (below k (suc j))
      (λ e h i.
      let t = below_in k (suc (suc j)) e i in
      let ne : e ≢ suc j = λ q. n (subst (λ (f : ℕ). Is (k f)) q t) in
      below_make k (suc j) e t (omega (arith, below_lt k (suc (suc j)) e i)))
      (legal_up_to k g j (omega arith)))

  pub grown_legal : (k : Set) → Grown d k → Legal d k
  grown_legal k g =
      legal_sub d k (below k (suc d.m)) (λ e h i. below_make k (suc d.m) e i (omega arith)) (legal_up_to k g d.m (omega arith))

  -- an edge that is not kept is implied by all kept ones too
  pub grown_full : (k : Set) → Grown d k → (e : ℕ) → In d.m e → ¬ (Is (k e)) → ¬ (Legal d (k with e))
  grown_full k g e h n legal =
      n ((g e h).1 (legal_sub d (below k e with e) (k with e) (with_mono d.m (below k e) k e (λ f _ t. below_in k e f t)) legal))

  pub grown_maximal : (k : Set) → Grown d k → Maximal d (λ _. true) k
  grown_maximal k g = record { within = λ e h i. refl; legal = grown_legal k g; full = λ e h i n. grown_full k g e h n }

  -- the number kept of a grown design is the least bound
  pub grown_formula : (k : Set) → Grown d k → Least d (λ _. true) (count k d.m)
  grown_formula k g = formula d ends (λ _. true) k (grown_maximal k g)

  -- ---- there is one

  -- k is grown as far as the edges up to j, and holds no others
  record GrownTo (j : ℕ) (k : Set) : Type 0 where
    legal : Legal d k
    only : (e : ℕ) → In d.m e → Is (k e) → e ≤ j
    grown : (e : ℕ) → In d.m e → e ≤ j → (Is (k e) ↔ Keeps d (below k e) e)

  -- the edge after j is decided
  grow_one : (j : ℕ) (k : Set) → suc j ≤ d.m → GrownTo j k → (b : Bool) → (Is b → Legal d (k with suc j)) → (¬ (Is b) → ¬ (Legal d (k with suc j)))
      → Legal d (put k (suc j) b) → GrownTo (suc j) (put k (suc j) b)
  grow_one j k l g b if not legal =
      record {
        legal = legal;
        only = λ e h t. by_eq e (suc j) (λ q. omega arith) (λ ne. let o = g.only e h (sym (put_other k (suc j) b e ne) ∙ t) in omega arith);
        grown = λ e h le. by_eq e (suc j) (λ q. subst (λ (f : ℕ). Is (put k (suc j) b f) ↔ Keeps d (below (put k (suc j) b) f) f) (sym q) new) (λ ne. old e h (omega arith) ne);
      }
    where
      same : (f : ℕ) → f < suc j → k f ≡ put k (suc j) b f
      same f h = sym (put_other k (suc j) b f (omega arith))

      old : (e : ℕ) → In d.m e → e ≤ j → e ≢ suc j → Is (put k (suc j) b e) ↔ Keeps d (below (put k (suc j) b) e) e
      old e h le ne =
          let r = g.grown e h le in (
            (λ t. keeps_same d k (put k (suc j) b) e (λ f _ hf. same f (omega arith)) (r.0 (same e (omega arith) ∙ t))),
            (λ p. sym (same e (omega arith)) ∙ r.1 (keeps_same d (put k (suc j) b) k e (λ f _ hf. sym (same f (omega arith))) p)),
          )

      whole : Within d.m (k with suc j) (below k (suc j) with suc j)
      whole = with_mono d.m k (below k (suc j)) (suc j) (λ f hf t. below_make k (suc j) f t (omega (arith, g.only f hf t)))

      new : Is (put k (suc j) b (suc j)) ↔ Keeps d (below (put k (suc j) b) (suc j)) (suc j)
      new = (
        (λ t.
            keeps_same d k (put k (suc j) b) (suc j) (λ f _ h. same f h)
            (legal_sub d (below k (suc j) with suc j) (k with suc j) (with_mono d.m (below k (suc j)) k (suc j) (λ f _ i. below_in k (suc j) f i)) (if (sym (put_same k (suc j) b) ∙ t)))),
        (λ p.
            put_same k (suc j) b
            ∙ cases b (λ t. t)
            (λ f.
            absurd
            (not f
            (legal_sub d (k with suc j) (below k (suc j) with suc j) whole (keeps_same d (put k (suc j) b) k (suc j) (λ f _ h. sym (same f h)) p))))),
      )

  grow_to : (j : ℕ) → j ≤ d.m → (k : Set) × GrownTo j k
  grow_to zero l = (
    (λ _. false),
    record { legal = legal_none d ends (λ _. false) (λ e h t. never t); only = λ e h t. never t; grown = λ e h le. absurd (omega (arith, h.low)) },
  )
  grow_to (suc j) l = go (grow_to j (omega arith))
    where
      go : (k : Set) × GrownTo j k → (k : Set) × GrownTo (suc j) k
      go w = decide (legal_with? d ends w.0 w.1.legal (suc j) (omega arith))
        where
          decide : Dec (Legal d (w.0 with suc j)) → (k : Set) × GrownTo (suc j) k
          decide (yes p) = (w.0 with suc j, grow_one j w.0 l w.1 true (λ _. p) (λ n. absurd (n refl)) p)
          decide (no n) = (
            put w.0 (suc j) false,
            grow_one j w.0 l w.1 false (λ t. never t) (λ _. n)
                (legal_sub d (put w.0 (suc j) false) w.0 (λ e _ t. without_old w.0 (suc j) e t) w.1.legal),
          )

  pub grown_exists : (k : Set) × Grown d k
  grown_exists = let w = grow_to d.m (omega arith) in (w.0, λ e h. w.1.grown e h h.high)

-- ---- one edge more

-- a set and the edges below m + 1 of one that agrees with it, each with the edge m + 1
module _ (d : Design) (s t : Set) (f : Agree d.m s t) where
  whole_with : Within (suc d.m) (s with suc d.m) (below t (suc d.m) with suc d.m)
  whole_with e h i =
      ⊎_elim (λ q. subst (λ (z : ℕ). Is ((below t (suc d.m) with suc d.m) z)) (sym q) (with_self (below t (suc d.m)) (suc d.m)))
      (λ o.
      in_split d.m e h (λ r. with_old (below t (suc d.m)) (suc d.m) e (below_make t (suc d.m) e (sym (f e r) ∙ o) (omega arith)))
      (λ q. subst (λ (z : ℕ). Is ((below t (suc d.m) with suc d.m) z)) (sym q) (with_self (below t (suc d.m)) (suc d.m))))
      (with_elim s (suc d.m) e i)

  below_whole : Within (suc d.m) (below t (suc d.m) with suc d.m) (s with suc d.m)
  below_whole e h i =
      in_split d.m e h
      (λ r.
      ⊎_elim (λ q. absurd (omega (arith, q, r.high))) (λ o. with_old s (suc d.m) e (f e r ∙ below_in t (suc d.m) e o))
      (with_elim (below t (suc d.m)) (suc d.m) e i))
      (λ q. subst (λ (z : ℕ). Is ((s with suc d.m) z)) (sym q) (with_self s (suc d.m)))

module _ (d : Design) (given : Edge) (k l : Set) (gk : Grown d k) where
  -- the kept set of the longer design: the old edges as before, and the new one exactly when it may be kept
  pub grown_longer : Agree d.m k l → (Is (l (suc d.m)) ↔ Keeps (plus d given) k (suc d.m)) → Grown (plus d given) l
  unfolding plus
  grown_longer same new e h =
      in_split d.m e h
      (λ r.
      let old = gk e r in (
        (λ t. keeps_longer d given l e r (keeps_same d k l e (λ f hf _. same f hf) (old.0 (same e r ∙ t)))),
        (λ p. sym (same e r) ∙ old.1 (keeps_same d l k e (λ f hf _. sym (same f hf)) (keeps_shorter d given l e r p))),
      ))
      (λ q.
      subst (λ (z : ℕ). Is (l z) ↔ Keeps (plus d given) (below l z) z) (sym q) (
        (λ t. legal_sub (plus d given) (below l (suc d.m) with suc d.m) (k with suc d.m) (below_whole d k l same) (new.0 t)),
        (λ p. new.1 (legal_sub (plus d given) (k with suc d.m) (below l (suc d.m) with suc d.m) (whole_with d k l same) p)),
      ))

  module _ (gl : Grown (plus d given) l) where
    -- the old edges are kept as before
    pub old_kept : Agree d.m k l
    old_kept = grown_determined d k l gk (grown_shorter d given l gl)

    -- the new one is kept exactly when it may be
    pub new_kept : Is (l (suc d.m)) ↔ Keeps (plus d given) k (suc d.m)
    unfolding plus
    new_kept =
        let r = gl (suc d.m) (omega arith) in (
          (λ t. legal_sub (plus d given) (k with suc d.m) (below l (suc d.m) with suc d.m) (whole_with d k l old_kept) (r.0 t)),
          (λ p. r.1 (legal_sub (plus d given) (below l (suc d.m) with suc d.m) (k with suc d.m) (below_whole d k l old_kept) p)),
        )
