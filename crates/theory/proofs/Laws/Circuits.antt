-- Circuits do not depend on later edges: in a grown design the circuit of an implied edge is the same by the kept edges before it and
-- by all kept edges.
--
-- By all kept edges the search for e is stuck, with a closed set c that covers e, and y is in the circuit exactly when it is in c. All of
-- c comes before e: without a later y the set would hold the edges kept before e and e itself, which are not legal. And a y before e
-- that is not in c leaves c and e together, which no legal set holds.
--
-- And a design with one edge more has the circuits that it had: the legal sets of old edges are the same.
-- Assumes nothing.
use mathlib.Core.Path.{◌≡◌, refl, sym, ◌∙◌, subst}
use mathlib.Core.Logic.Iff
use mathlib.Core.Logic.{⊎_elim, ◌↔◌}
use mathlib.Core.List.{List}
use Prim.Native.Nat.{ℕ, suc, ◌<◌}
use native.Mathlib.Omega.{arith}
use Rattle.rule.specs.Sets.{Is, Set, In, ◌with◌, ◌without◌, below}
use Rattle.rule.specs.Legal.{Design, Ends, Legal, InCircuit, Circuit, Grown}
use Rattle.rule.specs.Forests.{kept_in}
use Rattle.rule.specs.declared.Edge.{Edge}
use Rattle.rule.specs.Books.{plus}
use Rattle.rule.proofs.Tests.{cases, by_le, in_split, put_other, with_elim, without_old, without_ne, without_make, below_in, below_lt, below_make}
use Rattle.rule.proofs.Counting.{Within, with_mono, Agree, numbers_eq}
use Rattle.rule.proofs.Legality.{legal_sub}
use Rattle.theory.specs.Search.{Waiting, Result, search}
use Rattle.theory.specs.Search.Result.{found, going}
use Rattle.theory.proofs.Search.Outcome.{found_kept, stuck_none, circuit_exact, seen_kept}
use Rattle.theory.proofs.Matroid.Arrange.{Arrangement, unplaced, legal_arranged}
use Rattle.theory.proofs.Numbers.Listing.{without_last}
use Rattle.theory.proofs.Joined.Acyclic.{without_mono}
use Rattle.theory.proofs.Laws.Plus.{legal_shorter, legal_longer}
use Rattle.theory.proofs.Laws.Grown.{grown_legal, grown_full}

module _ (d : Design) (ends : Ends d) (k : Set) (g : Grown d k) (e : ℕ) (h : In d.m e) (not : ¬ (Is (k e))) where
  -- fewer kept edges, fewer circuits: what lets e in among all lets it in among those before it
  earlier : (y : ℕ) → Legal d (k without y with e) → Legal d (below k e without y with e)
  earlier y legal =
      legal_sub d (below k e without y with e) (k without y with e)
      (with_mono d.m (below k e without y) (k without y) e
      (λ f _ t. without_make k y f (below_in k e f (without_old (below k e) y f t)) (without_ne (below k e) y f t)))
      legal

  -- an edge whose removal lets e in comes before e
  comes_before : (y : ℕ) → Is (k y) → Legal d (k without y with e) → y < e
  comes_before y ky legal =
      by_le e y
      (λ le.
      absurd
      (not
      ((g e h).1
      (legal_sub d (below k e with e) (k without y with e)
      (with_mono d.m (below k e) (k without y) e (λ f _ t. let l = below_lt k e f t in without_make k y f (below_in k e f t) (omega arith))) legal))))
      (λ l. l)

  module _ (r : Arrangement d k) where
    none : r.forest e ≡ 0
    none = unplaced d ends k r e h not

    later_at : (y : ℕ) → In d.m y → Is (k y) → y < e → Legal d (below k e without y with e) → Legal d (k without y with e)
    later_at y hy ky l legal = go (search d r.forest e) refl
      where
        kept_y : Is (kept_in d r.forest y)
        kept_y = r.keeps y hy ∙ ky

        to_kept : Within d.m (k without y with e) (kept_in d r.forest without y with e)
        to_kept =
            with_mono d.m (k without y) (kept_in d r.forest without y) e
            (λ f hf t. without_make (kept_in d r.forest) y f (r.keeps f hf ∙ without_old k y f t) (without_ne k y f t))

        -- the edges of the closed set come before e, and y is none of them
        all_before : (w : Waiting) → search d r.forest e ≡ going w → ¬ (Is (w.seen y)) → Within d.m (w.seen without e) (below k e without y)
        all_before w q unseen f hf t =
            let seen = without_old w.seen e f t in
            let kept = seen_kept d ends r.forest r.arranged e h none w q f hf seen (without_ne w.seen e f t) in
            let kf : Is (k f) = sym (r.keeps f hf) ∙ kept in
            let swaps = (circuit_exact d ends r.forest r.arranged e h none w q f kept).0 seen in
            without_make (below k e) y f
            (below_make k e f kf
            (comes_before f kf
            (legal_sub d (k without f with e) (kept_in d r.forest without f with e)
            (with_mono d.m (k without f) (kept_in d r.forest without f) e
            (λ z hz i. without_make (kept_in d r.forest) f z (r.keeps z hz ∙ without_old k f z i) (without_ne k f z i))) swaps)))
            (λ same. unseen (subst (λ (z : ℕ). Is (w.seen z)) same seen))

        go : (q : Result) → search d r.forest e ≡ q → Legal d (k without y with e)
        go (found p i w) q =
            absurd
            (grown_full d ends k g e h not
            (legal_sub d (k with e) (kept_in d r.forest with e) (with_mono d.m k (kept_in d r.forest) e (λ f hf t. r.keeps f hf ∙ t))
            (found_kept d ends r.forest r.arranged e h none p i w q)))
        go (going w) q =
            cases (w.seen y)
            (λ s. legal_sub d (k without y with e) _ to_kept ((circuit_exact d ends r.forest r.arranged e h none w q y kept_y).0 s))
            (λ n.
            absurd
            (stuck_none d ends r.forest r.arranged e h none w q (below k e without y with e) legal
            (with_mono d.m (w.seen without e) (below k e without y) e (all_before w q n))))

  -- y is in the circuit of e by the kept edges before it exactly when it is by all of them
  pub circuit_settled : (y : ℕ) → In d.m y → (InCircuit d (below k e) e y ↔ InCircuit d k e y)
  circuit_settled y hy = (
    (λ c.
        let ky = below_in k e y c.0 in
        (ky, later_at (legal_arranged d ends k (grown_legal d ends k g)) y hy ky (below_lt k e y c.0) c.1)),
    (λ c. (below_make k e y c.0 (comes_before y c.0 c.1), earlier y c.1)),
  )

-- ---- the same kept edges

-- y is in the circuit by the one set, then by one that agrees with it
circuit_to : (d : Design) (s t : Set) (e : ℕ) → Agree d.m s t → (y : ℕ) → In d.m y → InCircuit d s e y → InCircuit d t e y
circuit_to d s t e same y hy c = (
  sym (same y hy) ∙ c.0,
  legal_sub d (t without y with e) (s without y with e)
      (with_mono d.m (t without y) (s without y) e (without_mono d t s y (λ f hf i. same f hf ∙ i))) c.1,
)

pub circuit_agree : (d : Design) (s t : Set) (e : ℕ) (list : List ℕ) → Agree d.m s t → Circuit d s e list → Circuit d t e list
circuit_agree d s t e list same c =
    record {
      chosen = c.chosen;
      exactly =
          λ y hy.
          Iff.trans (c.exactly y hy) (circuit_to d s t e same y hy, circuit_to d t s e (λ f hf. sym (same f hf)) y hy);
      in_order = c.in_order;
    }

-- ---- one edge more

module _ (d : Design) (given : Edge) (s : Set) (e : ℕ) (h : In d.m e) (old : ¬ (Is (s (suc d.m)))) where
  -- a set of old edges
  old_edges : (y i : ℕ) → In (suc d.m) i → Is ((s without y with e) i) → In d.m i
  old_edges y i hi t =
      in_split d.m i hi (λ r. r)
      (λ q.
      ⊎_elim (λ l. absurd (omega (arith, h.high)))
      (λ k. absurd (old (subst (λ (z : ℕ). Is (s z)) q (without_old s y i k)))) (with_elim (s without y) e i t))

  circuit_both : (y : ℕ) → InCircuit d s e y ↔ InCircuit (plus d given) s e y
  circuit_both y = (
    (λ c. (c.0, legal_longer d given (s without y with e) (s without y with e) (λ i hi t. (old_edges y i hi t, t)) c.1)),
    (λ c. (c.0, legal_shorter d given (s without y with e) (s without y with e) (λ i _ t. t) c.1)),
  )

  pub circuit_longer : (list : List ℕ) → Circuit d s e list → Circuit (plus d given) s e list
  unfolding plus
  circuit_longer list c =
      let new = suc d.m in
      let chosen : Set = c.chosen without new in
      let same : Agree d.m c.chosen chosen = λ i r. sym (put_other c.chosen new _ i (omega arith)) in
      record {
        chosen = chosen;
        exactly =
            λ i hi.
            in_split d.m i hi
            (λ r.
            Iff.trans ((λ t. same i r ∙ t), (λ t. sym (same i r) ∙ t)) (Iff.trans (c.exactly i r) (circuit_both i)))
            (λ q.
            subst (λ (z : ℕ). Is (chosen z) ↔ InCircuit (plus d given) s e z) (sym q)
            ((λ t. absurd (without_ne c.chosen new new t refl)), (λ k. absurd (old k.0))));
        in_order =
            c.in_order
            ∙ numbers_eq c.chosen chosen d.m same
            ∙ sym (without_last chosen d.m (λ t. without_ne c.chosen new new t refl));
      }
