-- Every legal set has an arrangement in forests: its edges are put in one by one, in number order. The search finds each a place,
-- since a subset of a legal set is legal and a stuck search says that it is not.
-- Assumes nothing.
use mathlib.Core.Path.{◌≡◌, refl, sym, ◌∙◌, subst}
use mathlib.Core.Logic.{◌⊎◌, inl, inr, ⊎_elim, ◌≢◌}
use mathlib.Core.List.{◌∷◌}
use Prim.Native.Nat.{ℕ, zero, suc, ◌≤◌}
use native.Mathlib.Omega.{arith}
use Rattle.rule.specs.Sets.{Is, Set, In, ◌with◌, below}
use Rattle.rule.specs.Legal.{Design, Ends, Legal}
use Rattle.rule.specs.Forests.{in_forest, kept_in, Permitted, Arranged}
use Rattle.rule.proofs.Tests.{cases, same_test, by_eq, by_le, with_self, with_old, with_elim, below_in, below_lt, below_make}
use Rattle.rule.proofs.Counting.{with_mono, Agree}
use Rattle.rule.proofs.Legality.{legal_sub}
use Rattle.theory.specs.Exchange.{shifted}
use Rattle.theory.specs.Search.{Result, search, path_to}
use Rattle.theory.specs.Search.Result.{found, going}
use Rattle.theory.proofs.Joined.Acyclic.{Acyclic, acyclic_loopless}
use Rattle.theory.proofs.Legal.Kept.{forest_is, kept_make, kept_has}
use Rattle.theory.proofs.Legal.Forests.{forests_legal}
use Rattle.theory.proofs.Exchange.Shift.{shift_kept, shift_new}
use Rattle.theory.proofs.Search.Outcome.{found_start, found_free, found_arranged, stuck_implied}

-- forests in which exactly the edges of s stand, as they may
pub record Arrangement (d : Design) (s : Set) : Type 0 where
  pub forest : ℕ → ℕ
  pub arranged : Arranged d forest
  pub keeps : Agree d.m (kept_in d forest) s

module _ (d : Design) (ends : Ends d) where
  -- an edge that is not of the set has no forest
  pub unplaced : (s : Set) (r : Arrangement d s) (e : ℕ) → In d.m e → ¬ (Is (s e)) → r.forest e ≡ 0
  unplaced s r e h n =
      by_le 1 (r.forest e) (λ l. absurd (n (sym (r.keeps e h) ∙ kept_make d r.forest e h.high l))) (λ l. omega arith)

  pub arrangement_legal : (s : Set) → Arrangement d s → Legal d s
  arrangement_legal s r = legal_sub d s (kept_in d r.forest) (λ e h i. r.keeps e h ∙ i) (forests_legal d ends r.forest r.arranged)

  -- ---- one edge more: it finds a place, or with it the set is not legal

  module _ (s : Set) (r : Arrangement d s) (e : ℕ) (h : In d.m e) (n : ¬ (Is (s e))) where
    abbrev phi : ℕ → ℕ
    phi = r.forest

    none : phi e ≡ 0
    none = unplaced s r e h n

    grown_by : Result → Type 0
    grown_by (found p i w) = Arrangement d (s with e)
    grown_by (going w) = ¬ (Legal d (s with e))

    extended : (q : Result) → search d phi e ≡ q → grown_by q
    unfolding grown_by
    extended (found p i w) q =
        let start = found_start d ends phi r.arranged e h none p i w q in
        let low = (found_free d ends phi r.arranged e h none p i w q).allowed.low in
        let psi = shifted phi (e ∷ path_to w p) i in
        record {
          forest = psi;
          arranged = found_arranged d ends phi r.arranged e h none p i w q;
          keeps =
              λ f hf.
              by_eq f e
              (λ z.
              subst (λ (g : ℕ). kept_in d psi g ≡ (s with e) g) (sym z)
              (kept_make d psi e h.high (shift_new d phi e (path_to w p) start r.arranged i low) ∙ sym (with_self s e)))
              (λ ne.
              let iff = shift_kept d phi e (path_to w p) start r.arranged i f low ne in
              same_test _ _
              (λ t. with_old s e f (sym (r.keeps f hf) ∙ kept_make d phi f hf.high (iff.0 (kept_has d psi f t))))
              (λ t.
              kept_make d psi f hf.high
              (iff.1 (kept_has d phi f (r.keeps f hf ∙ ⊎_elim (λ z. absurd (ne z)) (λ o. o) (with_elim s e f t))))));
        }
    extended (going w) q = λ legal. stuck_implied d ends phi r.arranged e h none w q (legal_sub d (kept_in d phi with e) (s with e) (with_mono d.m (kept_in d phi) s e (λ f hf t. sym (r.keeps f hf) ∙ t)) legal)

    pub one_more : Arrangement d (s with e) ⊎ (¬ (Legal d (s with e)))
    unfolding grown_by
    one_more = go (search d phi e) refl
      where
        go : (q : Result) → search d phi e ≡ q → Arrangement d (s with e) ⊎ (¬ (Legal d (s with e)))
        go (found p i w) q = inl (extended (found p i w) q)
        go (going w) q = inr (extended (going w) q)

  -- ---- all edges of a legal set

  arrange_agree : (s t : Set) → Agree d.m s t → Arrangement d s → Arrangement d t
  arrange_agree s t f r = record { forest = r.forest; arranged = r.arranged; keeps = λ e h. r.keeps e h ∙ f e h }

  empty_forest : (i : ℕ) → 1 ≤ i → Acyclic d (in_forest (λ _. 0) i)
  unfolding Acyclic
  empty_forest i l e h t = absurd (omega (arith, forest_is (λ _. 0) i e t))

  nothing : (s : Set) → ((e : ℕ) → In d.m e → ¬ (Is (s e))) → Arrangement d s
  unfolding Permitted
  nothing s empty =
      record {
        forest = λ _. 0;
        arranged = record { permitted = λ e h. omega arith; loopless = λ i h. acyclic_loopless d _ (empty_forest i h.low) };
        keeps = λ e h. same_test _ _ (λ t. absurd (omega (arith, kept_has d (λ _. 0) e t))) (λ t. absurd (empty e h t));
      }

  pub legal_none : (s : Set) → ((e : ℕ) → In d.m e → ¬ (Is (s e))) → Legal d s
  legal_none s empty = arrangement_legal s (nothing s empty)

  -- the edges up to j + 1: those up to j, and j + 1 where it is in s
  up_to_with : (s : Set) (j : ℕ) → Is (s (suc j)) → Agree d.m (below s (suc j) with suc j) (below s (suc (suc j)))
  up_to_with s j t e h =
      same_test _ _
      (λ i.
      ⊎_elim (λ q. subst (λ (f : ℕ). Is (below s (suc (suc j)) f)) (sym q) (below_make s (suc (suc j)) (suc j) t (omega arith)))
      (λ o. below_make s (suc (suc j)) e (below_in s (suc j) e o) (omega (arith, below_lt s (suc j) e o))) (with_elim (below s (suc j)) (suc j) e i))
      (λ i.
      by_eq e (suc j) (λ q. subst (λ (f : ℕ). Is ((below s (suc j) with suc j) f)) (sym q) (with_self (below s (suc j)) (suc j)))
      (λ ne. with_old (below s (suc j)) (suc j) e (below_make s (suc j) e (below_in s (suc (suc j)) e i) (omega (arith, below_lt s (suc (suc j)) e i)))))

  up_to_without : (s : Set) (j : ℕ) → ¬ (Is (s (suc j))) → Agree d.m (below s (suc j)) (below s (suc (suc j)))
  up_to_without s j n e h =
      same_test _ _ (λ i. below_make s (suc (suc j)) e (below_in s (suc j) e i) (omega (arith, below_lt s (suc j) e i)))
      (λ i.
      let t = below_in s (suc (suc j)) e i in
      let ne : e ≢ suc j = λ q. n (subst (λ (f : ℕ). Is (s f)) q t) in
      below_make s (suc j) e t (omega (arith, below_lt s (suc (suc j)) e i)))

  arrange_up_to : (s : Set) → Legal d s → (j : ℕ) → j ≤ d.m → Arrangement d (below s (suc j))
  arrange_up_to s legal zero l = nothing (below s 1) (λ e h t. omega (arith, h.low, below_lt s 1 e t))
  arrange_up_to s legal (suc j) l =
      cases (s (suc j))
      (λ t.
      ⊎_elim (λ r. arrange_agree (below s (suc j) with suc j) (below s (suc (suc j))) (up_to_with s j t) r)
      (λ not. absurd (not (legal_sub d (below s (suc j) with suc j) s (λ e h i. ⊎_elim (λ q. subst (λ (f : ℕ). Is (s f)) (sym q) t) (λ o. below_in s (suc j) e o) (with_elim (below s (suc j)) (suc j) e i)) legal)))
      (one_more (below s (suc j)) (arrange_up_to s legal j (omega arith)) (suc j) (omega arith) (λ i. omega (arith, below_lt s (suc j) (suc j) i))))
      (λ n. arrange_agree (below s (suc j)) (below s (suc (suc j))) (up_to_without s j n) (arrange_up_to s legal j (omega arith)))

  pub legal_arranged : (s : Set) → Legal d s → Arrangement d s
  legal_arranged s legal =
      arrange_agree (below s (suc d.m)) s
      (λ e h. same_test _ _ (λ i. below_in s (suc d.m) e i) (λ i. below_make s (suc d.m) e i (omega arith)))
      (arrange_up_to s legal d.m (omega arith))

  -- ---- so keeping an edge is decided

  pub legal_with? : (s : Set) → Legal d s → (e : ℕ) → In d.m e → Dec (Legal d (s with e))
  legal_with? s legal e h =
      cases (s e)
      (λ t. yes (legal_sub d (s with e) s (λ f hf i. ⊎_elim (λ q. subst (λ (g : ℕ). Is (s g)) (sym q) t) (λ o. o) (with_elim s e f i)) legal))
      (λ n. ⊎_elim (λ r. yes (arrangement_legal (s with e) r)) (λ not. no not) (one_more s (legal_arranged s legal) e h n))
