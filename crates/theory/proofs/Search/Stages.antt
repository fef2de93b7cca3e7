-- How far a search has come, stage by stage: the turns of the places before q are over, and at place q the forests 1 to j are tried.
--
-- A forest is done with at a place when it joins the ends of the edge there and each edge on that path waits, reached from this
-- place or an earlier one (`Done`). That is what rules out forward shortcuts. Trying the next forest of q keeps all that, or
-- ends the search in a forest where the edge is free (`tried`); so each turn does, and all turns do (`search_ends`).
-- Assumes nothing.
use mathlib.Core.Path.{◌≡◌, refl, sym, ap, ◌∙◌, subst}
use mathlib.Core.Bool.{Bool}
use Prim.Native.Nat.{ℕ, zero, suc, ◌≤◌, ◌<◌}
use native.Mathlib.Omega.{arith}
use mathlib.Core.List.{[], ◌∷◌}
use lib.ListN.{length, get_or}
use Rattle.rule.specs.Sets.{Is, ◌=?◌, ◌<?◌, In, ◌without◌}
use Rattle.rule.specs.Legal.{Design, k}
use Rattle.rule.specs.Forests.{limit, in_forest}
use Rattle.rule.proofs.Tests.{cases, is_false, eq_of, lt_of, not_lt, by_eq, in_split, without_make}
use Rattle.theory.specs.Joined.{spans, on_path}
use Rattle.theory.specs.Exchange.{Free}
use Rattle.theory.specs.Search.{Waiting, edge_at, from_at, Result, and_then, begin, pick_result, try_forest, try_forests, turn, turns, search}
use Rattle.theory.specs.Search.Result.{found, going}
use Rattle.theory.proofs.Joined.Laws.{spans_edge}
use Rattle.theory.proofs.Exchange.Step.{path_needs}
use Rattle.theory.proofs.Legal.Kept.{forest_make, limit_red, limit_black}
use Rattle.theory.proofs.Search.Reached.{size, Reached, Grows, begin_reached, reaching, reach_grows, reach_reached, reach_all, reach_from}

module _ (d : Design) (forest : ℕ → ℕ) (e : ℕ) where
  -- forest i is done with at place p
  pub record Done (w : Waiting) (p i : ℕ) : Type 0 where
    pub spanned : Is (spans d (in_forest forest i) (edge_at w p))
    pub waits : (y : ℕ) → Is (on_path d (in_forest forest i) (edge_at w p) y)
        → (r : ℕ) × ((r < size w) × ((edge_at w r ≡ y) × (from_at w r ≤ p)))

  done_grows : (w v : Waiting) (p i : ℕ) → p < size w → Grows w v → Done w p i → Done v p i
  done_grows w v p i h g k =
      subst (λ (x : ℕ). Is (spans d (in_forest forest i) x) × ((y : ℕ) → Is (on_path d (in_forest forest i) x y) → (r : ℕ) × ((r < size v) × ((edge_at v r ≡ y) × (from_at v r ≤ p)))) → Done v p i)
      (g.same_edge p h) (λ a. record { spanned = a.0; waits = a.1 }) (
        k.spanned,
        λ y path.
            let z = k.waits y path in
            (z.0, (omega (arith, z.1.0, g.longer), (g.same_edge z.0 z.1.0 ∙ z.1.1.0, omega (arith, g.same_from z.0 z.1.0, z.1.1.1)))),
      )

  -- the turns before q are over, and at q the forests up to j are tried
  pub record Stage (q j : ℕ) (w : Waiting) : Type 0 where
    pub reached : Reached d forest e w
    pub so_far : (p : ℕ) → p < size w → from_at w p ≤ q
    pub before : (p : ℕ) → p < q → p < size w → (i : ℕ) → In (limit d (edge_at w p)) i → Done w p i
    pub now : q < size w → (i : ℕ) → In j i → Done w q i

  -- the search has ended: the edge at place p is free in forest i
  pub record Ended (p i : ℕ) (w : Waiting) : Type 0 where
    pub reached : Reached d forest e w
    pub before : (r : ℕ) → r < p → r < size w → (i : ℕ) → In (limit d (edge_at w r)) i → Done w r i
    pub waits : p < size w
    pub free : Free d forest (edge_at w p) i

  -- ---- one forest

  -- x waits at place q all the while
  record Trying (q x j : ℕ) (w : Waiting) : Type 0 where
    stage : Stage q j w
    here : q < size w
    is_x : edge_at w q ≡ x

  abbrev Tried : ℕ → ℕ → ℕ → Result → Type 0
  Tried q x j (found p i w) = Ended p i w
  Tried q x j (going w) = Trying q x j w

  -- its own forest: there an edge is on its own path alone
  own_done : (q : ℕ) (w : Waiting) → Reached d forest e w → ((p : ℕ) → p < size w → from_at w p ≤ q) → q < size w → Done w q (forest (edge_at w q))
  own_done q w r so_far h =
      let x = edge_at w q in
      let own : Is (in_forest forest (forest x) x) = forest_make forest (forest x) x refl in
      record {
        spanned = spans_edge d (in_forest forest (forest x)) x (r.edges q h) own;
        waits =
            λ y path.
            by_eq x y (λ same. (q, (h, (same, so_far q h))))
            (λ ne.
            absurd
            (path_needs d (in_forest forest (forest x)) x y path
            (spans_edge d (in_forest forest (forest x) without y) x (r.edges q h) (without_make (in_forest forest (forest x)) y x own ne))));
      }

  -- a stage with one forest more done
  one_more : (q j : ℕ) (w : Waiting) → Stage q j w → (q < size w → Done w q (suc j)) → Stage q (suc j) w
  one_more q j w s k =
      record {
        reached = s.reached;
        so_far = s.so_far;
        before = s.before;
        now = λ h i r. in_split j i r (λ r'. s.now h i r') (λ same. subst (Done w q) (sym same) (k h));
      }

  -- a stage after more edges have been reached from q
  stage_reach : (q j i : ℕ) (w : Waiting) → Stage q j w → q < size w → In (limit d (edge_at w q)) i → Stage q j (reaching d forest q i w)
  stage_reach q j i w s h range =
      let g : Grows w (reaching d forest q i w) = reach_grows d forest e q i w s.reached h range in
      record {
        reached = reach_reached d forest e q i w s.reached h range;
        so_far = reach_from d forest e q i w s.reached h range s.so_far;
        before =
            λ p l k z r.
            let hp : p < size w = omega arith in
            done_grows w (reaching d forest q i w) p z hp g (s.before p l hp z (subst (λ (x : ℕ). In (limit d x) z) (g.same_edge p hp) r));
        now = λ k z r. done_grows w (reaching d forest q i w) q z h g (s.now h z r);
      }

  reach_done : (q j i : ℕ) (w : Waiting) → Stage q j w → (h : q < size w) → In (limit d (edge_at w q)) i → Is (spans d (in_forest forest i) (edge_at w q))
      → Done (reaching d forest q i w) q i
  reach_done q j i w s h range spanned =
      let v = reaching d forest q i w in
      let g : Grows w v = reach_grows d forest e q i w s.reached h range in
      let same = sym (g.same_edge q h) in
      record {
        spanned = subst (λ (x : ℕ). Is (spans d (in_forest forest i) x)) same spanned;
        waits =
            λ y path.
            let z = reach_all d forest e q i w s.reached h range y (subst (λ (x : ℕ). Is (on_path d (in_forest forest i) x y)) (sym same) path) in
            (z.0, (z.1.0, (z.1.1, reach_from d forest e q i w s.reached h range s.so_far z.0 z.1.0)));
      }

  tried_at : (q j : ℕ) (w : Waiting) → Stage q j w → q < size w → suc j ≤ limit d (edge_at w q) → Tried q (edge_at w q) (suc j) (try_forest d forest q (edge_at w q) (suc j) w)
  unfolding try_forest
  tried_at q j w s h range =
      let x = edge_at w q in
      let i = suc j in
      let allowed : In (limit d x) i = omega arith in
      cases (forest x =? i)
      (λ own.
      subst (λ (b : Bool). Tried q x i (pick_result b (going w) (pick_result (spans d (in_forest forest i) x) (going (reaching d forest q i w)) (found q i w)))) (sym own)
      (record {
        stage = one_more q j w s (λ k. subst (Done w q) (eq_of _ _ own) (own_done q w s.reached s.so_far h));
        here = h;
        is_x = refl;
      }))
      (λ other.
      subst (λ (b : Bool). Tried q x i (pick_result b (going w) (pick_result (spans d (in_forest forest i) x) (going (reaching d forest q i w)) (found q i w)))) (sym (is_false _ other))
      (cases (spans d (in_forest forest i) x)
      (λ joined.
      subst (λ (b : Bool). Tried q x i (pick_result b (going (reaching d forest q i w)) (found q i w))) (sym joined)
      (let g : Grows w (reaching d forest q i w) = reach_grows d forest e q i w s.reached h allowed in
      record {
        stage = one_more q j (reaching d forest q i w) (stage_reach q j i w s h allowed) (λ k. reach_done q j i w s h allowed joined);
        here = omega (arith, g.longer);
        is_x = g.same_edge q h;
      }))
      (λ free.
      subst (λ (b : Bool). Tried q x i (pick_result b (going (reaching d forest q i w)) (found q i w))) (sym (is_false _ free))
      (record { reached = s.reached; before = s.before; waits = h; free = record { allowed = allowed; not_joined = free } }))))

  tried_one : (q x j : ℕ) (w : Waiting) → suc j ≤ limit d x → Trying q x j w → Tried q x (suc j) (try_forest d forest q x (suc j) w)
  tried_one q x j w l t =
      subst (λ (z : ℕ). suc j ≤ limit d z → Tried q z (suc j) (try_forest d forest q z (suc j) w)) t.is_x (tried_at q j w t.stage t.here) l

  tried_then : (q x j : ℕ) (r : Result) → suc j ≤ limit d x → Tried q x j r → Tried q x (suc j) (and_then r (try_forest d forest q x (suc j)))
  tried_then q x j (found p i w) l t = t
  tried_then q x j (going w) l t = tried_one q x j w l t

  tried_all : (q x j : ℕ) (w : Waiting) → j ≤ limit d x → Trying q x 0 w → Tried q x j (try_forests d forest q x j w)
  unfolding try_forests
  tried_all q x zero w l t = t
  tried_all q x (suc j) w l t = tried_then q x j (try_forests d forest q x j w) l (tried_all q x j w (omega arith) t)

  -- ---- one turn, and all of them

  abbrev pub Turned : ℕ → Result → Type 0
  Turned q (found p i w) = Ended p i w
  Turned q (going w) = Stage q 0 w

  -- the turn of q is over
  turn_over : (q x : ℕ) (r : Result) → Tried q x (limit d x) r → Turned (suc q) r
  turn_over q x (found p i w) t = t
  turn_over q x (going w) t =
      record {
        reached = t.stage.reached;
        so_far = λ p h. omega (arith, t.stage.so_far p h);
        before =
            λ p l h i r.
            by_eq p q
            (λ same.
            subst (λ (z : ℕ). Done w z i) (sym same)
            (t.stage.now t.here i (subst (λ (z : ℕ). In (limit d z) i) (ap (edge_at w) same ∙ t.is_x) r)))
            (λ ne. t.stage.before p (omega arith) h i r);
        now = λ h i r. absurd (omega arith);
      }

  -- a turn tries the forests 1 to a of a red edge and 1 to k of a black one
  turn_tries : (q x j : ℕ) (w : Waiting) → (Is (d.red x) → j ≡ d.a) → (¬ (Is (d.red x)) → j ≡ k d) → Trying q x 0 w
      → Turned (suc q) (try_forests d forest q x j w)
  turn_tries q x j w red black t =
      let all : j ≡ limit d x = cases (d.red x) (λ r. red r ∙ sym (limit_red d x r)) (λ n. black n ∙ sym (limit_black d x n)) in
      let r = try_forests d forest q x j w in
      turn_over q x r (subst (λ (z : ℕ). Tried q x z r) all (tried_all q x j w (omega arith) t))

  turned_one : (q : ℕ) (w : Waiting) → Stage q 0 w → Turned (suc q) (turn d forest q w)
  unfolding turn limit
  turned_one q w s =
      cases (q <? length w.queue)
      (λ t.
      rw t
      (turn_tries q (edge_at w q) _ w (λ r. omega (arith, limit_red d (edge_at w q) r)) (λ n. omega (arith, limit_black d (edge_at w q) n))
      (record { stage = s; here = lt_of _ _ t; is_x = refl })))
      (λ n.
      let over : size w ≤ q = not_lt _ _ n in
      rw (is_false _ n)
      (record {
        reached = s.reached;
        so_far = λ p h. omega (arith, s.so_far p h);
        before = λ p l h i r. s.before p (omega arith) h i r;
        now = λ h i r. absurd (omega arith);
      }))

  turned_then : (q : ℕ) (r : Result) → Turned q r → Turned (suc q) (and_then r (turn d forest q))
  turned_then q (found p i w) t = t
  turned_then q (going w) t = turned_one q w t

  turned_all : (q : ℕ) → In d.m e → Turned q (turns d forest e q)
  unfolding turns begin
  turned_all zero h =
      let r = begin_reached d forest e h in
      record {
        reached = r;
        so_far = λ p l. subst (λ (z : ℕ). get_or (0 ∷ []) z 0 ≤ 0) (only p l) (omega arith);
        before = λ p l. absurd (omega arith);
        now = λ l i k. absurd (omega arith);
      }
    where
      only : (p : ℕ) → p < 1 → 0 ≡ p
      only p l = omega arith
  turned_all (suc q) h = turned_then q (turns d forest e q) (turned_all q h)

  pub search_ends : In d.m e → Turned d.m (search d forest e)
  unfolding search
  search_ends h = turned_all d.m h
