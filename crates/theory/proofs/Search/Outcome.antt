-- What the search means. Where it ends in a free forest the new edge is kept, and the shifted forests are an arrangement. Where it goes
-- on to the end the new edge is implied, and the reached edges are exactly its circuit.
--
-- Found: the trail is a path with no shortcut, so the shift is valid. Stuck: the reached edges are closed and cover the new one, so no
-- legal set holds them and it. A reached y has a trail from the new edge: walked along, with y left out, it arranges the kept edges
-- without y and with the new one. Without a y that is not reached the closed set is still there.
-- Assumes nothing.
use mathlib.Core.Path.{◌≡◌, refl, sym, ap, ◌∙◌, subst}
use mathlib.Core.Logic.{⊎_elim, ◌↔◌, ◌≢◌}
use mathlib.Core.List.{◌∷◌}
use Prim.Native.Nat.{ℕ, ◌≤◌, ◌<◌}
use native.Mathlib.Omega.{arith}
use Rattle.rule.specs.Sets.{Is, ◌and◌, Set, In, ◌with◌, ◌without◌}
use Rattle.rule.specs.Legal.{Design, Ends, Legal}
use Rattle.rule.specs.Forests.{limit, in_forest, kept_in, Arranged}
use Rattle.rule.proofs.Tests.{cases, and_l, and_r, by_eq, with_elim, without_old, without_ne, without_make}
use Rattle.rule.proofs.Counting.{Within, with_mono}
use Rattle.rule.proofs.Legality.{legal_sub}
use Rattle.theory.specs.Joined.{spans}
use Rattle.theory.specs.Closed.{standing, covers, Closed}
use Rattle.theory.specs.Exchange.{Free, end, walked, shifted}
use Rattle.theory.specs.Search.{Waiting, edge_at, Result, search, path_to}
use Rattle.theory.specs.Search.Result.{found, going}
use Rattle.theory.proofs.Joined.Laws.{spans_mono}
use Rattle.theory.proofs.Joined.Acyclic.{joined_in_part}
use Rattle.theory.proofs.Legal.Kept.{forest_is, kept_make, kept_has, limit_most}
use Rattle.theory.proofs.Legal.Forests.{forests_legal}
use Rattle.theory.proofs.Closed.Laws.{standing_make, covers_make}
use Rattle.theory.proofs.Closed.Count.{forest_acyclic, closed_none}
use Rattle.theory.proofs.Exchange.Step.{path_make}
use Rattle.theory.proofs.Exchange.Walk.{Start, walk_arranged}
use Rattle.theory.proofs.Exchange.Shift.{shift_arranged, shift_kept, shift_new, walk_kept, walk_new}
use Rattle.theory.proofs.Search.Reached.{size, Reached}
use Rattle.theory.proofs.Search.Stages.{Done, Stage, Ended, Turned, search_ends}
use Rattle.theory.proofs.Search.Trail.{path_start, path_end}
use Rattle.theory.proofs.Search.Image.{size_most}

module _ (d : Design) (ends : Ends d) (forest : ℕ → ℕ) (arr : Arranged d forest) (e : ℕ) (he : In d.m e) (unplaced : forest e ≡ 0) where
  -- ---- found

  module _ (p i : ℕ) (w : Waiting) (q : search d forest e ≡ found p i w) where
    ended : Ended d forest e p i w
    ended = subst (Turned d forest e d.m) q (search_ends d forest e he)

    pub found_start : Start d forest e (path_to w p)
    found_start = path_start d forest e w ended.reached p ended.waits ended.before unplaced he

    pub found_free : Free d forest (end e (path_to w p)) i
    found_free = subst (λ (x : ℕ). Free d forest x i) (sym (path_end d forest e w ended.reached p ended.waits ended.before)) ended.free

    pub found_arranged : Arranged d (shifted forest (e ∷ path_to w p) i)
    found_arranged = shift_arranged d forest e (path_to w p) found_start arr i found_free

    pub found_kept : Legal d (kept_in d forest with e)
    found_kept =
        let low = found_free.allowed.low in
        legal_sub d (kept_in d forest with e) (kept_in d (shifted forest (e ∷ path_to w p) i))
        (λ f hf t.
        kept_make d (shifted forest (e ∷ path_to w p) i) f hf.high
        (by_eq f e
        (λ same. subst (λ (z : ℕ). 1 ≤ shifted forest (e ∷ path_to w p) i z) (sym same) (shift_new d forest e (path_to w p) found_start arr i low))
        (λ ne.
        (shift_kept d forest e (path_to w p) found_start arr i f low ne).1
        (⊎_elim (λ same. absurd (ne same)) (λ o. kept_has d forest f o) (with_elim (kept_in d forest) e f t)))))
        (forests_legal d ends (shifted forest (e ∷ path_to w p) i) found_arranged)

  -- ---- stuck

  module _ (w : Waiting) (q : search d forest e ≡ going w) where
    stage : Stage d forest e d.m 0 w
    stage = subst (Turned d forest e d.m) q (search_ends d forest e he)

    all_done : (p : ℕ) → p < size w → (i : ℕ) → In (limit d (edge_at w p)) i → Done d forest e w p i
    all_done p h i r = stage.before p (omega (arith, size_most d forest e w stage.reached)) h i r

    -- a reached edge that is not the new one was reached from another
    later_place : (y : ℕ) → Is (w.seen y) → y ≢ e → (p : ℕ) × ((1 ≤ p) × ((p < size w) × (edge_at w p ≡ y)))
    later_place y s ne =
        let k = stage.reached.seen_at y s in
        by_eq k.0 0 (λ z. absurd (ne (sym k.1.1 ∙ ap (edge_at w) z ∙ stage.reached.first))) (λ nz. (k.0, (omega arith, k.1)))

    reached_kept : Within d.m (w.seen without e) (kept_in d forest)
    reached_kept y h t =
        let k = later_place y (without_old w.seen e y t) (without_ne w.seen e y t) in
        kept_make d forest y h.high
        (subst (λ (z : ℕ). 1 ≤ forest z) k.1.1.1 (stage.reached.arcs k.0 k.1.0 k.1.1.0).placed)

    -- whoever waits is covered: in each forest its whole path is reached
    waiting_covered : (p : ℕ) → p < size w → Is (covers d forest (limit d) (w.seen without e) (edge_at w p))
    waiting_covered p h = covers_make d forest (limit d) (w.seen without e) (edge_at w p) inner
      where
        inner : (i : ℕ) → In (limit d (edge_at w p)) i → Is (spans d (standing forest (w.seen without e) i) (edge_at w p))
        inner i r =
            let x = edge_at w p in
            let k = all_done p h i r in
            spans_mono d (λ f. in_forest forest i f and (w.seen without e) f) (standing forest (w.seen without e) i)
            (λ f _ t. standing_make forest (w.seen without e) i f (and_r (in_forest forest i f) _ t) (and_l _ _ t)) x
            (joined_in_part d (in_forest forest i) (w.seen without e) x (forest_acyclic d ends forest arr i (omega (arith, limit_most d x))) k.spanned
            (λ z hz iz nz.
            cases (spans d (in_forest forest i without z) x) (λ o. o)
            (λ n.
            let g = k.waits z (path_make d (in_forest forest i) x z iz k.spanned n) in
            absurd
            (nz
            (without_make w.seen e z (subst (λ (v : ℕ). Is (w.seen v)) g.1.1.0 (stage.reached.at_seen g.0 g.1.0))
            (λ same. omega (arith, r.low, unplaced, ap forest same, forest_is forest i z iz)))))))

    seen_covered : (y : ℕ) → Is (w.seen y) → Is (covers d forest (limit d) (w.seen without e) y)
    seen_covered y s =
        let k = stage.reached.seen_at y s in
        subst (λ (z : ℕ). Is (covers d forest (limit d) (w.seen without e) z)) k.1.1 (waiting_covered k.0 k.1.0)

    pub stuck_closed : Closed d forest (limit d) (w.seen without e)
    stuck_closed y h t = seen_covered y (without_old w.seen e y t)

    pub stuck_covered : Is (covers d forest (limit d) (w.seen without e) e)
    stuck_covered = seen_covered e (subst (λ (z : ℕ). Is (w.seen z)) stage.reached.first (stage.reached.at_seen 0 stage.reached.some))

    -- no legal set holds the reached edges and the new one
    pub stuck_none : (s : Set) → Legal d s → ¬ (Within d.m (w.seen without e with e) s)
    stuck_none s legal =
        closed_none d ends forest arr (w.seen without e) s e reached_kept stuck_closed he (λ t. without_ne w.seen e e t refl) stuck_covered legal

    pub stuck_implied : ¬ (Legal d (kept_in d forest with e))
    stuck_implied legal = stuck_none (kept_in d forest with e) legal (with_mono d.m (w.seen without e) (kept_in d forest) e reached_kept)

    -- ---- the circuit

    -- y is reached: walk from the new edge to y, and leave y out
    swapped_legal : (y : ℕ) → Is (w.seen y) → y ≢ e → Legal d (kept_in d forest without y with e)
    swapped_legal y s ne =
        let k = later_place y s ne in
        let start : Start d forest e (path_to w k.0) =
        path_start d forest e w stage.reached k.0 k.1.1.0 (λ p _ h. all_done p h) unplaced he in
        let last : end e (path_to w k.0) ≡ y =
        path_end d forest e w stage.reached k.0 k.1.1.0 (λ p _ h. all_done p h) ∙ k.1.1.1 in
        legal_sub d (kept_in d forest without y with e) (kept_in d (walked forest e (path_to w k.0)))
        (λ f hf t.
        kept_make d (walked forest e (path_to w k.0)) f hf.high
        (⊎_elim
        (λ same.
        subst (λ (z : ℕ). 1 ≤ walked forest e (path_to w k.0) z) (sym same)
        (walk_new d forest e (path_to w k.0) start arr (λ z. ne (sym (z ∙ last)))))
        (λ o.
        walk_kept d forest e (path_to w k.0) start arr f (λ z. without_ne (kept_in d forest) y f o (z ∙ last)) (kept_has d forest f (without_old (kept_in d forest) y f o)))
        (with_elim (kept_in d forest without y) e f t)))
        (forests_legal d ends (walked forest e (path_to w k.0)) (walk_arranged d forest e (path_to w k.0) start arr))

    -- y is not reached: the closed set is there without y
    unswapped : (y : ℕ) → ¬ (Is (w.seen y)) → ¬ (Legal d (kept_in d forest without y with e))
    unswapped y not legal =
        stuck_none (kept_in d forest without y with e) legal
        (with_mono d.m (w.seen without e) (kept_in d forest without y) e
        (λ f hf t.
        without_make (kept_in d forest) y f (reached_kept f hf t) (λ same. not (subst (λ (z : ℕ). Is (w.seen z)) same (without_old w.seen e f t)))))

    pub circuit_exact : (y : ℕ) → Is (kept_in d forest y) → (Is (w.seen y) ↔ Legal d (kept_in d forest without y with e))
    circuit_exact y kept = (
      (λ s. swapped_legal y s (λ same. omega (arith, unplaced, ap forest same, kept_has d forest y kept))),
      (λ legal. cases (w.seen y) (λ s. s) (λ n. absurd (unswapped y n legal))),
    )

    -- reached edges are kept, or are the new one
    pub seen_kept : (y : ℕ) → In d.m y → Is (w.seen y) → y ≢ e → Is (kept_in d forest y)
    seen_kept y h s ne = reached_kept y h (without_make w.seen e y s ne)

    pub stuck_reached : Reached d forest e w
    stuck_reached = stage.reached

  -- ---- keeping is decided

  pub keeps? : Dec (Legal d (kept_in d forest with e))
  keeps? = go (search d forest e) refl
    where
      go : (r : Result) → search d forest e ≡ r → Dec (Legal d (kept_in d forest with e))
      go (found p i w) q = yes (found_kept p i w q)
      go (going w) q = no (stuck_implied w q)
