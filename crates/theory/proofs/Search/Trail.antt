-- The trail from the new edge to a place of the queue is a path of exchanges with no forward shortcut.
--
-- It is built from its end: each edge in front of what is there reached the first of it. It may not take the place of a later one:
-- that one would wait, reached from here or before (`Done`), but it was reached from behind here (`Piece`).
-- Assumes nothing.
use mathlib.Core.Path.{◌≡◌, refl, sym, ap, ◌∙◌, subst}
use mathlib.Core.Logic.{◌≢◌}
use mathlib.Core.List.{List, [], ◌∷◌}
use Prim.Native.Nat.{ℕ, zero, suc, ◌≤◌, ◌<◌}
use native.Mathlib.Omega.{arith}
use Rattle.rule.specs.Sets.{In}
use Rattle.rule.specs.Legal.{Design}
use Rattle.rule.specs.Forests.{limit}
use Rattle.theory.specs.Exchange.{Arc, Each, Distinct, Path, end}
use Rattle.theory.specs.Search.{Waiting, edge_at, from_at, trail, path_to}
use Rattle.theory.proofs.Exchange.Walk.{each_map, Start}
use Rattle.theory.proofs.Search.Reached.{size, Reached}
use Rattle.theory.proofs.Search.Stages.{Done}

module _ (d : Design) (forest : ℕ → ℕ) (e : ℕ) (w : Waiting) (r : Reached d forest e w) (goal : ℕ) (waits : goal < size w)
    (before : (p : ℕ) → p < goal → p < size w → (i : ℕ) → In (limit d (edge_at w p)) i → Done d forest e w p i) where
  -- z waits at a place that was reached from q or from behind q
  record Behind (q z : ℕ) : Type 0 where
    place : ℕ
    later : 1 ≤ place
    within : place < size w
    is_z : edge_at w place ≡ z
    behind : q ≤ from_at w place

  -- l leads from the edge at place q to the edge at the goal
  record Piece (q : ℕ) (l : List ℕ) : Type 0 where
    most : q ≤ goal
    path : Path d forest (edge_at w q) l
    distinct : Distinct (edge_at w q) l
    edges : Each (In d.m) l
    later : Each (Behind q) l
    ends : end (edge_at w q) l ≡ edge_at w goal

  -- what stands behind q is not at q, and cannot be taken from in front of q
  other : (q z : ℕ) → q < size w → Behind q z → z ≢ edge_at w q
  other q z h b same =
      let at : b.place ≡ q = r.once b.place q b.within h (b.is_z ∙ same) in
      omega (arith, b.behind, r.earlier b.place b.later b.within)

  no_shortcut : (p q z : ℕ) → p < q → q ≤ goal → Behind q z → ¬ (Arc d forest (edge_at w p) z)
  no_shortcut p q z l most b arc =
      let k = (before p (omega arith) (omega (arith, waits)) (forest z) (record { low = arc.placed; high = arc.allowed })).waits z arc.is_on_path in
      let at : k.0 ≡ b.place = r.once k.0 b.place k.1.0 b.within (k.1.1.0 ∙ sym b.is_z) in
      omega (arith, b.behind, k.1.1.1, ap (from_at w) at)

  -- one edge in front
  front : (q : ℕ) (l : List ℕ) → 1 ≤ q → Piece q l → Piece (from_at w q) (edge_at w q ∷ l)
  front q l low p =
      let here : q < size w = omega (arith, waits, p.most) in
      let less = r.earlier q low here in
      let step : (z : ℕ) → Behind q z → Behind (from_at w q) z =
      λ z b. record { place = b.place; later = b.later; within = b.within; is_z = b.is_z; behind = omega (arith, b.behind) } in
      let self : Behind (from_at w q) (edge_at w q) = record { place = q; later = low; within = here; is_z = refl; behind = omega arith } in
      let later : Each (Behind (from_at w q)) (edge_at w q ∷ l) = (self, each_map step l p.later) in
      record {
        most = omega (arith, p.most);
        path = (r.arcs q low here, (each_map (λ z b. no_shortcut (from_at w q) q z less p.most b) l p.later, p.path));
        distinct = (each_map (λ z b. other (from_at w q) z (omega arith) b) (edge_at w q ∷ l) later, p.distinct);
        edges = (r.edges q here, p.edges);
        later = later;
        ends = p.ends;
      }

  trail_piece : (steps q : ℕ) (l : List ℕ) → q ≤ steps → Piece q l → Piece 0 (trail w steps q l)
  unfolding trail
  trail_piece zero q l h p = subst (λ (z : ℕ). Piece z l) (omega arith) p
  trail_piece (suc steps) zero l h p = p
  trail_piece (suc steps) (suc q) l h p =
      trail_piece steps (from_at w (suc q)) (edge_at w (suc q) ∷ l)
      (omega (arith, r.earlier (suc q) (omega arith) (omega (arith, waits, p.most)))) (front (suc q) l (omega arith) p)

  whole : Piece 0 (path_to w goal)
  unfolding path_to
  whole =
      trail_piece goal goal [] (omega arith)
      (record { most = omega arith; path = tt; distinct = tt; edges = tt; later = tt; ends = refl })

  pub path_start : forest e ≡ 0 → In d.m e → Start d forest e (path_to w goal)
  path_start unplaced h =
      record {
        unplaced = unplaced;
        edge = h;
        edges = whole.edges;
        distinct = subst (λ (x : ℕ). Distinct x (path_to w goal)) r.first whole.distinct;
        path = subst (λ (x : ℕ). Path d forest x (path_to w goal)) r.first whole.path;
      }

  pub path_end : end e (path_to w goal) ≡ edge_at w goal
  path_end = subst (λ (x : ℕ). end x (path_to w goal) ≡ edge_at w goal) r.first whole.ends
