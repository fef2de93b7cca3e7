-- Walking along a path of exchanges with no forward shortcut, from the front: x goes into the place of the first edge, which is
-- then the one that stands nowhere, and so on to the end of the path.
--
-- After each step what is left of the path is a path still, since no exchange with a later edge appears or vanishes
-- (`path_same`). So at the end the forests have no loop, and each joins what it joined before; only the path's last edge stands
-- nowhere (`walk_arranged`, `walk_joined`, `walk_end`).
-- Assumes nothing.
use mathlib.Core.Path.{◌≡◌, refl, sym, ap₂, ◌∙◌, subst}
use mathlib.Core.Logic.{◌≢◌}
use mathlib.Core.Bool.{Bool}
use mathlib.Core.List.{List, [], ◌∷◌}
use Prim.Native.Nat.{ℕ, ◌≤◌}
use native.Mathlib.Omega.{arith}
use Rattle.rule.specs.Sets.{◌and◌, isnt, In, put}
use Rattle.rule.specs.Legal.{Design}
use Rattle.rule.specs.Forests.{in_forest, Arranged}
use Rattle.rule.proofs.Tests.{put_same}
use Rattle.theory.specs.Joined.{joined, spans, on_path}
use Rattle.theory.specs.Exchange.{Arc, Free, Each, Distinct, Path, end, exchanged, walked}
use Rattle.theory.proofs.Exchange.Step.{at_other, same_joined, same_without, exchanged_arranged}
use Rattle.theory.proofs.Legal.Kept.{forest_make}

pub away : (x : ℕ) (l : List ℕ) → Distinct x l → Each (λ z. z ≢ x) l
away x [] h = tt
away x (y ∷ rest) h = h.0

pub each_map : {P Q : ℕ → Type 0} → ((z : ℕ) → P z → Q z) → (l : List ℕ) → Each P l → Each Q l
each_map f [] h = tt
each_map f (z ∷ rest) h = (f z h.0, each_map f rest h.1)

pub each_both : (P Q : ℕ → Type 0) (l : List ℕ) → Each P l → Each Q l → Each (λ z. P z × Q z) l
each_both P Q [] g h = tt
each_both P Q (z ∷ rest) g h = ((g.0, h.0), each_both P Q rest g.1 h.1)

-- ---- one step

module _ (d : Design) (forest : ℕ → ℕ) (x y : ℕ) (unplaced : forest x ≡ 0) (hx : In d.m x) (arc : Arc d forest x y) where
  abbrev after : ℕ → ℕ
  after = exchanged forest x y

  -- an edge that x leaves alone
  abbrev Later : ℕ → Type 0
  Later z = ((z ≢ x) × (z ≢ y)) × ¬ (Arc d forest x z)

  later_forest : (z : ℕ) → Later z → after z ≡ forest z
  later_forest z l = at_other d forest x y unplaced hx arc z l.0.0 l.0.1

  path_same_test : (w z : ℕ) → Later z → 1 ≤ forest z → on_path d (in_forest after (after z)) w z ≡ on_path d (in_forest forest (forest z)) w z
  unfolding on_path spans
  path_same_test w z l p =
      subst (λ (i : ℕ). on_path d (in_forest after i) w z ≡ on_path d (in_forest forest (forest z)) w z) (sym (later_forest z l))
      (ap₂ (λ (s t : Bool). s and t)
      (forest_make after (forest z) z (later_forest z l) ∙ sym (forest_make forest (forest z) z refl))
      (ap₂ (λ (s t : Bool). s and isnt t) (same_joined d forest x y unplaced hx arc (forest z) p (d.one w) (d.other w))
      (same_without d forest x y unplaced hx arc z l.0.0 l.0.1 p l.1 (d.one w) (d.other w))))

  arc_kept : (w z : ℕ) → Later z → Arc d forest w z → Arc d after w z
  arc_kept w z l a =
      record {
        placed = omega (arith, a.placed, later_forest z l);
        allowed = omega (arith, a.allowed, later_forest z l);
        is_on_path = path_same_test w z l a.placed ∙ a.is_on_path;
      }

  arc_none : (w z : ℕ) → Later z → ¬ (Arc d forest w z) → ¬ (Arc d after w z)
  arc_none w z l not a =
      let p : 1 ≤ forest z = omega (arith, a.placed, later_forest z l) in
      not (record { placed = p; allowed = omega (arith, a.allowed, later_forest z l); is_on_path = sym (path_same_test w z l p) ∙ a.is_on_path })

  path_same : (w : ℕ) (rest : List ℕ) → Each Later rest → Path d forest w rest → Path d after w rest
  path_same w [] l p = tt
  path_same w (z ∷ rest) l p = (
    arc_kept w z l.0 p.0,
    (each_map (λ v h. arc_none w v h.0 h.1) rest (each_both Later (λ v. ¬ (Arc d forest w v)) rest l.1 p.1.0), path_same z rest l.1 p.1.1),
  )

-- ---- the whole walk

module _ (d : Design) where
  -- x stands nowhere, a path leads from it, and no edge comes twice
  pub record Start (forest : ℕ → ℕ) (x : ℕ) (rest : List ℕ) : Type 0 where
    pub unplaced : forest x ≡ 0
    pub edge : In d.m x
    pub edges : Each (In d.m) rest
    pub distinct : Distinct x rest
    pub path : Path d forest x rest

  -- after the first step of a path what is left is a path from its first edge, and who was free at its end is free still
  pub onward : (forest : ℕ → ℕ) (x y : ℕ) (rest : List ℕ) → Start forest x (y ∷ rest) → Start (exchanged forest x y) y rest
  onward forest x y rest s =
      record {
        unplaced = put_same (put forest x (forest y)) y 0;
        edge = s.edges.0;
        edges = s.edges.1;
        distinct = s.distinct.1;
        path = path_same d forest x y s.unplaced s.edge s.path.0 y rest (each_both (λ z. (z ≢ x) × (z ≢ y)) (λ z. ¬ (Arc d forest x z)) rest (each_both (λ z. z ≢ x) (λ z. z ≢ y) rest s.distinct.0.1 (away y rest s.distinct.1)) s.path.1.0) s.path.1.1;
      }

  pub free_onward : (forest : ℕ → ℕ) (x y : ℕ) (rest : List ℕ) → Start forest x (y ∷ rest) → (z f : ℕ) → Free d forest z f
      → Free d (exchanged forest x y) z f
  unfolding spans
  free_onward forest x y rest s z f free =
      record {
        allowed = free.allowed;
        not_joined =
            λ h.
            free.not_joined
            (sym (same_joined d forest x y s.unplaced s.edge s.path.0 f free.allowed.low (d.one z) (d.other z)) ∙ h);
      }

  pub arranged_onward : (forest : ℕ → ℕ) (x y : ℕ) (rest : List ℕ) → Start forest x (y ∷ rest) → Arranged d forest → Arranged d (exchanged forest x y)
  arranged_onward forest x y rest s arr = exchanged_arranged d forest x y s.unplaced s.edge s.path.0 arr

  pub walk_arranged : (forest : ℕ → ℕ) (x : ℕ) (rest : List ℕ) → Start forest x rest → Arranged d forest → Arranged d (walked forest x rest)
  unfolding walked
  walk_arranged forest x [] s arr = arr
  walk_arranged forest x (y ∷ rest) s arr =
      walk_arranged (exchanged forest x y) y rest (onward forest x y rest s) (arranged_onward forest x y rest s arr)

  pub walk_joined : (forest : ℕ → ℕ) (x : ℕ) (rest : List ℕ) → Start forest x rest → (j : ℕ) → 1 ≤ j → (u v : ℕ)
      → joined d (in_forest (walked forest x rest) j) u v ≡ joined d (in_forest forest j) u v
  unfolding walked
  walk_joined forest x [] s j l u v = refl
  walk_joined forest x (y ∷ rest) s j l u v =
      walk_joined (exchanged forest x y) y rest (onward forest x y rest s) j l u v
      ∙ same_joined d forest x y s.unplaced s.edge s.path.0 j l u v

  pub walk_end : (forest : ℕ → ℕ) (x : ℕ) (rest : List ℕ) → Start forest x rest → walked forest x rest (end x rest) ≡ 0
  unfolding walked
  walk_end forest x [] s = s.unplaced
  walk_end forest x (y ∷ rest) s = walk_end (exchanged forest x y) y rest (onward forest x y rest s)
