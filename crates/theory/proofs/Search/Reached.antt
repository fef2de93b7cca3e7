-- What is true of the waiting edges all the way through a search, and stays true when an edge reaches more.
--
-- The new edge waits first, no edge waits twice, and each other one was reached by an edge that waits before it and may take its
-- place (`Reached`). What stood at a place stands there still when more edges wait behind (`Grows`).
-- Assumes nothing.
use mathlib.Core.Path.{◌≡◌, refl, sym, ap, ap₂, ◌∙◌, subst, subst₂}
use mathlib.Core.Logic.{◌⊎◌, inl, inr, ⊎_elim, ◌↔◌}
use mathlib.Core.Bool.{Bool, true, false, false≢true}
use mathlib.Core.List.{List, [], ◌∷◌, ◌++◌}
use Prim.Native.Nat.{ℕ, ◌+◌, ◌≤◌, ◌<◌}
use native.Mathlib.Omega.{arith}
use lib.ListN.{length, get_or, length-append, length-replicate, get_or-replicate, replicate, get_or-append}
use lib.Seq.{get_or-append-add}
use Rattle.rule.specs.Sets.{Is, ◌and◌, ◌or◌, isnt, ◌=?◌, In, numbers}
use Rattle.rule.specs.Legal.{Design}
use Rattle.rule.specs.Forests.{limit, in_forest}
use Rattle.rule.proofs.Tests.{cases, never, eq_of, eq_self}
use Rattle.theory.specs.Joined.{on_path}
use Rattle.theory.specs.Exchange.{Arc}
use Rattle.theory.specs.Search.{Waiting, edge_at, from_at, begin, fresh, reach}
use Rattle.theory.proofs.Numbers.Listing.{split_place, numbers_at, numbers_has, numbers_once}
use Rattle.theory.proofs.Exchange.Step.{path_in, path_edge}
use Rattle.theory.proofs.Legal.Kept.{forest_is}

-- how many wait
abbrev pub size : Waiting → ℕ
size w = length w.queue

pub record Reached (d : Design) (forest : ℕ → ℕ) (e : ℕ) (w : Waiting) : Type 0 where
  pub some : 1 ≤ size w
  pub first : edge_at w 0 ≡ e
  pub as_long : length w.from ≡ size w
  pub edges : (p : ℕ) → p < size w → In d.m (edge_at w p)
  pub once : (p r : ℕ) → p < size w → r < size w → edge_at w p ≡ edge_at w r → p ≡ r
  pub seen_at : (y : ℕ) → Is (w.seen y) → (p : ℕ) × ((p < size w) × (edge_at w p ≡ y))
  pub at_seen : (p : ℕ) → p < size w → Is (w.seen (edge_at w p))
  pub earlier : (p : ℕ) → 1 ≤ p → p < size w → from_at w p < p
  pub arcs : (p : ℕ) → 1 ≤ p → p < size w → Arc d forest (edge_at w (from_at w p)) (edge_at w p)

-- v has what w has, and perhaps more behind
pub record Grows (w v : Waiting) : Type 0 where
  pub longer : size w ≤ size v
  pub same_edge : (p : ℕ) → p < size w → edge_at v p ≡ edge_at w p
  pub same_from : (p : ℕ) → p < size w → from_at v p ≡ from_at w p

pub grows_refl : (w : Waiting) → Grows w w
grows_refl w = record { longer = omega arith; same_edge = λ p _. refl; same_from = λ p _. refl }

pub grows_trans : (u v w : Waiting) → Grows u v → Grows v w → Grows u w
grows_trans u v w f g =
    record {
      longer = omega (arith, f.longer, g.longer);
      same_edge = λ p h. g.same_edge p (omega (arith, f.longer)) ∙ f.same_edge p h;
      same_from = λ p h. g.same_from p (omega (arith, f.longer)) ∙ f.same_from p h;
    }

-- ---- the beginning

pub begin_reached : (d : Design) (forest : ℕ → ℕ) (e : ℕ) → In d.m e → Reached d forest e (begin e)
unfolding begin
begin_reached d forest e h =
    record {
      some = omega arith;
      first = refl;
      as_long = refl;
      edges = λ p l. subst (λ (z : ℕ). In d.m (get_or (e ∷ []) z 0)) (only p l) h;
      once = λ p r l k _. omega arith;
      seen_at = λ y s. (0, (omega arith, sym (eq_of y e s)));
      at_seen = λ p l. subst (λ (z : ℕ). Is (get_or (e ∷ []) z 0 =? e)) (only p l) (eq_self e);
      earlier = λ p l k. absurd (omega arith);
      arcs = λ p l k. absurd (omega arith);
    }
  where
    only : (p : ℕ) → p < 1 → 0 ≡ p
    only p l = omega arith

-- ---- one edge reaches those on its path in forest i

-- the two tests of a step, read as what they say of an edge y, in whatever order they are written
module _ (d : Design) (forest : ℕ → ℕ) (x i y : ℕ) (w : Waiting) where
  -- new is what is on the path and was not seen
  fresh_iff : Is (fresh d forest w x i y) ↔ (Is (on_path d (in_forest forest i) x y) × ¬ (Is (w.seen y)))
  unfolding fresh ◌and◌ ◌or◌ isnt
  fresh_iff = go (on_path d (in_forest forest i) x y) (w.seen y) refl refl
    where
      go : (p s : Bool) → on_path d (in_forest forest i) x y ≡ p → w.seen y ≡ s
          → (Is (fresh d forest w x i y) ↔ (Is (on_path d (in_forest forest i) x y) × ¬ (Is (w.seen y))))
      go true true p s = ((λ h. never (simp (p, s) at h)), (λ h. absurd (h.1 s)))
      go true false p s = ((λ _. (p, λ t. false≢true (sym s ∙ t))), (λ _. simp (p, s)))
      go false true p s = ((λ h. never (simp (p, s) at h)), (λ h. absurd (h.1 s)))
      go false false p s = ((λ h. never (simp (p, s) at h)), (λ h. absurd (false≢true (sym p ∙ h.0))))

  -- seen after it is what was seen before, and what is on the path
  seen_iff : (place : ℕ) → Is ((reach d forest place x i w).seen y) ↔ (Is (w.seen y) ⊎ Is (on_path d (in_forest forest i) x y))
  unfolding reach fresh ◌and◌ ◌or◌ isnt
  seen_iff place = go (on_path d (in_forest forest i) x y) (w.seen y) refl refl
    where
      go : (p s : Bool) → on_path d (in_forest forest i) x y ≡ p → w.seen y ≡ s
          → (Is ((reach d forest place x i w).seen y) ↔ (Is (w.seen y) ⊎ Is (on_path d (in_forest forest i) x y)))
      go true true p s = ((λ _. inl s), (λ _. simp (p, s)))
      go true false p s = ((λ _. inr p), (λ _. simp (p, s)))
      go false true p s = ((λ _. inl s), (λ _. simp (p, s)))
      go false false p s = ((λ h. never (simp (p, s) at h)), ⊎_elim (λ t. absurd (false≢true (sym s ∙ t))) (λ t. absurd (false≢true (sym p ∙ t))))

-- those that are new, and what waits then
abbrev news : Design → (ℕ → ℕ) → (place i : ℕ) → Waiting → List ℕ
news d forest place i w = numbers (fresh d forest w (edge_at w place) i) d.m

abbrev pub reaching : Design → (ℕ → ℕ) → (place i : ℕ) → Waiting → Waiting
reaching d forest place i w = reach d forest place (edge_at w place) i w

module _ (d : Design) (forest : ℕ → ℕ) (e place i : ℕ) (w : Waiting) (r : Reached d forest e w) (here : place < size w)
    (range : In (limit d (edge_at w place)) i) where
  reach_size : size (reaching d forest place i w) ≡ size w + length (news d forest place i w)
  unfolding reach
  reach_size = length-append w.queue (news d forest place i w)

  pub reach_grows : Grows w (reaching d forest place i w)
  unfolding reach
  reach_grows =
      record {
        longer = omega (arith, length-append w.queue (news d forest place i w));
        same_edge = λ p h. get_or-append w.queue _ 0 p h;
        same_from = λ p h. get_or-append w.from _ 0 p (omega (arith, r.as_long));
      }

  -- what is known of a new edge y
  record New (y : ℕ) : Type 0 where
    edge : In d.m y
    unseen : ¬ (Is (w.seen y))
    stands : forest y ≡ i
    arc : Arc d forest (edge_at w place) y

  new_at : (j : ℕ) → j < length (news d forest place i w) → New (get_or (news d forest place i w) j 0)
  new_at j h =
      let k = numbers_at (fresh d forest w (edge_at w place) i) d.m j h in
      let y = get_or (news d forest place i w) j 0 in
      let new = (fresh_iff d forest (edge_at w place) i y w).0 k.1 in
      let path : Is (on_path d (in_forest forest i) (edge_at w place) y) = new.0 in
      let in_i : forest y ≡ i = forest_is forest i y (path_in d (in_forest forest i) (edge_at w place) y path) in
      record {
        edge = k.0;
        unseen = new.1;
        stands = in_i;
        arc =
            record {
              placed = omega (arith, range.low);
              allowed = omega (arith, range.high);
              is_on_path = subst (λ (z : ℕ). Is (on_path d (in_forest forest z) (edge_at w place) y)) (sym in_i) path;
            };
      }

  -- a place is an old one, or holds a new edge that was reached from here
  data Place (p : ℕ) : Type 0 where
    old : p < size w → edge_at (reaching d forest place i w) p ≡ edge_at w p → from_at (reaching d forest place i w) p ≡ from_at w p → Place p
    added : (j : ℕ) → j < length (news d forest place i w) → p ≡ size w + j
        → edge_at (reaching d forest place i w) p ≡ get_or (news d forest place i w) j 0 → from_at (reaching d forest place i w) p ≡ place → Place p

  place_of : (p : ℕ) → p < size (reaching d forest place i w) → Place p
  unfolding reach
  place_of p h =
      ⊎_elim (λ o. old o.0 (reach_grows.same_edge p o.0) (reach_grows.same_from p o.0))
      (λ b.
      let n = length (news d forest place i w) in
      added b.place b.within b.counts b.holds
      (ap (λ (z : ℕ). get_or (w.from ++ replicate n place) z 0) (b.counts ∙ ap (λ (z : ℕ). z + b.place) (sym r.as_long))
      ∙ get_or-append-add w.from (replicate n place) b.place 0
      ∙ get_or-replicate n b.place place 0 b.within))
      (split_place w.queue (news d forest place i w) p h)

  -- the edge at a place: seen before, or new
  edge_cases : {C : ℕ → Type 0} (p : ℕ) → p < size (reaching d forest place i w) → ((q : ℕ) → q < size w → C (edge_at w q))
      → ((y : ℕ) → New y → C y) → C (edge_at (reaching d forest place i w) p)
  edge_cases {C} p h f g = go (place_of p h)
    where
      go : Place p → C (edge_at (reaching d forest place i w) p)
      go (old l q _) = subst C (sym q) (f p l)
      go (added j l _ q _) = subst C (sym q) (g (get_or (news d forest place i w) j 0) (new_at j l))

  reach_once : (p q : ℕ) → Place p → Place q → edge_at (reaching d forest place i w) p ≡ edge_at (reaching d forest place i w) q → p ≡ q
  reach_once p q (old lp ep _) (old lq eq _) same = r.once p q lp lq (sym ep ∙ same ∙ eq)
  reach_once p q (old lp ep _) (added j lj _ eq _) same =
      absurd ((new_at j lj).unseen (subst (λ (z : ℕ). Is (w.seen z)) (sym ep ∙ same ∙ eq) (r.at_seen p lp)))
  reach_once p q (added j lj _ ep _) (old lq eq _) same =
      absurd ((new_at j lj).unseen (subst (λ (z : ℕ). Is (w.seen z)) (sym eq ∙ sym same ∙ ep) (r.at_seen q lq)))
  reach_once p q (added j lj cj ep _) (added g lg cg eq _) same =
      cj ∙ ap (λ (z : ℕ). size w + z) (numbers_once (fresh d forest w (edge_at w place) i) d.m j g lj lg (sym ep ∙ same ∙ eq)) ∙ sym cg

  -- a new edge has a place
  new_place : (y : ℕ) → Is (on_path d (in_forest forest i) (edge_at w place) y) → ¬ (Is (w.seen y))
      → (p : ℕ) × ((p < size (reaching d forest place i w)) × (edge_at (reaching d forest place i w) p ≡ y))
  unfolding reach
  new_place y path unseen =
      let new = (fresh_iff d forest (edge_at w place) i y w).1 (path, unseen) in
      let k = numbers_has (fresh d forest w (edge_at w place) i) d.m y (path_edge d (in_forest forest i) (edge_at w place) y path) new in
      (size w + k.0, (omega (arith, k.1.0, reach_size), get_or-append-add w.queue (news d forest place i w) k.0 0 ∙ k.1.1))

  old_place : (y : ℕ) → Is (w.seen y) → (p : ℕ) × ((p < size (reaching d forest place i w)) × (edge_at (reaching d forest place i w) p ≡ y))
  old_place y s =
      let k = r.seen_at y s in
      (k.0, (omega (arith, k.1.0, reach_size), reach_grows.same_edge k.0 k.1.0 ∙ k.1.1))

  reach_seen_at : (y : ℕ) → Is ((reaching d forest place i w).seen y)
      → (p : ℕ) × ((p < size (reaching d forest place i w)) × (edge_at (reaching d forest place i w) p ≡ y))
  reach_seen_at y s =
      ⊎_elim (λ o. old_place y o) (λ path. cases (w.seen y) (λ o. old_place y o) (λ n. new_place y path n))
      ((seen_iff d forest (edge_at w place) i y w place).0 s)

  reach_at_seen : (p : ℕ) → p < size (reaching d forest place i w) → Is ((reaching d forest place i w).seen (edge_at (reaching d forest place i w) p))
  reach_at_seen p h =
      edge_cases {C = λ y. Is ((reaching d forest place i w).seen y)} p h
      (λ q l. (seen_iff d forest (edge_at w place) i (edge_at w q) w place).1 (inl (r.at_seen q l)))
      (λ y n.
      (seen_iff d forest (edge_at w place) i y w place).1
      (inr (subst (λ (z : ℕ). Is (on_path d (in_forest forest z) (edge_at w place) y)) n.stands n.arc.is_on_path)))

  reach_earlier : (p : ℕ) → 1 ≤ p → Place p → from_at (reaching d forest place i w) p < p
  reach_earlier p l (old h _ f) = omega (arith, f, r.earlier p l h)
  reach_earlier p l (added j h c _ f) = omega (arith, here)

  reach_arcs : (p : ℕ) → 1 ≤ p → Place p → Arc d forest (edge_at (reaching d forest place i w) (from_at (reaching d forest place i w) p)) (edge_at (reaching d forest place i w) p)
  reach_arcs p l (old h q f) =
      subst₂ (Arc d forest)
      (sym (ap (λ (z : ℕ). edge_at (reaching d forest place i w) z) f ∙ reach_grows.same_edge (from_at w p) (omega (arith, r.earlier p l h))))
      (sym q) (r.arcs p l h)
  reach_arcs p l (added j h c q f) =
      subst₂ (Arc d forest) (sym (ap (λ (z : ℕ). edge_at (reaching d forest place i w) z) f ∙ reach_grows.same_edge place here)) (sym q)
      (new_at j h).arc

  reach_long : length (reaching d forest place i w).from ≡ size (reaching d forest place i w)
  unfolding reach
  reach_long =
      length-append w.from (replicate (length (news d forest place i w)) place)
      ∙ ap₂ (λ (a b : ℕ). a + b) r.as_long (length-replicate (length (news d forest place i w)) place)
      ∙ sym (length-append w.queue (news d forest place i w))

  pub reach_reached : Reached d forest e (reaching d forest place i w)
  reach_reached =
      record {
        some = omega (arith, reach_size, r.some);
        first = reach_grows.same_edge 0 r.some ∙ r.first;
        as_long = reach_long;
        edges = λ p h. edge_cases {C = In d.m} p h r.edges (λ y n. n.edge);
        once = λ p q hp hq. reach_once p q (place_of p hp) (place_of q hq);
        seen_at = reach_seen_at;
        at_seen = reach_at_seen;
        earlier = λ p l h. reach_earlier p l (place_of p h);
        arcs = λ p l h. reach_arcs p l (place_of p h);
      }

  -- each edge on the path waits now
  pub reach_all : (y : ℕ) → Is (on_path d (in_forest forest i) (edge_at w place) y)
      → (p : ℕ) × ((p < size (reaching d forest place i w)) × (edge_at (reaching d forest place i w) p ≡ y))
  reach_all y path = cases (w.seen y) (λ o. old_place y o) (λ n. new_place y path n)

  -- and was reached from here or from where those before it were
  pub reach_from : ((p : ℕ) → p < size w → from_at w p ≤ place) → (p : ℕ) → p < size (reaching d forest place i w)
      → from_at (reaching d forest place i w) p ≤ place
  reach_from f p h = go (place_of p h)
    where
      go : Place p → from_at (reaching d forest place i w) p ≤ place
      go (old l _ q) = omega (arith, q, f p l)
      go (added j l _ _ q) = omega arith
