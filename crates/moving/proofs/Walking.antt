-- The loop of `replant`: what holds after some steps, and why it holds after one more.
--
-- At each step one edge x stands nowhere, though the book's forests still hold an old number for it. What is left of the path
-- leads on from x, and walking along it ends where walking along the whole path did. A step is an exchange (crate theory,
-- proofs/Exchange/Walk.antt), which the tables follow by a swap; the end puts x into the forest found.
-- Assumes nothing.
use mathlib.Core.Path.{◌≡◌, refl, sym, ap, ap₂, ◌∙◌, subst, subst₂}
use mathlib.Core.List.{List, [], ◌∷◌, reverse}
use Prim.Native.Nat.{ℕ, ◌-◌, ◌≤◌}
use native.Mathlib.Omega.{arith}
use lib.ListN.{length, get_or, set}
use lib.ListN.{length-set}
use Rattle.std.specs.List.{push}
use Rattle.std.proofs.lemmas.List.{nil_from_length, reverse-append}
use Rattle.rule.specs.Sets.{Is, In, put, at}
use Rattle.rule.specs.Legal.{k}
use Rattle.rule.specs.Forests.{limit, in_forest, Arranged}
use Rattle.rule.proofs.Tests.{put_same, put_other, put_put, put_id}
use Rattle.rule.proofs.Places.{at_suc, at_set}
use Rattle.theory.specs.Joined.{joined, spans}
use Rattle.theory.specs.Exchange.{Free, end, exchanged, walked, shifted}
use Rattle.theory.proofs.Exchange.Walk.{Start, onward, free_onward, arranged_onward}
use Rattle.theory.proofs.Exchange.Shift.{shift_is_walk}
use Rattle.theory.proofs.Joined.Acyclic.{loopless_acyclic}
use Rattle.theory.proofs.Legal.Kept.{limit_most}
use Rattle.tables.specs.Tables.{Tabled}
use Rattle.planting.specs.Calls.{Addable, Added, Swapped}
use Rattle.planting.proofs.Few.{room_left}
use Rattle.moving.specs.Moves.{Exchangeable, Exchanged, Replanting, Replanted}

-- ---- numbers that stand at a place counted from 1

pub at_place : (l : List ℕ) (e : ℕ) → 1 ≤ e → get_or l (e - 1) 0 ≡ at l e
at_place l e low = sym (ap (at l) (omega arith) ∙ at_suc l (e - 1))

pub at_store : (l : List ℕ) (e v : ℕ) → 1 ≤ e → e ≤ length l → at (set l (e - 1) v) ≡ put (at l) e v
at_store l e v low high = subst (λ (z : ℕ). at (set l (e - 1) v) ≡ put (at l) z v) (omega arith) (at_set l (e - 1) v (omega arith))

-- ---- a step of the code, from its calls

-- g is y's forest as it was read, and f the same as it was passed on
pub exchange_done : (x y : ℕ) (ones others forests way edge forests' way' edge' : List ℕ) (g f u v : ℕ) → g ≡ at forests y → f ≡ at forests y
    → u ≡ at ones x → v ≡ at others x → Swapped f u v x y way edge way' edge' → forests' ≡ set forests (x - 1) g
    → Exchanged x y ones others forests way edge forests' way' edge'
exchange_done x y ones others forests way edge forests' way' edge' g f u v qg qf qu qv sw st =
    record {
      stands = subst (λ (z : ℕ). forests' ≡ set forests (x - 1) z) qg st;
      swaps =
          subst (λ (z : ℕ). Swapped z (at ones x) (at others x) x y way edge way' edge') qf
          (subst₂ (λ (s t : ℕ). Swapped f s t x y way edge way' edge') qu qv sw);
    }

module _ {number found : ℕ} {path ones others forests root way who edge size : List ℕ}
    (t : Replanting number found path ones others forests root way who edge size) where
  -- the forests, but x stands nowhere
  abbrev less : List ℕ → ℕ → ℕ → ℕ
  less forests' x = put (at forests') x 0

  -- x stands nowhere, and the edges of `left` are still to move
  pub record Walking (forests' way' edge' : List ℕ) (left : List ℕ) (x : ℕ) : Type 0 where
    pub start : Start t.d (less forests' x) x (left)
    pub arranged : Arranged t.d (less forests' x)
    pub free : Free t.d (less forests' x) (end x (left)) found
    pub tabled : Tabled t.d (less forests' x) root way' who edge' size
    pub walks : put (walked (less forests' x) x (left)) (end x (left)) found ≡ shifted (at forests) (number ∷ reverse path) found
    pub forests_long : length forests' ≡ 512

  -- ---- before the first step

  pub walking_start : Walking forests way edge (reverse path) number
  walking_start =
      let same : at forests ≡ less forests number = sym (put_id (at forests) number 0 t.start.unplaced) in
      record {
        start = subst (λ (g : ℕ → ℕ). Start t.d g number (reverse path)) same t.start;
        arranged = subst (Arranged t.d) same t.arranged;
        free = subst (λ (g : ℕ → ℕ). Free t.d g (end number (reverse path)) found) same t.free;
        tabled = subst (λ (g : ℕ → ℕ). Tabled t.d g root way who edge size) same t.tabled;
        walks =
            subst
            (λ (g : ℕ → ℕ).
            put (walked g number (reverse path)) (end number (reverse path)) found
            ≡ shifted (at forests) (number ∷ reverse path) found)
            same
            (sym (shift_is_walk (at forests) number (reverse path) found t.start.distinct));
        forests_long = t.forests_long;
      }

  number_range : (e : ℕ) → In t.d.m e → In 512 e
  number_range e h = record { low = h.low; high = omega (arith, h.high, t.drawn.edges) }

  body_range : (v : ℕ) → In t.d.n v → In 64 v
  body_range v h = record { low = h.low; high = omega (arith, h.high, t.drawn.bodies.high) }

  pub one_range : (e : ℕ) → In t.d.m e → In 64 (at ones e)
  one_range e h = subst (In 64) (t.drawn.one e h) (body_range _ (t.drawn.ends.one e h))

  pub other_range : (e : ℕ) → In t.d.m e → In 64 (at others e)
  other_range e h = subst (In 64) (t.drawn.other e h) (body_range _ (t.drawn.ends.other e h))

  limit_range : (e f : ℕ) → 1 ≤ f → f ≤ limit t.d e → In 6 f
  limit_range e f low high = record { low = low; high = omega (arith, high, limit_most t.d e, t.drawn.forests) }

  -- ---- the iterator over the path: what it has still to give, from the back

  pub one_more : (forests' way' edge' rest rest' : List ℕ) (x y : ℕ) → rest ≡ push rest' y → Walking forests' way' edge' (reverse rest) x
      → Walking forests' way' edge' (y ∷ reverse rest') x
  one_more forests' way' edge' rest rest' x y q =
      subst (λ (l : List ℕ). Walking forests' way' edge' l x) (ap reverse q ∙ reverse-append rest' (y ∷ []))

  pub none_left : (forests' way' edge' rest : List ℕ) (x : ℕ) → length rest ≡ 0 → Walking forests' way' edge' (reverse rest) x
      → Walking forests' way' edge' [] x
  none_left forests' way' edge' rest x q =
      subst (λ (l : List ℕ). Walking forests' way' edge' l x) (ap reverse (nil_from_length rest q))

  -- ---- one step

  module _ (forests' way' edge' left : List ℕ) (x y : ℕ) (w : Walking forests' way' edge' (y ∷ left) x) where
    -- the path that is left
    start : Start t.d (less forests' x) x (y ∷ left)
    start = w.start

    stays : less forests' x y ≡ at forests' y
    stays = put_other (at forests') x 0 y start.distinct.0.0

    y_range : In 6 (at forests' y)
    y_range =
        subst (In 6) stays (limit_range x (less forests' x y) start.path.0.placed start.path.0.allowed)

    pub can_step : Exchangeable x y ones others forests'
    can_step =
        record {
          x_number = number_range x start.edge;
          y_number = number_range y start.edges.0;
          stands = y_range;
          one = one_range x start.edge;
          other = other_range x start.edge;
        }

    module _ (forests'' way'' edge'' : List ℕ) (e : Exchanged x y ones others forests' way' edge' forests'' way'' edge'') where
      stored : at forests'' ≡ put (at forests') x (at forests' y)
      stored =
          ap at e.stands
          ∙ at_store forests' x (at forests' y) start.edge.low (omega (arith, (number_range x start.edge).high, w.forests_long))

      now : exchanged (less forests' x) x y ≡ less forests'' y
      now =
          ap₂ (λ (g : ℕ → ℕ) (f : ℕ). put (put g x f) y 0) refl stays
          ∙ ap (λ (g : ℕ → ℕ). put g y 0) (put_put (at forests') x 0 (at forests' y))
          ∙ ap (λ (g : ℕ → ℕ). put g y 0) (sym stored)

      swapped : Tabled t.d (exchanged (less forests' x) x y) root way'' who edge'' size
      swapped =
          e.swaps.tabled t.d (less forests' x) root who size start.edge start.unplaced (t.drawn.one x start.edge)
          (t.drawn.other x start.edge) stays start.path.0
          (w.arranged.loopless (at forests' y) (record { low = y_range.low; high = omega (arith, stays, start.path.0.allowed, limit_most t.d x) }))
          w.tabled

      pub walking_step : Walking forests'' way'' edge'' left y
      unfolding walked
      walking_step =
          record {
            start = subst (λ (g : ℕ → ℕ). Start t.d g y (left)) now (onward t.d (less forests' x) x y (left) start);
            arranged = subst (Arranged t.d) now (arranged_onward t.d (less forests' x) x y (left) start w.arranged);
            free =
                subst (λ (g : ℕ → ℕ). Free t.d g (end y (left)) found) now
                (free_onward t.d (less forests' x) x y (left) start (end y (left)) found w.free);
            tabled = subst (λ (g : ℕ → ℕ). Tabled t.d g root way'' who edge'' size) now swapped;
            walks =
                subst
                (λ (g : ℕ → ℕ).
                put (walked g y (left)) (end y (left)) found
                ≡ shifted (at forests) (number ∷ reverse path) found)
                now w.walks;
            forests_long = ap length e.stands ∙ length-set forests' (x - 1) (at forests' y) ∙ w.forests_long;
          }

  -- ---- after the last step

  module _ (forests' way' edge' : List ℕ) (x : ℕ) (w : Walking forests' way' edge' [] x) where
    free : Free t.d (less forests' x) x found
    free = w.free

    here : In t.d.m x
    here = w.start.edge

    found_range : In 6 found
    found_range = limit_range x found free.allowed.low free.allowed.high

    found_forest : In (k t.d) found
    found_forest = record { low = free.allowed.low; high = omega (arith, free.allowed.high, limit_most t.d x) }

    pub last_number : In 512 x
    last_number = number_range x here

    -- f, u and v as they are passed on
    module _ (f u v : ℕ) (is_f : f ≡ found) (is_u : u ≡ at ones x) (is_v : v ≡ at others x) where
      u_range : In 64 u
      u_range = subst (In 64) (sym is_u) (one_range x here)

      v_range : In 64 v
      v_range = subst (In 64) (sym is_v) (other_range x here)

      pub can_add : Addable f u v root size
      can_add =
          subst (λ (z : ℕ). Addable z u v root size) (sym is_f)
          (record {
            forest = found_range;
            one = u_range;
            other = v_range;
            one_label = (w.tabled.labels found found_range).small u u_range;
            other_label = (w.tabled.labels found found_range).small v v_range;
            room =
                room_left t.d (less forests' x) found x edge' size (w.tabled.slots found found_range) t.drawn.bodies
                (λ e h _. (t.drawn.ends.one e h, t.drawn.ends.other e h))
                (loopless_acyclic t.d (in_forest (less forests' x) found) (w.arranged.loopless found found_forest))
                here (t.drawn.ends.one x here, t.drawn.ends.other x here) free.not_joined;
          })

      module _ (forests'' root'' way'' who'' edge'' size'' : List ℕ) (adds : Added f u v x root way' who edge' size root'' way'' who'' edge'' size'')
          (store : forests'' ≡ set forests' (x - 1) found) where
        added : Added found u v x root way' who edge' size root'' way'' who'' edge'' size''
        added = subst (λ (z : ℕ). Added z u v x root way' who edge' size root'' way'' who'' edge'' size'') is_f adds

        landed : at forests'' ≡ put (less forests' x) x found
        landed =
            ap at store
            ∙ at_store forests' x found here.low (omega (arith, last_number.high, w.forests_long))
            ∙ sym (put_put (at forests') x 0 found)

        one_is : t.d.one x ≡ u
        one_is = t.drawn.one x here ∙ sym is_u

        other_is : t.d.other x ≡ v
        other_is = t.drawn.other x here ∙ sym is_v

        apart : ¬ (Is (joined t.d (in_forest (less forests' x) found) u v))
        unfolding spans
        apart h = free.not_joined (subst₂ (λ (u v : ℕ). Is (joined t.d (in_forest (less forests' x) found) u v)) (sym one_is) (sym other_is) h)

        pub walked_all : Replanted t forests'' root'' way'' who'' edge'' size''
        unfolding walked
        walked_all =
            record {
              shifts = landed ∙ w.walks;
              tabled =
                  subst (λ (g : ℕ → ℕ). Tabled t.d g root'' way'' who'' edge'' size'') (sym landed)
                  (added.tabled t.d (less forests' x) here (put_same (at forests') x 0) one_is other_is apart w.tabled);
              sized = added.sized;
              forests_long = ap length store ∙ length-set forests' (x - 1) found ∙ w.forests_long;
            }
