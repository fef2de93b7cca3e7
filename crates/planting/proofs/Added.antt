-- The tables after an edge was added to forest f: the forest's set has one edge more, its labels are those of the united trees, the
-- next slot holds the edge, and the words of one of the two trees have changed across it. The other forests are as they were.
-- Assumes nothing.
use mathlib.Core.Path.{◌≡◌, refl, sym, ap, ap₂, ◌∙◌, subst, subst₂}
use mathlib.Core.Logic.{◌⊎◌, ◌≢◌}
use mathlib.Core.Bool.{Bool, true, false}
use mathlib.Core.List.{List}
use Prim.Native.Nat.{ℕ, ◌+◌, ◌-◌, ◌^◌, ◌≤◌, ◌<◌}
use native.Mathlib.Omega.{arith}
use lib.Bits.{bit_xor}
use lib.ListN.{set, length-set}
use lib.Seq.{get_or-set_same, get_or-set_other}
use Rattle.rule.specs.Sets.{Is, isnt, ◌=?◌, Set, In, put, ◌with◌}
use Rattle.rule.specs.Legal.{Design}
use Rattle.rule.specs.Forests.{in_forest}
use Rattle.rule.proofs.Tests.{same_test, is_false, isnt_make, isnt_not, eq_of, eq_is, eq_self, by_eq, put_same, put_other, put_id}
use Rattle.theory.specs.Joined.{joined, spans}
use Rattle.theory.proofs.Legal.Kept.{forest_is, forest_put}
use Rattle.words.specs.Bits.{bit}
use Rattle.words.proofs.Bits.{◌differs◌}
use Rattle.words.proofs.Differs.{differs_comm, differs_self, false_differs}
use Rattle.tables.specs.Tables.{start, word, slot, filled, Slots, Labels, Ways, Tabled}
use Rattle.labels.specs.Rows.{Applied}
use Rattle.labels.specs.Labels.{United}
use Rattle.labels.proofs.Carried.{SameRow, other_row}
use Rattle.planting.specs.Calls.{Sized, Addable, Added}
use Rattle.planting.proofs.Larger.{parted, between_new, between_old, between_parted}
use Rattle.planting.proofs.Tells.{Tells, tells_same, between_none, changed, Near, tells_more}
use Rattle.planting.proofs.Seats.{seated, seated_none, bits, ways_tell, tell_ways, Reseated, reseated, seated_new, seated_old, seated_other, slots_else, ways_else, labels_else}
use Rattle.planting.proofs.Changes.{across, bit_across, bits_changed}

-- ---- the bits across the new edge

module _ (d : Design) (s : Set) (e : ℕ) (he : In d.m e) (apart : ¬ (Is (spans d s e))) (h1 : In 64 (d.one e)) (h2 : In 64 (d.other e))
    (t : ℕ → Bool) (tree : Near d s t (d.one e) ⊎ Near d s t (d.other e)) (w : ℕ → Bool) where
  -- the new edge's bit told nothing, and now tells it
  tells_new : Tells d s 0 w → Tells d (s with e) e (changed w t ((w (d.one e) differs w (d.other e)) differs true))
  tells_new old =
      tells_more d s e apart t tree h1 h2 w true e 0 old
      (λ x y h. between_new d s e he apart x y ∙ is_false (isnt (joined d s x y)) (λ n. isnt_not _ n h) ∙ sym (between_none d s x y h))
      (λ x y p q.
      between_new d s e he apart x y
      ∙ isnt_make (joined d s x y) (parted d s e he apart x y p q)
      ∙ sym
      (ap₂ (λ (a b : Bool). (a differs b) differs true) (between_none d s x (d.one e) p) (between_none d s (d.other e) y q)
      ∙ ap (λ (a : Bool). a differs true) (differs_self false)
      ∙ false_differs true))

  -- another edge's bit tells it still
  tells_still : (z : ℕ) → z ≢ e → Tells d s z w → Tells d (s with e) z (changed w t ((w (d.one e) differs w (d.other e)) differs false))
  tells_still z ne old =
      tells_more d s e apart t tree h1 h2 w false z z old (between_old d s e he apart z ne)
      (λ x y p q. between_parted d s e he apart z ne x y p q ∙ sym (differs_comm _ false ∙ false_differs _))

-- ---- the tables

module _ (d : Design) (forest : ℕ → ℕ) (f e : ℕ) (hf : In 6 f) (he : In d.m e) (unplaced : forest e ≡ 0) (root way who edge size : List ℕ)
    (old : Tabled d forest root way who edge size) (sized : Sized root way who edge size) (room : filled size f ≤ 62) where
  abbrev own : Set
  own = in_forest forest f

  forest_with : in_forest (put forest e f) f ≡ (in_forest forest f with e)
  forest_with = forest_put forest e f f ∙ ap (λ (b : Bool). put (in_forest forest f) e b) (eq_self f)

  forest_else : (g : ℕ) → In 6 g → g ≢ f → in_forest (put forest e f) g ≡ in_forest forest g
  forest_else g hg ne =
      forest_put forest e f g
      ∙ put_id (in_forest forest g) e (f =? g)
      (same_test _ _ (λ t. absurd (omega (arith, forest_is forest g e t, hg.low))) (λ t. absurd (ne (sym (eq_of f g t)))))

  -- ---- the slots

  abbrev edge' : List ℕ
  edge' = set edge (start f + filled size f) e

  abbrev size' : List ℕ
  size' = set size (f - 1) (filled size f + 1)

  filled_own : filled (set size (f - 1) (filled size f + 1)) f ≡ filled size f + 1
  filled_own = get_or-set_same size (f - 1) (filled size f + 1) 0 (omega (arith, sized.size_long))

  filled_else : (g : ℕ) → In 6 g → g ≢ f → filled (set size (f - 1) (filled size f + 1)) g ≡ filled size g
  filled_else g hg ne = get_or-set_other size (f - 1) (g - 1) (filled size f + 1) 0 (omega arith)

  new_edge : (j : ℕ) → j < filled size f → slot edge f j ≢ e
  new_edge j l q = omega (arith, ((old.slots f hf).edge_in j l).1, ap forest q, unplaced, hf.low)

  seats : Reseated d forest (put forest e f) f (filled size f) e edge size (set size (f - 1) (filled size f + 1))
  seats =
      record {
        most = omega (arith, filled_own);
        inside = omega (arith, filled_own);
        edge_x = he;
        comes = put_same forest e f;
        stays =
            λ i l ne.
            let less : i < filled size f = omega (arith, filled_own) in
            (less, (put_other forest e f (slot edge f i) (new_edge i less) ∙ ((old.slots f hf).edge_in i less).1, new_edge i less));
        keeps =
            λ z hz q ne.
            let k = (old.slots f hf).slot_of z hz (sym (put_other forest e f z ne) ∙ q) in
            (k.0, (omega (arith, filled_own, k.1.0), (omega (arith, k.1.0), k.1.1)));
      }

  slots_own : Slots d (put forest e f) f (set edge (start f + filled size f) e) (set size (f - 1) (filled size f + 1))
  slots_own = reseated d forest (put forest e f) f (filled size f) e edge size size' hf sized.edge_long (old.slots f hf) seats

  abbrev seat : (i : ℕ) → ℕ
  seat i = seated edge' size' f i

  -- the new slot tells e, the others tell what they told
  seat_new : seated (set edge (start f + filled size f) e) (set size (f - 1) (filled size f + 1)) f (filled size f) ≡ e
  seat_new = seated_new d forest (put forest e f) f (filled size f) e edge size size' hf sized.edge_long (old.slots f hf) seats

  seat_old : (i : ℕ) → i ≢ filled size f
      → seated (set edge (start f + filled size f) e) (set size (f - 1) (filled size f + 1)) f i ≡ seated edge size f i
  seat_old =
      seated_old d forest (put forest e f) f (filled size f) e edge size size' hf sized.edge_long (old.slots f hf) seats
      (λ i l. omega (arith, filled_own))

  seat_other : (i : ℕ) → i ≢ filled size f → seated (set edge (start f + filled size f) e) (set size (f - 1) (filled size f + 1)) f i ≢ e
  seat_other = seated_other d forest (put forest e f) f (filled size f) e edge size size' hf sized.edge_long (old.slots f hf) seats

  -- ---- the words

  module _ (apart : ¬ (Is (spans d (in_forest forest f) e))) (h1 : In 64 (d.one e)) (h2 : In 64 (d.other e)) (bodies : ℕ) (way' : List ℕ)
      (tree : Near d (in_forest forest f) (λ x. bit bodies (x - 1)) (d.one e) ⊎ Near d (in_forest forest f) (λ x. bit bodies (x - 1)) (d.other e))
      (a : Applied (λ w. bit_xor w (across (word way f (d.one e)) (word way f (d.other e)) (filled size f))) (start f) (bit bodies) way way') where
    abbrev told : (j z : ℕ) → Bool → Type 0
    told j z k =
        Tells d (own with e) z (changed (bits way f j) (λ x. bit bodies (x - 1)) ((bits way f j (d.one e) differs bits way f j (d.other e)) differs k))

    told_at : (j : ℕ) → told j (seat j) (j =? filled size f)
    told_at j =
        by_eq j (filled size f)
        (λ q.
        subst₂ (told j) (sym (ap seat q ∙ seat_new)) (sym (eq_is j (filled size f) q))
        (tells_new d own e he apart h1 h2 (λ x. bit bodies (x - 1)) tree (bits way f j)
        (subst (λ (z : ℕ). Tells d own z (bits way f j)) (seated_none edge size f j (omega arith)) (ways_tell d forest f way edge size (old.ways f hf) j))))
        (λ ne.
        subst (told j (seat j)) (sym (is_false (j =? filled size f) (λ t. ne (eq_of j (filled size f) t))))
        (tells_still d own e he apart h1 h2 (λ x. bit bodies (x - 1)) tree (bits way f j) (seat j) (seat_other j ne)
        (subst (λ (z : ℕ). Tells d own z (bits way f j)) (sym (seat_old j ne)) (ways_tell d forest f way edge size (old.ways f hf) j))))

    ways_own : Ways d (put forest e f) f way' (set edge (start f + filled size f) e) (set size (f - 1) (filled size f + 1))
    ways_own =
        tell_ways d (put forest e f) f way' edge' size'
        (λ j.
        subst (λ (s : Set). Tells d s (seat j) (bits way' f j)) (sym forest_with)
        (tells_same d (own with e) (seat j) _ (bits way' f j)
        (λ x h.
        sym
        (bits_changed f (across (word way f (d.one e)) (word way f (d.other e)) (filled size f)) way way' bodies a j x h
        ∙ ap (λ (k : Bool). changed (bits way f j) (λ x. bit bodies (x - 1)) k x) (bit_across (word way f (d.one e)) (word way f (d.other e)) (filled size f) j)))
        (told_at j)))

    -- ---- all of them

    module _ (root' who' : List ℕ) (un : United f (d.one e) (d.other e) root who root' who' bodies) where
      pub tabled_with : Tabled d (put forest e f) root' way' who' (set edge (start f + filled size f) e) (set size (f - 1) (filled size f + 1))
      unfolding spans
      tabled_with =
          record {
            slots =
                λ g hg.
                by_eq g f (λ q. subst (λ (z : ℕ). Slots d (put forest e f) z edge' size') (sym q) slots_own)
                (λ ne. slots_else d forest (put forest e f) g (forest_else g hg ne) edge edge' size size' (edges g hg ne) (filled_else g hg ne) (old.slots g hg));
            labels =
                λ g hg.
                by_eq g f
                (λ q.
                subst (λ (z : ℕ). Labels d (in_forest (put forest e f) z) z root' who') (sym q)
                (subst (λ (s : Set). Labels d s f root' who') (sym forest_with) (un.labels d own e he refl refl (old.labels f hf) apart)))
                (λ ne.
                labels_else d forest (put forest e f) g (forest_else g hg ne) root root' who who'
                (λ t l. un.root_else (start g + t) (other_row f g hf hg ne t l)) (λ t l. un.who_else (start g + t) (other_row f g hf hg ne t l)) (old.labels g hg));
            ways =
                λ g hg.
                by_eq g f (λ q. subst (λ (z : ℕ). Ways d (put forest e f) z way' edge' size') (sym q) ways_own)
                (λ ne.
                ways_else d forest (put forest e f) g (forest_else g hg ne) edge edge' size size' (edges g hg ne) (filled_else g hg ne) (old.slots g hg) way way'
                (λ t l. a.else (start g + t) (other_row f g hf hg ne t l)) (old.ways g hg));
          }
        where
          edges : (g : ℕ) → In 6 g → g ≢ f → SameRow g edge edge'
          edges g hg ne t l = get_or-set_other edge (start f + filled size f) (start g + t) e 0 (other_row f g hf hg ne t l (filled size f) (omega arith))

-- ---- what `add` promises

-- t is the slot that the edge takes
module _ (f u v e t : ℕ) (root way who edge size root' way' who' : List ℕ) (bodies path one : ℕ) (r : Addable f u v root size)
    (sized : Sized root way who edge size) (is_t : t ≡ filled size f)
    (un : United f u v root who root' who' bodies) (is_path : path ≡ bit_xor (word way f u) (word way f v)) (is_one : one ≡ 2 ^ t)
    (a : Applied (λ w. bit_xor w (bit_xor path one)) (start f) (bit bodies) way way') where
  -- what was done, as it is said of the ends of an edge
  record Given (d : Design) (forest : ℕ → ℕ) (x y : ℕ) : Type 0 where
    x_body : In 64 x
    y_body : In 64 y
    apart : ¬ (Is (joined d (in_forest forest f) x y))
    united : United f x y root who root' who' bodies
    applied : Applied (λ w. bit_xor w (across (word way f x) (word way f y) (filled size f))) (start f) (bit bodies) way way'

  pub added : Added f u v e root way who edge size root' way' who' (set edge (start f + t) e) (set size (f - 1) (filled size f + 1))
  unfolding spans
  added =
      subst
      (λ (t : ℕ). Added f u v e root way who edge size root' way' who' (set edge (start f + t) e) (set size (f - 1) (filled size f + 1)))
      (sym is_t)
      (record {
        sized =
            record {
              root_long = un.root_long;
              way_long = a.as_long ∙ sized.way_long;
              who_long = un.who_long;
              edge_long = length-set edge _ e ∙ sized.edge_long;
              size_long = length-set size _ _ ∙ sized.size_long;
            };
        tabled =
            λ d forest he unplaced is_u is_v apart old.
            let g : Given d forest (d.one e) (d.other e) =
            subst₂ (Given d forest) (sym is_u) (sym is_v)
            (record {
              x_body = r.one;
              y_body = r.other;
              apart = apart;
              united = un;
              applied = subst₂ (λ (p o : ℕ). Applied (λ w. bit_xor w (bit_xor p o)) (start f) (bit bodies) way way') is_path (is_one ∙ ap (λ (z : ℕ). 2 ^ z) is_t) a;
            }) in
            tabled_with d forest f e r.forest he unplaced root way who edge size old sized r.room g.apart g.x_body g.y_body bodies way'
            (g.united.tree d (in_forest forest f) (old.labels f r.forest)) g.applied root' who' g.united;
      })
