-- The tables after edge x has taken the place of edge y in forest f, y being on the path of x: the forest joins what it joined, so labels
-- stay; x has the slot of y; the words of the bodies on one side of y have changed by the path of x. The other forests are as they were.
-- Assumes nothing.
use mathlib.Core.Path.{◌≡◌, refl, sym, ap, ◌∙◌, subst, subst₂}
use mathlib.Core.Logic.{⊎_elim, ◌≢◌}
use mathlib.Core.Bool.{Bool, true, false, false≢true}
use mathlib.Core.List.{List}
use Prim.Native.Nat.{ℕ, ◌+◌, ◌^◌, ◌≤◌, ◌<◌}
use native.Mathlib.Omega.{arith}
use lib.Bits.{bit_xor}
use lib.ListN.{set, length-set}
use lib.Seq.{get_or-set_other}
use Rattle.rule.specs.Sets.{Is, ◌and◌, ◌=?◌, Set, In, ◌with◌, ◌without◌}
use Rattle.rule.specs.Legal.{Design}
use Rattle.rule.specs.Forests.{in_forest, Loopless}
use Rattle.rule.proofs.Tests.{is_false, and_r, eq_of, eq_is, by_eq, by_le, with_self, with_old, with_elim, without_old, without_ne, without_make}
use Rattle.theory.specs.Joined.{joined, spans, on_path}
use Rattle.theory.specs.Exchange.{Arc, exchanged}
use Rattle.theory.proofs.Joined.Laws.{swap_same}
use Rattle.theory.proofs.Joined.Acyclic.{loopless_acyclic}
use Rattle.theory.proofs.Legal.Kept.{forest_make, forest_is}
use Rattle.theory.proofs.Exchange.Step.{path_spans, path_needs, path_edge, forest_swapped, forest_kept}
use Rattle.words.proofs.Bits.{◌differs◌}
use Rattle.words.proofs.Differs.{differs_comm, differs_self, false_differs}
use Rattle.tables.specs.Tables.{start, word, slot, filled, Slots, Labels, Ways, Tabled}
use Rattle.labels.specs.Rows.{Long, Applied}
use Rattle.labels.proofs.Carried.{SameRow, other_row}
use Rattle.planting.specs.Calls.{Swappable, Swapped, turned_by, FirstSlot}
use Rattle.planting.proofs.Between.{between_make}
use Rattle.planting.proofs.Tells.{Tells, tells_same, changed, tells_in, tells_swapped}
use Rattle.planting.proofs.Seats.{seated, seated_in, seated_none, bits, ways_tell, tell_ways, Reseated, reseated, seated_new, seated_old, seated_other, slots_else, ways_else, labels_else}
use Rattle.planting.proofs.Changes.{across, bit_across, bits_turned}

-- the first slot that holds y is the slot of y
the_slot : (d : Design) (forest : ℕ → ℕ) (f y j : ℕ) (edge size : List ℕ) → Slots d forest f edge size → In d.m y → forest y ≡ f → FirstSlot f y edge j
    → (j < filled size f) × (slot edge f j ≡ y)
the_slot d forest f y j edge size s hy is_f first =
    let k = s.slot_of y hy is_f in
    let l : j ≤ k.0 = by_le j k.0 (λ h. h) (λ h. absurd (first.first k.0 h k.1.1)) in
    (omega (arith, k.1.0), first.holds (omega (arith, k.1.0, s.most)))

module _ (d : Design) (forest : ℕ → ℕ) (f x y j : ℕ) (hf : In 6 f) (hx : In d.m x) (unplaced : forest x ≡ 0) (is_f : forest y ≡ f)
    (arc : Arc d forest x y) (free : Loopless d (in_forest forest f)) (root way who edge size : List ℕ) (old : Tabled d forest root way who edge size)
    (long : Long edge) (inside : j < filled size f) (holds : slot edge f j ≡ y) where
  abbrev own : Set
  own = in_forest forest f

  is_on_path : Is (on_path d (in_forest forest f) x y)
  is_on_path = subst (λ (i : ℕ). Is (on_path d (in_forest forest i) x y)) is_f arc.is_on_path

  over : Is (spans d (in_forest forest f) x)
  over = path_spans d own x y is_on_path

  needed : ¬ (Is (spans d (in_forest forest f without y) x))
  needed = path_needs d own x y is_on_path

  new : ¬ (Is (in_forest forest f x))
  new i = omega (arith, forest_is forest f x i, unplaced, hf.low)

  same : (p q : ℕ) → joined d (in_forest forest f without y with x) p q ≡ joined d (in_forest forest f) p q
  same = swap_same d own x y hx over needed

  -- ---- the sets

  forest_own : in_forest (exchanged forest x y) f ≡ (in_forest forest f without y with x)
  forest_own = subst (λ (i : ℕ). in_forest (exchanged forest x y) i ≡ (in_forest forest i without y with x)) is_f (forest_swapped d forest x y unplaced hx arc)

  forest_else : (g : ℕ) → In 6 g → g ≢ f → in_forest (exchanged forest x y) g ≡ in_forest forest g
  forest_else g hg ne = forest_kept d forest x y unplaced hx arc g hg.low (λ q. ne (q ∙ is_f))

  in_own : (e : ℕ) → Is ((in_forest forest f without y with x) e) → exchanged forest x y e ≡ f
  in_own e h = forest_is (exchanged forest x y) f e (ap (λ (s : Set). s e) forest_own ∙ h)

  -- ---- the slots

  seats : Reseated d forest (exchanged forest x y) f j x edge size size
  seats =
      record {
        most = (old.slots f hf).most;
        inside = inside;
        edge_x = hx;
        comes = in_own x (with_self (own without y) x);
        stays =
            λ i l ne.
            let k = (old.slots f hf).edge_in i l in
            let not_y : slot edge f i ≢ y = λ q. ne ((old.slots f hf).once i j l inside (q ∙ sym holds)) in (
              l,
              (
                in_own (slot edge f i) (with_old (own without y) x (slot edge f i) (without_make own y (slot edge f i) (forest_make forest f (slot edge f i) k.1) not_y)),
                λ q. omega (arith, ap forest q, k.1, unplaced, hf.low),
              ),
            );
        keeps =
            λ e he q ne.
            ⊎_elim (λ z. absurd (ne z))
            (λ o.
            let k = (old.slots f hf).slot_of e he (forest_is forest f e (without_old own y e o)) in
            (k.0, (k.1.0, ((λ z. without_ne own y e o (sym k.1.1 ∙ ap (slot edge f) z ∙ holds)), k.1.1))))
            (with_elim (own without y) x e (sym (ap (λ (s : Set). s e) forest_own) ∙ forest_make (exchanged forest x y) f e q));
      }

  abbrev edge' : List ℕ
  edge' = set edge (start f + j) x

  abbrev seat : ℕ → ℕ
  seat i = seated edge' size f i

  -- the slot of y tells x, the others tell what they told, which is neither x nor y
  seat_new : seated (set edge (start f + j) x) size f j ≡ x
  seat_new = seated_new d forest (exchanged forest x y) f j x edge size size hf long (old.slots f hf) seats

  seat_old : (i : ℕ) → i ≢ j → seated (set edge (start f + j) x) size f i ≡ seated edge size f i
  seat_old = seated_old d forest (exchanged forest x y) f j x edge size size hf long (old.slots f hf) seats (λ i l. l)

  seat_not_x : (i : ℕ) → i ≢ j → seated (set edge (start f + j) x) size f i ≢ x
  seat_not_x = seated_other d forest (exchanged forest x y) f j x edge size size hf long (old.slots f hf) seats

  seat_not_y : (i : ℕ) → i ≢ j → seated (set edge (start f + j) x) size f i ≢ y
  seat_not_y i ne q =
      by_le (filled size f) i
      (λ l. omega (arith, seated_none edge size f i l, seat_old i ne, (path_edge d own x y is_on_path).low))
      (λ l. ne ((old.slots f hf).once i j l inside (sym (seat_old i ne ∙ seated_in edge size f i l) ∙ q ∙ sym holds)))

  -- ---- the words

  module _ (h1 : In 64 (d.one x)) (h2 : In 64 (d.other x)) (way' : List ℕ)
      (a : Applied (turned_by j (across (word way f (d.one x)) (word way f (d.other x)) j)) (start f) (λ _. true) way way') where
    abbrev told : (i z : ℕ) → Bool → Type 0
    told i z k =
        Tells d (own without y with x) z (changed (bits way f i) (bits way f j) ((bits way f i (d.one x) differs bits way f i (d.other x)) differs k))

    tells_y : Tells d (in_forest forest f) y (bits way f j)
    tells_y = subst (λ (z : ℕ). Tells d own z (bits way f j)) (seated_in edge size f j inside ∙ holds) (ways_tell d forest f way edge size (old.ways f hf) j)

    -- y is between the ends of x, so its bit does not change
    stays_bit : (p : ℕ) → bits way f j p ≡ changed (bits way f j) (bits way f j) ((bits way f j (d.one x) differs bits way f j (d.other x)) differs true) p
    unfolding spans
    stays_bit p =
        sym
        (ap (λ (k : Bool). bits way f j p differs (bits way f j p and (k differs true))) (tells_y (d.one x) (d.other x) h1 h2 over ∙ between_make d own y (d.one x) (d.other x) needed)
        ∙ ap (λ (k : Bool). bits way f j p differs (bits way f j p and k)) (differs_self true)
        ∙ ap (λ (k : Bool). bits way f j p differs k) (is_false (bits way f j p and false) (λ h. false≢true (and_r (bits way f j p) false h)))
        ∙ differs_comm (bits way f j p) false
        ∙ false_differs (bits way f j p))

    told_at : (i : ℕ) → told i (seat i) (i =? j)
    told_at i =
        by_eq i j
        (λ q.
        subst (λ (n : ℕ). told n (seat n) (n =? j)) (sym q)
        (subst₂ (told j) (sym seat_new) (sym (eq_is j j refl))
        (tells_same d (own without y with x) x (bits way f j) _ (λ p _. stays_bit p)
        (tells_in d own (loopless_acyclic d own free) x y hx new over needed (bits way f j) tells_y h1 h2 same))))
        (λ ne.
        subst (told i (seat i)) (sym (is_false (i =? j) (λ t. ne (eq_of i j t))))
        (subst (λ (k : Bool). Tells d (own without y with x) (seat i) (changed (bits way f i) (bits way f j) k))
        (sym (differs_comm _ false ∙ false_differs _))
        (tells_swapped d own (loopless_acyclic d own free) x y hx new over needed (bits way f j) tells_y h1 h2 same (seat i) (bits way f i)
        (seat_not_x i ne) (seat_not_y i ne)
        (subst (λ (z : ℕ). Tells d own z (bits way f i)) (sym (seat_old i ne)) (ways_tell d forest f way edge size (old.ways f hf) i)))))

    ways_own : Ways d (exchanged forest x y) f way' (set edge (start f + j) x) size
    ways_own =
        tell_ways d (exchanged forest x y) f way' edge' size
        (λ i.
        subst (λ (s : Set). Tells d s (seat i) (bits way' f i)) (sym forest_own)
        (tells_same d (own without y with x) (seat i) _ (bits way' f i)
        (λ p h.
        sym
        (bits_turned f (across (word way f (d.one x)) (word way f (d.other x)) j) way way' j a i p h
        ∙ ap (λ (k : Bool). changed (bits way f i) (bits way f j) k p) (bit_across (word way f (d.one x)) (word way f (d.other x)) j i)))
        (told_at i)))

    -- ---- all of them

    pub tabled_exchanged : Tabled d (exchanged forest x y) root way' who (set edge (start f + j) x) size
    tabled_exchanged =
        record {
          slots =
              λ g hg.
              by_eq g f
              (λ q.
              subst (λ (z : ℕ). Slots d (exchanged forest x y) z edge' size) (sym q)
              (reseated d forest (exchanged forest x y) f j x edge size size hf long (old.slots f hf) seats))
              (λ ne. slots_else d forest (exchanged forest x y) g (forest_else g hg ne) edge edge' size size (edges g hg ne) refl (old.slots g hg));
          labels =
              λ g hg.
              by_eq g f
              (λ q.
              subst (λ (z : ℕ). Labels d (in_forest (exchanged forest x y) z) z root who) (sym q)
              (subst (λ (s : Set). Labels d s f root who) (sym forest_own) (labels_same (old.labels f hf))))
              (λ ne. labels_else d forest (exchanged forest x y) g (forest_else g hg ne) root root who who (λ t l. refl) (λ t l. refl) (old.labels g hg));
          ways =
              λ g hg.
              by_eq g f (λ q. subst (λ (z : ℕ). Ways d (exchanged forest x y) z way' edge' size) (sym q) ways_own)
              (λ ne.
              ways_else d forest (exchanged forest x y) g (forest_else g hg ne) edge edge' size size (edges g hg ne) refl (old.slots g hg) way way'
              (λ t l. a.else (start g + t) (other_row f g hf hg ne t l)) (old.ways g hg));
        }
      where
        edges : (g : ℕ) → In 6 g → g ≢ f → SameRow g edge edge'
        edges g hg ne t l =
            get_or-set_other edge (start f + j) (start g + t) x 0 (other_row f g hf hg ne t l j (omega (arith, inside, (old.slots f hf).most)))

        labels_same : Labels d own f root who → Labels d (own without y with x) f root who
        labels_same l =
            record {
              small = l.small;
              same = λ p q hp hq. l.same p q hp hq ∙ sym (same p q);
              bodies = λ p q hp hq. l.bodies p q hp hq ∙ sym (same p q);
            }

-- ---- what `swap` promises

module _ (f u v x y j : ℕ) (way edge way' : List ℕ) (path one : ℕ) (r : Swappable f u v) (way_long : Long way) (edge_long : Long edge) (first : FirstSlot f y edge j)
    (is_path : path ≡ bit_xor (word way f u) (word way f v)) (is_one : one ≡ 2 ^ j)
    (a : Applied (turned_by j (bit_xor path one)) (start f) (λ _. true) way way') where
  -- what was done, as it is said of the ends of an edge
  record Given (p q : ℕ) : Type 0 where
    p_body : In 64 p
    q_body : In 64 q
    applied : Applied (turned_by j (across (word way f p) (word way f q) j)) (start f) (λ _. true) way way'

  pub swapped : Swapped f u v x y way edge way' (set edge (start f + j) x)
  swapped =
      record {
        way_long = a.as_long ∙ way_long;
        edge_long = length-set edge _ x ∙ edge_long;
        tabled =
            λ d forest root who size hx unplaced is_u is_v is_f arc free old.
            let g : Given (d.one x) (d.other x) =
            subst₂ Given (sym is_u) (sym is_v)
            (record {
              p_body = r.one;
              q_body = r.other;
              applied = subst₂ (λ (p o : ℕ). Applied (turned_by j (bit_xor p o)) (start f) (λ _. true) way way') is_path is_one a;
            }) in
            let k =
            the_slot d forest f y j edge size (old.slots f r.forest) (path_edge d (in_forest forest (forest y)) x y arc.is_on_path) is_f first in
            tabled_exchanged d forest f x y j r.forest hx unplaced is_f arc free root way who edge size old edge_long k.0 k.1 g.p_body
            g.q_body way' g.applied;
      }
