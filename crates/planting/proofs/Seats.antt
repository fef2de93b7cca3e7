-- The slots of a forest after one of them got another edge, and the tables of the forests that a change left alone.
--
-- In order: the edge that a bit tells; the slots after slot j got edge x; another forest's row, and what it holds.
-- Assumes nothing.
use mathlib.Core.Path.{◌≡◌, sym, ap, ◌∙◌, subst, subst₂}
use mathlib.Core.Logic.{◌↔◌, ◌≢◌}
use mathlib.Core.Bool.{Bool, cond, false≢true}
use mathlib.Core.List.{List}
use Prim.Native.Nat.{ℕ, ◌+◌, ◌-◌, ◌≤◌, ◌<◌}
use native.Mathlib.Omega.{arith}
use lib.ListN.{set}
use lib.Seq.{get_or-set_same, get_or-set_other}
use Rattle.rule.specs.Sets.{Is, isnt, ◌<?◌, Set, In}
use Rattle.rule.specs.Legal.{Design}
use Rattle.rule.specs.Forests.{in_forest}
use Rattle.rule.proofs.Tests.{cases, is_false, lt_of, lt_is, not_lt, by_eq, by_le, isnt_make, isnt_not, not_isnt}
use Rattle.theory.specs.Joined.{joined}
use Rattle.theory.proofs.Legal.Kept.{forest_make, forest_is}
use Rattle.words.specs.Bits.{bit}
use Rattle.words.proofs.Bits.{◌differs◌, differs_same, same_differs}
use Rattle.tables.specs.Tables.{start, word, slot, filled, Slots, Labels, Ways}
use Rattle.labels.specs.Rows.{Long}
use Rattle.labels.proofs.Carried.{SameRow, labels_carried}
use Rattle.planting.proofs.Between.{between}
use Rattle.planting.proofs.Tells.{Tells, tells_same, between_none}

-- ---- the edge that a bit tells

-- the edge in slot j, or 0 where the slot is not filled
abbrev pub seated : (edge size : List ℕ) (f j : ℕ) → ℕ
seated edge size f j = cond (j <? filled size f) (slot edge f j) 0

pub seated_in : (edge size : List ℕ) (f j : ℕ) → j < filled size f → seated edge size f j ≡ slot edge f j
seated_in edge size f j l = ap (λ (b : Bool). cond b (slot edge f j) 0) (lt_is _ _ l)

pub seated_none : (edge size : List ℕ) (f j : ℕ) → filled size f ≤ j → seated edge size f j ≡ 0
seated_none edge size f j l = ap (λ (b : Bool). cond b (slot edge f j) 0) (is_false (j <? filled size f) (λ t. omega (arith, lt_of j (filled size f) t)))

-- what bit j of the words says
abbrev pub bits : (way : List ℕ) (f j : ℕ) → ℕ → Bool
bits way f j x = bit (word way f x) j

differs_iff : (a b g : Bool) → (a differs b) ≡ isnt g → ((a ≡ b) ↔ Is g)
differs_iff a b g q = (
  λ e. not_isnt g (λ n. same_differs a b e (q ∙ n)),
  λ h. differs_same a b (λ t. isnt_not g (sym q ∙ t) h),
)

iff_differs : (a b g : Bool) → ((a ≡ b) ↔ Is g) → (a differs b) ≡ isnt g
iff_differs a b g w =
    cases g (λ h. is_false (a differs b) (same_differs a b (w.1 h)) ∙ sym (is_false (isnt g) (λ t. isnt_not g t h)))
    (λ n. cases (a differs b) (λ t. t ∙ sym (isnt_make g n)) (λ t. absurd (n (w.0 (differs_same a b t)))))

module _ (d : Design) (forest : ℕ → ℕ) (f : ℕ) (way edge size : List ℕ) where
  pub ways_tell : Ways d forest f way edge size → (j : ℕ) → Tells d (in_forest forest f) (seated edge size f j) (bits way f j)
  unfolding between
  ways_tell w j x y hx hy h =
      cases (j <? filled size f)
      (λ l.
      subst (λ (z : ℕ). (bits way f j x differs bits way f j y) ≡ between d (in_forest forest f) z x y) (sym (seated_in edge size f j (lt_of _ _ l)))
      (iff_differs _ _ _ (w.paths x y j hx hy (lt_of _ _ l) h)))
      (λ n.
      let l : filled size f ≤ j = not_lt j (filled size f) n in
      subst (λ (z : ℕ). (bits way f j x differs bits way f j y) ≡ between d (in_forest forest f) z x y) (sym (seated_none edge size f j l))
      (is_false _ (same_differs _ _ (w.rest x y j hx hy l h)) ∙ sym (between_none d (in_forest forest f) x y h)))

  pub tell_ways : ((j : ℕ) → Tells d (in_forest forest f) (seated edge size f j) (bits way f j)) → Ways d forest f way edge size
  unfolding between
  tell_ways tells =
      record {
        paths =
            λ x y j hx hy l h.
            differs_iff _ _ _
            (tells j x y hx hy h ∙ ap (λ (z : ℕ). between d (in_forest forest f) z x y) (seated_in edge size f j l));
        rest =
            λ x y j hx hy l h.
            differs_same _ _
            (λ t.
            false≢true
            (sym
            (tells j x y hx hy h
            ∙ ap (λ (z : ℕ). between d (in_forest forest f) z x y) (seated_none edge size f j l)
            ∙ between_none d (in_forest forest f) x y h)
            ∙ t));
      }

-- ---- slot j got edge x

-- what is to be shown of the forests afterwards
pub record Reseated (d : Design) (forest forest' : ℕ → ℕ) (f j x : ℕ) (edge size size' : List ℕ) : Type 0 where
  pub most : filled size' f ≤ 63
  pub inside : j < filled size' f
  pub edge_x : In d.m x
  pub comes : forest' x ≡ f
  -- the other slots were filled, and hold other edges of the forest
  pub stays : (i : ℕ) → i < filled size' f → i ≢ j → (i < filled size f) × ((forest' (slot edge f i) ≡ f) × (slot edge f i ≢ x))
  -- the other edges of the forest stood in other slots
  pub keeps : (e : ℕ) → In d.m e → forest' e ≡ f → e ≢ x → (i : ℕ) × ((i < filled size' f) × ((i ≢ j) × (slot edge f i ≡ e)))

module _ (d : Design) (forest forest' : ℕ → ℕ) (f j x : ℕ) (edge size size' : List ℕ) (hf : In 6 f) (long : Long edge)
    (old : Slots d forest f edge size) (r : Reseated d forest forest' f j x edge size size') where
  abbrev after : List ℕ
  after = set edge (start f + j) x

  pub slot_new : slot (set edge (start f + j) x) f j ≡ x
  slot_new = get_or-set_same edge (start f + j) x 0 (omega (arith, r.most, r.inside))

  pub slot_old : (i : ℕ) → i ≢ j → slot (set edge (start f + j) x) f i ≡ slot edge f i
  slot_old i ne = get_or-set_other edge (start f + j) (start f + i) x 0 (omega arith)

  pub reseated : Slots d forest' f (set edge (start f + j) x) size'
  reseated =
      record {
        most = r.most;
        edge_in =
            λ i l.
            by_eq i j
            (λ q. subst (λ (z : ℕ). In d.m (slot after f z) × (forest' (slot after f z) ≡ f)) (sym q) (subst (λ (z : ℕ). In d.m z × (forest' z ≡ f)) (sym slot_new) (r.edge_x, r.comes)))
            (λ ne.
            let k = r.stays i l ne in
            subst (λ (z : ℕ). In d.m z × (forest' z ≡ f)) (sym (slot_old i ne)) ((old.edge_in i k.0).0, k.1.0));
        slot_of =
            λ e he q.
            by_eq e x (λ z. (j, (r.inside, slot_new ∙ sym z)))
            (λ ne. let k = r.keeps e he q ne in (k.0, (k.1.0, slot_old k.0 k.1.1.0 ∙ k.1.1.1)));
        once =
            λ a b la lb q.
            by_eq a j (λ za. by_eq b j (λ zb. za ∙ sym zb) (λ nb. absurd ((r.stays b lb nb).1.1 (sym (slot_old b nb) ∙ sym q ∙ ap (λ (z : ℕ). slot after f z) za ∙ slot_new))))
            (λ na.
            by_eq b j (λ zb. absurd ((r.stays a la na).1.1 (sym (slot_old a na) ∙ q ∙ ap (λ (z : ℕ). slot after f z) zb ∙ slot_new)))
            (λ nb. old.once a b (r.stays a la na).0 (r.stays b lb nb).0 (sym (slot_old a na) ∙ q ∙ slot_old b nb)));
      }

  -- ---- what the bits tell

  pub seated_new : seated (set edge (start f + j) x) size' f j ≡ x
  seated_new = seated_in after size' f j r.inside ∙ slot_new

  -- no other slot was emptied
  pub seated_old : ((i : ℕ) → i < filled size f → i < filled size' f) → (i : ℕ) → i ≢ j
      → seated (set edge (start f + j) x) size' f i ≡ seated edge size f i
  seated_old kept i ne =
      by_le (filled size' f) i
      (λ l.
      seated_none after size' f i l
      ∙ sym (seated_none edge size f i (by_le (filled size f) i (λ k. k) (λ k. absurd (omega (arith, kept i k))))))
      (λ l. seated_in after size' f i l ∙ slot_old i ne ∙ sym (seated_in edge size f i (r.stays i l ne).0))

  pub seated_other : (i : ℕ) → i ≢ j → seated (set edge (start f + j) x) size' f i ≢ x
  seated_other i ne q =
      by_le (filled size' f) i (λ l. omega (arith, seated_none after size' f i l, r.edge_x.low))
      (λ l. (r.stays i l ne).1.1 (sym (seated_in after size' f i l ∙ slot_old i ne) ∙ q))

-- ---- another forest

module _ (d : Design) (forest forest' : ℕ → ℕ) (g : ℕ) (same : in_forest forest' g ≡ in_forest forest g) where
  stood : (e : ℕ) → forest' e ≡ g → forest e ≡ g
  stood e q = forest_is forest g e (ap (λ (s : Set). s e) (sym same) ∙ forest_make forest' g e q)

  stands : (e : ℕ) → forest e ≡ g → forest' e ≡ g
  stands e q = forest_is forest' g e (ap (λ (s : Set). s e) same ∙ forest_make forest g e q)

  module _ (edge edge' size size' : List ℕ) (edges : SameRow g edge edge') (sizes : filled size' g ≡ filled size g) (old : Slots d forest g edge size) where
    pub slots_else : Slots d forest' g edge' size'
    slots_else =
        record {
          most = omega (arith, old.most);
          edge_in =
              λ j l.
              let k = old.edge_in j (omega arith) in
              subst (λ (z : ℕ). In d.m z × (forest' z ≡ g)) (sym (edges j (omega (arith, old.most)))) (k.0, stands (slot edge g j) k.1);
          slot_of =
              λ e he q.
              let k = old.slot_of e he (stood e q) in
              let l = k.1.0 in
              (k.0, (omega arith, edges k.0 (omega (arith, old.most)) ∙ k.1.1));
          once =
              λ i j li lj q.
              old.once i j (omega arith) (omega arith) (sym (edges i (omega (arith, old.most))) ∙ q ∙ edges j (omega (arith, old.most)));
        }

    seated_else : (j : ℕ) → seated edge' size' g j ≡ seated edge size g j
    seated_else j =
        cases (j <? filled size g)
        (λ t.
        let l = lt_of _ _ t in
        seated_in edge' size' g j (omega arith) ∙ edges j (omega (arith, old.most)) ∙ sym (seated_in edge size g j l))
        (λ n.
        let l = not_lt j (filled size g) n in
        seated_none edge' size' g j (omega arith) ∙ sym (seated_none edge size g j l))

    pub ways_else : (way way' : List ℕ) → SameRow g way way' → Ways d forest g way edge size → Ways d forest' g way' edge' size'
    ways_else way way' ways w =
        tell_ways d forest' g way' edge' size'
        (λ j.
        subst₂ (λ (s : Set) (z : ℕ). Tells d s z (bits way' g j)) (sym same) (sym (seated_else j))
        (tells_same d (in_forest forest g) (seated edge size g j) (bits way g j) (bits way' g j)
        (λ x h. ap (λ (z : ℕ). bit z j) (sym (ways (x - 1) (omega arith)))) (ways_tell d forest g way edge size w j)))

  pub labels_else : (root root' who who' : List ℕ) → SameRow g root root' → SameRow g who who' → Labels d (in_forest forest g) g root who
      → Labels d (in_forest forest' g) g root' who'
  labels_else root root' who who' =
      labels_carried d (in_forest forest g) (in_forest forest' g) (λ x y. ap (λ (s : Set). joined d s x y) (sym same)) g root who root' who'
