-- The labels of the forests, one edge after the other: after e edges root and who have the labels of those of the first e edges that
-- stand in each forest.
--
-- An edge that has no forest changes nothing. One that has a forest stands in two trees of it, since the forest has no loop; uniting
-- them gives the labels of one edge more, and the other forests have no edge more.
-- Assumes nothing.
use mathlib.Core.Path.{◌≡◌, sym, ap, ◌∙◌, subst, subst₂}
use mathlib.Core.Logic.{⊎_elim, ◌≢◌}
use mathlib.Core.List.{List}
use Prim.Native.Nat.{ℕ, suc, ◌+◌, ◌≤◌, ◌<◌}
use native.Mathlib.Numerals.{add-one}
use native.Mathlib.Omega.{arith}
use lib.ListN.{get_or}
use Rattle.rule.specs.Sets.{Is, Set, In, ◌with◌, below, at}
use Rattle.rule.specs.Legal.{Design, k}
use Rattle.rule.specs.Forests.{in_forest, NoneCloses, Permitted, Arranged}
use Rattle.rule.proofs.Tests.{by_eq, below_in, below_lt, below_make, with_self, with_old, with_elim}
use Rattle.rule.proofs.Places.{at_suc}
use Rattle.rule.proofs.Loops.{loopless_none_closes}
use Rattle.theory.specs.Joined.{joined}
use Rattle.theory.proofs.Joined.Chains.{joined_chain}
use Rattle.theory.proofs.Joined.Laws.{joined_agree}
use Rattle.theory.proofs.Legal.Kept.{forest_make, forest_is, limit_most}
use Rattle.tables.specs.Tables.{Labels}
use Rattle.labels.specs.Rows.{Long}
use Rattle.labels.specs.Labels.{Begun, ReadyToUnite, United}
use Rattle.labels.proofs.Carried.{row_kept, labels_carried, united_else}
use Rattle.groups.specs.Lent.{Lent, GroupsGiven}
use Rattle.groups.specs.Passes.{AllPlanted}
use Rattle.groups.proofs.Reading.{ends_tabled, labels_seated}

-- ---- one number more of a set

module _ (d : Design) (s : Set) where
  joined_next : (e : ℕ) → Is (s (suc e)) → (x y : ℕ) → joined d (below s (suc e) with suc e) x y ≡ joined d (below s (suc (suc e))) x y
  joined_next e i =
      joined_agree d (below s (suc e) with suc e) (below s (suc (suc e)))
      (λ g _ t.
      ⊎_elim (λ q. subst (λ (z : ℕ). Is (below s (suc (suc e)) z)) (sym q) (below_make s (suc (suc e)) (suc e) i (omega arith)))
      (λ o. below_make s (suc (suc e)) g (below_in s (suc e) g o) (omega (arith, below_lt s (suc e) g o))) (with_elim (below s (suc e)) (suc e) g t))
      (λ g _ t.
      by_eq g (suc e) (λ q. subst (λ (z : ℕ). Is ((below s (suc e) with suc e) z)) (sym q) (with_self (below s (suc e)) (suc e)))
      (λ ne.
      with_old (below s (suc e)) (suc e) g
      (below_make s (suc e) g (below_in s (suc (suc e)) g t) (omega (arith, below_lt s (suc (suc e)) g t)))))

  joined_past : (e : ℕ) → ¬ (Is (s (suc e))) → (x y : ℕ) → joined d (below s (suc e)) x y ≡ joined d (below s (suc (suc e))) x y
  joined_past e n =
      joined_agree d (below s (suc e)) (below s (suc (suc e)))
      (λ g _ t. below_make s (suc (suc e)) g (below_in s (suc e) g t) (omega (arith, below_lt s (suc e) g t)))
      (λ g _ t.
      let i = below_in s (suc (suc e)) g t in
      let ne : g ≢ suc e = λ q. n (subst (λ (z : ℕ). Is (s z)) q i) in
      below_make s (suc e) g i (omega (arith, below_lt s (suc (suc e)) g t)))

  joined_all : (x y : ℕ) → joined d (below s (suc d.m)) x y ≡ joined d s x y
  joined_all =
      joined_agree d (below s (suc d.m)) s (λ g _ t. below_in s (suc d.m) g t) (λ g h t. below_make s (suc d.m) g t (omega arith))

-- ---- the labels

module _ (d : Design) (forest : ℕ → ℕ) where
  -- the labels of those of the first e edges that stand in each forest
  abbrev pub Growing : ℕ → (root who : List ℕ) → Type 0
  Growing e root who = (i : ℕ) → In 6 i → Labels d (below (in_forest forest i) (suc e)) i root who

  pub growing_none : (root who : List ℕ) → Begun root who → Growing 0 root who
  growing_none root who b i hi =
      b.labels d (below (in_forest forest i) 1) (λ e h t. omega (arith, below_lt (in_forest forest i) 1 e t)) i hi

  -- an edge of a forest stands in two trees of those before it
  edge_apart : Arranged d forest → (i e : ℕ) → In (k d) i → In d.m e → forest e ≡ i
      → ¬ (Is (joined d (below (in_forest forest i) e) (d.one e) (d.other e)))
  unfolding NoneCloses
  edge_apart arr i e hi he q p =
      loopless_none_closes d (in_forest forest i) (arr.loopless i hi) e he (forest_make forest i e q)
      (joined_chain d (below (in_forest forest i) e) (d.one e) (d.other e) p)

  module _ (e : ℕ) (root who : List ℕ) (old : Growing e root who) where
    -- edge e + 1 does not stand in forest i
    not_here : (i : ℕ) → forest (suc e) ≢ i → ¬ (Is (in_forest forest i (suc e)))
    not_here i ne t = ne (forest_is forest i (suc e) t)

    pub growing_past : forest (suc e) ≡ 0 → Growing (suc e) root who
    growing_past none i hi =
        labels_carried d _ _ (joined_past d (in_forest forest i) e (not_here i (omega arith))) i root who root who (row_kept i root) (row_kept i who)
        (old i hi)

    pub growing_more : Arranged d forest → In d.m (suc e) → (f u v word : ℕ) (root' who' : List ℕ) → forest (suc e) ≡ f → d.one (suc e) ≡ u
        → d.other (suc e) ≡ v → In 6 f → In (k d) f → United f u v root who root' who' word → Growing (suc e) root' who'
    growing_more arr he f u v word root' who' stands one other hf hk un i hi =
        by_eq i f (λ q. subst (λ (z : ℕ). Labels d (below (in_forest forest z) (suc (suc e))) z root' who') (sym q) here)
        (λ ne.
        united_else d _ _ (joined_past d (in_forest forest i) e (not_here i (λ q. ne (sym q ∙ stands)))) i f u v word root who root' who' hf hi ne un
        (old i hi))
      where
        here : Labels d (below (in_forest forest f) (suc (suc e))) f root' who'
        here =
            labels_carried d _ _ (joined_next d (in_forest forest f) e (forest_make forest f (suc e) stands)) f root' who' root' who' (row_kept f root')
            (row_kept f who')
            (un.labels d (below (in_forest forest f) (suc e)) (suc e) he one other (old f hf)
            (λ p.
            edge_apart arr f (suc e) hk he stands
            (subst₂ (λ (x y : ℕ). Is (joined d (below (in_forest forest f) (suc e)) x y)) (sym one) (sym other) p)))

  pub growing_all : (root who : List ℕ) → Growing d.m root who → (i : ℕ) → In 6 i → Labels d (in_forest forest i) i root who
  growing_all root who old i hi =
      labels_carried d _ _ (joined_all d (in_forest forest i)) i root who root who (row_kept i root) (row_kept i who) (old i hi)

-- ---- the arrays

-- the first e edges are planted
pub record Grows (m : ℕ) (ones others forests root who : List ℕ) (e : ℕ) : Type 0 where
  pub within : e ≤ m
  pub root_long : Long root
  pub who_long : Long who
  pub labels : (d : Design) → Lent d m ones others → Arranged d (at forests) → Growing d (at forests) e root who

-- an edge that has a forest has one of 1 to k
placed : (d : Design) (forest : ℕ → ℕ) → Arranged d forest → (e : ℕ) → In d.m e → forest e ≢ 0 → In (k d) (forest e)
unfolding Permitted
placed d forest arr e h ne = omega (arith, arr.permitted e h, limit_most d e)

-- what the code reads of the edge at index e
pub record Read (ones others forests : List ℕ) (e f u v : ℕ) : Type 0 where
  pub forest : f ≡ get_or forests e 0
  pub one : u ≡ get_or ones e 0
  pub other : v ≡ get_or others e 0

module _ {m : ℕ} {ones others forests : List ℕ} where
  pub grows_none : {root who : List ℕ} → Begun root who → Grows m ones others forests root who 0
  grows_none {root} {who} b =
      record {
        within = omega arith;
        root_long = b.root_long;
        who_long = b.who_long;
        labels = λ d lent arr. growing_none d (at forests) root who b;
      }

  module _ {root who : List ℕ} {e : ℕ} (g : Grows m ones others forests root who e) where
    pub grows_all : GroupsGiven m ones others forests → m ≤ e → AllPlanted m ones others forests root who
    grows_all given l =
        record {
          root_long = g.root_long;
          who_long = g.who_long;
          seated = labels_seated given.design _ root who (all given.design given.lent given.arranged);
          labels = all;
        }
      where
        all : (d : Design) → Lent d m ones others → Arranged d (at forests) → (i : ℕ) → In 6 i → Labels d (in_forest (at forests) i) i root who
        all d lent arr =
            growing_all d (at forests) root who
            (subst (λ (z : ℕ). Growing d (at forests) z root who) (omega (arith, g.within, lent.edges)) (g.labels d lent arr))

    module _ (less : e < m) where
      -- the next edge, by its number and by its index
      next : (root' who' : List ℕ) → Long root' → Long who'
          → ((d : Design) → Lent d m ones others → Arranged d (at forests) → Growing d (at forests) (suc e) root' who')
          → Grows m ones others forests root' who' (e + 1)
      next root' who' rl wl f =
          subst (Grows m ones others forests root' who') (sym (add-one e)) (record { within = omega arith; root_long = rl; who_long = wl; labels = f })

      pub grows_past : get_or forests e 0 ≡ 0 → Grows m ones others forests root who (e + 1)
      grows_past none =
          next root who g.root_long g.who_long
          (λ d lent arr. growing_past d (at forests) e root who (g.labels d lent arr) (at_suc forests e ∙ none))

      -- an edge that has a forest
      module _ (given : GroupsGiven m ones others forests) {f u v : ℕ} (read : Read ones others forests e f u v) (some : f ≢ 0) where
        in_forests : (d : Design) → Lent d m ones others → Arranged d (at forests) → In (k d) f
        in_forests d lent arr =
            let q : at forests (suc e) ≡ f = at_suc forests e ∙ sym read.forest in
            subst (In (k d)) q (placed d (at forests) arr (suc e) (omega (arith, lent.edges)) (omega arith))

        pub grows_ready : ReadyToUnite f u v root
        grows_ready =
            let ends = ends_tabled given.design m ones others given.lent (suc e) (omega arith) in
            let hf : In 6 f = omega (arith, in_forests given.design given.lent given.arranged, given.lent.few) in
            let hu = subst (In 64) (at_suc ones e ∙ sym read.one) ends.0 in
            let hv = subst (In 64) (at_suc others e ∙ sym read.other) ends.1 in
            let labels = g.labels given.design given.lent given.arranged f hf in
            record {
              forest = hf;
              one = hu;
              other = hv;
              one_label = labels.small u hu;
              other_label = labels.small v hv;
            }

        pub grows_more : {root' who' : List ℕ} {word : ℕ} → United f u v root who root' who' word → Grows m ones others forests root' who' (e + 1)
        grows_more {root'} {who'} {word} un =
            next root' who' un.root_long un.who_long
            (λ d lent arr.
            growing_more d (at forests) e root who (g.labels d lent arr) arr (omega (arith, lent.edges)) f u v word root' who'
            (at_suc forests e ∙ sym read.forest) (ap (λ (h : ℕ → ℕ). h (suc e)) lent.one ∙ at_suc ones e ∙ sym read.one)
            (ap (λ (h : ℕ → ℕ). h (suc e)) lent.other ∙ at_suc others e ∙ sym read.other) grows_ready.forest (in_forests d lent arr) un)
