-- The scan, edge by edge. After e edges each of them obeys its rule, and the tables hold the forests of these (`Scanning`). The next edge
-- obeys its rule exactly when its numbers are fine and its forest does not join its ends: the chains of smaller edges are the
-- forest so far. So planting it goes on, or tells the first edge that breaks its rule.
-- Assumes nothing.
use mathlib.Core.Path.{◌≡◌, refl, sym, ◌∙◌, subst}
use mathlib.Core.Bool.{Bool, true, false, false≢true}
use Rattle.std.specs.Prelude.{Some, None}
use Prim.Native.Nat.{ℕ, suc, ◌+◌, ◌≤◌, ◌<◌}
use native.Mathlib.Numerals.{add-one}
use native.Mathlib.Omega.{arith}
use lib.ListN.{get_or}
use Rattle.rule.specs.declared.Book.{Book}
use Rattle.rule.specs.declared.Edge.{Edge}
use Rattle.rule.specs.Sets.{Is, In, below, at}
use Rattle.rule.specs.Forests.{Chain, in_forest, limit, Permitted, NoneCloses}
use Rattle.rule.specs.Books.{the_edge, edge_of, design_of, forest_of, HeadRule, EdgeRule}
use Rattle.rule.proofs.Tests.{eq_of, in_split, below_in, below_lt, below_make}
use Rattle.rule.proofs.Loops.{chain_mono, none_closes_loopless}
use Rattle.theory.specs.Joined.{joined, spans}
use Rattle.theory.proofs.Joined.Chains.{joined_chain, chain_joined}
use Rattle.theory.proofs.Joined.Acyclic.{Acyclic, loopless_acyclic}
use Rattle.theory.proofs.Legal.Kept.{forest_make}
use Rattle.tables.specs.declared.Tables.{Tables}
use Rattle.tables.specs.Tables.{label}
use Rattle.tables.specs.Held.{Holds}
use Rattle.planting.proofs.Few.{room_left}
use Rattle.labels.specs.Labels.{Begun}
use Rattle.book.specs.Scan.{EdgeFine, Plantable, EdgePlanted, Cleared, Scanned}
use Rattle.book.proofs.Edges.{permits_most}
use Rattle.book.proofs.UpTo.{up_to, upto_past, upto_most, upto_stands, upto_below, below_upto, upto_more, tabled_none, tabled_all}

-- edge i + 1 and its forest, as the scan reads them
abbrev pub edge_read : Book → (i : ℕ) → Edge
edge_read B i = the_edge (get_or B.ones i 0) (get_or B.others i 0) (get_or B.colours i 0)

abbrev pub FineAt : Book → (i : ℕ) → Type 0
FineAt B i = EdgeFine B (edge_read B i) (get_or B.forests i 0)

pub rule_fine : (B : Book) (i : ℕ) → EdgeRule B (suc i) → FineAt B i
unfolding edge_of design_of Permitted limit at
rule_fine B i r =
    record {
      one = r.range.one;
      other = r.range.other;
      different = r.range.different;
      permits = record { coloured = r.range.colour; limited = r.permitted };
    }

pub fine_rule : (B : Book) (i : ℕ) → FineAt B i
    → (1 ≤ forest_of B (suc i) → ¬ Chain (design_of B) (below (in_forest (forest_of B) (forest_of B (suc i))) (suc i)) (at B.ones (suc i)) (at B.others (suc i)))
    → EdgeRule B (suc i)
unfolding edge_of design_of Permitted limit at
fine_rule B i r none =
    record {
      range = record { one = r.one; other = r.other; different = r.different; colour = r.permits.coloured };
      permitted = r.permits.limited;
      closes_none = none;
    }

pub record Scanning (B : Book) (e : ℕ) (T : Tables) : Type 0 where
  pub most : e ≤ B.count
  pub obey : (i : ℕ) → In e i → EdgeRule B i
  pub tabled : Holds (design_of B) (up_to (forest_of B) e) T

pub scanning_none : (B : Book) (T : Tables) → Begun T.labels.root T.labels.who → Cleared T.size → Scanning B 0 T
scanning_none B T begun clear =
    record {
      most = omega arith;
      obey = λ i h. absurd (omega (arith, h.low, h.high));
      tabled = tabled_none (design_of B) (forest_of B) T.labels.root T.way T.labels.who T.edge T.size begun clear;
    }

module _ (B : Book) (e : ℕ) (T : Tables) (inv : Scanning B e T) where
  pub scanned_all : B.count ≤ e → Scanned B None T
  unfolding design_of
  scanned_all l = (
    λ i h. inv.obey i (omega (arith, h.low, h.high)),
    tabled_all (design_of B) (forest_of B) T.labels.root T.way T.labels.who T.edge T.size e l inv.tabled,
  )

  module _ (less : e < B.count) where
    -- the next edge breaks its rule
    pub breaks : (T' : Tables) → ¬ EdgeRule B (suc e) → Scanned B (Some (e + 1)) T'
    breaks T' not =
        subst (λ (z : ℕ). Scanned B (Some z) T') (sym (add-one e)) (omega arith, (not, λ i low high. inv.obey i (omega arith)))

    pub not_fine : ¬ FineAt B e → (T' : Tables) → Scanned B (Some (e + 1)) T'
    not_fine not T' = breaks T' (λ r. not (rule_fine B e r))

    -- ---- an edge whose numbers are fine

    module _ (head : HeadRule B) (fine : FineAt B e) where
      abbrev u : ℕ
      u = get_or B.ones e 0

      abbrev v : ℕ
      v = get_or B.others e 0

      abbrev f : ℕ
      f = get_or B.forests e 0

      abbrev so_far : ℕ → ℕ
      so_far = up_to (forest_of B) e

      -- the edges of a forest so far have no loop, and lie between bodies
      loop_free : (i : ℕ) → 1 ≤ i → Acyclic (design_of B) (in_forest (up_to (forest_of B) e) i)
      unfolding NoneCloses design_of
      loop_free i low =
          loopless_acyclic (design_of B) (in_forest so_far i)
          (none_closes_loopless (design_of B) (in_forest so_far i)
          (λ z hz t c.
          let most = upto_most (forest_of B) e i z low t in
          let stands = upto_stands (forest_of B) e i z low t in
          (inv.obey z (omega (arith, hz.low))).closes_none (omega arith)
          (subst (λ (j : ℕ). Chain (design_of B) (below (in_forest (forest_of B) j) z) (at B.ones z) (at B.others z)) (sym stands)
          (chain_mono (design_of B)
          (λ y _ b.
          below_make (in_forest (forest_of B) i) z y
          (forest_make (forest_of B) i y (upto_stands (forest_of B) e i y low (below_in (in_forest so_far i) z y b))) (below_lt (in_forest so_far i) z y b))
          c))))

      in_forests : get_or B.forests e 0 ≤ 6
      in_forests =
          omega (
            arith,
            head.profile.0.high,
            head.profile.1.high,
            permits_most B.a B.b (get_or B.colours e 0) (get_or B.forests e 0) fine.permits,
          )

      edge_next : In (design_of B).m (suc e)
      unfolding design_of
      edge_next = omega arith

      -- what planting needs: there is room where the ends have two labels
      pub plantable : Plantable (edge_read B e) (get_or B.forests e 0) T
      unfolding edge_of design_of spans at
      plantable =
          let bodies = head.bodies.high in
          record {
            one = omega (arith, fine.one);
            other = omega (arith, fine.other);
            most = in_forests;
            small = λ low x h. (inv.tabled.labels f (omega (arith, in_forests))).small x h;
            room =
                λ low ne.
                let hf : In 6 f = omega (arith, in_forests) in
                room_left (design_of B) so_far f (suc e) T.edge T.size (inv.tabled.slots f hf) head.bodies
                (λ z hz t. let r = (inv.obey z (omega (arith, hz.low, upto_most (forest_of B) e f z low t))).range in (r.one, r.other)) (loop_free f low) edge_next
                (fine.one, fine.other)
                (λ h. ne (eq_of (label T.labels.root f u) (label T.labels.root f v) ((inv.tabled.labels f hf).same u v (omega (arith, fine.one)) (omega (arith, fine.other)) ∙ h)));
          }

      module _ (T' : Tables) (answer : Bool) (out : EdgePlanted (edge_read B e) (get_or B.forests e 0) (e + 1) T T' answer) where
        -- the edge closes a loop: a chain of smaller edges of its forest joins its ends
        pub stops : answer ≡ false → Scanned B (Some (e + 1)) T'
        unfolding at
        stops h =
            let loop = out.closes (λ t. false≢true (sym h ∙ t)) in
            breaks T'
            (λ r.
            r.closes_none loop.0
            (chain_mono (design_of B) (upto_below (forest_of B) e (design_of B).m f loop.0)
            (joined_chain (design_of B) (in_forest so_far f) u v (loop.1 (design_of B) so_far inv.tabled))))

        more_tables : Is answer
            → Holds (design_of B) (up_to (forest_of B) (suc e)) T' × (1 ≤ f → ¬ (Is (joined (design_of B) (in_forest so_far f) u v)))
        unfolding design_of at
        more_tables h =
            let p = subst (λ (z : ℕ). EdgePlanted (edge_read B e) f z T T' answer) (add-one e) out in
            let new = p.tabled h (design_of B) so_far edge_next (upto_past (forest_of B) e (suc e) (omega arith)) refl refl inv.tabled in
            (subst (λ (g : ℕ → ℕ). Holds (design_of B) g T') (sym (upto_more (forest_of B) e)) new.0, new.1)

        pub scanning_more : answer ≡ true → Scanning B (e + 1) T'
        unfolding design_of at
        scanning_more h =
            let new = more_tables h in
            subst (λ (z : ℕ). Scanning B z T') (sym (add-one e))
            (record {
              most = less;
              obey =
                  λ i k.
                  in_split e i k (inv.obey i)
                  (λ q.
                  subst (EdgeRule B) (sym q)
                  (fine_rule B e fine
                  (λ low c.
                  new.1 low
                  (chain_joined (design_of B) (in_forest so_far f) u v (chain_mono (design_of B) (below_upto (forest_of B) e (design_of B).m f) c)))));
              tabled = new.0;
            })
