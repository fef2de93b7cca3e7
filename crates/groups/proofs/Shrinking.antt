-- Pass after pass: what is left lies between the greatest closed set and all kept edges (Thinning.antt), by the labels that each pass
-- plants. A pass that deletes none ends it: then what is left is the greatest closed set, and the labels are its own.
-- Assumes nothing.
use mathlib.Core.Path.{◌≡◌, refl, sym, ap, ◌∙◌, subst}
use mathlib.Core.Logic.{inl}
use mathlib.Core.Bool.{Bool, cond}
use mathlib.Core.List.{List}
use Prim.Native.Nat.{ℕ, ◌≤◌}
use native.Mathlib.Omega.{arith}
use lib.ListN.{length}
use Rattle.rule.specs.Sets.{Is, In, at}
use Rattle.rule.specs.Legal.{Design}
use Rattle.rule.specs.Forests.{Arranged}
use Rattle.labels.proofs.Carried.{row_kept, labels_carried}
use Rattle.groups.specs.Lent.{Lent, Coloured, GroupsGiven, limits}
use Rattle.groups.specs.Passes.{AllPlanted, stays, Thinned, Shrunk}
use Rattle.groups.proofs.Thinning.{held, Part, part_arranged, part_next, Between, between_all, between_next, stable_greatest, stable_joined}
use Rattle.groups.proofs.Judging.{thinned_none, thinned_same}
use Rattle.groups.proofs.Reading.{stays_held}

-- after some passes
pub record Shrinking (m : ℕ) (ones others colours : List ℕ) (red black : ℕ) (before left : List ℕ) : Type 0 where
  pub as_long : length left ≡ length before
  pub part : Part m (at before) (at left)
  pub between : (d : Design) → Lent d m ones others → Coloured d colours → Arranged d (at before)
      → Between d (at before) (limits d red black) (at left)

module _ {m : ℕ} {ones others colours : List ℕ} {red black : ℕ} {before : List ℕ} where
  pub shrinking_none : Shrinking m ones others colours red black before before
  shrinking_none = record { as_long = refl; part = λ e h. inl refl; between = λ d lent coloured arr. between_all d (at before) (limits d red black) }

  module _ {left : List ℕ} (s : Shrinking m ones others colours red black before left) where
    still_part : (d : Design) → Lent d m ones others → Part d.m (at before) (at left)
    still_part d lent = subst (λ (z : ℕ). Part z (at before) (at left)) (sym lent.edges) s.part

    still_arranged : (d : Design) → Lent d m ones others → Arranged d (at before) → Arranged d (at left)
    still_arranged d lent arr = part_arranged d (at before) (at left) (still_part d lent) arr

    -- what is left stands in forests too
    pub shrinking_given : GroupsGiven m ones others before → GroupsGiven m ones others left
    shrinking_given g =
        record { design = g.design; lent = g.lent; arranged = still_arranged g.design g.lent g.arranged }

    -- ---- a pass

    module _ (few_red : red ≤ 6) (few_black : black ≤ 6) {root who left' : List ℕ} {gone : ℕ} (p : AllPlanted m ones others left root who)
        (t : Thinned (stays root ones others colours red black) m left left' gone) where
      module _ (d : Design) (lent : Lent d m ones others) (coloured : Coloured d colours) (arr : Arranged d (at before)) where
        by_labels : (e : ℕ) → In d.m e → stays root ones others colours red black e ≡ held d (at left) (limits d red black) e
        by_labels e h =
            stays_held d m ones others colours lent coloured red black few_red few_black root who (at left)
            (p.labels d lent (still_arranged d lent arr)) e (omega (arith, lent.edges))

        judged : (e : ℕ) → In d.m e → at left' e ≡ cond (held d (at left) (limits d red black) e) (at left e) 0
        judged e h = t.left e (omega (arith, lent.edges)) ∙ ap (λ (b : Bool). cond b (at left e) 0) (by_labels e h)

      pub shrinking_next : Shrinking m ones others colours red black before left'
      shrinking_next =
          record {
            as_long = t.as_long ∙ s.as_long;
            part = part_next m (at before) (at left) (at left') (stays root ones others colours red black) t.left s.part;
            between =
                λ d lent coloured arr.
                between_next d (at before) (limits d red black) (at left) (s.between d lent coloured arr) (at left') (judged d lent coloured arr);
          }

      -- ---- the last pass

      module _ (none : gone ≡ 0) where
        stable : (d : Design) → Lent d m ones others → Coloured d colours → Arranged d (at before) → (e : ℕ) → In d.m e → 1 ≤ at left e
            → Is (held d (at left) (limits d red black) e)
        stable d lent coloured arr e h l =
            sym (by_labels d lent coloured arr e h) ∙ thinned_none t none e (omega (arith, lent.edges)) l

        pub shrinking_end : Shrunk m ones others colours red black before left' root who
        shrinking_end =
            record {
              as_long = t.as_long ∙ s.as_long;
              root_long = p.root_long;
              who_long = p.who_long;
              seated = p.seated;
              core =
                  λ d lent coloured arr.
                  let b = s.between d lent coloured arr in
                  record {
                    left = λ e h. thinned_same t none e (omega (arith, lent.edges)) ∙ stable_greatest d (at before) (limits d red black) (at left) b (stable d lent coloured arr) e h;
                    labels =
                        λ i h.
                        labels_carried d _ _ (stable_joined d (at before) (limits d red black) (at left) b (stable d lent coloured arr) i h.low) i root who root who
                        (row_kept i root) (row_kept i who) (p.labels d lent (still_arranged d lent arr) i h);
                  };
            }
