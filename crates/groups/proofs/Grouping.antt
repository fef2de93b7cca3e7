-- The group list of a sound book. With limit k for every edge the greatest closed set is theory's `rigid_core`, and two bodies are in one
-- rigid group exactly when it joins them in each of the forests 1 to k. So the list of those classes is the group list.
-- Assumes nothing.
use mathlib.Core.Path.{◌≡◌, refl, sym, ap, ◌∙◌, subst, subst₂, fun_ext}
use mathlib.Core.Bool.{Bool, true, false, cond}
use mathlib.Core.List.{List}
use Prim.Native.Nat.{ℕ, zero, suc, ◌+◌, ◌≤◌}
use native.Mathlib.Omega.{arith}
use lib.ListN.{length, take}
use lib.Seq.{length-take-le, get_or-take}
use Rattle.rule.specs.declared.Book.{Book}
use Rattle.std.specs.Prelude.{Ok}
use Rattle.rule.specs.Sets.{Set, In, at}
use Rattle.rule.specs.Legal.{Design, Ends, k}
use Rattle.rule.specs.Forests.{limit, kept_in, Arranged}
use Rattle.rule.specs.Figures.{GroupLead, Groups}
use Rattle.rule.specs.Books.{design_of, forest_of, Sound}
use Rattle.rule.specs.Calls.{Grouped}
use Rattle.rule.proofs.Places.{at_suc}
use Rattle.theory.specs.Closed.{greatest}
use Rattle.theory.specs.Groups.{joined_in_all, rigid_core, core}
use Rattle.theory.proofs.Legal.Sound.{sound_head, sound_ends, sound_arranged}
use Rattle.theory.proofs.Groups.Share.{group_iff}
use Rattle.groups.specs.Lent.{Lent, Coloured, GroupsGiven, limits}
use Rattle.groups.specs.Classes.{ClassesListed, Classes}

-- ---- one limit for all

limits_one : (d : Design) (j : ℕ) → limits d j j ≡ (λ _. j)
unfolding limits
limits_one d j = fun_ext (λ e. either (d.red e))
  where
    either : (t : Bool) → cond t j j ≡ j
    either true = refl
    either false = refl

rigid : (d : Design) (forest : ℕ → ℕ) → greatest d forest (limits d (k d) (k d)) ≡ rigid_core d forest
unfolding rigid_core
rigid d forest = ap (greatest d forest) (limits_one d (k d))

-- with each edge's own limit it is the set that request #102 asks for
pub own_limits : (d : Design) (forest : ℕ → ℕ) → greatest d forest (limits d d.a (k d)) ≡ core d forest
unfolding core limits limit
own_limits d forest = refl

-- ---- the list

at_take : (n u : ℕ) (list : List ℕ) → In n u → at (take n list) u ≡ at list u
at_take n zero list h = absurd (omega arith)
at_take n (suc u) list h = at_suc (take n list) u ∙ get_or-take n list u 0 h.high ∙ sym (at_suc list u)

-- the list of the classes of `rigid_core` over all forests is the group list
module _ (d : Design) (ends : Ends d) (forest : ℕ → ℕ) (arr : Arranged d forest) (some : 1 ≤ k d) (before after : List ℕ) (room : d.n ≤ length before)
    (l : ClassesListed (joined_in_all d forest (rigid_core d forest) (k d)) d.n before after) where
  leads : (u : ℕ) → In d.n u → GroupLead d (kept_in d forest) u (at (take d.n after) u)
  leads u h =
      let lead = l.leads u h in
      subst (GroupLead d (kept_in d forest) u) (sym (at_take d.n u after h))
      (record {
        body = lead.body;
        in_group = (group_iff d ends forest arr u (at after u) h lead.body some).1 lead.is_near;
        smallest = λ v hv g. lead.smallest v hv ((group_iff d ends forest arr u v h hv some).0 g);
      })

  pub listed_groups : Groups d (kept_in d forest) (take d.n after)
  listed_groups = record { as_long = length-take-le d.n after (omega (arith, l.as_long)); leads = leads }

-- ---- a sound book

module _ (B : Book) (sound : Sound B) where
  -- k is at most 6
  pub forests_few : B.a + B.b ≤ 6
  forests_few = let head = sound_head B sound in omega (arith, head.profile.0.high, head.profile.1.high)

  pub book_lent : Lent (design_of B) B.count B.ones B.others
  unfolding design_of
  book_lent =
      let head = sound_head B sound in
      record {
        edges = refl;
        most = head.edges;
        one = refl;
        other = refl;
        bodies = head.bodies.high;
        few = forests_few;
        ends = sound_ends B sound;
      }

  pub book_coloured : Coloured (design_of B) B.colours
  unfolding design_of
  book_coloured = refl

  pub book_given : GroupsGiven B.count B.ones B.others B.forests
  book_given = record { design = design_of B; lent = book_lent; arranged = sound_arranged B sound }

  -- what `classes` lists with limit k, and over k forests, is what a call for the group list answers
  pub classes_grouped : (before after : List ℕ) → 64 ≤ length before → (j n : ℕ) → j ≡ B.a + B.b → n ≡ B.n
      → Classes B.count B.ones B.others B.colours B.forests j j j n before after → Grouped B before after (Ok tt)
  unfolding design_of
  classes_grouped before after room j n at_j at_n c =
      let head = sound_head B sound in
      let d = design_of B in
      let l : ClassesListed (joined_in_all d (forest_of B) (rigid_core d (forest_of B)) (k d)) B.n before after =
      subst (λ (s : Set). ClassesListed (joined_in_all d (forest_of B) s (k d)) B.n before after) (rigid d (forest_of B))
      (subst₂ (λ (j n : ℕ). ClassesListed (joined_in_all d (forest_of B) (greatest d (forest_of B) (limits d j j)) j) n before after) at_j at_n
      (c d book_lent book_coloured (sound_arranged B sound))) in (
        (sound, (room, tt)),
        listed_groups d (sound_ends B sound) (forest_of B) (sound_arranged B sound) (omega (arith, head.profile.0.low)) before after
            (omega (arith, head.bodies.high)) l,
        l.past,
        l.as_long,
      )
