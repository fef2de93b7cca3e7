-- The rigid groups in lists: the contract of `groups` says just what specs/BookBars.antt says of the lent list.
--
-- A set of bodies is a list of different bodies and the other way round, and both hold as many kept bars inside as kept edges (Inside.antt); so two
-- bodies share a group by a set exactly when they do by a list, and the smallest of a group is the same. The list has room for n numbers since n is at
-- most 64.
-- Not here: offer and question, which are in Exact.antt.
-- Assumes nothing.
use mathlib.Core.Path.{◌≡◌, sym, ap, ◌∙◌, subst, subst₂}
use mathlib.Core.Logic.{inl, inr, ⊎_elim, ◌↔◌}
use mathlib.Core.List.{List}
use Prim.Native.Nat.{ℕ, zero, suc, ◌+◌, ◌*◌, ◌-◌, ◌<◌}
use native.Mathlib.Omega.{arith}
use lib.ListN.{length, get_or, take}
use lib.Seq.{length-take-le, get_or-take}
use Rattle.std.specs.Prelude.{Ok}
use Rattle.rule.specs.declared.Book.{Book}
use Rattle.rule.specs.Sets.{In, at, numbers}
use Rattle.rule.specs.Figures.{Share, InGroup, GroupLead}
use Rattle.rule.specs.Books.{design_of, kept_of, Sound}
use Rattle.rule.specs.Reasons.{Pass, groups_checks}
use Rattle.rule.specs.Calls.{Grouped}
use Rattle.rule.proofs.Counting.{length_numbers}
use Rattle.rule.proofs.Places.{at_suc}
use Rattle.theory.proofs.Legal.Sound.{sound_head, sound_ends}
use Rattle.restated.specs.Bars.{Bar, HoldInside}
use Rattle.restated.specs.BookBars.{Rigid, Together, LeastTogether, ExactGroups}
use Rattle.restated.proofs.Members.{numbers_member}
use Rattle.restated.proofs.Bodies.{held_by, member_held, held_count, numbers_different}
use Rattle.restated.proofs.Inside.{inside_one_number, list_inside, set_inside}
use Rattle.restated.proofs.Kept.{own_bars}

module _ (B : Book) (sound : Sound B) where
  -- k·(m−1)
  abbrev full : ℕ → ℕ
  full m = (B.a + B.b) * (m - 1)

  share_rigid : (u v : ℕ) → In B.n u → In B.n v → Share (design_of B) (kept_of B) u v → Rigid B u v
  unfolding design_of
  share_rigid u v hu hv s =
      let w = s.bodies in
      record {
        bodies = numbers w B.n;
        different = numbers_different w B.n;
        holds_one = numbers_member w B.n u hu s.holds_one;
        holds_other = numbers_member w B.n v hv s.holds_other;
        exact =
            subst₂ (HoldInside (numbers w B.n)) (own_bars B) (s.exact ∙ ap full (sym (length_numbers w B.n)))
            (set_inside (design_of B) (sound_ends B sound) (kept_of B) w);
      }

  rigid_share : (u v : ℕ) → Rigid B u v → Share (design_of B) (kept_of B) u v
  unfolding design_of
  rigid_share u v r =
      let l = r.bodies in
      record {
        bodies = held_by l;
        holds_one = member_held l u r.holds_one;
        holds_other = member_held l v r.holds_other;
        exact =
            inside_one_number (list_inside (design_of B) (sound_ends B sound) (kept_of B) l)
            (subst (λ (bars : List Bar). HoldInside l bars (full (length l))) (sym (own_bars B)) r.exact)
            ∙ ap full (sym (held_count B.n l r.different));
      }

  pub together_iff : (u v : ℕ) → In B.n u → In B.n v → (InGroup (design_of B) (kept_of B) u v ↔ Together B u v)
  together_iff u v hu hv = (
    λ x. ⊎_elim (λ q. inl q) (λ s. inr (share_rigid u v hu hv s)) x,
    λ x. ⊎_elim (λ q. inl q) (λ r. inr (rigid_share u v r)) x,
  )

  leads_iff : (u lead : ℕ) → In B.n u → (GroupLead (design_of B) (kept_of B) u lead ↔ LeastTogether B u lead)
  unfolding design_of
  leads_iff u lead hu = (
    λ l.
        record {
          low = l.body.low;
          high = l.body.high;
          in_group = (together_iff u lead hu l.body).0 l.in_group;
          least =
              λ v low high t.
              let hv : In B.n v = omega arith in
              l.smallest v hv ((together_iff u v hu hv).1 t);
        },
    λ l.
        let h : In B.n lead = omega (arith, l.low, l.high) in
        record {
          body = h;
          in_group = (together_iff u lead hu h).1 l.in_group;
          smallest = λ v hv g. l.least v hv.low hv.high ((together_iff u v hu hv).0 g);
        },
  )

-- what the list has for body i + 1
group_number : (n : ℕ) (listed : List ℕ) (i : ℕ) → i < n → at (take n listed) (suc i) ≡ get_or listed i 0
group_number n listed i h = at_suc (take n listed) i ∙ get_or-take n listed i 0 h

module _ (B : Book) (list listed : List ℕ) where
  grouped_exact : Grouped B list listed (Ok tt) → ExactGroups B list listed
  unfolding design_of
  grouped_exact g =
      let sound : Sound B = g.0.0 in
      record {
        fits = omega (arith, (sound_head B sound).bodies.high, g.0.1.0);
        as_long = g.3;
        leads =
            λ i h.
            let hi : In B.n (suc i) = omega arith in
            subst (LeastTogether B (suc i)) (group_number B.n listed i h) ((leads_iff B sound (suc i) _ hi).0 (g.1.leads (suc i) hi));
        past = g.2;
      }

  exact_grouped : Pass (groups_checks B list) → ExactGroups B list listed → Grouped B list listed (Ok tt)
  unfolding design_of
  exact_grouped checked e = (
    checked,
    record { as_long = length-take-le B.n listed (omega (arith, e.fits, e.as_long)); leads = lead },
    e.past,
    e.as_long,
  )
    where
      lead : (u : ℕ) → In B.n u → GroupLead (design_of B) (kept_of B) u (at (take B.n listed) u)
      lead zero h = absurd (omega arith)
      lead (suc i) h =
          subst (GroupLead (design_of B) (kept_of B) (suc i)) (sym (group_number B.n listed i (omega arith)))
          ((leads_iff B checked.0 (suc i) _ h).1 (e.leads i (omega arith)))

  pub groups_iff : Grouped B list listed (Ok tt) ↔ (Pass (groups_checks B list) × ExactGroups B list listed)
  groups_iff = (λ g. (g.0, grouped_exact g), λ p. exact_grouped p.0 p.1)
