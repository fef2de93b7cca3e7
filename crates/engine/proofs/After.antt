-- The book after an edge has been added: its design is the design of the book before with the offered edge, and it is sound where its
-- forests are an arrangement.
-- Assumes nothing.
use mathlib.Core.Path.{◌≡◌, sym, ap, ◌∙◌, subst, subst₂}
use Prim.Native.Nat.{ℕ, ◌<◌}
use native.Mathlib.Omega.{arith}
use Rattle.rule.specs.declared.Book.{Book}
use Rattle.rule.specs.Sets.{◌=?◌, Set, In, put, at}
use Rattle.rule.specs.Legal.{Design}
use Rattle.rule.specs.Forests.{Arranged}
use Rattle.rule.specs.declared.Edge.{Edge}
use Rattle.rule.specs.Books.{design_of, forest_of, offered, plus, next, ProfileRange, BodiesRange, ColourRange, Sound, EdgeRange, edge_of}
use Rattle.rule.specs.Calls.{Adds}
use Rattle.rule.proofs.Tests.{in_split, put_same, put_other, put_map}
use Rattle.rule.proofs.Places.{at_set}
use Rattle.engine.specs.Take.{Full}
use Rattle.theory.proofs.Legal.Sound.{sound_head, sound_edge, arranged_sound}

module _ (before after : Book) (given : Edge) (adds : Adds before after given) (full : Full before) (room : before.count < 512) where
  pub one_after : at after.ones ≡ put (at before.ones) (next before) given.one
  one_after = ap at adds.ones ∙ at_set before.ones before.count given.one (omega (arith, full.ones))

  pub other_after : at after.others ≡ put (at before.others) (next before) given.other
  other_after = ap at adds.others ∙ at_set before.others before.count given.other (omega (arith, full.others))

  colour_after : at after.colours ≡ put (at before.colours) (next before) given.colour
  colour_after = ap at adds.colours ∙ at_set before.colours before.count given.colour (omega (arith, full.colours))

  red_after : (λ e. at after.colours e =? 1) ≡ put (λ e. at before.colours e =? 1) (next before) (given.colour =? 1)
  red_after = ap {B = Set} (λ (f : ℕ → ℕ). λ e. f e =? 1) colour_after ∙ put_map (λ c. c =? 1) (at before.colours) (next before) given.colour

  pub design_after : design_of after ≡ offered before given
  unfolding design_of plus
  design_after =
      λ i.
      record {
        a = adds.a i;
        b = adds.b i;
        n = adds.n i;
        m = adds.count i;
        one = one_after i;
        other = other_after i;
        red = red_after i;
      }

  -- ---- it is sound

  range_after : Sound before → EdgeRange before.n given → (e : ℕ) → In after.count e → EdgeRange after.n (edge_of after e)
  unfolding edge_of
  range_after sound range e h =
      in_split before.count e (subst (λ (z : ℕ). In z e) adds.count h) old
      (λ q. subst (λ (z : ℕ). EdgeRange after.n (edge_of after z)) (sym q) new)
    where
      bodies : {x : ℕ} → In before.n x → In after.n x
      bodies {x} r = subst (λ (z : ℕ). In z x) (sym adds.n) r

      at_new : (f g : ℕ → ℕ) (x : ℕ) → f ≡ put g (next before) x → x ≡ f (next before)
      at_new f g x q = sym (ap (λ (z : ℕ → ℕ). z (next before)) q ∙ put_same g (next before) x)

      new : EdgeRange after.n (edge_of after (next before))
      new =
          record {
            one = subst (In after.n) (at_new _ _ _ one_after) (bodies range.one);
            other = subst (In after.n) (at_new _ _ _ other_after) (bodies range.other);
            different = λ q. range.different (at_new _ _ _ one_after ∙ q ∙ sym (at_new _ _ _ other_after));
            colour = subst ColourRange (at_new _ _ _ colour_after) range.colour;
          }

      at_old : (f g : ℕ → ℕ) (x : ℕ) → f ≡ put g (next before) x → In before.count e → g e ≡ f e
      at_old f g x q r = sym (ap (λ (z : ℕ → ℕ). z e) q ∙ put_other g (next before) x e (omega arith))

      old : In before.count e → EdgeRange after.n (edge_of after e)
      old r =
          let k = (sound_edge before sound e r).range in
          record {
            one = subst (In after.n) (at_old _ _ _ one_after r) (bodies k.one);
            other = subst (In after.n) (at_old _ _ _ other_after r) (bodies k.other);
            different = λ q. k.different (at_old _ _ _ one_after r ∙ q ∙ sym (at_old _ _ _ other_after r));
            colour = subst ColourRange (at_old _ _ _ colour_after r) k.colour;
          }

  pub sound_after : Sound before → EdgeRange before.n given → Arranged (offered before given) (forest_of after) → Sound after
  sound_after sound range arr =
      let head = sound_head before sound in
      arranged_sound after
      (record {
        profile = subst₂ ProfileRange (sym adds.a) (sym adds.b) head.profile;
        bodies = subst BodiesRange (sym adds.n) head.bodies;
        edges = omega (arith, adds.count);
      })
      (range_after sound range) (subst (λ (d : Design). Arranged d (forest_of after)) (sym design_after) arr)
