-- What an offer that is not refused leaves behind: a sound book, in which every edge that was kept is kept, and a grown book where the
-- book was grown.
-- Assumes nothing.
use mathlib.Core.Path.{◌≡◌, sym, ap, ◌∙◌, subst}
use mathlib.Core.List.{List}
use Prim.Native.Nat.{ℕ, ◌<◌}
use native.Mathlib.Omega.{arith}
use Rattle.rule.specs.declared.Book.{Book}
use Rattle.rule.specs.Sets.{In, put, at}
use Rattle.rule.specs.Legal.{Design, Grown}
use Rattle.rule.specs.Forests.{Arranged}
use Rattle.rule.specs.declared.Edge.{Edge}
use Rattle.rule.specs.Books.{design_of, forest_of, kept_of, offered, next, Sound, GrownBook}
use Rattle.rule.specs.Calls.{OfferKept, OfferImplied}
use Rattle.rule.proofs.Passed.{passed_offer}
use Rattle.rule.proofs.Tests.{same_test, put_same, put_other}
use Rattle.rule.proofs.Counting.{Agree}
use Rattle.rule.proofs.Places.{at_set}
use Rattle.theory.proofs.Legal.Kept.{kept_make, kept_has}
use Rattle.theory.proofs.Legal.Sound.{sound_arranged}
use Rattle.theory.proofs.Laws.Grown.{grown_longer}
use Rattle.theory.proofs.Groups.Longer.{arranged_longer}
use Rattle.engine.proofs.After.{design_after, sound_after}
use Rattle.engine.specs.Take.{Full}

module _ (before after : Book) (given : Edge) (list listed : List ℕ) (count : ℕ) (full : Full before) where
  -- ---- the edge is kept

  module _ (o : OfferKept before after given list listed count) where
    less : before.count < 512
    less = (passed_offer before given list o.checked).space

    pub kept_sound : Sound after
    kept_sound =
        let c = (passed_offer before given list o.checked).asked in
        sound_after before after given o.adds full less c.sound c.range o.says.arranged

    -- no offer makes a kept edge implied, nor an implied one kept
    kept_same : Agree before.count (kept_of before) (kept_of after)
    unfolding design_of
    kept_same e h =
        same_test _ _
        (λ t. kept_make (design_of after) (forest_of after) e (omega (arith, h.high, o.adds.count)) ((o.says.earlier e h).1 (kept_has (design_of before) (forest_of before) e t)))
        (λ t. kept_make (design_of before) (forest_of before) e h.high ((o.says.earlier e h).0 (kept_has (design_of after) (forest_of after) e t)))

    pub kept_grown : GrownBook before → GrownBook after
    unfolding design_of
    kept_grown g =
        subst (λ (d : Design). Grown d (kept_of after)) (sym (design_after before after given o.adds full less))
        (grown_longer (design_of before) given (kept_of before) (kept_of after) g kept_same
        ((λ _. o.says.keeps), (λ _. kept_make (design_of after) (forest_of after) (next before) (omega (arith, o.adds.count)) o.says.new)))

  -- ---- the edge is implied

  module _ (o : OfferImplied before after given list listed count) where
    room : before.count < 512
    room = (passed_offer before given list o.checked).space

    forests_after : forest_of after ≡ put (forest_of before) (next before) 0
    forests_after = ap at o.forests ∙ at_set before.forests before.count 0 (omega (arith, room, full.forests))

    old_forest : (e : ℕ) → In before.count e → forest_of after e ≡ forest_of before e
    old_forest e h = ap (λ (f : ℕ → ℕ). f e) forests_after ∙ put_other (forest_of before) (next before) 0 e (omega arith)

    new_forest : forest_of after (next before) ≡ 0
    new_forest = ap (λ (f : ℕ → ℕ). f (next before)) forests_after ∙ put_same (forest_of before) (next before) 0

    pub implied_sound : Sound after
    unfolding design_of
    implied_sound =
        let c = (passed_offer before given list o.checked).asked in
        sound_after before after given o.adds full room c.sound c.range
        (subst (Arranged (offered before given)) (sym forests_after)
        (arranged_longer (design_of before) given (forest_of before) (sound_arranged before c.sound)))

    implied_same : Agree before.count (kept_of before) (kept_of after)
    unfolding design_of
    implied_same e h =
        same_test _ _
        (λ t.
        kept_make (design_of after) (forest_of after) e (omega (arith, h.high, o.adds.count))
        (omega (arith, old_forest e h, kept_has (design_of before) (forest_of before) e t)))
        (λ t. kept_make (design_of before) (forest_of before) e h.high (omega (arith, old_forest e h, kept_has (design_of after) (forest_of after) e t)))

    pub implied_grown : GrownBook before → GrownBook after
    unfolding design_of
    implied_grown g =
        subst (λ (d : Design). Grown d (kept_of after)) (sym (design_after before after given o.adds full room))
        (grown_longer (design_of before) given (kept_of before) (kept_of after) g implied_same (
          (λ t. absurd (omega (arith, new_forest, kept_has (design_of after) (forest_of after) (next before) t))),
          (λ p. absurd (o.says.implies p)),
        ))
