-- A sound book: the ends of its edges are bodies, its forests are an arrangement, so its kept edges are legal. And the other way: a book
-- whose forests are an arrangement is sound, if its head and its edges' ends and colours are right.
-- Assumes nothing.
use mathlib.Core.Path.{◌≡◌, refl, subst}
use Prim.Native.Nat.{ℕ, zero, suc, ◌≤◌}
use native.Mathlib.Omega.{arith}
use Rattle.rule.specs.declared.Book.{Book}
use Rattle.rule.specs.Sets.{In, below, at}
use Rattle.rule.specs.Legal.{Design, Ends, k, Legal}
use Rattle.rule.specs.Forests.{Chain, in_forest, Permitted, NoneCloses, Arranged}
use Rattle.rule.specs.Books.{edge_of, design_of, forest_of, kept_of, EdgeRange, HeadRule, EdgeRule, Obeys, Sound}
use Rattle.rule.proofs.Loops.{none_closes_loopless, loopless_none_closes}
use Rattle.theory.proofs.Legal.Kept.{forest_make, forest_is, limit_most}
use Rattle.theory.proofs.Legal.Forests.{forests_legal}

module _ (B : Book) (sound : Sound B) where
  pub sound_head : HeadRule B
  unfolding Sound Obeys
  sound_head = sound 0 (omega arith)

  pub sound_edge : (e : ℕ) → In B.count e → EdgeRule B e
  unfolding Sound Obeys
  sound_edge zero h = absurd (omega arith)
  sound_edge (suc i) h = sound (suc i) h.high

  pub sound_ends : Ends (design_of B)
  unfolding design_of edge_of
  sound_ends = record { one = λ e h. (sound_edge e h).range.one; other = λ e h. (sound_edge e h).range.other }

  -- no edge of forest i closes a loop among those of smaller number
  none_closes : (i : ℕ) → 1 ≤ i → NoneCloses (design_of B) (in_forest (forest_of B) i)
  unfolding NoneCloses design_of
  none_closes i l e h t =
      let q : forest_of B e ≡ i = forest_is (forest_of B) i e t in
      subst (λ (j : ℕ). ¬ (Chain (design_of B) (below (in_forest (forest_of B) j) e) (at B.ones e) (at B.others e))) q
      ((sound_edge e h).closes_none (omega arith))

  pub sound_arranged : Arranged (design_of B) (forest_of B)
  unfolding design_of
  sound_arranged =
      record {
        permitted = λ e h. (sound_edge e h).permitted;
        loopless = λ i h. none_closes_loopless (design_of B) (in_forest (forest_of B) i) (none_closes i h.low);
      }

  pub sound_legal : Legal (design_of B) (kept_of B)
  sound_legal = forests_legal (design_of B) sound_ends (forest_of B) sound_arranged

-- a forest number that is permitted, and is not 0, is one of 1 to k
permitted_range : (d : Design) (forest : ℕ → ℕ) (e : ℕ) → Permitted d forest e → 1 ≤ forest e → In (k d) (forest e)
unfolding Permitted
permitted_range d forest e p low = omega (arith, limit_most d e)

pub arranged_sound : (B : Book) → HeadRule B → ((e : ℕ) → In B.count e → EdgeRange B.n (edge_of B e)) → Arranged (design_of B) (forest_of B)
    → Sound B
unfolding Sound Obeys NoneCloses design_of
arranged_sound B head edges arr zero l = head
arranged_sound B head edges arr (suc i) l =
    let h : In B.count (suc i) = omega arith in
    let permitted : Permitted (design_of B) (forest_of B) (suc i) = arr.permitted (suc i) h in
    record {
      range = edges (suc i) h;
      permitted = permitted;
      closes_none =
          λ low.
          loopless_none_closes (design_of B) (in_forest (forest_of B) (forest_of B (suc i)))
          (arr.loopless (forest_of B (suc i)) (permitted_range (design_of B) (forest_of B) (suc i) permitted low)) (suc i) h (forest_make (forest_of B) (forest_of B (suc i)) (suc i) refl);
    }
