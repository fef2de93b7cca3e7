-- The circuit of an implied edge, as document 01 lists it: the reached edges without the new one, smallest first; one fewer than
-- wait. It is never empty where a is at least 1 and the edge has two different ends: in forest 1 its edges join the ends.
-- Assumes nothing.
use mathlib.Core.Path.{◌≡◌, refl, ap, ◌∙◌, subst}
use mathlib.Core.Logic.{◌≢◌}
use Prim.Native.Nat.{ℕ, suc, ◌≤◌}
use native.Mathlib.Omega.{arith}
use lib.ListN.{length}
use Rattle.rule.specs.Sets.{Is, ◌≤?◌, In, ◌without◌, count, numbers}
use Rattle.rule.specs.Legal.{Design, Ends, Circuit}
use Rattle.rule.specs.Forests.{limit, kept_in, Arranged}
use Rattle.rule.proofs.Tests.{cases, le_of, le_is, without_old, without_ne, without_make}
use Rattle.rule.proofs.Counting.{count_without, count_pos, length_numbers}
use Rattle.theory.specs.Joined.{spans}
use Rattle.theory.specs.Closed.{standing}
use Rattle.theory.specs.Search.{Waiting, search}
use Rattle.theory.specs.Search.Result.{going}
use Rattle.theory.proofs.Joined.Laws.{joined_least}
use Rattle.theory.proofs.Legal.Kept.{kept_has, limit_least}
use Rattle.theory.proofs.Closed.Laws.{standing_in, covers_at}
use Rattle.theory.proofs.Search.Reached.{size}
use Rattle.theory.proofs.Search.Image.{seen_count}
use Rattle.theory.proofs.Search.Outcome.{circuit_exact, seen_kept, stuck_covered, stuck_reached}

module _ (d : Design) (ends : Ends d) (forest : ℕ → ℕ) (arr : Arranged d forest) (e : ℕ) (he : In d.m e) (unplaced : forest e ≡ 0) (w : Waiting)
    (q : search d forest e ≡ going w) where
  not_new : (y : ℕ) → Is (kept_in d forest y) → y ≢ e
  not_new y kept same = omega (arith, unplaced, ap forest same, kept_has d forest y kept)

  pub circuit_list : Circuit d (kept_in d forest) e (numbers (w.seen without e) d.m)
  circuit_list =
      record {
        chosen = w.seen without e;
        exactly =
            λ y h. (
              (λ t.
                  let s = without_old w.seen e y t in
                  let kept = seen_kept d ends forest arr e he unplaced w q y h s (without_ne w.seen e y t) in
                  (kept, (circuit_exact d ends forest arr e he unplaced w q y kept).0 s)),
              (λ c. without_make w.seen e y ((circuit_exact d ends forest arr e he unplaced w q y c.0).1 c.1) (not_new y c.0)),
            );
        in_order = refl;
      }

  -- one fewer than wait
  pub circuit_length : suc (length (numbers (w.seen without e) d.m)) ≡ size w
  circuit_length =
      let r = stuck_reached d ends forest arr e he unplaced w q in
      ap suc (length_numbers (w.seen without e) d.m)
      ∙ count_without w.seen d.m e he (subst (λ (z : ℕ). Is (w.seen z)) r.first (r.at_seen 0 r.some))
      ∙ seen_count d forest e w r

  pub circuit_not_empty : 1 ≤ d.a → d.one e ≢ d.other e → 1 ≤ length (numbers (w.seen without e) d.m)
  unfolding spans
  circuit_not_empty low different =
      cases (1 ≤? count (w.seen without e) d.m) (λ t. omega (arith, le_of _ _ t, length_numbers (w.seen without e) d.m))
      (λ n.
      absurd
      (different
      (joined_least d (standing forest (w.seen without e) 1) (λ x y. x ≡ y) (λ x. refl) (λ x y z p r. p ∙ r)
      (λ f h t. absurd (n (le_is _ _ (count_pos (w.seen without e) d.m f h (standing_in forest (w.seen without e) 1 f t)))))
      (d.one e) (d.other e)
      (covers_at d forest (limit d) (w.seen without e) e 1 (stuck_covered d ends forest arr e he unplaced w q) (omega (arith, limit_least d e))))))
