-- What the search for an offered edge says of it, in the words of crate rule: where the search ends the edge is kept, and the shifted
-- forests are as `KeepsIt` says; where it does not, the edge is implied, and the edges that were reached are its circuit.
--
-- The search runs in the design with the offered edge, where that edge stands nowhere yet. Kept edges and forests are those of the book.
-- Assumes nothing.
use mathlib.Core.Path.{◌≡◌, refl, sym, ap, ◌∙◌, subst}
use mathlib.Core.Logic.{◌↔◌, ◌≢◌}
use mathlib.Core.List.{List, [], ◌∷◌}
use Prim.Native.Nat.{ℕ, suc, ◌≤◌}
use native.Mathlib.Omega.{arith}
use lib.ListN.{length}
use Rattle.rule.specs.declared.Book.{Book}
use Rattle.rule.specs.Sets.{isnt, ◌=?◌, Set, In, ◌without◌, numbers}
use Rattle.rule.specs.Legal.{Design, Ends, Keeps, Implies, Circuit}
use Rattle.rule.specs.Forests.{Arranged, moved}
use Rattle.rule.specs.declared.Edge.{Edge}
use Rattle.rule.specs.Books.{design_of, forest_of, kept_of, offered, plus, next, Sound}
use Rattle.rule.specs.Calls.{KeepsIt, ImpliesIt, Filled}
use Rattle.rule.proofs.Counting.{count_eq}
use Rattle.theory.specs.Exchange.{Each, Distinct, end, Free, shifted}
use Rattle.theory.specs.Search.{Waiting, search, path_to}
use Rattle.theory.specs.Search.Result.{found, going}
use Rattle.theory.proofs.Exchange.Walk.{Start}
use Rattle.theory.proofs.Exchange.Shift.{shift_kept, shift_new}
use Rattle.theory.proofs.Exchange.Moved.{shift_moves}
use Rattle.theory.proofs.Search.Outcome.{found_start, found_free, found_arranged, found_kept, stuck_implied}
use Rattle.theory.proofs.Search.Circuit.{circuit_list}
use Rattle.theory.proofs.Laws.Plus.{plus_ends}
use Rattle.theory.proofs.Groups.Longer.{phi_old, phi_new, arranged_longer, kept_longer}
use Rattle.theory.proofs.Legal.Sound.{sound_ends, sound_arranged}
use Rattle.engine.specs.Seek.{forests_for}

-- edges of 1 to m + 1 other than the last are edges of 1 to m
each_earlier : (m : ℕ) (l : List ℕ) → Each (In (suc m)) l → Each (λ z. z ≢ suc m) l → Each (In m) l
each_earlier m [] h n = tt
each_earlier m (z ∷ l) h n = (record { low = h.0.low; high = omega (arith, h.0.high, n.0) }, each_earlier m l h.1 n.1)

distinct_away : (x : ℕ) (l : List ℕ) → Distinct x l → Each (λ z. z ≢ x) l
distinct_away x [] h = tt
distinct_away x (z ∷ l) h = h.0

module _ (B : Book) (given : Edge) (sound : Sound B) (hu : In B.n given.one) (hv : In B.n given.other) where
  abbrev d : Design
  d = offered B given

  abbrev phi : ℕ → ℕ
  phi = forests_for B

  pub offered_ends : Ends (offered B given)
  unfolding design_of
  offered_ends = plus_ends (design_of B) given (sound_ends B sound) hu hv

  pub offered_arranged : Arranged (offered B given) (forests_for B)
  unfolding design_of
  offered_arranged = arranged_longer (design_of B) given (forest_of B) (sound_arranged B sound)

  pub offered_last : In (offered B given).m (next B)
  unfolding plus design_of
  offered_last = omega arith

  pub offered_unplaced : forests_for B (next B) ≡ 0
  unfolding design_of
  offered_unplaced = phi_new (design_of B) given (forest_of B)

  -- ---- the search ended

  module _ (p i : ℕ) (w : Waiting) (q : search (offered B given) (forests_for B) (next B) ≡ found p i w) where
    pub start : Start (offered B given) (forests_for B) (next B) (path_to w p)
    start = found_start d offered_ends phi offered_arranged (next B) offered_last offered_unplaced p i w q

    pub free : Free (offered B given) (forests_for B) (end (next B) (path_to w p)) i
    free = found_free d offered_ends phi offered_arranged (next B) offered_last offered_unplaced p i w q

    after : ℕ → ℕ
    after = shifted phi (next B ∷ path_to w p) i

    pub old_path : Each (In B.count) (path_to w p)
    unfolding plus design_of
    old_path = each_earlier B.count (path_to w p) start.edges (distinct_away (next B) (path_to w p) start.distinct)

    moves : length (path_to w p) ≡ moved (forest_of B) (shifted (forests_for B) (next B ∷ path_to w p) i) B.count
    unfolding moved design_of
    moves =
        sym (shift_moves d phi (next B) (path_to w p) i B.count start free old_path (omega arith))
        ∙ count_eq _ _ B.count (λ e h. ap (λ (z : ℕ). isnt (z =? shifted (forests_for B) (next B ∷ path_to w p) i e)) (phi_old (design_of B) given (forest_of B) e h))

    pub found_says : KeepsIt B given (shifted (forests_for B) (next B ∷ path_to w p) i) (length (path_to w p))
    unfolding design_of
    found_says =
        record {
          keeps = subst (λ (s : Set). Keeps d s (next B)) (kept_longer (design_of B) given (forest_of B)) (found_kept d offered_ends phi offered_arranged (next B) offered_last offered_unplaced p i w q);
          arranged = found_arranged d offered_ends phi offered_arranged (next B) offered_last offered_unplaced p i w q;
          new = shift_new d phi (next B) (path_to w p) start offered_arranged i free.allowed.low;
          earlier =
              λ e h.
              subst (λ (z : ℕ). (1 ≤ shifted phi (next B ∷ path_to w p) i e) ↔ (1 ≤ z)) (phi_old (design_of B) given (forest_of B) e h)
              (shift_kept d phi (next B) (path_to w p) start offered_arranged i e free.allowed.low (omega arith));
          moves = moves;
        }

  -- ---- it did not

  module _ (w : Waiting) (q : search (offered B given) (forests_for B) (next B) ≡ going w) where
    -- what was reached is its circuit
    pub stuck_is_circuit : Circuit (offered B given) (kept_of B) (next B) (numbers (w.seen without next B) (next B))
    unfolding plus design_of
    stuck_is_circuit =
        subst (λ (s : Set). Circuit d s (next B) (numbers (w.seen without next B) (next B))) (kept_longer (design_of B) given (forest_of B))
        (circuit_list d offered_ends phi offered_arranged (next B) offered_last offered_unplaced w q)

    pub stuck_says : (list listed : List ℕ) → Filled (numbers (w.seen without next B) (next B)) list listed → length listed ≡ length list
        → ImpliesIt B given list listed (length (numbers (w.seen without next B) (next B)))
    unfolding plus design_of
    stuck_says list listed fills long =
        record {
          implies =
              subst (λ (s : Set). Implies d s (next B)) (kept_longer (design_of B) given (forest_of B))
              (stuck_implied d offered_ends phi offered_arranged (next B) offered_last offered_unplaced w q);
          circuit = numbers (w.seen without next B) (next B);
          is_circuit = stuck_is_circuit;
          number = refl;
          fills = fills;
          as_long = long;
        }
