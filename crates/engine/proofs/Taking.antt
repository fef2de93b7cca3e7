-- `take`: the offered edge stands in the lists, in no forest; then either the shift has moved it and others to their places, or it
-- stays where it is. Either way the tables hold the forests of the book with one edge more.
-- Assumes nothing.
use mathlib.Core.Path.{◌≡◌, refl, sym, ap, ap₂, ◌∙◌, subst, subst₂}
use mathlib.Core.Logic.{◌≢◌}
use mathlib.Core.List.{List, [], ◌∷◌, reverse}
use Prim.Native.Nat.{ℕ, suc, ◌+◌, ◌-◌, ◌<◌}
use native.Mathlib.Omega.{arith}
use lib.ListN.{length, take, drop, length-set, length-drop}
use lib.Seq.{ext_get_or, get_or-drop}
use Rattle.rule.specs.declared.Book.{Book}
use Rattle.rule.specs.declared.Answer.TheVariants.{Kept, Implied}
use Rattle.rule.specs.Sets.{In, at}
use Rattle.rule.specs.Legal.{Design}
use Rattle.rule.specs.Forests.{Arranged}
use Rattle.rule.specs.declared.Edge.{Edge}
use Rattle.rule.specs.Books.{design_of, forest_of, offered, plus, next, Sound}
use Rattle.rule.specs.Calls.{Adds, KeepsIt, ImpliesIt}
use Rattle.rule.proofs.Passed.{passed_offer}
use Rattle.rule.proofs.Tests.{put_other}
use Rattle.rule.proofs.Places.{at_suc, at_set}
use Rattle.theory.specs.Exchange.{Each, end, Free, shifted, freed}
use Rattle.theory.specs.Search.{path_to}
use Rattle.theory.proofs.Exchange.Walk.{Start}
use Rattle.theory.proofs.Legal.Sound.{sound_head}
use Rattle.tables.specs.Tables.{Tabled}
use Rattle.tables.proofs.Longer.{tabled_longer}
use Rattle.moving.specs.Moves.{Drawn, Replanting, Replanted}
use Rattle.engine.specs.Seek.{forests_for, Seekable, EndsIn, Fails}
use Rattle.engine.specs.Take.{Full, Entered, Takeable, Takes}
use Rattle.engine.proofs.After.{one_after, other_after, design_after}
use Rattle.engine.proofs.Seeking.{backward_reverse}
use Rattle.engine.proofs.Says.{offered_ends, offered_arranged, start, free, old_path, found_says, stuck_says}

-- an edge that is not on the path keeps its forest
unmoved : (forest : ℕ → ℕ) (l : List ℕ) (f e : ℕ) → Each (λ z. z ≢ e) l → shifted forest l f e ≡ forest e
unfolding shifted
unmoved forest [] f e h = refl
unmoved forest (x ∷ l) f e h = put_other (shifted forest l f) x (freed forest l f) e (λ q. h.0 (sym q)) ∙ unmoved forest l f e h.1

each_below : (m : ℕ) (l : List ℕ) (e : ℕ) → m < e → Each (In m) l → Each (λ z. z ≢ e) l
each_below m [] e past h = tt
each_below m (z ∷ l) e past h = ((λ q. omega (arith, h.0.high)), each_below m l e past h.1)

-- two lists that hold the same numbers past some are the same past them
same_past : (l l' : List ℕ) (n : ℕ) → length l ≡ length l' → ((e : ℕ) → n < e → at l e ≡ at l' e) → drop n l ≡ drop n l'
same_past l l' n long f =
    ext_get_or 0 (drop n l) (drop n l') (length-drop n l ∙ ap (λ (z : ℕ). z - n) long ∙ sym (length-drop n l'))
    (λ i _. get_or-drop n l i 0 ∙ sym (at_suc l (n + i)) ∙ f (suc (n + i)) (omega arith) ∙ at_suc l' (n + i) ∙ sym (get_or-drop n l' i 0))

module _ (B : Book) (given : Edge) {list root way who edge size : List ℕ} (t : Takeable B given list root way who edge size) where
  sound : Sound B
  sound = (passed_offer B given list t.checked).asked.sound

  hu : In B.n given.one
  hu = (passed_offer B given list t.checked).asked.range.one

  hv : In B.n given.other
  hv = (passed_offer B given list t.checked).asked.range.other

  pub room : B.count < 512
  room = (passed_offer B given list t.checked).space

  pub seekable : Seekable B given.one given.other root way edge
  seekable = record { sound = sound; one = hu; other = hv; who = who; size = size; tabled = t.ready.tabled }

  module _ {entered : Book} (l : Entered B given entered) where
    -- the book with the edge, and these forests
    abbrev pub after : List ℕ → Book
    after forests' = record entered { forests = forests' }

    pub adds : (forests' : List ℕ) → Adds B (after forests') given
    adds forests' =
        record {
          a = l.adds.a;
          b = l.adds.b;
          n = l.adds.n;
          count = l.adds.count;
          ones = l.adds.ones;
          others = l.adds.others;
          colours = l.adds.colours;
        }

    design_is : (forests' : List ℕ) → design_of (after forests') ≡ offered B given
    design_is forests' = design_after B (after forests') given (adds forests') t.ready.full room

    entered_is : at entered.forests ≡ forests_for B
    entered_is = ap at l.nowhere ∙ at_set B.forests B.count 0 (omega (arith, room, t.ready.full.forests))

    full : (forests' : List ℕ) → length forests' ≡ 512 → Full (after forests')
    full forests' long =
        record {
          ones = ap length l.adds.ones ∙ length-set B.ones B.count given.one ∙ t.ready.full.ones;
          others = ap length l.adds.others ∙ length-set B.others B.count given.other ∙ t.ready.full.others;
          colours = ap length l.adds.colours ∙ length-set B.colours B.count given.colour ∙ t.ready.full.colours;
          forests = long;
        }

    entered_long : length entered.forests ≡ 512
    entered_long = ap length l.nowhere ∙ length-set B.forests B.count 0 ∙ t.ready.full.forests

    -- the tables hold the forests of the book with the edge in none
    tabled : Tabled (offered B given) (forests_for B) root way who edge size
    unfolding design_of
    tabled = tabled_longer (design_of B) given (forest_of B) root way who edge size t.ready.tabled

    -- ---- it is implied

    pub takes_implied : (listed : List ℕ) (n : ℕ) → Fails B given list listed n
        → Takes B entered given list listed root way who edge size (Implied n)
    takes_implied listed n f =
        record {
          offer =
              record {
                checked = t.checked;
                says =
                    subst (ImpliesIt B given list listed) (sym f.counts)
                    (stuck_says B given sound hu hv f.waiting f.is_stuck list listed f.fills f.as_long);
                adds = l.adds;
                forests = l.nowhere;
              };
          ready =
              record {
                tabled =
                    subst₂ (λ (d : Design) (g : ℕ → ℕ). Tabled d g root way who edge size) (sym (design_is entered.forests)) (sym entered_is) tabled;
                sized = t.ready.sized;
                full = full entered.forests entered_long;
              };
        }

    -- ---- it is kept

    module _ (path : List ℕ) (n f : ℕ) (e : EndsIn B given path n f) where
      abbrev goes : List ℕ
      goes = path_to e.waiting e.place

      drawn : Drawn (offered B given) entered.ones entered.others
      unfolding plus design_of
      drawn =
          let head = sound_head B sound in
          record {
            edges = omega (arith, room);
            forests = omega (arith, head.profile.0.high, head.profile.1.high);
            one = λ z h. ap (λ (g : ℕ → ℕ). g z) (sym (one_after B entered given l.adds t.ready.full room));
            other = λ z h. ap (λ (g : ℕ → ℕ). g z) (sym (other_after B entered given l.adds t.ready.full room));
            bodies = head.bodies;
            ends = offered_ends B given sound hu hv;
          }

      module _ (moves : List ℕ) (is : moves ≡ take n path) (long : length path ≡ 379) where
        goes_back : reverse moves ≡ goes
        goes_back = ap reverse is ∙ sym (backward_reverse path n (omega (arith, e.few, long))) ∙ e.leads

        pub replanting : Replanting entered.count f moves entered.ones entered.others entered.forests root way who edge size
        replanting =
            record {
              d = offered B given;
              drawn = drawn;
              arranged = subst (Arranged (offered B given)) (sym entered_is) (offered_arranged B given sound hu hv);
              start =
                  subst (λ (x : ℕ). Start (offered B given) (at entered.forests) x (reverse moves)) (sym l.adds.count)
                  (subst₂ (λ (g : ℕ → ℕ) (l : List ℕ). Start (offered B given) g (next B) l) (sym entered_is) (sym goes_back)
                  (start B given sound hu hv e.place f e.waiting e.is_found));
              free =
                  subst (λ (x : ℕ). Free (offered B given) (at entered.forests) (end x (reverse moves)) f) (sym l.adds.count)
                  (subst₂ (λ (g : ℕ → ℕ) (l : List ℕ). Free (offered B given) g (end (next B) l) f) (sym entered_is) (sym goes_back)
                  (free B given sound hu hv e.place f e.waiting e.is_found));
              tabled = subst (λ (g : ℕ → ℕ). Tabled (offered B given) g root way who edge size) (sym entered_is) tabled;
              forests_long = entered_long;
            }

        module _ (forests' root' way' who' edge' size' : List ℕ) (r : Replanted replanting forests' root' way' who' edge' size') where
          moved_to : at forests' ≡ shifted (forests_for B) (next B ∷ goes) f
          moved_to =
              r.shifts
              ∙ ap₂ (λ (g : ℕ → ℕ) (x : ℕ). shifted g (x ∷ reverse moves) f) entered_is l.adds.count
              ∙ ap (λ (z : List ℕ). shifted (forests_for B) (next B ∷ z) f) goes_back

          past : drop (next B) forests' ≡ drop (next B) B.forests
          past =
              same_past forests' B.forests (next B) (r.forests_long ∙ sym t.ready.full.forests)
              (λ z h.
              ap (λ (g : ℕ → ℕ). g z) moved_to
              ∙ unmoved (forests_for B) (next B ∷ goes) f z
              ((λ x. omega arith), each_below B.count goes z (omega arith) (old_path B given sound hu hv e.place f e.waiting e.is_found))
              ∙ put_other (forest_of B) (next B) 0 z (omega arith))

          pub takes_kept : (listed : List ℕ) → listed ≡ list → Takes B (after forests') given list listed root' way' who' edge' size' (Kept n)
          unfolding replanting
          takes_kept listed same =
              record {
                offer =
                    record {
                      checked = t.checked;
                      says =
                          subst₂ (KeepsIt B given) (sym moved_to) (sym e.counts)
                          (found_says B given sound hu hv e.place f e.waiting e.is_found);
                      adds = adds forests';
                      as_long = r.forests_long ∙ sym t.ready.full.forests;
                      past = past;
                      unwritten = same;
                    };
                ready =
                    record {
                      tabled =
                          subst (λ (d : Design). Tabled d (at forests') root' way' who' edge' size') (sym (design_is forests')) r.tabled;
                      sized = r.sized;
                      full = full forests' r.forests_long;
                    };
              }
