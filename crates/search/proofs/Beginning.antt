-- At the beginning only the new edge waits, and no slot of a forest has been seen: the new edge stands in none. It has the first turn.
-- Assumes nothing.
use mathlib.Core.Path.{◌≡◌, refl, sym, ap, ◌∙◌, subst}
use mathlib.Core.Bool.{cond}
use mathlib.Core.List.{List, [], ◌∷◌}
use Rattle.std.specs.Prelude.{Option, Some, None}
use Prim.Native.Nat.{ℕ, ◌-◌, ◌<◌}
use native.Mathlib.Omega.{arith}
use lib.ListN.{length, set, replicate, length-set}
use lib.Seq.{take-suc-set}
use Rattle.rule.specs.Sets.{◌=?◌, In}
use Rattle.rule.specs.Forests.{limit}
use Rattle.rule.specs.declared.Edge.{Edge}
use Rattle.rule.proofs.Tests.{is_false, eq_of}
use Rattle.theory.specs.Search.{edge_at, begin, turns, try_forests}
use Rattle.theory.proofs.Search.Reached.{begin_reached}
use Rattle.words.specs.Bits.{bit}
use Rattle.words.proofs.Bits.{bit_zero}
use Rattle.tables.specs.Tables.{slot, filled}
use Rattle.reaching.specs.Trying.{Tells, Trying, After}
use Rattle.search.specs.Given.{IsEdge, Sought}
use Rattle.search.specs.Answers.{Turned}
use Rattle.reaching.proofs.Bits.{zeros_at}
use Rattle.search.proofs.AllTurns.{limit_is, has_turn, turn_ends, turn_goes}

-- the numbers of the profile as they are read
abbrev pub sought_for : {a k a' k' : ℕ} {is : Edge} {number : ℕ} {ones others colours forests root way edge : List ℕ} → a' ≡ a → k' ≡ k
    → Sought a k is number ones others colours forests root way edge → Sought a' k' is number ones others colours forests root way edge
sought_for qa qk s =
    let g = s.given in
    record {
      given =
          record {
            d = g.d;
            forest = g.forest;
            who = g.who;
            size = g.size;
            setting = g.setting;
            for_red = g.for_red ∙ sym qa;
            for_black = g.for_black ∙ sym qk;
            old = g.old;
          };
      last = s.last;
      new = s.new;
    }

module _ {a k : ℕ} {is : Edge} {number : ℕ} {ones others colours forests root way edge : List ℕ} (s : Sought a k is number ones others colours forests root way edge) where
  -- the new edge is in no slot
  not_new : (f j : ℕ) → In 6 f → j < filled s.given.size f → ¬ (slot edge f j ≡ s.given.d.m)
  not_new f j h l q =
      omega (arith, h.low, ((s.given.setting.tabled.slots f h).edge_in j l).1, ap s.given.forest (q ∙ s.last), s.new.stands)

  begun : (queue from : List ℕ) → length queue ≡ 379 → length from ≡ 379 → Turned s.given (set queue 0 number) (set from 0 0) (replicate 6 0) 0 1 None
  unfolding turns begin
  begun queue from lq lf =
      record {
        waiting = begin s.given.d.m;
        is = refl;
        holds = (
          refl,
          record {
            sound = begin_reached s.given.d s.given.forest s.given.d.m (omega (arith, s.given.setting.edges.low));
            holds =
                record {
                  queued = take-suc-set queue 0 number (omega arith) ∙ ap (λ (z : ℕ). z ∷ []) (sym s.last);
                  reached = take-suc-set from 0 0 (omega arith);
                  places = (length-set queue 0 number ∙ lq, length-set from 0 0 ∙ lf);
                };
            marks =
                λ f j h l.
                ap (λ (z : ℕ). bit z j) (zeros_at 6 (f - 1)) ∙ bit_zero j ∙ sym (is_false (slot edge f j =? s.given.d.m) (λ t. not_new f j h l (eq_of _ _ t)));
            words = refl;
          },
        );
      }

  -- ---- the turn of the new edge

  module _ (queue from : List ℕ) (lq : length queue ≡ 379) (lf : length from ≡ 379) {last : ℕ} (is_last : last ≡ cond (is.colour =? 1) a k) where
    abbrev alone : Turned s.given (set queue 0 number) (set from 0 0) (replicate 6 0) 0 1 None
    alone = begun queue from lq lf

    new_first : IsEdge s.given.d s.given.forest (edge_at alone.waiting 0) is 0
    new_first =
        subst (λ (e : ℕ). IsEdge s.given.d s.given.forest e is 0) (sym (alone.holds.1.sound.first ∙ s.last)) s.new

    limited : limit s.given.d (edge_at alone.waiting 0) ≡ last
    limited = limit_is new_first s.given.for_red s.given.for_black ∙ sym is_last

    abbrev pub Tries : Type 0
    Tries = Trying is.one is.other 0 1 root way edge (set queue 0 number) (set from 0 0) (replicate 6 0)

    abbrev new_tries : Tries
    new_tries = has_turn s.given 0 alone (omega arith) new_first

    pub first_asks : (t : Tries) × ((limit t.d t.x ≡ last) × (t.forest t.x ≡ 0))
    first_asks = (new_tries, (limited, new_first.stands))

    -- what trying its forests tells of any design
    abbrev pub FirstTold : (queue' from' seen' : List ℕ) (n : ℕ) → Option ℕ → Type 0
    FirstTold queue' from' seen' n r =
        (t : Tries) → limit t.d t.x ≡ last → t.forest t.x ≡ 0
        → Tells (After t queue' from' seen') 0 (try_forests t.d t.forest 0 t.x last t.w) n r

    pub first_ends : (queue' from' seen' : List ℕ) (n f : ℕ) → FirstTold queue' from' seen' n (Some f) → Turned s.given queue' from' seen' 1 n (Some (record { place = 0; forest = f }))
    first_ends queue' from' seen' n f told = turn_ends s.given 0 alone (omega arith) new_first limited n (told new_tries limited new_first.stands)

    pub first_goes : (queue' from' seen' : List ℕ) (n : ℕ) → FirstTold queue' from' seen' n None → Turned s.given queue' from' seen' 1 n None
    first_goes queue' from' seen' n told = turn_goes s.given 0 alone (omega arith) new_first limited (told new_tries limited new_first.stands)
