-- What `reaching::try_forests` does: an edge that has tried the forests 1 to j tries the next, or passes over it where it is its own. Where the
-- search has ended, the later forests change nothing (`stays`).
-- Assumes nothing.
use mathlib.Core.Path.{◌≡◌, refl, ap, ◌∙◌, subst}
use mathlib.Core.List.{List}
use Prim.Native.Nat.{ℕ, zero, suc, ◌-◌, ◌≤◌}
use native.Mathlib.Omega.{arith}
use Rattle.rule.proofs.Tests.{by_eq}
use Rattle.theory.specs.Search.{Waiting, Result, and_then, try_forest, try_forests}
use Rattle.theory.specs.Search.Result.{found, going}
use Rattle.theory.proofs.Search.Reached.{grows_refl, grows_trans}
use Rattle.std.specs.Prelude.{None}
use Rattle.reaching.specs.Trying.{Comes, Tells, Trying, After}
use Rattle.reaching.proofs.Further.{try_own}

-- a result that no later step changes stays
pub stays : (up_to : ℕ → Result) (step : ℕ → Waiting → Result) → ((i : ℕ) → up_to (suc i) ≡ and_then (up_to i) (step i)) → (r : Result) (j l : ℕ) → j ≤ l
    → ((i : ℕ) → j ≤ i → and_then r (step i) ≡ r) → up_to j ≡ r → up_to l ≡ r
stays up_to step next r j zero h idle q = subst (λ (z : ℕ). up_to z ≡ r) (omega arith) q
stays up_to step next r j (suc l) h idle q =
    by_eq j (suc l) (λ same. subst (λ (z : ℕ). up_to z ≡ r) same q)
    (λ ne.
    let before : j ≤ l = omega arith in
    next l ∙ ap (λ (z : Result). and_then z (step l)) (stays up_to step next r j l before idle q) ∙ idle l before)

module _ {u v place n : ℕ} {root way edge queue from seen : List ℕ} (t : Trying u v place n root way edge queue from seen) where
  -- the forests 1 to j
  abbrev up_to : ℕ → Result
  up_to j = try_forests t.d t.forest place t.x j t.w

  up_to_suc : (j : ℕ) → up_to (suc j) ≡ and_then (up_to j) (try_forest t.d t.forest place t.x (suc j))
  unfolding try_forests
  up_to_suc j = refl

  pub none_tried : Tells (After t queue from seen) place (up_to 0) n None
  unfolding try_forests
  none_tried = record { waiting = t.w; is = refl; holds = (t.waits, record { state = t.state; grows = grows_refl t.w }) }

  -- where the search has ended, it has ended
  pub found_stays : {P : Waiting → Type 0} (i f last : ℕ) → f ≤ last → Comes P (found place i) (up_to f) → Comes P (found place i) (up_to last)
  found_stays i f last h a =
      record {
        waiting = a.waiting;
        is = stays up_to (λ j. try_forest t.d t.forest place t.x (suc j)) up_to_suc (found place i a.waiting) f last h (λ _ _. refl) a.is;
        holds = a.holds;
      }

  pub all_tried : {P : Waiting → Type 0} {j last : ℕ} → j ≡ last → Comes P going (up_to j) → Comes P going (up_to last)
  all_tried {P} q = subst (λ (z : ℕ). Comes P going (up_to z)) q

  module _ (f : ℕ) (low : 1 ≤ f) {queue' from' seen' : List ℕ} {n' : ℕ} (a : Tells (After t queue' from' seen') place (up_to (f - 1)) n' None) where
    -- the edge waits on
    abbrev pub waits_on : Trying u v place n' root way edge queue' from' seen'
    waits_on =
        record {
          d = t.d;
          forest = t.forest;
          who = t.who;
          size = t.size;
          setting = t.setting;
          w = a.waiting;
          state = a.holds.1.state;
          waits = a.holds.0;
          here = omega (arith, t.here, t.waits, a.holds.0, a.holds.1.grows.longer);
          x = t.x;
          is_x = a.holds.1.grows.same_edge place (omega (arith, t.here, t.waits)) ∙ t.is_x;
          one = t.one;
          other = t.other;
        }

    this_one : up_to f ≡ try_forest t.d t.forest place t.x f a.waiting
    this_one =
        let next : suc (f - 1) ≡ f = omega arith in
        subst (λ (z : ℕ). up_to z ≡ and_then (up_to (f - 1)) (try_forest t.d t.forest place t.x z)) next (up_to_suc (f - 1))
        ∙ ap (λ (r : Result). and_then r (try_forest t.d t.forest place t.x f)) a.is

    further : {queue'' from'' seen'' : List ℕ} (w : Waiting) → After waits_on queue'' from'' seen'' w → After t queue'' from'' seen'' w
    further w b = record { state = b.state; grows = grows_trans t.w a.waiting w a.holds.1.grows b.grows }

    pub own_passed : t.forest t.x ≡ f → Tells (After t queue' from' seen') place (up_to f) n' None
    own_passed own =
        record { waiting = a.waiting; is = this_one ∙ try_own t.d t.forest place t.x f a.waiting own; holds = a.holds }

    pub next_found : {queue'' from'' seen'' : List ℕ} {i : ℕ}
        → Comes (After waits_on queue'' from'' seen'') (found place i) (try_forest t.d t.forest place t.x f a.waiting)
        → Comes (After t queue'' from'' seen'') (found place i) (up_to f)
    next_found b = record { waiting = b.waiting; is = this_one ∙ b.is; holds = further b.waiting b.holds }

    pub next_tried : {queue'' from'' seen'' : List ℕ} {m : ℕ}
        → Tells (After waits_on queue'' from'' seen'') place (try_forest t.d t.forest place t.x f a.waiting) m None
        → Tells (After t queue'' from'' seen'') place (up_to f) m None
    next_tried b = record { waiting = b.waiting; is = this_one ∙ b.is; holds = (b.holds.0, further b.waiting b.holds.1) }
