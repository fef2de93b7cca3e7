-- What `reaching::try_forest` asks and answers: the labels tell whether forest f joins the ends of x, the word of its path carries the edges
-- that come to wait, and with them the model goes on; or it ends in f.
-- Assumes nothing.
use mathlib.Core.Path.{◌≡◌, sym, ap₂, ◌∙◌, subst}
use mathlib.Core.Logic.{◌≢◌}
use mathlib.Core.Bool.{Bool, false, false≢true}
use mathlib.Core.List.{List}
use Rattle.std.specs.Prelude.{None}
use Prim.Native.Nat.{ℕ, ◌+◌, ◌-◌, ◌≤◌, ◌<◌}
use native.Mathlib.Omega.{arith}
use lib.Bits.{bit_xor, bit_or}
use lib.ListN.{get_or, set}
use Rattle.rule.specs.Sets.{Is, ◌=?◌, In, count, numbers}
use Rattle.rule.specs.Forests.{limit, in_forest}
use Rattle.theory.specs.Joined.{spans}
use Rattle.theory.specs.Search.{fresh, reach, try_forest}
use Rattle.theory.specs.Search.Result.{found}
use Rattle.theory.proofs.Legal.Kept.{limit_most}
use Rattle.theory.proofs.Search.Reached.{size, grows_refl}
use Rattle.tables.specs.Tables.{start, label, word}
use Rattle.reaching.specs.Words.{Carries, standing_at, Coming, CameToWait}
use Rattle.reaching.specs.Trying.{Comes, Tells, Trying, After}
use Rattle.reaching.proofs.Held.{held_few}
use Rattle.reaching.proofs.Paths.{joined_ends, carries_fresh}
use Rattle.reaching.proofs.Further.{try_joined, try_free, next_room, reached_further}

module _ {u v place n : ℕ} {root way edge queue from seen : List ℕ} (t : Trying u v place n root way edge queue from seen) where
  pub waits_here : place < size t.w
  waits_here = omega (arith, t.here, t.waits)

  pub is_edge : In t.d.m t.x
  is_edge = subst (In t.d.m) t.is_x (t.state.sound.edges place waits_here)

  pub few_places : n ≤ 379
  few_places = omega (arith, t.waits, held_few t.state.holds)

  pub ends_are : In 64 u × In 64 v
  ends_are = (subst (In 64) t.one (t.setting.one t.x is_edge), subst (In 64) t.other (t.setting.other t.x is_edge))

  -- the ends as they are read
  module _ {u' v' : ℕ} (is_u : u' ≡ u) (is_v : v' ≡ v) (f : ℕ) where
    pub ends_read : In 64 u' × In 64 v'
    ends_read = (subst (In 64) (sym is_u) ends_are.0, subst (In 64) (sym is_v) ends_are.1)

    pub joined_read : {test : Bool} → test ≡ (label root f u' =? label root f v') → test ≡ (label root f u =? label root f v)
    joined_read q = q ∙ ap₂ (λ (a b : ℕ). label root f a =? label root f b) is_u is_v

    pub path_read : {on : ℕ} → on ≡ bit_xor (word way f u') (word way f v') → on ≡ bit_xor (word way f u) (word way f v)
    path_read q = q ∙ ap₂ (λ (a b : ℕ). bit_xor (word way f a) (word way f b)) is_u is_v

  module _ {f : ℕ} (allowed : In (limit t.d t.x) f) where
    pub one_of_six : In 6 f
    one_of_six = omega (arith, limit_most t.d t.x, t.setting.forests)

    joined_is : (label root f u =? label root f v) ≡ spans t.d (in_forest t.forest f) t.x
    joined_is =
        ap₂ (λ (a b : ℕ). label root f a =? label root f b) (sym t.one) (sym t.other) ∙ joined_ends t.setting t.x f is_edge one_of_six

    -- what the test said
    pub joined_then : {test : Bool} → test ≡ (label root f u =? label root f v) → Is test → Is (spans t.d (in_forest t.forest f) t.x)
    joined_then q yes_it_is = sym joined_is ∙ sym q ∙ yes_it_is

    pub free_then : {test : Bool} → test ≡ (label root f u =? label root f v) → test ≡ false → ¬ (Is (spans t.d (in_forest t.forest f) t.x))
    free_then q not_so s = false≢true (sym not_so ∙ q ∙ joined_is ∙ s)

    pub free_answers : t.forest t.x ≢ f → ¬ (Is (spans t.d (in_forest t.forest f) t.x))
        → Comes (After t queue from seen) (found place f) (try_forest t.d t.forest place t.x f t.w)
    free_answers ne free =
        record { waiting = t.w; is = try_free t.d t.forest place t.x f t.w ne free; holds = record { state = t.state; grows = grows_refl t.w } }

    module _ (spanned : Is (spans t.d (in_forest t.forest f) t.x)) {on : ℕ} (is_on : on ≡ bit_xor (word way f u) (word way f v)) where
      pub between : on ≡ bit_xor (word way f (t.d.one t.x)) (word way f (t.d.other t.x))
      between = is_on ∙ ap₂ (λ (a b : ℕ). bit_xor (word way f a) (word way f b)) (sym t.one) (sym t.other)

      -- what comes to wait
      abbrev pub path_comes : Coming (standing_at edge (start f)) (bit_xor (bit_or (get_or seen (f - 1) 0) on) (get_or seen (f - 1) 0)) n 379
      path_comes =
          record {
            edges = fresh t.d t.forest t.w t.x f;
            most = t.d.m;
            carried =
                subst
                (λ (o : ℕ). Carries (standing_at edge (start f)) (bit_xor (bit_or (get_or seen (f - 1) 0) o) (get_or seen (f - 1) 0)) (fresh t.d t.forest t.w t.x f) t.d.m)
                (sym between)
                (carries_fresh t.setting t.x f is_edge one_of_six spanned t.w (get_or seen (f - 1) 0) (λ j h. t.state.marks f j one_of_six h));
            room =
                subst (λ (j : ℕ). j + count (fresh t.d t.forest t.w t.x f) t.d.m ≤ 379) (sym t.waits)
                (next_room t.setting t.w queue from seen t.state place t.x f waits_here t.is_x allowed);
          }

      pub joined_answers : {queue' from' : List ℕ} {r : ℕ} → t.forest t.x ≢ f
          → CameToWait (numbers (fresh t.d t.forest t.w t.x f) t.d.m) n place queue from queue' from' r
          → Tells (After t queue' from' (set seen (f - 1) (bit_or (get_or seen (f - 1) 0) on))) place (try_forest t.d t.forest place t.x f t.w) r None
      joined_answers {queue' = queue'} {from' = from'} {r = r} ne c =
          record {
            waiting = reach t.d t.forest place t.x f t.w;
            is = try_joined t.d t.forest place t.x f t.w ne spanned;
            holds =
                subst
                (λ (o : ℕ). (r ≡ size (reach t.d t.forest place t.x f t.w)) × After t queue' from' (set seen (f - 1) (bit_or (get_or seen (f - 1) 0) o)) (reach t.d t.forest place t.x f t.w))
                (sym between)
                (reached_further t.setting t.w queue from seen t.state place t.x f waits_here t.is_x allowed is_edge one_of_six spanned queue' from' r
                (subst (λ (j : ℕ). CameToWait (numbers (fresh t.d t.forest t.w t.x f) t.d.m) j place queue from queue' from' r) t.waits c));
          }
