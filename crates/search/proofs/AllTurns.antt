-- The turns of the waiting edges: an edge that waits has its turn, and the model goes on as its forests say. The code stops when all that wait have
-- had their turns: then the model's later turns change nothing, nor do they where the search has ended, and no more than m edges wait.
-- Assumes nothing.
use mathlib.Core.Path.{◌≡◌, refl, sym, ap, ap₂, ◌∙◌, subst}
use mathlib.Core.Logic.{◌≢◌}
use mathlib.Core.Bool.{Bool, cond}
use mathlib.Core.List.{List}
use Rattle.std.specs.Prelude.{Some, None}
use Prim.Native.Nat.{ℕ, suc, ◌+◌, ◌-◌, ◌≤◌, ◌<◌}
use native.Mathlib.Numerals.{add-one}
use native.Mathlib.Omega.{arith}
use lib.ListN.{get_or}
use Rattle.rule.specs.Sets.{◌=?◌, In, at}
use Rattle.rule.specs.Legal.{Design, k}
use Rattle.rule.specs.Forests.{limit}
use Rattle.rule.specs.declared.Edge.{Edge}
use Rattle.rule.specs.Books.{the_edge}
use Rattle.rule.proofs.Tests.{is_false, lt_of, lt_is}
use Rattle.theory.specs.Search.{Waiting, edge_at, Result, and_then, pick_result, try_forests, turn, turns, search}
use Rattle.theory.specs.Search.Result.{found, going}
use Rattle.theory.proofs.Search.Reached.{size}
use Rattle.theory.proofs.Search.Image.{size_most}
use Rattle.reaching.specs.Trying.{Comes, Tells, Trying, After}
use Rattle.search.specs.declared.End.{End}
use Rattle.search.specs.Given.{IsEdge, Given}
use Rattle.search.specs.Answers.{Turned, Searched}
use Rattle.reaching.proofs.Held.{held_edge, held_few}
use Rattle.reaching.proofs.AllForests.{stays}

-- the forests that an edge may stand in
pub limit_is : {d : Design} {forest : ℕ → ℕ} {e : ℕ} {is : Edge} {own a k' : ℕ} → IsEdge d forest e is own → d.a ≡ a → k d ≡ k'
    → limit d e ≡ cond (is.colour =? 1) a k'
unfolding limit
limit_is {d = d} {is = is} {a = a} g qa qk =
    ap (λ (b : Bool). cond b d.a (k d)) g.red ∙ ap₂ (λ (x y : ℕ). cond (is.colour =? 1) x y) qa qk

turn_taken : (d : Design) (forest : ℕ → ℕ) (q : ℕ) (w : Waiting) → q < size w → turn d forest q w ≡ try_forests d forest q (edge_at w q) (limit d (edge_at w q)) w
unfolding turn
turn_taken d forest q w h = ap (λ (b : Bool). pick_result b (try_forests d forest q (edge_at w q) (limit d (edge_at w q)) w) (going w)) (lt_is q (size w) h)

turn_idle : (d : Design) (forest : ℕ → ℕ) (q : ℕ) (w : Waiting) → size w ≤ q → turn d forest q w ≡ going w
unfolding turn
turn_idle d forest q w h =
    ap (λ (b : Bool). pick_result b (try_forests d forest q (edge_at w q) (limit d (edge_at w q)) w) (going w)) (is_false _ (λ t. let l = lt_of q (size w) t in omega arith))

module _ {a k' : ℕ} {ones others colours forests root way edge : List ℕ} (g : Given a k' ones others colours forests root way edge) where
  -- the turns of the places before q
  abbrev before : ℕ → Result
  before q = turns g.d g.forest g.d.m q

  before_suc : (q : ℕ) → before (suc q) ≡ and_then (before q) (turn g.d g.forest q)
  unfolding turns
  before_suc q = refl

  -- the search has ended
  pub ended : {queue from seen : List ℕ} (n : ℕ) {e : End} (q : ℕ) → q ≤ g.d.m → Turned g queue from seen q n (Some e) → Searched g queue from n (Some e)
  unfolding search
  ended n {e = e} q h s =
      record {
        waiting = s.waiting;
        is = stays before (turn g.d g.forest) before_suc (found e.place e.forest s.waiting) q g.d.m h (λ _ _. refl) s.is;
        holds = s.holds.holds;
      }

  module _ (q : ℕ) {queue from seen : List ℕ} {n : ℕ} (s : Turned g queue from seen q n None) where
    pub all_edges : n ≤ g.d.m
    all_edges = omega (arith, s.holds.0, size_most g.d g.forest g.d.m s.waiting s.holds.1.sound)

    pub few_waiting : n ≤ 379
    few_waiting = omega (arith, s.holds.0, held_few s.holds.1.holds)

    -- the edge at a place
    pub queue_at : (p : ℕ) → p < n → get_or queue p 0 ≡ edge_at s.waiting p
    queue_at p h = held_edge s.holds.1.holds p (omega (arith, s.holds.0))

    -- all have had their turns
    pub all_over : n ≤ q → q ≤ g.d.m → Searched g queue from n None
    unfolding search
    all_over over here =
        record {
          waiting = s.waiting;
          is =
              stays before (turn g.d g.forest) before_suc (going s.waiting) q g.d.m here
              (λ i h. turn_idle g.d g.forest i s.waiting (omega (arith, s.holds.0)))
              s.is;
          holds = (s.holds.0, s.holds.1.holds);
        }

    module _ (h : q < n) where
      -- the edge at q has its turn
      abbrev x : ℕ
      x = edge_at s.waiting q

      this_turn : before (q + 1) ≡ try_forests g.d g.forest q x (limit g.d x) s.waiting
      this_turn =
          ap before (add-one q)
          ∙ before_suc q
          ∙ ap (λ (r : Result). and_then r (turn g.d g.forest q)) s.is
          ∙ turn_taken g.d g.forest q s.waiting (omega (arith, s.holds.0))

      abbrev pub has_turn : {is : Edge} {own : ℕ} → IsEdge g.d g.forest x is own → Trying is.one is.other q n root way edge queue from seen
      has_turn e =
          record {
            d = g.d;
            forest = g.forest;
            who = g.who;
            size = g.size;
            setting = g.setting;
            w = s.waiting;
            state = s.holds.1;
            waits = s.holds.0;
            here = h;
            x = x;
            is_x = refl;
            one = e.one;
            other = e.other;
          }

      module _ {is : Edge} {own last : ℕ} (e : IsEdge g.d g.forest x is own) (limited : limit g.d x ≡ last) where
        tried : before (q + 1) ≡ try_forests g.d g.forest q x last s.waiting
        tried = this_turn ∙ ap (λ (j : ℕ). try_forests g.d g.forest q x j s.waiting) limited

        pub turn_ends : {queue' from' seen' : List ℕ} {f : ℕ} (m : ℕ)
            → Comes (After (has_turn e) queue' from' seen') (found q f) (try_forests g.d g.forest q x last s.waiting) → Turned g queue' from' seen' (q + 1) m (Some (record { place = q; forest = f }))
        turn_ends m b = record { waiting = b.waiting; is = tried ∙ b.is; holds = b.holds.state }

        pub turn_goes : {queue' from' seen' : List ℕ} {m : ℕ}
            → Tells (After (has_turn e) queue' from' seen') q (try_forests g.d g.forest q x last s.waiting) m None → Turned g queue' from' seen' (q + 1) m None
        turn_goes b = record { waiting = b.waiting; is = tried ∙ b.is; holds = (b.holds.0, b.holds.1.state) }

      -- behind the new edge wait earlier ones
      earlier : 1 ≤ q → x ≢ g.d.m
      earlier low same =
          let r = s.holds.1.sound in
          omega (arith, r.once q 0 (omega (arith, s.holds.0)) r.some (same ∙ sym r.first))

      pub edge_range : In g.d.m x
      edge_range = s.holds.1.sound.edges q (omega (arith, s.holds.0))

      pub earlier_edge : 1 ≤ q → get_or queue q 0 - 1 < 512
      earlier_edge low = let ne = earlier low in omega (arith, queue_at q h, edge_range, g.setting.edges.high)

      -- what the arrays say of it
      pub edge_read : {u v own : ℕ} → 1 ≤ q → u ≡ get_or ones (get_or queue q 0 - 1) 0 → v ≡ get_or others (get_or queue q 0 - 1) 0
          → own ≡ get_or forests (get_or queue q 0 - 1) 0 → IsEdge g.d g.forest x (the_edge u v (get_or colours (get_or queue q 0 - 1) 0)) own
      unfolding at
      edge_read low is_one is_other is_own =
          let index : x ≡ suc (get_or queue q 0 - 1) = omega (arith, queue_at q h, edge_range.low) in
          let e : IsEdge g.d g.forest x (the_edge (get_or ones (get_or queue q 0 - 1) 0) (get_or others (get_or queue q 0 - 1) 0) (get_or colours (get_or queue q 0 - 1) 0))
          (get_or forests (get_or queue q 0 - 1) 0) =
          subst (λ (z : ℕ). IsEdge g.d g.forest x (the_edge (at ones z) (at others z) (at colours z)) (at forests z)) index (g.old x edge_range (earlier low)) in
          record { one = e.one ∙ sym is_one; other = e.other ∙ sym is_other; red = e.red; stands = e.stands ∙ sym is_own }
