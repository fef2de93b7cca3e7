-- The way back from a place to the new edge: what is written so far is the end of the path, backwards, and the model's trail from where the loop
-- stands, in front of that, is the whole path (`Leading`).
-- Assumes nothing.
use mathlib.Core.Path.{◌≡◌, refl, sym, ap, ◌∙◌, subst, subst₂}
use mathlib.Core.List.{List, [], ◌∷◌, ◌++◌, reverse, reverse-cons}
use Prim.Native.Nat.{ℕ, zero, suc, ◌+◌, ◌-◌, ◌≤◌, ◌<◌}
use native.Mathlib.Omega.{arith}
use lib.ListN.{length, get_or, set, length-reverse}
use Rattle.rule.specs.Calls.{Filled}
use Rattle.theory.specs.Search.{Waiting, edge_at, from_at, trail, path_to}
use Rattle.reaching.specs.Laid.{Laid}
use Rattle.search.specs.Ends.{Led, Traced}
use Rattle.reaching.proofs.Laid.{laid_none, laid_more, laid_length, laid_first}
use Rattle.reaching.proofs.Held.{held_edge, held_from, held_few}

trail_step : (w : Waiting) (steps q : ℕ) (l : List ℕ) → 1 ≤ q → q ≤ steps → trail w steps q l ≡ trail w (steps - 1) (from_at w q) (edge_at w q ∷ l)
unfolding trail
trail_step w zero q l low h = absurd (omega arith)
trail_step w (suc steps) zero l low h = absurd (omega arith)
trail_step w (suc steps) (suc q) l low h =
    let e : steps ≡ suc steps - 1 = omega arith in
    ap (λ (z : ℕ). trail w z (from_at w (suc q)) (edge_at w (suc q) ∷ l)) e

trail_over : (w : Waiting) (steps : ℕ) (l : List ℕ) → trail w steps 0 l ≡ l
unfolding trail
trail_over w zero l = refl
trail_over w (suc steps) l = refl

-- the loop stands at place q, and the edges of `behind` are written
pub record Leading (w : Waiting) (place q n : ℕ) (before now : List ℕ) : Type 0 where
  pub behind : List ℕ
  pub steps : ℕ
  pub enough : q ≤ steps
  pub leads : trail w steps q behind ≡ path_to w place
  pub written : Laid before 0 (reverse behind) now
  pub counts : n ≡ length behind
  pub room : n + q ≤ place

pub leading_begins : (w : Waiting) (place : ℕ) (before : List ℕ) → Leading w place place 0 before before
unfolding path_to
leading_begins w place before =
    record {
      behind = [];
      steps = place;
      enough = omega arith;
      leads = refl;
      written = laid_none before 0 (omega arith);
      counts = refl;
      room = omega arith;
    }

module _ {place : ℕ} {queue from before now : List ℕ} (t : Led place queue from) (q n : ℕ) (r : Leading t.w place q n before now) where
  within : q < length t.w.queue
  within = omega (arith, r.room, t.here)

  pub few_steps : n + q < 379
  few_steps = omega (arith, r.room, t.here, held_few t.holds)

  pub goes_back : 1 ≤ q → get_or from q 0 < q
  goes_back low = omega (arith, held_from t.holds q within, t.earlier q low within)

  pub leading_next : length before ≡ 379 → 1 ≤ q → Leading t.w place (get_or from q 0) (n + 1) before (set now n (get_or queue q 0))
  leading_next long low =
      let less = t.earlier q low within in
      let source = held_from t.holds q within in
      let index : 0 + length (reverse r.behind) ≡ n = omega (arith, length-reverse r.behind, r.counts) in
      record {
        behind = edge_at t.w q ∷ r.behind;
        steps = r.steps - 1;
        enough = omega (arith, r.enough);
        leads = ap (λ (z : ℕ). trail t.w (r.steps - 1) z (edge_at t.w q ∷ r.behind)) source ∙ sym (trail_step t.w r.steps q r.behind low r.enough) ∙ r.leads;
        written =
            subst₂ (λ (l : List ℕ) (j : ℕ). Laid before 0 l (set now j (get_or queue q 0))) (ap (λ (e : ℕ). reverse r.behind ++ (e ∷ [])) (held_edge t.holds q within) ∙ sym (reverse-cons (edge_at t.w q) r.behind))
            index
            (laid_more r.written (get_or queue q 0) (omega (arith, few_steps)));
        counts = omega (arith, r.counts);
        room = omega (arith, r.room);
      }

  pub leading_ends : q ≡ 0 → Traced t.w place before now n
  leading_ends z =
      let all : r.behind ≡ path_to t.w place =
      sym (trail_over t.w r.steps r.behind) ∙ ap (λ (j : ℕ). trail t.w r.steps j r.behind) (sym z) ∙ r.leads in
      record {
        backwards = subst (λ (l : List ℕ). Filled (reverse l) before now) all (laid_first r.written);
        counts = r.counts ∙ ap length all;
        as_long = laid_length r.written;
      }
