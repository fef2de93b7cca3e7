-- Edges marked in words, one after another: each is marked once its place is passed, and nothing else is. At the end the marked numbers are the
-- edges seen, but for the new one.
-- Assumes nothing.
use mathlib.Core.Path.{◌≡◌, sym, ap, ap₂, ◌∙◌, subst}
use mathlib.Core.Logic.{⊎_elim, ◌≢◌}
use mathlib.Core.Bool.{Bool, false≢true}
use mathlib.Core.List.{List}
use Prim.Native.Nat.{ℕ, suc, ◌+◌, ◌/◌, ◌%◌, ◌^◌, ◌≤◌, ◌<◌}
use native.Mathlib.Omega.{arith}
use lib.Bits.{bit_or}
use lib.ListN.{length, get_or, set, replicate}
use lib.Seq.{get_or-set_same, get_or-set_other}
use Rattle.rule.specs.Sets.{Is, ◌or◌, ◌=?◌, Set, In, ◌without◌, count, numbers}
use Rattle.rule.proofs.Tests.{same_test, or_l, or_r, or_elim, eq_of, eq_is, by_eq, without_old, without_ne, without_make}
use Rattle.rule.proofs.Counting.{count_eq, count_without, numbers_eq, length_numbers}
use Rattle.theory.specs.Search.{edge_at}
use Rattle.theory.proofs.Search.Image.{seen_count}
use Rattle.words.specs.Bits.{bit}
use Rattle.words.proofs.Bits.{bit_zero, bit_or_lem, bit_power}
use Rattle.search.specs.Marks.{MarksWritten, is_marked, Marked, Markings}
use Rattle.search.specs.Ends.{Queued, CircuitListed}
use Rattle.reaching.proofs.Bits.{zeros_at, or_none}
use Rattle.reaching.proofs.Laid.{laid_first}
use Rattle.reaching.proofs.Held.{front_at}

-- ---- one mark more

with_mark : List ℕ → ℕ → List ℕ
with_mark marks e = set marks (e / 64) (bit_or (get_or marks (e / 64) 0) (2 ^ (e % 64)))

mark_more : (marks : List ℕ) (e y : ℕ) → e / 64 < length marks → is_marked (with_mark marks e) y ≡ (is_marked marks y or y =? e)
unfolding with_mark
mark_more marks e y h =
    let i = e / 64 in
    let v = bit_or (get_or marks i 0) (2 ^ (e % 64)) in
    by_eq (y / 64) i
    (λ q.
    ap (λ (z : ℕ). bit (get_or (set marks i v) z 0) (y % 64)) q
    ∙ ap (λ (x : ℕ). bit x (y % 64)) (get_or-set_same marks i v 0 h)
    ∙ bit_or_lem (get_or marks i 0) (2 ^ (e % 64)) (y % 64)
    ∙ ap₂ (λ (a b : Bool). a or b) (ap (λ (z : ℕ). bit (get_or marks z 0) (y % 64)) (sym q))
    (bit_power (e % 64) (y % 64)
    ∙ same_test _ _ (λ t. let k = eq_of (y % 64) (e % 64) t in eq_is y e (omega arith)) (λ t. let k = eq_of y e t in eq_is (y % 64) (e % 64) (ap (λ (z : ℕ). z % 64) k))))
    (λ ne.
    ap (λ (x : ℕ). bit x (y % 64)) (get_or-set_other marks i (y / 64) v 0 ne)
    ∙ sym (or_none (is_marked marks y) (y =? e) (λ t. ne (ap (λ (z : ℕ). z / 64) (eq_of y e t)))))

pub no_marks : (n y : ℕ) → ¬ (Is (is_marked (replicate n 0) y))
no_marks n y t = false≢true (sym (ap (λ (z : ℕ). bit z (y % 64)) (zeros_at n (y / 64)) ∙ bit_zero (y % 64)) ∙ t)

pub none_marked : (queue marks : List ℕ) → ((y : ℕ) → ¬ (Is (is_marked marks y))) → Marked queue 1 marks
none_marked queue marks none = record { has = λ q low h. absurd (omega arith); only = λ y t. absurd (none y t) }

pub one_marked : {queue marks : List ℕ} (q : ℕ) → 1 ≤ q → Marked queue q marks → get_or queue q 0 / 64 < length marks
    → Marked queue (q + 1) (set marks (get_or queue q 0 / 64) (bit_or (get_or marks (get_or queue q 0 / 64) 0) (2 ^ (get_or queue q 0 % 64))))
unfolding with_mark
one_marked {queue = queue} {marks = marks} q low r h =
    let e = get_or queue q 0 in
    record {
      has =
          λ p lp hp.
          mark_more marks e (get_or queue p 0) h
          ∙ by_eq p q (λ same. or_r (is_marked marks (get_or queue p 0)) _ (eq_is _ _ (ap (λ (z : ℕ). get_or queue z 0) same)))
          (λ ne. or_l _ _ (r.has p lp (omega arith)));
      only =
          λ y t.
          ⊎_elim (λ o. let k = r.only y o in (k.0, (k.1.0, (omega (arith, k.1.1.0), k.1.1.1))))
          (λ n. (q, (low, (omega arith, sym (eq_of y e n)))))
          (or_elim _ _ (sym (mark_more marks e y h) ∙ t));
    }

-- ---- the edges that wait, but for the new one

module _ {n : ℕ} {queue : List ℕ} (t : Queued n queue) where
  abbrev others : Set
  others = t.w.seen without t.d.m

  edge_here : (q : ℕ) → q < n → get_or queue q 0 ≡ edge_at t.w q
  edge_here q h = front_at queue t.w.queue n q t.queued h

  pub is_edge : (q : ℕ) → q < n → In t.d.m (get_or queue q 0)
  is_edge q h = subst (In t.d.m) (sym (edge_here q h)) (t.sound.edges q (omega (arith, t.counts)))

  pub has_word : (q : ℕ) → 1 ≤ q → q < n → get_or queue q 0 < 576
  has_word q low h = omega (arith, (is_edge q h).high, t.edges)

  pub some_wait : 1 ≤ n
  some_wait = omega (arith, t.counts, t.sound.some)

  -- one fewer than wait
  pub others_count : suc (count others t.d.m) ≡ n
  others_count =
      let m = t.d.m in
      let new = t.sound.edges 0 t.sound.some in
      count_without t.w.seen m m (subst (In m) t.sound.first new) (subst (λ (z : ℕ). Is (t.w.seen z)) t.sound.first (t.sound.at_seen 0 t.sound.some))
      ∙ seen_count t.d t.forest m t.w t.sound
      ∙ sym t.counts

  module _ {marks : List ℕ} (r : Marked queue n marks) where
    marked_other : (y : ℕ) → Is (is_marked marks y) → Is (others y)
    marked_other y s =
        let k = r.only y s in
        let q = k.0 in
        let here : edge_at t.w q ≡ y = sym (edge_here q k.1.1.0) ∙ k.1.1.1 in
        let within : q < length t.w.queue = omega (arith, k.1.1.0, t.counts) in
        without_make t.w.seen t.d.m y (subst (λ (z : ℕ). Is (t.w.seen z)) here (t.sound.at_seen q within))
        (λ same. omega (arith, k.1.0, t.sound.once q 0 within t.sound.some (here ∙ same ∙ sym t.sound.first)))

    other_marked : (y : ℕ) → Is (others y) → Is (is_marked marks y)
    other_marked y s =
        let k = t.sound.seen_at y (without_old t.w.seen t.d.m y s) in
        let q = k.0 in
        let within : q < n = omega (arith, k.1.0, t.counts) in
        let later : q ≢ 0 = λ z. without_ne t.w.seen t.d.m y s (sym k.1.1 ∙ ap (edge_at t.w) z ∙ t.sound.first) in
        subst (λ (z : ℕ). Is (is_marked marks z)) (edge_here q within ∙ k.1.1) (r.has q (omega arith) within)

    pub same : (y : ℕ) → In t.d.m y → is_marked marks y ≡ others y
    same y _ = same_test _ _ (marked_other y) (other_marked y)

    abbrev pub markings : {places : ℕ} → 378 ≤ places → Markings marks places
    markings room =
        record {
          m = t.d.m;
          small = omega (arith, t.edges);
          within = λ y s. let k = r.only y s in subst (In t.d.m) k.1.1.1 (is_edge k.0 k.1.1.0);
          room = omega (arith, room, count_eq (is_marked marks) others t.d.m same, others_count, t.few);
        }

    pub others_listed : {before after : List ℕ} {len : ℕ} → MarksWritten before 0 (numbers (is_marked marks) t.d.m) after len
        → CircuitListed t.w t.d.m n before after len
    others_listed {before = before} {after = after} {len = len} f =
        let g = subst (λ (l : List ℕ). MarksWritten before 0 l after len) (numbers_eq (is_marked marks) others t.d.m same) f in
        record {
          in_order = laid_first g.laid;
          counts = omega (arith, g.counts);
          one_fewer = omega (arith, g.counts, length_numbers others t.d.m, others_count);
        }
