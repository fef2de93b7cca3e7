-- `seek`: what the search is given, what it leaves to the path and to the circuit, and what comes of them.
--
-- A search stands on the design with the offered edge and the forests of the book; the tables hold these as they hold the book's own,
-- since the offered edge stands in no forest.
-- Assumes nothing.
use mathlib.Core.Path.{◌≡◌, refl, sym, ap, ◌∙◌, subst}
use mathlib.Core.List.{List, [], ◌∷◌, reverse, reverse-append, reverse-reverse}
use Rattle.std.specs.Prelude.{Option}
use Prim.Native.Nat.{ℕ, zero, suc, ◌+◌, ◌≤◌, ◌<◌}
use native.Mathlib.Numerals.{add-one}
use native.Mathlib.Omega.{arith}
use lib.ListN.{length, get_or, take, drop, length-reverse, length-append}
use lib.Seq.{take-suc, take_at}
use Rattle.rule.specs.declared.Book.{Book}
use Rattle.rule.specs.Sets.{In, at}
use Rattle.rule.specs.Legal.{Design}
use Rattle.rule.specs.declared.Edge.{Edge}
use Rattle.rule.specs.Books.{the_edge, design_of, forest_of, offered, plus, next}
use Rattle.theory.specs.Search.{edge_at, search, path_to}
use Rattle.theory.specs.Search.Result.{found, going}
use Rattle.theory.proofs.Laws.Plus.{plus_one, plus_other, plus_red, new_one, new_other, new_red}
use Rattle.theory.proofs.Legal.Kept.{limit_most}
use Rattle.theory.proofs.Legal.Sound.{sound_head}
use Rattle.theory.proofs.Groups.Longer.{phi_old, phi_new}
use Rattle.theory.proofs.Search.Outcome.{stuck_reached}
use Rattle.theory.proofs.Search.Reached.{Reached}
use Rattle.theory.proofs.Search.Stages.{Ended, Turned, search_ends}
use Rattle.tables.proofs.Longer.{tabled_longer}
use Rattle.search.specs.declared.End.{End}
use Rattle.reaching.specs.Setting.{Setting, HoldsWaiting}
use Rattle.search.specs.Given.{IsEdge, Given, Sought}
use Rattle.reaching.specs.Trying.{Comes}
use Rattle.search.specs.Answers.{Answers, Searched}
use Rattle.search.specs.Ends.{Led, Traced, Queued, CircuitListed}
use Rattle.reaching.proofs.Held.{held_few}
use Rattle.moving.specs.Moves.{backward}
use Rattle.engine.specs.Seek.{forests_for, Seekable, EndsIn, Fails}
use Rattle.engine.proofs.Says.{offered_ends, offered_arranged, offered_last, offered_unplaced}

-- ---- the first places of an array, read backwards

pub backward_reverse : (path : List ℕ) (n : ℕ) → n ≤ length path → backward path n ≡ reverse (take n path)
unfolding backward
backward_reverse path zero h = refl
backward_reverse path (suc n) h =
    ap (λ (l : List ℕ). get_or path n 0 ∷ l) (backward_reverse path n (omega arith))
    ∙ sym (reverse-append (take n path) (get_or path n 0 ∷ []))
    ∙ ap reverse (sym (take-suc path n 0 (omega arith)))

pub backward_front : (path l : List ℕ) (n : ℕ) → n ≤ length path → take n path ≡ reverse l → backward path n ≡ l
backward_front path l n h q = backward_reverse path n h ∙ ap reverse q ∙ reverse-reverse l

module _ (B : Book) (given : Edge) {root way edge : List ℕ} (s : Seekable B given.one given.other root way edge) where
  abbrev d : Design
  d = offered B given

  -- ---- what the search is given

  few_edges : B.count ≤ 512
  few_edges = (sound_head B s.sound).edges

  few_forests : B.a + B.b ≤ 6
  few_forests = let p = (sound_head B s.sound).profile in omega (arith, p.0.high, p.1.high)

  body : (x : ℕ) → In B.n x → In 64 x
  body x h = record { low = h.low; high = omega (arith, h.high, (sound_head B s.sound).bodies.high) }

  setting : Setting (offered B given) (forests_for B) root way s.who edge s.size
  unfolding plus design_of
  setting =
      let ends = offered_ends B given s.sound s.one s.other in
      record {
        edges = omega (arith, few_edges);
        forests = few_forests;
        one = λ e h. body _ (ends.one e h);
        other = λ e h. body _ (ends.other e h);
        tabled = tabled_longer (design_of B) given (forest_of B) root way s.who edge s.size s.tabled;
      }

  old_edge : (e : ℕ) → In B.count e
      → IsEdge (offered B given) (forests_for B) e (the_edge (at B.ones e) (at B.others e) (at B.colours e)) (at B.forests e)
  unfolding design_of
  old_edge e h =
      record {
        one = plus_one (design_of B) given e (omega arith);
        other = plus_other (design_of B) given e (omega arith);
        red = plus_red (design_of B) given e (omega arith);
        stands = phi_old (design_of B) given (forest_of B) e h;
      }

  is_given : Given B.a (B.a + B.b) B.ones B.others B.colours B.forests root way edge
  unfolding plus design_of
  is_given =
      record {
        d = offered B given;
        forest = forests_for B;
        who = s.who;
        size = s.size;
        setting = setting;
        for_red = refl;
        for_black = refl;
        old = λ e h ne. old_edge e (omega (arith, h.low, h.high, ne));
      }

  pub sought : Sought B.a (B.a + B.b) given (B.count + 1) B.ones B.others B.colours B.forests root way edge
  unfolding is_given plus design_of
  sought =
      record {
        given = is_given;
        last = sym (add-one B.count);
        new =
            subst (λ (e : ℕ). IsEdge (offered B given) (forests_for B) e given 0) (sym (add-one B.count))
            (record {
              one = new_one (design_of B) given;
              other = new_other (design_of B) given;
              red = new_red (design_of B) given;
              stands = phi_new (design_of B) given (forest_of B);
            });
      }

  -- what the search has come to, of the offered edge
  pub searched : (queue from : List ℕ) (n : ℕ) (o : Option End) → Searched sought.given queue from n o
      → Answers (λ w. HoldsWaiting w queue from) (search (offered B given) (forests_for B) (next B)) n o
  unfolding sought is_given plus design_of
  searched queue from n o r = r

  last_edge : In (offered B given).m (next B)
  last_edge = offered_last B given s.sound s.one s.other

  -- ---- it ended

  module _ (p f : ℕ) (queue from : List ℕ) (r : Comes (λ w. HoldsWaiting w queue from) (found p f) (search (offered B given) (forests_for B) (next B))) where
    pub ended : Ended (offered B given) (forests_for B) (next B) p f r.waiting
    ended =
        subst (Turned (offered B given) (forests_for B) (next B) d.m) r.is
        (search_ends (offered B given) (forests_for B) (next B) last_edge)

    abbrev pub led : Led p queue from
    led = record { w = r.waiting; holds = r.holds; here = ended.waits; earlier = ended.reached.earlier }

    pub small_forest : f < 256
    small_forest = omega (arith, ended.free.allowed.high, limit_most (offered B given) (edge_at r.waiting p), setting.forests)

    pub ends_there : (path path' : List ℕ) (n : ℕ) → length path ≡ 379 → Traced r.waiting p path path' n
        → EndsIn B given path' n f × (length path' ≡ 379)
    ends_there path path' n long t =
        let back = reverse (path_to r.waiting p) in
        let as_many : length back ≡ n = length-reverse (path_to r.waiting p) ∙ sym t.counts in
        let long' : length path' ≡ 379 = t.as_long ∙ long in
        let room : n ≤ 379 = omega (arith, as_many, long', ap length t.backwards, length-append back (drop (length back) path)) in
        let front : take n path' ≡ back = ap (take n) t.backwards ∙ take_at back (drop (length back) path) n as_many in (
          record {
            waiting = r.waiting;
            place = p;
            is_found = r.is;
            leads = backward_front path' (path_to r.waiting p) n (omega (arith, room, long')) front;
            counts = t.counts;
            few = room;
          },
          long',
        )

  -- ---- it did not

  module _ (n : ℕ) (queue from : List ℕ)
      (r : Comes (λ w. (n ≡ length w.queue) × HoldsWaiting w queue from) going (search (offered B given) (forests_for B) (next B))) where
    pub stuck : Reached (offered B given) (forests_for B) (next B) r.waiting
    stuck =
        stuck_reached (offered B given) (offered_ends B given s.sound s.one s.other) (forests_for B)
        (offered_arranged B given s.sound s.one s.other) (next B) last_edge
        (offered_unplaced B given s.sound s.one s.other) r.waiting r.is

    pub waits : Queued n queue
    unfolding plus design_of
    waits =
        record {
          d = offered B given;
          forest = forests_for B;
          w = r.waiting;
          edges = omega (arith, few_edges);
          sound = stuck;
          counts = r.holds.0;
          few = omega (arith, r.holds.0, held_few r.holds.1);
          queued = ap (λ (z : ℕ). take z queue) r.holds.0 ∙ r.holds.1.queued;
        }

    pub fails_there : (list listed : List ℕ) (len : ℕ) → length listed ≡ length list → CircuitListed waits.w waits.d.m n list listed len
        → Fails B given list listed len × (len < 65536)
    unfolding waits plus design_of
    fails_there list listed len long l = (
      record { waiting = r.waiting; is_stuck = r.is; fills = l.in_order; counts = l.counts; as_long = long },
      omega (arith, l.one_fewer, waits.few),
    )
