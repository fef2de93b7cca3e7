-- The edge lines of a text, one by one: what the loop of `text::walk` knows where it stands.
--
-- In order: an edge line in range, and one that is at fault; the loop's invariant `Walked`, kept by each edge line, whose edge is entered in the lists; what follows where it
-- stops; the whole text. Not here: the lines of the head (Heads.antt); edges in lists (Lists.antt).
-- Assumes nothing.
use mathlib.Core.Path.{◌≡◌, refl, sym, ap, ◌∙◌, subst}
use mathlib.Core.Logic.{inl, inr, ◌≢◌}
use mathlib.Core.List.{List, [], ◌∷◌, ◌++◌}
use Prim.Native.Nat.{ℕ, ◌+◌, ◌≤◌, ◌<◌}
use native.Mathlib.Omega.{arith}
use lib.ListN.{length, drop, length-append, length-drop, drop_of_length-le}
use Rattle.rule.specs.declared.Edge.{Edge}
use Rattle.rule.specs.Books.{EdgeRange}
use Rattle.rule.specs.declared.Reason.{Reason}
use Rattle.rule.specs.declared.Reason.TheVariants.{Body, SameBody, Line}
use Rattle.rule.specs.Sets.{In}
use Rattle.rule.specs.Books.{capacity}
use Rattle.rule.specs.Reasons.{Fail}
use Rattle.rule.proofs.Tests.{cases, by_eq}
use Rattle.std.specs.Prelude.{Option, Some, None, Result, Ok, Err}
use Rattle.text.specs.declared.EdgeRead.{EdgeRead}
use Rattle.text.specs.declared.Head.{Head}
use Rattle.text.specs.declared.Step.{Step}
use Rattle.text.specs.Due.{to_edges, lines_said, edge_line, due}
use Rattle.grammar.specs.Grammar.{AtFault}
use Rattle.grammar.specs.Grammar.AtFault.{other, fails}
use Rattle.grammar.proofs.Runs.{stands_on, stands_refused}
use Rattle.text.specs.Faults.{Faulty, RefusedAt}
use Rattle.text.specs.Readings.{read_edge}
use Rattle.text.specs.Judging.{within, on, step_of, read_step}
use Rattle.text.specs.EdgeLists.{EdgeLists, Roomy, EdgeEntered, EdgesEntered}
use Rattle.text.specs.Judgements.{IsHead, Enters}
use Rattle.text.proofs.Picks.{pick_is, pick_not, pick_eq, pick_ne}
use Rattle.text.proofs.Ranges.{within_in, in_within}
use Rattle.text.proofs.Lists.{entered_none, entered_more, entered_roomy, enters_sheet}
use Rattle.text.proofs.EdgeReads.{EdgeAt, edge, edge_sound, edge_none}
use Rattle.text.proofs.SheetRuns.{ended_sheet, edges_few}
use Rattle.text.proofs.Heads.{Stands}
use Rattle.text.proofs.Results.{same_ok, same_err, ok_err}

-- ---- an edge line

-- what the checks say of an edge
data Ends (n : ℕ) (e : EdgeRead) : Result Step Reason → Type 0 where
  fine : In n e.one → In n e.other → e.one ≢ e.other → Ends n e (Ok (on e))
  body : ¬ (In n e.one × In n e.other) → Ends n e (Err Body)
  same : In n e.one × In n e.other → e.one ≡ e.other → Ends n e (Err SameBody)

ends_checked : (n : ℕ) (e : EdgeRead) → Ends n e (step_of n (Some e))
unfolding step_of
ends_checked n e =
    cases (within 1 n e.one)
    (λ i.
    cases (within 1 n e.other)
    (λ j.
    let both : In n e.one × In n e.other = (within_in n e.one i, within_in n e.other j) in
    by_eq e.one e.other
    (λ q. subst (Ends n e) (sym (pick_is _ _ _ i ∙ pick_is _ _ _ j ∙ pick_eq _ _ _ _ q)) (same both q))
    (λ q. subst (Ends n e) (sym (pick_is _ _ _ i ∙ pick_is _ _ _ j ∙ pick_ne _ _ _ _ q)) (fine both.0 both.1 q)))
    (λ j. subst (Ends n e) (sym (pick_is _ _ _ i ∙ pick_not _ _ _ j)) (body (λ h. j (in_within n e.other h.1)))))
    (λ i. subst (Ends n e) (sym (pick_not _ _ _ i)) (body (λ h. i (in_within n e.one h.0))))

module _ (text : List ℕ) (at n : ℕ) where
  step_on : (s : Step) → read_step n text at ≡ Ok s → EdgeAt text at s.edge s.next × EdgeRange n s.edge
  unfolding read_step step_of
  step_on s h = read (read_edge text at) refl h
    where
      checked : (e : EdgeRead) → EdgeAt text at (edge e) e.next → (x : Result Step Reason) → Ends n e x → x ≡ Ok s
          → EdgeAt text at s.edge s.next × EdgeRange n s.edge
      checked e f x (fine first second differ) q =
          subst (λ (t : Step). EdgeAt text at t.edge t.next × EdgeRange n t.edge) (same_ok q)
          (f, record { one = first; other = second; different = differ; colour = f.written.colour })
      checked e f x (body none) q = absurd (ok_err (sym q))
      checked e f x (same both equal) q = absurd (ok_err (sym q))

      read : (o : Option EdgeRead) → read_edge text at ≡ o → step_of n o ≡ Ok s → EdgeAt text at s.edge s.next × EdgeRange n s.edge
      read None e q = absurd (ok_err (sym q))
      read (Some r) e q = checked r (edge_sound text at r e) _ (ends_checked n r) q

  step_refused : (a b m : ℕ) (before : List Edge) (ended : Type 0) (reason : Reason) → at ≤ length text → length before < m → ¬ ended
      → read_step n text at ≡ Err reason → AtFault (edge_line a b n m before) ended (drop at text) reason
  unfolding read_step step_of
  step_refused a b m before ended reason l some going h = read (read_edge text at) refl h
    where
      fault : (why : Reason) (e : EdgeRead) → EdgeAt text at (edge e) e.next → why ≡ reason
          → Fail ((edge_line a b n m before).checks (edge e)) why → AtFault (edge_line a b n m before) ended (drop at text) reason
      fault why e f is bad =
          subst (AtFault (edge_line a b n m before) ended (drop at text)) is
          (fails (edge e) (drop e.next text) (record { allowed = (some, f.written); begins = f.begins }) bad)

      checked : (e : EdgeRead) → EdgeAt text at (edge e) e.next → (x : Result Step Reason) → Ends n e x → x ≡ Err reason
          → AtFault (edge_line a b n m before) ended (drop at text) reason
      checked e f x (fine one two differ) q = absurd (ok_err q)
      checked e f x (body none) q = fault Body e f (same_err q) (inl (none, refl, refl))
      checked e f x (same both equal) q = fault SameBody e f (same_err q) (inr (both, inl ((λ d. d equal), refl, refl)))

      read : (o : Option EdgeRead) → read_edge text at ≡ o → step_of n o ≡ Err reason → AtFault (edge_line a b n m before) ended (drop at text) reason
      read None e q =
          subst (AtFault (edge_line a b n m before) ended (drop at text)) (same_err q)
          (other (λ x more next. edge_none text at l e x more next.allowed.1 next.begins) going)
      read (Some r) e q = checked r (edge_sound text at r e) _ (ends_checked n r) q

-- ---- the loop stands past i edge lines

abbrev head_of : (a b n m : ℕ) → Head
head_of a b n m = record { a = a; b = b; n = n; edges = m }

pub record Walked (text : List ℕ) (a b n m : ℕ) (before : EdgeLists) (at i : ℕ) (after : EdgeLists) : Type 0 where
  pub room : Roomy before
  pub edges : List Edge
  pub count : length edges ≡ i
  pub few : i ≤ m
  pub stands : Stands text at (to_edges a b n m edges)
  pub entered : EdgesEntered edges before after

module _ {text : List ℕ} {a b n m : ℕ} {before : EdgeLists} where
  pub walked_none : {first : ℕ} (room : Roomy before) → IsHead text (head_of a b n m) first → Walked text a b n m before first 0 before
  walked_none room head =
      record {
        room = room;
        edges = [];
        count = refl;
        few = omega arith;
        stands = record { within = head.within; leads = head.leads };
        entered = entered_none;
      }

  module _ {at i : ℕ} {after : EdgeLists} where
    -- no more than a book holds
    walked_few : Walked text a b n m before at i after → m ≤ capacity
    walked_few w = edges_few w.stands.leads

    -- there is room for one edge more
    pub walked_room : Walked text a b n m before at i after → i < m → (i < capacity) × Roomy after
    walked_room w some =
        let few = walked_few w in
        (omega arith, entered_roomy w.entered w.room (omega (arith, w.count)))

    pub walked_on : {s : Step} {last : EdgeLists} → Walked text a b n m before at i after → i < m → read_step n text at ≡ Ok s
        → EdgeEntered i s.edge after last → Walked text a b n m before s.next (i + 1) last
    unfolding due
    walked_on {s} w some e new =
        let f = step_on text at n s e in
        let range = f.1 in
        record {
          room = w.room;
          edges = w.edges ++ s.edge ∷ [];
          count = omega (arith, length-append w.edges (s.edge ∷ []), w.count);
          few = omega arith;
          stands =
              stands_on w.stands s.edge s.next
              (record { allowed = (omega (arith, w.count), f.0.written); begins = f.0.begins })
              f.0.within
              ((range.one, range.other), (range.different, tt));
          entered = entered_more w.entered w.room w.count (walked_room w some).0 new;
        }

    -- the number of the line that is due
    walked_line : (w : Walked text a b n m before at i after) (reason : Reason) → Faulty (to_edges a b n m w.edges) (drop at text) reason
        → RefusedAt text reason (i + 5)
    unfolding lines_said
    walked_line w reason bad =
        subst (RefusedAt text reason) (omega (arith, w.count)) (stands_refused reason w.stands bad)

    pub walked_fault : {reason : Reason} → Walked text a b n m before at i after → i < m → read_step n text at ≡ Err reason
        → RefusedAt text reason (i + 5)
    unfolding due
    walked_fault {reason} w some e =
        walked_line w reason
        (step_refused text at n a b m w.edges _ reason w.stands.within (omega (arith, w.count))
        (λ end. absurd (omega (arith, w.count, end.0))) e)

    -- all edge lines have come, and something follows
    pub walked_extra : Walked text a b n m before at i after → m ≤ i → at < length text → {last : ℕ} → last ≡ m → RefusedAt text Line (last + 5)
    unfolding due
    walked_extra w all more is =
        subst (RefusedAt text Line) (omega (arith, w.few))
        (walked_line w Line
        (other (λ e rest next. absurd (omega (arith, w.count, next.allowed.0)))
        (λ end. absurd (omega (arith, ap length end.1, length-drop at text)))))

    -- all edge lines have come, and nothing follows
    pub walked_whole : Walked text a b n m before at i after → m ≤ i → length text ≤ at
        → Enters text before after (Ok (head_of a b n m))
    walked_whole w all none =
        let count : length w.edges ≡ m = omega (arith, w.count, w.few) in
        let s = ended_sheet text a b n m w.edges (drop at text) w.stands.leads (count, drop_of_length-le text {i = at} none) in
        enters_sheet
        (record {
          sheet = record { a = a; b = b; n = n; edges = w.edges };
          range = s.0;
          is_text = s.1;
          a_is = refl;
          b_is = refl;
          n_is = refl;
          edges_is = sym count;
        })
        w.entered
