-- One turn of the programs' loop, in which a page is asked for and handed over, and the turns one after the other.
--
-- The checks of a page pass, so that it is written or says that all lines have come. One that is written is the page that is next; handed over, it
-- leaves the state after it, or the state before where the write failed. So what was handed over are successive pages (crate readings): the state is
-- that of the text with so many lines written, none past the last, and in each turn fewer lines are left.
-- Not here: which bytes came, put one behind the other (Arrived.antt).
-- Assumes nothing.
use mathlib.Core.Path.{◌≡◌, refl, sym, ap, ◌∙◌, subst}
use mathlib.Core.Bool.{Bool, false, true, true≢false}
use mathlib.Core.List.{List, [], ◌++◌}
use Prim.Native.Nat.{ℕ, suc, ◌-◌, ◌≤◌, ◌<◌}
use native.Mathlib.Omega.{arith}
use lib.ListN.{length, take, drop, length-append}
use lib.Seq.{length-take-le}
use Rattle.io.specs.Counts.{IsPrefixLen}
use Rattle.rule.specs.declared.Reason.{Reason}
use Rattle.rule.specs.Reasons.{Pass}
use Rattle.rule.proofs.Determined.{pass_not_fail}
use Rattle.reports.specs.declared.State.{State}
use Rattle.reports.specs.declared.Line.{Line}
use Rattle.reports.specs.Reads.{Receives}
use Rattle.reports.specs.Steps.{lines_of, written, line_room, Readable, step_checks, PageOf, Page}
use Rattle.pager.specs.declared.Kind.{Kind}
use Rattle.pager.specs.Kinds.{form_of}
use Rattle.readings.proofs.Pages.{Pages, none_yet, page, PagesTo, pages_to, page_further}
use Rattle.readings.proofs.Whole.{receives_readable}
use Rattle.printing.specs.declared.output.Sent.{Sent}
use Rattle.printing.specs.Sending.{all_lines, AtFirstLine, Sendable, Sends, state_after, BeforeTurn, SentFurther, SentLast, TurnSent, LinesSent, TextSent}

-- so many bytes from the front are so many
pub counts_within : (n : ℕ) (bytes : List ℕ) → n ≤ length bytes → IsPrefixLen n bytes
counts_within n bytes h = (h, sym (length-take-le n bytes h))

-- ---- one turn

module _ (s : Sent) (t : State) (buffer buffered : List ℕ) where
  abbrev PageWith : Line → Type 0
  PageWith answer = Page (form_of s.kind) s.state t buffer buffered answer

  -- all lines had come
  pub over_last : PageWith Line.Over → SentLast s s
  over_last p = record { same = refl; there = refl; all = λ fine. p.1 }

  turn_passes : BeforeTurn s buffer → Pass (step_checks s.state buffer)
  turn_passes r = (r.readable, (r.room, tt))

  pub refused_last : BeforeTurn s buffer → (reason : Reason) → PageWith (Line.Refused reason) → SentLast s s
  refused_last r reason p = absurd (pass_not_fail (step_checks s.state buffer) reason (turn_passes r) p.0)

  -- it was written
  module _ (size : ℕ) (ready : BeforeTurn s buffer) (p : PageWith (Line.Written size)) where
    page_within : size ≤ length buffered
    page_within =
        let w = p.writes in
        omega (arith, w.number, ap length w.fills, length-append p.bytes (drop (length p.bytes) buffer))

    abbrev next_page : Sendable s t (take size buffered)
    next_page = record { fine = ready.fine; buffer = buffer; buffered = buffered; size = size; page = p; is_page = refl }

    pub page_sendable : IsPrefixLen size buffered × Sendable s t (take size buffered)
    page_sendable = (counts_within size buffered page_within, next_page)

    -- and handed over, or the write failed
    pub page_sent : (r : Sent) → Sends s t r → TurnSent s r r.failed
    page_sent r sends = by_failed r.failed refl
      where
        by_failed : (failed : Bool) → r.failed ≡ failed → TurnSent s r failed
        by_failed true q =
            record {
              same = sends.same;
              there = sends.there ∙ ap (state_after s.state t) q;
              all = λ fine. absurd (true≢false (sym q ∙ fine));
            }
        by_failed false q =
            record {
              same = sends.same;
              fine = q;
              bytes = take size buffered;
              next = subst (λ (z : State). Sendable s z (take size buffered)) (sym (sends.there ∙ ap (state_after s.state t) q)) next_page;
            }

-- ---- the turns

-- two that stand in one report or certificate have as many lines
lines_same : (first s : Sent) (k : ℕ) → s.kind ≡ first.kind → s.state ≡ written first.state k → all_lines s ≡ all_lines first
lines_same first s k same there =
    ap (λ (z : Kind). lines_of (form_of z) s.state.book s.state.received) same
    ∙ ap (λ (z : State). lines_of (form_of first.kind) z.book z.received) there

-- what has been handed over of what was begun are successive pages, of these bytes, and no write has failed
pub record UnderWay (first : Sent) (front : List ℕ) (s : Sent) : Type 0 where
  pub same : s.kind ≡ first.kind
  pub fine : s.failed ≡ false
  pub number : ℕ
  pub run : Pages (form_of first.kind) first.state number front s.state

pub under_way_first : (first : Sent) → first.failed ≡ false → UnderWay first [] first
under_way_first first fine = record { same = refl; fine = fine; number = 0; run = none_yet }

module _ (first : Sent) (start : first.state.line ≡ 0) {front : List ℕ} {s : Sent} (u : UnderWay first front s) where
  pub under_way_to : PagesTo (form_of first.kind) first.state u.number front s.state
  under_way_to = pages_to (form_of first.kind) first.state start u.run

  pub under_way_turn : (buffer₀ buffer : List ℕ) → BeforeTurn first buffer₀ → length buffer ≡ length buffer₀ → BeforeTurn s buffer
  under_way_turn buffer₀ buffer ready long =
      record {
        fine = u.fine;
        readable = subst (λ (z : State). Readable z.book z.received) (sym under_way_to.there) ready.readable;
        room = omega (arith, ready.room, long);
      }

  -- the last turn
  pub last_turn : (r : Sent) → SentLast s r → LinesSent first r
  last_turn r t =
      let at : r.state.line ≡ s.state.line = ap (λ (z : State). z.line) t.there in
      record {
        same = t.same ∙ u.same;
        there = t.there ∙ under_way_to.there ∙ ap (written first.state) (sym at);
        few = omega (arith, at, under_way_to.few);
        all = λ fine. omega (arith, at, under_way_to.few, t.all fine, lines_same first s s.state.line u.same under_way_to.there);
      }

  -- the page that is next, behind those before it
  module _ (t : State) (bytes : List ℕ) (next : Sendable s t bytes) where
    the_page : PageOf (form_of first.kind) s.state t next.buffer next.buffered next.size
    the_page = subst (λ (k : Kind). PageOf (form_of k) s.state t next.buffer next.buffered next.size) u.same next.page

    pub next_run : Pages (form_of first.kind) first.state (suc u.number) (front ++ bytes) t
    next_run =
        subst (λ (z : List ℕ). Pages (form_of first.kind) first.state (suc u.number) (front ++ z) t) (sym next.is_page)
        (page next.buffer next.buffered next.size u.run the_page)

    next_fewer : all_lines first - t.line < all_lines first - s.state.line
    next_fewer =
        omega (
          arith,
          page_further (form_of first.kind) s.state t next.buffer next.buffered next.size the_page,
          (pages_to (form_of first.kind) first.state start next_run).few,
        )

  -- another turn
  module _ (r : Sent) (t : SentFurther s r) where
    pub under_way_again : UnderWay first (front ++ t.bytes) r
    under_way_again =
        record {
          same = t.same ∙ u.same;
          fine = t.fine;
          number = suc u.number;
          run = next_run r.state t.bytes t.next;
        }

    pub fewer_left : all_lines first - r.state.line < all_lines first - s.state.line
    fewer_left = next_fewer r.state t.bytes t.next

-- ---- of a text

pub text_turn : {kind : Kind} {text : List ℕ} {first : Sent} (buffer : List ℕ) → AtFirstLine kind text first → line_room ≤ length buffer → BeforeTurn first buffer
text_turn {text = text} {first = first} buffer begun room =
    record { fine = begun.fine; readable = receives_readable text first.state.book first.state.received begun.received; room = room }

pub text_sent : {kind : Kind} {text : List ℕ} {first r : Sent} → AtFirstLine kind text first → LinesSent first r → TextSent kind text r
text_sent {text = text} {first = first} {r = r} begun sent =
    let lines : all_lines r ≡ all_lines first = lines_same first r r.state.line sent.same sent.there in
    record {
      same = sent.same ∙ begun.same;
      received = subst (λ (z : State). Receives text z.book z.received) (sym sent.there) begun.received;
      few = omega (arith, sent.few, lines);
      all = λ fine. omega (arith, sent.all fine, lines);
    }
