-- What may be handed to standard output, and what has been when a program ends.
--
-- In order: a text that was read; the page that is next; a turn; all turns; the input.
use Rattle.std.specs.Prelude.{◌≡◌, Bool, false, true, Result, Ok, Err, List, ℕ, ◌≤◌, length, take}
use Rattle.printing.specs.declared.Unread.{Unread}
use Rattle.std.specs.declared.ops.ControlFlow.{ControlFlow}
use Rattle.std.specs.declared.ops.ControlFlow.TheVariants.{Continue, Break}
use Rattle.io.specs.Counts.{IsPrefixLen}
use Rattle.reports.specs.declared.State.{State}
use Rattle.reports.specs.Reads.{Receives}
use Rattle.reports.specs.Steps.{lines_of, written, line_room, Readable, PageOf}
use Rattle.pager.specs.declared.Kind.{Kind}
use Rattle.pager.specs.Kinds.{form_of}
use Rattle.printing.specs.declared.output.Sent.{Sent}

-- how many lines there are, handed over or not
abbrev pub all_lines : Sent → ℕ
all_lines s = lines_of (form_of s.kind) s.state.book s.state.received

-- ---- a text that was read

-- nothing has been handed over of it
pub record AtFirstLine (kind : Kind) (text : List ℕ) (s : Sent) : Type 0 where
  pub same : s.kind ≡ kind
  pub received : Receives text s.state.book s.state.received
  pub start : s.state.line ≡ 0
  pub fine : s.failed ≡ false

-- no text was read, and nothing has been or can be handed over
pub record NothingSent (kind : Kind) (s : Sent) : Type 0 where
  pub same : s.kind ≡ kind
  pub start : s.state.line ≡ 0
  pub failed : s.failed ≡ true

-- ---- the page that is next

-- these bytes are it: its lines, whole, one behind the other. No write has failed
pub record Sendable (s : Sent) (after : State) (bytes : List ℕ) : Type 0 where
  pub fine : s.failed ≡ false
  pub buffer : List ℕ
  pub buffered : List ℕ
  pub size : ℕ
  pub page : PageOf (form_of s.kind) s.state after buffer buffered size
  pub is_page : bytes ≡ take size buffered

-- the state that is left by a write that has failed or has not
abbrev pub state_after : State → State → Bool → State
state_after before after true = before
state_after before after false = after

-- it was handed over; or the write failed, and what was handed over whole are the lines before it
pub record Sends (s : Sent) (after : State) (r : Sent) : Type 0 where
  pub same : r.kind ≡ s.kind
  pub there : r.state ≡ state_after s.state after r.failed

-- ---- a turn

-- a page can be asked for and handed over
pub record BeforeTurn (s : Sent) (buffer : List ℕ) : Type 0 where
  pub fine : s.failed ≡ false
  pub readable : Readable s.state.book s.state.received
  pub room : line_room ≤ length buffer

-- the page that is next was handed over
pub record SentFurther (s r : Sent) : Type 0 where
  pub same : r.kind ≡ s.kind
  pub fine : r.failed ≡ false
  pub bytes : List ℕ
  pub next : Sendable s r.state bytes

-- none was handed over: all lines had come, or the write failed
pub record SentLast (s r : Sent) : Type 0 where
  pub same : r.kind ≡ s.kind
  pub there : r.state ≡ s.state
  pub all : r.failed ≡ false → all_lines s ≤ s.state.line

-- whether it was the last turn
abbrev pub TurnSent : Sent → Sent → (last : Bool) → Type 0
TurnSent s r true = SentLast s r
TurnSent s r false = SentFurther s r

-- a page was handed over: what was sent by then goes on, or breaks off where its write failed
abbrev pub after_write : Sent → Bool → ControlFlow Sent Sent
after_write r true = Break r
after_write r false = Continue r

abbrev pub turn_after : Sent → ControlFlow Sent Sent
turn_after r = after_write r r.failed

-- ---- all turns

-- the first lines were handed over, as many as the state says; all of them, unless a write failed
pub record LinesSent (first r : Sent) : Type 0 where
  pub same : r.kind ≡ first.kind
  pub there : r.state ≡ written first.state r.state.line
  pub few : r.state.line ≤ all_lines first
  pub all : r.failed ≡ false → r.state.line ≡ all_lines first

-- and they are those of this text
pub record TextSent (kind : Kind) (text : List ℕ) (r : Sent) : Type 0 where
  pub same : r.kind ≡ kind
  pub received : Receives text r.state.book r.state.received
  pub few : r.state.line ≤ all_lines r
  pub all : r.failed ≡ false → r.state.line ≡ all_lines r

-- ---- the input

-- so many bytes of the buffer are the input's
abbrev pub Got : Result ℕ Unread → List ℕ → Type 0
Got (Ok n) buffer = IsPrefixLen n buffer
Got (Err e) buffer = Unit

-- of what was read the lines were handed over; nothing, where a read failed
abbrev pub InputSent : Kind → Result ℕ Unread → List ℕ → Sent → Type 0
InputSent kind (Ok n) buffer r = TextSent kind (take n buffer) r
InputSent kind (Err e) buffer r = NothingSent kind r

-- of what was read, whatever it was, in a buffer of 8,192 places
pub record Printed (kind : Kind) (r : Sent) : Type 0 where
  pub got : Result ℕ Unread
  pub buffer : List ℕ
  pub size : length buffer ≡ 8192
  pub within : Got got buffer
  pub sent : InputSent kind got buffer r
