-- What `judge` and `fault` answer, for every list of bytes.
--
-- In order: what is said of a text that is a book, and of one that is not; what the inner functions say; the part that `fault` hands back. Not here: edges in lists
-- (specs/EdgeLists.antt).
use Rattle.std.specs.Prelude.{◌≡◌, ◌⊎◌, Result, Ok, Err, List, [], ℕ, ◌+◌, ◌≤◌, length, take, drop}
use Rattle.std.specs.Borrow.{Bor}
use Rattle.rule.specs.declared.Reason.{Reason}
use Rattle.text.specs.declared.Head.{Head}
use Rattle.text.specs.declared.Refusal.{Refusal}
use Rattle.text.specs.Sheets.{Sheet, SheetRange, text_of}
use Rattle.text.specs.EdgeLists.{EdgeLists, EdgesEntered}
use Rattle.text.specs.Due.{nothing, to_edges}
use Rattle.text.specs.Faults.{Leads, Fault, FirstFault, RefusedAt}

-- ---- what a text is

-- the text is that of a sheet in range, with these numbers
pub record IsSheet (text : List ℕ) (a b n edges : ℕ) : Type 0 where
  pub sheet : Sheet
  pub range : SheetRange sheet
  pub is_text : text ≡ text_of sheet
  pub a_is : a ≡ sheet.a
  pub b_is : b ≡ sheet.b
  pub n_is : n ≡ sheet.n
  pub edges_is : edges ≡ length sheet.edges

-- the answer's cases: a sheet with its numbers; or refused, with the reason, whose number `number_of` of crate rule gives, and the number of the line at fault
abbrev pub JudgementSays : (sheet : (a b n edges : ℕ) → Type 0) (refused : Reason → (line : ℕ) → Type 0) → Result Head Refusal → Type 0
JudgementSays sheet refused (Ok h) = sheet h.a h.b h.n h.edges
JudgementSays sheet refused (Err r) = refused r.reason r.line

abbrev pub Judges : List ℕ → Result Head Refusal → Type 0
Judges text = JudgementSays (IsSheet text) (RefusedAt text)

-- ---- the inner functions

-- the four lines of the head are due and in range, and the edge lines are due from `first` on
pub record IsHead (text : List ℕ) (h : Head) (first : ℕ) : Type 0 where
  pub within : first ≤ length text
  pub leads : Leads nothing text (to_edges h.a h.b h.n h.edges []) (drop first text)

-- the text is judged, and where it is that of a sheet in range the edges of this stand in the lists
pub record Enters (text : List ℕ) (before after : EdgeLists) (found : Result Head Refusal) : Type 0 where
  pub judges : Judges text found
  pub entered : (s : Sheet) → SheetRange s → text ≡ text_of s → EdgesEntered s.edges before after

-- the first fault of the text is in this line
abbrev pub LineRefused : List ℕ → (line : ℕ) → Type 0
LineRefused text line = (f : Fault) × FirstFault text f × (line ≡ f.line)

-- and there it begins
abbrev pub LineBegins : List ℕ → (line at : ℕ) → Type 0
LineBegins text line at = (f : Fault) × FirstFault text f × (line ≡ f.line) × (at ≡ f.start)

-- ---- fault

-- `part` is the `size` bytes of the lent text from `start` on, where they lie in it
pub record PartOf (text part : Bor (List ℕ)) (start size : ℕ) : Type 0 where
  pub block : part.ref_ptr.0 ≡ text.ref_ptr.0
  pub offset : part.ref_ptr.1 ≡ text.ref_ptr.1 + start
  pub bytes : part.now ≡ take size (drop start text.now)

-- the faulty line without its LF, or the empty part at the text's end when nothing is refused
abbrev pub Hands : Bor (List ℕ) → Bor (List ℕ) → Type 0
Hands text part =
    ((f : Fault) × FirstFault text.now f × PartOf text part f.start f.size)
    ⊎ ((s : Sheet) × SheetRange s × (text.now ≡ text_of s) × PartOf text part (length text.now) 0)
