-- Lines one behind the other: what the loop of a page keeps.
--
-- A writer that is lent the unwritten rest of the buffer adds its line to those that stand there already (crate text, proofs/Overwrites).
-- It leaves the rest as long as it was, so that its line is within the buffer.
-- Assumes nothing.
use Rattle.std.specs.Prelude.{Ok}
use mathlib.Core.Path.{◌≡◌, refl, sym, ap, ◌∙◌, subst}
use mathlib.Core.Logic.{inr}
use mathlib.Core.List.{List, [], ◌++◌, append_assoc}
use Prim.Native.Nat.{ℕ, suc, ◌+◌, ◌-◌, ◌≤◌, ◌<◌}
use native.Mathlib.Numerals.{add-one}
use native.Mathlib.Omega.{arith}
use lib.ListN.{length, take, drop, length-append, length-drop, take-append-drop}
use lib.Seq.{drop-append-le}
use Rattle.rule.specs.declared.Book.{Book}
use Rattle.text.specs.Puts.{Writes}
use Rattle.text.proofs.Fields.{part_rest}
use Rattle.text.proofs.Overwrites.{writes_none, writes_length, rest, writes_then}
use Rattle.reports.specs.Steps.{Form, Lines, Puts, line_room}
use Rattle.reports.specs.Steps.Lines.{none, then}
use Rattle.pager.specs.Lent.{LinesRun, FullRun, Tally}

-- what is written is within the places
pub writes_within : {t s after : List ℕ} {k : ℕ} → Writes t s after k → length after ≡ length s → k ≤ length s
writes_within {t} {s} w q = omega (arith, w.number, ap length w.fills, length-append t (drop (length t) s), length-drop (length t) s)

pub rest_length : (s : List ℕ) (k : ℕ) → length (rest s k) ≡ length s - k
rest_length s k = ap length (part_rest s k) ∙ length-drop k s

-- a line in the first places of a buffer, where these have a line's room, is one in the whole of it
module _ (buffer : List ℕ) (room : line_room ≤ length buffer) (part : List ℕ) (long : length part ≡ length (take line_room buffer)) where
  pub writes_whole : (bytes : List ℕ) (size : ℕ) → Writes bytes (take line_room buffer) part size → Writes bytes buffer (part ++ drop line_room buffer) size
  writes_whole bytes size w =
      let within : length bytes ≤ length (take line_room buffer) = omega (arith, w.number, writes_within w long) in
      record {
        number = w.number;
        fills =
            ap (λ (l : List ℕ). l ++ drop line_room buffer) w.fills
            ∙ append_assoc bytes (drop (length bytes) (take line_room buffer)) (drop line_room buffer)
            ∙ ap (λ (l : List ℕ). bytes ++ l)
            (sym (drop-append-le (length bytes) (take line_room buffer) (drop line_room buffer) within)
            ∙ ap (drop (length bytes)) (take-append-drop line_room buffer));
      }

pub puts_whole : {Q : List ℕ → Type 0} (buffer : List ℕ) → line_room ≤ length buffer → (front part : List ℕ) → front ≡ take line_room buffer
    → length part ≡ length front → {r : ℕ} → Puts Q front part r → Puts Q buffer (part ++ drop line_room buffer) r
puts_whole buffer room front part is long {r = r} p =
    record {
      bytes = p.bytes;
      says = p.says;
      writes =
          writes_whole buffer room part (long ∙ ap length is) p.bytes r
          (subst (λ (l : List ℕ). Writes p.bytes l part r) is p.writes);
    }

-- the rest, put back as it was, leaves all as it was
same_all : (s : List ℕ) (k : ℕ) (part : List ℕ) → part ≡ rest s k → take k s ++ (part ++ drop (length s - k) (drop k s)) ≡ s
same_all s k part q =
    ap (λ (l : List ℕ). take k s ++ (l ++ drop (length s - k) (drop k s))) q
    ∙ ap (λ (l : List ℕ). take k s ++ l) (take-append-drop (length s - k) (drop k s))
    ∙ take-append-drop k s

module _ (form : Form) (B : Book) (i : ℕ) (before : List ℕ) where
  pub run_none : LinesRun form B i before before i 0
  run_none = record { bytes = []; are_lines = none; writes = writes_none before; as_long = refl; within = omega arith }

  pub run_more : (after : List ℕ) (j end : ℕ) → LinesRun form B i before after j end → line_room ≤ length after - end → j < form.number B
      → (part : List ℕ) (r : ℕ) → Puts (form.Says B j) (rest after end) part r → length part ≡ length (rest after end)
      → LinesRun form B i before (take end after ++ (part ++ drop (length after - end) (drop end after))) (j + 1) (end + r)
  run_more after j end run room less part r p long =
      let here : r ≤ length (rest after end) = writes_within p.writes long in
      let all = writes_then run.writes p.writes in
      let within : end + r ≤ length before = omega (arith, rest_length after end, run.as_long, run.within) in
      let next = then p.bytes run.are_lines (omega (arith, run.writes.number, run.as_long)) less p.says in
      record {
        bytes = run.bytes ++ p.bytes;
        are_lines = subst (λ (z : ℕ). Lines form B (Ok tt) (length before) i z (run.bytes ++ p.bytes)) (sym (add-one j)) next;
        writes = all;
        as_long = writes_length all (omega (arith, all.number));
        within = within;
      }

  -- the rest has no line's room
  pub full_left : (after : List ℕ) (j end : ℕ) → LinesRun form B i before after j end → (part : List ℕ) → length (rest after end) < line_room
      → part ≡ rest after end
      → FullRun form B i before (take end after ++ (part ++ drop (length after - end) (drop end after))) (record { line = j; end = end })
  full_left after j end run part short same =
      subst (λ (z : List ℕ). FullRun form B i before z (record { line = j; end = end })) (sym (same_all after end part same))
      (record { run = run; whole = inr (omega (arith, rest_length after end, short, run.as_long, run.within)) })

pub tally_next : (B : Book) (i kept : ℕ) → Tally B (suc i) kept → Tally B (i + 1) kept
tally_next B i kept t = subst (λ (z : ℕ). Tally B z kept) (sym (add-one i)) t
