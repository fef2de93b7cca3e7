-- Laws of writing from a place on (specs/Adding.antt), over those of crate text (proofs/Overwrites.antt there).
--
-- A line is made from its front on: `Writes t s after k` says that so far the k bytes t are written into s. In order: what stands before
-- a place counts as written, so a store and a lent part add to it; one writer after another, and the room that is left for it.
-- Assumes nothing.
use mathlib.Core.Path.{◌≡◌, sym, ap, ◌∙◌, subst}
use mathlib.Core.List.{List, [], ◌∷◌, ◌++◌, append_assoc, append-nil}
use Prim.Native.Nat.{ℕ, ◌+◌, ◌-◌, ◌≤◌, ◌<◌}
use native.Mathlib.Omega.{arith}
use lib.ListN.{length, take, drop, set, length-append, length-drop, take-append-drop}
use lib.Seq.{length-take-le, take_at, drop-drop, drop-append-add}
use Rattle.text.specs.Lines.{LF}
use Rattle.text.specs.Puts.{Writes}
use Rattle.text.proofs.Overwrites.{writes_as, writes_length, writes_more, writes_then, rest}
use Rattle.text.proofs.Fields.{part_rest}
use Rattle.lines.specs.Adding.{Appends}

-- ---- what one writer adds

writes_front : (s : List ℕ) (at : ℕ) → at ≤ length s → Writes (take at s) s s at
writes_front s at h =
    let long = length-take-le at s h in
    record { number = sym long; fills = sym (take-append-drop at s) ∙ ap (λ (i : ℕ). take at s ++ drop i s) (sym long) }

pub adds_none : (s : List ℕ) (at : ℕ) → at ≤ length s → Appends [] s s at at
adds_none s at h = record { writes = writes_as (sym (append-nil (take at s))) (writes_front s at h) }

pub adds_byte : (s : List ℕ) (at x : ℕ) → at < length s → Appends (x ∷ []) s (set s at x) at (at + 1)
adds_byte s at x h =
    record { writes = writes_more (writes_front s at (omega arith)) x (omega (arith, length-take-le at s (omega arith))) }

pub adds_part : (s : List ℕ) (at : ℕ) {u part : List ℕ} {j : ℕ} → at ≤ length s → Writes u (rest s at) part j
    → Appends u s (take at s ++ (part ++ drop (length s - at) (drop at s))) at (at + j)
adds_part s at h w = record { writes = writes_then (writes_front s at h) w }

-- it has room in the part that it is lent
pub adds_room : (u s : List ℕ) (at : ℕ) → at + length u ≤ length s → length u ≤ length (rest s at)
adds_room u s at h = omega (arith, ap length (part_rest s at), length-drop at s)

-- the same bytes, otherwise written
pub adds_as : {u v s after : List ℕ} {at next : ℕ} → u ≡ v → Appends u s after at next → Appends v s after at next
adds_as {s = s} {after} {at} {next} e a = subst (λ (l : List ℕ). Appends l s after at next) e a

-- from the front on it is all that is written
pub adds_writes : {u s after : List ℕ} {next : ℕ} → Appends u s after 0 next → Writes u s after next
adds_writes a = a.writes

-- ---- one writer after another

pub writes_adds : {t u s before after : List ℕ} {at next : ℕ} → Writes t s before at → Appends u before after at next
    → Writes (t ++ u) s after next
writes_adds {t} {u} {s} {before} {after} {at} {next} w a =
    let front : take at before ≡ t = ap (take at) w.fills ∙ take_at t (drop (length t) s) at (sym w.number) in
    let both : Writes (t ++ u) before after next = subst (λ (l : List ℕ). Writes (l ++ u) before after next) front a.writes in
    let seam = length-append t u in
    let left : drop (length (t ++ u)) before ≡ drop (length (t ++ u)) s =
    ap (λ (i : ℕ). drop i before) seam
    ∙ ap (drop (length t + length u)) w.fills
    ∙ drop-append-add t (drop (length t) s) (length u)
    ∙ drop-drop (length u) (length t) s
    ∙ ap (λ (i : ℕ). drop i s) (sym seam) in
    record { number = both.number; fills = both.fills ∙ ap (λ (l : List ℕ). (t ++ u) ++ l) left }

pub adds_adds : {u v s before after : List ℕ} {at k next : ℕ} → Appends u s before at k → Appends v before after k next
    → Appends (u ++ v) s after at next
adds_adds {u} {v} {s} {at = at} a b = record { writes = writes_as (append_assoc (take at s) u v) (writes_adds a.writes b) }

-- ---- room

-- there is room for the front where there is room for all
pub fits_front : (t u s : List ℕ) → length (t ++ u) ≤ length s → length t ≤ length s
fits_front t u s h = omega (arith, length-append t u)

adds_fits : (u s : List ℕ) (at : ℕ) → at + length u ≤ length s → length (take at s ++ u) ≤ length s
adds_fits u s at h = omega (arith, length-append (take at s) u, length-take-le at s (omega arith))

pub adds_length : {u s after : List ℕ} {at k : ℕ} → Appends u s after at k → at + length u ≤ length s → length after ≡ length s
adds_length {u} {s} {at = at} a h = writes_length a.writes (adds_fits u s at h)

-- and for what is to come
pub writes_left : {t s after : List ℕ} {k : ℕ} (u : List ℕ) → Writes t s after k → length (t ++ u) ≤ length s → k + length u ≤ length after
writes_left {t} {s} u w h = omega (arith, w.number, length-append t u, writes_length w (fits_front t u s h))

pub adds_left : {u s after : List ℕ} {at k : ℕ} (v : List ℕ) → Appends u s after at k → at + length (u ++ v) ≤ length s
    → k + length v ≤ length after
adds_left {u} {s} {at = at} v a h =
    writes_left v a.writes (omega (arith, ap length (append_assoc (take at s) u v), adds_fits (u ++ v) s at h))

-- a line is written in three parts: its key, what stands between, and the LF
module _ (key middle s : List ℕ) (h : length (key ++ (middle ++ LF ∷ [])) ≤ length s) where
  pub all_fits : length ((key ++ middle) ++ LF ∷ []) ≤ length s
  all_fits = omega (arith, ap length (append_assoc key middle (LF ∷ [])))

  pub middle_fits : length (key ++ middle) ≤ length s
  middle_fits = fits_front (key ++ middle) (LF ∷ []) s all_fits

  pub key_fits : length key ≤ length s
  key_fits = fits_front key middle s middle_fits

  -- the middle by a lent part
  pub middle_part : {first part : List ℕ} {k j : ℕ} → Writes key s first k → Writes middle (rest first k) part j
      → Appends middle first (take k first ++ (part ++ drop (length first - k) (drop k first))) k (k + j)
  middle_part one w = let more = writes_left middle one middle_fits in adds_part _ _ (omega arith) w

module _ {key middle s first second : List ℕ} {k j : ℕ} (one : Writes key s first k) (two : Appends middle first second k j) where
  pub end_left : length (key ++ (middle ++ LF ∷ [])) ≤ length s → j < length second
  end_left h = let more = writes_left (LF ∷ []) (writes_adds one two) (all_fits key middle s h) in omega arith

  pub three_parts : {after : List ℕ} {next : ℕ} → Appends (LF ∷ []) second after j next → Writes (key ++ (middle ++ LF ∷ [])) s after next
  three_parts three = writes_as (append_assoc key middle (LF ∷ [])) (writes_adds (writes_adds one two) three)
