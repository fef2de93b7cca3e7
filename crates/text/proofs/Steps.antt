-- Book text is a lawful grammar: a line is the one due or it is not, its checks pass or one fails, and what it says is determined.
--
-- In order: each kind of line that is due (specs/Due.antt) is decided and determined; each due line is, and counts as one; its checks are; so is the end.
-- Not here: what follows of any lawful grammar (crate grammar, proofs/Outcomes.antt).
-- Assumes nothing.
use mathlib.Core.Path.{◌≡◌, refl, sym, ap, ◌∙◌}
use mathlib.Core.Logic.{inl, inr}
use mathlib.Core.List.{List, [], ◌∷◌}
use Prim.Native.Nat.{ℕ, suc, ◌≤◌, ◌<◌}
use native.Mathlib.Omega.{arith}
use lib.ListN.{length, length-append}
use Rattle.rule.specs.declared.Reason.{Reason}
use Rattle.rule.specs.declared.Reason.TheVariants.{Profile, Bodies, Body, SameBody, Full}
use Rattle.rule.specs.declared.Edge.{Edge}
use Rattle.rule.specs.Books.{capacity}
use Rattle.rule.specs.Reasons.{number_of, place_of, Check, plain}
use Rattle.rule.proofs.Tests.{by_le, by_eq}
use Rattle.rule.proofs.Determined.{Single, nothing_single}
use Rattle.std.specs.Prelude.{Option, Some, None}
use Rattle.text.specs.declared.Reading.{Reading}
use Rattle.text.specs.declared.EdgeRead.{EdgeRead}
use Rattle.grammar.specs.Grammar.{NextIs}
use Rattle.grammar.proofs.Outcomes.{LineAt, is_due, is_other, Determined, PassOrFail, passes, fail, Lawful}
use Rattle.text.specs.Lines.{key_a, key_b, key_bodies, key_edges}
use Rattle.text.specs.Due.{Said, nothing, to_a, to_b, to_bodies, to_edges, lines_said, number_line, edge_line, due, Ended, book_text}
use Rattle.text.specs.Readings.{read_number_line, read_edge}
use Rattle.text.proofs.Ranges.{le_dec, in_dec, both_dec, first_dec, profile_dec}
use Rattle.text.proofs.LineReads.{number_line_determined, number_line_sound, number_line_none}
use Rattle.text.proofs.EdgeReads.{edge_determined, edge, edge_sound, edge_none}

-- ---- a line

module _ (key : List ℕ) (then : ℕ → Said) (checks : ℕ → List Check) where
  number_decided : (text : List ℕ) (at : ℕ) → at ≤ length text → LineAt (number_line key then checks) text at
  number_decided text at l = go (read_number_line key text at) refl
    where
      go : (o : Option Reading) → read_number_line key text at ≡ o → LineAt (number_line key then checks) text at
      go None e = is_other (λ n more h. number_line_none key text at l e n more h.allowed h.begins)
      go (Some r) e =
          let f = number_line_sound key text at r e in
          is_due r.value r.next (record { allowed = f.small; begins = f.begins }) f.past f.within

  number_determined : Determined (number_line key then checks)
  number_determined rest n m r q h k = number_line_determined key n m r q h.allowed k.allowed (sym h.begins ∙ k.begins)

module _ (a b n m : ℕ) (before : List Edge) where
  edge_decided : (text : List ℕ) (at : ℕ) → at ≤ length text → LineAt (edge_line a b n m before) text at
  edge_decided text at l =
      by_le m (length before) (λ all. is_other (λ e more h. absurd (omega (arith, h.allowed.0)))) (λ some. go some (read_edge text at) refl)
    where
      go : length before < m → (o : Option EdgeRead) → read_edge text at ≡ o → LineAt (edge_line a b n m before) text at
      go some None e = is_other (λ x more h. edge_none text at l e x more h.allowed.1 h.begins)
      go some (Some r) e =
          let f = edge_sound text at r e in
          is_due (edge r) r.next (record { allowed = (some, f.written); begins = f.begins }) f.past f.within

  edge_line_determined : Determined (edge_line a b n m before)
  edge_line_determined rest e f r q h k = edge_determined e f r q h.allowed.1 k.allowed.1 (sym h.begins ∙ k.begins)

-- ---- the line that is due

line_decided : (said : Said) (text : List ℕ) (at : ℕ) → at ≤ length text → LineAt (due said) text at
unfolding due
line_decided nothing = number_decided key_a _ _
line_decided (to_a a) = number_decided key_b _ _
line_decided (to_b a b) = number_decided key_bodies _ _
line_decided (to_bodies a b n) = number_decided key_edges _ _
line_decided (to_edges a b n m before) = edge_decided a b n m before

line_determined : (said : Said) → Determined (due said)
unfolding due
line_determined nothing = number_determined key_a _ _
line_determined (to_a a) = number_determined key_b _ _
line_determined (to_b a b) = number_determined key_bodies _ _
line_determined (to_bodies a b n) = number_determined key_edges _ _
line_determined (to_edges a b n m before) = edge_line_determined a b n m before

-- it is one line more
pub line_counted : (said : Said) (value : (due said).Value) → lines_said ((due said).then value) ≡ suc (lines_said said)
unfolding lines_said due
line_counted nothing a = refl
line_counted (to_a a) b = refl
line_counted (to_b a b) n = refl
line_counted (to_bodies a b n) m = refl
line_counted (to_edges a b n m es) e = omega (arith, length-append es (e ∷ []))

-- ---- its checks

checked_none : PassOrFail []
checked_none = passes tt

-- one check more in front, which says the reason where it fails
checked_one : {must : Type 0} {cs : List Check} (reason : Reason) → place_of reason ≡ 0 → Dec must → PassOrFail cs
    → PassOrFail (plain (number_of reason) must ∷ cs)
checked_one reason q (yes h) (passes p) = passes (h, p)
checked_one reason q (yes h) (fail why f) = fail why (inr (h, f))
checked_one reason q (no h) c = fail reason (inl (h, refl, q))

line_checked : (said : Said) (value : (due said).Value) → PassOrFail ((due said).checks value)
unfolding due
line_checked nothing a = checked_one Profile refl (first_dec a) checked_none
line_checked (to_a a) b = checked_one Profile refl (profile_dec a b) checked_none
line_checked (to_b a b) n = checked_one Bodies refl (in_dec 64 n) checked_none
line_checked (to_bodies a b n) m = checked_one Full refl (le_dec m capacity) checked_none
line_checked (to_edges a b n m before) e =
    checked_one Body refl (both_dec n e.one e.other)
    (checked_one SameBody refl (by_eq e.one e.other (λ h. no (λ k. k h)) (λ h. yes h)) checked_none)

line_single : (said : Said) (value : (due said).Value) → Single ((due said).checks value)
unfolding due
line_single nothing a = (nothing_single, tt)
line_single (to_a a) b = (nothing_single, tt)
line_single (to_b a b) n = (nothing_single, tt)
line_single (to_bodies a b n) m = (nothing_single, tt)
line_single (to_edges a b n m before) e = (nothing_single, (nothing_single, tt))

-- ---- the end

ended_dec : (said : Said) (rest : List ℕ) → Dec (Ended said rest)
ended_dec nothing rest = no (λ e. e)
ended_dec (to_a a) rest = no (λ e. e)
ended_dec (to_b a b) rest = no (λ e. e)
ended_dec (to_bodies a b n) rest = no (λ e. e)
ended_dec (to_edges a b n m es) [] = by_eq (length es) m (λ h. yes (h, refl)) (λ h. no (λ e. h e.0))
ended_dec (to_edges a b n m es) (x ∷ rest) = no (λ e. let z = ap length e.1 in absurd (omega arith))

-- when all lines have come none is allowed
ended_none : (said : Said) (rest : List ℕ) → Ended said rest → (value : (due said).Value) (more : List ℕ) → ¬ NextIs (due said) rest value more
unfolding due
ended_none nothing rest e value more next = e
ended_none (to_a a) rest e value more next = e
ended_none (to_b a b) rest e value more next = e
ended_none (to_bodies a b n) rest e value more next = e
ended_none (to_edges a b n m edges) rest e value more next = absurd (omega (arith, e.0, next.allowed.0))

-- All that a grammar owes: so every text is whole or has one first fault (crate grammar).
pub book_text_lawful : Lawful book_text
book_text_lawful =
    record {
      decided = line_decided;
      determined = line_determined;
      checked = line_checked;
      single = line_single;
      ended? = ended_dec;
      ended_none = ended_none;
    }
