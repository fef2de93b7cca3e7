-- Of any grammar whose lines are short and few: a text that is longer than they can be is refused, and so is the text that is cut there, for the same reason at the same line.
-- So a program that reads no more than that prints what it would print of the whole.
--
-- Lines that have come take at most so many bytes each, so the line at fault begins before the last `most` bytes in front of the cut. Where a check on it fails, the whole
-- line stands before the cut. Where it is not the one due, no cut makes it so: what stands in front of the cut would be that line in the whole text as well.
-- Not here: how short and how few the lines of a book text are (crate text, proofs/Cuts.antt).
-- Assumes nothing.
use mathlib.Core.Path.{◌≡◌, refl, sym, ap, ◌∙◌, subst}
use mathlib.Core.Logic.{inl, inr, ◌↔◌}
use mathlib.Core.List.{List, [], ◌++◌, append_assoc}
use Prim.Native.Nat.{ℕ, suc, ◌+◌, ◌*◌, ◌≤◌, ◌<◌}
use native.Mathlib.Nat.{mul-suc, mul-le-mul_left}
use native.Mathlib.Omega.{arith}
use lib.ListN.{length, take, drop, length-append, length-drop, take-append-drop}
use lib.Seq.{length-take-le, take_at, drop-append-le, take-append-le}
use Rattle.rule.specs.declared.Reason.{Reason}
use Rattle.grammar.specs.Grammar.{Grammar, Leads, Faulty, Fault, FirstFault, fault_in, RefusedAt}
use Rattle.grammar.specs.Grammar.Leads.{here, one_line}
use Rattle.grammar.specs.Grammar.AtFault.{other, fails}
use Rattle.grammar.proofs.Outcomes.{Lawful, Outcome, outcome, fault_determined}

-- a line has at most `most` bytes and counts as one line, at most `few` come, and nothing follows them
pub record Bounded (g : Grammar) (most few : ℕ) : Type 0 where
  pub short : (said : g.Said) (value : (g.due said).Value) → (g.due said).Allowed value → length ((g.due said).bytes value) ≤ most
  pub counted : (said : g.Said) (value : (g.due said).Value) → g.lines ((g.due said).then value) ≡ suc (g.lines said)
  pub few_come : {last : g.Said} {text left : List ℕ} → Leads g g.nothing text last left → g.lines last ≤ few
  pub nothing_follows : (said : g.Said) (rest : List ℕ) → g.Ended said rest → rest ≡ []

-- ---- lines of a text that is two lists

module _ {g : Grammar} where
  -- lines that lead to a place before the cut lead there in the cut text
  leads_cut : {said last : g.Said} {rest left : List ℕ} → Leads g said rest last left → (kept tail : List ℕ) → left ≡ kept ++ tail
      → (front : List ℕ) × (rest ≡ front ++ tail) × Leads g said front last kept
  leads_cut here kept tail q = (kept, q, here)
  leads_cut {said} (one_line value next pass l) kept tail q =
      let go = leads_cut l kept tail q in
      let bytes : List ℕ = (g.due said).bytes value in (
        bytes ++ go.0,
        next.begins ∙ ap (λ (s : List ℕ). bytes ++ s) go.1 ∙ sym (append_assoc bytes go.0 tail),
        one_line value (record { allowed = next.allowed; begins = refl }) pass go.2,
      )

-- a list that is two lists in two ways
same_front : (bytes more kept tail : List ℕ) → kept ++ tail ≡ bytes ++ more → length bytes ≤ length kept → kept ≡ bytes ++ drop (length bytes) kept
same_front bytes more kept tail q h =
    sym (take-append-drop (length bytes) kept)
    ∙ ap (λ (s : List ℕ). s ++ drop (length bytes) kept)
    (sym (take-append-le (length bytes) kept tail h) ∙ ap (take (length bytes)) q ∙ take_at bytes more (length bytes) refl)

module _ (g : Grammar) (most few : ℕ) (bound : Bounded g most few) where
  leads_bytes : {said last : g.Said} {rest left : List ℕ} → Leads g said rest last left
      → length rest + most * g.lines said ≤ most * g.lines last + length left
  leads_bytes here = omega arith
  leads_bytes {said} {last} {rest} {left} (one_line {more = more} value next pass l) =
      let go = leads_bytes l in
      let long : length rest ≤ most + length more =
      omega (arith, ap length next.begins, length-append ((g.due said).bytes value) more, bound.short said value next.allowed) in
      omega (arith, go, long, ap (λ (k : ℕ). most * k) (bound.counted said value), mul-suc most (g.lines said))

  -- all lines that come, of a text, take no more than this
  front : {last : g.Said} {text left : List ℕ} → Leads g g.nothing text last left → length text ≤ most * few + length left
  front {last} l = omega (arith, leads_bytes l, mul-le-mul_left most (bound.few_come l))

  fault_cut : (said : g.Said) (rest kept tail : List ℕ) {reason : Reason} → Faulty g said rest reason → rest ≡ kept ++ tail → most < length kept
      → Faulty g said kept reason
  fault_cut said rest kept tail (other none going) q h =
      other
      (λ value more next.
      none value (more ++ tail)
      (record {
        allowed = next.allowed;
        begins = q ∙ ap (λ (s : List ℕ). s ++ tail) next.begins ∙ append_assoc ((g.due said).bytes value) more tail;
      }))
      (λ e. absurd (omega (arith, ap length (bound.nothing_follows said kept e))))
  fault_cut said rest kept tail (fails value more next f) q h =
      let bytes : List ℕ = (g.due said).bytes value in
      let small : length bytes ≤ length kept = omega (arith, bound.short said value next.allowed) in
      fails value (drop (length bytes) kept)
      (record { allowed = next.allowed; begins = same_front bytes more kept tail (sym q ∙ next.begins) small }) f

  -- ---- of a text with room for one line more behind all that come

  module _ (room : ℕ) (enough : most * few + most < room) (text : List ℕ) (long : room ≤ length text) where
    abbrev cut : List ℕ
    cut = take room text

    cut_long : length cut ≡ room
    cut_long = length-take-le room text long

    -- the fault of the cut text: the part is what is left of the line
    abbrev cut_fault : Fault → Fault
    cut_fault f = fault_in cut f.line f.start f.reason

    pub cut_fault_lem : (f : Fault) → FirstFault g text f → FirstFault g cut (cut_fault f)
    cut_fault_lem f p =
        let start : f.start ≤ most * few = omega (arith, front p.before, length-drop f.start text, p.within) in
        let within : f.start ≤ length cut = omega (arith, cut_long) in
        let kept : List ℕ = drop f.start cut in
        let tail : List ℕ = drop room text in
        let parts : drop f.start text ≡ kept ++ tail =
        ap (drop f.start) (sym (take-append-drop room text)) ∙ drop-append-le f.start cut tail within in
        let go = leads_cut p.before kept tail parts in
        let size : length go.0 ≡ room =
        omega (arith, ap length go.1, length-append go.0 tail, length-drop room text, long) in
        let is_cut : go.0 ≡ cut = sym (ap (take room) go.1 ∙ take_at go.0 tail room size) in
        record {
          said = p.said;
          within = within;
          before = subst (λ (s : List ℕ). Leads g g.nothing s p.said kept) is_cut go.2;
          number = p.number;
          at_fault = fault_cut p.said (drop f.start text) kept tail p.at_fault parts (omega (arith, length-drop f.start cut, cut_long));
          part = refl;
        }

    -- refused alike
    pub cut_same : Lawful g → (reason : Reason) (number : ℕ) → RefusedAt g text reason number ↔ RefusedAt g cut reason number
    cut_same law reason number = (
      λ p. (cut_fault p.0, cut_fault_lem p.0 p.1, p.2, p.3),
      λ p. back p (outcome g law text),
    )
      where
        back : RefusedAt g cut reason number → Outcome g text → RefusedAt g text reason number
        back p (inl w) =
            absurd (omega (arith, front w.leads, ap length (bound.nothing_follows w.said w.left w.ended), long, enough))
        back p (inr f) =
            let same = fault_determined g law cut p.0 (cut_fault f.0) p.1 (cut_fault_lem f.0 f.1) in
            (f.0, f.1, p.2 ∙ ap (λ (x : Fault). x.reason) same, p.3 ∙ ap (λ (x : Fault). x.line) same)
