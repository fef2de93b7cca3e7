-- `text::fault` meets its contract: the part that it hands back lies where the line of the first fault, or the text's end, is. Assumes nothing.
use native.Mathlib.Omega.{arith}
use mathlib.Core.Path.{◌≡◌, refl, sym, ap, ap₂, ◌∙◌, subst}
use mathlib.Core.Logic.{inl, inr}
use Prim.Native.Nat.{ℕ, ◌-◌}
use lib.ListN.{length, take, drop, length-drop}
use Rattle.text.specs.Lines.{first_line}
use Rattle.text.specs.Faults.{RefusedAt}
use Rattle.text.specs.Judgements.{Judges}
use Rattle.text.proofs.LineEnds.{first_line_within}
use Rattle.text.proofs.fault.Goals as goal

pub line_start-at-requires : goal.line_start-at-requires
line_start-at-requires c =
    let text = c.args.text.now in
    let refused : RefusedAt text c.in-Err.refusal.reason c.in-Err.refusal.line = subst (Judges text) c.in-Err.is c.judge.ensures in
    (refused.0, refused.1, refused.3)

-- its line ends within the text
pub slice_bounds-result-end-2 : goal.slice_bounds-result-end-2
slice_bounds-result-end-2 c =
    let text = c.args.text.now in
    let at = c.line_start-at.result in
    let begins = c.line_start-at.ensures in
    omega (arith, c.line_end-end.ensures, begins.1.within, begins.3, first_line_within (drop at text), length-drop at text)

pub returns-in_default : goal.returns-in_default
returns-in_default c =
    let text = c.args.text.now in
    let sheet = subst (Judges text) c.in_default.is c.judge.ensures in
    let none : length text - length text ≡ 0 = omega arith in
    inr (
      sheet.sheet,
      sheet.range,
      sheet.is_text,
      record {
        block = refl;
        offset = omega arith;
        bytes = ap (λ (k : ℕ). take k (drop (length text) text)) none;
      },
    )

pub returns : goal.returns
returns c =
    let text = c.args.text.now in
    let begins = c.line_start-at.ensures in
    let size : c.line_end-end.result - c.line_start-at.result ≡ begins.0.size =
    omega (arith, c.line_end-end.ensures) ∙ ap (λ (k : ℕ). length (first_line (drop k text))) begins.3 ∙ sym begins.1.part in
    inl (
      begins.0,
      begins.1,
      record {
        block = refl;
        offset = omega (arith, begins.3);
        bytes = ap₂ (λ (k j : ℕ). take k (drop j text)) size begins.3;
      },
    )
