-- `words::without`: a bit that is set goes by exclusive or with the word that has it alone.
use mathlib.Core.Path.{sym, ap, ◌∙◌, subst}
use mathlib.Core.Bool.{Bool}
use Prim.Native.Nat.{ℕ, ◌^◌}
use native.Mathlib.Omega.{arith}
use lib.Bits.{bit_xor}
use lib.Pow.{pow_pos}
use Rattle.words.specs.Bits.{bit, Without}
use Rattle.words.proofs.Bits.{◌differs◌, bit_xor_lem, bit_power, xor_clears, cleared}
use Rattle.words.proofs.without.Goals as goal

pub returns : goal.returns
returns c =
    let x = c.args.word in
    let t = c.args.t in
    subst (λ (p : ℕ). Without x t (bit_xor x p)) (sym c.one.ensures)
    (record {
      less = omega (arith, xor_clears t x c.requires.is, pow_pos t);
      bits = λ j. bit_xor_lem x (2 ^ t) j ∙ ap (λ (b : Bool). bit x j differs b) (bit_power t j) ∙ cleared x t j c.requires.is;
    })
