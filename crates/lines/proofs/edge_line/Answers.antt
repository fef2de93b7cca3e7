-- `lines::edge_line`: red= where the colour is 1, and else black= (Edges.antt).
use native.Mathlib.Omega.{arith}
use mathlib.Core.Path.{sym, ap}
use lib.ListN.{length}
use Rattle.text.proofs.Overwrites.{writes_as}
use Rattle.lines.proofs.Edges.{edge_red, edge_black}
use Rattle.lines.proofs.edge_line.Goals as goal

pub pair_line-requires : goal.pair_line-requires
pair_line-requires c = omega (arith, c.requires, ap length (edge_red c.args.one c.args.other c.args.colour (omega arith)))

pub returns-then-colour-eq1 : goal.returns-then-colour-eq1
returns-then-colour-eq1 c =
    let a = c.args in
    writes_as (sym (edge_red a.one a.other a.colour (omega arith))) c.pair_line.ensures

pub pair_line-requires-2 : goal.pair_line-requires-2
pair_line-requires-2 c = omega (arith, c.requires, ap length (edge_black c.args.one c.args.other c.args.colour (omega arith)))

pub returns : goal.returns
returns c =
    let a = c.args in
    writes_as (sym (edge_black a.one a.other a.colour (omega arith))) c.pair_line-2.ensures
