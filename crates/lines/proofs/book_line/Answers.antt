-- `lines::book_line`: line by line, each where it stands in the text (BookLines.antt).
use native.Mathlib.Omega.{arith}
use mathlib.Core.Path.{sym, ap}
use Prim.Native.Nat.{◌≤◌}
use lib.ListN.{length}
use Rattle.text.proofs.Overwrites.{writes_as}
use Rattle.lines.proofs.BookLines.{line_a, line_b, line_bodies, line_edges, line_edge}
use Rattle.lines.proofs.book_line.Goals as goal

pub number_line-requires : goal.number_line-requires
number_line-requires c =
    rw c.from.ensures (omega (arith, c.requires.i_in_bounds, ap length (line_a c.args.book.now c.args.i c.in-0.is)))

pub number_line-requires-in-1 : goal.number_line-requires-in-1
number_line-requires-in-1 c =
    rw c.from-in-1.ensures (omega (arith, c.requires.i_in_bounds, ap length (line_b c.args.book.now c.args.i c.in-1.is)))

pub number_line-requires-in-2 : goal.number_line-requires-in-2
number_line-requires-in-2 c =
    rw c.from-in-2.ensures (omega (arith, c.requires.i_in_bounds, ap length (line_bodies c.args.book.now c.args.i c.in-2.is)))

pub number_line-requires-in-3 : goal.number_line-requires-in-3
number_line-requires-in-3 c =
    rw c.from-in-3.ensures (omega (arith, c.requires.i_in_bounds, ap length (line_edges c.args.book.now c.args.i c.in-3.is)))

pub given_line-requires : goal.given_line-requires
given_line-requires c =
    let past : 4 ≤ c.args.i = omega arith in
    record {
      e_lt_count = (omega (arith, c.requires.i_bound.0), c.requires.i_bound.1);
      e_in_bounds = omega (arith, c.requires.i_in_bounds, ap length (line_edge c.args.book.now c.args.i past));
    }

pub returns-in-0 : goal.returns-in-0
returns-in-0 c =
    writes_as (sym (line_a c.args.book.now c.args.i c.in-0.is)) (rw c.from.ensures at c.number_line.ensures)

pub returns-in-1 : goal.returns-in-1
returns-in-1 c =
    writes_as (sym (line_b c.args.book.now c.args.i c.in-1.is)) (rw c.from-in-1.ensures at c.number_line-in-1.ensures)

pub returns-in-2 : goal.returns-in-2
returns-in-2 c =
    writes_as (sym (line_bodies c.args.book.now c.args.i c.in-2.is)) (rw c.from-in-2.ensures at c.number_line-in-2.ensures)

pub returns-in-3 : goal.returns-in-3
returns-in-3 c =
    writes_as (sym (line_edges c.args.book.now c.args.i c.in-3.is)) (rw c.from-in-3.ensures at c.number_line-in-3.ensures)

pub returns-in_default : goal.returns-in_default
returns-in_default c =
    let past : 4 ≤ c.args.i = omega arith in
    writes_as (sym (line_edge c.args.book.now c.args.i past)) c.given_line.ensures
