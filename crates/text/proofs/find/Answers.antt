-- `text::find` meets its contract: each line of the head that was read leads one line on, and one that was refused is the first fault
-- (proofs/Heads.antt); the rest is what `walk` says. Assumes nothing.
use borrow.Author.Rules.{rules}
use native.Mathlib.Omega.{arith}
use mathlib.Core.Path.{sym, ◌∙◌}
use Rattle.grammar.proofs.Runs.{stands_first}
use Rattle.text.proofs.Lists.{enters_as, lined_err, lined_ok}
use Rattle.text.proofs.Ranges.{first_small, second_small}
use Rattle.text.proofs.Heads.{fault_a, fault_b, fault_bodies, fault_edges, after_a, after_b, after_bodies, after_edges}
use Rattle.text.proofs.find.Goals as goal

pub returns-in_err-a : goal.returns-in_err-a
returns-in_err-a c =
    let r = lined_err _ _ c.at_line.ensures c.in_err-a.was in
    enters_as (fault_a _ stands_first (sym c.number_in.ensures ∙ r.1)) r.2 (search (rules, c.from_residual.ensures))

pub returns-in_err-b : goal.returns-in_err-b
returns-in_err-b c =
    let a = sym c.number_in.ensures ∙ lined_ok _ _ c.at_line.ensures c.in_ok-a.was in
    let r = lined_err _ _ c.at_line-2.ensures c.in_err-b.was in
    enters_as (fault_b _ _ (after_a a).1 (sym c.number_in-2.ensures ∙ r.1)) r.2 (search (rules, c.from_residual-in_err-b.ensures))

pub returns-in_err-n : goal.returns-in_err-n
returns-in_err-n c =
    let a = sym c.number_in.ensures ∙ lined_ok _ _ c.at_line.ensures c.in_ok-a.was in
    let b = sym c.number_in-2.ensures ∙ lined_ok _ _ c.at_line-2.ensures c.in_ok-b.was in
    let r = lined_err _ _ c.at_line-3.ensures c.in_err-n.was in
    enters_as (fault_bodies _ _ _ (after_b a b).1 (sym c.number_in-3.ensures ∙ r.1)) r.2 (search (rules, c.from_residual-in_err-n.ensures))

pub returns-in_err-m : goal.returns-in_err-m
returns-in_err-m c =
    let a = sym c.number_in.ensures ∙ lined_ok _ _ c.at_line.ensures c.in_ok-a.was in
    let b = sym c.number_in-2.ensures ∙ lined_ok _ _ c.at_line-2.ensures c.in_ok-b.was in
    let n = sym c.number_in-3.ensures ∙ lined_ok _ _ c.at_line-3.ensures c.in_ok-n.was in
    let r = lined_err _ _ c.at_line-4.ensures c.in_err-m.was in
    enters_as (fault_edges _ _ _ _ (after_bodies a b n).1 (sym c.number_in-4.ensures ∙ r.1)) r.2 (search (rules, c.from_residual-in_err-m.ensures))

pub overflow_cast-head : goal.overflow_cast-head
overflow_cast-head c =
    let a = sym c.number_in.ensures ∙ lined_ok _ _ c.at_line.ensures c.in_ok-a.was in
    omega (arith, first_small (after_a a).0)

pub overflow_cast-head-2 : goal.overflow_cast-head-2
overflow_cast-head-2 c =
    let a = sym c.number_in.ensures ∙ lined_ok _ _ c.at_line.ensures c.in_ok-a.was in
    let b = sym c.number_in-2.ensures ∙ lined_ok _ _ c.at_line-2.ensures c.in_ok-b.was in
    omega (arith, second_small (after_b a b).0)

pub overflow_cast-head-3 : goal.overflow_cast-head-3
overflow_cast-head-3 c =
    let a = sym c.number_in.ensures ∙ lined_ok _ _ c.at_line.ensures c.in_ok-a.was in
    let b = sym c.number_in-2.ensures ∙ lined_ok _ _ c.at_line-2.ensures c.in_ok-b.was in
    let n = sym c.number_in-3.ensures ∙ lined_ok _ _ c.at_line-3.ensures c.in_ok-n.was in
    omega (arith, (after_bodies a b n).0.high)

pub overflow_cast-head-4 : goal.overflow_cast-head-4
overflow_cast-head-4 c =
    let a = sym c.number_in.ensures ∙ lined_ok _ _ c.at_line.ensures c.in_ok-a.was in
    let b = sym c.number_in-2.ensures ∙ lined_ok _ _ c.at_line-2.ensures c.in_ok-b.was in
    let n = sym c.number_in-3.ensures ∙ lined_ok _ _ c.at_line-3.ensures c.in_ok-n.was in
    let m = sym c.number_in-4.ensures ∙ lined_ok _ _ c.at_line-4.ensures c.in_ok-m.was in
    omega (arith, (after_edges a b n m).0)

pub walk-requires : goal.walk-requires
walk-requires c =
    let a = sym c.number_in.ensures ∙ lined_ok _ _ c.at_line.ensures c.in_ok-a.was in
    let b = sym c.number_in-2.ensures ∙ lined_ok _ _ c.at_line-2.ensures c.in_ok-b.was in
    let n = sym c.number_in-3.ensures ∙ lined_ok _ _ c.at_line-3.ensures c.in_ok-n.was in
    let m = sym c.number_in-4.ensures ∙ lined_ok _ _ c.at_line-4.ensures c.in_ok-m.was in
    let s = (after_edges a b n m).1 in
    record { within = s.within; leads = s.leads }
