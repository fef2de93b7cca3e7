-- `Limits::of`: red is colour 1.
use Rattle.std.proofs.Common.{sym, ap, Bool, cond}
use Rattle.rule.proofs.Tests.{is_false, eq_of, eq_is}
use Rattle.tables.proofs.Limits.of.Goals as goal

pub returns-then-colour-eq1 : goal.returns-then-colour-eq1
returns-then-colour-eq1 c =
    sym (ap (λ (b : Bool). cond b c.args.self.red c.args.self.black) (eq_is _ _ c.if-colour-eq1.true))

pub returns-else-colour-eq1 : goal.returns-else-colour-eq1
returns-else-colour-eq1 c =
    sym (ap (λ (b : Bool). cond b c.args.self.red c.args.self.black) (is_false _ (λ t. c.if-colour-eq1.false (eq_of _ _ t))))
