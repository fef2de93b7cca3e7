-- `Labels::joined`: the two labels are compared where the bodies stand.
use Rattle.std.proofs.Common.{ap₂, ℕ, get_or, nat_eq}
use Rattle.rule.specs.Sets.{◌=?◌}
use Rattle.tables.proofs.Labels.joined.Goals as goal

pub returns : goal.returns
unfolding ◌=?◌
returns c =
    ap₂ (λ (x y : ℕ). nat_eq (get_or c.args.self.now.root x 0) (get_or c.args.self.now.root y 0)) c.place.ensures.0
    c.place-2.ensures.0
