-- `labels::unite`: the tree with fewer bodies is relabelled, whichever it is.
use mathlib.Core.Path.{sym, subst}
use Prim.Native.Nat.{ℕ, ◌<◌}
use lib.ListN.{get_or}
use Rattle.labels.proofs.Joining.{one_renamed, other_renamed}
use Rattle.labels.proofs.unite.Goals as goal

pub seat-i-requires : goal.seat-i-requires
seat-i-requires c =
    (c.requires.forest, subst (λ (i : ℕ). get_or c.args.labels.now.root i 0 < 64) (sym c.place-x.ensures.0) c.requires.one_label)

pub seat-j-requires : goal.seat-j-requires
seat-j-requires c =
    (c.requires.forest, subst (λ (i : ℕ). get_or c.args.labels.now.root i 0 < 64) (sym c.place-y.ensures.0) c.requires.other_label)

pub returns-then-ours-theirs : goal.returns-then-ours-theirs
returns-then-ours-theirs c =
    one_renamed c.args.f c.args.u c.args.v c.args.labels.now.root c.args.labels.now.who c.requires c.args.labels.now.root_long c.args.labels.now.who_long
    c.place-x.result c.place-y.result c.seat-i.result c.seat-j.result
    c.place-x.ensures.0 c.place-y.ensures.0 c.seat-i.ensures.0 c.seat-j.ensures.0
    c.relabel.new.root c.relabel.ensures

pub returns-else-ours-theirs : goal.returns-else-ours-theirs
returns-else-ours-theirs c =
    other_renamed c.args.f c.args.u c.args.v c.args.labels.now.root c.args.labels.now.who c.requires c.args.labels.now.root_long c.args.labels.now.who_long
    c.place-x.result c.place-y.result c.seat-i.result c.seat-j.result
    c.place-x.ensures.0 c.place-y.ensures.0 c.seat-i.ensures.0 c.seat-j.ensures.0
    c.relabel-else-ours-theirs.new.root c.relabel-else-ours-theirs.ensures
