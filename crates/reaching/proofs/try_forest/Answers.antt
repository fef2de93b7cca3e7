-- `reaching::try_forest`: what it asks and answers is said in OneForest.antt, over any design that the tables stand for.
use mathlib.Core.Path.{sym, subst}
use mathlib.Core.List.{List}
use Prim.Native.Nat.{ℕ}
use native.Mathlib.Omega.{arith}
use Rattle.std.specs.Prelude.{None}
use Rattle.theory.specs.Search.{try_forest}
use Rattle.reaching.specs.Trying.{Tells, After}
use Rattle.reaching.proofs.OneForest.{ends_read, joined_read, path_read, one_of_six, joined_then, free_then, free_answers, path_comes, joined_answers}
use Rattle.reaching.proofs.try_forest.Goals as goal

pub joined-requires : goal.joined-requires
joined-requires c = (one_of_six c.requires.0 c.requires.1.0, ends_read c.requires.0 c.from-u.ensures c.from-v.ensures c.args.f)

pub path-on-requires : goal.path-on-requires
path-on-requires c = (one_of_six c.requires.0 c.requires.1.0, ends_read c.requires.0 c.from-u.ensures c.from-v.ensures c.args.f)

pub offset_bounds-queue-g : goal.offset_bounds-queue-g
offset_bounds-queue-g c = omega (arith, one_of_six c.requires.0 c.requires.1.0)

pub bounds-queue-g : goal.bounds-queue-g
bounds-queue-g c = omega (arith, one_of_six c.requires.0 c.requires.1.0)

pub offset_bounds-queue-g-2 : goal.offset_bounds-queue-g-2
offset_bounds-queue-g-2 c = omega (arith, one_of_six c.requires.0 c.requires.1.0)

pub bounds-queue-g-2 : goal.bounds-queue-g-2
bounds-queue-g-2 c = omega (arith, one_of_six c.requires.0 c.requires.1.0)

pub overflow_mul-g : goal.overflow_mul-g
overflow_mul-g c = omega (arith, one_of_six c.requires.0 c.requires.1.0)

pub reach-requires : goal.reach-requires
reach-requires c =
    let t = c.requires.0 in
    let allowed = c.requires.1.0 in
    let joined = joined_read t c.from-u.ensures c.from-v.ensures c.args.f c.joined.ensures in
    let on = path_read t c.from-u.ensures c.from-v.ensures c.args.f c.path-on.ensures in
    (omega (arith, one_of_six t allowed), path_comes t allowed (joined_then t allowed joined c.if-not-joined.false) on)

pub returns-then-not-joined : goal.returns-then-not-joined
returns-then-not-joined c t allowed ne =
    let joined = joined_read t c.from-u.ensures c.from-v.ensures c.args.f c.joined.ensures in
    free_answers t allowed ne (free_then t allowed joined c.if-not-joined.true)

pub returns : goal.returns
returns c t allowed ne =
    let joined = joined_read t c.from-u.ensures c.from-v.ensures c.args.f c.joined.ensures in
    let on = path_read t c.from-u.ensures c.from-v.ensures c.args.f c.path-on.ensures in
    let spanned = joined_then t allowed joined c.if-not-joined.false in
    let r = c.reach.ensures (path_comes t allowed spanned on) in
    let Q = c.reach.new.queue in
    subst (λ (seen : List ℕ). Tells (After t Q.edges Q.from seen) c.args.place (try_forest t.d t.forest c.args.place t.x c.args.f t.w) Q.size None)
    (sym r.as_seen) (joined_answers t allowed spanned on ne r.came)
