-- `book::permitted`: by the colour.
use Prim.Native.Nat.{◌+◌}
use borrow.Author.Tests.{leb-true, le-leb, eqb-true}
use Rattle.book.proofs.Edges.{red_permits, black_permits, none_permits}
use Rattle.book.proofs.permitted.Goals as goal

pub returns-then-colour-eq1 : goal.returns-then-colour-eq1
returns-then-colour-eq1 c =
    let w = red_permits c.args.book.now.a c.args.book.now.b c.args.colour c.args.forest c.if-colour-eq1.true in
    (λ h. w.0 (leb-true c.args.forest c.args.book.now.a h), λ p. le-leb c.args.forest c.args.book.now.a (w.1 p))

pub returns-then-colour-eq2 : goal.returns-then-colour-eq2
returns-then-colour-eq2 c =
    let w = black_permits c.args.book.now.a c.args.book.now.b c.args.colour c.args.forest c.if-colour-eq1.false c.if-colour-eq2.true in (
      λ h. w.0 (leb-true c.args.forest (c.args.book.now.a + c.args.book.now.b) h),
      λ p. le-leb c.args.forest (c.args.book.now.a + c.args.book.now.b) (w.1 p),
    )

pub returns-else-colour-eq2 : goal.returns-else-colour-eq2
returns-else-colour-eq2 c = (
  λ h. absurd (c.if-colour-eq2.false (eqb-true c.args.colour 2 h)),
  λ p. absurd (none_permits c.args.book.now.a c.args.book.now.b c.args.colour c.args.forest c.if-colour-eq1.false c.if-colour-eq2.false p),
)
