-- The contract of `write` determines the answer and every place of the buffer, for every book, sound or not: any two outcomes that it
-- permits agree. The checks pass or fail, and the text of a book is one text.
-- Assumes nothing.
use Rattle.std.specs.Prelude.{Result, Ok, Err}
use mathlib.Core.Path.{◌≡◌, sym, ap, ◌∙◌}
use mathlib.Core.List.{List}
use Prim.Native.Nat.{ℕ}
use Rattle.rule.specs.declared.Book.{Book}
use Rattle.rule.specs.declared.Reason.{Reason}
use Rattle.rule.proofs.Determined.{fail_determined, pass_not_fail, nothing_single, place_single}
use Rattle.reports.specs.Reads.{write_checks, Written}

pub write_determined : (B : Book) (buffer one other : List ℕ) (x y : Result ℕ Reason) → Written B buffer one x → Written B buffer other y
    → (one ≡ other) × (x ≡ y)
write_determined B buffer one other (Ok m) (Ok n) p q =
    (p.1.fills ∙ sym q.1.fills, ap Ok (p.1.number ∙ sym q.1.number))
write_determined B buffer one other (Ok m) (Err r) p q = absurd (pass_not_fail (write_checks B buffer) r p.0 q.0)
write_determined B buffer one other (Err r) (Ok n) p q = absurd (pass_not_fail (write_checks B buffer) r q.0 p.0)
write_determined B buffer one other (Err r) (Err s) p q =
    (p.1 ∙ sym q.1, ap Err (fail_determined (write_checks B buffer) (place_single B, (nothing_single, tt)) p.0 q.0))
