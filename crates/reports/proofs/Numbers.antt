-- How many lines a report and a certificate have of a book: the lines of their sections, added up.
-- Assumes nothing.
use mathlib.Core.Path.{◌≡◌}
use Prim.Native.Nat.{◌+◌}
use native.Mathlib.Omega.{arith}
use Rattle.rule.specs.declared.Book.{Book}
use Rattle.rule.specs.Books.{design_of}
use Rattle.reports.specs.Sections.{lines_in}
use Rattle.reports.specs.Steps.{report, certificate}

pub report_number : (B : Book) → report.number B ≡ B.count + 4
unfolding lines_in design_of
report_number B = omega arith

pub certificate_number : (B : Book) → certificate.number B ≡ 4 + B.count + B.count
unfolding lines_in
certificate_number B = omega arith
