-- The two kinds of page, and the form of each (crate reports).
use Rattle.reports.specs.Steps.{Form, report, certificate}
use Rattle.pager.specs.declared.Kind.{Kind}

abbrev pub form_of : Kind → Form
form_of Kind.Report = report
form_of Kind.Certificate = certificate
