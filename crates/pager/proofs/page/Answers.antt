-- `pager::page`: as the text was received (Answers.antt).
use Rattle.pager.proofs.page.Goals as goal

pub book_page-requires : goal.book_page-requires
book_page-requires c = c.in-Ok.is

pub refused_page-requires : goal.refused_page-requires
refused_page-requires c = c.in-Err.is

pub returns-in-Ok : goal.returns-in-Ok
returns-in-Ok c = c.book_page.ensures

pub returns-in-Err : goal.returns-in-Err
returns-in-Err c = c.refused_page.ensures c.args.kind
