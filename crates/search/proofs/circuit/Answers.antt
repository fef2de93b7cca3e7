-- `search::circuit`: the edges that wait behind the new one are marked, and what is marked is listed.
use Rattle.search.proofs.Marking.{no_marks, has_word, some_wait, markings, others_listed}
use Rattle.search.proofs.circuit.Goals as goal

pub mark-requires : goal.mark-requires
mark-requires c = let t = c.requires.1 in (some_wait t, has_word t, no_marks 9)

pub list_marked-requires : goal.list_marked-requires
list_marked-requires c = markings c.requires.1 c.mark.ensures c.requires.0

pub returns : goal.returns
returns c t = others_listed t c.mark.ensures (c.list_marked.ensures (markings t c.mark.ensures c.requires.0))
