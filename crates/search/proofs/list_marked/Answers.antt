-- `search::list_marked`: the numbers of the words passed stand in the list.
use native.Mathlib.Omega.{arith}
use Rattle.reaching.proofs.Laid.{laid_length}
use Rattle.search.proofs.MarkedList.{word_comes, no_word, next_word, all_words}
use Rattle.search.proofs.list_marked.Goals as goal

pub loop-i-init : goal.loop-i-init
loop-i-init c t = no_word c.args.marks.now t

pub list_word-n-requires : goal.list_word-n-requires
list_word-n-requires c =
    let t = c.requires in
    let r = c.loop-i.invariant t in
    (omega arith, word_comes c.args.marks.now t c.loop-i.i (laid_length r.laid) r.counts)

pub loop-i-preserved : goal.loop-i-preserved
loop-i-preserved c t =
    let r = c.loop-i.invariant t in
    next_word c.args.marks.now t c.loop-i.i r (c.list_word-n.ensures (word_comes c.args.marks.now t c.loop-i.i (laid_length r.laid) r.counts))

pub returns : goal.returns
returns c t = all_words c.args.marks.now t c.loop-i.i (omega arith) (c.loop-i.invariant t)
