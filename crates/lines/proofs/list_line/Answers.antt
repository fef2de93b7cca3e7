-- `lines::list_line`: the key, the numbers and the LF are written one after another (Adding.antt).
use Rattle.text.specs.Lines.{listed, line}
use Rattle.lines.proofs.Adding.{writes_left, middle_fits, key_fits, end_left, three_parts}
use Rattle.lines.proofs.list_line.Goals as goal

pub bytes-first-requires : goal.bytes-first-requires
unfolding line
bytes-first-requires c = key_fits c.args.key.now (listed c.args.list.now) c.args.buffer.now c.requires

pub add_list-end-requires : goal.add_list-end-requires
unfolding line
add_list-end-requires c =
    let numbers = listed c.args.list.now in
    writes_left numbers c.bytes-first.ensures (middle_fits c.args.key.now numbers c.args.buffer.now c.requires)

pub add_byte-requires : goal.add_byte-requires
unfolding line
add_byte-requires c = end_left c.bytes-first.ensures c.add_list-end.ensures c.requires

pub returns : goal.returns
unfolding line
returns c = three_parts c.bytes-first.ensures c.add_list-end.ensures c.add_byte.ensures
