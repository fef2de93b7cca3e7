-- `lines::word_line`: the key, the word and the LF are written one after another (Adding.antt).
use Rattle.text.proofs.Overwrites.{writes_rest}
use Rattle.lines.proofs.Adding.{middle_fits, key_fits, end_left, three_parts, middle_part}
use Rattle.lines.proofs.word_line.Goals as goal

pub bytes-end-requires : goal.bytes-end-requires
bytes-end-requires c = key_fits c.args.key.now c.args.word.now c.args.buffer.now c.requires

pub bytes-requires : goal.bytes-requires
bytes-requires c =
    writes_rest c.args.word.now c.bytes-end.ensures (middle_fits c.args.key.now c.args.word.now c.args.buffer.now c.requires)

pub add_byte-requires : goal.add_byte-requires
add_byte-requires c =
    end_left c.bytes-end.ensures (middle_part c.args.key.now c.args.word.now c.args.buffer.now c.requires c.bytes-end.ensures c.bytes.ensures) c.requires

pub returns : goal.returns
returns c =
    three_parts c.bytes-end.ensures (middle_part c.args.key.now c.args.word.now c.args.buffer.now c.requires c.bytes-end.ensures c.bytes.ensures) c.add_byte.ensures
