-- `writer::write`: the text of a sound book fits the answer (Sheets.antt).
use native.Mathlib.Omega.{arith}
use Rattle.writer.proofs.Sheets.{sound_text_size}
use Rattle.writer.proofs.write.Goals as goal

pub overflow_cast-result : goal.overflow_cast-result
overflow_cast-result c =
    omega (arith, c.text_of-end.ensures.number, sound_text_size c.args.book c.in_ok-sound_alone.ensures.0.0)
