-- `pager::next_line`: a line in the first places of a buffer is one in the whole of it (Runs.antt).
use native.Mathlib.Omega.{arith}
use mathlib.Core.Path.{◌≡◌, ap}
use lib.ListN.{length, drop, length-append, length-drop}
use lib.Seq.{length-take-le}
use Rattle.reports.specs.Steps.{line_room}
use Rattle.pager.proofs.Runs.{puts_whole}
use Rattle.pager.proofs.next_line.Goals as goal

pub returns : goal.returns
returns c =
    let chunk = c.in_ok-room.ensures.cases in
    let rest = c.args.rest.now in
    let long : length c.line.new.buffer ≡ length c.in_ok-room.room.now =
    omega (
      arith,
      length-append c.line.new.buffer (drop line_room rest),
      length-drop line_room rest,
      ap length chunk.same,
      length-take-le line_room rest chunk.enough,
    ) in
    (chunk.enough, puts_whole rest chunk.enough c.in_ok-room.room.now c.line.new.buffer chunk.same long c.line.ensures)
