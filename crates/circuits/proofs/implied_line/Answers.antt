-- `circuits::implied_line`: a line of the list's first places, which hold the circuit, fits the buffer.
use native.Mathlib.Omega.{arith}
use Rattle.circuits.proofs.Room.{circuit_fits}
use Rattle.circuits.proofs.implied_line.Goals as goal

pub list_line-requires : goal.list_line-requires
list_line-requires c =
    omega (arith, circuit_fits c.args.book.now c.requires.listable.sound c.args.e c.circuit-n.ensures.is_circuit, c.requires.room)
