-- The log of a gatekeeper that the tests stop.
use Rattle.std.specs.Prelude.{List, [], ◌∷◌}
use Rattle.vector_stamp.specs.declared.clock.Stamp.{Stamp}
use Rattle.weave_entries.specs.declared.gate_log.GateEntry.{GateEntry}
use Rattle.weave_entries.specs.declared.gate_log.GateDeed.TheVariants.{BeganTx, BeganProgram, Finished}

-- two authors begin a program of one number, the second one finishes it and begins another one, and a transaction of a
-- third author is in flight
abbrev pub log_with_open : Stamp → Stamp → Stamp → Stamp → List GateEntry
log_with_open first finished second flight =
    record { author = 7; deed = BeganProgram 1 first } ∷
    record { author = 8; deed = BeganProgram 1 finished } ∷
    record { author = 8; deed = Finished 1 } ∷
    record { author = 8; deed = BeganProgram 2 second } ∷
    record { author = 9; deed = BeganTx 3 flight } ∷
    []
