use Rattle.std.proofs.Common.{◌≤◌, ◌+◌, length, map, take}
use Rattle.std.specs.HashMap.{spare}
use Rattle.gatekeeper.specs.Running.{HoldsPrograms}
use Rattle.gatekeeper.specs.Stopping.{program_in_log}
use Rattle.gatekeeper.proofs.stopping.put_all.Given as goal

-- those before this place are in the table, and there is room for the others
abbrev pub invariant-loop-at : goal.invariant-loop-at
invariant-loop-at l = record { held : HoldsPrograms l.room.entries (map (program_in_log l.log) (take l.at l.running)); room : length l.running ≤ spare l.room + l.at }
