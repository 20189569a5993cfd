-- The numbers of statuses.
use Rattle.std.specs.Prelude.{ℕ}
use Rattle.weaver_top.specs.declared.status.Status.{Status}
use Rattle.weaver_top.specs.declared.status.Status.TheVariants.{Done, Read, Refused, Write, Memory, Words, NotRight, Disk, Foreign}

-- the number of a status, which is the exit code of the program
abbrev pub status_number : Status → ℕ
status_number Done = 0
status_number Read = 1
status_number Refused = 2
status_number Write = 3
status_number Memory = 4
status_number Words = 5
status_number NotRight = 6
status_number Disk = 7
status_number Foreign = 8
