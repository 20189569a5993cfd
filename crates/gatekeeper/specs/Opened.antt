-- What was begun at a gatekeeper and has not ended, by the replay of the log.
use Rattle.weave_entries.specs.GateReplay.{BegunRequest}
use Rattle.gatekeeper.specs.declared.flight.Flight.{Flight}

-- who began which request, and its stamp
abbrev pub as_begun : Flight → BegunRequest
as_begun one = record { author = one.author; request = one.request; stamp = one.stamp }
