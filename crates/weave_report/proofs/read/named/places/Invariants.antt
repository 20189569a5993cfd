use Rattle.std.proofs.Common.{◌≡◌, ◌≤◌, ℕ, List, length, drop}
use Rattle.std.specs.List.{AllByRecursion}
use Rattle.weave_data.specs.Pairs.{at_key}
use Rattle.weave_report.specs.ReadingReplies.{request_from}
use Rattle.weave_report.specs.TextOf.{IsName, request_names}
use Rattle.weave_report.proofs.read.named.places.Given as goal

-- the requests from this place on are in the map, and have names
abbrev pub invariant-loop-place : goal.invariant-loop-place
invariant-loop-place l = record {
  within : l.place ≤ length l.requests;
  places : (name : List ℕ) → at_key name l.places.entries ≡ request_from l.place name (drop l.place l.requests);
  names : AllByRecursion IsName (request_names (drop l.place l.requests));
}

abbrev pub decreases-loop-place : goal.decreases-loop-place
decreases-loop-place l = l.place
