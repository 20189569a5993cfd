-- The oracle's pairs as they are computed: each with its two requests, and the vertex at its place in what was asked.
use Rattle.std.specs.Prelude.{ℕ, Bool, ◌&&◌, List, [], ◌∷◌, slice_get, Option, None}
use Rattle.std.specs.List.{find, filter_map, flat_map, list_any}
use Rattle.std.specs.Option.{option_map, option_and_then, option_or}
use Rattle.weave_data.specs.declared.name.Name.{Name}
use Rattle.vector_stamp.specs.declared.clock.Stamp.{Stamp}
use Rattle.vector_stamp.specs.Order.{same_stamp}
use Rattle.vector_stamp.specs.Precedence.{GivenPair}
use Rattle.vector_stamp.specs.Settling.{SettledEntry}
use Rattle.weave_entries.specs.declared.oracle_log.OracleEntry.{OracleEntry}
use Rattle.weave_entries.specs.declared.shard_log.ShardEntry.{ShardEntry}
use Rattle.weave_entries.specs.declared.store_log.StoreEntry.{StoreEntry}
use Rattle.weave_entries.specs.GateReplay.{BegunRequest}
use Rattle.weave_entries.specs.OracleReplay.{settled_entry}
use Rattle.weave_entries.specs.ShardReplay.{Visit, visits_of}
use Rattle.weave_entries.specs.StoreReplay.{Judgement, judgements_of}
use Rattle.report_rules.specs.declared.report.Pair.{Pair}
use Rattle.weave_account.specs.declared.account.Account.{Account}
use Rattle.weave_account.specs.Account.{all_begun}
use Rattle.weave_account.specs.Oracle.{seen_last}

-- the request that was begun with this stamp, if there is one
abbrev pub request_stamped : Account → Stamp → Option ℕ
request_stamped account stamp =
    option_map (λ (begun : BegunRequest). begun.request)
    (find (λ (begun : BegunRequest). same_stamp begun.stamp stamp) (all_begun account))

-- the vertex at a place of what the store asked for this stamp
abbrev pub vertex_asked : List StoreEntry → Stamp → ℕ → Option Name
vertex_asked store later place =
    option_and_then (λ (judged : Judgement). slice_get judged.asked place)
    (find (λ (judged : Judgement). same_stamp judged.stamp later) (judgements_of store))

-- whether a visit of this shard added the pair: it has the later stamp, is marked as settled, and the last update
-- that it saw has the earlier one
abbrev pub added_at : Stamp → Stamp → List ShardEntry → Visit → Bool
added_at earlier later log visit =
    same_stamp visit.stamp later && visit.settled && list_any (same_stamp earlier) (seen_last log visit)

-- the vertex of the visit in this shard that added the pair, if there is one
abbrev pub vertex_visited_in : Stamp → Stamp → List ShardEntry → Option Name
vertex_visited_in earlier later log =
    option_map (λ (visit : Visit). visit.vertex) (find (added_at earlier later log) (visits_of log))

-- and in any of the shards
abbrev pub vertex_visited : List (List ShardEntry) → Stamp → Stamp → Option Name
vertex_visited [] earlier later = None
vertex_visited (log ∷ logs) earlier later =
    option_or (vertex_visited_in earlier later log) (vertex_visited logs earlier later)

-- a pair of the oracle, added for this place, as a pair of requests with its vertex
abbrev pub placed_pair : Account → ℕ → GivenPair → Option Pair
placed_pair account place given =
    option_and_then (λ (earlier : ℕ). option_and_then
    (λ (later : ℕ). option_map (λ (v : Name). record { vertex = v; earlier = earlier; later = later })
    (option_or (vertex_asked account.store given.1 place) (vertex_visited account.shards given.0 given.1)))
    (request_stamped account given.1)) (request_stamped account given.0)

-- the pairs of an entry
abbrev pub placed_by : Account → SettledEntry → List Pair
placed_by account entry =
    filter_map (λ (place : ℕ). option_and_then (λ (event : Stamp). placed_pair account place (event, entry.later))
    (slice_get entry.earlier place)) entry.places

-- the pairs of the oracle's log, in the order in which they were added
abbrev pub placed_pairs : Account → List Pair
placed_pairs account = flat_map (λ (entry : OracleEntry). placed_by account (settled_entry entry)) account.oracle
