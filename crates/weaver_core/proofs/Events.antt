-- A table of requests, by the ids of their events, and the pairs that are found by it.
-- Used by `pairs_of` and `requests_by_event`.
use Rattle.std.proofs.Common.{◌≡◌, ℕ, suc, ◌<◌, Bool, cond, List, [], ◌∷◌, length, drop, get_or, Option, None, Some, sym, ap, ◌∙◌, drop-cons}
use Rattle.std.proofs.Math.Bool.{or-false}
use Rattle.std.specs.Map.{lookup}
use Rattle.weave_data.specs.declared.name.Name.{Name}
use Rattle.vector_stamp.specs.declared.clock.Stamp.{Stamp}
use Rattle.vector_stamp.specs.Order.{id_of}
use Rattle.weave_entries.specs.declared.oracle_log.OracleEntry.{OracleEntry}
use Rattle.weave_entries.specs.declared.shard_log.ShardEntry.{ShardEntry}
use Rattle.weave_entries.specs.declared.store_log.StoreEntry.{StoreEntry}
use Rattle.report_rules.specs.declared.report.Pair.{Pair}
use Rattle.weaver_core.specs.Marks.{AddsVisits, all_visits, has_mark, mark_of, was_asked}
use Rattle.weaver_core.specs.Reporting.{HasRequests, all_pairs_found, found_in, key_of, request_with_id, request_with, same_key}

-- a table of the requests from the next one on, with this request put in, has those from this one on
pub table-more : (stamps : List (Option Stamp)) (n : ℕ) (stamp : Stamp) (written : ℕ × ℕ × ℕ) (es fs : List ((ℕ × ℕ × ℕ) × ℕ)) → n < length stamps → get_or stamps n None ≡ Some stamp → written ≡ key_of (id_of stamp)
    → HasRequests (suc n) (drop (suc n) stamps) es → ((key : ℕ × ℕ × ℕ) → lookup (same_key key) fs ≡ cond (same_key written key) (Some n) (lookup (same_key key) es)) → HasRequests n (drop n stamps) fs
table-more stamps n stamp written es fs within at is has writes id =
    writes (key_of id)
    ∙ (λ i. cond (same_key (is i) (key_of id)) (Some n) (has id i))
    ∙ ap (λ (o : Option Stamp). request_with_id n id (o ∷ drop (suc n) stamps)) (sym at)
    ∙ sym (ap (request_with_id n id) (drop-cons stamps n None within))

-- the pairs by the requests of stamps, and by which visits there were
abbrev pairs-by : (Stamp → Option ℕ) → (ℕ × Name × ℕ → Bool) → List StoreEntry → List OracleEntry → List Pair
pairs-by request_of visited store oracle = all_pairs_found request_of store (mark_of request_of visited store) oracle

-- the pairs by such a table of all requests, and by one of the visits, are those by the stamps and by the shards' logs
pub all-found : {X : Type 0} (entries : List ((ℕ × ℕ × ℕ) × ℕ)) (stamps : List (Option Stamp)) → HasRequests 0 stamps entries
    → (visits : List ((ℕ × Name × ℕ) × X)) (logs : List (List ShardEntry)) → AddsVisits {X = X} [] visits (all_visits logs)
    → (store : List StoreEntry) (oracle : List OracleEntry)
    → pairs-by (found_in entries) (has_mark visits) store oracle ≡ pairs-by (request_with stamps) (was_asked (all_visits logs)) store oracle
all-found entries stamps has visits logs adds store oracle =
    λ i. pairs-by (λ (event : Stamp). has (id_of event) i) (λ (key : ℕ × Name × ℕ). (adds key ∙ or-false (was_asked (all_visits logs) key)) i) store oracle
