-- How a core finds its report. No public contract cites this.
use Rattle.std.specs.Prelude.{◌≡◌, ◌≢◌, ◌<◌, ◌==◌, ◌&&◌, ℕ, suc, Bool, length, List, [], ◌∷◌, map, Contains, Option, None, Some, slice_get, slice_index_or, if◌then◌else◌}
use Rattle.std.specs.List.{filter_map, flat_map, range_with_len}
use Rattle.std.specs.Map.{lookup}
use Rattle.std.specs.Option.{option_and_then, option_map}
use Rattle.weave_data.specs.declared.name.Name.{Name}
use Rattle.weave_data.specs.Limits.{most_gates}
use Rattle.vector_stamp.specs.declared.clock.EventId.{EventId}
use Rattle.vector_stamp.specs.declared.clock.Stamp.{Stamp}
use Rattle.vector_stamp.specs.Order.{id_of}
use Rattle.vector_stamp.specs.Settling.{SettledEntry}
use Rattle.program_defs.specs.declared.script.Request.{Request}
use Rattle.program_defs.specs.declared.script.Work.{Work}
use Rattle.program_defs.specs.declared.script.Work.TheVariants.{Change, Look}
use Rattle.report_rules.specs.declared.report.Pair.{Pair}
use Rattle.report_rules.specs.declared.report.Reply.{Reply}
use Rattle.report_rules.specs.declared.report.ReplyState.{ReplyState}
use Rattle.report_rules.specs.declared.report.ReplyState.TheVariants.{Unbegun, Begun}
use Rattle.weave_account.specs.Report.{state_of_tx}
use Rattle.weave_account.specs.declared.account.Account.{Account}
use Rattle.weave_account.specs.Account.{stamp_of}
use Rattle.weave_entries.specs.declared.store_log.StoreEntry.{StoreEntry}
use Rattle.weave_entries.specs.declared.oracle_log.OracleEntry.{OracleEntry}
use Rattle.weave_entries.specs.OracleReplay.{settled_entry}
use Rattle.weave_entries.specs.StoreReplay.{Judgement, judgement_of}
use Rattle.weaver_core.specs.Sessions.{SessionValues, values_at}

-- The replies

-- stamp r of the list is that of request r in the account
abbrev pub AreStampsOf : Account → List (Option Stamp) → Type 0
AreStampsOf account stamps = (r : ℕ) → r < length stamps → slice_index_or stamps r None ≡ stamp_of account r

-- the state of a transaction that has this stamp, if it was begun
abbrev pub state_stamped : List StoreEntry → ℕ → Option Stamp → ReplyState
state_stamped store r None = Unbegun
state_stamped store r (Some stamp) = state_of_tx (judgement_of r store)

-- the reply to a request among those of its session, or that there is none
abbrev pub IsFoundAmong : List Reply → ℕ → Option Reply → Type 0
IsFoundAmong replies r None = (reply : Reply) → Contains replies reply → reply.request ≢ r
IsFoundAmong replies r (Some reply) = Contains replies reply × (reply.request ≡ r)

-- the state of a program that has begun, by its reply
abbrev pub state_replied : Option Reply → ReplyState
state_replied None = Begun
state_replied (Some reply) = reply.state

-- and of one that has this stamp, if it was begun
abbrev pub state_by_reply : Option Stamp → Option Reply → ReplyState
state_by_reply None reply = Unbegun
state_by_reply (Some stamp) reply = state_replied reply

-- the reply to a program that has begun was found, and this is its state
pub record IsReplyFound (replies : List Reply) (r : ℕ) (state : ReplyState) : Type 0 where
  pub found : Option Reply
  pub is_found : IsFoundAmong replies r found
  pub state_is : state ≡ state_replied found

-- the state of a request that has this stamp, if it was begun: a transaction's by the store's log, a program's by
-- its reply
abbrev pub IsStateFound : List StoreEntry → List Reply → ℕ → Option Stamp → Work → ReplyState → Type 0
IsStateFound store replies r stamp (Change ops) state = state ≡ state_stamped store r stamp
IsStateFound store replies r None (Look program) state = state ≡ Unbegun
IsStateFound store replies r (Some stamp) (Look program) state = IsReplyFound replies r state

-- the reply of a request, by the stamps, by the replies of its session, and by the store's log
pub record IsRequestsReply (store : List StoreEntry) (values : List SessionValues) (stamps : List (Option Stamp))
    (r : ℕ) (request : Request) (reply : Reply) : Type 0 where
  pub request_is : reply.request ≡ r
  pub stamp_is : reply.stamp ≡ slice_index_or stamps r None
  pub state_is : IsStateFound store (values_at values request.session).replies r (slice_index_or stamps r None)
      request.work reply.state

-- one reply for each of these requests
pub record AreRequestsReplies (store : List StoreEntry) (values : List SessionValues) (stamps : List (Option Stamp))
    (requests : List Request) (count : ℕ) (replies : List Reply) : Type 0 where
  pub numbered : map (λ (reply : Reply). reply.request) replies ≡ range_with_len 0 count
  pub each : (r : ℕ) (reply : Reply) → slice_get replies r ≡ Some reply → (request : Request)
      → slice_get requests r ≡ Some request
      → IsRequestsReply store values stamps r request reply

-- The requests of events

-- the numbers of an id
abbrev pub key_of : EventId → ℕ × ℕ × ℕ
key_of id = (id.home, id.epoch, id.count)

-- two such numbers are the same
abbrev pub same_key : ℕ × ℕ × ℕ → ℕ × ℕ × ℕ → Bool
same_key a b = ((a.0 == b.0) && (a.1 == b.1)) && (a.2 == b.2)

-- the first request, numbered on from this one, that was begun with a stamp of this id
abbrev pub request_with_id : ℕ → EventId → List (Option Stamp) → Option ℕ
request_with_id r id [] = None
request_with_id r id (None ∷ stamps) = request_with_id (suc r) id stamps
request_with_id r id (Some stamp ∷ stamps) =
    if same_key (key_of (id_of stamp)) (key_of id) then Some r else request_with_id (suc r) id stamps

-- the request of an event, by the stamps of all requests
abbrev pub request_with : List (Option Stamp) → Stamp → Option ℕ
request_with stamps event = request_with_id 0 (id_of event) stamps

-- the request of an event, by a table
abbrev pub found_in : List ((ℕ × ℕ × ℕ) × ℕ) → Stamp → Option ℕ
found_in entries event = lookup (same_key (key_of (id_of event))) entries

-- a table has the first request of each event, of those from this one on
abbrev pub HasRequests : ℕ → List (Option Stamp) → List ((ℕ × ℕ × ℕ) × ℕ) → Type 0
HasRequests r stamps entries = (id : EventId) → lookup (same_key (key_of id)) entries ≡ request_with_id r id stamps

-- the stamps of an entry are of homes below 8
abbrev pub AreOfHomes : SettledEntry → Type 0
AreOfHomes entry = (event : Stamp) → Contains (entry.later ∷ entry.earlier) event → event.home < most_gates

-- The pairs, if the requests of events are found so

-- the vertices of which the store asked; none if it has not judged
abbrev pub asked_in : Option Judgement → List Name
asked_in None = []
asked_in (Some judged) = judged.asked

-- the vertices of which it asked for a request
abbrev pub asked_by : List StoreEntry → ℕ → List Name
asked_by store r = asked_in (judgement_of r store)

-- the pair at a place of what was asked, if its earlier event's request is found
abbrev pub pair_found : (Stamp → Option ℕ) → List Stamp → List Name → ℕ → ℕ → Option Pair
pair_found request_of earlier asked later place =
    option_and_then (λ (event : Stamp). option_and_then (λ (r : ℕ).
    option_map (λ (v : Name). record { vertex = v; earlier = r; later = later }) (slice_get asked place))
    (request_of event)) (slice_get earlier place)

-- the vertices at the places: that of the visit that is marked, or those of which the store asked
abbrev pub asked_with : List StoreEntry → ℕ → Option Name → List Name
asked_with store later None = asked_by store later
asked_with store later (Some v) = v ∷ []

-- the pairs of an entry with this mark, if its later event's request is this one
abbrev pub pairs_before : (Stamp → Option ℕ) → List StoreEntry → Option Name → SettledEntry → Option ℕ → List Pair
pairs_before request_of store mark entry None = []
pairs_before request_of store mark entry (Some later) =
    filter_map (pair_found request_of entry.earlier (asked_with store later mark) later) entry.places

-- and whichever its request is
abbrev pub pairs_found : (Stamp → Option ℕ) → List StoreEntry → Option Name → SettledEntry → List Pair
pairs_found request_of store mark entry = pairs_before request_of store mark entry (request_of entry.later)

-- the pairs of the oracle's log, in order, by the mark of each entry
abbrev pub all_pairs_found : (Stamp → Option ℕ) → List StoreEntry → (SettledEntry → Option Name) → List OracleEntry
    → List Pair
all_pairs_found request_of store mark oracle =
    flat_map (λ (entry : OracleEntry). pairs_found request_of store (mark (settled_entry entry)) (settled_entry entry))
    oracle
