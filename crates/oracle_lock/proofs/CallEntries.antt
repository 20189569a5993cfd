-- The entries that one call adds to the oracle's log: of which events and by which author they are, and what they keep.
-- Used by Judging and crates shard_lock and store_lock.
use Rattle.std.proofs.Common.{◌≡◌, ℕ, List, [], ◌∷◌, ◌++◌, map, Contains, sym, subst}
use Rattle.std.specs.Prelude.{All}
use Rattle.std.proofs.lemmas.List.Elements.{All-nil, All-cons}
use Rattle.weave_data.proofs.Members.{has_none, only}
use Rattle.vector_stamp.specs.declared.clock.Stamp.{Stamp}
use Rattle.vector_stamp.specs.Settling.{SettledEntry, entries_of_call}
use Rattle.weave_entries.specs.declared.gate_log.GateEntry.{GateEntry}
use Rattle.weave_entries.specs.declared.oracle_log.OracleDeed.{OracleDeed}
use Rattle.weave_entries.specs.declared.oracle_log.OracleEntry.{OracleEntry}
use Rattle.weave_entries.specs.OracleReplay.{oracle_entry_of, settled_entry}
use Rattle.weave_entries.specs.OracleRules.{IsOracleLog}
use Rattle.weave_account.specs.Account.{IsBegunStamp}
use Rattle.chronicle.specs.Logs.{Log}
use Rattle.seen_logs.specs.Entries.{oracle_pair, oracle_pairs}
use Rattle.oracle_lock.specs.Seen.{of_gates, OracleIsKept}

-- an entry of a call is of the events of the call
pub call-events : (author : ℕ) (asked : List Stamp) (stamp : Stamp) (places : List ℕ) (entry : SettledEntry)
    (event : Stamp)
    → Contains (entries_of_call author asked stamp places) entry → Contains (entry.later ∷ entry.earlier) event
    → Contains (stamp ∷ asked) event
call-events author asked stamp [] entry event h has = absurd (has_none entry h)
call-events author asked stamp (place ∷ places) entry event h has =
    let one : SettledEntry = record { author = author; earlier = asked; later = stamp; places = place ∷ places } in
    subst (λ (e : SettledEntry). Contains (e.later ∷ e.earlier) event) (sym (only one entry h)) has

-- these are all of one author
abbrev pub AllBy : ℕ → Log OracleDeed → Type 0
AllBy number log = All (λ e. e.0 ≡ number) log

-- no entries are of any author
pub none-by : (number : ℕ) → AllBy number []
none-by number = All-nil (λ (e : ℕ × OracleDeed). e.0 ≡ number)

-- and those of a call are of its author
pub call-by : (number author : ℕ) (asked : List Stamp) (stamp : Stamp) (places : List ℕ) → author ≡ number
    → AllBy number (oracle_pairs (map oracle_entry_of (entries_of_call author asked stamp places)))
call-by number author asked stamp [] same = none-by number
call-by number author asked stamp (place ∷ places) same =
    All-cons (λ (e : ℕ × OracleDeed). e.0 ≡ number)
    (oracle_pair (oracle_entry_of (record { author = author; earlier = asked; later = stamp; places = place ∷ places }))) [] same (none-by number)

-- whatever the oracle's log gains in a judge, if its events were begun, all that its entries refer to is still seen
abbrev pub KeepsGained : ℕ → List (List GateEntry) → List OracleEntry → List OracleEntry → Type 0
KeepsGained shards gates before after = (entries : List SettledEntry)
    → map settled_entry after ≡ map settled_entry before ++ entries
    → IsOracleLog after
    → ((entry : SettledEntry) (event : Stamp) → Contains entries entry → Contains (entry.later ∷ entry.earlier) event
    → IsBegunStamp (of_gates gates) event)
    → OracleIsKept shards gates after
