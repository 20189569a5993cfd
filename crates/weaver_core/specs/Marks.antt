-- How a core finds the vertices of the visits that asked the oracle, by the logs. No public contract cites this.
use Rattle.std.specs.Prelude.{◌≡◌, ◌-◌, ◌==◌, ◌&&◌, ◌||◌, nat_lt, ℕ, Bool, List, [], ◌∷◌, Option, None, Some, is_some, slice_get}
use Rattle.std.specs.List.{find, flat_map, list_any}
use Rattle.std.specs.Map.{lookup}
use Rattle.std.specs.Option.{option_and_then, option_map}
use Rattle.weave_data.specs.declared.name.Name.{Name}
use Rattle.weave_data.specs.Names.{same_name}
use Rattle.vector_stamp.specs.declared.clock.Stamp.{Stamp}
use Rattle.vector_stamp.specs.Settling.{SettledEntry}
use Rattle.report_rules.specs.declared.report.Pair.{Pair}
use Rattle.weave_entries.specs.declared.shard_log.ShardEntry.{ShardEntry}
use Rattle.weave_entries.specs.declared.store_log.StoreEntry.{StoreEntry}
use Rattle.weave_entries.specs.declared.verdict.Counted.{Counted}
use Rattle.weave_entries.specs.declared.verdict.Verdict.{Verdict}
use Rattle.weave_entries.specs.declared.verdict.Verdict.TheVariants.{Committed}
use Rattle.weave_entries.specs.ShardReplay.{Visit, visits_of}
use Rattle.weave_entries.specs.StoreReplay.{Judgement, judgement_of}
use Rattle.weave_account.specs.declared.account.Account.{Account}
use Rattle.weave_account.specs.Oracle.{IsAskedByCommit}
use Rattle.weave_account.specs.Pairs.{IsPairInAccount}

-- The visits that asked the oracle: by request, vertex, and number of updates before the last one that was seen

-- two of these are the same
abbrev pub same_visit : ℕ × Name × ℕ → ℕ × Name × ℕ → Bool
same_visit a b = ((a.0 == b.0) && same_name a.1 b.1) && (a.2 == b.2)

-- whether a visit with these values asked the oracle, saw an update, and is this one
abbrev pub adds_visit : ℕ → Name → ℕ → Bool → ℕ × Name × ℕ → Bool
adds_visit r v updates settled key = (settled && nat_lt 0 updates) && same_visit (r, v, updates - 1) key

-- whether one of these visits did
abbrev pub was_asked : List Visit → ℕ × Name × ℕ → Bool
was_asked visits key =
    list_any (λ (visit : Visit). adds_visit visit.request visit.vertex visit.updates visit.settled key) visits

-- the visits of these logs
abbrev pub all_visits : List (List ShardEntry) → List Visit
all_visits logs = flat_map visits_of logs

-- whether a table has this one
abbrev pub has_mark : {X : Type 0} → List ((ℕ × Name × ℕ) × X) → ℕ × Name × ℕ → Bool
has_mark entries key = is_some (lookup (same_visit key) entries)

-- the table has these visits, too
abbrev pub AddsVisits : {X : Type 0} → List ((ℕ × Name × ℕ) × X) → List ((ℕ × Name × ℕ) × X) → List Visit → Type 0
AddsVisits old new visits = (key : ℕ × Name × ℕ) → has_mark new key ≡ (was_asked visits key || has_mark old key)

-- The vertex of an entry

-- the vertices that a verdict counts, each with the number of commits before that name it
abbrev pub counts_of_verdict : Verdict → List Counted
counts_of_verdict (Committed number answers counts) = counts
counts_of_verdict _ = []

-- the same, if there is a verdict
abbrev pub counts_if : Option Verdict → List Counted
counts_if None = []
counts_if (Some verdict) = counts_of_verdict verdict

-- those of the commit of a request
abbrev pub counts_by : List StoreEntry → ℕ → List Counted
counts_by store r = counts_if (option_map (λ (judged : Judgement). judged.verdict) (judgement_of r store))

-- the first of these vertices at which the request saw last the commit after those that are counted
abbrev pub first_seen : (ℕ × Name × ℕ → Bool) → ℕ → List Counted → Option Name
first_seen asked r counts =
    option_map (λ (counted : Counted). counted.vertex)
    (find (λ (counted : Counted). asked (r, counted.vertex, counted.before)) counts)

-- the vertex of the visit that asked for an entry: the first one that the commit of its earlier event names, if it is
-- one, at which the request of the later one saw that commit last
abbrev pub mark_of : (Stamp → Option ℕ) → (ℕ × Name × ℕ → Bool) → List StoreEntry → SettledEntry → Option Name
mark_of request_of asked store entry =
    option_and_then (λ (earlier : ℕ).
    option_and_then (λ (later : ℕ). first_seen asked later (counts_by store earlier)) (request_of entry.later))
    (option_and_then request_of (slice_get entry.earlier 0))

-- What is right of an entry

-- a visit of this vertex asked for the oracle's entry: it added one pair
pub record IsMarkOf (account : Account) (settled : SettledEntry) (v : Name) : Type 0 where
  pub pair : Pair
  pub vertex_is : pair.vertex ≡ v
  pub earlier : Stamp
  pub earlier_is : settled.earlier ≡ earlier ∷ []
  pub places_are : settled.places ≡ 0 ∷ []
  pub is_pair : IsPairInAccount account pair (earlier, settled.later)

-- what is marked of an entry is right: the vertex of the visit that asked for it, or nothing if a commit asked
abbrev pub IsMarkedAs : Account → SettledEntry → Option Name → Type 0
IsMarkedAs account settled None = IsAskedByCommit account settled
IsMarkedAs account settled (Some v) = IsMarkOf account settled v
