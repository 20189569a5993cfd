-- What a machine with notes of gatekeepers' locks has seen, and what the oracle keeps of it.
use Rattle.std.specs.Prelude.{ℕ, List, [], map, length}
use Rattle.weave_entries.specs.declared.gate_log.GateEntry.{GateEntry}
use Rattle.weave_entries.specs.declared.gate_log.GateDeed.{GateDeed}
use Rattle.weave_entries.specs.declared.oracle_log.OracleEntry.{OracleEntry}
use Rattle.weave_entries.specs.GateRules.{HearsNoMore, IsGateLog}
use Rattle.weave_account.specs.declared.account.Account.{Account}
use Rattle.weave_account.specs.Account.{gate_log}
use Rattle.seen_logs.specs.Seen.{AreLegal, OracleRefersWithin}
use Rattle.chronicle.specs.declared.pass.Pass.{Pass}
use Rattle.chronicle.specs.declared.note.Note.{Note}
use Rattle.chronicle.specs.Passes.{seen_by_pass, seen_by_note}
use Rattle.seen_logs.specs.Entries.{gate_entries}

-- what notes of gatekeepers' locks have seen, and what passes of them have seen: a log for each, by its number
abbrev pub gates_noted : List (Note GateDeed) → List (List GateEntry)
gates_noted notes = map (λ (note : Note GateDeed). gate_entries (seen_by_note note)) notes

abbrev pub gates_seen : List (Pass GateDeed) → List (List GateEntry)
gates_seen passes = map (λ (pass : Pass GateDeed). gate_entries (seen_by_pass pass)) passes

-- these logs of gatekeepers, and nothing of the other logs
abbrev pub of_gates : List (List GateEntry) → Account
of_gates logs = record { gates = logs; store = []; oracle = []; shards = []; sessions = [] }

-- each of these logs keeps the rules of its gatekeeper
pub record AreGateLogs (shards : ℕ) (logs : List (List GateEntry)) : Type 0 where
  pub rules : (home : ℕ) → IsGateLog home shards (gate_log (of_gates logs) home)
  pub hears : (home : ℕ) → HearsNoMore home (gate_log (of_gates logs) home)

-- what the oracle has seen: its own log, and these logs of gatekeepers
abbrev pub oracle_seen : List (List GateEntry) → List OracleEntry → Account
oracle_seen gates log = record { gates = gates; store = []; oracle = log; shards = []; sessions = [] }

-- an oracle with notes: its log, the number of shards, and the notes of gatekeepers' locks
pub record OracleView : Type 0 where
  pub oracle : List OracleEntry
  pub shards : ℕ
  pub gates : List (Note GateDeed)

-- all that the oracle's entries refer to was seen, and each list that was seen is legal
pub record OracleIsKept (shards : ℕ) (gates : List (List GateEntry)) (log : List OracleEntry) : Type 0 where
  pub refers : OracleRefersWithin (oracle_seen gates log)
  pub legal : AreLegal (length gates) shards (oracle_seen gates log)
