-- What a hand and its session have gained since a phase began: the hand's entries, the session's, and the replies.
use Rattle.std.specs.Prelude.{◌≡◌, ◌≢◌, ℕ, ◌<◌, List, ◌++◌, map, AllPairs, Contains, IsSomeAnd}
use Rattle.program_defs.specs.declared.script.Request.{Request}
use Rattle.program_defs.specs.declared.script.Script.{Script}
use Rattle.program_defs.specs.declared.script.Work.TheVariants.{Change}
use Rattle.report_rules.specs.declared.report.Reply.{Reply}
use Rattle.report_rules.specs.Lookups.{request_at}
use Rattle.vector_stamp.specs.declared.clock.Stamp.{Stamp}
use Rattle.weave_entries.specs.declared.gate_log.GateEntry.{GateEntry}
use Rattle.weave_entries.specs.declared.gate_log.GateDeed.TheVariants.{Raised}
use Rattle.weave_entries.specs.declared.session_log.SessionEntry.{SessionEntry}
use Rattle.weave_entries.specs.declared.store_log.StoreEntry.{StoreEntry}
use Rattle.weave_entries.specs.GateReplay.{BegunRequest, begun_in, ended_in}
use Rattle.weave_entries.specs.SessionReplay.{begins_in, replied_in}
use Rattle.weave_entries.specs.StoreReplay.{Judgement, judgements_of}
use Rattle.weave_account.specs.Account.{gate_log}
use Rattle.weaver_core.specs.Sessions.{log_of_client, requests_in}
use Rattle.weaver_locks.specs.Hands.{made_by}
use Rattle.weaver_workers.specs.ClientWork.{Stand}

-- These are the hand's new entries at each gatekeeper and at the store, the session's new entries, and its new replies.
pub record GainedEntries (from at : Stand) : Type 0 where
  pub gates : ℕ → List GateEntry
  pub at_gates : (home : ℕ) → gate_log (made_by at.hand) home ≡ gate_log (made_by from.hand) home ++ gates home
  pub store : List StoreEntry
  pub at_store : (made_by at.hand).store ≡ (made_by from.hand).store ++ store
  pub session : List SessionEntry
  pub in_session : log_of_client at.client ≡ log_of_client from.client ++ session
  pub replies : List Reply
  pub in_replies : at.client.replies.items ≡ from.client.replies.items ++ replies

-- the request was begun so, at its own gatekeeper, by this author
abbrev pub IsBegunAtItsGate : Script → ℕ → (ℕ → List GateEntry) → ℕ → Stamp → Type 0
IsBegunAtItsGate script author gates r stamp = IsSomeAnd (request_at script r) (λ (request : Request).
    Contains (begun_in (gates request.gate)) (record { author = author; request = r; stamp = stamp }))

-- the judgement is of the operations of its request, which the log began with its stamp
pub record IsJudgedFor (script : Script) (log : List SessionEntry) (judged : Judgement) : Type 0 where
  pub work : IsSomeAnd (request_at script judged.request) (λ (request : Request). request.work ≡ Change judged.ops)
  pub begun : Contains (begins_in log) (judged.request, judged.stamp)

-- A hand's entries at gatekeepers and the store say what its session's entries say: what was begun, with which stamps,
-- and what was ended. Each judgement is of a request of the log, with its operations. Each request of the log is one
-- before `upto`. No epoch was raised.
pub record AreInStep (script : Script) (author upto : ℕ) (gates : ℕ → List GateEntry) (store : List StoreEntry)
    (log : List SessionEntry) : Type 0 where
  pub begun : (home : ℕ) (begun : BegunRequest) → Contains (begun_in (gates home)) begun
      → Contains (begins_in log) (begun.request, begun.stamp)
  pub at_gate : (r : ℕ) (stamp : Stamp) → Contains (begins_in log) (r, stamp)
      → IsBegunAtItsGate script author gates r stamp
  pub below : (r : ℕ) (stamp : Stamp) → Contains (begins_in log) (r, stamp) → r < upto
  pub ended : (home r : ℕ) → Contains (ended_in (gates home)) r → Contains (replied_in log) r
  pub replied : (r : ℕ) → Contains (replied_in log) r → (home : ℕ) × Contains (ended_in (gates home)) r
  pub judged : (judged : Judgement) → Contains (judgements_of store) judged → IsJudgedFor script log judged
  pub no_epoch : (home : ℕ) (entry : GateEntry) → Contains (gates home) entry → (epoch : ℕ) → entry.deed ≢ Raised epoch

-- What was gained is in step. The requests that were begun and judged rise. There is one reply for each that the log
-- has.
pub record IsInStep (script : Script) (author upto : ℕ) (from at : Stand) : Type 0 where
  pub gained : GainedEntries from at
  pub in_step : AreInStep script author upto gained.gates gained.store gained.session
  pub begun_rise : (home : ℕ) → AllPairs (λ (a b : BegunRequest). a.request < b.request) (begun_in (gained.gates home))
  pub judged_rise : AllPairs (λ (a b : Judgement). a.request < b.request) (judgements_of gained.store)
  pub requests : requests_in at.client ≡ requests_in from.client
  pub replied : map (λ (reply : Reply). reply.request) gained.replies ≡ replied_in gained.session
