-- What a part of a run leaves of begins and of the oracle's pairs.
use Rattle.std.specs.Prelude.{◌≡◌, ◌≢◌, ◌⊎◌, ◌↔◌, ℕ, ◌<◌, List, ◌++◌, Contains, IsTrue, Some}
use Rattle.vector_stamp.specs.declared.clock.Stamp.{Stamp}
use Rattle.program_defs.specs.declared.script.Request.{Request}
use Rattle.program_defs.specs.declared.script.Script.{Script}
use Rattle.report_rules.specs.Lookups.{request_at}
use Rattle.weave_entries.specs.declared.gate_log.GateEntry.{GateEntry}
use Rattle.weave_entries.specs.declared.gate_log.GateDeed.TheVariants.{Raised}
use Rattle.weave_entries.specs.GateReplay.{BegunRequest, begun_in}
use Rattle.weave_account.specs.declared.account.Account.{Account}
use Rattle.weave_account.specs.Account.{all_begun, gate_log, pairs_in}
use Rattle.step_rules.specs.Requests.{has_reply}
use Rattle.seen_logs.specs.Seen.{entries_since}

-- a begun request of this stamp that had no reply before
pub record IsOpen (script : Script) (old new : Account) (stamp : Stamp) : Type 0 where
  pub begun : BegunRequest
  pub there : Contains (all_begun new) begun
  pub stamp_is : begun.stamp ≡ stamp
  pub unanswered : (request : Request) → request_at script begun.request ≡ Some request
      → ¬ IsTrue (has_reply old begun.request request)

-- the later end of each pair that was added is a request that had no reply before
abbrev pub AddsOpenPairs : Script → Account → Account → Type 0
AddsOpenPairs script old new =
    (earlier later : Stamp) → Contains (pairs_in new) (earlier, later)
    → Contains (pairs_in old) (earlier, later) ⊎ IsOpen script old new later

-- a gatekeeper's log has gained entries that begin no request from this number on and raise no epoch
pub record GainsBelow (upto : ℕ) (old new : List GateEntry) : Type 0 where
  pub more : List GateEntry
  pub log : new ≡ old ++ more
  pub begun : (begun : BegunRequest) → Contains (begun_in more) begun → begun.request < upto
  pub epochs : (entry : GateEntry) → Contains more entry → (epoch : ℕ) → entry.deed ≢ Raised epoch

-- each gatekeeper's has
abbrev pub GainBelow : ℕ → Account → Account → Type 0
GainBelow upto old new = (home : ℕ) → GainsBelow upto (gate_log old home) (gate_log new home)

-- a request that was begun at a gatekeeper since the old logs
abbrev pub IsBegunBetween : Account → Account → BegunRequest → Type 0
IsBegunBetween old new begun =
    (home : ℕ) × Contains (begun_in (entries_since (gate_log old home) (gate_log new home))) begun

-- Each session's requests were begun by a worker of its own: two of the requests that were begun have the same author
-- exactly if they are of the same session.
abbrev pub AreBegunByOwnWorkers : Script → Account → Account → Type 0
AreBegunByOwnWorkers script old new = (one other : BegunRequest) (its others : Request)
    → IsBegunBetween old new one → IsBegunBetween old new other
    → request_at script one.request ≡ Some its → request_at script other.request ≡ Some others
    → (one.author ≡ other.author) ↔ (its.session ≡ others.session)
