-- What the logs of gatekeepers keep together, besides what each such log keeps by itself: each request begins once, at
-- its own gatekeeper, after what its session had begun last.
use Rattle.std.specs.Prelude.{◌≡◌, ◌≢◌, ℕ, Bool, ◌==◌, ◌&&◌, List, reverse, find, length, AllPairs, IsTrue, Option, ⊤}
use Rattle.std.specs.List.{range_with_len}
use Rattle.std.specs.Option.{ForSome, option_and_then}
use Rattle.vector_stamp.specs.declared.clock.Stamp.{Stamp}
use Rattle.vector_stamp.specs.Order.{has_64_bits}
use Rattle.vector_stamp.specs.Clocks.{counts_no_more}
use Rattle.program_defs.specs.declared.script.Request.{Request}
use Rattle.program_defs.specs.declared.script.Script.{Script}
use Rattle.program_defs.specs.declared.script.Work.{Work}
use Rattle.program_defs.specs.Works.{is_change, is_look}
use Rattle.weave_entries.specs.declared.gate_log.GateEntry.{GateEntry}
use Rattle.weave_entries.specs.declared.gate_log.GateDeed.{GateDeed}
use Rattle.weave_entries.specs.declared.gate_log.GateDeed.TheVariants.{BeganTx, BeganProgram}
use Rattle.weave_entries.specs.Logs.{AtEachEntry}
use Rattle.weave_entries.specs.GateReplay.{BegunRequest, begun_stamp, clock_of}
use Rattle.weave_entries.specs.GateRules.{IsGateLog}
use Rattle.report_rules.specs.Lookups.{is_some_and, request_at, same_session}
use Rattle.weave_account.specs.declared.account.Account.{Account}
use Rattle.weave_account.specs.Account.{gate_log, all_begun, stamp_of}

-- the request before this one in its session
abbrev pub request_before : Script → ℕ → Option ℕ
request_before script r = find (λ other. same_session script other r) (reverse (range_with_len 0 r))

-- the stamp of the request before it, if that was begun
abbrev pub last_stamp : Script → Account → ℕ → Option Stamp
last_stamp script account r = option_and_then (stamp_of account) (request_before script r)

-- A request begins at its own gatekeeper, as the kind of work that it is. The stamp of the request before it in its
-- session, if any, is heard first, and counts no more of the gatekeeper's events than it made. The new stamp's numbers
-- have 64 bits.
pub record BeginsRequest (script : Script) (account : Account) (is_kind : Work
    → Bool) (home : ℕ) (before : List GateEntry)
    (r : ℕ) (stamp : Stamp) : Type 0 where
  pub own : IsTrue (is_some_and (λ (request : Request). (request.gate == home) && is_kind request.work)
      (request_at script r))
  pub stamp_is : stamp ≡ begun_stamp home (clock_of home before) (last_stamp script account r)
  pub hears_no_more : ForSome (last_stamp script account r)
      (λ last. IsTrue (counts_no_more home (clock_of home before) last.clock))
  pub small : IsTrue (has_64_bits stamp.clock)

-- a request that a deed begins, begins like this: a transaction by `BeganTx`, a program by `BeganProgram`
abbrev pub BeginsAs : Script → Account → ℕ → List GateEntry → GateDeed → Type 0
BeginsAs script account home before (BeganTx r stamp) = BeginsRequest script account is_change home before r stamp
BeginsAs script account home before (BeganProgram r stamp) = BeginsRequest script account is_look home before r stamp
BeginsAs script account home before _ = ⊤

-- no request is begun twice, at whatever gatekeepers
abbrev pub BeginEachOnce : Account → Type 0
BeginEachOnce account = AllPairs (λ (a b : BegunRequest). a.request ≢ b.request) (all_begun account)

-- Gatekeepers: each log is one of its gatekeeper, each request begins at most once, and as it should.
-- So stamps rise, no two transactions of a gatekeeper are in flight at once, and each request is sent or finished at
-- most once, by the author of its begin.
pub record GatekeepersClause (script : Script) (account : Account) : Type 0 where
  pub as_many : length account.gates ≡ script.gates
  pub logs : (home : ℕ) → IsGateLog home script.shards (gate_log account home)
  pub begins : (home : ℕ)
      → AtEachEntry (λ before (entry : GateEntry). BeginsAs script account home before entry.deed)
      (gate_log account home)
  pub once : BeginEachOnce account
