-- After each step the logs begin with those before it.
-- Used by BeginAccount, FinishStep, QuietGateEntry, ShardStep, Stepping, VisitStep and crates weave_drive, weaver_core
-- and weaver_top.
use Rattle.std.proofs.Common.{◌≡◌, ℕ, ◌<◌, Bool, true, false, cond, List, [], ◌∷◌, ◌++◌, length, Option, None, Some, refl, ap, ◌∙◌, append_assoc, arith}
use Rattle.weave_data.specs.declared.name.Name.{Name}
use Rattle.weave_data.specs.Names.{shard_of}
use Rattle.vector_stamp.specs.declared.clock.Clock.{Clock}
use Rattle.shard_queue.specs.Outbox.{sent_as}
use Rattle.program_defs.specs.declared.script.Request.{Request}
use Rattle.program_defs.specs.declared.script.Script.{Script}
use Rattle.program_defs.specs.declared.script.Step.{Step}
use Rattle.program_defs.specs.declared.script.Step.TheVariants.{Begin, Judge, Send, Say, Hear, Nop, Deliver, Apply, Visit, Reply, Collect, Epoch, Restart}
use Rattle.program_defs.specs.declared.script.Work.{Work}
use Rattle.program_defs.specs.declared.script.Work.TheVariants.{Change, Look}
use Rattle.report_rules.specs.Lookups.{request_at}
use Rattle.weave_entries.specs.declared.gate_log.GateDeed.{GateDeed}
use Rattle.weave_entries.specs.declared.shard_log.ShardDeed.{ShardDeed}
use Rattle.weave_entries.specs.declared.session_log.SessionDeed.{SessionDeed}
use Rattle.weave_entries.specs.declared.session_log.SessionDeed.TheVariants as session
use Rattle.weave_entries.specs.declared.message.Message.{Message}
use Rattle.weave_entries.specs.declared.oracle_log.OracleEntry.{OracleEntry}
use Rattle.weave_entries.specs.declared.store_log.StoreEntry.{StoreEntry}
use Rattle.weave_entries.specs.GateReplay.{BegunRequest, channel_of, clock_of, flight_of, program_begun}
use Rattle.weave_entries.specs.StoreReplay.{Judgement}
use Rattle.weave_account.specs.declared.account.Account.{Account}
use Rattle.weave_account.specs.Account.{gate_log, shard_log, session_log}
use Rattle.weave_account.specs.GoesOn.{GoesOn, IsBeginningOf}
use Rattle.weave_account.proofs.GoesOn.{whole}
use Rattle.program_defs.specs.Limits.{IsWithinLimits}
use Rattle.step_rules.specs.CoreState.{CoreState, with_gate_deed, with_shard_deed, with_session_deed}
use Rattle.step_rules.specs.Entries.{account_with, after_begin, after_deliver, after_hear, after_judge, after_reply, after_send, after_visit, after_work, at_request, judgement_in_flight, notices_with, with_finish}
use Rattle.step_rules.specs.IsCore.{IsCore, IsStepOf}
use Rattle.step_rules.specs.Requests.{has_ended, next_vertex}
use Rattle.step_rules.proofs.SetLogs.{set-log}
use Rattle.step_rules.proofs.Within.{gate-within, home-within, session-within, shard-within}

-- Beginnings

-- that a log begins with another is transitive
pub longer-log : {E : Type 0} (log middle last : List E) → IsBeginningOf log middle → IsBeginningOf middle last → IsBeginningOf log last
longer-log log middle last (more, is) (further, are) = (more ++ further, are ∙ ap (λ l. l ++ further) is ∙ append_assoc log more further)

-- Accounts

-- the logs of an account begin with themselves
pub goes-same : (account : Account) → GoesOn account account
goes-same account = record {
  gates = λ home. whole (gate_log account home);
  store = whole account.store;
  oracle = whole account.oracle;
  shards = λ shard. whole (shard_log account shard);
  sessions = λ session. whole (session_log account session);
}

-- that the logs of an account go on is transitive
pub goes-further : (account middle last : Account) → GoesOn account middle → GoesOn middle last → GoesOn account last
goes-further account middle last on further = record {
  gates = λ home. longer-log (gate_log account home) (gate_log middle home) (gate_log last home) (on.gates home) (further.gates home);
  store = longer-log account.store middle.store last.store on.store further.store;
  oracle = longer-log account.oracle middle.oracle last.oracle on.oracle further.oracle;
  shards = λ shard. longer-log (shard_log account shard) (shard_log middle shard) (shard_log last shard) (on.shards shard) (further.shards shard);
  sessions = λ session. longer-log (session_log account session) (session_log middle session) (session_log last session) (on.sessions session) (further.sessions session);
}

-- each log is the beginning of the same log after one more deed of a gatekeeper that is there
pub with-gate-deed : (account : Account) (home author : ℕ) (deed : GateDeed) → home < length account.gates → GoesOn account (with_gate_deed account home author deed)
with-gate-deed account home author deed within = record {
  gates = set-log account.gates home within (record { author = author; deed = deed });
  store = whole account.store;
  oracle = whole account.oracle;
  shards = λ shard. whole (shard_log account shard);
  sessions = λ session. whole (session_log account session);
}

-- the same of a deed of a shard
pub with-shard-deed : (account : Account) (shard : ℕ) (deed : ShardDeed) → shard < length account.shards → GoesOn account (with_shard_deed account shard deed)
with-shard-deed account shard deed within = record {
  gates = λ home. whole (gate_log account home);
  store = whole account.store;
  oracle = whole account.oracle;
  shards = set-log account.shards shard within (record { author = 0; deed = deed });
  sessions = λ session. whole (session_log account session);
}

-- the same of a deed of a session
pub with-session-deed : (account : Account) (session : ℕ) (deed : SessionDeed) → session < length account.sessions → GoesOn account (with_session_deed account session deed)
with-session-deed account session deed within = record {
  gates = λ home. whole (gate_log account home);
  store = whole account.store;
  oracle = whole account.oracle;
  shards = λ shard. whole (shard_log account shard);
  sessions = set-log account.sessions session within (record { author = session; deed = deed });
}

with-more : (account : Account) (judged : List StoreEntry) (settled : List OracleEntry) → GoesOn account (record account { store = account.store ++ judged; oracle = account.oracle ++ settled })
with-more account judged settled = record {
  gates = λ home. whole (gate_log account home);
  store = (judged, refl);
  oracle = (settled, refl);
  shards = λ shard. whole (shard_log account shard);
  sessions = λ session. whole (session_log account session);
}

-- the same of more entries of the oracle
pub with-settled : (account : Account) (settled : List OracleEntry) → GoesOn account (record account { oracle = account.oracle ++ settled })
with-settled account settled = record {
  gates = λ home. whole (gate_log account home);
  store = whole account.store;
  oracle = (settled, refl);
  shards = λ shard. whole (shard_log account shard);
  sessions = λ session. whole (session_log account session);
}

-- Steps

module _ (script : Script) (state : CoreState) (limits : IsWithinLimits script) (core : IsCore script state) where
  abbrev account : Account
  account = state.account

  shard-there : (v : Name) → shard_of v script.shards < script.shards
  shard-there v = let some = limits.some_shard in omega (arith, some)

  begins-on : (r : ℕ) (q : Option Request) → request_at script r ≡ q → GoesOn account (at_request (after_begin account r) account q)
  begins-on r None at = goes-same account
  begins-on r (Some request) at = goes-further account _ _ (with-gate-deed account request.gate 0 _ (home-within limits core r request at)) (with-session-deed _ request.session _ (session-within limits core r request at))

  judges-on : (flight : Option BegunRequest) → GoesOn account (after_judge script account flight)
  judges-on None = goes-same account
  judges-on (Some flight) = with-more account _ _

  sends-on : (home : ℕ) → home < script.gates → (flight : Option BegunRequest) (judged : Option Judgement) → GoesOn account (after_send script account home flight judged)
  sends-on home inside None judged = goes-same account
  sends-on home inside (Some flight) None = goes-same account
  sends-on home inside (Some flight) (Some judged) = with-gate-deed account home flight.author _ (gate-within core.account home inside)

  hears-on : (home : ℕ) → home < script.gates → (notice : Option Clock) → GoesOn account (after_hear account home notice)
  hears-on home inside None = goes-same account
  hears-on home inside (Some notice) = with-gate-deed account home 0 _ (gate-within core.account home inside)

  delivers-on : (home shard number : ℕ) → shard < script.shards → (message : Option Message) → GoesOn account (after_deliver account home shard number message)
  delivers-on home shard number inside None = goes-same account
  delivers-on home shard number inside (Some message) = with-shard-deed account shard _ (shard-within core.account shard inside)

  visits-on : (r : ℕ) (begun : Option BegunRequest) (next : Option Name) → GoesOn account (after_visit script account r begun next)
  visits-on r None next = goes-same account
  visits-on r (Some begun) None = goes-same account
  visits-on r (Some begun) (Some v) = goes-further account _ _ (with-settled account _) (with-shard-deed _ (shard_of v script.shards) _ (shard-within core.account (shard_of v script.shards) (shard-there v)))

  at-visit : (r : ℕ) (q : Option Request) → GoesOn account (at_request (λ request. after_visit script account r (program_begun r (gate_log account request.gate)) (next_vertex account r request.work)) account q)
  at-visit r None = goes-same account
  at-visit r (Some request) = visits-on r (program_begun r (gate_log account request.gate)) (next_vertex account r request.work)

  finishes-on : (r : ℕ) (request : Request) → request_at script r ≡ Some request → (begun : Option BegunRequest)
      → GoesOn account (with_session_deed (with_finish account r request.gate begun) request.session (session.Replied r))
  finishes-on r request at None = with-session-deed account request.session _ (session-within limits core r request at)
  finishes-on r request at (Some begun) = goes-further account _ _ (with-gate-deed account request.gate begun.author _ (home-within limits core r request at)) (with-session-deed _ request.session _ (session-within limits core r request at))

  work-on : (r : ℕ) (request : Request) → request_at script r ≡ Some request → (work : Work) → GoesOn account (with_session_deed (after_work account r request work) request.session (session.Replied r))
  work-on r request at (Change ops) = with-session-deed account request.session _ (session-within limits core r request at)
  work-on r request at (Look program) = by-end (has_ended account r request)
    where
      by-end : (b : Bool) → GoesOn account (with_session_deed (cond b account (with_finish account r request.gate (program_begun r (gate_log account request.gate)))) request.session (session.Replied r))
      by-end true = with-session-deed account request.session _ (session-within limits core r request at)
      by-end false = finishes-on r request at (program_begun r (gate_log account request.gate))

  replies-on : (r : ℕ) (q : Option Request) → request_at script r ≡ q → GoesOn account (at_request (after_reply account r) account q)
  replies-on r None at = goes-same account
  replies-on r (Some request) at = work-on r request at request.work

  -- each log of a core is the beginning of the same log after a step of the script that is done
  pub step-goes-on : (step : Step) → IsStepOf script step → GoesOn account (account_with script state step)
  step-goes-on (Begin r) range = begins-on r (request_at script r) refl
  step-goes-on (Judge g) range = judges-on (flight_of (gate_log account g))
  step-goes-on (Send g) range = sends-on g range (flight_of (gate_log account g)) (judgement_in_flight account (flight_of (gate_log account g)))
  step-goes-on (Say g) range = goes-same account
  step-goes-on (Hear g n) range = hears-on g range.0 (sent_as n state.notices)
  step-goes-on (Nop g s) range = with-gate-deed account g 0 _ (gate-within core.account g range.0)
  step-goes-on (Deliver g s n) range = delivers-on g s n range.1 (sent_as n (channel_of s (gate_log account g)))
  step-goes-on (Apply s g) range = with-shard-deed account s _ (shard-within core.account s range.0)
  step-goes-on (Visit r) range = at-visit r (request_at script r)
  step-goes-on (Reply r) range = replies-on r (request_at script r) refl
  step-goes-on (Collect s) range = with-shard-deed account s _ (shard-within core.account s range)
  step-goes-on (Epoch g epoch) range = with-gate-deed account g 0 _ (gate-within core.account g range.0)
  step-goes-on (Restart g epoch) range = with-gate-deed account g 0 _ (gate-within core.account g range.0)

-- Notices

-- the notices begin with those before
pub notices-on : (state : CoreState) (step : Step) → IsBeginningOf state.notices (notices_with state step)
notices-on state (Begin r) = whole state.notices
notices-on state (Judge g) = whole state.notices
notices-on state (Send g) = whole state.notices
notices-on state (Say g) = (clock_of g (gate_log state.account g) ∷ [], refl)
notices-on state (Hear g n) = whole state.notices
notices-on state (Nop g s) = whole state.notices
notices-on state (Deliver g s n) = whole state.notices
notices-on state (Apply s g) = whole state.notices
notices-on state (Visit r) = whole state.notices
notices-on state (Reply r) = whole state.notices
notices-on state (Collect s) = whole state.notices
notices-on state (Epoch g epoch) = whole state.notices
notices-on state (Restart g epoch) = whole state.notices
