-- The laws of the crates below that several steps cite. Each lemma takes them as a record, made by the function that
-- calls the laws.
-- Used by `finish`, `first_unanswered`, `visit`, BeginDone, CanVisit, FinishDone, FirstUnanswered, JudgeDone,
-- ReplyDone and Unordered.
use Rattle.std.proofs.Common.{◌≡◌, ◌≢◌, ◌⊎◌, ℕ, ◌<◌, AllPairs, List, length, map, take, Contains, Some}
use Rattle.std.specs.Prelude.{◌↔◌, IsSomeAnd}
use Rattle.weave_data.specs.Names.{shard_of}
use Rattle.weave_data.specs.declared.name.Name.{Name}
use Rattle.vector_stamp.specs.declared.clock.Stamp.{Stamp}
use Rattle.vector_stamp.specs.Coherence.{AreCoherent}
use Rattle.vector_stamp.specs.Order.{id_of}
use Rattle.vector_stamp.specs.Precedence.{GivenPair, JoinsEvents}
use Rattle.order_graph.specs.Building.{ends_of}
use Rattle.program_defs.specs.Limits.{IsWithinLimits}
use Rattle.program_defs.specs.declared.script.Request.{Request}
use Rattle.program_defs.specs.declared.script.Script.{Script}
use Rattle.program_defs.specs.declared.script.Work.TheVariants.{Change}
use Rattle.report_rules.specs.Lookups.{request_at}
use Rattle.weave_entries.specs.declared.gate_log.GateEntry.{GateEntry}
use Rattle.weave_entries.specs.GateReplay.{BegunRequest, ended_in, flight_of, programs_of, running_of, txs_of}
use Rattle.weave_entries.specs.GateRules.{BeginsEachOnce, IsGateLog}
use Rattle.weave_entries.specs.ShardReplay.{updates_of}
use Rattle.weave_entries.specs.StoreReplay.{Judgement, commits_naming, judgements_of}
use Rattle.weave_account.specs.declared.account.Account.{Account}
use Rattle.weave_account.specs.Account.{all_begun, begun_stamps, commits_in, gate_log, pairs_in, shard_log}
use Rattle.weave_account.specs.IsAccount.{IsAccount}
use Rattle.weave_account.specs.Sessions.{requests_of_session}
use Rattle.weave_account.specs.Shards.{update_of}

-- the stamps that were begun
pub record BegunLaws : Type 0 where
  -- in an account within limits, the stamps of all begun requests are coherent (`begun_stamps_are_coherent`)
  pub coherent : (script : Script) (account : Account) → IsWithinLimits script → IsAccount script account → AreCoherent (begun_stamps account)
  pub differ : (script : Script) (account : Account) → IsWithinLimits script → IsAccount script account → (a b : BegunRequest) → Contains (all_begun account) a → Contains (all_begun account) b → a.request ≢ b.request → id_of a.stamp ≢ id_of b.stamp
  -- within limits, each judgement is of a begun request, with its author and stamp (`judgements_are_of_requests`)
  pub begun : (script : Script) (account : Account) → IsWithinLimits script → IsAccount script account → (judged : Judgement) → Contains (judgements_of account.store) judged
      → Contains (all_begun account) (record { author = judged.author; request = judged.request; stamp = judged.stamp })

-- the commits, and what each vertex has of them
pub record CommitLaws : Type 0 where
  -- in an account within limits, what is judged is the transaction of its request (`judgements_are_of_requests`)
  pub work : (script : Script) (account : Account) → IsWithinLimits script → IsAccount script account → (judged : Judgement) → Contains (judgements_of account.store) judged
      → IsSomeAnd (request_at script judged.request) (λ (request : Request). request.work ≡ Change judged.ops)
  -- within limits, the updates applied to a vertex are the first commits that name it (`updates_are_commits`)
  pub whole : (script : Script) (account : Account) → IsWithinLimits script → IsAccount script account → (v : Name) → let updates = updates_of v (shard_log account (shard_of v script.shards)) in
      updates ≡ map (update_of v) (take (length updates) (commits_naming v (commits_in account)))

-- the stamps of which the oracle is asked
pub record AskedLaws : Type 0 where
  -- in an account within limits, the pairs join stamps of begun requests only (`stamps_are_begun`)
  pub paired : (script : Script) (account : Account) → IsWithinLimits script → IsAccount script account → JoinsEvents (begun_stamps account) (pairs_in account)
  -- stamps that are all among coherent ones are coherent (`parts_and_unions_are_coherent`)
  pub part : (stamps others : List Stamp) → AreCoherent others → ((stamp : Stamp) → Contains stamps stamp → Contains others stamp) → AreCoherent stamps
  -- each end of given pairs is the earlier or later stamp of one of them (`ends_are_of_pairs`)
  pub no_others : (pairs : List GivenPair) (stamp : Stamp) → Contains (ends_of pairs) stamp → (pair : GivenPair) × Contains pairs pair × ((pair.0 ≡ stamp) ⊎ (pair.1 ≡ stamp))

-- what is running
pub record RunLaws : Type 0 where
  -- in an account within limits, each gatekeeper's log begins each request once (`requests_end_or_go_on`)
  pub once : (script : Script) (account : Account) → IsWithinLimits script → IsAccount script account → (home : ℕ) → BeginsEachOnce (gate_log account home)
  -- if a log begins each once, its running programs are those begun and not ended (`what_has_not_ended_goes_on`)
  pub running : (home shards : ℕ) (log : List GateEntry) → IsGateLog home shards log → BeginsEachOnce log → (program : BegunRequest) → Contains (running_of log) program ↔ (Contains (programs_of log) program × ¬ Contains (ended_in log) program.request)
  pub flight : (home shards : ℕ) (log : List GateEntry) → IsGateLog home shards log → BeginsEachOnce log → (tx : BegunRequest) → (flight_of log ≡ Some tx) ↔ (Contains (txs_of log) tx × ¬ Contains (ended_in log) tx.request)

-- the requests of a session
pub record RequestLaws : Type 0 where
  -- the requests of a session rise in number (`requests_of_a_session_rise`)
  pub rise : (script : Script) (session : ℕ) → AllPairs (λ (a b : ℕ). a < b) (requests_of_session script session)
  pub among : (script : Script) (r : ℕ) (request : Request) → request_at script r ≡ Some request → Contains (requests_of_session script request.session) r
