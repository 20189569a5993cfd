-- The clauses of an account that stay while other logs go on.
-- Used by BeginAccount, FinishStep, JudgeStep, QuietGateEntry, ReplyStep, ShardStep and VisitStep.
use Rattle.std.proofs.Common.{◌≡◌, ◌≢◌, ℕ, List, AllPairs, Contains, sym, subst}
use Rattle.std.specs.List.{flat_map}
use Rattle.vector_stamp.specs.declared.clock.Stamp.{Stamp}
use Rattle.program_defs.specs.declared.script.Script.{Script}
use Rattle.weave_entries.specs.declared.gate_log.GateEntry.{GateEntry}
use Rattle.weave_entries.specs.declared.session_log.SessionEntry.{SessionEntry}
use Rattle.weave_entries.specs.declared.shard_log.ShardEntry.{ShardEntry}
use Rattle.weave_entries.specs.declared.store_log.StoreEntry.{StoreEntry}
use Rattle.weave_entries.specs.Logs.{AtEachEntry}
use Rattle.weave_entries.specs.OracleReplay.{settled_entry}
use Rattle.weave_entries.specs.OracleRules.{IsOracleLog}
use Rattle.weave_entries.specs.ShardReplay.{visits_of}
use Rattle.weave_entries.specs.StoreReplay.{Judgement, judged_by, judgements_of}
use Rattle.weave_account.specs.declared.account.Account.{Account}
use Rattle.weave_account.specs.Account.{gate_log, shard_log, session_log}
use Rattle.weave_account.specs.Channels.{SendsAs}
use Rattle.weave_account.specs.GoesOn.{GoesOn}
use Rattle.weave_account.specs.IsAccount.{IsAccount}
use Rattle.program_defs.specs.Limits.{IsWithinLimits}
use Rattle.weave_account.specs.Oracle.{OracleClause, marked_in}
use Rattle.weave_account.specs.Sessions.{RepliesAs}
use Rattle.weave_account.specs.Shards.{ShardFitsAs}
use Rattle.weave_account.specs.Store.{Judges, InTurn, StoreClause}
use Rattle.step_rules.specs.LowerLaws.{LawsForSteps}

-- if the first property implies the second, and holds at each entry, the second holds at each
pub each-other : {E : Type 0} (P Q : List E → E → Type 0) → ((before : List E) (entry : E) → P before entry → Q before entry) → (log : List E) → AtEachEntry P log → AtEachEntry Q log
each-other P Q implies log each before entry after is = implies before entry (each before entry after is)

-- the rules at each entry
abbrev pub StoreRule : Script → Account → List StoreEntry → StoreEntry → Type 0
StoreRule script account before entry = Judges script account before (judged_by entry.author entry.deed)

abbrev pub SendRule : Script → Account → List GateEntry → GateEntry → Type 0
SendRule script account before entry = SendsAs account script.shards before entry.author entry.deed

abbrev pub ShardRule : Script → Account → ℕ → List ShardEntry → ShardEntry → Type 0
ShardRule script account shard before entry = ShardFitsAs script account shard before entry.deed

abbrev pub ReplyRule : Account → List SessionEntry → SessionEntry → Type 0
ReplyRule account before entry = RepliesAs account entry.deed

module _ (laws : LawsForSteps) (script : Script) (account next : Account) (limits : IsWithinLimits script) (is : IsAccount script account) (on : GoesOn account next) where
  -- if the store's log stays as it is, its clause still holds
  pub store-stays : next.store ≡ account.store → StoreClause script next
  store-stays same = record {
    judges = subst (AtEachEntry (StoreRule script next)) (sym same) (each-other (StoreRule script account) (StoreRule script next)
        (λ before entry. laws.accounts.stay_judgements script account next on before (judged_by entry.author entry.deed)) account.store is.store.judges);
    once = subst (λ log. AllPairs (λ (a b : Judgement). a.request ≢ b.request) (judgements_of log)) (sym same) is.store.once;
    in_turn = subst (λ log. AllPairs (λ (a b : Judgement). InTurn script a.request b.request) (judgements_of log)) (sym same) is.store.in_turn;
  }

  -- the same oracle is right, if no program visits a vertex
  pub oracle-stays : next.oracle ≡ account.oracle → ((shard : ℕ) → visits_of (shard_log next shard) ≡ visits_of (shard_log account shard))
      → flat_map marked_in next.shards ≡ flat_map marked_in account.shards → OracleClause next
  oracle-stays same same-visits same-marked = record {
    log = subst IsOracleLog (sym same) is.oracle.log;
    asked = λ entry h. laws.accounts.stay_asked script account next limits is on (settled_entry entry) (is.oracle.asked entry (subst (λ log. Contains log entry) same h));
    marked = λ shard visit h marked. (let before = subst (λ visits. Contains visits visit) (same-visits shard) h in
        laws.accounts.stay_marked script account next limits is on shard visit before (is.oracle.marked shard visit before marked));
    once = subst (AllPairs (λ (a b : ℕ × List Stamp). a ≢ b)) (sym same-marked) is.oracle.once;
  }

  -- what a gatekeeper sent is what was judged
  pub sends-stay : (home : ℕ) → AtEachEntry (SendRule script next) (gate_log account home)
  sends-stay home = each-other (SendRule script account) (SendRule script next) (λ before entry. laws.accounts.stay_sends script account next on before entry.author entry.deed) (gate_log account home) (is.channels home)

  -- the deeds of a shard are right
  pub deeds-stay : (shard : ℕ) → AtEachEntry (ShardRule script next shard) (shard_log account shard)
  deeds-stay shard = each-other (ShardRule script account shard) (ShardRule script next shard) (λ before entry. laws.accounts.stay_shards script account next on shard before entry.deed) (shard_log account shard) (is.shards.deeds shard)

  -- the replies of a session are right
  pub replies-stay : (session : ℕ) → AtEachEntry (ReplyRule next) (session_log account session)
  replies-stay session = each-other (ReplyRule account) (ReplyRule next) (λ before entry. laws.accounts.stay_replies script account next on entry.deed) (session_log account session) (is.sessions.replies session)
