-- What the log of the store keeps: each verdict is right after the commits before it.
use Rattle.std.specs.Prelude.{◌≡◌, ◌≢◌, ℕ, ◌+◌, ◌<◌, List, length, AllPairs, Contains, IsTrue, Some, Ok, Err, IsSomeAnd}
use Rattle.std.specs.Option.{ForSome}
use Rattle.weave_data.specs.declared.name.Name.{Name}
use Rattle.graph_ops.specs.Mentions.{named_by, is_among}
use Rattle.graph_ops.specs.PlainGraph.{PlainGraph, transaction}
use Rattle.graph_ops.specs.declared.op.Op.{Op}
use Rattle.graph_ops.specs.declared.op.Reason.{Reason}
use Rattle.graph_ops.specs.declared.tx.Got.{Got}
use Rattle.vector_stamp.specs.declared.clock.Stamp.{Stamp}
use Rattle.program_defs.specs.declared.script.Request.{Request}
use Rattle.program_defs.specs.declared.script.Script.{Script}
use Rattle.program_defs.specs.declared.script.Work.TheVariants.{Change}
use Rattle.weave_entries.specs.declared.store_log.StoreEntry.{StoreEntry}
use Rattle.weave_entries.specs.declared.verdict.Counted.{Counted}
use Rattle.weave_entries.specs.declared.verdict.Verdict.{Verdict}
use Rattle.weave_entries.specs.declared.verdict.Verdict.TheVariants.{Committed, Conflict, Refused}
use Rattle.weave_entries.specs.Logs.{AtEachEntry}
use Rattle.weave_entries.specs.GateReplay.{txs_of}
use Rattle.weave_entries.specs.StoreReplay.{Commit, Judgement, judged_by, judgements_of, commits_of, last_naming, graph_committed}
use Rattle.weave_entries.specs.StoreRule.{lasts_of, asked_vertices, counts_of}
use Rattle.report_rules.specs.Lookups.{request_at, same_session}
use Rattle.weave_account.specs.declared.account.Account.{Account}
use Rattle.weave_account.specs.Account.{gate_log, Precedence}

-- After these commits a transaction commits: it has the next number, passes on the graph that they leave with these
-- answers, and counts them at each vertex that it names. At each such vertex the last of them precedes it.
pub record Commits (account : Account) (before : List Commit) (stamp : Stamp) (ops : List Op) (number : ℕ)
    (answers : List Got)
    (counts : List Counted) : Type 0 where
  pub number_is : number ≡ length before + 1
  pub graph : PlainGraph
  pub passes : transaction ops (graph_committed before) ≡ Ok (record { graph = graph; gots = answers })
  pub counts_are : counts ≡ counts_of ops before
  pub after_last : (v : Name) → IsTrue (is_among (named_by ops) v)
      → ForSome (last_naming v before) (λ (last : Commit). Precedence account last.stamp stamp)

-- it conflicts with the last of them at a vertex that it names: it precedes that one
pub record Conflicts (account : Account) (before : List Commit) (stamp : Stamp) (ops : List Op) (v : Name) (newer : ℕ) :
    Type 0 where
  pub named : IsTrue (is_among (named_by ops) v)
  pub last : Commit
  pub last_is : last_naming v before ≡ Some last
  pub newer_is : last.request ≡ newer
  pub precedes : Precedence account stamp last.stamp

-- an operation of it is refused, for this reason, on the graph that they leave
pub record IsRefused (before : List Commit) (ops : List Op) (op : ℕ) (reason : Reason) (at : ℕ) : Type 0 where
  pub at_is : at ≡ length before
  pub refused : transaction ops (graph_committed before) ≡ Err (record { op = op; reason = reason })

-- the verdict is right after these commits
abbrev pub IsRightVerdict : Account → List Commit → Stamp → List Op → Verdict → Type 0
IsRightVerdict account before stamp ops (Committed number answers counts) =
    Commits account before stamp ops number answers counts
IsRightVerdict account before stamp ops (Conflict v newer) = Conflicts account before stamp ops v newer
IsRightVerdict account before stamp ops (Refused op reason at) = IsRefused before ops op reason at

-- What is judged was begun as a transaction, with this stamp and by this author, and has the operations of its request.
-- `asked` are the named vertices whose last commit has an unordered stamp, whether or not the oracle was asked. The
-- verdict is right after the commits so far.
pub record Judges (script : Script) (account : Account) (before : List StoreEntry) (judged : Judgement) : Type 0 where
  pub home : ℕ
  pub begun : Contains (txs_of (gate_log account home))
      (record { author = judged.author; request = judged.request; stamp = judged.stamp })
  pub work : IsSomeAnd (request_at script judged.request) (λ (request : Request). request.work ≡ Change judged.ops)
  pub asked : judged.asked ≡ asked_vertices judged.stamp (lasts_of judged.ops (commits_of before))
  pub verdict : IsRightVerdict account (commits_of before) judged.stamp judged.ops judged.verdict

-- of two requests of one session the first is the earlier one
abbrev pub InTurn : Script → ℕ → ℕ → Type 0
InTurn script a b = IsTrue (same_session script a b) → a < b

-- each entry of a log judges rightly after those before it
abbrev pub AreJudgements : Script → Account → List StoreEntry → Type 0
AreJudgements script account log =
    AtEachEntry (λ before entry. Judges script account before (judged_by entry.author entry.deed)) log

-- Store: each entry judges a begun transaction rightly, each transaction at most once, and those of a session in its
-- order
pub record StoreClause (script : Script) (account : Account) : Type 0 where
  pub judges : AreJudgements script account account.store
  pub once : AllPairs (λ (a b : Judgement). a.request ≢ b.request) (judgements_of account.store)
  pub in_turn : AllPairs (λ (a b : Judgement). InTurn script a.request b.request) (judgements_of account.store)
