-- Requests whose transactions can be kept, and how far a store is. (No public contract cites this.)
use Rattle.std.specs.Prelude.{◌≡◌, ℕ, ◌+◌, ◌<◌, ◌≤◌, ◌^◌, false, IsTrue, is_ok, List, ◌++◌, drop, length, Some, Result, IsErrOf}
use Rattle.std.specs.List.{AllByRecursion}
use Rattle.weave_data.specs.Limits.{most_ops}
use Rattle.graph_ops.specs.PlainGraph.{transaction}
use Rattle.graph_ops.specs.declared.op.Op.{Op}
use Rattle.program_defs.specs.Works.{ops_of}
use Rattle.program_defs.specs.declared.script.Request.{Request}
use Rattle.weave_script.specs.Scripts.{IsOfVersion}
use Rattle.report_rules.specs.declared.report.Reply.{Reply}
use Rattle.report_rules.specs.declared.report.ReplyState.TheVariants.{Committed, Refused}
use Rattle.store_journal.specs.declared.kept.Kept.{Kept}
use Rattle.store_journal.specs.declared.kept.Kept.TheVariants as kept
use Rattle.store_journal.specs.Commits.{graph_of}
use Rattle.store_journal.specs.KeptAnswers.{IfCommitted, IfTurnedDown, IfUnwritten, IsCommitted, IsTurnedDown}
use Rattle.store_journal.specs.Keeping.{Keeping}
use Rattle.store_journal.specs.declared.faults.KeepFault.{KeepFault}
use Rattle.store_journal.specs.declared.faults.KeepFault.TheVariants as fault
use Rattle.store_journal.specs.Payloads.{has_join}
use Rattle.store_journal.specs.declared.kept_commit.Commit.{Commit}
use Rattle.weave_keep.specs.KeptReports.{commits_of_request, committed_places, kept_replies, kept_reply, new_commits}

-- it has at most 64 operations, of one version
pub record IsKeptRequest (request : Request) : Type 0 where
  pub few : length (ops_of request.work) ≤ most_ops
  pub version : AllByRecursion (IsOfVersion (has_join (ops_of request.work))) (ops_of request.work)

-- there are fewer than 2^32 requests, and each is so
pub record AreKeptRequests (requests : List Request) : Type 0 where
  pub few : length requests < 2 ^ 32
  pub each : AllByRecursion IsKeptRequest requests

-- the store isn't halted, its epoch is one more than the number of its commits, and nothing was stamped in it
pub record IsFresh (store : Keeping) : Type 0 where
  pub on : store.is_halted ≡ false
  pub epoch : store.epoch ≡ length store.commits + 1
  pub count : store.count ≡ 0

-- the store isn't halted, its epoch is the same, and one transaction more was stamped
pub record IsOneFurther (old new : Keeping) : Type 0 where
  pub on : new.is_halted ≡ false
  pub epoch : new.epoch ≡ old.epoch
  pub count : new.count ≡ old.count + 1

-- How far the requests were kept: before this one. The replies and the order so far, and then those of the rest, are
-- those of all.
pub record AreKeptUpTo (start now : Keeping) (requests : List Request) (index : ℕ) (replies : List Reply)
    (order : List ℕ) : Type 0 where
  pub done : List Commit
  pub commits : now.commits ≡ start.commits ++ done
  pub rest : new_commits start.epoch 0 start.commits requests
      ≡ done ++ new_commits start.epoch index now.commits (drop index requests)
  pub are_replies : kept_replies start.epoch 0 start.commits requests
      ≡ replies ++ kept_replies start.epoch index now.commits (drop index requests)
  pub in_order : order ≡ committed_places replies
  pub on : now.is_halted ≡ false
  pub epoch : now.epoch ≡ start.epoch
  pub count : now.count ≡ index

-- What the store says of a transaction that it was handed; `Untouched` is that the disk is as before.
pub record EndsCommit (store after : Keeping) (ops : List Op) (result : Result Kept KeepFault)
    (Untouched : Type 0) : Type 0 where
  pub committed : IfCommitted result (λ stamp number answers. IsCommitted store after ops stamp number answers)
  pub refused : IfTurnedDown result (λ stamp op reason at. IsTurnedDown store after ops stamp op reason at)
  pub passes : IsErrOf result fault.Disk → IsTrue (is_ok (transaction ops (graph_of store.commits)))
  pub unwritten : IfUnwritten result Untouched

-- The request at this place was kept next, with this reply.
pub record IsKeptNext (now after : Keeping) (place : ℕ) (request : Request) (reply : Reply) : Type 0 where
  pub says : reply ≡ kept_reply now.epoch place now.commits request
  pub commits : after.commits ≡ now.commits ++ commits_of_request now.epoch place now.commits request
  pub further : IsOneFurther now after

-- the reply to the request at this place says what became of its transaction
abbrev pub SaysKept : ℕ → Kept → Reply → Type 0
SaysKept place (kept.Committed stamp number answers) reply =
    reply ≡ record { request = place; stamp = Some stamp; state = Committed number answers.items }
SaysKept place (kept.Refused stamp op reason at) reply =
    reply ≡ record { request = place; stamp = Some stamp; state = Refused op reason at }
