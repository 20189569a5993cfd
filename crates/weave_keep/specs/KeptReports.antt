-- What is reported of transactions that are kept, one after another, after the commits that were recovered.
use Rattle.std.specs.Prelude.{ℕ, ◌+◌, Bool, true, false, ◌&&◌, ◌==◌, is_ok, is_some, List, [], ◌∷◌, ◌++◌, length, map, filter, Option, Some, None, Ok, Err, if◌then◌else◌}
use Rattle.std.specs.List.{list_all}
use Rattle.graph_ops.specs.PlainGraph.{TxOutcome, transaction}
use Rattle.program_defs.specs.Works.{is_change, ops_of}
use Rattle.program_defs.specs.declared.script.Request.{Request}
use Rattle.program_defs.specs.declared.script.Script.{Script}
use Rattle.program_defs.specs.declared.script.Step.{Step}
use Rattle.report_rules.specs.Lookups.{committed_number}
use Rattle.report_rules.specs.declared.report.Reply.{Reply}
use Rattle.report_rules.specs.declared.report.ReplyState.{ReplyState}
use Rattle.report_rules.specs.declared.report.ReplyState.TheVariants.{Committed, Refused}
use Rattle.report_rules.specs.declared.report.Report.{Report}
use Rattle.store_journal.specs.Commits.{graph_of}
use Rattle.store_journal.specs.Payloads.{commit_with, kept_stamp}
use Rattle.store_journal.specs.declared.kept_commit.Commit.{Commit}

-- Scripts that can be kept

-- there is no step
abbrev pub has_no_step : Option (List Step) → Bool
has_no_step None = true
has_no_step (Some []) = true
has_no_step (Some (step ∷ steps)) = false

-- the script has one gatekeeper, no program and no step
abbrev pub can_be_kept : Script → Bool
can_be_kept script =
    (script.gates == 1) && list_all (λ (request : Request). is_change request.work) script.requests
    && has_no_step script.steps

-- The transactions

-- the state of a transaction that ended so after this many commits: the next one, or refused
abbrev pub kept_state : TxOutcome → ℕ → ReplyState
kept_state (Ok passed) count = Committed (count + 1) passed.gots
kept_state (Err stopped) count = Refused stopped.op stopped.reason count

-- what a request's operations result in after these commits
abbrev pub outcome_after : List Commit → Request → TxOutcome
outcome_after commits request = transaction (ops_of request.work) (graph_of commits)

module _ (epoch : ℕ) where
  -- the reply to the request at this place, from 0, after these commits: its stamp counts one more
  abbrev pub kept_reply : ℕ → List Commit → Request → Reply
  kept_reply place commits request = record {
    request = place;
    stamp = Some (kept_stamp epoch (place + 1));
    state = kept_state (outcome_after commits request) (length commits);
  }

  -- the commit that it is, if its operations pass
  abbrev pub commits_of_request : ℕ → List Commit → Request → List Commit
  commits_of_request place commits request =
      if is_ok (outcome_after commits request)
      then commit_with (kept_stamp epoch (place + 1)) (ops_of request.work) ∷ [] else []

  -- the commits of the requests from this place on, after these commits: each is on those before it
  abbrev pub new_commits : ℕ → List Commit → List Request → List Commit
  new_commits place commits [] = []
  new_commits place commits (request ∷ requests) =
      commits_of_request place commits request
      ++ new_commits (place + 1) (commits ++ commits_of_request place commits request) requests

  -- the replies to them
  abbrev pub kept_replies : ℕ → List Commit → List Request → List Reply
  kept_replies place commits [] = []
  kept_replies place commits (request ∷ requests) =
      kept_reply place commits request
      ∷ kept_replies (place + 1) (commits ++ commits_of_request place commits request) requests

-- the reply says that its request is committed
abbrev pub says_committed : Reply → Bool
says_committed reply = is_some (committed_number reply.state)

-- the places of the committed ones
abbrev pub committed_places : List Reply → List ℕ
committed_places replies = map (λ (reply : Reply). reply.request) (filter says_committed replies)

-- the report of these replies, whose order is that of the committed ones
abbrev pub report_of : List Reply → Report
report_of replies = record { replies = replies; pairs = []; order = committed_places replies; answers = [] }

-- The report: each request of the script in its order, in the recovered epoch; the order is that of the commits.
abbrev pub kept_report : List Commit → Script → Report
kept_report recovered script = report_of (kept_replies (length recovered + 1) 0 recovered script.requests)

-- the commits that a script adds to those recovered
abbrev pub commits_of_script : List Commit → Script → List Commit
commits_of_script recovered script = new_commits (length recovered + 1) 0 recovered script.requests
