-- What the logs of sessions keep: their requests in turn, with the gatekeepers' stamps, each reply after the request
-- has ended.
use Rattle.std.specs.Prelude.{◌≡◌, ℕ, ◌==◌, List, filter, length, IsTrue, Some, ⊤}
use Rattle.std.specs.List.{range_with_len}
use Rattle.program_defs.specs.declared.script.Request.{Request}
use Rattle.program_defs.specs.declared.script.Script.{Script}
use Rattle.program_defs.specs.Works.{is_look}
use Rattle.weave_entries.specs.declared.session_log.SessionEntry.{SessionEntry}
use Rattle.weave_entries.specs.declared.session_log.SessionDeed.{SessionDeed}
use Rattle.weave_entries.specs.declared.session_log.SessionDeed.TheVariants.{Begun, Replied}
use Rattle.weave_entries.specs.Logs.{AtEachEntry}
use Rattle.weave_entries.specs.SessionReplay.{IsSessionLog, session_stamp_of, has_reply_in}
use Rattle.report_rules.specs.Lookups.{is_some_and, request_at}
use Rattle.weave_account.specs.declared.account.Account.{Account}
use Rattle.weave_account.specs.Account.{session_log, stamp_of, is_ended}

-- the requests of a session, in script order
abbrev pub requests_of_session : Script → ℕ → List ℕ
requests_of_session script session =
    filter (λ r. is_some_and (λ (request : Request). request.session == session) (request_at script r))
    (range_with_len 0 (length script.requests))

-- a reply is to a request that was sent or finished
abbrev pub RepliesAs : Account → SessionDeed → Type 0
RepliesAs account (Begun r stamp) = ⊤
RepliesAs account (Replied r) = IsTrue (is_ended account r)

-- Sessions: each log is one of its session, its begins are those at the gatekeepers, and only what was sent or
-- finished has a reply.
-- A program is finished at its gatekeeper exactly if its session has its reply.
pub record SessionsClause (script : Script) (account : Account) : Type 0 where
  pub logs : (session : ℕ) → IsSessionLog session (requests_of_session script session) (session_log account session)
  pub stamps : (r : ℕ) (request : Request) → request_at script r ≡ Some request
      → session_stamp_of r (session_log account request.session) ≡ stamp_of account r
  pub replies : (session : ℕ)
      → AtEachEntry (λ before (entry : SessionEntry). RepliesAs account entry.deed) (session_log account session)
  pub finished_are_replied : (r : ℕ) (request : Request) → request_at script r ≡ Some request
      → IsTrue (is_look request.work)
      → IsTrue (is_ended account r) → IsTrue (has_reply_in r (session_log account request.session))
