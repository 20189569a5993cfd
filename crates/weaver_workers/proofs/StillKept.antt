-- A hand goes on with the session for which it made a call.
-- Used by `hands_go_on`.
use Rattle.std.proofs.Common.{◌≡◌, inl, inr, ℕ, ◌<◌, [], ◌∷◌, ◌++◌, Some, sym, ap, ◌∙◌, subst}
use Rattle.std.specs.Option.{ForSome}
use Rattle.program_defs.specs.declared.script.Request.{Request}
use Rattle.program_defs.specs.declared.script.Script.{Script}
use Rattle.program_defs.specs.Limits.{IsWithinLimits}
use Rattle.report_rules.specs.Lookups.{request_at}
use Rattle.weave_entries.specs.declared.session_log.SessionEntry.{SessionEntry}
use Rattle.weave_entries.specs.SessionReplay.{SessionState, session_after, session_of}
use Rattle.weaver_core.specs.Sessions.{log_of_client, requests_in, IsClientOf}
use Rattle.weaver_locks.specs.declared.shared.Shared.{Shared}
use Rattle.weaver_locks.specs.Hands.{IsHand}
use Rattle.weaver_locks.specs.Locks.{gate_count}
use Rattle.weaver_hands.specs.Programs.{IsRunning}
use Rattle.weaver_workers.specs.ClientWork.{begun_entry, replied_entry, DoesOneCall, Stand}
use Rattle.weaver_workers.specs.KeepLaws.{KeepLaws}
use Rattle.weaver_workers.specs.Keeping.{AreLocksOf, KeepsClient}
use Rattle.weaver_workers.proofs.Kept.{carry-keeps, change-keeps, finish-keeps, start-keeps, visit-keeps}
use Rattle.weaver_workers.proofs.ReadOn.{home-there}

module _ (laws : KeepLaws) (shared : Shared) (script : Script) (s upto : ℕ) (within : IsWithinLimits script) (locks : AreLocksOf script shared)
    (old new : Stand) (keeps : KeepsClient shared script s old.hand old.client) (is_hand : IsHand shared new.hand)
    (at_end : IsClientOf s new.client.session (log_of_client new.client)) (runs : ForSome new.client.running (IsRunning shared new.hand)) where
  -- a gatekeeper of the script
  gate-low : (r : ℕ) (asked : Request) → request_at script r ≡ Some asked → asked.gate < gate_count shared
  gate-low r asked is = subst (λ (n : ℕ). asked.gate < n) (sym locks.gates) (within.homes r asked is)

  -- the session after one entry more
  after-one : (entry : SessionEntry) → requests_in new.client ≡ requests_in old.client → log_of_client new.client ≡ log_of_client old.client ++ entry ∷ []
      → new.client.session ≡ session_after old.client.session entry.deed
  after-one entry requests log =
      at_end.state ∙ (λ i. session_of (requests i) (log i)) ∙ laws.replay (requests_in old.client) (log_of_client old.client) entry
      ∙ ap (λ (x : SessionState). session_after x entry.deed) (sym keeps.at_end.state)

  -- and after two
  after-two : (first second : SessionEntry) → requests_in new.client ≡ requests_in old.client
      → log_of_client new.client ≡ (log_of_client old.client ++ first ∷ []) ++ second ∷ []
      → new.client.session ≡ session_after (session_after old.client.session first.deed) second.deed
  after-two first second requests log =
      at_end.state ∙ (λ i. session_of (requests i) (log i)) ∙ laws.replay (requests_in old.client) (log_of_client old.client ++ first ∷ []) second
      ∙ ap (λ (x : SessionState). session_after x second.deed) (laws.replay (requests_in old.client) (log_of_client old.client) first)
      ∙ ap (λ (x : SessionState). session_after (session_after x first.deed) second.deed) (sym keeps.at_end.state)

  -- after one thing done, the hand can go on with the session
  pub still-kept : DoesOneCall shared script s upto old new → KeepsClient shared script s new.hand new.client
  still-kept (inl change) =
      change-keeps laws shared script s old new keeps is_hand upto at_end change (gate-low change.r change.asked change.next.request_is)
      (after-two (begun_entry s change.r change.stamp) (replied_entry s change.r) change.requests change.log)
  still-kept (inr (inl start)) =
      start-keeps laws shared script s old new keeps is_hand upto at_end start (gate-low start.r start.asked start.next.request_is)
      (after-one (begun_entry s start.r start.stamp) start.requests start.log)
  still-kept (inr (inr (inl visit))) = visit-keeps laws shared script s old new keeps is_hand visit (runs visit.after visit.after_is)
  still-kept (inr (inr (inr (inl finish)))) =
      finish-keeps laws shared script s old new keeps is_hand upto at_end finish (after-one (replied_entry s finish.before.request) finish.requests finish.log)
      (home-there shared old.hand finish.before keeps.is_hand (keeps.running finish.before finish.before_is).runs)
  still-kept (inr (inr (inr (inr carry)))) = carry-keeps laws shared script s old new keeps is_hand carry
