-- The closed logs of a phase are an account of the script.
-- Used by HowFar and PhaseEnds.
use Rattle.std.proofs.Common.{◌≡◌, ℕ, List, Contains, sym, subst}
use Rattle.std.specs.Option.{ForSome}
use Rattle.program_defs.specs.declared.script.Request.{Request}
use Rattle.program_defs.specs.declared.script.Script.{Script}
use Rattle.report_rules.specs.Lookups.{request_at}
use Rattle.weave_account.specs.declared.account.Account.{Account}
use Rattle.weave_account.specs.IsAccount.{IsAccount}
use Rattle.hands_account.specs.Runs.{IsFollowedByHand, IsRunByHands, WasGiven}
use Rattle.weaver_core.specs.declared.client.Client.{Client}
use Rattle.weaver_locks.specs.declared.hand.Hand.{Hand}
use Rattle.weaver_locks.specs.declared.shared.Shared.{Shared}
use Rattle.weaver_locks.specs.Closing.{seen_by_number}
use Rattle.weaver_locks.specs.Hands.{hand_number, seen_by}
use Rattle.weaver_locks.specs.Locks.{hands_of}
use Rattle.workers_account.specs.Phase.{IsClosedBy, IsPhaseRun}
use Rattle.workers_account.specs.PhaseLaws.{PhaseLaws}
use Rattle.workers_account.proofs.Parts.{of-number}
use Rattle.workers_account.proofs.Ended.{sessions-kept}
use Rattle.workers_account.proofs.Follows.{begins, in-turn, once, own-sessions, work}
use Rattle.workers_account.proofs.Programs.{finishes, programs}

module _ (laws : PhaseLaws) (shared : Shared) (script : Script) (upto : ℕ) (start : Account) (was is : List Client) (hands : List Hand)
    (run : IsPhaseRun shared script upto start was is hands) (closed : Account) (end : IsClosedBy shared script start is hands closed) where
  -- each hand follows the script
  followed-by : (hand : Hand) → Contains hands hand → IsFollowedByHand script (hand_number hand) start (seen_by hand) closed
  followed-by hand h = record {
    begins = begins laws shared script upto start was is hands run closed end hand h;
    once = once laws shared script upto start was is hands run closed end hand h;
    work = work laws shared script upto start was is hands run closed end hand h;
    in_turn = in-turn laws shared script upto start was is hands run closed end hand h;
    programs = programs laws shared script upto start was is hands run closed end hand h;
    finishes = finishes laws shared script upto start was is hands run closed end hand h;
  }

  -- the script was run by the hands from the start to the closed logs
  pub run-by-hands : IsRunByHands script (hands_of shared) start (seen_by_number hands) closed
  run-by-hands = record {
    at_start = run.at_start.is_account;
    gates = end.gates;
    shards = end.shards;
    follows = λ number low. (let one = of-number laws shared script upto start was is hands run number low in
        subst (λ (x : ℕ × Account). IsFollowedByHand script x.0 start x.1 closed) (λ i. (one.number_is i, sym one.seen_is i))
        (followed-by one.hand one.there));
    hand_of = run.hand_of;
    own_sessions = λ number low r. (let one = of-number laws shared script upto start was is hands run number low in
        subst (λ (x : ℕ × Account). WasGiven x.0 start x.1 r → ForSome (request_at script r) (λ (request : Request). run.hand_of request.session ≡ x.0))
        (λ i. (one.number_is i, sym one.seen_is i))
        (own-sessions laws shared script upto start was is hands run closed end one.hand one.there r));
    sessions = sessions-kept laws shared script upto start was is hands run closed end;
  }

  -- the closed logs are an account of the script
  pub closed-account : IsAccount script closed
  closed-account = laws.account script (hands_of shared) start (seen_by_number hands) closed run.at_start.limits end.legal end.of_hands run-by-hands
