-- The closed logs of hands that served their sessions are an account of the script.
-- Used by `closed_logs_of_sessions_are_an_account`.
use Rattle.std.proofs.Common.{◌≡◌, ℕ, Contains, sym, subst}
use Rattle.std.specs.Option.{ForSome}
use Rattle.program_defs.specs.declared.script.Request.{Request}
use Rattle.report_rules.specs.Lookups.{request_at}
use Rattle.weave_account.specs.declared.account.Account.{Account}
use Rattle.weave_account.specs.IsAccount.{IsAccount}
use Rattle.hands_account.specs.Runs.{IsFollowedByHand, IsRunByHands, WasGiven}
use Rattle.weaver_locks.specs.declared.hand.Hand.{Hand}
use Rattle.weaver_locks.specs.Closing.{seen_by_number}
use Rattle.weaver_locks.specs.Hands.{hand_number, seen_by}
use Rattle.weaver_locks.specs.Locks.{hands_of}
use Rattle.workers_account.specs.Phase.{IsClosedBy}
use Rattle.sessions_account.proofs.Runs.{Run, of-number}
use Rattle.sessions_account.proofs.Ends.{sessions-kept}
use Rattle.sessions_account.proofs.Follows.{begins, in-turn, once, own-sessions, work}
use Rattle.sessions_account.proofs.Programs.{finishes, programs}

module _ (x : Run) (closed : Account) (end : IsClosedBy x.shared x.script x.start x.is x.hands closed) where
  -- each hand follows the script
  followed-by : (hand : Hand) → Contains x.hands hand → IsFollowedByHand x.script (hand_number hand) x.start (seen_by hand) closed
  followed-by hand h = record {
    begins = begins x closed end hand h;
    once = once x closed end hand h;
    work = work x closed end hand h;
    in_turn = in-turn x closed end hand h;
    programs = programs x closed end hand h;
    finishes = finishes x closed end hand h;
  }

  -- the script was run by the hands from the start to the closed logs
  pub run-by-hands : IsRunByHands x.script (hands_of x.shared) x.start (seen_by_number x.hands) closed
  run-by-hands = record {
    at_start = x.served.at_start.is_account;
    gates = end.gates;
    shards = end.shards;
    follows = λ number low. (let one = of-number x number low in
        subst (λ (y : ℕ × Account). IsFollowedByHand x.script y.0 x.start y.1 closed) (λ i. (one.number_is i, sym one.seen_is i))
        (followed-by one.hand one.there));
    hand_of = x.served.hand_of;
    own_sessions = λ number low r. (let one = of-number x number low in
        subst (λ (y : ℕ × Account). WasGiven y.0 x.start y.1 r → ForSome (request_at x.script r) (λ (request : Request). x.served.hand_of request.session ≡ y.0))
        (λ i. (one.number_is i, sym one.seen_is i)) (own-sessions x closed end one.hand one.there r));
    sessions = sessions-kept x closed end;
  }

  -- the closed logs are an account of the script
  pub closed-account : IsAccount x.script closed
  closed-account =
      x.laws.phase.account x.script (hands_of x.shared) x.start (seen_by_number x.hands) closed x.served.at_start.limits end.legal end.of_hands run-by-hands
