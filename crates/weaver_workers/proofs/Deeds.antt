-- Each thing that a client's worker does, with room reserved first, leaves it able to go on (`WorkerGoesOn`).
-- Used by `finish_look`, `go_client`, `start_look` and `try_change`.
use Rattle.std.proofs.Common.{◌≡◌, inl, inr, ℕ, zero, suc, ◌<◌, ◌≤◌, false, List, [], ◌∷◌, length, get_or, Option, Some, None, Err, refl, sym, ap, ◌∙◌, subst, arith}
use Rattle.std.specs.Prelude.{is_some, slice_get, IsTrue}
use Rattle.std.proofs.lemmas.List.{append-nil}
use Rattle.std.proofs.lemmas.Option.{none-some, same_Some, slice_get-get_or}
use Rattle.graph_ops.specs.declared.op.Op.{Op}
use Rattle.vector_stamp.specs.declared.clock.Stamp.{Stamp}
use Rattle.program_defs.specs.declared.program.Answer.{Answer}
use Rattle.program_defs.specs.declared.script.Request.{Request}
use Rattle.program_defs.specs.declared.script.Script.{Script}
use Rattle.program_defs.specs.declared.script.Work.TheVariants.{Change}
use Rattle.program_defs.specs.Limits.{IsWithinLimits}
use Rattle.program_defs.specs.Works.{ops_of}
use Rattle.report_rules.specs.declared.report.ReplyState.TheVariants.{Finished}
use Rattle.report_rules.specs.Lookups.{request_at}
use Rattle.weave_account.specs.Report.{state_by_verdict}
use Rattle.weave_entries.specs.declared.gate_log.GateEntry.{GateEntry}
use Rattle.weave_entries.specs.GateReplay.{flight_of, BegunRequest}
use Rattle.weave_account.specs.Account.{gate_log}
use Rattle.weave_entries.specs.declared.session_log.SessionDeed.{SessionDeed}
use Rattle.weave_entries.specs.declared.session_log.SessionDeed.TheVariants.{Begun, Replied}
use Rattle.weave_entries.specs.declared.session_log.SessionEntry.{SessionEntry}
use Rattle.weave_entries.specs.declared.verdict.Verdict.{Verdict}
use Rattle.weave_entries.specs.SessionReplay.{session_after, session_of, SessionState}
use Rattle.weaver_core.specs.declared.client.Client.{Client}
use Rattle.weaver_core.specs.declared.walks.Running.{Running}
use Rattle.weaver_core.specs.Sessions.{log_of_client, requests_in, values_of, values_with_reply, AddsDeed, IsClientOf, IsSameClient, SessionValues}
use Rattle.weaver_locks.specs.declared.hand.Hand.{Hand}
use Rattle.weaver_locks.specs.declared.shared.Shared.{Shared}
use Rattle.weaver_locks.specs.Hands.{seen_by, IsHand}
use Rattle.weaver_locks.specs.Locks.{gate_count, shard_count}
use Rattle.weaver_hands.specs.Programs.{HandFinishes}
use Rattle.weaver_hands.specs.declared.fault.HandFault.{HandFault}
use Rattle.weaver_hands.specs.declared.fault.HandFault.TheVariants as hand
use Rattle.weaver_hands.specs.Transactions.{FoundBusy, Transacts, TransactsAs}
use Rattle.weaver_workers.specs.declared.tried.Tried.{Tried}
use Rattle.weaver_workers.specs.declared.tried.Tried.TheVariants.{Busy as AtGate}
use Rattle.weaver_workers.specs.ClientWork.{reply_with, DoesChange, DoesFinish, DoesStart, FoundGateBusy, WorkerGoesOn, IsNextRequest}
use Rattle.weaver_workers.specs.KeepLaws.{KeepLaws}
use Rattle.weaver_workers.specs.Keeping.{HasLanded, KeepsClient}
use Rattle.weaver_workers.specs.Turning.{stand, tried_at, GainsReply, Tries}
use Rattle.weaver_workers.proofs.Carried.{nothing-at-gate}
use Rattle.weaver_workers.proofs.Going.{goes-carry, goes-one, goes-reserve, goes-then, same-walk}
use Rattle.weaver_workers.proofs.Landed.{other-hand}
use Rattle.weaver_workers.proofs.Kept.{change-keeps, finish-keeps, start-keeps}
use Rattle.weaver_workers.proofs.ReadOn.{home-there}

-- what is there is a value
is-there : {A : Type 0} (o : Option A) → IsTrue (is_some o) → (x : A) × (o ≡ Some x)
is-there None there = absurd cc
is-there (Some x) there = (x, refl)

-- what is not there is none
pub nothing-runs : {A : Type 0} (o : Option A) → is_some o ≡ false → o ≡ None
nothing-runs None none = refl
nothing-runs (Some x) none = absurd cc

module _ (laws : KeepLaws) where
  -- after one more deed in its log a session is the one that the deed leaves
  pub deed-done : (number : ℕ) (was is : Client) (deed : SessionDeed) → IsClientOf number was.session was.log.items → AddsDeed number was is deed
      → is.session ≡ session_after was.session deed
  deed-done number was is deed at_end adds =
      let entry : SessionEntry = record { author = number; deed = deed } in
      adds.client.state ∙ (λ i. session_of (adds.requests i) (adds.log i)) ∙ laws.replay (requests_in was) (log_of_client was) entry
      ∙ ap (λ (s : SessionState). session_after s deed) (sym at_end.state)

  module _ (shared : Shared) (script : Script) (number upto : ℕ) (old new : Hand) (client reserved after : Client)
      (keeps : KeepsClient shared script number old client) (same : IsSameClient client reserved) (is_hand : IsHand shared new) where
    -- room was taken first
    first : WorkerGoesOn shared script number upto (stand old client) (stand old reserved)
    first = goes-reserve shared script number upto laws (stand old client) (stand old reserved) keeps refl same

    onward : WorkerGoesOn shared script number upto (stand old reserved) (stand new after) → WorkerGoesOn shared script number upto (stand old client) (stand new after)
    onward second = goes-then shared script number upto (stand old client) (stand old reserved) (stand new after) first second

    -- a worker goes on when it finishes the program that runs, with the reply added to the session
    pub finished : (running : Running) → reserved.running ≡ Some running → (answer : Answer) → HandFinishes (shard_count shared) old new running answer
        → AddsDeed number reserved after (Replied running.request)
        → values_of after ≡ values_with_reply (values_of reserved) (reply_with running.request running.stamp (Finished answer))
        → WorkerGoesOn shared script number upto (stand old client) (stand new after)
    finished running is answer finishes adds values =
        let runs = first.keeps.running running is in
        let does : DoesFinish shared number (stand old reserved) (stand new after) = record {
          before = running;
          before_is = is;
          answer = answer;
          finishes = finishes;
          requests = adds.requests;
          log = adds.log;
          running = ap (λ (v : SessionValues). v.running) values;
          replies = ap (λ (v : SessionValues). v.replies) values;
        } in
        onward (goes-one shared script number upto (stand old reserved) (stand new after) (inr (inr (inr (inl does))))
        (finish-keeps laws shared script number (stand old reserved) (stand new after) first.keeps is_hand upto adds.client does
        (deed-done number reserved after (Replied running.request) first.keeps.at_end adds)
        (home-there shared old running first.keeps.is_hand runs.runs)))

    -- a transaction was begun, judged and sent
    pub changed : (r : ℕ) (asked : Request) → IsNextRequest script upto reserved r asked → (ops : List Op) → asked.work ≡ Change ops
        → asked.gate < gate_count shared → (stamp : Stamp) (verdict : Verdict)
        → Transacts (shard_count shared) old new asked.gate r ops reserved.session.last stamp verdict
        → GainsReply number reserved after r stamp (state_by_verdict verdict)
        → WorkerGoesOn shared script number upto (stand old client) (stand new after)
    changed r asked next ops work low stamp verdict transacts answered =
        let does : DoesChange shared script number upto (stand old reserved) (stand new after) = record {
          r = r;
          asked = asked;
          next = next;
          ops = ops;
          work_is = work;
          stamp = stamp;
          verdict = verdict;
          transacts = transacts;
          requests = answered.requests;
          log = answered.log;
          running = answered.running;
          replies = answered.replies;
        } in
        onward (goes-one shared script number upto (stand old reserved) (stand new after) (inl does)
        (change-keeps laws shared script number (stand old reserved) (stand new after) first.keeps is_hand upto answered.at_end does low answered.session))

    -- a worker goes on when it begins a program, with the begin added to its session
    pub started : (does : DoesStart shared script number upto (stand old reserved) (stand new after)) → does.asked.gate < gate_count shared
        → IsClientOf number after.session after.log.items → after.session ≡ session_after reserved.session (Begun does.r does.stamp)
        → WorkerGoesOn shared script number upto (stand old client) (stand new after)
    started does low at_end session =
        onward (goes-one shared script number upto (stand old reserved) (stand new after) (inr (inl does))
        (start-keeps laws shared script number (stand old reserved) (stand new after) first.keeps is_hand upto at_end does low session))

    -- a hold in which the gatekeeper was busy only carries
    waits : (gate : ℕ) → FoundBusy (shard_count shared) old new gate → WorkerGoesOn shared script number upto (stand old reserved) (stand new reserved)
    waits gate found =
        goes-carry shared script number upto laws (stand old reserved) (stand new reserved) first.keeps is_hand (record {
          only = nothing-at-gate (shard_count shared) old new gate found.before found.was;
          same = record { session = refl; log = refl; replies = refl };
          running = same-walk reserved.running;
        })

    -- a transaction of another hand was in flight at the gatekeeper of the session's next request
    busy-gate : HasLanded new → (r : ℕ) (asked : Request) → IsNextRequest script upto reserved r asked → (ops : List Op) → asked.work ≡ Change ops
        → (found : FoundBusy (shard_count shared) old new asked.gate) → (flight : BegunRequest) × (flight_of found.before ≡ Some flight)
        → FoundGateBusy script upto (stand new reserved) asked.gate
    busy-gate landed r asked next ops work found flies =
        let seen : flight_of (gate_log (seen_by new) asked.gate) ≡ Some flies.0 =
        ap (λ (log : List GateEntry). flight_of log) (found.was.left ∙ append-nil found.before) ∙ flies.1 in
        record {
          r = r;
          asked = asked;
          next = next;
          ops = ops;
          work_is = work;
          gate_is = refl;
          flight = flies.0;
          busy = seen;
          other = other-hand laws shared new is_hand landed asked.gate flies.0 seen;
        }

    -- the gatekeeper was busy, so no transaction was begun
    pub refused : client.running ≡ None → (r : ℕ) (asked : Request) → IsNextRequest script upto reserved r asked → (ops : List Op) → asked.work ≡ Change ops
        → (last : Option Stamp) (fault : HandFault) (answer : Tried)
        → TransactsAs (shard_count shared) old new asked.gate r ops last (Err fault) → tried_at asked.gate fault ≡ Some answer
        → Tries shared script number upto (stand old client) (stand new reserved) answer
    refused none r asked next ops work last hand.Busy answer found is =
        subst (λ (a : Tried). Tries shared script number upto (stand old client) (stand new reserved) a) (same_Some (AtGate asked.gate) answer is) (record {
          goes = goes-then shared script number upto (stand old client) (stand old reserved) (stand new reserved) first (waits asked.gate found);
          answered = record {
            found = busy-gate (waits asked.gate found).keeps.landed r asked next ops work found (is-there (flight_of found.before) found.busy);
            hold = found;
            same = record { session = same.session; log = same.log; replies = ap (λ (v : SessionValues). v.replies) same.values };
            none_before = none;
            none_after = ap (λ (v : SessionValues). v.running) same.values ∙ none;
          };
        })
    refused none r asked next ops work last (hand.NotYet shard at) answer never is = absurd never
    refused none r asked next ops work last hand.Empty answer never is = absurd never
    refused none r asked next ops work last (hand.Waits vertex) answer never is = absurd never
    refused none r asked next ops work last hand.Memory answer stopped is = absurd (none-some answer is)

-- if no element is at a place, the list has ended before it
none-past : {A : Type 0} (xs : List A) (i : ℕ) → slice_get xs i ≡ None → length xs ≤ i
none-past [] i none = omega arith
none-past (x ∷ xs) zero none = absurd (none-some x (sym none))
none-past (x ∷ xs) (suc i) none = let rest = none-past xs i none in omega (arith, rest)

-- a request has at most 64 operations, so fewer than 2^31
pub few-ops : (script : Script) → IsWithinLimits script → (r : ℕ) (ops : List Op) → r < length script.requests
    → ((asked : Request) → request_at script r ≡ Some asked → asked.work ≡ Change ops) → length ops < 2147483648
few-ops script limits r ops low work = at (request_at script r) refl
  where
    at : (o : Option Request) → request_at script r ≡ o → length ops < 2147483648
    at None none = absurd (let past = none-past script.requests r none in omega (arith, low, past))
    at (Some asked) is =
        let few = subst (λ w. length (ops_of w) ≤ 64) (work asked is) (limits.few_ops r asked is) in
        omega (arith, few)

-- the request that was looked up
pub asked-there : (script : Script) (requests : List Request) (r : ℕ) (asked : Request) → requests ≡ script.requests
    → r < length script.requests → asked ≡ get_or requests r asked → request_at script r ≡ Some asked
asked-there script requests r asked same low is =
    slice_get-get_or script.requests r asked low ∙ ap Some (ap (λ (xs : List Request). get_or xs r asked) (sym same) ∙ sym is)
