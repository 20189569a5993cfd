-- A client's worker that finds its gatekeeper busy turn by turn, and what it has found when it stops.
-- Used by `go_session`, `look_on`, `try_next` and ReadOn.
use Rattle.std.proofs.Common.{◌≡◌, ℕ, ◌+◌, ◌-◌, ◌^◌, ◌<◌, ◌≤◌, Bool, true, false, List, [], ◌∷◌, ◌++◌, min, Option, None, Some, refl, sym, ap, ◌∙◌, subst, arith}
use Rattle.std.specs.Prelude.{nat_lt, if◌then◌else◌}
use Rattle.std.proofs.lemmas.Bool.{ltb-false, ltb-true}
use Rattle.std.proofs.lemmas.List.{length-append}
use Rattle.std.proofs.lemmas.Option.{none-some, same_Some}
use Rattle.program_defs.specs.declared.script.Request.{Request}
use Rattle.program_defs.specs.declared.script.Script.{Script}
use Rattle.report_rules.specs.Lookups.{request_at}
use Rattle.weave_entries.specs.SessionReplay.{SessionState}
use Rattle.weaver_core.specs.declared.walks.Running.{Running}
use Rattle.weaver_core.specs.Sessions.{IsInTurn}
use Rattle.weaver_locks.specs.declared.hand.Hand.{Hand}
use Rattle.weaver_locks.specs.declared.shared.Shared.{Shared}
use Rattle.weaver_locks.specs.Locks.{shard_count}
use Rattle.weaver_hands.specs.Transactions.{FoundBusy}
use Rattle.weaver_workers.specs.declared.ended.Ended.{Ended}
use Rattle.weaver_workers.specs.declared.ended.Ended.TheVariants as ended
use Rattle.weaver_workers.specs.declared.tried.Tried.{Tried}
use Rattle.weaver_workers.specs.declared.tried.Tried.TheVariants as tried
use Rattle.weaver_workers.specs.ClientWork.{most_busy_turns, FindsBusy, Stand, StopsAtBusyGate}
use Rattle.weaver_workers.specs.Turning.{busy_turns, ended_after, IsNextAt, TriedAs, TriedBusyGate, WasBusy, WasBusyForNext}

-- a try of a client whose program runs does not find its gatekeeper busy, so its answer is the same from an earlier stand
pub tried-before : (shared : Shared) (script : Script) (upto : ℕ) (old mid new : Stand) (running : Running) → mid.client.running ≡ Some running
    → (answer : Tried) → TriedAs shared script upto mid new answer → TriedAs shared script upto old new answer
tried-before shared script upto old mid new running runs tried.Replied did = tt
tried-before shared script upto old mid new running runs (tried.Busy gate) did = absurd (none-some running (sym did.none_before ∙ runs))
tried-before shared script upto old mid new running runs (tried.NotYet shard gate) did = did

-- one more busy turn, of fewer than make the worker stop
one-more : (busy : ℕ) → busy < most_busy_turns → min (busy + 1) (2 ^ 32 - 1) ≡ busy + 1
one-more busy few = omega (arith, few)

-- one more hold in which the gatekeeper was busy
busy-then : (shards gate : ℕ) (holds : List Hand) (from mid new : Hand) → FindsBusy shards gate from holds mid → FoundBusy shards mid new gate
    → FindsBusy shards gate from (holds ++ new ∷ []) new
busy-then shards gate [] from mid new before hold = (subst (λ (h : Hand). FoundBusy shards h new gate) (sym before) hold, refl)
busy-then shards gate (next ∷ holds) from mid new before hold = (before.0, busy-then shards gate holds next mid new before.1 hold)

module _ (shared : Shared) (script : Script) (upto : ℕ) where
  -- the gatekeeper was busy in none of the last no turns
  pub never-busy : (at : Stand) → WasBusyForNext shared script upto at 0
  never-busy at gate next = record { from = at.hand; holds = []; many = refl; each = refl }

  module _ (old new : Stand) where
    -- the gatekeeper of the session's next request is the one that was found busy
    same-gate : (gate at : ℕ) → TriedBusyGate shared script upto old new gate → IsNextAt script upto new.client at → gate ≡ at
    same-gate gate at did next =
        let found = did.found in
        let r_is : found.r ≡ next.r = same_Some found.r next.r (sym found.next.turn.next ∙ next.next.turn.next) in
        let asked_is : found.asked ≡ next.asked =
        same_Some found.asked next.asked (sym found.next.request_is ∙ ap (request_at script) r_is ∙ next.next.request_is) in
        sym found.gate_is ∙ ap (λ (asked : Request). asked.gate) asked_is ∙ next.gate_is

    -- it was the gatekeeper of the next request before this try, too
    was-next : (gate : ℕ) → TriedBusyGate shared script upto old new gate → IsNextAt script upto old.client gate
    was-next gate did =
        let found = did.found in
        record {
          r = found.r;
          asked = found.asked;
          next = record {
            request_is = found.next.request_is;
            turn = subst (λ (s : SessionState). IsInTurn s found.r) did.same.session found.next.turn;
            below = found.next.below;
          };
          gate_is = found.gate_is;
        }

    -- after one more busy turn
    busy-once-more : (busy gate : ℕ) → TriedBusyGate shared script upto old new gate → WasBusyForNext shared script upto old busy
        → WasBusy shared gate (busy + 1) new.hand
    busy-once-more busy gate did before =
        let was = before gate (was-next gate did) in
        record {
          from = was.from;
          holds = was.holds ++ new.hand ∷ [];
          many = length-append was.holds (new.hand ∷ []) ∙ ap (λ (n : ℕ). n + 1) was.many;
          each = busy-then (shard_count shared) gate was.holds was.from old.hand new.hand was.each did.hold;
        }

    -- after a turn, the last busy ones are as many as the worker counts
    pub busy-after : (answer : Tried) (busy : ℕ) → TriedAs shared script upto old new answer → busy < most_busy_turns
        → WasBusyForNext shared script upto old busy → WasBusyForNext shared script upto new (busy_turns busy answer)
    busy-after tried.Replied busy did few before = never-busy new
    busy-after (tried.NotYet shard gate) busy did few before = never-busy new
    busy-after (tried.Busy gate) busy did few before = λ at next.
        subst (λ (n : ℕ). WasBusy shared at n new.hand) (sym (one-more busy few))
        (subst (λ (g : ℕ). WasBusy shared g (busy + 1) new.hand) (same-gate gate at did next) (busy-once-more busy gate did before))

    -- if it stops at a busy gatekeeper, that one was busy in as many turns as make it stop
    pub busy-stop : (gate busy : ℕ) → TriedBusyGate shared script upto old new gate → busy < most_busy_turns
        → WasBusyForNext shared script upto old busy → nat_lt (min (busy + 1) (2 ^ 32 - 1)) most_busy_turns ≡ false
        → StopsAtBusyGate shared script upto new gate
    busy-stop gate busy did few before over =
        let was = busy-once-more busy gate did before in
        let all : most_busy_turns ≤ busy + 1 =
        subst (λ (n : ℕ). most_busy_turns ≤ n) (one-more busy few) (ltb-false (min (busy + 1) (2 ^ 32 - 1)) most_busy_turns over) in
        record {
          found = did.found;
          from = was.from;
          holds = was.holds;
          many = was.many ∙ omega (arith, few, all);
          each = was.each;
        }

-- if the worker does not end at so many busy turns, they are fewer than make it stop
no-end : (gate busy : ℕ) (b : Bool) → nat_lt busy most_busy_turns ≡ b → (if b then None else Some (ended.Busy gate)) ≡ None → busy < most_busy_turns
no-end gate busy true is none = ltb-true busy most_busy_turns is
no-end gate busy false is none = absurd (none-some (ended.Busy gate) (sym none))

-- while the worker does not end, it has counted fewer busy turns than make it stop
pub few-after : (answer : Tried) (busy : ℕ) (end : Option Ended) → end ≡ ended_after answer (busy_turns busy answer) → end ≡ None
    → busy_turns busy answer < most_busy_turns
few-after tried.Replied busy end by none = omega arith
few-after (tried.NotYet shard gate) busy end by none = absurd (none-some (ended.NotYet shard gate) (sym none ∙ by))
few-after (tried.Busy gate) busy end by none =
    no-end gate (min (busy + 1) (2 ^ 32 - 1)) (nat_lt (min (busy + 1) (2 ^ 32 - 1)) most_busy_turns) refl (sym by ∙ none)
