-- What a gatekeeper does not refuse.
-- Used by `finish` and `transact`.
use Rattle.std.proofs.Common.{◌≡◌, ◌≢◌, ℕ, ◌==◌, Bool, true, false, not, List, [], length, Contains, Err, refl, sym, ap, subst, ◌∙◌, eq-eqb}
use Rattle.std.specs.List.{list_any}
use Rattle.std.proofs.lemmas.Bool.{and_from}
use Rattle.std.proofs.lemmas.List.{append-nil}
use Rattle.weave_data.proofs.Members.{any_from, flat_has, has_flat, drop_has}
use Rattle.weave_entries.specs.declared.gate_log.GateEntry.{GateEntry}
use Rattle.weave_entries.specs.declared.gate_log.GateDeed.TheVariants.{Finished}
use Rattle.weave_entries.specs.GateReplay.{BegunRequest, is_begun, program_by, programs_of, running_of}
use Rattle.weave_account.specs.declared.account.Account.{Account}
use Rattle.weave_account.specs.Account.{gate_log}
use Rattle.weave_account.proofs.GoesOn.{has-on}
use Rattle.gatekeeper.specs.declared.fault.GateFault.{GateFault}
use Rattle.gatekeeper.specs.declared.fault.GateFault.TheVariants.{Busy, Idle, Old, Memory}
use Rattle.gatekeeper.specs.Answers.{IsRefusedWhere}
use Rattle.seen_logs.specs.Seen.{entries_since}
use Rattle.weaver_core.specs.declared.walks.Running.{Running}
use Rattle.weaver_locks.specs.declared.hand.Hand.{Hand}
use Rattle.weaver_locks.specs.declared.shared.Shared.{Shared}
use Rattle.weaver_locks.specs.GateHolds.{WasAtGate}
use Rattle.weaver_locks.specs.HandLaws.{HandLaws}
use Rattle.weaver_locks.specs.Hands.{hand_number, seen_by, IsHand}
use Rattle.weaver_locks.specs.Locks.{start_of}
use Rattle.weaver_locks.proofs.Following.{made-gate, seen-gate}
use Rattle.weaver_hands.specs.Programs.{IsRunning}
use Rattle.weaver_hands.proofs.Alone.{none-at-gate}
use Rattle.weaver_hands.proofs.Running.{RunUntilFinished}

-- what is not refused for its reason is refused out of memory alone
pub memory-left : (A : Type 0) (fault : GateFault) (test : Bool) → test ≡ false → IsRefusedWhere {A = A} Idle test (Err fault) → fault ≡ Memory
memory-left A Memory test fails refused = refl
memory-left A Busy test fails refused = absurd (let other : Idle ≡ Busy = refused.0 in cc)
memory-left A Old test fails refused = absurd (let other : Idle ≡ Old = refused.0 in cc)
memory-left A Idle test fails refused = absurd (let clash : true ≡ false = sym refused.1 ∙ fails in cc)

-- a program that is running is not refused as one that isn't
pub never-idle : HandLaws → RunUntilFinished → (shared : Shared) (old new : Hand) → IsHand shared old → IsHand shared new → (running : Running) → IsRunning shared old running
    → (before : List GateEntry) → WasAtGate (length shared.shards.items) old new running.stamp.home before [] → (fault : GateFault)
    → IsRefusedWhere {A = Unit {0}} Idle (not (list_any (is_begun (hand_number old) running.request) (running_of before))) (Err fault) → fault ≡ Memory
never-idle hands law shared old new is_old is_new running runs before was fault refused =
    memory-left (Unit {0}) fault (not (list_any test (running_of before))) (ap not found) refused
  where
    home : ℕ
    home = running.stamp.home

    n : ℕ
    n = hand_number old

    test : BegunRequest → Bool
    test = is_begun n running.request

    begun : Contains (programs_of before) (record { author = n; request = running.request; stamp = running.stamp })
    begun =
        let from = flat_has (λ (e : GateEntry). program_by e.author e.deed) (entries_since (gate_log (start_of shared) home) (gate_log (seen_by old) home)) _ runs.begun in
        let there = drop_has (length (gate_log (start_of shared) home)) (gate_log (seen_by old) home) from.0 from.1 in
        has_flat (λ (e : GateEntry). program_by e.author e.deed) before from.0 _
        (has-on (gate_log (seen_by old) home) before was.found from.0 there) from.2

    unfinished : (entry : GateEntry) → Contains before entry → entry.author ≡ n → entry.deed ≢ Finished running.request
    unfinished entry h mine deed =
        let seen : Contains (gate_log (seen_by new) home) entry = subst (λ (l : List GateEntry). Contains l entry) (sym (was.left ∙ append-nil before)) h in
        let made = made-gate hands shared new is_new home entry seen (mine ∙ sym was.number) in
        let was_made = subst (λ (a : Account). Contains (gate_log a home) entry) (none-at-gate old new home before was).made made in
        let there = seen-gate hands shared old is_old home entry was_made in
        runs.unfinished entry there.0 there.1 deed

    found : list_any test (running_of before) ≡ true
    found = any_from test (running_of before) _ (law before n running.request running.stamp begun unfinished)
        (and_from (n == n) (running.request == running.request) (eq-eqb n n refl) (eq-eqb running.request running.request refl))
