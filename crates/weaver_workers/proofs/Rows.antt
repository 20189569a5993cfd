-- Logs of gatekeepers of which one goes on, once or twice.
-- Used by Answered, Kept, Transacted and crate workers_account.
use Rattle.std.proofs.Common.{◌≡◌, ◌≢◌, ℕ, ◌<◌, List, [], ◌++◌, length, map, get_or, ◌∙◌, subst}
use Rattle.std.proofs.lemmas.List.{get_or-set_other, get_or-set_same, length-map, length-set}
use Rattle.std.proofs.lemmas.Option.{get_or_from_slice_get, slice_get_within}
use Rattle.std.specs.Prelude.{AllPairs, Some, slice_get}
use Rattle.weave_entries.specs.declared.gate_log.GateDeed.{GateDeed}
use Rattle.weave_entries.specs.declared.gate_log.GateEntry.{GateEntry}
use Rattle.weave_account.specs.declared.account.Account.{Account}
use Rattle.weave_account.specs.Account.{gate_log}
use Rattle.chronicle.specs.declared.pass.Pass.{Pass}
use Rattle.chronicle.specs.Passes.{own_entries}
use Rattle.weaver_locks.specs.declared.hand.Hand.{Hand}
use Rattle.weaver_locks.specs.declared.shared.Shared.{Shared}
use Rattle.weaver_locks.specs.Hands.{made_by, with_gate_entries, IsHand}
use Rattle.weaver_locks.specs.Locks.{gate_count}

-- a hand has a log of its own for each gatekeeper
pub own-logs : (shared : Shared) (hand : Hand) → IsHand shared hand → length (made_by hand).gates ≡ gate_count shared
own-logs shared hand is = length-map (map (λ (p : Pass GateDeed). own_entries p) hand.gates.items) _ ∙ length-map hand.gates.items (λ (p : Pass GateDeed). own_entries p) ∙ is.gates

-- the log that goes on
pub gone-on : (account : Account) (gate : ℕ) (added : List GateEntry) → gate < length account.gates
    → gate_log (with_gate_entries gate added account) gate ≡ gate_log account gate ++ added
gone-on account gate added low = get_or-set_same account.gates gate (gate_log account gate ++ added) [] low

-- the logs of the other gatekeepers stay when entries are added to one
pub still : (account : Account) (gate home : ℕ) (added : List GateEntry) → home ≢ gate
    → gate_log (with_gate_entries gate added account) home ≡ gate_log account home
still account gate home added other = get_or-set_other account.gates gate home (gate_log account gate ++ added) [] other

-- the number of gatekeepers' logs is as before
pub as-many : (account : Account) (gate : ℕ) (added : List GateEntry)
    → length (with_gate_entries gate added account).gates ≡ length account.gates
as-many account gate added = length-set account.gates gate (gate_log account gate ++ added)

-- of rising numbers a later one is greater
pub greater : (xs : List ℕ) (i j a b : ℕ) → AllPairs (λ (a b : ℕ). a < b) xs → slice_get xs i ≡ Some a → slice_get xs j ≡ Some b
    → i < j → a < b
greater xs i j a b rises at_i at_j low =
    let pair = rises i j 0 low (slice_get_within xs j b at_j) in
    subst (λ (x : ℕ). x < b) (get_or_from_slice_get xs i a 0 at_i)
    (subst (λ (y : ℕ). get_or xs i 0 < y) (get_or_from_slice_get xs j b 0 at_j) pair)
