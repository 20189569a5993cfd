-- The law of the crates below that begins in turn rely on. No public contract cites this.
use Rattle.std.specs.Prelude.{◌≡◌, ◌==◌, ℕ}
use Rattle.std.specs.List.{filter}
use Rattle.weave_entries.specs.declared.gate_log.GateEntry.{GateEntry}
use Rattle.weave_account.specs.Account.{gate_log}
use Rattle.weaver_locks.specs.declared.hand.Hand.{Hand}
use Rattle.weaver_locks.specs.declared.shared.Shared.{Shared}
use Rattle.weaver_locks.specs.Hands.{hand_number, made_by, seen_by, IsHand}

-- in each log of a gatekeeper a hand made just the entries with its number that it has seen there
pub record TurnLaws : Type 0 where
  pub own : (shared : Shared) (hand : Hand) → IsHand shared hand → (home : ℕ) → gate_log (made_by hand) home
      ≡ filter (λ (entry : GateEntry). entry.author == hand_number hand) (gate_log (seen_by hand) home)
