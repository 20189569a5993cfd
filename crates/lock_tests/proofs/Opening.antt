-- The hands that come with new locks are unused, and those who have them are players and workers.
-- Used by `new_locks`, `open`, `seat_of` and Seated.
use Rattle.std.proofs.Common.{eqb, filter, ◌≡◌, ℕ, ◌<◌, List, [], length, map, get_or, sym, ap, ◌∙◌, subst, arith, Contains}
use Rattle.std.proofs.lemmas.List.{get_or-map, length-map}
use Rattle.weave_data.proofs.Members.{has_none}
use Rattle.weave_entries.specs.declared.gate_log.GateEntry.{GateEntry}
use Rattle.weave_account.specs.declared.account.Account.{Account}
use Rattle.weave_account.specs.Account.{gate_log, reads_of}
use Rattle.lock_row.proofs.Lists.{one_of}
use Rattle.weaver_locks.specs.declared.hand.Hand.{Hand}
use Rattle.weaver_locks.specs.declared.shared.Shared.{Shared}
use Rattle.weaver_locks.specs.Hands.{hand_number, made_by, seen_by, IsHand}
use Rattle.weaver_locks.proofs.EachLog.{own-gate, none-begun}
use Rattle.lock_tests.proofs.Options.{nothing-there}
use Rattle.lock_tests.specs.UnusedHands.{AreUnusedHands, IsUnusedHand}
use Rattle.lock_tests.specs.OwnRequests.{OwnRequestLaws}
use Rattle.lock_tests.specs.ReadyWorkers.{AreWorkers, IsNumbered, IsWorkerOf, worker_of}
use Rattle.lock_tests.specs.Workers.{ArePlayers, IsNumberedPlayer, IsWorker, player_of}

-- hands with the numbers from 0 that have all seen the same, and no entry at gatekeepers and no read, are unused
pub unused-hands : (shared : Shared) (hands : List Hand) (count : ℕ) (account : Account) → length hands ≡ count
    → ((home : ℕ) → gate_log account home ≡ []) → ((request : ℕ) → reads_of account request ≡ [])
    → ((k : ℕ) (h : Hand) → k < count → IsHand shared (get_or hands k h) × (hand_number (get_or hands k h) ≡ k) × (seen_by (get_or hands k h) ≡ account))
    → AreUnusedHands shared hands
unused-hands shared hands count account long no_entry no_read each k h low =
    let one = each k h (omega (arith, low, long)) in record {
      is_hand = one.0;
      number_is = one.1;
      no_entry = λ home. ap (λ (a : Account). gate_log a home) one.2 ∙ no_entry home;
      no_read = λ request. ap (λ (a : Account). reads_of a request) one.2 ∙ no_read request;
    }

-- what holds of the owner of each unused hand holds of all owners, place by place
each-owner : {A : Type 0} (P : ℕ → A → Type 0) (owner : Hand → A) (shared : Shared) (hands : List Hand) → AreUnusedHands shared hands
    → ((k : ℕ) (h : Hand) → IsUnusedHand shared k h → P k (owner h))
    → (k : ℕ) (x : A) → k < length (map owner hands) → P k (get_or (map owner hands) k x)
each-owner P owner shared hands are one k x low =
    let there : k < length hands = omega (arith, low, length-map hands owner) in
    let d = one_of hands k there in
    subst (P k) (sym (get_or-map owner hands k d x there)) (one k (get_or hands k d) (are k d there))

module _ (shared : Shared) (number : ℕ) (hand : Hand) (is : IsUnusedHand shared number hand) where
  -- it has made no entry at gatekeepers
  pub made-none : (home : ℕ) → gate_log (made_by hand) home ≡ []
  made-none home = own-gate shared hand is.is_hand home
      ∙ ap (filter (λ (entry : GateEntry). eqb entry.author (hand_number hand))) (is.no_entry home)

  nothing-made : (home : ℕ) (entry : GateEntry) → Contains (gate_log (made_by hand) home) entry → ⊥
  nothing-made home entry h = has_none entry (subst (λ (l : List GateEntry). Contains l entry) (made-none home) h)

  player-worker : IsWorker shared (player_of hand).worker
  player-worker = record {
    hand = is.is_hand;
    begun = λ r low home begun h. absurd (none-begun hand made-none home begun h);
    finished = λ r low home entry h. absurd (nothing-made home entry h);
    last = nothing-there _;
    said = nothing-there _;
    walk = nothing-there _;
    ended = nothing-there _;
  }

  -- its player is ready
  pub new-player : IsNumberedPlayer shared number (player_of hand)
  new-player = record { is = record { worker = player-worker; step = tt }; number_is = is.number_is }

  -- its worker is ready
  pub ready-worker : OwnRequestLaws → IsWorkerOf shared hand 0 (worker_of hand).last (worker_of hand).walk
  ready-worker laws = record {
    is_hand = is.is_hand;
    fresh = λ r low home begun h. absurd (none-begun hand made-none home begun h);
    unread = λ r low. laws.nothing_read hand r (is.no_read r);
    heard = nothing-there _;
    running = nothing-there _;
    below = nothing-there _;
  }

  new-worker : OwnRequestLaws → IsNumbered shared number (worker_of hand)
  new-worker laws = record { ready = ready-worker laws; number_is = is.number_is }

-- the players of unused hands are ready
pub new-players : (shared : Shared) (hands : List Hand) → AreUnusedHands shared hands → ArePlayers shared (map player_of hands)
new-players shared hands are = each-owner (IsNumberedPlayer shared) player_of shared hands are (λ k h is. new-player shared k h is)

-- the workers of unused hands are ready
pub new-workers : OwnRequestLaws → (shared : Shared) (hands : List Hand) → AreUnusedHands shared hands → AreWorkers shared (map worker_of hands)
new-workers laws shared hands are =
    each-owner (IsNumbered shared) worker_of shared hands are (λ k h is. new-worker shared k h is laws)
