-- What a hand made in each log is what has its number there, and what it began and judged since the start is what it
-- has gained.
-- Used by BegunHolds and BegunTurns.
use Rattle.std.proofs.Common.{◌≡◌, ℕ, ◌==◌, List, ◌++◌, refl, sym, ap, ◌∙◌}
use Rattle.std.specs.List.{filter}
use Rattle.weave_entries.specs.declared.gate_log.GateEntry.{GateEntry}
use Rattle.weave_entries.specs.declared.store_log.StoreEntry.{StoreEntry}
use Rattle.weave_entries.specs.GateReplay.{begun_in}
use Rattle.weave_entries.specs.StoreReplay.{judgements_of}
use Rattle.weave_account.specs.declared.account.Account.{Account}
use Rattle.weave_account.specs.Account.{gate_log}
use Rattle.seen_logs.specs.Seen.{entries_since, IsWithin}
use Rattle.hands_account.specs.Runs.{own_begun, own_judgements}
use Rattle.weaver_locks.specs.declared.hand.Hand.{Hand}
use Rattle.weaver_locks.specs.Hands.{hand_number, made_by, seen_by}
use Rattle.weaver_locks.proofs.EachLog.{row-at}
use Rattle.weaver_hands.specs.Transactions.{HasSeenOwn}
use Rattle.workers_account.proofs.OwnSince.{begun-by-author, judged-by-author, own-since}

-- in each log of a gatekeeper the hand made what has its number there
abbrev pub OwnGates : Hand → Type 0
OwnGates hand = (home : ℕ) → gate_log (made_by hand) home
    ≡ filter (λ (e : GateEntry). e.author == hand_number hand) (gate_log (seen_by hand) home)

-- this holds if what it made is what has its number in all that it has seen
pub own-gates : (hand : Hand) → HasSeenOwn hand → OwnGates hand
own-gates hand own home =
    ap (λ (a : Account). gate_log a home) own
    ∙ row-at (filter (λ (e : GateEntry). e.author == hand_number hand)) refl (seen_by hand).gates home

-- the entries that a hand made at the store are those of the log it has seen that have its number
pub own-store : (hand : Hand) → HasSeenOwn hand
    → (made_by hand).store ≡ filter (λ (e : StoreEntry). e.author == hand_number hand) (seen_by hand).store
own-store hand own = ap (λ (a : Account). a.store) own

-- Since the start

module _ (start : Account) (first hand : Hand) (start_is : seen_by first ≡ start) (first_own : HasSeenOwn first)
    (own : HasSeenOwn hand) (number_is : hand_number hand ≡ hand_number first)
    (more : IsWithin (seen_by first) (seen_by hand)) where
  -- what a hand began since it had seen the logs of the start is what the entries began that it has gained
  pub own-begun-is : (home : ℕ) (gained : List GateEntry)
      → gate_log (made_by hand) home ≡ gate_log (made_by first) home ++ gained
      → own_begun (hand_number hand) start (seen_by hand) home ≡ begun_in gained
  own-begun-is home gained gains =
      let number = hand_number hand in
      let on = more.gates home in
      begun-by-author number (entries_since (gate_log start home) (gate_log (seen_by hand) home))
      ∙ ap begun_in (own-since (λ (e : GateEntry). e.author == number) (gate_log start home) (gate_log (seen_by hand) home) on.0
      (gate_log (made_by first) home) (gate_log (made_by hand) home) gained
      (on.1 ∙ ap (λ (a : Account). gate_log a home ++ on.0) start_is)
      (own-gates first first_own home
      ∙ (λ i. filter (λ (e : GateEntry). e.author == sym number_is i) (gate_log (start_is i) home)))
      (own-gates hand own home) gains)

  -- what a hand judged since it had seen the logs of the start is what the entries judge that it has gained
  pub own-judgements-is : (gained : List StoreEntry) → (made_by hand).store ≡ (made_by first).store ++ gained
      → own_judgements (hand_number hand) start (seen_by hand) ≡ judgements_of gained
  own-judgements-is gained gains =
      let number = hand_number hand in
      judged-by-author number (entries_since start.store (seen_by hand).store)
      ∙ ap judgements_of (own-since (λ (e : StoreEntry). e.author == number) start.store (seen_by hand).store more.store.0
      (made_by first).store (made_by hand).store gained
      (more.store.1 ∙ ap (λ (a : Account). a.store ++ more.store.0) start_is)
      (own-store first first_own
      ∙ (λ i. filter (λ (e : StoreEntry). e.author == sym number_is i) (start_is i).store))
      (own-store hand own) gains)
