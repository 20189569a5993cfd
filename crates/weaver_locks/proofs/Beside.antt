-- Logs beside the one that a hand was in: it added nothing to those of gatekeepers, and to the oracle's what it asked
-- for.
-- Used by `visit`, Running, ShardArrived, ShardAsked, ShardLeft, ShardVisited, StoreLeft and StoreNew.
use Rattle.std.proofs.Common.{◌≡◌, ℕ, ◌≤◌, List, [], ◌∷◌, ◌++◌, length, map, get_or, Contains, refl, sym, ap, ◌∙◌, subst}
use Rattle.weave_entries.specs.declared.gate_log.GateDeed.{GateDeed}
use Rattle.weave_entries.specs.declared.gate_log.GateEntry.{GateEntry}
use Rattle.weave_entries.specs.declared.oracle_log.OracleDeed.{OracleDeed}
use Rattle.weave_entries.specs.declared.oracle_log.OracleEntry.{OracleEntry}
use Rattle.weave_account.specs.declared.account.Account.{Account}
use Rattle.weave_account.specs.Account.{gate_log}
use Rattle.weave_account.specs.GoesOn.{IsBeginningOf}
use Rattle.seen_logs.specs.Entries.{gate_entries, gate_entry, gate_pair, oracle_entries, oracle_entry, oracle_pair, oracle_pairs}
use Rattle.seen_logs.specs.Seen.{GatesGoOn, IsOwn}
use Rattle.chronicle.specs.Logs.{Log, entries_of}
use Rattle.chronicle.specs.Passes.{own_entries, seen_by_pass}
use Rattle.oracle_lock.specs.Seen.{gates_seen}
use Rattle.oracle_lock.proofs.Settling.{pairs_back}
use Rattle.weaver_locks.specs.declared.hand.Hand.{Hand}
use Rattle.weaver_locks.specs.declared.shared.Shared.{Shared}
use Rattle.weaver_locks.specs.Going.{AddsToOracle, AllGoOn}
use Rattle.weaver_locks.specs.Hands.{hand_number, IsHand, seen_by}
use Rattle.weaver_locks.specs.HoldLaws.{HoldLaws}
use Rattle.weaver_locks.proofs.Logged.{beyond, none_past, own_adds, past_before, records_on}
use Rattle.weaver_locks.proofs.Rows.{row_entries, row_own, row_seen}
use Rattle.weaver_locks.proofs.Seeing.{begins_longer, gate_at, gates_named, mapped_more}

module _ (shared : Shared) (old new : Hand) (hand : IsHand shared old) (all : AllGoOn shared.gates.items old.gates.items new.gates.items) where
  abbrev n : ℕ
  n = hand_number old

  abbrev was : Account
  was = seen_by old

  abbrev next : Account
  next = seen_by new

  gate_more : (home : ℕ) → IsBeginningOf (get_or (map seen_by_pass old.gates.items) home []) (get_or (map seen_by_pass new.gates.items) home [])
  gate_more = row_seen shared.gates.items old.gates.items new.gates.items all hand.gates

  -- what the hand had seen of each gatekeeper's log begins what it has seen now
  pub gates_on : GatesGoOn was next
  gates_on home = subst (λ (z : List GateEntry × List GateEntry). IsBeginningOf z.0 z.1) (λ i. (sym (gate_at old home) i, sym (gate_at new home) i))
      (mapped_more gate_entry _ _ (gate_more home))

  -- no entry of a gatekeeper's log past what the hand had seen is its own
  pub no_gate_entry : HoldLaws → (home : ℕ) (cut after : List GateEntry) (e : GateEntry) → gate_log next home ≡ cut ++ e ∷ after
      → IsOwn n (gate_log was home) cut e.author → ⊥
  no_gate_entry laws home cut after e at mine =
      let more = gate_more home in
      let had = get_or (map seen_by_pass old.gates.items) home [] in
      let log = get_or (map seen_by_pass new.gates.items) home [] in
      let past : length (gate_entries had) ≤ length cut = subst (λ (l : List GateEntry). length l ≤ length cut) (gate_at old home) mine.1 in
      none_past gate_entry gate_pair (λ x. refl) laws.hand.gate_places n had log (more.0, sym more.1)
      (row_entries shared.gates.items old.gates.items new.gates.items all hand.gates n hand.gate_numbers home)
      cut after e (sym (gate_at new home) ∙ at) mine.0 past

  -- the gatekeepers' logs that the hand has seen now are those that its passes have seen
  pub named : next.gates ≡ gates_seen new.gates.items
  named = gates_named new.gates.items

  -- the hand's own entries in gatekeepers' logs are those that it had there
  pub gates_made : map gate_entries (map own_entries new.gates.items) ≡ map gate_entries (map own_entries old.gates.items)
  gates_made = ap (λ (l : List (Log GateDeed)). map gate_entries l) (row_own shared.gates.items old.gates.items new.gates.items all hand.gates)

module _ (shared : Shared) (old new : Hand) (hand : IsHand shared old) (settled asked : List OracleEntry)
    (adds : AddsToOracle shared old new.oracle settled asked) where
  abbrev number : ℕ
  number = hand_number old

  abbrev sooner : Account
  sooner = seen_by old

  abbrev later : Account
  later = seen_by new

  -- the hand has seen the oracle's log as it was in the hold, and then what it asked for there
  pub oracle_left : later.oracle ≡ settled ++ asked
  oracle_left = ap oracle_entries adds.left ∙ pairs_back (settled ++ asked)

  -- what the hand had seen of the oracle's log begins what it has seen now
  pub oracle_on : IsBeginningOf sooner.oracle later.oracle
  oracle_on = subst (λ (l : List OracleEntry). IsBeginningOf sooner.oracle l) (sym oracle_left)
      (begins_longer sooner.oracle settled asked (subst (λ (l : List OracleEntry). IsBeginningOf sooner.oracle l) (pairs_back settled)
      (records_on oracle_entry oracle_pair (λ x. refl) (seen_by_pass old.oracle) (oracle_pairs settled) adds.found)))

  -- an entry of the hand's in the oracle's log past what it had seen is one that it asked for
  pub oracle_added : HoldLaws → (cut after : List OracleEntry) (e : OracleEntry) → later.oracle ≡ cut ++ e ∷ after → IsOwn number sooner.oracle cut e.author
      → Contains asked e
  oracle_added laws cut after e at mine =
      let is = sym oracle_left ∙ at in
      beyond settled asked cut after e is
      (past_before oracle_entry oracle_pair (λ x. refl) laws.hand.oracle_places number (seen_by_pass old.oracle) settled asked adds.found
      (adds.own_is ∙ ap (λ (m : ℕ). entries_of m (seen_by_pass old.oracle)) hand.oracle_number) cut after e is mine.0 mine.1)

  -- what the hand had seen of the oracle's log begins the log as it was in the hold
  pub oracle_found : IsBeginningOf sooner.oracle settled
  oracle_found = subst (λ (l : List OracleEntry). IsBeginningOf sooner.oracle l) (pairs_back settled)
      (records_on oracle_entry oracle_pair (λ x. refl) (seen_by_pass old.oracle) (oracle_pairs settled) adds.found)

  -- the hand's own entries in the oracle's log are those that it had there, and then what it asked for
  pub oracle_made : oracle_entries (own_entries new.oracle) ≡ oracle_entries (own_entries old.oracle) ++ asked
  oracle_made = ap (λ (m : ℕ). oracle_entries (entries_of m (seen_by_pass new.oracle))) adds.number
      ∙ (ap (λ (l : Log OracleDeed). oracle_entries (entries_of number l)) adds.left
      ∙ own_adds oracle_entry oracle_pair (λ x. refl) (λ x. refl) number settled asked (own_entries old.oracle) adds.own_is adds.by)
