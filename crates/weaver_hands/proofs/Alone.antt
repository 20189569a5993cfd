-- What a hold leaves alone: each request for which it made no visit, and which it did not finish.
-- Used by `bring`, `finish`, `programs_left_alone_go_on`, `say_and_hear`, `transact`, `visit`, Calls, OwnVisits and
-- Refusals.
use Rattle.std.proofs.Common.{◌≡◌, ◌≢◌, inl, inr, ℕ, ◌==◌, List, [], ◌++◌, Contains, ap, ◌∙◌, subst}
use Rattle.std.specs.Prelude.{filter}
use Rattle.std.proofs.lemmas.List.{append-nil}
use Rattle.std.proofs.lemmas.List.Concat.{flat_map-append}
use Rattle.std.proofs.lemmas.List.Elements.{filter-append}
use Rattle.weave_data.proofs.RowsSet.{set-none, set-has}
use Rattle.weave_entries.specs.declared.gate_log.GateEntry.{GateEntry}
use Rattle.weave_entries.specs.declared.gate_log.GateDeed.TheVariants.{Finished}
use Rattle.weave_entries.specs.declared.oracle_log.OracleEntry.{OracleEntry}
use Rattle.weave_entries.specs.declared.shard_log.ShardEntry.{ShardEntry}
use Rattle.weave_entries.specs.declared.store_log.StoreEntry.{StoreEntry}
use Rattle.weave_entries.specs.ShardReplay.{Visit, visit_by, visits_of}
use Rattle.weave_account.specs.declared.account.Account.{Account}
use Rattle.weave_account.specs.Account.{gate_log, shard_log}
use Rattle.weave_account.specs.GoesOn.{visits_by}
use Rattle.seen_logs.specs.Seen.{IsWithin}
use Rattle.weaver_locks.specs.declared.hand.Hand.{Hand}
use Rattle.weaver_locks.specs.GateHolds.{WasAtGate}
use Rattle.weaver_locks.specs.Hands.{made_by, seen_by, with_gate_entries, with_shard_entries, with_store_entries}
use Rattle.weaver_locks.specs.ShardHolds.{WasAtShard}
use Rattle.weaver_locks.specs.StoreHolds.{WasAtStore}
use Rattle.weaver_hands.specs.Leaving.{LeavesAlone, MadeNone, MakesNoVisit}
use Rattle.weaver_hands.proofs.Sets.{set-alike}

-- Holds without an entry

no-gate-entry : (gate : ℕ) (account : Account) → with_gate_entries gate [] account ≡ account
no-gate-entry gate account = λ i. record account { gates = set-none account.gates gate i }

no-shard-entry : (shard : ℕ) (account : Account) → with_shard_entries shard [] [] account ≡ account
no-shard-entry shard account = λ i. record account { oracle = append-nil account.oracle i; shards = set-none account.shards shard i }

no-store-entry : (account : Account) → with_store_entries [] [] account ≡ account
no-store-entry account = λ i. record account { store = append-nil account.store i; oracle = append-nil account.oracle i }

-- in a hold of a gatekeeper without an entry the hand made none
pub none-at-gate : {shards : ℕ} (old new : Hand) (gate : ℕ) (before : List GateEntry) → WasAtGate shards old new gate before [] → MadeNone old new
none-at-gate old new gate before was =
    record { number = was.number; made = was.made ∙ no-gate-entry gate (made_by old); more = was.more }

-- in a hold of a shard without an entry the hand made none
pub none-at-shard : {shards : ℕ} (old new : Hand) (shard : ℕ) (before : List ShardEntry) → WasAtShard shards old new shard before [] [] → MadeNone old new
none-at-shard old new shard before was =
    record { number = was.number; made = was.made ∙ no-shard-entry shard (made_by old); more = was.more }

-- in a hold of the store without an entry the hand made none
pub none-at-store : (old new : Hand) (before : List StoreEntry) (settled : List OracleEntry) → WasAtStore old new before [] settled [] → MadeNone old new
none-at-store old new before settled was =
    record { number = was.number; made = was.made ∙ no-store-entry (made_by old); more = was.more }

-- what is within, and what is within that
abbrev pub Later : Type 0
Later = (seen next last : Account) → IsWithin seen next → IsWithin next last → IsWithin seen last

-- a hand that made no entry, and then none again, made none in all
pub none-then-none : Later → (old next new : Hand) → MadeNone old next → MadeNone next new → MadeNone old new
none-then-none later old next new first last = record {
  number = last.number ∙ first.number;
  made = last.made ∙ first.made;
  more = later (seen_by old) (seen_by next) (seen_by new) first.more last.more;
}

-- Left alone

module _ (old new : Hand) (r : ℕ) where
  -- a hand that made no entry made no visit for the request
  pub unvisited-if-none : MadeNone old new → MakesNoVisit old new r
  unvisited-if-none none = record {
    number = none.number;
    more = none.more;
    visits = λ shard. ap (λ (a : Account). visits_by r (shard_log a shard)) none.made;
  }

  -- a hand that made no entry left the request alone
  pub alone-if-none : MadeNone old new → LeavesAlone old new r
  alone-if-none none = record {
    unvisited = unvisited-if-none none;
    finished = λ home entry h is. subst (λ (a : Account). Contains (gate_log a home) entry) none.made h;
  }

  -- a hold of a gatekeeper makes no visit for any request
  pub unvisited-at-gate : {shards : ℕ} (gate : ℕ) (before added : List GateEntry) → WasAtGate shards old new gate before added
      → MakesNoVisit old new r
  unvisited-at-gate gate before added was = record {
    number = was.number;
    more = was.more;
    visits = λ shard. ap (λ (a : Account). visits_by r (shard_log a shard)) was.made;
  }

  -- a hold of a gatekeeper in which the request was not finished
  pub alone-at-gate : {shards : ℕ} (gate : ℕ) (before added : List GateEntry) → WasAtGate shards old new gate before added
      → ((entry : GateEntry) → Contains added entry → entry.deed ≢ Finished r) → LeavesAlone old new r
  alone-at-gate gate before added was none = record {
    unvisited = unvisited-at-gate gate before added was;
    finished = λ home entry h is.
        elim (set-has (made_by old).gates gate home added entry (subst (λ (a : Account). Contains (gate_log a home) entry) was.made h)) [
          | inl there ↦ there
          | inr new_one ↦ absurd (none entry new_one is)
        ];
  }

  -- a hold of the store leaves each request alone
  pub alone-at-store : (before added : List StoreEntry) (settled asked : List OracleEntry) → WasAtStore old new before added settled asked
      → LeavesAlone old new r
  alone-at-store before added settled asked was = record {
    unvisited = record {
      number = was.number;
      more = was.more;
      visits = λ shard. ap (λ (a : Account). visits_by r (shard_log a shard)) was.made;
    };
    finished = λ home entry h is. subst (λ (a : Account). Contains (gate_log a home) entry) was.made h;
  }

  -- a hold of a shard in which no visit was made for the request
  pub alone-at-shard : {shards : ℕ} (shard : ℕ) (before added : List ShardEntry) (asked : List OracleEntry)
      → WasAtShard shards old new shard before added asked → visits_by r added ≡ [] → LeavesAlone old new r
  alone-at-shard shard before added asked was none = record {
    unvisited = record {
      number = was.number;
      more = was.more;
      visits = λ k. ap (λ (a : Account). visits_by r (shard_log a k)) was.made
          ∙ set-alike (visits_by r) (made_by old).shards shard added (λ log. visits-still log added none) k;
    };
    finished = λ home entry h is. subst (λ (a : Account). Contains (gate_log a home) entry) was.made h;
  }
    where
      visits-still : (log added : List ShardEntry) → visits_by r added ≡ [] → visits_by r (log ++ added) ≡ visits_by r log
      visits-still log added none =
          ap (filter (λ (visit : Visit). visit.request == r)) (flat_map-append (λ (e : ShardEntry). visit_by e.author e.deed) log added)
          ∙ filter-append (λ (visit : Visit). visit.request == r) (visits_of log) (visits_of added)
          ∙ ap (λ l. visits_by r log ++ l) none
          ∙ append-nil (visits_by r log)

-- a hand that made no visit for a request, and then none again, made none in all
pub unvisited-later : Later → (old next new : Hand) (r : ℕ) → MakesNoVisit old next r → MakesNoVisit next new r → MakesNoVisit old new r
unvisited-later later old next new r first last = record {
  number = last.number ∙ first.number;
  more = later (seen_by old) (seen_by next) (seen_by new) first.more last.more;
  visits = λ shard. last.visits shard ∙ first.visits shard;
}

-- a hand that left a request alone, and then again, left it alone in all
pub alone-later : Later → (old next new : Hand) (r : ℕ) → LeavesAlone old next r → LeavesAlone next new r → LeavesAlone old new r
alone-later later old next new r first last = record {
  unvisited = unvisited-later later old next new r first.unvisited last.unvisited;
  finished = λ home entry h is. first.finished home entry (last.finished home entry h is) is;
}
