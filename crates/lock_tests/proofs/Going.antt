-- What a worker keeps stays true in its hand's next hold.
-- Used by `apply`, `arrive`, `begin_program`, `begin_tx`, `commit`, `fetch`, `finish`, `hear`, `nop`, `say`, `send`
-- and `visit`.
use Rattle.std.proofs.Common.{◌≡◌, ◌≢◌, ℕ, suc, ◌+◌, ◌<◌, ◌≤◌, List, [], ◌∷◌, length, Contains, inl, inr, refl, sym, ap, subst, arith}
use Rattle.std.specs.Prelude.{None, Some, Result}
use Rattle.weave_data.proofs.Members.{has_head, has_flat}
use Rattle.vector_stamp.specs.declared.clock.Clock.{Clock}
use Rattle.vector_stamp.specs.declared.clock.Stamp.{Stamp}
use Rattle.weave_entries.specs.declared.gate_log.GateDeed.TheVariants.{BeganTx, BeganProgram, Heard, Finished}
use Rattle.weave_entries.specs.declared.gate_log.GateEntry.{GateEntry}
use Rattle.weave_entries.specs.GateReplay.{BegunRequest, program_by, programs_of, running_of}
use Rattle.weave_entries.specs.declared.oracle_log.OracleEntry.{OracleEntry}
use Rattle.weave_entries.specs.declared.shard_log.ShardEntry.{ShardEntry}
use Rattle.weave_entries.specs.declared.store_log.StoreEntry.{StoreEntry}
use Rattle.weave_account.specs.declared.account.Account.{Account}
use Rattle.weave_account.specs.Account.{gate_log}
use Rattle.weave_account.specs.Clocks.{IsKnown}
use Rattle.weave_account.proofs.GoesOn.{has-on, flat-on}
use Rattle.seen_logs.specs.References.{EndsAsSeen}
use Rattle.seen_logs.specs.Seen.{IsWithin}
use Rattle.weaver_locks.specs.declared.hand.Hand.{Hand}
use Rattle.weaver_locks.specs.declared.shared.Shared.{Shared}
use Rattle.weaver_locks.specs.GateHolds.{gate_entries_of, gate_entry_by, WasAtGate}
use Rattle.weaver_locks.specs.Hands.{hand_number, seen_by, IsHand}
use Rattle.weaver_locks.specs.ShardHolds.{WasAtShard}
use Rattle.weaver_locks.specs.StoreHolds.{WasAtStore}
use Rattle.lock_tests.specs.declared.worker.Walk.{Walk}
use Rattle.lock_tests.specs.declared.worker.Worker.{Worker}
use Rattle.lock_tests.proofs.Options.{for-some, just, nothing-there}
use Rattle.lock_tests.specs.Going.{WorkersLaws}
use Rattle.lock_tests.specs.Workers.{IsWorker, MadeBut, MayVisit}
use Rattle.lock_tests.proofs.Made.{BeginBelow, Quiet, finish-below, made-elsewhere, made-gate, made-there, one-unfinished, begins-unfinished, finish-unfinished, quiet-unfinished, still-unfinished, FinishBelow, program-below, quiet-below, still-new, tx-below}

-- a hand went on: it has seen more, and made these entries at gatekeepers
pub record WentOn (shared : Shared) (old new : Hand) (added : List GateEntry) : Type 0 where
  pub is_new : IsHand shared new
  pub number : hand_number new ≡ hand_number old
  pub more : IsWithin (seen_by old) (seen_by new)
  pub made : MadeBut old new added

module _ (laws : WorkersLaws) (shared : Shared) (old new : Hand) (added : List GateEntry) (on : WentOn shared old new added) where
  -- a clock that is known by what the hand had seen is known by what it has seen now
  pub known-on : (clock : Clock) → IsKnown (seen_by old) clock → IsKnown (seen_by new) clock
  known-on clock known = laws.refers (length shared.gates.items) (length shared.shards.items) (seen_by old) (seen_by new)
      on.more.gates on.more.store on.more.shards on.is_new.legal.shard_logs [] 0 (Heard clock) known

  -- a program that had read all that it reads, by what the hand had seen, has done so by what it has seen now
  pub ends-on : (r : ℕ) → EndsAsSeen (seen_by old) r → EndsAsSeen (seen_by new) r
  ends-on r ends = laws.refers (length shared.gates.items) (length shared.shards.items) (seen_by old) (seen_by new)
      on.more.gates on.more.store on.more.shards on.is_new.legal.shard_logs [] 0 (Finished r) ends

  -- a program of the hand that was begun and not finished is so still, if no added entry finishes it
  pub visit-on : (home r : ℕ) (stamp : Stamp) → MayVisit old home r stamp
      → ((entry : GateEntry) → Contains added entry → entry.deed ≢ Finished r) → MayVisit new home r stamp
  visit-on home r stamp may none =
      let log = gate_log (seen_by old) home in
      let b : BegunRequest = record { author = hand_number old; request = r; stamp = stamp } in
      let there = has-on (programs_of log) (programs_of (gate_log (seen_by new) home))
      (flat-on (λ (e : GateEntry). program_by e.author e.deed) log (gate_log (seen_by new) home) (on.more.gates home)) b may.begun in
      record {
        begun = subst (λ n. Contains (programs_of (gate_log (seen_by new) home)) (record { author = n; request = r; stamp = stamp }))
            (sym on.number) there;
        goes_on = λ entry h. elim (on.made home entry h) [ inl was ↦ may.goes_on entry was | inr one ↦ none entry one ];
      }

  -- nothing changed but the hand
  pub only-hand : (worker : Worker) → worker.hand ≡ old → IsWorker shared worker → Quiet added
      → IsWorker shared (record worker { hand = new })
  only-hand worker same is quiet =
      let had : IsWorker shared (record worker { hand = old }) = subst (λ (h : Hand). IsWorker shared (record worker { hand = h })) same is in record {
        hand = on.is_new;
        begun = still-new old new added on.made worker.next worker.next (omega arith) (quiet-below worker.next added quiet) had.begun;
        finished = still-unfinished old new added on.made worker.next worker.next (omega arith) (quiet-unfinished worker.next added quiet) had.finished;
        last = for-some _ _ worker.last (λ stamp. known-on stamp.clock) had.last;
        said = for-some _ _ worker.said known-on had.said;
        walk = for-some _ _ worker.walk (λ walk may. visit-on walk.home walk.request walk.stamp may (λ entry h. (quiet entry h).finishes_none walk.request)) had.walk;
        ended = for-some _ _ worker.ended ends-on had.ended;
      }

  -- a worker whose hand began a transaction is still a worker, with this transaction's stamp as its last
  pub tx-begun : (worker : Worker) → worker.hand ≡ old → IsWorker shared worker → (r n : ℕ) (stamp : Stamp) → n ≡ r → worker.next ≤ r
      → added ≡ gate_entry_by old (BeganTx r stamp) ∷ [] → IsKnown (seen_by new) stamp.clock
      → IsWorker shared (record worker { hand = new; next = n + 1; last = Some stamp })
  tx-begun worker same is r n stamp n_is low one known =
      let had : IsWorker shared (record worker { hand = old }) = subst (λ (h : Hand). IsWorker shared (record worker { hand = h })) same is in
      let below : BeginBelow (r + 1) added = subst (BeginBelow (r + 1)) (sym one) (subst (λ n. BeginBelow n (gate_entry_by old (BeganTx r stamp) ∷ [])) (let n : suc r ≡ r + 1 = omega arith in n) (tx-below old r stamp)) in
      let open_still : (w : ℕ) (entry : GateEntry) → Contains added entry → entry.deed ≢ Finished w =
      λ w entry h. one-unfinished old (BeganTx r stamp) refl w entry (subst (λ l. Contains l entry) one h) in
      subst (λ (k : ℕ). IsWorker shared (record worker { hand = new; next = k + 1; last = Some stamp })) (sym n_is) record {
        hand = on.is_new;
        begun = still-new old new added on.made worker.next (r + 1) (omega (arith, low)) below had.begun;
        finished = still-unfinished old new added on.made worker.next (r + 1) (omega (arith, low))
            (subst (FinishBelow (r + 1)) (sym one) (begins-unfinished old (BeganTx r stamp) refl (r + 1))) had.finished;
        last = just (λ s. IsKnown (seen_by new) s.clock) stamp known;
        said = for-some _ _ worker.said known-on had.said;
        walk = for-some _ _ worker.walk (λ walk may. visit-on walk.home walk.request walk.stamp may (open_still walk.request)) had.walk;
        ended = for-some _ _ worker.ended ends-on had.ended;
      }

  -- a worker whose hand began a program is still a worker, with a walk of this program
  pub program-begun : (worker : Worker) → worker.hand ≡ old → IsWorker shared worker → (walk : Walk) (n : ℕ) → n ≡ walk.request → worker.next ≤ walk.request
      → added ≡ gate_entry_by old (BeganProgram walk.request walk.stamp) ∷ []
      → Contains (gate_log (seen_by new) walk.home) (gate_entry_by old (BeganProgram walk.request walk.stamp))
      → IsKnown (seen_by new) walk.stamp.clock
      → IsWorker shared (record worker { hand = new; next = n + 1; last = Some walk.stamp; walk = Some walk })
  program-begun worker same is walk n n_is low one there known =
      let r = walk.request in
      let had : IsWorker shared (record worker { hand = old }) = subst (λ (h : Hand). IsWorker shared (record worker { hand = h })) same is in
      let below : BeginBelow (r + 1) added = subst (BeginBelow (r + 1)) (sym one) (subst (λ n. BeginBelow n (gate_entry_by old (BeganProgram r walk.stamp) ∷ [])) (let n : suc r ≡ r + 1 = omega arith in n) (program-below old r walk.stamp)) in
      subst (λ (k : ℕ). IsWorker shared (record worker { hand = new; next = k + 1; last = Some walk.stamp; walk = Some walk })) (sym n_is) record {
        hand = on.is_new;
        begun = still-new old new added on.made worker.next (r + 1) (omega (arith, low)) below had.begun;
        finished = still-unfinished old new added on.made worker.next (r + 1) (omega (arith, low))
            (subst (FinishBelow (r + 1)) (sym one) (begins-unfinished old (BeganProgram r walk.stamp) refl (r + 1))) had.finished;
        last = just (λ s. IsKnown (seen_by new) s.clock) walk.stamp known;
        said = for-some _ _ worker.said known-on had.said;
        walk = just (λ w. MayVisit new w.home w.request w.stamp) walk (record {
          begun = subst (λ n. Contains (programs_of (gate_log (seen_by new) walk.home)) (record { author = n; request = r; stamp = walk.stamp }))
              (sym on.number)
              (has_flat (λ (e : GateEntry). program_by e.author e.deed) (gate_log (seen_by new) walk.home)
              (gate_entry_by old (BeganProgram r walk.stamp)) (record { author = hand_number old; request = r; stamp = walk.stamp }) there
              (has_head (record { author = hand_number old; request = r; stamp = walk.stamp }) []));
          goes_on = λ entry h. elim (on.made walk.home entry h) [
            | inl was ↦ had.finished r low walk.home entry was
            | inr new_one ↦ one-unfinished old (BeganProgram r walk.stamp) refl r entry (subst (λ l. Contains l entry) one new_one)
          ];
        });
        ended = for-some _ _ worker.ended ends-on had.ended;
      }

  -- a worker that finished a request below its next, or was refused, is still a worker, without a walk
  pub finish-tried : {A F : Type 0} (worker : Worker) → worker.hand ≡ old → IsWorker shared worker → (r : ℕ) (result : Result A F) → r < worker.next
      → added ≡ gate_entries_of old (λ (answer : A). Finished r) result → IsWorker shared (record worker { hand = new; walk = None })
  finish-tried {A} {F} worker same is r result low one =
      let had : IsWorker shared (record worker { hand = old }) = subst (λ (h : Hand). IsWorker shared (record worker { hand = h })) same is in record {
        hand = on.is_new;
        begun = still-new old new added on.made worker.next worker.next (omega arith)
            (subst (BeginBelow worker.next) (sym one) (finish-below old r worker.next result)) had.begun;
        finished = still-unfinished old new added on.made worker.next worker.next (omega arith)
            (subst (FinishBelow worker.next) (sym one) (finish-unfinished old r worker.next result low)) had.finished;
        last = for-some _ _ worker.last (λ stamp. known-on stamp.clock) had.last;
        said = for-some _ _ worker.said known-on had.said;
        walk = nothing-there _;
        ended = for-some _ _ worker.ended ends-on had.ended;
      }

  -- a worker that was told a known clock by a quiet call is still a worker, with this clock as what was said
  pub clock-said : (worker : Worker) → worker.hand ≡ old → IsWorker shared worker → Quiet added → (clock : Clock) → IsKnown (seen_by new) clock
      → IsWorker shared (record worker { hand = new; said = Some clock })
  clock-said worker same is quiet clock known =
      let kept = only-hand worker same is quiet in record {
        hand = kept.hand;
        begun = kept.begun;
        finished = kept.finished;
        last = kept.last;
        said = just (IsKnown (seen_by new)) clock known;
        walk = kept.walk;
        ended = kept.ended;
      }

  -- a program has read all that it reads
  pub program-read : (worker : Worker) → worker.hand ≡ old → IsWorker shared worker → Quiet added → (r : ℕ) → EndsAsSeen (seen_by new) r
      → IsWorker shared (record worker { hand = new; ended = Some r })
  program-read worker same is quiet r ends =
      let kept = only-hand worker same is quiet in record {
        hand = kept.hand;
        begun = kept.begun;
        finished = kept.finished;
        last = kept.last;
        said = kept.said;
        walk = kept.walk;
        ended = just (EndsAsSeen (seen_by new)) r ends;
      }

-- the program that the hand began is running by what it has seen
pub runs-now : WorkersLaws → (shared : Shared) (hand : Hand) → IsHand shared hand → (home r : ℕ) (stamp : Stamp) → MayVisit hand home r stamp
    → Contains (running_of (gate_log (seen_by hand) home)) (record { author = hand_number hand; request = r; stamp = stamp })
runs-now laws shared hand is home r stamp may = laws.runs (gate_log (seen_by hand) home) (hand_number hand) r stamp may.begun
    (λ entry there by. may.goes_on entry (made-gate shared hand is home entry there by))

-- Holds

-- after a hold of a gatekeeper the hand went on, with these entries at gatekeepers
pub at-gate : (shared : Shared) (old new : Hand) (gate : ℕ) (before added : List GateEntry) → IsHand shared new
    → WasAtGate (length shared.shards.items) old new gate before added → WentOn shared old new added
at-gate shared old new gate before added is was = record {
  is_new = is;
  number = was.number;
  more = was.more;
  made = made-there old new gate added was.made;
}

-- after a hold of the store the hand went on, without an entry at gatekeepers
pub at-store : (shared : Shared) (old new : Hand) (before added : List StoreEntry) (settled asked : List OracleEntry) → IsHand shared new
    → WasAtStore old new before added settled asked → WentOn shared old new []
at-store shared old new before added settled asked is was = record {
  is_new = is;
  number = was.number;
  more = was.more;
  made = made-elsewhere old new (ap (λ (a : Account). a.gates) was.made);
}

-- after a hold of a shard the hand went on, without an entry at gatekeepers
pub at-shard : (shared : Shared) (old new : Hand) (shard : ℕ) (before added : List ShardEntry) (asked : List OracleEntry) → IsHand shared new
    → WasAtShard (length shared.shards.items) old new shard before added asked → WentOn shared old new []
at-shard shared old new shard before added asked is was = record {
  is_new = is;
  number = was.number;
  more = was.more;
  made = made-elsewhere old new (ap (λ (a : Account). a.gates) was.made);
}
