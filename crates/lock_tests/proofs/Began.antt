-- What a worker keeps, after it began a request.
-- Used by `begin`, `start` and `transact`.
use Rattle.std.proofs.Common.{◌≡◌, ◌≢◌, ℕ, ◌+◌, ◌<◌, ◌≤◌, List, [], ◌∷◌, ◌++◌, Contains, length, map, inl, Ok, Err, refl, ap, ◌∙◌, subst, sym, arith}
use Rattle.std.specs.Prelude.{Option, None, Some}
use Rattle.std.specs.Option.{ForSome}
use Rattle.std.proofs.lemmas.List.{get_or-set_same, length-map}
use Rattle.weave_data.proofs.Members.{has_flat, has_head, has_last, only}
use Rattle.graph_ops.specs.declared.op.Op.{Op}
use Rattle.vector_stamp.specs.declared.clock.Stamp.{Stamp}
use Rattle.chronicle.specs.Passes.{own_entries}
use Rattle.weave_entries.specs.declared.gate_log.GateDeed.{GateDeed}
use Rattle.weave_entries.specs.declared.gate_log.GateDeed.TheVariants.{BeganTx}
use Rattle.weave_entries.specs.declared.gate_log.GateEntry.{GateEntry}
use Rattle.weave_entries.specs.declared.verdict.Verdict.{Verdict}
use Rattle.weave_entries.specs.GateReplay.{BegunRequest, begun_by, begun_in}
use Rattle.weave_account.specs.declared.account.Account.{Account}
use Rattle.weave_account.specs.Account.{gate_log, shard_log}
use Rattle.weave_account.specs.GoesOn.{visits_by}
use Rattle.seen_logs.specs.Entries.{gate_entries}
use Rattle.weaver_core.specs.declared.walks.Running.{Running}
use Rattle.weaver_locks.specs.declared.hand.Hand.{Hand}
use Rattle.weaver_locks.specs.declared.shared.Shared.{Shared}
use Rattle.weaver_locks.specs.Following.{HasNotBegun, MayHear}
use Rattle.weaver_locks.specs.GateHolds.{gate_entry_by, WasAtGate}
use Rattle.weaver_locks.specs.Hands.{hand_number, made_by, with_gate_entries, IsHand}
use Rattle.weaver_locks.specs.Locks.{gate_count, shard_count}
use Rattle.weaver_hands.specs.declared.fault.HandFault.TheVariants.{Busy}
use Rattle.weaver_hands.specs.Leaving.{LeavesAlone, MakesNoVisit}
use Rattle.weaver_hands.specs.Programs.{IsRunning}
use Rattle.weaver_hands.specs.Transactions.{Transacts, TransactsAs}
use Rattle.lock_tests.specs.OwnRequests.{OwnRequestLaws}
use Rattle.lock_tests.specs.ReadyWorkers.{IsWorkerOf}
use Rattle.lock_tests.proofs.Options.{for-some, just, nothing-there}
use Rattle.lock_tests.proofs.Quiet.{Quietly, none-begins, one-begins-none, quiet-elsewhere, quiet-gate}

-- the hand began this request alone, and may let a gatekeeper hear its stamp
pub record Began (shared : Shared) (old new : Hand) (request : ℕ) (stamp : Stamp) : Type 0 where
  pub number : hand_number new ≡ hand_number old
  pub fresh : (r : ℕ) → r ≢ request → HasNotBegun old r → HasNotBegun new r
  pub heard : (other : Stamp) → MayHear shared old other → MayHear shared new other
  pub begun : MayHear shared new stamp

-- if a request was begun and a quiet call follows, the request was begun by both together
pub began-then : (shared : Shared) (old next new : Hand) (request : ℕ) (stamp : Stamp) → Began shared old next request stamp
    → Quietly shared next new → Began shared old new request stamp
began-then shared old next new request stamp first last = record {
  number = last.number ∙ first.number;
  fresh = λ r other none. last.fresh r (first.fresh r other none);
  heard = λ other may. last.heard other (first.heard other may);
  begun = last.heard stamp first.begun;
}

-- what was added at a gatekeeper is at the end of what the hand made there
made-there : (shared : Shared) (old new : Hand) (gate : ℕ) (added : List GateEntry) → IsHand shared old → gate < gate_count shared
    → made_by new ≡ with_gate_entries gate added (made_by old) → gate_log (made_by new) gate ≡ gate_log (made_by old) gate ++ added
made-there shared old new gate added is low made =
    let logs = (made_by old).gates in
    let there : gate < length logs =
    omega (arith, low, is.gates, length-map (map own_entries old.gates.items) gate_entries, length-map old.gates.items own_entries) in
    ap (λ (a : Account). gate_log a gate) made ∙ get_or-set_same logs gate (gate_log (made_by old) gate ++ added) [] there

-- a hold of a gatekeeper in which a request was begun
module _ (laws : OwnRequestLaws) (shared : Shared) (old new : Hand) (gate request : ℕ) (stamp : Stamp) (deed : GateDeed)
    (begins : begun_by (hand_number old) deed ≡ record { author = hand_number old; request = request; stamp = stamp } ∷ []) where
  abbrev this : BegunRequest
  this = record { author = hand_number old; request = request; stamp = stamp }

  other-begun : (r : ℕ) → r ≢ request → (entry : GateEntry) (begun : BegunRequest) → Contains (gate_entry_by old deed ∷ []) entry
      → Contains (begun_by entry.author entry.deed) begun → begun.request ≢ r
  other-begun r other entry begun h there same =
      let here = subst (λ (e : GateEntry). Contains (begun_by e.author e.deed) begun) (sym (only (gate_entry_by old deed) entry h)) there in
      let is_this = only this begun (subst (λ (l : List BegunRequest). Contains l begun) begins here) in
      other (sym same ∙ sym (ap (λ (b : BegunRequest). b.request) is_this))

  -- a hand that added the begin of a request at a gatekeeper, and nothing else, began this request alone
  pub began : {shards : ℕ} (before : List GateEntry) → IsHand shared old → gate < gate_count shared
      → WasAtGate shards old new gate before (gate_entry_by old deed ∷ []) → Began shared old new request stamp
  began before is low was =
      let entry : GateEntry = gate_entry_by old deed in
      let log = gate_log (made_by old) gate in
      let there : Contains (begun_in (log ++ entry ∷ [])) this =
      has_flat (λ (e : GateEntry). begun_by e.author e.deed) (log ++ entry ∷ []) entry this (has_last log entry)
      (subst (λ (l : List BegunRequest). Contains l this) (sym begins) (has_head this [])) in record {
        number = was.number;
        fresh = λ r other. laws.fresh_at_gate old new gate (entry ∷ []) was.made r (other-begun r other);
        heard = laws.heard_at_gate shared old new gate (entry ∷ []) was.made;
        begun = record {
          home = gate;
          begun = this;
          stamp_is = refl;
          there = inl (subst (λ (l : List GateEntry). Contains (begun_in l) this)
              (sym (made-there shared old new gate (entry ∷ []) is low was.made)) there);
        };
      }

-- a transaction
module _ (laws : OwnRequestLaws) (shared : Shared) (old new : Hand) (gate request : ℕ) (ops : List Op) (last : Option Stamp) where
  transact-began : (stamp : Stamp) (verdict : Verdict) → IsHand shared old → gate < gate_count shared
      → Transacts (shard_count shared) old new gate request ops last stamp verdict → Began shared old new request stamp
  transact-began stamp verdict is low did =
      let first = began laws shared old did.begun gate request stamp (BeganTx request stamp) refl did.before is low did.begins in
      let second = began-then shared old did.begun did.judged request stamp first
      (quiet-elsewhere laws shared did.begun did.judged did.judges.was.number (ap (λ (a : Account). a.gates) did.judges.was.made)) in
      began-then shared old did.judged new request stamp second
      (quiet-gate laws shared did.judged new did.sends.was.number gate _ did.sends.was.made (one-begins-none did.judged _ refl))

  -- a hand whose transaction was sent began this request alone
  pub transact-done : (done : Stamp × Verdict) → IsHand shared old → gate < gate_count shared
      → TransactsAs (shard_count shared) old new gate request ops last (Ok done) → Began shared old new request done.0
  transact-done (stamp, verdict) is low did = transact-began stamp verdict is low did

  -- a hand that found the gatekeeper busy has begun nothing
  pub transact-busy : TransactsAs (shard_count shared) old new gate request ops last (Err Busy) → Quietly shared old new
  transact-busy did = quiet-gate laws shared old new did.was.number gate [] did.was.made none-begins

-- What a worker keeps

module _ (laws : OwnRequestLaws) (shared : Shared) (old new : Hand) (next : ℕ) (last : Option Stamp) (walk : Option Running)
    (request n : ℕ) (stamp : Stamp) (n_is : n ≡ request) (low : next ≤ request) (on : Began shared old new request stamp)
    (is_new : IsHand shared new) (had : IsWorkerOf shared old next last walk) where
  begins-on : ((r : ℕ) → MakesNoVisit old new r) → (other : Option Running) → ForSome other (IsRunning shared new)
      → ForSome other (λ (program : Running). program.request < n + 1) → IsWorkerOf shared new (n + 1) (Some stamp) other
  begins-on unvisited other running below = record {
    is_hand = is_new;
    fresh = λ r high. on.fresh r (λ (e : r ≡ request). omega (arith, e, n_is, high)) (had.fresh r (omega (arith, low, n_is, high)));
    unread = λ r high. laws.same_reads shared old new r had.is_hand is_new (unvisited r) ∙ had.unread r (omega (arith, low, n_is, high));
    heard = just (MayHear shared new) stamp on.begun;
    running = running;
    below = below;
  }

  -- a transaction was begun and sent
  pub transacted : ((r : ℕ) → LeavesAlone old new r) → IsWorkerOf shared new (n + 1) (Some stamp) walk
  transacted alone = begins-on (λ r. (alone r).unvisited) walk
      (for-some _ _ walk (λ program. laws.runs shared old new program had.is_hand is_new (alone program.request)) had.running)
      (for-some _ _ walk (λ program less. omega (arith, less, low, n_is)) had.below)

  -- a transaction was begun, and the worker has no program
  pub left-in-flight : ((r : ℕ) → MakesNoVisit old new r) → IsWorkerOf shared new (n + 1) (Some stamp) None
  left-in-flight unvisited = begins-on unvisited None (nothing-there _) (nothing-there _)

  -- a worker that began a program that runs, and left all requests alone, is a worker with this program
  pub started : ((r : ℕ) → LeavesAlone old new r) → (program : Running) → program.request ≡ request → IsRunning shared new program
      → IsWorkerOf shared new (n + 1) (Some stamp) (Some program)
  started alone program same running = begins-on (λ r. (alone r).unvisited) (Some program) (just _ program running)
      (just (λ (p : Running). p.request < n + 1) program (omega (arith, same, n_is)))

-- a hold of a gatekeeper visits for no request
pub unvisited-at-gate : {shards : ℕ} (old new : Hand) (gate : ℕ) (before added : List GateEntry) → WasAtGate shards old new gate before added
    → (r : ℕ) → MakesNoVisit old new r
unvisited-at-gate old new gate before added was r = record {
  number = was.number;
  more = was.more;
  visits = λ shard. ap (λ (a : Account). visits_by r (shard_log a shard)) was.made;
}
