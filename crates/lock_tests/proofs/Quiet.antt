-- Calls that begin nothing: what was not begun stays so, and what may be heard still may.
-- Used by `apply`, `begin`, `finish`, `nop`, `pull`, `say_and_hear`, `visit`, Began and CarryingOn.
use Rattle.std.proofs.Common.{◌≡◌, ℕ, Bool, true, false, List, [], ◌∷◌, Contains, Ok, Err, Result, refl, ap, ◌∙◌, subst, sym}
use Rattle.weave_data.proofs.Members.{has_none, only}
use Rattle.program_defs.specs.declared.program.Answer.{Answer}
use Rattle.vector_stamp.specs.declared.clock.Stamp.{Stamp}
use Rattle.weave_entries.specs.declared.gate_log.GateDeed.{GateDeed}
use Rattle.weave_entries.specs.declared.gate_log.GateEntry.{GateEntry}
use Rattle.weave_entries.specs.GateReplay.{BegunRequest, begun_by}
use Rattle.weave_account.specs.declared.account.Account.{Account}
use Rattle.weaver_core.specs.declared.walks.Running.{Running}
use Rattle.weaver_locks.specs.declared.hand.Hand.{Hand}
use Rattle.weaver_locks.specs.declared.shared.Shared.{Shared}
use Rattle.weaver_locks.specs.Following.{HasNotBegun, MayHear}
use Rattle.weaver_locks.specs.GateHolds.{gate_entry_by}
use Rattle.weaver_locks.specs.Hands.{hand_number, made_by, with_gate_entries}
use Rattle.weaver_hands.specs.declared.fault.HandFault.{HandFault}
use Rattle.weaver_hands.specs.declared.fault.HandFault.TheVariants.{Busy, NotYet, Empty, Waits, Memory}
use Rattle.weaver_hands.specs.Leaving.{MadeNone}
use Rattle.weaver_hands.specs.Messages.{AppliesAs, PullsAs}
use Rattle.weaver_hands.specs.Programs.{FinishesAs, VisitsAs}
use Rattle.weaver_hands.specs.Telling.{NopsAs, TellsAs}
use Rattle.lock_tests.specs.OwnRequests.{OwnRequestLaws}

-- the hand has begun nothing
pub record Quietly (shared : Shared) (old new : Hand) : Type 0 where
  pub number : hand_number new ≡ hand_number old
  pub fresh : (r : ℕ) → HasNotBegun old r → HasNotBegun new r
  pub heard : (stamp : Stamp) → MayHear shared old stamp → MayHear shared new stamp

-- two quiet calls, one after the other, are quiet together
pub quietly-then : (shared : Shared) (old next new : Hand) → Quietly shared old next → Quietly shared next new → Quietly shared old new
quietly-then shared old next new first last = record {
  number = last.number ∙ first.number;
  fresh = λ r none. last.fresh r (first.fresh r none);
  heard = λ stamp may. last.heard stamp (first.heard stamp may);
}

-- these entries begin no request
abbrev pub BeginNone : List GateEntry → Type 0
BeginNone added = (entry : GateEntry) (begun : BegunRequest) → Contains added entry → Contains (begun_by entry.author entry.deed) begun → ⊥

-- a list without entries begins nothing
pub none-begins : BeginNone []
none-begins entry begun h there = has_none entry h

-- an entry of a deed that begins nothing begins nothing
pub one-begins-none : (hand : Hand) (deed : GateDeed) → begun_by (hand_number hand) deed ≡ [] → BeginNone (gate_entry_by hand deed ∷ [])
one-begins-none hand deed none entry begun h there =
    let here = subst (λ (e : GateEntry). Contains (begun_by e.author e.deed) begun) (sym (only (gate_entry_by hand deed) entry h)) there in
    has_none begun (subst (λ (l : List BegunRequest). Contains l begun) none here)

module _ (laws : OwnRequestLaws) (shared : Shared) (old new : Hand) (number_is : hand_number new ≡ hand_number old) where
  -- a hold of a gatekeeper
  pub quiet-gate : (gate : ℕ) (added : List GateEntry) → made_by new ≡ with_gate_entries gate added (made_by old) → BeginNone added
      → Quietly shared old new
  quiet-gate gate added made none = record {
    number = number_is;
    fresh = λ r. laws.fresh_at_gate old new gate added made r (λ entry begun h there. absurd (none entry begun h there));
    heard = laws.heard_at_gate shared old new gate added made;
  }

  -- a hold of another lock, or none
  pub quiet-elsewhere : (made_by new).gates ≡ (made_by old).gates → Quietly shared old new
  quiet-elsewhere made = record {
    number = number_is;
    fresh = laws.fresh_elsewhere old new made;
    heard = laws.heard_elsewhere shared old new made;
  }

gates-of : (old new : Account) → new ≡ old → new.gates ≡ old.gates
gates-of old new same = ap (λ (a : Account). a.gates) same

module _ (laws : OwnRequestLaws) (shared : Shared) (old new : Hand) where
  quiet-none : MadeNone old new → Quietly shared old new
  quiet-none none = quiet-elsewhere laws shared old new none.number (gates-of (made_by old) (made_by new) none.made)

  -- the pull of a message begins nothing
  pub pull-quiet : (shards gate shard number : ℕ) (result : Result Bool HandFault) → PullsAs shards old new gate shard number result
      → Quietly shared old new
  pull-quiet shards gate shard number (Ok true) did =
      quietly-then shared old did.fetched new
      (quiet-gate laws shared old did.fetched did.fetches.number gate [] did.fetches.made none-begins)
      (quiet-elsewhere laws shared did.fetched new did.arrives.number (ap (λ (a : Account). a.gates) did.arrives.made))
  pull-quiet shards gate shard number (Ok false) did = quiet-gate laws shared old new did.was.number gate [] did.was.made none-begins
  pull-quiet shards gate shard number (Err Memory) none = quiet-none none
  pull-quiet shards gate shard number (Err Busy) none = absurd none
  pull-quiet shards gate shard number (Err (NotYet other at)) none = absurd none
  pull-quiet shards gate shard number (Err Empty) none = absurd none
  pull-quiet shards gate shard number (Err (Waits vertex)) none = absurd none

  -- the processing of a channel's head begins nothing
  pub apply-quiet : (shards shard gate : ℕ) (result : Result (Unit {0}) HandFault) → AppliesAs shards old new shard gate result
      → Quietly shared old new
  apply-quiet shards shard gate (Ok done) did = quiet-elsewhere laws shared old new did.was.number (ap (λ (a : Account). a.gates) did.was.made)
  apply-quiet shards shard gate (Err Empty) did = quiet-elsewhere laws shared old new did.was.number (ap (λ (a : Account). a.gates) did.was.made)
  apply-quiet shards shard gate (Err (Waits vertex)) did = quiet-elsewhere laws shared old new did.was.number (ap (λ (a : Account). a.gates) did.was.made)
  apply-quiet shards shard gate (Err Memory) none = quiet-none none
  apply-quiet shards shard gate (Err Busy) none = absurd none
  apply-quiet shards shard gate (Err (NotYet other at)) none = absurd none

  -- a clock that is said and heard begins nothing
  pub tell-quiet : (shards from to : ℕ) (result : Result (Unit {0}) HandFault) → TellsAs shards old new from to result
      → Quietly shared old new
  tell-quiet shards from to (Ok done) did =
      quietly-then shared old did.told new
      (quiet-gate laws shared old did.told did.says.number from [] did.says.made none-begins)
      (quiet-gate laws shared did.told new did.hears.number to _ did.hears.made (one-begins-none did.told _ refl))
  tell-quiet shards from to (Err Memory) none = quiet-none none
  tell-quiet shards from to (Err Busy) none = absurd none
  tell-quiet shards from to (Err (NotYet shard at)) none = absurd none
  tell-quiet shards from to (Err Empty) none = absurd none
  tell-quiet shards from to (Err (Waits vertex)) none = absurd none

  -- an empty message begins nothing
  pub nop-quiet : (shards gate shard : ℕ) (result : Result (Unit {0}) HandFault) → NopsAs shards old new gate shard result
      → Quietly shared old new
  nop-quiet shards gate shard (Ok done) did = quiet-gate laws shared old new did.was.number gate _ did.was.made (one-begins-none old _ refl)
  nop-quiet shards gate shard (Err Busy) did = quiet-gate laws shared old new did.was.number gate [] did.was.made none-begins
  nop-quiet shards gate shard (Err Memory) none = quiet-none none
  nop-quiet shards gate shard (Err (NotYet other at)) none = absurd none
  nop-quiet shards gate shard (Err Empty) none = absurd none
  nop-quiet shards gate shard (Err (Waits vertex)) none = absurd none

  -- a visit, or a refusal of one, is quiet
  pub visit-quiet : (gates shards : ℕ) (was is : Running) (result : Result (Unit {0}) HandFault) → VisitsAs gates shards old new was is result
      → Quietly shared old new
  visit-quiet gates shards was is (Ok done) did =
      quiet-elsewhere laws shared old new did.visits.was.number (ap (λ (a : Account). a.gates) did.visits.was.made)
  visit-quiet gates shards was is (Err (NotYet shard gate)) did =
      quiet-elsewhere laws shared old new did.visits.was.number (ap (λ (a : Account). a.gates) did.visits.was.made)
  visit-quiet gates shards was is (Err Memory) did = quiet-none did.0
  visit-quiet gates shards was is (Err Busy) none = absurd none
  visit-quiet gates shards was is (Err Empty) none = absurd none
  visit-quiet gates shards was is (Err (Waits vertex)) none = absurd none

  -- the finish of a program begins nothing
  pub finish-quiet : (shards : ℕ) (running : Running) (result : Result Answer HandFault) → FinishesAs shards old new running result
      → Quietly shared old new
  finish-quiet shards running (Ok answer) did =
      quiet-gate laws shared old new did.was.number running.stamp.home _ did.was.made (one-begins-none old _ refl)
  finish-quiet shards running (Err Memory) none = quiet-none none
  finish-quiet shards running (Err Busy) none = absurd none
  finish-quiet shards running (Err (NotYet shard at)) none = absurd none
  finish-quiet shards running (Err Empty) none = absurd none
  finish-quiet shards running (Err (Waits vertex)) none = absurd none
