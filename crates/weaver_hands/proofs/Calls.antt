-- Each call leaves alone each request that it doesn't visit or finish for.
-- Used by `calls_leave_others_alone`, BegunProgram and OwnVisits.
use Rattle.std.proofs.Common.{◌≡◌, ◌≢◌, inl, inr, ℕ, Bool, true, false, cond, List, [], ◌∷◌, Ok, Err, Result, Option, refl, sym, ap, ◌∙◌}
use Rattle.std.specs.Prelude.{if◌then◌else◌}
use Rattle.std.proofs.lemmas.Bool.{ne_eqb}
use Rattle.weave_data.proofs.Members.{only}
use Rattle.weave_data.specs.declared.name.Name.{Name}
use Rattle.graph_ops.specs.declared.op.Op.{Op}
use Rattle.program_defs.specs.declared.program.Answer.{Answer}
use Rattle.vector_stamp.specs.declared.clock.Clock.{Clock}
use Rattle.vector_stamp.specs.declared.clock.Stamp.{Stamp}
use Rattle.weave_entries.specs.declared.gate_log.GateDeed.{GateDeed}
use Rattle.weave_entries.specs.declared.gate_log.GateEntry.{GateEntry}
use Rattle.weave_entries.specs.declared.gate_log.GateDeed.TheVariants.{BeganTx, BeganProgram, Sent, Nop, Heard, Finished}
use Rattle.weave_entries.specs.declared.message.Addressed.{Addressed}
use Rattle.weave_entries.specs.declared.message.Message.{Message}
use Rattle.weave_entries.specs.declared.shard_log.ShardDeed.TheVariants.{Arrived, Visited}
use Rattle.weave_entries.specs.declared.verdict.Verdict.{Verdict}
use Rattle.weave_entries.specs.ShardReplay.{Visit}
use Rattle.weave_account.specs.GoesOn.{visits_by}
use Rattle.weaver_core.specs.declared.walks.Running.{Running}
use Rattle.weaver_locks.specs.declared.hand.Hand.{Hand}
use Rattle.weaver_locks.specs.GateHolds.{gate_entry_by, WasAtGate}
use Rattle.weaver_locks.specs.Hands.{hand_number}
use Rattle.weaver_locks.specs.ShardHolds.{shard_entry_by}
use Rattle.weaver_locks.specs.StoreHolds.{JudgesIn}
use Rattle.weaver_hands.specs.declared.fault.HandFault.{HandFault}
use Rattle.weaver_hands.specs.declared.fault.HandFault.TheVariants.{Busy, NotYet, Empty, Waits, Memory}
use Rattle.weaver_hands.specs.Leaving.{LeavesAlone, MakesNoVisit}
use Rattle.weaver_hands.specs.Messages.{AppliesAs, PullsAs}
use Rattle.weaver_hands.specs.Programs.{FinishesAs, VisitsAs}
use Rattle.weaver_hands.specs.Telling.{NopsAs, TellsAs}
use Rattle.weaver_hands.specs.Transactions.{FoundBusy, StartsAs, TransactsAs}
use Rattle.weaver_hands.proofs.Alone.{Later, alone-at-gate, alone-at-shard, alone-at-store, alone-if-none, alone-later, none-at-gate, none-at-shard, unvisited-at-gate, unvisited-if-none}

-- Deeds that finish nothing

tx-other : (request r : ℕ) (stamp : Stamp) → BeganTx request stamp ≢ Finished r
tx-other request r stamp is = cc

-- a begin of a program is no finish
pub program-other : (request r : ℕ) (stamp : Stamp) → BeganProgram request stamp ≢ Finished r
program-other request r stamp is = cc

sent-other : (request r : ℕ) (messages : List Addressed) → Sent request messages ≢ Finished r
sent-other request r messages is = cc

nop-other : (shard number r : ℕ) (stamp : Stamp) (low : Clock) → Nop shard number stamp low ≢ Finished r
nop-other shard number r stamp low is = cc

heard-other : (clock : Clock) (r : ℕ) → Heard clock ≢ Finished r
heard-other clock r is = cc

finished-is : (request r : ℕ) → Finished request ≡ Finished r → request ≡ r
finished-is request r is = cc

-- a hold of a gatekeeper with one entry of another deed
one-deed : {shards : ℕ} (old new : Hand) (r gate : ℕ) (before : List GateEntry) (deed : GateDeed)
    → WasAtGate shards old new gate before (gate_entry_by old deed ∷ []) → deed ≢ Finished r → LeavesAlone old new r
one-deed old new r gate before deed was other =
    alone-at-gate old new r gate before (gate_entry_by old deed ∷ []) was
    (λ entry h is. other (ap (λ (e : GateEntry). e.deed) (only (gate_entry_by old deed) entry h) ∙ is))

-- Calls

busy-alone : {shards : ℕ} (old new : Hand) (gate r : ℕ) → FoundBusy shards old new gate → LeavesAlone old new r
busy-alone old new gate r did = alone-if-none old new r (none-at-gate old new gate did.before did.was)

begun-judged : Later → {shards : ℕ} (old begun judged : Hand) (gate request r : ℕ) (stamp : Stamp) (ops : List Op) (verdict : Verdict) (before : List GateEntry)
    → WasAtGate shards old begun gate before (gate_entry_by old (BeganTx request stamp) ∷ [])
    → JudgesIn begun judged request stamp ops (Ok verdict) → LeavesAlone old judged r
begun-judged later old begun judged gate request r stamp ops verdict before begins judges =
    alone-later later old begun judged r
    (one-deed old begun r gate before (BeganTx request stamp) begins (tx-other request r stamp))
    (alone-at-store begun judged r judges.before _ judges.settled _ judges.was)

-- a transaction leaves each request alone
pub transact-alone : Later → (shards : ℕ) (old new : Hand) (gate request : ℕ) (ops : List Op) (last : Option Stamp)
    (result : Result (Stamp × Verdict) HandFault) → TransactsAs shards old new gate request ops last result → (r : ℕ) → LeavesAlone old new r
transact-alone later shards old new gate request ops last (Ok (stamp, verdict)) did r =
    alone-later later old did.judged new r
    (begun-judged later old did.begun did.judged gate request r stamp ops verdict did.before did.begins did.judges)
    (one-deed did.judged new r gate did.flying _ did.sends.was (sent-other did.sends.flight.request r _))
transact-alone later shards old new gate request ops last (Err Memory) (inl none) r = alone-if-none old new r none
transact-alone later shards old new gate request ops last (Err Memory) (inr (inl did)) r =
    alone-later later old did.begun new r
    (one-deed old did.begun r gate did.before (BeganTx request did.stamp) did.begins (tx-other request r did.stamp))
    (alone-if-none did.begun new r did.stops)
transact-alone later shards old new gate request ops last (Err Memory) (inr (inr did)) r =
    alone-later later old did.judged new r
    (begun-judged later old did.begun did.judged gate request r did.stamp ops did.verdict did.before did.begins did.judges)
    (alone-if-none did.judged new r did.stops)
transact-alone later shards old new gate request ops last (Err Busy) did r = busy-alone old new gate r did
transact-alone later shards old new gate request ops last (Err (NotYet shard at)) none r = absurd none
transact-alone later shards old new gate request ops last (Err Empty) none r = absurd none
transact-alone later shards old new gate request ops last (Err (Waits vertex)) none r = absurd none

-- the begin of a program leaves each request alone
pub start-alone : (shards : ℕ) (old new : Hand) (gate request : ℕ) (last : Option Stamp) (result : Result Stamp HandFault)
    → StartsAs shards old new gate request last result → (r : ℕ) → LeavesAlone old new r
start-alone shards old new gate request last (Ok stamp) did r =
    one-deed old new r gate did.before (BeganProgram request stamp) did.begins (program-other request r stamp)
start-alone shards old new gate request last (Err Memory) none r = alone-if-none old new r none
start-alone shards old new gate request last (Err Busy) none r = absurd none
start-alone shards old new gate request last (Err (NotYet shard at)) none r = absurd none
start-alone shards old new gate request last (Err Empty) none r = absurd none
start-alone shards old new gate request last (Err (Waits vertex)) none r = absurd none

-- a clock that is said and heard leaves each request alone
pub tell-alone : Later → (shards : ℕ) (old new : Hand) (from to : ℕ) (result : Result (Unit {0}) HandFault)
    → TellsAs shards old new from to result → (r : ℕ) → LeavesAlone old new r
tell-alone later shards old new from to (Ok done) did r =
    alone-later later old did.told new r (alone-if-none old did.told r (none-at-gate old did.told from did.said did.says))
    (one-deed did.told new r to did.before (Heard did.clock) did.hears (heard-other did.clock r))
tell-alone later shards old new from to (Err Memory) none r = alone-if-none old new r none
tell-alone later shards old new from to (Err Busy) none r = absurd none
tell-alone later shards old new from to (Err (NotYet shard at)) none r = absurd none
tell-alone later shards old new from to (Err Empty) none r = absurd none
tell-alone later shards old new from to (Err (Waits vertex)) none r = absurd none

-- an empty message leaves each request alone
pub nop-alone : (shards : ℕ) (old new : Hand) (gate shard : ℕ) (result : Result (Unit {0}) HandFault)
    → NopsAs shards old new gate shard result → (r : ℕ) → LeavesAlone old new r
nop-alone shards old new gate shard (Ok done) did r = one-deed old new r gate did.before _ did.was (nop-other shard _ r _ _)
nop-alone shards old new gate shard (Err Busy) did r = busy-alone old new gate r did
nop-alone shards old new gate shard (Err Memory) none r = alone-if-none old new r none
nop-alone shards old new gate shard (Err (NotYet other at)) none r = absurd none
nop-alone shards old new gate shard (Err Empty) none r = absurd none
nop-alone shards old new gate shard (Err (Waits vertex)) none r = absurd none

-- a message that arrives is no visit
arrival-apart : (r : ℕ) (hand : Hand) (gate number : ℕ) (message : Message) (b : Bool)
    → visits_by r (if b then [] else shard_entry_by hand (Arrived gate number message) ∷ []) ≡ []
arrival-apart r hand gate number message true = refl
arrival-apart r hand gate number message false = refl

-- the pull of a message leaves each request alone
pub pull-alone : Later → (shards : ℕ) (old new : Hand) (gate shard number : ℕ) (result : Result Bool HandFault)
    → PullsAs shards old new gate shard number result → (r : ℕ) → LeavesAlone old new r
pull-alone later shards old new gate shard number (Ok true) did r =
    alone-later later old did.fetched new r (alone-if-none old did.fetched r (none-at-gate old did.fetched gate did.sent did.fetches))
    (alone-at-shard did.fetched new r shard did.before _ [] did.arrives
    (arrival-apart r did.fetched gate number did.message _))
pull-alone later shards old new gate shard number (Ok false) did r = alone-if-none old new r (none-at-gate old new gate did.sent did.was)
pull-alone later shards old new gate shard number (Err Memory) none r = alone-if-none old new r none
pull-alone later shards old new gate shard number (Err Busy) none r = absurd none
pull-alone later shards old new gate shard number (Err (NotYet other at)) none r = absurd none
pull-alone later shards old new gate shard number (Err Empty) none r = absurd none
pull-alone later shards old new gate shard number (Err (Waits vertex)) none r = absurd none

-- the processing of a channel's head leaves each request alone
pub apply-alone : (shards : ℕ) (old new : Hand) (shard gate : ℕ) (result : Result (Unit {0}) HandFault)
    → AppliesAs shards old new shard gate result → (r : ℕ) → LeavesAlone old new r
apply-alone shards old new shard gate (Ok done) did r = alone-at-shard old new r shard did.before _ [] did.was refl
apply-alone shards old new shard gate (Err Empty) did r = alone-if-none old new r (none-at-shard old new shard did.before did.was)
apply-alone shards old new shard gate (Err (Waits vertex)) did r = alone-if-none old new r (none-at-shard old new shard did.before did.was)
apply-alone shards old new shard gate (Err Memory) none r = alone-if-none old new r none
apply-alone shards old new shard gate (Err Busy) none r = absurd none
apply-alone shards old new shard gate (Err (NotYet other at)) none r = absurd none

-- a visit for another request
visit-apart : (r : ℕ) (hand : Hand) (request updates : ℕ) (stamp : Stamp) (v : Name) (settled : Bool) → r ≢ request
    → visits_by r (shard_entry_by hand (Visited request stamp v updates settled) ∷ []) ≡ []
visit-apart r hand request updates stamp v settled other =
    let visit : Visit = record { author = hand_number hand; request = request; stamp = stamp; vertex = v; updates = updates; settled = settled } in
    ap (λ b. cond b (visit ∷ []) []) (ne_eqb request r (λ e. other (sym e)))

-- a visit leaves each request alone but that of its program
pub visit-alone : (gates shards : ℕ) (old new : Hand) (was is : Running) (result : Result (Unit {0}) HandFault)
    → VisitsAs gates shards old new was is result → (r : ℕ) → r ≢ was.request → LeavesAlone old new r
visit-alone gates shards old new was is (Ok done) did r other =
    alone-at-shard old new r _ did.visits.before _ _ did.visits.was (visit-apart r old was.request _ was.stamp did.vertex _ other)
visit-alone gates shards old new was is (Err (NotYet shard gate)) did r other =
    alone-if-none old new r (none-at-shard old new shard did.visits.before did.visits.was)
visit-alone gates shards old new was is (Err Memory) did r other = alone-if-none old new r did.0
visit-alone gates shards old new was is (Err Busy) none r other = absurd none
visit-alone gates shards old new was is (Err Empty) none r other = absurd none
visit-alone gates shards old new was is (Err (Waits vertex)) none r other = absurd none

-- the finish of a program leaves each other request alone
pub finish-alone : (shards : ℕ) (old new : Hand) (running : Running) (result : Result Answer HandFault)
    → FinishesAs shards old new running result → (r : ℕ) → r ≢ running.request → LeavesAlone old new r
finish-alone shards old new running (Ok answer) did r other =
    one-deed old new r running.stamp.home did.before (Finished running.request) did.was (λ is. other (sym (finished-is running.request r is)))
finish-alone shards old new running (Err Memory) none r other = alone-if-none old new r none
finish-alone shards old new running (Err Busy) none r other = absurd none
finish-alone shards old new running (Err (NotYet shard at)) none r other = absurd none
finish-alone shards old new running (Err Empty) none r other = absurd none
finish-alone shards old new running (Err (Waits vertex)) none r other = absurd none

-- the finish of a program makes no visit for any request
pub finish-unvisited : (shards : ℕ) (old new : Hand) (running : Running) (result : Result Answer HandFault)
    → FinishesAs shards old new running result → (r : ℕ) → MakesNoVisit old new r
finish-unvisited shards old new running (Ok answer) did r = unvisited-at-gate old new r running.stamp.home did.before _ did.was
finish-unvisited shards old new running (Err Memory) none r = unvisited-if-none old new r none
finish-unvisited shards old new running (Err Busy) none r = absurd none
finish-unvisited shards old new running (Err (NotYet shard at)) none r = absurd none
finish-unvisited shards old new running (Err Empty) none r = absurd none
finish-unvisited shards old new running (Err (Waits vertex)) none r = absurd none
