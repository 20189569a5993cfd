-- A call of a gatekeeper within a hold adds one entry of the hand, or none.
-- Used by `begin_program`, `begin_tx`, `fetch`, `finish`, `hear`, `nop`, `say` and `send`.
use Rattle.std.proofs.Common.{◌≡◌, ℕ, ◌<◌, List, [], ◌∷◌, ◌++◌, length, map, refl, sym, ap, ◌∙◌, subst, arith, Contains}
use Rattle.std.specs.Prelude.{Result, Ok, Err, IfOk, IsTrue, OnOk, OnErr, Option}
use Rattle.std.specs.List.{All}
use Rattle.std.specs.Option.{ForSome}
use Rattle.std.proofs.lemmas.List.{append-nil, get_or-set_same, length-map}
use Rattle.std.proofs.lemmas.List.Elements.{All-cons, All-nil}
use Rattle.vector_stamp.specs.declared.clock.Clock.{Clock}
use Rattle.vector_stamp.specs.declared.clock.Stamp.{Stamp}
use Rattle.vector_stamp.specs.Clocks.{counts_no_more}
use Rattle.weave_entries.specs.declared.gate_log.GateDeed.{GateDeed}
use Rattle.weave_entries.specs.declared.gate_log.GateDeed.TheVariants.{Finished, Heard}
use Rattle.weave_entries.specs.declared.gate_log.GateEntry.{GateEntry}
use Rattle.weave_entries.specs.declared.message.Message.{Message}
use Rattle.weave_entries.specs.GateReplay.{addressed_to, clock_of}
use Rattle.weave_account.specs.declared.account.Account.{Account}
use Rattle.weave_account.specs.Account.{gate_log}
use Rattle.weave_account.specs.Clocks.{IsKnown}
use Rattle.weave_account.specs.Seen.{IsMade}
use Rattle.gatekeeper.specs.Gates.{Adds, GateView}
use Rattle.seen_logs.specs.References.{ArrivesAsSeen, EndsAsSeen}
use Rattle.seen_logs.specs.Entries.{gate_entries}
use Rattle.seen_logs.specs.Seen.{IsWithin}
use Rattle.chronicle.specs.declared.held.Held.{Held}
use Rattle.chronicle.specs.Holds.{machine_of}
use Rattle.chronicle.specs.Locks.{lock_of}
use Rattle.chronicle.specs.Passes.{lock_noted, seen_by_note}
use Rattle.chronicle.specs.Seats.{number_of_seat}
use Rattle.gate_lock.specs.declared.noted_gate.NotedGate.{NotedGate}
use Rattle.gate_lock.specs.declared.notes.GateNotes.{GateNotes}
use Rattle.gate_lock.specs.Frames.{gate_frame}
use Rattle.gate_lock.specs.Notes.{GateIsKept, account_of_gate, seen_of_gate}
use Rattle.weaver_locks.specs.declared.hand.Hand.{Hand}
use Rattle.weaver_locks.specs.declared.shared.Shared.{Shared}
use Rattle.weaver_locks.specs.GateHolds.{gate_entries_of, gate_entry_by}
use Rattle.weaver_locks.specs.GateLaws.{GateLaws}
use Rattle.weaver_locks.specs.Hands.{hand_number, seen_by}
use Rattle.weaver_locks.specs.InGate.{IsInGate, without_oracle}

-- what a call leaves of a gatekeeper: these entries of one author are new in its log
pub record HasGrown (old new : NotedGate) (number : ℕ) (added : List GateEntry) : Type 0 where
  pub notes : new.notes ≡ old.notes
  pub home : new.gate.home ≡ old.gate.home
  pub gates : new.gate.gates ≡ old.gate.gates
  pub shards : new.gate.shards ≡ old.gate.shards
  pub log : new.gate.log ≡ old.gate.log ++ added
  pub by : All (λ (e : GateEntry). e.author ≡ number) added

-- a call that changed nothing
pub none_added : (old new : NotedGate) (number : ℕ) → new ≡ old → HasGrown old new number []
none_added old new number same = record {
  notes = ap (λ (n : NotedGate). n.notes) same;
  home = ap (λ (n : NotedGate). n.gate.home) same;
  gates = ap (λ (n : NotedGate). n.gate.gates) same;
  shards = ap (λ (n : NotedGate). n.gate.shards) same;
  log = ap (λ (n : NotedGate). n.gate.log) same ∙ sym (append-nil old.gate.log);
  by = All-nil (λ (e : GateEntry). e.author ≡ number);
}

-- a call that added an entry, or was refused
pub one_added : {A F : Type 0} (old new : NotedGate) (hand : Hand) (author : ℕ) (deed : A → GateDeed) (result : Result A F)
    → author ≡ hand_number hand → new.notes ≡ old.notes → IfOk result (λ answer. Adds old.gate new.gate author (deed answer))
    → OnErr result (new.gate ≡ old.gate) → HasGrown old new (hand_number hand) (gate_entries_of hand deed result)
one_added old new hand author deed (Ok answer) by_hand notes adds refused =
    let P : GateEntry → Type 0 = λ e. e.author ≡ hand_number hand in
    record {
      notes = notes;
      home = adds.home;
      gates = adds.gates;
      shards = adds.shards;
      log = adds.log ∙ ap (λ (n : ℕ). let e : GateEntry = record { author = n; deed = deed answer } in old.gate.log ++ e ∷ []) by_hand;
      by = All-cons P (gate_entry_by hand (deed answer)) [] refl (All-nil P);
    }
one_added old new hand author deed (Err fault) by_hand notes adds refused = record {
  notes = notes;
  home = ap (λ (v : GateView). v.home) refused;
  gates = ap (λ (v : GateView). v.gates) refused;
  shards = ap (λ (v : GateView). v.shards) refused;
  log = ap (λ (v : GateView). v.log) refused ∙ sym (append-nil old.gate.log);
  by = All-nil (λ (e : GateEntry). e.author ≡ hand_number hand);
}

-- what holds if a result is an answer holds of whatever answer it is
pub on_ok : {A F : Type 0} (P : Type 0) (result : Result A F) → OnOk result P → IfOk result (λ answer. P)
on_ok P (Ok answer) holds = holds
on_ok P (Err fault) holds = tt

-- a hold whose machine gained these entries of the hand is still a hold of the gatekeeper, with them added
pub goes_on : (shared : Shared) (old now : Hand) (gate : ℕ) (before added : List GateEntry) (held later : Held NotedGate GateDeed)
    → later.seat ≡ held.seat → later.chronicle ≡ held.chronicle → IsInGate shared old now gate before [] held
    → HasGrown (machine_of held) (machine_of later) (hand_number old) added → IsInGate shared old now gate before added later
goes_on shared old now gate before added held later seat lock inside grown =
    let was = inside.machine in
    let a = machine_of held in
    let b = machine_of later in
    record {
      elsewhere = inside.elsewhere;
      found = inside.found;
      hold = record {
        went = λ p. record {
          table_is = (inside.hold.went p).table_is ∙ ap (λ s. s.table_id) (sym seat);
          seat_is = (inside.hold.went p).seat_is ∙ ap (λ s. s.id) (sym seat);
          number_is = ap (λ s. number_of_seat s.me.0) seat ∙ (inside.hold.went p).number_is;
        };
        lock = λ c. ap (λ x. lock_of x.now) lock ∙ inside.hold.lock c;
        entry = ap (λ s. s.me.0.seen) seat ∙ inside.hold.entry;
      };
      machine = record {
        home = grown.home ∙ was.home;
        gates = grown.gates ∙ was.gates;
        shards = grown.shards ∙ was.shards;
        frame = λ c. (λ i. gate_frame (grown.home i) (grown.gates i) (grown.shards i) (map lock_noted (grown.notes i).gates.items)
            (lock_noted (grown.notes i).store) (map lock_noted (grown.notes i).shards.items)) ∙ was.frame c;
        log = grown.log ∙ ap (λ (l : List GateEntry). l ++ added) (was.log ∙ append-nil before);
        by = grown.by;
        notes = λ own.
            ap (λ (n : GateNotes). account_of_gate gate own (map seen_by_note n.gates.items) (seen_by_note n.store) (map seen_by_note n.shards.items)) grown.notes
            ∙ was.notes own;
      };
    }

-- What is known

-- the oracle's log plays no part for what is known
pub known_without : (account : Account) (clock : Clock) → IsKnown account clock → IsKnown (without_oracle account) clock
known_without account clock known = record { eight = known.eight; counts = known.counts; raised = known.raised }

-- a clock that is known without the oracle's log is known with it
pub known_with : (account : Account) (clock : Clock) → IsKnown (without_oracle account) clock → IsKnown account clock
known_with account clock known = record { eight = known.eight; counts = known.counts; raised = known.raised }

-- what the hand knows the gatekeeper does
pub known_there : GateLaws → (shared : Shared) (old : Hand) (m : NotedGate) → GateIsKept m.gate m.notes
    → IsWithin (without_oracle (seen_by old)) (seen_of_gate m.gate m.notes) → (clock : Clock) → IsKnown (seen_by old) clock
    → IsKnown (seen_of_gate m.gate m.notes) clock
known_there rules shared old m kept within clock known =
    rules.stays m.gate.gates m.gate.shards (without_oracle (seen_by old)) (seen_of_gate m.gate m.notes) within.gates within.store within.shards
    kept.legal.shard_logs [] 0 (Heard clock) (known_without (seen_by old) clock known)

-- the log of a gatekeeper in what it has seen
own_log : (m : NotedGate) → GateIsKept m.gate m.notes → gate_log (seen_of_gate m.gate m.notes) m.gate.home ≡ m.gate.log
own_log m kept =
    let logs = map gate_entries (map seen_by_note m.notes.gates.items) in
    get_or-set_same logs m.gate.home m.gate.log [] (omega (
      arith,
      kept.home,
      kept.gates,
      length-map (map seen_by_note m.notes.gates.items) gate_entries,
      length-map m.notes.gates.items seen_by_note,
    ))

module _ (rules : GateLaws) (shared : Shared) (old now : Hand) (gate : ℕ) (held : Held NotedGate GateDeed) where
  -- a stamp that the hand knows counts no more of the gatekeeper's events than it made
  pub hears_no_more : gate < length shared.gates.items → IsInGate shared old now gate (machine_of held).gate.log [] held
      → GateIsKept (machine_of held).gate (machine_of held).notes
      → IsWithin (without_oracle (seen_by old)) (seen_of_gate (machine_of held).gate (machine_of held).notes) → (last : Option Stamp)
      → ForSome last (λ heard. IsKnown (seen_by old) heard.clock)
      → ForSome last (λ heard. IsTrue (counts_no_more gate (clock_of gate (machine_of held).gate.log) heard.clock))
  hears_no_more low inside kept within last known heard is =
      let m = machine_of held in
      let home = m.gate.home in
      let few = shared.framed.few_gates in
      let at = own_log m kept in
      let small : home < 8 = omega (arith, low, few, inside.machine.home) in
      let there = known_there rules shared old m kept within heard.clock (known heard is) in
      let hears = rules.may_be_heard m.gate.shards home (seen_of_gate m.gate m.notes) small (kept.legal.gate_logs home) heard.clock there in
      subst (λ (z : ℕ × List GateEntry). IsTrue (counts_no_more z.0 (clock_of z.0 z.1) heard.clock)) (λ i. (inside.machine.home i, at i)) hears

-- what the gatekeeper knows the hand does when it has left
pub known_after : {A F : Type 0} (new : Hand) (m : NotedGate) (result : Result A F) (clock : A → Clock)
    → seen_of_gate m.gate m.notes ≡ without_oracle (seen_by new) → IfOk result (λ answer. IsKnown (seen_of_gate m.gate m.notes) (clock answer))
    → IfOk result (λ answer. IsKnown (seen_by new) (clock answer))
known_after new m (Ok answer) clock same known =
    known_with (seen_by new) (clock answer) (subst (λ (a : Account). IsKnown a (clock answer)) same known)
known_after new m (Err fault) clock same known = tt

-- One hold, with one call

module _ (shared : Shared) (old now : Hand) (gate : ℕ) (held later : Held NotedGate GateDeed) (state : NotedGate) (seat : later.seat ≡ held.seat)
    (lock : later.chronicle ≡ held.chronicle) (same : state ≡ machine_of held)
    (inside : IsInGate shared old now gate (machine_of held).gate.log [] held) where
  -- if the call added an entry of the hand, or was refused, the hand is in the gatekeeper, with this or nothing added
  pub one_more : {A F : Type 0} (author : ℕ) (deed : A → GateDeed) (result : Result A F) → author ≡ hand_number old
      → (machine_of later).notes ≡ state.notes → IfOk result (λ answer. Adds state.gate (machine_of later).gate author (deed answer))
      → OnErr result ((machine_of later).gate ≡ state.gate)
      → IsInGate shared old now gate (machine_of held).gate.log (gate_entries_of old deed result) later
  one_more author deed result by_hand notes adds refused =
      goes_on shared old now gate (machine_of held).gate.log (gate_entries_of old deed result) held later seat lock inside
      (subst (λ (n : NotedGate). HasGrown n (machine_of later) (hand_number old) (gate_entries_of old deed result)) same
      (one_added state (machine_of later) old author deed result by_hand notes adds refused))

  -- if the call changed nothing, the hand is still in the gatekeeper, with nothing added
  pub no_more : machine_of later ≡ state → IsInGate shared old now gate (machine_of held).gate.log [] later
  no_more still = goes_on shared old now gate (machine_of held).gate.log [] held later seat lock inside
      (none_added (machine_of held) (machine_of later) (hand_number old) (still ∙ same))

-- how the gatekeeper was found
pub record IsFoundAs (state : NotedGate) (gate shards : ℕ) (before : List GateEntry) : Type 0 where
  pub home : state.gate.home ≡ gate
  pub shards_are : state.gate.shards ≡ shards
  pub log : state.gate.log ≡ before

-- in a hold without entries yet, the gatekeeper was found with its number, the number of shards and its log
pub found_as : (shared : Shared) (old now : Hand) (gate : ℕ) (held : Held NotedGate GateDeed) (state : NotedGate) → state ≡ machine_of held
    → IsInGate shared old now gate (machine_of held).gate.log [] held
    → IsFoundAs state gate (length shared.shards.items) (machine_of held).gate.log
found_as shared old now gate held state same inside = record {
  home = ap (λ (n : NotedGate). n.gate.home) same ∙ inside.machine.home;
  shards_are = ap (λ (n : NotedGate). n.gate.shards) same ∙ inside.machine.shards;
  log = ap (λ (n : NotedGate). n.gate.log) same;
}

-- a fact on what was found
pub as_found : (P : ℕ → List GateEntry → Type 0) (state : NotedGate) (gate shards : ℕ) (before : List GateEntry)
    → IsFoundAs state gate shards before → P state.gate.home state.gate.log → P gate before
as_found P state gate shards before found holds =
    subst (λ (z : ℕ × List GateEntry). P z.0 z.1) (λ i. (found.home i, found.log i)) holds

-- a program's visits were seen by the gatekeeper if the hand has seen them
pub ends_there : GateLaws → (old : Hand) (m : NotedGate) → GateIsKept m.gate m.notes
    → IsWithin (without_oracle (seen_by old)) (seen_of_gate m.gate m.notes) → (request : ℕ) → EndsAsSeen (seen_by old) request
    → EndsAsSeen (seen_of_gate m.gate m.notes) request
ends_there rules old m kept within request ends =
    rules.stays m.gate.gates m.gate.shards (without_oracle (seen_by old)) (seen_of_gate m.gate m.notes) within.gates within.store within.shards
    kept.legal.shard_logs [] 0 (Finished request)
    (record { program = ends.program; reads = ends.reads; read = ends.read; whole = ends.whole })

-- this is so of the message that was fetched, if one was
abbrev OfFetched : {F : Type 0} → Result (Option Message) F → (Message → Type 0) → Type 0
OfFetched result P = IfOk result (λ found. ForSome found P)

module _ (new : Hand) (state : NotedGate) (gate shards shard number : ℕ) (before : List GateEntry)
    (was : IsFoundAs state gate shards before) where
  -- a message that was fetched may arrive
  pub may_arrive : {F : Type 0} (r : Result (Option Message) F)
      → gate_log (seen_by new) gate ≡ before ++ [] → seen_of_gate state.gate state.notes ≡ without_oracle (seen_by new)
      → OfFetched r (λ one. Contains (addressed_to shard state.gate.log) (record { shard = shard; number = number; message = one }))
      → OfFetched r (λ one. IsMade state.gate.shards (seen_of_gate state.gate state.notes).store shard one)
      → OfFetched r (λ one. ArrivesAsSeen (seen_by new) shards shard gate number one)
  may_arrive (Ok found) left same sent made = λ one is. record {
    sent = subst (λ (l : List GateEntry). Contains (addressed_to shard l) (record { shard = shard; number = number; message = one }))
        (was.log ∙ (sym (append-nil before) ∙ sym left)) (sent one is);
    made = subst (λ (z : ℕ × Account). IsMade z.0 z.1.store shard one) (λ i. (was.shards_are i, same i)) (made one is);
  }
  may_arrive (Err fault) left same sent made = tt
