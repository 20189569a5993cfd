-- A hand that leaves the lock of a gatekeeper is a hand again, and added just these entries there.
-- Used by `leave_gate`.
use Rattle.std.proofs.Common.{◌≡◌, ◌≢◌, inl, inr, ℕ, ◌<◌, eqb, eq-eqb, Bool, cond, List, [], ◌∷◌, ◌++◌, length, map, get_or, set, refl, sym, ap, ◌∙◌, subst, arith, append_assoc}
use Rattle.std.specs.List.{All}
use Rattle.std.proofs.lemmas.Bool.{cases_lt}
use Rattle.std.proofs.lemmas.List.{append-nil, get_or_default, get_or_past, get_or-map, get_or-set_same, get_or-set_other, length-map, length-set, map-append, map-set}
use Rattle.std.proofs.lemmas.List.Elements.{All-head, All-map, All-tail, filter-append}
use mathlib.Core.List.{IsPrefix}
use mathlib.Core.Logic.{dite}
use native.Mathlib.Decide.{ℕ_discrete}
use Rattle.weave_entries.specs.declared.gate_log.GateDeed.{GateDeed}
use Rattle.weave_entries.specs.declared.gate_log.GateEntry.{GateEntry}
use Rattle.weave_entries.specs.declared.oracle_log.OracleDeed.{OracleDeed}
use Rattle.weave_entries.specs.declared.shard_log.ShardDeed.{ShardDeed}
use Rattle.weave_entries.specs.declared.store_log.StoreDeed.{StoreDeed}
use Rattle.weave_entries.specs.OracleRules.{IsOracleLog}
use Rattle.weave_account.specs.declared.account.Account.{Account}
use Rattle.weave_account.specs.Account.{gate_log, shard_log}
use Rattle.seen_logs.specs.Entries.{gate_entries, gate_entry, gate_pair, gate_pairs, oracle_entries, shard_entries, store_entries}
use Rattle.seen_logs.specs.Seen.{AreLegal, GateRefersWithin, IsSeenByHand, IsWithin}
use Rattle.chronicle.specs.declared.chronicle.Chronicle.{Chronicle}
use Rattle.chronicle.specs.declared.pass.Pass.{Pass}
use Rattle.chronicle.specs.declared.held.Held.{Held}
use Rattle.chronicle.specs.Holds.{lock_in, machine_of}
use Rattle.chronicle.specs.Locks.{Lock, lock_of}
use Rattle.chronicle.specs.Logs.{Follows, Log, entries_of}
use Rattle.chronicle.specs.Passes.{IsReady, seen_by_note, number_of, own_entries, seen_by_pass}
use Rattle.lock_row.specs.Rows.{AreReady}
use Rattle.lock_row.proofs.Lists.{mapped_alike, one_of}
use Rattle.gate_lock.specs.declared.noted_gate.NotedGate.{NotedGate}
use Rattle.gate_lock.specs.Notes.{GateIsKept, account_of_gate, seen_by_gate_passes, seen_of_gate}
use Rattle.gate_lock.proofs.Lists.{alike}
use Rattle.weaver_locks.specs.declared.hand.Hand.{Hand}
use Rattle.weaver_locks.specs.declared.shared.Shared.{Shared}
use Rattle.weaver_locks.specs.GateHolds.{WasAtGate}
use Rattle.weaver_locks.specs.GateLaws.{GateLaws}
use Rattle.weaver_locks.specs.HandLaws.{HandLaws}
use Rattle.weaver_locks.specs.Hands.{IsHand, hand_number, made_by, seen_by, with_gate_entries}
use Rattle.weaver_locks.specs.InGate.{HasFoundLog, HasMachine, IsHeldBy, SeesElsewhere, without_oracle}
use Rattle.weaver_locks.specs.Locks.{start_of}
use Rattle.weaver_locks.specs.Onward.{GoesOnWithout}
use Rattle.weaver_locks.proofs.Adding.{AddsNone, HasAdded, asked_none, asks_none, hand_goes_on, oracle_author, shard_author}
use Rattle.weaver_locks.proofs.Entering.{log_found}
use Rattle.weaver_locks.proofs.Passing.{at_place, beginning, gate_none, oracle_none, shard_none, stays, store_none, without}
use Rattle.weaver_locks.proofs.HandParts.{has_gate}

-- entries of one author are all its own
all_own : (n : ℕ) (entries : List GateEntry) → All (λ (e : GateEntry). e.author ≡ n) entries
    → entries_of n (gate_pairs entries) ≡ gate_pairs entries
all_own n [] by = refl
all_own n (e ∷ es) by =
    let P : GateEntry → Type 0 = λ x. x.author ≡ n in
    let rest = gate_pairs es in
    subst (λ (b : Bool). cond b (gate_pair e ∷ entries_of n rest) (entries_of n rest) ≡ gate_pair e ∷ rest)
    (sym (eq-eqb e.author n (All-head P e es by))) (ap (λ (l : Log GateDeed). gate_pair e ∷ l) (all_own n es (All-tail P e es by)))

-- how the hand is when it has left: its pass of the gatekeeper's lock is p
pub record HasLeft (shared : Shared) (old now new : Hand) (gate : ℕ) (log : List GateEntry) (p : Pass GateDeed) : Type 0 where
  pub gates : new.gates.items ≡ set now.gates.items gate p
  pub store : new.store ≡ now.store
  pub oracle : new.oracle ≡ now.oracle
  pub shards : new.shards.items ≡ now.shards.items
  pub ready : (c : Chronicle NotedGate GateDeed) → IsReady (lock_of (get_or shared.gates.items gate c)) p
  pub number : number_of p ≡ hand_number old
  pub seen_is : seen_by_pass p ≡ gate_pairs log

-- a log that goes on by entries of one author only follows what this author entered with
pub follows : (n : ℕ) (entered : Log GateDeed) (before added log : List GateEntry) → entered ≡ gate_pairs before → log ≡ before ++ added
    → All (λ (e : GateEntry). e.author ≡ n) added → Follows n entered (gate_pairs log)
follows n entered before added log entry is by = (
  gate_pairs added,
  ap (λ (l : Log GateDeed). l ++ gate_pairs added) entry
      ∙ (sym (map-append gate_pair before added) ∙ ap (λ (l : List GateEntry). gate_pairs l) (sym is)),
  All-map (λ (e : ℕ × GateDeed). e.0 ≡ n) gate_pair added by,
)

module _ (shared : Shared) (old now new : Hand) (gate : ℕ) (before : List GateEntry) (held : Held NotedGate GateDeed) (p d : Pass GateDeed)
    (m : NotedGate) (gates : List (Pass GateDeed)) where
  -- if just the pass of the gatekeeper's lock was exchanged, for one that has seen its whole log, the hand has left
  pub left_by : SeesElsewhere shared old now gate → IsHeldBy shared now gate before held → gates ≡ now.gates.items
      → new.gates.items ≡ set gates gate p → new.store ≡ now.store → new.oracle ≡ now.oracle → new.shards.items ≡ now.shards.items
      → IsReady (lock_in held) p → number_of p ≡ number_of (get_or gates gate d) → seen_by_pass p ≡ gate_pairs m.gate.log → m ≡ machine_of held
      → HasLeft shared old now new gate (machine_of held).gate.log p
  left_by other hold at set_is store oracle shards ready number seen_is same = record {
    gates = set_is ∙ ap (λ (l : List (Pass GateDeed)). set l gate p) at;
    store = store;
    oracle = oracle;
    shards = shards;
    ready = λ c. subst (λ (l : Lock GateDeed). IsReady l p) (hold.lock c) ready;
    number = number ∙ (ap (λ (l : List (Pass GateDeed)). number_of (get_or l gate d)) at ∙ other.gate_number d);
    seen_is = seen_is ∙ ap (λ (n : NotedGate). gate_pairs n.gate.log) same;
  }

module _ (laws : HandLaws) (rules : GateLaws) (shared : Shared) (old now new : Hand) (gate : ℕ) (before added : List GateEntry)
    (m : NotedGate) (p : Pass GateDeed) (low : gate < length shared.gates.items) (hand : IsHand shared old)
    (other : SeesElsewhere shared old now gate) (found : HasFoundLog old gate before)
    (machine : HasMachine shared now (hand_number old) gate before added m) (kept : GateIsKept m.gate m.notes)
    (left : HasLeft shared old now new gate m.gate.log p) where
  abbrev number : ℕ
  number = hand_number old

  low_old : gate < length old.gates.items
  low_old = has_gate shared old hand gate low

  low_now : gate < length now.gates.items
  low_now = omega (arith, low_old, other.gates)

  many : length new.gates.items ≡ length old.gates.items
  many = ap (λ (l : List (Pass GateDeed)). length l) left.gates ∙ (length-set now.gates.items gate p ∙ other.gates)

  -- the pass at the gatekeeper's place, and at another
  at : (d : Pass GateDeed) → get_or new.gates.items gate d ≡ p
  at d = ap (λ (l : List (Pass GateDeed)). get_or l gate d) left.gates ∙ get_or-set_same now.gates.items gate p d low_now

  besides : (k : ℕ) (d : Pass GateDeed) → k ≢ gate → get_or new.gates.items k d ≡ get_or now.gates.items k d
  besides k d ne = ap (λ (l : List (Pass GateDeed)). get_or l k d) left.gates ∙ get_or-set_other now.gates.items gate k p d ne

  -- what was seen at the gatekeeper's place
  seen_there : get_or (map seen_by_pass new.gates.items) gate [] ≡ gate_pairs m.gate.log
  seen_there =
      let d = one_of old.gates.items gate low_old in
      get_or-map seen_by_pass new.gates.items gate d [] (omega (arith, low_old, many)) ∙ (ap (λ (x : Pass GateDeed). seen_by_pass x) (at d) ∙ left.seen_is)

  longer_log : gate_pairs m.gate.log ≡ gate_pairs before ++ gate_pairs added
  longer_log = ap (λ (l : List GateEntry). gate_pairs l) machine.log ∙ map-append gate_pair before added

  gate_on : IsPrefix (get_or (map seen_by_pass old.gates.items) gate []) (get_or (map seen_by_pass new.gates.items) gate [])
  gate_on =
      let d = one_of old.gates.items gate low_old in
      let had = found.more d in
      let P : Log GateDeed × Log GateDeed → Type 0 = λ z. IsPrefix z.0 z.1 in
      let was : get_or (map seen_by_pass old.gates.items) gate [] ≡ seen_by_pass (get_or old.gates.items gate d) =
      get_or-map seen_by_pass old.gates.items gate d [] low_old in
      let on : IsPrefix (seen_by_pass (get_or old.gates.items gate d)) (gate_pairs m.gate.log) = (
        had.0 ++ gate_pairs added,
        sym (append_assoc (seen_by_pass (get_or old.gates.items gate d)) had.0 (gate_pairs added))
            ∙ (ap (λ (l : Log GateDeed). l ++ gate_pairs added) had.1 ∙ sym longer_log),
      ) in
      subst P (λ i. (sym was i, sym seen_there i)) on

  -- elsewhere the hand made nothing
  gate_goes : (k : ℕ) → k ≢ gate
      → GoesOnWithout number (get_or (map seen_by_pass old.gates.items) k []) (get_or (map seen_by_pass new.gates.items) k [])
  gate_goes k ne = at_place number k old.gates.items new.gates.items many (λ q few.
      subst (λ (x : Pass GateDeed). GoesOnWithout number (seen_by_pass (get_or old.gates.items k q)) (seen_by_pass x)) (sym (besides k q ne))
      (without number (get_or old.gates.items k q) (get_or now.gates.items k q) (hand.gate_numbers k q few) (other.gates_see k q few ne)))

  store_goes : GoesOnWithout number (seen_by_pass old.store) (seen_by_pass new.store)
  store_goes = subst (λ (x : Pass StoreDeed). GoesOnWithout number (seen_by_pass old.store) (seen_by_pass x)) (sym left.store)
      (without number old.store now.store refl other.store_sees)

  oracle_same : seen_by_pass new.oracle ≡ seen_by_pass old.oracle
  oracle_same = ap (λ (x : Pass OracleDeed). seen_by_pass x) (left.oracle ∙ other.oracle_is)

  oracle_goes : GoesOnWithout number (seen_by_pass old.oracle) (seen_by_pass new.oracle)
  oracle_goes = subst (λ (l : Log OracleDeed). GoesOnWithout number (seen_by_pass old.oracle) l) (sym oracle_same) (stays number (seen_by_pass old.oracle))

  shard_goes : (k : ℕ) → GoesOnWithout number (get_or (map seen_by_pass old.shards.items) k []) (get_or (map seen_by_pass new.shards.items) k [])
  shard_goes k = at_place number k old.shards.items new.shards.items
      (ap (λ (l : List (Pass ShardDeed)). length l) left.shards ∙ other.shards) (λ q few.
      subst (λ (l : List (Pass ShardDeed)). GoesOnWithout number (seen_by_pass (get_or old.shards.items k q)) (seen_by_pass (get_or l k q))) (sym left.shards)
      (without number (get_or old.shards.items k q) (get_or now.shards.items k q) (hand.shard_numbers k q few) (other.shards_see k q few)))

  gates_go : (k : ℕ) → IsPrefix (get_or (map seen_by_pass old.gates.items) k []) (get_or (map seen_by_pass new.gates.items) k [])
  gates_go k = dite (ℕ_discrete k gate)
      (λ e. subst (λ (j : ℕ). IsPrefix (get_or (map seen_by_pass old.gates.items) j []) (get_or (map seen_by_pass new.gates.items) j [])) (sym e) gate_on)
      (λ ne. (gate_goes k ne).more)

  -- the hand has seen no less than it had
  pub more_seen : IsWithin (seen_by old) (seen_by new)
  more_seen = laws.within (map seen_by_pass old.gates.items) (map seen_by_pass new.gates.items) (seen_by_pass old.store) (seen_by_pass new.store) (seen_by_pass old.oracle)
      (seen_by_pass new.oracle) (map seen_by_pass old.shards.items) (map seen_by_pass new.shards.items)
      (λ k. beginning _ _ (gates_go k)) (beginning _ _ store_goes.more) (beginning _ _ oracle_goes.more)
      (λ k. beginning _ _ (shard_goes k).more)

  -- the hand has seen what the gatekeeper has
  gates_seen : set (map gate_entries (map seen_by_pass now.gates.items)) gate m.gate.log ≡ map gate_entries (map seen_by_pass new.gates.items)
  gates_seen =
      let G : Log GateDeed → List GateEntry = λ l. gate_entries l in
      let xs = map seen_by_pass now.gates.items in
      sym (ap (λ (l : List (Pass GateDeed)). map G (map seen_by_pass l)) left.gates
      ∙ (ap (λ (l : List (Log GateDeed)). map G l) (map-set seen_by_pass now.gates.items gate p)
      ∙ (map-set G xs gate (seen_by_pass p) ∙ ap (λ (l : List GateEntry). set (map G xs) gate l)
      (ap G left.seen_is ∙ laws.gate_records m.gate.log))))

  -- what the gatekeeper has seen is what the hand has seen, without the oracle's log
  pub one_account : seen_of_gate m.gate m.notes ≡ without_oracle (seen_by new)
  one_account =
      let first : seen_of_gate m.gate m.notes ≡ account_of_gate gate m.gate.log (map seen_by_note m.notes.gates.items) (seen_by_note m.notes.store)
      (map seen_by_note m.notes.shards.items) =
      ap (λ (h : ℕ). account_of_gate h m.gate.log (map seen_by_note m.notes.gates.items) (seen_by_note m.notes.store) (map seen_by_note m.notes.shards.items)) machine.home in
      let rest : seen_by_gate_passes gate m.gate.log now.gates.items now.store now.shards.items ≡ without_oracle (seen_by new) =
      λ i. record {
        gates = gates_seen i;
        store = store_entries (seen_by_pass (sym left.store i));
        oracle = [];
        shards = map shard_entries (map seen_by_pass (sym left.shards i));
        sessions = [];
      } in
      first ∙ (machine.notes m.gate.log ∙ rest)

  legal_new : AreLegal (length shared.gates.items) (length shared.shards.items) (seen_by new)
  legal_new =
      let its : AreLegal (length shared.gates.items) (length shared.shards.items) (without_oracle (seen_by new)) =
      subst (λ (z : ℕ × ℕ × Account). AreLegal z.0 z.1 z.2) (λ i. (machine.gates i, machine.shards i, one_account i)) kept.legal in
      record {
        gate_logs = its.gate_logs;
        hears = its.hears;
        store_log = its.store_log;
        oracle_log = subst (λ (l : Log OracleDeed). IsOracleLog (oracle_entries l)) (sym oracle_same) hand.legal.oracle_log;
        shard_logs = its.shard_logs;
      }

  -- and so all that the gatekeeper's entries refer to
  pub refers_new : GateRefersWithin (length shared.shards.items) (seen_by new) gate
  refers_new prior entry after is =
      let its : GateRefersWithin (length shared.shards.items) (without_oracle (seen_by new)) gate =
      subst (λ (z : ℕ × Account × ℕ). GateRefersWithin z.0 z.1 z.2) (λ i. (machine.shards i, one_account i, machine.home i)) kept.refers in
      rules.stays (length shared.gates.items) (length shared.shards.items) (without_oracle (seen_by new)) (seen_by new)
      (λ k. ([], sym (append-nil (gate_log (seen_by new) k)))) ([], sym (append-nil (seen_by new).store))
      (λ k. ([], sym (append-nil (shard_log (seen_by new) k)))) legal_new.shard_logs prior entry.author entry.deed (its prior entry after is)

  shard_adds : (k : ℕ) → AddsNone shard_author number (shard_log (seen_by old) k) (shard_log (seen_by new) k)
  shard_adds k = shard_none laws number (map seen_by_pass old.gates.items) (map seen_by_pass new.gates.items) (seen_by_pass old.store) (seen_by_pass new.store)
      (seen_by_pass old.oracle) (seen_by_pass new.oracle) (map seen_by_pass old.shards.items) (map seen_by_pass new.shards.items) k (shard_goes k)

  oracle_adds : AddsNone oracle_author number (seen_by old).oracle (seen_by new).oracle
  oracle_adds = oracle_none laws number (map seen_by_pass old.gates.items) (map seen_by_pass new.gates.items) (seen_by_pass old.store) (seen_by_pass new.store)
      (seen_by_pass old.oracle) (seen_by_pass new.oracle) (map seen_by_pass old.shards.items) (map seen_by_pass new.shards.items) oracle_goes

  has_added : HasAdded (length shared.shards.items) number (start_of shared) (seen_by old) (seen_by new)
  has_added = record {
    gates_are = λ k. dite (ℕ_discrete k gate)
        (λ e. inr (subst (λ (j : ℕ). GateRefersWithin (length shared.shards.items) (seen_by new) j) (sym e) refers_new))
        (λ ne. inl (gate_none laws number (map seen_by_pass old.gates.items) (map seen_by_pass new.gates.items) (seen_by_pass old.store) (seen_by_pass new.store)
        (seen_by_pass old.oracle) (seen_by_pass new.oracle) (map seen_by_pass old.shards.items) (map seen_by_pass new.shards.items) k (gate_goes k ne)));
    store_is = inl (store_none laws number (map seen_by_pass old.gates.items) (map seen_by_pass new.gates.items) (seen_by_pass old.store) (seen_by_pass new.store)
        (seen_by_pass old.oracle) (seen_by_pass new.oracle) (map seen_by_pass old.shards.items) (map seen_by_pass new.shards.items) store_goes);
    oracle_is = inl oracle_adds;
    asked = asked_none number (seen_by old) (seen_by new) oracle_adds;
    shards_are = λ k. inl (shard_adds k);
    asks_once = asks_none number (start_of shared) (seen_by old) (seen_by new) hand.seen.starts shard_adds;
  }

  number_same : hand_number new ≡ number
  number_same = ap (λ (x : Pass StoreDeed). number_of x) left.store ∙ other.store_sees.number

  seen_new : IsSeenByHand (length shared.shards.items) (hand_number new) (start_of shared) (seen_by new)
  seen_new = subst (λ (n : ℕ). IsSeenByHand (length shared.shards.items) n (start_of shared) (seen_by new)) (sym number_same)
      (hand_goes_on (length shared.shards.items) number (start_of shared) (seen_by old) (seen_by new) has_added laws
      (length shared.gates.items) hand.seen more_seen legal_new)

  gates_ready : AreReady shared.gates.items new.gates.items
  gates_ready k c d few = dite (ℕ_discrete k gate)
      (λ e. subst (λ (j : ℕ). IsReady (lock_of (get_or shared.gates.items j c)) (get_or new.gates.items j d)) (sym e)
      (subst (λ (x : Pass GateDeed). IsReady (lock_of (get_or shared.gates.items gate c)) x) (sym (at d)) (left.ready c)))
      (λ ne. subst (λ (x : Pass GateDeed). IsReady (lock_of (get_or shared.gates.items k c)) x) (sym (besides k d ne))
      (other.gates_ready k c d few ne))

  gate_numbers : All (λ (x : Pass GateDeed). number_of x ≡ hand_number new) new.gates.items
  gate_numbers k d few = dite (ℕ_discrete k gate)
      (λ e. subst (λ (j : ℕ). number_of (get_or new.gates.items j d) ≡ hand_number new) (sym e)
      (ap (λ (x : Pass GateDeed). number_of x) (at d) ∙ (left.number ∙ sym number_same)))
      (λ ne.
      let within : k < length old.gates.items = omega (arith, few, many) in
      ap (λ (x : Pass GateDeed). number_of x) (besides k d ne) ∙ ((other.gates_see k d within ne).number
      ∙ (hand.gate_numbers k d within ∙ sym number_same)))

  shard_numbers : All (λ (x : Pass ShardDeed). number_of x ≡ hand_number new) new.shards.items
  shard_numbers k d few =
      let within : k < length old.shards.items = omega (arith, few, ap (λ (l : List (Pass ShardDeed)). length l) left.shards, other.shards) in
      ap (λ (l : List (Pass ShardDeed)). number_of (get_or l k d)) left.shards ∙ ((other.shards_see k d within).number
      ∙ (hand.shard_numbers k d within ∙ sym number_same))

  -- so it is a hand again: all its passes are ready, and it has seen what its entries refer to
  pub hand_again : IsHand shared new
  hand_again = record {
    gates = many ∙ hand.gates;
    shards = ap (λ (l : List (Pass ShardDeed)). length l) left.shards ∙ (other.shards ∙ hand.shards);
    gates_ready = gates_ready;
    store_ready = subst (λ (x : Pass StoreDeed). IsReady (lock_of shared.store) x) (sym left.store) other.store_ready;
    oracle_ready = subst (λ (x : Pass OracleDeed). IsReady (lock_of shared.oracle) x) (sym (left.oracle ∙ other.oracle_is)) hand.oracle_ready;
    shards_ready = subst (λ (l : List (Pass ShardDeed)). AreReady shared.shards.items l) (sym left.shards) other.shards_ready;
    gate_numbers = gate_numbers;
    oracle_number = ap (λ (x : Pass OracleDeed). number_of x) (left.oracle ∙ other.oracle_is) ∙ (hand.oracle_number ∙ sym number_same);
    shard_numbers = shard_numbers;
    legal = legal_new;
    seen = seen_new;
  }

  -- What the hold was

  log_left : gate_log (seen_by new) gate ≡ before ++ added
  log_left = laws.at_gate (map seen_by_pass new.gates.items) (seen_by_pass new.store) (seen_by_pass new.oracle) (map seen_by_pass new.shards.items) gate
      ∙ (ap (λ (l : Log GateDeed). gate_entries l) seen_there ∙ (laws.gate_records m.gate.log ∙ machine.log))

  -- its own entries there
  own_there : (d : Pass GateDeed) → own_entries p ≡ own_entries (get_or old.gates.items gate d) ++ gate_pairs added
  own_there d =
      ap (λ (n : ℕ). entries_of n (seen_by_pass p)) left.number
      ∙ (ap (λ (l : Log GateDeed). entries_of number l) (left.seen_is ∙ longer_log)
      ∙ (filter-append (λ (e : ℕ × GateDeed). eqb e.0 number) (gate_pairs before) (gate_pairs added)
      ∙ (ap (λ (l : Log GateDeed). l ++ entries_of number (gate_pairs added)) (found.own_is d)
      ∙ ap (λ (l : Log GateDeed). own_entries (get_or old.gates.items gate d) ++ l) (all_own number added machine.by))))

  made_besides : (k : ℕ) → k ≢ gate → get_or (map own_entries new.gates.items) k [] ≡ get_or (map own_entries old.gates.items) k []
  made_besides k ne = elim (cases_lt k (length old.gates.items)) [
    | inl few ↦
        let d = one_of old.gates.items k few in
        get_or-map own_entries new.gates.items k d [] (omega (arith, few, many)) ∙ (ap (λ (x : Pass GateDeed). own_entries x) (besides k d ne)
        ∙ ((other.gates_see k d few ne).own_is ∙ sym (get_or-map own_entries old.gates.items k d [] few)))
    | inr past ↦
        get_or_past (map own_entries new.gates.items) k [] (omega (arith, length-map new.gates.items own_entries, many, past))
        ∙ sym (get_or_past (map own_entries old.gates.items) k [] (omega (arith, length-map old.gates.items own_entries, past)))
  ]

  made_gates : map own_entries new.gates.items ≡ set (map own_entries old.gates.items) gate (get_or (map own_entries old.gates.items) gate [] ++ gate_pairs added)
  made_gates =
      let xs = map own_entries new.gates.items in
      let zs = map own_entries old.gates.items in
      let mine = get_or zs gate [] ++ gate_pairs added in
      let d0 = one_of old.gates.items gate low_old in
      let long : length xs ≡ length (set zs gate mine) =
      omega (arith, length-map new.gates.items own_entries, length-map old.gates.items own_entries, length-set zs gate mine, many) in
      let within : gate < length zs = omega (arith, low_old, length-map old.gates.items own_entries) in
      alike [] xs (set zs gate mine) long (λ k. dite (ℕ_discrete k gate)
      (λ e. subst (λ (j : ℕ). get_or xs j [] ≡ get_or (set zs gate mine) j []) (sym e)
      (get_or-map own_entries new.gates.items gate d0 [] (omega (arith, low_old, many)) ∙ (ap (λ (x : Pass GateDeed). own_entries x) (at d0)
      ∙ (own_there d0 ∙ (ap (λ (l : Log GateDeed). l ++ gate_pairs added) (sym (get_or-map own_entries old.gates.items gate d0 [] low_old))
      ∙ sym (get_or-set_same zs gate mine [] within))))))
      (λ ne. made_besides k ne ∙ sym (get_or-set_other zs gate k mine [] ne)))

  made_shards : map own_entries new.shards.items ≡ map own_entries old.shards.items
  made_shards = mapped_alike own_entries own_entries old.shards.items new.shards.items
      (ap (λ (l : List (Pass ShardDeed)). length l) left.shards ∙ other.shards) (λ k a b few.
      ap (λ (l : List (Pass ShardDeed)). own_entries (get_or l k b)) left.shards ∙ ((other.shards_see k b few).own_is
      ∙ ap (λ (x : Pass ShardDeed). own_entries x) (get_or_default old.shards.items k b a few)))

  made_new : made_by new ≡ with_gate_entries gate added (made_by old)
  made_new =
      let G : Log GateDeed → List GateEntry = λ l. gate_entries l in
      let zs = map own_entries old.gates.items in
      let mine = get_or zs gate [] ++ gate_pairs added in
      let was : gate_log (made_by old) gate ≡ gate_entries (get_or zs gate []) =
      laws.at_gate zs (own_entries old.store) (own_entries old.oracle) (map own_entries old.shards.items) gate in
      let entry : G mine ≡ gate_log (made_by old) gate ++ added = map-append gate_entry (get_or zs gate []) (gate_pairs added)
      ∙ λ i. sym was i ++ laws.gate_records added i in
      let there : map G (map own_entries new.gates.items) ≡ set (map G zs) gate (gate_log (made_by old) gate ++ added) =
      ap (λ (l : List (Log GateDeed)). map G l) made_gates ∙ (map-set G zs gate mine
      ∙ ap (λ (l : List GateEntry). set (map G zs) gate l) entry) in
      let store_is : own_entries new.store ≡ own_entries old.store = ap (λ (x : Pass StoreDeed). own_entries x) left.store ∙ other.store_sees.own_is in
      let oracle_is : own_entries new.oracle ≡ own_entries old.oracle = ap (λ (x : Pass OracleDeed). own_entries x) (left.oracle ∙ other.oracle_is) in
      λ i. record {
        gates = there i;
        store = store_entries (store_is i);
        oracle = oracle_entries (oracle_is i);
        shards = map shard_entries (made_shards i);
        sessions = [];
      }

  -- the hand was in the gatekeeper's lock, and added these entries there and nothing else
  pub was_at_gate : WasAtGate (length shared.shards.items) old new gate before added
  was_at_gate = record {
    number = number_same;
    found = log_found laws old gate before low_old found;
    left = log_left;
    made = made_new;
    more = more_seen;
    refers = refers_new;
    clock = rules.own_clock (length shared.shards.items) (seen_by new) gate refers_new (omega (arith, low, shared.framed.few_gates));
  }
