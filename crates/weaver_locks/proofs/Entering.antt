-- A hand enters the lock of a gatekeeper, whose notes meet its other passes.
-- Used by `enter_gate`, Leaving and Sending.
use Rattle.std.proofs.Common.{◌≡◌, ℕ, ◌<◌, List, [], ◌∷◌, ◌++◌, length, map, get_or, set, refl, sym, ap, ◌∙◌, subst, arith}
use Rattle.std.proofs.lemmas.List.{append-nil, get_or-map, get_or_default, get_or-set_same, get_or-set_other, length-map, length-set, map-append, map-set, set-get_or, set-set}
use Rattle.std.proofs.lemmas.List.Elements.{All-nil}
use mathlib.Core.List.{IsPrefix}
use mathlib.Core.Logic.{dite}
use native.Mathlib.Decide.{ℕ_discrete}
use Rattle.weave_entries.specs.declared.gate_log.GateDeed.{GateDeed}
use Rattle.weave_entries.specs.declared.gate_log.GateEntry.{GateEntry}
use Rattle.weave_entries.specs.declared.shard_log.ShardDeed.{ShardDeed}
use Rattle.weave_account.specs.declared.account.Account.{Account}
use Rattle.weave_account.specs.Account.{gate_log, shard_log}
use Rattle.weave_account.specs.GoesOn.{IsBeginningOf}
use Rattle.gatekeeper.specs.Gates.{GateView}
use Rattle.seen_logs.specs.Entries.{gate_entries, gate_entry, gate_pairs, shard_entries, store_entries}
use Rattle.seen_logs.specs.Seen.{AreLegal, IsWithin}
use Rattle.chronicle.specs.declared.chronicle.Chronicle.{Chronicle}
use Rattle.chronicle.specs.declared.held.Held.{Held}
use Rattle.chronicle.specs.declared.note.Note.{Note}
use Rattle.chronicle.specs.declared.pass.Pass.{Pass}
use Rattle.chronicle.specs.Frames.{Frame}
use Rattle.chronicle.specs.Holds.{log_at_entry, lock_in, machine_of, WentInWith}
use Rattle.chronicle.specs.Locks.{Lock, lock_of, name_of}
use Rattle.chronicle.specs.Logs.{Log, entries_of}
use Rattle.chronicle.specs.Passes.{IsReady, seen_by_note, number_of, own_entries, seen_by_pass}
use Rattle.lock_row.specs.Meetings.{AllMet, HaveMet}
use Rattle.lock_row.specs.Rows.{names_of}
use Rattle.lock_row.proofs.Lists.{one_of}
use Rattle.gate_lock.specs.declared.noted_gate.NotedGate.{NotedGate}
use Rattle.gate_lock.specs.Frames.{AreReadyBut, gate_frame}
use Rattle.gate_lock.specs.Notes.{GateIsKept, account_of_gate, frame_of_gate, seen_by_gate_passes, seen_of_gate}
use Rattle.shard_lock.specs.declared.noted_shard.NotedShard.{NotedShard}
use Rattle.weaver_locks.specs.declared.hand.Hand.{Hand}
use Rattle.weaver_locks.specs.declared.shared.Shared.{Shared}
use Rattle.weaver_locks.specs.HandLaws.{HandLaws}
use Rattle.weaver_locks.specs.Hands.{IsHand, hand_number, seen_by}
use Rattle.weaver_locks.specs.InGate.{HasFoundLog, IsInGate, SeesElsewhere, without_oracle}
use Rattle.weaver_locks.specs.Onward.{OnlySees}
use Rattle.weaver_locks.proofs.FrameParts.{first_of}
use Rattle.weaver_locks.proofs.HandParts.{has_gate}

-- what a log that was seen begins
pub log_found : HandLaws → (old : Hand) (gate : ℕ) (before : List GateEntry) → gate < length old.gates.items → HasFoundLog old gate before
    → IsBeginningOf (gate_log (seen_by old) gate) before
log_found laws old gate before low found =
    let d = one_of old.gates.items gate low in
    let had = found.more d in
    let was : gate_log (seen_by old) gate ≡ gate_entries (seen_by_pass (get_or old.gates.items gate d)) =
    laws.at_gate (map seen_by_pass old.gates.items) (seen_by_pass old.store) (seen_by_pass old.oracle) (map seen_by_pass old.shards.items) gate
    ∙ ap (λ (l : Log GateDeed). gate_entries l) (get_or-map seen_by_pass old.gates.items gate d [] low) in (
      gate_entries had.0,
      sym (laws.gate_records before) ∙ (ap (λ (l : Log GateDeed). gate_entries l) (sym had.1)
          ∙ (map-append gate_entry (seen_by_pass (get_or old.gates.items gate d)) had.0 ∙ ap (λ (l : List GateEntry). l ++ gate_entries had.0) (sym was))),
    )

-- a pass that met a note only sees more
only_sees : {E : Type 0} (lock : Lock E) (p q : Pass E) (n m : Note E) → HaveMet lock p q n m → OnlySees p q
only_sees lock p q n m h = record { number = h.number; own_is = h.own_is; more = h.pass_before }

-- the gatekeeper as it was found: with a frame and a log
pub record HasEntered (shared : Shared) (old : Hand) (gate : ℕ) (q : Pass GateDeed) (held : Held NotedGate GateDeed) (found : NotedGate)
    : Type 0 where
  pub frame : (c : Chronicle NotedGate GateDeed) → frame_of_gate found.gate found.notes ≡ (lock_of (get_or shared.gates.items gate c)).frame
  pub more : (p : Pass GateDeed) → IsPrefix (seen_by_pass (get_or old.gates.items gate p)) (gate_pairs found.gate.log)
  pub own_is : (p : Pass GateDeed) → entries_of (number_of (get_or old.gates.items gate p)) (gate_pairs found.gate.log)
      ≡ own_entries (get_or old.gates.items gate p)
  pub entry : log_at_entry held ≡ gate_pairs found.gate.log
  pub lock : (c : Chronicle NotedGate GateDeed) → lock_in held ≡ lock_of (get_or shared.gates.items gate c)
  pub went : WentInWith q held
  pub number : (p : Pass GateDeed) → number_of q ≡ number_of (get_or old.gates.items gate p)

-- its notes have met the passes, of which these lists are
pub record HasMet (shared : Shared) (old now : Hand) (gate : ℕ) (q : Pass GateDeed) (found met : NotedGate)
    (locks : List (Chronicle NotedGate GateDeed)) (gates : List (Pass GateDeed)) (shard_locks : List (Chronicle NotedShard ShardDeed))
    (shards : List (Pass ShardDeed)) (gates_now : List (Pass GateDeed)) (shards_now : List (Pass ShardDeed)) : Type 0 where
  pub gate_is : met.gate ≡ found.gate
  pub frame : frame_of_gate met.gate met.notes ≡ frame_of_gate found.gate found.notes
  pub gates_met : AllMet locks (set gates gate q) gates_now found.notes.gates.items met.notes.gates.items gate
  pub store_met : HaveMet (lock_of shared.store) old.store now.store found.notes.store met.notes.store
  pub shards_met : AllMet shard_locks shards shards_now found.notes.shards.items met.notes.shards.items (length shard_locks)
  pub oracle : now.oracle ≡ old.oracle
  pub gate_passes : length gates_now ≡ length (set gates gate q)
  pub shard_passes : length shards_now ≡ length shards
  pub pass : (d : Pass GateDeed) → get_or gates_now gate d ≡ get_or (set gates gate q) gate d
  pub same : seen_of_gate met.gate met.notes ≡ seen_by_gate_passes gate met.gate.log gates_now now.store shards_now
  pub before : (own_entries : List GateEntry) → IsBeginningOf own_entries met.gate.log
      → IsWithin (seen_by_gate_passes gate own_entries (set gates gate q) old.store shards) (seen_of_gate met.gate met.notes)

module _ (shared : Shared) (old now : Hand) (gate : ℕ) (q : Pass GateDeed) (found met : NotedGate)
    (locks : List (Chronicle NotedGate GateDeed)) (gates : List (Pass GateDeed)) (shard_locks : List (Chronicle NotedShard ShardDeed))
    (shards : List (Pass ShardDeed)) (gates_now : List (Pass GateDeed)) (shards_now : List (Pass ShardDeed)) where
  -- the lists are those of the locks and the hand
  pub met_there : locks ≡ shared.gates.items → gates ≡ old.gates.items → shard_locks ≡ shared.shards.items → shards ≡ old.shards.items
      → now.gates.items ≡ gates_now → now.shards.items ≡ shards_now
      → HasMet shared old now gate q found met locks gates shard_locks shards gates_now shards_now
      → HasMet shared old now gate q found met shared.gates.items old.gates.items shared.shards.items old.shards.items now.gates.items
      now.shards.items
  met_there a b c d e f h =
      let P : List (Chronicle NotedGate GateDeed) × List (Pass GateDeed) × List (Chronicle NotedShard ShardDeed) × List (Pass ShardDeed) ×
      List (Pass GateDeed) × List (Pass ShardDeed) → Type 0 =
      λ z. HasMet shared old now gate q found met z.0 z.1 z.2 z.3 z.4 z.5 in
      subst P (λ i. (a i, b i, c i, d i, sym e i, sym f i)) h

-- the lock and the pass of a call are those of the gatekeeper
module _ (shared : Shared) (old : Hand) (gate : ℕ) (q d : Pass GateDeed) (held : Held NotedGate GateDeed) (found machine : NotedGate)
    (a : Chronicle NotedGate GateDeed) (locks : List (Chronicle NotedGate GateDeed)) (gates : List (Pass GateDeed))
    (low : gate < length shared.gates.items) (low_old : gate < length old.gates.items) (at_locks : locks ≡ shared.gates.items)
    (at_gates : gates ≡ old.gates.items) (a_is : a ≡ get_or locks gate a) (same : found ≡ machine) where
  lock_there : (c : Chronicle NotedGate GateDeed) → a ≡ get_or shared.gates.items gate c
  lock_there c =
      a_is ∙ (ap (λ (l : List (Chronicle NotedGate GateDeed)). get_or l gate a) at_locks ∙ get_or_default shared.gates.items gate a c low)

  pass_there : (p : Pass GateDeed) → get_or gates gate d ≡ get_or old.gates.items gate p
  pass_there p = ap (λ (l : List (Pass GateDeed)). get_or l gate d) at_gates ∙ get_or_default old.gates.items gate d p low_old

  log_there : machine.gate.log ≡ found.gate.log
  log_there = ap (λ (n : NotedGate). n.gate.log) (sym same)

  -- what it is to have entered by them
  pub entered_by : frame_of_gate machine.gate machine.notes ≡ (lock_of a).frame → IsPrefix (seen_by_pass (get_or gates gate d)) (gate_pairs machine.gate.log)
      → entries_of (number_of (get_or gates gate d)) (gate_pairs machine.gate.log) ≡ own_entries (get_or gates gate d)
      → log_at_entry held ≡ gate_pairs machine.gate.log → lock_in held ≡ lock_of a → WentInWith q held
      → number_of q ≡ number_of (get_or gates gate d) → HasEntered shared old gate q held found
  entered_by framed more mine entry lock went number = record {
    frame = λ c. ap (λ (n : NotedGate). frame_of_gate n.gate n.notes) same
        ∙ (framed ∙ ap (λ (l : Chronicle NotedGate GateDeed). (lock_of l).frame) (lock_there c));
    more = λ p. subst (λ (z : Pass GateDeed × List GateEntry). IsPrefix (seen_by_pass z.0) (gate_pairs z.1)) (λ i. (pass_there p i, log_there i)) more;
    own_is = λ p. subst (λ (z : Pass GateDeed × List GateEntry). entries_of (number_of z.0) (gate_pairs z.1) ≡ own_entries z.0)
        (λ i. (pass_there p i, log_there i)) mine;
    entry = entry ∙ ap (λ (l : List GateEntry). gate_pairs l) log_there;
    lock = λ c. lock ∙ ap (λ (l : Chronicle NotedGate GateDeed). lock_of l) (lock_there c);
    went = went;
    number = λ p. number ∙ ap (λ (y : Pass GateDeed). number_of y) (pass_there p);
  }

module _ (laws : HandLaws) (shared : Shared) (old : Hand) (gate : ℕ) (low : gate < length shared.gates.items) (hand : IsHand shared old)
    (q : Pass GateDeed) where
  -- What the meeting asks

  -- whatever pass is in the gatekeeper's place, those of the other gatekeepers' locks are ready
  pub ready_but : AreReadyBut gate shared.gates.items (set old.gates.items gate q)
  ready_but k c p few ne = subst (λ (x : Pass GateDeed). IsReady (lock_of (get_or shared.gates.items k c)) x)
      (sym (get_or-set_other old.gates.items gate k q p ne)) (hand.gates_ready k c p few)

  -- the lock's frame lists the gatekeeper's number, how many gatekeepers and shards there are, and the locks' names
  pub frame_at : (f : Frame) → ((c : Chronicle NotedGate GateDeed) → f ≡ (lock_of (get_or shared.gates.items gate c)).frame)
      → f ≡ gate_frame gate (length shared.gates.items) (length shared.shards.items) (names_of shared.gates.items)
      (name_of (lock_of shared.store)) (names_of shared.shards.items)
  frame_at f is = let c = one_of shared.gates.items gate low in
      is c ∙ shared.framed.gate_frames gate c low

  abbrev logs : List (List GateEntry)
  logs = map gate_entries (map seen_by_pass old.gates.items)

  gates_with : (own_entries : List GateEntry) → set (map gate_entries (map seen_by_pass (set old.gates.items gate q))) gate own_entries ≡ set logs gate own_entries
  gates_with own_entries =
      let G : Log GateDeed → List GateEntry = λ l. gate_entries l in
      ap (λ (l : List (Log GateDeed)). set (map G l) gate own_entries) (map-set seen_by_pass old.gates.items gate q)
      ∙ (ap (λ (l : List (List GateEntry)). set l gate own_entries) (map-set G (map seen_by_pass old.gates.items) gate (seen_by_pass q))
      ∙ set-set logs gate (G (seen_by_pass q)) own_entries)

  -- the passes have seen what the hand had, with another log in the gatekeeper's place
  passes_with : (own_entries : List GateEntry)
      → seen_by_gate_passes gate own_entries (set old.gates.items gate q) old.store old.shards.items
      ≡ record (without_oracle (seen_by old)) { gates = set logs gate own_entries }
  passes_with own_entries = λ i. record {
    gates = gates_with own_entries i;
    store = store_entries (seen_by_pass old.store);
    oracle = [];
    shards = map shard_entries (map seen_by_pass old.shards.items);
    sessions = [];
  }

  emptied_on : IsWithin (record (without_oracle (seen_by old)) { gates = set logs gate [] }) (seen_by old)
  emptied_on = record {
    gates = λ k. dite (ℕ_discrete k gate)
        (λ e. subst (λ (j : ℕ). IsBeginningOf (get_or (set logs gate []) j []) (get_or logs j [])) (sym e)
        (subst (λ (l : List GateEntry). IsBeginningOf l (get_or logs gate []))
        (sym (get_or-set_same logs gate [] [] (omega (
          arith,
          has_gate shared old hand gate low,
          length-map (map seen_by_pass old.gates.items) gate_entries,
          length-map old.gates.items seen_by_pass,
        )))) (get_or logs gate [], refl)))
        (λ ne. subst (λ (l : List GateEntry). IsBeginningOf l (get_or logs k [])) (sym (get_or-set_other logs gate k [] [] ne))
        ([], sym (append-nil (get_or logs k []))));
    store = ([], sym (append-nil (seen_by old).store));
    oracle = ((seen_by old).oracle, refl);
    shards = λ k. ([], sym (append-nil (shard_log (seen_by old) k)));
  }

  -- what the hand's passes have seen is legal, with an empty log in the gatekeeper's place
  pub legal_there : AreLegal (length shared.gates.items) (length shared.shards.items)
      (seen_by_gate_passes gate [] (set old.gates.items gate q) old.store old.shards.items)
  legal_there = subst (AreLegal (length shared.gates.items) (length shared.shards.items)) (sym (passes_with []))
      (laws.legal_before (length shared.gates.items) (length shared.shards.items) (record (without_oracle (seen_by old)) { gates = set logs gate [] })
      (seen_by old) emptied_on hand.legal)

  -- What follows

  module _ (now : Hand) (held : Held NotedGate GateDeed) (found : NotedGate) (entered : HasEntered shared old gate q held found)
      (met : HasMet shared old now gate q found (machine_of held) shared.gates.items old.gates.items shared.shards.items
      old.shards.items now.gates.items now.shards.items)
      (kept : GateIsKept (machine_of held).gate (machine_of held).notes) where
    abbrev m : NotedGate
    m = machine_of held

    framed_as : frame_of_gate m.gate m.notes ≡ gate_frame gate (length shared.gates.items) (length shared.shards.items)
        (names_of shared.gates.items) (name_of (lock_of shared.store)) (names_of shared.shards.items)
    framed_as = frame_at (frame_of_gate m.gate m.notes) (λ c. met.frame ∙ entered.frame c)

    number_at : (k : ℕ) → get_or (m.gate.home ∷ m.gate.gates ∷ m.gate.shards ∷ []) k 0
        ≡ get_or (gate ∷ length shared.gates.items ∷ length shared.shards.items ∷ []) k 0
    number_at k = ap (λ (f : Frame). get_or (first_of f) k 0) framed_as

    home_is : m.gate.home ≡ gate
    home_is = number_at 0

    gates_are : m.gate.gates ≡ length shared.gates.items
    gates_are = number_at 1

    shards_are : m.gate.shards ≡ length shared.shards.items
    shards_are = number_at 2

    gate_note : (k : ℕ) → k < length shared.gates.items → Note GateDeed
    gate_note k few = one_of m.notes.gates.items k (omega (arith, few, kept.gates, gates_are))

    shard_note : (k : ℕ) → k < length shared.shards.items → Note ShardDeed
    shard_note k few = one_of m.notes.shards.items k (omega (arith, few, kept.shards, shards_are))

    pass_is : (d : Pass GateDeed) → get_or now.gates.items gate d ≡ q
    pass_is d = met.pass d ∙ get_or-set_same old.gates.items gate q d (has_gate shared old hand gate low)

    elsewhere : SeesElsewhere shared old now gate
    elsewhere = record {
      gates = met.gate_passes ∙ length-set old.gates.items gate q;
      gates_ready = λ k c p few ne. (met.gates_met k c p (gate_note k few) few ne).ready;
      gates_see = λ k p few ne.
          let within : k < length shared.gates.items = omega (arith, few, hand.gates) in
          subst (λ (x : Pass GateDeed). OnlySees x (get_or now.gates.items k p)) (get_or-set_other old.gates.items gate k q p ne)
          (only_sees _ _ _ _ _ (met.gates_met k (one_of shared.gates.items k within) p (gate_note k within) within ne));
      gate_number = λ p. ap (λ (x : Pass GateDeed). number_of x) (pass_is p) ∙ (entered.number p ∙ hand.gate_numbers gate p (has_gate shared old hand gate low));
      store_ready = met.store_met.ready;
      store_sees = only_sees _ _ _ _ _ met.store_met;
      oracle_is = met.oracle;
      shards = met.shard_passes;
      shards_ready = λ k c p few. (met.shards_met k c p (shard_note k few) few (λ e. omega (arith, few, e))).ready;
      shards_see = λ k p few.
          let within : k < length shared.shards.items = omega (arith, few, hand.shards) in
          only_sees _ _ _ _ _ (met.shards_met k (one_of shared.shards.items k within) p (shard_note k within) within (λ e. omega (arith, within, e)));
    }

    log_is : m.gate.log ≡ found.gate.log
    log_is = ap (λ (v : GateView). v.log) met.gate_is

    has_found : HasFoundLog old gate m.gate.log
    has_found = record {
      more = λ p. subst (λ (l : List GateEntry). IsPrefix (seen_by_pass (get_or old.gates.items gate p)) (gate_pairs l)) (sym log_is) (entered.more p);
      own_is = λ p.
          ap (λ (l : List GateEntry). entries_of (hand_number old) (gate_pairs l)) log_is
          ∙ (ap (λ (n : ℕ). entries_of n (gate_pairs found.gate.log)) (sym (hand.gate_numbers gate p (has_gate shared old hand gate low))) ∙ entered.own_is p);
    }

    -- the account with another log in the gatekeeper's place
    abbrev put : List GateEntry → Account → Account
    put own_entries account = record account { gates = set account.gates gate own_entries }

    notes_have : (own_entries : List GateEntry)
        → account_of_gate gate own_entries (map seen_by_note m.notes.gates.items) (seen_by_note m.notes.store) (map seen_by_note m.notes.shards.items)
        ≡ seen_by_gate_passes gate own_entries now.gates.items now.store now.shards.items
    notes_have own_entries =
        let N = map gate_entries (map seen_by_note m.notes.gates.items) in
        let P = map gate_entries (map seen_by_pass now.gates.items) in
        let at : account_of_gate gate m.gate.log (map seen_by_note m.notes.gates.items) (seen_by_note m.notes.store) (map seen_by_note m.notes.shards.items)
        ≡ seen_by_gate_passes gate m.gate.log now.gates.items now.store now.shards.items =
        ap (λ (h : ℕ). account_of_gate h m.gate.log (map seen_by_note m.notes.gates.items) (seen_by_note m.notes.store) (map seen_by_note m.notes.shards.items))
        (sym home_is) ∙ met.same in
        let first : account_of_gate gate own_entries (map seen_by_note m.notes.gates.items) (seen_by_note m.notes.store) (map seen_by_note m.notes.shards.items)
        ≡ put own_entries (account_of_gate gate m.gate.log (map seen_by_note m.notes.gates.items) (seen_by_note m.notes.store) (map seen_by_note m.notes.shards.items)) =
        λ i. record {
          gates = sym (set-set N gate m.gate.log own_entries) i;
          store = store_entries (seen_by_note m.notes.store);
          oracle = [];
          shards = map shard_entries (map seen_by_note m.notes.shards.items);
          sessions = [];
        } in
        let last : put own_entries (seen_by_gate_passes gate m.gate.log now.gates.items now.store now.shards.items)
        ≡ seen_by_gate_passes gate own_entries now.gates.items now.store now.shards.items =
        λ i. record {
          gates = set-set P gate m.gate.log own_entries i;
          store = store_entries (seen_by_pass now.store);
          oracle = [];
          shards = map shard_entries (map seen_by_pass now.shards.items);
          sessions = [];
        } in
        first ∙ (ap (put own_entries) at ∙ last)

    -- so the hand is in the gatekeeper's lock, and has added nothing there yet
    pub is_in_gate : IsInGate shared old now gate m.gate.log [] held
    is_in_gate = record {
      elsewhere = elsewhere;
      found = has_found;
      hold = record {
        went = λ p. subst (λ (x : Pass GateDeed). WentInWith x held) (sym (pass_is p)) entered.went;
        lock = entered.lock;
        entry = entered.entry ∙ ap (λ (l : List GateEntry). gate_pairs l) (sym log_is);
      };
      machine = record {
        home = home_is;
        gates = gates_are;
        shards = shards_are;
        frame = λ c. met.frame ∙ entered.frame c;
        log = sym (append-nil m.gate.log);
        by = All-nil (λ (e : GateEntry). e.author ≡ hand_number old);
        notes = notes_have;
      };
    }

    -- the gatekeeper has seen what the hand had
    pub within_gate : IsWithin (without_oracle (seen_by old)) (seen_of_gate m.gate m.notes)
    within_gate =
        let mine = gate_log (seen_by old) gate in
        let same : seen_by_gate_passes gate mine (set old.gates.items gate q) old.store old.shards.items ≡ without_oracle (seen_by old) =
        passes_with mine ∙ ap (λ (l : List (List GateEntry)). let a : Account = record (without_oracle (seen_by old)) { gates = l } in a)
        (set-get_or logs gate []) in
        subst (λ (a : Account). IsWithin a (seen_of_gate m.gate m.notes)) same (met.before mine (log_found laws old gate m.gate.log (has_gate shared old hand gate low) has_found))
