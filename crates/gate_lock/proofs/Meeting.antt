-- What the notes have seen after they met the passes.
-- Used by `meet`.
use Rattle.std.proofs.Common.{◌≡◌, ◌≢◌, inl, inr, ℕ, ◌<◌, ◌≤◌, List, [], ◌∷◌, ◌++◌, length, map, get_or, refl, sym, ap, ◌∙◌, subst, arith}
use Rattle.std.proofs.lemmas.Bool.{cases_lt}
use Rattle.std.proofs.lemmas.List.{append-nil, get_or_past, length-append, length-map, get_or-map}
use Rattle.weave_entries.specs.declared.gate_log.GateDeed.{GateDeed}
use Rattle.weave_entries.specs.declared.gate_log.GateEntry.{GateEntry}
use Rattle.weave_entries.specs.declared.shard_log.ShardDeed.{ShardDeed}
use Rattle.weave_entries.specs.declared.store_log.StoreDeed.{StoreDeed}
use Rattle.weave_account.specs.Account.{gate_log}
use Rattle.weave_account.specs.GoesOn.{IsBeginningOf}
use Rattle.gatekeeper.specs.Gates.{GateView}
use Rattle.seen_logs.specs.References.{GateRefersAs}
use Rattle.seen_logs.specs.Seen.{AreLegal, IsWithin}
use Rattle.chronicle.specs.declared.chronicle.Chronicle.{Chronicle}
use Rattle.chronicle.specs.declared.pass.Pass.{Pass}
use Rattle.chronicle.specs.declared.note.Note.{Note}
use Rattle.chronicle.specs.Frames.{Frame}
use Rattle.chronicle.specs.Logs.{Log}
use Rattle.chronicle.specs.Locks.{lock_of, name_of}
use Rattle.chronicle.specs.Passes.{seen_by_pass, seen_by_note, lock_noted}
use Rattle.chronicle.proofs.Logs.{head_or, tail_of}
use Rattle.lock_row.specs.Rows.{names_of}
use Rattle.lock_row.specs.Meetings.{AllMet, CanMeet, HaveMet}
use Rattle.lock_row.proofs.Lists.{one_of}
use Rattle.lock_row.proofs.Meetings.{Met, met_of}
use Rattle.gate_lock.specs.declared.notes.GateNotes.{GateNotes}
use Rattle.gate_lock.specs.Frames.{AreReadyBut, gate_frame}
use Rattle.gate_lock.specs.LowerLaws.{LawsForGateNotes}
use Rattle.gate_lock.specs.Notes.{GateIsKept, NotedGateView, frame_of_gate, seen_by_gate_passes, seen_of_gate}
use Rattle.gate_lock.proofs.Accounts.{at_home, grows, legal_now, same_account}
use Rattle.gate_lock.proofs.Lists.{append_parts}

module _ {M E : Type 0} (locks : List (Chronicle M E)) (before after : List (Pass E)) (notes later : List (Note E)) (except : ℕ)
    (met : AllMet locks before after notes later except) (before_long : length before ≡ length locks) (after_long : length after ≡ length locks)
    (notes_long : length notes ≡ length locks) (later_long : length later ≡ length locks) where
  none_past : {A : Type 0} (f : A → Log E) (xs : List A) (k : ℕ) → length xs ≡ length locks → length locks ≤ k → get_or (map f xs) k [] ≡ []
  none_past f xs k long past = get_or_past (map f xs) k [] (omega (arith, length-map xs f, long, past))

  -- at each place but one, and past the last
  pub met_at : (k : ℕ) → (k < length locks → k ≢ except)
      → Met (get_or (map seen_by_pass before) k []) (get_or (map seen_by_pass after) k []) (get_or (map seen_by_note notes) k []) (get_or (map seen_by_note later) k [])
  met_at k other =
      let P : Log E × Log E × Log E × Log E → Type 0 = λ z. Met z.0 z.1 z.2 z.3 in
      elim (cases_lt k (length locks)) [
        | inl low ↦
            let c = one_of locks k low in
            let p = one_of before k (omega (arith, low, before_long)) in
            let n = one_of notes k (omega (arith, low, notes_long)) in
            let a : get_or (map seen_by_pass before) k [] ≡ seen_by_pass (get_or before k p) = get_or-map seen_by_pass before k p [] (omega (arith, low, before_long)) in
            let b : get_or (map seen_by_pass after) k [] ≡ seen_by_pass (get_or after k p) = get_or-map seen_by_pass after k p [] (omega (arith, low, after_long)) in
            let d : get_or (map seen_by_note notes) k [] ≡ seen_by_note (get_or notes k n) = get_or-map seen_by_note notes k n [] (omega (arith, low, notes_long)) in
            let e : get_or (map seen_by_note later) k [] ≡ seen_by_note (get_or later k n) = get_or-map seen_by_note later k n [] (omega (arith, low, later_long)) in
            subst P (λ i. (sym a i, sym b i, sym d i, sym e i)) (met_of _ _ _ _ _ (met k c p n low (other low)))
        | inr past ↦
            let a : get_or (map seen_by_pass before) k [] ≡ [] = none_past seen_by_pass before k before_long past in
            let b : get_or (map seen_by_pass after) k [] ≡ [] = none_past seen_by_pass after k after_long past in
            let d : get_or (map seen_by_note notes) k [] ≡ [] = none_past seen_by_note notes k notes_long past in
            let e : get_or (map seen_by_note later) k [] ≡ [] = none_past seen_by_note later k later_long past in
            subst P (λ i. (sym a i, sym b i, sym d i, sym e i))
            (record { note_on = ([], refl); pass_on = ([], refl); one = refl; either = inl refl })
      ]

-- what the frame says: the numbers, and of which locks the notes are
pub record IsFramed (gate : GateView) (notes : GateNotes) (home gates shards : ℕ) (gate_names : List (List ℕ)) (store_name : List ℕ)
    (shard_names : List (List ℕ)) : Type 0 where
  pub home_is : gate.home ≡ home
  pub gates_are : gate.gates ≡ gates
  pub shards_are : gate.shards ≡ shards
  pub gate_notes : map lock_noted notes.gates.items ≡ gate_names
  pub store_note : lock_noted notes.store ≡ store_name
  pub shard_notes : map lock_noted notes.shards.items ≡ shard_names

-- a gatekeeper with this frame has its home and its numbers, and the notes are of the locks that the frame names
pub framed : (gate : GateView) (notes : GateNotes) (home gates shards : ℕ) (gate_names : List (List ℕ)) (store_name : List ℕ) (shard_names : List (List ℕ))
    → length notes.gates.items ≡ gate.gates → length gate_names ≡ gates
    → frame_of_gate gate notes ≡ gate_frame home gates shards gate_names store_name shard_names
    → IsFramed gate notes home gates shards gate_names store_name shard_names
framed gate notes home gates shards gate_names store_name shard_names noted_all named is =
    let number : (k : ℕ) → get_or (gate.home ∷ gate.gates ∷ gate.shards ∷ []) k 0 ≡ get_or (home ∷ gates ∷ shards ∷ []) k 0 = λ k. ap
    (λ (f : Frame). get_or (head_or [] f) k 0) is in
    let names : map lock_noted notes.gates.items ++ lock_noted notes.store ∷ map lock_noted notes.shards.items ≡ gate_names ++ store_name ∷
    shard_names = ap tail_of is in
    let many : gate.gates ≡ gates = number 1 in
    let long : length (map lock_noted notes.gates.items) ≡ length gate_names = omega
    (arith, length-map notes.gates.items lock_noted, noted_all, named, many) in
    let parts = append_parts (map lock_noted notes.gates.items) gate_names (lock_noted notes.store ∷ map lock_noted notes.shards.items)
    (store_name ∷ shard_names) long names in
    record {
      home_is = number 0;
      gates_are = many;
      shards_are = number 2;
      gate_notes = parts.0;
      store_note = ap (head_or []) parts.1;
      shard_notes = ap tail_of parts.1;
    }

-- notes of the names of a row can meet passes of its locks
pub can_meet : {M E : Type 0} (locks : List (Chronicle M E)) (notes : List (Note E)) (passes : List (Pass E)) (except : ℕ)
    → map lock_noted notes ≡ names_of locks → AreReadyBut except locks passes → CanMeet locks passes notes except
can_meet {M} {E} locks notes passes except named ready k c p n low other =
    let N : Chronicle M E → List ℕ = λ x. name_of (lock_of x) in
    let long : length notes ≡ length locks = omega (arith, length-map notes lock_noted, length-map locks N, ap (λ (l : List (List ℕ)). length l) named) in (
      ready k c p low other,
      sym (get_or-map lock_noted notes k n [] (omega (arith, low, long))) ∙ (ap (λ (l : List (List ℕ)). get_or l k []) named ∙ get_or-map N locks
          k c [] low),
    )

-- The gatekeeper's notes

-- as many passes and notes as locks, before and after
pub record AreAsMany {G H : Type 0} (old new : GateNotes) (gate_locks : List (Chronicle G GateDeed))
    (gates gates_now : List (Pass GateDeed))
    (shard_locks : List (Chronicle H ShardDeed)) (shards shards_now : List (Pass ShardDeed)) : Type 0 where
  pub gate_passes : length gates ≡ length gate_locks
  pub gate_passes_now : length gates_now ≡ length gates
  pub shard_passes : length shards ≡ length shard_locks
  pub shard_passes_now : length shards_now ≡ length shards
  pub gate_notes : length new.gates.items ≡ length old.gates.items
  pub shard_notes : length new.shards.items ≡ length old.shards.items

-- the notes have met the passes
pub record AreMet {G H : Type 0} (gate : GateView) (old new : GateNotes) (gate_locks : List (Chronicle G GateDeed))
    (gates gates_now : List (Pass GateDeed)) (store store_now : Pass StoreDeed)
    (shard_locks : List (Chronicle H ShardDeed))
    (shards shards_now : List (Pass ShardDeed)) : Type 0 where
  pub gate_count : gate.gates ≡ length gate_locks
  pub shard_count : gate.shards ≡ length shard_locks
  pub many : AreAsMany old new gate_locks gates gates_now shard_locks shards shards_now
  pub gates_met : AllMet gate_locks gates gates_now old.gates.items new.gates.items gate.home
  pub store_met : Met (seen_by_pass store) (seen_by_pass store_now) (seen_by_note old.store) (seen_by_note new.store)
  pub shards_met : AllMet shard_locks shards shards_now old.shards.items new.shards.items (length shard_locks)

module _ {G H : Type 0} (gate : GateView) (old new : GateNotes) (gate_locks : List (Chronicle G GateDeed))
    (gates gates_now : List (Pass GateDeed))
    (store store_now : Pass StoreDeed) (shard_locks : List (Chronicle H ShardDeed))
    (shards shards_now : List (Pass ShardDeed))
    (kept : GateIsKept gate old) (met : AreMet gate old new gate_locks gates gates_now store store_now shard_locks shards shards_now) where
  at_gate : (k : ℕ) → k ≢ gate.home
      → Met (get_or (map seen_by_pass gates) k []) (get_or (map seen_by_pass gates_now) k []) (get_or (map seen_by_note old.gates.items) k [])
      (get_or (map seen_by_note new.gates.items) k [])
  at_gate k other =
      let noted_all : length old.gates.items ≡ length gate_locks = omega (arith, kept.gates, met.gate_count) in
      met_at gate_locks gates gates_now old.gates.items new.gates.items gate.home met.gates_met met.many.gate_passes
      (omega (arith, met.many.gate_passes, met.many.gate_passes_now)) noted_all
      (omega (arith, met.many.gate_notes, noted_all)) k (λ low. other)

  at_shard : (k : ℕ) → Met (get_or (map seen_by_pass shards) k []) (get_or (map seen_by_pass shards_now) k []) (get_or (map seen_by_note old.shards.items) k [])
      (get_or (map seen_by_note new.shards.items) k [])
  at_shard k =
      let noted_all : length old.shards.items ≡ length shard_locks = omega (arith, kept.shards, met.shard_count) in
      met_at shard_locks shards shards_now old.shards.items new.shards.items
      (length shard_locks) met.shards_met met.many.shard_passes
      (omega (arith, met.many.shard_passes, met.many.shard_passes_now)) noted_all
      (omega (arith, met.many.shard_notes, noted_all)) k (λ low e. omega (arith, low, e))

  low_old : gate.home < length (map seen_by_note old.gates.items)
  low_old = omega (arith, length-map old.gates.items seen_by_note, kept.gates, kept.home)

  low_new : gate.home < length (map seen_by_note new.gates.items)
  low_new = omega (arith, length-map new.gates.items seen_by_note, met.many.gate_notes, kept.gates, kept.home)

  low_passes : gate.home < length (map seen_by_pass gates)
  low_passes = omega (arith, length-map gates seen_by_pass, met.many.gate_passes, met.gate_count, kept.home)

  -- the notes have seen no less than they had
  pub notes_on : IsWithin (seen_of_gate gate old) (seen_of_gate gate new)
  notes_on = grows gate.home gate.log gate.log (map seen_by_note old.gates.items) (map seen_by_note new.gates.items) (seen_by_note old.store) (seen_by_note new.store)
      (map seen_by_note old.shards.items) (map seen_by_note new.shards.items) low_old low_new ([], sym (append-nil gate.log)) (λ k other. (at_gate k other).note_on)
      met.store_met.note_on (λ k. (at_shard k).note_on)

  -- the gatekeeper with its new notes has seen all that the passes had seen
  pub passes_on : (own : List GateEntry) → IsBeginningOf own gate.log → IsWithin (seen_by_gate_passes gate.home own gates store shards) (seen_of_gate gate new)
  passes_on own on = grows gate.home own gate.log (map seen_by_pass gates) (map seen_by_note new.gates.items) (seen_by_pass store) (seen_by_note new.store)
      (map seen_by_pass shards) (map seen_by_note new.shards.items) low_passes low_new on (λ k other. (at_gate k other).pass_on)
      met.store_met.pass_on (λ k. (at_shard k).pass_on)

  -- the gatekeeper with its new notes has seen just what the passes have seen
  pub one_account : seen_of_gate gate new ≡ seen_by_gate_passes gate.home gate.log gates_now store_now shards_now
  one_account = same_account gate.home gate.log (map seen_by_note new.gates.items) (map seen_by_pass gates_now) (seen_by_note new.store) (seen_by_pass store_now)
      (map seen_by_note new.shards.items) (map seen_by_pass shards_now) low_new
      (omega (
        arith,
        length-map new.gates.items seen_by_note,
        length-map gates_now seen_by_pass,
        met.many.gate_notes,
        kept.gates,
        met.gate_count,
        met.many.gate_passes,
        met.many.gate_passes_now,
      ))
      (omega (
        arith,
        length-map new.shards.items seen_by_note,
        length-map shards_now seen_by_pass,
        met.many.shard_notes,
        kept.shards,
        met.shard_count,
        met.many.shard_passes,
        met.many.shard_passes_now,
      ))
      (λ k other. (at_gate k other).one) met.store_met.one (λ k. (at_shard k).one)

  module _ (laws : LawsForGateNotes) (legal : AreLegal gate.gates gate.shards (seen_by_gate_passes gate.home [] gates store shards)) where
    legal_on : AreLegal gate.gates gate.shards (seen_of_gate gate new)
    legal_on = legal_now gate.gates gate.shards gate.home gate.log (map seen_by_note old.gates.items) (map seen_by_pass gates) (map seen_by_note new.gates.items)
        (seen_by_note old.store) (seen_by_pass store) (seen_by_note new.store) (map seen_by_note old.shards.items) (map seen_by_pass shards) (map seen_by_note new.shards.items) low_old low_new
        kept.legal legal (λ k other. (at_gate k other).either) met.store_met.either (λ k. (at_shard k).either)

    -- nothing is new in the own log
    none_new : (before : List GateEntry) (entry : GateEntry) (rest : List GateEntry) → gate_log (seen_of_gate gate new) gate.home ≡ before ++ entry ∷ rest
        → length (gate_log (seen_of_gate gate old) gate.home) ≤ length before → GateRefersAs (seen_of_gate gate new) gate.shards before entry.author entry.deed
    none_new before entry rest at more =
        let was : gate_log (seen_of_gate gate old) gate.home ≡ gate.log = at_home gate.home gate.log (map seen_by_note old.gates.items) (seen_by_note old.store)
        (map seen_by_note old.shards.items) low_old in
        let is : gate_log (seen_of_gate gate new) gate.home ≡ gate.log = at_home gate.home gate.log (map seen_by_note new.gates.items) (seen_by_note new.store)
        (map seen_by_note new.shards.items) low_new in
        let L : List GateEntry → ℕ = λ l. length l in
        absurd (omega (arith, more, ap L was, ap L is, ap L at, length-append before (entry ∷ rest)))

    -- the gatekeeper keeps what its type keeps with these notes, if what the passes had seen is legal
    pub kept_met : GateIsKept gate new
    kept_met = record {
      home = kept.home;
      gates = met.many.gate_notes ∙ kept.gates;
      shards = met.many.shard_notes ∙ kept.shards;
      legal = legal_on;
      refers = laws.notes gate.gates gate.shards (seen_of_gate gate old) (seen_of_gate gate new) notes_on.gates notes_on.store notes_on.shards legal_on.shard_logs
          gate.home kept.refers none_new;
    }

-- The frame of a gatekeeper in a hold

abbrev seen_as : GateView → GateNotes → NotedGateView
seen_as gate notes = record { gate = gate; notes = notes }

module _ {G S H : Type 0} (gate : GateView) (notes : GateNotes) (now : NotedGateView) (home : ℕ)
    (gate_locks : List (Chronicle G GateDeed))
    (store_lock : Chronicle S StoreDeed) (shard_locks : List (Chronicle H ShardDeed)) where
  -- of a gatekeeper that contracts see as `now`
  pub at_locks : GateIsKept gate notes → seen_as gate notes ≡ now
      → frame_of_gate now.gate now.notes
      ≡ gate_frame home (length gate_locks) (length shard_locks) (names_of gate_locks) (name_of (lock_of store_lock)) (names_of shard_locks)
      → IsFramed gate notes home (length gate_locks) (length shard_locks) (names_of gate_locks) (name_of (lock_of store_lock))
      (names_of shard_locks)
  at_locks kept view is =
      framed gate notes home (length gate_locks) (length shard_locks) (names_of gate_locks) (name_of (lock_of store_lock))
      (names_of shard_locks) kept.gates (length-map gate_locks (λ (x : Chronicle G GateDeed). name_of (lock_of x)))
      (ap (λ (v : NotedGateView). frame_of_gate v.gate v.notes) view ∙ is)

-- the frame stays if the names do
pub frame_still : (gate : GateView) (old new : GateNotes) → map lock_noted new.gates.items ≡ map lock_noted old.gates.items
    → lock_noted new.store ≡ lock_noted old.store → map lock_noted new.shards.items ≡ map lock_noted old.shards.items → frame_of_gate gate new ≡
    frame_of_gate gate old
frame_still gate old new gates_are store_is shards_are = λ i. gate_frame gate.home gate.gates gate.shards (gates_are i) (store_is i) (shards_are i)

module _ {G S H : Type 0} (gate : GateView) (old new : GateNotes) (home : ℕ) (gate_locks : List (Chronicle G GateDeed))
    (gates gates_now : List (Pass GateDeed)) (store_lock : Chronicle S StoreDeed) (store store_now : Pass StoreDeed)
    (shard_locks : List (Chronicle H ShardDeed)) (shards shards_now : List (Pass ShardDeed))
    (frame : IsFramed gate old home (length gate_locks) (length shard_locks) (names_of gate_locks)
    (name_of (lock_of store_lock)) (names_of shard_locks))
  where
    -- what the frame says and what was met, in one
    pub are_met : AreAsMany old new gate_locks gates gates_now shard_locks shards shards_now
        → AllMet gate_locks gates gates_now old.gates.items new.gates.items home → HaveMet (lock_of store_lock) store store_now old.store new.store
        → AllMet shard_locks shards shards_now old.shards.items new.shards.items (length shard_locks)
        → AreMet gate old new gate_locks gates gates_now store store_now shard_locks shards shards_now
    are_met many gates_met store_met shards_met = record {
      gate_count = frame.gates_are;
      shard_count = frame.shards_are;
      many = many;
      gates_met = subst (λ (h : ℕ). AllMet gate_locks gates gates_now old.gates.items new.gates.items h)
          (sym frame.home_is) gates_met;
      store_met = met_of _ _ _ _ _ store_met;
      shards_met = shards_met;
    }
