-- What follows for the machines when all locks are closed.
-- Used by `close_all`.
use Rattle.std.proofs.Common.{◌≡◌, ℕ, zero, suc, ◌<◌, ◌≤◌, List, [], ◌∷◌, length, map, get_or, refl, sym, ap, ◌∙◌, subst, arith, Vec}
use Rattle.std.specs.Global.{Global}
use Rattle.std.specs.List.{All, Contains}
use Rattle.std.proofs.lemmas.List.{get_or-map, length-map}
use Rattle.std.proofs.lemmas.List.Elements.{All-contains, All-map, All-weaker, Contains-get_or}
use Rattle.weave_entries.specs.declared.gate_log.GateDeed.{GateDeed}
use Rattle.weave_entries.specs.declared.oracle_log.OracleDeed.{OracleDeed}
use Rattle.weave_entries.specs.declared.shard_log.ShardDeed.{ShardDeed}
use Rattle.weave_entries.specs.declared.store_log.StoreDeed.{StoreDeed}
use Rattle.gatekeeper.specs.Gates.{GateView}
use Rattle.shard_node.specs.Shards.{ShardView}
use Rattle.weave_account.specs.declared.account.Account.{Account}
use Rattle.seen_logs.specs.Closed.{AreOfHands}
use Rattle.seen_logs.specs.Entries.{account_of_logs, gate_entries, gate_pair, oracle_pair, shard_entries, shard_pair, store_pair}
use Rattle.seen_logs.specs.Seen.{AreLegal, IsWithin, VisitsOwnPrograms}
use Rattle.chronicle.specs.declared.chronicle.Chronicle.{Chronicle}
use Rattle.chronicle.specs.declared.pass.Pass.{Pass}
use Rattle.chronicle.specs.Frames.{Frame}
use Rattle.chronicle.specs.Logs.{Log}
use Rattle.chronicle.specs.Locks.{Lock, lock_of}
use Rattle.chronicle.specs.Passes.{AreAll, IsReady, number_of, seen_by_pass}
use Rattle.lock_row.specs.Rows.{AreReady}
use Rattle.lock_row.proofs.Lists.{one_of}
use Rattle.gate_lock.specs.declared.noted_gate.NotedGate.{NotedGate}
use Rattle.gate_lock.specs.Notes.{frame_of_gate}
use Rattle.oracle_lock.specs.declared.noted_oracle.NotedOracle.{NotedOracle}
use Rattle.store_lock.specs.declared.noted_store.NotedStore.{NotedStore}
use Rattle.shard_lock.specs.declared.noted_shard.NotedShard.{NotedShard}
use Rattle.shard_lock.specs.Notes.{frame_of_shard}
use Rattle.weaver_locks.specs.declared.hand.Hand.{Hand}
use Rattle.weaver_locks.specs.declared.shared.Shared.{Shared}
use Rattle.weaver_locks.specs.Locks.{hands_of, start_of}
use Rattle.weaver_locks.specs.Hands.{hand_number, made_by, seen_by, IsHand}
use Rattle.weaver_locks.specs.Rooms.{AreRooms, HaveGathered, IsRoom}
use Rattle.weaver_locks.specs.ClosedRows.{AreClosed, HaveAll, CameOut}
use Rattle.weaver_locks.specs.ClosedLogs.{AreClosedLogs}
use Rattle.weaver_locks.specs.Closing.{AreInOrder, AreEntriesOfHands, entries_by, logs_of, seen_by_number}
use Rattle.weaver_locks.specs.ClosingLaws.{ClosingLaws}
use Rattle.weaver_locks.proofs.Lists.{map_twice}
use Rattle.weaver_locks.proofs.ClosedLogs.{closed_log, row_closed, IsClosedLog}
use Rattle.weaver_locks.proofs.ClosedRun.{closed_entries, closed_legal, closed_of_hands, find_hand, seen_within, IsClosedRun}
use Rattle.weaver_locks.proofs.OwnLogs.{closed_own}

-- a room for more is one for fewer
pub fewer : {A : Type 0} (n m : ℕ) (room : Vec A Global) → m ≤ n → IsRoom n room → IsRoom m room
fewer n m room le is = record { none = is.none; space = omega (arith, is.space, le) }

-- and so it is with each room of a row
pub fewer_each : {A : Type 0} (n m : ℕ) (rooms : List (Vec A Global)) → m ≤ n → AreRooms n rooms → AreRooms m rooms
fewer_each n m rooms le are k room low = fewer n m (get_or rooms k room) le (are k room low)

-- the images are the same if the elements' are
same_images : {A B : Type 0} (f g : A → B) (xs : List A) → All (λ x. f x ≡ g x) xs → map f xs ≡ map g xs
same_images f g [] same = refl
same_images f g (x ∷ xs) same =
    let first : f x ≡ g x = same zero x (omega arith) in
    let rest : map f xs ≡ map g xs = same_images f g xs (λ k d low. same (suc k) d (omega (arith, low))) in
    λ i. first i ∷ rest i

-- the numbers that frames have
gate_numbers : (a b c d e f : ℕ) (xs ys : List (List ℕ)) → (a ∷ b ∷ c ∷ []) ∷ xs ≡ (d ∷ e ∷ f ∷ []) ∷ ys → (a ≡ d) × (b ≡ e) × (c ≡ f)
gate_numbers a b c d e f xs ys same =
    let at : (k : ℕ) → get_or (a ∷ b ∷ c ∷ []) k 0 ≡ get_or (d ∷ e ∷ f ∷ []) k 0 = λ k. ap (λ (z : List (List ℕ)). get_or (get_or z 0 []) k 0) same in
    (at 0, at 1, at 2)

module _ (laws : ClosingLaws) where
  gates_back : (ns : List NotedGate) → map (λ (g : GateView). g.log) (map (λ (n : NotedGate). n.gate) ns)
      ≡ map gate_entries (map (λ (n : NotedGate). map gate_pair n.gate.log) ns)
  gates_back [] = refl
  gates_back (n ∷ ns) = let first = laws.gate_records n.gate.log in let rest = gates_back ns in λ i. sym first i ∷ rest i

  shards_back : (ns : List NotedShard) → map (λ (s : ShardView). s.log) (map (λ (n : NotedShard). n.shard) ns)
      ≡ map shard_entries (map (λ (n : NotedShard). map shard_pair n.shard.log) ns)
  shards_back [] = refl
  shards_back (n ∷ ns) = let first = laws.shard_records n.shard.log in let rest = shards_back ns in λ i. sym first i ∷ rest i

  -- the logs of the machines make the same account as their locks' logs do
  pub logs_back : (gates : List NotedGate) (store : NotedStore) (oracle : NotedOracle) (shards : List NotedShard)
      → logs_of (map (λ (n : NotedGate). n.gate) gates) store.store oracle.oracle (map (λ (n : NotedShard). n.shard) shards)
      ≡ account_of_logs (map (λ (n : NotedGate). map gate_pair n.gate.log) gates) (map store_pair store.store)
      (map oracle_pair oracle.oracle) (map (λ (n : NotedShard). map shard_pair n.shard.log) shards)
  logs_back gates store oracle shards =
      let a = gates_back gates in
      let b = laws.store_records store.store in
      let c = laws.oracle_records oracle.oracle in
      let d = shards_back shards in
      λ i. record { gates = a i; store = sym b i; oracle = sym c i; shards = d i; sessions = [] }

module _ (shared : Shared) (hands : List Hand) (each : All (IsHand shared) hands)
    (all : (n : ℕ) → n < hands_of shared → Contains (map hand_number hands) n) where
  -- some hand
  first_hand : (h : Hand) × Contains hands h
  first_hand = let f = find_hand hands 0 (all 0 (omega (arith, shared.framed.some_pass))) in (f.is.hand, f.is.there)

  module _ {E : Type 0} where
    -- the passes of all hands are all passes of a lock
    pub all_passes : (lock : Lock E) (part : Hand → Pass E) (ps : List (Pass E)) → ps ≡ map part hands → lock.passes ≡ hands_of shared
        → All (λ h. IsReady lock (part h)) hands → All (λ h. number_of (part h) ≡ hand_number h) hands → AreAll lock ps
    all_passes lock part ps is many ready numbers = subst (AreAll lock) (sym is) record {
      ready = All-map (IsReady lock) part hands ready;
      each = λ n low. subst (λ (l : List ℕ). Contains l n)
          (sym (map_twice number_of part hands ∙ same_images (λ h. number_of (part h)) hand_number hands numbers)) (all n (omega (arith, low, many)));
    }

    module _ {M : Type 0} (row : Hand → List (Pass E)) (locks : List (Chronicle M E)) (rooms : List (Vec (Pass E) Global)) (count : ℕ)
        (lengths : All (λ h. length (row h) ≡ length locks) hands) (numbers : All (λ h. All (λ p. number_of p ≡ hand_number h) (row h)) hands)
        (many : All (λ (c : Chronicle M E). (lock_of c).passes ≡ hands_of shared) locks) where
      -- if the passes of all hands were put into the rooms of a row, each room has all passes of its lock
      pub row_all : length rooms ≡ length locks → HaveGathered row count hands rooms → All (λ h. AreReady locks (row h)) hands → HaveAll locks rooms
      row_all long gathered ready k c room low =
          let first = first_hand in
          let its = All-contains (λ h. length (row h) ≡ length locks) hands first.0 lengths first.1 in
          let p : Pass E = one_of (row first.0) k (omega (arith, low, its)) in
          all_passes (lock_of (get_or locks k c)) (λ h. get_or (row h) k p) (get_or rooms k room).items
          (gathered k p room (omega (arith, low, long))).items (many k c low)
          (λ j d l. ready j d l k c p low) (λ j d l. numbers j d l k p (omega (arith, low, lengths j d l)))

      -- if a row's locks are closed with all hands' passes, some hand has seen each log whole, all a beginning of it
      pub row_logs : (frame_of : M → Frame) (log_of : M → Log E) (machines : List M) → length machines ≡ length locks
          → length rooms ≡ length locks → AreClosed frame_of log_of locks rooms machines → HaveGathered row count hands rooms
          → (k : ℕ) → IsClosedLog hands (λ h. get_or (map seen_by_pass (row h)) k []) (hands_of shared)
          (get_or (map (λ (c : Chronicle M E). (lock_of c).start) locks) k []) (get_or (map log_of machines) k [])
      row_logs frame_of log_of machines long rooms_long closed gathered =
          let first = first_hand in
          row_closed hands frame_of log_of row locks rooms machines (hands_of shared) count first.0 first.1 lengths long rooms_long closed gathered many numbers

  abbrev gate_frame_of : NotedGate → Frame
  gate_frame_of n = frame_of_gate n.gate n.notes

  abbrev gate_log_of : NotedGate → Log GateDeed
  gate_log_of n = map gate_pair n.gate.log

  abbrev shard_frame_of : NotedShard → Frame
  shard_frame_of n = frame_of_shard n.shard n.shards n.notes

  abbrev shard_log_of : NotedShard → Log ShardDeed
  shard_log_of n = map shard_pair n.shard.log

  -- the machines that came out of the locks, whose rooms had the passes of all hands
  pub record AreOut (gate_rooms : List (Vec (Pass GateDeed) Global)) (store_room : List (Pass StoreDeed)) (oracle_room : List (Pass OracleDeed))
      (shard_rooms : List (Vec (Pass ShardDeed) Global)) (count : ℕ) (gates : List NotedGate) (store : NotedStore) (oracle : NotedOracle)
      (shards : List NotedShard) : Type 0 where
    pub gate_count : length gates ≡ length shared.gates.items
    pub gate_room_count : length gate_rooms ≡ length shared.gates.items
    pub shard_count : length shards ≡ length shared.shards.items
    pub shard_room_count : length shard_rooms ≡ length shared.shards.items
    pub gates_gathered : HaveGathered (λ h. h.gates.items) count hands gate_rooms
    pub store_gathered : store_room ≡ map (λ h. h.store) hands
    pub oracle_gathered : oracle_room ≡ map (λ h. h.oracle) hands
    pub shards_gathered : HaveGathered (λ h. h.shards.items) count hands shard_rooms
    pub gates_closed : AreClosed gate_frame_of gate_log_of shared.gates.items gate_rooms gates
    pub store_closed : CameOut (λ (n : NotedStore). (lock_of shared.store).frame) (λ n. map store_pair n.store) (lock_of shared.store) store_room store
    pub oracle_closed : CameOut (λ (n : NotedOracle). (lock_of shared.oracle).frame) (λ n. map oracle_pair n.oracle) (lock_of shared.oracle) oracle_room oracle
    pub shards_closed : AreClosed shard_frame_of shard_log_of shared.shards.items shard_rooms shards

  module _ (gate_rooms : List (Vec (Pass GateDeed) Global)) (store_room : List (Pass StoreDeed)) (oracle_room : List (Pass OracleDeed))
      (shard_rooms : List (Vec (Pass ShardDeed) Global)) (count : ℕ) (gates : List NotedGate) (store : NotedStore) (oracle : NotedOracle)
      (shards : List NotedShard) (out : AreOut gate_rooms store_room oracle_room shard_rooms count gates store oracle shards) where
    abbrev gates_out : List GateView
    gates_out = map (λ (n : NotedGate). n.gate) gates

    abbrev shards_out : List ShardView
    shards_out = map (λ (n : NotedShard). n.shard) shards

    gate_at : (k : ℕ) (g : GateView) → k < length gates_out
        → ((get_or gates_out k g).home ≡ k) × ((get_or gates_out k g).gates ≡ length shared.gates.items)
        × ((get_or gates_out k g).shards ≡ length shared.shards.items)
    gate_at k g low =
        let low_out : k < length gates = omega (arith, low, length-map gates (λ (n : NotedGate). n.gate)) in
        let low_lock : k < length shared.gates.items = omega (arith, low_out, out.gate_count) in
        let n : NotedGate = one_of gates k low_out in
        let c = one_of shared.gates.items k low_lock in
        let room = one_of gate_rooms k (omega (arith, low_lock, out.gate_room_count)) in
        let v : GateView = (get_or gates k n).gate in
        let at : get_or gates_out k g ≡ v = get_or-map (λ (x : NotedGate). x.gate) gates k n g low_out in
        let is = (out.gates_closed k c room n low_lock).frame_is ∙ shared.framed.gate_frames k c low_lock in
        let numbers = gate_numbers v.home v.gates v.shards k (length shared.gates.items) (length shared.shards.items) _ _ is in
        (ap (λ (x : GateView). x.home) at ∙ numbers.0, ap (λ (x : GateView). x.gates) at ∙ numbers.1, ap (λ (x : GateView). x.shards) at ∙ numbers.2)

    shard_at : (k : ℕ) (s : ShardView) → k < length shards_out
        → ((get_or shards_out k s).number ≡ k) × ((get_or shards_out k s).gates ≡ length shared.gates.items)
    shard_at k s low =
        let low_out : k < length shards = omega (arith, low, length-map shards (λ (n : NotedShard). n.shard)) in
        let low_lock : k < length shared.shards.items = omega (arith, low_out, out.shard_count) in
        let n : NotedShard = one_of shards k low_out in
        let c = one_of shared.shards.items k low_lock in
        let room = one_of shard_rooms k (omega (arith, low_lock, out.shard_room_count)) in
        let v : ShardView = (get_or shards k n).shard in
        let at : get_or shards_out k s ≡ v = get_or-map (λ (x : NotedShard). x.shard) shards k n s low_out in
        let is = (out.shards_closed k c room n low_lock).frame_is ∙ shared.framed.shard_frames k c low_lock in
        let numbers = gate_numbers v.number v.gates (get_or shards k n).shards k (length shared.gates.items) (length shared.shards.items) _ _ is in
        (ap (λ (x : ShardView). x.number) at ∙ numbers.0, ap (λ (x : ShardView). x.gates) at ∙ numbers.1)

    -- the gatekeepers and shards that came out are in order
    pub in_order : AreInOrder gates_out shards_out
    in_order =
        let gate_count : length gates_out ≡ length shared.gates.items = length-map gates (λ (n : NotedGate). n.gate) ∙ out.gate_count in
        let shard_count : length shards_out ≡ length shared.shards.items = length-map shards (λ (n : NotedShard). n.shard) ∙ out.shard_count in record {
          homes = λ k g low. (gate_at k g low).0;
          gates_of = λ k g low. (gate_at k g low).1 ∙ sym gate_count;
          shards_of = λ k g low. (gate_at k g low).2 ∙ sym shard_count;
          numbers = λ k s low. (shard_at k s low).0;
          shard_gates = λ k s low. (shard_at k s low).1 ∙ sym gate_count;
        }

    abbrev starts_of : {M E : Type 0} → List (Chronicle M E) → List (Log E)
    starts_of locks = map (λ c. (lock_of c).start) locks

    run : IsClosedRun hands (hands_of shared) (starts_of shared.gates.items) (lock_of shared.store).start (lock_of shared.oracle).start
        (starts_of shared.shards.items) (map gate_log_of gates) (map store_pair store.store) (map oracle_pair oracle.oracle) (map shard_log_of shards)
    run = record {
      gate_logs = row_logs (λ h. h.gates.items) shared.gates.items gate_rooms count
          (All-weaker (IsHand shared) (λ h. length h.gates.items ≡ length shared.gates.items) (λ h is. is.gates) hands each)
          (All-weaker (IsHand shared) (λ h. All (λ p. number_of p ≡ hand_number h) h.gates.items) (λ h is. is.gate_numbers) hands each)
          shared.framed.gate_passes gate_frame_of gate_log_of gates out.gate_count out.gate_room_count out.gates_closed out.gates_gathered;
      store_log = closed_log hands (λ (n : NotedStore). (lock_of shared.store).frame) (λ n. map store_pair n.store) (λ h. h.store) (lock_of shared.store)
          store store_room out.store_gathered (λ k d low. refl) out.store_closed;
      oracle_log = subst (λ (n : ℕ). IsClosedLog hands (λ h. seen_by_pass h.oracle) n (lock_of shared.oracle).start (map oracle_pair oracle.oracle))
          shared.framed.oracle_passes
          (closed_log hands (λ (n : NotedOracle). (lock_of shared.oracle).frame) (λ n. map oracle_pair n.oracle) (λ h. h.oracle) (lock_of shared.oracle)
          oracle oracle_room out.oracle_gathered
          (All-weaker (IsHand shared) (λ h. number_of h.oracle ≡ hand_number h) (λ h is. is.oracle_number) hands each) out.oracle_closed);
      shard_logs = row_logs (λ h. h.shards.items) shared.shards.items shard_rooms count
          (All-weaker (IsHand shared) (λ h. length h.shards.items ≡ length shared.shards.items) (λ h is. is.shards) hands each)
          (All-weaker (IsHand shared) (λ h. All (λ p. number_of p ≡ hand_number h) h.shards.items) (λ h is. is.shard_numbers) hands each)
          shared.framed.shard_passes shard_frame_of shard_log_of shards out.shard_count out.shard_room_count out.shards_closed out.shards_gathered;
    }

    module _ (laws : ClosingLaws) where
      abbrev logs_out : Account
      logs_out = logs_of gates_out store.store oracle.oracle shards_out

      back : logs_out ≡ account_of_logs (map gate_log_of gates) (map store_pair store.store) (map oracle_pair oracle.oracle) (map shard_log_of shards)
      back = logs_back laws gates store oracle shards

      -- the logs of the machines that came out are legal
      pub legal : AreLegal (length shared.gates.items) (length shared.shards.items) logs_out
      legal = subst (AreLegal (length shared.gates.items) (length shared.shards.items)) (sym back)
          (closed_legal laws hands (hands_of shared) _ _ _ _ (map gate_log_of gates) (map store_pair store.store) (map oracle_pair oracle.oracle)
          (map shard_log_of shards) run (length shared.gates.items) (length shared.shards.items)
          (All-weaker (IsHand shared) (λ h. AreLegal (length shared.gates.items) (length shared.shards.items) (seen_by h)) (λ h is. is.legal) hands each))

      -- what each hand has seen is within these logs
      pub within : All (λ h. IsWithin (seen_by h) logs_out) hands
      within k d low =
          let h : Hand = get_or hands k d in
          subst (λ (a : Account). IsWithin (seen_by h) a) (sym back)
          (seen_within laws hands (hands_of shared) (starts_of shared.gates.items) (lock_of shared.store).start (lock_of shared.oracle).start
          (starts_of shared.shards.items) (map gate_log_of gates) (map store_pair store.store) (map oracle_pair oracle.oracle) (map shard_log_of shards)
          run h (Contains-get_or hands k d low))

      -- each entry of these logs was there at the start, or is of a hand, which has seen it
      pub entries : AreEntriesOfHands (hands_of shared) (start_of shared) (seen_by_number hands) logs_out
      entries = subst (AreEntriesOfHands (hands_of shared) (start_of shared) (seen_by_number hands)) (sym back)
          (closed_entries laws hands (hands_of shared) (starts_of shared.gates.items) (lock_of shared.store).start (lock_of shared.oracle).start
          (starts_of shared.shards.items) (map gate_log_of gates) (map store_pair store.store) (map oracle_pair oracle.oracle) (map shard_log_of shards)
          run all)

      -- if the hands' visits since the start are of their own programs, these logs are of these hands
      pub of_hands : ((n : ℕ) → n < hands_of shared → VisitsOwnPrograms n (start_of shared) (seen_by_number hands n))
          → AreOfHands (length shared.shards.items) (hands_of shared) (start_of shared) (seen_by_number hands) logs_out
      of_hands visits = subst (AreOfHands (length shared.shards.items) (hands_of shared) (start_of shared) (seen_by_number hands)) (sym back)
          (closed_of_hands laws hands (hands_of shared) (starts_of shared.gates.items) (lock_of shared.store).start (lock_of shared.oracle).start
          (starts_of shared.shards.items) (map gate_log_of gates) (map store_pair store.store) (map oracle_pair oracle.oracle) (map shard_log_of shards)
          run all (length shared.shards.items) shared.framed.some_pass (λ k d low. (each k d low).seen) visits)

      -- the entries in these logs with a hand's number are those that the hand made
      pub made : All (λ h. entries_by (hand_number h) logs_out ≡ made_by h) hands
      made k d low =
          let h : Hand = get_or hands k d in
          let is = each k d low in
          ap (entries_by (hand_number h)) back
          ∙ closed_own hands (hands_of shared) (starts_of shared.gates.items) (lock_of shared.store).start (lock_of shared.oracle).start
          (starts_of shared.shards.items) (map gate_log_of gates) (map store_pair store.store) (map oracle_pair oracle.oracle) (map shard_log_of shards)
          run h (Contains-get_or hands k d low) record {
            gates_long = length-map gates gate_log_of ∙ (out.gate_count ∙ sym is.gates);
            shards_long = length-map shards shard_log_of ∙ (out.shard_count ∙ sym is.shards);
            numbers = record { gates = is.gate_numbers; oracle = is.oracle_number; shards = is.shard_numbers };
          }

      -- so they are as `close` promises
      pub closed_logs : AreClosedLogs shared hands gates_out store.store oracle.oracle shards_out
      closed_logs = record { order = in_order; legal = legal; within = within; entries = entries; of_hands = of_hands; made = made }
