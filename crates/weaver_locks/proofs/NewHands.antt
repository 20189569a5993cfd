-- New hands, and the locks once their machines are in.
-- Used by `fill_locks` and `new`.
use Rattle.std.proofs.Common.{◌≡◌, ℕ, ◌<◌, ◌≤◌, List, [], ◌∷◌, length, map, get_or, set, sym, ap, ◌∙◌, subst, arith}
use Rattle.std.specs.List.{All}
use Rattle.std.proofs.lemmas.List.{get_or_default, get_or-set_same, get_or-set_other}
use mathlib.Core.Logic.{dite}
use native.Mathlib.Decide.{ℕ_discrete}
use Rattle.weave_entries.specs.declared.oracle_log.OracleEntry.{OracleEntry}
use Rattle.weave_entries.specs.declared.store_log.StoreEntry.{StoreEntry}
use Rattle.gatekeeper.specs.Gates.{GateView}
use Rattle.shard_node.specs.Shards.{ShardView}
use Rattle.weave_account.specs.declared.account.Account.{Account}
use Rattle.seen_logs.specs.Entries.{account_of_logs}
use Rattle.seen_logs.specs.Seen.{AreLegal, IsSeenByHand}
use Rattle.chronicle.specs.declared.chronicle.Chronicle.{Chronicle}
use Rattle.chronicle.specs.declared.pass.Pass.{Pass}
use Rattle.chronicle.specs.Logs.{Log}
use Rattle.chronicle.specs.Locks.{Lock, lock_of, name_of}
use Rattle.chronicle.specs.Passes.{IsReady, number_of, seen_by_pass}
use Rattle.lock_row.specs.Hands.{AreDealt}
use Rattle.lock_row.specs.Openings.{AreOneRow}
use Rattle.lock_row.specs.Rows.{AreReady}
use Rattle.lock_row.proofs.Lists.{mapped_alike, one_of}
use Rattle.gate_lock.specs.Frames.{gate_frame}
use Rattle.shard_lock.specs.Frames.{shard_frame}
use Rattle.weaver_locks.specs.declared.hand.Hand.{Hand}
use Rattle.weaver_locks.specs.declared.locks.Locks.{Locks}
use Rattle.weaver_locks.specs.Closing.{logs_of, MayStart}
use Rattle.weaver_locks.specs.Framed.{AreFramed}
use Rattle.weaver_locks.specs.Hands.{hand_number, seen_by}
use Rattle.weaver_locks.specs.Noted.{AreFilled}
use Rattle.weaver_locks.specs.Opened.{passes_of, AreOpened, IsNewHand}
use Rattle.weaver_locks.proofs.HandParts.{HaveItsNumber}

module _ {M E : Type 0} (before after : List (Chronicle M E)) (same : AreOneRow before after) (count : length after ≡ length before) where
  row_ready : (number : ℕ) (passes : List (Pass E)) → AreDealt number before passes → AreReady after passes
  row_ready number passes dealt k c p low =
      let first : k < length before = omega (arith, low, count) in
      subst (λ (l : Lock E). IsReady l (get_or passes k p)) (sym (same k c first)) (dealt k c p first).ready

  row_starts : map (λ (c : Chronicle M E). (lock_of c).start) after ≡ map (λ (c : Chronicle M E). (lock_of c).start) before
  row_starts = let S : Chronicle M E → Log E = λ c. (lock_of c).start in
      mapped_alike S S before after count (λ k a b low. ap (λ (l : Lock E). l.start) (same k b low) ∙ ap S (get_or_default before k b a low))

  row_passes : (n : ℕ) → All (λ (c : Chronicle M E). (lock_of c).passes ≡ n) before → All (λ (c : Chronicle M E). (lock_of c).passes ≡ n) after
  row_passes n all k c low =
      let first : k < length before = omega (arith, low, count) in
      ap (λ (l : Lock E). l.passes) (same k c first) ∙ all k c first

module _ {M E : Type 0} (locks : List (Chronicle M E)) (number : ℕ) (passes : List (Pass E)) (dealt : AreDealt number locks passes)
    (count : length passes ≡ length locks) where
  row_numbers : (n : ℕ) → number ≡ n → All (λ (p : Pass E). number_of p ≡ n) passes
  row_numbers n same k p low =
      let first : k < length locks = omega (arith, low, count) in
      (dealt k (one_of locks k first) p first).number_is ∙ same

  row_seen : map seen_by_pass passes ≡ map (λ (c : Chronicle M E). (lock_of c).start) locks
  row_seen = mapped_alike (λ (c : Chronicle M E). (lock_of c).start) seen_by_pass locks passes count (λ k c p low. (dealt k c p low).seen_is)

module _ (locks : Locks) (gates : List GateView) (store : List StoreEntry) (oracle : List OracleEntry) (shards : List ShardView)
    (start : MayStart gates store oracle shards) (opened : AreOpened locks gates store oracle shards)
    (gate_count : length locks.gates.items ≡ length gates) (shard_count : length locks.shards.items ≡ length shards)
    (start_is : account_of_logs (map (λ c. (lock_of c).start) locks.gates.items) (lock_of locks.store).start (lock_of locks.oracle).start
    (map (λ c. (lock_of c).start) locks.shards.items) ≡ logs_of gates store oracle shards)
    (after : Locks) (filled : AreFilled locks after) where
  -- the locks' frames are as they have to be
  pub framed : 1 ≤ passes_of locks → AreFramed after.gates.items after.store after.oracle after.shards.items
  framed some =
      let many : passes_of after ≡ passes_of locks = ap (λ (l : Lock _). l.passes) filled.store in
      let gates_many : length after.gates.items ≡ length gates = filled.gate_count ∙ gate_count in
      let shards_many : length after.shards.items ≡ length shards = filled.shard_count ∙ shard_count in
      let store_name : name_of (lock_of after.store) ≡ name_of (lock_of locks.store) = ap (λ (l : Lock _). name_of l) filled.store in
      let oracle_name : name_of (lock_of after.oracle) ≡ name_of (lock_of locks.oracle) = ap (λ (l : Lock _). name_of l) filled.oracle in record {
        some_gate = omega (arith, gates_many, start.some_gate);
        few_gates = omega (arith, gates_many, start.few_gates);
        some_shard = omega (arith, shards_many, start.some_shard);
        few_shards = omega (arith, shards_many, start.few_shards);
        some_pass = omega (arith, many, some);
        gate_passes = row_passes locks.gates.items after.gates.items filled.gates filled.gate_count (passes_of after)
            (λ k c low. (opened.gate_locks k c (one_of gates k (omega (arith, low, gate_count))) low).passes_is ∙ sym many);
        oracle_passes = ap (λ (l : Lock _). l.passes) filled.oracle ∙ (opened.oracle_lock.passes_is ∙ sym many);
        shard_passes = row_passes locks.shards.items after.shards.items filled.shards filled.shard_count (passes_of after)
            (λ k c low. (opened.shard_locks k c (one_of shards k (omega (arith, low, shard_count))) low).passes_is ∙ sym many);
        gate_frames = λ k c low.
            let first : k < length locks.gates.items = omega (arith, low, filled.gate_count) in
            let there : k < length gates = omega (arith, first, gate_count) in
            let g : GateView = one_of gates k there in
            ap (λ (l : Lock _). l.frame) (filled.gates k c first)
            ∙ ((opened.gate_locks k c g first).frame_is
            ∙ (λ i. gate_frame (start.order.homes k g there i) ((start.order.gates_of k g there ∙ sym gates_many) i)
            ((start.order.shards_of k g there ∙ sym shards_many) i) (sym filled.gate_names i) (sym store_name i) (sym filled.shard_names i)));
        store_frame = ap (λ (l : Lock _). l.frame) filled.store
            ∙ (opened.store_lock.frame_is ∙ (λ i. (sym shards_many i ∷ []) ∷ sym oracle_name i ∷ sym filled.gate_names i));
        oracle_frame = ap (λ (l : Lock _). l.frame) filled.oracle
            ∙ (opened.oracle_lock.frame_is ∙ (λ i. (sym shards_many i ∷ []) ∷ sym filled.gate_names i));
        shard_frames = λ k c low.
            let first : k < length locks.shards.items = omega (arith, low, filled.shard_count) in
            let there : k < length shards = omega (arith, first, shard_count) in
            let s : ShardView = one_of shards k there in
            ap (λ (l : Lock _). l.frame) (filled.shards k c first)
            ∙ ((opened.shard_locks k c s first).frame_is
            ∙ (λ i. shard_frame (start.order.numbers k s there i) ((start.order.shard_gates k s there ∙ sym gates_many) i) (sym shards_many i)
            (sym store_name i) (sym oracle_name i) (sym filled.gate_names i)));
      }

  abbrev started : Account
  started = account_of_logs (map (λ c. (lock_of c).start) after.gates.items) (lock_of after.store).start (lock_of after.oracle).start
      (map (λ c. (lock_of c).start) after.shards.items)

  -- the locks with their machines in them start with the machines' logs
  pub begins : started ≡ logs_of gates store oracle shards
  begins =
      let a = row_starts locks.gates.items after.gates.items filled.gates filled.gate_count in
      let b = ap (λ (l : Lock _). l.start) filled.store in
      let d = ap (λ (l : Lock _). l.start) filled.oracle in
      let e = row_starts locks.shards.items after.shards.items filled.shards filled.shard_count in
      (λ i. account_of_logs (a i) (b i) (d i) (e i)) ∙ start_is

  -- what `IsHand` says of a hand, over these locks
  pub record IsHandOf (hand : Hand) : Type 0 where
    pub gates_long : length hand.gates.items ≡ length after.gates.items
    pub shards_long : length hand.shards.items ≡ length after.shards.items
    pub gates_ready : AreReady after.gates.items hand.gates.items
    pub store_ready : IsReady (lock_of after.store) hand.store
    pub oracle_ready : IsReady (lock_of after.oracle) hand.oracle
    pub shards_ready : AreReady after.shards.items hand.shards.items
    pub numbers : HaveItsNumber hand
    pub legal : AreLegal (length after.gates.items) (length after.shards.items) (seen_by hand)
    pub seen_all : IsSeenByHand (length after.shards.items) (hand_number hand) started (seen_by hand)

  module _ (number : ℕ) (hand : Hand) (is : IsNewHand locks number hand) where
    -- a new hand has seen just the machines' logs
    pub sees : seen_by hand ≡ logs_of gates store oracle shards
    sees =
        let a = row_seen locks.gates.items number hand.gates.items is.gates is.gate_count in
        let e = row_seen locks.shards.items number hand.shards.items is.shards is.shard_count in
        (λ i. account_of_logs (a i) (is.store.seen_is i) (is.oracle.seen_is i) (e i)) ∙ start_is

    -- a new hand is a hand of the locks with their machines in them
    pub new_hand : IsHandOf hand
    new_hand =
        let gates_many = filled.gate_count in
        let shards_many = filled.shard_count in
        let same : hand_number hand ≡ number = is.store.number_is in record {
          gates_long = is.gate_count ∙ sym gates_many;
          shards_long = is.shard_count ∙ sym shards_many;
          gates_ready = row_ready locks.gates.items after.gates.items filled.gates filled.gate_count number hand.gates.items is.gates;
          store_ready = subst (λ (l : Lock _). IsReady l hand.store) (sym filled.store) is.store.ready;
          oracle_ready = subst (λ (l : Lock _). IsReady l hand.oracle) (sym filled.oracle) is.oracle.ready;
          shards_ready = row_ready locks.shards.items after.shards.items filled.shards filled.shard_count number hand.shards.items is.shards;
          numbers = record {
            gates = row_numbers locks.gates.items number hand.gates.items is.gates is.gate_count (hand_number hand) (sym same);
            oracle = is.oracle.number_is ∙ sym same;
            shards = row_numbers locks.shards.items number hand.shards.items is.shards is.shard_count (hand_number hand) (sym same);
          };
          legal = subst (λ (z : ℕ × ℕ × Account). AreLegal z.0 z.1 z.2)
              (λ i. (sym (gates_many ∙ gate_count) i, sym (shards_many ∙ shard_count) i, sym sees i)) start.legal;
          seen_all = subst (λ (z : ℕ × Account × Account). IsSeenByHand z.0 (hand_number hand) z.1 z.2)
              (λ i. (sym (shards_many ∙ shard_count) i, sym begins i, sym sees i)) (start.refers (hand_number hand));
        }

-- all hands are new, if the first is so still
pub all_new : (locks : Locks) (count : ℕ) (hands : List Hand) (first : Hand) → length hands ≡ count
    → ((k : ℕ) (h : Hand) → k < count → IsNewHand locks k (get_or hands k h)) → IsNewHand locks 0 first
    → (k : ℕ) (h : Hand) → k < count → IsNewHand locks k (get_or (set hands 0 first) k h)
all_new locks count hands first long each one k h low = dite (ℕ_discrete k 0)
    (λ e. subst (λ (j : ℕ). IsNewHand locks j (get_or (set hands 0 first) j h)) (sym e)
    (subst (IsNewHand locks 0) (sym (get_or-set_same hands 0 first h (omega (arith, low, long)))) one))
    (λ ne. subst (IsNewHand locks k) (sym (get_or-set_other hands 0 k first h ne)) (each k h low))
