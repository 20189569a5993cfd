-- A hand's programs stay begun, and its visits stay of its own programs: for the laws on both.
-- Used by `own_programs_stay_begun`, `visits_stay_of_own_programs` and crate weaver_hands.
use Rattle.std.proofs.Common.{◌≡◌, ℕ, zero, suc, ◌≤◌, Bool, eqb, eq-eqb, drop, List, [], ◌∷◌, ◌++◌, length, get_or, set, Contains, refl, sym, ap, ◌∙◌, subst, arith}
use Rattle.std.specs.List.{filter}
use Rattle.std.proofs.lemmas.List.{append-nil, append_cancel_left, drop-append-le}
use Rattle.std.proofs.lemmas.List.Elements.{filter-append}
use Rattle.weave_data.proofs.Members.{flat_has, has_filter, has_flat, has_head, has_last, has_none, drop_has}
use Rattle.vector_stamp.specs.declared.clock.Stamp.{Stamp}
use Rattle.weave_entries.specs.declared.gate_log.GateDeed.TheVariants.{BeganProgram}
use Rattle.weave_entries.specs.declared.gate_log.GateEntry.{GateEntry}
use Rattle.weave_entries.specs.declared.oracle_log.OracleEntry.{OracleEntry}
use Rattle.weave_entries.specs.declared.shard_log.ShardEntry.{ShardEntry}
use Rattle.weave_entries.specs.Logs.{AtEachEntry}
use Rattle.weave_entries.specs.GateReplay.{program_by, programs_of}
use Rattle.weave_account.specs.declared.account.Account.{Account}
use Rattle.weave_account.specs.Account.{gate_log, shard_log}
use Rattle.weave_account.proofs.GoesOn.{has-on, longer, flat-on}
use Rattle.seen_logs.specs.Seen.{IsOwn, IsWithin, VisitsItsOwn, VisitsOwnPrograms, entries_since}
use Rattle.seen_logs.proofs.Onward.{since-on}
use Rattle.weaver_locks.specs.declared.hand.Hand.{Hand}
use Rattle.weaver_locks.specs.declared.shared.Shared.{Shared}
use Rattle.weaver_locks.specs.Following.{HasBegunProgram, VisitsItsOwnPrograms}
use Rattle.weaver_locks.specs.GateHolds.{gate_entry_by, WasAtGate}
use Rattle.weaver_locks.specs.Hands.{hand_number, made_by, seen_by, IsHand}
use Rattle.weaver_locks.specs.Locks.{start_of}
use Rattle.weaver_locks.specs.ShardHolds.{WasAtShard}
use Rattle.weaver_locks.proofs.EachLog.{own-shard}
use Rattle.weaver_locks.proofs.Logged.{beyond}

-- Programs

-- a hand whose call begins a program has begun it since the start
pub program-begins : (shared : Shared) (old new : Hand) (gate request : ℕ) (stamp : Stamp) (before : List GateEntry) → IsHand shared old
    → WasAtGate (length shared.shards.items) old new gate before (gate_entry_by old (BeganProgram request stamp) ∷ [])
    → HasBegunProgram shared new gate request stamp
program-begins shared old new gate request stamp before is_old was =
    let start = gate_log (start_of shared) gate in
    let log = gate_log (seen_by new) gate in
    let entry = gate_entry_by old (BeganProgram request stamp) in
    let few : length start ≤ length before =
    (let a = longer start (gate_log (seen_by old) gate) (is_old.seen.starts.gates gate) in
    let b = longer (gate_log (seen_by old) gate) before was.found in omega (arith, a, b)) in
    let left : entries_since start log ≡ entries_since start before ++ entry ∷ [] =
    ap (drop (length start)) was.left ∙ drop-append-le (length start) before (entry ∷ []) few in
    let there : Contains (entries_since start log) entry = subst (λ (l : List GateEntry). Contains l entry) (sym left) (has_last (entries_since start before) entry) in
    subst (λ n. Contains (programs_of (entries_since start log)) (record { author = n; request = request; stamp = stamp })) (sym was.number)
    (has_flat (λ (e : GateEntry). program_by e.author e.deed) (entries_since start log) entry _ there (has_head _ []))

-- a program that a hand has begun stays begun by it, if what the hand has seen goes on
pub program-stays : (shared : Shared) (old new : Hand) → IsHand shared old → hand_number new ≡ hand_number old → IsWithin (seen_by old) (seen_by new)
    → (home request : ℕ) (stamp : Stamp) → HasBegunProgram shared old home request stamp → HasBegunProgram shared new home request stamp
program-stays shared old new is_old number more home request stamp h =
    let start = gate_log (start_of shared) home in
    let before = gate_log (seen_by old) home in
    let after = gate_log (seen_by new) home in
    subst (λ m. Contains (programs_of (entries_since start after)) (record { author = m; request = request; stamp = stamp })) (sym number)
    (has-on (programs_of (entries_since start before)) (programs_of (entries_since start after))
    (flat-on (λ (e : GateEntry). program_by e.author e.deed) (entries_since start before) (entries_since start after)
    (since-on start before after (longer start before (is_old.seen.starts.gates home)) (more.gates home))) _ h)

-- a hand that has begun a program has seen that it was begun
pub program-seen : (shared : Shared) (hand : Hand) (home request : ℕ) (stamp : Stamp) → HasBegunProgram shared hand home request stamp
    → Contains (programs_of (gate_log (seen_by hand) home)) (record { author = hand_number hand; request = request; stamp = stamp })
program-seen shared hand home request stamp h =
    let log = gate_log (seen_by hand) home in
    let n = length (gate_log (start_of shared) home) in
    let by = flat_has (λ (e : GateEntry). program_by e.author e.deed) (drop n log) _ h in
    has_flat (λ (e : GateEntry). program_by e.author e.deed) log by.0 _ (drop_has n log by.0 by.1) by.2

-- Visits

-- visits stay of own programs in logs that go on, if those of the own entries are (law `own_visits_stay`)
abbrev pub VisitsStay : Type 0
VisitsStay = (number : ℕ) (start seen next : Account) → IsWithin start seen → IsWithin seen next
    → VisitsOwnPrograms number start seen
    → ((shard : ℕ) → AtEachEntry (λ before (entry : ShardEntry).
    IsOwn number (shard_log seen shard) before entry.author → VisitsItsOwn number start next entry.deed) (shard_log next shard))
    → VisitsOwnPrograms number start next

module _ (shared : Shared) (old new : Hand) (is_old : IsHand shared old) (is_new : IsHand shared new)
    (number : hand_number new ≡ hand_number old) (more : IsWithin (seen_by old) (seen_by new)) where
  abbrev is-own : ShardEntry → Bool
  is-own entry = eqb entry.author (hand_number old)

  -- what the hand has seen more of a shard's log has just the entries that it made there
  new-own : (k : ℕ) (added : List ShardEntry) → shard_log (made_by new) k ≡ shard_log (made_by old) k ++ added
      → filter is-own (more.shards k).0 ≡ added
  new-own k added made =
      let had = shard_log (seen_by old) k in
      let rest = (more.shards k).0 in
      append_cancel_left (filter is-own had) (filter is-own rest) added
      (sym (filter-append is-own had rest) ∙ ap (filter is-own) (sym (more.shards k).1)
      ∙ ap (λ (n : ℕ). filter (λ (e : ShardEntry). eqb e.author n) (shard_log (seen_by new) k)) (sym number)
      ∙ sym (own-shard shared new is_new k) ∙ made ∙ ap (λ (l : List ShardEntry). l ++ added) (own-shard shared old is_old k))

  -- visits stay of own programs, if those of what was made are
  visits-stay : VisitsStay → ((k : ℕ) → (added : List ShardEntry) × (shard_log (made_by new) k ≡ shard_log (made_by old) k ++ added)
      × ((entry : ShardEntry) → Contains added entry → VisitsItsOwn (hand_number new) (start_of shared) (seen_by new) entry.deed))
      → VisitsItsOwnPrograms shared old → VisitsItsOwnPrograms shared new
  visits-stay stay makes was =
      let n : ℕ = hand_number old in
      subst (λ (m : ℕ). VisitsOwnPrograms m (start_of shared) (seen_by new)) (sym number)
      (stay n (start_of shared) (seen_by old) (seen_by new) is_old.seen.starts more was
      (λ k before entry after at own.
      let there = beyond (shard_log (seen_by old) k) (more.shards k).0 before after entry (sym (more.shards k).1 ∙ at) own.1 in
      let mine = has_filter is-own (more.shards k).0 entry there (eq-eqb entry.author n own.0) in
      let make = makes k in
      subst (λ (m : ℕ). VisitsItsOwn m (start_of shared) (seen_by new) entry.deed) number
      (make.2 entry (subst (λ (l : List ShardEntry). Contains l entry) (new-own k make.0 make.1) mine))))

  -- a hand's visits stay of own programs in a call that adds nothing at shards
  pub visits-stay-without : VisitsStay → (made_by new).shards ≡ (made_by old).shards → VisitsItsOwnPrograms shared old → VisitsItsOwnPrograms shared new
  visits-stay-without stay same =
      visits-stay stay (λ k. ([], ap (λ (ls : List (List ShardEntry)). get_or ls k []) same ∙ sym (append-nil (shard_log (made_by old) k)), λ entry h. absurd (has_none entry h)))

-- one list of a row has more, and the others are as they were
one-more : {A : Type 0} (row : List (List A)) (place k : ℕ) (added : List A)
    → (more : List A) × (get_or (set row place (get_or row place [] ++ added)) k [] ≡ get_or row k [] ++ more) × ((x : A) → Contains more x → Contains added x)
one-more [] place k added = ([], refl, λ x h. absurd (has_none x h))
one-more (xs ∷ row) zero zero added = (added, refl, λ x h. h)
one-more (xs ∷ row) zero (suc k) added = ([], sym (append-nil (get_or row k [])), λ x h. absurd (has_none x h))
one-more (xs ∷ row) (suc place) zero added = ([], sym (append-nil xs), λ x h. absurd (has_none x h))
one-more (xs ∷ row) (suc place) (suc k) added = one-more row place k added

-- and in a call at a shard, if what the call adds there is of own programs
pub visits-stay-at : VisitsStay → (shared : Shared) (old new : Hand) (shard : ℕ) (before added : List ShardEntry) (asked : List OracleEntry)
    → IsHand shared old → IsHand shared new → WasAtShard (length shared.shards.items) old new shard before added asked
    → ((entry : ShardEntry) → Contains added entry → VisitsItsOwn (hand_number new) (start_of shared) (seen_by new) entry.deed)
    → VisitsItsOwnPrograms shared old → VisitsItsOwnPrograms shared new
visits-stay-at stay shared old new shard before added asked is_old is_new was own =
    visits-stay shared old new is_old is_new was.number was.more stay (λ k.
    let one = one-more (made_by old).shards shard k added in
    (one.0, ap (λ (a : Account). shard_log a k) was.made ∙ one.1, λ entry h. own entry (one.2 entry h)))
