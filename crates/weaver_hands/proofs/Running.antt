-- A program of a hand that is running goes on, whatever else the hand does, and reads what the hand's visits read.
-- Used by `programs_left_alone_go_on`, `visit`, BegunProgram, OwnVisits and Refusals.
use Rattle.std.proofs.Common.{◌≡◌, ◌≢◌, ℕ, ◌<◌, ◌≤◌, ◌==◌, false, cond, List, [], ◌∷◌, ◌++◌, map, take, length, Contains, Some, Ok, refl, sym, ap, subst, ◌∙◌, arith, eq-eqb}
use Rattle.std.specs.Prelude.{filter}
use Rattle.std.specs.List.{flat_map}
use Rattle.std.specs.Map.{keys_of}
use Rattle.std.proofs.Math.Nat.{mod-lt}
use Rattle.std.proofs.lemmas.List.{get_or-set_same, length-map}
use Rattle.std.proofs.lemmas.List.Concat.{flat_map-append}
use Rattle.std.proofs.lemmas.List.Elements.{filter-append}
use Rattle.weave_data.proofs.Members.{flat_has, has_flat, drop_has}
use Rattle.weave_data.specs.Names.{shard_of}
use Rattle.weave_data.specs.declared.name.Name.{Name}
use Rattle.graph_ops.specs.Mentions.{is_among}
use Rattle.graph_ops.specs.Operations.{State}
use Rattle.program_defs.specs.declared.program.Program.{Program}
use Rattle.program_defs.specs.Agreement.{AreSameReads}
use Rattle.program_defs.specs.Visits.{next_visit}
use Rattle.path_program.specs.declared.any.AnyProgram.{AnyProgram}
use Rattle.path_program.specs.AnyPrograms.{any_of, HasRead}
use Rattle.vector_stamp.specs.declared.clock.Stamp.{Stamp}
use Rattle.weave_entries.specs.declared.gate_log.GateEntry.{GateEntry}
use Rattle.weave_entries.specs.declared.gate_log.GateDeed.TheVariants.{Finished}
use Rattle.weave_entries.specs.declared.shard_log.ShardEntry.{ShardEntry}
use Rattle.weave_entries.specs.declared.shard_log.ShardDeed.TheVariants.{Visited}
use Rattle.weave_entries.specs.GateReplay.{program_by, programs_of, running_of}
use Rattle.weave_entries.specs.OracleReplay.{pairs_of_log}
use Rattle.weave_entries.specs.ShardReplay.{Visit, state_of_updates, updates_of, visit_by, visits_of}
use Rattle.weave_entries.specs.ShardRules.{is_settled_by, updates_read}
use Rattle.weave_account.specs.declared.account.Account.{Account}
use Rattle.weave_account.specs.Account.{gate_log, shard_log}
use Rattle.weave_account.specs.GoesOn.{visits_by}
use Rattle.weave_account.proofs.GoesOn.{has-on, longer, flat-on}
use Rattle.seen_logs.specs.Entries.{shard_entries}
use Rattle.seen_logs.specs.LowerLaws.{LawsForSeenLogs}
use Rattle.seen_logs.specs.Seen.{entries_since, GatesGoOn}
use Rattle.seen_logs.proofs.Onward.{since-on}
use Rattle.chronicle.specs.Passes.{seen_by_pass}
use Rattle.weaver_core.specs.declared.walks.Running.{Running}
use Rattle.weaver_core.proofs.Visited.{next-new, reads-added}
use Rattle.weaver_locks.specs.declared.hand.Hand.{Hand}
use Rattle.weaver_locks.specs.declared.shared.Shared.{Shared}
use Rattle.weaver_locks.specs.HandLaws.{HandLaws}
use Rattle.weaver_locks.specs.Hands.{hand_number, made_by, seen_by, IsHand}
use Rattle.weaver_locks.specs.Locks.{start_of}
use Rattle.weaver_locks.specs.ShardHolds.{shard_entry_by, VisitsIn}
use Rattle.weaver_locks.proofs.EachLog.{own-shard}
use Rattle.weaver_locks.proofs.Following.{made-gate, seen-gate}
use Rattle.weaver_hands.specs.Leaving.{LeavesAlone, MakesNoVisit}
use Rattle.weaver_hands.specs.Programs.{entries_of_author, own_reads, own_reads_in, GainsRead, IsRunning}
use Rattle.weaver_hands.proofs.OwnReads.{all-still, reads-more, reads-still}
use Rattle.weaver_hands.proofs.Sets.{one-more, set-other, HasOneMore}

-- a vertex has a shard
pub shard-there : (v : Name) (shards : ℕ) → 1 ≤ shards → shard_of v shards < shards
shard-there v shards some = mod-lt _ (omega (arith, some))

-- there are as many logs of shards as shards
many-shards : (shared : Shared) (hand : Hand) → IsHand shared hand → length (seen_by hand).shards ≡ length shared.shards.items
many-shards shared hand is = length-map (map seen_by_pass hand.shards.items) shard_entries ∙ length-map hand.shards.items seen_by_pass ∙ is.shards

module _ (hands : HandLaws) (laws : LawsForSeenLogs) (shared : Shared) (old new : Hand) (is_old : IsHand shared old) (is_new : IsHand shared new)
    (number : hand_number new ≡ hand_number old) where
  abbrev n : ℕ
  n = hand_number old

  -- the hand's visits in what it has seen now are those that it made
  pub now-made : (r shard : ℕ) → visits_by r (entries_of_author n (shard_log (seen_by new) shard)) ≡ visits_by r (shard_log (made_by new) shard)
  now-made r shard =
      ap (λ m. visits_by r (entries_of_author m (shard_log (seen_by new) shard))) (sym number)
      ∙ ap (visits_by r) (sym (own-shard shared new is_new shard))

  -- and those that it had made are its own in what it had seen
  pub was-made : (r shard : ℕ) → visits_by r (shard_log (made_by old) shard) ≡ visits_by r (entries_of_author n (shard_log (seen_by old) shard))
  was-made r shard = ap (visits_by r) (own-shard shared old is_old shard)

  -- a begin that was seen stays
  pub begun-on : GatesGoOn (seen_by old) (seen_by new) → (home request : ℕ) (stamp : Stamp)
      → Contains (programs_of (entries_since (gate_log (start_of shared) home) (gate_log (seen_by old) home))) (record { author = hand_number old; request = request; stamp = stamp })
      → Contains (programs_of (entries_since (gate_log (start_of shared) home) (gate_log (seen_by new) home))) (record { author = hand_number new; request = request; stamp = stamp })
  begun-on more home request stamp h =
      let start = gate_log (start_of shared) home in
      let before = gate_log (seen_by old) home in
      let after = gate_log (seen_by new) home in
      subst (λ m. Contains (programs_of (entries_since start after)) (record { author = m; request = request; stamp = stamp })) (sym number)
      (has-on (programs_of (entries_since start before)) (programs_of (entries_since start after))
      (flat-on (λ (e : GateEntry). program_by e.author e.deed) (entries_since start before) (entries_since start after)
      (since-on start before after (longer start before (is_old.seen.starts.gates home)) (more home))) _ h)

  -- a program that was not finished isn't, if no finish was made
  unfinished-on : (home r : ℕ) → ((entry : GateEntry) → Contains (gate_log (made_by new) home) entry → entry.deed ≡ Finished r → Contains (gate_log (made_by old) home) entry)
      → ((entry : GateEntry) → Contains (gate_log (seen_by old) home) entry → entry.author ≡ hand_number old → entry.deed ≢ Finished r)
      → (entry : GateEntry) → Contains (gate_log (seen_by new) home) entry → entry.author ≡ hand_number new → entry.deed ≢ Finished r
  unfinished-on home r none before entry h mine deed =
      let made = none entry (made-gate hands shared new is_new home entry h mine) deed in
      let there = seen-gate hands shared old is_old home entry made in
      before entry there.0 there.1 deed

module _ (hands : HandLaws) (laws : LawsForSeenLogs) (shared : Shared) (old new : Hand) (is_old : IsHand shared old) (is_new : IsHand shared new) where
  -- what the hand's visits for a request read stays, if no visit was made for it
  pub own-same : (r : ℕ) → MakesNoVisit old new r → own_reads new r ≡ own_reads old r
  own-same r none =
      ap (λ m. flat_map (own_reads_in m r) (seen_by new).shards) none.number
      ∙ all-still (hand_number old) r laws (length shared.gates.items) (seen_by old) (seen_by new) none.more.shards is_new.legal.shard_logs
      (λ shard. now-made hands laws shared old new is_old is_new none.number r shard ∙ none.visits shard
      ∙ was-made hands laws shared old new is_old is_new none.number r shard)

  -- a program that is running still is, if the hand leaves its request alone
  pub still-runs : (running : Running) → LeavesAlone old new running.request → IsRunning shared old running → IsRunning shared new running
  still-runs running alone was = record {
    begun = begun-on hands laws shared old new is_old is_new alone.unvisited.number alone.unvisited.more.gates running.stamp.home running.request running.stamp was.begun;
    unfinished = unfinished-on hands laws shared old new is_old is_new alone.unvisited.number running.stamp.home running.request
        (alone.finished running.stamp.home) was.unfinished;
    reads = was.reads;
    walk = was.walk;
    same = subst (AreSameReads was.reads) (sym (own-same running.request alone.unvisited)) was.same;
  }

  -- One more visit

  module _ (running : Running) (v : Name) (state : State) (s : ℕ) (low : s < length shared.shards.items)
      (visits : VisitsIn (length shared.gates.items) (length shared.shards.items) old new s running.request running.stamp v (Ok state)) where
    abbrev r : ℕ
    r = running.request

    abbrev m : ℕ
    m = hand_number old

    abbrev pub visit : Visit
    visit = record {
      author = hand_number old;
      request = running.request;
      stamp = running.stamp;
      vertex = v;
      updates = updates_read (pairs_of_log visits.settled) running.stamp v visits.before;
      settled = is_settled_by (pairs_of_log visits.settled) running.stamp v visits.before;
    }

    abbrev entry : ShardEntry
    entry = shard_entry_by old (Visited running.request running.stamp v visit.updates visit.settled)

    made-there : shard_log (made_by new) s ≡ shard_log (made_by old) s ++ entry ∷ []
    made-there =
        let many : length (made_by old).shards ≡ length shared.shards.items =
        length-map (map _ old.shards.items) shard_entries ∙ length-map old.shards.items _ ∙ is_old.shards in
        ap (λ (a : Account). shard_log a s) visits.was.made
        ∙ get_or-set_same (made_by old).shards s (shard_log (made_by old) s ++ entry ∷ []) [] (omega (arith, low, many))

    one-visit : (log : List ShardEntry) → visits_by r (log ++ entry ∷ []) ≡ visits_by r log ++ visit ∷ []
    one-visit log =
        ap (filter (λ (one : Visit). one.request == r)) (flat_map-append (λ (e : ShardEntry). visit_by e.author e.deed) log (entry ∷ []))
        ∙ filter-append (λ (one : Visit). one.request == r) (visits_of log) (visit ∷ [])
        ∙ ap (λ b. visits_by r log ++ cond b (visit ∷ []) []) (eq-eqb r r refl)

    -- in the shard of the vertex the hand has this visit for the request more
    pub more-here : visits_by r (entries_of_author m (shard_log (seen_by new) s)) ≡ visits_by r (entries_of_author m (shard_log (seen_by old) s)) ++ visit ∷ []
    more-here =
        now-made hands laws shared old new is_old is_new visits.was.number r s ∙ ap (visits_by r) made-there
        ∙ one-visit (shard_log (made_by old) s)
        ∙ ap (λ l. l ++ visit ∷ []) (was-made hands laws shared old new is_old is_new visits.was.number r s)

    -- in each other shard it has the same visits for the request
    pub same-elsewhere : (k : ℕ) → k ≢ s → visits_by r (entries_of_author m (shard_log (seen_by new) k)) ≡ visits_by r (entries_of_author m (shard_log (seen_by old) k))
    same-elsewhere k other =
        now-made hands laws shared old new is_old is_new visits.was.number r k
        ∙ ap (λ (a : Account). visits_by r (shard_log a k)) visits.was.made
        ∙ ap (visits_by r) (set-other (made_by old).shards s k (shard_log (made_by old) s ++ entry ∷ []) other)
        ∙ was-made hands laws shared old new is_old is_new visits.was.number r k

    abbrev read : Name × State
    read = (v, state_of_updates (take visit.updates (updates_of v visits.before)))

    added : HasOneMore (own_reads_in m r) refl (seen_by old).shards (seen_by new).shards read
    added = one-more (own_reads_in m r) refl (seen_by old).shards (seen_by new).shards s read
        (let many = many-shards shared old is_old in omega (arith, low, many))
        (many-shards shared new is_new ∙ sym (many-shards shared old is_old))
        (reads-more m r laws (length shared.gates.items) (shard_log (seen_by old) s) visits.before (shard_log (seen_by new) s) visit
        (visits.was.more.shards s) (is_new.legal.shard_logs s) visits.was.left more-here)
        (λ k other. reads-still m r laws (length shared.gates.items) (shard_log (seen_by old) k) (shard_log (seen_by new) k)
        (visits.was.more.shards k) (is_new.legal.shard_logs k) (same-elsewhere k other))

    -- the hand's visits have read one more state
    pub gains : GainsRead (own_reads old r) (own_reads new r) (v, state)
    gains = record {
      front = added.front;
      back = added.back;
      was = added.was;
      is = ap (λ k. flat_map (own_reads_in k r) (seen_by new).shards) visits.was.number ∙ added.now
          ∙ ap (λ (x : State). added.front ++ (v, x) ∷ added.back) (sym visits.state);
    }

    module _ (was : IsRunning shared old running)
        (asks : (reads : List (Name × State)) → HasRead running.walk reads → Some v ≡ next_visit reads (any_of running.walk)) where
      -- the vertex was not read before
      new-vertex : is_among (keys_of (gains.front ++ gains.back)) v ≡ false
      new-vertex =
          ap (λ (l : List (Name × State)). is_among (keys_of l) v) (sym gains.was) ∙ sym (was.same.vertices v)
          ∙ next-new was.reads (any_of running.walk) v (sym (asks was.reads was.walk))

      -- it is the next visit after what the hand's visits had read
      pub in-turn : ((a b : List (Name × State)) (program : Program) → AreSameReads a b → next_visit a program ≡ next_visit b program)
          → next_visit (own_reads old r) (any_of running.walk) ≡ Some v
      in-turn free = sym (free was.reads (own_reads old r) (any_of running.walk) was.same) ∙ sym (asks was.reads was.walk)

      -- so the program is running with one more read
      pub runs-on : (walk : AnyProgram) → ((reads : List (Name × State)) → HasRead running.walk reads → HasRead walk ((v, state) ∷ reads))
          → IsRunning shared new (record { request = running.request; stamp = running.stamp; walk = walk })
      runs-on walk fed = record {
        begun = begun-on hands laws shared old new is_old is_new visits.was.number visits.was.more.gates running.stamp.home running.request running.stamp was.begun;
        unfinished = unfinished-on hands laws shared old new is_old is_new visits.was.number running.stamp.home running.request
            (λ e h deed. subst (λ (a : Account). Contains (gate_log a running.stamp.home) e) visits.was.made h) was.unfinished;
        reads = (v, state) ∷ was.reads;
        walk = fed was.reads was.walk;
        same =
            subst (AreSameReads ((v, state) ∷ was.reads)) (sym gains.is)
            (reads-added was.reads gains.front gains.back v state new-vertex (subst (AreSameReads was.reads) gains.was was.same));
      }

-- For a visit

-- the law of programs: one that was begun runs until its author has finished it
abbrev pub RunUntilFinished : Type 0
RunUntilFinished = (log : List GateEntry) (author request : ℕ) (stamp : Stamp)
    → Contains (programs_of log) (record { author = author; request = request; stamp = stamp })
    → ((entry : GateEntry) → Contains log entry → entry.author ≡ author → entry.deed ≢ Finished request)
    → Contains (running_of log) (record { author = author; request = request; stamp = stamp })

-- a program of the hand that is running is so in what the hand has seen of its gatekeeper
pub runs-here : RunUntilFinished → (shared : Shared) (hand : Hand) (running : Running) → IsRunning shared hand running
    → (home : ℕ) × Contains (running_of (gate_log (seen_by hand) home)) (record { author = hand_number hand; request = running.request; stamp = running.stamp })
runs-here law shared hand running was =
    let home = running.stamp.home in
    let log = gate_log (seen_by hand) home in
    let start = gate_log (start_of shared) home in
    let from = flat_has (λ (e : GateEntry). program_by e.author e.deed) (entries_since start log) _ was.begun in (
      home,
      law log (hand_number hand) running.request running.stamp
          (has_flat (λ (e : GateEntry). program_by e.author e.deed) log from.0 _ (drop_has (length start) log from.0 from.1) from.2) was.unfinished,
    )

-- a program that is running still is with a walk that has read all the first one had
pub roomy : (shared : Shared) (hand : Hand) (running : Running) → IsRunning shared hand running → (walk : AnyProgram)
    → ((reads : List (Name × State)) → HasRead running.walk reads → HasRead walk reads)
    → IsRunning shared hand (record { request = running.request; stamp = running.stamp; walk = walk })
roomy shared hand running was walk same = record {
  begun = was.begun;
  unfinished = was.unfinished;
  reads = was.reads;
  walk = same was.reads was.walk;
  same = was.same;
}
