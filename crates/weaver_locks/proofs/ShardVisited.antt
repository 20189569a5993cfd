-- A visit in the lock of a shard, with the oracle's within it.
-- Used by `visit`.
use Rattle.std.proofs.Common.{◌≡◌, ℕ, ◌<◌, Bool, true, false, not, cond, ◌||◌, suc, ◌⊎◌, List, [], ◌∷◌, ◌++◌, length, map, get_or, Contains, inl, inr, refl, sym, ap, ◌∙◌, subst, arith}
use Rattle.std.specs.Prelude.{IsTrue, Result, Ok, Err, Vec}
use Rattle.std.specs.Global.{Global}
use Rattle.std.specs.List.{list_any}
use Rattle.std.specs.Vec.{with_items}
use Rattle.std.proofs.lemmas.List.{append-nil, length-map}
use Rattle.weave_data.proofs.Members.{cut_at, has_cut, has_flat, has_head, has_none, only}
use Rattle.weave_data.proofs.Entries.{each_before}
use Rattle.std.proofs.lemmas.List.Elements.{Contains-append_right}
use Rattle.graph_ops.specs.Operations.{State}
use Rattle.weave_data.specs.declared.name.Name.{Name}
use Rattle.vector_stamp.specs.declared.clock.Stamp.{Stamp}
use Rattle.vector_stamp.specs.Precedence.{GivenPair, precedes}
use Rattle.vector_stamp.specs.Seeing.{last_seen}
use Rattle.vector_stamp.specs.Settling.{additions_from, entries_of_call, places_of}
use Rattle.weave_entries.specs.declared.gate_log.GateDeed.{GateDeed}
use Rattle.weave_entries.specs.declared.gate_log.GateEntry.{GateEntry}
use Rattle.weave_entries.specs.declared.oracle_log.OracleDeed.{OracleDeed}
use Rattle.weave_entries.specs.declared.oracle_log.OracleEntry.{OracleEntry}
use Rattle.weave_entries.specs.declared.shard_log.ShardDeed.{ShardDeed}
use Rattle.weave_entries.specs.declared.shard_log.ShardEntry.{ShardEntry}
use Rattle.weave_entries.specs.declared.store_log.StoreDeed.{StoreDeed}
use Rattle.weave_entries.specs.declared.store_log.StoreEntry.{StoreEntry}
use Rattle.weave_entries.specs.OracleReplay.{oracle_entry_of, pairs_of_log, settled_entry}
use Rattle.weave_entries.specs.ShardReplay.{Update, Visit, visit_by}
use Rattle.weave_entries.specs.ShardRules.{entries_of_visit, is_settled_by, FitsShard, IsKeptFor, IsShardLog, last_read, update_stamps, updates_read}
use Rattle.weave_entries.specs.StoreRule.{IsStoreLog}
use Rattle.weave_account.specs.declared.account.Account.{Account}
use Rattle.weave_account.specs.Account.{shard_log}
use Rattle.weave_account.specs.GoesOn.{IsBeginningOf}
use Rattle.weave_account.specs.Oracle.{seen_last}
use Rattle.weave_account.proofs.GoesOn.{whole}
use Rattle.seen_logs.specs.Entries.{oracle_entries, oracle_pairs, store_entries, shard_entries, shard_entry, shard_pair, shard_pairs}
use Rattle.seen_logs.specs.References.{IsAskedAsSeen, OracleRefersAs}
use Rattle.seen_logs.specs.Seen.{GatesGoOn, OracleRefersWithin, ShardRefersWithin, visit_entry}
use Rattle.chronicle.specs.declared.chronicle.Chronicle.{Chronicle}
use Rattle.chronicle.specs.declared.held.Held.{Held}
use Rattle.chronicle.specs.declared.note.Note.{Note}
use Rattle.chronicle.specs.declared.pass.Pass.{Pass}
use Rattle.chronicle.specs.Holds.{log_at_entry, machine_of}
use Rattle.chronicle.specs.Locks.{lock_of}
use Rattle.chronicle.specs.Logs.{Follows, Log, entries_of}
use Rattle.chronicle.specs.Passes.{IsReady, seen_by_note, number_of, own_entries, seen_by_pass}
use Rattle.lock_row.specs.Meetings.{AllMet}
use Rattle.lock_row.proofs.Lists.{written}
use Rattle.gate_lock.specs.declared.noted_gate.NotedGate.{NotedGate}
use Rattle.oracle_lock.specs.Seen.{gates_noted, gates_seen, of_gates, oracle_seen, OracleIsKept}
use Rattle.oracle_lock.proofs.Settling.{pairs_back}
use Rattle.shard_node.specs.declared.fault.VisitFault.{VisitFault}
use Rattle.shard_node.specs.Shards.{ShardView}
use Rattle.shard_lock.specs.declared.noted_shard.NotedShard.{NotedShard}
use Rattle.shard_lock.specs.Notes.{at_place, ShardIsKept, NotedShardView, seen_by_shard_passes, seen_of_shard}
use Rattle.shard_lock.specs.Visited.{VisitsOver}
use Rattle.shard_lock.proofs.Accounts.{at_number}
use Rattle.weaver_locks.specs.declared.hand.Hand.{Hand}
use Rattle.weaver_locks.specs.declared.shared.Shared.{Shared}
use Rattle.weaver_locks.specs.AskLaws.{AskLaws}
use Rattle.weaver_locks.specs.Going.{AddsToOracle}
use Rattle.weaver_locks.specs.Hands.{hand_number, IsHand, seen_by}
use Rattle.weaver_locks.specs.HoldLaws.{HoldLaws}
use Rattle.weaver_locks.specs.InShard.{AddedAskForNewPairs, DoesInShard, IsDoneInShard, IsInShard}
use Rattle.weaver_locks.specs.ShardHolds.{asked_entries, visit_entries}
use Rattle.weaver_locks.proofs.AskedOnce.{asks_new}
use Rattle.weaver_locks.proofs.Beside.{oracle_found}
use Rattle.weaver_locks.proofs.Logged.{beyond, cut_pairs, records_on}
use Rattle.weaver_locks.proofs.Rows.{all_met_on, begins_more, go_on_twice, image_at}
use Rattle.weaver_locks.proofs.Seeing.{gates_named, same_gates, shard_at, shards_back}
use Rattle.weaver_locks.proofs.ShardDone.{follows, GoesBy, goes_by_none, goes_by_one}
use Rattle.weaver_locks.proofs.StoreCommitted.{call_by}
use Rattle.weaver_locks.proofs.HandParts.{has_shard}

-- the entry of a visit
abbrev visited : ℕ → ℕ → Stamp → Name → List ShardEntry → List OracleEntry → Visit
visited n request stamp vertex before settled = record {
  author = n;
  request = request;
  stamp = stamp;
  vertex = vertex;
  updates = updates_read (pairs_of_log settled) stamp vertex before;
  settled = is_settled_by (pairs_of_log settled) stamp vertex before;
}

made_by_hand : {A F : Type 0} (old : Hand) (request : ℕ) (stamp : Stamp) (vertex : Name) (before : List ShardEntry) (settled : List OracleEntry)
    (r : Result A F) (e : ShardEntry) → Contains (visit_entries old request stamp vertex before settled r) e → e.author ≡ hand_number old
made_by_hand old request stamp vertex before settled (Ok a) e has = ap (λ (x : ShardEntry). x.author) (sym (only _ e has))
made_by_hand old request stamp vertex before settled (Err f) e has = absurd (has_none e has)

asked_by_hand : {A F : Type 0} (old : Hand) (stamp : Stamp) (vertex : Name) (before : List ShardEntry) (settled : List OracleEntry) (r : Result A F)
    (e : OracleEntry) → Contains (asked_entries old stamp vertex before settled r) e → e.author ≡ hand_number old
asked_by_hand old stamp vertex before settled (Ok a) e has =
    let pairs = pairs_of_log settled in
    let read = last_read pairs stamp vertex before in
    call_by (hand_number old) read stamp (places_of (additions_from 0 pairs read stamp)) e has
asked_by_hand old stamp vertex before settled (Err f) e has = absurd (has_none e has)

-- an entry of a call says what was asked, and some event did not precede
record IsCall (earlier : List Stamp) (later : Stamp) (pairs : List GivenPair) (e : OracleEntry) : Type 0 where
  pub earlier_is : (settled_entry e).earlier ≡ earlier
  pub later_is : (settled_entry e).later ≡ later

call_is : (n : ℕ) (earlier : List Stamp) (later : Stamp) (pairs : List GivenPair) (places : List ℕ) (e : OracleEntry)
    → Contains (map oracle_entry_of (entries_of_call n earlier later places)) e → IsCall earlier later pairs e
call_is n earlier later pairs [] e has = absurd (has_none e has)
call_is n earlier later pairs (place ∷ places) e has =
    let first : OracleEntry = oracle_entry_of (record { author = n; earlier = earlier; later = later; places = place ∷ places }) in
    subst (λ (x : OracleEntry). IsCall earlier later pairs x) (only first e has) (record { earlier_is = refl; later_is = refl })

-- if all events precede, nothing is added
none_added : (place : ℕ) (pairs : List GivenPair) (read : List Stamp) (later : Stamp) → list_any (λ (u : Stamp). not (precedes pairs u later)) read ≡ false
    → additions_from place pairs read later ≡ []
none_added place pairs [] later is = refl
none_added place pairs (u ∷ us) later is =
    let rest = list_any (λ (x : Stamp). not (precedes pairs x later)) us in
    let added = (place, u) ∷ additions_from (suc place) (pairs ++ (u, later) ∷ []) us later in
    let P : Bool → Type 0 = λ b. (not b || rest) ≡ false → cond b (additions_from (suc place) pairs us later) added ≡ [] in
    let each : (b : Bool) → P b = λ b. elim b as P [
      | true ↦ (λ none. none_added (suc place) pairs us later none)
      | false ↦ (λ none. absurd cc)
    ] in
    each (precedes pairs u later) is

true_or : (b : Bool) → IsTrue b ⊎ (b ≡ false)
true_or true = inl refl
true_or false = inr refl

-- a visit that added a pair is marked
is_marked : (n : ℕ) (pairs : List GivenPair) (stamp : Stamp) (vertex : Name) (before : List ShardEntry) (e : OracleEntry)
    → Contains (map oracle_entry_of (entries_of_visit pairs n stamp vertex before)) e → IsTrue (is_settled_by pairs stamp vertex before)
is_marked n pairs stamp vertex before e has = elim (true_or (is_settled_by pairs stamp vertex before)) [
  | inl marked ↦ marked
  | inr none_marked ↦
      let read = last_read pairs stamp vertex before in
      let none = none_added 0 pairs read stamp none_marked in
      absurd (has_none e (subst (λ (l : List (ℕ × Stamp)). Contains (map oracle_entry_of (entries_of_call n read stamp (places_of l))) e) none has))
]

module _ (laws : AskLaws) (old : Hand) (gates request : ℕ) (stamp : Stamp) (vertex : Name) (before : List ShardEntry) (settled : List OracleEntry) where
  abbrev n : ℕ
  n = hand_number old

  abbrev pairs : List GivenPair
  pairs = pairs_of_log settled

  abbrev visit : Visit
  visit = visited n request stamp vertex before settled

  -- what the visit read was kept
  kept_for : IsShardLog gates (before ++ visit_entry visit ∷ []) → IsKeptFor stamp vertex before
  kept_for legal = (legal before (visit_entry visit) [] refl).base

  legal_before : IsShardLog gates (before ++ visit_entry visit ∷ []) → IsShardLog gates before
  legal_before legal = each_before (λ cut (e : ShardEntry). FitsShard gates cut e.deed) before (visit_entry visit ∷ []) legal

  -- the pairs were asked for by the visit that is made in the same hold
  asked_for_it : {A F : Type 0} (r : Result A F) (shard : ℕ) → IsShardLog gates (before ++ visit_entries old request stamp vertex before settled r)
      → (next : Account) → shard_log next shard ≡ before ++ visit_entries old request stamp vertex before settled r → (e : OracleEntry)
      → Contains (asked_entries old stamp vertex before settled r) e → IsAskedAsSeen next e
  asked_for_it (Ok a) shard legal next at e has =
      let read = last_read pairs stamp vertex before in
      let call = call_is n read stamp pairs (places_of (additions_from 0 pairs read stamp)) e has in
      let base = kept_for legal in
      let still = laws.still gates before (visit_entry visit) vertex (legal_before legal) refl in
      let last : read ≡ seen_last before visit = laws.last pairs stamp vertex before base
      ∙ ap (λ (k : ℕ). last_seen k (update_stamps vertex before)) (sym (laws.read pairs stamp vertex before base)) in
      let later : seen_last before visit ≡ seen_last (shard_log next shard) visit =
      ap (λ (us : List Update). last_seen visit.updates (map (λ (update : Update). update.stamp) us)) (sym still)
      ∙ ap (λ (l : List ShardEntry). seen_last l visit) (sym at) in
      inr (record {
        shard = shard;
        visit = visit;
        visited = has_flat (λ (entry : ShardEntry). visit_by entry.author entry.deed) (shard_log next shard) (visit_entry visit) visit
            (subst (λ (l : List ShardEntry). Contains l (visit_entry visit)) (sym at) (has_cut before (visit_entry visit) [])) (has_head visit []);
        marked = is_marked n pairs stamp vertex before e has;
        later_is = call.later_is;
        earlier_is = call.earlier_is ∙ (last ∙ later);
      })
  asked_for_it (Err f) shard legal next at e has = absurd (has_none e has)

  module _ (hold : HoldLaws) (shared : Shared) (hand : IsHand shared old) (shard : ℕ) (oracle_there : IsBeginningOf (seen_by old).oracle settled)
      (found : IsBeginningOf (shard_log (seen_by old) shard) before)
      (own_there : (cut after : List ShardEntry) (e : ShardEntry) → before ≡ cut ++ e ∷ after → e.author ≡ n
      → length cut < length (shard_log (seen_by old) shard)) where
    asks_nothing_again : {A F : Type 0} (r : Result A F) → IsShardLog gates (before ++ visit_entries old request stamp vertex before settled r)
        → AddedAskForNewPairs shared old shard before (visit_entries old request stamp vertex before settled r)
    asks_nothing_again (Ok x) legal next here there cut after a at over marked other rest b of_b same alike =
        asks_new hold laws shared old hand shard before settled oracle_there found own_there visit (kept_for legal) refl refl
        next here there cut after a at over marked other rest b of_b same alike
    asks_nothing_again (Err f) legal next here there cut after a at over marked other rest b of_b same alike =
        absurd (has_none (visit_entry a) (beyond before [] cut after (visit_entry a) at over))

-- What both logs have after a visit

shard_log_on : (old : Hand) (request : ℕ) (stamp : Stamp) (v : Name) (was new : ShardView) (had mine has : Log OracleDeed)
    (settled : List OracleEntry) (r : Result State VisitFault) → VisitsOver (hand_number old) request stamp v was new had mine has settled r
    → GoesBy was new (visit_entries old request stamp v was.log settled r)
shard_log_on old request stamp v was new had mine has settled (Ok a) visits = goes_by_one was new (hand_number old) (hand_number old) _ refl visits.entry
shard_log_on old request stamp v was new had mine has settled (Err f) visits = goes_by_none was new visits.unchanged

oracle_log_on : (old : Hand) (request : ℕ) (stamp : Stamp) (v : Name) (was new : ShardView) (had mine has : Log OracleDeed)
    (settled : List OracleEntry) (r : Result State VisitFault) → VisitsOver (hand_number old) request stamp v was new had mine has settled r
    → has ≡ oracle_pairs (settled ++ asked_entries old stamp v was.log settled r)
oracle_log_on old request stamp v was new had mine has settled (Ok a) visits = visits.logged
oracle_log_on old request stamp v was new had mine has settled (Err f) visits =
    visits.oracle ∙ ap (λ (l : List OracleEntry). oracle_pairs l) (sym (append-nil settled))

module _ (shared : Shared) (old now : Hand) (shard : ℕ) (held : Held NotedShard ShardDeed) (hand : IsHand shared old)
    (low : shard < length shared.shards.items) (i : IsInShard shared old now shard held) (s m : NotedShardView) (s_is : s ≡ machine_of held)
    (request : ℕ) (stamp : Stamp) (vertex : Name) (r : Result State VisitFault) (oracle : Pass OracleDeed) (settled : List OracleEntry)
    (visits : VisitsOver (number_of now.oracle) request stamp vertex s.shard m.shard (seen_by_pass now.oracle) (own_entries now.oracle) (seen_by_pass oracle) settled r) where
  abbrev was : NotedShardView
  was = machine_of held

  abbrev before : List ShardEntry
  before = was.shard.log

  abbrev added : List ShardEntry
  added = visit_entries old request stamp vertex before settled r

  abbrev asked : List OracleEntry
  asked = asked_entries old stamp vertex before settled r

  number_is : number_of now.oracle ≡ hand_number old
  number_is = i.oracle.number ∙ hand.oracle_number

  -- the visit is by the hand, and over the log of the shard as the hold began
  pub visited_here : VisitsOver (hand_number old) request stamp vertex was.shard m.shard (seen_by_pass now.oracle) (own_entries now.oracle) (seen_by_pass oracle) settled r
  visited_here = subst (λ (z : ℕ × ShardView). VisitsOver z.0 request stamp vertex z.1 m.shard (seen_by_pass now.oracle) (own_entries now.oracle) (seen_by_pass oracle) settled r)
      (λ j. (number_is j, ap (λ (v : NotedShardView). v.shard) s_is j)) visits

  goes : GoesBy was.shard m.shard added
  goes = shard_log_on old request stamp vertex was.shard m.shard (seen_by_pass now.oracle) (own_entries now.oracle) (seen_by_pass oracle) settled r visited_here

  oracle_left : seen_by_pass oracle ≡ oracle_pairs (settled ++ asked)
  oracle_left = oracle_log_on old request stamp vertex was.shard m.shard (seen_by_pass now.oracle) (own_entries now.oracle) (seen_by_pass oracle) settled r visited_here

  -- since the hold began, the shard's log went on by entries of the hand alone
  pub visit_follows : (p : Pass ShardDeed) → Follows (number_of (get_or now.shards.items shard p)) (log_at_entry held) (shard_pairs m.shard.log)
  visit_follows = follows shared old now shard held hand low i m.shard.log added goes.log (made_by_hand old request stamp vertex before settled r)

  oracle_adds : IsReady (lock_of shared.oracle) oracle → number_of oracle ≡ number_of now.oracle → AddsToOracle shared old oracle settled asked
  oracle_adds ready number = record {
    ready = ready;
    number = number ∙ number_is;
    found = begins_more (seen_by_pass old.oracle) (seen_by_pass now.oracle) (oracle_pairs settled) i.oracle.more visited_here.begins;
    own_is = visited_here.own_then ∙ i.oracle.own_is;
    left = oracle_left;
    by = asked_by_hand old stamp vertex before settled r;
  }

  -- Where the hand's entries were

  abbrev had : Log ShardDeed
  had = seen_by_pass (get_or old.shards.items shard i.pass)

  had_is : shard_log (seen_by old) shard ≡ shard_entries had
  had_is = shard_at old shard ∙ ap shard_entries (image_at seen_by_pass old.shards.items shard i.pass [] (has_shard shared old hand shard low))

  found : IsBeginningOf (shard_log (seen_by old) shard) before
  found = subst (λ (z : List ShardEntry × List ShardEntry). IsBeginningOf z.0 z.1) (λ j. (sym had_is j, shards_back before j))
      (records_on shard_entry shard_pair (λ x. refl) had (shard_pairs before) (i.found i.pass))

  own_there : HoldLaws → (cut after : List ShardEntry) (e : ShardEntry) → before ≡ cut ++ e ∷ after → e.author ≡ hand_number old
      → length cut < length (shard_log (seen_by old) shard)
  own_there laws cut after e at mine =
      let own_is = i.own_is i.pass ∙ ap (λ (k : ℕ). entries_of k had) (hand.shard_numbers shard i.pass (has_shard shared old hand shard low)) in
      let split = cut_pairs shard_entry shard_pair (λ x. refl) (shard_pairs before) cut after e (shards_back before ∙ at) in
      let there = laws.hand.shard_places (hand_number old) had (shard_pairs before) (shard_pairs cut) (shard_pairs after) (shard_pair e) (i.found i.pass) own_is split mine in
      omega (arith, there, length-map cut shard_pair, ap (λ (l : List ShardEntry). length l) had_is, length-map had shard_entry)

  module _ (laws : HoldLaws) (ask : AskLaws) (passes later : List (Pass GateDeed)) (passes_is : passes ≡ now.gates.items)
      (locks : List (Chronicle NotedGate GateDeed)) (locks_is : locks ≡ shared.gates.items)
      (gates_still : m.notes.gates ≡ s.notes.gates) (store_still : m.notes.store ≡ s.notes.store) (shards_still : m.shards ≡ s.shards)
      (one : seen_by_note m.notes.oracle ≡ seen_by_pass oracle) (ready : IsReady (lock_of shared.oracle) oracle) (number : number_of oracle ≡ number_of now.oracle)
      (count : length later ≡ length passes) (on : GatesGoOn (of_gates (gates_seen passes)) (of_gates (gates_seen later)))
      (oracle_kept : OracleIsKept s.shards (gates_seen later) (oracle_entries (seen_by_pass oracle)))
      (met : (notes : List (Note GateDeed)) × (last : List (Note GateDeed)) × (length notes ≡ length locks)
      × AllMet locks passes later notes last (length locks)) (kept : ShardIsKept m.shard m.shards m.notes) where
    abbrev G : ℕ
    G = length shared.gates.items

    abbrev H : ℕ
    H = length shared.shards.items

    abbrev gates_now : List (Pass GateDeed)
    gates_now = (with_items now.gates later).items

    back : gates_now ≡ later
    back = written now.gates.len later now.gates.items (count ∙ ap (λ (l : List (Pass GateDeed)). length l) passes_is ∙ sym now.gates.ok.0)

    all_met : AllMet shared.gates.items now.gates.items gates_now met.0 met.1 G
    all_met = subst (λ (z : List (Chronicle NotedGate GateDeed) × List (Pass GateDeed) × List (Pass GateDeed)). AllMet z.0 z.1 z.2 met.0 met.1 (length z.0))
        (λ j. (locks_is j, passes_is j, sym back j)) met.3

    abbrev by_notes : Account
    by_notes = seen_of_shard m.shard m.notes

    abbrev by_passes : Account
    by_passes = seen_by_shard_passes shard (before ++ added) gates_now now.store oracle

    notes_on : GatesGoOn by_notes by_passes
    notes_on = subst (λ (z : List (List GateEntry) × List (Pass GateDeed)). GatesGoOn (of_gates z.0) (of_gates (gates_seen z.1)))
        (λ j. (
          (ap gates_seen passes_is ∙ (sym (ap (λ (a : Account). a.gates) i.same) ∙ (ap (λ (v : NotedShardView). gates_noted v.notes.gates.items) (sym s_is)
              ∙ ap (λ (v : Vec (Note GateDeed) Global). gates_noted v.items) (sym gates_still)))) j,
          sym back j,
        )) on

    store_is : by_notes.store ≡ by_passes.store
    store_is = ap (λ (t : Note StoreDeed). store_entries (seen_by_note t)) store_still
        ∙ (ap (λ (v : NotedShardView). store_entries (seen_by_note v.notes.store)) s_is ∙ ap (λ (a : Account). a.store) i.same)

    place_is : m.shard.number ≡ shard
    place_is = goes.number ∙ i.place

    log_is : shard_log by_notes shard ≡ before ++ added
    log_is = ap (λ (k : ℕ). get_or (at_place k m.shard.log) shard []) place_is ∙ (at_number shard m.shard.log ∙ goes.log)

    shard_count : m.shards ≡ H
    shard_count = shards_still ∙ (ap (λ (v : NotedShardView). v.shards) s_is ∙ i.shard_count)

    kept_refers : ShardRefersWithin H by_notes shard
    kept_refers = subst (λ (z : ℕ × ℕ). ShardRefersWithin z.0 by_notes z.1) (λ j. (shard_count j, place_is j)) kept.refers

    refers : ShardRefersWithin H by_passes shard
    refers cut e after at = laws.shard_stays H shard by_notes by_passes notes_on
        (subst (λ (l : List StoreEntry). IsBeginningOf by_notes.store l) store_is (whole by_notes.store))
        (subst (λ (l : Log OracleDeed). IsBeginningOf by_notes.oracle (oracle_entries l)) one (whole by_notes.oracle))
        cut e.author e.deed (kept_refers cut e after (log_is ∙ (sym (at_number shard (before ++ added)) ∙ at)))

    shard_legal : IsShardLog G (before ++ added)
    shard_legal = subst (λ (z : ℕ × List ShardEntry). IsShardLog z.0 z.1) (λ j. ((goes.gates ∙ i.gate_count) j, log_is j)) (kept.legal.shard_logs shard)

    oracle_is_kept : OracleIsKept H (gates_seen gates_now) (oracle_entries (seen_by_pass oracle))
    oracle_is_kept = subst (λ (z : ℕ × List (Pass GateDeed)). OracleIsKept z.0 (gates_seen z.1) (oracle_entries (seen_by_pass oracle)))
        (λ j. ((ap (λ (v : NotedShardView). v.shards) s_is ∙ i.shard_count) j, sym back j)) oracle_kept

    asked_there : (e : OracleEntry) → Contains asked e → OracleRefersAs (of_gates (gates_seen gates_now)) e.deed
    asked_there e has =
        let log = oracle_entries (seen_by_pass oracle) in
        let all : log ≡ settled ++ asked = ap oracle_entries oracle_left ∙ pairs_back (settled ++ asked) in
        let cut = cut_at log e (subst (λ (l : List OracleEntry). Contains l e) (sym all) (Contains-append_right settled asked e has)) in
        laws.oracle_stays (oracle_seen (gates_seen gates_now) log) (of_gates (gates_seen gates_now))
        (same_gates (oracle_seen (gates_seen gates_now) log) (of_gates (gates_seen gates_now)) refl) e.deed
        (oracle_is_kept.refers cut.before e cut.after cut.is)

    does : DoesInShard shared old shard gates_now now.store oracle before added asked
    does = record {
      hand = hand;
      low = low;
      gates_on = go_on_twice shared.gates.items old.gates.items now.gates.items gates_now i.gates
          (all_met_on shared.gates.items now.gates.items gates_now met.0 met.1 all_met
          (met.2 ∙ ap (λ (l : List (Chronicle NotedGate GateDeed)). length l) locks_is) (ap (λ (l : List (Pass GateDeed)). length l) back ∙ count ∙ ap (λ (l : List (Pass GateDeed)). length l) passes_is));
      store_on = i.store;
      settled = settled;
      oracle_adds = oracle_adds ready number;
      asked_refers = asked_there;
      asked_for = asked_for_it ask old G request stamp vertex before settled r shard shard_legal;
      found = i.found;
      own_is = i.own_is;
      added_by = made_by_hand old request stamp vertex before settled r;
      gates_legal = record { rules = oracle_is_kept.legal.gate_logs; hears = oracle_is_kept.legal.hears };
      store_legal = subst (λ (l : List StoreEntry). IsStoreLog l) store_is kept.legal.store_log;
      oracle_legal = oracle_is_kept.legal.oracle_log;
      shard_legal = shard_legal;
      refers = refers;
      asks_new = asks_nothing_again ask old G request stamp vertex before settled laws shared hand shard
          (oracle_found shared old (record { gates = now.gates; store = now.store; oracle = oracle; shards = now.shards }) hand settled asked (oracle_adds ready number))
          found (own_there laws) r shard_legal;
    }

    -- the hand is done in the shard, with what it added there and what it asked the oracle for
    pub visit_done : IsDoneInShard shared old (record { gates = with_items now.gates later; store = now.store; oracle = oracle; shards = now.shards }) shard
        m.shard.log before added asked
    visit_done = record { log_is = goes.log; pass = i.pass; shards = i.shards; number = i.number; does = does }

    -- the hand added to the oracle's log, as it found it, what the visit asked for
    pub oracle_was : AddsToOracle shared old oracle settled asked
    oracle_was = oracle_adds ready number

    -- the hand's passes have seen all that the oracle's entries refer to, and what they have seen is legal
    pub oracle_keeps : OracleIsKept H (gates_seen gates_now) (oracle_entries (seen_by_pass oracle))
    oracle_keeps = oracle_is_kept

-- the hand has seen all that the oracle's log refers to
pub oracle_refers_on : HoldLaws → (shards : ℕ) (new : Hand) (gates : List (Pass GateDeed)) (oracle : Pass OracleDeed) → new.gates.items ≡ gates
    → new.oracle ≡ oracle → OracleIsKept shards (gates_seen gates) (oracle_entries (seen_by_pass oracle)) → OracleRefersWithin (seen_by new)
oracle_refers_on laws shards new gates oracle gates_is oracle_is kept cut e after at =
    let known : Account = oracle_seen (gates_seen gates) (oracle_entries (seen_by_pass oracle)) in
    laws.oracle_stays known (seen_by new) (same_gates known (seen_by new) (sym (gates_named new.gates.items ∙ ap gates_seen gates_is))) e.deed
    (kept.refers cut e after (ap (λ (p : Pass OracleDeed). oracle_entries (seen_by_pass p)) (sym oracle_is) ∙ at))
