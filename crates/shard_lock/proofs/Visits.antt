-- What a shard with notes has seen is enough for a visit, and after it all that its entries refer to is still seen.
-- Used by `visit` and `visit_over`.
use Rattle.std.proofs.Common.{◌≡◌, ◌≢◌, inl, inr, ℕ, ◌<◌, ◌≤◌, List, [], ◌∷◌, ◌++◌, length, map, Contains, sym, ap, ◌∙◌, subst, arith}
use Rattle.std.specs.Prelude.{Result, Ok, Err, All}
use Rattle.std.proofs.lemmas.Bool.{cases_lt}
use Rattle.std.proofs.lemmas.List.{append-nil, get_or_past, length-append, length-map, map-append}
use mathlib.Core.List.{IsPrefix}
use Rattle.weave_data.proofs.Members.{has_head, has_none, only}
use Rattle.weave_data.specs.Names.{shard_of}
use Rattle.weave_data.specs.declared.name.Name.{Name}
use Rattle.graph_ops.specs.Operations.{State}
use Rattle.vector_stamp.specs.declared.clock.Stamp.{Stamp}
use Rattle.vector_stamp.specs.Order.{id_of}
use Rattle.vector_stamp.specs.Precedence.{GivenPair}
use Rattle.weave_entries.specs.declared.gate_log.GateDeed.{GateDeed}
use Rattle.weave_entries.specs.declared.gate_log.GateEntry.{GateEntry}
use Rattle.weave_entries.specs.declared.oracle_log.OracleDeed.{OracleDeed}
use Rattle.weave_entries.specs.declared.oracle_log.OracleDeed.TheVariants.{Settled}
use Rattle.weave_entries.specs.declared.oracle_log.OracleEntry.{OracleEntry}
use Rattle.weave_entries.specs.declared.shard_log.ShardDeed.TheVariants.{Visited}
use Rattle.weave_entries.specs.declared.shard_log.ShardEntry.{ShardEntry}
use Rattle.weave_entries.specs.GateReplay.{BegunRequest, programs_of, running_of}
use Rattle.weave_entries.specs.OracleReplay.{oracle_entry_of, pairs_of_log}
use Rattle.weave_entries.specs.OracleRules.{IsOracleLog}
use Rattle.weave_entries.specs.ShardRules.{IsKeptFor, IsShardLog, entries_of_visit, is_settled_by, kept_stamps, updates_read}
use Rattle.shard_node.specs.Shards.{ShardView}
use Rattle.shard_node.specs.declared.fault.VisitFault.{VisitFault}
use Rattle.weave_account.specs.declared.account.Account.{Account}
use Rattle.weave_account.specs.Account.{IsBegunStamp, gate_log, shard_log}
use Rattle.weave_account.specs.Seen.{HasSeen, HasSeenSent}
use Rattle.weave_account.proofs.GoesOn.{whole}
use Rattle.seen_logs.specs.References.{OracleRefersAs, ShardRefersAs}
use Rattle.seen_logs.specs.Seen.{GatesGoOn, IsWithin}
use Rattle.chronicle.specs.declared.note.Note.{Note}
use Rattle.chronicle.specs.Logs.{Log}
use Rattle.chronicle.specs.Passes.{seen_by_note}
use Rattle.chronicle.proofs.Logs.{prefix_trans}
use Rattle.seen_logs.specs.Entries.{gate_entries, oracle_entries, oracle_pair, oracle_pairs}
use Rattle.oracle_lock.specs.Seen.{gates_noted, of_gates}
use Rattle.oracle_lock.proofs.Settling.{pairs_back}
use Rattle.shard_lock.specs.declared.notes.ShardNotes.{ShardNotes}
use Rattle.shard_lock.specs.LowerLaws.{LawsForShardNotes}
use Rattle.shard_lock.specs.Notes.{ShardIsKept, NotedShardView, seen_of_shard}
use Rattle.shard_lock.specs.Visited.{VisitsOver}
use Rattle.shard_lock.specs.VisitLaws.{VisitLaws}
use Rattle.shard_lock.proofs.Accounts.{at_number, grows}
use Rattle.shard_lock.proofs.Adding.{kept_still, kept_then}
use Rattle.shard_lock.proofs.Begins.{running-begun}
use Rattle.shard_lock.proofs.Reading.{visits-as-seen}
use Rattle.shard_lock.proofs.Updates.{asked-begun, other-ids}

-- a begun stamp stays begun while more is seen
pub stamp-stays : ((seen next : Account) → GatesGoOn seen next → (deed : OracleDeed) → OracleRefersAs seen deed → OracleRefersAs next deed)
    → (seen next : Account) → GatesGoOn seen next → (event : Stamp) → IsBegunStamp seen event → IsBegunStamp next event
stamp-stays stays seen next on event h =
    stays seen next on (Settled [] event []) (λ stamp has. subst (λ (s : Stamp). IsBegunStamp seen s) (only event stamp has) h) event (has_head event [])

module _ (laws : LawsForShardNotes) (visits : VisitLaws) (shard : ShardView) (shards : ℕ) (notes : ShardNotes) (kept : ShardIsKept shard shards notes)
    (few : shard.gates ≤ 8) (home : ℕ) (program : BegunRequest) (runs : Contains (running_of (gate_log (seen_of_shard shard notes) home)) program)
    (v : Name) (here : shard_of v shards ≡ shard.number) where
  abbrev seen : Account
  seen = seen_of_shard shard notes

  own : shard_log seen shard.number ≡ shard.log
  own = at_number shard.number shard.log

  begun : Contains (programs_of (gate_log seen home)) program
  begun = running-begun (gate_log seen home) program runs

  long : length seen.gates ≡ shard.gates
  long = length-map notes.gates.items (λ (note : Note GateDeed). gate_entries (seen_by_note note)) ∙ kept.gates

  home-there : home < shard.gates
  home-there = elim (cases_lt home (length seen.gates)) [
    | inl below ↦ omega (arith, below, long)
    | inr past ↦ absurd (has_none program (subst (λ (l : List GateEntry). Contains (programs_of l) program) (get_or_past seen.gates home [] past) begun))
  ]

  -- commits that were seen have passed, and messages here are empty or of judgements that were seen, applied in turn
  pub has-seen : HasSeen shards seen.store shard.number shard.log
  has-seen = subst (λ (l : List ShardEntry). HasSeen shards seen.store shard.number l) own
      (laws.has_seen shard.gates shards seen shard.number kept.legal.store_log (kept.legal.shard_logs shard.number) kept.refers)

  has-sent : HasSeenSent shard.gates shards seen shard.number shard.log
  has-sent = subst (λ (l : List ShardEntry). HasSeenSent shard.gates shards seen shard.number l) own
      (visits.sent shard.gates shards seen shard.number few kept.legal.gate_logs (kept.legal.shard_logs shard.number) kept.refers)

  -- what is kept reaches back far enough
  pub kept-for : IsKeptFor program.stamp v shard.log
  kept-for = visits.kept shard.gates shards seen shard.number shard.log has-seen has-sent home home-there program runs v here

  -- no update that is kept of the vertex has the id of the program
  pub ids-differ : All (λ update. id_of update ≢ id_of program.stamp) (kept_stamps v shard.log)
  ids-differ = other-ids shards seen shard.number shard.log own kept.refers kept.legal.gate_logs home program begun v visits (omega (arith, long, few))

  -- the stamps of the program and of what is kept are of begins, also once more of the gatekeepers' logs is seen
  pub begun-later : ((seen next : Account) → GatesGoOn seen next → (deed : OracleDeed) → OracleRefersAs seen deed → OracleRefersAs next deed)
      → (logs : List (List GateEntry)) → GatesGoOn (of_gates (gates_noted notes.gates.items)) (of_gates logs)
      → (event : Stamp) → Contains (program.stamp ∷ kept_stamps v shard.log) event → IsBegunStamp (of_gates logs) event
  begun-later stays logs on event h =
      stamp-stays stays (of_gates (gates_noted notes.gates.items)) (of_gates logs) on event
      (asked-begun shards seen shard.number shard.log own kept.refers kept.legal.gate_logs home program begun v event h)

-- what a visit asks, in one
pub record MayVisit (v : NotedShardView) (request : ℕ) (stamp : Stamp) (vertex : Name) : Type 0 where
  pub few : v.shard.gates ≤ 8
  pub here : shard_of vertex v.shards ≡ v.shard.number
  pub home : ℕ
  pub by : ℕ
  pub runs : Contains (running_of (gate_log (seen_of_shard v.shard v.notes) home)) (record { author = by; request = request; stamp = stamp })

-- a running program may visit a vertex that this shard keeps, if there are at most 8 gatekeepers
pub may_visit : (v : NotedShardView) (request : ℕ) (stamp : Stamp) (vertex : Name) (many : ℕ) → v.shard.gates ≡ many → many ≤ 8
    → shard_of vertex v.shards ≡ v.shard.number
    → ((home : ℕ) × (by : ℕ)
    × Contains (running_of (gate_log (seen_of_shard v.shard v.notes) home)) (record { author = by; request = request; stamp = stamp }))
    → MayVisit v request stamp vertex
may_visit v request stamp vertex many same few here runs = record {
  few = omega (arith, same, few);
  here = here;
  home = runs.0;
  by = runs.1;
  runs = runs.2;
}

-- Afterwards

-- these notes with another one of the oracle's lock
abbrev pub with_oracle : ShardNotes → Note OracleDeed → ShardNotes
with_oracle notes note = record { gates = notes.gates; store = notes.store; oracle = note }

-- the oracle's note has seen more
more-noted : LawsForShardNotes → (shard : ShardView) (shards : ℕ) (notes : ShardNotes) (note : Note OracleDeed) → ShardIsKept shard shards notes
    → IsPrefix (seen_by_note notes.oracle) (seen_by_note note) → IsOracleLog (oracle_entries (seen_by_note note)) → ShardIsKept shard shards (with_oracle notes note)
more-noted laws shard shards notes note kept on right =
    let before = seen_of_shard shard notes in
    let after = seen_of_shard shard (with_oracle notes note) in
    let goes : IsWithin before after = grows shard.number shard.log shard.log (gates_noted notes.gates.items) (gates_noted notes.gates.items)
    (seen_by_note notes.store) (seen_by_note notes.store) (seen_by_note notes.oracle) (seen_by_note note) (whole shard.log) (λ k. whole _)
    ([], append-nil (seen_by_note notes.store)) on in
    record {
      number = kept.number;
      gates = kept.gates;
      legal = record {
        gate_logs = kept.legal.gate_logs;
        hears = kept.legal.hears;
        store_log = kept.legal.store_log;
        oracle_log = right;
        shard_logs = kept.legal.shard_logs;
      };
      refers = laws.notes shards before after goes.gates goes.store goes.oracle shard.number (goes.shards shard.number) kept.refers
          (λ front entry rest at long.
          let L : List ShardEntry → ℕ = λ l. length l in
          absurd (omega (arith, long, ap L (at_number shard.number shard.log), ap L at, length-append front (entry ∷ rest))));
    }

module _ (author request : ℕ) (stamp : Stamp) (v : Name) (old new : ShardView) (had mine has : Log OracleDeed) (before : List OracleEntry) where
  -- the oracle's log goes on
  goes-on : (result : Result State VisitFault) → VisitsOver author request stamp v old new had mine has before result → IsPrefix (oracle_pairs before) has
  goes-on (Ok state) over =
      let more = map oracle_entry_of (entries_of_visit (pairs_of_log before) author stamp v old.log) in
      (oracle_pairs more, sym (map-append oracle_pair before more) ∙ sym over.logged)
  goes-on (Err fault) over = ([], append-nil (oracle_pairs before) ∙ sym over.oracle)

  -- a visit since less had been seen
  pub visits-since : (result : Result State VisitFault) (number : ℕ) (was is : ShardView) (first own last : Log OracleDeed) → author ≡ number
      → old ≡ was → new ≡ is → IsPrefix first had → mine ≡ own → has ≡ last
      → VisitsOver author request stamp v old new had mine has before result
      → VisitsOver number request stamp v was is first own last before result
  visits-since result number was is first their last author_is old_is new_is on own_is has_is over =
      let moved : VisitsOver author request stamp v old new first mine has before result = record {
        begins = prefix_trans first had (oracle_pairs before) on over.begins;
        own_then = over.own_then;
        ready = over.ready;
        state = over.state;
        entry = over.entry;
        logged = over.logged;
        pairs = over.pairs;
        not_ready = over.not_ready;
        not_asked = over.not_asked;
        refused = over.refused;
        unchanged = over.unchanged;
        oracle = over.oracle;
      } in
      subst (λ (z : ℕ × ShardView × ShardView × Log OracleDeed × Log OracleDeed). VisitsOver z.0 request stamp v z.1 z.2 first z.3 z.4 before result)
      (λ i. (author_is i, old_is i, new_is i, own_is i, has_is i)) moved

  -- the shard's number and its number of gatekeepers are as before
  pub same-shard : (result : Result State VisitFault) → VisitsOver author request stamp v old new had mine has before result
      → (new.number ≡ old.number) × (new.gates ≡ old.gates)
  same-shard (Ok state) over = (over.entry.number, over.entry.gates)
  same-shard (Err fault) over = (ap (λ (s : ShardView). s.number) over.unchanged, ap (λ (s : ShardView). s.gates) over.unchanged)

  module _ (laws : LawsForShardNotes) (visits : VisitLaws) (shards : ℕ) (notes : ShardNotes) (kept : ShardIsKept old shards notes) (few : old.gates ≤ 8)
      (home by : ℕ)
      (runs : Contains (running_of (gate_log (seen_of_shard old notes) home)) (record { author = by; request = request; stamp = stamp }))
      (here : shard_of v shards ≡ old.number) (note : Note OracleDeed) (one : seen_by_note note ≡ has) (on : IsPrefix (seen_by_note notes.oracle) had)
      (right : IsOracleLog (oracle_entries has)) (rules : IsShardLog new.gates new.log) where
    abbrev program : BegunRequest
    program = record { author = by; request = request; stamp = stamp }

    abbrev later : ShardNotes
    later = with_oracle notes note

    abbrev pairs : List GivenPair
    pairs = pairs_of_log before

    kept-later : (result : Result State VisitFault) → VisitsOver author request stamp v old new had mine has before result → ShardIsKept old shards later
    kept-later result over =
        more-noted laws old shards notes note kept
        (subst (λ (l : Log OracleDeed). IsPrefix (seen_by_note notes.oracle) l) (sym one)
        (prefix_trans (seen_by_note notes.oracle) (oracle_pairs before) has
        (prefix_trans (seen_by_note notes.oracle) had (oracle_pairs before) on over.begins)
        (goes-on result over)))
        (subst (λ (l : Log OracleDeed). IsOracleLog (oracle_entries l)) (sym one) right)

    refers : (state : State) → VisitsOver author request stamp v old new had mine has before (Ok state)
        → ShardRefersAs (seen_of_shard old later) shards old.number old.log author
        (Visited request stamp v (updates_read pairs stamp v old.log) (is_settled_by pairs stamp v old.log))
    refers state over =
        let more = map oracle_entry_of (entries_of_visit pairs author stamp v old.log) in
        let logged : oracle_entries (seen_by_note note) ≡ before ++ more
        = ap (λ (l : Log OracleDeed). oracle_entries l) (one ∙ over.logged) ∙ pairs_back (before ++ more) in
        visits-as-seen visits shards (seen_of_shard old later) old.number old.log
        (has-seen laws visits old shards notes kept few home program runs v here) before author request stamp v here
        (kept-for laws visits old shards notes kept few home program runs v here) logged
        (ap (λ (l : Log OracleDeed). pairs_of_log (oracle_entries l)) one ∙ over.pairs) home by
        (running-begun (gate_log (seen_of_shard old notes) home) program runs)

    -- after a visit or a refusal of it, the shard has still seen what its log refers to, with the later notes
    pub visit-keeps : (result : Result State VisitFault) → VisitsOver author request stamp v old new had mine has before result
        → ShardIsKept new shards later
    visit-keeps (Ok state) over =
        kept_then laws old new shards later (kept-later (Ok state) over) rules author
        (Visited request stamp v (updates_read pairs stamp v old.log) (is_settled_by pairs stamp v old.log)) over.entry (refers state over)
    visit-keeps (Err fault) over = kept_still laws old new shards later (kept-later (Err fault) over) rules author over.unchanged
