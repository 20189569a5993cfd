-- A judgement in the lock of the store, with the oracle's within it.
-- Used by `commit` and ShardVisited.
use Rattle.std.proofs.Common.{◌≡◌, ℕ, List, [], ◌∷◌, ◌++◌, length, map, Contains, inl, refl, sym, ap, ◌∙◌, subst}
use Rattle.std.specs.Prelude.{All, Result, Ok, Err}
use Rattle.std.specs.Vec.{with_items}
use Rattle.std.proofs.lemmas.List.{append-nil, map-append}
use Rattle.std.proofs.lemmas.List.Elements.{All-cons, All-nil}
use Rattle.weave_data.proofs.Members.{has_head, has_none, has_tail, only}
use Rattle.graph_ops.specs.declared.op.Op.{Op}
use Rattle.graph_ops.specs.declared.tx.Got.{Got}
use Rattle.vector_stamp.specs.declared.clock.Stamp.{Stamp}
use Rattle.vector_stamp.specs.Settling.{additions_from, entries_of_call, places_of}
use Rattle.weave_entries.specs.declared.gate_log.GateDeed.{GateDeed}
use Rattle.weave_entries.specs.declared.gate_log.GateEntry.{GateEntry}
use Rattle.weave_entries.specs.declared.oracle_log.OracleDeed.{OracleDeed}
use Rattle.weave_entries.specs.declared.oracle_log.OracleEntry.{OracleEntry}
use Rattle.weave_entries.specs.declared.store_log.StoreDeed.{StoreDeed}
use Rattle.weave_entries.specs.declared.store_log.StoreEntry.{StoreEntry}
use Rattle.weave_entries.specs.declared.verdict.Counted.{Counted}
use Rattle.weave_entries.specs.declared.verdict.Verdict.{Verdict}
use Rattle.weave_entries.specs.declared.verdict.Verdict.TheVariants.{Committed, Conflict, Refused}
use Rattle.weave_entries.specs.OracleReplay.{oracle_entry_of, pairs_of_log}
use Rattle.weave_entries.specs.StoreReplay.{commit_by}
use Rattle.weave_entries.specs.StoreRule.{IsStoreLog}
use Rattle.backing_store.specs.Commits.{asked_at, judged_entry}
use Rattle.weave_account.specs.declared.account.Account.{Account}
use Rattle.weave_account.specs.GoesOn.{IsBeginningOf}
use Rattle.weave_account.proofs.GoesOn.{whole}
use Rattle.seen_logs.specs.Entries.{oracle_entries, oracle_pairs, store_pair, store_pairs}
use Rattle.seen_logs.specs.References.{IsAskedAsSeen}
use Rattle.seen_logs.specs.Seen.{GatesGoOn, StoreRefersWithin}
use Rattle.chronicle.specs.declared.chronicle.Chronicle.{Chronicle}
use Rattle.chronicle.specs.declared.held.Held.{Held}
use Rattle.chronicle.specs.declared.note.Note.{Note}
use Rattle.chronicle.specs.declared.pass.Pass.{Pass}
use Rattle.chronicle.specs.Holds.{log_at_entry, machine_of}
use Rattle.chronicle.specs.Locks.{lock_of}
use Rattle.chronicle.specs.Logs.{Follows, Log}
use Rattle.chronicle.specs.Passes.{IsReady, seen_by_note, number_of, own_entries, seen_by_pass}
use Rattle.lock_row.specs.Meetings.{AllMet}
use Rattle.lock_row.proofs.Lists.{written}
use Rattle.gate_lock.specs.declared.noted_gate.NotedGate.{NotedGate}
use Rattle.oracle_lock.specs.Seen.{gates_noted, gates_seen, of_gates, OracleIsKept}
use Rattle.store_lock.specs.declared.noted_store.NotedStore.{NotedStore}
use Rattle.store_lock.specs.Judged.{JudgesOver}
use Rattle.store_lock.specs.Seen.{store_seen, StoreIsKept, StoreView}
use Rattle.weaver_locks.specs.declared.hand.Hand.{Hand}
use Rattle.weaver_locks.specs.declared.shared.Shared.{Shared}
use Rattle.weaver_locks.specs.Hands.{hand_number, IsHand}
use Rattle.weaver_locks.specs.HoldLaws.{HoldLaws}
use Rattle.weaver_locks.specs.InStore.{DoesInStore, IsDoneInStore, IsInStore}
use Rattle.weaver_locks.specs.StoreHolds.{judged_entries, settled_entries}
use Rattle.weaver_locks.proofs.Rows.{all_met_on, go_on_twice}

-- What a judgement adds

judged_by_hand : {F : Type 0} (n request : ℕ) (stamp : Stamp) (ops : List Op) (before : List StoreEntry) (r : Result Verdict F) (e : StoreEntry)
    → Contains (judged_entries n request stamp ops before r) e → e.author ≡ n
judged_by_hand n request stamp ops before (Ok verdict) e has = ap (λ (x : StoreEntry). x.author) (sym (only _ e has))
judged_by_hand n request stamp ops before (Err f) e has = absurd (has_none e has)

-- the entry of a call is its caller's
pub call_by : (n : ℕ) (asked : List Stamp) (stamp : Stamp) (places : List ℕ) (e : OracleEntry)
    → Contains (map oracle_entry_of (entries_of_call n asked stamp places)) e → e.author ≡ n
call_by n asked stamp [] e has = absurd (has_none e has)
call_by n asked stamp (place ∷ places) e has = ap (λ (x : OracleEntry). x.author) (sym (only _ e has))

asked_by_hand : {F : Type 0} (n : ℕ) (stamp : Stamp) (ops : List Op) (before : List StoreEntry) (settled : List OracleEntry) (r : Result Verdict F)
    (e : OracleEntry) → Contains (settled_entries n stamp ops before settled r) e → e.author ≡ n
asked_by_hand n stamp ops before settled (Ok (Committed number answers counts)) e has =
    call_by n (asked_at before stamp ops) stamp (places_of (additions_from 0 (pairs_of_log settled) (asked_at before stamp ops) stamp)) e has
asked_by_hand n stamp ops before settled (Ok (Conflict vertex newer)) e has = absurd (has_none e has)
asked_by_hand n stamp ops before settled (Ok (Refused op reason at)) e has = absurd (has_none e has)
asked_by_hand n stamp ops before settled (Err f) e has = absurd (has_none e has)

-- the pairs were asked for by the commit that is made in the same hold
call_asked : (n request : ℕ) (stamp : Stamp) (ops : List Op) (before : List StoreEntry) (verdict : Verdict) (number : ℕ) (answers : List Got) (counts : List Counted)
    → verdict ≡ Committed number answers counts → (next : Account) → next.store ≡ before ++ judged_entry n request stamp ops before verdict ∷ []
    → (places : List ℕ) (e : OracleEntry) → Contains (map oracle_entry_of (entries_of_call n (asked_at before stamp ops) stamp places)) e → IsAskedAsSeen next e
call_asked n request stamp ops before verdict number answers counts is next at [] e has = absurd (has_none e has)
call_asked n request stamp ops before verdict number answers counts is next at (place ∷ places) e has =
    let first : OracleEntry = oracle_entry_of (record { author = n; earlier = asked_at before stamp ops; later = stamp; places = place ∷ places }) in
    subst (λ (x : OracleEntry). IsAskedAsSeen next x) (only first e has) (inl (record {
      before = before;
      entry = judged_entry n request stamp ops before verdict;
      after = [];
      at = at;
      commit = record { request = request; stamp = stamp; ops = ops };
      commit_is = ap (λ (v : Verdict). commit_by (judged_entry n request stamp ops before v).deed) is;
      later_is = refl;
      earlier_are = refl;
    }))

asked_for_it : {F : Type 0} (n request : ℕ) (stamp : Stamp) (ops : List Op) (before : List StoreEntry) (settled : List OracleEntry) (r : Result Verdict F)
    (next : Account) → next.store ≡ before ++ judged_entries n request stamp ops before r → (e : OracleEntry)
    → Contains (settled_entries n stamp ops before settled r) e → IsAskedAsSeen next e
asked_for_it n request stamp ops before settled (Ok (Committed number answers counts)) next at e has =
    call_asked n request stamp ops before (Committed number answers counts) number answers counts refl next at
    (places_of (additions_from 0 (pairs_of_log settled) (asked_at before stamp ops) stamp)) e has
asked_for_it n request stamp ops before settled (Ok (Conflict vertex newer)) next at e has = absurd (has_none e has)
asked_for_it n request stamp ops before settled (Ok (Refused op reason at_op)) next at e has = absurd (has_none e has)
asked_for_it n request stamp ops before settled (Err f) next at e has = absurd (has_none e has)

store_log_on : {F : Type 0} (n request : ℕ) (stamp : Stamp) (ops : List Op) (old new : List StoreEntry) (had mine has : Log OracleDeed)
    (settled : List OracleEntry) (r : Result Verdict F) → JudgesOver n request stamp ops old new had mine has settled r
    → new ≡ old ++ judged_entries n request stamp ops old r
store_log_on n request stamp ops old new had mine has settled (Ok verdict) judges = judges.entry
store_log_on n request stamp ops old new had mine has settled (Err f) judges = judges.store ∙ sym (append-nil old)

oracle_log_on : {F : Type 0} (n request : ℕ) (stamp : Stamp) (ops : List Op) (old new : List StoreEntry) (had mine has : Log OracleDeed)
    (settled : List OracleEntry) (r : Result Verdict F) → JudgesOver n request stamp ops old new had mine has settled r
    → has ≡ oracle_pairs (settled ++ settled_entries n stamp ops old settled r)
oracle_log_on n request stamp ops old new had mine has settled (Ok verdict) judges = judges.logged
oracle_log_on n request stamp ops old new had mine has settled (Err f) judges =
    judges.oracle ∙ ap (λ (l : List OracleEntry). oracle_pairs l) (sym (append-nil settled))

all_by : (n author : ℕ) (added : List StoreEntry) → author ≡ n → ((e : StoreEntry) → Contains added e → e.author ≡ n)
    → All (λ (e : ℕ × StoreDeed). e.0 ≡ author) (store_pairs added)
all_by n author [] is by = All-nil (λ (e : ℕ × StoreDeed). e.0 ≡ author)
all_by n author (e ∷ added) is by = All-cons (λ (x : ℕ × StoreDeed). x.0 ≡ author) (store_pair e) (store_pairs added) (by e (has_head e added) ∙ sym is)
    (all_by n author added is (λ x h. by x (has_tail e added x h)))

module _ {F : Type 0} (shared : Shared) (old now : Hand) (held : Held NotedStore StoreDeed) (hand : IsHand shared old)
    (i : IsInStore shared old now held) (s m : StoreView) (s_is : s ≡ machine_of held) (request : ℕ) (stamp : Stamp) (ops : List Op)
    (r : Result Verdict F) (oracle : Pass OracleDeed) (settled : List OracleEntry)
    (judges : JudgesOver (number_of now.oracle) request stamp ops s.store m.store (seen_by_pass now.oracle) (own_entries now.oracle) (seen_by_pass oracle) settled r) where
  abbrev n : ℕ
  n = hand_number old

  abbrev before : List StoreEntry
  before = (machine_of held).store

  abbrev added : List StoreEntry
  added = judged_entries n request stamp ops before r

  abbrev asked : List OracleEntry
  asked = settled_entries n stamp ops before settled r

  -- the judgement is by the hand, and over the store's log as the hold began
  pub judged : JudgesOver n request stamp ops before m.store (seen_by_pass old.oracle) (own_entries old.oracle) (seen_by_pass oracle) settled r
  judged = subst (λ (z : ℕ × List StoreEntry × Pass OracleDeed). JudgesOver z.0 request stamp ops z.1 m.store (seen_by_pass z.2) (own_entries z.2) (seen_by_pass oracle) settled r)
      (λ j. ((ap number_of i.oracle ∙ hand.oracle_number) j, ap (λ (v : StoreView). v.store) s_is j, i.oracle j)) judges

  log_is : m.store ≡ before ++ added
  log_is = store_log_on n request stamp ops before m.store (seen_by_pass old.oracle) (own_entries old.oracle) (seen_by_pass oracle) settled r judged

  -- since the hold began, the store's log went on by entries of the hand alone
  pub follows : Follows (hand_number now) (log_at_entry held) (store_pairs m.store)
  follows = (
    store_pairs added,
    ap (λ (l : Log StoreDeed). l ++ store_pairs added) i.entry ∙ (sym (map-append store_pair before added) ∙ ap (λ (l : List StoreEntry). store_pairs l) (sym log_is)),
    all_by n (hand_number now) added i.number (judged_by_hand n request stamp ops before r),
  )

  module _ (laws : HoldLaws) (passes later : List (Pass GateDeed)) (passes_is : passes ≡ now.gates.items)
      (locks : List (Chronicle NotedGate GateDeed)) (locks_is : locks ≡ shared.gates.items)
      (gates_still : m.gates ≡ s.gates) (shards_still : m.shards ≡ s.shards) (one : seen_by_note m.oracle ≡ seen_by_pass oracle)
      (ready : IsReady (lock_of shared.oracle) oracle) (number : number_of oracle ≡ number_of now.oracle)
      (count : length later ≡ length passes) (on : GatesGoOn (of_gates (gates_seen passes)) (of_gates (gates_seen later)))
      (oracle_kept : OracleIsKept s.shards (gates_seen later) (oracle_entries (seen_by_pass oracle)))
      (met : (notes : List (Note GateDeed)) × (last : List (Note GateDeed)) × (length notes ≡ length locks)
      × AllMet locks passes later notes last (length locks))
      (kept : StoreIsKept m.shards (gates_noted m.gates) (oracle_entries (seen_by_note m.oracle)) m.store) where
    back : (with_items now.gates later).items ≡ later
    back = written now.gates.len later now.gates.items (count ∙ ap (λ (l : List (Pass GateDeed)). length l) passes_is ∙ sym now.gates.ok.0)

    all_met : AllMet shared.gates.items now.gates.items (with_items now.gates later).items met.0 met.1 (length shared.gates.items)
    all_met = subst (λ (z : List (Chronicle NotedGate GateDeed) × List (Pass GateDeed) × List (Pass GateDeed)). AllMet z.0 z.1 z.2 met.0 met.1 (length z.0))
        (λ j. (locks_is j, passes_is j, sym back j)) met.3

    abbrev by_notes : Account
    by_notes = store_seen (gates_noted m.gates) (oracle_entries (seen_by_note m.oracle)) m.store

    abbrev by_passes : Account
    by_passes = store_seen (gates_seen (with_items now.gates later).items) (oracle_entries (seen_by_pass oracle)) (before ++ added)

    notes_on : GatesGoOn by_notes by_passes
    notes_on = subst (λ (z : List (List GateEntry) × List (Pass GateDeed)). GatesGoOn (of_gates z.0) (of_gates (gates_seen z.1)))
        (λ j. ((ap gates_seen passes_is ∙ (sym i.one ∙ (ap (λ (v : StoreView). gates_noted v.gates) (sym s_is) ∙ ap gates_noted (sym gates_still)))) j, sym back j)) on

    oracle_on : IsBeginningOf by_notes.oracle by_passes.oracle
    oracle_on = subst (λ (l : Log OracleDeed). IsBeginningOf by_notes.oracle (oracle_entries l)) one (whole by_notes.oracle)

    refers : StoreRefersWithin by_passes
    refers cut e after at = laws.store_stays by_notes by_passes notes_on oracle_on cut e.author e.deed (kept.refers cut e after (log_is ∙ at))

    does : DoesInStore shared old (with_items now.gates later).items oracle before added settled asked
    does = record {
      hand = hand;
      gates_on = go_on_twice shared.gates.items old.gates.items now.gates.items (with_items now.gates later).items i.gates
          (all_met_on shared.gates.items now.gates.items (with_items now.gates later).items met.0 met.1 all_met
          (met.2 ∙ ap (λ (l : List (Chronicle NotedGate GateDeed)). length l) locks_is) (ap (λ (l : List (Pass GateDeed)). length l) back ∙ count ∙ ap (λ (l : List (Pass GateDeed)). length l) passes_is));
      oracle_adds = record {
        ready = ready;
        number = number ∙ (ap number_of i.oracle ∙ hand.oracle_number);
        found = judged.begins;
        own_is = judged.own_then;
        left = oracle_log_on n request stamp ops before m.store (seen_by_pass old.oracle) (own_entries old.oracle) (seen_by_pass oracle) settled r judged;
        by = asked_by_hand n stamp ops before settled r;
      };
      asked_for = asked_for_it n request stamp ops before settled r;
      found = i.found;
      own_is = i.own_is;
      added_by = judged_by_hand n request stamp ops before r;
      store_legal = subst (λ (l : List StoreEntry). IsStoreLog l) log_is kept.legal.store_log;
      refers = refers;
      oracle_kept = subst (λ (z : ℕ × List (Pass GateDeed)). OracleIsKept z.0 (gates_seen z.1) (oracle_entries (seen_by_pass oracle)))
          (λ j. ((ap (λ (v : StoreView). v.shards) s_is ∙ i.shard_count) j, sym back j)) oracle_kept;
    }

    -- the hand is done in the store, with what it added there and what it asked the oracle for
    pub done : IsDoneInStore shared old
        (record { gates = with_items now.gates later; store = now.store; oracle = oracle; shards = now.shards }) m.store before added settled asked
    done = record { log_is = log_is; shards = i.shards; number = i.number; does = does }
