-- What an entry needs of other logs stays true when those logs only grow at the end.
-- Used by `references_go_on`, Asking, Closing, MakesAccount, Noting and Onward.
use Rattle.std.proofs.Common.{ℕ, ◌==◌, inl, inr, List, [], ◌∷◌, ◌++◌, Contains, None, refl, sym, ap, subst, ◌∙◌, append_assoc}
use Rattle.std.specs.Prelude.{map}
use Rattle.std.specs.List.{filter, flat_map}
use Rattle.std.proofs.lemmas.List.{map-append}
use Rattle.std.proofs.lemmas.List.Elements.{Contains-append_left}
use Rattle.weave_data.proofs.Members.{filter_has, flat_has, has_flat, has_map, map_has}
use Rattle.graph_ops.specs.Operations.{State}
use Rattle.graph_ops.specs.declared.op.Op.{Op}
use Rattle.vector_stamp.specs.declared.clock.Clock.{Clock}
use Rattle.vector_stamp.specs.declared.clock.Stamp.{Stamp}
use Rattle.vector_stamp.specs.Settling.{SettledEntry}
use Rattle.program_defs.specs.declared.script.Script.{Script}
use Rattle.weave_data.specs.declared.name.Name.{Name}
use Rattle.weave_entries.specs.declared.gate_log.GateEntry.{GateEntry}
use Rattle.weave_entries.specs.declared.gate_log.GateDeed.{GateDeed}
use Rattle.weave_entries.specs.declared.gate_log.GateDeed.TheVariants.{BeganTx, BeganProgram, Sent, Nop, Heard, Raised, Finished}
use Rattle.weave_entries.specs.declared.message.Message.{Message}
use Rattle.weave_entries.specs.declared.oracle_log.OracleDeed.{OracleDeed}
use Rattle.weave_entries.specs.declared.oracle_log.OracleDeed.TheVariants.{Settled}
use Rattle.weave_entries.specs.declared.oracle_log.OracleEntry.{OracleEntry}
use Rattle.weave_entries.specs.declared.session_log.SessionEntry.{SessionEntry}
use Rattle.weave_entries.specs.declared.shard_log.ShardEntry.{ShardEntry}
use Rattle.weave_entries.specs.declared.shard_log.ShardDeed.{ShardDeed}
use Rattle.weave_entries.specs.declared.shard_log.ShardDeed.TheVariants.{Arrived, Applied, Visited, Collected}
use Rattle.weave_entries.specs.declared.store_log.StoreEntry.{StoreEntry}
use Rattle.weave_entries.specs.declared.store_log.StoreDeed.{StoreDeed}
use Rattle.weave_entries.specs.declared.verdict.Verdict.{Verdict}
use Rattle.weave_entries.specs.declared.verdict.Verdict.TheVariants.{Committed, Conflict, Refused}
use Rattle.weave_entries.specs.GateReplay.{BegunRequest, begun_by, begun_in, messages_by, program_by, to_shard, tx_by}
use Rattle.weave_entries.specs.OracleReplay.{settled_entry}
use Rattle.weave_entries.specs.ShardReplay.{Update, Visit, reads_in, visit_by, visits_of}
use Rattle.weave_entries.specs.ShardRules.{IsShardLog}
use Rattle.weave_entries.specs.StoreReplay.{Commit, Judgement, commit_by, commits_of, judged_by, judgements_of}
use Rattle.weave_account.specs.declared.account.Account.{Account}
use Rattle.weave_account.specs.Account.{IsBegunStamp, Precedence, all_begun, gate_log, reads_of, shard_log}
use Rattle.weave_account.specs.Clocks.{IsKnown}
use Rattle.weave_account.specs.GoesOn.{GoesOn, IsBeginningOf}
use Rattle.weave_account.specs.Oracle.{HasItsEntry, IsAskedByCommit, IsAskedByVisit, seen_last}
use Rattle.weave_account.specs.Seen.{IsMade}
use Rattle.weave_account.specs.Shards.{update_of}
use Rattle.weave_account.specs.Store.{IsRightVerdict}
use Rattle.seen_logs.specs.LowerLaws.{LawsForSeenLogs}
use Rattle.seen_logs.specs.References.{GateRefersAs, IsAskedAsSeen, OracleRefersAs, ShardRefersAs, StoreRefersAs, VisitsAsSeen}
use Rattle.seen_logs.specs.Seen.{GatesGoOn, ShardsGoOn}
use Rattle.seen_logs.proofs.Updates.{last-stays, reads-stay, shard-before, within}
use Rattle.weave_account.proofs.Beginning.{list-there}
use Rattle.weave_account.proofs.Replying.{place-of}
use Rattle.weave_account.proofs.VisitsStay.{read-in}
use Rattle.weave_account.proofs.GoesOn.{has-on, flat-on}

-- an empty script, for laws that ask for one although what they say doesn't depend on it
nothing : Script
nothing = record { gates = 0; shards = 0; requests = []; phases = []; steps = None }

-- the gatekeepers' logs of an account alone, and the oracle's
abbrev gates-alone : Account → Account
gates-alone account = record { gates = account.gates; store = []; oracle = []; shards = []; sessions = [] }

abbrev oracle-alone : Account → Account
oracle-alone account = record { gates = []; store = []; oracle = account.oracle; shards = []; sessions = [] }

-- no entry begins none
none-on : (A : Type 0) → IsBeginningOf {E = A} [] []
none-on A = ([], refl)

-- a shard's log from which a program read something is there
shard-there : (account : Account) (shard r : ℕ) (read : Name × State) → Contains (reads_in r (shard_log account shard)) read
    → Contains account.shards (shard_log account shard)
shard-there account shard r read h =
    let of = map_has (read-in (shard_log account shard)) (filter (λ (visit : Visit). visit.request == r) (visits_of (shard_log account shard))) read h in
    let visit = filter_has (λ (visit : Visit). visit.request == r) (visits_of (shard_log account shard)) of.0 of.1 in
    let entry = flat_has (λ (e : ShardEntry). visit_by e.author e.deed) (shard_log account shard) of.0 visit.0 in
    list-there account.shards shard entry.0 entry.1

-- What is in the gatekeepers' logs

module _ (laws : LawsForSeenLogs) (seen next : Account) (on : GatesGoOn seen next) where
  -- what is known stays known
  pub known-stays : (clock : Clock) → IsKnown seen clock → IsKnown next clock
  known-stays clock known =
      let goes_on : GoesOn (gates-alone seen) (gates-alone next) =
      record {
        gates = on;
        store = none-on StoreEntry;
        oracle = none-on OracleEntry;
        shards = λ shard. none-on ShardEntry;
        sessions = λ session. none-on SessionEntry;
      } in
      let now = laws.known_stays nothing (gates-alone seen) (gates-alone next) goes_on clock
      (record { eight = known.eight; counts = known.counts; raised = known.raised }) in
      record { eight = now.eight; counts = now.counts; raised = now.raised }

  -- what is in a gatekeeper's log stays there
  gate-has : {B : Type 0} (f : GateEntry → List B) (home : ℕ) (x : B) → Contains (flat_map f (gate_log seen home)) x
      → Contains (flat_map f (gate_log next home)) x
  gate-has f home x h =
      has-on (flat_map f (gate_log seen home)) (flat_map f (gate_log next home)) (flat-on f (gate_log seen home) (gate_log next home) (on home)) x h

  -- and so does a begun stamp
  begun-stays : (b : BegunRequest) → Contains (all_begun seen) b → Contains (all_begun next) b
  begun-stays b h =
      let log = flat_has begun_in seen.gates b h in
      let home = place-of seen.gates log.0 log.1 in
      let later = gate-has (λ (e : GateEntry). begun_by e.author e.deed) home.0 b (subst (λ l. Contains (begun_in l) b) (sym home.1) log.2) in
      let entry = flat_has (λ (e : GateEntry). begun_by e.author e.deed) (gate_log next home.0) b later in
      has_flat begun_in next.gates (gate_log next home.0) b (list-there next.gates home.0 entry.0 entry.1) later

  stamp-stays : (stamp : Stamp) → IsBegunStamp seen stamp → IsBegunStamp next stamp
  stamp-stays stamp h =
      let of = map_has (λ (b : BegunRequest). b.stamp) (all_begun seen) stamp h in
      subst (λ s. IsBegunStamp next s) of.2 (has_map (λ (b : BegunRequest). b.stamp) (all_begun next) of.0 (begun-stays of.0 of.1))

  -- what the oracle's entry refers to stays seen
  pub oracle-stays : (deed : OracleDeed) → OracleRefersAs seen deed → OracleRefersAs next deed
  oracle-stays (Settled earlier later places) refers = λ stamp h. stamp-stays stamp (refers stamp h)

-- What is in the store's

module _ (seen next : Account) (on : IsBeginningOf seen.store next.store) where
  judgement-stays : (judged : Judgement) → Contains (judgements_of seen.store) judged → Contains (judgements_of next.store) judged
  judgement-stays judged h =
      subst (λ js. Contains js judged) (sym (ap judgements_of on.1 ∙ map-append (λ (e : StoreEntry). judged_by e.author e.deed) seen.store on.0))
      (Contains-append_left (judgements_of seen.store) (judgements_of on.0) judged h)

  made-stays : (shards shard : ℕ) (message : Message) → IsMade shards seen.store shard message → IsMade shards next.store shard message
  made-stays shards shard message (inl empty) = inl empty
  made-stays shards shard message (inr made) =
      inr (record {
        judged = made.judged;
        is_judged = judgement-stays made.judged made.is_judged;
        log = made.log;
        begun = made.begun;
        stamp_is = made.stamp_is;
        addressed = made.addressed;
        sent = made.sent;
        shard_is = made.shard_is;
        message_is = made.message_is;
      })

  commit-stays : (v : Name) (update : Update) → Contains (map (update_of v) (commits_of seen.store)) update
      → Contains (map (update_of v) (commits_of next.store)) update
  commit-stays v update h =
      let of = map_has (update_of v) (commits_of seen.store) update h in
      let later = has-on (commits_of seen.store) (commits_of next.store) (flat-on (λ (e : StoreEntry). commit_by e.deed) seen.store next.store on) of.0 of.1 in
      subst (λ u. Contains (map (update_of v) (commits_of next.store)) u) of.2 (has_map (update_of v) (commits_of next.store) of.0 later)

  by-commit : (settled : SettledEntry) → IsAskedByCommit seen settled → IsAskedByCommit next settled
  by-commit settled asked = record {
    before = asked.before;
    entry = asked.entry;
    after = asked.after ++ on.0;
    at = on.1 ∙ ap (λ l. l ++ on.0) asked.at ∙ append_assoc asked.before (asked.entry ∷ asked.after) on.0;
    commit = asked.commit;
    commit_is = asked.commit_is;
    later_is = asked.later_is;
    earlier_are = asked.earlier_are;
  }

-- What is in the oracle's

module _ (laws : LawsForSeenLogs) (seen next : Account) (on : IsBeginningOf seen.oracle next.oracle) where
  -- what precedes goes on to precede
  pub precedence-stays : (a b : Stamp) → Precedence seen a b → Precedence next a b
  precedence-stays a b h =
      let goes_on : GoesOn (oracle-alone seen) (oracle-alone next) =
      record {
        gates = λ home. none-on GateEntry;
        store = none-on StoreEntry;
        oracle = on;
        shards = λ shard. none-on ShardEntry;
        sessions = λ session. none-on SessionEntry;
      } in
      laws.precedence_stays nothing (oracle-alone seen) (oracle-alone next) goes_on a b h

  verdict-stays : (before : List Commit) (stamp : Stamp) (ops : List Op) (verdict : Verdict)
      → IsRightVerdict seen before stamp ops verdict → IsRightVerdict next before stamp ops verdict
  verdict-stays before stamp ops (Committed number answers counts) right =
      record {
        number_is = right.number_is;
        graph = right.graph;
        passes = right.passes;
        counts_are = right.counts_are;
        after_last = λ v named last e. precedence-stays last.stamp stamp (right.after_last v named last e);
      }
  verdict-stays before stamp ops (Conflict v newer) right =
      record {
        named = right.named;
        last = right.last;
        last_is = right.last_is;
        newer_is = right.newer_is;
        precedes = precedence-stays stamp
            (right.last).stamp right.precedes;
      }
  verdict-stays before stamp ops (Refused op reason at) right = record { at_is = right.at_is; refused = right.refused }

  its-entry : (log : List ShardEntry) (visit : Visit) → HasItsEntry seen log visit → HasItsEntry next log visit
  its-entry log visit its = record {
    entry = its.entry;
    is_there = has-on seen.oracle next.oracle on its.entry its.is_there;
    later_is = its.later_is;
    earlier_is = its.earlier_is;
  }

-- What is in the shards'

module _ (laws : LawsForSeenLogs) (seen next : Account) (on : ShardsGoOn seen next) (gates : ℕ)
    (legal : (shard : ℕ) → IsShardLog gates (shard_log next shard)) where
  -- what was seen of a shard's log, with what was seen since
  together : (shard : ℕ) → IsShardLog gates (shard_log seen shard ++ (on shard).0)
  together shard = subst (IsShardLog gates) (on shard).1 (legal shard)

  read-there : (r : ℕ) (read : Name × State) → Contains (reads_of seen r) read → Contains (reads_of next r) read
  read-there r read h =
      let log = flat_has (reads_in r) seen.shards read h in
      let shard = place-of seen.shards log.0 log.1 in
      let more = on shard.0 in
      let here : Contains (reads_in r (shard_log seen shard.0)) read = subst (λ l. Contains (reads_in r l) read) (sym shard.1) log.2 in
      let later : Contains (reads_in r (shard_log next shard.0)) read =
      subst (λ l. Contains (reads_in r l) read) (sym more.1) (reads-stay laws gates r (shard_log seen shard.0) more.0 (together shard.0) read here) in
      has_flat (reads_in r) next.shards (shard_log next shard.0) read (shard-there next shard.0 r read later) later

  by-visit : (settled : SettledEntry) → IsAskedByVisit seen settled → IsAskedByVisit next settled
  by-visit settled asked =
      let shard = asked.shard in
      let log = shard_log seen shard in
      let more = on shard in
      let few = within laws gates log (shard-before gates log more.0 (together shard)) asked.visit asked.visited in
      record {
        shard = shard;
        visit = asked.visit;
        visited = has-on (visits_of log) (visits_of (shard_log next shard))
            (flat-on (λ (e : ShardEntry). visit_by e.author e.deed) log (shard_log next shard) more) asked.visit asked.visited;
        marked = asked.marked;
        later_is = asked.later_is;
        earlier_is = asked.earlier_is ∙ sym (ap (λ l. seen_last l asked.visit) more.1 ∙ last-stays laws gates log more.0 (together shard) asked.visit few);
      }

-- By kind of entry

module _ (laws : LawsForSeenLogs) (seen next : Account) where
  -- what the store's entry refers to stays seen
  pub store-stays : GatesGoOn seen next → IsBeginningOf seen.oracle next.oracle
      → (before : List StoreEntry) (author : ℕ) (deed : StoreDeed) → StoreRefersAs seen before author deed
      → StoreRefersAs next before author deed
  store-stays gates_on oracle_on before author deed refers =
      let judged = judged_by author deed in
      record {
        home = refers.home;
        begun = gate-has laws seen next gates_on (λ (e : GateEntry). tx_by e.author e.deed) refers.home _ refers.begun;
        right = verdict-stays laws seen next oracle_on (commits_of before) judged.stamp judged.ops judged.verdict refers.right;
      }

  visits-stay : GatesGoOn seen next → IsBeginningOf seen.store next.store → IsBeginningOf seen.oracle next.oracle
      → (shards shard : ℕ) (before : List ShardEntry) (visit : Visit) → VisitsAsSeen seen shards shard before visit
      → VisitsAsSeen next shards shard before visit
  visits-stay gates_on store_on oracle_on shards shard before visit refers =
      record {
        home = refers.home;
        by = refers.by;
        begun = gate-has laws seen next gates_on (λ (e : GateEntry). program_by e.author e.deed) refers.home _ refers.begun;
        kept_here = refers.kept_here;
        commits_read = λ update h. commit-stays seen next store_on visit.vertex update (refers.commits_read update h);
        after_seen = λ some update e. precedence-stays laws seen next oracle_on update.stamp visit.stamp (refers.after_seen some update e);
        before_skipped = λ update e. precedence-stays laws seen next oracle_on visit.stamp update.stamp (refers.before_skipped update e);
        asked = λ marked. its-entry laws seen next oracle_on before visit (refers.asked marked);
      }

  -- what a shard's entry refers to stays seen
  pub shard-stays : GatesGoOn seen next → IsBeginningOf seen.store next.store → IsBeginningOf seen.oracle next.oracle
      → (shards shard : ℕ) (before : List ShardEntry) (author : ℕ) (deed : ShardDeed)
      → ShardRefersAs seen shards shard before author deed → ShardRefersAs next shards shard before author deed
  shard-stays gates_on store_on oracle_on shards shard before author (Arrived home number message) refers =
      record {
        sent = gate-has laws seen next gates_on (λ (e : GateEntry). to_shard shard (messages_by e.deed)) home _ refers.sent;
        made = made-stays seen next store_on shards shard message refers.made;
      }
  shard-stays gates_on store_on oracle_on shards shard before author (Applied home number) refers = tt
  shard-stays gates_on store_on oracle_on shards shard before author (Visited r stamp v updates settled) refers =
      visits-stay gates_on store_on oracle_on shards shard before _ refers
  shard-stays gates_on store_on oracle_on shards shard before author (Collected bound) refers = tt

  -- what a gatekeeper's entry refers to stays seen
  pub gate-stays : GatesGoOn seen next → IsBeginningOf seen.store next.store → ShardsGoOn seen next
      → (gates : ℕ) → ((shard : ℕ) → IsShardLog gates (shard_log next shard))
      → (shards : ℕ) (before : List GateEntry) (author : ℕ) (deed : GateDeed)
      → GateRefersAs seen shards before author deed → GateRefersAs next shards before author deed
  gate-stays gates_on store_on shards_on gates legal shards before author (BeganTx r stamp) refers = known-stays laws seen next gates_on stamp.clock refers
  gate-stays gates_on store_on shards_on gates legal shards before author (BeganProgram r stamp) refers = known-stays laws seen next gates_on stamp.clock refers
  gate-stays gates_on store_on shards_on gates legal shards before author (Sent r messages) refers =
      record {
        judged = refers.judged;
        is_judged = judgement-stays seen next store_on refers.judged refers.is_judged;
        request_is = refers.request_is;
        messages_are = refers.messages_are;
      }
  gate-stays gates_on store_on shards_on gates legal shards before author
      (Nop shard number stamp low) refers = known-stays laws seen next gates_on stamp.clock refers
  gate-stays gates_on store_on shards_on gates legal shards before author (Heard clock) refers = known-stays laws seen next gates_on clock refers
  gate-stays gates_on store_on shards_on gates legal shards before author (Raised epoch) refers = tt
  gate-stays gates_on store_on shards_on gates legal shards before author (Finished r) refers =
      record {
        program = refers.program;
        reads = refers.reads;
        read = λ read h. read-there laws seen next shards_on gates legal r read (refers.read read h);
        whole = refers.whole;
      }

  -- an oracle's entry stays one that was asked for
  pub asked-stays : IsBeginningOf seen.store next.store → ShardsGoOn seen next
      → (gates : ℕ) → ((shard : ℕ) → IsShardLog gates (shard_log next shard))
      → (entry : OracleEntry) → IsAskedAsSeen seen entry → IsAskedAsSeen next entry
  asked-stays store_on shards_on gates legal entry (inl commit) = inl (by-commit seen next store_on (settled_entry entry) commit)
  asked-stays store_on shards_on gates legal entry (inr visit) = inr (by-visit laws seen next shards_on gates legal (settled_entry entry) visit)
