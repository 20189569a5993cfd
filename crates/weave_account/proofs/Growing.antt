-- What is said of an entry, a stamp, a clock or a pair stays true when the logs go on.
-- Used by `facts_stay_true`, PhasePrecedence, Ticking and VisitsStay.
use Rattle.std.proofs.Common.{zero, suc, ◌≡◌, ℕ, List, ◌++◌, Contains, sym, ap, subst, ◌∙◌, AllPairs, ◌≢◌, [], ◌∷◌, Option, None, Some, refl, inl, inr, ◌-◌, ◌==◌, append_assoc, Bool, IsTrue, ◌+◌, ◌<◌, arith}
use Rattle.std.specs.List.{flat_map, find, range_with_len}
use Rattle.std.proofs.lemmas.List.{map-append}
use Rattle.std.proofs.lemmas.List.Concat.{flat_map-append}
use Rattle.std.proofs.lemmas.List.Elements.{Contains-append_left, filter-append}
use Rattle.vector_stamp.specs.declared.clock.Stamp.{Stamp}
use Rattle.vector_stamp.specs.Precedence.{GivenPair, Precedes}
use Rattle.graph_ops.specs.declared.op.Op.{Op}
use Rattle.program_defs.specs.declared.script.Script.{Script}
use Rattle.weave_entries.specs.declared.gate_log.GateEntry.{GateEntry}
use Rattle.weave_entries.specs.declared.gate_log.GateDeed.{GateDeed}
use Rattle.weave_entries.specs.declared.gate_log.GateDeed.TheVariants.{BeganTx, BeganProgram, Sent, Nop, Heard, Raised, Finished}
use Rattle.weave_entries.specs.declared.oracle_log.OracleEntry.{OracleEntry}
use Rattle.weave_entries.specs.declared.shard_log.ShardEntry.{ShardEntry}
use Rattle.weave_entries.specs.declared.shard_log.ShardDeed.{ShardDeed}
use Rattle.weave_entries.specs.declared.shard_log.ShardDeed.TheVariants.{Arrived, Applied, Visited, Collected}
use Rattle.weave_entries.specs.declared.store_log.StoreEntry.{StoreEntry}
use Rattle.weave_entries.specs.declared.verdict.Verdict.{Verdict}
use Rattle.weave_entries.specs.declared.verdict.Verdict.TheVariants.{Committed, Conflict, Refused}
use Rattle.weave_entries.specs.GateReplay.{tx_by, program_by, messages_by, to_shard, BegunRequest, begun_in, begun_stamp, clock_of}
use Rattle.weave_entries.specs.OracleReplay.{settled_entry, pairs_of_entry, pairs_of_log}
use Rattle.weave_entries.specs.StoreReplay.{Commit, Judgement, judged_by, judgements_of, commits_of, commit_by, commits_naming, names_vertex as names}
use Rattle.weave_account.specs.declared.account.Account.{Account}
use Rattle.weave_account.specs.Account.{gate_log, pairs_in, Precedence, all_begun, stamp_of, commits_in, shard_log}
use Rattle.std.specs.Prelude.{IsSomeAnd, slice_get, reverse}
use Rattle.std.specs.Option.{option_map, ForSome, option_and_then}
use Rattle.std.proofs.lemmas.Bool.{eqb-true}
use Rattle.weave_entries.specs.ShardReplay.{visit_by, visits_of}
use Rattle.report_rules.specs.declared.report.Pair.{Pair}
use Rattle.weave_account.specs.Pairs.{IsAddedByCommit, IsAddedByVisit, IsPairInAccount}
use Rattle.weave_account.proofs.Beginning.{all-in, begun-stamp}
use Rattle.weave_data.proofs.Members.{find_has, has_read}
use Rattle.weave_data.proofs.Images.{flat-has}
use Rattle.weave_data.proofs.Numbers.{has-in, in-has}
use Rattle.weave_account.proofs.Replying.{place-of}
use Rattle.vector_stamp.specs.Clocks.{counts_no_more}
use Rattle.program_defs.specs.declared.script.Work.{Work}
use Rattle.report_rules.specs.Lookups.{same_session}
use Rattle.weave_account.specs.Gatekeepers.{request_before, last_stamp, BeginsRequest}
use Rattle.weave_account.proofs.Sessions.{SessionsRise}
use Rattle.weave_account.proofs.ConflictsClause.{reverse-has}
use Rattle.weave_account.specs.GoesOn.{GoesOn}
use Rattle.weave_account.specs.Store.{IsRightVerdict, Judges}
use Rattle.weave_account.specs.Channels.{SendsAs}
use Rattle.weave_account.specs.Shards.{ShardFitsAs}
use Rattle.std.proofs.Common.{◌⊎◌, ◌≤◌}
use Rattle.std.specs.List.{count_by, list_any}
use Rattle.vector_stamp.specs.declared.clock.Clock.{Clock}
use Rattle.vector_stamp.specs.Settling.{SettledEntry}
use Rattle.weave_data.proofs.Members.{any_from, any_has, has_cut, has_flat, has_head}
use Rattle.program_defs.specs.Works.{is_change, is_look}
use Rattle.weave_entries.specs.declared.session_log.SessionDeed.{SessionDeed}
use Rattle.weave_entries.specs.declared.session_log.SessionDeed.TheVariants as session
use Rattle.weave_entries.specs.GateReplay.{begun_by, ended_by, ended_in, stamps_by, stamps_of, ticks_of}
use Rattle.weave_account.specs.Account.{is_ended}
use Rattle.weave_account.specs.Clocks.{IsKnown, is_raised, raises_to}
use Rattle.weave_account.specs.Gatekeepers.{BeginsAs}
use Rattle.weave_account.specs.Oracle.{IsAskedByCommit}
use Rattle.weave_account.specs.Sessions.{RepliesAs}
use Rattle.weave_account.proofs.Beginning.{list-there}
use Rattle.weave_account.proofs.Additions.{more-precedes}
use Rattle.weave_data.proofs.Counting.{count-more}

module _ (script : Script) (account next : Account) (on : GoesOn account next) where
  -- if one stamp precedes another, it still does when the account goes on
  pub precedence-stays : (a b : Stamp) → Precedence account a b → Precedence next a b
  precedence-stays a b h =
      let pairs : pairs_in next ≡ pairs_in account ++ pairs_of_log (on.oracle).0 =
      ap pairs_of_log (on.oracle).1 ∙ flat_map-append (λ (e : OracleEntry). pairs_of_entry (settled_entry e)) account.oracle (on.oracle).0 in
      subst (λ ps. Precedes ps a b) (sym pairs) (more-precedes (pairs_in account) (pairs_of_log (on.oracle).0) a b h)

  gate-has : {B : Type 0} (f : GateEntry → List B) (home : ℕ) (x : B) → Contains (flat_map f (gate_log account home)) x
      → Contains (flat_map f (gate_log next home)) x
  gate-has f home x h =
      let more = on.gates home in
      subst (λ xs. Contains xs x) (sym (ap (flat_map f) more.1 ∙ flat_map-append f (gate_log account home) more.0))
      (Contains-append_left (flat_map f (gate_log account home)) (flat_map f more.0) x h)

  -- what the gatekeepers' logs had, they still have
  all-stays : {B : Type 0} (f : GateEntry → List B) (x : B) → Contains (flat_map (flat_map f) account.gates) x
      → Contains (flat_map (flat_map f) next.gates) x
  all-stays f x h =
      let log = flat-has (flat_map f) account.gates x h in
      let home = place-of account.gates log.0 log.1.0 in
      let later = gate-has f home.0 x (subst (λ l. Contains (flat_map f l) x) (sym home.1) log.1.1) in
      let entry = flat-has f (gate_log next home.0) x later in
      has_flat (flat_map f) next.gates (gate_log next home.0) x (list-there next.gates home.0 entry.0 entry.1.0) later

  -- what was ended stays so
  pub ended-stays : (r : ℕ) → IsTrue (is_ended account r) → IsTrue (is_ended next r)
  ended-stays r done =
      in-has (flat_map ended_in next.gates) r (all-stays (λ (e : GateEntry). ended_by e.deed) r (has-in (flat_map ended_in account.gates) r done))

  -- a session's entry that replies rightly still does when the account goes on
  pub reply-stays : (deed : SessionDeed) → RepliesAs account deed → RepliesAs next deed
  reply-stays (session.Begun r stamp) right = tt
  reply-stays (session.Replied r) right = ended-stays r right

  -- Clocks

  raised-stays : (epoch : ℕ) → IsTrue (is_raised account epoch) → IsTrue (is_raised next epoch)
  raised-stays epoch raised =
      let log = any_has (λ (log : List GateEntry). list_any (λ (e : GateEntry). raises_to epoch e.deed) log) account.gates raised in
      let entry = any_has (λ (e : GateEntry). raises_to epoch e.deed) log.0 log.2 in
      let home = place-of account.gates log.0 log.1 in
      let more = on.gates home.0 in
      let later : Contains (gate_log next home.0) entry.0 =
      subst (λ l. Contains l entry.0) (sym more.1)
      (Contains-append_left (gate_log account home.0) more.0 entry.0 (subst (λ l. Contains l entry.0) (sym home.1) entry.1)) in
      any_from (λ (log : List GateEntry). list_any (λ (e : GateEntry). raises_to epoch e.deed) log) next.gates (gate_log next home.0)
      (list-there next.gates home.0 entry.0 later)
      (any_from (λ (e : GateEntry). raises_to epoch e.deed) (gate_log next home.0) entry.0 later entry.2)

  ticks-grow : (epoch home : ℕ) → ticks_of epoch (gate_log account home) ≤ ticks_of epoch (gate_log next home)
  ticks-grow epoch home =
      let more = on.gates home in
      let stamps : stamps_of (gate_log next home) ≡ stamps_of (gate_log account home) ++ stamps_of more.0 =
      ap stamps_of more.1 ∙ flat_map-append (λ (e : GateEntry). stamps_by e.deed) (gate_log account home) more.0 in
      let count = count-more (λ (s : Stamp). s.clock.epoch == epoch) (stamps_of (gate_log account home)) (stamps_of more.0) in
      let same = ap (count_by (λ (s : Stamp). s.clock.epoch == epoch)) stamps in
      omega (arith, count, same)

  -- a known clock stays known
  pub known-stays : (clock : Clock) → IsKnown account clock → IsKnown next clock
  known-stays clock known = record {
    eight = known.eight;
    counts = λ home. (let was = known.counts home in let grow = ticks-grow clock.epoch home in omega (arith, was, grow));
    raised = λ above. raised-stays clock.epoch (known.raised above);
  }

  -- Judgements

  verdict-stays : (before : List Commit) (stamp : Stamp) (ops : List Op) (verdict : Verdict)
      → IsRightVerdict account before stamp ops verdict → IsRightVerdict next before stamp ops verdict
  verdict-stays before stamp ops (Committed number answers counts) right =
      record { number_is = right.number_is; graph = right.graph; passes = right.passes; counts_are = right.counts_are; after_last = λ v named last e. precedence-stays last.stamp stamp (right.after_last v named last e) }
  verdict-stays before stamp ops (Conflict v newer) right =
      record { named = right.named; last = right.last; last_is = right.last_is; newer_is = right.newer_is; precedes = precedence-stays stamp (right.last).stamp right.precedes }
  verdict-stays before stamp ops (Refused op reason at) right = record { at_is = right.at_is; refused = right.refused }

  -- a right judgement of the store is still right when the account goes on
  pub judges-stay : (before : List StoreEntry) (judged : Judgement) → Judges script account before judged
      → Judges script next before judged
  judges-stay before judged rule =
      record {
        home = rule.home;
        begun = gate-has (λ (e : GateEntry). tx_by e.author e.deed) rule.home _ rule.begun;
        work = rule.work;
        asked = rule.asked;
        verdict = verdict-stays (commits_of before) judged.stamp judged.ops judged.verdict rule.verdict;
      }

  -- a gatekeeper's entry that sends rightly still does when the account goes on
  pub sends-stay : (before : List GateEntry) (author : ℕ) (deed : GateDeed) → SendsAs account script.shards before author deed
      → SendsAs next script.shards before author deed
  sends-stay before author (Sent r messages) sends =
      record {
        judged = sends.judged;
        is_judged = subst (λ js. Contains js sends.judged) (sym (ap judgements_of (on.store).1 ∙ map-append (λ (e : StoreEntry). judged_by e.author e.deed) account.store (on.store).0)) (Contains-append_left (judgements_of account.store) (judgements_of (on.store).0) sends.judged sends.is_judged);
        request_is = sends.request_is;
        messages_are = sends.messages_are;
      }
  sends-stay before author (BeganTx r stamp) sends = tt
  sends-stay before author (BeganProgram r stamp) sends = tt
  sends-stay before author (Nop to number stamp low) sends = tt
  sends-stay before author (Heard clock) sends = tt
  sends-stay before author (Raised epoch) sends = tt
  sends-stay before author (Finished r) sends = tt

  -- a shard's entry that fits the account still does when the account goes on
  pub shard-stays : (shard : ℕ) (before : List ShardEntry) (deed : ShardDeed) → ShardFitsAs script account shard before deed
      → ShardFitsAs script next shard before deed
  shard-stays shard before (Arrived home number message) fits =
      record { sent = gate-has (λ (e : GateEntry). to_shard shard (messages_by e.deed)) home _ fits.sent; new = fits.new }
  shard-stays shard before (Applied home number) fits = fits
  shard-stays shard before (Visited r stamp v updates settled) fits =
      record {
        home = fits.home;
        author = fits.author;
        begun = gate-has (λ (e : GateEntry). program_by e.author e.deed) fits.home _ fits.begun;
        kept_here = fits.kept_here;
        ready = fits.ready;
        applied = fits.applied;
        after_seen = λ some update e. precedence-stays update.stamp stamp (fits.after_seen some update e);
        before_skipped = λ update e. precedence-stays stamp update.stamp (fits.before_skipped update e);
      }
  shard-stays shard before (Collected bound) fits = fits

  -- what was begun stays begun, with its stamp
  pub begun-stays : (b : BegunRequest) → Contains (all_begun account) b → Contains (all_begun next) b
  begun-stays b h =
      let log = flat-has begun_in account.gates b h in
      let home = place-of account.gates log.0 log.1.0 in
      all-in next home.0 b
      (gate-has (λ (e : GateEntry). tx_by e.author e.deed ++ program_by e.author e.deed) home.0 b (subst (λ l. Contains (begun_in l) b) (sym home.1) log.1.1))

  -- an oracle's entry that a commit asked for stays so
  pub asked-stays : (settled : SettledEntry) → IsAskedByCommit account settled → IsAskedByCommit next settled
  asked-stays settled asked = record {
    before = asked.before;
    entry = asked.entry;
    after = asked.after ++ (on.store).0;
    at = (on.store).1 ∙ ap (λ l. l ++ (on.store).0) asked.at ∙ append_assoc asked.before (asked.entry ∷ asked.after) (on.store).0;
    commit = asked.commit;
    commit_is = asked.commit_is;
    later_is = asked.later_is;
    earlier_are = asked.earlier_are;
  }

  module _ (once : AllPairs (λ (a b : BegunRequest). a.request ≢ b.request) (all_begun next)) where
    -- a begun request keeps its stamp
    pub stamp-stays : (r : ℕ) (stamp : Stamp) → stamp_of account r ≡ Some stamp → stamp_of next r ≡ Some stamp
    stamp-stays r stamp e = at (find (λ (b : BegunRequest). b.request == r) (all_begun account)) refl e
      where
        at : (o : Option BegunRequest) → find (λ (b : BegunRequest). b.request == r) (all_begun account) ≡ o
            → option_map (λ (b : BegunRequest). b.stamp) o ≡ Some stamp → stamp_of next r ≡ Some stamp
        at None is e = cc
        at (Some b) is e =
            let found = find_has (λ (b : BegunRequest). b.request == r) (all_begun account) b is in
            let same : b.request ≡ r = eqb-true b.request r found.1 in
            subst (λ k. stamp_of next k ≡ Some b.stamp) same (begun-stamp next once b (begun-stays b found.0)) ∙ e

    -- a pair stays that of its requests
    pub pair-stays : (pair : Pair) (given : GivenPair) → IsPairInAccount account pair given → IsPairInAccount next pair given
    pair-stays pair given is =
        record {
          earlier_is = stamp-stays pair.earlier given.0 is.earlier_is;
          later_is = stamp-stays pair.later given.1 is.later_is;
          added = elim is.added [ inl commit ↦ inl (by-commit commit) | inr visit ↦ inr (by-visit visit) ];
        }
      where
        by-commit : IsAddedByCommit account pair → IsAddedByCommit next pair
        by-commit added =
            record { before = added.before; entry = added.entry; after = added.after ++ (on.store).0; at = (on.store).1 ∙ ap (λ l. l ++ (on.store).0) added.at ∙ append_assoc added.before (added.entry ∷ added.after) (on.store).0; commit = added.commit; commit_is = added.commit_is; later_is = added.later_is; vertex_is = added.vertex_is }

        get-longer : {A : Type 0} (xs ys : List A) (i : ℕ) (P : A → Type 0) → IsSomeAnd (slice_get xs i) P
            → IsSomeAnd (slice_get (xs ++ ys) i) P
        get-longer [] ys i P h = absurd h
        get-longer (x ∷ xs) ys zero P h = h
        get-longer (x ∷ xs) ys (suc i) P h = get-longer xs ys i P h

        by-visit : IsAddedByVisit account pair → IsAddedByVisit next pair
        by-visit added =
            let more = on.shards added.shard in
            let naming : commits_naming pair.vertex (commits_in next) ≡ commits_naming pair.vertex (commits_in account) ++ commits_naming pair.vertex (commits_of (on.store).0) =
            ap (commits_naming pair.vertex)
            (ap commits_of (on.store).1 ∙ flat_map-append (λ (e : StoreEntry). commit_by e.deed) account.store (on.store).0)
            ∙ filter-append (names pair.vertex) (commits_in account) (commits_of (on.store).0) in
            record {
              shard = added.shard;
              visit = added.visit;
              visited = subst (λ l. Contains (visits_of l) added.visit) (sym more.1) (subst (λ vs. Contains vs added.visit) (sym (flat_map-append (λ (e : ShardEntry). visit_by e.author e.deed) (shard_log account added.shard) more.0)) (Contains-append_left (visits_of (shard_log account added.shard)) (visits_of more.0) added.visit added.visited));
              marked = added.marked;
              later_is = added.later_is;
              vertex_is = added.vertex_is;
              sees = added.sees;
              last_is = subst (λ cs. IsSomeAnd (slice_get cs ((added.visit).updates - 1)) (λ (commit : Commit). commit.request ≡ pair.earlier)) (sym naming) (get-longer (commits_naming pair.vertex (commits_in account)) (commits_naming pair.vertex (commits_of (on.store).0)) ((added.visit).updates - 1) _ added.last_is);
            }

    -- the stamp that a request's session had last doesn't change once the request is begun
    last-stays : SessionsRise script account → (r : ℕ) (stamp : Stamp) → stamp_of account r ≡ Some stamp
        → last_stamp script next r ≡ last_stamp script account r
    last-stays rise r stamp begun = at (request_before script r) refl
      where
        at : (o : Option ℕ) → request_before script r ≡ o
            → option_and_then (stamp_of next) o ≡ option_and_then (stamp_of account) o
        at None e = refl
        at (Some q) e =
            let found = find_has (λ other. same_session script other r) (reverse (range_with_len 0 r)) q e in
            let near = in-range 0 r q (reverse-has (range_with_len 0 r) q found.0) in let below : q < r = omega (arith, near) in
            let x = rise q r stamp below found.1 begun in
            stamp-stays q x.0 x.1 ∙ sym x.1
          where
            in-range : (a n y : ℕ) → Contains (range_with_len a n) y → y < a + n
            in-range a zero y h = absurd (omega (arith, h.1))
            in-range a (suc n) y h =
                elim (has_read a (range_with_len (a + 1) n) y h) [ inl same ↦ omega (arith, same) | inr more ↦ (let lt = in-range (a + 1) n y more in omega (arith, lt)) ]

    own-stays : SessionsRise script account → (is_kind : Work → Bool) (home : ℕ) (before : List GateEntry) (r : ℕ) (stamp : Stamp)
        → stamp_of account r ≡ Some stamp → BeginsRequest script account is_kind home before r stamp
        → BeginsRequest script next is_kind home before r stamp
    own-stays rise is_kind home before r stamp begun own =
        let last = last-stays rise r stamp begun in
        record {
          own = own.own;
          stamp_is = subst (λ l. stamp ≡ begun_stamp home (clock_of home before) l) (sym last) own.stamp_is;
          hears_no_more = subst (λ l. ForSome l (λ (s : Stamp). IsTrue (counts_no_more home (clock_of home before) s.clock))) (sym last) own.hears_no_more;
          small = own.small;
        }

    -- if sessions' requests rise, an entry that begins rightly, with the request's stamp, still does when logs go on
    pub begins-stay : SessionsRise script account → (home : ℕ) (before : List GateEntry) (deed : GateDeed)
        → ((r : ℕ) (stamp : Stamp) → (deed ≡ BeganTx r stamp) ⊎ (deed ≡ BeganProgram r stamp) → stamp_of account r ≡ Some stamp)
        → BeginsAs script account home before deed → BeginsAs script next home before deed
    begins-stay rise home before (BeganTx r stamp) begun begins =
        own-stays rise is_change home before r stamp (begun r stamp (inl refl)) begins
    begins-stay rise home before (BeganProgram r stamp) begun begins =
        own-stays rise is_look home before r stamp (begun r stamp (inr refl)) begins
    begins-stay rise home before (Sent r messages) begun begins = tt
    begins-stay rise home before (Nop to number stamp low) begun begins = tt
    begins-stay rise home before (Heard clock) begun begins = tt
    begins-stay rise home before (Raised epoch) begun begins = tt
    begins-stay rise home before (Finished r) begun begins = tt

-- a request that an entry begins has that entry's stamp, if each request is begun at most once
pub entry-begun : (account : Account) → AllPairs (λ (a b : BegunRequest). a.request ≢ b.request) (all_begun account)
    → (home : ℕ) (before : List GateEntry) (entry : GateEntry) (after : List GateEntry)
    → gate_log account home ≡ before ++ entry ∷ after
    → (r : ℕ) (stamp : Stamp) → (entry.deed ≡ BeganTx r stamp) ⊎ (entry.deed ≡ BeganProgram r stamp)
    → stamp_of account r ≡ Some stamp
entry-begun account once home before entry after is r stamp which =
    begun-stamp account once (record { author = entry.author; request = r; stamp = stamp }) (all-in account home _ (subst (λ l. Contains (begun_in l) (record { author = entry.author; request = r; stamp = stamp })) (sym is)
    (has_flat (λ (e : GateEntry). begun_by e.author e.deed) (before ++ entry ∷ after) entry _ (has_cut before entry after) (of which))))
  where
    of : (entry.deed ≡ BeganTx r stamp) ⊎ (entry.deed ≡ BeganProgram r stamp)
        → Contains (begun_by entry.author entry.deed) (record { author = entry.author; request = r; stamp = stamp })
    of (inl tx) =
        subst (λ d. Contains (begun_by entry.author d) (record { author = entry.author; request = r; stamp = stamp })) (sym tx) (has_head _ [])
    of (inr program) =
        subst (λ d. Contains (begun_by entry.author d) (record { author = entry.author; request = r; stamp = stamp })) (sym program) (has_head _ [])
