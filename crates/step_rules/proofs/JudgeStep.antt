-- `judge` keeps a core.
-- Used by Stepping.
use Rattle.std.proofs.Common.{◌≡◌, ◌≢◌, ℕ, ◌+◌, ◌<◌, ◌==◌, cond, List, [], ◌∷◌, ◌++◌, length, Contains, AllPairs, IsTrue, Option, None, Some, Ok, Err, inl, inr, refl, sym, subst, ◌∙◌}
use Rattle.std.specs.Prelude.{IsSomeAnd, is_some}
use Rattle.std.specs.List.{find}
use Rattle.std.proofs.lemmas.Bool.{eq-eqb}
use Rattle.std.proofs.lemmas.List.{append-nil, map-append}
use Rattle.std.proofs.lemmas.List.Elements.{All-from_recursion, Contains-append_cases}
use Rattle.weave_data.proofs.Entries.{each_push}
use Rattle.weave_data.proofs.Members.{find_has, find_lacks, flat_has, has_map, has_none, map_has}
use Rattle.weave_data.proofs.Ordered.{pairs_push}
use Rattle.weave_data.proofs.ListPlaces.{all-from}
use Rattle.graph_ops.specs.Mentions.{named_by}
use Rattle.graph_ops.specs.PlainGraph.{PlainGraph, TxOutcome, transaction}
use Rattle.graph_ops.specs.declared.op.Op.{Op}
use Rattle.graph_ops.specs.declared.op.Reason.{Reason}
use Rattle.graph_ops.specs.declared.tx.Got.{Got}
use Rattle.vector_stamp.specs.declared.clock.Stamp.{Stamp}
use Rattle.vector_stamp.specs.Order.{id_of, stamp_before}
use Rattle.vector_stamp.specs.Precedence.{GivenPair, Precedes, ByStamps, precedes}
use Rattle.program_defs.specs.declared.script.Request.{Request}
use Rattle.program_defs.specs.declared.script.Script.{Script}
use Rattle.program_defs.specs.declared.script.Step.TheVariants.{Judge}
use Rattle.program_defs.specs.declared.script.Work.{Work}
use Rattle.program_defs.specs.declared.script.Work.TheVariants.{Change, Look}
use Rattle.program_defs.specs.Works.{is_change, ops_of}
use Rattle.report_rules.specs.Lookups.{request_at}
use Rattle.report_rules.specs.declared.report.StepAnswer.TheVariants as answer
use Rattle.weave_entries.specs.declared.oracle_log.OracleEntry.{OracleEntry}
use Rattle.weave_entries.specs.declared.store_log.StoreEntry.{StoreEntry}
use Rattle.weave_entries.specs.declared.store_log.StoreDeed.TheVariants.{Judged}
use Rattle.weave_entries.specs.declared.verdict.Verdict.{Verdict}
use Rattle.weave_entries.specs.declared.verdict.Verdict.TheVariants.{Committed, Conflict, Refused}
use Rattle.weave_entries.specs.GateReplay.{BegunRequest, flight_of, txs_of}
use Rattle.weave_entries.specs.OracleReplay.{pairs_of_log, settled_entry}
use Rattle.weave_entries.specs.OracleRules.{IsOracleLog}
use Rattle.weave_entries.specs.StoreReplay.{Commit, Judgement, commit_by, graph_committed, judged_by, judgement_of, judgements_of}
use Rattle.weave_entries.specs.StoreRule.{LastCommit, asked_of, asked_stamps, asked_vertices, conflict_or, counts_of, entries_of_settling, lasts_of, settled_if, verdict_by, verdict_on}
use Rattle.weave_entries.proofs.LastCommits.{last-at, last-is, last-there}
use Rattle.weave_account.specs.declared.account.Account.{Account}
use Rattle.weave_account.specs.Account.{gate_log, shard_log, session_log, all_begun, commits_in, pairs_in}
use Rattle.weave_account.specs.GoesOn.{GoesOn}
use Rattle.weave_account.specs.IsAccount.{IsAccount}
use Rattle.weave_account.specs.Oracle.{IsAskedByCommit}
use Rattle.weave_account.specs.Store.{InTurn, IsRightVerdict}
use Rattle.step_rules.specs.CoreState.{CoreState}
use Rattle.step_rules.specs.Answers.{answer_of, answer_of_judge}
use Rattle.step_rules.specs.Entries.{after_judge, state_with, with_judgement}
use Rattle.step_rules.specs.IsCore.{IsCore}
use Rattle.step_rules.specs.Requests.{ops_in}
use Rattle.step_rules.proofs.Basis.{Basis}
use Rattle.step_rules.proofs.Clashes.{not-ok}
use Rattle.step_rules.proofs.Begun.{flight-begun}
use Rattle.step_rules.proofs.Frames.{StoreRule, each-other, sends-stay, deeds-stay, replies-stay}
use Rattle.step_rules.proofs.Commits.{commit-stamp, in-reverse}
use Rattle.step_rules.proofs.Verdicts.{IsSettled, all-precede, asked-is, none-refused, settles}

-- work that passes the test of transactions is a transaction
change-of : (work : Work) → IsTrue (is_change work) → work ≡ Change (ops_of work)
change-of (Change ops) change = refl
change-of (Look program) change = cc

module _ (script : Script) (state : CoreState) (basis : Basis script state) (g : ℕ) (inside : g < script.gates)
    (flight : BegunRequest) (flies : flight_of (gate_log state.account g) ≡ Some flight) (unjudged : judgement_of flight.request state.account.store ≡ None) where
  abbrev account : Account
  account = state.account

  abbrev is : IsAccount script account
  is = basis.core.account

  abbrev stamp : Stamp
  stamp = flight.stamp

  abbrev ops : List Op
  ops = ops_in (request_at script flight.request)

  abbrev commits : List Commit
  commits = commits_in account

  abbrev pairs : List GivenPair
  pairs = pairs_in account

  abbrev lasts : List LastCommit
  lasts = lasts_of ops commits

  abbrev asked : List LastCommit
  asked = asked_of stamp lasts

  abbrev events : List Stamp
  events = asked_stamps stamp lasts

  abbrev the-verdict : Verdict
  the-verdict = verdict_on pairs commits stamp ops

  abbrev entry-of : Verdict → StoreEntry
  entry-of verdict = record { author = flight.author; deed = Judged flight.request stamp ops (asked_vertices stamp lasts) verdict }

  abbrev entries-of : Verdict → List OracleEntry
  entries-of verdict = settled_if verdict (entries_of_settling flight.author pairs events stamp)

  -- the account after it was judged so
  abbrev next-of : Verdict → Account
  next-of verdict = record account { store = account.store ++ entry-of verdict ∷ []; oracle = account.oracle ++ entries-of verdict }

  on : (verdict : Verdict) → GoesOn account (next-of verdict)
  on verdict = record {
    gates = λ home. ([], sym (append-nil (gate_log account home)));
    store = (entry-of verdict ∷ [], refl);
    oracle = (entries-of verdict, refl);
    shards = λ shard. ([], sym (append-nil (shard_log account shard)));
    sessions = λ session. ([], sym (append-nil (session_log account session)));
  }

  flight-tx : Contains (txs_of (gate_log account g)) flight
  flight-tx = ((basis.laws.logs.open_flight g script.shards (gate_log account g) (is.gatekeepers.logs g) (basis.further.accounts.each_once script account basis.limits is g) flight).0 flies).0

  begun : Contains (all_begun account) flight
  begun = flight-begun basis.laws basis.further script account basis.limits is g inside flight flies

  judged-not : (judged : Judgement) → Contains (judgements_of account.store) judged → judged.request ≢ flight.request
  judged-not judged h same = find_lacks (λ (one : Judgement). one.request == flight.request) (judgements_of account.store) judged unjudged h (eq-eqb judged.request flight.request same)

  -- its operations are those of its request
  work : IsSomeAnd (request_at script flight.request) (λ (request : Request). request.work ≡ Change ops)
  work = at (request_at script flight.request) (basis.further.accounts.flights script account basis.limits is g flight flies)
    where
      at : (q : Option Request) → IsSomeAnd q (λ (request : Request). (request.gate ≡ g) × IsTrue (is_change request.work)) → IsSomeAnd q (λ (request : Request). request.work ≡ Change (ops_in q))
      at None h = h
      at (Some request) h = change-of request.work h.1

  -- The judged events

  -- each event of which the oracle is asked is that of a judged transaction
  event-judged : (event : Stamp) → Contains events event → (judged : Judgement) × Contains (judgements_of account.store) judged × (judged.stamp ≡ event)
  event-judged event h =
      let from = map_has (λ (last : LastCommit). last.commit.stamp) asked event h in
      let last = asked-is ops commits basis.laws stamp from.0 from.1 in
      commit-judged from.0.commit event from.2 (last-commit from.0 last.0)
    where
      last-commit : (last : LastCommit) → Contains lasts last → Contains commits last.commit
      last-commit last h = in-reverse commits last.commit (find_has _ _ _ (last-is ops commits last h).0).0

      commit-judged : (commit : Commit) (event : Stamp) → commit.stamp ≡ event → Contains commits commit → (judged : Judgement) × Contains (judgements_of account.store) judged × (judged.stamp ≡ event)
      commit-judged commit event same has =
          let from = flat_has (λ (e : StoreEntry). commit_by e.deed) account.store commit has in
          (judged_by from.0.author from.0.deed, has_map (λ (e : StoreEntry). judged_by e.author e.deed) account.store from.0 from.1, commit-stamp from.0.author from.0.deed commit from.2 ∙ same)

  other-id : (event : Stamp) → Contains events event → id_of event ≢ id_of stamp
  other-id event h =
      let judged = event-judged event h in
      subst (λ (s : Stamp). id_of s ≢ id_of stamp) judged.2
      (basis.further.accounts.differ script account basis.limits is (record { author = judged.0.author; request = judged.0.request; stamp = judged.0.stamp }) flight
      (basis.further.accounts.judged_begun script account basis.limits is judged.0 judged.1) begun (judged-not judged.0 judged.1))

  -- The verdict is right, and what the oracle added too

  record IsJudgedRightly (verdict : Verdict) : Type 0 where
    right : IsRightVerdict (next-of verdict) commits stamp ops verdict
    log : IsOracleLog (account.oracle ++ entries-of verdict)
    asked-here : (entry : OracleEntry) → Contains (entries-of verdict) entry → IsAskedByCommit (next-of verdict) (settled_entry entry)

  quiet-log : IsOracleLog (account.oracle ++ [])
  quiet-log = subst IsOracleLog (sym (append-nil account.oracle)) is.oracle.log

  -- a conflict adds nothing
  conflicts : (last : LastCommit) → Contains lasts last → Precedes pairs stamp last.commit.stamp → IsJudgedRightly (Conflict last.vertex last.commit.request)
  conflicts last h before = record {
    right = record {
      named = (basis.laws.among_tested (named_by ops) last.vertex).1 (last-is ops commits last h).1;
      last = last.commit;
      last_is = (last-is ops commits last h).0;
      newer_is = refl;
      precedes = subst (λ log. Precedes (pairs_of_log log) stamp last.commit.stamp) (sym (append-nil account.oracle)) before;
    };
    log = quiet-log;
    asked-here = λ entry none. absurd (has_none entry none);
  }

  -- nor does a refusal
  refuses : (op : ℕ) (reason : Reason) → transaction ops (graph_committed commits) ≡ Err (record { op = op; reason = reason }) → IsJudgedRightly (Refused op reason (length commits))
  refuses op reason e = record { right = record { at_is = refl; refused = e }; log = quiet-log; asked-here = λ entry none. absurd (has_none entry none) }

  module _ (no-later : find (λ (last : LastCommit). stamp_before stamp last.commit.stamp) lasts ≡ None) (no-path : find (λ (last : LastCommit). precedes pairs stamp last.commit.stamp) asked ≡ None)
      (graph : PlainGraph) (gots : List Got) (passes : transaction ops (graph_committed commits) ≡ Ok (record { graph = graph; gots = gots })) where
    open-way : (event : Stamp) → Contains events event → ¬ IsTrue (precedes pairs stamp event)
    open-way event h back =
        let from = map_has (λ (last : LastCommit). last.commit.stamp) asked event h in
        find_lacks (λ (last : LastCommit). precedes pairs stamp last.commit.stamp) asked from.0 no-path from.1 (subst (λ s. IsTrue (precedes pairs stamp s)) (sym from.2) back)

    settled : IsSettled flight.author account.oracle events stamp (entries_of_settling flight.author pairs events stamp)
    settled = settles basis.laws flight.author account.oracle events stamp is.oracle.log
        (All-from_recursion (λ event. id_of event ≢ id_of stamp) events (all-from (λ event. id_of event ≢ id_of stamp) events other-id)) (none-refused pairs events stamp open-way)

    -- a commit is right: each last one at its vertices precedes it by now, and what the oracle was asked for is this
    commits-so : IsJudgedRightly (Committed (length commits + 1) gots (counts_of ops commits))
    commits-so = record {
      right = record {
        number_is = refl;
        graph = graph;
        passes = passes;
        counts_are = refl;
        after_last = λ v named last e. subst (λ ps. Precedes ps last.stamp stamp) (sym settled.pairs)
            (all-precede ops commits basis.laws stamp pairs no-later (last-at v last) (last-there ops commits v last ((basis.laws.among_tested (named_by ops) v).0 named) e));
      };
      log = settled.right;
      asked-here = λ entry h. (let of = settled.of_call entry h in record {
        before = account.store;
        entry = entry-of (Committed (length commits + 1) gots (counts_of ops commits));
        after = [];
        at = refl;
        commit = record { request = flight.request; stamp = stamp; ops = ops };
        commit_is = refl;
        later_is = of.0;
        earlier_are = of.1;
      });
    }

  -- by the rule
  by-rule : (first : Option LastCommit) → find (λ (last : LastCommit). stamp_before stamp last.commit.stamp) lasts ≡ first
      → (second : Option LastCommit) → find (λ (last : LastCommit). precedes pairs stamp last.commit.stamp) asked ≡ second
      → (third : TxOutcome) → transaction ops (graph_committed commits) ≡ third
      → IsJudgedRightly (conflict_or first (conflict_or second (verdict_by ops commits third)))
  by-rule (Some last) e second f third t = let has = find_has (λ (last : LastCommit). stamp_before stamp last.commit.stamp) lasts last e in conflicts last has.0 (ByStamps stamp last.commit.stamp has.1)
  by-rule None e (Some last) f third t =
      let has = find_has (λ (last : LastCommit). precedes pairs stamp last.commit.stamp) asked last f in
      conflicts last (asked-is ops commits basis.laws stamp last has.0).0 ((basis.laws.stamps.precedence_tested pairs stamp last.commit.stamp).1 has.1)
  by-rule None e None f (Ok passed) t = commits-so e f passed.graph passed.gots t
  by-rule None e None f (Err stopped) t = refuses stopped.op stopped.reason t

  rightly : IsJudgedRightly the-verdict
  rightly = by-rule _ refl _ refl _ refl

  -- The account goes on

  judges-on : IsAccount script (next-of the-verdict)
  judges-on =
      let next = next-of the-verdict in
      let goes = on the-verdict in
      let judged : Judgement = judged_by flight.author (Judged flight.request stamp ops (asked_vertices stamp lasts) the-verdict) in
      let judgements : judgements_of (account.store ++ entry-of the-verdict ∷ []) ≡ judgements_of account.store ++ judged ∷ [] = map-append (λ (e : StoreEntry). judged_by e.author e.deed) account.store (entry-of the-verdict ∷ []) in
      record {
        gatekeepers = record { as_many = is.gatekeepers.as_many; logs = is.gatekeepers.logs; begins = λ home before entry rest at. basis.laws.accounts.stay_begins script account next basis.limits is goes is.gatekeepers.once home before rest entry at; once = is.gatekeepers.once };
        clocks = record { known = λ home clock h. basis.laws.accounts.stay_clocks script account next goes clock (is.clocks.known home clock h); hears_no_more = is.clocks.hears_no_more };
        sessions = record { logs = is.sessions.logs; stamps = is.sessions.stamps; replies = replies-stay basis.laws script account next basis.limits is goes; finished_are_replied = is.sessions.finished_are_replied };
        store = record {
          judges = each_push (StoreRule script next) account.store (entry-of the-verdict)
              (each-other (StoreRule script account) (StoreRule script next) (λ before entry. basis.laws.accounts.stay_judgements script account next goes before (judged_by entry.author entry.deed)) account.store is.store.judges)
              (record { home = g; begun = flight-tx; work = work; asked = refl; verdict = rightly.right });
          once = subst (AllPairs (λ (a b : Judgement). a.request ≢ b.request)) (sym judgements) (pairs_push (λ (a b : Judgement). a.request ≢ b.request) (judgements_of account.store) judged is.store.once judged-not);
          in_turn = subst (AllPairs (λ (a b : Judgement). InTurn script a.request b.request)) (sym judgements) (pairs_push (λ (a b : Judgement). InTurn script a.request b.request) (judgements_of account.store) judged is.store.in_turn
              (λ one h. basis.further.accounts.judged_before script account basis.limits is g flight flies one h (judged-not one h)));
        };
        oracle = record {
          log = rightly.log;
          asked = λ entry h. elim (Contains-append_cases account.oracle (entries-of the-verdict) entry h) [
            | inl old ↦ basis.laws.accounts.stay_asked script account next basis.limits is goes (settled_entry entry) (is.oracle.asked entry old)
            | inr new ↦ inl (rightly.asked-here entry new)
          ];
          marked = λ shard visit h marked. basis.laws.accounts.stay_marked script account next basis.limits is goes shard visit h (is.oracle.marked shard visit h marked);
          once = is.oracle.once;
        };
        channels = sends-stay basis.laws script account next basis.limits is goes;
        shards = record { as_many = is.shards.as_many; deeds = deeds-stay basis.laws script account next basis.limits is goes };
        programs = λ r request program at look. (let read = is.programs r request program at look in record { once = read.once; first_ones = read.first_ones; whole = read.whole });
      }

  -- the judgement, by the rule of the store, of a transaction in flight that has no verdict keeps a core
  pub judged-keeps : IsCore script (record { account = with_judgement account flight ops; notices = state.notices })
  judged-keeps = record {
    account = judges-on;
    sessions = basis.core.sessions;
    notices = λ clock h. basis.laws.accounts.stay_clocks script account (next-of the-verdict) (on the-verdict) clock (basis.core.notices clock h);
  }

module _ (script : Script) (state : CoreState) (basis : Basis script state) where
  -- a `judge` that is done keeps a core
  pub judge-keeps : (g : ℕ) → g < script.gates → answer_of script state (Judge g) ≡ answer.Ok → IsCore script (state_with script state (Judge g))
  judge-keeps g inside ok = at (flight_of (gate_log state.account g)) refl ok
    where
      at : (o : Option BegunRequest) → flight_of (gate_log state.account g) ≡ o → answer_of_judge state.account o ≡ answer.Ok → IsCore script (record { account = after_judge script state.account o; notices = state.notices })
      at None e ok = not-ok answer.Idle refl ok
      at (Some flight) e ok = by-judgement (judgement_of flight.request state.account.store) refl ok
        where
          by-judgement : (j : Option Judgement) → judgement_of flight.request state.account.store ≡ j → cond (is_some j) answer.Idle answer.Ok ≡ answer.Ok → IsCore script (record { account = after_judge script state.account (Some flight); notices = state.notices })
          by-judgement None not-judged ok = judged-keeps script state basis g inside flight e not-judged
          by-judgement (Some j) is ok = not-ok answer.Idle refl ok
