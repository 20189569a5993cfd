-- The report that machines put together from the noted stamps is the account's, but for its order.
-- Used by `unordered`.
use Rattle.std.proofs.Common.{◌≡◌, ℕ, ◌<◌, AllPairs, List, [], ◌∷◌, length, map, replicate, take, drop, inl, inr, Contains, IsTrue, Option, None, Some, sym, ap, subst, ◌∙◌, arith}
use Rattle.std.specs.Prelude.{◌↔◌, slice_index_or}
use Rattle.std.proofs.lemmas.List.{length-replicate, get_or_past, take-append-drop}
use Rattle.std.proofs.lemmas.Option.{get_or_from_slice_get, slice_get_within}
use Rattle.weave_data.proofs.Members.{has_map}
use Rattle.weave_data.specs.declared.name.Name.{Name}
use Rattle.vector_stamp.specs.declared.clock.Clock.{Clock}
use Rattle.vector_stamp.specs.declared.clock.Stamp.{Stamp}
use Rattle.vector_stamp.specs.Order.{same_stamp}
use Rattle.vector_stamp.specs.Settling.{SettledEntry}
use Rattle.program_defs.specs.Limits.{IsWithinLimits}
use Rattle.program_defs.specs.declared.script.Script.{Script}
use Rattle.report_rules.specs.declared.report.Pair.{Pair}
use Rattle.report_rules.specs.declared.report.Report.{Report}
use Rattle.weave_entries.specs.declared.oracle_log.OracleEntry.{OracleEntry}
use Rattle.weaver_core.specs.ShardTable.{ShardTable}
use Rattle.weave_entries.specs.declared.store_log.StoreEntry.{StoreEntry}
use Rattle.weave_entries.specs.GateReplay.{BegunRequest}
use Rattle.weave_entries.specs.OracleReplay.{settled_entry}
use Rattle.weave_account.specs.declared.account.Account.{Account}
use Rattle.weave_account.specs.Account.{IsBegunStamp, all_begun, begun_stamps, pairs_in, stamp_of, session_log}
use Rattle.weave_account.specs.IsAccount.{IsAccount}
use Rattle.weave_account.specs.Oracle.{IsAskedByCommit}
use Rattle.weave_account.specs.Pairs.{ArePairsOf}
use Rattle.weave_account.specs.PairsByPlace.{placed_by, placed_pairs}
use Rattle.weave_account.specs.Report.{MatchesAccount}
use Rattle.weave_account.specs.Sessions.{requests_of_session}
use Rattle.weave_entries.specs.SessionReplay.{replied_count, session_of}
use Rattle.report_rules.specs.declared.report.Reply.{Reply}
use Rattle.std.proofs.lemmas.Bool.{cases_lt}
use Rattle.weave_data.proofs.Ordered.{pairs_cons, pairs_front, pairs_head, pairs_none, pairs_tail}
use Rattle.weaver_core.specs.Sessions.{ClientTable, HaveRisingReplies, SessionValues, no_values, values_at}
use Rattle.weaver_core.specs.Cores.{AreOf, machines_of}
use Rattle.weaver_core.specs.GateTable.{GateTable}
use Rattle.weaver_core.specs.Noting.{all_noted}
use Rattle.weaver_core.specs.Marks.{all_visits, mark_of, was_asked}
use Rattle.weaver_core.specs.Reporting.{AreOfHomes, AreRequestsReplies, AreStampsOf, all_pairs_found, pairs_found, request_with}
use Rattle.weaver_core.specs.Splitting.{AreAllByLog}
use Rattle.weaver_core.specs.Staying.{StayLaws}
use Rattle.weaver_core.proofs.CitedLaws.{BegunLaws, CommitLaws}
use Rattle.weaver_core.proofs.Found.{begun-with, found-at, judged-with, request-found}
use Rattle.weaver_core.proofs.Marked.{all-are, unvisited-by}
use Rattle.weaver_core.proofs.MarksFound.{marks-found}
use Rattle.weaver_core.proofs.Noting.{count-noted, stamps-noted}
use Rattle.weaver_core.proofs.Placed.{entry-placed}
use Rattle.weaver_core.proofs.Reported.{parts-match}
use Rattle.weaver_core.proofs.Resting.{some-one}
use Rattle.weaver_core.proofs.Stamped.{stamp-is}
use Rattle.weaver_core.proofs.Turns.{SessionLaws, place-of}

-- the first ones of numbers that rise rise
part-rises : (n : ℕ) (xs : List ℕ) → AllPairs (λ (a b : ℕ). a < b) xs → AllPairs (λ (a b : ℕ). a < b) (take n xs)
part-rises n xs rise = pairs_front (λ (a b : ℕ). a < b) (take n xs) (drop n xs) (subst (AllPairs (λ (a b : ℕ). a < b)) (sym (take-append-drop n xs)) rise)

-- and so do the replies whose requests rise
image-rises : (replies : List Reply) → AllPairs (λ (a b : ℕ). a < b) (map (λ (one : Reply). one.request) replies) → AllPairs (λ (a b : Reply). a.request < b.request) replies
image-rises [] rise = pairs_none (λ (a b : Reply). a.request < b.request)
image-rises (reply ∷ replies) rise =
    pairs_cons (λ (a b : Reply). a.request < b.request) reply replies
    (λ other has. pairs_head (λ (a b : ℕ). a < b) reply.request (map (λ (one : Reply). one.request) replies) other.request rise (has_map (λ (one : Reply). one.request) replies other has))
    (image-rises replies (pairs_tail (λ (a b : ℕ). a < b) reply.request (map (λ (one : Reply). one.request) replies) rise))

-- the laws that are cited of a report
pub record ReportLaws : Type 0 where
  pub stamps : BegunLaws
  pub commits : CommitLaws
  -- within limits, the stamps in an entry of the oracle are those of begun requests (`stamps_are_begun`)
  pub settled : (script : Script) (account : Account) → IsWithinLimits script → IsAccount script account → (entry : OracleEntry) → Contains account.oracle entry
      → (stamp : Stamp) → Contains ((settled_entry entry).later ∷ (settled_entry entry).earlier) stamp → IsBegunStamp account stamp
  -- the test on equality of stamps passes exactly if they are equal (`equality_is_decided`)
  pub same_stamps : (a b : Stamp) → IsTrue (same_stamp a b) ↔ (a ≡ b)
  -- within limits, the pairs computed from the logs are the account's pairs (`placed_pairs_are_the_pairs`)
  pub placed : (script : Script) (account : Account) → IsWithinLimits script → IsAccount script account → ArePairsOf account (placed_pairs account) (pairs_in account)

module _ (laws : ReportLaws) (sessions : SessionLaws) (script : Script) (gates : GateTable) (store : List StoreEntry) (oracle : List OracleEntry) (shards : ShardTable) (was : ClientTable) (notices : List Clock)
    (are : AreOf script (machines_of gates store oracle shards was notices)) (n : ℕ) (n-is : n ≡ length script.requests) (stamps : List (Option Stamp)) (noted : stamps ≡ all_noted (replicate n None) was.logs) where
  abbrev account : Account
  account = (machines_of gates store oracle shards was notices).state.account

  -- there are as many stamps as requests
  pub many : length stamps ≡ length script.requests
  many = ap length noted ∙ count-noted was.logs (replicate n None) ∙ length-replicate {A = Option Stamp} n None ∙ n-is

  -- each is that of its request in the account
  pub stamps-are : AreStampsOf account stamps
  stamps-are r below =
      let all = many in
      let one = some-one script r (omega (arith, below, all)) in
      let few = are.limits.sessions r one.0 one.1 in
      let sixty-four = are.core.sessions in
      ap (λ (xs : List (Option Stamp)). slice_index_or xs r None) noted ∙ stamps-noted was.logs n r (omega (arith, below, all, n-is))
      ∙ stamp-is sessions script account are.core.account r one.0 one.1 (omega (arith, few, sixty-four))

  -- each stamp that was noted has its home below 8, as `pairs_of` asks
  pub homes : (stamp : Stamp) → Contains stamps (Some stamp) → stamp.home < 8
  homes stamp has =
      let place = place-of stamps (Some stamp) has in
      let known = stamps-are place.0 (slice_get_within stamps place.0 (Some stamp) place.1) in
      let from = begun-with script account are.core.account place.0 stamp (sym known ∙ get_or_from_slice_get stamps place.0 (Some stamp) None place.1) in
      (laws.stamps.coherent script account are.limits are.core.account).homes stamp (subst (λ (s : Stamp). Contains (begun_stamps account) s) from.1.1.1 (has_map (λ (begun : BegunRequest). begun.stamp) (all_begun account) from.0 from.1.0))

  -- and the stamps of the oracle's entries are of homes below 8, too
  pub settled-homes : (entry : OracleEntry) → Contains oracle entry → AreOfHomes (settled_entry entry)
  settled-homes entry has event h = (laws.stamps.coherent script account are.limits are.core.account).homes event (laws.settled script account are.limits are.core.account entry has event h)

  module _ (stay : StayLaws) (kept : AreAllByLog script account was.values) where
    found : (q : ℕ) (event : Stamp) → stamp_of account q ≡ Some event → request_with stamps event ≡ Some q
    found q event at =
        let is = are.core.account in
        let b = begun-with script account is q event at in
        let one = found-at script account is laws.same_stamps (laws.stamps.differ script account are.limits is) stamps stamps-are many b.0 b.1.0 in
        ap (request_with stamps) (sym b.1.1.1) ∙ one ∙ ap Some b.1.1.0

    -- the pairs of an entry that a commit asked for
    placed-one : (settled : SettledEntry) → IsAskedByCommit account settled → ((event : Stamp) → Contains (settled.later ∷ settled.earlier) event → IsBegunStamp account event) → pairs_found (request_with stamps) account.store None settled ≡ placed_by account settled
    placed-one settled asked begun =
        let is = are.core.account in
        let differ = laws.stamps.differ script account are.limits is in
        entry-placed account (request_with stamps)
        (request-found script account is laws.same_stamps differ stamps stamps-are many)
        (judged-with script account is laws.same_stamps differ (laws.stamps.begun script account are.limits is))
        settled (unvisited-by script account are.limits is laws.same_stamps differ (laws.commits.work script account are.limits is) (laws.stamps.begun script account are.limits is) settled asked) begun

    -- the mark that is found of an entry
    abbrev mark : SettledEntry → Option Name
    mark = mark_of (request_with stamps) (was_asked (all_visits shards.logs)) store

    -- the pairs that are found are the account's
    pairs-are : ArePairsOf account (all_pairs_found (request_with stamps) store mark oracle) (pairs_in account)
    pairs-are =
        let is = are.core.account in
        let begun = found-at script account is laws.same_stamps (laws.stamps.differ script account are.limits is) stamps stamps-are many in
        all-are account (request_with stamps) found placed-one mark oracle (laws.settled script account are.limits is)
        (marks-found script account is (laws.commits.work script account are.limits is) (laws.stamps.begun script account are.limits is) (laws.commits.whole script account are.limits is) (request_with stamps) begun)
        (laws.placed script account are.limits is)

    -- and the report of these parts is the account's but for its order
    pub unordered-matches : (report : Report) → AreRequestsReplies store was.values stamps script.requests (length script.requests) report.replies → report.pairs ≡ all_pairs_found (request_with stamps) store mark oracle → MatchesAccount script account report
    unordered-matches report replies pairs =
        parts-match stay script account are.limits are.core.account was.values kept stamps stamps-are many (some-one script) report replies (subst (λ (ps : List Pair). ArePairsOf account ps (pairs_in account)) (sym pairs) pairs-are)

  -- the replies of a session rise
  pub replies-rise : (stay : StayLaws) → AreAllByLog script account was.values → HaveRisingReplies was.values
  replies-rise stay all s = elim (cases_lt s 64) [
    | inl below ↦
        let mine = (all.each s below).replies in
        let right = are.core.account.sessions.logs s in
        let rise = part-rises (replied_count (session_of (requests_of_session script s) (session_log account s))) (requests_of_session script s) (stay.rise script s) in
        image-rises (values_at was.values s).replies (subst (λ (rs : List ℕ). AllPairs (λ (a b : ℕ). a < b) rs) (sym (mine.requests ∙ stay.replied_first s (requests_of_session script s) (session_log account s) right)) rise)
    | inr past ↦
        subst (λ (v : SessionValues). AllPairs (λ (a b : Reply). a.request < b.request) v.replies) (sym (get_or_past was.values s no_values (let many = all.many in omega (arith, many, past)))) (pairs_none (λ (a b : Reply). a.request < b.request))
  ]
