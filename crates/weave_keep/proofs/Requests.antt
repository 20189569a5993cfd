-- Requests that are kept, one after another.
use Rattle.std.proofs.Common.{◌≡◌, inl, inr, ℕ, suc, ◌+◌, ◌<◌, ◌≤◌, Bool, true, false, is_ok, List, [], ◌∷◌, ◌++◌, length, map, filter, get_or, drop, None, Some, Result, Ok, Err, IsErrOf, IsSome, refl, sym, ap, ◌∙◌, subst, arith, append_assoc, length-append, drop_of_length-le, if◌then◌else◌}
use Rattle.std.proofs.Math.Seq.{drop-cons}
use Rattle.std.proofs.lemmas.Bool.{both_ways}
use Rattle.std.proofs.lemmas.List.{append-nil, map-append}
use Rattle.std.proofs.lemmas.List.Elements.{filter-append}
use Rattle.weave_io.specs.Told.{ToldBytes}
use Rattle.vector_stamp.specs.declared.clock.Stamp.{Stamp}
use Rattle.graph_ops.specs.declared.op.Op.{Op}
use Rattle.graph_ops.specs.PlainGraph.{TxOutcome}
use Rattle.program_defs.specs.Works.{ops_of}
use Rattle.program_defs.specs.declared.script.Request.{Request}
use Rattle.report_rules.specs.declared.report.Pair.{Pair}
use Rattle.report_rules.specs.declared.report.StepAnswer.{StepAnswer}
use Rattle.report_rules.specs.declared.report.Reply.{Reply}
use Rattle.report_rules.specs.declared.report.ReplyState.{ReplyState}
use Rattle.report_rules.specs.declared.report.ReplyState.TheVariants.{Committed, Refused}
use Rattle.store_journal.specs.Commits.{commit_of}
use Rattle.store_journal.specs.Disk.{LeavesOnly}
use Rattle.store_journal.specs.KeptAnswers.{next_commit, next_kept_stamp}
use Rattle.store_journal.specs.Keeping.{Keeping}
use Rattle.store_journal.specs.Payloads.{commit_with, kept_stamp}
use Rattle.store_journal.specs.Standing.{IsAtRest, IsJournal}
use Rattle.store_journal.specs.declared.faults.KeepFault.{KeepFault}
use Rattle.store_journal.specs.declared.faults.KeepFault.TheVariants as fault
use Rattle.store_journal.specs.declared.kept.Kept.{Kept}
use Rattle.store_journal.specs.declared.kept.Kept.TheVariants as kept
use Rattle.store_journal.specs.declared.kept_commit.Commit.{Commit}
use Rattle.store_journal.proofs.Moments.{started}
use Rattle.weave_keep.specs.KeepEnds.{IsJournalUpTo, pending_of}
use Rattle.weave_keep.specs.Keepable.{AreKeptUpTo, EndsCommit, IsFresh, IsKeptNext, SaysKept}
use Rattle.weave_keep.specs.KeptReports.{commits_of_request, committed_places, kept_replies, kept_reply, kept_state, new_commits, outcome_after, report_of, says_committed}
use Rattle.weave_keep.proofs.Journals.{pending_then}

-- One request, after these commits of a store. Its outcome is by the plain graph.
module _ (store after : Keeping) (place : ℕ) (request : Request) (counted : store.count ≡ place) where
  -- the commit that it is, if its operations pass
  abbrev next : Commit
  next = commit_with (kept_stamp store.epoch (place + 1)) (ops_of request.work)

  same_next : next_commit store (ops_of request.work) ≡ next
  same_next = ap (λ n. commit_with (kept_stamp store.epoch (n + 1)) (ops_of request.work)) counted

  -- the commits of the request, by whether its operations pass
  abbrev made_if : Bool → List Commit
  made_if passes = if passes then next ∷ [] else []

  -- a reply with this stamp and state
  abbrev reply_with : Stamp → ReplyState → Reply
  reply_with stamp state = record { request = place; stamp = Some stamp; state = state }

  -- the reply that follows from the outcome
  abbrev reply_by : TxOutcome → Reply
  reply_by outcome = reply_with (kept_stamp store.epoch (place + 1)) (kept_state outcome (length store.commits))

  same_stamp : next_kept_stamp store ≡ kept_stamp store.epoch (place + 1)
  same_stamp = ap (λ n. kept_stamp store.epoch (n + 1)) counted

  -- its reply
  pub replied : (what : Kept) (reply : Reply) (Untouched : Type 0) → SaysKept place what reply → EndsCommit store after (ops_of request.work) (Ok what) Untouched → reply ≡ kept_reply store.epoch place store.commits request
  replied (kept.Committed stamp number answers) reply Untouched says end =
      let done = end.committed in
      let count : number ≡ length store.commits + 1 = done.number_is ∙ ap length done.one_more ∙ length-append store.commits (next_commit store (ops_of request.work) ∷ []) in
      let stamped : stamp ≡ kept_stamp store.epoch (place + 1) = done.stamp_is ∙ same_stamp in
      says ∙ ap (λ s. reply_with s (Committed number answers.items)) stamped ∙ ap (λ n. reply_with (kept_stamp store.epoch (place + 1)) (Committed n answers.items)) count ∙ ap reply_by (sym done.passes)
  replied (kept.Refused stamp op reason at) reply Untouched says end =
      let refused = end.refused in
      let stamped : stamp ≡ kept_stamp store.epoch (place + 1) = refused.stamp_is ∙ same_stamp in
      says ∙ ap (λ s. reply_with s (Refused op reason at)) stamped ∙ ap (λ n. reply_with (kept_stamp store.epoch (place + 1)) (Refused op reason n)) refused.at_is ∙ ap reply_by (sym refused.refused)

  -- the store's commits after it
  pub with_its_commit : (what : Kept) (Untouched : Type 0) → EndsCommit store after (ops_of request.work) (Ok what) Untouched → after.commits ≡ store.commits ++ commits_of_request store.epoch place store.commits request
  with_its_commit (kept.Committed stamp number answers) Untouched end =
      end.committed.one_more ∙ ap (λ c. store.commits ++ c ∷ []) same_next ∙ ap (λ (outcome : TxOutcome). store.commits ++ made_if (is_ok outcome)) (sym end.committed.passes)
  with_its_commit (kept.Refused stamp op reason at) Untouched end =
      end.refused.stays ∙ sym (append-nil store.commits) ∙ ap (λ (outcome : TxOutcome). store.commits ++ made_if (is_ok outcome)) (sym end.refused.refused)

  -- Moments
  module _ {D : Type 0} (seen : D → ToldBytes) (images : D → List ℕ → Type 0) (moment : D → ℕ) (images_since : D → ℕ → List ℕ → Type 0) (since_now : (disk : D) (c : List ℕ) → images_since disk (moment disk) c → images disk c) where
    -- a journal at rest is one at each moment, if nothing is done
    at_rest : (disk : D) → IsAtRest commit_of store.commits store.place (seen disk) (images disk) → IsSome (seen disk) → LeavesOnly moment images_since disk disk (IsJournal commit_of store.commits None)
    at_rest disk rest some = at (seen disk) rest some
      where
        at : (told : ToldBytes) → IsAtRest commit_of store.commits store.place told (images disk) → IsSome told → LeavesOnly moment images_since disk disk (IsJournal commit_of store.commits None)
        at None rest some = absurd (both_ways false refl some)
        at (Some file) rest some = started moment images_since disk (IsJournal commit_of store.commits None) (λ c left. subst (λ f. IsJournal commit_of store.commits None f) (sym (rest.1 c (since_now disk c left))) (inr (inl (store.place, rest.0))))

    -- a transaction that doesn't pass writes nothing
    not_written : (old new : D) (result : Result Kept KeepFault) → is_ok (outcome_after store.commits request) ≡ false → EndsCommit store after (ops_of request.work) result (new ≡ old) → new ≡ old
    not_written old new (Ok (kept.Committed stamp number answers)) not end = absurd (both_ways (is_ok (outcome_after store.commits request)) not (ap (λ (outcome : TxOutcome). is_ok outcome) end.committed.passes))
    not_written old new (Ok (kept.Refused stamp op reason at)) not end = end.unwritten
    not_written old new (Err fault.Disk) not end = absurd (both_ways (is_ok (outcome_after store.commits request)) not (end.passes refl))
    not_written old new (Err fault.Halted) not end = end.unwritten
    not_written old new (Err fault.Memory) not end = end.unwritten

    -- at each moment of the request its commit may be pending, if it passes
    pub moments : (old new : D) (result : Result Kept KeepFault) → IsAtRest commit_of store.commits store.place (seen old) (images old) → IsSome (seen old)
        → LeavesOnly moment images_since old new (IsJournal commit_of store.commits (Some (next_commit store (ops_of request.work)))) → EndsCommit store after (ops_of request.work) result (new ≡ old)
        → LeavesOnly moment images_since old new (IsJournal commit_of store.commits (pending_of (commits_of_request store.epoch place store.commits request)))
    moments old new result rest some run end = by (is_ok (outcome_after store.commits request)) refl
      where
        by : (passing : Bool) → is_ok (outcome_after store.commits request) ≡ passing → LeavesOnly moment images_since old new (IsJournal commit_of store.commits (pending_of (made_if (is_ok (outcome_after store.commits request)))))
        by true is = subst (λ (passing : Bool). LeavesOnly moment images_since old new (IsJournal commit_of store.commits (pending_of (made_if passing)))) (sym is)
            (subst (λ (c : Commit). LeavesOnly moment images_since old new (IsJournal commit_of store.commits (Some c))) same_next run)
        by false is = subst (λ (passing : Bool). LeavesOnly moment images_since old new (IsJournal commit_of store.commits (pending_of (made_if passing)))) (sym is)
            (subst (λ (disk : D). LeavesOnly moment images_since old disk (IsJournal commit_of store.commits None)) (sym (not_written old new result is end)) (at_rest old rest some))

-- The same of the operations that were handed to the store

module _ (store after : Keeping) (place : ℕ) (request : Request) (counted : store.count ≡ place) (ops : List Op) (same : ops ≡ ops_of request.work) (result : Result Kept KeepFault) where
  -- what it answered, of the request's operations
  of_request : (Untouched : Type 0) (one : Result Kept KeepFault) → result ≡ one → EndsCommit store after ops result Untouched → EndsCommit store after (ops_of request.work) one Untouched
  of_request Untouched one is end = subst (λ (l : List Op). EndsCommit store after l one Untouched) same (subst (λ (r : Result Kept KeepFault). EndsCommit store after ops r Untouched) is end)

  -- its reply
  pub reply_so : (Untouched : Type 0) (what : Kept) (reply : Reply) → result ≡ Ok what → SaysKept place what reply → EndsCommit store after ops result Untouched → reply ≡ kept_reply store.epoch place store.commits request
  reply_so Untouched what reply is says end = replied store after place request counted what reply Untouched says (of_request Untouched (Ok what) is end)

  -- the store's commits after it
  pub commits_so : (Untouched : Type 0) (what : Kept) → result ≡ Ok what → EndsCommit store after ops result Untouched → after.commits ≡ store.commits ++ commits_of_request store.epoch place store.commits request
  commits_so Untouched what is end = with_its_commit store after place request counted what Untouched (of_request Untouched (Ok what) is end)

  -- each moment of it
  module _ {D : Type 0} (seen : D → ToldBytes) (images : D → List ℕ → Type 0) (moment : D → ℕ) (images_since : D → ℕ → List ℕ → Type 0) (since_now : (disk : D) (c : List ℕ) → images_since disk (moment disk) c → images disk c) where
    -- the new commit may be pending, if it passes
    pub moments_so : (old new : D) → IsAtRest commit_of store.commits store.place (seen old) (images old) → IsSome (seen old) → LeavesOnly moment images_since old new (IsJournal commit_of store.commits (Some (next_commit store ops)))
        → EndsCommit store after ops result (new ≡ old) → LeavesOnly moment images_since old new (IsJournal commit_of store.commits (pending_of (commits_of_request store.epoch place store.commits request)))
    moments_so old new rest some run end =
        moments store after place request counted seen images moment images_since since_now old new result rest some
        (subst (λ (l : List Op). LeavesOnly moment images_since old new (IsJournal commit_of store.commits (Some (next_commit store l)))) same run) (of_request (new ≡ old) result refl end)

-- The requests so far

-- the next place
one_on : (index : ℕ) → suc index ≡ index + 1
one_on index = omega arith

-- before the first request
pub none_kept : (start : Keeping) (requests : List Request) (replies : List Reply) (order : List ℕ) → IsFresh start → replies ≡ [] → order ≡ [] → AreKeptUpTo start start requests 0 replies order
none_kept start requests replies order fresh no_reply no_place = record {
  done = [];
  commits = sym (append-nil start.commits);
  rest = refl;
  are_replies = ap (λ l. l ++ kept_replies start.epoch 0 start.commits requests) (sym no_reply);
  in_order = no_place ∙ ap committed_places (sym no_reply);
  on = fresh.on;
  epoch = refl;
  count = fresh.count;
}

-- the places of the committed ones among these and one more
places_more : (replies : List Reply) (reply : Reply) → committed_places (replies ++ reply ∷ []) ≡ committed_places replies ++ committed_places (reply ∷ [])
places_more replies reply = ap (map (λ (r : Reply). r.request)) (filter-append says_committed replies (reply ∷ [])) ∙ map-append (λ (r : Reply). r.request) (filter says_committed replies) (filter says_committed (reply ∷ []))

-- with one request more
pub one_more_kept : (start now after : Keeping) (requests : List Request) (index : ℕ) (replies : List Reply) (order : List ℕ) (request : Request) (reply : Reply) → AreKeptUpTo start now requests index replies order
    → index < length requests → request ≡ get_or requests index request → IsKeptNext now after index request reply
    → AreKeptUpTo start after requests (index + 1) (replies ++ reply ∷ []) (order ++ committed_places (reply ∷ []))
one_more_kept start now after requests index replies order request reply so_far inside is next =
    let further = next.further in
    let e = start.epoch in
    let one = commits_of_request e index now.commits request in
    let here : drop index requests ≡ request ∷ drop (index + 1) requests = drop-cons requests index request inside ∙ (λ i. (sym is i) ∷ drop (one_on index i) requests) in
    let says_here : reply ≡ kept_reply e index now.commits request = next.says ∙ ap (λ n. kept_reply n index now.commits request) so_far.epoch in
    let commits_here : after.commits ≡ now.commits ++ one = next.commits ∙ ap (λ n. now.commits ++ commits_of_request n index now.commits request) so_far.epoch in
    record {
      done = so_far.done ++ one;
      commits = commits_here ∙ ap (λ l. l ++ one) so_far.commits ∙ append_assoc start.commits so_far.done one;
      rest =
          so_far.rest ∙ ap (λ l. so_far.done ++ new_commits e index now.commits l) here
          ∙ sym (append_assoc so_far.done one (new_commits e (index + 1) (now.commits ++ one) (drop (index + 1) requests)))
          ∙ ap (λ l. (so_far.done ++ one) ++ new_commits e (index + 1) l (drop (index + 1) requests)) (sym commits_here);
      are_replies =
          so_far.are_replies ∙ ap (λ l. replies ++ kept_replies e index now.commits l) here
          ∙ ap (λ r. replies ++ r ∷ kept_replies e (index + 1) (now.commits ++ one) (drop (index + 1) requests)) (sym says_here)
          ∙ sym (append_assoc replies (reply ∷ []) (kept_replies e (index + 1) (now.commits ++ one) (drop (index + 1) requests)))
          ∙ ap (λ l. (replies ++ reply ∷ []) ++ kept_replies e (index + 1) l (drop (index + 1) requests)) (sym commits_here);
      in_order = ap (λ l. l ++ committed_places (reply ∷ [])) so_far.in_order ∙ sym (places_more replies reply);
      on = further.on;
      epoch = further.epoch ∙ so_far.epoch;
      count = further.count ∙ ap (λ n. n + 1) so_far.count;
    }

-- at each moment of a request the journal has some of the commits of all
pub up_to_one : (start now : Keeping) (requests : List Request) (index : ℕ) (replies : List Reply) (order : List ℕ) (request : Request) → AreKeptUpTo start now requests index replies order → index < length requests
    → request ≡ get_or requests index request → (file : List ℕ) → IsJournal commit_of now.commits (pending_of (commits_of_request now.epoch index now.commits request)) file
    → IsJournalUpTo start.commits (new_commits start.epoch 0 start.commits requests) file
up_to_one start now requests index replies order request so_far inside is file journal =
    let e = start.epoch in
    let one = commits_of_request e index now.commits request in
    let later = new_commits e (index + 1) (now.commits ++ one) (drop (index + 1) requests) in
    let here : drop index requests ≡ request ∷ drop (index + 1) requests = drop-cons requests index request inside ∙ (λ i. (sym is i) ∷ drop (one_on index i) requests) in
    let at_epoch : IsJournal commit_of now.commits (pending_of one) file = subst (λ n. IsJournal commit_of now.commits (pending_of (commits_of_request n index now.commits request)) file) so_far.epoch journal in
    record {
      done = so_far.done;
      rest = one ++ later;
      are_added = so_far.rest ∙ ap (λ l. so_far.done ++ new_commits e index now.commits l) here;
      journal = subst (λ l. IsJournal commit_of l (pending_of (one ++ later)) file) so_far.commits (pending_then now.commits one later file at_epoch);
    }

-- before the first one it has none of them
pub up_to_none : (start : Keeping) (added : List Commit) (told : ToldBytes) (images : List ℕ → Type 0) → IsAtRest commit_of start.commits start.place told images → IsSome told → (file : List ℕ) → images file → IsJournalUpTo start.commits added file
up_to_none start added None images rest some file image = absurd (both_ways false refl some)
up_to_none start added (Some bytes) images rest some file image =
    let journal : IsJournal commit_of start.commits (pending_of added) file = subst (λ f. IsJournal commit_of start.commits (pending_of added) f) (sym (rest.1 file image)) (inr (inl (start.place, rest.0))) in
    record {
      done = [];
      rest = added;
      are_added = refl;
      journal = subst (λ l. IsJournal commit_of l (pending_of added) file) (sym (append-nil start.commits)) journal;
    }

-- After the last request

-- the replies are those of all
pub all_replies : (start now : Keeping) (requests : List Request) (place : ℕ) (replies : List Reply) (order : List ℕ) → AreKeptUpTo start now requests place replies order → length requests ≤ place → kept_replies start.epoch 0 start.commits requests ≡ replies
all_replies start now requests place replies order so_far end = so_far.are_replies ∙ ap (λ l. replies ++ kept_replies start.epoch place now.commits l) (drop_of_length-le requests end) ∙ append-nil replies

-- and so are the commits
pub all_commits : (start now : Keeping) (requests : List Request) (place : ℕ) (replies : List Reply) (order : List ℕ) → AreKeptUpTo start now requests place replies order → length requests ≤ place → now.commits ≡ start.commits ++ new_commits start.epoch 0 start.commits requests
all_commits start now requests place replies order so_far end =
    so_far.commits ∙ ap (λ l. start.commits ++ l) (sym (so_far.rest ∙ ap (λ l. so_far.done ++ new_commits start.epoch place now.commits l) (drop_of_length-le requests end) ∙ append-nil so_far.done))

-- the report of them
pub made_report : (all replies : List Reply) (pairs : List Pair) (order : List ℕ) (answers : List StepAnswer) → all ≡ replies → pairs ≡ [] → order ≡ committed_places replies → answers ≡ [] → record { replies = replies; pairs = pairs; order = order; answers = answers } ≡ report_of all
made_report all replies pairs order answers same no_pair in_order no_answer =
    let places : order ≡ committed_places all = in_order ∙ ap committed_places (sym same) in
    (λ i. record { replies = sym same i; pairs = no_pair i; order = places i; answers = no_answer i })

-- a fault is that of the transaction
pub same_fault : {A B : Type 0} (result : Result A KeepFault) (why one : KeepFault) → result ≡ Err why → IsErrOf {T = B} (Err why) one → IsErrOf result one
same_fault result why one is other = let same : why ≡ one = cc in is ∙ ap Err same
