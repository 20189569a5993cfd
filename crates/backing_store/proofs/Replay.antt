-- What the store keeps, after one more entry.
-- Used by `commit`, `judged` and Committing.
use Rattle.std.proofs.Common.{◌≡◌, ◌≢◌, ℕ, ◌+◌, ◌<◌, All, zero, suc, Bool, true, false, cond, ◌||◌, List, [], ◌∷◌, ◌++◌, length, map, filter, get_or, Option, None, Some, Ok, Err, ◌⊎◌, inl, inr, refl, sym, ap, ◌∙◌, subst, arith}
use Rattle.std.specs.Prelude.{position, slice_get, nat_eq}
use Rattle.std.specs.List.{find}
use Rattle.std.specs.Map.{lookup}
use Rattle.std.specs.Option.{option_map, option_or}
use Rattle.std.proofs.lemmas.Bool.{cases_Bool}
use Rattle.std.proofs.lemmas.List.{length-map, length-append, append-nil, map-append}
use Rattle.std.proofs.lemmas.List.Sums.{fold-append}
use Rattle.std.proofs.lemmas.List.Elements.{filter-append}
use Rattle.weave_data.proofs.Ends.{flat_push}
use Rattle.weave_data.proofs.Entries.{each_push}
use Rattle.weave_data.specs.Names.{same_name, one_name}
use Rattle.weave_data.specs.declared.name.Name.{Name}
use Rattle.vector_stamp.specs.declared.clock.Stamp.{Stamp}
use Rattle.vector_stamp.specs.Order.{id_of, stamp_before}
use Rattle.vector_stamp.specs.Precedence.{GivenPair, precedes}
use Rattle.graph_ops.specs.declared.op.Op.{Op}
use Rattle.graph_ops.specs.Mentions.{named_by, is_among}
use Rattle.graph_ops.specs.declared.tx.Got.{Got}
use Rattle.graph_ops.specs.PlainGraph.{PlainGraph, TxOutcome, transaction}
use Rattle.weave_entries.specs.declared.store_log.StoreEntry.{StoreEntry}
use Rattle.weave_entries.specs.declared.store_log.StoreDeed.TheVariants.{Judged}
use Rattle.weave_entries.specs.declared.verdict.Counted.{Counted}
use Rattle.weave_entries.specs.declared.verdict.Verdict.{Verdict}
use Rattle.weave_entries.specs.declared.verdict.Verdict.TheVariants.{Committed, Conflict, Refused}
use Rattle.weave_entries.specs.StoreReplay.{Judgement, Commit, judged_by, judgements_of, judgement_of, commit_if, commit_by, commits_of, names_vertex, count_naming, last_naming, graph_committed}
use Rattle.weave_entries.specs.StoreRule.{LastCommit, counts_of, conflict_or, verdict_by, verdict_on, lasts_of, asked_of, asked_vertices, stamps_judged, FitsStore}
use Rattle.backing_store.specs.declared.lasts.KeptCommit.{KeptCommit}
use Rattle.backing_store.specs.Keeping.{kept_commit, kept_at, held_at, held_after, KeepsLasts, FindsEntries, IsStoreReplay}
use Rattle.backing_store.specs.Trying.{counts_in, commits_by, graph_after_verdict}
use Rattle.backing_store.proofs.Firsts.{found_at, found_none, found_within, find_push, position_push}

-- The verdicts

get_map : {A B : Type 0} (f : A → B) (xs : List A) (i : ℕ) (d : A) → i < length xs → slice_get (map f xs) i ≡ Some (f (get_or xs i d))
get_map f [] i d below = absurd (omega arith)
get_map f (x ∷ xs) zero d below = refl
get_map f (x ∷ xs) (suc i) d below = get_map f xs i d (omega arith)

module _ (request : ℕ) (places : List (ℕ × ℕ)) (log : List StoreEntry) (finds : FindsEntries places log) where
  -- a request that has no place in the table has no judgement in the log
  pub none_judged : lookup (nat_eq request) places ≡ None → None ≡ judgement_of request log
  none_judged none = sym (found_none _ (judgements_of log) (sym (finds request) ∙ none))

  -- the place is within the log
  pub place_within : (place : ℕ) → lookup (nat_eq request) places ≡ Some place → place < length log
  place_within place there = let below = found_within _ (judgements_of log) place (sym (finds request) ∙ there) in omega (arith, length-map log (λ (entry : StoreEntry). judged_by entry.author entry.deed))

  -- the entry at the place of a request is the judgement of that request
  pub judged_there : (place : ℕ) (entry : StoreEntry) → lookup (nat_eq request) places ≡ Some place → entry ≡ get_or log place entry → Some (judged_by entry.author entry.deed) ≡ judgement_of request log
  judged_there place entry there is =
      ap (λ (one : StoreEntry). Some (judged_by one.author one.deed)) is
      ∙ sym (found_at _ (judgements_of log) place (sym (finds request) ∙ there) ∙ get_map (λ (one : StoreEntry). judged_by one.author one.deed) log place entry (place_within place there))

-- with one more entry
places_more : (places noted : List (ℕ × ℕ)) (log : List StoreEntry) (entry : StoreEntry) → FindsEntries places log → ((one : ℕ) → lookup (nat_eq one) noted ≡ option_or (lookup (nat_eq one) places) (cond (nat_eq (judged_by entry.author entry.deed).request one) (Some (length log)) None)) → FindsEntries noted (log ++ entry ∷ [])
places_more places noted log entry finds notes one =
    let judged : Judgement = judged_by entry.author entry.deed in
    let test : Judgement → Bool = λ (j : Judgement). nat_eq j.request one in
    notes one
    ∙ ap (λ (o : Option ℕ). option_or o (cond (test judged) (Some (length log)) None)) (finds one)
    ∙ ap (λ (n : ℕ). option_or (position test (judgements_of log)) (cond (test judged) (Some n) None)) (sym (length-map log (λ (e : StoreEntry). judged_by e.author e.deed)))
    ∙ sym (position_push test (judgements_of log) judged)
    ∙ ap (position test) (sym (map-append (λ (e : StoreEntry). judged_by e.author e.deed) log (entry ∷ [])))

-- The last commits

module _ (commits : List Commit) (commit : Commit) (v : Name) where
  last_push : last_naming v (commits ++ commit ∷ []) ≡ cond (names_vertex v commit) (Some commit) (last_naming v commits)
  last_push = find_push (names_vertex v) commits commit

  count_push : count_naming v (commits ++ commit ∷ []) ≡ count_naming v commits + cond (names_vertex v commit) 1 0
  count_push =
      ap length (filter-append (names_vertex v) commits (commit ∷ [])) ∙ length-append (filter (names_vertex v) commits) (filter (names_vertex v) (commit ∷ []))
      ∙ ap (λ n. count_naming v commits + n) (one (names_vertex v commit))
    where
      one : (b : Bool) → length (cond b (commit ∷ []) []) ≡ cond b 1 0
      one true = refl
      one false = refl

  kept_push : kept_at (commits ++ commit ∷ []) v ≡ cond (names_vertex v commit) (Some (kept_commit (count_naming v commits + 1) commit)) (kept_at commits v)
  kept_push =
      ap (λ (n : ℕ). option_map (kept_commit n) (last_naming v (commits ++ commit ∷ []))) count_push
      ∙ ap (option_map (kept_commit (count_naming v commits + cond (names_vertex v commit) 1 0))) last_push
      ∙ by (names_vertex v commit)
    where
      by : (b : Bool) → option_map (kept_commit (count_naming v commits + cond b 1 0)) (cond b (Some commit) (last_naming v commits)) ≡ cond b (Some (kept_commit (count_naming v commits + 1) commit)) (kept_at commits v)
      by true = refl
      by false = ap (λ (n : ℕ). option_map (kept_commit n) (last_naming v commits)) (omega arith)

-- a table after the counts of a transaction
module _ (commits : List Commit) (request : ℕ) (stamp : Stamp) (v : Name) where
  abbrev put : KeptCommit
  put = record { request = request; stamp = stamp; commits = count_naming v commits + 1 }

  put_one : (w : Name) (held : Option KeptCommit) (more : Bool) → cond more (Some put) (cond (same_name w v) (Some (record { request = request; stamp = stamp; commits = count_naming w commits + 1 })) held) ≡ cond (same_name w v || more) (Some put) held
  put_one w held true = elim (cases_Bool (same_name w v)) [ inl same ↦ rw same refl | inr other ↦ rw other refl ]
  put_one w held false = elim (cases_Bool (same_name w v)) [
    | inl same ↦ let is : count_naming w commits ≡ count_naming v commits = ap (λ (x : Name). count_naming x commits) (one_name w v same) in rw (same, is) refl
    | inr other ↦ rw other refl
  ]

  after_counts : (named : List Name) (held : Option KeptCommit) → held_after request stamp (map (λ (w : Name). record { vertex = w; before = count_naming w commits }) named) v held ≡ cond (is_among named v) (Some put) held
  after_counts [] held = refl
  after_counts (w ∷ named) held =
      after_counts named (cond (same_name w v) (Some (record { request = request; stamp = stamp; commits = count_naming w commits + 1 })) held)
      ∙ put_one w held (is_among named v)

-- A verdict

-- a commit has the counts of its operations
committed_counts : (ops : List Op) (commits : List Commit) (first second : Option LastCommit) (outcome : TxOutcome) (number : ℕ) (answers : List Got) (counts : List Counted) → Committed number answers counts ≡ conflict_or first (conflict_or second (verdict_by ops commits outcome)) → counts ≡ counts_of ops commits
committed_counts ops commits (Some last) second outcome number answers counts is = absurd (cc)
committed_counts ops commits None (Some last) outcome number answers counts is = absurd (cc)
committed_counts ops commits None None (Ok passed) number answers counts is = cc
committed_counts ops commits None None (Err stopped) number answers counts is = absurd (cc)

module _ (pairs : List GivenPair) (commits : List Commit) (stamp : Stamp) (ops : List Op) where
  -- a commit counts the named vertices
  pub by_rule : (number : ℕ) (answers : List Got) (counts : List Counted) → Committed number answers counts ≡ verdict_on pairs commits stamp ops → counts ≡ counts_of ops commits
  by_rule number answers counts is =
      committed_counts ops commits
      (find (λ (last : LastCommit). stamp_before stamp last.commit.stamp) (lasts_of ops commits))
      (find (λ (last : LastCommit). precedes pairs stamp last.commit.stamp) (asked_of stamp (lasts_of ops commits)))
      (transaction ops (graph_committed commits)) number answers counts is

  -- what the verdict counts are the counts of the operations, or nothing
  pub counts_given : (verdict : Verdict) → verdict ≡ verdict_on pairs commits stamp ops → (counts_in verdict ≡ counts_of ops commits) ⊎ (counts_in verdict ≡ [])
  counts_given (Committed number answers counts) is = inl (by_rule number answers counts is)
  counts_given (Conflict vertex newer) is = inr refl
  counts_given (Refused op reason at) is = inr refl

  lasts_after : (table noted : List (Name × KeptCommit)) (request : ℕ) (verdict : Verdict) → verdict ≡ verdict_on pairs commits stamp ops → KeepsLasts table commits → ((v : Name) → held_at noted v ≡ held_after request stamp (counts_in verdict) v (held_at table v)) → KeepsLasts noted (commits ++ commit_if verdict (record { request = request; stamp = stamp; ops = ops }))
  lasts_after table noted request (Committed number answers counts) is keeps notes v =
      let commit : Commit = record { request = request; stamp = stamp; ops = ops } in
      notes v
      ∙ ap (λ (cs : List Counted). held_after request stamp cs v (held_at table v)) (by_rule number answers counts is)
      ∙ after_counts commits request stamp v (named_by ops) (held_at table v)
      ∙ ap (cond (names_vertex v commit) (Some (put commits request stamp v))) (keeps v)
      ∙ sym (kept_push commits commit v)
  lasts_after table noted request (Conflict vertex newer) is keeps notes v = subst (KeepsLasts noted) (sym (append-nil commits)) (λ (w : Name). notes w ∙ keeps w) v
  lasts_after table noted request (Refused op reason at) is keeps notes v = subst (KeepsLasts noted) (sym (append-nil commits)) (λ (w : Name). notes w ∙ keeps w) v

made_after : (commits : List Commit) (verdict : Verdict) (commit : Commit) → length commits + commits_by verdict ≡ length (commits ++ commit_if verdict commit)
made_after commits (Committed number answers counts) commit = sym (length-append commits (commit ∷ []))
made_after commits (Conflict vertex newer) commit = sym (length-append commits [])
made_after commits (Refused op reason at) commit = sym (length-append commits [])

graph_more : (commits : List Commit) (verdict : Verdict) (request : ℕ) (stamp : Stamp) (ops : List Op) → graph_after_verdict verdict (graph_committed commits) ops ≡ graph_committed (commits ++ commit_if verdict (record { request = request; stamp = stamp; ops = ops }))
graph_more commits (Committed number answers counts) request stamp ops = sym (fold-append _ _ commits (record { request = request; stamp = stamp; ops = ops } ∷ []))
graph_more commits (Conflict vertex newer) request stamp ops = ap graph_committed (sym (append-nil commits))
graph_more commits (Refused op reason at) request stamp ops = ap graph_committed (sym (append-nil commits))

-- The whole

-- the fields are what a verdict on a request makes of those before it
pub record AreAfter (graph : PlainGraph) (lasts : List (Name × KeptCommit)) (made : ℕ) (places : List (ℕ × ℕ))
    (log : List StoreEntry)
    (request : ℕ) (stamp : Stamp) (ops : List Op) (verdict : Verdict) (now : PlainGraph)
    (noted : List (Name × KeptCommit)) (number : ℕ)
    (placed : List (ℕ × ℕ)) : Type 0 where
  pub graph_is : now ≡ graph_after_verdict verdict graph ops
  pub lasts_are : (v : Name) → held_at noted v ≡ held_after request stamp (counts_in verdict) v (held_at lasts v)
  pub made_is : number ≡ made + commits_by verdict
  pub places_are : (one : ℕ)
      → lookup (nat_eq one) placed ≡ option_or (lookup (nat_eq one) places)
      (cond (nat_eq request one) (Some (length log)) None)

module _ (graph : PlainGraph) (lasts : List (Name × KeptCommit)) (made : ℕ) (places : List (ℕ × ℕ)) (log : List StoreEntry) (kept : IsStoreReplay graph lasts made places log) where
  -- the tables may be larger
  pub replay_moved : (moved : List (Name × KeptCommit)) (placed : List (ℕ × ℕ)) (same : List StoreEntry) → ((v : Name) → held_at moved v ≡ held_at lasts v) → ((one : ℕ) → lookup (nat_eq one) placed ≡ lookup (nat_eq one) places) → same ≡ log → IsStoreReplay graph moved made placed same
  replay_moved moved placed same held looked is =
      subst (λ (l : List StoreEntry). IsStoreReplay graph moved made placed l) (sym is) (record {
        graph_is = kept.graph_is;
        lasts_are = λ v. held v ∙ kept.lasts_are v;
        made_is = kept.made_is;
        places_are = λ one. looked one ∙ kept.places_are one;
        right = kept.right;
      })

  module _ (pairs : List GivenPair) (author request : ℕ) (stamp : Stamp) (ops : List Op) (asked : List Name)
      (verdict : Verdict) (now : PlainGraph)
      (noted : List (Name × KeptCommit)) (number : ℕ) (placed : List (ℕ × ℕ)) where
    -- the store follows its log with one more judgement, if its stamp's id is new and all is as the judgement says
    pub replay_more : (longer : List StoreEntry) → All (λ (judged : Stamp). id_of judged ≢ id_of stamp)
        (stamps_judged log)
        → asked ≡ asked_vertices stamp (lasts_of ops (commits_of log))
        → verdict ≡ verdict_on pairs (commits_of log) stamp ops
        → AreAfter graph lasts made places log request stamp ops verdict now noted number placed
        → longer ≡ log ++ record { author = author; deed = Judged request stamp ops asked verdict } ∷ []
        → IsStoreReplay now noted number placed longer
    replay_more longer new asked_are verdict_is after longer_is =
        let entry : StoreEntry = record { author = author; deed = Judged request stamp ops asked verdict } in
        let commit : Commit = record { request = request; stamp = stamp; ops = ops } in
        let more : commits_of (log ++ entry ∷ []) ≡ commits_of log ++ commit_if verdict commit = flat_push (λ (e : StoreEntry). commit_by e.deed) log entry in
        subst (λ (l : List StoreEntry). IsStoreReplay now noted number placed l) (sym longer_is) (record {
          graph_is = after.graph_is ∙ ap (λ (g : PlainGraph). graph_after_verdict verdict g ops) kept.graph_is
              ∙ graph_more (commits_of log) verdict request stamp ops ∙ ap graph_committed (sym more);
          lasts_are = subst (KeepsLasts noted) (sym more)
              (lasts_after pairs (commits_of log) stamp ops lasts noted request verdict verdict_is kept.lasts_are after.lasts_are);
          made_is = after.made_is ∙ ap (λ (n : ℕ). n + commits_by verdict) kept.made_is
              ∙ made_after (commits_of log) verdict commit ∙ ap length (sym more);
          places_are = places_more places placed log entry kept.places_are after.places_are;
          right = each_push (λ before (one : StoreEntry). FitsStore before one.deed) log entry kept.right (record { new = new; asked_are = asked_are; pairs = pairs; verdict_is = verdict_is });
        })
