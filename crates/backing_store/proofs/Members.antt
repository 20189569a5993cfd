-- What is asked is among what the store keeps, and among what it judged.
-- Used by `what_is_asked_is_kept` and Committing.
use Rattle.std.proofs.Common.{◌≡◌, ◌≢◌, ℕ, suc, ◌*◌, ◌≤◌, Bool, not, List, [], ◌∷◌, ◌++◌, length, map, filter, reverse, Contains, All, Option, None, Some, inl, inr, sym, ap, subst, ◌∙◌, arith}
use Rattle.std.specs.List.{filter_map, flat_map, cons_option}
use Rattle.std.specs.Option.{option_map}
use Rattle.std.specs.Prelude.{option_to_list}
use Rattle.std.proofs.lemmas.Bool.{cases_Bool}
use Rattle.std.proofs.lemmas.List.{reverse-append, length-append, length-map}
use Rattle.std.proofs.lemmas.List.Elements.{Contains-append_left, Contains-append_right, Contains-append_cases, All-contains, All-contains_itself, All-weaker}
use Rattle.weave_data.proofs.Members.{has_none, has_read, has_head, has_tail, filter_has, has_filter, find_has, any_has, has_map, map_has, flat_has, has_flat}
use Rattle.weave_data.specs.Names.{same_name, one_name}
use Rattle.weave_data.specs.declared.name.Name.{Name}
use Rattle.vector_stamp.specs.declared.clock.Stamp.{Stamp}
use Rattle.vector_stamp.specs.Order.{id_of, unordered}
use Rattle.graph_ops.specs.declared.op.Op.{Op}
use Rattle.graph_ops.specs.Operations.{needed_by}
use Rattle.graph_ops.specs.Mentions.{named_by, named_by_op, first_mentions}
use Rattle.weave_entries.specs.declared.store_log.StoreEntry.{StoreEntry}
use Rattle.weave_entries.specs.declared.store_log.StoreDeed.{StoreDeed}
use Rattle.weave_entries.specs.declared.store_log.StoreDeed.TheVariants.{Judged}
use Rattle.weave_entries.specs.declared.verdict.Verdict.TheVariants.{Committed, Conflict, Refused}
use Rattle.weave_entries.specs.StoreReplay.{Judgement, Commit, judged_by, judgements_of, commit_by, commits_of, names_vertex, last_naming}
use Rattle.weave_entries.specs.StoreRule.{LastCommit, lasts_of, asked_of, asked_stamps}
use Rattle.weave_entries.proofs.LastCommits.{last-is, last-there}
use Rattle.backing_store.specs.Commits.{stamps_judged, stamps_kept}

-- Lists

module _ {A B : Type 0} (f : A → Option B) where
  cons_le : (o : Option B) (ys : List B) (n : ℕ) → length ys ≤ n → length (cons_option o ys) ≤ suc n
  cons_le None ys n le = omega (arith, le)
  cons_le (Some b) ys n le = omega (arith, le)

  filter_map_le : (xs : List A) → length (filter_map f xs) ≤ length xs
  filter_map_le [] = omega arith
  filter_map_le (x ∷ xs) = cons_le (f x) (filter_map f xs) (length xs) (filter_map_le xs)

module _ {A : Type 0} where
  -- what is in a reversed list is in the list
  pub reverse_has : (xs : List A) (x : A) → Contains (reverse xs) x → Contains xs x
  reverse_has [] x h = h
  reverse_has (y ∷ xs) x h =
      elim (Contains-append_cases (reverse xs) (y ∷ []) x (subst (λ ys. Contains ys x) (reverse-append (y ∷ []) xs) h)) [
        | inl there ↦ has_tail y xs x (reverse_has xs x there)
        | inr here ↦ elim (has_read y [] x here) [ inl same ↦ subst (λ k. Contains (y ∷ xs) k) same (has_head y xs) | inr none ↦ absurd (has_none x none) ]
      ]

  -- a filtered list is no longer than the list
  pub filter_le : (p : A → Bool) (xs : List A) → length (filter p xs) ≤ length xs
  filter_le p [] = omega arith
  filter_le p (x ∷ xs) = elim (cases_Bool (p x)) [ inl keeps ↦ rw keeps (omega (arith, filter_le p xs)) | inr drops ↦ rw drops (omega (arith, filter_le p xs)) ]

  -- what holds of each member of a list holds of all of it
  pub all_members : (P : A → Type 0) (xs : List A) → ((x : A) → Contains xs x → P x) → All P xs
  all_members P xs each = All-weaker (Contains xs) P each xs (All-contains_itself xs)

-- Names

-- a first mention is a mention
mention_has : (names : List Name) (v : Name) → Contains (first_mentions names) v → Contains names v
mention_has [] v h = h
mention_has (w ∷ names) v h =
    elim (has_read w (filter (λ x. not (same_name w x)) (first_mentions names)) v h) [
      | inl same ↦ subst (λ k. Contains (w ∷ names) k) same (has_head w names)
      | inr more ↦ has_tail w names v (mention_has names v (filter_has (λ x. not (same_name w x)) (first_mentions names) v more).0)
    ]

-- and each name that is mentioned has one
has_mention : (names : List Name) (v : Name) → Contains names v → Contains (first_mentions names) v
has_mention [] v h = h
has_mention (w ∷ names) v h =
    elim (cases_Bool (same_name w v)) [
      | inl same ↦ subst (λ k. Contains (w ∷ filter (λ x. not (same_name w x)) (first_mentions names)) k) (one_name w v same) (has_head w _)
      | inr other ↦ elim (has_read w names v h) [
        | inl is ↦ subst (λ k. Contains (w ∷ filter (λ x. not (same_name w x)) (first_mentions names)) k) is (has_head w _)
        | inr more ↦ has_tail w _ v (has_filter (λ x. not (same_name w x)) (first_mentions names) v (has_mention names v more) (ap not other))
      ]
    ]

mentions_le : (names : List Name) → length (first_mentions names) ≤ length names
mentions_le [] = omega arith
mentions_le (w ∷ names) = omega (arith, mentions_le names, filter_le (λ x. not (same_name w x)) (first_mentions names))

one_more_at_most : (needed : Option Name) → length (option_to_list needed) ≤ 1
one_more_at_most None = omega arith
one_more_at_most (Some v) = omega arith

names_le : (ops : List Op) → length (flat_map named_by_op ops) ≤ 2 * length ops
names_le [] = omega arith
names_le (op ∷ ops) =
    omega (arith, names_le ops, one_more_at_most (needed_by op), length-append (option_to_list (needed_by op)) (flat_map named_by_op ops))

-- there are no more named vertices than two for each operation
pub named_le : (ops : List Op) → length (named_by ops) ≤ 2 * length ops
named_le ops = omega (arith, mentions_le (flat_map named_by_op ops), names_le ops)

-- What is asked

-- a judgement asks about at most two stamps for each operation
pub asked_le : (stamp : Stamp) (ops : List Op) (commits : List Commit) → length (asked_stamps stamp (lasts_of ops commits)) ≤ 2 * length ops
asked_le stamp ops commits =
    let last_at : Name → Option LastCommit = λ (v : Name). option_map (λ (commit : Commit). record { vertex = v; commit = commit }) (last_naming v commits) in
    let stamps : length (asked_stamps stamp (lasts_of ops commits)) ≡ length (asked_of stamp (lasts_of ops commits)) = length-map (asked_of stamp (lasts_of ops commits)) (λ (last : LastCommit). last.commit.stamp) in
    let among : length (asked_of stamp (lasts_of ops commits)) ≤ length (lasts_of ops commits) = filter_le (λ (last : LastCommit). unordered last.commit.stamp stamp) (lasts_of ops commits) in
    let lasts : length (lasts_of ops commits) ≤ length (named_by ops) = filter_map_le last_at (named_by ops) in
    let named : length (named_by ops) ≤ 2 * length ops = named_le ops in
    omega arith

-- a stamp that is asked is that of a last commit at a named vertex
record IsOfLast (ops : List Op) (commits : List Commit) (stamp : Stamp) : Type 0 where
  vertex : Name
  commit : Commit
  is_last : last_naming vertex commits ≡ Some commit
  is : commit.stamp ≡ stamp

of_last : (ops : List Op) (commits : List Commit) (one : Stamp) → Contains (map (λ (last : LastCommit). last.commit.stamp) (lasts_of ops commits)) one → IsOfLast ops commits one
of_last ops commits one h =
    let found = map_has (λ (last : LastCommit). last.commit.stamp) (lasts_of ops commits) one h in
    let last : LastCommit = found.0 in
    record { vertex = last.vertex; commit = last.commit; is_last = (last-is ops commits last found.1).0; is = found.2 }

asked_of_last : (stamp : Stamp) (ops : List Op) (commits : List Commit) (one : Stamp) → Contains (asked_stamps stamp (lasts_of ops commits)) one → Contains (map (λ (last : LastCommit). last.commit.stamp) (lasts_of ops commits)) one
asked_of_last stamp ops commits one h =
    let found = map_has (λ (last : LastCommit). last.commit.stamp) (asked_of stamp (lasts_of ops commits)) one h in
    let here = (filter_has (λ (last : LastCommit). unordered last.commit.stamp stamp) (lasts_of ops commits) found.0 found.1).0 in
    subst (λ s. Contains (map (λ (last : LastCommit). last.commit.stamp) (lasts_of ops commits)) s) found.2 (has_map (λ (last : LastCommit). last.commit.stamp) (lasts_of ops commits) found.0 here)

-- what is asked is kept
pub asked_is_kept : (stamp : Stamp) (ops : List Op) (commits : List Commit) (one : Stamp) → Contains (asked_stamps stamp (lasts_of ops commits)) one → Contains (stamps_kept commits) one
asked_is_kept stamp ops commits one h =
    let last = of_last ops commits one (asked_of_last stamp ops commits one h) in
    let found = find_has (names_vertex last.vertex) (reverse commits) last.commit last.is_last in
    let among = any_has (λ other. same_name other last.vertex) (named_by last.commit.ops) found.1 in
    let mentioned : Contains (flat_map named_by_op last.commit.ops) last.vertex = subst (λ v. Contains (flat_map named_by_op last.commit.ops) v) (one_name among.0 last.vertex among.2) (mention_has _ among.0 among.1) in
    let op = flat_has named_by_op last.commit.ops last.vertex mentioned in
    let all : List Op = flat_map (λ (commit : Commit). commit.ops) commits in
    let there : Contains all op.0 = has_flat (λ (commit : Commit). commit.ops) commits last.commit op.0 (reverse_has commits last.commit found.0) op.1 in
    let named : Contains (named_by all) last.vertex = has_mention (flat_map named_by_op all) last.vertex (has_flat named_by_op all op.0 last.vertex there op.2) in
    let kept = last-there all commits last.vertex last.commit named last.is_last in
    subst (λ s. Contains (stamps_kept commits) s) last.is (has_map (λ (l : LastCommit). l.commit.stamp) (lasts_of all commits) (record { vertex = last.vertex; commit = last.commit }) kept)

commit_stamp : (author : ℕ) (deed : StoreDeed) (commit : Commit) → Contains (commit_by deed) commit → commit.stamp ≡ (judged_by author deed).stamp
commit_stamp author (Judged request stamp ops asked (Committed number answers counts)) commit h = elim (has_read _ [] commit h) [ inl same ↦ ap (λ (c : Commit). c.stamp) (sym same) | inr none ↦ absurd (has_none commit none) ]
commit_stamp author (Judged request stamp ops asked (Conflict vertex newer)) commit h = absurd (has_none commit h)
commit_stamp author (Judged request stamp ops asked (Refused op reason at)) commit h = absurd (has_none commit h)

last_is_judged : (ops : List Op) (log : List StoreEntry) (one : Stamp) → Contains (map (λ (last : LastCommit). last.commit.stamp) (lasts_of ops (commits_of log))) one → Contains (stamps_judged log) one
last_is_judged ops log one h =
    let last = of_last ops (commits_of log) one h in
    let found = find_has (names_vertex last.vertex) (reverse (commits_of log)) last.commit last.is_last in
    let entry = flat_has (λ (e : StoreEntry). commit_by e.deed) log last.commit (reverse_has (commits_of log) last.commit found.0) in
    let stamp_is = commit_stamp entry.0.author entry.0.deed last.commit entry.2 in
    subst (λ s. Contains (stamps_judged log) s) (sym stamp_is ∙ last.is)
    (has_map (λ (judged : Judgement). judged.stamp) (judgements_of log) (judged_by entry.0.author entry.0.deed) (has_map (λ (e : StoreEntry). judged_by e.author e.deed) log entry.0 entry.1))

-- what is kept was judged
pub kept_is_judged : (log : List StoreEntry) (one : Stamp) → Contains (stamps_kept (commits_of log)) one → Contains (stamps_judged log) one
kept_is_judged log one h = last_is_judged (flat_map (λ (commit : Commit). commit.ops) (commits_of log)) log one h

-- what is asked was judged
pub asked_is_judged : (stamp : Stamp) (ops : List Op) (log : List StoreEntry) (one : Stamp) → Contains (asked_stamps stamp (lasts_of ops (commits_of log))) one → Contains (stamps_judged log) one
asked_is_judged stamp ops log one h = last_is_judged ops log one (asked_of_last stamp ops (commits_of log) one h)

-- so it has another id than the new stamp
pub asked_others : (stamp : Stamp) (ops : List Op) (log : List StoreEntry) → All (λ (judged : Stamp). id_of judged ≢ id_of stamp) (stamps_judged log) → All (λ event. id_of event ≢ id_of stamp) (asked_stamps stamp (lasts_of ops (commits_of log)))
asked_others stamp ops log others =
    all_members (λ event. id_of event ≢ id_of stamp) (asked_stamps stamp (lasts_of ops (commits_of log)))
    (λ one h. All-contains (λ (judged : Stamp). id_of judged ≢ id_of stamp) (stamps_judged log) one others (asked_is_judged stamp ops log one h))

-- the new stamp, what is asked and what is known are among the new stamp, what is kept and what is known
pub asked_among : (stamp : Stamp) (ops : List Op) (commits : List Commit) (known : List Stamp) (one : Stamp) → Contains (stamp ∷ asked_stamps stamp (lasts_of ops commits) ++ known) one → Contains (stamp ∷ stamps_kept commits ++ known) one
asked_among stamp ops commits known one h =
    elim (has_read stamp (asked_stamps stamp (lasts_of ops commits) ++ known) one h) [
      | inl same ↦ subst (λ s. Contains (stamp ∷ stamps_kept commits ++ known) s) same (has_head stamp (stamps_kept commits ++ known))
      | inr more ↦ has_tail stamp (stamps_kept commits ++ known) one (elim (Contains-append_cases (asked_stamps stamp (lasts_of ops commits)) known one more) [
        | inl asked ↦ Contains-append_left (stamps_kept commits) known one (asked_is_kept stamp ops commits one asked)
        | inr knows ↦ Contains-append_right (stamps_kept commits) known one knows
      ])
    ]
