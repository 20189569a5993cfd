-- How many vertices a program can still read: at most one, and one for each link of the script. So each visit leaves
-- one
-- less.
-- Used by `programs_read_few`.
use Rattle.std.proofs.Common.{◌≡◌, ◌≢◌, ℕ, ◌≤◌, Bool, true, false, not, cond, ◌==◌, List, [], ◌∷◌, ◌++◌, take, length, Contains, AllPairs, IsTrue, Option, Some, None, inl, inr, refl, sym, ap, subst, ◌∙◌, arith}
use Rattle.std.specs.Prelude.{IsSomeAnd, count_by, is_some, option_to_list}
use Rattle.std.specs.List.{filter, flat_map}
use Rattle.std.specs.Map.{keys_of}
use Rattle.std.proofs.lemmas.List.{get_or_default, length-append, length-map}
use Rattle.std.proofs.lemmas.List.Elements.{Contains-append_cases, Contains-append_left, Contains-append_right}
use Rattle.weave_data.proofs.Ends.{by_last, count_push, flat_push}
use Rattle.weave_data.proofs.Images.{get-has}
use Rattle.weave_data.proofs.Members.{cut_at, filter_has, find_has, flat_has, has_flat, has_head, has_map, has_none, has_read, has_tail, map_has, only, take_has}
use Rattle.weave_data.proofs.Ordered.{pairs_cons, pairs_head, pairs_none, pairs_tail}
use Rattle.weave_data.specs.Names.{same_name, shard_of}
use Rattle.weave_data.specs.declared.name.Name.{Name}
use Rattle.graph_ops.specs.Mentions.{is_among}
use Rattle.graph_ops.specs.Operations.{State, target_of}
use Rattle.graph_ops.specs.declared.op.Op.{Op}
use Rattle.program_defs.specs.declared.program.Program.{Program}
use Rattle.program_defs.specs.declared.script.Request.{Request}
use Rattle.program_defs.specs.declared.script.Script.{Script}
use Rattle.program_defs.specs.declared.script.Work.{Work}
use Rattle.program_defs.specs.declared.script.Work.TheVariants.{Change, Look}
use Rattle.program_defs.specs.Visits.{graph_read, next_visit, visits_to}
use Rattle.program_defs.specs.Works.{ops_of}
use Rattle.report_rules.specs.Lookups.{request_at}
use Rattle.weave_entries.specs.declared.shard_log.ShardEntry.{ShardEntry}
use Rattle.weave_entries.specs.declared.shard_log.ShardDeed.{ShardDeed}
use Rattle.weave_entries.specs.declared.shard_log.ShardDeed.TheVariants.{Arrived, Applied, Visited, Collected}
use Rattle.weave_entries.specs.declared.store_log.StoreEntry.{StoreEntry}
use Rattle.weave_entries.specs.declared.store_log.StoreDeed.{StoreDeed}
use Rattle.weave_entries.specs.declared.store_log.StoreDeed.TheVariants.{Judged}
use Rattle.weave_entries.specs.declared.verdict.Verdict.TheVariants.{Committed, Conflict, Refused}
use Rattle.weave_entries.specs.ShardReplay.{Update, Visit, reads_in, state_of_updates, updates_of, visit_by, visits_of}
use Rattle.weave_entries.specs.StoreReplay.{Commit, commit_by, commits_naming, judged_by, judgements_of, names_vertex}
use Rattle.weave_account.specs.declared.account.Account.{Account}
use Rattle.weave_account.specs.Account.{commits_in, reads_of, shard_log}
use Rattle.weave_account.specs.Shards.{ShardFitsAs, update_of}
use Rattle.drive_rules.specs.Links.{is_link, link_count, ops_of_script}
use Rattle.drive_rules.specs.LowerLaws.{LawsForReadiness}
use Rattle.drive_rules.proofs.NamedParts.{among-from}
use Rattle.drive_rules.proofs.Visitable.{LeadsIn, start_of, target_by, updates-lead, visits-in}
use Rattle.weave_account.proofs.Basis.{BasisWith}

-- Lists

-- a list of different elements is no longer than one that has them all
no-longer : {A : Type 0} (xs ys : List A) → AllPairs (λ a b. a ≢ b) xs → ((x : A) → Contains xs x → Contains ys x) → length xs ≤ length ys
no-longer [] ys differ among = omega arith
no-longer (x ∷ xs) ys differ among =
    let cut = cut_at ys x (among x (has_head x xs)) in
    let rest = no-longer xs (cut.before ++ cut.after) (pairs_tail (λ a b. a ≢ b) x xs differ) (λ y h. elim (Contains-append_cases cut.before (x ∷ cut.after) y (subst (λ l. Contains l y) cut.is (among y (has_tail x xs y h)))) [
      | inl front ↦ Contains-append_left cut.before cut.after y front
      | inr back ↦ elim (has_read x cut.after y back) [
        | inl same ↦ absurd (pairs_head (λ a b. a ≢ b) x xs y differ h same)
        | inr later ↦ Contains-append_right cut.before cut.after y later
      ]
    ]) in
    let long = ap length cut.is in
    let whole = length-append cut.before (x ∷ cut.after) in
    let less = length-append cut.before cut.after in
    omega (arith, rest, long, whole, less)

-- keys differ if no two pairs have the same key
keys-differ : (reads : List (Name × State)) → AllPairs (λ (a b : Name × State). a.0 ≢ b.0) reads → AllPairs (λ (a b : Name). a ≢ b) (keys_of reads)
keys-differ [] pairs = pairs_none (λ (a b : Name). a ≢ b)
keys-differ (read ∷ reads) pairs =
    pairs_cons (λ (a b : Name). a ≢ b) read.0 (keys_of reads)
    (λ k h. (let from = map_has (λ (read : Name × State). read.0) reads k h in subst (λ n. read.0 ≢ n) from.2 (pairs_head (λ (a b : Name × State). a.0 ≢ b.0) read reads from.0 pairs from.1)))
    (keys-differ reads (pairs_tail (λ (a b : Name × State). a.0 ≢ b.0) read reads pairs))

-- The script's links

-- their targets
abbrev targets_in : Script → List Name
targets_in script = flat_map target_by (ops_of_script script)

one-target : (op : Op) → length (target_by op) ≡ cond {A = ℕ} (is_link op) 1 0
one-target op = at (target_of op)
  where
    at : (o : Option Name) → length (option_to_list o) ≡ cond {A = ℕ} (is_some o) 1 0
    at None = refl
    at (Some target) = refl

targets-many : (ops : List Op) → length (flat_map target_by ops) ≡ count_by is_link ops
targets-many =
    by_last (λ ops. length (flat_map target_by ops) ≡ count_by is_link ops) refl
    (λ ops op so-far.
    let long = ap length (flat_push target_by ops op) ∙ length-append (flat_map target_by ops) (target_by op) in
    let count = count_push is_link ops op in
    let one = one-target op in
    omega (arith, so-far, long, count, one))

-- What was read

module _ (script : Script) (account : Account) (basis : BasisWith LawsForReadiness script account) where
  -- the operations of a commit are the script's
  commit-ops : (commit : Commit) → Contains (commits_in account) commit → (op : Op) → Contains commit.ops op → Contains (ops_of_script script) op
  commit-ops commit h op k =
      let from = flat_has (λ (e : StoreEntry). commit_by e.deed) account.store commit h in
      by-entry from.0.author from.0.deed (has_map (λ (e : StoreEntry). judged_by e.author e.deed) account.store from.0 from.1) from.2
    where
      at : (r : ℕ) (ops : List Op) → Contains ops op → (o : Option Request) → request_at script r ≡ o → IsSomeAnd o (λ (request : Request). request.work ≡ Change ops) → Contains (ops_of_script script) op
      at r ops k None e work = absurd work
      at r ops k (Some request) e work =
          has_flat (λ (request : Request). ops_of request.work) script.requests request op (get-has script.requests r request e)
          (subst (λ (w : Work). Contains (ops_of w) op) (sym work) k)

      by-entry : (author : ℕ) (deed : StoreDeed) → Contains (judgements_of account.store) (judged_by author deed) → Contains (commit_by deed) commit → Contains (ops_of_script script) op
      by-entry author (Judged r stamp ops asked (Committed number answers counts)) judged c =
          at r ops (subst (λ (m : Commit). Contains m.ops op) (sym (only _ commit c)) k) (request_at script r) refl (basis.laws.accounts.judged_work script account basis.limits basis.is _ judged)
      by-entry author (Judged r stamp ops asked (Conflict v newer)) judged c = absurd (has_none commit c)
      by-entry author (Judged r stamp ops asked (Refused place reason count)) judged c = absurd (has_none commit c)

  -- and so are those of an update
  update-ops : (v : Name) (update : Update) → Contains (updates_of v (shard_log account (shard_of v script.shards))) update → (op : Op) → Contains update.ops op → Contains (ops_of_script script) op
  update-ops v update h op k =
      let are = basis.laws.accounts.updates script account basis.limits basis.is v in
      let from = map_has (update_of v) _ update (subst (λ us. Contains us update) are h) in
      let commit = filter_has (names_vertex v) (commits_in account) from.0 (take_has _ (commits_naming v (commits_in account)) from.0 from.1) in
      let in-commit = filter_has _ from.0.ops op (subst (λ (u : Update). Contains u.ops op) (sym from.2) k) in
      commit-ops from.0 commit.0 op in-commit.0

  -- a visit is of a vertex of its shard
  visit-here : (shard : ℕ) (before : List ShardEntry) (author : ℕ) (deed : ShardDeed) → ShardFitsAs script account shard before deed → (visit : Visit) → Contains (visit_by author deed) visit → shard_of visit.vertex script.shards ≡ shard
  visit-here shard before author (Visited r stamp v n settled) fits visit h = subst (λ (k : Visit). shard_of k.vertex script.shards ≡ shard) (only _ visit h) fits.kept_here
  visit-here shard before author (Arrived home number message) fits visit h = absurd (has_none visit h)
  visit-here shard before author (Applied home number) fits visit h = absurd (has_none visit h)
  visit-here shard before author (Collected bound) fits visit h = absurd (has_none visit h)

  module _ (r : ℕ) (request : Request) (program : Program) (request-is : request_at script r ≡ Some request) (work-is : request.work ≡ Look program) where
    -- the vertices that it can visit
    abbrev visitable : List Name
    visitable = start_of program ∷ targets_in script

    target-visitable : (op : Op) → Contains (ops_of_script script) op → (w : Name) → Contains (target_by op) w → Contains visitable w
    target-visitable op h w t = has_tail (start_of program) (targets_in script) w (has_flat target_by (ops_of_script script) op w h t)

    -- each state read leads to them
    read-leads : (read : Name × State) → Contains (reads_of account r) read → LeadsIn visitable read.1
    read-leads read h =
        let from = flat_has (reads_in r) account.shards read h in
        let shard = from.1.0 in
        let log-is : shard_log account shard ≡ from.0 = get_or_default account.shards shard [] from.0 from.1.1 ∙ from.1.2 in
        let image = map_has {B = Name × State} (λ (visit : Visit). (visit.vertex, state_of_updates (take visit.updates (updates_of visit.vertex from.0)))) (filter (λ (visit : Visit). visit.request == r) (visits_of from.0)) read from.2 in
        let visit = filter_has (λ (visit : Visit). visit.request == r) (visits_of from.0) image.0 image.1 in
        let entry = flat_has (λ (e : ShardEntry). visit_by e.author e.deed) from.0 image.0 visit.0 in
        let place = cut_at (shard_log account shard) entry.0 (subst (λ l. Contains l entry.0) (sym log-is) entry.1) in
        let here : shard_of image.0.vertex script.shards ≡ shard = visit-here shard place.before entry.0.author entry.0.deed (basis.is.shards.deeds shard place.before entry.0 place.after place.is) image.0 entry.2 in
        subst (λ (k : Name × State). LeadsIn visitable k.1) image.2
        (updates-lead visitable (take image.0.updates (updates_of image.0.vertex from.0))
        (λ update u op o. target-visitable op (update-ops image.0.vertex update (subst (λ l. Contains (updates_of image.0.vertex l) update) (sym log-is ∙ ap (shard_log account) (sym here)) (take_has _ (updates_of image.0.vertex from.0) update u)) op o)))

    graph-leads : (reads : List (Name × State)) → ((read : Name × State) → Contains reads read → LeadsIn visitable read.1) → (v : Name) → LeadsIn visitable (graph_read reads v)
    graph-leads [] each v = tt
    graph-leads (read ∷ reads) each v = at (same_name read.0 v) (graph-leads reads (λ k h. each k (has_tail read reads k h)) v)
      where
        at : (b : Bool) → LeadsIn visitable (graph_read reads v) → LeadsIn visitable (cond b read.1 (graph_read reads v))
        at true more = each read (has_head read reads)
        at false more = more

    -- what it visits next is among them, and so is what it has read
    visit-visitable : (v : Name) → Contains (visits_to (length (reads_of account r)) (graph_read (reads_of account r)) program) v → Contains visitable v
    visit-visitable v h =
        visits-in visitable (graph_read (reads_of account r)) (graph-leads (reads_of account r) read-leads) program (has_head (start_of program) (targets_in script)) (length (reads_of account r)) v h

    read-visitable : (v : Name) → Contains (keys_of (reads_of account r)) v → Contains visitable v
    read-visitable v h =
        let reads = reads_of account r in
        let visits = visits_to (length reads) (graph_read reads) program in
        let turn = basis.is.programs r request program request-is work-is in
        visit-visitable v (take_has (length reads) visits v ((basis.laws.among (take (length reads) visits) v).0 ((turn.first_ones v).0 (among-from (keys_of reads) v h))))

    -- if there is a next vertex, fewer were read than can be
    pub visits-left : (v : Name) → next_visit (reads_of account r) program ≡ Some v → length (reads_of account r) ≤ link_count script
    visits-left v e =
        let reads = reads_of account r in
        let found = find_has (λ v. not (is_among (keys_of reads) v)) (visits_to (length reads) (graph_read reads) program) v e in
        let turn = basis.is.programs r request program request-is work-is in
        let long = no-longer (v ∷ keys_of reads) visitable (pairs_cons (λ (a b : Name). a ≢ b) v (keys_of reads) (λ k h same. clash (is_among (keys_of reads) v) found.1 (subst (λ n. IsTrue (is_among (keys_of reads) n)) (sym same) (among-from (keys_of reads) k h))) (keys-differ reads turn.once)) (λ n h. elim (has_read v (keys_of reads) n h) [
          | inl same ↦ subst (λ k. Contains visitable k) same (visit-visitable v found.0)
          | inr read ↦ read-visitable n read
        ]) in
        let keys : length (keys_of reads) ≡ length reads = length-map reads (λ (read : Name × State). read.0) in
        let many = targets-many (ops_of_script script) in
        omega (arith, long, keys, many)
      where
        clash : (b : Bool) → IsTrue (not b) → IsTrue b → ⊥
        clash true h g = cc
        clash false h g = cc
