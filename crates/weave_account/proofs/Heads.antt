-- A head whose counts agree passes on the newest states of its vertices. It rests on the clauses on channels, store and
-- shards, on what a hand can have seen, and on "the updates applied are the first commits".
-- Used by `accounts_were_seen`, `collections_leave_what_programs_see`, `heads_pass`, `messages_can_be_taken`,
-- `updates_are_commits`, BegunElsewhere, Collecting and KnownClocks.
use Rattle.std.proofs.Common.{◌≡◌, ℕ, true, false, cond, List, [], ◌∷◌, ◌++◌, map, take, length, Contains, IsTrue, Some, None, inl, inr, refl, sym, ap, subst, ◌∙◌, arith}
use Rattle.std.specs.Prelude.{Ok, is_ok}
use Rattle.std.proofs.lemmas.List.{append-nil, map-append, take-append-le, take_all}
use Rattle.std.proofs.lemmas.List.Elements.{All-from_recursion, filter-append}
use Rattle.std.proofs.lemmas.List.Sums.{fold-append}
use Rattle.std.specs.List.{filter}
use Rattle.std.proofs.lemmas.Bool.{cases_Bool, eqb-true}
use Rattle.weave_data.proofs.Ends.{by_last}
use Rattle.weave_data.proofs.Entries.{each_before, each_last}
use Rattle.weave_data.proofs.Members.{has_none, has_head, has_read, has_filter, filter_has}
use Rattle.weave_data.specs.Names.{same_name, shard_of}
use Rattle.weave_data.specs.declared.name.Name.{Name}
use Rattle.graph_ops.specs.Operations.{State}
use Rattle.graph_ops.specs.PlainGraph.{PlainGraph, TxOutcome, empty_graph, graph_left, transaction}
use Rattle.graph_ops.specs.VertexOps.{ops_on, none_refused, state_after_ops}
use Rattle.graph_ops.specs.declared.tx.Got.{Got}
use Rattle.graph_ops.specs.declared.op.Op.{Op}
use Rattle.graph_ops.specs.declared.part.Part.{Part}
use Rattle.graph_ops.proofs.Vertices.{same_name-refl}
use Rattle.program_defs.specs.declared.script.Script.{Script}
use Rattle.weave_entries.specs.declared.gate_log.GateEntry.{GateEntry}
use Rattle.weave_entries.specs.declared.message.Addressed.{Addressed}
use Rattle.weave_entries.specs.declared.message.Message.{Message}
use Rattle.weave_entries.specs.declared.shard_log.ShardEntry.{ShardEntry}
use Rattle.weave_entries.specs.declared.shard_log.ShardDeed.{ShardDeed}
use Rattle.weave_entries.specs.declared.shard_log.ShardDeed.TheVariants.{Arrived, Applied, Visited, Collected}
use Rattle.weave_entries.specs.declared.store_log.StoreEntry.{StoreEntry}
use Rattle.weave_entries.specs.declared.verdict.Verdict.{Verdict}
use Rattle.weave_entries.specs.declared.verdict.Verdict.TheVariants.{Committed, Conflict, Refused}
use Rattle.weave_entries.specs.GateReplay.{BegunRequest, addressed_to}
use Rattle.weave_entries.specs.Logs.{AtEachEntry}
use Rattle.weave_entries.specs.Sending.{is_kept_at, part_for, message_to, messages_of, shards_named}
use Rattle.weave_entries.specs.ShardReplay.{Update, arrivals_of, arrived_at, processed_of, updates_of, waits_at, state_of_updates}
use Rattle.weave_entries.specs.StoreReplay.{Commit, commit_by, judged_by, commits_of, commits_naming, graph_committed, graph_with_commit, names_vertex as names}
use Rattle.weave_entries.specs.declared.store_log.StoreDeed.{StoreDeed}
use Rattle.weave_entries.specs.declared.store_log.StoreDeed.TheVariants.{Judged}
use Rattle.weave_account.specs.declared.account.Account.{Account}
use Rattle.weave_account.specs.Account.{gate_log}
use Rattle.weave_account.specs.Shards.{AreShardDeeds, ShardFitsAs, update_of}
use Rattle.weave_entries.specs.ShardRules.{PassesAt}
use Rattle.weave_data.proofs.Images.{map-has}
use Rattle.weave_data.proofs.ListPlaces.{all-from}
use Rattle.weave_account.proofs.Basis.{Basis}
use Rattle.weave_account.proofs.Listed.{verdict-commits}
use Rattle.weave_account.proofs.Applying.{go-on, Shows, Takes, arrived-was-sent, naming-parts, shows, waits-none}
use Rattle.weave_account.proofs.Sent.{Brings, IsUpdateOf, commits-pass, made-brings, sent-made}
use Rattle.weave_account.specs.LowerLaws.{LawsForAccounts}
use Rattle.weave_account.specs.Seen.{HavePassed, HasSeen, IsMade, PassesAfter, PassesAs, TakesAs}
use Rattle.weave_account.proofs.Storing.{commit-of, commits-push}

module _ (shards : ℕ) (store : List StoreEntry) (shard : ℕ) where
  -- Each vertex of a message is kept in its shard

  sent-kept : (log : List GateEntry) (begun : BegunRequest) (ops : List Op) (verdict : Verdict) (a : Addressed) → a.shard ≡ shard
      → Contains (messages_of shards log begun ops verdict) a
      → (part : Part) → Contains a.message.parts part → shard_of part.vertex shards ≡ shard
  sent-kept log begun ops (Conflict v newer) a at h part k = absurd (has_none a h)
  sent-kept log begun ops (Refused op reason n) a at h part k = absurd (has_none a h)
  sent-kept log begun ops (Committed number answers counts) a at h part k =
      let image = map-has (message_to shards log begun ops counts) (shards_named shards counts) a h in
      let to : image.of ≡ shard = ap (λ (b : Addressed). b.shard) image.is ∙ at in
      let of-part =
      map-has (part_for ops) (filter (is_kept_at shards image.of) counts) part
      (subst (λ (b : Addressed). Contains b.message.parts part) (sym image.is) k) in
      let kept = (filter_has (is_kept_at shards image.of) counts of-part.of of-part.has).1 in
      ap (λ (p : Part). shard_of p.vertex shards) (sym of-part.is) ∙ eqb-true _ image.of kept ∙ to

  -- each vertex of a message that is made of a judgement is kept in its shard
  pub made-kept : (message : Message) → IsMade shards store shard message → (part : Part) → Contains message.parts part
      → shard_of part.vertex shards ≡ shard
  made-kept message (inl empty) part k = absurd (has_none part (subst (λ ps. Contains ps part) empty k))
  made-kept message (inr made) part k =
      sent-kept made.log made.begun (made.judged).ops (made.judged).verdict made.addressed made.shard_is made.sent part
      (subst (λ (m : Message). Contains m.parts part) (sym made.message_is) k)

-- each vertex of a message on a channel to the shard is kept there
pub parts-kept : (script : Script) (account : Account) (basis : Basis script account) (shard home : ℕ) (a : Addressed)
    → Contains (addressed_to shard (gate_log account home)) a → (part : Part) → Contains a.message.parts part
    → shard_of part.vertex script.shards ≡ shard
parts-kept script account basis shard home a h part k =
    made-kept script.shards account.store shard a.message (sent-made script account shard basis.is.channels home a h) part k

-- The graph that commits leave, at one vertex

module _ (laws : LawsForAccounts) (v : Name) where
  -- the state of the vertex in the graph that these commits leave is that after their updates
  abbrev IsAt : List Commit → Type 0
  IsAt commits = graph_committed commits v ≡ state_of_updates (map (update_of v) (commits_naming v commits))

  commit-more : (before : List Commit) (commit : Commit) (answers : List Got) (graph : PlainGraph)
      → transaction commit.ops (graph_committed before) ≡ Ok (record { graph = graph; gots = answers }) → IsAt before
      → IsAt (before ++ commit ∷ [])
  commit-more before commit answers graph passes so-far =
      let naming = commits_naming v before in
      let left : graph_committed (before ++ commit ∷ []) ≡ graph =
      fold-append graph_with_commit empty_graph before (commit ∷ []) ∙ ap (graph_left (graph_committed before)) passes in
      let at-v : graph_committed (before ++ commit ∷ []) v ≡ state_after_ops (ops_on v commit.ops) (graph_committed before v) =
      ap (λ (g : PlainGraph). g v) left ∙ laws.leaves commit.ops (graph_committed before) (record { graph = graph; gots = answers }) passes v in
      let cut : commits_naming v (before ++ commit ∷ []) ≡ naming ++ cond (names v commit) (commit ∷ []) [] =
      filter-append (names v) before (commit ∷ []) in
      elim (cases_Bool (names v commit)) [
        | inl named ↦
            at-v
            ∙ ap (state_after_ops (ops_on v commit.ops)) so-far
            ∙ sym (fold-append (λ (state : State) (update : Update). state_after_ops update.ops state) None (map (update_of v) naming) (update_of v commit ∷ []))
            ∙ ap state_of_updates (sym (map-append (update_of v) naming (commit ∷ [])))
            ∙ ap (λ cs. state_of_updates (map (update_of v) cs)) (sym (cut ∙ ap (λ b. naming ++ cond b (commit ∷ []) []) named))
        | inr other ↦
            at-v
            ∙ ap (λ os. state_after_ops os (graph_committed before v))
            (laws.unnamed commit.ops v (λ named. (let clash : true ≡ false = sym named ∙ other in cc)))
            ∙ so-far
            ∙ ap (λ cs. state_of_updates (map (update_of v) cs)) (sym (cut ∙ ap (λ b. naming ++ cond b (commit ∷ []) []) other ∙ append-nil naming))
      ]

  deed-more : (before : List Commit) (author : ℕ) (deed : StoreDeed)
      → PassesAs before (judged_by author deed).ops (judged_by author deed).verdict → IsAt before
      → IsAt (before ++ commit_by deed)
  deed-more before author (Judged r stamp ops asked (Committed number answers counts)) right so-far =
      commit-more before (record { request = r; stamp = stamp; ops = ops }) answers right.graph right.passes so-far
  deed-more before author (Judged r stamp ops asked (Conflict w newer)) right so-far = subst IsAt (sym (append-nil before)) so-far
  deed-more before author (Judged r stamp ops asked (Refused op reason at)) right so-far =
      subst IsAt (sym (append-nil before)) so-far

  abbrev Rule : List StoreEntry → StoreEntry → Type 0
  Rule before entry =
      PassesAs (commits_of before) (judged_by entry.author entry.deed).ops (judged_by entry.author entry.deed).verdict

  -- this holds after each log of the store
  graph-at : (log : List StoreEntry)
      → HavePassed log
      → IsAt (commits_of log)
  graph-at =
      by_last (λ log. AtEachEntry Rule log → IsAt (commits_of log))
      (λ each. refl)
      (λ log entry more each.
      subst IsAt (sym (commits-push log entry)) (deed-more (commits_of log) entry.author entry.deed (each_last Rule log entry each) (more (each_before Rule log (entry ∷ []) each))))

-- Its operations pass, by what was seen

module _ (laws : LawsForAccounts) (shards : ℕ) (store : List StoreEntry) (shard : ℕ) (log : List ShardEntry) (has : HasSeen shards store shard log) where
  abbrev WasMade : ℕ → ℕ → Message → Type 0
  WasMade home number m = IsMade shards store shard m

  deed-takes : (before : List ShardEntry) (deed : ShardDeed) → TakesAs shards store shard before deed → Takes WasMade before deed
  deed-takes before (Arrived home number message) fits = fits
  deed-takes before (Applied home number) fits = fits
  deed-takes before (Visited r stamp w n settled) fits = tt
  deed-takes before (Collected bound) fits = tt

  takes : AtEachEntry (λ before (entry : ShardEntry). Takes WasMade before entry.deed) log
  takes before entry after is = deed-takes before entry.deed (has.takes before entry after is)

  brings-of : (v : Name) → shard_of v shards ≡ shard → (home number : ℕ) (m : Message) → WasMade home number m → Brings store v m
  brings-of v here home number m made = made-brings laws shards store has.passes shard v here m made

  seen-shows : (v : Name) (here : shard_of v shards ≡ shard)
      → Shows store v WasMade (brings-of v here) (arrivals_of log) (processed_of log)
  seen-shows v here = shows store v WasMade (brings-of v here) log takes

  -- the updates applied to a vertex are the first commits seen that name it
  pub seen-updates : (v : Name) → shard_of v shards ≡ shard
      → updates_of v log ≡ map (update_of v) (take (length (updates_of v log)) (commits_naming v (commits_of store)))
  seen-updates v here = (seen-shows v here).are

  -- the updates of a longer log begin with those of this one
  pub seen-go-on : (v : Name) → shard_of v shards ≡ shard → (more : List ShardEntry)
      → (rest : List Update) × (updates_of v (log ++ more) ≡ updates_of v log ++ rest)
  seen-go-on v here more = go-on store v WasMade (brings-of v here) log more takes

  -- the newest state of a vertex, when an update is the next one, is that in the graph of the commits before it
  newest-state : (v : Name) (here : shard_of v shards ≡ shard) (m : Message) (update : IsUpdateOf store v m)
      → length (commits_naming v (commits_of update.before)) ≡ length (updates_of v log)
      → state_of_updates (updates_of v log) ≡ graph_committed (commits_of update.before) v
  newest-state v here m update count =
      let first = commits_naming v (commits_of update.before) in
      let shown = seen-shows v here in
      let updates : updates_of v log ≡ map (update_of v) first =
      shown.are ∙ ap (λ k. map (update_of v) (take k (commits_naming v (commits_of store)))) (sym count)
      ∙ ap (λ cs. map (update_of v) (take (length first) cs)) (naming-parts store v WasMade (brings-of v here) m update)
      ∙ ap (map (update_of v)) (take-append-le (length first) first (update.commit ∷ commits_naming v (commits_of update.after)) (omega arith) ∙ take_all (length first) first (omega arith)) in
      let passed : HavePassed update.before =
      each_before _ update.before (update.entry ∷ update.after) (subst HavePassed update.is has.passes) in
      ap state_of_updates updates ∙ sym (graph-at laws v update.before passed)

  -- the commit of an update passes on the graph of the commits before it
  commit-passes : (v : Name) (m : Message) (update : IsUpdateOf store v m)
      → IsTrue (is_ok (transaction (update.commit).ops (graph_committed (commits_of update.before))))
  commit-passes v m update =
      let of =
      commit-of (update.entry).author (update.entry).deed update.commit
      (subst (λ cs. Contains cs update.commit) (sym update.commit_is) (has_head update.commit [])) in
      let judged = judged_by (update.entry).author (update.entry).deed in
      let passed = verdict-commits judged.verdict of.verdict in
      let right : PassesAfter (commits_of update.before) judged.ops passed.1 passed.2 =
      subst (PassesAs (commits_of update.before) judged.ops) passed.3 (has.passes update.before update.entry update.after update.is) in
      subst (λ (o : TxOutcome). IsTrue (is_ok o))
      (sym (ap (λ ops. transaction ops (graph_committed (commits_of update.before))) (sym of.ops) ∙ right.passes)) refl

  by-update : (v : Name) (here : shard_of v shards ≡ shard) (m : Message) (part : Part) (update : IsUpdateOf store v m)
      → part.before ≡ length (updates_of v log) → Contains (filter (λ (p : Part). same_name p.vertex v) m.parts) part
      → IsTrue (none_refused part.ops (state_of_updates (updates_of v log)))
  by-update v here m part update turn there =
      let the : Part = record { vertex = v; before = length (commits_naming v (commits_of update.before)); ops = ops_on v (update.commit).ops } in
      let is : the ≡ part =
      elim (has_read the [] part (subst (λ ps. Contains ps part) update.parts_are there)) [ inl one ↦ one | inr none ↦ absurd (has_none part none) ] in
      let count : length (commits_naming v (commits_of update.before)) ≡ length (updates_of v log) = ap (λ (p : Part). p.before) is ∙ turn in
      subst (λ s. IsTrue (none_refused part.ops s)) (sym (newest-state v here m update count))
      (subst (λ (p : Part). IsTrue (none_refused p.ops (graph_committed (commits_of update.before) v))) is
      (laws.passes (update.commit).ops (graph_committed (commits_of update.before)) (commit-passes v m update) v))

  -- each part of a message that has arrived passes, if its count is the number of updates applied
  head-passes : (home n : ℕ) (m : Message) → arrived_at home n log ≡ Some m → waits_at m log ≡ None → (part : Part)
      → Contains m.parts part → IsTrue (none_refused part.ops (state_of_updates (updates_of part.vertex log)))
  head-passes home n m arrived waits part h =
      let v = part.vertex in
      let made = arrived-was-sent WasMade log takes home n m arrived in
      let here = made-kept shards store shard m made part h in
      let in-filter : Contains (filter (λ (p : Part). same_name p.vertex v) m.parts) part =
      has_filter (λ (p : Part). same_name p.vertex v) m.parts part h (same_name-refl v) in
      elim (made-brings laws shards store has.passes shard v here m made) [
        | inl none ↦ absurd (has_none part (subst (λ ps. Contains ps part) none in-filter))
        | inr update ↦ by-update v here m part update (waits-none store v WasMade (brings-of v here) m log waits part h (same_name-refl v)) in-filter
      ]

  -- a message that has arrived passes as a whole, if it waits for no update
  pub head-passes-at : (home n : ℕ) (m : Message) → arrived_at home n log ≡ Some m → waits_at m log ≡ None → PassesAt log m
  head-passes-at home n m arrived waits =
      All-from_recursion (λ (part : Part). IsTrue (none_refused part.ops (state_of_updates (updates_of part.vertex log)))) m.parts
      (all-from (λ (part : Part). IsTrue (none_refused part.ops (state_of_updates (updates_of part.vertex log)))) m.parts
      (λ part h. head-passes home n m arrived waits part h))

  -- the vertex of each part of a message that has arrived is kept at the shard
  pub head-kept : (home n : ℕ) (m : Message) → arrived_at home n log ≡ Some m → (part : Part) → Contains m.parts part
      → shard_of part.vertex shards ≡ shard
  head-kept home n m arrived part h = made-kept shards store shard m (arrived-was-sent WasMade log takes home n m arrived) part h

-- In an account

module _ (script : Script) (account : Account) (basis : Basis script account) (shard : ℕ) (log : List ShardEntry) (each : AreShardDeeds script account shard log) where
  deed-made : (before : List ShardEntry) (deed : ShardDeed) → ShardFitsAs script account shard before deed
      → TakesAs script.shards account.store shard before deed
  deed-made before (Arrived home number message) fits = sent-made script account shard basis.is.channels home _ fits.sent
  deed-made before (Applied home number) fits = fits
  deed-made before (Visited r stamp w n settled) fits = tt
  deed-made before (Collected bound) fits = tt

  -- an account has what the laws on heads need
  pub account-seen : HasSeen script.shards account.store shard log
  account-seen =
      record { passes = commits-pass script account basis; takes = λ before entry after is. deed-made before entry.deed (each before entry after is) }

  -- what has arrived was sent
  deed-sent : (before : List ShardEntry) (deed : ShardDeed) → ShardFitsAs script account shard before deed
      → Takes (λ home number m. Contains (addressed_to shard (gate_log account home)) (record { shard = shard; number = number; message = m })) before deed
  deed-sent before (Arrived home number message) fits = fits.sent
  deed-sent before (Applied home number) fits = fits
  deed-sent before (Visited r stamp w n settled) fits = tt
  deed-sent before (Collected bound) fits = tt

  -- each message that arrived was sent
  pub arrived-sent : (home n : ℕ) (m : Message) → arrived_at home n log ≡ Some m
      → Contains (addressed_to shard (gate_log account home)) (record { shard = shard; number = n; message = m })
  arrived-sent home n m e =
      arrived-was-sent
      (λ home number m. Contains (addressed_to shard (gate_log account home)) (record { shard = shard; number = number; message = m })) log
      (λ before entry after is. deed-sent before entry.deed (each before entry after is)) home n m e
