-- The chain of a vertex whose updates are given: with one more update, and with those of a message.
-- Used by `visit`, Collecting, Keeping and Ready.
use Rattle.std.proofs.Common.{◌≡◌, ℕ, zero, suc, ◌+◌, ◌-◌, ◌≤◌, false, List, [], ◌∷◌, ◌++◌, map, take, drop, length, filter, slice_get, IsTrue, Option, None, Some, inl, inr, refl, sym, ap, subst, ◌∙◌, arith}
use Rattle.std.specs.Prelude.{◌==◌, fold, not, if◌then◌else◌}
use Rattle.std.specs.List.{list_any}
use Rattle.std.specs.Option.{IsSomeAnd}
use Rattle.std.proofs.lemmas.Bool.{cases_Bool, cases_lt, ne_eqb, or_left}
use Rattle.std.proofs.lemmas.List.{append_assoc, append-nil, length-append, length-map, length-drop, take-append-drop, drop-append-le}
use Rattle.std.proofs.lemmas.List.Sums.{fold-append}
use Rattle.weave_data.specs.declared.name.Name.{Name}
use Rattle.weave_data.specs.Names.{same_name}
use Rattle.graph_ops.specs.declared.part.Part.{Part}
use Rattle.graph_ops.specs.Operations.{State}
use Rattle.graph_ops.specs.VertexOps.{state_after_ops}
use Rattle.vector_stamp.specs.declared.clock.Stamp.{Stamp}
use Rattle.vector_stamp.specs.Order.{stamp_before}
use Rattle.vector_stamp.specs.Precedence.{GivenPair, precedes}
use Rattle.vector_stamp.specs.Seeing.{is_seen, seen_of, last_seen}
use Rattle.vector_stamp.specs.Settling.{additions_from, places_of, pairs_of, entries_of_call}
use Rattle.version_chain.specs.declared.version.Version.{Version}
use Rattle.version_chain.specs.Chains.{ChainView, update_count, stamps_of_versions, newest_state, with_update}
use Rattle.version_chain.specs.Views.{view_of, put_before, entries_for, ReachesBack}
use Rattle.version_graph.specs.Graphs.{chain_or_new, after_parts}
use Rattle.weave_entries.specs.ShardReplay.{Update, updates_of, state_of_updates}
use Rattle.weave_entries.specs.declared.shard_log.ShardEntry.{ShardEntry}
use Rattle.weave_entries.specs.ShardRules.{dropped_of, kept_stamps, updates_read, is_settled_by, last_read, entries_of_visit, pairs_after_visit, IsKeptFor}
use Rattle.shard_node.specs.Keeping.{versions_from, chain_in}

-- the chain of these updates, of which that many of the oldest versions were dropped; none if there is no update
abbrev pub chain_from : ℕ → List Update → Option ChainView
chain_from dropped updates = if length updates == 0 then None else Some (record { dropped = dropped; kept = drop dropped (versions_from None updates) })

versions-push : (state : State) (updates : List Update) (last : Update) → versions_from state (updates ++ last ∷ []) ≡ versions_from state updates ++ record { stamp = last.stamp; state = state_after_ops last.ops (fold (λ (before : State) (version : Version). version.state) state (versions_from state updates)) } ∷ []
versions-push state [] last = refl
versions-push state (update ∷ updates) last =
    ap (λ (versions : List Version). record { stamp = update.stamp; state = state_after_ops update.ops state } ∷ versions) (versions-push (state_after_ops update.ops state) updates last)

newest-is : (state : State) (updates : List Update) → fold (λ (before : State) (version : Version). version.state) state (versions_from state updates) ≡ fold (λ before (update : Update). state_after_ops update.ops before) state updates
newest-is state [] = refl
newest-is state (update ∷ updates) = newest-is (state_after_ops update.ops state) updates

-- updates make as many versions
pub length-versions : (state : State) (updates : List Update) → length (versions_from state updates) ≡ length updates
length-versions state [] = refl
length-versions state (update ∷ updates) = let rest = length-versions (state_after_ops update.ops state) updates in omega (arith, rest)

-- the versions that updates make have the stamps of the updates
pub stamps-are : (state : State) (updates : List Update) → stamps_of_versions (versions_from state updates) ≡ map (λ (update : Update). update.stamp) updates
stamps-are state [] = refl
stamps-are state (update ∷ updates) = ap (λ (stamps : List Stamp). update.stamp ∷ stamps) (stamps-are (state_after_ops update.ops state) updates)

-- what is dropped of versions is what is dropped of their updates
versions-drop : (state : State) (updates : List Update) (n : ℕ) → drop n (versions_from state updates) ≡ versions_from (fold (λ before (update : Update). state_after_ops update.ops before) state (take n updates)) (drop n updates)
versions-drop state updates zero = refl
versions-drop state [] (suc n) = refl
versions-drop state (update ∷ updates) (suc n) = versions-drop (state_after_ops update.ops state) updates n

-- the newest of some versions, whatever was before them
newest-some : (state : State) (updates : List Update) → 1 ≤ length updates → newest_state (versions_from state updates) ≡ fold (λ before (update : Update). state_after_ops update.ops before) state updates
newest-some state [] some = absurd (omega (arith, some))
newest-some state (update ∷ updates) some = newest-is (state_after_ops update.ops state) updates

-- the newest state is that of all updates, if its version is kept
newest-left : (dropped : ℕ) (updates : List Update) → dropped ≤ length updates - 1 → newest_state (drop dropped (versions_from None updates)) ≡ state_of_updates updates
newest-left zero updates few = newest-is None updates
newest-left (suc dropped) updates few =
    let long : 1 ≤ length (drop (suc dropped) updates) = omega (arith, few, length-drop (suc dropped) updates) in
    ap newest_state (versions-drop None updates (suc dropped))
    ∙ newest-some (state_of_updates (take (suc dropped) updates)) (drop (suc dropped) updates) long
    ∙ sym (fold-append _ None (take (suc dropped) updates) (drop (suc dropped) updates))
    ∙ ap state_of_updates (take-append-drop (suc dropped) updates)

-- Of a chain at least the newest version is kept

-- a chain without updates is like none
pub or_new : (dropped : ℕ) (updates : List Update) → dropped ≤ length updates - 1 → chain_or_new (chain_from dropped updates) ≡ record { dropped = dropped; kept = drop dropped (versions_from None updates) }
or_new dropped [] few =
    let none : 0 ≡ dropped = omega (arith, few) in
    λ i. record { dropped = none i; kept = drop (none i) (versions_from None []) }
or_new dropped (update ∷ updates) few =
    let some : (length (update ∷ updates) == 0) ≡ false = ne_eqb (length (update ∷ updates)) 0 (λ none. omega (arith, none)) in
    rw some refl

-- if at least the newest version is kept, the chain counts all updates
pub count-is : (dropped : ℕ) (updates : List Update) → dropped ≤ length updates - 1 → update_count (chain_or_new (chain_from dropped updates)) ≡ length updates
count-is dropped updates few =
    let long = length-versions None updates in
    ap update_count (or_new dropped updates few) ∙ omega (arith, few, long, length-drop dropped (versions_from None updates))

-- and its newest state is the one after all updates
pub newest-state-is : (dropped : ℕ) (updates : List Update) → dropped ≤ length updates - 1 → newest_state (chain_or_new (chain_from dropped updates)).kept ≡ state_of_updates updates
newest-state-is dropped updates few = ap (λ (chain : ChainView). newest_state chain.kept) (or_new dropped updates few) ∙ newest-left dropped updates few

-- at least the newest version is still kept when more updates follow
pub still-few : (dropped : ℕ) (updates more : List Update) → dropped ≤ length updates - 1 → dropped ≤ length (updates ++ more) - 1
still-few dropped updates more few = omega (arith, few, length-append updates more)

-- one more update
one_more : (dropped : ℕ) (updates : List Update) (last : Update) → dropped ≤ length updates - 1 → Some (with_update last.stamp last.ops (chain_or_new (chain_from dropped updates))) ≡ chain_from dropped (updates ++ last ∷ [])
one_more dropped updates last few =
    let versions : List Version = versions_from None updates in
    let long = length-versions None updates in
    let some : (length (updates ++ last ∷ []) == 0) ≡ false = ne_eqb (length (updates ++ last ∷ [])) 0 (λ none. omega (arith, none, length-append updates (last ∷ []))) in
    let whole : chain_from dropped (updates ++ last ∷ []) ≡ Some (record { dropped = dropped; kept = drop dropped (versions_from None (updates ++ last ∷ [])) }) = rw some refl in
    let newest : newest_state (drop dropped versions) ≡ newest_state versions = newest-left dropped updates few ∙ sym (newest-is None updates) in
    let next : Version = record { stamp = last.stamp; state = state_after_ops last.ops (newest_state versions) } in
    ap (λ (chain : ChainView). Some (with_update last.stamp last.ops chain)) (or_new dropped updates few)
    ∙ (λ i. Some (record { dropped = dropped; kept = drop dropped versions ++ record { stamp = last.stamp; state = state_after_ops last.ops (newest i) } ∷ [] }))
    ∙ ap (λ (kept : List Version). Some (record { dropped = dropped; kept = kept })) (sym (drop-append-le dropped versions (next ∷ []) (omega (arith, few, long))) ∙ ap (drop dropped) (sym (versions-push None updates last)))
    ∙ sym whole

-- the update that a part is
abbrev update_by : Stamp → Part → Update
update_by stamp part = record { stamp = stamp; ops = part.ops }

-- and the updates of a message
pub parts-on : (stamp : Stamp) (v : Name) (dropped : ℕ) (updates : List Update) (parts : List Part) → dropped ≤ length updates - 1 → after_parts stamp v (chain_from dropped updates) parts ≡ chain_from dropped (updates ++ map (λ (part : Part). record { stamp = stamp; ops = part.ops }) (filter (λ (part : Part). same_name part.vertex v) parts))
parts-on stamp v dropped updates [] few = ap (chain_from dropped) (sym (append-nil updates))
parts-on stamp v dropped updates (part ∷ parts) few = elim (cases_Bool (same_name part.vertex v)) [
  | inl same ↦ rw same (
      ap (λ (chain : Option ChainView). after_parts stamp v chain parts) (one_more dropped updates (update_by stamp part) few)
      ∙ parts-on stamp v dropped (updates ++ update_by stamp part ∷ []) parts (still-few dropped updates (update_by stamp part ∷ []) few)
      ∙ ap (chain_from dropped) (append_assoc updates (update_by stamp part ∷ []) (map (update_by stamp) (filter (λ (each : Part). same_name each.vertex v) parts)))
      )
  | inr other ↦ rw other (parts-on stamp v dropped updates parts few)
]

-- A visit in the words of the log

map-drop : {A B : Type 0} (f : A → B) (n : ℕ) (xs : List A) → map f (drop n xs) ≡ drop n (map f xs)
map-drop f zero xs = refl
map-drop f (suc n) [] = refl
map-drop f (suc n) (x ∷ xs) = map-drop f n xs

-- the versions that a vertex's chain keeps have the stamps that the log says are kept
pub kept-stamps-are : (v : Name) (log : List ShardEntry) → stamps_of_versions (chain_in v log).kept ≡ kept_stamps v log
kept-stamps-are v log = map-drop (λ (version : Version). version.stamp) (dropped_of v log) (versions_from None (updates_of v log)) ∙ ap (drop (dropped_of v log)) (stamps-are None (updates_of v log))

module _ (pairs : List GivenPair) (program : Stamp) (v : Name) (log : List ShardEntry) where
  -- a program sees a vertex after as many updates as it reads by the log
  pub updates-are : (view_of pairs program (chain_in v log)).updates ≡ updates_read pairs program v log
  updates-are = ap (λ (stamps : List Stamp). dropped_of v log + seen_of pairs program stamps) (kept-stamps-are v log)

  -- whether the last of them has still to be put before the program is as the log says
  pub settled-is : (view_of pairs program (chain_in v log)).settled ≡ is_settled_by pairs program v log
  settled-is = ap (λ (stamps : List Stamp). list_any (λ update. not (precedes pairs update program)) (last_seen (seen_of pairs program stamps) stamps)) (kept-stamps-are v log)

  -- the pair that the judge has to add, if any, is the one that the log says
  pub put-is : put_before pairs program (chain_in v log) ≡ additions_from 0 pairs (last_read pairs program v log) program
  put-is = ap (λ (stamps : List Stamp). additions_from 0 pairs (last_seen (seen_of pairs program stamps) stamps) program) (kept-stamps-are v log)

  -- with it the judge has the pairs that it has after the visit by the log
  pub pairs-are : pairs ++ pairs_of (put_before pairs program (chain_in v log)) program ≡ pairs_after_visit pairs program v log
  pairs-are = ap (λ (put : List (ℕ × Stamp)). pairs ++ pairs_of put program) put-is

  -- and the judge's log gains the entries that the shard's log says
  pub entries-are : (author : ℕ) → entries_for pairs author program (chain_in v log) ≡ entries_of_visit pairs author program v log
  entries-are author = ap (λ (stamps : List Stamp). let last = last_seen (seen_of pairs program stamps) stamps in entries_of_call author last program (places_of (additions_from 0 pairs last program))) (kept-stamps-are v log)

-- if what is kept of a vertex reaches back far enough by the log, so does its chain
pub reaches-back : (program : Stamp) (v : Name) (log : List ShardEntry) → IsKeptFor program v log → ReachesBack program (chain_in v log)
reaches-back program v log base some = subst (λ (stamps : List Stamp). IsSomeAnd (slice_get stamps 0) (λ oldest. IsTrue (stamp_before oldest program))) (sym (kept-stamps-are v log)) (base some)

-- if a vertex's chain reaches back far enough, so does what is kept of it by the log
pub kept-for : (program : Stamp) (v : Name) (log : List ShardEntry) → ReachesBack program (chain_in v log) → IsKeptFor program v log
kept-for program v log base some = subst (λ (stamps : List Stamp). IsSomeAnd (slice_get stamps 0) (λ oldest. IsTrue (stamp_before oldest program))) (kept-stamps-are v log) (base some)

-- The state that it reads

versions-take : (state : State) (updates : List Update) (n : ℕ) → take n (versions_from state updates) ≡ versions_from state (take n updates)
versions-take state updates zero = refl
versions-take state [] (suc n) = refl
versions-take state (update ∷ updates) (suc n) = ap (λ (versions : List Version). record { stamp = update.stamp; state = state_after_ops update.ops state } ∷ versions) (versions-take (state_after_ops update.ops state) updates n)

abbrev no_updates : List Update
no_updates = []

take-none : (n : ℕ) → take n no_updates ≡ no_updates
take-none zero = refl
take-none (suc n) = refl

take-more : (updates : List Update) (d n : ℕ) → take d updates ++ take n (drop d updates) ≡ take (d + n) updates
take-more updates zero n = let more : n ≡ 0 + n = omega arith in ap (λ k. take k updates) more
take-more [] (suc d) n = take-none n ∙ sym (take-none (suc d + n))
take-more (update ∷ updates) (suc d) n =
    let more : suc (d + n) ≡ suc d + n = omega arith in
    ap (λ (rest : List Update). update ∷ rest) (take-more updates d n) ∙ ap (λ k. take k (update ∷ updates)) more

-- of at least one of the updates that are kept
some-kept : (updates : List Update) (d n : ℕ) → 1 ≤ length (take n (drop d updates)) → newest_state (take n (drop d (versions_from None updates))) ≡ state_of_updates (take (d + n) updates)
some-kept updates d n some =
    ap (λ (versions : List Version). newest_state (take n versions)) (versions-drop None updates d)
    ∙ ap newest_state (versions-take (state_of_updates (take d updates)) (drop d updates) n)
    ∙ newest-some (state_of_updates (take d updates)) (take n (drop d updates)) some
    ∙ sym (fold-append _ _ (take d updates) (take n (drop d updates)))
    ∙ ap state_of_updates (take-more updates d n)

-- and if none is dropped
all-kept : (updates : List Update) (n : ℕ) → newest_state (take n (versions_from None updates)) ≡ state_of_updates (take n updates)
all-kept updates n = ap newest_state (versions-take None updates n) ∙ newest-is None (take n updates)

-- the law of what is skipped
abbrev SkippedLaw : Type 0
SkippedLaw = (pairs : List GivenPair) (program update : Stamp) (updates : List Stamp) (place : ℕ) → seen_of pairs program updates ≤ place → slice_get updates place ≡ Some update → ¬ IsTrue (is_seen pairs program update)

-- the oldest update is seen if it is before the program
sees-some : SkippedLaw → (pairs : List GivenPair) (program : Stamp) (updates : List Stamp) → IsSomeAnd (slice_get updates 0) (λ oldest. IsTrue (stamp_before oldest program)) → 1 ≤ seen_of pairs program updates
sees-some skipped pairs program [] before = absurd before
sees-some skipped pairs program (update ∷ updates) before = elim (cases_lt (seen_of pairs program (update ∷ updates)) 1) [
  | inl none ↦ absurd (skipped pairs program update (update ∷ updates) 0 (omega (arith, none)) refl (or_left (stamp_before update program) _ before))
  | inr some ↦ some
]

some-there : (program : Stamp) (stamps : List Stamp) → IsSomeAnd (slice_get stamps 0) (λ oldest. IsTrue (stamp_before oldest program)) → 1 ≤ length stamps
some-there program [] before = absurd before
some-there program (stamp ∷ stamps) before = omega arith

some-taken : (updates : List Update) (n : ℕ) → 1 ≤ n → 1 ≤ length updates → 1 ≤ length (take n updates)
some-taken updates zero some more = absurd (omega (arith, some))
some-taken [] (suc n) some more = absurd (omega (arith, more))
some-taken (update ∷ updates) (suc n) some more = omega arith

module _ (skipped : SkippedLaw) (pairs : List GivenPair) (program : Stamp) (v : Name) (log : List ShardEntry) where
  -- a program reads the state after the updates that it sees
  pub view-state : IsKeptFor program v log → (view_of pairs program (chain_in v log)).state ≡ state_of_updates (take (updates_read pairs program v log) (updates_of v log))
  view-state base =
      let updates = updates_of v log in
      let seen = seen_of pairs program (kept_stamps v log) in
      let read : newest_state (take seen (drop (dropped_of v log) (versions_from None updates))) ≡ state_of_updates (take (dropped_of v log + seen) updates) = elim (cases_lt 0 (dropped_of v log)) [
        | inl dropped ↦
            let oldest = base (omega (arith, dropped)) in
            let there = some-there program (kept_stamps v log) oldest in
            let long : length (kept_stamps v log) ≡ length (drop (dropped_of v log) updates) = ap length (sym (map-drop (λ (update : Update). update.stamp) (dropped_of v log) updates)) ∙ length-map (drop (dropped_of v log) updates) (λ (update : Update). update.stamp) in
            some-kept updates (dropped_of v log) seen (some-taken (drop (dropped_of v log) updates) seen (sees-some skipped pairs program (kept_stamps v log) oldest) (omega (arith, there, long)))
        | inr none ↦
            let is : dropped_of v log ≡ 0 = omega (arith, none) in
            ap (λ n. newest_state (take seen (drop n (versions_from None updates)))) is
            ∙ all-kept updates seen
            ∙ (let more : seen ≡ 0 + seen = omega arith in ap (λ n. state_of_updates (take n updates)) more)
            ∙ ap (λ n. state_of_updates (take (n + seen) updates)) (sym is)
      ] in
      ap (λ (stamps : List Stamp). newest_state (take (seen_of pairs program stamps) (chain_in v log).kept)) (kept-stamps-are v log) ∙ read
