-- The updates that a chain results from, as it changes.
-- Used by `count`, `kept`, `look_back`, `newest`, `parts`, `take_back` and Changed.
use Rattle.std.proofs.Common.{◌≡◌, ◌≤◌, ◌<◌, ◌+◌, ◌==◌, ℕ, zero, suc, List, [], ◌∷◌, ◌++◌, take, drop, length, None, All, IsTrue, refl, sym, ap, subst, ◌∙◌, arith}
use Rattle.std.specs.Prelude.{nat_le, fold}
use Rattle.std.proofs.lemmas.List.{length-append}
use Rattle.std.proofs.lemmas.List.Elements.{All-cons, All-nil}
use Rattle.graph_ops.specs.declared.op.Op.{Op}
use Rattle.graph_ops.specs.Operations.{State}
use Rattle.graph_ops.specs.VertexOps.{state_after_ops, none_refused}
use Rattle.vector_stamp.specs.declared.clock.Clock.{Clock}
use Rattle.vector_stamp.specs.declared.clock.Stamp.{Stamp}
use Rattle.vector_stamp.specs.Order.{is_before}
use Rattle.vector_stamp.specs.Seeing.{with_front, last_place}
use Rattle.version_parts.specs.declared.lists.Lists.{Lists}
use Rattle.version_parts.specs.Counts.{count_updates, changes}
use Rattle.version_parts.specs.States.{state_at}
use Rattle.version_chain.specs.declared.version.Version.{Version}
use Rattle.version_chain.specs.Chains.{stamps_of_versions, newest_state}
use Rattle.version_chain.specs.Keeping.{kept_from, HaveParts}
use Rattle.version_chain.specs.Updates.{ResultFrom, all_changes}

-- The versions that are kept

module _ (lists : Lists) where
  -- there are as many versions as stamps
  pub kept_length : (before : ℕ) (stamps : List Stamp) → length (kept_from before lists stamps) ≡ length stamps
  kept_length before [] = refl
  kept_length before (stamp ∷ stamps) = ap suc (kept_length (before + 1) stamps)

  -- the versions have these stamps
  pub kept_stamps : (before : ℕ) (stamps : List Stamp) → stamps_of_versions (kept_from before lists stamps) ≡ stamps
  kept_stamps before [] = refl
  kept_stamps before (stamp ∷ stamps) = ap (λ (rest : List Stamp). stamp ∷ rest) (kept_stamps (before + 1) stamps)

  -- the versions of two lists of stamps are those of the first, and then those of the second from there on
  pub kept_append : (before : ℕ) (first second : List Stamp) → kept_from before lists (first ++ second) ≡ kept_from before lists first ++ kept_from (before + length first) lists second
  kept_append before [] second = let same : before ≡ before + 0 = omega arith in ap (λ (n : ℕ). kept_from n lists second) same
  kept_append before (stamp ∷ first) second =
      let same : before + 1 + length first ≡ before + suc (length first) = omega arith in
      ap (λ (rest : List Version). record { stamp = stamp; state = state_at (before + 1) lists } ∷ rest)
      (kept_append (before + 1) first second ∙ ap (λ (n : ℕ). kept_from (before + 1) lists first ++ kept_from n lists second) same)

  -- the versions of the stamps without the first few are those of all stamps without as many first ones
  pub kept_drop : (before n : ℕ) (stamps : List Stamp) → kept_from (before + n) lists (drop n stamps) ≡ drop n (kept_from before lists stamps)
  kept_drop before zero stamps = let same : before + 0 ≡ before = omega arith in ap (λ (n : ℕ). kept_from n lists stamps) same
  kept_drop before (suc n) [] = refl
  kept_drop before (suc n) (stamp ∷ stamps) =
      let same : before + suc n ≡ before + 1 + n = omega arith in
      ap (λ (m : ℕ). kept_from m lists (drop n stamps)) same ∙ kept_drop (before + 1) n stamps

  newest_from : (before : ℕ) (stamps : List Stamp) → fold (λ (state : State) (version : Version). version.state) (state_at before lists) (kept_from before lists stamps) ≡ state_at (before + length stamps) lists
  newest_from before [] = let same : before ≡ before + 0 = omega arith in ap (λ (n : ℕ). state_at n lists) same
  newest_from before (stamp ∷ stamps) =
      let same : before + 1 + length stamps ≡ before + suc (length stamps) = omega arith in
      newest_from (before + 1) stamps ∙ ap (λ (n : ℕ). state_at n lists) same

  -- the newest of them has the state after all updates
  pub newest_kept : (dropped : ℕ) (stamps : List Stamp) → (1 ≤ dropped → 1 ≤ length stamps) → (dropped ≡ 0 → state_at 0 lists ≡ None) → newest_state (kept_from dropped lists stamps) ≡ state_at (dropped + length stamps) lists
  newest_kept zero [] one start = sym (start refl)
  newest_kept (suc dropped) [] one start = absurd (let some = one (omega arith) in omega (arith, some))
  newest_kept dropped (stamp ∷ stamps) one start =
      let same : dropped + 1 + length stamps ≡ dropped + suc (length stamps) = omega arith in
      newest_from (dropped + 1) stamps ∙ ap (λ (n : ℕ). state_at n lists) same

  -- what is true of every state of the parts is true of the state of each version
  pub kept_all : (P : State → Type 0) → ((update : ℕ) → P (state_at update lists)) → (before : ℕ) (stamps : List Stamp) → All (λ (version : Version). P version.state) (kept_from before lists stamps)
  kept_all P holds before [] = All-nil (λ (version : Version). P version.state)
  kept_all P holds before (stamp ∷ stamps) =
      All-cons (λ (version : Version). P version.state) (record { stamp = stamp; state = state_at (before + 1) lists }) (kept_from (before + 1) lists stamps) (holds (before + 1)) (kept_all P holds (before + 1) stamps)

  -- the last version before a bound is at the place of the last stamp before it
  pub place_kept : (bound : Clock) (before : ℕ) (stamps : List Stamp) → last_place (λ (version : Version). is_before version.stamp.clock bound) (kept_from before lists stamps) ≡ last_place (λ (stamp : Stamp). is_before stamp.clock bound) stamps
  place_kept bound before [] = refl
  place_kept bound before (stamp ∷ stamps) = ap (with_front (is_before stamp.clock bound)) (place_kept bound (before + 1) stamps)

-- the version of an update of this number
abbrev pub version_at : Lists → ℕ → Stamp → Version
version_at lists number stamp = record { stamp = stamp; state = state_at number lists }

-- the kept versions are those of the stamps before the newest, and then the newest one's
pub kept_split : (lists : Lists) (before : ℕ) (rest older : List Stamp) (newest : Stamp) → rest ≡ older ++ newest ∷ [] → kept_from before lists rest ≡ kept_from before lists older ++ version_at lists (before + length rest) newest ∷ []
kept_split lists before rest older newest split =
    let same : before + length older + 1 ≡ before + length rest = omega (arith, ap length split, length-append older (newest ∷ [])) in
    ap (kept_from before lists) split ∙ kept_append lists before older (newest ∷ [])
    ∙ ap (λ (n : ℕ). kept_from before lists older ++ version_at lists n newest ∷ []) same

-- they are the same if the states are
pub kept_same : (now was : Lists) (before : ℕ) (stamps : List Stamp) → ((update : ℕ) → before < update → update ≤ before + length stamps → state_at update now ≡ state_at update was) → kept_from before now stamps ≡ kept_from before was stamps
kept_same now was before [] same = refl
kept_same now was before (stamp ∷ stamps) same =
    let here : state_at (before + 1) now ≡ state_at (before + 1) was = same (before + 1) (omega arith) (omega arith) in
    let rest : kept_from (before + 1) now stamps ≡ kept_from (before + 1) was stamps = kept_same now was (before + 1) stamps (λ update after within. same update (omega (arith, after)) (omega (arith, within))) in
    λ i. record { stamp = stamp; state = here i } ∷ rest i

-- Histories

abbrev pub items_of : Lists → ℕ → ℕ
items_of lists number = count_updates (λ update. update == number) lists

-- if states stay, and each update has as many items as before, the parts still fit the updates
pub have_on : (before : ℕ) (was now : Lists) (updates : List (List Op))
    → ((update : ℕ) → before ≤ update → update ≤ before + length updates → state_at update now ≡ state_at update was)
    → ((update : ℕ) → before < update → update ≤ before + length updates → items_of now update ≡ items_of was update)
    → HaveParts before was updates → HaveParts before now updates
have_on before was now [] states counts have = tt
have_on before was now (ops ∷ updates) states counts have =
    let here : state_at before now ≡ state_at before was = states before (omega arith) (omega arith) in
    let next : state_at (before + 1) now ≡ state_at (before + 1) was = states (before + 1) (omega arith) (omega arith) in (
      subst (λ (state : State). IsTrue (none_refused ops state)) (sym here) have.0,
      next ∙ have.1 ∙ ap (state_after_ops ops) (sym here),
      counts (before + 1) (omega arith) (omega arith) ∙ have.2,
      have_on (before + 1) was now updates (λ update after within. states update (omega (arith, after)) (omega (arith, within))) (λ update after within. counts update (omega (arith, after)) (omega (arith, within))) have.3,
    )

module _ (lists : Lists) where
  -- if the parts fit the updates, they fit them with one more that isn't refused, gives the next state and is counted
  pub have_more : (before : ℕ) (updates : List (List Op)) (ops : List Op) (last : ℕ) → last ≡ before + length updates → HaveParts before lists updates
      → IsTrue (none_refused ops (state_at last lists)) → state_at (last + 1) lists ≡ state_after_ops ops (state_at last lists) → items_of lists (last + 1) ≡ changes ops
      → HaveParts before lists (updates ++ ops ∷ [])
  have_more before [] ops last is have passes state count =
      let same : last ≡ before = omega (arith, is) in (
        subst (λ (n : ℕ). IsTrue (none_refused ops (state_at n lists))) same passes,
        subst (λ (n : ℕ). state_at (n + 1) lists ≡ state_after_ops ops (state_at n lists)) same state,
        subst (λ (n : ℕ). items_of lists (n + 1) ≡ changes ops) same count,
        tt,
      )
  have_more before (first ∷ updates) ops last is have passes state count = (have.0, have.1, have.2, have_more (before + 1) updates ops last (omega (arith, is)) have.3 passes state count)

  -- parts of updates are also parts of any number of the first of them
  pub have_first : (before n : ℕ) (updates : List (List Op)) → HaveParts before lists updates → HaveParts before lists (take n updates)
  have_first before zero updates have = tt
  have_first before (suc n) [] have = tt
  have_first before (suc n) (ops ∷ updates) have = (have.0, have.1, have.2, have_first (before + 1) n updates have.3)

  -- and of those after any number, counted on from there
  pub have_later : (before n : ℕ) (updates : List (List Op)) (at : ℕ) → at ≡ before + n → HaveParts before lists updates → HaveParts at lists (drop n updates)
  have_later before zero updates at is have = let same : before ≡ at = omega (arith, is) in subst (λ (m : ℕ). HaveParts m lists updates) same have
  have_later before (suc n) [] at is have = tt
  have_later before (suc n) (ops ∷ updates) at is have = have_later (before + 1) n updates at (omega (arith, is)) have.3

  -- the versions result from the updates
  pub have_results : (before : ℕ) (updates : List (List Op)) (stamps : List Stamp) → length updates ≡ length stamps → HaveParts before lists updates → ResultFrom (state_at before lists) updates (kept_from before lists stamps)
  have_results before [] [] same have = tt
  have_results before [] (stamp ∷ stamps) same have = absurd (omega (arith, same))
  have_results before (ops ∷ updates) [] same have = absurd (omega (arith, same))
  have_results before (ops ∷ updates) (stamp ∷ stamps) same have = (have.0, have.1, have_results (before + 1) updates stamps (omega (arith, same)) have.3)

  module _ (one_more : (update : ℕ) → count_updates (λ other. nat_le other (update + 1)) lists ≡ count_updates (λ other. nat_le other update) lists + items_of lists (update + 1)) where
    -- updates add as many items as they have operations other than `get`
    pub have_sum : (before : ℕ) (updates : List (List Op)) → HaveParts before lists updates
        → count_updates (λ other. nat_le other (before + length updates)) lists ≡ count_updates (λ other. nat_le other before) lists + all_changes updates
    have_sum before [] have = let same : before + 0 ≡ before = omega arith in
        subst (λ (n : ℕ). count_updates (λ other. nat_le other n) lists ≡ count_updates (λ other. nat_le other before) lists + 0) (sym same) (omega arith)
    have_sum before (ops ∷ updates) have =
        let same : before + 1 + length updates ≡ before + suc (length updates) = omega arith in
        let rest = have_sum (before + 1) updates have.3 in
        let exact = have.2 in
        subst (λ (n : ℕ). count_updates (λ other. nat_le other n) lists ≡ count_updates (λ other. nat_le other before) lists + (changes ops + all_changes updates)) same (omega (arith, rest, exact, one_more before))
