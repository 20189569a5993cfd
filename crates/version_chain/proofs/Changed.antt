-- A chain's invariant, and its versions, after each change.
-- Used by `apply_update`, `drop_older`, `parts` and `take_back`.
use Rattle.std.proofs.Common.{◌≡◌, ◌≤◌, ◌<◌, ◌+◌, ◌-◌, ◌^◌, ◌==◌, ℕ, zero, suc, Bool, true, false, ◌&&◌, cond, List, [], ◌∷◌, ◌++◌, take, drop, length, Option, Some, None, IsSome, IsTrue, refl, sym, ap, subst, ◌∙◌, arith}
use Rattle.std.specs.Prelude.{nat_le, pred}
use Rattle.std.specs.Option.{option_to_list}
use Rattle.std.proofs.lemmas.Bool.{le-leb, lt-leb, leb-true, eqb-true, eq-eqb, ne_eqb}
use Rattle.std.proofs.lemmas.List.{length-append, length-take, length-drop}
use Rattle.graph_ops.specs.declared.op.Op.{Op}
use Rattle.graph_ops.specs.Operations.{State}
use Rattle.graph_ops.specs.VertexOps.{state_after_ops, none_refused}
use Rattle.vector_stamp.specs.declared.clock.Clock.{Clock}
use Rattle.vector_stamp.specs.declared.clock.Stamp.{Stamp}
use Rattle.vector_stamp.specs.Order.{is_before}
use Rattle.vector_stamp.specs.Seeing.{last_place}
use Rattle.version_parts.specs.declared.lists.Lists.{Lists}
use Rattle.version_parts.specs.Counts.{count_updates, count_in_lists, changes, size_of}
use Rattle.version_parts.specs.Placed.{AreUpTo}
use Rattle.version_parts.specs.States.{no_items, state_at}
use Rattle.version_chain.specs.declared.version.Version.{Version}
use Rattle.version_chain.specs.Chains.{ChainView, update_count, newest_state, next_version}
use Rattle.version_chain.specs.Collection.{older_versions, collected_chain}
use Rattle.version_chain.specs.Keeping.{kept_from, base_of, HaveParts, IsKept}
use Rattle.version_chain.specs.Updates.{ResultFrom, ResultFromOldest, oldest_state, all_changes}
use Rattle.version_chain.proofs.LookBack.{take-front}
use Rattle.version_chain.proofs.Collecting.{none-older, one-kept}
use Rattle.version_chain.proofs.Histories.{place_kept, kept_length, kept_append, kept_drop, kept_same, newest_kept, items_of, have_on, have_more, have_first, have_later, have_results, have_sum}

-- The base of a history

base_none : (dropped : ℕ) → dropped ≡ 0 → base_of dropped ≡ 0
base_none dropped none = ap base_of none

base_some : (dropped : ℕ) → 1 ≤ dropped → base_of dropped ≡ dropped + 1
base_some zero some = absurd (omega (arith, some))
base_some (suc dropped) some = ap (λ (b : Bool). cond b 0 (suc dropped + 1)) (ne_eqb (suc dropped) 0 (λ same. omega (arith, same)))

base_within : (dropped kept : ℕ) → (1 ≤ dropped → 1 ≤ kept) → base_of dropped ≤ dropped + kept
base_within zero kept one = omega arith
base_within (suc dropped) kept one = let some = one (omega arith) in let is = base_some (suc dropped) (omega arith) in omega (arith, some, is)

-- A chain without updates

-- a chain without updates, which keeps no items and no stamps, has the invariant
pub new_kept : IsKept 0 no_items []
new_kept = record {
  small = omega arith;
  one = λ some. absurd (omega (arith, some));
  within = (tt, tt, tt);
  start = λ none. refl;
  history = record { updates = []; count = refl; parts = tt; older = omega arith };
}

-- An update that is applied, or was refused

module _ (dropped before : ℕ) (was now : Lists) (stamps : List Stamp) (kept : IsKept dropped was stamps) (count : before ≡ dropped + length stamps) (earlier : (update : ℕ) → update ≤ before → state_at update now ≡ state_at update was) where
  abbrev base : ℕ
  base = base_of dropped

  within_base : base ≤ before
  within_base = let within = base_within dropped (length stamps) kept.one in omega (arith, within, count)

  -- if the states so far stay, so do the versions that are kept
  pub same_versions : kept_from dropped now stamps ≡ kept_from dropped was stamps
  same_versions = kept_same now was dropped stamps (λ update after within. earlier update (omega (arith, within, count)))

  same_start : dropped ≡ 0 → state_at 0 now ≡ None
  same_start none = earlier 0 (omega arith) ∙ kept.start none

  same_base : size_of (state_at base now) ≡ size_of (state_at base was)
  same_base = ap size_of (earlier base within_base)

  same_parts : ((update : ℕ) → update ≤ before → items_of now update ≡ items_of was update) → HaveParts base now kept.history.updates
  same_parts counts =
      let whole = kept.history.count in
      have_on base was now kept.history.updates (λ update after within. earlier update (omega (arith, within, whole, count)))
      (λ update after within. counts update (omega (arith, within, whole, count))) kept.history.parts

  -- after an update that was refused the invariant holds, if no later item is left and the counts are as before
  pub refused_kept : AreUpTo before now → ((test : ℕ → Bool) → count_updates test now ≡ count_updates test was) → IsKept dropped now stamps
  refused_kept within counts = record {
    small = kept.small;
    one = kept.one;
    within = subst (λ (n : ℕ). AreUpTo n now) count within;
    start = same_start;
    history = record {
      updates = kept.history.updates;
      count = kept.history.count;
      parts = same_parts (λ update old. counts (λ other. other == update));
      older = (let same = counts (λ update. nat_le update base) in let older = kept.history.older in omega (arith, same, older, same_base));
    };
  }

  module _ (stamp : Stamp) (ops : List Op) (small : before < 2 ^ 64 - 1) (passes : IsTrue (none_refused ops (state_at before was))) (state : state_at (before + 1) now ≡ state_after_ops ops (state_at before was)) (within : AreUpTo (before + 1) now)
      (counts : (test : ℕ → Bool) → count_updates test now ≡ count_updates test was + cond (test (before + 1)) (changes ops) 0) (none_later : items_of was (before + 1) ≡ 0) where
    longer : length (stamps ++ stamp ∷ []) ≡ length stamps + 1
    longer = length-append stamps (stamp ∷ [])

    not_now : (test : ℕ → Bool) → test (before + 1) ≡ false → count_updates test now ≡ count_updates test was
    not_now test fails = let added : cond (test (before + 1)) (changes ops) 0 ≡ 0 = ap (λ (b : Bool). cond b (changes ops) 0) fails in let all = counts test in omega (arith, added, all)

    items_now : items_of now (before + 1) ≡ changes ops
    items_now =
        let added : cond (before + 1 == before + 1) (changes ops) 0 ≡ changes ops = ap (λ (b : Bool). cond b (changes ops) 0) (itself (before + 1)) in
        let all = counts (λ update. update == before + 1) in
        omega (arith, added, all, none_later)
      where
        itself : (n : ℕ) → (n == n) ≡ true
        itself n = eq-eqb n n refl

    -- after an update that was applied the invariant holds, with its stamp as the last
    pub applied_kept : IsKept dropped now (stamps ++ stamp ∷ [])
    applied_kept = record {
      small = omega (arith, longer, count, small);
      one = λ some. omega (arith, longer);
      within = (let same : before + 1 ≡ dropped + length (stamps ++ stamp ∷ []) = omega (arith, longer, count) in subst (λ (n : ℕ). AreUpTo n now) same within);
      start = same_start;
      history = record {
        updates = kept.history.updates ++ ops ∷ [];
        count = (let whole = kept.history.count in omega (arith, longer, whole, length-append kept.history.updates (ops ∷ [])));
        parts = have_more now base kept.history.updates ops before (let whole = kept.history.count in omega (arith, whole, count))
            (same_parts (λ update old. not_now (λ other. other == update) (ne_eqb (before + 1) update (λ same. omega (arith, same, old)))))
            (subst (λ (s : State). IsTrue (none_refused ops s)) (sym (earlier before (omega arith))) passes)
            (state ∙ ap (state_after_ops ops) (sym (earlier before (omega arith))))
            items_now;
        older = (let same = not_now (λ update. nat_le update base) (lt-leb (before + 1) base (let old = within_base in omega (arith, old))) in let older = kept.history.older in omega (arith, same, older, same_base));
      };
    }

    -- after an update that was applied the versions are those before it, and the one that it makes of the newest
    pub applied_versions : kept_from dropped now (stamps ++ stamp ∷ []) ≡ kept_from dropped was stamps ++ next_version stamp ops (kept_from dropped was stamps) ∷ []
    applied_versions =
        let newest : state_at before was ≡ newest_state (kept_from dropped was stamps) = ap (λ (n : ℕ). state_at n was) count ∙ sym (newest_kept was dropped stamps kept.one kept.start) in
        let last : state_at (dropped + length stamps + 1) now ≡ state_after_ops ops (newest_state (kept_from dropped was stamps)) = ap (λ (n : ℕ). state_at (n + 1) now) (sym count) ∙ state ∙ ap (state_after_ops ops) newest in
        kept_append now dropped stamps (stamp ∷ [])
        ∙ (λ i. same_versions i ++ record { stamp = stamp; state = last i } ∷ [])

-- The newest update is taken back

both_tests : (test other : Bool) → (test ≡ true → other ≡ true) → (test && other) ≡ test
both_tests true other then_other = then_other refl
both_tests false other then_other = refl

-- two lists with ends of one length
same_front : {A : Type 0} (xs ys us vs : List A) → xs ++ us ≡ ys ++ vs → length us ≡ length vs → xs ≡ ys
same_front xs ys us vs same long =
    let all = ap length same in
    let first : length xs ≡ length ys = omega (arith, all, long, length-append xs us, length-append ys vs) in
    sym (take-front xs us) ∙ (λ i. take (first i) (same i)) ∙ take-front ys vs

module _ (dropped newest : ℕ) (was now : Lists) (stamps rest gone : List Stamp) (kept : IsKept dropped was stamps) (is : stamps ≡ rest ++ gone) (one : length gone ≡ 1) (two : 1 ≤ dropped → 2 ≤ length stamps) (count : newest ≡ dropped + length rest)
    (states : (update : ℕ) → update ≤ newest → state_at update now ≡ state_at update was) where
  one_less : length stamps ≡ length rest + 1
  one_less = let all = ap length is in omega (arith, all, one, length-append rest gone)

  some_left : 1 ≤ dropped → 1 ≤ length rest
  some_left some = let both = two some in omega (arith, both, one_less)

  -- after the newest update is taken back the versions are those before its own
  pub taken_versions : (version : Version) (versions : List Version) → kept_from dropped was stamps ≡ versions ++ version ∷ [] → kept_from dropped now rest ≡ versions
  taken_versions version versions before =
      kept_same now was dropped rest (λ update after within. states update (omega (arith, within, count)))
      ∙ same_front (kept_from dropped was rest) versions (kept_from (dropped + length rest) was gone) (version ∷ [])
      (sym (kept_append was dropped rest gone) ∙ ap (kept_from dropped was) (sym is) ∙ before)
      (kept_length was (dropped + length rest) gone ∙ one)

  module _ (within : AreUpTo newest now) (counts : (test : ℕ → Bool) → count_updates test now ≡ count_updates (λ update. test update && nat_le update newest) was) where
    abbrev left : List (List Op)
    left = take (length kept.history.updates - 1) kept.history.updates

    base_left : base_of dropped ≤ newest
    base_left = let room = base_within dropped (length rest) some_left in omega (arith, room, count)

    whole : base_of dropped + length left ≡ dropped + length rest
    whole =
        let all = kept.history.count in
        let room = base_left in
        omega (arith, all, one_less, room, count, length-take (length kept.history.updates - 1) kept.history.updates)

    same_count : (test : ℕ → Bool) → ((update : ℕ) → test update ≡ true → update ≤ newest) → count_updates test now ≡ count_updates test was
    same_count test old = counts test ∙ ap (λ (t : ℕ → Bool). count_updates t was) (λ i update. both_tests (test update) (nat_le update newest) (λ passes. le-leb update newest (old update passes)) i)

    -- after the newest update is taken back the invariant holds, if just the items of those before it are left
    pub taken_kept : IsKept dropped now rest
    taken_kept = record {
      small = (let small = kept.small in omega (arith, small, one_less));
      one = some_left;
      within = subst (λ (n : ℕ). AreUpTo n now) count within;
      start = λ none. states 0 (omega arith) ∙ kept.start none;
      history = record {
        updates = left;
        count = whole;
        parts = have_on (base_of dropped) was now left (λ update after below. states update (omega (arith, below, whole, count)))
            (λ update after below. same_count (λ other. other == update) (λ other same. let e = eqb-true other update same in omega (arith, e, below, whole, count)))
            (have_first was (base_of dropped) (length kept.history.updates - 1) kept.history.updates kept.history.parts);
        older = (
            let same = same_count (λ update. nat_le update (base_of dropped)) (λ update old. let e = leb-true update (base_of dropped) old in let room = base_left in omega (arith, e, room)) in
            let size : size_of (state_at (base_of dropped) now) ≡ size_of (state_at (base_of dropped) was) = ap size_of (states (base_of dropped) base_left) in
            let older = kept.history.older in
            omega (arith, same, size, older)
            );
      };
    }

-- Older versions are dropped

module _ (dropped older : ℕ) (was now : Lists) (stamps : List Stamp) (kept : IsKept dropped was stamps) (some : 1 ≤ older) (inside : older < length stamps)
    (states : (update : ℕ) → dropped + older + 1 ≤ update → state_at update now ≡ state_at update was) where
  abbrev gone : ℕ
  gone = dropped + older

  left_length : length (drop older stamps) ≡ length stamps - older
  left_length = length-drop older stamps

  -- after older versions are dropped, those that are left are the others, as they were
  pub collected_versions : kept_from gone now (drop older stamps) ≡ drop older (kept_from dropped was stamps)
  collected_versions = kept_same now was gone (drop older stamps) (λ update after within. states update (omega (arith, after))) ∙ kept_drop was dropped older stamps

  module _ (within : AreUpTo (dropped + length stamps) now) (later : (update : ℕ) → gone + 1 < update → items_of now update ≡ items_of was update)
      (oldest : count_updates (λ update. nat_le update (gone + 1)) now ≤ size_of (state_at (gone + 1) was)) where
    abbrev past : ℕ
    past = gone + 1 - base_of dropped

    new_base : base_of gone ≡ gone + 1
    new_base = base_some gone (omega (arith, some))

    old_base : base_of dropped ≤ dropped + 1
    old_base = by dropped
      where
        by : (n : ℕ) → base_of n ≤ n + 1
        by zero = omega arith
        by (suc n) = let is = base_some (suc n) (omega arith) in omega (arith, is)

    updates_left : length (drop past kept.history.updates) ≡ length kept.history.updates - past
    updates_left = length-drop past kept.history.updates

    whole_left : base_of gone + length (drop past kept.history.updates) ≡ gone + length (drop older stamps)
    whole_left =
        let count = kept.history.count in
        let low = old_base in
        omega (arith, count, low, new_base, updates_left, left_length, some, inside)

    -- the invariant holds after that, if later updates have as many items, and those up to the oldest version have at
    -- most as many as its state has parts
    pub collected_kept : IsKept gone now (drop older stamps)
    collected_kept = record {
      small = (let small = kept.small in omega (arith, small, left_length, inside));
      one = λ any. omega (arith, left_length, inside);
      within = (let same : dropped + length stamps ≡ gone + length (drop older stamps) = omega (arith, left_length, inside) in subst (λ (n : ℕ). AreUpTo n now) same within);
      start = λ none. absurd (omega (arith, none, some));
      history = record {
        updates = drop past kept.history.updates;
        count = whole_left;
        parts = have_on (base_of gone) was now (drop past kept.history.updates) (λ update after below. states update (omega (arith, after, new_base)))
            (λ update after below. later update (omega (arith, after, new_base)))
            (have_later was (base_of dropped) past kept.history.updates (base_of gone) (let low = old_base in omega (arith, new_base, low, some)) kept.history.parts);
        older = (
            let size : size_of (state_at (gone + 1) now) ≡ size_of (state_at (gone + 1) was) = ap size_of (states (gone + 1) (omega arith)) in
            subst (λ (n : ℕ). count_updates (λ update. nat_le update n) now ≤ size_of (state_at n now)) (sym new_base) (omega (arith, oldest, size))
            );
      };
    }

-- The number of parts

module _ (dropped : ℕ) (lists : Lists) (stamps : List Stamp) (kept : IsKept dropped lists stamps) (parts : ℕ) (is : parts ≡ count_in_lists lists)
    (counted : (newest : ℕ) → AreUpTo newest lists → count_updates (λ update. nat_le update newest) lists ≡ count_in_lists lists)
    (one_more : (update : ℕ) → count_updates (λ other. nat_le other (update + 1)) lists ≡ count_updates (λ other. nat_le other update) lists + items_of lists (update + 1)) where
  abbrev first_base : ℕ
  first_base = base_of dropped

  all_items : count_updates (λ update. nat_le update (first_base + length kept.history.updates)) lists ≡ parts
  all_items = ap (λ (n : ℕ). count_updates (λ update. nat_le update n) lists) kept.history.count ∙ counted (dropped + length stamps) kept.within ∙ sym is

  -- if no version was dropped, the versions come of updates with as many operations other than `get` as there are parts
  pub exact_count : dropped ≡ 0 → (updates : List (List Op)) × ResultFrom None updates (kept_from dropped lists stamps) × (parts ≡ all_changes updates)
  exact_count none =
      let from_start : first_base ≡ 0 = base_none dropped none in
      let first : state_at first_base lists ≡ None = ap (λ (n : ℕ). state_at n lists) from_start ∙ kept.start none in
      let whole = kept.history.count in
      let older = kept.history.older in
      let nothing : size_of (state_at first_base lists) ≡ 0 = ap size_of first in
      let sum = have_sum lists one_more first_base kept.history.updates kept.history.parts in (
        kept.history.updates,
        subst (λ (s : State). ResultFrom s kept.history.updates (kept_from dropped lists stamps)) first
            (subst (λ (n : ℕ). ResultFrom (state_at first_base lists) kept.history.updates (kept_from n lists stamps)) (from_start ∙ sym none)
            (have_results lists first_base kept.history.updates stamps (omega (arith, whole, from_start, none)) kept.history.parts)),
        omega (arith, sum, all_items, older, nothing),
      )

  -- if some were dropped, there are as many parts as the updates after the oldest version and its state have, if the
  -- state has no more parts than there are items of the updates up to it
  pub oldest_count : ((update : ℕ) → size_of (state_at update lists) ≤ count_updates (λ other. nat_le other update) lists) → 1 ≤ dropped
      → (updates : List (List Op)) × ResultFromOldest updates (kept_from dropped lists stamps) × (parts ≡ all_changes updates + size_of (oldest_state (kept_from dropped lists stamps)))
  oldest_count sizes some = by stamps (kept.one some) kept.history.count
    where
      by : (xs : List Stamp) → 1 ≤ length xs → first_base + length kept.history.updates ≡ dropped + length xs
          → (updates : List (List Op)) × ResultFromOldest updates (kept_from dropped lists xs) × (parts ≡ all_changes updates + size_of (oldest_state (kept_from dropped lists xs)))
      by [] one whole = absurd (omega (arith, one))
      by (oldest ∷ rest) one whole =
          let next : first_base ≡ dropped + 1 = base_some dropped some in
          let older = kept.history.older in
          let sum = have_sum lists one_more first_base kept.history.updates kept.history.parts in
          let size : size_of (state_at first_base lists) ≡ size_of (state_at (dropped + 1) lists) = ap (λ (n : ℕ). size_of (state_at n lists)) next in (
            kept.history.updates,
            subst (λ (n : ℕ). ResultFrom (state_at n lists) kept.history.updates (kept_from n lists rest)) next
                (have_results lists first_base kept.history.updates rest (omega (arith, whole, next)) kept.history.parts),
            omega (arith, sum, all_items, older, size, sizes first_base),
          )

-- Which versions a collection drops

module _ (bound : Clock) (dropped older : ℕ) (lists : Lists) (stamps : List Stamp) (kept : IsKept dropped lists stamps) (is : older ≡ pred (last_place (λ (stamp : Stamp). is_before stamp.clock bound) stamps)) where
  abbrev chain : ChainView
  chain = record { dropped = dropped; kept = kept_from dropped lists stamps }

  -- as many stamps are older than the newest one before the bound as a collection drops versions
  pub older_here : older ≡ older_versions bound (kept_from dropped lists stamps)
  older_here = is ∙ ap pred (sym (place_kept lists bound dropped stamps))

  -- if a collection drops versions, at least one is left
  pub older_inside : 1 ≤ older → older < length stamps
  older_inside some =
      let long = kept_length lists dropped stamps in
      let one = kept.one in
      let left : 1 ≤ length (kept_from dropped lists stamps) - older_versions bound (kept_from dropped lists stamps) =
      one-kept bound chain (λ any. let first = one any in omega (arith, first, long)) (let here = older_here in omega (arith, some, here)) in
      let here = older_here in
      omega (arith, left, long, here)

  -- if it drops none, the chain is already the collected one
  pub none_dropped : older ≡ 0 → chain ≡ collected_chain bound chain
  none_dropped none = sym (none-older bound chain (sym older_here ∙ none))

  -- if what is left are all versions but the older ones, the chain is the collected one
  pub some_dropped : (now : Lists) → kept_from (dropped + older) now (drop older stamps) ≡ drop older (kept_from dropped lists stamps) → record { dropped = dropped + older; kept = kept_from (dropped + older) now (drop older stamps) } ≡ collected_chain bound chain
  some_dropped now same = (λ i. record { dropped = dropped + older; kept = same i }) ∙ (λ i. record { dropped = dropped + older_here i; kept = drop (older_here i) (kept_from dropped lists stamps) })

-- What is asked of an update

module _ (dropped : ℕ) (lists : Lists) (stamps : List Stamp) (chain : ChainView) (before : ℕ) (seen : record { dropped = dropped; kept = kept_from dropped lists stamps } ≡ chain) (count : before ≡ update_count chain) where
  -- the updates that were applied are as many as versions were dropped and stamps are kept
  pub counted_before : before ≡ dropped + length stamps
  counted_before = count ∙ ap update_count (sym seen) ∙ ap (λ (n : ℕ). dropped + n) (kept_length lists dropped stamps)

  -- operations that pass on the newest state pass on the state that the parts have after that many updates
  pub passes_before : IsKept dropped lists stamps → (ops : List Op) → IsTrue (none_refused ops (newest_state chain.kept)) → IsTrue (none_refused ops (state_at before lists))
  passes_before kept ops passes =
      subst (λ (state : State). IsTrue (none_refused ops state))
      (ap (λ (c : ChainView). newest_state c.kept) (sym seen) ∙ newest_kept lists dropped stamps kept.one kept.start ∙ ap (λ (n : ℕ). state_at n lists) (sym counted_before)) passes

-- A last element

-- if there is a last stamp, it is one element
pub one_popped : (o : Option Stamp) → IsSome o → length (option_to_list o) ≡ 1
one_popped None some = absurd cc
one_popped (Some stamp) some = refl
