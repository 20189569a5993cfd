-- An update under way: one item more, all items, and an update that is taken back.
-- Used by `add_ops` and `add_update`.
use Rattle.std.proofs.Common.{◌≡◌, ◌≤◌, ◌<◌, ◌+◌, inl, inr, ℕ, Bool, true, false, ◌&&◌, cond, List, [], ◌∷◌, drop, length, get_or, IsTrue, is_ok, refl, sym, ap, ◌∙◌, subst, arith, add-one, drop-cons}
use Rattle.std.specs.Prelude.{nat_le}
use Rattle.std.proofs.lemmas.Bool.{and_parts, le-leb, lt-leb}
use Rattle.std.proofs.Math.ListN.{drop_of_length-le}
use Rattle.weave_data.specs.declared.name.Name.{Name}
use Rattle.weave_data.proofs.Changing.{none_rise}
use Rattle.graph_ops.specs.declared.op.Op.{Op}
use Rattle.graph_ops.specs.Operations.{State, outcome_of_op}
use Rattle.graph_ops.specs.VertexOps.{state_left, state_after_ops, none_refused}
use Rattle.version_parts.specs.declared.lists.Lists.{Lists}
use Rattle.version_parts.specs.declared.time.Time.{Time}
use Rattle.version_parts.specs.declared.track.Item.{Item}
use Rattle.version_parts.specs.Counts.{count_updates, changes, changes_of}
use Rattle.version_parts.specs.Cuts.{lists_until}
use Rattle.version_parts.specs.InOrder.{ListsInOrder}
use Rattle.version_parts.specs.Ordered.{IsEarlierTime, KeysRise}
use Rattle.version_parts.specs.Placed.{AllInLists, AreUpTo}
use Rattle.version_parts.specs.States.{state_at, with_op}
use Rattle.version_parts.specs.Updates.{IsUnderWay}
use Rattle.version_parts.proofs.Counting.{op_count, until_count}
use Rattle.version_parts.proofs.Cutting.{until_stays}
use Rattle.version_parts.proofs.OneMore.{earlier_stay, one_more}
use Rattle.version_parts.proofs.Placing.{all_op, lists_weaker, counts_agree}
use Rattle.version_parts.proofs.Pushing.{no_later_update}
use Rattle.version_parts.proofs.Sequences.{op_push}

zero : (b : Bool) → cond {A = ℕ} b 0 0 ≡ 0
zero true = refl
zero false = refl

cond_sum : (b : Bool) (x y : ℕ) → cond b (x + y) 0 ≡ cond b x 0 + cond b y 0
cond_sum true x y = refl
cond_sum false x y = omega arith

-- an update is under way with no items yet if all items are of earlier ones, in order, and its operations pass
pub begun : (update : ℕ) (ops : List Op) (start : Lists) → AllInLists (λ time. time.update < update) start → ListsInOrder start → IsTrue (none_refused ops (state_at update start)) → IsUnderWay update 0 ops start start
begun update ops start before order passes = record {
  before = lists_weaker (λ time. time.update < update) (λ time. IsEarlierTime time (record { update = update; place = 0 })) (λ time below. inl below) start before;
  order = order;
  earlier = λ other below. refl;
  passes = passes;
  state = refl;
  counts = λ test. refl;
}

next_before : (update place : ℕ) (time : Time) → IsEarlierTime time (record { update = update; place = place }) → IsEarlierTime time (record { update = update; place = place + 1 })
next_before update place time (inl below) = inl below
next_before update place time (inr same) = inr (same.0, omega (arith, same.1))

module _ (update place : ℕ) (ops : List Op) (start now : Lists) (way : IsUnderWay update place ops start now) where
  module _ (op : Op) (inside : place < length ops) (is : op ≡ get_or ops place op) (numbered : 1 ≤ update) (rise : KeysRise op now) where
    abbrev time : Time
    time = record { update = update; place = place }

    abbrev rest : List Op
    rest = drop (place + 1) ops

    abbrev state : State
    state = state_at update now

    split : drop place ops ≡ op ∷ rest
    split = drop-cons ops place op inside ∙ (λ i. sym is i ∷ drop (sym (add-one place) i) ops)

    both : (IsTrue (is_ok (outcome_of_op op state))) × (IsTrue (none_refused rest (state_left state (outcome_of_op op state))))
    both = and_parts (is_ok (outcome_of_op op state)) (none_refused rest (state_left state (outcome_of_op op state))) (subst (λ (xs : List Op). IsTrue (none_refused xs state)) split way.passes)

    after : state_at update (with_op time op now) ≡ state_left state (outcome_of_op op state)
    after = one_more time now way.before numbered op rise both.0

    -- where keys rise, the item of the next operation brings the update one place further
    pub next : IsUnderWay update (place + 1) ops start (with_op time op now)
    next = record {
      before = all_op (λ earlier. IsEarlierTime earlier (record { update = update; place = place + 1 })) time op now
          (lists_weaker (λ earlier. IsEarlierTime earlier time) (λ earlier. IsEarlierTime earlier (record { update = update; place = place + 1 })) (next_before update place) now way.before) (inr (refl, omega arith));
      order = op_push time op now (lists_weaker (λ earlier. IsEarlierTime earlier time) (λ earlier. earlier.update ≤ update) (λ earlier is. no_later_update earlier time is) now way.before) way.order;
      earlier = λ other below. earlier_stay other time now below op rise ∙ way.earlier other below;
      passes = subst (λ (s : State). IsTrue (none_refused rest s)) (sym after) both.1;
      state = ap (state_after_ops rest) after ∙ ap (λ (xs : List Op). state_after_ops xs state) (sym split) ∙ way.state;
      counts = λ test.
          let added = op_count test time op now (none_rise {X = List (Item Name)} [] refl) rise in
          let was : count_updates test now + cond (test update) (changes_of op + changes rest) 0 ≡ count_updates test start + cond (test update) (changes ops) 0 =
          ap (λ (xs : List Op). count_updates test now + cond (test update) (changes xs) 0) (sym split) ∙ way.counts test in
          omega (arith, added, was, cond_sum (test update) (changes_of op) (changes rest));
    }

    -- the same of lists that are equal to those with this item
    pub next_is : (result : Lists) → result ≡ with_op time op now → IsUnderWay update (place + 1) ops start result
    next_is result e = subst (IsUnderWay update (place + 1) ops start) (sym e) next

  -- while an update is under way, all items are of it or of those before it
  pub way_within : AreUpTo update now
  way_within = lists_weaker (λ earlier. IsEarlierTime earlier (record { update = update; place = place })) (λ earlier. earlier.update ≤ update) (λ earlier is. no_later_update earlier (record { update = update; place = place }) is) now way.before

  -- a test that the update fails counts as many items as at the start
  pub way_others : (test : ℕ → Bool) → test update ≡ false → count_updates test now ≡ count_updates test start
  way_others test none =
      let here : cond (test update) (changes (drop place ops)) 0 ≡ 0 = ap (λ b. cond b (changes (drop place ops)) 0) none in
      let all : cond (test update) (changes ops) 0 ≡ 0 = ap (λ b. cond b (changes ops) 0) none in
      let counts = way.counts test in
      omega (arith, here, all, counts)

  module _ (past : length ops ≤ place) where
    none_left : drop place ops ≡ []
    none_left = drop_of_length-le ops past

    -- when all operations are done, the state after the update is the one they lead to from that at the start
    pub ended_state : state_at update now ≡ state_after_ops ops (state_at update start)
    ended_state = ap (λ (xs : List Op). state_after_ops xs (state_at update now)) (sym none_left) ∙ way.state

    -- when all operations are done, each that isn't a read has added one item of the update, and nothing else came
    pub ended_counts : (test : ℕ → Bool) → count_updates test now ≡ count_updates test start + cond (test update) (changes ops) 0
    ended_counts test =
        let left : cond (test update) (changes (drop place ops)) 0 ≡ cond {A = ℕ} (test update) 0 0 = ap (λ (xs : List Op). cond (test update) (changes xs) 0) none_left in
        let none = zero (test update) in
        let counts = way.counts test in
        omega (arith, left, none, counts)

-- An update whose items were added in part is taken back

module _ (before : ℕ) (start now : Lists) (within : AreUpTo before start) (others : (test : ℕ → Bool) → test (before + 1) ≡ false → count_updates test now ≡ count_updates test start) where
  -- if all items were of earlier updates and only the next one added some, dropping these leaves all counts as before
  pub undone_counts : (test : ℕ → Bool) → count_updates test (lists_until before now) ≡ count_updates test start
  undone_counts test =
      until_count test before now
      ∙ others (λ update. test update && nat_le update before) (ap (λ b. test (before + 1) && b) (lt-leb (before + 1) before (omega arith)) ∙ neither (test (before + 1)))
      ∙ counts_agree (λ update. test update && nat_le update before) test start
      (lists_weaker (λ time. time.update ≤ before) (λ time. (test time.update && nat_le time.update before) ≡ test time.update) (λ time old. ap (λ b. test time.update && b) (le-leb time.update before old) ∙ both (test time.update)) start within)
    where
      neither : (b : Bool) → (b && false) ≡ false
      neither true = refl
      neither false = refl

      both : (b : Bool) → (b && true) ≡ b
      both true = refl
      both false = refl

-- if the states after the updates up to one stayed, dropping later items leaves these states as at the start
pub undone_states : (before update : ℕ) (start now : Lists) → update ≤ before → ((other : ℕ) → other < before + 1 → state_at other now ≡ state_at other start) → state_at update (lists_until before now) ≡ state_at update start
undone_states before update start now old earlier = until_stays before update now old ∙ earlier update (omega (arith, old))
