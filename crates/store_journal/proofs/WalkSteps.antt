-- The steps of the walk over the bytes of a journal.
-- Used by `pass_record` and `take_commit`.
use Rattle.std.proofs.Common.{◌≡◌, ◌≢◌, inl, inr, ℕ, zero, suc, ◌+◌, ◌<◌, ◌≤◌, Bool, true, false, ◌&&◌, cond, List, [], ◌∷◌, ◌++◌, length, take, drop, get_or, Option, None, Some, nat_le, nat_lt, refl, sym, ◌∙◌, ap, subst, arith, length-append, length-take}
use Rattle.std.specs.Prelude.{is_ok, Ok, Err}
use Rattle.std.specs.Int.{w32, from_be_bytes}
use Rattle.std.proofs.lemmas.Bool.{cases_Bool, cond-true, cond-false, le-ltb, ltb-true, leb-true, and_left, and_parts, and_right, and_from}
use Rattle.std.proofs.lemmas.List.{drop_all, drop_more, drop-drop}
use Rattle.std.proofs.lemmas.List.Sums.{fold-append}
use Rattle.graph_ops.specs.Graphs.{plain_of}
use Rattle.graph_ops.specs.PlainGraph.{PlainGraph, TxOutcome, graph_left, empty_graph, transaction}
use Rattle.vector_stamp.specs.Clocks.{start_clock}
use Rattle.vector_stamp.specs.Order.{is_before, own_count}
use Rattle.vector_stamp.specs.declared.clock.Clock.{Clock}
use Rattle.vector_stamp.specs.declared.clock.Stamp.{Stamp}
use Rattle.weave_text.specs.Lines.{Bytes}
use Rattle.store_journal.specs.Commits.{commit_of, graph_with_kept, graph_of, has_right_stamp, last_clock, may_follow}
use Rattle.store_journal.specs.Journal.{onward, record_size, walk, whole}
use Rattle.store_journal.specs.Payloads.{commit_said}
use Rattle.store_journal.specs.Walked.{HasPassed, TakesCommit, TakesPayload, payload_in, walk_from}
use Rattle.store_journal.specs.declared.kept_commit.Commit.{Commit}
use Rattle.store_journal.specs.declared.walk.Walked.{Walked}
use Rattle.store_journal.proofs.Walking.{walk_closed}

none_some : {A X : Type 0} (x : A) → None ≡ Some x → X
none_some x e = absurd cc

same_some : {A : Type 0} (x y : A) → Some x ≡ Some y → x ≡ y
same_some x y e = cc

-- A commit that is taken in

-- one with a wrong stamp is left
pub wrong_stamp : (old new : Walked) (commit : Commit) (earlier : List Commit) → HasPassed old earlier → new ≡ old
    → has_right_stamp old.clock old.number commit.stamp ≡ false → TakesCommit commit new false earlier
wrong_stamp old new commit earlier passed same wrong = record {
  tested = sym (and_left (has_right_stamp (last_clock earlier) (length earlier) commit.stamp) (is_ok (transaction commit.ops (graph_of earlier)))
      ((λ i. has_right_stamp (sym passed.clock i) (sym passed.number i) commit.stamp) ∙ wrong));
  passed = subst (λ w. HasPassed w earlier) (sym same) passed;
}

left_as_it_was : (outcome : TxOutcome) (graph : PlainGraph) → is_ok outcome ≡ false → graph_left graph outcome ≡ graph
left_as_it_was (Ok passed) graph e = absurd cc
left_as_it_was (Err stopped) graph e = refl

-- one that doesn't pass is left
pub not_passing : (old new : Walked) (commit : Commit) (earlier : List Commit) → HasPassed old earlier → new.clock ≡ old.clock → new.number ≡ old.number
    → plain_of new.graph ≡ graph_left (plain_of old.graph) (transaction commit.ops (plain_of old.graph))
    → is_ok (transaction commit.ops (plain_of old.graph)) ≡ false → TakesCommit commit new false earlier
not_passing old new commit earlier passed clock number graph failed = record {
  tested = sym (and_right (has_right_stamp (last_clock earlier) (length earlier) commit.stamp) (is_ok (transaction commit.ops (graph_of earlier)))
      (ap (λ g. is_ok (transaction commit.ops g)) (sym passed.graph) ∙ failed));
  passed = record {
    graph = graph ∙ left_as_it_was (transaction commit.ops (plain_of old.graph)) (plain_of old.graph) failed ∙ passed.graph;
    clock = clock ∙ passed.clock;
    number = number ∙ passed.number;
    epochs = passed.epochs;
  };
}

-- the epoch of a right stamp
right_epoch : (last : Clock) (number : ℕ) (stamp : Stamp) → has_right_stamp last number stamp ≡ true → stamp.clock.epoch ≤ number + 1
right_epoch last number stamp right =
    let early = nat_le 1 stamp.clock.epoch in
    let late = nat_le stamp.clock.epoch (number + 1) in
    let counted = nat_le 1 (own_count stamp) in
    let all = and_parts (is_before last stamp.clock && early && late) counted right in
    leb-true stamp.clock.epoch (number + 1) (and_parts (is_before last stamp.clock && early) late all.0).1

-- the graph, the clock and the number after one commit more
pub one_more_passed : (old new : Walked) (commit : Commit) (earlier : List Commit) → HasPassed old earlier → new.clock ≡ commit.stamp.clock
    → new.number ≡ old.number + 1 → plain_of new.graph ≡ graph_left (plain_of old.graph) (transaction commit.ops (plain_of old.graph))
    → has_right_stamp old.clock old.number commit.stamp ≡ true → HasPassed new (earlier ++ commit ∷ [])
one_more_passed old new commit earlier passed clock number graph right = record {
  graph = graph ∙ ap (λ g. graph_with_kept g commit) passed.graph ∙ sym (fold-append graph_with_kept empty_graph earlier (commit ∷ []));
  clock = clock ∙ sym last;
  number = number ∙ omega (arith, passed.number, length-append earlier (commit ∷ []));
  epochs = subst (λ (k : Clock). k.epoch ≤ length (earlier ++ commit ∷ [])) (sym last)
      (omega (arith, right_epoch old.clock old.number commit.stamp right, passed.number, length-append earlier (commit ∷ [])));
}
  where
    last : last_clock (earlier ++ commit ∷ []) ≡ commit.stamp.clock
    last = fold-append (λ _ (c : Commit). c.stamp.clock) start_clock earlier (commit ∷ [])

-- one that may follow is taken in
pub followed : (old new : Walked) (commit : Commit) (earlier : List Commit) → HasPassed old earlier → new.clock ≡ commit.stamp.clock
    → new.number ≡ old.number + 1 → plain_of new.graph ≡ graph_left (plain_of old.graph) (transaction commit.ops (plain_of old.graph))
    → has_right_stamp old.clock old.number commit.stamp ≡ true → is_ok (transaction commit.ops (plain_of old.graph)) ≡ true
    → TakesCommit commit new true earlier
followed old new commit earlier passed clock number graph right passes = record {
  tested = sym (and_from (has_right_stamp (last_clock earlier) (length earlier) commit.stamp) (is_ok (transaction commit.ops (graph_of earlier)))
      ((λ i. has_right_stamp (sym passed.clock i) (sym passed.number i) commit.stamp) ∙ right)
      (ap (λ g. is_ok (transaction commit.ops g)) (sym passed.graph) ∙ passes));
  passed = one_more_passed old new commit earlier passed clock number graph right;
}

-- the payload of a commit that was looked at
pub takes_payload : (payload : Bytes) (commit : Commit) (new : Walked) (may : Bool) (earlier : List Commit) → commit_said payload ≡ Some commit
    → TakesCommit commit new may earlier → TakesPayload payload new may earlier
takes_payload payload commit new true earlier said takes =
    (commit, ap (λ o. onward o None (λ c. cond (may_follow earlier c) (Some c) None)) said ∙ cond-true (may_follow earlier commit) (Some commit) None (sym takes.tested), takes.passed)
takes_payload payload commit new false earlier said takes =
    (ap (λ o. onward o None (λ c. cond (may_follow earlier c) (Some c) None)) said ∙ cond-false (may_follow earlier commit) (Some commit) None (sym takes.tested), takes.passed)

-- without a payload no commit
pub no_payload : (payload : Bytes) (new : Walked) (earlier : List Commit) → commit_said payload ≡ None → HasPassed new earlier
    → TakesPayload payload new false earlier
no_payload payload new earlier said passed =
    (ap (λ o. onward o None (λ c. cond (may_follow earlier c) (Some c) None)) said, passed)

-- A record after a gate byte

onward_if : {C X : Type 0} (t : Bool) (x : C) (f : C → Option X) → onward (cond t (Some x) None) None f ≡ cond t (f x) None
onward_if true x f = refl
onward_if false x f = refl

-- it is whole if its payload is there, and is that of a commit
pub whole_is : (earlier : List Commit) (bytes : Bytes) → whole commit_of earlier bytes ≡ onward (payload_in bytes) None (commit_of earlier)
whole_is earlier [] = refl
whole_is earlier (a ∷ []) = refl
whole_is earlier (a ∷ b ∷ []) = refl
whole_is earlier (a ∷ b ∷ c ∷ []) = refl
whole_is earlier (a ∷ b ∷ c ∷ d ∷ rest) =
    let bytes = a ∷ b ∷ c ∷ d ∷ rest in
    let size = from_be_bytes w32 bytes in
    let found = cond (nat_lt size (length rest)) (Some (take size rest)) None in
    let long : nat_lt (length bytes) 4 ≡ false = le-ltb (length bytes) 4 (omega arith) in
    sym (ap (λ o. onward o None (commit_of earlier)) (cond-false (nat_lt (length bytes) 4) None found long)
    ∙ onward_if (nat_lt size (length rest)) (take size rest) (commit_of earlier))

-- the size of a record whose payload is there
pub size_is : (bytes payload : Bytes) → payload_in bytes ≡ Some payload → record_size bytes ≡ 4 + length payload
size_is [] payload e = none_some payload e
size_is (a ∷ []) payload e = none_some payload e
size_is (a ∷ b ∷ []) payload e = none_some payload e
size_is (a ∷ b ∷ c ∷ []) payload e = none_some payload e
size_is (a ∷ b ∷ c ∷ d ∷ rest) payload e =
    let bytes = a ∷ b ∷ c ∷ d ∷ rest in
    let size = from_be_bytes w32 bytes in
    let found = cond (nat_lt size (length rest)) (Some (take size rest)) None in
    let long : nat_lt (length bytes) 4 ≡ false = le-ltb (length bytes) 4 (omega arith) in
    let there : found ≡ Some payload = sym (cond-false (nat_lt (length bytes) 4) None found long) ∙ e in
    elim (cases_Bool (nat_lt size (length rest))) [
      | inl fits ↦
          let is : take size rest ≡ payload = same_some _ _ (sym (cond-true (nat_lt size (length rest)) (Some (take size rest)) None fits) ∙ there) in
          omega (arith, ap length is, length-take size rest, ltb-true size (length rest) fits)
      | inr cut_off ↦ none_some payload (sym (cond-false (nat_lt size (length rest)) (Some (take size rest)) None cut_off) ∙ there)
    ]

module _ {C : Type 0} (reader : List C → List ℕ → Option C) where
  -- bytes that are passed over
  pub walk_skip : (earlier : List C) (place n : ℕ) (bytes : Bytes) → walk reader earlier place n bytes ≡ walk reader earlier place 0 (drop n bytes)
  walk_skip earlier place zero bytes = refl
  walk_skip earlier place (suc n) [] = refl
  walk_skip earlier place (suc n) (byte ∷ bytes) = walk_skip earlier place n bytes

  -- a gate byte 1
  pub walk_open : (earlier : List C) (place : ℕ) (bytes : Bytes) (found : Option C) → whole reader earlier bytes ≡ found
      → walk reader earlier place 0 (1 ∷ bytes)
      ≡ onward found (record { commits = earlier; gate = place }) (λ c. walk reader (earlier ++ c ∷ []) (place + 1 + record_size bytes) (record_size bytes) bytes)
  walk_open earlier place bytes found is =
      ap (λ o. onward o (record { commits = earlier; gate = place }) (λ c. walk reader (earlier ++ c ∷ []) (place + 1 + record_size bytes) (record_size bytes) bytes)) is

-- A step of the walk

module _ (file : Bytes) (gate : ℕ) (earlier : List Commit) where
  abbrev Stops : Type 0
  Stops = walk_from earlier gate file ≡ record { commits = earlier; gate = gate }

  -- at the end of the file
  pub at_end : length file ≤ gate → Stops
  at_end past = ap (walk commit_of earlier gate 0) (drop_all gate file past)

  split : gate < length file → drop gate file ≡ get_or file gate 0 ∷ drop (gate + 1) file
  split there = drop_more file gate 0 there

  -- at a gate byte that isn't 1
  pub at_closed : gate < length file → get_or file gate 0 ≢ 1 → Stops
  at_closed there closed =
      ap (walk commit_of earlier gate 0) (split there) ∙ walk_closed commit_of earlier gate (get_or file gate 0) (drop (gate + 1) file) closed

  module _ (there : gate < length file) (is_open : get_or file gate 0 ≡ 1) where
    opened : drop gate file ≡ 1 ∷ drop (gate + 1) file
    opened = split there ∙ ap (λ g. g ∷ drop (gate + 1) file) is_open

    -- with no payload after it
    pub at_short : payload_in (drop (gate + 1) file) ≡ None → Stops
    at_short none =
        ap (walk commit_of earlier gate 0) opened
        ∙ walk_open commit_of earlier gate (drop (gate + 1) file) None (whole_is earlier (drop (gate + 1) file) ∙ ap (λ o. onward o None (commit_of earlier)) none)

    -- with a payload that is of no commit
    pub at_strange : (payload : Bytes) → payload_in (drop (gate + 1) file) ≡ Some payload → commit_of earlier payload ≡ None → Stops
    at_strange payload some none =
        ap (walk commit_of earlier gate 0) opened
        ∙ walk_open commit_of earlier gate (drop (gate + 1) file) None (whole_is earlier (drop (gate + 1) file) ∙ ap (λ o. onward o None (commit_of earlier)) some ∙ none)

    -- with the payload of a commit
    pub at_record : (payload : Bytes) (commit : Commit) → payload_in (drop (gate + 1) file) ≡ Some payload → commit_of earlier payload ≡ Some commit
        → walk_from earlier gate file ≡ walk_from (earlier ++ commit ∷ []) (gate + 5 + length payload) file
    at_record payload commit some reads =
        let bytes = drop (gate + 1) file in
        let size : record_size bytes ≡ 4 + length payload = size_is bytes payload some in
        let next = earlier ++ commit ∷ [] in
        let place : gate + 1 + record_size bytes ≡ gate + 5 + length payload = omega (arith, size) in
        ap (walk commit_of earlier gate 0) opened
        ∙ walk_open commit_of earlier gate bytes (Some commit) (whole_is earlier bytes ∙ ap (λ o. onward o None (commit_of earlier)) some ∙ reads)
        ∙ walk_skip commit_of next (gate + 1 + record_size bytes) (record_size bytes) bytes
        ∙ ap (walk commit_of next (gate + 1 + record_size bytes) 0) (drop-drop (record_size bytes) (gate + 1) file)
        ∙ ap (λ k. walk commit_of next k 0 (drop k file)) place
