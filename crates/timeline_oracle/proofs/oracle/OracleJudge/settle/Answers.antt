use Rattle.std.proofs.Common.{◌≡◌, ◌≢◌, ◌==◌, ℕ, List, [], ◌∷◌, ◌++◌, length, map, true, false, Result, Ok, Err, None, Contains, ◌⊎◌, inl, refl, sym, ◌∙◌, ap, subst, arith}
use Rattle.std.specs.Prelude.{IfErr, IsErrAnd}
use Rattle.std.proofs.lemmas.Bool.{eqb-true}
use Rattle.std.proofs.lemmas.List.{append-nil, map-append, nil_from_length}
use Rattle.std.proofs.lemmas.Result.{IfOk-from_err}
use Rattle.weave_data.proofs.Results.{on_err_known}
use Rattle.vector_stamp.specs.declared.clock.Stamp.{Stamp}
use Rattle.vector_stamp.specs.declared.judge.Refusal.{Refusal}
use Rattle.vector_stamp.specs.declared.judge.Refusal.TheVariants.{Memory}
use Rattle.vector_stamp.specs.Coherence.{AreCoherent}
use Rattle.vector_stamp.specs.Precedence.{GivenPair}
use Rattle.vector_stamp.specs.Settling.{refused_place, IsRightRefusal, additions_from, additions, places_of, pairs_of, SettledEntry, entries_of_call}
use Rattle.weave_entries.specs.declared.oracle_log.OracleEntry.{OracleEntry}
use Rattle.order_graph.specs.Building.{ends_of}
use Rattle.timeline_oracle.specs.Log.{settled_entry, pairs_of_entry, pairs_of_log, IsRightEntry, IsOracleLog}
use Rattle.timeline_oracle.proofs.Known.{ends_after, ends_stay}
use Rattle.timeline_oracle.proofs.oracle.OracleJudge.settle.Goals as goal
use Rattle.timeline_oracle.proofs.oracle.OracleJudge.settle.Goals.{After-from_vec-2}

-- Before anything is put

-- out of memory is a right refusal, whatever is asked
right_for_memory : {A : Type 0} (result : Result A Refusal) (pairs : List GivenPair) (earlier : List Stamp) (later : Stamp) → IsErrAnd result (λ (refusal : Refusal). refusal ≡ Memory) → IfErr result (IsRightRefusal pairs earlier later)
right_for_memory (Ok a) pairs earlier later is = absurd is
right_for_memory (Err refusal) pairs earlier later is = subst (IsRightRefusal pairs earlier later) (sym is) tt

-- no place added, no pair added
none_added : (added : List (ℕ × Stamp)) (later : Stamp) → places_of added ≡ [] → pairs_of added later ≡ []
none_added [] later none = refl
none_added (event ∷ added) later none = absurd (cc)

pub first_refused-requires-clause-few : goal.first_refused-requires-clause-few
first_refused-requires-clause-few c = c.requires.few

pub first_refused-requires-clause-coherent : goal.first_refused-requires-clause-coherent
first_refused-requires-clause-coherent c =
    let kept : c.self.inside.graph.pairs ≡ pairs_of_log c.args.self.now = c.self.invariant.0 ∙ ap pairs_of_log c.self.view_is in
    subst (λ (pairs : List GivenPair). AreCoherent (c.args.later ∷ c.args.earlier.now ++ ends_of pairs)) (sym kept) c.requires.coherent

pub returns-in-Some : goal.returns-in-Some
returns-in-Some c =
    let kept : c.self.inside.graph.pairs ≡ pairs_of_log c.args.self.now = c.self.invariant.0 ∙ ap pairs_of_log c.self.view_is in
    record {
      permitted = tt;
      refused = ap (λ (pairs : List GivenPair). refused_place pairs c.args.earlier.now c.args.later) (sym kept) ∙ sym c.first_refused.ensures ∙ c.in-Some.is;
      places = tt;
      pairs = tt;
      no_pair = refl;
      known = λ stamp h. inl h;
      stay_known = λ stamp h. h;
      logged = tt;
      not_logged = λ keeps. refl;
      nothing = λ is. refl;
    }

pub returns-then-not-keep : goal.returns-then-not-keep
returns-then-not-keep c =
    let old = c.args.self.now in
    let kept : c.self.inside.graph.pairs ≡ pairs_of_log old = c.self.invariant.0 ∙ ap pairs_of_log c.self.view_is in
    let keep : c.args.keep ≡ false = c.if-not-keep.true in
    record {
      permitted = ap (λ (pairs : List GivenPair). refused_place pairs c.args.earlier.now c.args.later) (sym kept) ∙ sym c.first_refused.ensures ∙ c.in_default.is;
      refused = tt;
      places = c.new.ensures ∙ ap (λ keep. places_of (additions keep (pairs_of_log old) c.args.earlier.now c.args.later)) (sym keep);
      pairs = sym (append-nil (pairs_of_log old)) ∙ ap (λ keep. pairs_of_log old ++ pairs_of (additions keep (pairs_of_log old) c.args.earlier.now c.args.later) c.args.later) (sym keep);
      no_pair = tt;
      known = λ stamp h. inl h;
      stay_known = λ stamp h. h;
      logged = λ keeps. sym (append-nil (map settled_entry old)) ∙ ap (λ (places : List ℕ). map settled_entry old ++ entries_of_call c.args.author c.args.earlier.now c.args.later places) (sym c.new.ensures);
      not_logged = tt;
      nothing = λ is. refl;
    }

pub returns-in_err-places : goal.returns-in_err-places
returns-in_err-places c =
    let result = c.from_residual.result in
    let is = c.from_residual.ensures in
    record {
      permitted = IfOk-from_err result _ is.0;
      refused = right_for_memory result (pairs_of_log c.args.self.now) c.args.earlier.now c.args.later is.1;
      places = IfOk-from_err result _ is.0;
      pairs = IfOk-from_err result _ is.0;
      no_pair = on_err_known result _ refl;
      known = λ stamp h. inl h;
      stay_known = λ stamp h. h;
      logged = IfOk-from_err result _ is.0;
      not_logged = on_err_known result _ (λ keeps. refl);
      nothing = λ is. refl;
    }

pub returns-in_err-logged : goal.returns-in_err-logged
returns-in_err-logged c =
    let result = c.from_residual-in_err-logged.result in
    let is = c.from_residual-in_err-logged.ensures in
    record {
      permitted = IfOk-from_err result _ is.0;
      refused = right_for_memory result (pairs_of_log c.args.self.now) c.args.earlier.now c.args.later is.1;
      places = IfOk-from_err result _ is.0;
      pairs = IfOk-from_err result _ is.0;
      no_pair = on_err_known result _ refl;
      known = λ stamp h. inl h;
      stay_known = λ stamp h. h;
      logged = IfOk-from_err result _ is.0;
      not_logged = on_err_known result _ (λ keeps. refl);
      nothing = λ is. refl;
    }

pub returns-in_err-handed : goal.returns-in_err-handed
returns-in_err-handed c =
    let result = c.from_residual-in_err-handed.result in
    let is = c.from_residual-in_err-handed.ensures in
    record {
      permitted = IfOk-from_err result _ is.0;
      refused = right_for_memory result (pairs_of_log c.args.self.now) c.args.earlier.now c.args.later is.1;
      places = IfOk-from_err result _ is.0;
      pairs = IfOk-from_err result _ is.0;
      no_pair = on_err_known result _ refl;
      known = λ stamp h. inl h;
      stay_known = λ stamp h. h;
      logged = IfOk-from_err result _ is.0;
      not_logged = on_err_known result _ (λ keeps. refl);
      nothing = λ is. refl;
    }

pub invariant_of-self : goal.invariant_of-self
invariant_of-self c =
    let same = sym c.reserve.ensures.items in
    (c.self.invariant.0 ∙ ap pairs_of_log same, subst IsOracleLog same c.self.invariant.1)

pub returns-in_err-reserve : goal.returns-in_err-reserve
returns-in_err-reserve c =
    let result = c.from_residual-in_err-reserve.result in
    let is = c.from_residual-in_err-reserve.ensures in
    let same : c.reserve.new.self.items ≡ c.args.self.now = c.reserve.ensures.items ∙ c.self.view_is in
    record {
      permitted = IfOk-from_err result _ is.0;
      refused = right_for_memory result (pairs_of_log c.args.self.now) c.args.earlier.now c.args.later is.1;
      places = IfOk-from_err result _ is.0;
      pairs = IfOk-from_err result _ is.0;
      no_pair = on_err_known result _ (ap pairs_of_log same);
      known = λ stamp h. inl (subst (λ (log : List OracleEntry). Contains (ends_of (pairs_of_log log)) stamp) same h);
      stay_known = λ stamp h. subst (λ (log : List OracleEntry). Contains (ends_of (pairs_of_log log)) stamp) (sym same) h;
      logged = IfOk-from_err result _ is.0;
      not_logged = on_err_known result _ (λ keeps. ap (map settled_entry) same);
      nothing = λ is. same;
    }

pub invariant_of-self-in_err-reserve-2 : goal.invariant_of-self-in_err-reserve-2
invariant_of-self-in_err-reserve-2 c =
    let same = sym c.reserve.ensures.items in
    (c.reserve-2.ensures.pairs ∙ c.self.invariant.0 ∙ ap pairs_of_log same, subst IsOracleLog same c.self.invariant.1)

pub returns-in_err-reserve-2 : goal.returns-in_err-reserve-2
returns-in_err-reserve-2 c =
    let result = c.from_residual-in_err-reserve-2.result in
    let is = c.from_residual-in_err-reserve-2.ensures in
    let same : c.reserve.new.self.items ≡ c.args.self.now = c.reserve.ensures.items ∙ c.self.view_is in
    record {
      permitted = IfOk-from_err result _ is.0;
      refused = right_for_memory result (pairs_of_log c.args.self.now) c.args.earlier.now c.args.later is.1;
      places = IfOk-from_err result _ is.0;
      pairs = IfOk-from_err result _ is.0;
      no_pair = on_err_known result _ (ap pairs_of_log same);
      known = λ stamp h. inl (subst (λ (log : List OracleEntry). Contains (ends_of (pairs_of_log log)) stamp) same h);
      stay_known = λ stamp h. subst (λ (log : List OracleEntry). Contains (ends_of (pairs_of_log log)) stamp) (sym same) h;
      logged = IfOk-from_err result _ is.0;
      not_logged = on_err_known result _ (λ keeps. ap (map settled_entry) same);
      nothing = λ is. same;
    }

-- What is put

pub put_before-requires : goal.put_before-requires
put_before-requires c =
    let kept : c.reserve-2.new.self.pairs ≡ pairs_of_log c.args.self.now = c.reserve-2.ensures.pairs ∙ c.self.invariant.0 ∙ ap pairs_of_log c.self.view_is in
    record {
      few = c.requires.few;
      other_ids = c.requires.other_ids;
      coherent = subst (λ (pairs : List GivenPair). AreCoherent (c.args.later ∷ c.args.earlier.now ++ ends_of pairs)) (sym kept) c.requires.coherent;
      permitted = ap (λ (pairs : List GivenPair). refused_place pairs c.args.earlier.now c.args.later) c.reserve-2.ensures.pairs ∙ sym c.first_refused.ensures ∙ c.in_default.is;
      room = omega (arith, c.in_ok-reserve-2.ensures.room);
      room_of_places = omega (arith, c.in_ok-places.ensures.room);
      no_places = c.in_ok-places.ensures.none;
    }

pub invariant_of-self-then-is_empty : goal.invariant_of-self-then-is_empty
invariant_of-self-then-is_empty c =
    let before = c.reserve-2.new.self.pairs in
    let same = sym c.reserve.ensures.items in
    let count : c.put_before.new.places.len ≡ 0 = eqb-true c.put_before.new.places.len 0 (sym c.if-is_empty.ensures) in
    let empty : c.put_before.new.places.items ≡ [] = nil_from_length c.put_before.new.places.items (omega (arith, c.put_before.new.places.ok.0, count)) in
    let none : pairs_of (additions_from 0 before c.args.earlier.now c.args.later) c.args.later ≡ [] = none_added _ c.args.later (sym c.put_before.ensures.places ∙ empty) in (
      c.put_before.ensures.pairs ∙ ap (λ (ps : List GivenPair). before ++ ps) none ∙ append-nil before ∙ c.reserve-2.ensures.pairs ∙ c.self.invariant.0 ∙ ap pairs_of_log same,
      subst IsOracleLog same c.self.invariant.1,
    )

pub returns-then-is_empty : goal.returns-then-is_empty
returns-then-is_empty c =
    let old = c.args.self.now in
    let kept : c.reserve-2.new.self.pairs ≡ pairs_of_log old = c.reserve-2.ensures.pairs ∙ c.self.invariant.0 ∙ ap pairs_of_log c.self.view_is in
    let same : c.reserve.new.self.items ≡ old = c.reserve.ensures.items ∙ c.self.view_is in
    let keep : c.args.keep ≡ true = c.if-not-keep.false in
    let count : c.put_before.new.places.len ≡ 0 = eqb-true c.put_before.new.places.len 0 (sym c.if-is_empty.ensures) in
    let empty : c.put_before.new.places.items ≡ [] = nil_from_length c.put_before.new.places.items (omega (arith, c.put_before.new.places.ok.0, count)) in
    let added : c.put_before.new.places.items ≡ places_of (additions_from 0 (pairs_of_log old) c.args.earlier.now c.args.later) = c.put_before.ensures.places ∙ ap (λ (pairs : List GivenPair). places_of (additions_from 0 pairs c.args.earlier.now c.args.later)) kept in
    let none : pairs_of (additions_from 0 (pairs_of_log old) c.args.earlier.now c.args.later) c.args.later ≡ [] = none_added _ c.args.later (sym added ∙ empty) in
    record {
      permitted = ap (λ (pairs : List GivenPair). refused_place pairs c.args.earlier.now c.args.later) (ap pairs_of_log (sym c.self.view_is) ∙ sym c.self.invariant.0) ∙ sym c.first_refused.ensures ∙ c.in_default.is;
      refused = tt;
      places = c.from_vec.ensures ∙ added ∙ ap (λ keep. places_of (additions keep (pairs_of_log old) c.args.earlier.now c.args.later)) (sym keep);
      pairs = ap pairs_of_log same ∙ sym (append-nil (pairs_of_log old)) ∙ ap (λ (ps : List GivenPair). pairs_of_log old ++ ps) (sym none)
          ∙ ap (λ keep. pairs_of_log old ++ pairs_of (additions keep (pairs_of_log old) c.args.earlier.now c.args.later) c.args.later) (sym keep);
      no_pair = tt;
      known = λ stamp h. inl (subst (λ (log : List OracleEntry). Contains (ends_of (pairs_of_log log)) stamp) same h);
      stay_known = λ stamp h. subst (λ (log : List OracleEntry). Contains (ends_of (pairs_of_log log)) stamp) (sym same) h;
      logged = λ keeps. ap (map settled_entry) same ∙ sym (append-nil (map settled_entry old))
          ∙ ap (λ (places : List ℕ). map settled_entry old ++ entries_of_call c.args.author c.args.earlier.now c.args.later places) (sym (c.from_vec.ensures ∙ empty));
      not_logged = tt;
      nothing = λ is. same;
    }

-- What is logged

-- the pairs before any is added are those of the log
kept : (c : After-from_vec-2) → c.reserve-2.new.self.pairs ≡ pairs_of_log c.self.inside.log.items
kept c = c.reserve-2.ensures.pairs ∙ c.self.invariant.0

abbrev as_settled : ℕ → List Stamp → Stamp → List ℕ → SettledEntry
as_settled author earlier later places = record { author = author; earlier = earlier; later = later; places = places }

log_after : (c : After-from_vec-2) → c.push_reserved.new.self.items ≡ c.self.inside.log.items ++ c.entry_of.result ∷ []
log_after c = c.push_reserved.ensures.items ∙ ap (λ (log : List OracleEntry). log ++ c.entry_of.result ∷ []) c.reserve.ensures.items

added : (c : After-from_vec-2) → c.put_before.new.places.items ≡ places_of (additions_from 0 (pairs_of_log c.self.inside.log.items) c.args.earlier.now c.args.later)
added c = c.put_before.ensures.places ∙ ap (λ (pairs : List GivenPair). places_of (additions_from 0 pairs c.args.earlier.now c.args.later)) (kept c)

told : (c : After-from_vec-2) → settled_entry c.entry_of.result ≡ record { author = c.args.author; earlier = c.args.earlier.now; later = c.args.later; places = c.put_before.new.places.items }
told c = c.entry_of.ensures ∙ ap (λ (earlier : List Stamp). as_settled c.args.author earlier c.args.later c.copy_places.new.copy.items) c.in_ok-handed.ensures.items ∙ ap (as_settled c.args.author c.args.earlier.now c.args.later) (c.copy_places.ensures ∙ c.as_slice.ensures.value)

-- the entry is right after the log before it
right_as : (c : After-from_vec-2) → IsRightEntry (pairs_of_log c.self.inside.log.items) (as_settled c.args.author c.args.earlier.now c.args.later c.put_before.new.places.items)
right_as c =
    let log = c.self.inside.log.items in
    let permitted : refused_place (pairs_of_log log) c.args.earlier.now c.args.later ≡ None =
    ap (λ (pairs : List GivenPair). refused_place pairs c.args.earlier.now c.args.later) (sym c.self.invariant.0) ∙ sym c.first_refused.ensures ∙ c.in_default.is in
    let some : c.put_before.new.places.items ≢ [] = λ e. let both : true ≡ false = sym (ap (λ (n : ℕ). n == 0) (c.put_before.new.places.ok.0 ∙ ap (length {A = ℕ}) e)) ∙ sym c.if-is_empty.ensures in cc in
    record { others = c.requires.other_ids; permitted = permitted; added = added c; some = some }

pairs_of_after : (c : After-from_vec-2) → pairs_of_log c.push_reserved.new.self.items ≡ pairs_of_log c.self.inside.log.items ++ pairs_of (additions_from 0 (pairs_of_log c.self.inside.log.items) c.args.earlier.now c.args.later) c.args.later
pairs_of_after c =
    let log = c.self.inside.log.items in
    let laws = c.an_oracle_log_goes_on.ensures in
    ap pairs_of_log (log_after c) ∙ laws.pairs log c.entry_of.result
    ∙ ap (λ (ps : List GivenPair). pairs_of_log log ++ ps) (ap pairs_of_entry (told c) ∙ laws.added (pairs_of_log log) (as_settled c.args.author c.args.earlier.now c.args.later c.put_before.new.places.items) (right_as c))

-- a call that added a place has an entry
one_entry : (author : ℕ) (earlier : List Stamp) (later : Stamp) (places : List ℕ) → places ≢ [] → entries_of_call author earlier later places ≡ as_settled author earlier later places ∷ []
one_entry author earlier later [] some = absurd (some refl)
one_entry author earlier later (place ∷ places) some = refl

-- an answer is no refusal
answer_is_none : {A : Type 0} (answer : A) (refusal : Refusal) → Ok answer ≡ Err refusal → ⊥
answer_is_none answer refusal is = cc

pub copy_places-requires-clause-none : goal.copy_places-requires-clause-none
copy_places-requires-clause-none c = c.in_ok-logged.ensures.none

pub push_reserved-requires : goal.push_reserved-requires
push_reserved-requires c = omega (arith, c.in_ok-reserve.ensures.ok)

pub copy_places-requires-clause-room : goal.copy_places-requires-clause-room
copy_places-requires-clause-room c = omega (arith, ap (length {A = ℕ}) c.as_slice.ensures.value, c.put_before.ensures.not_more, c.in_ok-logged.ensures.room)

pub invariant_of-self-2 : goal.invariant_of-self-2
invariant_of-self-2 c =
    let log = c.self.inside.log.items in
    let entry : IsRightEntry (pairs_of_log log) (settled_entry c.entry_of.result) = subst (IsRightEntry (pairs_of_log log)) (sym (told c)) (right_as c) in
    let right = c.an_oracle_log_goes_on.ensures.right log c.entry_of.result c.self.invariant.1 entry in (
      c.put_before.ensures.pairs ∙ ap (λ (pairs : List GivenPair). pairs ++ pairs_of (additions_from 0 pairs c.args.earlier.now c.args.later) c.args.later) (kept c) ∙ sym (pairs_of_after c),
      subst IsOracleLog (sym (log_after c)) right,
    )

pub returns-clause-permitted : goal.returns-clause-permitted
returns-clause-permitted c =
    ap (λ (log : List OracleEntry). refused_place (pairs_of_log log) c.args.earlier.now c.args.later) (sym c.self.view_is) ∙ (right_as c).permitted

pub returns-clause-refused : goal.returns-clause-refused
returns-clause-refused c = tt

pub returns-clause-places : goal.returns-clause-places
returns-clause-places c =
    let keep : c.args.keep ≡ true = c.if-not-keep.false in
    c.from_vec-2.ensures ∙ added c
    ∙ ap (λ (log : List OracleEntry). places_of (additions_from 0 (pairs_of_log log) c.args.earlier.now c.args.later)) c.self.view_is
    ∙ ap (λ keep. places_of (additions keep (pairs_of_log c.args.self.now) c.args.earlier.now c.args.later)) (sym keep)

pub returns-clause-no_pair : goal.returns-clause-no_pair
returns-clause-no_pair c = tt

pub returns-clause-logged : goal.returns-clause-logged
returns-clause-logged c keeps =
    let log = c.self.inside.log.items in
    let places = c.put_before.new.places.items in
    ap (map settled_entry) (log_after c) ∙ map-append settled_entry log (c.entry_of.result ∷ [])
    ∙ ap (λ (entry : SettledEntry). map settled_entry log ++ entry ∷ []) (told c)
    ∙ ap (λ (entries : List SettledEntry). map settled_entry log ++ entries) (sym (one_entry c.args.author c.args.earlier.now c.args.later places (right_as c).some))
    ∙ ap (λ (old : List OracleEntry). map settled_entry old ++ entries_of_call c.args.author c.args.earlier.now c.args.later places) c.self.view_is
    ∙ ap (λ (answered : List ℕ). map settled_entry c.args.self.now ++ entries_of_call c.args.author c.args.earlier.now c.args.later answered) (sym c.from_vec-2.ensures)

pub returns-clause-not_logged : goal.returns-clause-not_logged
returns-clause-not_logged c = tt

pub returns-clause-nothing : goal.returns-clause-nothing
returns-clause-nothing c is = absurd (answer_is_none _ _ is)

pub returns-clause-pairs : goal.returns-clause-pairs
returns-clause-pairs c =
    let keep : c.args.keep ≡ true = c.if-not-keep.false in
    pairs_of_after c
    ∙ ap (λ (log : List OracleEntry). pairs_of_log log ++ pairs_of (additions_from 0 (pairs_of_log log) c.args.earlier.now c.args.later) c.args.later) c.self.view_is
    ∙ ap (λ keep. pairs_of_log c.args.self.now ++ pairs_of (additions keep (pairs_of_log c.args.self.now) c.args.earlier.now c.args.later) c.args.later) (sym keep)

pub returns-clause-known : goal.returns-clause-known
returns-clause-known c =
    let laws = c.ends_are_of_pairs.ensures in
    λ stamp h.
    let after = ends_after laws.appended laws.no_others c.settling_puts_all_before.ensures.of_earlier (pairs_of_log c.self.inside.log.items) c.args.earlier.now c.args.later stamp (subst (λ (pairs : List GivenPair). Contains (ends_of pairs) stamp) (pairs_of_after c) h) in
    subst (λ (log : List OracleEntry). Contains (ends_of (pairs_of_log log)) stamp ⊎ Contains (c.args.later ∷ c.args.earlier.now) stamp) c.self.view_is after

pub returns-clause-stay_known : goal.returns-clause-stay_known
returns-clause-stay_known c =
    λ stamp h.
    let before = subst (λ (log : List OracleEntry). Contains (ends_of (pairs_of_log log)) stamp) (sym c.self.view_is) h in
    subst (λ (pairs : List GivenPair). Contains (ends_of pairs) stamp) (sym (pairs_of_after c))
    (ends_stay c.ends_are_of_pairs.ensures.appended (pairs_of_log c.self.inside.log.items) (pairs_of (additions_from 0 (pairs_of_log c.self.inside.log.items) c.args.earlier.now c.args.later) c.args.later) stamp before)
