use Rattle.std.proofs.Common.{◌≡◌, ◌≢◌, ◌<◌, ◌^◌, [], ◌∷◌, ◌++◌, ◌⊎◌, inl, ℕ, Bool, Option, None, Some, List, length, All, Contains, sym, subst, ap, ◌∙◌, arith}
use Rattle.std.specs.Prelude.{slice_index_or, slice_index}
use Rattle.vector_stamp.specs.declared.clock.Stamp.{Stamp}
use Rattle.vector_stamp.specs.Order.{id_of}
use Rattle.vector_stamp.specs.Coherence.{AreCoherent}
use Rattle.vector_stamp.specs.Precedence.{GivenPair, precedes}
use Rattle.vector_stamp.specs.Settling.{refused_place, additions, places_of, pairs_of, SettledEntry, entries_of_call}
use Rattle.weave_entries.specs.declared.verdict.Verdict.TheVariants.{Conflict}
use Rattle.backing_store.specs.JudgeCalls.{if_permitted}
use Rattle.backing_store.specs.Trying.{verdict_asked, graph_asked}
use Rattle.backing_store.proofs.Firsts.{found_within}
use Rattle.backing_store.proofs.deciding.decide.Goals as goal

-- The judge is asked with a copy of the stamps, and with whether something is pending

module _ (pairs : List GivenPair) (stamp : Stamp) (asked stamps : List Stamp) (keep pending : Bool) (place : Option ℕ)
    (place_is : place ≡ refused_place pairs asked stamp) (stamps_are : asked ≡ stamps) (keep_is : keep ≡ pending) where
  added_are : {A : Type 0} (kept : Bool → List Stamp → List A) → if_permitted place (kept keep asked) ≡ if_permitted (refused_place pairs stamps stamp) (kept pending stamps)
  added_are kept =
      ap (λ (at : Option ℕ). if_permitted at (kept keep asked)) place_is
      ∙ ap (λ (all : List Stamp). if_permitted (refused_place pairs all stamp) (kept keep all)) stamps_are
      ∙ ap (λ (is : Bool). if_permitted (refused_place pairs stamps stamp) (kept is stamps)) keep_is

pairs_asked : (old pairs : List GivenPair) (stamp : Stamp) (asked stamps : List Stamp) (keep pending : Bool) (place : Option ℕ) → place ≡ refused_place pairs asked stamp → asked ≡ stamps → keep ≡ pending
    → old ++ if_permitted place (pairs_of (additions keep pairs asked stamp) stamp) ≡ old ++ if_permitted (refused_place pairs stamps stamp) (pairs_of (additions pending pairs stamps stamp) stamp)
pairs_asked old pairs stamp asked stamps keep pending place place_is stamps_are keep_is =
    ap (λ (more : List GivenPair). old ++ more)
    (added_are pairs stamp asked stamps keep pending place place_is stamps_are keep_is (λ is all. pairs_of (additions is pairs all stamp) stamp))

entries_asked : (old : List SettledEntry) (author : ℕ) (pairs : List GivenPair) (stamp : Stamp) (asked stamps : List Stamp) (keep pending : Bool) (place : Option ℕ) → place ≡ refused_place pairs asked stamp → asked ≡ stamps → keep ≡ pending
    → old ++ if_permitted place (entries_of_call author asked stamp (places_of (additions keep pairs asked stamp)))
    ≡ old ++ if_permitted (refused_place pairs stamps stamp) (entries_of_call author stamps stamp (places_of (additions pending pairs stamps stamp)))
entries_asked old author pairs stamp asked stamps keep pending place place_is stamps_are keep_is =
    ap (λ (more : List SettledEntry). old ++ more)
    (added_are pairs stamp asked stamps keep pending place place_is stamps_are keep_is (λ is all. entries_of_call author all stamp (places_of (additions is pairs all stamp))))

pub ask-requires-clause-few : goal.ask-requires-clause-few
ask-requires-clause-few g c = subst (λ (stamps : List Stamp). length stamps < 2 ^ 32) (sym c.as_slice-stamps.ensures) c.requires.few

pub ask-requires-clause-other_ids : goal.ask-requires-clause-other_ids
ask-requires-clause-other_ids g c = subst (All (λ event. id_of event ≢ id_of c.args.stamp)) (sym c.as_slice-stamps.ensures) c.requires.other_ids

pub ask-requires-clause-coherent : goal.ask-requires-clause-coherent
ask-requires-clause-coherent g c =
    subst (λ (stamps : List Stamp). AreCoherent (c.args.stamp ∷ stamps ++ g.J.Judge.known c.args.judge.now)) (sym c.as_slice-stamps.ensures) c.requires.coherent

-- It permits all

pub returns-in-Ok-None-clause-logged : goal.returns-in-Ok-None-clause-logged
returns-in-Ok-None-clause-logged g c =
    let asked = c.args.asked.now in
    let refused : refused_place (g.J.Judge.pairs c.args.judge.now) asked.stamps c.args.stamp ≡ None =
    ap (λ (stamps : List Stamp). refused_place (g.J.Judge.pairs c.args.judge.now) stamps c.args.stamp) (sym c.as_slice-stamps.ensures) ∙ sym c.in-Ok-None.ensures.place ∙ c.in-Ok-None.field-0-is in
    ap (λ (place : Option ℕ). verdict_asked place asked.vertices asked.newer c.args.tried.logged) (sym refused)

pub returns-in-Ok-None-clause-answer : goal.returns-in-Ok-None-clause-answer
returns-in-Ok-None-clause-answer g c = c.requires.answer

pub returns-in-Ok-None-clause-graph : goal.returns-in-Ok-None-clause-graph
returns-in-Ok-None-clause-graph g c = λ outcome old trial.
    let refused : refused_place (g.J.Judge.pairs c.args.judge.now) c.args.asked.now.stamps c.args.stamp ≡ None =
    ap (λ (stamps : List Stamp). refused_place (g.J.Judge.pairs c.args.judge.now) stamps c.args.stamp) (sym c.as_slice-stamps.ensures) ∙ sym c.in-Ok-None.ensures.place ∙ c.in-Ok-None.field-0-is in
    c.keep.ensures outcome old trial ∙ ap (λ (place : Option ℕ). graph_asked place old outcome) (sym refused)

pub returns-in-Ok-None-clause-back : goal.returns-in-Ok-None-clause-back
returns-in-Ok-None-clause-back g c = λ outcome old trial. tt

pub returns-in-Ok-None-clause-pairs : goal.returns-in-Ok-None-clause-pairs
returns-in-Ok-None-clause-pairs g c =
    c.in-Ok-None.ensures.pairs ∙ pairs_asked (g.J.Judge.pairs c.args.judge.now) (g.J.Judge.pairs c.args.judge.now) c.args.stamp _ _ _ _ _ c.in-Ok-None.ensures.place c.as_slice-stamps.ensures c.is_some.ensures

pub returns-in-Ok-None-clause-judge_logged : goal.returns-in-Ok-None-clause-judge_logged
returns-in-Ok-None-clause-judge_logged g c = λ keeps.
    c.in-Ok-None.ensures.logged keeps ∙ entries_asked (g.J.Judge.log_of c.args.judge.now) c.args.author (g.J.Judge.pairs c.args.judge.now) c.args.stamp _ _ _ _ _ c.in-Ok-None.ensures.place c.as_slice-stamps.ensures c.is_some.ensures

pub returns-in-Ok-None-clause-stay_known : goal.returns-in-Ok-None-clause-stay_known
returns-in-Ok-None-clause-stay_known g c = c.ask.ensures.stay_known

pub returns-in-Ok-None-clause-not_asked : goal.returns-in-Ok-None-clause-not_asked
returns-in-Ok-None-clause-not_asked g c = λ none. c.ask.ensures.not_asked (c.as_slice-stamps.ensures ∙ none)

pub returns-in-Ok-None-clause-unchanged : goal.returns-in-Ok-None-clause-unchanged
returns-in-Ok-None-clause-unchanged g c = tt

-- It refuses a place

pub conflict_at-requires-clause-vertices : goal.conflict_at-requires-clause-vertices
conflict_at-requires-clause-vertices g c =
    let within = found_within (precedes (g.J.Judge.pairs c.args.judge.now) c.args.stamp) _ c.in-Ok-Some.place (sym c.in-Ok-Some.ensures.place ∙ c.in-Ok-Some.field-0-is) in
    omega (arith, within, ap (length {A = Stamp}) c.as_slice-stamps.ensures, c.requires.vertices)

pub conflict_at-requires-clause-newer : goal.conflict_at-requires-clause-newer
conflict_at-requires-clause-newer g c =
    let within = found_within (precedes (g.J.Judge.pairs c.args.judge.now) c.args.stamp) _ c.in-Ok-Some.place (sym c.in-Ok-Some.ensures.place ∙ c.in-Ok-Some.field-0-is) in
    omega (arith, within, ap (length {A = Stamp}) c.as_slice-stamps.ensures, c.requires.newer)

pub returns-in-Ok-Some-clause-logged : goal.returns-in-Ok-Some-clause-logged
returns-in-Ok-Some-clause-logged g c =
    let asked = c.args.asked.now in
    let refused : refused_place (g.J.Judge.pairs c.args.judge.now) asked.stamps c.args.stamp ≡ Some c.in-Ok-Some.place =
    ap (λ (stamps : List Stamp). refused_place (g.J.Judge.pairs c.args.judge.now) stamps c.args.stamp) (sym c.as_slice-stamps.ensures) ∙ sym c.in-Ok-Some.ensures.place ∙ c.in-Ok-Some.field-0-is in
    let there : c.conflict_at.result.logged ≡ Conflict (slice_index_or asked.vertices c.in-Ok-Some.place []) (slice_index asked.newer c.in-Ok-Some.place) = c.conflict_at.ensures.logged in
    there ∙ ap (λ (place : Option ℕ). verdict_asked place asked.vertices asked.newer c.args.tried.logged) (sym refused)

pub returns-in-Ok-Some-clause-graph : goal.returns-in-Ok-Some-clause-graph
returns-in-Ok-Some-clause-graph g c = λ outcome old trial.
    let refused : refused_place (g.J.Judge.pairs c.args.judge.now) c.args.asked.now.stamps c.args.stamp ≡ Some c.in-Ok-Some.place =
    ap (λ (stamps : List Stamp). refused_place (g.J.Judge.pairs c.args.judge.now) stamps c.args.stamp) (sym c.as_slice-stamps.ensures) ∙ sym c.in-Ok-Some.ensures.place ∙ c.in-Ok-Some.field-0-is in
    c.take_back.ensures outcome old trial ∙ ap (λ (place : Option ℕ). graph_asked place old outcome) (sym refused)

pub returns-in-Ok-Some-clause-answer : goal.returns-in-Ok-Some-clause-answer
returns-in-Ok-Some-clause-answer g c = c.conflict_at.ensures.answer

pub returns-in-Ok-Some-clause-back : goal.returns-in-Ok-Some-clause-back
returns-in-Ok-Some-clause-back g c = λ outcome old trial. tt

pub returns-in-Ok-Some-clause-pairs : goal.returns-in-Ok-Some-clause-pairs
returns-in-Ok-Some-clause-pairs g c =
    c.in-Ok-Some.ensures.pairs ∙ pairs_asked (g.J.Judge.pairs c.args.judge.now) (g.J.Judge.pairs c.args.judge.now) c.args.stamp _ _ _ _ _ c.in-Ok-Some.ensures.place c.as_slice-stamps.ensures c.is_some.ensures

pub returns-in-Ok-Some-clause-judge_logged : goal.returns-in-Ok-Some-clause-judge_logged
returns-in-Ok-Some-clause-judge_logged g c = λ keeps.
    c.in-Ok-Some.ensures.logged keeps ∙ entries_asked (g.J.Judge.log_of c.args.judge.now) c.args.author (g.J.Judge.pairs c.args.judge.now) c.args.stamp _ _ _ _ _ c.in-Ok-Some.ensures.place c.as_slice-stamps.ensures c.is_some.ensures

pub returns-in-Ok-Some-clause-stay_known : goal.returns-in-Ok-Some-clause-stay_known
returns-in-Ok-Some-clause-stay_known g c = c.ask.ensures.stay_known

pub returns-in-Ok-Some-clause-not_asked : goal.returns-in-Ok-Some-clause-not_asked
returns-in-Ok-Some-clause-not_asked g c = λ none. c.ask.ensures.not_asked (c.as_slice-stamps.ensures ∙ none)

pub returns-in-Ok-Some-clause-unchanged : goal.returns-in-Ok-Some-clause-unchanged
returns-in-Ok-Some-clause-unchanged g c = tt

pub returns-in-Ok-None-clause-known : goal.returns-in-Ok-None-clause-known
returns-in-Ok-None-clause-known g c = λ one h. subst (λ (stamps : List Stamp). Contains (g.J.Judge.known c.args.judge.now) one ⊎ Contains (c.args.stamp ∷ stamps) one) c.as_slice-stamps.ensures (c.ask.ensures.known one h)

pub returns-in-Ok-Some-clause-known : goal.returns-in-Ok-Some-clause-known
returns-in-Ok-Some-clause-known g c = λ one h. subst (λ (stamps : List Stamp). Contains (g.J.Judge.known c.args.judge.now) one ⊎ Contains (c.args.stamp ∷ stamps) one) c.as_slice-stamps.ensures (c.ask.ensures.known one h)

-- It is out of memory

pub returns-in-Err-clause-logged : goal.returns-in-Err-clause-logged
returns-in-Err-clause-logged g c = tt

pub returns-in-Err-clause-answer : goal.returns-in-Err-clause-answer
returns-in-Err-clause-answer g c = tt

pub returns-in-Err-clause-graph : goal.returns-in-Err-clause-graph
returns-in-Err-clause-graph g c = λ outcome old trial. tt

pub returns-in-Err-clause-pairs : goal.returns-in-Err-clause-pairs
returns-in-Err-clause-pairs g c = tt

pub returns-in-Err-clause-judge_logged : goal.returns-in-Err-clause-judge_logged
returns-in-Err-clause-judge_logged g c = tt

pub returns-in-Err-clause-known : goal.returns-in-Err-clause-known
returns-in-Err-clause-known g c = λ one h. inl (subst (λ judge. Contains (g.J.Judge.known judge) one) c.in-Err.ensures.unchanged h)

pub returns-in-Err-clause-stay_known : goal.returns-in-Err-clause-stay_known
returns-in-Err-clause-stay_known g c = c.ask.ensures.stay_known

pub returns-in-Err-clause-not_asked : goal.returns-in-Err-clause-not_asked
returns-in-Err-clause-not_asked g c = λ none. c.in-Err.ensures.unchanged

pub returns-in-Err-clause-unchanged : goal.returns-in-Err-clause-unchanged
returns-in-Err-clause-unchanged g c = c.in-Err.ensures.unchanged
