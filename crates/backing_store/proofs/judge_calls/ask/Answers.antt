use Rattle.std.proofs.Common.{◌≡◌, ◌++◌, [], ℕ, Bool, true, false, Option, Result, IfOk, List, length, inl, refl, sym, subst, ap, ◌∙◌}
use Rattle.std.specs.Prelude.{◌==◌, IsTrue}
use Rattle.std.specs.declared.alloc.AllocError.{AllocError}
use Rattle.std.proofs.lemmas.Bool.{eqb-true, false≢true}
use Rattle.std.proofs.lemmas.List.{append-nil, nil_from_length}
use Rattle.vector_stamp.specs.declared.clock.Stamp.{Stamp}
use Rattle.vector_stamp.specs.Precedence.{GivenPair}
use Rattle.vector_stamp.specs.Settling.{refused_place, IsRightRefusal, additions, places_of, pairs_of, SettledEntry, entries_of_call}
use Rattle.backing_store.specs.JudgeCalls.{if_permitted}
use Rattle.backing_store.proofs.judge_calls.ask.Goals as goal
use Rattle.backing_store.proofs.judge_calls.ask.Goals.{in-Ok, in-Err-Precedes, in-Err-Memory}

-- Nothing is asked

no_pairs : (keep : Bool) (pairs : List GivenPair) (later : Stamp) → pairs_of (additions keep pairs [] later) later ≡ []
no_pairs true pairs later = refl
no_pairs false pairs later = refl

no_entries : (keep : Bool) (author : ℕ) (pairs : List GivenPair) (later : Stamp) → entries_of_call author [] later (places_of (additions keep pairs [] later)) ≡ []
no_entries true author pairs later = refl
no_entries false author pairs later = refl

pub returns-then-is_empty : goal.returns-then-is_empty
returns-then-is_empty g c =
    let pairs = g.J.Judge.pairs c.args.judge.now in
    let log = g.J.Judge.log_of c.args.judge.now in
    let later = c.args.later in
    let empty : c.args.earlier.now ≡ [] = nil_from_length c.args.earlier.now (eqb-true (length c.args.earlier.now) 0 (sym c.is_empty.ensures ∙ c.if-is_empty.true)) in
    record {
      place = sym (ap (λ (stamps : List Stamp). refused_place pairs stamps later) empty);
      pairs = sym (append-nil pairs) ∙ ap (λ (added : List GivenPair). pairs ++ added)
          (sym (ap (λ (stamps : List Stamp). pairs_of (additions c.args.keep pairs stamps later) later) empty ∙ no_pairs c.args.keep pairs later));
      logged = λ keeps. sym (append-nil log) ∙ ap (λ (added : List SettledEntry). log ++ added)
          (sym (ap (λ (stamps : List Stamp). entries_of_call c.args.author stamps later (places_of (additions c.args.keep pairs stamps later))) empty ∙ no_entries c.args.keep c.args.author pairs later));
      known = λ stamp h. inl h;
      stay_known = λ stamp h. h;
      not_asked = λ none. refl;
      unchanged = tt;
    }

-- The judge's answer

pub settle-requires : goal.settle-requires
settle-requires g c = record { few = c.requires.few; other_ids = c.requires.other_ids; coherent = c.requires.coherent }

pub returns-clause-place : goal.returns-clause-place
returns-clause-place g c =
    let pairs = g.J.Judge.pairs c.args.judge.now in
    let IsPlace : Result (Option ℕ) AllocError → Type 0 = λ result. IfOk result (λ (place : Option ℕ). place ≡ refused_place pairs c.args.earlier.now c.args.later) in
    elim c.match-settle.branch [
      | in-Ok w ↦ subst IsPlace (sym w.result-is) (sym w.in-Ok.ensures.permitted)
      | in-Err-Precedes w ↦ subst IsPlace (sym w.result-is) (sym (subst (IsRightRefusal pairs c.args.earlier.now c.args.later) w.in-Err-Precedes.field-0-is w.in-Err-Precedes.ensures.refused))
      | in-Err-Memory w ↦ subst IsPlace (sym w.result-is) tt
    ]

pub returns-clause-pairs : goal.returns-clause-pairs
returns-clause-pairs g c =
    let pairs = g.J.Judge.pairs c.args.judge.now in
    let AreAdded : Result (Option ℕ) AllocError → Type 0 = λ result. IfOk result (λ (place : Option ℕ). g.J.Judge.pairs c.settle.new.self
    ≡ pairs ++ if_permitted place (pairs_of (additions c.args.keep pairs c.args.earlier.now c.args.later) c.args.later)) in
    elim c.match-settle.branch [
      | in-Ok w ↦ subst AreAdded (sym w.result-is) w.in-Ok.ensures.pairs
      | in-Err-Precedes w ↦ subst AreAdded (sym w.result-is) (w.in-Err-Precedes.ensures.no_pair ∙ sym (append-nil pairs))
      | in-Err-Memory w ↦ subst AreAdded (sym w.result-is) tt
    ]

pub returns-clause-logged : goal.returns-clause-logged
returns-clause-logged g c =
    let pairs = g.J.Judge.pairs c.args.judge.now in
    let log = g.J.Judge.log_of c.args.judge.now in
    let IsLogged : Result (Option ℕ) AllocError → Type 0 = λ result. IfOk result (λ (place : Option ℕ). IsTrue g.J.Judge.keeps_log → g.J.Judge.log_of c.settle.new.self
    ≡ log ++ if_permitted place (entries_of_call c.args.author c.args.earlier.now c.args.later (places_of (additions c.args.keep pairs c.args.earlier.now c.args.later)))) in
    elim c.match-settle.branch [
      | in-Ok w ↦ subst IsLogged (sym w.result-is) (λ keeps. w.in-Ok.ensures.logged keeps
          ∙ ap (λ (places : List ℕ). log ++ entries_of_call c.args.author c.args.earlier.now c.args.later places) w.in-Ok.ensures.places)
      | in-Err-Precedes w ↦ subst IsLogged (sym w.result-is) (λ keeps. w.in-Err-Precedes.ensures.not_logged keeps ∙ sym (append-nil log))
      | in-Err-Memory w ↦ subst IsLogged (sym w.result-is) tt
    ]

pub returns-clause-known : goal.returns-clause-known
returns-clause-known g c = c.settle.ensures.known

pub returns-clause-stay_known : goal.returns-clause-stay_known
returns-clause-stay_known g c = c.settle.ensures.stay_known

pub returns-clause-not_asked : goal.returns-clause-not_asked
returns-clause-not_asked g c = λ none.
    absurd (false≢true (sym c.if-is_empty.false ∙ c.is_empty.ensures ∙ ap (λ (stamps : List Stamp). length stamps == 0) none))
