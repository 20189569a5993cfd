-- If a begun program's stamp is met into its place, or its place is emptied when it ends, the table holds the running
-- programs.
-- Used by `end`, `is_running`, `low_mark`, `start` and Returning.
use Rattle.std.proofs.Common.{◌≡◌, ℕ, Bool, true, false, not, cond, ◌&&◌, List, [], ◌∷◌, ◌++◌, filter, fold, None, Some, is_some, inl, inr, refl, sym, ap, ◌∙◌}
use Rattle.std.specs.Cmp.{nat_eq_equiv}
use Rattle.std.specs.List.{list_any, AllByRecursion, IsDistinct}
use Rattle.std.specs.Map.{lookup, keys_of, values_of}
use Rattle.std.proofs.lemmas.Bool.{cases_Bool, eqb-true, eq-eqb}
use Rattle.std.proofs.lemmas.List.{append-nil}
use Rattle.std.proofs.lemmas.List.Sums.{fold-append}
use Rattle.std.proofs.lemmas.List.Elements.{filter-append}
use Rattle.std.proofs.lemmas.Map.{lookup-none, NonePasses}
use Rattle.std.proofs.lemmas.Map.Keys.{IsDistinct-head, IsDistinct-tail}
use Rattle.std.proofs.lemmas.Option.{same_Some}
use Rattle.vector_stamp.specs.declared.clock.Clock.{Clock}
use Rattle.vector_stamp.specs.declared.clock.Stamp.{Stamp}
use Rattle.vector_stamp.specs.Clocks.{meet_of}
use Rattle.weave_entries.specs.GateReplay.{BegunRequest, is_begun}
use Rattle.gatekeeper.specs.Running.{same_program, meet_of_stamps, met_after, HoldsPrograms}
use Rattle.gatekeeper.proofs.Meets.{MeetsCommute, met_with, met-late, met-parted}

abbrev stamp_clock : BegunRequest → Clock
stamp_clock begun = begun.stamp.clock

-- those under an author and number
abbrev under : ℕ × ℕ → List BegunRequest → List BegunRequest
under program running = filter (is_begun program.0 program.1) running

-- the others
abbrev apart_from : ℕ × ℕ → List BegunRequest → List BegunRequest
apart_from program running = filter (λ begun. not (is_begun program.0 program.1 begun)) running

and_both : (a b : Bool) → a && b ≡ true → (a ≡ true) × (b ≡ true)
and_both true b both = (refl, both)
and_both false b both = absurd (cc)

one_program : (a b : ℕ × ℕ) → same_program a b ≡ true → a ≡ b
one_program a b same =
    let both = and_both _ _ same in
    λ i. (eqb-true a.0 b.0 both.0 i, eqb-true a.1 b.1 both.1 i)

itself : (a : ℕ × ℕ) → same_program a a ≡ true
itself a = rw (eq-eqb a.0 a.0 refl, eq-eqb a.1 a.1 refl) refl

turned : (a b : ℕ × ℕ) → same_program a b ≡ same_program b a
turned a b = λ i. nat_eq_equiv.symm a.0 b.0 i && nat_eq_equiv.symm a.1 b.1 i

-- none is under the number and not
none_both : {A : Type 0} (p : A → Bool) (xs : List A) → filter p (filter (λ x. not (p x)) xs) ≡ []
none_both p [] = refl
none_both p (x ∷ xs) =
    elim (cases_Bool (p x)) [
      | inl holds ↦ rw holds (none_both p xs)
      | inr fails ↦ rw fails (rw fails (none_both p xs))
    ]

-- those that pass one test, if none of them passes the other
still_there : {A : Type 0} (p r : A → Bool) → ((x : A) → p x ≡ true → r x ≡ false) → (xs : List A) → filter p (filter (λ x. not (r x)) xs) ≡ filter p xs
still_there p r other [] = refl
still_there p r other (x ∷ xs) =
    elim (cases_Bool (r x)) [
      | inl drops ↦
          elim (cases_Bool (p x)) [
            | inl holds ↦ let e : true ≡ false = sym drops ∙ other x holds in absurd (cc)
            | inr fails ↦ rw (drops, fails) (still_there p r other xs)
          ]
      | inr stays ↦
          elim (cases_Bool (p x)) [
            | inl holds ↦ rw (stays, holds) (ap (λ ys. x ∷ ys) (still_there p r other xs))
            | inr fails ↦ rw (stays, fails) (still_there p r other xs)
          ]
    ]

under_other : (a b : ℕ × ℕ) → same_program a b ≡ false → (running : List BegunRequest) → under b (apart_from a running) ≡ under b running
under_other a b other running =
    still_there (is_begun b.0 b.1) (is_begun a.0 a.1) (λ x here.
    elim (cases_Bool (is_begun a.0 a.1 x)) [
      | inl there ↦
          let key : ℕ × ℕ = (x.author, x.request) in
          let e : a ≡ b = sym (one_program key a there) ∙ one_program key b here in
          let f : true ≡ false = sym (itself b) ∙ ap (λ k. same_program k b) (sym e) ∙ other in
          absurd (cc)
      | inr fails ↦ fails
    ]) running

-- whether one is running under an author and number
pub any_met : (p : BegunRequest → Bool) (running : List BegunRequest) → is_some (meet_of_stamps (filter p running)) ≡ list_any p running
any_met p [] = refl
any_met p (begun ∷ running) =
    elim (cases_Bool (p begun)) [
      | inl holds ↦ rw holds refl
      | inr fails ↦ rw fails (any_met p running)
    ]

-- A program is begun

met_more : (some : List BegunRequest) (begun : BegunRequest) → meet_of_stamps (some ++ begun ∷ []) ≡ Some (met_after (meet_of_stamps some) begun.stamp.clock)
met_more [] begun = refl
met_more (first ∷ some) begun = ap Some (fold-append _ _ some (begun ∷ []))

-- if the stamp of a program that is begun is met with what its place has, the table holds it with the others
pub begun_more : (es fs : List ((ℕ × ℕ) × Clock)) (running : List BegunRequest) (program : ℕ × ℕ) (stamp : Stamp) (low : Clock) → HoldsPrograms es running → low ≡ met_after (lookup (same_program program) es) stamp.clock → ((q : ℕ × ℕ) → lookup (same_program q) fs ≡ cond (same_program program q) (Some low) (lookup (same_program q) es)) → HoldsPrograms fs (running ++ record { author = program.0; request = program.1; stamp = stamp } ∷ [])
begun_more es fs running program stamp low holds low_is writes q =
    let begun : BegunRequest = record { author = program.0; request = program.1; stamp = stamp } in
    let parts : under q (running ++ begun ∷ []) ≡ under q running ++ cond (same_program program q) (begun ∷ []) [] = filter-append (is_begun q.0 q.1) running (begun ∷ []) in
    elim (cases_Bool (same_program program q)) [
      | inl here ↦
          let e = one_program program q here in
          let was : lookup (same_program program) es ≡ meet_of_stamps (under q running) = ap (λ k. lookup (same_program k) es) e ∙ holds q in
          writes q
          ∙ ap (λ b. cond b (Some low) (lookup (same_program q) es)) here
          ∙ ap Some (low_is ∙ ap (λ w. met_after w stamp.clock) was)
          ∙ sym (met_more (under q running) begun)
          ∙ ap (λ b. meet_of_stamps (under q running ++ cond b (begun ∷ []) [])) (sym here)
          ∙ ap meet_of_stamps (sym parts)
      | inr other ↦
          writes q
          ∙ ap (λ b. cond b (Some low) (lookup (same_program q) es)) other
          ∙ holds q
          ∙ ap meet_of_stamps (sym (append-nil (under q running)))
          ∙ ap (λ b. meet_of_stamps (under q running ++ cond b (begun ∷ []) [])) (sym other)
          ∙ ap meet_of_stamps (sym parts)
    ]

-- Programs are finished

-- if the place of a program is emptied, the table holds the programs that are still running
pub finished_more : (es fs : List ((ℕ × ℕ) × Clock)) (running : List BegunRequest) (program : ℕ × ℕ) → HoldsPrograms es running → ((q : ℕ × ℕ) → lookup (same_program q) fs ≡ cond (same_program program q) None (lookup (same_program q) es)) → HoldsPrograms fs (filter (λ begun. not (is_begun program.0 program.1 begun)) running)
finished_more es fs running program holds writes q =
    elim (cases_Bool (same_program program q)) [
      | inl here ↦
          writes q
          ∙ ap (λ b. cond b None (lookup (same_program q) es)) here
          ∙ ap meet_of_stamps (sym (none_both (is_begun q.0 q.1) running))
          ∙ ap (λ k. meet_of_stamps (under q (apart_from k running))) (sym (one_program program q here))
      | inr other ↦
          writes q
          ∙ ap (λ b. cond b None (lookup (same_program q) es)) other
          ∙ holds q
          ∙ ap meet_of_stamps (sym (under_other program q other running))
    ]

-- The low mark

met_is : MeetsCommute → (low m : Clock) (some : List BegunRequest) → Some m ≡ meet_of_stamps some → met_with stamp_clock low some ≡ meet_of low m
met_is laws low m [] is = absurd (cc)
met_is laws low m (begun ∷ some) is =
    let e : m ≡ met_with stamp_clock begun.stamp.clock some = same_Some _ _ is in
    met-late laws stamp_clock low begun.stamp.clock some ∙ ap (meet_of low) (sym e)

none_passes : (program : ℕ × ℕ) (es : List ((ℕ × ℕ) × Clock)) → AllByRecursion (λ y. same_program program y ≡ false) (keys_of es) → NonePasses (same_program program) es
none_passes program [] none = tt
none_passes program (e ∷ es) none = (none.0, none_passes program es none.1)

rest_holds : (e : (ℕ × ℕ) × Clock) (es : List ((ℕ × ℕ) × Clock)) (running : List BegunRequest) → IsDistinct same_program (keys_of (e ∷ es)) → HoldsPrograms (e ∷ es) running → HoldsPrograms es (apart_from e.0 running)
rest_holds e es running own holds q =
    elim (cases_Bool (same_program e.0 q)) [
      | inl here ↦
          let is = one_program e.0 q here in
          ap (λ k. lookup (same_program k) es) (sym is)
          ∙ lookup-none (same_program e.0) es (none_passes e.0 es (IsDistinct-head same_program e.0 (keys_of es) own))
          ∙ ap meet_of_stamps (sym (none_both (is_begun q.0 q.1) running))
          ∙ ap (λ k. meet_of_stamps (under q (apart_from k running))) (sym is)
      | inr other ↦
          ap (λ b. cond b (Some e.1) (lookup (same_program q) es)) (sym (turned q e.0 ∙ other))
          ∙ holds q
          ∙ ap meet_of_stamps (sym (under_other e.0 q other running))
    ]

-- the meet of all that the table has is that of all running programs
pub low_told : MeetsCommute → (es : List ((ℕ × ℕ) × Clock)) (running : List BegunRequest) (low : Clock) → IsDistinct same_program (keys_of es) → HoldsPrograms es running → fold meet_of low (values_of es) ≡ met_with stamp_clock low running
low_told laws [] [] low own holds = refl
low_told laws [] (begun ∷ running) low own holds =
    let program : ℕ × ℕ = (begun.author, begun.request) in
    let none : None ≡ meet_of_stamps (cond (same_program program program) (begun ∷ under program running) (under program running)) = holds program in
    let is : None ≡ meet_of_stamps (begun ∷ under program running) = none ∙ ap (λ b. meet_of_stamps (cond b (begun ∷ under program running) (under program running))) (itself program) in
    absurd (cc)
low_told laws (e ∷ es) running low own holds =
    let at : Some e.1 ≡ meet_of_stamps (under e.0 running) = ap (λ b. cond b (Some e.1) (lookup (same_program e.0) es)) (sym (itself e.0)) ∙ holds e.0 in
    low_told laws es (apart_from e.0 running) (meet_of low e.1) (IsDistinct-tail same_program e.0 (keys_of es) own) (rest_holds e es running own holds)
    ∙ ap (λ k. met_with stamp_clock k (apart_from e.0 running)) (sym (met_is laws low e.1 (under e.0 running) at))
    ∙ sym (met-parted laws stamp_clock (is_begun e.0.0 e.0.1) low running)
