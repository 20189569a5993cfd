-- A program's reads in turn: none, the same, and one more.
-- Used by TurnsKept and crate sessions_account.
use Rattle.std.proofs.Common.{◌≡◌, ◌≢◌, not, List, [], ◌++◌, AllPairs, Contains, IsTrue, None, Some, ◌⊎◌, inl, inr, sym, ap, subst, ◌∙◌}
use Rattle.std.specs.Map.{keys_of}
use Rattle.std.proofs.lemmas.List.Elements.{Contains-append_left, Contains-append_right}
use Rattle.weave_data.proofs.Members.{find_has, has_map}
use Rattle.weave_data.proofs.Ordered.{pairs_none}
use Rattle.weave_data.specs.declared.name.Name.{Name}
use Rattle.graph_ops.specs.Mentions.{is_among}
use Rattle.graph_ops.specs.Operations.{State}
use Rattle.program_defs.specs.declared.program.Program.{Program}
use Rattle.program_defs.specs.Visits.{next_visit, AreFirstVisits}
use Rattle.weave_account.specs.Programs.{ReadsInTurn}
use Rattle.weaver_hands.specs.Programs.{GainsRead}
use Rattle.workers_account.specs.ReadLaws.{ReadLaws}
use Rattle.step_rules.proofs.FindLists.{pairs-into}
use Rattle.step_rules.proofs.VisitStep.{not-both}

-- no two reads are of one vertex
abbrev OfTwo : Name × State → Name × State → Type 0
OfTwo a b = a.0 ≢ b.0

-- nothing was read, and the program is not finished
pub turn-at-first : (program : Program) (finished : Type 0) → (finished → ⊥) → ReadsInTurn [] program finished
turn-at-first program finished unfinished = record {
  once = pairs_none OfTwo;
  first_ones = λ v. (λ h. h, λ h. h);
  whole = λ done. absurd (unfinished done);
}

-- the same was read, and if the program is finished now it was before, or has read all that it visits
pub turn-same : (old new : List (Name × State)) (program : Program) (was is : Type 0) → new ≡ old
    → (is → was ⊎ (next_visit old program ≡ None)) → ReadsInTurn old program was → ReadsInTurn new program is
turn-same old new program was is same done turn =
    subst (λ (reads : List (Name × State)). ReadsInTurn reads program is) (sym same) (record {
      once = turn.once;
      first_ones = turn.first_ones;
      whole = λ now. over (done now);
    })
  where
    over : was ⊎ (next_visit old program ≡ None) → next_visit old program ≡ None
    over (inl before) = turn.whole before
    over (inr none) = none

-- the next visit was made
pub turn-more : (laws : ReadLaws) (old new : List (Name × State)) (program : Program) (v : Name) (state : State) (finished : Type 0)
    → next_visit old program ≡ Some v → GainsRead old new (v, state) → ReadsInTurn old program finished → ReadsInTurn new program finished
turn-more laws old new program v state finished next-is gains was =
    let front = gains.front in
    let back = gains.back in
    let after : next_visit (front ++ back) program ≡ Some v = ap (λ (reads : List (Name × State)). next_visit reads program) (sym gains.was) ∙ next-is in
    let distinct : AllPairs OfTwo (front ++ back) = subst (AllPairs OfTwo) gains.was was.once in
    let first : AreFirstVisits (front ++ back) program = subst (λ (reads : List (Name × State)). AreFirstVisits reads program) gains.was was.first_ones in
    let fresh : ¬ IsTrue (is_among (keys_of (front ++ back)) v) = λ h. not-both (is_among (keys_of (front ++ back)) v)
    (find_has (λ w. not (is_among (keys_of (front ++ back)) w)) _ v after).1 h in
    let other : (y : Name × State) → Contains (front ++ back) y → y.0 ≢ v = λ y h same. fresh
    ((laws.among_tested (keys_of (front ++ back)) v).1 (subst (λ w. Contains (keys_of (front ++ back)) w) same (has_map (λ (read : Name × State). read.0) (front ++ back) y h))) in
    record {
      once = subst (AllPairs OfTwo) (sym gains.is) (pairs-into OfTwo front (v, state) back distinct
          (λ y h. other y (Contains-append_left front back y h)) (λ y h same. other y (Contains-append_right front back y h) (sym same)));
      first_ones = subst (λ (reads : List (Name × State)). AreFirstVisits reads program) (sym gains.is) (laws.visits_go_on program front back v state first after);
      whole = λ done. (let clash : Some v ≡ None = sym next-is ∙ was.whole done in cc);
    }
