-- Rows of counts, request by request.
-- Used by `row_of` and `rows_along`.
use Rattle.std.proofs.Common.{◌≡◌, ℕ, ◌+◌, ◌-◌, ◌<◌, ◌≤◌, false, IsTrue, List, [], ◌++◌, take, drop, length, map, set, ◌⊎◌, inl, inr, sym, subst, ap, ◌∙◌, arith, get_or-set_same, get_or-set_other}
use Rattle.std.proofs.lemmas.Bool.{cases_eq, cases_lt, cases_Bool, both_ways, or_cases, or_left}
use Rattle.std.proofs.lemmas.List.{length-map, get_or-map}
use Rattle.std.proofs.Math.Seq.{take-append_seam}
use Rattle.order_witness.specs.declared.heads.Run.{Run}
use Rattle.report_rules.specs.Lookups.{is_in}
use Rattle.order_witness.specs.ByNumber.{list_at}
use Rattle.order_witness.specs.Heads.{IsReached, item, no_run, run_at}
use Rattle.order_witness.specs.Preceding.{LeadsBySteps, Test, leads_directly}
use Rattle.order_witness.specs.Rows.{AreLined, AreRowsOfCounts, AreTurns, HadTurn, IsCounted, MayTakeInOneBefore, IsIncluded, IsPart, IsRowOfCounts, IsTakenIn, IsInItsRun}
use Rattle.order_witness.specs.Preceding.LeadsBySteps.{Directly, Through}

-- what a list has after its slice was written back, if the slice kept its length
pub written_back : (row items : List ℕ) (len : ℕ) → length row ≡ len → take len (row ++ drop (length row) items) ≡ row
written_back row items len long = subst (λ m. take m (row ++ drop (length row) items) ≡ row) long (take-append_seam row (drop (length row) items))

-- a place past none of two, and past the end of its run only if one of them is, is within it
taken_within : (run : Run) (place a b top : ℕ) → run.next ≤ a → IsInItsRun run a → IsInItsRun run b → IsTakenIn run place a b top → IsInItsRun run top
taken_within run place a b top start of_a of_b taken =
    let high = taken.first in
    elim (cases_lt run.next top) [
      | inr none ↦ inl (omega (arith, none, start, high))
      | inl some ↦
          let back : (top - 1) < top = omega (arith, some) in
          elim (taken.only (top - 1) back) [
            | inl below ↦ elim of_a [ inl same ↦ absurd (omega (arith, same, below, some)) | inr within ↦ inr (omega (arith, within, below)) ]
            | inr rest ↦ elim rest [
              | inl below ↦ elim of_b [ inl same ↦ absurd (omega (arith, same, below, some)) | inr within ↦ inr (omega (arith, within, below)) ]
              | inr there ↦ let inside = there.1 in let at_most = there.2 in inr (omega (arith, inside, at_most))
            ]
          ]
    ]

module _ (before : Test) (ends : ℕ → List ℕ) (line : List ℕ) (runs : List Run) (places : List ℕ) (lined : AreLined before ends line runs places) (turns : List ℕ) (n : ℕ) (rows : List (List ℕ)) where
  abbrev direct : Test
  direct = leads_directly before ends

  -- if rows were filled for all that had their turns, they tell precedence of these
  pub counted_if : AreRowsOfCounts direct line runs turns n rows → (a b : ℕ) → LeadsBySteps direct a b → HadTurn turns n b → IsCounted line runs (list_at rows b) a
  counted_if are _ _ (Directly a b h) is = (are b is).all a h
  counted_if are _ _ (Through a b c first then) is =
      let mid = counted_if are b c then is in
      (are c is).part.whole b a mid (counted_if are a b first ((are c is).part.done b mid))

  module _ (are : AreRowsOfCounts direct line runs turns n rows) (b : ℕ) (old new : List ℕ) (a place : ℕ) (is : HadTurn turns n a) (leads : IsTrue (direct a b)) (here : item line place ≡ a) (in_run : IsReached runs place) (part : IsPart direct line runs turns n rows b old) (included : IsIncluded runs old (list_at rows a) new place) where
    -- what was counted is
    pub stays : (x : ℕ) → IsCounted line runs old x → IsCounted line runs new x
    stays x c = let more = (included.each c.i c.there).first in let below = c.below in record { i = c.i; there = c.there; k = c.k; from = c.from; below = omega (arith, more, below); event = c.event }

    taken : (x : ℕ) → IsCounted line runs (list_at rows a) x → IsCounted line runs new x
    taken x c = let more = (included.each c.i c.there).second in let below = c.below in record { i = c.i; there = c.there; k = c.k; from = c.from; below = omega (arith, more, below); event = c.event }

    -- and so is that request itself
    pub itself : IsCounted line runs new a
    itself = record { i = in_run.i; there = in_run.there; k = place; from = in_run.from; below = (included.each in_run.i in_run.there).placed in_run.from in_run.below; event = here }

    abbrev From : ℕ → Type 0
    From x = IsCounted line runs old x ⊎ (IsCounted line runs (list_at rows a) x ⊎ (a ≡ x))

    only : (x : ℕ) → IsCounted line runs new x → From x
    only x c =
        elim ((included.each c.i c.there).only c.k c.below) [
          | inl below ↦ inl (record { i = c.i; there = c.there; k = c.k; from = c.from; below = below; event = c.event })
          | inr rest ↦ elim rest [
            | inl below ↦ inr (inl (record { i = c.i; there = c.there; k = c.k; from = c.from; below = below; event = c.event }))
            | inr up_to ↦ elim (cases_eq c.k place) [
              | inl same ↦ inr (inr (sym here ∙ ap (item line) (sym same) ∙ c.event))
              | inr other ↦
                  let at_most = up_to.2 in
                  let rise : IsTrue (before (item line c.k) (item line place)) = lined.rising c.i c.k place c.there c.from (omega (arith, at_most, other)) up_to.1 in
                  let stamp : IsTrue (before x a) = subst (λ y. IsTrue (before x y)) here (subst (λ y. IsTrue (before y (item line place))) c.event rise) in
                  inr (inl ((are a is).all x (or_left (before x a) _ stamp)))
            ]
          ]
        ]

    -- a part of the row, with what is counted for an event that directly leads to b, and that one
    pub included_part : IsPart direct line runs turns n rows b new
    included_part =
        record {
          size = included.size ∙ part.size;
          started = λ i there. let low = part.started i there in let more = (included.each i there).first in omega (arith, low, more);
          ended = λ i there. taken_within (run_at runs i) place (item old i) (item (list_at rows a) i) (item new i) (part.started i there) (part.ended i there) ((are a is).part.ended i there) (included.each i there);
          done = λ x c. elim (only x c) [
            | inl was ↦ part.done x was
            | inr rest ↦ elim rest [ inl of_a ↦ (are a is).part.done x of_a | inr same ↦ subst (HadTurn turns n) same is ]
          ];
          whole = λ x y c d. elim (only x c) [
            | inl was ↦ stays y (part.whole x y was d)
            | inr rest ↦ elim rest [
              | inl of_a ↦ taken y ((are a is).part.whole x y of_a d)
              | inr same ↦ taken y (subst (λ z. IsCounted line runs (list_at rows z) y) (sym same) d)
            ]
          ];
          sound = λ x c. elim (only x c) [
            | inl was ↦ part.sound x was
            | inr rest ↦ elim rest [
              | inl of_a ↦ Through x a b ((are a is).part.sound x of_a) (Directly a b leads)
              | inr same ↦ subst (λ z. LeadsBySteps direct z b) same (Directly a b leads)
            ]
          ];
        }

  -- a row is whole if it counts the earlier ends of the pairs, and no event past its place in a run is before b
  pub row_whole : (b : ℕ) (row : List ℕ) → IsPart direct line runs turns n rows b row → ((a : ℕ) → IsTrue (is_in a (ends b)) → IsCounted line runs row a) → ((i k : ℕ) → i < length runs → item row i ≤ k → k < (run_at runs i).end → before (item line k) b ≡ false) → IsRowOfCounts direct line runs turns n rows b row
  row_whole b row part by_pairs stopped =
      record {
        part = part;
        all = λ x h. elim (or_cases (before x b) _ h) [
          | inr pair ↦ by_pairs x pair
          | inl stamp ↦
              let is = lined.placed x b h in
              elim (cases_lt (item places x) (item row is.1.i)) [
                | inl below ↦ record { i = is.1.i; there = is.1.there; k = item places x; from = is.1.from; below = below; event = is.0 }
                | inr past ↦ absurd (both_ways _ (stopped is.1.i (item places x) is.1.there past is.1.below) (subst (λ y. IsTrue (before y b)) (sym is.0) stamp))
              ]
        ];
      }

  -- if the event at a place of a run isn't before b, none after it is
  pub stop_after : (b i next : ℕ) → i < length runs → (run_at runs i).next ≤ next → (next < (run_at runs i).end → before (item line next) b ≡ false) → (k : ℕ) → next ≤ k → k < (run_at runs i).end → before (item line k) b ≡ false
  stop_after b i next there from stop k on below =
      elim (cases_eq k next) [
        | inl same ↦ subst (λ m. before (item line m) b ≡ false) (sym same) (stop (omega (arith, on, below)))
        | inr later ↦ elim (cases_Bool (before (item line k) b)) [
          | inr fails ↦ fails
          | inl holds ↦ absurd (both_ways _ (stop (omega (arith, on, below))) (lined.transitive (item line next) (item line k) b (lined.rising i next k there from (omega (arith, on, later)) below) holds))
        ]
      ]

  -- one more event has its row
  module _ (within : n < length turns) (count : ℕ) (in_turn : AreTurns direct turns count) (are : AreRowsOfCounts direct line runs turns n rows) (row : List ℕ) (row_is : IsRowOfCounts direct line runs turns n rows (item turns n) row) (long : item turns n < length rows) where
    other : (x : ℕ) → HadTurn turns n x → list_at (set rows (item turns n) row) x ≡ list_at rows x
    other x done = get_or-set_other rows (item turns n) x row [] (λ same. in_turn.apart done.j n done.within within (done.event ∙ same))

    kept : (x : ℕ) (its : List ℕ) → IsRowOfCounts direct line runs turns n rows x its → IsRowOfCounts direct line runs turns (n + 1) (set rows (item turns n) row) x its
    kept x its old =
        record {
          part = record {
            size = old.part.size;
            started = old.part.started;
            ended = old.part.ended;
            done = λ y c. let was = old.part.done y c in let less = was.within in record { j = was.j; within = omega (arith, less); event = was.event };
            whole = λ y z c d. old.part.whole y z c (subst (λ (r : List ℕ). IsCounted line runs r z) (other y (old.part.done y c)) d);
            sound = old.part.sound;
          };
          all = old.all;
        }

    -- one request more has its row
    pub one_more : AreRowsOfCounts direct line runs turns (n + 1) (set rows (item turns n) row)
    one_more x done =
        elim (cases_eq done.j n) [
          | inl same ↦
              let here : item turns n ≡ x = ap (item turns) (sym same) ∙ done.event in
              subst (λ y. IsRowOfCounts direct line runs turns (n + 1) (set rows (item turns n) row) y (list_at (set rows (item turns n) row) y)) here
              (subst (λ (r : List ℕ). IsRowOfCounts direct line runs turns (n + 1) (set rows (item turns n) row) (item turns n) r) (sym (get_or-set_same rows (item turns n) row [] long)) (kept (item turns n) row row_is))
          | inr before_it ↦
              let less = done.within in
              let was : HadTurn turns n x = record { j = done.j; within = omega (arith, less, before_it); event = done.event } in
              subst (λ (r : List ℕ). IsRowOfCounts direct line runs turns (n + 1) (set rows (item turns n) row) x r) (sym (other x was)) (kept x (list_at rows x) (are x was))
        ]

  -- the first places of the runs count nothing
  pub part_starts : (b : ℕ) → IsPart direct line runs turns n rows b (map (λ (run : Run). run.next) runs)
  part_starts b =
      let at : (i : ℕ) → i < length runs → item (map (λ (run : Run). run.next) runs) i ≡ (run_at runs i).next = λ i there. get_or-map (λ (run : Run). run.next) runs i no_run 0 there in
      let none : (x : ℕ) → IsCounted line runs (map (λ (run : Run). run.next) runs) x → ⊥ = λ x c. let same = at c.i c.there in let from = c.from in let below = c.below in omega (arith, same, from, below) in
      record {
        size = length-map runs (λ (run : Run). run.next);
        started = λ i there. let same = at i there in omega (arith, same);
        ended = λ i there. inl (at i there);
        done = λ x c. absurd (none x c);
        whole = λ x y c d. absurd (none x c);
        sound = λ x c. absurd (none x c);
      }

  -- a part of the row, after the event before it in its run
  pub followed_part : (are : AreRowsOfCounts direct line runs turns n rows) (b : ℕ) (old new : List ℕ) → ((a : ℕ) → IsTrue (direct a b) → HadTurn turns n a) → IsPart direct line runs turns n rows b old → MayTakeInOneBefore before runs places rows b old new → IsPart direct line runs turns n rows b new
  followed_part are b old new turned part (inl same) = subst (IsPart direct line runs turns n rows b) (sym same) part
  followed_part are b old new turned part (inr (a, stamp, included)) =
      let leads : IsTrue (direct a b) = or_left (before a b) _ stamp in
      let placed = lined.placed a b leads in
      included_part are b old new a (item places a) (turned a leads) leads placed.0 placed.1 part included

  -- one run more was passed
  pub stopped_more : (b i next : ℕ) (old new : List ℕ) → i < length runs → (run_at runs i).next ≤ next → (next < (run_at runs i).end → before (item line next) b ≡ false) → next ≤ item new i → ((j : ℕ) → j < length runs → item old j ≤ item new j) → ((j k : ℕ) → j < i → item old j ≤ k → k < (run_at runs j).end → before (item line k) b ≡ false) → (j k : ℕ) → j < i + 1 → item new j ≤ k → k < (run_at runs j).end → before (item line k) b ≡ false
  stopped_more b i next old new there from stop far grow so_far j k less on below =
      elim (cases_eq j i) [
        | inl same ↦
            let here : item new i ≤ k = subst (λ m. item new m ≤ k) same on in
            stop_at j same (stop_after b i next there from stop k (omega (arith, far, here)) (subst (λ m. k < (run_at runs m).end) same below))
        | inr other ↦ let more = grow j (omega (arith, less, there, other)) in so_far j k (omega (arith, less, other)) (omega (arith, more, on)) below
      ]
    where
      stop_at : (m : ℕ) → m ≡ i → before (item line k) b ≡ false → before (item line k) b ≡ false
      stop_at m same h = h
