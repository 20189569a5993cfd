-- The begun requests are taken one after another: at first none is done, each turn one more, and in the end all are,
-- or not all if a request precedes itself.
-- Used by `listed`, `take_all`, `taken_in_turn`, Nearest, TakenTurns and Ways.
use Rattle.std.proofs.Common.{◌≡◌, ℕ, zero, suc, ◌<◌, Bool, true, false, not, cond, IsTrue, Contains, List, [], ◌∷◌, length, map, replicate, Option, Some, None, inl, inr, refl, sym, ap, ◌∙◌, arith}
use Rattle.std.specs.Prelude.{is_some, slice_get, slice_set}
use Rattle.std.specs.List.{list_all, filter, AllByRecursion}
use Rattle.std.proofs.lemmas.Bool.{and_parts, and_from, both_ways, cases_Bool, cases_eq, not-true, not_from_false, false_from_ne_true}
use Rattle.std.proofs.lemmas.List.{get_or_past, get_or-set_same, get_or-set_other, length-map, length-replicate}
use Rattle.std.proofs.lemmas.Option.{slice_get_within}
use Rattle.vector_stamp.specs.declared.clock.Stamp.{Stamp}
use Rattle.vector_stamp.specs.Precedence.{precedes}
use Rattle.program_defs.specs.declared.script.Script.{Script}
use Rattle.report_rules.specs.declared.report.Report.{Report}
use Rattle.report_rules.specs.declared.report.Reply.{Reply}
use Rattle.weave_data.specs.Facts.{AllHold}
use Rattle.weave_data.proofs.Members.{has_none, has_read}
use Rattle.report_rules.specs.RightReport.{replies_clause}
use Rattle.report_rules.specs.PrintedOrder.{IsNext, TakesAll, begun_requests, without_request}
use Rattle.report_rules.specs.Lookups.{is_in, is_some_and, is_committed_or_finished, may_be_listed, stamp_at, given_pairs, RequestPrecedes}
use Rattle.report_rules.proofs.Precedence.{IsDecided}
use Rattle.order_witness.specs.declared.heads.Run.{Run}
use Rattle.order_witness.specs.Begun.{request_precedes, stamp_in, NonePrecedesItself}
use Rattle.order_witness.specs.ByNumber.{list_at}
use Rattle.order_witness.specs.Choices.{IsBest, requests_begun}
use Rattle.order_witness.specs.Heads.{item, is_done, requests_left, AreRising, IsReached, listed_in, seen_by_request, AreEarlierEnds, AreWaiting}
use Rattle.order_witness.specs.Rows.{AreAllTurns}
use Rattle.order_witness.proofs.BegunLaws.{AreClosed, both_there}
use Rattle.order_witness.proofs.Leading.{begun_there, left_there, left_begun, left_without}
use Rattle.order_witness.proofs.Printing.{AreTaken, IsBegun, all_at, all_from, any_in, all_begun, all_taken, is_next, none_left, taken_itself}
use Rattle.order_witness.proofs.Replying.{reply_of}
use Rattle.order_witness.proofs.Testing.{tested}

-- Tests of all

-- if all are done, each is
pub all_done : (done : List Bool) → IsTrue (list_all (λ is. is) done) → (r : ℕ) → is_done done r ≡ true
all_done [] h r = get_or_past [] r true (omega arith)
all_done (x ∷ xs) h zero = (and_parts x (list_all (λ is. is) xs) h).0
all_done (x ∷ xs) h (suc r) = all_done xs (and_parts x (list_all (λ is. is) xs) h).1 r

-- if each is done, all are
pub done_all : (done : List Bool) → ((r : ℕ) → is_done done r ≡ true) → IsTrue (list_all (λ is. is) done)
done_all [] f = refl
done_all (x ∷ xs) f = and_from x (list_all (λ is. is) xs) (f 0) (done_all xs (λ r. f (suc r)))

-- the place of a member
pub place_of : (xs : List ℕ) (r : ℕ) → Contains xs r → (k : ℕ) × (k < length xs) × (item xs k ≡ r)
place_of [] r h = absurd (has_none r h)
place_of (x ∷ xs) r h =
    elim (has_read x xs r h) [
      | inl same ↦ (0, omega arith, same)
      | inr later ↦ let rest = place_of xs r later in (suc rest.0, omega (arith, rest.1), rest.2)
    ]

filter_whole : (test : ℕ → Bool) (xs : List ℕ) → AllByRecursion (λ x. IsTrue (test x)) xs → filter test xs ≡ xs
filter_whole test [] h = refl
filter_whole test (x ∷ xs) h = ap (λ b. cond b (x ∷ filter test xs) (filter test xs)) h.0 ∙ ap (λ (ys : List ℕ). x ∷ ys) (filter_whole test xs h.1)

none_passes : (test : ℕ → Bool) → ((x : ℕ) → test x ≡ false) → (xs : List ℕ) → filter test xs ≡ []
none_passes test none [] = refl
none_passes test none (x ∷ xs) = ap (λ b. cond b (x ∷ filter test xs) (filter test xs)) (none x) ∙ none_passes test none xs

-- At first

-- the reply is of a request that was never begun
abbrev pub never : Reply → Bool
never reply = not (is_some reply.stamp)

start_done : (replies : List Reply) (r : ℕ) → is_done (map never replies) r ≡ not (is_some (stamp_in replies r))
start_done [] r = get_or_past [] r true (omega arith)
start_done (reply ∷ replies) zero = refl
start_done (reply ∷ replies) (suc r) = start_done replies r

some_stamp : (o : Option Stamp) → not (is_some o) ≡ false → (s : Stamp) × (o ≡ Some s)
some_stamp None h = cc
some_stamp (Some s) h = (s, refl)

zeros : (n r : ℕ) → seen_by_request (replicate n 0) r ≡ 0
zeros zero r = get_or_past [] r 0 (omega arith)
zeros (suc n) zero = refl
zeros (suc n) (suc r) = zeros n r

module _ (report : Report) (done : List Bool) (done_is : done ≡ map never report.replies) where
  done_at : (r : ℕ) → is_done done r ≡ not (is_some (stamp_at report r))
  done_at r = ap (λ (ds : List Bool). is_done ds r) done_is ∙ start_done report.replies r

  begun_at : (r : ℕ) → is_done done r ≡ false → IsBegun report r
  begun_at r h = some_stamp (stamp_at report r) (sym (done_at r) ∙ h)

  not_done : (r : ℕ) (s : Stamp) → stamp_at report r ≡ Some s → is_done done r ≡ false
  not_done r s at = done_at r ∙ ap (λ (o : Option Stamp). not (is_some o)) at

  -- at first there are as many marks of what is done as replies
  pub start_size : length done ≡ length report.replies
  start_size = ap (λ (ds : List Bool). length ds) done_is ∙ length-map report.replies never

  -- if nothing is done and the clause on replies holds, all begun requests are left
  pub start_left : (script : Script) → AllHold (replies_clause script report) → requests_left report done ≡ begun_requests report
  start_left script holds = filter_whole (λ r. not (is_done done r)) (requests_begun report.replies) (all_from (λ r. IsTrue (not (is_done done r))) (requests_begun report.replies) (λ r there.
      let begun = all_at (IsBegun report) (requests_begun report.replies) r (all_begun script report holds) there in
      not_from_false _ (not_done r begun.0 begun.1)))

  -- at first those left are in the runs, and precede none that is done, if the runs rise and reach all begun ones
  pub start_waiting : (line : List ℕ) (befores : List (List ℕ)) (runs : List Run) (seen : List ℕ) (count : ℕ) → ((place : ℕ) (stamp : Stamp) → stamp_in report.replies place ≡ Some stamp → Contains line place)
      → AreRising report line runs → ((k : ℕ) → k < length line → IsReached runs k) → AreEarlierEnds report befores → count ≡ length report.replies → seen ≡ replicate count 0 → AreWaiting report line befores runs seen done
  start_waiting line befores runs seen count has rising reached ends count_is seen_is = record {
    size = ap (λ (xs : List ℕ). length xs) seen_is ∙ length-replicate count 0 ∙ count_is;
    rising = rising;
    found = λ r is_left.
        let begun = begun_at r is_left in
        let at = place_of line r (has r begun.0 begun.1) in
        (at.0, reached at.0 at.1, at.2);
    ends = ends;
    seen_done = λ r k below. absurd (omega (arith, below, ap (λ (xs : List ℕ). seen_by_request xs r) seen_is ∙ zeros count r));
    begun = begun_at;
    closed = λ r left s at is_done_r left_is. absurd (both_ways _ (not_done r s at) is_done_r);
  }

-- The order

-- what is put at the end of the order
pub listed_one : (report : Report) (r : ℕ) → ((reply : Reply) → slice_get report.replies r ≡ Some reply → reply.request ≡ r) → listed_in (slice_get report.replies r) ≡ filter (may_be_listed report) (r ∷ [])
listed_one report r own = of_option (slice_get report.replies r) own
  where
    of_option : (o : Option Reply) → ((reply : Reply) → o ≡ Some reply → reply.request ≡ r) → listed_in o ≡ cond (is_some_and (λ (reply : Reply). is_committed_or_finished reply.state) o) (r ∷ []) []
    of_option None own = refl
    of_option (Some reply) own = ap (λ n. cond (is_committed_or_finished reply.state) (n ∷ []) []) (own reply refl)

-- One turn

module _ (script : Script) (report : Report) (holds : AllHold (replies_clause script report)) (decided : IsDecided) (all_closed : AreClosed) where
  abbrev prec : ℕ → ℕ → Bool
  prec = request_precedes report

  as_tested : (a b : ℕ) → RequestPrecedes report a b → IsTrue (prec a b)
  as_tested a b h = tested decided script report prec (λ x y. refl) a b h

  module _ (done : List Bool) (best : ℕ) (chosen : IsBest report prec (requests_left report done) (requests_left report done) (Some best)) (size : length done ≡ length report.replies) where
    best_begun : IsBegun report best
    best_begun = left_begun script report holds done best chosen.0

    -- the best request has a reply
    pub best_within : best < length report.replies
    best_within = let reply = reply_of script report holds best best_begun.0 best_begun.1 in slice_get_within report.replies best reply.0 reply.1

    -- and a mark of whether it is done
    pub best_inside : best < length done
    best_inside = omega (arith, best_within, size)

    -- those left, without the best one, are those left once it is done
    pub left_then : without_request best (requests_left report done) ≡ requests_left report (slice_set done best true)
    left_then = left_without script report holds done best best_inside

    -- the best one is the next of those left
    pub next_is : IsNext report (requests_left report done) best
    next_is = is_next script report holds decided all_closed prec (λ x y. refl) (requests_left report done) best (all_from (IsBegun report) (requests_left report done) (λ r there. left_begun script report holds done r there)) chosen

    stays_done : (r : ℕ) → is_done done r ≡ true → is_done (slice_set done best true) r ≡ true
    stays_done r h =
        elim (cases_eq r best) [
          | inl same ↦ ap (is_done (slice_set done best true)) same ∙ get_or-set_same done best true true best_inside
          | inr other ↦ get_or-set_other done best r true true other ∙ h
        ]

    was_left : (r : ℕ) → is_done (slice_set done best true) r ≡ false → is_done done r ≡ false
    was_left r h = false_from_ne_true _ (λ is. both_ways _ h (stays_done r is))

    -- once it is done, those left are still in the runs, and precede none that is done
    pub waiting_then : (line : List ℕ) (befores : List (List ℕ)) (runs : List Run) (seen : List ℕ) → AreWaiting report line befores runs seen done → AreWaiting report line befores runs seen (slice_set done best true)
    waiting_then line befores runs seen waiting = record {
      size = waiting.size;
      rising = waiting.rising;
      found = λ r is_left. waiting.found r (was_left r is_left);
      ends = waiting.ends;
      seen_done = λ r k below. stays_done (item (list_at befores r) k) (waiting.seen_done r k below);
      begun = λ r is_left. waiting.begun r (was_left r is_left);
      closed = λ r left s at done_r left_is.
          let left_was = was_left left left_is in
          elim (cases_eq r best) [
            | inr other ↦ waiting.closed r left s at (sym (get_or-set_other done best r true true other) ∙ done_r) left_was
            | inl same ↦
                let there = left_there script report holds done left (waiting.begun left left_was) left_was in
                ap (prec left) same ∙ false_from_ne_true _ (λ h. both_ways _ (not-true _ chosen.1) (any_in (λ other. prec other best) (requests_left report done) left there h))
          ];
    }

  -- The end

  -- once all are done, the requests taken are all the begun ones, and no request precedes itself
  pub in_the_end : (done : List Bool) (taken : List ℕ) → AreTaken report (begun_requests report) taken (requests_left report done) → ((r : ℕ) → is_done done r ≡ true) → AreAllTurns report taken
  in_the_end done taken in_turn all =
      let none : requests_left report done ≡ [] = filter_none (requests_begun report.replies) in
      let takes : TakesAll report (begun_requests report) taken = all_taken report (begun_requests report) taken (requests_left report done) in_turn none in
      (takes, λ r h. taken_itself report taken (begun_requests report) takes r (begun_of r h) h)
    where
      filter_none : (xs : List ℕ) → filter (λ r. not (is_done done r)) xs ≡ []
      filter_none xs = none_passes (λ r. not (is_done done r)) (λ r. ap not (all r)) xs

      begun_of : (r : ℕ) → RequestPrecedes report r r → IsTrue (is_in r (requests_begun report.replies))
      begun_of r h = let there = both_there (precedes (given_pairs report)) (stamp_at report r) (stamp_at report r) (as_tested r r h) in begun_there script report holds r (there.x, there.first_is)

  -- if some are left and none of them is free, it isn't so that no request precedes itself
  pub not_in_the_end : (done : List Bool) → ((r : ℕ) → is_done done r ≡ false → IsBegun report r) → IsBest report prec (requests_left report done) (requests_left report done) None → ¬ IsTrue (list_all (λ is. is) done) → ¬ NonePrecedesItself report
  not_in_the_end done begun best some acyclic =
      let none : requests_left report done ≡ [] = none_left script report holds decided all_closed prec (λ x y. refl) acyclic (requests_left report done) best in
      some (done_all done (λ r. elim (cases_Bool (is_done done r)) [
        | inl is ↦ is
        | inr is_left ↦ absurd (let nowhere : is_in r (requests_left report done) ≡ false = ap (is_in r) none in both_ways _ nowhere (left_there script report holds done r (begun r is_left) is_left))
      ]))
