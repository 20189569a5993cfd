-- Cutting the begun requests into rising runs, counting a request's earlier ones that are done, and moving runs past
-- requests that are done.
-- Used by `next`, `runs_of`, `see` and Visiting.
use Rattle.std.proofs.Common.{◌≡◌, ℕ, ◌+◌, ◌-◌, ◌<◌, ◌≤◌, Bool, true, false, ◌||◌, IsTrue, List, [], ◌∷◌, ◌++◌, length, ◌⊎◌, inl, inr, refl, sym, ap, ◌∙◌, subst, arith}
use Rattle.std.specs.Prelude.{nat_eq}
use Rattle.std.proofs.lemmas.Bool.{both_ways, cases_eq, cases_lt, or_cases, eqb-true}
use Rattle.std.proofs.lemmas.List.{get_or_append_left, length-append}
use Rattle.std.proofs.Math.Seq.{get_or-append_seam}
use Rattle.report_rules.specs.declared.report.Report.{Report}
use Rattle.report_rules.specs.Lookups.{is_in}
use Rattle.order_witness.specs.declared.heads.Run.{Run}
use Rattle.order_witness.specs.Begun.{is_request_before}
use Rattle.order_witness.specs.ByNumber.{list_at}
use Rattle.order_witness.specs.Heads.{item, is_done, no_run, run_at, AreRising, IsReached, AreCut, IsFirstLeft, IsAdvanced, seen_by_request, AreSeenDone, AreWaiting}
use Rattle.order_witness.proofs.Strict.{IsStrict, before_trans}

-- One run more

module _ (runs : List Run) (run : Run) where
  first_runs : (i : ℕ) → i < length runs → run_at (runs ++ run ∷ []) i ≡ run_at runs i
  first_runs i within = get_or_append_left runs (run ∷ []) no_run i within

  last_run : run_at (runs ++ run ∷ []) (length runs) ≡ run
  last_run = get_or-append_seam runs run [] no_run

  -- a place that is reached stays so with one run more
  pub reached_more : (k : ℕ) → IsReached runs k → IsReached (runs ++ run ∷ []) k
  reached_more k h = record {
    i = h.i;
    there = omega (arith, h.there, length-append runs (run ∷ []));
    from = subst (λ (r : Run). r.next ≤ k) (sym (first_runs h.i h.there)) h.from;
    below = subst (λ (r : Run). k < r.end) (sym (first_runs h.i h.there)) h.below;
  }

  -- a place from the start of the last run to its end is reached
  pub reached_last : (k : ℕ) → run.next ≤ k → k < run.end → IsReached (runs ++ run ∷ []) k
  reached_last k from below = record {
    i = length runs;
    there = omega (arith, length-append runs (run ∷ []));
    from = subst (λ (r : Run). r.next ≤ k) (sym last_run) from;
    below = subst (λ (r : Run). k < r.end) (sym last_run) below;
  }

  -- if the stamps of each run rise, and those of the run put at the end do, they all rise
  pub rising_more : (report : Report) (line : List ℕ) → AreRising report line runs → ((j k : ℕ) → run.next ≤ j → j < k → k < run.end → IsTrue (is_request_before report (item line j) (item line k))) → AreRising report line (runs ++ run ∷ [])
  rising_more report line so_far here i j k within from less below =
      elim (cases_lt i (length runs)) [
        | inl before ↦ so_far i j k before (subst (λ (r : Run). r.next ≤ j) (first_runs i before) from) less (subst (λ (r : Run). k < r.end) (first_runs i before) below)
        | inr beyond ↦
            let last : i ≡ length runs = omega (arith, within, beyond, length-append runs (run ∷ [])) in
            let is : run_at (runs ++ run ∷ []) i ≡ run = ap (run_at (runs ++ run ∷ [])) last ∙ last_run in
            here j k (subst (λ (r : Run). r.next ≤ j) is from) less (subst (λ (r : Run). k < r.end) is below)
      ]

module _ (strict : IsStrict) (report : Report) (line : List ℕ) where
  module _ (place start : ℕ) (runs : List Run) (cut : AreCut report line place start runs) where
    -- if the request at the place comes after the one before it, the run goes on to include it
    pub cut_on : IsTrue (is_request_before report (item line (place - 1)) (item line place)) → AreCut report line (place + 1) start runs
    cut_on rises = record {
      rising = cut.rising;
      reached = cut.reached;
      current = λ j k from less below.
          elim (cases_lt k place) [
            | inl before ↦ cut.current j k from less before
            | inr beyond ↦
                let last : place ≡ k = omega (arith, below, beyond) in
                subst (λ n. IsTrue (is_request_before report (item line j) (item line n))) last
                (elim (cases_lt j (place - 1)) [
                  | inl earlier ↦ before_trans strict report (item line j) (item line (place - 1)) (item line place) (cut.current j (place - 1) from earlier (omega (arith, cut.in_turn))) rises
                  | inr other ↦
                      let same : place - 1 ≡ j = omega (arith, other, less, last) in
                      subst (λ n. IsTrue (is_request_before report (item line n) (item line place))) same rises
                ])
          ];
      in_turn = omega (arith, cut.in_turn);
    }

    -- the stamps of each run rise, if the last one ends at this place
    pub cut_rising : AreRising report line (runs ++ (record { next = start; end = place }) ∷ [])
    cut_rising = rising_more runs (record { next = start; end = place }) report line cut.rising cut.current

    -- and each place before this one is reached
    pub cut_reached : (k : ℕ) → k < place → IsReached (runs ++ (record { next = start; end = place }) ∷ []) k
    cut_reached k below =
        elim (cases_lt k start) [
          | inl before ↦ reached_more runs (record { next = start; end = place }) k (cut.reached k before)
          | inr from ↦ reached_last runs (record { next = start; end = place }) k from below
        ]

    -- the run ends, and another one begins
    pub cut_here : AreCut report line (place + 1) place (runs ++ (record { next = start; end = place }) ∷ [])
    cut_here = record {
      rising = cut_rising;
      reached = cut_reached;
      current = λ j k from less below. absurd (omega (arith, from, less, below));
      in_turn = omega arith;
    }

module _ (report : Report) (line : List ℕ) (place start : ℕ) (runs : List Run) (cut : AreCut report line place start runs) where
  -- when the walk ends, the last run ends, too
  pub end_rising : length line ≤ place → AreRising report line (runs ++ (record { next = start; end = length line }) ∷ [])
  end_rising all = rising_more runs (record { next = start; end = length line }) report line cut.rising (λ j k from less below. cut.current j k from less (omega (arith, below, all)))

  -- and each place of the line is reached
  pub end_reached : (k : ℕ) → k < length line → IsReached (runs ++ (record { next = start; end = length line }) ∷ []) k
  end_reached k below =
      elim (cases_lt k start) [
        | inl before ↦ reached_more runs (record { next = start; end = length line }) k (cut.reached k before)
        | inr from ↦ reached_last runs (record { next = start; end = length line }) k from below
      ]

-- The earlier ends of pairs that are seen

-- a number in a list with one more at the end is in the list, or is that one
pub in_last : (r y : ℕ) (xs : List ℕ) → IsTrue (is_in r (xs ++ y ∷ [])) → IsTrue (is_in r xs) ⊎ (r ≡ y)
in_last r y [] h = elim (or_cases (nat_eq r y) _ h) [ inl here ↦ inr (eqb-true r y here) | inr later ↦ inl later ]
in_last r y (x ∷ xs) h =
    elim (or_cases (nat_eq r x) _ h) [
      | inl here ↦ inl (ap (λ b. b || is_in r xs) here)
      | inr later ↦ elim (in_last r y xs later) [ inl there ↦ inl (more (nat_eq r x) there) | inr last ↦ inr last ]
    ]
  where
    more : (b : Bool) → IsTrue (is_in r xs) → IsTrue (b || is_in r xs)
    more true there = refl
    more false there = there

module _ (befores : List (List ℕ)) (done : List Bool) (old new : List ℕ) (request : ℕ)
    (others : (r : ℕ) → ¬ (r ≡ request) → seen_by_request new r ≡ seen_by_request old r)
    (first : request < length old → IsFirstLeft (list_at befores request) done (seen_by_request old request) (length (list_at befores request)) (seen_by_request new request))
    (past : length old ≤ request → new ≡ old) where
  -- if what was seen done is done, it is so when one request has looked on to the first that is left
  pub seen_on : AreSeenDone befores done old → AreSeenDone befores done new
  seen_on so_far r k below =
      elim (cases_eq r request) [
        | inr other ↦ so_far r k (subst (λ n. k < n) (others r other) below)
        | inl same ↦ elim (cases_lt request (length old)) [
          | inr beyond ↦ so_far r k (subst (λ (xs : List ℕ). k < seen_by_request xs r) (past beyond) below)
          | inl within ↦
              subst (λ n. is_done done (item (list_at befores n) k) ≡ true) (sym same)
              (elim (cases_lt k (seen_by_request old request)) [
                | inl before ↦ so_far request k before
                | inr from ↦ (first within).passed k from (subst (λ n. k < seen_by_request new n) same below)
              ])
        ]
      ]

  -- if each asked request sees next an earlier end that is left, or none, so does each of them and this one
  pub left_on : (asked : List ℕ) (count : ℕ) → count ≡ length old → ((r : ℕ) → IsTrue (is_in r asked) → r < count → seen_by_request old r < length (list_at befores r) → is_done done (item (list_at befores r) (seen_by_request old r)) ≡ false)
      → (r : ℕ) → IsTrue (is_in r (asked ++ request ∷ [])) → r < count → seen_by_request new r < length (list_at befores r) → is_done done (item (list_at befores r) (seen_by_request new r)) ≡ false
  left_on asked count size so_far r there within below =
      elim (cases_eq r request) [
        | inl same ↦
            subst (λ n. is_done done (item (list_at befores n) (seen_by_request new n)) ≡ false) (sym same)
            ((first (omega (arith, same, within, size))).is_left (subst (λ n. seen_by_request new n < length (list_at befores n)) same below))
        | inr other ↦
            let is : seen_by_request new r ≡ seen_by_request old r = others r other in
            subst (λ n. is_done done (item (list_at befores r) n) ≡ false) (sym is)
            (so_far r (elim (in_last r request asked there) [ inl before ↦ before | inr last ↦ absurd (other last) ]) within (subst (λ n. n < length (list_at befores r)) is below))
      ]

-- Runs that go on to the requests that are left

module _ (report : Report) (line : List ℕ) (befores : List (List ℕ)) (runs then_runs : List Run) (seen then_seen : List ℕ) (done : List Bool) (waiting : AreWaiting report line befores runs seen done)
    (size : length then_runs ≡ length runs) (each : (i : ℕ) → i < length runs → IsAdvanced line done (run_at runs i) (run_at then_runs i)) where
  on_from : (i k : ℕ) → i < length runs → (run_at runs i).next ≤ k → k < (run_at runs i).end → is_done done (item line k) ≡ false → (run_at then_runs i).next ≤ k
  on_from i k within from below is_left =
      elim (cases_lt k (run_at then_runs i).next) [
        | inr on ↦ on
        | inl passed ↦ absurd (both_ways _ is_left ((each i within).1.passed k from passed))
      ]

  -- the first request of each run that went on, if it has one yet, is left
  pub at_left : (i : ℕ) → i < length then_runs → (run_at then_runs i).next < (run_at then_runs i).end → is_done done (item line (run_at then_runs i).next) ≡ false
  at_left i within some =
      let advanced = each i (omega (arith, within, size)) in
      advanced.1.is_left (omega (arith, some, advanced.0))

  -- if what is now seen done is done, those left are in the runs that went on, and precede none that is done
  pub waiting_on : length then_seen ≡ length seen → AreSeenDone befores done then_seen → AreWaiting report line befores then_runs then_seen done
  waiting_on same then_seen_done = record {
    size = same ∙ waiting.size;
    rising = λ i j k within from less below.
        let inside : i < length runs = omega (arith, within, size) in
        let advanced = each i inside in
        let end : k < (run_at runs i).end = omega (arith, below, advanced.0) in
        let onward : (run_at runs i).next ≤ (run_at then_runs i).next = advanced.1.onward (omega (arith, from, less, end)) in
        waiting.rising i j k inside (omega (arith, from, onward)) less end;
    found = λ r is_left.
        let found = waiting.found r is_left in
        let at = found.1 in
        let advanced = each at.i at.there in (
          found.0,
          record {
            i = at.i;
            there = omega (arith, at.there, size);
            from = on_from at.i found.0 at.there at.from at.below (ap (is_done done) found.2 ∙ is_left);
            below = omega (arith, at.below, advanced.0);
          },
          found.2,
        );
    ends = waiting.ends;
    seen_done = then_seen_done;
    begun = waiting.begun;
    closed = waiting.closed;
  }
