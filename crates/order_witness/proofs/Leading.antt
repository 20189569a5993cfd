-- The heads of the runs: which requests can be next, and what stays so while requests are taken.
-- Used by `mark_ends`, `next`, `row_of`, Acyclic, Listed, TakenTurns and Taking.
use Rattle.std.proofs.Common.{◌≡◌, ℕ, zero, suc, ◌<◌, ◌≤◌, Bool, true, false, not, cond, ◌&&◌, IsTrue, Contains, List, [], ◌∷◌, length, Option, Some, None, eqb, ltb, ◌⊎◌, inl, inr, refl, sym, ap, ◌∙◌, subst, arith}
use Rattle.std.specs.Prelude.{nat_eq, slice_get, slice_set}
use Rattle.std.specs.List.{list_any, filter, cons_option}
use Rattle.std.specs.Option.{option_map}
use Rattle.std.proofs.lemmas.Bool.{and_right, both_ways, cases_Bool, cases_eq, cases_lt, or_cases, or_left, or_right, or_from, not-true, not_from_false, not_from_true, false_from_ne_true, eqb-true, eq-eqb, ne_eqb, ltb-true, lt-ltb, leb-true, le-leb}
use Rattle.std.proofs.lemmas.List.{get_or-set_same, get_or-set_other}
use Rattle.std.proofs.lemmas.Option.{slice_get_within}
use Rattle.vector_stamp.specs.declared.clock.Stamp.{Stamp}
use Rattle.vector_stamp.specs.Order.{stamp_before}
use Rattle.vector_stamp.specs.Precedence.{Precedes, ByStamps, ByPair, Through, precedes}
use Rattle.program_defs.specs.declared.script.Script.{Script}
use Rattle.report_rules.specs.declared.report.Report.{Report}
use Rattle.report_rules.specs.declared.report.Reply.{Reply}
use Rattle.weave_data.specs.Facts.{AllHold}
use Rattle.report_rules.specs.RightReport.{replies_clause}
use Rattle.report_rules.specs.PrintedOrder.{without_request}
use Rattle.report_rules.specs.Lookups.{is_in, stamp_at, given_pairs}
use Rattle.report_rules.proofs.Precedence.{IsDecided}
use Rattle.order_witness.specs.declared.heads.Run.{Run}
use Rattle.order_witness.specs.Begun.{is_request_before, request_precedes, pairs_lead}
use Rattle.order_witness.specs.ByNumber.{list_at}
use Rattle.order_witness.specs.Choices.{IsBest, requests_begun, is_free, home_at}
use Rattle.order_witness.specs.Heads.{item, is_done, requests_left, run_at, heads_of, seen_by_request, is_ready, AreWaiting}
use Rattle.order_witness.proofs.BegunLaws.{AreClosed, both_there, there_both, joined_given, given_joined, trans}
use Rattle.order_witness.proofs.Strict.{IsStrict, before_trans}
use Rattle.order_witness.proofs.Printing.{IsBegun, all_at, all_from, any_in, kept_in, all_begun}
use Rattle.order_witness.proofs.Replying.{differ, is_numbered, reply_of}
use Rattle.order_witness.proofs.Testing.{way}

-- Lists of numbers

-- a number in a list has a place there
pub in_read : (r : ℕ) (xs : List ℕ) → IsTrue (is_in r xs) → (k : ℕ) × (k < length xs) × (item xs k ≡ r)
in_read r [] h = cc
in_read r (x ∷ xs) h =
    elim (or_cases (nat_eq r x) _ h) [
      | inl here ↦ (0, omega arith, sym (eqb-true r x here))
      | inr later ↦ let rest = in_read r xs later in (suc rest.0, omega (arith, rest.1), rest.2)
    ]

-- the number at a place of a list is in it
pub item_in : (xs : List ℕ) (k : ℕ) → k < length xs → IsTrue (is_in (item xs k) xs)
item_in [] k h = absurd (omega (arith, h))
item_in (x ∷ xs) zero h = or_left _ _ (eq-eqb x x refl)
item_in (x ∷ xs) (suc k) h = or_right (nat_eq (item xs k) x) _ (item_in xs k (omega (arith, h)))

-- a number in a filtered list is in the list and passes the test
pub in_filter : (test : ℕ → Bool) (xs : List ℕ) (r : ℕ) → IsTrue (is_in r (filter test xs)) → IsTrue (is_in r xs) × IsTrue (test r)
in_filter test [] r h = cc
in_filter test (x ∷ xs) r h = of_test (test x) refl (in_filter test xs r) h
  where
    later : IsTrue (is_in r xs) × IsTrue (test r) → IsTrue (is_in r (x ∷ xs)) × IsTrue (test r)
    later rest = (or_right (nat_eq r x) _ rest.0, rest.1)

    of_test : (b : Bool) → test x ≡ b → (IsTrue (is_in r (filter test xs)) → IsTrue (is_in r xs) × IsTrue (test r)) → IsTrue (is_in r (cond b (x ∷ filter test xs) (filter test xs))) → IsTrue (is_in r (x ∷ xs)) × IsTrue (test r)
    of_test true is onward g =
        elim (or_cases (nat_eq r x) _ g) [
          | inl here ↦ (or_left _ _ here, ap test (eqb-true r x here) ∙ is)
          | inr rest ↦ later (onward rest)
        ]
    of_test false is onward g = later (onward g)

filter_both : (p q s : ℕ → Bool) → ((x : ℕ) → s x ≡ (p x && q x)) → (xs : List ℕ) → filter q (filter p xs) ≡ filter s xs
filter_both p q s same [] = refl
filter_both p q s same (x ∷ xs) = of_first (p x) refl (filter_both p q s same xs)
  where
    of_first : (b : Bool) → p x ≡ b → filter q (filter p xs) ≡ filter s xs → filter q (cond b (x ∷ filter p xs) (filter p xs)) ≡ cond (s x) (x ∷ filter s xs) (filter s xs)
    of_first true is rest = ap (λ (ys : List ℕ). cond (q x) (x ∷ ys) ys) rest ∙ ap (λ b. cond b (x ∷ filter s xs) (filter s xs)) (sym (same x ∙ ap (λ b. b && q x) is))
    of_first false is rest = rest ∙ ap (λ b. cond b (x ∷ filter s xs) (filter s xs)) (sym (same x ∙ ap (λ b. b && q x) is))

none_any : (test : ℕ → Bool) (xs : List ℕ) → ((o : ℕ) → IsTrue (is_in o xs) → test o ≡ false) → list_any test xs ≡ false
none_any test [] f = refl
none_any test (x ∷ xs) f = or_from _ _ (f x (or_left _ _ (eq-eqb x x refl))) (none_any test xs (λ o there. f o (or_right (nat_eq o x) _ there)))

-- The requests that are left

module _ (script : Script) (report : Report) (holds : AllHold (replies_clause script report)) where
  begun_put : (replies : List Reply) (i : ℕ) (reply : Reply) (s : Stamp) → slice_get replies i ≡ Some reply → reply.stamp ≡ Some s → IsTrue (is_in reply.request (requests_begun replies))
  begun_put [] i reply s at is = absurd (cc)
  begun_put (x ∷ xs) zero reply s at is =
      let same : x ≡ reply = cc in
      subst (λ (y : Reply). IsTrue (is_in y.request (requests_begun (x ∷ xs)))) same (of_stamp x.stamp (ap (λ (y : Reply). y.stamp) same ∙ is))
    where
      of_stamp : (o : Option Stamp) → o ≡ Some s → IsTrue (is_in x.request (cons_option (option_map (λ (stamp : Stamp). x.request) o) (requests_begun xs)))
      of_stamp None e = absurd (cc)
      of_stamp (Some t) e = or_left _ _ (eq-eqb x.request x.request refl)
  begun_put (x ∷ xs) (suc i) reply s at is = of_stamp x.stamp (begun_put xs i reply s at is)
    where
      of_stamp : (o : Option Stamp) → IsTrue (is_in reply.request (requests_begun xs)) → IsTrue (is_in reply.request (cons_option (option_map (λ (stamp : Stamp). x.request) o) (requests_begun xs)))
      of_stamp None h = h
      of_stamp (Some t) h = or_right (nat_eq reply.request x.request) _ h

  -- if the clause on replies holds, a request that has a stamp is among the begun ones
  pub begun_there : (r : ℕ) → IsBegun report r → IsTrue (is_in r (requests_begun report.replies))
  begun_there r begun =
      let reply = reply_of script report holds r begun.0 begun.1 in
      subst (λ n. IsTrue (is_in n (requests_begun report.replies))) (is_numbered script report holds r reply.0 reply.1) (begun_put report.replies r reply.0 begun.0 reply.1 reply.2)

  module _ (done : List Bool) where
    -- a begun request that isn't done is among those left
    pub left_there : (r : ℕ) → IsBegun report r → is_done done r ≡ false → IsTrue (is_in r (requests_left report done))
    left_there r begun is_left = kept_in (λ x. not (is_done done x)) (requests_begun report.replies) r (begun_there r begun) (not_from_false _ is_left)

    -- a request among those left isn't done
    pub there_left : (r : ℕ) → IsTrue (is_in r (requests_left report done)) → is_done done r ≡ false
    there_left r h = not-true _ (in_filter (λ x. not (is_done done x)) (requests_begun report.replies) r h).1

    -- a request among those left is begun
    pub left_begun : (r : ℕ) → IsTrue (is_in r (requests_left report done)) → IsBegun report r
    left_begun r h = all_at (IsBegun report) (requests_begun report.replies) r (all_begun script report holds) (in_filter (λ x. not (is_done done x)) (requests_begun report.replies) r h).0

    -- those left, without a request, are those left once that one is done
    pub left_without : (r : ℕ) → r < length done → without_request r (requests_left report done) ≡ requests_left report (slice_set done r true)
    left_without r within = filter_both (λ x. not (is_done done x)) (λ x. not (eqb x r)) (λ x. not (is_done (slice_set done r true) x)) same (requests_begun report.replies)
      where
        yes_and : (b : Bool) → b ≡ (b && true)
        yes_and true = refl
        yes_and false = refl

        same : (x : ℕ) → not (is_done (slice_set done r true) x) ≡ (not (is_done done x) && not (eqb x r))
        same x =
            elim (cases_eq x r) [
              | inl is ↦ ap not (ap (is_done (slice_set done r true)) is ∙ get_or-set_same done r true true within) ∙ sym (and_right (not (is_done done x)) (not (eqb x r)) (not_from_true _ (eq-eqb x r is)))
              | inr other ↦ ap not (get_or-set_other done r x true true other) ∙ yes_and (not (is_done done x)) ∙ ap (λ b. not (is_done done x) && b) (sym (not_from_false _ (ne_eqb x r other)))
            ]

-- The heads of runs

module _ (line : List ℕ) where
  -- a run whose first request this is
  pub record IsHeadOf (runs : List Run) (h : ℕ) : Type 0 where
    pub i : ℕ
    pub there : i < length runs
    pub some : (run_at runs i).next < (run_at runs i).end
    pub is : item line (run_at runs i).next ≡ h

  -- each number among the heads is the first request of some run
  pub heads_read : (runs : List Run) (h : ℕ) → IsTrue (is_in h (heads_of line runs)) → IsHeadOf runs h
  heads_read [] h g = cc
  heads_read (run ∷ runs) h g = of_test (ltb run.next run.end) refl (heads_read runs h) g
    where
      later : IsHeadOf runs h → IsHeadOf (run ∷ runs) h
      later r = record { i = suc r.i; there = omega (arith, r.there); some = r.some; is = r.is }

      of_test : (b : Bool) → ltb run.next run.end ≡ b → (IsTrue (is_in h (heads_of line runs)) → IsHeadOf runs h) → IsTrue (is_in h (cons_option (cond b (Some (item line run.next)) None) (heads_of line runs))) → IsHeadOf (run ∷ runs) h
      of_test true is onward there =
          elim (or_cases (nat_eq h (item line run.next)) _ there) [
            | inl here ↦ record { i = 0; there = omega arith; some = ltb-true run.next run.end is; is = sym (eqb-true h (item line run.next) here) }
            | inr rest ↦ later (onward rest)
          ]
      of_test false is onward there = later (onward there)

  -- the first request of each run that isn't at its end is among the heads
  pub heads_put : (runs : List Run) (i : ℕ) → i < length runs → (run_at runs i).next < (run_at runs i).end → IsTrue (is_in (item line (run_at runs i).next) (heads_of line runs))
  heads_put [] i within below = absurd (omega (arith, within))
  heads_put (run ∷ runs) zero within below =
      subst (λ b. IsTrue (is_in (item line run.next) (cons_option (cond b (Some (item line run.next)) None) (heads_of line runs)))) (sym (lt-ltb run.next run.end below)) (or_left _ _ (eq-eqb (item line run.next) (item line run.next) refl))
  heads_put (run ∷ runs) (suc i) within below = of_test (ltb run.next run.end) (heads_put runs i (omega (arith, within)) below)
    where
      of_test : (b : Bool) → IsTrue (is_in (item line (run_at runs i).next) (heads_of line runs)) → IsTrue (is_in (item line (run_at runs i).next) (cons_option (cond b (Some (item line run.next)) None) (heads_of line runs)))
      of_test true there = or_right (nat_eq (item line (run_at runs i).next) (item line run.next)) _ there
      of_test false there = there

-- The last step of a way

module _ (report : Report) (strict : IsStrict) where
  -- from a stamp to a later one, last by a pair
  pub record Via (a b : Stamp) : Type 0 where
    pub x : Stamp
    pub y : Stamp
    pub given : Contains (given_pairs report) (x, y)
    pub from : (a ≡ x) ⊎ Precedes (given_pairs report) a x
    pub to : (y ≡ b) ⊎ IsTrue (stamp_before y b)

  abbrev LastStep : Stamp → Stamp → Type 0
  LastStep a b = IsTrue (stamp_before a b) ⊎ Via a b

  longer : (a b c : Stamp) → Precedes (given_pairs report) a b → Via b c → Via a c
  longer a b c g via = record {
    x = via.x;
    y = via.y;
    given = via.given;
    from = inr (elim via.from [ inl same ↦ subst (Precedes (given_pairs report) a) same g | inr on ↦ Through a b via.x g on ]);
    to = via.to;
  }

  to_later : (a b c : Stamp) → Via a b → IsTrue (stamp_before b c) → Via a c
  to_later a b c via before = record {
    x = via.x;
    y = via.y;
    given = via.given;
    from = via.from;
    to = inr (elim via.to [ inl same ↦ subst (λ (z : Stamp). IsTrue (stamp_before z c)) (sym same) before | inr on ↦ strict.transitive via.y b c on before ]);
  }

  step_on : (a b c : Stamp) → Precedes (given_pairs report) a b → LastStep a b → LastStep b c → LastStep a c
  step_on a b c way (inl g) (inl h) = inl (strict.transitive a b c g h)
  step_on a b c way (inr g) (inl h) = inr (to_later a b c g h)
  step_on a b c way g (inr h) = inr (longer a b c way h)

  last_step : (a b : Stamp) → Precedes (given_pairs report) a b → LastStep a b
  last_step _ _ (ByStamps a b h) = inl h
  last_step _ _ (ByPair a b h) = inr (record { x = a; y = b; given = h; from = inl refl; to = inl refl })
  last_step _ _ (Through a b c g h) = step_on a b c g (last_step a b g) (last_step b c h)

  module _ (script : Script) (holds : AllHold (replies_clause script report)) (decided : IsDecided) (all_closed : AreClosed) where
    abbrev before : ℕ → ℕ → Bool
    before = is_request_before report

    abbrev prec : ℕ → ℕ → Bool
    prec = request_precedes report

    -- a request whose stamp is before that of another precedes it
    pub before_prec : (a b : ℕ) → IsTrue (before a b) → IsTrue (prec a b)
    before_prec a b h =
        let there = both_there stamp_before (stamp_at report a) (stamp_at report b) h in
        there_both (precedes (given_pairs report)) (stamp_at report a) (stamp_at report b) there.x there.y there.first_is there.second_is ((all_closed (given_pairs report)).has_stamps there.x there.y there.passes)

    -- the earlier end of a pair precedes the later one, if both are begun
    pub pair_prec : (a b : ℕ) → IsTrue (pairs_lead report.replies report.pairs a b) → IsTrue (prec a b)
    pair_prec a b h =
        let found = joined_given report report.pairs a b h in
        let there = found.0 in
        there_both (precedes (given_pairs report)) (stamp_at report a) (stamp_at report b) there.x there.y there.first_is there.second_is ((all_closed (given_pairs report)).has_pairs there.x there.y (found.1 there.x there.y there.first_is there.second_is))

    -- the request before the last step
    pub record Step (a b : ℕ) : Type 0 where
      pub y : ℕ
      pub begun : IsBegun report y
      pub from : (a ≡ y) ⊎ IsTrue (prec a y)
      pub to : IsTrue (before y b) ⊎ IsTrue (pairs_lead report.replies report.pairs y b)

    prec_of : (a b : ℕ) (s t : Stamp) → stamp_at report a ≡ Some s → stamp_at report b ≡ Some t → Precedes (given_pairs report) s t → IsTrue (prec a b)
    prec_of a b s t at_a at_b h = there_both (precedes (given_pairs report)) (stamp_at report a) (stamp_at report b) s t at_a at_b ((decided (given_pairs report) s t).0 h)

    -- what precedes a request is, or precedes, a begun one that leads to it by its stamp or by a pair
    pub step_to : (a b : ℕ) → IsTrue (prec a b) → Step a b
    step_to a b h =
        let there = both_there (precedes (given_pairs report)) (stamp_at report a) (stamp_at report b) h in
        elim (last_step there.x there.y ((decided (given_pairs report) there.x there.y).1 there.passes)) [
          | inl less ↦ record {
            y = a;
            begun = (there.x, there.first_is);
            from = inl refl;
            to = inl (there_both stamp_before (stamp_at report a) (stamp_at report b) there.x there.y there.first_is there.second_is less);
          }
          | inr via ↦
              let ends = given_joined report report.pairs via.x via.y via.given in
              let from : (a ≡ ends.earlier) ⊎ IsTrue (prec a ends.earlier) = elim via.from [
                | inl same ↦ inl (differ script report holds a ends.earlier there.x there.first_is (ends.earlier_is ∙ ap Some (sym same)))
                | inr on ↦ inr (prec_of a ends.earlier there.x via.x there.first_is ends.earlier_is on)
              ] in
              elim via.to [
                | inl same ↦ record {
                  y = ends.earlier;
                  begun = (via.x, ends.earlier_is);
                  from = from;
                  to =
                      let one : ends.later ≡ b = differ script report holds ends.later b via.y ends.later_is (there.second_is ∙ ap Some (sym same)) in
                      inr (subst (λ n. IsTrue (pairs_lead report.replies report.pairs ends.earlier n)) one ends.joined);
                }
                | inr less ↦ record {
                  y = ends.later;
                  begun = (via.y, ends.later_is);
                  from =
                      let on : IsTrue (prec ends.earlier ends.later) = pair_prec ends.earlier ends.later ends.joined in
                      inr (elim from [ inl same ↦ subst (λ n. IsTrue (prec n ends.later)) (sym same) on | inr more ↦ trans report all_closed a ends.earlier ends.later more on ]);
                  to = inl (there_both stamp_before (stamp_at report ends.later) (stamp_at report b) via.y there.y ends.later_is there.second_is less);
                }
              ]
        ]

    module _ (line : List ℕ) (befores : List (List ℕ)) (runs : List Run) (seen : List ℕ) (done : List Bool) (waiting : AreWaiting report line befores runs seen done)
        (firsts : List ℕ) (firsts_are : firsts ≡ heads_of line runs)
        (at_left : (i : ℕ) → i < length runs → (run_at runs i).next < (run_at runs i).end → is_done done (item line (run_at runs i).next) ≡ false)
        (seen_left : (r : ℕ) → IsTrue (is_in r firsts) → r < length seen → seen_by_request seen r < length (list_at befores r) → is_done done (item (list_at befores r) (seen_by_request seen r)) ≡ false) where
      abbrev left : List ℕ
      left = requests_left report done

      abbrev ready : List ℕ
      ready = filter (is_ready befores seen) firsts

      first_left : (h : ℕ) → IsTrue (is_in h firsts) → is_done done h ≡ false
      first_left h g =
          let at = heads_read line runs h (subst (λ (xs : List ℕ). IsTrue (is_in h xs)) firsts_are g) in
          ap (is_done done) (sym at.is) ∙ at_left at.i at.there at.some

      is_there : (r : ℕ) → is_done done r ≡ false → IsTrue (is_in r left)
      is_there r h = left_there script report holds done r (waiting.begun r h) h

      -- the head of the run of a request that is left is that request or before it
      pub record Head (r : ℕ) : Type 0 where
        pub h : ℕ
        pub there : IsTrue (is_in h firsts)
        pub leads : (h ≡ r) ⊎ IsTrue (before h r)

      head_for : (r : ℕ) → is_done done r ≡ false → Head r
      head_for r is_left =
          let found = waiting.found r is_left in
          let at = found.1 in
          let run = run_at runs at.i in
          let some : run.next < run.end = omega (arith, at.from, at.below) in
          record {
            h = item line run.next;
            there = subst (λ (xs : List ℕ). IsTrue (is_in (item line run.next) xs)) (sym firsts_are) (heads_put line runs at.i at.there some);
            leads =
                elim (cases_lt run.next found.0) [
                  | inl less ↦ inr (subst (λ n. IsTrue (before (item line run.next) n)) found.2 (waiting.rising at.i run.next found.0 at.there (omega arith) less at.below))
                  | inr more ↦ let same : run.next ≡ found.0 = omega (arith, at.from, more) in inl (ap (item line) same ∙ found.2)
                ];
          }

      within : (r : ℕ) → IsBegun report r → r < length report.replies
      within r begun = let reply = reply_of script report holds r begun.0 begun.1 in slice_get_within report.replies r reply.0 reply.1

      -- none that is left precedes a head that is ready, and whose stamp none of the heads is before
      none_before : (b : ℕ) → IsTrue (is_in b firsts) → IsTrue (is_ready befores seen b) → list_any (λ other. before other b) firsts ≡ false → (o : ℕ) → is_done done o ≡ false → prec o b ≡ false
      none_before b there is_ready_b none o o_left =
          false_from_ne_true _ (λ h.
          let step = step_to o b h in
          let b_left : is_done done b ≡ false = first_left b there in
          elim (cases_Bool (is_done done step.y)) [
            | inl y_done ↦ elim step.from [
              | inl same ↦ both_ways _ (ap (is_done done) (sym same) ∙ o_left) y_done
              | inr on ↦ both_ways _ (waiting.closed step.y o step.begun.0 step.begun.1 y_done o_left) on
            ]
            | inr y_left ↦ elim step.to [
              | inl less ↦
                  let head = head_for step.y y_left in
                  both_ways _ none (any_in (λ other. before other b) firsts head.h head.there (elim head.leads [ inl same ↦ subst (λ n. IsTrue (before n b)) (sym same) less | inr more ↦ before_trans strict report head.h step.y b more less ]))
              | inr pair ↦
                  let at = in_read step.y (list_at befores b) (waiting.ends step.y b (within b (waiting.begun b b_left)) ∙ pair) in
                  let all : length (list_at befores b) ≤ seen_by_request seen b = leb-true _ _ is_ready_b in
                  both_ways _ y_left (ap (is_done done) (sym at.2) ∙ waiting.seen_done b at.0 (omega (arith, at.1, all)))
            ]
          ])

      -- a request that none left precedes is such a head
      pub record FreeHead (r : ℕ) : Type 0 where
        pub is_ready : IsTrue (is_in r ready)
        pub free : IsTrue (is_free before firsts r)

      free_head : (r : ℕ) → IsTrue (is_in r left) → IsTrue (is_free prec left r) → FreeHead r
      free_head r there free =
          let r_left : is_done done r ≡ false = there_left script report holds done r there in
          let none : list_any (λ other. prec other r) left ≡ false = not-true _ free in
          let unled : (o : ℕ) → is_done done o ≡ false → prec o r ≡ false = λ o o_left. false_from_ne_true _ (λ h. both_ways _ none (any_in (λ other. prec other r) left o (is_there o o_left) h)) in
          let head = head_for r r_left in
          let is_first : IsTrue (is_in r firsts) = elim head.leads [
            | inl same ↦ subst (λ n. IsTrue (is_in n firsts)) same head.there
            | inr less ↦ absurd (both_ways _ (unled head.h (first_left head.h head.there)) (before_prec head.h r less))
          ] in
          let small : r < length report.replies = within r (waiting.begun r r_left) in
          let all : length (list_at befores r) ≤ seen_by_request seen r = elim (cases_lt (seen_by_request seen r) (length (list_at befores r))) [
            | inr past ↦ past
            | inl below ↦
                let e : ℕ = item (list_at befores r) (seen_by_request seen r) in
                let e_left : is_done done e ≡ false = seen_left r is_first (omega (arith, small, waiting.size)) below in
                absurd (both_ways _ (unled e e_left) (pair_prec e r (sym (waiting.ends e r small) ∙ item_in (list_at befores r) (seen_by_request seen r) below)))
          ] in
          record {
            is_ready = kept_in (is_ready befores seen) firsts r is_first (le-leb _ _ all);
            free = not_from_false _ (none_any (λ other. before other r) firsts (λ h h_there. false_from_ne_true _ (λ less. both_ways _ (unled h (first_left h h_there)) (before_prec h r less))));
          }

      -- the best of the ready heads, compared by their stamps, is the best of all requests left, by precedence
      pub best_left : (best : Option ℕ) → IsBest report before firsts ready best → IsBest report prec left left best
      best_left None h =
          all_from (λ r. is_free prec left r ≡ false) left (λ r there. false_from_ne_true _ (λ free.
          let head = free_head r there free in
          both_ways _ (all_at (λ x. is_free before firsts x ≡ false) ready r h head.is_ready) head.free))
      best_left (Some b) h =
          let parts = in_filter (is_ready befores seen) firsts b h.0 in
          let b_left : is_done done b ≡ false = first_left b parts.0 in (
            is_there b b_left,
            not_from_false _ (none_any (λ other. prec other b) left (λ o there. none_before b parts.0 parts.1 (not-true _ h.1) o (there_left script report holds done o there))),
            all_from (λ r. IsTrue (is_free prec left r) → home_at report b ≤ home_at report r) left (λ r there free.
                let head = free_head r there free in
                all_at (λ x. IsTrue (is_free before firsts x) → home_at report b ≤ home_at report x) ready r h.2 head.is_ready head.free),
          )
