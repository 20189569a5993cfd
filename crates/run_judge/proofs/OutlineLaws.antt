-- The outline of a report has its stamps and pairs, so its precedence; and each of its begun requests may be listed.
-- Used by `turns_of`.
use Rattle.std.proofs.Common.{◌≡◌, ℕ, zero, suc, ◌<◌, ◌&&◌, not, ltb, IsTrue, Bool, true, false, cond, List, [], ◌∷◌, ◌++◌, length, map, Some, refl, sym, ap, ◌∙◌, subst}
use Rattle.std.specs.Prelude.{◌==◌, nat_le, slice_get}
use Rattle.std.specs.List.{AllByRecursion, cons_option, filter, filter_map, list_all}
use Rattle.std.specs.Option.{option_and_then, option_map}
use Rattle.std.proofs.lemmas.List.{length-map, map-append}
use Rattle.vector_stamp.specs.declared.clock.Stamp.{Stamp}
use Rattle.vector_stamp.specs.Precedence.{GivenPair, Precedes}
use Rattle.weave_data.specs.Facts.{AllHold, facts_after, facts_in_turn}
use Rattle.weave_data.proofs.FactsLaws.{hold-append}
use Rattle.weave_data.proofs.Lists.{all-map, filter-all}
use Rattle.program_defs.specs.declared.script.Script.{Script}
use Rattle.report_rules.specs.declared.report.Pair.{Pair}
use Rattle.report_rules.specs.declared.report.Report.{Report}
use Rattle.report_rules.specs.declared.report.Reply.{Reply}
use Rattle.report_rules.specs.RightReport.{is_home_of, is_reply_in_place, replies_clause, stands_after}
use Rattle.report_rules.specs.Lookups.{AreBoth, RequestPrecedes, given_by, given_pairs, is_committed_or_finished, is_none_or, is_some_and, may_be_listed, request_at, stamp_at}
use Rattle.report_rules.specs.PrintedOrder.{IsFree, IsNext, IsOfLesserHome, IsPrintedOrder, TakesAll, begun_requests, without_request}
use Rattle.order_witness.specs.Begun.{NonePrecedesItself}
use Rattle.order_witness.proofs.Printing.{IsBegun, all_at, all_begun}
use Rattle.order_witness.proofs.Replying.{hold_front}
use Rattle.run_judge.specs.Outlines.{outline, outline_of}

-- The clause on replies looks at requests and stamps alone

module _ (script : Script) where
  abbrev InPlace : List Reply → Reply → Type 0
  InPlace before reply = IsTrue (is_reply_in_place script before reply)

  same_after : (reply : Reply) (before : List Reply) → list_all (stands_after script (outline reply)) (map outline before) ≡ list_all (stands_after script reply) before
  same_after reply [] = refl
  same_after reply (x ∷ xs) = ap (λ b. stands_after script reply x && b) (same_after reply xs)

  in_place : (before : List Reply) (reply : Reply) → InPlace before reply → InPlace (map outline before) (outline reply)
  in_place before reply h =
      ap (λ n. (reply.request == n) && ltb reply.request (length script.requests) && is_none_or (is_home_of (request_at script reply.request)) reply.stamp && list_all (stands_after script (outline reply)) (map outline before)) (length-map before outline)
      ∙ ap (λ b. (reply.request == length before) && ltb reply.request (length script.requests) && is_none_or (is_home_of (request_at script reply.request)) reply.stamp && b) (same_after reply before)
      ∙ h

  all_in_place : (before xs : List Reply) → AllHold (facts_after before InPlace xs) → AllHold (facts_after (map outline before) InPlace (map outline xs))
  all_in_place before [] h = tt
  all_in_place before (x ∷ xs) h = (
    in_place before x h.0,
    subst (λ (front : List Reply). AllHold (facts_after front InPlace (map outline xs))) (map-append outline before (x ∷ [])) (all_in_place (before ++ x ∷ []) xs h.1),
  )

  last_fact : (report : Report) → AllHold (replies_clause script report) → IsTrue (nat_le (length script.requests) (length report.replies))
  last_fact report h = last_of (facts_in_turn InPlace report.replies) h
    where
      last_of : (facts : List (Type 0)) → AllHold (facts ++ IsTrue (nat_le (length script.requests) (length report.replies)) ∷ []) → IsTrue (nat_le (length script.requests) (length report.replies))
      last_of [] k = k.0
      last_of (Fact ∷ facts) k = last_of facts k.1

  -- so it holds of the outline too
  pub replies_in_place : (report : Report) → AllHold (replies_clause script report) → AllHold (replies_clause script (outline_of report))
  replies_in_place report h =
      hold-append (facts_in_turn InPlace (map outline report.replies)) _
      (all_in_place [] report.replies (hold_front (facts_in_turn InPlace report.replies) _ h))
      (ap (λ n. nat_le (length script.requests) n) (length-map report.replies outline) ∙ last_fact report h, tt)

-- Stamps and pairs

module _ (report : Report) where
  abbrev made : Report
  made = outline_of report

  stamp_same : (r : ℕ) → stamp_at made r ≡ stamp_at report r
  stamp_same r = of_list report.replies r
    where
      of_list : (xs : List Reply) (r : ℕ) → option_and_then (λ (reply : Reply). reply.stamp) (slice_get (map outline xs) r) ≡ option_and_then (λ (reply : Reply). reply.stamp) (slice_get xs r)
      of_list [] r = refl
      of_list (x ∷ xs) zero = refl
      of_list (x ∷ xs) (suc r) = of_list xs r

  given_same : given_pairs made ≡ given_pairs report
  given_same = of_pairs report.pairs
    where
      of_pairs : (ps : List Pair) → filter_map (λ (pair : Pair). given_by (stamp_at made pair.earlier) (stamp_at made pair.later)) ps ≡ filter_map (λ (pair : Pair). given_by (stamp_at report pair.earlier) (stamp_at report pair.later)) ps
      of_pairs [] = refl
      of_pairs (p ∷ ps) =
          ap (λ s. cons_option (given_by s (stamp_at made p.later)) (filter_map (λ (pair : Pair). given_by (stamp_at made pair.earlier) (stamp_at made pair.later)) ps)) (stamp_same p.earlier)
          ∙ ap (λ s. cons_option (given_by (stamp_at report p.earlier) s) (filter_map (λ (pair : Pair). given_by (stamp_at made pair.earlier) (stamp_at made pair.later)) ps)) (stamp_same p.later)
          ∙ ap (λ rest. cons_option (given_by (stamp_at report p.earlier) (stamp_at report p.later)) rest) (of_pairs ps)

  precedes_same : (a b : ℕ) → RequestPrecedes made a b ≡ RequestPrecedes report a b
  precedes_same a b =
      ap (λ (ps : List GivenPair). AreBoth (Precedes ps) (stamp_at made a) (stamp_at made b)) given_same
      ∙ ap (λ s. AreBoth (Precedes (given_pairs report)) s (stamp_at made b)) (stamp_same a)
      ∙ ap (λ s. AreBoth (Precedes (given_pairs report)) (stamp_at report a) s) (stamp_same b)

  there : (a b : ℕ) → RequestPrecedes made a b → RequestPrecedes report a b
  there a b h = subst (λ (T : Type 0). T) (precedes_same a b) h

  back : (a b : ℕ) → RequestPrecedes report a b → RequestPrecedes made a b
  back a b h = subst (λ (T : Type 0). T) (sym (precedes_same a b)) h

  -- nothing precedes itself by the outline if nothing does by the report
  pub none_itself : NonePrecedesItself report → NonePrecedesItself made
  none_itself none r h = none r (there r r h)

  lesser_same : (a b : ℕ) → IsOfLesserHome made a b → IsOfLesserHome report a b
  lesser_same a b h =
      subst (λ s. AreBoth (λ (x : Stamp) (y : Stamp). x.home < y.home) (stamp_at report a) s) (stamp_same b)
      (subst (λ s. AreBoth (λ (x : Stamp) (y : Stamp). x.home < y.home) s (stamp_at made b)) (stamp_same a) h)

  -- The turns

  begun_same : begun_requests made ≡ begun_requests report
  begun_same = of_list report.replies
    where
      of_list : (xs : List Reply) → filter_map (λ (reply : Reply). option_map (λ (stamp : Stamp). reply.request) reply.stamp) (map outline xs) ≡ filter_map (λ (reply : Reply). option_map (λ (stamp : Stamp). reply.request) reply.stamp) xs
      of_list [] = refl
      of_list (x ∷ xs) = ap (cons_option (option_map (λ (stamp : Stamp). x.request) x.stamp)) (of_list xs)

  free_there : (remaining : List ℕ) (r : ℕ) → IsFree made remaining r → IsFree report remaining r
  free_there remaining r free = all-map (λ other. ¬ RequestPrecedes made other r) (λ other. ¬ RequestPrecedes report other r) (λ other none h. none (back other r h)) remaining free

  free_back : (remaining : List ℕ) (r : ℕ) → IsFree report remaining r → IsFree made remaining r
  free_back remaining r free = all-map (λ other. ¬ RequestPrecedes report other r) (λ other. ¬ RequestPrecedes made other r) (λ other none h. none (there other r h)) remaining free

  next_same : (remaining : List ℕ) (r : ℕ) → IsNext made remaining r → IsNext report remaining r
  next_same remaining r next = record {
    remains = next.remains;
    free = free_there remaining r next.free;
    least = all-map (λ other. IsTrue (not (other == r)) → IsFree made remaining other → IsOfLesserHome made r other) (λ other. IsTrue (not (other == r)) → IsFree report remaining other → IsOfLesserHome report r other)
        (λ other so differ free. lesser_same r other (so differ (free_back remaining other free))) remaining next.least;
  }

  takes_same : (remaining taken : List ℕ) → TakesAll made remaining taken → TakesAll report remaining taken
  takes_same remaining [] none = none
  takes_same remaining (r ∷ taken) takes = (next_same remaining r takes.0, takes_same (without_request r remaining) taken takes.1)

  -- Each begun request may be listed

  all_left : (P : ℕ → Type 0) (test : ℕ → Bool) (xs : List ℕ) → AllByRecursion P xs → AllByRecursion P (filter test xs)
  all_left P test [] h = tt
  all_left P test (x ∷ xs) h = of_test (test x) (all_left P test xs h.1)
    where
      of_test : (b : Bool) → AllByRecursion P (filter test xs) → AllByRecursion P (cond b (x ∷ filter test xs) (filter test xs))
      of_test true rest = (h.0, rest)
      of_test false rest = rest

  all_taken : (P : ℕ → Type 0) (start taken : List ℕ) → TakesAll made start taken → AllByRecursion P start → AllByRecursion P taken
  all_taken P start [] h all = tt
  all_taken P start (r ∷ taken) h all = (all_at P start r all h.0.remains, all_taken P (without_request r start) taken h.1 (all_left P (λ other. not (other == r)) start all))

  listed : (r : ℕ) → IsBegun made r → IsTrue (may_be_listed made r)
  listed r begun = of_list report.replies r begun.0 begun.1
    where
      of_list : (xs : List Reply) (r : ℕ) (s : Stamp) → option_and_then (λ (reply : Reply). reply.stamp) (slice_get (map outline xs) r) ≡ Some s → IsTrue (is_some_and (λ (reply : Reply). is_committed_or_finished reply.state) (slice_get (map outline xs) r))
      of_list [] r s is = cc
      of_list (x ∷ xs) zero s is = refl
      of_list (x ∷ xs) (suc r) s is = of_list xs r s is

  -- the printed order of the outline has all begun requests of the report in turn
  pub turns_are : (script : Script) → AllHold (replies_clause script made) → (order : List ℕ) → IsPrintedOrder made order → TakesAll report (begun_requests report) order
  turns_are script holds order printed =
      let all : AllByRecursion (λ r. IsTrue (may_be_listed made r)) printed.taken =
      all_taken (λ r. IsTrue (may_be_listed made r)) (begun_requests made) printed.taken printed.in_turn
      (all-map (IsBegun made) (λ r. IsTrue (may_be_listed made r)) listed (begun_requests made) (all_begun script made holds)) in
      let same : order ≡ printed.taken = printed.listed ∙ filter-all (may_be_listed made) printed.taken all in
      subst (TakesAll report (begun_requests report)) (sym same)
      (subst (λ (start : List ℕ). TakesAll report start printed.taken) begun_same (takes_same (begun_requests made) printed.taken printed.in_turn))
