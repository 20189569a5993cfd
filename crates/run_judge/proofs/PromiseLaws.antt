-- The clauses on what `run` promises say what its headline says.
-- Used by `clauses_say_what_run_promises`, PhaseLaws and PrintedLaws.
use Rattle.std.proofs.Common.{◌≡◌, ℕ, zero, suc, ◌<◌, ◌≤◌, ◌||◌, Bool, IsTrue, List, [], ◌∷◌, ◌++◌, Option, Some, None, ◌⊎◌, inl, inr, refl, sym, ap, ◌∙◌, subst}
use Rattle.std.specs.Prelude.{◌↔◌, nat_eq, slice_get}
use Rattle.std.specs.List.{AllByRecursion}
use Rattle.std.specs.Option.{option_and_then}
use Rattle.std.proofs.lemmas.Bool.{or_cases, or_left, or_right, eqb-true, eq-eqb}
use Rattle.std.proofs.lemmas.Option.{same_Some}
use Rattle.vector_stamp.specs.declared.clock.Stamp.{Stamp}
use Rattle.vector_stamp.specs.Precedence.{Precedes}
use Rattle.weave_data.specs.declared.name.Name.{Name}
use Rattle.weave_data.specs.Facts.{Facts, AllHold, facts_after, facts_in_turn, facts_of_each}
use Rattle.weave_data.proofs.Lists.{append-step}
use Rattle.weave_data.proofs.FactsLaws.{hold-append}
use Rattle.program_defs.specs.declared.script.Script.{Script}
use Rattle.report_rules.specs.declared.report.Report.{Report}
use Rattle.report_rules.specs.declared.report.Reply.{Reply}
use Rattle.report_rules.specs.declared.report.ReplyState.{ReplyState}
use Rattle.report_rules.specs.declared.report.ReplyState.TheVariants.{Unbegun, Begun, Committed, Conflict, Refused, Finished}
use Rattle.report_rules.specs.declared.report.StepAnswer.{StepAnswer}
use Rattle.report_rules.specs.RightReport.{replies_clause}
use Rattle.report_rules.specs.Lookups.{AreBoth, RequestPrecedes, committed_number, given_pairs, is_in, reply_at, stamp_at}
use Rattle.report_rules.specs.Meetings.{IsConflictInOnePhase, IsRefusalInPhase, MeetAt, MeetingsAreOrdered, PhasesAreKept, commit_number, is_transaction, phase_of}
use Rattle.report_rules.specs.PrintedOrder.{IsPrintedOrder}
use Rattle.order_witness.proofs.Replying.{is_numbered}
use Rattle.run_judge.specs.Promises.{BeginsPrintedOrder, IsOrderedWhereMet, IsReplyInPhase, commits_before_refusal, meetings_clause, no_steps_clause, phases_clause, printed_order_clause, refusal_number}

-- Facts of each element

module _ {A : Type 0} (F : A → Type 0) where
  -- if each fact holds, it does so of each element
  pub each_of_facts : (xs : List A) → AllHold (facts_of_each F xs) → AllByRecursion F xs
  each_of_facts [] h = tt
  each_of_facts (x ∷ xs) h = (h.0, each_of_facts xs h.1)

  -- and back
  pub facts_of_all : (xs : List A) → AllByRecursion F xs → AllHold (facts_of_each F xs)
  facts_of_all [] h = tt
  facts_of_all (x ∷ xs) h = (h.0, facts_of_all xs h.1)

  -- the fact of the element at a place
  pub fact_at : (xs : List A) (k : ℕ) (x : A) → AllHold (facts_of_each F xs) → slice_get xs k ≡ Some x → F x
  fact_at [] k x h at = cc
  fact_at (y ∷ xs) zero x h at = subst F (one_value y x at) h.0
    where
      one_value : (y x : A) → Some y ≡ Some x → y ≡ x
      one_value y x e = cc
  fact_at (y ∷ xs) (suc k) x h at = fact_at xs k x h.1 at

  -- facts of the element at each place
  pub facts_from : (xs : List A) → ((k : ℕ) (x : A) → slice_get xs k ≡ Some x → F x) → AllHold (facts_of_each F xs)
  facts_from [] f = tt
  facts_from (x ∷ xs) f = (f 0 x refl, facts_from xs (λ k y at. f (suc k) y at))

-- facts at the end of others
last_holds : (facts : Facts) (Last : Type 0) → AllHold (facts ++ Last ∷ []) → Last
last_holds [] Last h = h.0
last_holds (Fact ∷ facts) Last h = last_holds facts Last h.1

-- The printed order

module _ (report : Report) where
  abbrev Begins : List ℕ → ℕ → Type 0
  Begins before r = BeginsPrintedOrder report (before ++ r ∷ [])

  begins : (before ys : List ℕ) → IsPrintedOrder report (before ++ ys) → AllHold (facts_after before Begins ys)
  begins before [] h = tt
  begins before (y ∷ ys) h =
      let next : IsPrintedOrder report ((before ++ y ∷ []) ++ ys) = subst (IsPrintedOrder report) (append-step before y ys) h in
      ((ys, next), begins (before ++ y ∷ []) ys next)

  -- the clause on the printed order holds exactly if the order is the printed order
  pub printed_so : AllHold (printed_order_clause report) ↔ IsPrintedOrder report report.order
  printed_so = (
    λ h. last_holds (facts_in_turn Begins report.order) (IsPrintedOrder report report.order) h,
    λ h. hold-append (facts_in_turn Begins report.order) (IsPrintedOrder report report.order ∷ []) (begins [] report.order h) (h, tt),
  )

-- Meetings

in_more : (a : ℕ) (xs ys : List ℕ) → IsTrue (is_in a xs) → IsTrue (is_in a (xs ++ ys))
in_more a [] ys h = cc
in_more a (x ∷ xs) ys h = elim (or_cases (nat_eq a x) _ h) [ inl here ↦ or_left _ _ here | inr later ↦ or_right (nat_eq a x) _ (in_more a xs ys later) ]

in_end : (a : ℕ) (xs : List ℕ) → IsTrue (is_in a (xs ++ a ∷ []))
in_end a [] = or_left _ _ (eq-eqb a a refl)
in_end a (x ∷ xs) = or_right (nat_eq a x) _ (in_end a xs)

flip : (a b : Bool) → IsTrue (a || b) → IsTrue (b || a)
flip a b h = elim (or_cases a b h) [ inl first ↦ or_right b a first | inr second ↦ or_left b a second ]

module _ (script : Script) (report : Report) where
  turned : (v : Name) (a b : ℕ) → MeetAt script report v a b → MeetAt script report v b a
  turned v a b m = record {
    different = λ e. m.different (sym e);
    first_is_listed = m.second_is_listed;
    second_is_listed = m.first_is_listed;
    one_changes = flip (is_transaction script a) (is_transaction script b) m.one_changes;
    first_is_there = m.second_is_there;
    second_is_there = m.first_is_there;
  }

  abbrev Ordered : ℕ → ℕ → Type 0
  Ordered a b = RequestPrecedes report a b ⊎ RequestPrecedes report b a

  other_way : (a b : ℕ) → Ordered a b → Ordered b a
  other_way a b h = elim h [ inl first ↦ inr first | inr second ↦ inl second ]

  module _ (v : Name) where
    later_one : (a b : ℕ) (before ys : List ℕ) → AllHold (facts_after before (IsOrderedWhereMet script report) ys) → MeetAt script report v a b → IsTrue (is_in a before) → IsTrue (is_in b ys) → Ordered a b
    later_one a b before [] h m is_a is_b = cc
    later_one a b before (y ∷ ys) h m is_a is_b =
        elim (or_cases (nat_eq b y) _ is_b) [
          | inl here ↦
              let same : b ≡ y = eqb-true b y here in
              subst (Ordered a) (sym same) (h.0 v a is_a (subst (MeetAt script report v a) same m))
          | inr later ↦ later_one a b (before ++ y ∷ []) ys h.1 m (in_more a before (y ∷ []) is_a) later
        ]

    both_in : (a b : ℕ) (before ys : List ℕ) → AllHold (facts_after before (IsOrderedWhereMet script report) ys) → MeetAt script report v a b → IsTrue (is_in a ys) → IsTrue (is_in b ys) → Ordered a b
    both_in a b before [] h m is_a is_b = cc
    both_in a b before (y ∷ ys) h m is_a is_b =
        elim (or_cases (nat_eq a y) _ is_a) [
          | inl first ↦ elim (or_cases (nat_eq b y) _ is_b) [
            | inl second ↦ absurd (m.different (eqb-true a y first ∙ sym (eqb-true b y second)))
            | inr later ↦ later_one a b (before ++ y ∷ []) ys h.1 m (subst (λ n. IsTrue (is_in a (before ++ n ∷ []))) (eqb-true a y first) (in_end a before)) later
          ]
          | inr rest ↦ elim (or_cases (nat_eq b y) _ is_b) [
            | inl second ↦ other_way b a (later_one b a (before ++ y ∷ []) ys h.1 (turned v a b m) (subst (λ n. IsTrue (is_in b (before ++ n ∷ []))) (eqb-true b y second) (in_end b before)) rest)
            | inr later ↦ both_in a b (before ++ y ∷ []) ys h.1 m rest later
          ]
        ]

  all_met : MeetingsAreOrdered script report → (before ys : List ℕ) → AllHold (facts_after before (IsOrderedWhereMet script report) ys)
  all_met all before [] = tt
  all_met all before (y ∷ ys) = (λ v earlier there m. all v earlier y m, all_met all (before ++ y ∷ []) ys)

  -- the clause on meetings holds exactly if they are ordered
  pub meetings_so : AllHold (meetings_clause script report) ↔ MeetingsAreOrdered script report
  meetings_so = (
    λ h v a b m. both_in v a b [] report.order h m m.first_is_listed m.second_is_listed,
    λ all. all_met all [] report.order,
  )

-- Phases

-- a stamp is that of a reply
reply_with : (o : Option Reply) → (x : Stamp) → option_and_then (λ (reply : Reply). reply.stamp) o ≡ Some x → (reply : Reply) × (o ≡ Some reply)
reply_with None x is = cc
reply_with (Some reply) x is = (reply, refl)

-- and so is a number that is read from its state
number_with : (read : ReplyState → Option ℕ) (o : Option Reply) (n : ℕ) → option_and_then (λ (reply : Reply). read reply.state) o ≡ Some n → (reply : Reply) × (o ≡ Some reply) × (read reply.state ≡ Some n)
number_with read None n is = cc
number_with read (Some reply) n is = (reply, refl, is)

both_begun : (P : Stamp → Stamp → Type 0) (a b : Option Stamp) → AreBoth P a b → (x : Stamp) × (b ≡ Some x)
both_begun P None b h = absurd h
both_begun P (Some x) None h = absurd h
both_begun P (Some x) (Some y) h = (y, refl)

-- what a refusal says of other commits
refusal_of : (script : Script) (report : Report) (r : ℕ) (state : ReplyState) → ((other number at : ℕ) → commits_before_refusal state ≡ Some at → commit_number report other ≡ Some number → (phase_of script other < phase_of script r → number ≤ at) × (phase_of script r < phase_of script other → at < number)) → IsRefusalInPhase script report r state
refusal_of script report r Unbegun f = tt
refusal_of script report r Begun f = tt
refusal_of script report r (Committed number answers) f = tt
refusal_of script report r (Conflict v newer) f = tt
refusal_of script report r (Refused op reason at) f = λ other number is. f other number at refl is
refusal_of script report r (Finished answer) f = tt

of_refusal : (script : Script) (report : Report) (r : ℕ) (state : ReplyState) → IsRefusalInPhase script report r state → (other number at : ℕ) → commits_before_refusal state ≡ Some at → commit_number report other ≡ Some number → (phase_of script other < phase_of script r → number ≤ at) × (phase_of script r < phase_of script other → at < number)
of_refusal script report r Unbegun h other number at none is = cc
of_refusal script report r Begun h other number at none is = cc
of_refusal script report r (Committed n answers) h other number at none is = cc
of_refusal script report r (Conflict v newer) h other number at none is = cc
of_refusal script report r (Refused op reason after) h other number at same is =
    subst (λ n. (phase_of script other < phase_of script r → number ≤ n) × (phase_of script r < phase_of script other → n < number)) (same_Some after at same) (h other number is)
of_refusal script report r (Finished answer) h other number at none is = cc

module _ (script : Script) (report : Report) (replies : AllHold (replies_clause script report)) where
  -- a request with a number, by its reply
  commit_of : (r n : ℕ) → commit_number report r ≡ Some n → (reply : Reply) × (reply_at report r ≡ Some reply) × (committed_number reply.state ≡ Some n) × (reply.request ≡ r)
  commit_of r n is = let found = number_with committed_number (reply_at report r) n is in (found.0, found.1, found.2, is_numbered script report replies r found.0 found.1)

  kept_so : AllHold (phases_clause script report) → PhasesAreKept script report
  kept_so h = record {
    later_never_precedes = λ a b less way.
        let stamp = both_begun (Precedes (given_pairs report)) (stamp_at report b) (stamp_at report a) way in
        let reply = reply_with (reply_at report a) stamp.0 stamp.1 in
        let is : reply.0.request ≡ a = is_numbered script report replies a reply.0 reply.1 in
        let fact = fact_at (IsReplyInPhase script report) report.replies a reply.0 h reply.1 in
        fact.precedence b (subst (λ n. phase_of script n < phase_of script b) (sym is) less) (subst (RequestPrecedes report b) (sym is) way);
    conflicts = each_of_facts (λ (reply : Reply). IsConflictInOnePhase script reply.request reply.state) report.replies
        (facts_from (λ (reply : Reply). IsConflictInOnePhase script reply.request reply.state) report.replies (λ k reply at. (fact_at (IsReplyInPhase script report) report.replies k reply h at).conflict));
    numbers = λ a b m n less is_a is_b.
        let found = commit_of b n is_b in
        let fact = fact_at (IsReplyInPhase script report) report.replies b found.0 h found.1 in
        fact.number a m n (subst (λ k. phase_of script a < phase_of script k) (sym found.3) less) is_a found.2;
    refusals = each_of_facts (λ (reply : Reply). IsRefusalInPhase script report reply.request reply.state) report.replies
        (facts_from (λ (reply : Reply). IsRefusalInPhase script report reply.request reply.state) report.replies (λ k reply at.
        let is : reply.request ≡ k = is_numbered script report replies k reply at in
        refusal_of script report reply.request reply.state (λ other number after refused is_other. (
          λ less. (fact_at (IsReplyInPhase script report) report.replies k reply h at).refusal other number after less is_other refused,
          λ less.
              let found = commit_of other number is_other in
              let fact = fact_at (IsReplyInPhase script report) report.replies other found.0 h found.1 in
              fact.earlier_refusal reply.request after number (subst (λ j. phase_of script reply.request < phase_of script j) (sym found.3) less)
              (ap (refusal_number report) is ∙ ap (option_and_then (λ (r : Reply). commits_before_refusal r.state)) at ∙ refused) found.2,
        ))));
  }

  so_kept : PhasesAreKept script report → AllHold (phases_clause script report)
  so_kept kept = facts_from (IsReplyInPhase script report) report.replies (λ k reply at.
      let is : reply.request ≡ k = is_numbered script report replies k reply at in
      let own : (n : ℕ) → committed_number reply.state ≡ Some n → commit_number report reply.request ≡ Some n =
      λ n this. ap (commit_number report) is ∙ ap (option_and_then (λ (r : Reply). committed_number r.state)) at ∙ this in
      let refusal : (j : ℕ) (r : Reply) → slice_get report.replies j ≡ Some r → IsRefusalInPhase script report r.request r.state =
      λ j r there. fact_at (λ (x : Reply). IsRefusalInPhase script report x.request x.state) report.replies j r (facts_of_all (λ (x : Reply). IsRefusalInPhase script report x.request x.state) report.replies kept.refusals) there in
      record {
        precedence = λ other less way. kept.later_never_precedes reply.request other less way;
        conflict = fact_at (λ (r : Reply). IsConflictInOnePhase script r.request r.state) report.replies k reply (facts_of_all (λ (r : Reply). IsConflictInOnePhase script r.request r.state) report.replies kept.conflicts) at;
        number = λ other m n less is_other this. kept.numbers other reply.request m n less is_other (own n this);
        earlier_refusal = λ other m n less is_other this.
            let found = number_with commits_before_refusal (reply_at report other) m is_other in
            let same : found.0.request ≡ other = is_numbered script report replies other found.0 found.1 in
            (of_refusal script report found.0.request found.0.state (refusal other found.0 found.1) reply.request n m found.2 (own n this)).1
            (subst (λ j. phase_of script j < phase_of script reply.request) (sym same) less);
        refusal = λ other m after less is_other this. (of_refusal script report reply.request reply.state (refusal k reply at) other m after this is_other).0 less;
      })

  -- the clause on phases holds exactly if they are kept
  pub phases_so : AllHold (phases_clause script report) ↔ PhasesAreKept script report
  phases_so = (kept_so, so_kept)

-- Answers of steps

none_there : (answers : List StepAnswer) → AllHold (facts_of_each (λ (answer : StepAnswer). ⊥) answers) → answers ≡ []
none_there [] h = refl
none_there (answer ∷ answers) h = absurd h.0

-- no answer is there exactly if each one that is breaks the clause
pub steps_so : (report : Report) → AllHold (no_steps_clause report) ↔ (report.answers ≡ [])
steps_so report = (
  none_there report.answers,
  λ none. subst (λ answers. AllHold (facts_of_each (λ (answer : StepAnswer). ⊥) answers)) (sym none) tt,
)
