-- The four counts of a report in which every reply is final.
-- Used by Loaded.
use Rattle.std.proofs.Common.{◌≡◌, ℕ, ◌+◌, Bool, List, [], ◌∷◌, cond, length, map, IsTrue, refl, sym, ap, ◌∙◌, arith}
use Rattle.std.specs.Prelude.{count_by}
use Rattle.std.specs.List.{AllByRecursion, range_with_len}
use Rattle.std.proofs.lemmas.List.{length-map}
use Rattle.std.proofs.lemmas.List.Sums.{sum_by-cons}
use Rattle.std.proofs.lemmas.List.FromFn.{length-range_with_len}
use Rattle.report_rules.specs.declared.report.Reply.{Reply}
use Rattle.report_rules.specs.declared.report.ReplyState.{ReplyState}
use Rattle.report_rules.specs.declared.report.ReplyState.TheVariants.{Unbegun, Begun as Running, Committed, Conflict, Refused, Finished}
use Rattle.report_rules.specs.declared.report.Report.{Report}
use Rattle.report_rules.specs.Lookups.{EveryReplyIsFinal, is_final}
use Rattle.step_rules.specs.Finishing.{is_finished}
use Rattle.weaver_top.specs.Summaries.{committed_count, conflict_count, is_commit, is_conflict, is_refusal, program_count, refused_count}

-- a final state is one of four
one-of-four : (state : ReplyState) → IsTrue (is_final state)
    → cond (is_commit state) 1 0 + cond (is_conflict state) 1 0 + cond (is_refusal state) 1 0 + cond (is_finished state) 1 0 ≡ 1
one-of-four Unbegun final = cc
one-of-four Running final = cc
one-of-four (Committed number answers) final = refl
one-of-four (Conflict vertex newer) final = refl
one-of-four (Refused op reason at) final = refl
one-of-four (Finished answer) final = refl

counted-first : {A : Type 0} (p : A → Bool) (x : A) (xs : List A) → count_by p (x ∷ xs) ≡ cond (p x) 1 0 + count_by p xs
counted-first p x xs = sum_by-cons (λ x. cond (p x) 1 0) x xs

add-up : (replies : List Reply) → AllByRecursion (λ (reply : Reply). IsTrue (is_final reply.state)) replies
    → count_by (λ (reply : Reply). is_commit reply.state) replies + count_by (λ (reply : Reply). is_conflict reply.state) replies
    + count_by (λ (reply : Reply). is_refusal reply.state) replies + count_by (λ (reply : Reply). is_finished reply.state) replies ≡ length replies
add-up [] final = refl
add-up (reply ∷ replies) final =
    let here = one-of-four reply.state final.0 in
    let rest = add-up replies final.1 in
    let a = counted-first (λ (reply : Reply). is_commit reply.state) reply replies in
    let b = counted-first (λ (reply : Reply). is_conflict reply.state) reply replies in
    let c = counted-first (λ (reply : Reply). is_refusal reply.state) reply replies in
    let d = counted-first (λ (reply : Reply). is_finished reply.state) reply replies in
    omega (arith, here, rest, a, b, c, d)

-- if every reply of a report is final, its four counts add up to the number of requests
pub counts-add-up : (report : Report) (n : ℕ) → EveryReplyIsFinal report → map (λ (reply : Reply). reply.request) report.replies ≡ range_with_len 0 n
    → committed_count report + conflict_count report + refused_count report + program_count report ≡ n
counts-add-up report n final requests =
    add-up report.replies final
    ∙ sym (length-map report.replies (λ (reply : Reply). reply.request))
    ∙ ap (λ (xs : List ℕ). length xs) requests
    ∙ length-range_with_len 0 n
