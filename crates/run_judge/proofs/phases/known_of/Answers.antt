use Rattle.std.proofs.Common.{◌≡◌, ◌<◌, ◌∙◌, ℕ, List, Option, length, sym, ap, subst, arith}
use Rattle.std.proofs.lemmas.List.{length-map}
use Rattle.report_rules.specs.declared.report.Reply.{Reply}
use Rattle.report_rules.specs.Lookups.{committed_number}
use Rattle.run_judge.specs.Promises.{commits_before_refusal}
use Rattle.run_judge.specs.Numbers.{AreGreatest, ArePeaksOf, NeverFall}
use Rattle.run_judge.specs.Phases.{commit_values, refusal_values}
use Rattle.run_judge.proofs.PhaseLaws.{never_falls}
use Rattle.run_judge.proofs.phases.known_of.Goals as goal

pub greatest_before-requires : goal.greatest_before-requires
greatest_before-requires c =
    let long = ap (λ (xs : List (Option ℕ)). length xs) (c.as_slice-3.ensures.value ∙ c.in_ok-numbers.ensures) in
    let size = length-map c.as_slice-replies.result.now (λ (reply : Reply). committed_number reply.state) in
    subst (λ (phases : List ℕ). NeverFall phases (length c.as_slice-3.result.now)) (sym c.as_slice-4.ensures.value)
    (never_falls c.args.script.now c.in_ok-phases.phases.items (length c.as_slice-replies.result.now) (length c.as_slice-3.result.now) c.in_ok-phases.ensures.phases (omega (arith, long, size)))

pub greatest_before-requires-2 : goal.greatest_before-requires-2
greatest_before-requires-2 c =
    let long = ap (λ (xs : List (Option ℕ)). length xs) (c.as_slice-5.ensures.value ∙ c.in_ok-refused.ensures) in
    let size = length-map c.as_slice-replies.result.now (λ (reply : Reply). commits_before_refusal reply.state) in
    subst (λ (phases : List ℕ). NeverFall phases (length c.as_slice-5.result.now)) (sym c.as_slice-6.ensures.value)
    (never_falls c.args.script.now c.in_ok-phases.phases.items (length c.as_slice-replies.result.now) (length c.as_slice-5.result.now) c.in_ok-phases.ensures.phases (omega (arith, long, size)))

pub returns : goal.returns
returns c =
    let replies : List Reply = c.args.report.now.replies in
    let same : c.as_slice-replies.result.now ≡ replies = c.as_slice-replies.ensures in
    let phases : List ℕ = c.in_ok-phases.phases.items in
    let numbers : c.as_slice-3.result.now ≡ commit_values replies = c.as_slice-3.ensures.value ∙ c.in_ok-numbers.ensures ∙ ap commit_values same in
    let refused : c.as_slice-5.result.now ≡ refusal_values replies = c.as_slice-5.ensures.value ∙ c.in_ok-refused.ensures ∙ ap refusal_values same in
    let count = length-map replies (λ (reply : Reply). committed_number reply.state) in
    let count_refused = length-map replies (λ (reply : Reply). commits_before_refusal reply.state) in
    let commits : AreGreatest (commit_values replies) phases (length (commit_values replies)) c.in_ok-commits.commits.items =
    subst (λ (ps : List ℕ). AreGreatest (commit_values replies) ps (length (commit_values replies)) c.in_ok-commits.commits.items) c.as_slice-4.ensures.value
    (subst (λ (values : List (Option ℕ)). AreGreatest values c.as_slice-4.result.now (length values) c.in_ok-commits.commits.items) numbers c.in_ok-commits.ensures.greatest) in
    let refusals : AreGreatest (refusal_values replies) phases (length (refusal_values replies)) c.in_ok-refusals.refusals.items =
    subst (λ (ps : List ℕ). AreGreatest (refusal_values replies) ps (length (refusal_values replies)) c.in_ok-refusals.refusals.items) c.as_slice-6.ensures.value
    (subst (λ (values : List (Option ℕ)). AreGreatest values c.as_slice-6.result.now (length values) c.in_ok-refusals.refusals.items) refused c.in_ok-refusals.ensures.greatest) in
    record {
      phases = λ r within. c.in_ok-phases.ensures.phases r (subst (λ (rs : List Reply). r < length rs) (sym same) within);
      peaks = subst (λ (ps : List ℕ). ArePeaksOf ps c.args.ways.now.chains.items c.in_ok-peaks.peaks.items) c.as_slice-2.ensures.value (subst (λ (chains : List (List ℕ)). ArePeaksOf c.as_slice-2.result.now chains c.in_ok-peaks.peaks.items) c.as_slice.ensures.value c.in_ok-peaks.ensures);
      commits = λ place within. commits place (omega (arith, within, count));
      refusals = λ place within. refusals place (omega (arith, within, count_refused));
    }
