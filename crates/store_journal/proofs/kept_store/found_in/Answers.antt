use Rattle.std.proofs.Common.{rules, ◌≡◌, ◌≤◌, ◌++◌, ◌∷◌, [], length, take, ◌∙◌, ap, subst}
use Rattle.store_journal.specs.Commits.{commit_of}
use Rattle.store_journal.specs.Journal.{file_commits, gate_of}
use Rattle.store_journal.specs.Walked.{HasPassed}
use Rattle.store_journal.proofs.KeptSteps.{epoch_is, recovered, same_commits}
use Rattle.store_journal.proofs.kept_store.found_in.Goals as goal

pub invariant_of-store : goal.invariant_of-store
invariant_of-store c =
    let file = c.args.file.items in
    let walked = c.in_ok-walked.walked in
    let same : c.as_slice.result.now ≡ file = c.as_slice.ensures.value in
    let gate : walked.gate ≡ gate_of commit_of file = c.in_ok-walked.ensures.gate ∙ ap (gate_of commit_of) same in
    let cut : c.extend_from_slice.new.self.items ≡ take walked.gate file ++ 0 ∷ [] = search rules in
    let passed : HasPassed walked (file_commits commit_of file) = subst (λ f. HasPassed walked (file_commits commit_of f)) same c.in_ok-walked.ensures.commits in
    let within : walked.gate ≤ length file = subst (λ f. walked.gate ≤ length f) same c.in_ok-walked.ensures.within in
    recovered file c.extend_from_slice.new.self.items walked gate cut c.clocks_keep_the_laws.ensures passed c.in_ok-walked.ensures.few within

pub returns-clause-commits : goal.returns-clause-commits
returns-clause-commits c =
    let file = c.args.file.items in
    let walked = c.in_ok-walked.walked in
    let same : c.as_slice.result.now ≡ file = c.as_slice.ensures.value in
    let gate : walked.gate ≡ gate_of commit_of file = c.in_ok-walked.ensures.gate ∙ ap (gate_of commit_of) same in
    let cut : c.extend_from_slice.new.self.items ≡ take walked.gate file ++ 0 ∷ [] = search rules in
    same_commits file c.extend_from_slice.new.self.items walked gate cut

pub returns-clause-epoch : goal.returns-clause-epoch
returns-clause-epoch c =
    let file = c.args.file.items in
    let walked = c.in_ok-walked.walked in
    let same : c.as_slice.result.now ≡ file = c.as_slice.ensures.value in
    let gate : walked.gate ≡ gate_of commit_of file = c.in_ok-walked.ensures.gate ∙ ap (gate_of commit_of) same in
    let cut : c.extend_from_slice.new.self.items ≡ take walked.gate file ++ 0 ∷ [] = search rules in
    let passed : HasPassed walked (file_commits commit_of file) = subst (λ f. HasPassed walked (file_commits commit_of f)) same c.in_ok-walked.ensures.commits in
    epoch_is file c.extend_from_slice.new.self.items walked gate cut passed
