-- What the work of a script ends with.
use Rattle.std.proofs.Common.{◌≡◌, inl, inr, ℕ, ◌≤◌, List, ◌++◌, Result, Ok, Err, IsErrOf, IfSome, refl, sym, ap, ◌∙◌, subst, arith}
use Rattle.program_defs.specs.declared.script.Request.{Request}
use Rattle.program_defs.specs.declared.script.Script.{Script}
use Rattle.weave_io.specs.Counts.{HasRisen}
use Rattle.weave_io.specs.Told.{ToldBytes}
use Rattle.weave_report.specs.ReportText.{report_text}
use Rattle.store_journal.specs.Commits.{commit_of}
use Rattle.store_journal.specs.Journal.{IsForeign, gate_of}
use Rattle.report_rules.specs.declared.report.Report.{Report}
use Rattle.store_journal.specs.Keeping.{Keeping}
use Rattle.store_journal.specs.KeptAnswers.{IfForeign}
use Rattle.store_journal.specs.declared.faults.KeepFault.{KeepFault}
use Rattle.store_journal.specs.declared.faults.KeepFault.TheVariants as keep
use Rattle.store_journal.specs.declared.faults.RecoverFault.{RecoverFault}
use Rattle.store_journal.specs.declared.faults.RecoverFault.TheVariants as recover
use Rattle.store_journal.specs.declared.kept_commit.Commit.{Commit}
use Rattle.weave_keep.specs.declared.answering.Answer.{Answer}
use Rattle.weave_keep.specs.declared.answering.Unanswered.{Unanswered}
use Rattle.weave_keep.specs.declared.answering.Unanswered.TheVariants as why
use Rattle.weave_keep.specs.KeepEnds.{KeepsCommits, ReadsCommits}
use Rattle.weave_keep.specs.KeptReports.{commits_of_script, kept_replies, kept_report, new_commits, report_of}
use Rattle.weave_keep.specs.Keepable.{IsFresh}
use Rattle.weave_keep.specs.Prepared.{DiskFacts, EndsReport, EndsWork}
use Rattle.weave_keep.specs.Unanswered.{unkept, unrecovered}
use Rattle.weave_keep.proofs.Ends.{if_then}

-- the disk failed later
pub risen_later : (old mid new : ℕ) → old ≤ mid → HasRisen mid new → HasRisen old new
risen_later old mid new no_less (inl risen) = inl (omega (arith, no_less, risen))
risen_later old mid new no_less (inr most) = inr most

-- what comes of the transactions is what comes of the script
pub worked : (disk later : DiskFacts) (script : Script) (recovered : List Commit) (result : Result Answer Unanswered) → ReadsCommits disk.seen recovered → disk.now ≡ later.now → disk.images ≡ later.images → (later.Failed → disk.Failed)
    → EndsReport later script recovered result → EndsWork disk script result
worked disk later script recovered (Ok answer) read now images failed (status, report, kept) =
    (status, record { recovered = recovered; read = read; report = report; kept = subst (λ (told : ToldBytes). KeepsCommits told disk.images (recovered ++ commits_of_script recovered script)) (sym now) (subst (λ (left : List ℕ → Type 0). KeepsCommits later.now left (recovered ++ commits_of_script recovered script)) (sym images) kept) })
worked disk later script recovered (Err why.Read) read now images failed wrong = absurd wrong
worked disk later script recovered (Err why.Memory) read now images failed ends = tt
worked disk later script recovered (Err why.Disk) read now images failed fault = failed fault
worked disk later script recovered (Err why.Foreign) read now images failed wrong = absurd wrong

-- the journal was not recovered
pub unworked : {A : Type 0} (disk : DiskFacts) (script : Script) (result : Result A RecoverFault) (fault : RecoverFault) → result ≡ Err fault → (IsErrOf result recover.Disk → disk.Failed)
    → IfForeign result (λ at. IfSome disk.seen (λ file. IsForeign commit_of file × (at ≡ gate_of commit_of file))) → IfForeign result (λ at. disk.now ≡ disk.seen) → EndsWork disk script (Err (unrecovered fault))
unworked {A} disk script result fault is failed foreign same =
    at fault (subst (λ (r : Result A RecoverFault). IsErrOf r recover.Disk → disk.Failed) is failed)
    (subst (λ (r : Result A RecoverFault). IfForeign r (λ at. IfSome disk.seen (λ file. IsForeign commit_of file × (at ≡ gate_of commit_of file)))) is foreign)
    (subst (λ (r : Result A RecoverFault). IfForeign r (λ at. disk.now ≡ disk.seen)) is same)
  where
    at : (fault : RecoverFault) → (IsErrOf {T = A} (Err fault) recover.Disk → disk.Failed)
        → IfForeign {A = A} (Err fault) (λ at. IfSome disk.seen (λ file. IsForeign commit_of file × (at ≡ gate_of commit_of file))) → IfForeign {A = A} (Err fault) (λ at. disk.now ≡ disk.seen) → EndsWork disk script (Err (unrecovered fault))
    at recover.Disk failed foreign same = failed refl
    at (recover.Foreign place) failed foreign same = record { foreign = if_then disk.seen foreign (λ file is. is.0); unwritten = same }
    at recover.Memory failed foreign same = tt

-- a transaction was not kept: the disk failed, or memory ran out
pub not_kept : (disk : DiskFacts) (script : Script) (recovered : List Commit) (fault : KeepFault) (reason : Unanswered) → reason ≡ unkept fault → (fault ≡ keep.Disk → disk.Failed) → EndsReport disk script recovered (Err reason)
not_kept disk script recovered fault reason is failed = subst (λ (r : Unanswered). EndsReport disk script recovered (Err r)) (sym is) (at fault failed)
  where
    at : (fault : KeepFault) → (fault ≡ keep.Disk → disk.Failed) → EndsReport disk script recovered (Err (unkept fault))
    at keep.Disk failed = failed refl
    at keep.Halted failed = tt
    at keep.Memory failed = tt

-- What the script adds, and its report, are those of its requests in the epoch that was recovered

-- the commits
pub same_commits : (store : Keeping) (script : Script) (requests : List Request) → requests ≡ script.requests → IsFresh store → new_commits store.epoch 0 store.commits requests ≡ commits_of_script store.commits script
same_commits store script requests are fresh = ap (λ (l : List Request). new_commits store.epoch 0 store.commits l) are ∙ ap (λ n. new_commits n 0 store.commits script.requests) fresh.epoch

-- the report
pub same_report : (store : Keeping) (script : Script) (requests : List Request) → requests ≡ script.requests → IsFresh store → (report : Report) → report ≡ report_of (kept_replies store.epoch 0 store.commits requests) → report_text script report ≡ report_text script (kept_report store.commits script)
same_report store script requests are fresh report is =
    ap (λ (r : Report). report_text script r) (is ∙ ap (λ (l : List Request). report_of (kept_replies store.epoch 0 store.commits l)) are ∙ ap (λ n. report_of (kept_replies n 0 store.commits script.requests)) fresh.epoch)
