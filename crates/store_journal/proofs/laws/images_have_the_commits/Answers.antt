use Rattle.std.proofs.Common.{inl, refl, arith}
use Rattle.store_journal.specs.Commits.{commit_of}
use Rattle.store_journal.proofs.Foreign.{never_foreign}
use Rattle.store_journal.proofs.Forms.{journal_commits}
use Rattle.store_journal.proofs.laws.images_have_the_commits.Goals as goal

pub returns-clause-commits : goal.returns-clause-commits
returns-clause-commits c commits pending file journal = journal_commits commit_of commits pending file journal

pub returns-clause-never_foreign : goal.returns-clause-never_foreign
returns-clause-never_foreign c commits pending file journal foreign = never_foreign commit_of commits pending file journal foreign

pub returns-clause-empty : goal.returns-clause-empty
returns-clause-empty c = inl (refl, omega arith)
