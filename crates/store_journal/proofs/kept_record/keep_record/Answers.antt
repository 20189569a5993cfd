use Rattle.std.proofs.Common.{◌∷◌, ◌+◌, ◌-◌, option_map, length, take, drop, sym, ◌∙◌, ap, subst}
use Rattle.store_journal.specs.Commits.{commit_of}
use Rattle.store_journal.specs.Disk.{written_at}
use Rattle.store_journal.specs.Standing.{IsRecord}
use Rattle.store_journal.proofs.Rests.{rest_of}
use Rattle.store_journal.proofs.kept_record.keep_record.Goals as goal

pub returns-in-Ok-clause-any_moment : goal.returns-in-Ok-clause-any_moment
returns-in-Ok-clause-any_moment g c commits next at_rest added told =
    let from = c.args.gate + 1 in
    let same = ap (λ l. take (length l - from) (drop from l)) c.as_slice.ensures.value ∙ rest_of c.args.journal.now.items from in
    c.add_record.ensures.any_moment commits next at_rest (subst (λ l. IsRecord commit_of commits next l) (sym same) added) told

pub returns-in-Err-clause-any_moment : goal.returns-in-Err-clause-any_moment
returns-in-Err-clause-any_moment g c commits next at_rest added told =
    let from = c.args.gate + 1 in
    let same = ap (λ l. take (length l - from) (drop from l)) c.as_slice.ensures.value ∙ rest_of c.args.journal.now.items from in
    c.add_record.ensures.any_moment commits next at_rest (subst (λ l. IsRecord commit_of commits next l) (sym same) added) told

pub returns-in-Ok-clause-bytes : goal.returns-in-Ok-clause-bytes
returns-in-Ok-clause-bytes g c commits at_rest =
    let from = c.args.gate + 1 in
    let same = ap (λ l. take (length l - from) (drop from l)) c.as_slice.ensures.value ∙ rest_of c.args.journal.now.items from in
    c.in-Ok.ensures.bytes commits at_rest ∙ ap (λ l. option_map (written_at c.args.gate (1 ∷ l)) (g.D.Disk.seen c.args.disk.now)) same
