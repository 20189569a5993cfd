use Rattle.weave_entries.proofs.KeptUpdates.{read-like-all, last-like-all}
use Rattle.weave_entries.proofs.laws.kept_updates_are_read_like_all.Goals as goal

pub returns : goal.returns
returns c =
    record {
      updates = λ pairs program v log base. read-like-all pairs program v log base;
      last = λ pairs program v log base. last-like-all pairs program v log base;
    }
