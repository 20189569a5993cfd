use Rattle.priced_path.proofs.Entries.{put-from}
use Rattle.priced_path.proofs.opened.Opened.put.Goals as goal

pub returns : goal.returns
returns c = put-from (λ entry. entry.0) _ _ _ _ c.self.view_is c.in_ok-push.ensures.permutation
