use Rattle.seen_logs.proofs.Noting.{sent-made}
use Rattle.seen_logs.proofs.laws.messages_are_made.Goals as goal

pub returns : goal.returns
returns c = sent-made
