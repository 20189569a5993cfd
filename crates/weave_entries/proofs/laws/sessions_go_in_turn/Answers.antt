use Rattle.weave_entries.proofs.Sessions.{in_turn}
use Rattle.weave_entries.proofs.laws.sessions_go_in_turn.Goals as goal

pub returns : goal.returns
returns c =
    let transitive = c.stamps_are_ordered.ensures.transitive in
    record {
      begun = λ number requests log right. (in_turn transitive number requests log right).begun_are;
      replied = λ number requests log right. (in_turn transitive number requests log right).replied_are;
      rise = λ number requests log right. (in_turn transitive number requests log right).rise;
    }
