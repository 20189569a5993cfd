use Rattle.weaver_locks.proofs.Following.{flight-still, judges-still, runs-still}
use Rattle.weaver_locks.proofs.laws.what_was_begun_goes_on.Goals as goal

pub returns : goal.returns
returns c =
    let laws = c.hands_keep_their_laws.ensures in
    let rules = c.gates_keep_their_laws.ensures in
    record {
      flight = λ shared old new is_old is_new number made more gate request stamp flies.
          flight-still laws shared old new is_old is_new gate number made (more.gates gate) rules request stamp flies;
      program = λ shared old new is_old is_new number made more home request stamp runs.
          runs-still laws shared old new is_old is_new home number made (more.gates home) request stamp runs;
      judge = judges-still;
    }
