use Rattle.weaver_locks.proofs.Following.{in-flight, may-judge, may-send}
use Rattle.weaver_locks.proofs.laws.calls_follow_each_other.Goals as goal

pub returns : goal.returns
returns c =
    let laws = c.hands_keep_their_laws.ensures in
    let ids = c.begun_stamps_are_coherent.ensures.seen_ids in
    let rules = c.gates_keep_their_laws.ensures in
    record {
      judge = λ shared old new gate request stamp before is_old is_new fresh was.
          may-judge laws ids shared old new is_old is_new gate request stamp before fresh was;
      flies = λ shared old new gate request stamp before is_old is_new fresh was.
          in-flight laws ids shared old new is_old is_new gate request stamp before fresh was rules;
      send = λ shared old new gate request stamp ops verdict is_old is_new flies judges.
          may-send laws rules shared old new gate request stamp ops verdict is_old is_new flies judges;
    }
