use Rattle.weaver_hands.proofs.BegunProgram.{begun-runs}
use Rattle.weaver_hands.proofs.laws.begun_programs_run.Goals as goal

pub returns : goal.returns
returns c = λ shared old new gate request last stamp walk is_old is_new low fresh none did read.
    begun-runs c.hands_keep_their_laws.ensures c.the_crates_below_keep_their_laws.ensures shared old new gate request last stamp is_old is_new low
    fresh did walk none read
