use Rattle.rand_core.specs.Pcg32Seed.{pcg32_seed}
use Rattle.rand_pcg.specs.Pcg.{pcg32_of_seed}
use Rattle.load_maker.specs.Words.{words_from}
use Rattle.load_maker.proofs.Made.{made_is, made_is_valid}
use Rattle.load_maker.proofs.making.make.Goals as goal

pub returns-clause-exact : goal.returns-clause-exact
returns-clause-exact c =
    made_is c.args.size c.seed_from_u64-words.result (pcg32_of_seed (pcg32_seed 16 c.args.seed)) c.seed_from_u64-words.ensures
    c.in_ok-requests.ensures c.in_ok-steps.ensures c.new.ensures

pub returns-clause-valid : goal.returns-clause-valid
returns-clause-valid c =
    made_is_valid c.args.size (words_from (pcg32_of_seed (pcg32_seed 16 c.args.seed))) c.requires
    (made_is c.args.size c.seed_from_u64-words.result (pcg32_of_seed (pcg32_seed 16 c.args.seed)) c.seed_from_u64-words.ensures
    c.in_ok-requests.ensures c.in_ok-steps.ensures c.new.ensures)
