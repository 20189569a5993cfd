use Rattle.std.proofs.Common.{ℕ, ◌%◌, ap}
use Rattle.rand_pcg.specs.Lcg.{Lcg}
use Rattle.load_maker.specs.Words.{words_from}
use Rattle.load_maker.proofs.draws.draw.Goals as goal

pub returns-clause-drawn : goal.returns-clause-drawn
unfolding words_from
returns-clause-drawn c = ap (λ (next : ℕ × Lcg). next.0 % c.args.n) c.next_word.ensures

pub returns-clause-left : goal.returns-clause-left
unfolding words_from
returns-clause-left c = ap (λ (next : ℕ × Lcg). words_from next.1) c.next_word.ensures
