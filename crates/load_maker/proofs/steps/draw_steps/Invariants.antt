use Rattle.std.proofs.Common.{◌≡◌}
use Rattle.load_maker.specs.Generated.{drawn_step}
use Rattle.load_maker.specs.Words.{drawn_list, words_from}
use Rattle.load_maker.proofs.steps.draw_steps.Given as goal

abbrev pub invariant-loop : goal.invariant-loop
invariant-loop l = (l.steps.items, words_from l.words) ≡ drawn_list (λ _ words. drawn_step l.size words) l.counter (words_from l.initial.words)
