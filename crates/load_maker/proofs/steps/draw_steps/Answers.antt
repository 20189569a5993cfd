use Rattle.std.proofs.Common.{List, ap, ◌∙◌}
use Rattle.program_defs.specs.declared.script.Step.{Step}
use Rattle.load_maker.specs.Generated.{drawn_step}
use Rattle.load_maker.specs.Words.{words_from}
use Rattle.load_maker.proofs.DrawnValues.{no_items, one_item_more}
use Rattle.load_maker.proofs.steps.draw_steps.Goals as goal

pub loop-init : goal.loop-init
loop-init c = no_items (λ _ words. drawn_step c.args.size words) (words_from c.args.words.now) c.in_ok-steps.ensures.items

pub loop-preserved : goal.loop-preserved
loop-preserved c =
    ap (λ (items : List Step). (items, words_from c.draw_step.new.words)) c.in_ok-push.ensures.items
    ∙ one_item_more (λ _ words. drawn_step c.args.size words) c.loop.counter (words_from c.args.words.now) c.loop.invariant c.draw_step.ensures
