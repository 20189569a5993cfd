use Rattle.std.proofs.Common.{◌+◌, sym, ap, ◌∙◌, arith}
use Rattle.program_defs.specs.declared.script.Step.{Step}
use Rattle.program_defs.specs.declared.script.Step.TheVariants.{Begin, Judge, Send, Say, Hear, Nop, Deliver, Apply, Reply}
use Rattle.load_maker.specs.Words.{Words, words_from}
use Rattle.load_maker.specs.Generated.{step_of_form}
use Rattle.load_maker.proofs.DrawnValues.{one, two, three}
use Rattle.load_maker.proofs.Forms.{step_form, begin_form, reply_form}
use Rattle.load_maker.proofs.steps.draw_step.Goals as goal

pub returns-in-0-to-1 : goal.returns-in-0-to-1
returns-in-0-to-1 c =
    one {A = Step × Words} (λ n. n) c.args.size (λ request words. (Begin request, words)) (words_from c.draw.new.words) c.draw-in-0-to-1.ensures.drawn c.draw-in-0-to-1.ensures.left
    ∙ begin_form c.args.size c.draw.result (words_from c.draw.new.words) (omega (arith, c.in-0-to-1))
    ∙ step_form c.args.size (words_from c.args.words.now) c.draw.ensures.drawn c.draw.ensures.left

pub returns-in-2 : goal.returns-in-2
unfolding step_of_form
returns-in-2 c =
    one {A = Step × Words} (λ n. n) 3 (λ gate words. (Judge gate, words)) (words_from c.draw.new.words) c.draw-in-2.ensures.drawn c.draw-in-2.ensures.left
    ∙ ap (λ form. step_of_form c.args.size form (words_from c.draw.new.words)) (sym c.in-2.is)
    ∙ step_form c.args.size (words_from c.args.words.now) c.draw.ensures.drawn c.draw.ensures.left

pub returns-in-3 : goal.returns-in-3
unfolding step_of_form
returns-in-3 c =
    one {A = Step × Words} (λ n. n) 3 (λ gate words. (Send gate, words)) (words_from c.draw.new.words) c.draw-in-3.ensures.drawn c.draw-in-3.ensures.left
    ∙ ap (λ form. step_of_form c.args.size form (words_from c.draw.new.words)) (sym c.in-3.is)
    ∙ step_form c.args.size (words_from c.args.words.now) c.draw.ensures.drawn c.draw.ensures.left

pub returns-in-4 : goal.returns-in-4
unfolding step_of_form
returns-in-4 c =
    one {A = Step × Words} (λ n. n) 3 (λ gate words. (Say gate, words)) (words_from c.draw.new.words) c.draw-in-4.ensures.drawn c.draw-in-4.ensures.left
    ∙ ap (λ form. step_of_form c.args.size form (words_from c.draw.new.words)) (sym c.in-4.is)
    ∙ step_form c.args.size (words_from c.args.words.now) c.draw.ensures.drawn c.draw.ensures.left

pub returns-in-5 : goal.returns-in-5
unfolding step_of_form
returns-in-5 c =
    two {A = Step × Words} (λ n. n) 3 (λ n. 1 + n) c.args.size (λ gate notice words. (Hear gate notice, words)) (words_from c.draw.new.words) c.draw-in-5.ensures.drawn c.draw-in-5.ensures.left
    (ap (λ n. 1 + n) (c.from.ensures ∙ c.draw-in-5-2.ensures.drawn)) c.draw-in-5-2.ensures.left
    ∙ ap (λ form. step_of_form c.args.size form (words_from c.draw.new.words)) (sym c.in-5.is)
    ∙ step_form c.args.size (words_from c.args.words.now) c.draw.ensures.drawn c.draw.ensures.left

pub returns-in-6 : goal.returns-in-6
unfolding step_of_form
returns-in-6 c =
    two {A = Step × Words} (λ n. n) 3 (λ n. n) 4 (λ gate shard words. (Nop gate shard, words)) (words_from c.draw.new.words) c.draw-in-6.ensures.drawn c.draw-in-6.ensures.left c.draw-in-6-2.ensures.drawn c.draw-in-6-2.ensures.left
    ∙ ap (λ form. step_of_form c.args.size form (words_from c.draw.new.words)) (sym c.in-6.is)
    ∙ step_form c.args.size (words_from c.args.words.now) c.draw.ensures.drawn c.draw.ensures.left

pub returns-in-7 : goal.returns-in-7
unfolding step_of_form
returns-in-7 c =
    three {A = Step × Words} (λ n. n) 3 (λ n. n) 4 (λ n. 1 + n) 20 (λ gate shard number words. (Deliver gate shard number, words)) (words_from c.draw.new.words) c.draw-in-7.ensures.drawn c.draw-in-7.ensures.left c.draw-in-7-2.ensures.drawn c.draw-in-7-2.ensures.left
    (ap (λ n. 1 + n) (c.from-in-7.ensures ∙ c.draw-in-7-3.ensures.drawn)) c.draw-in-7-3.ensures.left
    ∙ ap (λ form. step_of_form c.args.size form (words_from c.draw.new.words)) (sym c.in-7.is)
    ∙ step_form c.args.size (words_from c.args.words.now) c.draw.ensures.drawn c.draw.ensures.left

pub returns-in-8 : goal.returns-in-8
unfolding step_of_form
returns-in-8 c =
    two {A = Step × Words} (λ n. n) 4 (λ n. n) 3 (λ shard gate words. (Apply shard gate, words)) (words_from c.draw.new.words) c.draw-in-8.ensures.drawn c.draw-in-8.ensures.left c.draw-in-8-2.ensures.drawn c.draw-in-8-2.ensures.left
    ∙ ap (λ form. step_of_form c.args.size form (words_from c.draw.new.words)) (sym c.in-8.is)
    ∙ step_form c.args.size (words_from c.args.words.now) c.draw.ensures.drawn c.draw.ensures.left

pub returns-in_default : goal.returns-in_default
returns-in_default c =
    one {A = Step × Words} (λ n. n) c.args.size (λ request words. (Reply request, words)) (words_from c.draw.new.words) c.draw-in_default.ensures.drawn c.draw-in_default.ensures.left
    ∙ reply_form c.args.size c.draw.result (words_from c.draw.new.words) (omega (arith, c.in_default))
    ∙ step_form c.args.size (words_from c.args.words.now) c.draw.ensures.drawn c.draw.ensures.left
