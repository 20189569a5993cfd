use Rattle.std.proofs.Common.{sym, ap, ◌∙◌, arith}
use Rattle.std.specs.Prelude.{codes, None}
use Rattle.program_defs.specs.declared.program.Program.{Program}
use Rattle.program_defs.specs.declared.program.Program.TheVariants.{Reach, Around, Path}
use Rattle.load_maker.specs.Words.{Words, words_from}
use Rattle.load_maker.specs.Generated.{numbered_name, program_of_form}
use Rattle.load_maker.proofs.DrawnValues.{one, two}
use Rattle.load_maker.proofs.Forms.{program_form, path_form}
use Rattle.load_maker.proofs.programs.draw_program.Goals as goal

pub returns-in-0 : goal.returns-in-0
unfolding program_of_form
returns-in-0 c =
    ap (λ form. program_of_form c.draw_vertex-v.result form (words_from c.draw_vertex-v.new.words)) (sym c.in-0.is)
    ∙ program_form (words_from c.args.words.now) c.draw-form.ensures.drawn c.draw-form.ensures.left c.draw_vertex-v.ensures.drawn c.draw_vertex-v.ensures.left

pub returns-in-1 : goal.returns-in-1
unfolding program_of_form
returns-in-1 c =
    one {A = Program × Words} (numbered_name (codes "v")) 40 (λ to words. (Reach c.draw_vertex-v.result to None, words)) (words_from c.draw_vertex-v.new.words) c.draw_vertex.ensures.drawn c.draw_vertex.ensures.left
    ∙ ap (λ form. program_of_form c.draw_vertex-v.result form (words_from c.draw_vertex-v.new.words)) (sym c.in-1.is)
    ∙ program_form (words_from c.args.words.now) c.draw-form.ensures.drawn c.draw-form.ensures.left c.draw_vertex-v.ensures.drawn c.draw_vertex-v.ensures.left

pub returns-in-2 : goal.returns-in-2
unfolding program_of_form
returns-in-2 c =
    one {A = Program × Words} (λ n. n) 5 (λ bound words. (Around c.draw_vertex-v.result bound None, words)) (words_from c.draw_vertex-v.new.words) c.draw.ensures.drawn c.draw.ensures.left
    ∙ ap (λ form. program_of_form c.draw_vertex-v.result form (words_from c.draw_vertex-v.new.words)) (sym c.in-2.is)
    ∙ program_form (words_from c.args.words.now) c.draw-form.ensures.drawn c.draw-form.ensures.left c.draw_vertex-v.ensures.drawn c.draw_vertex-v.ensures.left

pub returns-in_default : goal.returns-in_default
returns-in_default c =
    two {A = Program × Words} (numbered_name (codes "v")) 40 (λ n. n) 5 (λ to bound words. (Path c.draw_vertex-v.result to bound None, words)) (words_from c.draw_vertex-v.new.words) c.draw_vertex-in_default.ensures.drawn c.draw_vertex-in_default.ensures.left c.draw-in_default.ensures.drawn c.draw-in_default.ensures.left
    ∙ path_form c.draw_vertex-v.result c.draw-form.result (words_from c.draw_vertex-v.new.words) (omega (arith, c.in_default))
    ∙ program_form (words_from c.args.words.now) c.draw-form.ensures.drawn c.draw-form.ensures.left c.draw_vertex-v.ensures.drawn c.draw_vertex-v.ensures.left
