use Rattle.std.proofs.Common.{sym, ap, ◌∙◌, arith}
use Rattle.std.specs.Prelude.{codes}
use Rattle.std.proofs.lemmas.Bool.{lt-ltb, le-ltb}
use Rattle.graph_ops.specs.declared.op.Op.{Op}
use Rattle.graph_ops.specs.declared.op.Op.TheVariants.{Set, Link, Unlink, Tag}
use Rattle.load_maker.specs.Words.{Words, words_from}
use Rattle.load_maker.specs.Generated.{numbered_name, operation_of_form}
use Rattle.load_maker.proofs.DrawnValues.{one, two, three}
use Rattle.load_maker.proofs.Forms.{op_form, create_form, get_form, delete_form, unlink_form}
use Rattle.load_maker.proofs.ops.draw_op.Goals as goal

pub returns-in-0-to-2-clause-drawn : goal.returns-in-0-to-2-clause-drawn
returns-in-0-to-2-clause-drawn c =
    create_form c.args.gets.now c.draw_vertex-v.result c.draw.result (words_from c.draw.new.words) (omega (arith, c.in-0-to-2))
    ∙ op_form c.args.gets.now (words_from c.args.words.now) c.draw_vertex-v.ensures.drawn c.draw_vertex-v.ensures.left c.draw.ensures.drawn c.draw.ensures.left

pub returns-in-3-clause-drawn : goal.returns-in-3-clause-drawn
unfolding operation_of_form
returns-in-3-clause-drawn c =
    two {A = Op × Words} (numbered_name (codes "k")) 4 (numbered_name (codes "x")) 10 (λ key value words. (Set c.draw_vertex-v.result key value, words)) (words_from c.draw.new.words) c.draw_key.ensures.drawn c.draw_key.ensures.left c.draw_value.ensures.drawn c.draw_value.ensures.left
    ∙ ap (λ form. operation_of_form c.args.gets.now c.draw_vertex-v.result form (words_from c.draw.new.words)) (sym c.in-3.is)
    ∙ op_form c.args.gets.now (words_from c.args.words.now) c.draw_vertex-v.ensures.drawn c.draw_vertex-v.ensures.left c.draw.ensures.drawn c.draw.ensures.left

pub returns-in-4-clause-drawn : goal.returns-in-4-clause-drawn
unfolding operation_of_form
returns-in-4-clause-drawn c =
    two {A = Op × Words} (numbered_name (codes "e")) 6 (numbered_name (codes "v")) 40 (λ edge target words. (Link c.draw_vertex-v.result edge target, words)) (words_from c.draw.new.words) c.draw_edge.ensures.drawn c.draw_edge.ensures.left c.draw_vertex.ensures.drawn c.draw_vertex.ensures.left
    ∙ ap (λ form. operation_of_form c.args.gets.now c.draw_vertex-v.result form (words_from c.draw.new.words)) (sym c.in-4.is)
    ∙ op_form c.args.gets.now (words_from c.args.words.now) c.draw_vertex-v.ensures.drawn c.draw_vertex-v.ensures.left c.draw.ensures.drawn c.draw.ensures.left

pub returns-in-5-clause-drawn : goal.returns-in-5-clause-drawn
returns-in-5-clause-drawn c =
    get_form c.args.gets.now c.draw_vertex-v.result (words_from c.draw.new.words) (lt-ltb c.args.gets.now 1000 c.if-gets-lt-MOST_GETS.true)
    ∙ ap (λ form. operation_of_form c.args.gets.now c.draw_vertex-v.result form (words_from c.draw.new.words)) (sym c.in-5.is)
    ∙ op_form c.args.gets.now (words_from c.args.words.now) c.draw_vertex-v.ensures.drawn c.draw_vertex-v.ensures.left c.draw.ensures.drawn c.draw.ensures.left

pub returns-in-5-2-clause-drawn : goal.returns-in-5-2-clause-drawn
returns-in-5-2-clause-drawn c =
    delete_form c.args.gets.now c.draw_vertex-v.result (words_from c.draw.new.words) (le-ltb c.args.gets.now 1000 c.if-gets-lt-MOST_GETS.false)
    ∙ ap (λ form. operation_of_form c.args.gets.now c.draw_vertex-v.result form (words_from c.draw.new.words)) (sym c.in-5.is)
    ∙ op_form c.args.gets.now (words_from c.args.words.now) c.draw_vertex-v.ensures.drawn c.draw_vertex-v.ensures.left c.draw.ensures.drawn c.draw.ensures.left

pub returns-in-6-clause-drawn : goal.returns-in-6-clause-drawn
unfolding operation_of_form
returns-in-6-clause-drawn c =
    three {A = Op × Words} (numbered_name (codes "e")) 6 (numbered_name (codes "k")) 4 (numbered_name (codes "x")) 10 (λ edge key value words. (Tag c.draw_vertex-v.result edge key value, words)) (words_from c.draw.new.words) c.draw_edge-in-6.ensures.drawn c.draw_edge-in-6.ensures.left c.draw_key-in-6.ensures.drawn c.draw_key-in-6.ensures.left c.draw_value-in-6.ensures.drawn c.draw_value-in-6.ensures.left
    ∙ ap (λ form. operation_of_form c.args.gets.now c.draw_vertex-v.result form (words_from c.draw.new.words)) (sym c.in-6.is)
    ∙ op_form c.args.gets.now (words_from c.args.words.now) c.draw_vertex-v.ensures.drawn c.draw_vertex-v.ensures.left c.draw.ensures.drawn c.draw.ensures.left

pub returns-in_default-clause-drawn : goal.returns-in_default-clause-drawn
returns-in_default-clause-drawn c =
    one {A = Op × Words} (numbered_name (codes "e")) 6 (λ edge words. (Unlink c.draw_vertex-v.result edge, words)) (words_from c.draw.new.words) c.draw_edge-in_default.ensures.drawn c.draw_edge-in_default.ensures.left
    ∙ unlink_form c.args.gets.now c.draw_vertex-v.result c.draw.result (words_from c.draw.new.words) (omega (arith, c.in_default))
    ∙ op_form c.args.gets.now (words_from c.args.words.now) c.draw_vertex-v.ensures.drawn c.draw_vertex-v.ensures.left c.draw.ensures.drawn c.draw.ensures.left
