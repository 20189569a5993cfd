use Rattle.std.proofs.Common.{◌+◌, List, ap, ◌∙◌}
use Rattle.std.specs.Prelude.{count_by}
use Rattle.graph_ops.specs.declared.op.Op.{Op}
use Rattle.graph_ops.specs.Operations.{is_get}
use Rattle.load_maker.specs.Generated.{operation_of}
use Rattle.load_maker.specs.Words.{words_from}
use Rattle.load_maker.proofs.Counted.{no_gets, gets_more}
use Rattle.load_maker.proofs.DrawnValues.{no_items, one_item_more}
use Rattle.load_maker.proofs.ops.draw_ops.Goals as goal

pub loop-init : goal.loop-init
loop-init c = record {
  drawn = no_items (λ ops words. operation_of (c.args.gets.now + count_by is_get ops) words) (words_from c.args.words.now) c.in_ok-ops.ensures.items;
  gets = no_gets c.args.gets.now c.in_ok-ops.ops.items c.in_ok-ops.ensures.items;
}

pub loop-preserved : goal.loop-preserved
loop-preserved c = record {
  drawn =
      ap (λ (items : List Op). (items, words_from c.draw_op.new.words)) c.in_ok-push.ensures.items
      ∙ one_item_more (λ ops words. operation_of (c.args.gets.now + count_by is_get ops) words) c.loop.counter (words_from c.args.words.now) c.loop.invariant.drawn
      (c.draw_op.ensures.drawn ∙ ap (λ gets. operation_of gets (words_from c.loop.words)) c.loop.invariant.gets);
  gets = gets_more c.args.gets.now c.loop.gets c.draw_op.new.gets c.loop.ops.items c.push.new.self.items c.draw_op.result c.in_ok-push.ensures.items c.loop.invariant.gets c.draw_op.ensures.gets;
}
