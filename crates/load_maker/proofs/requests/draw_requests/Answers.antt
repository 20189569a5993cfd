use Rattle.std.proofs.Common.{List, cond, ap, ◌∙◌}
use Rattle.program_defs.specs.Works.{is_look}
use Rattle.program_defs.specs.declared.script.Request.{Request}
use Rattle.weave_script.specs.Limits.{gets_of_work}
use Rattle.load_maker.specs.Generated.{drawn_request}
use Rattle.load_maker.specs.Words.{words_from}
use Rattle.load_maker.proofs.Counted.{counted_none, counted_more, request_here}
use Rattle.load_maker.proofs.DrawnValues.{no_items, one_item_more}
use Rattle.load_maker.proofs.requests.draw_requests.Goals as goal

pub loop-number-init : goal.loop-number-init
loop-number-init c = record {
  drawn = no_items drawn_request (words_from c.args.words.now) c.in_ok-requests.ensures.items;
  programs = counted_none (λ (r : Request). cond (is_look r.work) 1 0) c.in_ok-requests.requests.items c.in_ok-requests.ensures.items;
  gets = counted_none (λ (r : Request). gets_of_work r.work) c.in_ok-requests.requests.items c.in_ok-requests.ensures.items;
}

pub loop-number-preserved : goal.loop-number-preserved
loop-number-preserved c =
    let so_far = c.loop-number.invariant in
    let request = c.in_ok-draw_request.field-0 in
    record {
      drawn =
          ap (λ (items : List Request). (items, words_from c.draw_request.new.words)) c.in_ok-push.ensures.items
          ∙ one_item_more drawn_request c.loop-number.number (words_from c.args.words.now) so_far.drawn
          (c.in_ok-draw_request.ensures.drawn
          ∙ request_here c.loop-number.number c.loop-number.counts.programs c.loop-number.counts.gets (words_from c.args.words.now) (words_from c.loop-number.words) c.loop-number.requests.items so_far.drawn so_far.programs so_far.gets);
      programs = counted_more (λ (r : Request). cond (is_look r.work) 1 0) c.loop-number.counts.programs c.draw_request.new.counts.programs c.loop-number.requests.items c.push.new.self.items request c.in_ok-push.ensures.items so_far.programs c.in_ok-draw_request.ensures.programs;
      gets = counted_more (λ (r : Request). gets_of_work r.work) c.loop-number.counts.gets c.draw_request.new.counts.gets c.loop-number.requests.items c.push.new.self.items request c.in_ok-push.ensures.items so_far.gets c.in_ok-draw_request.ensures.gets;
    }
