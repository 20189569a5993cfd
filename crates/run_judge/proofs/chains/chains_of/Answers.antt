use Rattle.std.proofs.Common.{ℕ, List, length, sym, ap, subst, ◌∙◌, arith}
use Rattle.report_rules.specs.declared.report.Reply.{Reply}
use Rattle.order_witness.specs.Begun.{is_request_before}
use Rattle.run_judge.specs.Chains.{AreTurnChains}
use Rattle.run_judge.proofs.ChainLaws.{chains_end, chains_more, no_chains}
use Rattle.run_judge.proofs.chains.chains_of.Goals as goal

pub loop-turn-init : goal.loop-turn-init
loop-turn-init c = record {
  size = c.in_ok-spots.ensures ∙ ap (λ (rs : List Reply). length rs) c.as_slice.ensures;
  chains = subst (λ (xs : List (List ℕ)). AreTurnChains (is_request_before c.args.report.now) c.args.turns.now 0 xs c.in_ok-spots.spots.items) (sym c.new-lists.ensures.items) (no_chains (is_request_before c.args.report.now) c.args.turns.now c.in_ok-spots.spots.items);
}

pub put-requires : goal.put-requires
put-requires c =
    let within = c.requires c.loop-turn.turn c.loop-turn-test.true in
    let size = c.loop-turn.invariant.size in
    omega (arith, within, size)

pub loop-turn-preserved : goal.loop-turn-preserved
loop-turn-preserved c = record {
  size = c.in_ok-put.ensures.size ∙ c.loop-turn.invariant.size;
  chains = chains_more (is_request_before c.args.report.now) c.args.turns.now c.loop-turn.turn c.loop-turn.lists.items c.put.new.lists.items c.loop-turn.spots.items c.put.new.spots.items
      c.loop-turn.invariant.chains c.in_ok-put.ensures.rising c.in_ok-put.ensures.stay c.in_ok-put.ensures.here c.in_ok-put.ensures.others;
}

pub returns : goal.returns
returns c = chains_end (is_request_before c.args.report.now) c.args.turns.now c.loop-turn.turn c.loop-turn.lists.items c.loop-turn.spots.items (omega (arith, c.loop-turn-test.false)) c.loop-turn.invariant.chains
