use Rattle.std.proofs.Common.{arith, rules, ◌≡◌, subst}
use Rattle.weaver_workers.specs.Carrying.{IsUpToDateBelow}
use Rattle.weaver_workers.proofs.There.{gate-on, gate-start, one-more-up-to-date}
use Rattle.weaver_workers.proofs.gate_work.hear_others.Goals as goal

pub loop-other-init : goal.loop-other-init
loop-other-init g c = record {
  there = gate-start c.args.shared.now c.args.gate c.args.hand.now c.requires.hand;
  told = c.requires.told;
  heard = λ from low other. absurd (omega (arith, low));
}

pub hear_news-requires-clause-hand : goal.hear_news-requires-clause-hand
hear_news-requires-clause-hand g c = c.loop-other.invariant.there.carries.hand

pub returns-in_err-hear_news-clause-there : goal.returns-in_err-hear_news-clause-there
returns-in_err-hear_news-clause-there g c = gate-on _ _ _ _ _ c.loop-other.invariant.there c.hear_news.ensures.there

pub loop-other-preserved : goal.loop-other-preserved
loop-other-preserved g c = record {
  there = gate-on _ _ _ _ _ c.loop-other.invariant.there c.hear_news.ensures.there;
  told = c.in_ok-hear_news.ensures.told;
  heard = one-more-up-to-date _ _ _ c.args.gate c.loop-other.other c.loop-other.invariant.there.carries.only
      c.hear_news.ensures.there.carries.only c.loop-other.invariant.heard c.in_ok-hear_news.ensures.news;
}

pub returns-clause-there : goal.returns-clause-there
returns-clause-there g c = c.loop-other.invariant.there

pub returns-clause-told : goal.returns-clause-told
returns-clause-told g c = c.loop-other.invariant.told

pub returns-clause-heard : goal.returns-clause-heard
returns-clause-heard g c =
    let all : c.loop-other.other ≡ c.args.gates = search rules in
    subst (λ n. IsUpToDateBelow n c.args.gate c.args.hand.now c.loop-other.hand) all c.loop-other.invariant.heard
