use Rattle.weaver_workers.specs.Turning.{stand}
use Rattle.weaver_workers.proofs.ReadOn.{keeps-on-none, keeps-on-then}
use Rattle.weaver_workers.proofs.reading.read_all.Goals as goal

pub loop-init : goal.loop-init
loop-init g c = record {
  hand = c.requires.hand;
  runs = c.requires.runs;
  goes = keeps-on-none c.workers_keep_their_laws.ensures c.args.shared.now (stand c.args.hand.now c.args.client.now);
}

pub read_or_nudge-requires-clause-hand : goal.read_or_nudge-requires-clause-hand
read_or_nudge-requires-clause-hand g c = c.loop.invariant.hand

pub read_or_nudge-requires-clause-runs : goal.read_or_nudge-requires-clause-runs
read_or_nudge-requires-clause-runs g c = c.loop.invariant.runs

pub loop-preserved : goal.loop-preserved
loop-preserved g c = record {
  hand = c.in_ok-read.ensures.hand;
  runs = c.in_ok-read.ensures.runs;
  goes = keeps-on-then c.workers_keep_their_laws.ensures c.args.shared.now (stand c.args.hand.now c.args.client.now)
      (stand c.loop.hand c.loop.client) (stand c.read_or_nudge.new.hand c.read_or_nudge.new.client) c.loop.invariant.goes
      c.in_ok-read.ensures.goes;
}

pub returns-then-not-goes_on-clause-goes : goal.returns-then-not-goes_on-clause-goes
returns-then-not-goes_on-clause-goes g c =
    keeps-on-then c.workers_keep_their_laws.ensures c.args.shared.now (stand c.args.hand.now c.args.client.now)
    (stand c.loop.hand c.loop.client) (stand c.read_or_nudge.new.hand c.read_or_nudge.new.client) c.loop.invariant.goes
    c.in_ok-read.ensures.goes
