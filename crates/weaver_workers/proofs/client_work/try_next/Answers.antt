use Rattle.std.proofs.Common.{arith}
use Rattle.std.specs.Prelude.{◌+◌}
use Rattle.weaver_workers.specs.Turning.{stand}
use Rattle.weaver_workers.proofs.BusyTurns.{tried-before}
use Rattle.weaver_workers.proofs.Going.{goes-then}
use Rattle.weaver_workers.proofs.ReadOn.{if-ok}
use Rattle.weaver_workers.proofs.client_work.try_next.Goals as goal

pub returns-then-is_some : goal.returns-then-is_some
returns-then-is_some g c = if-ok c.look_on.result (λ tried all upto below. all upto) c.look_on.ensures

pub look_on-requires-in-Look-clause-keeps : goal.look_on-requires-in-Look-clause-keeps
look_on-requires-in-Look-clause-keeps g c = (c.in_ok-start_look-in-Look.ensures.goes (c.args.request + 1) (omega arith)).keeps

pub returns-in_ok-start_look-in-Look : goal.returns-in_ok-start_look-in-Look
returns-in_ok-start_look-in-Look g c = if-ok c.look_on-in-Look.result (λ tried all upto below. record {
  goes = goes-then c.args.shared.now c.args.script.now c.args.number upto (stand c.args.hand.now c.args.client.now)
      (stand c.start_look.new.hand c.start_look.new.client) (stand c.look_on-in-Look.new.hand c.look_on-in-Look.new.client)
      (c.in_ok-start_look-in-Look.ensures.goes upto below) (all upto).goes;
  answered = tried-before c.args.shared.now c.args.script.now upto (stand c.args.hand.now c.args.client.now)
      (stand c.start_look.new.hand c.start_look.new.client) (stand c.look_on-in-Look.new.hand c.look_on-in-Look.new.client)
      c.in_ok-start_look-in-Look.ensures.runs.running c.in_ok-start_look-in-Look.ensures.runs.running_is tried (all upto).answered;
}) c.look_on-in-Look.ensures
