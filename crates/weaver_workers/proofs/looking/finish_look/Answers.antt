use Rattle.weaver_workers.proofs.Deeds.{finished}
use Rattle.weaver_workers.proofs.looking.finish_look.Goals as goal

pub returns-in-Ok : goal.returns-in-Ok
returns-in-Ok g c upto = record {
  goes = finished c.workers_keep_their_laws.ensures c.args.shared.now c.args.script.now c.args.number upto c.args.hand.now
      c.finish.new.hand c.args.client.now c.reserve.new.self c.replied.new.self c.requires.keeps c.reserve.ensures.same
      c.finish.ensures.hand c.in-Some.running c.in-Some.is c.in-Ok.answer c.in-Ok.ensures.done c.replied.ensures.replied
      c.replied.ensures.values;
  answered = tt;
}
