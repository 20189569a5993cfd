use Rattle.std.proofs.Common.{ℕ, sym, ◌∙◌, subst}
use Rattle.weaver_workers.specs.Turning.{stand, ReadAfterNudgeAs}
use Rattle.weaver_workers.proofs.Answered.{none-from}
use Rattle.weaver_workers.proofs.BusyTurns.{tried-before}
use Rattle.weaver_workers.proofs.Going.{goes-then}
use Rattle.weaver_workers.proofs.Nudged.{read-over, tried-as}
use Rattle.weaver_workers.proofs.ReadOn.{if-ok}
use Rattle.weaver_workers.proofs.looking.look_on.Goals as goal

pub finish_look-requires-clause-keeps : goal.finish_look-requires-clause-keeps
finish_look-requires-clause-keeps g c = (c.in_ok-read.ensures.goes c.args.script.now c.args.number 0 c.requires.keeps).keeps

pub finish_look-requires-clause-over : goal.finish_look-requires-clause-over
finish_look-requires-clause-over g c =
    read-over c.args.shared.now c.args.script.now.gates (stand c.read_all.new.hand c.read_all.new.client) c.in_ok-read.read
    c.in_ok-read.ensures.ended (sym c.tried_so.ensures ∙ none-from c.tried_so.result c.in_default.not-Some) c.in_ok-read.ensures.read

pub returns-in-Some : goal.returns-in-Some
returns-in-Some g c upto = record {
  goes = c.in_ok-read.ensures.goes c.args.script.now c.args.number upto c.requires.keeps;
  answered = tried-as c.args.shared.now c.args.script.now upto (stand c.args.hand.now c.args.client.now)
      (stand c.read_all.new.hand c.read_all.new.client) c.in_ok-read.read c.tried_so.result c.in-Some.tried c.tried_so.ensures
      c.in-Some.is (subst (λ (n : ℕ). ReadAfterNudgeAs c.args.shared.now n (stand c.read_all.new.hand c.read_all.new.client) c.in_ok-read.read)
      (sym c.requires.locks.gates) c.in_ok-read.ensures.read);
}

pub returns : goal.returns
returns g c = if-ok c.finish_look.result (λ tried last upto. record {
  goes = goes-then c.args.shared.now c.args.script.now c.args.number upto (stand c.args.hand.now c.args.client.now)
      (stand c.read_all.new.hand c.read_all.new.client) (stand c.finish_look.new.hand c.finish_look.new.client)
      (c.in_ok-read.ensures.goes c.args.script.now c.args.number upto c.requires.keeps) (last upto).goes;
  answered = tried-before c.args.shared.now c.args.script.now upto (stand c.args.hand.now c.args.client.now)
      (stand c.read_all.new.hand c.read_all.new.client) (stand c.finish_look.new.hand c.finish_look.new.client)
      c.in_ok-read.ensures.runs.running c.in_ok-read.ensures.runs.running_is tried (last upto).answered;
}) c.finish_look.ensures
