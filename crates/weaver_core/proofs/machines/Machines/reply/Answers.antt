use Rattle.std.proofs.Common.{◌∙◌, sym, subst}
use Rattle.weave_data.proofs.Results.{on_err_map}
use Rattle.program_defs.specs.declared.script.Step.TheVariants.{Reply}
use Rattle.report_rules.specs.declared.report.StepAnswer.{StepAnswer}
use Rattle.weaver_core.specs.Sessions.{AreSameClients}
use Rattle.weaver_core.specs.Cores.{MachinesDo, MachinesView, CanBeGiven, RepliesToChange, machines_of}
use Rattle.weaver_core.specs.GivingReplies.{Replies}
use Rattle.weaver_core.proofs.ReplyDone.{ReplyLaws, reply-done, reply-values, there}
use Rattle.weaver_core.proofs.Resting.{same-sessions, some-request}
use Rattle.weaver_core.proofs.Results.{if_ok_map}
use Rattle.weaver_core.proofs.machines.Machines.reply.Goals as goal

pub reply_in-requires : goal.reply_in-requires
reply_in-requires c =
    let m = c.self.inside in
    let script = c.args.script.now in
    let may = subst (λ (v : MachinesView). CanBeGiven script v (Reply c.args.request)) (sym c.self.view_is) c.requires in
    let laws : ReplyLaws = record { requests = record { rise = c.requests_of_a_session_rise.ensures.rise; among = c.requests_of_a_session_rise.ensures.among }; sent = c.requests_end_or_go_on.ensures.sent } in
    record {
      there = some-request script c.args.request may.there;
      ready = there script m.gates m.store m.oracle m.shards m.clients m.notices.items may.are laws c.args.request;
    }

pub returns-clause-done : goal.returns-clause-done
returns-clause-done c =
    let m = c.self.inside in
    let script = c.args.script.now in
    let r = c.args.request in
    let may = subst (λ (v : MachinesView). CanBeGiven script v (Reply r)) (sym c.self.view_is) c.requires in
    let laws : ReplyLaws = record { requests = record { rise = c.requests_of_a_session_rise.ensures.rise; among = c.requests_of_a_session_rise.ensures.among }; sent = c.requests_end_or_go_on.ensures.sent } in
    let is = c.reply_in.new.clients in
    if_ok_map c.reply_in.result (Replies script m.gates m.store m.clients is r) _
    (λ (a : StepAnswer) did. subst (λ (v : MachinesView). MachinesDo script (Reply r) v (machines_of m.gates m.store m.oracle m.shards is m.notices.items) a) c.self.view_is
    (reply-done script m.gates m.store m.oracle m.shards m.clients m.notices.items may.are laws r is may.alone a did))
    c.reply_in.ensures.replies

pub returns-clause-refused : goal.returns-clause-refused
returns-clause-refused c =
    let m = c.self.inside in
    on_err_map c.reply_in.result (AreSameClients m.clients c.reply_in.new.clients) _ (λ same. same-sessions m.gates m.store m.oracle m.shards m.clients m.notices.items c.reply_in.new.clients same ∙ c.self.view_is) c.reply_in.ensures.refused

pub returns-clause-values : goal.returns-clause-values
returns-clause-values c =
    let m = c.self.inside in
    let script = c.args.script.now in
    let r = c.args.request in
    let may = subst (λ (v : MachinesView). CanBeGiven script v (Reply r)) (sym c.self.view_is) c.requires in
    let laws : ReplyLaws = record { requests = record { rise = c.requests_of_a_session_rise.ensures.rise; among = c.requests_of_a_session_rise.ensures.among }; sent = c.requests_end_or_go_on.ensures.sent } in
    let is = c.reply_in.new.clients in
    if_ok_map c.reply_in.result (Replies script m.gates m.store m.clients is r) _
    (λ (a : StepAnswer) did. subst (λ (v : MachinesView). RepliesToChange script r v (machines_of m.gates m.store m.oracle m.shards is m.notices.items) a) c.self.view_is
    (reply-values script m.gates m.store m.oracle m.shards m.clients m.notices.items may.are laws r is a did))
    c.reply_in.ensures.replies
