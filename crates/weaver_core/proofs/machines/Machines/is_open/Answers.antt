use Rattle.std.proofs.Common.{List, Contains, get_or, sym, ap, subst, ◌∙◌, arith}
use Rattle.program_defs.specs.declared.script.Request.{Request}
use Rattle.weave_account.specs.Account.{session_log}
use Rattle.weaver_core.specs.Sessions.{is_open_in}
use Rattle.weaver_core.specs.Cores.{AreOf, MachinesView}
use Rattle.weaver_core.proofs.BeginDone.{requests-are}
use Rattle.weaver_core.proofs.Resting.{found, some-request}
use Rattle.std.proofs.lemmas.Option.{same_Some}
use Rattle.weaver_core.proofs.machines.Machines.is_open.Goals as goal

pub is_open-requires-clause-there : goal.is_open-requires-clause-there
is_open-requires-clause-there c =
    let m = c.self.inside in
    let script = c.args.script.now in
    let r = c.args.request in
    let asked = c.index-as_slice-request.result in
    let at = found script r asked (some-request script r c.requires.there) (c.index-as_slice-request.is ∙ ap (λ (requests : List Request). get_or requests r asked) c.as_slice.ensures) in
    let are = subst (AreOf script) (sym c.self.view_is) c.requires.are in
    let below = are.limits.sessions r asked at in
    let all = are.core.sessions in
    omega (arith, below, all)

pub is_open-requires-clause-among : goal.is_open-requires-clause-among
is_open-requires-clause-among c =
    let m = c.self.inside in
    let script = c.args.script.now in
    let r = c.args.request in
    let asked = c.index-as_slice-request.result in
    let at = found script r asked (some-request script r c.requires.there) (c.index-as_slice-request.is ∙ ap (λ (requests : List Request). get_or requests r asked) c.as_slice.ensures) in
    let are = subst (AreOf script) (sym c.self.view_is) c.requires.are in
    subst (λ rs. Contains rs r) (sym (requests-are script m.gates m.store m.oracle m.shards m.clients m.notices.items are r asked.session (are.limits.sessions r asked at))) (c.requests_of_a_session_rise.ensures.among script r asked at)

pub returns : goal.returns
returns c other other-is =
    let script = c.args.script.now in
    let r = c.args.request in
    let asked = c.index-as_slice-request.result in
    let at = found script r asked (some-request script r c.requires.there) (c.index-as_slice-request.is ∙ ap (λ (requests : List Request). get_or requests r asked) c.as_slice.ensures) in
    c.is_open.ensures.open ∙ ap (λ (v : MachinesView). is_open_in r (session_log v.state.account asked.session)) c.self.view_is
    ∙ ap (λ (one : Request). is_open_in r (session_log c.args.self.now.state.account one.session)) (same_Some asked other (sym at ∙ other-is))
