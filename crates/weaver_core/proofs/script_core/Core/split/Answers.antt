use Rattle.std.proofs.Common.{sym, ap, subst, ◌∙◌}
use Rattle.program_defs.specs.declared.script.Script.{Script}
use Rattle.weaver_core.specs.Cores.{AreOf, CoreView}
use Rattle.weave_account.specs.Account.{NoneInFlight}
use Rattle.weaver_core.specs.Splitting.{AreAllByLog, ArePartsFor}
use Rattle.weaver_core.proofs.Parts.{can-be-joined}
use Rattle.weaver_core.proofs.script_core.Core.split.Goals as goal

-- the machines are those of the script, by the invariant
pub split-requires : goal.split-requires
split-requires c = c.self.invariant.0

pub returns-clause-script : goal.returns-clause-script
returns-clause-script c = c.split.ensures.script ∙ ap (λ (v : CoreView). v.script) c.self.view_is

pub returns-clause-state : goal.returns-clause-state
returns-clause-state c = c.split.ensures.state ∙ ap (λ (v : CoreView). v.state) c.self.view_is

pub returns-clause-joined : goal.returns-clause-joined
returns-clause-joined c =
    let m = c.self.inside in
    let split = c.split.result in
    let script-is = sym c.split.ensures.script in
    can-be-joined m.machines split
    (subst (λ (one : Script). AreOf one m.machines) script-is c.self.invariant.0)
    (subst (λ (one : Script). AreAllByLog one m.machines.state.account m.machines.values) script-is c.self.invariant.1)
    (subst (λ (v : CoreView). NoneInFlight v.state.account) (sym c.self.view_is) c.requires.landed)
    c.split.ensures.state
    (subst (λ (one : Script). ArePartsFor one split) script-is c.split.ensures.parts)
    c.split.ensures.numbered c.split.ensures.values
