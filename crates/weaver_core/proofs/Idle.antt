-- A step `visit` of a request that doesn't wait for its reply, or is a transaction, answers idle and changes nothing.
-- Used by `visit_with`, BegunProgram and VisitWith.
use Rattle.std.proofs.Common.{◌≡◌, ◌⊎◌, ℕ, Bool, true, false, not, [], Option, None, Some, inl, inr, refl, sym, ap, ◌∙◌, arith}
use Rattle.std.specs.Prelude.{◌&&◌, ◌==◌}
use Rattle.std.specs.Option.{option_map}
use Rattle.std.proofs.lemmas.Bool.{eqb-true}
use Rattle.std.proofs.lemmas.List.Elements.{Contains-get_or}
use Rattle.std.proofs.lemmas.Option.{none-some}
use Rattle.weave_data.proofs.Members.{find_has, has_flat}
use Rattle.weave_data.proofs.Ordered.{find_by_key}
use Rattle.weave_data.specs.declared.name.Name.{Name}
use Rattle.program_defs.specs.Limits.{IsWithinLimits}
use Rattle.program_defs.specs.Works.{is_look}
use Rattle.program_defs.specs.declared.script.Request.{Request}
use Rattle.program_defs.specs.declared.script.Script.{Script}
use Rattle.program_defs.specs.declared.script.Step.TheVariants.{Visit}
use Rattle.program_defs.specs.declared.script.Work.{Work}
use Rattle.program_defs.specs.declared.script.Work.TheVariants.{Change, Look}
use Rattle.report_rules.specs.Lookups.{request_at}
use Rattle.report_rules.specs.declared.report.StepAnswer.TheVariants.{Idle}
use Rattle.weave_entries.specs.GateReplay.{BegunRequest, begun_in, program_begun, programs_of}
use Rattle.weave_entries.specs.SessionReplay.{has_begun_in, has_reply_in}
use Rattle.weave_account.specs.declared.account.Account.{Account}
use Rattle.weave_account.specs.Account.{all_begun, gate_log, session_log, stamp_of}
use Rattle.weave_account.specs.IsAccount.{IsAccount}
use Rattle.step_rules.specs.Answers.{answer_of, answer_of_visit, for_request}
use Rattle.step_rules.specs.Requests.{next_vertex}
use Rattle.weave_entries.proofs.OwnStamps.{program-begun}
use Rattle.weaver_core.specs.Sessions.{is_open_in}
use Rattle.weaver_core.specs.Cores.{AreOf, MachinesDo, MachinesView}
use Rattle.weaver_core.specs.Staying.{StayLaws}
use Rattle.weaver_core.proofs.NoStamp.{stamp-begun}
use Rattle.weaver_core.proofs.Resting.{rests}

no-next : (script : Script) (account : Account) (o : Option BegunRequest) → answer_of_visit script account o None ≡ Idle
no-next script account None = refl
no-next script account (Some begun) = refl

-- one that has no stamp was not begun at its gatekeeper
pub not-begun : (script : Script) (account : Account) → IsWithinLimits script → IsAccount script account → (r : ℕ) (request : Request) → request_at script r ≡ Some request → stamp_of account r ≡ None → program_begun r (gate_log account request.gate) ≡ None
not-begun script account limits is r request at none = by (program_begun r (gate_log account request.gate)) refl
  where
    by : (o : Option BegunRequest) → program_begun r (gate_log account request.gate) ≡ o → program_begun r (gate_log account request.gate) ≡ None
    by None e = e
    by (Some b) e =
        let found = find_has (λ (one : BegunRequest). one.request == r) (programs_of (gate_log account request.gate)) b e in
        let home = limits.homes r request at in
        let many = is.gatekeepers.as_many in
        let there = has_flat begun_in account.gates (gate_log account request.gate) b (Contains-get_or account.gates request.gate [] (omega (arith, home, many))) (program-begun (gate_log account request.gate) b found.0) in
        let stamped : stamp_of account b.request ≡ Some b.stamp = ap (option_map (λ (one : BegunRequest). one.stamp)) (find_by_key (λ (one : BegunRequest). one.request) (all_begun account) b is.gatekeepers.once there) in
        absurd (none-some b.stamp (sym none ∙ ap (stamp_of account) (sym (eqb-true b.request r found.1)) ∙ stamped))

-- what does not wait has not begun, or has its reply
closed-cases : (b w : Bool) → (b && not w) ≡ false → (b ≡ false) ⊎ (w ≡ true)
closed-cases false w e = inl refl
closed-cases true true e = inr refl
closed-cases true false e = absurd (let f : true ≡ false = e in cc)

module _ (stay : StayLaws) (script : Script) (machines : MachinesView) (are : AreOf script machines) (r : ℕ) (request : Request) (at : request_at script r ≡ Some request) where
  abbrev account : Account
  account = machines.state.account

  told : (o : Option Name) → next_vertex account r request.work ≡ o → answer_of script machines.state (Visit r) ≡ answer_of_visit script account (program_begun r (gate_log account request.gate)) o
  told o is = ap (for_request (λ (one : Request). answer_of_visit script account (program_begun r (gate_log account one.gate)) (next_vertex account r one.work))) at
      ∙ ap (answer_of_visit script account (program_begun r (gate_log account request.gate))) is

  -- a transaction has no next vertex
  change-idle : (work : Work) → request.work ≡ work → is_look work ≡ false → answer_of script machines.state (Visit r) ≡ Idle
  change-idle (Change ops) is not-look = told None (ap (next_vertex account r) is) ∙ no-next script account (program_begun r (gate_log account request.gate))
  change-idle (Look program) is not-look = absurd (let f : true ≡ false = not-look in cc)

  look-idle : (work : Work) → request.work ≡ work → is_open_in r (session_log account request.session) ≡ false → answer_of script machines.state (Visit r) ≡ Idle
  look-idle (Change ops) is closed = change-idle (Change ops) is refl
  look-idle (Look program) is closed = elim (closed-cases (has_begun_in r (session_log account request.session)) (has_reply_in r (session_log account request.session)) closed) [
    | inl new ↦
        let none : stamp_of account r ≡ None = sym (are.core.account.sessions.stamps r request at) ∙ stamp-begun r (session_log account request.session) new in
        told (next_vertex account r request.work) refl ∙ ap (λ (o : Option BegunRequest). answer_of_visit script account o (next_vertex account r request.work)) (not-begun script account are.limits are.core.account r request at none)
    | inr replied ↦
        let ended = (stay.replied script account are.limits are.core.account r request at (ap is_look is)).1 replied in
        let over = (are.core.account.programs r request program at is).whole ended in
        told None (ap (next_vertex account r) is ∙ over) ∙ no-next script account (program_begun r (gate_log account request.gate))
  ]

  -- `visit` of a request that doesn't wait for its reply answers `idle`
  pub closed-idle : is_open_in r (session_log account request.session) ≡ false → answer_of script machines.state (Visit r) ≡ Idle
  closed-idle = look-idle request.work refl

  -- `visit` of a transaction answers `idle`
  pub no-program-idle : is_look request.work ≡ false → answer_of script machines.state (Visit r) ≡ Idle
  no-program-idle = change-idle request.work refl

  -- `visit` of a request that doesn't wait for its reply is a step that changes nothing
  pub closed-done : is_open_in r (session_log account request.session) ≡ false → MachinesDo script (Visit r) machines machines Idle
  closed-done closed = rests script (Visit r) machines machines Idle (closed-idle closed) refl refl
