-- Driving steps make no entry at a gatekeeper that begins a request from the bound on, or raises an epoch.
-- Used by `drive`, Nudging and Quiet.
use Rattle.std.proofs.Common.{ℕ, Bool, true, false, cond, nat_lt, List, [], ◌∷◌, ◌++◌, fold, IsTrue, Option, Some, None, inl, inr, refl, sym, ap, subst, ◌∙◌, append_assoc}
use Rattle.std.proofs.lemmas.List.{append-nil}
use Rattle.std.proofs.lemmas.List.Elements.{Contains-append_cases}
use Rattle.weave_data.proofs.Members.{has_none}
use Rattle.weave_data.specs.declared.name.Name.{Name}
use Rattle.vector_stamp.specs.declared.clock.Clock.{Clock}
use Rattle.program_defs.specs.declared.script.Request.{Request}
use Rattle.program_defs.specs.declared.script.Script.{Script}
use Rattle.program_defs.specs.declared.script.Step.{Step}
use Rattle.program_defs.specs.declared.script.Step.TheVariants.{Begin, Judge, Send, Say, Hear, Nop, Deliver, Apply, Visit, Reply, Collect, Epoch, Restart}
use Rattle.program_defs.specs.declared.script.Work.{Work}
use Rattle.program_defs.specs.declared.script.Work.TheVariants.{Change, Look}
use Rattle.report_rules.specs.Lookups.{request_at}
use Rattle.weave_entries.specs.declared.gate_log.GateEntry.{GateEntry}
use Rattle.weave_entries.specs.declared.gate_log.GateDeed.{GateDeed}
use Rattle.weave_entries.specs.declared.message.Message.{Message}
use Rattle.weave_entries.specs.GateReplay.{BegunRequest, program_begun}
use Rattle.weave_entries.specs.StoreReplay.{Judgement}
use Rattle.weave_account.specs.declared.account.Account.{Account}
use Rattle.weave_account.specs.Account.{gate_log}
use Rattle.step_rules.specs.CoreState.{CoreState, with_gate_deed}
use Rattle.step_rules.specs.Answers.{answer_of}
use Rattle.step_rules.specs.Entries.{account_with, after_begin, after_deliver, after_hear, after_judge, after_reply, after_send, after_visit, after_work, at_request, begin_deed, stamp_to_begin, with_finish}
use Rattle.step_rules.specs.Requests.{has_ended}
use Rattle.step_rules.specs.Trace.{is_ok, state_after}
use Rattle.weave_drive.specs.Driving.{AreDriving, DrivesGates, IsDriven, is_driving, is_driving_deed}
use Rattle.weave_drive.proofs.After.{account-after, grown}

module _ (upto : ℕ) where
  gates-same : (account : Account) → DrivesGates upto account account
  gates-same account home = ([], sym (append-nil (gate_log account home)), λ e h. absurd (has_none e h))

  gates-through : (a b c : Account) → DrivesGates upto a b → DrivesGates upto b c → DrivesGates upto a c
  gates-through a b c x y home =
      let p = x home in
      let q = y home in
      (p.0 ++ q.0, q.1 ∙ ap (λ k. k ++ q.0) p.1 ∙ append_assoc (gate_log a home) p.0 q.0, λ e h. elim (Contains-append_cases p.0 q.0 e h) [ inl l ↦ p.2 e l | inr r ↦ q.2 e r ])

  with-deed : (account : Account) (home author : ℕ) (deed : GateDeed) → IsTrue (is_driving_deed upto deed) → DrivesGates upto account (with_gate_deed account home author deed)
  with-deed account home author deed fine k =
      let g = grown account.gates home k (record { author = author; deed = deed }) in
      (g.0, g.1, λ e h. subst (λ (x : GateEntry). IsTrue (is_driving_deed upto x.deed)) (g.2 e h) fine)

  begins : (account : Account) (r : ℕ) (o : Option Request) → IsTrue (nat_lt r upto) → DrivesGates upto account (at_request (after_begin account r) account o)
  begins account r None less = gates-same account
  begins account r (Some request) less = with-deed account request.gate 0 (begin_deed r (stamp_to_begin account request) request.work) (fine request.work)
    where
      fine : (work : Work) → IsTrue (is_driving_deed upto (begin_deed r (stamp_to_begin account request) work))
      fine (Change ops) = less
      fine (Look program) = less

  judges : (script : Script) (account : Account) (o : Option BegunRequest) → DrivesGates upto account (after_judge script account o)
  judges script account None = gates-same account
  judges script account (Some flight) = gates-same account

  sends : (script : Script) (account : Account) (g : ℕ) (o : Option BegunRequest) (j : Option Judgement) → DrivesGates upto account (after_send script account g o j)
  sends script account g None None = gates-same account
  sends script account g None (Some judged) = gates-same account
  sends script account g (Some flight) None = gates-same account
  sends script account g (Some flight) (Some judged) = with-deed account g flight.author _ refl

  hears : (account : Account) (g : ℕ) (o : Option Clock) → DrivesGates upto account (after_hear account g o)
  hears account g None = gates-same account
  hears account g (Some clock) = with-deed account g 0 _ refl

  delivers : (account : Account) (g s number : ℕ) (o : Option Message) → DrivesGates upto account (after_deliver account g s number o)
  delivers account g s number None = gates-same account
  delivers account g s number (Some message) = gates-same account

  visits : (script : Script) (account : Account) (r : ℕ) (o : Option BegunRequest) (next : Option Name) → DrivesGates upto account (after_visit script account r o next)
  visits script account r None None = gates-same account
  visits script account r None (Some v) = gates-same account
  visits script account r (Some begun) None = gates-same account
  visits script account r (Some begun) (Some v) = gates-same account

  visits-at : (script : Script) (account : Account) (r : ℕ) (o : Option Request) (next : Request → Option Name) (of : Request → Option BegunRequest) → DrivesGates upto account (at_request (λ request. after_visit script account r (of request) (next request)) account o)
  visits-at script account r None next of = gates-same account
  visits-at script account r (Some request) next of = visits script account r (of request) (next request)

  finishes : (account : Account) (r g : ℕ) (o : Option BegunRequest) → DrivesGates upto account (with_finish account r g o)
  finishes account r g None = gates-same account
  finishes account r g (Some begun) = with-deed account g begun.author _ refl

  works : (account : Account) (r : ℕ) (request : Request) (work : Work) → DrivesGates upto account (after_work account r request work)
  works account r request (Change ops) = gates-same account
  works account r request (Look program) = at (has_ended account r request)
    where
      at : (b : Bool) → DrivesGates upto account (cond b account (with_finish account r request.gate (program_begun r (gate_log account request.gate))))
      at true = gates-same account
      at false = finishes account r request.gate (program_begun r (gate_log account request.gate))

  replies : (account : Account) (r : ℕ) (o : Option Request) → DrivesGates upto account (at_request (after_reply account r) account o)
  replies account r None = gates-same account
  replies account r (Some request) = works account r request request.work

  done : (script : Script) (state : CoreState) (step : Step) → IsTrue (is_driving upto step) → DrivesGates upto state.account (account_with script state step)
  done script state (Begin r) driving = begins state.account r (request_at script r) driving
  done script state (Judge g) driving = judges script state.account _
  done script state (Send g) driving = sends script state.account g _ _
  done script state (Say g) driving = gates-same state.account
  done script state (Hear g k) driving = hears state.account g _
  done script state (Nop g s) driving = with-deed state.account g 0 _ refl
  done script state (Deliver g s number) driving = delivers state.account g s number _
  done script state (Apply s g) driving = gates-same state.account
  done script state (Visit r) driving = visits-at script state.account r (request_at script r) _ _
  done script state (Reply r) driving = replies state.account r (request_at script r)
  done script state (Collect s) driving = cc
  done script state (Epoch g epoch) driving = cc
  done script state (Restart g epoch) driving = cc

  -- what a driving step adds at gatekeepers begins no request from the bound on, and raises no epoch
  pub after-step : (script : Script) (state : CoreState) (step : Step) → IsTrue (is_driving upto step) → DrivesGates upto state.account (state_after script state step).account
  after-step script state step driving = subst (DrivesGates upto state.account) (sym (account-after script state step)) (at (is_ok (answer_of script state step)))
    where
      at : (b : Bool) → DrivesGates upto state.account (cond b (account_with script state step) state.account)
      at true = done script state step driving
      at false = gates-same state.account

  after-steps : (script : Script) (steps : List Step) (state : CoreState) → AreDriving script upto state steps → DrivesGates upto state.account (fold (state_after script) state steps).account
  after-steps script [] state are = gates-same state.account
  after-steps script (step ∷ steps) state are =
      gates-through state.account (state_after script state step).account (fold (state_after script) (state_after script state step) steps).account
      (after-step script state step are.0) (after-steps script steps (state_after script state step) are.3)

  -- driving steps add at gatekeepers only what a driving step may add
  pub driven-gates : (script : Script) (old new : CoreState) → IsDriven script upto old new → DrivesGates upto old.account new.account
  driven-gates script old new driven = subst (λ (s : CoreState). DrivesGates upto old.account s.account) (sym driven.is) (after-steps script driven.steps old driven.are)
