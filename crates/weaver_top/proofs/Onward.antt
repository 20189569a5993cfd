-- Parts of a run compose: nothing, a driven stretch, a collection (`RunsBelow`). Ended phases stay ended.
-- Used by `collect`, `collect_all`, `end_phase`, OnThreads and PhaseEnds.
use Rattle.std.proofs.Common.{◌≡◌, ℕ, ◌<◌, ◌==◌, List, [], ◌∷◌, ◌++◌, fold, Contains, IsTrue, inl, inr, sym, ap, subst, ◌∙◌, append_assoc}
use Rattle.std.proofs.lemmas.List.{append-nil}
use Rattle.std.proofs.lemmas.List.Concat.{flat_map-append}
use Rattle.std.proofs.lemmas.List.Elements.{Contains-append_cases, Contains-append_left}
use Rattle.weave_data.proofs.Members.{any_from, any_has, has_none}
use Rattle.program_defs.specs.declared.script.Request.{Request}
use Rattle.program_defs.specs.declared.script.Script.{Script}
use Rattle.program_defs.specs.declared.script.Step.{Step}
use Rattle.program_defs.specs.declared.script.Step.TheVariants.{Collect}
use Rattle.program_defs.specs.Limits.{IsWithinLimits}
use Rattle.weave_entries.specs.declared.session_log.SessionEntry.{SessionEntry}
use Rattle.weave_entries.specs.SessionReplay.{replied_in, reply_by}
use Rattle.weave_account.specs.declared.account.Account.{Account}
use Rattle.weave_account.specs.Account.{gate_log, session_log}
use Rattle.weave_account.specs.GoesOn.{GoesOn}
use Rattle.weave_account.specs.IsAccount.{IsAccount}
use Rattle.step_rules.specs.CoreState.{CoreState}
use Rattle.step_rules.specs.IsCore.{IsCore, IsStepOf}
use Rattle.step_rules.specs.Requests.{has_reply}
use Rattle.step_rules.specs.Trace.{state_after}
use Rattle.weave_drive.specs.Driving.{AreDriving, DrivesGates, IsDriven}
use Rattle.weave_phase.specs.Pairs.{AddsOpenPairs}
use Rattle.weaver_top.specs.LowerLaws.{LawsForCommands}
use Rattle.weaver_top.specs.PhaseByPhase.{EndsAt, RunsBelow}
use Rattle.weaver_top.proofs.GoingOn.{driven-on, steps-go-on}
use Rattle.weaver_top.proofs.Unanswered.{step-adds}
use Rattle.step_rules.proofs.StepGoesOn.{goes-further, goes-same}

-- a request that has its reply still has it when the account goes on
pub reply-stays : (old new : Account) → GoesOn old new → (r : ℕ) (request : Request) → IsTrue (has_reply old r request) → IsTrue (has_reply new r request)
reply-stays old new on r request replied =
    let more = on.sessions request.session in
    let log = session_log old request.session in
    let found = any_has (λ k. k == r) (replied_in log) replied in
    any_from (λ k. k == r) (replied_in (session_log new request.session)) found.0
    (subst (λ l. Contains l found.0) (sym (ap replied_in more.1 ∙ flat_map-append (λ (entry : SessionEntry). reply_by entry.deed) log more.0)) (Contains-append_left (replied_in log) (replied_in more.0) found.0 found.1))
    found.2

-- Gatekeepers go on with driving deeds

gates-same : (bound : ℕ) (account : Account) → DrivesGates bound account account
gates-same bound account home = ([], sym (append-nil (gate_log account home)), λ e h. absurd (has_none e h))

gates-through : (bound : ℕ) (a b c : Account) → DrivesGates bound a b → DrivesGates bound b c → DrivesGates bound a c
gates-through bound a b c x y home =
    let p = x home in
    let q = y home in
    (p.0 ++ q.0, q.1 ∙ ap (λ k. k ++ q.0) p.1 ∙ append_assoc (gate_log a home) p.0 q.0, λ e h. elim (Contains-append_cases p.0 q.0 e h) [ inl l ↦ p.2 e l | inr r ↦ q.2 e r ])

module _ (laws : LawsForCommands) (script : Script) (limits : IsWithinLimits script) where
  -- Pairs

  -- if pairs are added to requests without a reply alone, twice in a row, they are so in all
  pub adds-through : (a b c : Account) → GoesOn a b → GoesOn b c → AddsOpenPairs script a b → AddsOpenPairs script b c → AddsOpenPairs script a c
  adds-through a b c on further first second e l h =
      elim (second e l h) [
        | inl before ↦
            elim (first e l before) [
              | inl at-first ↦ inl at-first
              | inr new ↦ inr (record {
                begun = new.begun;
                there = laws.begun script b c further new.begun new.there;
                stamp_is = new.stamp_is;
                unanswered = new.unanswered;
              })
            ]
        | inr new ↦ inr (record {
          begun = new.begun;
          there = new.there;
          stamp_is = new.stamp_is;
          unanswered = λ request there replied. new.unanswered request there (reply-stays a b on (new.begun).request request replied);
        })
      ]

  -- Parts of a run

  -- doing nothing is a part of a run, below any bound
  pub runs-same : (bound : ℕ) (account : Account) → IsAccount script account → RunsBelow script bound account account
  runs-same bound account is = record { is_account = is; goes_on = goes-same account; gates = gates-same bound account; pairs = λ e l h. inl h }

  -- two parts of a run, one after the other, are one part
  pub runs-through : (bound : ℕ) (a b c : Account) → RunsBelow script bound a b → RunsBelow script bound b c → RunsBelow script bound a c
  runs-through bound a b c first second = record {
    is_account = second.is_account;
    goes_on = goes-further a b c first.goes_on second.goes_on;
    gates = gates-through bound a b c first.gates second.gates;
    pairs = adds-through a b c first.goes_on second.goes_on first.pairs second.pairs;
  }

  -- a part that ends with each request below the bound replied, and then one more part, are together one that ends so
  pub ends-then : (bound : ℕ) (a b c : Account) → EndsAt script bound a b → RunsBelow script bound b c → EndsAt script bound a c
  ends-then bound a b c ends runs = record {
    runs = runs-through bound a b c ends.runs runs;
    replied = λ r request less there. reply-stays b c runs.goes_on r request (ends.replied r request less there);
  }

  -- if a collection leads from a core to a core, it is a part of a run
  pub collected : (bound : ℕ) (state : CoreState) (shard : ℕ) → IsStepOf script (Collect shard) → IsCore script state → IsCore script (state_after script state (Collect shard))
      → RunsBelow script bound state.account (state_after script state (Collect shard)).account
  collected bound state shard there core after = record {
    is_account = after.account;
    goes_on = laws.goes_on script state (Collect shard) limits there core;
    gates = gates-same bound state.account;
    pairs = step-adds laws script limits state (Collect shard) core.account;
  }

  -- so is what a step of a core leaves that collects
  pub collected-so : (seen : Script) (bound : ℕ) (state new : CoreState) (shard : ℕ) → seen ≡ script → shard < script.shards → IsCore script state
      → new ≡ state_after script state (Collect shard) → IsCore seen new → RunsBelow script bound state.account new.account
  collected-so seen bound state new shard same there core is after =
      subst (λ (s : CoreState). RunsBelow script bound state.account s.account) (sym is)
      (collected bound state shard there core (subst (IsCore script) is (subst (λ (one : Script). IsCore one new) same after)))

  -- driving

  module _ (bound : ℕ) where
    steps-core : (steps : List Step) (state : CoreState) → IsCore script state → AreDriving script bound state steps → IsCore script (fold (state_after script) state steps)
    steps-core [] state core are = core
    steps-core (step ∷ steps) state core are = steps-core steps (state_after script state step) are.2 are.3

    steps-add : (steps : List Step) (state : CoreState) → IsCore script state → AreDriving script bound state steps → AddsOpenPairs script state.account (fold (state_after script) state steps).account
    steps-add [] state core are = λ e l h. inl h
    steps-add (step ∷ steps) state core are =
        adds-through state.account (state_after script state step).account (fold (state_after script) (state_after script state step) steps).account
        (laws.goes_on script state step limits are.1 core) (steps-go-on laws.goes_on script limits bound steps (state_after script state step) are.2 are.3)
        (step-adds laws script limits state step core.account) (steps-add steps (state_after script state step) are.2 are.3)

    -- a core that is driven goes through a part of a run, if its gatekeepers' logs go on with driving deeds alone
    pub driven-runs : (old new : CoreState) → IsCore script old → IsDriven script bound old new → DrivesGates bound old.account new.account → RunsBelow script bound old.account new.account
    driven-runs old new core driven gates = record {
      is_account = subst (λ (s : CoreState). IsAccount script s.account) (sym driven.is) (steps-core driven.steps old core driven.are).account;
      goes_on = driven-on laws.goes_on script limits bound old new core driven;
      gates = gates;
      pairs = subst (λ (s : CoreState). AddsOpenPairs script old.account s.account) (sym driven.is) (steps-add driven.steps old core driven.are);
    }
