-- What a phase leaves of a core, by what it leaves of its parts.
-- Used by `run_phase` and crate weaver_top.
use Rattle.std.proofs.Common.{◌≡◌, ℕ, ◌≤◌, List, [], length, drop, Contains, inl, refl, sym, ap, subst, ◌∙◌, arith}
use Rattle.std.proofs.lemmas.List.{append-nil}
use Rattle.std.proofs.Math.Seq.{drop-append_seam}
use Rattle.weave_data.proofs.Members.{has_none}
use Rattle.program_defs.specs.declared.script.Script.{Script}
use Rattle.weave_entries.specs.declared.gate_log.GateEntry.{GateEntry}
use Rattle.weave_entries.specs.GateReplay.{begun_in}
use Rattle.weave_account.specs.declared.account.Account.{Account}
use Rattle.weave_account.specs.Account.{gate_log, session_log, shard_log, NoneInFlight}
use Rattle.weave_account.specs.GoesOn.{GoesOn}
use Rattle.weave_account.proofs.GoesOn.{whole}
use Rattle.seen_logs.specs.Seen.{entries_since}
use Rattle.step_rules.specs.CoreState.{CoreState}
use Rattle.weaver_core.specs.declared.split.Split.{Split}
use Rattle.weaver_core.specs.Cores.{CoreView}
use Rattle.weaver_core.specs.Splitting.{account_of, state_of}
use Rattle.weaver_workers.specs.Phases.{phase_end}
use Rattle.workers_account.specs.Pairs.{AddsOpenPairs, AreBegunByOwnWorkers, GainBelow}
use Rattle.workers_account.specs.Ready.{IsAnsweredUpTo}
use Rattle.workers_account.specs.SessionRuns.{WasRunForSession}
use Rattle.weave_phase.specs.Parts.{PartsGoOn}
use Rattle.weave_phase.specs.RunsPhase.{RunsPhase}

-- a log has gained nothing since itself
none-since : (log : List GateEntry) → entries_since log log ≡ []
none-since log = ap (drop (length log)) (sym (append-nil log)) ∙ drop-append_seam log []

-- if nothing is in flight in a core, and each earlier request has its reply, doing nothing runs a phase without requests
pub runs-none : (from upto : ℕ) (core : CoreView) → upto ≤ from → NoneInFlight core.state.account
    → IsAnsweredUpTo core.script from core.state.account → RunsPhase upto core core
runs-none from upto core no-later landed answered =
    let account = core.state.account in
    record {
      script = refl;
      goes_on = record {
        gates = λ home. whole (gate_log account home);
        store = whole account.store;
        oracle = whole account.oracle;
        shards = λ shard. whole (shard_log account shard);
        sessions = λ session. whole (session_log account session);
      };
      landed = landed;
      begins = λ home. record {
        more = [];
        log = sym (append-nil (gate_log account home));
        begun = λ begun h. absurd (has_none begun h);
        epochs = λ entry h epoch. absurd (has_none entry h);
      };
      workers = λ one other its others first second. absurd (has_none one (subst (λ (l : List GateEntry). Contains (begun_in l) one)
          (none-since (gate_log account first.0)) first.1));
      pairs = λ earlier later h. inl h;
      sessions = λ session. inl (λ r asked at of low. answered.replied r asked (omega (arith, low, no-later)) at);
    }

-- if the parts of a core went on as a phase does, the core ran the phase
pub runs-parts : (phase : ℕ) (core next : CoreView) (split left : Split) → split.script ≡ core.script → state_of split ≡ core.state
    → PartsGoOn phase split left → next.script ≡ left.script → next.state ≡ state_of left → RunsPhase (phase_end core.script phase) core next
runs-parts phase core next split left script_is state_is parts next_script next_state =
    let old : account_of split ≡ core.state.account = ap (λ (s : CoreState). s.account) state_is in
    let new : account_of left ≡ next.state.account = sym (ap (λ (s : CoreState). s.account) next_state) in
    record {
      script = next_script ∙ parts.script ∙ script_is;
      goes_on = subst (λ (a : Account). GoesOn a next.state.account) old (subst (λ (b : Account). GoesOn (account_of split) b) new parts.goes_on);
      landed = subst NoneInFlight new parts.joined.landed;
      begins = subst (λ (s : Script). GainBelow (phase_end s phase) core.state.account next.state.account) script_is
          (subst (λ (a : Account). GainBelow (phase_end split.script phase) a next.state.account) old
          (subst (λ (b : Account). GainBelow (phase_end split.script phase) (account_of split) b) new parts.begins));
      workers = subst (λ (s : Script). AreBegunByOwnWorkers s core.state.account next.state.account) script_is
          (subst (λ (a : Account). AreBegunByOwnWorkers split.script a next.state.account) old
          (subst (λ (b : Account). AreBegunByOwnWorkers split.script (account_of split) b) new parts.workers));
      pairs = subst (λ (s : Script). AddsOpenPairs s core.state.account next.state.account) script_is
          (subst (λ (a : Account). AddsOpenPairs split.script a next.state.account) old
          (subst (λ (b : Account). AddsOpenPairs split.script (account_of split) b) new parts.pairs));
      sessions = λ session. subst (λ (s : Script). WasRunForSession s (phase_end s phase) session core.state.account next.state.account) script_is
          (subst (λ (a : Account). WasRunForSession split.script (phase_end split.script phase) session a next.state.account) old
          (subst (λ (b : Account). WasRunForSession split.script (phase_end split.script phase) session (account_of split) b) new (parts.sessions session)));
    }
