-- If a gatekeeper's log gets one more entry that begins nothing and ends no program, and the entry is right, the logs
-- are still an account.
-- Used by GateSteps, NopStep and SendStep.
use Rattle.std.proofs.Common.{◌≡◌, ◌≢◌, ℕ, ◌<◌, List, [], ◌∷◌, ◌++◌, Contains, AllPairs, IsTrue, Some, ◌==◌, false, ◌⊎◌, inl, inr, refl, sym, ap, subst, ◌∙◌}
use Rattle.std.specs.List.{find, flat_map}
use Rattle.std.specs.Option.{option_map}
use Rattle.std.proofs.lemmas.Bool.{cases_eq}
use Rattle.std.proofs.lemmas.List.{append-nil, length-set}
use Rattle.std.proofs.lemmas.List.Concat.{flat_map-append}
use Rattle.std.proofs.lemmas.List.Elements.{Contains-append_left, Contains-append_right, Contains-append_cases}
use Rattle.vector_stamp.specs.declared.clock.Clock.{Clock}
use Rattle.program_defs.specs.declared.program.Program.{Program}
use Rattle.program_defs.specs.declared.script.Request.{Request}
use Rattle.program_defs.specs.declared.script.Script.{Script}
use Rattle.program_defs.specs.declared.script.Work.TheVariants.{Look}
use Rattle.program_defs.specs.declared.script.Work.{Work}
use Rattle.program_defs.specs.declared.script.Work.TheVariants.{Change}
use Rattle.program_defs.specs.Works.{is_look}
use Rattle.weave_entries.specs.declared.gate_log.GateEntry.{GateEntry}
use Rattle.weave_entries.specs.declared.gate_log.GateDeed.{GateDeed}
use Rattle.weave_entries.specs.declared.gate_log.GateDeed.TheVariants.{BeganTx, BeganProgram, Sent, Nop, Heard, Raised, Finished}
use Rattle.weave_entries.specs.GateReplay.{BegunRequest, begun_by, begun_in, clocks_by, clocks_in, ended_by, ended_in}
use Rattle.weave_entries.specs.GateRules.{FitsAs, HearsAs}
use Rattle.report_rules.specs.Lookups.{request_at}
use Rattle.weave_account.specs.declared.account.Account.{Account}
use Rattle.weave_account.specs.Account.{gate_log, all_begun, stamp_of, is_ended}
use Rattle.weave_account.specs.Channels.{SendsAs}
use Rattle.weave_account.specs.Clocks.{IsKnown}
use Rattle.weave_account.specs.Gatekeepers.{BeginsAs}
use Rattle.weave_account.specs.GoesOn.{GoesOn}
use Rattle.weave_account.specs.IsAccount.{IsAccount}
use Rattle.program_defs.specs.Limits.{IsWithinLimits}
use Rattle.step_rules.specs.CoreState.{with_gate_deed}
use Rattle.step_rules.specs.LowerLaws.{LawsForSteps}
use Rattle.step_rules.proofs.Clashes.{not-empty}
use Rattle.step_rules.proofs.Frames.{SendRule, store-stays, oracle-stays, sends-stay, deeds-stay, replies-stay}
use Rattle.step_rules.proofs.SetLists.{flat-set, flat-more, SetMore}
use Rattle.step_rules.proofs.Ended.{in-has, has-in}
use Rattle.step_rules.proofs.StepGoesOn.{with-gate-deed}
use Rattle.step_rules.proofs.SetLogs.{each-set, gate-entry, set-here, set-there}
use Rattle.step_rules.proofs.Within.{gate-within}

-- work that passes the test of programs is a program
pub look-of : (work : Work) → IsTrue (is_look work) → (program : Program) × (work ≡ Look program)
look-of (Change ops) look = absurd (let none : IsTrue false = look in cc)
look-of (Look program) look = (program, refl)

module _ (laws : LawsForSteps) (script : Script) (account : Account) (limits : IsWithinLimits script) (is : IsAccount script account)
    (g : ℕ) (inside : g < script.gates) (author : ℕ) (deed : GateDeed) (begins-none : begun_by author deed ≡ []) where
  abbrev pub log : List GateEntry
  log = gate_log account g

  abbrev pub entry : GateEntry
  entry = gate-entry author deed

  abbrev pub after : Account
  after = with_gate_deed account g author deed

  -- after the deed the gatekeeper's log has one more entry, that of the deed
  pub log-here : gate_log after g ≡ log ++ entry ∷ []
  log-here = set-here account.gates g (gate-within is g inside) entry

  -- the logs of all other gatekeepers stay
  pub log-there : (home : ℕ) → home ≢ g → gate_log after home ≡ gate_log account home
  log-there = set-there account.gates g (gate-within is g inside) entry

  -- each log is the beginning of the same log after the deed
  pub on : GoesOn account after
  on = with-gate-deed account g author deed (gate-within is g inside)

  -- a deed that begins nothing leaves what was begun at the gatekeepers as it was
  pub all-same : all_begun after ≡ all_begun account
  all-same = flat-set begun_in account.gates g (log ++ entry ∷ []) (gate-within is g inside)
      (flat_map-append (λ (e : GateEntry). begun_by e.author e.deed) log (entry ∷ []) ∙ ap (λ begun. begun_in log ++ (begun ++ [])) begins-none ∙ append-nil (begun_in log))

  -- the stamp of each request stays
  pub stamp-same : (r : ℕ) → stamp_of after r ≡ stamp_of account r
  stamp-same r = ap (λ all. option_map (λ (begun : BegunRequest). begun.stamp) (find (λ (begun : BegunRequest). begun.request == r) all)) all-same

  -- still no request was begun twice
  pub once-after : AllPairs (λ (a b : BegunRequest). a.request ≢ b.request) (all_begun after)
  once-after = subst (AllPairs (λ (a b : BegunRequest). a.request ≢ b.request)) (sym all-same) is.gatekeepers.once

  begins-new : (d : GateDeed) → begun_by author d ≡ [] → BeginsAs script after g log d
  begins-new (BeganTx r stamp) none = absurd (not-empty (record { author = author; request = r; stamp = stamp }) [] none)
  begins-new (BeganProgram r stamp) none = absurd (not-empty (record { author = author; request = r; stamp = stamp }) [] none)
  begins-new (Sent r messages) none = tt
  begins-new (Nop to number stamp low) none = tt
  begins-new (Heard clock) none = tt
  begins-new (Raised epoch) none = tt
  begins-new (Finished r) none = tt

  -- what has ended, ended before or now

  set : SetMore ended_in account.gates g (log ++ entry ∷ []) (ended_by deed)
  set = flat-more ended_in account.gates g (log ++ entry ∷ []) (ended_by deed) (gate-within is g inside)
      (flat_map-append (λ (e : GateEntry). ended_by e.deed) log (entry ∷ []) ∙ ap (λ more. ended_in log ++ more) (append-nil (ended_by deed)))

  ended-cases : (r : ℕ) → Contains (flat_map ended_in after.gates) r → Contains (flat_map ended_in account.gates) r ⊎ Contains (ended_by deed) r
  ended-cases r h =
      elim (Contains-append_cases set.front (ended_by deed ++ set.back) r (subst (λ rs. Contains rs r) set.now h)) [
        | inl before ↦ inl (subst (λ rs. Contains rs r) (sym set.was) (Contains-append_left set.front set.back r before))
        | inr rest ↦ elim (Contains-append_cases (ended_by deed) set.back r rest) [
          | inl new ↦ inr new
          | inr later ↦ inl (subst (λ rs. Contains rs r) (sym set.was) (Contains-append_right set.front set.back r later))
        ]
      ]

  -- what the deed sends or finishes is then among the requests that have ended
  pub ended-now : (r : ℕ) → Contains (ended_by deed) r → Contains (flat_map ended_in after.gates) r
  ended-now r h = subst (λ rs. Contains rs r) (sym set.now) (Contains-append_right set.front (ended_by deed ++ set.back) r (Contains-append_left (ended_by deed) set.back r h))

  -- a request that has ended after the deed had ended before, or the deed ends it
  pub ended-or : (r : ℕ) → IsTrue (is_ended after r) → IsTrue (is_ended account r) ⊎ Contains (ended_by deed) r
  ended-or r h = elim (ended-cases r (has-in (flat_map ended_in after.gates) r h)) [
    | inl before ↦ inl (in-has (flat_map ended_in account.gates) r before)
    | inr now ↦ inr now
  ]

  -- clocks that were known are known after the deed
  pub known-after : (clock : Clock) → IsKnown account clock → IsKnown after clock
  known-after = laws.accounts.stay_clocks script account after on

  -- if the entry is right for its log and ends no program, the logs with it are an account
  pub gate-goes-on : FitsAs g script.shards log author deed → ((clock : Clock) → Contains (clocks_by deed) clock → IsKnown after clock) → HearsAs g log deed → SendsAs after script.shards log author deed
      → ((r : ℕ) (request : Request) (program : Program) → request_at script r ≡ Some request → request.work ≡ Look program → Contains (ended_by deed) r → ⊥) → IsAccount script after
  gate-goes-on fits knows hears sends no-program = record {
    gatekeepers = record {
      as_many = length-set account.gates g (log ++ entry ∷ []) ∙ is.gatekeepers.as_many;
      logs = each-set account.gates g (gate-within is g inside) entry (λ home before (e : GateEntry). FitsAs home script.shards before e.author e.deed) is.gatekeepers.logs fits;
      begins = each-set account.gates g (gate-within is g inside) entry (λ home before (e : GateEntry). BeginsAs script after home before e.deed)
          (λ home before e rest at. laws.accounts.stay_begins script account after limits is on once-after home before rest e at) (begins-new deed begins-none);
      once = once-after;
    };
    clocks = record {
      known = knowing;
      hears_no_more = each-set account.gates g (gate-within is g inside) entry (λ home before (e : GateEntry). HearsAs home before e.deed) is.clocks.hears_no_more hears;
    };
    sessions = record {
      logs = is.sessions.logs;
      stamps = λ r request at. is.sessions.stamps r request at ∙ sym (stamp-same r);
      replies = replies-stay laws script account after limits is on;
      finished_are_replied = λ r request at look ended. elim (ended-or r ended) [
        | inl before ↦ is.sessions.finished_are_replied r request at look before
        | inr now ↦ absurd (no-look r request at look now)
      ];
    };
    store = store-stays laws script account after limits is on refl;
    oracle = oracle-stays laws script account after limits is on refl (λ shard. refl) refl;
    channels = each-set account.gates g (gate-within is g inside) entry (λ home. SendRule script after) (sends-stay laws script account after limits is on) sends;
    shards = record { as_many = is.shards.as_many; deeds = deeds-stay laws script account after limits is on };
    programs = λ r request program at look. (let read = is.programs r request program at look in record {
      once = read.once;
      first_ones = read.first_ones;
      whole = λ ended. elim (ended-or r ended) [ inl before ↦ read.whole before | inr now ↦ absurd (no-program r request program at look now) ];
    });
  }
    where
      knowing : (home : ℕ) (clock : Clock) → Contains (clocks_in (gate_log after home)) clock → IsKnown after clock
      knowing home clock h = elim (cases_eq home g) [
        | inr other ↦ known-after clock (is.clocks.known home clock (subst (λ l. Contains (clocks_in l) clock) (log-there home other) h))
        | inl same ↦ elim (Contains-append_cases (clocks_in log) (clocks_by deed ++ []) clock
            (subst (λ cs. Contains cs clock) (flat_map-append (λ (e : GateEntry). clocks_by e.deed) log (entry ∷ [])) (subst (λ l. Contains (clocks_in l) clock) (ap (gate_log after) same ∙ log-here) h))) [
              | inl old ↦ known-after clock (is.clocks.known g clock old)
              | inr new ↦ knows clock (subst (λ cs. Contains cs clock) (append-nil (clocks_by deed)) new)
            ]
      ]

      no-look : (r : ℕ) (request : Request) → request_at script r ≡ Some request → IsTrue (is_look request.work) → Contains (ended_by deed) r → ⊥
      no-look r request at look now = let program = look-of request.work look in no-program r request program.0 at program.1 now
