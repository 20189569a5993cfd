-- `deliver`, `apply` and `collect` keep a core: one more entry in a shard's log that reads nothing.
-- Used by QuietSteps.
use Rattle.std.proofs.Common.{◌≡◌, ℕ, ◌<◌, ◌==◌, IsTrue, List, [], ◌∷◌, ◌++◌, length, inl, inr, refl, sym, ap, subst, ◌∙◌}
use Rattle.std.specs.Prelude.{filter}
use Rattle.std.proofs.lemmas.Bool.{cases_eq}
use Rattle.std.proofs.lemmas.List.{append-nil, length-map, length-set}
use Rattle.std.proofs.lemmas.List.Concat.{flat_map-append}
use Rattle.program_defs.specs.declared.script.Script.{Script}
use Rattle.weave_entries.specs.declared.shard_log.ShardEntry.{ShardEntry}
use Rattle.weave_entries.specs.declared.shard_log.ShardDeed.{ShardDeed}
use Rattle.weave_entries.specs.ShardReplay.{Visit, reads_in, visit_by, visits_of}
use Rattle.weave_account.specs.declared.account.Account.{Account}
use Rattle.weave_account.specs.Account.{is_ended, shard_log, reads_of}
use Rattle.weave_account.specs.GoesOn.{GoesOn}
use Rattle.weave_account.specs.IsAccount.{IsAccount}
use Rattle.weave_account.specs.Programs.{ReadsInTurn}
use Rattle.weave_account.specs.Shards.{ShardFitsAs}
use Rattle.step_rules.specs.CoreState.{CoreState, with_shard_deed}
use Rattle.step_rules.specs.IsCore.{IsCore}
use Rattle.step_rules.proofs.Basis.{Basis}
use Rattle.step_rules.proofs.Frames.{ShardRule, store-stays, oracle-stays, sends-stay, deeds-stay, replies-stay}
use Rattle.step_rules.proofs.StepGoesOn.{with-shard-deed}
use Rattle.step_rules.proofs.SetLogs.{each-set, set-here, set-there, shard-entry}
use Rattle.step_rules.proofs.Within.{shard-within}

module _ (script : Script) (state : CoreState) (basis : Basis script state) (s : ℕ) (inside : s < script.shards) (deed : ShardDeed) (reads-none : visit_by 0 deed ≡ []) where
  abbrev account : Account
  account = state.account

  abbrev is : IsAccount script account
  is = basis.core.account

  abbrev log : List ShardEntry
  log = shard_log account s

  abbrev entry : ShardEntry
  entry = shard-entry deed

  abbrev pub next : Account
  next = with_shard_deed account s deed

  -- each log is the beginning of the same log after the shard's deed
  pub on : GoesOn account next
  on = with-shard-deed account s deed (shard-within is s inside)

  visits-here : visits_of (log ++ entry ∷ []) ≡ visits_of log
  visits-here = flat_map-append (λ (e : ShardEntry). visit_by e.author e.deed) log (entry ∷ []) ∙ ap (λ more. visits_of log ++ (more ++ [])) reads-none ∙ append-nil (visits_of log)

  visits-same : (i : ℕ) → visits_of (shard_log next i) ≡ visits_of (shard_log account i)
  visits-same i = elim (cases_eq i s) [
    | inl same ↦ ap (λ n. visits_of (shard_log next n)) same ∙ ap visits_of (set-here account.shards s (shard-within is s inside) entry) ∙ visits-here ∙ ap (λ n. visits_of (shard_log account n)) (sym same)
    | inr other ↦ ap visits_of (set-there account.shards s (shard-within is s inside) entry i other)
  ]

  -- what the visits saw last is as it was: the updates that they count stay
  reads-same : (r : ℕ) → reads_of next r ≡ reads_of account r
  reads-same r = basis.further.accounts.same_reads script account next basis.limits is on (length-set account.shards s (log ++ entry ∷ [])) r (λ i. same-length i)
    where
      same-length : (i : ℕ) → length (reads_in r (shard_log next i)) ≡ length (reads_in r (shard_log account i))
      same-length i = reads-length (shard_log next i) ∙ ap (λ visits. length (filter (λ (visit : Visit). visit.request == r) visits)) (visits-same i) ∙ sym (reads-length (shard_log account i))
        where
          reads-length : (l : List ShardEntry) → length (reads_in r l) ≡ length (filter (λ (visit : Visit). visit.request == r) (visits_of l))
          reads-length l = length-map (filter (λ (visit : Visit). visit.request == r) (visits_of l)) _

  -- a deed of a shard that is no visit keeps a core, if it is right after the entries before it
  pub quiet-keeps : ShardFitsAs script next s log deed → IsCore script (record { account = next; notices = state.notices })
  quiet-keeps fits = record {
    account = record {
      gatekeepers = record { as_many = is.gatekeepers.as_many; logs = is.gatekeepers.logs; begins = λ home before e rest at. basis.laws.accounts.stay_begins script account next basis.limits is on is.gatekeepers.once home before rest e at; once = is.gatekeepers.once };
      clocks = record { known = λ home clock h. basis.laws.accounts.stay_clocks script account next on clock (is.clocks.known home clock h); hears_no_more = is.clocks.hears_no_more };
      sessions = record { logs = is.sessions.logs; stamps = is.sessions.stamps; replies = replies-stay basis.laws script account next basis.limits is on; finished_are_replied = is.sessions.finished_are_replied };
      store = store-stays basis.laws script account next basis.limits is on refl;
      oracle = oracle-stays basis.laws script account next basis.limits is on refl visits-same
          (basis.further.accounts.same_marked script account next basis.limits is on (length-set account.shards s (log ++ entry ∷ [])) visits-same);
      channels = sends-stay basis.laws script account next basis.limits is on;
      shards = record {
        as_many = length-set account.shards s (log ++ entry ∷ []) ∙ is.shards.as_many;
        deeds = each-set account.shards s (shard-within is s inside) entry (ShardRule script next) (deeds-stay basis.laws script account next basis.limits is on) fits;
      };
      programs = λ r request program at look. subst (λ reads. ReadsInTurn reads program (IsTrue (is_ended account r))) (sym (reads-same r)) (is.programs r request program at look);
    };
    sessions = basis.core.sessions;
    notices = λ clock h. basis.laws.accounts.stay_clocks script account next on clock (basis.core.notices clock h);
  }
