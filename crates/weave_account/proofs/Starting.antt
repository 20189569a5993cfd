-- Empty logs are an account. No law of the crates below is needed.
-- Used by `empty_logs_are_an_account` and crate step_rules.
use Rattle.std.proofs.Common.{◌≡◌, ◌≢◌, ℕ, zero, suc, List, [], ◌++◌, nat_eq, get_or, replicate, length, take, ◌↔◌, Contains, AllPairs, IsTrue, refl, sym, ap, subst, ◌∙◌}
use Rattle.std.specs.List.{flat_map, find}
use Rattle.std.specs.Option.{option_map}
use Rattle.std.specs.Map.{keys_of}
use Rattle.std.proofs.lemmas.List.{length-replicate}
use Rattle.weave_data.proofs.Entries.{each_none}
use Rattle.weave_data.proofs.Members.{has_none}
use Rattle.weave_data.proofs.Ordered.{pairs_none}
use Rattle.weave_data.specs.declared.name.Name.{Name}
use Rattle.graph_ops.specs.Mentions.{is_among}
use Rattle.graph_ops.specs.Operations.{State}
use Rattle.vector_stamp.specs.declared.clock.Stamp.{Stamp}
use Rattle.program_defs.specs.declared.script.Script.{Script}
use Rattle.weave_entries.specs.declared.gate_log.GateEntry.{GateEntry}
use Rattle.weave_entries.specs.declared.shard_log.ShardEntry.{ShardEntry}
use Rattle.weave_entries.specs.GateReplay.{BegunRequest, begun_in, ended_in, clocks_in}
use Rattle.weave_entries.specs.Logs.{AtEachEntry}
use Rattle.weave_entries.specs.ShardReplay.{visits_of, reads_in}
use Rattle.report_rules.specs.Lookups.{is_in}
use Rattle.weave_account.specs.Account.{gate_log, shard_log, session_log, all_begun, reads_of, is_ended}
use Rattle.weave_account.specs.IsAccount.{IsAccount}
use Rattle.weave_account.specs.NoLogs.{no_logs}
use Rattle.weave_account.specs.Oracle.{marked_in}
use Rattle.weave_account.specs.Programs.{visits_over}
use Rattle.weave_entries.specs.SessionReplay.{session_stamp_of}
use Rattle.weave_entries.specs.StoreReplay.{Judgement}
use Rattle.weave_account.specs.Store.{InTurn}

-- each of the empty logs is empty
pub none-at : {A : Type 0} (n i : ℕ) → get_or {A = List A} (replicate n []) i [] ≡ []
none-at zero i = refl
none-at (suc n) zero = refl
none-at (suc n) (suc i) = none-at n i

-- what an empty log gives nothing of, they give nothing of
none-flat : {A B : Type 0} (f : List A → List B) → f [] ≡ [] → (n : ℕ) → flat_map f (replicate n []) ≡ []
none-flat f e zero = refl
none-flat f e (suc n) = ap (λ ys. ys ++ flat_map f (replicate n [])) e ∙ none-flat f e n

-- what is said of each entry of an empty log holds
each-empty : {E : Type 0} (P : List E → E → Type 0) (log : List E) → log ≡ [] → AtEachEntry P log
each-empty P log e = subst (AtEachEntry P) (sym e) (each_none P)

-- what is said of each two elements of an empty list holds
pairs-empty : {A : Type 0} (R : A → A → Type 0) (xs : List A) → xs ≡ [] → AllPairs R xs
pairs-empty R xs e = subst (AllPairs R) (sym e) (pairs_none R)

module _ (script : Script) where
  gates-none : (home : ℕ) → gate_log (no_logs script) home ≡ []
  gates-none home = none-at script.gates home

  shards-none : (shard : ℕ) → shard_log (no_logs script) shard ≡ []
  shards-none shard = none-at script.shards shard

  sessions-none : (session : ℕ) → session_log (no_logs script) session ≡ []
  sessions-none session = none-at 64 session

  begun-none : all_begun (no_logs script) ≡ []
  begun-none = none-flat begun_in refl script.gates

  reads-none : (r : ℕ) → reads_of (no_logs script) r ≡ []
  reads-none r = none-flat (reads_in r) refl script.shards

  none-ended : (r : ℕ) → IsTrue (is_ended (no_logs script) r) → ⊥
  none-ended r done =
      let none : IsTrue (is_in r []) = subst (λ ended. IsTrue (is_in r ended)) (none-flat ended_in refl script.gates) done in cc

  -- empty logs are an account of the script
  pub starts : IsAccount script (no_logs script)
  starts =
      record {
        gatekeepers = record {
          as_many = length-replicate script.gates [];
          logs = λ home. each-empty _ (gate_log (no_logs script) home) (gates-none home);
          begins = λ home. each-empty _ (gate_log (no_logs script) home) (gates-none home);
          once = pairs-empty (λ (a b : BegunRequest). a.request ≢ b.request) (all_begun (no_logs script)) begun-none;
        };
        clocks = record {
          known = λ home clock h. absurd (has_none clock (subst (λ (log : List GateEntry). Contains (clocks_in log) clock) (gates-none home) h));
          hears_no_more = λ home. each-empty _ (gate_log (no_logs script) home) (gates-none home);
        };
        sessions = record {
          logs = λ session. each-empty _ (session_log (no_logs script) session) (sessions-none session);
          stamps = λ r request there.
              ap (λ log. session_stamp_of r log) (sessions-none request.session) ∙ sym (ap (λ bs. option_map (λ (b : BegunRequest). b.stamp) (find (λ (b : BegunRequest). nat_eq b.request r) bs)) begun-none);
          replies = λ session. each-empty _ (session_log (no_logs script) session) (sessions-none session);
          finished_are_replied = λ r request there look done. absurd (none-ended r done);
        };
        store = record { judges = each_none _; once = pairs_none (λ (a b : Judgement). a.request ≢ b.request); in_turn = pairs_none (λ (a b : Judgement). InTurn script a.request b.request) };
        oracle = record {
          log = tt;
          asked = λ entry h. absurd (has_none entry h);
          marked = λ shard visit h. absurd (has_none visit (subst (λ (log : List ShardEntry). Contains (visits_of log) visit) (shards-none shard) h));
          once = pairs-empty (λ (a b : ℕ × List Stamp). a ≢ b) _ (none-flat marked_in refl script.shards);
        };
        channels = λ home. each-empty _ (gate_log (no_logs script) home) (gates-none home);
        shards = record {
          as_many = length-replicate script.shards [];
          deeds = λ shard. each-empty _ (shard_log (no_logs script) shard) (shards-none shard);
        };
        programs = λ r request program there work. record {
          once = pairs-empty (λ (a b : Name × State). a.0 ≢ b.0) (reads_of (no_logs script) r) (reads-none r);
          first_ones = λ v. subst (λ (reads : List (Name × State)). IsTrue (is_among (keys_of reads) v) ↔ IsTrue (is_among (take (length reads) (visits_over reads program)) v)) (sym (reads-none r)) (λ h. h, λ h. h);
          whole = λ done. absurd (none-ended r done);
        };
      }
