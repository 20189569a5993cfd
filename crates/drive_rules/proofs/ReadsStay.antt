-- What a program has read stays the same at each step but a visit of its own; so, if it has no next vertex, at each
-- step.
-- Used by `reads_stay`.
use Rattle.std.proofs.Common.{◌≡◌, ◌≢◌, ℕ, ◌+◌, ◌<◌, ◌≤◌, ◌==◌, Bool, true, false, cond, List, [], ◌∷◌, ◌++◌, length, Option, None, Some, ◌⊎◌, inl, inr, refl, sym, ap, ◌∙◌, get_or, get_or-set_same, get_or-set_other, arith}
use Rattle.std.specs.Prelude.{filter, slice_set}
use Rattle.std.proofs.lemmas.Bool.{cases_eq, cases_lt, ne_eqb}
use Rattle.std.proofs.lemmas.List.{append-nil, get_or_past, length-set}
use Rattle.std.proofs.lemmas.List.Elements.{filter-append}
use Rattle.weave_data.specs.declared.name.Name.{Name}
use Rattle.weave_data.specs.Names.{shard_of}
use Rattle.vector_stamp.specs.declared.clock.Clock.{Clock}
use Rattle.vector_stamp.specs.declared.clock.Stamp.{Stamp}
use Rattle.shard_queue.specs.Outbox.{sent_as}
use Rattle.program_defs.specs.declared.program.Program.{Program}
use Rattle.program_defs.specs.declared.script.Request.{Request}
use Rattle.program_defs.specs.declared.script.Script.{Script}
use Rattle.program_defs.specs.declared.script.Step.{Step}
use Rattle.program_defs.specs.declared.script.Step.TheVariants.{Begin, Judge, Send, Say, Hear, Nop, Deliver, Apply, Visit, Reply, Collect, Epoch, Restart}
use Rattle.program_defs.specs.declared.script.Work.{Work}
use Rattle.program_defs.specs.declared.script.Work.TheVariants.{Change, Look}
use Rattle.program_defs.specs.Visits.{next_visit}
use Rattle.report_rules.specs.Lookups.{request_at}
use Rattle.weave_entries.specs.declared.message.Message.{Message}
use Rattle.weave_entries.specs.declared.shard_log.ShardEntry.{ShardEntry}
use Rattle.weave_entries.specs.declared.shard_log.ShardDeed.{ShardDeed}
use Rattle.weave_entries.specs.declared.shard_log.ShardDeed.TheVariants as deeds
use Rattle.weave_entries.specs.GateReplay.{BegunRequest, channel_of, flight_of, program_begun}
use Rattle.weave_entries.specs.ShardReplay.{Visit as OneVisit, bound_of, processed_count, visit_by, visits_of}
use Rattle.weave_entries.specs.StoreReplay.{Judgement}
use Rattle.weave_account.specs.declared.account.Account.{Account}
use Rattle.weave_account.specs.Account.{gate_log, reads_of, shard_log}
use Rattle.weave_account.specs.GoesOn.{visits_by}
use Rattle.program_defs.specs.Limits.{IsWithinLimits}
use Rattle.step_rules.specs.CoreState.{CoreState, with_shard_deed}
use Rattle.step_rules.specs.Answers.{answer_of, answer_of_visit, for_request}
use Rattle.step_rules.specs.Entries.{account_with, after_begin, after_deliver, after_hear, after_judge, after_reply, after_send, after_visit, after_work, at_request, judgement_in_flight, state_with, with_finish}
use Rattle.step_rules.specs.IsCore.{IsCore, IsStepOf}
use Rattle.step_rules.specs.Requests.{has_ended, next_vertex}
use Rattle.step_rules.specs.Trace.{is_ok, state_after}
use Rattle.drive_rules.specs.LowerLaws.{LawsForReadiness}

-- the visits of a request are the same in each shard
abbrev SameVisits : ℕ → Account → Account → Type 0
SameVisits r account next = (shard : ℕ) → visits_by r (shard_log next shard) ≡ visits_by r (shard_log account shard)

same-shards : (r : ℕ) (account next : Account) → next.shards ≡ account.shards → SameVisits r account next
same-shards r account next same shard = ap (λ (shards : List (List ShardEntry)). visits_by r (get_or shards shard [])) same

module _ (laws : LawsForReadiness) (r : ℕ) where
  -- one more entry that is no visit of the request leaves its visits
  no-visit : (log : List ShardEntry) (entry : ShardEntry) → filter (λ (visit : OneVisit). visit.request == r) (visit_by entry.author entry.deed) ≡ [] → visits_by r (log ++ entry ∷ []) ≡ visits_by r log
  no-visit log entry none =
      ap (filter (λ (visit : OneVisit). visit.request == r)) (laws.logs.visits log entry)
      ∙ filter-append (λ (visit : OneVisit). visit.request == r) (visits_of log) (visit_by entry.author entry.deed)
      ∙ ap (λ more. visits_by r log ++ more) none ∙ append-nil (visits_by r log)

  -- the same holds of one in some shard's log
  one-more : (shards : List (List ShardEntry)) (s : ℕ) (entry : ShardEntry) → filter (λ (visit : OneVisit). visit.request == r) (visit_by entry.author entry.deed) ≡ []
      → (shard : ℕ) → visits_by r (get_or (slice_set shards s (get_or shards s [] ++ entry ∷ [])) shard []) ≡ visits_by r (get_or shards shard [])
  one-more shards s entry none shard =
      elim (cases_eq shard s) [
        | inr other ↦ ap (visits_by r) (get_or-set_other shards s shard (get_or shards s [] ++ entry ∷ []) [] other)
        | inl same ↦
            let at-s : visits_by r (get_or (slice_set shards s (get_or shards s [] ++ entry ∷ [])) s []) ≡ visits_by r (get_or shards s []) = here (cases_lt s (length shards)) in
            ap (λ i. visits_by r (get_or (slice_set shards s (get_or shards s [] ++ entry ∷ [])) i [])) same ∙ at-s ∙ ap (λ i. visits_by r (get_or shards i [])) (sym same)
      ]
    where
      here : (s < length shards) ⊎ (length shards ≤ s) → visits_by r (get_or (slice_set shards s (get_or shards s [] ++ entry ∷ [])) s []) ≡ visits_by r (get_or shards s [])
      here (inl inside) = ap (visits_by r) (get_or-set_same shards s (get_or shards s [] ++ entry ∷ []) [] inside) ∙ no-visit (get_or shards s []) entry none
      here (inr past) =
          let long = length-set shards s (get_or shards s [] ++ entry ∷ []) in
          ap (visits_by r) (get_or_past (slice_set shards s (get_or shards s [] ++ entry ∷ [])) s [] (omega (arith, past, long))) ∙ ap (visits_by r) (sym (get_or_past shards s [] past))

  shard-deed : (account : Account) (s : ℕ) (deed : ShardDeed) → filter (λ (visit : OneVisit). visit.request == r) (visit_by 0 deed) ≡ [] → SameVisits r account (with_shard_deed account s deed)
  shard-deed account s deed none shard = one-more account.shards s (record { author = 0; deed = deed }) none shard

  -- another program's visit
  other-visit : (account : Account) (s q : ℕ) → q ≢ r → (stamp : Stamp) (v : Name) (n : ℕ) (made : Bool) → SameVisits r account (with_shard_deed account s (deeds.Visited q stamp v n made))
  other-visit account s q differ stamp v n made =
      shard-deed account s (deeds.Visited q stamp v n made)
      (ap (λ b. cond {A = List OneVisit} b (record { author = 0; request = q; stamp = stamp; vertex = v; updates = n; settled = made } ∷ []) []) (ne_eqb q r differ))

visit-of : (a b : ℕ) → Visit a ≡ Visit b → a ≡ b
visit-of a b e = cc

module _ (laws : LawsForReadiness) (script : Script) (state : CoreState) (r : ℕ) where
  abbrev account : Account
  account = state.account

  begins : (q : ℕ) (o : Option Request) → SameVisits r account (at_request (after_begin account q) account o)
  begins q None shard = refl
  begins q (Some request) shard = refl

  judges : (o : Option BegunRequest) → SameVisits r account (after_judge script account o)
  judges None shard = refl
  judges (Some flight) shard = refl

  sends : (g : ℕ) (o : Option BegunRequest) (judged : Option Judgement) → SameVisits r account (after_send script account g o judged)
  sends g None None shard = refl
  sends g None (Some judged) shard = refl
  sends g (Some flight) None shard = refl
  sends g (Some flight) (Some judged) shard = refl

  hears : (g : ℕ) (o : Option Clock) → SameVisits r account (after_hear account g o)
  hears g None shard = refl
  hears g (Some notice) shard = refl

  delivers : (g s number : ℕ) (o : Option Message) → SameVisits r account (after_deliver account g s number o)
  delivers g s number None shard = refl
  delivers g s number (Some message) shard = shard-deed laws r account s (deeds.Arrived g number message) refl shard

  visits : (q : ℕ) → q ≢ r → (o : Option BegunRequest) (next : Option Name) → SameVisits r account (after_visit script account q o next)
  visits q differ None None shard = refl
  visits q differ None (Some v) shard = refl
  visits q differ (Some begun) None shard = refl
  visits q differ (Some begun) (Some v) shard =
      other-visit laws r account (shard_of v script.shards) q differ begun.stamp v _ _ shard

  visits-at : (q : ℕ) → q ≢ r → (o : Option Request) → SameVisits r account (at_request (λ (request : Request). after_visit script account q (program_begun q (gate_log account request.gate)) (next_vertex account q request.work)) account o)
  visits-at q differ None shard = refl
  visits-at q differ (Some request) shard = visits q differ (program_begun q (gate_log account request.gate)) (next_vertex account q request.work) shard

  finishes : (q g : ℕ) (o : Option BegunRequest) → (with_finish account q g o).shards ≡ account.shards
  finishes q g None = refl
  finishes q g (Some begun) = refl

  works : (q : ℕ) (request : Request) (work : Work) → (after_work account q request work).shards ≡ account.shards
  works q request (Change ops) = refl
  works q request (Look program) = by-end (has_ended account q request)
    where
      by-end : (b : Bool) → (cond b account (with_finish account q request.gate (program_begun q (gate_log account request.gate)))).shards ≡ account.shards
      by-end true = refl
      by-end false = finishes q request.gate (program_begun q (gate_log account request.gate))

  replies : (q : ℕ) (o : Option Request) → SameVisits r account (at_request (after_reply account q) account o)
  replies q None shard = refl
  replies q (Some request) shard = same-shards r account (after_reply account q request) (works q request request.work) shard

  -- a step that is no visit of the request leaves its visits
  step-leaves : (step : Step) → step ≢ Visit r → SameVisits r account (account_with script state step)
  step-leaves (Begin q) differ = begins q (request_at script q)
  step-leaves (Judge g) differ = judges (flight_of (gate_log account g))
  step-leaves (Send g) differ = sends g (flight_of (gate_log account g)) (judgement_in_flight account (flight_of (gate_log account g)))
  step-leaves (Say g) differ = λ shard. refl
  step-leaves (Hear g notice) differ = hears g (sent_as notice state.notices)
  step-leaves (Nop g s) differ = λ shard. refl
  step-leaves (Deliver g s number) differ = delivers g s number (sent_as number (channel_of s (gate_log account g)))
  step-leaves (Apply s g) differ = shard-deed laws r account s (deeds.Applied g (processed_count g (shard_log account s) + 1)) refl
  step-leaves (Visit q) differ = visits-at q (λ same. differ (ap Visit same)) (request_at script q)
  step-leaves (Reply q) differ = replies q (request_at script q)
  step-leaves (Collect s) differ = shard-deed laws r account s (deeds.Collected (bound_of script.gates (shard_log account s))) refl
  step-leaves (Epoch g epoch) differ = λ shard. refl
  step-leaves (Restart g epoch) differ = λ shard. refl

  -- whether it was done or not
  tried : (step : Step) → step ≢ Visit r → (b : Bool) → SameVisits r account (cond b (state_with script state step) state).account
  tried step differ false shard = refl
  tried step differ true shard = step-leaves step differ shard

  module _ (limits : IsWithinLimits script) (core : IsCore script state) where
    -- so it leaves what the request has read
    pub others-leave : (step : Step) → IsStepOf script step → step ≢ Visit r → reads_of (state_after script state step).account r ≡ reads_of account r
    others-leave step range differ =
        laws.accounts.same_reads script account (state_after script state step).account limits core.account (laws.accounts.goes_on script state step limits range core) r
        (tried step differ (is_ok (answer_of script state step)))

    module _ (request : Request) (program : Program) (request-is : request_at script r ≡ Some request) (work-is : request.work ≡ Look program) (whole : next_visit (reads_of account r) program ≡ None) where
      -- a program with no next vertex is not visited
      idle : is_ok (answer_of script state (Visit r)) ≡ false
      idle =
          ap (λ o. is_ok (for_request (λ (request : Request). answer_of_visit script account (program_begun r (gate_log account request.gate)) (next_vertex account r request.work)) o)) request-is
          ∙ ap (λ w. is_ok (answer_of_visit script account (program_begun r (gate_log account request.gate)) (next_vertex account r w))) work-is
          ∙ ap (λ o. is_ok (answer_of_visit script account (program_begun r (gate_log account request.gate)) o)) whole
          ∙ at (program_begun r (gate_log account request.gate))
        where
          at : (o : Option BegunRequest) → is_ok (answer_of_visit script account o None) ≡ false
          at None = refl
          at (Some begun) = refl

      its-visit : reads_of (state_after script state (Visit r)).account r ≡ reads_of account r
      its-visit = ap (λ b. reads_of (cond b (state_with script state (Visit r)) state).account r) idle

      -- and has read the same after each step
      pub all-leave : (step : Step) → IsStepOf script step → reads_of (state_after script state step).account r ≡ reads_of account r
      all-leave (Visit q) range = elim (cases_eq q r) [
        | inl same ↦ ap (λ k. reads_of (state_after script state (Visit k)).account r) same ∙ its-visit
        | inr differ ↦ others-leave (Visit q) range (λ same. differ (visit-of q r same))
      ]
      all-leave (Begin q) range = others-leave (Begin q) range (λ e. cc)
      all-leave (Judge g) range = others-leave (Judge g) range (λ e. cc)
      all-leave (Send g) range = others-leave (Send g) range (λ e. cc)
      all-leave (Say g) range = others-leave (Say g) range (λ e. cc)
      all-leave (Hear g notice) range = others-leave (Hear g notice) range (λ e. cc)
      all-leave (Nop g s) range = others-leave (Nop g s) range (λ e. cc)
      all-leave (Deliver g s number) range = others-leave (Deliver g s number) range (λ e. cc)
      all-leave (Apply s g) range = others-leave (Apply s g) range (λ e. cc)
      all-leave (Reply q) range = others-leave (Reply q) range (λ e. cc)
      all-leave (Collect s) range = others-leave (Collect s) range (λ e. cc)
      all-leave (Epoch g epoch) range = others-leave (Epoch g epoch) range (λ e. cc)
      all-leave (Restart g epoch) range = others-leave (Restart g epoch) range (λ e. cc)
