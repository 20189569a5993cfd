-- What is kept of the programs stays as the logs say, while other logs go on.
-- Used by AfterSteps, OtherSteps, ProgramsSet, StepStays, StepValues, ValuesStay and crate workers_account.
use Rattle.std.proofs.Common.{◌≡◌, ℕ, ◌+◌, ◌<◌, Bool, true, false, List, [], ◌∷◌, ◌++◌, length, filter, IsTrue, Option, None, Some, inl, inr, refl, sym, ap, subst, ◌∙◌, arith}
use Rattle.std.specs.Prelude.{◌==◌, if◌then◌else◌, cond}
use Rattle.std.specs.List.{find}
use Rattle.std.proofs.lemmas.Bool.{cases_eq}
use Rattle.std.proofs.lemmas.List.Concat.{flat_map-append}
use Rattle.std.proofs.lemmas.List.{append-nil, get_or-set_other, get_or-set_same}
use Rattle.std.proofs.lemmas.Option.{none-some}
use Rattle.weave_data.specs.declared.name.Name.{Name}
use Rattle.vector_stamp.specs.declared.clock.Clock.{Clock}
use Rattle.graph_ops.specs.Operations.{State}
use Rattle.program_defs.specs.Limits.{IsWithinLimits}
use Rattle.program_defs.specs.Works.{is_look}
use Rattle.program_defs.specs.declared.program.Program.{Program}
use Rattle.program_defs.specs.declared.script.Request.{Request}
use Rattle.program_defs.specs.declared.script.Script.{Script}
use Rattle.program_defs.specs.declared.script.Step.{Step}
use Rattle.program_defs.specs.declared.script.Step.TheVariants.{Begin, Judge, Send, Say, Hear, Nop, Deliver, Apply, Visit, Reply, Collect, Epoch, Restart}
use Rattle.report_rules.specs.Lookups.{request_at}
use Rattle.weave_entries.specs.declared.gate_log.GateEntry.{GateEntry}
use Rattle.weave_entries.specs.declared.message.Message.{Message}
use Rattle.weave_entries.specs.declared.shard_log.ShardEntry.{ShardEntry}
use Rattle.weave_entries.specs.declared.shard_log.ShardDeed.{ShardDeed}
use Rattle.weave_entries.specs.declared.shard_log.ShardDeed.TheVariants.{Arrived, Applied, Collected}
use Rattle.weave_entries.specs.GateReplay.{BegunRequest, channel_of, flight_of, program_begun, program_by, programs_of}
use Rattle.weave_entries.specs.SessionReplay.{has_reply_in, session_stamp_of}
use Rattle.weave_entries.specs.ShardReplay.{Visit as AVisit, bound_of, processed_count, visit_by, visits_of}
use Rattle.weave_entries.specs.StoreReplay.{Judgement}
use Rattle.shard_queue.specs.Outbox.{sent_as}
use Rattle.weave_account.specs.declared.account.Account.{Account}
use Rattle.weave_account.specs.Account.{gate_log, is_ended, reads_of, session_log, shard_log}
use Rattle.weave_account.specs.GoesOn.{GoesOn, visits_by}
use Rattle.weave_account.specs.IsAccount.{IsAccount}
use Rattle.step_rules.specs.Answers.{answer_of}
use Rattle.step_rules.specs.CoreState.{CoreState, with_shard_deed}
use Rattle.step_rules.specs.Entries.{account_with, after_deliver, after_hear, after_judge, after_send, judgement_in_flight, state_with}
use Rattle.step_rules.specs.IsCore.{IsStepOf}
use Rattle.step_rules.specs.Trace.{is_ok, state_after}
use Rattle.weaver_core.specs.Staying.{StayLaws}
use Rattle.weaver_core.specs.Walks.{HasReadAll, IsOtherStep}
use Rattle.weaver_core.specs.declared.walks.Running.{Running}

-- two tests that imply each other
same-tests : (s t : Bool) → (s ≡ true → t ≡ true) → (t ≡ true → s ≡ true) → s ≡ t
same-tests true t f g = sym (f refl)
same-tests false true f g = g refl
same-tests false false f g = refl

-- Lists

-- what is found in a list is found when the list is longer at its end
pub find-more : {A : Type 0} (p : A → Bool) (xs ys : List A) (x : A) → find p xs ≡ Some x → find p (xs ++ ys) ≡ Some x
find-more p [] ys x e = absurd (none-some x e)
find-more p (y ∷ xs) ys x e = elim (p y) as (λ b. cond b (Some y) (find p xs) ≡ Some x → cond b (Some y) (find p (xs ++ ys)) ≡ Some x) [
  | true ↦ λ h. h
  | false ↦ λ h. find-more p xs ys x h
] e

-- the begin of a program that is found in a gatekeeper's log is found when the log is longer
pub program-stays : (r : ℕ) (log more : List GateEntry) (b : BegunRequest) → program_begun r log ≡ Some b → program_begun r (log ++ more) ≡ Some b
program-stays r log more b e =
    ap (find (λ (begun : BegunRequest). begun.request == r)) (flat_map-append (λ (entry : GateEntry). program_by entry.author entry.deed) log more)
    ∙ find-more (λ (begun : BegunRequest). begun.request == r) (programs_of log) (programs_of more) b e

-- a walk has read the same
pub read-stays : (running : Running) (program : Program) (account next : Account) (r : ℕ) → reads_of next r ≡ reads_of account r → HasReadAll running.walk program (reads_of account r) → HasReadAll running.walk program (reads_of next r)
read-stays running program account next r same has = subst (λ (reads : List (Name × State)). HasReadAll running.walk program reads) (sym same) has

-- One request

-- its session and the visits say the same of a request
pub record StaysAt (account next : Account) (r : ℕ) (request : Request) : Type 0 where
  pub stamps : session_stamp_of r (session_log next request.session) ≡ session_stamp_of r (session_log account request.session)
  pub replies : has_reply_in r (session_log next request.session) ≡ has_reply_in r (session_log account request.session)
  pub visits : (shard : ℕ) → visits_by r (shard_log next shard) ≡ visits_by r (shard_log account shard)

module _ (laws : StayLaws) (script : Script) (account next : Account) (limits : IsWithinLimits script) (is : IsAccount script account) (is-next : IsAccount script next) (goes : GoesOn account next) where
  -- a program is finished if it was
  module _ (r : ℕ) (request : Request) (at : request_at script r ≡ Some request) (looks : IsTrue (is_look request.work)) (same : has_reply_in r (session_log next request.session) ≡ has_reply_in r (session_log account request.session)) where
    -- a program is finished exactly if it was, as long as its session says the same of its reply
    pub ended-stays : is_ended next r ≡ is_ended account r
    ended-stays =
        let now = laws.replied script next limits is-next r request at looks in
        let was = laws.replied script account limits is r request at looks in
        same-tests (is_ended next r) (is_ended account r) (λ h. was.1 (sym same ∙ now.0 h)) (λ h. now.1 (same ∙ was.0 h))

-- Steps of no request

-- the sessions and the visits are as before
pub record SameLogs (account next : Account) : Type 0 where
  pub sessions_are : next.sessions ≡ account.sessions
  pub visits_are : (r shard : ℕ) → visits_by r (shard_log next shard) ≡ visits_by r (shard_log account shard)

-- a change of gatekeepers alone
gates-same : (account : Account) (gates : List (List GateEntry)) → SameLogs account (record account { gates = gates })
gates-same account gates = record { sessions_are = refl; visits_are = λ r shard. refl }

same-same : (account : Account) → SameLogs account account
same-same account = gates-same account account.gates

-- an entry of a shard that is no visit
visits-pushed : (r s : ℕ) (deed : ShardDeed) (log : List ShardEntry) → visit_by 0 deed ≡ [] → visits_by r (log ++ record { author = 0; deed = deed } ∷ []) ≡ visits_by r log
visits-pushed r s deed log none =
    ap (filter (λ (visit : AVisit). visit.request == r))
    (flat_map-append (λ (e : ShardEntry). visit_by e.author e.deed) log (record { author = 0; deed = deed } ∷ []) ∙ ap (λ more. visits_of log ++ (more ++ [])) none ∙ append-nil (visits_of log))

shard-same : (account : Account) (s : ℕ) (deed : ShardDeed) → s < length account.shards → visit_by 0 deed ≡ [] → SameLogs account (with_shard_deed account s deed)
shard-same account s deed within none = record {
  sessions_are = refl;
  visits_are = λ r shard. elim (cases_eq shard s) [
    | inl same ↦ ap (λ n. visits_by r (shard_log (with_shard_deed account s deed) n)) same ∙ ap (visits_by r) (get_or-set_same account.shards s (shard_log account s ++ record { author = 0; deed = deed } ∷ []) [] within)
        ∙ visits-pushed r s deed (shard_log account s) none ∙ ap (λ n. visits_by r (shard_log account n)) (sym same)
    | inr other ↦ ap (visits_by r) (get_or-set_other account.shards s shard (shard_log account s ++ record { author = 0; deed = deed } ∷ []) [] other)
  ];
}

module _ (script : Script) (state : CoreState) (as-many : length state.account.shards ≡ script.shards) where
  abbrev account : Account
  account = state.account

  judge-same : (o : Option BegunRequest) → SameLogs account (after_judge script account o)
  judge-same None = same-same account
  judge-same (Some flight) = record { sessions_are = refl; visits_are = λ r shard. refl }

  send-same : (home : ℕ) (o : Option BegunRequest) (p : Option Judgement) → SameLogs account (after_send script account home o p)
  send-same home (Some flight) (Some judged) = gates-same account _
  send-same home (Some flight) None = same-same account
  send-same home None (Some judged) = same-same account
  send-same home None None = same-same account

  hear-same : (home : ℕ) (o : Option Clock) → SameLogs account (after_hear account home o)
  hear-same home None = same-same account
  hear-same home (Some notice) = gates-same account _

  deliver-same : (home s number : ℕ) (o : Option Message) → s < script.shards → SameLogs account (after_deliver account home s number o)
  deliver-same home s number None below = same-same account
  deliver-same home s number (Some message) below = shard-same account s (Arrived home number message) (omega (arith, below, as-many)) refl

  done-same : (step : Step) → IsStepOf script step → IsOtherStep step → SameLogs account (account_with script state step)
  done-same (Judge g) is other = judge-same (flight_of (gate_log account g))
  done-same (Send g) is other = send-same g (flight_of (gate_log account g)) (judgement_in_flight account (flight_of (gate_log account g)))
  done-same (Say g) is other = same-same account
  done-same (Hear g n) is other = hear-same g (sent_as n state.notices)
  done-same (Nop g s) is other = gates-same account _
  done-same (Deliver g s n) is other = deliver-same g s n (sent_as n (channel_of s (gate_log account g))) is.1
  done-same (Apply s g) is other = shard-same account s (Applied g (processed_count g (shard_log account s) + 1)) (let below = is.0 in omega (arith, below, as-many)) refl
  done-same (Collect s) is other = shard-same account s (Collected (bound_of script.gates (shard_log account s))) (omega (arith, is, as-many)) refl
  done-same (Epoch g e) is other = gates-same account _
  done-same (Restart g e) is other = gates-same account _
  done-same (Begin r) is other = absurd other
  done-same (Visit r) is other = absurd other
  done-same (Reply r) is other = absurd other

  either-same : (b : Bool) (x y : CoreState) → SameLogs account x.account → SameLogs account y.account → SameLogs account (if b then x else y).account
  either-same true x y sx sy = sx
  either-same false x y sx sy = sy

  -- a step of no request leaves the sessions and the visits as they were
  pub step-same : (step : Step) → IsStepOf script step → IsOtherStep step → SameLogs account (state_after script state step).account
  step-same step is other = either-same (is_ok (answer_of script state step)) (state_with script state step) state (done-same step is other) (same-same account)
