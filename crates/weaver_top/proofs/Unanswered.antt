-- A step adds pairs to requests that have no reply, and so do steps one after another.
-- Used by Onward.
use Rattle.std.proofs.Common.{◌≡◌, ℕ, ◌⊎◌, Bool, true, false, cond, List, [], ◌∷◌, ◌++◌, Contains, IsTrue, Option, None, Some, inl, inr, refl, sym, ap, subst, ◌∙◌}
use Rattle.std.specs.Prelude.{map, slice_get, ◌==◌}
use Rattle.std.proofs.lemmas.Bool.{eqb-true}
use Rattle.vector_stamp.specs.Seeing.{last_seen}
use Rattle.weave_data.specs.Names.{shard_of}
use Rattle.program_defs.specs.Works.{is_look}
use Rattle.weave_entries.specs.SessionReplay.{has_reply_in}
use Rattle.std.specs.List.{cons_option, filter_map}
use Rattle.std.specs.Option.{option_map}
use Rattle.std.proofs.lemmas.List.Concat.{flat_map-append}
use Rattle.std.proofs.lemmas.List.Elements.{Contains-append_cases}
use Rattle.weave_data.proofs.Members.{find_has, has_none, has_read}
use Rattle.vector_stamp.specs.declared.clock.Clock.{Clock}
use Rattle.vector_stamp.specs.declared.clock.Stamp.{Stamp}
use Rattle.vector_stamp.specs.Precedence.{GivenPair}
use Rattle.vector_stamp.specs.Settling.{entries_of_call}
use Rattle.weave_data.specs.declared.name.Name.{Name}
use Rattle.program_defs.specs.declared.script.Request.{Request}
use Rattle.program_defs.specs.declared.script.Script.{Script}
use Rattle.program_defs.specs.declared.script.Step.{Step}
use Rattle.program_defs.specs.declared.script.Step.TheVariants.{Begin, Judge, Send, Say, Hear, Nop, Deliver, Apply, Visit, Reply, Collect, Epoch, Restart}
use Rattle.program_defs.specs.declared.script.Work.{Work}
use Rattle.program_defs.specs.declared.script.Work.TheVariants.{Change, Look}
use Rattle.program_defs.specs.Limits.{IsWithinLimits}
use Rattle.report_rules.specs.Lookups.{request_at}
use Rattle.weave_entries.specs.declared.message.Message.{Message}
use Rattle.weave_entries.specs.declared.oracle_log.OracleEntry.{OracleEntry}
use Rattle.weave_entries.specs.declared.verdict.Verdict.{Verdict}
use Rattle.weave_entries.specs.declared.verdict.Verdict.TheVariants.{Committed, Conflict, Refused}
use Rattle.weave_entries.specs.GateReplay.{BegunRequest, flight_of, program_begun, programs_of}
use Rattle.weave_entries.specs.OracleReplay.{oracle_entry_of, pairs_of_entry, pairs_of_log, settled_entry}
use Rattle.weave_entries.specs.StoreReplay.{Judgement}
use Rattle.weave_entries.specs.StoreRule.{asked_stamps, entries_of_settling, settled_if}
use Rattle.weave_entries.proofs.OwnStamps.{program-begun as program-begun-in}
use Rattle.weave_account.specs.declared.account.Account.{Account}
use Rattle.weave_account.specs.Account.{gate_log, pairs_in, session_log}
use Rattle.weave_account.specs.IsAccount.{IsAccount}
use Rattle.step_rules.specs.CoreState.{CoreState}
use Rattle.step_rules.specs.Answers.{answer_of}
use Rattle.step_rules.specs.Entries.{account_with, after_begin, after_deliver, after_hear, after_judge, after_reply, after_send, after_visit, after_work, at_request, lasts_in, seen_in, state_with, update_stamps_at, verdict_in, with_finish}
use Rattle.step_rules.specs.Requests.{has_ended, next_vertex, ops_in}
use Rattle.step_rules.specs.Trace.{is_ok, state_after}
use Rattle.weaver_top.specs.LowerLaws.{LawsForCommands}
use Rattle.weave_phase.specs.Pairs.{AddsOpenPairs}
use Rattle.weave_account.proofs.Beginning.{all-in}
use Rattle.weaver_top.proofs.Begun.{flight-begun, flight-unanswered}

-- What the oracle adds

-- a pair for a place has this later end
place-later : (earlier : List Stamp) (later : Stamp) (places : List ℕ) (e l : Stamp)
    → Contains {X = GivenPair} (filter_map (λ (place : ℕ). option_map (λ (event : Stamp). (event, later)) (slice_get earlier place)) places) (e, l) → later ≡ l
place-later earlier later [] e l h = absurd (has_none (e, l) h)
place-later earlier later (place ∷ places) e l h = at (slice_get earlier place) (place-later earlier later places e l) h
  where
    at : (o : Option Stamp)
        → (Contains {X = GivenPair} (filter_map (λ (place : ℕ). option_map (λ (event : Stamp). (event, later)) (slice_get earlier place)) places) (e, l) → later ≡ l)
        → Contains {X = GivenPair} (cons_option (option_map (λ (event : Stamp). (event, later)) o) (filter_map (λ (place : ℕ). option_map (λ (event : Stamp). (event, later)) (slice_get earlier place)) places)) (e, l)
        → later ≡ l
    at None rest h = rest h
    at (Some event) rest h = elim (has_read (event, later) _ (e, l) h) [
      | inl same ↦ ap (λ (given : GivenPair). given.1) same
      | inr more ↦ rest more
    ]

-- the same holds of each pair that settling adds
settled-later : (author : ℕ) (earlier : List Stamp) (later : Stamp) (places : List ℕ) (e l : Stamp)
    → Contains (pairs_of_log (map oracle_entry_of (entries_of_call author earlier later places))) (e, l) → later ≡ l
settled-later author earlier later [] e l h = absurd (has_none (e, l) h)
settled-later author earlier later (place ∷ places) e l h =
    elim (Contains-append_cases (pairs_of_entry (record { author = author; earlier = earlier; later = later; places = place ∷ places })) [] (e, l) h) [
      | inl here ↦ place-later earlier later (place ∷ places) e l here
      | inr none ↦ absurd (has_none (e, l) none)
    ]

judged-later : (verdict : Verdict) (author : ℕ) (pairs : List GivenPair) (earlier : List Stamp) (later : Stamp) (e l : Stamp)
    → Contains (pairs_of_log (settled_if verdict (entries_of_settling author pairs earlier later))) (e, l) → later ≡ l
judged-later (Committed number answers counts) author pairs earlier later e l h = settled-later author earlier later _ e l h
judged-later (Conflict v newer) author pairs earlier later e l h = absurd (has_none (e, l) h)
judged-later (Refused op reason at) author pairs earlier later e l h = absurd (has_none (e, l) h)

-- a pair of a log that went on was there, or is of the entries that were added
more-pairs : (log more : List OracleEntry) (e l : Stamp) → Contains (pairs_of_log (log ++ more)) (e, l) → Contains (pairs_of_log log) (e, l) ⊎ Contains (pairs_of_log more) (e, l)
more-pairs log more e l h =
    Contains-append_cases (pairs_of_log log) (pairs_of_log more) (e, l)
    (subst (λ ps. Contains ps (e, l)) (flat_map-append (λ (entry : OracleEntry). pairs_of_entry (settled_entry entry)) log more) h)

-- A step

module _ (laws : LawsForCommands) (script : Script) (limits : IsWithinLimits script) where
  -- with the same oracle there is no new pair
  same-oracle : (old new : Account) → new.oracle ≡ old.oracle → AddsOpenPairs script old new
  same-oracle old new same e l h = inl (subst (λ o. Contains (pairs_of_log o) (e, l)) same h)

  judges : (account : Account) → IsAccount script account → (home : ℕ) (o : Option BegunRequest) → flight_of (gate_log account home) ≡ o
      → AddsOpenPairs script account (after_judge script account o)
  judges account is home None flies e l h = inl h
  judges account is home (Some flight) flies e l h =
      let ops = ops_in (request_at script flight.request) in
      let verdict = verdict_in account flight.stamp ops in
      elim (more-pairs account.oracle (settled_if verdict (entries_of_settling flight.author (pairs_in account) (asked_stamps flight.stamp (lasts_in account ops)) flight.stamp)) e l h) [
        | inl before ↦ inl before
        | inr new ↦ inr (record {
          begun = flight;
          there = flight-begun laws script account limits is home flight flies;
          stamp_is = judged-later verdict flight.author (pairs_in account) (asked_stamps flight.stamp (lasts_in account ops)) flight.stamp e l new;
          unanswered = λ request request-is replied. flight-unanswered laws script account limits is home request.session flight request flies request-is replied;
        })
      ]

  -- a program that has a next vertex has no reply
  goes-on-reading : (account : Account) → IsAccount script account → (r : ℕ) (request : Request) → request_at script r ≡ Some request → (v : Name)
      → next_vertex account r request.work ≡ Some v → IsTrue (has_reply_in r (session_log account request.session)) → ⊥
  goes-on-reading account is r request there v next replied = at request.work refl next
    where
      at : (work : Work) → request.work ≡ work → next_vertex account r work ≡ Some v → ⊥
      at (Change ops) work next = cc
      at (Look program) work next =
          let look : IsTrue (is_look request.work) = ap is_look work in
          let ended = (laws.finished script account limits is r request there look).1 replied in
          let whole = (is.programs r request program there work).whole ended in
          let clash : Some v ≡ None = sym next ∙ whole in
          cc

  visits : (account : Account) → IsAccount script account → (r : ℕ) (request : Request) → request_at script r ≡ Some request → (o : Option BegunRequest) (next : Option Name)
      → program_begun r (gate_log account request.gate) ≡ o → next_vertex account r request.work ≡ next
      → AddsOpenPairs script account (after_visit script account r o next)
  visits account is r request there None None begun next e l h = inl h
  visits account is r request there None (Some v) begun next e l h = inl h
  visits account is r request there (Some b) None begun next e l h = inl h
  visits account is r request there (Some b) (Some v) begun next e l h =
      let stamps = update_stamps_at account (shard_of v script.shards) v in
      let earlier = last_seen (seen_in account b.stamp stamps) stamps in
      elim (more-pairs account.oracle (entries_of_settling 0 (pairs_in account) earlier b.stamp) e l h) [
        | inl before ↦ inl before
        | inr new ↦
            (let found = find_has (λ (k : BegunRequest). k.request == r) (programs_of (gate_log account request.gate)) b begun in
            let same : b.request ≡ r = eqb-true b.request r found.1 in
            inr (record {
              begun = b;
              there = all-in account request.gate b (program-begun-in (gate_log account request.gate) b found.0);
              stamp_is = settled-later 0 earlier b.stamp _ e l new;
              unanswered = λ other other-is replied. (let both : Some other ≡ Some request = sym other-is ∙ ap (request_at script) same ∙ there in
                  let one : other ≡ request = cc in
                  goes-on-reading account is r request there v next
                  (subst (λ (k : Request). IsTrue (has_reply_in r (session_log account k.session))) one (subst (λ n. IsTrue (has_reply_in n (session_log account other.session))) same replied)));
            }))
      ]

  visits-at : (account : Account) → IsAccount script account → (r : ℕ) (o : Option Request) → request_at script r ≡ o
      → AddsOpenPairs script account (at_request (λ request. after_visit script account r (program_begun r (gate_log account request.gate)) (next_vertex account r request.work)) account o)
  visits-at account is r None there = same-oracle account account refl
  visits-at account is r (Some request) there = visits account is r request there _ _ refl refl

  sends : (account : Account) (g : ℕ) (o : Option BegunRequest) (j : Option Judgement) → (after_send script account g o j).oracle ≡ account.oracle
  sends account g None None = refl
  sends account g None (Some judged) = refl
  sends account g (Some flight) None = refl
  sends account g (Some flight) (Some judged) = refl

  hears : (account : Account) (g : ℕ) (o : Option Clock) → (after_hear account g o).oracle ≡ account.oracle
  hears account g None = refl
  hears account g (Some clock) = refl

  delivers : (account : Account) (g s number : ℕ) (o : Option Message) → (after_deliver account g s number o).oracle ≡ account.oracle
  delivers account g s number None = refl
  delivers account g s number (Some message) = refl

  begins : (account : Account) (r : ℕ) (o : Option Request) → (at_request (after_begin account r) account o).oracle ≡ account.oracle
  begins account r None = refl
  begins account r (Some request) = refl

  finishes : (account : Account) (r g : ℕ) (o : Option BegunRequest) → (with_finish account r g o).oracle ≡ account.oracle
  finishes account r g None = refl
  finishes account r g (Some begun) = refl

  works : (account : Account) (r : ℕ) (request : Request) (work : Work) → (after_work account r request work).oracle ≡ account.oracle
  works account r request (Change ops) = refl
  works account r request (Look program) = at (has_ended account r request)
    where
      at : (b : Bool) → (cond b account (with_finish account r request.gate (program_begun r (gate_log account request.gate)))).oracle ≡ account.oracle
      at true = refl
      at false = finishes account r request.gate (program_begun r (gate_log account request.gate))

  replies : (account : Account) (r : ℕ) (o : Option Request) → (at_request (after_reply account r) account o).oracle ≡ account.oracle
  replies account r None = refl
  replies account r (Some request) = works account r request request.work

  done : (state : CoreState) (step : Step) → IsAccount script state.account → AddsOpenPairs script state.account (account_with script state step)
  done state (Begin r) is = same-oracle state.account _ (begins state.account r (request_at script r))
  done state (Judge g) is = judges state.account is g (flight_of (gate_log state.account g)) refl
  done state (Send g) is = same-oracle state.account _ (sends state.account g _ _)
  done state (Say g) is = same-oracle state.account state.account refl
  done state (Hear g k) is = same-oracle state.account _ (hears state.account g _)
  done state (Nop g s) is = same-oracle state.account _ refl
  done state (Deliver g s number) is = same-oracle state.account _ (delivers state.account g s number _)
  done state (Apply s g) is = same-oracle state.account _ refl
  done state (Visit r) is = visits-at state.account is r (request_at script r) refl
  done state (Reply r) is = same-oracle state.account _ (replies state.account r (request_at script r))
  done state (Collect s) is = same-oracle state.account _ refl
  done state (Epoch g epoch) is = same-oracle state.account _ refl
  done state (Restart g epoch) is = same-oracle state.account _ refl

  -- a step adds pairs to requests that have no reply
  pub step-adds : (state : CoreState) (step : Step) → IsAccount script state.account → AddsOpenPairs script state.account (state_after script state step).account
  step-adds state step is = at (is_ok (answer_of script state step))
    where
      at : (b : Bool) → AddsOpenPairs script state.account (cond {A = CoreState} b (state_with script state step) state).account
      at true = done state step is
      at false = same-oracle state.account state.account refl
