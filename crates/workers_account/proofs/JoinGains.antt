-- Two parts of the work of a hand and its session, one after the other, are in step together: the hand's begins, ends
-- and judgements match the session's begins and replies.
-- Used by InStep and crate sessions_account.
use Rattle.std.proofs.Common.{◌≡◌, ◌⊎◌, inl, inr, ℕ, ◌<◌, List, ◌++◌, map, take, drop, AllPairs, Contains, Option, None, Some, sym, ap, ◌∙◌, subst, append_assoc}
use Rattle.std.specs.Prelude.{IsSomeAnd}
use Rattle.std.specs.List.{flat_map}
use Rattle.std.proofs.lemmas.List.{map-append, take-append-drop}
use Rattle.std.proofs.lemmas.List.Concat.{flat_map-append}
use Rattle.std.proofs.lemmas.List.Elements.{Contains-append_cases, Contains-append_left, Contains-append_right}
use Rattle.weave_data.proofs.Members.{has_map}
use Rattle.weave_data.proofs.Ordered.{pairs_across, pairs_front}
use Rattle.seen_logs.proofs.Placed.{pairs-append}
use Rattle.vector_stamp.specs.declared.clock.Stamp.{Stamp}
use Rattle.program_defs.specs.declared.script.Request.{Request}
use Rattle.program_defs.specs.declared.script.Script.{Script}
use Rattle.report_rules.specs.declared.report.Reply.{Reply}
use Rattle.report_rules.specs.Lookups.{request_at}
use Rattle.weave_entries.specs.declared.gate_log.GateEntry.{GateEntry}
use Rattle.weave_entries.specs.declared.session_log.SessionEntry.{SessionEntry}
use Rattle.weave_entries.specs.declared.store_log.StoreEntry.{StoreEntry}
use Rattle.weave_entries.specs.GateReplay.{BegunRequest, begun_by, begun_in, ended_by}
use Rattle.weave_entries.specs.SessionReplay.{begin_by, begins_in, reply_by, session_of}
use Rattle.weave_entries.specs.StoreReplay.{Judgement, judged_by, judgements_of}
use Rattle.weave_account.specs.Account.{gate_log}
use Rattle.weaver_core.specs.declared.client.Client.{Client}
use Rattle.weaver_core.specs.Sessions.{log_of_client, IsClientOf}
use Rattle.weaver_locks.specs.Hands.{made_by}
use Rattle.weaver_workers.specs.ClientWork.{Stand}
use Rattle.workers_account.specs.Gained.{AreInStep, GainedEntries, IsInStep, IsJudgedFor}
use Rattle.workers_account.specs.InStepLaws.{InStepLaws}
use Rattle.workers_account.proofs.StepGains.{Rises}

-- Lists that are made of other lists

module _ {A B : Type 0} (f : A → List B) (xs ys : List A) where
  -- what is made of the elements of two lists is made of those of the first, or of those of the second
  pub either-made : (y : B) → Contains (flat_map f (xs ++ ys)) y → Contains (flat_map f xs) y ⊎ Contains (flat_map f ys) y
  either-made y h = Contains-append_cases (flat_map f xs) (flat_map f ys) y (subst (λ (l : List B). Contains l y) (flat_map-append f xs ys) h)

  -- what is made of the first list is made of both
  pub first-made : (y : B) → Contains (flat_map f xs) y → Contains (flat_map f (xs ++ ys)) y
  first-made y h = subst (λ (l : List B). Contains l y) (sym (flat_map-append f xs ys)) (Contains-append_left (flat_map f xs) (flat_map f ys) y h)

  -- what is made of the second list is made of both
  pub second-made : (y : B) → Contains (flat_map f ys) y → Contains (flat_map f (xs ++ ys)) y
  second-made y h = subst (λ (l : List B). Contains l y) (sym (flat_map-append f xs ys)) (Contains-append_right (flat_map f xs) (flat_map f ys) y h)

-- the begun request of a gatekeeper's entry, or none
abbrev pub begun_of : GateEntry → List BegunRequest
begun_of entry = begun_by entry.author entry.deed

-- the ended request of a gatekeeper's entry, or none
abbrev pub ended_of : GateEntry → List ℕ
ended_of entry = ended_by entry.deed

abbrev begin_of : SessionEntry → List (ℕ × Stamp)
begin_of entry = begin_by entry.deed

abbrev reply_of : SessionEntry → List ℕ
reply_of entry = reply_by entry.deed

-- the judgement that an entry of the store is
abbrev pub judgement_of : StoreEntry → Judgement
judgement_of entry = judged_by entry.author entry.deed

-- what holds of a value that is there leads to what holds of it
pub where-there : {A : Type 0} {P Q : A → Type 0} → (o : Option A) → ((x : A) → P x → Q x) → IsSomeAnd o P → IsSomeAnd o Q
where-there None leads p = p
where-there (Some x) leads p = leads x p

-- each request of the first log is before each of the second
abbrev pub Precedes : List SessionEntry → List SessionEntry → Type 0
Precedes first second = (q r : ℕ) (s t : Stamp) → Contains (begins_in first) (q, s) → Contains (begins_in second) (r, t) → q < r

-- Parts

module _ (script : Script) (author upto : ℕ) (gates more_gates : ℕ → List GateEntry) (store more_store : List StoreEntry)
    (log more : List SessionEntry) (first : AreInStep script author upto gates store log)
    (second : AreInStep script author upto more_gates more_store more) where
  abbrev all_gates : ℕ → List GateEntry
  all_gates home = gates home ++ more_gates home

  judged-on : (judged : Judgement) → IsJudgedFor script log judged → IsJudgedFor script (log ++ more) judged
  judged-on judged for = record { work = for.work; begun = first-made begin_of log more (judged.request, judged.stamp) for.begun }

  judged-now : (judged : Judgement) → IsJudgedFor script more judged → IsJudgedFor script (log ++ more) judged
  judged-now judged for = record { work = for.work; begun = second-made begin_of log more (judged.request, judged.stamp) for.begun }

  -- both together are in step
  pub both-in-step : AreInStep script author upto all_gates (store ++ more_store) (log ++ more)
  both-in-step = record {
    begun = λ home begun h. elim (either-made begun_of (gates home) (more_gates home) begun h) [
      | inl was ↦ first-made begin_of log more (begun.request, begun.stamp) (first.begun home begun was)
      | inr now ↦ second-made begin_of log more (begun.request, begun.stamp) (second.begun home begun now)
    ];
    at_gate = λ r stamp h. elim (either-made begin_of log more (r, stamp) h) [
      | inl was ↦ where-there (request_at script r)
          (λ (request : Request) k. first-made begun_of (gates request.gate) (more_gates request.gate) (record { author = author; request = r; stamp = stamp }) k)
          (first.at_gate r stamp was)
      | inr now ↦ where-there (request_at script r)
          (λ (request : Request) k. second-made begun_of (gates request.gate) (more_gates request.gate) (record { author = author; request = r; stamp = stamp }) k)
          (second.at_gate r stamp now)
    ];
    below = λ r stamp h. elim (either-made begin_of log more (r, stamp) h) [
      | inl was ↦ first.below r stamp was
      | inr now ↦ second.below r stamp now
    ];
    ended = λ home r h. elim (either-made ended_of (gates home) (more_gates home) r h) [
      | inl was ↦ first-made reply_of log more r (first.ended home r was)
      | inr now ↦ second-made reply_of log more r (second.ended home r now)
    ];
    replied = λ r h. elim (either-made reply_of log more r h) [
      | inl was ↦ (let at = first.replied r was in (at.0, first-made ended_of (gates at.0) (more_gates at.0) r at.1))
      | inr now ↦ (let at = second.replied r now in (at.0, second-made ended_of (gates at.0) (more_gates at.0) r at.1))
    ];
    judged = λ judged h. elim (Contains-append_cases (judgements_of store) (judgements_of more_store) judged
        (subst (λ (l : List Judgement). Contains l judged) (map-append judgement_of store more_store) h)) [
          | inl was ↦ judged-on judged (first.judged judged was)
          | inr now ↦ judged-now judged (second.judged judged now)
        ];
    no_epoch = λ home entry h. elim (Contains-append_cases (gates home) (more_gates home) entry h) [
      | inl was ↦ first.no_epoch home entry was
      | inr now ↦ second.no_epoch home entry now
    ];
  }

  module _ (precedes : Precedes log more) where
    -- the begins rise, if they do in each part
    pub both-begin : ((home : ℕ) → AllPairs Rises (begun_in (gates home))) → ((home : ℕ) → AllPairs Rises (begun_in (more_gates home)))
        → (home : ℕ) → AllPairs Rises (begun_in (all_gates home))
    both-begin rise more_rise home =
        subst (AllPairs Rises) (sym (flat_map-append begun_of (gates home) (more_gates home)))
        (pairs-append Rises (begun_in (gates home)) (begun_in (more_gates home)) (rise home) (more_rise home)
        (λ a b h k. precedes a.request b.request a.stamp b.stamp (first.begun home a h) (second.begun home b k)))

    -- judgements rise by request in both parts joined, if they do in each
    pub both-judge : AllPairs (λ (a b : Judgement). a.request < b.request) (judgements_of store)
        → AllPairs (λ (a b : Judgement). a.request < b.request) (judgements_of more_store)
        → AllPairs (λ (a b : Judgement). a.request < b.request) (judgements_of (store ++ more_store))
    both-judge rise more_rise =
        subst (AllPairs (λ (a b : Judgement). a.request < b.request)) (sym (map-append judgement_of store more_store))
        (pairs-append (λ (a b : Judgement). a.request < b.request) (judgements_of store) (judgements_of more_store) rise more_rise
        (λ a b h k. precedes a.request b.request a.stamp b.stamp (first.judged a h).begun (second.judged b k).begun))

-- A session's log

-- the requests that a session's log began, in order
abbrev numbers : List SessionEntry → List ℕ
numbers log = map (λ (begun : ℕ × Stamp). begun.0) (begins_in log)

abbrev Less : ℕ → ℕ → Type 0
Less a b = a < b

module _ (laws : InStepLaws) (number : ℕ) (client : Client) (at_end : IsClientOf number client.session client.log.items) where
  -- they rise, since they are the first ones of the session
  numbers-rise : AllPairs Less (numbers (log_of_client client))
  numbers-rise =
      let requests = client.session.requests in
      let count = (session_of requests (log_of_client client)).begun in
      subst (AllPairs Less) (sym (laws.begun_first number requests (log_of_client client) at_end.right))
      (pairs_front Less (take count requests) (drop count requests)
      (subst (AllPairs Less) (sym (take-append-drop count requests)) at_end.rising))

  -- so of a log in two parts each request of the first is before each of the second
  pub parts-precede : (old first second : List SessionEntry) → log_of_client client ≡ (old ++ first) ++ second → Precedes first second
  parts-precede old first second is q r s t h k =
      pairs_across Less (numbers (old ++ first)) (numbers second) q r
      (subst (AllPairs Less) (ap numbers is ∙ ap (map (λ (begun : ℕ × Stamp). begun.0)) (flat_map-append begin_of (old ++ first) second)
      ∙ map-append (λ (begun : ℕ × Stamp). begun.0) (begins_in (old ++ first)) (begins_in second)) numbers-rise)
      (has_map (λ (begun : ℕ × Stamp). begun.0) (begins_in (old ++ first)) (q, s) (second-made begin_of old first (q, s) h))
      (has_map (λ (begun : ℕ × Stamp). begun.0) (begins_in second) (r, t) k)

-- Stands

module _ (script : Script) (author upto : ℕ) (from mid at : Stand) where
  -- what a hand gained in two parts, one after the other, as one gain
  abbrev pub both-gained : GainedEntries from mid → GainedEntries mid at → GainedEntries from at
  both-gained first second = record {
    gates = λ home. first.gates home ++ second.gates home;
    at_gates = λ home. second.at_gates home ∙ ap (λ l. l ++ second.gates home) (first.at_gates home)
        ∙ append_assoc (gate_log (made_by from.hand) home) (first.gates home) (second.gates home);
    store = first.store ++ second.store;
    at_store = second.at_store ∙ ap (λ l. l ++ second.store) first.at_store ∙ append_assoc (made_by from.hand).store first.store second.store;
    session = first.session ++ second.session;
    in_session = second.in_session ∙ ap (λ l. l ++ second.session) first.in_session ∙ append_assoc (log_of_client from.client) first.session second.session;
    replies = first.replies ++ second.replies;
    in_replies = second.in_replies ∙ ap (λ l. l ++ second.replies) first.in_replies
        ∙ append_assoc from.client.replies.items first.replies second.replies;
  }

  -- two parts of which each is in step, at whose end the session keeps its rules
  pub join-in-step : InStepLaws → (number : ℕ) → IsClientOf number at.client.session at.client.log.items
      → IsInStep script author upto from mid → IsInStep script author upto mid at → IsInStep script author upto from at
  join-in-step laws number at_end first second =
      let was = first.gained in
      let now = second.gained in
      let precedes : Precedes was.session now.session = parts-precede laws number at.client at_end (log_of_client from.client) was.session now.session
      (now.in_session ∙ ap (λ l. l ++ now.session) was.in_session) in
      record {
        gained = both-gained was now;
        in_step = both-in-step script author upto was.gates now.gates was.store now.store was.session now.session first.in_step second.in_step;
        begun_rise = both-begin script author upto was.gates now.gates was.store now.store was.session now.session first.in_step second.in_step
            precedes first.begun_rise second.begun_rise;
        judged_rise = both-judge script author upto was.gates now.gates was.store now.store was.session now.session first.in_step second.in_step
            precedes first.judged_rise second.judged_rise;
        requests = second.requests ∙ first.requests;
        replied = map-append (λ (reply : Reply). reply.request) was.replies now.replies
            ∙ (λ i. first.replied i ++ second.replied i)
            ∙ sym (flat_map-append reply_of was.session now.session);
      }
