-- What gatekeepers have heard since a nudge began, what they have heard of the program that waits, and what a read that
-- is tried once more then answers.
-- Used by `look_on`, `nudge`, `nudge_gate`, `read_next` and `read_or_nudge`.
use Rattle.std.proofs.Common.{◌≡◌, ◌≢◌, ℕ, ◌+◌, ◌==◌, arith, inl, inr, true, false, List, ◌++◌, length, Contains, Option, Some, None, refl, sym, ap, ◌∙◌, subst, append_assoc}
use Rattle.std.proofs.lemmas.Bool.{both_ways, cases_lt}
use Rattle.std.specs.List.{filter}
use Rattle.std.proofs.lemmas.List.{append_cancel_left, drop-append-le}
use Rattle.std.proofs.lemmas.List.Elements.{Contains-append_left, Contains-append_right, filter-append}
use Rattle.std.proofs.lemmas.Option.{none-some, same_Some}
use Rattle.weave_data.proofs.Members.{drop_has, filter_has, flat_has, has_flat}
use Rattle.vector_stamp.specs.declared.clock.Stamp.{Stamp}
use Rattle.program_defs.specs.declared.script.Script.{Script}
use Rattle.weave_entries.specs.declared.gate_log.GateEntry.{GateEntry}
use Rattle.weave_entries.specs.declared.gate_log.GateDeed.TheVariants.{Heard}
use Rattle.weave_entries.specs.GateReplay.{clock_of, program_by, programs_of, BegunRequest}
use Rattle.weave_account.specs.Account.{gate_log}
use Rattle.weave_account.specs.GoesOn.{IsBeginningOf}
use Rattle.weave_account.proofs.GoesOn.{flat-on, has-on, longer, onward}
use Rattle.seen_logs.specs.Seen.{entries_since}
use Rattle.seen_logs.proofs.Onward.{since-on}
use Rattle.weaver_core.specs.declared.client.Client.{Client}
use Rattle.weaver_core.specs.declared.walks.Running.{Running}
use Rattle.weaver_locks.specs.declared.hand.Hand.{Hand}
use Rattle.weaver_locks.specs.declared.shared.Shared.{Shared}
use Rattle.weaver_locks.specs.Hands.{hand_number, made_by, seen_by, IsHand}
use Rattle.weaver_locks.specs.Locks.{gate_count, start_of}
use Rattle.weaver_hands.specs.Programs.{IsRunning, ReadsNoMore}
use Rattle.weaver_workers.specs.declared.reading.Read.{Read}
use Rattle.weaver_workers.specs.declared.reading.Read.TheVariants.{Over, More, NotYet}
use Rattle.weaver_workers.specs.declared.tried.Tried.{Tried}
use Rattle.weaver_workers.specs.declared.tried.Tried.TheVariants as tried
use Rattle.weaver_workers.specs.Carrying.{Carries, HasHeard, HaveHeardBelow, OnlyCarries}
use Rattle.weaver_workers.specs.ClientWork.{HasHeardOf, RunsSameProgram, Stand}
use Rattle.weaver_workers.specs.KeepLaws.{KeepLaws}
use Rattle.weaver_workers.specs.Turning.{is_more, stand, tried_by, unready_in, ProgramHasReadAll, ReadAfterNudgeAs, ReadAs, ReadsNextVertex, RunsAfterRead, RunsIn, TriedAs}
use Rattle.weaver_workers.proofs.Carried.{nothing-at-shard}
use Rattle.weaver_workers.proofs.There.{said-since, still-said}

-- What was heard since

-- a gatekeeper that has heard another one still has, after the hand only carried
pub still-heard : (old mid new : Hand) (gate from : ℕ) → HasHeard old mid gate from → OnlyCarries mid new → HasHeard old new gate from
still-heard old mid new gate from first only =
    let more = only.gates gate in record {
      clock = first.clock;
      said = still-said old mid new from first.clock first.said only;
      added = first.added ++ more.added;
      log = more.log ∙ ap (λ (l : List GateEntry). l ++ more.added) first.log
          ∙ append_assoc (gate_log (made_by old) gate) first.added more.added;
      entry = first.entry;
      heard = Contains-append_left first.added more.added first.entry first.heard;
      deed = first.deed;
    }

-- and so have all that have
pub still-all-heard : (old mid new : Hand) (from bound : ℕ) → HaveHeardBelow bound from old mid → OnlyCarries mid new
    → HaveHeardBelow bound from old new
still-all-heard old mid new from bound first only gate low other = still-heard old mid new gate from (first gate low other) only

-- what was heard since the hand had seen more was heard since it had seen less
heard-since : (old mid new : Hand) (gate from : ℕ) → OnlyCarries old mid → HasHeard mid new gate from → HasHeard old new gate from
heard-since old mid new gate from only second =
    let more = only.gates gate in record {
      clock = second.clock;
      said = said-since old mid new from second.clock only second.said;
      added = more.added ++ second.added;
      log = second.log ∙ ap (λ (l : List GateEntry). l ++ second.added) more.log
          ∙ append_assoc (gate_log (made_by old) gate) more.added second.added;
      entry = second.entry;
      heard = Contains-append_right more.added second.added second.entry second.heard;
      deed = second.deed;
    }

-- if all below a bound have heard another one, and then the next one hears it or is it, all below the next bound have
pub one-more-heard : (old mid new : Hand) (from bound : ℕ) → OnlyCarries old mid → OnlyCarries mid new
    → HaveHeardBelow bound from old mid → (from ≢ bound → HasHeard mid new bound from) → HaveHeardBelow (bound + 1) from old new
one-more-heard old mid new from bound first second before next gate low other = elim (cases_lt gate bound) [
  | inl less ↦ still-heard old mid new gate from (before gate less other) second
  | inr far ↦ (let same : bound ≡ gate = omega (arith, low, far) in
      subst (λ (g : ℕ). HasHeard old new g from) same
      (heard-since old mid new bound from first (next (λ is. other (sym same ∙ sym is)))))
]

-- what a gatekeeper heard while a hand carried, the hand has seen there since the start
heard-late : (laws : KeepLaws) (shared : Shared) (old new : Hand) (gate from : ℕ) → IsHand shared old → IsHand shared new
    → OnlyCarries old new → (heard : HasHeard old new gate from)
    → Contains (entries_since (gate_log (start_of shared) gate) (gate_log (seen_by new) gate)) heard.entry
heard-late laws shared old new gate from was is only heard =
    let start = gate_log (start_of shared) gate in
    let seen = gate_log (seen_by old) gate in
    let more = only.more.gates gate in
    let own = λ (e : GateEntry). e.author == hand_number old in
    let new_own : gate_log (made_by new) gate ≡ filter own (gate_log (seen_by new) gate) =
    laws.own_at_gate shared new is gate ∙ ap (λ (n : ℕ). filter (λ (e : GateEntry). e.author == n) (gate_log (seen_by new) gate)) only.number in
    let added : heard.added ≡ filter own more.0 = append_cancel_left (filter own seen) heard.added (filter own more.0)
    (ap (λ (l : List GateEntry). l ++ heard.added) (sym (laws.own_at_gate shared old was gate)) ∙ sym heard.log ∙ new_own
    ∙ ap (filter own) more.1 ∙ filter-append own seen more.0) in
    let late = (filter_has own more.0 heard.entry (subst (λ (l : List GateEntry). Contains l heard.entry) added heard.heard)).0 in
    subst (λ (l : List GateEntry). Contains l heard.entry)
    (sym (ap (entries_since start) more.1 ∙ drop-append-le (length start) seen more.0 (longer start seen (was.seen.starts.gates gate))))
    (Contains-append_right (entries_since start seen) more.0 heard.entry late)

-- What was heard of a program

-- a running program was begun before all that its home says later
begun-before : (shared : Shared) (hand : Hand) (running : Running) → IsRunning shared hand running → (said : List GateEntry)
    → IsBeginningOf (gate_log (seen_by hand) running.stamp.home) said
    → Contains (programs_of said) (record { author = hand_number hand; request = running.request; stamp = running.stamp })
begun-before shared hand running runs said late =
    let began = λ (e : GateEntry). program_by e.author e.deed in
    let start = gate_log (start_of shared) running.stamp.home in
    let seen = gate_log (seen_by hand) running.stamp.home in
    let entry = flat_has began (entries_since start seen) _ runs.begun in
    has-on (programs_of seen) (programs_of said) (flat-on began seen said late) _
    (has_flat began seen entry.0 _ (drop_has (length start) seen entry.0 entry.1) entry.2)

-- a gatekeeper that has heard a program's home, since the program was running, has heard of the program
heard-of : (laws : KeepLaws) (shared : Shared) (old new : Hand) (running : Running) (gate : ℕ) → IsHand shared old → IsHand shared new
    → OnlyCarries old new → IsRunning shared old running → HasHeard old new gate running.stamp.home → HasHeardOf shared new running gate
heard-of laws shared old new running gate was is only runs heard = record {
  said = heard.said.said;
  seen = heard.said.seen;
  after = subst (λ (n : ℕ). Contains (programs_of heard.said.said) (record { author = n; request = running.request; stamp = running.stamp }))
      (sym only.number) (begun-before shared old running runs heard.said.said heard.said.late);
  told = record {
    entry = heard.entry;
    own = subst (λ (l : List GateEntry). Contains l heard.entry) (sym heard.log)
        (Contains-append_right (gate_log (made_by old) gate) heard.added heard.entry heard.heard);
    deed = heard.deed ∙ ap Heard heard.said.clock_is;
  };
  since = heard-late laws shared old new gate running.stamp.home was is only heard;
}

-- it still has, after the hand only carried, if the same program runs
still-heard-of : (shared : Shared) (old new : Hand) (was is : Running) (gate : ℕ) → IsHand shared old → HasHeardOf shared old was gate
    → OnlyCarries old new → ReadsNoMore was is → HasHeardOf shared new is gate
still-heard-of shared old new was is gate before heard only same = record {
  said = heard.said;
  seen = subst (λ (stamp : Stamp). IsBeginningOf heard.said (gate_log (seen_by new) stamp.home)) (sym same.stamp_is)
      (onward _ _ _ heard.seen (only.more.gates was.stamp.home));
  after = subst (λ (begun : BegunRequest). Contains (programs_of heard.said) begun)
      (λ i. record { author = sym only.number i; request = sym same.request_is i; stamp = sym same.stamp_is i }) heard.after;
  told = record {
    entry = heard.told.entry;
    own = subst (λ (l : List GateEntry). Contains l heard.told.entry) (sym (only.gates gate).log)
        (Contains-append_left (gate_log (made_by old) gate) (only.gates gate).added heard.told.entry heard.told.own);
    deed = heard.told.deed ∙ ap (λ (stamp : Stamp). Heard (clock_of stamp.home heard.said)) (sym same.stamp_is);
  };
  since =
      let start = gate_log (start_of shared) gate in
      let seen = gate_log (seen_by old) gate in
      has-on (entries_since start seen) (entries_since start (gate_log (seen_by new) gate))
      (since-on start seen (gate_log (seen_by new) gate) (longer start seen (before.seen.starts.gates gate)) (only.more.gates gate)) _ heard.since;
}

-- Reads

-- after a read that found its shard not ready the same program runs
pub runs-after : (gates shards : ℕ) (client : Client) (old new : Hand) (was is : Running) → client.running ≡ Some was → (read : Read)
    → ReadsNextVertex gates shards old new was is read
    → RunsAfterRead (stand old client) (stand new (record client { running = Some is })) read
runs-after gates shards client old new was is running_is Over did = tt
runs-after gates shards client old new was is running_is More visits = tt
runs-after gates shards client old new was is running_is (NotYet shard gate) found = record {
  only = nothing-at-shard shards old new shard found.visits.before found.visits.was;
  same = record { session = refl; log = refl; replies = refl };
  running = subst (λ (o : Option Running). RunsSameProgram o (Some is)) (sym running_is) found.still;
}

-- the program that runs is the same
same-program : (before after : Option Running) (was is : Running) → RunsSameProgram before after → before ≡ Some was → after ≡ Some is
    → ReadsNoMore was is
same-program None after was is same before_is after_is = absurd (none-some was before_is)
same-program (Some one) None was is same before_is after_is = absurd same
same-program (Some one) (Some other) was is same before_is after_is =
    subst (λ (r : Running). ReadsNoMore r is) (same_Some one was before_is)
    (subst (λ (r : Running). ReadsNoMore one r) (same_Some other is after_is) same)

-- a read that is tried once only, since its shard was ready
pub read-once : (shared : Shared) (bound : ℕ) (new : Stand) (read : Read) → unready_in read ≡ None → ReadAs shared new read
    → ReadAfterNudgeAs shared bound new read
read-once shared bound new Over ready over = over
read-once shared bound new More ready more = tt
read-once shared bound new (NotYet shard gate) ready found = absurd (none-some shard (sym ready))

-- a read that is tried once more after a nudge
pub read-again : (laws : KeepLaws) (shared : Shared) (bound : ℕ) (old mid new : Hand) (was is : Client) → IsHand shared old
    → Carries shared old mid
    → (runs : RunsIn shared (stand old was)) → HaveHeardBelow bound runs.running.stamp.home old mid → (read : Read)
    → ReadAs shared (stand new is) read → RunsAfterRead (stand mid was) (stand new is) read
    → ReadAfterNudgeAs shared bound (stand new is) read
read-again laws shared bound old mid new was is hand carries runs heard Over over still = over
read-again laws shared bound old mid new was is hand carries runs heard More more still = tt
read-again laws shared bound old mid new was is hand carries runs heard (NotYet shard gate) found still =
    let same = same-program was.running is.running runs.running found.running still.running runs.running_is found.running_is in
    let home = ap (λ (stamp : Stamp). stamp.home) (sym same.stamp_is) in record {
      found = found;
      heard = λ other low far. still-heard-of shared mid new runs.running found.running other carries.hand
          (heard-of laws shared old mid runs.running other hand carries.hand carries.only runs.runs (heard other low (λ here. far (here ∙ home))))
          still.only same;
    }

-- a program that has read all, if its reads ended and the shard was ready
pub read-over : (shared : Shared) (bound : ℕ) (new : Stand) (read : Read) → is_more read ≡ false → tried_by read ≡ None
    → ReadAfterNudgeAs shared bound new read → ProgramHasReadAll new
read-over shared bound new Over ended ready over = over
read-over shared bound new More ended ready more = absurd (both_ways true ended refl)
read-over shared bound new (NotYet shard gate) ended ready found = absurd (none-some (tried.NotYet shard gate) (sym ready))

-- a try that ends since a shard was not ready
pub tried-as : (shared : Shared) (script : Script) (upto : ℕ) (old new : Stand) (read : Read) (given : Option Tried) (answer : Tried)
    → given ≡ tried_by read → given ≡ Some answer → ReadAfterNudgeAs shared (gate_count shared) new read
    → TriedAs shared script upto old new answer
tried-as shared script upto old new Over given answer by is over = absurd (none-some answer (sym by ∙ is))
tried-as shared script upto old new More given answer by is more = absurd (none-some answer (sym by ∙ is))
tried-as shared script upto old new (NotYet shard gate) given answer by is found =
    subst (TriedAs shared script upto old new) (same_Some (tried.NotYet shard gate) answer (sym by ∙ is)) found
