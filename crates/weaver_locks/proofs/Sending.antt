-- The transaction in flight goes on until its author sends it, and its judgement counts what it names.
-- Used by `send` and Following.
use Rattle.std.proofs.Common.{◌≡◌, ℕ, ◌<◌, false, List, [], ◌∷◌, ◌++◌, length, map, get_or, refl, sym, ap, ◌∙◌, subst, arith, append_assoc, length-append, Contains}
use Rattle.std.specs.Prelude.{Result, Ok, Err, IfOk, OnOk, Option, Some, is_none}
use Rattle.std.specs.Option.{ForSome}
use Rattle.std.proofs.lemmas.Option.{none-some, same_Some}
use Rattle.std.proofs.lemmas.List.{append-nil, get_or-map, get_or-set_same, length-map, map-append}
use Rattle.std.proofs.lemmas.List.Elements.{Contains-append_left}
use Rattle.weave_data.proofs.Members.{cut_at, map_has}
use Rattle.graph_ops.specs.declared.op.Op.{Op}
use Rattle.weave_entries.specs.declared.gate_log.GateDeed.{GateDeed}
use Rattle.weave_entries.specs.declared.gate_log.GateDeed.TheVariants.{BeganTx, BeganProgram, Sent, Nop, Heard, Raised, Finished}
use Rattle.weave_entries.specs.declared.gate_log.GateEntry.{GateEntry}
use Rattle.weave_entries.specs.declared.store_log.StoreDeed.{StoreDeed}
use Rattle.weave_entries.specs.declared.store_log.StoreDeed.TheVariants.{Judged}
use Rattle.weave_entries.specs.declared.store_log.StoreEntry.{StoreEntry}
use Rattle.weave_entries.specs.declared.verdict.Verdict.{Verdict}
use Rattle.weave_entries.specs.GateReplay.{BegunRequest, flight_after, flight_of}
use Rattle.weave_entries.specs.GateRules.{FitsAs, IsGateLog}
use Rattle.weave_entries.specs.Sending.{IsCountsOf, messages_of}
use Rattle.weave_entries.specs.StoreReplay.{Judgement, commits_of, judged_by, judgements_of}
use Rattle.weave_entries.specs.StoreRule.{FitsStore, IsStoreLog}
use Rattle.weave_account.specs.Account.{gate_log}
use Rattle.gatekeeper.specs.declared.fault.GateFault.{GateFault}
use Rattle.gatekeeper.specs.declared.fault.GateFault.TheVariants.{Idle}
use Rattle.gatekeeper.specs.Answers.{IsRefusedWhere}
use Rattle.gatekeeper.specs.Gates.{Adds, GateView, SendsFlight}
use Rattle.seen_logs.specs.Entries.{gate_entries, gate_entry, gate_pair, gate_pairs}
use Rattle.seen_logs.specs.Seen.{IsWithin}
use Rattle.chronicle.specs.Logs.{Log, entries_of}
use Rattle.chronicle.specs.Passes.{seen_by_note, seen_by_pass}
use Rattle.lock_row.proofs.Lists.{one_of}
use Rattle.gate_lock.specs.declared.noted_gate.NotedGate.{NotedGate}
use Rattle.gate_lock.specs.Notes.{HasJudged, GateIsKept, seen_of_gate}
use Rattle.weaver_locks.specs.declared.hand.Hand.{Hand}
use Rattle.weaver_locks.specs.declared.shared.Shared.{Shared}
use Rattle.weaver_locks.specs.GateHolds.{MaySend}
use Rattle.weaver_locks.specs.GateLaws.{GateLaws}
use Rattle.weaver_locks.specs.HandLaws.{HandLaws}
use Rattle.weaver_locks.specs.Hands.{IsHand, hand_number, seen_by}
use Rattle.weaver_locks.specs.InGate.{HasFoundLog, without_oracle}
use Rattle.weaver_locks.proofs.Adding.{AddsNone, gate_author}
use Rattle.weaver_locks.proofs.Entering.{log_found}
use Rattle.weaver_locks.proofs.Passing.{none_of}
use Rattle.weaver_locks.proofs.HandParts.{has_gate}

-- The flight

-- an entry of another author leaves the flight as it is
flight_after_one : (home shards : ℕ) (before : List GateEntry) (author : ℕ) (flight : BegunRequest) → flight_of before ≡ Some flight
    → (author ≡ flight.author → ⊥) → (deed : GateDeed) → FitsAs home shards before author deed → flight_after (Some flight) author deed ≡ Some flight
flight_after_one home shards before author flight flies other (BeganTx r stamp) fits = absurd (none-some flight (sym fits.alone ∙ flies))
flight_after_one home shards before author flight flies other (BeganProgram r stamp) fits = refl
flight_after_one home shards before author flight flies other (Sent r messages) fits =
    let sent : BegunRequest = record { author = author; request = r; stamp = fits.stamp } in
    let one : sent ≡ flight = same_Some sent flight (sym fits.flight ∙ flies) in
    absurd (other (ap (λ (b : BegunRequest). b.author) one))
flight_after_one home shards before author flight flies other (Nop shard number stamp mark) fits = refl
flight_after_one home shards before author flight flies other (Heard clock) fits = refl
flight_after_one home shards before author flight flies other (Raised epoch) fits = refl
flight_after_one home shards before author flight flies other (Finished r) fits = refl

-- a transaction in flight stays so if the legal log goes on without entries of its author
pub flight_goes_on : GateLaws → (home shards : ℕ) (log new : List GateEntry) (flight : BegunRequest) → IsGateLog home shards (log ++ new)
    → flight_of log ≡ Some flight → AddsNone gate_author flight.author log (log ++ new) → flight_of (log ++ new) ≡ Some flight
flight_goes_on rules home shards log [] flight legal flies none = ap (λ (l : List GateEntry). flight_of l) (append-nil log) ∙ flies
flight_goes_on rules home shards log (e ∷ es) flight legal flies none =
    let at : log ++ e ∷ es ≡ (log ++ e ∷ []) ++ es = sym (append_assoc log (e ∷ []) es) in
    let step : flight_of (log ++ e ∷ []) ≡ Some flight = rules.flight log e
    ∙ (ap (λ (f : Option BegunRequest). flight_after f e.author e.deed) flies
    ∙ flight_after_one home shards log e.author flight flies (λ own. none log e es refl (own, omega arith)) e.deed (legal log e es refl)) in
    ap (λ (l : List GateEntry). flight_of l) at
    ∙ flight_goes_on rules home shards (log ++ e ∷ []) es flight (subst (IsGateLog home shards) at legal) step
    (λ before entry after is own. none before entry after (at ∙ is) (own.0, omega (arith, own.1, length-append log (e ∷ []))))

-- The judgement

entry_counts : GateLaws → (before : List StoreEntry) (author : ℕ) (deed : StoreDeed) → FitsStore before deed
    → IsCountsOf (judged_by author deed).ops (judged_by author deed).verdict
entry_counts rules before author (Judged r stamp ops asked verdict) fits =
    subst (λ (v : Verdict). IsCountsOf ops v) (sym fits.verdict_is) (rules.counts fits.pairs (commits_of before) stamp ops)

-- each judgement of a legal log counts what it names
counts_named : GateLaws → (log : List StoreEntry) → IsStoreLog log → (judged : Judgement) → Contains (judgements_of log) judged
    → IsCountsOf judged.ops judged.verdict
counts_named rules log legal judged there =
    let entry = map_has (λ (e : StoreEntry). judged_by e.author e.deed) log judged there in
    let cut = cut_at log entry.0 entry.1 in
    subst (λ (j : Judgement). IsCountsOf j.ops j.verdict) entry.2
    (entry_counts rules cut.before entry.0.author entry.0.deed (legal cut.before entry.0 cut.after cut.is))

-- What the hand may send it may send in the hold

module _ (laws : HandLaws) (rules : GateLaws) (shared : Shared) (old : Hand) (gate : ℕ) (low : gate < length shared.gates.items)
    (hand : IsHand shared old) (m : NotedGate) (home : m.gate.home ≡ gate) (found : HasFoundLog old gate m.gate.log) (kept : GateIsKept m.gate m.notes)
    (within : IsWithin (without_oracle (seen_by old)) (seen_of_gate m.gate m.notes))
    (ops : List Op) (verdict : Verdict) (may : MaySend (seen_by old) (hand_number old) gate ops verdict) where
  abbrev flight : BegunRequest
  flight = may.flight

  legal_log : IsGateLog m.gate.home m.gate.shards m.gate.log
  legal_log =
      let logs = map gate_entries (map seen_by_note m.notes.gates.items) in
      subst (IsGateLog m.gate.home m.gate.shards) (get_or-set_same logs m.gate.home m.gate.log []
      (omega (arith, kept.home, kept.gates, length-map (map seen_by_note m.notes.gates.items) gate_entries, length-map m.notes.gates.items seen_by_note)))
      (kept.legal.gate_logs m.gate.home)

  none_own : AddsNone gate_author (hand_number old) (gate_log (seen_by old) gate) m.gate.log
  none_own =
      let d = one_of old.gates.items gate (has_gate shared old hand gate low) in
      let pass = get_or old.gates.items gate d in
      let was : gate_log (seen_by old) gate ≡ gate_entries (seen_by_pass pass) =
      laws.at_gate (map seen_by_pass old.gates.items) (seen_by_pass old.store) (seen_by_pass old.oracle) (map seen_by_pass old.shards.items) gate
      ∙ ap (λ (l : Log GateDeed). gate_entries l) (get_or-map seen_by_pass old.gates.items gate d [] (has_gate shared old hand gate low)) in
      let mine : entries_of (hand_number old) (gate_pairs m.gate.log) ≡ entries_of (hand_number old) (seen_by_pass pass) =
      found.own_is d ∙ ap (λ (n : ℕ). entries_of n (seen_by_pass pass)) (hand.gate_numbers gate d (has_gate shared old hand gate low)) in
      let P : List GateEntry × List GateEntry → Type 0 = λ z. AddsNone gate_author (hand_number old) z.0 z.1 in
      subst P (λ i. (sym was i, laws.gate_records m.gate.log i))
      (none_of gate_pair gate_entry laws.gate_back gate_author (λ r. refl) laws.gate_places (hand_number old) (seen_by_pass pass) (gate_pairs m.gate.log)
      (record { own_is = mine; more = found.more d }))

  -- the hand's transaction is in flight at the gatekeeper in the hold, as the hand had seen
  pub flies_there : flight_of m.gate.log ≡ Some flight
  flies_there =
      let on = log_found laws old gate m.gate.log (has_gate shared old hand gate low) found in
      let seen_log = gate_log (seen_by old) gate in
      let none : AddsNone gate_author flight.author seen_log m.gate.log =
      subst (λ (n : ℕ). AddsNone gate_author n seen_log m.gate.log) (sym may.own) none_own in
      ap (λ (l : List GateEntry). flight_of l) on.1
      ∙ flight_goes_on rules m.gate.home m.gate.shards seen_log on.0 flight (subst (IsGateLog m.gate.home m.gate.shards) on.1 legal_log) may.flies
      (subst (λ (l : List GateEntry). AddsNone gate_author flight.author seen_log l) on.1 none)

  judged_there : HasJudged (seen_of_gate m.gate m.notes) flight ops verdict
  judged_there =
      let has = may.judged in
      let old_judged = judgements_of (seen_by old).store in
      let new_judged = judgements_of within.store.0 in
      let all : judgements_of (seen_of_gate m.gate m.notes).store ≡ old_judged ++ new_judged =
      ap (λ (l : List StoreEntry). judgements_of l) within.store.1
      ∙ map-append (λ (e : StoreEntry). judged_by e.author e.deed) (seen_by old).store within.store.0 in
      record {
        judged = has.judged;
        is_judged = subst (λ (l : List Judgement). Contains l has.judged) (sym all)
            (Contains-append_left old_judged new_judged has.judged has.is_judged);
        request_is = has.request_is;
        stamp_is = has.stamp_is;
        ops_are = has.ops_are;
        verdict_is = has.verdict_is;
      }

  -- what is in flight at the gatekeeper was begun by the hand
  pub sends_own : (author : ℕ) → author ≡ hand_number old → ForSome (flight_of m.gate.log) (λ (b : BegunRequest). b.author ≡ author)
  sends_own author is b flies =
      ap (λ (x : BegunRequest). x.author) (same_Some b flight (sym flies ∙ flies_there)) ∙ (may.own ∙ sym is)

  -- the verdict on what is in flight there counts what the operations name
  pub sends_counted : ForSome (flight_of m.gate.log) (λ (b : BegunRequest). IsCountsOf ops verdict)
  sends_counted b flies =
      let has = judged_there in
      subst (λ (z : List Op × Verdict). IsCountsOf z.0 z.1) (λ i. (has.ops_are i, has.verdict_is i))
      (counts_named rules (seen_of_gate m.gate m.notes).store kept.legal.store_log has.judged has.is_judged)

  -- by what the gatekeeper has seen, what is in flight there was judged by this verdict on these operations
  pub sends_judged : ForSome (flight_of m.gate.log) (λ (b : BegunRequest). HasJudged (seen_of_gate m.gate m.notes) b ops verdict)
  sends_judged b flies = subst (λ (x : BegunRequest). HasJudged (seen_of_gate m.gate m.notes) x ops verdict) (same_Some flight b (sym flies_there ∙ flies))
      judged_there

  -- a send that succeeds adds the entry of the messages made of the transaction in flight
  pub sent_as_flown : {A F : Type 0} (author shards : ℕ) (new : GateView) (result : Result A F) → m.gate.shards ≡ shards
      → OnOk result (SendsFlight m.gate new author ops verdict)
      → IfOk result (λ answer. Adds m.gate new author (Sent flight.request (messages_of shards m.gate.log flight ops verdict)))
  sent_as_flown author shards new (Ok answer) many sends =
      let one : sends.flight ≡ flight = same_Some sends.flight flight (sym sends.flies ∙ flies_there) in
      subst (λ (z : ℕ × BegunRequest). Adds m.gate new author (Sent z.1.request (messages_of z.0 m.gate.log z.1 ops verdict))) (λ i. (many i, one i))
      sends.adds
  sent_as_flown author shards new (Err fault) many sends = tt

  -- the call is never refused for want of a transaction in flight
  pub never_idle : {A : Type 0} (result : Result A GateFault) → IsRefusedWhere Idle (is_none (flight_of m.gate.log)) result
      → IsRefusedWhere Idle false result
  never_idle result refused =
      subst (λ (f : Option BegunRequest). IsRefusedWhere Idle (is_none f) result) flies_there refused
