-- What the closed logs of gatekeepers have gained since a phase's start: each entry is of the hand of its author, which
-- has seen it.
-- Used by HeardOf and HowFar.
use Rattle.std.proofs.Common.{◌≡◌, ℕ, ◌==◌, List, ◌∷◌, ◌++◌, length, drop, fold, Contains, Option, None, Some, refl, sym, ap, subst, ◌∙◌, append_assoc, arith}
use Rattle.std.proofs.lemmas.List.{length-append}
use Rattle.std.proofs.lemmas.List.Sums.{fold-append}
use Rattle.std.proofs.Math.Seq.{drop-append_seam}
use Rattle.weave_data.proofs.Members.{cut_at, filter_has}
use Rattle.program_defs.specs.declared.script.Script.{Script}
use Rattle.weave_entries.specs.declared.gate_log.GateEntry.{GateEntry}
use Rattle.weave_entries.specs.GateReplay.{BegunRequest, flight_after, flight_of, txs_of}
use Rattle.weave_entries.proofs.Once.{flight_begun}
use Rattle.weave_account.specs.declared.account.Account.{Account}
use Rattle.weave_account.specs.Account.{gate_log}
use Rattle.weave_account.proofs.GoesOn.{has-on, longer}
use Rattle.seen_logs.specs.Seen.{entries_since}
use Rattle.seen_logs.proofs.Onward.{since-on}
use Rattle.hands_account.proofs.ByHands.{by-author}
use Rattle.weaver_core.specs.declared.client.Client.{Client}
use Rattle.weaver_locks.specs.declared.hand.Hand.{Hand}
use Rattle.weaver_locks.specs.declared.shared.Shared.{Shared}
use Rattle.weaver_locks.specs.Closing.{seen_by_number}
use Rattle.weaver_locks.specs.Hands.{hand_number, seen_by}
use Rattle.weaver_locks.specs.Locks.{hands_of}
use Rattle.workers_account.specs.Phase.{IsClosedBy, IsPhaseRun}
use Rattle.workers_account.specs.PhaseLaws.{PhaseLaws}
use Rattle.workers_account.proofs.Parts.{gates-on, of-number, own-since, part-of, seen-on}
use Rattle.workers_account.proofs.Own.{own-entry, since-is}

-- if none was in flight at the end of a log, what is in flight when it has gone on was begun since
pub flight-since : (log more : List GateEntry) (tx : BegunRequest) → flight_of log ≡ None → flight_of (log ++ more) ≡ Some tx
    → Contains (txs_of more) tx
flight-since log more tx none flies =
    let step = λ (flight : Option BegunRequest) (e : GateEntry). flight_after flight e.author e.deed in
    flight_begun more tx (ap (λ (flight : Option BegunRequest). fold step flight more) (sym none) ∙ sym (fold-append step None log more) ∙ flies)

module _ (laws : PhaseLaws) (shared : Shared) (script : Script) (upto : ℕ) (start : Account) (was is : List Client) (hands : List Hand)
    (run : IsPhaseRun shared script upto start was is hands) where
  -- what a hand's part has at a gatekeeper, the hand has seen there since the start
  pub part-seen : (hand : Hand) (h : Contains hands hand) (home : ℕ) (entry : GateEntry)
      → Contains ((part-of laws shared script upto start was is hands run hand h).gates home) entry
      → Contains (entries_since (gate_log start home) (gate_log (seen_by hand) home)) entry
  part-seen hand h home entry there =
      let part = part-of laws shared script upto start was is hands run hand h in
      let since = (seen-on laws shared script upto start was is hands run hand part home).0 in
      subst (λ (l : List GateEntry). Contains l entry) (sym (since-is laws shared script upto start was is hands run hand part home))
      (filter_has (λ (e : GateEntry). e.author == hand_number hand) since entry
      (subst (λ (l : List GateEntry). Contains l entry) (sym (own-since laws shared script upto start was is hands run hand part home)) there)).0

  module _ (closed : Account) (end : IsClosedBy shared script start is hands closed) where
    -- what a hand has seen there since the start is in the closed log since the start
    pub seen-closed : (hand : Hand) → Contains hands hand → (home : ℕ) (entry : GateEntry)
        → Contains (entries_since (gate_log start home) (gate_log (seen_by hand) home)) entry
        → Contains (entries_since (gate_log start home) (gate_log closed home)) entry
    seen-closed hand h home entry there =
        let log = gate_log start home in
        let seen = gate_log (seen_by hand) home in
        let on = seen-on laws shared script upto start was is hands run hand (part-of laws shared script upto start was is hands run hand h) home in
        has-on (entries_since log seen) (entries_since log (gate_log closed home))
        (since-on log seen (gate_log closed home) (longer log seen on) ((end.within hand h).gates home)) entry there

    -- the entries of the closed log since the start
    pub closed-since : (home : ℕ) → entries_since (gate_log start home) (gate_log closed home)
        ≡ (gates-on laws shared script upto start was is hands run closed end home).0
    closed-since home =
        let on = gates-on laws shared script upto start was is hands run closed end home in
        ap (drop (length (gate_log start home))) on.1 ∙ drop-append_seam (gate_log start home) on.0

    -- an entry of the closed log since the start is of the part of the hand that is its author
    pub since-by : (home : ℕ) (entry : GateEntry) → Contains (entries_since (gate_log start home) (gate_log closed home)) entry
        → (hand : Hand) × (h : Contains hands hand) × (hand_number hand ≡ entry.author)
        × Contains ((part-of laws shared script upto start was is hands run hand h).gates home) entry
    since-by home entry there =
        let log = gate_log start home in
        let on = gates-on laws shared script upto start was is hands run closed end home in
        let cut = cut_at on.0 entry (subst (λ (l : List GateEntry). Contains l entry) (closed-since home) there) in
        let at : gate_log closed home ≡ (log ++ cut.before) ++ entry ∷ cut.after =
        on.1 ∙ ap (λ (l : List GateEntry). log ++ l) cut.is ∙ sym (append_assoc log cut.before (entry ∷ cut.after)) in
        let many = length-append log cut.before in
        let by = by-author (hands_of shared) log (λ n. gate_log (seen_by_number hands n) home) (gate_log closed home)
        (λ n known. (end.of_hands.within n known).gates home) (log ++ cut.before) entry cut.after at entry.author
        (end.of_hands.gate_entries home (log ++ cut.before) entry cut.after at) (omega (arith, many)) entry.author refl in
        let one = of-number laws shared script upto start was is hands run entry.author by.known in (
          one.hand,
          one.there,
          one.number_is,
          own-entry laws shared script upto start was is hands run one.hand (part-of laws shared script upto start was is hands run one.hand one.there)
              home (log ++ cut.before) entry by.rest (ap (λ (a : Account). gate_log a home) (sym one.seen_is) ∙ by.at) (sym one.number_is, by.own.1),
        )
