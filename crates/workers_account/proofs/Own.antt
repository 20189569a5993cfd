-- What a hand of a phase began and judged since the start is what its part began and judged.
-- Used by ByLog, Follows, HowFar, OpenPairs, Programs, SinceStart and Visited.
use Rattle.std.proofs.Common.{◌≡◌, ℕ, ◌==◌, List, ◌∷◌, ◌++◌, length, drop, Contains, sym, ap, subst, ◌∙◌}
use Rattle.std.specs.List.{filter}
use Rattle.std.proofs.lemmas.Bool.{eq-eqb}
use Rattle.std.proofs.Math.Seq.{drop-append_seam}
use Rattle.weave_data.proofs.Members.{has_cut, has_filter}
use Rattle.program_defs.specs.declared.script.Script.{Script}
use Rattle.weave_entries.specs.declared.gate_log.GateEntry.{GateEntry}
use Rattle.weave_entries.specs.GateReplay.{BegunRequest, begun_in}
use Rattle.weave_entries.specs.StoreReplay.{Judgement, judgements_of}
use Rattle.weave_account.specs.declared.account.Account.{Account}
use Rattle.weave_account.specs.Account.{gate_log}
use Rattle.hands_account.specs.Runs.{own_begun, own_judgements}
use Rattle.hands_account.proofs.Places.{in-back}
use Rattle.seen_logs.specs.Seen.{IsOwn, entries_since}
use Rattle.weaver_core.specs.declared.client.Client.{Client}
use Rattle.weaver_locks.specs.declared.hand.Hand.{Hand}
use Rattle.weaver_locks.specs.declared.shared.Shared.{Shared}
use Rattle.weaver_locks.specs.Hands.{hand_number, seen_by}
use Rattle.workers_account.specs.Phase.{IsPhaseRun}
use Rattle.workers_account.specs.PhaseLaws.{PhaseLaws}
use Rattle.workers_account.proofs.OwnSince.{begun-by-author, judged-by-author}
use Rattle.workers_account.proofs.Parts.{Part, own-since, own-stored, seen-on, stored-on}

module _ (laws : PhaseLaws) (shared : Shared) (script : Script) (upto : ℕ) (start : Account) (was is : List Client) (hands : List Hand)
    (run : IsPhaseRun shared script upto start was is hands) (hand : Hand) (part : Part shared script upto was is run.hand_of hand) where
  -- the entries since the start
  pub since-is : (home : ℕ) → entries_since (gate_log start home) (gate_log (seen_by hand) home)
      ≡ (seen-on laws shared script upto start was is hands run hand part home).0
  since-is home =
      let on = seen-on laws shared script upto start was is hands run hand part home in
      ap (drop (length (gate_log start home))) on.1 ∙ drop-append_seam (gate_log start home) on.0

  -- what the hand began since the start at a gatekeeper is what its part began there
  pub own-begun-is : (home : ℕ) → own_begun (hand_number hand) start (seen_by hand) home ≡ begun_in (part.gates home)
  own-begun-is home =
      let on = seen-on laws shared script upto start was is hands run hand part home in
      ap (λ log. filter (λ (b : BegunRequest). b.author == hand_number hand) (begun_in log)) (since-is home)
      ∙ begun-by-author (hand_number hand) on.0
      ∙ ap begun_in (own-since laws shared script upto start was is hands run hand part home)

  -- what it judged since the start is what its part judged
  pub own-judgements-are : own_judgements (hand_number hand) start (seen_by hand) ≡ judgements_of part.store
  own-judgements-are =
      let on = stored-on laws shared script upto start was is hands run hand part in
      ap (λ log. filter (λ (j : Judgement). j.author == hand_number hand) (judgements_of log))
      (ap (drop (length start.store)) on.1 ∙ drop-append_seam start.store on.0)
      ∙ judged-by-author (hand_number hand) on.0
      ∙ ap judgements_of (own-stored laws shared script upto start was is hands run hand part)

  -- an entry of the hand since the start is of its part
  pub own-entry : (home : ℕ) (before : List GateEntry) (entry : GateEntry) (after : List GateEntry) → gate_log (seen_by hand) home ≡ before ++ entry ∷ after
      → IsOwn (hand_number hand) (gate_log start home) before entry.author → Contains (part.gates home) entry
  own-entry home before entry after at own =
      let on = seen-on laws shared script upto start was is hands run hand part home in
      let back = in-back (gate_log start home) on.0 before after entry (sym on.1 ∙ at) own.1 in
      subst (λ (l : List GateEntry). Contains l entry) (own-since laws shared script upto start was is hands run hand part home)
      (has_filter (λ (e : GateEntry). e.author == hand_number hand) on.0 entry
      (subst (λ (l : List GateEntry). Contains l entry) (sym back.2) (has_cut back.0 entry after))
      (eq-eqb entry.author (hand_number hand) own.0))
