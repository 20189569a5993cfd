-- Which gatekeepers have heard, in a phase, of a program that a hand began in it.
-- Used by HowFar.
use Rattle.std.proofs.Common.{◌≡◌, ℕ, List, [], ◌∷◌, ◌++◌, Contains, ◌⊎◌, inl, inr, refl, sym, subst}
use Rattle.program_defs.specs.declared.script.Script.{Script}
use Rattle.weave_entries.specs.declared.gate_log.GateEntry.{GateEntry}
use Rattle.weave_entries.specs.GateReplay.{BegunRequest, program_by, programs_of}
use Rattle.weave_entries.proofs.OwnStamps.{program-begun}
use Rattle.weave_account.specs.declared.account.Account.{Account}
use Rattle.weave_account.specs.Account.{gate_log}
use Rattle.weave_account.specs.GoesOn.{IsBeginningOf}
use Rattle.weave_account.proofs.GoesOn.{flat-on, has-on, onward}
use Rattle.seen_logs.specs.Seen.{entries_since}
use Rattle.weaver_core.specs.declared.client.Client.{Client}
use Rattle.weaver_core.specs.declared.walks.Running.{Running}
use Rattle.weaver_locks.specs.declared.hand.Hand.{Hand}
use Rattle.weaver_locks.specs.declared.shared.Shared.{Shared}
use Rattle.weaver_locks.specs.Hands.{hand_number, seen_by}
use Rattle.weaver_workers.specs.ClientWork.{HasHeardOf}
use Rattle.workers_account.specs.Phase.{IsClosedBy, IsPhaseRun}
use Rattle.workers_account.specs.PhaseLaws.{PhaseLaws}
use Rattle.workers_account.specs.SessionRuns.{HeardOfProgram}
use Rattle.workers_account.proofs.Begun.{all-has}
use Rattle.workers_account.proofs.Follows.{begun-new}
use Rattle.workers_account.proofs.Parts.{Part, part-of, seen-on}
use Rattle.workers_account.proofs.SinceStart.{seen-closed}
use Rattle.workers_account.proofs.Visited.{since-part}

-- of two beginnings of a list one begins the other
either-begins : {A : Type 0} (xs ys zs : List A) → IsBeginningOf xs zs → IsBeginningOf ys zs → IsBeginningOf xs ys ⊎ IsBeginningOf ys xs
either-begins [] ys zs first second = inl (ys, refl)
either-begins (x ∷ xs) [] zs first second = inr (x ∷ xs, refl)
either-begins (x ∷ xs) (y ∷ ys) [] first second = absurd (let none : [] ≡ x ∷ (xs ++ first.0) = first.1 in cc)
either-begins (x ∷ xs) (y ∷ ys) (z ∷ zs) first second =
    let one : z ∷ zs ≡ x ∷ (xs ++ first.0) = first.1 in
    let two : z ∷ zs ≡ y ∷ (ys ++ second.0) = second.1 in
    let heads : x ≡ y = cc in
    let left : zs ≡ xs ++ first.0 = cc in
    let right : zs ≡ ys ++ second.0 = cc in
    elim (either-begins xs ys zs (first.0, left) (second.0, right)) [
      | inl on ↦ inl (on.0, λ i. sym heads i ∷ on.1 i)
      | inr back ↦ inr (back.0, λ i. heads i ∷ back.1 i)
    ]

module _ (laws : PhaseLaws) (shared : Shared) (script : Script) (upto : ℕ) (start : Account) (was is : List Client)
    (hands : List Hand) (run : IsPhaseRun shared script upto start was is hands) (closed : Account)
    (end : IsClosedBy shared script start is hands closed) (hand : Hand) (h : Contains hands hand) (one : Running)
    (began : Contains (programs_of (entries_since (gate_log start one.stamp.home) (gate_log (seen_by hand) one.stamp.home)))
    (record { author = hand_number hand; request = one.request; stamp = one.stamp })) where
  abbrev begun : BegunRequest
  begun = record { author = hand_number hand; request = one.request; stamp = one.stamp }

  abbrev home : ℕ
  home = one.stamp.home

  abbrev part : Part shared script upto was is run.hand_of hand
  part = part-of laws shared script upto start was is hands run hand h

  -- the program had not been begun at the start
  not-early : Contains (programs_of (gate_log start home)) begun → ⊥
  not-early early =
      begun-new laws shared script upto start was is hands run closed end hand h home begun
      (since-part laws shared script upto start was is hands run closed end hand h home one.request one.stamp began)
      begun (all-has start home begun (program-begun (gate_log start home) begun early)) refl

  module _ (gate : ℕ) (heard : HasHeardOf shared hand one gate) where
    abbrev said : List GateEntry
    said = heard.said

    -- what the home had said goes on from the start
    since-start : IsBeginningOf (gate_log start home) said
    since-start =
        elim (either-begins (gate_log start home) said (gate_log (seen_by hand) home)
        (seen-on laws shared script upto start was is hands run hand part home) heard.seen) [
          | inl on ↦ on
          | inr back ↦ absurd (not-early (has-on (programs_of said) (programs_of (gate_log start home))
              (flat-on (λ (e : GateEntry). program_by e.author e.deed) said (gate_log start home) back) begun heard.after))
        ]

    -- the gatekeeper heard the clock in the phase
    heard-since : Contains (entries_since (gate_log start gate) (gate_log closed gate)) heard.told.entry
    heard-since = seen-closed laws shared script upto start was is hands run closed end hand h gate heard.told.entry
        (subst (λ (a : Account). Contains (entries_since (gate_log a gate) (gate_log (seen_by hand) gate)) heard.told.entry)
        run.at_start.start_is heard.since)

    -- so it has heard of the program
    pub heard-of : HeardOfProgram start closed begun gate
    heard-of = record {
      said = said;
      between = record {
        since = since-start;
        until = onward said (gate_log (seen_by hand) home) (gate_log closed home) heard.seen ((end.within hand h).gates home);
      };
      after = heard.after;
      entry = heard.told.entry;
      deed = heard.told.deed;
      heard = heard-since;
    }
