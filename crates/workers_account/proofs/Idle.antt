-- At the start of a phase no transaction of a hand is in flight.
-- Used by `split_clients_are_ready` and ReadyClients.
use Rattle.std.proofs.Common.{◌≡◌, ℕ, ◌==◌, Bool, true, false, cond, List, [], ◌∷◌, ◌++◌, append_assoc, fold, Contains, IsTrue, Option, None, Some, refl, sym, ap, subst, ◌∙◌, eq-eqb}
use Rattle.std.specs.List.{filter}
use Rattle.std.proofs.lemmas.Bool.{both_ways, eqb-true}
use Rattle.std.proofs.lemmas.List.Elements.{filter-append}
use Rattle.std.proofs.lemmas.List.Sums.{fold-append}
use Rattle.std.proofs.lemmas.Option.{none-some, same_Some}
use Rattle.weave_data.proofs.Ends.{by_last}
use Rattle.weave_data.proofs.Members.{filter_has, flat_has, has_flat}
use Rattle.program_defs.specs.declared.script.Script.{Script}
use Rattle.weave_entries.specs.declared.gate_log.GateDeed.{GateDeed}
use Rattle.weave_entries.specs.declared.gate_log.GateDeed.TheVariants.{BeganTx, BeganProgram, Sent, Nop, Heard, Raised, Finished}
use Rattle.weave_entries.specs.declared.gate_log.GateEntry.{GateEntry}
use Rattle.weave_entries.specs.GateReplay.{BegunRequest, begun_by, begun_in, flight_after, flight_of}
use Rattle.weave_entries.specs.GateRules.{FitsAs, IsGateLog}
use Rattle.weave_account.specs.declared.account.Account.{Account}
use Rattle.weave_account.specs.Account.{gate_log}
use Rattle.seen_logs.specs.Seen.{without_sessions}
use Rattle.weaver_core.specs.declared.client.Client.{Client}
use Rattle.weaver_locks.specs.declared.hand.Hand.{Hand}
use Rattle.weaver_locks.specs.declared.shared.Shared.{Shared}
use Rattle.weaver_locks.specs.Hands.{hand_number, made_by, seen_by, IsHand}
use Rattle.weaver_locks.specs.Locks.{start_of}
use Rattle.weaver_workers.specs.Keeping.{HasLanded}
use Rattle.workers_account.specs.Phase.{IsPhaseStart}
use Rattle.workers_account.specs.PhaseLaws.{PhaseLaws}

-- One author's transaction in flight

module _ (number home shards : ℕ) where
  abbrev by-author : GateEntry → Bool
  by-author = λ (entry : GateEntry). entry.author == number

  abbrev step : Option BegunRequest → GateEntry → Option BegunRequest
  step flight entry = flight_after flight entry.author entry.deed

  -- what is in flight first is in flight second, too, and is the author's
  abbrev AlsoFlies : Option BegunRequest → Option BegunRequest → Type 0
  AlsoFlies part whole = (flight : BegunRequest) → part ≡ Some flight → (whole ≡ Some flight) × (flight.author ≡ number)

  -- after an entry of the author
  own-entry : (author : ℕ) (deed : GateDeed) (part whole : Option BegunRequest) → author ≡ number → AlsoFlies part whole
      → AlsoFlies (flight_after part author deed) (flight_after whole author deed)
  own-entry author (BeganTx request stamp) part whole mine also = λ flight is. (
    is,
    sym (ap (λ (b : BegunRequest). b.author) (same_Some (record { author = author; request = request; stamp = stamp }) flight is)) ∙ mine,
  )
  own-entry author (Sent request messages) part whole mine also = λ flight is. absurd (none-some flight is)
  own-entry author (BeganProgram request stamp) part whole mine also = also
  own-entry author (Nop shard at stamp low) part whole mine also = also
  own-entry author (Heard clock) part whole mine also = also
  own-entry author (Raised epoch) part whole mine also = also
  own-entry author (Finished request) part whole mine also = also

  -- after an entry of another one, which is right after these ones
  other-entry : (before : List GateEntry) (author : ℕ) (deed : GateDeed) → FitsAs home shards before author deed → (author == number) ≡ false
      → (part : Option BegunRequest) → AlsoFlies part (flight_of before) → AlsoFlies part (flight_after (flight_of before) author deed)
  other-entry before author (BeganTx request stamp) fits other part also = λ flight is.
      absurd (none-some flight (sym fits.alone ∙ (also flight is).0))
  other-entry before author (Sent request messages) fits other part also = λ flight is.
      (let flies = also flight is in
      absurd (both_ways (author == number) other (eq-eqb author number
      (ap (λ (b : BegunRequest). b.author) (same_Some (record { author = author; request = request; stamp = fits.stamp }) flight (sym fits.flight ∙ flies.0)) ∙ flies.1))))
  other-entry before author (BeganProgram request stamp) fits other part also = also
  other-entry before author (Nop shard at stamp low) fits other part also = also
  other-entry before author (Heard clock) fits other part also = also
  other-entry before author (Raised epoch) fits other part also = also
  other-entry before author (Finished request) fits other part also = also

  -- after one entry more
  one-more : (before : List GateEntry) (entry : GateEntry) → FitsAs home shards before entry.author entry.deed
      → AlsoFlies (flight_of (filter by-author before)) (flight_of before)
      → AlsoFlies (flight_of (filter by-author (before ++ entry ∷ []))) (flight_of (before ++ entry ∷ []))
  one-more before entry fits also =
      subst (λ (o : Option BegunRequest). AlsoFlies o (flight_of (before ++ entry ∷ [])))
      (sym (ap (λ (log : List GateEntry). flight_of log) (filter-append by-author before (entry ∷ []))
      ∙ fold-append step None (filter by-author before) (filter by-author (entry ∷ []))))
      (subst (λ (o : Option BegunRequest). AlsoFlies (fold step (flight_of (filter by-author before)) (filter by-author (entry ∷ []))) o)
      (sym (fold-append step None before (entry ∷ []))) (at (by-author entry) refl))
    where
      at : (b : Bool) → by-author entry ≡ b
          → AlsoFlies (fold step (flight_of (filter by-author before)) (cond b (entry ∷ []) [])) (step (flight_of before) entry)
      at true is = own-entry entry.author entry.deed (flight_of (filter by-author before)) (flight_of before) (eqb-true entry.author number is) also
      at false is = other-entry before entry.author entry.deed fits is (flight_of (filter by-author before)) also

  -- what is in flight by the entries of one author alone is in flight
  also-flies : (log : List GateEntry) → IsGateLog home shards log → AlsoFlies (flight_of (filter by-author log)) (flight_of log)
  also-flies = by_last (λ log. IsGateLog home shards log → AlsoFlies (flight_of (filter by-author log)) (flight_of log))
      (λ rules flight is. absurd (none-some flight is))
      (λ log entry so_far rules. one-more log entry (rules log entry [] refl)
      (so_far (λ before e after at. rules before e (after ++ entry ∷ []) (ap (λ l. l ++ entry ∷ []) at ∙ append_assoc before (e ∷ after) (entry ∷ [])))))

  -- so if none is in flight, none is by the entries of one author
  none-of-author : (log : List GateEntry) → IsGateLog home shards log → flight_of log ≡ None → flight_of (filter by-author log) ≡ None
  none-of-author log rules none = by (flight_of (filter by-author log)) refl
    where
      by : (o : Option BegunRequest) → flight_of (filter by-author log) ≡ o → flight_of (filter by-author log) ≡ None
      by None is = is
      by (Some flight) is = absurd (none-some flight (sym none ∙ (also-flies log rules flight is).0))

-- The start of a phase

module _ (laws : PhaseLaws) (script : Script) (start : Account) (shared : Shared) (clients : List Client)
    (at-start : IsPhaseStart script start shared clients) (hand : Hand) (is_hand : IsHand shared hand)
    (seen : seen_by hand ≡ start_of shared) where
  abbrev own : GateEntry → Bool
  own = λ (entry : GateEntry). entry.author == hand_number hand

  -- the hand has seen the logs of the start
  pub seen-is : seen_by hand ≡ without_sessions start
  seen-is = seen ∙ at-start.start_is

  -- what it made at a gatekeeper is the entries there with its number
  made-is : (home : ℕ) → gate_log (made_by hand) home ≡ filter own (gate_log start home)
  made-is home = laws.own_at_gate shared hand is_hand home ∙ ap (λ (a : Account). filter own (gate_log a home)) seen-is

  -- what the hand made at a gatekeeper was there at the start, with its number
  pub made-there : (home : ℕ) (entry : GateEntry) → Contains (gate_log (made_by hand) home) entry
      → Contains (gate_log start home) entry × IsTrue (own entry)
  made-there home entry h =
      filter_has own (gate_log start home) entry (subst (λ (l : List GateEntry). Contains l entry) (made-is home) h)

  -- what the hand began was begun at the start
  pub begun-there : (home : ℕ) (begun : BegunRequest) → Contains (begun_in (gate_log (made_by hand) home)) begun
      → Contains (begun_in (gate_log start home)) begun
  begun-there home begun h =
      let from = flat_has (λ (e : GateEntry). begun_by e.author e.deed) (gate_log (made_by hand) home) begun h in
      has_flat (λ (e : GateEntry). begun_by e.author e.deed) (gate_log start home) from.0 begun (made-there home from.0 from.1).0 from.2

  -- no transaction of the hand is in flight
  pub landed : HasLanded hand
  landed home =
      ap (λ (log : List GateEntry). flight_of log) (made-is home)
      ∙ none-of-author (hand_number hand) home script.shards (gate_log start home) (at-start.is_account.gatekeepers.logs home) (at-start.landed home)
