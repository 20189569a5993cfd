-- What a hand's own logs are after a transaction, and after one entry at a gatekeeper.
-- Used by Kept.
use Rattle.std.proofs.Common.{◌≡◌, ◌≢◌, inl, inr, ℕ, ◌<◌, List, [], ◌∷◌, ◌++◌, length, Contains, Option, refl, sym, ap, ◌∙◌, subst}
use Rattle.std.proofs.lemmas.Bool.{cases_eq}
use Rattle.std.proofs.lemmas.List.Concat.{flat_map-append}
use Rattle.std.proofs.lemmas.List.Elements.{Contains-append_left, Contains-append_right}
use Rattle.weave_data.proofs.Members.{has_last}
use Rattle.graph_ops.specs.declared.op.Op.{Op}
use Rattle.vector_stamp.specs.declared.clock.Stamp.{Stamp}
use Rattle.weave_entries.specs.declared.gate_log.GateDeed.{GateDeed}
use Rattle.weave_entries.specs.declared.gate_log.GateDeed.TheVariants.{BeganTx, Sent}
use Rattle.weave_entries.specs.declared.gate_log.GateEntry.{GateEntry}
use Rattle.weave_entries.specs.declared.message.Addressed.{Addressed}
use Rattle.weave_entries.specs.declared.verdict.Verdict.{Verdict}
use Rattle.weave_entries.specs.GateReplay.{BegunRequest, begun_by, begun_in}
use Rattle.weave_entries.specs.Sending.{messages_of}
use Rattle.weave_account.specs.declared.account.Account.{Account}
use Rattle.weave_account.specs.Account.{gate_log}
use Rattle.weaver_locks.specs.declared.hand.Hand.{Hand}
use Rattle.weaver_locks.specs.declared.shared.Shared.{Shared}
use Rattle.weaver_locks.specs.Following.{MayHear}
use Rattle.weaver_locks.specs.GateHolds.{gate_entry_by, WasAtGate}
use Rattle.weaver_locks.specs.Hands.{hand_number, made_by, IsHand}
use Rattle.weaver_locks.specs.Locks.{gate_count}
use Rattle.weaver_hands.specs.Transactions.{Transacts}
use Rattle.weaver_workers.specs.Keeping.{HasLanded}
use Rattle.weaver_workers.proofs.Landed.{landed-on, landed-sent, BeginNoTx, LandedIn}
use Rattle.weaver_workers.proofs.Rows.{as-many, gone-on, own-logs, still}

-- One entry at a gatekeeper

module _ {shards : ℕ} (shared : Shared) (old new : Hand) (is : IsHand shared old) (gate : ℕ) (low : gate < gate_count shared)
    (before : List GateEntry) (deed : GateDeed) (was : WasAtGate shards old new gate before (gate_entry_by old deed ∷ [])) where
  -- the hand's own log at the gatekeeper has one entry more
  pub log-with : gate_log (made_by new) gate ≡ gate_log (made_by old) gate ++ gate_entry_by old deed ∷ []
  log-with = ap (λ (a : Account). gate_log a gate) was.made
      ∙ gone-on (made_by old) gate (gate_entry_by old deed ∷ []) (subst (λ (n : ℕ). gate < n) (sym (own-logs shared old is)) low)

  -- its own log at any other gatekeeper is as it was
  pub log-still : (home : ℕ) → home ≢ gate → gate_log (made_by new) home ≡ gate_log (made_by old) home
  log-still home other = ap (λ (a : Account). gate_log a home) was.made ∙ still (made_by old) gate home (gate_entry_by old deed ∷ []) other

  -- a log that is as it was, or has the entry more
  pub each-log : (P : List GateEntry → Type 0) → ((home : ℕ) → P (gate_log (made_by old) home))
      → P (gate_log (made_by old) gate ++ gate_entry_by old deed ∷ []) → (home : ℕ) → P (gate_log (made_by new) home)
  each-log P all one home = elim (cases_eq home gate) [
    | inl same ↦ subst P (sym (ap (gate_log (made_by new)) same ∙ log-with)) one
    | inr other ↦ subst P (sym (log-still home other)) (all home)
  ]

  -- if it begins no transaction, none is in flight after it
  pub landed-with : BeginNoTx (gate_entry_by old deed ∷ []) → HasLanded old → HasLanded new
  landed-with none landed = each-log LandedIn landed
      (landed-on (gate_log (made_by old) gate) (gate_entry_by old deed ∷ []) (landed gate) none)

  -- what may be heard may be heard
  pub heard-on : (stamp : Stamp) → MayHear shared old stamp → MayHear shared new stamp
  heard-on stamp may = record {
    home = may.home;
    begun = may.begun;
    stamp_is = may.stamp_is;
    there = elim may.there [
      | inl mine ↦ inl (elim (cases_eq may.home gate) [
        | inl same ↦ subst (λ (l : List GateEntry). Contains (begun_in l) may.begun) (sym (ap (gate_log (made_by new)) same ∙ log-with))
            (begun-on (gate_log (made_by old) gate) (gate_entry_by old deed ∷ []) may.begun
            (subst (λ (k : ℕ). Contains (begun_in (gate_log (made_by old) k)) may.begun) same mine))
        | inr other ↦ subst (λ (l : List GateEntry). Contains (begun_in l) may.begun) (sym (log-still may.home other)) mine
      ])
      | inr first ↦ inr first
    ];
  }
    where
      begun-on : (log added : List GateEntry) (begun : BegunRequest) → Contains (begun_in log) begun → Contains (begun_in (log ++ added)) begun
      begun-on log added begun h = subst (λ (l : List BegunRequest). Contains l begun) (sym (flat_map-append (λ (e : GateEntry). begun_by e.author e.deed) log added))
          (Contains-append_left (begun_in log) (begun_in added) begun h)

  -- the stamp of a request that the hand's deed began may be heard
  pub heard-now : (begun : BegunRequest) → begun_by (hand_number old) deed ≡ begun ∷ [] → MayHear shared new begun.stamp
  heard-now begun is_begun = record {
    home = gate;
    begun = begun;
    stamp_is = refl;
    there = inl (subst (λ (l : List GateEntry). Contains (begun_in l) begun) (sym log-with)
        (subst (λ (l : List BegunRequest). Contains l begun)
        (sym (flat_map-append (λ (e : GateEntry). begun_by e.author e.deed) (gate_log (made_by old) gate) (gate_entry_by old deed ∷ [])))
        (Contains-append_right (begun_in (gate_log (made_by old) gate)) (begun_in (gate_entry_by old deed ∷ [])) begun
        (subst (λ (l : List BegunRequest). Contains (l ++ []) begun) (sym is_begun) (has_last [] begun)))));
  }

-- A transaction

module _ {shards : ℕ} (shared : Shared) (old new : Hand) (is : IsHand shared old) (gate r : ℕ) (low : gate < gate_count shared) (ops : List Op)
    (last : Option Stamp) (stamp : Stamp) (verdict : Verdict) (did : Transacts shards old new gate r ops last stamp verdict) where
  abbrev began : GateEntry
  began = gate_entry_by old (BeganTx r stamp)

  abbrev messages : List Addressed
  messages = messages_of shards did.flying did.sends.flight ops verdict

  abbrev sent : ℕ → GateEntry
  sent q = gate_entry_by did.judged (Sent q messages)

  low-judged : gate < length (made_by did.judged).gates
  low-judged = subst (λ (n : ℕ). gate < n)
      (sym (own-logs shared old is) ∙ sym (as-many (made_by old) gate (began ∷ []))
      ∙ sym (ap (λ (a : Account). length a.gates) did.begins.made)
      ∙ sym (ap (λ (a : Account). length a.gates) did.judges.was.made)) low

  -- after a transaction the hand's own log at the gatekeeper has two entries more: the begin and the sending
  pub log-after : gate_log (made_by new) gate ≡ (gate_log (made_by old) gate ++ began ∷ []) ++ sent r ∷ []
  log-after = ap (λ (a : Account). gate_log a gate) did.sends.was.made
      ∙ gone-on (made_by did.judged) gate (sent did.sends.flight.request ∷ []) low-judged
      ∙ ap (λ (l : List GateEntry). l ++ sent did.sends.flight.request ∷ [])
      (ap (λ (a : Account). gate_log a gate) did.judges.was.made
      ∙ log-with shared old did.begun is gate low did.before (BeganTx r stamp) did.begins)
      ∙ ap (λ (q : ℕ). (gate_log (made_by old) gate ++ began ∷ []) ++ sent q ∷ []) (ap (λ (b : BegunRequest). b.request) did.flight_is)

  -- its own log at any other gatekeeper is as it was
  pub log-else : (home : ℕ) → home ≢ gate → gate_log (made_by new) home ≡ gate_log (made_by old) home
  log-else home other = ap (λ (a : Account). gate_log a home) did.sends.was.made
      ∙ still (made_by did.judged) gate home (sent did.sends.flight.request ∷ []) other
      ∙ ap (λ (a : Account). gate_log a home) did.judges.was.made
      ∙ log-still shared old did.begun is gate low did.before (BeganTx r stamp) did.begins home other

  -- if no transaction of the hand was in flight, none is after this one
  pub landed-after : HasLanded old → HasLanded new
  landed-after landed home = elim (cases_eq home gate) [
    | inl same ↦ subst LandedIn (sym (ap (gate_log (made_by new)) same ∙ log-after))
        (landed-sent (gate_log (made_by old) gate ++ began ∷ []) (hand_number did.judged) r messages)
    | inr other ↦ subst LandedIn (sym (log-else home other)) (landed home)
  ]

  -- after it the hand may let gatekeepers hear the stamp of this transaction
  pub heard-after : MayHear shared new stamp
  heard-after = record {
    home = gate;
    begun = record { author = hand_number old; request = r; stamp = stamp };
    stamp_is = refl;
    there = inl (subst (λ (l : List GateEntry). Contains (begun_in l) one) (sym log-after)
        (subst (λ (l : List BegunRequest). Contains l one)
        (sym (flat_map-append by (gate_log (made_by old) gate ++ began ∷ []) (sent r ∷ [])))
        (Contains-append_left (begun_in (gate_log (made_by old) gate ++ began ∷ [])) (begun_in (sent r ∷ [])) one
        (subst (λ (l : List BegunRequest). Contains l one) (sym (flat_map-append by (gate_log (made_by old) gate) (began ∷ [])))
        (has_last (begun_in (gate_log (made_by old) gate)) one)))));
  }
    where
      one : BegunRequest
      one = record { author = hand_number old; request = r; stamp = stamp }

      by : GateEntry → List BegunRequest
      by e = begun_by e.author e.deed
