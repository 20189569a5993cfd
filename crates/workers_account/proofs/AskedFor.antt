-- A client's worker asks the oracle for no requests but those that its hand began since the start.
-- Used by `workers_follow_their_sessions`.
use Rattle.std.proofs.Common.{◌≡◌, ℕ, List, [], ◌∷◌, ◌++◌, length, drop, map, Contains, inl, inr, refl, sym, ap, subst, ◌∙◌, append_assoc}
use Rattle.std.proofs.lemmas.List.{append-nil, append_cancel_left}
use Rattle.std.proofs.lemmas.List.Elements.{Contains-append_cases, Contains-append_right}
use Rattle.std.proofs.Math.Seq.{drop-append_seam}
use Rattle.weave_data.proofs.Members.{flat_has, has_flat, has_head, has_none, map_has, only}
use Rattle.vector_stamp.specs.declared.clock.Stamp.{Stamp}
use Rattle.vector_stamp.specs.Precedence.{GivenPair}
use Rattle.vector_stamp.specs.Settling.{SettledEntry, entries_of_call}
use Rattle.program_defs.specs.declared.script.Script.{Script}
use Rattle.weave_entries.specs.declared.gate_log.GateEntry.{GateEntry}
use Rattle.weave_entries.specs.declared.gate_log.GateDeed.TheVariants.{BeganTx}
use Rattle.weave_entries.specs.declared.oracle_log.OracleEntry.{OracleEntry}
use Rattle.weave_entries.specs.declared.verdict.Verdict.{Verdict}
use Rattle.weave_entries.specs.declared.verdict.Verdict.TheVariants.{Committed, Conflict, Refused}
use Rattle.weave_entries.specs.GateReplay.{BegunRequest, begun_by, begun_in}
use Rattle.weave_entries.specs.OracleReplay.{oracle_entry_of, pairs_of_log, settled_entry}
use Rattle.weave_entries.specs.ShardRules.{entries_of_visit}
use Rattle.weave_entries.proofs.OwnStamps.{program-begun}
use Rattle.backing_store.specs.Commits.{asked_at, entries_added}
use Rattle.weave_account.specs.declared.account.Account.{Account}
use Rattle.weave_account.specs.Account.{gate_log}
use Rattle.weave_account.specs.GoesOn.{IsBeginningOf}
use Rattle.weave_account.proofs.GoesOn.{whole, onward, has-on}
use Rattle.seen_logs.specs.Seen.{entries_since}
use Rattle.weaver_locks.specs.declared.hand.Hand.{Hand}
use Rattle.weaver_locks.specs.declared.shared.Shared.{Shared}
use Rattle.weaver_locks.specs.GateHolds.{gate_entry_by}
use Rattle.weaver_locks.specs.Hands.{hand_number, made_by, seen_by, IsHand}
use Rattle.weaver_locks.specs.Locks.{start_of}
use Rattle.weaver_workers.specs.ClientWork.{DoesOneCall, DoesChange, DoesVisit, Goes, Stand}
use Rattle.weaver_workers.specs.Keeping.{KeepsClient}
use Rattle.workers_account.specs.Asked.{AsksForOwn, IsBegunSince}

-- what a log has past its start, and what one that goes on has
since-more : {E : Type 0} (start a b : List E) → IsBeginningOf start a → IsBeginningOf a b → IsBeginningOf (entries_since start a) (entries_since start b)
since-more start a b first second = (
  second.0,
  ap (drop (length start)) (second.1 ∙ ap (λ l. l ++ second.0) first.1 ∙ append_assoc start first.0 second.0)
      ∙ drop-append_seam start (first.0 ++ second.0)
      ∙ ap (λ l. l ++ second.0) (sym (ap (drop (length start)) first.1 ∙ drop-append_seam start first.0)),
)

-- what began in a log began in one that goes on
begun-further : (log next : List GateEntry) → IsBeginningOf log next → (begun : BegunRequest) → Contains (begun_in log) begun → Contains (begun_in next) begun
begun-further log next on begun h =
    let from = flat_has (λ (e : GateEntry). begun_by e.author e.deed) log begun h in
    has_flat (λ (e : GateEntry). begun_by e.author e.deed) next from.0 begun (has-on log next on from.0 from.1) from.2

-- an entry that a judge is asked for has the later event
call-later : (author : ℕ) (earlier : List Stamp) (later : Stamp) (places : List ℕ) (entry : SettledEntry)
    → Contains (entries_of_call author earlier later places) entry → entry.later ≡ later
call-later author earlier later [] entry h = absurd (has_none entry h)
call-later author earlier later (place ∷ places) entry h =
    sym (ap (λ (e : SettledEntry). e.later) (only (record { author = author; earlier = earlier; later = later; places = place ∷ places }) entry h))

mapped-later : (entries : List SettledEntry) (later : Stamp) → ((entry : SettledEntry) → Contains entries entry → entry.later ≡ later)
    → (entry : OracleEntry) → Contains (map oracle_entry_of entries) entry → (settled_entry entry).later ≡ later
mapped-later entries later each entry h =
    let from = map_has oracle_entry_of entries entry h in
    sym (ap (λ (e : OracleEntry). (settled_entry e).later) from.2) ∙ each from.0 from.1

module _ (shared : Shared) where
  -- what was begun since the start stays so
  begun-stays : (old new : Hand) → IsHand shared old → hand_number new ≡ hand_number old → ((home : ℕ) → IsBeginningOf (gate_log (seen_by old) home) (gate_log (seen_by new) home))
      → (stamp : Stamp) → IsBegunSince shared old stamp → IsBegunSince shared new stamp
  begun-stays old new is_old same more stamp begun = record {
    home = begun.home;
    begun = begun.begun;
    there = begun-further (entries_since (gate_log (start_of shared) begun.home) (gate_log (seen_by old) begun.home)) (entries_since (gate_log (start_of shared) begun.home) (gate_log (seen_by new) begun.home))
        (since-more (gate_log (start_of shared) begun.home) (gate_log (seen_by old) begun.home) (gate_log (seen_by new) begun.home) (is_old.seen.starts.gates begun.home) (more begun.home))
        begun.begun begun.there;
    own = begun.own ∙ sym same;
    stamp_is = begun.stamp_is;
  }

  -- One thing done

  -- what was asked in it, for requests that the hand had begun by then
  record Asks (old new : Stand) : Type 0 where
    number_is : hand_number new.hand ≡ hand_number old.hand
    more : (home : ℕ) → IsBeginningOf (gate_log (seen_by old.hand) home) (gate_log (seen_by new.hand) home)
    gained : List OracleEntry
    made : (made_by new.hand).oracle ≡ (made_by old.hand).oracle ++ gained
    each : (entry : OracleEntry) → Contains gained entry → IsBegunSince shared new.hand (settled_entry entry).later

  asks-none : (old new : Stand) → hand_number new.hand ≡ hand_number old.hand → ((home : ℕ) → IsBeginningOf (gate_log (seen_by old.hand) home) (gate_log (seen_by new.hand) home))
      → (made_by new.hand).oracle ≡ (made_by old.hand).oracle → Asks old new
  asks-none old new number more same = record {
    number_is = number;
    more = more;
    gained = [];
    made = same ∙ sym (append-nil (made_by old.hand).oracle);
    each = λ entry h. absurd (has_none entry h);
  }

  module _ (script : Script) (number upto : ℕ) (old new : Stand) (keeps : KeepsClient shared script number old.hand old.client) where
    asks-change : DoesChange shared script number upto old new → Asks old new
    asks-change did =
        let does = did.transacts in
        let gate = did.asked.gate in
        let hand = old.hand in
        let begun : BegunRequest = record { author = hand_number hand; request = did.r; stamp = did.stamp } in
        let entry = gate_entry_by hand (BeganTx did.r did.stamp) in
        let before : IsBeginningOf (gate_log (start_of shared) gate) does.before =
        onward (gate_log (start_of shared) gate) (gate_log (seen_by hand) gate) does.before (keeps.is_hand.seen.starts.gates gate) does.begins.found in
        let first : gate_log (seen_by does.begun) gate ≡ gate_log (start_of shared) gate ++ (before.0 ++ entry ∷ []) =
        does.begins.left ∙ ap (λ l. l ++ entry ∷ []) before.1 ∙ append_assoc (gate_log (start_of shared) gate) before.0 (entry ∷ []) in
        let then_seen = onward (gate_log (seen_by does.begun) gate) (gate_log (seen_by does.judged) gate) (gate_log (seen_by new.hand) gate)
        (does.judges.was.more.gates gate) (does.sends.was.more.gates gate) in
        let number_is = does.sends.was.number ∙ does.judges.was.number ∙ does.begins.number in
        let all : IsBeginningOf (entries_since (gate_log (start_of shared) gate) (gate_log (seen_by does.begun) gate)) (entries_since (gate_log (start_of shared) gate) (gate_log (seen_by new.hand) gate)) =
        since-more (gate_log (start_of shared) gate) (gate_log (seen_by does.begun) gate) (gate_log (seen_by new.hand) gate) (before.0 ++ entry ∷ [], first) then_seen in
        let here : entries_since (gate_log (start_of shared) gate) (gate_log (seen_by does.begun) gate) ≡ before.0 ++ entry ∷ [] =
        ap (drop (length (gate_log (start_of shared) gate))) first ∙ drop-append_seam (gate_log (start_of shared) gate) (before.0 ++ entry ∷ []) in
        let since_then : IsBegunSince shared new.hand did.stamp = record {
          home = gate;
          begun = begun;
          there = begun-further _ _ all begun
              (subst (λ (l : List GateEntry). Contains (begun_in l) begun) (sym here)
              (has_flat (λ (e : GateEntry). begun_by e.author e.deed) (before.0 ++ entry ∷ []) entry begun (Contains-append_right before.0 (entry ∷ []) entry (has_head entry [])) (has_head begun [])));
          own = sym number_is;
          stamp_is = refl;
        } in
        record {
          number_is = number_is;
          more = λ home. onward (gate_log (seen_by hand) home) (gate_log (seen_by does.begun) home) (gate_log (seen_by new.hand) home) (does.begins.more.gates home)
              (onward (gate_log (seen_by does.begun) home) (gate_log (seen_by does.judged) home) (gate_log (seen_by new.hand) home) (does.judges.was.more.gates home) (does.sends.was.more.gates home));
          gained = map oracle_entry_of (entries_added did.verdict (hand_number does.begun) (pairs_of_log does.judges.settled) (asked_at does.judges.before did.stamp did.ops) did.stamp);
          made = ap (λ (a : Account). a.oracle) does.sends.was.made ∙ ap (λ (a : Account). a.oracle) does.judges.was.made
              ∙ ap (λ (a : Account). a.oracle ++ map oracle_entry_of (entries_added did.verdict (hand_number does.begun) (pairs_of_log does.judges.settled) (asked_at does.judges.before did.stamp did.ops) did.stamp)) does.begins.made;
          each = λ e h. subst (IsBegunSince shared new.hand)
              (sym (mapped-later (entries_added did.verdict (hand_number does.begun) (pairs_of_log does.judges.settled) (asked_at does.judges.before did.stamp did.ops) did.stamp) did.stamp
              (added-later did.verdict (hand_number does.begun) (asked_at does.judges.before did.stamp did.ops) did.stamp _) e h))
              since_then;
        }
      where
        added-later : (verdict : Verdict) (author : ℕ) (earlier : List Stamp) (later : Stamp) (pairs : List GivenPair) (entry : SettledEntry)
            → Contains (entries_added verdict author pairs earlier later) entry → entry.later ≡ later
        added-later (Committed n answers counts) author earlier later pairs entry h = call-later author earlier later _ entry h
        added-later (Conflict v newer) author earlier later pairs entry h = absurd (has_none entry h)
        added-later (Refused op reason at) author earlier later pairs entry h = absurd (has_none entry h)

    asks-visit : DoesVisit shared old new → Asks old new
    asks-visit did =
        let visits = did.visits.visits in
        let one = did.before in
        let runs = (keeps.running one did.before_is).runs in
        let home = one.stamp.home in
        let begun : BegunRequest = record { author = hand_number old.hand; request = one.request; stamp = one.stamp } in
        let was : IsBegunSince shared old.hand one.stamp = record {
          home = home;
          begun = begun;
          there = program-begun (entries_since (gate_log (start_of shared) home) (gate_log (seen_by old.hand) home)) begun runs.begun;
          own = refl;
          stamp_is = refl;
        } in
        record {
          number_is = visits.was.number;
          more = visits.was.more.gates;
          gained = map oracle_entry_of (entries_of_visit (pairs_of_log visits.settled) (hand_number old.hand) one.stamp did.visits.vertex visits.before);
          made = ap (λ (a : Account). a.oracle) visits.was.made;
          each = λ e h. subst (IsBegunSince shared new.hand)
              (sym (mapped-later (entries_of_visit (pairs_of_log visits.settled) (hand_number old.hand) one.stamp did.visits.vertex visits.before) one.stamp
              (λ entry k. call-later (hand_number old.hand) _ one.stamp _ entry k) e h))
              (begun-stays old.hand new.hand keeps.is_hand visits.was.number visits.was.more.gates one.stamp was);
        }

    does-asks : DoesOneCall shared script number upto old new → Asks old new
    does-asks (inl change) = asks-change change
    does-asks (inr (inl start)) = asks-none old new start.starts.begins.number start.starts.begins.more.gates (ap (λ (a : Account). a.oracle) start.starts.begins.made)
    does-asks (inr (inr (inl visit))) = asks-visit visit
    does-asks (inr (inr (inr (inl finish)))) = asks-none old new finish.finishes.was.number finish.finishes.was.more.gates (ap (λ (a : Account). a.oracle) finish.finishes.was.made)
    does-asks (inr (inr (inr (inr carry)))) = asks-none old new carry.only.number carry.only.more.gates carry.only.oracle

  -- One after another

  asks-then : (a b c : Stand) → IsHand shared b.hand → Asks a b → Asks b c → Asks a c
  asks-then a b c is_hand first second = record {
    number_is = second.number_is ∙ first.number_is;
    more = λ home. onward (gate_log (seen_by a.hand) home) (gate_log (seen_by b.hand) home) (gate_log (seen_by c.hand) home) (first.more home) (second.more home);
    gained = first.gained ++ second.gained;
    made = second.made ∙ ap (λ l. l ++ second.gained) first.made ∙ append_assoc (made_by a.hand).oracle first.gained second.gained;
    each = λ entry h. elim (Contains-append_cases first.gained second.gained entry h) [
      | inl early ↦ begun-stays b.hand c.hand is_hand second.number_is second.more (settled_entry entry).later (first.each entry early)
      | inr late ↦ second.each entry late
    ];
  }

  goes-asks : (script : Script) (number upto : ℕ) (path : List Stand) (from at : Stand) → KeepsClient shared script number from.hand from.client
      → Goes shared script number upto from path at → Asks from at
  goes-asks script number upto [] from at keeps went =
      subst (Asks from) went (asks-none from from refl (λ home. whole (gate_log (seen_by from.hand) home)) refl)
  goes-asks script number upto (next ∷ path) from at keeps went =
      asks-then from next at went.0.1.is_hand (does-asks script number upto from next keeps went.0.0)
      (goes-asks script number upto path next at went.0.1 went.1)

  -- each entry that the hand added to the oracle's log puts events before a request that it began since the start
  pub asks-for-own : (script : Script) (number upto : ℕ) (path : List Stand) (from at : Stand) → KeepsClient shared script number from.hand from.client
      → Goes shared script number upto from path at → AsksForOwn shared from at
  asks-for-own script number upto path from at keeps went gained made entry h =
      let asks = goes-asks script number upto path from at keeps went in
      asks.each entry (subst (λ (l : List OracleEntry). Contains l entry)
      (append_cancel_left (made_by from.hand).oracle gained asks.gained (sym made ∙ asks.made)) h)
