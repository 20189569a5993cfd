-- What a phase has added: begins of requests before its end, and pairs of requests that had no reply before.
-- Used by OwnWorkers and PhaseEnds.
use Rattle.std.proofs.Common.{◌≡◌, ◌≢◌, ℕ, ◌<◌, ◌==◌, Bool, List, [], ◌∷◌, ◌++◌, Contains, IsTrue, Option, None, Some, inl, inr, refl, sym, ap, subst, ◌∙◌, append_assoc, eq-eqb, arith}
use Rattle.std.specs.Prelude.{slice_get}
use Rattle.std.specs.List.{cons_option, filter, filter_map}
use Rattle.std.specs.Option.{option_map}
use Rattle.std.proofs.lemmas.List.{append-nil, append_cancel_left, length-append}
use Rattle.std.proofs.lemmas.List.Concat.{flat_map-append}
use Rattle.std.proofs.lemmas.List.Elements.{Contains-append_cases, filter-append}
use Rattle.std.proofs.lemmas.Option.{none-some, same_Some}
use Rattle.weave_data.proofs.Members.{cut_at, flat_has, has_filter, has_flat, has_none, has_read}
use Rattle.vector_stamp.specs.Precedence.{GivenPair}
use Rattle.vector_stamp.specs.Settling.{SettledEntry}
use Rattle.vector_stamp.specs.declared.clock.Stamp.{Stamp}
use Rattle.program_defs.specs.declared.script.Script.{Script}
use Rattle.weave_entries.specs.declared.gate_log.GateEntry.{GateEntry}
use Rattle.weave_entries.specs.declared.gate_log.GateDeed.{GateDeed}
use Rattle.weave_entries.specs.declared.gate_log.GateDeed.TheVariants.{BeganTx, BeganProgram, Sent, Nop, Heard, Raised, Finished}
use Rattle.weave_entries.specs.declared.oracle_log.OracleEntry.{OracleEntry}
use Rattle.weave_entries.specs.GateReplay.{BegunRequest, begun_by, begun_in}
use Rattle.weave_entries.specs.OracleReplay.{pairs_of_entry, pairs_of_log, settled_entry}
use Rattle.weave_account.specs.declared.account.Account.{Account}
use Rattle.weave_account.specs.Account.{gate_log, pairs_in}
use Rattle.weave_account.specs.GoesOn.{IsBeginningOf}
use Rattle.weave_account.specs.IsAccount.{IsAccount}
use Rattle.hands_account.proofs.ByHands.{by-author, start-within}
use Rattle.seen_logs.specs.Seen.{entries_since}
use Rattle.weaver_core.specs.declared.client.Client.{Client}
use Rattle.weaver_core.specs.Staying.{StayLaws}
use Rattle.weaver_locks.specs.declared.hand.Hand.{Hand}
use Rattle.weaver_locks.specs.declared.shared.Shared.{Shared}
use Rattle.weaver_locks.specs.Closing.{seen_by_number}
use Rattle.weaver_locks.specs.Hands.{hand_number, made_by, seen_by}
use Rattle.weaver_locks.specs.Locks.{hands_of}
use Rattle.weaver_workers.specs.Carrying.{is_telling}
use Rattle.workers_account.specs.Asked.{IsBegunSince}
use Rattle.workers_account.specs.Pairs.{AddsOpenPairs, GainBelow, IsOpen}
use Rattle.workers_account.specs.Phase.{IsClosedBy, IsPhaseRun}
use Rattle.workers_account.specs.PhaseLaws.{PhaseLaws}
use Rattle.workers_account.proofs.Begun.{all-has, begun-in-part, made-there}
use Rattle.workers_account.proofs.ByLog.{replied-before}
use Rattle.workers_account.proofs.Follows.{begun-new}
use Rattle.workers_account.proofs.Own.{own-entry, since-is}
use Rattle.workers_account.proofs.Parts.{Part, gates-on, of-number, own-since, part-of, seen-start}
use Rattle.workers_account.proofs.Visited.{begun-author}

-- what is made of the elements of a list, each of one that gives it
mapped-has : {A B : Type 0} (f : A → Option B) (xs : List A) (y : B) → Contains (filter_map f xs) y → (x : A) × (f x ≡ Some y)
mapped-has f [] y h = absurd (has_none y h)
mapped-has {A} {B} f (x ∷ xs) y h = by (f x) refl h (mapped-has f xs y)
  where
    by : (o : Option B) → f x ≡ o → Contains (cons_option o (filter_map f xs)) y → (Contains (filter_map f xs) y → (z : A) × (f z ≡ Some y))
        → (z : A) × (f z ≡ Some y)
    by None at h rest = rest h
    by (Some z) at h rest =
        elim (has_read z (filter_map f xs) y h) [
          | inl same ↦ (x, at ∙ ap Some same)
          | inr more ↦ rest more
        ]

-- the pairs of an entry put events before its later one
entry-later : (entry : SettledEntry) (earlier later : Stamp) → Contains (pairs_of_entry entry) (earlier, later) → entry.later ≡ later
entry-later entry earlier later h =
    let given : GivenPair = (earlier, later) in
    let from = mapped-has (λ (place : ℕ). option_map {U = GivenPair} (λ (event : Stamp). (event, entry.later)) (slice_get entry.earlier place)) entry.places given h in
    by (slice_get entry.earlier from.0) from.1
  where
    by : (o : Option Stamp) → option_map {U = GivenPair} (λ (event : Stamp). (event, entry.later)) o ≡ Some (earlier, later) → entry.later ≡ later
    by None at = let given : GivenPair = (earlier, later) in absurd (none-some given at)
    by (Some event) at = let one : GivenPair = (event, entry.later) in let given : GivenPair = (earlier, later) in ap (λ (pair : GivenPair). pair.1) (same_Some one given at)

module _ (laws : PhaseLaws) (stay : StayLaws) (shared : Shared) (script : Script) (upto : ℕ) (start : Account) (was is : List Client) (hands : List Hand)
    (run : IsPhaseRun shared script upto start was is hands) (closed : Account) (end : IsClosedBy shared script start is hands closed)
    (account : IsAccount script closed) where
  -- Begins

  deed-below : (hand : Hand) (h : Contains hands hand) (home : ℕ) (begun : BegunRequest) → Contains (begun_in ((part-of laws shared script upto start was is hands run hand h).gates home)) begun
      → begun.request < upto
  deed-below hand h home begun there =
      let one = begun-in-part laws shared script upto start was is hands run closed end hand h home begun there in
      one.left.part.has.followed.in_step.in_step.below begun.request begun.stamp one.logged

  told-raises : (deed : GateDeed) → IsTrue (is_telling deed) → (epoch : ℕ) → deed ≢ Raised epoch
  told-raises (Raised to) tells epoch same = absurd cc
  told-raises (Heard clock) tells epoch same = cc
  told-raises (Nop shard number stamp low) tells epoch same = cc
  told-raises (BeganTx r stamp) tells epoch same = cc
  told-raises (BeganProgram r stamp) tells epoch same = cc
  told-raises (Sent r messages) tells epoch same = cc
  told-raises (Finished r) tells epoch same = cc

  deed-raises : (hand : Hand) (h : Contains hands hand) (home : ℕ) (entry : GateEntry)
      → Contains ((part-of laws shared script upto start was is hands run hand h).gates home) entry → (epoch : ℕ) → entry.deed ≢ Raised epoch
  deed-raises hand h home entry there epoch =
      let part = part-of laws shared script upto start was is hands run hand h in
      elim part.did [
        | inl told ↦ told-raises entry.deed (told.tells home entry there) epoch
        | inr on ↦ on.2.followed.in_step.in_step.no_epoch home entry
            (subst (λ (g : ℕ → List GateEntry). Contains (g home) entry) (sym on.2.gates_are) there) epoch
      ]

  -- an entry of a gatekeeper's log is of a hand's part
  pub record InAPart (home : ℕ) (entry : GateEntry) : Type 0 where
    pub hand : Hand
    pub h : Contains hands hand
    pub number_is : hand_number hand ≡ entry.author
    pub there : Contains ((part-of laws shared script upto start was is hands run hand h).gates home) entry

  -- each entry that a gatekeeper's log has gained is
  pub gained-part : (home : ℕ) (entry : GateEntry) → Contains (gates-on laws shared script upto start was is hands run closed end home).0 entry → InAPart home entry
  gained-part home entry there =
      let old = gate_log start home in
      let more = gates-on laws shared script upto start was is hands run closed end home in
      let cut = cut_at more.0 entry there in
      let at : gate_log closed home ≡ (old ++ cut.before) ++ entry ∷ cut.after =
      more.1 ∙ ap (λ (l : List GateEntry). old ++ l) cut.is ∙ sym (append_assoc old cut.before (entry ∷ cut.after)) in
      let many = length-append old cut.before in
      let by = by-author (hands_of shared) old (λ n. gate_log (seen_by_number hands n) home) (gate_log closed home)
      (λ n known. (end.of_hands.within n known).gates home) (old ++ cut.before) entry cut.after at entry.author
      (end.of_hands.gate_entries home (old ++ cut.before) entry cut.after at) (omega (arith, many)) entry.author refl in
      let one = of-number laws shared script upto start was is hands run entry.author by.known in
      let part = part-of laws shared script upto start was is hands run one.hand one.there in
      record {
        hand = one.hand;
        h = one.there;
        number_is = one.number_is;
        there = own-entry laws shared script upto start was is hands run one.hand part home (old ++ cut.before) entry by.rest
            (ap (λ (a : Account). gate_log a home) (sym one.seen_is) ∙ by.at) (sym one.number_is, by.own.1);
      }

  -- what gatekeepers gained begins no request from the phase's end on, and raises no epoch
  pub gain-below : GainBelow upto start closed
  gain-below home =
      let more = gates-on laws shared script upto start was is hands run closed end home in
      record {
        more = more.0;
        log = more.1;
        begun = λ begun there. (let from = flat_has (λ (e : GateEntry). begun_by e.author e.deed) more.0 begun there in
            let one = gained-part home from.0 from.1 in
            let part = part-of laws shared script upto start was is hands run one.hand one.h in
            deed-below one.hand one.h home begun (has_flat (λ (e : GateEntry). begun_by e.author e.deed) (part.gates home) from.0 begun one.there from.2));
        epochs = λ entry there epoch. (let one = gained-part home entry there in deed-raises one.hand one.h home entry one.there epoch);
      }

  -- Pairs

  -- the oracle's log has gained entries of hands
  more : IsBeginningOf start.oracle closed.oracle
  more = (start-within end.of_hands).oracle

  module _ (hand : Hand) (h : Contains hands hand) where
    abbrev part : Part shared script upto was is run.hand_of hand
    part = part-of laws shared script upto start was is hands run hand h

    abbrev own : OracleEntry → Bool
    own entry = entry.author == hand_number hand

    -- what the hand has added there since
    added : (made_by hand).oracle ≡ (made_by part.from).oracle ++ filter own more.0
    added =
        let first : (made_by part.from).oracle ≡ filter own start.oracle =
        ap (λ (a : Account). a.oracle) (laws.own shared part.from part.from_is)
        ∙ ap (λ (n : ℕ). filter (λ (e : OracleEntry). e.author == n) (seen_by part.from).oracle) part.number_is
        ∙ ap (λ (a : Account). filter own a.oracle) (seen-start laws shared script upto start was is hands run hand part) in
        sym (ap (λ (a : Account). a.oracle) (end.made hand h))
        ∙ ap (filter own) more.1 ∙ filter-append own start.oracle more.0
        ∙ ap (λ (l : List OracleEntry). l ++ filter own more.0) (sym first)

    -- it asked for requests that it began since
    asked-own : (entry : OracleEntry) → Contains more.0 entry → entry.author ≡ hand_number hand → IsBegunSince shared hand (settled_entry entry).later
    asked-own entry there by =
        let mine = has_filter own more.0 entry there (eq-eqb entry.author (hand_number hand) by) in
        elim part.asked [
          | inl same ↦
              let none : filter own more.0 ≡ [] =
              append_cancel_left (made_by part.from).oracle (filter own more.0) []
              (sym added ∙ same ∙ sym (append-nil (made_by part.from).oracle)) in
              absurd (has_none entry (subst (λ (l : List OracleEntry). Contains l entry) none mine))
          | inr asks ↦ asks (filter own more.0) added entry mine
        ]

    -- such a request had no reply at the start
    since-open : (stamp : Stamp) → IsBegunSince shared hand stamp → IsOpen script start closed stamp
    since-open stamp since-then =
        let home = since-then.home in
        let begun = since-then.begun in
        let log = entries_since (gate_log start home) (gate_log (seen_by hand) home) in
        let there = subst (λ (a : Account). Contains (begun_in (entries_since (gate_log a home) (gate_log (seen_by hand) home))) begun) run.at_start.start_is since-then.there in
        let from = flat_has (λ (e : GateEntry). begun_by e.author e.deed) log begun there in
        let by = begun-author from.0.author from.0.deed begun from.2 ∙ since-then.own in
        let in_part = subst (λ (l : List GateEntry). Contains l from.0)
        (ap (filter (λ (e : GateEntry). e.author == hand_number hand)) (since-is laws shared script upto start was is hands run hand part home)
        ∙ own-since laws shared script upto start was is hands run hand part home)
        (has_filter (λ (e : GateEntry). e.author == hand_number hand) log from.0 from.1 (eq-eqb from.0.author (hand_number hand) by)) in
        let of_part = has_flat (λ (e : GateEntry). begun_by e.author e.deed) (part.gates home) from.0 begun in_part from.2 in
        record {
          begun = begun;
          there = all-has closed home begun (has_flat (λ (e : GateEntry). begun_by e.author e.deed) (gate_log closed home) from.0 begun
              (made-there laws shared script upto start was is hands run closed end hand h home from.0 in_part) from.2);
          stamp_is = since-then.stamp_is;
          unanswered = λ request at replied.
              (let before = replied-before laws stay shared script upto start was is hands run closed end account request.session begun.request replied in
              begun-new laws shared script upto start was is hands run closed end hand h home begun of_part before.0 before.1 before.2);
        }

  -- the later end of each pair that was added is a request that had no reply at the start
  pub open-pairs : AddsOpenPairs script start closed
  open-pairs earlier later there =
      let given : GivenPair = (earlier, later) in
      let pairs : pairs_in closed ≡ pairs_in start ++ pairs_of_log more.0 =
      ap pairs_of_log more.1 ∙ flat_map-append (λ (entry : OracleEntry). pairs_of_entry (settled_entry entry)) start.oracle more.0 in
      elim (Contains-append_cases (pairs_in start) (pairs_of_log more.0) given (subst (λ (l : List GivenPair). Contains l given) pairs there)) [
        | inl before ↦ inl before
        | inr gained ↦
            let from = flat_has (λ (entry : OracleEntry). pairs_of_entry (settled_entry entry)) more.0 given gained in
            let cut = cut_at more.0 from.0 from.1 in
            let at : closed.oracle ≡ (start.oracle ++ cut.before) ++ from.0 ∷ cut.after =
            more.1 ∙ ap (λ (l : List OracleEntry). start.oracle ++ l) cut.is ∙ sym (append_assoc start.oracle cut.before (from.0 ∷ cut.after)) in
            let many = length-append start.oracle cut.before in
            let by = by-author (hands_of shared) start.oracle (λ n. (seen_by_number hands n).oracle) closed.oracle
            (λ n known. (end.of_hands.within n known).oracle) (start.oracle ++ cut.before) from.0 cut.after at from.0.author
            (end.of_hands.oracle_entries (start.oracle ++ cut.before) from.0 cut.after at) (omega (arith, many)) from.0.author refl in
            let one = of-number laws shared script upto start was is hands run from.0.author by.known in
            inr (subst (IsOpen script start closed) (entry-later (settled_entry from.0) earlier later from.2)
            (since-open one.hand one.there (settled_entry from.0).later (asked-own one.hand one.there from.0 from.1 (sym one.number_is))))
      ]
