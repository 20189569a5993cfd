-- What a gatekeeper's log says of begins: what is running was begun, what was sent is of a transaction that was begun,
-- and
-- a transaction and a program that were begun have different ids.
-- Used by `own_programs_are_running`, Updates and Visits.
use Rattle.std.proofs.Common.{◌≡◌, ◌≢◌, ◌⊎◌, inl, inr, ℕ, zero, suc, ◌==◌, not, List, [], ◌∷◌, ◌++◌, fold, get_or, AllPairs, Contains, Option, None, Some, refl, sym, ap, ◌∙◌, subst}
use Rattle.std.specs.List.{flat_map}
use Rattle.std.proofs.lemmas.Bool.{and_parts, eqb-true}
use Rattle.std.proofs.lemmas.List.Concat.{flat_map-append}
use Rattle.std.proofs.lemmas.List.Elements.{Contains-append_cases, Contains-append_left, Contains-append_right}
use Rattle.weave_data.proofs.Members.{cut_at, filter_has, flat_has, has_filter, has_flat, has_head, has_none, has_tail, map_has, only}
use Rattle.weave_data.proofs.Ordered.{pairs_across, pairs_cases, pairs_cons, pairs_none}
use Rattle.weave_data.proofs.ListPlaces.{not-true}
use Rattle.graph_ops.specs.declared.op.Op.{Op}
use Rattle.vector_stamp.specs.declared.clock.Stamp.{Stamp}
use Rattle.vector_stamp.specs.Order.{id_of}
use Rattle.weave_entries.specs.declared.message.Addressed.{Addressed}
use Rattle.weave_entries.specs.declared.gate_log.GateEntry.{GateEntry}
use Rattle.weave_entries.specs.declared.gate_log.GateDeed.{GateDeed}
use Rattle.weave_entries.specs.declared.gate_log.GateDeed.TheVariants.{BeganTx, BeganProgram, Sent, Nop, Heard, Raised, Finished}
use Rattle.weave_entries.specs.declared.verdict.Verdict.{Verdict}
use Rattle.weave_entries.specs.declared.verdict.Verdict.TheVariants.{Committed, Conflict, Refused}
use Rattle.weave_entries.specs.GateReplay.{BegunRequest, addressed_to, begun_by, begun_in, flight_after, flight_of, is_begun, messages_by, nop_message, program_by, programs_of, running_after, running_of, to_shard, tx_by, txs_of}
use Rattle.weave_entries.specs.GateRules.{FitsAs, IsGateLog}
use Rattle.weave_entries.specs.Sending.{message_to, messages_of, shards_named}
use Rattle.weave_entries.proofs.OwnStamps.{program-begun, tx-begun}
use Rattle.weave_account.proofs.SeenIds.{IdsDiffer}
use Rattle.weave_account.proofs.Beginning.{all-in}
use Rattle.weave_account.proofs.RepliesClause.{pairs-right}
use Rattle.oracle_lock.specs.Seen.{of_gates}

abbrev begun_with : ℕ → ℕ → Stamp → BegunRequest
begun_with author request stamp = record { author = author; request = request; stamp = stamp }

-- What is running

ran-or-began : (running : List BegunRequest) (author : ℕ) (deed : GateDeed) (program : BegunRequest) → Contains (running_after running author deed) program
    → Contains running program ⊎ Contains (program_by author deed) program
ran-or-began running author (BeganProgram request stamp) program h = Contains-append_cases running (begun_with author request stamp ∷ []) program h
ran-or-began running author (Finished request) program h = inl (filter_has (λ begun. not (is_begun author request begun)) running program h).0
ran-or-began running author (BeganTx request stamp) program h = inl h
ran-or-began running author (Sent request messages) program h = inl h
ran-or-began running author (Nop shard number stamp low) program h = inl h
ran-or-began running author (Heard clock) program h = inl h
ran-or-began running author (Raised epoch) program h = inl h

runs-from : (log : List GateEntry) (running : List BegunRequest) (program : BegunRequest)
    → Contains (fold (λ now (entry : GateEntry). running_after now entry.author entry.deed) running log) program
    → Contains running program ⊎ Contains (programs_of log) program
runs-from [] running program h = inl h
runs-from (entry ∷ log) running program h = elim (runs-from log (running_after running entry.author entry.deed) program h) [
  | inl there ↦ elim (ran-or-began running entry.author entry.deed program there) [
    | inl ran ↦ inl ran
    | inr began ↦ inr (Contains-append_left (program_by entry.author entry.deed) (programs_of log) program began)
  ]
  | inr later ↦ inr (Contains-append_right (program_by entry.author entry.deed) (programs_of log) program later)
]

-- a program that is running was begun
pub running-begun : (log : List GateEntry) (program : BegunRequest) → Contains (running_of log) program → Contains (programs_of log) program
running-begun log program h = elim (runs-from log [] program h) [ inl none ↦ absurd (has_none program none) | inr began ↦ began ]

-- an entry doesn't finish what this author began under this number
abbrev LeavesOne : ℕ → ℕ → GateEntry → Type 0
LeavesOne author request entry = entry.author ≡ author → entry.deed ≢ Finished request

module _ (author request : ℕ) (stamp : Stamp) where
  abbrev own : BegunRequest
  own = begun_with author request stamp

  still-runs : (running : List BegunRequest) (by : ℕ) (deed : GateDeed) → (by ≡ author → deed ≢ Finished request) → Contains running own
      → Contains (running_after running by deed) own
  still-runs running by (BeganProgram r s) leaves h = Contains-append_left running (begun_with by r s ∷ []) own h
  still-runs running by (Finished r) leaves h =
      has_filter (λ begun. not (is_begun by r begun)) running own h (not-true (is_begun by r own) (λ both.
      let parts = and_parts (author == by) (request == r) both in
      leaves (sym (eqb-true author by parts.0)) (ap Finished (sym (eqb-true request r parts.1)))))
  still-runs running by (BeganTx r s) leaves h = h
  still-runs running by (Sent r messages) leaves h = h
  still-runs running by (Nop shard number s low) leaves h = h
  still-runs running by (Heard clock) leaves h = h
  still-runs running by (Raised epoch) leaves h = h

  then-runs : (running : List BegunRequest) (by : ℕ) (deed : GateDeed) → Contains (program_by by deed) own → Contains (running_after running by deed) own
  then-runs running by (BeganProgram r s) h = Contains-append_right running (begun_with by r s ∷ []) own h
  then-runs running by (Finished r) h = absurd (has_none own h)
  then-runs running by (BeganTx r s) h = absurd (has_none own h)
  then-runs running by (Sent r messages) h = absurd (has_none own h)
  then-runs running by (Nop shard number s low) h = absurd (has_none own h)
  then-runs running by (Heard clock) h = absurd (has_none own h)
  then-runs running by (Raised epoch) h = absurd (has_none own h)

  runs-on : (log : List GateEntry) (running : List BegunRequest) → ((entry : GateEntry) → Contains log entry → LeavesOne author request entry)
      → Contains running own ⊎ Contains (programs_of log) own
      → Contains (fold (λ now (entry : GateEntry). running_after now entry.author entry.deed) running log) own
  runs-on [] running leaves (inl h) = h
  runs-on [] running leaves (inr h) = absurd (has_none own h)
  runs-on (entry ∷ log) running leaves (inl h) =
      runs-on log (running_after running entry.author entry.deed) (λ e there. leaves e (has_tail entry log e there))
      (inl (still-runs running entry.author entry.deed (leaves entry (has_head entry log)) h))
  runs-on (entry ∷ log) running leaves (inr h) =
      runs-on log (running_after running entry.author entry.deed) (λ e there. leaves e (has_tail entry log e there))
      (elim (Contains-append_cases (program_by entry.author entry.deed) (programs_of log) own h) [
        | inl now ↦ inl (then-runs running entry.author entry.deed now)
        | inr later ↦ inr later
      ])

  -- a program that its author hasn't finished is running
  pub own-runs : (log : List GateEntry) → Contains (programs_of log) own
      → ((entry : GateEntry) → Contains log entry → entry.author ≡ author → entry.deed ≢ Finished request) → Contains (running_of log) own
  own-runs log began leaves = runs-on log [] leaves (inr began)

-- What was sent

flies-or-began : (flight : Option BegunRequest) (author : ℕ) (deed : GateDeed) (tx : BegunRequest) → flight_after flight author deed ≡ Some tx
    → (flight ≡ Some tx) ⊎ Contains (tx_by author deed) tx
flies-or-began flight author (BeganTx request stamp) tx e =
    let same : begun_with author request stamp ≡ tx = cc in inr (subst (λ b. Contains (begun_with author request stamp ∷ []) b) same (has_head _ []))
flies-or-began flight author (Sent request messages) tx e = absurd (let clash : None ≡ Some tx = e in cc)
flies-or-began flight author (BeganProgram request stamp) tx e = inl e
flies-or-began flight author (Nop shard number stamp low) tx e = inl e
flies-or-began flight author (Heard clock) tx e = inl e
flies-or-began flight author (Raised epoch) tx e = inl e
flies-or-began flight author (Finished request) tx e = inl e

flight-from : (log : List GateEntry) (flight : Option BegunRequest) (tx : BegunRequest)
    → fold (λ now (entry : GateEntry). flight_after now entry.author entry.deed) flight log ≡ Some tx → (flight ≡ Some tx) ⊎ Contains (txs_of log) tx
flight-from [] flight tx e = inl e
flight-from (entry ∷ log) flight tx e = elim (flight-from log (flight_after flight entry.author entry.deed) tx e) [
  | inl there ↦ elim (flies-or-began flight entry.author entry.deed tx there) [
    | inl flies ↦ inl flies
    | inr began ↦ inr (Contains-append_left (tx_by entry.author entry.deed) (txs_of log) tx began)
  ]
  | inr later ↦ inr (Contains-append_right (tx_by entry.author entry.deed) (txs_of log) tx later)
]

-- the transaction in flight was begun
flight-begun : (log : List GateEntry) (tx : BegunRequest) → flight_of log ≡ Some tx → Contains (txs_of log) tx
flight-begun log tx e = elim (flight-from log None tx e) [ inl none ↦ absurd (let clash : None ≡ Some tx = none in cc) | inr began ↦ began ]

-- each message of a transaction has its stamp
message-stamp : (shards : ℕ) (log : List GateEntry) (tx : BegunRequest) (ops : List Op) (verdict : Verdict) (addressed : Addressed)
    → Contains (messages_of shards log tx ops verdict) addressed → tx.stamp ≡ addressed.message.stamp
message-stamp shards log tx ops (Committed number answers counts) addressed h =
    let from = map_has (message_to shards log tx ops counts) (shards_named shards counts) addressed h in
    ap (λ (a : Addressed). a.message.stamp) from.2
message-stamp shards log tx ops (Conflict vertex newer) addressed h = absurd (has_none addressed h)
message-stamp shards log tx ops (Refused op reason at) addressed h = absurd (has_none addressed h)

-- a message is empty, or of a transaction that was begun
pub record IsOfTx (log : List GateEntry) (addressed : Addressed) : Type 0 where
  pub tx : BegunRequest
  pub begun : Contains (txs_of log) tx
  pub stamp_is : tx.stamp ≡ addressed.message.stamp

module _ (home shards shard : ℕ) where
  of-deed : (before : List GateEntry) (author : ℕ) (deed : GateDeed) → FitsAs home shards before author deed → (addressed : Addressed)
      → Contains (to_shard shard (messages_by deed)) addressed → (addressed.message.parts ≡ []) ⊎ IsOfTx before addressed
  of-deed before author (Sent request messages) fits addressed h =
      let tx = begun_with author request fits.stamp in
      let there = (filter_has (λ (a : Addressed). a.shard == shard) messages addressed h).0 in
      inr (record {
        tx = tx;
        begun = flight-begun before tx fits.flight;
        stamp_is = message-stamp shards before tx fits.ops fits.verdict addressed
            (subst (λ (l : List Addressed). Contains l addressed) fits.messages_are there);
      })
  of-deed before author (Nop to number stamp low) fits addressed h =
      let nop : Addressed = record { shard = to; number = number; message = nop_message stamp low } in
      let there = (filter_has (λ (a : Addressed). a.shard == shard) (nop ∷ []) addressed h).0 in
      inl (ap (λ (a : Addressed). a.message.parts) (sym (only nop addressed there)))
  of-deed before author (BeganTx request stamp) fits addressed h = absurd (has_none addressed h)
  of-deed before author (BeganProgram request stamp) fits addressed h = absurd (has_none addressed h)
  of-deed before author (Heard clock) fits addressed h = absurd (has_none addressed h)
  of-deed before author (Raised epoch) fits addressed h = absurd (has_none addressed h)
  of-deed before author (Finished request) fits addressed h = absurd (has_none addressed h)

  -- each message that was sent to a shard is empty, or has the stamp of a transaction that was begun in the same log
  pub sent-of-tx : (log : List GateEntry) → IsGateLog home shards log → (addressed : Addressed) → Contains (addressed_to shard log) addressed
      → (addressed.message.parts ≡ []) ⊎ IsOfTx log addressed
  sent-of-tx log rules addressed h =
      let from = flat_has (λ (e : GateEntry). to_shard shard (messages_by e.deed)) log addressed h in
      let cut = cut_at log from.0 from.1 in
      elim (of-deed cut.before from.0.author from.0.deed (rules cut.before from.0 cut.after cut.is) addressed from.2) [
        | inl empty ↦ inl empty
        | inr of ↦
            let begun = Contains-append_left (txs_of cut.before) (txs_of (from.0 ∷ cut.after)) of.tx of.begun in
            let whole : txs_of log ≡ txs_of cut.before ++ txs_of (from.0 ∷ cut.after)
            = ap (λ (l : List GateEntry). txs_of l) cut.is ∙ flat_map-append (λ (e : GateEntry). tx_by e.author e.deed) cut.before (from.0 ∷ cut.after) in
            inr (record { tx = of.tx; begun = subst (λ (l : List BegunRequest). Contains l of.tx) (sym whole) begun; stamp_is = of.stamp_is })
      ]

-- Different ids

module _ {A B : Type 0} (R : B → B → Type 0) (f : A → List B) where
  -- what one element gives has it to what another gives
  abbrev Across : A → A → Type 0
  Across x y = (a b : B) → Contains (f x) a → Contains (f y) b → R a b

  across-each : (xs : List A) → AllPairs R (flat_map f xs) → AllPairs Across xs
  across-each [] h = pairs_none Across
  across-each (x ∷ xs) h =
      pairs_cons Across x xs (λ y there a b in_x in_y. pairs_across R (f x) (flat_map f xs) a b h in_x (has_flat f xs y b there in_y))
      (across-each xs (pairs-right R (f x) (flat_map f xs) h))

abbrev begun-at : GateEntry → List BegunRequest
begun-at entry = begun_by entry.author entry.deed

-- the entries of all logs
abbrev entries-in : List (List GateEntry) → List GateEntry
entries-in logs = flat_map (λ (log : List GateEntry). log) logs

all-begun : (logs : List (List GateEntry)) → flat_map begun_in logs ≡ flat_map begun-at (entries-in logs)
all-begun [] = refl
all-begun (log ∷ logs) =
    ap (λ (l : List BegunRequest). begun_in log ++ l) (all-begun logs) ∙ sym (flat_map-append begun-at log (entries-in logs))

in-entries : (logs : List (List GateEntry)) (home : ℕ) (entry : GateEntry) → Contains (get_or logs home []) entry → Contains (entries-in logs) entry
in-entries [] home entry h = absurd (has_none entry h)
in-entries (log ∷ logs) zero entry h = Contains-append_left log (entries-in logs) entry h
in-entries (log ∷ logs) (suc home) entry h = Contains-append_right log (entries-in logs) entry (in-entries logs home entry h)

not-both : (author : ℕ) (deed : GateDeed) (tx program : BegunRequest) → Contains (tx_by author deed) tx → Contains (program_by author deed) program → ⊥
not-both author (BeganTx request stamp) tx program h g = has_none program g
not-both author (BeganProgram request stamp) tx program h g = has_none tx h
not-both author (Sent request messages) tx program h g = has_none tx h
not-both author (Nop shard number stamp low) tx program h g = has_none tx h
not-both author (Heard clock) tx program h g = has_none tx h
not-both author (Raised epoch) tx program h g = has_none tx h
not-both author (Finished request) tx program h g = has_none tx h

-- a transaction and a program have different ids, if no two begins have the same id
pub tx-and-program : (logs : List (List GateEntry)) → AllPairs IdsDiffer (flat_map begun_in logs) → (home other : ℕ) (tx program : BegunRequest)
    → Contains (txs_of (get_or logs home [])) tx → Contains (programs_of (get_or logs other [])) program → id_of tx.stamp ≢ id_of program.stamp
tx-and-program logs differ home other tx program h g =
    let one = flat_has (λ (e : GateEntry). tx_by e.author e.deed) (get_or logs home []) tx h in
    let two = flat_has (λ (e : GateEntry). program_by e.author e.deed) (get_or logs other []) program g in
    let first = Contains-append_left (tx_by one.0.author one.0.deed) (program_by one.0.author one.0.deed) tx one.2 in
    let second = Contains-append_right (tx_by two.0.author two.0.deed) (program_by two.0.author two.0.deed) program two.2 in
    elim (pairs_cases (Across IdsDiffer begun-at) (entries-in logs)
    (across-each IdsDiffer begun-at (entries-in logs) (subst (AllPairs IdsDiffer) (all-begun logs) differ)) one.0 two.0
    (in-entries logs home one.0 one.1) (in-entries logs other two.0 two.1)) [
      | inl same ↦ absurd (not-both two.0.author two.0.deed tx program
          (subst (λ (e : GateEntry). Contains (tx_by e.author e.deed) tx) same one.2) two.2)
      | inr (inl apart) ↦ apart tx program first second
      | inr (inr apart) ↦ λ e. apart program tx second first (sym e)
    ]

-- What was begun at one gatekeeper

-- a program that was begun is among all that was begun
pub all-programs : (logs : List (List GateEntry)) (home : ℕ) (program : BegunRequest) → Contains (programs_of (get_or logs home [])) program
    → Contains (flat_map begun_in logs) program
all-programs logs home program h = all-in (of_gates logs) home program (program-begun (get_or logs home []) program h)

-- a transaction that was begun in one gatekeeper's log was begun in one of them all
pub all-txs : (logs : List (List GateEntry)) (home : ℕ) (tx : BegunRequest) → Contains (txs_of (get_or logs home [])) tx
    → Contains (flat_map begun_in logs) tx
all-txs logs home tx h = all-in (of_gates logs) home tx (tx-begun (get_or logs home []) tx h)
