-- Each request begins once. This needs no reference to other logs: a begin is at its request's gatekeeper, so two of
-- one
-- request are in one log. A session has one hand, and this begins none twice, and none of the start's.
-- Used by Account, Begins, InTurn, Needed, Programs and crates sessions_account and workers_account.
use Rattle.std.proofs.Common.{◌≡◌, ◌≢◌, ℕ, ◌<◌, ◌≤◌, ◌==◌, ◌&&◌, Bool, true, List, [], ◌∷◌, ◌++◌, length, get_or, Contains, AllPairs, IsTrue, Option, Some, None, inl, inr, refl, sym, ap, subst, ◌∙◌, append_assoc, arith}
use Rattle.std.proofs.lemmas.Bool.{and_parts, eq-eqb, eqb-true}
use Rattle.std.proofs.lemmas.List.{length-append}
use Rattle.std.proofs.lemmas.List.Elements.{Contains-append_cases}
use Rattle.weave_data.proofs.Members.{cut_at, filter_has, flat_has, has_cut, has_filter, has_flat, has_none, only, drop_has}
use Rattle.weave_data.proofs.Ordered.{pairs_across, pairs_cases, pairs_front, pairs_none}
use Rattle.program_defs.specs.declared.script.Request.{Request}
use Rattle.program_defs.specs.declared.script.Script.{Script}
use Rattle.program_defs.specs.declared.script.Work.{Work}
use Rattle.program_defs.specs.declared.script.Work.TheVariants.{Change, Look}
use Rattle.program_defs.specs.Works.{is_change, is_look}
use Rattle.report_rules.specs.Lookups.{is_some_and, request_at}
use Rattle.weave_entries.specs.declared.gate_log.GateEntry.{GateEntry}
use Rattle.weave_entries.specs.declared.gate_log.GateDeed.{GateDeed}
use Rattle.weave_entries.specs.declared.gate_log.GateDeed.TheVariants.{BeganTx, BeganProgram, Sent, Nop, Heard, Raised, Finished}
use Rattle.weave_entries.specs.GateReplay.{BegunRequest, begun_by, begun_in, program_by, programs_of, tx_by, txs_of}
use Rattle.weave_account.specs.declared.account.Account.{Account}
use Rattle.weave_account.specs.Account.{all_begun, gate_log}
use Rattle.weave_account.specs.Gatekeepers.{BeginEachOnce, BeginsAs}
use Rattle.weave_account.proofs.Beginning.{list-there}
use Rattle.weave_account.proofs.Replying.{place-of}
use Rattle.weave_account.proofs.GoesOn.{has-on}
use Rattle.weave_account.proofs.RepliesClause.{pairs-right}
use Rattle.seen_logs.specs.Seen.{entries_since}
use Rattle.seen_logs.proofs.Placed.{pairs-one}
use Rattle.seen_logs.proofs.Onward.{earlier-place}
use Rattle.hands_account.specs.Runs.{own_begun}
use Rattle.hands_account.proofs.ByHands.{IsGateByHand, IsClosedRun, first, follows, gate-by, gate-case, gates-on, pair-since, pair-there, starts}
use Rattle.hands_account.proofs.Places.{Across, at-place, flat-pairs, less-or, pairs-by-places, since-place}

-- Begins

-- the request of a begin, at its gatekeeper, with the kind of work that it is
pub record HasRequest (script : Script) (is_kind : Work → Bool) (home r : ℕ) : Type 0 where
  pub request : Request
  pub at : request_at script r ≡ Some request
  pub gate : request.gate ≡ home
  pub kind : IsTrue (is_kind request.work)

has-request : (script : Script) (is_kind : Work → Bool) (home r : ℕ) (found : Option Request) → request_at script r ≡ found
    → IsTrue (is_some_and (λ (request : Request). (request.gate == home) && is_kind request.work) found) → HasRequest script is_kind home r
has-request script is_kind home r None at own = absurd cc
has-request script is_kind home r (Some request) at own =
    let parts = and_parts (request.gate == home) (is_kind request.work) own in
    record { request = request; at = at; gate = eqb-true request.gate home parts.0; kind = parts.1 }

-- a transaction that an entry begins as the script says is one of the script, at the gatekeeper of its request
pub tx-request : (script : Script) (account : Account) (home : ℕ) (before : List GateEntry) (author : ℕ) (deed : GateDeed)
    → BeginsAs script account home before deed → (begun : BegunRequest) → Contains (tx_by author deed) begun
    → HasRequest script is_change home begun.request
tx-request script account home before author (BeganTx r stamp) begins begun h =
    subst (λ (b : BegunRequest). HasRequest script is_change home b.request) (only _ begun h) (has-request script is_change home r (request_at script r) refl begins.own)
tx-request script account home before author (BeganProgram r stamp) begins begun h = absurd (has_none begun h)
tx-request script account home before author (Sent r messages) begins begun h = absurd (has_none begun h)
tx-request script account home before author (Nop shard n stamp low) begins begun h = absurd (has_none begun h)
tx-request script account home before author (Heard clock) begins begun h = absurd (has_none begun h)
tx-request script account home before author (Raised epoch) begins begun h = absurd (has_none begun h)
tx-request script account home before author (Finished r) begins begun h = absurd (has_none begun h)

-- a program that an entry begins as the script says is one of the script, at the gatekeeper of its request
pub program-request : (script : Script) (account : Account) (home : ℕ) (before : List GateEntry) (author : ℕ) (deed : GateDeed)
    → BeginsAs script account home before deed → (begun : BegunRequest) → Contains (program_by author deed) begun
    → HasRequest script is_look home begun.request
program-request script account home before author (BeganProgram r stamp) begins begun h =
    subst (λ (b : BegunRequest). HasRequest script is_look home b.request) (only _ begun h) (has-request script is_look home r (request_at script r) refl begins.own)
program-request script account home before author (BeganTx r stamp) begins begun h = absurd (has_none begun h)
program-request script account home before author (Sent r messages) begins begun h = absurd (has_none begun h)
program-request script account home before author (Nop shard n stamp low) begins begun h = absurd (has_none begun h)
program-request script account home before author (Heard clock) begins begun h = absurd (has_none begun h)
program-request script account home before author (Raised epoch) begins begun h = absurd (has_none begun h)
program-request script account home before author (Finished r) begins begun h = absurd (has_none begun h)

-- any begin of an entry, whatever its kind
abbrev any_kind : Work → Bool
any_kind work = true

begun-request : (script : Script) (account : Account) (home : ℕ) (before : List GateEntry) (author : ℕ) (deed : GateDeed)
    → BeginsAs script account home before deed → (begun : BegunRequest) → Contains (begun_by author deed) begun
    → HasRequest script any_kind home begun.request
begun-request script account home before author deed begins begun h =
    elim (Contains-append_cases (tx_by author deed) (program_by author deed) begun h) [
      | inl tx ↦ (let has = tx-request script account home before author deed begins begun tx in
          record { request = has.request; at = has.at; gate = has.gate; kind = refl })
      | inr program ↦ (let has = program-request script account home before author deed begins begun program in
          record { request = has.request; at = has.at; gate = has.gate; kind = refl })
    ]

-- two begins of one request are at one gatekeeper
one-gate : (script : Script) (first second : Work → Bool) (home other a b : ℕ) → HasRequest script first home a → HasRequest script second other b
    → a ≡ b → home ≡ other
one-gate script first second home other a b of_a of_b same =
    let requests : of_a.request ≡ of_b.request = (let at_a = of_a.at in let at_b = of_b.at in cc) in
    sym of_a.gate ∙ ap (λ (request : Request). request.gate) requests ∙ of_b.gate

-- an entry's begin is of its author
pub begun-author : (author : ℕ) (deed : GateDeed) (begun : BegunRequest) → Contains (begun_by author deed) begun → author ≡ begun.author
begun-author author (BeganTx r stamp) begun h = ap (λ (b : BegunRequest). b.author) (only _ begun h)
begun-author author (BeganProgram r stamp) begun h = ap (λ (b : BegunRequest). b.author) (only _ begun h)
begun-author author (Sent r messages) begun h = absurd (has_none begun h)
begun-author author (Nop shard n stamp low) begun h = absurd (has_none begun h)
begun-author author (Heard clock) begun h = absurd (has_none begun h)
begun-author author (Raised epoch) begun h = absurd (has_none begun h)
begun-author author (Finished r) begun h = absurd (has_none begun h)

-- it begins at most one request
one-begun : (R : BegunRequest → BegunRequest → Type 0) (author : ℕ) (deed : GateDeed) → AllPairs R (begun_by author deed)
one-begun R author (BeganTx r stamp) = pairs-one R _
one-begun R author (BeganProgram r stamp) = pairs-one R _
one-begun R author (Sent r messages) = pairs_none R
one-begun R author (Nop shard n stamp low) = pairs_none R
one-begun R author (Heard clock) = pairs_none R
one-begun R author (Raised epoch) = pairs_none R
one-begun R author (Finished r) = pairs_none R

-- no work is both a transaction and a program
both-kinds : (work : Work) → IsTrue (is_change work) → ¬ IsTrue (is_look work)
both-kinds (Change ops) change look = cc
both-kinds (Look program) change look = cc

-- the requests that an entry begins
abbrev pub begins-of : GateEntry → List BegunRequest
begins-of entry = begun_by entry.author entry.deed

-- of two begins, that they are of two requests
abbrev pub Differ : BegunRequest → BegunRequest → Type 0
Differ a b = a.request ≢ b.request

module _ {script : Script} {hands : ℕ} {start : Account} {seen_by : ℕ → Account} {closed : Account} (run : IsClosedRun script hands start seen_by closed) where
  -- an entry of the closed logs begins as the script has it, by the account in which it was made
  begins-there : (home : ℕ) (before : List GateEntry) (entry : GateEntry) (after : List GateEntry) → gate_log closed home ≡ before ++ entry ∷ after
      → (account : Account) × BeginsAs script account home before entry.deed
  begins-there home before entry after at =
      elim (gate-case run home before entry after at) [
        | inl given ↦ (start, run.runs.at_start.gatekeepers.begins home before entry given.0 given.1)
        | inr mine ↦ (closed, (follows run entry.author mine.known).begins home before entry mine.rest mine.at mine.own)
      ]

  request-of : (home : ℕ) (before : List GateEntry) (entry : GateEntry) (after : List GateEntry) → gate_log closed home ≡ before ++ entry ∷ after
      → (begun : BegunRequest) → Contains (begins-of entry) begun → HasRequest script any_kind home begun.request
  request-of home before entry after at begun h =
      let begins = begins-there home before entry after at in
      begun-request script begins.0 home before entry.author entry.deed begins.1 begun h

  request-in : (home : ℕ) (begun : BegunRequest) → Contains (begun_in (gate_log closed home)) begun → HasRequest script any_kind home begun.request
  request-in home begun h =
      let entry = flat_has begins-of (gate_log closed home) begun h in
      let cut = cut_at (gate_log closed home) entry.0 entry.1 in
      request-of home cut.before entry.0 cut.after cut.is begun entry.2

  -- what a hand has made is among what it began
  pub own-has : (home : ℕ) (before : List GateEntry) (entry : GateEntry) (number : ℕ) → IsGateByHand run home before entry number
      → (begun : BegunRequest) → Contains (begins-of entry) begun → Contains (own_begun number start (seen_by number) home) begun
  own-has home before entry number mine begun h =
      let place = since-place (gate_log start home) (gate_log (seen_by number) home) ((starts run number mine.known).gates home) before entry mine.rest mine.at
      mine.own.1 in
      let log = entries_since (gate_log start home) (gate_log (seen_by number) home) in
      has_filter (λ (b : BegunRequest). b.author == number) (begun_in log) begun
      (has_flat begins-of log entry begun (subst (λ l. Contains l entry) (sym place.2) (has_cut place.0 entry mine.rest)) h)
      (eq-eqb begun.author number (sym (begun-author entry.author entry.deed begun h) ∙ mine.own.0))

  -- one request is begun by one hand alone
  one-author : (home : ℕ) (before rest : List GateEntry) (e d : GateEntry) (x y : BegunRequest)
      → IsGateByHand run home before e e.author → IsGateByHand run home rest d d.author → Contains (begins-of e) x → Contains (begins-of d) y
      → HasRequest script any_kind home x.request → x.request ≡ y.request → e.author ≡ d.author
  one-author home before rest e d x y of_e of_d hx hy has same =
      sym (run.runs.own_sessions e.author of_e.known x.request (inl (home, x, own-has home before e e.author of_e x hx, refl)) has.request has.at)
      ∙ run.runs.own_sessions d.author of_d.known y.request (inl (home, y, own-has home rest d d.author of_d y hy, refl)) has.request
      (subst (λ r. request_at script r ≡ Some has.request) same has.at)

  -- two entries of one log, made since the start, begin two requests
  since-differ : (home : ℕ) (before mid after : List GateEntry) (e d : GateEntry) → gate_log closed home ≡ before ++ e ∷ (mid ++ d ∷ after)
      → gate_log closed home ≡ (before ++ e ∷ mid) ++ d ∷ after → length (gate_log start home) ≤ length before
      → IsGateByHand run home (before ++ e ∷ mid) d d.author → (x y : BegunRequest) → Contains (begins-of e) x → Contains (begins-of d) y → x.request ≢ y.request
  since-differ home before mid after e d at_e at_d late of_d x y hx hy same =
      let of_e = gate-by run home before e (mid ++ d ∷ after) at_e late e.author refl in
      let has = request-of home before e (mid ++ d ∷ after) at_e x hx in
      let authors = one-author home before (before ++ e ∷ mid) e d x y of_e of_d hx hy has same in
      let pairs = (follows run d.author of_d.known).once home in
      let log = gate_log (seen_by d.author) home in
      pair-since Differ begins-of (λ (b : BegunRequest). b.author == d.author) (gate_log start home) log ((starts run d.author of_d.known).gates home)
      (pairs-right Differ (begun_in (gate_log start home)) (own_begun d.author start (seen_by d.author) home) pairs)
      before mid of_d.rest e d of_d.at late x y hx hy
      (eq-eqb x.author d.author (sym (begun-author e.author e.deed x hx) ∙ authors))
      (eq-eqb y.author d.author (sym (begun-author d.author d.deed y hy))) same

  -- any two entries of one log begin two requests
  log-differ : (home : ℕ) (before mid after : List GateEntry) (e d : GateEntry) → gate_log closed home ≡ before ++ e ∷ (mid ++ d ∷ after)
      → Across Differ begins-of e d
  log-differ home before mid after e d at x y hx hy =
      let at_d : gate_log closed home ≡ (before ++ e ∷ mid) ++ d ∷ after = at ∙ sym (append_assoc before (e ∷ mid) (d ∷ after)) in
      let pairs = (follows run 0 (first run)).once home in
      elim (gate-case run home (before ++ e ∷ mid) d after at_d) [
        | inl given ↦ pair-there Differ begins-of (gate_log start home) (pairs_front Differ (begun_in (gate_log start home)) _ pairs)
            before mid given.0 e d given.1 x y hx hy
        | inr of_d ↦ (elim (less-or (length before) (length (gate_log start home))) [
          | inl early ↦
              let place = earlier-place (gate_log start home) (gate_log closed home) (gates-on run home) before e (mid ++ d ∷ after) at early in
              pairs_across Differ (begun_in (gate_log start home)) (own_begun d.author start (seen_by d.author) home) x y
              ((follows run d.author of_d.known).once home)
              (has_flat begins-of (gate_log start home) e x (subst (λ l. Contains l e) (sym place.1) (has_cut before e place.0)) hx)
              (own-has home (before ++ e ∷ mid) d d.author of_d y hy)
          | inr late ↦ since-differ home before mid after e d at at_d late of_d x y hx hy
        ])
      ]

  log-once : (home : ℕ) → AllPairs Differ (begun_in (gate_log closed home))
  log-once home =
      flat-pairs Differ begins-of (gate_log closed home) (λ entry h. one-begun Differ entry.author entry.deed)
      (pairs-by-places (Across Differ begins-of) (gate_log closed home) (log-differ home))

  -- in the closed logs no request begins twice
  pub each-once : BeginEachOnce closed
  each-once =
      flat-pairs Differ begun_in closed.gates
      (λ log h. let place = place-of closed.gates log h in subst (λ l. AllPairs Differ (begun_in l)) place.1 (log-once place.0))
      (pairs-by-places (Across Differ begun_in) closed.gates (λ before mid after e d at x y hx hy same. (
      let log_e : gate_log closed (length before) ≡ e = ap (λ gates. get_or gates (length before) []) at ∙ at-place before (mid ++ d ∷ after) e [] in
      let at_d = at ∙ sym (append_assoc before (e ∷ mid) (d ∷ after)) in
      let log_d : gate_log closed (length (before ++ e ∷ mid)) ≡ d =
      ap (λ gates. get_or gates (length (before ++ e ∷ mid)) []) at_d ∙ at-place (before ++ e ∷ mid) after d [] in
      let of_x = request-in (length before) x (subst (λ l. Contains (begun_in l) x) (sym log_e) hx) in
      let of_y = request-in (length (before ++ e ∷ mid)) y (subst (λ l. Contains (begun_in l) y) (sym log_d) hy) in
      let gates = one-gate script any_kind any_kind _ _ x.request y.request of_x of_y same in
      let many = length-append before (e ∷ mid) in
      omega (arith, gates, many))))

  -- What follows

  all-there : (home : ℕ) (begun : BegunRequest) → Contains (begun_in (gate_log closed home)) begun → Contains (all_begun closed) begun
  all-there home begun h =
      let entry = flat_has begins-of (gate_log closed home) begun h in
      has_flat begun_in closed.gates (gate_log closed home) begun (list-there closed.gates home entry.0 entry.1) h

  -- two begins of one request are the same
  pub one-begin : (home other : ℕ) (a b : BegunRequest) → Contains (begun_in (gate_log closed home)) a → Contains (begun_in (gate_log closed other)) b
      → a.request ≡ b.request → a ≡ b
  one-begin home other a b ha hb same =
      elim (pairs_cases Differ (all_begun closed) each-once a b (all-there home a ha) (all-there other b hb)) [
        | inl is ↦ is
        | inr (inl differ) ↦ absurd (differ same)
        | inr (inr differ) ↦ absurd (differ (sym same))
      ]

  -- what began at the start is among all
  pub begun-on : (home : ℕ) (begun : BegunRequest) → Contains (begun_in (gate_log start home)) begun → Contains (begun_in (gate_log closed home)) begun
  begun-on home begun h =
      let entry = flat_has begins-of (gate_log start home) begun h in
      has_flat begins-of (gate_log closed home) entry.0 begun (has-on (gate_log start home) (gate_log closed home) (gates-on run home) entry.0 entry.1) entry.2

  -- what began at the start is begun by no hand
  pub never-again : (home other number : ℕ) → number < hands → (a b : BegunRequest) → Contains (begun_in (gate_log start home)) a
      → Contains (own_begun number start (seen_by number) other) b → a.request ≢ b.request
  never-again home other number known a b ha hb same =
      let log = gate_log (seen_by number) other in
      let began = (filter_has (λ (c : BegunRequest). c.author == number) (begun_in (entries_since (gate_log start other) log)) b hb).0 in
      let entry = flat_has begins-of (entries_since (gate_log start other) log) b began in
      let seen = has-on log (gate_log closed other) ((run.of.within number known).gates other) entry.0
      (drop_has (length (gate_log start other)) log entry.0 entry.1) in
      let of_b = request-in other b (has_flat begins-of (gate_log closed other) entry.0 b seen entry.2) in
      let of_a = request-in home a (begun-on home a ha) in
      let gates = one-gate script any_kind any_kind home other a.request b.request of_a of_b same in
      pairs_across Differ (begun_in (gate_log start other)) (own_begun number start (seen_by number) other) a b ((follows run number known).once other)
      (subst (λ k. Contains (begun_in (gate_log start k)) a) gates ha) hb same

  -- no request begins as a transaction and as a program
  pub not-both : (home other : ℕ) (a b : BegunRequest) → Contains (txs_of (gate_log closed home)) a → Contains (programs_of (gate_log closed other)) b
      → a.request ≢ b.request
  not-both home other a b ha hb same =
      let tx = flat_has (λ (e : GateEntry). tx_by e.author e.deed) (gate_log closed home) a ha in
      let program = flat_has (λ (e : GateEntry). program_by e.author e.deed) (gate_log closed other) b hb in
      let cut_a = cut_at (gate_log closed home) tx.0 tx.1 in
      let cut_b = cut_at (gate_log closed other) program.0 program.1 in
      let begins_a = begins-there home cut_a.before tx.0 cut_a.after cut_a.is in
      let begins_b = begins-there other cut_b.before program.0 cut_b.after cut_b.is in
      let of_a = tx-request script begins_a.0 home cut_a.before (tx.0).author (tx.0).deed begins_a.1 a tx.2 in
      let of_b = program-request script begins_b.0 other cut_b.before (program.0).author (program.0).deed begins_b.1 b program.2 in
      let requests : of_a.request ≡ of_b.request = (let at_a = of_a.at in let at_b = of_b.at in cc) in
      both-kinds of_a.request.work of_a.kind (subst (λ (request : Request). IsTrue (is_look request.work)) (sym requests) of_b.kind)
