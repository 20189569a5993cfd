-- What each program has read are the vertices of its list of visits. A visit refers to its program's begin, and is of
-- the hand that made it: so a program has read what that hand has seen, and one of the start has read no more since.
-- Used by Account, Needed and crate workers_account.
use Rattle.std.proofs.Common.{◌≡◌, ℕ, ◌≤◌, ◌==◌, List, ◌∷◌, ◌++◌, length, Contains, IsTrue, Some, inl, inr, refl, sym, subst, arith}
use Rattle.std.specs.List.{flat_map}
use Rattle.std.proofs.lemmas.Bool.{eq-eqb}
use Rattle.std.proofs.lemmas.List.Elements.{Contains-append_right}
use Rattle.weave_data.proofs.Members.{cut_at, flat_has, has_cut, has_filter, has_flat, has_none, only}
use Rattle.weave_data.proofs.Numbers.{has-in, in-has}
use Rattle.weave_data.specs.declared.name.Name.{Name}
use Rattle.graph_ops.specs.Operations.{State}
use Rattle.program_defs.specs.declared.program.Program.{Program}
use Rattle.program_defs.specs.declared.script.Request.{Request}
use Rattle.program_defs.specs.declared.script.Script.{Script}
use Rattle.program_defs.specs.declared.script.Work.TheVariants.{Look}
use Rattle.report_rules.specs.Lookups.{request_at}
use Rattle.weave_entries.specs.declared.gate_log.GateEntry.{GateEntry}
use Rattle.weave_entries.specs.declared.gate_log.GateDeed.{GateDeed}
use Rattle.weave_entries.specs.declared.gate_log.GateDeed.TheVariants.{BeganTx, BeganProgram, Sent, Nop, Heard, Raised, Finished}
use Rattle.weave_entries.specs.GateReplay.{BegunRequest, begun_in, ended_by, ended_in, program_by, programs_of, tx_by}
use Rattle.weave_entries.proofs.OwnStamps.{program-begun}
use Rattle.weave_account.specs.declared.account.Account.{Account}
use Rattle.weave_account.specs.Account.{gate_log, is_ended, reads_of}
use Rattle.weave_account.specs.Programs.{ReadsInTurn}
use Rattle.weave_account.proofs.Beginning.{list-there}
use Rattle.weave_account.proofs.Replying.{place-of}
use Rattle.weave_account.proofs.GoesOn.{has-on}
use Rattle.seen_logs.specs.FollowsScript.{BegunProgramsReadInTurn}
use Rattle.seen_logs.specs.Seen.{AreLegal, entries_since, without_sessions}
use Rattle.hands_account.proofs.ByHands.{IsGateByHand, IsClosedRun, follows, gate-by, gate-case, gates-on, starts}
use Rattle.hands_account.proofs.Once.{begun-author, each-once, never-again, not-both}
use Rattle.hands_account.proofs.Places.{since-place}

-- sessions play no part in the rules of the other logs
pub apart : {gates shards : ℕ} {account : Account} → AreLegal gates shards account → AreLegal gates shards (without_sessions account)
apart legal = record {
  gate_logs = legal.gate_logs;
  hears = legal.hears;
  store_log = legal.store_log;
  oracle_log = legal.oracle_log;
  shard_logs = legal.shard_logs;
}

-- what was read in turn, with other words for the same
pub reads-move : (program : Program) (xs ys : List (Name × State)) (ended next : Type 0) → ys ≡ xs → (next → ended) → ReadsInTurn xs program ended
    → ReadsInTurn ys program next
reads-move program xs ys ended next same back reads =
    let moved : ReadsInTurn ys program ended = subst (λ zs. ReadsInTurn zs program ended) (sym same) reads in
    record { once = moved.once; first_ones = moved.first_ones; whole = λ h. moved.whole (back h) }

-- an entry that ends a request has ended it
entry-ends : (account : Account) (home : ℕ) (before : List GateEntry) (entry : GateEntry) (after : List GateEntry)
    → gate_log account home ≡ before ++ entry ∷ after → (r : ℕ) → Contains (ended_by entry.deed) r → IsTrue (is_ended account r)
entry-ends account home before entry after at r h =
    let log = gate_log account home in
    let has : Contains log entry = subst (λ l. Contains l entry) (sym at) (has_cut before entry after) in
    in-has (flat_map ended_in account.gates) r
    (has_flat ended_in account.gates log r (list-there account.gates home entry has) (has_flat (λ (e : GateEntry). ended_by e.deed) log entry r has h))

module _ {script : Script} {hands : ℕ} {start : Account} {seen_by : ℕ → Account} {closed : Account} (run : IsClosedRun script hands start seen_by closed) where
  -- what the laws on closed logs are given
  pub few : length closed.gates ≤ 8
  few = let gates = run.runs.gates in let limit = run.limits.few_gates in omega (arith, gates, limit)

  -- without those of the sessions, the closed logs keep their rules
  pub legal-apart : AreLegal script.gates script.shards (without_sessions closed)
  legal-apart = apart run.legal

  -- a program of the start is among all
  programs-on : (home : ℕ) (begun : BegunRequest) → Contains (programs_of (gate_log start home)) begun → Contains (programs_of (gate_log closed home)) begun
  programs-on home begun h =
      let from = flat_has (λ (e : GateEntry). program_by e.author e.deed) (gate_log start home) begun h in
      has_flat (λ (e : GateEntry). program_by e.author e.deed) (gate_log closed home) from.0 begun
      (has-on (gate_log start home) (gate_log closed home) (gates-on run home) from.0 from.1) from.2

  -- A program of the start

  module _ (home : ℕ) (begun : BegunRequest) (there : Contains (programs_of (gate_log start home)) begun) where
    -- it is not ended by a hand
    not-ended : (other : ℕ) (before : List GateEntry) (author : ℕ) (deed : GateDeed) (after : List GateEntry)
        → gate_log closed other ≡ before ++ record { author = author; deed = deed } ∷ after
        → IsGateByHand run other before (record { author = author; deed = deed }) author → Contains (ended_by deed) begun.request → ⊥
    not-ended other before author (Finished r) after at mine h =
        let own = (follows run author mine.known).finishes other before (record { author = author; deed = Finished r }) mine.rest mine.at mine.own in
        let log = entries_since (gate_log start own.0) (gate_log (seen_by author) own.0) in
        let program : BegunRequest = record { author = author; request = r; stamp = own.1 } in
        never-again run home own.0 author mine.known begun program (program-begun (gate_log start home) begun there)
        (has_filter (λ (b : BegunRequest). b.author == author) (begun_in log) program (program-begun log program own.2) (eq-eqb author author refl))
        (sym (only r begun.request h))
    not-ended other before author (Sent r messages) after at mine h =
        let log = gate_log closed other in
        let ends = run.laws.ends other script.shards log (run.legal.gate_logs other) before (record { author = author; deed = Sent r messages }) after at in
        let from = flat_has (λ (e : GateEntry). tx_by e.author e.deed) before _ ends.1 in
        let tx = has_flat (λ (e : GateEntry). tx_by e.author e.deed) log from.0 _
        (has-on before log (record { author = author; deed = Sent r messages } ∷ after, at) from.0 from.1) from.2 in
        not-both run other home _ begun tx (programs-on home begun there) (only r begun.request h)
    not-ended other before author (BeganTx r stamp) after at mine h = has_none _ h
    not-ended other before author (BeganProgram r stamp) after at mine h = has_none _ h
    not-ended other before author (Nop shard n stamp low) after at mine h = has_none _ h
    not-ended other before author (Heard clock) after at mine h = has_none _ h
    not-ended other before author (Raised epoch) after at mine h = has_none _ h

    -- so it had ended at the start, if it has ended
    ended-early : IsTrue (is_ended closed begun.request) → IsTrue (is_ended start begun.request)
    ended-early ended =
        let list = flat_has ended_in closed.gates begun.request (has-in (flat_map ended_in closed.gates) begun.request ended) in
        let place = place-of closed.gates list.0 list.1 in
        let log = gate_log closed place.0 in
        let entry = flat_has (λ (e : GateEntry). ended_by e.deed) log begun.request (subst (λ l. Contains (ended_in l) begun.request) (sym place.1) list.2) in
        let cut = cut_at log entry.0 entry.1 in
        elim (gate-case run place.0 cut.before entry.0 cut.after cut.is) [
          | inl given ↦ entry-ends start place.0 cut.before entry.0 given.0 given.1 begun.request entry.2
          | inr mine ↦ absurd (not-ended place.0 cut.before (entry.0).author (entry.0).deed cut.after cut.is mine entry.2)
        ]

    reads-early : (request : Request) (program : Program) → request_at script begun.request ≡ Some request → request.work ≡ Look program
        → ReadsInTurn (reads_of closed begun.request) program (IsTrue (is_ended closed begun.request))
    reads-early request program at work =
        reads-move program (reads_of start begun.request) (reads_of closed begun.request) _ _
        (run.laws.at_start script.gates script.shards hands (without_sessions start) seen_by (without_sessions closed) few legal-apart run.of
        (each-once run) home begun (program-begun (gate_log start home) begun there))
        ended-early
        (run.runs.at_start.programs begun.request request program at work)

  -- A program that a hand began since

  reads-late : (home : ℕ) (before : List GateEntry) (entry : GateEntry) (begun : BegunRequest) → IsGateByHand run home before entry begun.author
      → Contains (program_by entry.author entry.deed) begun → (request : Request) (program : Program) → request_at script begun.request ≡ Some request
      → request.work ≡ Look program → ReadsInTurn (reads_of closed begun.request) program (IsTrue (is_ended closed begun.request))
  reads-late home before entry begun mine h request program at work =
      let number = begun.author in
      let log = entries_since (gate_log start home) (gate_log (seen_by number) home) in
      let place = since-place (gate_log start home) (gate_log (seen_by number) home) ((starts run number mine.known).gates home) before entry mine.rest mine.at
      mine.own.1 in
      let there = has_flat (λ (e : GateEntry). program_by e.author e.deed) log entry begun
      (subst (λ l. Contains l entry) (sym place.2) (has_cut place.0 entry mine.rest)) h in
      let ended = run.laws.ended script.gates script.shards hands (without_sessions start) seen_by (without_sessions closed) few legal-apart run.of
      (each-once run) number home begun.request begun.stamp mine.known there in
      reads-move program (reads_of (seen_by number) begun.request) (reads_of closed begun.request) _ _
      (run.laws.reads script.gates script.shards hands (without_sessions start) seen_by (without_sessions closed) few legal-apart run.of
      (each-once run) number home begun.request begun.stamp mine.known there)
      (λ is. subst IsTrue ended is)
      ((follows run number mine.known).programs begun.request (home, begun.stamp, there) request program at work)

  -- each program that was begun reads in turn
  pub begun-read : BegunProgramsReadInTurn script closed
  begun-read home begun h request program at work =
      let from = flat_has (λ (e : GateEntry). program_by e.author e.deed) (gate_log closed home) begun h in
      let cut = cut_at (gate_log closed home) from.0 from.1 in
      elim (gate-case run home cut.before from.0 cut.after cut.is) [
        | inl given ↦
            reads-early home begun
            (has_flat (λ (e : GateEntry). program_by e.author e.deed) (gate_log start home) from.0 begun
            (subst (λ l. Contains l from.0) (sym given.1) (has_cut cut.before from.0 given.0)) from.2)
            request program at work
        | inr mine ↦
            let author = begun-author (from.0).author (from.0).deed begun
            (Contains-append_right (tx_by (from.0).author (from.0).deed) (program_by (from.0).author (from.0).deed) begun from.2) in
            reads-late home cut.before from.0 begun (gate-by run home cut.before from.0 cut.after cut.is mine.own.1 begun.author author) from.2
            request program at work
      ]
