-- A visit that is done reads one vertex more, and a shard that was made ready is one less to wait for.
-- Used by `look` and `visit`.
use Rattle.std.proofs.Common.{◌≡◌, ℕ, zero, suc, ◌+◌, ◌-◌, ◌<◌, ◌≤◌, Bool, true, false, is_some, cond, ◌==◌, List, [], ◌∷◌, ◌++◌, length, Option, Some, None, inl, inr, refl, sym, ap, subst, ◌∙◌, arith}
use Rattle.std.specs.Prelude.{slice_index_or, slice_set, take}
use Rattle.std.specs.List.{filter, find, flat_map}
use Rattle.std.specs.Option.{option_or}
use Rattle.std.proofs.lemmas.Bool.{cases_eq, eq-eqb}
use Rattle.std.proofs.lemmas.List.{length-append, length-map}
use Rattle.std.proofs.lemmas.List.Concat.{flat_map-append}
use Rattle.std.proofs.lemmas.List.Elements.{filter-append}
use Rattle.std.proofs.lemmas.List.Folds.{find-append}
use Rattle.weave_data.specs.declared.name.Name.{Name}
use Rattle.weave_data.specs.Names.{shard_of}
use Rattle.graph_ops.specs.Operations.{State}
use Rattle.vector_stamp.specs.declared.clock.Stamp.{Stamp}
use Rattle.program_defs.specs.declared.script.Request.{Request}
use Rattle.program_defs.specs.declared.script.Script.{Script}
use Rattle.program_defs.specs.declared.script.Step.TheVariants.{Visit}
use Rattle.program_defs.specs.declared.script.Work.TheVariants.{Look}
use Rattle.program_defs.specs.Limits.{IsWithinLimits}
use Rattle.program_defs.specs.Visits.{next_visit}
use Rattle.report_rules.specs.declared.report.StepAnswer.{StepAnswer}
use Rattle.report_rules.specs.declared.report.StepAnswer.TheVariants.{Ok, Twice, Early, Busy, Idle, Old, Unknown, Repeat, Empty, Waits, Again}
use Rattle.weave_entries.specs.declared.gate_log.GateEntry.{GateEntry}
use Rattle.weave_entries.specs.declared.shard_log.ShardEntry.{ShardEntry}
use Rattle.weave_entries.specs.declared.shard_log.ShardDeed.TheVariants.{Visited}
use Rattle.weave_entries.specs.GateReplay.{BegunRequest, program_begun, program_by, programs_of}
use Rattle.weave_entries.specs.ShardReplay as shards
use Rattle.weave_entries.specs.ShardReplay.{first_unready, reads_in, state_of_updates, updates_of, visit_by, visits_of}
use Rattle.weave_account.specs.declared.account.Account.{Account}
use Rattle.weave_account.specs.Account.{gate_log, reads_of, shard_log}
use Rattle.weave_account.specs.GoesOn.{GoesOn}
use Rattle.weave_account.specs.IsAccount.{IsAccount}
use Rattle.step_rules.specs.CoreState.{CoreState}
use Rattle.step_rules.specs.Answers.{again_or_ok, answer_of_visit, for_request}
use Rattle.step_rules.specs.Entries.{account_with, after_visit, at_request, update_stamps_at, with_visit_of}
use Rattle.step_rules.specs.IsCore.{IsCore}
use Rattle.step_rules.specs.Requests.{next_vertex}
use Rattle.step_rules.specs.Trace.{is_ok}
use Rattle.weaver_core.specs.Cores.{CoreView, DoesStep}
use Rattle.drive_rules.specs.Links.{link_count}
use Rattle.weave_drive.specs.Driving.{Drives}
use Rattle.weave_drive.specs.LowerLaws.{LawsForDriving}
use Rattle.weave_drive.specs.Progress.{AreCores, IsReading, MakesReady, ReadsOnward, reading_left, reading_left_of, unready_of}
use Rattle.weave_drive.proofs.After.{account-after, not-done}
use Rattle.weave_drive.proofs.Driven.{drives-core, drives-on}
use Rattle.weave_drive.proofs.Nudging.{still-stamped}

-- One more read

module _ (r : ℕ) where
  abbrev is-of : shards.Visit → Bool
  is-of visit = visit.request == r

  reads-many : (logs : List (List ShardEntry)) (s : ℕ) (entry : ShardEntry) → s < length logs → length (reads_in r (slice_index_or logs s [] ++ entry ∷ [])) ≡ length (reads_in r (slice_index_or logs s [])) + 1
      → length (flat_map (reads_in r) (slice_set logs s (slice_index_or logs s [] ++ entry ∷ []))) ≡ length (flat_map (reads_in r) logs) + 1
  reads-many [] s entry less one = absurd (omega (arith, less))
  reads-many (log ∷ logs) zero entry less one =
      let a = length-append (reads_in r (log ++ entry ∷ [])) (flat_map (reads_in r) logs) in
      let b = length-append (reads_in r log) (flat_map (reads_in r) logs) in
      omega (arith, a, b, one)
  reads-many (log ∷ logs) (suc s) entry less one =
      let more = reads-many logs s entry (omega (arith, less)) one in
      let a = length-append (reads_in r log) (flat_map (reads_in r) (slice_set logs s (slice_index_or logs s [] ++ entry ∷ []))) in
      let b = length-append (reads_in r log) (flat_map (reads_in r) logs) in
      omega (arith, a, b, more)

  read-count : (log : List ShardEntry) → length (reads_in r log) ≡ length (filter is-of (visits_of log))
  read-count log = length-map {B = Name × State} (filter is-of (visits_of log)) (λ (visit : shards.Visit). (visit.vertex, state_of_updates (take visit.updates (updates_of visit.vertex log))))

  read-more : (log : List ShardEntry) (stamp : Stamp) (v : Name) (n : ℕ) (settled : Bool) → length (reads_in r (log ++ record { author = 0; deed = Visited r stamp v n settled } ∷ [])) ≡ length (reads_in r log) + 1
  read-more log stamp v n settled =
      let visit : shards.Visit = record { author = 0; request = r; stamp = stamp; vertex = v; updates = n; settled = settled } in
      let entry : ShardEntry = record { author = 0; deed = Visited r stamp v n settled } in
      let a = read-count (log ++ entry ∷ []) in
      let b = read-count log in
      let all : filter is-of (visits_of (log ++ entry ∷ [])) ≡ filter is-of (visits_of log) ++ visit ∷ [] =
      ap (filter is-of) (flat_map-append (λ (e : ShardEntry). visit_by e.author e.deed) log (entry ∷ []))
      ∙ filter-append is-of (visits_of log) (visit ∷ [])
      ∙ ap (λ t. filter is-of (visits_of log) ++ cond t (visit ∷ []) []) (eq-eqb r r refl) in
      let long = ap length all ∙ length-append (filter is-of (visits_of log)) (visit ∷ []) in
      omega (arith, a, b, long)

  -- reads are never taken back
  reads-in-grow : (log more : List ShardEntry) → length (reads_in r log) ≤ length (reads_in r (log ++ more))
  reads-in-grow log more =
      let a = read-count (log ++ more) in
      let b = read-count log in
      let all = ap (filter is-of) (flat_map-append (λ (e : ShardEntry). visit_by e.author e.deed) log more) ∙ filter-append is-of (visits_of log) (visits_of more) in
      let long = ap length all ∙ length-append (filter is-of (visits_of log)) (filter is-of (visits_of more)) in
      omega (arith, a, b, long)

  reads-grow : (xs ys : List (List ShardEntry)) → length xs ≡ length ys → ((i : ℕ) → (more : List ShardEntry) × (slice_index_or ys i [] ≡ slice_index_or xs i [] ++ more)) → length (flat_map (reads_in r) xs) ≤ length (flat_map (reads_in r) ys)
  reads-grow [] ys long each = omega arith
  reads-grow (x ∷ xs) [] long each = absurd (omega (arith, long))
  reads-grow (x ∷ xs) (y ∷ ys) long each =
      let first = each 0 in
      let here = reads-in-grow x first.0 in
      let is = ap (λ l. length (reads_in r l)) first.1 in
      let rest = reads-grow xs ys (omega (arith, long)) (λ i. each (suc i)) in
      let a = length-append (reads_in r x) (flat_map (reads_in r) xs) in
      let b = length-append (reads_in r y) (flat_map (reads_in r) ys) in
      omega (arith, here, is, rest, a, b)

reads-stay : (script : Script) (old new : Account) → IsAccount script old → IsAccount script new → GoesOn old new → (r : ℕ) → length (reads_of old r) ≤ length (reads_of new r)
reads-stay script old new is now on r = let a = is.shards.as_many in let b = now.shards.as_many in reads-grow r old.shards new.shards (a ∙ sym b) on.shards

-- Shards that are not ready

module _ (laws : LawsForDriving) (script : Script) (limits : IsWithinLimits script) (old new : Account) (is : IsAccount script old) (now : IsAccount script new) (on : GoesOn old new) (stamp : Stamp) where
  abbrev waits : Account → ℕ → Bool
  waits account s = is_some (first_unready script.gates stamp (shard_log account s))

  one-at-most : (b : Bool) → cond {A = ℕ} b 1 0 ≤ 1
  one-at-most true = omega arith
  one-at-most false = omega arith

  fewer-at : (s : ℕ) → cond {A = ℕ} (waits new s) 1 0 ≤ cond {A = ℕ} (waits old s) 1 0
  fewer-at s = at (first_unready script.gates stamp (shard_log old s)) refl
    where
      at : (o : Option ℕ) → first_unready script.gates stamp (shard_log old s) ≡ o → cond {A = ℕ} (waits new s) 1 0 ≤ cond {A = ℕ} (waits old s) 1 0
      at None e = let ready : cond {A = ℕ} (waits new s) 1 0 ≡ 0 = ap (λ o. cond {A = ℕ} (is_some o) 1 0) (laws.stays script old new limits is now on s stamp e) in omega (arith, ready)
      at (Some g) e =
          let was : cond {A = ℕ} (waits old s) 1 0 ≡ 1 = ap (λ o. cond {A = ℕ} (is_some o) 1 0) e in
          let most = one-at-most (waits new s) in
          omega (arith, was, most)

  fewer : (n : ℕ) → unready_of n script.gates stamp new ≤ unready_of n script.gates stamp old
  fewer zero = omega arith
  fewer (suc n) = let more = fewer n in let here = fewer-at n in omega (arith, more, here)

  one-fewer : (s g : ℕ) → first_unready script.gates stamp (shard_log old s) ≡ Some g → first_unready script.gates stamp (shard_log new s) ≡ None → (n : ℕ) → s < n → unready_of n script.gates stamp new + 1 ≤ unready_of n script.gates stamp old
  one-fewer s g was ready zero less = absurd (omega (arith, less))
  one-fewer s g was ready (suc n) less = elim (cases_eq s n) [
    | inl same ↦
        let a : cond {A = ℕ} (waits old n) 1 0 ≡ 1 = subst (λ k. cond {A = ℕ} (waits old k) 1 0 ≡ 1) same (ap (λ o. cond {A = ℕ} (is_some o) 1 0) was) in
        let b : cond {A = ℕ} (waits new n) 1 0 ≡ 0 = subst (λ k. cond {A = ℕ} (waits new k) 1 0 ≡ 0) same (ap (λ o. cond {A = ℕ} (is_some o) 1 0) ready) in
        let more = fewer n in
        omega (arith, a, b, more)
    | inr other ↦
        let more = one-fewer s g was ready n (omega (arith, less, other)) in
        let here = fewer-at n in
        omega (arith, more, here)
  ]

-- The program stays begun

still-program : (old new : Account) → GoesOn old new → (home r : ℕ) (begun : BegunRequest) → program_begun r (gate_log old home) ≡ Some begun → program_begun r (gate_log new home) ≡ Some begun
still-program old new on home r begun is =
    let more = on.gates home in
    ap (program_begun r) more.1 ∙ ap (find (λ (b : BegunRequest). b.request == r)) (flat_map-append (λ (entry : GateEntry). program_by entry.author entry.deed) (gate_log old home) more.0) ∙ find-append (λ (b : BegunRequest). b.request == r) (programs_of (gate_log old home)) _ ∙ ap (λ o. option_or o (find (λ (b : BegunRequest). b.request == r) (programs_of more.0))) is

-- a program that has begun at its gatekeeper has begun there still when the account goes on
pub still-reading : (script : Script) (old new : Account) → GoesOn old new → (r home : ℕ) → IsReading script r home old → IsReading script r home new
still-reading script old new on r home reading = record {
  request = reading.request;
  program = reading.program;
  begun = reading.begun;
  request_is = reading.request_is;
  gate_is = reading.gate_is;
  work_is = reading.work_is;
  begun_is = still-program old new on home r reading.begun reading.begun_is;
  stamped = still-stamped old new on home reading.begun.stamp reading.stamped;
}

-- the shard of a vertex is one of the shards of the script
pub shard-there : (script : Script) → IsWithinLimits script → (v : Name) → shard_of v script.shards < script.shards
shard-there script limits v = let some = limits.some_shard in omega (arith, some)

-- ReadsOnward

-- whether an answer is neither `ok` nor `again`
abbrev pub is_other : StepAnswer → Bool
is_other Ok = false
is_other (Again shard gate) = false
is_other _ = true

module _ (laws : LawsForDriving) (old new : CoreView) (r home : ℕ) (answer : StepAnswer) (cores : AreCores old new) (reading : IsReading old.script r home old.state.account) (did : DoesStep (Visit r) old new answer) where
  account : Account
  account = old.state.account

  begun-there : program_begun r (gate_log old.state.account reading.request.gate) ≡ Some reading.begun
  begun-there = ap (λ g. program_begun r (gate_log old.state.account g)) reading.gate_is ∙ reading.begun_is

  answer-is : answer ≡ answer_of_visit old.script old.state.account (Some reading.begun) (next_visit (reads_of old.state.account r) reading.program)
  answer-is =
      did.answer_is
      ∙ ap (for_request (λ request. answer_of_visit old.script old.state.account (program_begun r (gate_log old.state.account request.gate)) (next_vertex old.state.account r request.work))) reading.request_is
      ∙ ap (λ o. answer_of_visit old.script old.state.account o (next_vertex old.state.account r reading.request.work)) begun-there
      ∙ ap (λ w. answer_of_visit old.script old.state.account (Some reading.begun) (next_vertex old.state.account r w)) reading.work_is

  abbrev ready-at : Name → Option ℕ
  ready-at v = first_unready old.script.gates reading.begun.stamp (shard_log old.state.account (shard_of v old.script.shards))

  -- by the next vertex
  answer-by : (o : Option Name) → next_visit (reads_of old.state.account r) reading.program ≡ o → answer ≡ answer_of_visit old.script old.state.account (Some reading.begun) o
  answer-by o e = answer-is ∙ ap (answer_of_visit old.script old.state.account (Some reading.begun)) e

  left-before : reading_left old.script r home old.state.account ≡ (1 + link_count old.script + unready_of old.script.shards old.script.gates reading.begun.stamp old.state.account) - length (reads_of old.state.account r)
  left-before = ap (reading_left_of old.script r old.state.account) reading.begun_is

  left-after : (next : Account) → GoesOn old.state.account next → reading_left old.script r home next ≡ (1 + link_count old.script + unready_of old.script.shards old.script.gates reading.begun.stamp next) - length (reads_of next r)
  left-after next on = ap (reading_left_of old.script r next) (still-program old.state.account next on home r reading.begun reading.begun_is)

  few-read : (v : Name) → next_visit (reads_of old.state.account r) reading.program ≡ Some v → length (reads_of old.state.account r) ≤ link_count old.script
  few-read v e = laws.left old.script old.state.account cores.limits cores.before.account r reading.request reading.program reading.request_is reading.work_is v e

  -- one that was done read one vertex more
  visit-more : (v : Name) → next_visit (reads_of old.state.account r) reading.program ≡ Some v → answer ≡ Ok → shard_of v old.script.shards < old.script.shards → length (reads_of new.state.account r) ≡ length (reads_of old.state.account r) + 1
  visit-more v e ok inside =
      let s = shard_of v old.script.shards in
      let is : new.state.account ≡ with_visit_of old.state.account s r reading.begun.stamp v (update_stamps_at old.state.account s v) =
      ap (λ (k : CoreState). k.account) did.state_is ∙ account-after old.script old.state (Visit r)
      ∙ ap (λ b. cond {A = Account} b (account_with old.script old.state (Visit r)) old.state.account) (ap is_ok (sym did.answer_is ∙ ok))
      ∙ ap (at_request (λ request. after_visit old.script old.state.account r (program_begun r (gate_log old.state.account request.gate)) (next_vertex old.state.account r request.work)) old.state.account) reading.request_is
      ∙ ap (λ o. after_visit old.script old.state.account r o (next_vertex old.state.account r reading.request.work)) begun-there
      ∙ ap (λ w. after_visit old.script old.state.account r (Some reading.begun) (next_vertex old.state.account r w)) reading.work_is
      ∙ ap (after_visit old.script old.state.account r (Some reading.begun)) e in
      let many = cores.before.account.shards.as_many in
      ap (λ (a : Account). length (reads_of a r)) is ∙ reads-many r old.state.account.shards s _ (omega (arith, many, inside)) (read-more r (shard_log old.state.account s) reading.begun.stamp v _ _)

  -- a visit that was done leaves fewer vertices to read and shards to wait for
  pub visit-ok : GoesOn old.state.account new.state.account → ((v : Name) → shard_of v old.script.shards < old.script.shards) → answer ≡ Ok → ReadsOnward old.script r home old.state.account new.state.account true
  visit-ok on some-shard ok = at (next_visit (reads_of old.state.account r) reading.program) refl
    where
      at : (o : Option Name) → next_visit (reads_of old.state.account r) reading.program ≡ o → ReadsOnward old.script r home old.state.account new.state.account true
      at None e = let clash : Ok ≡ Idle = sym ok ∙ answer-by None e in cc
      at (Some v) e = record {
        less = λ t. (
            let more = visit-more v e ok (some-shard v) in
            let few = few-read v e in
            let shards = fewer laws old.script cores.limits old.state.account new.state.account cores.before.account cores.after.account on reading.begun.stamp old.script.shards in
            let was = left-before in
            let now = left-after new.state.account on in
            omega (arith, more, few, shards, was, now)
            );
        whole = λ f. cc;
      }

  -- the shard of `again` isn't ready
  pub record IsAgain (s : ℕ) : Type 0 where
    pub same : new.state ≡ old.state
    pub inside : s < old.script.shards
    pub v : Name
    pub next : next_visit (reads_of old.state.account r) reading.program ≡ Some v
    pub gate : ℕ
    pub unready : first_unready old.script.gates reading.begun.stamp (shard_log old.state.account s) ≡ Some gate

  -- if it answers `again`, nothing has changed, there is a next vertex, and the shard named isn't ready for the program
  pub visit-again : (s g : ℕ) → ((v : Name) → shard_of v old.script.shards < old.script.shards) → answer ≡ Again s g → IsAgain s
  visit-again s g some-shard again = at (next_visit (reads_of old.state.account r) reading.program) refl
    where
      shard-in : StepAnswer → ℕ
      shard-in (Again shard gate) = shard
      shard-in _ = 0

      by : (v : Name) → next_visit (reads_of old.state.account r) reading.program ≡ Some v → (o : Option ℕ) → ready-at v ≡ o → IsAgain s
      by v e None ready = let clash : Again s g ≡ Ok = sym again ∙ answer-by (Some v) e ∙ ap (again_or_ok (shard_of v old.script.shards)) ready in cc
      by v e (Some gate) ready =
          let s-is : s ≡ shard_of v old.script.shards = ap shard-in (sym again ∙ answer-by (Some v) e ∙ ap (again_or_ok (shard_of v old.script.shards)) ready) in
          record {
            same = did.state_is ∙ not-done old.script old.state (Visit r) (ap is_ok (sym did.answer_is ∙ again));
            inside = subst (λ k. k < old.script.shards) (sym s-is) (some-shard v);
            v = v;
            next = e;
            gate = gate;
            unready = subst (λ k. first_unready old.script.gates reading.begun.stamp (shard_log old.state.account k) ≡ Some gate) (sym s-is) ready;
          }

      at : (o : Option Name) → next_visit (reads_of old.state.account r) reading.program ≡ o → IsAgain s
      at None e = let clash : Again s g ≡ Idle = sym again ∙ answer-by None e in cc
      at (Some v) e = by v e (ready-at v) refl

  -- if that shard is made ready, there are fewer left to wait for
  pub visit-readied : (s : ℕ) (readied : CoreView) → IsAgain s → IsCore old.script readied.state → GoesOn old.state.account readied.state.account → MakesReady old.script home s old.state.account readied.state.account → ReadsOnward old.script r home old.state.account readied.state.account true
  visit-readied s readied again core on made = record {
    less = λ t. (
        let few = few-read again.v again.next in
        let shards = one-fewer laws old.script cores.limits old.state.account readied.state.account cores.before.account core.account on reading.begun.stamp s again.gate again.unready (made reading.begun.stamp reading.stamped) old.script.shards again.inside in
        let reads = reads-stay old.script old.state.account readied.state.account cores.before.account core.account on r in
        let was = left-before in
        let now = left-after readied.state.account on in
        omega (arith, few, shards, reads, was, now)
        );
    whole = λ f. cc;
  }

  -- if a core was driven to make that shard ready, there are fewer left to wait for
  pub visit-after : (s : ℕ) (readied : CoreView) → IsAgain s → Drives 0 new readied → MakesReady new.script home s new.state.account readied.state.account → ReadsOnward old.script r home old.state.account readied.state.account true
  visit-after s readied again drives made =
      let core-new : IsCore new.script new.state = subst (λ (k : Script). IsCore k new.state) (sym did.script_is) cores.after in
      let core : IsCore old.script readied.state = subst (λ (k : Script). IsCore k readied.state) did.script_is (drives-core 0 new readied core-new drives) in
      let limits : IsWithinLimits new.script = subst IsWithinLimits (sym did.script_is) cores.limits in
      let on : GoesOn old.state.account readied.state.account = subst (λ (k : CoreState). GoesOn k.account readied.state.account) again.same (drives-on 0 laws new readied limits core-new drives) in
      visit-readied s readied again core on
      (subst (λ (k : CoreState). MakesReady old.script home s k.account readied.state.account) again.same (subst (λ (k : Script). MakesReady k home s new.state.account readied.state.account) did.script_is made))

  -- any other answer says that there is no next vertex
  pub visit-whole : is_other answer ≡ true → ReadsOnward old.script r home old.state.account new.state.account false
  visit-whole other = at (next_visit (reads_of old.state.account r) reading.program) refl
    where
      by : (v : Name) → next_visit (reads_of old.state.account r) reading.program ≡ Some v → (o : Option ℕ) → ready-at v ≡ o → ReadsOnward old.script r home old.state.account new.state.account false
      by v e None ready = let clash : true ≡ false = sym other ∙ ap is_other (answer-by (Some v) e ∙ ap (again_or_ok (shard_of v old.script.shards)) ready) in cc
      by v e (Some gate) ready = let clash : true ≡ false = sym other ∙ ap is_other (answer-by (Some v) e ∙ ap (again_or_ok (shard_of v old.script.shards)) ready) in cc

      at : (o : Option Name) → next_visit (reads_of old.state.account r) reading.program ≡ o → ReadsOnward old.script r home old.state.account new.state.account false
      at (Some v) e = by v e (ready-at v) refl
      at None e =
          let same : new.state ≡ old.state = did.state_is ∙ not-done old.script old.state (Visit r) (ap is_ok (sym did.answer_is ∙ answer-by None e)) in
          record {
            less = λ t. cc;
            whole = λ f request program request-is work-is. (
                let one : Some request ≡ Some reading.request = sym request-is ∙ reading.request_is in
                let request-same : request ≡ reading.request = cc in
                let works : Look program ≡ Look reading.program = sym work-is ∙ ap (λ (q : Request). q.work) request-same ∙ reading.work_is in
                let program-same : program ≡ reading.program = cc in
                ap (λ (s : CoreState). next_visit (reads_of s.account r) program) same ∙ ap (next_visit (reads_of old.state.account r)) program-same ∙ e
                );
          }

-- an answer that is neither
pub other-of : (a : StepAnswer) → (a ≡ Ok → ⊥) → ((s g : ℕ) → a ≡ Again s g → ⊥) → is_other a ≡ true
other-of Ok not-ok not-again = absurd (not-ok refl)
other-of (Again s g) not-ok not-again = absurd (not-again s g refl)
other-of Twice not-ok not-again = refl
other-of Early not-ok not-again = refl
other-of Busy not-ok not-again = refl
other-of Idle not-ok not-again = refl
other-of Old not-ok not-again = refl
other-of Unknown not-ok not-again = refl
other-of Repeat not-ok not-again = refl
other-of Empty not-ok not-again = refl
other-of (Waits v) not-ok not-again = refl

-- reading on, by the script at the middle of a drive, is reading on by the script at its start
pub visits-at : (r home : ℕ) (old middle new : CoreView) (more : Bool) → Drives 0 old middle → ReadsOnward middle.script r home middle.state.account new.state.account more → ReadsOnward old.script r home middle.state.account new.state.account more
visits-at r home old middle new more d v = subst (λ (s : Script). ReadsOnward s r home middle.state.account new.state.account more) d.script_is v
