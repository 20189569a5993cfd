-- A program that has a stamp was begun at its gatekeeper, with that stamp.
-- Used by OpenRuns.
use Rattle.std.proofs.Common.{◌≡◌, ℕ, true, List, [], Contains, IsTrue, Option, None, Some, refl, sym, ap, subst, ◌∙◌}
use Rattle.std.specs.Prelude.{◌==◌, ◌&&◌}
use Rattle.std.specs.List.{find}
use Rattle.std.proofs.lemmas.Bool.{and_parts, both_ways, eq-eqb, eqb-true}
use Rattle.std.proofs.lemmas.Option.{get_or_from_slice_get}
use Rattle.weave_data.proofs.Members.{any_from, cut_at, find_has, flat_has, has_flat, has_none, only}
use Rattle.weave_data.proofs.Ordered.{find_by_key}
use Rattle.vector_stamp.specs.declared.clock.Stamp.{Stamp}
use Rattle.program_defs.specs.Works.{is_change, is_look}
use Rattle.program_defs.specs.declared.script.Request.{Request}
use Rattle.program_defs.specs.declared.script.Script.{Script}
use Rattle.program_defs.specs.declared.script.Work.{Work}
use Rattle.report_rules.specs.Lookups.{is_some_and, request_at}
use Rattle.weave_entries.specs.declared.gate_log.GateEntry.{GateEntry}
use Rattle.weave_entries.specs.declared.gate_log.GateDeed.{GateDeed}
use Rattle.weave_entries.specs.declared.gate_log.GateDeed.TheVariants.{BeganTx, BeganProgram, Sent, Nop, Heard, Raised, Finished}
use Rattle.weave_entries.specs.GateReplay.{BegunRequest, begun_by, begun_in, program_begun, program_by, programs_of}
use Rattle.weave_account.specs.declared.account.Account.{Account}
use Rattle.weave_account.specs.Account.{all_begun, gate_log, stamp_of}
use Rattle.weave_account.specs.Gatekeepers.{BeginsAs}
use Rattle.weave_account.specs.IsAccount.{IsAccount}
use Rattle.weaver_core.proofs.CanVisit.{inside}
use Rattle.weaver_core.proofs.Found.{begun-with}
use Rattle.weaver_core.proofs.Marked.{no-look}
use Rattle.weaver_core.proofs.NoStamp.{none-any}
use Rattle.weaver_core.proofs.Turns.{place-of}

-- the test on the script's request, of the request itself
own-is : (script : Script) (r : ℕ) (request : Request) → request_at script r ≡ Some request → (kind : Work → _) (home : ℕ) → IsTrue (is_some_and (λ (one : Request). (one.gate == home) && kind one.work) (request_at script r)) → (request.gate ≡ home) × (kind request.work ≡ true)
own-is script r request at kind home own =
    let both = and_parts (request.gate == home) (kind request.work) (sym (ap (is_some_and (λ (one : Request). (one.gate == home) && kind one.work)) at) ∙ own) in
    (eqb-true request.gate home both.0, both.1)

module _ (script : Script) (account : Account) (is : IsAccount script account) (r : ℕ) (request : Request) (at : request_at script r ≡ Some request) (looks : is_look request.work ≡ true) where
  -- its begin is that of a program, at its gatekeeper
  deed-is : (home : ℕ) (before : List GateEntry) (author : ℕ) (deed : GateDeed) (b : BegunRequest) → Contains (begun_by author deed) b → b.request ≡ r → BeginsAs script account home before deed → (request.gate ≡ home) × Contains (program_by author deed) b
  deed-is home before author (BeganTx q stamp) b h same begins =
      let one : q ≡ r = ap (λ (c : BegunRequest). c.request) (only (record { author = author; request = q; stamp = stamp }) b h) ∙ same in
      let own = own-is script r request at is_change home (subst (λ n. IsTrue (is_some_and (λ (c : Request). (c.gate == home) && is_change c.work) (request_at script n))) one begins.own) in
      absurd (no-look request.work looks own.1)
  deed-is home before author (BeganProgram q stamp) b h same begins =
      let one : q ≡ r = ap (λ (c : BegunRequest). c.request) (only (record { author = author; request = q; stamp = stamp }) b h) ∙ same in
      let own = own-is script r request at is_look home (subst (λ n. IsTrue (is_some_and (λ (c : Request). (c.gate == home) && is_look c.work) (request_at script n))) one begins.own) in
      (own.0, h)
  deed-is home before author (Sent q messages) b h same begins = absurd (has_none b h)
  deed-is home before author (Nop to number stamp low) b h same begins = absurd (has_none b h)
  deed-is home before author (Heard clock) b h same begins = absurd (has_none b h)
  deed-is home before author (Raised epoch) b h same begins = absurd (has_none b h)
  deed-is home before author (Finished q) b h same begins = absurd (has_none b h)

  abbrev log : List GateEntry
  log = gate_log account request.gate

  begun-there : (b : BegunRequest) → Contains (all_begun account) b → b.request ≡ r → Contains (programs_of log) b
  begun-there b has same =
      let one = flat_has begun_in account.gates b has in
      let home = place-of account.gates one.0 one.1 in
      let log-is : gate_log account home.0 ≡ one.0 = get_or_from_slice_get account.gates home.0 one.0 [] home.1 in
      let entry = flat_has (λ (e : GateEntry). begun_by e.author e.deed) (gate_log account home.0) b (subst (λ (l : List GateEntry). Contains (begun_in l) b) (sym log-is) one.2) in
      let cut = cut_at (gate_log account home.0) entry.0 entry.1 in
      let deed = deed-is home.0 cut.before entry.0.author entry.0.deed b entry.2 same (is.gatekeepers.begins home.0 cut.before entry.0 cut.after cut.is) in
      subst (λ n. Contains (programs_of (gate_log account n)) b) (sym deed.0) (has_flat (λ (e : GateEntry). program_by e.author e.deed) (gate_log account home.0) entry.0 b entry.1 deed.1)

  first-is : (b : BegunRequest) → Contains (all_begun account) b → b.request ≡ r → program_begun r log ≡ Some b
  first-is b has same = by (program_begun r log) refl
    where
      there : Contains (programs_of log) b
      there = begun-there b has same

      by : (o : Option BegunRequest) → program_begun r log ≡ o → program_begun r log ≡ Some b
      by None e = absurd (both_ways _ (none-any (λ (c : BegunRequest). c.request == r) (programs_of log) e) (any_from (λ (c : BegunRequest). c.request == r) (programs_of log) b there (eq-eqb b.request r same)))
      by (Some c) e =
          let found = find_has (λ (one : BegunRequest). one.request == r) (programs_of log) c e in
          let c-is = eqb-true c.request r found.1 in
          let both : Some c ≡ Some b =
          sym (find_by_key (λ (one : BegunRequest). one.request) (all_begun account) c is.gatekeepers.once (inside c account.gates request.gate found.0))
          ∙ ap (λ n. find (λ (one : BegunRequest). one.request == n) (all_begun account)) (c-is ∙ sym same)
          ∙ find_by_key (λ (one : BegunRequest). one.request) (all_begun account) b is.gatekeepers.once has in
          e ∙ both

  -- a program that has a stamp was begun with it at its gatekeeper, by some author
  pub begun-at : (stamp : Stamp) → stamp_of account r ≡ Some stamp → (author : ℕ) × (program_begun r log ≡ Some (record { author = author; request = r; stamp = stamp }))
  begun-at stamp stamped =
      let from = begun-with script account is r stamp stamped in
      let b = from.0 in
      (b.author, first-is b from.1.0 from.1.1.0 ∙ (λ i. Some (record { author = b.author; request = from.1.1.0 i; stamp = from.1.1.1 i })))
