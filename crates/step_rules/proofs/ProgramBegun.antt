-- A begun request that is a program was begun as one, at its own gatekeeper.
-- Used by Replying and VisitStep.
use Rattle.std.proofs.Common.{◌≡◌, ℕ, suc, ◌==◌, Bool, true, false, List, [], ◌∷◌, Contains, IsTrue, Option, None, Some, inl, inr, refl, sym, ap, subst, ◌∙◌, get_or}
use Rattle.std.specs.Prelude.{is_some, ◌&&◌}
use Rattle.std.specs.List.{find}
use Rattle.std.specs.Option.{option_map}
use Rattle.std.proofs.lemmas.Bool.{and_parts, both_ways, eqb-true}
use Rattle.std.proofs.lemmas.List.Elements.{Contains-append_cases}
use Rattle.weave_data.proofs.Members.{cut_at, find_has, flat_has, has_flat, has_none, has_read, only}
use Rattle.program_defs.specs.declared.program.Program.{Program}
use Rattle.program_defs.specs.declared.script.Request.{Request}
use Rattle.program_defs.specs.declared.script.Script.{Script}
use Rattle.program_defs.specs.declared.script.Work.{Work}
use Rattle.program_defs.specs.declared.script.Work.TheVariants.{Look}
use Rattle.program_defs.specs.Works.{is_change, is_look}
use Rattle.report_rules.specs.Lookups.{is_some_and, request_at}
use Rattle.weave_entries.specs.declared.gate_log.GateEntry.{GateEntry}
use Rattle.weave_entries.specs.declared.gate_log.GateDeed.{GateDeed}
use Rattle.weave_entries.specs.declared.gate_log.GateDeed.TheVariants.{BeganTx, BeganProgram, Sent, Nop, Heard, Raised, Finished}
use Rattle.weave_entries.specs.GateReplay.{BegunRequest, begun_by, begun_in, program_by, programs_of, tx_by}
use Rattle.weave_account.specs.declared.account.Account.{Account}
use Rattle.weave_account.specs.Account.{all_begun, gate_log, stamp_of}
use Rattle.weave_account.specs.Gatekeepers.{BeginsAs}
use Rattle.weave_account.specs.IsAccount.{IsAccount}

-- a list of lists has each of its members at some place
pub list-place : {A : Type 0} (xss : List (List A)) (xs : List A) → Contains xss xs → (i : ℕ) × (get_or xss i [] ≡ xs)
list-place [] xs h = absurd (has_none xs h)
list-place (ys ∷ xss) xs h = elim (has_read ys xss xs h) [
  | inl same ↦ (0, same)
  | inr more ↦ (let rest = list-place xss xs more in (suc rest.0, rest.1))
]

-- the request is one of this gatekeeper, and of this kind
abbrev IsOwn : Script → (Work → Bool) → ℕ → ℕ → Type 0
IsOwn script is_kind home r = IsTrue (is_some_and (λ (request : Request). (request.gate == home) && is_kind request.work) (request_at script r))

module _ (script : Script) (account : Account) (home : ℕ) (before : List GateEntry) where
  tx-own : (author : ℕ) (deed : GateDeed) (b : BegunRequest) → BeginsAs script account home before deed → Contains (tx_by author deed) b → IsOwn script is_change home b.request
  tx-own author (BeganTx r stamp) b begins h = subst (λ (c : BegunRequest). IsOwn script is_change home c.request) (only (record { author = author; request = r; stamp = stamp }) b h) begins.own
  tx-own author (BeganProgram r stamp) b begins h = absurd (has_none b h)
  tx-own author (Sent r messages) b begins h = absurd (has_none b h)
  tx-own author (Nop to number stamp low) b begins h = absurd (has_none b h)
  tx-own author (Heard clock) b begins h = absurd (has_none b h)
  tx-own author (Raised epoch) b begins h = absurd (has_none b h)
  tx-own author (Finished r) b begins h = absurd (has_none b h)

  program-own : (author : ℕ) (deed : GateDeed) (b : BegunRequest) → BeginsAs script account home before deed → Contains (program_by author deed) b → IsOwn script is_look home b.request
  program-own author (BeganProgram r stamp) b begins h = subst (λ (c : BegunRequest). IsOwn script is_look home c.request) (only (record { author = author; request = r; stamp = stamp }) b h) begins.own
  program-own author (BeganTx r stamp) b begins h = absurd (has_none b h)
  program-own author (Sent r messages) b begins h = absurd (has_none b h)
  program-own author (Nop to number stamp low) b begins h = absurd (has_none b h)
  program-own author (Heard clock) b begins h = absurd (has_none b h)
  program-own author (Raised epoch) b begins h = absurd (has_none b h)
  program-own author (Finished r) b begins h = absurd (has_none b h)

module _ (script : Script) (account : Account) (is : IsAccount script account) (r : ℕ) (request : Request) (request-is : request_at script r ≡ Some request) (program : Program) (look : request.work ≡ Look program) where
  -- as the gatekeepers say, it was begun as a program at its own
  pub record IsBegunProgram : Type 0 where
    pub begun : BegunRequest
    pub there : Contains (programs_of (gate_log account request.gate)) begun
    pub request_is : IsTrue (begun.request == r)

  at-its-own : (b : BegunRequest) (home : ℕ) → IsTrue (b.request == r) → Contains (begun_in (gate_log account home)) b → IsBegunProgram
  at-its-own b home same h =
      let from = flat_has (λ (e : GateEntry). begun_by e.author e.deed) (gate_log account home) b h in
      let cut = cut_at (gate_log account home) from.0 from.1 in
      let begins = is.gatekeepers.begins home cut.before from.0 cut.after cut.is in
      let at : request_at script b.request ≡ Some request = ap (request_at script) (eqb-true b.request r same) ∙ request-is in
      elim (Contains-append_cases (tx_by from.0.author from.0.deed) (program_by from.0.author from.0.deed) b from.2) [
        | inl tx ↦ no-change home (subst (λ o. IsTrue (is_some_and (λ (q : Request). (q.gate == home) && is_change q.work) o)) at (tx-own script account home cut.before from.0.author from.0.deed b begins tx))
        | inr one ↦
            let own = subst (λ o. IsTrue (is_some_and (λ (q : Request). (q.gate == home) && is_look q.work) o)) at (program-own script account home cut.before from.0.author from.0.deed b begins one) in
            let gate : request.gate ≡ home = eqb-true request.gate home (and_parts (request.gate == home) (is_look request.work) own).0 in
            record {
              begun = b;
              there = subst (λ n. Contains (programs_of (gate_log account n)) b) (sym gate) (has_flat (λ (e : GateEntry). program_by e.author e.deed) (gate_log account home) from.0 b from.1 one);
              request_is = same;
            }
      ]
    where
      no-change : (home : ℕ) → IsTrue ((request.gate == home) && is_change request.work) → IsBegunProgram
      no-change home h = absurd (both_ways (is_change (Look program)) refl (subst (λ w. IsTrue (is_change w)) look (and_parts (request.gate == home) (is_change request.work) h).1))

  -- a program that has a stamp was begun as a program at its own gatekeeper
  pub program-there : is_some (stamp_of account r) ≡ true → IsBegunProgram
  program-there some = at (find (λ (b : BegunRequest). b.request == r) (all_begun account)) refl some
    where
      at : (o : Option BegunRequest) → find (λ (b : BegunRequest). b.request == r) (all_begun account) ≡ o → is_some (option_map (λ (b : BegunRequest). b.stamp) o) ≡ true → IsBegunProgram
      at None e h = absurd (both_ways false refl h)
      at (Some b) e h =
          let has = find_has (λ (one : BegunRequest). one.request == r) (all_begun account) b e in
          let log = flat_has begun_in account.gates b has.0 in
          let home = list-place account.gates log.0 log.1 in
          at-its-own b home.0 has.1 (subst (λ l. Contains (begun_in l) b) (sym home.1) log.2)
