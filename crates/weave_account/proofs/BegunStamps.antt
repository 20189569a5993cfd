-- The stamp of a begun request is one of the script: its home is a gatekeeper of it, and it counts no events of others.
-- Used by FormOfScript, KnownClocks and PhasePrecedence.
use Rattle.std.proofs.Common.{◌≡◌, ℕ, zero, suc, ◌≤◌, ◌==◌, List, [], ◌∷◌, length, get_or, drop, Contains, IsTrue, refl, subst, arith}
use Rattle.std.specs.List.{list_all}
use Rattle.std.proofs.lemmas.Bool.{and_from, eq-eqb, lt-ltb}
use Rattle.weave_data.proofs.Members.{has_none, has_head, has_flat, only}
use Rattle.vector_stamp.specs.Order.{count_of, has_64_bits}
use Rattle.program_defs.specs.declared.script.Script.{Script}
use Rattle.weave_entries.specs.declared.gate_log.GateEntry.{GateEntry}
use Rattle.weave_entries.specs.declared.gate_log.GateDeed.{GateDeed}
use Rattle.weave_entries.specs.declared.gate_log.GateDeed.TheVariants.{BeganTx, BeganProgram, Sent, Nop, Heard, Raised, Finished}
use Rattle.weave_entries.specs.GateReplay.{BegunRequest, begun_by, begun_in, clocks_by, clocks_in, ticks_of}
use Rattle.report_rules.specs.ReportOf.{is_stamp_of}
use Rattle.weave_account.specs.declared.account.Account.{Account}
use Rattle.weave_account.specs.Account.{gate_log}
use Rattle.weave_data.proofs.Images.{flat-has}
use Rattle.weave_account.proofs.Replying.{home-within}
use Rattle.weave_account.proofs.Basis.{Basis}

-- the clock of a begin is one of its deed
begun-clock : (author : ℕ) (deed : GateDeed) (begun : BegunRequest) → Contains (begun_by author deed) begun
    → Contains (clocks_by deed) begun.stamp.clock
begun-clock author (BeganTx r stamp) begun h =
    subst (λ (b : BegunRequest). Contains (stamp.clock ∷ []) b.stamp.clock) (only _ begun h) (has_head stamp.clock [])
begun-clock author (BeganProgram r stamp) begun h =
    subst (λ (b : BegunRequest). Contains (stamp.clock ∷ []) b.stamp.clock) (only _ begun h) (has_head stamp.clock [])
begun-clock author (Sent r messages) begun h = absurd (has_none begun h)
begun-clock author (Nop shard number stamp low) begun h = absurd (has_none begun h)
begun-clock author (Heard clock) begun h = absurd (has_none begun h)
begun-clock author (Raised epoch) begun h = absurd (has_none begun h)
begun-clock author (Finished r) begun h = absurd (has_none begun h)

-- the clock of a begun request is one of its gatekeeper's log
pub clock-there : (log : List GateEntry) (begun : BegunRequest) → Contains (begun_in log) begun
    → Contains (clocks_in log) begun.stamp.clock
clock-there log begun h =
    let entry = flat-has (λ (e : GateEntry). begun_by e.author e.deed) log begun h in
    has_flat (λ (e : GateEntry). clocks_by e.deed) log entry.0 begun.stamp.clock entry.1.0
    (begun-clock (entry.0).author (entry.0).deed begun entry.1.1)

-- if each count from some place on is 0, the rest of the counts are 0
zeros : (counts : List ℕ) (from : ℕ) → ((i : ℕ) → from ≤ i → get_or counts i 0 ≡ 0)
    → IsTrue (list_all (λ count. count == 0) (drop from counts))
zeros [] zero none = refl
zeros [] (suc from) none = refl
zeros (count ∷ counts) zero none =
    and_from _ _ (eq-eqb count 0 (none 0 (omega arith))) (zeros counts zero (λ i le. none (suc i) (omega arith)))
zeros (count ∷ counts) (suc from) none = zeros counts from (λ i le. none (suc i) (omega (arith, le)))

-- past the last of the lists there is none
none-past : {A : Type 0} (xss : List (List A)) (i : ℕ) → length xss ≤ i → get_or xss i [] ≡ []
none-past [] i le = refl
none-past (xs ∷ xss) zero le = absurd (omega (arith, le))
none-past (xs ∷ xss) (suc i) le = none-past xss i (omega (arith, le))

module _ (script : Script) (account : Account) (basis : Basis script account) where
  -- a known clock counts no event of a gatekeeper that the script hasn't
  pub stamp-of-script : (home : ℕ) (begun : BegunRequest) → Contains (begun_in (gate_log account home)) begun
      → IsTrue (has_64_bits begun.stamp.clock) → begun.stamp.home ≡ home → IsTrue (is_stamp_of script begun.stamp)
  stamp-of-script home begun there small home-is =
      let within = home-within script account basis home begun there in
      let known = basis.is.clocks.known home begun.stamp.clock (clock-there (gate_log account home) begun there) in
      let as-many = basis.is.gatekeepers.as_many in
      and_from _ _ (and_from _ _ (and_from _ _ (lt-ltb begun.stamp.home script.gates (omega (arith, within, home-is))) (eq-eqb (length begun.stamp.clock.counts) 8 known.eight))
      (zeros begun.stamp.clock.counts script.gates (λ i past.
      let none : gate_log account i ≡ [] = none-past account.gates i (omega (arith, past, as-many)) in
      let counts : count_of i begun.stamp.clock ≤ 0 =
      subst (λ (log : List GateEntry). count_of i begun.stamp.clock ≤ ticks_of begun.stamp.clock.epoch log) none (known.counts i) in
      omega (arith, counts)))) small
