-- What follows from a clause on a result, for each value that it can have.
-- Used by `apply`, `apply_in`, `arrive`, `begin`, `begin_change`, `begin_in`, `collect`, `deliver`, `finish`, `hear`,
-- `judge`, `nop`, `other_step`, `raise`, `raise_at`, `reply`, `reply_in`, `reply_to_change`, `reply_to_program`,
-- `report`, `restart`, `send`, `state_of`, `state_of_begun`, `step`, `unordered`, `visit` and `visit_with`.
use Rattle.std.proofs.Common.{◌≡◌, ℕ, ◌<◌, ◌≤◌, not, nat_lt, Result, Ok, Err, IfOk, IfErr, OnOk, OnErr, refl, ap}
use Rattle.std.proofs.lemmas.Bool.{le-ltb, lt-ltb}
use Rattle.gatekeeper.specs.Answers.{IsRefusedWhere}
use Rattle.gatekeeper.specs.declared.fault.GateFault.{GateFault}
use Rattle.gatekeeper.specs.declared.fault.GateFault.TheVariants as fault

-- what follows from a clause on the value of a result holds of that value
pub if_ok_map : {A E : Type 0} (result : Result A E) (P Q : A → Type 0) → ((a : A) → P a → Q a) → IfOk result P → IfOk result Q
if_ok_map (Ok a) P Q go p = go a p
if_ok_map (Err e) P Q go p = tt

-- a clause on success follows if it follows from two clauses that hold on success
pub if_ok_two : {A E : Type 0} (result : Result A E) (P R Q : A → Type 0) → ((a : A) → P a → R a → Q a) → IfOk result P → IfOk result R → IfOk result Q
if_ok_two (Ok a) P R Q go p r = go a p r
if_ok_two (Err e) P R Q go p r = tt

-- and so does what follows from two things that hold after an error
pub on_err_both : {A E : Type 0} (result : Result A E) (P R Q : Type 0) → (P → R → Q) → OnErr result P → OnErr result R → OnErr result Q
on_err_both (Ok a) P R Q go p r = tt
on_err_both (Err e) P R Q go p r = go p r

-- one of two clauses gives it, whichever way a call ends
pub either_way : {A E : Type 0} (result : Result A E) (P : A → Type 0) (R X : Type 0) → ((a : A) → P a → X) → (R → X) → IfOk result P → OnErr result R → X
either_way (Ok a) P R X done refused p r = done a p
either_way (Err e) P R X done refused p r = refused r

-- what follows from a clause on success, and from one on errors, holds of any result for which both hold
pub on_either : {A E : Type 0} (result : Result A E) (P R X : Type 0) → (P → X) → (R → X) → OnOk result P → OnErr result R → X
on_either (Ok a) P R X done refused p r = done p
on_either (Err e) P R X done refused p r = refused r

-- raising an epoch is refused exactly if that epoch was reached
pub refused-where : {U : Type 0} (result : Result U GateFault) (now epoch : ℕ) (Adds : Type 0) → OnOk result ((now < epoch) × Adds)
    → IfErr result (λ why. (why ≡ fault.Old) × (epoch ≤ now)) → IsRefusedWhere fault.Old (not (nat_lt now epoch)) result
refused-where (Ok u) now epoch Adds raised old = ap not (lt-ltb now epoch raised.0)
refused-where (Err fault.Old) now epoch Adds raised old = (refl, ap not (le-ltb now epoch old.1))
refused-where (Err fault.Memory) now epoch Adds raised old = tt
refused-where (Err fault.Busy) now epoch Adds raised old = absurd (let e : fault.Busy ≡ fault.Old = old.0 in cc)
refused-where (Err fault.Idle) now epoch Adds raised old = absurd (let e : fault.Idle ≡ fault.Old = old.0 in cc)

-- what follows from three clauses on the value of a result holds of that value
pub if_ok_three : {A E : Type 0} (result : Result A E) (P R S Q : A → Type 0) → ((a : A) → P a → R a → S a → Q a) → IfOk result P → IfOk result R → IfOk result S → IfOk result Q
if_ok_three (Ok a) P R S Q go p r s = go a p r s
if_ok_three (Err e) P R S Q go p r s = tt

-- what follows from two things that hold on success holds on success
pub on_ok_two : {A E : Type 0} (result : Result A E) (P R Q : Type 0) → (P → R → Q) → OnOk result P → OnOk result R → OnOk result Q
on_ok_two (Ok a) P R Q go p r = go p r
on_ok_two (Err e) P R Q go p r = tt

-- whichever way a call ends a thing holds, if one clause on success leads to it, and two after an error
pub either_both : {A E : Type 0} (result : Result A E) (P : A → Type 0) (R S X : Type 0) → ((a : A) → P a → X) → (R → S → X) → IfOk result P → OnErr result R → OnErr result S → X
either_both (Ok a) P R S X done refused p r s = done a p
either_both (Err e) P R S X done refused p r s = refused r s

-- what follows from two clauses on success, and from one on errors, holds of a result for which all three hold
pub either_two : {A E : Type 0} (result : Result A E) (P S : A → Type 0) (R X : Type 0) → ((a : A) → P a → S a → X) → (R → X) → IfOk result P → IfOk result S → OnErr result R → X
either_two (Ok a) P S R X done refused p s r = done a p s
either_two (Err e) P S R X done refused p s r = refused r
