-- The stamps of all begun requests are coherent.
-- Used by `begun_stamps_are_coherent` and PairEnds.
use Rattle.std.proofs.Common.{◌≡◌, ℕ, ◌<◌, ◌≤◌, length, map, Contains, sym, ap, subst, arith}
use Rattle.vector_stamp.specs.declared.clock.EventId.{EventId}
use Rattle.vector_stamp.specs.declared.clock.Stamp.{Stamp}
use Rattle.vector_stamp.specs.Coherence.{AreCoherent}
use Rattle.program_defs.specs.declared.script.Script.{Script}
use Rattle.weave_entries.specs.declared.gate_log.GateEntry.{GateEntry}
use Rattle.weave_entries.specs.GateReplay.{BegunRequest, begun_by, begun_in, stamps_of}
use Rattle.weave_entries.specs.GateRules.{IsGateLog}
use Rattle.weave_account.specs.declared.account.Account.{Account}
use Rattle.weave_account.specs.Account.{gate_log, all_begun}
use Rattle.weave_account.specs.LowerLaws.{LawsForAccounts}
use Rattle.weave_data.proofs.Images.{flat-has, map-has, within-list}
use Rattle.weave_account.proofs.Replying.{place-of}
use Rattle.weave_account.proofs.Basis.{Basis}

-- As far as the logs of the gatekeepers were seen

module _ (laws : LawsForAccounts) (shards : ℕ) (account : Account) (few : length account.gates ≤ 8) (logs : (home : ℕ) → IsGateLog home shards (gate_log account home)) where
  -- where a begun stamp is
  record IsStampAt (stamp : Stamp) : Type 0 where
    below : stamp.home < 8
    all : AreCoherent (stamps_of (gate_log account stamp.home))
    has : Contains (stamps_of (gate_log account stamp.home)) stamp

  stamp-at : (stamp : Stamp) → Contains (map (λ (b : BegunRequest). b.stamp) (all_begun account)) stamp → IsStampAt stamp
  stamp-at stamp h =
      let image = map-has (λ (b : BegunRequest). b.stamp) (all_begun account) stamp h in
      let log = flat-has begun_in account.gates image.of image.has in
      let home = place-of account.gates log.0 log.1.0 in
      let there : Contains (begun_in (gate_log account home.0)) image.of = subst (λ l. Contains (begun_in l) image.of) (sym home.1) log.1.1 in
      let entry = flat-has (λ (e : GateEntry). begun_by e.author e.deed) (gate_log account home.0) image.of there in
      let within = within-list account.gates home.0 entry.0 entry.1.0 in
      let below : home.0 < 8 = omega (arith, within, few) in
      let own : Contains (stamps_of (gate_log account home.0)) stamp =
      subst (λ s. Contains (stamps_of (gate_log account home.0)) s) image.is (laws.own_stamp (gate_log account home.0) image.of there) in
      let home-is : home.0 ≡ stamp.home = sym (laws.stamps_home home.0 shards (gate_log account home.0) below (logs home.0) stamp own) in
      record {
        below = subst (λ n. n < 8) home-is below;
        all = subst (λ n. AreCoherent (stamps_of (gate_log account n))) home-is (laws.coherent home.0 shards (gate_log account home.0) below (logs home.0));
        has = subst (λ n. Contains (stamps_of (gate_log account n)) stamp) home-is own;
      }

  -- the stamps of all begun requests are coherent
  pub seen-coherent : AreCoherent (map (λ (b : BegunRequest). b.stamp) (all_begun account))
  seen-coherent =
      record {
        homes = λ a ha. (stamp-at a ha).below;
        one_of_id = λ a b ha hb same.
            let x = stamp-at a ha in
            let y = stamp-at b hb in
            let home : a.home ≡ b.home = ap (λ (id : EventId). id.home) same in
            x.all.one_of_id a b x.has (subst (λ n. Contains (stamps_of (gate_log account n)) b) (sym home) y.has) same;
        by_ids = λ a b ha hb home before.
            let x = stamp-at a ha in
            let y = stamp-at b hb in
            x.all.by_ids a b x.has (subst (λ n. Contains (stamps_of (gate_log account n)) b) (sym home) y.has) home before;
      }

-- In an account

-- this holds in an account
pub begun-coherent : (script : Script) (account : Account) → Basis script account
    → AreCoherent (map (λ (b : BegunRequest). b.stamp) (all_begun account))
begun-coherent script account basis =
    let as-many = basis.is.gatekeepers.as_many in
    let few = basis.limits.few_gates in
    seen-coherent basis.laws script.shards account (omega (arith, as-many, few)) basis.is.gatekeepers.logs
