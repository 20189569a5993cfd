-- A fact of both worked runs: what the judgement of a transaction that creates v refers to.
-- Used by ExampleRun and Examples.
use Rattle.std.proofs.Common.{ℕ, [], Contains, refl}
use Rattle.vector_stamp.specs.declared.clock.Stamp.{Stamp}
use Rattle.weave_entries.specs.declared.store_log.StoreDeed.TheVariants.{Judged}
use Rattle.weave_entries.specs.GateReplay.{txs_of}
use Rattle.weave_account.specs.declared.account.Account.{Account}
use Rattle.weave_account.specs.Account.{gate_log}
use Rattle.weave_account.proofs.ExampleParts.{created, creates}
use Rattle.seen_logs.specs.References.{StoreRefersAs}

-- it refers to its begin, and as the first judgement to no other
pub creation-refers : (seen : Account) (author : ℕ) (stamp : Stamp)
    → Contains (txs_of (gate_log seen 0)) (record { author = author; request = 0; stamp = stamp })
    → StoreRefersAs seen [] author (Judged 0 stamp creates [] created)
creation-refers seen author stamp begun = record {
  home = 0;
  begun = begun;
  right = record { number_is = refl; graph = _; passes = refl; counts_are = refl; after_last = λ w named x at. cc };
}
