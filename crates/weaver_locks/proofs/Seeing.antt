-- What the passes of a hand have seen, as an account.
-- Used by Beside, ShardEntered, ShardLeft, ShardVisited, StoreEntered and StoreLeft.
use Rattle.std.proofs.Common.{◌≡◌, ℕ, List, [], ◌∷◌, ◌++◌, map, get_or, refl, ap, ◌∙◌, subst}
use Rattle.std.proofs.lemmas.List.{append_assoc, map-append}
use Rattle.weave_entries.specs.declared.gate_log.GateEntry.{GateEntry}
use Rattle.weave_entries.specs.declared.gate_log.GateDeed.{GateDeed}
use Rattle.weave_entries.specs.declared.shard_log.ShardEntry.{ShardEntry}
use Rattle.weave_account.specs.declared.account.Account.{Account}
use Rattle.weave_account.specs.Account.{gate_log, shard_log}
use Rattle.weave_account.specs.GoesOn.{IsBeginningOf}
use Rattle.weave_account.proofs.GoesOn.{whole}
use Rattle.seen_logs.specs.Entries.{gate_entries, shard_entries, shard_pairs}
use Rattle.seen_logs.specs.Seen.{GatesGoOn}
use Rattle.chronicle.specs.declared.pass.Pass.{Pass}
use Rattle.chronicle.specs.Passes.{seen_by_pass}
use Rattle.oracle_lock.specs.Seen.{gates_seen}
use Rattle.weaver_locks.specs.declared.hand.Hand.{Hand}
use Rattle.weaver_locks.specs.Hands.{seen_by}
use Rattle.weaver_locks.proofs.Rows.{image_or, image_twice}

-- a log of a shard that is made pairs of and back is as it was
pub shards_back : (log : List ShardEntry) → shard_entries (shard_pairs log) ≡ log
shards_back [] = refl
shards_back (entry ∷ log) = ap (λ (l : List ShardEntry). entry ∷ l) (shards_back log)

-- the logs of an account of what passes have seen
pub gate_at : (hand : Hand) (home : ℕ) → gate_log (seen_by hand) home ≡ gate_entries (get_or (map seen_by_pass hand.gates.items) home [])
gate_at hand home = image_or gate_entries (map seen_by_pass hand.gates.items) home [] [] refl

-- what a hand has seen of a shard's log is what its pass of that shard's lock has seen
pub shard_at : (hand : Hand) (shard : ℕ) → shard_log (seen_by hand) shard ≡ shard_entries (get_or (map seen_by_pass hand.shards.items) shard [])
shard_at hand shard = image_or shard_entries (map seen_by_pass hand.shards.items) shard [] [] refl

-- the gatekeepers' logs, as the machines of other locks name them
pub gates_named : (passes : List (Pass GateDeed)) → map gate_entries (map seen_by_pass passes) ≡ gates_seen passes
gates_named passes = image_twice seen_by_pass gate_entries passes

-- accounts with the same logs of gatekeepers go on to each other
pub same_gates : (one two : Account) → one.gates ≡ two.gates → GatesGoOn one two
same_gates one two is home =
    subst (λ (l : List (List GateEntry)). IsBeginningOf (get_or one.gates home []) (get_or l home [])) is (whole (get_or one.gates home []))

-- what begins a list begins each that it begins
pub begins_longer : {A : Type 0} (a b more : List A) → IsBeginningOf a b → IsBeginningOf a (b ++ more)
begins_longer {A} a b more on = (on.0 ++ more, ap (λ (l : List A). l ++ more) on.1 ∙ append_assoc a on.0 more)

-- the images of a beginning of a list begin the images of the list
pub mapped_more : {A B : Type 0} (f : A → B) (a b : List A) → IsBeginningOf a b → IsBeginningOf (map f a) (map f b)
mapped_more {A} {B} f a b on = (map f on.0, ap (λ (l : List A). map f l) on.1 ∙ map-append f a on.0)
