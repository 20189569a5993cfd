use Rattle.std.proofs.Common.{ℕ, List, [], map, get_or, refl, sym, subst}
use Rattle.weave_account.specs.GoesOn.{IsBeginningOf}
use Rattle.seen_logs.specs.Entries.{gate_entries, gate_entry, oracle_entry, shard_entries, shard_entry, store_entry}
use Rattle.seen_logs.proofs.Paired.{begins-made, list-at}
use Rattle.seen_logs.proofs.laws.accounts_have_logs_of_locks.Goals as goal

-- the list at a place goes on if the log there does
place-on : {A B : Type 0} (f : A → B) (xss yss : List (List A)) (i : ℕ) → IsBeginningOf (get_or xss i []) (get_or yss i [])
    → IsBeginningOf (get_or (map (map f) xss) i []) (get_or (map (map f) yss) i [])
place-on f xss yss i on =
    subst (λ l. IsBeginningOf l (get_or (map (map f) yss) i [])) (sym (list-at (map f) refl xss i))
    (subst (λ l. IsBeginningOf (map f (get_or xss i [])) l) (sym (list-at (map f) refl yss i))
    (begins-made f (get_or xss i []) (get_or yss i []) on))

pub returns : goal.returns
returns c = record {
  gate = λ gates store oracle shards home. list-at gate_entries refl gates home;
  shard = λ gates store oracle shards shard. list-at shard_entries refl shards shard;
  more = λ gates next_gates store next_store oracle next_oracle shards next_shards gates_on store_on oracle_on shards_on. record {
    gates = λ home. place-on gate_entry gates next_gates home (gates_on home);
    store = begins-made store_entry store next_store store_on;
    oracle = begins-made oracle_entry oracle next_oracle oracle_on;
    shards = λ shard. place-on shard_entry shards next_shards shard (shards_on shard);
  };
}
