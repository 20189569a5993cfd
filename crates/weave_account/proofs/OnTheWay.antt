-- Each commit is in flight, or its message to the shard of each vertex that it names is on the channel.
-- Used by `commits_are_on_the_way`.
use Rattle.std.proofs.Common.{◌≡◌, ℕ, ◌<◌, List, [], Contains, IsTrue, inl, inr, refl, sym, ap, subst, ◌∙◌, arith}
use Rattle.std.specs.Prelude.{sum}
use Rattle.std.proofs.lemmas.Nat.{mod_below}
use Rattle.weave_data.proofs.Members.{filter_has, has_head}
use Rattle.weave_data.specs.Names.{same_name, shard_of}
use Rattle.weave_data.specs.declared.name.Name.{Name}
use Rattle.graph_ops.specs.declared.part.Part.{Part}
use Rattle.program_defs.specs.declared.script.Script.{Script}
use Rattle.weave_entries.specs.declared.store_log.StoreEntry.{StoreEntry}
use Rattle.weave_entries.specs.Sending.{ops_on}
use Rattle.weave_entries.specs.StoreReplay.{Commit, commits_of, count_naming, names_vertex}
use Rattle.weave_account.specs.declared.account.Account.{Account}
use Rattle.weave_account.specs.OnTheWay.{IsOnChannel, IsOnTheWay}
use Rattle.weave_account.proofs.Basis.{Basis}
use Rattle.weave_account.proofs.Unprocessed.{IsCommitAt, under-way}
use Rattle.weave_account.proofs.Unprocessed as channel

module _ (script : Script) (account : Account) (basis : Basis script account) (v : Name) where
  -- the shard of the vertex is one of the script's
  shard-there : shard_of v script.shards < script.shards
  shard-there = mod_below (sum v) script.shards (let some = basis.limits.some_shard in omega (arith, some))

  module _ (commit : Commit) (place : IsCommitAt account commit) where
    on-channel : (home : ℕ)
        → channel.IsSentTo script account basis (shard_of v script.shards) v refl shard-there home commit place.before
        → IsOnChannel script account commit v (count_naming v (commits_of place.before)) home
    on-channel home on =
        let its : Part = record { vertex = v; before = count_naming v (commits_of on.update.before); ops = ops_on v (on.update.commit).ops } in
        let there =
        filter_has (λ (part : Part). same_name part.vertex v) (on.addressed.message).parts its
        (subst (λ ps. Contains ps its) (sym on.update.parts_are) (has_head its [])) in
        let part : its ≡ record { vertex = v; before = count_naming v (commits_of place.before); ops = ops_on v commit.ops } =
        ap (λ (l : List StoreEntry). record { vertex = v; before = count_naming v (commits_of l); ops = ops_on v (on.update.commit).ops }) on.place_is
        ∙ ap (λ (c : Commit). record { vertex = v; before = count_naming v (commits_of place.before); ops = ops_on v c.ops }) on.commit_is in
        record {
          addressed = on.addressed;
          sent = on.has;
          stamp_is = on.stamp_is;
          part_there = subst (Contains (on.addressed.message).parts) part there.0;
        }

    -- a commit is on its way to the shard of a vertex that it names
    pub on-the-way : IsTrue (names_vertex v commit)
        → IsOnTheWay script account commit v (count_naming v (commits_of place.before))
    on-the-way named =
        let at = under-way script account basis (shard_of v script.shards) v refl shard-there commit place named in
        record { home = at.0; place = elim at.1 [ inl flying ↦ inl flying | inr on ↦ inr (on-channel at.0 on) ] }
