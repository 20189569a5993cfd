-- The stamps that the oracle's log names are those of begun requests, and different requests have different ids.
-- Used by `begun_stamps_are_coherent` and `stamps_are_begun`.
use Rattle.std.proofs.Common.{◌≡◌, ◌≢◌, List, ◌∷◌, map, get_or, AllPairs, Contains, subst, arith}
use Rattle.std.proofs.lemmas.List.Elements.{Contains-get_or}
use Rattle.weave_data.proofs.Members.{has_map}
use Rattle.vector_stamp.specs.declared.clock.Stamp.{Stamp}
use Rattle.vector_stamp.specs.Order.{id_of}
use Rattle.program_defs.specs.declared.script.Script.{Script}
use Rattle.weave_entries.specs.declared.oracle_log.OracleEntry.{OracleEntry}
use Rattle.weave_entries.specs.GateReplay.{BegunRequest}
use Rattle.weave_entries.specs.OracleReplay.{settled_entry}
use Rattle.weave_account.specs.declared.account.Account.{Account}
use Rattle.weave_account.specs.Account.{all_begun}
use Rattle.weave_account.proofs.Basis.{Basis}
use Rattle.weave_account.proofs.Coherence.{begun-coherent}
use Rattle.weave_account.proofs.KnownClocks.{settled-begun}
use Rattle.weave_account.proofs.PlacedPairs.{one-request}
use Rattle.weave_account.proofs.RepliesClause.{begin-of}

module _ (script : Script) (account : Account) (basis : Basis script account) where
  -- the stamps of all begun requests
  abbrev stamps : List Stamp
  stamps = map (λ (b : BegunRequest). b.stamp) (all_begun account)

  -- the stamps of an entry are among them
  pub settled-in : (entry : OracleEntry) → Contains account.oracle entry → (stamp : Stamp)
      → Contains ((settled_entry entry).later ∷ (settled_entry entry).earlier) stamp
      → Contains (map (λ (b : BegunRequest). b.stamp) (all_begun account)) stamp
  settled-in entry h stamp k =
      let found = settled-begun script account basis entry h stamp k in
      let b = begin-of script account basis found.0 stamp found.1 in
      subst (λ s. Contains stamps s) b.3 (has_map (λ (b : BegunRequest). b.stamp) (all_begun account) b.0 b.1)

  -- two begun requests have different ids
  pub ids-apart : (a b : BegunRequest) → Contains (all_begun account) a → Contains (all_begun account) b → a.request ≢ b.request
      → id_of a.stamp ≢ id_of b.stamp
  ids-apart a b in-a in-b differ same =
      let one : a.stamp ≡ b.stamp =
      (begun-coherent script account basis).one_of_id a.stamp b.stamp (has_map (λ (b : BegunRequest). b.stamp) (all_begun account) a in-a)
      (has_map (λ (b : BegunRequest). b.stamp) (all_begun account) b in-b) same in
      differ (one-request script account basis a b in-a in-b one)

  -- no two begun requests have the same id
  pub ids-differ : AllPairs (λ (a b : BegunRequest). id_of a.stamp ≢ id_of b.stamp) (all_begun account)
  ids-differ i j d below within =
      ids-apart (get_or (all_begun account) i d) (get_or (all_begun account) j d)
      (Contains-get_or (all_begun account) i d (omega (arith, below, within))) (Contains-get_or (all_begun account) j d within)
      (basis.is.gatekeepers.once i j d below within)
