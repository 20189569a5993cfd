-- A request that was begun has its stamp.
-- Used by BegunElsewhere, ConflictsClause, FinalReplies, Growing, InSession, KnownClocks, Meeting, OneReport,
-- OpenRequests, PhaseOrder, PhasePrecedence, PhasesKept, PlacedPairs, ReadingPlace, Storing, VisitedPairs and 6 crates
-- above.
use Rattle.std.proofs.Common.{◌≡◌, ◌≢◌, ℕ, zero, suc, List, [], ◌∷◌, ◌++◌, get_or, Contains, AllPairs, Some, ap}
use Rattle.std.specs.Option.{option_map}
use Rattle.weave_data.proofs.Members.{has_head, has_tail, has_none, has_flat}
use Rattle.vector_stamp.specs.declared.clock.Stamp.{Stamp}
use Rattle.weave_entries.specs.declared.gate_log.GateEntry.{GateEntry}
use Rattle.weave_entries.specs.GateReplay.{BegunRequest, tx_by, program_by, txs_of, programs_of, begun_in}
use Rattle.weave_entries.proofs.OwnStamps.{program-begun, tx-begun}
use Rattle.weave_account.specs.declared.account.Account.{Account}
use Rattle.weave_account.specs.Account.{gate_log, all_begun, stamp_of}
use Rattle.weave_data.proofs.Images.{flat-has}
use Rattle.weave_data.proofs.Ordered.{find_by_key}

-- a list that has something is one of the lists
pub list-there : {A : Type 0} (xss : List (List A)) (i : ℕ) (y : A) → Contains (get_or xss i []) y
    → Contains xss (get_or xss i [])
list-there [] i y h = absurd (has_none y h)
list-there (xs ∷ xss) zero y h = has_head xs xss
list-there (xs ∷ xss) (suc i) y h = has_tail xs xss (get_or xss i []) (list-there xss i y h)

-- what was begun at one gatekeeper was begun
pub all-in : (account : Account) (home : ℕ) (begun : BegunRequest) → Contains (begun_in (gate_log account home)) begun
    → Contains (all_begun account) begun
all-in account home begun h =
    let entry =
    flat-has (λ (entry : GateEntry). tx_by entry.author entry.deed ++ program_by entry.author entry.deed) (gate_log account home) begun h in
    has_flat begun_in account.gates (gate_log account home) begun (list-there account.gates home entry.0 entry.1.0) h

module _ (account : Account) (once : AllPairs (λ (a b : BegunRequest). a.request ≢ b.request) (all_begun account)) where
  -- what was begun at one gatekeeper is among all that was
  pub all-has : (home : ℕ) (begun : BegunRequest) → Contains (begun_in (gate_log account home)) begun
      → Contains (all_begun account) begun
  all-has home begun h =
      let entry =
      flat-has (λ (entry : GateEntry). tx_by entry.author entry.deed ++ program_by entry.author entry.deed) (gate_log account home) begun h in
      has_flat begun_in account.gates (gate_log account home) begun (list-there account.gates home entry.0 entry.1.0) h

  -- a begun request has the stamp of its begin
  pub begun-stamp : (begun : BegunRequest) → Contains (all_begun account) begun → stamp_of account begun.request ≡ Some begun.stamp
  begun-stamp begun h =
      ap (option_map (λ (b : BegunRequest). b.stamp)) (find_by_key (λ (b : BegunRequest). b.request) (all_begun account) begun once h)

  -- a transaction has the stamp of its begin
  pub tx-stamp : (home author r : ℕ) (stamp : Stamp)
      → Contains (txs_of (gate_log account home)) (record { author = author; request = r; stamp = stamp })
      → stamp_of account r ≡ Some stamp
  tx-stamp home author r stamp h = begun-stamp _ (all-has home _ (tx-begun (gate_log account home) _ h))

  -- if a gatekeeper's log begins a program, the account has the stamp of that begin for its request
  pub program-stamp : (home author r : ℕ) (stamp : Stamp)
      → Contains (programs_of (gate_log account home)) (record { author = author; request = r; stamp = stamp })
      → stamp_of account r ≡ Some stamp
  program-stamp home author r stamp h = begun-stamp _ (all-has home _ (program-begun (gate_log account home) _ h))
