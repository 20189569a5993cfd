-- What each thing that a client's worker does leaves of what its hand has read, of the store's entries and of the
-- session's log.
-- Used by OwnPrograms, Parts, RepliesKept, TurnsKept and crate sessions_account.
use Rattle.std.proofs.Common.{◌≡◌, ◌≢◌, inl, inr, ℕ, List, [], ◌∷◌, ◌++◌, Contains, Some, sym, ap, ◌∙◌, subst, append_assoc}
use Rattle.std.proofs.lemmas.List.{append-nil}
use Rattle.program_defs.specs.declared.script.Script.{Script}
use Rattle.weave_entries.specs.declared.session_log.SessionEntry.{SessionEntry}
use Rattle.weave_entries.specs.declared.store_log.StoreDeed.TheVariants.{Judged}
use Rattle.weave_entries.specs.declared.store_log.StoreEntry.{StoreEntry}
use Rattle.weave_entries.specs.SessionReplay.{replied_in}
use Rattle.weave_entries.specs.StoreReplay.{commits_of}
use Rattle.weave_entries.specs.StoreRule.{asked_vertices, lasts_of}
use Rattle.weave_account.specs.declared.account.Account.{Account}
use Rattle.weave_account.specs.GoesOn.{IsBeginningOf}
use Rattle.weaver_core.specs.declared.walks.Running.{Running}
use Rattle.weaver_core.specs.Sessions.{log_of_client}
use Rattle.weaver_locks.specs.declared.hand.Hand.{Hand}
use Rattle.weaver_locks.specs.declared.shared.Shared.{Shared}
use Rattle.weaver_locks.specs.Hands.{hand_number, made_by, IsHand}
use Rattle.weaver_locks.specs.Locks.{gate_count, shard_count}
use Rattle.weaver_hands.specs.Leaving.{MakesNoVisit}
use Rattle.weaver_hands.specs.Programs.{own_reads}
use Rattle.weaver_workers.specs.Carrying.{OnlyCarries}
use Rattle.weaver_workers.specs.ClientWork.{begun_entry, replied_entry, DoesOneCall, DoesChange, Stand}
use Rattle.weaver_workers.specs.Keeping.{KeepsClient}
use Rattle.weaver_workers.proofs.OnlyCarried.{alone-still}
use Rattle.workers_account.specs.ReadLaws.{ReadLaws}
use Rattle.workers_account.proofs.SessionEnds.{waiting-unreplied}

-- Hands that only carry

-- a hand that only carries makes no visit
pub carry-unvisited : (old new : Hand) → OnlyCarries old new → (r : ℕ) → MakesNoVisit old new r
carry-unvisited old new only r = (alone-still old new only r).unvisited

-- Steps

-- no program is running for this request
abbrev pub RunsNot : Stand → ℕ → Type 0
RunsNot at r = (running : Running) → at.client.running ≡ Some running → r ≢ running.request

module _ (shared : Shared) (script : Script) (number upto : ℕ) (old new : Stand) where
  -- no visit is made for a request that doesn't run
  pub step-unvisited : ReadLaws → DoesOneCall shared script number upto old new → (r : ℕ) → RunsNot old r → MakesNoVisit old.hand new.hand r
  step-unvisited laws (inl change) r other =
      laws.transact (shard_count shared) old.hand new.hand change.asked.gate change.r change.ops old.client.session.last
      change.stamp change.verdict change.transacts r
  step-unvisited laws (inr (inl start)) r other =
      laws.start (shard_count shared) old.hand new.hand start.asked.gate start.r old.client.session.last start.stamp start.starts r
  step-unvisited laws (inr (inr (inl visit))) r other =
      laws.visit (gate_count shared) (shard_count shared) old.hand new.hand visit.before visit.after visit.visits r
      (other visit.before visit.before_is)
  step-unvisited laws (inr (inr (inr (inl finish)))) r other =
      laws.finish (shard_count shared) old.hand new.hand finish.before finish.answer finish.finishes r
  step-unvisited laws (inr (inr (inr (inr carry)))) r other = carry-unvisited old.hand new.hand carry.only r

  -- what a hand's visits read for a request stays, if it runs no program of that request
  pub step-reads : ReadLaws → IsHand shared old.hand → IsHand shared new.hand → DoesOneCall shared script number upto old new → (r : ℕ)
      → RunsNot old r → own_reads new.hand r ≡ own_reads old.hand r
  step-reads laws was is does r other =
      laws.reads shared old.hand new.hand r was is (step-unvisited laws does r other)

  -- the store's entry of a transaction
  abbrev pub judged-entry : DoesChange shared script number upto old new → StoreEntry
  judged-entry change = record {
    author = hand_number change.transacts.begun;
    deed = Judged change.r change.stamp change.ops
        (asked_vertices change.stamp (lasts_of change.ops (commits_of change.transacts.judges.before))) change.verdict;
  }

  -- it is at the end of what the hand had it judge
  pub change-store : (change : DoesChange shared script number upto old new)
      → (made_by new.hand).store ≡ (made_by old.hand).store ++ judged-entry change ∷ []
  change-store change =
      let did = change.transacts in
      ap (λ (a : Account). a.store) did.sends.was.made ∙ ap (λ (a : Account). a.store) did.judges.was.made
      ∙ ap (λ (a : Account). a.store ++ judged-entry change ∷ []) did.begins.made

  -- the store has what the hand had it judge before
  pub step-store : DoesOneCall shared script number upto old new → IsBeginningOf (made_by old.hand).store (made_by new.hand).store
  step-store (inl change) = (judged-entry change ∷ [], change-store change)
  step-store (inr (inl start)) = ([], ap (λ (a : Account). a.store) start.starts.begins.made ∙ sym (append-nil (made_by old.hand).store))
  step-store (inr (inr (inl visit))) = ([], ap (λ (a : Account). a.store) visit.visits.visits.was.made ∙ sym (append-nil (made_by old.hand).store))
  step-store (inr (inr (inr (inl finish)))) = ([], ap (λ (a : Account). a.store) finish.finishes.was.made ∙ sym (append-nil (made_by old.hand).store))
  step-store (inr (inr (inr (inr carry)))) = ([], carry.only.store ∙ sym (append-nil (made_by old.hand).store))

  -- the session's entries of what was done
  abbrev pub step-entries : DoesOneCall shared script number upto old new → List SessionEntry
  step-entries (inl change) = begun_entry number change.r change.stamp ∷ replied_entry number change.r ∷ []
  step-entries (inr (inl start)) = begun_entry number start.r start.stamp ∷ []
  step-entries (inr (inr (inl visit))) = []
  step-entries (inr (inr (inr (inl finish)))) = replied_entry number finish.before.request ∷ []
  step-entries (inr (inr (inr (inr carry)))) = []

  -- after one call the session's log has these entries more
  pub step-log : (does : DoesOneCall shared script number upto old new) → log_of_client new.client ≡ log_of_client old.client ++ step-entries does
  step-log (inl change) =
      change.log ∙ append_assoc (log_of_client old.client) (begun_entry number change.r change.stamp ∷ []) (replied_entry number change.r ∷ [])
  step-log (inr (inl start)) = start.log
  step-log (inr (inr (inl visit))) = visit.same.log ∙ sym (append-nil (log_of_client old.client))
  step-log (inr (inr (inr (inl finish)))) = finish.log
  step-log (inr (inr (inr (inr carry)))) = carry.same.log ∙ sym (append-nil (log_of_client old.client))

  -- after one call the session's log goes on from what it was
  abbrev pub step-on : DoesOneCall shared script number upto old new → IsBeginningOf (log_of_client old.client) (log_of_client new.client)
  step-on does = (step-entries does, step-log does)

-- what has its reply doesn't run
pub replied-rests : (laws : ReadLaws) (shared : Shared) (script : Script) (number : ℕ) (at : Stand)
    → KeepsClient shared script number at.hand at.client → (r : ℕ)
    → Contains (replied_in (log_of_client at.client)) r → RunsNot at r
replied-rests laws shared script number at keeps r h running is same =
    waiting-unreplied laws number at.client.session (log_of_client at.client) keeps.at_end running.request (keeps.running running is).turn
    (subst (λ (q : ℕ). Contains (replied_in (log_of_client at.client)) q) same h)
