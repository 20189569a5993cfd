-- What a client's worker began had no reply when the phase began, so it is of no earlier phase.
-- Used by `begun_requests_are_of_the_phase`.
use Rattle.std.proofs.Common.{◌≡◌, ◌↔◌, ℕ, ◌<◌, ◌≤◌, List, [], ◌∷◌, ◌++◌, Contains, IsTrue, inl, inr, refl, sym, ap, subst, ◌∙◌, append_assoc}
use Rattle.std.proofs.lemmas.Bool.{cases_lt}
use Rattle.std.proofs.lemmas.List.{append-nil, append_cancel_left}
use Rattle.std.proofs.lemmas.List.Concat.{flat_map-append}
use Rattle.std.proofs.lemmas.List.Elements.{Contains-append_cases}
use Rattle.weave_data.proofs.Images.{get-has}
use Rattle.weave_data.proofs.Members.{has_none, only}
use Rattle.vector_stamp.specs.declared.clock.Stamp.{Stamp}
use Rattle.program_defs.specs.declared.script.Script.{Script}
use Rattle.weave_account.specs.GoesOn.{IsBeginningOf}
use Rattle.weave_entries.specs.declared.session_log.SessionEntry.{SessionEntry}
use Rattle.weave_entries.specs.SessionReplay.{begin_by, begins_in, has_reply_in, replied_in}
use Rattle.weaver_core.specs.declared.client.Client.{Client}
use Rattle.weaver_core.specs.Sessions.{log_of_client, requests_in, IsClientOf, IsInTurn}
use Rattle.weaver_locks.specs.declared.shared.Shared.{Shared}
use Rattle.weaver_workers.specs.ClientWork.{begun_entry, replied_entry, DoesOneCall, Goes, HasReplies, Stand}
use Rattle.weaver_workers.specs.Keeping.{KeepsClient}
use Rattle.workers_account.specs.ReadLaws.{ReadLaws}
use Rattle.workers_account.proofs.SessionEnds.{next-unreplied, replied-on}

-- what a log gained began requests from `start` on, before `upto`
abbrev BeginsWithin : ℕ → ℕ → List SessionEntry → Type 0
BeginsWithin start upto gained = (r : ℕ) (stamp : Stamp) → Contains (begins_in gained) (r, stamp) → (start ≤ r) × (r < upto)

-- the client's session has the requests that it had, and its log gained this
record GainsWithin (start upto : ℕ) (old new : Client) : Type 0 where
  requests : requests_in new ≡ requests_in old
  gained : List SessionEntry
  log : log_of_client new ≡ log_of_client old ++ gained
  begins : BeginsWithin start upto gained

module _ (laws : ReadLaws) (decided : (r : ℕ) (log : List SessionEntry) → IsTrue (has_reply_in r log) ↔ Contains (replied_in log) r) (shared : Shared) (script : Script) (number start upto : ℕ) where
  -- replies stay
  still-replied : (old new : Client) → requests_in new ≡ requests_in old → IsBeginningOf (log_of_client old) (log_of_client new) → HasReplies start old
      → HasReplies start new
  still-replied old new same on has r there less =
      (decided r (log_of_client new)).1
      (replied-on (log_of_client old) (log_of_client new) on r ((decided r (log_of_client old)).0 (has r (subst (λ (rs : List ℕ). Contains rs r) same there) less)))

  -- the session's next request comes after those of earlier phases
  next-is-later : (client : Client) → IsClientOf number client.session (log_of_client client) → HasReplies start client → (r : ℕ)
      → IsInTurn client.session r → start ≤ r
  next-is-later client is has r turn = elim (cases_lt r start) [
    | inl less ↦ absurd (next-unreplied laws number client.session (log_of_client client) is r turn
        ((decided r (log_of_client client)).0 (has r (get-has client.session.requests client.session.begun r turn.next) less)))
    | inr over ↦ over
  ]

  one-begin : (r q : ℕ) (stamp at : Stamp) (more : List SessionEntry) → begins_in more ≡ (r, stamp) ∷ [] → Contains (begins_in more) (q, at)
      → (start ≤ r) × (r < upto) → (start ≤ q) × (q < upto)
  one-begin r q stamp at more is h within =
      let same = ap (λ (b : ℕ × Stamp). b.0) (only (r, stamp) (q, at) (subst (λ (bs : List (ℕ × Stamp)). Contains bs (q, at)) is h)) in
      subst (λ (k : ℕ). (start ≤ k) × (k < upto)) same within

  nothing-gained : (old new : Client) → requests_in new ≡ requests_in old → log_of_client new ≡ log_of_client old → GainsWithin start upto old new
  nothing-gained old new requests log = record {
    requests = requests;
    gained = [];
    log = log ∙ sym (append-nil (log_of_client old));
    begins = λ r stamp h. absurd (has_none (r, stamp) h);
  }

  -- one thing done
  one-gains : (old new : Stand) → KeepsClient shared script number old.hand old.client → HasReplies start old.client
      → DoesOneCall shared script number upto old new → GainsWithin start upto old.client new.client
  one-gains old new keeps has (inl change) = record {
    requests = change.requests;
    gained = begun_entry number change.r change.stamp ∷ replied_entry number change.r ∷ [];
    log = change.log ∙ append_assoc (log_of_client old.client) (begun_entry number change.r change.stamp ∷ []) (replied_entry number change.r ∷ []);
    begins = λ q at h. one-begin change.r q change.stamp at
        (begun_entry number change.r change.stamp ∷ replied_entry number change.r ∷ []) refl h
        (next-is-later old.client keeps.at_end has change.r change.next.turn, change.next.below);
  }
  one-gains old new keeps has (inr (inl begin)) = record {
    requests = begin.requests;
    gained = begun_entry number begin.r begin.stamp ∷ [];
    log = begin.log;
    begins = λ q at h. one-begin begin.r q begin.stamp at (begun_entry number begin.r begin.stamp ∷ []) refl h
        (next-is-later old.client keeps.at_end has begin.r begin.next.turn, begin.next.below);
  }
  one-gains old new keeps has (inr (inr (inl visit))) =
      nothing-gained old.client new.client (ap (λ s. s.requests) visit.same.session) visit.same.log
  one-gains old new keeps has (inr (inr (inr (inl finish)))) = record {
    requests = finish.requests;
    gained = replied_entry number finish.before.request ∷ [];
    log = finish.log;
    begins = λ r stamp h. absurd (has_none (r, stamp) h);
  }
  one-gains old new keeps has (inr (inr (inr (inr carry)))) =
      nothing-gained old.client new.client (ap (λ s. s.requests) carry.same.session) carry.same.log

  then-gains : (old mid new : Client) → GainsWithin start upto old mid → GainsWithin start upto mid new → GainsWithin start upto old new
  then-gains old mid new first second = record {
    requests = second.requests ∙ first.requests;
    gained = first.gained ++ second.gained;
    log = second.log ∙ (ap (λ (l : List SessionEntry). l ++ second.gained) first.log ∙ append_assoc (log_of_client old) first.gained second.gained);
    begins = λ r stamp h. elim (Contains-append_cases (begins_in first.gained) (begins_in second.gained) (r, stamp)
        (subst (λ (bs : List (ℕ × Stamp)). Contains bs (r, stamp)) (flat_map-append (λ (e : SessionEntry). begin_by e.deed) first.gained second.gained) h)) [
          | inl early ↦ first.begins r stamp early
          | inr late ↦ second.begins r stamp late
        ];
  }

  -- one after another
  all-gain : (path : List Stand) (from at : Stand) → KeepsClient shared script number from.hand from.client → HasReplies start from.client
      → Goes shared script number upto from path at → GainsWithin start upto from.client at.client
  all-gain [] from at keeps has went =
      subst (λ (s : Stand). GainsWithin start upto from.client s.client) went (nothing-gained from.client from.client refl refl)
  all-gain (next ∷ path) from at keeps has went =
      let one = one-gains from next keeps has went.0.0 in
      then-gains from.client next.client at.client one
      (all-gain path next at went.0.1 (still-replied from.client next.client one.requests (one.gained, one.log) has) went.1)

  -- whatever the log is said to have gained
  pub begun-within : (path : List Stand) (from at : Stand) (gained : List SessionEntry)
      → KeepsClient shared script number from.hand from.client → HasReplies start from.client
      → Goes shared script number upto from path at → log_of_client at.client ≡ log_of_client from.client ++ gained
      → (r : ℕ) (stamp : Stamp) → Contains (begins_in gained) (r, stamp) → (start ≤ r) × (r < upto)
  begun-within path from at gained keeps has went log r stamp h =
      let all = all-gain path from at keeps has went in
      all.begins r stamp (subst (λ (l : List SessionEntry). Contains (begins_in l) (r, stamp))
      (append_cancel_left (log_of_client from.client) gained all.gained (sym log ∙ all.log)) h)
