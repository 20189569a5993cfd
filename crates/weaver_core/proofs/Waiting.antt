-- The request of a session that waits for its reply, by the log.
-- Used by `begin_program`, HandedIn, OpenRuns, StepValues, ValuesStay, VisitWith and crate workers_account.
use Rattle.std.proofs.Common.{◌≡◌, ℕ, ◌-◌, ◌<◌, true, false, List, [], ◌∷◌, ◌++◌, AllPairs, Option, None, Some, refl, sym, ap, subst, ◌∙◌, arith}
use Rattle.std.specs.Prelude.{◌==◌, slice_get}
use Rattle.std.specs.List.{find}
use Rattle.std.specs.Option.{option_and_then, option_map}
use Rattle.std.proofs.lemmas.Bool.{eq-eqb, eqb-true, le-ltb}
use Rattle.std.proofs.lemmas.List.Concat.{flat_map-append}
use Rattle.std.proofs.lemmas.Option.{none-some, same_Some}
use Rattle.weave_data.proofs.Ends.{by_last}
use Rattle.weave_data.proofs.Entries.{by_entries}
use Rattle.vector_stamp.specs.declared.clock.Stamp.{Stamp}
use Rattle.report_rules.specs.Lookups.{is_some_and}
use Rattle.weave_entries.specs.declared.session_log.SessionEntry.{SessionEntry}
use Rattle.weave_entries.specs.declared.session_log.SessionDeed.{SessionDeed}
use Rattle.weave_entries.specs.declared.session_log.SessionDeed.TheVariants.{Begun, Replied}
use Rattle.weave_entries.specs.SessionReplay.{FitsSession, IsSessionLog, SessionState, begin_by, begins_in, has_begun_in, session_after, session_of, session_stamp_of}
use Rattle.weaver_core.specs.Sessions.{is_begin_of, is_open_in, last_entry, open_by_last, request_by}
use Rattle.weaver_core.specs.Splitting.{begun_by_session, waiting_in}
use Rattle.weaver_core.specs.Staying.{StayLaws}
use Rattle.weaver_core.proofs.BegunProgram.{find-last}
use Rattle.weaver_core.proofs.NoStamp.{any-none}
use Rattle.weaver_core.proofs.Turns.{Rule, SessionLaws, begun-is, ends-with, is_begin, last-of, open-by-last}
use Rattle.step_rules.proofs.SessionTurns.{one-more, requests-same}

-- the laws on sessions, of all laws
abbrev pub session-laws : StayLaws → SessionLaws
session-laws stay = record { begun_first = stay.begun_first; replied_first = stay.replied_first; begun_tested = stay.begun_tested; replied_tested = stay.replied_tested }

-- after one more entry, what waits is what this entry begins, if anything
pub waits-more : (log : List SessionEntry) (entry : SessionEntry) → waiting_in (log ++ entry ∷ []) ≡ begun_by_session entry.deed
waits-more log entry = ap (option_and_then (λ (e : SessionEntry). begun_by_session e.deed)) (last-of log entry)

-- what begins a request, by the deed
deed-begins : (deed : SessionDeed) (r : ℕ) → is_begin_of r deed ≡ true → (stamp : Stamp) × (begun_by_session deed ≡ Some (r, stamp))
deed-begins (Begun q stamp) r is = (stamp, ap (λ (n : ℕ). Some (n, stamp)) (eqb-true q r is))
deed-begins (Replied q) r is = absurd (let f : false ≡ true = is in cc)

begins-deed : (deed : SessionDeed) (r : ℕ) (stamp : Stamp) → begun_by_session deed ≡ Some (r, stamp) → deed ≡ Begun r stamp
begins-deed (Begun q s) r stamp is = let same = same_Some (q, s) (r, stamp) is in λ i. Begun (same i).0 (same i).1
begins-deed (Replied q) r stamp is = absurd (none-some (r, stamp) is)

module _ (laws : SessionLaws) (number : ℕ) (requests : List ℕ) (log : List SessionEntry) (right : IsSessionLog number requests log) (rise : AllPairs (λ (a b : ℕ). a < b) requests) where
  -- if a request of the session is open in its log, it waits there with a stamp
  pub open-waits : (i r : ℕ) → slice_get requests i ≡ Some r → is_open_in r log ≡ true → (stamp : Stamp) × (waiting_in log ≡ Some (r, stamp))
  open-waits i r at is = by (last_entry log) refl
    where
      last-is : open_by_last r log ≡ true
      last-is = sym (open-by-last laws number requests log right rise i r at) ∙ is

      by : (o : Option SessionEntry) → last_entry log ≡ o → (stamp : Stamp) × (waiting_in log ≡ Some (r, stamp))
      by None e = absurd (let f : false ≡ true = sym (ap (is_some_and (λ (entry : SessionEntry). is_begin_of r entry.deed)) e) ∙ last-is in cc)
      by (Some entry) e =
          let one = deed-begins entry.deed r (sym (ap (is_some_and (λ (x : SessionEntry). is_begin_of r x.deed)) e) ∙ last-is) in
          (one.0, ap (option_and_then (λ (x : SessionEntry). begun_by_session x.deed)) e ∙ one.1)

  -- a request that waits is open, and among the requests
  pub waits-open : (r : ℕ) (stamp : Stamp) → waiting_in log ≡ Some (r, stamp) → (is_open_in r log ≡ true) × (slice_get requests ((session_of requests log).begun - 1) ≡ Some r)
  waits-open r stamp is = by (last_entry log) refl
    where
      by : (o : Option SessionEntry) → last_entry log ≡ o → (is_open_in r log ≡ true) × (slice_get requests ((session_of requests log).begun - 1) ≡ Some r)
      by None e = absurd (none-some (r, stamp) (sym (ap (option_and_then (λ (x : SessionEntry). begun_by_session x.deed)) e) ∙ is))
      by (Some entry) e =
          let deed : entry.deed ≡ Begun r stamp = begins-deed entry.deed r stamp (sym (ap (option_and_then (λ (x : SessionEntry). begun_by_session x.deed)) e) ∙ is) in
          let place = (ends-with number requests log right entry e).at ∙ ap (λ (d : SessionDeed). Some (request_by d)) deed in (
            open-by-last laws number requests log right rise ((session_of requests log).begun - 1) r place
                ∙ ap (is_some_and (λ (x : SessionEntry). is_begin_of r x.deed)) e ∙ ap (is_begin_of r) deed ∙ eq-eqb r r refl,
            place,
          )

-- the stamp of the request that waits is its stamp in the session's log
pub stamp-waits : (laws : SessionLaws) (number : ℕ) (requests : List ℕ) (log : List SessionEntry) → IsSessionLog number requests log → AllPairs (λ (a b : ℕ). a < b) requests → (r : ℕ) (stamp : Stamp) → waiting_in log ≡ Some (r, stamp) → session_stamp_of r log ≡ Some stamp
stamp-waits laws number requests log right rise r stamp =
    by_entries (Rule number requests) (λ log. waiting_in log ≡ Some (r, stamp) → session_stamp_of r log ≡ Some stamp)
    (λ is. absurd (none-some (r, stamp) is))
    (λ front entry before rule so is. at-begin front entry before rule.1 (begins-deed entry.deed r stamp (sym (waits-more front entry) ∙ is)))
    log right
  where
    at-begin : (front : List SessionEntry) (entry : SessionEntry) → IsSessionLog number requests front → FitsSession (session_of requests front) entry.deed → entry.deed ≡ Begun r stamp → session_stamp_of r (front ++ entry ∷ []) ≡ Some stamp
    at-begin front entry before fits deed =
        let next = (subst (FitsSession (session_of requests front)) deed fits).next in
        let state = session_of requests front in
        let at : slice_get requests state.begun ≡ Some r = ap (λ (rs : List ℕ). slice_get rs state.begun) (sym (requests-same requests front)) ∙ next in
        let unbegun : has_begun_in r front ≡ false = begun-is laws number requests front before rise state.begun r at ∙ le-ltb state.begun state.begun (omega arith) in
        ap (λ (begins : List (ℕ × Stamp)). option_map (λ (begun : ℕ × Stamp). begun.1) (find (λ (begun : ℕ × Stamp). begun.0 == r) begins))
        (flat_map-append (λ (e : SessionEntry). begin_by e.deed) front (entry ∷ []) ∙ ap (λ (d : SessionDeed). begins_in front ++ (begin_by d ++ [])) deed)
        ∙ ap (option_map (λ (begun : ℕ × Stamp). begun.1)) (find-last (λ (begun : ℕ × Stamp). begun.0 == r) (begins_in front) (r, stamp) (any-none (λ (begun : ℕ × Stamp). begun.0 == r) (begins_in front) unbegun) (eq-eqb r r refl))

-- if none waits, none does by the log
pub none-waits : (number : ℕ) (requests : List ℕ) (log : List SessionEntry) → IsSessionLog number requests log → (session_of requests log).waits ≡ false → waiting_in log ≡ None
none-waits number requests log right free = by (last_entry log) refl
  where
    at-deed : (deed : SessionDeed) → false ≡ is_begin deed → begun_by_session deed ≡ None
    at-deed (Begun q stamp) e = absurd (let f : false ≡ true = e in cc)
    at-deed (Replied q) e = refl

    by : (o : Option SessionEntry) → last_entry log ≡ o → waiting_in log ≡ None
    by None e = ap (option_and_then (λ (x : SessionEntry). begun_by_session x.deed)) e
    by (Some entry) e = ap (option_and_then (λ (x : SessionEntry). begun_by_session x.deed)) e ∙ at-deed entry.deed (sym free ∙ (ends-with number requests log right entry e).waits)

-- the stamp of what waits is the last one that was begun
pub last-waits : (requests : List ℕ) (log : List SessionEntry) (r : ℕ) (stamp : Stamp) → waiting_in log ≡ Some (r, stamp) → (session_of requests log).last ≡ Some stamp
last-waits requests log r stamp =
    by_last (λ log. waiting_in log ≡ Some (r, stamp) → (session_of requests log).last ≡ Some stamp) (λ is. absurd (none-some (r, stamp) is))
    (λ front entry so is.
    ap (λ (state : SessionState). state.last) (one-more requests front entry)
    ∙ ap (λ (d : SessionDeed). (session_after (session_of requests front) d).last) (begins-deed entry.deed r stamp (sym (waits-more front entry) ∙ is))) log
