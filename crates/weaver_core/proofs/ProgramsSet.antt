-- The logs after a step of a request.
-- Used by AfterSteps, StepStays and StepValues.
use Rattle.std.proofs.Common.{◌≡◌, ◌≢◌, ◌⊎◌, ℕ, ◌<◌, Bool, true, false, List, [], ◌∷◌, ◌++◌, length, None, Some, inl, inr, refl, sym, ap, ◌∙◌}
use Rattle.std.specs.Prelude.{◌||◌, ◌==◌, slice_index_or, slice_set, cond, if◌then◌else◌}
use Rattle.std.specs.List.{find, list_any}
use Rattle.std.specs.Option.{option_map}
use Rattle.std.proofs.lemmas.Bool.{cases_eq, ne_eqb}
use Rattle.std.proofs.lemmas.List.{append-nil, get_or-set_other, get_or-set_same}
use Rattle.std.proofs.lemmas.List.Concat.{flat_map-append}
use Rattle.vector_stamp.specs.declared.clock.Stamp.{Stamp}
use Rattle.program_defs.specs.declared.script.Request.{Request}
use Rattle.program_defs.specs.declared.script.Script.{Script}
use Rattle.program_defs.specs.declared.script.Step.{Step}
use Rattle.weave_entries.specs.declared.session_log.SessionEntry.{SessionEntry}
use Rattle.weave_entries.specs.declared.session_log.SessionDeed.{SessionDeed}
use Rattle.weave_entries.specs.declared.session_log.SessionDeed.TheVariants.{Begun, Replied}
use Rattle.weave_entries.specs.SessionReplay.{begin_by, begins_in, has_reply_in, replied_in, reply_by, session_stamp_of}
use Rattle.weave_account.specs.declared.account.Account.{Account}
use Rattle.weave_account.specs.Account.{session_log, shard_log}
use Rattle.weave_account.specs.GoesOn.{visits_by}
use Rattle.step_rules.specs.Answers.{answer_of}
use Rattle.step_rules.specs.CoreState.{CoreState}
use Rattle.step_rules.specs.Entries.{state_with}
use Rattle.step_rules.specs.Trace.{is_ok, state_after}
use Rattle.weaver_core.proofs.ProgramsStay.{StaysAt}

-- a step is done, or changes nothing
pub step-cases : (script : Script) (state : CoreState) (step : Step) → (state_after script state step ≡ state) ⊎ (state_after script state step ≡ state_with script state step)
step-cases script state step = by (is_ok (answer_of script state step))
  where
    by : (b : Bool) → ((if b then state_with script state step else state) ≡ state) ⊎ ((if b then state_with script state step else state) ≡ state_with script state step)
    by true = inr refl
    by false = inl refl

-- One more entry of a session

-- the request of a deed
abbrev pub request_of : SessionDeed → ℕ
request_of (Begun r stamp) = r
request_of (Replied r) = r

find-skips : {A : Type 0} (p : A → Bool) (xs : List A) (x : A) → p x ≡ false → find p (xs ++ x ∷ []) ≡ find p xs
find-skips p [] x fails = ap (λ b. cond b (Some x) None) fails
find-skips p (y ∷ xs) x fails = ap (λ o. cond (p y) (Some y) o) (find-skips p xs x fails)

any-skips : {A : Type 0} (p : A → Bool) (xs : List A) (x : A) → p x ≡ false → list_any p (xs ++ x ∷ []) ≡ list_any p xs
any-skips p [] x fails = ap (λ b. b || false) fails
any-skips p (y ∷ xs) x fails = ap (λ b. p y || b) (any-skips p xs x fails)

module _ (log : List SessionEntry) (author q : ℕ) where
  stamp-rests : (deed : SessionDeed) → request_of deed ≢ q → session_stamp_of q (log ++ record { author = author; deed = deed } ∷ []) ≡ session_stamp_of q log
  stamp-rests (Begun r stamp) other =
      ap (λ (begins : List (ℕ × Stamp)). option_map (λ (begun : ℕ × Stamp). begun.1) (find (λ (begun : ℕ × Stamp). begun.0 == q) begins)) (flat_map-append (λ (entry : SessionEntry). begin_by entry.deed) log (record { author = author; deed = Begun r stamp } ∷ []))
      ∙ ap (option_map (λ (begun : ℕ × Stamp). begun.1)) (find-skips (λ (begun : ℕ × Stamp). begun.0 == q) (begins_in log) (r, stamp) (ne_eqb r q other))
  stamp-rests (Replied r) other =
      ap (λ (begins : List (ℕ × Stamp)). option_map (λ (begun : ℕ × Stamp). begun.1) (find (λ (begun : ℕ × Stamp). begun.0 == q) begins))
      (flat_map-append (λ (entry : SessionEntry). begin_by entry.deed) log (record { author = author; deed = Replied r } ∷ []) ∙ append-nil (begins_in log))

  -- one more entry that replies to a request leaves the request's stamp
  pub stamp-replied : session_stamp_of q (log ++ record { author = author; deed = Replied q } ∷ []) ≡ session_stamp_of q log
  stamp-replied =
      ap (λ (begins : List (ℕ × Stamp)). option_map (λ (begun : ℕ × Stamp). begun.1) (find (λ (begun : ℕ × Stamp). begun.0 == q) begins))
      (flat_map-append (λ (entry : SessionEntry). begin_by entry.deed) log (record { author = author; deed = Replied q } ∷ []) ∙ append-nil (begins_in log))

  reply-rests : (deed : SessionDeed) → request_of deed ≢ q → has_reply_in q (log ++ record { author = author; deed = deed } ∷ []) ≡ has_reply_in q log
  reply-rests (Begun r stamp) other =
      ap (list_any (λ replied. replied == q)) (flat_map-append (λ (entry : SessionEntry). reply_by entry.deed) log (record { author = author; deed = Begun r stamp } ∷ []) ∙ append-nil (replied_in log))
  reply-rests (Replied r) other =
      ap (list_any (λ replied. replied == q)) (flat_map-append (λ (entry : SessionEntry). reply_by entry.deed) log (record { author = author; deed = Replied r } ∷ []))
      ∙ any-skips (λ replied. replied == q) (replied_in log) r (ne_eqb r q other)

module _ (account next : Account) (s : ℕ) (deed : SessionDeed) (within : s < length account.sessions)
    (sessions-are : next.sessions ≡ slice_set account.sessions s (session_log account s ++ record { author = s; deed = deed } ∷ [])) (visits-are : (r shard : ℕ) → visits_by r (shard_log next shard) ≡ visits_by r (shard_log account shard)) where
  -- the session's log has one more entry
  pub log-more : session_log next s ≡ session_log account s ++ record { author = s; deed = deed } ∷ []
  log-more = ap (λ (logs : List (List SessionEntry)). slice_index_or logs s []) sessions-are ∙ get_or-set_same account.sessions s (session_log account s ++ record { author = s; deed = deed } ∷ []) [] within

  -- the log of each session but the deed's is as before
  pub log-other : (t : ℕ) → t ≢ s → session_log next t ≡ session_log account t
  log-other t other = ap (λ (logs : List (List SessionEntry)). slice_index_or logs t []) sessions-are ∙ get_or-set_other account.sessions s t (session_log account s ++ record { author = s; deed = deed } ∷ []) [] other

  -- of any request but the deed's the sessions say the same
  pub session-stays : (q : ℕ) (request : Request) → q ≢ request_of deed → StaysAt account next q request
  session-stays q request other = elim (cases_eq request.session s) [
    | inl same ↦ record {
      stamps = ap (λ t. session_stamp_of q (session_log next t)) same ∙ ap (session_stamp_of q) log-more ∙ stamp-rests (session_log account s) s q deed (λ e. other (sym e)) ∙ ap (λ t. session_stamp_of q (session_log account t)) (sym same);
      replies = ap (λ t. has_reply_in q (session_log next t)) same ∙ ap (has_reply_in q) log-more ∙ reply-rests (session_log account s) s q deed (λ e. other (sym e)) ∙ ap (λ t. has_reply_in q (session_log account t)) (sym same);
      visits = visits-are q;
    }
    | inr differ ↦ record {
      stamps = ap (session_stamp_of q) (log-other request.session differ);
      replies = ap (has_reply_in q) (log-other request.session differ);
      visits = visits-are q;
    }
  ]
