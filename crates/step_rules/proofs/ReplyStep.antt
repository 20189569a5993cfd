-- `reply` of a request that was sent or finished keeps a core.
-- Used by Replying.
use Rattle.std.proofs.Common.{◌≡◌, ◌≢◌, ℕ, ◌<◌, ◌==◌, true, false, List, [], ◌∷◌, ◌++◌, length, Contains, IsTrue, Some, refl, sym, ap, subst, ◌∙◌, inl, inr, get_or-set_same, get_or-set_other}
use Rattle.std.specs.List.{find, flat_map, list_any}
use Rattle.std.specs.Option.{option_map}
use Rattle.std.proofs.lemmas.Bool.{cases_eq, eqb-true}
use Rattle.std.proofs.lemmas.List.{append-nil, length-set}
use Rattle.std.proofs.lemmas.List.Concat.{flat_map-append}
use Rattle.std.proofs.lemmas.List.Elements.{Contains-append_left, Contains-append_right, Contains-get_or}
use Rattle.weave_data.proofs.Entries.{each_push}
use Rattle.weave_data.proofs.Members.{any_has, has_flat, has_head}
use Rattle.vector_stamp.specs.declared.clock.Stamp.{Stamp}
use Rattle.program_defs.specs.declared.script.Request.{Request}
use Rattle.program_defs.specs.declared.script.Script.{Script}
use Rattle.report_rules.specs.Lookups.{request_at}
use Rattle.weave_entries.specs.declared.session_log.SessionEntry.{SessionEntry}
use Rattle.weave_entries.specs.declared.session_log.SessionDeed.TheVariants as session
use Rattle.weave_entries.specs.Logs.{AtEachEntry}
use Rattle.weave_entries.specs.GateReplay.{ended_in}
use Rattle.weave_entries.specs.SessionReplay.{FitsSession, RepliesToLast, begin_by, begins_in, has_reply_in, replied_in, reply_by, session_of, session_stamp_of}
use Rattle.weave_account.specs.declared.account.Account.{Account}
use Rattle.weave_account.specs.Account.{gate_log, shard_log, session_log, is_ended}
use Rattle.weave_account.specs.GoesOn.{GoesOn}
use Rattle.weave_account.specs.IsAccount.{IsAccount}
use Rattle.program_defs.specs.Limits.{IsWithinLimits}
use Rattle.weave_account.specs.Sessions.{requests_of_session}
use Rattle.step_rules.specs.CoreState.{CoreState, with_session_deed}
use Rattle.step_rules.specs.IsCore.{IsCore}
use Rattle.step_rules.specs.LowerLaws.{LawsForSteps}
use Rattle.step_rules.specs.Requests.{has_begun, has_ended, has_reply}
use Rattle.step_rules.proofs.Basis.{Basis}
use Rattle.step_rules.proofs.Ended.{in-has}
use Rattle.step_rules.proofs.SessionTurns.{open-is-last}
use Rattle.step_rules.proofs.Frames.{ReplyRule, store-stays, oracle-stays, sends-stay, deeds-stay, replies-stay}
use Rattle.step_rules.proofs.Within.{home-within, session-within}

-- One reply in a session's log

module _ (laws : LawsForSteps) (script : Script) (account : Account) (limits : IsWithinLimits script) (is : IsAccount script account) (s : ℕ) (within : s < length account.sessions) (r : ℕ) where
  abbrev pub slog : List SessionEntry
  slog = session_log account s

  abbrev pub reply-entry : SessionEntry
  reply-entry = record { author = s; deed = session.Replied r }

  abbrev pub replied : Account
  replied = with_session_deed account s (session.Replied r)

  -- after the reply the session's log has one more entry, that of the reply
  pub session-here : session_log replied s ≡ slog ++ reply-entry ∷ []
  session-here = get_or-set_same account.sessions s (slog ++ reply-entry ∷ []) [] within

  -- the logs of all other sessions stay
  pub session-there : (i : ℕ) → i ≢ s → session_log replied i ≡ session_log account i
  session-there i other = get_or-set_other account.sessions s i (slog ++ reply-entry ∷ []) [] other

  -- each log is the beginning of the same log after the reply
  pub on : GoesOn account replied
  on = record {
    gates = λ home. ([], sym (append-nil (gate_log account home)));
    store = ([], sym (append-nil account.store));
    oracle = ([], sym (append-nil account.oracle));
    shards = λ shard. ([], sym (append-nil (shard_log account shard)));
    sessions = λ i. elim (cases_eq i s) [
      | inl same ↦ (reply-entry ∷ [], ap (session_log replied) same ∙ session-here ∙ ap (λ n. session_log account n ++ reply-entry ∷ []) (sym same))
      | inr other ↦ ([], session-there i other ∙ sym (append-nil (session_log account i)))
    ];
  }

  each-session : (P : ℕ → List SessionEntry → SessionEntry → Type 0) → ((i : ℕ) → AtEachEntry (P i) (session_log account i)) → P s slog reply-entry → (i : ℕ) → AtEachEntry (P i) (session_log replied i)
  each-session P each here i = elim (cases_eq i s) [
    | inl same ↦ subst (λ n. AtEachEntry (P n) (session_log replied n)) (sym same) (subst (AtEachEntry (P s)) (sym session-here) (each_push (P s) slog reply-entry (each s) here))
    | inr other ↦ subst (AtEachEntry (P i)) (sym (session-there i other)) (each i)
  ]

  -- a reply that a session's log has is there after the new reply too
  pub reply-stays : (q i : ℕ) → IsTrue (has_reply_in q (session_log account i)) → IsTrue (has_reply_in q (session_log replied i))
  reply-stays q i h = elim (cases_eq i s) [
    | inl same ↦ subst (λ n. IsTrue (has_reply_in q (session_log replied n))) (sym same) (subst (λ l. IsTrue (has_reply_in q l)) (sym session-here) (more (subst (λ n. IsTrue (has_reply_in q (session_log account n))) same h)))
    | inr other ↦ subst (λ l. IsTrue (has_reply_in q l)) (sym (session-there i other)) h
  ]
    where
      more : IsTrue (has_reply_in q slog) → IsTrue (has_reply_in q (slog ++ reply-entry ∷ []))
      more h = (laws.logs.session_replied q (slog ++ reply-entry ∷ [])).1 (subst (λ rs. Contains rs q) (sym (flat_map-append (λ (e : SessionEntry). reply_by e.deed) slog (reply-entry ∷ [])))
          (Contains-append_left (replied_in slog) (r ∷ []) q ((laws.logs.session_replied q slog).0 h)))

  -- and this one is there
  pub reply-there : IsTrue (has_reply_in r (session_log replied s))
  reply-there = subst (λ l. IsTrue (has_reply_in r l)) (sym session-here) ((laws.logs.session_replied r (slog ++ reply-entry ∷ [])).1
      (subst (λ rs. Contains rs r) (sym (flat_map-append (λ (e : SessionEntry). reply_by e.deed) slog (reply-entry ∷ []))) (Contains-append_right (replied_in slog) (r ∷ []) r (has_head r []))))

  -- the account goes on, if the reply is the last one's and the request has ended
  pub reply-goes-on : RepliesToLast (session_of (requests_of_session script s) slog) r → IsTrue (is_ended account r) → IsAccount script replied
  reply-goes-on fits ended = record {
    gatekeepers = record { as_many = is.gatekeepers.as_many; logs = is.gatekeepers.logs; begins = λ home before entry rest at. laws.accounts.stay_begins script account replied limits is on is.gatekeepers.once home before rest entry at; once = is.gatekeepers.once };
    clocks = record { known = λ home clock h. laws.accounts.stay_clocks script account replied on clock (is.clocks.known home clock h); hears_no_more = is.clocks.hears_no_more };
    sessions = record {
      logs = each-session (λ i before (e : SessionEntry). (e.author ≡ i) × FitsSession (session_of (requests_of_session script i) before) e.deed) is.sessions.logs (refl, fits);
      stamps = λ q request e. elim (cases_eq request.session s) [
        | inl same ↦ ap (λ n. session_stamp_of q (session_log replied n)) same ∙ ap (session_stamp_of q) session-here ∙ no-begin q ∙ ap (λ n. session_stamp_of q (session_log account n)) (sym same) ∙ is.sessions.stamps q request e
        | inr other ↦ ap (session_stamp_of q) (session-there request.session other) ∙ is.sessions.stamps q request e
      ];
      replies = each-session (λ i. ReplyRule replied) (replies-stay laws script account replied limits is on) ended;
      finished_are_replied = λ q request at look done. reply-stays q request.session (is.sessions.finished_are_replied q request at look done);
    };
    store = store-stays laws script account replied limits is on refl;
    oracle = oracle-stays laws script account replied limits is on refl (λ shard. refl) refl;
    channels = sends-stay laws script account replied limits is on;
    shards = record { as_many = is.shards.as_many; deeds = deeds-stay laws script account replied limits is on };
    programs = λ q request program at look. (let read = is.programs q request program at look in record { once = read.once; first_ones = read.first_ones; whole = read.whole });
  }
    where
      no-begin : (q : ℕ) → session_stamp_of q (slog ++ reply-entry ∷ []) ≡ session_stamp_of q slog
      no-begin q = ap (λ bs. option_map (λ (begun : ℕ × Stamp). begun.1) (find (λ (begun : ℕ × Stamp). begun.0 == q) bs)) (flat_map-append (λ (e : SessionEntry). begin_by e.deed) slog (reply-entry ∷ []) ∙ append-nil (begins_in slog))

-- The reply of a request that was sent or finished

module _ (script : Script) (state : CoreState) (basis : Basis script state) (r : ℕ) (request : Request) (request-is : request_at script r ≡ Some request)
    (begun : has_begun state.account r request ≡ true) (unreplied : has_reply state.account r request ≡ false) (ended : has_ended state.account r request ≡ true) where
  abbrev account : Account
  account = state.account

  abbrev s : ℕ
  s = request.session

  fits : RepliesToLast (session_of (requests_of_session script s) (session_log account s)) r
  fits = open-is-last basis.laws s (requests_of_session script s) (session_log account s) (basis.core.account.sessions.logs s) r begun unreplied

  has-ended : IsTrue (is_ended account r)
  has-ended = in-has (flat_map ended_in account.gates) r
      (has_flat ended_in account.gates (gate_log account request.gate) r (Contains-get_or account.gates request.gate [] (home-within basis.limits basis.core r request request-is)) (ended-there (ended_in (gate_log account request.gate)) ended))
    where
      ended-there : (all : List ℕ) → list_any (λ one. one == r) all ≡ true → Contains all r
      ended-there all h = let found = any_has (λ one. one == r) all h in subst (λ k. Contains all k) (eqb-true found.0 r found.2) found.1

  -- the reply to a request that has begun, has no reply yet, and was sent or finished keeps a core
  pub replied-keeps : IsCore script (record { account = with_session_deed account s (session.Replied r); notices = state.notices })
  replied-keeps = record {
    account = reply-goes-on basis.laws script account basis.limits basis.core.account s (session-within basis.limits basis.core r request request-is) r fits has-ended;
    sessions = length-set account.sessions s _ ∙ basis.core.sessions;
    notices = λ clock h. basis.laws.accounts.stay_clocks script account (with_session_deed account s (session.Replied r)) (on basis.laws script account basis.limits basis.core.account s (session-within basis.limits basis.core r request request-is) r) clock (basis.core.notices clock h);
  }
