-- A program's reply: it is finished at its gatekeeper and has its reply in its session, both at once. The logs between
-- the two are no account.
-- Used by Replying.
use Rattle.std.proofs.Common.{◌≡◌, ◌≢◌, ℕ, ◌<◌, ◌==◌, List, [], ◌∷◌, ◌++◌, length, Contains, AllPairs, IsTrue, None, Some, ◌⊎◌, inl, inr, refl, sym, ap, subst, ◌∙◌}
use Rattle.std.specs.List.{find, flat_map}
use Rattle.std.specs.Option.{option_map}
use Rattle.std.proofs.lemmas.Bool.{cases_eq}
use Rattle.std.proofs.lemmas.List.{append-nil, length-set}
use Rattle.std.proofs.lemmas.List.Concat.{flat_map-append}
use Rattle.std.proofs.lemmas.List.Elements.{Contains-append_left, Contains-append_right, Contains-append_cases}
use Rattle.weave_data.proofs.Members.{has_head, has_none, only}
use Rattle.vector_stamp.specs.declared.clock.Clock.{Clock}
use Rattle.vector_stamp.specs.declared.clock.Stamp.{Stamp}
use Rattle.program_defs.specs.declared.program.Program.{Program}
use Rattle.program_defs.specs.declared.script.Request.{Request}
use Rattle.program_defs.specs.declared.script.Script.{Script}
use Rattle.program_defs.specs.declared.script.Work.TheVariants.{Look}
use Rattle.program_defs.specs.Visits.{next_visit}
use Rattle.weave_entries.specs.declared.gate_log.GateEntry.{GateEntry}
use Rattle.weave_entries.specs.declared.gate_log.GateDeed.TheVariants.{Finished}
use Rattle.weave_entries.specs.declared.session_log.SessionEntry.{SessionEntry}
use Rattle.weave_entries.specs.declared.session_log.SessionDeed.TheVariants as session
use Rattle.weave_entries.specs.GateReplay.{BegunRequest, begun_by, begun_in, clocks_by, clocks_in, ended_by, ended_in}
use Rattle.weave_entries.specs.GateRules.{Finishes, FitsAs, HearsAs}
use Rattle.weave_entries.specs.SessionReplay.{FitsSession, RepliesToLast, begin_by, begins_in, has_reply_in, replied_in, reply_by, session_of, session_stamp_of}
use Rattle.report_rules.specs.Lookups.{request_at}
use Rattle.weave_account.specs.declared.account.Account.{Account}
use Rattle.weave_account.specs.Account.{gate_log, session_log, all_begun, stamp_of, is_ended, reads_of}
use Rattle.weave_account.specs.Clocks.{IsKnown}
use Rattle.weave_account.specs.Gatekeepers.{BeginsAs}
use Rattle.weave_account.specs.GoesOn.{GoesOn}
use Rattle.weave_account.specs.IsAccount.{IsAccount}
use Rattle.program_defs.specs.Limits.{IsWithinLimits}
use Rattle.weave_account.specs.Sessions.{requests_of_session}
use Rattle.step_rules.specs.CoreState.{with_gate_deed, with_session_deed}
use Rattle.step_rules.specs.LowerLaws.{LawsForSteps}
use Rattle.step_rules.proofs.Ended.{has-in, in-has}
use Rattle.step_rules.proofs.Frames.{ReplyRule, SendRule, store-stays, oracle-stays, sends-stay, deeds-stay, replies-stay}
use Rattle.step_rules.proofs.SetLists.{flat-set, flat-more, SetMore}
use Rattle.step_rules.proofs.StepGoesOn.{goes-further, with-gate-deed, with-session-deed}
use Rattle.step_rules.proofs.SetLogs.{each-set, set-here, set-there}
use Rattle.step_rules.proofs.Within.{gate-within}

module _ (laws : LawsForSteps) (script : Script) (account : Account) (limits : IsWithinLimits script) (is : IsAccount script account)
    (g : ℕ) (inside : g < script.gates) (s : ℕ) (within-s : s < length account.sessions) (author r : ℕ) where
  abbrev log : List GateEntry
  log = gate_log account g

  abbrev slog : List SessionEntry
  slog = session_log account s

  abbrev entry : GateEntry
  entry = record { author = author; deed = Finished r }

  abbrev sentry : SessionEntry
  sentry = record { author = s; deed = session.Replied r }

  abbrev pub next : Account
  next = with_session_deed (with_gate_deed account g author (Finished r)) s (session.Replied r)

  -- each log is the beginning of the same log after the program is finished and has its reply
  pub on : GoesOn account next
  on =
      goes-further account (with_gate_deed account g author (Finished r)) next (with-gate-deed account g author (Finished r) (gate-within is g inside))
      (with-session-deed (with_gate_deed account g author (Finished r)) s (session.Replied r) within-s)

  -- What was begun is as it was

  all-same : all_begun next ≡ all_begun account
  all-same = flat-set begun_in account.gates g (log ++ entry ∷ []) (gate-within is g inside) (flat_map-append (λ (e : GateEntry). begun_by e.author e.deed) log (entry ∷ []) ∙ append-nil (begun_in log))

  stamp-same : (q : ℕ) → stamp_of next q ≡ stamp_of account q
  stamp-same q = ap (λ all. option_map (λ (begun : BegunRequest). begun.stamp) (find (λ (begun : BegunRequest). begun.request == q) all)) all-same

  once-next : AllPairs (λ (a b : BegunRequest). a.request ≢ b.request) (all_begun next)
  once-next = subst (AllPairs (λ (a b : BegunRequest). a.request ≢ b.request)) (sym all-same) is.gatekeepers.once

  -- What has ended is one more

  set : SetMore ended_in account.gates g (log ++ entry ∷ []) (r ∷ [])
  set = flat-more ended_in account.gates g (log ++ entry ∷ []) (r ∷ []) (gate-within is g inside) (flat_map-append (λ (e : GateEntry). ended_by e.deed) log (entry ∷ []))

  ended-now : IsTrue (is_ended next r)
  ended-now = in-has (flat_map ended_in next.gates) r (subst (λ rs. Contains rs r) (sym set.now) (Contains-append_right set.front (r ∷ set.back) r (Contains-append_left (r ∷ []) set.back r (has_head r []))))

  ended-or : (q : ℕ) → IsTrue (is_ended next q) → IsTrue (is_ended account q) ⊎ (r ≡ q)
  ended-or q h = elim (Contains-append_cases set.front (r ∷ set.back) q (subst (λ rs. Contains rs q) set.now (has-in (flat_map ended_in next.gates) q h))) [
    | inl before ↦ inl (in-has (flat_map ended_in account.gates) q (subst (λ rs. Contains rs q) (sym set.was) (Contains-append_left set.front set.back q before)))
    | inr rest ↦ elim (Contains-append_cases (r ∷ []) set.back q rest) [
      | inl new ↦ inr (only r q new)
      | inr later ↦ inl (in-has (flat_map ended_in account.gates) q (subst (λ rs. Contains rs q) (sym set.was) (Contains-append_right set.front set.back q later)))
    ]
  ]

  -- Replies stay, and this one is there

  replied-more : replied_in (slog ++ sentry ∷ []) ≡ replied_in slog ++ r ∷ []
  replied-more = flat_map-append (λ (e : SessionEntry). reply_by e.deed) slog (sentry ∷ [])

  reply-there : IsTrue (has_reply_in r (session_log next s))
  reply-there = subst (λ l. IsTrue (has_reply_in r l)) (sym (set-here account.sessions s within-s sentry)) ((laws.logs.session_replied r (slog ++ sentry ∷ [])).1
      (subst (λ rs. Contains rs r) (sym replied-more) (Contains-append_right (replied_in slog) (r ∷ []) r (has_head r []))))

  reply-stays : (q i : ℕ) → IsTrue (has_reply_in q (session_log account i)) → IsTrue (has_reply_in q (session_log next i))
  reply-stays q i h = elim (cases_eq i s) [
    | inl same ↦ subst (λ n. IsTrue (has_reply_in q (session_log next n))) (sym same) (subst (λ l. IsTrue (has_reply_in q l)) (sym (set-here account.sessions s within-s sentry)) (more (subst (λ n. IsTrue (has_reply_in q (session_log account n))) same h)))
    | inr other ↦ subst (λ l. IsTrue (has_reply_in q l)) (sym (set-there account.sessions s within-s sentry i other)) h
  ]
    where
      more : IsTrue (has_reply_in q slog) → IsTrue (has_reply_in q (slog ++ sentry ∷ []))
      more h = (laws.logs.session_replied q (slog ++ sentry ∷ [])).1 (subst (λ rs. Contains rs q) (sym replied-more) (Contains-append_left (replied_in slog) (r ∷ []) q ((laws.logs.session_replied q slog).0 h)))

  -- the account goes on, if the program is running, its reply is the session's last one's, and it has read all
  pub finish-goes-on : Finishes log author r → RepliesToLast (session_of (requests_of_session script s) slog) r → ((request : Request) → request_at script r ≡ Some request → request.session ≡ s)
      → ((request : Request) (program : Program) → request_at script r ≡ Some request → request.work ≡ Look program → next_visit (reads_of account r) program ≡ None) → IsAccount script next
  finish-goes-on runs turn session-is whole = record {
    gatekeepers = record {
      as_many = length-set account.gates g (log ++ entry ∷ []) ∙ is.gatekeepers.as_many;
      logs = each-set account.gates g (gate-within is g inside) entry (λ home before (e : GateEntry). FitsAs home script.shards before e.author e.deed) is.gatekeepers.logs runs;
      begins = each-set account.gates g (gate-within is g inside) entry (λ home before (e : GateEntry). BeginsAs script next home before e.deed) (λ home before e rest at. laws.accounts.stay_begins script account next limits is on once-next home before rest e at) tt;
      once = once-next;
    };
    clocks = record { known = knowing; hears_no_more = each-set account.gates g (gate-within is g inside) entry (λ home before (e : GateEntry). HearsAs home before e.deed) is.clocks.hears_no_more tt };
    sessions = record {
      logs = each-set account.sessions s within-s sentry (λ i before (e : SessionEntry). (e.author ≡ i) × FitsSession (session_of (requests_of_session script i) before) e.deed) is.sessions.logs (refl, turn);
      stamps = λ q request e. elim (cases_eq request.session s) [
        | inl same ↦ ap (λ n. session_stamp_of q (session_log next n)) same ∙ ap (session_stamp_of q) (set-here account.sessions s within-s sentry) ∙ no-begin q ∙ ap (λ n. session_stamp_of q (session_log account n)) (sym same) ∙ is.sessions.stamps q request e ∙ sym (stamp-same q)
        | inr other ↦ ap (session_stamp_of q) (set-there account.sessions s within-s sentry request.session other) ∙ is.sessions.stamps q request e ∙ sym (stamp-same q)
      ];
      replies = each-set account.sessions s within-s sentry (λ i. ReplyRule next) (replies-stay laws script account next limits is on) ended-now;
      finished_are_replied = λ q request at look ended. elim (ended-or q ended) [
        | inl before ↦ reply-stays q request.session (is.sessions.finished_are_replied q request at look before)
        | inr same ↦ subst (λ n. IsTrue (has_reply_in q (session_log next n))) (sym (session-is request (ap (request_at script) same ∙ at))) (subst (λ n. IsTrue (has_reply_in n (session_log next s))) same reply-there)
      ];
    };
    store = store-stays laws script account next limits is on refl;
    oracle = oracle-stays laws script account next limits is on refl (λ shard. refl) refl;
    channels = each-set account.gates g (gate-within is g inside) entry (λ home. SendRule script next) (sends-stay laws script account next limits is on) tt;
    shards = record { as_many = is.shards.as_many; deeds = deeds-stay laws script account next limits is on };
    programs = λ q request program at look. (let read = is.programs q request program at look in record {
      once = read.once;
      first_ones = read.first_ones;
      whole = λ ended. elim (ended-or q ended) [
        | inl before ↦ read.whole before
        | inr same ↦ subst (λ n. next_visit (reads_of account n) program ≡ None) same (whole request program (ap (request_at script) same ∙ at) look)
      ];
    });
  }
    where
      no-begin : (q : ℕ) → session_stamp_of q (slog ++ sentry ∷ []) ≡ session_stamp_of q slog
      no-begin q = ap (λ bs. option_map (λ (begun : ℕ × Stamp). begun.1) (find (λ (begun : ℕ × Stamp). begun.0 == q) bs)) (flat_map-append (λ (e : SessionEntry). begin_by e.deed) slog (sentry ∷ []) ∙ append-nil (begins_in slog))

      knowing : (home : ℕ) (clock : Clock) → Contains (clocks_in (gate_log next home)) clock → IsKnown next clock
      knowing home clock h = elim (cases_eq home g) [
        | inr other ↦ laws.accounts.stay_clocks script account next on clock (is.clocks.known home clock (subst (λ l. Contains (clocks_in l) clock) (set-there account.gates g (gate-within is g inside) entry home other) h))
        | inl same ↦ elim (Contains-append_cases (clocks_in log) [] clock
            (subst (λ cs. Contains cs clock) (flat_map-append (λ (e : GateEntry). clocks_by e.deed) log (entry ∷ [])) (subst (λ l. Contains (clocks_in l) clock) (ap (gate_log next) same ∙ set-here account.gates g (gate-within is g inside) entry) h))) [
              | inl old ↦ laws.accounts.stay_clocks script account next on clock (is.clocks.known g clock old)
              | inr none ↦ absurd (has_none clock none)
            ]
      ]
