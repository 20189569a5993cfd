-- A begin: one more entry in a gatekeeper's log and one in a session's.
-- Used by BeginStep.
use Rattle.std.proofs.Common.{◌≡◌, ◌≢◌, ℕ, ◌<◌, ◌==◌, Bool, false, cond, List, [], ◌∷◌, ◌++◌, length, Contains, AllPairs, IsTrue, None, Some, inl, inr, refl, sym, ap, subst, ◌∙◌}
use Rattle.std.specs.Prelude.{is_some}
use Rattle.std.specs.List.{find, flat_map}
use Rattle.std.specs.Option.{option_map, option_or}
use Rattle.std.proofs.lemmas.Bool.{cases_eq, eq-eqb, ne_eqb}
use Rattle.std.proofs.lemmas.List.{append-nil, length-set}
use Rattle.std.proofs.lemmas.List.Concat.{flat_map-append}
use Rattle.std.proofs.lemmas.List.Folds.{find-append}
use Rattle.std.proofs.lemmas.List.Elements.{Contains-append_left, Contains-append_right, Contains-append_cases}
use Rattle.weave_data.proofs.Members.{find_lacks}
use Rattle.vector_stamp.specs.declared.clock.Clock.{Clock}
use Rattle.vector_stamp.specs.declared.clock.Stamp.{Stamp}
use Rattle.program_defs.specs.declared.script.Request.{Request}
use Rattle.program_defs.specs.declared.script.Script.{Script}
use Rattle.weave_entries.specs.declared.gate_log.GateEntry.{GateEntry}
use Rattle.weave_entries.specs.declared.gate_log.GateDeed.{GateDeed}
use Rattle.weave_entries.specs.declared.session_log.SessionEntry.{SessionEntry}
use Rattle.weave_entries.specs.declared.session_log.SessionDeed.TheVariants as session
use Rattle.weave_entries.specs.GateReplay.{BegunRequest, begun_by, begun_in, clocks_by, clocks_in, ended_by, ended_in}
use Rattle.weave_entries.specs.GateRules.{FitsAs, HearsAs}
use Rattle.weave_entries.specs.SessionReplay.{BeginsNext, FitsSession, begin_by, begins_in, has_begun_in, has_reply_in, replied_in, reply_by, session_of, session_stamp_of}
use Rattle.report_rules.specs.Lookups.{is_in, request_at}
use Rattle.weave_account.specs.declared.account.Account.{Account}
use Rattle.weave_account.specs.Account.{gate_log, session_log, all_begun, stamp_of}
use Rattle.weave_account.specs.Channels.{SendsAs}
use Rattle.weave_account.specs.Clocks.{IsKnown}
use Rattle.weave_account.specs.Gatekeepers.{BeginsAs}
use Rattle.weave_account.specs.GoesOn.{GoesOn}
use Rattle.weave_account.specs.IsAccount.{IsAccount}
use Rattle.program_defs.specs.Limits.{IsWithinLimits}
use Rattle.weave_account.specs.Sessions.{requests_of_session}
use Rattle.step_rules.specs.CoreState.{with_gate_deed, with_session_deed}
use Rattle.step_rules.specs.LowerLaws.{LawsForSteps}
use Rattle.step_rules.proofs.FindLists.{any-find, find-here, find-into, is-some-map, no-some, or-none, pairs-into}
use Rattle.step_rules.proofs.Frames.{ReplyRule, SendRule, store-stays, oracle-stays, sends-stay, deeds-stay, replies-stay}
use Rattle.step_rules.proofs.SetLists.{flat-set, flat-more, SetMore}
use Rattle.step_rules.proofs.StepGoesOn.{goes-further, with-gate-deed, with-session-deed}
use Rattle.step_rules.proofs.SetLogs.{each-set, gate-entry, set-here, set-there}
use Rattle.step_rules.proofs.Within.{gate-within}

-- The stamps that a session's log has after one more begin

module _ (log : List SessionEntry) (author r : ℕ) (stamp : Stamp) where
  abbrev with-begin : List SessionEntry
  with-begin = log ++ record { author = author; deed = session.Begun r stamp } ∷ []

  abbrev is-of : ℕ → ℕ × Stamp → Bool
  is-of q begun = begun.0 == q

  begins-push : begins_in with-begin ≡ begins_in log ++ (r, stamp) ∷ []
  begins-push = flat_map-append (λ (e : SessionEntry). begin_by e.deed) log (record { author = author; deed = session.Begun r stamp } ∷ [])

  -- a request has begun in a session's log exactly if the log has a stamp of it
  pub begun-agree : has_begun_in r log ≡ is_some (session_stamp_of r log)
  begun-agree = any-find (is-of r) (begins_in log) ∙ sym (is-some-map (λ (begun : ℕ × Stamp). begun.1) (find (is-of r) (begins_in log)))

  -- a request that had not begun has the stamp with which one more entry begins it
  pub stamp-begun : has_begun_in r log ≡ false → session_stamp_of r with-begin ≡ Some stamp
  stamp-begun none =
      let nothing : find (is-of r) (begins_in log) ≡ None = no-some (λ (begun : ℕ × Stamp). begun.1) (find (is-of r) (begins_in log)) (sym begun-agree ∙ none) in
      ap (λ bs. option_map (λ (begun : ℕ × Stamp). begun.1) (find (is-of r) bs)) begins-push
      ∙ ap (option_map (λ (begun : ℕ × Stamp). begun.1)) (find-append (is-of r) (begins_in log) ((r, stamp) ∷ [])
      ∙ ap (λ o. option_or o (find (is-of r) ((r, stamp) ∷ []))) nothing ∙ ap (λ b. cond b (Some (r, stamp)) None) (eq-eqb r r refl))

  -- the begin of a request leaves the stamps of all others in the session's log as they were
  pub stamp-other : (q : ℕ) → q ≢ r → session_stamp_of q with-begin ≡ session_stamp_of q log
  stamp-other q differ =
      ap (λ bs. option_map (λ (begun : ℕ × Stamp). begun.1) (find (is-of q) bs)) begins-push
      ∙ ap (option_map (λ (begun : ℕ × Stamp). begun.1)) (find-append (is-of q) (begins_in log) ((r, stamp) ∷ [])
      ∙ ap (λ b. option_or (find (is-of q) (begins_in log)) (cond b (Some (r, stamp)) None)) (ne_eqb r q (λ same. differ (sym same))) ∙ or-none _)

-- The account

module _ (laws : LawsForSteps) (script : Script) (account : Account) (limits : IsWithinLimits script) (is : IsAccount script account)
    (g : ℕ) (inside : g < script.gates) (s : ℕ) (within-s : s < length account.sessions) (author r : ℕ) (stamp : Stamp) (deed : GateDeed)
    (one : begun_by author deed ≡ record { author = author; request = r; stamp = stamp } ∷ []) (unbegun : stamp_of account r ≡ None) where
  abbrev pub log : List GateEntry
  log = gate_log account g

  abbrev pub slog : List SessionEntry
  slog = session_log account s

  abbrev pub entry : GateEntry
  entry = gate-entry author deed

  abbrev pub sentry : SessionEntry
  sentry = record { author = s; deed = session.Begun r stamp }

  abbrev pub new : BegunRequest
  new = record { author = author; request = r; stamp = stamp }

  abbrev pub next : Account
  next = with_session_deed (with_gate_deed account g author deed) s (session.Begun r stamp)

  -- after the begin the gatekeeper's log has one more entry, that of the begin
  pub log-here : gate_log next g ≡ log ++ entry ∷ []
  log-here = set-here account.gates g (gate-within is g inside) entry

  -- the logs of all other gatekeepers stay
  pub log-there : (home : ℕ) → home ≢ g → gate_log next home ≡ gate_log account home
  log-there = set-there account.gates g (gate-within is g inside) entry

  session-here : session_log next s ≡ slog ++ sentry ∷ []
  session-here = set-here account.sessions s within-s sentry

  session-there : (i : ℕ) → i ≢ s → session_log next i ≡ session_log account i
  session-there = set-there account.sessions s within-s sentry

  -- each log is the beginning of the same log after the begin
  pub on : GoesOn account next
  on =
      goes-further account (with_gate_deed account g author deed) next (with-gate-deed account g author deed (gate-within is g inside))
      (with-session-deed (with_gate_deed account g author deed) s (session.Begun r stamp) within-s)

  -- What was begun

  set : SetMore begun_in account.gates g (log ++ entry ∷ []) (new ∷ [])
  set = flat-more begun_in account.gates g (log ++ entry ∷ []) (new ∷ []) (gate-within is g inside)
      (flat_map-append (λ (e : GateEntry). begun_by e.author e.deed) log (entry ∷ []) ∙ ap (λ bs. begun_in log ++ (bs ++ [])) one)

  fresh : (b : BegunRequest) → Contains (all_begun account) b → b.request ≢ r
  fresh b h same = find_lacks (λ (b : BegunRequest). b.request == r) (all_begun account) b (no-some (λ (b : BegunRequest). b.stamp) (find (λ (b : BegunRequest). b.request == r) (all_begun account)) (ap is_some unbegun)) h (eq-eqb b.request r same)

  before-has : (b : BegunRequest) → Contains set.front b → Contains (all_begun account) b
  before-has b h = subst (λ bs. Contains bs b) (sym set.was) (Contains-append_left set.front set.back b h)

  after-has : (b : BegunRequest) → Contains set.back b → Contains (all_begun account) b
  after-has b h = subst (λ bs. Contains bs b) (sym set.was) (Contains-append_right set.front set.back b h)

  -- after the begin of a request that had not begun, still none was begun twice
  pub once-next : AllPairs (λ (a b : BegunRequest). a.request ≢ b.request) (all_begun next)
  once-next = subst (AllPairs (λ (a b : BegunRequest). a.request ≢ b.request)) (sym set.now)
      (pairs-into (λ (a b : BegunRequest). a.request ≢ b.request) set.front new set.back (subst (AllPairs (λ (a b : BegunRequest). a.request ≢ b.request)) set.was is.gatekeepers.once)
      (λ b h. fresh b (before-has b h)) (λ b h same. fresh b (after-has b h) (sym same)))

  -- the request then has the stamp of its begin
  pub stamp-new : stamp_of next r ≡ Some stamp
  stamp-new = ap (option_map (λ (b : BegunRequest). b.stamp)) (ap (find (λ (b : BegunRequest). b.request == r)) set.now
      ∙ find-here (λ (b : BegunRequest). b.request == r) set.front new set.back (λ b h. ne_eqb b.request r (fresh b (before-has b h))) (eq-eqb r r refl))

  -- the stamps of all other requests stay
  pub stamp-old : (q : ℕ) → q ≢ r → stamp_of next q ≡ stamp_of account q
  stamp-old q differ = ap (option_map (λ (b : BegunRequest). b.stamp)) (ap (find (λ (b : BegunRequest). b.request == q)) set.now
      ∙ find-into (λ (b : BegunRequest). b.request == q) set.front new set.back (ne_eqb r q (λ same. differ (sym same))) ∙ ap (find (λ (b : BegunRequest). b.request == q)) (sym set.was))

  -- clocks that were known are known after the begin
  pub known-next : (clock : Clock) → IsKnown account clock → IsKnown next clock
  known-next = laws.accounts.stay_clocks script account next on

  -- What has ended, and what has its reply

  ended-same : ended_by deed ≡ [] → flat_map ended_in next.gates ≡ flat_map ended_in account.gates
  ended-same quiet = flat-set ended_in account.gates g (log ++ entry ∷ []) (gate-within is g inside)
      (flat_map-append (λ (e : GateEntry). ended_by e.deed) log (entry ∷ []) ∙ ap (λ more. ended_in log ++ (more ++ [])) quiet ∙ append-nil (ended_in log))

  -- a reply that was there is there: a begin adds none
  reply-same : (q i : ℕ) → IsTrue (has_reply_in q (session_log account i)) → IsTrue (has_reply_in q (session_log next i))
  reply-same q i h = elim (cases_eq i s) [
    | inl same ↦ subst (λ n. IsTrue (has_reply_in q (session_log next n))) (sym same) (subst (λ l. IsTrue (has_reply_in q l)) (sym session-here) (has-push q slog (subst (λ n. IsTrue (has_reply_in q (session_log account n))) same h)))
    | inr other ↦ subst (λ l. IsTrue (has_reply_in q l)) (sym (session-there i other)) h
  ]
    where
      has-push : (q : ℕ) (l : List SessionEntry) → IsTrue (has_reply_in q l) → IsTrue (has_reply_in q (l ++ sentry ∷ []))
      has-push q l h = let replied = laws.logs.session_replied q l in let more = laws.logs.session_replied q (l ++ sentry ∷ []) in
          more.1 (subst (λ rs. Contains rs q) (sym (flat_map-append (λ (e : SessionEntry). reply_by e.deed) l (sentry ∷ []))) (Contains-append_left (replied_in l) [] q (replied.0 h)))

  -- The account goes on

  -- the logs stay an account if the begin fits its gatekeeper, its clocks and its session, and ends no request
  pub begin-goes-on : FitsAs g script.shards log author deed → BeginsAs script next g log deed → ((clock : Clock) → Contains (clocks_by deed) clock → IsKnown next clock) → HearsAs g log deed
      → SendsAs next script.shards log author deed → ended_by deed ≡ [] → ((request : Request) → request_at script r ≡ Some request → request.session ≡ s)
      → BeginsNext (session_of (requests_of_session script s) slog) r stamp → has_begun_in r slog ≡ false → IsAccount script next
  begin-goes-on fits begins knows hears sends quiet session-is turn unbegun-in = record {
    gatekeepers = record {
      as_many = length-set account.gates g (log ++ entry ∷ []) ∙ is.gatekeepers.as_many;
      logs = each-set account.gates g (gate-within is g inside) entry (λ home before (e : GateEntry). FitsAs home script.shards before e.author e.deed) is.gatekeepers.logs fits;
      begins = each-set account.gates g (gate-within is g inside) entry (λ home before (e : GateEntry). BeginsAs script next home before e.deed)
          (λ home before e rest at. laws.accounts.stay_begins script account next limits is on once-next home before rest e at) begins;
      once = once-next;
    };
    clocks = record { known = knowing; hears_no_more = each-set account.gates g (gate-within is g inside) entry (λ home before (e : GateEntry). HearsAs home before e.deed) is.clocks.hears_no_more hears };
    sessions = record {
      logs = each-set account.sessions s within-s sentry (λ i before (e : SessionEntry). (e.author ≡ i) × FitsSession (session_of (requests_of_session script i) before) e.deed) is.sessions.logs (refl, turn);
      stamps = stamps;
      replies = each-set account.sessions s within-s sentry (λ i. ReplyRule next) (replies-stay laws script account next limits is on) tt;
      finished_are_replied = λ q request at look ended. reply-same q request.session (is.sessions.finished_are_replied q request at look (subst (λ all. IsTrue (is_in q all)) (ended-same quiet) ended));
    };
    store = store-stays laws script account next limits is on refl;
    oracle = oracle-stays laws script account next limits is on refl (λ shard. refl) refl;
    channels = each-set account.gates g (gate-within is g inside) entry (λ home. SendRule script next) (sends-stay laws script account next limits is on) sends;
    shards = record { as_many = is.shards.as_many; deeds = deeds-stay laws script account next limits is on };
    programs = λ q request program at look. (let read = is.programs q request program at look in record {
      once = read.once;
      first_ones = read.first_ones;
      whole = λ ended. read.whole (subst (λ all. IsTrue (is_in q all)) (ended-same quiet) ended);
    });
  }
    where
      stamps : (q : ℕ) (request : Request) → request_at script q ≡ Some request → session_stamp_of q (session_log next request.session) ≡ stamp_of next q
      stamps q request e = elim (cases_eq q r) [
        | inl same ↦
            let here : request.session ≡ s = session-is request (ap (request_at script) (sym same) ∙ e) in
            ap (λ n. session_stamp_of q (session_log next n)) here ∙ ap (λ n. session_stamp_of n (session_log next s)) same ∙ ap (session_stamp_of r) session-here
            ∙ stamp-begun slog s r stamp unbegun-in ∙ sym stamp-new ∙ ap (stamp_of next) (sym same)
        | inr differ ↦ elim (cases_eq request.session s) [
          | inl here ↦ ap (λ n. session_stamp_of q (session_log next n)) here ∙ ap (session_stamp_of q) session-here ∙ stamp-other slog s r stamp q differ
              ∙ ap (λ n. session_stamp_of q (session_log account n)) (sym here) ∙ is.sessions.stamps q request e ∙ sym (stamp-old q differ)
          | inr there ↦ ap (session_stamp_of q) (session-there request.session there) ∙ is.sessions.stamps q request e ∙ sym (stamp-old q differ)
        ]
      ]

      knowing : (home : ℕ) (clock : Clock) → Contains (clocks_in (gate_log next home)) clock → IsKnown next clock
      knowing home clock h = elim (cases_eq home g) [
        | inr other ↦ known-next clock (is.clocks.known home clock (subst (λ l. Contains (clocks_in l) clock) (log-there home other) h))
        | inl same ↦ elim (Contains-append_cases (clocks_in log) (clocks_by deed ++ []) clock
            (subst (λ cs. Contains cs clock) (flat_map-append (λ (e : GateEntry). clocks_by e.deed) log (entry ∷ [])) (subst (λ l. Contains (clocks_in l) clock) (ap (gate_log next) same ∙ log-here) h))) [
              | inl old ↦ known-next clock (is.clocks.known g clock old)
              | inr now ↦ knows clock (subst (λ cs. Contains cs clock) (append-nil (clocks_by deed)) now)
            ]
      ]
