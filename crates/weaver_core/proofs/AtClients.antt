-- If a session gets one more entry, it goes on together with its log, and the table of a core's sessions has the entry.
-- Used by `begin_next`, `begun`, `first_clients`, `first_unanswered`, `put`, `replied`, `reply_to_one`, `reserve`,
-- `take` and Unanswered.
use Rattle.std.proofs.Common.{arith, ◌≡◌, ℕ, ◌+◌, ◌<◌, List, [], ◌∷◌, ◌++◌, length, map, get_or, AllPairs, Option, Some, refl, sym, ap, subst, ◌∙◌}
use Rattle.std.specs.Prelude.{slice_get, slice_set}
use Rattle.std.proofs.lemmas.List.{map-append}
use Rattle.std.proofs.lemmas.List.FromFn.{map-range_with_len_more}
use Rattle.program_defs.specs.declared.script.Script.{Script}
use Rattle.weave_account.specs.Sessions.{requests_of_session}
use Rattle.weave_entries.specs.declared.session_log.SessionEntry.{SessionEntry}
use Rattle.weave_entries.specs.declared.session_log.SessionDeed.{SessionDeed}
use Rattle.weave_entries.specs.declared.session_log.SessionDeed.TheVariants.{Begun, Replied}
use Rattle.weave_entries.specs.SessionReplay.{FitsSession, IsSessionLog, SessionState, session_after, session_of}
use Rattle.weaver_core.specs.Sessions.{AddsToSession, AddsDeed, AreFirstSessions, AreNumbered, AreSameClients, ClientTable, IsClientOf, IsSameClient, SessionValues, log_of_client, no_values, requests_in, session_at, spare_of, values_at, values_of, with_running}
use Rattle.weaver_core.specs.declared.client.Client.{Client}
use Rattle.weaver_core.specs.declared.walks.Running.{Running}
use Rattle.weaver_core.proofs.Tables.{each-push, each-set, image-changes, image-push, image-rests}

-- the law of session_stamp on a log with one more entry
pub record LogLaws : Type 0 where
  pub replay : (requests : List ℕ) (log : List SessionEntry) (entry : SessionEntry) → session_of requests (log ++ entry ∷ []) ≡ session_after (session_of requests log) entry.deed
  pub right : (number : ℕ) (requests : List ℕ) (log : List SessionEntry) (entry : SessionEntry) → IsSessionLog number requests log → entry.author ≡ number → FitsSession (session_of requests log) entry.deed → IsSessionLog number requests (log ++ entry ∷ [])

-- the requests of a session stay
same-requests : (session : SessionState) (deed : SessionDeed) → (session_after session deed).requests ≡ session.requests
same-requests session (Begun r stamp) = refl
same-requests session (Replied r) = refl

-- the session and its log go on together
pub client-more : LogLaws → (number : ℕ) (session : SessionState) (log : List SessionEntry) (deed : SessionDeed) → IsClientOf number session log → FitsSession (session_of session.requests log) deed
    → IsClientOf number (session_after session deed) (log ++ record { author = number; deed = deed } ∷ [])
client-more laws number session log deed is fits =
    let entry : SessionEntry = record { author = number; deed = deed } in
    let next : SessionState = session_after session deed in
    let same = same-requests session deed in
    record {
      state = ap (λ (s : SessionState). session_after s deed) is.state ∙ sym (laws.replay session.requests log entry) ∙ ap (λ (rs : List ℕ). session_of rs (log ++ entry ∷ [])) (sym same);
      right = subst (λ (rs : List ℕ). IsSessionLog number rs (log ++ entry ∷ [])) (sym same) (laws.right number session.requests log entry is.right refl fits);
      rising = subst (λ (rs : List ℕ). AllPairs (λ (a b : ℕ). a < b) rs) (sym same) is.rising;
    }

-- if a right session is moved by a deed that fits, and its log gets the entry, both go on together
pub client-adds : LogLaws → (number : ℕ) (old new : Client) (deed : SessionDeed) → IsClientOf number old.session old.log.items → FitsSession (session_of (requests_in old) (log_of_client old)) deed → new.session ≡ session_after old.session deed
    → new.log.items ≡ old.log.items ++ record { author = number; deed = deed } ∷ [] → AddsDeed number old new deed
client-adds laws number old new deed is fits session log = record {
  log = log;
  requests = ap (λ (s : SessionState). s.requests) session ∙ same-requests old.session deed;
  client = subst (λ (entries : List SessionEntry). IsClientOf number new.session entries) (sym log)
      (subst (λ (s : SessionState). IsClientOf number s (old.log.items ++ record { author = number; deed = deed } ∷ [])) (sym session) (client-more laws number old.session old.log.items deed is fits));
}

-- One of the sessions

-- the table of these sessions
abbrev pub table_of : List Client → ClientTable
table_of clients = record { requests = map requests_in clients; logs = map log_of_client clients; spares = map spare_of clients; values = map values_of clients }

-- the session at the end of its log is that of the table, if only the room differs
pub same-session : (old new : ClientTable) (s : ℕ) → AreSameClients old new → session_at new s ≡ session_at old s
same-session old new s same = λ i. session_of (get_or (same.requests i) s []) (get_or (same.logs i) s [])

module _ (clients : List Client) (s : ℕ) (before after : Client) (within : s < length clients) (at : slice_get clients s ≡ Some before) where
  -- if a session's log gets one more entry, the table of sessions does
  pub adds-at : (deed : SessionDeed) → AddsDeed s before after deed → AddsToSession (table_of clients) (table_of (slice_set clients s after)) s deed
  adds-at deed adds = record {
    logs = image-changes log_of_client clients s before at (λ (log : List SessionEntry). log ++ record { author = s; deed = deed } ∷ []) [] after adds.log;
    requests = image-rests requests_in clients s before at after adds.requests;
  }

  -- if the session's values stay, so do the table's
  pub values-rest : values_of after ≡ values_of before → map values_of (slice_set clients s after) ≡ map values_of clients
  values-rest same = image-rests values_of clients s before at after same

  -- if the session's values were changed, the table's were changed so in its place
  pub values-set : (change : SessionValues → SessionValues) → values_of after ≡ change (values_of before) → map values_of (slice_set clients s after) ≡ slice_set (map values_of clients) s (change (values_at (map values_of clients) s))
  values-set change is = image-changes values_of clients s before at change no_values after is

  -- if all but the room of the session is as before, so is all but the room of the table
  pub clients-rest : IsSameClient before after → AreSameClients (table_of clients) (table_of (slice_set clients s after))
  clients-rest same = record {
    requests = image-rests requests_in clients s before at after (ap (λ (state : SessionState). state.requests) same.session);
    logs = image-rests log_of_client clients s before at after same.log;
    values = values-rest same.values;
  }

  -- if only what the session is running was changed, only this was changed in the table, in the session's place
  pub running-set : (running : Option Running) → after ≡ record before { running = running } → table_of (slice_set clients s after) ≡ record (table_of clients) { values = with_running (map values_of clients) s running }
  running-set running is =
      let requests = image-rests requests_in clients s before at after (ap requests_in is) in
      let logs = image-rests log_of_client clients s before at after (ap log_of_client is) in
      let spares = image-rests spare_of clients s before at after (ap spare_of is) in
      let values = values-set (λ (values : SessionValues). record { running = running; replies = values.replies }) (ap values_of is) in
      λ i. record { requests = requests i; logs = logs i; spares = spares i; values = values i }

  -- the sessions are still at the ends of their logs
  pub still-numbered : AreNumbered clients → IsClientOf s after.session after.log.items → AreNumbered (slice_set clients s after)
  still-numbered numbered is = each-set (λ n (client : Client). IsClientOf n client.session client.log.items) clients s after within numbered is

  -- the same if neither the session nor its log has changed
  pub numbered-same : AreNumbered clients → after.session ≡ before.session → after.log.items ≡ before.log.items → AreNumbered (slice_set clients s after)
  numbered-same numbered session log =
      still-numbered numbered (subst (λ (entries : List SessionEntry). IsClientOf s after.session entries) (sym log) (subst (λ (state : SessionState). IsClientOf s state before.log.items) (sym session) (numbered s before at)))

-- one session more, before its first request
pub first-client-more : (script : Script) (count : ℕ) (made then_made : List Client) (client : Client) (found : List ℕ) → AreFirstSessions script count made → found ≡ requests_of_session script count
    → requests_in client ≡ found → log_of_client client ≡ [] → values_of client ≡ no_values → ((number : ℕ) → IsClientOf number client.session client.log.items) → then_made ≡ made ++ client ∷ [] → AreFirstSessions script (count + 1) then_made
first-client-more script count made then_made client found are found-is requests log values is-client is =
    subst (AreFirstSessions script (count + 1)) (sym is) (record {
      numbered = each-push (λ n (one : Client). IsClientOf n one.session one.log.items) made client are.numbered (is-client (length made));
      requests =
          map-append requests_in made (client ∷ [])
          ∙ (λ i. are.requests i ++ (requests ∙ found-is) i ∷ [])
          ∙ sym (map-range_with_len_more (requests_of_session script) 0 count count (omega arith));
      logs = image-push log_of_client made client [] count are.logs log;
      values = image-push values_of made client no_values count are.values values;
    })

-- room first, then an entry
pub after-room : (old more new : ClientTable) (s : ℕ) (deed : SessionDeed) → AreSameClients old more → AddsToSession more new s deed → AddsToSession old new s deed
after-room old more new s deed same adds = record {
  logs = adds.logs ∙ ap (λ (logs : List (List SessionEntry)). slice_set logs s (get_or logs s [] ++ record { author = s; deed = deed } ∷ [])) same.logs;
  requests = adds.requests ∙ same.requests;
}
