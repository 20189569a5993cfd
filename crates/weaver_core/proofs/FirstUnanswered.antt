-- The first request without a reply, in the script's order, by the sessions of a core.
-- Used by `first_unanswered`.
use Rattle.std.proofs.Common.{◌≡◌, ℕ, ◌<◌, ◌≤◌, ◌==◌, true, false, List, [], length, AllPairs, IsTrue, Some, inl, inr, sym, ap, ◌∙◌, arith}
use Rattle.std.specs.Prelude.{slice_get}
use Rattle.std.specs.List.{range_with_len}
use Rattle.std.proofs.lemmas.Bool.{cases_lt, cases_order, eqb-true, le-ltb, lt-ltb}
use Rattle.std.proofs.lemmas.List.{get_or_past}
use Rattle.std.proofs.lemmas.List.FromFn.{length-map-range_with_len}
use Rattle.std.proofs.lemmas.Option.{none-some, slice_get_within}
use Rattle.weave_data.proofs.Members.{filter_has}
use Rattle.vector_stamp.specs.declared.clock.Clock.{Clock}
use Rattle.program_defs.specs.declared.script.Request.{Request}
use Rattle.program_defs.specs.declared.script.Script.{Script}
use Rattle.report_rules.specs.Lookups.{is_some_and, request_at}
use Rattle.weave_entries.specs.declared.oracle_log.OracleEntry.{OracleEntry}
use Rattle.weave_entries.specs.declared.store_log.StoreEntry.{StoreEntry}
use Rattle.weave_entries.specs.SessionReplay.{has_reply_in, replied_count, session_of}
use Rattle.weave_account.specs.declared.account.Account.{Account}
use Rattle.weave_account.specs.Sessions.{requests_of_session}
use Rattle.step_rules.specs.Requests.{has_reply}
use Rattle.weaver_core.specs.Sessions.{ClientTable, IsFirstUnanswered, session_log_at, requests_at, unanswered_at, unanswered_in}
use Rattle.weaver_core.specs.Cores.{AreOf, machines_of}
use Rattle.weaver_core.specs.GateTable.{GateTable}
use Rattle.weaver_core.specs.ShardTable.{ShardTable}
use Rattle.weaver_core.proofs.CitedLaws.{RequestLaws}
use Rattle.weaver_core.proofs.BeginDone.{requests-are}
use Rattle.weaver_core.proofs.Turns.{SessionLaws, below, place-of, reply-is}
use Rattle.step_rules.proofs.SessionTurns.{at-place, get-before}

-- of numbers that rise, one at an earlier place, or at the same one, is at most this one
at-most : (requests : List ℕ) → AllPairs (λ (a b : ℕ). a < b) requests → (i j a : ℕ) → slice_get requests i ≡ Some a → j ≤ i → (b : ℕ) × (slice_get requests j ≡ Some b) × (b ≤ a)
at-most requests rise i j a at no-later = elim (cases_order j i) [
  | inl same ↦ (a, ap (slice_get requests) same ∙ at, omega arith)
  | inr (inl less) ↦ (let one = get-before requests i j a at less in let lower = below requests rise j i one.0 a one.1 at less in (one.0, one.1, omega (arith, lower)))
  | inr (inr more) ↦ absurd (omega (arith, more, no-later))
]

module _ (script : Script) (old : GateTable) (store : List StoreEntry) (oracle : List OracleEntry) (shards : ShardTable) (was : ClientTable) (notices : List Clock)
    (are : AreOf script (machines_of old store oracle shards was notices)) (sessions : SessionLaws) (laws : RequestLaws) where
  abbrev account : Account
  account = (machines_of old store oracle shards was notices).state.account

  abbrev requests : ℕ → List ℕ
  requests s = requests_of_session script s

  -- how many requests of a session have their replies
  abbrev count : ℕ → ℕ
  count s = replied_count (session_of (requests s) (session_log_at was s))

  replied-is : (s i r : ℕ) → slice_get (requests s) i ≡ Some r → i < count s → has_reply_in r (session_log_at was s) ≡ true
  replied-is s i r at less = reply-is sessions s (requests s) (session_log_at was s) (are.core.account.sessions.logs s) (laws.rise script s) i r at ∙ lt-ltb i (count s) less

  no-reply-is : (s i r : ℕ) → slice_get (requests s) i ≡ Some r → count s ≤ i → has_reply_in r (session_log_at was s) ≡ false
  no-reply-is s i r at over = reply-is sessions s (requests s) (session_log_at was s) (are.core.account.sessions.logs s) (laws.rise script s) i r at ∙ le-ltb i (count s) over

  unanswered-is : (s : ℕ) → s < 64 → unanswered_at was s ≡ slice_get (requests s) (count s)
  unanswered-is s below = ap (λ (rs : List ℕ). unanswered_in rs (session_log_at was s)) (requests-are script old store oracle shards was notices are 0 s below)

  -- there are 64 sessions
  none-past : (s r : ℕ) → 64 ≤ s → unanswered_at was s ≡ Some r → ⊥
  none-past s r past is =
      let many : length was.requests ≡ 64 = ap length are.frame.requests ∙ length-map-range_with_len (requests_of_session script) 0 64 in
      let none : requests_at was s ≡ [] = get_or_past was.requests s [] (omega (arith, past, many)) in
      none-some r (sym (ap (λ (rs : List ℕ). unanswered_in rs (session_log_at was s)) none) ∙ is)

  module _ (first : ℕ) (is : IsFirstUnanswered was (length script.requests) first) where
    -- each one before it has its reply
    pub replied-before : (r : ℕ) (request : Request) → r < first → request_at script r ≡ Some request → IsTrue (has_reply account r request)
    replied-before r request before at =
        let s = request.session in
        let place = place-of (requests s) r (laws.among script r request at) in
        elim (cases_lt place.0 (count s)) [
          | inl less ↦ replied-is s place.0 r place.1 less
          | inr over ↦
              let one = at-most (requests s) (laws.rise script s) place.0 (count s) r place.1 over in
              let least = is.least s one.0 (unanswered-is s (are.limits.sessions r request at) ∙ one.1) in
              let no_more = one.2 in
              absurd (omega (arith, before, least, no_more))
        ]

    -- the first request without a reply, as the sessions have it, has no reply in the account
    pub none-replied : (request : Request) → request_at script first ≡ Some request → has_reply account first request ≡ false
    none-replied request at =
        let one = is.unanswered (slice_get_within script.requests first request at) in
        let s = one.session in
        elim (cases_lt s 64) [
          | inl below ↦
              let there = sym (unanswered-is s below) ∙ one.at in
              let of = filter_has (λ r. is_some_and (λ (q : Request). q.session == s) (request_at script r)) (range_with_len 0 (length script.requests)) first (at-place (requests s) (count s) first there) in
              let same = eqb-true request.session s (sym (ap (is_some_and (λ (q : Request). q.session == s)) at) ∙ of.1) in
              ap (λ n. has_reply_in first (session_log_at was n)) same ∙ no-reply-is s (count s) first there (omega arith)
          | inr past ↦ absurd (none-past s first past one.at)
        ]
