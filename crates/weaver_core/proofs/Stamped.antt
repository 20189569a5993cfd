-- The stamps of the sessions' logs are those of the account.
-- Used by Unordered.
use Rattle.std.proofs.Common.{◌≡◌, ◌≢◌, ℕ, zero, suc, ◌<◌, true, List, [], ◌∷◌, length, get_or, Contains, Option, None, Some, refl, sym, ap, subst, ◌∙◌, arith}
use Rattle.std.specs.Prelude.{◌==◌}
use Rattle.std.specs.List.{find, range_with_len}
use Rattle.std.specs.Option.{option_map, option_or}
use Rattle.std.proofs.lemmas.Bool.{eqb-true}
use Rattle.weave_data.proofs.Members.{filter_has, find_has, has_map}
use Rattle.weave_data.proofs.Options.{or_none}
use Rattle.program_defs.specs.declared.script.Request.{Request}
use Rattle.program_defs.specs.declared.script.Script.{Script}
use Rattle.report_rules.specs.Lookups.{is_some_and, request_at}
use Rattle.vector_stamp.specs.declared.clock.Stamp.{Stamp}
use Rattle.weave_entries.specs.declared.session_log.SessionEntry.{SessionEntry}
use Rattle.weave_entries.specs.SessionReplay.{begins_in, session_stamp_of}
use Rattle.weave_account.specs.declared.account.Account.{Account}
use Rattle.weave_account.specs.Account.{session_log, stamp_of}
use Rattle.weave_account.specs.IsAccount.{IsAccount}
use Rattle.weave_account.specs.Sessions.{requests_of_session}
use Rattle.weaver_core.specs.Sessions.{stamp_logged}
use Rattle.weaver_core.proofs.Noting.{stamp-in-more}
use Rattle.weaver_core.proofs.Turns.{SessionLaws}
use Rattle.step_rules.proofs.VisitLogs.{in-take}

-- no log has a begin of the request
none-in : (logs : List (List SessionEntry)) (r : ℕ) → ((s : ℕ) → session_stamp_of r (get_or logs s []) ≡ None) → stamp_logged logs r ≡ None
none-in [] r none = refl
none-in (log ∷ logs) r none = stamp-in-more log logs r ∙ (λ i. option_or (none zero i) (none-in logs r (λ s. none (suc s)) i))

-- if one log alone has begins of a request, its stamp is that of this log
pub stamp-in-one : (logs : List (List SessionEntry)) (r s : ℕ) → s < length logs → ((other : ℕ) → other ≢ s → session_stamp_of r (get_or logs other []) ≡ None) → stamp_logged logs r ≡ session_stamp_of r (get_or logs s [])
stamp-in-one [] r s within none = absurd (omega (arith, within))
stamp-in-one (log ∷ logs) r zero within none =
    stamp-in-more log logs r ∙ ap (option_or (session_stamp_of r log)) (none-in logs r (λ other. none (suc other) (λ (e : suc other ≡ zero). absurd (omega (arith, e))))) ∙ or_none (session_stamp_of r log)
stamp-in-one (log ∷ logs) r (suc s) within none =
    stamp-in-more log logs r
    ∙ (λ i. option_or (none zero (λ (e : zero ≡ suc s). absurd (omega (arith, e))) i) (stamp-in-one logs r s (omega (arith, within)) (λ other differ. none (suc other) (λ (e : suc other ≡ suc s). differ (omega (arith, e)))) i))

-- A request is begun in its own session alone

module _ (laws : SessionLaws) (script : Script) (account : Account) (is : IsAccount script account) (r : ℕ) (request : Request) (request-is : request_at script r ≡ Some request) where
  other-none : (other : ℕ) → other ≢ request.session → session_stamp_of r (session_log account other) ≡ None
  other-none other differ = by (find (λ (begun : ℕ × Stamp). begun.0 == r) (begins_in (session_log account other))) refl
    where
      by : (o : Option (ℕ × Stamp)) → find (λ (begun : ℕ × Stamp). begun.0 == r) (begins_in (session_log account other)) ≡ o → session_stamp_of r (session_log account other) ≡ None
      by None e = ap (option_map (λ (begun : ℕ × Stamp). begun.1)) e
      by (Some begun) e =
          let found = find_has (λ (one : ℕ × Stamp). one.0 == r) (begins_in (session_log account other)) begun e in
          let number : begun.0 ≡ r = eqb-true begun.0 r found.1 in
          let image = has_map (λ (one : ℕ × Stamp). one.0) (begins_in (session_log account other)) begun found.0 in
          let first = subst (λ (rs : List ℕ). Contains rs begun.0) (laws.begun_first other (requests_of_session script other) (session_log account other) (is.sessions.logs other)) image in
          let among = in-take _ (requests_of_session script other) begun.0 first in
          let of-it = (filter_has (λ (q : ℕ). is_some_and (λ (one : Request). one.session == other) (request_at script q)) (range_with_len 0 (length script.requests)) begun.0 among).1 in
          let session : (request.session == other) ≡ true = sym (ap (λ (q : ℕ). is_some_and (λ (one : Request). one.session == other) (request_at script q)) number ∙ ap (is_some_and (λ (one : Request). one.session == other)) request-is) ∙ of-it in
          absurd (differ (sym (eqb-true request.session other session)))

  -- the stamp of a request in the sessions' logs is that in the account
  pub stamp-is : request.session < length account.sessions → stamp_logged account.sessions r ≡ stamp_of account r
  stamp-is within = stamp-in-one account.sessions r request.session within other-none ∙ is.sessions.stamps r request request-is
