-- A request that has its reply was sent or finished, and a transaction was judged.
-- Used by ValuesStay and crates weaver_top and workers_account.
use Rattle.std.proofs.Common.{◌≡◌, ℕ, true, false, List, [], ◌∷◌, ◌++◌, Contains, IsTrue, Option, None, Some, refl, sym, ap, subst, ◌∙◌}
use Rattle.std.specs.Prelude.{◌==◌, ◌&&◌}
use Rattle.std.specs.List.{flat_map}
use Rattle.std.proofs.lemmas.Bool.{and_parts, eqb-true}
use Rattle.std.proofs.lemmas.List.Concat.{flat_map-append}
use Rattle.std.proofs.lemmas.List.Elements.{Contains-append_left}
use Rattle.std.proofs.lemmas.Option.{get_or_from_slice_get, same_Some}
use Rattle.weave_data.proofs.Members.{any_has, cut_at, flat_has, has_none, only}
use Rattle.weave_data.proofs.Numbers.{has-in}
use Rattle.weave_data.proofs.Ordered.{find_by_key}
use Rattle.program_defs.specs.Works.{is_change, is_look}
use Rattle.program_defs.specs.declared.script.Request.{Request}
use Rattle.program_defs.specs.declared.script.Script.{Script}
use Rattle.report_rules.specs.Lookups.{is_some_and, request_at}
use Rattle.weave_entries.specs.declared.gate_log.GateEntry.{GateEntry}
use Rattle.weave_entries.specs.declared.gate_log.GateDeed.{GateDeed}
use Rattle.weave_entries.specs.declared.gate_log.GateDeed.TheVariants.{BeganTx, BeganProgram, Sent, Nop, Heard, Raised, Finished}
use Rattle.weave_entries.specs.declared.session_log.SessionEntry.{SessionEntry}
use Rattle.weave_entries.specs.declared.session_log.SessionDeed.{SessionDeed}
use Rattle.weave_entries.specs.declared.session_log.SessionDeed.TheVariants as session
use Rattle.weave_entries.specs.GateReplay.{BegunRequest, ended_by, ended_in, program_by, programs_of}
use Rattle.weave_entries.specs.GateRules.{EndsAs}
use Rattle.weave_entries.specs.SessionReplay.{has_reply_in, replied_in, reply_by}
use Rattle.weave_entries.specs.StoreReplay.{Judgement, judgement_of, judgements_of}
use Rattle.weave_account.specs.declared.account.Account.{Account}
use Rattle.weave_account.specs.Account.{gate_log, is_ended, session_log}
use Rattle.weave_account.specs.Channels.{SendsAs}
use Rattle.weave_account.specs.Gatekeepers.{BeginsAs}
use Rattle.weave_account.specs.IsAccount.{IsAccount}
use Rattle.weave_account.specs.Sessions.{RepliesAs}
use Rattle.weaver_core.specs.Staying.{StayLaws}
use Rattle.weaver_core.proofs.Marked.{no-look}
use Rattle.weaver_core.proofs.Turns.{place-of}

module _ (script : Script) (account : Account) (is : IsAccount script account) where
  reply-ended : (deed : SessionDeed) (r : ℕ) → Contains (reply_by deed) r → RepliesAs account deed → IsTrue (is_ended account r)
  reply-ended (session.Begun q stamp) r h right = absurd (has_none r h)
  reply-ended (session.Replied q) r h right = subst (λ k. IsTrue (is_ended account k)) (only q r h) right

  -- what has its reply was sent or finished
  pub replied-ended : (r number : ℕ) → IsTrue (has_reply_in r (session_log account number)) → IsTrue (is_ended account r)
  replied-ended r number h =
      let found = any_has (λ replied. replied == r) (replied_in (session_log account number)) h in
      let from = flat_has (λ (e : SessionEntry). reply_by e.deed) (session_log account number) found.0 found.1 in
      let place = cut_at (session_log account number) from.0 from.1 in
      subst (λ k. IsTrue (is_ended account k)) (eqb-true found.0 r found.2)
      (reply-ended from.0.deed found.0 from.2 (is.sessions.replies number place.before from.0 place.after place.is))

module _ (stay : StayLaws) (script : Script) (account : Account) (is : IsAccount script account) where
  -- a begun program is one of the script, at its gatekeeper
  pub record IsProgramBegun (home r : ℕ) : Type 0 where
    pub request : Request
    pub request_is : request_at script r ≡ Some request
    pub gate_is : request.gate ≡ home
    pub looks : is_look request.work ≡ true

  its-request : (home r : ℕ) (o : Option Request) → request_at script r ≡ o → IsTrue (is_some_and (λ (request : Request). (request.gate == home) && is_look request.work) o) → IsProgramBegun home r
  its-request home r None e h = absurd (let f : false ≡ true = h in cc)
  its-request home r (Some request) e h =
      let both = and_parts (request.gate == home) (is_look request.work) h in
      record { request = request; request_is = e; gate_is = eqb-true request.gate home both.0; looks = both.1 }

  deed-program : (home : ℕ) (before : List GateEntry) (author : ℕ) (deed : GateDeed) (b : BegunRequest) → Contains (program_by author deed) b → BeginsAs script account home before deed → IsProgramBegun home b.request
  deed-program home before author (BeganProgram q stamp) b h begins =
      let same = only (record { author = author; request = q; stamp = stamp }) b h in
      subst (λ (one : BegunRequest). IsProgramBegun home one.request) same (its-request home q (request_at script q) refl begins.own)
  deed-program home before author (BeganTx q stamp) b h begins = absurd (has_none b h)
  deed-program home before author (Sent q messages) b h begins = absurd (has_none b h)
  deed-program home before author (Nop to number stamp low) b h begins = absurd (has_none b h)
  deed-program home before author (Heard clock) b h begins = absurd (has_none b h)
  deed-program home before author (Raised epoch) b h begins = absurd (has_none b h)
  deed-program home before author (Finished q) b h begins = absurd (has_none b h)

  -- what a gatekeeper has begun as a program is a program of the script, of this gatekeeper
  pub program-begun-is : (home : ℕ) (b : BegunRequest) → Contains (programs_of (gate_log account home)) b → IsProgramBegun home b.request
  program-begun-is home b h =
      let from = flat_has (λ (e : GateEntry). program_by e.author e.deed) (gate_log account home) b h in
      let place = cut_at (gate_log account home) from.0 from.1 in
      deed-program home place.before from.0.author from.0.deed b from.2 (is.gatekeepers.begins home place.before from.0 place.after place.is)

  -- a judgement of this request
  abbrev pub IsJudged : ℕ → Type 0
  IsJudged r = (judged : Judgement) × Contains (judgements_of account.store) judged × (judged.request ≡ r)

  programs-front : (xs ys : List GateEntry) (b : BegunRequest) → Contains (programs_of xs) b → Contains (programs_of (xs ++ ys)) b
  programs-front xs ys b h =
      subst (λ bs. Contains bs b) (sym (flat_map-append (λ (e : GateEntry). program_by e.author e.deed) xs ys))
      (Contains-append_left (programs_of xs) (programs_of ys) b h)

  deed-judged : (home : ℕ) (before : List GateEntry) (author : ℕ) (deed : GateDeed) (after : List GateEntry)
      → gate_log account home ≡ before ++ record { author = author; deed = deed } ∷ after
      → (r : ℕ) (request : Request) → request_at script r ≡ Some request → is_change request.work ≡ true
      → Contains (ended_by deed) r → EndsAs before author deed → SendsAs account script.shards before author deed → IsJudged r
  deed-judged home before author (Sent q messages) after at r request there change h ends sends =
      (sends.judged, sends.is_judged, sends.request_is ∙ only q r h)
  deed-judged home before author (Finished q) after at r request there change h ends sends =
      let in-log : Contains (programs_of (gate_log account home)) (record { author = author; request = q; stamp = ends.0 }) =
      subst (λ l. Contains (programs_of l) (record { author = author; request = q; stamp = ends.0 })) (sym at)
      (programs-front before (record { author = author; deed = Finished q } ∷ after) _ ends.1) in
      let program = program-begun-is home _ in-log in
      let one = same_Some request program.request (sym there ∙ ap (request_at script) (sym (only q r h)) ∙ program.request_is) in
      absurd (no-look request.work (ap (λ (k : Request). is_look k.work) one ∙ program.looks) change)
  deed-judged home before author (BeganTx q stamp) after at r request there change h ends sends = absurd (has_none r h)
  deed-judged home before author (BeganProgram q stamp) after at r request there change h ends sends = absurd (has_none r h)
  deed-judged home before author (Nop to number stamp low) after at r request there change h ends sends = absurd (has_none r h)
  deed-judged home before author (Heard clock) after at r request there change h ends sends = absurd (has_none r h)
  deed-judged home before author (Raised epoch) after at r request there change h ends sends = absurd (has_none r h)

  -- a transaction that has ended was judged
  pub ended-judged : (r : ℕ) (request : Request) → request_at script r ≡ Some request → is_change request.work ≡ true → IsTrue (is_ended account r)
      → (judged : Judgement) × (judgement_of r account.store ≡ Some judged)
  ended-judged r request there change ended =
      let log = flat_has ended_in account.gates r (has-in (flat_map ended_in account.gates) r ended) in
      let home = place-of account.gates log.0 log.1 in
      let log-is : gate_log account home.0 ≡ log.0 = get_or_from_slice_get account.gates home.0 log.0 [] home.1 in
      let entry = flat_has (λ (e : GateEntry). ended_by e.deed) (gate_log account home.0) r (subst (λ l. Contains (ended_in l) r) (sym log-is) log.2) in
      let place = cut_at (gate_log account home.0) entry.0 entry.1 in
      let judged = deed-judged home.0 place.before entry.0.author entry.0.deed place.after place.is r request there change entry.2
      (stay.ends home.0 script.shards (gate_log account home.0) (is.gatekeepers.logs home.0) place.before entry.0 place.after place.is)
      (is.channels home.0 place.before entry.0 place.after place.is) in
      (judged.0, subst (λ k. judgement_of k account.store ≡ Some judged.0) judged.2 (find_by_key (λ (j : Judgement). j.request) (judgements_of account.store) judged.0 is.store.once judged.1))
