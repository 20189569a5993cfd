-- Each begun request began rightly, at a gatekeeper of the script.
-- Used by BegunStamps, Coherence, FormOfScript, Growing, InSession, KnownClocks, Meeting, OpenRequests, PhaseOrder,
-- PhasePrecedence, PlacedPairs, ReadingPlace, Replies, RepliesClause, Requests and 5 crates above.
use Rattle.std.proofs.Common.{◌≡◌, ℕ, suc, ◌==◌, Bool, List, [], ◌∷◌, ◌++◌, get_or, Contains, IsTrue, Option, Some, None, inl, inr, refl, sym, ap, subst, ◌∙◌}
use Rattle.std.specs.Prelude.{◌&&◌}
use Rattle.std.specs.List.{find}
use Rattle.std.specs.Option.{option_map}
use Rattle.std.proofs.lemmas.Bool.{eqb-true}
use Rattle.weave_data.proofs.Members.{has_read, has_none, cut_at, find_has, flat_has, only}
use Rattle.program_defs.specs.declared.script.Request.{Request}
use Rattle.program_defs.specs.declared.script.Script.{Script}
use Rattle.program_defs.specs.declared.script.Work.{Work}
use Rattle.weave_entries.specs.declared.gate_log.GateEntry.{GateEntry}
use Rattle.weave_entries.specs.declared.gate_log.GateDeed.{GateDeed}
use Rattle.weave_entries.specs.declared.gate_log.GateDeed.TheVariants.{BeganTx, BeganProgram, Sent, Nop, Heard, Raised, Finished}
use Rattle.weave_entries.specs.GateReplay.{BegunRequest, tx_by, program_by, begun_in}
use Rattle.program_defs.specs.Works.{is_look, is_change}
use Rattle.report_rules.specs.Lookups.{is_some_and, request_at}
use Rattle.weave_account.specs.declared.account.Account.{Account}
use Rattle.weave_account.specs.Account.{gate_log, all_begun, stamp_of}
use Rattle.weave_account.specs.Gatekeepers.{BeginsRequest, BeginsAs}
use Rattle.weave_data.proofs.Images.{flat-has, within-list}
use Rattle.weave_account.proofs.Basis.{Basis}
use Rattle.std.proofs.Common.{◌<◌, arith}
use Rattle.weave_entries.specs.GateReplay.{begun_by}

-- Begins

-- what was begun began at its own gatekeeper
pub record IsBegunRightly (script : Script) (account : Account) (begun : BegunRequest) : Type 0 where
  pub home : ℕ
  pub kind : Work → Bool
  pub before : List GateEntry
  pub there : Contains (begun_in (gate_log account home)) begun
  pub rule : BeginsRequest script account kind home before begun.request begun.stamp

deed-begun : (script : Script) (account : Account) (home : ℕ) (before : List GateEntry) (author : ℕ) (deed : GateDeed) (begun : BegunRequest)
    → Contains (begun_in (gate_log account home)) begun → Contains (tx_by author deed ++ program_by author deed) begun
    → BeginsAs script account home before deed → IsBegunRightly script account begun
deed-begun script account home before author (BeganTx r stamp) begun there h rule =
    let same = only (record { author = author; request = r; stamp = stamp }) begun h in
    subst (λ b. Contains (begun_in (gate_log account home)) b → IsBegunRightly script account b) same
    (λ here. record { home = home; kind = is_change; before = before; there = here; rule = rule }) there
deed-begun script account home before author (BeganProgram r stamp) begun there h rule =
    let same = only (record { author = author; request = r; stamp = stamp }) begun h in
    subst (λ b. Contains (begun_in (gate_log account home)) b → IsBegunRightly script account b) same
    (λ here. record { home = home; kind = is_look; before = before; there = here; rule = rule }) there
deed-begun script account home before author (Sent r messages) begun there h rule = absurd (has_none begun h)
deed-begun script account home before author (Nop shard number stamp low) begun there h rule = absurd (has_none begun h)
deed-begun script account home before author (Heard clock) begun there h rule = absurd (has_none begun h)
deed-begun script account home before author (Raised epoch) begun there h rule = absurd (has_none begun h)
deed-begun script account home before author (Finished r) begun there h rule = absurd (has_none begun h)

-- a list of lists has this one at some place
pub place-of : {A : Type 0} (xss : List (List A)) (xs : List A) → Contains xss xs → (i : ℕ) × (get_or xss i [] ≡ xs)
place-of [] xs h = absurd (has_none xs h)
place-of (ys ∷ xss) xs h =
    elim (has_read ys xss xs h) [ inl same ↦ (0, same) | inr more ↦ (let r = place-of xss xs more in (suc r.0, r.1)) ]

-- what began in an account is in the log of some gatekeeper
pub has-all : (account : Account) (begun : BegunRequest) → Contains (all_begun account) begun
    → (home : ℕ) × Contains (begun_in (gate_log account home)) begun
has-all account begun h =
    let from = flat_has begun_in account.gates begun h in
    let place = place-of account.gates from.0 from.1 in
    (place.0, subst (λ (l : List GateEntry). Contains (begun_in l) begun) (sym place.1) from.2)

module _ (script : Script) (account : Account) (basis : Basis script account) where
  -- each begun request began rightly
  pub begun-rightly : (begun : BegunRequest) → Contains (all_begun account) begun → IsBegunRightly script account begun
  begun-rightly begun h =
      let log = flat-has begun_in account.gates begun h in
      let home = place-of account.gates log.0 log.1.0 in
      let begun-there : Contains (begun_in (gate_log account home.0)) begun = subst (λ l. Contains (begun_in l) begun) (sym home.1) log.1.1 in
      let entry = flat-has (λ (e : GateEntry). tx_by e.author e.deed ++ program_by e.author e.deed) (gate_log account home.0) begun begun-there in
      let place = cut_at (gate_log account home.0) entry.0 entry.1.0 in
      deed-begun script account home.0 place.before (entry.0).author (entry.0).deed begun begun-there entry.1.1
      (basis.is.gatekeepers.begins home.0 place.before entry.0 place.after place.is)

  -- a gatekeeper that began a request is one of the script
  pub home-within : (home : ℕ) (begun : BegunRequest) → Contains (begun_in (gate_log account home)) begun → home < script.gates
  home-within home begun h =
      let entry = flat-has (λ (e : GateEntry). begun_by e.author e.deed) (gate_log account home) begun h in
      let within = within-list account.gates home entry.0 entry.1.0 in
      let as-many = basis.is.gatekeepers.as_many in
      omega (arith, within, as-many)

  -- a gatekeeper where a request was begun has a number below 8
  pub home-below : (home : ℕ) (begun : BegunRequest) → Contains (begun_in (gate_log account home)) begun → home < 8
  home-below home begun h =
      let within = home-within home begun h in
      let few = basis.limits.few_gates in
      omega (arith, within, few)

  -- a request that the script doesn't have isn't begun
  pub none-begun : (r : ℕ) → request_at script r ≡ None → stamp_of account r ≡ None
  none-begun r none = at (find (λ (b : BegunRequest). b.request == r) (all_begun account)) refl
    where
      at : (o : Option BegunRequest) → find (λ (b : BegunRequest). b.request == r) (all_begun account) ≡ o
          → option_map (λ (b : BegunRequest). b.stamp) o ≡ None
      at None e = refl
      at (Some begun) e =
          let found = find_has (λ (b : BegunRequest). b.request == r) (all_begun account) begun e in
          let rightly = begun-rightly begun found.0 in
          let same : begun.request ≡ r = eqb-true begun.request r found.1 in
          let own : IsTrue (is_some_and (λ (request : Request). (request.gate == rightly.home) && rightly.kind request.work) None) =
          subst (λ q. IsTrue (is_some_and (λ (request : Request). (request.gate == rightly.home) && rightly.kind request.work) q))
          (ap (request_at script) same ∙ none) rightly.rule.own in
          cc
