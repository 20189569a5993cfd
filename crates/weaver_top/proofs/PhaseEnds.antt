-- The phases of a run end one after another, and with the last requests it is a run by phases.
-- Used by `answer_of`, `end_next`, `end_phases`, `run`, Headline and OnThreads.
use Rattle.std.proofs.Common.{◌≡◌, ℕ, zero, suc, ◌+◌, ◌<◌, ◌≤◌, ◌⊎◌, Bool, true, false, cond, nat_le, nat_lt, List, [], ◌∷◌, length, replicate, get_or, Contains, IsTrue, Some, inl, inr, refl, sym, ap, subst, ◌∙◌, arith}
use Rattle.std.specs.Prelude.{count_by, slice_get}
use Rattle.std.specs.List.{list_any}
use Rattle.std.proofs.lemmas.Bool.{cases_eq, le-leb, leb-false, leb-true, lt-ltb, ltb-true}
use Rattle.std.proofs.lemmas.List.Elements.{Contains-append_cases}
use Rattle.std.proofs.lemmas.Option.{slice_get_within}
use Rattle.std.proofs.lemmas.List.Sums.{count_by-le-length, sum_by-cons}
use Rattle.weave_data.proofs.Images.{flat-has}
use Rattle.weave_data.proofs.Members.{any_has, has_none, only}
use Rattle.vector_stamp.specs.Order.{id_of}
use Rattle.program_defs.specs.declared.script.Request.{Request}
use Rattle.program_defs.specs.declared.script.Script.{Script}
use Rattle.program_defs.specs.Limits.{IsWithinLimits}
use Rattle.report_rules.specs.Lookups.{request_at}
use Rattle.weave_script.specs.Scripts.{RiseTo}
use Rattle.weave_entries.specs.declared.gate_log.GateDeed.{GateDeed}
use Rattle.weave_entries.specs.declared.gate_log.GateDeed.TheVariants.{BeganTx, BeganProgram, Sent, Nop, Heard, Raised, Finished}
use Rattle.weave_entries.specs.declared.gate_log.GateEntry.{GateEntry}
use Rattle.weave_entries.specs.GateReplay.{BegunRequest, begun_by}
use Rattle.weave_account.specs.declared.account.Account.{Account}
use Rattle.weave_account.specs.Account.{all_begun, gate_log}
use Rattle.weave_account.specs.Clocks.{is_raised, raises_to}
use Rattle.weave_account.specs.IsAccount.{IsAccount}
use Rattle.weave_account.specs.NoLogs.{no_logs}
use Rattle.weave_account.specs.Phases.{EndsPhase}
use Rattle.step_rules.specs.Requests.{has_reply}
use Rattle.weave_drive.specs.Driving.{AreReplied, DrivesGates, is_driving_deed}
use Rattle.weave_account.proofs.Replying.{place-of, has-all as at-home}
use Rattle.weave_account.proofs.RepliesClause.{begun-there}
use Rattle.weaver_top.specs.LowerLaws.{LawsForCommands}
use Rattle.weaver_top.specs.PhaseByPhase.{EndsAt, HasEnded, IsRunUpTo, IsWholeRun, RunsBelow}
use Rattle.weaver_top.proofs.Onward.{adds-through, runs-same}
use Rattle.step_rules.proofs.StepGoesOn.{goes-further, goes-same}

-- Ends of phases rise

cases_le : (a b : ℕ) → (a ≤ b) ⊎ (nat_le a b ≡ false)
cases_le a b = at (nat_le a b) refl
  where
    at : (t : Bool) → nat_le a b ≡ t → (a ≤ b) ⊎ (nat_le a b ≡ false)
    at true e = inl (leb-true a b e)
    at false e = inr e

-- the ends of phases are within the script
pub end-within : (low high : ℕ) (ends : List ℕ) (n end : ℕ) → RiseTo low high ends → slice_get ends n ≡ Some end → (low ≤ end) × (end ≤ high)
end-within low high [] n end rise at = cc
end-within low high (e ∷ ends) zero end rise at = let same : e ≡ end = cc in (subst (λ k. low ≤ k) same rise.0, subst (λ k. k ≤ high) same rise.1)
end-within low high (e ∷ ends) (suc n) end rise at = let rest = end-within e high ends n end rise.2 at in let first = rise.0 in (omega (arith, rest, first), rest.1)

-- a later phase ends no earlier
ends-rise : (low high : ℕ) (ends : List ℕ) (n m a b : ℕ) → RiseTo low high ends → n ≤ m → slice_get ends n ≡ Some a → slice_get ends m ≡ Some b → a ≤ b
ends-rise low high [] n m a b rise le at-n at-m = cc
ends-rise low high (e ∷ ends) zero zero a b rise le at-n at-m = let same : a ≡ b = cc in omega (arith, same)
ends-rise low high (e ∷ ends) zero (suc m) a b rise le at-n at-m =
    let same : e ≡ a = cc in let bound = (end-within e high ends m b rise.2 at-m).0 in omega (arith, same, bound)
ends-rise low high (e ∷ ends) (suc n) zero a b rise le at-n at-m = absurd (omega (arith, le))
ends-rise low high (e ∷ ends) (suc n) (suc m) a b rise le at-n at-m = ends-rise e high ends n m a b rise.2 (omega (arith, le)) at-n at-m

-- the phase of a request, an end at a time
abbrev phase_by : List ℕ → ℕ → ℕ
phase_by ends r = count_by (λ before. nat_le before r) ends

one-more : (e r : ℕ) (ends : List ℕ) → nat_le e r ≡ true → phase_by (e ∷ ends) r ≡ 1 + phase_by ends r
one-more e r ends below = sum_by-cons (λ before. cond (nat_le before r) 1 0) e ends ∙ ap (λ b. cond b 1 0 + phase_by ends r) below

no-more : (e r : ℕ) (ends : List ℕ) → nat_le e r ≡ false → phase_by (e ∷ ends) r ≡ phase_by ends r
no-more e r ends above =
    let sum : phase_by (e ∷ ends) r ≡ 0 + phase_by ends r = sum_by-cons (λ before. cond (nat_le before r) 1 0) e ends ∙ ap (λ b. cond b 1 0 + phase_by ends r) above in
    omega (arith, sum)

-- a request from the end of a phase on is of a later phase
phase-after : (low high : ℕ) (ends : List ℕ) (n end r : ℕ) → RiseTo low high ends → slice_get ends n ≡ Some end → end ≤ r → n < phase_by ends r
phase-after low high [] n end r rise at le = cc
phase-after low high (e ∷ ends) zero end r rise at le =
    let same : e ≡ end = cc in
    let more = one-more e r ends (le-leb e r (omega (arith, same, le))) in
    omega (arith, more)
phase-after low high (e ∷ ends) (suc n) end r rise at le =
    let first = (end-within e high ends n end rise.2 at).0 in
    let more = one-more e r ends (le-leb e r (omega (arith, first, le))) in
    let rest = phase-after e high ends n end r rise.2 at le in
    omega (arith, more, rest)

-- a request before all ends is of the first phase
phase-first : (low high : ℕ) (ends : List ℕ) (r : ℕ) → RiseTo low high ends → r < low → phase_by ends r ≡ 0
phase-first low high [] r rise less = refl
phase-first low high (e ∷ ends) r rise less = elim (cases_le e r) [
  | inl le ↦ (let first = rise.0 in absurd (omega (arith, le, first, less)))
  | inr above ↦ no-more e r ends above ∙ phase-first e high ends r rise.2 (let first = rise.0 in omega (arith, first, less))
]

-- and one before the end of a phase is of that phase or an earlier one
phase-before : (low high : ℕ) (ends : List ℕ) (n end r : ℕ) → RiseTo low high ends → slice_get ends n ≡ Some end → r < end → phase_by ends r ≤ n
phase-before low high [] n end r rise at less = cc
phase-before low high (e ∷ ends) zero end r rise at less =
    let same : e ≡ end = cc in
    elim (cases_le e r) [
      | inl le ↦ absurd (omega (arith, same, le, less))
      | inr above ↦ (let none = no-more e r ends above ∙ phase-first e high ends r rise.2 (omega (arith, same, less)) in omega (arith, none))
    ]
phase-before low high (e ∷ ends) (suc n) end r rise at less =
    let rest = phase-before e high ends n end r rise.2 at less in
    elim (cases_le e r) [
      | inl le ↦ (let more = one-more e r ends (le-leb e r le) in omega (arith, more, rest))
      | inr above ↦ (let more = no-more e r ends above in omega (arith, more, rest))
    ]

-- Driving deeds

-- what drives below a bound drives below a higher one
deed-below : (m n : ℕ) → m ≤ n → (deed : GateDeed) → IsTrue (is_driving_deed m deed) → IsTrue (is_driving_deed n deed)
deed-below m n le (BeganTx r stamp) t = lt-ltb r n (let less = ltb-true r m t in omega (arith, less, le))
deed-below m n le (BeganProgram r stamp) t = lt-ltb r n (let less = ltb-true r m t in omega (arith, less, le))
deed-below m n le (Sent r messages) t = refl
deed-below m n le (Nop shard number stamp low) t = refl
deed-below m n le (Heard clock) t = refl
deed-below m n le (Raised epoch) t = t
deed-below m n le (Finished r) t = refl

-- the requests that such deeds begin are below the bound
begun-below : (bound author : ℕ) (deed : GateDeed) (b : BegunRequest) → IsTrue (is_driving_deed bound deed) → Contains (begun_by author deed) b → b.request < bound
begun-below bound author (BeganTx r stamp) b t h = ltb-true b.request bound (subst (λ (k : BegunRequest). IsTrue (nat_lt k.request bound)) (only _ b h) t)
begun-below bound author (BeganProgram r stamp) b t h = ltb-true b.request bound (subst (λ (k : BegunRequest). IsTrue (nat_lt k.request bound)) (only _ b h) t)
begun-below bound author (Sent r messages) b t h = absurd (has_none b h)
begun-below bound author (Nop shard number stamp low) b t h = absurd (has_none b h)
begun-below bound author (Heard clock) b t h = absurd (has_none b h)
begun-below bound author (Raised epoch) b t h = absurd (has_none b h)
begun-below bound author (Finished r) b t h = absurd (has_none b h)

-- and they raise no epoch
raises-none : (bound epoch : ℕ) (deed : GateDeed) → IsTrue (is_driving_deed bound deed) → IsTrue (raises_to epoch deed) → ⊥
raises-none bound epoch (BeganTx r stamp) t raised = cc
raises-none bound epoch (BeganProgram r stamp) t raised = cc
raises-none bound epoch (Sent r messages) t raised = cc
raises-none bound epoch (Nop shard number stamp low) t raised = cc
raises-none bound epoch (Heard clock) t raised = cc
raises-none bound epoch (Raised to) t raised = cc
raises-none bound epoch (Finished r) t raised = cc

-- all deeds at the gatekeepers are such
abbrev pub AreBelow : ℕ → Account → Type 0
AreBelow bound account = (home : ℕ) (entry : GateEntry) → Contains (gate_log account home) entry → IsTrue (is_driving_deed bound entry.deed)

-- if all deeds at the gatekeepers are driving ones below a bound, each request that was begun is below it
pub all-below : (bound : ℕ) (account : Account) → AreBelow bound account → (b : BegunRequest) → Contains (all_begun account) b → b.request < bound
all-below bound account are b h =
    let home = at-home account b h in
    let entry = flat-has (λ (e : GateEntry). begun_by e.author e.deed) (gate_log account home.0) b home.1 in
    begun-below bound (entry.0).author (entry.0).deed b (are home.0 entry.0 entry.1.0) entry.1.1

none-raised : (bound : ℕ) (account : Account) → AreBelow bound account → (epoch : ℕ) → ¬ IsTrue (is_raised account epoch)
none-raised bound account are epoch raised =
    let log = any_has (λ (log : List GateEntry). list_any (λ (entry : GateEntry). raises_to epoch entry.deed) log) account.gates raised in
    let home = place-of account.gates log.0 log.1 in
    let entry = any_has (λ (entry : GateEntry). raises_to epoch entry.deed) log.0 log.2 in
    raises-none bound epoch (entry.0).deed (are home.0 entry.0 (subst (λ l. Contains l entry.0) (sym home.1) entry.1)) entry.2

below-more : (m n : ℕ) (old new : Account) → m ≤ n → AreBelow m old → DrivesGates n old new → AreBelow n new
below-more m n old new le are drives home entry h =
    let more = drives home in
    elim (Contains-append_cases (gate_log old home) more.0 entry (subst (λ l. Contains l entry) more.1 h)) [
      | inl before ↦ deed-below m n le entry.deed (are home entry before)
      | inr added ↦ more.2 entry added
    ]

none-yet : (n home : ℕ) (entry : GateEntry) → Contains (get_or (replicate n []) home []) entry → ⊥
none-yet zero home entry h = has_none entry h
none-yet (suc n) zero entry h = has_none entry h
none-yet (suc n) (suc home) entry h = none-yet n home entry h

-- Phases

-- empty logs are a run before the first phase
pub started : (script : Script) → IsAccount script (no_logs script) → IsRunUpTo script 0 0 (no_logs script)
started script is = record {
  is_account = is;
  replied = λ r request less there. absurd (omega (arith, less));
  others = λ phase end from at. omega arith;
  within = omega arith;
  deeds = λ home entry h. absurd (none-yet script.gates home entry h);
  ended = λ phase less. absurd (omega (arith, less));
}

-- a request below their number is there
pub there-below : (requests : List Request) (r : ℕ) → r < length requests → (request : Request) × (slice_get requests r ≡ Some request)
there-below [] r less = absurd (omega (arith, less))
there-below (request ∷ requests) zero less = (request, refl)
there-below (request ∷ requests) (suc r) less = there-below requests r (omega (arith, less))

module _ (laws : LawsForCommands) (script : Script) (limits : IsWithinLimits script) where
  -- a phase that has ended has ended still
  carried : (bound phase : ℕ) (logs account next : Account) → RunsBelow script bound account next → HasEnded script phase logs account → HasEnded script phase logs next
  carried bound phase logs account next runs ended = record {
    is_account = ended.is_account;
    goes_on = goes-further logs account next ended.goes_on runs.goes_on;
    replied = ended.replied;
    begun = ended.begun;
    epochs = ended.epochs;
    pairs = adds-through laws script limits logs account next ended.goes_on runs.goes_on ended.pairs runs.pairs;
  }

  -- if a run up to a phase goes on until that phase ends, it is a run up to the next one
  pub ended-next : (phase bound end : ℕ) (account next : Account) → RiseTo 0 (length script.requests) script.phases → slice_get script.phases phase ≡ Some end
      → IsRunUpTo script phase bound account → EndsAt script end account next → IsRunUpTo script (phase + 1) end next
  ended-next phase bound end account next rise at run ends = record {
    is_account = (ends.runs).is_account;
    replied = ends.replied;
    others = λ other its from there. ends-rise 0 (length script.requests) script.phases phase other end its rise (omega (arith, from)) at there;
    within = (end-within 0 (length script.requests) script.phases phase end rise at).1;
    deeds = deeds;
    ended = λ other less. elim (cases_eq other phase) [
      | inl same ↦ (next, subst (λ k. HasEnded script k next next) (sym same) this)
      | inr differ ↦ (let before = run.ended other (earlier other less differ) in (before.0, carried end other before.0 account next ends.runs before.1))
    ];
  }
    where
      deeds : AreBelow end next
      deeds = below-more bound end account next (run.others phase end (omega arith) at) run.deeds (ends.runs).gates

      earlier : (other : ℕ) → other < phase + 1 → (other ≡ phase → ⊥) → other < phase
      earlier other less differ = elim (cases_le phase other) [
        | inl le ↦ absurd (differ (omega (arith, less, le)))
        | inr above ↦ leb-false phase other above
      ]

      this : HasEnded script phase next next
      this = record {
        is_account = (ends.runs).is_account;
        goes_on = goes-same next;
        replied = λ r request there early. elim (cases_le end r) [
          | inl late ↦ (let after = phase-after 0 (length script.requests) script.phases phase end r rise at late in absurd (omega (arith, after, early)))
          | inr above ↦ ends.replied r request (leb-false end r above) there
        ];
        begun = λ b h. phase-before 0 (length script.requests) script.phases phase end b.request rise at (all-below end next deeds b h);
        epochs = none-raised end next deeds;
        pairs = λ e l h. inl h;
      }

  -- a phase without requests has ended when the one before it has
  pub ended-with : (phase bound end : ℕ) (account : Account) → RiseTo 0 (length script.requests) script.phases → slice_get script.phases phase ≡ Some end → end ≤ bound
      → IsRunUpTo script phase bound account → IsRunUpTo script (phase + 1) bound account
  ended-with phase bound end account rise at no-later run =
      let no-earlier = run.others phase end (omega arith) at in
      let same : end ≡ bound = omega (arith, no-later, no-earlier) in
      subst (λ k. IsRunUpTo script (phase + 1) k account) same
      (ended-next phase bound end account account rise at run
      (record { runs = runs-same laws script limits end account run.is_account; replied = subst (λ k. AreReplied script k account) (sym same) run.replied }))

  -- in the account of the whole run a phase has ended as a run by phases wants it
  ends-phase : (phase : ℕ) (logs account : Account) → IsAccount script account → AreBelow (length script.requests) account → HasEnded script phase logs account → EndsPhase script account phase logs
  ends-phase phase logs account is deeds ended = record {
    is_account = ended.is_account;
    goes_on = ended.goes_on;
    replied = ended.replied;
    begun = ended.begun;
    epochs = ended.epochs;
    pairs = λ earlier later r in-account stamp early. elim (ended.pairs earlier later in-account) [
      | inl before ↦ before
      | inr added ↦
          (let from = begun-there account r later stamp in
          elim (cases_eq (added.begun).request r) [
            | inl same ↦
                (let its = there-below script.requests r (subst (λ k. k < length script.requests) same (all-below (length script.requests) account deeds added.begun added.there)) in
                absurd (added.unanswered its.0 (ap (request_at script) same ∙ its.1) (subst (λ k. IsTrue (has_reply logs k its.0)) (sym same) (ended.replied r its.0 its.1 early))))
            | inr differ ↦
                absurd (laws.differ script account limits is added.begun from.0 added.there from.1 (λ same. differ (same ∙ from.2)) (ap id_of (added.stamp_is ∙ sym from.3)))
          ])
    ];
  }

  -- with the last requests it is a whole run
  pub whole : (bound : ℕ) (account last : Account) → IsRunUpTo script (length script.phases) bound account → EndsAt script (length script.requests) account last → IsWholeRun script last
  whole bound account last run ends = record {
    is_account = (ends.runs).is_account;
    by_phases = λ phase later h less.
        (let few = count_by-le-length (λ before. nat_le before later.request) script.phases in
        let ended = run.ended phase (omega (arith, few, less)) in (
          ended.0,
          ends-phase phase ended.0 last (ends.runs).is_account (below-more bound (length script.requests) account last run.within run.deeds (ends.runs).gates)
              (carried (length script.requests) phase ended.0 account last ends.runs ended.1),
        ));
    epochs = none-raised (length script.requests) last (below-more bound (length script.requests) account last run.within run.deeds (ends.runs).gates);
    replied = ends.replied;
  }

-- with the last requests it is a whole run, also by the script of a core, if that is the script
pub whole-run : (laws : LawsForCommands) (script first second : Script) → IsWithinLimits script → first ≡ script → second ≡ first → (bound all : ℕ) (account last : Account) → all ≡ length second.requests
    → IsRunUpTo first (length first.phases) bound account → EndsAt second all account last → IsWholeRun script last
whole-run laws script first second limits same still bound all account last is-all run ends =
    whole laws script limits bound account last
    (subst (λ (s : Script). IsRunUpTo s (length s.phases) bound account) same run)
    (subst (λ (s : Script). EndsAt s (length s.requests) account last) (still ∙ same) (subst (λ n. EndsAt second n account last) is-all ends))

-- in a whole run each request has its reply
pub all-replied : (script : Script) (account : Account) → IsWholeRun script account → (r : ℕ) (request : Request) → request_at script r ≡ Some request → IsTrue (has_reply account r request)
all-replied script account run r request there = run.replied r request (slice_get_within script.requests r request there) there
