-- What is known of phases says of each part of a reply whether it keeps them.
-- Used by `broken_part`, `first_out_of_phase`, `known_of` and `later_preceding`.
use Rattle.std.proofs.Common.{◌≡◌, ℕ, zero, suc, ◌+◌, ◌-◌, ◌<◌, ◌≤◌, ◌&&◌, not, IsTrue, List, [], ◌∷◌, length, map, take, get_or, Option, Some, None, refl, sym, ap, ◌∙◌, subst, arith}
use Rattle.std.specs.Prelude.{MatchOption, is_some, slice_get}
use Rattle.std.specs.Option.{option_and_then}
use Rattle.std.proofs.lemmas.Bool.{and_parts, leb-true}
use Rattle.std.proofs.lemmas.List.{length-map}
use Rattle.std.proofs.lemmas.Option.{get_or_from_slice_get, same_Some, slice_get_within}
use Rattle.vector_stamp.specs.declared.clock.Stamp.{Stamp}
use Rattle.vector_stamp.specs.Precedence.{Precedes}
use Rattle.weave_data.specs.declared.name.Name.{Name}
use Rattle.weave_data.specs.Facts.{AllHold, facts_of_each}
use Rattle.weave_data.proofs.Lists.{get-some}
use Rattle.program_defs.specs.declared.script.Script.{Script}
use Rattle.report_rules.specs.declared.report.Report.{Report}
use Rattle.report_rules.specs.declared.report.Reply.{Reply}
use Rattle.report_rules.specs.declared.report.ReplyState.{ReplyState}
use Rattle.report_rules.specs.declared.report.ReplyState.TheVariants.{Unbegun, Begun, Committed, Conflict, Refused, Finished}
use Rattle.report_rules.specs.RightReport.{IsConflictInPlace, conflicts_clause, is_committed_and_names, replies_clause}
use Rattle.report_rules.specs.Lookups.{AreBoth, RequestPrecedes, committed_number, given_pairs, is_committed, is_some_and, request_names_vertex, same_session, stamp_at}
use Rattle.report_rules.specs.Meetings.{IsConflictInOnePhase, commit_number, phase_of}
use Rattle.order_witness.specs.ByNumber.{list_at}
use Rattle.order_witness.specs.Heads.{item}
use Rattle.order_witness.proofs.Loops.{each_breaks, each_step}
use Rattle.order_witness.proofs.Replying.{is_numbered}
use Rattle.order_witness.proofs.RisingSteps.{reply_there}
use Rattle.run_judge.specs.declared.phase_numbers.Numbered.{Numbered}
use Rattle.run_judge.specs.declared.judge.PhasePart.{PhasePart}
use Rattle.run_judge.specs.declared.judge.PhasePart.TheVariants.{Precedence, Number, EarlierRefusal, Refusal}
use Rattle.run_judge.specs.declared.judge.PhasePart.TheVariants as broken_by
use Rattle.run_judge.specs.declared.phases.Phases.{Phases}
use Rattle.run_judge.specs.declared.ways.Ways.{Ways}
use Rattle.run_judge.specs.Chains.{spot_at}
use Rattle.run_judge.specs.Numbers.{HasEarlier, IsGreatest, IsLaterCounted, NeverFall, NoneLaterCounted, greatest_at, number_at}
use Rattle.run_judge.specs.Phases.{BreaksPart, CanJudgePhases, IsFirstPhaseFault, IsAbove, IsBrokenPart, IsConflictFound, IsNotBelow, IsOneAbove, IsOneNotBelow, commit_values, first_part, newer_of, refusal_values}
use Rattle.run_judge.specs.Promises.{IsAboveEarlier, IsAfterEarlierCommits, IsReplyInPhase, KeepsPhases, NoLaterPrecedes, commits_before_refusal, refusal_number}
use Rattle.run_judge.specs.Ways.{TellsWays}
use Rattle.run_judge.proofs.NumberLaws.{begun_before, phase_is, phases_rise}
use Rattle.run_judge.proofs.PromiseLaws.{fact_at}

-- The numbers of replies

module _ {A : Type 0} (f : A → Option ℕ) where
  -- the number of a reply
  pub value_is : (xs : List A) (r : ℕ) → number_at (map f xs) r ≡ option_and_then f (slice_get xs r)
  value_is [] r = refl
  value_is (x ∷ xs) zero = refl
  value_is (x ∷ xs) (suc r) = value_is xs r

-- two requests of which one precedes the other are begun
both_are : (P : Stamp → Stamp → Type 0) (a b : Option Stamp) → AreBoth P a b → ((x : Stamp) × (a ≡ Some x)) × ((y : Stamp) × (b ≡ Some y))
both_are P None b h = absurd h
both_are P (Some x) None h = absurd h
both_are P (Some x) (Some y) h = ((x, refl), (y, refl))

module _ (report : Report) where
  begun_both : (a b : ℕ) → RequestPrecedes report a b → ((x : Stamp) × (stamp_at report a ≡ Some x)) × ((y : Stamp) × (stamp_at report b ≡ Some y))
  begun_both a b h = both_are (Precedes (given_pairs report)) (stamp_at report a) (stamp_at report b) h

  within_report : (a : ℕ) (x : Stamp) → stamp_at report a ≡ Some x → a < length report.replies
  within_report a x at = let reply = reply_there report.replies a x at in slice_get_within report.replies a reply.0 reply.1

  commit_within : (r n : ℕ) → commit_number report r ≡ Some n → r < length report.replies
  commit_within r n is = of_option (slice_get report.replies r) refl is
    where
      of_option : (o : Option Reply) → slice_get report.replies r ≡ o → option_and_then (λ (reply : Reply). committed_number reply.state) o ≡ Some n → r < length report.replies
      of_option None at h = cc
      of_option (Some reply) at h = slice_get_within report.replies r reply at

  refusal_within : (r n : ℕ) → refusal_number report r ≡ Some n → r < length report.replies
  refusal_within r n is = of_option (slice_get report.replies r) refl is
    where
      of_option : (o : Option Reply) → slice_get report.replies r ≡ o → option_and_then (λ (reply : Reply). commits_before_refusal reply.state) o ≡ Some n → r < length report.replies
      of_option None at h = cc
      of_option (Some reply) at h = slice_get_within report.replies r reply at

  committed_within : (r : ℕ) → IsTrue (is_committed report r) → r < length report.replies
  committed_within r is = of_option (slice_get report.replies r) refl is
    where
      of_option : (o : Option Reply) → slice_get report.replies r ≡ o → IsTrue (is_some_and (λ (reply : Reply). is_some (committed_number reply.state)) o) → r < length report.replies
      of_option None at h = cc
      of_option (Some reply) at h = slice_get_within report.replies r reply at

module _ (script : Script) (report : Report) (phases : List ℕ) (are : (r : ℕ) → r < length report.replies → item phases r ≡ phase_of script r) (place : ℕ) (there : place < length report.replies) where
  earlier_so : (r : ℕ) → r < length report.replies → phase_of script r < phase_of script place → item phases r < item phases place
  earlier_so r within less = let a = are r within in let b = are place there in omega (arith, a, b, less)

  so_earlier : (r : ℕ) → r < length report.replies → item phases r < item phases place → phase_of script r < phase_of script place
  so_earlier r within less = let a = are r within in let b = are place there in omega (arith, a, b, less)

  -- The greatest number of earlier phases

  module _ (values : List (Option ℕ)) (numbers : ℕ → Option ℕ) (size : length values ≡ length report.replies) (same : (r : ℕ) → number_at values r ≡ numbers r) (within : (r n : ℕ) → numbers r ≡ Some n → r < length report.replies) (greatest : Option Numbered) (is : IsGreatest (HasEarlier values phases place) greatest) where
    has : (r m : ℕ) → phase_of script r < phase_of script place → numbers r ≡ Some m → HasEarlier values phases place r m
    has r m less at = (let inside = within r m at in omega (arith, inside, size), earlier_so r (within r m at) less, same r ∙ at)

    its : (found : Numbered) → greatest ≡ Some found → HasEarlier values phases place found.request found.number
    its found same_one = (subst (IsGreatest (HasEarlier values phases place)) same_one is).0

    most : (found : Numbered) → greatest ≡ Some found → (r m : ℕ) → HasEarlier values phases place r m → m ≤ found.number
    most found same_one = (subst (IsGreatest (HasEarlier values phases place)) same_one is).1

    bounded : (P : ℕ → Type 0) → ((found : Numbered) → greatest ≡ Some found → (m : ℕ) → m ≤ found.number → P m) → (r m : ℕ) → phase_of script r < phase_of script place → numbers r ≡ Some m → P m
    bounded P f r m less at = of_option greatest refl
      where
        of_option : (o : Option Numbered) → greatest ≡ o → P m
        of_option None none = absurd ((subst (IsGreatest (HasEarlier values phases place)) none is) r m (has r m less at))
        of_option (Some found) some = f found some m (most found some r m (has r m less at))

    -- if the greatest number of earlier phases is below its own, each is
    pub above_so : (own : Option ℕ) → IsOneNotBelow greatest own None → IsAboveEarlier script numbers place own
    above_so own none other m n less at this = bounded (λ k. k < n) (λ found some k at_most. let below = none found n some this in omega (arith, at_most, below)) other m less at

    -- and else the request of the greatest one is an earlier one that isn't below
    pub not_below_so : (own : Option ℕ) (other : ℕ) → IsOneNotBelow greatest own (Some other) → IsNotBelow script numbers place own other
    not_below_so own other h =
        let found : Numbered = h.0 in
        let one = its found h.2 in
        let inside : found.request < length report.replies = (let less = one.0 in omega (arith, less, size)) in
        subst (IsNotBelow script numbers place own) h.4 (record {
          m = found.number;
          n = h.1;
          earlier = so_earlier found.request inside one.1;
          has = sym (same found.request) ∙ one.2;
          reply_has = h.3;
          not_below = h.5;
        })

  module _ (size : length (commit_values report.replies) ≡ length report.replies) (greatest : Option Numbered) (is : IsGreatest (HasEarlier (commit_values report.replies) phases place) greatest) where
    same_value : (r : ℕ) → number_at (commit_values report.replies) r ≡ commit_number report r
    same_value r = value_is (λ (reply : Reply). committed_number reply.state) report.replies r

    -- if the greatest commit number of earlier phases is at most that of the refusal, each is
    pub after_so : (refused : Option ℕ) → IsOneAbove greatest refused None → IsAfterEarlierCommits script report place refused
    after_so refused none other m n less at this =
        bounded (commit_values report.replies) (commit_number report) size same_value (commit_within report) greatest is (λ k. k ≤ n) (λ found some k at_most. let below = none found n some this in omega (arith, at_most, below)) other m less at

    -- and else its request is an earlier commit above it
    pub is_above_so : (refused : Option ℕ) (other : ℕ) → IsOneAbove greatest refused (Some other) → IsAbove script report place refused other
    is_above_so refused other h =
        let found : Numbered = h.0 in
        let one = its (commit_values report.replies) (commit_number report) size same_value (commit_within report) greatest is found h.2 in
        let inside : found.request < length report.replies = (let less = one.0 in omega (arith, less, size)) in
        subst (IsAbove script report place refused) h.4 (record {
          m = found.number;
          at = h.1;
          earlier = so_earlier found.request inside one.1;
          has = sym (same_value found.request) ∙ one.2;
          reply_has = h.3;
          above = h.5;
        })

  -- Conflicts

  module _ (conflicts : AllHold (conflicts_clause script report)) (reply : Reply) (at : slice_get report.replies place ≡ Some reply) where
    newer_within : (v : Name) (newer : ℕ) → reply.state ≡ Conflict v newer → newer < length report.replies
    newer_within v newer is =
        let fact : IsConflictInPlace script report reply.request reply.state = fact_at (λ (r : Reply). IsConflictInPlace script report r.request r.state) report.replies place reply conflicts at in
        let said : IsConflictInPlace script report reply.request (Conflict v newer) = subst (IsConflictInPlace script report reply.request) is fact in
        let parts = and_parts (is_committed_and_names script report v newer && not (same_session script reply.request newer)) (request_names_vertex script reply.request v) said.0 in
        let first = and_parts (is_committed_and_names script report v newer) (not (same_session script reply.request newer)) parts.0 in
        committed_within report newer (and_parts (is_committed report newer) (request_names_vertex script newer v) first.0).0

    -- a conflict is in one phase if its newer request isn't found to be of another one
    pub one_phase : (state : ReplyState) → reply.state ≡ state → IsConflictFound phases place (newer_of state) None → IsConflictInOnePhase script place state
    one_phase Unbegun same none = tt
    one_phase Begun same none = tt
    one_phase (Committed number answers) same none = tt
    one_phase (Conflict v newer) same none =
        let a = are place there in
        let b = are newer (newer_within v newer same) in
        let c = none newer refl in
        omega (arith, a, b, c)
    one_phase (Refused op reason after) same none = tt
    one_phase (Finished answer) same none = tt

    is_conflict : (state : ReplyState) (other : ℕ) → newer_of state ≡ Some other → (v : Name) × (state ≡ Conflict v other)
    is_conflict Unbegun other is = cc
    is_conflict Begun other is = cc
    is_conflict (Committed number answers) other is = cc
    is_conflict (Conflict v newer) other is = (v, ap (Conflict v) (same_Some newer other is))
    is_conflict (Refused op reason after) other is = cc
    is_conflict (Finished answer) other is = cc

    -- and else it is of another one
    pub other_phase : (state : ReplyState) → reply.state ≡ state → (other : ℕ) → IsConflictFound phases place (newer_of state) (Some other) → (v : Name) × (state ≡ Conflict v other) × ¬ (phase_of script place ≡ phase_of script other)
    other_phase state same other h =
        let found = is_conflict state other h.0 in (
          found.0,
          found.1,
          λ so. h.1 (let a = are place there in let b = are other (newer_within found.0 other (same ∙ found.1)) in omega (arith, a, b, so)),
        )

  -- Precedence

  module _ (ways : Ways) (tell : TellsWays report ways) where
    -- if no request that the row counts is of a later phase, none that precedes is
    pub none_later : NoneLaterCounted phases ways.chains.items (list_at ways.rows.items place) (item phases place) → (s : Stamp) → stamp_at report place ≡ Some s → NoLaterPrecedes script report place
    none_later none s begun other less way =
        let both = begun_both report other place way in
        let row = tell.rows place s begun in
        let at = tell.placed other both.0.0 both.0.1 in
        let some = at.some in
        let size = row.size in
        let inside = at.there in
        let counted = leb-true (spot_at ways.spots.items other).place (item (list_at ways.rows.items place) (spot_at ways.spots.items other).chain) (row.all other way) in
        let most : item phases (item (list_at ways.chains.items (spot_at ways.spots.items other).chain) ((spot_at ways.spots.items other).place - 1)) ≤ item phases place = none (spot_at ways.spots.items other).chain ((spot_at ways.spots.items other).place - 1) (omega (arith, inside, size)) (omega (arith, some, counted)) in
        let most_other : item phases other ≤ item phases place = subst (λ n. item phases n ≤ item phases place) at.event most in
        let a = are other (within_report report other both.0.0 both.0.1) in
        let b = are place there in
        omega (arith, a, b, less, most_other)

    -- and else that request is one
    pub one_later : (p : ℕ) → IsLaterCounted phases ways.chains.items (list_at ways.rows.items place) (item phases place) p → (s : Stamp) → stamp_at report place ≡ Some s → (phase_of script place < phase_of script p) × RequestPrecedes report p place
    one_later p found s begun =
        let row = tell.rows place s begun in
        let size = row.size in
        let inside = found.there in
        let way : RequestPrecedes report p place = subst (λ n. RequestPrecedes report n place) found.event (row.sound found.c found.k (omega (arith, inside, size)) found.counted) in
        let both = begun_both report p place way in
        let a = are p (within_report report p both.0.0 both.0.1) in
        let b = are place there in
        let later = found.later in
        (omega (arith, a, b, later), way)

    -- nothing precedes a request that isn't begun
    pub not_begun : stamp_at report place ≡ None → NoLaterPrecedes script report place
    not_begun none other less way = let both = begun_both report other place way in none_some both.1.0 (sym none ∙ both.1.1)
      where
        none_some : (x : Stamp) → ¬ (None ≡ Some x)
        none_some x e = cc

-- Phases never fall from one request to the next

-- the phases found never fall
pub never_falls : (script : Script) (phases : List ℕ) (count n : ℕ) → ((r : ℕ) → r < count → item phases r ≡ phase_of script r) → n ≤ count → NeverFall phases n
never_falls script phases count n are most j k less within =
    let at_j = are j (omega (arith, less, within, most)) in
    let at_k = are k (omega (arith, within, most)) in
    let of_j : begun_before script.phases (j + 1) ≡ phase_of script j = phase_is script.phases j in
    let of_k : begun_before script.phases (k + 1) ≡ phase_of script k = phase_is script.phases k in
    let rise = phases_rise script.phases (j + 1) (k + 1) (omega (arith, less)) in
    omega (arith, at_j, at_k, of_j, of_k, rise)

-- what follows from both cases of an option
pub match_map : {A : Type 0} {N M : Type 0} (P Q : A → Type 0) → (N → M) → ((x : A) → P x → Q x) → (o : Option A) → MatchOption o N P → MatchOption o M Q
match_map P Q none some None h = none h
match_map P Q none some (Some x) h = some x h

-- The parts of one reply together

module _ (script : Script) (report : Report) (ways : Ways) (tell : TellsWays report ways) (known : Phases) (can : CanJudgePhases script report ways known) (place : ℕ) (reply : Reply) (at : slice_get report.replies place ≡ Some reply) (state : ReplyState) (same : reply.state ≡ state) where
  -- the reply is there
  pub there : place < length report.replies
  there = slice_get_within report.replies place reply at

  commits_size : length (commit_values report.replies) ≡ length report.replies
  commits_size = length-map report.replies (λ (r : Reply). committed_number r.state)

  refusals_size : length (refusal_values report.replies) ≡ length report.replies
  refusals_size = length-map report.replies (λ (r : Reply). commits_before_refusal r.state)

  commit_is : (r : ℕ) → number_at (commit_values report.replies) r ≡ commit_number report r
  commit_is r = value_is (λ (x : Reply). committed_number x.state) report.replies r

  refusal_is : (r : ℕ) → number_at (refusal_values report.replies) r ≡ refusal_number report r
  refusal_is r = value_is (λ (x : Reply). commits_before_refusal x.state) report.replies r

  -- a request of a later phase that precedes the reply's, if there is one
  abbrev pub IsLaterFound : Option ℕ → Type 0
  IsLaterFound precedence = MatchOption precedence (NoLaterPrecedes script report place) (λ other. (phase_of script place < phase_of script other) × RequestPrecedes report other place)

  -- the greatest numbers of earlier phases
  abbrev pub most_committed : Option Numbered
  most_committed = greatest_at known.commits.items place

  abbrev pub most_refused : Option Numbered
  most_refused = greatest_at known.refusals.items place

  -- the first part that is found broken is broken, and if none is the phases are kept
  pub broken_so : (precedence conflict number earlier refusal : Option ℕ) → IsLaterFound precedence
      → IsConflictFound known.phases.items place (newer_of state) conflict
      → IsOneNotBelow most_committed (committed_number state) number
      → IsOneNotBelow most_refused (committed_number state) earlier
      → IsOneAbove most_committed (commits_before_refusal state) refusal
      → IsBrokenPart script report place state (first_part precedence conflict number earlier refusal)
  broken_so (Some other) conflict number earlier refusal a b c d e = a
  broken_so None (Some other) number earlier refusal a b c d e =
      other_phase script report known.phases.items can.known_so.phases place there can.conflicts reply at state same other b
  broken_so None None (Some other) earlier refusal a b c d e =
      not_below_so script report known.phases.items can.known_so.phases place there (commit_values report.replies) (commit_number report) commits_size commit_is (commit_within report) (greatest_at known.commits.items place) (can.known_so.commits place there) (committed_number state) other c
  broken_so None None None (Some other) refusal a b c d e =
      not_below_so script report known.phases.items can.known_so.phases place there (refusal_values report.replies) (refusal_number report) refusals_size refusal_is (refusal_within report) (greatest_at known.refusals.items place) (can.known_so.refusals place there) (committed_number state) other d
  broken_so None None None None (Some other) a b c d e =
      is_above_so script report known.phases.items can.known_so.phases place there commits_size (greatest_at known.commits.items place) (can.known_so.commits place there) (commits_before_refusal state) other e
  broken_so None None None None None a b c d e = record {
    precedence = a;
    conflict = one_phase script report known.phases.items can.known_so.phases place there can.conflicts reply at state same b;
    number = above_so script report known.phases.items can.known_so.phases place there (commit_values report.replies) (commit_number report) commits_size commit_is (commit_within report) (greatest_at known.commits.items place) (can.known_so.commits place there) (committed_number state) c;
    earlier_refusal = above_so script report known.phases.items can.known_so.phases place there (refusal_values report.replies) (refusal_number report) refusals_size refusal_is (refusal_within report) (greatest_at known.refusals.items place) (can.known_so.refusals place there) (committed_number state) d;
    refusal = after_so script report known.phases.items can.known_so.phases place there commits_size (greatest_at known.commits.items place) (can.known_so.commits place there) (commits_before_refusal state) e;
  }

-- A reply that breaks a part doesn't keep the phases

module _ (script : Script) (report : Report) (r : ℕ) (state : ReplyState) where
  conflict_no : (v : Name) (other : ℕ) (its : ReplyState) → its ≡ Conflict v other → IsConflictInOnePhase script r its → phase_of script r ≡ phase_of script other
  conflict_no v other its is h = subst (IsConflictInOnePhase script r) is h

  -- what breaks a part doesn't keep the phases
  pub breaks_no : (part : PhasePart) (other : ℕ) → BreaksPart script report r state part other → ¬ KeepsPhases script report r state
  breaks_no Precedence other h keeps = keeps.precedence other h.0 h.1
  breaks_no broken_by.Conflict other h keeps = h.2 (conflict_no h.0 other state h.1 keeps.conflict)
  breaks_no Number other h keeps = (let less = keeps.number other h.m h.n h.earlier h.has h.reply_has in let most = h.not_below in omega (arith, less, most))
  breaks_no EarlierRefusal other h keeps = (let less = keeps.earlier_refusal other h.m h.n h.earlier h.has h.reply_has in let most = h.not_below in omega (arith, less, most))
  breaks_no Refusal other h keeps = (let most = keeps.refusal other h.m h.at h.earlier h.has h.reply_has in let more = h.above in omega (arith, most, more))

module _ (script : Script) (report : Report) (replies : AllHold (replies_clause script report)) (conflicts : AllHold (conflicts_clause script report)) (place : ℕ) (reply : Reply) (at : slice_get report.replies place ≡ Some reply) where
  is_request : reply.request ≡ place
  is_request = is_numbered script report replies place reply at

  newer_there : (v : Name) (newer : ℕ) → reply.state ≡ Conflict v newer → newer < length report.replies
  newer_there v newer is =
      let fact : IsConflictInPlace script report reply.request reply.state = fact_at (λ (r : Reply). IsConflictInPlace script report r.request r.state) report.replies place reply conflicts at in
      let said : IsConflictInPlace script report reply.request (Conflict v newer) = subst (IsConflictInPlace script report reply.request) is fact in
      let parts = and_parts (is_committed_and_names script report v newer && not (same_session script reply.request newer)) (request_names_vertex script reply.request v) said.0 in
      let first = and_parts (is_committed_and_names script report v newer) (not (same_session script reply.request newer)) parts.0 in
      committed_within report newer (and_parts (is_committed report newer) (request_names_vertex script newer v) first.0).0

  other_there : (part : PhasePart) (other : ℕ) → BreaksPart script report place reply.state part other → other < length report.replies
  other_there Precedence other h = let both = begun_both report other place h.1 in within_report report other both.0.0 both.0.1
  other_there broken_by.Conflict other h = newer_there h.0 other h.1
  other_there Number other h = commit_within report other h.m h.has
  other_there EarlierRefusal other h = refusal_within report other h.m h.has
  other_there Refusal other h = commit_within report other h.m h.has

  -- the first reply that breaks a part, with the number of the other request
  pub first_fault_so : (so_far : AllHold (facts_of_each (IsReplyInPhase script report) (take place report.replies))) (part : PhasePart) (other number : ℕ) → BreaksPart script report place reply.state part other → ((r : Reply) → slice_get report.replies other ≡ Some r → number ≡ r.request)
      → IsFirstPhaseFault script report (Some (record { place = place + 1; part = part; other = number }))
  first_fault_so so_far part other number h is_number =
      let within = slice_get_within report.replies place reply at in
      let its = get-some report.replies other (other_there part other h) in
      let same : number ≡ other = is_number its.0 its.1 ∙ is_numbered script report replies other its.0 its.1 in
      let item_is : reply ≡ get_or report.replies place reply = sym (get_or_from_slice_get report.replies place reply reply at) in (
        each_breaks (IsReplyInPhase script report) report.replies place reply within so_far item_is
            (λ keeps. breaks_no script report place reply.state part other h (subst (λ n. KeepsPhases script report n reply.state) is_request keeps)),
        (reply, ap (slice_get report.replies) (omega arith) ∙ at, subst (λ n. BreaksPart script report reply.request reply.state part n) (sym same) (subst (λ n. BreaksPart script report n reply.state part other) (sym is_request) h)),
      )

  -- one reply more keeps the phases
  pub one_more_keeps : AllHold (facts_of_each (IsReplyInPhase script report) (take place report.replies)) → KeepsPhases script report place reply.state → AllHold (facts_of_each (IsReplyInPhase script report) (take (place + 1) report.replies))
  one_more_keeps so_far keeps =
      let within = slice_get_within report.replies place reply at in
      let item_is : reply ≡ get_or report.replies place reply = sym (get_or_from_slice_get report.replies place reply reply at) in
      each_step (IsReplyInPhase script report) report.replies place reply within so_far item_is (subst (λ n. KeepsPhases script report n reply.state) (sym is_request) keeps)
