-- An account's report has a reply for each request, with its stamp, and the oracle's pairs; so what precedes in the
-- report precedes in the account, and the other way round.
-- Used by ConflictsClause, Listed, ListingClause, Meeting, NumbersClause, PairsClause, PhasesKept, RefusalsClause,
-- RepliesClause, RightReport, Transactions and VisitedPairs.
use Rattle.std.proofs.Common.{◌≡◌, ℕ, zero, suc, ◌<◌, List, [], ◌∷◌, length, get_or, Option, Some, None, ◌⊎◌, inl, inr, refl, sym, ap, subst, ◌∙◌, arith, zero-add}
use Rattle.std.specs.Prelude.{slice_get}
use Rattle.std.specs.List.{AllByRecursion, filter_map, cons_option, range_with_len}
use Rattle.std.specs.Option.{option_map, option_and_then}
use Rattle.std.proofs.lemmas.Bool.{cases_lt}
use Rattle.std.proofs.lemmas.List.FromFn.{length-range_with_len, get_or-range_with_len}
use Rattle.std.proofs.lemmas.List.{length-map}
use Rattle.std.proofs.lemmas.Option.{slice_get-map, slice_get_within, slice_get_past, slice_get-get_or}
use Rattle.vector_stamp.specs.Precedence.{GivenPair, Precedes}
use Rattle.program_defs.specs.declared.script.Request.{Request}
use Rattle.program_defs.specs.declared.script.Script.{Script}
use Rattle.report_rules.specs.declared.report.Pair.{Pair}
use Rattle.report_rules.specs.declared.report.Reply.{Reply}
use Rattle.report_rules.specs.declared.report.Report.{Report}
use Rattle.report_rules.specs.Lookups.{AreBoth, request_at, reply_at, stamp_at, given_by, given_pairs, RequestPrecedes}
use Rattle.weave_account.specs.declared.account.Account.{Account}
use Rattle.weave_account.specs.Account.{stamp_of, pairs_in}
use Rattle.weave_account.specs.Pairs.{ArePairsOf}
use Rattle.weave_account.specs.Report.{IsReplyInAccount, MatchesAccount}
use Rattle.weave_account.proofs.Ordering.{RequestBefore}
use Rattle.weave_account.proofs.Replying.{none-begun}
use Rattle.weave_account.proofs.Basis.{Basis}

-- what is so is so in other words that are equal
pub convert : {A B : Type 0} → A ≡ B → A → B
convert e a = subst (λ (X : Type 0). X) e a

-- what is there, and what isn't
abbrev pub IsThere : {A : Type 0} → Option A → Type 0
IsThere {A} o = (x : A) × (o ≡ Some x)

there-or-none : {A : Type 0} (o : Option A) → IsThere o ⊎ (o ≡ None)
there-or-none None = inr refl
there-or-none (Some x) = inl (x, refl)

get-within : {A : Type 0} (xs : List A) (i : ℕ) → i < length xs → IsThere (slice_get xs i)
get-within [] i lt = absurd (omega (arith, lt))
get-within (x ∷ xs) zero lt = (x, refl)
get-within (x ∷ xs) (suc i) lt = get-within xs i (omega (arith, lt))

all-at : {A : Type 0} (P : A → Type 0) (xs : List A) (i : ℕ) (x : A) → AllByRecursion P xs → slice_get xs i ≡ Some x → P x
all-at P [] i x h e = cc
all-at P (y ∷ xs) zero x h e = let same : y ≡ x = cc in subst P same h.0
all-at P (y ∷ xs) (suc i) x h e = all-at P xs i x h.1 e

-- the reply of a request
pub record HasReply (script : Script) (account : Account) (report : Report) (r : ℕ) : Type 0 where
  pub reply : Reply
  pub at : reply_at report r ≡ Some reply
  pub of : reply.request ≡ r
  pub matched : IsReplyInAccount script account reply

module _ (script : Script) (account : Account) (report : Report) (reported : MatchesAccount script account report) where
  -- there are as many replies as requests
  pub as-many : length report.replies ≡ length script.requests
  as-many =
      sym (length-map report.replies (λ (reply : Reply). reply.request)) ∙ ap length reported.requests
      ∙ length-range_with_len 0 (length script.requests)

  -- reply r is of request r
  pub reply-number : (r : ℕ) (reply : Reply) → reply_at report r ≡ Some reply → reply.request ≡ r
  reply-number r reply at =
      let within : r < length report.replies = slice_get_within report.replies r reply at in
      let many = as-many in
      let inside : r < length script.requests = omega (arith, within, many) in
      let long = length-range_with_len 0 (length script.requests) in
      let there : slice_get (range_with_len 0 (length script.requests)) r ≡ Some (get_or (range_with_len 0 (length script.requests)) r 0) =
      slice_get-get_or (range_with_len 0 (length script.requests)) r 0 (omega (arith, inside, long)) in
      let is : get_or (range_with_len 0 (length script.requests)) r 0 ≡ r =
      get_or-range_with_len 0 (length script.requests) r 0 inside ∙ zero-add r in
      let number : Some reply.request ≡ Some r =
      sym (ap (option_map (λ (reply : Reply). reply.request)) at)
      ∙ sym (slice_get-map (λ (reply : Reply). reply.request) report.replies r)
      ∙ ap (λ xs. slice_get xs r) reported.requests
      ∙ there
      ∙ ap Some is in
      cc

  -- each request has its reply
  pub has-reply : (r : ℕ) (request : Request) → request_at script r ≡ Some request → HasReply script account report r
  has-reply r request there =
      let within : r < length script.requests = slice_get_within script.requests r request there in
      let many = as-many in
      let at = get-within report.replies r (omega (arith, within, many)) in
      record { reply = at.0; at = at.1; of = reply-number r at.0 at.1; matched = all-at (IsReplyInAccount script account) report.replies r at.0 reported.replies at.1 }

  module _ (basis : Basis script account) where
    -- a request has one stamp in the report and in the account
    pub same-stamp : (r : ℕ) → stamp_at report r ≡ stamp_of account r
    same-stamp r =
        elim (there-or-none (request_at script r)) [
          | inl there ↦
              let reply = has-reply r there.0 there.1 in
              ap (option_and_then (λ (reply : Reply). reply.stamp)) reply.at ∙ reply.matched.stamp_is ∙ ap (stamp_of account) reply.of
          | inr none ↦
              ap (option_and_then (λ (reply : Reply). reply.stamp)) (no-reply none) ∙ sym (none-begun script account basis r none)
        ]
      where
        no-reply : request_at script r ≡ None → reply_at report r ≡ None
        no-reply none =
            elim (cases_lt r (length script.requests)) [
              | inl within ↦ (let there = get-within script.requests r within in let clash : Some there.0 ≡ None = sym there.1 ∙ none in cc)
              | inr past ↦ (let many = as-many in slice_get_past report.replies r (omega (arith, many, past)))
            ]

    pairs-same : (pairs : List Pair) (givens : List GivenPair) → ArePairsOf account pairs givens
        → filter_map (λ (pair : Pair). given_by (stamp_at report pair.earlier) (stamp_at report pair.later)) pairs ≡ givens
    pairs-same [] [] are = refl
    pairs-same [] (given ∷ givens) are = absurd are
    pairs-same (pair ∷ pairs) [] are = absurd are
    pairs-same (pair ∷ pairs) (given ∷ givens) are =
        ap (λ s. cons_option (given_by s (stamp_at report pair.later)) (filter_map (λ (pair : Pair). given_by (stamp_at report pair.earlier) (stamp_at report pair.later)) pairs))
        (same-stamp pair.earlier ∙ are.0.earlier_is)
        ∙ ap (λ s. cons_option (given_by (Some given.0) s) (filter_map (λ (pair : Pair). given_by (stamp_at report pair.earlier) (stamp_at report pair.later)) pairs))
        (same-stamp pair.later ∙ are.0.later_is)
        ∙ ap (λ rest. given ∷ rest) (pairs-same pairs givens are.1)

    -- the report's pairs are the oracle's
    pub same-pairs : given_pairs report ≡ pairs_in account
    same-pairs = pairs-same report.pairs (pairs_in account) reported.pairs

    -- what precedes in the report precedes in the account, and the other way round
    pub same-precedence : (a b : ℕ) → RequestPrecedes report a b ≡ RequestBefore script account a b
    same-precedence a b =
        ap (λ pairs. AreBoth (Precedes pairs) (stamp_at report a) (stamp_at report b)) same-pairs
        ∙ ap (λ s. AreBoth (Precedes (pairs_in account)) s (stamp_at report b)) (same-stamp a)
        ∙ ap (λ s. AreBoth (Precedes (pairs_in account)) (stamp_of account a) s) (same-stamp b)
