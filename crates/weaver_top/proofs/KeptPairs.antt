-- The pairs that the report of logs lists come first in the report of logs that go on from them.
-- Used by Loaded.
use Rattle.std.proofs.Common.{◌≡◌, ◌≢◌, ℕ, List, [], ◌∷◌, ◌++◌, Contains, IsTrue, Option, Some, inl, inr, refl, sym, ap, subst, ◌∙◌}
use Rattle.std.specs.Prelude.{not, ◌==◌}
use Rattle.std.specs.List.{AllByRecursion, cons_option, filter_map}
use Rattle.std.proofs.lemmas.Bool.{cases_eq}
use Rattle.vector_stamp.specs.declared.clock.Stamp.{Stamp}
use Rattle.vector_stamp.specs.Order.{id_of}
use Rattle.vector_stamp.specs.Precedence.{GivenPair, Precedes}
use Rattle.program_defs.specs.declared.script.Script.{Script}
use Rattle.report_rules.specs.declared.report.Pair.{Pair}
use Rattle.report_rules.specs.declared.report.Report.{Report}
use Rattle.report_rules.specs.Lookups.{AreBoth, given_by, given_pairs, stamp_at}
use Rattle.report_rules.specs.PrintedOrder.{IsNext, IsOfLesserHome, IsPrintedOrder, TakesAll, begun_requests, without_request}
use Rattle.weave_entries.specs.GateReplay.{BegunRequest}
use Rattle.weave_account.specs.declared.account.Account.{Account}
use Rattle.weave_account.specs.Account.{all_begun, pairs_in, stamp_of}
use Rattle.weave_account.specs.GoesOn.{IsBeginningOf}
use Rattle.weave_account.specs.Pairs.{ArePairsOf, IsPairInAccount}
use Rattle.weave_account.specs.Report.{IsReportOfAccount, MatchesAccount}
use Rattle.weave_account.proofs.PlacedPairs.{are-append}
use Rattle.weave_account.proofs.RepliesClause.{begun-there}

-- The printed order: of the pairs it is the stamps that count

module _ (report : Report) (pairs : List Pair) (same : given_pairs (record report { pairs = pairs }) ≡ given_pairs report) where
  abbrev other : Report
  other = record report { pairs = pairs }

  -- no remaining request precedes this one, by these pairs of stamps
  abbrev IsFreeBy : List GivenPair → List ℕ → ℕ → Type 0
  IsFreeBy given remaining r = AllByRecursion (λ k. ¬ AreBoth (Precedes given) (stamp_at report k) (stamp_at report r)) remaining

  abbrev IsLeastBy : List GivenPair → List ℕ → ℕ → Type 0
  IsLeastBy given remaining r =
      AllByRecursion (λ k. IsTrue (not (k == r)) → IsFreeBy given remaining k → IsOfLesserHome report r k) remaining

  next-still : (remaining : List ℕ) (r : ℕ) → IsNext report remaining r → IsNext other remaining r
  next-still remaining r is = record {
    remains = is.remains;
    free = subst (λ given. IsFreeBy given remaining r) (sym same) is.free;
    least = subst (λ given. IsLeastBy given remaining r) (sym same) is.least;
  }

  all-still : (remaining taken : List ℕ) → TakesAll report remaining taken → TakesAll other remaining taken
  all-still remaining [] all = all
  all-still remaining (r ∷ taken) all = (next-still remaining r all.0, all-still (without_request r remaining) taken all.1)

  printed-still : (order : List ℕ) → IsPrintedOrder report order → IsPrintedOrder other order
  printed-still order is = record {
    taken = is.taken;
    in_turn = all-still (begun_requests report) is.taken is.in_turn;
    listed = is.listed;
  }

-- Pairs

-- two begun requests have two ids
abbrev pub IdsDiffer : Account → Type 0
IdsDiffer account =
    (a b : BegunRequest) → Contains (all_begun account) a → Contains (all_begun account) b → a.request ≢ b.request → id_of a.stamp ≢ id_of b.stamp

-- an account has one list of pairs
abbrev pub PairsAreOne : Script → Account → Type 0
PairsAreOne script account =
    (a b : Report) → IsReportOfAccount script account a → IsReportOfAccount script account b → a.pairs ≡ b.pairs

-- a pair in the first account is one in the second
abbrev pub PairsStay : Account → Account → Type 0
PairsStay account next = (pair : Pair) (given : GivenPair) → IsPairInAccount account pair given → IsPairInAccount next pair given

module _ (account : Account) (differ : IdsDiffer account) where
  -- one stamp is of one request
  same-request : (r s : ℕ) (stamp : Stamp) → stamp_of account r ≡ Some stamp → stamp_of account s ≡ Some stamp → r ≡ s
  same-request r s stamp er es =
      let a = begun-there account r stamp er in
      let b = begun-there account s stamp es in
      elim (cases_eq r s) [
        | inl same ↦ same
        | inr apart ↦ absurd (differ a.0 b.0 a.1 b.1 (λ one. apart (sym a.2 ∙ one ∙ b.2)) (ap (λ (s : Stamp). id_of s) (a.3 ∙ sym b.3)))
      ]

  -- pairs of the same stamps are given alike, by whatever stamps of their requests
  given-alike : (of : ℕ → Option Stamp) (ps qs : List Pair) (givens : List GivenPair) → ArePairsOf account ps givens → ArePairsOf account qs givens
      → filter_map (λ (pair : Pair). given_by (of pair.earlier) (of pair.later)) ps ≡ filter_map (λ (pair : Pair). given_by (of pair.earlier) (of pair.later)) qs
  given-alike of [] [] [] are too = refl
  given-alike of [] (q ∷ qs) [] are too = absurd too
  given-alike of (p ∷ ps) qs [] are too = absurd are
  given-alike of [] qs (given ∷ givens) are too = absurd are
  given-alike of (p ∷ ps) [] (given ∷ givens) are too = absurd too
  given-alike of (p ∷ ps) (q ∷ qs) (given ∷ givens) are too =
      let earlier : p.earlier ≡ q.earlier = same-request p.earlier q.earlier given.0 (are.0).earlier_is (too.0).earlier_is in
      let later : p.later ≡ q.later = same-request p.later q.later given.1 (are.0).later_is (too.0).later_is in
      let rest = given-alike of ps qs givens are.1 too.1 in
      λ i. cons_option (given_by (of (earlier i)) (of (later i))) (rest i)

-- the pairs of the first of these givens, and those of the others
record Cut (account : Account) (pairs : List Pair) (more : List GivenPair) : Type 0 where
  back : List Pair
  back_are : ArePairsOf account back more

cut : (account : Account) (pairs : List Pair) (givens more : List GivenPair) → ArePairsOf account pairs (givens ++ more) → Cut account pairs more
cut account pairs [] more are = record { back = pairs; back_are = are }
cut account [] (given ∷ givens) more are = absurd are
cut account (pair ∷ pairs) (given ∷ givens) more are =
    let rest = cut account pairs givens more are.1 in
    record { back = rest.back; back_are = rest.back_are }

all-stay : (account next : Account) → PairsStay account next → (pairs : List Pair) (givens : List GivenPair) → ArePairsOf account pairs givens → ArePairsOf next pairs givens
all-stay account next stay [] [] are = tt
all-stay account next stay [] (given ∷ givens) are = absurd are
all-stay account next stay (pair ∷ pairs) [] are = absurd are
all-stay account next stay (pair ∷ pairs) (given ∷ givens) are =
    (stay pair given are.0, all-stay account next stay pairs givens are.1)

-- a next account that has all pairs of the first one, a different id for each begun request, and one list of pairs
module _ (script : Script) (account next : Account) (stay : PairsStay account next) (differ : IdsDiffer next) (one : PairsAreOne script next) where
  -- if the list of pairs of the first account begins that of the second, so do the lists of their reports
  pub pairs-kept : (first second : Report) → MatchesAccount script account first → IsReportOfAccount script next second
      → IsBeginningOf (pairs_in account) (pairs_in next) → IsBeginningOf first.pairs second.pairs
  pairs-kept first second is too begins =
      let second_are = subst (λ givens. ArePairsOf next second.pairs givens) begins.1 too.matches.pairs in
      let rest = cut next second.pairs (pairs_in account) begins.0 second_are in
      let pairs = first.pairs ++ rest.back in
      let are : ArePairsOf next pairs (pairs_in next) =
      subst (λ givens. ArePairsOf next pairs givens) (sym begins.1)
      (are-append next first.pairs rest.back (pairs_in account) begins.0 (all-stay account next stay first.pairs (pairs_in account) is.pairs) rest.back_are) in
      let alike = given-alike next differ (stamp_at second) pairs second.pairs (pairs_in next) are too.matches.pairs in
      let again : IsReportOfAccount script next (record second { pairs = pairs }) =
      record {
        matches = record { requests = too.matches.requests; replies = too.matches.replies; pairs = are };
        order = printed-still second pairs alike second.order too.order;
      } in
      (rest.back, one second (record second { pairs = pairs }) too again)
