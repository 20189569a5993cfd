-- The clause on replies (`replies`, for RightReport): each has its request's place and its gatekeeper's stamp, stamps
-- of one home are ordered, and sessions begin in turn. With it, what other users take: facts of an account's begins.
-- Used by BegunElsewhere, FormOfScript, InSession, KnownClocks, OneReport, OpenRequests, PairEnds, PhasePrecedence,
-- PlacedPairs, Requests, RightReport, SeenIds and crates hands_account, seen_logs, shard_lock and weaver_top.
use Rattle.std.proofs.Common.{◌≡◌, ◌≢◌, ℕ, ◌<◌, Bool, ◌==◌, ◌&&◌, List, [], ◌∷◌, ◌++◌, length, Contains, AllPairs, IsTrue, Option, Some, None, ◌⊎◌, inl, inr, refl, sym, ap, subst, ◌∙◌, arith}
use Rattle.std.specs.Prelude.{slice_get}
use Rattle.std.specs.List.{find}
use Rattle.std.specs.Option.{option_map}
use Rattle.std.proofs.lemmas.Bool.{cases_eq, and_from, and_parts, or_left, eq-eqb, eqb-true, lt-ltb, le-leb, not_from_false, ne_eqb}
use Rattle.std.proofs.lemmas.List.{append_assoc, length-append}
use Rattle.std.proofs.lemmas.List.Elements.{Contains-append_left}
use Rattle.weave_data.proofs.Members.{has_head, cut_at, has_cut, find_has}
use Rattle.vector_stamp.specs.declared.clock.Stamp.{Stamp}
use Rattle.vector_stamp.specs.Order.{stamp_before, are_apart}
use Rattle.program_defs.specs.declared.script.Request.{Request}
use Rattle.program_defs.specs.declared.script.Script.{Script}
use Rattle.program_defs.specs.declared.script.Work.{Work}
use Rattle.weave_entries.specs.declared.gate_log.GateEntry.{GateEntry}
use Rattle.weave_entries.specs.declared.gate_log.GateDeed.{GateDeed}
use Rattle.weave_entries.specs.declared.gate_log.GateDeed.TheVariants.{BeganTx, BeganProgram, Sent, Nop, Heard, Raised, Finished}
use Rattle.weave_entries.specs.GateReplay.{BegunRequest, stamps_by, stamps_of, tx_by, program_by, begun_in}
use Rattle.report_rules.specs.declared.report.Reply.{Reply}
use Rattle.report_rules.specs.declared.report.Report.{Report}
use Rattle.weave_data.specs.Facts.{AllHold}
use Rattle.report_rules.specs.RightReport.{is_home_of, are_apart_where_begun, are_begun_in_turn, stands_after, is_reply_in_place, replies_clause}
use Rattle.report_rules.specs.Lookups.{is_none_or, is_some_and, request_at, same_session}
use Rattle.weave_data.proofs.FactsLaws.{hold-append}
use Rattle.weave_data.proofs.Lists.{get-here}
use Rattle.weave_account.specs.declared.account.Account.{Account}
use Rattle.weave_account.specs.Account.{gate_log, all_begun, stamp_of}
use Rattle.weave_account.specs.Report.{IsReplyInAccount, MatchesAccount}
use Rattle.weave_account.proofs.ListingClause.{matches-of}
use Rattle.weave_data.proofs.Ordered.{pairs_tail, pairs_across, pairs_cons}
use Rattle.weave_data.proofs.ListPlaces.{facts-hold, list-all-from, unless}
use Rattle.weave_account.proofs.Replying.{begun-rightly, home-below}
use Rattle.weave_account.proofs.Sessions.{pairs-either}
use Rattle.weave_account.proofs.Replies.{as-many, reply-number}
use Rattle.weave_account.proofs.Basis.{Basis}
use Rattle.weave_account.specs.LowerLaws.{LawsForAccounts}
use Rattle.weave_account.proofs.Sessions.{sessions-rise}

-- The stamps of begins are among those of their log, and rise

abbrev begun-by : GateEntry → List BegunRequest
begun-by entry = tx_by entry.author entry.deed ++ program_by entry.author entry.deed

-- an entry begins nothing, or one request with its stamp
few-begun : (author : ℕ) (deed : GateDeed)
    → (tx_by author deed ++ program_by author deed ≡ []) ⊎ ((b : BegunRequest) × (tx_by author deed ++ program_by author deed ≡ b ∷ []) × Contains (stamps_by deed) b.stamp)
few-begun author (BeganTx r stamp) = inr (_, refl, has_head stamp [])
few-begun author (BeganProgram r stamp) = inr (_, refl, has_head stamp [])
few-begun author (Sent r messages) = inl refl
few-begun author (Nop shard number stamp low) = inl refl
few-begun author (Heard clock) = inl refl
few-begun author (Raised epoch) = inl refl
few-begun author (Finished r) = inl refl

-- the first begin is before the second
abbrev pub BeginsFirst : BegunRequest → BegunRequest → Type 0
BeginsFirst a b = IsTrue (stamp_before a.stamp b.stamp)

-- the second of two lists put together keeps a relation of each two
pub pairs-right : {A : Type 0} (R : A → A → Type 0) (xs ys : List A) → AllPairs R (xs ++ ys) → AllPairs R ys
pairs-right R [] ys pairs = pairs
pairs-right R (x ∷ xs) ys pairs = pairs-right R xs ys (pairs_tail R x (xs ++ ys) pairs)

-- the begins of a log whose stamps rise are one before another
pub begins-rise : LawsForAccounts → (log : List GateEntry) → AllPairs (λ a b. IsTrue (stamp_before a b)) (stamps_of log)
    → AllPairs BeginsFirst (begun_in log)
begins-rise laws [] pairs = λ i j d below within. absurd (omega (arith, within))
begins-rise laws (entry ∷ log) pairs =
    let rest = begins-rise laws log (pairs-right (λ a b. IsTrue (stamp_before a b)) (stamps_by entry.deed) (stamps_of log) pairs) in
    elim (few-begun entry.author entry.deed) [
      | inl none ↦ subst (λ bs. AllPairs BeginsFirst (bs ++ begun_in log)) (sym none) rest
      | inr one ↦ subst (λ bs. AllPairs BeginsFirst (bs ++ begun_in log)) (sym one.1)
          (pairs_cons BeginsFirst one.0 (begun_in log) (λ b h. pairs_across (λ a b. IsTrue (stamp_before a b)) (stamps_by entry.deed) (stamps_of log) (one.0).stamp b.stamp pairs one.2 (laws.own_stamp log b h)) rest)
    ]

-- a request that has a stamp in an account began there with it
pub begun-there : (account : Account) (r : ℕ) (stamp : Stamp) → stamp_of account r ≡ Some stamp
    → (begun : BegunRequest) × Contains (all_begun account) begun × (begun.request ≡ r) × (begun.stamp ≡ stamp)
begun-there account r stamp e = at (find (λ (begun : BegunRequest). begun.request == r) (all_begun account)) refl e
  where
    at : (o : Option BegunRequest) → find (λ (begun : BegunRequest). begun.request == r) (all_begun account) ≡ o
        → option_map (λ (begun : BegunRequest). begun.stamp) o ≡ Some stamp
        → (begun : BegunRequest) × Contains (all_begun account) begun × (begun.request ≡ r) × (begun.stamp ≡ stamp)
    at None is e = cc
    at (Some begun) is e =
        let has = find_has (λ (begun : BegunRequest). begun.request == r) (all_begun account) begun is in
        (begun, has.0, eqb-true begun.request r has.1, cc)

module _ (script : Script) (account : Account) (basis : Basis script account) where
  -- two begun requests have stamps apart
  pub stamps-apart : (a b : BegunRequest) → Contains (all_begun account) a → Contains (all_begun account) b → a.request ≢ b.request
      → IsTrue (are_apart a.stamp b.stamp)
  stamps-apart a b ha hb differ =
      let ra = begun-rightly script account basis a ha in
      let rb = begun-rightly script account basis b hb in
      let home-a : (a.stamp).home ≡ ra.home = ap (λ (s : Stamp). s.home) (ra.rule).stamp_is in
      let home-b : (b.stamp).home ≡ rb.home = ap (λ (s : Stamp). s.home) (rb.rule).stamp_is in
      elim (cases_eq ra.home rb.home) [
        | inr other ↦ or_left _ _ (or_left _ _ (not_from_false _ (ne_eqb (a.stamp).home (b.stamp).home (λ same. other (sym home-a ∙ same ∙ home-b)))))
        | inl same ↦
            let log = gate_log account ra.home in
            let in-b : Contains (begun_in log) b = subst (λ h. Contains (begun_in (gate_log account h)) b) (sym same) rb.there in
            let below = home-below script account basis ra.home a ra.there in
            let all-coherent = basis.laws.coherent ra.home script.shards log below (basis.is.gatekeepers.logs ra.home) in
            let distinct : a.stamp ≢ b.stamp = λ e. elim (pairs-either BeginsFirst (begun_in log) a b (begins-rise basis.laws log (basis.laws.rise ra.home script.shards log below (basis.is.gatekeepers.logs ra.home))) ra.there in-b) [
              | inl one ↦ differ (ap (λ (k : BegunRequest). k.request) one)
              | inr (inl first) ↦ basis.laws.irreflexive a.stamp (subst (λ s. IsTrue (stamp_before a.stamp s)) (sym e) first)
              | inr (inr second) ↦ basis.laws.irreflexive a.stamp (subst (λ s. IsTrue (stamp_before s a.stamp)) (sym e) second)
            ] in
            basis.laws.coherent_apart (stamps_of log) a.stamp b.stamp all-coherent (basis.laws.own_stamp log a ra.there)
            (basis.laws.own_stamp log b in-b) distinct
      ]

  -- the begin of a stamp
  pub begin-of : (r : ℕ) (stamp : Stamp) → stamp_of account r ≡ Some stamp
      → (b : BegunRequest) × Contains (all_begun account) b × (b.request ≡ r) × (b.stamp ≡ stamp)
  begin-of r stamp e = begun-there account r stamp e

  module _ (report : Report) (reported : MatchesAccount script account report) where
    in-place : (before : List Reply) (reply : Reply) (after : List Reply) → report.replies ≡ before ++ reply ∷ after
        → IsTrue (is_reply_in_place script before reply)
    in-place before reply after is =
        let at : slice_get report.replies (length before) ≡ Some reply = ap (λ rs. slice_get rs (length before)) is ∙ get-here before reply after in
        let number = reply-number script account report reported (length before) reply at in
        let many = as-many script account report reported in
        let long = ap length is ∙ length-append before (reply ∷ after) in
        let here : Contains report.replies reply = subst (λ rs. Contains rs reply) (sym is) (has_cut before reply after) in
        let matched = matches-of script account basis report reported reply here in
        and_from _ _ (and_from _ _ (and_from _ _ (eq-eqb reply.request (length before) number) (lt-ltb reply.request (length script.requests) (omega (arith, number, many, long)))) (home reply.stamp matched.stamp_is))
        (list-all-from (stands_after script reply) before (λ earlier h. after-earlier earlier h matched number))
      where
        home : (s : Option Stamp) → s ≡ stamp_of account reply.request
            → IsTrue (is_none_or (is_home_of (request_at script reply.request)) s)
        home None e = refl
        home (Some stamp) e =
            let begun = begin-of reply.request stamp (sym e) in
            let right = begun-rightly script account basis begun.0 begun.1 in
            let home-is : stamp.home ≡ right.home = ap (λ (s : Stamp). s.home) (sym begun.3) ∙ ap (λ (s : Stamp). s.home) (right.rule).stamp_is in
            own right.kind (request_at script reply.request)
            (subst (λ r. IsTrue (is_some_and (λ (request : Request). (request.gate == right.home) && right.kind request.work) (request_at script r))) begun.2 (right.rule).own) home-is
          where
            own : {h : ℕ} (kind : Work → Bool) (q : Option Request)
                → IsTrue (is_some_and (λ (request : Request). (request.gate == h) && kind request.work) q) → stamp.home ≡ h
                → IsTrue (is_home_of q stamp)
            own kind None t e = cc
            own kind (Some request) t e = eq-eqb stamp.home request.gate (e ∙ sym (eqb-true request.gate _ (and_parts _ _ t).0))

        after-earlier : (earlier : Reply) → Contains before earlier → IsReplyInAccount script account reply
            → reply.request ≡ length before → IsTrue (stands_after script reply earlier)
        after-earlier earlier h matched number =
            let there : Contains report.replies earlier =
            subst (λ rs. Contains rs earlier) (sym is) (Contains-append_left before (reply ∷ after) earlier h) in
            let matches-earlier = matches-of script account basis report reported earlier there in
            let place = cut_at before earlier h in
            let at : slice_get report.replies (length place.before) ≡ Some earlier =
            ap (λ rs. slice_get rs (length place.before))
            (is ∙ ap (λ b. b ++ reply ∷ after) place.is ∙ append_assoc place.before (earlier ∷ place.after) (reply ∷ after))
            ∙ get-here place.before earlier (place.after ++ reply ∷ after) in
            let number-e = reply-number script account report reported (length place.before) earlier at in
            let long = ap length place.is ∙ length-append place.before (earlier ∷ place.after) in
            let less : earlier.request < reply.request = omega (arith, number, number-e, long) in
            and_from _ _ (apart-stamps earlier.stamp reply.stamp (sym matches-earlier.stamp_is) (sym matched.stamp_is) less)
            (unless (same_session script earlier.request reply.request) (are_begun_in_turn earlier.stamp reply.stamp) (λ same. turn earlier.stamp reply.stamp (sym matches-earlier.stamp_is) (sym matched.stamp_is) less same))
          where
            apart-stamps : (x y : Option Stamp) → stamp_of account earlier.request ≡ x → stamp_of account reply.request ≡ y
                → earlier.request < reply.request → IsTrue (are_apart_where_begun x y)
            apart-stamps None y ex ey less = refl
            apart-stamps (Some x) None ex ey less = refl
            apart-stamps (Some x) (Some y) ex ey less =
                let a = begin-of earlier.request x ex in
                let b = begin-of reply.request y ey in
                let ra = a.2 in let rb = b.2 in
                subst (λ s. IsTrue (are_apart s y)) a.3
                (subst (λ s. IsTrue (are_apart (a.0).stamp s)) b.3 (stamps-apart a.0 b.0 a.1 b.1 (λ same. omega (arith, ra, rb, same, less))))

            turn : (x y : Option Stamp) → stamp_of account earlier.request ≡ x → stamp_of account reply.request ≡ y
                → earlier.request < reply.request → IsTrue (same_session script earlier.request reply.request)
                → IsTrue (are_begun_in_turn x y)
            turn x None ex ey less same = refl
            turn x (Some y) ex ey less same =
                let first = sessions-rise script account basis earlier.request reply.request y less same ey in
                subst (λ o. IsTrue (is_some_and (λ s. stamp_before s y) o)) (sym first.1 ∙ ex) first.2

    -- the report of an account satisfies the clause on replies
    pub replies : AllHold (replies_clause script report)
    replies =
        hold-append _ _ (facts-hold (λ before reply. IsTrue (is_reply_in_place script before reply)) report.replies in-place)
        (let many = as-many script account report reported in le-leb (length script.requests) (length report.replies) (omega (arith, many)), tt)
