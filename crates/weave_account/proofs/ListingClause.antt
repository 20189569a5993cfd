-- The clauses on listing and on the order. They rest on the clauses on gatekeepers and sessions, and on the printed
-- order.
-- Used by ConflictsClause, FormOfScript, RefusalsClause, RepliesClause, RightReport and VisitedPairs.
use Rattle.std.proofs.Common.{◌≡◌, ℕ, ◌<◌, Bool, not, ◌||◌, ◌&&◌, nat_lt, nat_eq, length, List, [], ◌∷◌, Contains, IsTrue, Option, Some, None, inl, inr, refl, sym, ap, subst, ◌∙◌}
use Rattle.std.specs.Prelude.{IsSomeAnd, slice_get}
use Rattle.std.specs.List.{AllByRecursion, list_all, filter_map, cons_option}
use Rattle.std.specs.Option.{option_map}
use Rattle.weave_data.proofs.Members.{has_read, has_head, has_tail, has_none, cut_at}
use Rattle.std.proofs.lemmas.Bool.{cases_order, and_from, lt-ltb, eq-eqb, eqb-true}
use Rattle.vector_stamp.specs.declared.clock.Stamp.{Stamp}
use Rattle.vector_stamp.specs.Precedence.{Precedes, ByStamps}
use Rattle.program_defs.specs.declared.script.Request.{Request}
use Rattle.program_defs.specs.declared.script.Script.{Script}
use Rattle.report_rules.specs.declared.report.Reply.{Reply}
use Rattle.report_rules.specs.declared.report.ReplyState.TheVariants.{Unbegun}
use Rattle.report_rules.specs.declared.report.Report.{Report}
use Rattle.weave_data.specs.Facts.{AllHold}
use Rattle.report_rules.specs.PrintedOrder.{begun_requests, IsPrintedOrder}
use Rattle.report_rules.specs.RightReport.{listing_clause, IsListedInOrder, order_clause}
use Rattle.report_rules.specs.Lookups.{is_in, is_some_and, are_both, AreBoth, request_at, reply_at, same_session, is_committed_or_finished, may_be_listed, RequestPrecedes}
use Rattle.weave_data.proofs.FactsLaws.{hold-append}
use Rattle.weave_account.specs.declared.account.Account.{Account}
use Rattle.weave_account.specs.Account.{stamp_of, pairs_in}
use Rattle.weave_account.specs.Report.{IsStateOf, IsReplyInAccount, MatchesAccount}
use Rattle.weave_account.proofs.Cutting.{IsNotAfter}
use Rattle.weave_account.proofs.Listed.{in-begun}
use Rattle.weave_account.proofs.Ordering.{not-both}
use Rattle.weave_data.proofs.Numbers.{of-numbers, IsSorted, in-head, in-tail, in-cases, in-append_left, in-append_right, sorted-at}
use Rattle.weave_data.proofs.ListPlaces.{facts-hold, list-all-from, unless, not-true}
use Rattle.weave_account.proofs.Printing.{order-sorted, order-has, has-order}
use Rattle.weave_account.proofs.Replies.{reply-number, same-precedence, convert}
use Rattle.weave_data.proofs.Lists.{get-here}
use Rattle.weave_account.proofs.Basis.{Basis}
use Rattle.weave_account.proofs.Sessions.{sessions-rise}

-- to be of one session goes both ways
pub session-other : (script : Script) (a b : ℕ) → IsTrue (same_session script a b) → IsTrue (same_session script b a)
session-other script a b h = at (request_at script a) (request_at script b) h
  where
    at : (x y : Option Request) → IsTrue (are_both (λ (x : Request) (y : Request). nat_eq x.session y.session) x y)
        → IsTrue (are_both (λ (x : Request) (y : Request). nat_eq x.session y.session) y x)
    at None y h = cc
    at (Some x) None h = cc
    at (Some x) (Some y) h = eq-eqb y.session x.session (sym (eqb-true x.session y.session h))

module _ (script : Script) (account : Account) (basis : Basis script account) (report : Report) (reported : MatchesAccount script account report) where
  -- Listing

  -- what is committed or finished was begun
  pub final-begun : (reply : Reply) → IsReplyInAccount script account reply → IsTrue (is_committed_or_finished reply.state)
      → (stamp : Stamp) × (reply.stamp ≡ Some stamp)
  final-begun reply matched h = at (request_at script reply.request) matched.state_is reply.stamp refl
    where
      at : (q : Option Request)
          → IsSomeAnd q (λ (request : Request). IsStateOf account reply.request reply.stamp request.work reply.state)
          → (s : Option Stamp) → reply.stamp ≡ s → (stamp : Stamp) × (reply.stamp ≡ Some stamp)
      at q is (Some stamp) e = (stamp, e)
      at None is None e = absurd is
      at (Some request) is None e =
          let state : reply.state ≡ Unbegun = subst (λ s. IsStateOf account reply.request s request.work reply.state) e is in
          let none : IsTrue (is_committed_or_finished Unbegun) = subst (λ s. IsTrue (is_committed_or_finished s)) state h in
          cc

  -- a reply is at its request's place
  pub reply-here : (reply : Reply) → Contains report.replies reply → reply_at report reply.request ≡ Some reply
  reply-here reply h =
      let place = cut_at report.replies reply h in
      let at : slice_get report.replies (length place.before) ≡ Some reply =
      ap (λ xs. slice_get xs (length place.before)) place.is ∙ get-here place.before reply place.after in
      subst (λ n. slice_get report.replies n ≡ Some reply) (sym (reply-number script account report reported _ reply at)) at

  -- each reply is right for the account
  pub matches-of : (reply : Reply) → Contains report.replies reply → IsReplyInAccount script account reply
  matches-of reply h = from report.replies reported.replies h
    where
      from : (replies : List Reply) → AllByRecursion (IsReplyInAccount script account) replies → Contains replies reply
          → IsReplyInAccount script account reply
      from [] all h = absurd (has_none reply h)
      from (first ∷ replies) all h =
          elim (has_read first replies reply h) [ inl same ↦ subst (IsReplyInAccount script account) same all.0 | inr more ↦ from replies all.1 more ]

  -- a request among those begun has its stamp
  pub begun-stamped : (n : ℕ) → IsTrue (is_in n (begun_requests report)) → (stamp : Stamp) × (stamp_of account n ≡ Some stamp)
  begun-stamped n h = from report.replies (λ reply there. matches-of reply there) h
    where
      here : (reply : Reply) → IsReplyInAccount script account reply → (s : Option Stamp) → reply.stamp ≡ s → (rest : List ℕ)
          → (IsTrue (is_in n rest) → (stamp : Stamp) × (stamp_of account n ≡ Some stamp))
          → IsTrue (is_in n (cons_option (option_map (λ (stamp : Stamp). reply.request) s) rest))
          → (stamp : Stamp) × (stamp_of account n ≡ Some stamp)
      here reply matched None e rest more h = more h
      here reply matched (Some stamp) e rest more h =
          elim (in-cases n reply.request rest h) [
            | inl same ↦ (stamp, ap (stamp_of account) same ∙ sym matched.stamp_is ∙ e)
            | inr later ↦ more later
          ]

      from : (replies : List Reply) → ((reply : Reply) → Contains replies reply → IsReplyInAccount script account reply)
          → IsTrue (is_in n (filter_map (λ (reply : Reply). option_map (λ (stamp : Stamp). reply.request) reply.stamp) replies))
          → (stamp : Stamp) × (stamp_of account n ≡ Some stamp)
      from [] all h = cc
      from (reply ∷ replies) all h =
          here reply (all reply (has_head reply replies)) reply.stamp refl
          (filter_map (λ (reply : Reply). option_map (λ (stamp : Stamp). reply.request) reply.stamp) replies)
          (from replies (λ e k. all e (has_tail reply replies e k))) h

  module _ (printed : IsPrintedOrder report report.order) where
    -- the report of an account satisfies the clause on listing
    pub listing : AllHold (listing_clause report)
    listing =
        hold-append _ _
        (facts-hold (λ before r. IsTrue (not (is_in r before) && may_be_listed report r)) report.order (λ before r after is.
        and_from _ _
        (not-true _ (λ h. (sorted-at (IsNotAfter (RequestPrecedes report)) before (r ∷ after) r r (subst (IsSorted (IsNotAfter (RequestPrecedes report))) is (order-sorted report report.order printed)) h (in-head r after)).0 refl))
        (order-has report report.order printed r (subst (λ xs. IsTrue (is_in r xs)) (sym is) (in-append_right r before (r ∷ after) (in-head r after)))).1)) (
          list-all-from (λ (reply : Reply). not (is_committed_or_finished reply.state) || is_in reply.request report.order) report.replies (λ reply h.
              unless (is_committed_or_finished reply.state) (is_in reply.request report.order) (λ final.
              let begun = final-begun reply (matches-of reply h) final in
              has-order report report.order printed reply.request
              (in-begun script account report reported reply.request begun.0 reply (reply-here reply h) begun.1)
              (subst (λ o. IsTrue (is_some_and (λ (e : Reply). is_committed_or_finished e.state) o)) (sym (reply-here reply h)) final))),
          tt,
        )

    -- Order

    -- the report of an account satisfies the clause on the order
    pub in-order : AllHold (order_clause script report)
    in-order =
        facts-hold (IsListedInOrder script report) report.order (λ before r after is.
        let sorted = subst (IsSorted (IsNotAfter (RequestPrecedes report))) is (order-sorted report report.order printed) in
        let earlier-first : (n : ℕ) → IsTrue (is_in n before) → IsNotAfter (RequestPrecedes report) n r = λ n h. sorted-at (IsNotAfter (RequestPrecedes report)) before (r ∷ after) n r sorted h (in-head r after) in (
          (λ p. (let q = convert (same-precedence script account report reported basis r r) p in not-both script account basis r r q q), of-numbers (λ n. ¬ RequestPrecedes report r n) before (λ n h. (earlier-first n h).1)),
          numbers-all before (λ n. not (same_session script n r) || nat_lt n r) (λ n h. unless (same_session script n r) (nat_lt n r) (λ same. lt-ltb n r (turn n r same (order-has report report.order printed n (subst (λ xs. IsTrue (is_in n xs)) (sym is) (in-append_left n before (r ∷ after) h))).0 (earlier-first n h)))),
        ))
      where
        numbers-all : (xs : List ℕ) (p : ℕ → Bool) → ((n : ℕ) → IsTrue (is_in n xs) → IsTrue (p n)) → IsTrue (list_all p xs)
        numbers-all [] p f = refl
        numbers-all (x ∷ xs) p f = and_from _ _ (f x (in-head x xs)) (numbers-all xs p (λ n h. f n (in-tail n x xs h)))

        turn : (n r : ℕ) → IsTrue (same_session script n r) → IsTrue (is_in n (begun_requests report))
            → IsNotAfter (RequestPrecedes report) n r → n < r
        turn n r same begun first =
            elim (cases_order n r) [
              | inl e ↦ absurd (first.0 e)
              | inr (inl less) ↦ less
              | inr (inr more) ↦
                  let y = begun-stamped n begun in
                  let x = sessions-rise script account basis r n y.0 more (session-other script n r same) y.1 in
                  absurd (first.1 (convert (sym (same-precedence script account report reported basis r n))
                  (subst (λ s. AreBoth (Precedes (pairs_in account)) s (stamp_of account n)) (sym x.1) (subst (λ s. AreBoth (Precedes (pairs_in account)) (Some x.0) s) (sym y.1) (ByStamps x.0 y.0 x.2)))))
            ]
