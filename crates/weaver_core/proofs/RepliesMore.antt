-- With a right reply to the next request, a list of replies that has one for each request so far has one for each of
-- one request more.
-- Used by `replies_of`.
use Rattle.std.proofs.Common.{◌≡◌, ℕ, ◌+◌, List, [], ◌∷◌, ◌++◌, length, map, Option, None, Some, refl, sym, ap, subst, ◌∙◌, arith}
use Rattle.std.specs.Prelude.{slice_get, slice_index_or}
use Rattle.std.specs.List.{range_with_len}
use Rattle.std.proofs.lemmas.List.{length-map, map-append}
use Rattle.std.proofs.lemmas.List.FromFn.{length-range_with_len, map-range_with_len_more}
use Rattle.std.proofs.lemmas.Option.{same_Some}
use Rattle.vector_stamp.specs.declared.clock.Stamp.{Stamp}
use Rattle.program_defs.specs.declared.script.Request.{Request}
use Rattle.report_rules.specs.declared.report.Reply.{Reply}
use Rattle.report_rules.specs.declared.report.ReplyState.{ReplyState}
use Rattle.weave_entries.specs.declared.store_log.StoreEntry.{StoreEntry}
use Rattle.weaver_core.specs.Sessions.{SessionValues, values_at}
use Rattle.weaver_core.specs.Reporting.{AreRequestsReplies, IsRequestsReply, IsStateFound}
use Rattle.weaver_core.proofs.Tables.{each-push}

same-map : (xs : List ℕ) → map (λ (n : ℕ). n) xs ≡ xs
same-map [] = refl
same-map (x ∷ xs) = ap (λ rest. x ∷ rest) (same-map xs)

one-more-number : (n : ℕ) → range_with_len 0 (n + 1) ≡ range_with_len 0 n ++ n ∷ []
one-more-number n = sym (same-map (range_with_len 0 (n + 1))) ∙ map-range_with_len_more (λ (k : ℕ). k) 0 n n (omega arith) ∙ ap (λ (xs : List ℕ). xs ++ n ∷ []) (same-map (range_with_len 0 n))

abbrev made : ℕ → Option Stamp → ReplyState → Reply
made r stamp state = record { request = r; stamp = stamp; state = state }

module _ (store : List StoreEntry) (values : List SessionValues) (stamps : List (Option Stamp)) (requests : List Request) (r : ℕ)
    (replies then_replies : List Reply) (asked : Request) (stamp : Option Stamp) (state : ReplyState) where
  -- with the reply to the next request, by its stamp and its state, there is one for each of one request more
  pub replies-more : slice_get requests r ≡ Some asked → stamp ≡ slice_index_or stamps r None
      → AreRequestsReplies store values stamps requests r replies
      → IsStateFound store (values_at values asked.session).replies r stamp asked.work state
      → then_replies ≡ replies ++ record { request = r; stamp = stamp; state = state } ∷ []
      → AreRequestsReplies store values stamps requests (r + 1) then_replies
  replies-more at stamp-is are found is = subst (AreRequestsReplies store values stamps requests (r + 1)) (sym is) (record {
    numbered = map-append (λ (one : Reply). one.request) replies (made r stamp state ∷ []) ∙ (λ i. are.numbered i ++ r ∷ []) ∙ sym (one-more-number r);
    each = λ n one place. each-push (λ (k : ℕ) (x : Reply). (request : Request) → slice_get requests k ≡ Some request → IsRequestsReply store values stamps k request x) replies (made r stamp state) are.each
        (subst (λ k. (request : Request) → slice_get requests k ≡ Some request → IsRequestsReply store values stamps k request (made r stamp state)) (sym count) here) n one place;
  })
    where
      count : length replies ≡ r
      count = sym (length-map replies (λ (one : Reply). one.request)) ∙ ap length are.numbered ∙ length-range_with_len 0 r

      here : (request : Request) → slice_get requests r ≡ Some request → IsRequestsReply store values stamps r request (made r stamp state)
      here request there = record {
        request_is = refl;
        stamp_is = stamp-is;
        state_is = subst (λ (q : Request). IsStateFound store (values_at values q.session).replies r (slice_index_or stamps r None) q.work state) (same_Some asked request (sym at ∙ there))
            (subst (λ (o : Option Stamp). IsStateFound store (values_at values asked.session).replies r o asked.work state) stamp-is found);
      }
