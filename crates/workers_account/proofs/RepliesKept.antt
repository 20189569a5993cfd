-- Along a client's worker's history each reply is by a judgement of its hand, or by what the hand's visits have read.
-- Used by `workers_follow_their_sessions`.
use Rattle.std.proofs.Common.{◌≡◌, inl, inr, ℕ, List, [], ◌∷◌, ◌++◌, Contains, refl, sym, ap, ◌∙◌, subst, append_assoc}
use Rattle.std.proofs.lemmas.List.{append-nil, append_cancel_left, map-append}
use Rattle.std.proofs.lemmas.List.Elements.{Contains-append_cases, Contains-append_left, Contains-append_right}
use Rattle.weave_data.proofs.Members.{has_head, has_none, only}
use Rattle.weave_data.specs.declared.name.Name.{Name}
use Rattle.graph_ops.specs.Operations.{State}
use Rattle.program_defs.specs.declared.script.Script.{Script}
use Rattle.program_defs.specs.PlainAnswer.{IsPlainAnswer}
use Rattle.program_defs.specs.Visits.{graph_read}
use Rattle.path_program.specs.AnyPrograms.{any_of}
use Rattle.report_rules.specs.declared.report.Reply.{Reply}
use Rattle.report_rules.specs.declared.report.ReplyState.TheVariants.{Finished}
use Rattle.weave_entries.specs.declared.store_log.StoreEntry.{StoreEntry}
use Rattle.weave_entries.specs.StoreReplay.{judged_by, judgements_of, Judgement}
use Rattle.weave_account.specs.GoesOn.{IsBeginningOf}
use Rattle.weave_account.specs.Report.{state_by_verdict}
use Rattle.weaver_core.specs.Sessions.{log_of_client}
use Rattle.weaver_locks.specs.declared.shared.Shared.{Shared}
use Rattle.weaver_locks.specs.Hands.{made_by, IsHand}
use Rattle.weaver_locks.specs.Locks.{shard_count}
use Rattle.weaver_workers.specs.ClientWork.{reply_with, DoesOneCall, DoesChange, DoesFinish, Goes, Stand}
use Rattle.weaver_workers.specs.Keeping.{KeepsClient}
use Rattle.workers_account.specs.ReadLaws.{ReadLaws}
use Rattle.workers_account.specs.Visits.{AreRepliesByHand, IsReplyByHand, IsReplyByJudgement, IsReplyByReads}
use Rattle.workers_account.proofs.SessionEnds.{begins-now, begins-on, last-there, replied-now, replied-on}
use Rattle.workers_account.proofs.StepReads.{change-store, judged-entry, replied-rests, step-on, step-reads, step-store}

-- Judgements

-- a judgement of the store's entries stays one
judged-on : (log next : List StoreEntry) → IsBeginningOf log next → (judged : Judgement) → Contains (judgements_of log) judged
    → Contains (judgements_of next) judged
judged-on log next on judged h =
    subst (λ (l : List StoreEntry). Contains (judgements_of l) judged) (sym on.1)
    (subst (λ (l : List Judgement). Contains l judged) (sym (map-append (λ (e : StoreEntry). judged_by e.author e.deed) log on.0))
    (Contains-append_left (judgements_of log) (judgements_of on.0) judged h))

-- and the last entry is one
judged-last : (log : List StoreEntry) (entry : StoreEntry) → Contains (judgements_of (log ++ entry ∷ [])) (judged_by entry.author entry.deed)
judged-last log entry =
    subst (λ (l : List Judgement). Contains l (judged_by entry.author entry.deed))
    (sym (map-append (λ (e : StoreEntry). judged_by e.author e.deed) log (entry ∷ [])))
    (Contains-append_right (judgements_of log) (judged_by entry.author entry.deed ∷ []) (judged_by entry.author entry.deed)
    (has_head (judged_by entry.author entry.deed) []))

-- Replies

module _ (laws : ReadLaws) (shared : Shared) (script : Script) (number upto : ℕ) (old new : Stand)
    (keeps : KeepsClient shared script number old.hand old.client) (is : IsHand shared new.hand) where
  -- a reply stays so
  step-reply : DoesOneCall shared script number upto old new → (reply : Reply) → IsReplyByHand script old reply → IsReplyByHand script new reply
  step-reply does reply was = record {
    stamp = was.stamp;
    stamp_is = was.stamp_is;
    begun = begins-on (log_of_client old.client) (log_of_client new.client) on (reply.request, was.stamp) was.begun;
    state = elim was.state [
      | inl judged ↦ inl (by-judgement judged)
      | inr reads ↦ inr (by-reads reads)
    ];
  }
    where
      on : IsBeginningOf (log_of_client old.client) (log_of_client new.client)
      on = step-on shared script number upto old new does

      by-judgement : IsReplyByJudgement script old.hand reply → IsReplyByJudgement script new.hand reply
      by-judgement was = record {
        judged = was.judged;
        there = judged-on (made_by old.hand).store (made_by new.hand).store (step-store shared script number upto old new does) was.judged was.there;
        request_is = was.request_is;
        asked = was.asked;
        asked_is = was.asked_is;
        work_is = was.work_is;
        stamp_is = was.stamp_is;
        state_is = was.state_is;
      }

      by-reads : IsReplyByReads script old reply → IsReplyByReads script new reply
      by-reads was = record {
        program = was.program;
        look = was.look;
        replied = replied-on (log_of_client old.client) (log_of_client new.client) on reply.request was.replied;
        answer = was.answer;
        state_is = was.state_is;
        plain = subst (λ (reads : List (Name × State)). IsPlainAnswer (graph_read reads) was.program was.answer)
            (sym (step-reads shared script number upto old new laws keeps.is_hand is does reply.request
            (replied-rests laws shared script number old keeps reply.request was.replied))) was.plain;
      }

  -- a transaction's reply
  change-reply : (does : DoesChange shared script number upto old new)
      → IsReplyByHand script new (reply_with does.r does.stamp (state_by_verdict does.verdict))
  change-reply does =
      let entry = judged-entry shared script number upto old new does in
      record {
        stamp = does.stamp;
        stamp_is = refl;
        begun = begins-now (log_of_client old.client) (log_of_client new.client) (step-on shared script number upto old new (inl does)) (does.r, does.stamp)
            (has_head (does.r, does.stamp) []);
        state = inl (record {
          judged = judged_by entry.author entry.deed;
          there = subst (λ (l : List StoreEntry). Contains (judgements_of l) (judged_by entry.author entry.deed)) (sym (change-store shared script number upto old new does))
              (judged-last (made_by old.hand).store entry);
          request_is = refl;
          asked = does.asked;
          asked_is = does.next.request_is;
          work_is = does.work_is;
          stamp_is = refl;
          state_is = refl;
        });
      }

  -- a program's reply
  finish-reply : (does : DoesFinish shared number old new)
      → IsReplyByHand script new (reply_with does.before.request does.before.stamp (Finished does.answer))
  finish-reply does =
      let runs = keeps.running does.before does.before_is in
      let on = step-on shared script number upto old new (inr (inr (inr (inl does)))) in
      record {
        stamp = does.before.stamp;
        stamp_is = refl;
        begun = begins-on (log_of_client old.client) (log_of_client new.client) on (does.before.request, does.before.stamp)
            (last-there number old.client.session (log_of_client old.client) keeps.at_end does.before.request does.before.stamp runs.begun runs.turn runs.stamp_is);
        state = inr (record {
          program = any_of does.before.walk;
          look = runs.look;
          replied = replied-now (log_of_client old.client) (log_of_client new.client) on does.before.request (has_head does.before.request []);
          answer = does.answer;
          state_is = refl;
          plain = subst (λ (reads : List (Name × State)). IsPlainAnswer (graph_read reads) (any_of does.before.walk) does.answer)
              (sym (laws.reads shared old.hand new.hand does.before.request keeps.is_hand is
              (laws.finish (shard_count shared) old.hand new.hand does.before does.answer does.finishes does.before.request)))
              does.finishes.plain;
        });
      }

  -- the replies that the session got are so
  record MoreReplies : Type 0 where
    added : List Reply
    replies : new.client.replies.items ≡ old.client.replies.items ++ added
    by : (reply : Reply) → Contains added reply → IsReplyByHand script new reply

  one-reply : (reply : Reply) → new.client.replies.items ≡ old.client.replies.items ++ reply ∷ [] → IsReplyByHand script new reply → MoreReplies
  one-reply reply replies by = record {
    added = reply ∷ [];
    replies = replies;
    by = λ other h. subst (λ (one : Reply). IsReplyByHand script new one) (only reply other h) by;
  }

  no-reply : new.client.replies.items ≡ old.client.replies.items → MoreReplies
  no-reply same = record {
    added = [];
    replies = same ∙ sym (append-nil old.client.replies.items);
    by = λ other none. absurd (has_none other none);
  }

  more-replies : DoesOneCall shared script number upto old new → MoreReplies
  more-replies (inl change) = one-reply _ change.replies (change-reply change)
  more-replies (inr (inl start)) = no-reply start.replies
  more-replies (inr (inr (inl visit))) = no-reply visit.same.replies
  more-replies (inr (inr (inr (inl finish)))) = one-reply _ finish.replies (finish-reply finish)
  more-replies (inr (inr (inr (inr carry)))) = no-reply carry.same.replies

-- The history

-- all replies so far are so
record HaveReplies (script : Script) (from at : Stand) : Type 0 where
  gained : List Reply
  replies : at.client.replies.items ≡ from.client.replies.items ++ gained
  by : (reply : Reply) → Contains gained reply → IsReplyByHand script at reply

module _ (laws : ReadLaws) (shared : Shared) (script : Script) (number upto : ℕ) where
  -- after one thing more
  replies-more : (from old new : Stand) → KeepsClient shared script number old.hand old.client → IsHand shared new.hand
      → DoesOneCall shared script number upto old new → HaveReplies script from old → HaveReplies script from new
  replies-more from old new keeps is does so_far =
      let more = more-replies laws shared script number upto old new keeps is does in
      record {
        gained = so_far.gained ++ more.added;
        replies = more.replies ∙ ap (λ (l : List Reply). l ++ more.added) so_far.replies
            ∙ append_assoc from.client.replies.items so_far.gained more.added;
        by = λ reply h. elim (Contains-append_cases so_far.gained more.added reply h) [
          | inl before ↦ step-reply laws shared script number upto old new keeps is does reply (so_far.by reply before)
          | inr now ↦ more.by reply now
        ];
      }

  -- and after one after another
  replies-on : (path : List Stand) (from mid at : Stand) → KeepsClient shared script number mid.hand mid.client
      → Goes shared script number upto mid path at → HaveReplies script from mid → HaveReplies script from at
  replies-on [] from mid at keeps went so_far = subst (λ (s : Stand). HaveReplies script from s) went so_far
  replies-on (next ∷ path) from mid at keeps went so_far =
      replies-on path from next at went.0.1 went.1 (replies-more from mid next keeps went.0.1.is_hand went.0.0 so_far)

  -- each reply that the session got is by a judgement of the hand, or by its reads
  pub replies-by-hand : (path : List Stand) (from at : Stand) → KeepsClient shared script number from.hand from.client
      → Goes shared script number upto from path at → AreRepliesByHand script from at
  replies-by-hand path from at keeps went gained replies reply h =
      let so_far = replies-on path from from at keeps went (record {
        gained = [];
        replies = sym (append-nil from.client.replies.items);
        by = λ other none. absurd (has_none other none);
      }) in
      so_far.by reply (subst (λ (l : List Reply). Contains l reply)
      (append_cancel_left from.client.replies.items gained so_far.gained (sym replies ∙ so_far.replies)) h)
