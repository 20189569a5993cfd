-- Each session's requests were begun in a phase by a hand of its own.
-- Used by PhaseEnds.
use Rattle.std.proofs.Common.{◌≡◌, ℕ, ◌==◌, List, ◌++◌, length, drop, Contains, Some, ◌⊎◌, inl, inr, refl, sym, ap, subst, ◌∙◌, eq-eqb}
use Rattle.std.specs.List.{filter}
use Rattle.std.proofs.Math.Seq.{drop-append_seam}
use Rattle.std.proofs.lemmas.List.Elements.{Contains-append_cases}
use Rattle.std.proofs.lemmas.Option.{same_Some}
use Rattle.weave_data.proofs.Members.{filter_has, flat_has, has_filter, has_flat}
use Rattle.program_defs.specs.declared.script.Request.{Request}
use Rattle.program_defs.specs.declared.script.Script.{Script}
use Rattle.report_rules.specs.Lookups.{request_at}
use Rattle.weave_entries.specs.declared.gate_log.GateEntry.{GateEntry}
use Rattle.weave_entries.specs.declared.session_log.SessionEntry.{SessionEntry}
use Rattle.weave_entries.specs.GateReplay.{BegunRequest, begun_by, begun_in}
use Rattle.weave_entries.specs.SessionReplay.{begins_in}
use Rattle.weave_account.specs.declared.account.Account.{Account}
use Rattle.weave_account.specs.Account.{gate_log, session_log}
use Rattle.weave_account.specs.IsAccount.{IsAccount}
use Rattle.seen_logs.specs.Seen.{entries_since}
use Rattle.weaver_core.specs.declared.client.Client.{Client}
use Rattle.weaver_core.specs.Staying.{StayLaws}
use Rattle.weaver_locks.specs.declared.hand.Hand.{Hand}
use Rattle.weaver_locks.specs.declared.shared.Shared.{Shared}
use Rattle.weaver_locks.specs.Hands.{hand_number, made_by}
use Rattle.weaver_locks.proofs.EachLog.{row-at}
use Rattle.workers_account.specs.Pairs.{AreBegunByOwnWorkers, IsBegunBetween}
use Rattle.workers_account.specs.Phase.{IsClosedBy, IsPhaseRun}
use Rattle.workers_account.specs.PhaseLaws.{PhaseLaws}
use Rattle.workers_account.proofs.Begun.{all-has, begun-in-part, gained-log, logs-right, made-there}
use Rattle.workers_account.proofs.Follows.{begun-new}
use Rattle.workers_account.proofs.OpenPairs.{gained-part}
use Rattle.workers_account.proofs.Parts.{Part, gates-on, made-start, part-of}
use Rattle.workers_account.proofs.SessionLogs.{begins-later, begun-here}
use Rattle.workers_account.proofs.Visited.{begun-author}

module _ (laws : PhaseLaws) (stay : StayLaws) (shared : Shared) (script : Script) (upto : ℕ) (start : Account) (was is : List Client) (hands : List Hand)
    (run : IsPhaseRun shared script upto start was is hands) (closed : Account) (end : IsClosedBy shared script start is hands closed)
    (account : IsAccount script closed) where
  abbrev part-for : (hand : Hand) → Contains hands hand → Part shared script upto was is run.hand_of hand
  part-for hand h = part-of laws shared script upto start was is hands run hand h

  -- two requests that one hand began are of one session
  one-session : (hand : Hand) (h : Contains hands hand) (home : ℕ) (one : BegunRequest) (at : ℕ) (other : BegunRequest) (its others : Request)
      → Contains (begun_in ((part-for hand h).gates home)) one → Contains (begun_in ((part-for hand h).gates at)) other
      → request_at script one.request ≡ Some its → request_at script other.request ≡ Some others → its.session ≡ others.session
  one-session hand h home one at other its others there there-too is-one is-other =
      let with = begun-in-part laws shared script upto start was is hands run closed end hand h at other there-too in
      let t = with.session in
      let step = with.left.part.has.followed.in_step in
      let logged = step.in_step.begun home one (subst (λ (g : ℕ → List GateEntry). Contains (begun_in (g home)) one) (sym with.left.part.has.gates_are) there) in
      let in_log : Contains (begins_in (session_log closed t)) (one.request, one.stamp) =
      subst (λ (l : List SessionEntry). Contains (begins_in l) (one.request, one.stamp))
      (sym (gained-log laws shared script upto start was is hands run closed end t hand h with.left))
      (begins-later (session_log start t) step.gained.session one.request one.stamp logged) in
      let of = begun-here laws script t (session_log closed t) (logs-right laws shared script upto start was is hands run closed end t) one.request one.stamp in_log in
      ap (λ (q : Request). q.session) (same_Some its of.0 (sym is-one ∙ of.1)) ∙ of.2 ∙ sym with.session_is
      ∙ ap (λ (q : Request). q.session) (same_Some with.request others (sym with.request_is ∙ is-other))

  -- an entry of the closed logs with a hand's number was there at the start, or the hand made it since
  of-number : (hand : Hand) (h : Contains hands hand) (home : ℕ) (entry : GateEntry) → Contains (gate_log closed home) entry
      → entry.author ≡ hand_number hand → Contains (gate_log start home) entry ⊎ Contains ((part-for hand h).gates home) entry
  of-number hand h home entry there by =
      let part = part-for hand h in
      let own = λ (e : GateEntry). e.author == hand_number hand in
      let all : filter own (gate_log closed home) ≡ gate_log (made_by part.from) home ++ part.gates home =
      sym (row-at (filter own) refl closed.gates home) ∙ ap (λ (a : Account). gate_log a home) (end.made hand h) ∙ part.at_gates home in
      let mine = subst (λ (l : List GateEntry). Contains l entry) all
      (has_filter own (gate_log closed home) entry there (eq-eqb entry.author (hand_number hand) by)) in
      elim (Contains-append_cases (gate_log (made_by part.from) home) (part.gates home) entry mine) [
        | inl before ↦ inl ((filter_has own (gate_log start home) entry
            (subst (λ (l : List GateEntry). Contains l entry) (made-start laws shared script upto start was is hands run hand part home) before)).0)
        | inr since ↦ inr since
      ]

  -- the entry by which a hand began a request in the phase
  record IsBegunByHand (begun : BegunRequest) : Type 0 where
    hand : Hand
    h : Contains hands hand
    home : ℕ
    entry : GateEntry
    number_is : hand_number hand ≡ entry.author
    made : Contains ((part-for hand h).gates home) entry
    began : Contains (begun_by entry.author entry.deed) begun

  by-hand : (begun : BegunRequest) → IsBegunBetween start closed begun → IsBegunByHand begun
  by-hand begun between =
      let home = between.0 in
      let old = gate_log start home in
      let more = gates-on laws shared script upto start was is hands run closed end home in
      let since : entries_since old (gate_log closed home) ≡ more.0 = ap (drop (length old)) more.1 ∙ drop-append_seam old more.0 in
      let from = flat_has (λ (e : GateEntry). begun_by e.author e.deed) more.0 begun
      (subst (λ (l : List GateEntry). Contains (begun_in l) begun) since between.1) in
      let one = gained-part laws stay shared script upto start was is hands run closed end account home from.0 from.1 in
      record {
        hand = one.hand;
        h = one.h;
        home = home;
        entry = from.0;
        number_is = one.number_is;
        made = one.there;
        began = from.2;
      }

  module _ (begun : BegunRequest) (by : IsBegunByHand begun) where
    author-is : by.entry.author ≡ begun.author
    author-is = begun-author by.entry.author by.entry.deed begun by.began

    in-part : Contains (begun_in ((part-for by.hand by.h).gates by.home)) begun
    in-part = has_flat (λ (e : GateEntry). begun_by e.author e.deed) ((part-for by.hand by.h).gates by.home) by.entry begun by.made by.began

    -- its author is the hand of its session
    hand-of-session : (its : Request) → request_at script begun.request ≡ Some its → begun.author ≡ run.hand_of its.session
    hand-of-session its at =
        let one = begun-in-part laws shared script upto start was is hands run closed end by.hand by.h by.home begun in-part in
        sym (one.left.part.mine ∙ by.number_is ∙ author-is)
        ∙ ap run.hand_of (sym one.session_is ∙ ap (λ (q : Request). q.session) (same_Some one.request its (sym one.request_is ∙ at)))

    -- a hand with its author's number made its entry in the phase
    made-by : (other : Hand) (o : Contains hands other) → begun.author ≡ hand_number other → Contains (begun_in ((part-for other o).gates by.home)) begun
    made-by other o same =
        elim (of-number other o by.home by.entry
        (made-there laws shared script upto start was is hands run closed end by.hand by.h by.home by.entry by.made) (author-is ∙ same)) [
          | inl early ↦ absurd (begun-new laws shared script upto start was is hands run closed end by.hand by.h by.home begun in-part begun
              (all-has start by.home begun (has_flat (λ (e : GateEntry). begun_by e.author e.deed) (gate_log start by.home) by.entry begun early by.began)) refl)
          | inr since ↦ has_flat (λ (e : GateEntry). begun_by e.author e.deed) ((part-for other o).gates by.home) by.entry begun since by.began
        ]

  -- requests that were begun in the phase have the same author exactly if they are of the same session
  pub own-workers : AreBegunByOwnWorkers script start closed
  own-workers one other its others first second is-one is-other =
      let by-one = by-hand one first in
      let by-other = by-hand other second in (
        λ same. one-session by-other.hand by-other.h by-one.home one by-other.home other its others
            (made-by one by-one by-other.hand by-other.h (same ∙ sym (by-other.number_is ∙ author-is other by-other)))
            (in-part other by-other) is-one is-other,
        λ same. hand-of-session one by-one its is-one ∙ ap run.hand_of same ∙ sym (hand-of-session other by-other others is-other),
      )
