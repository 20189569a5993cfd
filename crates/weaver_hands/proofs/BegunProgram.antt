-- A program that was begun is running.
-- Used by `begun_programs_run`.
use Rattle.std.proofs.Common.{◌≡◌, ◌≢◌, inl, inr, ℕ, ◌<◌, ◌≤◌, eqb, cond, List, [], ◌∷◌, ◌++◌, map, length, Contains, Option, Ok, refl, sym, ap, subst, ◌∙◌, arith, eq-eqb, append_assoc, length-append}
use Rattle.std.specs.Prelude.{filter}
use Rattle.std.proofs.lemmas.List.{drop-append-le, get_or-set_same, length-map}
use Rattle.std.proofs.lemmas.List.Elements.{Contains-append_cases, Contains-append_left, Contains-append_right, filter-append}
use Rattle.weave_data.proofs.Ends.{split_last}
use Rattle.weave_data.proofs.Members.{cut_at, flat_has, has_filter, has_flat, has_head, has_last, has_none, only}
use Rattle.program_defs.specs.Agreement.{AreSameReads}
use Rattle.path_program.specs.declared.any.AnyProgram.{AnyProgram}
use Rattle.path_program.specs.AnyPrograms.{HasRead}
use Rattle.vector_stamp.specs.declared.clock.Stamp.{Stamp}
use Rattle.weave_entries.specs.declared.gate_log.GateDeed.{GateDeed}
use Rattle.weave_entries.specs.declared.gate_log.GateEntry.{GateEntry}
use Rattle.weave_entries.specs.declared.gate_log.GateDeed.TheVariants.{BeganTx, BeganProgram, Sent, Nop, Heard, Raised, Finished}
use Rattle.weave_entries.specs.GateReplay.{BegunRequest, begun_by, program_by, programs_of, tx_by}
use Rattle.weave_entries.specs.GateRules.{EndsAs}
use Rattle.weave_account.specs.declared.account.Account.{Account}
use Rattle.weave_account.specs.Account.{gate_log}
use Rattle.weave_account.proofs.GoesOn.{longer}
use Rattle.seen_logs.specs.Entries.{gate_entries}
use Rattle.seen_logs.specs.LowerLaws.{LawsForSeenLogs}
use Rattle.seen_logs.specs.Seen.{entries_since}
use Rattle.weaver_locks.specs.declared.hand.Hand.{Hand}
use Rattle.weaver_locks.specs.declared.shared.Shared.{Shared}
use Rattle.weaver_locks.specs.Following.{HasNotBegun}
use Rattle.weaver_locks.specs.GateHolds.{gate_entry_by}
use Rattle.weaver_locks.specs.HandLaws.{HandLaws}
use Rattle.weaver_locks.specs.Hands.{hand_number, made_by, seen_by, IsHand}
use Rattle.weaver_locks.specs.Locks.{start_of}
use Rattle.weaver_locks.proofs.EachLog.{own-gate}
use Rattle.weaver_hands.specs.Leaving.{LeavesAlone}
use Rattle.weaver_hands.specs.Programs.{own_reads, IsRunning}
use Rattle.weaver_hands.specs.Transactions.{Starts}
use Rattle.weaver_hands.proofs.Calls.{program-other, start-alone}
use Rattle.weaver_hands.proofs.Running.{own-same}

-- two lists with one more at the end were the same
unpushed : {A : Type 0} (xs ys : List A) (x y : A) → xs ++ x ∷ [] ≡ ys ++ y ∷ [] → xs ≡ ys
unpushed xs ys x y same = elim (split_last xs ys [] x y same) [
  | inl here ↦ here.0
  | inr longer ↦
      let a = ap (λ l. length l) same in
      let b = ap (λ l. length l) longer.1 in
      absurd (omega (arith, a, b, length-append xs (x ∷ []), length-append ys (y ∷ []), length-append ys (y ∷ longer.0)))
]

-- what began a program was its author's entry
program-author : (author : ℕ) (deed : GateDeed) (begun : BegunRequest) → Contains (program_by author deed) begun → author ≡ begun.author
program-author author (BeganProgram r stamp) begun h = ap (λ (b : BegunRequest). b.author) (only (record { author = author; request = r; stamp = stamp }) begun h)
program-author author (BeganTx r stamp) begun h = absurd (has_none begun h)
program-author author (Sent r messages) begun h = absurd (has_none begun h)
program-author author (Nop shard number stamp low) begun h = absurd (has_none begun h)
program-author author (Heard clock) begun h = absurd (has_none begun h)
program-author author (Raised epoch) begun h = absurd (has_none begun h)
program-author author (Finished r) begun h = absurd (has_none begun h)

no-reads : AreSameReads [] []
no-reads = record { vertices = λ v. refl; states = λ v. refl }

module _ (hands : HandLaws) (laws : LawsForSeenLogs) (shared : Shared) (old new : Hand) (gate request : ℕ) (last : Option Stamp) (stamp : Stamp)
    (is_old : IsHand shared old) (is_new : IsHand shared new) (low : gate < length shared.gates.items) (fresh : HasNotBegun old request)
    (did : Starts (length shared.shards.items) old new gate request last stamp) where
  abbrev entry : GateEntry
  entry = gate_entry_by old (BeganProgram request stamp)

  abbrev log : List GateEntry
  log = gate_log (seen_by new) gate

  abbrev start : List GateEntry
  start = gate_log (start_of shared) gate

  home-is : stamp.home ≡ gate
  home-is = ap (λ (s : Stamp). s.home) did.stamp_is

  begun-here : Contains (programs_of (entries_since start log)) (record { author = hand_number new; request = request; stamp = stamp })
  begun-here =
      let few : length start ≤ length did.before =
      (let a = longer start (gate_log (seen_by old) gate) (is_old.seen.starts.gates gate) in
      let b = longer (gate_log (seen_by old) gate) did.before did.begins.found in omega (arith, a, b)) in
      let left : entries_since start log ≡ entries_since start did.before ++ entry ∷ [] =
      ap (entries_since start) did.begins.left ∙ drop-append-le (length start) did.before (entry ∷ []) few in
      let there : Contains (entries_since start log) entry = subst (λ (l : List GateEntry). Contains l entry) (sym left) (has_last (entries_since start did.before) entry) in
      subst (λ n. Contains (programs_of (entries_since start log)) (record { author = n; request = request; stamp = stamp })) (sym did.begins.number)
      (has_flat (λ (e : GateEntry). program_by e.author e.deed) (entries_since start log) entry _ there (has_head _ []))

  -- what was its own before is what it had made
  own-before : filter (λ (e : GateEntry). eqb e.author (hand_number old)) did.before ≡ gate_log (made_by old) gate
  own-before =
      let p = λ (e : GateEntry). eqb e.author (hand_number old) in
      let many : length (made_by old).gates ≡ length shared.gates.items =
      length-map (map _ old.gates.items) gate_entries ∙ length-map old.gates.items _ ∙ is_old.gates in
      let made : gate_log (made_by new) gate ≡ gate_log (made_by old) gate ++ entry ∷ [] =
      ap (λ (a : Account). gate_log a gate) did.begins.made
      ∙ get_or-set_same (made_by old).gates gate (gate_log (made_by old) gate ++ entry ∷ []) [] (omega (arith, low, many)) in
      let whole : filter p (did.before ++ entry ∷ []) ≡ filter p did.before ++ entry ∷ [] =
      filter-append p did.before (entry ∷ [])
      ∙ ap (λ b. filter p did.before ++ cond b (entry ∷ []) []) (eq-eqb (hand_number old) (hand_number old) refl) in
      unpushed (filter p did.before) (gate_log (made_by old) gate) entry entry
      (sym whole ∙ ap (filter p) (sym did.begins.left)
      ∙ ap (λ n. filter (λ (e : GateEntry). eqb e.author n) log) (sym did.begins.number)
      ∙ sym (own-gate shared new is_new gate) ∙ made)

  not-finished : (e : GateEntry) → Contains log e → e.author ≡ hand_number new → e.deed ≢ Finished request
  not-finished e h mine deed =
      elim (Contains-append_cases did.before (entry ∷ []) e (subst (λ (l : List GateEntry). Contains l e) did.begins.left h)) [
        | inr here ↦ program-other request request stamp (ap (λ (x : GateEntry). x.deed) (only entry e here) ∙ deed)
        | inl there ↦
            let cut = cut_at did.before e there in
            let at : log ≡ cut.before ++ e ∷ (cut.after ++ entry ∷ []) =
            did.begins.left ∙ ap (λ (l : List GateEntry). l ++ entry ∷ []) cut.is ∙ append_assoc cut.before (e ∷ cut.after) (entry ∷ []) in
            let ends : EndsAs cut.before e.author (Finished request) =
            subst (EndsAs cut.before e.author) deed
            (laws.ends gate (length shared.shards.items) log (is_new.legal.gate_logs gate) cut.before e (cut.after ++ entry ∷ []) at) in
            let by = flat_has (λ (x : GateEntry). program_by x.author x.deed) cut.before _ ends.1 in
            let first : Contains did.before by.0 =
            subst (λ (l : List GateEntry). Contains l by.0) (sym cut.is) (Contains-append_left cut.before (e ∷ cut.after) by.0 by.1) in
            let own : (by.0).author ≡ hand_number old = program-author (by.0).author (by.0).deed _ by.2 ∙ mine ∙ did.begins.number in
            let made : Contains (gate_log (made_by old) gate) by.0 =
            subst (λ (l : List GateEntry). Contains l by.0) own-before
            (has_filter (λ (x : GateEntry). eqb x.author (hand_number old)) did.before by.0 first (eq-eqb (by.0).author (hand_number old) own)) in
            fresh gate _ (has_flat (λ (x : GateEntry). begun_by x.author x.deed) (gate_log (made_by old) gate) by.0 _ made
            (Contains-append_right (tx_by (by.0).author (by.0).deed) (program_by (by.0).author (by.0).deed) _ by.2)) refl
      ]

  -- a program that the hand has just begun is running, if it has read nothing and no visit was made for it
  pub begun-runs : (walk : AnyProgram) → own_reads old request ≡ [] → HasRead walk []
      → IsRunning shared new (record { request = request; stamp = stamp; walk = walk })
  begun-runs walk none read =
      let alone : LeavesAlone old new request = start-alone (length shared.shards.items) old new gate request last (Ok stamp) did request in
      record {
        begun = subst (λ home. Contains (programs_of (entries_since (gate_log (start_of shared) home) (gate_log (seen_by new) home)))
            (record { author = hand_number new; request = request; stamp = stamp })) (sym home-is) begun-here;
        unfinished = subst (λ home. (e : GateEntry) → Contains (gate_log (seen_by new) home) e → e.author ≡ hand_number new → e.deed ≢ Finished request)
            (sym home-is) not-finished;
        reads = [];
        walk = read;
        same = subst (AreSameReads []) (sym (own-same hands laws shared old new is_old is_new request alone.unvisited ∙ none)) no-reads;
      }
