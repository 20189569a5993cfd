-- A hand that begins one request in a hold, in its session's turn, has begun all in turn, by place in what it has seen;
-- a hand that begins nothing has, too.
-- Used by BegunTurns and crate sessions_account.
use Rattle.std.proofs.Common.{◌≡◌, ◌≢◌, ℕ, ◌==◌, Bool, List, [], ◌∷◌, ◌++◌, length, Contains, inl, inr, refl, sym, ap, subst, ◌∙◌, arith}
use Rattle.std.specs.List.{filter}
use Rattle.std.proofs.lemmas.Bool.{cases_eq}
use Rattle.std.proofs.lemmas.List.{append-nil, get_or-set_other, length-append}
use Rattle.weave_data.proofs.Members.{has_none, only}
use Rattle.program_defs.specs.declared.script.Script.{Script}
use Rattle.program_defs.specs.declared.script.Work.{Work}
use Rattle.program_defs.specs.Works.{is_change, is_look}
use Rattle.vector_stamp.specs.declared.clock.Stamp.{Stamp}
use Rattle.weave_entries.specs.declared.gate_log.GateEntry.{GateEntry}
use Rattle.weave_entries.specs.declared.gate_log.GateDeed.{GateDeed}
use Rattle.weave_entries.specs.declared.gate_log.GateDeed.TheVariants.{BeganTx, BeganProgram, Sent, Nop, Heard, Raised, Finished}
use Rattle.weave_entries.specs.declared.session_log.SessionEntry.{SessionEntry}
use Rattle.weave_entries.specs.GateReplay.{begun_by}
use Rattle.weave_entries.specs.Logs.{AtEachEntry}
use Rattle.weave_account.specs.declared.account.Account.{Account}
use Rattle.weave_account.specs.Account.{gate_log}
use Rattle.weave_account.specs.GoesOn.{IsBeginningOf}
use Rattle.weave_account.proofs.GoesOn.{onward}
use Rattle.seen_logs.specs.Seen.{GatesGoOn, IsOwn}
use Rattle.seen_logs.proofs.Onward.{earlier-place}
use Rattle.hands_account.proofs.Places.{less-or}
use Rattle.weaver_locks.specs.declared.hand.Hand.{Hand}
use Rattle.weaver_locks.specs.GateHolds.{gate_entry_by, WasAtGate}
use Rattle.weaver_locks.specs.Hands.{hand_number, made_by, seen_by}
use Rattle.weaver_workers.specs.Carrying.{OnlyCarries}
use Rattle.weaver_workers.proofs.OnlyCarried.{no-begin}
use Rattle.workers_account.specs.Begins.{BeginsInTurn, IsBegunInTurn}
use Rattle.workers_account.proofs.BegunPlaces.{not-none, one-own, own-among, went-on}
use Rattle.workers_account.proofs.OwnLogs.{OwnGates}

-- Deeds

module _ (script : Script) (session home : ℕ) (before : List GateEntry) where
  -- a deed that begins no request
  begins-nothing : (log : List SessionEntry) (author : ℕ) (deed : GateDeed) → begun_by author deed ≡ []
      → BeginsInTurn script session log home before deed
  begins-nothing log author (BeganTx r stamp) none = absurd cc
  begins-nothing log author (BeganProgram r stamp) none = absurd cc
  begins-nothing log author (Sent r messages) none = tt
  begins-nothing log author (Nop shard number stamp low) none = tt
  begins-nothing log author (Heard clock) none = tt
  begins-nothing log author (Raised epoch) none = tt
  begins-nothing log author (Finished r) none = tt

  module _ (log next : List SessionEntry) (on : IsBeginningOf log next) where
    -- what was begun in turn stays so when the session's log goes on
    turn-later : (is_kind : Work → Bool) (r : ℕ) (stamp : Stamp) → IsBegunInTurn script session log is_kind home before r stamp
        → IsBegunInTurn script session next is_kind home before r stamp
    turn-later is_kind r stamp begun = record {
      then = begun.then;
      on = onward begun.then log next begun.on on;
      next = begun.next;
      asked = begun.asked;
      request_is = begun.request_is;
      session_is = begun.session_is;
      gate_is = begun.gate_is;
      kind = begun.kind;
      last = begun.last;
      last_is = begun.last_is;
      stamp_is = begun.stamp_is;
      hears_no_more = begun.hears_no_more;
      small = begun.small;
    }

    -- a deed that begins in its session's turn still does so when the session's log goes on
    pub begins-later : (deed : GateDeed) → BeginsInTurn script session log home before deed
        → BeginsInTurn script session next home before deed
    begins-later (BeganTx r stamp) begins = turn-later is_change r stamp begins
    begins-later (BeganProgram r stamp) begins = turn-later is_look r stamp begins
    begins-later (Sent r messages) begins = tt
    begins-later (Nop shard number stamp low) begins = tt
    begins-later (Heard clock) begins = tt
    begins-later (Raised epoch) begins = tt
    begins-later (Finished r) begins = tt

-- What a hand made that begins nothing

-- a log has gained entries, none of which begins a request
pub record GainsNone (old new : List GateEntry) : Type 0 where
  pub added : List GateEntry
  pub log : new ≡ old ++ added
  pub none : (entry : GateEntry) → Contains added entry → begun_by entry.author entry.deed ≡ []

gains-nothing : (old new : List GateEntry) → new ≡ old → GainsNone old new
gains-nothing old new same =
    record { added = []; log = same ∙ sym (append-nil old); none = λ entry h. absurd (has_none entry h) }

-- a hand has, in each log of a gatekeeper
pub record BeginsNone (old new : Hand) : Type 0 where
  pub number : hand_number new ≡ hand_number old
  pub gates : GatesGoOn (seen_by old) (seen_by new)
  pub gains : (home : ℕ) → GainsNone (gate_log (made_by old) home) (gate_log (made_by new) home)

-- a hand whose own entries at gatekeepers stayed the same began nothing
pub none-elsewhere : (old new : Hand) → hand_number new ≡ hand_number old → GatesGoOn (seen_by old) (seen_by new)
    → (made_by new).gates ≡ (made_by old).gates → BeginsNone old new
none-elsewhere old new number gates same = record {
  number = number;
  gates = gates;
  gains = λ home. gains-nothing (gate_log (made_by old) home) (gate_log (made_by new) home)
      (λ i. gate_log (record (made_by old) { gates = same i }) home);
}

-- at the gatekeepers where it was not
still-elsewhere : {shards : ℕ} (old new : Hand) (gate home : ℕ) (before added : List GateEntry) → home ≢ gate
    → WasAtGate shards old new gate before added → gate_log (made_by new) home ≡ gate_log (made_by old) home
still-elsewhere old new gate home before added other was =
    ap (λ (a : Account). gate_log a home) was.made
    ∙ get_or-set_other (made_by old).gates gate home (gate_log (made_by old) gate ++ added) [] other

-- one entry at a gatekeeper
pub one-at-gate : {shards : ℕ} (old new : Hand) (gate : ℕ) (before : List GateEntry) (deed : GateDeed)
    → WasAtGate shards old new gate before (gate_entry_by old deed ∷ []) → begun_by (hand_number old) deed ≡ [] → BeginsNone old new
one-at-gate old new gate before deed was none = record {
  number = was.number;
  gates = was.more.gates;
  gains = λ home. elim (cases_eq home gate) [
    | inr other ↦ gains-nothing (gate_log (made_by old) home) (gate_log (made_by new) home)
        (still-elsewhere old new gate home before (entry ∷ []) other was)
    | inl same ↦ subst (λ (k : ℕ). GainsNone (gate_log (made_by old) k) (gate_log (made_by new) k)) (sym same)
        (elim (went-on (made_by old).gates gate (entry ∷ [])) [
          | inl more ↦ record {
            added = entry ∷ [];
            log = ap (λ (a : Account). gate_log a gate) was.made ∙ more;
            none = λ e h. subst (λ (x : GateEntry). begun_by x.author x.deed ≡ []) (only entry e h) none;
          }
          | inr less ↦ gains-nothing (gate_log (made_by old) gate) (gate_log (made_by new) gate)
              (ap (λ (a : Account). gate_log a gate) was.made ∙ less)
        ])
  ];
}
  where
    entry : GateEntry
    entry = gate_entry_by old deed

-- a hand that only carries begins nothing
pub none-carried : (old new : Hand) → OnlyCarries old new → BeginsNone old new
none-carried old new only = record {
  number = only.number;
  gates = only.more.gates;
  gains = λ home. (let gains = only.gates home in record {
    added = gains.added;
    log = gains.log;
    none = λ entry h. no-begin entry.author entry.deed (gains.pass entry h);
  });
}

-- What a hand began

module _ (script : Script) (session : ℕ) where
  -- all that a hand began since it had seen less, at one gatekeeper and at all
  abbrev pub BegunAt : List SessionEntry → Hand → Hand → ℕ → Type 0
  BegunAt log old new home = AtEachEntry (λ before (entry : GateEntry).
      IsOwn (hand_number old) (gate_log (seen_by old) home) before entry.author
      → BeginsInTurn script session log home before entry.deed) (gate_log (seen_by new) home)

  abbrev pub BegunBetween : List SessionEntry → Hand → Hand → Type 0
  BegunBetween log old new = (home : ℕ) → BegunAt log old new home

  -- between a hand and itself, all that it began was in its session's turn
  pub begun-none : (log : List SessionEntry) (hand : Hand) → BegunBetween log hand hand
  begun-none log hand home before entry after at mine =
      let short = ap length at in
      let long = length-append before (entry ∷ after) in
      let late = mine.1 in
      absurd (omega (arith, short, long, late))

  -- if two stretches began in turn, by a log and by one that goes on from it, both did in turn by the latter
  pub begun-then : (log next : List SessionEntry) (old mid new : Hand) → hand_number mid ≡ hand_number old
      → GatesGoOn (seen_by mid) (seen_by new) → IsBeginningOf log next → BegunBetween log old mid → BegunBetween next mid new → BegunBetween next old new
  begun-then log next old mid new number gates on first second home before entry after at mine =
      elim (less-or (length before) (length (gate_log (seen_by mid) home))) [
        | inl less ↦ (let there = earlier-place (gate_log (seen_by mid) home) (gate_log (seen_by new) home) (gates home) before entry after at less in
            begins-later script session home before log next on entry.deed (first home before entry there.0 there.1 mine))
        | inr late ↦ second home before entry after at (mine.0 ∙ sym number, late)
      ]

  module _ (log : List SessionEntry) (old new : Hand) (number : hand_number new ≡ hand_number old)
      (own_old : OwnGates old) (own_new : OwnGates new) where
    -- what the hand made is what has the number that it had
    own-still : (home : ℕ) → filter (λ (e : GateEntry). e.author == hand_number old) (gate_log (seen_by new) home)
        ≡ gate_log (made_by new) home
    own-still home =
        ap (λ (n : ℕ). filter (λ (e : GateEntry). e.author == n) (gate_log (seen_by new) home)) (sym number) ∙ sym (own_new home)

    -- it began nothing at a gatekeeper
    quiet-at : (home : ℕ) → IsBeginningOf (gate_log (seen_by old) home) (gate_log (seen_by new) home)
        → GainsNone (gate_log (made_by old) home) (gate_log (made_by new) home) → BegunAt log old new home
    quiet-at home on gains before entry after at mine =
        begins-nothing script session home before log entry.author entry.deed (gains.none entry
        (own-among (λ (e : GateEntry). e.author) (hand_number old) (gate_log (seen_by old) home) (gate_log (seen_by new) home)
        (gate_log (made_by old) home) gains.added on (own_old home) (own-still home ∙ gains.log) before entry after at mine))

    -- it began something in one hold
    module _ {shards : ℕ} (gate : ℕ) (before : List GateEntry) (deed : GateDeed)
        (was : WasAtGate shards old new gate before (gate_entry_by old deed ∷ []))
        (begins : BeginsInTurn script session log gate before deed) where
      abbrev entry : GateEntry
      entry = gate_entry_by old deed

      made-now : filter (λ (e : GateEntry). e.author == hand_number old) (before ++ entry ∷ []) ≡ gate_log (made_by new) gate
      made-now = ap (filter (λ (e : GateEntry). e.author == hand_number old)) (sym was.left) ∙ own-still gate

      made-one : gate_log (made_by new) gate ≡ gate_log (made_by old) gate ++ entry ∷ []
      made-one = elim (went-on (made_by old).gates gate (entry ∷ [])) [
        | inl more ↦ ap (λ (a : Account). gate_log a gate) was.made ∙ more
        | inr less ↦ absurd (not-none (λ (e : GateEntry). e.author) (hand_number old) (gate_log (seen_by old) gate) before
            (gate_log (made_by old) gate) entry refl was.found (own_old gate)
            (made-now ∙ ap (λ (a : Account). gate_log a gate) was.made ∙ less))
      ]

      begun-there : BegunAt log old new gate
      begun-there rest e after at mine =
          let here = one-own (λ (x : GateEntry). x.author) (hand_number old) (gate_log (seen_by old) gate) before
          (gate_log (made_by old) gate) entry refl was.found (own_old gate) (made-now ∙ made-one)
          rest e after (sym was.left ∙ at) mine in
          subst (λ (b : List GateEntry). BeginsInTurn script session log gate b e.deed) (sym here.0)
          (subst (λ (x : GateEntry). BeginsInTurn script session log gate before x.deed) (sym here.1) begins)

      -- if the one deed that the hand added begins in its session's turn, all that it began since was begun in turn
      pub begun-one : BegunBetween log old new
      begun-one home = elim (cases_eq home gate) [
        | inl same ↦ subst (λ (k : ℕ). BegunAt log old new k) (sym same) begun-there
        | inr other ↦ quiet-at home (was.more.gates home) (gains-nothing (gate_log (made_by old) home) (gate_log (made_by new) home)
            (still-elsewhere old new gate home before (entry ∷ []) other was))
      ]

  -- a hand that began nothing since has begun nothing out of turn, if its own logs are its entries of those seen
  pub quiet : (log : List SessionEntry) (old new : Hand) → BeginsNone old new → OwnGates old → OwnGates new → BegunBetween log old new
  quiet log old new none own_old own_new home =
      quiet-at log old new none.number own_old own_new home (none.gates home) (none.gains home)
