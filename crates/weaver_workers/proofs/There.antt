-- In a call at one gatekeeper or shard that begins nothing a hand only carries, at that one alone; and a gatekeeper
-- that was told a clock has heard it.
-- Used by `apply_all`, `apply_channel`, `apply_head`, `apply_round`, `bring_all`, `bring_from`, `bring_one`,
-- `go_gate`, `go_shard`, `hear`, `hear_news`, `hear_others`, `is_known`, `known_to`, `listen`, `nudge`, `nudge_gate`,
-- `search`, `search_up`, `send_empty`, `send_to_all`, `tell`, `turn_gate`, `turn_shard` and Nudged.
use Rattle.std.proofs.Common.{◌≡◌, ◌≢◌, ℕ, ◌+◌, ◌<◌, arith, inl, inr, true, false, List, [], ◌∷◌, ◌++◌, zero, suc, length, get_or, set, Result, Ok, Err, refl, sym, ap, ◌∙◌, subst}
use Rattle.std.specs.Prelude.{◌⊎◌, Bool, Contains, OnOk, Option, Some, None}
use Rattle.std.proofs.lemmas.Bool.{cases_lt}
use Rattle.std.proofs.lemmas.List.{append-nil, get_or-set_other, get_or-set_same, length-map}
use Rattle.std.proofs.lemmas.List.Elements.{Contains-append_left, Contains-append_right}
use Rattle.weave_data.proofs.Members.{has_head}
use Rattle.weave_data.proofs.RowsSet.{set-none}
use Rattle.vector_stamp.specs.declared.clock.Clock.{Clock}
use Rattle.weave_entries.specs.declared.gate_log.GateEntry.{GateEntry}
use Rattle.weave_entries.specs.declared.gate_log.GateDeed.TheVariants.{Heard}
use Rattle.weave_entries.specs.declared.shard_log.ShardEntry.{ShardEntry}
use Rattle.weave_account.specs.declared.account.Account.{Account}
use Rattle.weave_account.specs.Account.{gate_log, shard_log}
use Rattle.weave_account.proofs.GoesOn.{onward}
use Rattle.weave_entries.specs.GateReplay.{clock_of}
use Rattle.weaver_locks.specs.declared.hand.Hand.{Hand}
use Rattle.weaver_locks.specs.declared.shared.Shared.{Shared}
use Rattle.weaver_locks.specs.GateHolds.{gate_entries_of, gate_entry_by, WasAtGate}
use Rattle.weaver_locks.specs.Hands.{made_by, with_gate_entries, with_shard_entries, IsHand}
use Rattle.weaver_locks.specs.Locks.{gate_count}
use Rattle.weaver_locks.specs.ShardHolds.{WasAtShard}
use Rattle.weaver_hands.specs.declared.fault.HandFault.{HandFault}
use Rattle.weaver_hands.specs.declared.fault.HandFault.TheVariants.{Busy, NotYet, Empty, Waits, Memory}
use Rattle.weaver_hands.specs.Leaving.{MadeNone}
use Rattle.weaver_hands.specs.Messages.{is_sent, AppliesAs, BringsAs, PullsAs}
use Rattle.weaver_hands.specs.declared.messages.Pulled.{Pulled}
use Rattle.weaver_hands.specs.declared.messages.Pulled.TheVariants.{Unsent, Known, New}
use Rattle.weaver_hands.specs.Telling.{NopsAs, TellsClock, TellsAs}
use Rattle.weaver_workers.specs.Carrying.{is_telling, AreTold, CarriesAtGate, CarriesAtShard, HasHeard, HasSaid, HasTold, IsAtGate, IsAtNoOtherShard, IsAtShard, IsUpToDate, IsUpToDateBelow, OnlyCarries}
use Rattle.weaver_workers.proofs.Carried.{at-gate, nothing-at-gate, one-passes}
use Rattle.weaver_workers.proofs.Called.{applied, carries-on, carries-start, pulled, sent-empty, told}

-- Holds without an entry

none-at-gate : {shards : ℕ} (old new : Hand) (gate : ℕ) (before : List GateEntry) → WasAtGate shards old new gate before []
    → MadeNone old new
none-at-gate old new gate before was = record {
  number = was.number;
  made = was.made ∙ (λ i. record (made_by old) { gates = set-none (made_by old).gates gate i });
  more = was.more;
}

none-at-shard : {shards : ℕ} (old new : Hand) (shard : ℕ) (before : List ShardEntry) → WasAtShard shards old new shard before [] []
    → MadeNone old new
none-at-shard old new shard before was = record {
  number = was.number;
  made = was.made ∙ (λ i. record (made_by old) {
    oracle = append-nil (made_by old).oracle i;
    shards = set-none (made_by old).shards shard i;
  });
  more = was.more;
}

-- One call

made-at-gate : (old new : Hand) (gate : ℕ) (added : List GateEntry)
    → made_by new ≡ with_gate_entries gate added (made_by old) → IsAtGate gate old new
made-at-gate old new gate added made = record {
  gates = λ home other. ap (λ (a : Account). gate_log a home) made
      ∙ get_or-set_other (made_by old).gates gate home (gate_log (made_by old) gate ++ added) [] other;
  shards = ap (λ (a : Account). a.shards) made;
}

none-at-this-gate : (old new : Hand) (gate : ℕ) → MadeNone old new → IsAtGate gate old new
none-at-this-gate old new gate none = record {
  gates = λ home other. ap (λ (a : Account). gate_log a home) none.made;
  shards = ap (λ (a : Account). a.shards) none.made;
}

made-at-shard : (old new : Hand) (shard : ℕ) (added : List ShardEntry)
    → made_by new ≡ with_shard_entries shard added [] (made_by old) → IsAtShard shard old new
made-at-shard old new shard added made = record {
  gates = ap (λ (a : Account). a.gates) made;
  shards = λ at other. ap (λ (a : Account). shard_log a at) made
      ∙ get_or-set_other (made_by old).shards shard at (shard_log (made_by old) shard ++ added) [] other;
}

none-at-this-shard : (old new : Hand) (shard : ℕ) → MadeNone old new → IsAtShard shard old new
none-at-this-shard old new shard none = record {
  gates = ap (λ (a : Account). a.gates) none.made;
  shards = λ at other. ap (λ (a : Account). shard_log a at) none.made;
}

-- one hold made nothing, and the next one's entry was added
told-made : (shards : ℕ) (old new : Hand) (from to : ℕ) → (tells : TellsClock shards old new from to)
    → made_by new ≡ with_gate_entries to (gate_entry_by tells.told (Heard tells.clock) ∷ []) (made_by old)
told-made shards old new from to tells = tells.hears.made
    ∙ ap (with_gate_entries to (gate_entry_by tells.told (Heard tells.clock) ∷ [])) (none-at-gate old tells.told from tells.said tells.says).made

told-there : (shards : ℕ) (old new : Hand) (from to : ℕ) (result : Result (Unit {0}) HandFault) → TellsAs shards old new from to result
    → IsAtGate to old new
told-there shards old new from to (Ok done) tells =
    made-at-gate old new to _ (told-made shards old new from to tells)
told-there shards old new from to (Err Memory) none = none-at-this-gate old new to none
told-there shards old new from to (Err Busy) none = absurd none
told-there shards old new from to (Err (NotYet shard at)) none = absurd none
told-there shards old new from to (Err Empty) none = absurd none
told-there shards old new from to (Err (Waits vertex)) none = absurd none

sent-there : (shards : ℕ) (old new : Hand) (gate shard : ℕ) (result : Result (Unit {0}) HandFault)
    → NopsAs shards old new gate shard result → IsAtGate gate old new
sent-there shards old new gate shard (Ok done) sends = made-at-gate old new gate _ sends.was.made
sent-there shards old new gate shard (Err Busy) found =
    none-at-this-gate old new gate (none-at-gate old new gate found.before found.was)
sent-there shards old new gate shard (Err Memory) none = none-at-this-gate old new gate none
sent-there shards old new gate shard (Err (NotYet other at)) none = absurd none
sent-there shards old new gate shard (Err Empty) none = absurd none
sent-there shards old new gate shard (Err (Waits vertex)) none = absurd none

pulled-there : (shards : ℕ) (old new : Hand) (gate shard number : ℕ) (result : Result Bool HandFault)
    → PullsAs shards old new gate shard number result → IsAtShard shard old new
pulled-there shards old new gate shard number (Ok true) pulls = made-at-shard old new shard _
    (pulls.arrives.made ∙ ap (with_shard_entries shard _ []) (none-at-gate old pulls.fetched gate pulls.sent pulls.fetches).made)
pulled-there shards old new gate shard number (Ok false) found =
    none-at-this-shard old new shard (none-at-gate old new gate found.sent found.was)
pulled-there shards old new gate shard number (Err Memory) none = none-at-this-shard old new shard none
pulled-there shards old new gate shard number (Err Busy) none = absurd none
pulled-there shards old new gate shard number (Err (NotYet other at)) none = absurd none
pulled-there shards old new gate shard number (Err Empty) none = absurd none
pulled-there shards old new gate shard number (Err (Waits vertex)) none = absurd none

applied-there : (shards : ℕ) (old new : Hand) (shard gate : ℕ) (result : Result (Unit {0}) HandFault)
    → AppliesAs shards old new shard gate result → IsAtShard shard old new
applied-there shards old new shard gate (Ok done) applies = made-at-shard old new shard _ applies.was.made
applied-there shards old new shard gate (Err Empty) found =
    none-at-this-shard old new shard (none-at-shard old new shard found.before found.was)
applied-there shards old new shard gate (Err (Waits vertex)) found =
    none-at-this-shard old new shard (none-at-shard old new shard found.before found.was)
applied-there shards old new shard gate (Err Memory) none = none-at-this-shard old new shard none
applied-there shards old new shard gate (Err Busy) none = absurd none
applied-there shards old new shard gate (Err (NotYet other at)) none = absurd none

module _ (shared : Shared) (old new : Hand) (is : IsHand shared new) where
  -- telling a gatekeeper the clock of another one only carries, and at the one that is told alone
  pub tells-there : (shards from to : ℕ) (result : Result (Unit {0}) HandFault) → TellsAs shards old new from to result
      → CarriesAtGate shared to old new
  tells-there shards from to result tells = record {
    carries = record { hand = is; only = told shards old new from to result tells };
    there = told-there shards old new from to result tells;
  }

  -- sending an empty message only carries, and at the gatekeeper that sends it alone
  pub sends-there : (shards gate shard : ℕ) (result : Result (Unit {0}) HandFault) → NopsAs shards old new gate shard result
      → CarriesAtGate shared gate old new
  sends-there shards gate shard result sends = record {
    carries = record { hand = is; only = sent-empty shards old new gate shard result sends };
    there = sent-there shards old new gate shard result sends;
  }

  -- pulling a message to a shard only carries, and at that shard alone
  pub pulls-there : (shards gate shard number : ℕ) (result : Result Bool HandFault)
      → PullsAs shards old new gate shard number result → CarriesAtShard shared shard old new
  pulls-there shards gate shard number result pulls = record {
    carries = record { hand = is; only = pulled shards old new gate shard number result pulls };
    there = pulled-there shards old new gate shard number result pulls;
  }

  -- a message that was brought
  abbrev sent-result : Result Pulled HandFault → Result Bool HandFault
  sent-result (Ok one) = Ok (is_sent one)
  sent-result (Err fault) = Err fault

  as-pulled : (shards gate shard number : ℕ) (result : Result Pulled HandFault) → BringsAs shards old new gate shard number result
      → PullsAs shards old new gate shard number (sent-result result)
  as-pulled shards gate shard number (Ok Unsent) found = found
  as-pulled shards gate shard number (Ok Known) brings = brings.pulls
  as-pulled shards gate shard number (Ok New) brings = brings.pulls
  as-pulled shards gate shard number (Err Memory) none = none
  as-pulled shards gate shard number (Err Busy) none = none
  as-pulled shards gate shard number (Err (NotYet other at)) none = none
  as-pulled shards gate shard number (Err Empty) none = none
  as-pulled shards gate shard number (Err (Waits vertex)) none = none

  -- bringing a message to a shard only carries, and at that shard alone
  pub brings-there : (shards gate shard number : ℕ) (result : Result Pulled HandFault)
      → BringsAs shards old new gate shard number result → CarriesAtShard shared shard old new
  brings-there shards gate shard number result brings =
      pulls-there shards gate shard number (sent-result result) (as-pulled shards gate shard number result brings)

  -- having a shard process the head of a channel only carries, and at that shard alone
  pub applies-there : (shards shard gate : ℕ) (result : Result (Unit {0}) HandFault) → AppliesAs shards old new shard gate result
      → CarriesAtShard shared shard old new
  applies-there shards shard gate result applies = record {
    carries = record { hand = is; only = applied shards old new shard gate result applies };
    there = applied-there shards old new shard gate result applies;
  }

-- No call, and one after another

-- a hand that does nothing only carries, at any gatekeeper alone
pub gate-start : (shared : Shared) (gate : ℕ) (hand : Hand) → IsHand shared hand → CarriesAtGate shared gate hand hand
gate-start shared gate hand is = record {
  carries = carries-start shared hand is;
  there = record { gates = λ home other. refl; shards = refl };
}

-- a hand that twice only carries at one gatekeeper alone does so in all
pub gate-on : (shared : Shared) (gate : ℕ) (old mid new : Hand) → CarriesAtGate shared gate old mid → CarriesAtGate shared gate mid new
    → CarriesAtGate shared gate old new
gate-on shared gate old mid new first second = record {
  carries = carries-on shared old mid new first.carries second.carries;
  there = record {
    gates = λ home other. second.there.gates home other ∙ first.there.gates home other;
    shards = second.there.shards ∙ first.there.shards;
  };
}

-- a hand that does nothing only carries, at any shard alone
pub shard-start : (shared : Shared) (shard : ℕ) (hand : Hand) → IsHand shared hand → CarriesAtShard shared shard hand hand
shard-start shared shard hand is = record {
  carries = carries-start shared hand is;
  there = record { gates = refl; shards = λ at other. refl };
}

-- a hand that twice only carries at one shard alone does so in all
pub shard-on : (shared : Shared) (shard : ℕ) (old mid new : Hand) → CarriesAtShard shared shard old mid
    → CarriesAtShard shared shard mid new → CarriesAtShard shared shard old new
shard-on shared shard old mid new first second = record {
  carries = carries-on shared old mid new first.carries second.carries;
  there = record {
    gates = second.there.gates ∙ first.there.gates;
    shards = λ at other. second.there.shards at other ∙ first.there.shards at other;
  };
}

-- if nothing was made at shards, nothing was made at any other shard than this one
pub none-elsewhere : (old new : Hand) (shard : ℕ) → (made_by new).shards ≡ (made_by old).shards → IsAtNoOtherShard shard old new
none-elsewhere old new shard none at other = ap (λ (ls : List (List ShardEntry)). get_or ls at []) none

-- if nothing was made at shards at first, and then at this shard alone, nothing was made at any other
pub then-at-shard : (old mid new : Hand) (shard : ℕ) → (made_by mid).shards ≡ (made_by old).shards → IsAtShard shard mid new
    → IsAtNoOtherShard shard old new
then-at-shard old mid new shard none there at other = there.shards at other ∙ none-elsewhere old mid shard none at other

-- What was heard

-- a gatekeeper that was told a clock has heard it
pub heard-now : (shared : Shared) (shards : ℕ) (old new : Hand) (from to : ℕ) → IsHand shared old → to < gate_count shared
    → TellsClock shards old new from to → HasHeard old new to from
heard-now shared shards old new from to is low tells =
    let made = told-made shards old new from to tells in
    let entry : GateEntry = gate_entry_by tells.told (Heard tells.clock) in
    let long : length (made_by old).gates ≡ gate_count shared = length-map _ _ ∙ (length-map _ _ ∙ is.gates) in
    let left = tells.says.left ∙ append-nil tells.said in
    let more = tells.hears.more.gates from in record {
      clock = tells.clock;
      said = record {
        said = tells.said;
        late = tells.says.found;
        seen = (more.0, more.1 ∙ ap (λ (l : List GateEntry). l ++ more.0) left);
        clock_is = tells.clock_is;
      };
      added = entry ∷ [];
      log = ap (λ (a : Account). gate_log a to) made
          ∙ get_or-set_same (made_by old).gates to (gate_log (made_by old) to ++ entry ∷ []) [] (subst (λ n. to < n) (sym long) low);
      entry = entry;
      heard = has_head entry [];
      deed = refl;
    }

-- What was said and what was heard, in two holds

-- one hold in which nothing was made
pub listens-there : (shared : Shared) (shards : ℕ) (old new : Hand) (from to : ℕ) (before : List GateEntry) → IsHand shared new
    → WasAtGate shards old new from before [] → CarriesAtGate shared to old new
listens-there shared shards old new from to before is was = record {
  carries = record { hand = is; only = nothing-at-gate shards old new from before was };
  there = none-at-this-gate old new to (none-at-gate old new from before was);
}

-- a gatekeeper has said the clock of the log that the hand found there, in a hold without an entry
pub was-said : (shards : ℕ) (old new : Hand) (from : ℕ) (before : List GateEntry) (clock : Clock)
    → WasAtGate shards old new from before [] → clock ≡ clock_of from before → HasSaid old new from clock
was-said shards old new from before clock was is =
    record { said = before; late = was.found; seen = ([], was.left); clock_is = is }

-- one in which a clock was heard, or memory ran out
pub hears-there : {F : Type 0} (shared : Shared) (shards : ℕ) (old new : Hand) (to : ℕ) (before : List GateEntry) (clock : Clock)
    (result : Result (Unit {0}) F) → IsHand shared new
    → WasAtGate shards old new to before (gate_entries_of old (λ _. Heard clock) result) → CarriesAtGate shared to old new
hears-there shared shards old new to before clock (Ok done) is was = record {
  carries = record { hand = is; only = at-gate shards old new to before _ was (one-passes (λ e. is_telling e.deed) _ refl) };
  there = made-at-gate old new to _ was.made;
}
hears-there shared shards old new to before clock (Err fault) is was = listens-there shared shards old new to to before is was

-- if the hold in which a gatekeeper is told a clock was answered with Ok, it has heard that clock from the hand
pub is-told : {F : Type 0} (shared : Shared) (shards : ℕ) (old new : Hand) (to : ℕ) (before : List GateEntry) (clock : Clock)
    (result : Result (Unit {0}) F) → IsHand shared old → to < gate_count shared
    → WasAtGate shards old new to before (gate_entries_of old (λ _. Heard clock) result) → OnOk result (HasTold new to clock)
is-told shared shards old new to before clock (Ok done) is low was =
    let entry : GateEntry = gate_entry_by old (Heard clock) in
    let long : length (made_by old).gates ≡ gate_count shared = length-map _ _ ∙ (length-map _ _ ∙ is.gates) in
    let log = ap (λ (a : Account). gate_log a to) was.made
    ∙ get_or-set_same (made_by old).gates to (gate_log (made_by old) to ++ entry ∷ []) [] (subst (λ n. to < n) (sym long) low) in record {
      entry = entry;
      own = subst (λ (l : List GateEntry). Contains l entry) (sym log)
          (Contains-append_right (gate_log (made_by old) to) (entry ∷ []) entry (has_head entry []));
      deed = refl;
    }
is-told shared shards old new to before clock (Err fault) is low was = tt

-- a gatekeeper that was told a clock still is, after the hand only carried
pub still-told : (old new : Hand) (gate : ℕ) (clock : Clock) → HasTold old gate clock → OnlyCarries old new → HasTold new gate clock
still-told old new gate clock told only =
    let more = only.gates gate in record {
      entry = told.entry;
      own = subst (λ (l : List GateEntry). Contains l told.entry) (sym more.log)
          (Contains-append_left (gate_log (made_by old) gate) more.added told.entry told.own);
      deed = told.deed;
    }

-- a gatekeeper that was told each clock of a list still is, after the hand only carried
pub still-all-told : (old new : Hand) (gate : ℕ) (clocks : List (Option Clock)) → AreTold old gate clocks → OnlyCarries old new
    → AreTold new gate clocks
still-all-told old new gate clocks told only from clock is = still-told old new gate clock (told from clock is) only

-- the clock that a gatekeeper has said since, it has still said, after the hand only carried
pub still-said : (old mid new : Hand) (from : ℕ) (clock : Clock) → HasSaid old mid from clock → OnlyCarries mid new
    → HasSaid old new from clock
still-said old mid new from clock said only = record {
  said = said.said;
  late = said.late;
  seen = onward _ _ _ said.seen (only.more.gates from);
  clock_is = said.clock_is;
}

-- the clock that a gatekeeper has said since the hand had seen more, it has said since the hand had seen less
pub said-since : (old mid new : Hand) (from : ℕ) (clock : Clock) → OnlyCarries old mid → HasSaid mid new from clock
    → HasSaid old new from clock
said-since old mid new from clock only said = record {
  said = said.said;
  late = onward _ _ _ (only.more.gates from) said.late;
  seen = said.seen;
  clock_is = said.clock_is;
}

-- if no clock is in a list, a gatekeeper was told each of them
pub none-told : (hand : Hand) (gate : ℕ) (clocks : List (Option Clock)) → ((from : ℕ) → get_or clocks from None ≡ None)
    → AreTold hand gate clocks
none-told hand gate clocks none from clock is = absurd (cc (none from, is))

-- one more clock is there, or no room for it
one-set : (clocks : List (Option Clock)) (place from : ℕ) (now clock : Clock) → get_or (set clocks place (Some now)) from None ≡ Some clock
    → (get_or clocks from None ≡ Some clock) ⊎ (now ≡ clock)
one-set [] place from now clock is = inl is
one-set (c ∷ cs) zero zero now clock is = inr (cc is)
one-set (c ∷ cs) zero (suc from) now clock is = inl is
one-set (c ∷ cs) (suc place) zero now clock is = inl is
one-set (c ∷ cs) (suc place) (suc from) now clock is = one-set cs place from now clock is

-- a gatekeeper that was told each clock of a list, and one more, was told each of the list with that one put in
pub one-more-told : (hand : Hand) (gate : ℕ) (clocks news : List (Option Clock)) (place : ℕ) (now : Clock) → AreTold hand gate clocks
    → HasTold hand gate now → news ≡ set clocks place (Some now) → AreTold hand gate news
one-more-told hand gate clocks news place now told heard made from clock is =
    elim (one-set clocks place from now clock (ap (λ (cs : List (Option Clock)). get_or cs from None) (sym made) ∙ is)) [
      | inl before ↦ told from clock before
      | inr same ↦ subst (HasTold hand gate) same heard
    ]

-- Up to date

-- a gatekeeper that is up to date with another one stays so, after the hand only carried
pub still-up-to-date : (old mid new : Hand) (gate from : ℕ) → IsUpToDate old mid gate from → OnlyCarries mid new → IsUpToDate old new gate from
still-up-to-date old mid new gate from first only = record {
  clock = first.clock;
  said = still-said old mid new from first.clock first.said only;
  told = still-told mid new gate first.clock first.told only;
}

-- and so does one that is up to date with each other one below a number
pub still-all-up-to-date : (old mid new : Hand) (gate bound : ℕ) → IsUpToDateBelow bound gate old mid → OnlyCarries mid new
    → IsUpToDateBelow bound gate old new
still-all-up-to-date old mid new gate bound first only from low other =
    still-up-to-date old mid new gate from (first from low other) only

-- and was so for a hand that had seen less
since-before : (old mid new : Hand) (gate from : ℕ) → OnlyCarries old mid → IsUpToDate mid new gate from → IsUpToDate old new gate from
since-before old mid new gate from only second = record {
  clock = second.clock;
  said = said-since old mid new from second.clock only second.said;
  told = second.told;
}

-- if it is up to date with each other one below a number, it was so for a hand that had seen less
pub all-since-before : (old mid new : Hand) (gate bound : ℕ) → OnlyCarries old mid → IsUpToDateBelow bound gate mid new
    → IsUpToDateBelow bound gate old new
all-since-before old mid new gate bound only second from low other =
    since-before old mid new gate from only (second from low other)

-- a gatekeeper up to date with all below a bound is so one further, if it is with that one, or is that one
pub one-more-up-to-date : (old mid new : Hand) (gate bound : ℕ) → OnlyCarries old mid → OnlyCarries mid new
    → IsUpToDateBelow bound gate old mid → (bound ≢ gate → IsUpToDate mid new gate bound) → IsUpToDateBelow (bound + 1) gate old new
one-more-up-to-date old mid new gate bound first second before next from low other = elim (cases_lt from bound) [
  | inl less ↦ still-up-to-date old mid new gate from (before from less other) second
  | inr far ↦ (let same : bound ≡ from = omega (arith, low, far) in
      subst (IsUpToDate old new gate) same (since-before old mid new gate bound first (next (λ is. other (sym same ∙ is)))))
]

-- what holds, holds of any result that is Ok
pub on-any : {T E P : Type 0} (r : Result T E) → P → OnOk r P
on-any (Ok x) p = p
on-any (Err e) p = tt
