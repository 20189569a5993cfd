-- A gatekeeper with one more entry keeps what its type keeps, if what the entry refers to was seen.
-- Used by `begin_program`, `begin_tx`, `say`, Calls and Fetching.
use Rattle.std.proofs.Common.{◌≡◌, inl, inr, ℕ, ◌+◌, ◌<◌, ◌≤◌, Bool, true, cond, nat_eq, count_by, eq-eqb, List, [], ◌∷◌, ◌++◌, length, map, get_or, IsTrue, refl, sym, ap, ◌∙◌, subst, arith, Option, None, Some}
use Rattle.std.specs.Prelude.{Result, Ok, Err, IfOk, OnErr}
use Rattle.std.specs.Option.{ForSome}
use Rattle.std.proofs.lemmas.List.{append-nil, length-append, length-map}
use mathlib.Core.Logic.{dite}
use native.Mathlib.Decide.{ℕ_discrete}
use Rattle.weave_data.proofs.Ends.{count_push, flat_push, split_last}
use Rattle.program_defs.specs.declared.script.Script.{Script}
use Rattle.vector_stamp.specs.declared.clock.Clock.{Clock}
use Rattle.vector_stamp.specs.declared.clock.Stamp.{Stamp}
use Rattle.vector_stamp.specs.Clocks.{clock_after_tick, counts_no_more}
use Rattle.vector_stamp.specs.Order.{stamp_before}
use Rattle.weave_entries.specs.declared.gate_log.GateDeed.{GateDeed}
use Rattle.weave_entries.specs.declared.gate_log.GateEntry.{GateEntry}
use Rattle.weave_entries.specs.GateReplay.{begun_stamp, clock_after_last, clock_of, next_stamp, stamps_by, stamps_of, ticks_of}
use Rattle.weave_entries.specs.GateRules.{HearsAs, HearsNoMore, IsGateLog}
use Rattle.gatekeeper.specs.Gates.{Adds, GateView}
use Rattle.weave_account.specs.declared.account.Account.{Account}
use Rattle.weave_account.specs.Account.{gate_log, session_log}
use Rattle.weave_account.specs.Clocks.{IsKnown}
use Rattle.weave_account.specs.GoesOn.{GoesOn}
use Rattle.seen_logs.specs.References.{GateRefersAs}
use Rattle.seen_logs.specs.Seen.{AreLegal, IsWithin}
use Rattle.chronicle.specs.Passes.{seen_by_note}
use Rattle.chronicle.proofs.Logs.{prefix_refl}
use Rattle.gate_lock.specs.declared.notes.GateNotes.{GateNotes}
use Rattle.gate_lock.specs.LowerLaws.{LawsForGateNotes}
use Rattle.gate_lock.specs.Notes.{GateIsKept, seen_of_gate}
use Rattle.gate_lock.proofs.Accounts.{at_home, elsewhere, grows}

abbrev entry_by : ℕ → GateDeed → GateEntry
entry_by author deed = record { author = author; deed = deed }

-- the gatekeeper with one more entry
abbrev pub added : GateView → ℕ → GateDeed → ℕ → GateView
added gate author deed spare = record {
  home = gate.home;
  gates = gate.gates;
  shards = gate.shards;
  log = gate.log ++ entry_by author deed ∷ [];
  spare = spare;
}

-- a gatekeeper to whose log an entry was added is the old one with this entry at the end, and its own spare room
pub is_added : (old new : GateView) (author : ℕ) (deed : GateDeed) → Adds old new author deed → new ≡ added old author deed new.spare
is_added old new author deed adds = λ i. record {
  home = adds.home i;
  gates = adds.gates i;
  shards = adds.shards i;
  log = adds.log i;
  spare = new.spare;
}

-- some script, for laws that ask for one
some_script : Script
some_script = record { gates = 0; shards = 0; requests = []; phases = []; steps = None }

-- The own log

-- a gatekeeper's log is whole in what it has seen
pub own_log : (gate : GateView) (notes : GateNotes) → GateIsKept gate notes → gate_log (seen_of_gate gate notes) gate.home ≡ gate.log
own_log gate notes kept =
    at_home gate.home gate.log (map seen_by_note notes.gates.items) (seen_by_note notes.store) (map seen_by_note notes.shards.items)
    (omega (arith, length-map notes.gates.items seen_by_note, kept.gates, kept.home))

module _ (laws : LawsForGateNotes) (gate : GateView) (notes : GateNotes) (kept : GateIsKept gate notes) (small : gate.home < 8) where
  abbrev known_now : Clock → Type 0
  known_now clock = IsKnown (seen_of_gate gate notes) clock

  -- if a gatekeeper has seen what its log refers to, its clock is known
  pub clock_known : known_now (clock_of gate.home gate.log)
  clock_known = subst (λ (l : List GateEntry). known_now (clock_of gate.home l)) (own_log gate notes kept)
      (laws.own_clock gate.shards (seen_of_gate gate notes) gate.home kept.refers small)

  -- after a known stamp was heard it still is
  pub last_known : (last : Option Stamp) → ForSome last (λ (heard : Stamp). known_now heard.clock) → known_now
      (clock_after_last gate.home (clock_of gate.home gate.log) last)
  last_known None its = clock_known
  last_known (Some stamp) its = laws.heard (seen_of_gate gate notes) gate.home small (clock_of gate.home gate.log) stamp.clock clock_known (its stamp refl)

  -- a known clock may be heard
  pub hears_known : (rules : IsGateLog gate.home gate.shards gate.log) (clock : Clock) → known_now clock → IsTrue
      (counts_no_more gate.home (clock_of gate.home gate.log) clock)
  hears_known rules clock known =
      let own = own_log gate notes kept in
      subst (λ (l : List GateEntry). IsTrue (counts_no_more gate.home (clock_of gate.home l) clock)) own
      (laws.may_be_heard gate.shards gate.home (seen_of_gate gate notes) small (subst (IsGateLog gate.home gate.shards) (sym own) rules) clock known)

-- One more entry

module _ (laws : LawsForGateNotes) (gate : GateView) (notes : GateNotes) (kept : GateIsKept gate notes) (author : ℕ) (deed : GateDeed) (spare : ℕ) where
  abbrev more : GateView
  more = added gate author deed spare

  abbrev before : Account
  before = seen_of_gate gate notes

  abbrev after : Account
  after = seen_of_gate more notes

  low : gate.home < length (map seen_by_note notes.gates.items)
  low = omega (arith, length-map notes.gates.items seen_by_note, kept.gates, kept.home)

  own_before : gate_log before gate.home ≡ gate.log
  own_before = at_home gate.home gate.log (map seen_by_note notes.gates.items) (seen_by_note notes.store) (map seen_by_note notes.shards.items) low

  own_after : gate_log after gate.home ≡ gate.log ++ entry_by author deed ∷ []
  own_after = at_home gate.home (gate.log ++ entry_by author deed ∷ []) (map seen_by_note notes.gates.items) (seen_by_note notes.store) (map seen_by_note notes.shards.items) low

  goes : IsWithin before after
  goes = grows gate.home gate.log (gate.log ++ entry_by author deed ∷ []) (map seen_by_note notes.gates.items) (map seen_by_note notes.gates.items)
      (seen_by_note notes.store) (seen_by_note notes.store)
      (map seen_by_note notes.shards.items) (map seen_by_note notes.shards.items) low low (entry_by author deed ∷ [], refl)
      (λ k other. prefix_refl (get_or (map seen_by_note notes.gates.items) k []))
      (prefix_refl (seen_by_note notes.store)) (λ k. prefix_refl (get_or (map seen_by_note notes.shards.items) k []))

  goes_on : GoesOn before after
  goes_on = record {
    gates = goes.gates;
    store = goes.store;
    oracle = goes.oracle;
    shards = goes.shards;
    sessions = λ session.
        ([], sym (append-nil (session_log before session)));
  }

  -- a stamp that was made from a known clock is known
  pub stamped : gate.home < 8 → (clock : Clock) → IsKnown before clock → stamps_by deed ≡ next_stamp gate.home clock ∷ []
      → IsKnown after (clock_after_tick gate.home clock)
  stamped small clock known made =
      let p : Stamp → Bool = λ (s : Stamp). nat_eq s.clock.epoch clock.epoch in
      let e = entry_by author deed in
      let f : GateEntry → List Stamp = λ (x : GateEntry). stamps_by x.deed in
      let stamps : stamps_of (gate.log ++ e ∷ []) ≡ stamps_of gate.log ++ next_stamp gate.home clock ∷ [] = flat_push f gate.log e ∙ ap
      (λ (l : List Stamp). stamps_of gate.log ++ l) made in
      let passes : p (next_stamp gate.home clock) ≡ true = eq-eqb clock.epoch clock.epoch refl in
      let one : ticks_of clock.epoch (gate.log ++ e ∷ []) ≡ ticks_of clock.epoch gate.log + 1 =
      ap (count_by p) stamps ∙ (count_push p (stamps_of gate.log) (next_stamp gate.home clock) ∙ ap
      (λ (b : Bool). count_by p (stamps_of gate.log) + cond b 1 0) passes) in
      laws.ticked some_script before after goes_on gate.home small clock known
      (ap (ticks_of clock.epoch) own_after ∙ (one ∙ ap (λ (l : List GateEntry). ticks_of clock.epoch l + 1) (sym own_before)))

  module _ (rules : IsGateLog gate.home gate.shards (gate.log ++ entry_by author deed ∷ [])) (hears : HearsAs gate.home gate.log deed) where
    at_gate : (P : List GateEntry → Type 0) (k : ℕ) → (k ≡ gate.home → P (gate_log after gate.home)) → P (gate_log before k) → P (gate_log after k)
    at_gate P k here there = dite (ℕ_discrete k gate.home)
        (λ e. subst (λ (j : ℕ). P (gate_log after j)) (sym e) (here e))
        (λ other. subst P (elsewhere gate.home gate.log (map seen_by_note notes.gates.items) (seen_by_note notes.store) (map seen_by_note notes.shards.items) k other
        ∙ sym (elsewhere gate.home (gate.log ++ entry_by author deed ∷ []) (map seen_by_note notes.gates.items) (seen_by_note notes.store)
        (map seen_by_note notes.shards.items) k other)) there)

    legal : AreLegal gate.gates gate.shards after
    legal = record {
      gate_logs = λ k. at_gate (IsGateLog k gate.shards) k (λ e. subst (λ (j : ℕ). IsGateLog j gate.shards (gate_log after gate.home)) (sym e)
          (subst (IsGateLog gate.home gate.shards) (sym own_after) rules)) (kept.legal.gate_logs k);
      hears = λ k. at_gate (HearsNoMore k) k (λ e. subst (λ (j : ℕ). HearsNoMore j (gate_log after gate.home)) (sym e)
          (subst (HearsNoMore gate.home) (sym own_after)
          (laws.hears gate.home gate.log (entry_by author deed) (subst (HearsNoMore gate.home) own_before (kept.legal.hears gate.home)) hears)))
          (kept.legal.hears k);
      store_log = kept.legal.store_log;
      oracle_log = kept.legal.oracle_log;
      shard_logs = kept.legal.shard_logs;
    }

    -- what was seen before stays
    refers_still : GateRefersAs before gate.shards gate.log author deed → GateRefersAs after gate.shards gate.log author deed
    refers_still refers = laws.stays gate.gates gate.shards before after goes.gates goes.store goes.shards legal.shard_logs gate.log author deed refers

    new_one : GateRefersAs after gate.shards gate.log author deed
        → (front : List GateEntry) (entry : GateEntry) (rest : List GateEntry) → gate_log after gate.home ≡ front ++ entry ∷ rest
        → length (gate_log before gate.home) ≤ length front → GateRefersAs after gate.shards front entry.author entry.deed
    new_one refers front entry rest at long =
        let L : List GateEntry → ℕ = λ l. length l in
        let is : gate.log ++ entry_by author deed ∷ [] ≡ front ++ entry ∷ rest = sym own_after ∙ at in
        elim (split_last gate.log front rest (entry_by author deed) entry is) [
          | inl last ↦
              subst (λ (z : List GateEntry × GateEntry). GateRefersAs after gate.shards z.0 z.1.author z.1.deed) (λ i. (last.0 i, last.1 i)) refers
          | inr early ↦ absurd (omega (arith, long, ap L own_before, ap L early.1, length-append front (entry ∷ early.0)))
        ]

    kept_more : GateRefersAs after gate.shards gate.log author deed → GateIsKept more notes
    kept_more refers = record {
      home = kept.home;
      gates = kept.gates;
      shards = kept.shards;
      legal = legal;
      refers = laws.notes gate.gates gate.shards before after goes.gates goes.store goes.shards legal.shard_logs gate.home kept.refers (new_one refers);
    }

-- Answers of the gatekeeper's calls

module _ (laws : LawsForGateNotes) (old new : GateView) (notes : GateNotes) (kept : GateIsKept old notes) (author : ℕ) (deed : GateDeed)
    (adds : Adds old new author deed)
    (rules : IsGateLog new.home new.shards new.log) (hears : HearsAs old.home old.log deed) where
  its_rules : IsGateLog old.home old.shards (old.log ++ entry_by author deed ∷ [])
  its_rules = subst (λ (v : GateView). IsGateLog v.home v.shards v.log) (is_added old new author deed adds) rules

  -- with an entry that refers to what was seen, the new entry with it
  pub kept_after : GateRefersAs (seen_of_gate (added old author deed new.spare) notes) old.shards old.log author deed → GateIsKept new notes
  kept_after refers = subst (λ (v : GateView). GateIsKept v notes) (sym (is_added old new author deed adds))
      (kept_more laws old notes kept author deed new.spare its_rules hears refers)

  -- with an entry that refers to what was seen
  pub kept_then : GateRefersAs (seen_of_gate old notes) old.shards old.log author deed → GateIsKept new notes
  kept_then refers = kept_after (refers_still laws old notes kept author deed new.spare its_rules hears refers)

-- a gatekeeper that stayed as it was has still seen what its log refers to
pub kept_still : (old new : GateView) (notes : GateNotes) → GateIsKept old notes → new ≡ old → GateIsKept new notes
kept_still old new notes kept same = subst (λ (v : GateView). GateIsKept v notes) (sym same) kept

-- Begins

-- the deed of a begin: it is an event with this stamp, which refers to what the stamp counts
pub record IsBegin (deed : Stamp → GateDeed) : Type 0 where
  pub event : (stamp : Stamp) → stamps_by (deed stamp) ≡ stamp ∷ []
  pub refers : (account : Account) (shards : ℕ) (log : List GateEntry) (author : ℕ) (stamp : Stamp) → IsKnown account stamp.clock → GateRefersAs
      account shards log author (deed stamp)
  pub hears : (home : ℕ) (log : List GateEntry) (stamp : Stamp) → HearsAs home log (deed stamp)

module _ (laws : LawsForGateNotes) (old new : GateView) (notes : GateNotes) (kept : GateIsKept old notes) (small : old.home < 8)
    (rules : IsGateLog old.home old.shards old.log) (author : ℕ)
    (deed : Stamp → GateDeed) (is_begin : IsBegin deed) (last : Option Stamp) (its : ForSome last
    (λ (heard : Stamp). IsKnown (seen_of_gate old notes) heard.clock))
    (rules_now : IsGateLog new.home new.shards new.log) where
  abbrev now : Stamp
  now = begun_stamp old.home (clock_of old.home old.log) last

  stamp_known : (stamp : Stamp) → stamp ≡ now → (spare : ℕ) → IsKnown (seen_of_gate (added old author (deed stamp) spare) notes) stamp.clock
  stamp_known stamp is spare =
      let clock = clock_after_last old.home (clock_of old.home old.log) last in
      let known = last_known laws old notes kept small last its in
      let made : stamps_by (deed stamp) ≡ next_stamp old.home clock ∷ [] = is_begin.event stamp ∙ ap (λ (s : Stamp). s ∷ []) is in
      subst (λ (c : Clock). IsKnown (seen_of_gate (added old author (deed stamp) spare) notes) c) (sym (ap (λ (s : Stamp). s.clock) is))
      (stamped laws old notes kept author (deed stamp) spare small clock known made)

  -- after a begin, and after one that was refused, the gatekeeper keeps what its type keeps
  pub kept_begun : {F : Type 0} (r : Result Stamp F) → IfOk r (λ (stamp : Stamp). stamp ≡ now) → IfOk r
      (λ (stamp : Stamp). Adds old new author (deed stamp)) → OnErr r (new ≡ old) → GateIsKept new notes
  kept_begun (Ok stamp) is adds refused =
      kept_after laws old new notes kept author (deed stamp) adds rules_now (is_begin.hears old.home old.log stamp)
      (is_begin.refers (seen_of_gate (added old author (deed stamp) new.spare) notes) old.shards old.log author stamp (stamp_known stamp is new.spare))
  kept_begun (Err fault) is adds refused = kept_still old new notes kept refused

  -- and all that the stamp of the begin counts was seen
  pub known_begun : {F : Type 0} (r : Result Stamp F) → IfOk r (λ (stamp : Stamp). stamp ≡ now) → IfOk r
      (λ (stamp : Stamp). Adds old new author (deed stamp))
      → IfOk r (λ (stamp : Stamp). IsKnown (seen_of_gate new notes) stamp.clock)
  known_begun (Ok stamp) is adds =
      subst (λ (v : GateView). IsKnown (seen_of_gate v notes) stamp.clock) (sym (is_added old new author (deed stamp) adds)) (stamp_known stamp is new.spare)
  known_begun (Err fault) is adds = tt

  -- the stamp that was heard is before it
  pub after_last : {F : Type 0} (r : Result Stamp F) → IfOk r (λ (stamp : Stamp). ForSome last (λ (heard : Stamp).
      IsTrue (counts_no_more old.home (clock_of old.home old.log) heard.clock) → IsTrue (stamp_before heard stamp)))
      → IfOk r (λ (stamp : Stamp). ForSome last (λ (heard : Stamp). IsTrue (stamp_before heard stamp)))
  after_last (Ok stamp) so = λ heard e. so heard e (hears_known laws old notes kept small rules heard.clock (its heard e))
  after_last (Err fault) so = tt
