-- What a hand that only carries leaves as it was: what it began, sent, read and finished.
-- Used by `go_gate`, `go_shard`, `hands_go_on`, Kept, ReadOn and crate workers_account.
use Rattle.std.proofs.Common.{◌≡◌, ◌≢◌, inl, inr, ℕ, ◌==◌, List, [], ◌∷◌, ◌++◌, Contains, refl, sym, ap, ◌∙◌, subst}
use Rattle.std.specs.Prelude.{IsTrue, filter}
use Rattle.std.specs.List.{flat_map}
use Rattle.std.proofs.lemmas.List.{append-nil}
use Rattle.std.proofs.lemmas.List.Concat.{flat_map-append}
use Rattle.std.proofs.lemmas.List.Elements.{Contains-append_cases}
use Rattle.weave_data.proofs.Members.{has_head, has_tail}
use Rattle.vector_stamp.specs.declared.clock.Stamp.{Stamp}
use Rattle.weave_entries.specs.declared.gate_log.GateEntry.{GateEntry}
use Rattle.weave_entries.specs.declared.gate_log.GateDeed.{GateDeed}
use Rattle.weave_entries.specs.declared.gate_log.GateDeed.TheVariants.{BeganTx, BeganProgram, Sent, Nop, Heard, Raised, Finished}
use Rattle.weave_entries.specs.declared.shard_log.ShardEntry.{ShardEntry}
use Rattle.weave_entries.specs.declared.shard_log.ShardDeed.{ShardDeed}
use Rattle.weave_entries.specs.declared.shard_log.ShardDeed.TheVariants.{Arrived, Applied, Visited, Collected}
use Rattle.weave_entries.specs.GateReplay.{BegunRequest, begun_by, begun_in, tx_by}
use Rattle.weave_entries.specs.ShardReplay.{Visit, visit_by}
use Rattle.weave_account.specs.Account.{gate_log, shard_log}
use Rattle.weave_account.specs.GoesOn.{visits_by}
use Rattle.weaver_locks.specs.declared.hand.Hand.{Hand}
use Rattle.weaver_locks.specs.declared.shared.Shared.{Shared}
use Rattle.weaver_locks.specs.Following.{HasNotBegun, MayHear}
use Rattle.weaver_locks.specs.Hands.{made_by}
use Rattle.weaver_hands.specs.Leaving.{LeavesAlone}
use Rattle.weaver_workers.specs.Carrying.{is_bringing, is_telling, OnlyCarries}
use Rattle.weaver_workers.specs.Keeping.{HasLanded}
use Rattle.weaver_workers.proofs.Landed.{landed-on, LandedIn}

-- Deeds

-- a clock or an empty message begins no transaction
no-tx : (author : ℕ) (deed : GateDeed) → IsTrue (is_telling deed) → tx_by author deed ≡ []
no-tx author (Heard clock) tells = refl
no-tx author (Nop shard number stamp low) tells = refl
no-tx author (BeganTx r stamp) tells = absurd cc
no-tx author (BeganProgram r stamp) tells = refl
no-tx author (Sent r messages) tells = refl
no-tx author (Raised epoch) tells = refl
no-tx author (Finished r) tells = refl

-- nor a program
pub no-begin : (author : ℕ) (deed : GateDeed) → IsTrue (is_telling deed) → begun_by author deed ≡ []
no-begin author (Heard clock) tells = refl
no-begin author (Nop shard number stamp low) tells = refl
no-begin author (BeganTx r stamp) tells = absurd cc
no-begin author (BeganProgram r stamp) tells = absurd cc
no-begin author (Sent r messages) tells = refl
no-begin author (Raised epoch) tells = refl
no-begin author (Finished r) tells = refl

-- and finishes none
no-finish : (deed : GateDeed) (r : ℕ) → IsTrue (is_telling deed) → deed ≢ Finished r
no-finish (Finished q) r tells is = absurd cc
no-finish (Heard clock) r tells is = cc
no-finish (Nop shard number stamp low) r tells is = cc
no-finish (BeganTx q stamp) r tells is = cc
no-finish (BeganProgram q stamp) r tells is = cc
no-finish (Sent q messages) r tells is = cc
no-finish (Raised epoch) r tells is = cc

-- a message that arrives or is processed is no visit
no-visit : (author : ℕ) (deed : ShardDeed) → IsTrue (is_bringing deed) → visit_by author deed ≡ []
no-visit author (Arrived gate number message) brings = refl
no-visit author (Applied gate number) brings = refl
no-visit author (Visited r stamp v updates settled) brings = absurd cc
no-visit author (Collected bound) brings = refl

-- entries that give nothing
nothing : {E A : Type 0} (f : E → List A) (added : List E) → ((entry : E) → Contains added entry → f entry ≡ [])
    → (log : List E) → flat_map f (log ++ added) ≡ flat_map f log
nothing f added none log = flat_map-append f log added ∙ ap (λ l. flat_map f log ++ l) (all f added none) ∙ append-nil (flat_map f log)
  where
    all : {E A : Type 0} (f : E → List A) (added : List E) → ((entry : E) → Contains added entry → f entry ≡ []) → flat_map f added ≡ []
    all f [] none = refl
    all f (entry ∷ added) none =
        ap (λ l. l ++ flat_map f added) (none entry (has_head entry added)) ∙ all f added (λ e h. none e (has_tail entry added e h))

-- Hands

module _ (old new : Hand) (only : OnlyCarries old new) where
  -- the hand began what it had begun
  pub begun-same : (home : ℕ) → begun_in (gate_log (made_by new) home) ≡ begun_in (gate_log (made_by old) home)
  begun-same home =
      let gains = only.gates home in
      ap begun_in gains.log ∙ nothing (λ (e : GateEntry). begun_by e.author e.deed) gains.added
      (λ entry h. no-begin entry.author entry.deed (gains.pass entry h)) (gate_log (made_by old) home)

  -- what the hand had not begun, it has still not begun
  pub unbegun-still : (r : ℕ) → HasNotBegun old r → HasNotBegun new r
  unbegun-still r none home begun h = none home begun (subst (λ (l : List BegunRequest). Contains l begun) (begun-same home) h)

  -- a stamp may still be heard
  pub heard-still : (shared : Shared) (stamp : Stamp) → MayHear shared old stamp → MayHear shared new stamp
  heard-still shared stamp may = record {
    home = may.home;
    begun = may.begun;
    stamp_is = may.stamp_is;
    there = elim may.there [
      | inl mine ↦ inl (subst (λ (l : List BegunRequest). Contains l may.begun) (sym (begun-same may.home)) mine)
      | inr first ↦ inr first
    ];
  }

  -- none of its transactions is in flight
  pub landed-still : HasLanded old → HasLanded new
  landed-still landed home =
      let gains = only.gates home in
      subst (λ (log : List GateEntry). LandedIn log) (sym gains.log)
      (landed-on (gate_log (made_by old) home) gains.added (landed home) (λ entry k. no-tx entry.author entry.deed (gains.pass entry k)))

  -- a hand that only carries leaves each request alone
  pub alone-still : (r : ℕ) → LeavesAlone old new r
  alone-still r = record {
    unvisited = record {
      number = only.number;
      more = only.more;
      visits = λ shard. (let gains = only.shards shard in
          ap (visits_by r) gains.log
          ∙ ap (filter (λ (visit : Visit). visit.request == r)) (nothing (λ (e : ShardEntry). visit_by e.author e.deed) gains.added
          (λ entry h. no-visit entry.author entry.deed (gains.pass entry h)) (shard_log (made_by old) shard)));
    };
    finished = λ home entry h is. (let gains = only.gates home in
        elim (Contains-append_cases (gate_log (made_by old) home) gains.added entry (subst (λ (l : List GateEntry). Contains l entry) gains.log h)) [
          | inl there ↦ there
          | inr now ↦ absurd (no-finish entry.deed _ (gains.pass entry now) is)
        ]);
  }
