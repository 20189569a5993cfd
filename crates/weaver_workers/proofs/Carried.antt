-- A hand that made nothing, or only entries that carry, only carries; and one that only carries twice only carries.
-- Used by `other_calls_only_carry`, Called, Deeds, Going, Nudged, ReadOn and There.
use Rattle.std.proofs.Common.{◌≡◌, ℕ, Bool, true, List, [], ◌∷◌, ◌++◌, length, get_or, set, Contains, inl, inr, refl, sym, ap, ◌∙◌, subst, arith, append_assoc}
use Rattle.std.specs.Prelude.{IsTrue}
use Rattle.std.proofs.lemmas.Bool.{cases_lt, cases_eq}
use Rattle.std.proofs.lemmas.List.{append-nil, get_or_past, get_or-set_same, get_or-set_other, length-set}
use Rattle.std.proofs.lemmas.List.Elements.{Contains-append_cases}
use Rattle.weave_data.proofs.Members.{has_none, only}
use Rattle.weave_entries.specs.declared.gate_log.GateEntry.{GateEntry}
use Rattle.weave_entries.specs.declared.shard_log.ShardEntry.{ShardEntry}
use Rattle.weave_account.specs.declared.account.Account.{Account}
use Rattle.weave_account.specs.Account.{gate_log, shard_log}
use Rattle.seen_logs.proofs.Within.{all-later, itself}
use Rattle.weaver_locks.specs.declared.hand.Hand.{Hand}
use Rattle.weaver_locks.specs.GateHolds.{WasAtGate}
use Rattle.weaver_locks.specs.ShardHolds.{WasAtShard}
use Rattle.weaver_locks.specs.Hands.{made_by, seen_by}
use Rattle.weaver_hands.specs.Leaving.{MadeNone}
use Rattle.weaver_workers.specs.Carrying.{is_bringing, is_telling, Gains, OnlyCarries}

-- Logs

module _ {E : Type 0} (passes : E → Bool) where
  -- a log that stays as it is has gained only entries that pass, namely none
  pub gains-none : (log : List E) → Gains passes log log
  gains-none log = record { added = []; log = sym (append-nil log); pass = λ entry h. absurd (has_none entry h) }

  -- a log that gains only entries that pass, twice, has gained only such entries
  pub gains-through : (old mid new : List E) → Gains passes old mid → Gains passes mid new → Gains passes old new
  gains-through old mid new first second = record {
    added = first.added ++ second.added;
    log = second.log ∙ ap (λ l. l ++ second.added) first.log ∙ append_assoc old first.added second.added;
    pass = λ entry h. elim (Contains-append_cases first.added second.added entry h) [
      | inl one ↦ first.pass entry one
      | inr one ↦ second.pass entry one
    ];
  }

  -- one log of a row gained these entries
  pub gains-at : (logs : List (List E)) (place at : ℕ) (added : List E)
      → ((entry : E) → Contains added entry → IsTrue (passes entry))
      → Gains passes (get_or logs at []) (get_or (set logs place (get_or logs place [] ++ added)) at [])
  gains-at logs place at added pass =
      let next = get_or logs place [] ++ added in
      elim (cases_eq at place) [
        | inr ne ↦ subst (Gains passes (get_or logs at [])) (sym (get_or-set_other logs place at next [] ne)) (gains-none _)
        | inl same ↦ elim (cases_lt place (length logs)) [
          | inl low ↦ (let here = ap (λ n. get_or (set logs place next) n []) same ∙ get_or-set_same logs place next [] low in
              record { added = added; log = here ∙ ap (λ n. get_or logs n [] ++ added) (sym same); pass = pass })
          | inr high ↦ (let none = get_or_past logs at [] (omega (arith, same, high)) in
              let long = length-set logs place next in
              let still = get_or_past (set logs place next) at [] (omega (arith, same, high, long)) in
              subst (Gains passes (get_or logs at [])) (none ∙ sym still) (gains-none _))
        ]
      ]

-- Hands

-- a hand that does nothing only carries
pub carries-none : (hand : Hand) → OnlyCarries hand hand
carries-none hand = record {
  number = refl;
  more = itself (seen_by hand);
  gates = λ home. gains-none (λ (e : GateEntry). is_telling e.deed) _;
  store = refl;
  oracle = refl;
  shards = λ shard. gains-none (λ (e : ShardEntry). is_bringing e.deed) _;
}

-- a hand that only carries twice only carries
pub carries-through : (old mid new : Hand) → OnlyCarries old mid → OnlyCarries mid new → OnlyCarries old new
carries-through old mid new first second = record {
  number = second.number ∙ first.number;
  more = all-later (seen_by old) (seen_by mid) (seen_by new) first.more second.more;
  gates = λ home. gains-through (λ (e : GateEntry). is_telling e.deed) _ _ _ (first.gates home) (second.gates home);
  store = second.store ∙ first.store;
  oracle = second.oracle ∙ first.oracle;
  shards = λ shard. gains-through (λ (e : ShardEntry). is_bringing e.deed) _ _ _ (first.shards shard) (second.shards shard);
}

-- a hand that made nothing only carries
pub made-none : (old new : Hand) → MadeNone old new → OnlyCarries old new
made-none old new none = record {
  number = none.number;
  more = none.more;
  gates = λ home. subst (λ (a : Account). Gains (λ (e : GateEntry). is_telling e.deed) (gate_log (made_by old) home) (gate_log a home))
      (sym none.made) (gains-none (λ (e : GateEntry). is_telling e.deed) _);
  store = ap (λ (a : Account). a.store) none.made;
  oracle = ap (λ (a : Account). a.oracle) none.made;
  shards = λ shard. subst (λ (a : Account). Gains (λ (e : ShardEntry). is_bringing e.deed) (shard_log (made_by old) shard) (shard_log a shard))
      (sym none.made) (gains-none (λ (e : ShardEntry). is_bringing e.deed) _);
}

-- entries of a gatekeeper that hear a clock or send an empty message
pub at-gate : (shards : ℕ) (old new : Hand) (gate : ℕ) (before added : List GateEntry) → WasAtGate shards old new gate before added
    → ((entry : GateEntry) → Contains added entry → IsTrue (is_telling entry.deed)) → OnlyCarries old new
at-gate shards old new gate before added was pass = record {
  number = was.number;
  more = was.more;
  gates = λ home. subst (λ (a : Account). Gains (λ (e : GateEntry). is_telling e.deed) (gate_log (made_by old) home) (gate_log a home))
      (sym was.made) (gains-at (λ (e : GateEntry). is_telling e.deed) (made_by old).gates gate home added pass);
  store = ap (λ (a : Account). a.store) was.made;
  oracle = ap (λ (a : Account). a.oracle) was.made;
  shards = λ shard. subst (λ (a : Account). Gains (λ (e : ShardEntry). is_bringing e.deed) (shard_log (made_by old) shard) (shard_log a shard))
      (sym was.made) (gains-none (λ (e : ShardEntry). is_bringing e.deed) _);
}

-- a hand that adds only entries that bring, at a shard, only carries
pub at-shard : (shards : ℕ) (old new : Hand) (shard : ℕ) (before added : List ShardEntry) → WasAtShard shards old new shard before added []
    → ((entry : ShardEntry) → Contains added entry → IsTrue (is_bringing entry.deed)) → OnlyCarries old new
at-shard shards old new shard before added was pass = record {
  number = was.number;
  more = was.more;
  gates = λ home. subst (λ (a : Account). Gains (λ (e : GateEntry). is_telling e.deed) (gate_log (made_by old) home) (gate_log a home))
      (sym was.made) (gains-none (λ (e : GateEntry). is_telling e.deed) _);
  store = ap (λ (a : Account). a.store) was.made;
  oracle = ap (λ (a : Account). a.oracle) was.made ∙ append-nil (made_by old).oracle;
  shards = λ at. subst (λ (a : Account). Gains (λ (e : ShardEntry). is_bringing e.deed) (shard_log (made_by old) at) (shard_log a at))
      (sym was.made) (gains-at (λ (e : ShardEntry). is_bringing e.deed) (made_by old).shards shard at added pass);
}

-- a hand that was at a gatekeeper without an entry only carries
pub nothing-at-gate : (shards : ℕ) (old new : Hand) (gate : ℕ) (before : List GateEntry) → WasAtGate shards old new gate before []
    → OnlyCarries old new
nothing-at-gate shards old new gate before was = at-gate shards old new gate before [] was (λ entry h. absurd (has_none entry h))

-- a hand that was at a shard without an entry only carries
pub nothing-at-shard : (shards : ℕ) (old new : Hand) (shard : ℕ) (before : List ShardEntry)
    → WasAtShard shards old new shard before [] [] → OnlyCarries old new
nothing-at-shard shards old new shard before was =
    at-shard shards old new shard before [] was (λ entry h. absurd (has_none entry h))

-- if an entry passes a test, so does each of the list with only that entry
pub one-passes : {E : Type 0} (passes : E → Bool) (one : E) → passes one ≡ true
    → (entry : E) → Contains (one ∷ []) entry → IsTrue (passes entry)
one-passes {E = E} passes one pass entry h = subst (λ (e : E). IsTrue (passes e)) (only one entry h) pass
