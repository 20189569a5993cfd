-- What a shard's log says entry by entry, and what a call leaves of a shard.
-- Used by `+is_all_kept`, `after_message`, `apply`, `arrive` and `visit_for`.
use Rattle.std.proofs.Common.{◌≡◌, ℕ, true, false, List, [], ◌∷◌, ◌++◌, Result, Ok, Err, OnErr, refl, sym, ap, ◌∙◌}
use Rattle.std.specs.Prelude.{Bool, OnOk, if◌then◌else◌}
use Rattle.weave_data.specs.Names.{same_name}
use Rattle.weave_data.specs.declared.name.Name.{Name}
use Rattle.graph_ops.specs.declared.part.Part.{Part}
use Rattle.graph_ops.specs.Operations.{State}
use Rattle.graph_ops.specs.VertexOps.{state_after_ops}
use Rattle.weave_entries.specs.declared.message.Message.{Message}
use Rattle.weave_entries.specs.declared.shard_log.ShardEntry.{ShardEntry}
use Rattle.weave_entries.specs.declared.shard_log.ShardDeed.{ShardDeed}
use Rattle.weave_entries.specs.ShardReplay.{dropped_after, dropped_from, updates_in}
use Rattle.shard_node.specs.Shards.{ShardView, AddsEntry}
use Rattle.machine_tests.specs.LogReading.{state_from}

-- The state of a vertex

-- of the parts that are left the first one is next
module _ (v : Name) (message : Message) (state : State) (part : Part) (left rest : List Part) (end : State) (next : left ≡ part ∷ rest) (known : state_from state (updates_in v (record message { parts = left })) ≡ end) where
  both : state_from state (updates_in v (record message { parts = part ∷ rest })) ≡ end
  both = ap (λ (some : List Part). state_from state (updates_in v (record message { parts = some }))) (sym next) ∙ known

  -- if it is of the vertex, it is an update before those of the rest
  pub part-of : (now : State) → now ≡ state_after_ops part.ops state → same_name part.vertex v ≡ true → state_from now (updates_in v (record message { parts = rest })) ≡ end
  part-of now after is =
      let first : state_from (state_after_ops part.ops state) (updates_in v (record message { parts = rest })) ≡ state_from state (updates_in v (record message { parts = part ∷ rest })) = rw is refl in
      ap (λ (s : State). state_from s (updates_in v (record message { parts = rest }))) after ∙ first ∙ both

  -- if it isn't, it is none
  pub part-else : same_name part.vertex v ≡ false → state_from state (updates_in v (record message { parts = rest })) ≡ end
  part-else is =
      let none : state_from state (updates_in v (record message { parts = rest })) ≡ state_from state (updates_in v (record message { parts = part ∷ rest })) = rw is refl in
      none ∙ both

-- What was dropped

-- if nothing is dropped by the first entry and by the others, nothing is
pub none_dropped-cons : (entry : ShardEntry) (others log : List ShardEntry) → log ≡ entry ∷ others → ((v : Name) (before : List ShardEntry) (dropped : ℕ) → dropped_after v before entry.deed dropped ≡ dropped) → ((v : Name) (before : List ShardEntry) → dropped_from v before others 0 ≡ 0) → (v : Name) (before : List ShardEntry) → dropped_from v before log 0 ≡ 0
none_dropped-cons entry others log is stays rest v before =
    ap (λ (l : List ShardEntry). dropped_from v before l 0) is ∙ ap (λ n. dropped_from v (before ++ entry ∷ []) others n) (stays v before 0) ∙ rest v (before ++ entry ∷ [])

-- The number of gatekeepers

-- a call that adds an entry, or changes nothing if it fails, leaves the number of gatekeepers
pub gates-stay : {A E : Type 0} (old new : ShardView) (author : ℕ) (deed : ShardDeed) (result : Result A E) → OnOk result (AddsEntry old new author deed) → OnErr result (new ≡ old) → new.gates ≡ old.gates
gates-stay old new author deed (Ok answer) adds same = adds.gates
gates-stay old new author deed (Err fault) adds same = ap (λ (shard : ShardView). shard.gates) same

-- and so does a message that arrives, kept or repeated
pub gates-arrived : {A : Type 0} (kept repeated arrival : A) (there : Bool) (old new : ShardView) (author : ℕ) (deed : ShardDeed) → arrival ≡ (if there then repeated else kept) → (arrival ≡ kept → AddsEntry old new author deed) → (arrival ≡ repeated → new ≡ old) → new.gates ≡ old.gates
gates-arrived kept repeated arrival true old new author deed is adds same = ap (λ (shard : ShardView). shard.gates) (same is)
gates-arrived kept repeated arrival false old new author deed is adds same = (adds is).gates
