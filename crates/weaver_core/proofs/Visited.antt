-- After a visit, a walk that has read this one more state has read all that the logs say, and no others.
-- Used by VisitAfter and crate weaver_hands.
use Rattle.std.proofs.Common.{◌≡◌, ℕ, ◌<◌, Bool, true, false, not, List, [], ◌∷◌, ◌++◌, length, take, Some, refl, sym, ap, subst, ◌∙◌}
use Rattle.std.specs.Prelude.{◌||◌, slice_set, if◌then◌else◌}
use Rattle.std.specs.List.{flat_map}
use Rattle.std.specs.Map.{keys_of}
use Rattle.std.proofs.lemmas.Bool.{both_ways, not-true}
use Rattle.weave_data.proofs.Members.{find_has}
use Rattle.weave_data.specs.Names.{one_name, same_name}
use Rattle.weave_data.specs.declared.name.Name.{Name}
use Rattle.vector_stamp.specs.declared.clock.Stamp.{Stamp}
use Rattle.graph_ops.specs.Mentions.{is_among}
use Rattle.graph_ops.specs.Operations.{State}
use Rattle.program_defs.specs.Agreement.{AreSameReads}
use Rattle.program_defs.specs.Visits.{graph_read, next_visit, visits_to}
use Rattle.program_defs.specs.declared.program.Program.{Program}
use Rattle.program_defs.specs.declared.script.Request.{Request}
use Rattle.program_defs.specs.declared.script.Script.{Script}
use Rattle.weave_entries.specs.declared.shard_log.ShardEntry.{ShardEntry}
use Rattle.weave_entries.specs.declared.shard_log.ShardDeed.TheVariants.{Visited as VisitedDeed}
use Rattle.weave_entries.specs.ShardReplay.{reads_in, state_of_updates, updates_of}
use Rattle.weave_account.specs.declared.account.Account.{Account}
use Rattle.weave_account.specs.Account.{reads_of, shard_log}
use Rattle.weave_account.specs.IsAccount.{IsAccount}
use Rattle.step_rules.proofs.SetLists.{flat-more}
use Rattle.step_rules.proofs.VisitLogs.{reads-more}
use Rattle.weaver_core.specs.Visiting.{HasReadMore}
use Rattle.weaver_core.specs.Walks.{HasReadAll}
use Rattle.weaver_core.specs.declared.walks.Running.{Running}
use Rattle.program_defs.proofs.GoingOn.{key-added}

-- One more read, in whatever order

state-added : (front back : List (Name × State)) (v : Name) (state : State) (w : Name) → is_among (keys_of (front ++ back)) v ≡ false → graph_read (front ++ (v, state) ∷ back) w ≡ (if same_name v w then state else graph_read (front ++ back) w)
state-added [] back v state w new = refl
state-added (read ∷ front) back v state w new =
    ap (λ s. if same_name read.0 w then read.1 else s) (state-added front back v state w (later (same_name read.0 v) (is_among (keys_of (front ++ back)) v) new))
    ∙ by (same_name read.0 w) (same_name v w) refl refl
  where
    later : (a b : Bool) → (a || b) ≡ false → b ≡ false
    later true b h = absurd (let e : true ≡ false = h in cc)
    later false b h = h

    first : (a b : Bool) → (a || b) ≡ false → a ≡ false
    first true b h = absurd (let e : true ≡ false = h in cc)
    first false b h = refl

    by : (a b : Bool) → same_name read.0 w ≡ a → same_name v w ≡ b
        → (if a then read.1 else (if b then state else graph_read (front ++ back) w)) ≡ (if b then state else (if a then read.1 else graph_read (front ++ back) w))
    by true true ea eb =
        let same : read.0 ≡ v = one_name read.0 w ea ∙ sym (one_name v w eb) in
        absurd (both_ways (same_name read.0 v) (first (same_name read.0 v) (is_among (keys_of (front ++ back)) v) new) (ap (same_name read.0) (one_name v w eb) ∙ ea))
    by true false ea eb = refl
    by false true ea eb = refl
    by false false ea eb = refl

-- reads that are the same stay so if both gain one of a vertex not read yet, in front or at any place
pub reads-added : (reads front back : List (Name × State)) (v : Name) (state : State) → is_among (keys_of (front ++ back)) v ≡ false → AreSameReads reads (front ++ back) → AreSameReads ((v, state) ∷ reads) (front ++ (v, state) ∷ back)
reads-added reads front back v state new same = record {
  vertices = λ w. ap (λ b. same_name v w || b) (same.vertices w) ∙ sym (key-added front back v state w);
  states = λ w. ap (λ s. if same_name v w then state else s) (same.states w) ∙ sym (state-added front back v state w new);
}

-- the next vertex was not read
pub next-new : (reads : List (Name × State)) (program : Program) (v : Name) → next_visit reads program ≡ Some v → is_among (keys_of reads) v ≡ false
next-new reads program v next =
    not-true (is_among (keys_of reads) v) (find_has (λ (w : Name). not (is_among (keys_of reads) w)) (visits_to (length reads) (graph_read reads) program) v next).1

-- The program

module _ (script : Script) (account next : Account) (is : IsAccount script account) (is-next : IsAccount script next) (r : ℕ) (request : Request) (program : Program)
    (s k : ℕ) (v : Name) (made : Bool) (stamp : Stamp) (within : s < length account.shards)
    (gates-are : next.gates ≡ account.gates) (shards-are : next.shards ≡ slice_set account.shards s (shard_log account s ++ record { author = 0; deed = VisitedDeed r stamp v k made } ∷ [])) where
  abbrev log : List ShardEntry
  log = shard_log account s

  abbrev state : State
  state = state_of_updates (take k (updates_of v log))

  -- after the visit a walk that has read this one more state has read all that the logs say, and no others
  pub read-more : (running now : Running) → next_visit (reads_of account r) program ≡ Some v → HasReadMore running now v state → HasReadAll running.walk program (reads_of account r) → HasReadAll now.walk program (reads_of next r)
  read-more running now next-is more has =
      let set = flat-more (reads_in r) account.shards s (log ++ record { author = 0; deed = VisitedDeed r stamp v k made } ∷ []) ((v, state) ∷ []) within (reads-more log r stamp v k made) in
      record {
        program_is = more.program_is ∙ has.program_is;
        reads = (v, state) ∷ has.reads;
        has_read = more.reads has.reads has.has_read;
        same = subst (λ (reads : List (Name × State)). AreSameReads ((v, state) ∷ has.reads) reads) (sym (ap (flat_map (reads_in r)) shards-are ∙ set.now))
            (reads-added has.reads set.front set.back v state (ap (λ (reads : List (Name × State)). is_among (keys_of reads) v) (sym set.was) ∙ next-new (reads_of account r) program v next-is)
            (subst (λ (reads : List (Name × State)). AreSameReads has.reads reads) set.was has.same));
      }
