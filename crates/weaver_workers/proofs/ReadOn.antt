-- A worker that reads for its program goes on with its session. Also: the home of a running program is a gatekeeper,
-- and facts on answers.
-- Used by `go_client`, `go_session`, `look_on`, `read_all`, `read_next`, `read_or_nudge`, `try_change`, `try_next`,
-- Deeds, StillKept and crate workers_account.
use Rattle.std.proofs.Common.{◌≡◌, inl, inr, ℕ, ◌<◌, ◌≤◌, Bool, true, false, List, [], drop, length, map, Contains, Option, Some, Result, Ok, Err, refl, sym, ap, ◌∙◌, subst}
use Rattle.std.specs.Prelude.{nat_lt, if◌then◌else◌, IfOk, None}
use Rattle.std.proofs.Math.Seq.{drop-nil}
use Rattle.std.proofs.lemmas.Bool.{cases_lt}
use Rattle.std.proofs.lemmas.List.{append-nil, get_or_past, length-map}
use Rattle.std.proofs.lemmas.Option.{none-some, same_Some}
use Rattle.weave_data.proofs.Members.{has_none}
use Rattle.weave_data.specs.declared.name.Name.{Name}
use Rattle.graph_ops.specs.Operations.{State}
use Rattle.vector_stamp.specs.declared.clock.Stamp.{Stamp}
use Rattle.program_defs.specs.declared.script.Script.{Script}
use Rattle.program_defs.specs.Visits.{next_visit}
use Rattle.path_program.specs.AnyPrograms.{any_of}
use Rattle.weave_entries.specs.declared.gate_log.GateDeed.{GateDeed}
use Rattle.weave_entries.specs.declared.gate_log.GateEntry.{GateEntry}
use Rattle.weave_entries.specs.declared.shard_log.ShardEntry.{ShardEntry}
use Rattle.weave_entries.specs.GateReplay.{BegunRequest, programs_of}
use Rattle.weave_entries.specs.ShardReplay.{first_unready}
use Rattle.weave_account.specs.Account.{gate_log}
use Rattle.chronicle.specs.declared.pass.Pass.{Pass}
use Rattle.chronicle.specs.Passes.{seen_by_pass}
use Rattle.weaver_core.specs.declared.client.Client.{Client}
use Rattle.weaver_core.specs.declared.walks.Running.{Running}
use Rattle.weaver_locks.specs.declared.hand.Hand.{Hand}
use Rattle.weaver_locks.specs.declared.shared.Shared.{Shared}
use Rattle.weaver_locks.specs.Hands.{hand_number, seen_by, IsHand}
use Rattle.weaver_locks.specs.Locks.{gate_count, shard_count, start_of}
use Rattle.weaver_hands.specs.Programs.{own_reads, IsRunning}
use Rattle.weaver_workers.specs.declared.reading.Read.{Read}
use Rattle.weaver_workers.specs.declared.reading.Read.TheVariants.{Over, More, NotYet}
use Rattle.weaver_workers.specs.Carrying.{OnlyCarries}
use Rattle.weaver_workers.specs.declared.ended.Ended.{Ended}
use Rattle.weaver_workers.specs.declared.ended.Ended.TheVariants as ended
use Rattle.weaver_workers.specs.declared.tried.Tried.{Tried}
use Rattle.weaver_workers.specs.declared.tried.Tried.TheVariants as tried
use Rattle.weaver_workers.specs.ClientWork.{most_busy_turns, DoesCarry, DoesVisit, WorkerEndsAs, RunsSameProgram, Stand}
use Rattle.weaver_workers.specs.KeepLaws.{KeepLaws}
use Rattle.weaver_workers.specs.Turning.{busy_turns, ended_after, stand, KeepsOn, ReadAs, RunsIn, RunsRequestBelow, TriedAs, ReadsNextVertex, WasBusyForNext}
use Rattle.weaver_workers.proofs.BusyTurns.{busy-stop}
use Rattle.weaver_workers.proofs.Carried.{carries-none, nothing-at-shard}
use Rattle.weaver_workers.proofs.Going.{goes-carry, goes-none, goes-one, goes-then, same-walk}
use Rattle.weaver_workers.proofs.Kept.{visit-keeps}
use Rattle.weaver_workers.proofs.OnlyCarried.{alone-still}

-- the home of a running program is a gatekeeper
pub home-there : (shared : Shared) (hand : Hand) (running : Running) → IsHand shared hand → IsRunning shared hand running
    → running.stamp.home < gate_count shared
home-there shared hand running is runs = elim (cases_lt running.stamp.home (gate_count shared)) [
  | inl low ↦ low
  | inr high ↦ absurd (has_none one (subst (λ (l : List GateEntry). Contains (programs_of l) one)
      (ap (drop (length started)) (none high) ∙ drop-nil (length started)) runs.begun))
]
  where
    started : List GateEntry
    started = gate_log (start_of shared) running.stamp.home

    one : BegunRequest
    one = record { author = hand_number hand; request = running.request; stamp = running.stamp }

    none : gate_count shared ≤ running.stamp.home → gate_log (seen_by hand) running.stamp.home ≡ []
    none high = get_or_past (seen_by hand).gates running.stamp.home []
        (subst (λ (n : ℕ). n ≤ running.stamp.home) (sym (length-map (map (λ (p : Pass GateDeed). seen_by_pass p) hand.gates.items) _ ∙ length-map hand.gates.items (λ (p : Pass GateDeed). seen_by_pass p) ∙ is.gates)) high)

module _ (laws : KeepLaws) (shared : Shared) where
  -- the client goes on running its program while the hand only carries
  pub runs-on : (old new : Hand) (client : Client) → IsHand shared old → IsHand shared new → OnlyCarries old new
      → RunsIn shared (stand old client) → RunsIn shared (stand new client)
  runs-on old new client was is only runs = record {
    running = runs.running;
    running_is = runs.running_is;
    runs = laws.runs shared old new runs.running was is (alone-still old new only runs.running.request) runs.runs;
  }

  -- a hand that only carries goes on with its session
  pub carries-keep-on : (old new : Stand) → IsHand shared new.hand → DoesCarry old new → KeepsOn shared old new
  carries-keep-on old new is does script number upto keeps = goes-carry shared script number upto laws old new keeps is does

  -- a hand that only carries goes on with its session while the client is unchanged
  pub hand-carries : (old new : Hand) (client : Client) → IsHand shared new → OnlyCarries old new
      → KeepsOn shared (stand old client) (stand new client)
  hand-carries old new client is only = carries-keep-on (stand old client) (stand new client) is (record {
    only = only;
    same = record { session = refl; log = refl; replies = refl };
    running = same-walk client.running;
  })

  -- a worker that goes on with its session, and then goes on once more, goes on in all
  pub keeps-on-then : (old mid new : Stand) → KeepsOn shared old mid → KeepsOn shared mid new → KeepsOn shared old new
  keeps-on-then old mid new first second script number upto keeps =
      let one = first script number upto keeps in
      goes-then shared script number upto old mid new one (second script number upto one.keeps)

  -- a worker that does nothing goes on with its session
  pub keeps-on-none : (at : Stand) → KeepsOn shared at at
  keeps-on-none at script number upto keeps = goes-none shared script number upto at keeps

  module _ (client : Client) (old new : Hand) (was is : Running) (running_is : client.running ≡ Some was) (is_hand : IsHand shared new)
      (runs : IsRunning shared new is) where
    abbrev after : Client
    after = record client { running = Some is }

    walks-with : RunsSameProgram (Some was) (Some is) → OnlyCarries old new → KeepsOn shared (stand old client) (stand new after)
    walks-with same only = carries-keep-on (stand old client) (stand new after) is_hand (record {
      only = only;
      same = record { session = refl; log = refl; replies = refl };
      running = subst (λ (o : Option Running). RunsSameProgram o (Some is)) (sym running_is) same;
    })

    -- after a read, or none, the worker goes on
    pub read-goes : (read : Read) → ReadsNextVertex (gate_count shared) (shard_count shared) old new was is read
        → KeepsOn shared (stand old client) (stand new after)
    read-goes Over did =
        walks-with (subst (λ (r : Running). RunsSameProgram (Some was) (Some r)) (sym did.0.1) (same-walk (Some was)))
        (subst (λ (h : Hand). OnlyCarries old h) (sym did.0.0) (carries-none old))
    read-goes More visits = λ script number upto keeps.
        let does : DoesVisit shared (stand old client) (stand new after) = record {
          before = was;
          before_is = running_is;
          after = is;
          after_is = refl;
          visits = visits;
          same = record { session = refl; log = refl; replies = refl };
        } in
        goes-one shared script number upto (stand old client) (stand new after) (inr (inr (inl does)))
        (visit-keeps laws shared script number (stand old client) (stand new after) keeps is_hand does runs)
    read-goes (NotYet shard gate) found =
        walks-with found.still
        (nothing-at-shard (shard_count shared) old new shard found.visits.before found.visits.was)

    -- a read of the next vertex answers what it found
    pub read-as : IsHand shared old → (read : Read) → ReadsNextVertex (gate_count shared) (shard_count shared) old new was is read → ReadAs shared (stand new after) read
    read-as was_hand Over did = record { running = is; running_is = refl; over = did.1 }
    read-as was_hand More visits = tt
    read-as was_hand (NotYet shard gate) found = record {
      running = is;
      running_is = refl;
      vertex = found.vertex;
      next_is = found.still.next_is ∙ found.next_is;
      in_turn =
          let only = nothing-at-shard (shard_count shared) old new shard found.visits.before found.visits.was in
          ap (next_visit (own_reads new is.request)) found.still.program_is
          ∙ ap (λ (r : ℕ). next_visit (own_reads new r) (any_of was.walk)) found.still.request_is
          ∙ ap (λ (reads : List (Name × State)). next_visit reads (any_of was.walk))
          (laws.reads shared old new was.request was_hand is_hand (alone-still old new only was.request).unvisited)
          ∙ found.in_turn;
      shard_is = found.shard_is;
      unready = subst (λ (log : List ShardEntry). first_unready (gate_count shared) is.stamp log ≡ Some gate) (sym (found.visits.was.left ∙ append-nil found.visits.before))
          (subst (λ (stamp : Stamp). first_unready (gate_count shared) stamp found.visits.before ≡ Some gate) (sym found.still.stamp_is) found.visits.refused);
    }

-- if one fact of an answer leads to another and the first holds, so does the second
pub if-ok : {T E : Type 0} {P Q : T → Type 0} → (r : Result T E) → ((x : T) → P x → Q x) → IfOk r P → IfOk r Q
if-ok (Ok x) leads p = leads x p
if-ok (Err e) leads p = tt

-- what follows from two things that hold of an answer holds of it, too
pub if-both : {T E : Type 0} {P Q R : T → Type 0} → (r : Result T E) → ((x : T) → P x → Q x → R x) → IfOk r P → IfOk r Q → IfOk r R
if-both (Ok x) leads p q = leads x p q
if-both (Err e) leads p q = tt

-- a client that ends at a busy gatekeeper ends so
busy-end : (again : Bool) (gate : ℕ) (last : Ended) → (if again then None else Some (ended.Busy gate)) ≡ Some last
    → (again ≡ false) × (ended.Busy gate ≡ last)
busy-end true gate last is = absurd (none-some last is)
busy-end false gate last is = (refl, same_Some (ended.Busy gate) last is)

-- a worker that ends after a try ends as the try answered, and as the turns before it did
pub ends-by : (shared : Shared) (script : Script) (upto : ℕ) (old new : Stand) (try : Tried) (busy : ℕ) (end : Option Ended) (last : Ended)
    → end ≡ ended_after try (busy_turns busy try) → end ≡ Some last → TriedAs shared script upto old new try → RunsRequestBelow upto new.client
    → busy < most_busy_turns → WasBusyForNext shared script upto old busy → WorkerEndsAs shared script upto new last
ends-by shared script upto old new tried.Replied busy end last by is as_tried below few was = absurd (none-some last (sym by ∙ is))
ends-by shared script upto old new (tried.Busy gate) busy end last by is as_tried below few was =
    let stops = busy-end (nat_lt (busy_turns busy (tried.Busy gate)) most_busy_turns) gate last (sym by ∙ is) in
    subst (WorkerEndsAs shared script upto new) stops.1 (busy-stop shared script upto old new gate busy as_tried few was stops.0)
ends-by shared script upto old new (tried.NotYet shard gate) busy end last by is as_tried below few was =
    subst (WorkerEndsAs shared script upto new) (same_Some (ended.NotYet shard gate) last (sym by ∙ is)) (record {
      found = as_tried.found;
      below = below as_tried.found.running as_tried.found.running_is;
      heard = as_tried.heard;
    })
