-- A client's worker that does one thing after another goes on with its session.
-- Used by `go_client`, `go_session`, `look_on`, `try_next`, Deeds and ReadOn.
use Rattle.std.proofs.Common.{◌≡◌, inr, ℕ, List, [], ◌∷◌, ◌++◌, Option, Some, None, refl, sym, ap, subst}
use Rattle.program_defs.specs.declared.script.Script.{Script}
use Rattle.weaver_core.specs.declared.walks.Running.{Running}
use Rattle.weaver_core.specs.Sessions.{IsSameClient, SessionValues}
use Rattle.weaver_locks.specs.declared.shared.Shared.{Shared}
use Rattle.weaver_locks.specs.Hands.{IsHand}
use Rattle.weaver_workers.specs.Carrying.{OnlyCarries}
use Rattle.weaver_workers.specs.ClientWork.{DoesOneCall, DoesCarry, Goes, WorkerGoesOn, RunsSameProgram, Stand}
use Rattle.weaver_workers.specs.KeepLaws.{KeepLaws}
use Rattle.weaver_workers.specs.Keeping.{KeepsClient}
use Rattle.weaver_workers.proofs.Carried.{carries-none}
use Rattle.weaver_workers.proofs.Kept.{carry-keeps}

-- a program runs the same program as itself
pub same-walk : (running : Option Running) → RunsSameProgram running running
same-walk None = refl
same-walk (Some running) = record {
  request_is = refl;
  stamp_is = refl;
  program_is = refl;
  next_is = refl;
  reads = λ reads read. read;
}

module _ (shared : Shared) (script : Script) (number upto : ℕ) where
  -- a worker that does nothing goes on
  pub goes-none : (stand : Stand) → KeepsClient shared script number stand.hand stand.client → WorkerGoesOn shared script number upto stand stand
  goes-none stand keeps = record { path = []; went = refl; keeps = keeps }

  -- one that does one thing goes on
  pub goes-one : (old new : Stand) → DoesOneCall shared script number upto old new → KeepsClient shared script number new.hand new.client
      → WorkerGoesOn shared script number upto old new
  goes-one old new does keeps = record { path = new ∷ []; went = ((does, keeps), refl); keeps = keeps }

  join : (path rest : List Stand) (old mid new : Stand) → Goes shared script number upto old path mid
      → Goes shared script number upto mid rest new → Goes shared script number upto old (path ++ rest) new
  join [] rest old mid new went more = subst (λ (s : Stand). Goes shared script number upto s rest new) (sym went) more
  join (next ∷ path) rest old mid new went more = (went.0, join path rest next mid new went.1 more)

  -- one that goes on twice goes on in all
  pub goes-then : (old mid new : Stand) → WorkerGoesOn shared script number upto old mid → WorkerGoesOn shared script number upto mid new
      → WorkerGoesOn shared script number upto old new
  goes-then old mid new first second = record {
    path = first.path ++ second.path;
    went = join first.path second.path old mid new first.went second.went;
    keeps = second.keeps;
  }

  module _ (laws : KeepLaws) where
    -- one whose hand only carries goes on
    pub goes-carry : (old new : Stand) → KeepsClient shared script number old.hand old.client → IsHand shared new.hand → DoesCarry old new
        → WorkerGoesOn shared script number upto old new
    goes-carry old new keeps is_hand does = goes-one old new (inr (inr (inr (inr does)))) (carry-keeps laws shared script number old new keeps is_hand does)

    -- a worker goes on if only room was taken for its client
    pub goes-reserve : (old new : Stand) → KeepsClient shared script number old.hand old.client → old.hand ≡ new.hand
        → IsSameClient old.client new.client → WorkerGoesOn shared script number upto old new
    goes-reserve old new keeps same_hand same =
        goes-carry old new keeps (subst (λ hand. IsHand shared hand) same_hand keeps.is_hand) (record {
          only = subst (λ hand. OnlyCarries old.hand hand) same_hand (carries-none old.hand);
          same = record { session = same.session; log = same.log; replies = ap (λ (v : SessionValues). v.replies) same.values };
          running = subst (λ (o : Option Running). RunsSameProgram old.client.running o) (sym (ap (λ (v : SessionValues). v.running) same.values))
              (same-walk old.client.running);
        })
