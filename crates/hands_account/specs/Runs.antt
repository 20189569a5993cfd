-- When a script is run by hands: the premises under which the closed logs are an account of it, besides what the logs
-- refer to. They are about what was begun, judged, read and finished.
use Rattle.std.specs.Prelude.{◌≡◌, ◌≢◌, ◌⊎◌, ℕ, ◌<◌, ◌==◌, List, ◌++◌, filter, length, AllPairs, Contains, IsSomeAnd, IsTrue, Some, ⊤}
use Rattle.std.specs.Option.{ForSome}
use Rattle.vector_stamp.specs.declared.clock.Stamp.{Stamp}
use Rattle.program_defs.specs.declared.program.Program.{Program}
use Rattle.program_defs.specs.declared.script.Request.{Request}
use Rattle.program_defs.specs.declared.script.Script.{Script}
use Rattle.program_defs.specs.declared.script.Work.TheVariants.{Change, Look}
use Rattle.report_rules.specs.Lookups.{request_at}
use Rattle.weave_entries.specs.declared.gate_log.GateEntry.{GateEntry}
use Rattle.weave_entries.specs.declared.gate_log.GateDeed.{GateDeed}
use Rattle.weave_entries.specs.declared.gate_log.GateDeed.TheVariants.{Finished}
use Rattle.weave_entries.specs.Logs.{AtEachEntry}
use Rattle.weave_entries.specs.GateReplay.{BegunRequest, begun_in, programs_of}
use Rattle.weave_entries.specs.StoreReplay.{Judgement, judgements_of}
use Rattle.weave_account.specs.declared.account.Account.{Account}
use Rattle.weave_account.specs.Account.{gate_log, is_ended, reads_of}
use Rattle.weave_account.specs.Gatekeepers.{BeginsAs}
use Rattle.weave_account.specs.IsAccount.{IsAccount}
use Rattle.weave_account.specs.Programs.{ReadsInTurn}
use Rattle.weave_account.specs.Sessions.{SessionsClause}
use Rattle.weave_account.specs.Store.{InTurn}
use Rattle.seen_logs.specs.Seen.{IsOwn, entries_since}

-- What a hand, known by its number as an author, made since the logs were as at the start

-- what it began at a gatekeeper, in order
abbrev pub own_begun : ℕ → Account → Account → ℕ → List BegunRequest
own_begun number start seen home =
    filter (λ (begun : BegunRequest). begun.author == number)
    (begun_in (entries_since (gate_log start home) (gate_log seen home)))

-- what it judged, in order
abbrev pub own_judgements : ℕ → Account → Account → List Judgement
own_judgements number start seen =
    filter (λ (judged : Judgement). judged.author == number) (judgements_of (entries_since start.store seen.store))

-- it began this request as a program
abbrev pub IsOwnProgram : ℕ → Account → Account → ℕ → Type 0
IsOwnProgram number start seen r = (home : ℕ) × (stamp : Stamp)
    × Contains (programs_of (entries_since (gate_log start home) (gate_log seen home)))
    (record { author = number; request = r; stamp = stamp })

-- a deed finishes one of its programs, if it finishes one
abbrev pub FinishesItsOwn : ℕ → Account → Account → GateDeed → Type 0
FinishesItsOwn number start seen (Finished r) = IsOwnProgram number start seen r
FinishesItsOwn number start seen _ = ⊤

-- it finishes no others
abbrev pub FinishesOwnPrograms : ℕ → Account → Account → Type 0
FinishesOwnPrograms number start seen = (home : ℕ) → AtEachEntry (λ before (entry : GateEntry).
    IsOwn number (gate_log start home) before entry.author
    → FinishesItsOwn number start seen entry.deed) (gate_log seen home)

-- this request was given to it: it began the request, or judged it
abbrev pub WasGiven : ℕ → Account → Account → ℕ → Type 0
WasGiven number start seen r =
    ((home : ℕ) × (begun : BegunRequest) × Contains (own_begun number start seen home) begun × (begun.request ≡ r))
    ⊎ ((judged : Judgement) × Contains (own_judgements number start seen) judged × (judged.request ≡ r))

-- A script is followed by a hand in what it made since the start. It begins requests of the script, each at its own
-- gatekeeper, as the kind of work that it is, and after the stamp of the request before it in its session was heard. It
-- begins none twice, and none that was begun at the start. It judges their operations, in their sessions' order. Its
-- programs have read the vertices of their lists of visits, and it finishes no others.
pub record IsFollowedByHand (script : Script) (number : ℕ) (start seen closed : Account) : Type 0 where
  pub begins : (home : ℕ) → AtEachEntry (λ before (entry : GateEntry).
      IsOwn number (gate_log start home) before entry.author
      → BeginsAs script closed home before entry.deed) (gate_log seen home)
  pub once : (home : ℕ) → AllPairs (λ (a b : BegunRequest). a.request ≢ b.request)
      (begun_in (gate_log start home) ++ own_begun number start seen home)
  pub work : (judged : Judgement) → Contains (own_judgements number start seen) judged
      → IsSomeAnd (request_at script judged.request) (λ (request : Request). request.work ≡ Change judged.ops)
  pub in_turn : AllPairs (λ (a b : Judgement). InTurn script a.request b.request) (own_judgements number start seen)
  pub programs : (r : ℕ) → IsOwnProgram number start seen r → (request : Request) (program : Program)
      → request_at script r ≡ Some request → request.work ≡ Look program
      → ReadsInTurn (reads_of seen r) program (IsTrue (is_ended seen r))
  pub finishes : FinishesOwnPrograms number start seen

-- A script is run by hands. The logs at the start are an account of it. At the end there is a log for each of its
-- gatekeepers and shards, and the sessions' logs are those of their requests. Each hand follows the script. Each
-- session has one hand, and a hand was given requests of its own sessions alone: so no request was given to two hands.
pub record IsRunByHands (script : Script) (hands : ℕ) (start : Account) (seen_by : ℕ → Account) (closed : Account)
    : Type 0 where
  pub at_start : IsAccount script start
  pub gates : length closed.gates ≡ script.gates
  pub shards : length closed.shards ≡ script.shards
  pub follows : (number : ℕ) → number < hands → IsFollowedByHand script number start (seen_by number) closed
  pub hand_of : ℕ → ℕ
  pub own_sessions : (number : ℕ) → number < hands → (r : ℕ) → WasGiven number start (seen_by number) r
      → ForSome (request_at script r) (λ (request : Request). hand_of request.session ≡ number)
  pub sessions : SessionsClause script closed
