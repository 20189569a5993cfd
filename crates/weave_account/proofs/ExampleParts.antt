-- Words that several worked accounts use, and facts of small accounts.
-- Used by ExampleEpoch, ExampleMarked, ExamplePath, ExampleReader, ExampleRefusal, ExampleWriters, WrongHearing,
-- WrongLogs and crates hands_account and seen_logs.
use Rattle.std.proofs.Common.{◌≡◌, ◌≢◌, ℕ, zero, suc, ◌<◌, ◌≤◌, List, [], ◌∷◌, get_or, Contains, IsTrue, Some, None, refl, sym, ap, subst, ◌∙◌, arith}
use Rattle.std.specs.Prelude.{slice_get, codes}
use Rattle.std.proofs.lemmas.List.Elements.{All-nil}
use Rattle.weave_data.proofs.Entries.{each_none}
use Rattle.weave_data.proofs.Members.{has_none}
use Rattle.vector_stamp.specs.declared.clock.Clock.{Clock}
use Rattle.vector_stamp.specs.declared.clock.EventId.{EventId}
use Rattle.vector_stamp.specs.declared.clock.Stamp.{Stamp}
use Rattle.vector_stamp.specs.Order.{count_of, id_of}
use Rattle.vector_stamp.specs.Settling.{additions_from, places_of, refused_place}
use Rattle.graph_ops.specs.declared.op.Op.{Op}
use Rattle.graph_ops.specs.declared.op.Op.TheVariants.{Create}
use Rattle.graph_ops.specs.declared.part.Part.{Part}
use Rattle.program_defs.specs.declared.script.Request.{Request}
use Rattle.program_defs.specs.declared.script.Script.{Script}
use Rattle.program_defs.specs.Works.{is_look}
use Rattle.weave_entries.specs.declared.gate_log.GateDeed.{GateDeed}
use Rattle.weave_entries.specs.declared.gate_log.GateDeed.TheVariants.{BeganTx, Sent}
use Rattle.weave_entries.specs.declared.gate_log.GateEntry.{GateEntry}
use Rattle.weave_entries.specs.declared.message.Addressed.{Addressed}
use Rattle.weave_entries.specs.declared.message.Message.{Message}
use Rattle.weave_entries.specs.declared.oracle_log.OracleDeed.TheVariants.{Settled}
use Rattle.weave_entries.specs.declared.oracle_log.OracleEntry.{OracleEntry}
use Rattle.weave_entries.specs.declared.session_log.SessionDeed.{SessionDeed}
use Rattle.weave_entries.specs.declared.session_log.SessionEntry.{SessionEntry}
use Rattle.weave_entries.specs.declared.shard_log.ShardDeed.{ShardDeed}
use Rattle.weave_entries.specs.declared.shard_log.ShardEntry.{ShardEntry}
use Rattle.weave_entries.specs.declared.store_log.StoreDeed.{StoreDeed}
use Rattle.weave_entries.specs.declared.store_log.StoreDeed.TheVariants.{Judged}
use Rattle.weave_entries.specs.declared.store_log.StoreEntry.{StoreEntry}
use Rattle.weave_entries.specs.declared.verdict.Verdict.{Verdict}
use Rattle.weave_entries.specs.declared.verdict.Verdict.TheVariants.{Committed}
use Rattle.weave_entries.specs.Logs.{AtEachEntry}
use Rattle.weave_entries.specs.GateReplay.{ticks_of}
use Rattle.weave_entries.specs.GateRules.{HearsAs, HearsNoMore}
use Rattle.weave_entries.specs.OracleRules.{IsOracleLog}
use Rattle.weave_entries.specs.SessionReplay.{has_reply_in, session_stamp_of}
use Rattle.weave_entries.specs.ShardReplay.{Visit, visits_of}
use Rattle.weave_entries.specs.StoreRule.{FitsStore, IsStoreLog}
use Rattle.report_rules.specs.Lookups.{request_at}
use Rattle.report_rules.proofs.Examples.{v, transaction}
use Rattle.weave_account.specs.declared.account.Account.{Account}
use Rattle.weave_account.specs.Account.{gate_log, is_ended, session_log, shard_log, stamp_of}
use Rattle.weave_account.specs.Channels.{SendsAs, SendsJudged}
use Rattle.weave_account.specs.Clocks.{IsKnown, is_raised}
use Rattle.weave_account.specs.Oracle.{HasItsEntry}
use Rattle.weave_account.proofs.ExampleLists.{one, two, zeros}

-- Values

-- a clock with these counts of the first three gatekeepers
abbrev pub clock-in : ℕ → ℕ → ℕ → ℕ → Clock
clock-in epoch a b c = record { epoch = epoch; counts = a ∷ b ∷ c ∷ 0 ∷ 0 ∷ 0 ∷ 0 ∷ 0 ∷ [] }

-- one of epoch 0, with the counts of two gatekeepers
abbrev pub clock : ℕ → ℕ → Clock
clock a b = clock-in 0 a b 0

-- an entry of author 0: of a gatekeeper, the store, a shard
abbrev pub at-gate : GateDeed → GateEntry
at-gate deed = record { author = 0; deed = deed }

abbrev pub at-store : StoreDeed → StoreEntry
at-store deed = record { author = 0; deed = deed }

abbrev pub at-shard : ShardDeed → ShardEntry
at-shard deed = record { author = 0; deed = deed }

-- an entry of this session
abbrev pub in-session : ℕ → SessionDeed → SessionEntry
in-session session deed = record { author = session; deed = deed }

-- the oracle puts the first stamp before the second one
abbrev pub settles : Stamp → Stamp → OracleEntry
settles earlier later = record { author = 0; deed = Settled (earlier ∷ []) later (0 ∷ []) }

-- the first message to shard 0
abbrev pub first-to : Message → List Addressed
first-to message = record { shard = 0; number = 1; message = message } ∷ []

-- a message without a transaction
abbrev pub empty-message : Stamp → Clock → Message
empty-message stamp low = record { request = None; stamp = stamp; low = low; parts = [] }

-- A transaction that creates v, as request 0

-- the operations of the transaction: it creates v
abbrev pub creates : List Op
creates = Create v ∷ []

-- the request, of session 0 at gatekeeper 0
abbrev pub change : Request
change = transaction (codes "t") 0 0 creates

-- the part of its message
abbrev pub creation : Part
creation = record { vertex = v; before = 0; ops = creates }

-- the message that brings the transaction's one part to a shard
abbrev pub creating : Stamp → Message
creating stamp = record { request = Some 0; stamp = stamp; low = stamp.clock; parts = creation ∷ [] }

-- the verdict on the transaction, as the first commit
abbrev pub created : Verdict
created = Committed 1 [] (record { vertex = v; before = 0 } ∷ [])

-- the store's entry that judges the transaction as committed
abbrev pub judges-creation : Stamp → StoreEntry
judges-creation stamp = at-store (Judged 0 stamp creates [] created)

-- rightly, if it is the first one
pub right-creation : (stamp : Stamp) → IsStoreLog (judges-creation stamp ∷ [])
right-creation stamp =
    one (λ before (entry : StoreEntry). FitsStore before entry.deed) (judges-creation stamp)
    (record { new = All-nil _; asked_are = refl; pairs = []; verdict_is = refl })

-- Clocks

-- a clock is known if its counts were made, and its epoch, above 0, was raised
pub clock-known : (account : Account) (epoch a b c : ℕ) → a ≤ ticks_of epoch (gate_log account 0)
    → b ≤ ticks_of epoch (gate_log account 1) → c ≤ ticks_of epoch (gate_log account 2)
    → (epoch ≢ 0 → IsTrue (is_raised account epoch)) → IsKnown account (clock-in epoch a b c)
clock-known account epoch a b c la lb lc raised = record { eight = refl; counts = at; raised = raised }
  where
    at : (home : ℕ) → count_of home (clock-in epoch a b c) ≤ ticks_of epoch (gate_log account home)
    at zero = la
    at (suc zero) = lb
    at (suc (suc zero)) = lc
    at (suc (suc (suc home))) =
        let none : count_of (suc (suc (suc home))) (clock-in epoch a b c) ≡ 0 = zeros 5 home in omega (arith, none)

-- so is one of epoch 0 with the counts of two gatekeepers
pub two-known : (account : Account) (a b : ℕ) → a ≤ ticks_of 0 (gate_log account 0) → b ≤ ticks_of 0 (gate_log account 1)
    → IsKnown account (clock a b)
two-known account a b la lb = clock-known account 0 a b 0 la lb (omega arith) (λ above. absurd (above refl))

-- Two gatekeepers that each began a transaction and sent it

-- the log of a gatekeeper that begins a transaction and sends messages for it
abbrev pub begins-and-sends : ℕ → Stamp → List Addressed → List GateEntry
begins-and-sends r stamp messages = at-gate (BeganTx r stamp) ∷ at-gate (Sent r messages) ∷ []

module _ (x y : Stamp) (of-x of-y : List Addressed) where
  -- the logs of the two gatekeepers, which begin and send requests 0 and 1
  abbrev pub two-gates : List (List GateEntry)
  two-gates = begins-and-sends 0 x of-x ∷ begins-and-sends 1 y of-y ∷ []

  -- each of the two logs keeps the rule on hearing, as it hears no clock
  pub two-hear : (home : ℕ) → HearsNoMore home (get_or two-gates home [])
  two-hear zero = two (λ before (entry : GateEntry). HearsAs 0 before entry.deed) (at-gate (BeganTx 0 x)) (at-gate (Sent 0 of-x)) tt tt
  two-hear (suc zero) = two (λ before (entry : GateEntry). HearsAs 1 before entry.deed) (at-gate (BeganTx 1 y)) (at-gate (Sent 1 of-y)) tt tt
  two-hear (suc (suc home)) = each_none _

  -- they send what was judged, if each of the two was
  pub two-send : (account : Account) → SendsJudged account 1 (at-gate (BeganTx 0 x) ∷ []) 0 0 of-x
      → SendsJudged account 1 (at-gate (BeganTx 1 y) ∷ []) 0 1 of-y
      → (home : ℕ) → AtEachEntry (λ before (entry : GateEntry). SendsAs account 1 before entry.author entry.deed) (get_or two-gates home [])
  two-send account first second zero =
      two (λ before (entry : GateEntry). SendsAs account 1 before entry.author entry.deed) (at-gate (BeganTx 0 x)) (at-gate (Sent 0 of-x)) tt first
  two-send account first second (suc zero) =
      two (λ before (entry : GateEntry). SendsAs account 1 before entry.author entry.deed) (at-gate (BeganTx 1 y)) (at-gate (Sent 1 of-y)) tt second
  two-send account first second (suc (suc home)) = each_none _

-- The oracle

-- its log, if it settled the order of two events of different gatekeepers
pub one-settled : (earlier later : Stamp) → earlier.home ≢ later.home → refused_place [] (earlier ∷ []) later ≡ None
    → 0 ∷ [] ≡ places_of (additions_from 0 [] (earlier ∷ []) later) → IsOracleLog (settles earlier later ∷ [])
one-settled earlier later differ permitted added =
    (record { others = λ i d lt. (λ e. others i d lt e); permitted = permitted; added = added; some = λ e. cc }, tt)
  where
    others : (i : ℕ) (d : Stamp) → i < 1 → id_of (get_or (earlier ∷ []) i d) ≡ id_of later → ⊥
    others zero d lt e = differ (ap (λ (id : EventId). id.home) e)
    others (suc i) d lt e = absurd (omega (arith, lt))

-- Shards

module _ (account : Account) where
  -- no visit is marked if the only shard made none
  pub none-marked : (log : List ShardEntry) → account.shards ≡ log ∷ [] → visits_of log ≡ []
      → (shard : ℕ) (visit : Visit) → Contains (visits_of (shard_log account shard)) visit → IsTrue visit.settled
      → HasItsEntry account (shard_log account shard) visit
  none-marked log is none shard visit h marked = absurd (has_none visit (subst (λ visits. Contains visits visit) (no-visit shard) h))
    where
      no-visit : (shard : ℕ) → visits_of (shard_log account shard) ≡ []
      no-visit zero = ap (λ (logs : List (List ShardEntry)). visits_of (get_or logs 0 [])) is ∙ none
      no-visit (suc shard) = ap (λ (logs : List (List ShardEntry)). visits_of (get_or logs (suc shard) [])) is

  -- a rule of what shards do holds if the only one did nothing
  pub no-deeds : (P : ℕ → List ShardEntry → ShardEntry → Type 0) → account.shards ≡ [] ∷ []
      → (shard : ℕ) → AtEachEntry (P shard) (shard_log account shard)
  no-deeds P is shard = subst (λ (logs : List (List ShardEntry)). AtEachEntry (P shard) (get_or logs shard [])) (sym is) (nothing shard)
    where
      nothing : (shard : ℕ) → AtEachEntry (P shard) (get_or ([] ∷ []) shard [])
      nothing zero = each_none (P 0)
      nothing (suc shard) = each_none (P (suc shard))

-- Requests

-- what is so of both requests of a script
pub of-two : (P : ℕ → Request → Type 0) (script : Script) (a b : Request) → script.requests ≡ a ∷ b ∷ [] → P 0 a → P 1 b
    → (r : ℕ) (request : Request) → request_at script r ≡ Some request → P r request
of-two P script a b are first second r request at = by r (subst (λ requests. slice_get requests r ≡ Some request) are at)
  where
    by : (r : ℕ) → slice_get (a ∷ b ∷ []) r ≡ Some request → P r request
    by zero at = let same : a ≡ request = cc in subst (P 0) same first
    by (suc zero) at = let same : b ≡ request = cc in subst (P 1) same second
    by (suc (suc r)) at = absurd cc

-- a request's session says its stamp
abbrev pub HasSessionStamp : Account → ℕ → Request → Type 0
HasSessionStamp account r request = session_stamp_of r (session_log account request.session) ≡ stamp_of account r

-- a program that is finished has its reply
abbrev pub IsRepliedIfFinished : Account → ℕ → Request → Type 0
IsRepliedIfFinished account r request =
    IsTrue (is_look request.work) → IsTrue (is_ended account r) → IsTrue (has_reply_in r (session_log account request.session))
