-- A worked account: a gatekeeper raises its epoch, and another one hears a clock of it. Two transactions without
-- operations begin in the new epoch, and a shard collects before anything was processed.
-- Used by nothing: worked examples.
use Rattle.std.proofs.Common.{◌≡◌, ◌≢◌, ℕ, zero, suc, ◌≤◌, [], ◌∷◌, Contains, IsTrue, Some, None, refl, ap, ◌∙◌, arith}
use Rattle.std.specs.Prelude.{codes}
use Rattle.weave_data.proofs.Entries.{each_none}
use Rattle.weave_data.proofs.Members.{has_none}
use Rattle.vector_stamp.specs.declared.clock.Clock.{Clock}
use Rattle.vector_stamp.specs.declared.clock.Stamp.{Stamp}
use Rattle.vector_stamp.specs.Order.{count_of}
use Rattle.program_defs.specs.declared.program.Program.{Program}
use Rattle.program_defs.specs.declared.script.Request.{Request}
use Rattle.program_defs.specs.declared.script.Script.{Script}
use Rattle.program_defs.specs.declared.script.Work.TheVariants.{Change, Look}
use Rattle.weave_entries.specs.declared.gate_log.GateEntry.{GateEntry}
use Rattle.weave_entries.specs.declared.gate_log.GateDeed.TheVariants.{BeganTx, Heard, Raised, Sent}
use Rattle.weave_entries.specs.declared.store_log.StoreEntry.{StoreEntry}
use Rattle.weave_entries.specs.declared.store_log.StoreDeed.TheVariants.{Judged}
use Rattle.weave_entries.specs.declared.shard_log.ShardEntry.{ShardEntry}
use Rattle.weave_entries.specs.declared.shard_log.ShardDeed.TheVariants.{Collected}
use Rattle.weave_entries.specs.declared.session_log.SessionEntry.{SessionEntry}
use Rattle.weave_entries.specs.declared.session_log.SessionDeed.TheVariants as session
use Rattle.weave_entries.specs.declared.verdict.Verdict.TheVariants.{Committed}
use Rattle.weave_entries.specs.Logs.{AtEachEntry}
use Rattle.weave_entries.specs.GateReplay.{BegunRequest, clocks_in, ticks_of}
use Rattle.weave_entries.specs.GateRules.{FitsAs, IsGateLog, HearsAs}
use Rattle.weave_entries.specs.SessionReplay.{FitsSession, session_of}
use Rattle.weave_entries.specs.StoreReplay.{Judgement, judged_by}
use Rattle.report_rules.specs.Lookups.{request_at}
use Rattle.weave_account.specs.declared.account.Account.{Account}
use Rattle.weave_account.specs.Account.{gate_log, is_ended, reads_of, session_log, shard_log}
use Rattle.weave_account.specs.Channels.{SendsAs}
use Rattle.weave_account.specs.Clocks.{IsKnown}
use Rattle.weave_account.specs.Gatekeepers.{BeginsAs}
use Rattle.weave_account.specs.IsAccount.{IsAccount}
use Rattle.weave_account.specs.Programs.{ReadsInTurn}
use Rattle.weave_account.specs.Sessions.{RepliesAs, requests_of_session}
use Rattle.weave_account.specs.Shards.{AreShardDeeds, ShardFitsAs}
use Rattle.weave_account.specs.Store.{AreJudgements, InTurn, Judges}
use Rattle.weave_account.proofs.ExampleLists.{in-one, of-each, one, pairs-two, three, two, zeros}
use Rattle.weave_account.proofs.ExampleParts.{HasSessionStamp, IsRepliedIfFinished, at-gate, at-shard, at-store, in-session, none-marked, of-two}
use Rattle.report_rules.proofs.Examples.{script_of}

-- a clock of epoch 1
abbrev pub clock : ℕ → ℕ → Clock
clock m n = record { epoch = 1; counts = m ∷ n ∷ 0 ∷ 0 ∷ 0 ∷ 0 ∷ 0 ∷ 0 ∷ [] }

abbrev pub x : Stamp
x = record { home = 0; clock = clock 1 0 }

abbrev pub y : Stamp
y = record { home = 1; clock = clock 1 1 }

abbrev pub t1 : Request
t1 = record { name = codes "t1"; session = 0; gate = 0; work = Change [] }

abbrev pub t2 : Request
t2 = record { name = codes "t2"; session = 1; gate = 1; work = Change [] }

abbrev pub script : Script
script = script_of 2 (t1 ∷ t2 ∷ [])

abbrev pub g1 : GateEntry
g1 = at-gate (Raised 1)

abbrev pub g2 : GateEntry
g2 = at-gate (BeganTx 0 x)

abbrev pub g3 : GateEntry
g3 = at-gate (Sent 0 [])

abbrev pub h1 : GateEntry
h1 = at-gate (Heard (clock 1 0))

abbrev pub h2 : GateEntry
h2 = at-gate (BeganTx 1 y)

abbrev pub h3 : GateEntry
h3 = at-gate (Sent 1 [])

abbrev pub j1 : StoreEntry
j1 = at-store (Judged 0 x [] [] (Committed 1 [] []))

abbrev pub j2 : StoreEntry
j2 = at-store (Judged 1 y [] [] (Committed 2 [] []))

abbrev pub s1 : ShardEntry
s1 = at-shard (Collected None)

abbrev pub b1 : SessionEntry
b1 = in-session 0 (session.Begun 0 x)

abbrev pub b2 : SessionEntry
b2 = in-session 0 (session.Replied 0)

abbrev pub b3 : SessionEntry
b3 = in-session 1 (session.Begun 1 y)

abbrev pub account : Account
account = record {
  gates = (g1 ∷ g2 ∷ g3 ∷ []) ∷ (h1 ∷ h2 ∷ h3 ∷ []) ∷ [];
  store = j1 ∷ j2 ∷ [];
  oracle = [];
  shards = (s1 ∷ []) ∷ [];
  sessions = (b1 ∷ b2 ∷ []) ∷ (b3 ∷ []) ∷ [];
}

-- Gatekeepers

fits : (home : ℕ) → IsGateLog home 1 (gate_log account home)
fits (suc (suc home)) = each_none _
fits zero =
    three (λ before (entry : GateEntry). FitsAs 0 1 before entry.author entry.deed) g1 g2 g3
    (omega arith)
    (record { alone = refl; begun = record { last = None; eight = λ x e. cc; is = refl } })
    (record { stamp = x; flight = refl; ops = []; verdict = Committed 1 [] []; counts = refl; messages_are = refl })
fits (suc zero) =
    three (λ before (entry : GateEntry). FitsAs 1 1 before entry.author entry.deed) h1 h2 h3
    refl
    (record { alone = refl; begun = record { last = None; eight = λ x e. cc; is = refl } })
    (record { stamp = y; flight = refl; ops = []; verdict = Committed 2 [] []; counts = refl; messages_are = refl })

begins : (home : ℕ)
    → AtEachEntry (λ before (entry : GateEntry). BeginsAs script account home before entry.deed) (gate_log account home)
begins (suc (suc home)) = each_none _
begins zero =
    three (λ before (entry : GateEntry). BeginsAs script account 0 before entry.deed) g1 g2 g3 tt
    (record { own = refl; small = refl; stamp_is = refl; hears_no_more = λ x e. cc }) tt
begins (suc zero) =
    three (λ before (entry : GateEntry). BeginsAs script account 1 before entry.deed) h1 h2 h3 tt
    (record { own = refl; small = refl; stamp_is = refl; hears_no_more = λ x e. cc }) tt

sends : (home : ℕ)
    → AtEachEntry (λ before (entry : GateEntry). SendsAs account 1 before entry.author entry.deed) (gate_log account home)
sends (suc (suc home)) = each_none _
sends zero =
    three (λ before (entry : GateEntry). SendsAs account 1 before entry.author entry.deed) g1 g2 g3 tt tt
    (record { judged = judged_by 0 j1.deed; is_judged = (0, omega arith, refl); request_is = refl; messages_are = refl })
sends (suc zero) =
    three (λ before (entry : GateEntry). SendsAs account 1 before entry.author entry.deed) h1 h2 h3 tt tt
    (record { judged = judged_by 0 j2.deed; is_judged = (1, omega arith, refl); request_is = refl; messages_are = refl })

hears : (home : ℕ) → AtEachEntry (λ before (entry : GateEntry). HearsAs home before entry.deed) (gate_log account home)
hears (suc (suc home)) = each_none _
hears zero = three (λ before (entry : GateEntry). HearsAs 0 before entry.deed) g1 g2 g3 tt tt tt
hears (suc zero) = three (λ before (entry : GateEntry). HearsAs 1 before entry.deed) h1 h2 h3 refl tt tt

-- The store and the shard

judges : AreJudgements script account account.store
judges =
    two (λ before (entry : StoreEntry). Judges script account before (judged_by entry.author entry.deed)) j1 j2
    (record { home = 0; begun = in-one _; work = refl; asked = refl; verdict = record { number_is = refl; graph = _; passes = refl; counts_are = refl; after_last = λ w h l e. cc } })
    (record { home = 1; begun = in-one _; work = refl; asked = refl; verdict = record { number_is = refl; graph = _; passes = refl; counts_are = refl; after_last = λ w h l e. cc } })

deeds : (shard : ℕ)
    → AreShardDeeds script account shard (shard_log account shard)
deeds (suc shard) = each_none _
deeds zero = one (λ before (entry : ShardEntry). ShardFitsAs script account 0 before entry.deed) s1 refl

-- The sessions

session-fits : (number : ℕ)
    → AtEachEntry (λ before (entry : SessionEntry). (entry.author ≡ number) × FitsSession (session_of (requests_of_session script number) before) entry.deed) (session_log account number)
session-fits (suc (suc number)) = each_none _
session-fits zero =
    two (λ before (entry : SessionEntry). (entry.author ≡ 0) × FitsSession (session_of (requests_of_session script 0) before) entry.deed) b1 b2
    (refl, record { replied = refl; next = refl; rises = λ x e. cc })
    (refl, record { waits = refl; last = refl })
session-fits (suc zero) =
    one (λ before (entry : SessionEntry). (entry.author ≡ 1) × FitsSession (session_of (requests_of_session script 1) before) entry.deed) b3
    (refl, record { replied = refl; next = refl; rises = λ x e. cc })

session-replies : (number : ℕ)
    → AtEachEntry (λ before (entry : SessionEntry). RepliesAs account entry.deed) (session_log account number)
session-replies (suc (suc number)) = each_none _
session-replies zero = two (λ before (entry : SessionEntry). RepliesAs account entry.deed) b1 b2 tt refl
session-replies (suc zero) = one (λ before (entry : SessionEntry). RepliesAs account entry.deed) b3 tt

-- Clocks

clock-known : (m n : ℕ) → m ≤ 1 → n ≤ 1 → IsKnown account (clock m n)
clock-known m n lm ln = record { eight = refl; counts = at; raised = λ above. refl }
  where
    at : (home : ℕ) → count_of home (clock m n) ≤ ticks_of 1 (gate_log account home)
    at zero = lm
    at (suc zero) = ln
    at (suc (suc home)) = let e : count_of (suc (suc home)) (clock m n) ≡ 0 = zeros 6 home in omega (arith, e)

known : (home : ℕ) (c : Clock) → Contains (clocks_in (gate_log account home)) c → IsKnown account c
known (suc (suc home)) c h = absurd (has_none c h)
known zero c h = of-each (IsKnown account) (clock 1 0 ∷ []) (clock-known 1 0 (omega arith) (omega arith), tt) c h
known (suc zero) c h =
    of-each (IsKnown account) (clock 1 0 ∷ clock 1 1 ∷ [])
    (clock-known 1 0 (omega arith) (omega arith), (clock-known 1 1 (omega arith) (omega arith), tt)) c h

-- There is no program

no-program : (r : ℕ) (request : Request) (program : Program) → request_at script r ≡ Some request → request.work ≡ Look program
    → ReadsInTurn (reads_of account r) program (IsTrue (is_ended account r))
no-program zero request program e w =
    let same : t1 ≡ request = cc in let clash : Change [] ≡ Look program = ap (λ (q : Request). q.work) same ∙ w in cc
no-program (suc zero) request program e w =
    let same : t2 ≡ request = cc in let clash : Change [] ≡ Look program = ap (λ (q : Request). q.work) same ∙ w in cc
no-program (suc (suc r)) request program e w = cc

-- the logs of this example, in which an epoch is raised and heard of, are an account
pub worked-epoch : IsAccount script account
worked-epoch =
    record {
      gatekeepers = record { as_many = refl; logs = fits; begins = begins; once = pairs-two (λ (a b : BegunRequest). a.request ≢ b.request) _ _ (λ e. cc) };
      clocks = record { known = known; hears_no_more = hears };
      sessions = record { logs = session-fits; stamps = of-two (HasSessionStamp account) script t1 t2 refl refl refl; replies = session-replies; finished_are_replied = of-two (IsRepliedIfFinished account) script t1 t2 refl (λ look. absurd cc) (λ look. absurd cc) };
      store = record { judges = judges; once = pairs-two (λ (a b : Judgement). a.request ≢ b.request) _ _ (λ e. cc); in_turn = pairs-two (λ (a b : Judgement). InTurn script a.request b.request) _ _ (λ e. cc) };
      oracle = record { log = tt; asked = λ entry h. absurd (has_none entry h); marked = none-marked account (s1 ∷ []) refl refl; once = λ i j d below within. absurd (omega (arith, within)) };
      channels = sends;
      shards = record { as_many = refl; deeds = deeds };
      programs = no-program;
    }
