-- A worked account: one session with two transactions at two gatekeepers. The first is refused, as its vertex isn't
-- there. The second hears the first one's stamp and creates the vertex.
-- Used by nothing: worked examples.
use Rattle.std.proofs.Common.{◌≡◌, ◌≢◌, ℕ, zero, suc, List, [], ◌∷◌, Contains, IsTrue, Some, None, refl, ap, subst, ◌∙◌, arith}
use Rattle.std.specs.Prelude.{codes}
use Rattle.weave_data.proofs.Entries.{each_none}
use Rattle.weave_data.proofs.Members.{has_none}
use Rattle.vector_stamp.specs.declared.clock.Clock.{Clock}
use Rattle.vector_stamp.specs.declared.clock.Stamp.{Stamp}
use Rattle.vector_stamp.specs.Clocks.{counts_no_more}
use Rattle.vector_stamp.specs.Order.{HasEightCounts, stamp_before}
use Rattle.weave_data.specs.declared.name.Name.{Name}
use Rattle.graph_ops.specs.declared.op.Op.{Op}
use Rattle.graph_ops.specs.declared.op.Op.TheVariants.{Create, Set}
use Rattle.graph_ops.specs.declared.op.Reason.TheVariants.{Missing}
use Rattle.program_defs.specs.declared.program.Program.{Program}
use Rattle.program_defs.specs.declared.script.Request.{Request}
use Rattle.program_defs.specs.declared.script.Script.{Script}
use Rattle.program_defs.specs.declared.script.Work.TheVariants.{Change, Look}
use Rattle.weave_entries.specs.declared.gate_log.GateEntry.{GateEntry}
use Rattle.weave_entries.specs.declared.gate_log.GateDeed.TheVariants.{BeganTx, Sent}
use Rattle.weave_entries.specs.declared.message.Message.{Message}
use Rattle.weave_entries.specs.declared.store_log.StoreEntry.{StoreEntry}
use Rattle.weave_entries.specs.declared.store_log.StoreDeed.TheVariants.{Judged}
use Rattle.weave_entries.specs.declared.shard_log.ShardEntry.{ShardEntry}
use Rattle.weave_entries.specs.declared.shard_log.ShardDeed.TheVariants.{Arrived, Applied}
use Rattle.weave_entries.specs.declared.session_log.SessionEntry.{SessionEntry}
use Rattle.weave_entries.specs.declared.session_log.SessionDeed.TheVariants as session
use Rattle.weave_entries.specs.declared.verdict.Verdict.TheVariants.{Committed, Refused}
use Rattle.weave_entries.specs.Logs.{AtEachEntry}
use Rattle.weave_entries.specs.GateReplay.{BegunRequest, clocks_in}
use Rattle.weave_entries.specs.GateRules.{FitsAs, IsGateLog}
use Rattle.weave_entries.specs.SessionReplay.{FitsSession, session_of}
use Rattle.weave_entries.specs.StoreReplay.{Judgement, judged_by}
use Rattle.report_rules.specs.Lookups.{request_at}
use Rattle.weave_account.specs.declared.account.Account.{Account}
use Rattle.weave_account.specs.Account.{gate_log, is_ended, reads_of, session_log, shard_log}
use Rattle.weave_account.specs.Clocks.{IsKnown}
use Rattle.weave_account.specs.Gatekeepers.{BeginsAs}
use Rattle.weave_account.specs.IsAccount.{IsAccount}
use Rattle.weave_account.specs.Programs.{ReadsInTurn}
use Rattle.weave_account.specs.Sessions.{RepliesAs, requests_of_session}
use Rattle.weave_account.specs.Shards.{AreShardDeeds, ShardFitsAs}
use Rattle.weave_account.specs.Store.{AreJudgements, InTurn, Judges}
use Rattle.weave_account.proofs.ExampleLists.{in-one, of-each, pairs-two, three, two}
use Rattle.weave_account.proofs.ExampleParts.{HasSessionStamp, IsRepliedIfFinished, at-gate, at-shard, at-store, clock, first-to, in-session, two-known, none-marked, of-two, two-hear, two-send}
use Rattle.report_rules.proofs.Examples.{script_of}

abbrev pub v : Name
v = codes "v"

abbrev pub x : Stamp
x = record { home = 0; clock = clock 1 0 }

abbrev pub y : Stamp
y = record { home = 1; clock = clock 1 1 }

abbrev pub sets : List Op
sets = Set v (codes "k") (codes "x") ∷ []

abbrev pub t1 : Request
t1 = record { name = codes "t1"; session = 0; gate = 0; work = Change sets }

abbrev pub t2 : Request
t2 = record { name = codes "t2"; session = 0; gate = 1; work = Change (Create v ∷ []) }

abbrev pub script : Script
script = script_of 2 (t1 ∷ t2 ∷ [])

abbrev pub creates : Message
creates =
    record { request = Some 1; stamp = y; low = clock 1 1; parts = record { vertex = v; before = 0; ops = Create v ∷ [] } ∷ [] }

abbrev pub g1 : GateEntry
g1 = at-gate (BeganTx 0 x)

abbrev pub g2 : GateEntry
g2 = at-gate (Sent 0 [])

abbrev pub h1 : GateEntry
h1 = at-gate (BeganTx 1 y)

abbrev pub h2 : GateEntry
h2 = at-gate (Sent 1 (first-to creates))

abbrev pub j1 : StoreEntry
j1 = at-store (Judged 0 x sets [] (Refused 1 Missing 0))

abbrev pub j2 : StoreEntry
j2 = at-store (Judged 1 y (Create v ∷ []) [] (Committed 1 [] (record { vertex = v; before = 0 } ∷ [])))

abbrev pub s1 : ShardEntry
s1 = at-shard (Arrived 1 1 creates)

abbrev pub s2 : ShardEntry
s2 = at-shard (Applied 1 1)

abbrev pub b1 : SessionEntry
b1 = in-session 0 (session.Begun 0 x)

abbrev pub b2 : SessionEntry
b2 = in-session 0 (session.Replied 0)

abbrev pub b3 : SessionEntry
b3 = in-session 0 (session.Begun 1 y)

abbrev pub account : Account
account = record {
  gates = (g1 ∷ g2 ∷ []) ∷ (h1 ∷ h2 ∷ []) ∷ [];
  store = j1 ∷ j2 ∷ [];
  oracle = [];
  shards = (s1 ∷ s2 ∷ []) ∷ [];
  sessions = (b1 ∷ b2 ∷ b3 ∷ []) ∷ [];
}

-- Gatekeepers

fits : (home : ℕ) → IsGateLog home 1 (gate_log account home)
fits (suc (suc home)) = each_none _
fits zero =
    two (λ before (entry : GateEntry). FitsAs 0 1 before entry.author entry.deed) g1 g2
    (record { alone = refl; begun = record { last = None; eight = λ x e. cc; is = refl } })
    (record { stamp = x; flight = refl; ops = sets; verdict = Refused 1 Missing 0; counts = tt; messages_are = refl })
fits (suc zero) =
    two (λ before (entry : GateEntry). FitsAs 1 1 before entry.author entry.deed) h1 h2
    (record { alone = refl; begun = record { last = Some x; eight = λ last e. (let same : x ≡ last = cc in subst (λ (s : Stamp). HasEightCounts s.clock) same refl); is = refl } })
    (record { stamp = y; flight = refl; ops = Create v ∷ []; verdict = Committed 1 [] (record { vertex = v; before = 0 } ∷ []); counts = refl; messages_are = refl })

begins : (home : ℕ)
    → AtEachEntry (λ before (entry : GateEntry). BeginsAs script account home before entry.deed) (gate_log account home)
begins (suc (suc home)) = each_none _
begins zero =
    two (λ before (entry : GateEntry). BeginsAs script account 0 before entry.deed) g1 g2
    (record { own = refl; small = refl; stamp_is = refl; hears_no_more = λ x e. cc }) tt
begins (suc zero) =
    two (λ before (entry : GateEntry). BeginsAs script account 1 before entry.deed) h1 h2
    (record { own = refl; small = refl; stamp_is = refl; hears_no_more = λ last e. (let same : x ≡ last = cc in subst (λ (s : Stamp). IsTrue (counts_no_more 1 (clock 0 0) s.clock)) same refl) })
    tt

-- The store and the shard

judges : AreJudgements script account account.store
judges =
    two (λ before (entry : StoreEntry). Judges script account before (judged_by entry.author entry.deed)) j1 j2
    (record { home = 0; begun = in-one _; work = refl; asked = refl; verdict = record { at_is = refl; refused = refl } })
    (record { home = 1; begun = in-one _; work = refl; asked = refl; verdict = record { number_is = refl; graph = _; passes = refl; counts_are = refl; after_last = λ w h l e. cc } })

deeds : (shard : ℕ)
    → AreShardDeeds script account shard (shard_log account shard)
deeds (suc shard) = each_none _
deeds zero =
    two (λ before (entry : ShardEntry). ShardFitsAs script account 0 before entry.deed) s1 s2
    (record { sent = (0, omega arith, refl); new = refl })
    (record { number_is = refl; message = creates; head = refl; in_turn = refl })

-- The session

session-fits : (number : ℕ)
    → AtEachEntry (λ before (entry : SessionEntry). (entry.author ≡ number) × FitsSession (session_of (requests_of_session script number) before) entry.deed) (session_log account number)
session-fits (suc number) = each_none _
session-fits zero =
    three (λ before (entry : SessionEntry). (entry.author ≡ 0) × FitsSession (session_of (requests_of_session script 0) before) entry.deed) b1 b2 b3
    (refl, record { replied = refl; next = refl; rises = λ x e. cc })
    (refl, record { waits = refl; last = refl })
    (refl, record { replied = refl; next = refl; rises = λ last e. (let same : x ≡ last = cc in subst (λ (s : Stamp). IsTrue (stamp_before s y)) same refl) })

session-replies : (number : ℕ)
    → AtEachEntry (λ before (entry : SessionEntry). RepliesAs account entry.deed) (session_log account number)
session-replies (suc number) = each_none _
session-replies zero = three (λ before (entry : SessionEntry). RepliesAs account entry.deed) b1 b2 b3 tt refl tt

-- Clocks

known : (home : ℕ) (c : Clock) → Contains (clocks_in (gate_log account home)) c → IsKnown account c
known (suc (suc home)) c h = absurd (has_none c h)
known zero c h = of-each (IsKnown account) (clock 1 0 ∷ []) (two-known account 1 0 (omega arith) (omega arith), tt) c h
known (suc zero) c h = of-each (IsKnown account) (clock 1 1 ∷ clock 1 1 ∷ clock 1 1 ∷ []) (both, (both, (both, tt))) c h
  where
    both : IsKnown account (clock 1 1)
    both = two-known account 1 1 (omega arith) (omega arith)

-- There is no program

no-program : (r : ℕ) (request : Request) (program : Program) → request_at script r ≡ Some request → request.work ≡ Look program
    → ReadsInTurn (reads_of account r) program (IsTrue (is_ended account r))
no-program zero request program e w =
    let same : t1 ≡ request = cc in let clash : Change sets ≡ Look program = ap (λ (q : Request). q.work) same ∙ w in cc
no-program (suc zero) request program e w =
    let same : t2 ≡ request = cc in let clash : Change (Create v ∷ []) ≡ Look program = ap (λ (q : Request). q.work) same ∙ w in cc
no-program (suc (suc r)) request program e w = cc

-- the logs of this example, with a refused transaction and then a commit of the same session, are an account
pub worked-refusal : IsAccount script account
worked-refusal =
    record {
      gatekeepers = record { as_many = refl; logs = fits; begins = begins; once = pairs-two (λ (a b : BegunRequest). a.request ≢ b.request) _ _ (λ e. cc) };
      clocks = record { known = known; hears_no_more = two-hear x y [] (first-to creates) };
      sessions = record { logs = session-fits; stamps = of-two (HasSessionStamp account) script t1 t2 refl refl refl; replies = session-replies; finished_are_replied = of-two (IsRepliedIfFinished account) script t1 t2 refl (λ look. absurd cc) (λ look. absurd cc) };
      store = record { judges = judges; once = pairs-two (λ (a b : Judgement). a.request ≢ b.request) _ _ (λ e. cc); in_turn = pairs-two (λ (a b : Judgement). InTurn script a.request b.request) _ _ (λ e. omega arith) };
      oracle = record { log = tt; asked = λ entry h. absurd (has_none entry h); marked = none-marked account (s1 ∷ s2 ∷ []) refl refl; once = λ i j d below within. absurd (omega (arith, within)) };
      channels =
          two-send x y [] (first-to creates) account
          (record { judged = judged_by 0 j1.deed; is_judged = (0, omega arith, refl); request_is = refl; messages_are = refl })
          (record { judged = judged_by 0 j2.deed; is_judged = (1, omega arith, refl); request_is = refl; messages_are = refl });
      shards = record { as_many = refl; deeds = deeds };
      programs = no-program;
    }
