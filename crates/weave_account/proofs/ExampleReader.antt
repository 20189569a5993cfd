-- A worked account: a transaction creates v and is sent, a program of the same session begins, an empty message
-- follows, and the program reads v. The shard then collects below the low mark of the empty message.
-- Used by ExampleReports and WrongLogs.
use Rattle.std.proofs.Common.{◌≡◌, ◌≢◌, ℕ, zero, suc, ◌≤◌, false, [], ◌∷◌, Contains, IsTrue, Some, None, refl, ap, subst, ◌∙◌, arith}
use Rattle.std.specs.Prelude.{codes}
use Rattle.weave_data.proofs.Members.{has_none}
use Rattle.vector_stamp.specs.declared.clock.Clock.{Clock}
use Rattle.vector_stamp.specs.declared.clock.Stamp.{Stamp}
use Rattle.vector_stamp.specs.Order.{count_of, stamp_before}
use Rattle.vector_stamp.specs.Clocks.{counts_no_more}
use Rattle.weave_entries.specs.GateReplay.{addressed_to, BegunRequest, ticks_of}
use Rattle.weave_entries.specs.ShardReplay.{Update}
use Rattle.vector_stamp.specs.Precedence.{ByStamps}
use Rattle.weave_data.specs.declared.name.Name.{Name}
use Rattle.graph_ops.specs.declared.op.Op.TheVariants.{Create}
use Rattle.program_defs.specs.declared.program.Program.TheVariants.{Show}
use Rattle.program_defs.specs.declared.script.Request.{Request}
use Rattle.program_defs.specs.declared.script.Script.{Script}
use Rattle.program_defs.specs.declared.script.Work.TheVariants.{Change, Look}
use Rattle.weave_entries.specs.declared.gate_log.GateEntry.{GateEntry}
use Rattle.weave_entries.specs.declared.gate_log.GateDeed.TheVariants.{BeganTx, BeganProgram, Sent, Nop, Finished}
use Rattle.weave_entries.specs.declared.message.Message.{Message}
use Rattle.weave_entries.specs.declared.store_log.StoreEntry.{StoreEntry}
use Rattle.weave_entries.specs.declared.store_log.StoreDeed.TheVariants.{Judged}
use Rattle.weave_entries.specs.declared.shard_log.ShardEntry.{ShardEntry}
use Rattle.weave_entries.specs.declared.shard_log.ShardDeed.TheVariants.{Arrived, Applied, Visited, Collected}
use Rattle.weave_entries.specs.declared.session_log.SessionEntry.{SessionEntry}
use Rattle.weave_entries.specs.declared.session_log.SessionDeed.TheVariants as session
use Rattle.weave_entries.specs.declared.verdict.Verdict.TheVariants.{Committed}
use Rattle.weave_entries.specs.Logs.{AtEachEntry}
use Rattle.weave_entries.specs.GateRules.{FitsAs, IsGateLog, HearsAs}
use Rattle.weave_data.proofs.Entries.{each_none, each_push}
use Rattle.weave_account.specs.declared.account.Account.{Account}
use Rattle.weave_account.specs.Account.{Precedence, gate_log, shard_log, session_log, stamp_of}
use Rattle.weave_account.specs.Gatekeepers.{BeginsAs}
use Rattle.weave_account.specs.Clocks.{IsKnown}
use Rattle.weave_account.specs.Sessions.{requests_of_session, RepliesAs}
use Rattle.weave_account.specs.IsAccount.{IsAccount}
use Rattle.weave_account.specs.Store.{AreJudgements, InTurn}
use Rattle.weave_account.specs.Channels.{SendsAs}
use Rattle.weave_account.specs.Shards.{AreShardDeeds, ShardFitsAs}
use Rattle.weave_account.specs.Programs.{ReadsInTurn}
use Rattle.weave_entries.specs.SessionReplay.{FitsSession, session_of, session_stamp_of}
use Rattle.weave_entries.specs.StoreReplay.{Judgement, judged_by}
use Rattle.graph_ops.specs.Operations.{State}
use Rattle.program_defs.specs.declared.program.Program.{Program}
use Rattle.report_rules.specs.Lookups.{request_at}
use Rattle.weave_data.proofs.Members.{only}
use Rattle.program_defs.specs.Works.{is_look}
use Rattle.weave_entries.specs.SessionReplay.{has_reply_in}
use Rattle.weave_entries.specs.ShardReplay.{Visit, visits_of}
use Rattle.weave_account.specs.Account.{is_ended, reads_of}
use Rattle.weave_account.specs.Oracle.{HasItsEntry}
use Rattle.weave_account.proofs.ExampleLists.{five, four, in-one, of-each, pairs-one, pairs-two, six, zeros}
use Rattle.weave_account.proofs.ExampleParts.{at-gate, at-shard, at-store, first-to, in-session}
use Rattle.weave_entries.specs.GateReplay.{clocks_in}
use Rattle.std.proofs.Common.{sym}

abbrev pub v : Name
v = codes "v"

abbrev pub clock : ℕ → Clock
clock n = record { epoch = 0; counts = n ∷ 0 ∷ 0 ∷ 0 ∷ 0 ∷ 0 ∷ 0 ∷ 0 ∷ [] }

abbrev pub stamp : ℕ → Stamp
stamp n = record { home = 0; clock = clock n }

abbrev pub script : Script
script = record {
  gates = 1;
  shards = 1;
  requests = record { name = codes "t1"; session = 0; gate = 0; work = Change (Create v ∷ []) } ∷ record { name = codes "p"; session = 0; gate = 0; work = Look (Show v) } ∷ [];
  phases = [];
  steps = None;
}

abbrev pub sent : Message
sent =
    record { request = Some 0; stamp = stamp 1; low = clock 1; parts = record { vertex = v; before = 0; ops = Create v ∷ [] } ∷ [] }

abbrev pub empty : Message
empty = record { request = None; stamp = stamp 3; low = clock 2; parts = [] }

abbrev pub g1 : GateEntry
g1 = at-gate (BeganTx 0 (stamp 1))

abbrev pub g2 : GateEntry
g2 = at-gate (Sent 0 (first-to sent))

abbrev pub g3 : GateEntry
g3 = at-gate (BeganProgram 1 (stamp 2))

abbrev pub g4 : GateEntry
g4 = at-gate (Nop 0 2 (stamp 3) (clock 2))

abbrev pub g5 : GateEntry
g5 = at-gate (Finished 1)

abbrev pub judged : StoreEntry
judged = at-store (Judged 0 (stamp 1) (Create v ∷ []) [] (Committed 1 [] (record { vertex = v; before = 0 } ∷ [])))

abbrev pub s1 : ShardEntry
s1 = at-shard (Arrived 0 1 sent)

abbrev pub s2 : ShardEntry
s2 = at-shard (Applied 0 1)

abbrev pub s3 : ShardEntry
s3 = at-shard (Arrived 0 2 empty)

abbrev pub s4 : ShardEntry
s4 = at-shard (Visited 1 (stamp 2) v 1 false)

abbrev pub s5 : ShardEntry
s5 = at-shard (Applied 0 2)

abbrev pub s6 : ShardEntry
s6 = at-shard (Collected (Some (clock 2)))

abbrev pub b1 : SessionEntry
b1 = in-session 0 (session.Begun 0 (stamp 1))

abbrev pub b2 : SessionEntry
b2 = in-session 0 (session.Replied 0)

abbrev pub b3 : SessionEntry
b3 = in-session 0 (session.Begun 1 (stamp 2))

abbrev pub b4 : SessionEntry
b4 = in-session 0 (session.Replied 1)

abbrev pub account : Account
account = record {
  gates = (g1 ∷ g2 ∷ g3 ∷ g4 ∷ g5 ∷ []) ∷ [];
  store = judged ∷ [];
  oracle = [];
  shards = (s1 ∷ s2 ∷ s3 ∷ s4 ∷ s5 ∷ s6 ∷ []) ∷ [];
  sessions = (b1 ∷ b2 ∷ b3 ∷ b4 ∷ []) ∷ [];
}

-- Each log of gatekeeper 0

fits : (home : ℕ) → IsGateLog home 1 (gate_log account home)
fits (suc home) = each_none _
fits zero =
    five (λ before (entry : GateEntry). FitsAs 0 1 before entry.author entry.deed) g1 g2 g3 g4 g5
    (record { alone = refl; begun = record { last = None; eight = λ x e. cc; is = refl } })
    (record { stamp = stamp 1; flight = refl; ops = Create v ∷ []; verdict = Committed 1 [] (record { vertex = v; before = 0 } ∷ []); counts = refl; messages_are = refl })
    (record { last = None; eight = λ x e. cc; is = refl })
    (record { alone = refl; shard_is = omega arith; stamp_is = refl; number_is = refl; low_is = refl })
    refl

begins : (home : ℕ)
    → AtEachEntry (λ before (entry : GateEntry). BeginsAs script account home before entry.deed) (gate_log account home)
begins (suc home) = each_none _
begins zero =
    five (λ before (entry : GateEntry). BeginsAs script account 0 before entry.deed) g1 g2 g3 g4 g5
    (record { own = refl; small = refl; stamp_is = refl; hears_no_more = λ x e. cc })
    tt
    (record { own = refl; small = refl; stamp_is = refl; hears_no_more = λ x e. (let same : stamp 1 ≡ x = cc in subst (λ (s : Stamp). IsTrue (counts_no_more 0 (clock 1) s.clock)) same refl) })
    tt
    tt

sends : (home : ℕ)
    → AtEachEntry (λ before (entry : GateEntry). SendsAs account 1 before entry.author entry.deed) (gate_log account home)
sends (suc home) = each_none _
sends zero =
    five (λ before (entry : GateEntry). SendsAs account 1 before entry.author entry.deed) g1 g2 g3 g4 g5
    tt
    (record { judged = judged_by 0 judged.deed; is_judged = in-one _; request_is = refl; messages_are = refl })
    tt
    tt
    tt

-- The store

judges : AreJudgements script account account.store
judges =
    each_push _ [] judged (each_none _)
    (record {
      home = 0;
      begun = in-one _;
      work = refl;
      asked = refl;
      verdict = record { number_is = refl; graph = _; passes = refl; counts_are = refl; after_last = λ w h x e. cc };
    })

-- The shard

two-sent : Contains (addressed_to 0 (gate_log account 0)) (record { shard = 0; number = 2; message = empty })
two-sent = (1, omega arith, refl)

deeds : (shard : ℕ)
    → AreShardDeeds script account shard (shard_log account shard)
deeds (suc shard) = each_none _
deeds zero =
    six (λ before (entry : ShardEntry). ShardFitsAs script account 0 before entry.deed) s1 s2 s3 s4 s5 s6
    (record { sent = (0, omega arith, refl); new = refl })
    (record { number_is = refl; message = sent; head = refl; in_turn = refl })
    (record { sent = two-sent; new = refl })
    (record {
      home = 0;
      author = 0;
      begun = in-one _;
      kept_here = refl;
      ready = refl;
      applied = omega arith;
      after_seen = λ some u e. (let same : record { stamp = stamp 1; ops = Create v ∷ [] } ≡ u = cc in subst (λ (k : Update). Precedence account k.stamp (stamp 2)) same (ByStamps (stamp 1) (stamp 2) refl));
      before_skipped = λ u e. cc;
    })
    (record { number_is = refl; message = empty; head = refl; in_turn = refl })
    refl

-- The sessions

session-fits : (number : ℕ)
    → AtEachEntry (λ before (entry : SessionEntry). (entry.author ≡ number) × FitsSession (session_of (requests_of_session script number) before) entry.deed) (session_log account number)
session-fits (suc number) = each_none _
session-fits zero =
    four (λ before (entry : SessionEntry). (entry.author ≡ 0) × FitsSession (session_of (requests_of_session script 0) before) entry.deed) b1 b2 b3 b4
    (refl, record { replied = refl; next = refl; rises = λ x e. cc })
    (refl, record { waits = refl; last = refl })
    (refl, record { replied = refl; next = refl; rises = λ x e. (let same : stamp 1 ≡ x = cc in subst (λ (s : Stamp). IsTrue (stamp_before s (stamp 2))) same refl) })
    (refl, record { waits = refl; last = refl })

session-replies : (number : ℕ)
    → AtEachEntry (λ before (entry : SessionEntry). RepliesAs account entry.deed) (session_log account number)
session-replies (suc number) = each_none _
session-replies zero = four (λ before (entry : SessionEntry). RepliesAs account entry.deed) b1 b2 b3 b4 tt refl tt refl

session-stamps : (r : ℕ) (request : Request) → request_at script r ≡ Some request
    → session_stamp_of r (session_log account request.session) ≡ stamp_of account r
session-stamps zero request e =
    let same : record { name = codes "t1"; session = 0; gate = 0; work = Change (Create v ∷ []) } ≡ request = cc in subst (λ (q : Request). session_stamp_of 0 (session_log account q.session) ≡ stamp_of account 0) same refl
session-stamps (suc zero) request e =
    let same : record { name = codes "p"; session = 0; gate = 0; work = Look (Show v) } ≡ request = cc in subst (λ (q : Request). session_stamp_of 1 (session_log account q.session) ≡ stamp_of account 1) same refl
session-stamps (suc (suc r)) request e = cc

-- Clocks

clock-known : (n : ℕ) → n ≤ 3 → IsKnown account (clock n)
clock-known n le = record { eight = refl; counts = at; raised = λ differ. absurd (differ refl) }
  where
    at : (home : ℕ) → count_of home (clock n) ≤ ticks_of 0 (gate_log account home)
    at zero = le
    at (suc home) = let e : count_of (suc home) (clock n) ≡ 0 = zeros 7 home in omega (arith, e)

known : (home : ℕ) (c : Clock) → Contains (clocks_in (gate_log account home)) c → IsKnown account c
known (suc home) c h = absurd (has_none c h)
known zero c h =
    of-each (IsKnown account) (clock 1 ∷ clock 1 ∷ clock 1 ∷ clock 2 ∷ clock 3 ∷ clock 2 ∷ [])
    (clock-known 1 (omega arith), (clock-known 1 (omega arith), (clock-known 1 (omega arith), (clock-known 2 (omega arith), (clock-known 3 (omega arith), (clock-known 2 (omega arith), tt)))))) c h

hears : (home : ℕ) → AtEachEntry (λ before (entry : GateEntry). HearsAs home before entry.deed) (gate_log account home)
hears (suc home) = each_none _
hears zero = five (λ before (entry : GateEntry). HearsAs 0 before entry.deed) g1 g2 g3 g4 g5 tt tt tt tt tt

-- Programs

reads-in-turn : (r : ℕ) (request : Request) (program : Program) → request_at script r ≡ Some request → request.work ≡ Look program
    → ReadsInTurn (reads_of account r) program (IsTrue (is_ended account r))
reads-in-turn zero request program e w =
    let same : record { name = codes "t1"; session = 0; gate = 0; work = Change (Create v ∷ []) } ≡ request = cc in
    let clash : Change (Create v ∷ []) ≡ Look program = ap (λ (q : Request). q.work) same ∙ w in cc
reads-in-turn (suc zero) request program e w =
    let same : record { name = codes "p"; session = 0; gate = 0; work = Look (Show v) } ≡ request = cc in
    let works : Look (Show v) ≡ Look program = ap (λ (q : Request). q.work) same ∙ w in
    let is : Show v ≡ program = cc in
    subst (λ (k : Program). ReadsInTurn (reads_of account 1) k (IsTrue (is_ended account 1))) is (record {
      once = pairs-one (λ (a b : Name × State). a.0 ≢ b.0) (v, Some (record { props = []; edges = [] }));
      first_ones = λ u. (λ h. h, λ h. h);
      whole = λ done. refl;
    })
reads-in-turn (suc (suc r)) request program e w = cc

-- The visit is not marked, and the program has its reply

none-marked : (shard : ℕ) (visit : Visit) → Contains (visits_of (shard_log account shard)) visit → IsTrue visit.settled
    → HasItsEntry account (shard_log account shard) visit
none-marked zero visit h marked =
    let same = only (record { author = 0; request = 1; stamp = stamp 2; vertex = v; updates = 1; settled = false }) visit h in let clash : IsTrue false = subst (λ (w : Visit). IsTrue w.settled) (sym same) marked in cc
none-marked (suc shard) visit h marked = absurd (has_none visit h)

finished-replied : (r : ℕ) (request : Request) → request_at script r ≡ Some request → IsTrue (is_look request.work)
    → IsTrue (is_ended account r) → IsTrue (has_reply_in r (session_log account request.session))
finished-replied zero request e look done =
    let same : record { name = codes "t1"; session = 0; gate = 0; work = Change (Create v ∷ []) } ≡ request = cc in let clash : IsTrue (is_look (Change (Create v ∷ []))) = subst (λ (q : Request). IsTrue (is_look q.work)) (sym same) look in cc
finished-replied (suc zero) request e look done =
    let same : record { name = codes "p"; session = 0; gate = 0; work = Look (Show v) } ≡ request = cc in subst (λ (q : Request). IsTrue (has_reply_in 1 (session_log account q.session))) same refl
finished-replied (suc (suc r)) request e look done = cc

-- The account

-- the logs of this example, in which a program reads what a transaction of its session created, are an account
pub worked : IsAccount script account
worked =
    record {
      gatekeepers = record { as_many = refl; logs = fits; begins = begins; once = pairs-two (λ (a b : BegunRequest). a.request ≢ b.request) _ _ (λ e. cc) };
      clocks = record { known = known; hears_no_more = hears };
      sessions = record { logs = session-fits; stamps = session-stamps; replies = session-replies; finished_are_replied = finished-replied };
      store = record { judges = judges; once = pairs-one (λ (a b : Judgement). a.request ≢ b.request) _; in_turn = pairs-one (λ (a b : Judgement). InTurn script a.request b.request) _ };
      oracle = record {
        log = tt;
        asked = λ entry h. absurd (has_none entry h);
        marked = none-marked;
        once = λ i j d below within. absurd (omega (arith, within));
      };
      channels = sends;
      shards = record { as_many = refl; deeds = deeds };
      programs = reads-in-turn;
    }
