-- A worked account: a conflict through a path. The last transaction is before the first by its stamp, and the oracle
-- put the first before the second; so the last one precedes the second, and conflicts with it.
-- Used by ExampleReports.
use Rattle.std.proofs.Common.{◌≡◌, ◌≢◌, ℕ, zero, suc, ◌≤◌, false, List, [], ◌∷◌, Contains, IsTrue, Some, None, inl, refl, sym, ap, subst, arith}
use Rattle.std.specs.Prelude.{codes}
use Rattle.std.specs.Option.{ForSome}
use Rattle.weave_data.proofs.Members.{find_has, has_none}
use Rattle.vector_stamp.specs.declared.clock.Clock.{Clock}
use Rattle.vector_stamp.specs.declared.clock.Stamp.{Stamp}
use Rattle.vector_stamp.specs.Order.{count_of}
use Rattle.weave_data.specs.declared.name.Name.{Name}
use Rattle.graph_ops.specs.declared.op.Op.TheVariants.{Create, Get}
use Rattle.program_defs.specs.declared.script.Request.{Request}
use Rattle.program_defs.specs.declared.script.Script.{Script}
use Rattle.program_defs.specs.declared.script.Work.TheVariants.{Change, Look}
use Rattle.weave_entries.specs.declared.gate_log.GateEntry.{GateEntry}
use Rattle.weave_entries.specs.declared.gate_log.GateDeed.TheVariants.{BeganTx, Sent, Heard}
use Rattle.weave_entries.specs.declared.message.Message.{Message}
use Rattle.weave_entries.specs.declared.store_log.StoreEntry.{StoreEntry}
use Rattle.weave_entries.specs.declared.store_log.StoreDeed.TheVariants.{Judged}
use Rattle.weave_entries.specs.declared.session_log.SessionEntry.{SessionEntry}
use Rattle.weave_entries.specs.declared.session_log.SessionDeed.TheVariants as session
use Rattle.weave_entries.specs.declared.verdict.Verdict.TheVariants.{Committed, Conflict}
use Rattle.weave_entries.specs.Logs.{AtEachEntry}
use Rattle.weave_entries.specs.GateRules.{FitsAs, IsGateLog, HearsAs}
use Rattle.weave_data.proofs.Entries.{each_none}
use Rattle.std.proofs.lemmas.Bool.{both_ways}
use Rattle.vector_stamp.specs.Precedence.{ByPair, ByStamps, Through}
use Rattle.graph_ops.specs.Mentions.{is_among}
use Rattle.weave_entries.specs.StoreReplay.{Commit, names_vertex, last_naming, Judgement, judged_by}
use Rattle.weave_account.specs.declared.account.Account.{Account}
use Rattle.weave_account.specs.Account.{Precedence, gate_log, session_log, stamp_of}
use Rattle.weave_account.specs.Gatekeepers.{BeginsAs}
use Rattle.weave_entries.specs.GateReplay.{BegunRequest, ticks_of}
use Rattle.weave_account.specs.Clocks.{IsKnown}
use Rattle.weave_account.specs.Sessions.{requests_of_session, RepliesAs}
use Rattle.weave_account.specs.IsAccount.{IsAccount}
use Rattle.weave_account.specs.Store.{AreJudgements, Judges, InTurn}
use Rattle.weave_account.specs.Channels.{SendsAs}
use Rattle.weave_account.specs.Shards.{ShardFitsAs}
use Rattle.weave_account.specs.Programs.{ReadsInTurn}
use Rattle.weave_entries.specs.SessionReplay.{FitsSession, session_of, session_stamp_of}
use Rattle.program_defs.specs.declared.program.Program.{Program}
use Rattle.report_rules.specs.Lookups.{request_at}
use Rattle.weave_data.proofs.Members.{only}
use Rattle.program_defs.specs.Works.{is_look}
use Rattle.weave_entries.specs.SessionReplay.{has_reply_in}
use Rattle.weave_account.specs.Account.{is_ended, reads_of}
use Rattle.weave_account.specs.Oracle.{IsAskedByCommit}
use Rattle.weave_entries.specs.OracleReplay.{settled_entry}
use Rattle.weave_entries.specs.declared.oracle_log.OracleEntry.{OracleEntry}
use Rattle.weave_account.proofs.ExampleLists.{in-one, of-each, one, pairs-three, three, two, zeros}
use Rattle.weave_account.proofs.ExampleParts.{at-gate, at-store, first-to, no-deeds, none-marked, one-settled, settles, clock-in}
use Rattle.weave_entries.specs.GateReplay.{clocks_in}
use Rattle.weave_account.specs.PairsByPlace.{placed_pairs}
use Rattle.graph_ops.specs.declared.op.Op.{Op}
use Rattle.graph_ops.specs.declared.tx.Got.{Got}
use Rattle.weave_entries.specs.declared.verdict.Verdict.{Verdict}
use Rattle.weave_entries.specs.declared.shard_log.ShardEntry.{ShardEntry}

abbrev pub u : Name
u = codes "w"

abbrev pub v : Name
v = codes "v"

abbrev pub x : Stamp
x = record { home = 0; clock = clock-in 0 1 0 1 }

abbrev pub y : Stamp
y = record { home = 1; clock = clock-in 0 0 1 0 }

abbrev pub z : Stamp
z = record { home = 2; clock = clock-in 0 0 0 1 }

-- Gatekeeper 0 hears of z's begin before x begins; so z is before x. The oracle puts x before y, for the first vertex.

abbrev x-ops : List Op
x-ops = Create u ∷ []

abbrev y-ops : List Op
y-ops = Get u ∷ Create v ∷ []

abbrev z-ops : List Op
z-ops = Get v ∷ []

abbrev tx : Request
tx = record { name = codes "x"; session = 0; gate = 0; work = Change x-ops }

abbrev ty : Request
ty = record { name = codes "y"; session = 1; gate = 1; work = Change y-ops }

abbrev tz : Request
tz = record { name = codes "z"; session = 2; gate = 2; work = Change z-ops }

abbrev pub script : Script
script = record { gates = 3; shards = 1; requests = tx ∷ ty ∷ tz ∷ []; phases = []; steps = None }

abbrev pub read-u : Got
read-u = record { op = 1; state = Some (record { props = []; edges = [] }) }

abbrev x-verdict : Verdict
x-verdict = Committed 1 [] (record { vertex = u; before = 0 } ∷ [])

abbrev y-verdict : Verdict
y-verdict = Committed 2 (read-u ∷ []) (record { vertex = u; before = 1 } ∷ record { vertex = v; before = 0 } ∷ [])

abbrev x-message : Message
x-message = record { request = Some 0; stamp = x; low = clock-in 0 1 0 1; parts = record { vertex = u; before = 0; ops = x-ops } ∷ [] }

abbrev y-message : Message
y-message =
    record { request = Some 1; stamp = y; low = clock-in 0 0 1 0; parts = record { vertex = u; before = 1; ops = Get u ∷ [] } ∷ record { vertex = v; before = 0; ops = Create v ∷ [] } ∷ [] }

abbrev hears-z : GateEntry
hears-z = at-gate (Heard (clock-in 0 0 0 1))

abbrev begins-x : GateEntry
begins-x = at-gate (BeganTx 0 x)

abbrev sends-x : GateEntry
sends-x = at-gate (Sent 0 (first-to x-message))

abbrev begins-y : GateEntry
begins-y = at-gate (BeganTx 1 y)

abbrev sends-y : GateEntry
sends-y = at-gate (Sent 1 (first-to y-message))

abbrev begins-z : GateEntry
begins-z = at-gate (BeganTx 2 z)

abbrev sends-z : GateEntry
sends-z = at-gate (Sent 2 [])

abbrev pub judges-x : StoreEntry
judges-x = at-store (Judged 0 x x-ops [] x-verdict)

abbrev pub judges-y : StoreEntry
judges-y = at-store (Judged 1 y y-ops (u ∷ []) y-verdict)

abbrev pub judges-z : StoreEntry
judges-z = at-store (Judged 2 z z-ops (v ∷ []) (Conflict v 1))

abbrev session-entry : ℕ → Stamp → SessionEntry
session-entry r stamp = record { author = r; deed = session.Begun r stamp }

abbrev pub account : Account
account = record {
  gates = (hears-z ∷ begins-x ∷ sends-x ∷ []) ∷ (begins-y ∷ sends-y ∷ []) ∷ (begins-z ∷ sends-z ∷ []) ∷ [];
  store = judges-x ∷ judges-y ∷ judges-z ∷ [];
  oracle = settles x y ∷ [];
  shards = [] ∷ [];
  sessions = (session-entry 0 x ∷ []) ∷ (session-entry 1 y ∷ []) ∷ (session-entry 2 z ∷ []) ∷ [];
}

-- Gatekeepers

fits : (home : ℕ) → IsGateLog home 1 (gate_log account home)
fits (suc (suc (suc home))) = each_none _
fits zero =
    three (λ before (entry : GateEntry). FitsAs 0 1 before entry.author entry.deed) hears-z begins-x sends-x
    refl
    (record { alone = refl; begun = record { last = None; eight = λ x e. cc; is = refl } })
    (record { stamp = x; flight = refl; ops = x-ops; verdict = x-verdict; counts = refl; messages_are = refl })
fits (suc zero) =
    two (λ before (entry : GateEntry). FitsAs 1 1 before entry.author entry.deed) begins-y sends-y
    (record { alone = refl; begun = record { last = None; eight = λ x e. cc; is = refl } })
    (record { stamp = y; flight = refl; ops = y-ops; verdict = y-verdict; counts = refl; messages_are = refl })
fits (suc (suc zero)) =
    two (λ before (entry : GateEntry). FitsAs 2 1 before entry.author entry.deed) begins-z sends-z
    (record { alone = refl; begun = record { last = None; eight = λ x e. cc; is = refl } })
    (record { stamp = z; flight = refl; ops = z-ops; verdict = Conflict v 1; counts = tt; messages_are = refl })

begins : (home : ℕ)
    → AtEachEntry (λ before (entry : GateEntry). BeginsAs script account home before entry.deed) (gate_log account home)
begins (suc (suc (suc home))) = each_none _
begins zero =
    three (λ before (entry : GateEntry). BeginsAs script account 0 before entry.deed) hears-z begins-x sends-x tt
    (record { own = refl; small = refl; stamp_is = refl; hears_no_more = λ x e. cc }) tt
begins (suc zero) =
    two (λ before (entry : GateEntry). BeginsAs script account 1 before entry.deed) begins-y sends-y
    (record { own = refl; small = refl; stamp_is = refl; hears_no_more = λ x e. cc }) tt
begins (suc (suc zero)) =
    two (λ before (entry : GateEntry). BeginsAs script account 2 before entry.deed) begins-z sends-z
    (record { own = refl; small = refl; stamp_is = refl; hears_no_more = λ x e. cc }) tt

sends : (home : ℕ)
    → AtEachEntry (λ before (entry : GateEntry). SendsAs account 1 before entry.author entry.deed) (gate_log account home)
sends (suc (suc (suc home))) = each_none _
sends zero =
    three (λ before (entry : GateEntry). SendsAs account 1 before entry.author entry.deed) hears-z begins-x sends-x tt tt
    (record { judged = judged_by 0 judges-x.deed; is_judged = (0, omega arith, refl); request_is = refl; messages_are = refl })
sends (suc zero) =
    two (λ before (entry : GateEntry). SendsAs account 1 before entry.author entry.deed) begins-y sends-y tt
    (record { judged = judged_by 0 judges-y.deed; is_judged = (1, omega arith, refl); request_is = refl; messages_are = refl })
sends (suc (suc zero)) =
    two (λ before (entry : GateEntry). SendsAs account 1 before entry.author entry.deed) begins-z sends-z tt
    (record { judged = judged_by 0 judges-z.deed; is_judged = (2, omega arith, refl); request_is = refl; messages_are = refl })

hears : (home : ℕ) → AtEachEntry (λ before (entry : GateEntry). HearsAs home before entry.deed) (gate_log account home)
hears (suc (suc (suc home))) = each_none _
hears zero = three (λ before (entry : GateEntry). HearsAs 0 before entry.deed) hears-z begins-x sends-x refl tt tt
hears (suc zero) = two (λ before (entry : GateEntry). HearsAs 1 before entry.deed) begins-y sends-y tt tt
hears (suc (suc zero)) = two (λ before (entry : GateEntry). HearsAs 2 before entry.deed) begins-z sends-z tt tt

-- The store

x-first : Precedence account x y
x-first = ByPair x y (0, omega arith, refl)

-- z precedes y: by the stamps it is before x, which the oracle put before y
z-first : Precedence account z y
z-first = Through z x y (ByStamps z x refl) x-first

abbrev commit-x : Commit
commit-x = record { request = 0; stamp = x; ops = x-ops }

abbrev commit-y : Commit
commit-y = record { request = 1; stamp = y; ops = y-ops }

judges : AreJudgements script account account.store
judges =
    three (λ before (entry : StoreEntry). Judges script account before (judged_by entry.author entry.deed)) judges-x judges-y judges-z
    (record { home = 0; begun = in-one _; work = refl; asked = refl; verdict = record { number_is = refl; graph = _; passes = refl; counts_are = refl; after_last = λ w h l e. cc } })
    (record { home = 1; begun = in-one _; work = refl; asked = refl; verdict = record { number_is = refl; graph = _; passes = refl; counts_are = refl; after_last = after } })
    (record { home = 2; begun = in-one _; work = refl; asked = refl; verdict = record { named = refl; last = commit-y; last_is = refl; newer_is = refl; precedes = z-first } })
  where
    after : (w : Name) → IsTrue (is_among (u ∷ v ∷ []) w)
        → ForSome (last_naming w (commit-x ∷ [])) (λ (last : Commit). Precedence account last.stamp y)
    after w named l e =
        let found = find_has (names_vertex w) (commit-x ∷ []) l e in
        let is = only commit-x l found.0 in
        subst (λ (c : Commit). Precedence account c.stamp y) is x-first

-- The oracle

asked : (entry : OracleEntry) → Contains account.oracle entry → IsAskedByCommit account (settled_entry entry)
asked entry h = subst (λ (e : OracleEntry). IsAskedByCommit account (settled_entry e)) (only (settles x y) entry h) (record {
  before = judges-x ∷ [];
  entry = judges-y;
  after = judges-z ∷ [];
  at = refl;
  commit = commit-y;
  commit_is = refl;
  later_is = refl;
  earlier_are = refl;
})

-- computed from the logs, by place
placed : placed_pairs account ≡ record { vertex = u; earlier = 0; later = 1 } ∷ []
placed = refl

-- All requests are transactions

all-change : (r : ℕ) (request : Request) → request_at script r ≡ Some request → is_look request.work ≡ false
all-change zero request e = let same : tx ≡ request = cc in ap (λ (q : Request). is_look q.work) (sym same)
all-change (suc zero) request e = let same : ty ≡ request = cc in ap (λ (q : Request). is_look q.work) (sym same)
all-change (suc (suc zero)) request e = let same : tz ≡ request = cc in ap (λ (q : Request). is_look q.work) (sym same)
all-change (suc (suc (suc r))) request e = cc

finished-replied : (r : ℕ) (request : Request) → request_at script r ≡ Some request → IsTrue (is_look request.work)
    → IsTrue (is_ended account r) → IsTrue (has_reply_in r (session_log account request.session))
finished-replied r request e look done = absurd (both_ways _ (all-change r request e) look)

no-program : (r : ℕ) (request : Request) (program : Program) → request_at script r ≡ Some request → request.work ≡ Look program
    → ReadsInTurn (reads_of account r) program (IsTrue (is_ended account r))
no-program r request program e w = absurd (both_ways _ (all-change r request e) (ap is_look w))

-- Sessions

session-fits : (number : ℕ)
    → AtEachEntry (λ before (entry : SessionEntry). (entry.author ≡ number) × FitsSession (session_of (requests_of_session script number) before) entry.deed) (session_log account number)
session-fits (suc (suc (suc number))) = each_none _
session-fits zero =
    one (λ before (entry : SessionEntry). (entry.author ≡ 0) × FitsSession (session_of (requests_of_session script 0) before) entry.deed)
    (session-entry 0 x) (refl, record { replied = refl; next = refl; rises = λ x e. cc })
session-fits (suc zero) =
    one (λ before (entry : SessionEntry). (entry.author ≡ 1) × FitsSession (session_of (requests_of_session script 1) before) entry.deed)
    (session-entry 1 y) (refl, record { replied = refl; next = refl; rises = λ x e. cc })
session-fits (suc (suc zero)) =
    one (λ before (entry : SessionEntry). (entry.author ≡ 2) × FitsSession (session_of (requests_of_session script 2) before) entry.deed)
    (session-entry 2 z) (refl, record { replied = refl; next = refl; rises = λ x e. cc })

session-replies : (number : ℕ)
    → AtEachEntry (λ before (entry : SessionEntry). RepliesAs account entry.deed) (session_log account number)
session-replies (suc (suc (suc number))) = each_none _
session-replies zero = one (λ before (entry : SessionEntry). RepliesAs account entry.deed) (session-entry 0 x) tt
session-replies (suc zero) = one (λ before (entry : SessionEntry). RepliesAs account entry.deed) (session-entry 1 y) tt
session-replies (suc (suc zero)) = one (λ before (entry : SessionEntry). RepliesAs account entry.deed) (session-entry 2 z) tt

session-stamps : (r : ℕ) (request : Request) → request_at script r ≡ Some request
    → session_stamp_of r (session_log account request.session) ≡ stamp_of account r
session-stamps zero request e =
    let same : tx ≡ request = cc in subst (λ (q : Request). session_stamp_of 0 (session_log account q.session) ≡ stamp_of account 0) same refl
session-stamps (suc zero) request e =
    let same : ty ≡ request = cc in subst (λ (q : Request). session_stamp_of 1 (session_log account q.session) ≡ stamp_of account 1) same refl
session-stamps (suc (suc zero)) request e =
    let same : tz ≡ request = cc in subst (λ (q : Request). session_stamp_of 2 (session_log account q.session) ≡ stamp_of account 2) same refl
session-stamps (suc (suc (suc r))) request e = cc

-- Clocks

clock-known : (a b c : ℕ) → a ≤ 1 → b ≤ 1 → c ≤ 1 → IsKnown account (clock-in 0 a b c)
clock-known a b c la lb lc = record { eight = refl; counts = at; raised = λ differ. absurd (differ refl) }
  where
    at : (home : ℕ) → count_of home (clock-in 0 a b c) ≤ ticks_of 0 (gate_log account home)
    at zero = la
    at (suc zero) = lb
    at (suc (suc zero)) = lc
    at (suc (suc (suc home))) = let e : count_of (suc (suc (suc home))) (clock-in 0 a b c) ≡ 0 = zeros 5 home in omega (arith, e)

known : (home : ℕ) (c : Clock) → Contains (clocks_in (gate_log account home)) c → IsKnown account c
known (suc (suc (suc home))) c h = absurd (has_none c h)
known zero c h =
    of-each (IsKnown account) (clock-in 0 0 0 1 ∷ clock-in 0 1 0 1 ∷ clock-in 0 1 0 1 ∷ clock-in 0 1 0 1 ∷ [])
    (clock-known 0 0 1 (omega arith) (omega arith) (omega arith), (first, (first, (first, tt)))) c h
  where
    first : IsKnown account (clock-in 0 1 0 1)
    first = clock-known 1 0 1 (omega arith) (omega arith) (omega arith)
known (suc zero) c h =
    of-each (IsKnown account) (clock-in 0 0 1 0 ∷ clock-in 0 0 1 0 ∷ clock-in 0 0 1 0 ∷ []) (second, (second, (second, tt))) c h
  where
    second : IsKnown account (clock-in 0 0 1 0)
    second = clock-known 0 1 0 (omega arith) (omega arith) (omega arith)
known (suc (suc zero)) c h =
    of-each (IsKnown account) (clock-in 0 0 0 1 ∷ []) (clock-known 0 0 1 (omega arith) (omega arith) (omega arith), tt) c h

-- the logs of this example, with a conflict through a stamp and a pair of the oracle, are an account
pub worked-path : IsAccount script account
worked-path =
    record {
      gatekeepers = record { as_many = refl; logs = fits; begins = begins; once = pairs-three (λ (a b : BegunRequest). a.request ≢ b.request) _ _ _ (λ e. cc) (λ e. cc) (λ e. cc) };
      clocks = record { known = known; hears_no_more = hears };
      sessions = record { logs = session-fits; stamps = session-stamps; replies = session-replies; finished_are_replied = finished-replied };
      store = record {
        judges = judges;
        once = pairs-three (λ (a b : Judgement). a.request ≢ b.request) _ _ _ (λ e. cc) (λ e. cc) (λ e. cc);
        in_turn = pairs-three (λ (a b : Judgement). InTurn script a.request b.request) _ _ _ (λ e. cc) (λ e. cc) (λ e. cc);
      };
      oracle = record {
        log = one-settled x y (λ same. omega (arith, same)) refl refl;
        asked = λ entry h. inl (asked entry h);
        marked = none-marked account [] refl refl;
        once = λ i j d below within. absurd (omega (arith, within));
      };
      channels = sends;
      shards = record { as_many = refl; deeds = no-deeds account (λ shard before (entry : ShardEntry). ShardFitsAs script account shard before entry.deed) refl };
      programs = no-program;
    }
