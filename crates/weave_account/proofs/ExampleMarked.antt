-- A worked account: a transaction creates a and b and links them, and an unordered program asks whether b can be
-- reached from a. The vertices are kept by two shards. The first visit asks the oracle, which puts the transaction
-- before the program; the second one finds that pair.
-- Used by ExampleReports and WrongLogs.
use Rattle.std.proofs.Common.{◌≡◌, ◌≢◌, ℕ, zero, suc, Bool, true, false, ◌||◌, List, [], ◌∷◌, get_or, Contains, IsTrue, Some, None, inr, refl, sym, ap, subst, ◌∙◌, arith}
use Rattle.std.specs.Prelude.{codes, slice_get}
use Rattle.weave_data.proofs.Entries.{each_none}
use Rattle.weave_data.proofs.Members.{has_none, only}
use Rattle.vector_stamp.specs.Precedence.{ByPair}
use Rattle.weave_data.specs.Names.{same_name}
use Rattle.graph_ops.specs.Operations.{State}
use Rattle.program_defs.specs.declared.program.Program.{Program}
use Rattle.weave_entries.specs.Logs.{AtEachEntry}
use Rattle.weave_entries.specs.GateReplay.{BegunRequest, clocks_in}
use Rattle.weave_entries.specs.GateRules.{FitsAs, IsGateLog, HearsAs}
use Rattle.weave_entries.specs.OracleReplay.{settled_entry}
use Rattle.weave_entries.specs.SessionReplay.{FitsSession, session_of}
use Rattle.weave_entries.specs.ShardReplay.{Update, Visit, updates_of, visits_of}
use Rattle.weave_entries.specs.StoreReplay.{Judgement, judged_by}
use Rattle.report_rules.specs.Lookups.{request_at}
use Rattle.weave_account.specs.Account.{Precedence, gate_log, is_ended, reads_of, session_log, shard_log}
use Rattle.weave_account.specs.Channels.{SendsAs}
use Rattle.weave_account.specs.Clocks.{IsKnown}
use Rattle.weave_account.specs.Gatekeepers.{BeginsAs}
use Rattle.weave_account.specs.IsAccount.{IsAccount}
use Rattle.weave_account.specs.Oracle.{HasItsEntry, IsAskedByVisit}
use Rattle.weave_account.specs.PairsByPlace.{placed_pairs}
use Rattle.weave_account.specs.Programs.{ReadsInTurn}
use Rattle.weave_account.specs.Sessions.{RepliesAs, requests_of_session}
use Rattle.weave_account.specs.Shards.{AreShardDeeds, ShardFitsAs, update_at}
use Rattle.weave_account.specs.Store.{AreJudgements, InTurn, Judges}
use Rattle.weave_account.proofs.ExampleLists.{five, four, in-one, of-each, one, pairs-one, pairs-two, two}
use Rattle.weave_account.proofs.ExampleParts.{HasSessionStamp, IsRepliedIfFinished, at-gate, at-shard, at-store, clock, in-session, two-known, of-two, one-settled, settles}
use Rattle.vector_stamp.specs.declared.clock.Clock.{Clock}
use Rattle.vector_stamp.specs.declared.clock.Stamp.{Stamp}
use Rattle.weave_data.specs.declared.name.Name.{Name}
use Rattle.graph_ops.specs.declared.op.Op.{Op}
use Rattle.graph_ops.specs.declared.op.Op.TheVariants.{Create, Link}
use Rattle.program_defs.specs.declared.program.Program.TheVariants.{Reach}
use Rattle.program_defs.specs.declared.script.Request.{Request}
use Rattle.program_defs.specs.declared.script.Script.{Script}
use Rattle.program_defs.specs.declared.script.Work.TheVariants.{Change, Look}
use Rattle.weave_entries.specs.declared.gate_log.GateEntry.{GateEntry}
use Rattle.weave_entries.specs.declared.gate_log.GateDeed.TheVariants.{BeganTx, BeganProgram, Sent, Nop, Heard, Finished}
use Rattle.weave_entries.specs.declared.message.Message.{Message}
use Rattle.weave_entries.specs.declared.oracle_log.OracleEntry.{OracleEntry}
use Rattle.weave_entries.specs.declared.store_log.StoreEntry.{StoreEntry}
use Rattle.weave_entries.specs.declared.store_log.StoreDeed.TheVariants.{Judged}
use Rattle.weave_entries.specs.declared.shard_log.ShardEntry.{ShardEntry}
use Rattle.weave_entries.specs.declared.shard_log.ShardDeed.TheVariants.{Arrived, Applied, Visited}
use Rattle.weave_entries.specs.declared.session_log.SessionEntry.{SessionEntry}
use Rattle.weave_entries.specs.declared.session_log.SessionDeed.TheVariants as session
use Rattle.weave_entries.specs.declared.verdict.Verdict.TheVariants.{Committed}
use Rattle.weave_account.specs.declared.account.Account.{Account}

abbrev pub a : Name
a = codes "a"

abbrev pub b : Name
b = codes "b"

abbrev pub at-first : ℕ → ℕ → Stamp
at-first m n = record { home = 0; clock = clock m n }

abbrev pub at-second : ℕ → ℕ → Stamp
at-second m n = record { home = 1; clock = clock m n }

abbrev pub ops : List Op
ops = Create a ∷ Create b ∷ Link a (codes "e") b ∷ []

abbrev pub t1 : Request
t1 = record { name = codes "t1"; session = 0; gate = 0; work = Change ops }

abbrev pub p : Request
p = record { name = codes "p"; session = 1; gate = 1; work = Look (Reach a b None) }

abbrev pub script : Script
script = record { gates = 2; shards = 2; requests = t1 ∷ p ∷ []; phases = []; steps = None }

-- b is kept by shard 0, and a by shard 1
abbrev pub of-b : Message
of-b =
    record { request = Some 0; stamp = at-first 1 0; low = clock 1 0; parts = record { vertex = b; before = 0; ops = Create b ∷ [] } ∷ [] }

abbrev pub of-a : Message
of-a =
    record { request = Some 0; stamp = at-first 1 0; low = clock 1 0; parts = record { vertex = a; before = 0; ops = Create a ∷ Link a (codes "e") b ∷ [] } ∷ [] }

abbrev pub empty : Stamp → Clock → Message
empty stamp low = record { request = None; stamp = stamp; low = low; parts = [] }

abbrev pub g1 : GateEntry
g1 = at-gate (BeganTx 0 (at-first 1 0))

abbrev pub g2 : GateEntry
g2 = at-gate (Sent 0 (record { shard = 0; number = 1; message = of-b } ∷ record { shard = 1; number = 1; message = of-a } ∷ []))

abbrev pub g3 : GateEntry
g3 = at-gate (Heard (clock 0 1))

abbrev pub g4 : GateEntry
g4 = at-gate (Nop 0 2 (at-first 2 1) (clock 2 1))

abbrev pub g5 : GateEntry
g5 = at-gate (Nop 1 2 (at-first 3 1) (clock 3 1))

abbrev pub h1 : GateEntry
h1 = at-gate (BeganProgram 1 (at-second 0 1))

abbrev pub h2 : GateEntry
h2 = at-gate (Nop 0 1 (at-second 0 2) (clock 0 1))

abbrev pub h3 : GateEntry
h3 = at-gate (Nop 1 1 (at-second 0 3) (clock 0 1))

abbrev pub h4 : GateEntry
h4 = at-gate (Finished 1)

abbrev pub judged : StoreEntry
judged = at-store (Judged 0 (at-first 1 0) ops [] (Committed 1 [] (record { vertex = a; before = 0 } ∷ record { vertex = b; before = 0 } ∷ [])))

-- at either shard the message of the transaction is applied, and empty ones of both gatekeepers follow
abbrev pub arrives : Message → ShardEntry
arrives message = at-shard (Arrived 0 1 message)

abbrev pub applies : ShardEntry
applies = at-shard (Applied 0 1)

abbrev pub first-empty : Stamp → Clock → ShardEntry
first-empty stamp low = at-shard (Arrived 0 2 (empty stamp low))

abbrev pub second-empty : Stamp → Clock → ShardEntry
second-empty stamp low = at-shard (Arrived 1 1 (empty stamp low))

abbrev pub visits-b : Bool → ShardEntry
visits-b settled = at-shard (Visited 1 (at-second 0 1) b 1 settled)

abbrev pub visits-a : ShardEntry
visits-a = at-shard (Visited 1 (at-second 0 1) a 1 true)

abbrev pub shard-b : Bool → List ShardEntry
shard-b settled =
    arrives of-b ∷ applies ∷ first-empty (at-first 2 1) (clock 2 1) ∷ second-empty (at-second 0 2) (clock 0 1) ∷ visits-b settled ∷ []

abbrev pub shard-a : List ShardEntry
shard-a =
    arrives of-a ∷ applies ∷ first-empty (at-first 3 1) (clock 3 1) ∷ second-empty (at-second 0 3) (clock 0 1) ∷ visits-a ∷ []

abbrev pub b1 : SessionEntry
b1 = in-session 0 (session.Begun 0 (at-first 1 0))

abbrev pub b2 : SessionEntry
b2 = in-session 0 (session.Replied 0)

abbrev pub b3 : SessionEntry
b3 = in-session 1 (session.Begun 1 (at-second 0 1))

abbrev pub b4 : SessionEntry
b4 = in-session 1 (session.Replied 1)

abbrev pub account : Account
account = record {
  gates = (g1 ∷ g2 ∷ g3 ∷ g4 ∷ g5 ∷ []) ∷ (h1 ∷ h2 ∷ h3 ∷ h4 ∷ []) ∷ [];
  store = judged ∷ [];
  oracle = settles (at-first 1 0) (at-second 0 1) ∷ [];
  shards = shard-b false ∷ shard-a ∷ [];
  sessions = (b1 ∷ b2 ∷ []) ∷ (b3 ∷ b4 ∷ []) ∷ [];
}

-- Gatekeepers

fits : (home : ℕ) → IsGateLog home 2 (gate_log account home)
fits (suc (suc home)) = each_none _
fits zero =
    five (λ before (entry : GateEntry). FitsAs 0 2 before entry.author entry.deed) g1 g2 g3 g4 g5
    (record { alone = refl; begun = record { last = None; eight = λ x e. cc; is = refl } })
    (record { stamp = at-first 1 0; flight = refl; ops = ops; verdict = Committed 1 [] (record { vertex = a; before = 0 } ∷ record { vertex = b; before = 0 } ∷ []); counts = refl; messages_are = refl })
    refl
    (record { alone = refl; shard_is = omega arith; stamp_is = refl; number_is = refl; low_is = refl })
    (record { alone = refl; shard_is = omega arith; stamp_is = refl; number_is = refl; low_is = refl })
fits (suc zero) =
    four (λ before (entry : GateEntry). FitsAs 1 2 before entry.author entry.deed) h1 h2 h3 h4
    (record { last = None; eight = λ x e. cc; is = refl })
    (record { alone = refl; shard_is = omega arith; stamp_is = refl; number_is = refl; low_is = refl })
    (record { alone = refl; shard_is = omega arith; stamp_is = refl; number_is = refl; low_is = refl })
    refl

begins : (home : ℕ)
    → AtEachEntry (λ before (entry : GateEntry). BeginsAs script account home before entry.deed) (gate_log account home)
begins (suc (suc home)) = each_none _
begins zero =
    five (λ before (entry : GateEntry). BeginsAs script account 0 before entry.deed) g1 g2 g3 g4 g5
    (record { own = refl; small = refl; stamp_is = refl; hears_no_more = λ x e. cc }) tt tt tt tt
begins (suc zero) =
    four (λ before (entry : GateEntry). BeginsAs script account 1 before entry.deed) h1 h2 h3 h4
    (record { own = refl; small = refl; stamp_is = refl; hears_no_more = λ x e. cc }) tt tt tt

sends : (home : ℕ)
    → AtEachEntry (λ before (entry : GateEntry). SendsAs account 2 before entry.author entry.deed) (gate_log account home)
sends (suc (suc home)) = each_none _
sends zero =
    five (λ before (entry : GateEntry). SendsAs account 2 before entry.author entry.deed) g1 g2 g3 g4 g5
    tt
    (record { judged = judged_by 0 judged.deed; is_judged = in-one _; request_is = refl; messages_are = refl })
    tt
    tt
    tt
sends (suc zero) = four (λ before (entry : GateEntry). SendsAs account 2 before entry.author entry.deed) h1 h2 h3 h4 tt tt tt tt

hears : (home : ℕ) → AtEachEntry (λ before (entry : GateEntry). HearsAs home before entry.deed) (gate_log account home)
hears (suc (suc home)) = each_none _
hears zero = five (λ before (entry : GateEntry). HearsAs 0 before entry.deed) g1 g2 g3 g4 g5 tt tt refl tt tt
hears (suc zero) = four (λ before (entry : GateEntry). HearsAs 1 before entry.deed) h1 h2 h3 h4 tt tt tt tt

-- The store

judges : AreJudgements script account account.store
judges =
    one (λ before (entry : StoreEntry). Judges script account before (judged_by entry.author entry.deed)) judged
    (record { home = 0; begun = in-one _; work = refl; asked = refl; verdict = record { number_is = refl; graph = _; passes = refl; counts_are = refl; after_last = λ w h l e. cc } })

-- The oracle

settled : Precedence account (at-first 1 0) (at-second 0 1)
settled = ByPair (at-first 1 0) (at-second 0 1) (0, omega arith, refl)

abbrev seen-a : Visit
seen-a = record { author = 0; request = 1; stamp = at-second 0 1; vertex = a; updates = 1; settled = true }

abbrev seen-b : Visit
seen-b = record { author = 0; request = 1; stamp = at-second 0 1; vertex = b; updates = 1; settled = false }

asked : (entry : OracleEntry) → Contains account.oracle entry → IsAskedByVisit account (settled_entry entry)
asked entry h = subst (λ (e : OracleEntry). IsAskedByVisit account (settled_entry e)) (only (settles (at-first 1 0) (at-second 0 1)) entry h) (record {
  shard = 1;
  visit = seen-a;
  visited = in-one seen-a;
  marked = refl;
  later_is = refl;
  earlier_is = refl;
})

marked : (shard : ℕ) (visit : Visit) → Contains (visits_of (shard_log account shard)) visit → IsTrue visit.settled
    → HasItsEntry account (shard_log account shard) visit
marked zero visit h yes-marked =
    let clash : IsTrue false = subst (λ (w : Visit). IsTrue w.settled) (sym (only seen-b visit h)) yes-marked in cc
marked (suc zero) visit h yes-marked =
    subst (HasItsEntry account (shard_log account 1)) (only seen-a visit h)
    (record { entry = settles (at-first 1 0) (at-second 0 1); is_there = in-one (settles (at-first 1 0) (at-second 0 1)); later_is = refl; earlier_is = refl })
marked (suc (suc shard)) visit h yes-marked = absurd (has_none visit h)

-- The pair, as it is computed from the logs by place

placed : placed_pairs account ≡ record { vertex = a; earlier = 0; later = 1 } ∷ []
placed = refl

-- The shards

visits : (v : Name) (os : List Op) (log : List ShardEntry) → updates_of v log ≡ record { stamp = at-first 1 0; ops = os } ∷ []
    → (u : Update) → update_at v 0 log ≡ Some u → Precedence account u.stamp (at-second 0 1)
visits v os log are u e =
    let at : Some (record { stamp = at-first 1 0; ops = os }) ≡ Some u = sym (ap (λ us. slice_get us 0) are) ∙ e in
    let same : record { stamp = at-first 1 0; ops = os } ≡ u = cc in
    subst (λ (k : Update). Precedence account k.stamp (at-second 0 1)) same settled

deeds : (shard : ℕ)
    → AreShardDeeds script account shard (shard_log account shard)
deeds (suc (suc shard)) = each_none _
deeds zero =
    five (λ before (entry : ShardEntry). ShardFitsAs script account 0 before entry.deed) (arrives of-b) applies
    (first-empty (at-first 2 1) (clock 2 1)) (second-empty (at-second 0 2) (clock 0 1)) (visits-b false)
    (record { sent = (0, omega arith, refl); new = refl })
    (record { number_is = refl; message = of-b; head = refl; in_turn = refl })
    (record { sent = (1, omega arith, refl); new = refl })
    (record { sent = (0, omega arith, refl); new = refl })
    (record {
      home = 1;
      author = 0;
      begun = in-one _;
      kept_here = refl;
      ready = refl;
      applied = omega arith;
      after_seen = λ some u e. visits b (Create b ∷ []) (arrives of-b ∷ applies ∷ first-empty (at-first 2 1) (clock 2 1) ∷ second-empty (at-second 0 2) (clock 0 1) ∷ []) refl u e;
      before_skipped = λ u e. cc;
    })
deeds (suc zero) =
    five (λ before (entry : ShardEntry). ShardFitsAs script account 1 before entry.deed) (arrives of-a) applies
    (first-empty (at-first 3 1) (clock 3 1)) (second-empty (at-second 0 3) (clock 0 1)) visits-a
    (record { sent = (0, omega arith, refl); new = refl })
    (record { number_is = refl; message = of-a; head = refl; in_turn = refl })
    (record { sent = (1, omega arith, refl); new = refl })
    (record { sent = (0, omega arith, refl); new = refl })
    (record {
      home = 1;
      author = 0;
      begun = in-one _;
      kept_here = refl;
      ready = refl;
      applied = omega arith;
      after_seen = λ some u e. visits a (Create a ∷ Link a (codes "e") b ∷ []) (arrives of-a ∷ applies ∷ first-empty (at-first 3 1) (clock 3 1) ∷ second-empty (at-second 0 3) (clock 0 1) ∷ []) refl u e;
      before_skipped = λ u e. cc;
    })

-- Sessions

session-fits : (number : ℕ)
    → AtEachEntry (λ before (entry : SessionEntry). (entry.author ≡ number) × FitsSession (session_of (requests_of_session script number) before) entry.deed) (session_log account number)
session-fits (suc (suc number)) = each_none _
session-fits zero =
    two (λ before (entry : SessionEntry). (entry.author ≡ 0) × FitsSession (session_of (requests_of_session script 0) before) entry.deed) b1 b2
    (refl, record { replied = refl; next = refl; rises = λ x e. cc })
    (refl, record { waits = refl; last = refl })
session-fits (suc zero) =
    two (λ before (entry : SessionEntry). (entry.author ≡ 1) × FitsSession (session_of (requests_of_session script 1) before) entry.deed) b3 b4
    (refl, record { replied = refl; next = refl; rises = λ x e. cc })
    (refl, record { waits = refl; last = refl })

session-replies : (number : ℕ)
    → AtEachEntry (λ before (entry : SessionEntry). RepliesAs account entry.deed) (session_log account number)
session-replies (suc (suc number)) = each_none _
session-replies zero = two (λ before (entry : SessionEntry). RepliesAs account entry.deed) b1 b2 tt refl
session-replies (suc zero) = two (λ before (entry : SessionEntry). RepliesAs account entry.deed) b3 b4 tt refl

-- Clocks

known : (home : ℕ) (c : Clock) → Contains (clocks_in (gate_log account home)) c → IsKnown account c
known (suc (suc home)) c h = absurd (has_none c h)
known zero c h =
    of-each (IsKnown account)
    (clock 1 0 ∷ clock 1 0 ∷ clock 1 0 ∷ clock 1 0 ∷ clock 1 0 ∷ clock 0 1 ∷ clock 2 1 ∷ clock 2 1 ∷ clock 3 1 ∷ clock 3 1 ∷ [])
    (first, (first, (first, (first, (first, (two-known account 0 1 (omega arith) (omega arith), (second, (second, (third, (third, tt)))))))))) c h
  where
    first : IsKnown account (clock 1 0)
    first = two-known account 1 0 (omega arith) (omega arith)

    second : IsKnown account (clock 2 1)
    second = two-known account 2 1 (omega arith) (omega arith)

    third : IsKnown account (clock 3 1)
    third = two-known account 3 1 (omega arith) (omega arith)
known (suc zero) c h =
    of-each (IsKnown account) (clock 0 1 ∷ clock 0 2 ∷ clock 0 1 ∷ clock 0 3 ∷ clock 0 1 ∷ [])
    (first, (two-known account 0 2 (omega arith) (omega arith), (first, (two-known account 0 3 (omega arith) (omega arith), (first, tt))))) c h
  where
    first : IsKnown account (clock 0 1)
    first = two-known account 0 1 (omega arith) (omega arith)

-- The program

other-way : (u : Name) (x y : Bool) → IsTrue (x || (y || false)) → IsTrue (y || (x || false))
other-way u true true h = refl
other-way u true false h = refl
other-way u false true h = refl
other-way u false false h = cc

reads-in-turn : (r : ℕ) (request : Request) (program : Program) → request_at script r ≡ Some request → request.work ≡ Look program
    → ReadsInTurn (reads_of account r) program (IsTrue (is_ended account r))
reads-in-turn zero request program e w =
    let same : t1 ≡ request = cc in let clash : Change ops ≡ Look program = ap (λ (q : Request). q.work) same ∙ w in cc
reads-in-turn (suc zero) request program e w =
    let same : p ≡ request = cc in
    let works : Look (Reach a b None) ≡ Look program = ap (λ (q : Request). q.work) same ∙ w in
    let is : Reach a b None ≡ program = cc in
    subst (λ (k : Program). ReadsInTurn (reads_of account 1) k (IsTrue (is_ended account 1))) is (record {
      once = pairs-two (λ (x y : Name × State). x.0 ≢ y.0) _ _ (λ e. differ e);
      first_ones = λ u. (λ h. other-way u (same_name b u) (same_name a u) h, λ h. other-way u (same_name a u) (same_name b u) h);
      whole = λ done. refl;
    })
  where
    differ : b ≡ a → ⊥
    differ e = let first : 98 ≡ 97 = ap (λ (n : List ℕ). get_or n 0 0) e in absurd (omega (arith, first))
reads-in-turn (suc (suc r)) request program e w = cc

-- The account

-- the logs of this example, in which a visit has the oracle put a transaction before its program, are an account
pub worked-marked : IsAccount script account
worked-marked =
    record {
      gatekeepers = record { as_many = refl; logs = fits; begins = begins; once = pairs-two (λ (x y : BegunRequest). x.request ≢ y.request) _ _ (λ e. cc) };
      clocks = record { known = known; hears_no_more = hears };
      sessions = record { logs = session-fits; stamps = of-two (HasSessionStamp account) script t1 p refl refl refl; replies = session-replies; finished_are_replied = of-two (IsRepliedIfFinished account) script t1 p refl (λ look. absurd cc) (λ look done. refl) };
      store = record { judges = judges; once = pairs-one (λ (x y : Judgement). x.request ≢ y.request) _; in_turn = pairs-one (λ (x y : Judgement). InTurn script x.request y.request) _ };
      oracle = record {
        log = one-settled (at-first 1 0) (at-second 0 1) (λ same. omega (arith, same)) refl refl;
        asked = λ entry h. inr (asked entry h);
        marked = marked;
        once = pairs-one (λ (x y : ℕ × List Stamp). x ≢ y) _;
      };
      channels = sends;
      shards = record { as_many = refl; deeds = deeds };
      programs = reads-in-turn;
    }
