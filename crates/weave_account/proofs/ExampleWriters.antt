-- A worked account: two transactions at two gatekeepers, unordered by their stamps, on one vertex; the oracle puts
-- the first before the second.
-- Used by ExampleReports and WrongLogs.
use Rattle.std.proofs.Common.{◌≡◌, ◌≢◌, ℕ, zero, suc, [], ◌∷◌, Contains, IsTrue, Some, None, inl, inr, refl, sym, ap, subst, ◌∙◌, arith}
use Rattle.std.specs.Prelude.{codes}
use Rattle.std.specs.Option.{ForSome}
use Rattle.weave_data.proofs.Members.{has_none}
use Rattle.vector_stamp.specs.declared.clock.Clock.{Clock}
use Rattle.vector_stamp.specs.declared.clock.Stamp.{Stamp}
use Rattle.weave_data.specs.declared.name.Name.{Name}
use Rattle.graph_ops.specs.declared.op.Op.TheVariants.{Create, Set}
use Rattle.program_defs.specs.declared.script.Request.{Request}
use Rattle.program_defs.specs.declared.script.Script.{Script}
use Rattle.program_defs.specs.declared.script.Work.TheVariants.{Change, Look}
use Rattle.weave_entries.specs.declared.gate_log.GateEntry.{GateEntry}
use Rattle.weave_entries.specs.declared.gate_log.GateDeed.TheVariants.{BeganTx, Sent}
use Rattle.weave_entries.specs.declared.message.Message.{Message}
use Rattle.weave_entries.specs.declared.store_log.StoreEntry.{StoreEntry}
use Rattle.weave_entries.specs.declared.store_log.StoreDeed.TheVariants.{Judged}
use Rattle.weave_entries.specs.declared.session_log.SessionEntry.{SessionEntry}
use Rattle.weave_entries.specs.declared.session_log.SessionDeed.TheVariants as session
use Rattle.weave_entries.specs.declared.verdict.Verdict.TheVariants.{Committed}
use Rattle.weave_entries.specs.Logs.{AtEachEntry}
use Rattle.weave_entries.specs.GateRules.{FitsAs, IsGateLog}
use Rattle.weave_data.proofs.Entries.{each_none}
use Rattle.std.proofs.lemmas.Bool.{or_cases}
use Rattle.vector_stamp.specs.Precedence.{ByPair}
use Rattle.weave_data.specs.Names.{same_name, one_name}
use Rattle.graph_ops.specs.Mentions.{is_among}
use Rattle.weave_entries.specs.StoreReplay.{Commit, last_naming, Judgement, judged_by}
use Rattle.weave_account.specs.Pairs.{IsPairInAccount}
use Rattle.weave_account.specs.declared.account.Account.{Account}
use Rattle.weave_account.specs.Account.{Precedence, gate_log, session_log}
use Rattle.weave_account.specs.Gatekeepers.{BeginsAs}
use Rattle.weave_entries.specs.GateReplay.{BegunRequest}
use Rattle.weave_account.specs.Clocks.{IsKnown}
use Rattle.weave_account.specs.Sessions.{requests_of_session, RepliesAs}
use Rattle.weave_account.specs.IsAccount.{IsAccount}
use Rattle.weave_account.specs.Store.{AreJudgements, Judges, InTurn}
use Rattle.weave_account.specs.Shards.{ShardFitsAs}
use Rattle.weave_account.specs.Programs.{ReadsInTurn}
use Rattle.weave_entries.specs.SessionReplay.{FitsSession, session_of}
use Rattle.program_defs.specs.declared.program.Program.{Program}
use Rattle.report_rules.specs.Lookups.{request_at}
use Rattle.weave_data.proofs.Members.{only}
use Rattle.weave_account.specs.Account.{is_ended, reads_of}
use Rattle.weave_account.specs.Oracle.{IsAskedByCommit}
use Rattle.weave_entries.specs.OracleReplay.{settled_entry}
use Rattle.weave_entries.specs.declared.oracle_log.OracleEntry.{OracleEntry}
use Rattle.weave_account.proofs.ExampleLists.{in-one, of-each, one, pairs-two, two}
use Rattle.weave_account.proofs.ExampleParts.{HasSessionStamp, IsRepliedIfFinished, at-gate, at-store, clock, first-to, in-session, two-known, no-deeds, none-marked, of-two, one-settled, settles, two-hear, two-send}
use Rattle.weave_entries.specs.GateReplay.{clocks_in}
use Rattle.weave_entries.specs.declared.shard_log.ShardEntry.{ShardEntry}
use Rattle.weave_account.specs.PairsByPlace.{placed_pairs}
use Rattle.report_rules.proofs.Examples.{script_of}

abbrev pub v : Name
v = codes "v"

abbrev pub x : Stamp
x = record { home = 0; clock = clock 1 0 }

abbrev pub y : Stamp
y = record { home = 1; clock = clock 0 1 }

abbrev pub t1 : Request
t1 = record { name = codes "t1"; session = 0; gate = 0; work = Change (Create v ∷ []) }

abbrev pub t2 : Request
t2 = record { name = codes "t2"; session = 1; gate = 1; work = Change (Set v (codes "k") (codes "x") ∷ []) }

abbrev pub script : Script
script = script_of 2 (t1 ∷ t2 ∷ [])

abbrev pub m1 : Message
m1 = record { request = Some 0; stamp = x; low = clock 1 0; parts = record { vertex = v; before = 0; ops = Create v ∷ [] } ∷ [] }

abbrev pub m2 : Message
m2 =
    record { request = Some 1; stamp = y; low = clock 0 1; parts = record { vertex = v; before = 1; ops = Set v (codes "k") (codes "x") ∷ [] } ∷ [] }

abbrev pub g1 : GateEntry
g1 = at-gate (BeganTx 0 x)

abbrev pub g2 : GateEntry
g2 = at-gate (Sent 0 (first-to m1))

abbrev pub h1 : GateEntry
h1 = at-gate (BeganTx 1 y)

abbrev pub h2 : GateEntry
h2 = at-gate (Sent 1 (first-to m2))

abbrev pub j1 : StoreEntry
j1 = at-store (Judged 0 x (Create v ∷ []) [] (Committed 1 [] (record { vertex = v; before = 0 } ∷ [])))

abbrev pub j2 : StoreEntry
j2 = at-store (Judged 1 y (Set v (codes "k") (codes "x") ∷ []) (v ∷ []) (Committed 2 [] (record { vertex = v; before = 1 } ∷ [])))

abbrev pub b1 : SessionEntry
b1 = in-session 0 (session.Begun 0 x)

abbrev pub b2 : SessionEntry
b2 = in-session 1 (session.Begun 1 y)

abbrev pub account : Account
account = record {
  gates = (g1 ∷ g2 ∷ []) ∷ (h1 ∷ h2 ∷ []) ∷ [];
  store = j1 ∷ j2 ∷ [];
  oracle = settles x y ∷ [];
  shards = [] ∷ [];
  sessions = (b1 ∷ []) ∷ (b2 ∷ []) ∷ [];
}

-- Gatekeepers

fits : (home : ℕ) → IsGateLog home 1 (gate_log account home)
fits (suc (suc home)) = each_none _
fits zero =
    two (λ before (entry : GateEntry). FitsAs 0 1 before entry.author entry.deed) g1 g2
    (record { alone = refl; begun = record { last = None; eight = λ x e. cc; is = refl } })
    (record { stamp = x; flight = refl; ops = Create v ∷ []; verdict = Committed 1 [] (record { vertex = v; before = 0 } ∷ []); counts = refl; messages_are = refl })
fits (suc zero) =
    two (λ before (entry : GateEntry). FitsAs 1 1 before entry.author entry.deed) h1 h2
    (record { alone = refl; begun = record { last = None; eight = λ x e. cc; is = refl } })
    (record { stamp = y; flight = refl; ops = Set v (codes "k") (codes "x") ∷ []; verdict = Committed 2 [] (record { vertex = v; before = 1 } ∷ []); counts = refl; messages_are = refl })

begins : (home : ℕ)
    → AtEachEntry (λ before (entry : GateEntry). BeginsAs script account home before entry.deed) (gate_log account home)
begins (suc (suc home)) = each_none _
begins zero =
    two (λ before (entry : GateEntry). BeginsAs script account 0 before entry.deed) g1 g2
    (record { own = refl; small = refl; stamp_is = refl; hears_no_more = λ x e. cc }) tt
begins (suc zero) =
    two (λ before (entry : GateEntry). BeginsAs script account 1 before entry.deed) h1 h2
    (record { own = refl; small = refl; stamp_is = refl; hears_no_more = λ x e. cc }) tt

-- The store

settled : Precedence account x y
settled = ByPair x y (0, omega arith, refl)

judges : AreJudgements script account account.store
judges =
    two (λ before (entry : StoreEntry). Judges script account before (judged_by entry.author entry.deed)) j1 j2
    (record { home = 0; begun = in-one _; work = refl; asked = refl; verdict = record { number_is = refl; graph = _; passes = refl; counts_are = refl; after_last = λ w h l e. cc } })
    (record { home = 1; begun = in-one _; work = refl; asked = refl; verdict = record { number_is = refl; graph = _; passes = refl; counts_are = refl; after_last = after } })
  where
    after : (w : Name) → IsTrue (is_among (v ∷ []) w)
        → ForSome (last_naming w (record { request = 0; stamp = x; ops = Create v ∷ [] } ∷ [])) (λ (last : Commit). Precedence account last.stamp y)
    after w named l e =
        elim (or_cases (same_name v w) _ named) [
          | inl same ↦
              let at : last_naming v (record { request = 0; stamp = x; ops = Create v ∷ [] } ∷ []) ≡ Some l =
              subst (λ k. last_naming k (record { request = 0; stamp = x; ops = Create v ∷ [] } ∷ []) ≡ Some l) (sym (one_name v w same)) e in
              let is : record { request = 0; stamp = x; ops = Create v ∷ [] } ≡ l = cc in
              subst (λ (c : Commit). Precedence account c.stamp y) is settled
          | inr none ↦ cc
        ]

-- The oracle

-- the oracle's pair, as a pair of requests
pub pair-is : IsPairInAccount account (record { vertex = v; earlier = 0; later = 1 }) (x, y)
pair-is = record {
  earlier_is = refl;
  later_is = refl;
  added = inl (record { before = j1 ∷ []; entry = j2; after = []; at = refl; commit = record { request = 1; stamp = y; ops = Set v (codes "k") (codes "x") ∷ [] }; commit_is = refl; later_is = refl; vertex_is = refl });
}

-- computed from the logs, by place
placed : placed_pairs account ≡ record { vertex = v; earlier = 0; later = 1 } ∷ []
placed = refl

asked : (entry : OracleEntry) → Contains account.oracle entry → IsAskedByCommit account (settled_entry entry)
asked entry h = subst (λ (e : OracleEntry). IsAskedByCommit account (settled_entry e)) (only (settles x y) entry h) (record {
  before = j1 ∷ [];
  entry = j2;
  after = [];
  at = refl;
  commit = record { request = 1; stamp = y; ops = Set v (codes "k") (codes "x") ∷ [] };
  commit_is = refl;
  later_is = refl;
  earlier_are = refl;
})

-- Sessions

session-fits : (number : ℕ)
    → AtEachEntry (λ before (entry : SessionEntry). (entry.author ≡ number) × FitsSession (session_of (requests_of_session script number) before) entry.deed) (session_log account number)
session-fits (suc (suc number)) = each_none _
session-fits zero =
    one (λ before (entry : SessionEntry). (entry.author ≡ 0) × FitsSession (session_of (requests_of_session script 0) before) entry.deed) b1
    (refl, record { replied = refl; next = refl; rises = λ x e. cc })
session-fits (suc zero) =
    one (λ before (entry : SessionEntry). (entry.author ≡ 1) × FitsSession (session_of (requests_of_session script 1) before) entry.deed) b2
    (refl, record { replied = refl; next = refl; rises = λ x e. cc })

session-replies : (number : ℕ)
    → AtEachEntry (λ before (entry : SessionEntry). RepliesAs account entry.deed) (session_log account number)
session-replies (suc (suc number)) = each_none _
session-replies zero = one (λ before (entry : SessionEntry). RepliesAs account entry.deed) b1 tt
session-replies (suc zero) = one (λ before (entry : SessionEntry). RepliesAs account entry.deed) b2 tt

-- Clocks

known : (home : ℕ) (c : Clock) → Contains (clocks_in (gate_log account home)) c → IsKnown account c
known (suc (suc home)) c h = absurd (has_none c h)
known zero c h = of-each (IsKnown account) (clock 1 0 ∷ clock 1 0 ∷ clock 1 0 ∷ []) (first, (first, (first, tt))) c h
  where
    first : IsKnown account (clock 1 0)
    first = two-known account 1 0 (omega arith) (omega arith)
known (suc zero) c h = of-each (IsKnown account) (clock 0 1 ∷ clock 0 1 ∷ clock 0 1 ∷ []) (second, (second, (second, tt))) c h
  where
    second : IsKnown account (clock 0 1)
    second = two-known account 0 1 (omega arith) (omega arith)

-- There is no program

no-program : (r : ℕ) (request : Request) (program : Program) → request_at script r ≡ Some request → request.work ≡ Look program
    → ReadsInTurn (reads_of account r) program (IsTrue (is_ended account r))
no-program zero request program e w =
    let same : t1 ≡ request = cc in let clash : Change (Create v ∷ []) ≡ Look program = ap (λ (q : Request). q.work) same ∙ w in cc
no-program (suc zero) request program e w =
    let same : t2 ≡ request = cc in let clash : Change (Set v (codes "k") (codes "x") ∷ []) ≡ Look program = ap (λ (q : Request). q.work) same ∙ w in cc
no-program (suc (suc r)) request program e w = cc

-- the logs of this example, in which the oracle orders two unordered writers, are an account
pub worked-pair : IsAccount script account
worked-pair =
    record {
      gatekeepers = record { as_many = refl; logs = fits; begins = begins; once = pairs-two (λ (a b : BegunRequest). a.request ≢ b.request) _ _ (λ e. cc) };
      clocks = record { known = known; hears_no_more = two-hear x y (first-to m1) (first-to m2) };
      sessions = record { logs = session-fits; stamps = of-two (HasSessionStamp account) script t1 t2 refl refl refl; replies = session-replies; finished_are_replied = of-two (IsRepliedIfFinished account) script t1 t2 refl (λ look. absurd cc) (λ look. absurd cc) };
      store = record { judges = judges; once = pairs-two (λ (a b : Judgement). a.request ≢ b.request) _ _ (λ e. cc); in_turn = pairs-two (λ (a b : Judgement). InTurn script a.request b.request) _ _ (λ e. cc) };
      oracle = record {
        log = one-settled x y (λ same. omega (arith, same)) refl refl;
        asked = λ entry h. inl (asked entry h);
        marked = none-marked account [] refl refl;
        once = λ i j d below within. absurd (omega (arith, within));
      };
      channels =
          two-send x y (first-to m1) (first-to m2) account
          (record { judged = judged_by 0 j1.deed; is_judged = (0, omega arith, refl); request_is = refl; messages_are = refl })
          (record { judged = judged_by 0 j2.deed; is_judged = (1, omega arith, refl); request_is = refl; messages_are = refl });
      shards = record { as_many = refl; deeds = no-deeds account (λ shard before (entry : ShardEntry). ShardFitsAs script account shard before entry.deed) refl };
      programs = no-program;
    }
