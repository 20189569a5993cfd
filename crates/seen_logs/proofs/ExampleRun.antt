-- A worked run whose logs keep the rules of all machines, made by hand 0, which has seen them whole. A transaction
-- creates v at gatekeeper 0 and is sent to shard 0. A program begins at gatekeeper 1, and empty messages of both
-- gatekeepers make the shard ready for it. It reads v, for which the oracle puts the transaction before it, and is
-- finished. The logs follow a script of these two requests, so they are an account.
-- Used by nothing: worked examples.
use Rattle.std.proofs.Common.{◌≡◌, ◌≢◌, ℕ, zero, suc, ◌<◌, true, List, [], ◌∷◌, ◌++◌, length, Contains, IsTrue, Some, None, inl, inr, refl, sym, ap, subst, ◌∙◌, arith}
use Rattle.std.specs.Prelude.{codes, IsSomeAnd}
use Rattle.std.proofs.lemmas.List.{length-append}
use Rattle.std.proofs.lemmas.List.Elements.{All-cons, All-nil}
use Rattle.weave_data.proofs.Entries.{each_none}
use Rattle.weave_data.proofs.Members.{has_head, has_read, has_tail, only}
use Rattle.weave_data.proofs.Ordered.{pairs_cons, pairs_none}
use Rattle.weave_data.specs.declared.name.Name.{Name}
use Rattle.graph_ops.specs.declared.part.Part.{Part}
use Rattle.graph_ops.specs.Operations.{State}
use Rattle.graph_ops.specs.VertexOps.{none_refused}
use Rattle.vector_stamp.specs.declared.clock.Clock.{Clock}
use Rattle.vector_stamp.specs.declared.clock.Stamp.{Stamp}
use Rattle.vector_stamp.specs.Precedence.{ByPair}
use Rattle.program_defs.specs.declared.program.Program.{Program}
use Rattle.program_defs.specs.declared.program.Program.TheVariants.{Show}
use Rattle.program_defs.specs.declared.script.Request.{Request}
use Rattle.program_defs.specs.declared.script.Script.{Script}
use Rattle.program_defs.specs.declared.script.Work.TheVariants.{Change, Look}
use Rattle.program_defs.specs.Works.{is_look}
use Rattle.report_rules.specs.Lookups.{request_at}
use Rattle.weave_entries.specs.declared.gate_log.GateEntry.{GateEntry}
use Rattle.weave_entries.specs.declared.gate_log.GateDeed.TheVariants.{BeganTx, BeganProgram, Sent, Nop, Heard, Finished}
use Rattle.weave_entries.specs.declared.message.Message.{Message}
use Rattle.weave_entries.specs.declared.oracle_log.OracleEntry.{OracleEntry}
use Rattle.weave_entries.specs.declared.session_log.SessionEntry.{SessionEntry}
use Rattle.weave_entries.specs.declared.session_log.SessionDeed.TheVariants as session
use Rattle.weave_entries.specs.declared.shard_log.ShardEntry.{ShardEntry}
use Rattle.weave_entries.specs.declared.shard_log.ShardDeed.TheVariants.{Arrived, Applied, Visited}
use Rattle.weave_entries.specs.declared.store_log.StoreEntry.{StoreEntry}
use Rattle.weave_entries.specs.Logs.{AtEachEntry}
use Rattle.weave_entries.specs.GateReplay.{BegunRequest}
use Rattle.weave_entries.specs.GateRules.{FitsAs, HearsAs, HearsNoMore, IsGateLog}
use Rattle.weave_entries.specs.OracleRules.{IsOracleLog}
use Rattle.weave_entries.specs.SessionReplay.{FitsSession, has_reply_in, session_of, session_stamp_of}
use Rattle.weave_entries.specs.ShardReplay.{Update, Visit, state_of_updates, updates_of}
use Rattle.weave_entries.specs.ShardRules.{FitsShard, IsShardLog, IsTakable}
use Rattle.weave_entries.specs.StoreReplay.{Judgement, judged_by}
use Rattle.weave_account.specs.declared.account.Account.{Account}
use Rattle.weave_account.specs.Account.{Precedence, begun_stamps, gate_log, is_ended, reads_of, session_log, shard_log, stamp_of}
use Rattle.weave_account.specs.Gatekeepers.{BeginEachOnce, BeginsAs}
use Rattle.weave_account.specs.IsAccount.{IsAccount}
use Rattle.weave_account.specs.Programs.{ReadsInTurn}
use Rattle.weave_account.specs.Sessions.{RepliesAs, SessionsClause, requests_of_session}
use Rattle.weave_account.specs.Store.{InTurn}
use Rattle.seen_logs.specs.Closed.{AreOfHands, IsOfHands}
use Rattle.seen_logs.specs.FollowsScript.{FollowsScript}
use Rattle.seen_logs.specs.LowerLaws.{LawsForSeenLogs}
use Rattle.seen_logs.specs.References.{GateRefersAs, IsAskedAsSeen, OracleRefersAs, ShardRefersAs, StoreRefersAs}
use Rattle.seen_logs.specs.Seen.{AreLegal, GateRefersWithin, HasAsked, IsOwn, IsSeenByHand, IsWithin, OracleRefersWithin, ShardRefersWithin, StoreRefersWithin, VisitsItsOwn, VisitsOwnPrograms, visit_entry}
use Rattle.seen_logs.proofs.Closing.{hand-after}
use Rattle.seen_logs.proofs.MakesAccount.{made}
use Rattle.seen_logs.proofs.Placed.{pairs-one}
use Rattle.seen_logs.proofs.Within.{itself}
use Rattle.seen_logs.proofs.ExampleParts.{creation-refers}
use Rattle.report_rules.proofs.Examples.{script_of, v}
use Rattle.weave_account.proofs.ExampleLists.{five, four, one, only-zero, three, two}
use Rattle.weave_account.proofs.ExampleParts.{at-gate, at-shard, clock, created, creates, creating, creation, empty-message, first-to, in-session, judges-creation, one-settled, right-creation, settles, two-known, change}

-- The script

abbrev look : Request
look = record { name = codes "p"; session = 1; gate = 1; work = Look (Show v) }

abbrev script : Script
script = script_of 2 (change ∷ look ∷ [])

-- The logs

-- the stamps of the transaction and the program, and those of the empty messages of gatekeepers 0 and 1
abbrev t : Stamp
t = record { home = 0; clock = clock 1 0 }

abbrev p : Stamp
p = record { home = 1; clock = clock 0 1 }

abbrev e0 : Stamp
e0 = record { home = 0; clock = clock 2 1 }

abbrev e1 : Stamp
e1 = record { home = 1; clock = clock 0 2 }

abbrev sent : Message
sent = creating t

abbrev g1 : GateEntry
g1 = at-gate (BeganTx 0 t)

abbrev g2 : GateEntry
g2 = at-gate (Sent 0 (first-to sent))

abbrev g3 : GateEntry
g3 = at-gate (Heard (clock 0 1))

abbrev g4 : GateEntry
g4 = at-gate (Nop 0 2 e0 (clock 2 1))

abbrev h1 : GateEntry
h1 = at-gate (BeganProgram 1 p)

abbrev h2 : GateEntry
h2 = at-gate (Nop 0 1 e1 (clock 0 1))

abbrev h3 : GateEntry
h3 = at-gate (Finished 1)

abbrev judged : StoreEntry
judged = judges-creation t

abbrev s1 : ShardEntry
s1 = at-shard (Arrived 0 1 sent)

abbrev s2 : ShardEntry
s2 = at-shard (Applied 0 1)

abbrev s3 : ShardEntry
s3 = at-shard (Arrived 0 2 (empty-message e0 (clock 2 1)))

abbrev s4 : ShardEntry
s4 = at-shard (Arrived 1 1 (empty-message e1 (clock 0 1)))

abbrev s5 : ShardEntry
s5 = at-shard (Visited 1 p v 1 true)

abbrev visit : Visit
visit = record { author = 0; request = 1; stamp = p; vertex = v; updates = 1; settled = true }

abbrev seen : Account
seen = record {
  gates = (g1 ∷ g2 ∷ g3 ∷ g4 ∷ []) ∷ (h1 ∷ h2 ∷ h3 ∷ []) ∷ [];
  store = judged ∷ [];
  oracle = settles t p ∷ [];
  shards = (s1 ∷ s2 ∷ s3 ∷ s4 ∷ s5 ∷ []) ∷ [];
  sessions = [];
}

abbrev start : Account
start = record { gates = [] ∷ [] ∷ []; store = []; oracle = []; shards = [] ∷ []; sessions = [] }

-- The logs keep their rules

gate-logs : (home : ℕ) → IsGateLog home 1 (gate_log seen home)
gate-logs zero =
    four (λ before (entry : GateEntry). FitsAs 0 1 before entry.author entry.deed) g1 g2 g3 g4
    (record { alone = refl; begun = record { last = None; eight = λ x at. cc; is = refl } })
    (record { stamp = t; flight = refl; ops = creates; verdict = created; counts = refl; messages_are = refl })
    refl
    (record { alone = refl; shard_is = omega arith; stamp_is = refl; number_is = refl; low_is = refl })
gate-logs (suc zero) =
    three (λ before (entry : GateEntry). FitsAs 1 1 before entry.author entry.deed) h1 h2 h3
    (record { last = None; eight = λ x at. cc; is = refl })
    (record { alone = refl; shard_is = omega arith; stamp_is = refl; number_is = refl; low_is = refl })
    refl
gate-logs (suc (suc home)) = each_none _

hears : (home : ℕ) → HearsNoMore home (gate_log seen home)
hears zero = four (λ before (entry : GateEntry). HearsAs 0 before entry.deed) g1 g2 g3 g4 tt tt refl tt
hears (suc zero) = three (λ before (entry : GateEntry). HearsAs 1 before entry.deed) h1 h2 h3 tt tt tt
hears (suc (suc home)) = each_none _

oracle-log : IsOracleLog seen.oracle
oracle-log = one-settled t p (λ same. omega (arith, same)) refl refl

takable-sent : IsTakable sent
takable-sent = record {
  apart = pairs-one (λ (a b : Part). a.vertex ≢ b.vertex) creation;
  small = All-cons (λ (one : Part). one.before < 18446744073709551615) creation [] (omega arith) (All-nil _);
}

takable-empty : (stamp : Stamp) (low : Clock) → IsTakable (empty-message stamp low)
takable-empty stamp low = record { apart = pairs_none (λ (a b : Part). a.vertex ≢ b.vertex); small = All-nil _ }

shard-logs : (shard : ℕ) → IsShardLog 2 (shard_log seen shard)
shard-logs zero =
    five (λ before (entry : ShardEntry). FitsShard 2 before entry.deed) s1 s2 s3 s4 s5
    (record { gate_is = omega arith; from_one = omega arith; new = refl; takable = takable-sent })
    (record {
      gate_is = omega arith;
      number_is = refl;
      message = sent;
      head = refl;
      in_turn = refl;
      passes = All-cons (λ (one : Part). IsTrue (none_refused one.ops (state_of_updates (updates_of one.vertex (s1 ∷ []))))) creation [] refl (All-nil _);
    })
    (record { gate_is = omega arith; from_one = omega arith; new = refl; takable = takable-empty e0 (clock 2 1) })
    (record { gate_is = omega arith; from_one = omega arith; new = refl; takable = takable-empty e1 (clock 0 1) })
    (record {
      ready = refl;
      base = λ some. absurd (omega (arith, some));
      applied = omega arith;
      pairs = [];
      updates_are = refl;
      settled_is = refl;
    })
shard-logs (suc shard) = each_none _

legal : AreLegal 2 1 seen
legal = record { gate_logs = gate-logs; hears = hears; store_log = right-creation t; oracle_log = oracle-log; shard_logs = shard-logs }

-- All that they refer to was seen

gates : (home : ℕ) → GateRefersWithin 1 seen home
gates zero =
    four (λ before (entry : GateEntry). GateRefersAs seen 1 before entry.author entry.deed) g1 g2 g3 g4
    (two-known seen 1 0 (omega arith) (omega arith))
    (record { judged = judged_by 0 judged.deed; is_judged = has_head _ []; request_is = refl; messages_are = refl })
    (two-known seen 0 1 (omega arith) (omega arith))
    (two-known seen 2 1 (omega arith) (omega arith))
gates (suc zero) =
    three (λ before (entry : GateEntry). GateRefersAs seen 1 before entry.author entry.deed) h1 h2 h3
    (two-known seen 0 1 (omega arith) (omega arith))
    (two-known seen 0 2 (omega arith) (omega arith))
    (record { program = Show v; reads = (v, Some (record { props = []; edges = [] })) ∷ []; read = λ read h. h; whole = refl })
gates (suc (suc home)) = each_none _

store : StoreRefersWithin seen
store =
    one (λ before (entry : StoreEntry). StoreRefersAs seen before entry.author entry.deed) judged
    (creation-refers seen 0 t (has_head _ []))

oracle : OracleRefersWithin seen
oracle =
    one (λ before (entry : OracleEntry). OracleRefersAs seen entry.deed) (settles t p)
    (λ stamp h. elim (has_read p (t ∷ []) stamp h) [
      | inl later ↦ subst (Contains (begun_stamps seen)) later (has_tail t (p ∷ []) p (has_head p []))
      | inr earlier ↦ subst (Contains (begun_stamps seen)) (only t stamp earlier) (has_head t (p ∷ []))
    ])

asked : IsAskedAsSeen seen (settles t p)
asked = inr (record { shard = 0; visit = visit; visited = has_head visit []; marked = refl; later_is = refl; earlier_is = refl })

shards : (shard : ℕ) → ShardRefersWithin 1 seen shard
shards zero =
    five (λ before (entry : ShardEntry). ShardRefersAs seen 1 0 before entry.author entry.deed) s1 s2 s3 s4 s5
    (record {
      sent = (0, omega arith, refl);
      made = inr (record {
        judged = judged_by 0 judged.deed;
        is_judged = has_head _ [];
        log = g1 ∷ [];
        begun = record { author = 0; request = 0; stamp = t };
        stamp_is = refl;
        addressed = record { shard = 0; number = 1; message = sent };
        sent = has_head _ [];
        shard_is = refl;
        message_is = refl;
      });
    })
    tt
    (record { sent = (1, omega arith, refl); made = inl refl })
    (record { sent = has_head _ []; made = inl refl })
    (record {
      home = 1;
      by = 0;
      begun = has_head _ [];
      kept_here = refl;
      commits_read = λ update h. h;
      after_seen = λ some u at. (let same : record { stamp = t; ops = creates } ≡ u = cc in subst (λ (k : Update). Precedence seen k.stamp p) same
          (ByPair t p (has_head (t, p) [])));
      before_skipped = λ u at. cc;
      asked = λ marked. record { entry = settles t p; is_there = has_head (settles t p) []; later_is = refl; earlier_is = refl };
    })
shards (suc shard) = each_none _

-- the only visit that asked is the last entry of shard 0
where-asked : (shard : ℕ) (before : List ShardEntry) (w : Visit) → HasAsked 0 start seen shard before w → (shard ≡ 0) × (length before ≡ 4)
where-asked zero [] w has =
    absurd (let at = has.at in let heads : s1 ≡ visit_entry w = cc in let deeds = ap (λ (x : ShardEntry). x.deed) heads in cc)
where-asked zero (a ∷ []) w has =
    absurd (let at = has.at in let heads : s2 ≡ visit_entry w = cc in let deeds = ap (λ (x : ShardEntry). x.deed) heads in cc)
where-asked zero (a ∷ b ∷ []) w has =
    absurd (let at = has.at in let heads : s3 ≡ visit_entry w = cc in let deeds = ap (λ (x : ShardEntry). x.deed) heads in cc)
where-asked zero (a ∷ b ∷ c ∷ []) w has =
    absurd (let at = has.at in let heads : s4 ≡ visit_entry w = cc in let deeds = ap (λ (x : ShardEntry). x.deed) heads in cc)
where-asked zero (a ∷ b ∷ c ∷ d ∷ []) w has = (refl, refl)
where-asked zero (a ∷ b ∷ c ∷ d ∷ e ∷ before) w has =
    absurd (let many = ap length has.at in let long = length-append before (visit_entry w ∷ has.after) in omega (arith, many, long))
where-asked (suc shard) before w has =
    absurd (let many = ap length has.at in let long = length-append before (visit_entry w ∷ has.after) in omega (arith, many, long))

starts : IsWithin start seen
starts = record { gates = begins-gate; store = (seen.store, refl); oracle = (seen.oracle, refl); shards = begins-shard }
  where
    begins-gate : (home : ℕ) → (more : List GateEntry) × (gate_log seen home ≡ gate_log start home ++ more)
    begins-gate zero = (gate_log seen 0, refl)
    begins-gate (suc zero) = (gate_log seen 1, refl)
    begins-gate (suc (suc home)) = ([], refl)

    begins-shard : (shard : ℕ) → (more : List ShardEntry) × (shard_log seen shard ≡ shard_log start shard ++ more)
    begins-shard zero = (shard_log seen 0, refl)
    begins-shard (suc shard) = ([], refl)

hand : IsSeenByHand 1 0 start seen
hand =
    record {
      starts = starts;
      gate_entries = λ home before entry after at mine. gates home before entry after at;
      store_entries = λ before entry after at mine. store before entry after at;
      oracle_entries = λ before entry after at mine.
          (oracle before entry after at, one (λ before (entry : OracleEntry). IsAskedAsSeen seen entry) (settles t p) asked before entry after at);
      shard_entries = λ shard before entry after at mine. shards shard before entry after at;
      asks_once = λ shard other before rest a b asked_a asked_b stamps lasts.
          let here = where-asked shard before a asked_a in
          let there = where-asked other rest b asked_b in
          (here.0 ∙ sym there.0, here.1 ∙ sym there.1);
    }

-- and the visit is of the hand's own program
own : VisitsOwnPrograms 0 start seen
own zero =
    five (λ before (entry : ShardEntry). IsOwn 0 (shard_log start 0) before entry.author → VisitsItsOwn 0 start seen entry.deed) s1 s2 s3 s4 s5
    (λ own. tt) (λ own. tt) (λ own. tt) (λ own. tt) (λ own. (1, has_head _ []))
own (suc shard) = each_none _

-- The logs are those of one hand

mine : {E : Type 0} (author : E → ℕ) (log : List E) → AtEachEntry (λ before entry. author entry ≡ 0) log
    → AtEachEntry (λ before entry. IsOfHands 1 [] (λ number. log) before (author entry)) log
mine author log all before entry after at =
    let zero-is = all before entry after at in
    let many = ap length at ∙ length-append before (entry ∷ after) in
    inr (omega (arith, zero-is), omega (arith, many))

gates-mine : (home : ℕ) → AtEachEntry (λ before (entry : GateEntry). entry.author ≡ 0) (gate_log seen home)
gates-mine zero = four (λ before (entry : GateEntry). entry.author ≡ 0) g1 g2 g3 g4 refl refl refl refl
gates-mine (suc zero) = three (λ before (entry : GateEntry). entry.author ≡ 0) h1 h2 h3 refl refl refl
gates-mine (suc (suc home)) = each_none _

gates-of-hand : (home : ℕ) → AtEachEntry (λ before (entry : GateEntry).
    IsOfHands 1 (gate_log start home) (λ number. gate_log seen home) before entry.author) (gate_log seen home)
gates-of-hand zero = mine (λ (entry : GateEntry). entry.author) (gate_log seen 0) (gates-mine 0)
gates-of-hand (suc zero) = mine (λ (entry : GateEntry). entry.author) (gate_log seen 1) (gates-mine 1)
gates-of-hand (suc (suc home)) = each_none _

shards-of-hand : (shard : ℕ) → AtEachEntry (λ before (entry : ShardEntry).
    IsOfHands 1 (shard_log start shard) (λ number. shard_log seen shard) before entry.author) (shard_log seen shard)
shards-of-hand zero =
    mine (λ (entry : ShardEntry). entry.author) (shard_log seen 0)
    (five (λ before (entry : ShardEntry). entry.author ≡ 0) s1 s2 s3 s4 s5 refl refl refl refl refl)
shards-of-hand (suc shard) = each_none _

of-hands : AreOfHands 1 1 start (λ number. seen) seen
of-hands = record {
  some = omega arith;
  seen = λ number less. subst (λ n. IsSeenByHand 1 n start seen) (only-zero number less) hand;
  own_visits = λ number less. subst (λ n. VisitsOwnPrograms n start seen) (only-zero number less) own;
  within = λ number less. itself seen;
  gate_entries = gates-of-hand;
  store_entries = mine (λ (entry : StoreEntry). entry.author) seen.store (one (λ before (entry : StoreEntry). entry.author ≡ 0) judged refl);
  oracle_entries = mine (λ (entry : OracleEntry). entry.author) seen.oracle (one (λ before (entry : OracleEntry). entry.author ≡ 0) (settles t p) refl);
  shard_entries = shards-of-hand;
}

-- The logs follow the script

abbrev b1 : SessionEntry
b1 = in-session 0 (session.Begun 0 t)

abbrev b2 : SessionEntry
b2 = in-session 0 (session.Replied 0)

abbrev b3 : SessionEntry
b3 = in-session 1 (session.Begun 1 p)

abbrev b4 : SessionEntry
b4 = in-session 1 (session.Replied 1)

abbrev account : Account
account = record seen { sessions = (b1 ∷ b2 ∷ []) ∷ (b3 ∷ b4 ∷ []) ∷ [] }

begins : (home : ℕ) → AtEachEntry (λ before (entry : GateEntry). BeginsAs script account home before entry.deed) (gate_log account home)
begins zero =
    four (λ before (entry : GateEntry). BeginsAs script account 0 before entry.deed) g1 g2 g3 g4
    (record { own = refl; small = refl; stamp_is = refl; hears_no_more = λ x at. cc }) tt tt tt
begins (suc zero) =
    three (λ before (entry : GateEntry). BeginsAs script account 1 before entry.deed) h1 h2 h3
    (record { own = refl; small = refl; stamp_is = refl; hears_no_more = λ x at. cc }) tt tt
begins (suc (suc home)) = each_none _

sessions-fit : (number : ℕ) → AtEachEntry
    (λ before (entry : SessionEntry). (entry.author ≡ number) × FitsSession (session_of (requests_of_session script number) before) entry.deed)
    (session_log account number)
sessions-fit zero =
    two (λ before (entry : SessionEntry). (entry.author ≡ 0) × FitsSession (session_of (requests_of_session script 0) before) entry.deed) b1 b2
    (refl, record { replied = refl; next = refl; rises = λ x at. cc })
    (refl, record { waits = refl; last = refl })
sessions-fit (suc zero) =
    two (λ before (entry : SessionEntry). (entry.author ≡ 1) × FitsSession (session_of (requests_of_session script 1) before) entry.deed) b3 b4
    (refl, record { replied = refl; next = refl; rises = λ x at. cc })
    (refl, record { waits = refl; last = refl })
sessions-fit (suc (suc number)) = each_none _

session-stamps : (r : ℕ) (request : Request) → request_at script r ≡ Some request
    → session_stamp_of r (session_log account request.session) ≡ stamp_of account r
session-stamps zero request at =
    let same : change ≡ request = cc in subst (λ (q : Request). session_stamp_of 0 (session_log account q.session) ≡ stamp_of account 0) same refl
session-stamps (suc zero) request at =
    let same : look ≡ request = cc in subst (λ (q : Request). session_stamp_of 1 (session_log account q.session) ≡ stamp_of account 1) same refl
session-stamps (suc (suc r)) request at = cc

session-replies : (number : ℕ) → AtEachEntry (λ before (entry : SessionEntry). RepliesAs account entry.deed) (session_log account number)
session-replies zero = two (λ before (entry : SessionEntry). RepliesAs account entry.deed) b1 b2 tt refl
session-replies (suc zero) = two (λ before (entry : SessionEntry). RepliesAs account entry.deed) b3 b4 tt refl
session-replies (suc (suc number)) = each_none _

finished-replied : (r : ℕ) (request : Request) → request_at script r ≡ Some request → IsTrue (is_look request.work)
    → IsTrue (is_ended account r) → IsTrue (has_reply_in r (session_log account request.session))
finished-replied zero request at looks done =
    let same : change ≡ request = cc in
    let clash : IsTrue (is_look change.work) = subst (λ (q : Request). IsTrue (is_look q.work)) (sym same) looks in
    cc
finished-replied (suc zero) request at looks done =
    let same : look ≡ request = cc in subst (λ (q : Request). IsTrue (has_reply_in 1 (session_log account q.session))) same refl
finished-replied (suc (suc r)) request at looks done = cc

sessions : SessionsClause script account
sessions = record { logs = sessions-fit; stamps = session-stamps; replies = session-replies; finished_are_replied = finished-replied }

reads-in-turn : (r : ℕ) (request : Request) (program : Program) → request_at script r ≡ Some request → request.work ≡ Look program
    → ReadsInTurn (reads_of account r) program (IsTrue (is_ended account r))
reads-in-turn zero request program at work =
    let same : change ≡ request = cc in
    let clash : Change creates ≡ Look program = ap (λ (q : Request). q.work) same ∙ work in
    cc
reads-in-turn (suc zero) request program at work =
    let same : look ≡ request = cc in
    let works : Look (Show v) ≡ Look program = ap (λ (q : Request). q.work) same ∙ work in
    let is : Show v ≡ program = cc in
    subst (λ (k : Program). ReadsInTurn (reads_of account 1) k (IsTrue (is_ended account 1))) is (record {
      once = pairs-one (λ (a b : Name × State). a.0 ≢ b.0) (v, Some (record { props = []; edges = [] }));
      first_ones = λ u. (λ h. h, λ h. h);
      whole = λ done. refl;
    })
reads-in-turn (suc (suc r)) request program at work = cc

follows : FollowsScript script account
follows =
    record {
      gates = refl;
      shards = refl;
      begins = begins;
      once = begin-once;
      work = λ judgement h. subst (λ (j : Judgement). IsSomeAnd (request_at script j.request) (λ (request : Request). request.work ≡ Change j.ops))
          (only (judged_by 0 judged.deed) judgement h) refl;
      in_turn = pairs-one (λ (a b : Judgement). InTurn script a.request b.request) _;
      programs = reads-in-turn;
      sessions = sessions;
    }
  where
    begun-change : BegunRequest
    begun-change = record { author = 0; request = 0; stamp = t }

    begun-look : BegunRequest
    begun-look = record { author = 0; request = 1; stamp = p }

    begin-once : BeginEachOnce account
    begin-once =
        pairs_cons (λ (a b : BegunRequest). a.request ≢ b.request) begun-change (begun-look ∷ [])
        (λ b h. subst (λ (k : BegunRequest). 0 ≢ k.request) (only begun-look b h) (λ same. omega (arith, same)))
        (pairs-one (λ (a b : BegunRequest). a.request ≢ b.request) begun-look)

-- So they are an account

legal-account : AreLegal 2 1 account
legal-account = record { gate_logs = gate-logs; hears = hears; store_log = right-creation t; oracle_log = oracle-log; shard_logs = shard-logs }

-- the logs of this run, with those of its sessions, are an account of the script
pub worked-run : LawsForSeenLogs → IsAccount script account
worked-run laws =
    made laws script account 0 legal-account
    (hand-after {gates = 2} {shards = 1} (record { laws = laws; few = omega arith; legal = legal; of = of-hands }) 0) follows
