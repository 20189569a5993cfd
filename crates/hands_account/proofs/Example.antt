-- A worked run: from no logs on, hand 0 begins, has judged and sends the only transaction of a script, which creates v.
-- The closed logs meet all premises of the law, so they are an account.
-- Used by nothing: worked examples.
use Rattle.std.proofs.Common.{◌≡◌, ◌≢◌, ℕ, zero, suc, ◌<◌, ◌≤◌, List, [], ◌∷◌, ◌++◌, length, Contains, IsTrue, AllPairs, Some, None, inr, refl, ap, subst, ◌∙◌, arith}
use Rattle.std.specs.Prelude.{IsSomeAnd}
use Rattle.std.proofs.lemmas.List.{length-append}
use Rattle.weave_data.proofs.Entries.{each_none}
use Rattle.weave_data.proofs.Members.{has_head, has_none, only}
use Rattle.weave_data.proofs.Ordered.{pairs_none}
use Rattle.vector_stamp.specs.declared.clock.Stamp.{Stamp}
use Rattle.program_defs.specs.declared.script.Request.{Request}
use Rattle.program_defs.specs.declared.script.Script.{Script}
use Rattle.program_defs.specs.declared.script.Work.TheVariants.{Change}
use Rattle.program_defs.specs.Limits.{IsWithinLimits}
use Rattle.program_defs.specs.Works.{is_look, ops_of}
use Rattle.report_rules.specs.Lookups.{request_at}
use Rattle.weave_entries.specs.declared.gate_log.GateEntry.{GateEntry}
use Rattle.weave_entries.specs.declared.gate_log.GateDeed.TheVariants.{BeganTx, Sent}
use Rattle.weave_entries.specs.declared.message.Message.{Message}
use Rattle.weave_entries.specs.declared.session_log.SessionEntry.{SessionEntry}
use Rattle.weave_entries.specs.declared.session_log.SessionDeed.TheVariants as session
use Rattle.weave_entries.specs.declared.shard_log.ShardEntry.{ShardEntry}
use Rattle.weave_entries.specs.declared.store_log.StoreEntry.{StoreEntry}
use Rattle.weave_entries.specs.Logs.{AtEachEntry}
use Rattle.weave_entries.specs.GateReplay.{BegunRequest, begun_in, programs_of}
use Rattle.weave_entries.specs.GateRules.{FitsAs, HearsAs, HearsNoMore, IsGateLog}
use Rattle.weave_entries.specs.SessionReplay.{FitsSession, has_reply_in, session_of, session_stamp_of}
use Rattle.weave_entries.specs.StoreReplay.{Judgement, judged_by}
use Rattle.weave_account.specs.declared.account.Account.{Account}
use Rattle.weave_account.specs.Account.{gate_log, is_ended, session_log, shard_log, stamp_of}
use Rattle.weave_account.specs.Clocks.{IsKnown}
use Rattle.weave_account.specs.Gatekeepers.{BeginsAs}
use Rattle.weave_account.specs.GoesOn.{IsBeginningOf}
use Rattle.weave_account.specs.IsAccount.{IsAccount}
use Rattle.weave_account.specs.NoLogs.{no_logs}
use Rattle.weave_account.specs.Sessions.{RepliesAs, SessionsClause, requests_of_session}
use Rattle.weave_account.specs.Store.{InTurn}
use Rattle.seen_logs.specs.Closed.{AreOfHands, IsOfHands}
use Rattle.seen_logs.specs.References.{GateRefersAs, StoreRefersAs}
use Rattle.seen_logs.specs.Seen.{AreLegal, AnswersFor, IsOwn, IsSeenByHand, IsWithin, entries_since, without_sessions}
use Rattle.seen_logs.proofs.Placed.{pairs-one}
use Rattle.hands_account.specs.LowerLaws.{LawsForHands}
use Rattle.hands_account.specs.Runs.{FinishesItsOwn, IsFollowedByHand, IsRunByHands, own_begun}
use Rattle.hands_account.proofs.Account.{closed-account}
use Rattle.report_rules.proofs.Examples.{script_of}
use Rattle.weave_account.proofs.ExampleLists.{one, only-zero, two}
use Rattle.weave_account.proofs.ExampleParts.{at-gate, clock, created, creates, creating, first-to, in-session, judges-creation, right-creation, two-known, change}
use Rattle.weave_account.proofs.GoesOn.{whole}

-- The script

abbrev script : Script
script = script_of 1 (change ∷ [])

limits : IsWithinLimits script
limits = record {
  some_gate = omega arith;
  few_gates = omega arith;
  some_shard = omega arith;
  few_shards = omega arith;
  few_requests = omega arith;
  homes = λ r request at. within (λ (q : Request). q.gate < 1) (omega arith) r request at;
  sessions = λ r request at. within (λ (q : Request). q.session < 64) (omega arith) r request at;
  few_ops = λ r request at. within (λ (q : Request). length (ops_of q.work) ≤ 64) (omega arith) r request at;
}
  where
    within : (P : Request → Type 0) → P change → (r : ℕ) (request : Request) → request_at script r ≡ Some request → P request
    within P holds zero request at = let same : change ≡ request = cc in subst P same holds
    within P holds (suc r) request at = absurd cc

-- The logs

abbrev t : Stamp
t = record { home = 0; clock = clock 1 0 }

abbrev sent : Message
sent = creating t

abbrev g1 : GateEntry
g1 = at-gate (BeganTx 0 t)

abbrev g2 : GateEntry
g2 = at-gate (Sent 0 (first-to sent))

abbrev judged : StoreEntry
judged = judges-creation t

abbrev b1 : SessionEntry
b1 = in-session 0 (session.Begun 0 t)

abbrev b2 : SessionEntry
b2 = in-session 0 (session.Replied 0)

abbrev start : Account
start = no_logs script

-- what hand 0 has seen: all
abbrev seen : Account
seen = record { gates = (g1 ∷ g2 ∷ []) ∷ []; store = judged ∷ []; oracle = []; shards = [] ∷ []; sessions = [] }

abbrev closed : Account
closed = record seen { sessions = (b1 ∷ b2 ∷ []) ∷ [] }

-- They keep their rules

gate-logs : (home : ℕ) → IsGateLog home 1 (gate_log seen home)
gate-logs zero =
    two (λ before (entry : GateEntry). FitsAs 0 1 before entry.author entry.deed) g1 g2
    (record { alone = refl; begun = record { last = None; eight = λ x at. cc; is = refl } })
    (record { stamp = t; flight = refl; ops = creates; verdict = created; counts = refl; messages_are = refl })
gate-logs (suc home) = each_none _

hears : (home : ℕ) → HearsNoMore home (gate_log seen home)
hears zero = two (λ before (entry : GateEntry). HearsAs 0 before entry.deed) g1 g2 tt tt
hears (suc home) = each_none _

no-shard : (P : List ShardEntry → ShardEntry → Type 0) (shard : ℕ) → AtEachEntry P (shard_log seen shard)
no-shard P zero = each_none P
no-shard P (suc shard) = each_none P

legal : AreLegal 1 1 closed
legal = record { gate_logs = gate-logs; hears = hears; store_log = right-creation t; oracle_log = tt; shard_logs = λ shard. no-shard _ shard }

-- What they refer to was seen, by the only hand

known : IsKnown seen (clock 1 0)
known = two-known seen 1 0 (omega arith) (omega arith)

gates : (home : ℕ) → AtEachEntry (λ before (entry : GateEntry). AnswersFor 0 (gate_log start home) before entry.author
    → GateRefersAs seen 1 before entry.author entry.deed) (gate_log seen home)
gates zero =
    two (λ before (entry : GateEntry). AnswersFor 0 (gate_log start 0) before entry.author → GateRefersAs seen 1 before entry.author entry.deed) g1 g2
    (λ mine. known)
    (λ mine. record { judged = judged_by 0 judged.deed; is_judged = has_head _ []; request_is = refl; messages_are = refl })
gates (suc home) = each_none _

store : AtEachEntry (λ before (entry : StoreEntry). AnswersFor 0 start.store before entry.author → StoreRefersAs seen before entry.author entry.deed) seen.store
store =
    one (λ before (entry : StoreEntry). AnswersFor 0 start.store before entry.author → StoreRefersAs seen before entry.author entry.deed) judged
    (λ mine. record {
      home = 0;
      begun = has_head _ [];
      right = record { number_is = refl; graph = _; passes = refl; counts_are = refl; after_last = λ w named x at. cc };
    })

not-asked : (shard : ℕ) (before : List ShardEntry) (entry : ShardEntry) (after : List ShardEntry) → ¬ (shard_log seen shard ≡ before ++ entry ∷ after)
not-asked zero before entry after at = let many = ap length at ∙ length-append before (entry ∷ after) in omega (arith, many)
not-asked (suc shard) before entry after at = let many = ap length at ∙ length-append before (entry ∷ after) in omega (arith, many)

starts : IsWithin (without_sessions start) seen
starts = record { gates = gates-on; store = (seen.store, refl); oracle = ([], refl); shards = shards-on }
  where
    gates-on : (home : ℕ) → IsBeginningOf (gate_log start home) (gate_log seen home)
    gates-on zero = (gate_log seen 0, refl)
    gates-on (suc home) = ([], refl)

    shards-on : (shard : ℕ) → IsBeginningOf (shard_log start shard) (shard_log seen shard)
    shards-on zero = ([], refl)
    shards-on (suc shard) = ([], refl)

hand : IsSeenByHand 1 0 (without_sessions start) seen
hand = record {
  starts = starts;
  gate_entries = gates;
  store_entries = store;
  oracle_entries = each_none _;
  shard_entries = λ shard. no-shard _ shard;
  asks_once = λ shard other before rest a b asked_a asked_b stamps lasts. absurd (not-asked shard before _ asked_a.after asked_a.at);
}

of-hands : AreOfHands 1 1 (without_sessions start) (λ number. seen) (without_sessions closed)
of-hands =
    record {
      some = omega arith;
      seen = λ number less. subst (λ n. IsSeenByHand 1 n (without_sessions start) seen) (only-zero number less) hand;
      own_visits = λ number less shard. no-shard _ shard;
      within = λ number less. record { gates = λ home. whole _; store = whole _; oracle = whole _; shards = λ shard. whole _ };
      gate_entries = gates-of-hand;
      store_entries = one (λ before (entry : StoreEntry). IsOfHands 1 start.store (λ number. seen.store) before entry.author) judged
          (inr (omega arith, omega arith));
      oracle_entries = each_none _;
      shard_entries = λ shard. no-shard _ shard;
    }
  where
    gates-of-hand : (home : ℕ) → AtEachEntry (λ before (entry : GateEntry).
        IsOfHands 1 (gate_log start home) (λ number. gate_log seen home) before entry.author) (gate_log seen home)
    gates-of-hand zero =
        two (λ before (entry : GateEntry). IsOfHands 1 (gate_log start 0) (λ number. gate_log seen 0) before entry.author) g1 g2
        (inr (omega arith, omega arith)) (inr (omega arith, omega arith))
    gates-of-hand (suc home) = each_none _

-- The hand follows the script

begins : (home : ℕ) → AtEachEntry (λ before (entry : GateEntry). IsOwn 0 (gate_log start home) before entry.author
    → BeginsAs script closed home before entry.deed) (gate_log seen home)
begins zero =
    two (λ before (entry : GateEntry). IsOwn 0 (gate_log start 0) before entry.author → BeginsAs script closed 0 before entry.deed) g1 g2
    (λ own. record { own = refl; small = refl; stamp_is = refl; hears_no_more = λ x at. cc }) (λ own. tt)
begins (suc home) = each_none _

no-program : (home : ℕ) (begun : BegunRequest) → ¬ Contains (programs_of (entries_since (gate_log start home) (gate_log seen home))) begun
no-program zero begun h = has_none begun h
no-program (suc home) begun h = has_none begun h

finishes : (home : ℕ) → AtEachEntry (λ before (entry : GateEntry). IsOwn 0 (gate_log start home) before entry.author
    → FinishesItsOwn 0 start seen entry.deed) (gate_log seen home)
finishes zero =
    two (λ before (entry : GateEntry). IsOwn 0 (gate_log start 0) before entry.author → FinishesItsOwn 0 start seen entry.deed) g1 g2
    (λ own. tt) (λ own. tt)
finishes (suc home) = each_none _

follows : IsFollowedByHand script 0 start seen closed
follows =
    record {
      begins = begins;
      once = once;
      work = λ judgement h. subst (λ (j : Judgement). IsSomeAnd (request_at script j.request) (λ (request : Request). request.work ≡ Change j.ops))
          (only (judged_by 0 judged.deed) judgement h) refl;
      in_turn = pairs-one (λ (a b : Judgement). InTurn script a.request b.request) _;
      programs = λ r own request program at work. absurd (no-program own.0 _ own.2);
      finishes = finishes;
    }
  where
    once : (home : ℕ) → AllPairs (λ (a b : BegunRequest). a.request ≢ b.request) (begun_in (gate_log start home) ++ own_begun 0 start seen home)
    once zero = pairs-one (λ (a b : BegunRequest). a.request ≢ b.request) (record { author = 0; request = 0; stamp = t })
    once (suc home) = pairs_none (λ (a b : BegunRequest). a.request ≢ b.request)

-- and so does its session

of-script : (P : ℕ → Request → Type 0) → P 0 change → (r : ℕ) (request : Request) → request_at script r ≡ Some request → P r request
of-script P holds zero request at = let same : change ≡ request = cc in subst (P 0) same holds
of-script P holds (suc r) request at = absurd cc

sessions : SessionsClause script closed
sessions =
    record {
      logs = logs;
      stamps = of-script (λ r request. session_stamp_of r (session_log closed request.session) ≡ stamp_of closed r) refl;
      replies = replies;
      finished_are_replied = of-script (λ r request. IsTrue (is_look request.work) → IsTrue (is_ended closed r)
          → IsTrue (has_reply_in r (session_log closed request.session))) (λ look. absurd cc);
    }
  where
    logs : (number : ℕ) → AtEachEntry
        (λ before (entry : SessionEntry). (entry.author ≡ number) × FitsSession (session_of (requests_of_session script number) before) entry.deed)
        (session_log closed number)
    logs zero =
        two (λ before (entry : SessionEntry). (entry.author ≡ 0) × FitsSession (session_of (requests_of_session script 0) before) entry.deed) b1 b2
        (refl, record { replied = refl; next = refl; rises = λ x at. cc })
        (refl, record { waits = refl; last = refl })
    logs (suc number) = each_none _

    replies : (number : ℕ) → AtEachEntry (λ before (entry : SessionEntry). RepliesAs closed entry.deed) (session_log closed number)
    replies zero = two (λ before (entry : SessionEntry). RepliesAs closed entry.deed) b1 b2 tt refl
    replies (suc number) = each_none _

-- So the closed logs are an account

runs : IsAccount script start → IsRunByHands script 1 start (λ number. seen) closed
runs empty = record {
  at_start = empty;
  gates = refl;
  shards = refl;
  follows = λ number less. subst (λ n. IsFollowedByHand script n start seen closed) (only-zero number less) follows;
  hand_of = λ session. 0;
  own_sessions = λ number less r given request at. only-zero number less;
  sessions = sessions;
}

-- if logs without any entry are an account of the script, so are the closed logs of this run
pub worked-run : LawsForHands → IsAccount script start → IsAccount script closed
worked-run laws empty =
    closed-account {script = script} {hands = 1} {start = start} {seen_by = λ number. seen}
    (record { laws = laws; limits = limits; legal = legal; of = of-hands; runs = runs empty })
