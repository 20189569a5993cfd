-- Logs that are no account, each shown by one clause.
-- Used by nothing: worked examples.
use Rattle.std.proofs.Common.{◌≡◌, ℕ, true, false, List, [], ◌∷◌, ◌++◌, map, length, Contains, IsTrue, Some, inl, inr, refl, sym, ap, subst, ◌∙◌, arith}
use Rattle.std.specs.List.{flat_map}
use Rattle.weave_data.proofs.Members.{has_none, has_read, has_head, only}
use Rattle.vector_stamp.specs.declared.clock.Stamp.{Stamp}
use Rattle.vector_stamp.specs.Precedence.{Precedes, precedes}
use Rattle.graph_ops.specs.declared.part.Part.{Part}
use Rattle.weave_entries.specs.declared.gate_log.GateEntry.{GateEntry}
use Rattle.weave_entries.specs.declared.gate_log.GateDeed.TheVariants.{BeganProgram, Heard, Sent}
use Rattle.weave_entries.specs.declared.message.Addressed.{Addressed}
use Rattle.weave_entries.specs.declared.oracle_log.OracleEntry.{OracleEntry}
use Rattle.weave_entries.specs.declared.oracle_log.OracleDeed.TheVariants.{Settled}
use Rattle.weave_entries.specs.declared.shard_log.ShardDeed.TheVariants.{Applied, Arrived, Collected, Visited}
use Rattle.weave_entries.specs.declared.message.Message.{Message}
use Rattle.weave_account.specs.Shards.{Applies}
use Rattle.weave_entries.specs.declared.store_log.StoreEntry.{StoreEntry}
use Rattle.weave_entries.specs.declared.store_log.StoreDeed.TheVariants.{Judged}
use Rattle.weave_entries.specs.declared.verdict.Verdict.TheVariants.{Conflict}
use Rattle.weave_entries.specs.ShardReplay.{Visit, visits_of, waits_at}
use Rattle.weave_entries.specs.StoreReplay.{Commit, Judgement, judged_by, commit_by, commits_of}
use Rattle.weave_entries.specs.StoreRule.{asked_stamps, lasts_of}
use Rattle.weave_entries.specs.Sending.{messages_of}
use Rattle.weave_account.specs.declared.account.Account.{Account}
use Rattle.weave_account.specs.Account.{Precedence, shard_log}
use Rattle.weave_account.specs.IsAccount.{IsAccount}
use Rattle.weave_account.specs.LowerLaws.{LawsForAccounts}
use Rattle.weave_account.proofs.ExampleReader as reader
use Rattle.weave_account.proofs.ExampleWriters as writers
use Rattle.weave_account.proofs.ExampleMarked as marks
use Rattle.weave_account.proofs.Applying.{same-head}
use Rattle.weave_account.proofs.ExampleParts.{clock}
use Rattle.std.proofs.lemmas.List.{length-append}
use Rattle.std.specs.Prelude.{codes}
use Rattle.graph_ops.specs.declared.op.Op.TheVariants.{Create, Set}
use Rattle.std.proofs.Common.{zero, suc}
use Rattle.weave_entries.specs.declared.shard_log.ShardEntry.{ShardEntry}
use Rattle.std.proofs.Common.{◌≤◌}
use Rattle.std.proofs.Common.{None}
use Rattle.vector_stamp.specs.Clocks.{counts_no_more}
use Rattle.weave_account.specs.Account.{gate_log}
use Rattle.weave_entries.specs.GateReplay.{BegunRequest, txs_of}

-- Of two unordered writers

-- the second commits, and the oracle has no pair
pub no-pair : LawsForAccounts → ¬ IsAccount writers.script (record writers.account { oracle = [] })
no-pair laws is =
    let before : Precedence (record writers.account { oracle = [] }) writers.x writers.y =
    (is.store.judges (writers.j1 ∷ []) writers.j2 [] refl).verdict.after_last writers.v refl _ refl in
    let test : IsTrue (precedes [] writers.x writers.y) = (laws.decided [] writers.x writers.y).0 before in
    cc

-- the oracle was asked of a stamp besides that of the last commit
abbrev zero-stamp : Stamp
zero-stamp = record { home = 0; clock = clock 0 0 }

abbrev asked-of-two : OracleEntry
asked-of-two = record { author = 0; deed = Settled (zero-stamp ∷ writers.x ∷ []) writers.y (1 ∷ []) }

-- logs in which the oracle was asked of a stamp besides that of the last commit are no account
pub other-earlier : ¬ IsAccount writers.script (record writers.account { oracle = asked-of-two ∷ [] })
other-earlier is = elim (is.oracle.asked asked-of-two (has_head asked-of-two [])) [
  | inl commit ↦ by-commit commit.before commit.entry commit.after commit.at commit.commit commit.commit_is commit.later_is commit.earlier_are
  | inr visit ↦ by-visit visit.shard visit.visit visit.visited
]
  where
    by-commit : (before : List StoreEntry) (entry : StoreEntry) (after : List StoreEntry)
        → writers.j1 ∷ writers.j2 ∷ [] ≡ before ++ entry ∷ after → (commit : Commit) → commit_by entry.deed ≡ commit ∷ []
        → writers.y ≡ commit.stamp
        → zero-stamp ∷ writers.x ∷ [] ≡ asked_stamps commit.stamp (lasts_of commit.ops (commits_of before)) → ⊥
    by-commit [] entry after at commit commit-is later earlier =
        let entry-is : writers.j1 ≡ entry = cc in
        let its = subst (λ (e : StoreEntry). commit_by e.deed ≡ commit ∷ []) (sym entry-is) commit-is in
        let commit-is : record { request = 0; stamp = writers.x; ops = Create writers.v ∷ [] } ≡ commit = same-head _ _ its in
        let homes : writers.y.home ≡ writers.x.home = ap (λ (s : Stamp). s.home) (later ∙ ap (λ (c : Commit). c.stamp) (sym commit-is)) in
        absurd (omega (arith, homes))
    by-commit (first ∷ []) entry after at commit commit-is later earlier =
        let first-is : writers.j1 ≡ first = cc in
        let entry-is : writers.j2 ≡ entry = cc in
        let its = subst (λ (e : StoreEntry). commit_by e.deed ≡ commit ∷ []) (sym entry-is) commit-is in
        let commit-is : record { request = 1; stamp = writers.y; ops = Set writers.v (codes "k") (codes "x") ∷ [] } ≡ commit = same-head _ _ its in
        let asked : zero-stamp ∷ writers.x ∷ [] ≡ writers.x ∷ [] =
        earlier ∙ ap (λ (c : Commit). asked_stamps c.stamp (lasts_of c.ops (commits_of (first ∷ [])))) (sym commit-is)
        ∙ ap (λ f. asked_stamps writers.y (lasts_of (Set writers.v (codes "k") (codes "x") ∷ []) (commits_of (f ∷ [])))) (sym first-is) in
        let two : 2 ≡ 1 = ap (λ (xs : List Stamp). length xs) asked in
        absurd (omega (arith, two))
    by-commit (first ∷ second ∷ before) entry after at commit commit-is later earlier =
        let long = ap length at in let more = length-append before (entry ∷ after) in absurd (omega (arith, long, more))

    by-visit : (shard : ℕ) (visit : Visit) → Contains (visits_of (shard_log writers.account shard)) visit → ⊥
    by-visit zero visit h = has_none visit h
    by-visit (suc shard) visit h = has_none visit h

-- what one transaction sends is made from the other one's operations
abbrev of-other : GateEntry
of-other =
    record { author = 0; deed = Sent 0 (record { shard = 0; number = 1; message = record writers.m2 { request = Some 0; stamp = writers.x; low = clock 1 0 } } ∷ []) }

-- logs in which a transaction sends messages made from another one's operations are no account
pub others-verdict : ¬ IsAccount writers.script (record writers.account { gates = (writers.g1 ∷ of-other ∷ []) ∷ (writers.h1 ∷ writers.h2 ∷ []) ∷ [] })
others-verdict is =
    let sends = is.channels 0 (writers.g1 ∷ []) of-other [] refl in
    elim (has_read (judged_by 0 writers.j1.deed) (judged_by 0 writers.j2.deed ∷ []) sends.judged sends.is_judged) [
      | inl first ↦
          let messages =
          sends.messages_are
          ∙ ap (λ (j : Judgement). messages_of 1 (writers.g1 ∷ []) (record { author = 0; request = 0; stamp = j.stamp }) j.ops j.verdict) (sym first) in
          let counts = ap (flat_map (λ (a : Addressed). map (λ (part : Part). part.before) a.message.parts)) messages in
          cc
      | inr second ↦
          let its = only (judged_by 0 writers.j2.deed) sends.judged second in
          let request : (judged_by 0 writers.j2.deed).request ≡ 0 = ap (λ (j : Judgement). j.request) its ∙ sends.request_is in
          absurd (omega (arith, request))
    ]

-- Of a program that reads a transaction

-- the program reads the vertex before its update, which is before the program
abbrev skips : Account
skips =
    record reader.account { shards = (reader.s1 ∷ reader.s2 ∷ reader.s3 ∷ record { author = 0; deed = Visited 1 (reader.stamp 2) reader.v 0 false } ∷ []) ∷ [] }

-- logs in which a program reads a vertex before an update that is before the program are no account
pub too-early : LawsForAccounts → ¬ IsAccount reader.script skips
too-early laws is =
    let before : Precedence skips (reader.stamp 2) (reader.stamp 1) =
    (is.shards.deeds 0 (reader.s1 ∷ reader.s2 ∷ reader.s3 ∷ []) (record { author = 0; deed = Visited 1 (reader.stamp 2) reader.v 0 false }) [] refl).before_skipped _ refl in
    let test : IsTrue (precedes [] (reader.stamp 2) (reader.stamp 1)) = (laws.decided [] (reader.stamp 2) (reader.stamp 1)).0 before in
    cc

-- nothing after the program has come from the gatekeeper
abbrev unready : Account
unready = record reader.account { shards = (reader.s1 ∷ reader.s2 ∷ reader.s4 ∷ []) ∷ [] }

-- logs in which a program reads before anything after it has come from the gatekeeper are no account
pub not-ready : ¬ IsAccount reader.script unready
not-ready is = let ready = (is.shards.deeds 0 (reader.s1 ∷ reader.s2 ∷ []) reader.s4 [] refl).ready in cc

-- the same message is applied again
abbrev again : Account
again = record reader.account { shards = (reader.s1 ∷ reader.s2 ∷ reader.s2 ∷ []) ∷ [] }

-- logs in which the same message is applied twice are no account
pub applied-twice : ¬ IsAccount reader.script again
applied-twice is = let number = (is.shards.deeds 0 (reader.s1 ∷ reader.s2 ∷ []) reader.s2 [] refl).number_is in cc

-- the visit is marked as settled, and the oracle has no entry for it
abbrev marked : Account
marked =
    record reader.account { shards = (reader.s1 ∷ reader.s2 ∷ reader.s3 ∷ record { author = 0; deed = Visited 1 (reader.stamp 2) reader.v 1 true } ∷ []) ∷ [] }

-- logs in which a visit is marked as settled, and the oracle has no entry for it, are no account
pub no-entry : ¬ IsAccount reader.script marked
no-entry is =
    let its =
    is.oracle.marked 0 (record { author = 0; request = 1; stamp = reader.stamp 2; vertex = reader.v; updates = 1; settled = true })
    (has_head _ []) refl in
    has_none its.entry its.is_there

-- the program is finished, and has not read its vertex
abbrev unread : Account
unread = record reader.account { shards = (reader.s1 ∷ reader.s2 ∷ reader.s3 ∷ []) ∷ [] }

-- logs in which a program is finished that has not read its vertex are no account
pub finished-early : ¬ IsAccount reader.script unread
finished-early is = let next = (is.programs 1 _ _ refl refl).whole refl in cc

-- it is finished, and has no reply
abbrev unreplied : Account
unreplied = record reader.account { sessions = (reader.b1 ∷ reader.b2 ∷ reader.b3 ∷ []) ∷ [] }

-- logs in which a program is finished, and has no reply, are no account
pub finished-unreplied : ¬ IsAccount reader.script unreplied
finished-unreplied is = let replied = is.sessions.finished_are_replied 1 _ refl refl refl in cc

-- the transaction begins as a program
abbrev of-wrong-kind : GateEntry
of-wrong-kind = record { author = 0; deed = BeganProgram 0 (reader.stamp 1) }

-- logs in which a transaction begins as a program are no account
pub wrong-kind : ¬ IsAccount reader.script (record reader.account { gates = (of-wrong-kind ∷ []) ∷ [] })
wrong-kind is = let own = (is.gatekeepers.begins 0 [] of-wrong-kind [] refl).own in cc

-- a part is left out of a message
abbrev without-part : GateEntry
without-part =
    record { author = 0; deed = Sent 0 (record { shard = 0; number = 1; message = record reader.sent { parts = [] } } ∷ []) }

-- logs in which a part is left out of a message are no account
pub part-left-out : ¬ IsAccount reader.script (record reader.account { gates = (reader.g1 ∷ without-part ∷ []) ∷ [] })
part-left-out is =
    let sends = is.channels 0 (reader.g1 ∷ []) without-part [] refl in
    let its = only (judged_by 0 reader.judged.deed) sends.judged sends.is_judged in
    let messages =
    sends.messages_are
    ∙ ap (λ (j : Judgement). messages_of 1 (reader.g1 ∷ []) (record { author = 0; request = 0; stamp = j.stamp }) j.ops j.verdict) (sym its) in
    let parts = ap (map (λ (a : Addressed). length a.message.parts)) messages in
    cc

-- the same message arrives again
abbrev arrives-again : Account
arrives-again = record reader.account { shards = (reader.s1 ∷ reader.s1 ∷ []) ∷ [] }

-- logs in which the same message arrives twice are no account
pub arrived-twice : ¬ IsAccount reader.script arrives-again
arrived-twice is = let new = (is.shards.deeds 0 (reader.s1 ∷ []) reader.s1 [] refl).new in cc

-- a shard collects below a bound, though nothing was processed
abbrev collects : ShardEntry
collects = record { author = 0; deed = Collected (Some (reader.clock 1)) }

-- logs in which a shard collects below a bound, though nothing was processed, are no account
pub other-bound : ¬ IsAccount reader.script (record reader.account { shards = (collects ∷ []) ∷ [] })
other-bound is = let bound : Some (reader.clock 1) ≡ None = is.shards.deeds 0 [] collects [] refl in cc

-- a transaction has its reply, and was not sent
pub replied-unsent : ¬ IsAccount reader.script (record reader.account { gates = (reader.g1 ∷ []) ∷ [] })
replied-unsent is = let ended = is.sessions.replies 0 (reader.b1 ∷ []) reader.b2 (reader.b3 ∷ reader.b4 ∷ []) refl in cc

-- a gatekeeper hears a clock that counts events which were not made
abbrev hears-more : GateEntry
hears-more = record { author = 0; deed = Heard (reader.clock 5) }

-- logs in which a gatekeeper hears a clock that counts events which were not made are no account
pub unknown-clock : ¬ IsAccount reader.script (record reader.account { gates = (hears-more ∷ []) ∷ [] })
unknown-clock is =
    let counts : 5 ≤ 0 = (is.clocks.known 0 (reader.clock 5) (has_head (reader.clock 5) [])).counts 0 in absurd (omega (arith, counts))

-- the gatekeeper hears its first stamp before it made it
abbrev hears-own : GateEntry
hears-own = record { author = 0; deed = Heard (reader.clock 1) }

-- logs in which a gatekeeper hears its first stamp before it made it are no account
pub heard-own : ¬ IsAccount reader.script (record reader.account { gates = (hears-own ∷ reader.g1 ∷ reader.g2 ∷ reader.g3 ∷ reader.g4 ∷ reader.g5 ∷ []) ∷ [] })
heard-own is =
    let own : IsTrue (counts_no_more 0 (reader.clock 0) (reader.clock 1)) = is.clocks.hears_no_more 0 [] hears-own (reader.g1 ∷ reader.g2 ∷ reader.g3 ∷ reader.g4 ∷ reader.g5 ∷ []) refl in cc

-- the program reads its vertex twice
abbrev twice : Account
twice = record reader.account { shards = (reader.s1 ∷ reader.s2 ∷ reader.s3 ∷ reader.s4 ∷ reader.s4 ∷ []) ∷ [] }

-- logs in which a program reads its vertex twice are no account
pub read-twice : ¬ IsAccount reader.script twice
read-twice is = (is.programs 1 _ _ refl refl).once 0 1 (reader.v, None) (omega arith) (omega arith) refl

-- the store judges the transaction for another one than it was begun by
abbrev for-another : StoreEntry
for-another = record reader.judged { author = 3 }

-- logs in which the store judges a transaction for another one than its author are no account
pub judged-for-another : ¬ IsAccount reader.script (record reader.account { store = for-another ∷ [] })
judged-for-another is = let judges = is.store.judges [] for-another [] refl in by-home judges.home judges.begun
  where
    begun-for : BegunRequest
    begun-for = record { author = 3; request = 0; stamp = reader.stamp 1 }

    by-home : (home : ℕ) → Contains (txs_of (gate_log reader.account home)) begun-for → ⊥
    by-home zero h =
        let author = ap (λ (b : BegunRequest). b.author) (only (record { author = 0; request = 0; stamp = reader.stamp 1 }) begun-for h) in absurd (omega (arith, author))
    by-home (suc home) h = has_none begun-for h

-- Of a program that reaches a vertex over two shards

-- both visits are marked, and there is one entry
pub marked-twice : ¬ IsAccount marks.script (record marks.account { shards = marks.shard-b true ∷ marks.shard-a ∷ [] })
marked-twice is = is.oracle.once 0 1 (0, []) (omega arith) (omega arith) refl

-- they see the transaction, and the oracle has no pair
pub sees-unordered : LawsForAccounts → ¬ IsAccount marks.script (record marks.account { oracle = [] })
sees-unordered laws is =
    let four-before : List ShardEntry =
    marks.arrives marks.of-b ∷ marks.applies ∷ marks.first-empty (marks.at-first 2 1) (clock 2 1) ∷ marks.second-empty (marks.at-second 0 2) (clock 0 1) ∷ [] in
    let before : Precedence (record marks.account { oracle = [] }) (marks.at-first 1 0) (marks.at-second 0 1) =
    (is.shards.deeds 0 four-before (marks.visits-b false) [] refl).after_seen (omega arith) _ refl in
    let test : IsTrue (precedes [] (marks.at-first 1 0) (marks.at-second 0 1)) =
    (laws.decided [] (marks.at-first 1 0) (marks.at-second 0 1)).0 before in
    cc

-- Of two writers, applied in the other order

abbrev arrives-second : ShardEntry
arrives-second = record { author = 0; deed = Arrived 1 1 writers.m2 }

abbrev applies-second : ShardEntry
applies-second = record { author = 0; deed = Applied 1 1 }

-- the second one's message is applied before the first one's
pub out-of-turn : ¬ IsAccount writers.script (record writers.account { shards = (arrives-second ∷ applies-second ∷ []) ∷ [] })
out-of-turn is =
    let applies : Applies (arrives-second ∷ []) 1 1 = is.shards.deeds 0 (arrives-second ∷ []) applies-second [] refl in
    let head : Some writers.m2 ≡ Some applies.message = applies.head in
    let same : writers.m2 ≡ applies.message = cc in
    let waits : Some writers.v ≡ None = subst (λ (m : Message). waits_at m (arrives-second ∷ []) ≡ None) (sym same) applies.in_turn in
    cc

-- Of all kinds

-- a program reads a vertex at a shard that doesn't keep it
abbrev elsewhere : ShardEntry
elsewhere = record { author = 0; deed = Visited 1 (marks.at-second 0 1) marks.a 0 false }

-- logs in which a program reads a vertex at a shard that doesn't keep it are no account
pub at-another-shard : ¬ IsAccount marks.script (record marks.account { shards = (elsewhere ∷ []) ∷ marks.shard-a ∷ [] })
at-another-shard is = let here : 1 ≡ 0 = (is.shards.deeds 0 [] elsewhere [] refl).kept_here in absurd (omega (arith, here))

-- logs in which a transaction is judged twice are no account
pub judged-twice : ¬ IsAccount reader.script (record reader.account { store = reader.judged ∷ reader.judged ∷ [] })
judged-twice is = is.store.once 0 1 (judged_by 0 reader.judged.deed) (omega arith) (omega arith) refl

-- logs in which a transaction begins twice are no account
pub begun-twice : ¬ IsAccount reader.script (record reader.account { gates = (reader.g1 ∷ reader.g1 ∷ []) ∷ [] })
begun-twice is =
    is.gatekeepers.once 0 1 (record { author = 0; request = 0; stamp = reader.stamp 1 }) (omega arith) (omega arith) refl

-- the second writer conflicts with the first, which it doesn't precede
abbrev conflicts : StoreEntry
conflicts =
    record { author = 0; deed = Judged 1 writers.y (Set writers.v (codes "k") (codes "x") ∷ []) (writers.v ∷ []) (Conflict writers.v 0) }

-- logs in which a transaction conflicts with one that it doesn't precede are no account
pub conflict-with-unordered : LawsForAccounts
    → ¬ IsAccount writers.script (record writers.account { store = writers.j1 ∷ conflicts ∷ []; oracle = [] })
conflict-with-unordered laws is =
    let verdict = (is.store.judges (writers.j1 ∷ []) conflicts [] refl).verdict in
    let last : Some (record { request = 0; stamp = writers.x; ops = Create writers.v ∷ [] }) ≡ Some verdict.last = verdict.last_is in
    let same : record { request = 0; stamp = writers.x; ops = Create writers.v ∷ [] } ≡ verdict.last = cc in
    let before : Precedes [] writers.y writers.x = subst (λ (c : Commit). Precedes [] writers.y c.stamp) (sym same) verdict.precedes in
    let test : IsTrue (precedes [] writers.y writers.x) = (laws.decided [] writers.y writers.x).0 before in
    cc
