-- Logs that the hand has seen whole that made them: a transaction creates v at gatekeeper 0 and is sent to shard 0. A
-- program begins at gatekeeper 1, reads v, for which the oracle puts the transaction before it, and is finished. All
-- that
-- the entries refer to was seen. The shard isn't ready for the visit: a run of machines is in `ExampleRun`. Then each
-- kind of entry once with a reference that was not seen.
-- Used by nothing: worked examples.
use Rattle.std.proofs.Common.{◌≡◌, ℕ, zero, suc, Bool, true, false, Option, List, [], ◌∷◌, ◌++◌, length, Contains, IsTrue, Some, None, inl, inr, refl, sym, ap, subst, ◌∙◌, arith}
use Rattle.std.specs.Prelude.{codes, cond, not}
use Rattle.std.specs.Map.{keys_of}
use Rattle.std.specs.List.{find}
use Rattle.std.proofs.lemmas.List.{length-append}
use Rattle.weave_data.proofs.Entries.{each_none}
use Rattle.weave_data.proofs.Members.{has_head, has_none, has_read, has_tail, only}
use Rattle.weave_data.specs.declared.name.Name.{Name}
use Rattle.weave_data.specs.Names.{same_name}
use Rattle.graph_ops.specs.declared.op.Op.TheVariants.{Create}
use Rattle.graph_ops.specs.Mentions.{is_among}
use Rattle.graph_ops.specs.Operations.{State}
use Rattle.graph_ops.specs.PlainGraph.{PlainGraph}
use Rattle.vector_stamp.specs.declared.clock.Stamp.{Stamp}
use Rattle.vector_stamp.specs.Order.{stamp_before}
use Rattle.vector_stamp.specs.Precedence.{ByPair, ByStamps, Precedes, Through}
use Rattle.program_defs.specs.declared.passing.Passing.{Passing}
use Rattle.program_defs.specs.declared.passing.Passing.TheVariants.{Priced}
use Rattle.program_defs.specs.declared.program.Program.{Program}
use Rattle.program_defs.specs.declared.program.Program.TheVariants.{Show, Reach, Around, Path, Price}
use Rattle.program_defs.specs.Walks.{passing_of}
use Rattle.program_defs.specs.Visits.{graph_read, levels_to, next_visit, through_level, up_to, visits_to}
use Rattle.weave_entries.specs.declared.gate_log.GateEntry.{GateEntry}
use Rattle.weave_entries.specs.declared.gate_log.GateDeed.TheVariants.{BeganTx, BeganProgram, Sent, Nop, Heard, Finished}
use Rattle.weave_entries.specs.declared.message.Message.{Message}
use Rattle.weave_entries.specs.declared.oracle_log.OracleEntry.{OracleEntry}
use Rattle.weave_entries.specs.declared.oracle_log.OracleDeed.TheVariants.{Settled}
use Rattle.weave_entries.specs.declared.shard_log.ShardEntry.{ShardEntry}
use Rattle.weave_entries.specs.declared.shard_log.ShardDeed.TheVariants.{Arrived, Applied, Visited}
use Rattle.weave_entries.specs.declared.store_log.StoreEntry.{StoreEntry}
use Rattle.weave_entries.specs.declared.store_log.StoreDeed.TheVariants.{Judged}
use Rattle.weave_entries.specs.declared.verdict.Verdict.TheVariants.{Committed, Conflict}
use Rattle.weave_entries.specs.GateReplay.{BegunRequest, programs_of, txs_of}
use Rattle.weave_entries.specs.ShardReplay.{Update, Visit, visits_of}
use Rattle.weave_entries.specs.StoreReplay.{Commit, judged_by}
use Rattle.weave_account.specs.declared.account.Account.{Account}
use Rattle.weave_account.specs.Account.{Precedence, begun_stamps, gate_log, shard_log}
use Rattle.seen_logs.specs.References.{GateRefersAs, IsAskedAsSeen, OracleRefersAs, ShardRefersAs, StoreRefersAs}
use Rattle.seen_logs.specs.Seen.{GateRefersWithin, HasAsked, IsOwn, IsSeenByHand, OracleRefersWithin, ShardRefersWithin, StoreRefersWithin, VisitsItsOwn, VisitsOwnPrograms, entries_since, visit_entry}
use Rattle.weave_account.proofs.ExampleLists.{four, one, three, two}
use Rattle.weave_account.proofs.ExampleParts.{clock, two-known}
use Rattle.seen_logs.proofs.ExampleParts.{creation-refers}

-- The run

abbrev v : Name
v = codes "v"

-- the transaction's stamp, the program's, and that of an empty message
abbrev t : Stamp
t = record { home = 0; clock = clock 1 0 }

abbrev p : Stamp
p = record { home = 1; clock = clock 0 1 }

abbrev e : Stamp
e = record { home = 1; clock = clock 1 2 }

abbrev sent : Message
sent = record { request = Some 0; stamp = t; low = clock 1 0; parts = record { vertex = v; before = 0; ops = Create v ∷ [] } ∷ [] }

abbrev g1 : GateEntry
g1 = record { author = 7; deed = BeganTx 0 t }

abbrev g2 : GateEntry
g2 = record { author = 7; deed = Sent 0 (record { shard = 0; number = 1; message = sent } ∷ []) }

abbrev h1 : GateEntry
h1 = record { author = 7; deed = BeganProgram 1 p }

abbrev h2 : GateEntry
h2 = record { author = 7; deed = Heard (clock 1 0) }

abbrev h3 : GateEntry
h3 = record { author = 7; deed = Nop 0 1 e (clock 0 1) }

abbrev h4 : GateEntry
h4 = record { author = 7; deed = Finished 1 }

abbrev judged : StoreEntry
judged = record { author = 7; deed = Judged 0 t (Create v ∷ []) [] (Committed 1 [] (record { vertex = v; before = 0 } ∷ [])) }

abbrev settled : OracleEntry
settled = record { author = 7; deed = Settled (t ∷ []) p (0 ∷ []) }

abbrev s1 : ShardEntry
s1 = record { author = 7; deed = Arrived 0 1 sent }

abbrev s2 : ShardEntry
s2 = record { author = 7; deed = Applied 0 1 }

abbrev s3 : ShardEntry
s3 = record { author = 7; deed = Visited 1 p v 1 true }

abbrev visit : Visit
visit = record { author = 7; request = 1; stamp = p; vertex = v; updates = 1; settled = true }

abbrev seen : Account
seen = record {
  gates = (g1 ∷ g2 ∷ []) ∷ (h1 ∷ h2 ∷ h3 ∷ h4 ∷ []) ∷ [];
  store = judged ∷ [];
  oracle = settled ∷ [];
  shards = (s1 ∷ s2 ∷ s3 ∷ []) ∷ [];
  sessions = [];
}

-- nothing was seen
abbrev unseen : Account
unseen = record { gates = [] ∷ [] ∷ []; store = []; oracle = []; shards = [] ∷ []; sessions = [] }

-- What was seen

gates : (home : ℕ) → GateRefersWithin 1 seen home
gates zero =
    two (λ before (entry : GateEntry). GateRefersAs seen 1 before entry.author entry.deed) g1 g2
    (two-known seen 1 0 (omega arith) (omega arith))
    (record { judged = judged_by 7 judged.deed; is_judged = has_head _ []; request_is = refl; messages_are = refl })
gates (suc zero) =
    four (λ before (entry : GateEntry). GateRefersAs seen 1 before entry.author entry.deed) h1 h2 h3 h4
    (two-known seen 0 1 (omega arith) (omega arith))
    (two-known seen 1 0 (omega arith) (omega arith))
    (two-known seen 1 2 (omega arith) (omega arith))
    (record { program = Show v; reads = (v, Some (record { props = []; edges = [] })) ∷ []; read = λ read h. h; whole = refl })
gates (suc (suc home)) = each_none _

store : StoreRefersWithin seen
store =
    one (λ before (entry : StoreEntry). StoreRefersAs seen before entry.author entry.deed) judged
    (creation-refers seen 7 t (has_head _ []))

oracle : OracleRefersWithin seen
oracle =
    one (λ before (entry : OracleEntry). OracleRefersAs seen entry.deed) settled
    (λ stamp h. elim (has_read p (t ∷ []) stamp h) [
      | inl later ↦ subst (Contains (begun_stamps seen)) later (has_tail t (p ∷ []) p (has_head p []))
      | inr earlier ↦ subst (Contains (begun_stamps seen)) (only t stamp earlier) (has_head t (p ∷ []))
    ])

asked : IsAskedAsSeen seen settled
asked = inr (record { shard = 0; visit = visit; visited = has_head visit []; marked = refl; later_is = refl; earlier_is = refl })

shards : (shard : ℕ) → ShardRefersWithin 1 seen shard
shards zero =
    three (λ before (entry : ShardEntry). ShardRefersAs seen 1 0 before entry.author entry.deed) s1 s2 s3
    (record {
      sent = has_head _ [];
      made = inr (record {
        judged = judged_by 7 judged.deed;
        is_judged = has_head _ [];
        log = g1 ∷ [];
        begun = record { author = 7; request = 0; stamp = t };
        stamp_is = refl;
        addressed = record { shard = 0; number = 1; message = sent };
        sent = has_head _ [];
        shard_is = refl;
        message_is = refl;
      });
    })
    tt
    (record {
      home = 1;
      by = 7;
      begun = has_head _ [];
      kept_here = refl;
      commits_read = λ update h. h;
      after_seen = λ some u at. (let same : record { stamp = t; ops = Create v ∷ [] } ≡ u = cc in subst (λ (k : Update). Precedence seen k.stamp p) same
          (ByPair t p (has_head (t, p) [])));
      before_skipped = λ u at. cc;
      asked = λ marked. record { entry = settled; is_there = has_head settled []; later_is = refl; earlier_is = refl };
    })
shards (suc shard) = each_none _

-- the only visit that asked is the last entry of shard 0
where-asked : (shard : ℕ) (before : List ShardEntry) (w : Visit) → HasAsked 7 unseen seen shard before w → (shard ≡ 0) × (length before ≡ 2)
where-asked zero [] w has =
    absurd (let at = has.at in let heads : s1 ≡ visit_entry w = cc in let deeds = ap (λ (x : ShardEntry). x.deed) heads in cc)
where-asked zero (a ∷ []) w has =
    absurd (let at = has.at in let heads : s2 ≡ visit_entry w = cc in let deeds = ap (λ (x : ShardEntry). x.deed) heads in cc)
where-asked zero (a ∷ b ∷ []) w has = (refl, refl)
where-asked zero (a ∷ b ∷ c ∷ before) w has =
    absurd (let many = ap length has.at in let long = length-append before (visit_entry w ∷ has.after) in omega (arith, many, long))
where-asked (suc shard) before w has =
    absurd (let many = ap length has.at in let long = length-append before (visit_entry w ∷ has.after) in omega (arith, many, long))

-- hand 7 has seen it all, from the start on
worked : IsSeenByHand 1 7 unseen seen
worked =
    record {
      starts = record { gates = begins-gate; store = (seen.store, refl); oracle = (seen.oracle, refl); shards = begins-shard };
      gate_entries = λ home before entry after at mine. gates home before entry after at;
      store_entries = λ before entry after at mine. store before entry after at;
      oracle_entries = λ before entry after at mine.
          (oracle before entry after at, one (λ before (entry : OracleEntry). IsAskedAsSeen seen entry) settled asked before entry after at);
      shard_entries = λ shard before entry after at mine. shards shard before entry after at;
      asks_once = λ shard other before rest a b asked_a asked_b stamps lasts.
          let here = where-asked shard before a asked_a in
          let there = where-asked other rest b asked_b in
          (here.0 ∙ sym there.0, here.1 ∙ sym there.1);
    }
  where
    begins-gate : (home : ℕ) → (more : List GateEntry) × (gate_log seen home ≡ gate_log unseen home ++ more)
    begins-gate zero = (gate_log seen 0, refl)
    begins-gate (suc zero) = (gate_log seen 1, refl)
    begins-gate (suc (suc home)) = ([], refl)

    begins-shard : (shard : ℕ) → (more : List ShardEntry) × (shard_log seen shard ≡ shard_log unseen shard ++ more)
    begins-shard zero = (shard_log seen 0, refl)
    begins-shard (suc shard) = ([], refl)

-- and its visit is of its own program
own : VisitsOwnPrograms 7 unseen seen
own zero =
    three (λ before (entry : ShardEntry). IsOwn 7 (shard_log unseen 0) before entry.author → VisitsItsOwn 7 unseen seen entry.deed) s1 s2 s3
    (λ own. tt) (λ own. tt) (λ own. (1, has_head _ []))
own (suc shard) = each_none _

-- What was not seen

-- a transaction's stamp counts an event of its gatekeeper, of which nothing was seen
tick-unseen : ¬ GateRefersAs unseen 1 [] 7 (BeganTx 0 t)
tick-unseen refers = let few = refers.counts 0 in omega (arith, few)

-- a program's stamp is of an epoch that nobody raised
epoch-unseen : ¬ GateRefersAs seen 1 [] 7 (BeganProgram 1 (record { home = 1; clock = record { epoch = 1; counts = 0 ∷ 0 ∷ 0 ∷ 0 ∷ 0 ∷ 0 ∷ 0 ∷ 0 ∷ [] } }))
epoch-unseen refers = let none : IsTrue false = refers.raised (λ is. omega (arith, is)) in cc

-- an empty message's stamp counts one event more than were seen
nop-unseen : ¬ GateRefersAs seen 1 [] 7 (Nop 0 1 (record { home = 1; clock = clock 1 3 }) (clock 0 1))
nop-unseen refers = let few = refers.counts 1 in omega (arith, few)

-- a clock that was heard counts an event of a gatekeeper that isn't there
clock-unseen : ¬ GateRefersAs seen 1 [] 7 (Heard (record { epoch = 0; counts = 0 ∷ 0 ∷ 1 ∷ 0 ∷ 0 ∷ 0 ∷ 0 ∷ 0 ∷ [] }))
clock-unseen refers = let few = refers.counts 2 in omega (arith, few)

-- a transaction is sent, and its judgement was not seen
judgement-unseen : ¬ GateRefersAs (record seen { store = [] }) 1 (g1 ∷ []) 7 (Sent 0 (record { shard = 0; number = 1; message = sent } ∷ []))
judgement-unseen refers = has_none refers.judged refers.is_judged

-- a program is finished, and none of its visits was seen: its first one is still to come
first-through : (n : ℕ) (graph : PlainGraph) (pass : Passing) (from : Name) → (rest : List Name) × (through_level n graph pass from ≡ from ∷ rest)
first-through zero graph pass from = ([], refl)
first-through (suc n) graph pass from =
    let levels = levels_to (suc n) graph pass from in
    let so_far = first-through n graph pass from in
    (so_far.0 ++ levels.level, ap (λ l. l ++ levels.level) so_far.1)

first-up : (to from : Name) (names rest : List Name) → names ≡ from ∷ rest → (others : List Name) × (up_to to names ≡ from ∷ others)
first-up to from names rest is = subst (λ l. (others : List Name) × (up_to to l ≡ from ∷ others)) (sym is) (at (same_name to from))
  where
    at : (b : Bool) → (others : List Name) × (cond b (from ∷ []) (from ∷ up_to to rest) ≡ from ∷ others)
    at true = ([], refl)
    at false = (up_to to rest, refl)

first-visit : (graph : PlainGraph) (program : Program) → (w : Name) × (rest : List Name) × (visits_to 0 graph program ≡ w ∷ rest)
first-visit graph (Show w) = (w, [], refl)
first-visit graph (Reach from to pass) =
    let first = first-through 0 graph (passing_of pass) from in
    let up = first-up to from (through_level 0 graph (passing_of pass) from) first.0 first.1 in (from, up.0, up.1)
first-visit graph (Around from bound pass) = let first = first-through bound graph (passing_of pass) from in (from, first.0, first.1)
first-visit graph (Path from to bound pass) =
    let first = first-through bound graph (passing_of pass) from in
    let up = first-up to from (through_level bound graph (passing_of pass) from) first.0 first.1 in (from, up.0, up.1)
first-visit graph (Price from to key) = let first = first-through 0 graph (Priced key) from in (from, first.0, first.1)

none-read : (reads : List (Name × State)) → ((read : Name × State) → Contains reads read → Contains {X = Name × State} [] read) → reads ≡ []
none-read [] none = refl
none-read (read ∷ reads) none = absurd (has_none read (none read (has_head read reads)))

visits-unseen : ¬ GateRefersAs (record seen { shards = [] ∷ [] }) 1 (h1 ∷ h2 ∷ h3 ∷ []) 7 (Finished 1)
visits-unseen refers =
    let none = none-read refers.reads refers.read in
    let whole : next_visit [] refers.program ≡ None = subst (λ reads. next_visit reads refers.program ≡ None) none refers.whole in
    let first = first-visit (graph_read []) refers.program in
    let found : find (λ w. not (is_among (keys_of {X = Name × State} []) w)) (first.0 ∷ first.1) ≡ None = subst
    (λ names. find (λ w. not (is_among [] w)) names ≡ None) first.2 whole in
    cc

-- a transaction is judged, and its begin was seen, but another author began it
author-unseen : ¬ StoreRefersAs seen [] 8 judged.deed
author-unseen refers = no-author refers.home refers.begun
  where
    no-author : (home : ℕ) → ¬ Contains (txs_of (gate_log seen home)) (record { author = 8; request = 0; stamp = t })
    no-author zero h =
        let same = only (record { author = 7; request = 0; stamp = t }) (record { author = 8; request = 0; stamp = t }) h in let authors : 7 ≡ 8 = ap
        (λ (b : BegunRequest). b.author) same in omega (arith, authors)
    no-author (suc zero) h = has_none _ h
    no-author (suc (suc home)) h = has_none _ h

-- a transaction is aborted by a conflict, and no pair was seen by which it precedes the other: so by the order of
-- stamps, which is transitive
pair-unseen : ((a b c : Stamp) → IsTrue (stamp_before a b) → IsTrue (stamp_before b c) → IsTrue (stamp_before a c))
    → ¬ StoreRefersAs (record seen { gates = (g1 ∷ g2 ∷ []) ∷ (record { author = 7; deed = BeganTx 2 p } ∷ []) ∷ []; oracle = [] }) (judged ∷ []) 7
    (Judged 2 p (Create v ∷ []) (v ∷ []) (Conflict v 0))
pair-unseen transitive refers =
    let last : record { request = 0; stamp = t; ops = Create v ∷ [] } ≡ (refers.right).last = some-same (refers.right).last_is in
    let before : IsTrue (stamp_before p t) = by-stamps p t (subst (λ (c : Commit). Precedes [] p c.stamp) (sym last) (refers.right).precedes) in
    cc
  where
    some-same : {A : Type 0} {x y : A} → Some x ≡ Some y → x ≡ y
    some-same same = cc

    by-stamps : (a b : Stamp) → Precedes [] a b → IsTrue (stamp_before a b)
    by-stamps _ _ (ByStamps a b h) = h
    by-stamps _ _ (ByPair a b h) = absurd (has_none (a, b) h)
    by-stamps _ _ (Through a b c g h) = transitive a b c (by-stamps a b g) (by-stamps b c h)

-- the oracle puts an event before another one whose begin was not seen
event-unseen : ¬ OracleRefersAs (record seen { gates = (g1 ∷ g2 ∷ []) ∷ [] ∷ [] }) settled.deed
event-unseen refers =
    let there = only t p (refers p (has_head p (t ∷ []))) in let homes = ap (λ (s : Stamp). s.home) there in omega (arith, homes)

-- and neither a commit nor a visit was seen that asked for it
asker-unseen : ¬ IsAskedAsSeen (record seen { store = []; shards = [] ∷ [] }) settled
asker-unseen (inl commit) = let many = ap length commit.at in let long = length-append commit.before (commit.entry ∷ commit.after) in omega (arith, many, long)
asker-unseen (inr by) = no-visit by.shard by.visit by.visited
  where
    no-visit : (shard : ℕ) (w : Visit) → ¬ Contains (visits_of (shard_log (record seen { store = []; shards = [] ∷ [] }) shard)) w
    no-visit zero w h = has_none w h
    no-visit (suc shard) w h = has_none w h

-- a message arrives, and it was not seen that it was sent
sending-unseen : ¬ ShardRefersAs (record seen { gates = (g1 ∷ []) ∷ [] ∷ [] }) 1 0 [] 7 s1.deed
sending-unseen refers = has_none _ refers.sent

-- a visit asked the oracle, and no entry of the oracle was seen
entry-unseen : ¬ ShardRefersAs (record seen { oracle = [] }) 1 0 (s1 ∷ s2 ∷ []) 7 s3.deed
entry-unseen refers = let its = refers.asked refl in has_none its.entry its.is_there

-- a visit read a vertex, and the commit that it read was not seen
commit-unseen : ¬ ShardRefersAs (record seen { store = [] }) 1 0 (s1 ∷ s2 ∷ []) 7 s3.deed
commit-unseen refers = has_none _ (refers.commits_read _ (has_head _ []))

-- a hand visits for a program that was begun before it started
program-given : ¬ VisitsItsOwn 7 seen seen s3.deed
program-given begun = none begun.0 begun.1
  where
    none : (home : ℕ) → ¬ Contains (programs_of (entries_since (gate_log seen home) (gate_log seen home))) (record { author = 7; request = 1; stamp = p })
    none zero h = has_none _ h
    none (suc zero) h = has_none _ h
    none (suc (suc home)) h = has_none _ h
