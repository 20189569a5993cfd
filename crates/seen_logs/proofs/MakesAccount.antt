-- Logs that keep their rules, refer to nothing but themselves and follow the script are an account.
-- Used by `begun_programs_are_enough`, `logs_make_an_account`, ExampleRun, NotBegun, Reading and crates hands_account,
-- weaver_locks and workers_account.
use Rattle.std.proofs.Common.{◌≡◌, ◌≢◌, ℕ, ◌<◌, Bool, true, false, cond, List, [], ◌∷◌, ◌++◌, length, map, Contains, IsTrue, AllPairs, inl, inr, sym, ap, subst, ◌∙◌, append_assoc, arith}
use Rattle.std.specs.Prelude.{All}
use Rattle.std.specs.List.{filter, flat_map}
use Rattle.std.proofs.lemmas.List.{append-nil, length-append, map-append}
use Rattle.std.proofs.lemmas.List.Elements.{All-contains, Contains-append_left}
use Rattle.weave_data.proofs.Ends.{by_last}
use Rattle.weave_data.proofs.Entries as entries
use Rattle.weave_data.proofs.Members.{cut_at, filter_has, flat_has, has_cut, has_flat, has_map, has_none, map_has, only}
use Rattle.weave_data.proofs.Ordered.{pairs_cases, pairs_none, pairs_push}
use Rattle.vector_stamp.specs.declared.clock.Stamp.{Stamp}
use Rattle.vector_stamp.specs.Order.{id_of}
use Rattle.program_defs.specs.declared.script.Script.{Script}
use Rattle.weave_entries.specs.declared.gate_log.GateEntry.{GateEntry}
use Rattle.weave_entries.specs.declared.gate_log.GateDeed.{GateDeed}
use Rattle.weave_entries.specs.declared.gate_log.GateDeed.TheVariants.{BeganTx, BeganProgram, Sent, Nop, Heard, Raised, Finished}
use Rattle.weave_entries.specs.declared.oracle_log.OracleEntry.{OracleEntry}
use Rattle.weave_entries.specs.declared.shard_log.ShardEntry.{ShardEntry}
use Rattle.weave_entries.specs.declared.shard_log.ShardDeed.{ShardDeed}
use Rattle.weave_entries.specs.declared.shard_log.ShardDeed.TheVariants.{Arrived, Applied, Visited, Collected}
use Rattle.weave_entries.specs.declared.store_log.StoreEntry.{StoreEntry}
use Rattle.weave_entries.specs.declared.store_log.StoreDeed.{StoreDeed}
use Rattle.weave_entries.specs.declared.store_log.StoreDeed.TheVariants.{Judged}
use Rattle.weave_entries.specs.GateReplay.{BegunRequest, begun_by, begun_in, program_by, tx_by, txs_of}
use Rattle.weave_entries.specs.ShardReplay.{Visit, visit_by, visits_of}
use Rattle.weave_entries.specs.ShardRules.{FitsShard, IsShardLog}
use Rattle.weave_entries.specs.StoreReplay.{Judgement, commits_of, judged_by, judgements_of}
use Rattle.weave_entries.specs.StoreRule.{FitsStore, asked_vertices, lasts_of, stamps_judged}
use Rattle.weave_account.specs.declared.account.Account.{Account}
use Rattle.weave_account.specs.Account.{all_begun, gate_log, shard_log}
use Rattle.weave_account.specs.Channels.{SendsAs}
use Rattle.weave_account.specs.Gatekeepers.{BeginEachOnce}
use Rattle.weave_account.specs.IsAccount.{IsAccount}
use Rattle.weave_account.specs.Oracle.{HasItsEntry, marked_in, seen_last}
use Rattle.weave_account.specs.Shards.{ShardFitsAs}
use Rattle.weave_account.specs.Store.{Judges}
use Rattle.weave_account.proofs.Beginning.{list-there}
use Rattle.seen_logs.specs.FollowsScript.{FollowsScript}
use Rattle.seen_logs.specs.LowerLaws.{LawsForSeenLogs}
use Rattle.seen_logs.specs.References.{GateRefersAs, IsAskedAsSeen, JudgesAsSeen, ShardRefersAs, StoreRefersAs}
use Rattle.seen_logs.specs.Seen.{AreLegal, GateRefersWithin, IsSeenByHand, ShardRefersWithin, StoreRefersWithin, visit_entry, without_sessions}
use Rattle.seen_logs.proofs.Asking.{marked-append, marked-of, program-begun, what-asked}
use Rattle.seen_logs.proofs.Going.{asked-stays, gate-stays, shard-stays, store-stays}
use Rattle.seen_logs.proofs.KnownWithin.{clocks-known}
use Rattle.seen_logs.proofs.Placed.{lists-together, pairs-append, pairs-one}
use Rattle.seen_logs.proofs.Updates.{last-stays}
use Rattle.seen_logs.proofs.Within.{same-logs}

-- a transaction that was begun at a gatekeeper was begun
pub tx-begun : (account : Account) (home : ℕ) (begun : BegunRequest) → Contains (txs_of (gate_log account home)) begun → Contains (all_begun account) begun
tx-begun account home begun h =
    let from = flat_has (λ (e : GateEntry). tx_by e.author e.deed) (gate_log account home) begun h in
    has_flat begun_in account.gates (gate_log account home) begun (list-there account.gates home from.0 from.1)
    (has_flat (λ (e : GateEntry). begun_by e.author e.deed) (gate_log account home) from.0 begun from.1
    (Contains-append_left (tx_by (from.0).author (from.0).deed) (program_by (from.0).author (from.0).deed) begun from.2))

-- two begins of one request are the same
pub one-begin : (account : Account) → BeginEachOnce account → (a b : BegunRequest) → Contains (all_begun account) a → Contains (all_begun account) b
    → a.request ≡ b.request → a ≡ b
one-begin account once a b ha hb same =
    elim (pairs_cases (λ (x y : BegunRequest). x.request ≢ y.request) (all_begun account) once a b ha hb) [
      | inl is ↦ is
      | inr (inl differ) ↦ absurd (differ same)
      | inr (inr differ) ↦ absurd (differ (sym same))
    ]

-- The store

-- a judgement by the rule names the vertices of which the store asks, and its stamp is of none before
fits-asked : (before : List StoreEntry) (author : ℕ) (deed : StoreDeed) → FitsStore before deed
    → (judged_by author deed).asked ≡ asked_vertices (judged_by author deed).stamp (lasts_of (judged_by author deed).ops (commits_of before))
fits-asked before author (Judged request stamp ops asked verdict) fits = fits.asked_are

-- a judgement by the rule has a stamp of none before
pub fits-new : (before : List StoreEntry) (author : ℕ) (deed : StoreDeed) → FitsStore before deed
    → All (λ (judged : Stamp). id_of judged ≢ id_of (judged_by author deed).stamp) (stamps_judged before)
fits-new before author (Judged request stamp ops asked verdict) fits = fits.new

module _ (account : Account) (once : BeginEachOnce account) where
  -- a judgement by the rule, of a transaction that was begun
  abbrev Rule : List StoreEntry → StoreEntry → Type 0
  Rule before entry = FitsStore before entry.deed × StoreRefersAs account before entry.author entry.deed

  judged-begun : (before : List StoreEntry) (judged : Judgement) → JudgesAsSeen account before judged
      → Contains (all_begun account) (record { author = judged.author; request = judged.request; stamp = judged.stamp })
  judged-begun before judged refers = tx-begun account refers.home _ refers.begun

  differ-before : (log : List StoreEntry) (entry : StoreEntry) → entries.AtEach Rule log → Rule log entry → (judged : Judgement)
      → Contains (judgements_of log) judged → judged.request ≢ (judged_by entry.author entry.deed).request
  differ-before log entry so_far right judged h same =
      let of = map_has (λ (e : StoreEntry). judged_by e.author e.deed) log judged h in
      let cut = cut_at log of.0 of.1 in
      let now = judged_by entry.author entry.deed in
      let first = judged-begun cut.before (judged_by (of.0).author (of.0).deed) (so_far cut.before of.0 cut.after cut.is).1 in
      let second = judged-begun log now right.1 in
      let one = one-begin account once _ _ first second (ap (λ (j : Judgement). j.request) of.2 ∙ same) in
      let stamps : judged.stamp ≡ now.stamp = sym (ap (λ (j : Judgement). j.stamp) of.2) ∙ ap (λ (b : BegunRequest). b.stamp) one in
      All-contains (λ (j : Stamp). id_of j ≢ id_of now.stamp) (stamps_judged log) judged.stamp (fits-new log entry.author entry.deed right.0)
      (has_map (λ (j : Judgement). j.stamp) (judgements_of log) judged h) (ap id_of stamps)

  -- each transaction is judged once
  judged-once : (log : List StoreEntry) → entries.AtEach Rule log → AllPairs (λ (a b : Judgement). a.request ≢ b.request) (judgements_of log)
  judged-once =
      entries.by_entries Rule (λ log. AllPairs (λ (a b : Judgement). a.request ≢ b.request) (judgements_of log))
      (pairs_none (λ (a b : Judgement). a.request ≢ b.request))
      (λ log entry so_far right pairs.
      subst (AllPairs (λ (a b : Judgement). a.request ≢ b.request)) (sym (map-append (λ (e : StoreEntry). judged_by e.author e.deed) log (entry ∷ [])))
      (pairs_push (λ (a b : Judgement). a.request ≢ b.request) (judgements_of log) (judged_by entry.author entry.deed) pairs
      (λ judged h. differ-before log entry so_far right judged h)))

-- Marked visits

-- a visit of an entry is that entry
pub visit-is : (author : ℕ) (deed : ShardDeed) (visit : Visit) → Contains (visit_by author deed) visit
    → visit_entry visit ≡ record { author = author; deed = deed }
visit-is author (Visited r stamp v updates settled) visit h = ap visit_entry (sym (only _ visit h))
visit-is author (Arrived home number message) visit h = absurd (has_none visit h)
visit-is author (Applied home number) visit h = absurd (has_none visit h)
visit-is author (Collected bound) visit h = absurd (has_none visit h)

-- the visit for which this was asked
record IsAskedIn (log entries : List ShardEntry) (asked : ℕ × List Stamp) : Type 0 where
  visit : Visit
  before : List ShardEntry
  after : List ShardEntry
  at : entries ≡ before ++ visit_entry visit ∷ after
  marked : IsTrue visit.settled
  is : what-asked log visit ≡ asked

asked-in : (log entries : List ShardEntry) (asked : ℕ × List Stamp) → Contains (marked-of log entries) asked → IsAskedIn log entries asked
asked-in log entries asked h =
    let of = map_has (what-asked log) (filter (λ (visit : Visit). visit.settled) (visits_of entries)) asked h in
    let left = filter_has (λ (visit : Visit). visit.settled) (visits_of entries) of.0 of.1 in
    let entry = flat_has (λ (e : ShardEntry). visit_by e.author e.deed) entries of.0 left.0 in
    let cut = cut_at entries entry.0 entry.1 in
    let same = visit-is (entry.0).author (entry.0).deed of.0 entry.2 in
    record { visit = of.0; before = cut.before; after = cut.after; at = cut.is ∙ ap (λ e. cut.before ++ e ∷ cut.after) (sym same); marked = left.1; is = of.2 }

-- one entry asks for at most one pair
one-asks : (log : List ShardEntry) (author : ℕ) (deed : ShardDeed)
    → AllPairs (λ (a b : ℕ × List Stamp). a ≢ b) (marked-of log (record { author = author; deed = deed } ∷ []))
one-asks log author (Visited r stamp v updates settled) = at settled
  where
    at : (marked : Bool) → AllPairs (λ (a b : ℕ × List Stamp). a ≢ b)
        (map (what-asked log) (cond marked (record { author = author; request = r; stamp = stamp; vertex = v; updates = updates; settled = settled } ∷ []) []))
    at true = pairs-one (λ (a b : ℕ × List Stamp). a ≢ b) _
    at false = pairs_none (λ (a b : ℕ × List Stamp). a ≢ b)
one-asks log author (Arrived home number message) = pairs_none (λ (a b : ℕ × List Stamp). a ≢ b)
one-asks log author (Applied home number) = pairs_none (λ (a b : ℕ × List Stamp). a ≢ b)
one-asks log author (Collected bound) = pairs_none (λ (a b : ℕ × List Stamp). a ≢ b)

-- an entry of a log is one that it had
there : {E : Type 0} (log before : List E) (entry : E) (after : List E) → log ≡ before ++ entry ∷ after → length before < length log
there log before entry after at = let many = ap length at ∙ length-append before (entry ∷ after) in omega (arith, many)

-- what the shards' entries refer to was seen if a hand answers for all of them
pub shards-within : LawsForSeenLogs → (shards : ℕ) (account : Account) (number : ℕ)
    → IsSeenByHand shards number (without_sessions account) (without_sessions account) → (shard : ℕ) → ShardRefersWithin shards account shard
shards-within laws shards account number hand shard before entry after at =
    let on = (same-logs account).1 in
    shard-stays laws (without_sessions account) account on.gates on.store on.oracle shards shard before entry.author entry.deed
    (hand.shard_entries shard before entry after at (inr (there (shard_log account shard) before entry after at)))

module _ (laws : LawsForSeenLogs) (script : Script) (account : Account) (number : ℕ) (legal : AreLegal script.gates script.shards account)
    (hand : IsSeenByHand script.shards number (without_sessions account) (without_sessions account)) (follows : FollowsScript script account) where
  logs : Account
  logs = without_sessions account

  gates-refer : (home : ℕ) → GateRefersWithin script.shards account home
  gates-refer home before entry after at =
      let on = (same-logs account).1 in
      gate-stays laws (without_sessions account) account on.gates on.store on.shards script.gates legal.shard_logs script.shards before entry.author entry.deed
      (hand.gate_entries home before entry after at (inr (there (gate_log account home) before entry after at)))

  store-refers : StoreRefersWithin account
  store-refers before entry after at =
      let on = (same-logs account).1 in
      store-stays laws (without_sessions account) account on.gates on.oracle before entry.author entry.deed
      (hand.store_entries before entry after at (inr (there account.store before entry after at)))

  shards-refer : (shard : ℕ) → ShardRefersWithin script.shards account shard
  shards-refer = shards-within laws script.shards account number hand

  asked-for : (entry : OracleEntry) → Contains account.oracle entry → IsAskedAsSeen account entry
  asked-for entry h =
      let on = (same-logs account).1 in
      let cut = cut_at account.oracle entry h in
      asked-stays laws (without_sessions account) account on.store on.shards script.gates legal.shard_logs entry
      (hand.oracle_entries cut.before entry cut.after cut.is (inr (there account.oracle cut.before entry cut.after cut.is))).1

  judges : (before : List StoreEntry) (entry : StoreEntry) (after : List StoreEntry) → account.store ≡ before ++ entry ∷ after
      → Judges script account before (judged_by entry.author entry.deed)
  judges before entry after at =
      let refers = store-refers before entry after at in
      let judged = judged_by entry.author entry.deed in
      record {
        home = refers.home;
        begun = refers.begun;
        work = follows.work judged
            (has_map (λ (e : StoreEntry). judged_by e.author e.deed) account.store entry (subst (λ l. Contains l entry) (sym at) (has_cut before entry after)));
        asked = fits-asked before entry.author entry.deed (legal.store_log before entry after at);
        verdict = refers.right;
      }

  sends : (before : List GateEntry) (author : ℕ) (deed : GateDeed) → GateRefersAs account script.shards before author deed
      → SendsAs account script.shards before author deed
  sends before author (Sent r messages) refers = refers
  sends before author (BeganTx r stamp) refers = tt
  sends before author (BeganProgram r stamp) refers = tt
  sends before author (Nop shard n stamp low) refers = tt
  sends before author (Heard clock) refers = tt
  sends before author (Raised epoch) refers = tt
  sends before author (Finished r) refers = tt

  shard-fits : (shard : ℕ) (before : List ShardEntry) (author : ℕ) (deed : ShardDeed) → FitsShard script.gates before deed
      → ShardRefersAs account script.shards shard before author deed → ShardFitsAs script account shard before deed
  shard-fits shard before author (Arrived home n message) fits refers = record { sent = refers.sent; new = fits.new }
  shard-fits shard before author (Applied home n) fits refers =
      record { number_is = fits.number_is; message = fits.message; head = fits.head; in_turn = fits.in_turn }
  shard-fits shard before author (Visited r stamp v updates settled) fits refers =
      record {
        home = refers.home;
        author = refers.by;
        begun = refers.begun;
        kept_here = refers.kept_here;
        ready = fits.ready;
        applied = fits.applied;
        after_seen = refers.after_seen;
        before_skipped = refers.before_skipped;
      }
  shard-fits shard before author (Collected bound) fits refers = fits

  -- a visit at its place: what it refers to, and what it saw last up to the end of the log
  last-there : (shard : ℕ) (before : List ShardEntry) (visit : Visit) (after : List ShardEntry)
      → shard_log account shard ≡ before ++ visit_entry visit ∷ after → seen_last (shard_log account shard) visit ≡ seen_last before visit
  last-there shard before visit after at =
      ap (λ l. seen_last l visit) at
      ∙ last-stays laws script.gates before (visit_entry visit ∷ after) (subst (IsShardLog script.gates) at (legal.shard_logs shard)) visit
      (legal.shard_logs shard before (visit_entry visit) after at).applied

  marked-entry : (shard : ℕ) (visit : Visit) → Contains (visits_of (shard_log account shard)) visit → IsTrue visit.settled
      → HasItsEntry account (shard_log account shard) visit
  marked-entry shard visit h marked =
      let log = shard_log account shard in
      let of = flat_has (λ (e : ShardEntry). visit_by e.author e.deed) log visit h in
      let cut = cut_at log of.0 of.1 in
      let at : log ≡ cut.before ++ visit_entry visit ∷ cut.after =
      cut.is ∙ ap (λ e. cut.before ++ e ∷ cut.after) (sym (visit-is (of.0).author (of.0).deed visit of.2)) in
      let its = (shards-refer shard cut.before (visit_entry visit) cut.after at).asked marked in
      record {
        entry = its.entry;
        is_there = its.is_there;
        later_is = its.later_is;
        earlier_is = its.earlier_is
            ∙ sym (last-there shard cut.before visit cut.after at);
      }

  -- two marked visits that asked for the same pair are the same
  same-place : (shard other : ℕ) (before rest : List ShardEntry) (a b : Visit) (after later : List ShardEntry)
      → shard_log account shard ≡ before ++ visit_entry a ∷ after → shard_log account other ≡ rest ++ visit_entry b ∷ later
      → IsTrue a.settled → IsTrue b.settled
      → what-asked (shard_log account shard) a ≡ what-asked (shard_log account other) b
      → (shard ≡ other) × (length before ≡ length rest)
  same-place shard other before rest a b after later at_a at_b marked_a marked_b alike =
      let refers_a = shards-refer shard before (visit_entry a) after at_a in
      let refers_b = shards-refer other rest (visit_entry b) later at_b in
      let one = one-begin account follows.once _ _ (program-begun account refers_a.home _ refers_a.begun)
      (program-begun account refers_b.home _ refers_b.begun) (ap (λ (x : ℕ × List Stamp). x.0) alike) in
      let lasts = sym (last-there shard before a after at_a) ∙ ap (λ (x : ℕ × List Stamp). x.1) alike ∙ last-there other rest b later at_b in
      hand.asks_once shard other before rest a b
      (record { after = after; at = at_a; answers = inr (there (shard_log account shard) before (visit_entry a) after at_a); marked = marked_a })
      (record { after = later; at = at_b; answers = inr (there (shard_log account other) rest (visit_entry b) later at_b); marked = marked_b })
      (ap (λ (b : BegunRequest). b.stamp) one) lasts

  once-within : (shard : ℕ) (entries rest : List ShardEntry) → shard_log account shard ≡ entries ++ rest
      → AllPairs (λ (a b : ℕ × List Stamp). a ≢ b) (marked-of (shard_log account shard) entries)
  once-within shard =
      by_last (λ entries. (rest : List ShardEntry) → shard_log account shard ≡ entries ++ rest → AllPairs (λ (a b : ℕ × List Stamp). a ≢ b)
      (marked-of (shard_log account shard) entries))
      (λ rest at. pairs_none (λ (a b : ℕ × List Stamp). a ≢ b))
      (λ entries entry so_far rest at.
      let log = shard_log account shard in
      let placed : log ≡ entries ++ entry ∷ rest = at ∙ append_assoc entries (entry ∷ []) rest in
      subst (AllPairs (λ (a b : ℕ × List Stamp). a ≢ b)) (sym (marked-append log entries (entry ∷ [])))
      (pairs-append (λ (a b : ℕ × List Stamp). a ≢ b) (marked-of log entries) (marked-of log (entry ∷ [])) (so_far (entry ∷ rest) placed)
      (one-asks log entry.author entry.deed)
      (λ x y hx hy same.
      let first = asked-in log entries x hx in
      let second = asked-in log (entry ∷ []) y hy in
      let at_first : log ≡ first.before ++ visit_entry first.visit ∷ (first.after ++ entry ∷ rest) =
      placed ∙ ap (λ l. l ++ entry ∷ rest) first.at ∙ append_assoc first.before (visit_entry first.visit ∷ first.after) (entry ∷ rest) in
      let at_second : log ≡ (entries ++ second.before) ++ visit_entry second.visit ∷ (second.after ++ rest) =
      at ∙ ap (λ l. (entries ++ l) ++ rest) second.at ∙ append_assoc entries (second.before ++ visit_entry second.visit ∷ second.after) rest
      ∙ ap (λ l. entries ++ l) (append_assoc second.before (visit_entry second.visit ∷ second.after) rest)
      ∙ sym (append_assoc entries second.before (visit_entry second.visit ∷ (second.after ++ rest))) in
      let places = same-place shard shard first.before (entries ++ second.before) first.visit second.visit (first.after ++ entry ∷ rest)
      (second.after ++ rest) at_first at_second first.marked second.marked (first.is ∙ same ∙ sym second.is) in
      let short = ap length first.at ∙ length-append first.before (visit_entry first.visit ∷ first.after) in
      let long = length-append entries second.before in
      let equal = places.1 in
      omega (arith, short, long, equal))))

  once : AllPairs (λ (a b : ℕ × List Stamp). a ≢ b) (flat_map marked_in account.shards)
  once =
      lists-together (λ (a b : ℕ × List Stamp). a ≢ b) marked_in account.shards
      (λ shard. once-within shard (shard_log account shard) [] (sym (append-nil (shard_log account shard))))
      (λ shard other less x y hx hy same.
      let first = asked-in (shard_log account shard) (shard_log account shard) x hx in
      let second = asked-in (shard_log account other) (shard_log account other) y hy in
      let places = same-place shard other first.before second.before first.visit second.visit first.after second.after
      first.at second.at first.marked second.marked (first.is ∙ same ∙ sym second.is) in
      let equal = places.0 in
      omega (arith, less, equal))

  -- if logs keep their rules, refer to nothing but themselves and follow the script, they are an account of it
  pub made : IsAccount script account
  made =
      record {
        gatekeepers = record { as_many = follows.gates; logs = legal.gate_logs; begins = follows.begins; once = follows.once };
        clocks = record {
          known = λ home clock h. clocks-known laws script.shards account home (gates-refer home) (legal.gate_logs home) clock h;
          hears_no_more = legal.hears;
        };
        sessions = follows.sessions;
        store = record {
          judges = judges;
          once = judged-once account follows.once account.store
              (λ before entry after at. (legal.store_log before entry after at, store-refers before entry after at));
          in_turn = follows.in_turn;
        };
        oracle = record { log = legal.oracle_log; asked = asked-for; marked = marked-entry; once = once };
        channels = λ home before entry after at. sends before entry.author entry.deed (gates-refer home before entry after at);
        shards = record {
          as_many = follows.shards;
          deeds = λ shard before entry after at. shard-fits shard before entry.author entry.deed (legal.shard_logs shard before entry after at)
              (shards-refer shard before entry after at);
        };
        programs = follows.programs;
      }
