-- All that an account's entries refer to is in the account.
-- Used by `accounts_refer_within`, Asking and NotBegun.
use Rattle.std.proofs.Common.{◌≡◌, ℕ, ◌≤◌, ◌==◌, Bool, List, [], ◌∷◌, ◌++◌, length, map, take, Contains, IsTrue, Option, Some, None, refl, sym, ap, subst, ◌∙◌}
use Rattle.std.specs.Prelude.{◌&&◌}
use Rattle.std.specs.List.{flat_map}
use Rattle.std.proofs.lemmas.Bool.{and_parts}
use Rattle.weave_data.proofs.Entries.{each_before}
use Rattle.weave_data.proofs.Members.{cut_at, filter_has, flat_has, has_cut, has_flat, has_head, has_map, has_none, map_has, only, take_has}
use Rattle.weave_data.proofs.Numbers.{in-has}
use Rattle.weave_data.specs.declared.name.Name.{Name}
use Rattle.weave_data.specs.Names.{shard_of}
use Rattle.program_defs.specs.declared.program.Program.{Program}
use Rattle.program_defs.specs.declared.script.Request.{Request}
use Rattle.program_defs.specs.declared.script.Script.{Script}
use Rattle.program_defs.specs.declared.script.Work.{Work}
use Rattle.program_defs.specs.declared.script.Work.TheVariants.{Change, Look}
use Rattle.program_defs.specs.Limits.{IsWithinLimits}
use Rattle.program_defs.specs.Works.{is_look}
use Rattle.report_rules.specs.Lookups.{is_some_and, request_at}
use Rattle.weave_entries.specs.declared.gate_log.GateEntry.{GateEntry}
use Rattle.weave_entries.specs.declared.gate_log.GateDeed.{GateDeed}
use Rattle.weave_entries.specs.declared.gate_log.GateDeed.TheVariants.{BeganTx, BeganProgram, Sent, Nop, Heard, Raised, Finished}
use Rattle.weave_entries.specs.declared.oracle_log.OracleDeed.{OracleDeed}
use Rattle.weave_entries.specs.declared.oracle_log.OracleDeed.TheVariants.{Settled}
use Rattle.weave_entries.specs.declared.shard_log.ShardEntry.{ShardEntry}
use Rattle.weave_entries.specs.declared.shard_log.ShardDeed.{ShardDeed}
use Rattle.weave_entries.specs.declared.shard_log.ShardDeed.TheVariants.{Arrived, Applied, Visited, Collected}
use Rattle.weave_entries.specs.GateReplay.{BegunRequest, clocks_by, clocks_in, ended_by, ended_in, program_by, programs_of}
use Rattle.weave_entries.specs.ShardReplay.{Update, Visit, updates_of, visit_by, visits_of}
use Rattle.weave_entries.specs.ShardRules.{IsShardLog}
use Rattle.weave_entries.specs.StoreReplay.{commits_naming, commits_of, names_vertex}
use Rattle.weave_account.specs.declared.account.Account.{Account}
use Rattle.weave_account.specs.Account.{gate_log, reads_of, shard_log}
use Rattle.weave_account.specs.Gatekeepers.{BeginsAs}
use Rattle.weave_account.specs.IsAccount.{IsAccount}
use Rattle.weave_account.specs.Oracle.{HasItsEntry, seen_last}
use Rattle.weave_account.specs.Seen.{HasSeen, TakesAs}
use Rattle.weave_account.specs.Shards.{ShardFitsAs, update_of}
use Rattle.weave_account.proofs.Beginning.{list-there}
use Rattle.seen_logs.specs.LowerLaws.{LawsForSeenLogs}
use Rattle.seen_logs.specs.References.{EndsAsSeen, GateRefersAs, OracleRefersAs, ShardRefersAs}
use Rattle.seen_logs.specs.Seen.{GateRefersWithin, OracleRefersWithin, ShardRefersWithin, StoreRefersWithin, visit_entry}
use Rattle.seen_logs.proofs.Updates.{last-stays}

-- work that is a program is one
look-of : (work : Work) → IsTrue (is_look work) → (program : Program) × (work ≡ Look program)
look-of (Change ops) look = absurd cc
look-of (Look program) look = (program, refl)

-- if a value is there and passes, it can be had
pub there-and : {A : Type 0} (test : A → Bool) (o : Option A) → IsTrue (is_some_and test o) → (x : A) × (o ≡ Some x) × IsTrue (test x)
there-and test None h = absurd cc
there-and test (Some x) h = (x, refl, h)

module _ (laws : LawsForSeenLogs) (script : Script) (account : Account) (limits : IsWithinLimits script) (is : IsAccount script account) where
  -- Gatekeepers

  -- a program that was begun is one of the script
  deed-program : (home : ℕ) (before : List GateEntry) (author : ℕ) (deed : GateDeed) (begun : BegunRequest) → Contains (program_by author deed) begun
      → BeginsAs script account home before deed
      → (request : Request) × (request_at script begun.request ≡ Some request) × IsTrue (is_look request.work)
  deed-program home before author (BeganProgram r stamp) begun h begins =
      let same = only (record { author = author; request = r; stamp = stamp }) begun h in
      let there = there-and (λ (request : Request). (request.gate == home) && is_look request.work) (request_at script r) begins.own in
      subst (λ (b : BegunRequest). (request : Request) × (request_at script b.request ≡ Some request) × IsTrue (is_look request.work)) same
      (there.0, there.1, (and_parts ((there.0).gate == home) (is_look (there.0).work) there.2).1)
  deed-program home before author (BeganTx r stamp) begun h begins = absurd (has_none begun h)
  deed-program home before author (Sent r messages) begun h begins = absurd (has_none begun h)
  deed-program home before author (Nop shard number stamp low) begun h begins = absurd (has_none begun h)
  deed-program home before author (Heard clock) begun h begins = absurd (has_none begun h)
  deed-program home before author (Raised epoch) begun h begins = absurd (has_none begun h)
  deed-program home before author (Finished r) begun h begins = absurd (has_none begun h)

  begun-program : (home : ℕ) (before after : List GateEntry) → gate_log account home ≡ before ++ after → (begun : BegunRequest)
      → Contains (programs_of before) begun
      → (request : Request) × (request_at script begun.request ≡ Some request) × IsTrue (is_look request.work)
  begun-program home before after at begun h =
      let entry = flat_has (λ (e : GateEntry). program_by e.author e.deed) before begun h in
      let cut = cut_at before entry.0 entry.1 in
      deed-program home cut.before (entry.0).author (entry.0).deed begun entry.2
      (each_before (λ earlier (e : GateEntry). BeginsAs script account home earlier e.deed) before after
      (subst (λ l. (x : List GateEntry) (e : GateEntry) (y : List GateEntry) → l ≡ x ++ e ∷ y → BeginsAs script account home x e.deed) at
      (is.gatekeepers.begins home))
      cut.before entry.0 cut.after cut.is)

  finished-ends : (home : ℕ) (before : List GateEntry) (author r : ℕ) (after : List GateEntry)
      → gate_log account home ≡ before ++ record { author = author; deed = Finished r } ∷ after → EndsAsSeen account r
  finished-ends home before author r after at =
      let entry : GateEntry = record { author = author; deed = Finished r } in
      let begun = laws.ends home script.shards (gate_log account home) (is.gatekeepers.logs home) before entry after at in
      let of = begun-program home before (entry ∷ after) at _ begun.1 in
      let program = look-of (of.0).work of.2 in
      let there : Contains (gate_log account home) entry = subst (λ l. Contains l entry) (sym at) (has_cut before entry after) in
      let ended : Contains (flat_map ended_in account.gates) r =
      has_flat ended_in account.gates (gate_log account home) r (list-there account.gates home entry there)
      (has_flat (λ (e : GateEntry). ended_by e.deed) (gate_log account home) entry r there (has_head r [])) in
      let reads = is.programs r of.0 program.0 of.1 program.1 in
      record { program = program.0; reads = reads_of account r; read = λ read h. h; whole = reads.whole (in-has (flat_map ended_in account.gates) r ended) }

  clock-there : (home : ℕ) (before : List GateEntry) (entry : GateEntry) (after : List GateEntry) → gate_log account home ≡ before ++ entry ∷ after
      → (clock : _) → Contains (clocks_by entry.deed) clock → Contains (clocks_in (gate_log account home)) clock
  clock-there home before entry after at clock h =
      has_flat (λ (e : GateEntry). clocks_by e.deed) (gate_log account home) entry clock (subst (λ l. Contains l entry) (sym at) (has_cut before entry after)) h

  gate-deed : (home : ℕ) (before : List GateEntry) (author : ℕ) (deed : GateDeed) (after : List GateEntry)
      → gate_log account home ≡ before ++ record { author = author; deed = deed } ∷ after
      → GateRefersAs account script.shards before author deed
  gate-deed home before author (BeganTx r stamp) after at =
      is.clocks.known home stamp.clock
      (clock-there home before (record { author = author; deed = BeganTx r stamp }) after at stamp.clock (has_head stamp.clock []))
  gate-deed home before author (BeganProgram r stamp) after at =
      is.clocks.known home stamp.clock
      (clock-there home before (record { author = author; deed = BeganProgram r stamp }) after at stamp.clock (has_head stamp.clock []))
  gate-deed home before author (Sent r messages) after at = is.channels home before (record { author = author; deed = Sent r messages }) after at
  gate-deed home before author (Nop shard number stamp low) after at =
      is.clocks.known home stamp.clock
      (clock-there home before (record { author = author; deed = Nop shard number stamp low }) after at stamp.clock (has_head stamp.clock (low ∷ [])))
  gate-deed home before author (Heard clock) after at =
      is.clocks.known home clock (clock-there home before (record { author = author; deed = Heard clock }) after at clock (has_head clock []))
  gate-deed home before author (Raised epoch) after at = tt
  gate-deed home before author (Finished r) after at = finished-ends home before author r after at

  -- all that a gatekeeper's entries refer to is in the account
  pub gate-refers : (home : ℕ) → GateRefersWithin script.shards account home
  gate-refers home before entry after at = gate-deed home before entry.author entry.deed after at

  -- all that the store's entries refer to is in the account
  pub store-refers : StoreRefersWithin account
  store-refers before entry after at =
      let judges = is.store.judges before entry after at in
      record { home = judges.home; begun = judges.begun; right = judges.verdict }

  oracle-deed : (author : ℕ) (deed : OracleDeed) → Contains account.oracle (record { author = author; deed = deed }) → OracleRefersAs account deed
  oracle-deed author (Settled earlier later places) h =
      λ stamp among. laws.settled script account limits is (record { author = author; deed = Settled earlier later places }) h stamp among

  -- all that the oracle's entries refer to is in the account
  pub oracle-refers : OracleRefersWithin account
  oracle-refers before entry after at = oracle-deed entry.author entry.deed (subst (λ l. Contains l entry) (sym at) (has_cut before entry after))

  -- Shards

  -- what was seen at the beginning of a shard's log
  seen-before : (shard : ℕ) (before after : List ShardEntry) → shard_log account shard ≡ before ++ after
      → HasSeen script.shards account.store shard before
  seen-before shard before after at =
      let whole = laws.has_seen script account limits is shard in
      record {
        passes = whole.passes;
        takes = each_before (λ earlier (e : ShardEntry). TakesAs script.shards account.store shard earlier e.deed) before after
            (subst (λ l. (x : List ShardEntry) (e : ShardEntry) (y : List ShardEntry) → l ≡ x ++ e ∷ y
            → TakesAs script.shards account.store shard x e.deed) at whole.takes);
      }

  -- an update that a vertex of the shard had is a commit
  commit-read : (shard : ℕ) (before after : List ShardEntry) → shard_log account shard ≡ before ++ after → (v : Name)
      → shard_of v script.shards ≡ shard → (n : ℕ) (update : Update) → Contains (take n (updates_of v before)) update
      → Contains (map (update_of v) (commits_of account.store)) update
  commit-read shard before after at v here n update h =
      let are = laws.updates_seen script.shards account.store shard before (seen-before shard before after at) v here in
      let there : Contains (map (update_of v) (take (length (updates_of v before)) (commits_naming v (commits_of account.store)))) update =
      subst (λ us. Contains us update) are (take_has n (updates_of v before) update h) in
      let of = map_has (update_of v) (take (length (updates_of v before)) (commits_naming v (commits_of account.store))) update there in
      let naming = take_has (length (updates_of v before)) (commits_naming v (commits_of account.store)) of.0 of.1 in
      subst (λ u. Contains (map (update_of v) (commits_of account.store)) u) of.2
      (has_map (update_of v) (commits_of account.store) of.0 (filter_has (names_vertex v) (commits_of account.store) of.0 naming).0)

  module _ (legal : (shard : ℕ) → IsShardLog script.gates (shard_log account shard)) where
    -- what a visit saw last is the same up to its place and up to the log's end
    pub last-before : (shard : ℕ) (before after : List ShardEntry) → shard_log account shard ≡ before ++ after → (visit : Visit)
        → visit.updates ≤ length (updates_of visit.vertex before)
        → seen_last (shard_log account shard) visit ≡ seen_last before visit
    last-before shard before after at visit few =
        ap (λ l. seen_last l visit) at ∙ last-stays laws script.gates before after (subst (IsShardLog script.gates) at (legal shard)) visit few

    visit-there : (shard : ℕ) (before : List ShardEntry) (visit : Visit) (after : List ShardEntry)
        → shard_log account shard ≡ before ++ visit_entry visit ∷ after
        → Contains (visits_of (shard_log account shard)) visit
    visit-there shard before visit after at =
        let entry : ShardEntry = visit_entry visit in
        has_flat (λ (e : ShardEntry). visit_by e.author e.deed) (shard_log account shard) entry visit
        (subst (λ l. Contains l entry) (sym at) (has_cut before entry after)) (has_head visit [])

    its-entry : (shard : ℕ) (before : List ShardEntry) (visit : Visit) (after : List ShardEntry)
        → shard_log account shard ≡ before ++ visit_entry visit ∷ after
        → visit.updates ≤ length (updates_of visit.vertex before) → IsTrue visit.settled → HasItsEntry account before visit
    its-entry shard before visit after at few marked =
        let its = is.oracle.marked shard visit (visit-there shard before visit after at) marked in
        record { entry = its.entry; is_there = its.is_there; later_is = its.later_is; earlier_is = its.earlier_is ∙ last-before shard before _ at visit few }

    shard-deed : (shard : ℕ) (before : List ShardEntry) (author : ℕ) (deed : ShardDeed) (after : List ShardEntry)
        → shard_log account shard ≡ before ++ record { author = author; deed = deed } ∷ after
        → ShardFitsAs script account shard before deed → ShardRefersAs account script.shards shard before author deed
    shard-deed shard before author (Arrived home number message) after at fits =
        record { sent = fits.sent; made = laws.made script account limits is shard home _ fits.sent }
    shard-deed shard before author (Applied home number) after at fits = tt
    shard-deed shard before author (Visited r stamp v updates settled) after at fits =
        let visit : Visit = record { author = author; request = r; stamp = stamp; vertex = v; updates = updates; settled = settled } in
        record {
          home = fits.home;
          by = fits.author;
          begun = fits.begun;
          kept_here = fits.kept_here;
          commits_read = λ update h. commit-read shard before _ at v fits.kept_here updates update h;
          after_seen = fits.after_seen;
          before_skipped = fits.before_skipped;
          asked = λ marked. its-entry shard before visit after at fits.applied marked;
        }
    shard-deed shard before author (Collected bound) after at fits = tt

    -- all that a shard's entries refer to is in the account
    pub shard-refers : (shard : ℕ) → ShardRefersWithin script.shards account shard
    shard-refers shard before entry after at =
        shard-deed shard before entry.author entry.deed after at (is.shards.deeds shard before entry after at)
