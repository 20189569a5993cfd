-- Every clock in an account is known (it counts no more events than its gatekeepers logged, in an epoch that is 0 or
-- was raised): those of gatekeepers' logs by their clause, and all others as copies and meets of these.
-- Used by `clocks_are_known` and PairEnds.
use Rattle.std.proofs.Common.{◌≡◌, ◌≢◌, ℕ, ◌<◌, ◌≤◌, ◌==◌, zero, suc, false, max, List, [], ◌∷◌, ◌++◌, map, fold, take, length, Contains, IsTrue, Option, Some, None, ◌⊎◌, inl, inr, refl, sym, ap, subst, ◌∙◌, append_assoc, arith}
use Rattle.std.specs.Prelude.{nat_lt}
use Rattle.std.specs.List.{list_any, range_with_len}
use Rattle.std.specs.Option.{option_map}
use Rattle.std.proofs.lemmas.List.Concat.{flat_map-append}
use Rattle.std.proofs.lemmas.Bool.{cases_eq, cases_order, cond-true, cond-false, eq-eqb, false_from_ne_true, le-leb, le-ltb, lt-ltb, ltb-true, ne_eqb}
use Rattle.std.proofs.lemmas.List.{append-nil}
use Rattle.std.proofs.lemmas.List.Sums.{fold-append}
use Rattle.weave_data.proofs.Ends.{by_last, count_none}
use Rattle.weave_data.proofs.Entries.{each_before}
use Rattle.weave_data.proofs.Members.{any_from, has_none, has_head, has_tail, has_flat, has_cut, filter_has, has_read, only, take_has}
use Rattle.vector_stamp.specs.declared.clock.Clock.{Clock}
use Rattle.vector_stamp.specs.declared.clock.Stamp.{Stamp}
use Rattle.vector_stamp.specs.Clocks.{first_clock, clock_after_hearing, counts_no_more, meet_of, start_clock}
use Rattle.vector_stamp.specs.Order.{count_of}
use Rattle.vector_stamp.specs.Seeing.{last_seen}
use Rattle.program_defs.specs.declared.script.Script.{Script}
use Rattle.weave_entries.specs.declared.gate_log.GateEntry.{GateEntry}
use Rattle.weave_entries.specs.declared.gate_log.GateDeed.{GateDeed}
use Rattle.weave_entries.specs.declared.gate_log.GateDeed.TheVariants.{BeganTx, BeganProgram, Sent, Nop, Heard, Raised, Finished}
use Rattle.weave_entries.specs.declared.message.Addressed.{Addressed}
use Rattle.weave_entries.specs.declared.message.Message.{Message}
use Rattle.weave_entries.specs.declared.shard_log.ShardEntry.{ShardEntry}
use Rattle.weave_entries.specs.declared.oracle_log.OracleEntry.{OracleEntry}
use Rattle.weave_entries.specs.declared.store_log.StoreEntry.{StoreEntry}
use Rattle.weave_entries.specs.GateReplay.{BegunRequest, clocks_by, clocks_in, clocks_of_message, clock_after, clock_of, messages_by, stamps_of, ticks_of, to_shard, addressed_to}
use Rattle.weave_entries.specs.GateRules.{IsGateLog}
use Rattle.weave_entries.specs.SessionReplay.{begins_in}
use Rattle.weave_entries.specs.declared.shard_log.ShardDeed.TheVariants.{Collected}
use Rattle.weave_entries.specs.OracleReplay.{settled_entry}
use Rattle.weave_entries.specs.ShardReplay.{Update, Visit, arrived_at, bound_of, last_of, meet_if, meet_of_all, processed_count, updates_of, visits_of}
use Rattle.weave_entries.specs.StoreReplay.{Judgement, judgements_of, commit_by, commits_of, commits_naming, names_vertex}
use Rattle.weave_entries.specs.StoreRule.{LastCommit}
use Rattle.weave_account.specs.declared.account.Account.{Account}
use Rattle.weave_account.specs.Account.{all_begun, commits_in, gate_log, session_log, shard_log, stamp_of}
use Rattle.weave_account.specs.LowerLaws.{LawsForAccounts}
use Rattle.weave_account.proofs.Sessions.{session-begun}
use Rattle.weave_account.specs.Clocks.{IsKnown, is_raised, raises_to}
use Rattle.weave_account.specs.Oracle.{IsAskedByCommit, IsAskedByVisit, seen_last}
use Rattle.weave_account.specs.Shards.{AreShardDeeds, ShardFitsAs, update_of}
use Rattle.weave_account.proofs.Basis.{Basis}
use Rattle.weave_account.proofs.Beginning.{list-there}
use Rattle.weave_account.proofs.BegunStamps.{clock-there}
use Rattle.weave_account.proofs.Heads.{arrived-sent}
use Rattle.weave_account.proofs.Meeting.{visit-fits, visit-stamp}
use Rattle.weave_data.proofs.Images.{flat-has, map-has, within-list}
use Rattle.weave_account.proofs.PlacedPairs.{commit-known, judged-begun, last-known, lasts-at}
use Rattle.weave_account.proofs.Updates.{shows}
use Rattle.weave_account.proofs.RepliesClause.{begin-of}
use Rattle.weave_account.proofs.Replying.{begun-rightly}
use Rattle.weave_account.proofs.Collecting.{low-of}

module _ (laws : LawsForAccounts) (account : Account) where
  -- Hearing, meeting

  -- an epoch is not above itself
  not-less : (a b : ℕ) → a ≡ b → nat_lt a b ≡ false
  not-less a b same = false_from_ne_true (nat_lt a b) (λ t. let less = ltb-true a b t in absurd (omega (arith, less, same)))

  -- the meet of two known clocks is known
  pub meet-known : (a b : Clock) → IsKnown account a → IsKnown account b → IsKnown account (meet_of a b)
  meet-known a b ka kb =
      elim (cases_order a.epoch b.epoch) [
        | inr (inl less) ↦ subst (IsKnown account) (sym (laws.two_epochs a b less).0) ka
        | inr (inr more) ↦ subst (IsKnown account) (sym (laws.two_epochs b a more).1) kb
        | inl same ↦
            let epoch : (meet_of a b).epoch ≡ a.epoch = meet-epoch a b same in
            record {
              eight = laws.met_eight a b ka.eight kb.eight;
              counts = λ gate.
                  let met = laws.met gate a b ka.eight kb.eight same in
                  let low = ka.counts gate in
                  let ticks = ap (λ e. ticks_of e (gate_log account gate)) epoch in
                  omega (arith, met, low, ticks);
              raised = λ above. subst (λ e. IsTrue (is_raised account e)) (sym epoch) (ka.raised (λ zero. above (epoch ∙ zero)));
            }
      ]
    where
      meet-epoch : (a b : Clock) → a.epoch ≡ b.epoch → (meet_of a b).epoch ≡ a.epoch
      meet-epoch a b same = rw (not-less a.epoch b.epoch same, not-less b.epoch a.epoch (sym same)) refl

  -- a known clock of a gatekeeper below 8 that hears another known one is known
  pub hearing-known : (home : ℕ) → home < 8 → (clock heard : Clock) → IsKnown account clock → IsKnown account heard
      → IsKnown account (clock_after_hearing home clock heard)
  hearing-known home below clock heard kc kh =
      elim (cases_order heard.epoch clock.epoch) [
        | inr (inl lower) ↦ subst (IsKnown account) (sym (laws.clocks.hearing_lower home clock heard lower)) kc
        | inl same ↦ heard-same same
        | inr (inr higher) ↦ heard-higher higher
      ]
    where
      heard-same : heard.epoch ≡ clock.epoch → IsKnown account (clock_after_hearing home clock heard)
      heard-same same =
          let after = clock_after_hearing home clock heard in
          let greater = laws.clocks.hearing_epoch home clock heard in
          let epoch : after.epoch ≡ clock.epoch = greater ∙ max-same clock.epoch heard.epoch same in
          record {
            eight = laws.clocks.hearing_eight home clock heard below kc.eight kh.eight;
            counts = λ gate.
                let ticks = ap (λ e. ticks_of e (gate_log account gate)) epoch in
                let others = ap (λ e. ticks_of e (gate_log account gate)) same in
                let first = kc.counts gate in
                let second = kh.counts gate in
                elim (cases_eq gate home) [
                  | inl own ↦
                      let e =
                      ap (λ g. count_of g after) own ∙ laws.clocks.hearing_own home clock heard below kc.eight kh.eight same
                      ∙ ap (λ g. count_of g clock) (sym own) in
                      omega (arith, e, first, ticks)
                  | inr differ ↦
                      let e = laws.heard_others home gate clock heard below kc.eight kh.eight same differ in
                      omega (arith, e, first, second, ticks, others)
                ];
            raised = λ above. subst (λ e. IsTrue (is_raised account e)) (sym epoch) (kc.raised (λ zero. above (epoch ∙ zero)));
          }
        where
          max-same : (a b : ℕ) → b ≡ a → max a b ≡ a
          max-same a b e = omega (arith, e)

      heard-higher : clock.epoch < heard.epoch → IsKnown account (clock_after_hearing home clock heard)
      heard-higher higher =
          let after = clock_after_hearing home clock heard in
          let greater = laws.clocks.hearing_epoch home clock heard in
          let epoch : after.epoch ≡ heard.epoch = greater ∙ max-less clock.epoch heard.epoch higher in
          record {
            eight = laws.clocks.hearing_eight home clock heard below kc.eight kh.eight;
            counts = λ gate.
                let ticks = ap (λ e. ticks_of e (gate_log account gate)) epoch in
                let second = kh.counts gate in
                elim (cases_eq gate home) [
                  | inl own ↦
                      let e = ap (λ g. count_of g after) own ∙ laws.clocks.hearing_higher home clock heard below kc.eight kh.eight higher in
                      omega (arith, e)
                  | inr differ ↦
                      let e = laws.heard_higher home gate clock heard below kc.eight kh.eight higher differ in
                      omega (arith, e, second, ticks)
                ];
            raised = λ above. subst (λ e. IsTrue (is_raised account e)) (sym epoch) (kh.raised (λ zero. above (epoch ∙ zero)));
          }
        where
          max-less : (a b : ℕ) → a < b → max a b ≡ b
          max-less a b less = omega (arith, less)

  -- the meet of a known clock with those of known running programs is known
  pub low-known : (clock : Clock) (running : List BegunRequest) → IsKnown account clock
      → ((begun : BegunRequest) → Contains running begun → IsKnown account begun.stamp.clock)
      → IsKnown account (fold (λ low (begun : BegunRequest). meet_of low begun.stamp.clock) clock running)
  low-known clock [] known each = known
  low-known clock (b ∷ running) known each =
      low-known (meet_of clock b.stamp.clock) running (meet-known clock b.stamp.clock known (each b (has_head b running)))
      (λ other h. each other (has_tail b running other h))

module _ (script : Script) (account : Account) (basis : Basis script account) where
  -- the first clock of an epoch that was raised, and of epoch 0, is known
  pub first-known : (epoch : ℕ) → (epoch ≢ 0 → IsTrue (is_raised account epoch)) → IsKnown account (first_clock epoch)
  first-known epoch raised = record {
    eight = refl;
    counts = λ gate. (let none = basis.laws.raised_count gate epoch in omega (arith, none));
    raised = raised;
  }

  -- The clock of a gatekeeper

  in-log : (home : ℕ) (before : List GateEntry) (entry : GateEntry) (after : List GateEntry)
      → gate_log account home ≡ before ++ entry ∷ after → (clock : Clock) → Contains (clocks_by entry.deed) clock
      → IsKnown account clock
  in-log home before entry after is clock h =
      basis.is.clocks.known home clock
      (subst (λ l. Contains (clocks_in l) clock) (sym is) (has_flat (λ (e : GateEntry). clocks_by e.deed) (before ++ entry ∷ after) entry clock (has_cut before entry after) h))

  home-eight : (home : ℕ) (before : List GateEntry) (entry : GateEntry) (after : List GateEntry)
      → gate_log account home ≡ before ++ entry ∷ after → home < 8
  home-eight home before entry after is =
      let within = within-list account.gates home entry (subst (λ l. Contains l entry) (sym is) (has_cut before entry after)) in
      let as-many = basis.is.gatekeepers.as_many in
      let few = basis.limits.few_gates in
      omega (arith, within, as-many, few)

  deed-known : (home : ℕ) (before : List GateEntry) (author : ℕ) (deed : GateDeed) (after : List GateEntry)
      → gate_log account home ≡ before ++ record { author = author; deed = deed } ∷ after → (clock : Clock)
      → IsKnown account clock → IsKnown account (clock_after home clock deed)
  deed-known home before author (BeganTx r stamp) after is clock known =
      in-log home before _ after is stamp.clock (has_head stamp.clock [])
  deed-known home before author (BeganProgram r stamp) after is clock known =
      in-log home before _ after is stamp.clock (has_head stamp.clock [])
  deed-known home before author (Nop to number stamp low) after is clock known =
      in-log home before _ after is stamp.clock (has_head stamp.clock (low ∷ []))
  deed-known home before author (Heard heard) after is clock known =
      hearing-known basis.laws account home (home-eight home before _ after is) clock heard known
      (in-log home before _ after is heard (has_head heard []))
  deed-known home before author (Raised epoch) after is clock known =
      first-known epoch (λ above. raised-there home before author epoch after is)
    where
      raised-there : (home : ℕ) (before : List GateEntry) (author epoch : ℕ) (after : List GateEntry)
          → gate_log account home ≡ before ++ record { author = author; deed = Raised epoch } ∷ after
          → IsTrue (is_raised account epoch)
      raised-there home before author epoch after is =
          let entry : GateEntry = record { author = author; deed = Raised epoch } in
          let there : Contains (gate_log account home) entry = subst (λ l. Contains l entry) (sym is) (has_cut before entry after) in
          any_from (λ (log : List GateEntry). list_any (λ (e : GateEntry). raises_to epoch e.deed) log) account.gates
          (gate_log account home) (list-there account.gates home entry there)
          (any_from (λ (e : GateEntry). raises_to epoch e.deed) (gate_log account home) entry there (eq-eqb epoch epoch refl))
  deed-known home before author (Sent r messages) after is clock known = known
  deed-known home before author (Finished r) after is clock known = known

  -- the clock of a gatekeeper is known
  pub own-known : (home : ℕ) → IsKnown account (clock_of home (gate_log account home))
  own-known home = along (gate_log account home) [] (sym (append-nil (gate_log account home)))
    where
      along : (log rest : List GateEntry) → gate_log account home ≡ log ++ rest → IsKnown account (clock_of home log)
      along =
          by_last (λ log. (rest : List GateEntry) → gate_log account home ≡ log ++ rest → IsKnown account (clock_of home log))
          (λ rest is. first-known 0 (λ above. absurd (above refl)))
          (λ log entry so-far rest is.
          let whole : gate_log account home ≡ log ++ entry ∷ rest = is ∙ append_assoc log (entry ∷ []) rest in
          subst (IsKnown account) (sym (fold-append (λ c (e : GateEntry). clock_after home c e.deed) start_clock log (entry ∷ [])))
          (deed-known home log entry.author entry.deed rest whole (clock_of home log) (so-far (entry ∷ rest) whole)))

  -- Other logs

  -- the clock of the stamp of each begun request is known
  pub begun-known : (b : BegunRequest) → Contains (all_begun account) b → IsKnown account b.stamp.clock
  begun-known b h =
      let right = begun-rightly script account basis b h in
      basis.is.clocks.known right.home b.stamp.clock (clock-there (gate_log account right.home) b right.there)

  -- the clock of the stamp of each judgement in the store's log is known
  pub judged-known : (judged : Judgement) → Contains (judgements_of account.store) judged → IsKnown account judged.stamp.clock
  judged-known judged h =
      let b = judged-begun script account basis judged h in
      subst (λ (s : Stamp). IsKnown account s.clock) b.3 (begun-known b.0 b.1)

  -- the clock of the stamp of each visit in a shard's log is known
  pub visit-known : (shard : ℕ) (visit : Visit) → Contains (visits_of (shard_log account shard)) visit
      → IsKnown account visit.stamp.clock
  visit-known shard visit h =
      let b = begin-of script account basis visit.request visit.stamp (visit-stamp script account basis shard visit h) in
      subst (λ (s : Stamp). IsKnown account s.clock) b.3 (begun-known b.0 b.1)

  deed-clocks : (deed : GateDeed) (a : Addressed) → Contains (messages_by deed) a → (clock : Clock)
      → Contains (clocks_of_message a) clock → Contains (clocks_by deed) clock
  deed-clocks (Sent r messages) a h clock k = has_flat clocks_of_message messages a clock h k
  deed-clocks (Nop to number stamp low) a h clock k =
      subst (λ (b : Addressed). Contains (clocks_of_message b) clock) (sym (only _ a h)) k
  deed-clocks (BeganTx r stamp) a h clock k = absurd (has_none a h)
  deed-clocks (BeganProgram r stamp) a h clock k = absurd (has_none a h)
  deed-clocks (Heard heard) a h clock k = absurd (has_none a h)
  deed-clocks (Raised epoch) a h clock k = absurd (has_none a h)
  deed-clocks (Finished r) a h clock k = absurd (has_none a h)

  -- the clocks of a message that was sent to a shard are known
  pub sent-known : (shard home : ℕ) (a : Addressed) → Contains (addressed_to shard (gate_log account home)) a → (clock : Clock)
      → Contains (clocks_of_message a) clock → IsKnown account clock
  sent-known shard home a h clock k =
      let entry = flat-has (λ (e : GateEntry). to_shard shard (messages_by e.deed)) (gate_log account home) a h in
      let there = (filter_has (λ (b : Addressed). b.shard == shard) (messages_by (entry.0).deed) a entry.1.1).0 in
      basis.is.clocks.known home clock
      (has_flat (λ (e : GateEntry). clocks_by e.deed) (gate_log account home) entry.0 clock entry.1.0 (deed-clocks (entry.0).deed a there clock k))

  -- that of an event with this stamp
  stamped-known : (r : ℕ) (stamp : Stamp) → stamp_of account r ≡ Some stamp → IsKnown account stamp.clock
  stamped-known r stamp e =
      let b = begin-of script account basis r stamp e in subst (λ (s : Stamp). IsKnown account s.clock) b.3 (begun-known b.0 b.1)

  module _ (shard : ℕ) (log : List ShardEntry) (each : AreShardDeeds script account shard log) where
    -- the clock of the stamp of a message that arrived is known, and so is its low mark
    pub message-known : (home number : ℕ) (message : Message) → arrived_at home number log ≡ Some message
        → IsKnown account message.stamp.clock × IsKnown account message.low
    message-known home number message e =
        let a : Addressed = record { shard = shard; number = number; message = message } in
        let sent = arrived-sent script account basis shard log each home number message e in (
          sent-known shard home a sent message.stamp.clock (has_head message.stamp.clock (message.low ∷ [])),
          sent-known shard home a sent message.low (has_tail message.stamp.clock (message.low ∷ []) message.low (has_head message.low [])),
        )

    -- a meet of known clocks, if all are there
    met-known : (first : Option Clock) (lows : List (Option Clock))
        → ((clock : Clock) → first ≡ Some clock → IsKnown account clock)
        → ((low : Option Clock) → Contains lows low → (clock : Clock) → low ≡ Some clock → IsKnown account clock)
        → (bound : Clock) → fold meet_if first lows ≡ Some bound → IsKnown account bound
    met-known first [] known each-known bound e = known bound e
    met-known first (low ∷ lows) known each-known bound e =
        met-known (meet_if first low) lows (both first low known (each-known low (has_head low lows)))
        (λ other h. each-known other (has_tail low lows other h)) bound e
      where
        both : (a b : Option Clock) → ((clock : Clock) → a ≡ Some clock → IsKnown account clock)
            → ((clock : Clock) → b ≡ Some clock → IsKnown account clock) → (clock : Clock) → meet_if a b ≡ Some clock
            → IsKnown account clock
        both (Some x) (Some y) kx ky clock e =
            let same : meet_of x y ≡ clock = cc in subst (IsKnown account) same (meet-known basis.laws account x y (kx x refl) (ky y refl))
        both (Some x) None kx ky clock e = cc
        both None b kx ky clock e = cc

    -- the low marks of which a bound is the meet are known
    pub lows-known : (gates : ℕ) (low : Option Clock) → Contains (map (low-of log) (range_with_len 0 gates)) low → (clock : Clock)
        → low ≡ Some clock → IsKnown account clock
    lows-known gates low h clock is =
        let image = map-has (low-of log) (range_with_len 0 gates) low h in
        of-message image.of (last_of image.of log) refl clock (image.is ∙ is)
      where
        of-message : (gate : ℕ) (o : Option Message) → last_of gate log ≡ o → (clock : Clock)
            → option_map (λ (message : Message). message.low) o ≡ Some clock → IsKnown account clock
        of-message gate None is clock e = cc
        of-message gate (Some message) is clock e =
            let low : message.low ≡ clock = cc in subst (IsKnown account) low (message-known gate (processed_count gate log) message is).1

    -- the bound of a collection is known
    pub bound-known : (gates : ℕ) (bound : Clock) → bound_of gates log ≡ Some bound → IsKnown account bound
    bound-known gates bound e = at (map (low-of log) (range_with_len 0 gates)) (lows-known gates) e
      where
        at : (lows : List (Option Clock))
            → ((low : Option Clock) → Contains lows low → (clock : Clock) → low ≡ Some clock → IsKnown account clock)
            → meet_of_all lows ≡ Some bound → IsKnown account bound
        at [] known e = cc
        at (low ∷ lows) known e =
            met-known low lows (known low (has_head low lows)) (λ other h. known other (has_tail low lows other h)) bound e

  -- The oracle

  seen-has : (n : ℕ) (stamps : List Stamp) (s : Stamp) → Contains (last_seen n stamps) s → Contains stamps s
  seen-has zero stamps s h = absurd (has_none s h)
  seen-has (suc n) [] s h = absurd (has_none s h)
  seen-has (suc zero) (x ∷ stamps) s h = subst (λ k. Contains (x ∷ stamps) k) (only x s h) (has_head x stamps)
  seen-has (suc (suc n)) (x ∷ stamps) s h = has_tail x stamps s (seen-has (suc n) stamps s h)

  seen-begun : (shard : ℕ) (visit : Visit) → Contains (visits_of (shard_log account shard)) visit → (s : Stamp)
      → Contains (seen_last (shard_log account shard) visit) s → (r : ℕ) × (stamp_of account r ≡ Some s)
  seen-begun shard visit h s k =
      let v = visit.vertex in
      let log = shard_log account shard in
      let has = visit-fits script account basis shard visit h in
      let shown = (shows script account basis shard v (has.fits).kept_here log (basis.is.shards.deeds shard)).are in
      let naming = commits_naming v (commits_in account) in
      let update =
      map-has (λ (u : Update). u.stamp) (updates_of v log) s (seen-has visit.updates (map (λ (u : Update). u.stamp) (updates_of v log)) s k) in
      let commit = map-has (update_of v) (take (length (updates_of v log)) naming) update.of (subst (λ us. Contains us update.of) shown update.has) in
      let in-all =
      (filter_has (names_vertex v) (commits_in account) commit.of (take_has (length (updates_of v log)) naming commit.of commit.has)).0 in
      let stamp-is : (commit.of).stamp ≡ s = ap (λ (u : Update). u.stamp) commit.is ∙ update.is in
      ((commit.of).request, (commit-known script account basis commit.of in-all).stamp ∙ ap Some stamp-is)

  -- the stamps of an entry of the oracle are those of begun requests
  pub settled-begun : (entry : OracleEntry) → Contains account.oracle entry → (stamp : Stamp)
      → Contains ((settled_entry entry).later ∷ (settled_entry entry).earlier) stamp → (r : ℕ) × (stamp_of account r ≡ Some stamp)
  settled-begun entry h stamp k =
      at (basis.is.oracle.asked entry h) (has_read (settled_entry entry).later (settled_entry entry).earlier stamp k)
    where
      at : IsAskedByCommit account (settled_entry entry) ⊎ IsAskedByVisit account (settled_entry entry)
          → ((settled_entry entry).later ≡ stamp) ⊎ Contains (settled_entry entry).earlier stamp
          → (r : ℕ) × (stamp_of account r ≡ Some stamp)
      at (inl commit) (inl later) =
          let there : Contains (commits_in account) commit.commit =
          subst (λ cs. Contains cs commit.commit)
          (sym (ap commits_of commit.at ∙ flat_map-append (λ (e : StoreEntry). commit_by e.deed) commit.before (commit.entry ∷ commit.after) ∙ ap (λ cs. commits_of commit.before ++ (cs ++ commits_of commit.after)) commit.commit_is))
          (has_cut (commits_of commit.before) commit.commit (commits_of commit.after)) in
          let stamp-is : (commit.commit).stamp ≡ stamp = sym commit.later_is ∙ later in
          ((commit.commit).request, (commit-known script account basis commit.commit there).stamp ∙ ap Some stamp-is)
      at (inl commit) (inr earlier) =
          let last =
          map-has (λ (l : LastCommit). l.commit.stamp) (lasts-at script account basis (settled_entry entry) commit) stamp
          (subst (λ xs. Contains xs stamp) commit.earlier_are earlier) in
          let stamp-is : ((last.of).commit).stamp ≡ stamp = last.is in
          (((last.of).commit).request, (last-known script account basis (settled_entry entry) commit last.of last.has).1 ∙ ap Some stamp-is)
      at (inr visit) (inl later) =
          let stamp-is : (visit.visit).stamp ≡ stamp = sym visit.later_is ∙ later in ((visit.visit).request, visit-stamp script account basis visit.shard visit.visit visit.visited ∙ ap Some stamp-is)
      at (inr visit) (inr earlier) =
          seen-begun visit.shard visit.visit visit.visited stamp (subst (λ xs. Contains xs stamp) visit.earlier_is earlier)

  -- the clocks of the stamps that an entry of the oracle names, later and earlier ones, are known
  pub settled-known : (entry : OracleEntry) → Contains account.oracle entry → (stamp : Stamp)
      → Contains ((settled_entry entry).later ∷ (settled_entry entry).earlier) stamp → IsKnown account stamp.clock
  settled-known entry h stamp k = let found = settled-begun entry h stamp k in stamped-known found.0 stamp found.1

  -- Sessions, and collections in the middle of a log

  -- the clock of the stamp of each begin in a session's log is known
  pub session-known : (session r : ℕ) (stamp : Stamp) → Contains (begins_in (session_log account session)) (r, stamp)
      → IsKnown account stamp.clock
  session-known session r stamp h = stamped-known r stamp (session-begun script account basis session r stamp h)

  -- the bound of a collection, wherever it is in the log
  pub collected-known : (shard : ℕ) (before after : List ShardEntry) (author : ℕ) (bound : Clock)
      → shard_log account shard ≡ before ++ record { author = author; deed = Collected (Some bound) } ∷ after
      → IsKnown account bound
  collected-known shard before after author bound is =
      let entry : ShardEntry = record { author = author; deed = Collected (Some bound) } in
      let here : Some bound ≡ bound_of script.gates before = basis.is.shards.deeds shard before entry after is in
      bound-known shard before
      (each_before (λ before (entry : ShardEntry). ShardFitsAs script account shard before entry.deed) before (entry ∷ after) (subst (AreShardDeeds script account shard) is (basis.is.shards.deeds shard)))
      script.gates bound (sym here)

-- What may be heard

by-order : (home : ℕ) (own heard : Clock) → (own.epoch < heard.epoch → count_of home heard ≡ 0)
    → (heard.epoch ≡ own.epoch → count_of home heard ≤ count_of home own) → IsTrue (counts_no_more home own heard)
by-order home own heard none few =
    elim (cases_order heard.epoch own.epoch) [
      | inr (inl lower) ↦ cond-true _ _ _ (lt-ltb heard.epoch own.epoch lower)
      | inr (inr higher) ↦ cond-false _ _ _ (le-ltb heard.epoch own.epoch (omega (arith, higher))) ∙ cond-true _ _ _ (lt-ltb own.epoch heard.epoch higher) ∙ eq-eqb (count_of home heard) 0 (none higher)
      | inl same ↦ cond-false _ _ _ (le-ltb heard.epoch own.epoch (omega (arith, same))) ∙ cond-false _ _ _ (le-ltb own.epoch heard.epoch (omega (arith, same))) ∙ le-leb (count_of home heard) (count_of home own) (few same)
    ]

lower-clash : (a b c : ℕ) → a ≡ c → b < c → a < b → ⊥
lower-clash a b c same higher lower = omega (arith, same, higher, lower)

even-clash : (a b c : ℕ) → a ≡ c → b < c → a ≡ b → ⊥
even-clash a b c same higher even = omega (arith, same, higher, even)

module _ (laws : LawsForAccounts) (home shards : ℕ) (account : Account) (below : home < 8) (is : IsGateLog home shards (gate_log account home)) where
  -- no stamp of a gatekeeper's log has a higher epoch than its clock
  none-higher : (epoch : ℕ) → (clock_of home (gate_log account home)).epoch < epoch → ticks_of epoch (gate_log account home) ≡ 0
  none-higher epoch higher =
      let own = clock_of home (gate_log account home) in
      count_none (λ (stamp : Stamp). stamp.clock.epoch == epoch) (stamps_of (gate_log account home))
      (λ stamp h. ne_eqb stamp.clock.epoch epoch (λ same. elim (laws.clocks.at_most_each stamp.clock own (laws.stamps_under home shards (gate_log account home) below is stamp h)) [
        | inl lower ↦ lower-clash stamp.clock.epoch own.epoch epoch same higher lower
        | inr even ↦ even-clash stamp.clock.epoch own.epoch epoch same higher even.0
      ]))

  -- so a known clock counts no more of its events than the gatekeeper made
  pub may-be-heard : (clock : Clock) → IsKnown account clock
      → IsTrue (counts_no_more home (clock_of home (gate_log account home)) clock)
  may-be-heard clock known =
      let own = clock_of home (gate_log account home) in
      let counted = known.counts home in
      by-order home own clock
      (λ higher. (let none = none-higher clock.epoch higher in omega (arith, none, counted)))
      (λ same.
      let counts : count_of home own ≡ ticks_of own.epoch (gate_log account home) = laws.ticks home shards (gate_log account home) below is in
      let here : count_of home clock ≤ ticks_of own.epoch (gate_log account home) =
      subst (λ e. count_of home clock ≤ ticks_of e (gate_log account home)) same counted in
      omega (arith, here, counts))
