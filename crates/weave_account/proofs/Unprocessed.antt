-- The stamp of a program for which a shard is ready is before that of each commit whose update the shard hasn't
-- applied. This rests on the clauses on gatekeepers, channels, the store and shards.
-- Used by OnTheWay and Visiting.
use Rattle.std.proofs.Common.{◌≡◌, ◌≢◌, ℕ, ◌<◌, ◌≤◌, cond, ◌==◌, List, [], ◌∷◌, ◌++◌, map, length, Contains, AllPairs, IsTrue, Some, None, ◌⊎◌, inl, inr, refl, sym, ap, subst, ◌∙◌, arith}
use Rattle.std.specs.List.{filter, list_any, range_with_len}
use Rattle.std.proofs.lemmas.Bool.{or_cases, or_left, or_right, eq-eqb}
use Rattle.weave_data.proofs.Members.{has_head, has_cut, has_filter, has_map, has_flat}
use Rattle.vector_stamp.specs.declared.clock.Stamp.{Stamp}
use Rattle.vector_stamp.specs.Order.{stamp_before}
use Rattle.weave_data.specs.Names.{same_name, one_name, shard_of}
use Rattle.weave_data.specs.declared.name.Name.{Name}
use Rattle.graph_ops.specs.Mentions.{named_by, is_among}
use Rattle.graph_ops.specs.declared.op.Op.{Op}
use Rattle.graph_ops.specs.declared.tx.Got.{Got}
use Rattle.graph_ops.specs.declared.part.Part.{Part}
use Rattle.program_defs.specs.declared.script.Script.{Script}
use Rattle.weave_entries.specs.declared.gate_log.GateEntry.{GateEntry}
use Rattle.weave_entries.specs.declared.gate_log.GateDeed.TheVariants.{Sent}
use Rattle.weave_entries.specs.declared.message.Addressed.{Addressed}
use Rattle.weave_entries.specs.declared.shard_log.ShardEntry.{ShardEntry}
use Rattle.weave_entries.specs.declared.store_log.StoreEntry.{StoreEntry}
use Rattle.weave_entries.specs.declared.store_log.StoreDeed.{StoreDeed}
use Rattle.weave_entries.specs.declared.verdict.Counted.{Counted}
use Rattle.weave_entries.specs.declared.verdict.Verdict.TheVariants.{Committed}
use Rattle.weave_entries.specs.GateReplay.{BegunRequest, tx_by, messages_by, to_shard, addressed_to}
use Rattle.weave_entries.specs.Sending.{is_kept_at, shards_named, parts_for, message_to, messages_of, ops_on}
use Rattle.weave_entries.specs.ShardReplay.{arrivals_of, processed_of, updates_of, first_unready}
use Rattle.weave_entries.specs.StoreReplay.{Commit, Judgement, judged_by, judgements_of, commit_by, commits_of, names_vertex as names, count_naming}
use Rattle.weave_entries.specs.StoreRule.{counts_of}
use Rattle.weave_entries.specs.declared.message.Message.{Message}
use Rattle.weave_entries.specs.GateRules.{IsChannel}
use Rattle.weave_account.specs.declared.account.Account.{Account}
use Rattle.weave_account.specs.Account.{gate_log}
use Rattle.weave_account.specs.OnTheWay.{CommitIsInFlight}
use Rattle.weave_account.specs.Store.{Commits, IsRightVerdict}
use Rattle.weave_account.specs.Channels.{SendsJudged}
use Rattle.weave_account.specs.Shards.{AreShardDeeds}
use Rattle.weave_account.proofs.Listed.{verdict-commits}
use Rattle.weave_data.proofs.Images.{flat-has, within-list}
use Rattle.weave_account.proofs.Parts.{the-part, parts-of-commit}
use Rattle.weave_account.proofs.Ready.{WasSent, gone, either-sent, range-pairs, range-low, filter_map-has, IsPast, ready-at, has-range}
use Rattle.weave_account.proofs.Sent.{IsUpdateOf}
use Rattle.weave_account.proofs.Sessions.{pairs-either}
use Rattle.weave_account.proofs.Storing.{IsCommitOf, commit-of}
use Rattle.weave_account.proofs.Applying.{arrived, applied}
use Rattle.weave_account.proofs.Updates.{Shows, shows}
use Rattle.weave_account.proofs.Basis.{Basis}

-- a commit at its place in the store
pub record IsCommitAt (account : Account) (commit : Commit) : Type 0 where
  pub before : List StoreEntry
  pub entry : StoreEntry
  pub after : List StoreEntry
  pub is : account.store ≡ before ++ entry ∷ after
  pub commit_is : commit_by entry.deed ≡ commit ∷ []

module _ (script : Script) (account : Account) (basis : Basis script account) (shard : ℕ) (v : Name) (here : shard_of v script.shards ≡ shard) (inside : shard < script.shards) where
  -- it was sent to the shard: its message is on the channel
  pub record IsSentTo (home : ℕ) (commit : Commit) (before : List StoreEntry) : Type 0 where
    pub addressed : Addressed
    pub has : Contains (addressed_to shard (gate_log account home)) addressed
    pub stamp_is : (addressed.message).stamp ≡ commit.stamp
    pub update : IsUpdateOf account.store v addressed.message
    pub place_is : update.before ≡ before
    pub commit_is : update.commit ≡ commit

  -- a message is among those sent, and has the update of the commit, after these entries
  abbrev SendsUpdate : List Addressed → Addressed → List StoreEntry → Commit → Type 0
  SendsUpdate sent addressed before commit =
      Contains sent addressed × ((update : IsUpdateOf account.store v addressed.message) × (update.before ≡ before) × (update.commit ≡ commit))

  -- a message is on a gatekeeper's channel
  abbrev IsOnChannel : ℕ → ℕ → Message → Type 0
  IsOnChannel home number message =
      Contains (addressed_to shard (gate_log account home)) (record { shard = shard; number = number; message = message })

  -- the message of a commit to the shard
  message-there : (log : List GateEntry) (begun : BegunRequest) (commit : Commit) (place : IsCommitAt account commit) (ops : List Op)
      → ops ≡ commit.ops → begun.stamp ≡ commit.stamp → IsTrue (names v commit)
      → (number : ℕ) (answers : List Got) (counts : List Counted) → counts ≡ counts_of ops (commits_of place.before)
      → SendsUpdate (messages_of script.shards log begun ops (Committed number answers counts))
      (message_to script.shards log begun ops counts shard) place.before commit
  message-there log begun commit place ops ops-are stamp-is named number answers counts counts-are =
      let named-ops : IsTrue (is_among (named_by ops) v) = subst (λ k. IsTrue (is_among (named_by k) v)) (sym ops-are) named in
      let kept : IsTrue (list_any (is_kept_at script.shards shard) counts) = subst (λ cs. IsTrue (list_any (is_kept_at script.shards shard) cs)) (sym counts-are) (keeps-some (named_by ops) named-ops) in (
        has_map (message_to script.shards log begun ops counts) (shards_named script.shards counts) shard (has_filter (λ s. list_any (is_kept_at script.shards s) counts) (range_with_len 0 script.shards) shard (has-range 0 script.shards shard (omega arith) (omega (arith, inside))) kept),
        (
          record {
            before = place.before;
            entry = place.entry;
            after = place.after;
            is = place.is;
            commit = commit;
            commit_is = place.commit_is;
            named = named;
            stamp_is = stamp-is;
            parts_are =
                ap (λ cs. filter (λ (part : Part). same_name part.vertex v) (parts_for script.shards shard ops cs)) counts-are
                ∙ parts-of-commit basis.laws script.shards shard v here ops (commits_of place.before)
                ∙ ap (λ b. cond b (the-part basis.laws script.shards shard v here ops (commits_of place.before) ∷ []) []) named-ops
                ∙ ap (λ k. record { vertex = v; before = count_naming v (commits_of place.before); ops = ops_on v k } ∷ []) ops-are;
          },
          refl,
          refl,
        ),
      )
    where
      keeps-some : (ns : List Name) → IsTrue (is_among ns v)
          → IsTrue (list_any (is_kept_at script.shards shard) (map (λ (w : Name). record { vertex = w; before = count_naming w (commits_of place.before) }) ns))
      keeps-some [] h = cc
      keeps-some (w ∷ ns) h = elim (or_cases (same_name w v) (is_among ns v) h) [
        | inl same ↦ or_left _ _ (eq-eqb (shard_of w script.shards) shard (ap (λ k. shard_of k script.shards) (one_name w v same) ∙ here))
        | inr more ↦ or_right (is_kept_at script.shards shard (record { vertex = w; before = count_naming w (commits_of place.before) })) _ (keeps-some ns more)
      ]

  -- the judgement at an entry that commits
  judged-commit : (author : ℕ) (deed : StoreDeed) (commit : Commit) → commit_by deed ≡ commit ∷ []
      → IsCommitOf (judged_by author deed) commit
  judged-commit author deed commit is =
      commit-of author deed commit (subst (λ cs. Contains cs commit) (sym is) (has_head commit []))

  on-channel : (home : ℕ) (commit : Commit) (place : IsCommitAt account commit) → IsTrue (names v commit) → (begun : BegunRequest)
      → begun.request ≡ commit.request → WasSent (gate_log account home) begun → IsSentTo home commit place.before
  on-channel home commit place named begun request-is sent =
      let sends : SendsJudged account script.shards sent.before sent.author begun.request sent.messages =
      basis.is.channels home sent.before _ sent.after sent.is in
      let judged : Judgement = judged_by (place.entry).author (place.entry).deed in
      let of = judged-commit (place.entry).author (place.entry).deed commit place.commit_is in
      let in-store : Contains account.store place.entry =
      subst (λ l. Contains l place.entry) (sym place.is) (has_cut place.before place.entry place.after) in
      let same-request : (sends.judged).request ≡ judged.request = sends.request_is ∙ request-is ∙ sym of.request in
      let same : sends.judged ≡ judged = elim (pairs-either (λ (a b : Judgement). a.request ≢ b.request) (judgements_of account.store) sends.judged judged basis.is.store.once sends.is_judged (has_map (λ (e : StoreEntry). judged_by e.author e.deed) account.store place.entry in-store)) [
        | inl one ↦ one
        | inr (inl differ) ↦ absurd (differ same-request)
        | inr (inr differ) ↦ absurd (differ (sym same-request))
      ] in
      let passed = verdict-commits judged.verdict of.verdict in
      let rule = basis.is.store.judges place.before place.entry place.after place.is in
      let right : Commits account (commits_of place.before) judged.stamp judged.ops passed.0 passed.1 passed.2 =
      subst (λ k. IsRightVerdict account (commits_of place.before) judged.stamp judged.ops k) passed.3 rule.verdict in
      let flight : BegunRequest = record { author = sent.author; request = begun.request; stamp = (sends.judged).stamp } in
      let made : sent.messages ≡ messages_of script.shards sent.before flight judged.ops (Committed passed.0 passed.1 passed.2) =
      sends.messages_are ∙ ap (λ (j : Judgement). messages_of script.shards sent.before flight j.ops j.verdict) same
      ∙ ap (messages_of script.shards sent.before flight judged.ops) passed.3 in
      let stamp-is : flight.stamp ≡ commit.stamp = ap (λ (j : Judgement). j.stamp) same ∙ of.stamp in
      let there = message-there sent.before flight commit place judged.ops of.ops stamp-is named passed.0 passed.1 passed.2 right.counts_are in
      let message = message_to script.shards sent.before flight judged.ops passed.2 shard in
      let to : Contains (to_shard shard sent.messages) message =
      has_filter (λ (a : Addressed). a.shard == shard) sent.messages message (subst (λ ms. Contains ms message) (sym made) there.0)
      (eq-eqb shard shard refl) in
      let entry : GateEntry = record { author = sent.author; deed = Sent begun.request sent.messages } in
      record {
        addressed = message;
        has = has_flat (λ (e : GateEntry). to_shard shard (messages_by e.deed)) (gate_log account home) entry message (subst (λ l. Contains l entry) (sym sent.is) (has_cut sent.before entry sent.after)) to;
        stamp_is = stamp-is;
        update = there.1.0;
        place_is = there.1.1;
        commit_is = there.1.2;
      }

  -- where a commit is: in flight, or on the channel
  pub under-way : (commit : Commit) (place : IsCommitAt account commit) → IsTrue (names v commit)
      → (home : ℕ) × (CommitIsInFlight account commit home ⊎ IsSentTo home commit place.before)
  under-way commit place named =
      let rule = basis.is.store.judges place.before place.entry place.after place.is in
      let judged : Judgement = judged_by (place.entry).author (place.entry).deed in
      let of = judged-commit (place.entry).author (place.entry).deed commit place.commit_is in
      let begun : BegunRequest = record { author = judged.author; request = judged.request; stamp = judged.stamp } in (
        rule.home,
        elim (gone rule.home script.shards (gate_log account rule.home) (basis.is.gatekeepers.logs rule.home) begun rule.begun) [
          | inl flying ↦ inl (record { flight = begun; flies = flying; request_is = of.request; stamp_is = of.stamp })
          | inr sent ↦ inr (on-channel rule.home commit place named begun of.request sent)
        ],
      )

  -- a commit whose update isn't applied comes after a stamp for which the shard is ready
  pub unprocessed : (log : List ShardEntry)
      → AreShardDeeds script account shard log → (stamp : Stamp)
      → first_unready script.gates stamp log ≡ None
      → (commit : Commit) (place : IsCommitAt account commit) → IsTrue (names v commit)
      → length (updates_of v log) ≤ count_naming v (commits_of place.before) → IsTrue (stamp_before stamp commit.stamp)
  unprocessed log each stamp ready commit place named unapplied =
      let rule = basis.is.store.judges place.before place.entry place.after place.is in
      let of = judged-commit (place.entry).author (place.entry).deed commit place.commit_is in
      let home = rule.home in
      let begun : BegunRequest =
      record { author = (judged_by (place.entry).author (place.entry).deed).author; request = (judged_by (place.entry).author (place.entry).deed).request; stamp = (judged_by (place.entry).author (place.entry).deed).stamp } in
      let entry = flat-has (λ (e : GateEntry). tx_by e.author e.deed) (gate_log account home) begun rule.begun in
      let below : home < script.gates = (let lt = within-list account.gates home entry.0 entry.1.0 in let many = basis.is.gatekeepers.as_many in omega (arith, lt, many)) in
      let past = ready-at script.gates stamp log home below ready in
      let shown = shows script account basis shard v here log each in
      let made : Addressed = record { shard = shard; number = past.number; message = past.message } in
      let made-sent : Contains (addressed_to shard (gate_log account home)) made = shown.sent home past.number past.message past.arrived in
      let home-below : home < 8 = (let few = basis.limits.few_gates in omega (arith, below, few)) in
      let channel = basis.laws.channel home script.shards shard (gate_log account home) home-below (basis.is.gatekeepers.logs home) in
      elim (gone home script.shards (gate_log account home) (basis.is.gatekeepers.logs home) begun rule.begun) [
        | inl flying ↦
            let before-flight : IsTrue (stamp_before (past.message).stamp begun.stamp) = basis.laws.before_flight home script.shards shard (gate_log account home) home-below (basis.is.gatekeepers.logs home) begun flying past.message
            (has_map (λ (a : Addressed). a.message) (addressed_to shard (gate_log account home)) made made-sent) in
            subst (λ s. IsTrue (stamp_before stamp s)) of.stamp
            (basis.laws.transitive stamp (past.message).stamp begun.stamp past.later before-flight)
        | inr sent ↦ by-channel log shown stamp home past made-sent channel commit place.before unapplied (on-channel home commit place named begun of.request sent)
      ]
    where
      by-channel : (log : List ShardEntry) → Shows script account basis shard v here (arrivals_of log) (processed_of log)
          → (stamp : Stamp) (home : ℕ) (past : IsPast stamp log home)
          → IsOnChannel home past.number past.message → IsChannel shard (gate_log account home)
          → (commit : Commit) (before : List StoreEntry) → length (updates_of v log) ≤ count_naming v (commits_of before)
          → IsSentTo home commit before → IsTrue (stamp_before stamp commit.stamp)
      by-channel log shown stamp home past made-sent channel commit before unapplied on =
          let made : Addressed = record { shard = shard; number = past.number; message = past.message } in
          let all = addressed_to shard (gate_log account home) in
          let numbers-rise : AllPairs (λ a b. a < b) (map (λ (a : Addressed). a.number) all) =
          subst (AllPairs (λ a b. a < b)) (sym channel.numbers) (range-pairs 1 (length (map (λ (a : Addressed). a.message) all))) in
          let low : 1 ≤ (on.addressed).number =
          range-low 1 (length (map (λ (a : Addressed). a.message) all)) (on.addressed).number
          (subst (λ ns. Contains ns (on.addressed).number) channel.numbers (has_map (λ (a : Addressed). a.number) all on.addressed on.has)) in
          elim (either-sent all numbers-rise channel.stamps on.addressed made on.has made-sent) [
            | inl same ↦ subst (λ s. IsTrue (stamp_before stamp s)) (sym (ap (λ (a : Addressed). (a.message).stamp) same) ∙ on.stamp_is) past.later
            | inr (inr later) ↦ subst (λ s. IsTrue (stamp_before stamp s)) on.stamp_is (basis.laws.transitive stamp (past.message).stamp ((on.addressed).message).stamp past.later later.1)
            | inr (inl earlier) ↦
                let lt = earlier.0 in
                let within = past.within in
                let done : Contains (processed_of log) (home, (on.addressed).number) =
                shown.all home (on.addressed).number low (omega (arith, lt, within)) in
                let there = shown.there (home, (on.addressed).number) done in
                let sent-there = shown.sent home (on.addressed).number there.0 there.1 in
                let one : record { shard = shard; number = (on.addressed).number; message = there.0 } ≡ on.addressed = elim (either-sent all numbers-rise channel.stamps (record { shard = shard; number = (on.addressed).number; message = there.0 }) on.addressed sent-there on.has) [
                  | inl is ↦ is
                  | inr (inl less) ↦ absurd (let l = less.0 in omega (arith, l))
                  | inr (inr more) ↦ absurd (let l = more.0 in omega (arith, l))
                ] in
                let was-applied : Contains (applied (arrivals_of log) (processed_of log)) (on.addressed).message =
                filter_map-has (λ (k : ℕ × ℕ). arrived (arrivals_of log) k.0 k.1) (processed_of log) (home, (on.addressed).number)
                (on.addressed).message done (there.1 ∙ ap (λ (a : Addressed). Some a.message) one) in
                let counted = shown.counted (on.addressed).message was-applied on.update in
                let place : count_naming v (commits_of on.update.before) ≡ count_naming v (commits_of before) =
                ap (λ b. count_naming v (commits_of b)) on.place_is in
                absurd (omega (arith, counted, place, unapplied))
          ]
