-- The stamps in the logs of store, oracle, shards and sessions are those of begun requests, and what is judged is the
-- transaction of its request.
-- Used by `judgements_are_of_requests` and `stamps_are_begun`.
use Rattle.std.proofs.Common.{◌≡◌, ℕ, List, [], ◌∷◌, map, Contains, Option, None, Some, inl, inr, refl, sym, ap, subst, ◌∙◌}
use Rattle.std.specs.Prelude.{IsSomeAnd}
use Rattle.std.specs.List.{cons_option, filter, filter_map}
use Rattle.weave_data.proofs.Members.{cut_at, filter_has, has_map, has_none, has_read}
use Rattle.weave_data.specs.Names.{same_name}
use Rattle.weave_data.specs.declared.name.Name.{Name}
use Rattle.graph_ops.specs.Mentions.{named_by}
use Rattle.graph_ops.specs.declared.op.Op.{Op}
use Rattle.graph_ops.specs.declared.part.Part.{Part}
use Rattle.vector_stamp.specs.declared.clock.Stamp.{Stamp}
use Rattle.program_defs.specs.declared.script.Request.{Request}
use Rattle.program_defs.specs.declared.script.Script.{Script}
use Rattle.program_defs.specs.declared.script.Work.TheVariants.{Change}
use Rattle.weave_entries.specs.declared.gate_log.GateEntry.{GateEntry}
use Rattle.weave_entries.specs.declared.message.Addressed.{Addressed}
use Rattle.weave_entries.specs.declared.message.Message.{Message}
use Rattle.weave_entries.specs.declared.store_log.StoreEntry.{StoreEntry}
use Rattle.weave_entries.specs.declared.verdict.Counted.{Counted}
use Rattle.weave_entries.specs.declared.verdict.Verdict.{Verdict}
use Rattle.weave_entries.specs.declared.verdict.Verdict.TheVariants.{Committed, Conflict, Refused}
use Rattle.weave_entries.specs.GateReplay.{BegunRequest}
use Rattle.weave_entries.specs.Sending.{IsCountsOf, message_to, messages_of, shards_named}
use Rattle.weave_entries.specs.ShardReplay.{Update, applied_messages, arrived_at, processed_of, updates_in, updates_of}
use Rattle.weave_entries.specs.StoreReplay.{Commit, Judgement, judged_by, judgements_of}
use Rattle.report_rules.specs.Lookups.{request_at}
use Rattle.weave_account.specs.declared.account.Account.{Account}
use Rattle.weave_account.specs.Account.{IsBegunStamp, all_begun, begun_stamps, gate_log, session_log, shard_log, stamp_of}
use Rattle.weave_account.specs.Seen.{IsMade}
use Rattle.weave_account.specs.Store.{IsRightVerdict, Judges}
use Rattle.weave_entries.specs.SessionReplay.{session_of}
use Rattle.weave_entries.specs.StoreReplay.{commits_of}
use Rattle.weave_entries.proofs.OwnStamps.{tx-begun}
use Rattle.weave_entries.proofs.StoreLogs.{vertices-counted}
use Rattle.weave_account.proofs.Basis.{Basis}
use Rattle.weave_account.proofs.Beginning.{all-in}
use Rattle.weave_account.proofs.Heads.{arrived-sent}
use Rattle.weave_account.proofs.InSession.{last-begun}
use Rattle.weave_data.proofs.Images.{flat-has, map-has}
use Rattle.weave_account.proofs.PlacedPairs.{judged-begun}
use Rattle.weave_account.proofs.RepliesClause.{begin-of}
use Rattle.weave_account.proofs.Sent.{sent-made}

-- what a list gives is given by one of its elements
filter_map-from : {A B : Type 0} (f : A → Option B) (xs : List A) (y : B) → Contains (filter_map f xs) y
    → (x : A) × (f x ≡ Some y)
filter_map-from f [] y h = absurd (has_none y h)
filter_map-from {A = A} {B = B} f (x ∷ xs) y h = at (f x) refl (filter_map-from f xs y) h
  where
    at : (o : Option B) → f x ≡ o → (Contains (filter_map f xs) y → (x : A) × (f x ≡ Some y))
        → Contains (cons_option o (filter_map f xs)) y → (x : A) × (f x ≡ Some y)
    at None e rest h = rest h
    at (Some z) e rest h =
        elim (has_read z (filter_map f xs) y h) [
          | inl same ↦ (x, e ∙ ap Some same)
          | inr more ↦ rest more
        ]

module _ (script : Script) (account : Account) (basis : Basis script account) where
  -- the stamp of a request is that of its begin
  pub stamped-begun : (r : ℕ) (stamp : Stamp) → stamp_of account r ≡ Some stamp → IsBegunStamp account stamp
  stamped-begun r stamp e =
      let b = begin-of script account basis r stamp e in
      subst (Contains (begun_stamps account)) b.3 (has_map (λ (b : BegunRequest). b.stamp) (all_begun account) b.0 b.1)

  -- the stamp of each judgement in the store's log is that of a begun request
  pub judged-stamp : (judged : Judgement) → Contains (judgements_of account.store) judged → IsBegunStamp account judged.stamp
  judged-stamp judged h =
      let b = judged-begun script account basis judged h in
      subst (Contains (begun_stamps account)) b.3 (has_map (λ (b : BegunRequest). b.stamp) (all_begun account) b.0 b.1)

  -- the stamp that a session began last is that of a begun request
  pub last-stamped : (session : ℕ) (stamp : Stamp) → (session_of [] (session_log account session)).last ≡ Some stamp
      → IsBegunStamp account stamp
  last-stamped session stamp e = let r = last-begun script account basis session stamp e in stamped-begun r.0 stamp r.1

  -- Updates

  verdict-stamp : (log : List GateEntry) (begun : BegunRequest) (ops : List Op) (verdict : Verdict) (a : Addressed)
      → Contains (messages_of script.shards log begun ops verdict) a → (a.message).stamp ≡ begun.stamp
  verdict-stamp log begun ops (Committed number answers counts) a h =
      let image = map-has (message_to script.shards log begun ops counts) (shards_named script.shards counts) a h in
      ap (λ (k : Addressed). (k.message).stamp) (sym image.is)
  verdict-stamp log begun ops (Conflict v newer) a h = absurd (has_none a h)
  verdict-stamp log begun ops (Refused op reason at) a h = absurd (has_none a h)

  made-stamp : (shard : ℕ) (message : Message) → IsMade script.shards account.store shard message → (part : Part)
      → Contains message.parts part → IsBegunStamp account message.stamp
  made-stamp shard message (inl empty) part h = absurd (has_none part (subst (λ ps. Contains ps part) empty h))
  made-stamp shard message (inr made) part h =
      let stamp : (made.judged).stamp ≡ message.stamp =
      sym made.stamp_is ∙ sym (verdict-stamp made.log made.begun (made.judged).ops (made.judged).verdict made.addressed made.sent)
      ∙ ap (λ (m : Message). m.stamp) made.message_is in
      subst (IsBegunStamp account) stamp (judged-stamp made.judged made.is_judged)

  -- the stamp of each update applied at a shard is that of a begun request
  pub update-stamp : (v : Name) (shard : ℕ) (update : Update) → Contains (updates_of v (shard_log account shard)) update
      → IsBegunStamp account update.stamp
  update-stamp v shard update h =
      let log = shard_log account shard in
      let from = flat-has (updates_in v) (applied_messages log) update h in
      let m = from.0 in
      let image =
      map-has (λ (part : Part). record { stamp = m.stamp; ops = part.ops }) (filter (λ (part : Part). same_name part.vertex v) m.parts) update from.1.1 in
      let part = (filter_has (λ (part : Part). same_name part.vertex v) m.parts image.of image.has).0 in
      let arrived = filter_map-from (λ (of : ℕ × ℕ). arrived_at of.0 of.1 log) (processed_of log) m from.1.0 in
      let sent = arrived-sent script account basis shard log (basis.is.shards.deeds shard) (arrived.0).0 (arrived.0).1 m arrived.1 in
      let made = sent-made script account shard basis.is.channels (arrived.0).0 _ sent in
      subst (λ (u : Update). IsBegunStamp account u.stamp) image.is (made-stamp shard m made image.of part)

  -- Judgements

  -- what was judged was judged rightly after some entries
  pub judged-rule : (judged : Judgement) → Contains (judgements_of account.store) judged
      → (before : List StoreEntry) × Judges script account before judged
  judged-rule judged h =
      let from = map-has (λ (e : StoreEntry). judged_by e.author e.deed) account.store judged h in
      let place = cut_at account.store from.of from.has in
      (place.before, subst (Judges script account place.before) from.is (basis.is.store.judges place.before from.of place.after place.is))

  -- what was judged is the transaction that the script has for that request
  pub judged-work : (judged : Judgement) → Contains (judgements_of account.store) judged
      → IsSomeAnd (request_at script judged.request) (λ (request : Request). request.work ≡ Change judged.ops)
  judged-work judged h = (judged-rule judged h).1.work

  -- begun with its stamp by its author
  pub judged-there : (judged : Judgement) → Contains (judgements_of account.store) judged
      → Contains (all_begun account) (record { author = judged.author; request = judged.request; stamp = judged.stamp })
  judged-there judged h =
      let rule = (judged-rule judged h).1 in
      all-in account rule.home _ (tx-begun (gate_log account rule.home) _ rule.begun)

  right-counts : (before : List Commit) (stamp : Stamp) (ops : List Op) (verdict : Verdict)
      → IsRightVerdict account before stamp ops verdict → IsCountsOf ops verdict
  right-counts before stamp ops (Committed number answers counts) right =
      ap (map (λ (c : Counted). c.vertex)) right.counts_are ∙ vertices-counted before (named_by ops)
  right-counts before stamp ops (Conflict v newer) right = tt
  right-counts before stamp ops (Refused op reason at) right = tt

  -- the verdict of each judgement counts the vertices that its operations name
  pub judged-counts : (judged : Judgement) → Contains (judgements_of account.store) judged → IsCountsOf judged.ops judged.verdict
  judged-counts judged h =
      let rule = judged-rule judged h in right-counts (commits_of rule.0) judged.stamp judged.ops judged.verdict rule.1.verdict
