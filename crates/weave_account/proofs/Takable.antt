-- What a message that is made of a judgement has: its vertices are distinct, and its counts are at most the number of
-- commits.
-- Used by `messages_can_be_taken`.
use Rattle.std.proofs.Common.{◌≡◌, ◌≢◌, ℕ, ◌<◌, ◌≤◌, Bool, true, false, cond, List, [], ◌∷◌, map, length, AllPairs, Contains, inl, inr, sym, ap, subst, ◌∙◌, arith}
use Rattle.std.specs.Prelude.{◌-◌, ◌^◌}
use Rattle.std.specs.List.{filter}
use Rattle.std.proofs.lemmas.List.Elements.{All-from_recursion}
use Rattle.std.proofs.lemmas.List.{length-append}
use Rattle.std.proofs.lemmas.List.Concat.{flat_map-append}
use Rattle.std.proofs.lemmas.List.Sums.{count_by-le-length, length-filter}
use Rattle.weave_data.proofs.Members.{has_none, filter_has, cut_at}
use Rattle.weave_data.proofs.Ordered.{pairs_none, pairs_cons, pairs_head, pairs_tail}
use Rattle.weave_data.specs.declared.name.Name.{Name}
use Rattle.graph_ops.specs.Mentions.{named_by}
use Rattle.graph_ops.specs.declared.op.Op.{Op}
use Rattle.graph_ops.specs.declared.part.Part.{Part}
use Rattle.weave_entries.specs.declared.gate_log.GateEntry.{GateEntry}
use Rattle.weave_entries.specs.declared.message.Addressed.{Addressed}
use Rattle.weave_entries.specs.declared.message.Message.{Message}
use Rattle.weave_entries.specs.declared.store_log.StoreEntry.{StoreEntry}
use Rattle.weave_entries.specs.declared.verdict.Verdict.{Verdict}
use Rattle.weave_entries.specs.declared.verdict.Verdict.TheVariants.{Committed, Conflict, Refused}
use Rattle.weave_entries.specs.GateReplay.{BegunRequest}
use Rattle.weave_entries.specs.Sending.{is_kept_at, message_to, messages_of, part_for, parts_for, shards_named}
use Rattle.weave_entries.specs.StoreReplay.{Commit, Judgement, judged_by, commit_by, commits_of, names_vertex as names, count_naming}
use Rattle.weave_account.specs.LowerLaws.{LawsForAccounts}
use Rattle.weave_account.specs.Seen.{HavePassed, IsMade, PassesAs}
use Rattle.weave_entries.specs.ShardRules.{IsTakable}
use Rattle.weave_data.proofs.Images.{map-has}
use Rattle.weave_data.proofs.ListPlaces.{all-from}
use Rattle.weave_account.proofs.Parts.{counted}

-- Of the parts for some vertices

module _ (shards shard : ℕ) (ops : List Op) (before : List Commit) where
  abbrev parts-of : List Name → List Part
  parts-of ns = map (part_for ops) (filter (is_kept_at shards shard) (map (counted before) ns))

  -- each is for one of them, with the number of commits that named it
  record IsFor (ns : List Name) (part : Part) : Type 0 where
    vertex : Name
    has : Contains ns vertex
    is : part_for ops (counted before vertex) ≡ part

  part-is : (ns : List Name) (part : Part) → Contains (parts-of ns) part → IsFor ns part
  part-is ns part h =
      let image = map-has (part_for ops) (filter (is_kept_at shards shard) (map (counted before) ns)) part h in
      let kept = filter_has (is_kept_at shards shard) (map (counted before) ns) image.of image.has in
      let name = map-has (counted before) ns image.of kept.0 in
      record { vertex = name.of; has = name.has; is = ap (part_for ops) name.is ∙ image.is }

  -- and no two are for one
  apart : (ns : List Name) → AllPairs (λ a b. a ≢ b) ns → AllPairs (λ (one other : Part). one.vertex ≢ other.vertex) (parts-of ns)
  apart [] u = pairs_none (λ (one other : Part). one.vertex ≢ other.vertex)
  apart (n ∷ ns) u = at (is_kept_at shards shard (counted before n)) (apart ns (pairs_tail (λ a b. a ≢ b) n ns u))
    where
      at : (b : Bool) → AllPairs (λ (one other : Part). one.vertex ≢ other.vertex) (parts-of ns)
          → AllPairs (λ (one other : Part). one.vertex ≢ other.vertex) (map (part_for ops) (cond b (counted before n ∷ filter (is_kept_at shards shard) (map (counted before) ns)) (filter (is_kept_at shards shard) (map (counted before) ns))))
      at false more = more
      at true more = pairs_cons (λ (one other : Part). one.vertex ≢ other.vertex) (part_for ops (counted before n)) (parts-of ns)
          (λ part h same. (let of = part-is ns part h in pairs_head (λ a b. a ≢ b) n ns of.vertex u of.has (same ∙ sym (ap (λ (p : Part). p.vertex) of.is)))) more

  few : (ns : List Name) (part : Part) → Contains (parts-of ns) part → part.before ≤ length before
  few ns part h =
      let of = part-is ns part h in
      let is : count_naming of.vertex before ≡ part.before = ap (λ (p : Part). p.before) of.is in
      let as-many = length-filter (names of.vertex) before in
      let most = count_by-le-length (names of.vertex) before in
      omega (arith, is, as-many, most)

-- Of a message that is made of a judgement

module _ (laws : LawsForAccounts) (shards : ℕ) (store : List StoreEntry) (passes : HavePassed store) (shard : ℕ) where
  -- what a message can be taken by
  pub record IsFit (message : Message) : Type 0 where
    pub apart_parts : AllPairs (λ (one other : Part). one.vertex ≢ other.vertex) message.parts
    pub few_commits : (part : Part) → Contains message.parts part → part.before ≤ length (commits_of store)

  of-verdict : (before : List StoreEntry) → length (commits_of before) ≤ length (commits_of store)
      → (log : List GateEntry) (begun : BegunRequest) (ops : List Op) (verdict : Verdict) → PassesAs (commits_of before) ops verdict
      → (a : Addressed) → Contains (messages_of shards log begun ops verdict) a → IsFit a.message
  of-verdict before le log begun ops (Conflict v newer) right a h = absurd (has_none a h)
  of-verdict before le log begun ops (Refused op reason at) right a h = absurd (has_none a h)
  of-verdict before le log begun ops (Committed number answers counts) right a h =
      let image = map-has (message_to shards log begun ops counts) (shards_named shards counts) a h in
      let parts : parts-of shards image.of ops (commits_of before) (named_by ops) ≡ (a.message).parts =
      ap (parts_for shards image.of ops) (sym right.counts_are) ∙ ap (λ (k : Addressed). (k.message).parts) image.is in
      record {
        apart_parts = subst (AllPairs (λ (one other : Part). one.vertex ≢ other.vertex)) parts (apart shards image.of ops (commits_of before) (named_by ops) (laws.named_once ops));
        few_commits = λ part k.
            let most = few shards image.of ops (commits_of before) (named_by ops) part (subst (λ ps. Contains ps part) (sym parts) k) in
            omega (arith, most, le);
      }

  -- each message that is made of a judgement is so
  pub made-fit : (message : Message) → IsMade shards store shard message → IsFit message
  made-fit message (inl empty) = record {
    apart_parts = subst (AllPairs (λ (one other : Part). one.vertex ≢ other.vertex)) (sym empty) (pairs_none (λ (one other : Part). one.vertex ≢ other.vertex));
    few_commits = λ part k. absurd (has_none part (subst (λ ps. Contains ps part) empty k));
  }
  made-fit message (inr made) =
      let from = map-has (λ (e : StoreEntry). judged_by e.author e.deed) store made.judged made.is_judged in
      let place = cut_at store from.of from.has in
      let right =
      subst (λ (j : Judgement). PassesAs (commits_of place.before) j.ops j.verdict) from.is (passes place.before from.of place.after place.is) in
      let long =
      ap (λ l. length (commits_of l)) place.is
      ∙ ap length (flat_map-append (λ (e : StoreEntry). commit_by e.deed) place.before (from.of ∷ place.after))
      ∙ length-append (commits_of place.before) (commits_of (from.of ∷ place.after)) in
      subst IsFit made.message_is
      (of-verdict place.before (omega (arith, long)) made.log made.begun (made.judged).ops (made.judged).verdict right made.addressed made.sent)

  -- so a shard takes it, if there are fewer commits than a count can say
  pub made-takable : length (commits_of store) < 2 ^ 64 - 1 → (message : Message) → IsMade shards store shard message
      → IsTakable message
  made-takable few message made =
      let fit = made-fit message made in
      record {
        apart = fit.apart_parts;
        small = All-from_recursion (λ (part : Part). part.before < 2 ^ 64 - 1) message.parts
            (all-from (λ (part : Part). part.before < 2 ^ 64 - 1) message.parts (λ part h. at-most part.before (length (commits_of store)) (2 ^ 64 - 1) (fit.few_commits part h) few));
      }
    where
      at-most : (a b m : ℕ) → a ≤ b → b < m → a < m
      at-most a b m le lt = omega (arith, le, lt)
