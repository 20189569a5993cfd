-- A shard is sent empty messages, and for each commit that names a vertex of it one message, with the vertex's update.
-- It rests on the clauses on channels and the store, and on what a hand can have seen.
-- Used by `accounts_were_seen`, `collections_leave_what_programs_see`, `messages_can_be_taken`, Applying,
-- BegunElsewhere, Heads, Unprocessed and Updates.
use Rattle.std.proofs.Common.{◌≡◌, ℕ, cond, ◌==◌, List, [], ◌∷◌, ◌++◌, Contains, IsTrue, ◌⊎◌, inl, inr, refl, sym, ap, subst, ◌∙◌}
use Rattle.std.specs.List.{filter}
use Rattle.std.proofs.lemmas.Bool.{cases_Bool, eqb-true}
use Rattle.weave_data.proofs.Members.{has_read, has_none, cut_at, filter_has}
use Rattle.weave_data.specs.Names.{same_name, shard_of}
use Rattle.weave_data.specs.declared.name.Name.{Name}
use Rattle.graph_ops.specs.Mentions.{named_by, is_among}
use Rattle.graph_ops.specs.declared.part.Part.{Part}
use Rattle.program_defs.specs.declared.script.Script.{Script}
use Rattle.weave_entries.specs.declared.gate_log.GateEntry.{GateEntry}
use Rattle.weave_entries.specs.declared.gate_log.GateDeed.{GateDeed}
use Rattle.weave_entries.specs.declared.gate_log.GateDeed.TheVariants.{BeganTx, BeganProgram, Sent, Nop, Heard, Raised, Finished}
use Rattle.weave_entries.specs.declared.message.Message.{Message}
use Rattle.weave_entries.specs.declared.message.Addressed.{Addressed}
use Rattle.weave_entries.specs.declared.store_log.StoreEntry.{StoreEntry}
use Rattle.graph_ops.specs.declared.tx.Got.{Got}
use Rattle.weave_entries.specs.declared.store_log.StoreDeed.{StoreDeed}
use Rattle.weave_entries.specs.declared.verdict.Counted.{Counted}
use Rattle.weave_entries.specs.declared.verdict.Verdict.{Verdict}
use Rattle.weave_entries.specs.declared.verdict.Verdict.TheVariants.{Committed, Conflict, Refused}
use Rattle.weave_entries.specs.GateReplay.{BegunRequest, messages_by, to_shard, addressed_to}
use Rattle.weave_entries.specs.Sending.{ops_on, parts_for, shards_named, message_to, messages_of}
use Rattle.weave_entries.specs.StoreReplay.{Commit, Judgement, judged_by, commit_by, commits_of, names_vertex as names, count_naming}
use Rattle.weave_account.specs.declared.account.Account.{Account}
use Rattle.weave_account.specs.Account.{gate_log}
use Rattle.weave_account.specs.Store.{IsRightVerdict}
use Rattle.weave_account.specs.Channels.{SendsAs, ChannelsClause}
use Rattle.weave_account.specs.LowerLaws.{LawsForAccounts}
use Rattle.weave_account.specs.Seen.{HavePassed, IsMade, PassesAfter, PassesAs}
use Rattle.graph_ops.specs.declared.op.Op.{Op}
use Rattle.vector_stamp.specs.declared.clock.Stamp.{Stamp}
use Rattle.weave_account.proofs.Listed.{commit-here}
use Rattle.weave_data.proofs.Images.{map-has, flat-has}
use Rattle.weave_account.proofs.Parts.{the-part, parts-of-commit}
use Rattle.weave_account.proofs.Basis.{Basis}

-- a message has the update of a commit
pub record IsUpdateOf (store : List StoreEntry) (v : Name) (message : Message) : Type 0 where
  pub before : List StoreEntry
  pub entry : StoreEntry
  pub after : List StoreEntry
  pub is : store ≡ before ++ entry ∷ after
  pub commit : Commit
  pub commit_is : commit_by entry.deed ≡ commit ∷ []
  pub named : IsTrue (names v commit)
  pub stamp_is : message.stamp ≡ commit.stamp
  pub parts_are : filter (λ (part : Part). same_name part.vertex v) message.parts ≡ record { vertex = v; before = count_naming v (commits_of before); ops = ops_on v commit.ops } ∷ []

-- a message has no update of the vertex, or that of a commit
abbrev pub Brings : List StoreEntry → Name → Message → Type 0
Brings store v message = (filter (λ (part : Part). same_name part.vertex v) message.parts ≡ []) ⊎ IsUpdateOf store v message

module _ (laws : LawsForAccounts) (shards : ℕ) (store : List StoreEntry) (passes : HavePassed store)
    (shard : ℕ) (v : Name) (here : shard_of v shards ≡ shard) where
  abbrev on-vertex : Message → List Part
  on-vertex message = filter (λ (part : Part). same_name part.vertex v) message.parts

  -- what a verdict sends to the shard
  sent-by : (log : List GateEntry) (begun : BegunRequest) (judged : Judgement) (before : List StoreEntry) (entry : StoreEntry) (after : List StoreEntry)
      → store ≡ before ++ entry ∷ after → judged_by entry.author entry.deed ≡ judged
      → PassesAs (commits_of before) judged.ops judged.verdict → begun.stamp ≡ judged.stamp
      → (verdict : Verdict) → judged.verdict ≡ verdict → (a : Addressed) → a.shard ≡ shard
      → Contains (messages_of shards log begun judged.ops verdict) a → Brings store v a.message
  sent-by log begun judged before entry after is judged-is rule stamp-is (Conflict w newer) e a at h = absurd (has_none a h)
  sent-by log begun judged before entry after is judged-is rule stamp-is (Refused op reason at') e a at h = absurd (has_none a h)
  sent-by log begun judged before entry after is judged-is rule stamp-is (Committed number answers counts) e a at h =
      let image = map-has (message_to shards log begun judged.ops counts) (shards_named shards counts) a h in
      let commits : PassesAfter (commits_of before) judged.ops answers counts = subst (PassesAs (commits_of before) judged.ops) e rule in
      let to : image.of ≡ shard = ap (λ (k : Addressed). k.shard) image.is ∙ at in
      let parts : on-vertex a.message ≡ cond (is_among (named_by judged.ops) v) (the-part laws shards shard v here judged.ops (commits_of before) ∷ []) [] =
      ap (λ (k : Addressed). on-vertex k.message) (sym image.is)
      ∙ ap (λ s. filter (λ (part : Part). same_name part.vertex v) (parts_for shards s judged.ops counts)) to
      ∙ ap (λ cs. filter (λ (part : Part). same_name part.vertex v) (parts_for shards shard judged.ops cs)) commits.counts_are
      ∙ parts-of-commit laws shards shard v here judged.ops (commits_of before) in
      elim (cases_Bool (is_among (named_by judged.ops) v)) [
        | inr other ↦ inl (parts ∙ ap (λ b. cond b (the-part laws shards shard v here judged.ops (commits_of before) ∷ []) []) other)
        | inl named ↦ inr (record {
          before = before;
          entry = entry;
          after = after;
          is = is;
          commit = record { request = judged.request; stamp = judged.stamp; ops = judged.ops };
          commit_is = commit-at entry.author entry.deed judged judged-is number answers counts e;
          named = named;
          stamp_is = ap (λ (k : Addressed). (k.message).stamp) (sym image.is) ∙ stamp-is;
          parts_are = parts ∙ ap (λ b. cond b (the-part laws shards shard v here judged.ops (commits_of before) ∷ []) []) named;
        })
      ]
    where
      commit-at : (author : ℕ) (deed : StoreDeed) (judged : Judgement) → judged_by author deed ≡ judged
          → (number : ℕ) (answers : List Got) (counts : List Counted) → judged.verdict ≡ Committed number answers counts
          → commit_by deed ≡ record { request = judged.request; stamp = judged.stamp; ops = judged.ops } ∷ []
      commit-at author deed judged is number answers counts e =
          commit-here author deed number answers counts (ap (λ (j : Judgement). j.verdict) is ∙ e)
          ∙ ap (λ (j : Judgement). record { request = j.request; stamp = j.stamp; ops = j.ops } ∷ []) is

  -- a message that is empty, or made of a judgement, brings no update of the vertex, or that of a commit
  pub made-brings : (message : Message) → IsMade shards store shard message → Brings store v message
  made-brings message (inl empty) = inl (ap (λ ps. filter (λ (part : Part). same_name part.vertex v) ps) empty)
  made-brings message (inr made) =
      let from = map-has (λ (e : StoreEntry). judged_by e.author e.deed) store made.judged made.is_judged in
      let place = cut_at store from.of from.has in
      subst (Brings store v) made.message_is
      (sent-by made.log made.begun made.judged place.before from.of place.after place.is from.is
      (subst (λ (j : Judgement). PassesAs (commits_of place.before) j.ops j.verdict) from.is (passes place.before from.of place.after place.is)) made.stamp_is (made.judged).verdict refl made.addressed made.shard_is made.sent)

module _ (script : Script) (account : Account) (shard : ℕ) where
  deed-made : (before : List GateEntry) (author : ℕ) (deed : GateDeed) → SendsAs account script.shards before author deed
      → (a : Addressed) → Contains (to_shard shard (messages_by deed)) a → IsMade script.shards account.store shard a.message
  deed-made before author (Sent r messages) sends a h =
      let parts = filter_has (λ (k : Addressed). k.shard == shard) messages a h in
      inr (record {
        judged = sends.judged;
        is_judged = sends.is_judged;
        log = before;
        begun = record { author = author; request = r; stamp = (sends.judged).stamp };
        stamp_is = refl;
        addressed = a;
        sent = subst (λ ms. Contains ms a) sends.messages_are parts.0;
        shard_is = eqb-true a.shard shard parts.1;
        message_is = refl;
      })
  deed-made before author (Nop to number stamp low) sends a h =
      let parts = filter_has (λ (k : Addressed). k.shard == shard) (messages_by (Nop to number stamp low)) a h in
      elim (has_read _ [] a parts.0) [ inl same ↦ inl (ap (λ (k : Addressed). (k.message).parts) (sym same)) | inr none ↦ absurd (has_none a none) ]
  deed-made before author (BeganTx r stamp) sends a h = absurd (has_none a h)
  deed-made before author (BeganProgram r stamp) sends a h = absurd (has_none a h)
  deed-made before author (Heard clock) sends a h = absurd (has_none a h)
  deed-made before author (Raised epoch) sends a h = absurd (has_none a h)
  deed-made before author (Finished r) sends a h = absurd (has_none a h)

  -- each message on a channel to the shard is empty, or made of a judgement
  pub sent-made : ChannelsClause script account → (home : ℕ) (a : Addressed)
      → Contains (addressed_to shard (gate_log account home)) a → IsMade script.shards account.store shard a.message
  sent-made channels home a h =
      let from = flat-has (λ (e : GateEntry). to_shard shard (messages_by e.deed)) (gate_log account home) a h in
      let place = cut_at (gate_log account home) from.0 from.1.0 in
      deed-made place.before (from.0).author (from.0).deed (channels home place.before from.0 place.after place.is) a from.1.1

-- a right verdict passes, if it is a commit
verdict-passes : (account : Account) (before : List Commit) (stamp : Stamp) (ops : List Op) (verdict : Verdict)
    → IsRightVerdict account before stamp ops verdict → PassesAs before ops verdict
verdict-passes account before stamp ops (Committed number answers counts) right =
    record { graph = right.graph; passes = right.passes; counts_are = right.counts_are }
verdict-passes account before stamp ops (Conflict v newer) right = tt
verdict-passes account before stamp ops (Refused op reason at) right = tt

-- each commit of an account has passed
pub commits-pass : (script : Script) (account : Account) (basis : Basis script account)
    → HavePassed account.store
commits-pass script account basis before entry after is =
    let judged = judged_by entry.author entry.deed in
    verdict-passes account (commits_of before) judged.stamp judged.ops judged.verdict (basis.is.store.judges before entry after is).verdict

-- each message on a channel to the shard brings no update of the vertex, or that of a commit
pub brings : (script : Script) (account : Account) (basis : Basis script account) (shard : ℕ) (v : Name) (here : shard_of v script.shards ≡ shard) (home : ℕ) (a : Addressed)
    → Contains (addressed_to shard (gate_log account home)) a → Brings account.store v a.message
brings script account basis shard v here home a h =
    made-brings basis.laws script.shards account.store (commits-pass script account basis) shard v here a.message
    (sent-made script account shard basis.is.channels home a h)
