-- A part of a message on a channel is of a commit that names its vertex, and counts the commits there before that one.
-- Used by ReadsLeft and SomeHead.
use Rattle.std.proofs.Common.{◌≡◌, ℕ, List, [], ◌∷◌, ◌++◌, Contains, IsTrue, inl, inr, refl, sym, ap, subst, ◌∙◌}
use Rattle.std.specs.List.{filter}
use Rattle.weave_data.proofs.Members.{any_from, cut_at, filter_has, has_none, map_has}
use Rattle.weave_data.specs.declared.name.Name.{Name}
use Rattle.weave_data.specs.Names.{same_name}
use Rattle.graph_ops.specs.Mentions.{is_among, named_by}
use Rattle.graph_ops.specs.declared.part.Part.{Part}
use Rattle.graph_ops.proofs.Vertices.{same_name-refl}
use Rattle.program_defs.specs.declared.script.Script.{Script}
use Rattle.weave_entries.specs.declared.gate_log.GateEntry.{GateEntry}
use Rattle.weave_entries.specs.declared.message.Addressed.{Addressed}
use Rattle.weave_entries.specs.declared.message.Message.{Message}
use Rattle.weave_entries.specs.declared.store_log.StoreEntry.{StoreEntry}
use Rattle.weave_entries.specs.declared.store_log.StoreDeed.{StoreDeed}
use Rattle.weave_entries.specs.declared.store_log.StoreDeed.TheVariants.{Judged}
use Rattle.weave_entries.specs.declared.verdict.Counted.{Counted}
use Rattle.weave_entries.specs.declared.verdict.Verdict.TheVariants.{Committed, Conflict, Refused}
use Rattle.weave_entries.specs.GateReplay.{BegunRequest, addressed_to}
use Rattle.weave_entries.specs.Sending.{is_kept_at, message_to, messages_of, part_for, parts_for, shards_named}
use Rattle.weave_entries.specs.StoreReplay.{Commit, commit_by, commits_of, count_naming, judged_by, names_vertex}
use Rattle.weave_account.specs.declared.account.Account.{Account}
use Rattle.weave_account.specs.Account.{gate_log}
use Rattle.weave_account.specs.Seen.{IsMade, PassesAs}
use Rattle.weave_account.proofs.Basis.{BasisWith}
use Rattle.drive_rules.specs.LowerLaws.{LawsForReadiness}

-- a member is among the names
pub among-from : (names : List Name) (v : Name) → Contains names v → IsTrue (is_among names v)
among-from names v h = any_from (λ other. same_name other v) names v h (same_name-refl v)

-- the part is that of the commit of this deed, after these commits
pub record IsPartBy (deed : StoreDeed) (before : List Commit) (message : Message) (part : Part) : Type 0 where
  pub commit : Commit
  pub commit_is : commit_by deed ≡ commit ∷ []
  pub stamp_is : commit.stamp ≡ message.stamp
  pub named : IsTrue (names_vertex part.vertex commit)
  pub count : part.before ≡ count_naming part.vertex before

-- the parts in the messages of a deed that passed are like this
part-by : (shards author : ℕ) (deed : StoreDeed) (before : List Commit) → PassesAs before (judged_by author deed).ops (judged_by author deed).verdict
    → (log : List GateEntry) (begun : BegunRequest) → begun.stamp ≡ (judged_by author deed).stamp
    → (a : Addressed) → Contains (messages_of shards log begun (judged_by author deed).ops (judged_by author deed).verdict) a
    → (part : Part) → Contains a.message.parts part → IsPartBy deed before a.message part
part-by shards author (Judged r stamp ops asked (Conflict v newer)) before passes log begun stamp-is a h part k = absurd (has_none a h)
part-by shards author (Judged r stamp ops asked (Refused op reason at)) before passes log begun stamp-is a h part k = absurd (has_none a h)
part-by shards author (Judged r stamp ops asked (Committed number answers counts)) before passes log begun stamp-is a h part k =
    let image = map_has (message_to shards log begun ops counts) (shards_named shards counts) a h in
    let there : Contains (parts_for shards image.0 ops counts) part = subst (λ (m : Addressed). Contains m.message.parts part) (sym image.2) k in
    let from = map_has (part_for ops) (filter (is_kept_at shards image.0) counts) part there in
    let counted = (filter_has (is_kept_at shards image.0) counts from.0 from.1).0 in
    let name = map_has {B = Counted} (λ (w : Name). record { vertex = w; before = count_naming w before }) (named_by ops) from.0 (subst (λ cs. Contains cs from.0) passes.counts_are counted) in
    let is : part ≡ part_for ops (record { vertex = name.0; before = count_naming name.0 before }) = sym from.2 ∙ ap (part_for ops) (sym name.2) in
    record {
      commit = record { request = r; stamp = stamp; ops = ops };
      commit_is = refl;
      stamp_is = sym stamp-is ∙ ap (λ (m : Addressed). m.message.stamp) image.2;
      named = subst (λ (w : Name). IsTrue (is_among (named_by ops) w)) (sym (ap (λ (p : Part). p.vertex) is)) (among-from (named_by ops) name.0 name.1);
      count = ap (λ (p : Part). p.before) is ∙ ap (λ (w : Name). count_naming w before) (sym (ap (λ (p : Part). p.vertex) is));
    }

-- the part is that of a commit of the store
pub record IsPartOf (account : Account) (message : Message) (part : Part) : Type 0 where
  pub before : List StoreEntry
  pub entry : StoreEntry
  pub after : List StoreEntry
  pub is : account.store ≡ before ++ entry ∷ after
  pub by_commit : IsPartBy entry.deed (commits_of before) message part

-- so it is in each message on a channel
pub part-of : (script : Script) (account : Account) (basis : BasisWith LawsForReadiness script account) (shard home : ℕ) (a : Addressed)
    → Contains (addressed_to shard (gate_log account home)) a → (part : Part) → Contains a.message.parts part → IsPartOf account a.message part
part-of script account basis shard home a h part k = by-made (basis.laws.accounts.made script account basis.limits basis.is shard home a h)
  where
    by-made : IsMade script.shards account.store shard a.message → IsPartOf account a.message part
    by-made (inl empty) = absurd (has_none part (subst (λ ps. Contains ps part) empty k))
    by-made (inr made) =
        let from = map_has (λ (e : StoreEntry). judged_by e.author e.deed) account.store made.judged made.is_judged in
        let place = cut_at account.store from.0 from.1 in
        let passes = (basis.laws.accounts.seen script account basis.limits basis.is shard).passes place.before from.0 place.after place.is in
        let stamp-is : made.begun.stamp ≡ (judged_by from.0.author from.0.deed).stamp = subst (λ judged. made.begun.stamp ≡ judged.stamp) (sym from.2) made.stamp_is in
        let sent = subst (λ judged. Contains (messages_of script.shards made.log made.begun judged.ops judged.verdict) made.addressed) (sym from.2) made.sent in
        let here : Contains made.addressed.message.parts part = subst (λ (m : Message). Contains m.parts part) (sym made.message_is) k in
        record {
          before = place.before;
          entry = from.0;
          after = place.after;
          is = place.is;
          by_commit = subst (λ (m : Message). IsPartBy from.0.deed (commits_of place.before) m part) made.message_is
              (part-by script.shards from.0.author from.0.deed (commits_of place.before) passes made.log made.begun stamp-is made.addressed sent part here);
        }
