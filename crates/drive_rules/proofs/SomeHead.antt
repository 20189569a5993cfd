-- If no transaction is in flight and all that was sent to a shard has arrived there, one of its heads can be applied,
-- if
-- it has a head at all: one that no other head precedes.
-- Used by `no_shard_is_stuck`.
use Rattle.std.proofs.Common.{◌≡◌, ℕ, zero, suc, ◌+◌, ◌<◌, ◌≤◌, true, not, ◌==◌, List, [], ◌∷◌, ◌++◌, map, take, length, Contains, AllPairs, IsTrue, Option, Some, None, ◌⊎◌, inl, inr, refl, sym, ap, subst, ◌∙◌, arith}
use Rattle.std.specs.List.{filter, find}
use Rattle.std.specs.Option.{option_map}
use Rattle.std.proofs.lemmas.Bool.{both_ways, cases_Bool, cases_order, cases_eq, cases_lt, eq-eqb}
use Rattle.std.proofs.lemmas.List.{append_assoc}
use Rattle.std.proofs.lemmas.Option.{same_Some}
use Rattle.weave_data.proofs.Members.{find_has, flat_has, has_cut, has_filter, has_flat, has_head, has_map, map_has}
use Rattle.weave_data.proofs.Ordered.{pairs_across}
use Rattle.weave_data.specs.declared.name.Name.{Name}
use Rattle.weave_data.specs.Names.{same_name, shard_of}
use Rattle.graph_ops.specs.declared.part.Part.{Part}
use Rattle.graph_ops.proofs.Vertices.{same_name-refl}
use Rattle.vector_stamp.specs.declared.clock.Stamp.{Stamp}
use Rattle.vector_stamp.specs.Order.{stamp_before}
use Rattle.vector_stamp.specs.Precedence.{ByStamps, Through, precedes}
use Rattle.program_defs.specs.declared.script.Script.{Script}
use Rattle.weave_entries.specs.declared.message.Addressed.{Addressed}
use Rattle.weave_entries.specs.declared.message.Message.{Message}
use Rattle.weave_entries.specs.declared.shard_log.ShardEntry.{ShardEntry}
use Rattle.weave_entries.specs.declared.store_log.StoreEntry.{StoreEntry}
use Rattle.weave_entries.specs.GateReplay.{addressed_to}
use Rattle.weave_entries.specs.ShardReplay.{Update, applied_messages, arrived_at, head_of, processed_count, processed_of, updates_in, updates_of, waits_at}
use Rattle.weave_entries.specs.StoreReplay.{Commit, commit_by, commits_naming, commits_of, count_naming, names_vertex}
use Rattle.weave_account.specs.declared.account.Account.{Account}
use Rattle.weave_account.specs.Account.{Precedence, commits_in, gate_log, pairs_in, shard_log, NoneInFlight}
use Rattle.weave_account.specs.OnTheWay.{CommitIsInFlight, IsOnChannel}
use Rattle.weave_account.specs.Shards.{update_of}
use Rattle.drive_rules.specs.Heads.{AllArrived, AllProcessed, CanApply}
use Rattle.drive_rules.specs.LowerLaws.{LawsForReadiness}
use Rattle.drive_rules.proofs.ListFacts.{filter_map-from, take-front, take-has}
use Rattle.drive_rules.proofs.NamedParts.{IsPartOf, part-of}
use Rattle.drive_rules.proofs.NamingCommits.{IsAtPlace, at-place, naming-cut}
use Rattle.drive_rules.proofs.Processed.{AreFirst, are-first}
use Rattle.drive_rules.proofs.SentMessages.{as_sent, arrived-sent, either-sent, home-inside, home-is, lower-sent, number-within}
use Rattle.weave_account.proofs.Ready.{filter_map-has}
use Rattle.weave_account.proofs.Basis.{BasisWith}

not-eq : (n k : ℕ) → IsTrue (not (n == k)) → n ≡ k → ⊥
not-eq n k h e = let t : n == k ≡ true = eq-eqb n k e in let f : not true ≡ true = sym (ap not t) ∙ h in cc

module _ (script : Script) (account : Account) (basis : BasisWith LawsForReadiness script account) (shard : ℕ) where
  abbrev log : List ShardEntry
  log = shard_log account shard

  first : AreFirst (shard_log account shard)
  first = are-first basis.laws script account shard (shard_log account shard) (basis.is.shards.deeds shard)

  -- nothing precedes itself
  strict : (s : Stamp) → Precedence account s s → ⊥
  strict s p = basis.laws.accounts.acyclic script account basis.limits basis.is s ((basis.laws.stamps.tested (pairs_in account) s s).0 p)

  -- the updates of a vertex of the shard are the first commits that name it
  updates-are : (v : Name) → shard_of v script.shards ≡ shard
      → updates_of v (shard_log account shard) ≡ map (update_of v) (take (length (updates_of v (shard_log account shard))) (commits_naming v (commits_in account)))
  updates-are v here =
      subst (λ s. updates_of v (shard_log account s) ≡ map (update_of v) (take (length (updates_of v (shard_log account s))) (commits_naming v (commits_in account)))) here
      (basis.laws.accounts.updates script account basis.limits basis.is v)

  head-sent : (home : ℕ) (m : Message) → head_of home (shard_log account shard) ≡ Some m → Contains (addressed_to shard (gate_log account home)) (as_sent shard (processed_count home (shard_log account shard) + 1) m)
  head-sent home m e = arrived-sent script account basis shard home (processed_count home (shard_log account shard) + 1) m e

  -- A head that no head of the first n gatekeepers precedes

  pub record IsLeast (n : ℕ) : Type 0 where
    pub home : ℕ
    pub message : Message
    pub head : head_of home (shard_log account shard) ≡ Some message
    pub least : (other : ℕ) (m : Message) → other < n → head_of other (shard_log account shard) ≡ Some m → Precedence account m.stamp message.stamp → ⊥

  -- no gatekeeper's head of the first n
  abbrev NoHeads : ℕ → Type 0
  NoHeads n = (home : ℕ) → home < n → head_of home (shard_log account shard) ≡ None

  least-of : (n : ℕ) → NoHeads n ⊎ IsLeast n
  least-of zero = inl (λ home below. absurd (omega (arith, below)))
  least-of (suc n) = at (head_of n (shard_log account shard)) refl (least-of n)
    where
      -- the n-th head is not before itself
      itself : (m : Message) → head_of n (shard_log account shard) ≡ Some m → (other : ℕ) (k : Message) → other ≡ n → head_of other (shard_log account shard) ≡ Some k → Precedence account k.stamp m.stamp → ⊥
      itself m e other k same h p =
          strict m.stamp (subst (λ (x : Message). Precedence account x.stamp m.stamp) (same_Some k m (sym h ∙ ap (λ g. head_of g (shard_log account shard)) same ∙ e)) p)

      at : (o : Option Message) → head_of n (shard_log account shard) ≡ o → NoHeads n ⊎ IsLeast n → NoHeads (suc n) ⊎ IsLeast (suc n)
      at None e (inl none) = inl (λ home below. elim (cases_eq home n) [
        | inl same ↦ subst (λ k. head_of k (shard_log account shard) ≡ None) (sym same) e
        | inr other ↦ none home (omega (arith, below, other))
      ])
      at None e (inr l) = inr (record {
        home = l.home;
        message = l.message;
        head = l.head;
        least = λ other m below h p. elim (cases_eq other n) [
          | inl same ↦ (let clash : Some m ≡ None = sym h ∙ ap (λ k. head_of k (shard_log account shard)) same ∙ e in cc)
          | inr differ ↦ l.least other m (omega (arith, below, differ)) h p
        ];
      })
      at (Some m) e (inl none) = inr (record {
        home = n;
        message = m;
        head = e;
        least = λ other k below h p. elim (cases_eq other n) [
          | inl same ↦ itself m e other k same h p
          | inr differ ↦ (let clash : Some k ≡ None = sym h ∙ none other (omega (arith, below, differ)) in cc)
        ];
      })
      at (Some m) e (inr l) = elim (cases_Bool (precedes (pairs_in account) m.stamp l.message.stamp)) [
        | inl before ↦ inr (record {
          home = n;
          message = m;
          head = e;
          least = λ other k below h p. elim (cases_eq other n) [
            | inl same ↦ itself m e other k same h p
            | inr differ ↦ l.least other k (omega (arith, below, differ)) h (Through k.stamp m.stamp l.message.stamp p ((basis.laws.stamps.tested (pairs_in account) m.stamp l.message.stamp).1 before))
          ];
        })
        | inr after ↦ inr (record {
          home = l.home;
          message = l.message;
          head = l.head;
          least = λ other k below h p. elim (cases_eq other n) [
            | inl same ↦
                let k-is : k ≡ m = same_Some k m (sym h ∙ ap (λ g. head_of g (shard_log account shard)) same ∙ e) in
                both_ways (precedes (pairs_in account) m.stamp l.message.stamp) after ((basis.laws.stamps.tested (pairs_in account) m.stamp l.message.stamp).0 (subst (λ (x : Message). Precedence account x.stamp l.message.stamp) k-is p))
            | inr differ ↦ l.least other k (omega (arith, below, differ)) h p
          ];
        })
      ]

  -- A commit whose update was applied, and one whose update wasn't

  -- an update that was applied came with a processed message of its stamp
  applied-by : (v : Name) (update : Update) → Contains (updates_of v (shard_log account shard)) update
      → (of : ℕ × ℕ) × (m : Message) × Contains (processed_of (shard_log account shard)) of × (arrived_at of.0 of.1 (shard_log account shard) ≡ Some m) × (m.stamp ≡ update.stamp)
  applied-by v update h =
      let from = flat_has (updates_in v) (applied_messages (shard_log account shard)) update h in
      let part = map_has {B = Update} (λ (p : Part). record { stamp = from.0.stamp; ops = p.ops }) (filter (λ (p : Part). same_name p.vertex v) from.0.parts) update from.2 in
      let of = filter_map-from (λ (k : ℕ × ℕ). arrived_at k.0 k.1 (shard_log account shard)) (processed_of (shard_log account shard)) from.0 from.1 in
      (of.0, from.0, of.1, of.2, ap (λ (u : Update). u.stamp) part.2)

  -- the head's own update was not applied
  head-unapplied : (home : ℕ) (m : Message) → head_of home (shard_log account shard) ≡ Some m → (v : Name) (update : Update) → update.stamp ≡ m.stamp → Contains (updates_of v (shard_log account shard)) update → ⊥
  head-unapplied home m head v update stamp-is h =
      let by = applied-by v update h in
      let mine : Addressed = as_sent shard (processed_count home (shard_log account shard) + 1) m in
      let sent = head-sent home m head in
      let its-sent = arrived-sent script account basis shard by.0.0 by.0.1 by.1 by.3 in
      let its-home : by.0.0 ≡ home =
      sym (home-is script account basis shard by.0.0 _ its-sent) ∙ ap (λ (s : Stamp). s.home) (by.4 ∙ stamp-is) ∙ home-is script account basis shard home mine sent in
      let its : Addressed = as_sent shard by.0.1 by.1 in
      let its-here : Contains (addressed_to shard (gate_log account home)) its = subst (λ g. Contains (addressed_to shard (gate_log account g)) its) its-home its-sent in
      let within = (first.within by.0.0 by.0.1 by.2).1 in
      let within-here : by.0.1 ≤ processed_count home (shard_log account shard) = subst (λ g. by.0.1 ≤ processed_count g (shard_log account shard)) its-home within in
      elim (either-sent script account basis shard home its its-here mine sent) [
        | inl one ↦ (let e : by.0.1 ≡ processed_count home (shard_log account shard) + 1 = ap (λ (a : Addressed). a.number) one in omega (arith, e, within-here))
        | inr (inl less) ↦ basis.laws.stamps.irreflexive m.stamp (subst (λ s. IsTrue (stamp_before s m.stamp)) (by.4 ∙ stamp-is) less.1)
        | inr (inr more) ↦ basis.laws.stamps.irreflexive m.stamp (subst (λ s. IsTrue (stamp_before m.stamp s)) (by.4 ∙ stamp-is) more.1)
      ]

  module _ (quiet : NoneInFlight account) (arrived : AllArrived account shard) where
    -- a processed message's part was applied
    part-applied : (home : ℕ) (a : Addressed) → Contains (addressed_to shard (gate_log account home)) a → a.number ≤ processed_count home (shard_log account shard)
        → (part : Part) → Contains a.message.parts part → Contains (updates_of part.vertex (shard_log account shard)) (record { stamp = a.message.stamp; ops = part.ops })
    part-applied home a h done part k =
        let low = (number-within script account basis shard home a h).0 in
        let there = filter_map-has (λ (of : ℕ × ℕ). arrived_at of.0 of.1 (shard_log account shard)) (processed_of (shard_log account shard)) (home, a.number) a.message (first.all home a.number low done) (arrived home a h) in
        has_flat (updates_in part.vertex) (applied_messages (shard_log account shard)) a.message _ there
        (has_map {B = Update} (λ (p : Part). record { stamp = a.message.stamp; ops = p.ops }) (filter (λ (p : Part). same_name p.vertex part.vertex) a.message.parts) part
        (has_filter (λ (p : Part). same_name p.vertex part.vertex) a.message.parts part k (same_name-refl part.vertex)))

    -- Of a head that no head precedes

    module _ (l : IsLeast script.gates) (part : Part) (has-part : Contains l.message.parts part) where
      here : shard_of part.vertex script.shards ≡ shard
      here = basis.laws.accounts.kept_here script account basis.limits basis.is shard l.home _ (head-sent l.home l.message l.head) part has-part

      the : IsPartOf account l.message part
      the = part-of script account basis shard l.home _ (head-sent l.home l.message l.head) part has-part

      -- the commits that name the vertex, cut at the head's
      cut : commits_naming part.vertex (commits_in account) ≡ commits_naming part.vertex (commits_of the.before) ++ the.by_commit.commit ∷ commits_naming part.vertex (commits_of the.after)
      cut = naming-cut part.vertex account.store the.before the.after the.entry the.by_commit.commit the.is the.by_commit.commit_is the.by_commit.named

      ordered : AllPairs (λ (a b : Commit). Precedence account a.stamp b.stamp) (commits_naming part.vertex (commits_in account))
      ordered = basis.laws.accounts.ordered script account basis.limits basis.is part.vertex

      -- not too many updates are applied
      not-more : count_naming part.vertex (commits_of the.before) < length (updates_of part.vertex (shard_log account shard)) → ⊥
      not-more less =
          let commit = the.by_commit.commit in
          let among : Contains (take (length (updates_of part.vertex (shard_log account shard))) (commits_naming part.vertex (commits_in account))) commit =
          subst (λ cs. Contains (take (length (updates_of part.vertex (shard_log account shard))) cs) commit) (sym cut)
          (take-has (length (updates_of part.vertex (shard_log account shard))) (commits_naming part.vertex (commits_of the.before)) commit (commits_naming part.vertex (commits_of the.after)) less) in
          head-unapplied l.home l.message l.head part.vertex (update_of part.vertex commit) the.by_commit.stamp_is
          (subst (λ us. Contains us (update_of part.vertex commit)) (sym (updates-are part.vertex here)) (has_map (update_of part.vertex) _ commit among))

      -- the first commit whose update isn't applied, if it is before the head's
      module _ (less : length (updates_of part.vertex (shard_log account shard)) < count_naming part.vertex (commits_of the.before)) where
        missing : IsAtPlace part.vertex the.before (length (updates_of part.vertex (shard_log account shard)))
        missing = at-place basis.laws part.vertex the.before (length (updates_of part.vertex (shard_log account shard))) less

        in-store : account.store ≡ missing.before ++ missing.entry ∷ (missing.after ++ the.entry ∷ the.after)
        in-store = the.is ∙ ap (λ b. b ++ the.entry ∷ the.after) missing.is ∙ append_assoc missing.before (missing.entry ∷ missing.after) (the.entry ∷ the.after)

        -- it precedes the head
        before-head : Precedence account missing.commit.stamp l.message.stamp
        before-head =
            let among : Contains (commits_naming part.vertex (commits_of the.before)) missing.commit =
            has_filter (names_vertex part.vertex) (commits_of the.before) missing.commit
            (has_flat (λ (e : StoreEntry). commit_by e.deed) the.before missing.entry missing.commit (subst (λ b. Contains b missing.entry) (sym missing.is) (has_cut missing.before missing.entry missing.after)) (subst (λ cs. Contains cs missing.commit) (sym missing.commit_is) (has_head missing.commit []))) missing.named in
            subst (Precedence account missing.commit.stamp) the.by_commit.stamp_is
            (pairs_across (λ (a b : Commit). Precedence account a.stamp b.stamp) (commits_naming part.vertex (commits_of the.before)) (the.by_commit.commit ∷ commits_naming part.vertex (commits_of the.after)) missing.commit the.by_commit.commit
            (subst (AllPairs (λ (a b : Commit). Precedence account a.stamp b.stamp)) cut ordered) among (has_head the.by_commit.commit _))

        -- its update is not among those applied
        not-applied : (update : Update) → update.stamp ≡ missing.commit.stamp → Contains (updates_of part.vertex (shard_log account shard)) update → ⊥
        not-applied update stamp-is h =
            let n = length (updates_of part.vertex (shard_log account shard)) in
            let cut-there = naming-cut part.vertex account.store missing.before (missing.after ++ the.entry ∷ the.after) missing.entry missing.commit in-store missing.commit_is missing.named in
            let front = commits_naming part.vertex (commits_of missing.before) in
            let back = missing.commit ∷ commits_naming part.vertex (commits_of (missing.after ++ the.entry ∷ the.after)) in
            let from = map_has (update_of part.vertex) (take n (commits_naming part.vertex (commits_in account))) update (subst (λ us. Contains us update) (updates-are part.vertex here) h) in
            let earlier : Contains front from.0 = subst (λ cs. Contains cs from.0) (ap (take n) cut-there ∙ take-front n front back missing.place_is) from.1 in
            let stamps : from.0.stamp ≡ missing.commit.stamp = ap (λ (u : Update). u.stamp) from.2 ∙ stamp-is in
            strict missing.commit.stamp
            (subst (λ s. Precedence account s missing.commit.stamp) stamps
            (pairs_across (λ (a b : Commit). Precedence account a.stamp b.stamp) front back from.0 missing.commit (subst (AllPairs (λ (a b : Commit). Precedence account a.stamp b.stamp)) cut-there ordered) earlier (has_head missing.commit _)))

        -- its message is on its channel: it was processed, or is the head there or after it
        on-its-channel : (home : ℕ) → IsOnChannel script account missing.commit part.vertex (count_naming part.vertex (commits_of missing.before)) home → ⊥
        on-its-channel home on =
            let sent : Contains (addressed_to shard (gate_log account home)) on.addressed = subst (λ s. Contains (addressed_to s (gate_log account home)) on.addressed) here on.sent in
            elim (cases_lt (processed_count home (shard_log account shard)) on.addressed.number) [
              | inr done ↦ not-applied _ on.stamp_is (part-applied home on.addressed sent (omega (arith, done)) _ on.part_there)
              | inl past ↦
                  let next = lower-sent script account basis shard home on.addressed sent (processed_count home (shard_log account shard) + 1) (omega arith) (omega (arith, past)) in
                  let head : head_of home (shard_log account shard) ≡ Some next.0.message = ap (λ n. arrived_at home n (shard_log account shard)) (sym next.2) ∙ arrived home next.0 next.1 in
                  let below = home-inside script account basis shard home on.addressed sent in
                  l.least home next.0.message below head
                  (elim (either-sent script account basis shard home next.0 next.1 on.addressed sent) [
                    | inl same ↦ subst (λ s. Precedence account s l.message.stamp) (sym (ap (λ (a : Addressed). a.message.stamp) same ∙ on.stamp_is)) before-head
                    | inr (inl first) ↦ Through next.0.message.stamp missing.commit.stamp l.message.stamp (ByStamps next.0.message.stamp missing.commit.stamp (subst (λ s. IsTrue (stamp_before next.0.message.stamp s)) on.stamp_is first.1)) before-head
                    | inr (inr later) ↦ (let lt = later.0 in let e = next.2 in absurd (omega (arith, lt, e, past)))
                  ])
            ]

        none-missing : ⊥
        none-missing =
            let way = basis.laws.accounts.on_the_way script account basis.limits basis.is missing.before (missing.after ++ the.entry ∷ the.after) missing.entry in-store missing.commit missing.commit_is part.vertex missing.named in
            by-place way.home way.place
          where
            by-place : (home : ℕ) → CommitIsInFlight account missing.commit home ⊎ IsOnChannel script account missing.commit part.vertex (count_naming part.vertex (commits_of missing.before)) home → ⊥
            by-place home (inl flying) = (let clash : Some flying.flight ≡ None = sym flying.flies ∙ quiet home in cc)
            by-place home (inr on) = on-its-channel home on

      part-agrees : part.before ≡ length (updates_of part.vertex (shard_log account shard))
      part-agrees = elim (cases_order (count_naming part.vertex (commits_of the.before)) (length (updates_of part.vertex (shard_log account shard)))) [
        | inl equal ↦ the.by_commit.count ∙ equal
        | inr (inl less) ↦ absurd (not-more less)
        | inr (inr more) ↦ absurd (none-missing more)
      ]

    -- it waits for no vertex
    waits-for-none : (l : IsLeast script.gates) → waits_at l.message (shard_log account shard) ≡ None
    waits-for-none l = at (find (λ (part : Part). not (part.before == length (updates_of part.vertex (shard_log account shard)))) l.message.parts) refl
      where
        at : (o : Option Part) → find (λ (part : Part). not (part.before == length (updates_of part.vertex (shard_log account shard)))) l.message.parts ≡ o → option_map (λ (part : Part). part.vertex) o ≡ None
        at None e = refl
        at (Some part) e =
            let found = find_has (λ (part : Part). not (part.before == length (updates_of part.vertex (shard_log account shard)))) l.message.parts part e in
            absurd (not-eq part.before (length (updates_of part.vertex (shard_log account shard))) found.1 (part-agrees l part found.0))

    -- no shard is stuck: it has no head, or one that can be applied
    pub not-stuck : ((home : ℕ) → head_of home (shard_log account shard) ≡ None) ⊎ ((home : ℕ) × CanApply account shard home)
    not-stuck = elim (least-of script.gates) [
      | inl none ↦ inl (λ home. at home (head_of home (shard_log account shard)) refl none)
      | inr l ↦ inr (l.home, (l.message, l.head, waits-for-none l))
    ]
      where
        at : (home : ℕ) (o : Option Message) → head_of home (shard_log account shard) ≡ o → NoHeads script.gates → o ≡ None
        at home None e none = refl
        at home (Some m) e none = (let clash : Some m ≡ None = sym e ∙ none home (home-inside script account basis shard home _ (head-sent home m e)) in cc)

    -- so if no head can be applied, all that was sent was processed
    pub all-processed : ((home : ℕ) → ¬ CanApply account shard home) → AllProcessed account shard
    all-processed stuck home a h = elim not-stuck [
      | inr some ↦ absurd (stuck some.0 some.1)
      | inl none ↦ elim (cases_lt (processed_count home (shard_log account shard)) a.number) [
        | inr done ↦ omega (arith, done)
        | inl past ↦
            let next = lower-sent script account basis shard home a h (processed_count home (shard_log account shard) + 1) (omega arith) (omega (arith, past)) in
            let head : head_of home (shard_log account shard) ≡ Some next.0.message = ap (λ n. arrived_at home n (shard_log account shard)) (sym next.2) ∙ arrived home next.0 next.1 in
            let clash : Some next.0.message ≡ None = sym head ∙ none home in cc
      ]
    ]
