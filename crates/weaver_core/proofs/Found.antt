-- The requests of an account's events, by the stamps of all requests.
-- Used by MarksFound, ProgramStamped and Unordered.
use Rattle.std.proofs.Common.{◌≡◌, ◌≢◌, ◌⊎◌, ℕ, zero, suc, ◌+◌, ◌<◌, Bool, true, false, cond, ◌&&◌, ◌==◌, List, [], ◌∷◌, length, get_or, Contains, IsTrue, Option, None, Some, inl, inr, refl, sym, ap, subst, ◌∙◌, arith}
use Rattle.std.specs.Prelude.{◌↔◌, slice_get}
use Rattle.std.specs.List.{find}
use Rattle.std.specs.Option.{option_map}
use Rattle.std.proofs.lemmas.Bool.{and_from, and_parts, both_ways, cases_Bool, cases_eq, eq-eqb, eqb-true, ne_eqb}
use Rattle.std.proofs.lemmas.Option.{get_or_from_slice_get, none-some, same_Some, slice_get_within}
use Rattle.weave_data.proofs.Members.{cut_at, find_has, find_lacks, flat_has, has_head, has_none, has_read, has_tail, map_has}
use Rattle.weave_data.proofs.Ordered.{find_by_key, pairs_cases}
use Rattle.vector_stamp.specs.declared.clock.EventId.{EventId}
use Rattle.vector_stamp.specs.declared.clock.Stamp.{Stamp}
use Rattle.vector_stamp.specs.Order.{id_of, same_stamp}
use Rattle.program_defs.specs.declared.script.Request.{Request}
use Rattle.program_defs.specs.declared.script.Script.{Script}
use Rattle.program_defs.specs.Works.{is_change, is_look}
use Rattle.report_rules.specs.Lookups.{is_some_and}
use Rattle.weave_entries.specs.declared.gate_log.GateEntry.{GateEntry}
use Rattle.weave_entries.specs.declared.gate_log.GateDeed.{GateDeed}
use Rattle.weave_entries.specs.declared.gate_log.GateDeed.TheVariants.{BeganTx, BeganProgram, Sent, Nop, Heard, Raised, Finished}
use Rattle.weave_entries.specs.GateReplay.{BegunRequest, begun_by, begun_in}
use Rattle.weave_entries.specs.StoreReplay.{Judgement, judgement_of, judgements_of}
use Rattle.weave_account.specs.declared.account.Account.{Account}
use Rattle.weave_account.specs.Account.{IsBegunStamp, all_begun, gate_log, stamp_of}
use Rattle.weave_account.specs.Gatekeepers.{BeginsAs}
use Rattle.weave_account.specs.IsAccount.{IsAccount}
use Rattle.weave_account.specs.PairsByPlace.{request_stamped}
use Rattle.weaver_core.specs.Reporting.{AreStampsOf, key_of, request_with_id, request_with, same_key}
use Rattle.weaver_core.proofs.Turns.{place-of}

-- The first of a list

same-key : (a b : EventId) → a ≡ b → same_key (key_of a) (key_of b) ≡ true
same-key a b same =
    and_from _ _ (and_from _ _ (eq-eqb a.home b.home (ap (λ (id : EventId). id.home) same)) (eq-eqb a.epoch b.epoch (ap (λ (id : EventId). id.epoch) same)))
    (eq-eqb a.count b.count (ap (λ (id : EventId). id.count) same))

key-same : (a b : EventId) → same_key (key_of a) (key_of b) ≡ true → a ≡ b
key-same a b same =
    let last = and_parts ((a.home == b.home) && (a.epoch == b.epoch)) (a.count == b.count) same in
    let first = and_parts (a.home == b.home) (a.epoch == b.epoch) last.0 in
    λ i. record { home = eqb-true a.home b.home first.0 i; epoch = eqb-true a.epoch b.epoch first.1 i; count = eqb-true a.count b.count last.1 i }

-- the place of the first stamp of an id
first-with : (id : EventId) (stamps : List (Option Stamp)) (n place : ℕ) (stamp : Stamp) → place < length stamps → get_or stamps place None ≡ Some stamp → id_of stamp ≡ id
    → ((q : ℕ) (other : Stamp) → q < place → get_or stamps q None ≡ Some other → id_of other ≢ id) → request_with_id n id stamps ≡ Some (n + place)
first-with id [] n place stamp within at is apart = absurd (omega (arith, within))
first-with id (None ∷ stamps) n zero stamp within at is apart = absurd (none-some stamp at)
first-with id (Some one ∷ stamps) n zero stamp within at is apart =
    let same : one ≡ stamp = same_Some one stamp at in
    let key : same_key (key_of (id_of one)) (key_of id) ≡ true = same-key (id_of one) id (ap id_of same ∙ is) in
    ap (λ b. cond b (Some n) (request_with_id (suc n) id stamps)) key ∙ ap Some (omega arith)
first-with id (None ∷ stamps) n (suc place) stamp within at is apart =
    first-with id stamps (suc n) place stamp (omega (arith, within)) at is (λ q other less there. apart (suc q) other (omega (arith, less)) there) ∙ ap Some (omega arith)
first-with id (Some one ∷ stamps) n (suc place) stamp within at is apart =
    by (cases_Bool (same_key (key_of (id_of one)) (key_of id)))
    (first-with id stamps (suc n) place stamp (omega (arith, within)) at is (λ q other less there. apart (suc q) other (omega (arith, less)) there))
  where
    by : (same_key (key_of (id_of one)) (key_of id) ≡ true) ⊎ (same_key (key_of (id_of one)) (key_of id) ≡ false) → request_with_id (suc n) id stamps ≡ Some (suc n + place)
        → cond (same_key (key_of (id_of one)) (key_of id)) (Some n) (request_with_id (suc n) id stamps) ≡ Some (n + suc place)
    by (inl same) rest = absurd (apart 0 one (omega arith) refl (key-same (id_of one) id same))
    by (inr differ) rest = ap (λ b. cond b (Some n) (request_with_id (suc n) id stamps)) differ ∙ rest ∙ ap Some (omega arith)

-- tests that agree on all members find the same one
find-same : {A : Type 0} (p q : A → Bool) (xs : List A) → ((x : A) → Contains xs x → p x ≡ q x) → find p xs ≡ find q xs
find-same p q [] same = refl
find-same p q (x ∷ xs) same = λ i. cond (same x (has_head x xs) i) (Some x) (find-same p q xs (λ y h. same y (has_tail x xs y h)) i)

-- Begun requests

is-there : {A : Type 0} (p : A → Bool) (xs : List A) (r : ℕ) → IsTrue (is_some_and p (slice_get xs r)) → r < length xs
is-there {A = A} p xs r passes = by (slice_get xs r) refl passes
  where
    by : (o : Option A) → slice_get xs r ≡ o → IsTrue (is_some_and p o) → r < length xs
    by None at fails = absurd (both_ways false refl fails)
    by (Some x) at passes = slice_get_within xs r x at

-- what a deed began is a request of the script
of-script : (script : Script) (account : Account) (home : ℕ) (before : List GateEntry) (author : ℕ) (deed : GateDeed) (b : BegunRequest) → BeginsAs script account home before deed → Contains (begun_by author deed) b → b.request < length script.requests
of-script script account home before author (BeganTx r stamp) b begins h = elim (has_read _ [] b h) [
  | inl same ↦ subst (λ (one : BegunRequest). one.request < length script.requests) same (is-there (λ (request : Request). (request.gate == home) && is_change request.work) script.requests r begins.own)
  | inr none ↦ absurd (has_none b none)
]
of-script script account home before author (BeganProgram r stamp) b begins h = elim (has_read _ [] b h) [
  | inl same ↦ subst (λ (one : BegunRequest). one.request < length script.requests) same (is-there (λ (request : Request). (request.gate == home) && is_look request.work) script.requests r begins.own)
  | inr none ↦ absurd (has_none b none)
]
of-script script account home before author (Sent r messages) b begins h = absurd (has_none b h)
of-script script account home before author (Nop shard number stamp low) b begins h = absurd (has_none b h)
of-script script account home before author (Heard clock) b begins h = absurd (has_none b h)
of-script script account home before author (Raised epoch) b begins h = absurd (has_none b h)
of-script script account home before author (Finished r) b begins h = absurd (has_none b h)

module _ (script : Script) (account : Account) (is : IsAccount script account) where
  begun-of-script : (b : BegunRequest) → Contains (all_begun account) b → b.request < length script.requests
  begun-of-script b h =
      let from = flat_has begun_in account.gates b h in
      let home = place-of account.gates from.0 from.1 in
      let entry = flat_has (λ (e : GateEntry). begun_by e.author e.deed) from.0 b from.2 in
      let cut = cut_at from.0 entry.0 entry.1 in
      let log-is : gate_log account home.0 ≡ from.0 = get_or_from_slice_get account.gates home.0 from.0 [] home.1 in
      of-script script account home.0 cut.before entry.0.author entry.0.deed b (is.gatekeepers.begins home.0 cut.before entry.0 cut.after (log-is ∙ cut.is)) entry.2

  -- the stamp of a begun request
  pub stamp-of-begun : (b : BegunRequest) → Contains (all_begun account) b → stamp_of account b.request ≡ Some b.stamp
  stamp-of-begun b h = ap (option_map (λ (one : BegunRequest). one.stamp)) (find_by_key (λ (one : BegunRequest). one.request) (all_begun account) b is.gatekeepers.once h)

  one-begun : (a b : BegunRequest) → Contains (all_begun account) a → Contains (all_begun account) b → a.request ≡ b.request → a ≡ b
  one-begun a b ha hb same = elim (pairs_cases (λ (x y : BegunRequest). x.request ≢ y.request) (all_begun account) is.gatekeepers.once a b ha hb) [
    | inl one ↦ one
    | inr (inl differ) ↦ absurd (differ same)
    | inr (inr differ) ↦ absurd (differ (sym same))
  ]

  -- a stamp of the account is that of a begun request
  pub begun-with : (r : ℕ) (stamp : Stamp) → stamp_of account r ≡ Some stamp → (b : BegunRequest) × (Contains (all_begun account) b × ((b.request ≡ r) × (b.stamp ≡ stamp)))
  begun-with r stamp e = by (find (λ (b : BegunRequest). b.request == r) (all_begun account)) refl e
    where
      by : (o : Option BegunRequest) → find (λ (b : BegunRequest). b.request == r) (all_begun account) ≡ o → option_map (λ (b : BegunRequest). b.stamp) o ≡ Some stamp
          → (b : BegunRequest) × (Contains (all_begun account) b × ((b.request ≡ r) × (b.stamp ≡ stamp)))
      by None at none = absurd (none-some stamp none)
      by (Some b) at some =
          let found = find_has (λ (one : BegunRequest). one.request == r) (all_begun account) b at in
          (b, (found.0, (eqb-true b.request r found.1, same_Some b.stamp stamp some)))

  module _ (same-stamps : (a b : Stamp) → IsTrue (same_stamp a b) ↔ (a ≡ b))
      (differ : (a b : BegunRequest) → Contains (all_begun account) a → Contains (all_begun account) b → a.request ≢ b.request → id_of a.stamp ≢ id_of b.stamp) where
    -- the request of an event is that of a begin
    stamped : (event : Stamp) (o : Option BegunRequest) → find (λ (b : BegunRequest). same_stamp b.stamp event) (all_begun account) ≡ o → (r : ℕ) → option_map (λ (b : BegunRequest). b.request) o ≡ Some r
        → (b : BegunRequest) × (Contains (all_begun account) b × ((b.request ≡ r) × (b.stamp ≡ event)))
    stamped event None at r is = absurd (none-some r is)
    stamped event (Some b) at r is =
        let found = find_has (λ (one : BegunRequest). same_stamp one.stamp event) (all_begun account) b at in
        (b, (found.0, (same_Some b.request r is, (same-stamps b.stamp event).0 found.1)))

    -- the judgement with a stamp is that of its request
    pub judged-with : ((judged : Judgement) → Contains (judgements_of account.store) judged → Contains (all_begun account) (record { author = judged.author; request = judged.request; stamp = judged.stamp }))
        → (event : Stamp) (r : ℕ) → request_stamped account event ≡ Some r → find (λ (one : Judgement). same_stamp one.stamp event) (judgements_of account.store) ≡ judgement_of r account.store
    judged-with begun event r is = find-same (λ (one : Judgement). same_stamp one.stamp event) (λ (one : Judgement). one.request == r) (judgements_of account.store) agree
      where
        of : (b : BegunRequest) × (Contains (all_begun account) b × ((b.request ≡ r) × (b.stamp ≡ event)))
        of = stamped event (find (λ (b : BegunRequest). same_stamp b.stamp event) (all_begun account)) refl r is

        agree : (one : Judgement) → Contains (judgements_of account.store) one → same_stamp one.stamp event ≡ (one.request == r)
        agree one h =
            let b : BegunRequest = record { author = one.author; request = one.request; stamp = one.stamp } in
            elim (cases_eq one.request r) [
              | inl same ↦ (same-stamps one.stamp event).1 (ap (λ (k : BegunRequest). k.stamp) (one-begun b of.0 (begun one h) of.1.0 (same ∙ sym of.1.1.0)) ∙ of.1.1.1) ∙ sym (eq-eqb one.request r same)
              | inr other ↦ by-id one h other
            ]
          where
            by-id : (one : Judgement) → Contains (judgements_of account.store) one → one.request ≢ r → same_stamp one.stamp event ≡ (one.request == r)
            by-id one h other = elim (cases_Bool (same_stamp one.stamp event)) [
              | inl same ↦
                  let b : BegunRequest = record { author = one.author; request = one.request; stamp = one.stamp } in
                  absurd (differ b of.0 (begun one h) of.1.0 (λ (e : one.request ≡ of.0.request). other (e ∙ of.1.1.0)) (ap id_of ((same-stamps one.stamp event).0 same ∙ sym of.1.1.1)))
              | inr apart ↦ apart ∙ sym (ne_eqb one.request r other)
            ]

    module _ (stamps : List (Option Stamp)) (stamps-are : AreStampsOf account stamps) (many : length stamps ≡ length script.requests) where
      -- the stamps by request find the request of a begun stamp
      pub found-at : (b : BegunRequest) → Contains (all_begun account) b → request_with stamps b.stamp ≡ Some b.request
      found-at b h =
          let within = begun-of-script b h in
          first-with (id_of b.stamp) stamps 0 b.request b.stamp (omega (arith, within, many)) (stamps-are b.request (omega (arith, within, many)) ∙ stamp-of-begun b h) refl others ∙ ap Some (omega arith)
        where
          others : (q : ℕ) (other : Stamp) → q < b.request → get_or stamps q None ≡ Some other → id_of other ≢ id_of b.stamp
          others q other less at =
              let within = begun-of-script b h in
              let k = begun-with q other (sym (stamps-are q (omega (arith, less, within, many))) ∙ at) in
              let apart : k.0.request ≢ b.request = λ e. absurd (let is = k.1.1.0 in omega (arith, less, e, is)) in
              subst (λ (s : Stamp). id_of s ≢ id_of b.stamp) k.1.1.1 (differ k.0 b k.1.0 h apart)

      -- and it is the request that the account finds for that stamp
      pub request-found : (event : Stamp) → IsBegunStamp account event → request_with stamps event ≡ request_stamped account event
      request-found event h =
          let from = map_has (λ (b : BegunRequest). b.stamp) (all_begun account) event h in
          by from.0 from.1 from.2 (find (λ (b : BegunRequest). same_stamp b.stamp event) (all_begun account)) refl
        where
          by : (b : BegunRequest) → Contains (all_begun account) b → b.stamp ≡ event → (o : Option BegunRequest) → find (λ (one : BegunRequest). same_stamp one.stamp event) (all_begun account) ≡ o
              → request_with stamps event ≡ option_map (λ (one : BegunRequest). one.request) o
          by b there is None at = absurd (find_lacks (λ (one : BegunRequest). same_stamp one.stamp event) (all_begun account) b at there ((same-stamps b.stamp event).1 is))
          by b there is (Some k) at =
              let found = find_has (λ (one : BegunRequest). same_stamp one.stamp event) (all_begun account) k at in
              ap (request_with stamps) (sym ((same-stamps k.stamp event).0 found.1)) ∙ found-at k found.0
