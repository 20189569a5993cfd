-- The updates applied to a vertex are the first commits that name it, in the order of their numbers: wherever each
-- message that arrived brings no update, or that of a commit.
-- Used by Collecting, Heads, Unprocessed, Updates and WrongLogs.
use Rattle.std.proofs.Common.{◌≡◌, ℕ, suc, ◌+◌, ◌<◌, ◌≤◌, Bool, true, false, cond, nat_eq, ◌==◌, ◌&&◌, not, List, [], ◌∷◌, ◌++◌, map, length, take, Contains, IsTrue, Option, Some, None, ◌⊎◌, inl, inr, refl, sym, ap, subst, ◌∙◌, arith}
use Rattle.std.specs.Prelude.{count_by, ⊤}
use Rattle.std.specs.List.{filter, filter_map, find, flat_map, cons_option}
use Rattle.std.specs.Option.{option_map, option_or}
use Rattle.std.proofs.lemmas.Bool.{cases_eq, eq-eqb, eqb-true, ne_eqb, and_parts}
use Rattle.std.proofs.lemmas.List.{append-nil, append_assoc, map-append, length-append}
use Rattle.std.proofs.lemmas.List.Concat.{flat_map-append}
use Rattle.std.proofs.lemmas.List.Folds.{find-append}
use Rattle.std.proofs.lemmas.List.Sums.{sum_by-append}
use Rattle.std.proofs.lemmas.List.Elements.{filter-append, filter_map-append, Contains-append_cases, Contains-append_left, Contains-append_right}
use Rattle.weave_data.proofs.Members.{has_read, has_head, has_tail, has_none, filter_has, find_has, find_lacks, only, cut_at}
use Rattle.weave_data.specs.Names.{same_name, one_name}
use Rattle.weave_data.specs.declared.name.Name.{Name}
use Rattle.graph_ops.specs.declared.part.Part.{Part}
use Rattle.weave_entries.specs.declared.message.Message.{Message}
use Rattle.weave_entries.specs.declared.shard_log.ShardEntry.{ShardEntry}
use Rattle.weave_entries.specs.declared.shard_log.ShardDeed.{ShardDeed}
use Rattle.weave_entries.specs.declared.shard_log.ShardDeed.TheVariants.{Arrived, Applied, Visited, Collected}
use Rattle.weave_entries.specs.declared.store_log.StoreEntry.{StoreEntry}
use Rattle.weave_entries.specs.Logs.{AtEachEntry}
use Rattle.weave_entries.specs.Sending.{ops_on}
use Rattle.weave_entries.specs.ShardReplay.{Arrival, Update, arrival_by, arrivals_of, arrived_at, processed_by, processed_of, updates_in, updates_of, waits_at}
use Rattle.weave_entries.specs.StoreReplay.{commit_by, commits_of, names_vertex as names, commits_naming, count_naming}
use Rattle.weave_data.proofs.Ends.{by_last}
use Rattle.weave_data.proofs.Entries.{each_before, each_last}
use Rattle.weave_data.proofs.Images.{flat-has}
use Rattle.weave_account.proofs.Sent.{IsUpdateOf, Brings}
use Rattle.weave_account.proofs.Ready.{not-not}
use Rattle.weave_account.specs.Shards.{update_of, Applies}

-- Arrivals and processed messages, as lists

-- the message that arrived with this number
abbrev pub arrived : List Arrival → ℕ → ℕ → Option Message
arrived arrivals home number =
    option_map (λ (a : Arrival). a.message) (find (λ (a : Arrival). (a.gate == home) && (a.number == number)) arrivals)

-- the messages that were processed
abbrev pub applied : List Arrival → List (ℕ × ℕ) → List Message
applied arrivals numbers = filter_map (λ (of : ℕ × ℕ). arrived arrivals of.0 of.1) numbers

-- the updates that they bring
abbrev pub updates : Name → List Arrival → List (ℕ × ℕ) → List Update
updates v arrivals numbers = flat_map (updates_in v) (applied arrivals numbers)

-- how many of a gatekeeper's were processed
abbrev pub count_from : ℕ → List (ℕ × ℕ) → ℕ
count_from home numbers = count_by (λ (of : ℕ × ℕ). of.0 == home) numbers

some-map : {A B : Type 0} (f : A → B) (o : Option A) (y : B) → option_map f o ≡ Some y → (x : A) × (o ≡ Some x)
some-map f None y e = cc
some-map f (Some x) y e = (x, refl)

arrived-more : (arrivals : List Arrival) (a : Arrival) (home number : ℕ) (m : Message) → arrived arrivals home number ≡ Some m
    → arrived (arrivals ++ a ∷ []) home number ≡ Some m
arrived-more arrivals a home number m e =
    let there = some-map (λ (a : Arrival). a.message) (find (λ (a : Arrival). (a.gate == home) && (a.number == number)) arrivals) m e in
    ap (option_map (λ (a : Arrival). a.message))
    (find-append (λ (a : Arrival). (a.gate == home) && (a.number == number)) arrivals (a ∷ []) ∙ ap (λ o. option_or o (find (λ (a : Arrival). (a.gate == home) && (a.number == number)) (a ∷ []))) there.1)
    ∙ sym (ap (option_map (λ (a : Arrival). a.message)) there.1) ∙ e

-- what has arrived is what had, or the new one
arrived-cases : (arrivals : List Arrival) (a : Arrival) (home number : ℕ) (m : Message)
    → arrived (arrivals ++ a ∷ []) home number ≡ Some m
    → (arrived arrivals home number ≡ Some m) ⊎ ((a.gate ≡ home) × (a.number ≡ number) × (a.message ≡ m))
arrived-cases arrivals a home number m e =
    at (find (λ (a : Arrival). (a.gate == home) && (a.number == number)) arrivals) ((a.gate == home) && (a.number == number)) refl
    (sym (ap (option_map (λ (a : Arrival). a.message)) (find-append (λ (a : Arrival). (a.gate == home) && (a.number == number)) arrivals (a ∷ []))) ∙ e)
  where
    at : (o : Option Arrival) (b : Bool) → (a.gate == home) && (a.number == number) ≡ b
        → option_map (λ (a : Arrival). a.message) (option_or o (cond b (Some a) None)) ≡ Some m
        → (option_map (λ (a : Arrival). a.message) o ≡ Some m) ⊎ ((a.gate ≡ home) × (a.number ≡ number) × (a.message ≡ m))
    at (Some x) b is e = inl e
    at None false is e = cc
    at None true is e =
        let parts = and_parts (a.gate == home) (a.number == number) is in inr (eqb-true a.gate home parts.0, eqb-true a.number number parts.1, cc)

-- equal lists of one have equal elements
pub same-head : {A : Type 0} (x y : A) → x ∷ [] ≡ y ∷ [] → x ≡ y
same-head x y e = cc

-- Along the log

-- what arrives was sent, and what is applied is applied in its turn
abbrev pub Takes : (ℕ → ℕ → Message → Type 0) → List ShardEntry → ShardDeed → Type 0
Takes WasSent before (Arrived home number message) = WasSent home number message
Takes WasSent before (Applied home number) = Applies before home number
Takes WasSent before (Visited r stamp v updates settled) = ⊤
Takes WasSent before (Collected bound) = ⊤

module _ (store : List StoreEntry) (v : Name) (WasSent : ℕ → ℕ → Message → Type 0) (brings-of : (home number : ℕ) (m : Message) → WasSent home number m → Brings store v m) where
  -- what the lists show
  pub record Shows (arrivals : List Arrival) (numbers : List (ℕ × ℕ)) : Type 0 where
    pub there : (of : ℕ × ℕ) → Contains numbers of → (m : Message) × (arrived arrivals of.0 of.1 ≡ Some m)
    pub sent : (home number : ℕ) (m : Message) → arrived arrivals home number ≡ Some m → WasSent home number m
    pub are : updates v arrivals numbers ≡ map (update_of v) (take (length (updates v arrivals numbers)) (commits_naming v (commits_of store)))
    pub counted : (m : Message) → Contains (applied arrivals numbers) m → (update : IsUpdateOf store v m)
        → count_naming v (commits_of update.before) < length (updates v arrivals numbers)
    pub all : (home number : ℕ) → 1 ≤ number → number ≤ count_from home numbers → Contains numbers (home, number)

  -- a message arrives
  applied-same : (arrivals : List Arrival) (a : Arrival) (numbers : List (ℕ × ℕ))
      → ((of : ℕ × ℕ) → Contains numbers of → (m : Message) × (arrived arrivals of.0 of.1 ≡ Some m))
      → applied (arrivals ++ a ∷ []) numbers ≡ applied arrivals numbers
  applied-same arrivals a [] there = refl
  applied-same arrivals a (of ∷ numbers) there =
      let m = there of (has_head of numbers) in
      ap (λ o. cons_option o (applied (arrivals ++ a ∷ []) numbers)) (arrived-more arrivals a of.0 of.1 m.0 m.1 ∙ sym m.1)
      ∙ ap (λ ms. cons_option (arrived arrivals of.0 of.1) ms) (applied-same arrivals a numbers (λ n h. there n (has_tail of numbers n h)))

  arrives : (arrivals : List Arrival) (numbers : List (ℕ × ℕ)) (a : Arrival) → WasSent a.gate a.number a.message
      → Shows arrivals numbers → Shows (arrivals ++ a ∷ []) numbers
  arrives arrivals numbers a sent so-far =
      let same = applied-same arrivals a numbers so-far.there in
      let same-updates : updates v (arrivals ++ a ∷ []) numbers ≡ updates v arrivals numbers = ap (flat_map (updates_in v)) same in
      record {
        there = λ of h. (let m = so-far.there of h in (m.0, arrived-more arrivals a of.0 of.1 m.0 m.1));
        sent = λ home number m e. elim (arrived-cases arrivals a home number m e) [
          | inl before ↦ so-far.sent home number m before
          | inr new ↦ subst (λ g. WasSent g number m) new.0 (subst (λ n. WasSent a.gate n m) new.1 (subst (λ k. WasSent a.gate a.number k) new.2 sent))
        ];
        are = subst (λ us. us ≡ map (update_of v) (take (length us) (commits_naming v (commits_of store)))) (sym same-updates) so-far.are;
        counted = λ m h update. subst (λ us. count_naming v (commits_of update.before) < length us) (sym same-updates) (so-far.counted m (subst (λ ms. Contains ms m) same h) update);
        all = so-far.all;
      }

  -- a head is applied
  take-next : {A : Type 0} (first : List A) (x : A) (rest : List A)
      → take (suc (length first)) (first ++ x ∷ rest) ≡ take (length first) (first ++ x ∷ rest) ++ x ∷ []
  take-next [] x rest = refl
  take-next (y ∷ first) x rest = ap (λ ys. y ∷ ys) (take-next first x rest)

  -- the commits at a vertex, cut at that of an update
  pub naming-parts : (m : Message) (update : IsUpdateOf store v m)
      → commits_naming v (commits_of store) ≡ commits_naming v (commits_of update.before) ++ update.commit ∷ commits_naming v (commits_of update.after)
  naming-parts m update =
      let all : commits_of store ≡ commits_of update.before ++ (update.commit ∷ commits_of update.after) =
      ap commits_of update.is ∙ flat_map-append (λ (e : StoreEntry). commit_by e.deed) update.before (update.entry ∷ update.after)
      ∙ ap (λ cs. commits_of update.before ++ (cs ++ commits_of update.after)) update.commit_is in
      ap (commits_naming v) all
      ∙ filter-append (names v) (commits_of update.before) (update.commit ∷ commits_of update.after)
      ∙ ap (λ b. commits_naming v (commits_of update.before) ++ cond b (update.commit ∷ commits_naming v (commits_of update.after)) (commits_naming v (commits_of update.after))) update.named

  applies : (arrivals : List Arrival) (numbers : List (ℕ × ℕ)) (home number : ℕ) (m : Message)
      → number ≡ count_from home numbers + 1 → arrived arrivals home number ≡ Some m
      → ((part : Part) → Contains m.parts part → IsTrue (same_name part.vertex v) → part.before ≡ length (updates v arrivals numbers))
      → Shows arrivals numbers → Shows arrivals (numbers ++ (home, number) ∷ [])
  applies arrivals numbers home number m number-is head in-turn so-far =
      at (brings-of home number m (so-far.sent home number m head))
    where
      next : applied arrivals (numbers ++ (home, number) ∷ []) ≡ applied arrivals numbers ++ m ∷ []
      next =
          filter_map-append (λ (of : ℕ × ℕ). arrived arrivals of.0 of.1) numbers ((home, number) ∷ [])
          ∙ ap (λ o. applied arrivals numbers ++ cons_option o []) head

      there : (of : ℕ × ℕ) → Contains (numbers ++ (home, number) ∷ []) of → (k : Message) × (arrived arrivals of.0 of.1 ≡ Some k)
      there of h = elim (Contains-append_cases numbers ((home, number) ∷ []) of h) [
        | inl before ↦ so-far.there of before
        | inr new ↦ elim (has_read (home, number) [] of new) [ inl same ↦ (m, ap (λ (k : ℕ × ℕ). arrived arrivals k.0 k.1) (sym same) ∙ head) | inr none ↦ absurd (has_none of none) ]
      ]

      all : (g n : ℕ) → 1 ≤ n → n ≤ count_from g (numbers ++ (home, number) ∷ [])
          → Contains (numbers ++ (home, number) ∷ []) (g, n)
      all g n low high =
          let count : count_from g (numbers ++ (home, number) ∷ []) ≡ count_from g numbers + (0 + cond {A = ℕ} (nat_eq home g) 1 0) =
          sum_by-append (λ (of : ℕ × ℕ). cond (of.0 == g) 1 0) numbers ((home, number) ∷ []) in
          elim (cases_eq home g) [
            | inl same ↦
                let one : cond {A = ℕ} (nat_eq home g) 1 0 ≡ 1 = ap (λ b. cond {A = ℕ} b 1 0) (eq-eqb home g same) in
                let number-g : number ≡ count_from g numbers + 1 = subst (λ k. number ≡ count_from k numbers + 1) same number-is in
                elim (cases_eq n number) [
                  | inl is ↦ Contains-append_right numbers ((home, number) ∷ []) (g, n) (subst (λ (k : ℕ × ℕ). Contains ((home, number) ∷ []) k) (λ i. (same i, sym is i)) (has_head (home, number) []))
                  | inr other ↦ Contains-append_left numbers ((home, number) ∷ []) (g, n) (so-far.all g n low (omega (arith, count, one, number-g, high, other)))
                ]
            | inr differ ↦
                let none : cond {A = ℕ} (nat_eq home g) 1 0 ≡ 0 = ap (λ b. cond {A = ℕ} b 1 0) (ne_eqb home g differ) in
                Contains-append_left numbers ((home, number) ∷ []) (g, n) (so-far.all g n low (omega (arith, count, none, high)))
          ]

      at : Brings store v m → Shows arrivals (numbers ++ (home, number) ∷ [])
      at (inl none) =
          let same : updates v arrivals (numbers ++ (home, number) ∷ []) ≡ updates v arrivals numbers =
          ap (flat_map (updates_in v)) next
          ∙ flat_map-append (updates_in v) (applied arrivals numbers) (m ∷ [])
          ∙ ap (λ parts. updates v arrivals numbers ++ (map (λ (part : Part). record { stamp = m.stamp; ops = part.ops }) parts ++ [])) none
          ∙ append-nil (updates v arrivals numbers) in
          record {
            there = there;
            sent = so-far.sent;
            are = subst (λ us. us ≡ map (update_of v) (take (length us) (commits_naming v (commits_of store)))) (sym same) so-far.are;
            counted = λ k h update. subst (λ us. count_naming v (commits_of update.before) < length us) (sym same)
                (elim (Contains-append_cases (applied arrivals numbers) (m ∷ []) k (subst (λ ms. Contains ms k) next h)) [
                  | inl before ↦ so-far.counted k before update
                  | inr new ↦ elim (has_read m [] k new) [
                    | inl is ↦ (let clash : record { vertex = v; before = count_naming v (commits_of update.before); ops = ops_on v (update.commit).ops } ∷ [] ≡ [] = sym update.parts_are ∙ ap (λ (k : Message). filter (λ (part : Part). same_name part.vertex v) k.parts) (sym is) ∙ none in cc)
                    | inr nothing ↦ absurd (has_none k nothing)
                  ]
                ]);
            all = all;
          }
      at (inr update) =
          let us = updates v arrivals numbers in
          let first = commits_naming v (commits_of update.before) in
          let later = commits_naming v (commits_of update.after) in
          let the : Part = record { vertex = v; before = count_naming v (commits_of update.before); ops = ops_on v (update.commit).ops } in
          let in-filter : Contains (filter (λ (part : Part). same_name part.vertex v) m.parts) the =
          subst (λ ps. Contains ps the) (sym update.parts_are) (has_head the []) in
          let part-in = filter_has (λ (part : Part). same_name part.vertex v) m.parts the in-filter in
          let turn : count_naming v (commits_of update.before) ≡ length us = in-turn the part-in.0 part-in.1 in
          let new : updates v arrivals (numbers ++ (home, number) ∷ []) ≡ us ++ update_of v update.commit ∷ [] =
          ap (flat_map (updates_in v)) next
          ∙ flat_map-append (updates_in v) (applied arrivals numbers) (m ∷ [])
          ∙ ap (λ parts. us ++ (map (λ (part : Part). record { stamp = m.stamp; ops = part.ops }) parts ++ [])) update.parts_are
          ∙ ap (λ s. us ++ record { stamp = s; ops = ops_on v (update.commit).ops } ∷ []) update.stamp_is in
          let longer : length (us ++ update_of v update.commit ∷ []) ≡ suc (length us) =
          length-append us (update_of v update.commit ∷ []) ∙ omega arith in
          let taken : take (suc (length us)) (commits_naming v (commits_of store)) ≡ take (length us) (commits_naming v (commits_of store)) ++ update.commit ∷ [] =
          subst (λ n. take (suc n) (commits_naming v (commits_of store)) ≡ take n (commits_naming v (commits_of store)) ++ update.commit ∷ []) turn
          (subst (λ cs. take (suc (length first)) cs ≡ take (length first) cs ++ update.commit ∷ []) (sym (naming-parts m update)) (take-next first update.commit later)) in
          let are : us ++ update_of v update.commit ∷ [] ≡ map (update_of v) (take (length (us ++ update_of v update.commit ∷ [])) (commits_naming v (commits_of store))) =
          ap (λ ws. ws ++ update_of v update.commit ∷ []) so-far.are
          ∙ sym (map-append (update_of v) (take (length us) (commits_naming v (commits_of store))) (update.commit ∷ []))
          ∙ ap (map (update_of v)) (sym taken)
          ∙ ap (λ n. map (update_of v) (take n (commits_naming v (commits_of store)))) (sym longer) in
          record {
            there = there;
            sent = so-far.sent;
            are = subst (λ ws. ws ≡ map (update_of v) (take (length ws) (commits_naming v (commits_of store)))) (sym new) are;
            counted = λ k h other. subst (λ ws. count_naming v (commits_of other.before) < length ws) (sym new)
                (elim (Contains-append_cases (applied arrivals numbers) (m ∷ []) k (subst (λ ms. Contains ms k) next h)) [
                  | inl before ↦ (let lt = so-far.counted k before other in omega (arith, lt, longer))
                  | inr here' ↦ elim (has_read m [] k here') [
                    | inl is ↦
                        let same : record { vertex = v; before = count_naming v (commits_of other.before); ops = ops_on v (other.commit).ops } ∷ [] ≡ the ∷ [] =
                        sym other.parts_are ∙ ap (λ (k : Message). filter (λ (part : Part). same_name part.vertex v) k.parts) (sym is)
                        ∙ update.parts_are in
                        let count : count_naming v (commits_of other.before) ≡ count_naming v (commits_of update.before) =
                        ap (λ (part : Part). part.before) (same-head _ _ same) in
                        omega (arith, count, turn, longer)
                    | inr nothing ↦ absurd (has_none k nothing)
                  ]
                ]);
            all = all;
          }

  -- nothing arrives and nothing is applied
  rests : (arrivals : List Arrival) (numbers : List (ℕ × ℕ)) → Shows arrivals numbers → Shows (arrivals ++ []) (numbers ++ [])
  rests arrivals numbers so-far =
      subst (λ all. Shows all (numbers ++ [])) (sym (append-nil arrivals)) (subst (Shows arrivals) (sym (append-nil numbers)) so-far)

  -- if nothing waits, each part's count is the number of updates applied
  pub waits-none : (m : Message) (log : List ShardEntry) → waits_at m log ≡ None → (part : Part) → Contains m.parts part
      → IsTrue (same_name part.vertex v) → part.before ≡ length (updates_of v log)
  waits-none m log e part h same =
      at (find (λ (part : Part). not (part.before == length (updates_of part.vertex log))) m.parts) refl
    where
      at : (o : Option Part) → find (λ (part : Part). not (part.before == length (updates_of part.vertex log))) m.parts ≡ o
          → part.before ≡ length (updates_of v log)
      at (Some p) is = let clash : Some p.vertex ≡ None = sym (ap (option_map (λ (part : Part). part.vertex)) is) ∙ e in cc
      at None is =
          let equal : IsTrue (part.before == length (updates_of part.vertex log)) =
          not-not (part.before == length (updates_of part.vertex log))
          (find_lacks (λ (part : Part). not (part.before == length (updates_of part.vertex log))) m.parts part is h) in
          eqb-true part.before _ equal ∙ ap (λ k. length (updates_of k log)) (one_name part.vertex v same)

  deed-shows : (before : List ShardEntry) (deed : ShardDeed) → Takes WasSent before deed
      → Shows (arrivals_of before) (processed_of before)
      → Shows (arrivals_of before ++ arrival_by deed) (processed_of before ++ processed_by deed)
  deed-shows before (Arrived home number message) fits so-far =
      subst (Shows (arrivals_of before ++ record { gate = home; number = number; message = message } ∷ [])) (sym (append-nil (processed_of before)))
      (arrives (arrivals_of before) (processed_of before) (record { gate = home; number = number; message = message }) fits so-far)
  deed-shows before (Applied home number) fits so-far =
      subst (λ all. Shows all (processed_of before ++ (home, number) ∷ [])) (sym (append-nil (arrivals_of before)))
      (applies (arrivals_of before) (processed_of before) home number fits.message fits.number_is (ap (λ n. arrived_at home n before) fits.number_is ∙ fits.head) (waits-none fits.message before fits.in_turn) so-far)
  deed-shows before (Visited r stamp w n settled) fits so-far = rests (arrivals_of before) (processed_of before) so-far
  deed-shows before (Collected bound) fits so-far = rests (arrivals_of before) (processed_of before) so-far

  abbrev Rule : List ShardEntry → ShardEntry → Type 0
  Rule before entry = Takes WasSent before entry.deed

  -- this holds of each log of the shard
  pub shows : (log : List ShardEntry) → AtEachEntry (λ before (entry : ShardEntry). Takes WasSent before entry.deed) log
      → Shows (arrivals_of log) (processed_of log)
  shows =
      by_last (λ log. AtEachEntry Rule log → Shows (arrivals_of log) (processed_of log))
      (λ each. record { there = λ of h. absurd (has_none of h); sent = λ home number m e. cc; are = refl; counted = λ m h update. absurd (has_none m h); all = λ home number low high. absurd (omega (arith, low, high)) })
      (λ log entry more each.
      subst (λ all. Shows all (processed_of (log ++ entry ∷ []))) (sym (push (λ (e : ShardEntry). arrival_by e.deed) log entry))
      (subst (Shows (arrivals_of log ++ arrival_by entry.deed)) (sym (push (λ (e : ShardEntry). processed_by e.deed) log entry))
      (deed-shows log entry.deed (each_last Rule log entry each) (more (each_before Rule log (entry ∷ []) each)))))
    where
      push : {B : Type 0} (f : ShardEntry → List B) (log : List ShardEntry) (entry : ShardEntry)
          → flat_map f (log ++ entry ∷ []) ≡ flat_map f log ++ f entry
      push f log entry = flat_map-append f log (entry ∷ []) ∙ ap (λ rest. flat_map f log ++ rest) (append-nil (f entry))

  -- Updates are never taken back

  grows-deed : (before : List ShardEntry) (deed : ShardDeed) → Takes WasSent before deed
      → Shows (arrivals_of before) (processed_of before)
      → length (updates v (arrivals_of before) (processed_of before)) ≤ length (updates v (arrivals_of before ++ arrival_by deed) (processed_of before ++ processed_by deed))
  grows-deed before (Arrived home number message) fits so-far =
      let same : updates v (arrivals_of before ++ record { gate = home; number = number; message = message } ∷ []) (processed_of before ++ []) ≡ updates v (arrivals_of before) (processed_of before) =
      ap (updates v (arrivals_of before ++ record { gate = home; number = number; message = message } ∷ []))
      (append-nil (processed_of before))
      ∙ ap (flat_map (updates_in v)) (applied-same (arrivals_of before) (record { gate = home; number = number; message = message }) (processed_of before) so-far.there) in
      let e = ap length same in omega (arith, e)
  grows-deed before (Applied home number) fits so-far =
      let arrivals = arrivals_of before ++ [] in
      let all : updates v arrivals (processed_of before ++ (home, number) ∷ []) ≡ updates v arrivals (processed_of before) ++ updates v arrivals ((home, number) ∷ []) =
      ap (flat_map (updates_in v))
      (filter_map-append (λ (of : ℕ × ℕ). arrived arrivals of.0 of.1) (processed_of before) ((home, number) ∷ []))
      ∙ flat_map-append (updates_in v) (applied arrivals (processed_of before)) (applied arrivals ((home, number) ∷ [])) in
      let long = ap length all ∙ length-append (updates v arrivals (processed_of before)) (updates v arrivals ((home, number) ∷ [])) in
      let same = ap (λ (a : List Arrival). length (updates v a (processed_of before))) (append-nil (arrivals_of before)) in
      omega (arith, long, same)
  grows-deed before (Visited r stamp w n settled) fits so-far =
      let e = ap (λ (a : List Arrival). length (updates v a (processed_of before ++ []))) (append-nil (arrivals_of before)) in let f = ap (λ ps. length (updates v (arrivals_of before) ps)) (append-nil (processed_of before)) in omega (arith, e, f)
  grows-deed before (Collected bound) fits so-far =
      let e = ap (λ (a : List Arrival). length (updates v a (processed_of before ++ []))) (append-nil (arrivals_of before)) in let f = ap (λ ps. length (updates v (arrivals_of before) ps)) (append-nil (processed_of before)) in omega (arith, e, f)

  -- a longer log has at least as many updates
  pub grows : (log rest : List ShardEntry)
      → AtEachEntry (λ before (entry : ShardEntry). Takes WasSent before entry.deed) (log ++ rest)
      → length (updates_of v log) ≤ length (updates_of v (log ++ rest))
  grows log =
      by_last (λ rest. AtEachEntry Rule (log ++ rest) → length (updates_of v log) ≤ length (updates_of v (log ++ rest)))
      (λ each. let e = ap (λ l. length (updates_of v l)) (append-nil log) in omega (arith, e))
      (λ rest entry more each.
      let all : AtEachEntry Rule ((log ++ rest) ++ entry ∷ []) = subst (AtEachEntry Rule) (sym (append_assoc log rest (entry ∷ []))) each in
      let before = each_before Rule (log ++ rest) (entry ∷ []) all in
      let so-far = more before in
      let step = grows-deed (log ++ rest) entry.deed (each_last Rule (log ++ rest) entry all) (shows (log ++ rest) before) in
      let arrivals =
      flat_map-append (λ (e : ShardEntry). arrival_by e.deed) (log ++ rest) (entry ∷ [])
      ∙ ap (λ more. arrivals_of (log ++ rest) ++ more) (append-nil (arrival_by entry.deed)) in
      let numbers =
      flat_map-append (λ (e : ShardEntry). processed_by e.deed) (log ++ rest) (entry ∷ [])
      ∙ ap (λ more. processed_of (log ++ rest) ++ more) (append-nil (processed_by entry.deed)) in
      let whole : length (updates_of v ((log ++ rest) ++ entry ∷ [])) ≡ length (updates v (arrivals_of (log ++ rest) ++ arrival_by entry.deed) (processed_of (log ++ rest) ++ processed_by entry.deed)) =
      ap (λ (a : List Arrival). length (updates v a (processed_of ((log ++ rest) ++ entry ∷ [])))) arrivals
      ∙ ap (λ ps. length (updates v (arrivals_of (log ++ rest) ++ arrival_by entry.deed) ps)) numbers in
      let shape = ap (λ l. length (updates_of v l)) (append_assoc log rest (entry ∷ [])) in
      omega (arith, so-far, step, whole, shape))

  -- With more entries they go on

  applied-longer : (arrivals more : List Arrival) (numbers : List (ℕ × ℕ))
      → ((of : ℕ × ℕ) → Contains numbers of → (m : Message) × (arrived arrivals of.0 of.1 ≡ Some m))
      → applied (arrivals ++ more) numbers ≡ applied arrivals numbers
  applied-longer arrivals more numbers there =
      by_last (λ more. applied (arrivals ++ more) numbers ≡ applied arrivals numbers)
      (ap (λ as'. applied as' numbers) (append-nil arrivals))
      (λ more a so-far.
      ap (λ as'. applied as' numbers) (sym (append_assoc arrivals more (a ∷ [])))
      ∙ applied-same (arrivals ++ more) a numbers (λ of h. (let m = there of h in (m.0, arrived-longer arrivals more of.0 of.1 m.0 m.1)))
      ∙ so-far) more
    where
      arrived-longer : (arrivals more : List Arrival) (home number : ℕ) (m : Message) → arrived arrivals home number ≡ Some m
          → arrived (arrivals ++ more) home number ≡ Some m
      arrived-longer arrivals more home number m e =
          by_last (λ more. arrived (arrivals ++ more) home number ≡ Some m)
          (ap (λ as'. arrived as' home number) (append-nil arrivals) ∙ e)
          (λ more a so-far. ap (λ as'. arrived as' home number) (sym (append_assoc arrivals more (a ∷ []))) ∙ arrived-more (arrivals ++ more) a home number m so-far) more

  -- the updates of a longer log begin with those of the log
  pub go-on : (log more : List ShardEntry) → AtEachEntry (λ before (entry : ShardEntry). Takes WasSent before entry.deed) log
      → (rest : List Update) × (updates_of v (log ++ more) ≡ updates_of v log ++ rest)
  go-on log more each =
      let shown = shows log each in
      let arrivals = flat_map-append (λ (e : ShardEntry). arrival_by e.deed) log more in
      let numbers = flat_map-append (λ (e : ShardEntry). processed_by e.deed) log more in
      let all = arrivals_of log ++ arrivals_of more in (
        updates v all (processed_of more),
        ap (λ as'. updates v as' (processed_of (log ++ more))) arrivals
            ∙ ap (updates v all) numbers
            ∙ ap (flat_map (updates_in v))
            (filter_map-append (λ (of : ℕ × ℕ). arrived all of.0 of.1) (processed_of log) (processed_of more) ∙ ap (λ ms. ms ++ applied all (processed_of more)) (applied-longer (arrivals_of log) (arrivals_of more) (processed_of log) shown.there))
            ∙ flat_map-append (updates_in v) (applied (arrivals_of log) (processed_of log)) (applied all (processed_of more)),
      )

-- What has arrived was sent

module _ (WasSent : ℕ → ℕ → Message → Type 0) where
  deed-sent : (before : List ShardEntry) (deed : ShardDeed) → Takes WasSent before deed → (a : Arrival)
      → Contains (arrival_by deed) a → WasSent a.gate a.number a.message
  deed-sent before (Arrived home n m) fits a h = subst (λ (b : Arrival). WasSent b.gate b.number b.message) (only _ a h) fits
  deed-sent before (Applied home n) fits a h = absurd (has_none a h)
  deed-sent before (Visited r stamp w updates settled) fits a h = absurd (has_none a h)
  deed-sent before (Collected bound) fits a h = absurd (has_none a h)

  -- each message that arrived was sent
  pub arrived-was-sent : (log : List ShardEntry)
      → AtEachEntry (λ before (entry : ShardEntry). Takes WasSent before entry.deed) log → (home n : ℕ) (m : Message)
      → arrived_at home n log ≡ Some m → WasSent home n m
  arrived-was-sent log each home n m e = at (find (λ (a : Arrival). (a.gate == home) && (a.number == n)) (arrivals_of log)) refl e
    where
      at : (o : Option Arrival) → find (λ (a : Arrival). (a.gate == home) && (a.number == n)) (arrivals_of log) ≡ o
          → option_map (λ (a : Arrival). a.message) o ≡ Some m → WasSent home n m
      at None is e = cc
      at (Some a) is e =
          let found = find_has (λ (a : Arrival). (a.gate == home) && (a.number == n)) (arrivals_of log) a is in
          let parts = and_parts (a.gate == home) (a.number == n) found.1 in
          let from = flat-has (λ (e : ShardEntry). arrival_by e.deed) log a found.0 in
          let place = cut_at log from.0 from.1.0 in
          let message : a.message ≡ m = cc in
          subst (λ g. WasSent g n m) (eqb-true a.gate home parts.0)
          (subst (λ k. WasSent a.gate k m) (eqb-true a.number n parts.1)
          (subst (λ k. WasSent a.gate a.number k) message
          (deed-sent place.before (from.0).deed (each place.before from.0 place.after place.is) a from.1.1)))
