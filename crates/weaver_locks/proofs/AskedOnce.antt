-- A visit asks for no pair that another visit for which the hand answers asked for.
-- Used by ShardVisited.
use Rattle.std.proofs.Common.{◌≡◌, ◌≢◌, ℕ, zero, suc, ◌<◌, ◌≤◌, Bool, true, false, not, List, [], ◌∷◌, ◌++◌, length, Contains, inl, inr, refl, sym, ap, ◌∙◌, subst, arith}
use Rattle.std.specs.Prelude.{IsTrue}
use Rattle.std.proofs.lemmas.Bool.{cases_lt}
use mathlib.Core.Logic.{dite}
use native.Mathlib.Decide.{ℕ_discrete}
use Rattle.weave_data.proofs.Members.{any_has, has_none, only}
use Rattle.vector_stamp.specs.declared.clock.Stamp.{Stamp}
use Rattle.vector_stamp.specs.Precedence.{GivenPair, precedes}
use Rattle.vector_stamp.specs.Seeing.{last_seen, seen_of}
use Rattle.weave_entries.specs.declared.oracle_log.OracleEntry.{OracleEntry}
use Rattle.weave_entries.specs.declared.shard_log.ShardDeed.{ShardDeed}
use Rattle.weave_entries.specs.declared.shard_log.ShardDeed.TheVariants.{Visited}
use Rattle.weave_entries.specs.declared.shard_log.ShardEntry.{ShardEntry}
use Rattle.weave_entries.specs.OracleReplay.{pairs_of_entry, pairs_of_log, settled_entry}
use Rattle.weave_entries.specs.ShardReplay.{Visit}
use Rattle.weave_entries.specs.ShardRules.{IsKeptFor, is_settled_by, kept_stamps, last_read, update_stamps, updates_read}
use Rattle.weave_account.specs.declared.account.Account.{Account}
use Rattle.weave_account.specs.Account.{pairs_in, shard_log}
use Rattle.weave_account.specs.GoesOn.{IsBeginningOf}
use Rattle.weave_account.specs.Oracle.{seen_last}
use Rattle.seen_logs.specs.Seen.{HasAsked, visit_entry}
use Rattle.weaver_locks.specs.declared.hand.Hand.{Hand}
use Rattle.weaver_locks.specs.declared.shared.Shared.{Shared}
use Rattle.weaver_locks.specs.AskLaws.{AskLaws}
use Rattle.weaver_locks.specs.Hands.{hand_number, IsHand, seen_by}
use Rattle.weaver_locks.specs.HoldLaws.{HoldLaws}
use Rattle.weaver_locks.specs.Locks.{start_of}
use Rattle.weaver_locks.proofs.Logged.{begin_length, inside}
use Rattle.weaver_locks.proofs.StoreNew.{still_there}
use Rattle.weaver_locks.specs.InShard.{AddedAskForNewPairs, AsksForNewPair}

-- the last element of a list, where it is cut
pub last_cut : {A : Type 0} (xs cut after : List A) (x y : A) → xs ++ x ∷ [] ≡ cut ++ y ∷ after → length xs ≤ length cut → (cut ≡ xs) × (x ≡ y)
last_cut [] [] after x y is low = (refl, (let first : x ≡ y = cc in first))
last_cut {A} [] (c ∷ cut) after x y is low =
    let tails : [] ≡ cut ++ y ∷ after = cc in
    let n : length {A = A} [] ≡ length (cut ++ y ∷ after) = ap (λ (l : List A). length l) tails in
    absurd (longer cut n)
  where
    longer : (l : List A) → length {A = A} [] ≡ length (l ++ y ∷ after) → ⊥
    longer [] n = absurd (omega (arith, n))
    longer (z ∷ l) n = absurd (omega (arith, n))
last_cut (z ∷ xs) [] after x y is low = absurd (omega (arith, low))
last_cut (z ∷ xs) (c ∷ cut) after x y is low =
    let first : z ≡ c = cc in
    let tails : xs ++ x ∷ [] ≡ cut ++ y ∷ after = cc in
    let rest = last_cut xs cut after x y tails (omega (arith, low)) in
    (λ i. sym first i ∷ rest.0 i, rest.1)

-- the visit of an entry
abbrev visit_of : ℕ → ShardDeed → Visit → Visit
visit_of author (Visited request stamp vertex updates settled) other =
    record { author = author; request = request; stamp = stamp; vertex = vertex; updates = updates; settled = settled }
visit_of author _ other = other

abbrev visit_in : ShardEntry → Visit → Visit
visit_in entry other = visit_of entry.author entry.deed other

-- the last update, as a list of one
last_single : (n : ℕ) (xs : List Stamp) (u : Stamp) → Contains (last_seen n xs) u → last_seen n xs ≡ u ∷ []
last_single zero xs u has = absurd (has_none u has)
last_single (suc n) [] u has = absurd (has_none u has)
last_single (suc zero) (x ∷ xs) u has = ap (λ (z : Stamp). z ∷ []) (only x u has)
last_single (suc (suc n)) (x ∷ xs) u has = last_single (suc n) xs u has

not_both : (b : Bool) → IsTrue b → IsTrue (not b) → ⊥
not_both true one other = absurd cc
not_both false one other = absurd cc

module _ (hold : HoldLaws) (laws : AskLaws) (shared : Shared) (old : Hand) (hand : IsHand shared old) (shard : ℕ) (before : List ShardEntry)
    (settled : List OracleEntry) (oracle_found : IsBeginningOf (seen_by old).oracle settled)
    (found : IsBeginningOf (shard_log (seen_by old) shard) before)
    (own_there : (cut after : List ShardEntry) (e : ShardEntry) → before ≡ cut ++ e ∷ after → e.author ≡ hand_number old
    → length cut < length (shard_log (seen_by old) shard))
    (v : Visit) (base : IsKeptFor v.stamp v.vertex before)
    (updates_is : v.updates ≡ updates_read (pairs_of_log settled) v.stamp v.vertex before)
    (settled_is : v.settled ≡ is_settled_by (pairs_of_log settled) v.stamp v.vertex before) where
  abbrev was : Account
  was = seen_by old

  abbrev n : ℕ
  n = hand_number old

  abbrev pairs : List GivenPair
  pairs = pairs_of_log settled

  -- the last update that the visit saw is the last one that its program reads of the vertex by these pairs
  pub last_is : seen_last before v ≡ last_read pairs v.stamp v.vertex before
  last_is = ap (λ (k : ℕ). last_seen k (update_stamps v.vertex before)) (updates_is ∙ laws.read pairs v.stamp v.vertex before base)
      ∙ sym (laws.last pairs v.stamp v.vertex before base)

  -- no earlier visit asked for that pair
  not_in_seen : IsTrue v.settled → (other : ℕ) (rest : List ShardEntry) (b : Visit) → HasAsked n (start_of shared) was other rest b
      → v.stamp ≡ b.stamp → seen_last before v ≡ seen_last rest b → ⊥
  not_in_seen marked other rest b of_b same alike =
      let any = any_has (λ (u : Stamp). not (precedes pairs u v.stamp)) (last_read pairs v.stamp v.vertex before) (subst IsTrue settled_is marked) in
      let u = any.0 in
      let single = last_is ∙ last_single (seen_of pairs v.stamp (kept_stamps v.vertex before)) (kept_stamps v.vertex before) u any.1 in
      let precedence = hold.asked_precede (length shared.shards.items) n (start_of shared) was hand.seen hand.legal.oracle_log other rest b of_b u (sym alike ∙ single) in
      let by_seen : IsTrue (precedes (pairs_in was) u b.stamp) = (laws.tested (pairs_in was) u b.stamp).0 precedence in
      let by_pairs = laws.grows (pairs_in was) pairs
      (λ x y. still_there (λ (entry : OracleEntry). pairs_of_entry (settled_entry entry)) was.oracle settled oracle_found (x, y)) u b.stamp by_seen in
      not_both (precedes pairs u v.stamp) (subst (λ (s : Stamp). IsTrue (precedes pairs u s)) (sym same) by_pairs) any.2

  start_low : (k : ℕ) → length (shard_log (start_of shared) k) ≤ length (shard_log was k)
  start_low k = let on = hand.seen.starts.shards k in begin_length (shard_log (start_of shared) k) (shard_log was k) (on.0, sym on.1)

  once : IsTrue v.settled → (next : Account) → shard_log next shard ≡ before ++ visit_entry v ∷ []
      → ((k : ℕ) → k ≢ shard → shard_log next k ≡ shard_log was k) → AsksForNewPair shared old shard next before v
  once marked next here there other rest b of_b same alike = dite (ℕ_discrete other shard)
      (λ is.
      let at : before ++ visit_entry v ∷ [] ≡ rest ++ visit_entry b ∷ of_b.after =
      sym here ∙ (ap (λ (k : ℕ). shard_log next k) (sym is) ∙ of_b.at) in
      elim (cases_lt (length rest) (length before)) [
        | inl low ↦
            let cut = inside before (visit_entry v ∷ []) rest of_b.after (visit_entry b) at low in
            let seen_there : length rest < length (shard_log was shard) = elim of_b.answers [
              | inl mine ↦ own_there rest cut.0 (visit_entry b) cut.1 mine
              | inr first ↦ omega (arith, start_low other, first, ap (λ (k : ℕ). length (shard_log was k)) is)
            ] in
            let within = inside (shard_log was shard) found.0 rest cut.0 (visit_entry b) (sym found.1 ∙ cut.1) seen_there in
            let asked : HasAsked n (start_of shared) was other rest b = record {
              after = within.0;
              at = ap (λ (k : ℕ). shard_log was k) is ∙ within.1;
              answers = of_b.answers;
              marked = of_b.marked;
            } in
            absurd (not_in_seen marked other rest b asked same alike)
        | inr over ↦
            let last = last_cut before rest of_b.after (visit_entry v) (visit_entry b) at over in
            (sym is, ap (λ (l : List ShardEntry). length l) (sym last.0))
      ])
      (λ apart.
      let asked : HasAsked n (start_of shared) was other rest b = record {
        after = of_b.after;
        at = sym (there other apart) ∙ of_b.at;
        answers = of_b.answers;
        marked = of_b.marked;
      } in
      absurd (not_in_seen marked other rest b asked same alike))

  -- nor did the visit itself
  pub asks_new : AddedAskForNewPairs shared old shard before (visit_entry v ∷ [])
  asks_new next here there cut after a at over marked other rest b of_b same alike =
      let last = last_cut before cut after (visit_entry v) (visit_entry a) at over in
      let visit_is : a ≡ v = ap (λ (e : ShardEntry). visit_in e v) (sym last.1) in
      let seen_is : seen_last before v ≡ seen_last cut a = λ i. seen_last (sym last.0 i) (sym visit_is i) in
      let one = once (subst (λ (x : Visit). IsTrue x.settled) visit_is marked) next here there other rest b of_b
      (ap (λ (x : Visit). x.stamp) (sym visit_is) ∙ same)
      (seen_is ∙ alike) in
      (one.0, ap (λ (l : List ShardEntry). length l) last.0 ∙ one.1)
