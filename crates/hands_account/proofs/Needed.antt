-- What a hand made follows the script if the closed logs are an account of it: so what is asked of hands is no more
-- than
-- an account has, but for the programs that they finish. What a hand has seen is the beginning of the closed logs.
-- Used by `hands_of_an_account_follow_its_script` and crate workers_account.
use Rattle.std.proofs.Common.{◌≡◌, ◌≢◌, ℕ, zero, suc, ◌<◌, ◌≤◌, ◌==◌, List, [], ◌∷◌, ◌++◌, length, drop, get_or, Contains, AllPairs, IsTrue, Some, refl, sym, ap, subst, ◌∙◌, append_assoc, arith}
use Rattle.std.specs.List.{filter, flat_map}
use Rattle.std.proofs.lemmas.List.{map-append}
use Rattle.std.proofs.lemmas.List.Concat.{flat_map-append}
use Rattle.std.proofs.Math.Seq.{drop-append_seam}
use Rattle.weave_data.proofs.Members.{cut_at, filter_has, map_has, drop_has}
use Rattle.weave_data.proofs.Ordered.{pairs_across, pairs_front, pairs_none}
use Rattle.program_defs.specs.declared.program.Program.{Program}
use Rattle.program_defs.specs.declared.script.Request.{Request}
use Rattle.program_defs.specs.declared.script.Script.{Script}
use Rattle.program_defs.specs.declared.script.Work.TheVariants.{Look}
use Rattle.program_defs.specs.Limits.{IsWithinLimits}
use Rattle.report_rules.specs.Lookups.{request_at}
use Rattle.weave_entries.specs.declared.gate_log.GateEntry.{GateEntry}
use Rattle.weave_entries.specs.Logs.{AtEachEntry}
use Rattle.weave_entries.specs.GateReplay.{BegunRequest, begun_in}
use Rattle.weave_entries.specs.StoreReplay.{Judgement, judgements_of}
use Rattle.weave_account.specs.declared.account.Account.{Account}
use Rattle.weave_account.specs.Account.{gate_log, is_ended, reads_of}
use Rattle.weave_account.specs.Gatekeepers.{BeginsAs}
use Rattle.weave_account.specs.IsAccount.{IsAccount}
use Rattle.weave_account.specs.Programs.{ReadsInTurn}
use Rattle.weave_account.specs.Store.{InTurn}
use Rattle.weave_account.proofs.GoesOn.{has-on}
use Rattle.weave_account.proofs.RepliesClause.{pairs-right}
use Rattle.seen_logs.specs.Closed.{AreOfHands}
use Rattle.seen_logs.specs.Seen.{AreLegal, IsOwn, entries_since, without_sessions}
use Rattle.seen_logs.proofs.Placed.{pairs-append}
use Rattle.hands_account.specs.LowerLaws.{LawsForHands}
use Rattle.hands_account.specs.Runs.{FinishesOwnPrograms, IsFollowedByHand, IsOwnProgram, own_begun, own_judgements}
use Rattle.hands_account.proofs.Places.{pairs-filter}
use Rattle.hands_account.proofs.Programs.{apart, reads-move}
use Rattle.hands_account.proofs.Work.{HasWork, judgement}
use Rattle.hands_account.proofs.Once.{begins-of}

-- Lists

-- what is made of one of many lists has it among itself, if what is made of all has
pub list-within : {A B : Type 0} (R : B → B → Type 0) (f : List A → List B) → f [] ≡ [] → (xss : List (List A)) → AllPairs R (flat_map f xss)
    → (i : ℕ) → AllPairs R (f (get_or xss i []))
list-within R f none [] pairs i = subst (AllPairs R) (sym none) (pairs_none R)
list-within R f none (xs ∷ xss) pairs zero = pairs_front R (f xs) (flat_map f xss) pairs
list-within R f none (xs ∷ xss) pairs (suc i) = list-within R f none xss (pairs-right R (f xs) (flat_map f xss) pairs) i

-- Hands

module _ (laws : LawsForHands) (script : Script) (hands : ℕ) (start : Account) (seen_by : ℕ → Account) (closed : Account)
    (limits : IsWithinLimits script) (legal : AreLegal script.gates script.shards closed)
    (of : AreOfHands script.shards hands (without_sessions start) seen_by (without_sessions closed)) (is : IsAccount script closed)
    (number : ℕ) (known : number < hands) where
  begins : (home : ℕ) → AtEachEntry (λ before (entry : GateEntry). IsOwn number (gate_log start home) before entry.author
      → BeginsAs script closed home before entry.deed) (gate_log (seen_by number) home)
  begins home before entry after at own =
      let on = (of.within number known).gates home in
      is.gatekeepers.begins home before entry (after ++ on.0) (on.1 ∙ ap (λ l. l ++ on.0) at ∙ append_assoc before (entry ∷ after) on.0)

  once : (home : ℕ) → AllPairs (λ (a b : BegunRequest). a.request ≢ b.request)
      (begun_in (gate_log start home) ++ own_begun number start (seen_by number) home)
  once home =
      let R = λ (a b : BegunRequest). a.request ≢ b.request in
      let by_it = λ (begun : BegunRequest). begun.author == number in
      let old = gate_log start home in
      let log = gate_log (seen_by number) home in
      let starts = (of.seen number known).starts.gates home in
      let on = (of.within number known).gates home in
      let new = begun_in (entries_since old log) in
      let rest : entries_since old log ≡ starts.0 = ap (drop (length old)) starts.1 ∙ drop-append_seam old starts.0 in
      let seen : begun_in log ≡ begun_in old ++ new =
      ap begun_in (starts.1 ∙ ap (λ l. old ++ l) (sym rest)) ∙ flat_map-append begins-of old (entries_since old log) in
      let all : begun_in (gate_log closed home) ≡ begun_in log ++ begun_in on.0 = ap begun_in on.1 ∙ flat_map-append begins-of log on.0 in
      let pairs : AllPairs R (begun_in old ++ new) = subst (AllPairs R) seen
      (pairs_front R (begun_in log) (begun_in on.0) (subst (AllPairs R) all (list-within R begun_in refl closed.gates is.gatekeepers.once home))) in
      pairs-append R (begun_in old) (filter by_it new) (pairs_front R (begun_in old) new pairs)
      (pairs-filter R by_it new (pairs-right R (begun_in old) new pairs))
      (λ a b ha hb. pairs_across R (begun_in old) new a b pairs ha (filter_has by_it new b hb).0)

  work : (judged : Judgement) → Contains (own_judgements number start (seen_by number)) judged → HasWork script judged
  work judged h =
      let log = (seen_by number).store in
      let among = (filter_has (λ (j : Judgement). j.author == number) (judgements_of (entries_since start.store log)) judged h).0 in
      let entry = map_has judgement (entries_since start.store log) judged among in
      let there = has-on log closed.store (of.within number known).store entry.0 (drop_has (length start.store) log entry.0 entry.1) in
      let cut = cut_at closed.store entry.0 there in
      subst (HasWork script) entry.2 (is.store.judges cut.before entry.0 cut.after cut.is).work

  in-turn : AllPairs (λ (a b : Judgement). InTurn script a.request b.request) (own_judgements number start (seen_by number))
  in-turn =
      let R = λ (a b : Judgement). InTurn script a.request b.request in
      let old = start.store in
      let log = (seen_by number).store in
      let starts = (of.seen number known).starts.store in
      let on = (of.within number known).store in
      let rest : entries_since old log ≡ starts.0 = ap (drop (length old)) starts.1 ∙ drop-append_seam old starts.0 in
      let seen : judgements_of log ≡ judgements_of old ++ judgements_of (entries_since old log) =
      ap judgements_of (starts.1 ∙ ap (λ l. old ++ l) (sym rest)) ∙ map-append judgement old (entries_since old log) in
      let all : judgements_of closed.store ≡ judgements_of log ++ judgements_of on.0 = ap judgements_of on.1 ∙ map-append judgement log on.0 in
      pairs-filter R (λ (j : Judgement). j.author == number) (judgements_of (entries_since old log))
      (pairs-right R (judgements_of old) (judgements_of (entries_since old log))
      (subst (AllPairs R) seen (pairs_front R (judgements_of log) (judgements_of on.0) (subst (AllPairs R) all is.store.in_turn))))

  programs : (r : ℕ) → IsOwnProgram number start (seen_by number) r → (request : Request) (program : Program)
      → request_at script r ≡ Some request → request.work ≡ Look program
      → ReadsInTurn (reads_of (seen_by number) r) program (IsTrue (is_ended (seen_by number) r))
  programs r own request program at work =
      let few : length closed.gates ≤ 8 = (let gates = is.gatekeepers.as_many in let limit = limits.few_gates in omega (arith, gates, limit)) in
      let reads = laws.reads script.gates script.shards hands (without_sessions start) seen_by (without_sessions closed) few (apart legal) of
      is.gatekeepers.once number own.0 r own.1 known own.2 in
      let ended = laws.ended script.gates script.shards hands (without_sessions start) seen_by (without_sessions closed) few (apart legal) of
      is.gatekeepers.once number own.0 r own.1 known own.2 in
      reads-move program (reads_of closed r) (reads_of (seen_by number) r) _ _ (sym reads) (λ done. subst IsTrue (sym ended) done)
      (is.programs r request program at work)

  -- it follows the script, if it finishes its own programs alone
  pub follows-account : FinishesOwnPrograms number start (seen_by number) → IsFollowedByHand script number start (seen_by number) closed
  follows-account finishes =
      record { begins = begins; once = once; work = work; in_turn = in-turn; programs = programs; finishes = finishes }
