-- The pairs that a report lists are the account's, if each mark (the vertex of a visit, or none of a commit) is right;
-- an entry of the oracle that a commit asked for has no visit.
-- Used by MarksFound, ProgramStamped, Replied and Unordered.
use Rattle.std.proofs.Common.{◌≡◌, ◌≢◌, ℕ, suc, ◌+◌, ◌≤◌, Bool, true, false, List, [], ◌∷◌, ◌++◌, length, Contains, IsTrue, Option, None, Some, inl, inr, refl, sym, ap, subst, ◌∙◌, length-append, arith}
use Rattle.std.specs.Prelude.{◌↔◌, ◌&&◌, ◌==◌, slice_get, IsSomeAnd, cond}
use Rattle.std.specs.List.{cons_option, filter_map, find, flat_map, list_any}
use Rattle.std.specs.Option.{option_and_then, option_map, option_or}
use Rattle.std.proofs.lemmas.Bool.{and_parts, cases_Bool, cases_eq}
use Rattle.std.proofs.lemmas.Option.{get_or_from_slice_get, none-some}
use Rattle.weave_data.proofs.Members.{cut_at, flat_has, has_flat, has_head, has_none, has_tail, only}
use Rattle.weave_data.specs.declared.name.Name.{Name}
use Rattle.vector_stamp.specs.declared.clock.Stamp.{Stamp}
use Rattle.vector_stamp.specs.Order.{id_of, same_stamp}
use Rattle.vector_stamp.specs.Precedence.{GivenPair}
use Rattle.vector_stamp.specs.Settling.{SettledEntry}
use Rattle.program_defs.specs.Limits.{IsWithinLimits}
use Rattle.program_defs.specs.Works.{is_change, is_look}
use Rattle.program_defs.specs.declared.script.Request.{Request}
use Rattle.program_defs.specs.declared.script.Script.{Script}
use Rattle.program_defs.specs.declared.script.Work.{Work}
use Rattle.program_defs.specs.declared.script.Work.TheVariants.{Change, Look}
use Rattle.report_rules.specs.Lookups.{is_some_and, request_at}
use Rattle.report_rules.specs.declared.report.Pair.{Pair}
use Rattle.weave_entries.specs.declared.gate_log.GateEntry.{GateEntry}
use Rattle.weave_entries.specs.declared.gate_log.GateDeed.{GateDeed}
use Rattle.weave_entries.specs.declared.gate_log.GateDeed.TheVariants.{BeganTx, BeganProgram, Sent, Nop, Heard, Raised, Finished}
use Rattle.weave_entries.specs.declared.oracle_log.OracleEntry.{OracleEntry}
use Rattle.weave_entries.specs.declared.shard_log.ShardEntry.{ShardEntry}
use Rattle.weave_entries.specs.declared.shard_log.ShardDeed.{ShardDeed}
use Rattle.weave_entries.specs.declared.shard_log.ShardDeed.TheVariants.{Arrived, Applied, Visited, Collected}
use Rattle.weave_entries.specs.declared.store_log.StoreEntry.{StoreEntry}
use Rattle.weave_entries.specs.GateReplay.{BegunRequest, program_by, programs_of}
use Rattle.weave_entries.specs.OracleReplay.{pairs_of_entry, pairs_of_log, settled_entry}
use Rattle.weave_entries.specs.ShardReplay.{Visit, visit_by, visits_of}
use Rattle.weave_entries.specs.StoreReplay.{Judgement, commit_by, commits_of, judgements_of}
use Rattle.weave_account.specs.declared.account.Account.{Account}
use Rattle.weave_account.specs.Account.{IsBegunStamp, all_begun, gate_log, shard_log, stamp_of}
use Rattle.weave_account.specs.Gatekeepers.{BeginsAs}
use Rattle.weave_account.specs.IsAccount.{IsAccount}
use Rattle.weave_account.specs.Oracle.{IsAskedByCommit, seen_last}
use Rattle.weave_account.specs.Pairs.{ArePairsOf}
use Rattle.weave_account.specs.PairsByPlace.{added_at, placed_by, placed_pair, vertex_visited, vertex_visited_in}
use Rattle.weave_account.specs.Shards.{ShardFitsAs}
use Rattle.weaver_core.specs.Marks.{IsMarkOf, IsMarkedAs}
use Rattle.weaver_core.specs.Reporting.{all_pairs_found, pair_found, pairs_before, pairs_found}
use Rattle.weaver_core.proofs.CanVisit.{commit-judged, inside}
use Rattle.weaver_core.proofs.Turns.{place-of}
use Rattle.weave_account.proofs.PlacedPairs.{are-append}

-- Pairs one by one

are-length : (account : Account) (ps : List Pair) (gs : List GivenPair) → ArePairsOf account ps gs → length ps ≡ length gs
are-length account [] [] are = refl
are-length account [] (g ∷ gs) are = absurd are
are-length account (p ∷ ps) [] are = absurd are
are-length account (p ∷ ps) (g ∷ gs) are = ap suc (are-length account ps gs are.1)

are-split : (account : Account) (ps qs : List Pair) (gs hs : List GivenPair) → length ps ≤ length gs → length qs ≤ length hs → ArePairsOf account (ps ++ qs) (gs ++ hs) → ArePairsOf account ps gs × ArePairsOf account qs hs
are-split account [] qs [] hs few less are = (tt, are)
are-split account [] qs (g ∷ gs) hs few less are =
    let same = are-length account qs (g ∷ gs ++ hs) are in
    let long : length (g ∷ gs ++ hs) ≡ suc (length gs) + length hs = length-append (g ∷ gs) hs in
    absurd (omega (arith, same, long, less))
are-split account (p ∷ ps) qs [] hs few less are = absurd (omega (arith, few))
are-split account (p ∷ ps) qs (g ∷ gs) hs few less are =
    let rest = are-split account ps qs gs hs (omega (arith, few)) less are.1 in ((are.0, rest.0), rest.1)

-- if a search finds something only where another does, it finds at most as much
filter-fewer : {A B C : Type 0} (f : A → Option B) (g : A → Option C) → ((x : A) → g x ≡ None → f x ≡ None) → (xs : List A) → length (filter_map f xs) ≤ length (filter_map g xs)
filter-fewer f g fewer [] = omega arith
filter-fewer {B = B} {C = C} f g fewer (x ∷ xs) = by (f x) (g x) (fewer x) (filter-fewer f g fewer xs)
  where
    by : (a : Option B) (b : Option C) → (b ≡ None → a ≡ None) → length (filter_map f xs) ≤ length (filter_map g xs) → length (cons_option a (filter_map f xs)) ≤ length (cons_option b (filter_map g xs))
    by None None none rest = rest
    by None (Some c) none rest = omega (arith, rest)
    by (Some b) None none rest = absurd (none-some b (sym (none refl)))
    by (Some b) (Some c) none rest = omega (arith, rest)

module _ (account : Account) where
  placed-fewer : (entry : SettledEntry) → length (placed_by account entry) ≤ length (pairs_of_entry entry)
  placed-fewer entry = filter-fewer (λ (place : ℕ). option_and_then (λ (event : Stamp). placed_pair account place (event, entry.later)) (slice_get entry.earlier place)) (λ (place : ℕ). option_map {U = GivenPair} (λ (event : Stamp). (event, entry.later)) (slice_get entry.earlier place))
      (λ place. by place (slice_get entry.earlier place)) entry.places
    where
      by : (place : ℕ) (o : Option Stamp) → option_map {U = GivenPair} (λ (event : Stamp). (event, entry.later)) o ≡ None → option_and_then (λ (event : Stamp). placed_pair account place (event, entry.later)) o ≡ None
      by place None none = refl
      by place (Some event) none = absurd (none-some (event, entry.later) (sym none))

  -- the pairs of a log's entries by their places
  abbrev all-placed : List OracleEntry → List Pair
  all-placed log = flat_map (λ (entry : OracleEntry). placed_by account (settled_entry entry)) log

  -- the stamps of an entry are begun
  abbrev HasBegunStamps : SettledEntry → Type 0
  HasBegunStamps settled = (event : Stamp) → Contains (settled.later ∷ settled.earlier) event → IsBegunStamp account event

  all-fewer : (log : List OracleEntry) → length (all-placed log) ≤ length (pairs_of_log log)
  all-fewer [] = omega arith
  all-fewer (entry ∷ log) =
      let one = placed-fewer (settled_entry entry) in
      let rest = all-fewer log in
      let a = length-append (placed_by account (settled_entry entry)) (all-placed log) in
      let b = length-append (pairs_of_entry (settled_entry entry)) (pairs_of_log log) in
      omega (arith, one, rest, a, b)

  -- an entry that a visit asked for
  module _ (request_of : Stamp → Option ℕ) (found : (q : ℕ) (event : Stamp) → stamp_of account q ≡ Some event → request_of event ≡ Some q) where
    marked-are : (settled : SettledEntry) (v : Name) → IsMarkOf account settled v → ArePairsOf account (pairs_found request_of account.store (Some v) settled) (pairs_of_entry settled)
    marked-are settled v marked =
        let pair = marked.pair in
        let e = marked.earlier in
        let mine : pairs_found request_of account.store (Some v) settled ≡ pair ∷ [] =
        ap (pairs_before request_of account.store (Some v) settled) (found pair.later settled.later marked.is_pair.later_is)
        ∙ (λ i. filter_map (pair_found request_of (marked.earlier_is i) (v ∷ []) pair.later) (marked.places_are i))
        ∙ ap (λ (o : Option ℕ). cons_option (option_and_then (λ (r : ℕ). Some (record { vertex = v; earlier = r; later = pair.later })) o) []) (found pair.earlier e marked.is_pair.earlier_is)
        ∙ (λ i. record { vertex = sym marked.vertex_is i; earlier = pair.earlier; later = pair.later } ∷ []) in
        let given : pairs_of_entry settled ≡ (e, settled.later) ∷ [] = λ i. filter_map (λ (place : ℕ). option_map {U = GivenPair} (λ (event : Stamp). (event, settled.later)) (slice_get (marked.earlier_is i) place)) (marked.places_are i) in
        subst (λ (ps : List Pair). ArePairsOf account ps (pairs_of_entry settled)) (sym mine) (subst (λ (gs : List GivenPair). ArePairsOf account (pair ∷ []) gs) (sym given) (marked.is_pair, tt))

    module _ (placed : (settled : SettledEntry) → IsAskedByCommit account settled → HasBegunStamps settled → pairs_found request_of account.store None settled ≡ placed_by account settled) where
      entry-are : (settled : SettledEntry) → HasBegunStamps settled → (mark : Option Name) → IsMarkedAs account settled mark → ArePairsOf account (placed_by account settled) (pairs_of_entry settled) → ArePairsOf account (pairs_found request_of account.store mark settled) (pairs_of_entry settled)
      entry-are settled begun None asked are = subst (λ (ps : List Pair). ArePairsOf account ps (pairs_of_entry settled)) (sym (placed settled asked begun)) are
      entry-are settled begun (Some v) marked are = marked-are settled v marked

      -- if each mark is right, and the pairs by places are the log's, the pairs found by the marks are the log's, too
      pub all-are : (mark : SettledEntry → Option Name) (log : List OracleEntry)
          → ((entry : OracleEntry) → Contains log entry → HasBegunStamps (settled_entry entry))
          → ((entry : OracleEntry) → Contains log entry → IsMarkedAs account (settled_entry entry) (mark (settled_entry entry)))
          → ArePairsOf account (all-placed log) (pairs_of_log log)
          → ArePairsOf account (all_pairs_found request_of account.store mark log) (pairs_of_log log)
      all-are mark [] begun marked are = tt
      all-are mark (entry ∷ log) begun marked are =
          let parts = are-split account (placed_by account (settled_entry entry)) (all-placed log) (pairs_of_entry (settled_entry entry)) (pairs_of_log log)
          (placed-fewer (settled_entry entry)) (all-fewer log) are in
          are-append account (pairs_found request_of account.store (mark (settled_entry entry)) (settled_entry entry)) (all_pairs_found request_of account.store mark log) (pairs_of_entry (settled_entry entry)) (pairs_of_log log)
          (entry-are (settled_entry entry) (begun entry (has_head entry log)) (mark (settled_entry entry)) (marked entry (has_head entry log)) parts.0)
          (all-are mark log (λ one h. begun one (has_tail entry log one h)) (λ one h. marked one (has_tail entry log one h)) parts.1)

-- No visit has the stamp of a commit

-- no request both looks and changes
pub no-look : (work : Work) → IsTrue (is_look work) → IsTrue (is_change work) → ⊥
no-look (Change ops) look change = let e : false ≡ true = look in cc
no-look (Look program) look change = let e : false ≡ true = change in cc

-- what a deed began as a program is one
program-own : (script : Script) (account : Account) (home : ℕ) (before : List GateEntry) (author : ℕ) (deed : GateDeed) (b : BegunRequest) → BeginsAs script account home before deed → Contains (program_by author deed) b → IsTrue (is_some_and (λ (request : Request). (request.gate == home) && is_look request.work) (request_at script b.request))
program-own script account home before author (BeganProgram r stamp) b begins h = subst (λ (one : BegunRequest). IsTrue (is_some_and (λ (request : Request). (request.gate == home) && is_look request.work) (request_at script one.request))) (only (record { author = author; request = r; stamp = stamp }) b h) begins.own
program-own script account home before author (BeganTx r stamp) b begins h = absurd (has_none b h)
program-own script account home before author (Sent r messages) b begins h = absurd (has_none b h)
program-own script account home before author (Nop shard number stamp low) b begins h = absurd (has_none b h)
program-own script account home before author (Heard clock) b begins h = absurd (has_none b h)
program-own script account home before author (Raised epoch) b begins h = absurd (has_none b h)
program-own script account home before author (Finished r) b begins h = absurd (has_none b h)

-- what was begun as a program at a gatekeeper of an account is a program that the script has for it
pub begun-looks : (script : Script) (account : Account) → IsAccount script account → (home : ℕ) (b : BegunRequest) → Contains (programs_of (gate_log account home)) b → IsTrue (is_some_and (λ (request : Request). (request.gate == home) && is_look request.work) (request_at script b.request))
begun-looks script account is home b h =
    let from = flat_has (λ (entry : GateEntry). program_by entry.author entry.deed) (gate_log account home) b h in
    let cut = cut_at (gate_log account home) from.0 from.1 in
    program-own script account home cut.before from.0.author from.0.deed b (is.gatekeepers.begins home cut.before from.0 cut.after cut.is) from.2

-- no request is both a program and what was judged
pub not-both : (home : ℕ) (o : Option Request) (judged : Judgement) → IsTrue (is_some_and (λ (request : Request). (request.gate == home) && is_look request.work) o) → IsSomeAnd o (λ (request : Request). request.work ≡ Change judged.ops) → ⊥
not-both home None judged look change = absurd change
not-both home (Some request) judged look change = no-look request.work (and_parts (request.gate == home) (is_look request.work) look).1 (ap is_change change)

-- if no element of a list passes a test, none is found
pub find-none : {A : Type 0} (p : A → Bool) (xs : List A) → ((x : A) → Contains xs x → p x ≡ false) → find p xs ≡ None
find-none p [] none = refl
find-none p (x ∷ xs) none = ap (λ b. cond b (Some x) (find p xs)) (none x (has_head x xs)) ∙ find-none p xs (λ y h. none y (has_tail x xs y h))

module _ (script : Script) (account : Account) (limits : IsWithinLimits script) (is : IsAccount script account) (same-stamps : (a b : Stamp) → IsTrue (same_stamp a b) ↔ (a ≡ b))
    (differ : (a b : BegunRequest) → Contains (all_begun account) a → Contains (all_begun account) b → a.request ≢ b.request → id_of a.stamp ≢ id_of b.stamp)
    (work : (judged : Judgement) → Contains (judgements_of account.store) judged → IsSomeAnd (request_at script judged.request) (λ (request : Request). request.work ≡ Change judged.ops))
    (begun : (judged : Judgement) → Contains (judgements_of account.store) judged → Contains (all_begun account) (record { author = judged.author; request = judged.request; stamp = judged.stamp })) where
  apart : (settled : SettledEntry) → IsAskedByCommit account settled → (home : ℕ) (b : BegunRequest) → Contains (programs_of (gate_log account home)) b → b.stamp ≢ settled.later
  apart settled asked home b h same =
      let c = asked.commit in
      let in-commits : Contains (commits_of account.store) c = has_flat (λ (entry : StoreEntry). commit_by entry.deed) account.store asked.entry c (subst (λ (store : List StoreEntry). Contains store asked.entry) (sym asked.at) (middle asked.before asked.entry asked.after)) (subst (λ cs. Contains cs c) (sym asked.commit_is) (has_head c [])) in
      let judged = commit-judged account.store c in-commits in
      let j : BegunRequest = record { author = judged.0.author; request = judged.0.request; stamp = judged.0.stamp } in
      let look = begun-looks script account is home b h in
      let stamps : j.stamp ≡ b.stamp = judged.1.1.1 ∙ sym asked.later_is ∙ sym same in
      elim (cases_eq j.request b.request) [
        | inl one ↦ not-both home (request_at script b.request) judged.0 look (subst (λ n. IsSomeAnd (request_at script n) (λ (request : Request). request.work ≡ Change judged.0.ops)) one (work judged.0 judged.1.0))
        | inr two ↦ differ j b (begun judged.0 judged.1.0) (inside b account.gates home h) two (ap id_of stamps)
      ]
    where
      middle : (xs : List StoreEntry) (x : StoreEntry) (ys : List StoreEntry) → Contains (xs ++ x ∷ ys) x
      middle [] x ys = has_head x ys
      middle (y ∷ xs) x ys = has_tail y (xs ++ x ∷ ys) x (middle xs x ys)

  visit-apart : (settled : SettledEntry) → IsAskedByCommit account settled → (shard : ℕ) (before : List ShardEntry) (author : ℕ) (deed : ShardDeed) (visit : Visit) → ShardFitsAs script account shard before deed → Contains (visit_by author deed) visit → visit.stamp ≢ settled.later
  visit-apart settled asked shard before author (Arrived home number message) visit fits h = absurd (has_none visit h)
  visit-apart settled asked shard before author (Applied home number) visit fits h = absurd (has_none visit h)
  visit-apart settled asked shard before author (Collected bound) visit fits h = absurd (has_none visit h)
  visit-apart settled asked shard before author (Visited q stamp v updates marked) visit fits h =
      let one = only (record { author = author; request = q; stamp = stamp; vertex = v; updates = updates; settled = marked }) visit h in
      λ (e : visit.stamp ≡ settled.later). apart settled asked fits.home (record { author = fits.author; request = q; stamp = stamp }) fits.begun (ap (λ (w : Visit). w.stamp) one ∙ e)

  none-in : (settled : SettledEntry) → IsAskedByCommit account settled → (event : Stamp) (log : List ShardEntry) → Contains account.shards log → vertex_visited_in event settled.later log ≡ None
  none-in settled asked event log h = ap (option_map (λ (visit : Visit). visit.vertex)) (find-none (added_at event settled.later log) (visits_of log) each)
    where
      each : (visit : Visit) → Contains (visits_of log) visit → added_at event settled.later log visit ≡ false
      each visit has =
          let place = place-of account.shards log h in
          let log-is : shard_log account place.0 ≡ log = get_or_from_slice_get account.shards place.0 log [] place.1 in
          let from = flat_has (λ (entry : ShardEntry). visit_by entry.author entry.deed) log visit has in
          let cut = cut_at log from.0 from.1 in
          let other = visit-apart settled asked place.0 cut.before from.0.author from.0.deed visit (is.shards.deeds place.0 cut.before from.0 cut.after (log-is ∙ cut.is)) from.2 in
          elim (cases_Bool (same_stamp visit.stamp settled.later)) [
            | inl same ↦ absurd (other ((same-stamps visit.stamp settled.later).0 same))
            | inr differs ↦ ap (λ b. b && visit.settled && list_any (same_stamp event) (seen_last log visit)) differs
          ]

  none-visited : (settled : SettledEntry) → IsAskedByCommit account settled → (event : Stamp) (logs : List (List ShardEntry)) → ((log : List ShardEntry) → Contains logs log → Contains account.shards log) → vertex_visited logs event settled.later ≡ None
  none-visited settled asked event [] all = refl
  none-visited settled asked event (log ∷ logs) all =
      λ i. option_or (none-in settled asked event log (all log (has_head log logs)) i) (none-visited settled asked event logs (λ one h. all one (has_tail log logs one h)) i)

  -- no visit of a vertex is found for an entry of the oracle that a commit asked for
  pub unvisited-by : (settled : SettledEntry) → IsAskedByCommit account settled → (event : Stamp) → vertex_visited account.shards event settled.later ≡ None
  unvisited-by settled asked event = none-visited settled asked event account.shards (λ log h. h)
