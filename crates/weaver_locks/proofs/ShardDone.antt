-- A hand that visited nothing in the lock of a shard, and whose entries are all its own, is done there, and asked the
-- oracle for nothing.
-- Used by `apply`, ShardApplied, ShardArrived, ShardCalled and ShardVisited.
use Rattle.std.proofs.Common.{◌≡◌, ℕ, ◌<◌, List, [], ◌∷◌, ◌++◌, length, map, get_or, Contains, refl, sym, ap, ◌∙◌, subst}
use Rattle.std.specs.Prelude.{All, Result, Ok, Err, OnOk, OnErr}
use Rattle.std.proofs.lemmas.List.{append-nil, map-append}
use Rattle.std.proofs.lemmas.List.Elements.{All-cons, All-nil}
use mathlib.Core.List.{IsPrefix}
use Rattle.weave_data.proofs.Members.{has_head, has_none, has_tail, only}
use Rattle.weave_entries.specs.declared.oracle_log.OracleDeed.{OracleDeed}
use Rattle.weave_entries.specs.declared.oracle_log.OracleEntry.{OracleEntry}
use Rattle.weave_entries.specs.declared.shard_log.ShardDeed.{ShardDeed}
use Rattle.weave_entries.specs.declared.shard_log.ShardEntry.{ShardEntry}
use Rattle.weave_entries.specs.ShardReplay.{Visit}
use Rattle.weave_entries.specs.ShardRules.{IsShardLog}
use Rattle.weave_account.specs.declared.account.Account.{Account}
use Rattle.seen_logs.specs.Entries.{oracle_entries, oracle_pairs, shard_pair, shard_pairs}
use Rattle.seen_logs.specs.Seen.{AreLegal, ShardRefersWithin, visit_entry}
use Rattle.chronicle.specs.declared.held.Held.{Held}
use Rattle.chronicle.specs.declared.pass.Pass.{Pass}
use Rattle.chronicle.specs.Holds.{lock_in, log_at_entry, machine_of, WentInWith}
use Rattle.chronicle.specs.Logs.{Follows, Log, entries_of}
use Rattle.chronicle.specs.Passes.{lock_noted, number_of, seen_by_pass}
use Rattle.oracle_lock.specs.Seen.{gates_noted}
use Rattle.shard_node.specs.Shards.{AddsEntry, ShardView}
use Rattle.shard_lock.specs.declared.noted_shard.NotedShard.{NotedShard}
use Rattle.shard_lock.specs.declared.notes.ShardNotes.{ShardNotes}
use Rattle.shard_lock.specs.Frames.{shard_frame}
use Rattle.shard_lock.specs.Notes.{at_place, frame_of_shard, ShardIsKept, NotedShardView, seen_by_shard_passes, seen_of_shard}
use Rattle.shard_lock.proofs.Accounts.{at_number}
use Rattle.weaver_locks.specs.declared.hand.Hand.{Hand}
use Rattle.weaver_locks.specs.declared.shared.Shared.{Shared}
use Rattle.weaver_locks.specs.Hands.{hand_number, IsHand}
use Rattle.weaver_locks.specs.InShard.{DoesInShard, IsDoneInShard, IsInShard}
use Rattle.weaver_locks.specs.ShardHolds.{shard_entries_of}
use Rattle.weaver_locks.proofs.Logged.{beyond}
use Rattle.weaver_locks.proofs.Rows.{set_here, set_length}
use Rattle.weaver_locks.proofs.HandParts.{has_shard}

-- a shard's log has these entries more, and all else is as before
pub record GoesBy (old new : ShardView) (added : List ShardEntry) : Type 0 where
  pub log : new.log ≡ old.log ++ added
  pub number : new.number ≡ old.number
  pub gates : new.gates ≡ old.gates

-- a shard that is as it was has no entries more
pub goes_by_none : (old new : ShardView) → new ≡ old → GoesBy old new []
goes_by_none old new is = record {
  log = ap (λ (v : ShardView). v.log) is ∙ sym (append-nil old.log);
  number = ap (λ (v : ShardView). v.number) is;
  gates = ap (λ (v : ShardView). v.gates) is;
}

-- a shard to which an entry was added has this one more
pub goes_by_one : (old new : ShardView) (author n : ℕ) (deed : ShardDeed) → author ≡ n → AddsEntry old new author deed
    → GoesBy old new (record { author = n; deed = deed } ∷ [])
goes_by_one old new author n deed is adds = record {
  log = adds.log ∙ ap (λ (m : ℕ). let e : ShardEntry = record { author = m; deed = deed } in old.log ++ e ∷ []) is;
  number = adds.number;
  gates = adds.gates;
}

pairs_back : (log : Log OracleDeed) → oracle_pairs (oracle_entries log) ≡ log
pairs_back [] = refl
pairs_back (e ∷ log) = ap (λ (l : Log OracleDeed). e ∷ l) (pairs_back log)

-- entries that are all of one author are so as the lock's log has them, too
pub all_by : (n author : ℕ) (added : List ShardEntry) → author ≡ n → ((e : ShardEntry) → Contains added e → e.author ≡ n)
    → All (λ (e : ℕ × ShardDeed). e.0 ≡ author) (shard_pairs added)
all_by n author [] is by = All-nil (λ (e : ℕ × ShardDeed). e.0 ≡ author)
all_by n author (e ∷ added) is by = All-cons (λ (x : ℕ × ShardDeed). x.0 ≡ author) (shard_pair e) (shard_pairs added) (by e (has_head e added) ∙ sym is)
    (all_by n author added is (λ x h. by x (has_tail e added x h)))

module _ (shared : Shared) (old now : Hand) (shard : ℕ) (held : Held NotedShard ShardDeed) (hand : IsHand shared old)
    (low : shard < length shared.shards.items) (i : IsInShard shared old now shard held) where
  abbrev was : NotedShardView
  was = machine_of held

  -- the pass that is in the hold
  pub its_pass : (p : Pass ShardDeed) → get_or now.shards.items shard p ≡ i.pass
  its_pass p = ap (λ (l : List (Pass ShardDeed)). get_or l shard p) i.shards ∙ set_here old.shards.items shard i.pass p (has_shard shared old hand shard low)

  -- the hand has as many passes of shards' locks as there are shards
  pub as_many : length now.shards.items ≡ length shared.shards.items
  as_many = ap (λ (l : List (Pass ShardDeed)). length l) i.shards ∙ (set_length old.shards.items shard i.pass ∙ hand.shards)

  -- the hand's pass of the shard's lock is the one that the hold went in with, whatever its machine is now
  pub its_hold : (m : NotedShardView) (p : Pass ShardDeed) → WentInWith (get_or now.shards.items shard p)
      (record { chronicle = held.chronicle; machine = m; seat = held.seat; seated = held.seated; view = held.view; author = held.author })
  its_hold m p = subst (λ (q : Pass ShardDeed). WentInWith q
      (record { chronicle = held.chronicle; machine = m; seat = held.seat; seated = held.seated; view = held.view; author = held.author }))
      (sym (its_pass p)) (record { table_is = i.went.table_is; seat_is = i.went.seat_is; number_is = i.went.number_is })

  -- the log goes on by entries of the hand
  pub follows : (log added : List ShardEntry) → log ≡ was.shard.log ++ added → ((e : ShardEntry) → Contains added e → e.author ≡ hand_number old)
      → (p : Pass ShardDeed) → Follows (number_of (get_or now.shards.items shard p)) (log_at_entry held) (shard_pairs log)
  follows log added is by p = (
    shard_pairs added,
    ap (λ (l : Log ShardDeed). l ++ shard_pairs added) i.entry ∙ (sym (map-append shard_pair was.shard.log added) ∙ ap (λ (l : List ShardEntry). shard_pairs l) (sym is)),
    all_by (hand_number old) (number_of (get_or now.shards.items shard p)) added (ap number_of (its_pass p) ∙ i.number) by,
  )

  -- if the shard's number, counts and notes are as they were, its frame is the frame of the lock
  pub still_framed : (m : NotedShardView) → m.shard.number ≡ was.shard.number → m.shard.gates ≡ was.shard.gates → m.shards ≡ was.shards
      → m.notes ≡ was.notes → frame_of_shard m.shard m.shards m.notes ≡ (lock_in held).frame
  still_framed m number gates shards notes =
      (λ j. shard_frame (number j) (gates j) (shards j) (lock_noted (notes j).store) (lock_noted (notes j).oracle) (map lock_noted (notes j).gates.items))
      ∙ i.frame

  module _ (m : NotedShardView) (added : List ShardEntry) (goes : GoesBy was.shard m.shard added) (shards : m.shards ≡ was.shards)
      (notes : m.notes ≡ was.notes) (kept : ShardIsKept m.shard m.shards m.notes)
      (by : (e : ShardEntry) → Contains added e → e.author ≡ hand_number old)
      (no_visit : (v : Visit) → Contains added (visit_entry v) → ⊥) where
    abbrev G : ℕ
    G = length shared.gates.items

    abbrev H : ℕ
    H = length shared.shards.items

    abbrev by_passes : Account
    by_passes = seen_by_shard_passes shard (was.shard.log ++ added) now.gates.items now.store now.oracle

    -- the notes have seen what the passes have
    one_account : seen_of_shard m.shard m.notes ≡ by_passes
    one_account = λ j. record {
      gates = (ap (λ (ns : ShardNotes). gates_noted ns.gates.items) notes ∙ ap (λ (a : Account). a.gates) i.same) j;
      store = (ap (λ (ns : ShardNotes). (seen_of_shard was.shard ns).store) notes ∙ ap (λ (a : Account). a.store) i.same) j;
      oracle = (ap (λ (ns : ShardNotes). (seen_of_shard was.shard ns).oracle) notes ∙ ap (λ (a : Account). a.oracle) i.same) j;
      shards = at_place ((goes.number ∙ i.place) j) (goes.log j);
      sessions = [];
    }

    legal : AreLegal G H by_passes
    legal = subst (λ (z : ℕ × ℕ × Account). AreLegal z.0 z.1 z.2) (λ j. ((goes.gates ∙ i.gate_count) j, (shards ∙ i.shard_count) j, one_account j)) kept.legal

    refers : ShardRefersWithin H by_passes shard
    refers = subst (λ (z : ℕ × Account × ℕ). ShardRefersWithin z.0 z.1 z.2) (λ j. ((shards ∙ i.shard_count) j, one_account j, (goes.number ∙ i.place) j)) kept.refers

    does : DoesInShard shared old shard now.gates.items now.store now.oracle was.shard.log added []
    does = record {
      hand = hand;
      low = low;
      gates_on = i.gates;
      store_on = i.store;
      settled = oracle_entries (seen_by_pass now.oracle);
      oracle_adds = record {
        ready = i.oracle.ready;
        number = i.oracle.number ∙ hand.oracle_number;
        found = subst (λ (l : Log OracleDeed). IsPrefix (seen_by_pass old.oracle) l) (sym (pairs_back (seen_by_pass now.oracle))) i.oracle.more;
        own_is = ap (entries_of (hand_number old)) (pairs_back (seen_by_pass now.oracle))
            ∙ (ap (λ (n : ℕ). entries_of n (seen_by_pass now.oracle)) (sym (i.oracle.number ∙ hand.oracle_number)) ∙ i.oracle.own_is);
        left = sym (ap (λ (l : List OracleEntry). oracle_pairs l) (append-nil (oracle_entries (seen_by_pass now.oracle))) ∙ pairs_back (seen_by_pass now.oracle));
        by = λ e h. absurd (has_none e h);
      };
      asked_refers = λ e h. absurd (has_none e h);
      asked_for = λ next is e h. absurd (has_none e h);
      found = i.found;
      own_is = i.own_is;
      added_by = by;
      gates_legal = record { rules = legal.gate_logs; hears = legal.hears };
      store_legal = legal.store_log;
      oracle_legal = legal.oracle_log;
      shard_legal = subst (IsShardLog G) (at_number shard (was.shard.log ++ added)) (legal.shard_logs shard);
      refers = refers;
      asks_new = λ next is others cut after a at over marked other rest b of_b same alike.
          absurd (no_visit a (beyond was.shard.log added cut after (visit_entry a) at over));
    }

    -- so the hand is done in the shard, and asked the oracle for nothing
    pub done : IsDoneInShard shared old now shard m.shard.log was.shard.log added []
    done = record { log_is = goes.log; pass = i.pass; shards = i.shards; number = i.number; does = does }

-- the entry of a call that adds at most one
module _ {A F : Type 0} (hand : Hand) (author : ℕ) (deed : ShardDeed) (was new : ShardView) (is : author ≡ hand_number hand) where
  -- after a call the shard's log has the call's entry more, or nothing more if the call was refused
  pub goes_by : (r : Result A F) → OnOk r (AddsEntry was new author deed) → OnErr r (new ≡ was)
      → GoesBy was new (shard_entries_of hand deed r)
  goes_by (Ok a) adds same = goes_by_one was new author (hand_number hand) deed is adds
  goes_by (Err f) adds same = goes_by_none was new same

-- the entry of a call is the hand's own
pub entries_by : {A F : Type 0} (hand : Hand) (deed : ShardDeed) (r : Result A F) (e : ShardEntry)
    → Contains (shard_entries_of hand deed r) e → e.author ≡ hand_number hand
entries_by hand deed (Ok a) e has = ap (λ (x : ShardEntry). x.author) (sym (only _ e has))
entries_by hand deed (Err f) e has = absurd (has_none e has)
