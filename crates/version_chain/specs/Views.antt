-- What a program sees of a vertex: the rule of visits over the versions that are kept (refinable timestamps of Weaver,
-- PVLDB 9(11) 2016).
use Rattle.std.specs.Prelude.{ℕ, ◌+◌, ◌≤◌, Bool, not, List, take, IsTrue}
use Rattle.std.specs.List.{list_any, slice_get}
use Rattle.std.specs.Option.{IsSomeAnd}
use Rattle.vector_stamp.specs.declared.clock.Stamp.{Stamp}
use Rattle.vector_stamp.specs.Order.{stamp_before, unordered}
use Rattle.vector_stamp.specs.Precedence.{GivenPair, precedes}
use Rattle.vector_stamp.specs.Seeing.{seen_of, last_seen}
use Rattle.vector_stamp.specs.Settling.{SettledEntry, additions_from, places_of, entries_of_call}
use Rattle.version_chain.specs.Chains.{ChainView, stamps_of_versions, newest_state}
use Rattle.version_chain.specs.declared.view.View.{View}

-- one of the updates is unordered with the program: only then is the judge asked
abbrev pub has_unordered : Stamp → List Stamp → Bool
has_unordered program updates = list_any (λ update. unordered update program) updates

-- how many of the kept versions the program sees: all up to the last one that it sees
abbrev pub kept_seen : List GivenPair → Stamp → ChainView → ℕ
kept_seen pairs program chain = seen_of pairs program (stamps_of_versions chain.kept)

-- the stamp of the last one, as a list of one; none if it sees none
abbrev pub read_update : List GivenPair → Stamp → ChainView → List Stamp
read_update pairs program chain = last_seen (kept_seen pairs program chain) (stamps_of_versions chain.kept)

-- what it sees: the state after that version, after how many updates, and whether that version has still to be put
-- before it
abbrev pub view_of : List GivenPair → Stamp → ChainView → View
view_of pairs program chain = record {
  state = newest_state (take (kept_seen pairs program chain) chain.kept);
  updates = chain.dropped + kept_seen pairs program chain;
  settled = list_any (λ update. not (precedes pairs update program)) (read_update pairs program chain);
}

-- the pair that the judge has to add for it, with its place, if it has to
abbrev pub put_before : List GivenPair → Stamp → ChainView → List (ℕ × Stamp)
put_before pairs program chain = additions_from 0 pairs (read_update pairs program chain) program

-- what is kept reaches back far enough: if versions were dropped, the oldest kept one is before the program
abbrev pub ReachesBack : Stamp → ChainView → Type 0
ReachesBack program chain = 1 ≤ chain.dropped
    → IsSomeAnd (slice_get (stamps_of_versions chain.kept) 0) (λ oldest. IsTrue (stamp_before oldest program))

-- what the judge's log gains: an entry if a pair was added
abbrev pub entries_for : List GivenPair → ℕ → Stamp → ChainView → List SettledEntry
entries_for pairs author program chain =
    entries_of_call author (read_update pairs program chain) program (places_of (put_before pairs program chain))
