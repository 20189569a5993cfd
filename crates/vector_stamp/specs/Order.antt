-- The order of stamps: refinable timestamps of Weaver (PVLDB 9(11) 2016), which are vector clocks (Fidge and Mattern
-- 1988) under an epoch.
use Rattle.std.specs.Prelude.{◌≡◌, ℕ, ◌≤◌, ◌^◌, Bool, ◌&&◌, ◌||◌, not, nat_eq, nat_lt, nat_le, ◌==◌, List, length, slice_index, AllPairs, Contains, IsTrue}
use Rattle.std.specs.Cmp.Lexicographic.{pointwise}
use Rattle.std.specs.List.{list_all}
use Rattle.weave_data.specs.Limits.{most_gates}
use Rattle.vector_stamp.specs.declared.clock.Clock.{Clock}
use Rattle.vector_stamp.specs.declared.clock.Stamp.{Stamp}
use Rattle.vector_stamp.specs.declared.clock.EventId.{EventId}

-- Clocks

-- every count of the first list is at most that of the second; false for lists of different lengths
abbrev pub counts_at_most : List ℕ → List ℕ → Bool
counts_at_most = pointwise nat_le

-- the counts are the same
abbrev pub same_counts : List ℕ → List ℕ → Bool
same_counts = pointwise nat_eq

-- clock a is before clock b: its epoch is less, or the epochs are equal, every count of a is at most that of b, and the
-- counts differ
abbrev pub is_before : Clock → Clock → Bool
is_before a b =
    nat_lt a.epoch b.epoch
    || ((a.epoch == b.epoch) && counts_at_most a.counts b.counts && not (same_counts a.counts b.counts))

-- the clocks are equal
abbrev pub same_clock : Clock → Clock → Bool
same_clock a b = (a.epoch == b.epoch) && same_counts a.counts b.counts

-- before, or equal
abbrev pub is_at_most : Clock → Clock → Bool
is_at_most a b = is_before a b || same_clock a b

-- neither clock is before the other; so equal clocks are unordered
abbrev pub clocks_unordered : Clock → Clock → Bool
clocks_unordered a b = not (is_before a b) && not (is_before b a)

-- the count of a gatekeeper, 0 past the eighth
abbrev pub count_of : ℕ → Clock → ℕ
count_of gate clock = slice_index clock.counts gate

-- there is a count for each of eight gatekeepers, as in every clock of a program
abbrev pub HasEightCounts : Clock → Type 0
HasEightCounts clock = length clock.counts ≡ most_gates

-- and in each of these clocks
abbrev pub HaveEightCounts : List Clock → Type 0
HaveEightCounts clocks = (clock : Clock) → Contains clocks clock → HasEightCounts clock

-- the epoch and the counts have 64 bits
abbrev pub has_64_bits : Clock → Bool
has_64_bits clock = nat_lt clock.epoch (2 ^ 64) && list_all (λ count. nat_lt count (2 ^ 64)) clock.counts

-- no event of a gatekeeper past the first `gates` is counted, as in every clock of a program with that many gatekeepers
abbrev pub CountsNonePast : ℕ → Clock → Type 0
CountsNonePast gates clock = (gate : ℕ) → gates ≤ gate → count_of gate clock ≡ 0

-- Stamps

-- stamps compare by their clocks
abbrev pub stamp_before : Stamp → Stamp → Bool
stamp_before a b = is_before a.clock b.clock

-- neither stamp is before the other
abbrev pub unordered : Stamp → Stamp → Bool
unordered a b = clocks_unordered a.clock b.clock

-- the stamps are equal
abbrev pub same_stamp : Stamp → Stamp → Bool
same_stamp a b = (a.home == b.home) && same_clock a.clock b.clock

-- each stamp is before each later one of the list
abbrev pub StampsRise : List Stamp → Type 0
StampsRise stamps = AllPairs (λ a b. IsTrue (stamp_before a b)) stamps

-- Events

-- the home's own count
abbrev pub own_count : Stamp → ℕ
own_count s = count_of s.home s.clock

-- an event is identified by home, epoch and own count
abbrev pub id_of : Stamp → EventId
id_of s = record { home = s.home; epoch = s.clock.epoch; count = own_count s }

-- the stamps have the same id
abbrev pub same_id : Stamp → Stamp → Bool
same_id a b = (a.home == b.home) && (a.clock.epoch == b.clock.epoch) && (own_count a == own_count b)

-- a's epoch, then its own count, is below b's: of two events of one home, this shows which came first
abbrev pub id_before : Stamp → Stamp → Bool
id_before a b =
    nat_lt a.clock.epoch b.clock.epoch
    || ((a.clock.epoch == b.clock.epoch) && nat_lt (own_count a) (own_count b))

-- two events: their ids differ, and those of one home are ordered as their epochs, then their own counts
abbrev pub are_apart : Stamp → Stamp → Bool
are_apart a b =
    not (a.home == b.home) || (id_before a b && stamp_before a b) || (id_before b a && stamp_before b a)
