-- Numbers that were seen, as a set. No public contract cites it.
use Rattle.std.specs.Prelude.{◌≡◌, ℕ, Bool, ◌&&◌, not, nat_lt, nat_le, ◌==◌, List, Option}
use Rattle.std.specs.List.{list_any}
use Rattle.report_rules.specs.declared.report.Reply.{Reply}
use Rattle.report_rules.specs.Lookups.{is_in, is_none_or, is_some_and, committed_number}
use Rattle.order_witness.specs.Bits.{has_bit}

-- a commit number is from 1 to the count, and was not seen
abbrev pub is_number_new : ℕ → List ℕ → Option ℕ → Bool
is_number_new count seen = is_none_or (λ number. nat_lt 0 number && nat_le number count && not (has_bit seen number))

-- a reply has this commit number
abbrev pub has_number : List Reply → ℕ → Bool
has_number replies number =
    list_any (λ (earlier : Reply). is_some_and (λ n. n == number) (committed_number earlier.state)) replies

-- the numbers that were seen are the commit numbers of these replies
abbrev pub AreNumbersSeen : List Reply → List ℕ → Type 0
AreNumbersSeen replies seen = (n : ℕ) → has_bit seen n ≡ has_number replies n

-- the requests that were seen are these
abbrev pub AreSeen : List ℕ → List ℕ → Type 0
AreSeen requests seen = (r : ℕ) → has_bit seen r ≡ is_in r requests
