-- A hand of which no transaction is in flight is so after one more call. What it finds in flight is of another hand.
-- Used by Deeds, Kept, OnlyCarried, Transacted and crate workers_account.
use Rattle.std.proofs.Common.{◌≡◌, ◌≢◌, ℕ, ◌==◌, Bool, true, false, cond, List, [], ◌∷◌, ◌++◌, fold, Contains, Option, None, Some, refl, sym, ap, ◌∙◌, eq-eqb}
use Rattle.std.specs.List.{filter}
use Rattle.std.proofs.lemmas.Bool.{both_ways}
use Rattle.std.proofs.lemmas.List.Sums.{fold-append}
use Rattle.std.proofs.lemmas.Option.{none-some, same_Some}
use Rattle.weave_data.proofs.Members.{has_head, has_tail}
use Rattle.weave_entries.specs.declared.gate_log.GateEntry.{GateEntry}
use Rattle.weave_entries.specs.declared.gate_log.GateDeed.{GateDeed}
use Rattle.weave_entries.specs.declared.gate_log.GateDeed.TheVariants.{BeganTx, BeganProgram, Sent, Nop, Heard, Raised, Finished}
use Rattle.weave_entries.specs.declared.message.Addressed.{Addressed}
use Rattle.weave_entries.specs.GateReplay.{BegunRequest, flight_after, flight_of, tx_by}
use Rattle.weave_account.specs.Account.{gate_log}
use Rattle.weaver_locks.specs.declared.hand.Hand.{Hand}
use Rattle.weaver_locks.specs.declared.shared.Shared.{Shared}
use Rattle.weaver_locks.specs.Hands.{hand_number, seen_by, IsHand}
use Rattle.weaver_workers.specs.KeepLaws.{KeepLaws}
use Rattle.weaver_workers.specs.Keeping.{HasLanded}

-- no transaction of the log is in flight
abbrev pub LandedIn : List GateEntry → Type 0
LandedIn log = flight_of log ≡ None

-- entries that begin no transaction
abbrev pub BeginNoTx : List GateEntry → Type 0
BeginNoTx added = (entry : GateEntry) → Contains added entry → tx_by entry.author entry.deed ≡ []

abbrev step : Option BegunRequest → GateEntry → Option BegunRequest
step flight entry = flight_after flight entry.author entry.deed

-- if none is in flight, none is after a deed that begins none
none-after : (author : ℕ) (deed : GateDeed) → tx_by author deed ≡ [] → flight_after None author deed ≡ None
none-after author (BeganTx request stamp) is = absurd cc
none-after author (BeganProgram request stamp) is = refl
none-after author (Sent request messages) is = refl
none-after author (Nop shard number stamp low) is = refl
none-after author (Heard clock) is = refl
none-after author (Raised epoch) is = refl
none-after author (Finished request) is = refl

none-after-all : (added : List GateEntry) (flight : Option BegunRequest) → flight ≡ None → BeginNoTx added → fold step flight added ≡ None
none-after-all [] flight is none = is
none-after-all (entry ∷ added) flight is none =
    none-after-all added (step flight entry)
    (ap (λ (o : Option BegunRequest). step o entry) is ∙ none-after entry.author entry.deed (none entry (has_head entry added)))
    (λ e h. none e (has_tail entry added e h))

-- with entries that begin no transaction, none is in flight
pub landed-on : (log added : List GateEntry) → LandedIn log → BeginNoTx added → LandedIn (log ++ added)
landed-on log added landed none = fold-append step None log added ∙ none-after-all added (flight_of log) landed none

-- after one was sent, none is in flight
pub landed-sent : (log : List GateEntry) (author r : ℕ) (messages : List Addressed)
    → LandedIn (log ++ record { author = author; deed = Sent r messages } ∷ [])
landed-sent log author r messages = fold-append step None log (record { author = author; deed = Sent r messages } ∷ [])

-- The entries of one author

module _ (number : ℕ) where
  abbrev own : GateEntry → Bool
  own = λ (entry : GateEntry). entry.author == number

  -- if it is the author's transaction that is in flight first, then so it is second
  abbrev FliesToo : Option BegunRequest → Option BegunRequest → Type 0
  FliesToo whole part = (flight : BegunRequest) → whole ≡ Some flight → flight.author ≡ number → part ≡ Some flight

  -- after an entry of the author
  own-entry : (author : ℕ) (deed : GateDeed) (whole part : Option BegunRequest) → FliesToo whole part
      → FliesToo (flight_after whole author deed) (flight_after part author deed)
  own-entry author (BeganTx request stamp) whole part too = λ flight is mine. is
  own-entry author (Sent request messages) whole part too = λ flight is mine. is
  own-entry author (BeganProgram request stamp) whole part too = too
  own-entry author (Nop shard at stamp low) whole part too = too
  own-entry author (Heard clock) whole part too = too
  own-entry author (Raised epoch) whole part too = too
  own-entry author (Finished request) whole part too = too

  -- after an entry of another one
  other-entry : (author : ℕ) (deed : GateDeed) (whole part : Option BegunRequest) → (author == number) ≡ false → FliesToo whole part
      → FliesToo (flight_after whole author deed) part
  other-entry author (BeganTx request stamp) whole part other too = λ flight is mine.
      absurd (both_ways (author == number) other (eq-eqb author number
      (ap (λ (b : BegunRequest). b.author) (same_Some (record { author = author; request = request; stamp = stamp }) flight is) ∙ mine)))
  other-entry author (Sent request messages) whole part other too = λ flight is mine. absurd (none-some flight is)
  other-entry author (BeganProgram request stamp) whole part other too = too
  other-entry author (Nop shard at stamp low) whole part other too = too
  other-entry author (Heard clock) whole part other too = too
  other-entry author (Raised epoch) whole part other too = too
  other-entry author (Finished request) whole part other too = too

  -- after all entries, and after those of the author alone
  own-entries : (log : List GateEntry) (whole part : Option BegunRequest) → FliesToo whole part
      → FliesToo (fold step whole log) (fold step part (filter own log))
  own-entries [] whole part too = too
  own-entries (entry ∷ log) whole part too = at (own entry) refl (λ next. own-entries log (step whole entry) next)
    where
      at : (b : Bool) → own entry ≡ b
          → ((next : Option BegunRequest) → FliesToo (step whole entry) next → FliesToo (fold step (step whole entry) log) (fold step next (filter own log)))
          → FliesToo (fold step (step whole entry) log) (fold step part (cond b (entry ∷ filter own log) (filter own log)))
      at true is rest = rest (step part entry) (own-entry entry.author entry.deed whole part too)
      at false is rest = rest part (other-entry entry.author entry.deed whole part is too)

  -- an author's transaction in flight is in flight by its own entries alone
  pub own-flight : (log : List GateEntry) (flight : BegunRequest) → flight_of log ≡ Some flight → flight.author ≡ number
      → flight_of (filter own log) ≡ Some flight
  own-flight log = own-entries log None None (λ flight is mine. is)

-- what a hand finds in flight is of another one, if no transaction of its own is
pub other-hand : KeepLaws → (shared : Shared) (hand : Hand) → IsHand shared hand → HasLanded hand → (gate : ℕ) (flight : BegunRequest)
    → flight_of (gate_log (seen_by hand) gate) ≡ Some flight → flight.author ≢ hand_number hand
other-hand laws shared hand is landed gate flight flies mine =
    none-some flight (sym (landed gate) ∙ ap (λ (log : List GateEntry). flight_of log) (laws.own_at_gate shared hand is gate)
    ∙ own-flight (hand_number hand) (gate_log (seen_by hand) gate) flight flies mine)
