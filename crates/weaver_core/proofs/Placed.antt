-- Of an entry of the oracle that no visit asked for, the pairs that are found are those placed in the account.
-- Used by Unordered.
use Rattle.std.proofs.Common.{◌≡◌, ℕ, List, [], ◌∷◌, Contains, Option, None, Some, refl, sym, ap, ◌∙◌}
use Rattle.std.specs.Prelude.{slice_get}
use Rattle.std.specs.List.{cons_option, filter_map, find}
use Rattle.std.specs.Option.{option_and_then, option_map, option_or}
use Rattle.weave_data.proofs.Images.{get-has}
use Rattle.weave_data.proofs.Members.{has_head, has_tail}
use Rattle.weave_data.proofs.Options.{or_none}
use Rattle.weave_data.specs.declared.name.Name.{Name}
use Rattle.vector_stamp.specs.declared.clock.Stamp.{Stamp}
use Rattle.vector_stamp.specs.Order.{same_stamp}
use Rattle.vector_stamp.specs.Settling.{SettledEntry}
use Rattle.report_rules.specs.declared.report.Pair.{Pair}
use Rattle.weave_entries.specs.StoreReplay.{Judgement, judgement_of, judgements_of}
use Rattle.weave_account.specs.declared.account.Account.{Account}
use Rattle.weave_account.specs.Account.{IsBegunStamp}
use Rattle.weave_account.specs.PairsByPlace.{placed_by, placed_pair, request_stamped, vertex_asked, vertex_visited}
use Rattle.weaver_core.specs.Reporting.{asked_by, asked_in, pairs_before, pairs_found}

none-left : {A B : Type 0} (f : A → Option B) → ((x : A) → f x ≡ None) → (xs : List A) → filter_map f xs ≡ []
none-left f none [] = refl
none-left f none (x ∷ xs) = (λ i. cons_option (none x i) (none-left f none xs i))

-- a pair of these requests for a vertex
abbrev joined : ℕ → ℕ → Name → Pair
joined r l v = record { vertex = v; earlier = r; later = l }

-- the vertex at a place of what was asked
at-asked : (o : Option Judgement) (place : ℕ) → option_and_then (λ (judged : Judgement). slice_get judged.asked place) o ≡ slice_get (asked_in o) place
at-asked None place = refl
at-asked (Some judged) place = refl

module _ (account : Account) (request_of : Stamp → Option ℕ) (requests : (event : Stamp) → IsBegunStamp account event → request_of event ≡ request_stamped account event)
    (judged : (event : Stamp) (r : ℕ) → request_stamped account event ≡ Some r → find (λ (one : Judgement). same_stamp one.stamp event) (judgements_of account.store) ≡ judgement_of r account.store)
  where
    vertex-is : (earlier later : Stamp) (r place : ℕ) → vertex_visited account.shards earlier later ≡ None → request_stamped account later ≡ Some r
        → option_or (vertex_asked account.store later place) (vertex_visited account.shards earlier later) ≡ slice_get (asked_by account.store r) place
    vertex-is earlier later r place unvisited is =
        ap (option_or (vertex_asked account.store later place)) unvisited
        ∙ or_none (vertex_asked account.store later place)
        ∙ ap (option_and_then (λ (one : Judgement). slice_get one.asked place)) (judged later r is)
        ∙ at-asked (judgement_of r account.store) place

    -- a pair with its later request
    pair-is : (event later : Stamp) (l place : ℕ) → vertex_visited account.shards event later ≡ None → request_stamped account later ≡ Some l → IsBegunStamp account event
        → option_and_then (λ (r : ℕ). option_map (joined r l) (slice_get (asked_by account.store l) place)) (request_of event) ≡ placed_pair account place (event, later)
    pair-is event later l place unvisited is begun =
        ap (option_and_then (λ (r : ℕ). option_map (joined r l) (slice_get (asked_by account.store l) place))) (requests event begun)
        ∙ by (request_stamped account event)
      where
        by : (o : Option ℕ) → option_and_then (λ (r : ℕ). option_map (joined r l) (slice_get (asked_by account.store l) place)) o
            ≡ option_and_then (λ (earlier : ℕ). option_and_then (λ (q : ℕ). option_map (joined earlier q)
            (option_or (vertex_asked account.store later place) (vertex_visited account.shards event later))) (request_stamped account later)) o
        by None = refl
        by (Some r) =
            ap (option_map (joined r l)) (sym (vertex-is event later l place unvisited is))
            ∙ sym (ap (option_and_then (λ (q : ℕ). option_map (joined r q) (option_or (vertex_asked account.store later place) (vertex_visited account.shards event later)))) is)

    -- and without one
    no-pair : (event later : Stamp) (place : ℕ) → request_stamped account later ≡ None → placed_pair account place (event, later) ≡ None
    no-pair event later place is = by (request_stamped account event)
      where
        by : (o : Option ℕ) → option_and_then (λ (earlier : ℕ). option_and_then (λ (q : ℕ). option_map (joined earlier q)
            (option_or (vertex_asked account.store later place) (vertex_visited account.shards event later))) (request_stamped account later)) o ≡ None
        by None = refl
        by (Some r) = ap (option_and_then (λ (q : ℕ). option_map (joined r q) (option_or (vertex_asked account.store later place) (vertex_visited account.shards event later)))) is

    -- the pairs found of an entry that no visit asked for are those placed in the account
    pub entry-placed : (entry : SettledEntry) → ((event : Stamp) → vertex_visited account.shards event entry.later ≡ None) → ((event : Stamp) → Contains (entry.later ∷ entry.earlier) event → IsBegunStamp account event) → pairs_found request_of account.store None entry ≡ placed_by account entry
    entry-placed entry unvisited begun =
        ap (pairs_before request_of account.store None entry) (requests entry.later (begun entry.later (has_head entry.later entry.earlier)))
        ∙ by (request_stamped account entry.later) refl
      where
        at-place : (l place : ℕ) → request_stamped account entry.later ≡ Some l → (o : Option Stamp) → slice_get entry.earlier place ≡ o
            → option_and_then (λ (event : Stamp). option_and_then (λ (r : ℕ). option_map (joined r l) (slice_get (asked_by account.store l) place)) (request_of event)) o
            ≡ option_and_then (λ (event : Stamp). placed_pair account place (event, entry.later)) o
        at-place l place is None at = refl
        at-place l place is (Some event) at = pair-is event entry.later l place (unvisited event) is (begun event (has_tail entry.later entry.earlier event (get-has entry.earlier place event at)))

        none-at : (place : ℕ) → request_stamped account entry.later ≡ None → (o : Option Stamp) → option_and_then (λ (event : Stamp). placed_pair account place (event, entry.later)) o ≡ None
        none-at place is None = refl
        none-at place is (Some event) = no-pair event entry.later place is

        by : (o : Option ℕ) → request_stamped account entry.later ≡ o → pairs_before request_of account.store None entry o ≡ placed_by account entry
        by None is = sym (none-left (λ (place : ℕ). option_and_then (λ (event : Stamp). placed_pair account place (event, entry.later)) (slice_get entry.earlier place)) (λ place. none-at place is (slice_get entry.earlier place)) entry.places)
        by (Some l) is = λ i. filter_map (λ (place : ℕ). at-place l place is (slice_get entry.earlier place) refl i) entry.places
