-- One replica after another takes room for its asks, and then appends them.
-- Used by `append_to_each` and `reserve_in_each`.
use Rattle.std.proofs.Common.{◌≡◌, ℕ, zero, suc, ◌+◌, ◌<◌, List, [], ◌∷◌, ◌++◌, length, map, set, get_or, take, drop, inl, inr, sym, ap, subst, ◌∙◌, arith, get_or-set_same, get_or-set_other}
use Rattle.std.proofs.lemmas.Bool.{cases_eq}
use Rattle.std.proofs.lemmas.List.{map-set, get_or_read}
use Rattle.oracle_chain.specs.declared.ask.Ask.{Ask}
use Rattle.oracle_chain.specs.Chain.{ReplicaView, replica_at, is_live, asks_at}
use Rattle.oracle_chain.specs.Held.{HeldView, replica_of, no_held, with_more, HasRoomFor}
use Rattle.oracle_chain.proofs.Views.{held-at, held-length}
use Rattle.oracle_chain.proofs.Lacking.{with-one}

-- one more replica has room
pub room-more : (held : List HeldView) (lacked : List (List Ask)) (n : ℕ) (new : HeldView) (asks : List Ask) → n < length held → n < length lacked → asks ≡ get_or lacked n asks
    → ((i : ℕ) → i < n → HasRoomFor (get_or held i no_held) (get_or lacked i [])) → HasRoomFor new asks
    → (i : ℕ) → i < n + 1 → HasRoomFor (get_or (set held n new) i no_held) (get_or lacked i [])
room-more held lacked n new asks within of is before here i below = elim (cases_eq i n) [
  | inl same ↦
      subst (λ k. HasRoomFor (get_or (set held n new) k no_held) (get_or lacked k [])) (sym same) (
      subst (λ (h : HeldView). HasRoomFor h (get_or lacked n [])) (sym (get_or-set_same held n new no_held within)) (
      subst (λ (xs : List Ask). HasRoomFor new xs) (get_or_read lacked n asks of is []) here))
  | inr other ↦
      subst (λ (h : HeldView). HasRoomFor h (get_or lacked i [])) (sym (get_or-set_other held n i new no_held other)) (before i (omega (arith, below, other)))
]

-- what is left of a list, after its next element
pub left-next : {A : Type 0} (xs rest : List A) (n : ℕ) (x d : A) → x ∷ rest ≡ drop n xs → (n < length xs) × (x ≡ get_or xs n d) × (rest ≡ drop (n + 1) xs)
left-next [] rest zero x d e = absurd (cc)
left-next [] rest (suc n) x d e = absurd (cc)
left-next (y ∷ xs) rest zero x d e = (omega arith, ap (λ l. get_or l 0 d) e, ap (λ l. drop 1 l) e)
left-next (y ∷ xs) rest (suc n) x d e =
    let more = left-next xs rest n x d e in
    (let b = more.0 in omega (arith, b), more.1, more.2 ∙ ap (λ k. drop k (y ∷ xs)) (let f : suc (n + 1) ≡ suc n + 1 = omega arith in f))

-- one more replica has its asks
pub more-seen : (first held : List HeldView) (lacked : List (List Ask)) (n : ℕ) (one new : HeldView) (asks : List Ask) → n < length first → n < length lacked → asks ≡ get_or lacked n []
    → map replica_of held ≡ with_more (map replica_of first) (take n lacked) → one ≡ get_or first n no_held → new.live ≡ one.live → new.asks ≡ one.asks ++ asks
    → map replica_of (set held n new) ≡ with_more (map replica_of first) (take (n + 1) lacked)
more-seen first held lacked n one new asks within of is seen was live grown =
    let rs = map replica_of first in
    let here : replica_of one ≡ replica_at (map replica_of first) n = ap replica_of was ∙ sym (held-at first n) in
    let long = held-length first in
    let now : replica_of new ≡ record { live = is_live (map replica_of first) n; asks = asks_at (map replica_of first) n ++ get_or lacked n [] } =
    λ k. record { live = (live ∙ ap (λ (r : ReplicaView). r.live) here) k; asks = (grown ∙ (λ j. (ap (λ (r : ReplicaView). r.asks) here) j ++ is j)) k } in
    map-set replica_of held n new
    ∙ (λ k. set (seen k) n (now k))
    ∙ sym (with-one (map replica_of first) lacked n (omega (arith, within, long)) of)
    ∙ ap (λ k. with_more (map replica_of first) (take k lacked)) (let f : suc n ≡ n + 1 = omega arith in f)
