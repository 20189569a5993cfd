-- How the replicas get the head's list and one ask more, by what each lacks.
-- Used by `add_messages`, Levelled and Rooms.
use Rattle.std.proofs.Common.{◌≡◌, ◌≢◌, ℕ, zero, suc, ◌+◌, ◌-◌, ◌<◌, ◌≤◌, Bool, true, false, cond, not, ◌&&◌, List, [], ◌∷◌, ◌++◌, length, map, set, get_or, take, drop, IsTrue, Contains, inl, inr, refl, sym, ap, subst, ◌∙◌, arith, append-nil, eqb-true, nat_eq}
use Rattle.std.proofs.lemmas.Bool.{cases_Bool, cond-true, cond-false, eqb-false}
use Rattle.std.proofs.lemmas.List.{map-append, drop_all}
use Rattle.std.proofs.lemmas.List.Elements.{Contains-append_cases}
use Rattle.std.proofs.Math.Seq.{drop-append_seam, map-set_same}
use Rattle.weave_data.proofs.Members.{has_none, has_read}
use Rattle.oracle_chain.specs.declared.ask.Ask.{Ask}
use Rattle.oracle_chain.specs.declared.message.Sent.{Sent}
use Rattle.oracle_chain.specs.Chain.{ReplicaView, Message, replica_at, is_live, asks_at, no_replica}
use Rattle.oracle_chain.specs.Calls.{with_ask, levelled, messages_from, messages_lacked, levelling_messages}
use Rattle.oracle_chain.specs.IsReplicaChain.{IsPrefixOf}
use Rattle.oracle_chain.specs.Held.{no_ask, message_seen, lacked_by, with_more, sent_from, sent_to, sent_to_each}

-- What each replica lacks

with-none : (rs : List ReplicaView) → with_more rs [] ≡ rs
with-none [] = refl
with-none (r ∷ rs) = refl

-- the replica of a number gets its asks
pub with-one : (rs : List ReplicaView) (more : List (List Ask)) (n : ℕ) → n < length rs → n < length more
    → with_more rs (take (suc n) more) ≡ set (with_more rs (take n more)) n (record { live = is_live rs n; asks = asks_at rs n ++ get_or more n [] })
with-one [] more n within of = absurd (omega (arith, within))
with-one (r ∷ rs) [] n within of = absurd (omega (arith, of))
with-one (r ∷ rs) (m ∷ more) zero within of = ap (λ (l : List ReplicaView). record { live = r.live; asks = r.asks ++ m } ∷ l) (with-none rs)
with-one (r ∷ rs) (m ∷ more) (suc n) within of =
    ap (λ (l : List ReplicaView). record { live = r.live; asks = r.asks ++ m } ∷ l) (with-one rs more n (omega (arith, within)) (omega (arith, of)))

-- one that begins the list has the list with what it lacks
level-one : (list : List Ask) (r : ReplicaView) → (IsTrue r.live → IsPrefixOf r.asks list) → record { live = r.live; asks = r.asks ++ lacked_by list r } ≡ cond r.live (record { live = true; asks = list }) r
level-one list r begin = elim (cases_Bool r.live) [
  | inl live ↦
      let on = begin live in
      let whole : r.asks ++ lacked_by list r ≡ list =
      ap (λ (l : List Ask). r.asks ++ l) (cond-true _ _ _ live ∙ ap (λ (l : List Ask). drop (length r.asks) l) on.1 ∙ drop-append_seam r.asks on.0) ∙ sym on.1 in
      (λ i. record { live = live i; asks = whole i }) ∙ sym (cond-true _ _ _ live)
  | inr stopped ↦
      let same : r.asks ++ lacked_by list r ≡ r.asks = ap (λ (l : List Ask). r.asks ++ l) (cond-false _ _ _ stopped) ∙ append-nil r.asks in
      (λ i. record { live = r.live; asks = same i }) ∙ sym (cond-false _ _ _ stopped)
]

-- if each live one's list begins the list, all have it with what they lack
pub levels : (list : List Ask) (rs : List ReplicaView) → ((i : ℕ) → IsTrue (is_live rs i) → IsPrefixOf (asks_at rs i) list) → with_more rs (map (lacked_by list) rs) ≡ levelled list rs
levels list [] begin = refl
levels list (r ∷ rs) begin = λ i. level-one list r (begin 0) i ∷ levels list rs (λ k. begin (suc k)) i

-- whether the head has accepted the ask before makes no difference
pub level-accepted : (list : List Ask) (rs : List ReplicaView) (h : ℕ) (ask : Ask) → h < length rs → IsTrue (is_live rs h) → levelled list (with_ask rs h ask) ≡ levelled list rs
level-accepted list rs h ask within live =
    map-set_same (λ (replica : ReplicaView). cond replica.live (record { live = true; asks = list }) replica) rs h (record { live = is_live rs h; asks = asks_at rs h ++ ask ∷ [] }) no_replica
    (cond-true _ _ _ live ∙ sym (cond-true _ _ _ live))

-- The messages

-- a replica that has stopped is sent nothing
pub sent-stopped : (h many number : ℕ) (r : ReplicaView) → r.live ≡ false → sent_to h many number r ≡ []
sent-stopped h many number r stopped = cond-false _ _ _ (ap (λ b. b && not (nat_eq number h)) stopped)

-- nor is the head
pub sent-head : (h many number : ℕ) (r : ReplicaView) → nat_eq number h ≡ true → sent_to h many number r ≡ []
sent-head h many number r same = cond-false _ _ _ (ap (λ b. r.live && not b) same ∙ and-no r.live)
  where
    and-no : (b : Bool) → (b && false) ≡ false
    and-no true = refl
    and-no false = refl

-- another live one is sent what it lacks
pub sent-live : (h many number : ℕ) (r : ReplicaView) → r.live ≡ true → nat_eq number h ≡ false → sent_to h many number r ≡ sent_from h number (length r.asks) (many - length r.asks)
sent-live h many number r live other = cond-true _ _ _ (λ i. live i && not (other i))

-- the first of the messages from a position on
pub from-next : (h addressee position many : ℕ) → position < many
    → sent_from h addressee position (many - position) ≡ record { addressee = addressee; position = position; kept_by = h } ∷ sent_from h addressee (position + 1) (many - (position + 1))
from-next h addressee position many below =
    ap (sent_from h addressee position) (let e : many - position ≡ suc (many - (position + 1)) = omega (arith, below) in e)
    ∙ ap (λ n. record { addressee = addressee; position = position; kept_by = h } ∷ sent_from h addressee n (many - (position + 1))) (let e : suc position ≡ position + 1 = omega arith in e)

drop-next : (list : List Ask) (n : ℕ) → n < length list → drop n list ≡ get_or list n no_ask ∷ drop (suc n) list
drop-next [] n within = absurd (omega (arith, within))
drop-next (x ∷ list) zero within = refl
drop-next (x ∷ list) (suc n) within = drop-next list n (omega (arith, within))

-- the messages of a list that is kept
from-is : (rs : List ReplicaView) (list : List Ask) (h addressee position count : ℕ) → asks_at rs h ≡ list → count ≡ length list - position
    → map (message_seen rs) (sent_from h addressee position count) ≡ messages_from addressee position (drop position list)
from-is rs list h addressee position zero has many = ap (λ (l : List Ask). messages_from addressee position l) (sym (drop_all position list (omega (arith, many))))
from-is rs list h addressee position (suc count) has many =
    let within : position < length list = omega (arith, many) in
    let one : message_seen rs (record { addressee = addressee; position = position; kept_by = h }) ≡ record { addressee = addressee; position = position; ask = get_or list position no_ask } =
    ap (λ (l : List Ask). record { addressee = addressee; position = position; ask = get_or l position no_ask }) has in
    let rest = from-is rs list h addressee (suc position) count has (omega (arith, many)) in
    (λ i. one i ∷ rest i) ∙ ap (λ (l : List Ask). messages_from addressee position l) (sym (drop-next list position within))

-- those to one replica
to-is : (next : List ReplicaView) (list : List Ask) (h number : ℕ) (r new : ReplicaView) → asks_at next h ≡ list → (number ≢ h → new ≡ r) → (number ≡ h → new.asks ≡ list)
    → map (message_seen next) (sent_to h (length list) number r) ≡ messages_lacked list number new
to-is next list h number r new has other own = elim (cases_Bool (nat_eq number h)) [
  | inl same ↦
      let mine = own (eqb-true number h same) in
      let none : drop (length new.asks) list ≡ [] = drop_all (length new.asks) list (let long = ap (λ (l : List Ask). length l) mine in omega (arith, long)) in
      ap (map (message_seen next)) (sent-head h (length list) number r same)
      ∙ sym (empty new.live (ap (λ (l : List Ask). messages_from number (length new.asks) l) none))
  | inr apart ↦ subst (λ (x : ReplicaView). map (message_seen next) (sent_to h (length list) number r) ≡ messages_lacked list number x) (sym (other (eqb-false number h apart))) (elim (cases_Bool r.live) [
    | inl live ↦
        ap (map (message_seen next)) (sent-live h (length list) number r live apart)
        ∙ from-is next list h number (length r.asks) (length list - length r.asks) has refl
        ∙ sym (cond-true _ _ _ live)
    | inr stopped ↦ ap (map (message_seen next)) (sent-stopped h (length list) number r stopped) ∙ sym (cond-false _ _ _ stopped)
  ])
]
  where
    empty : (b : Bool) → {ms : List Message} → ms ≡ [] → cond b ms [] ≡ []
    empty true e = e
    empty false e = refl

-- and to all: of the replicas after the head has accepted its ask
pub to-each-is : (next : List ReplicaView) (list : List Ask) (h number : ℕ) (rs news : List ReplicaView) → asks_at next h ≡ list → length news ≡ length rs
    → ((k n : ℕ) → n ≡ number + k → n ≢ h → replica_at news k ≡ replica_at rs k) → ((k n : ℕ) → n ≡ number + k → n ≡ h → k < length rs → asks_at news k ≡ list)
    → map (message_seen next) (sent_to_each h (length list) number rs) ≡ levelling_messages list number news
to-each-is next list h number [] [] has long other own = refl
to-each-is next list h number [] (new ∷ news) has long other own = absurd (omega (arith, long))
to-each-is next list h number (r ∷ rs) [] has long other own = absurd (omega (arith, long))
to-each-is next list h number (r ∷ rs) (new ∷ news) has long other own =
    let first = to-is next list h number r new has (λ apart. other 0 number (omega arith) apart) (λ same. own 0 number (omega arith) same (omega arith)) in
    let rest = to-each-is next list h (suc number) rs news has (omega (arith, long)) (λ k n e. other (suc k) n (omega (arith, e))) (λ k n e same below. own (suc k) n (omega (arith, e)) same (omega (arith, below))) in
    map-append (message_seen next) (sent_to h (length list) number r) (sent_to_each h (length list) (suc number) rs) ∙ (λ i. first i ++ rest i)

from-kept : (h addressee position count many : ℕ) (one : Sent) → Contains (sent_from h addressee position count) one → position + count ≤ many → (one.kept_by ≡ h) × (one.position < many)
from-kept h addressee position zero many one has bound = absurd (has_none one has)
from-kept h addressee position (suc count) many one has bound = elim (has_read _ (sent_from h addressee (suc position) count) one has) [
  | inl here ↦ subst (λ (s : Sent). (s.kept_by ≡ h) × (s.position < many)) here (refl, omega (arith, bound))
  | inr later ↦ from-kept h addressee (suc position) count many one later (omega (arith, bound))
]

-- the head keeps all of them
pub to-each-kept : (h many number : ℕ) (rs : List ReplicaView) (one : Sent) → ((i : ℕ) → IsTrue (is_live rs i) → length (asks_at rs i) ≤ many) → Contains (sent_to_each h many number rs) one → (one.kept_by ≡ h) × (one.position < many)
to-each-kept h many number [] one shorter has = absurd (has_none one has)
to-each-kept h many number (r ∷ rs) one shorter has = elim (Contains-append_cases (sent_to h many number r) (sent_to_each h many (suc number) rs) one has) [
  | inl here ↦ elim (cases_Bool (r.live && not (nat_eq number h))) [
    | inl some ↦
        let short = shorter 0 (first-of r.live (not (nat_eq number h)) some) in
        from-kept h number (length r.asks) (many - length r.asks) many one (subst (λ (l : List Sent). Contains l one) (cond-true _ _ _ some) here) (omega (arith, short))
    | inr none ↦ absurd (has_none one (subst (λ (l : List Sent). Contains l one) (cond-false _ _ _ none) here))
  ]
  | inr later ↦ to-each-kept h many (suc number) rs one (λ i. shorter (suc i)) later
]
  where
    first-of : (a b : Bool) → (a && b) ≡ true → IsTrue a
    first-of true b e = refl
    first-of false b e = absurd (cc)
