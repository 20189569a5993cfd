-- Settling is a list of calls: the head accepts the ask, and down the chain each live replica gets what it lacks.
-- Used by SettleCalls.
use Rattle.std.proofs.Common.{◌≡◌, ℕ, zero, suc, ◌+◌, ◌<◌, Bool, true, false, List, [], ◌∷◌, ◌++◌, length, set, drop, Option, Some, inl, inr, refl, sym, ap, ◌∙◌, append_assoc, append-nil, arith, slice_get, eq-eqb, drop_of_length-le}
use Rattle.std.specs.Option.{option_map}
use Rattle.std.proofs.lemmas.Bool.{cases_lt, cond-true, cond-false, and_from}
use Rattle.std.proofs.lemmas.List.{length-append, get_or_append_left}
use Rattle.std.proofs.Math.Seq.{drop-append_seam}
use Rattle.oracle_chain.specs.declared.ask.Ask.{Ask}
use Rattle.oracle_chain.specs.Chain.{ReplicaView, Message, ReplicaChainView, replica_at, is_live, asks_at, head_number, number_after, no_replica}
use Rattle.oracle_chain.specs.Calls.{message_if, messages_sent, after_forward, after_message, after_message_of, after_delivery, levelled, messages_from, levelling_messages, Call, after_call, after_calls}
use Rattle.oracle_chain.specs.IsReplicaChain.{IsPrefixOf}
use Rattle.oracle_chain.specs.Judging.{bringing_calls, levelling_calls}
use Rattle.oracle_chain.proofs.Begins.{get-after}

-- the replica after a first part
at-end : (done : List ReplicaView) (r : ReplicaView) (rs : List ReplicaView) → replica_at (done ++ r ∷ rs) (length done) ≡ r
at-end [] r rs = refl
at-end (d ∷ done) r rs = at-end done r rs

set-end : (done : List ReplicaView) (r new : ReplicaView) (rs : List ReplicaView) → set (done ++ r ∷ rs) (length done) new ≡ done ++ new ∷ rs
set-end [] r new rs = refl
set-end (d ∷ done) r new rs = ap (λ (l : List ReplicaView). d ∷ l) (set-end done r new rs)

at-before : (done rest : List ReplicaView) (i : ℕ) → i < length done → replica_at (done ++ rest) i ≡ replica_at done i
at-before done rest i below = get_or_append_left done rest no_replica i below

head-end : (done : List ReplicaView) (r : ReplicaView) (rs : List ReplicaView) → r.live ≡ true → ((k : ℕ) → k < length done → is_live done k ≡ false) → head_number (done ++ r ∷ rs) ≡ Some (length done)
head-end [] r rs live none = cond-true _ _ _ live
head-end (d ∷ done) r rs live none = cond-false _ _ _ (none 0 (omega arith)) ∙ ap (option_map suc) (head-end done r rs live (λ k below. none (suc k) (omega (arith, below))))

next-end : (done : List ReplicaView) (from : ℕ) (r : ReplicaView) (rs : List ReplicaView) → from < length done → r.live ≡ true → ((k : ℕ) → from < k → k < length done → is_live done k ≡ false) → number_after (done ++ r ∷ rs) from ≡ Some (length done)
next-end [] from r rs within live none = absurd (omega (arith, within))
next-end (d ∷ done) zero r rs within live none = ap (option_map suc) (head-end done r rs live (λ k below. none (suc k) (omega arith) (omega (arith, below))))
next-end (d ∷ done) (suc from) r rs within live none = ap (option_map suc) (next-end done from r rs (omega (arith, within)) live (λ k after below. none (suc k) (omega (arith, after)) (omega (arith, below))))

push-length : {A : Type 0} (xs : List A) (x : A) → length (xs ++ x ∷ []) ≡ suc (length xs)
push-length [] x = refl
push-length (y ∷ xs) x = ap suc (push-length xs x)

-- Bringing asks from a live replica, which has the list, to the next one

module _ (list : List Ask) (done : List ReplicaView) (rs : List ReplicaView) (from : ℕ) (within : from < length done) (live : is_live done from ≡ true) (has : asks_at done from ≡ list)
    (between : (k : ℕ) → from < k → k < length done → is_live done k ≡ false) where
  abbrev here : List Ask → List ReplicaView
  here xs = done ++ record { live = true; asks = xs } ∷ rs

  sent-is : (xs : List Ask) (position : ℕ) (ask : Ask) → slice_get list position ≡ Some ask → messages_sent (here xs) from position ≡ record { addressee = length done; position = position; ask = ask } ∷ []
  sent-is xs position ask at-position =
      let same = at-before done (record { live = true; asks = xs } ∷ rs) from within in
      cond-true _ _ _ (ap (λ (r : ReplicaView). r.live) same ∙ live)
      ∙ ap (λ o. message_if o position (slice_get (asks_at (here xs) from) position)) (next-end done from (record { live = true; asks = xs }) rs within refl between)
      ∙ ap (λ o. message_if (Some (length done)) position o) (ap (λ l. slice_get l position) (ap (λ (r : ReplicaView). r.asks) same ∙ has) ∙ at-position)

  taken-is : (xs : List Ask) (position : ℕ) (ask : Ask) → position ≡ length xs → after_message (here xs) (record { addressee = length done; position = position; ask = ask }) ≡ here (xs ++ ask ∷ [])
  taken-is xs position ask next =
      let same = at-end done (record { live = true; asks = xs }) rs in
      let long : length (asks_at (here xs) (length done)) ≡ length xs = ap (λ (r : ReplicaView). length r.asks) same in
      cond-true _ _ _ (and_from _ _ (ap (λ (r : ReplicaView). r.live) same) (eq-eqb position (length (asks_at (here xs) (length done))) (next ∙ sym long)))
      ∙ ap (λ (r : ReplicaView). set (here xs) (length done) (record { live = r.live; asks = r.asks ++ ask ∷ [] })) same
      ∙ set-end done (record { live = true; asks = xs }) (record { live = true; asks = xs ++ ask ∷ [] }) rs

  brings : (xs ys : List Ask) (ms : List Message) (position number : ℕ) → list ≡ xs ++ ys → position ≡ length xs → number ≡ length ms
      → after_calls (record { replicas = here xs; messages = ms }) (bringing_calls from position number ys)
      ≡ record { replicas = here (xs ++ ys); messages = ms ++ messages_from (length done) position ys }
  brings xs [] ms position number is at count = λ i. record { replicas = here (sym (append-nil xs) i); messages = sym (append-nil ms) i }
  brings xs (y ∷ ys) ms position number is at count =
      let at-position : slice_get list position ≡ Some y = ap (λ l. slice_get l position) is ∙ ap (λ n. slice_get (xs ++ y ∷ ys) n) at ∙ get-after xs (y ∷ ys) in
      let message : Message = record { addressee = length done; position = position; ask = y } in
      let in-messages : slice_get (ms ++ message ∷ []) number ≡ Some message = ap (λ n. slice_get (ms ++ message ∷ []) n) count ∙ get-after ms (message ∷ []) in
      let forwarded : after_forward (record { replicas = here xs; messages = ms }) from position ≡ record { replicas = here xs; messages = ms ++ message ∷ [] } =
      ap (λ (l : List Message). record { replicas = here xs; messages = ms ++ l }) (sent-is xs position y at-position) in
      let delivered : after_delivery (record { replicas = here xs; messages = ms ++ message ∷ [] }) number ≡ record { replicas = here (xs ++ y ∷ []); messages = ms ++ message ∷ [] } =
      ap (λ (o : Option Message). record { replicas = after_message_of (here xs) o; messages = ms ++ message ∷ [] }) in-messages
      ∙ ap (λ (l : List ReplicaView). record { replicas = l; messages = ms ++ message ∷ [] }) (taken-is xs position y at) in
      let rest = brings (xs ++ y ∷ []) ys (ms ++ message ∷ []) (suc position) (suc number) (is ∙ sym (append_assoc xs (y ∷ []) ys)) (ap suc at ∙ sym (push-length xs y)) (ap suc count ∙ sym (push-length ms message)) in
      ap (λ (c : ReplicaChainView). after_calls (after_delivery c number) (bringing_calls from (suc position) (suc number) ys)) forwarded
      ∙ ap (λ (c : ReplicaChainView). after_calls c (bringing_calls from (suc position) (suc number) ys)) delivered
      ∙ rest
      ∙ (λ i. record { replicas = here (append_assoc xs (y ∷ []) ys i); messages = append_assoc ms (message ∷ []) (messages_from (length done) (suc position) ys) i })

calls-append : (chain : ReplicaChainView) (first second : List Call) → after_calls chain (first ++ second) ≡ after_calls (after_calls chain first) second
calls-append chain [] second = refl
calls-append chain (call ∷ first) second = calls-append (after_call chain call) first second

messages-length : (addressee position : ℕ) (asks : List Ask) → length (messages_from addressee position asks) ≡ length asks
messages-length addressee position [] = refl
messages-length addressee position (ask ∷ asks) = ap suc (messages-length addressee (suc position) asks)

-- each live replica's list begins this one
abbrev AllBegin : List Ask → List ReplicaView → Type 0
AllBegin list rs = (j : ℕ) → is_live rs j ≡ true → IsPrefixOf (asks_at rs j) list

-- the calls level the replicas after a first part, in which a live one has the list and none after it is live
abbrev Levels : List Ask → List ReplicaView → Type 0
Levels list rs = (done : List ReplicaView) (from : ℕ) (ms : List Message) (number message : ℕ) → from < length done → is_live done from ≡ true → asks_at done from ≡ list
    → ((k : ℕ) → from < k → k < length done → is_live done k ≡ false) → number ≡ length done → message ≡ length ms
    → after_calls (record { replicas = done ++ rs; messages = ms }) (levelling_calls list from number message rs)
    ≡ record { replicas = done ++ levelled list rs; messages = ms ++ levelling_messages list number rs }

abbrev SameChain : ReplicaChainView → ReplicaChainView → Type 0
SameChain a b = a ≡ b

-- the state with one replica more in the first part
moved : (done rs : List ReplicaView) (r : ReplicaView) (ms : List Message) → SameChain (record { replicas = (done ++ r ∷ []) ++ rs; messages = ms }) (record { replicas = done ++ r ∷ rs; messages = ms })
moved done rs r ms = ap (λ (l : List ReplicaView). record { replicas = l; messages = ms }) (append_assoc done (r ∷ []) rs)

level-live-one : (list xs : List Ask) (rs : List ReplicaView) → IsPrefixOf xs list → Levels list rs → Levels list (record { live = true; asks = xs } ∷ rs)
level-live-one list xs rs on rest done from ms number message within live has between at count =
    let zs : List Ask = drop (length xs) list in
    let is : list ≡ xs ++ zs = on.1 ∙ ap (λ l. xs ++ l) (sym (ap (λ l. drop (length xs) l) on.1 ∙ drop-append_seam xs on.0)) in
    let new : ReplicaView = record { live = true; asks = list } in
    let first = brings list done rs from within live has between xs zs ms (length xs) message is refl count in
    let sent : List Message = messages_from number (length xs) zs in
    let seen : SameChain (record { replicas = done ++ record { live = true; asks = xs ++ zs } ∷ rs; messages = ms ++ messages_from (length done) (length xs) zs }) (record { replicas = (done ++ new ∷ []) ++ rs; messages = ms ++ sent }) =
    (λ i. record { replicas = done ++ record { live = true; asks = sym is i } ∷ rs; messages = ms ++ messages_from (sym at i) (length xs) zs })
    ∙ sym (moved done rs new (ms ++ sent)) in
    let here-now : replica_at (done ++ new ∷ []) number ≡ new = ap (λ n. replica_at (done ++ new ∷ []) n) at ∙ at-end done new [] in
    let longer = push-length done new in
    let next = rest (done ++ new ∷ []) number (ms ++ sent) (suc number) (message + length zs)
    (omega (arith, longer, at))
    (ap (λ (r : ReplicaView). r.live) here-now)
    (ap (λ (r : ReplicaView). r.asks) here-now)
    (λ k after below. absurd (omega (arith, after, below, longer, at)))
    (ap suc at ∙ sym longer)
    (let many = length-append ms sent in let few = messages-length number (length xs) zs in omega (arith, many, few, count)) in
    calls-append (record { replicas = done ++ record { live = true; asks = xs } ∷ rs; messages = ms }) (bringing_calls from (length xs) message zs) (levelling_calls list number (suc number) (message + length zs) rs)
    ∙ ap (λ (c : ReplicaChainView). after_calls c (levelling_calls list number (suc number) (message + length zs) rs)) (first ∙ seen)
    ∙ next
    ∙ (λ i. record { replicas = append_assoc done (new ∷ []) (levelled list rs) i; messages = append_assoc ms sent (levelling_messages list (suc number) rs) i })

level-stopped-one : (list xs : List Ask) (rs : List ReplicaView) → Levels list rs → Levels list (record { live = false; asks = xs } ∷ rs)
level-stopped-one list xs rs rest done from ms number message within live has between at count =
    let r : ReplicaView = record { live = false; asks = xs } in
    let longer = push-length done r in
    let same = at-before done (r ∷ []) from within in
    let next = rest (done ++ r ∷ []) from ms (suc number) message
    (omega (arith, longer, within))
    (ap (λ (x : ReplicaView). x.live) same ∙ live)
    (ap (λ (x : ReplicaView). x.asks) same ∙ has)
    (λ k after below. none k after below)
    (ap suc at ∙ sym longer)
    count in
    ap (λ (c : ReplicaChainView). after_calls c (levelling_calls list from (suc number) message rs)) (sym (moved done rs r ms))
    ∙ next
    ∙ moved done (levelled list rs) r (ms ++ levelling_messages list (suc number) rs)
  where
    none : (k : ℕ) → from < k → k < length (done ++ record { live = false; asks = xs } ∷ []) → is_live (done ++ record { live = false; asks = xs } ∷ []) k ≡ false
    none k after below = elim (cases_lt k (length done)) [
      | inl before ↦ ap (λ (x : ReplicaView). x.live) (at-before done (record { live = false; asks = xs } ∷ []) k before) ∙ between k after before
      | inr over ↦ (let longer = push-length done (record { live = false; asks = xs }) in let e : k ≡ length done = omega (arith, over, below, longer) in
          ap (λ (x : ReplicaView). x.live) (ap (λ n. replica_at (done ++ record { live = false; asks = xs } ∷ []) n) e ∙ at-end done (record { live = false; asks = xs }) []))
    ]

level-one : (list xs : List Ask) (b : Bool) (rs : List ReplicaView) → (b ≡ true → IsPrefixOf xs list) → Levels list rs → Levels list (record { live = b; asks = xs } ∷ rs)
level-one list xs true rs on rest = level-live-one list xs rs (on refl) rest
level-one list xs false rs on rest = level-stopped-one list xs rs rest

level-none : (list : List Ask) → Levels list []
level-none list done from ms number message within live has between at count = λ i. record { replicas = done ++ []; messages = sym (append-nil ms) i }

levels : (list : List Ask) (rs : List ReplicaView) → AllBegin list rs → Levels list rs
levels list [] begin = level-none list
levels list (r ∷ rs) begin = level-one list r.asks r.live rs (begin 0) (levels list rs (λ j. begin (suc j)))

-- the same from the start, where the first live replica has the list
abbrev LevelsFirst : List Ask → List ReplicaView → Type 0
LevelsFirst list rs = (done : List ReplicaView) (from : ℕ) (ms : List Message) (number message : ℕ) → number ≡ length done → message ≡ length ms
    → after_calls (record { replicas = done ++ rs; messages = ms }) (levelling_calls list from number message rs)
    ≡ record { replicas = done ++ levelled list rs; messages = ms ++ levelling_messages list number rs }

-- the first live one has the list
abbrev FirstHas : List Ask → List ReplicaView → Type 0
FirstHas list rs = (j : ℕ) → is_live rs j ≡ true → ((k : ℕ) → k < j → is_live rs k ≡ false) → asks_at rs j ≡ list

first-live-one : (list xs : List Ask) (rs : List ReplicaView) → xs ≡ list → Levels list rs → LevelsFirst list (record { live = true; asks = xs } ∷ rs)
first-live-one list xs rs same rest done from ms number message at count =
    let r : ReplicaView = record { live = true; asks = xs } in
    let new : ReplicaView = record { live = true; asks = list } in
    let lacks-none : drop (length xs) list ≡ [] = drop_of_length-le list (let e = ap (λ (l : List Ask). length l) same in omega (arith, e)) in
    let longer = push-length done new in
    let here-now : replica_at (done ++ new ∷ []) number ≡ new = ap (λ n. replica_at (done ++ new ∷ []) n) at ∙ at-end done new [] in
    let next = rest (done ++ new ∷ []) number ms (suc number) message
    (omega (arith, longer, at))
    (ap (λ (x : ReplicaView). x.live) here-now)
    (ap (λ (x : ReplicaView). x.asks) here-now)
    (λ k after below. absurd (omega (arith, after, below, longer, at)))
    (ap suc at ∙ sym longer)
    count in
    let none-sent : message + 0 ≡ message = omega arith in
    (λ i. after_calls (record { replicas = done ++ record { live = true; asks = same i } ∷ rs; messages = ms }) (bringing_calls from (length xs) message (lacks-none i) ++ levelling_calls list number (suc number) (message + length (lacks-none i)) rs))
    ∙ ap (λ n. after_calls (record { replicas = done ++ new ∷ rs; messages = ms }) (levelling_calls list number (suc number) n rs)) none-sent
    ∙ ap (λ (c : ReplicaChainView). after_calls c (levelling_calls list number (suc number) message rs)) (sym (moved done rs new ms))
    ∙ next
    ∙ moved done (levelled list rs) new (ms ++ levelling_messages list (suc number) rs)
    ∙ (λ i. record { replicas = done ++ new ∷ levelled list rs; messages = ms ++ (messages_from number (length xs) (sym lacks-none i) ++ levelling_messages list (suc number) rs) })

first-stopped-one : (list xs : List Ask) (rs : List ReplicaView) → LevelsFirst list rs → LevelsFirst list (record { live = false; asks = xs } ∷ rs)
first-stopped-one list xs rs rest done from ms number message at count =
    let r : ReplicaView = record { live = false; asks = xs } in
    let next = rest (done ++ r ∷ []) from ms (suc number) message (ap suc at ∙ sym (push-length done r)) count in
    ap (λ (c : ReplicaChainView). after_calls c (levelling_calls list from (suc number) message rs)) (sym (moved done rs r ms))
    ∙ next
    ∙ moved done (levelled list rs) r (ms ++ levelling_messages list (suc number) rs)

first-one : (list xs : List Ask) (b : Bool) (rs : List ReplicaView) → (b ≡ true → xs ≡ list) → Levels list rs → (b ≡ false → LevelsFirst list rs) → LevelsFirst list (record { live = b; asks = xs } ∷ rs)
first-one list xs true rs same rest first = first-live-one list xs rs (same refl) rest
first-one list xs false rs same rest first = first-stopped-one list xs rs (first refl)

first-none : (list : List Ask) → LevelsFirst list []
first-none list done from ms number message at count = λ i. record { replicas = done ++ []; messages = sym (append-nil ms) i }

-- from the head on
pub levels-first : (list : List Ask) (rs : List ReplicaView) → AllBegin list rs → FirstHas list rs → LevelsFirst list rs
levels-first list [] begin first = first-none list
levels-first list (r ∷ rs) begin first =
    first-one list r.asks r.live rs (λ live. first 0 live (λ k below. absurd (omega (arith, below)))) (levels list rs (λ j. begin (suc j)))
    (λ stopped. levels-first list rs (λ j. begin (suc j)) (λ j live none. first (suc j) live (before stopped j none)))
  where
    before : r.live ≡ false → (j : ℕ) → ((k : ℕ) → k < j → is_live rs k ≡ false) → (k : ℕ) → k < suc j → is_live (r ∷ rs) k ≡ false
    before stopped j none zero below = stopped
    before stopped j none (suc k) below = none k (omega (arith, below))
