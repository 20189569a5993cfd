-- Each call leaves a chain, whose lists go on.
-- Used by `calls_keep_the_chain`, `tails_go_on`, AsJudge, Giving and SettleCalls.
use Rattle.std.proofs.Common.{◌≡◌, ◌≢◌, ℕ, zero, suc, ◌+◌, ◌<◌, true, false, cond, not, List, [], ◌∷◌, ◌++◌, length, set, drop, Option, Some, None, IsTrue, is_none, inl, inr, refl, sym, ap, subst, ◌∙◌, arith, slice_get, Contains, eqb-true, nat_eq}
use Rattle.std.proofs.lemmas.Bool.{cases_Bool, cases_lt, cond-true, cond-false, and_parts, eqb-false}
use Rattle.std.proofs.lemmas.Option.{slice_get_within, get_or_from_slice_get}
use Rattle.std.proofs.lemmas.List.Sums.{sum_by-set}
use Rattle.std.proofs.lemmas.List.Elements.{Contains-append_cases}
use Rattle.weave_data.proofs.Members.{has_none, has_head, has_read}
use Rattle.oracle_chain.specs.declared.ask.Ask.{Ask}
use Rattle.oracle_chain.specs.declared.ask.ChainFault.{ChainFault}
use Rattle.oracle_chain.specs.declared.ask.ChainFault.TheVariants.{Halted, Last}
use Rattle.oracle_chain.specs.Chain.{ReplicaView, Message, ReplicaChainView, is_live, asks_at, asks_of, live_count, head_number, number_after, tail_asks, no_replica}
use Rattle.oracle_chain.specs.Calls.{with_ask, with_ask_at, after_accept, message_if, messages_sent, after_forward, is_taken, after_message, after_message_of, after_delivery, stop_fault, after_stop, levelled, messages_from, messages_lacked, levelling_messages, after_levelling, after_settle, Call, Accept, Forward, Deliver, Stop, Answer, Settle, after_call, after_calls}
use Rattle.oracle_chain.specs.IsReplicaChain.{IsPrefixOf, IsSent, IsListed, IsReplicaChain, MayAsk, MayCall, MayCallAll}
use Rattle.oracle_chain.proofs.Begins.{get-on}
use Rattle.oracle_chain.proofs.Places.{live-within, head-first, next-is, some-head, live-counted}
use Rattle.oracle_chain.proofs.Growing.{Grows, grows-none, grows-on, sent-on, kept-on, not-before-begins, tail-on, ask-live, ask-here, ask-grows, ask-ordered, ask-from, stop-grows, stop-ordered, stop-asks, level-here, level-live, level-ordered, level-grows, level-from}
use Rattle.oracle_chain.proofs.Asking.{PartsAreCoherent, NoOthers, coherent-on, coherent-same, asks-on, asks-same}

abbrev CountedAs : ℕ → ℕ → Type 0
CountedAs a b = a ≡ b

-- what each call leaves: a chain, in which each list goes on
pub record Keeps (chain next : ReplicaChainView) : Type 0 where
  pub grows : Grows chain.replicas next.replicas
  pub is_chain : IsReplicaChain next

-- one call after another
pub keeps-on : (chain next last : ReplicaChainView) → Keeps chain next → Keeps next last → Keeps chain last
keeps-on chain next last first second = record {
  grows = grows-on chain.replicas next.replicas last.replicas first.grows second.grows;
  is_chain = second.is_chain;
}

keeps-none : (chain : ReplicaChainView) → IsReplicaChain chain → Keeps chain chain
keeps-none chain is = record { grows = grows-none chain.replicas; is_chain = is }

-- One more ask at a replica: at the head a new one, elsewhere one of a message

module _ (part : PartsAreCoherent) (chain : ReplicaChainView) (is : IsReplicaChain chain) where
  -- the head accepts an ask
  pub accept-at : (ask : Ask) (h : ℕ) → MayAsk chain ask → head_number chain.replicas ≡ Some h → Keeps chain (record chain { replicas = with_ask chain.replicas h ask })
  accept-at ask h may is-head =
      let rs = chain.replicas in
      let first = head-first rs h is-head in
      let within = live-within rs h first.0 in
      let grows = ask-grows rs h ask within in
      let from : NoOthers rs (with_ask rs h ask) (ask ∷ []) = λ j one h1. elim (ask-from rs h ask within j one h1) [
        | inl new ↦ inl (subst (λ (a : Ask). Contains (ask ∷ []) a) (sym new) (has_head ask []))
        | inr old ↦ inr (j, old)
      ] in
      record {
        grows = grows;
        is_chain = record {
          some_live = live-counted (with_ask rs h ask) h (subst (λ b. IsTrue b) (sym (ask-live rs h ask within h)) first.0);
          ordered = ask-ordered rs h ask within is.ordered first.0 (λ k below live. absurd (first.1 k below live));
          sent = λ message has. sent-on rs (with_ask rs h ask) message grows (is.sent message has);
          kept = λ message has. kept-on rs (with_ask rs h ask) message grows (is.kept message has);
          asks = asks-on rs (with_ask rs h ask) ask from may.is_ask is.asks;
          coherent = coherent-on part rs (with_ask rs h ask) ask from may.coherent;
        };
      }

  -- so an accept keeps the chain
  pub accept-keeps : (ask : Ask) → MayAsk chain ask → Keeps chain (after_accept chain ask)
  accept-keeps ask may =
      let head = some-head chain.replicas is.some_live in
      subst (λ o. Keeps chain (record chain { replicas = with_ask_at chain.replicas o ask })) (sym head.1) (accept-at ask head.0 may head.1)

  -- a message was sent by one that has its ask
  message-read : (o : Option ℕ) (position : ℕ) (a : Option Ask) (message : Message) → Contains (message_if o position a) message
      → (n : ℕ) × (ask : Ask) × (o ≡ Some n) × (a ≡ Some ask) × (record { addressee = n; position = position; ask = ask } ≡ message)
  message-read None position a message h = absurd (has_none message h)
  message-read (Some n) position None message h = absurd (has_none message h)
  message-read (Some n) position (Some ask) message h = elim (has_read _ [] message h) [
    | inl same ↦ (n, ask, refl, refl, same)
    | inr none ↦ absurd (has_none message none)
  ]

  sent-new : (i position : ℕ) (message : Message) → IsTrue (is_live chain.replicas i) → Contains (message_if (number_after chain.replicas i) position (slice_get (asks_at chain.replicas i) position)) message → IsSent chain.replicas message × IsListed chain.replicas message
  sent-new i position message live h =
      let rs = chain.replicas in
      let read = message-read (number_after rs i) position (slice_get (asks_at rs i) position) message h in
      let next = next-is rs i read.0 read.2 in
      let has : (k : ℕ) → k < read.0 → IsTrue (is_live rs k) → slice_get (asks_at rs k) position ≡ Some read.1 =
      λ k below live-k. elim (cases_lt i k) [
        | inl between ↦ absurd (next.2 k between below live-k)
        | inr over ↦ get-on (asks_at rs i) (asks_at rs k) position read.1 (not-before-begins rs k i is.ordered over live-k live) read.3
      ] in
      subst (λ (m : Message). IsSent rs m × IsListed rs m) read.4 (has, (i, read.3))

  -- a forward keeps it, since the sender has what it sends
  pub forward-keeps : (i position : ℕ) → Keeps chain (after_forward chain i position)
  forward-keeps i position = record {
    grows = grows-none chain.replicas;
    is_chain = record {
      some_live = is.some_live;
      ordered = is.ordered;
      sent = λ message h. (all message h).0;
      kept = λ message h. (all message h).1;
      asks = is.asks;
      coherent = is.coherent;
    };
  }
    where
      new : (message : Message) → Contains (messages_sent chain.replicas i position) message → IsSent chain.replicas message × IsListed chain.replicas message
      new message h = elim (cases_Bool (is_live chain.replicas i)) [
        | inl live ↦ sent-new i position message live (subst (λ (ms : List Message). Contains ms message) (cond-true _ _ _ live) h)
        | inr stopped ↦ absurd (has_none message (subst (λ (ms : List Message). Contains ms message) (cond-false _ _ _ stopped) h))
      ]

      all : (message : Message) → Contains (chain.messages ++ messages_sent chain.replicas i position) message → IsSent chain.replicas message × IsListed chain.replicas message
      all message h = elim (Contains-append_cases chain.messages (messages_sent chain.replicas i position) message h) [
        | inl old ↦ (is.sent message old, is.kept message old)
        | inr sent ↦ new message sent
      ]

  -- a message is taken
  take-at : (message : Message) → Contains chain.messages message → IsTrue (is_live chain.replicas message.addressee) → message.position ≡ length (asks_at chain.replicas message.addressee)
      → Keeps chain (record chain { replicas = with_ask chain.replicas message.addressee message.ask })
  take-at message has live next =
      let rs = chain.replicas in
      let i = message.addressee in
      let ask = message.ask in
      let within = live-within rs i live in
      let grows = ask-grows rs i ask within in
      let kept = is.kept message has in
      let from : NoOthers rs (with_ask rs i ask) [] = λ j one h1. elim (ask-from rs i ask within j one h1) [
        | inl new ↦ inr (kept.0, subst (λ (a : Ask). Contains (asks_at rs kept.0) a) (sym new) (message.position, slice_get_within (asks_at rs kept.0) message.position ask kept.1, get_or_from_slice_get (asks_at rs kept.0) message.position ask ask kept.1))
        | inr old ↦ inr (j, old)
      ] in
      record {
        grows = grows;
        is_chain = record {
          some_live = live-counted (with_ask rs i ask) i (subst (λ b. IsTrue b) (sym (ask-live rs i ask within i)) live);
          ordered = ask-ordered rs i ask within is.ordered live (λ k below live-k. subst (λ p. slice_get (asks_at rs k) p ≡ Some ask) next (is.sent message has k below live-k));
          sent = λ other h. sent-on rs (with_ask rs i ask) other grows (is.sent other h);
          kept = λ other h. kept-on rs (with_ask rs i ask) other grows (is.kept other h);
          asks = asks-same rs (with_ask rs i ask) from is.asks;
          coherent = coherent-same part rs (with_ask rs i ask) from is.coherent;
        };
      }

  message-keeps : (message : Message) → Contains chain.messages message → Keeps chain (record chain { replicas = after_message chain.replicas message })
  message-keeps message has = elim (cases_Bool (is_taken chain.replicas message)) [
    | inl taken ↦
        let both = and_parts (is_live chain.replicas message.addressee) (nat_eq message.position (length (asks_at chain.replicas message.addressee))) taken in
        subst (λ (rs : List ReplicaView). Keeps chain (record chain { replicas = rs })) (sym (cond-true _ _ _ taken)) (take-at message has both.0 (eqb-true _ _ both.1))
    | inr left ↦ subst (λ (rs : List ReplicaView). Keeps chain (record chain { replicas = rs })) (sym (cond-false _ _ _ left)) (keeps-none chain is)
  ]

  -- so a delivery keeps it
  pub deliver-keeps : (number : ℕ) → Keeps chain (after_delivery chain number)
  deliver-keeps number = at (slice_get chain.messages number) refl
    where
      at : (o : Option Message) → slice_get chain.messages number ≡ o → Keeps chain (record chain { replicas = after_message_of chain.replicas o })
      at None is-at = keeps-none chain is
      at (Some message) is-at = message-keeps message (number, slice_get_within chain.messages number message is-at, get_or_from_slice_get chain.messages number message message is-at)

  -- a replica stops
  stop-at : (i : ℕ) → IsTrue (is_live chain.replicas i) → live_count chain.replicas ≢ 1 → Keeps chain (record chain { replicas = set chain.replicas i (record { live = false; asks = asks_at chain.replicas i }) })
  stop-at i live more =
      let rs = chain.replicas in
      let within = live-within rs i live in
      let grows = stop-grows rs i within in
      let stopped : ReplicaView = record { live = false; asks = asks_at rs i } in
      let from : NoOthers rs (set rs i (record { live = false; asks = asks_at rs i })) [] = λ j one h1. inr (j, subst (λ xs. Contains xs one) (stop-asks rs i within j) h1) in
      let counted = sum_by-set (λ (x : ReplicaView). cond x.live 1 0) rs i (record { live = false; asks = asks_at rs i }) no_replica within in
      let one : CountedAs (cond (is_live rs i) 1 0) 1 = cond-true _ _ _ live in
      let some = is.some_live in
      record {
        grows = grows;
        is_chain = record {
          some_live = omega (arith, counted, one, some, more);
          ordered = stop-ordered rs i within is.ordered;
          sent = λ other h. sent-on rs _ other grows (is.sent other h);
          kept = λ other h. kept-on rs _ other grows (is.kept other h);
          asks = asks-same rs _ from is.asks;
          coherent = coherent-same part rs _ from is.coherent;
        };
      }

  -- so a stop keeps it
  pub stop-keeps : (i : ℕ) → Keeps chain (after_stop chain i)
  stop-keeps i = elim (cases_Bool (is_live chain.replicas i)) [
    | inr stopped ↦ subst (λ c. Keeps chain c) (sym (left (not-live stopped))) (keeps-none chain is)
    | inl live ↦ elim (cases_Bool (nat_eq (live_count chain.replicas) 1)) [
      | inl last ↦ subst (λ c. Keeps chain c) (sym (left (only live last))) (keeps-none chain is)
      | inr more ↦ subst (λ c. Keeps chain c) (sym (done (other live more))) (stop-at i live (eqb-false _ _ more))
    ]
  ]
    where
      not-live : is_live chain.replicas i ≡ false → stop_fault chain.replicas i ≡ Some Halted
      not-live stopped = cond-true _ _ _ (ap not stopped)

      only : is_live chain.replicas i ≡ true → nat_eq (live_count chain.replicas) 1 ≡ true → stop_fault chain.replicas i ≡ Some Last
      only live last = cond-false _ _ _ (ap not live) ∙ cond-true _ _ _ last

      other : is_live chain.replicas i ≡ true → nat_eq (live_count chain.replicas) 1 ≡ false → stop_fault chain.replicas i ≡ None
      other live more = cond-false _ _ _ (ap not live) ∙ cond-false _ _ _ more

      left : {fault : ChainFault} → stop_fault chain.replicas i ≡ Some fault → after_stop chain i ≡ chain
      left e = cond-false _ _ _ (ap (λ (o : Option ChainFault). is_none o) e)

      done : stop_fault chain.replicas i ≡ None → after_stop chain i ≡ record chain { replicas = set chain.replicas i (record { live = false; asks = asks_at chain.replicas i }) }
      done e = cond-true _ _ _ (ap (λ (o : Option ChainFault). is_none o) e)

-- All live replicas with one list

get-drop : {A : Type 0} (p k n : ℕ) (xs : List A) → n ≡ p + k → slice_get (drop p xs) k ≡ slice_get xs n
get-drop zero k n xs e = ap (λ m. slice_get xs m) (let f : k ≡ n = omega (arith, e) in f)
get-drop (suc p) k n [] e = refl
get-drop (suc p) k zero (x ∷ xs) e = absurd (omega (arith, e))
get-drop (suc p) k (suc n) (x ∷ xs) e = get-drop p k n xs (omega (arith, e))

-- each of these messages has its position's ask of the list
lacked-read : (list : List Ask) (addressee position : ℕ) (asks : List Ask) → ((k n : ℕ) → n ≡ position + k → slice_get asks k ≡ slice_get list n) → (message : Message) → Contains (messages_from addressee position asks) message → slice_get list message.position ≡ Some message.ask
lacked-read list addressee position [] from message h = absurd (has_none message h)
lacked-read list addressee position (ask ∷ asks) from message h = elim (has_read _ (messages_from addressee (suc position) asks) message h) [
  | inl here ↦ subst (λ (m : Message). slice_get list m.position ≡ Some m.ask) here (sym (from 0 position (omega arith)))
  | inr later ↦ lacked-read list addressee (suc position) asks (λ k n e. from (suc k) n (omega (arith, e))) message later
]

levelling-read : (list : List Ask) (number : ℕ) (rs : List ReplicaView) (message : Message) → Contains (levelling_messages list number rs) message → slice_get list message.position ≡ Some message.ask
levelling-read list number [] message h = absurd (has_none message h)
levelling-read list number (r ∷ rs) message h = elim (Contains-append_cases (messages_lacked list number r) (levelling_messages list (suc number) rs) message h) [
  | inl here ↦ (elim (cases_Bool r.live) [
    | inl live ↦ lacked-read list number (length r.asks) (drop (length r.asks) list) (λ k n e. get-drop (length r.asks) k n list e) message (subst (λ (ms : List Message). Contains ms message) (cond-true _ _ _ live) here)
    | inr stopped ↦ absurd (has_none message (subst (λ (ms : List Message). Contains ms message) (cond-false _ _ _ stopped) here))
  ])
  | inr later ↦ levelling-read list (suc number) rs message later
]

-- if the live replica h has a list that each live one's begins, all may have it
module _ (part : PartsAreCoherent) (chain : ReplicaChainView) (is : IsReplicaChain chain) (list : List Ask) (h : ℕ) (live-h : IsTrue (is_live chain.replicas h)) (has-list : asks_at chain.replicas h ≡ list)
    (begin : (j : ℕ) → IsTrue (is_live chain.replicas j) → IsPrefixOf (asks_at chain.replicas j) list) where
  level-from-none : NoOthers chain.replicas (levelled list chain.replicas) []
  level-from-none j one has = elim (level-from list chain.replicas j one has) [
    | inl in-list ↦ inr (h, subst (λ xs. Contains xs one) (sym has-list) in-list)
    | inr old ↦ inr (j, old)
  ]

  level-sent : (message : Message) → Contains (chain.messages ++ levelling_messages list 0 chain.replicas) message → IsSent (levelled list chain.replicas) message × IsListed (levelled list chain.replicas) message
  level-sent message has = elim (Contains-append_cases chain.messages (levelling_messages list 0 chain.replicas) message has) [
    | inl old ↦ (sent-on chain.replicas (levelled list chain.replicas) message (level-grows list chain.replicas begin) (is.sent message old), kept-on chain.replicas (levelled list chain.replicas) message (level-grows list chain.replicas begin) (is.kept message old))
    | inr new ↦
        let at-place = levelling-read list 0 chain.replicas message new in
        let here : (k : ℕ) → IsTrue (is_live chain.replicas k) → slice_get (asks_at (levelled list chain.replicas) k) message.position ≡ Some message.ask =
        λ k live. subst (λ xs. slice_get xs message.position ≡ Some message.ask) (sym (level-here list chain.replicas k live)) at-place in
        ((λ k below live. here k (subst (λ b. IsTrue b) (level-live list chain.replicas k) live)), (h, here h live-h))
  ]

  -- levelling keeps it
  pub level-keeps : Keeps chain (after_levelling list chain)
  level-keeps = record {
    grows = level-grows list chain.replicas begin;
    is_chain = record {
      some_live = live-counted (levelled list chain.replicas) h (subst (λ b. IsTrue b) (sym (level-live list chain.replicas h)) live-h);
      ordered = level-ordered list chain.replicas;
      sent = λ message has. (level-sent message has).0;
      kept = λ message has. (level-sent message has).1;
      asks = asks-same chain.replicas (levelled list chain.replicas) level-from-none is.asks;
      coherent = coherent-same part chain.replicas (levelled list chain.replicas) level-from-none is.coherent;
    };
  }

module _ (part : PartsAreCoherent) (chain : ReplicaChainView) (is : IsReplicaChain chain) where
  settle-at : (ask : Ask) (h : ℕ) → MayAsk chain ask → head_number chain.replicas ≡ Some h
      → Keeps chain (after_levelling (asks_at chain.replicas h ++ ask ∷ []) (record chain { replicas = with_ask chain.replicas h ask }))
  settle-at ask h may is-head =
      let rs = chain.replicas in
      let first = head-first rs h is-head in
      let within = live-within rs h first.0 in
      let mid : ReplicaChainView = record chain { replicas = with_ask rs h ask } in
      let accepted : Keeps chain mid = accept-at part chain is ask h may is-head in
      let was : (j : ℕ) → IsTrue (is_live (with_ask rs h ask) j) → IsTrue (is_live rs j) = λ j live. subst (λ b. IsTrue b) (ask-live rs h ask within j) live in
      let live-h : IsTrue (is_live (with_ask rs h ask) h) = subst (λ b. IsTrue b) (sym (ask-live rs h ask within h)) first.0 in
      let here = ask-here rs h ask within in
      let begin : (j : ℕ) → IsTrue (is_live (with_ask rs h ask) j) → IsPrefixOf (asks_at (with_ask rs h ask) j) (asks_at rs h ++ ask ∷ []) =
      λ j live. subst (λ xs. IsPrefixOf (asks_at (with_ask rs h ask) j) xs) here (
      not-before-begins (with_ask rs h ask) h j accepted.is_chain.ordered (elim (cases_lt j h) [ inl below ↦ absurd (first.1 j below (was j live)) | inr over ↦ over ]) live-h live) in
      keeps-on chain mid (after_levelling (asks_at rs h ++ ask ∷ []) mid) accepted (level-keeps part mid accepted.is_chain (asks_at rs h ++ ask ∷ []) h live-h here begin)

  -- so a settle keeps it
  pub settle-keeps : (ask : Ask) → MayAsk chain ask → Keeps chain (after_settle chain ask)
  settle-keeps ask may =
      let head = some-head chain.replicas is.some_live in
      subst (λ o. Keeps chain (after_levelling (asks_of chain.replicas o ++ ask ∷ []) (record chain { replicas = with_ask_at chain.replicas o ask }))) (sym head.1) (settle-at ask head.0 may head.1)

  -- each call leaves a chain, whose lists go on
  pub call-keeps : (call : Call) → MayCall chain call → Keeps chain (after_call chain call)
  call-keeps (Accept ask) may = accept-keeps part chain is ask may
  call-keeps (Forward number position) may = forward-keeps part chain is number position
  call-keeps (Deliver number) may = deliver-keeps part chain is number
  call-keeps (Stop number) may = stop-keeps part chain is number
  call-keeps (Answer position) may = keeps-none chain is
  call-keeps (Settle ask) may = settle-keeps ask may

-- and each list of calls
pub calls-keep : PartsAreCoherent → (chain : ReplicaChainView) (calls : List Call) → IsReplicaChain chain → MayCallAll chain calls → Keeps chain (after_calls chain calls)
calls-keep part chain [] is may = keeps-none chain is
calls-keep part chain (call ∷ calls) is may =
    let one = call-keeps part chain is call may.0 in
    keeps-on chain (after_call chain call) (after_calls (after_call chain call) calls) one (calls-keep part (after_call chain call) calls one.is_chain may.1)

-- the tail's list goes on over each list of calls
pub tails-go-on : PartsAreCoherent → (chain : ReplicaChainView) (calls : List Call) → IsReplicaChain chain → MayCallAll chain calls → IsPrefixOf (tail_asks chain.replicas) (tail_asks (after_calls chain calls).replicas)
tails-go-on part chain calls is may =
    let all = calls-keep part chain calls is may in
    tail-on chain.replicas (after_calls chain calls).replicas is.ordered all.grows is.some_live all.is_chain.some_live
