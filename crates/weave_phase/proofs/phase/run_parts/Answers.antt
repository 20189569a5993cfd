use Rattle.std.proofs.Common.{List, length, map, All, Contains, Option, Some, refl, sym, ap, subst, ◌∙◌, arith}
use Rattle.std.specs.Prelude.{slice_get}
use Rattle.std.proofs.lemmas.List.{length-map}
use Rattle.weaver_core.specs.declared.client.Client.{Client}
use Rattle.weaver_core.specs.Splitting.{account_of}
use Rattle.weaver_locks.specs.declared.hand.Hand.{Hand}
use Rattle.weaver_locks.specs.Hands.{hand_number, IsHand}
use Rattle.weaver_workers.specs.Phases.{phase_end}
use Rattle.workers_account.specs.Phase.{IsPhaseRun}
use Rattle.weave_phase.specs.declared.seats.Seat.{Seat}
use Rattle.weave_phase.specs.Ran.{PartsAreOpened, WorkersHaveEnded}
use Rattle.weave_phase.specs.Seats.{hand_in, ArePutBack, AreTaken, HaveRun}
use Rattle.weave_phase.proofs.JoinedParts.{parts-go-on}
use Rattle.weave_phase.proofs.Opened.{clients-in-slots, written}
use Rattle.weave_phase.proofs.PhaseParts.{all-back, all-ended, client-none, client-there, hands-are, hands-count, machines-start, many-clients, many-left, run-is, seated, seats-enough, whole-run}
use Rattle.weave_phase.proofs.Ran.{all-done}
use Rattle.weave_phase.proofs.RanSeats.{all-numbers}
use Rattle.weave_phase.proofs.ReadySeats.{ready-seat}
use Rattle.weave_phase.proofs.phase.run_parts.Goals as goal

pub new-requires-clause-start : goal.new-requires-clause-start
new-requires-clause-start g c = machines-start c.phases_keep_their_laws.ensures c.args.phase c.args.split c.requires.parts

pub seat_all-requires-clause-there : goal.seat_all-requires-clause-there
seat_all-requires-clause-there g c = λ session h.
    clients-in-slots c.args.split.clients.items c.in_ok-slots.slots.items c.in_ok-slots.ensures
    (many-clients c.phases_keep_their_laws.ensures c.args.phase c.args.split c.requires.parts) session (c.requires.few session h)

pub run_all-requires-clause-ready : goal.run_all-requires-clause-ready
run_all-requires-clause-ready g c κs within = λ k seat at.
    let laws = c.phases_keep_their_laws.ensures in
    let split = c.args.split in
    let parts = c.requires.parts in
    let shared = c.in_ok-shared.shared in
    let hands = c.in_ok-shared.hands.items in
    let sessions = c.args.sessions.now in
    let made = c.in_ok-shared.ensures in
    let opened : PartsAreOpened split shared hands sessions = record {
      rising = c.requires.rising;
      few = c.requires.few;
      gates = (let e = made.gates in let k = split.gates.ok.0 in omega (arith, e, k));
      shards = (let e = made.shards in let k = split.shards.ok.0 in omega (arith, e, k));
      begins = made.start;
      of_locks = (let e = made.hand_count in let n = made.count in let k = c.in_ok-shared.hands.ok.0 in omega (arith, e, n, k));
      count = (let n = made.count in let k = c.in_ok-shared.hands.ok.0 in omega (arith, n, k));
      each = λ i hand low. made.hands i hand (let n = made.count in let k = c.in_ok-shared.hands.ok.0 in omega (arith, low, n, k));
    } in
    let seats = c.in_ok-seats.seats.items in
    let dealt = c.in_ok-seats.ensures.dealt split.clients.items (sym c.in_ok-slots.ensures) in
    ready-seat laws shared split.script c.args.phase (account_of split) split.clients.items sessions hands seats
    (seated laws c.args.phase split parts shared hands sessions opened seats dealt) k seat (ap (λ (l : List Seat). slice_get l k) (sym c.as_mut_slice.ensures.value) ∙ at)

pub unseat_all-requires-clause-clients : goal.unseat_all-requires-clause-clients
unseat_all-requires-clause-clients g c = λ k seat at low.
    let laws = c.phases_keep_their_laws.ensures in
    let split = c.args.split in
    let parts = c.requires.parts in
    let shared = c.in_ok-shared.shared in
    let hands = c.in_ok-shared.hands.items in
    let sessions = c.args.sessions.now in
    let made = c.in_ok-shared.ensures in
    let opened : PartsAreOpened split shared hands sessions = record {
      rising = c.requires.rising;
      few = c.requires.few;
      gates = (let e = made.gates in let k = split.gates.ok.0 in omega (arith, e, k));
      shards = (let e = made.shards in let k = split.shards.ok.0 in omega (arith, e, k));
      begins = made.start;
      of_locks = (let e = made.hand_count in let n = made.count in let k = c.in_ok-shared.hands.ok.0 in omega (arith, e, n, k));
      count = (let n = made.count in let k = c.in_ok-shared.hands.ok.0 in omega (arith, n, k));
      each = λ i hand low. made.hands i hand (let n = made.count in let k = c.in_ok-shared.hands.ok.0 in omega (arith, low, n, k));
    } in
    let seats = c.in_ok-seats.seats.items in
    let dealt = c.in_ok-seats.ensures.dealt split.clients.items (sym c.in_ok-slots.ensures) in
    let after = c.run_all.new.seats in
    let ran = subst (λ (l : List Seat). HaveRun shared split.script c.args.phase l after) c.as_mut_slice.ensures.value c.run_all.ensures.ran in
    let all = written c.in_ok-seats.seats.len after seats (let many = ran.many in let k = c.in_ok-seats.seats.ok.0 in omega (arith, many, k)) in
    let done = all-done after c.in_ok-run_all.ensures.done in
    client-there laws c.args.phase split parts shared hands sessions opened seats dealt after ran done k seat (ap (λ (l : List Seat). slice_get l k) (sym all) ∙ at) low

pub unseat_all-requires-clause-others : goal.unseat_all-requires-clause-others
unseat_all-requires-clause-others g c = λ k seat at high.
    let laws = c.phases_keep_their_laws.ensures in
    let split = c.args.split in
    let parts = c.requires.parts in
    let shared = c.in_ok-shared.shared in
    let hands = c.in_ok-shared.hands.items in
    let sessions = c.args.sessions.now in
    let made = c.in_ok-shared.ensures in
    let opened : PartsAreOpened split shared hands sessions = record {
      rising = c.requires.rising;
      few = c.requires.few;
      gates = (let e = made.gates in let k = split.gates.ok.0 in omega (arith, e, k));
      shards = (let e = made.shards in let k = split.shards.ok.0 in omega (arith, e, k));
      begins = made.start;
      of_locks = (let e = made.hand_count in let n = made.count in let k = c.in_ok-shared.hands.ok.0 in omega (arith, e, n, k));
      count = (let n = made.count in let k = c.in_ok-shared.hands.ok.0 in omega (arith, n, k));
      each = λ i hand low. made.hands i hand (let n = made.count in let k = c.in_ok-shared.hands.ok.0 in omega (arith, low, n, k));
    } in
    let seats = c.in_ok-seats.seats.items in
    let dealt = c.in_ok-seats.ensures.dealt split.clients.items (sym c.in_ok-slots.ensures) in
    let after = c.run_all.new.seats in
    let ran = subst (λ (l : List Seat). HaveRun shared split.script c.args.phase l after) c.as_mut_slice.ensures.value c.run_all.ensures.ran in
    let all = written c.in_ok-seats.seats.len after seats (let many = ran.many in let k = c.in_ok-seats.seats.ok.0 in omega (arith, many, k)) in
    let done = all-done after c.in_ok-run_all.ensures.done in
    client-none laws c.args.phase split parts shared hands sessions opened seats dealt after ran done k seat (ap (λ (l : List Seat). slice_get l k) (sym all) ∙ at) high

pub unseat_all-requires-clause-enough : goal.unseat_all-requires-clause-enough
unseat_all-requires-clause-enough g c =
    let laws = c.phases_keep_their_laws.ensures in
    let split = c.args.split in
    let parts = c.requires.parts in
    let shared = c.in_ok-shared.shared in
    let hands = c.in_ok-shared.hands.items in
    let sessions = c.args.sessions.now in
    let made = c.in_ok-shared.ensures in
    let opened : PartsAreOpened split shared hands sessions = record {
      rising = c.requires.rising;
      few = c.requires.few;
      gates = (let e = made.gates in let k = split.gates.ok.0 in omega (arith, e, k));
      shards = (let e = made.shards in let k = split.shards.ok.0 in omega (arith, e, k));
      begins = made.start;
      of_locks = (let e = made.hand_count in let n = made.count in let k = c.in_ok-shared.hands.ok.0 in omega (arith, e, n, k));
      count = (let n = made.count in let k = c.in_ok-shared.hands.ok.0 in omega (arith, n, k));
      each = λ i hand low. made.hands i hand (let n = made.count in let k = c.in_ok-shared.hands.ok.0 in omega (arith, low, n, k));
    } in
    let seats = c.in_ok-seats.seats.items in
    let dealt = c.in_ok-seats.ensures.dealt split.clients.items (sym c.in_ok-slots.ensures) in
    let after = c.run_all.new.seats in
    let ran = subst (λ (l : List Seat). HaveRun shared split.script c.args.phase l after) c.as_mut_slice.ensures.value c.run_all.ensures.ran in
    let all = written c.in_ok-seats.seats.len after seats (let many = ran.many in let k = c.in_ok-seats.seats.ok.0 in omega (arith, many, k)) in
    let done = all-done after c.in_ok-run_all.ensures.done in
    let enough = seats-enough laws c.args.phase split parts shared hands sessions opened seats dealt after ran done in
    let many = ran.many in
    let k = c.in_ok-seats.seats.ok.0 in
    omega (arith, enough, many, k)

pub unseat_all-requires-clause-there : goal.unseat_all-requires-clause-there
unseat_all-requires-clause-there g c = λ session h.
    let low = c.requires.few session h in
    let taken = c.in_ok-seats.ensures.taken.many in
    let filled = ap length c.in_ok-slots.ensures in
    let as_many = length-map c.args.split.clients.items Some in
    let clients = many-clients c.phases_keep_their_laws.ensures c.args.phase c.args.split c.requires.parts in
    let k = c.seat_all.new.slots.ok.0 in
    omega (arith, low, taken, filled, as_many, clients, k)

pub from_slots-requires : goal.from_slots-requires
from_slots-requires g c = λ place slot at.
    let laws = c.phases_keep_their_laws.ensures in
    let split = c.args.split in
    let parts = c.requires.parts in
    let shared = c.in_ok-shared.shared in
    let hands = c.in_ok-shared.hands.items in
    let sessions = c.args.sessions.now in
    let made = c.in_ok-shared.ensures in
    let opened : PartsAreOpened split shared hands sessions = record {
      rising = c.requires.rising;
      few = c.requires.few;
      gates = (let e = made.gates in let k = split.gates.ok.0 in omega (arith, e, k));
      shards = (let e = made.shards in let k = split.shards.ok.0 in omega (arith, e, k));
      begins = made.start;
      of_locks = (let e = made.hand_count in let n = made.count in let k = c.in_ok-shared.hands.ok.0 in omega (arith, e, n, k));
      count = (let n = made.count in let k = c.in_ok-shared.hands.ok.0 in omega (arith, n, k));
      each = λ i hand low. made.hands i hand (let n = made.count in let k = c.in_ok-shared.hands.ok.0 in omega (arith, low, n, k));
    } in
    let seats = c.in_ok-seats.seats.items in
    let dealt = c.in_ok-seats.ensures.dealt split.clients.items (sym c.in_ok-slots.ensures) in
    let after = c.run_all.new.seats in
    let ran = subst (λ (l : List Seat). HaveRun shared split.script c.args.phase l after) c.as_mut_slice.ensures.value c.run_all.ensures.ran in
    let all = written c.in_ok-seats.seats.len after seats (let many = ran.many in let k = c.in_ok-seats.seats.ok.0 in omega (arith, many, k)) in
    let done = all-done after c.in_ok-run_all.ensures.done in
    let between = c.seat_all.new.slots.items in
    let slots = c.unseat_all.new.slots.items in
    let taken = subst (λ (l : List (Option Client)). AreTaken sessions l between) c.in_ok-slots.ensures c.in_ok-seats.ensures.taken in
    let back = subst (λ (l : List Seat). ArePutBack sessions l between slots) all c.in_ok-hands.ensures.back in
    all-back laws c.args.phase split parts shared hands sessions opened seats dealt after ran done between slots taken back place slot at

pub close-gates-requires-clause-each : goal.close-gates-requires-clause-each
close-gates-requires-clause-each g c =
    let laws = c.phases_keep_their_laws.ensures in
    let split = c.args.split in
    let parts = c.requires.parts in
    let shared = c.in_ok-shared.shared in
    let hands = c.in_ok-shared.hands.items in
    let sessions = c.args.sessions.now in
    let made = c.in_ok-shared.ensures in
    let opened : PartsAreOpened split shared hands sessions = record {
      rising = c.requires.rising;
      few = c.requires.few;
      gates = (let e = made.gates in let k = split.gates.ok.0 in omega (arith, e, k));
      shards = (let e = made.shards in let k = split.shards.ok.0 in omega (arith, e, k));
      begins = made.start;
      of_locks = (let e = made.hand_count in let n = made.count in let k = c.in_ok-shared.hands.ok.0 in omega (arith, e, n, k));
      count = (let n = made.count in let k = c.in_ok-shared.hands.ok.0 in omega (arith, n, k));
      each = λ i hand low. made.hands i hand (let n = made.count in let k = c.in_ok-shared.hands.ok.0 in omega (arith, low, n, k));
    } in
    let seats = c.in_ok-seats.seats.items in
    let dealt = c.in_ok-seats.ensures.dealt split.clients.items (sym c.in_ok-slots.ensures) in
    let after = c.run_all.new.seats in
    let ran = subst (λ (l : List Seat). HaveRun shared split.script c.args.phase l after) c.as_mut_slice.ensures.value c.run_all.ensures.ran in
    let all = written c.in_ok-seats.seats.len after seats (let many = ran.many in let k = c.in_ok-seats.seats.ok.0 in omega (arith, many, k)) in
    let done = all-done after c.in_ok-run_all.ensures.done in
    let between = c.seat_all.new.slots.items in
    let slots = c.unseat_all.new.slots.items in
    let taken = subst (λ (l : List (Option Client)). AreTaken sessions l between) c.in_ok-slots.ensures c.in_ok-seats.ensures.taken in
    let back = subst (λ (l : List Seat). ArePutBack sessions l between slots) all c.in_ok-hands.ensures.back in
    let left = c.in_ok-clients.clients.items in
    let left_is = c.in_ok-clients.ensures in
    let run = run-is laws c.args.phase split parts shared hands sessions opened seats dealt after ran done between slots taken back left left_is in
    let many = many-left laws c.args.phase split parts shared hands sessions opened seats dealt after ran done between slots taken back left left_is in
    let hands_are = c.in_ok-hands.ensures.hands ∙ ap (map (λ (seat : Seat). hand_in seat.worker)) all in
    subst (All (IsHand shared)) (sym hands_are)
    (hands-are laws c.args.phase split parts shared hands sessions opened seats dealt after ran done between slots taken back left left_is)

pub close-gates-requires-clause-all : goal.close-gates-requires-clause-all
close-gates-requires-clause-all g c = λ number low.
    let laws = c.phases_keep_their_laws.ensures in
    let split = c.args.split in
    let parts = c.requires.parts in
    let shared = c.in_ok-shared.shared in
    let hands = c.in_ok-shared.hands.items in
    let sessions = c.args.sessions.now in
    let made = c.in_ok-shared.ensures in
    let opened : PartsAreOpened split shared hands sessions = record {
      rising = c.requires.rising;
      few = c.requires.few;
      gates = (let e = made.gates in let k = split.gates.ok.0 in omega (arith, e, k));
      shards = (let e = made.shards in let k = split.shards.ok.0 in omega (arith, e, k));
      begins = made.start;
      of_locks = (let e = made.hand_count in let n = made.count in let k = c.in_ok-shared.hands.ok.0 in omega (arith, e, n, k));
      count = (let n = made.count in let k = c.in_ok-shared.hands.ok.0 in omega (arith, n, k));
      each = λ i hand low. made.hands i hand (let n = made.count in let k = c.in_ok-shared.hands.ok.0 in omega (arith, low, n, k));
    } in
    let seats = c.in_ok-seats.seats.items in
    let dealt = c.in_ok-seats.ensures.dealt split.clients.items (sym c.in_ok-slots.ensures) in
    let after = c.run_all.new.seats in
    let ran = subst (λ (l : List Seat). HaveRun shared split.script c.args.phase l after) c.as_mut_slice.ensures.value c.run_all.ensures.ran in
    let all = written c.in_ok-seats.seats.len after seats (let many = ran.many in let k = c.in_ok-seats.seats.ok.0 in omega (arith, many, k)) in
    let done = all-done after c.in_ok-run_all.ensures.done in
    let between = c.seat_all.new.slots.items in
    let slots = c.unseat_all.new.slots.items in
    let taken = subst (λ (l : List (Option Client)). AreTaken sessions l between) c.in_ok-slots.ensures c.in_ok-seats.ensures.taken in
    let back = subst (λ (l : List Seat). ArePutBack sessions l between slots) all c.in_ok-hands.ensures.back in
    let left = c.in_ok-clients.clients.items in
    let left_is = c.in_ok-clients.ensures in
    let run = run-is laws c.args.phase split parts shared hands sessions opened seats dealt after ran done between slots taken back left left_is in
    let many = many-left laws c.args.phase split parts shared hands sessions opened seats dealt after ran done between slots taken back left left_is in
    let hands_are = c.in_ok-hands.ensures.hands ∙ ap (map (λ (seat : Seat). hand_in seat.worker)) all in
    subst (λ (l : List Hand). Contains (map hand_number l) number) (sym hands_are)
    (all-numbers laws shared split.script c.args.phase (account_of split) split.clients.items sessions hands seats
    (seated laws c.args.phase split parts shared hands sessions opened seats dealt) left after many run number low)

pub close-gates-requires-clause-count : goal.close-gates-requires-clause-count
close-gates-requires-clause-count g c =
    let laws = c.phases_keep_their_laws.ensures in
    let split = c.args.split in
    let parts = c.requires.parts in
    let shared = c.in_ok-shared.shared in
    let hands = c.in_ok-shared.hands.items in
    let sessions = c.args.sessions.now in
    let made = c.in_ok-shared.ensures in
    let opened : PartsAreOpened split shared hands sessions = record {
      rising = c.requires.rising;
      few = c.requires.few;
      gates = (let e = made.gates in let k = split.gates.ok.0 in omega (arith, e, k));
      shards = (let e = made.shards in let k = split.shards.ok.0 in omega (arith, e, k));
      begins = made.start;
      of_locks = (let e = made.hand_count in let n = made.count in let k = c.in_ok-shared.hands.ok.0 in omega (arith, e, n, k));
      count = (let n = made.count in let k = c.in_ok-shared.hands.ok.0 in omega (arith, n, k));
      each = λ i hand low. made.hands i hand (let n = made.count in let k = c.in_ok-shared.hands.ok.0 in omega (arith, low, n, k));
    } in
    let seats = c.in_ok-seats.seats.items in
    let dealt = c.in_ok-seats.ensures.dealt split.clients.items (sym c.in_ok-slots.ensures) in
    let after = c.run_all.new.seats in
    let ran = subst (λ (l : List Seat). HaveRun shared split.script c.args.phase l after) c.as_mut_slice.ensures.value c.run_all.ensures.ran in
    let all = written c.in_ok-seats.seats.len after seats (let many = ran.many in let k = c.in_ok-seats.seats.ok.0 in omega (arith, many, k)) in
    let done = all-done after c.in_ok-run_all.ensures.done in
    let between = c.seat_all.new.slots.items in
    let slots = c.unseat_all.new.slots.items in
    let taken = subst (λ (l : List (Option Client)). AreTaken sessions l between) c.in_ok-slots.ensures c.in_ok-seats.ensures.taken in
    let back = subst (λ (l : List Seat). ArePutBack sessions l between slots) all c.in_ok-hands.ensures.back in
    let left = c.in_ok-clients.clients.items in
    let left_is = c.in_ok-clients.ensures in
    let run = run-is laws c.args.phase split parts shared hands sessions opened seats dealt after ran done between slots taken back left left_is in
    let many = many-left laws c.args.phase split parts shared hands sessions opened seats dealt after ran done between slots taken back left left_is in
    let hands_are = c.in_ok-hands.ensures.hands ∙ ap (map (λ (seat : Seat). hand_in seat.worker)) all in
    let same = ap length hands_are in
    let count = hands-count laws c.args.phase split parts shared hands sessions opened seats dealt after ran done between slots taken back left left_is in
    let k = c.in_ok-hands.hands.ok.0 in
    omega (arith, same, count, k)

pub returns : goal.returns
returns g c =
    let laws = c.phases_keep_their_laws.ensures in
    let split = c.args.split in
    let parts = c.requires.parts in
    let shared = c.in_ok-shared.shared in
    let hands = c.in_ok-shared.hands.items in
    let sessions = c.args.sessions.now in
    let made = c.in_ok-shared.ensures in
    let opened : PartsAreOpened split shared hands sessions = record {
      rising = c.requires.rising;
      few = c.requires.few;
      gates = (let e = made.gates in let k = split.gates.ok.0 in omega (arith, e, k));
      shards = (let e = made.shards in let k = split.shards.ok.0 in omega (arith, e, k));
      begins = made.start;
      of_locks = (let e = made.hand_count in let n = made.count in let k = c.in_ok-shared.hands.ok.0 in omega (arith, e, n, k));
      count = (let n = made.count in let k = c.in_ok-shared.hands.ok.0 in omega (arith, n, k));
      each = λ i hand low. made.hands i hand (let n = made.count in let k = c.in_ok-shared.hands.ok.0 in omega (arith, low, n, k));
    } in
    let seats = c.in_ok-seats.seats.items in
    let dealt = c.in_ok-seats.ensures.dealt split.clients.items (sym c.in_ok-slots.ensures) in
    let after = c.run_all.new.seats in
    let ran = subst (λ (l : List Seat). HaveRun shared split.script c.args.phase l after) c.as_mut_slice.ensures.value c.run_all.ensures.ran in
    let all = written c.in_ok-seats.seats.len after seats (let many = ran.many in let k = c.in_ok-seats.seats.ok.0 in omega (arith, many, k)) in
    let done = all-done after c.in_ok-run_all.ensures.done in
    let between = c.seat_all.new.slots.items in
    let slots = c.unseat_all.new.slots.items in
    let taken = subst (λ (l : List (Option Client)). AreTaken sessions l between) c.in_ok-slots.ensures c.in_ok-seats.ensures.taken in
    let back = subst (λ (l : List Seat). ArePutBack sessions l between slots) all c.in_ok-hands.ensures.back in
    let left = c.in_ok-clients.clients.items in
    let left_is = c.in_ok-clients.ensures in
    let run = run-is laws c.args.phase split parts shared hands sessions opened seats dealt after ran done between slots taken back left left_is in
    let many = many-left laws c.args.phase split parts shared hands sessions opened seats dealt after ran done between slots taken back left left_is in
    let hands_are = c.in_ok-hands.ensures.hands ∙ ap (map (λ (seat : Seat). hand_in seat.worker)) all in
    let phase_run = subst (λ (l : List Hand). IsPhaseRun shared split.script (phase_end split.script c.args.phase) (account_of split) split.clients.items left l) (sym hands_are)
    (whole-run laws c.args.phase split parts shared hands sessions opened seats dealt after ran done between slots taken back left left_is) in
    let ended = subst (λ (l : List Hand). WorkersHaveEnded shared split.script c.args.phase left l) (sym hands_are)
    (all-ended laws c.args.phase split parts shared hands sessions opened seats dealt after ran done between slots taken back left left_is c.requires.all) in
    let closed = c.close-gates.ensures in
    parts-go-on laws c.args.phase split parts shared c.in_ok-hands.hands.items
    (record {
      script = split.script;
      gates = c.close-gates.result.gates;
      store = c.close-gates.result.store;
      oracle = c.close-gates.result.oracle;
      shards = c.close-gates.result.shards;
      clients = c.in_ok-clients.clients;
      notices = split.notices;
    })
    refl refl phase_run ended
    (let n = closed.gates in let k = c.close-gates.result.gates.ok.0 in omega (arith, n, k))
    (let n = closed.shards in let k = c.close-gates.result.shards.ok.0 in omega (arith, n, k))
    closed.order closed.legal closed.within closed.of_hands closed.made
