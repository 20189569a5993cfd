-- The machines of a core, each by itself.
-- Used by `join` and `split`.
use Rattle.std.proofs.Common.{◌≡◌, ℕ, ◌<◌, List, [], ◌∷◌, length, map, AllPairs, Option, None, Some, refl, sym, ap, subst, ◌∙◌, arith}
use Rattle.std.specs.Prelude.{slice_get, slice_index_or}
use Rattle.std.proofs.lemmas.List.{length-map}
use Rattle.std.proofs.lemmas.List.FromFn.{get_or-map-range_with_len, length-map-range_with_len}
use Rattle.std.proofs.lemmas.Option.{none-some, slice_get-get_or, slice_get_within}
use Rattle.vector_stamp.specs.declared.clock.Clock.{Clock}
use Rattle.program_defs.specs.declared.script.Script.{Script}
use Rattle.weave_entries.specs.declared.oracle_log.OracleEntry.{OracleEntry}
use Rattle.weave_entries.specs.declared.session_log.SessionEntry.{SessionEntry}
use Rattle.weave_entries.specs.declared.store_log.StoreEntry.{StoreEntry}
use Rattle.weave_entries.specs.GateReplay.{flight_of}
use Rattle.weave_entries.specs.SessionReplay.{IsSessionLog}
use Rattle.weave_account.specs.declared.account.Account.{Account}
use Rattle.weave_account.specs.Account.{gate_log, session_log, NoneInFlight}
use Rattle.weave_account.specs.Sessions.{requests_of_session}
use Rattle.step_rules.specs.CoreState.{CoreState}
use Rattle.step_rules.specs.IsCore.{IsCore}
use Rattle.weaver_core.specs.Sessions.{AreNumbered, ClientTable, SessionValues, log_of_client, no_values, requests_in, values_at, values_of}
use Rattle.weaver_core.specs.Cores.{AreOf, MachinesView, machines_of}
use Rattle.weaver_core.specs.GateTable.{AreGatesInOrder, GateTable, log_of_gate}
use Rattle.weaver_core.specs.ShardTable.{AreShardsInOrder, ShardTable, log_of_shard}
use Rattle.weaver_core.specs.Splitting.{AreAllByLog, ArePartsFor, AreValuesByLog, CanBeJoined, IsClientByLog, account_of, state_of}
use Rattle.weaver_core.specs.declared.client.Client.{Client}
use Rattle.weaver_core.specs.declared.split.Split.{Split}
use Rattle.weaver_core.proofs.Tables.{image-at}
use Rattle.weaver_core.proofs.Turns.{place-of}
use Rattle.step_rules.proofs.SessionTurns.{at-place}

-- the state of a split core is that of the machines that have the logs, and notices, of its parts
pub state-of-parts : (table : GateTable) (store : List StoreEntry) (oracle : List OracleEntry) (rows : ShardTable) (clients : ClientTable) (notices : List Clock) (split : Split)
    → map log_of_gate split.gates.items ≡ table.logs → map log_of_shard split.shards.items ≡ rows.logs → map log_of_client split.clients.items ≡ clients.logs
    → split.store ≡ store → split.oracle ≡ oracle → split.notices.items ≡ notices → state_of split ≡ (machines_of table store oracle rows clients notices).state
state-of-parts table store oracle rows clients notices split gate-logs shard-logs client-logs store-is oracle-is notices-are = λ i. record {
  account = record { gates = gate-logs i; store = store-is i; oracle = oracle-is i; shards = shard-logs i; sessions = client-logs i };
  notices = notices-are i;
}

module _ (script : Script) (table : GateTable) (store : List StoreEntry) (oracle : List OracleEntry) (rows : ShardTable)
    (clients : ClientTable) (notices : List Clock) (are : AreOf script (machines_of table store oracle rows clients notices)) (split : Split) where
  -- the parts of machines of a script are parts for it
  pub parts-for : AreGatesInOrder (length split.gates.items) table.shards split.gates.items → map log_of_gate split.gates.items ≡ table.logs
      → AreShardsInOrder rows.gates split.shards.items → map log_of_shard split.shards.items ≡ rows.logs
      → map requests_in split.clients.items ≡ clients.requests → ArePartsFor script split
  parts-for gates-order gate-logs shards-order shard-logs requests =
      let gate-count : length split.gates.items ≡ script.gates = sym (length-map split.gates.items log_of_gate) ∙ ap length gate-logs ∙ are.frame.gates in
      record {
        gate_count = gate-count;
        gates = λ home gate at. record {
          home_is = gates-order.homes home gate at;
          gates_are = gates-order.each_gates home gate at ∙ gate-count;
          shards_are = gates-order.each_shards home gate at ∙ are.frame.shards;
        };
        shard_count = sym (length-map split.shards.items log_of_shard) ∙ ap length shard-logs ∙ are.core.account.shards.as_many;
        shards = λ number shard at. record {
          number_is = shards-order.numbers number shard at;
          gates_are = shards-order.each_gates number shard at ∙ are.frame.senders;
        };
        requests = requests ∙ are.frame.requests;
      }

-- and they can be joined, if no transaction is in flight
pub can-be-joined : (machines : MachinesView) (split : Split) → AreOf split.script machines → AreAllByLog split.script machines.state.account machines.values → NoneInFlight machines.state.account
    → state_of split ≡ machines.state → ArePartsFor split.script split → AreNumbered split.clients.items → map values_of split.clients.items ≡ machines.values → CanBeJoined split
can-be-joined machines split are all landed state-is parts numbered values-are = record {
  limits = are.limits;
  parts = parts;
  core = subst (IsCore split.script) (sym state-is) are.core;
  clients = λ client has. by-log client (place-of split.clients.items client has);
  landed = λ home. ap (λ (account : Account). flight_of (gate_log account home)) account-is ∙ landed home;
}
  where
    account-is : account_of split ≡ machines.state.account
    account-is = ap (λ (state : CoreState). state.account) state-is

    by-log : (client : Client) → (n : ℕ) × (slice_get split.clients.items n ≡ Some client) → IsClientByLog split.script (account_of split) client
    by-log client place =
        let n = place.0 in
        let at = place.1 in
        let many = sym (length-map split.clients.items values_of) ∙ ap length values-are ∙ all.many in
        let below = slice_get_within split.clients.items n client at in
        let mine = all.each n (omega (arith, below, many)) in
        let log : session_log machines.state.account n ≡ client.log.items = ap (λ (account : Account). session_log account n) (sym account-is) ∙ image-at log_of_client split.clients.items n client at [] in
        let values : values_at machines.values n ≡ values_of client = ap (λ (all : List SessionValues). values_at all n) (sym values-are) ∙ image-at values_of split.clients.items n client at no_values in
        let right = subst (λ (account : Account). AreValuesByLog split.script account client.log.items (values_of client)) (sym account-is)
        (subst (AreValuesByLog split.script machines.state.account client.log.items) values (subst (λ (l : List SessionEntry). AreValuesByLog split.script machines.state.account l (values_at machines.values n)) log mine)) in
        record { session = (numbered n client at).state; running = right.running; replies = right.replies }

-- Parts that are joined

module _ (split : Split) (can : CanBeJoined split) where
  -- the gatekeepers are in order, and made for the script's number of shards
  pub joined-gates : AreGatesInOrder (length split.gates.items) split.script.shards split.gates.items
  joined-gates = record {
    each_gates = λ home gate at. (can.parts.gates home gate at).gates_are ∙ sym can.parts.gate_count;
    homes = λ home gate at. (can.parts.gates home gate at).home_is;
    each_shards = λ home gate at. (can.parts.gates home gate at).shards_are;
  }

  -- the shards are in order, and made for the script's number of gatekeepers
  pub joined-shards : AreShardsInOrder split.script.gates split.shards.items
  joined-shards = record {
    numbers = λ number shard at. (can.parts.shards number shard at).number_is;
    each_gates = λ number shard at. (can.parts.shards number shard at).gates_are;
  }

  count : length split.clients.items ≡ 64
  count = sym (length-map split.clients.items requests_in) ∙ ap length can.parts.requests ∙ length-map-range_with_len (requests_of_session split.script) 0 64

  -- the requests of a client are its session's
  its-requests : (n : ℕ) (client : Client) → slice_get split.clients.items n ≡ Some client → client.session.requests ≡ requests_of_session split.script n
  its-requests n client at =
      let below = slice_get_within split.clients.items n client at in
      sym (image-at requests_in split.clients.items n client at []) ∙ ap (λ (rs : List (List ℕ)). slice_index_or rs n []) can.parts.requests
      ∙ get_or-map-range_with_len (requests_of_session split.script) 0 64 n n [] (let many = count in omega (arith, below, many)) (omega arith)

  its-log : (n : ℕ) (client : Client) → slice_get split.clients.items n ≡ Some client → session_log (account_of split) n ≡ client.log.items
  its-log n client at = image-at log_of_client split.clients.items n client at []

  -- each client has its place as its number, and is at the end of its log
  pub joined-clients : ((script : Script) (session : ℕ) → AllPairs (λ (a b : ℕ). a < b) (requests_of_session script session)) → AreNumbered split.clients.items
  joined-clients rise n client at =
      let requests = its-requests n client at in
      record {
        state = (can.clients client (at-place split.clients.items n client at)).session;
        right = subst (λ (rs : List ℕ). IsSessionLog n rs client.log.items) (sym requests) (subst (λ (l : List SessionEntry). IsSessionLog n (requests_of_session split.script n) l) (its-log n client at) (can.core.account.sessions.logs n));
        rising = subst (λ (rs : List ℕ). AllPairs (λ (a b : ℕ). a < b) rs) (sym requests) (rise split.script n);
      }

  -- the machines are those of the script
  pub joined-are : (machines : MachinesView) → machines.state ≡ state_of split → machines.frame.gates ≡ length split.gates.items → machines.frame.shards ≡ split.script.shards → machines.frame.senders ≡ split.script.gates
      → machines.frame.requests ≡ map requests_in split.clients.items → AreOf split.script machines
  joined-are machines state-is frame-gates frame-shards frame-senders frame-requests = record {
    limits = can.limits;
    frame = record {
      gates = frame-gates ∙ can.parts.gate_count;
      shards = frame-shards;
      senders = frame-senders;
      requests = frame-requests ∙ can.parts.requests;
    };
    core = subst (IsCore split.script) (sym state-is) can.core;
  }

  -- the values of the clients of joined parts are those of the logs
  pub joined-values : AreAllByLog split.script (account_of split) (map values_of split.clients.items)
  joined-values = record {
    many = length-map split.clients.items values_of ∙ count;
    each = λ n below. by (slice_get split.clients.items n) refl (let many = count in omega (arith, below, many));
  }
    where
      past : (xs : List Client) (n : ℕ) → n < length xs → slice_get xs n ≡ None → ⊥
      past [] n less none = omega (arith, less)
      past (x ∷ xs) n less none = none-some _ (sym none ∙ slice_get-get_or (x ∷ xs) n x less)

      by : {n : ℕ} (o : Option Client) → slice_get split.clients.items n ≡ o → n < length split.clients.items → AreValuesByLog split.script (account_of split) (session_log (account_of split) n) (values_at (map values_of split.clients.items) n)
      by {n} (Some client) at below =
          let mine = can.clients client (at-place split.clients.items n client at) in
          subst (λ (l : List SessionEntry). AreValuesByLog split.script (account_of split) l (values_at (map values_of split.clients.items) n)) (sym (its-log n client at))
          (subst (AreValuesByLog split.script (account_of split) client.log.items) (sym (image-at values_of split.clients.items n client at no_values)) (record { running = mine.running; replies = mine.replies }))
      by {n} None at below = absurd (past split.clients.items n below at)

  module _ (table : GateTable) (rows : ShardTable) (clients : ClientTable) (machines : MachinesView)
      (is : machines ≡ machines_of table split.store split.oracle rows clients split.notices.items)
      (table-is : table ≡ record { shards = split.script.shards; logs = map log_of_gate split.gates.items })
      (rows-are : rows ≡ record { gates = split.script.gates; logs = map log_of_shard split.shards.items })
      (requests : clients.requests ≡ map requests_in split.clients.items) (logs : clients.logs ≡ map log_of_client split.clients.items)
      (values : clients.values ≡ map values_of split.clients.items) where
    state-is : machines.state ≡ state_of split
    state-is = ap (λ (m : MachinesView). m.state) is ∙ (λ i. record {
      account = record { gates = (table-is i).logs; store = split.store; oracle = split.oracle; shards = (rows-are i).logs; sessions = logs i };
      notices = split.notices.items;
    })

    are-of : AreOf split.script machines
    are-of = joined-are machines state-is
        (ap (λ (m : MachinesView). m.frame.gates) is ∙ ap (λ (t : GateTable). length t.logs) table-is ∙ length-map split.gates.items log_of_gate)
        (ap (λ (m : MachinesView). m.frame.shards) is ∙ ap (λ (t : GateTable). t.shards) table-is)
        (ap (λ (m : MachinesView). m.frame.senders) is ∙ ap (λ (t : ShardTable). t.gates) rows-are)
        (ap (λ (m : MachinesView). m.frame.requests) is ∙ requests)

    values-kept : AreAllByLog split.script machines.state.account machines.values
    values-kept = subst (λ (one : CoreState). AreAllByLog split.script one.account machines.values) (sym state-is)
        (subst (AreAllByLog split.script (account_of split)) (sym (ap (λ (m : MachinesView). m.values) is ∙ values)) joined-values)

    -- the joined machines have the state of the parts, are of the script, and their values are those of the logs
    pub joined : (machines.state ≡ state_of split) × (AreOf split.script machines × AreAllByLog split.script machines.state.account machines.values)
    joined = (state-is, (are-of, values-kept))
