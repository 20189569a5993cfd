use Rattle.std.proofs.Common.{List, [], sym, subst}
use Rattle.weave_entries.specs.SessionReplay.{SessionState}
use Rattle.weaver_core.specs.Sessions.{IsClientOf}
use Rattle.weave_entries.specs.declared.session_log.SessionEntry.{SessionEntry}
use Rattle.weaver_core.proofs.client.Client.new.Goals as goal

-- the session is the start of its requests, and the log is empty
pub returns-clause-client : goal.returns-clause-client
returns-clause-client c number =
    subst (λ (log : List SessionEntry). IsClientOf number c.new.result log) (sym c.new-3.ensures.items)
    (subst (λ (s : SessionState). IsClientOf number s []) (sym c.new.ensures) (record {
      state = sym (c.a_log_goes_on.ensures.at_first c.args.requests.items);
      right = c.a_log_goes_on.ensures.right_at_first number c.args.requests.items;
      rising = c.requires;
    }))
