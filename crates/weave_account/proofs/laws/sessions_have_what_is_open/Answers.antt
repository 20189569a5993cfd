use Rattle.weave_account.proofs.Basis.{based}
use Rattle.weave_account.specs.Account.{gate_log}
use Rattle.weave_account.proofs.Requests.{each-once}
use Rattle.weave_account.proofs.OpenRequests.{flight-open, open-flies, open-runs, program-open}
use Rattle.weave_account.proofs.laws.sessions_have_what_is_open.Goals as goal

pub returns : goal.returns
returns c =
    let laws = c.the_crates_below_keep_their_laws.ensures in
    let ended = c.what_has_not_ended_goes_on.ensures in
    record {
      programs = λ script account limits is. program-open script account (based laws limits is) ended.running;
      no_other_programs = λ script account limits is. open-runs script account (based laws limits is) ended.running;
      flight = λ script account limits is. flight-open script account (based laws limits is) ended.running
          (λ g b flies. ((ended.flight g script.shards (gate_log account g) (is.gatekeepers.logs g) (each-once script account (based laws limits is) g) b).0 flies).1);
      no_other_flight = λ script account limits is. open-flies script account (based laws limits is) ended.running;
    }
