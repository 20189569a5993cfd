use Rattle.std.proofs.Common.{◌≡◌, ◌&&◌, ◌∙◌, IsTrue, length, ap, sym, subst}
use Rattle.std.specs.Prelude.{◌↔◌}
use Rattle.std.specs.List.{list_all}
use Rattle.program_defs.specs.Limits.{IsWithinLimits, are_counts_within_limits, is_request_within}
use Rattle.program_defs.proofs.WithinLimits.{within-limits}
use Rattle.program_defs.proofs.script.Script.is_within_limits.Goals as goal

pub returns : goal.returns
returns c =
    let script = c.args.self.now in
    let few : c.is_small-few.result ≡ are_counts_within_limits script.gates script.shards (length script.requests) = c.is_small-few.ensures ∙ ap (λ requests. are_counts_within_limits script.gates script.shards (length requests)) c.as_slice.ensures in
    let each : c.are_requests_within.result ≡ list_all (is_request_within script.gates) script.requests = c.are_requests_within.ensures ∙ ap (list_all (is_request_within script.gates)) c.as_slice-2.ensures in
    subst (λ b. IsTrue b ↔ IsWithinLimits script) (sym (λ i. few i && each i)) (within-limits script)
