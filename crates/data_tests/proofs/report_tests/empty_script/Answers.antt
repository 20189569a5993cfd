use Rattle.std.proofs.Common.{◌≡◌, ◌<◌, ◌^◌, List, [], length, sym, subst, arith}
use Rattle.std.specs.List.{AllByRecursion, IsDistinct}
use Rattle.weave_data.specs.Names.{same_name}
use Rattle.program_defs.specs.declared.script.Request.{Request}
use Rattle.program_defs.specs.Works.{ops_of}
use Rattle.weave_report.specs.TextOf.{request_names}
use Rattle.data_tests.proofs.report_tests.empty_script.Goals as goal

none_differ : IsDistinct same_name (request_names [])
unfolding IsDistinct
none_differ = tt

none_is_small : 0 < 2 ^ 32
none_is_small = omega arith

pub returns : goal.returns
returns c =
    let none : [] ≡ c.new.result = sym c.new.ensures in
    record {
      distinct = subst (λ (requests : List Request). IsDistinct same_name (request_names requests)) none none_differ;
      few_requests = subst (λ (requests : List Request). length requests < 2 ^ 32) none none_is_small;
      few_ops = subst (λ (requests : List Request). AllByRecursion (λ (request : Request). length (ops_of request.work) < 2 ^ 32) requests) none tt;
    }
