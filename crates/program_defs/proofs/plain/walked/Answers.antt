use Rattle.std.proofs.Common.{sym, ap, ◌∙◌, []}
use Rattle.program_defs.specs.Searching.{has_name}
use Rattle.program_defs.proofs.Asking.{note-walk, same-next}
use Rattle.program_defs.proofs.Ending.{fewer-left}
use Rattle.program_defs.proofs.plain.walked.Goals as goal

pub loop-v-init : goal.loop-v-init
loop-v-init c = λ program aim. record {
  read = record { reads = []; walked = c.in_ok-search.ensures.reads program aim; agree = λ v k. cc };
  noted = λ v. ap (λ names. has_name names v) c.requires.none;
}

pub returns : goal.returns
returns c = λ program aim. let so_far = c.loop-v.invariant program aim in record {
  all = record { read = so_far.read; over = sym c.next.ensures ∙ c.in_default.is };
  noted = so_far.noted;
}

pub loop-v-preserved : goal.loop-v-preserved
loop-v-preserved c = λ program aim.
    note-walk program _ c.loop-v.search c.reserve.new.self c.see.new.self c.in-Some.v _ c.loop-v.visits c.put.new.self (c.loop-v.invariant program aim) c.reserve.ensures.same c.find-state.ensures
    (λ reads h. c.see.ensures.reads program c.in-Some.v reads (same-next _ _ c.reserve.ensures.same.search ∙ sym c.next.ensures ∙ c.in-Some.is) h) c.in_ok-put.ensures

pub loop-v-smaller : goal.loop-v-smaller
loop-v-smaller c =
    let is = c.requires.program in
    let so_far = c.loop-v.invariant is.0 is.1 in
    fewer-left is.0 c.args.graph.now c.args.aim c.loop-v.search.search so_far.read.reads c.loop-v.visits c.put.new.self c.in-Some.v is.1 so_far.read.walked.searched so_far.read.agree so_far.noted (sym c.next.ensures ∙ c.in-Some.is) c.in_ok-put.ensures
