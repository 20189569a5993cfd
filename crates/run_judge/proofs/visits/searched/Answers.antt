use Rattle.std.proofs.Common.{sym, ap, ◌∙◌, [], List}
use Rattle.weave_data.specs.declared.name.Name.{Name}
use Rattle.graph_ops.specs.Graphs.{plain_of}
use Rattle.program_defs.specs.Asking.{HasAllRead}
use Rattle.program_defs.specs.Searching.{has_name}
use Rattle.program_defs.proofs.Asking.{note-more, same-next, visited-of-all}
use Rattle.program_defs.proofs.Ending.{fewer-left}
use Rattle.run_judge.proofs.VisitLaws.{among_so, name_more}
use Rattle.run_judge.proofs.visits.searched.Goals as goal

pub loop-v-init : goal.loop-v-init
loop-v-init c = λ program aim. record {
  read = record { reads = []; searched = c.in_ok-search.ensures.reads program aim; agree = λ v k. cc };
  noted = λ v. ap (λ (names : List Name). has_name names v) c.new-visits.ensures.items;
}

pub returns : goal.returns
returns c = λ program aim v.
    let so_far = c.loop-v.invariant program aim in
    let all : HasAllRead program (plain_of c.args.graph.now) c.loop-v.search = record { read = so_far.read; over = sym c.next.ensures ∙ c.in_default.is } in
    among_so c.loop-v.visits.items v _ (visited-of-all program (plain_of c.args.graph.now) c.loop-v.search c.loop-v.visits.items all so_far.noted v)

pub loop-v-preserved : goal.loop-v-preserved
loop-v-preserved c = λ program aim.
    note-more program _ c.loop-v.search c.reserve.new.self c.see.new.self c.in-Some.v _ c.loop-v.visits.items c.push.new.self.items (c.loop-v.invariant program aim) c.reserve.ensures.same c.find-state.ensures
    (λ reads h. c.see.ensures.reads program c.in-Some.v reads (same-next _ _ c.reserve.ensures.same ∙ sym c.next.ensures ∙ c.in-Some.is) h)
    (λ w. ap (λ (names : List Name). has_name names w) c.in_ok-push.ensures.items ∙ name_more c.loop-v.visits.items c.in-Some.v w)

pub loop-v-smaller : goal.loop-v-smaller
loop-v-smaller c =
    let is = c.requires in
    let so_far = c.loop-v.invariant is.0 is.1 in
    fewer-left is.0 c.args.graph.now c.args.aim c.loop-v.search so_far.read.reads c.loop-v.visits.items c.push.new.self.items c.in-Some.v is.1 so_far.read.searched so_far.read.agree so_far.noted (sym c.next.ensures ∙ c.in-Some.is)
    (λ w. ap (λ (names : List Name). has_name names w) c.in_ok-push.ensures.items ∙ name_more c.loop-v.visits.items c.in-Some.v w)
