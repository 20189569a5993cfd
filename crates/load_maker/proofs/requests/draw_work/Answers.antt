use Rattle.std.proofs.Common.{◌==◌, ap}
use Rattle.std.proofs.lemmas.Bool.{lt-ltb}
use Rattle.load_maker.specs.Words.{words_from}
use Rattle.load_maker.proofs.RequestForms.{look_kind, change_kind, no_program, no_program_more}
use Rattle.load_maker.proofs.requests.draw_work.Goals as goal
use Rattle.load_maker.proofs.requests.draw_work.Goals.{else-kind-eq0-via-then-kind-eq0+else-counts-lt-MOST_PROGRAMS, else-kind-eq0-via-else-kind-eq0}

pub returns-then-counts-lt-MOST_PROGRAMS-clause-drawn : goal.returns-then-counts-lt-MOST_PROGRAMS-clause-drawn
returns-then-counts-lt-MOST_PROGRAMS-clause-drawn c =
    look_kind c.args.counts.now.programs c.args.counts.now.gets c.args.kind (words_from c.args.words.now) (ap (λ kind. kind == 0) c.if-kind-eq0.true)
    (lt-ltb c.args.counts.now.programs 1000 c.if-counts-lt-MOST_PROGRAMS.true) c.draw_program.ensures

pub returns-clause-drawn : goal.returns-clause-drawn
returns-clause-drawn c =
    change_kind c.args.counts.now.programs c.args.counts.now.gets c.args.kind (words_from c.args.words.now)
    (elim c.else-kind-eq0.branch [
      | else-kind-eq0-via-then-kind-eq0+else-counts-lt-MOST_PROGRAMS w ↦ no_program_more c.args.kind c.args.counts.now.programs w.if-counts-lt-MOST_PROGRAMS.false
      | else-kind-eq0-via-else-kind-eq0 w ↦ no_program c.args.kind c.args.counts.now.programs w.if-kind-eq0.false
    ])
    c.draw-count.ensures.drawn c.draw-count.ensures.left c.in_ok-draw_ops.ensures.drawn
