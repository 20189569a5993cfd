use Rattle.load_maker.specs.Words.{words_from}
use Rattle.load_maker.proofs.RequestForms.{request_drawn}
use Rattle.load_maker.proofs.requests.draw_request.Goals as goal

pub returns-clause-drawn : goal.returns-clause-drawn
returns-clause-drawn c =
    request_drawn c.args.number c.args.counts.now.programs c.args.counts.now.gets (words_from c.args.words.now)
    c.draw-session.ensures.drawn c.draw-session.ensures.left c.draw-gate.ensures.drawn c.draw-gate.ensures.left
    c.draw-kind.ensures.drawn c.draw-kind.ensures.left c.numbered.ensures c.in_ok-draw_work.ensures.drawn
