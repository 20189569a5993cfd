use Rattle.std.proofs.Common.{rules}
use Rattle.weaver_workers.proofs.There.{gate-on, gate-start, one-more-told, still-all-told, still-said, still-told}
use Rattle.weaver_workers.proofs.hearing.hear_news.Goals as goal

pub returns-then-from-to-clause-there : goal.returns-then-from-to-clause-there
returns-then-from-to-clause-there g c = gate-start c.args.shared.now c.args.to c.args.hand.now c.requires.hand

pub returns-then-from-to-clause-news : goal.returns-then-from-to-clause-news
returns-then-from-to-clause-news g c other = absurd (other c.if-from-to.true)

pub hear-requires-clause-hand : goal.hear-requires-clause-hand
hear-requires-clause-hand g c = (c.listen-clock.ensures.there c.args.to).carries.hand

pub returns-then-is_last-clause-there : goal.returns-then-is_last-clause-there
returns-then-is_last-clause-there g c = c.listen-clock.ensures.there c.args.to

pub returns-then-is_last-clause-told : goal.returns-then-is_last-clause-told
returns-then-is_last-clause-told g c =
    still-all-told _ _ c.args.to _ c.requires.told (c.listen-clock.ensures.there c.args.to).carries.only

pub returns-then-is_last-clause-news : goal.returns-then-is_last-clause-news
returns-then-is_last-clause-news g c other = record {
  clock = c.listen-clock.result;
  said = c.listen-clock.ensures.said;
  told = still-told _ _ c.args.to _ (c.requires.told c.args.from _ (c.is_last.ensures.told (search rules)))
      (c.listen-clock.ensures.there c.args.to).carries.only;
}

pub returns-in_err-hear-clause-there : goal.returns-in_err-hear-clause-there
returns-in_err-hear-clause-there g c = gate-on _ _ _ _ _ (c.listen-clock.ensures.there c.args.to) c.hear.ensures.there

pub returns-clause-there : goal.returns-clause-there
returns-clause-there g c = gate-on _ _ _ _ _ (c.listen-clock.ensures.there c.args.to) c.hear.ensures.there

pub returns-clause-told : goal.returns-clause-told
returns-clause-told g c =
    let only = (gate-on _ _ _ _ _ (c.listen-clock.ensures.there c.args.to) c.hear.ensures.there).carries.only in
    one-more-told _ c.args.to _ _ c.args.from _ (still-all-told _ _ c.args.to _ c.requires.told only) c.in_ok-hear.ensures.told
    c.set_last.ensures

pub returns-clause-news : goal.returns-clause-news
returns-clause-news g c other = record {
  clock = c.listen-clock.result;
  said = still-said _ _ _ c.args.from _ c.listen-clock.ensures.said c.hear.ensures.there.carries.only;
  told = c.in_ok-hear.ensures.told;
}
