use Rattle.weave_account.proofs.Basis.{based}
use Rattle.weave_account.proofs.OnTheWay.{on-the-way}
use Rattle.weave_account.proofs.laws.commits_are_on_the_way.Goals as goal

pub returns : goal.returns
returns c =
    let laws = c.the_crates_below_keep_their_laws.ensures in
    λ script account limits is before after entry at commit commit-is v named.
    on-the-way script account (based laws limits is) v commit (record { before = before; entry = entry; after = after; is = at; commit_is = commit-is }) named
