use Rattle.weave_account.proofs.Basis.{based}
use Rattle.weave_account.proofs.Meeting.{read-at}
use Rattle.weave_account.proofs.laws.programs_read_the_graph_at_their_place.Goals as goal

pub returns : goal.returns
returns c =
    let laws = c.the_crates_below_keep_their_laws.ensures in
    λ script account report limits is reported r h read k. read-at script account (based laws limits is) report reported r h read k
