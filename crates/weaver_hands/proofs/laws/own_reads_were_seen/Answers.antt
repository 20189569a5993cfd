use Rattle.weaver_hands.proofs.SeenReads.{all-read, among, nothing}
use Rattle.weaver_hands.proofs.laws.own_reads_were_seen.Goals as goal

pub returns : goal.returns
returns c = record { among = among; nothing = nothing; all = all-read }
