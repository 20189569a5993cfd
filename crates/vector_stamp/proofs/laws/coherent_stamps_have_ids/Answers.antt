use Rattle.vector_stamp.proofs.Together.{ids-differ, home-ordered, homes-differ}
use Rattle.vector_stamp.proofs.laws.coherent_stamps_have_ids.Goals as goal

pub returns : goal.returns
returns c = record { ids = ids-differ; one_home = home-ordered; other_homes = homes-differ }
