use Rattle.version_parts.proofs.AddingUp.{all_counted, none_later, one_more_update}
use Rattle.version_parts.proofs.Placing.{state_past}
use Rattle.version_parts.proofs.Sizes.{size_within}
use Rattle.version_parts.proofs.laws.items_are_placed.Goals as goal

pub returns-clause-states : goal.returns-clause-states
returns-clause-states c newest update lists past within = state_past newest update past lists within

pub returns-clause-counted : goal.returns-clause-counted
returns-clause-counted c newest lists within = all_counted newest lists within

pub returns-clause-none_later : goal.returns-clause-none_later
returns-clause-none_later c newest update lists later within = none_later newest update lists later within

pub returns-clause-one_more : goal.returns-clause-one_more
returns-clause-one_more c update lists = one_more_update update lists

pub returns-clause-sizes : goal.returns-clause-sizes
returns-clause-sizes c update test lists passes = size_within update test passes lists
