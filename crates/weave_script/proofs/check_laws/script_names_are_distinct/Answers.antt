use Rattle.weave_script.proofs.CheckLaws.{script_told, script_typed}
use Rattle.weave_script.proofs.check_laws.script_names_are_distinct.Goals as goal

pub returns-clause-told : goal.returns-clause-told
returns-clause-told c = script_told

pub returns-clause-typed : goal.returns-clause-typed
returns-clause-typed c = script_typed
