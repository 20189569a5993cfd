use Rattle.std.proofs.Common.{◌∙◌, ap, [], None}
use Rattle.std.specs.Option.{unwrap_or}
use Rattle.weave_data.specs.Names.{same_name}
use Rattle.run_judge.proofs.TableLaws.{looked_up}
use Rattle.run_judge.proofs.vertices.note_transaction.Goals as goal

pub returns-clause-lasts : goal.returns-clause-lasts
returns-clause-lasts c v = c.in_ok-insert.ensures.updates.0 v

pub returns-clause-since : goal.returns-clause-since
returns-clause-since c v = ap (λ o. unwrap_or o []) (c.remove.ensures.updates.0 v) ∙ looked_up (same_name c.args.name v) None _ []
