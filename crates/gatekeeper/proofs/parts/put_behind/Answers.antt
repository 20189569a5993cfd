use Rattle.std.proofs.Common.{sym, ap, ◌∙◌}
use Rattle.std.specs.Option.{option_copied_mut}
use Rattle.gatekeeper.proofs.Sharing.{behind}
use Rattle.gatekeeper.proofs.parts.put_behind.Goals as goal

pub returns : goal.returns
returns c = behind c.args.op.now _ _ _ _ c.push.new.self c.vertex.ensures (sym c.get_mut.ensures.value ∙ ap option_copied_mut c.in-Some.is) (λ h. ((c.get_mut.follows.holds c.push.new.self).3 h).0) c.in_ok-push.ensures.ok
