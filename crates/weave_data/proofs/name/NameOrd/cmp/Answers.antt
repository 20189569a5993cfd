use Rattle.std.proofs.Common.{take, ap, ◌∙◌}
use Rattle.weave_data.specs.Names.{name_cmp}
use Rattle.weave_data.proofs.Spelling.{names_as_letters}
use Rattle.weave_data.proofs.name.NameOrd.cmp.Goals as goal

pub returns : goal.returns
returns c =
    c.order.ensures
    ∙ names_as_letters _ _ _ _ c.self.invariant c.other.invariant
    ∙ ap (λ n. name_cmp n (take c.other.inside.len c.other.inside.letters)) c.self.view_is
    ∙ ap (name_cmp c.args.self.now) c.other.view_is
