use Rattle.std.proofs.Common.{List, sym, ap, ◌∙◌}
use Rattle.std.specs.Option.{option_copied}
use Rattle.weave_entries.specs.declared.store_log.StoreEntry.{StoreEntry}
use Rattle.weave_entries.specs.StoreReplay.{judgement_of}
use Rattle.backing_store.proofs.Replay.{none_judged, judged_there}
use Rattle.backing_store.proofs.store.Store.judged.Goals as goal

pub returns-in_default : goal.returns-in_default
returns-in_default c =
    none_judged c.args.request c.self.inside.places.entries c.self.inside.log.items c.self.invariant.places_are (sym c.get.ensures.value ∙ ap option_copied c.in_default.is)
    ∙ ap (λ (log : List StoreEntry). judgement_of c.args.request log) c.self.view_is

pub returns : goal.returns
returns c =
    judged_there c.args.request c.self.inside.places.entries c.self.inside.log.items c.self.invariant.places_are c.in-Some.place.now c.index.result.now (sym c.get.ensures.value ∙ ap option_copied c.in-Some.is) c.index.ensures
    ∙ ap (λ (log : List StoreEntry). judgement_of c.args.request log) c.self.view_is
