use Rattle.std.proofs.Common.{Option, Some, sym, ap, ◌∙◌}
use Rattle.std.specs.Option.{option_copied, option_map}
use Rattle.weave_entries.specs.declared.store_log.StoreEntry.{StoreEntry}
use Rattle.weave_entries.specs.declared.verdict.Verdict.{Verdict}
use Rattle.weave_entries.specs.StoreReplay.{Judgement, judged_by}
use Rattle.backing_store.proofs.store.Store.verdict_of.Goals as goal

-- the verdict of an entry, if there is one
abbrev verdict_if : Option StoreEntry → Option Verdict
verdict_if entry = option_map (λ (judged : Judgement). judged.verdict) (option_map (λ (one : StoreEntry). judged_by one.author one.deed) entry)

pub returns-in_default : goal.returns-in_default
returns-in_default c =
    ap verdict_if (sym (ap option_copied c.in_default.is))
    ∙ ap (option_map (λ (judged : Judgement). judged.verdict)) c.judged.ensures

pub returns : goal.returns
returns c =
    ap Some c.verdict_in.ensures
    ∙ ap verdict_if (sym (ap option_copied c.in-Some.is))
    ∙ ap (option_map (λ (judged : Judgement). judged.verdict)) c.judged.ensures
