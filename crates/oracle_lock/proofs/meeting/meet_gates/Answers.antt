use Rattle.std.proofs.Common.{◌≡◌, List, length, sym, ap, ◌∙◌, subst}
use Rattle.weave_entries.specs.declared.gate_log.GateDeed.{GateDeed}
use Rattle.seen_logs.specs.Seen.{GatesGoOn}
use Rattle.chronicle.specs.declared.note.Note.{Note}
use Rattle.lock_row.specs.Meetings.{CanMeet, AllMet}
use Rattle.oracle_lock.specs.Seen.{gates_noted, of_gates}
use Rattle.lock_row.proofs.Lists.{written}
use Rattle.lock_row.proofs.Meetings.{as_many}
use Rattle.oracle_lock.proofs.Notes.{all_can, met_ready, met_one, notes_on, passes_on, met_legal}
use Rattle.oracle_lock.proofs.meeting.meet_gates.Goals as goal

pub meet_others-requires-clause-can : goal.meet_others-requires-clause-can
meet_others-requires-clause-can g c =
    let locks = c.args.gates.now in
    subst (λ (ns : List (Note GateDeed)). CanMeet locks c.args.passes.now ns (length locks)) (sym c.as_mut_slice.ensures.value)
    (all_can locks c.args.passes.now c.args.notes.now.items c.requires.names c.requires.ready)

pub returns-clause-ready : goal.returns-clause-ready
returns-clause-ready g c =
    let locks = c.args.gates.now in
    let before = c.args.passes.now in
    let after = c.meet_others.new.passes in
    let notes = c.args.notes.now.items in
    let later = c.meet_others.new.notes in
    let value = c.as_mut_slice.ensures.value in
    let many = as_many locks notes c.requires.names in
    let long : length later ≡ length notes = c.meet_others.ensures.notes ∙ ap (λ (l : List (Note GateDeed)). length l) value in
    let met = subst (λ (ns : List (Note GateDeed)). AllMet locks before after ns later (length locks)) value c.meet_others.ensures.met in
    met_ready locks before after notes later met c.requires.passes (c.meet_others.ensures.passes ∙ c.requires.passes) many (long ∙ many)

pub returns-clause-met : goal.returns-clause-met
returns-clause-met g c =
    let locks = c.args.gates.now in
    let before = c.args.passes.now in
    let after = c.meet_others.new.passes in
    let notes = c.args.notes.now.items in
    let later = c.meet_others.new.notes in
    let value = c.as_mut_slice.ensures.value in
    let many = as_many locks notes c.requires.names in
    let long : length later ≡ length notes = c.meet_others.ensures.notes ∙ ap (λ (l : List (Note GateDeed)). length l) value in
    let met = subst (λ (ns : List (Note GateDeed)). AllMet locks before after ns later (length locks)) value c.meet_others.ensures.met in
    let back = written c.args.notes.now.len later notes (long ∙ sym c.args.notes.now.ok.0) in
    subst (λ (ns : List (Note GateDeed)). AllMet locks before after notes ns (length locks)) (sym back) met

pub returns-clause-one : goal.returns-clause-one
returns-clause-one g c =
    let locks = c.args.gates.now in
    let before = c.args.passes.now in
    let after = c.meet_others.new.passes in
    let notes = c.args.notes.now.items in
    let later = c.meet_others.new.notes in
    let value = c.as_mut_slice.ensures.value in
    let many = as_many locks notes c.requires.names in
    let long : length later ≡ length notes = c.meet_others.ensures.notes ∙ ap (λ (l : List (Note GateDeed)). length l) value in
    let met = subst (λ (ns : List (Note GateDeed)). AllMet locks before after ns later (length locks)) value c.meet_others.ensures.met in
    let back = written c.args.notes.now.len later notes (long ∙ sym c.args.notes.now.ok.0) in
    ap gates_noted back ∙ met_one locks before after notes later met c.requires.passes (c.meet_others.ensures.passes ∙ c.requires.passes) many (long ∙ many)

pub returns-clause-notes_on : goal.returns-clause-notes_on
returns-clause-notes_on g c =
    let locks = c.args.gates.now in
    let before = c.args.passes.now in
    let after = c.meet_others.new.passes in
    let notes = c.args.notes.now.items in
    let later = c.meet_others.new.notes in
    let value = c.as_mut_slice.ensures.value in
    let many = as_many locks notes c.requires.names in
    let long : length later ≡ length notes = c.meet_others.ensures.notes ∙ ap (λ (l : List (Note GateDeed)). length l) value in
    let met = subst (λ (ns : List (Note GateDeed)). AllMet locks before after ns later (length locks)) value c.meet_others.ensures.met in
    let back = written c.args.notes.now.len later notes (long ∙ sym c.args.notes.now.ok.0) in
    subst (λ (ns : List (Note GateDeed)). GatesGoOn (of_gates (gates_noted notes)) (of_gates (gates_noted ns))) (sym back)
    (notes_on locks before after notes later met c.requires.passes (c.meet_others.ensures.passes ∙ c.requires.passes) many (long ∙ many))

pub returns-clause-passes_on : goal.returns-clause-passes_on
returns-clause-passes_on g c =
    let locks = c.args.gates.now in
    let before = c.args.passes.now in
    let after = c.meet_others.new.passes in
    let notes = c.args.notes.now.items in
    let later = c.meet_others.new.notes in
    let value = c.as_mut_slice.ensures.value in
    let many = as_many locks notes c.requires.names in
    let long : length later ≡ length notes = c.meet_others.ensures.notes ∙ ap (λ (l : List (Note GateDeed)). length l) value in
    let met = subst (λ (ns : List (Note GateDeed)). AllMet locks before after ns later (length locks)) value c.meet_others.ensures.met in
    passes_on locks before after notes later met c.requires.passes (c.meet_others.ensures.passes ∙ c.requires.passes) many (long ∙ many)

pub returns-clause-legal : goal.returns-clause-legal
returns-clause-legal g c =
    let locks = c.args.gates.now in
    let before = c.args.passes.now in
    let after = c.meet_others.new.passes in
    let notes = c.args.notes.now.items in
    let later = c.meet_others.new.notes in
    let value = c.as_mut_slice.ensures.value in
    let many = as_many locks notes c.requires.names in
    let long : length later ≡ length notes = c.meet_others.ensures.notes ∙ ap (λ (l : List (Note GateDeed)). length l) value in
    let met = subst (λ (ns : List (Note GateDeed)). AllMet locks before after ns later (length locks)) value c.meet_others.ensures.met in
    met_legal locks before after notes later met c.requires.passes (c.meet_others.ensures.passes ∙ c.requires.passes) many (long ∙ many)
