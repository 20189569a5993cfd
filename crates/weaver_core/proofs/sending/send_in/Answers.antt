use Rattle.std.proofs.Common.{◌≡◌, Option, Some, inl, inr, refl, sym, ap, subst, ◌∙◌}
use Rattle.std.specs.Option.{option_map}
use Rattle.std.specs.Prelude.{IsSome, option_copied}
use Rattle.std.proofs.lemmas.Option.{same_Some}
use Rattle.weave_data.proofs.Members.{find_has}
use Rattle.gatekeeper.specs.Opened.{as_begun}
use Rattle.weave_entries.specs.GateReplay.{BegunRequest}
use Rattle.weave_entries.specs.StoreReplay.{judged_by, judgement_of, judgements_of}
use Rattle.weaver_core.proofs.Settled.{as-judged}
use Rattle.weaver_core.proofs.sending.send_in.Goals as goal

-- the flight, and what was judged of it, by the answers of the two calls

pub returns-in_default-clause-sends : goal.returns-in_default-clause-sends
returns-in_default-clause-sends c = (refl, inl (sym c.flight.ensures ∙ ap (option_map as_begun) c.in_default.is))

pub returns-in_default-judged-clause-sends : goal.returns-in_default-judged-clause-sends
returns-in_default-judged-clause-sends c = (
  refl,
  inr (record {
    flight = as_begun c.in-Some.flight;
    flies = sym c.flight.ensures ∙ ap (option_map as_begun) c.in-Some.is;
    not_judged = sym c.judged.ensures ∙ ap (λ o. as-judged (option_copied o)) c.in_default-judged.is;
  }),
)

pub send-requires-clause-flies : goal.send-requires-clause-flies
send-requires-clause-flies c = subst (λ (o : Option BegunRequest). IsSome o) (sym (sym c.flight.ensures ∙ ap (option_map as_begun) c.in-Some.is)) refl

pub send-requires-clause-author : goal.send-requires-clause-author
send-requires-clause-author c x is = ap (λ (b : BegunRequest). b.author) (same_Some x (as_begun c.in-Some.flight) (sym is ∙ sym c.flight.ensures ∙ ap (option_map as_begun) c.in-Some.is))

pub send-requires-clause-counts : goal.send-requires-clause-counts
send-requires-clause-counts c =
    let entry = c.in-Some-judged.entry.now in
    let is : judgement_of c.in-Some.flight.request c.args.store.now ≡ Some (judged_by entry.author entry.deed) = sym c.judged.ensures ∙ ap (λ o. as-judged (option_copied o)) c.in-Some-judged.is in
    rw (c.ops_judged-ops.ensures, c.verdict_judged-verdict.ensures)
    (c.requires.counts (judged_by entry.author entry.deed) (find_has _ (judgements_of c.args.store.now) (judged_by entry.author entry.deed) is).0)

pub returns-clause-sends : goal.returns-clause-sends
returns-clause-sends c =
    let entry = c.in-Some-judged.entry.now in
    let flies = sym c.flight.ensures ∙ ap (option_map as_begun) c.in-Some.is in
    record {
      flight = as_begun c.in-Some.flight;
      flies = flies;
      judged = judged_by entry.author entry.deed;
      is_judged = sym c.judged.ensures ∙ ap (λ o. as-judged (option_copied o)) c.in-Some-judged.is;
      adds = rw (c.ops_judged-ops.ensures, c.verdict_judged-verdict.ensures) at (c.in_ok-send.ensures.entry (as_begun c.in-Some.flight) flies);
    }
