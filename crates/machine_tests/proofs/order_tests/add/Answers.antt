use Rattle.std.proofs.Common.{rules, ◌≡◌, IfOk, OnOk, subst, true, false, sym, ◌∙◌, List, Contains, ◌++◌, ◌∷◌, []}
use Rattle.vector_stamp.specs.Precedence.{GivenPair, precedes}
use Rattle.order_graph.specs.Building.{ends_of}
use Rattle.order_graph.proofs.Stamps.{two_and_ends, ends_among-push}
use Rattle.machine_tests.proofs.order_tests.add.Goals as goal

pub id-requires : goal.id-requires
id-requires g c = c.requires.coherent.homes c.args.earlier.now c.requires.earlier

pub id-requires-2 : goal.id-requires-2
id-requires-2 g c = c.requires.coherent.homes c.args.later.now c.requires.later

pub precedes-requires : goal.precedes-requires
precedes-requires g c = two_and_ends c.parts_and_unions_are_coherent.ensures.part c.args.later.now c.args.earlier.now c.args.graph.now.pairs c.args.events.now c.requires.coherent c.requires.later c.requires.earlier c.requires.known

pub add-requires : goal.add-requires
add-requires g c =
    let back : c.expect-back.result ≡ precedes c.args.graph.now.pairs c.args.later.now c.args.earlier.now =
    subst (λ r. IfOk r (λ answer. answer ≡ precedes c.args.graph.now.pairs c.args.later.now c.args.earlier.now)) c.expect-back.ensures c.precedes.ensures.exact in
    let not_back : c.expect-back.result ≡ false = c.if-back.false in
    record {
      of_two = search rules;
      left_open = sym c.is_unordered.ensures ∙ c.if-not-is_unordered.false;
      coherent = two_and_ends c.parts_and_unions_are_coherent.ensures.part c.args.earlier.now c.args.later.now c.args.graph.now.pairs c.args.events.now c.requires.coherent c.requires.earlier c.requires.later c.requires.known;
      permitted = λ h. let e : true ≡ false = sym h ∙ sym back ∙ not_back in cc;
    }

pub returns : goal.returns
returns g c =
    let added : c.add.new.self.pairs ≡ c.args.graph.now.pairs ++ (c.args.earlier.now, c.args.later.now) ∷ [] =
    subst (λ r. OnOk r (c.add.new.self.pairs ≡ c.args.graph.now.pairs ++ (c.args.earlier.now, c.args.later.now) ∷ [])) c.expect.ensures c.add.ensures.added in
    λ stamp h. ends_among-push c.args.earlier.now c.args.later.now c.args.graph.now.pairs c.args.events.now c.requires.earlier c.requires.later c.requires.known stamp (subst (λ (ps : List GivenPair). Contains (ends_of ps) stamp) added h)
