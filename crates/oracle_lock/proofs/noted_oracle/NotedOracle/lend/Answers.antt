use Rattle.std.proofs.Common.{List, sym, ap, ◌∙◌, subst}
use Rattle.weave_entries.specs.declared.oracle_log.OracleEntry.{OracleEntry}
use Rattle.oracle_lock.specs.Seen.{gates_noted, OracleIsKept, OracleView}
use Rattle.oracle_lock.proofs.Settling.{none-kept}
use Rattle.oracle_lock.proofs.noted_oracle.NotedOracle.lend.Goals as goal

pub invariant_of-self : goal.invariant_of-self
invariant_of-self c =
    let gates = gates_noted c.self.inside.gates.items in
    subst (λ (l : List OracleEntry). OracleIsKept c.self.inside.shards gates l) (sym (c.replace.ensures.after ∙ c.new.ensures))
    (none-kept c.self.inside.shards gates c.self.inside.oracle c.self.invariant)

pub returns : goal.returns
returns c =
    let is = c.self.view_is in record {
      oracle = c.replace.ensures.value ∙ ap (λ (v : OracleView). v.oracle) is;
      none = c.replace.ensures.after ∙ c.new.ensures;
      shards = ap (λ (v : OracleView). v.shards) is;
      notes = ap (λ (v : OracleView). v.gates) is;
      kept = subst (λ (l : List OracleEntry). OracleIsKept c.args.self.now.shards (gates_noted c.args.self.now.gates) l) (sym c.replace.ensures.value)
          (subst (λ (v : OracleView). OracleIsKept v.shards (gates_noted v.gates) c.self.inside.oracle) is c.self.invariant);
    }
