use Rattle.std.proofs.Common.{arith, sym, ap, subst, ◌∙◌, ◌≤◌, length, replicate}
use Rattle.std.proofs.lemmas.List.{length-replicate}
use Rattle.enc_base.specs.Tables.{EachBelow}
use Rattle.enc_base.proofs.Tables.{length-table}
use Rattle.enc_base.proofs.Placing.{EachBelow-same_length}
use Rattle.tf_collapse.specs.Domain.{CollapsedDomain, IsDomain}
use Rattle.tf_collapse.specs.PulledBack.{collapsed_entry}
use Rattle.tf_collapse.proofs.Domain.{some_tuple}
use Rattle.tf_collapse.proofs.collapse.Collapse.pull_back.Goals as goal

pub table_of-requires-clause-some : goal.table_of-requires-clause-some
table_of-requires-clause-some c =
    subst (λ (d : CollapsedDomain). EachBelow (replicate (length c.args.arguments.now) d.big)
    (replicate (length c.args.arguments.now) 0)) (sym c.self.view_is)
    (some_tuple c.args.self.now (subst IsDomain c.self.view_is c.self.invariant)
    c.args.arguments.now c.requires.members)

pub table_of-requires-clause-defined : goal.table_of-requires-clause-defined
table_of-requires-clause-defined c values below = record {
  members = c.requires.members;
  values =
      sym (EachBelow-same_length (replicate (length c.args.arguments.now) c.self.inside.big) values
      below)
      ∙ length-replicate (length c.args.arguments.now) c.self.inside.big;
  entries = omega (arith, c.requires.entries);
}

pub returns-in-Ok-clause-within : goal.returns-in-Ok-clause-within
returns-in-Ok-clause-within c =
    omega (
      arith,
      ap length c.in-Ok.ensures,
      length-table (replicate (length c.args.arguments.now) c.self.inside.big)
          (collapsed_entry c.args.self.now c.args.arguments.now c.args.table.now),
      c.count_tuples-entries.ensures.exact,
      c.if-entries-gt-MOST_ENTRIES.false,
    )
