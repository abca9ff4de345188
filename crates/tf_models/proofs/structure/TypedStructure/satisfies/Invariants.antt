use Rattle.std.proofs.Common.{◌≡◌, ◌-◌, length}
use Rattle.enc_base.specs.Tables.{tuple_count, place}
use Rattle.tf_models.specs.Search.{tried}
use Rattle.tf_models.proofs.Satisfied.{IsSearched}
use Rattle.tf_models.proofs.structure.TypedStructure.satisfies.Given as goal

abbrev pub invariant-loop-env : goal.invariant-loop-env
invariant-loop-env l = record {
  kept : l.env ≡ record l.fn.env { members = l.env.members };
  searched : IsSearched l.signature l.self l.stated l.env.members;
}

abbrev pub decreases-loop-env : goal.decreases-loop-env
decreases-loop-env l =
    tuple_count (tried (length l.self.sizes) l.stated.body l.stated.type_variables)
    - place (tried (length l.self.sizes) l.stated.body l.stated.type_variables) l.env.members
