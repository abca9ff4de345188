use Rattle.std.specs.Prelude.{map}
use Rattle.std.proofs.Common.{sym, subst}
use Rattle.std.proofs.lemmas.Result.{IfOk-weaker}
use Rattle.tf_core.specs.declared.ty.Ty.TheVariants.{Apply}
use Rattle.tf_core.specs.Types.{instantiate}
use Rattle.tf_types.specs.Numbers.{Denotes, type_at}
use Rattle.tf_types.proofs.Numbers.{types_at-extended}
use Rattle.tf_types.proofs.Made.{instantiate-extended}
use Rattle.tf_types.proofs.table.TypeTable.instance.Goals as goal

pub instance_in-requires-clause-listed : goal.instance_in-requires-clause-listed
instance_in-requires-clause-listed c =
    subst (λ types. Denotes c.apply.new.self c.in_ok-listed.listed (Apply 0 types))
    (sym (types_at-extended c.args.self.now c.apply.new.self c.in_ok-listed.ensures.kept
    c.args.types.now c.requires.numbers))
    c.in_ok-listed.ensures.denoted

pub returns-clause-denoted : goal.returns-clause-denoted
returns-clause-denoted c =
    IfOk-weaker c.instance_in.result
    (λ made. Denotes c.instance_in.new.self made
    (instantiate (map (type_at c.apply.new.self) c.args.types.now)
    (type_at c.apply.new.self c.args.id)))
    (λ made. Denotes c.instance_in.new.self made
    (instantiate (map (type_at c.args.self.now) c.args.types.now)
    (type_at c.args.self.now c.args.id)))
    (λ made. subst (Denotes c.instance_in.new.self made)
    (instantiate-extended c.args.self.now c.apply.new.self c.in_ok-listed.ensures.kept
    c.args.types.now c.requires.numbers c.args.id c.requires.number))
    c.instance_in.ensures.denoted
