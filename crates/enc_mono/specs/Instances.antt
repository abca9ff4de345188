-- Symbol instances: symbols with types for their parameters. Those that stand in terms and
-- formulas.
use Rattle.std.specs.Prelude.{List, [], ◌∷◌, ◌++◌, map}
use Rattle.tf_core.specs.declared.ty.Ty.{Ty}
use Rattle.tf_core.specs.declared.term.Term.{Term}
use Rattle.tf_core.specs.declared.term.Term.TheOpen.{Term-F}
use Rattle.tf_core.specs.declared.term.Term.TheOpen as term
use Rattle.tf_core.specs.declared.term.Term.TheFolds.{fold-Term}
use Rattle.tf_core.specs.declared.nnf.Nnf.{Nnf}
use Rattle.tf_core.specs.declared.nnf.Nnf.TheOpen.{Nnf-F}
use Rattle.tf_core.specs.declared.nnf.Nnf.TheOpen as nnf
use Rattle.tf_core.specs.declared.nnf.Nnf.TheFolds.{fold-Nnf}
use Rattle.tf_core.specs.Types.{instantiate}
use Rattle.tf_core.specs.Sorts.{joined}
use Rattle.enc_mono.specs.declared.instances.Origin.{Origin}

abbrev pub term_instances_step : Term-F (List Origin) → List Origin
term_instances_step (term.Var i) = []
term_instances_step (term.Apply f types parts) =
    record { symbol = f; types = types } ∷ joined parts

-- the symbols of a term with their type arguments, in reading order, each before its arguments
unfoldable pub term_instances : Term → List Origin
term_instances = fold-Term (List Origin) term_instances_step

abbrev pub instances_step : Nnf-F (List Origin) → List Origin
instances_step nnf.True = []
instances_step nnf.False = []
instances_step (nnf.Atom positive f types terms) =
    record { symbol = f; types = types } ∷ joined (map term_instances terms)
instances_step (nnf.Equation positive ty left right) = term_instances left ++ term_instances right
instances_step (nnf.And parts) = joined parts
instances_step (nnf.Or parts) = joined parts
instances_step (nnf.ForAll ty body) = body
instances_step (nnf.Exists ty body) = body

-- the same of a formula
unfoldable pub symbol_instances : Nnf → List Origin
symbol_instances = fold-Nnf (List Origin) instances_step

-- what a symbol with its type arguments is where types stand for the type variables
abbrev pub instance_under : List Ty → Origin → Origin
instance_under types origin =
    record { symbol = origin.symbol; types = map (instantiate types) origin.types }
