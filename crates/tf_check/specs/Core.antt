-- The formulas that the quantifiers and the connectives of the code make.
use Rattle.std.specs.Prelude.{List}
use Rattle.tf_core.specs.declared.ty.Ty.{Ty}
use Rattle.tf_core.specs.declared.formula.Formula.{Formula}
use Rattle.tf_core.specs.declared.formula.Formula.TheVariants as f
use Rattle.tf_check.specs.declared.formulas.Quantifier.{Quantifier}
use Rattle.tf_check.specs.declared.formulas.Quantifier.TheVariants.{ForAll, Exists}
use Rattle.tf_check.specs.declared.formulas.Connective.{Connective}
use Rattle.tf_check.specs.declared.formulas.Connective.TheVariants.{Implies, If, Iff, Xor, Nand, Nor}
use Rattle.tf_check.specs.Scope.{Scope}
use Rattle.tf_check.specs.Formulas.{Binders}

abbrev pub maker : Quantifier → Ty → Formula → Formula
maker ForAll ty body = f.ForAll ty body
maker Exists ty body = f.Exists ty body

abbrev pub joiner : Connective → Formula → Formula → Formula
joiner Implies left right = f.Implies left right
joiner If left right = f.If left right
joiner Iff left right = f.Iff left right
joiner Xor left right = f.Xor left right
joiner Nand left right = f.Nand left right
joiner Nor left right = f.Nor left right

abbrev pub binders_of : Scope → List Ty → Binders
binders_of scope types = record { scope = scope; types = types }
