-- What the search for a bound type variable answers.
use Rattle.std.proofs.Common.{◌≡◌, ℕ, List, Err, refl, sym}
use Rattle.tf_core.specs.declared.ty.Ty.{Ty}
use Rattle.tf_core.specs.declared.ty.Ty.TheVariants as type
use Rattle.tf_check.specs.declared.error.TypeError.TheVariants.{UnknownType}
use Rattle.tf_check.specs.declared.scope.Meaning as answer
use Rattle.tf_check.specs.declared.scope.Meaning.TheVariants as answers
use Rattle.tf_check.specs.Answers.{Answers}
use Rattle.tf_check.specs.Bound.{meaning_of}
use Rattle.tf_check.specs.Scope.{meaning, OfType}
use Rattle.tf_check.specs.Types.{type_variable, individuals}
use Rattle.tf_check.proofs.AnswerLemmas.{answers-good, answers-bad}
use Rattle.tf_check.proofs.types.type_variable.Goals as goal

pub returns-in-OfType : goal.returns-in-OfType
returns-in-OfType c =
    let is : OfType c.in-OfType.i ≡ meaning c.args.scope.now.names c.args.name.now =
    rw c.as_slice.ensures at c.in-OfType.ensures.exact in
    rw (sym is) (answers-good (type.Var c.in-OfType.i))

unknown : (types : List Ty) (entry : ℕ) (name : List ℕ) (found : answer.Meaning) →
    ((i : ℕ) → found ≡ answers.OfType i → ⊥) →
    Answers (type_variable entry name (meaning_of types found)) (Err (UnknownType entry name))
unknown types entry name answers.Unbound not = answers-bad (UnknownType entry name) individuals
unknown types entry name (answers.OfType i) not = absurd (not i refl)
unknown types entry name (answers.OfTerm i ty) not = answers-bad (UnknownType entry name) individuals

pub returns-in_ok-copy-in_default : goal.returns-in_ok-copy-in_default
returns-in_ok-copy-in_default c =
    let is : meaning_of c.args.scope.now.types c.meaning.result ≡ meaning c.args.scope.now.names c.args.name.now =
    rw c.as_slice.ensures at c.meaning.ensures.exact in
    rw (sym is, c.in_ok-copy-in_default.ensures)
    (unknown c.args.scope.now.types c.args.context.now.entry c.args.name.now c.meaning.result c.in_default.not-OfType)
