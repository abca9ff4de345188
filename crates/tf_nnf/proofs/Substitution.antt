-- The equations of instances of types, and of terms and formulas with their types replaced.
use Rattle.tf_core.specs.declared.ty.Ty.{Ty}
use Rattle.tf_core.specs.declared.ty.Ty.TheVariants as type
use Rattle.tf_core.specs.declared.ty.Ty.TheOpen as type_layer
use Rattle.tf_core.specs.declared.ty.Ty.TheFolds.{fold-roll-Ty}
use Rattle.tf_core.specs.declared.term.Term.{Term}
use Rattle.tf_core.specs.declared.term.Term.TheVariants as term
use Rattle.tf_core.specs.declared.term.Term.TheOpen as term_layer
use Rattle.tf_core.specs.declared.term.Term.TheFolds.{fold-roll-Term}
use Rattle.tf_core.specs.declared.nnf.Nnf.{Nnf}
use Rattle.tf_core.specs.declared.nnf.Nnf.TheVariants as nnf
use Rattle.tf_core.specs.declared.nnf.Nnf.TheOpen as nnf_layer
use Rattle.tf_core.specs.declared.nnf.Nnf.TheFolds.{fold-roll-Nnf}
use Rattle.std.proofs.Common.{ℕ, ◌≡◌, Bool, List, map, get_or, sym, ap, ◌∙◌}
use Rattle.tf_core.specs.Types.{instantiate, instantiate_step}
use Rattle.tf_core.specs.Substitution.{substitute_term, substitute_term_step, substitute_types, substitute_types_step}

pub instantiate-var : (types : List Ty) (i : ℕ) →
    instantiate types (type.Var i) ≡ get_or types i (type.Var i)
unfolding instantiate
instantiate-var types i =
    ap (instantiate types) (sym (type.rolls-Var i))
    ∙ fold-roll-Ty Ty (instantiate_step types) (type_layer.Var i)

pub instantiate-apply : (types : List Ty) (c : ℕ) (arguments : List Ty) →
    instantiate types (type.Apply c arguments) ≡ type.Apply c (map (instantiate types) arguments)
unfolding instantiate
instantiate-apply types c arguments =
    ap (instantiate types) (sym (type.rolls-Apply c arguments))
    ∙ fold-roll-Ty Ty (instantiate_step types) (type_layer.Apply c arguments)

pub substitute_term-var : (types : List Ty) (i : ℕ) →
    substitute_term types (term.Var i) ≡ term.Var i
unfolding substitute_term
substitute_term-var types i =
    ap (substitute_term types) (sym (term.rolls-Var i))
    ∙ fold-roll-Term Term (substitute_term_step types) (term_layer.Var i)

pub substitute_term-apply : (types : List Ty) (f : ℕ) (arguments : List Ty) (terms : List Term) →
    substitute_term types (term.Apply f arguments terms) ≡ term.Apply f (map (instantiate types) arguments) (map (substitute_term types) terms)
unfolding substitute_term
substitute_term-apply types f arguments terms =
    ap (substitute_term types) (sym (term.rolls-Apply f arguments terms))
    ∙ fold-roll-Term Term (substitute_term_step types) (term_layer.Apply f arguments terms)

pub substitute_types-true : (types : List Ty) →
    substitute_types types nnf.True ≡ nnf.True
unfolding substitute_types
substitute_types-true types =
    ap (substitute_types types) (sym nnf.rolls-True)
    ∙ fold-roll-Nnf Nnf (substitute_types_step types) nnf_layer.True

pub substitute_types-false : (types : List Ty) →
    substitute_types types nnf.False ≡ nnf.False
unfolding substitute_types
substitute_types-false types =
    ap (substitute_types types) (sym nnf.rolls-False)
    ∙ fold-roll-Nnf Nnf (substitute_types_step types) nnf_layer.False

pub substitute_types-atom : (types : List Ty) (positive : Bool) (f : ℕ) (arguments : List Ty) (terms : List Term) →
    substitute_types types (nnf.Atom positive f arguments terms) ≡ nnf.Atom positive f (map (instantiate types) arguments) (map (substitute_term types) terms)
unfolding substitute_types
substitute_types-atom types positive f arguments terms =
    ap (substitute_types types) (sym (nnf.rolls-Atom positive f arguments terms))
    ∙ fold-roll-Nnf Nnf (substitute_types_step types) (nnf_layer.Atom positive f arguments terms)

pub substitute_types-equation : (types : List Ty) (positive : Bool) (ty : Ty) (left right : Term) →
    substitute_types types (nnf.Equation positive ty left right) ≡ nnf.Equation positive (instantiate types ty)
    (substitute_term types left) (substitute_term types right)
unfolding substitute_types
substitute_types-equation types positive ty left right =
    ap (substitute_types types) (sym (nnf.rolls-Equation positive ty left right))
    ∙ fold-roll-Nnf Nnf (substitute_types_step types) (nnf_layer.Equation positive ty left right)

pub substitute_types-and : (types : List Ty) (parts : List Nnf) →
    substitute_types types (nnf.And parts) ≡ nnf.And (map (substitute_types types) parts)
unfolding substitute_types
substitute_types-and types parts =
    ap (substitute_types types) (sym (nnf.rolls-And parts))
    ∙ fold-roll-Nnf Nnf (substitute_types_step types) (nnf_layer.And parts)

pub substitute_types-or : (types : List Ty) (parts : List Nnf) →
    substitute_types types (nnf.Or parts) ≡ nnf.Or (map (substitute_types types) parts)
unfolding substitute_types
substitute_types-or types parts =
    ap (substitute_types types) (sym (nnf.rolls-Or parts))
    ∙ fold-roll-Nnf Nnf (substitute_types_step types) (nnf_layer.Or parts)

pub substitute_types-for_all : (types : List Ty) (ty : Ty) (body : Nnf) →
    substitute_types types (nnf.ForAll ty body) ≡ nnf.ForAll (instantiate types ty) (substitute_types types body)
unfolding substitute_types
substitute_types-for_all types ty body =
    ap (substitute_types types) (sym (nnf.rolls-ForAll ty body))
    ∙ fold-roll-Nnf Nnf (substitute_types_step types) (nnf_layer.ForAll ty body)

pub substitute_types-exists : (types : List Ty) (ty : Ty) (body : Nnf) →
    substitute_types types (nnf.Exists ty body) ≡ nnf.Exists (instantiate types ty) (substitute_types types body)
unfolding substitute_types
substitute_types-exists types ty body =
    ap (substitute_types types) (sym (nnf.rolls-Exists ty body))
    ∙ fold-roll-Nnf Nnf (substitute_types_step types) (nnf_layer.Exists ty body)
