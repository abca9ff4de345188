-- What typing axioms are made of.
use Rattle.std.proofs.Common.{ℕ, zero, suc, ◌≡◌, ◌+◌, ◌-◌, ◌<◌, List, [], ◌∷◌, length, map, get_or, refl, sym, ap, ◌∙◌, arith}
use Rattle.tf_core.specs.declared.ty.Ty.{Ty}
use Rattle.tf_core.specs.declared.ty.Ty.TheVariants as type
use Rattle.tf_core.specs.declared.signature.Symbol.{Symbol}
use Rattle.tf_core.specs.declared.normal.Normal.{Normal}
use Rattle.tf_naked.specs.Covers.{covers}
use Rattle.tf_naked.specs.declared.position.Kind.TheVariants.{Universal}
use Rattle.fof_models.specs.declared.formula.FofTerm.{FofTerm}
use Rattle.fof_models.specs.declared.formula.FofTerm.TheVariants.{Var}
use Rattle.fof_models.specs.declared.formula.Fof.{Fof}
use Rattle.enc_marks.specs.Axioms.{own_variables, closed, under}
use Rattle.enc_marks.specs.Choices.{Choices}
use Rattle.enc_marks.specs.Translation.{Bare, type_term}
use Rattle.enc_marks.specs.Calls.Writing.{application_in, bind_in, premises_in, typing_axiom_in}
use Rattle.enc_marks.proofs.Closures.{closed-add}
use Rattle.enc_marks.proofs.Translation.{type_term-variable}

-- parameters as terms
pub own_types-terms : (number : ℕ → ℕ) (depth : ℕ) (indices : List ℕ) →
    map (λ i. Var (depth - (i + 1))) indices ≡ map (type_term number depth) (map type.Var indices)
own_types-terms number depth [] = refl
own_types-terms number depth (i ∷ indices) =
    ap (λ t. t ∷ map (λ j. Var (depth - (j + 1))) indices) (sym (type_term-variable number depth i))
    ∙ ap (λ (rest : List FofTerm). type_term number depth (type.Var i) ∷ rest)
    (own_types-terms number depth indices)

pub length-own_variables : (count : ℕ) → length (own_variables count) ≡ count
length-own_variables zero = refl
length-own_variables (suc count) = ap suc (length-own_variables count)

pub get_or-own_variables : (count i index : ℕ) (d : Bare) → i < count → index + (i + 1) ≡ count →
    get_or (own_variables count) i d ≡ record { kind = Universal; term = Var index }
get_or-own_variables zero i index d within is = absurd (omega arith)
get_or-own_variables (suc count) zero index d within is =
    ap (λ n. record { kind = Universal; term = Var n }) (omega arith)
get_or-own_variables (suc count) (suc i) index d within is =
    get_or-own_variables count i index d (omega arith) (omega arith)

-- what a typing axiom is made of
pub record AxiomParts (c : Choices) (normal : Normal) (f : ℕ) (symbol : Symbol) (value : Ty)
    (depth : ℕ) (premises : List Fof) (term : FofTerm) (conclusion : Fof) : Type 0 where
  pub depth_is : depth ≡ symbol.parameters + length symbol.arguments
  pub premises_are : premises
      ≡ premises_in c normal depth (covers symbol) symbol.arguments (length symbol.arguments)
  pub term_is : term ≡ application_in c normal depth f symbol
  pub conclusion_is : conclusion ≡ bind_in c normal depth value term

pub typing_axiom-parts : (c : Choices) (normal : Normal) (f : ℕ) (symbol : Symbol) (value : Ty)
    (depth : ℕ) (premises : List Fof) (term : FofTerm) (conclusion : Fof) →
    AxiomParts c normal f symbol value depth premises term conclusion →
    closed depth (under premises conclusion) ≡ typing_axiom_in c normal f symbol value
typing_axiom-parts c normal f symbol value depth premises term conclusion parts =
    let arity = length symbol.arguments in
    let whole = symbol.parameters + arity in
    let body = λ (d : ℕ). under (premises_in c normal d (covers symbol) symbol.arguments arity)
    (bind_in c normal d value (application_in c normal d f symbol)) in
    ap (closed depth)
    (ap (λ (list : List Fof). under list conclusion) parts.premises_are
    ∙ ap (under (premises_in c normal depth (covers symbol) symbol.arguments arity))
    (parts.conclusion_is ∙ ap (bind_in c normal depth value) parts.term_is))
    ∙ ap (λ d. closed d (body d)) parts.depth_is
    ∙ closed-add symbol.parameters arity (body whole)
