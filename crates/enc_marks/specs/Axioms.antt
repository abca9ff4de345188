-- The bodies of what a translation states: the closed formulas, a typing axiom for each function
-- that has one, and the last axioms.
use Rattle.std.specs.Prelude.{ℕ, zero, suc, ◌+◌, ◌-◌, Bool, List, [], ◌∷◌, ◌++◌, map, length, cond}
use Rattle.std.specs.List.{range_with_len}
use Rattle.tf_core.specs.declared.ty.Ty.{Ty}
use Rattle.tf_core.specs.declared.ty.Ty.TheVariants as type
use Rattle.tf_core.specs.declared.signature.Symbol.{Symbol}
use Rattle.tf_core.specs.declared.signature.Signature.{Signature}
use Rattle.tf_core.specs.declared.normal.NormalFormula.{NormalFormula}
use Rattle.fof_models.specs.declared.formula.FofTerm.{FofTerm}
use Rattle.fof_models.specs.declared.formula.FofTerm.TheVariants as term
use Rattle.fof_models.specs.declared.formula.Fof.{Fof}
use Rattle.fof_models.specs.declared.formula.Fof.TheVariants as fof
use Rattle.tf_naked.specs.Covers.{covers}
use Rattle.tf_naked.specs.declared.position.Kind.TheVariants.{Universal}
use Rattle.enc_marks.specs.declared.choices.Binding.{Binding}
use Rattle.enc_marks.specs.declared.choices.Binding.TheVariants.{ByGuard, ByTag}
use Rattle.enc_marks.specs.Choices.{Choices}
use Rattle.enc_marks.specs.Translation.{Numbers, Bare, type_term, selected, tag, bind, placed_all}
use Rattle.enc_marks.specs.Translation.{formula}

-- a formula under so many universal quantifiers
abbrev pub closed : ℕ → Fof → Fof
closed zero p = p
closed (suc count) p = fof.ForAll (closed count p)

-- A conclusion under premises: one stands alone, several are a conjunction, and without premises
-- the conclusion stands alone.
abbrev pub under : List Fof → Fof → Fof
under [] conclusion = conclusion
under (premise ∷ []) conclusion = fof.Implies premise conclusion
under (premise ∷ second ∷ premises) conclusion =
    fof.Implies (fof.And (premise ∷ second ∷ premises)) conclusion

-- a symbol's parameters as types
abbrev pub own_types : Symbol → List Ty
own_types symbol = map type.Var (range_with_len 0 symbol.parameters)

-- the variables of the nearest universal binders, so many, the outermost first
abbrev pub own_variables : ℕ → List Bare
own_variables zero = []
own_variables (suc count) = record { kind = Universal; term = term.Var count } ∷ own_variables count

module _ (c : Choices) (k : Numbers) (g : Signature) where
  -- a formula with its type variables bound
  abbrev pub closed_formula : NormalFormula → Fof
  closed_formula normal =
      closed normal.type_variables (formula c k g normal.body normal.type_variables [])

  -- The premises of a typing axiom, for argument places that are covers or not, of these types. The
  -- arguments are the variables of the nearest binders, so many, the outermost first.
  abbrev pub premises : ℕ → List Bool → List Ty → ℕ → List Fof
  premises depth [] types count = []
  premises depth (cover ∷ covers) [] count = []
  premises depth (cover ∷ covers) (ty ∷ types) count =
      cond (c.premise cover ty)
      (bind c k g depth ty (term.Var (count - 1)) ∷ premises depth covers types (count - 1))
      (premises depth covers types (count - 1))

  -- a function at its own parameters and at variables
  abbrev pub own_application : ℕ → ℕ → Symbol → FofTerm
  own_application depth f symbol =
      term.Apply (k.symbol f)
      (map (type_term k.constructor depth) (selected (c.keeps symbol) (own_types symbol))
      ++ placed_all c k g depth (covers symbol) symbol.arguments
      (own_variables (length symbol.arguments)))

  -- the f-th symbol, at any types and arguments that meet the premises, gives what is bound to its
  -- result type
  abbrev pub typing_axiom : ℕ → Symbol → Ty → Fof
  typing_axiom f symbol result =
      let count = length symbol.arguments in
      let depth = symbol.parameters + count in
      closed symbol.parameters (closed count
      (under (premises depth (covers symbol) symbol.arguments count)
      (bind c k g depth result (own_application depth f symbol))))

  -- Some element is bound to the type; or by tags, each element's tagged value is.
  abbrev pub last_axiom : Binding → ℕ → Ty → Fof
  last_axiom ByGuard depth ty = fof.Exists (bind c k g (depth + 1) ty (term.Var 0))
  last_axiom ByTag depth ty =
      fof.ForAll (bind c k g (depth + 1) ty (tag c k g (depth + 1) ty (term.Var 0)))
