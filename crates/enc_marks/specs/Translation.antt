-- One translation of types, terms and formulas for all schemes, by the choices that a scheme makes.
-- A formula stands under so many binders, its depth; those of type variables are the outermost.
use Rattle.std.specs.Prelude.{ℕ, ◌+◌, ◌-◌, Bool, true, false, List, [], ◌∷◌, ◌++◌, map, cond}
use Rattle.std.specs.Prelude.{get_or, slice_get, Option, Some, None}
use Rattle.tf_core.specs.declared.ty.Ty.{Ty}
use Rattle.tf_core.specs.declared.ty.Ty.TheOpen.{Ty-F}
use Rattle.tf_core.specs.declared.ty.Ty.TheOpen as type_layer
use Rattle.tf_core.specs.declared.ty.Ty.TheFolds.{fold-Ty}
use Rattle.tf_core.specs.declared.term.Term.{Term}
use Rattle.tf_core.specs.declared.term.Term.TheOpen.{Term-F}
use Rattle.tf_core.specs.declared.term.Term.TheOpen as term_layer
use Rattle.tf_core.specs.declared.term.Term.TheFolds.{fold-Term}
use Rattle.tf_core.specs.declared.nnf.Nnf.{Nnf}
use Rattle.tf_core.specs.declared.nnf.Nnf.TheOpen.{Nnf-F}
use Rattle.tf_core.specs.declared.nnf.Nnf.TheOpen as layer
use Rattle.tf_core.specs.declared.nnf.Nnf.TheFolds.{para-Nnf}
use Rattle.tf_core.specs.declared.signature.Symbol.{Symbol}
use Rattle.tf_core.specs.declared.signature.Signature.{Signature}
use Rattle.tf_core.specs.Types.{instantiate}
use Rattle.fof_models.specs.declared.formula.FofTerm.{FofTerm}
use Rattle.fof_models.specs.declared.formula.FofTerm.TheVariants as term
use Rattle.fof_models.specs.declared.formula.Fof.{Fof}
use Rattle.fof_models.specs.declared.formula.Fof.TheVariants as fof
use Rattle.tf_naked.specs.Covers.{covers}
use Rattle.tf_naked.specs.declared.position.Position.{Position}
use Rattle.tf_naked.specs.declared.position.Position.TheVariants.{Argument, Side}
use Rattle.tf_naked.specs.declared.position.Kind.{Kind}
use Rattle.tf_naked.specs.declared.position.Kind.TheVariants.{Universal, Existential, Applied}
use Rattle.tf_naked.specs.Standing.{is_undercover, is_naked}
use Rattle.enc_marks.specs.declared.choices.Marking.{Marking}
use Rattle.enc_marks.specs.declared.choices.Marking.TheVariants.{ByType, BySort}
use Rattle.enc_marks.specs.declared.choices.Binding.{Binding}
use Rattle.enc_marks.specs.declared.choices.Binding.TheVariants.{ByGuard, ByTag}
use Rattle.enc_marks.specs.Choices.{Choices}

-- The numbers of the marked symbols: of source symbols and constructors by index, of the one guard
-- or tag for all types, and of the guard or tag of each sort.
pub record Numbers : Type 0 where
  pub symbol : ℕ → ℕ
  pub constructor : ℕ → ℕ
  pub shared : ℕ
  pub sort : Ty → ℕ

abbrev pub type_term_step : (ℕ → ℕ) → ℕ → Ty-F FofTerm → FofTerm
type_term_step number depth (type_layer.Var i) = term.Var (depth - (i + 1))
type_term_step number depth (type_layer.Apply c arguments) = term.Apply (number c) arguments

-- a type as a term, by the numbers of the constructors: type variable i is that of the i-th binder
-- from the outside
unfoldable pub type_term : (ℕ → ℕ) → ℕ → Ty → FofTerm
type_term number depth = fold-Ty FofTerm (type_term_step number depth)

-- a term with its tag: `as(t,x)` or `as_s(x)`
abbrev pub tag_by : Marking → Numbers → ℕ → Ty → FofTerm → FofTerm
tag_by ByType k depth ty t = term.Apply k.shared (type_term k.constructor depth ty ∷ t ∷ [])
tag_by BySort k depth ty t = term.Apply (k.sort ty) (t ∷ [])

-- the guard of a term: `is(t,x)` or `is_s(x)`
abbrev pub guard_by : Marking → Numbers → ℕ → Ty → FofTerm → Fof
guard_by ByType k depth ty t = fof.Atom k.shared (type_term k.constructor depth ty ∷ t ∷ [])
guard_by BySort k depth ty t = fof.Atom (k.sort ty) (t ∷ [])

-- the formula that binds a term to a type
abbrev pub bind_by : Binding → Marking → Numbers → ℕ → Ty → FofTerm → Fof
bind_by ByGuard marking k depth ty t = guard_by marking k depth ty t
bind_by ByTag marking k depth ty t = fof.Equal (tag_by marking k depth ty t) t

-- the items whose tests are true, in order
abbrev pub selected : {A : Type 0} → List Bool → List A → List A
selected [] items = []
selected (test ∷ tests) [] = []
selected (true ∷ tests) (item ∷ items) = item ∷ selected tests items
selected (false ∷ tests) (item ∷ items) = selected tests items

-- a term's translation before a tag is put on it, and what the term is
pub record Bare : Type 0 where
  pub kind : Kind
  pub term : FofTerm

-- an atom or an equation with its sign
abbrev pub literal : Bool → Fof → Fof
literal true p = p
literal false p = fof.Not p

module _ (c : Choices) (k : Numbers) (g : Signature) where
  abbrev pub tag : ℕ → Ty → FofTerm → FofTerm
  tag depth ty t = tag_by c.marking k depth ty t

  abbrev pub bind : ℕ → Ty → FofTerm → Fof
  bind depth ty t = bind_by c.binding c.marking k depth ty t

  -- a term of a type in its position, with its tag where it has one there
  abbrev pub placed : ℕ → Position → Ty → Bare → FofTerm
  placed depth position ty t = cond (c.tagged position t.kind ty) (tag depth ty t.term) t.term

  -- terms in argument places, which are covers or not, of these types
  abbrev pub placed_all : ℕ → List Bool → List Ty → List Bare → List FofTerm
  placed_all depth [] types terms = []
  placed_all depth (cover ∷ covers) [] terms = []
  placed_all depth (cover ∷ covers) (ty ∷ types) [] = []
  placed_all depth (cover ∷ covers) (ty ∷ types) (t ∷ terms) =
      placed depth (Argument cover) ty t ∷ placed_all depth covers types terms

  -- what a symbol is applied to: the type arguments that it keeps, then its arguments
  abbrev pub arguments : ℕ → Option Symbol → List Ty → List Bare → List FofTerm
  arguments depth None types terms = []
  arguments depth (Some symbol) types terms =
      map (type_term k.constructor depth) (selected (c.keeps symbol) types)
      ++ placed_all depth (covers symbol) (map (instantiate types) symbol.arguments) terms

  abbrev pub arguments_of : ℕ → ℕ → List Ty → List Bare → List FofTerm
  arguments_of depth f types terms = arguments depth (slice_get g.symbols f) types terms

  abbrev pub bare_step : ℕ → List Kind → Term-F Bare → Bare
  bare_step depth kinds (term_layer.Var i) =
      record { kind = get_or kinds i Universal; term = term.Var i }
  bare_step depth kinds (term_layer.Apply f types terms) =
      record { kind = Applied; term = term.Apply (k.symbol f) (arguments_of depth f types terms) }

  -- a term under so many binders, the nearest of these kinds
  unfoldable pub bare : ℕ → List Kind → Term → Bare
  bare depth kinds = fold-Term Bare (bare_step depth kinds)

  -- a side of an equation of this sign
  abbrev pub side : ℕ → List Kind → Bool → Ty → Term → FofTerm
  side depth kinds positive ty t = placed depth (Side positive) ty (bare depth kinds t)

  -- a universal binder round the translation of its body
  abbrev pub for_all : ℕ → Ty → Nnf → Fof → Fof
  for_all depth ty body translated =
      fof.ForAll (cond (c.universal (is_undercover g body) (is_naked g body) ty)
      (fof.Implies (bind depth ty (term.Var 0)) translated)
      translated)

  -- an existential binder round the translation of its body
  abbrev pub exists : ℕ → Ty → Fof → Fof
  exists depth ty translated =
      fof.Exists (cond (c.existential ty)
      (fof.And (bind depth ty (term.Var 0) ∷ translated ∷ []))
      translated)

  -- one layer, each part beside its translation
  abbrev pub formula_step : Nnf-F (Nnf × (ℕ → List Kind → Fof)) → ℕ → List Kind → Fof
  formula_step layer.True depth kinds = fof.True
  formula_step layer.False depth kinds = fof.False
  formula_step (layer.Atom positive f types terms) depth kinds =
      literal positive
      (fof.Atom (k.symbol f) (arguments_of depth f types (map (bare depth kinds) terms)))
  formula_step (layer.Equation positive ty left right) depth kinds =
      literal positive
      (fof.Equal (side depth kinds positive ty left) (side depth kinds positive ty right))
  formula_step (layer.And parts) depth kinds = fof.And (map (λ part. part.1 depth kinds) parts)
  formula_step (layer.Or parts) depth kinds = fof.Or (map (λ part. part.1 depth kinds) parts)
  formula_step (layer.ForAll ty body) depth kinds =
      for_all (depth + 1) ty body.0 (body.1 (depth + 1) (Universal ∷ kinds))
  formula_step (layer.Exists ty body) depth kinds =
      exists (depth + 1) ty (body.1 (depth + 1) (Existential ∷ kinds))

  -- a formula under so many binders, the nearest of these kinds
  unfoldable pub formula : Nnf → ℕ → List Kind → Fof
  formula = para-Nnf (ℕ → List Kind → Fof) formula_step
