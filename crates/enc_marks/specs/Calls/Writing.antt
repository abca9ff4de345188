-- For private calls: what the writer makes, by the choices and the normal problem. This need not be
-- believed: the definitions that it cites say what is written.
use Rattle.std.specs.Prelude.{ℕ, ◌≡◌, Bool, List, [], ◌∷◌, ◌++◌, cond, map, Option, Some, None}
use Rattle.tf_core.specs.declared.ty.Ty.{Ty}
use Rattle.tf_core.specs.declared.term.Term.{Term}
use Rattle.tf_core.specs.declared.nnf.Nnf.{Nnf}
use Rattle.tf_core.specs.declared.signature.Symbol.{Symbol}
use Rattle.tf_core.specs.declared.signature.Signature.{Signature}
use Rattle.tf_core.specs.declared.normal.Normal.{Normal}
use Rattle.fof_models.specs.declared.formula.FofTerm.{FofTerm}
use Rattle.fof_models.specs.declared.formula.FofTerm.TheVariants.{Var}
use Rattle.fof_models.specs.declared.formula.Fof.{Fof}
use Rattle.fof_models.specs.declared.formula.Fof.TheVariants.{ForAll, Implies}
use Rattle.fof_models.specs.declared.problem.FofFormula.{FofFormula}
use Rattle.tf_naked.specs.Covers.{covers}
use Rattle.tf_naked.specs.declared.position.Position.{Position}
use Rattle.tf_naked.specs.declared.position.Kind.{Kind}
use Rattle.tf_naked.specs.declared.binder.Binder.{Binder}
use Rattle.enc_marks.specs.Axioms.{own_application, premises, typing_axiom, last_axiom}
use Rattle.enc_marks.specs.Choices.{Choices}
use Rattle.enc_marks.specs.Encoded.{MarkedSymbol, all_numbers, marked_symbol, typing_of}
use Rattle.enc_marks.specs.Translation.{Bare, Numbers, arguments, bare, bind, exists, formula}
use Rattle.enc_marks.specs.Translation.{placed, tag, type_term}
use Rattle.enc_marks.specs.declared.shape.Shape.{Shape}
use Rattle.enc_marks.specs.Calls.Slots.{slots_of, AreGround}

-- a type as a term
abbrev pub type_term_in : Normal → ℕ → Ty → FofTerm
type_term_in normal depth ty = type_term (all_numbers normal).constructor depth ty

-- this is a symbol of the signature, with its covers and the type arguments that are written
pub record IsShape (c : Choices) (normal : Normal) (symbol : Option Symbol) (shape : Shape) :
    Type 0 where
  pub symbol_is : symbol ≡ Some shape.symbol.now
  pub covers_are : shape.covers.now ≡ covers shape.symbol.now
  pub kept_are : shape.kept.now ≡ c.keeps shape.symbol.now
  pub slots_are : shape.slots.now ≡ slots_of c normal shape.symbol.now
  pub ground : AreGround c.marking shape.symbol.now.arguments

-- a term is of this kind below binders of these kinds, whatever the choices are
abbrev pub IsKind : List Kind → Term → Kind → Type 0
IsKind kinds t kind = (c : Choices) (k : Numbers) (g : Signature) (depth : ℕ) →
    kind ≡ (bare c k g depth kinds t).kind

-- the first of these binders and the others, where there is one
abbrev pub IsNext : Binder → List Binder → List Binder → Type 0
IsNext binder before after = (first : Binder) (rest : List Binder) → before ≡ first ∷ rest →
    (binder ≡ first) × (after ≡ rest)

-- what holds once these binders are read
abbrev pub AfterReading : List Binder → List Binder → List Binder → Type 0 → Type 0
AfterReading binders before after Fact = (rest : List Binder) → before ≡ binders ++ rest →
    (after ≡ rest) × Fact

-- the typing axiom of a symbol, if there is one: it need not be there, and not be a function
abbrev pub typing_in : Choices → Normal → ℕ → Option Symbol → List FofFormula
typing_in c normal f None = []
typing_in c normal f (Some symbol) = typing_of c normal f symbol symbol.result

-- the marked symbol of a symbol, if it is there
abbrev pub marked_in : Choices → ℕ → Option Symbol → List MarkedSymbol
marked_in c f None = []
marked_in c f (Some symbol) = marked_symbol c f symbol ∷ []

module _ (c : Choices) (normal : Normal) where
  -- a term's translation without a tag of its own, under binders of these kinds
  abbrev pub bare_in : ℕ → List Kind → Term → Bare
  bare_in depth kinds t = bare c (all_numbers normal) normal.signature depth kinds t

  -- a term of a type in its position, with its tag where it has one there
  abbrev pub placed_in : ℕ → Position → Ty → Bare → FofTerm
  placed_in depth position ty t = placed c (all_numbers normal) normal.signature depth position ty t

  -- what a symbol is applied to
  abbrev pub arguments_in : ℕ → List Kind → Option Symbol → List Ty → List Term → List FofTerm
  arguments_in depth kinds symbol types terms =
      arguments c (all_numbers normal) normal.signature depth symbol types
      (map (bare_in depth kinds) terms)

  -- the formula that binds a term to a type
  abbrev pub bind_in : ℕ → Ty → FofTerm → Fof
  bind_in depth ty t = bind c (all_numbers normal) normal.signature depth ty t

  -- a term with the tag of a type
  abbrev pub tag_in : ℕ → Ty → FofTerm → FofTerm
  tag_in depth ty t = tag c (all_numbers normal) normal.signature depth ty t

  -- a formula's translation
  abbrev pub formula_in : ℕ → List Kind → Nnf → Fof
  formula_in depth kinds p = formula c (all_numbers normal) normal.signature p depth kinds

  -- a universal binder, undercover or not, naked or not, round the translation of its body
  abbrev pub for_all_in : ℕ → Bool → Bool → Ty → Fof → Fof
  for_all_in depth undercover naked ty translated =
      ForAll (cond (c.universal undercover naked ty)
      (Implies (bind_in depth ty (Var 0)) translated)
      translated)

  -- an existential binder round the translation of its body
  abbrev pub exists_in : ℕ → Ty → Fof → Fof
  exists_in depth ty translated =
      exists c (all_numbers normal) normal.signature depth ty translated

  -- axioms

  abbrev pub premises_in : ℕ → List Bool → List Ty → ℕ → List Fof
  premises_in = premises c (all_numbers normal) normal.signature

  abbrev pub application_in : ℕ → ℕ → Symbol → FofTerm
  application_in = own_application c (all_numbers normal) normal.signature

  abbrev pub typing_axiom_in : ℕ → Symbol → Ty → Fof
  typing_axiom_in = typing_axiom c (all_numbers normal) normal.signature

  abbrev pub last_in : ℕ → Ty → Fof
  last_in = last_axiom c (all_numbers normal) normal.signature c.binding
