-- What the collapse law asks: of the structure over the domain, of the types, of an assignment.
use Rattle.std.specs.Prelude.{ℕ, zero, suc, ◌+◌, ◌-◌, ◌<◌, ◌≤◌, ◌≡◌, ◌⊎◌, Bool, true, false, not, ◌&&◌, List, [], ◌∷◌, ◌++◌}
use Rattle.std.specs.Prelude.{map, length, replicate, ltb, min, get_or, slice_get, slice_index, Some, IsTrue}
use Rattle.std.specs.List.{AllByRecursion}
use Rattle.enc_base.specs.Tables.{EachBelow, place}
use Rattle.tf_core.specs.declared.ty.Ty.{Ty}
use Rattle.tf_core.specs.declared.nnf.Nnf.{Nnf}
use Rattle.tf_core.specs.declared.signature.Constructor.{Constructor}
use Rattle.tf_core.specs.declared.signature.Symbol.{Symbol}
use Rattle.tf_core.specs.declared.signature.Signature.{Signature}
use Rattle.tf_core.specs.Types.{instantiate}
use Rattle.tf_core.specs.Typing.{IsType}
use Rattle.tf_core.specs.Structures.{Typed, member_count, size_of, member_of}
use Rattle.fof_models.specs.declared.formula.FofTerm.{FofTerm}
use Rattle.fof_models.specs.Structures.{Untyped}
use Rattle.fof_models.specs.Truth.{value, truth}
use Rattle.structure_tables.specs.TypedTabled.{symbol_block}
use Rattle.tf_naked.specs.declared.position.Position.{Position}
use Rattle.tf_naked.specs.declared.position.Kind.{Kind}
use Rattle.tf_naked.specs.declared.position.Kind.TheVariants.{Universal}
use Rattle.tf_naked.specs.Standing.{is_positive_side, stands, is_undercover, is_naked}
use Rattle.enc_marks.specs.Choices.{Choices, all_types}
use Rattle.enc_marks.specs.Translation.{Numbers, tag, bind}
use Rattle.enc_laws.specs.CollapsedStructure.{collapse, members_collapsed}
use Rattle.tf_collapse.specs.Domain.{CollapsedDomain}
use Rattle.tf_collapse.specs.PulledBack.{pulled_back}
use Rattle.tf_collapse.specs.BinderParts.{HasBinder}

-- The collapsed assignment. The values of type variables, which are those of the outermost binders,
-- are read as members, and those of the other variables as elements of their types' members.

abbrev pub assigned_members : Typed → ℕ → ℕ → List ℕ → List ℕ
assigned_members s zero depth assignment = []
assigned_members s (suc variables) depth assignment =
    collapse (member_count s) (slice_index assignment (depth - 1))
    ∷ assigned_members s variables (depth - 1) assignment

abbrev pub assigned_elements : Typed → List ℕ → List Ty → List ℕ → List ℕ
assigned_elements s members [] assignment = []
assigned_elements s members (ty ∷ context) [] = []
assigned_elements s members (ty ∷ context) (v ∷ assignment) =
    collapse (size_of s (member_of s members ty)) v
    ∷ assigned_elements s members context assignment

-- the members that the types of a symbol's arguments are
abbrev pub argument_members : Typed → Symbol → List ℕ → List ℕ
argument_members s symbol members = map (member_of s members) symbol.arguments

-- to what types binders bind, typing axioms do
pub record AreBound (c : Choices) : Type 0 where
  pub universal : (undercover naked : Bool) (ty : Ty) → c.universal undercover naked ty ≡ true →
      c.typing ty ≡ true
  pub existential : (ty : Ty) → c.existential ty ≡ true → c.typing ty ≡ true

module _ (c : Choices) (k : Numbers) (g : Signature) (s : Typed) (d : CollapsedDomain)
    (j : Untyped) where
  -- The structure stands over the domain. Constructors give members' numbers, and each symbol has,
  -- under what its type arguments are read as, its table pulled back.
  pub record IsPulledBack : Type 0 where
    pub size : j.size ≡ d.big
    -- the sizes of the members, with the domain's in the place of each greater one
    pub sizes : d.sizes ≡ map (λ size. min size d.big) s.sizes
    pub constructors : (i : ℕ) (constructor : Constructor) (values : List ℕ) →
        slice_get g.constructors i ≡ Some constructor →
        EachBelow (replicate constructor.arity d.big) values →
        j.symbol_at (k.constructor i) values ≡ s.constructor_at i (members_collapsed s values)
    pub symbols : (f : ℕ) (symbol : Symbol) (kept values : List ℕ) →
        slice_get g.symbols f ≡ Some symbol → EachBelow (replicate symbol.parameters d.big) kept →
        EachBelow (replicate (length symbol.arguments) d.big) values →
        j.symbol_at (k.symbol f) (kept ++ values)
        ≡ slice_index
        (pulled_back d (argument_members s symbol (members_collapsed s kept))
        (symbol_block s symbol f (members_collapsed s kept)))
        (place (replicate (length symbol.arguments) d.big) values)

  -- A type's members are no greater than the domain. What binds a term to it is true below its
  -- member's size, and its tag gives what a number is read as.
  pub record IsTreated (ty : Ty) : Type 0 where
    pub fits : (members : List ℕ) → member_of s members ty < member_count s →
        size_of s (member_of s members ty) ≤ d.big
    pub bound : (depth : ℕ) (t : FofTerm) (members assignment : List ℕ) → c.typing ty ≡ true →
        value j assignment t < d.big →
        truth j (bind c k g depth ty t) assignment
        ≡ ltb (value j assignment t) (size_of s (member_of s members ty))
    pub tagged : (depth : ℕ) (t : FofTerm) (members assignment : List ℕ) (position : Position)
        (kind : Kind) → c.tagged position kind ty ≡ true → value j assignment t < d.big →
        value j assignment (tag c k g depth ty t)
        ≡ collapse (size_of s (member_of s members ty)) (value j assignment t)

  -- the types of the signature are, as declared and at all types for parameters
  pub record IsTreatedSignature : Type 0 where
    pub arguments : (f : ℕ) (symbol : Symbol) (types : List Ty) →
        slice_get g.symbols f ≡ Some symbol → length types ≡ symbol.parameters →
        AllByRecursion IsTreated (map (instantiate types) symbol.arguments)
    pub result : (f : ℕ) (symbol : Symbol) (ty : Ty) (types : List Ty) →
        slice_get g.symbols f ≡ Some symbol → symbol.result ≡ Some ty →
        length types ≡ symbol.parameters → IsTreated (instantiate types ty)
    pub declared : (f : ℕ) (symbol : Symbol) → slice_get g.symbols f ≡ Some symbol →
        AllByRecursion IsTreated symbol.arguments
    pub declared_result : (f : ℕ) (symbol : Symbol) (ty : Ty) →
        slice_get g.symbols f ≡ Some symbol → symbol.result ≡ Some ty → IsTreated ty

  -- a position is a side of a positive equation, and a variable of this kind and type has no tag
  -- there
  abbrev pub is_bare_side : Kind → Ty → Position → Bool
  is_bare_side kind ty position = is_positive_side position && not (c.tagged position kind ty)

  -- An open formula: the types that occur are treated, and its variables, of these types and under
  -- so many binders, have numbers of the domain.
  pub record IsOpen (variables depth : ℕ) (context : List Ty) (assignment : List ℕ) (p : Nnf) :
      Type 0 where
    pub formed : AllByRecursion (IsType g variables) context
    pub deep : variables ≤ depth
    pub signature : IsTreatedSignature
    pub binders : (kind : Kind) (ty : Ty) (body : Nnf) → HasBinder ty body kind p → IsTreated ty
    pub free : (i : ℕ) (ty : Ty) → slice_get context i ≡ Some ty → IsTreated ty
    pub within : (i : ℕ) → slice_index assignment i < d.big

  -- The four premises. Free variables have these types and kinds, `is_bound` says of which of them
  -- their binders have bound them to their types, and `sizes` how large their types' members are.
  pub record Premises (context : List Ty) (kinds : List Kind) (assignment : List ℕ)
      (size_at : Ty → ℕ) (is_bound : ℕ → Bool) (p : Nnf) : Type 0 where
    -- A universal variable that isn't bound to its type, and whose member is smaller than the
    -- domain, stands on no side of a positive equation without its tag.
    pub binders : (ty : Ty) (body : Nnf) (members : List ℕ) → HasBinder ty body Universal p →
        IsTrue (stands g (is_bare_side Universal ty) body 0) →
        (c.universal (is_undercover g body) (is_naked g body) ty ≡ true)
        ⊎ (d.big ≤ size_of s (member_of s members ty))
    -- a free variable that is bound to its type is below its member's size
    pub bound : (i : ℕ) (ty : Ty) → slice_get context i ≡ Some ty → is_bound i ≡ true →
        slice_index assignment i < size_at ty
    -- one that isn't, and that isn't below it, stands on no such side
    pub sides : (i : ℕ) (ty : Ty) → slice_get context i ≡ Some ty → is_bound i ≡ false →
        IsTrue (stands g (is_bare_side (get_or kinds i Universal) ty) p i) →
        slice_index assignment i < size_at ty
    -- no symbol has a parameter, or all type arguments are written and there are no more members
    -- than numbers
    pub types :
        ((f : ℕ) (symbol : Symbol) → slice_get g.symbols f ≡ Some symbol → symbol.parameters ≡ 0)
        ⊎ (((f : ℕ) (symbol : Symbol) → slice_get g.symbols f ≡ Some symbol →
        c.keeps symbol ≡ all_types symbol) × (member_count s ≤ d.big))
