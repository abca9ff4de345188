-- When an untyped structure stands for a typed one over the collapsed domain, and which choices it
-- bears: each type is bare, guarded or tagged.
use Rattle.std.specs.Prelude.{ℕ, ◌+◌, ◌<◌, ◌≤◌, ◌≡◌, ◌⊎◌, Bool, true, List, [], ◌++◌, map, length}
use Rattle.std.specs.Prelude.{replicate, ltb, slice_get, Some, IsTrue}
use Rattle.std.specs.List.{AllByRecursion}
use Rattle.enc_base.specs.Tables.{EachBelow}
use Rattle.tf_core.specs.declared.ty.Ty.{Ty}
use Rattle.tf_core.specs.declared.ty.Ty.TheVariants as type
use Rattle.tf_core.specs.declared.nnf.Nnf.{Nnf}
use Rattle.tf_core.specs.declared.nnf.Nnf.TheVariants as nnf
use Rattle.tf_core.specs.declared.signature.Constructor.{Constructor}
use Rattle.tf_core.specs.declared.signature.Symbol.{Symbol}
use Rattle.tf_core.specs.declared.signature.Signature.{Signature}
use Rattle.tf_core.specs.Types.{instantiate}
use Rattle.tf_core.specs.Structures.{Typed, member_count, size_of, member_of}
use Rattle.fof_models.specs.declared.formula.FofTerm.{FofTerm}
use Rattle.fof_models.specs.declared.formula.Fof.TheVariants as fof
use Rattle.fof_models.specs.Structures.{Untyped}
use Rattle.fof_models.specs.Truth.{value, truth}
use Rattle.tf_naked.specs.declared.position.Position.{Position}
use Rattle.tf_naked.specs.declared.position.Kind.{Kind}
use Rattle.tf_naked.specs.declared.position.Kind.TheVariants.{Universal}
use Rattle.tf_naked.specs.Standing.{is_positive_side, stands, is_undercover, is_naked}
use Rattle.enc_marks.specs.declared.choices.Marking.TheVariants.{ByType, BySort}
use Rattle.enc_marks.specs.Choices.{Choices}
use Rattle.enc_marks.specs.Translation.{Numbers, selected, tag, bind}
use Rattle.enc_marks.specs.Axioms.{last_axiom}
use Rattle.enc_laws.specs.Relations.{Relations, needed, AreRelated}
use Rattle.enc_laws.specs.Directions.{Passes}
use Rattle.enc_laws.specs.CollapsedStructure.{collapse, elements_collapsed}

-- a number of the domain is read as this element of a member
pub record IsCollapsedTo (s : Typed) (j : Untyped) (v m e : ℕ) : Type 0 where
  pub below : v < j.size
  pub is : collapse (size_of s m) v ≡ e
  pub small : e < size_of s m

-- it is the element's own number
pub record IsOwnNumber (s : Typed) (j : Untyped) (v m e : ℕ) : Type 0 where
  pub below : v < j.size
  pub is : v ≡ e
  pub small : e < size_of s m

abbrev pub collapsing : Typed → Untyped → (ℕ → ℕ → Type 0) → (Ty → Type 0) → Relations
collapsing s j member good = record {
  strict = is_positive_side;
  good = good;
  member = member;
  reads = IsCollapsedTo s j;
  exact = IsOwnNumber s j;
  applied = IsOwnNumber s j;
  placed = IsCollapsedTo s j;
}

module _ (c : Choices) (k : Numbers) (g : Signature) (s : Typed) (j : Untyped)
    (member : ℕ → ℕ → Type 0) (good : Ty → Type 0) where
  pub record Collapses (ok : Nnf → Type 0) : Type 0 where
    pub passes : Passes c k g s j (collapsing s j member good) ok
    pub within : (v m : ℕ) → member v m → m < member_count s
    pub constructors : (i : ℕ) (constructor : Constructor) (values members : List ℕ) →
        slice_get g.constructors i ≡ Some constructor → length members ≡ constructor.arity →
        AreRelated member values members →
        member (j.symbol_at (k.constructor i) values) (s.constructor_at i members)
    -- tables are read at collapsed arguments
    pub symbols : (f : ℕ) (symbol : Symbol) (kept values members : List ℕ) →
        slice_get g.symbols f ≡ Some symbol → length members ≡ symbol.parameters →
        AreRelated member kept (selected (c.keeps symbol) members) →
        EachBelow (replicate (length symbol.arguments) j.size) values →
        j.symbol_at (k.symbol f) (kept ++ values)
        ≡ s.symbol_at f members
        (elements_collapsed s j.size (map (member_of s members) symbol.arguments) values)
    pub good_arguments : (f : ℕ) (symbol : Symbol) (types : List Ty) →
        slice_get g.symbols f ≡ Some symbol → length types ≡ symbol.parameters →
        AllByRecursion good (map (instantiate types) symbol.arguments)
    pub good_result : (f : ℕ) (symbol : Symbol) (ty : Ty) (types : List Ty) →
        slice_get g.symbols f ≡ Some symbol → symbol.result ≡ Some ty →
        length types ≡ symbol.parameters → good (instantiate types ty)
    pub declared : (f : ℕ) (symbol : Symbol) → slice_get g.symbols f ≡ Some symbol →
        AllByRecursion good symbol.arguments
    pub declared_result : (f : ℕ) (symbol : Symbol) (ty : Ty) →
        slice_get g.symbols f ≡ Some symbol → symbol.result ≡ Some ty → good ty
    -- the domain is large enough
    pub fits : (ty : Ty) (members : List ℕ) → good ty → member_of s members ty < member_count s →
        size_of s (member_of s members ty) ≤ j.size
    pub tag_is : (depth : ℕ) (ty : Ty) (t : FofTerm) (members assignment : List ℕ)
        (position : Position) (kind : Kind) → good ty → c.tagged position kind ty ≡ true →
        value j assignment t < j.size →
        value j assignment (tag c k g depth ty t)
        ≡ collapse (size_of s (member_of s members ty)) (value j assignment t)
    pub bind_is : (depth : ℕ) (ty : Ty) (t : FofTerm) (members assignment : List ℕ) → good ty →
        c.typing ty ≡ true → value j assignment t < j.size →
        truth j (bind c k g depth ty t) assignment
        ≡ ltb (value j assignment t) (size_of s (member_of s members ty))
    pub universal : (undercover naked : Bool) (ty : Ty) → c.universal undercover naked ty ≡ true →
        c.typing ty ≡ true
    pub existential : (ty : Ty) → c.existential ty ≡ true → c.typing ty ≡ true
    -- a universal variable that has to be exact is bound to its type, or its type has every number
    -- as an element
    pub binds : (ty : Ty) (body : Nnf) (members : List ℕ) → ok (nnf.ForAll ty body) → good ty →
        IsTrue (stands g (needed c (collapsing s j member good) Universal ty) body 0) →
        (c.universal (is_undercover g body) (is_naked g body) ty ≡ true)
        ⊎ (j.size ≤ size_of s (member_of s members ty))

  -- what a whole problem needs besides
  pub record CollapsesAll : Type 0 where
    pub some_member : (v : ℕ) → v < j.size → (m : ℕ) × (m < member_count s) × member v m
    pub last : c.marking ≡ ByType → c.last (type.Var 0) ≡ true →
        IsTrue (truth j (fof.ForAll (last_axiom c k g c.binding 1 (type.Var 0))) [])
    pub last_of_sort : (ty : Ty) → good ty → c.marking ≡ BySort → c.last ty ≡ true →
        IsTrue (truth j (last_axiom c k g c.binding 0 ty) [])
