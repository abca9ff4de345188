-- When an untyped structure corresponds to a typed one under the choices of a scheme: its tables
-- give for what is read what the typed structure gives. Both directions of truth share this.
use Rattle.std.specs.Prelude.{ℕ, ◌≡◌, Bool, true, false, List, ◌++◌, map, length, get_or}
use Rattle.std.specs.Prelude.{slice_index, slice_get, Some, None, IsTrue}
use Rattle.std.specs.List.{AllByRecursion}
use Rattle.tf_core.specs.declared.ty.Ty.{Ty}
use Rattle.tf_core.specs.declared.signature.Constructor.{Constructor}
use Rattle.tf_core.specs.declared.signature.Symbol.{Symbol}
use Rattle.tf_core.specs.declared.signature.Signature.{Signature}
use Rattle.tf_core.specs.Types.{instantiate}
use Rattle.tf_core.specs.Typing.{IsType}
use Rattle.tf_core.specs.Structures.{Typed, member_of}
use Rattle.fof_models.specs.declared.formula.FofTerm.{FofTerm}
use Rattle.fof_models.specs.Structures.{Untyped}
use Rattle.fof_models.specs.Truth.{value}
use Rattle.tf_naked.specs.Covers.{covers}
use Rattle.tf_naked.specs.declared.position.Position.{Position}
use Rattle.tf_naked.specs.declared.position.Kind.{Kind}
use Rattle.tf_naked.specs.declared.position.Kind.TheVariants.{Universal, Applied}
use Rattle.enc_marks.specs.Choices.{Choices}
use Rattle.enc_marks.specs.Translation.{Numbers, type_term, selected, tag}
use Rattle.enc_laws.specs.Relations.{Relations, needed, AreRelated, ArgumentsAre, TypesAre}

module _ (c : Choices) (k : Numbers) (g : Signature) (s : Typed) (j : Untyped) (r : Relations) where
  -- What a symbol is applied to is read as members and elements: the type arguments that it keeps,
  -- and its arguments. Those that it doesn't keep are no numbers of the text, but some numbers are
  -- read as their members too.
  pub record IsApplied (symbol : Symbol) (kept values members elements : List ℕ) : Type 0 where
    pub count : length members ≡ symbol.parameters
    pub numbers : List ℕ
    pub types : AreRelated r.member numbers members
    pub kept_types : AreRelated r.member kept (selected (c.keeps symbol) members)
    pub arguments :
        ArgumentsAre r (covers symbol) values (map (member_of s members) symbol.arguments) elements

  pub record Corresponds : Type 0 where
    pub constructors : (i : ℕ) (constructor : Constructor) (values members : List ℕ) →
        slice_get g.constructors i ≡ Some constructor → length members ≡ constructor.arity →
        AreRelated r.member values members →
        r.member (j.symbol_at (k.constructor i) values) (s.constructor_at i members)
    pub functions : (f : ℕ) (symbol : Symbol) (ty : Ty) (kept values members elements : List ℕ) →
        slice_get g.symbols f ≡ Some symbol → symbol.result ≡ Some ty →
        IsApplied symbol kept values members elements →
        r.applied (j.symbol_at (k.symbol f) (kept ++ values)) (member_of s members ty)
        (s.symbol_at f members elements)
    pub predicates : (f : ℕ) (symbol : Symbol) (kept values members elements : List ℕ) →
        slice_get g.symbols f ≡ Some symbol → symbol.result ≡ None →
        IsApplied symbol kept values members elements →
        j.symbol_at (k.symbol f) (kept ++ values) ≡ s.symbol_at f members elements
    -- the types that symbols are declared with are good, at all types for their parameters
    pub good_arguments : (f : ℕ) (symbol : Symbol) (types : List Ty) →
        slice_get g.symbols f ≡ Some symbol → length types ≡ symbol.parameters →
        AllByRecursion r.good (map (instantiate types) symbol.arguments)
    pub good_result : (f : ℕ) (symbol : Symbol) (ty : Ty) (types : List Ty) →
        slice_get g.symbols f ≡ Some symbol → symbol.result ≡ Some ty →
        length types ≡ symbol.parameters → r.good (instantiate types ty)
    pub exact_placed : (v m e : ℕ) → r.exact v m e → r.placed v m e
    -- what has no tag in its position
    pub reads_placed : (position : Position) (kind : Kind) (ty : Ty) (members : List ℕ) (v e : ℕ) →
        r.good ty → c.tagged position kind ty ≡ false → r.reads v (member_of s members ty) e →
        r.placed v (member_of s members ty) e
    pub applied_reads : (v m e : ℕ) → r.applied v m e → r.reads v m e
    pub applied_exact : (position : Position) (ty : Ty) (members : List ℕ) (v e : ℕ) →
        r.good ty → r.strict position ≡ true → c.tagged position Applied ty ≡ false →
        r.applied v (member_of s members ty) e → r.exact v (member_of s members ty) e
    -- what a tag gives is exact
    pub tag_exact : (variables depth : ℕ) (ty : Ty) (members assignment : List ℕ)
        (position : Position) (kind : Kind) (t : FofTerm) (e : ℕ) → IsType g variables ty →
        r.good ty → TypesAre r variables depth members assignment →
        c.tagged position kind ty ≡ true →
        r.member (value j assignment (type_term k.constructor depth ty)) (member_of s members ty) →
        r.reads (value j assignment t) (member_of s members ty) e →
        r.exact (value j assignment (tag c k g depth ty t)) (member_of s members ty) e
    -- one number stands for an element, and what stands in a position is read as one
    pub same : (v w m e : ℕ) → r.exact v m e → r.exact w m e → v ≡ w
    pub one : (v m d e : ℕ) → r.placed v m d → r.placed v m e → d ≡ e

  -- An assignment of an untyped structure is read as one of a typed structure, under binders of
  -- these kinds and types. `at` says of which variables it is asked that they are exact, by the
  -- positions where they stand.
  pub record Reads (variables depth : ℕ) (context : List Ty) (kinds : List Kind)
      (members elements assignment : List ℕ) (at : (Position → Bool) → ℕ → Bool) : Type 0 where
    pub types : TypesAre r variables depth members assignment
    pub terms : (i : ℕ) (ty : Ty) → slice_get context i ≡ Some ty →
        r.reads (slice_index assignment i) (member_of s members ty) (slice_index elements i)
    pub goods : (i : ℕ) (ty : Ty) → slice_get context i ≡ Some ty → r.good ty
    pub exacts : (i : ℕ) (ty : Ty) → slice_get context i ≡ Some ty →
        IsTrue (at (needed c r (get_or kinds i Universal) ty) i) →
        r.exact (slice_index assignment i) (member_of s members ty) (slice_index elements i)
