-- What the axioms of a translation ask of structures that correspond, from the typed one on.
use Rattle.std.specs.Prelude.{ℕ, ◌<◌, ◌≡◌, Bool, true, false, List, [], slice_get, Some, IsTrue}
use Rattle.std.specs.List.{AllByRecursion}
use Rattle.tf_core.specs.declared.ty.Ty.{Ty}
use Rattle.tf_core.specs.declared.ty.Ty.TheVariants as type
use Rattle.tf_core.specs.declared.signature.Symbol.{Symbol}
use Rattle.tf_core.specs.declared.signature.Signature.{Signature}
use Rattle.tf_core.specs.Structures.{Typed, member_count, member_of}
use Rattle.fof_models.specs.declared.formula.FofTerm.{FofTerm}
use Rattle.fof_models.specs.declared.formula.Fof.TheVariants as fof
use Rattle.fof_models.specs.Structures.{Untyped}
use Rattle.fof_models.specs.Truth.{value, truth}
use Rattle.tf_naked.specs.declared.position.Position.TheVariants.{Argument}
use Rattle.tf_naked.specs.declared.position.Kind.TheVariants.{Universal}
use Rattle.enc_marks.specs.declared.choices.Marking.TheVariants.{ByType, BySort}
use Rattle.enc_marks.specs.Choices.{Choices}
use Rattle.enc_marks.specs.Translation.{Numbers, type_term, bind}
use Rattle.enc_marks.specs.Axioms.{last_axiom}
use Rattle.enc_laws.specs.Relations.{Relations}

module _ (c : Choices) (k : Numbers) (g : Signature) (s : Typed) (j : Untyped) (r : Relations) where
  -- a type's term has a number that is read as the type's member
  abbrev pub IsTypeRead : ℕ → Ty → List ℕ → List ℕ → Type 0
  IsTypeRead depth ty members assignment =
      r.member (value j assignment (type_term k.constructor depth ty)) (member_of s members ty)

  -- an argument of a typing axiom is read as an element, exactly where its place asks for it
  pub record IsArgument (cover : Bool) (ty : Ty) (members : List ℕ) (v e : ℕ) : Type 0 where
    pub reads : r.reads v (member_of s members ty) e
    pub exact : r.strict (Argument cover) ≡ true → c.tagged (Argument cover) Universal ty ≡ false →
        r.exact v (member_of s members ty) e

  pub record ForwardAxioms : Type 0 where
    -- each number is read as some member
    pub some_member : (v : ℕ) → v < j.size → (m : ℕ) × (m < member_count s) × r.member v m
    -- the types that symbols are declared with are good
    pub declared : (f : ℕ) (symbol : Symbol) → slice_get g.symbols f ≡ Some symbol →
        AllByRecursion r.good symbol.arguments
    pub declared_result : (f : ℕ) (symbol : Symbol) (ty : Ty) →
        slice_get g.symbols f ≡ Some symbol → symbol.result ≡ Some ty → r.good ty
    -- each number is an argument, under its premise where it has one
    pub argument : (depth : ℕ) (cover : Bool) (ty : Ty) (t : FofTerm)
        (members assignment : List ℕ) →
        r.good ty → IsTypeRead depth ty members assignment → value j assignment t < j.size →
        (c.premise cover ty ≡ true → IsTrue (truth j (bind c k g depth ty t) assignment)) →
        (e : ℕ) × IsArgument cover ty members (value j assignment t) e
    -- what a function gives is bound to its result type
    pub result : (depth : ℕ) (ty : Ty) (t : FofTerm) (members assignment : List ℕ) (e : ℕ) →
        r.good ty → c.typing ty ≡ true → IsTypeRead depth ty members assignment →
        r.applied (value j assignment t) (member_of s members ty) e →
        IsTrue (truth j (bind c k g depth ty t) assignment)
    -- the last axioms, of all types and of a sort
    pub last : c.marking ≡ ByType → c.last (type.Var 0) ≡ true →
        IsTrue (truth j (fof.ForAll (last_axiom c k g c.binding 1 (type.Var 0))) [])
    pub last_of_sort : (ty : Ty) → r.good ty → c.marking ≡ BySort → c.last ty ≡ true →
        IsTrue (truth j (last_axiom c k g c.binding 0 ty) [])
