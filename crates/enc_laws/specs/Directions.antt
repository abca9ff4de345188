-- What each direction of truth asks of the binders.
use Rattle.std.specs.Prelude.{ℕ, ◌+◌, ◌<◌, ◌≡◌, Bool, true, false, List, ◌∷◌, IsTrue}
use Rattle.std.specs.List.{AllByRecursion}
use Rattle.tf_core.specs.declared.ty.Ty.{Ty}
use Rattle.tf_core.specs.declared.nnf.Nnf.{Nnf}
use Rattle.tf_core.specs.declared.nnf.Nnf.TheVariants as nnf
use Rattle.tf_core.specs.declared.signature.Signature.{Signature}
use Rattle.tf_core.specs.Typing.{IsType}
use Rattle.tf_core.specs.Structures.{Typed, member_count, size_of, member_of}
use Rattle.fof_models.specs.declared.formula.FofTerm.TheVariants as term
use Rattle.fof_models.specs.Structures.{Untyped}
use Rattle.fof_models.specs.Truth.{truth}
use Rattle.tf_naked.specs.declared.position.Position.TheVariants.{Side}
use Rattle.tf_naked.specs.declared.position.Kind.{Kind}
use Rattle.tf_naked.specs.declared.position.Kind.TheVariants.{Universal, Existential}
use Rattle.tf_naked.specs.Standing.{stands, is_undercover, is_naked}
use Rattle.enc_marks.specs.Choices.{Choices}
use Rattle.enc_marks.specs.Translation.{Numbers, bind}
use Rattle.enc_laws.specs.Relations.{Relations, needed, TypesAre}

module _ (c : Choices) (k : Numbers) (g : Signature) (s : Typed) (j : Untyped) (r : Relations) where
  -- v is read as element e of a type's member, exactly where a variable of this kind needs it in
  -- the body of its binder
  pub record IsRead (members : List ℕ) (ty : Ty) (kind : Kind) (body : Nnf) (v e : ℕ) : Type 0 where
    pub small : e < size_of s (member_of s members ty)
    pub reads : r.reads v (member_of s members ty) e
    pub exact : IsTrue (stands g (needed c r kind ty) body 0) → r.exact v (member_of s members ty) e

  -- where the binder binds, what it adds is true of v
  abbrev pub IsBound : Bool → ℕ → List ℕ → Ty → ℕ → Type 0
  IsBound binds depth assignment ty v =
      binds ≡ true → IsTrue (truth j (bind c k g (depth + 1) ty (term.Var 0)) (v ∷ assignment))

  -- whether the binder of a universal variable binds it
  abbrev pub is_bound : Ty → Nnf → Bool
  is_bound ty body = c.universal (is_undercover g body) (is_naked g body) ty

  -- what is known at a binder: its type and the members of the type variables, and a property of
  -- formulas
  pub record AtBinder (ok : Nnf → Type 0) (p : Nnf) (variables depth : ℕ) (ty : Ty)
      (members assignment : List ℕ) : Type 0 where
    pub formed : IsType g variables ty
    pub holds : ok p
    pub types : TypesAre r variables depth members assignment

  -- A property of formulas passes to their parts, and tells that the types of binders are good.
  pub record Passes (ok : Nnf → Type 0) : Type 0 where
    pub and : (parts : List Nnf) → ok (nnf.And parts) → AllByRecursion ok parts
    pub or : (parts : List Nnf) → ok (nnf.Or parts) → AllByRecursion ok parts
    pub for_all : (ty : Ty) (body : Nnf) → ok (nnf.ForAll ty body) → r.good ty × ok body
    pub exists : (ty : Ty) (body : Nnf) → ok (nnf.Exists ty body) → r.good ty × ok body

  -- From the typed structure to the untyped one: each number that is bound is read as an element,
  -- and each element is read from a number that is bound.
  pub record Forward (ok : Nnf → Type 0) : Type 0 where
    pub passes : Passes ok
    pub sides : r.strict (Side true) ≡ true
    pub everywhere : (variables depth : ℕ) (ty : Ty) (body : Nnf) (members assignment : List ℕ)
        (v : ℕ) → AtBinder ok (nnf.ForAll ty body) variables depth ty members assignment →
        v < j.size → IsBound (is_bound ty body) depth assignment ty v →
        (e : ℕ) × IsRead members ty Universal body v e
    pub somewhere : (variables depth : ℕ) (ty : Ty) (body : Nnf) (members assignment : List ℕ)
        (e : ℕ) → AtBinder ok (nnf.Exists ty body) variables depth ty members assignment →
        e < size_of s (member_of s members ty) →
        (v : ℕ) × (v < j.size) × IsRead members ty Existential body v e
        × IsBound (c.existential ty) depth assignment ty v

  -- From the untyped structure back: each element is read from a number that is bound, and each
  -- number that is bound is read as an element.
  pub record Backward (ok : Nnf → Type 0) : Type 0 where
    pub passes : Passes ok
    pub sides : r.strict (Side false) ≡ true
    pub everywhere : (variables depth : ℕ) (ty : Ty) (body : Nnf) (members assignment : List ℕ)
        (e : ℕ) → AtBinder ok (nnf.ForAll ty body) variables depth ty members assignment →
        e < size_of s (member_of s members ty) →
        (v : ℕ) × (v < j.size) × IsRead members ty Universal body v e
        × IsBound (is_bound ty body) depth assignment ty v
    pub somewhere : (variables depth : ℕ) (ty : Ty) (body : Nnf) (members assignment : List ℕ)
        (v : ℕ) → AtBinder ok (nnf.Exists ty body) variables depth ty members assignment →
        v < j.size → IsBound (c.existential ty) depth assignment ty v →
        (e : ℕ) × IsRead members ty Existential body v e

  -- each member is read from some number
  abbrev pub NumbersAreRead : Type 0
  NumbersAreRead = (m : ℕ) → m < member_count s → (v : ℕ) × (v < j.size) × r.member v m
