-- The members that types are, and their sizes.
use Rattle.std.specs.Prelude.{ℕ, ◌≡◌, ◌<◌, ◌+◌, List, [], ◌∷◌, ◌++◌, map, length, replicate, take, get_or}
use Rattle.std.proofs.Common.{sym, ap, subst, ◌∙◌}
use Rattle.std.proofs.lemmas.List.{take_more, map-append}
use Rattle.enc_base.specs.Tables.{EachBelow}
use Rattle.enc_base.proofs.Tables.{EachBelow-length}
use Rattle.tf_core.specs.declared.ty.Ty.{Ty}
use Rattle.tf_core.specs.declared.ty.Ty.TheVariants as type
use Rattle.tf_core.specs.declared.signature.Signature.{Signature}
use Rattle.tf_core.specs.Typing.{IsType, AreTypes, no_types, more_types}
use Rattle.tf_core.specs.Structures.{Typed, member_count, size_of, member_of, IsStructure}
use Rattle.tf_core.proofs.Types.{type_value-variable, type_value-apply}
use Rattle.tf_models.proofs.Inversion.{application_parts}
use Rattle.tf_models.proofs.TypeMembers.{type_value_below, type_values_below}
use Rattle.structure_tables.specs.Sources.{AreMembersFor}

pub map-next : {A : Type 0} (f : A → ℕ) (items : List A) (i value : ℕ) (item : A) (found : List ℕ) →
    i < length items → item ≡ get_or items i item → found ≡ map f (take i items) →
    value ≡ f item → found ++ value ∷ [] ≡ map f (take (i + 1) items)
map-next f items i value item found within is so_far same =
    ap (λ xs. xs ++ value ∷ []) so_far
    ∙ ap (λ v. map f (take i items) ++ v ∷ []) (same ∙ ap f is)
    ∙ sym (map-append f (take i items) (get_or items i item ∷ []))
    ∙ ap (map f) (sym (take_more items i item within))

pub member_of-variable : (s : Typed) (members : List ℕ) (ty : Ty) (i : ℕ) → ty ≡ type.Var i →
    get_or members i 0 ≡ member_of s members ty
member_of-variable s members ty i is =
    sym (ap (member_of s members) is ∙ type_value-variable s.constructor_at members i)

pub member_of-apply : (s : Typed) (members arguments : List ℕ) (ty : Ty) (c : ℕ) (types : List Ty) →
    ty ≡ type.Apply c types → arguments ≡ map (member_of s members) types →
    s.constructor_at c arguments ≡ member_of s members ty
member_of-apply s members arguments ty c types is are =
    ap (s.constructor_at c) are
    ∙ sym (ap (member_of s members) is ∙ type_value-apply s.constructor_at members c types)

module _ (g : Signature) (s : Typed) (fits : IsStructure g s) (variables : ℕ) (members : List ℕ)
    (below : EachBelow (replicate variables (member_count s)) members)
  where
    pub member_below : (ty : Ty) → IsType g variables ty → member_of s members ty < member_count s
    member_below ty typed =
        type_value_below g s.constructor_at (member_count s) fits.constructors variables members ty
        typed below

    pub arguments_are_members : (ty : Ty) (c : ℕ) (types : List Ty) (arguments : List ℕ) →
        ty ≡ type.Apply c types → IsType g variables ty →
        arguments ≡ map (member_of s members) types → AreMembersFor g s c arguments
    arguments_are_members ty c types arguments is typed are =
        let parts = application_parts g variables ty c types is typed in
        record {
          constructor = parts.0;
          at = parts.1;
          below =
              subst (EachBelow (replicate parts.0.arity (member_count s))) (sym are)
              (subst (λ n. EachBelow (replicate n (member_count s)) (map (member_of s members) types))
              parts.2
              (type_values_below g s.constructor_at (member_count s) fits.constructors variables
              members types parts.3 below));
        }

    -- members have elements
    pub first_arguments : (types : List Ty) → AreTypes g variables types →
        EachBelow (map (λ ty. size_of s (member_of s members ty)) types)
        (replicate (length (map (λ ty. size_of s (member_of s members ty)) types)) 0)
    first_arguments types no_types = tt
    first_arguments types (more_types ty others formed rest) =
        (fits.inhabited (member_of s members ty) (member_below ty formed), first_arguments others rest)

-- a tuple is over as many bounds as it has parts
pub EachBelow-counted : (count bound : ℕ) (values : List ℕ) → EachBelow (replicate count bound) values →
    EachBelow (replicate (length values) bound) values
EachBelow-counted count bound values below =
    subst (λ n. EachBelow (replicate n bound) values) (EachBelow-length count bound values below) below
