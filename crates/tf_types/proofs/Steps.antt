-- The steps of loops that apply a constructor to one type after another.
use Rattle.std.specs.Prelude.{ℕ, ◌≡◌, ◌<◌, ◌+◌, List, ◌∷◌, [], ◌++◌, map, length, take, get_or}
use Rattle.std.proofs.Common.{sym, ap, subst, ◌∙◌}
use Rattle.std.proofs.lemmas.List.{map_more, take_more, map-append}
use Rattle.tf_core.specs.declared.ty.Ty.{Ty}
use Rattle.tf_core.specs.Types.{instantiate}
use Rattle.tf_types.specs.declared.node.TypeId.{TypeId}
use Rattle.tf_types.specs.Numbers.{Denotes, IsNumber, AreNumbers, type_at, IsOneToOne, Extends}
use Rattle.tf_types.specs.Nodes.{with_argument}
use Rattle.tf_types.proofs.Numbers.{type_at-Denotes, type_at-extended}
use Rattle.tf_types.proofs.Applied.{IsApplied, IsApplied-later, IsApplied-more, IsNumber-among}
use Rattle.tf_types.proofs.Made.{instantiate-extended}

-- a number that stands in its place of a list is of the table
pub IsNumber-in_place : (types : List Ty) (ids : List TypeId) (i : ℕ) (id : TypeId) →
    AreNumbers types ids → i < length ids → id ≡ get_or ids i id → IsNumber types id
IsNumber-in_place types ids i id numbers within is =
    subst (IsNumber types) (sym is) (IsNumber-among types ids i id numbers within)

module _ (start now middle end : List Ty) (i : ℕ) (id made argument : TypeId) (c : ℕ)
    (grows : Extends now middle) (apart : IsOneToOne middle)
    (denotes : Denotes end made (with_argument (type_at middle id) (type_at middle argument)))
    (grows_more : Extends middle end) (still_apart : IsOneToOne end)
  where
    IsApplied-two : (done : List Ty) (ty : Ty) → IsApplied start now id c done →
        type_at middle argument ≡ ty → IsApplied start end made c (done ++ ty ∷ [])
    IsApplied-two done ty so_far is =
        IsApplied-more start middle id c done
        (IsApplied-later start now id c done so_far middle grows apart)
        end argument made ty is denotes grows_more still_apart

    -- over types that are numbered one after another
    pub IsApplied-next_type : (types : List Ty) (ty : Ty) →
        IsApplied start now id c (take i types) →
        i < length types → ty ≡ get_or types i ty → Denotes middle argument ty →
        IsApplied start end made c (take (i + 1) types)
    IsApplied-next_type types ty so_far within is numbered =
        subst (IsApplied start end made c)
        (ap (λ t. take i types ++ t ∷ []) is ∙ sym (take_more types i ty within))
        (IsApplied-two (take i types) ty so_far (type_at-Denotes middle argument ty numbered))

    -- over the instances of types that have numbers
    pub IsApplied-next_instance : (instances ids : List TypeId) (default : TypeId) →
        IsApplied start now id c
        (map (instantiate (map (type_at start) instances)) (map (type_at start) (take i ids))) →
        AreNumbers start instances → AreNumbers start ids → i < length ids →
        Denotes middle argument
        (instantiate (map (type_at now) instances) (type_at now (get_or ids i default))) →
        IsApplied start end made c
        (map (instantiate (map (type_at start) instances)) (map (type_at start) (take (i + 1) ids)))
    IsApplied-next_instance instances ids default so_far numbers of_table within made_of =
        let inst : Ty → Ty = instantiate (map (type_at start) instances) in
        let from : TypeId = get_or ids i default in
        subst (IsApplied start end made c)
        (sym (map-append inst (map (type_at start) (take i ids)) (type_at start from ∷ []))
        ∙ ap (map inst) (sym (map_more (type_at start) ids i default within)))
        (IsApplied-two (map inst (map (type_at start) (take i ids))) (inst (type_at start from))
        so_far
        (type_at-Denotes middle argument
        (instantiate (map (type_at now) instances) (type_at now from)) made_of
        ∙ instantiate-extended start now so_far.kept instances numbers from
        (IsNumber-among start ids i default of_table within)))

-- over types that have numbers
pub IsApplied-next_number : (start now end : List Ty) (ids : List TypeId) (i : ℕ)
    (id made default : TypeId) (c : ℕ) →
    IsApplied start now id c (map (type_at start) (take i ids)) → AreNumbers start ids →
    i < length ids →
    Denotes end made (with_argument (type_at now id) (type_at now (get_or ids i default))) →
    Extends now end → IsOneToOne end →
    IsApplied start end made c (map (type_at start) (take (i + 1) ids))
IsApplied-next_number start now end ids i id made default c so_far numbers within denotes grows
    apart =
    subst (IsApplied start end made c) (sym (map_more (type_at start) ids i default within))
    (IsApplied-more start now id c (map (type_at start) (take i ids)) so_far end
    (get_or ids i default) made (type_at start (get_or ids i default))
    (type_at-extended start now so_far.kept (get_or ids i default)
    (IsNumber-among start ids i default numbers within))
    denotes grows apart)
