-- Instances while they are made, in a table that grows.
use Rattle.std.specs.Prelude.{ℕ, zero, suc, ◌≡◌, ◌<◌, ◌≤◌, List, [], ◌∷◌, map, take, length, get_or}
use Rattle.std.specs.List.{AllByRecursion}
use Rattle.std.proofs.Common.{sym, ap, subst, ◌∙◌, arith}
use Rattle.std.proofs.lemmas.List.{take_all}
use Rattle.std.proofs.lemmas.List.Elements.{All-from_recursion, All-get_or}
use Rattle.tf_core.specs.declared.ty.Ty.{Ty}
use Rattle.tf_core.specs.declared.ty.Ty.TheVariants as type
use Rattle.tf_core.specs.Types.{instantiate}
use Rattle.tf_core.proofs.Types.{instantiate-variable, instantiate-apply}
use Rattle.tf_types.specs.declared.node.TypeId.{TypeId}
use Rattle.tf_types.specs.declared.node.TypeNode.{TypeNode}
use Rattle.tf_types.specs.declared.node.TypeNode.TheVariants as node
use Rattle.tf_types.specs.Numbers.{Denotes, IsNumber, AreNumbers, type_at, Extends}
use Rattle.tf_types.specs.Nodes.{denoted, NamesBelow}
use Rattle.tf_types.specs.Instances.{arguments_of, IsInstance}
use Rattle.tf_types.proofs.Numbers.{Denotes-type_at, type_at-Denotes, IsNumber-Denotes, Denotes-extended, type_at-extended, types_at-extended}
use Rattle.tf_types.proofs.Instances.{arguments_of-apply}

-- numbers below one of the table are of the table

pub AreNumbers-below : (types : List Ty) (bound : ℕ) → bound ≤ length types → (ids : List TypeId) →
    AllByRecursion (λ (number : TypeId). number.index < bound) ids → AreNumbers types ids
AreNumbers-below types bound within [] below = tt
AreNumbers-below types bound within (id ∷ ids) below =
    (omega (arith, below.0, within), AreNumbers-below types bound within ids below.1)

pub below-among : (bound : ℕ) (ids : List TypeId) (i : ℕ) (default : TypeId) →
    AllByRecursion (λ (number : TypeId). number.index < bound) ids → i < length ids →
    (get_or ids i default).index < bound
below-among bound ids i default below within =
    All-get_or (λ (number : TypeId). number.index < bound) ids i default within
    (All-from_recursion (λ (number : TypeId). number.index < bound) ids below)

-- what a node names, over the table

pub names_of_apply : (bound : ℕ) (gives : TypeNode) (c : ℕ) (arguments ids : List TypeId) →
    gives ≡ node.Apply c arguments → ids ≡ arguments → NamesBelow bound gives →
    AllByRecursion (λ (number : TypeId). number.index < bound) ids
names_of_apply bound gives c arguments ids is all below =
    subst (AllByRecursion (λ (number : TypeId). number.index < bound)) (sym all)
    (subst (NamesBelow bound) is below)

-- an instance is kept by the number of its types, the arguments of one more type

module _ (types : List Ty) (id listed made : TypeId) (instances : List Ty)
    (lists : Denotes types listed (type.Apply 0 instances))
  where
    arguments-listed : arguments_of (type_at types listed) ≡ instances
    arguments-listed =
        ap arguments_of (type_at-Denotes types listed (type.Apply 0 instances) lists)
        ∙ arguments_of-apply 0 instances

    pub Denotes-kept : IsInstance types (record { ty = id; types = listed }) made →
        Denotes types made (instantiate instances (type_at types id))
    Denotes-kept instance =
        subst (λ them. Denotes types made (instantiate them (type_at types id))) arguments-listed
        instance.2

    pub IsInstance-made : IsNumber types id → (ty : Ty) → type_at types id ≡ ty →
        Denotes types made (instantiate instances ty) →
        IsInstance types (record { ty = id; types = listed }) made
    IsInstance-made number ty is denotes = (
      number,
      IsNumber-Denotes types listed (type.Apply 0 instances) lists,
      subst (λ them. Denotes types made (instantiate them (type_at types id)))
          (sym arguments-listed)
          (subst (λ t. Denotes types made (instantiate instances t)) (sym is) denotes),
    )

-- what a variable is replaced by

Denotes-among : (types : List Ty) (ids : List TypeId) (i : ℕ) (id : TypeId) → AreNumbers types ids →
    IsNumber types id →
    Denotes types (get_or ids i id) (get_or (map (type_at types) ids) i (type_at types id))
Denotes-among types [] i id numbers number = Denotes-type_at types id number
Denotes-among types (first ∷ ids) zero id numbers number = Denotes-type_at types first numbers.0
Denotes-among types (first ∷ ids) (suc i) id numbers number =
    Denotes-among types ids i id numbers.1 number

pub Denotes-replacement : (types : List Ty) (ids : List TypeId) (i : ℕ) (id made : TypeId) →
    AreNumbers types ids → IsNumber types id → type.Var i ≡ type_at types id →
    made ≡ get_or ids i id →
    Denotes types made (instantiate (map (type_at types) ids) (type_at types id))
Denotes-replacement types ids i id made numbers number is replaced =
    subst (λ them. Denotes types them (instantiate (map (type_at types) ids) (type_at types id)))
    (sym replaced)
    (subst (Denotes types (get_or ids i id))
    (ap (get_or (map (type_at types) ids) i) (sym is)
    ∙ sym (instantiate-variable (map (type_at types) ids) i)
    ∙ ap (instantiate (map (type_at types) ids)) is)
    (Denotes-among types ids i id numbers number))

-- an instance of a constructor applied to types
pub instantiate-is : (instances : List Ty) (c : ℕ) (types : List Ty) (ty : Ty) →
    type.Apply c types ≡ ty →
    type.Apply c (map (instantiate instances) types) ≡ instantiate instances ty
instantiate-is instances c types ty is =
    sym (instantiate-apply instances c types) ∙ ap (instantiate instances) is

-- the instance of a node whose arguments have been gone through
pub Denotes-through : (types now : List Ty) (id made : TypeId) (instances : List Ty) (c : ℕ)
    (arguments ids : List TypeId) (gives : TypeNode) (i : ℕ) →
    Denotes now made
    (type.Apply c (map (instantiate instances) (map (type_at types) (take i ids)))) →
    length ids ≤ i → ids ≡ arguments → gives ≡ node.Apply c arguments →
    denoted types gives ≡ type_at types id →
    Denotes now made (instantiate instances (type_at types id))
Denotes-through types now id made instances c arguments ids gives i so_far through all is denotes =
    subst (Denotes now made)
    (ap (λ them. type.Apply c (map (instantiate instances) (map (type_at types) them)))
    (take_all i ids through ∙ all)
    ∙ instantiate-is instances c (map (type_at types) arguments) (type_at types id)
    (ap (denoted types) (sym is) ∙ denotes))
    so_far

-- what was asked for, in a table that has grown

module _ (old new : List Ty) (grows : Extends old new) (ids : List TypeId)
    (numbers : AreNumbers old ids)
  where
    pub Denotes-listed : (listed : TypeId) →
        Denotes old listed (type.Apply 0 (map (type_at old) ids)) →
        Denotes new listed (type.Apply 0 (map (type_at new) ids))
    Denotes-listed listed lists =
        subst (λ them. Denotes new listed (type.Apply 0 them))
        (sym (types_at-extended old new grows ids numbers))
        (Denotes-extended old new grows listed (type.Apply 0 (map (type_at old) ids)) lists)

    pub instantiate-extended : (id : TypeId) → IsNumber old id →
        instantiate (map (type_at new) ids) (type_at new id)
        ≡ instantiate (map (type_at old) ids) (type_at old id)
    instantiate-extended id number =
        ap (λ them. instantiate them (type_at new id)) (types_at-extended old new grows ids numbers)
        ∙ ap (instantiate (map (type_at old) ids)) (type_at-extended old new grows id number)
