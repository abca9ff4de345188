-- Types looked up: a type stands in a table only where all that it is made of does.
use Rattle.std.specs.Prelude.{ℕ, zero, suc, ◌+◌, ◌-◌, ◌<◌, ◌≤◌, ◌≡◌, false, List, [], ◌∷◌, ◌++◌, length, take, get_or, slice_get, Some}
use Rattle.std.specs.List.{list_any, position}
use Rattle.std.proofs.Common.{sym, ap, subst, ◌∙◌, arith, true≢false}
use Rattle.std.proofs.lemmas.List.{take_all, take_more, same_from_push}
use Rattle.std.proofs.lemmas.List.Folds.{list_any_at}
use Rattle.std.proofs.lemmas.List.Quantifiers.{position-Some}
use Rattle.std.proofs.lemmas.Option.{slice_get_within, slice_get-get_or, get_or_from_slice_get, same_Some}
use Rattle.tf_core.specs.declared.ty.Ty.{Ty}
use Rattle.tf_core.specs.declared.ty.Ty.TheVariants as type
use Rattle.tf_types.specs.declared.node.TypeId.{TypeId}
use Rattle.tf_types.specs.declared.node.Node.{Node}
use Rattle.tf_types.specs.declared.node.Node.TheVariants.{Variable, Constructor, Applied}
use Rattle.tf_types.specs.Numbers.{Denotes, IsNumber, IsAbsent, Stands, HoldsParts, type_at}
use Rattle.tf_types.specs.Nodes.{given, with_argument, IsFormed, IsFormedBelow, AreNumbered}
use Rattle.tf_types.proofs.Numbers.{type_at-Denotes, Denotes-type_at}
use Rattle.tf_types.proofs.EqualKeys.{eq_node, same_node, node_itself}
use Rattle.tf_types.proofs.Nodes.{absent_type, apply_parts, nothing_differs, variable_differs, with_argument-is}

-- ---- parts of what a node gives

module _ (types : List Ty) (bound : ℕ) (small : bound ≤ length types) (c : ℕ) (front : List Ty)
    (last : Ty)
  where
    parts_given : (node : Node) → IsFormedBelow bound types node →
        given types node ≡ type.Apply c (front ++ last ∷ []) →
        Stands types (type.Apply c front) × Stands types last
    parts_given (Variable i) formed same =
        absurd (variable_differs i c (front ++ last ∷ []) same)
    parts_given (Constructor d) formed same =
        absurd (nothing_differs front last (apply_parts d c [] (front ++ last ∷ []) same).1)
    parts_given (Applied function argument) formed same =
        let function_is : type_at types function ≡ type.Apply formed.2.0 formed.2.1 =
        formed.2.2 in
        let parts : (formed.2.0 ≡ c)
        × (formed.2.1 ++ type_at types argument ∷ [] ≡ front ++ last ∷ []) =
        apply_parts formed.2.0 c (formed.2.1 ++ type_at types argument ∷ []) (front ++ last ∷ [])
        (sym (with_argument-is (type_at types function) (type_at types argument) formed.2.0
        formed.2.1 function_is) ∙ same) in
        let split : (formed.2.1 ≡ front) × (type_at types argument ≡ last) =
        same_from_push formed.2.1 front (type_at types argument) last parts.1 in (
          (
            function,
            Denotes-type_at types function (omega (arith, formed.0, small))
                ∙ ap Some (function_is ∙ ap (λ n. type.Apply n formed.2.1) parts.0
                ∙ ap (type.Apply c) split.0),
          ),
          (
            argument,
            Denotes-type_at types argument (omega (arith, formed.1, small)) ∙ ap Some split.1,
          ),
        )

pub AreNumbered-HoldsParts : (nodes : List Node) (types : List Ty) → AreNumbered nodes types →
    HoldsParts types
AreNumbered-HoldsParts nodes types numbered c front last stands =
    let k : ℕ = stands.0.index in
    let whole : Ty = type.Apply c (front ++ last ∷ []) in
    let within : k < length types = slice_get_within types k whole stands.1 in
    let node : Node = get_or nodes k (Variable 0) in
    let there : slice_get nodes k ≡ Some node =
    slice_get-get_or nodes k (Variable 0) (omega (arith, within, numbered.count)) in
    parts_given types k (omega (arith, within)) c front last node (numbered.formed k node there)
    (same_Some (given types node) whole (sym (numbered.gives k node there) ∙ stands.1))

-- ---- a node looked up

module _ (nodes : List Node) (types : List Ty) (node : Node) (numbered : AreNumbered nodes types)
    (formed : IsFormed types node)
  where
    pub node_absent : list_any (eq_node node) nodes ≡ false → IsAbsent types (given types node)
    node_absent none id denotes =
        absent_type nodes types node numbered formed
        (λ k at. true≢false
        (sym (list_any_at (eq_node node) nodes k node (slice_get_within nodes k node at)
        (ap (eq_node node) (get_or_from_slice_get nodes k node node at) ∙ node_itself node)) ∙ none))
        id.index denotes

    pub node_found : (k : ℕ) → Some k ≡ position (eq_node node) nodes →
        slice_get types k ≡ Some (given types node)
    node_found k is =
        let found = position-Some (eq_node node) nodes k node (sym is) in
        numbered.gives k node
        (slice_get-get_or nodes k node found.0
        ∙ ap Some (sym (same_node node (get_or nodes k node) found.1)))

-- ---- a type looked up by its arguments

module _ (table : List Ty) (holds : HoldsParts table) (c : ℕ) (types : List Ty) where
  abbrev begun : ℕ → Ty
  begun i = type.Apply c (take i types)

  last_parts : (i : ℕ) → i < length types → Stands table (begun (i + 1)) →
      Stands table (begun i) × Stands table (get_or types i (type.Var 0))
  last_parts i within stands =
      holds c (take i types) (get_or types i (type.Var 0))
      (stands.0, stands.1 ∙ ap (λ them. Some (type.Apply c them)) (take_more types i (type.Var 0) within))

  begun_stands : (i more : ℕ) → i + more ≤ length types → Stands table (begun (i + more)) →
      Stands table (begun i)
  begun_stands i zero within stands =
      let same : i + 0 ≡ i = omega arith in
      subst (λ n. Stands table (begun n)) same stands
  begun_stands i (suc more) within stands =
      let next : i + suc more ≡ i + more + 1 = omega arith in
      begun_stands i more (omega (arith, within))
      (last_parts (i + more) (omega (arith, within)) (subst (λ n. Stands table (begun n)) next stands)).0

  from_whole : (i : ℕ) → i ≤ length types → (id : TypeId) → Denotes table id (type.Apply c types) →
      Stands table (begun i)
  from_whole i within id denotes =
      let all : i + (length types - i) ≡ length types = omega (arith, within) in
      begun_stands i (length types - i) (omega (arith, within)) (
        id,
        denotes ∙ ap (λ them. Some (type.Apply c them))
            (sym (ap (λ n. take n types) all ∙ take_all (length types) types (omega arith))),
      )

  -- what a type begins with is absent, so it is
  pub IsAbsent-begun : (i : ℕ) → i ≤ length types → IsAbsent table (begun i) →
      IsAbsent table (type.Apply c types)
  IsAbsent-begun i within absent id denotes =
      let stands = from_whole i within id denotes in absent stands.0 stands.1

  -- an argument is absent, so the type is
  pub IsAbsent-argument : (i : ℕ) (ty : Ty) → i < length types → ty ≡ get_or types i ty →
      IsAbsent table ty → IsAbsent table (type.Apply c types)
  IsAbsent-argument i ty within is absent id denotes =
      let item : get_or types i (type.Var 0) ≡ ty =
      get_or_from_slice_get types i ty (type.Var 0) (slice_get-get_or types i ty within ∙ ap Some (sym is)) in
      let stands = (last_parts i within (from_whole (i + 1) (omega (arith, within)) id denotes)).1 in
      absent stands.0 (stands.1 ∙ ap Some item)

  -- a node with one argument more may stand there
  pub IsFormed-begun : (i : ℕ) (id argument : TypeId) (ty : Ty) → Denotes table id (begun i) →
      Denotes table argument ty → IsFormed table (Applied id argument)
  IsFormed-begun i id argument ty so_far denotes = (
    slice_get_within table id.index (begun i) so_far,
    slice_get_within table argument.index ty denotes,
    (c, take i types, type_at-Denotes table id (begun i) so_far),
  )

  -- the type that a node with one argument more gives
  pub applied-begun : (i : ℕ) (id argument : TypeId) (ty : Ty) → Denotes table id (begun i) →
      Denotes table argument ty → i < length types → ty ≡ get_or types i ty →
      with_argument (type_at table id) (type_at table argument) ≡ begun (i + 1)
  applied-begun i id argument ty so_far denotes within is =
      with_argument-is (type_at table id) (type_at table argument) c (take i types)
      (type_at-Denotes table id (begun i) so_far)
      ∙ ap (λ t. type.Apply c (take i types ++ t ∷ []))
      (type_at-Denotes table argument ty denotes ∙ is)
      ∙ ap (type.Apply c) (sym (take_more types i ty within))
