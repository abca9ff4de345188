-- A type taken apart from its last argument on.
use Rattle.std.specs.Prelude.{ℕ, ◌≡◌, ◌<◌, ◌≤◌, List, [], ◌∷◌, ◌++◌, map, reverse}
use Rattle.std.specs.List.{AllByRecursion}
use Rattle.std.proofs.Common.{refl, sym, ap, subst, ◌∙◌, arith, append_assoc, append-nil}
use Rattle.std.proofs.lemmas.List.{reverse-append}
use Rattle.tf_core.specs.declared.ty.Ty.{Ty}
use Rattle.tf_core.specs.declared.ty.Ty.TheVariants as type
use Rattle.tf_types.specs.declared.node.TypeId.{TypeId}
use Rattle.tf_types.specs.declared.node.Node.{Node}
use Rattle.tf_types.specs.declared.node.Node.TheVariants.{Variable, Constructor, Applied}
use Rattle.tf_types.specs.declared.node.TypeNode.TheVariants as node
use Rattle.tf_types.specs.Numbers.{IsNumber, type_at}
use Rattle.tf_types.specs.Nodes.{denoted, NamesBelow, given, with_argument, IsFormedBelow}
use Rattle.tf_types.proofs.Nodes.{with_argument-variable, with_argument-apply}

-- a type with arguments more, one after another
abbrev pub with_arguments : Ty → List Ty → Ty
with_arguments ty [] = ty
with_arguments ty (argument ∷ arguments) = with_arguments (with_argument ty argument) arguments

pub with_arguments-variable : (i : ℕ) (arguments : List Ty) →
    with_arguments (type.Var i) arguments ≡ type.Var i
with_arguments-variable i [] = refl
with_arguments-variable i (argument ∷ arguments) =
    ap (λ ty. with_arguments ty arguments) (with_argument-variable i argument)
    ∙ with_arguments-variable i arguments

pub with_arguments-apply : (c : ℕ) (front arguments : List Ty) →
    with_arguments (type.Apply c front) arguments ≡ type.Apply c (front ++ arguments)
with_arguments-apply c front [] = ap (type.Apply c) (sym (append-nil front))
with_arguments-apply c front (argument ∷ arguments) =
    ap (λ ty. with_arguments ty arguments) (with_argument-apply c front argument)
    ∙ with_arguments-apply c (front ++ argument ∷ []) arguments
    ∙ ap (type.Apply c) (append_assoc front (argument ∷ []) arguments)

-- the number denotes what another one does with the arguments that were passed, the last first
pub record IsPassed (types : List Ty) (id at : TypeId) (passed : List TypeId) : Type 0 where
  pub number : IsNumber types at
  pub behind : at.index ≤ id.index
  pub denotes : with_arguments (type_at types at) (map (type_at types) (reverse passed))
      ≡ type_at types id
  pub below : AllByRecursion (λ (number : TypeId). number.index < id.index) (reverse passed)

pub IsPassed-nothing : (types : List Ty) (id : TypeId) → IsNumber types id → IsPassed types id id []
IsPassed-nothing types id number = record {
  number = number;
  behind = omega arith;
  denotes = refl;
  below = tt;
}

module _ (types : List Ty) (id at : TypeId) (passed : List TypeId)
    (so_far : IsPassed types id at passed)
    (kept : Node) (gives : given types kept ≡ type_at types at)
    (formed : IsFormedBelow at.index types kept)
  where
    pub IsPassed-more : (function argument : TypeId) → kept ≡ Applied function argument →
        IsPassed types id function (passed ++ argument ∷ [])
    IsPassed-more function argument is =
        let parts : IsFormedBelow at.index types (Applied function argument) =
        subst (IsFormedBelow at.index types) is formed in
        let first : reverse (passed ++ argument ∷ []) ≡ argument ∷ reverse passed =
        reverse-append passed (argument ∷ []) in
        record {
          number = omega (arith, parts.0, so_far.number);
          behind = omega (arith, parts.0, so_far.behind);
          denotes =
              ap (λ ids. with_arguments (type_at types function) (map (type_at types) ids)) first
              ∙ ap (λ ty. with_arguments ty (map (type_at types) (reverse passed)))
              (ap (given types) (sym is) ∙ gives)
              ∙ so_far.denotes;
          below =
              subst (AllByRecursion (λ (number : TypeId). number.index < id.index)) (sym first)
              (omega (arith, parts.1, so_far.behind), so_far.below);
        }

    pub falls : (function argument : TypeId) → kept ≡ Applied function argument →
        function.index < at.index
    falls function argument is =
        let parts : IsFormedBelow at.index types (Applied function argument) =
        subst (IsFormedBelow at.index types) is formed in
        parts.0

    pub denoted-variable : (i : ℕ) → kept ≡ Variable i →
        denoted types (node.Var i) ≡ type_at types id
    denoted-variable i is =
        sym (with_arguments-variable i (map (type_at types) (reverse passed)))
        ∙ ap (λ ty. with_arguments ty (map (type_at types) (reverse passed)))
        (ap (given types) (sym is) ∙ gives)
        ∙ so_far.denotes

    pub denoted-apply : (c : ℕ) (ids : List TypeId) → kept ≡ Constructor c → ids ≡ reverse passed →
        denoted types (node.Apply c ids) ≡ type_at types id
    denoted-apply c ids is all =
        ap (λ them. type.Apply c (map (type_at types) them)) all
        ∙ sym (with_arguments-apply c [] (map (type_at types) (reverse passed)))
        ∙ ap (λ ty. with_arguments ty (map (type_at types) (reverse passed)))
        (ap (given types) (sym is) ∙ gives)
        ∙ so_far.denotes

    pub NamesBelow-apply : (c : ℕ) (ids : List TypeId) → ids ≡ reverse passed →
        NamesBelow id.index (node.Apply c ids)
    NamesBelow-apply c ids all =
        subst (AllByRecursion (λ (number : TypeId). number.index < id.index)) (sym all) so_far.below
