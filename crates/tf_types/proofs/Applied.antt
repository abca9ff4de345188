-- A constructor that is applied to one type after another, in a table that grows.
use Rattle.std.specs.Prelude.{ℕ, ◌≡◌, ◌<◌, List, [], ◌∷◌, ◌++◌, length, get_or}
use Rattle.std.proofs.Common.{ap, subst, ◌∙◌}
use Rattle.std.proofs.lemmas.List.Elements.{All-from_recursion, All-get_or}
use Rattle.tf_core.specs.declared.ty.Ty.{Ty}
use Rattle.tf_core.specs.declared.ty.Ty.TheVariants.{Apply}
use Rattle.tf_types.specs.declared.node.TypeId.{TypeId}
use Rattle.tf_types.specs.Numbers.{Denotes, IsNumber, AreNumbers, type_at, IsOneToOne, Extends}
use Rattle.tf_types.specs.Nodes.{with_argument, IsApplication}
use Rattle.tf_types.proofs.Numbers.{type_at-Denotes, IsNumber-Denotes, Denotes-extended, Extends-twice}
use Rattle.tf_types.proofs.Nodes.{with_argument-is}

-- the number denotes the constructor applied to the types so far
pub record IsApplied (start now : List Ty) (id : TypeId) (c : ℕ) (done : List Ty) : Type 0 where
  pub denotes : Denotes now id (Apply c done)
  pub kept : Extends start now
  pub one_to_one : IsOneToOne now

module _ (start now : List Ty) (id : TypeId) (c : ℕ) (done : List Ty)
    (so_far : IsApplied start now id c done)
  where
    pub IsNumber-applied : IsNumber now id
    IsNumber-applied = IsNumber-Denotes now id (Apply c done) so_far.denotes

    pub IsApplication-applied : IsApplication (type_at now id)
    IsApplication-applied = (c, done, type_at-Denotes now id (Apply c done) so_far.denotes)

    pub IsApplied-later : (later : List Ty) → Extends now later → IsOneToOne later →
        IsApplied start later id c done
    IsApplied-later later grows one_to_one = record {
      denotes = Denotes-extended now later grows id (Apply c done) so_far.denotes;
      kept = Extends-twice start now later so_far.kept grows;
      one_to_one = one_to_one;
    }

    pub IsApplied-more : (end : List Ty) (argument made : TypeId) (ty : Ty) →
        type_at now argument ≡ ty →
        Denotes end made (with_argument (type_at now id) (type_at now argument)) →
        Extends now end → IsOneToOne end → IsApplied start end made c (done ++ ty ∷ [])
    IsApplied-more end argument made ty is denotes grows one_to_one = record {
      denotes = subst (Denotes end made)
          (with_argument-is (type_at now id) (type_at now argument) c done
          (type_at-Denotes now id (Apply c done) so_far.denotes)
          ∙ ap (λ t. Apply c (done ++ t ∷ [])) is)
          denotes;
      kept = Extends-twice start now end so_far.kept grows;
      one_to_one = one_to_one;
    }

-- one of the numbers
pub IsNumber-among : (types : List Ty) (ids : List TypeId) (i : ℕ) (default : TypeId) →
    AreNumbers types ids → i < length ids → IsNumber types (get_or ids i default)
IsNumber-among types ids i default numbers within =
    All-get_or (IsNumber types) ids i default within
    (All-from_recursion (IsNumber types) ids numbers)
