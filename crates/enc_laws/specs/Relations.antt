-- How an untyped structure is read as a typed one. The numbers of its domain are read as members,
-- and as elements of members, by relations that each family of structures chooses for itself.
use Rattle.std.specs.Prelude.{ℕ, ◌+◌, ◌-◌, ◌<◌, ◌≤◌, ◌≡◌, Bool, true, not, ◌&&◌, List, [], ◌∷◌}
use Rattle.std.specs.Prelude.{slice_index}
use Rattle.tf_core.specs.declared.ty.Ty.{Ty}
use Rattle.tf_naked.specs.declared.position.Position.{Position}
use Rattle.tf_naked.specs.declared.position.Position.TheVariants.{Argument}
use Rattle.tf_naked.specs.declared.position.Kind.{Kind}
use Rattle.enc_marks.specs.Choices.{Choices}

-- Of a number v, a member m and an element e.
pub record Relations : Type 1 where
  -- whether what stands in a position has to be exact
  pub strict : Position → Bool
  -- the type is one that the marks speak of
  pub good : Ty → Type 0
  -- v is read as member m
  pub member : ℕ → ℕ → Type 0
  -- v, a variable or a term before its tag, is read as element e of m
  pub reads : ℕ → ℕ → ℕ → Type 0
  -- v stands for e: no other number does in m
  pub exact : ℕ → ℕ → ℕ → Type 0
  -- v is what a function's table gives for e
  pub applied : ℕ → ℕ → ℕ → Type 0
  -- v, what stands in a position after its tag, is read as e
  pub placed : ℕ → ℕ → ℕ → Type 0

-- whether a variable of this kind and type has to be exact in a position
abbrev pub needed : Choices → Relations → Kind → Ty → Position → Bool
needed c r kind ty position = r.strict position && not (c.tagged position kind ty)

-- numbers and members that are related one by one
pub data AreRelated (R : ℕ → ℕ → Type 0) : List ℕ → List ℕ → Type 0 where
  none_related : AreRelated R [] []
  more_related : (v m : ℕ) (values members : List ℕ) → R v m → AreRelated R values members →
      AreRelated R (v ∷ values) (m ∷ members)

-- numbers in argument places, which are covers or not, are read as elements of members
pub data ArgumentsAre (r : Relations) : List Bool → List ℕ → List ℕ → List ℕ → Type 0 where
  no_arguments : ArgumentsAre r [] [] [] []
  more_arguments : (cover : Bool) (v m e : ℕ) (covers : List Bool)
      (values members elements : List ℕ) → r.placed v m e →
      (r.strict (Argument cover) ≡ true → r.exact v m e) →
      ArgumentsAre r covers values members elements →
      ArgumentsAre r (cover ∷ covers) (v ∷ values) (m ∷ members) (e ∷ elements)

-- under so many binders, those of so many type variables outermost, the type variables' numbers
-- are read as these members
pub record TypesAre (r : Relations) (variables depth : ℕ) (members assignment : List ℕ) :
    Type 0 where
  pub deep : variables ≤ depth
  pub is : (i : ℕ) → i < variables →
      r.member (slice_index assignment (depth - (i + 1))) (slice_index members i)
