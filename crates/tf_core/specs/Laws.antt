-- What the definitions promise one another.
use Rattle.std.specs.Prelude.{ℕ, ◌<◌, ◌+◌, ◌≡◌, ◌↔◌, Bool, List, ◌∷◌, ◌++◌, map, length, replicate, get_or, IsTrue}
use Rattle.enc_base.specs.Tables.{EachBelow, begins, blocks}
use Rattle.tf_core.specs.declared.ty.Ty.{Ty}
use Rattle.tf_core.specs.declared.term.Term.{Term}
use Rattle.tf_core.specs.declared.formula.Formula.{Formula}
use Rattle.tf_core.specs.declared.formula.Formula.TheVariants as formula
use Rattle.tf_core.specs.declared.nnf.Nnf.{Nnf}
use Rattle.tf_core.specs.declared.nnf.Nnf.TheVariants as nnf
use Rattle.tf_core.specs.declared.signature.Signature.{Signature}
use Rattle.tf_core.specs.Types.{type_value, instantiate}
use Rattle.tf_core.specs.Structures.{Typed, member_count, size_of, member_of, IsStructure}
use Rattle.tf_core.specs.Truth.{value, truth, normal_truth}
use Rattle.tf_core.specs.declared.problem.Problem.{Problem}
use Rattle.tf_core.specs.declared.normal.Normal.{Normal}
use Rattle.tf_core.specs.Typing.{IsType, AreTypes, HasType, IsNnf, IsSignature, IsProblem, IsNormal}
use Rattle.tf_core.specs.TypingTests.{is_signature, is_problem, is_normal}
use Rattle.tf_core.specs.Substitution.{shift, substitute_term, substitute_types}
use Rattle.tf_core.specs.Occurrences.{occurs_in, AgreeWhere}

-- a test of a formula's elements holds of each element of a type's member, and of some
abbrev pub AtEach : Typed → List ℕ → Ty → (ℕ → Bool) → Type 0
AtEach s members ty test =
    (element : ℕ) → element < size_of s (member_of s members ty) → IsTrue (test element)

abbrev pub AtSome : Typed → List ℕ → Ty → (ℕ → Bool) → Type 0
AtSome s members ty test =
    (element : ℕ) × (element < size_of s (member_of s members ty)) × IsTrue (test element)

-- the textbook's reading of universal formulas
pub record UniversalIsTrueOfEach : Type 0 where
  pub formula : (s : Typed) (members elements : List ℕ) (ty : Ty) (body : Formula) →
      IsTrue (truth s members (formula.ForAll ty body) elements)
      ↔ AtEach s members ty (λ element. truth s members body (element ∷ elements))
  pub normal : (s : Typed) (members elements : List ℕ) (ty : Ty) (body : Nnf) →
      IsTrue (normal_truth s members (nnf.ForAll ty body) elements)
      ↔ AtEach s members ty (λ element. normal_truth s members body (element ∷ elements))

-- the textbook's reading of existential formulas
pub record ExistentialIsTrueOfSome : Type 0 where
  pub formula : (s : Typed) (members elements : List ℕ) (ty : Ty) (body : Formula) →
      IsTrue (truth s members (formula.Exists ty body) elements)
      ↔ AtSome s members ty (λ element. truth s members body (element ∷ elements))
  pub normal : (s : Typed) (members elements : List ℕ) (ty : Ty) (body : Nnf) →
      IsTrue (normal_truth s members (nnf.Exists ty body) elements)
      ↔ AtSome s members ty (λ element. normal_truth s members body (element ∷ elements))

-- an entry of the block of a tuple stands behind the blocks of all earlier tuples
abbrev pub EntriesStandInBlocks : Type 0
EntriesStandInBlocks = (bounds values : List ℕ) (block : List ℕ → List ℕ) (i : ℕ) →
    EachBelow bounds values → i < length (block values) →
    get_or (blocks bounds block) (begins bounds (λ others. length (block others)) values + i) 0
    ≡ get_or (block values) i 0

-- the value of an instance of a type is the type's value at the values of the instances
abbrev pub InstancesHaveValues : Type 0
InstancesHaveValues = (g : Signature) (constructor_at : ℕ → List ℕ → ℕ) (members : List ℕ)
    (instances : List Ty) (ty : Ty) → IsType g (length instances) ty →
    type_value constructor_at members (instantiate instances ty)
    ≡ type_value constructor_at (map (type_value constructor_at members) instances) ty

-- the value of a shifted term is the term's, with the elements of the new variables put in
abbrev pub ShiftedTermsHaveValues : Type 0
ShiftedTermsHaveValues = (s : Typed) (members before inserted after : List ℕ) (t : Term) →
    value s members (before ++ (inserted ++ after)) (shift (length inserted) (length before) t)
    ≡ value s members (before ++ after) t

-- a formula with its types replaced is as true as the formula is at the values of the types
abbrev pub SubstitutionKeepsTruth : Type 0
SubstitutionKeepsTruth = (g : Signature) (s : Typed) (members : List ℕ) (instances : List Ty)
    (context : List Ty) (p : Nnf) (elements : List ℕ) → IsNnf g (length instances) context p →
    normal_truth s members (substitute_types instances p) elements
    ≡ normal_truth s (map (member_of s members) instances) p elements

-- a type of so many variables, instantiated by as many types of other variables, is a type of these
abbrev pub InstancesAreTyped : Type 0
InstancesAreTyped = (g : Signature) (others : ℕ) (instances : List Ty) (ty : Ty) →
    AreTypes g others instances → IsType g (length instances) ty →
    IsType g others (instantiate instances ty)

-- a shifted term has the term's type where the types of the new variables are put in its context
abbrev pub ShiftedTermsAreTyped : Type 0
ShiftedTermsAreTyped = (g : Signature) (variables : ℕ) (before inserted after : List Ty) (t : Term)
    (ty : Ty) → HasType g variables (before ++ after) t ty →
    HasType g variables (before ++ (inserted ++ after)) (shift (length inserted) (length before) t) ty

-- terms and formulas with their types replaced are well typed in the context with its types replaced
pub record SubstitutionKeepsTyping : Type 0 where
  pub term : (g : Signature) (others : ℕ) (instances context : List Ty) (t : Term) (ty : Ty) →
      IsSignature g → AreTypes g others instances → HasType g (length instances) context t ty →
      HasType g others (map (instantiate instances) context) (substitute_term instances t)
      (instantiate instances ty)
  pub normal : (g : Signature) (others : ℕ) (instances context : List Ty) (p : Nnf) →
      IsSignature g → AreTypes g others instances → IsNnf g (length instances) context p →
      IsNnf g others (map (instantiate instances) context) (substitute_types instances p)

-- the sizes of the members that the types of a context are
abbrev pub context_sizes : Typed → List ℕ → List Ty → List ℕ
context_sizes s members types = map (λ ty. size_of s (member_of s members ty)) types

-- The value of a type is a member, and the value of a term an element of its type's member: in a
-- structure, where type variables have members, and term variables elements of their types' members.
pub record ValuesAreInRange : Type 0 where
  pub type : (g : Signature) (s : Typed) (variables : ℕ) (members : List ℕ) (ty : Ty) →
      IsStructure g s → EachBelow (replicate variables (member_count s)) members →
      IsType g variables ty → member_of s members ty < member_count s
  pub term : (g : Signature) (s : Typed) (variables : ℕ) (members elements : List ℕ)
      (context : List Ty) (t : Term) (ty : Ty) → IsSignature g → IsStructure g s →
      EachBelow (replicate variables (member_count s)) members →
      EachBelow (context_sizes s members context) elements → HasType g variables context t ty →
      value s members elements t < size_of s (member_of s members ty)

-- The truth of a formula depends on the members of those type variables alone that occur in it.
abbrev pub TruthDependsOnOccurring : Type 0
TruthDependsOnOccurring = (s : Typed) (members others elements : List ℕ) (body : Formula) →
    AgreeWhere (λ i. occurs_in i body) members others →
    truth s members body elements ≡ truth s others body elements

-- the tests of typing say what the relations say
pub record TypingIsDecided : Type 0 where
  pub signature : (g : Signature) → IsTrue (is_signature g) ↔ IsSignature g
  pub problem : (problem : Problem) → IsTrue (is_problem problem) ↔ IsProblem problem
  pub normal : (normal : Normal) → IsTrue (is_normal normal) ↔ IsNormal normal
