-- A model that is restricted to the symbol instances of ground formulas is a model of these.
use Rattle.std.specs.Prelude.{ℕ, zero, suc, ◌≡◌, ◌<◌, List, [], ◌∷◌, map, replicate, slice_get, option_map, Option, Some, None, IsTrue}
use Rattle.std.specs.List.{AllByRecursion}
use Rattle.std.proofs.Common.{refl, sym, ap, ◌∙◌, subst}
use Rattle.enc_base.specs.Tables.{EachBelow}
use Rattle.tf_core.specs.declared.ty.Ty.{Ty}
use Rattle.tf_core.specs.declared.signature.Symbol.{Symbol}
use Rattle.tf_core.specs.declared.normal.NormalFormula.{NormalFormula}
use Rattle.tf_core.specs.declared.normal.Normal.{Normal}
use Rattle.tf_core.specs.Types.{instantiate}
use Rattle.tf_core.specs.Typing.{IsSymbol, IsSignature, IsResult}
use Rattle.tf_core.specs.Sound.{IsSoundNormal}
use Rattle.tf_core.specs.Structures.{Typed, member_count, size_of, member_of, AreArguments, IsStructure}
use Rattle.tf_core.specs.Truth.{normal_truth}
use Rattle.tf_core.specs.Laws.{context_sizes}
use Rattle.tf_core.specs.Models.{IsNormalModel, IsNormalSatisfied}
use Rattle.tf_core.proofs.Instances.{type_value-instantiate}
use Rattle.tf_core.proofs.TypingKept.{at_all}
use Rattle.tf_core.proofs.Values.{symbol_typed, types_below, sizes-instantiate}
use Rattle.enc_mono.specs.declared.instances.Origin.{Origin}
use Rattle.enc_mono.specs.Instances.{symbol_instances}
use Rattle.enc_mono.specs.Origins.{IsOriginOf}
use Rattle.enc_mono.specs.Monomorphised.{origins_of, instance_symbol, instance_symbols, renumbered, over_origins, over_instances, IsMonomorphised}
use Rattle.enc_mono.specs.Restricted.{instance_at, restricted}
use Rattle.enc_mono.proofs.Listed.{all-same, all-joined, all-parted}
use Rattle.enc_mono.proofs.NumberedOrigins.{IsNumbered, all_numbered, all_once}
use Rattle.enc_mono.proofs.InstancesTyped.{symbol_instances-typed}
use Rattle.enc_mono.proofs.RestrictedTruth.{normal_truth-renumbered}
use Rattle.enc_mono.proofs.GroundForms.{IsTrueGround, ground_are_true}

-- an item of images is the image of the item
pub image_at : {A B : Type 0} (f : A → B) (items : List A) (i : ℕ) (image : B) →
    slice_get (map f items) i ≡ Some image →
    (item : A) × (slice_get items i ≡ Some item) × (f item ≡ image)
image_at f [] i image at = cc
image_at f (item ∷ items) zero image at = (item, refl, cc)
image_at f (item ∷ items) (suc i) image at = image_at f items i image at

-- no numbers are below no bounds
pub none_below : (values : List ℕ) → EachBelow [] values → values ≡ []
none_below [] below = refl
none_below (value ∷ values) below = absurd below

module _ (normal : Normal) (s : Typed) (typed : IsSignature normal.signature)
    (structure : IsStructure normal.signature s) (origins : List Origin)
    (are : AllByRecursion (IsOriginOf normal.signature 0) origins)
  where
    -- the elements fit the symbol of an instance
    fits : (origin : Origin) (of : IsOriginOf normal.signature 0 origin) (elements : List ℕ) →
        EachBelow (context_sizes s [] (map (instantiate origin.types) of.declared.arguments))
        elements →
        AreArguments s of.declared (map (member_of s []) origin.types) elements
    fits origin of elements below =
        let is : IsSymbol normal.signature of.declared =
        symbol_typed normal.signature normal.signature.symbols origin.symbol of.declared of.at
        typed in
        record {
          for_parameters =
              subst (λ n. EachBelow (replicate n (member_count s))
              (map (member_of s []) origin.types)) of.count
              (types_below normal.signature s typed structure 0 [] tt origin.types of.formed);
          for_arguments =
              subst (λ sizes. EachBelow sizes elements)
              (sizes-instantiate normal.signature s typed structure 0 [] tt of.declared
              origin.types of.count is of.declared.arguments is.arguments) below;
        }

    size_of_result : (origin : Origin) (of : IsOriginOf normal.signature 0 origin) (given : Ty) →
        of.declared.result ≡ Some given →
        size_of s (member_of s (map (member_of s []) origin.types) given)
        ≡ size_of s (member_of s [] (instantiate origin.types given))
    size_of_result origin of given gives =
        let is : IsSymbol normal.signature of.declared =
        symbol_typed normal.signature normal.signature.symbols origin.symbol of.declared of.at
        typed in
        ap (size_of s)
        (sym (type_value-instantiate s.constructor_at [] origin.types normal.signature
        of.declared.parameters given
        (subst (IsResult normal.signature of.declared.parameters) gives is.result) (sym of.count)))

    -- what the symbol of an instance is
    abbrev made : (origin : Origin) → IsOriginOf normal.signature 0 origin → Symbol
    made origin of = instance_symbol normal (Some of.declared) origin.types

    -- its elements fit, where it has no parameters
    made_fits : (origin : Origin) (of : IsOriginOf normal.signature 0 origin)
        (members elements : List ℕ) →
        AreArguments (restricted origins s) (made origin of) members elements →
        AreArguments s of.declared (map (member_of s []) origin.types) elements
    made_fits origin of members elements arguments =
        fits origin of elements
        (subst (λ others. EachBelow
        (context_sizes s others (map (instantiate origin.types) of.declared.arguments)) elements)
        (none_below members arguments.for_parameters) arguments.for_arguments)

    abbrev GivesElements : Origin → Symbol → Type 0
    GivesElements origin symbol = (result : Ty) (members elements : List ℕ) →
        symbol.result ≡ Some result →
        AreArguments (restricted origins s) symbol members elements →
        s.symbol_at origin.symbol (map (member_of s []) origin.types) elements
        < size_of s (member_of s members result)

    made_function : (origin : Origin) (of : IsOriginOf normal.signature 0 origin) →
        GivesElements origin (made origin of)
    made_function origin of result members elements gives arguments =
        by of.declared.result refl gives
      where
        by : (given : Option Ty) → of.declared.result ≡ given →
            option_map (instantiate origin.types) given ≡ Some result →
            s.symbol_at origin.symbol (map (member_of s []) origin.types) elements
            < size_of s (member_of s members result)
        by None is gives = cc
        by (Some ty) is gives =
            let same : instantiate origin.types ty ≡ result = cc in
            subst (λ others. s.symbol_at origin.symbol (map (member_of s []) origin.types) elements
            < size_of s (member_of s others result))
            (sym (none_below members arguments.for_parameters))
            (subst (λ r. s.symbol_at origin.symbol (map (member_of s []) origin.types) elements
            < size_of s (member_of s [] r)) same
            (subst (λ n. s.symbol_at origin.symbol (map (member_of s []) origin.types) elements < n)
            (size_of_result origin of ty is)
            (structure.functions origin.symbol of.declared ty (map (member_of s []) origin.types)
            elements of.at is (made_fits origin of members elements arguments))))

    abbrev GivesTruth : Origin → Symbol → Type 0
    GivesTruth origin symbol = (members elements : List ℕ) → symbol.result ≡ None →
        AreArguments (restricted origins s) symbol members elements →
        s.symbol_at origin.symbol (map (member_of s []) origin.types) elements < 2

    made_predicate : (origin : Origin) (of : IsOriginOf normal.signature 0 origin) →
        GivesTruth origin (made origin of)
    made_predicate origin of members elements gives arguments = by of.declared.result refl gives
      where
        by : (given : Option Ty) → of.declared.result ≡ given →
            option_map (instantiate origin.types) given ≡ None →
            s.symbol_at origin.symbol (map (member_of s []) origin.types) elements < 2
        by (Some ty) is gives = cc
        by None is gives =
            structure.predicates origin.symbol of.declared (map (member_of s []) origin.types)
            elements of.at is (made_fits origin of members elements arguments)

    -- the instance that a symbol is
    pub record IsMadeOf (f : ℕ) (symbol : Symbol) : Type 0 where
      pub origin : Origin
      pub stands : slice_get origins f ≡ Some origin
      pub of : IsOriginOf normal.signature 0 origin
      pub same : made origin of ≡ symbol

    made_of : (f : ℕ) (symbol : Symbol) →
        slice_get (instance_symbols normal origins) f ≡ Some symbol → IsMadeOf f symbol
    made_of f symbol at =
        let image = image_at (λ (origin : Origin). instance_symbol normal
        (slice_get normal.signature.symbols origin.symbol) origin.types) origins f symbol at in
        let of = at_all (IsOriginOf normal.signature 0) origins f image.0 are image.1 in
        record {
          origin = image.0;
          stands = image.1;
          of = of;
          same = ap (λ d. instance_symbol normal d image.0.types) (sym of.at) ∙ image.2;
        }

    pub restricted_structure : (ground : List NormalFormula) →
        IsStructure (over_instances normal origins ground).signature (restricted origins s)
    restricted_structure ground = record {
      some = structure.some;
      inhabited = structure.inhabited;
      constructors = structure.constructors;
      functions = λ f symbol result members elements at gives arguments.
          let from = made_of f symbol at in
          subst (λ o. instance_at s o elements < size_of s (member_of s members result))
          (sym from.stands)
          (subst (GivesElements from.origin) from.same (made_function from.origin from.of)
          result members elements gives arguments);
      predicates = λ f symbol members elements at gives arguments.
          let from = made_of f symbol at in
          subst (λ o. instance_at s o elements < 2) (sym from.stands)
          (subst (GivesTruth from.origin) from.same (made_predicate from.origin from.of)
          members elements gives arguments);
    }

module _ (normal : Normal) (s : Typed) (origins : List Origin) where
  satisfied : (formula : NormalFormula) → IsTrueGround normal s formula →
      AllByRecursion (IsNumbered origins) (symbol_instances formula.body) →
      IsNormalSatisfied (restricted origins s) (over_origins origins formula)
  satisfied formula is numbered members below =
      subst (λ others. IsTrue (normal_truth (restricted origins s) others
      (renumbered origins formula.body) []))
      (sym (none_below members
      (subst (λ n. EachBelow (replicate n (member_count s)) members) is.no_variables below)))
      (normal_truth-renumbered s origins formula.body [] numbered ∙ is.holds)

  all_satisfied : (ground : List NormalFormula) → AllByRecursion (IsTrueGround normal s) ground →
      AllByRecursion (λ formula. AllByRecursion (IsNumbered origins)
      (symbol_instances formula.body))
      ground →
      AllByRecursion (IsNormalSatisfied (restricted origins s)) (map (over_origins origins) ground)
  all_satisfied [] are numbered = tt
  all_satisfied (formula ∷ ground) are numbered =
      (satisfied formula are.0 numbered.0, all_satisfied ground are.1 numbered.1)

module _ (normal : Normal) (s : Typed) (typed : IsSignature normal.signature)
    (structure : IsStructure normal.signature s) (ground : List NormalFormula)
    (are : AllByRecursion (IsTrueGround normal s) ground)
  where
    pub restricted_ground : IsNormalModel (over_instances normal (origins_of ground) ground)
        (restricted (origins_of ground) s)
    restricted_ground = record {
      structure = restricted_structure normal s typed structure (origins_of ground)
          (all_once (IsOriginOf normal.signature 0) [] _
          (all-joined (IsOriginOf normal.signature 0) (λ formula. symbol_instances formula.body)
          ground
          (all-same (IsTrueGround normal s)
          (λ formula. AllByRecursion (IsOriginOf normal.signature 0)
          (symbol_instances formula.body))
          (λ formula is. symbol_instances-typed normal.signature 0 [] formula.body is.typed)
          ground are))) ground;
      formulas = all_satisfied normal s (origins_of ground) ground are
          (all-parted (IsNumbered (origins_of ground)) (λ formula. symbol_instances formula.body)
          ground (all_numbered _));
    }

pub restricted_model : (normal : Normal) (rounds : ℕ) (made : Normal) (origins : List Origin)
    (s : Typed) → IsSoundNormal normal → IsMonomorphised normal rounds made origins →
    IsNormalModel normal s → IsNormalModel made (restricted origins s)
restricted_model normal rounds made origins s sound is model =
    subst (λ m. IsNormalModel m (restricted origins s)) (sym is.made_is)
    (subst (λ os. IsNormalModel (over_instances normal os is.ground) (restricted os s))
    (sym is.origins_are)
    (restricted_ground normal s sound.signature.typed model.structure is.ground
    (ground_are_true normal rounds s sound model.structure is.ground is.forms model.formulas)))
