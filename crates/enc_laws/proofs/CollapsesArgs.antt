-- The collapsed structure under `args`: where there is no naked place no variable has to be exact.
use Rattle.std.specs.Prelude.{ℕ, zero, suc, ◌+◌, ◌++◌, ◌<◌, ◌≡◌, Bool, true, false, not, ◌&&◌, ◌||◌, List, [], ◌∷◌, map, length, replicate, count_by, slice_get, Some, IsTrue}
use Rattle.std.specs.List.{list_any}
use Rattle.std.proofs.Common.{refl, sym, ap, ◌∙◌, subst, arith}
use Rattle.std.proofs.lemmas.Bool.{false≢true}
use Rattle.enc_base.specs.Tables.{EachBelow}
use Rattle.tf_core.specs.declared.ty.Ty.{Ty}
use Rattle.tf_core.specs.declared.nnf.Nnf.{Nnf}
use Rattle.tf_core.specs.declared.signature.Constructor.{Constructor}
use Rattle.tf_core.specs.declared.signature.Symbol.{Symbol}
use Rattle.tf_core.specs.declared.normal.Normal.{Normal}
use Rattle.tf_core.specs.Sorts.{sorts}
use Rattle.tf_core.specs.Types.{instantiate, same_type}
use Rattle.tf_core.specs.Typing.{IsNormal}
use Rattle.tf_core.specs.Structures.{Typed, member_count, member_of}
use Rattle.tf_core.specs.Models.{IsNormalModel}
use Rattle.fof_models.specs.Structures.{Untyped}
use Rattle.fof_models.specs.Models.{AreSatisfied}
use Rattle.tf_naked.specs.Standing.{is_positive_side, is_naked}
use Rattle.tf_naked.specs.Naked.{NakedPlace, naked_places, is_naked_type}
use Rattle.enc_marks.specs.Schemes.{args}
use Rattle.enc_marks.specs.Translation.{selected}
use Rattle.enc_marks.specs.Encoded.{all_numbers, translation}
use Rattle.enc_laws.specs.Relations.{AreRelated, none_related, more_related}
use Rattle.enc_laws.specs.MergedStructure.{kept_count}
use Rattle.enc_laws.specs.CollapsedStructure.{collapse, members_collapsed, elements_collapsed, collapsed}
use Rattle.enc_laws.specs.Collapses.{Collapses, CollapsesAll}
use Rattle.enc_laws.proofs.Selected.{all_same}
use Rattle.enc_laws.proofs.Stamped.{length-selected}
use Rattle.enc_laws.proofs.MarksFound.{slice_get-within}
use Rattle.enc_laws.proofs.ByType.{same_stands}
use Rattle.enc_laws.proofs.Collapsed.{collapse-less, collapse-below}
use Rattle.enc_laws.proofs.CollapsedStructure.{greatest-above, collapsed-symbol, collapsed-constructor, collapsing_satisfies}
use Rattle.enc_laws.proofs.CollapsedFormed.{IsLarge}
use Rattle.enc_laws.proofs.BinderTests.{Pass, pass_in_and, pass_in_or, pass_in_for_all, pass_in_exists}
use Rattle.enc_laws.proofs.NakedTypes.{is_known, any_type, naked_types}

selected-all : {A : Type 0} (items : List A) (n : ℕ) → length items ≡ n →
    selected (replicate n true) items ≡ items
selected-all [] zero all = refl
selected-all [] (suc n) all = absurd (omega (arith, all))
selected-all (item ∷ items) zero all = absurd (omega (arith, all))
selected-all (item ∷ items) (suc n) all =
    ap (λ l. item ∷ l) (selected-all items n (omega (arith, all)))

and_true : (a : Bool) → (a && true) ≡ a
and_true true = refl
and_true false = refl

either_known : (naked known : Bool) → IsTrue (not naked || known) → IsTrue naked → IsTrue known
either_known true known is naked = is
either_known false known is naked = absurd (false≢true naked)

length-all : (n : ℕ) → length (replicate n true) ≡ n
length-all zero = refl
length-all (suc n) = ap suc (length-all n)

count-all : (n : ℕ) → count_by (λ (keeps : Bool). keeps) (replicate n true) ≡ n
count-all n =
    let all : List Bool = replicate n true in
    sym (length-selected all all refl)
    ∙ ap (λ (l : List Bool). length l) (selected-all all n (length-all n))
    ∙ length-all n

module _ (normal : Normal) (s : Typed) (sound : IsNormal normal) (model : IsNormalModel normal s)
  where
    -- a number below the number of members is that member, and any other is member 0
    abbrev IsMember : ℕ → ℕ → Type 0
    IsMember v m = collapse (member_count s) v ≡ m

    abbrev IsAny : Ty → Type 0
    IsAny ty = ty ≡ ty

    abbrev own : Untyped
    own = collapsed args normal s

    abbrev HasKnown : Nnf → Type 0
    HasKnown p =
        Pass (is_known normal.signature 0 (is_naked_type normal))
        (any_type normal.signature 0 (is_naked_type normal)) p

    members_are : (values members : List ℕ) → AreRelated IsMember values members →
        members_collapsed s values ≡ members
    members_are values members none_related = refl
    members_are values members (more_related v m others rest is are) =
        ap (λ x. x ∷ members_collapsed s others) is ∙ ap (λ l. m ∷ l) (members_are others rest are)

    member_within : (v m : ℕ) → IsMember v m → m < member_count s
    member_within v m is =
        subst (λ x. x < member_count s) is (collapse-below (member_count s) v model.structure.some)

    members_within : (values members : List ℕ) → AreRelated IsMember values members →
        EachBelow (replicate (length members) (member_count s)) members
    members_within values members none_related = tt
    members_within values members (more_related v m others rest is are) =
        (member_within v m is, members_within others rest are)

    length_related : (values members : List ℕ) → AreRelated IsMember values members →
        length values ≡ length members
    length_related values members none_related = refl
    length_related values members (more_related v m others rest is are) =
        ap suc (length_related others rest are)

    constructor_is : (i : ℕ) (constructor : Constructor) (values members : List ℕ) →
        slice_get normal.signature.constructors i ≡ Some constructor →
        length members ≡ constructor.arity → AreRelated IsMember values members →
        IsMember (own.symbol_at (length normal.signature.symbols + i) values)
        (s.constructor_at i members)
    constructor_is i constructor values members at all are =
        let within = slice_get-within normal.signature.constructors i constructor at in
        ap (collapse (member_count s))
        (collapsed-constructor args normal s i values within
        ∙ ap (s.constructor_at i) (members_are values members are))
        ∙ collapse-less (member_count s) (s.constructor_at i members)
        (model.structure.constructors i constructor members at
        (subst (λ a. EachBelow (replicate a (member_count s)) members) all
        (members_within values members are)))

    symbol_is : (f : ℕ) (symbol : Symbol) (kept values members : List ℕ) →
        slice_get normal.signature.symbols f ≡ Some symbol → length members ≡ symbol.parameters →
        AreRelated IsMember kept (selected (replicate symbol.parameters true) members) →
        own.symbol_at f (kept ++ values)
        ≡ s.symbol_at f members
        (elements_collapsed s own.size (map (member_of s members) symbol.arguments) values)
    symbol_is f symbol kept values members at all are =
        let every : AreRelated IsMember kept members =
        subst (AreRelated IsMember kept) (selected-all members symbol.parameters all) are in
        let replicated : length (replicate symbol.parameters true) ≡ symbol.parameters =
        length-all symbol.parameters in
        let count : length kept ≡ kept_count args symbol =
        length_related kept _ are
        ∙ length-selected (replicate symbol.parameters true) members (replicated ∙ sym all) in
        collapsed-symbol args normal s f symbol kept values at count
        ∙ ap (λ l. s.symbol_at f l
        (elements_collapsed s own.size (map (member_of s l) symbol.arguments) values))
        (members_are kept members every)

    -- the domain is large enough
    pub args_large : IsLarge args normal s
    args_large = record {
      some = let some = model.structure.some in omega (arith, some);
      keeps = λ f symbol at. count-all symbol.parameters;
      results = λ f symbol ty members at gives.
          let fit = greatest-above s.sizes (member_of s members ty) in
          omega (arith, fit);
      members = λ marking. omega arith;
    }

    no_naked : naked_places normal ≡ [] → (ty : Ty) → is_naked_type normal ty ≡ false
    no_naked none ty = ap (λ l. list_any (λ (naked : NakedPlace). same_type ty naked.ty) l) none

    module _ (none : naked_places normal ≡ []) where
      args_collapse :
          Collapses args (all_numbers normal) normal.signature s own IsMember IsAny HasKnown
      args_collapse = record {
        passes = record {
          and = λ parts holds. pass_in_and _ _ parts holds;
          or = λ parts holds. pass_in_or _ _ parts holds;
          for_all = λ ty body holds. (refl, (pass_in_for_all _ _ ty body holds).1);
          exists = λ ty body holds. (refl, (pass_in_exists _ _ ty body holds).1);
        };
        within = member_within;
        constructors = constructor_is;
        symbols = λ f symbol kept values members at all are below.
            symbol_is f symbol kept values members at all are;
        good_arguments = λ f symbol types at all.
            all_same (λ (ty : Ty). ty) (map (instantiate types) symbol.arguments);
        good_result = λ f symbol ty types at gives all. refl;
        declared = λ f symbol at. all_same (λ (ty : Ty). ty) symbol.arguments;
        declared_result = λ f symbol ty at gives. refl;
        fits = λ ty members good within.
            let fit = greatest-above s.sizes (member_of s members ty) in
            omega (arith, fit);
        tag_is = λ depth ty t members assignment position kind good tagged below.
            absurd (false≢true tagged);
        bind_is = λ depth ty t members assignment good typing below. absurd (false≢true typing);
        universal = λ undercover naked ty binds. absurd (false≢true binds);
        existential = λ ty binds. absurd (false≢true binds);
        binds = λ ty body members holds good need.
            let naked : IsTrue (is_naked normal.signature body) =
            same_stands normal.signature (λ p. is_positive_side p && true) is_positive_side
            (λ p. and_true (is_positive_side p)) body 0 need in
            let known = either_known (is_naked normal.signature body) (is_naked_type normal ty)
            (pass_in_for_all _ _ ty body holds).0 naked in
            absurd (false≢true (sym (no_naked none ty) ∙ known));
      }

      args_collapse_all :
          CollapsesAll args (all_numbers normal) normal.signature s own IsMember IsAny
      args_collapse_all = record {
        some_member = λ v below. (
          collapse (member_count s) v,
          collapse-below (member_count s) v model.structure.some,
          refl,
        );
        last = λ marking has. absurd (false≢true has);
        last_of_sort = λ ty good marking has. absurd (false≢true has);
      }

      pub args_satisfies : AreSatisfied (collapsed args normal s) (translation args normal)
      args_satisfies =
          collapsing_satisfies args normal s own IsMember IsAny HasKnown sound model args_collapse
          args_collapse_all (naked_types normal sound.formulas)
          (all_same (λ (ty : Ty). ty) (sorts normal))
