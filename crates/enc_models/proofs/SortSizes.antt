-- The greatest size of a member that a sort is, found from the types that a problem is written with.
use Rattle.std.specs.Prelude.{ℕ, ◌≡◌, ◌<◌, ◌≤◌, ◌+◌, Bool, true, false, List, [], ◌∷◌, ◌++◌, map, length, cond, max, take, get_or, slice_index, IsTrue}
use Rattle.std.specs.List.{AllByRecursion, list_any}
use Rattle.std.proofs.Common.{refl, sym, ap, subst, ◌∙◌, arith}
use Rattle.std.proofs.lemmas.List.{append_assoc, append-nil, map-append, take_more, take_all, get_or_default}
use Rattle.tf_core.specs.declared.ty.Ty.{Ty}
use Rattle.tf_core.specs.declared.ty.Ty.TheVariants as type
use Rattle.tf_core.specs.declared.signature.Symbol.{Symbol}
use Rattle.tf_core.specs.declared.signature.Signature.{Signature}
use Rattle.tf_core.specs.declared.normal.NormalFormula.{NormalFormula}
use Rattle.tf_core.specs.declared.normal.Normal.{Normal}
use Rattle.tf_core.specs.Types.{same_type}
use Rattle.tf_core.specs.Typing.{IsType}
use Rattle.tf_core.specs.Sorts.{joined, parts_of, declared_types, binder_types, once, types_in_order, or_individuals, sorts}
use Rattle.tf_core.specs.Sound.{is_monomorphic, IsSoundNormal}
use Rattle.tf_core.specs.TypedTables.{reading}
use Rattle.tf_naked.specs.SortLaws.{AreSorts}
use Rattle.tf_naked.proofs.HeldTypes.{parts_of-apply, declared_sorts, binder_sorts}
use Rattle.tf_naked.proofs.SortTypes.{sorts_formed}
use Rattle.tf_models.specs.declared.structure.TypedStructure.{TypedStructure}
use Rattle.tf_models.specs.Reading.{tables}
use Rattle.tf_models.specs.Fit.{ConstructorsFit}
use Rattle.tf_models.specs.Evaluation.{member_in, size_in, IsReady}
use Rattle.tf_models.proofs.TypeMembers.{member_below}
use Rattle.tf_models.proofs.Entries.{constructors_fit}
use Rattle.enc_marks.specs.declared.choices.Marking.{Marking}
use Rattle.enc_marks.specs.declared.choices.Marking.TheVariants.{ByType, BySort}
use Rattle.enc_laws.specs.CollapsedStructure.{greatest, collapsed_size}
use Rattle.enc_laws.proofs.ClosedTypes.{type_there}
use Rattle.enc_laws.proofs.CollapsedStructure.{greatest-sort}
use Rattle.enc_models.specs.declared.sort_sizes.Measured.{Measured}
use Rattle.enc_models.specs.Calls.SortSizes.{AreClosedTypes, AreDeclaredClosed, AreBoundClosed, greatest_size, IsMeasured}
use Rattle.enc_models.proofs.CollapsedSizes.{greatest-append}

-- a table of a list, as code reads it
pub table_read : (tables all : List (List ℕ)) (c : ℕ) (table found : List ℕ) → c < length tables →
    all ≡ tables → found ≡ get_or all c found → table ≡ found → table ≡ get_or tables c []
table_read tables all c table found within same is read =
    read ∙ is
    ∙ ap (λ xs. get_or xs c found) same
    ∙ get_or_default tables c found [] within

module _ (model : TypedStructure) where
  abbrev size : Ty → ℕ
  size = size_in model []

  greatest_size-first : (ty : Ty) (types : List Ty) → greatest_size model (ty ∷ types)
      ≡ max (greatest (map size (parts_of ty))) (greatest_size model types)
  greatest_size-first ty types =
      ap greatest (map-append size (parts_of ty) (joined (map parts_of types)))
      ∙ greatest-append (map size (parts_of ty)) (map size (joined (map parts_of types)))

  pub greatest_size-append : (types others : List Ty) → greatest_size model (types ++ others)
      ≡ max (greatest_size model types) (greatest_size model others)
  greatest_size-append [] others = omega arith
  greatest_size-append (ty ∷ types) others =
      omega (
        arith,
        greatest_size-first ty (types ++ others),
        greatest_size-first ty types,
        greatest_size-append types others,
      )

  -- a type behind its own parts
  greatest_size-apply : (c : ℕ) (types : List Ty) → greatest_size model (type.Apply c types ∷ [])
      ≡ max (greatest_size model types) (size (type.Apply c types))
  greatest_size-apply c types =
      let parts = ap (λ (own : List Ty). greatest (map size own)) (parts_of-apply c types) in
      let list = ap greatest
      (map-append size (joined (map parts_of types)) (type.Apply c types ∷ []))
      ∙ greatest-append (map size (joined (map parts_of types))) (size (type.Apply c types) ∷ []) in
      omega (arith, greatest_size-first (type.Apply c types) [], parts, list)

  pub measured_application : (ty : Ty) (c : ℕ) (types : List Ty) (member own parts whole : ℕ) →
      ty ≡ type.Apply c types → member ≡ member_in model [] ty →
      own ≡ slice_index model.sizes member → parts ≡ greatest_size model types →
      whole ≡ max parts own → IsMeasured model ty (record { member = member; greatest = whole })
  measured_application ty c types member own parts whole is member_is own_is parts_are larger =
      record {
        member_is = member_is;
        greatest_is =
            let size_is : own ≡ size (type.Apply c types) =
            own_is ∙ ap (slice_index model.sizes) (member_is ∙ ap (member_in model []) is) in
            larger
            ∙ ap (λ n. max n own) parts_are
            ∙ ap (max (greatest_size model types)) size_is
            ∙ sym (greatest_size-apply c types)
            ∙ ap (λ (x : Ty). greatest_size model (x ∷ [])) (sym is);
      }

  pub greatest_size-more : (ty : Ty) (types : List Ty) (own rest whole : ℕ) →
      own ≡ greatest_size model (ty ∷ []) → rest ≡ greatest_size model types →
      whole ≡ max own rest → whole ≡ greatest_size model (ty ∷ types)
  greatest_size-more ty types own rest whole one others larger =
      larger
      ∙ ap (λ n. max n rest) one
      ∙ ap (max (greatest_size model (ty ∷ []))) others
      ∙ sym (greatest_size-append (ty ∷ []) types)

  pub greatest_size-last : (types : List Ty) (ty : Ty) (rest own whole : ℕ) →
      rest ≡ greatest_size model types → own ≡ greatest_size model (ty ∷ []) →
      whole ≡ max rest own → whole ≡ greatest_size model (types ++ ty ∷ [])
  greatest_size-last types ty rest own whole others one larger =
      larger
      ∙ ap (λ n. max n own) others
      ∙ ap (max (greatest_size model types)) one
      ∙ sym (greatest_size-append types (ty ∷ []))

  -- types, one after another
  module _ (types : List Ty) (i : ℕ) where
    pub types-more : (ty : Ty) → i < length types → ty ≡ get_or types i ty →
        (found own next : ℕ) → found ≡ greatest_size model (take i types) →
        own ≡ greatest_size model (ty ∷ []) → next ≡ max found own →
        next ≡ greatest_size model (take (i + 1) types)
    types-more ty within is found own next so_far one larger =
        larger
        ∙ ap (λ n. max n own) so_far
        ∙ ap (max (greatest_size model (take i types))) one
        ∙ sym (ap (greatest_size model)
        (take_more types i ty within ∙ ap (λ x. take i types ++ x ∷ []) (sym is))
        ∙ greatest_size-append (take i types) (ty ∷ []))

    pub types-whole : (found : ℕ) → length types ≤ i →
        found ≡ greatest_size model (take i types) → found ≡ greatest_size model types
    types-whole found ends so_far = so_far ∙ ap (greatest_size model) (take_all i types ends)

  -- lists of types that items stand for, one after another
  module _ {A : Type 0} (f : A → List Ty) (items : List A) (i : ℕ) where
    joined-pushed : (xs : List A) (x : A) →
        joined (map f (xs ++ x ∷ [])) ≡ joined (map f xs) ++ f x
    joined-pushed [] x = append-nil (f x)
    joined-pushed (y ∷ xs) x =
        ap (λ list. f y ++ list) (joined-pushed xs x)
        ∙ sym (append_assoc (f y) (joined (map f xs)) (f x))

    pub items-more : (item : A) → i < length items → item ≡ get_or items i item →
        (found own next : ℕ) → found ≡ greatest_size model (joined (map f (take i items))) →
        own ≡ greatest_size model (f item) → next ≡ max found own →
        next ≡ greatest_size model (joined (map f (take (i + 1) items)))
    items-more item within is found own next so_far one larger =
        larger
        ∙ ap (λ n. max n own) so_far
        ∙ ap (max (greatest_size model (joined (map f (take i items))))) one
        ∙ sym (ap (λ (list : List A). greatest_size model (joined (map f list)))
        (take_more items i item within ∙ ap (λ x. take i items ++ x ∷ []) (sym is))
        ∙ ap (greatest_size model) (joined-pushed (take i items) item)
        ∙ greatest_size-append (joined (map f (take i items))) (f item))

    pub items-whole : (found : ℕ) → length items ≤ i →
        found ≡ greatest_size model (joined (map f (take i items))) →
        found ≡ greatest_size model (joined (map f items))
    items-whole found ends so_far =
        so_far
        ∙ ap (λ (list : List A). greatest_size model (joined (map f list))) (take_all i items ends)

  -- ---- the list of sorts has each type once

  module _ (g : Signature) where
    once-greatest : (types seen : List Ty) →
        max (greatest (map size seen)) (greatest (map size (once seen types)))
        ≡ max (greatest (map size seen)) (greatest (map size types))
    once-greatest [] seen = refl
    once-greatest (ty ∷ types) seen =
        by (list_any (same_type ty) seen) refl (λ before. once-greatest types before)
      where
        by : (b : Bool) → list_any (same_type ty) seen ≡ b →
            ((before : List Ty) →
            max (greatest (map size before)) (greatest (map size (once before types)))
            ≡ max (greatest (map size before)) (greatest (map size types))) →
            max (greatest (map size seen))
            (greatest (map size (cond b (once seen types) (ty ∷ once (ty ∷ seen) types))))
            ≡ max (greatest (map size seen)) (greatest (map size (ty ∷ types)))
        by true was rest =
            let within : size ty ≤ greatest (map size seen) =
            greatest-sort (reading g (tables model)) seen ty was in
            omega (arith, rest seen, within)
        by false was rest = omega (arith, rest (ty ∷ seen))

    pub greatest_once : (types : List Ty) → greatest (map size (once [] types))
        ≡ greatest (map size types)
    greatest_once types = omega (arith, once-greatest types [])

  -- where there are types, the individuals aren't put in
  some_types : (types : List Ty) → 0 < greatest (map size types) →
      greatest (map size (or_individuals types)) ≡ greatest (map size types)
  some_types [] some = absurd (omega (arith, some))
  some_types (ty ∷ types) some = refl

  -- each has an element
  module _ (g : Signature) (fit : ConstructorsFit g (tables model)) where
    no_types_there : (types : List Ty) → AreClosedTypes g (or_individuals types) →
        greatest (map size types) ≡ 0 →
        greatest (map size (or_individuals types)) ≡ size (type.Apply 0 [])
    no_types_there [] closed none = omega arith
    no_types_there (ty ∷ types) closed none =
        let within = member_below g model fit 0 [] ty closed.0 tt in
        let some : 0 < size ty = fit.inhabited.each (member_in model [] ty) within in
        absurd (omega (arith, none, some))

-- ---- parts of types without variables

module _ (g : Signature) where
  pub closed_front : (types others : List Ty) → AreClosedTypes g (types ++ others) →
      AreClosedTypes g types
  closed_front [] others closed = tt
  closed_front (ty ∷ types) others closed = (closed.0, closed_front types others closed.1)

  pub closed_back : (types others : List Ty) → AreClosedTypes g (types ++ others) →
      AreClosedTypes g others
  closed_back [] others closed = closed
  closed_back (ty ∷ types) others closed = closed_back types others closed.1

  pub closed_each : {A : Type 0} (f : A → List Ty) (items : List A) →
      AreClosedTypes g (joined (map f items)) →
      AllByRecursion (λ item. AreClosedTypes g (f item)) items
  closed_each f [] closed = tt
  closed_each f (item ∷ items) closed = (
    closed_front (f item) (joined (map f items)) closed,
    closed_each f items (closed_back (f item) (joined (map f items)) closed),
  )

-- ---- the sorts of a problem without type variables

module _ (normal : Normal) (monomorphic : IsTrue (is_monomorphic normal))
    (sound : IsSoundNormal normal) where
  closed_sorts : (types : List Ty) → AreSorts normal types → AreClosedTypes normal.signature types
  closed_sorts [] are = tt
  closed_sorts (ty ∷ types) are = (
    type_there (IsType normal.signature 0) (sorts normal) ty
        (sorts_formed normal monomorphic sound) are.0,
    closed_sorts types are.1,
  )

  all_closed : {A : Type 0} (f : A → List Ty) (items : List A) →
      AllByRecursion (λ item. AreSorts normal (f item)) items →
      AllByRecursion (λ item. AreClosedTypes normal.signature (f item)) items
  all_closed f [] are = tt
  all_closed f (item ∷ items) are = (closed_sorts (f item) are.0, all_closed f items are.1)

  pub sorts_closed : AreClosedTypes normal.signature (sorts normal)
  sorts_closed = sorts_formed normal monomorphic sound

  pub declared_closed : AreDeclaredClosed normal.signature normal.signature.symbols
  declared_closed = all_closed declared_types normal.signature.symbols (declared_sorts normal)

  pub bound_closed : AreBoundClosed normal.signature normal.formulas
  bound_closed =
      all_closed (λ (formula : NormalFormula). binder_types formula.body) normal.formulas
      (binder_sorts normal)

  module _ (model : TypedStructure) (ready : IsReady normal.signature model)
      (declared bound found : ℕ)
      (declared_is : declared
      ≡ greatest_size model (joined (map declared_types normal.signature.symbols)))
      (bound_is : bound ≡ greatest_size model
      (joined (map (λ (formula : NormalFormula). binder_types formula.body) normal.formulas)))
      (larger : found ≡ max declared bound) where
    abbrev listed : List Ty
    listed = joined (map parts_of (types_in_order normal))

    found_is : found ≡ greatest (map (size_in model []) (once [] listed))
    found_is =
        larger
        ∙ ap (λ n. max n bound) declared_is
        ∙ ap (max (greatest_size model (joined (map declared_types normal.signature.symbols))))
        bound_is
        ∙ sym (greatest_size-append model (joined (map declared_types normal.signature.symbols))
        (joined (map (λ (formula : NormalFormula). binder_types formula.body) normal.formulas)))
        ∙ sym (greatest_once model normal.signature listed)

    pub sorts_found : 0 < found → found ≡ greatest (map (size_in model []) (sorts normal))
    sorts_found some =
        found_is
        ∙ sym (some_types model (once [] listed) (subst (λ n. 0 < n) found_is some))

    pub individuals_alone : found ≡ 0 →
        size_in model [] (type.Apply 0 []) ≡ greatest (map (size_in model []) (sorts normal))
    individuals_alone none =
        sym (no_types_there model normal.signature
        (constructors_fit normal.signature model ready.well_formed) (once [] listed)
        (sorts_formed normal monomorphic sound) (sym found_is ∙ none))

  -- the domain has a number
  pub some_size : (model : TypedStructure) → IsReady normal.signature model →
      0 < greatest (map (size_in model []) (sorts normal))
  some_size model ready =
      some (once [] (joined (map parts_of (types_in_order normal)))) sorts_closed
    where
      fit : ConstructorsFit normal.signature (tables model)
      fit = constructors_fit normal.signature model ready.well_formed

      inhabited : (ty : Ty) → IsType normal.signature 0 ty → 0 < size_in model [] ty
      inhabited ty formed =
          fit.inhabited.each (member_in model [] ty)
          (member_below normal.signature model fit 0 [] ty formed tt)

      some : (types : List Ty) → AreClosedTypes normal.signature (or_individuals types) →
          0 < greatest (map (size_in model []) (or_individuals types))
      some [] closed = let first = inhabited (type.Apply 0 []) closed.0 in omega (arith, first)
      some (ty ∷ types) closed = let first = inhabited ty closed.0 in omega (arith, first)

-- a collapsed domain has a number
pub size_positive : (marking : Marking) (normal : Normal) (model : TypedStructure) →
    (marking ≡ BySort → IsTrue (is_monomorphic normal)) → IsSoundNormal normal →
    IsReady normal.signature model →
    0 < collapsed_size marking normal (reading normal.signature (tables model))
size_positive ByType normal model monomorphic sound ready =
    omega (arith, ready.well_formed.structure.some)
size_positive BySort normal model monomorphic sound ready =
    some_size normal (monomorphic refl) sound model ready
