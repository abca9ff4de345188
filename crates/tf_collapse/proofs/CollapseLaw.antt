-- The collapse law, from the general law over the collapsed domain.
use Rattle.std.specs.Prelude.{ℕ, zero, suc, ◌+◌, ◌-◌, ◌<◌, ◌≤◌, ◌≡◌, ◌⊎◌, Bool, true, false, List, [], ◌∷◌, ◌++◌, map, length, replicate, ltb, cond, get_or, slice_get, slice_index, Some, IsTrue}
use Rattle.std.specs.List.{AllByRecursion}
use Rattle.std.proofs.Common.{refl, sym, ap, subst, ◌∙◌, arith, ⊎_elim}
use Rattle.enc_base.specs.Tables.{EachBelow, place}
use Rattle.tf_core.specs.declared.ty.Ty.{Ty}
use Rattle.tf_core.specs.declared.nnf.Nnf.{Nnf}
use Rattle.tf_core.specs.declared.nnf.Nnf.TheVariants as nnf
use Rattle.tf_core.specs.declared.signature.Constructor.{Constructor}
use Rattle.tf_core.specs.declared.signature.Symbol.{Symbol}
use Rattle.tf_core.specs.declared.signature.Signature.{Signature}
use Rattle.tf_core.specs.Typing.{IsType, AreTypes, no_types, more_types, IsSignature, IsNnf}
use Rattle.tf_core.specs.Structures.{Typed, member_count, size_of, member_of, IsStructure}
use Rattle.tf_core.specs.Truth.{normal_truth}
use Rattle.fof_models.specs.Structures.{Untyped}
use Rattle.fof_models.specs.Truth.{value, truth}
use Rattle.structure_tables.specs.TypedTabled.{symbol_block}
use Rattle.structure_tables.proofs.MembersOfTypes.{member_below}
use Rattle.tf_naked.specs.declared.position.Kind.{Kind}
use Rattle.tf_naked.specs.declared.position.Kind.TheVariants.{Universal, Existential}
use Rattle.tf_naked.specs.Standing.{stands, is_undercover, is_naked}
use Rattle.enc_marks.specs.Choices.{Choices, all_types}
use Rattle.enc_marks.specs.Translation.{Numbers, selected, formula}
use Rattle.enc_laws.specs.Relations.{AreRelated, none_related, more_related, needed, TypesAre}
use Rattle.enc_laws.specs.Corresponds.{Reads}
use Rattle.enc_laws.specs.Directions.{Passes}
use Rattle.enc_laws.specs.CollapsedStructure.{collapse, members_collapsed, elements_collapsed}
use Rattle.enc_laws.specs.Collapses.{collapsing, Collapses, IsCollapsedTo}
use Rattle.enc_laws.proofs.Collapsed.{corresponds, forward, collapse-less, collapse-below}
use Rattle.enc_laws.proofs.Selected.{all_at, arguments_formed}
use Rattle.enc_laws.proofs.TrueForward.{true_forward}
use Rattle.tf_collapse.specs.Domain.{CollapsedDomain}
use Rattle.tf_collapse.specs.PulledBack.{pulled_back}
use Rattle.tf_collapse.specs.BinderParts.{HasBinder, universal, existential, in_universal, in_existential, in_and, in_or}
use Rattle.tf_collapse.specs.Premises.{IsPulledBack, IsTreated, IsTreatedSignature, is_bare_side, IsOpen, Premises, AreBound, assigned_members, assigned_elements, argument_members}
use Rattle.tf_collapse.proofs.PulledBack.{IsFit, AreFit, block_entry}

-- each item of a list has what each that stands in it has
all_items : {A : Type 0} (P : A → Type 0) (items : List A) →
    ((i : ℕ) (item : A) → slice_get items i ≡ Some item → P item) → AllByRecursion P items
all_items P [] each = tt
all_items P (item ∷ items) each =
    (each zero item refl, all_items P items (λ i other at. each (suc i) other at))

-- ---- the collapsed assignment

assigned_member : (s : Typed) (assignment : List ℕ) (variables depth i : ℕ) → i < variables →
    slice_index (assigned_members s variables depth assignment) i
    ≡ collapse (member_count s) (slice_index assignment (depth - (i + 1)))
assigned_member s assignment zero depth i within = absurd (omega (arith, within))
assigned_member s assignment (suc variables) depth zero within =
    let e : depth - 1 ≡ depth - (0 + 1) = omega arith in
    ap (λ n. collapse (member_count s) (slice_index assignment n)) e
assigned_member s assignment (suc variables) depth (suc i) within =
    let e : depth - 1 - (i + 1) ≡ depth - (suc i + 1) = omega arith in
    assigned_member s assignment variables (depth - 1) i (omega (arith, within))
    ∙ ap (λ n. collapse (member_count s) (slice_index assignment n)) e

collapse-zero : (size : ℕ) → collapse size 0 ≡ 0
collapse-zero size = same (ltb 0 size) 0
  where
    same : (b : Bool) (v : ℕ) → cond b v v ≡ v
    same true v = refl
    same false v = refl

assigned_element : (s : Typed) (members : List ℕ) (context : List Ty) (assignment : List ℕ) (i : ℕ)
    (ty : Ty) → slice_get context i ≡ Some ty →
    slice_index (assigned_elements s members context assignment) i
    ≡ collapse (size_of s (member_of s members ty)) (slice_index assignment i)
assigned_element s members [] assignment i ty at = cc
assigned_element s members (first ∷ context) [] i ty at =
    sym (collapse-zero (size_of s (member_of s members ty)))
assigned_element s members (first ∷ context) (v ∷ assignment) zero ty at =
    let same : first ≡ ty = cc in
    ap (λ t. collapse (size_of s (member_of s members t)) v) same
assigned_element s members (first ∷ context) (v ∷ assignment) (suc i) ty at =
    assigned_element s members context assignment i ty at

assigned_below : (s : Typed) (assignment : List ℕ) (variables depth : ℕ) → 0 < member_count s →
    EachBelow (replicate variables (member_count s)) (assigned_members s variables depth assignment)
assigned_below s assignment zero depth some = tt
assigned_below s assignment (suc variables) depth some = (
  collapse-below (member_count s) (slice_index assignment (depth - 1)) some,
  assigned_below s assignment variables (depth - 1) some,
)

-- ---- what numbers are read as

-- the entry of numbers in a symbol's table that is pulled back
abbrev pulled_entry : Typed → CollapsedDomain → ℕ → Symbol → List ℕ → List ℕ → ℕ
pulled_entry s d f symbol members values =
    slice_index
    (pulled_back d (argument_members s symbol members) (symbol_block s symbol f members))
    (place (replicate (length symbol.arguments) d.big) values)

-- type arguments that are written, read as members
pub record IsKeptRead (s : Typed) (big count : ℕ) (values members : List ℕ) : Type 0 where
  pub kept : EachBelow (replicate count big) values
  pub is : members_collapsed s values ≡ members
  pub within : EachBelow (replicate count (member_count s)) members

module _ (c : Choices) (k : Numbers) (g : Signature) (s : Typed) (d : CollapsedDomain) (j : Untyped)
    (sound : IsSignature g) (structure : IsStructure g s) (are_bound : AreBound c)
    (pulled : IsPulledBack c k g s d j)
  where
    abbrev Treated : Ty → Type 0
    Treated ty = IsTreated c k g s d j ty

    abbrev Bare : Ty → Nnf → List ℕ → Type 0
    Bare ty body members =
        IsTrue (stands g (is_bare_side c k g s d j Universal ty) body 0) →
        (c.universal (is_undercover g body) (is_naked g body) ty ≡ true)
        ⊎ (d.big ≤ size_of s (member_of s members ty))

    -- the binders of a formula are as the law asks
    record IsFine (p : Nnf) : Type 0 where
      pub treated : (kind : Kind) (ty : Ty) (body : Nnf) → HasBinder ty body kind p → Treated ty
      pub bare : (ty : Ty) (body : Nnf) (members : List ℕ) → HasBinder ty body Universal p →
          Bare ty body members

    -- the types of arguments have members that fit
    fits : (variables : ℕ) (members : List ℕ) (types : List Ty) → AreTypes g variables types →
        EachBelow (replicate variables (member_count s)) members →
        AllByRecursion Treated types →
        AreFit s d pulled.sizes members types
    fits variables members types no_types within treated = tt
    fits variables members types (more_types ty others formed rest) within treated =
        let inside = member_below g s structure variables members within ty formed in (
          record {
            some = structure.inhabited (member_of s members ty) inside;
            small = treated.0.fits members inside;
          },
          fits variables members others rest within treated.1,
        )

    module _ (member : ℕ → ℕ → Type 0) (member_within : (v m : ℕ) → member v m → m < member_count s)
        (constructors : (i : ℕ) (constructor : Constructor) (values members : List ℕ) →
        slice_get g.constructors i ≡ Some constructor → length members ≡ constructor.arity →
        AreRelated member values members →
        member (j.symbol_at (k.constructor i) values) (s.constructor_at i members))
        (kept_read : (f : ℕ) (symbol : Symbol) (kept members : List ℕ) →
        slice_get g.symbols f ≡ Some symbol → length members ≡ symbol.parameters →
        AreRelated member kept (selected (c.keeps symbol) members) →
        IsKeptRead s d.big symbol.parameters kept members)
        (signature : IsTreatedSignature c k g s d j)
      where
        symbols : (f : ℕ) (symbol : Symbol) (kept values members : List ℕ) →
            slice_get g.symbols f ≡ Some symbol → length members ≡ symbol.parameters →
            AreRelated member kept (selected (c.keeps symbol) members) →
            EachBelow (replicate (length symbol.arguments) j.size) values →
            j.symbol_at (k.symbol f) (kept ++ values)
            ≡ s.symbol_at f members
            (elements_collapsed s j.size (map (member_of s members) symbol.arguments) values)
        symbols f symbol kept values members at count related below =
            let read = kept_read f symbol kept members at count related in
            let inside = subst (λ n. EachBelow (replicate (length symbol.arguments) n) values)
            pulled.size below in
            pulled.symbols f symbol kept values at read.kept inside
            ∙ ap (λ (ms : List ℕ). pulled_entry s d f symbol ms values) read.is
            ∙ block_entry s d pulled.sizes members f symbol values
            (fits symbol.parameters members symbol.arguments (arguments_formed g f symbol sound at)
            read.within (signature.declared f symbol at)) inside
            ∙ ap (λ n. s.symbol_at f members
            (elements_collapsed s n (map (member_of s members) symbol.arguments) values))
            (sym pulled.size)

        passes : Passes c k g s j (collapsing s j member Treated) IsFine
        passes = record {
          and = λ parts fine. all_items IsFine parts (λ i part at. record {
            treated = λ kind ty body h. fine.treated kind ty body (in_and kind parts i part at h);
            bare = λ ty body members h. fine.bare ty body members
                (in_and Universal parts i part at h);
          });
          or = λ parts fine. all_items IsFine parts (λ i part at. record {
            treated = λ kind ty body h. fine.treated kind ty body (in_or kind parts i part at h);
            bare = λ ty body members h. fine.bare ty body members
                (in_or Universal parts i part at h);
          });
          for_all = λ ty body fine. (
            fine.treated Universal ty body universal,
            record {
              treated = λ kind t b h. fine.treated kind t b (in_universal kind ty body h);
              bare = λ t b members h. fine.bare t b members (in_universal Universal ty body h);
            },
          );
          exists = λ ty body fine. (
            fine.treated Existential ty body existential,
            record {
              treated = λ kind t b h. fine.treated kind t b (in_existential kind ty body h);
              bare = λ t b members h. fine.bare t b members (in_existential Universal ty body h);
            },
          );
        }

        collapses : Collapses c k g s j member Treated IsFine
        collapses = record {
          passes = passes;
          within = member_within;
          constructors = constructors;
          symbols = symbols;
          good_arguments = signature.arguments;
          good_result = signature.result;
          declared = signature.declared;
          declared_result = signature.declared_result;
          fits = λ ty members treated within.
              subst (λ n. size_of s (member_of s members ty) ≤ n) (sym pulled.size)
              (treated.fits members within);
          tag_is = λ depth ty t members assignment position kind treated tagged below.
              treated.tagged depth t members assignment position kind tagged
              (subst (λ n. value j assignment t < n) pulled.size below);
          bind_is = λ depth ty t members assignment treated typing below.
              treated.bound depth t members assignment typing
              (subst (λ n. value j assignment t < n) pulled.size below);
          universal = are_bound.universal;
          existential = are_bound.existential;
          binds = λ ty body members fine treated stands.
              subst (λ n. (c.universal (is_undercover g body) (is_naked g body) ty ≡ true)
              ⊎ (n ≤ size_of s (member_of s members ty))) (sym pulled.size)
              (fine.bare ty body members universal stands);
        }

        -- the law, for an assignment that reads type variables as these members
        module _ (variables depth : ℕ) (context : List Ty) (kinds : List Kind) (assignment : List ℕ)
            (is_bound : ℕ → Bool) (p : Nnf) (formed : IsNnf g variables context p)
            (open_p : IsOpen c k g s d j variables depth context assignment p)
            (premises : Premises c k g s d j context kinds assignment
            (λ ty. size_of s (member_of s (assigned_members s variables depth assignment) ty))
            is_bound p)
            (types_are : TypesAre (collapsing s j member Treated) variables depth
            (assigned_members s variables depth assignment) assignment)
          where
            abbrev ms : List ℕ
            ms = assigned_members s variables depth assignment

            abbrev es : List ℕ
            es = assigned_elements s ms context assignment

            type_inside : (i : ℕ) (ty : Ty) → slice_get context i ≡ Some ty →
                member_of s ms ty < member_count s
            type_inside i ty at =
                member_below g s structure variables ms
                (assigned_below s assignment variables depth structure.some) ty
                (all_at (IsType g variables) context i ty open_p.formed at)

            read_at : (i : ℕ) (ty : Ty) → slice_get context i ≡ Some ty →
                IsCollapsedTo s j (slice_index assignment i) (member_of s ms ty) (slice_index es i)
            read_at i ty at =
                let is = assigned_element s ms context assignment i ty at in
                record {
                  below = subst (λ n. slice_index assignment i < n) (sym pulled.size)
                      (open_p.within i);
                  is = sym is;
                  small =
                      subst (λ e. e < size_of s (member_of s ms ty)) (sym is)
                      (collapse-below (size_of s (member_of s ms ty)) (slice_index assignment i)
                      (structure.inhabited (member_of s ms ty) (type_inside i ty at)));
                }

            near : (i : ℕ) (ty : Ty) → slice_get context i ≡ Some ty →
                IsTrue (stands g (is_bare_side c k g s d j (get_or kinds i Universal) ty) p i) →
                slice_index assignment i < size_of s (member_of s ms ty)
            near i ty at needed = go (is_bound i) refl
              where
                go : (b : Bool) → is_bound i ≡ b →
                    slice_index assignment i < size_of s (member_of s ms ty)
                go true is = premises.bound i ty at is
                go false is = premises.sides i ty at is needed

            reads : Reads c k g s j (collapsing s j member Treated) variables depth context kinds ms es
                assignment (λ test i. stands g test p i)
            reads = record {
              types = types_are;
              terms = read_at;
              goods = open_p.free;
              exacts = λ i ty at needed.
                  let read = read_at i ty at in
                  record {
                    below = read.below;
                    is = sym (collapse-less (size_of s (member_of s ms ty))
                        (slice_index assignment i) (near i ty at needed))
                        ∙ read.is;
                    small = read.small;
                  };
            }

            fine : IsFine p
            fine = record { treated = open_p.binders; bare = premises.binders }

            kept_true : IsTrue (normal_truth s ms p es) →
                IsTrue (truth j (formula c k g p depth kinds) assignment)
            kept_true h =
                true_forward c k g s j (collapsing s j member Treated) sound
                (corresponds c k g s j member Treated IsFine sound structure collapses) IsFine
                (forward c k g s j member Treated IsFine sound structure collapses)
                variables context p formed depth kinds ms es assignment fine reads h

    -- ---- the two ways of type arguments

    -- there are none
    empty_read : (count : ℕ) → count ≡ 0 → IsKeptRead s d.big count [] []
    empty_read zero is = record { kept = tt; is = refl; within = tt }
    empty_read (suc count) is = absurd (omega (arith, is))

    none_read : (symbol : Symbol) (kept members : List ℕ) → symbol.parameters ≡ 0 →
        length members ≡ symbol.parameters →
        AreRelated (λ v m. m < member_count s) kept (selected (c.keeps symbol) members) →
        IsKeptRead s d.big symbol.parameters kept members
    none_read symbol kept [] none count related = go (c.keeps symbol) kept related
      where
        go : (keeps : List Bool) (kept : List ℕ) →
            AreRelated (λ v m. m < member_count s) kept (selected keeps []) →
            IsKeptRead s d.big symbol.parameters kept []
        go [] kept none_related = empty_read symbol.parameters none
        go (keep ∷ keeps) kept none_related = empty_read symbol.parameters none
    none_read symbol kept (m ∷ members) none count related = absurd (omega (arith, none, count))

    members_inside : (values members : List ℕ) →
        AreRelated (λ v m. m < member_count s) values members →
        EachBelow (replicate (length members) (member_count s)) members
    members_inside values members none_related = tt
    members_inside values members (more_related v m others rest h hs) =
        (h, members_inside others rest hs)

    none_constructors : (i : ℕ) (constructor : Constructor) (values members : List ℕ) →
        slice_get g.constructors i ≡ Some constructor → length members ≡ constructor.arity →
        AreRelated (λ v m. m < member_count s) values members →
        s.constructor_at i members < member_count s
    none_constructors i constructor values members at count related =
        structure.constructors i constructor members at
        (subst (λ n. EachBelow (replicate n (member_count s)) members) count
        (members_inside values members related))

    -- they are all written
    abbrev IsRead : ℕ → ℕ → Type 0
    IsRead v m = (v < d.big) × (collapse (member_count s) v ≡ m)

    read_within : (v m : ℕ) → IsRead v m → m < member_count s
    read_within v m read =
        subst (λ n. n < member_count s) read.1 (collapse-below (member_count s) v structure.some)

    related_read : (kept members : List ℕ) → AreRelated IsRead kept members →
        IsKeptRead s d.big (length members) kept members
    related_read kept members none_related = record { kept = tt; is = refl; within = tt }
    related_read kept members (more_related v m others rest h hs) =
        let behind = related_read others rest hs in
        record {
          kept = (h.0, behind.kept);
          is =
              ap (λ x. x ∷ members_collapsed s others) h.1
              ∙ ap (λ (ms : List ℕ). m ∷ ms) behind.is;
          within = (read_within v m h, behind.within);
        }

    selected-all : (count : ℕ) (members : List ℕ) → length members ≡ count →
        selected (replicate count true) members ≡ members
    selected-all zero [] all = refl
    selected-all zero (m ∷ members) all = absurd (omega (arith, all))
    selected-all (suc count) [] all = absurd (omega (arith, all))
    selected-all (suc count) (m ∷ members) all =
        ap (λ (ms : List ℕ). m ∷ ms) (selected-all count members (omega (arith, all)))

    all_read : (symbol : Symbol) (kept members : List ℕ) → c.keeps symbol ≡ all_types symbol →
        length members ≡ symbol.parameters → AreRelated IsRead kept (selected (c.keeps symbol) members) →
        IsKeptRead s d.big symbol.parameters kept members
    all_read symbol kept members written count related =
        subst (λ n. IsKeptRead s d.big n kept members) count
        (related_read kept members
        (subst (AreRelated IsRead kept)
        (ap (λ (keeps : List Bool). selected keeps members) written
        ∙ selected-all symbol.parameters members count) related))

    all_constructors : member_count s ≤ d.big → (i : ℕ) (constructor : Constructor)
        (values members : List ℕ) →
        slice_get g.constructors i ≡ Some constructor → length members ≡ constructor.arity →
        AreRelated IsRead values members →
        IsRead (j.symbol_at (k.constructor i) values) (s.constructor_at i members)
    all_constructors few i constructor values members at count related =
        let read = subst (λ n. IsKeptRead s d.big n values members) count
        (related_read values members related) in
        let is : j.symbol_at (k.constructor i) values ≡ s.constructor_at i members =
        pulled.constructors i constructor values at read.kept ∙ ap (s.constructor_at i) read.is in
        let small : s.constructor_at i members < member_count s =
        structure.constructors i constructor members at read.within in (
          omega (arith, is, small, few),
          ap (collapse (member_count s)) is
              ∙ collapse-less (member_count s) (s.constructor_at i members) small,
        )

    module _ (variables depth : ℕ) (context : List Ty) (kinds : List Kind) (assignment : List ℕ)
        (is_bound : ℕ → Bool) (p : Nnf) (formed : IsNnf g variables context p)
        (open_p : IsOpen c k g s d j variables depth context assignment p)
        (premises : Premises c k g s d j context kinds assignment
        (λ ty. size_of s (member_of s (assigned_members s variables depth assignment) ty))
        is_bound p)
      where
        abbrev members : List ℕ
        members = assigned_members s variables depth assignment

        abbrev Kept : Type 0
        Kept = IsTrue (normal_truth s members p (assigned_elements s members context assignment)) →
            IsTrue (truth j (formula c k g p depth kinds) assignment)

        without_types : ((f : ℕ) (symbol : Symbol) → slice_get g.symbols f ≡ Some symbol →
            symbol.parameters ≡ 0) → Kept
        without_types none =
            kept_true (λ v m. m < member_count s) (λ v m within. within) none_constructors
            (λ f symbol kept ms at count related. none_read symbol kept ms (none f symbol at) count
            related)
            open_p.signature variables depth context kinds assignment is_bound p formed open_p premises
            (record {
              deep = open_p.deep;
              is = λ i within.
                  subst (λ m. m < member_count s)
                  (sym (assigned_member s assignment variables depth i within))
                  (collapse-below (member_count s) (slice_index assignment (depth - (i + 1)))
                  structure.some);
            })

        with_types : ((f : ℕ) (symbol : Symbol) → slice_get g.symbols f ≡ Some symbol →
            c.keeps symbol ≡ all_types symbol) → member_count s ≤ d.big → Kept
        with_types written few =
            kept_true IsRead read_within (all_constructors few)
            (λ f symbol kept ms at count related. all_read symbol kept ms (written f symbol at) count
            related)
            open_p.signature variables depth context kinds assignment is_bound p formed open_p premises
            (record {
              deep = open_p.deep;
              is = λ i within. (
                open_p.within (depth - (i + 1)),
                sym (assigned_member s assignment variables depth i within),
              );
            })

        pub collapse_law : Kept
        collapse_law h =
            ⊎_elim (λ none. without_types none h) (λ written. with_types written.0 written.1 h)
            premises.types
