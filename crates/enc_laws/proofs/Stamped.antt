-- The merged structure corresponds to the typed one, forward.
use Rattle.std.specs.Prelude.{ℕ, zero, suc, ◌+◌, ◌-◌, ◌<◌, ◌≡◌, Bool, true, false, ◌&&◌, List, [], ◌∷◌, ◌++◌, map, length, replicate, cond, count_by, eqb, ltb, slice_index, slice_get, Some, None, IsTrue}
use Rattle.std.proofs.Common.{refl, sym, ap, ◌∙◌, subst, arith, ⊎_elim}
use Rattle.std.proofs.lemmas.List.Sums.{sum_by-cons}
use Rattle.std.proofs.lemmas.Bool.{cond-true, cond-false, cases_lt, cases_eq, lt-ltb, le-ltb, ne_eqb}
use Rattle.enc_base.specs.Tables.{EachBelow}
use Rattle.tf_core.specs.declared.ty.Ty.{Ty}
use Rattle.tf_core.specs.declared.signature.Constructor.{Constructor}
use Rattle.tf_core.specs.declared.signature.Symbol.{Symbol}
use Rattle.tf_core.specs.declared.signature.Signature.{Signature}
use Rattle.tf_core.specs.Types.{instantiate}
use Rattle.tf_core.specs.Typing.{IsSignature}
use Rattle.tf_core.specs.Structures.{Typed, member_count, size_of, member_of, AreArguments, IsStructure}
use Rattle.fof_models.specs.declared.formula.FofTerm.{FofTerm}
use Rattle.fof_models.specs.Structures.{Untyped}
use Rattle.fof_models.specs.Truth as untyped
use Rattle.fof_models.proofs.Truth as untyped_proofs
use Rattle.tf_naked.specs.Covers.{argument_parameters, covers}
use Rattle.tf_naked.specs.declared.position.Position.{Position}
use Rattle.tf_naked.specs.declared.position.Position.TheVariants.{Argument}
use Rattle.tf_naked.specs.declared.position.Kind.{Kind}
use Rattle.tf_naked.specs.declared.position.Kind.TheVariants.{Universal}
use Rattle.tf_naked.specs.Standing.{is_covering, stands, is_undercover, is_naked}
use Rattle.tf_core.specs.declared.nnf.Nnf.{Nnf}
use Rattle.enc_marks.specs.declared.choices.Marking.TheVariants.{ByType}
use Rattle.enc_marks.specs.declared.choices.Binding.TheVariants.{ByGuard, ByTag}
use Rattle.enc_marks.specs.Choices.{Choices}
use Rattle.enc_marks.specs.Translation.{Numbers, type_term, selected, tag_by, tag}
use Rattle.enc_laws.specs.Relations.{Relations, needed, AreRelated, none_related, more_related, ArgumentsAre, no_arguments, more_arguments}
use Rattle.enc_laws.specs.Corresponds.{IsApplied, Corresponds}
use Rattle.tf_stamp.specs.Merged.{merged_size, stamp, is_stamp, member_in, element_in, pair_member, pair_element}
use Rattle.enc_laws.specs.MergedStructure.{elements_read, kept_count, members_at, value_at}
use Rattle.enc_laws.proofs.Selected.{map-map, arguments_formed, all_same}
use Rattle.tf_stamp.proofs.Merged.{stamp_within, member_in-stamp, element_in-stamp, stamp-parts, member_in-member, member_in-within}
use Rattle.enc_laws.proofs.CoversRead.{AreCovered, members_read-related, cover_is_exact}

-- a number of the merged domain is read as this member
pub record IsMemberRead (s : Typed) (v m : ℕ) : Type 0 where
  pub below : v < merged_size s.sizes
  pub is : member_in s.sizes v ≡ m

-- it is read as this element of this member
pub record IsElement (s : Typed) (v m e : ℕ) : Type 0 where
  pub below : v < merged_size s.sizes
  pub is : element_in s.sizes v m ≡ e
  pub small : e < size_of s m

-- it is the stamp of this element
pub record IsStamp (s : Typed) (v m e : ℕ) : Type 0 where
  pub is : v ≡ stamp s.sizes m e
  pub within : m < member_count s
  pub below : e < size_of s m

abbrev pub stamped : Typed → Relations
stamped s = record {
  strict = is_covering;
  good = λ ty. ty ≡ ty;
  member = IsMemberRead s;
  reads = IsElement s;
  exact = IsStamp s;
  applied = IsStamp s;
  placed = IsElement s;
}

-- the untyped structure gives for the marked symbols what the merged structure does
pub record IsMerged (c : Choices) (k : Numbers) (g : Signature) (s : Typed) (j : Untyped) : Type 0
  where
    pub size : j.size ≡ merged_size s.sizes
    pub constructors : (i : ℕ) (constructor : Constructor) (values : List ℕ) →
        slice_get g.constructors i ≡ Some constructor →
        j.symbol_at (k.constructor i) values ≡ s.constructor_at i (map (member_in s.sizes) values)
    pub functions : (f : ℕ) (symbol : Symbol) (ty : Ty) (kept values : List ℕ) →
        slice_get g.symbols f ≡ Some symbol → symbol.result ≡ Some ty →
        length kept ≡ kept_count c symbol →
        j.symbol_at (k.symbol f) (kept ++ values)
        ≡ stamp s.sizes (member_of s (members_at c s symbol kept values) ty)
        (value_at s f symbol (members_at c s symbol kept values) values)
    pub predicates : (f : ℕ) (symbol : Symbol) (kept values : List ℕ) →
        slice_get g.symbols f ≡ Some symbol → symbol.result ≡ None →
        length kept ≡ kept_count c symbol →
        j.symbol_at (k.symbol f) (kept ++ values)
        ≡ value_at s f symbol (members_at c s symbol kept values) values
    pub guard : c.binding ≡ ByGuard → (u v : ℕ) → j.symbol_at k.shared (u ∷ v ∷ [])
        ≡ cond (is_stamp s.sizes v && eqb (member_in s.sizes v) (member_in s.sizes u)) 1 0
    pub tag : c.binding ≡ ByTag → (u v : ℕ) → j.symbol_at k.shared (u ∷ v ∷ [])
        ≡ stamp s.sizes (member_in s.sizes u) (element_in s.sizes v (member_in s.sizes u))

-- a scheme whose marks have the type as an argument, and that binds each variable that has to be
-- exact
pub record MergesByType (c : Choices) (g : Signature) (s : Typed) : Type 0 where
  pub marking : c.marking ≡ ByType
  pub covered : (symbol : Symbol) → AreCovered (argument_parameters symbol) (c.keeps symbol) 0
  pub keeps : (symbol : Symbol) → length (c.keeps symbol) ≡ symbol.parameters
  pub tags : (position : Position) (kind : Kind) (ty : Ty) → c.tagged position kind ty ≡ true →
      c.binding ≡ ByTag
  -- a cover of a typing axiom is tagged there or has a premise
  pub arguments : (ty : Ty) → c.tagged (Argument true) Universal ty ≡ false →
      c.premise true ty ≡ true
  pub binds : (ty : Ty) (body : Nnf) →
      IsTrue (stands g (needed c (stamped s) Universal ty) body 0) →
      c.universal (is_undercover g body) (is_naked g body) ty ≡ true

pub stamp-below : (s : Typed) (v m e : ℕ) → IsStamp s v m e → v < merged_size s.sizes
stamp-below s v m e h = omega (arith, h.is, stamp_within s.sizes m e h.within h.below)

pub stamp-element : (s : Typed) (v m e : ℕ) → IsStamp s v m e → IsElement s v m e
stamp-element s v m e h = record {
  below = stamp-below s v m e h;
  is = ap (λ x. element_in s.sizes x m) h.is ∙ element_in-stamp s.sizes m e h.within h.below;
  small = h.below;
}

-- a member with an element is in range
pub size_within : (sizes : List ℕ) (m e : ℕ) → e < slice_index sizes m → m < length sizes
size_within [] m e below = absurd (omega arith)
size_within (size ∷ sizes) zero e below = omega arith
size_within (size ∷ sizes) (suc m) e below = omega (arith, size_within sizes m e below)

members_within : (s : Typed) (values members : List ℕ) → AreRelated (IsMemberRead s) values
    members →
    EachBelow (replicate (length members) (member_count s)) members
members_within s values members none_related = tt
members_within s values members (more_related v m others rest h hs) = (
  subst (λ x. x < member_count s) h.is (member_in-within s.sizes v h.below),
  members_within s others rest hs,
)

members_are_read : (s : Typed) (values members : List ℕ) →
    AreRelated (IsMemberRead s) values members → map (member_in s.sizes) values ≡ members
members_are_read s values members none_related = refl
members_are_read s values members (more_related v m others rest h hs) =
    ap (λ x. x ∷ map (member_in s.sizes) others) h.is
    ∙ ap (λ l. m ∷ l) (members_are_read s others rest hs)

elements_are_read : (s : Typed) (tests : List Bool) (values members elements : List ℕ) →
    ArgumentsAre (stamped s) tests values members elements →
    elements_read s.sizes members values ≡ elements
elements_are_read s tests values members elements no_arguments = refl
elements_are_read s tests values members elements
    (more_arguments cover v m e tests' values' members' elements' placed exact rest) =
    ap (λ y. y ∷ elements_read s.sizes members' values') placed.is
    ∙ ap (λ l. e ∷ l) (elements_are_read s tests' values' members' elements' rest)

elements_small : (s : Typed) (tests : List Bool) (values members elements : List ℕ) →
    ArgumentsAre (stamped s) tests values members elements →
    EachBelow (map (size_of s) members) elements
elements_small s tests values members elements no_arguments = tt
elements_small s tests values members elements
    (more_arguments cover v m e tests' values' members' elements' placed exact rest) =
    (placed.small, elements_small s tests' values' members' elements' rest)

pub length-selected : {A : Type 0} (tests : List Bool) (items : List A) →
    length tests ≡ length items → length (selected tests items) ≡ count_by (λ test. test) tests
length-selected [] items all = refl
length-selected (test ∷ tests) [] all = absurd (omega (arith, all))
length-selected (true ∷ tests) (item ∷ items) all =
    let rest : length (selected tests items) ≡ count_by (λ test. test) tests =
    length-selected tests items (omega (arith, all)) in
    let more : suc (length (selected tests items)) ≡ 1 + count_by (λ test. test) tests =
    omega (arith, rest) in
    more ∙ sym (sum_by-cons (λ (test : Bool). cond test 1 0) true tests)
length-selected (false ∷ tests) (item ∷ items) all =
    let rest : length (selected tests items) ≡ count_by (λ test. test) tests =
    length-selected tests items (omega (arith, all)) in
    let same : length (selected tests items) ≡ 0 + count_by (λ test. test) tests =
    omega (arith, rest) in
    same ∙ sym (sum_by-cons (λ (test : Bool). cond test 1 0) false tests)

length-related : (R : ℕ → ℕ → Type 0) (values members : List ℕ) → AreRelated R values members →
    length values ≡ length members
length-related R values members none_related = refl
length-related R values members (more_related v m others rest h hs) =
    ap suc (length-related R others rest hs)

slice_index-at : (items : List ℕ) (i item : ℕ) → slice_get items i ≡ Some item →
    slice_index items i ≡ item
slice_index-at [] i item at = cc
slice_index-at (x ∷ items) zero item at = cc
slice_index-at (x ∷ items) (suc i) item at = slice_index-at items i item at

-- every number is read as an element of each member
pub element_of : (s : Typed) (v m : ℕ) → v < merged_size s.sizes → m < member_count s →
    0 < size_of s m → IsElement s v m (element_in s.sizes v m)
element_of s v m below within inhabited = record { below = below; is = refl; small = small }
  where
    small : element_in s.sizes v m < size_of s m
    small =
        ⊎_elim
        (λ a. subst (λ x. x < size_of s m)
        (sym (cond-true (ltb v (length s.sizes)) 0 _ (lt-ltb v (length s.sizes) a))) inhabited)
        (λ a.
        let f = le-ltb v (length s.sizes) a in
        let p = stamp-parts s.sizes v a below in
        let mem : pair_member s.sizes (v - length s.sizes) ≡ member_in s.sizes v =
        sym (cond-false (ltb v (length s.sizes)) v _ f) in
        subst (λ x. x < size_of s m) (sym (cond-false (ltb v (length s.sizes)) 0 _ f))
        (⊎_elim
        (λ e.
        let here : element_in s.sizes v m
        ≡ cond (eqb (pair_member s.sizes (v - length s.sizes)) m)
        (pair_element s.sizes (v - length s.sizes)) 0 =
        cond-false (ltb v (length s.sizes)) 0 _ f in
        let same : member_in s.sizes v ≡ m = sym mem ∙ e in
        subst (λ x. x < size_of s m) here
        (subst (λ x. element_in s.sizes v x < size_of s x) same p.below))
        (λ ne. subst (λ x. x < size_of s m)
        (sym (cond-false (eqb (pair_member s.sizes (v - length s.sizes)) m) _ 0 (ne_eqb _ _ ne)))
        inhabited)
        (cases_eq (pair_member s.sizes (v - length s.sizes)) m)))
        (cases_lt v (length s.sizes))

module _ (c : Choices) (k : Numbers) (g : Signature) (s : Typed) (j : Untyped)
    (sound : IsSignature g) (structure : IsStructure g s) (by : MergesByType c g s)
    (low : IsMerged c k g s j) where
  constructors_read : (i : ℕ) (constructor : Constructor) (values members : List ℕ) →
      slice_get g.constructors i ≡ Some constructor → length members ≡ constructor.arity →
      AreRelated (IsMemberRead s) values members →
      IsMemberRead s (j.symbol_at (k.constructor i) values) (s.constructor_at i members)
  constructors_read i constructor values members at all h =
      let v : j.symbol_at (k.constructor i) values ≡ s.constructor_at i members =
      low.constructors i constructor values at ∙ ap (s.constructor_at i)
      (members_are_read s values members h) in
      let w : s.constructor_at i members < member_count s =
      structure.constructors i constructor members at
      (subst (λ a. EachBelow (replicate a (member_count s)) members) all
      (members_within s values members h)) in
      rw v (record {
        below = omega (arith, w);
        is = member_in-member s.sizes
            (s.constructor_at i members) w;
      })

  members_at_are : (f : ℕ) (symbol : Symbol) (kept values members elements : List ℕ) →
      slice_get g.symbols f ≡ Some symbol →
      IsApplied c k g s j (stamped s) symbol kept values members elements →
      members_at c s symbol kept values ≡ members
  members_at_are f symbol kept values members elements at h =
      members_read-related s.sizes (IsMemberRead s) (argument_parameters symbol) (c.keeps symbol) 0
      kept values members (λ u m h. h.is) (by.covered symbol) (by.keeps symbol ∙ sym h.count)
      h.kept_types
      (λ i m at_i found.
      let x = cover_is_exact (stamped s) g s members symbol.parameters (0 + i) refl []
      symbol.arguments (arguments_formed g f symbol sound at) (covers symbol) values
      (map (member_of s members) symbol.arguments) elements refl refl h.arguments refl found in
      let st = x.1 in
      ap (member_in s.sizes) st.is ∙ member_in-stamp s.sizes _ _ st.within st.below
      ∙ (let z : 0 + i ≡ i = omega arith in ap (slice_index members) z)
      ∙ slice_index-at members i m at_i)

  kept_all : (symbol : Symbol) (kept values members elements : List ℕ) →
      IsApplied c k g s j (stamped s) symbol kept values members elements →
      length kept ≡ kept_count c symbol
  kept_all symbol kept values members elements h =
      length-related (IsMemberRead s) kept (selected (c.keeps symbol) members) h.kept_types
      ∙ length-selected (c.keeps symbol) members (by.keeps symbol ∙ sym h.count)

  values_read : (f : ℕ) (symbol : Symbol) (kept values members elements : List ℕ) →
      slice_get g.symbols f ≡ Some symbol →
      IsApplied c k g s j (stamped s) symbol kept values members elements →
      value_at s f symbol (members_at c s symbol kept values) values ≡ s.symbol_at f members
      elements
  values_read f symbol kept values members elements at h =
      ap (λ l. value_at s f symbol l values)
      (members_at_are f symbol kept values members elements at h)
      ∙ ap (s.symbol_at f members)
      (elements_are_read s (covers symbol) values (map (member_of s members) symbol.arguments)
      elements h.arguments)

  pub are_arguments : (symbol : Symbol) (kept values members elements : List ℕ) →
      IsApplied c k g s j (stamped s) symbol kept values members elements →
      AreArguments s symbol members elements
  are_arguments symbol kept values members elements h = record {
    for_parameters = subst (λ a. EachBelow (replicate a (member_count s)) members) h.count
        (members_within s h.numbers members h.types);
    for_arguments = subst (λ l. EachBelow l elements)
        (map-map (size_of s) (member_of s members) symbol.arguments)
        (elements_small s (covers symbol) values (map (member_of s members) symbol.arguments)
        elements h.arguments);
  }

  functions_read : (f : ℕ) (symbol : Symbol) (ty : Ty) (kept values members elements : List ℕ) →
      slice_get g.symbols f ≡ Some symbol → symbol.result ≡ Some ty →
      IsApplied c k g s j (stamped s) symbol kept values members elements →
      IsStamp s (j.symbol_at (k.symbol f) (kept ++ values)) (member_of s members ty)
      (s.symbol_at f members elements)
  functions_read f symbol ty kept values members elements at gives h =
      let v : j.symbol_at (k.symbol f) (kept ++ values)
      ≡ stamp s.sizes (member_of s members ty) (s.symbol_at f members elements) =
      low.functions f symbol ty kept values at gives
      (kept_all symbol kept values members elements h)
      ∙ ap (stamp s.sizes (member_of s (members_at c s symbol kept values) ty))
      (values_read f symbol kept values members elements at h)
      ∙ ap (λ l. stamp s.sizes (member_of s l ty) (s.symbol_at f members elements))
      (members_at_are f symbol kept values members elements at h) in
      let below : s.symbol_at f members elements < size_of s (member_of s members ty) =
      structure.functions f symbol ty members elements at gives
      (are_arguments symbol kept values members elements h) in
      record {
        is = v;
        within = size_within s.sizes (member_of s members ty) (s.symbol_at f members elements)
            below;
        below = below;
      }

  predicates_read : (f : ℕ) (symbol : Symbol) (kept values members elements : List ℕ) →
      slice_get g.symbols f ≡ Some symbol → symbol.result ≡ None →
      IsApplied c k g s j (stamped s) symbol kept values members elements →
      j.symbol_at (k.symbol f) (kept ++ values) ≡ s.symbol_at f members elements
  predicates_read f symbol kept values members elements at gives h =
      low.predicates f symbol kept values at gives (kept_all symbol kept values members elements h)
      ∙ values_read f symbol kept values members elements at h

  -- a tag's value
  pub value-tag : (depth : ℕ) (ty : Ty) (t : FofTerm) (assignment : List ℕ) (m e : ℕ) →
      c.binding ≡ ByTag →
      IsMemberRead s (untyped.value j assignment (type_term k.constructor depth ty)) m →
      IsElement s (untyped.value j assignment t) m e →
      untyped.value j assignment (tag c k g depth ty t) ≡ stamp s.sizes m e
  value-tag depth ty t assignment m e binding read h =
      ap (λ z. untyped.value j assignment (tag_by z k depth ty t)) by.marking
      ∙ untyped_proofs.value-apply j assignment k.shared (type_term k.constructor depth ty ∷ t ∷ [])
      ∙ low.tag binding _ _
      ∙ ap (λ z. stamp s.sizes z (element_in s.sizes (untyped.value j assignment t) z)) read.is
      ∙ ap (stamp s.sizes m) h.is

  pub corresponds : Corresponds c k g s j (stamped s)
  corresponds = record {
    constructors = constructors_read;
    functions = functions_read;
    predicates = predicates_read;
    good_arguments = λ f symbol types at all.
        all_same (λ (ty : Ty). ty) (map (instantiate types) symbol.arguments);
    good_result = λ f symbol ty types at gives all. refl;
    exact_placed = stamp-element s;
    reads_placed = λ position kind ty members v e good untagged h. h;
    applied_reads = stamp-element s;
    applied_exact = λ position ty members v e good strict untagged h. h;
    tag_exact = λ variables depth ty members assignment position kind t e formed good are tagged
        read h.
        record {
          is = value-tag depth ty t assignment (member_of s members ty) e
              (by.tags position kind ty tagged) read h;
          within = size_within s.sizes (member_of s members ty) e h.small;
          below = h.small;
        };
    same = λ v w m e h i. h.is ∙ sym i.is;
    one = λ v m d e h i. sym h.is ∙ i.is;
  }
