-- The lifted structure corresponds to the untyped one, backward.
use Rattle.std.specs.Prelude.{ℕ, ◌+◌, ◌<◌, ◌≡◌, Bool, true, false, List, ◌∷◌, ◌++◌, map, length, replicate, cond, slice_get, Option, Some, None, IsTrue}
use Rattle.std.specs.List.{AllByRecursion}
use Rattle.std.proofs.Common.{refl, sym, ap, ◌∙◌, subst, arith}
use Rattle.enc_base.specs.Tables.{EachBelow}
use Rattle.tf_core.specs.declared.ty.Ty.{Ty}
use Rattle.tf_core.specs.declared.nnf.Nnf.{Nnf}
use Rattle.tf_core.specs.declared.signature.Constructor.{Constructor}
use Rattle.tf_core.specs.declared.signature.Symbol.{Symbol}
use Rattle.tf_core.specs.declared.signature.Signature.{Signature}
use Rattle.tf_core.specs.Types.{type_value, instantiate}
use Rattle.tf_core.specs.Typing.{IsType, type_variable, type_apply, AreTypes, no_types, more_types, IsSignature}
use Rattle.tf_core.specs.Structures.{size_of}
use Rattle.tf_core.proofs.Types.{type_value-variable, type_value-apply}
use Rattle.fof_models.specs.declared.formula.FofTerm.{FofTerm}
use Rattle.fof_models.specs.declared.formula.FofTerm.TheVariants as term
use Rattle.fof_models.specs.Structures.{Untyped}
use Rattle.fof_models.specs.Truth.{value, truth}
use Rattle.fof_models.proofs.Truth.{value-variable}
use Rattle.tf_naked.specs.Covers.{covers}
use Rattle.tf_naked.specs.declared.position.Position.{Position}
use Rattle.tf_naked.specs.declared.position.Kind.{Kind}
use Rattle.tf_naked.specs.declared.position.Kind.TheVariants.{Universal, Existential, Applied}
use Rattle.tf_naked.specs.Standing.{stands}
use Rattle.enc_marks.specs.Choices.{Choices}
use Rattle.enc_marks.specs.Translation.{Numbers, type_term, selected, tag, bind}
use Rattle.enc_marks.specs.Occurrence.{count_below}
use Rattle.enc_laws.specs.Relations.{Relations, needed, AreRelated, none_related, more_related, ArgumentsAre, no_arguments, more_arguments, TypesAre}
use Rattle.enc_laws.specs.Corresponds.{IsApplied, Corresponds}
use Rattle.enc_laws.specs.Directions.{Passes, Backward}
use Rattle.enc_laws.specs.Ranks.{nth}
use Rattle.enc_laws.specs.Lifted.{Lift, numbers_of, lifted_value, lifted_at, lifted}
use Rattle.enc_laws.proofs.Ranked.{count_below-less, nth-count_below, ranked, listed-at}
use Rattle.enc_laws.proofs.Selected.{result_formed}
use Rattle.enc_laws.proofs.Literals.{TypesAre-more}
use Rattle.enc_laws.proofs.Terms.{type_reads}
use Rattle.enc_laws.proofs.Closed.{EachBelow-at}

-- read into a member, v is the element of this rank
pub record IsRanked (j : Untyped) (l : Lift) (v m e : ℕ) : Type 0 where
  pub below : v < j.size
  pub within : m < l.members
  pub inside : l.into m v < j.size
  pub passes : l.picks m (l.into m v) ≡ true
  pub rank : count_below (l.into m v) (l.picks m) ≡ e

-- v is the element of this rank of a member
pub record IsNth (j : Untyped) (l : Lift) (v m e : ℕ) : Type 0 where
  pub below : v < j.size
  pub within : m < l.members
  pub passes : l.picks m v ≡ true
  pub rank : count_below v (l.picks m) ≡ e

abbrev pub ranking : Untyped → Lift → (ℕ → ℕ → Type 0) → (Ty → Type 0) → Relations
ranking j l member good = record {
  strict = λ position. true;
  good = good;
  member = member;
  reads = IsRanked j l;
  exact = IsNth j l;
  applied = IsRanked j l;
  placed = IsNth j l;
}

-- v is in the domain, and is read as an element of a member
pub record IsInside (j : Untyped) (l : Lift) (v m : ℕ) : Type 0 where
  pub inside : l.into m v < j.size
  pub passes : l.picks m (l.into m v) ≡ true

module _ (c : Choices) (k : Numbers) (g : Signature) (present : ℕ → Bool)
    (j : Untyped) (l : Lift)
    (member : ℕ → ℕ → Type 0) (good : Ty → Type 0) where
  abbrev pub IsTypeNumber : ℕ → Ty → List ℕ → List ℕ → Type 0
  IsTypeNumber depth ty members assignment =
      member (value j assignment (type_term k.constructor depth ty))
      (type_value l.constructor_at members ty)

  -- what a lift needs
  pub record Lifts : Type 0 where
    pub within : (v m : ℕ) → member v m → m < l.members
    pub constructors : (i : ℕ) (constructor : Constructor) (values members : List ℕ) →
        slice_get g.constructors i ≡ Some constructor → length members ≡ constructor.arity →
        AreRelated member values members →
        member (j.symbol_at (k.constructor i) values) (l.constructor_at i members)
    pub constructors_below : (i : ℕ) (constructor : Constructor) (members : List ℕ) →
        slice_get g.constructors i ≡ Some constructor →
        EachBelow (replicate constructor.arity l.members) members →
        l.constructor_at i members < l.members
    pub kept : (symbol : Symbol) (us members : List ℕ) →
        AreRelated member us (selected (c.keeps symbol) members) →
        us ≡ selected (c.keeps symbol) members
    pub good_arguments : (f : ℕ) (symbol : Symbol) (types : List Ty) →
        slice_get g.symbols f ≡ Some symbol → length types ≡ symbol.parameters →
        AllByRecursion good (map (instantiate types) symbol.arguments)
    pub good_result : (f : ℕ) (symbol : Symbol) (ty : Ty) (types : List Ty) →
        slice_get g.symbols f ≡ Some symbol → symbol.result ≡ Some ty →
        length types ≡ symbol.parameters → good (instantiate types ty)
    -- a function's value is in the domain, and is read as an element of the result's member
    pub result_below : (f : ℕ) (symbol : Symbol) (ty : Ty) (kept values members elements : List ℕ) →
        slice_get g.symbols f ≡ Some symbol → symbol.result ≡ Some ty →
        IsApplied c k g (lifted c k g present j l) j (ranking j l member good) symbol kept values members
        elements →
        j.symbol_at (k.symbol f) (kept ++ values) < j.size
    pub result_inside : (f : ℕ) (symbol : Symbol) (ty : Ty)
        (kept values members elements : List ℕ) →
        slice_get g.symbols f ≡ Some symbol → symbol.result ≡ Some ty →
        IsApplied c k g (lifted c k g present j l) j (ranking j l member good) symbol kept values members
        elements →
        IsInside j l (j.symbol_at (k.symbol f) (kept ++ values))
        (type_value l.constructor_at members ty)
    -- a symbol that doesn't occur gives the element of rank 0, and a predicate 0
    pub absent : (f : ℕ) (symbol : Symbol) (kept values members elements : List ℕ) →
        slice_get g.symbols f ≡ Some symbol → present (k.symbol f) ≡ false →
        IsApplied c k g (lifted c k g present j l) j (ranking j l member good) symbol kept values
        members elements →
        lifted_value l members symbol.result (j.symbol_at (k.symbol f) (kept ++ values)) ≡ 0
    -- what isn't tagged is read as itself
    pub untagged : (position : Position) (kind : Kind) (ty : Ty) (members : List ℕ) (v : ℕ) →
        good ty → c.tagged position kind ty ≡ false →
        l.into (type_value l.constructor_at members ty) v ≡ v
    pub stays : (kind : Kind) (ty : Ty) (body : Nnf) (members : List ℕ) (v : ℕ) → good ty →
        IsTrue (stands g (needed c (ranking j l member good) kind ty) body 0) →
        l.into (type_value l.constructor_at members ty) v ≡ v
    pub tag_is : (depth : ℕ) (ty : Ty) (t : FofTerm) (members assignment : List ℕ)
        (position : Position) (kind : Kind) (e : ℕ) → good ty →
        c.tagged position kind ty ≡ true → IsTypeNumber depth ty members assignment →
        IsRanked j l (value j assignment t) (type_value l.constructor_at members ty) e →
        value j assignment (tag c k g depth ty t)
        ≡ l.into (type_value l.constructor_at members ty) (value j assignment t)
    -- each element is read from some number
    pub covered : (m w : ℕ) → m < l.members → w < j.size → l.picks m w ≡ true →
        (v : ℕ) × (v < j.size) × (l.into m v ≡ w)
    -- at a universal binder elements are bound to the type
    pub bind_true : (undercover naked : Bool) (depth : ℕ) (ty : Ty) (t : FofTerm)
        (members assignment : List ℕ) → good ty → c.universal undercover naked ty ≡ true →
        IsTypeNumber depth ty members assignment → value j assignment t < j.size →
        l.picks (type_value l.constructor_at members ty)
        (l.into (type_value l.constructor_at members ty) (value j assignment t)) ≡ true →
        IsTrue (truth j (bind c k g depth ty t) assignment)
    -- at an existential one, what is bound to the type is read as an element
    pub element : (depth : ℕ) (ty : Ty) (t : FofTerm) (members assignment : List ℕ) → good ty →
        IsTypeNumber depth ty members assignment → value j assignment t < j.size →
        (c.existential ty ≡ true → IsTrue (truth j (bind c k g depth ty t) assignment)) →
        IsInside j l (value j assignment t) (type_value l.constructor_at members ty)

  module _ (sound : IsSignature g) (lifts : Lifts) where
    pub size_of-lifted : (m : ℕ) → m < l.members →
        size_of (lifted c k g present j l) m ≡ count_below j.size (l.picks m)
    size_of-lifted m within =
        listed-at l.members 0 m (λ m. count_below j.size (l.picks m)) within
        ∙ ap (λ x. count_below j.size (l.picks x)) (omega arith)

    nth-is : (v m e : ℕ) → IsNth j l v m e → nth j.size (l.picks m) e ≡ v
    nth-is v m e h =
        ap (nth j.size (l.picks m)) (sym h.rank) ∙ nth-count_below j.size v (l.picks m) h.below
        h.passes

    numbers_of-arguments : (tests : List Bool) (values members elements : List ℕ) →
        ArgumentsAre (ranking j l member good) tests values members elements →
        numbers_of l j.size members elements ≡ values
    numbers_of-arguments tests values members elements no_arguments = refl
    numbers_of-arguments tests values members elements
        (more_arguments cover v m e tests' values' members' elements' placed exact rest) =
        ap (λ x. x ∷ numbers_of l j.size members' elements') (nth-is v m e placed)
        ∙ ap (λ xs. v ∷ xs) (numbers_of-arguments tests' values' members' elements' rest)

    pub each_within : (us members : List ℕ) → AreRelated member us members →
        EachBelow (replicate (length members) l.members) members
    each_within us members none_related = tt
    each_within us members (more_related u m us' members' h hs) =
        (lifts.within u m h, each_within us' members' hs)

    mutual
      pub type_within : (variables : ℕ) (ty : Ty) (formed : IsType g variables ty)
          (members : List ℕ) → EachBelow (replicate variables l.members) members →
          type_value l.constructor_at members ty < l.members
      type_within variables ty (type_variable i within) members below =
          subst (λ x. x < l.members) (sym (type_value-variable l.constructor_at members i))
          (EachBelow-at l.members variables members below i within)
      type_within variables ty (type_apply i constructor types at all formed) members below =
          subst (λ x. x < l.members) (sym (type_value-apply l.constructor_at members i types))
          (lifts.constructors_below i constructor (map (type_value l.constructor_at members) types)
          at (subst (λ a. EachBelow (replicate a l.members)
          (map (type_value l.constructor_at members) types)) all
          (types_within variables types formed members below)))

      pub types_within : (variables : ℕ) (types : List Ty) (formed : AreTypes g variables types)
          (members : List ℕ) → EachBelow (replicate variables l.members) members →
          EachBelow (replicate (length types) l.members)
          (map (type_value l.constructor_at members) types)
      types_within variables types no_types members below = tt
      types_within variables types (more_types ty others formed rest) members below = (
        type_within variables ty formed members below,
        types_within variables others rest members below,
      )

    value_present : (f : ℕ) (symbol : Symbol) (kept values members elements : List ℕ) →
        slice_get g.symbols f ≡ Some symbol →
        IsApplied c k g (lifted c k g present j l) j (ranking j l member good) symbol kept values
        members elements → (b : Bool) → present (k.symbol f) ≡ b →
        cond b (lifted_value l members symbol.result (j.symbol_at (k.symbol f) (kept ++ values))) 0
        ≡ lifted_value l members symbol.result (j.symbol_at (k.symbol f) (kept ++ values))
    value_present f symbol kept values members elements at h true is = refl
    value_present f symbol kept values members elements at h false is =
        sym (lifts.absent f symbol kept values members elements at is h)

    lifted_at-is : (f : ℕ) (symbol : Symbol) (result : Option Ty)
        (kept values members elements : List ℕ) →
        slice_get g.symbols f ≡ Some symbol → symbol.result ≡ result →
        IsApplied c k g (lifted c k g present j l) j (ranking j l member good) symbol kept values
        members elements →
        lifted_at c k present j l f (slice_get g.symbols f) members elements
        ≡ lifted_value l members result (j.symbol_at (k.symbol f) (kept ++ values))
    lifted_at-is f symbol result kept values members elements at gives h =
        let arguments : List ℕ =
        numbers_of l j.size (map (type_value l.constructor_at members) symbol.arguments)
        elements in
        let is_there : Bool = present (k.symbol f) in
        ap (λ o. lifted_at c k present j l f o members elements) at
        ∙ ap (λ x. cond is_there (lifted_value l members symbol.result
        (j.symbol_at (k.symbol f) (x ++ arguments))) 0)
        (sym (lifts.kept symbol kept members h.kept_types))
        ∙ ap (λ x. cond is_there (lifted_value l members symbol.result
        (j.symbol_at (k.symbol f) (kept ++ x))) 0)
        (numbers_of-arguments (covers symbol) values
        (map (type_value l.constructor_at members) symbol.arguments) elements h.arguments)
        ∙ value_present f symbol kept values members elements at h is_there refl
        ∙ ap (λ o. lifted_value l members o (j.symbol_at (k.symbol f) (kept ++ values))) gives

    pub functions_ranked : (f : ℕ) (symbol : Symbol) (ty : Ty)
        (kept values members elements : List ℕ) →
        slice_get g.symbols f ≡ Some symbol → symbol.result ≡ Some ty →
        IsApplied c k g (lifted c k g present j l) j (ranking j l member good) symbol kept values members
        elements →
        IsRanked j l (j.symbol_at (k.symbol f) (kept ++ values))
        (type_value l.constructor_at members ty)
        (lifted_at c k present j l f (slice_get g.symbols f) members elements)
    functions_ranked f symbol ty kept values members elements at gives h =
        let inside = lifts.result_inside f symbol ty kept values members elements at gives h in
        record {
          below = lifts.result_below f symbol ty kept values members elements at gives h;
          within = type_within symbol.parameters ty (result_formed g f symbol ty sound at gives)
              members (subst (λ a. EachBelow (replicate a l.members) members) h.count
              (each_within h.numbers members h.types));
          inside = inside.inside;
          passes = inside.passes;
          rank = sym (lifted_at-is f symbol (Some ty) kept values members elements at gives h);
        }

    pub predicates_ranked : (f : ℕ) (symbol : Symbol) (kept values members elements : List ℕ) →
        slice_get g.symbols f ≡ Some symbol → symbol.result ≡ None →
        IsApplied c k g (lifted c k g present j l) j (ranking j l member good) symbol kept values members
        elements →
        j.symbol_at (k.symbol f) (kept ++ values)
        ≡ lifted_at c k present j l f (slice_get g.symbols f) members elements
    predicates_ranked f symbol kept values members elements at gives h =
        sym (lifted_at-is f symbol None kept values members elements at gives h)

    -- what is read as itself is the element
    as_itself : (v m e : ℕ) → l.into m v ≡ v → IsRanked j l v m e → IsNth j l v m e
    as_itself v m e same h = record {
      below = h.below;
      within = h.within;
      passes = ap (l.picks m) (sym same) ∙ h.passes;
      rank = ap (λ x. count_below x (l.picks m)) (sym same) ∙ h.rank;
    }

    pub corresponds : Corresponds c k g (lifted c k g present j l) j (ranking j l member good)
    corresponds = record {
      constructors = lifts.constructors;
      functions = functions_ranked;
      predicates = predicates_ranked;
      good_arguments = lifts.good_arguments;
      good_result = lifts.good_result;
      exact_placed = λ v m e h. h;
      reads_placed = λ position kind ty members v e is_good untagged h.
          as_itself v (type_value l.constructor_at members ty) e
          (lifts.untagged position kind ty members v is_good untagged) h;
      applied_reads = λ v m e h. h;
      applied_exact = λ position ty members v e is_good strict untagged h.
          as_itself v (type_value l.constructor_at members ty) e
          (lifts.untagged position Applied ty members v is_good untagged) h;
      tag_exact = λ variables depth ty members assignment position kind t e formed is_good are
          tagged type_is h. subst (λ z. IsNth j l z (type_value l.constructor_at members ty) e)
          (sym (lifts.tag_is depth ty t members assignment position kind e is_good tagged type_is
          h)) (record { below = h.inside; within = h.within; passes = h.passes; rank = h.rank });
      same = λ v w m e h i. sym (nth-is v m e h) ∙ nth-is w m e i;
      one = λ v m d e h i. sym h.rank ∙ i.rank;
    }

    type_number : (variables depth : ℕ) (ty : Ty) (members assignment : List ℕ) →
        IsType g variables ty →
        TypesAre (ranking j l member good) variables depth members assignment →
        IsTypeNumber depth ty members assignment
    type_number variables depth ty members assignment formed are =
        type_reads c k g (lifted c k g present j l) j (ranking j l member good) sound corresponds variables
        ty formed depth members assignment are

    module _ (ok : Nnf → Type 0)
        (passes : Passes c k g (lifted c k g present j l) j (ranking j l member good) ok) where
      pub backward : Backward c k g (lifted c k g present j l) j (ranking j l member good) ok
      backward = record {
        passes = passes;
        sides = refl;
        everywhere = λ variables depth ty body members assignment e at small.
            let m : ℕ = type_value l.constructor_at members ty in
            let is_good = (passes.for_all ty body at.holds).0 in
            let within : m < l.members = lifts.within _ m
            (type_number variables depth ty members assignment at.formed at.types) in
            let found = ranked j.size e (l.picks m)
            (subst (λ z. e < z) (size_of-lifted m within) small) in
            let facts = found.1 in
            let from = lifts.covered m found.0 within facts.below facts.passes in
            let v : ℕ = from.0 in
            let v_below : v < j.size = from.1 in
            let read_as : l.into m v ≡ found.0 = from.2 in
            let picked : l.picks m (l.into m v) ≡ true = ap (l.picks m) read_as ∙ facts.passes in
            let reads : IsRanked j l v m e = record {
              below = v_below;
              within = within;
              inside = subst (λ z. z < j.size) (sym read_as) facts.below;
              passes = picked;
              rank = ap (λ z. count_below z (l.picks m)) read_as ∙ facts.rank_is;
            } in
            let type_is = type_number variables (depth + 1) ty members (v ∷ assignment) at.formed
            (TypesAre-more (ranking j l member good) variables depth members assignment v
            at.types) in
            let is : value j (v ∷ assignment) (term.Var 0) ≡ v = value-variable j (v ∷ assignment)
            0 in (
              v,
              v_below,
              record {
                small = small;
                reads = reads;
                exact = λ need. as_itself v m e
                    (lifts.stays Universal ty body members v is_good need) reads;
              },
              λ binds. lifts.bind_true _ _ (depth + 1) ty (term.Var 0) members (v ∷ assignment)
                  is_good binds type_is (subst (λ z. z < j.size) (sym is) v_below)
                  (ap (λ z. l.picks m (l.into m z)) is ∙ picked),
            );
        somewhere = λ variables depth ty body members assignment v at below bound.
            let m : ℕ = type_value l.constructor_at members ty in
            let is_good = (passes.exists ty body at.holds).0 in
            let type_is = type_number variables (depth + 1) ty members (v ∷ assignment) at.formed
            (TypesAre-more (ranking j l member good) variables depth members assignment v
            at.types) in
            let within : m < l.members = lifts.within _ m type_is in
            let is : value j (v ∷ assignment) (term.Var 0) ≡ v = value-variable j (v ∷ assignment)
            0 in
            let there = lifts.element (depth + 1) ty (term.Var 0) members (v ∷ assignment) is_good
            type_is (subst (λ z. z < j.size) (sym is) below) bound in
            let inside : l.into m v < j.size = subst (λ z. l.into m z < j.size) is there.inside in
            let picked : l.picks m (l.into m v) ≡ true =
            ap (λ z. l.picks m (l.into m z)) (sym is) ∙ there.passes in
            let e : ℕ = count_below (l.into m v) (l.picks m) in
            let reads : IsRanked j l v m e = record {
              below = below;
              within = within;
              inside = inside;
              passes = picked;
              rank = refl;
            } in (
              e,
              record {
                small = subst (λ z. e < z) (sym (size_of-lifted m within))
                    (count_below-less j.size (l.into m v) (l.picks m) inside picked);
                reads = reads;
                exact = λ need. as_itself v m e
                    (lifts.stays Existential ty body members v is_good need) reads;
              },
            );
      }
