-- A structure over the collapsed domain corresponds to the typed one, forward.
use Rattle.std.specs.Prelude.{ℕ, ◌+◌, ◌<◌, ◌≡◌, Bool, true, false, List, ◌∷◌, ◌++◌, map, length, replicate, ltb, min, slice_get, Some, IsTrue}
use Rattle.std.proofs.Common.{refl, sym, ap, ◌∙◌, subst, arith, ⊎_elim}
use Rattle.std.proofs.lemmas.Bool.{cond-true, cond-false, cases_lt, lt-ltb, le-ltb, ltb-true, false≢true}
use Rattle.enc_base.specs.Tables.{EachBelow}
use Rattle.tf_core.specs.declared.ty.Ty.{Ty}
use Rattle.tf_core.specs.declared.nnf.Nnf.{Nnf}
use Rattle.tf_core.specs.declared.signature.Symbol.{Symbol}
use Rattle.tf_core.specs.declared.signature.Signature.{Signature}
use Rattle.tf_core.specs.Typing.{IsType, IsSignature}
use Rattle.tf_core.specs.Structures.{Typed, member_count, size_of, member_of, AreArguments, IsStructure}
use Rattle.fof_models.specs.declared.formula.FofTerm.TheVariants as term
use Rattle.fof_models.specs.Structures.{Untyped}
use Rattle.fof_models.specs.Truth.{value}
use Rattle.fof_models.proofs.Truth.{value-variable}
use Rattle.tf_naked.specs.Covers.{covers}
use Rattle.enc_marks.specs.Choices.{Choices}
use Rattle.enc_marks.specs.Translation.{Numbers}
use Rattle.enc_laws.specs.Relations.{AreRelated, none_related, more_related, ArgumentsAre, no_arguments, more_arguments, TypesAre}
use Rattle.enc_laws.specs.Corresponds.{IsApplied, Corresponds}
use Rattle.enc_laws.specs.Directions.{Forward}
use Rattle.enc_laws.specs.ForwardAxioms.{ForwardAxioms}
use Rattle.enc_laws.specs.CollapsedStructure.{collapse, elements_collapsed}
use Rattle.enc_laws.specs.Collapses.{IsCollapsedTo, IsOwnNumber, collapsing, Collapses, CollapsesAll}
use Rattle.enc_laws.proofs.Selected.{length-map, map-map}
use Rattle.enc_laws.proofs.Terms.{type_reads}
use Rattle.enc_laws.proofs.Stamped.{size_within}

pub collapse-less : (bound v : ℕ) → v < bound → collapse bound v ≡ v
collapse-less bound v less = cond-true (ltb v bound) v 0 (lt-ltb v bound less)

pub collapse-below : (bound v : ℕ) → 0 < bound → collapse bound v < bound
collapse-below bound v some =
    ⊎_elim (λ less. subst (λ z. z < bound) (sym (collapse-less bound v less)) less)
    (λ past. subst (λ z. z < bound) (sym (cond-false (ltb v bound) v 0 (le-ltb v bound past))) some)
    (cases_lt v bound)

-- a bound beyond the domain is as good as the domain's size
pub collapse-min : (bound size v : ℕ) → v < size → collapse (min bound size) v ≡ collapse bound v
collapse-min bound size v within =
    ⊎_elim
    (λ less. collapse-less (min bound size) v (omega (arith, within, less))
    ∙ sym (collapse-less bound v less))
    (λ past. cond-false (ltb v (min bound size)) v 0
    (le-ltb v (min bound size) (omega (arith, past)))
    ∙ sym (cond-false (ltb v bound) v 0 (le-ltb v bound past)))
    (cases_lt v bound)

module _ (c : Choices) (k : Numbers) (g : Signature) (s : Typed) (j : Untyped)
    (member : ℕ → ℕ → Type 0) (good : Ty → Type 0) (ok : Nnf → Type 0) (sound : IsSignature g)
    (structure : IsStructure g s) (has : Collapses c k g s j member good ok) where
  own_read : (v m e : ℕ) → IsOwnNumber s j v m e → IsCollapsedTo s j v m e
  own_read v m e h = record {
    below = h.below;
    is = ap (collapse (size_of s m)) h.is ∙ collapse-less (size_of s m) e h.small;
    small = h.small;
  }

  values_below : (tests : List Bool) (values members elements : List ℕ) →
      ArgumentsAre (collapsing s j member good) tests values members elements →
      EachBelow (replicate (length members) j.size) values
  values_below tests values members elements no_arguments = tt
  values_below tests values members elements
      (more_arguments cover v m e tests' values' members' elements' placed exact rest) =
      (placed.below, values_below tests' values' members' elements' rest)

  elements_are : (tests : List Bool) (values members elements : List ℕ) →
      ArgumentsAre (collapsing s j member good) tests values members elements →
      elements_collapsed s j.size members values ≡ elements
  elements_are tests values members elements no_arguments = refl
  elements_are tests values members elements
      (more_arguments cover v m e tests' values' members' elements' placed exact rest) =
      ap (λ x. x ∷ elements_collapsed s j.size members' values')
      (collapse-min (size_of s m) j.size v placed.below ∙ placed.is)
      ∙ ap (λ xs. e ∷ xs) (elements_are tests' values' members' elements' rest)

  elements_small : (tests : List Bool) (values members elements : List ℕ) →
      ArgumentsAre (collapsing s j member good) tests values members elements →
      EachBelow (map (size_of s) members) elements
  elements_small tests values members elements no_arguments = tt
  elements_small tests values members elements
      (more_arguments cover v m e tests' values' members' elements' placed exact rest) =
      (placed.small, elements_small tests' values' members' elements' rest)

  members_within : (values members : List ℕ) → AreRelated member values members →
      EachBelow (replicate (length members) (member_count s)) members
  members_within values members none_related = tt
  members_within values members (more_related v m others rest h hs) =
      (has.within v m h, members_within others rest hs)

  are_arguments : (symbol : Symbol) (kept values members elements : List ℕ) →
      IsApplied c k g s j (collapsing s j member good) symbol kept values members elements →
      AreArguments s symbol members elements
  are_arguments symbol kept values members elements h = record {
    for_parameters = subst (λ a. EachBelow (replicate a (member_count s)) members) h.count
        (members_within h.numbers members h.types);
    for_arguments = subst (λ l. EachBelow l elements)
        (map-map (size_of s) (member_of s members) symbol.arguments)
        (elements_small (covers symbol) values (map (member_of s members) symbol.arguments)
        elements h.arguments);
  }

  symbol_is : (f : ℕ) (symbol : Symbol) (kept values members elements : List ℕ) →
      slice_get g.symbols f ≡ Some symbol →
      IsApplied c k g s j (collapsing s j member good) symbol kept values members elements →
      j.symbol_at (k.symbol f) (kept ++ values) ≡ s.symbol_at f members elements
  symbol_is f symbol kept values members elements at h =
      has.symbols f symbol kept values members at h.count h.kept_types
      (subst (λ a. EachBelow (replicate a j.size) values)
      (length-map (member_of s members) symbol.arguments)
      (values_below (covers symbol) values (map (member_of s members) symbol.arguments) elements
      h.arguments))
      ∙ ap (s.symbol_at f members)
      (elements_are (covers symbol) values (map (member_of s members) symbol.arguments) elements
      h.arguments)

  function_is : (f : ℕ) (symbol : Symbol) (ty : Ty) (kept values members elements : List ℕ) →
      slice_get g.symbols f ≡ Some symbol → symbol.result ≡ Some ty →
      IsApplied c k g s j (collapsing s j member good) symbol kept values members elements →
      IsOwnNumber s j (j.symbol_at (k.symbol f) (kept ++ values)) (member_of s members ty)
      (s.symbol_at f members elements)
  function_is f symbol ty kept values members elements at gives h =
      let m : ℕ = member_of s members ty in
      let e : ℕ = s.symbol_at f members elements in
      let is = symbol_is f symbol kept values members elements at h in
      let small : e < size_of s m =
      structure.functions f symbol ty members elements at gives
      (are_arguments symbol kept values members elements h) in
      let fit = has.fits ty members (has.declared_result f symbol ty at gives)
      (size_within s.sizes m e small) in
      record { below = omega (arith, is, small, fit); is = is; small = small }

  pub corresponds : Corresponds c k g s j (collapsing s j member good)
  corresponds = record {
    constructors = has.constructors;
    functions = function_is;
    predicates = λ f symbol kept values members elements at gives h.
        symbol_is f symbol kept values members elements at h;
    good_arguments = has.good_arguments;
    good_result = has.good_result;
    exact_placed = own_read;
    reads_placed = λ position kind ty members v e is_good untagged h. h;
    applied_reads = own_read;
    applied_exact = λ position ty members v e is_good strict untagged h. h;
    tag_exact = λ variables depth ty members assignment position kind t e formed is_good are tagged
        type_is h.
        let is = has.tag_is depth ty t members assignment position kind is_good tagged h.below
        ∙ h.is in
        let fit = has.fits ty members is_good (has.within _ _ type_is) in
        let small = h.small in
        record { below = omega (arith, is, small, fit); is = is; small = h.small };
    same = λ v w m e h i. h.is ∙ sym i.is;
    one = λ v m d e h i. sym h.is ∙ i.is;
  }

  type_within : (variables depth : ℕ) (ty : Ty) (members assignment : List ℕ) →
      IsType g variables ty →
      TypesAre (collapsing s j member good) variables depth members assignment →
      member_of s members ty < member_count s
  type_within variables depth ty members assignment formed are =
      has.within _ _ (type_reads c k g s j (collapsing s j member good) sound corresponds variables
      ty formed depth members assignment are)

  read_all : (v m : ℕ) → v < j.size → m < member_count s →
      IsCollapsedTo s j v m (collapse (size_of s m) v)
  read_all v m below within = record {
    below = below;
    is = refl;
    small = collapse-below (size_of s m) v (structure.inhabited m within);
  }

  pub forward : Forward c k g s j (collapsing s j member good) ok
  forward = record {
    passes = has.passes;
    sides = refl;
    everywhere = λ variables depth ty body members assignment v at below bound.
        let m : ℕ = member_of s members ty in
        let is_good = (has.passes.for_all ty body at.holds).0 in
        let within = type_within variables depth ty members assignment at.formed at.types in
        let read = read_all v m below within in
        let is : value j (v ∷ assignment) (term.Var 0) ≡ v = value-variable j (v ∷ assignment) 0 in
        let near : IsTrue _ → v < size_of s m = λ need.
        ⊎_elim
        (λ binds. ltb-true v (size_of s m) (ap (λ z. ltb z (size_of s m)) (sym is)
        ∙ (sym (has.bind_is (depth + 1) ty (term.Var 0) members (v ∷ assignment) is_good
        (has.universal _ _ ty binds) (subst (λ z. z < j.size) (sym is) below)) ∙ bound binds)))
        (λ big. omega (arith, below, big))
        (has.binds ty body members at.holds is_good need) in (
          collapse (size_of s m) v,
          record {
            small = read.small;
            reads = read;
            exact = λ need. record {
              below = below;
              is = sym (collapse-less (size_of s m) v (near need));
              small = read.small;
            };
          },
        );
    somewhere = λ variables depth ty body members assignment e at small.
        let m : ℕ = member_of s members ty in
        let is_good = (has.passes.exists ty body at.holds).0 in
        let fit = has.fits ty members is_good (size_within s.sizes m e small) in
        let below : e < j.size = omega (arith, small, fit) in
        let own : IsOwnNumber s j e m e = record { below = below; is = refl; small = small } in
        let is : value j (e ∷ assignment) (term.Var 0) ≡ e = value-variable j (e ∷ assignment) 0
        in (
          e,
          below,
          record { small = small; reads = own_read e m e own; exact = λ need. own },
          λ binds. has.bind_is (depth + 1) ty (term.Var 0) members (e ∷ assignment) is_good
              (has.existential ty binds) (subst (λ z. z < j.size) (sym is) below)
              ∙ ap (λ z. ltb z (size_of s m)) is
              ∙ lt-ltb e (size_of s m) small,
        );
  }

  pub forward_axioms : CollapsesAll c k g s j member good →
      ForwardAxioms c k g s j (collapsing s j member good)
  forward_axioms more = record {
    some_member = more.some_member;
    declared = has.declared;
    declared_result = has.declared_result;
    argument = λ depth cover ty t members assignment is_good read below bound.
        let m : ℕ = member_of s members ty in (
          collapse (size_of s m) (value j assignment t),
          record {
            reads = read_all (value j assignment t) m below (has.within _ _ read);
            exact = λ strict untagged. absurd (false≢true strict);
          },
        );
    result = λ depth ty t members assignment e is_good typing read applied.
        let m : ℕ = member_of s members ty in
        has.bind_is depth ty t members assignment is_good typing applied.below
        ∙ ap (λ z. ltb z (size_of s m)) applied.is
        ∙ lt-ltb e (size_of s m) applied.small;
    last = more.last;
    last_of_sort = more.last_of_sort;
  }
