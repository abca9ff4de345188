-- What types, terms and arguments of a translation are read as, in structures that correspond.
use Rattle.std.specs.Prelude.{ℕ, ◌+◌, ◌-◌, ◌≡◌, Bool, true, false, not, ◌&&◌, List, [], ◌∷◌, ◌++◌, map, length, get_or, slice_get, Some, IsTrue, cond}
use Rattle.std.proofs.Common.{refl, sym, ap, ◌∙◌, subst, arith}
use Rattle.std.proofs.lemmas.Bool.{and_from, or_left, or_right, eq-eqb}
use Rattle.std.proofs.lemmas.List.{map-append}
use Rattle.tf_core.specs.declared.ty.Ty.{Ty}
use Rattle.tf_core.specs.declared.term.Term.{Term}
use Rattle.tf_core.specs.declared.term.Term.TheVariants as term
use Rattle.tf_core.specs.declared.signature.Constructor.{Constructor}
use Rattle.tf_core.specs.declared.signature.Symbol.{Symbol}
use Rattle.tf_core.specs.declared.signature.Signature.{Signature}
use Rattle.tf_core.specs.Types.{type_value, instantiate}
use Rattle.tf_core.specs.Typing.{IsType, type_variable, type_apply, AreTypes, no_types, more_types, IsInstance, HasType, of_variable, of_apply, HaveTypes, no_terms, more_terms, IsSignature}
use Rattle.tf_core.specs.Structures.{Typed, member_of}
use Rattle.tf_core.specs.Truth as typed
use Rattle.tf_core.proofs.Truth as typed_proofs
use Rattle.tf_core.proofs.Types.{type_value-variable, type_value-apply}
use Rattle.tf_core.proofs.Instances.{type_value-instantiate, type_values-instantiate}
use Rattle.tf_core.proofs.TypingKept.{types-substituted}
use Rattle.fof_models.specs.Structures.{Untyped}
use Rattle.fof_models.specs.Truth as untyped
use Rattle.fof_models.proofs.Truth as untyped_proofs
use Rattle.tf_naked.specs.Covers.{covers, covers_of}
use Rattle.tf_naked.specs.declared.position.Position.{Position}
use Rattle.tf_naked.specs.declared.position.Position.TheVariants.{Argument}
use Rattle.tf_naked.specs.declared.position.Kind.{Kind}
use Rattle.tf_naked.specs.declared.position.Kind.TheVariants.{Universal, Applied}
use Rattle.tf_naked.specs.Standing.{Standing, stands_in_arguments, standing}
use Rattle.tf_naked.proofs.Standing.{standing-variable, standing-apply}
use Rattle.enc_marks.specs.Choices.{Choices}
use Rattle.enc_marks.specs.Translation.{Numbers, Bare, type_term, selected, tag, placed, placed_all, arguments, bare}
use Rattle.enc_marks.proofs.Translation.{type_term-variable, type_term-apply, bare-variable, bare-apply}
use Rattle.enc_marks.proofs.CoverCount.{length-covers}
use Rattle.enc_laws.specs.Relations.{Relations, needed, AreRelated, none_related, more_related, ArgumentsAre, no_arguments, more_arguments, TypesAre}
use Rattle.enc_laws.specs.Corresponds.{IsApplied, Corresponds, Reads}
use Rattle.enc_laws.proofs.Selected.{map-selected, AreTypes-selected, length-map, arguments_formed, result_formed}

-- a type's term is read as the type's member
module _ (k : Numbers) (g : Signature) (j : Untyped) (constructor_at : ℕ → List ℕ → ℕ)
    (r : Relations)
    (constructors : (i : ℕ) (constructor : Constructor) (values members : List ℕ) →
    slice_get g.constructors i ≡ Some constructor → length members ≡ constructor.arity →
    AreRelated r.member values members →
    r.member (j.symbol_at (k.constructor i) values) (constructor_at i members))
  where
    mutual
      pub type_is : (variables : ℕ) (ty : Ty) (formed : IsType g variables ty) (depth : ℕ)
          (members assignment : List ℕ) → TypesAre r variables depth members assignment →
          r.member (untyped.value j assignment (type_term k.constructor depth ty))
          (type_value constructor_at members ty)
      type_is variables ty (type_variable i within) depth members assignment are =
          rw (
            type_term-variable k.constructor depth i,
            untyped_proofs.value-variable j assignment (depth - (i + 1)),
            type_value-variable constructor_at members i,
          ) (are.is i within)
      type_is variables ty (type_apply i constructor types at count formed) depth members assignment
          are =
          rw (
            type_term-apply k.constructor depth i types,
            untyped_proofs.value-apply j assignment (k.constructor i)
                (map (type_term k.constructor depth) types),
            type_value-apply constructor_at members i types,
          )
          (constructors i constructor _ _ at
          (length-map (type_value constructor_at members) types ∙ count)
          (types_are variables types formed depth members assignment are))

      pub types_are : (variables : ℕ) (types : List Ty) (formed : AreTypes g variables types)
          (depth : ℕ) (members assignment : List ℕ) →
          TypesAre r variables depth members assignment →
          AreRelated r.member
          (map (untyped.value j assignment) (map (type_term k.constructor depth) types))
          (map (type_value constructor_at members) types)
      types_are variables types no_types depth members assignment are = none_related
      types_are variables types (more_types ty others formed rest) depth members assignment are =
          more_related _ _ _ _ (type_is variables ty formed depth members assignment are)
          (types_are variables others rest depth members assignment are)

module _ (c : Choices) (k : Numbers) (g : Signature) (s : Typed) (j : Untyped) (r : Relations)
    (sound : IsSignature g) (both : Corresponds c k g s j r) where
  pub type_reads : (variables : ℕ) (ty : Ty) (formed : IsType g variables ty) (depth : ℕ)
      (members assignment : List ℕ) → TypesAre r variables depth members assignment →
      r.member (untyped.value j assignment (type_term k.constructor depth ty))
      (member_of s members ty)
  type_reads = type_is k g j s.constructor_at r both.constructors

  pub types_read : (variables : ℕ) (types : List Ty) (formed : AreTypes g variables types)
      (depth : ℕ) (members assignment : List ℕ) → TypesAre r variables depth members assignment →
      AreRelated r.member
      (map (untyped.value j assignment) (map (type_term k.constructor depth) types))
      (map (member_of s members) types)
  types_read = types_are k g j s.constructor_at r both.constructors

  arguments_are : (f : ℕ) (symbol : Symbol) (types : List Ty) (members : List ℕ) →
      slice_get g.symbols f ≡ Some symbol → length types ≡ symbol.parameters →
      map (member_of s members) (map (instantiate types) symbol.arguments)
      ≡ map (member_of s (map (member_of s members) types)) symbol.arguments
  arguments_are f symbol types members at count =
      type_values-instantiate s.constructor_at members types g symbol.parameters symbol.arguments
      (arguments_formed g f symbol sound at) (sym count)

  result_is : (f : ℕ) (symbol : Symbol) (ty : Ty) (types : List Ty) (members : List ℕ) →
      slice_get g.symbols f ≡ Some symbol → symbol.result ≡ Some ty →
      length types ≡ symbol.parameters →
      member_of s members (instantiate types ty) ≡ member_of s (map (member_of s members) types) ty
  result_is f symbol ty types members at gives count =
      type_value-instantiate s.constructor_at members types g symbol.parameters ty
      (result_formed g f symbol ty sound at gives) (sym count)

  -- a term of this type, with the kind that it is seen as
  pub record TermReads (ty : Ty) (t : Term) (x : Bare) (members assignment : List ℕ) (e : ℕ)
      (at : (Position → Bool) → ℕ → Bool) : Type 0 where
    pub reads : r.reads (untyped.value j assignment x.term) (member_of s members ty) e
    pub exact : (p : Position) → r.strict p ≡ true → c.tagged p x.kind ty ≡ false →
        ((test : Position → Bool) (i : ℕ) → IsTrue (test p && (standing g test t).here i) →
        IsTrue (at test i)) →
        r.exact (untyped.value j assignment x.term) (member_of s members ty) e
    pub good : r.good ty

  -- what stands in a position
  pub record IsPlaced (p : Position) (v m e : ℕ) : Type 0 where
    pub placed : r.placed v m e
    pub exact : r.strict p ≡ true → r.exact v m e

  pub value-placed : (variables depth : ℕ) (p : Position) (ty : Ty) (t : Term) (x : Bare)
      (members assignment : List ℕ) (e : ℕ) (at : (Position → Bool) → ℕ → Bool) →
      IsType g variables ty → TypesAre r variables depth members assignment →
      TermReads ty t x members assignment e at →
      ((test : Position → Bool) (i : ℕ) → IsTrue (test p && (standing g test t).here i) →
      IsTrue (at test i)) →
      IsPlaced p (untyped.value j assignment (placed c k g depth p ty x)) (member_of s members ty) e
  value-placed variables depth p ty t x members assignment e at formed are read here =
      go (c.tagged p x.kind ty) refl
    where
      go : (tagged : Bool) → c.tagged p x.kind ty ≡ tagged →
          IsPlaced p (untyped.value j assignment (cond tagged (tag c k g depth ty x.term) x.term))
          (member_of s members ty) e
      go true is =
          let exact = both.tag_exact variables depth ty members assignment p x.kind x.term e formed
          read.good are is (type_reads variables ty formed depth members assignment are)
          read.reads in
          record { placed = both.exact_placed _ _ _ exact; exact = λ _. exact }
      go false is = record {
        placed = both.reads_placed p x.kind ty members _ _ read.good is read.reads;
        exact = λ strict. read.exact p strict is here;
      }

  pub covers_count : (symbol : Symbol) (types : List Ty) →
      length (covers symbol) ≡ length (map (instantiate types) symbol.arguments)
  covers_count symbol types =
      length-covers symbol ∙ sym (length-map (instantiate types) symbol.arguments)

  -- a symbol's type arguments and its arguments
  pub application_is : (variables f : ℕ) (symbol : Symbol) (types : List Ty)
      (values elements : List ℕ) → slice_get g.symbols f ≡ Some symbol →
      length types ≡ symbol.parameters → AreTypes g variables types →
      (depth : ℕ) (members assignment : List ℕ) → TypesAre r variables depth members assignment →
      ArgumentsAre r (covers symbol) values
      (map (member_of s members) (map (instantiate types) symbol.arguments)) elements →
      IsApplied c k g s j r symbol
      (map (untyped.value j assignment)
      (map (type_term k.constructor depth) (selected (c.keeps symbol) types)))
      values (map (member_of s members) types) elements
  application_is variables f symbol types values elements at count formed depth members assignment
      are
      read = record {
        count = length-map (member_of s members) types ∙ count;
        numbers = map (untyped.value j assignment) (map (type_term k.constructor depth) types);
        types = types_read variables types formed depth members assignment are;
        kept_types =
            subst (AreRelated r.member (map (untyped.value j assignment)
            (map (type_term k.constructor depth) (selected (c.keeps symbol) types))))
            (map-selected (member_of s members) (c.keeps symbol) types)
            (types_read variables (selected (c.keeps symbol) types)
            (AreTypes-selected g variables (c.keeps symbol) types formed) depth members assignment
            are);
        arguments = subst (λ l. ArgumentsAre r (covers symbol) values l elements)
            (arguments_are f symbol types members at count) read;
      }

  -- the types of a symbol's arguments, at types for its parameters
  pub arguments_typed : (variables f : ℕ) (symbol : Symbol) (types : List Ty) →
      slice_get g.symbols f ≡ Some symbol → length types ≡ symbol.parameters →
      AreTypes g variables types → AreTypes g variables (map (instantiate types) symbol.arguments)
  arguments_typed variables f symbol types at count formed =
      types-substituted g symbol.parameters variables types formed count symbol.arguments
      (arguments_formed g f symbol sound at)

  mutual
    pub term_reads : (variables : ℕ) (context : List Ty) (t : Term) (ty : Ty)
        (has : HasType g variables context t ty) (depth : ℕ) (kinds : List Kind)
        (members elements assignment : List ℕ) (at : (Position → Bool) → ℕ → Bool) →
        Reads c k g s j r variables depth context kinds members elements assignment at →
        ((test : Position → Bool) (i : ℕ) → IsTrue ((standing g test t).inside i) →
        IsTrue (at test i)) →
        TermReads ty t (bare c k g depth kinds t) members assignment
        (typed.value s members elements t) at
    term_reads variables context t ty (of_variable i found is) depth kinds members elements
        assignment at read inside =
        rw (bare-variable c k g depth kinds i, typed_proofs.value-variable s members elements i)
        (record {
          reads = rw (untyped_proofs.value-variable j assignment i) (read.terms i ty is);
          exact = λ p strict untagged here.
              let test = needed c r (get_or kinds i Universal) ty in
              rw (untyped_proofs.value-variable j assignment i)
              (read.exacts i ty is
              (here test i
              (and_from _ _ (and_from _ _ strict (ap not untagged))
              (ap (λ (z : Standing). z.here i) (standing-variable g test i) ∙ eq-eqb i i refl))));
          good = read.goods i ty is;
        })
    term_reads variables context t ty (of_apply f symbol result types terms is have) depth kinds
        members elements assignment at read inside =
        let instance : IsInstance g variables f symbol (Some result) types = is in
        let within : (test : Position → Bool) (i : ℕ) →
        IsTrue (stands_in_arguments test (covers symbol) (map (standing g test) terms) i) →
        IsTrue (at test i) = λ test i stands.
        inside test i
        (ap (λ (z : Standing). z.inside i) (standing-apply g test f types terms)
        ∙ ap (λ o. stands_in_arguments test (covers_of o) (map (standing g test) terms) i)
        instance.at
        ∙ stands) in
        let done = application_is variables f symbol types _ _ instance.at instance.count
        instance.formed depth members assignment read.types
        (arguments_read variables context terms (map (instantiate types) symbol.arguments) have
        (covers symbol) (covers_count symbol types)
        (arguments_typed variables f symbol types instance.at instance.count instance.formed)
        depth kinds members elements assignment at read within) in
        let computes : untyped.value j assignment
        (bare c k g depth kinds (term.Apply f types terms)).term
        ≡ j.symbol_at (k.symbol f)
        (map (untyped.value j assignment)
        (map (type_term k.constructor depth) (selected (c.keeps symbol) types))
        ++ map (untyped.value j assignment)
        (placed_all c k g depth (covers symbol) (map (instantiate types) symbol.arguments)
        (map (bare c k g depth kinds) terms))) =
        ap (λ (z : Bare). untyped.value j assignment z.term)
        (bare-apply c k g depth kinds f types terms)
        ∙ untyped_proofs.value-apply j assignment (k.symbol f) _
        ∙ ap (λ o. j.symbol_at (k.symbol f) (map (untyped.value j assignment)
        (arguments c k g depth o types (map (bare c k g depth kinds) terms)))) instance.at
        ∙ ap (j.symbol_at (k.symbol f))
        (map-append (untyped.value j assignment)
        (map (type_term k.constructor depth) (selected (c.keeps symbol) types)) _) in
        let gives = both.functions f symbol result _ _ (map (member_of s members) types)
        (map (typed.value s members elements) terms) instance.at instance.gives done in
        let applied : r.applied
        (untyped.value j assignment (bare c k g depth kinds (term.Apply f types terms)).term)
        (member_of s members (instantiate types result))
        (typed.value s members elements (term.Apply f types terms)) =
        rw (
          computes,
          result_is f symbol result types members instance.at instance.gives instance.count,
          typed_proofs.value-apply s members elements f types terms,
        ) gives in
        let kind : (bare c k g depth kinds (term.Apply f types terms)).kind ≡ Applied =
        ap (λ (z : Bare). z.kind) (bare-apply c k g depth kinds f types terms) in
        let good = both.good_result f symbol result types instance.at instance.gives
        instance.count in
        record {
          reads = both.applied_reads _ _ _ applied;
          exact = λ p strict untagged here.
              both.applied_exact p (instantiate types result) members _ _ good strict
              (ap (λ q. c.tagged p q (instantiate types result)) (sym kind) ∙ untagged) applied;
          good = good;
        }

    pub arguments_read : (variables : ℕ) (context : List Ty) (terms : List Term) (types : List Ty)
        (have : HaveTypes g variables context terms types) (tests : List Bool) →
        length tests ≡ length types → AreTypes g variables types →
        (depth : ℕ) (kinds : List Kind) (members elements assignment : List ℕ)
        (at : (Position → Bool) → ℕ → Bool) →
        Reads c k g s j r variables depth context kinds members elements assignment at →
        ((test : Position → Bool) (i : ℕ) →
        IsTrue (stands_in_arguments test tests (map (standing g test) terms) i) →
        IsTrue (at test i)) →
        ArgumentsAre r tests
        (map (untyped.value j assignment)
        (placed_all c k g depth tests types (map (bare c k g depth kinds) terms)))
        (map (member_of s members) types) (map (typed.value s members elements) terms)
    arguments_read variables context terms types no_terms [] count formed depth kinds members
        elements
        assignment at read within = no_arguments
    arguments_read variables context terms types no_terms (test ∷ tests) count formed depth kinds
        members elements assignment at read within = absurd (omega (arith, count))
    arguments_read variables context terms types (more_terms t ty rest others has have) [] count
        formed
        depth kinds members elements assignment at read within = absurd (omega (arith, count))
    arguments_read variables context terms types (more_terms t ty rest others has have)
        (cover ∷ tests)
        count (more_types first more is are) depth kinds members elements assignment at read
        within =
        let x = value-placed variables depth (Argument cover) ty t (bare c k g depth kinds t)
        members assignment (typed.value s members elements t) at is read.types
        (term_reads variables context t ty has depth kinds members elements assignment at read
        (λ test i stands. within test i (or_right _ _ (or_left _ _ stands))))
        (λ test i stands. within test i (or_left _ _ stands)) in
        more_arguments _ _ _ _ _ _ _ _ x.placed x.exact
        (arguments_read variables context rest others have tests (omega (arith, count)) are depth
        kinds members elements assignment at read
        (λ test i stands. within test i (or_right _ _ (or_right _ _ stands))))
