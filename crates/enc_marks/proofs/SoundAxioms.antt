-- What a translation states are formulas over all marked symbols, under no binders, and with few.
use Rattle.std.specs.Prelude.{ℕ, zero, suc, ◌+◌, ◌-◌, ◌^◌, ◌<◌, ◌≤◌, ◌≡◌, Bool, true, false, List, [], ◌∷◌, map, length, cond, leb, sum, is_none, slice_get, Some}
use Rattle.std.specs.List.{AllByRecursion, list_all, range_with_len}
use Rattle.std.proofs.Common.{refl, sym, ap, ◌∙◌, subst, arith}
use Rattle.std.proofs.lemmas.Bool.{and_from, le-leb, lt-ltb}
use Rattle.std.proofs.lemmas.List.{length-map}
use Rattle.std.proofs.lemmas.List.FromFn.{length-range_with_len}
use Rattle.std.proofs.lemmas.List.Sums.{sum_by-cons}
use Rattle.tf_core.specs.declared.ty.Ty.{Ty}
use Rattle.tf_core.specs.declared.ty.Ty.TheVariants as type
use Rattle.tf_core.specs.declared.signature.Symbol.{Symbol}
use Rattle.tf_core.specs.declared.normal.NormalFormula.{NormalFormula}
use Rattle.tf_core.specs.declared.normal.Normal.{Normal}
use Rattle.tf_core.specs.Sorts.{binder_types, sorts}
use Rattle.tf_core.specs.Typing.{type_variable, IsResult, IsSymbol, IsSignature, IsNnf}
use Rattle.tf_core.specs.Counts.{normal_has_pairs, normal_sum}
use Rattle.tf_core.specs.Sound.{IsBounded, IsSoundBelow}
use Rattle.tf_core.specs.Sound as source
use Rattle.fof_models.specs.declared.formula.FofTerm.TheVariants as term
use Rattle.fof_models.specs.declared.formula.Fof.{Fof}
use Rattle.fof_models.specs.declared.formula.Fof.TheVariants as fof
use Rattle.fof_models.specs.declared.problem.FofSymbol.{FofSymbol}
use Rattle.fof_models.specs.declared.problem.FofFormula.{FofFormula}
use Rattle.fof_models.specs.Sound.{IsSoundFormula, is_term, is_formula, has_pairs, binder_count}
use Rattle.fof_models.proofs.Sound.{is_term-variable, is_term-apply, is_formula-and, is_formula-for_all, is_formula-exists, has_pairs-and, has_pairs-for_all, has_pairs-exists, binder_count-and, binder_count-for_all, binder_count-exists}
use Rattle.tf_naked.specs.Covers.{covers}
use Rattle.tf_naked.specs.SortLaws.{AreSorts}
use Rattle.tf_naked.proofs.HeldTypes.{sorts_listed, argument_sorts, result_sort, binder_sorts}
use Rattle.enc_marks.specs.declared.choices.Marking.TheVariants.{ByType, BySort}
use Rattle.enc_marks.specs.declared.choices.Binding.{Binding}
use Rattle.enc_marks.specs.declared.choices.Binding.TheVariants.{ByGuard, ByTag}
use Rattle.enc_marks.specs.Choices.{Choices}
use Rattle.enc_marks.specs.Translation.{Bare, tag, bind, formula}
use Rattle.enc_marks.specs.Axioms.{closed, under, own_types, own_variables, premises, own_application, typing_axiom, last_axiom}
use Rattle.enc_marks.specs.Names.{typing_name, last_name, sort_last_name}
use Rattle.enc_marks.specs.Encoded.{stated, axiom_named, translation}
use Rattle.enc_marks.specs.Laws.{Fit}
use Rattle.enc_marks.proofs.Guarded.{length-own_variables}
use Rattle.enc_marks.proofs.StatedFormulas.{all-both, translation-all}
use Rattle.enc_marks.proofs.OwnMarks.{MarkedBy, HasMark, HaveMarks, type_marked, types_marked}
use Rattle.enc_marks.proofs.SoundTypes.{AreTypes-own, all_at}
use Rattle.enc_marks.proofs.SoundTerms.{numbers, marked, tag-sound, applied-sound}
use Rattle.enc_marks.proofs.SoundFormulas.{IsMade, implies-made, bind-made, formula-made}

-- ---- binders, premises

for_all-alone : (signature : List FofSymbol) (body : Fof) (depth : ℕ) (pairs : Bool) (binders : ℕ) →
    IsMade signature body (depth + 1) pairs binders →
    IsMade signature (fof.ForAll body) depth pairs (binders + 1)
for_all-alone signature body depth pairs binders made = record {
  formed = is_formula-for_all signature body depth ∙ made.formed;
  has_them = has_pairs-for_all body ∙ made.has_them;
  count = binder_count-for_all body ∙ ap (λ n. n + 1) made.count;
}

exists-alone : (signature : List FofSymbol) (body : Fof) (depth : ℕ) (pairs : Bool) (binders : ℕ) →
    IsMade signature body (depth + 1) pairs binders →
    IsMade signature (fof.Exists body) depth pairs (binders + 1)
exists-alone signature body depth pairs binders made = record {
  formed = is_formula-exists signature body depth ∙ made.formed;
  has_them = has_pairs-exists body ∙ made.has_them;
  count = binder_count-exists body ∙ ap (λ n. n + 1) made.count;
}

pub closed-made : (signature : List FofSymbol) (count : ℕ) (p : Fof) (depth whole : ℕ)
    (pairs : Bool) (binders : ℕ) → depth + count ≡ whole → IsMade signature p whole pairs binders →
    IsMade signature (closed count p) depth pairs (binders + count)
closed-made signature zero p depth whole pairs binders deep made =
    let here : whole ≡ depth = omega (arith, deep) in
    let none : binders ≡ binders + 0 = omega arith in
    subst (λ n. IsMade signature p depth pairs n) none
    (subst (λ d. IsMade signature p d pairs binders) here made)
closed-made signature (suc count) p depth whole pairs binders deep made =
    let one_more : binders + count + 1 ≡ binders + suc count = omega arith in
    subst (λ n. IsMade signature (fof.ForAll (closed count p)) depth pairs n) one_more
    (for_all-alone signature (closed count p) depth pairs (binders + count)
    (closed-made signature count p (depth + 1) whole pairs binders (omega (arith, deep)) made))

-- a list of formulas with pairs and without binders
record AreMade (signature : List FofSymbol) (parts : List Fof) (depth : ℕ) : Type 0 where
  formed : list_all (λ part. is_formula signature part depth) parts ≡ true
  has_them : list_all has_pairs parts ≡ true
  count : sum (map binder_count parts) ≡ 0

parts-made : (signature : List FofSymbol) (parts : List Fof) (depth : ℕ) →
    AllByRecursion (λ q. IsMade signature q depth true 0) parts → AreMade signature parts depth
parts-made signature [] depth made = record { formed = refl; has_them = refl; count = refl }
parts-made signature (q ∷ parts) depth made =
    let rest = parts-made signature parts depth made.1 in
    record {
      formed = and_from (is_formula signature q depth)
          (list_all (λ part. is_formula signature part depth) parts) made.0.formed rest.formed;
      has_them = and_from (has_pairs q) (list_all has_pairs parts) made.0.has_them rest.has_them;
      count = omega (
        arith,
        sum_by-cons (λ (n : ℕ). n) (binder_count q) (map binder_count parts),
        made.0.count,
        rest.count,
      );
    }

under-made : (signature : List FofSymbol) (list : List Fof) (conclusion : Fof) (depth : ℕ) →
    AllByRecursion (λ q. IsMade signature q depth true 0) list →
    IsMade signature conclusion depth true 0 →
    IsMade signature (under list conclusion) depth true 0
under-made signature [] conclusion depth list made = made
under-made signature (premise ∷ []) conclusion depth list made =
    implies-made signature depth true 0 premise conclusion list.0 made
under-made signature (premise ∷ second ∷ others) conclusion depth list made =
    let parts = premise ∷ second ∷ others in
    let all = parts-made signature parts depth list in
    implies-made signature depth true 0 (fof.And parts) conclusion
    (record {
      formed = is_formula-and signature parts depth ∙ all.formed;
      has_them = has_pairs-and parts
          ∙ and_from (leb 2 (length parts)) (list_all has_pairs parts)
          (le-leb 2 (length parts) (omega arith)) all.has_them;
      count = binder_count-and parts ∙ all.count;
    })
    made

module _ (c : Choices) (normal : Normal) (fit : Fit c normal)
    (typed : IsSignature normal.signature) where
  abbrev over : List FofSymbol
  over = marked c normal fit typed

  variable-sound : (i depth : ℕ) → i < depth → is_term over (term.Var i) depth ≡ true
  variable-sound i depth within = is_term-variable over i depth ∙ lt-ltb i depth within

  -- ---- typing axioms

  own_variables-sound : (count depth : ℕ) → count ≤ depth →
      AllByRecursion (λ (t : Bare). is_term over t.term depth ≡ true) (own_variables count)
  own_variables-sound zero depth within = tt
  own_variables-sound (suc count) depth within = (
    variable-sound count depth (omega (arith, within)),
    own_variables-sound count depth (omega (arith, within)),
  )

  premises-made : (variables depth : ℕ) → variables ≤ depth → (tests : List Bool)
      (types : List Ty) (count : ℕ) → HaveMarks c normal variables types →
      length types ≤ count → count ≤ depth →
      AllByRecursion (λ q. IsMade over q depth true 0)
      (premises c (numbers c normal fit typed) normal.signature depth tests types count)
  premises-made variables depth fits [] types count have few within = tt
  premises-made variables depth fits (test ∷ tests) [] count have few within = tt
  premises-made variables depth fits (test ∷ tests) (ty ∷ others) count have few within =
      let k = numbers c normal fit typed in
      by (c.premise test ty)
      (bind c k normal.signature depth ty (term.Var (count - 1)))
      (premises c k normal.signature depth tests others (count - 1))
      (bind-made c normal fit typed variables depth fits ty (term.Var (count - 1)) have.0
      (variable-sound (count - 1) depth (omega (arith, few, within))))
      (premises-made variables depth fits tests others (count - 1) have.1 (omega (arith, few))
      (omega (arith, within)))
    where
      by : (b : Bool) (q : Fof) (list : List Fof) → IsMade over q depth true 0 →
          AllByRecursion (λ q. IsMade over q depth true 0) list →
          AllByRecursion (λ q. IsMade over q depth true 0) (cond b (q ∷ list) list)
      by true q list made are = (made, are)
      by false q list made are = are

  -- a symbol's types have guards or tags
  arguments-marked : (f : ℕ) (symbol : Symbol) →
      slice_get normal.signature.symbols f ≡ Some symbol →
      HaveMarks c normal symbol.parameters symbol.arguments
  arguments-marked f symbol at =
      let is = all_at (IsSymbol normal.signature) normal.signature.symbols f symbol typed at in
      types_marked c.marking normal symbol.parameters symbol.arguments is.arguments
      (λ by_sort. argument_sorts normal f symbol at)

  result-marked : (f : ℕ) (symbol : Symbol) (result : Ty) →
      slice_get normal.signature.symbols f ≡ Some symbol → symbol.result ≡ Some result →
      HasMark c normal symbol.parameters result
  result-marked f symbol result at gives =
      let is = all_at (IsSymbol normal.signature) normal.signature.symbols f symbol typed at in
      type_marked c.marking normal symbol.parameters result
      (subst (IsResult normal.signature symbol.parameters) gives is.result)
      (λ by_sort. result_sort normal f symbol result at gives)

  own_application-sound : (f : ℕ) (symbol : Symbol) (result : Ty) (depth : ℕ) →
      slice_get normal.signature.symbols f ≡ Some symbol → symbol.result ≡ Some result →
      symbol.parameters + length symbol.arguments ≡ depth →
      is_term over (own_application c (numbers c normal fit typed) normal.signature depth f symbol)
      depth ≡ true
  own_application-sound f symbol result depth at gives deep =
      is_term-apply over f _ depth
      ∙ applied-sound c normal fit typed symbol.parameters depth (omega (arith, deep)) f symbol
      false (own_types symbol) symbol.arguments (own_variables (length symbol.arguments)) at
      (ap is_none gives)
      (AreTypes-own normal.signature symbol.parameters 0 symbol.parameters (omega arith))
      (length-map (range_with_len 0 symbol.parameters) type.Var
      ∙ length-range_with_len 0 symbol.parameters)
      (arguments-marked f symbol at) refl (length-own_variables (length symbol.arguments))
      (own_variables-sound (length symbol.arguments) depth (omega (arith, deep)))

  typing_axiom-made : (f : ℕ) (symbol : Symbol) (result : Ty) →
      slice_get normal.signature.symbols f ≡ Some symbol → symbol.result ≡ Some result →
      IsMade over
      (typing_axiom c (numbers c normal fit typed) normal.signature f symbol result) 0 true
      (length symbol.arguments + symbol.parameters)
  typing_axiom-made f symbol result at gives =
      let k = numbers c normal fit typed in
      let count = length symbol.arguments in
      let depth = symbol.parameters + count in
      let body = under (premises c k normal.signature depth (covers symbol) symbol.arguments count)
      (bind c k normal.signature depth result (own_application c k normal.signature depth f symbol))
      in
      let none_more : 0 + count ≡ count = omega arith in
      closed-made over symbol.parameters (closed count body) 0 symbol.parameters true count
      (omega arith)
      (subst (λ n. IsMade over (closed count body) symbol.parameters true n) none_more
      (closed-made over count body symbol.parameters depth true 0 refl
      (under-made over
      (premises c k normal.signature depth (covers symbol) symbol.arguments count)
      (bind c k normal.signature depth result (own_application c k normal.signature depth f symbol))
      depth
      (premises-made symbol.parameters depth (omega arith) (covers symbol) symbol.arguments count
      (arguments-marked f symbol at) (omega arith) (omega arith))
      (bind-made c normal fit typed symbol.parameters depth (omega arith) result
      (own_application c k normal.signature depth f symbol)
      (result-marked f symbol result at gives)
      (own_application-sound f symbol result depth at gives refl)))))

  -- ---- the last axioms

  last_axiom-made : (binding : Binding) → c.binding ≡ binding → (variables : ℕ) (ty : Ty) →
      HasMark c normal variables ty →
      IsMade over (last_axiom c (numbers c normal fit typed) normal.signature binding variables ty)
      variables true 1
  last_axiom-made ByGuard is variables ty has =
      let k = numbers c normal fit typed in
      let inner = bind c k normal.signature (variables + 1) ty (term.Var 0) in
      exists-alone over inner variables true 0
      (bind-made c normal fit typed variables (variables + 1) (omega arith) ty (term.Var 0) has
      (variable-sound 0 (variables + 1) (omega arith)))
  last_axiom-made ByTag is variables ty has =
      let k = numbers c normal fit typed in
      let tagged = tag c k normal.signature (variables + 1) ty (term.Var 0) in
      let inner = bind c k normal.signature (variables + 1) ty tagged in
      for_all-alone over inner variables true 0
      (bind-made c normal fit typed variables (variables + 1) (omega arith) ty tagged has
      (tag-sound c normal fit typed variables (variables + 1) (omega arith) is ty (term.Var 0) has
      (variable-sound 0 (variables + 1) (omega arith))))

  -- that of all types
  type_axiom-made : c.marking ≡ ByType →
      IsMade over (fof.ForAll (last_axiom c (numbers c normal fit typed) normal.signature
      c.binding 1 (type.Var 0))) 0 true 2
  type_axiom-made by_type =
      for_all-alone over (last_axiom c (numbers c normal fit typed) normal.signature c.binding 1
      (type.Var 0)) 0 true 1
      (last_axiom-made c.binding refl 1 (type.Var 0)
      (subst (λ marking. MarkedBy marking normal 1 (type.Var 0)) (sym by_type)
      (type_variable 0 (omega arith))))

  -- those of sorts
  sort_axioms-made : c.marking ≡ BySort →
      AllByRecursion (λ ty. IsMade over
      (last_axiom c (numbers c normal fit typed) normal.signature c.binding 0 ty) 0 true 1)
      (sorts normal)
  sort_axioms-made by_sort = each (sorts normal) (sorts_listed normal)
    where
      each : (types : List Ty) → AreSorts normal types →
          AllByRecursion (λ ty. IsMade over
          (last_axiom c (numbers c normal fit typed) normal.signature c.binding 0 ty) 0 true 1)
          types
      each [] sorted = tt
      each (ty ∷ types) sorted = (
        last_axiom-made c.binding refl 0 ty
            (subst (λ marking. MarkedBy marking normal 0 ty) (sym by_sort) sorted.0),
        each types sorted.1,
      )

  -- ---- all that is stated

  stated-made : (p : NormalFormula) → IsNnf normal.signature p.type_variables [] p.body →
      AreSorts normal (binder_types p.body) →
      IsMade over (stated c normal p).body 0 (normal_has_pairs p.body)
      (normal_sum 1 0 p.body + p.type_variables)
  stated-made p formed sorted =
      let k = numbers c normal fit typed in
      closed-made over p.type_variables
      (formula c k normal.signature p.body p.type_variables []) 0 p.type_variables
      (normal_has_pairs p.body) (normal_sum 1 0 p.body) (omega arith)
      (formula-made c normal fit typed p.type_variables [] [] p.type_variables (omega arith) tt
      p.body formed (λ by_sort. sorted))

  abbrev IsFormed : FofFormula → Type 0
  IsFormed formula = is_formula over formula.body 0 ≡ true

  -- the translation over all numbers is well formed
  pub translation-formed :
      AllByRecursion (λ (p : NormalFormula). IsNnf normal.signature p.type_variables [] p.body)
      normal.formulas → AllByRecursion IsFormed (translation c normal)
  translation-formed formed =
      translation-all c normal IsFormed
      (all-both (λ (p : NormalFormula). IsNnf normal.signature p.type_variables [] p.body)
      (λ (p : NormalFormula). AreSorts normal (binder_types p.body))
      (λ (p : NormalFormula). IsFormed (stated c normal p)) normal.formulas
      (λ p is sorted. (stated-made p is sorted).formed) formed (binder_sorts normal))
      (λ f symbol result at gives. (typing_axiom-made f symbol result at gives).formed)
      (λ by_type. (type_axiom-made by_type).formed)
      (λ by_sort. each (sorts normal) (sort_axioms-made by_sort))
    where
      each : (types : List Ty) →
          AllByRecursion (λ ty. IsMade over
          (last_axiom c (numbers c normal fit typed) normal.signature c.binding 0 ty) 0 true 1)
          types →
          AllByRecursion (λ ty. is_formula over
          (last_axiom c (numbers c normal fit typed) normal.signature c.binding 0 ty) 0 ≡ true)
          types
      each [] made = tt
      each (ty ∷ types) made = (made.0.formed, each types made.1)

  IsSoundFormula-made : (formula : FofFormula) (pairs : Bool) (binders : ℕ) → pairs ≡ true →
      binders < 2 ^ 30 → IsMade over formula.body 0 pairs binders → IsSoundFormula over formula
  IsSoundFormula-made formula pairs binders has few made = record {
    typed = made.formed;
    pairs = made.has_them ∙ has;
    binders = omega (arith, few, made.count);
  }

  -- and with pairs, and few binders
  pub translation-sound : IsSoundBelow (2 ^ 28) normal.signature →
      AllByRecursion (source.IsSoundFormula normal.signature) normal.formulas →
      AllByRecursion (IsSoundFormula over) (translation c normal)
  translation-sound bounded sound =
      let k = numbers c normal fit typed in
      translation-all c normal (IsSoundFormula over)
      (all-both (source.IsSoundFormula normal.signature)
      (λ (p : NormalFormula). AreSorts normal (binder_types p.body))
      (λ (p : NormalFormula). IsSoundFormula over (stated c normal p)) normal.formulas
      (λ p is sorted. IsSoundFormula-made (stated c normal p) (normal_has_pairs p.body)
      (normal_sum 1 0 p.body + p.type_variables) is.pairs
      (omega (arith, is.binders, is.type_variables)) (stated-made p is.typed sorted))
      sound (binder_sorts normal))
      (λ f symbol result at gives.
      let few = all_at (IsBounded (2 ^ 28)) normal.signature.symbols f symbol bounded.symbols at in
      IsSoundFormula-made (axiom_named (typing_name symbol.name)
      (typing_axiom c k normal.signature f symbol result)) true
      (length symbol.arguments + symbol.parameters) refl
      (omega (arith, few.parameters, few.arguments)) (typing_axiom-made f symbol result at gives))
      (λ by_type. IsSoundFormula-made (axiom_named (last_name c.binding)
      (fof.ForAll (last_axiom c k normal.signature c.binding 1 (type.Var 0)))) true 2 refl
      (omega arith) (type_axiom-made by_type))
      (λ by_sort. each (sorts normal) (sort_axioms-made by_sort))
    where
      each : (types : List Ty) →
          AllByRecursion (λ ty. IsMade over
          (last_axiom c (numbers c normal fit typed) normal.signature c.binding 0 ty) 0 true 1)
          types →
          AllByRecursion (λ ty. IsSoundFormula over
          (axiom_named (sort_last_name normal c.binding ty)
          (last_axiom c (numbers c normal fit typed) normal.signature c.binding 0 ty))) types
      each [] made = tt
      each (ty ∷ types) made = (
        IsSoundFormula-made (axiom_named (sort_last_name normal c.binding ty)
            (last_axiom c (numbers c normal fit typed) normal.signature c.binding 0 ty)) true 1 refl
            (omega arith) made.0,
        each types made.1,
      )
