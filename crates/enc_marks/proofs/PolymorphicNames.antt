-- A problem has no name for which it is refused exactly where it has no type variables.
use Rattle.std.specs.Prelude.{◌≡◌, ◌↔◌, Bool, true, false, not, ◌&&◌, List, [], ◌∷◌, map, cond, eqb, filter, slice_get, Option, Some, None, IsTrue}
use Rattle.std.specs.List.{list_all}
use Rattle.std.proofs.Common.{refl, ap, ◌∙◌}
use Rattle.std.proofs.lemmas.Bool.{and_parts, false≢true}
use Rattle.tf_core.specs.declared.signature.Symbol.{Symbol}
use Rattle.tf_core.specs.declared.normal.NormalFormula.{NormalFormula}
use Rattle.enc_marks.specs.Applies.{or_else}
use Rattle.enc_marks.specs.AppliesLaws.{NamesTellPolymorphic}

-- ---- the first item that fails a test

module _ {A B : Type 0} (test : A → Bool) (name : A → B) where
  abbrev first_failing : List A → Option B
  first_failing items = slice_get (map name (filter (λ item. not (test item)) items)) 0

  step : (item : A) (items : List A) (passes : Bool) →
      (first_failing items ≡ None ↔ IsTrue (list_all test items)) →
      (slice_get (map name (cond (not passes)
      (item ∷ filter (λ other. not (test other)) items)
      (filter (λ other. not (test other)) items))) 0 ≡ None
      ↔ IsTrue (passes && list_all test items))
  step item items true rest = rest
  step item items false rest = (λ none. cc, λ never. absurd (false≢true never))

  none_failing : (items : List A) → (first_failing items ≡ None ↔ IsTrue (list_all test items))
  none_failing [] = (λ none. refl, λ all. refl)
  none_failing (item ∷ items) = step item items (test item) (none_failing items)

-- ---- one of two

neither : {A : Type 0} (first second : Option A) → or_else first second ≡ None →
    (first ≡ None) × (second ≡ None)
neither None second none = (refl, none)
neither (Some item) second none = cc

pub names_tell : NamesTellPolymorphic
names_tell normal =
    let symbols = none_failing (λ (symbol : Symbol). eqb symbol.parameters 0)
    (λ (symbol : Symbol). symbol.name) normal.signature.symbols in
    let formulas = none_failing (λ (formula : NormalFormula). eqb formula.type_variables 0)
    (λ (formula : NormalFormula). formula.name) normal.formulas in
    let formulas_pass = list_all (λ (formula : NormalFormula). eqb formula.type_variables 0)
    normal.formulas in (
      λ none.
          let both = neither
          (first_failing (λ (symbol : Symbol). eqb symbol.parameters 0)
          (λ (symbol : Symbol). symbol.name) normal.signature.symbols)
          (first_failing (λ (formula : NormalFormula). eqb formula.type_variables 0)
          (λ (formula : NormalFormula). formula.name) normal.formulas) none in
          ap (λ b. b && formulas_pass) (symbols.0 both.0) ∙ formulas.0 both.1,
      λ monomorphic.
          let both = and_parts
          (list_all (λ (symbol : Symbol). eqb symbol.parameters 0) normal.signature.symbols)
          formulas_pass monomorphic in
          ap (λ first. or_else first
          (first_failing (λ (formula : NormalFormula). eqb formula.type_variables 0)
          (λ (formula : NormalFormula). formula.name) normal.formulas)) (symbols.1 both.0)
          ∙ formulas.1 both.1,
    )
