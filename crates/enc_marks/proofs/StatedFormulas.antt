-- What holds of each formula that a translation states: of the closed formulas, of the typing
-- axioms and of the last ones.
use Rattle.std.specs.Prelude.{ℕ, suc, ◌+◌, ◌≡◌, Bool, true, false, List, [], ◌∷◌, ◌++◌, map, cond, slice_get, Option, Some, None}
use Rattle.std.specs.List.{AllByRecursion}
use Rattle.std.proofs.Common.{refl, sym, ap, ◌∙◌, arith}
use Rattle.tf_core.specs.declared.ty.Ty.{Ty}
use Rattle.tf_core.specs.declared.ty.Ty.TheVariants as type
use Rattle.tf_core.specs.declared.signature.Symbol.{Symbol}
use Rattle.tf_core.specs.declared.normal.NormalFormula.{NormalFormula}
use Rattle.tf_core.specs.declared.normal.Normal.{Normal}
use Rattle.tf_core.specs.Sorts.{sorts}
use Rattle.fof_models.specs.declared.formula.Fof.TheVariants.{ForAll}
use Rattle.fof_models.specs.declared.problem.FofFormula.{FofFormula}
use Rattle.enc_marks.specs.declared.choices.Marking.{Marking}
use Rattle.enc_marks.specs.declared.choices.Marking.TheVariants.{ByType, BySort}
use Rattle.enc_marks.specs.Choices.{Choices}
use Rattle.enc_marks.specs.Names.{typing_name, last_name, sort_last_name}
use Rattle.enc_marks.specs.Axioms.{typing_axiom, last_axiom}
use Rattle.enc_marks.specs.Encoded.{all_numbers, axiom_named, stated, typing_of, typing_axioms, sort_axioms, last_axioms, translation}

pub all-append : {A : Type 0} (P : A → Type 0) (items others : List A) → AllByRecursion P items →
    AllByRecursion P others → AllByRecursion P (items ++ others)
all-append P [] others first second = second
all-append P (item ∷ items) others first second =
    (first.0, all-append P items others first.1 second)

all-map : {A B : Type 0} (P : B → Type 0) (f : A → B) (items : List A) →
    AllByRecursion (λ item. P (f item)) items → AllByRecursion P (map f items)
all-map P f [] all = tt
all-map P f (item ∷ items) all = (all.0, all-map P f items all.1)

-- what follows of each item from two facts
pub all-both : {A : Type 0} (P Q R : A → Type 0) (items : List A) →
    ((item : A) → P item → Q item → R item) → AllByRecursion P items → AllByRecursion Q items →
    AllByRecursion R items
all-both P Q R [] both first second = tt
all-both P Q R (item ∷ items) both first second =
    (both item first.0 second.0, all-both P Q R items both first.1 second.1)

module _ (c : Choices) (normal : Normal) (P : FofFormula → Type 0) where
  abbrev typing : ℕ → Symbol → Ty → FofFormula
  typing f symbol result =
      axiom_named (typing_name symbol.name)
      (typing_axiom c (all_numbers normal) normal.signature f symbol result)

  abbrev type_last : FofFormula
  type_last =
      axiom_named (last_name c.binding)
      (ForAll (last_axiom c (all_numbers normal) normal.signature c.binding 1 (type.Var 0)))

  abbrev sort_last : Ty → FofFormula
  sort_last ty =
      axiom_named (sort_last_name normal c.binding ty)
      (last_axiom c (all_numbers normal) normal.signature c.binding 0 ty)

  chosen : (b : Bool) (formula : FofFormula) (formulas : List FofFormula) → P formula →
      AllByRecursion P formulas → AllByRecursion P (cond b (formula ∷ formulas) formulas)
  chosen true formula formulas here rest = (here, rest)
  chosen false formula formulas here rest = rest

  -- the property of the typing axiom of each function
  abbrev OfTyping : Type 0
  OfTyping = (f : ℕ) (symbol : Symbol) (result : Ty) →
      slice_get normal.signature.symbols f ≡ Some symbol → symbol.result ≡ Some result →
      P (typing f symbol result)

  typing_of-all : OfTyping → (f : ℕ) (symbol : Symbol) →
      slice_get normal.signature.symbols f ≡ Some symbol → (result : Option Ty) →
      symbol.result ≡ result → AllByRecursion P (typing_of c normal f symbol result)
  typing_of-all each f symbol at None gives = tt
  typing_of-all each f symbol at (Some result) gives =
      chosen (c.typing result) (typing f symbol result) [] (each f symbol result at gives) tt

  typing_axioms-all : OfTyping → (f : ℕ) (symbols : List Symbol) →
      ((i : ℕ) (symbol : Symbol) → slice_get symbols i ≡ Some symbol →
      slice_get normal.signature.symbols (f + i) ≡ Some symbol) →
      AllByRecursion P (typing_axioms c normal f symbols)
  typing_axioms-all each f [] are = tt
  typing_axioms-all each f (symbol ∷ symbols) are =
      let here : f + 0 ≡ f = omega arith in
      all-append P (typing_of c normal f symbol symbol.result)
      (typing_axioms c normal (f + 1) symbols)
      (typing_of-all each f symbol
      (ap (slice_get normal.signature.symbols) (sym here) ∙ are 0 symbol refl)
      symbol.result refl)
      (typing_axioms-all each (f + 1) symbols (λ i other at.
      let next : (f + 1) + i ≡ f + suc i = omega arith in
      ap (slice_get normal.signature.symbols) next ∙ are (suc i) other at))

  sort_axioms-all : (types : List Ty) → AllByRecursion (λ ty. P (sort_last ty)) types →
      AllByRecursion P (sort_axioms c normal types)
  sort_axioms-all [] each = tt
  sort_axioms-all (ty ∷ types) each =
      chosen (c.last ty) (sort_last ty) (sort_axioms c normal types) each.0
      (sort_axioms-all types each.1)

  last_axioms-all : (marking : Marking) → (marking ≡ ByType → P type_last) →
      (marking ≡ BySort → AllByRecursion (λ ty. P (sort_last ty)) (sorts normal)) →
      AllByRecursion P (last_axioms c normal marking)
  last_axioms-all ByType of_types of_sorts =
      chosen (c.last (type.Var 0)) type_last [] (of_types refl) tt
  last_axioms-all BySort of_types of_sorts = sort_axioms-all (sorts normal) (of_sorts refl)

  -- a property of all that is stated
  pub translation-all : AllByRecursion (λ (formula : NormalFormula). P (stated c normal formula))
      normal.formulas → OfTyping → (c.marking ≡ ByType → P type_last) →
      (c.marking ≡ BySort → AllByRecursion (λ ty. P (sort_last ty)) (sorts normal)) →
      AllByRecursion P (translation c normal)
  unfolding translation
  translation-all of_formulas of_typing of_types of_sorts =
      let symbols = normal.signature.symbols in
      all-append P (map (stated c normal) normal.formulas)
      (typing_axioms c normal 0 symbols ++ last_axioms c normal c.marking)
      (all-map P (stated c normal) normal.formulas of_formulas)
      (all-append P (typing_axioms c normal 0 symbols) (last_axioms c normal c.marking)
      (typing_axioms-all of_typing 0 symbols (λ i symbol at.
      let same : 0 + i ≡ i = omega arith in
      ap (slice_get symbols) same ∙ at))
      (last_axioms-all c.marking of_types of_sorts))
