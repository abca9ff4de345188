-- An untyped model of the translation gives a typed model of the normal formulas.
use Rattle.std.specs.Prelude.{ℕ, zero, suc, List, [], ◌∷◌, map, replicate, IsTrue}
use Rattle.std.specs.List.{AllByRecursion}
use Rattle.enc_base.specs.Tables.{EachBelow}
use Rattle.enc_base.proofs.Tables.{EachBelow-length}
use Rattle.tf_core.specs.declared.nnf.Nnf.{Nnf}
use Rattle.tf_core.specs.declared.signature.Signature.{Signature}
use Rattle.tf_core.specs.declared.normal.NormalFormula.{NormalFormula}
use Rattle.tf_core.specs.declared.normal.Normal.{Normal}
use Rattle.tf_core.specs.Typing.{IsNnf, IsSignature}
use Rattle.tf_core.specs.Structures.{Typed, member_count}
use Rattle.tf_core.specs.Models.{IsNormalSatisfied}
use Rattle.fof_models.specs.Structures.{Untyped}
use Rattle.fof_models.specs.Truth.{truth}
use Rattle.fof_models.specs.Models.{IsSatisfied, AreSatisfied}
use Rattle.enc_marks.specs.Choices.{Choices}
use Rattle.enc_marks.specs.Translation.{Numbers, formula}
use Rattle.enc_marks.specs.Axioms.{closed_formula}
use Rattle.enc_marks.specs.Encoded.{all_numbers, stated, typing_axioms, translation}
use Rattle.enc_laws.specs.Relations.{Relations, AreRelated, none_related, more_related}
use Rattle.enc_laws.specs.Corresponds.{Corresponds}
use Rattle.enc_laws.specs.Directions.{Backward, NumbersAreRead}
use Rattle.enc_laws.proofs.TrueBack.{true_back}
use Rattle.enc_laws.proofs.Closed.{bound, closed_at, TypesAre-outermost, all-before, all-behind}

module _ (c : Choices) (k : Numbers) (g : Signature) (s : Typed) (j : Untyped) (r : Relations)
    (sound : IsSignature g) (both : Corresponds c k g s j r) (ok : Nnf → Type 0)
    (by : Backward c k g s j r ok) (number_of : NumbersAreRead c k g s j r) where
  numbers_for : (count : ℕ) (members : List ℕ) →
      EachBelow (replicate count (member_count s)) members →
      (us : List ℕ) × EachBelow (replicate count j.size) us × AreRelated r.member us members
  numbers_for zero [] within = ([], tt, none_related)
  numbers_for zero (m ∷ members) within = absurd within
  numbers_for (suc count) [] within = absurd within
  numbers_for (suc count) (m ∷ members) within =
      let x = number_of m within.0 in
      let y = numbers_for count members within.1 in
      (x.0 ∷ y.0, (x.1, y.1), more_related x.0 m y.0 members x.2 y.2)

  pub closed_back : (normal : NormalFormula) → IsNnf g normal.type_variables [] normal.body →
      ok normal.body → IsTrue (truth j (closed_formula c k g normal) []) →
      IsNormalSatisfied s normal
  closed_back normal formed holds is_true members within =
      let found = numbers_for normal.type_variables members within in
      true_back c k g s j r sound both ok by normal.type_variables [] normal.body formed
      normal.type_variables [] members [] (bound found.0 []) holds
      (record {
        types = TypesAre-outermost r normal.type_variables found.0 members
            (EachBelow-length normal.type_variables j.size found.0 found.1) found.2;
        terms = λ i ty e. cc;
        goods = λ i ty e. cc;
        exacts = λ i ty e. cc;
      })
      (closed_at j normal.type_variables (formula c k g normal.body normal.type_variables []) []
      found.0 is_true found.1)

-- the problem's own numbers
module _ (c : Choices) (normal : Normal) (s : Typed) (j : Untyped) (r : Relations)
    (sound : IsSignature normal.signature)
    (both : Corresponds c (all_numbers normal) normal.signature s j r) (ok : Nnf → Type 0)
    (by : Backward c (all_numbers normal) normal.signature s j r ok)
    (number_of : NumbersAreRead c (all_numbers normal) normal.signature s j r) where
  stated_back : (formulas : List NormalFormula) →
      AllByRecursion (λ p. IsNnf normal.signature p.type_variables [] p.body) formulas →
      AllByRecursion (λ p. ok p.body) formulas → AreSatisfied j (map (stated c normal) formulas) →
      AllByRecursion (IsNormalSatisfied s) formulas
  stated_back [] formed holds satisfied = tt
  stated_back (p ∷ formulas) formed holds satisfied = (
    closed_back c (all_numbers normal) normal.signature s j r sound both ok by number_of p formed.0
        holds.0 satisfied.0,
    stated_back formulas formed.1 holds.1 satisfied.1,
  )

  pub translation_back :
      AllByRecursion (λ p. IsNnf normal.signature p.type_variables [] p.body) normal.formulas →
      AllByRecursion (λ p. ok p.body) normal.formulas → AreSatisfied j (translation c normal) →
      AllByRecursion (IsNormalSatisfied s) normal.formulas
  unfolding translation
  translation_back formed holds satisfied =
      stated_back normal.formulas formed holds
      (all-before (IsSatisfied j) (map (stated c normal) normal.formulas) _ satisfied)

-- the typing axioms of a translation
pub typing_axioms_of : (c : Choices) (normal : Normal) (j : Untyped) →
    AreSatisfied j (translation c normal) →
    AreSatisfied j (typing_axioms c normal 0 normal.signature.symbols)
unfolding translation
typing_axioms_of c normal j satisfied =
    all-before (IsSatisfied j) (typing_axioms c normal 0 normal.signature.symbols) _
    (all-behind (IsSatisfied j) (map (stated c normal) normal.formulas) _ satisfied)
