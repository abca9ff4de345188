-- How the tables that are made are an extension, and what is made of a model of the normal problem.
use Rattle.std.proofs.Common.{ℕ, ◌≤◌, ◌≡◌, false, List, [], ◌∷◌, ◌++◌, map, length, replicate, sym, ap, subst, ◌∙◌, arith, ⊎_elim}
use Rattle.std.specs.Prelude.{Some}
use Rattle.std.specs.List.{AllByRecursion}
use Rattle.std.proofs.lemmas.List.{append-nil}
use Rattle.enc_base.specs.Tables.{EachBelow}
use Rattle.tf_core.specs.declared.problem.Stated.{Stated}
use Rattle.tf_core.specs.declared.problem.Problem.{Problem}
use Rattle.tf_core.specs.declared.normal.Normal.{Normal}
use Rattle.tf_core.specs.TypedTables.{TypedTables, reading, AreModel, AreNormalModel}
use Rattle.tf_core.specs.Counts.{greatest}
use Rattle.tf_core.specs.Sound.{IsSound}
use Rattle.tf_core.specs.Truth.{truth}
use Rattle.tf_models.specs.declared.structure.TypedStructure.{TypedStructure}
use Rattle.tf_models.specs.Reading.{tables}
use Rattle.tf_nnf.specs.NormalForm.{conjecture_of, fresh_count, normal_of}
use Rattle.tf_nnf.specs.Extension.{is_false_at, AreFirstFalse, with_members, IsExtension, without_fresh}
use Rattle.tf_nnf.specs.Laws.{GivesModel}
use Rattle.tf_nnf.proofs.Fresh.{role_cases, conjecture_of-hypothesis, conjecture_of-conjecture}
use Rattle.tf_nnf.proofs.Models.{members_within, nothing_below, true-not-false, conjecture_fails, model_has_one_extension, extension_is_model, reduct_is_model}

-- tables with a member more for each of no type variables are the same tables

with_no_members : (t : TypedTables) → with_members [] t ≡ t
with_no_members t =
    ap (λ (tables : List (List ℕ)).
    let made : TypedTables = record { sizes = t.sizes; constructors = tables; symbols = t.symbols } in made)
    (append-nil t.constructors)

pub unextended : (problem : Problem) (t : TypedTables) → AreModel problem t →
    fresh_count problem ≡ 0 → IsExtension problem t t
unextended problem t model none =
    let found = model_has_one_extension.some problem t model in
    let is = found.1 in
    let below : EachBelow (replicate (fresh_count problem) (length t.sizes)) is.members =
    members_within (reading problem.signature t) (conjecture_of problem.formulas) is.members is.are_first in
    let no_members : is.members ≡ [] =
    nothing_below is.members
    (subst (λ n. EachBelow (replicate n (length t.sizes)) is.members) none below) in
    let same : found.0 ≡ t =
    is.exact ∙ ap (λ (members : List ℕ). with_members members t) no_members ∙ with_no_members t in
    subst (IsExtension problem t) same is

pub extended_by : (problem : Problem) (t extension : TypedTables) (stated : Stated)
    (members : List ℕ) → conjecture_of problem.formulas ≡ Some stated →
    AreFirstFalse (reading problem.signature t) (Some stated) members →
    extension ≡ with_members members t → IsExtension problem t extension
extended_by problem t extension stated members found are_first is = record {
  members = members;
  are_first =
      subst (λ o. AreFirstFalse (reading problem.signature t) o members) (sym found) are_first;
  exact = is;
}

-- a copy of a structure, whose tables of constructors became these
pub tables_added : (structure copied made : TypedStructure) (constructors : List (List ℕ))
    (members : List ℕ) → copied ≡ structure →
    constructors ≡ copied.constructors ++ map (λ member. member ∷ []) members →
    made ≡ record copied { constructors = constructors } →
    tables made ≡ with_members members (tables structure)
tables_added structure copied made constructors members same added is =
    ap tables is
    ∙ ap (λ (all : List (List ℕ)). tables (record copied { constructors = all })) added
    ∙ ap (λ (x : TypedStructure). with_members members (tables x)) same

pub extension_of : (problem : Problem) (normal : Normal) (t extension : TypedTables) →
    IsSound problem → normal ≡ normal_of problem → AreModel problem t →
    IsExtension problem t extension → AreNormalModel normal extension
extension_of problem normal t extension sound is model extends =
    subst (λ (n : Normal). AreNormalModel n extension) (sym is)
    (extension_is_model problem t extension sound model extends)

-- without the fresh constructors

pub gives_model : (normal : Normal) (t reduct : TypedTables) → reduct ≡ without_fresh normal t →
    GivesModel normal t reduct
gives_model normal t reduct is problem sound same model =
    subst (AreModel problem)
    (ap (λ (n : Normal). without_fresh n t) (sym same) ∙ sym is)
    (reduct_is_model problem t sound (subst (λ (n : Normal). AreNormalModel n t) same model))

-- the conjecture

pub conjecture_within : (f : Stated → ℕ) (formulas : List Stated) (stated : Stated) →
    conjecture_of formulas ≡ Some stated → f stated ≤ greatest (map f formulas)
conjecture_within f [] stated found = cc
conjecture_within f (first ∷ formulas) stated found =
    ⊎_elim
    (λ is.
    let rest = conjecture_within f formulas stated (sym (conjecture_of-hypothesis first formulas is) ∙ found) in
    omega (arith, rest))
    (λ is.
    let one : Some first ≡ Some stated = sym (conjecture_of-conjecture first formulas is) ∙ found in
    let same : first ≡ stated = cc in
    omega (arith, ap f same))
    (role_cases first.role)

pub conjecture_all : (P : Stated → Type 0) (formulas : List Stated) (stated : Stated) →
    AllByRecursion P formulas → conjecture_of formulas ≡ Some stated → P stated
conjecture_all P [] stated all found = cc
conjecture_all P (first ∷ formulas) stated all found =
    ⊎_elim
    (λ is.
    conjecture_all P formulas stated all.1
    (sym (conjecture_of-hypothesis first formulas is) ∙ found))
    (λ is.
    let one : Some first ≡ Some stated = sym (conjecture_of-conjecture first formulas is) ∙ found in
    let same : first ≡ stated = cc in
    subst P same all.0)
    (role_cases first.role)

-- its body isn't true at all members
pub some_false : (problem : Problem) (t : TypedTables) (stated : Stated) → AreModel problem t →
    conjecture_of problem.formulas ≡ Some stated →
    ((members : List ℕ) → EachBelow (replicate stated.type_variables (length t.sizes)) members →
    is_false_at (reading problem.signature t) stated members ≡ false) → ⊥
some_false problem t stated model found all =
    conjecture_fails (reading problem.signature t) problem.formulas stated model.model.formulas found
    (λ members below.
    true-not-false (truth (reading problem.signature t) members stated.body []) (all members below))
