-- Problems that one text states have models together.
use Rattle.std.proofs.Common.{◌≡◌, ℕ, List, [], ◌∷◌, length, sym, ◌∙◌, subst, arith}
use Rattle.std.specs.List.{AllByRecursion}
use Rattle.fof_models.specs.declared.problem.FofSymbol.{FofSymbol}
use Rattle.fof_models.specs.declared.problem.FofFormula.{FofFormula}
use Rattle.fof_models.specs.Sound.{IsSoundFormula}
use Rattle.fof_models.specs.Structures.{Untyped, reading, IsStructure}
use Rattle.fof_models.specs.Models.{IsModel, AreSatisfied, IsSatisfied}
use Rattle.fof_models.specs.Tabled.{tabled}
use Rattle.fof_models.proofs.Tabled.{IsModel-reading, AreModel-tabled}
use Rattle.tptp_syntax.specs.declared.entry.Entry.{Entry}
use Rattle.tptp_syntax.specs.declared.entry.Entry.TheVariants.{Declaration, Statement}
use Rattle.tptp_syntax.specs.declared.entry.File.{File}
use Rattle.fof_text.specs.States.{EntryStands, StandFor}
use Rattle.fof_text.specs.Laws.{StatedProblemsHaveModelsTogether}
use Rattle.tptp_syntax.proofs.OneAnswer.{one_file}
use Rattle.fof_text.proofs.Renamed.{renamed, IsStructure-renamed}
use Rattle.fof_text.proofs.RenamedFormulas.{Same, formulas_same}

module _ (names others : List (List ℕ)) (g h : List FofSymbol) (one_each : length others ≡ length h)
    (s : Untyped) (structure : IsStructure g s) where
  abbrev other_one : Untyped
  other_one = renamed names others h s

  entry_satisfied : (e : Entry) (x y : FofFormula) → EntryStands names e x → EntryStands others e y
      → IsSoundFormula g x → IsSoundFormula h y → IsSatisfied s x → IsSatisfied other_one y
  entry_satisfied (Declaration n subject body) x y a b sa sb m = absurd a
  entry_satisfied (Statement n role formula) x y a b sa sb m =
      let meant = formulas_same names others g h one_each s structure formula [] in
      let here : Same names others g h one_each s structure x.body y.body =
      subst (λ z. Same names others g h one_each s structure z y.body) a.2
      (subst (Same names others g h one_each s structure _) b.2 meant) in
      here.here 0 [] sa.typed sb.typed (record { enough = omega arith; below = tt }) ∙ m

  pub all_satisfied : (es : List Entry) (fs hs : List FofFormula) → StandFor names es fs
      → StandFor others es hs → AllByRecursion (IsSoundFormula g) fs
      → AllByRecursion (IsSoundFormula h) hs → AreSatisfied s fs → AreSatisfied other_one hs
  all_satisfied [] [] [] a b sa sb m = tt
  all_satisfied [] [] (y ∷ ys) a b sa sb m = absurd b
  all_satisfied [] (x ∷ xs) ys a b sa sb m = absurd a
  all_satisfied (e ∷ es) [] ys a b sa sb m = absurd a
  all_satisfied (e ∷ es) (x ∷ xs) [] a b sa sb m = absurd b
  all_satisfied (e ∷ es) (x ∷ xs) (y ∷ ys) a b sa sb m =
      (entry_satisfied e x y a.0 b.0 sa.0 sb.0 m.0, all_satisfied es xs ys a.1 b.1 sa.1 sb.1 m.1)

pub models_together : StatedProblemsHaveModelsTogether
models_together text p q a b (tables, are_model) =
    let s = reading tables in
    let model = IsModel-reading p tables are_model in
    let same_file : a.file ≡ b.file = one_file text a.file b.file a.spelled b.spelled in
    let stands : StandFor b.names a.file.entries q.formulas =
    subst (λ (f : File). StandFor b.names f.entries q.formulas) (sym same_file) b.stands in
    let other = renamed a.names b.names q.signature s in
    let other_model : IsModel q other = record {
      structure = IsStructure-renamed a.names b.names q.signature s model.structure.inhabited;
      formulas = all_satisfied a.names b.names p.signature q.signature b.one_each s model.structure
          a.file.entries p.formulas q.formulas a.stands stands a.sound.formulas b.sound.formulas
          model.formulas;
    } in
    (tabled q.signature other, AreModel-tabled q other b.sound other_model)
