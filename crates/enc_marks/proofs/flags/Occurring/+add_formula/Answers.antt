use Rattle.std.proofs.Common.{◌||◌, List, ap, sym, ◌∙◌, eqb}
use Rattle.std.specs.List.{list_any}
use Rattle.fof_models.specs.declared.formula.Fof.{Fof}
use Rattle.fof_models.specs.declared.formula.FofTerm.{FofTerm}
use Rattle.enc_marks.specs.Calls.Flags.{is_set}
use Rattle.enc_marks.specs.Occurrence.{occurs_in_term, occurs}
use Rattle.enc_marks.proofs.Occurrence.{occurs-true, occurs-false, occurs-atom, occurs-equal, occurs-not, occurs-and, occurs-or, occurs-implies, occurs-for_all, occurs-exists}
use Rattle.enc_marks.proofs.Results.{on_ok}
use Rattle.enc_marks.proofs.Added.{added-none, added-same, added-both}
use Rattle.enc_marks.proofs.flags.Occurring.+add_formula.Goals as goal

pub add_formula-returns-in-True : goal.add_formula-returns-in-True
add_formula-returns-in-True t c =
    added-none (is_set c.args.self.now) (λ m. occurs m c.args.formula.now)
    (λ m. ap (occurs m) c.in-True.is ∙ occurs-true m)

pub add_formula-returns-in-False : goal.add_formula-returns-in-False
add_formula-returns-in-False t c =
    added-none (is_set c.args.self.now) (λ m. occurs m c.args.formula.now)
    (λ m. ap (occurs m) c.in-False.is ∙ occurs-false m)

pub add_formula-returns-in_ok-add-in-Atom : goal.add_formula-returns-in_ok-add-in-Atom
add_formula-returns-in_ok-add-in-Atom t c =
    on_ok c.add_terms.result
    (λ second. added-both (is_set c.args.self.now) (is_set c.add.new.self) (is_set c.add_terms.new.self)
    (λ m. eqb m c.in-Atom.p) (λ m. list_any (occurs_in_term m) c.as_slice.result.now)
    (λ m. occurs m c.args.formula.now)
    c.in_ok-add-in-Atom.ensures second
    (λ m. ap (occurs m) c.in-Atom.is
    ∙ occurs-atom m c.in-Atom.p c.in-Atom.terms
    ∙ ap (λ (terms : List FofTerm). eqb m c.in-Atom.p || list_any (occurs_in_term m) terms)
    (sym c.as_slice.ensures)))
    c.add_terms.ensures

pub add_formula-returns-in_ok-add_term-in-Equal : goal.add_formula-returns-in_ok-add_term-in-Equal
add_formula-returns-in_ok-add_term-in-Equal t c =
    on_ok c.add_term-in-Equal.result
    (λ second. added-both (is_set c.args.self.now) (is_set c.add_term.new.self)
    (is_set c.add_term-in-Equal.new.self)
    (λ m. occurs_in_term m c.in-Equal.left) (λ m. occurs_in_term m c.in-Equal.right)
    (λ m. occurs m c.args.formula.now)
    c.in_ok-add_term-in-Equal.ensures second
    (λ m. ap (occurs m) c.in-Equal.is ∙ occurs-equal m c.in-Equal.left c.in-Equal.right))
    c.add_term-in-Equal.ensures

pub add_formula-returns-in-Not : goal.add_formula-returns-in-Not
add_formula-returns-in-Not t c =
    on_ok c.add_formula.result
    (λ added. added-same (is_set c.args.self.now) (is_set c.add_formula.new.self)
    (λ m. occurs m c.get.result.now) (λ m. occurs m c.args.formula.now) added
    (λ m. ap (occurs m) c.in-Not.is ∙ occurs-not m c.in-Not.a
    ∙ ap (occurs m) (sym c.get.ensures)))
    c.add_formula.ensures

pub add_formula-returns-in-And : goal.add_formula-returns-in-And
add_formula-returns-in-And t c =
    on_ok c.add_formulas.result
    (λ added. added-same (is_set c.args.self.now) (is_set c.add_formulas.new.self)
    (λ m. list_any (occurs m) c.as_slice-in-And.result.now) (λ m. occurs m c.args.formula.now) added
    (λ m. ap (occurs m) c.in-And.is ∙ occurs-and m c.in-And.parts
    ∙ ap (λ (parts : List Fof). list_any (occurs m) parts) (sym c.as_slice-in-And.ensures)))
    c.add_formulas.ensures

pub add_formula-returns-in-Or : goal.add_formula-returns-in-Or
add_formula-returns-in-Or t c =
    on_ok c.add_formulas-in-Or.result
    (λ added. added-same (is_set c.args.self.now) (is_set c.add_formulas-in-Or.new.self)
    (λ m. list_any (occurs m) c.as_slice-in-Or.result.now) (λ m. occurs m c.args.formula.now) added
    (λ m. ap (occurs m) c.in-Or.is ∙ occurs-or m c.in-Or.parts
    ∙ ap (λ (parts : List Fof). list_any (occurs m) parts) (sym c.as_slice-in-Or.ensures)))
    c.add_formulas-in-Or.ensures

pub add_formula-returns-in_ok-add_formula-in-Implies :
    goal.add_formula-returns-in_ok-add_formula-in-Implies
add_formula-returns-in_ok-add_formula-in-Implies t c =
    on_ok c.add_formula-in-Implies-2.result
    (λ second. added-both (is_set c.args.self.now) (is_set c.add_formula-in-Implies.new.self)
    (is_set c.add_formula-in-Implies-2.new.self)
    (λ m. occurs m c.get-in-Implies.result.now) (λ m. occurs m c.get-in-Implies-2.result.now)
    (λ m. occurs m c.args.formula.now)
    c.in_ok-add_formula-in-Implies.ensures second
    (λ m. ap (occurs m) c.in-Implies.is ∙ occurs-implies m c.in-Implies.a c.in-Implies.b
    ∙ ap (λ a. occurs m a || occurs m c.in-Implies.b) (sym c.get-in-Implies.ensures)
    ∙ ap (λ b. occurs m c.get-in-Implies.result.now || occurs m b) (sym c.get-in-Implies-2.ensures)))
    c.add_formula-in-Implies-2.ensures

pub add_formula-returns-in-ForAll : goal.add_formula-returns-in-ForAll
add_formula-returns-in-ForAll t c =
    on_ok c.add_formula-in-ForAll.result
    (λ added. added-same (is_set c.args.self.now) (is_set c.add_formula-in-ForAll.new.self)
    (λ m. occurs m c.get-in-ForAll.result.now) (λ m. occurs m c.args.formula.now) added
    (λ m. ap (occurs m) c.in-ForAll.is ∙ occurs-for_all m c.in-ForAll.body
    ∙ ap (occurs m) (sym c.get-in-ForAll.ensures)))
    c.add_formula-in-ForAll.ensures

pub add_formula-returns-in-Exists : goal.add_formula-returns-in-Exists
add_formula-returns-in-Exists t c =
    on_ok c.add_formula-in-Exists.result
    (λ added. added-same (is_set c.args.self.now) (is_set c.add_formula-in-Exists.new.self)
    (λ m. occurs m c.get-in-Exists.result.now) (λ m. occurs m c.args.formula.now) added
    (λ m. ap (occurs m) c.in-Exists.is ∙ occurs-exists m c.in-Exists.body
    ∙ ap (occurs m) (sym c.get-in-Exists.ensures)))
    c.add_formula-in-Exists.ensures
