use Rattle.std.proofs.Common.{sym, ap, ◌∙◌, rules}
use Rattle.fof_models.specs.declared.formula.Fof.TheVariants as F
use Rattle.fof_models.specs.declared.formula.Fof.TheViews.{the_lemmas}
use Rattle.fof_models.specs.Sound.{binder_count}
use Rattle.fof_models.proofs.Sound as sound
use Rattle.fof_text.proofs.Parts.{for_all_is, exists_is}
use Rattle.fof_text.proofs.binders.quantifier_of.Goals as goal

pub returns-in-ForAll : goal.returns-in-ForAll
returns-in-ForAll c =
    let is = c.in-ForAll.is ∙ ap F.ForAll (sym c.get.ensures) in
    record {
      binders = ap binder_count is ∙ sound.binder_count-for_all c.get.result.now;
      smaller = search (rules, the_lemmas);
      front = λ names depth. for_all_is names depth c.args.formula.now c.get.result.now is;
    }

pub returns-in-Exists : goal.returns-in-Exists
returns-in-Exists c =
    let is = c.in-Exists.is ∙ ap F.Exists (sym c.get-in-Exists.ensures) in
    record {
      binders = ap binder_count is ∙ sound.binder_count-exists c.get-in-Exists.result.now;
      smaller = search (rules, the_lemmas);
      front = λ names depth. exists_is names depth c.args.formula.now c.get-in-Exists.result.now is;
    }
