use Rattle.std.proofs.Common.{rules, map, ap, ◌∙◌}
use Rattle.tf_core.specs.declared.term.Term.TheViews.{the_lemmas}
use Rattle.tf_core.specs.Substitution.{shift}
use Rattle.tf_core.proofs.Built.{shift_variable, shift_apply, raised_below, arguments_below}
use Rattle.tf_core.proofs.term.+shift.Goals as goal

pub Term::shift-raise-requires : goal.Term::shift-raise-requires
Term::shift-raise-requires t c = raised_below _ _ _ _ _ c.in-Var.is c.requires.sums

pub Term::shift-shifted-requires : goal.Term::shift-shifted-requires
Term::shift-shifted-requires t c = (
  search (rules, the_lemmas),
  rw c.as_slice-in-Apply.ensures (arguments_below _ _ _ _ _ _ _ c.in-Apply.is c.requires.sums),
)

pub Term::shift-returns-in-Var : goal.Term::shift-returns-in-Var
Term::shift-returns-in-Var t c =
    record { exact = shift_variable c.args.by c.args.from c.args.self.now c.in-Var.i _ c.in-Var.is c.raise.ensures }

pub Term::shift-returns-in_ok-terms-in-Apply : goal.Term::shift-returns-in_ok-terms-in-Apply
Term::shift-returns-in_ok-terms-in-Apply t c =
    record {
      exact = shift_apply c.args.by c.args.from c.args.self.now c.in-Apply.f c.in-Apply.types _
          c.in-Apply.terms _ c.in-Apply.is
          (c.in_ok-types-in-Apply.ensures ∙ c.as_slice.ensures)
          (c.in_ok-terms-in-Apply.ensures
          ∙ ap (map (shift c.args.by c.args.from)) c.as_slice-in-Apply.ensures);
    }
