use Rattle.std.proofs.Common.{rules, arith, ◌≢◌, ◌≡◌, ◌++◌, [], ◌∷◌, Err, sym, ◌∙◌, ap, length-append}
use Rattle.std.proofs.lemmas.Grind.{common_steps}
use Rattle.tptp_phrases.proofs.Turns.{carried, shorter, one_more, one_fails, no_more}
use Rattle.tptp_syntax.specs.declared.fault.Fault.TheVariants.{Memory}
use Rattle.tptp_syntax.specs.Ahead.{cause}
use Rattle.tptp_syntax.specs.Descent as descent
use Rattle.tptp_syntax.proofs.DeclarationRules.{variables_after_commas}
use Rattle.tptp_syntax.proofs.ListsRead.{listed_turning}
use Rattle.tptp_syntax.proofs.type_reader.type_variables.Goals as goal

pub variables-init : goal.variables-init
variables-init c =
    let e : c.push.new.self ≡ c.in_ok-first.first ∷ [] =
    c.in_ok-push.ensures.ok ∙ ap (λ f. f ++ (c.in_ok-first.first ∷ [])) c.new-found.ensures in
    record {
      some = rw e (omega arith);
      rest = carried _ (listed_turning descent.type_variable_at c.args.reader.now
          c.in_ok-first.first c.type_variable.new.reader c.in_ok-first.ensures) e;
    }

pub returns-in_err-variable-clause-found : goal.returns-in_err-variable-clause-found
returns-in_err-variable-clause-found c =
    let k : c.in_err-variable.field-0.0 ≢ Memory
    → descent.listed_at descent.type_variable_at c.args.reader.now
    ≡ Err (cause c.in_err-variable.field-0.0, c.next_variable.new.reader) =
    λ m. one_fails variables_after_commas _ c.variables.found c.variables.reader
    c.variables.invariant.rest _ (sym c.sees.ensures ∙ c.variables-test.true)
    (c.in_err-variable.ensures m) in
    first_of (search rules, grind (arith, common_steps))

pub variables-smaller : goal.variables-smaller
variables-smaller c =
    shorter variables_after_commas c.variables.reader c.next_variable.new.reader
    c.in_ok-variable.variable c.in_ok-variable.ensures

pub variables-preserved : goal.variables-preserved
variables-preserved c = record {
  some = rw c.in_ok-push-2.ensures.ok (simp length-append (omega arith));
  rest = carried _ (one_more variables_after_commas _ c.variables.found c.variables.reader
      c.variables.invariant.rest c.next_variable.new.reader c.in_ok-variable.variable
      (sym c.sees.ensures ∙ c.variables-test.true) c.in_ok-variable.ensures)
      c.in_ok-push-2.ensures.ok;
}

pub returns-clause-found : goal.returns-clause-found
returns-clause-found c =
    no_more variables_after_commas _ c.variables.found c.variables.reader c.variables.invariant.rest
    (sym c.sees.ensures ∙ c.variables-test.false)
