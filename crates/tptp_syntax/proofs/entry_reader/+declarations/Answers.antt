use Rattle.std.proofs.Common.{Err, sym, ◌∙◌, ap}
use Rattle.tptp_syntax.proofs.DeclarationRules.{no_declaration_inside, some_declaration_inside}
use Rattle.tptp_syntax.proofs.entry_reader.+declarations.Goals as goal

pub declaration_inside-returns-then-left-levels : goal.declaration_inside-returns-then-left-levels
declaration_inside-returns-then-left-levels t c m =
    no_declaration_inside c.args.left c.args.levels c.requires c.if-left-levels.true
    c.args.reader.now
    ∙ ap (λ e. Err (e, c.args.reader.now)) (sym c.declaration_limit.ensures)

pub declaration_inside-returns-else-left-levels : goal.declaration_inside-returns-else-left-levels
declaration_inside-returns-else-left-levels t c =
    rw (some_declaration_inside c.args.left c.args.levels c.requires c.if-left-levels.false)
    c.declaration.ensures
