use Rattle.std.proofs.Common.{length, refl, ap, ◌∙◌, replicate, [], false}
use Rattle.model_tables.proofs.PartFacts.{part_first, said_first}
use Rattle.model_tables.proofs.partial.Partial.new.Goals as goal

pub returns-clause-part : goal.returns-clause-part
returns-clause-part c =
    part_first c.args.signature.now _ c.requires.inhabited c.requires.small
    (c.in_ok-empty_tables.ensures ∙ ap (λ z. replicate (length z) []) c.as_slice-constructors.ensures)
    (c.in_ok-empty_tables-2.ensures ∙ ap (λ z. replicate (length z) []) c.as_slice-symbols.ensures)
    (c.in_ok-new.ensures ∙ ap (λ z. replicate (length z) false) c.as_slice-constructors.ensures)
    (c.in_ok-new-2.ensures ∙ ap (λ z. replicate (length z) false) c.as_slice-symbols.ensures)

pub returns-clause-said : goal.returns-clause-said
returns-clause-said c =
    said_first c.args.signature.now c.args.sizes _ refl
    (c.in_ok-empty_tables.ensures ∙ ap (λ z. replicate (length z) []) c.as_slice-constructors.ensures)
    (c.in_ok-empty_tables-2.ensures ∙ ap (λ z. replicate (length z) []) c.as_slice-symbols.ensures)
    (c.in_ok-new.ensures ∙ ap (λ z. replicate (length z) false) c.as_slice-constructors.ensures)
    (c.in_ok-new-2.ensures ∙ ap (λ z. replicate (length z) false) c.as_slice-symbols.ensures)
