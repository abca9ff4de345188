use Rattle.std.proofs.Common.{◌≡◌, ◌≤◌, Ok, Err, sym, subst}
use Rattle.std.proofs.lemmas.Result.{IfOk-weaker}
use Rattle.enc_base.specs.Counts.{most_entries}
use Rattle.model_tables.specs.Typed.{typed, typed_structure, IsTypedTable, structure_entries}
use Rattle.model_tables.specs.Refusals.{IsRefused}
use Rattle.model_tables.proofs.MemoryAlone.{memory_alone}
use Rattle.model_tables.proofs.OneVerdict.{one_verdict}
use Rattle.model_tables.proofs.TypedTables.{typed_tables_are_not_refused}
use Rattle.model_tables.proofs.TypedTexts.{typed_texts_are_tables}
use Rattle.model_tables.proofs.typed.read_typed.Goals as goal

pub returns-clause-exact : goal.returns-clause-exact
returns-clause-exact c =
    IfOk-weaker c.read_said.result _ _ (λ s said.
    subst (IsTypedTable c.args.text.now c.args.signature.now) (sym said.2)
    (typed_texts_are_tables c.args.text.now c.args.signature.now said.0 c.requires.names said.1).0)
    c.read_said.ensures.said

pub returns-clause-within : goal.returns-clause-within
returns-clause-within c =
    IfOk-weaker c.read_said.result _ _ (λ s said.
    subst (λ z. structure_entries z ≤ most_entries) (sym said.2)
    (typed_texts_are_tables c.args.text.now c.args.signature.now said.0 c.requires.names said.1).1)
    c.read_said.ensures.said

pub returns-clause-unrefused : goal.returns-clause-unrefused
returns-clause-unrefused c =
    IfOk-weaker c.read_said.result _ _ (λ s said. λ fault refused.
    let same : Ok said.0 ≡ Err fault =
    one_verdict (typed c.args.signature.now) c.args.text.now (Ok said.0) (Err fault) said.1
    refused in
    cc) c.read_said.ensures.said

pub returns-clause-kept : goal.returns-clause-kept
returns-clause-kept c = λ s is_table few.
    memory_alone c.read_said.result (IsRefused (typed c.args.signature.now) c.args.text.now)
    c.read_said.ensures.refused (λ fault.
    typed_tables_are_not_refused c.args.text.now c.args.signature.now s fault is_table few)
