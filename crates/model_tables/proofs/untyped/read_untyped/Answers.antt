use Rattle.std.proofs.Common.{List, ℕ, IfOk, IfErr, subst}
use Rattle.std.specs.Prelude.{◌≢◌}
use Rattle.std.proofs.lemmas.Result.{IfOk-weaker}
use Rattle.fof_models.specs.declared.problem.FofSymbol.{FofSymbol}
use Rattle.model_tables.specs.declared.error.TableError.TheVariants as e
use Rattle.model_tables.specs.ReadUntyped.{SaysStructure}
use Rattle.model_tables.specs.Refusals.{IsRefused}
use Rattle.model_tables.specs.Untyped.{untyped}
use Rattle.model_tables.proofs.MemoryAlone.{memory_alone}
use Rattle.model_tables.proofs.SaidStructures.{said_exact, said_within, said_unrefused}
use Rattle.model_tables.proofs.UntypedTables.{untyped_not_refused}
use Rattle.model_tables.proofs.untyped.read_untyped.Goals as goal

-- what was read from the parts was read from the whole
abbrev said : (c : goal.After-read_text)
    → IfOk c.read_text.result (SaysStructure c.args.problem.now.signature c.args.names.now c.args.text.now)
said c =
    subst (λ (signature : List FofSymbol). IfOk c.read_text.result
    (SaysStructure signature c.args.names.now c.args.text.now)) c.as_slice.ensures
    (subst (λ (names : List (List ℕ)). IfOk c.read_text.result
    (SaysStructure c.as_slice.result.now names c.args.text.now)) c.as_slice-2.ensures
    c.read_text.ensures.said)

pub returns-clause-exact : goal.returns-clause-exact
returns-clause-exact c =
    IfOk-weaker c.read_text.result _ _ (λ s one.
    said_exact c.args.text.now c.args.problem.now c.args.names.now s c.requires.one_each
    c.requires.differ one) (said c)

pub returns-clause-within : goal.returns-clause-within
returns-clause-within c =
    IfOk-weaker c.read_text.result _ _ (λ s one.
    said_within c.args.text.now c.args.problem.now c.args.names.now s c.requires.one_each
    c.requires.differ one) (said c)

pub returns-clause-unrefused : goal.returns-clause-unrefused
returns-clause-unrefused c =
    IfOk-weaker c.read_text.result _ _ (λ s one.
    said_unrefused c.args.text.now c.args.problem.now c.args.names.now s c.requires.one_each
    c.requires.differ one) (said c)

abbrev refused : (c : goal.After-read_text)
    → IfErr c.read_text.result (λ fault. fault ≢ e.Memory
    → IsRefused (untyped c.args.problem.now.signature c.args.names.now) c.args.text.now fault)
refused c =
    subst (λ (signature : List FofSymbol). IfErr c.read_text.result (λ fault. fault ≢ e.Memory
    → IsRefused (untyped signature c.args.names.now) c.args.text.now fault)) c.as_slice.ensures
    (subst (λ (names : List (List ℕ)). IfErr c.read_text.result (λ fault. fault ≢ e.Memory
    → IsRefused (untyped c.as_slice.result.now names) c.args.text.now fault)) c.as_slice-2.ensures
    c.read_text.ensures.refused)

pub returns-clause-kept : goal.returns-clause-kept
returns-clause-kept c = λ s is_table few.
    memory_alone c.read_text.result
    (IsRefused (untyped c.args.problem.now.signature c.args.names.now) c.args.text.now) (refused c)
    (λ fault.
    untyped_not_refused c.args.text.now c.args.problem.now c.args.names.now s fault is_table few)
