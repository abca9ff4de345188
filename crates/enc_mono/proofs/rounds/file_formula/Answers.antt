use Rattle.std.proofs.Common.{length, sym, subst, ◌∙◌}
use Rattle.std.specs.List.{AllByRecursion}
use Rattle.std.proofs.lemmas.Result.{on_ok_weaker}
use Rattle.enc_mono.specs.Instances.{symbol_instances}
use Rattle.enc_mono.specs.Calls.Known.{IsNamed, index_in}
use Rattle.enc_mono.proofs.KnownFirst.{named_types, listed_is}
use Rattle.enc_mono.proofs.rounds.file_formula.Goals as goal

pub file_all-requires-clause-named : goal.file_all-requires-clause-named
file_all-requires-clause-named c =
    subst (AllByRecursion (IsNamed (length (index_in c.args.known.now))))
    (sym (c.as_slice.ensures
    ∙ listed_is (symbol_instances c.args.formula.now) c.new-listed.result
    c.list_instances.new.listed c.new-listed.ensures c.in_ok-list_instances.ensures))
    (named_types (length (index_in c.args.known.now)) (symbol_instances c.args.formula.now)
    c.requires.of_symbols)

pub file_all-requires-clause-instances : goal.file_all-requires-clause-instances
file_all-requires-clause-instances c = (
  symbol_instances c.args.formula.now,
  c.as_slice.ensures
      ∙ listed_is (symbol_instances c.args.formula.now) c.new-listed.result
      c.list_instances.new.listed c.new-listed.ensures c.in_ok-list_instances.ensures,
)

pub returns : goal.returns
returns c =
    on_ok_weaker c.file_all.result
    (λ files. files (symbol_instances c.args.formula.now)
    (c.as_slice.ensures
    ∙ listed_is (symbol_instances c.args.formula.now) c.new-listed.result
    c.list_instances.new.listed c.new-listed.ensures c.in_ok-list_instances.ensures))
    c.file_all.ensures
