use Rattle.std.proofs.Common.{length, ◌+◌, ap, sym, subst, ◌∙◌}
use Rattle.tf_core.specs.Sound.{IsSoundFormula}
use Rattle.enc_mono.specs.Instances.{symbol_instances}
use Rattle.enc_mono.specs.Calls.Known.{AreOfSymbols}
use Rattle.enc_mono.proofs.CountedEntries.{item_has}
use Rattle.enc_mono.proofs.KnownFirst.{of_signature, IsFirstKnown, IsFirstKnown-nothing, IsFirstKnown-passed, IsFirstKnown-filed, IsIndex-first, formula_read, all_read}
use Rattle.enc_mono.proofs.rounds.known_at_first.Goals as goal
use Rattle.enc_mono.proofs.rounds.known_at_first.Goals.{then-formula-eq0+in_ok-file_formula, else-formula-eq0}

pub loop-formula-init : goal.loop-formula-init
loop-formula-init c =
    IsFirstKnown-nothing c.args.normal.now c.in_ok-known.known c.in_ok-known.ensures.kept
    (c.in_ok-known.ensures.count ∙ ap length c.as_slice.ensures) c.in_ok-known.ensures.nothing

pub file_formula-requires-clause-of_symbols : goal.file_formula-requires-clause-of_symbols
file_formula-requires-clause-of_symbols c =
    let read = formula_read c.args.normal.now.formulas c.as_slice-formula-items.result.now
    c.loop-formula.formula-index c.formula-item.result c.as_slice-formula-items.ensures
    c.loop-formula-test.true c.formula-item.is in
    subst (λ n. AreOfSymbols n (symbol_instances c.formula-item.result.body))
    (sym c.loop-formula.invariant.count)
    (of_signature c.args.normal.now.signature c.formula-item.result
    (item_has (IsSoundFormula c.args.normal.now.signature) c.args.normal.now.formulas
    c.loop-formula.formula-index c.formula-item.result c.requires.sound.formulas read.0 read.1))

pub loop-formula-preserved : goal.loop-formula-preserved
loop-formula-preserved c =
    let read = formula_read c.args.normal.now.formulas c.as_slice-formula-items.result.now
    c.loop-formula.formula-index c.formula-item.result c.as_slice-formula-items.ensures
    c.loop-formula-test.true c.formula-item.is in
    elim c.if-formula-eq0.branch [
      | then-formula-eq0+in_ok-file_formula w ↦
          subst (IsFirstKnown c.args.normal.now (c.loop-formula.formula-index + 1))
          (sym w.known-is)
          (IsFirstKnown-filed c.args.normal.now c.loop-formula.formula-index c.loop-formula.known
          c.loop-formula.invariant c.formula-item.result read.0 read.1 w.if-formula-eq0.true
          w.file_formula.new.known w.in_ok-file_formula.ensures)
      | else-formula-eq0 w ↦
          subst (IsFirstKnown c.args.normal.now (c.loop-formula.formula-index + 1))
          (sym w.known-is)
          (IsFirstKnown-passed c.args.normal.now c.loop-formula.formula-index c.loop-formula.known
          c.loop-formula.invariant c.formula-item.result read.0 read.1 w.if-formula-eq0.false)
    ]

pub returns-clause-index : goal.returns-clause-index
returns-clause-index c =
    IsIndex-first c.args.normal.now c.loop-formula.formula-index c.loop-formula.known
    (all_read c.args.normal.now.formulas c.as_slice-formula-items.result.now
    c.loop-formula.formula-index c.as_slice-formula-items.ensures c.loop-formula-test.false)
    c.loop-formula.invariant
