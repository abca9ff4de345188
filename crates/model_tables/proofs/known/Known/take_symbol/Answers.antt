use Rattle.std.proofs.Common.{◌≡◌, [], Some, false, sym, ap, ◌∙◌, subst, arith}
use Rattle.std.proofs.lemmas.Option.{slice_get_within}
use Rattle.std.proofs.lemmas.Result.{err_from_is_err_and}
use Rattle.tf_models.specs.Reading.{tables}
use Rattle.model_tables.specs.declared.form.Kind.TheVariants as kind
use Rattle.model_tables.specs.Faults.{entry_faults}
use Rattle.model_tables.specs.Checks.{first_fault}
use Rattle.model_tables.specs.Typed.{symbol_shape}
use Rattle.model_tables.specs.Steps.{with_item}
use Rattle.model_tables.specs.Marks.{missing_among}
use Rattle.model_tables.specs.ReadTyped.{IsKept, IsPart, IsLimited, IsSaid, missing_in, symbol_item}
use Rattle.model_tables.proofs.MarkedNames.{missing_among-mark}
use Rattle.model_tables.proofs.PartFacts.{all_fit, few, symbol_small, part_with_symbol, said_with_symbol}
use Rattle.model_tables.proofs.ItemEnds.{lent_at, symbol_end}
use Rattle.model_tables.proofs.known.Known.take_symbol.Goals as goal

pub check_symbol-requires-clause-constructors : goal.check_symbol-requires-clause-constructors
check_symbol-requires-clause-constructors c =
    all_fit c.args.self.now.signature.now c.args.part.now c.requires.kept.fits c.requires.all

pub check_symbol-requires-clause-few : goal.check_symbol-requires-clause-few
check_symbol-requires-clause-few c =
    few c.args.self.now.signature.now c.args.part.now c.requires.kept.fits

pub check_symbol-requires-clause-small : goal.check_symbol-requires-clause-small
check_symbol-requires-clause-small c =
    let here = lent_at c.as_slice.result.now c.args.self.now.signature.now.symbols
    c.args.part.now.symbols c.args.at c.index-as_slice-at.result false c.as_slice.ensures
    c.requires.kept.fits.symbol_marks c.requires.new c.index-as_slice-at.is in
    symbol_small c.args.self.now.signature.now (tables c.args.part.now.structure) c.args.at _ here
    (c.requires.kept.limited c.requires.all)

pub returns-in_err-check_symbol-clause-takes : goal.returns-in_err-check_symbol-clause-takes
returns-in_err-check_symbol-clause-takes c before name named said =
    let here = lent_at c.as_slice.result.now c.args.self.now.signature.now.symbols
    c.args.part.now.symbols c.args.at c.index-as_slice-at.result false c.as_slice.ensures
    c.requires.kept.fits.symbol_marks c.requires.new c.index-as_slice-at.is in
    let p = err_from_is_err_and c.from_residual.result c.from_residual.ensures.1 in
    let g = c.args.self.now.signature.now in
    let fault = c.in_err-check_symbol.field-0.0 in
    rw (p.1, p.2) (record {
      checks = λ other.
          ap first_fault (symbol_end g before c.args.part.now said c.args.at name c.args.entries _
          c.requires.known.symbols_differ named here)
          ∙ subst (λ es. first_fault (entry_faults (symbol_shape (tables c.args.part.now.structure)
          (Some c.index-as_slice-at.result)) (symbol_item c.index-as_slice-at.result.name es))
          ≡ Some fault) c.as_slice-2.ensures (c.in_err-check_symbol.ensures other);
      said = tt;
    })

pub put_symbol-requires-clause-within : goal.put_symbol-requires-clause-within
put_symbol-requires-clause-within c =
    omega (
      arith,
      slice_get_within c.args.part.now.symbols c.args.at false c.requires.new,
      c.requires.kept.fits.symbol_marks,
      c.requires.kept.fits.symbol_count,
    )

pub returns-clause-takes : goal.returns-clause-takes
returns-clause-takes c before name named said =
    let here = lent_at c.as_slice.result.now c.args.self.now.signature.now.symbols
    c.args.part.now.symbols c.args.at c.index-as_slice-at.result false c.as_slice.ensures
    c.requires.kept.fits.symbol_marks c.requires.new c.index-as_slice-at.is in
    let g = c.args.self.now.signature.now in
    record {
      checks =
          symbol_end g before c.args.part.now said c.args.at name c.args.entries _
          c.requires.known.symbols_differ named here
          ∙ subst (λ es. entry_faults (symbol_shape (tables c.args.part.now.structure)
          (Some c.index-as_slice-at.result)) (symbol_item c.index-as_slice-at.result.name es) ≡ [])
          c.as_slice-2.ensures c.in_ok-check_symbol.ensures;
      said =
          subst (IsSaid g (with_item before (symbol_item name c.args.entries)))
          (sym c.put_symbol.ensures)
          (said_with_symbol g before c.args.part.now said c.args.at name c.args.entries
          c.requires.known.symbols_differ named c.requires.new);
    }

pub returns-clause-kept : goal.returns-clause-kept
returns-clause-kept c =
    let g = c.args.self.now.signature.now in
    subst (IsKept g) (sym c.put_symbol.ensures) (record {
      fits = part_with_symbol g c.args.part.now c.requires.kept.fits c.args.at c.args.entries;
      limited = c.requires.kept.limited;
    })

pub returns-clause-fewer : goal.returns-clause-fewer
returns-clause-fewer c =
    omega (
      arith,
      ap missing_in c.put_symbol.ensures,
      missing_among-mark c.args.part.now.symbols c.args.at c.requires.new,
    )
