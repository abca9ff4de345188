use Rattle.std.proofs.Common.{◌≡◌, ◌≤◌, [], Some, false, length, replicate, sym, ap, ◌∙◌, subst, arith}
use Rattle.std.proofs.lemmas.Option.{slice_get_within}
use Rattle.std.proofs.lemmas.Result.{err_from_is_err_and, on_ok_weaker}
use Rattle.enc_base.specs.Tables.{tuple_count}
use Rattle.enc_base.specs.Counts.{most_entries}
use Rattle.model_tables.specs.declared.form.Kind.TheVariants as kind
use Rattle.model_tables.specs.Faults.{entry_faults, limit_faults_of}
use Rattle.model_tables.specs.Checks.{first_fault, Checks}
use Rattle.model_tables.specs.Typed.{constructor_shape, entries_by_kind}
use Rattle.model_tables.specs.Steps.{with_item}
use Rattle.model_tables.specs.ReadTyped.{IsPart, IsSaid, missing_in, constructor_item}
use Rattle.model_tables.proofs.Checked.{first_fault-front}
use Rattle.model_tables.proofs.ChecksJoined.{checks_behind}
use Rattle.model_tables.proofs.MarkedNames.{missing_among-mark}
use Rattle.model_tables.proofs.PartFacts.{constructor_small, part_with_constructor}
use Rattle.model_tables.proofs.PartFacts.{said_with_constructor}
use Rattle.model_tables.proofs.ItemEnds.{lent_at, always, constructor_end, constructor_table}
use Rattle.model_tables.proofs.known.Known.take_constructor.Goals as goal

pub check_constructor-requires : goal.check_constructor-requires
check_constructor-requires c =
    let g = c.args.self.now.signature.now in
    let constructor = c.index-as_slice-at.result in
    let here = lent_at c.as_slice.result.now g.constructors c.args.part.now.constructors c.args.at
    constructor false c.as_slice.ensures c.requires.kept.fits.constructor_marks c.requires.new
    c.index-as_slice-at.is in
    record {
      small =
          subst (λ sizes. tuple_count (replicate constructor.arity (length sizes)) ≤ most_entries)
          (sym c.as_slice-2.ensures)
          (constructor_small g c.args.part.now.structure.sizes c.args.at constructor here
          c.requires.kept.fits.small);
    }

pub returns-in_err-check_constructor-clause-takes : goal.returns-in_err-check_constructor-clause-takes
returns-in_err-check_constructor-clause-takes c before name named said =
    let p = err_from_is_err_and c.from_residual.result c.from_residual.ensures.1 in
    let g = c.args.self.now.signature.now in
    let constructor = c.index-as_slice-at.result in
    let here = lent_at c.as_slice.result.now g.constructors c.args.part.now.constructors c.args.at
    constructor false c.as_slice.ensures c.requires.kept.fits.constructor_marks c.requires.new
    c.index-as_slice-at.is in
    let fault = c.in_err-check_constructor.field-0.0 in
    rw (p.1, p.2) (record {
      checks = λ other.
          ap first_fault (constructor_end g before c.args.part.now said c.args.at name c.args.entries
          constructor c.requires.known.constructors_differ named here)
          ∙ first_fault-front
          (entry_faults (constructor_shape (length c.args.part.now.structure.sizes)
          (Some constructor)) (constructor_item constructor.name c.args.entries))
          (limit_faults_of (entries_by_kind g (with_item before
          (constructor_item name c.args.entries)) kind.Constructor)) fault
          (subst (λ es. first_fault (entry_faults
          (constructor_shape (length c.args.part.now.structure.sizes) (Some constructor))
          (constructor_item constructor.name es)) ≡ Some fault) c.as_slice-3.ensures
          (subst (λ sizes. first_fault (entry_faults (constructor_shape (length sizes)
          (Some constructor)) (constructor_item constructor.name c.as_slice-3.result.now))
          ≡ Some fault) c.as_slice-2.ensures (c.in_err-check_constructor.ensures other)));
      said = tt;
    })

pub put_constructor-requires-clause-within : goal.put_constructor-requires-clause-within
put_constructor-requires-clause-within c =
    omega (
      arith,
      slice_get_within c.args.part.now.constructors c.args.at false c.requires.new,
      c.requires.kept.fits.constructor_marks,
      c.requires.kept.fits.constructor_count,
    )

pub check_all-requires-clause-part : goal.check_all-requires-clause-part
check_all-requires-clause-part c =
    let g = c.args.self.now.signature.now in
    let constructor = c.index-as_slice-at.result in
    let here = lent_at c.as_slice.result.now g.constructors c.args.part.now.constructors c.args.at
    constructor false c.as_slice.ensures c.requires.kept.fits.constructor_marks c.requires.new
    c.index-as_slice-at.is in
    let clean = subst (λ es. entry_faults (constructor_shape (length c.args.part.now.structure.sizes)
    (Some constructor)) (constructor_item constructor.name es) ≡ []) c.as_slice-3.ensures
    (subst (λ sizes. entry_faults (constructor_shape (length sizes) (Some constructor))
    (constructor_item constructor.name c.as_slice-3.result.now) ≡ []) c.as_slice-2.ensures
    c.in_ok-check_constructor.ensures) in
    subst (IsPart g) (sym c.put_constructor.ensures)
    (part_with_constructor g c.args.part.now c.requires.kept.fits c.args.at constructor
    c.args.entries here
    (constructor_table (length c.args.part.now.structure.sizes) constructor c.args.entries clean))

pub returns-clause-takes : goal.returns-clause-takes
returns-clause-takes c before name named said =
    let g = c.args.self.now.signature.now in
    let constructor = c.index-as_slice-at.result in
    let here = lent_at c.as_slice.result.now g.constructors c.args.part.now.constructors c.args.at
    constructor false c.as_slice.ensures c.requires.kept.fits.constructor_marks c.requires.new
    c.index-as_slice-at.is in
    let clean = subst (λ es. entry_faults (constructor_shape (length c.args.part.now.structure.sizes)
    (Some constructor)) (constructor_item constructor.name es) ≡ []) c.as_slice-3.ensures
    (subst (λ sizes. entry_faults (constructor_shape (length sizes) (Some constructor))
    (constructor_item constructor.name c.as_slice-3.result.now) ≡ []) c.as_slice-2.ensures
    c.in_ok-check_constructor.ensures) in
    let table = subst (IsSaid g (with_item before (constructor_item name c.args.entries)))
    (sym c.put_constructor.ensures)
    (said_with_constructor g before c.args.part.now said c.args.at name c.args.entries
    c.requires.known.constructors_differ named c.requires.new) in
    record {
      checks =
          subst (λ faults. Checks faults c.check_all.result)
          (sym (constructor_end g before c.args.part.now said c.args.at name c.args.entries
          constructor c.requires.known.constructors_differ named here))
          (checks_behind
          (entry_faults (constructor_shape (length c.args.part.now.structure.sizes)
          (Some constructor)) (constructor_item constructor.name c.args.entries))
          (limit_faults_of (entries_by_kind g (with_item before
          (constructor_item name c.args.entries)) kind.Constructor)) c.check_all.result clean
          (c.check_all.ensures.checks
          (with_item before (constructor_item name c.args.entries)) table));
      said = always c.check_all.result table;
    }

pub returns-clause-kept : goal.returns-clause-kept
returns-clause-kept c =
    let g = c.args.self.now.signature.now in
    let constructor = c.index-as_slice-at.result in
    let here = lent_at c.as_slice.result.now g.constructors c.args.part.now.constructors c.args.at
    constructor false c.as_slice.ensures c.requires.kept.fits.constructor_marks c.requires.new
    c.index-as_slice-at.is in
    let clean = subst (λ es. entry_faults (constructor_shape (length c.args.part.now.structure.sizes)
    (Some constructor)) (constructor_item constructor.name es) ≡ []) c.as_slice-3.ensures
    (subst (λ sizes. entry_faults (constructor_shape (length sizes) (Some constructor))
    (constructor_item constructor.name c.as_slice-3.result.now) ≡ []) c.as_slice-2.ensures
    c.in_ok-check_constructor.ensures) in
    let fits = subst (IsPart g) (sym c.put_constructor.ensures)
    (part_with_constructor g c.args.part.now c.requires.kept.fits c.args.at constructor
    c.args.entries here
    (constructor_table (length c.args.part.now.structure.sizes) constructor c.args.entries clean)) in
    on_ok_weaker c.check_all.result (λ limited. record { fits = fits; limited = limited })
    c.check_all.ensures.limited

pub returns-clause-fewer : goal.returns-clause-fewer
returns-clause-fewer c =
    always c.check_all.result
    (omega (
      arith,
      ap missing_in c.put_constructor.ensures,
      missing_among-mark c.args.part.now.constructors c.args.at c.requires.new,
    ))
