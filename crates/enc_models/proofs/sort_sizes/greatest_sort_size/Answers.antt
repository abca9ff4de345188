use Rattle.std.proofs.Common.{[], refl, sym, ap, subst, arith, ◌∙◌}
use Rattle.tf_core.specs.declared.ty.Ty.TheVariants as type
use Rattle.tf_core.specs.Typing.{IsType, type_apply, no_types}
use Rattle.tf_core.specs.Sound.{individuals}
use Rattle.tf_models.specs.Evaluation.{size_in}
use Rattle.tf_models.proofs.Entries.{constructors_fit}
use Rattle.enc_models.proofs.SortSizes.{declared_closed, bound_closed, sorts_found, individuals_alone}
use Rattle.enc_models.proofs.sort_sizes.greatest_sort_size.Goals as goal

pub greatest_declared-declared-requires-clause-fit :
    goal.greatest_declared-declared-requires-clause-fit
greatest_declared-declared-requires-clause-fit c =
    constructors_fit c.args.normal.now.signature c.args.model.now c.requires.ready.well_formed

pub greatest_bound-bound-requires-clause-fit : goal.greatest_bound-bound-requires-clause-fit
greatest_bound-bound-requires-clause-fit c =
    constructors_fit c.args.normal.now.signature c.args.model.now c.requires.ready.well_formed

pub size_of-requires-clause-fit : goal.size_of-requires-clause-fit
size_of-requires-clause-fit c =
    constructors_fit c.args.normal.now.signature c.args.model.now c.requires.ready.well_formed

pub greatest_declared-declared-requires-clause-closed :
    goal.greatest_declared-declared-requires-clause-closed
greatest_declared-declared-requires-clause-closed c =
    rw c.as_slice.ensures
    (declared_closed c.args.normal.now c.requires.monomorphic c.requires.sound)

pub greatest_bound-bound-requires-clause-closed :
    goal.greatest_bound-bound-requires-clause-closed
greatest_bound-bound-requires-clause-closed c =
    rw c.as_slice-2.ensures
    (bound_closed c.args.normal.now c.requires.monomorphic c.requires.sound)

pub returns-then-found-gt0 : goal.returns-then-found-gt0
returns-then-found-gt0 c =
    sorts_found c.args.normal.now c.requires.monomorphic c.requires.sound c.args.model.now
    c.requires.ready c.greatest_declared-declared.result c.greatest_bound-bound.result
    c.max-found.result
    (rw c.as_slice.ensures at c.greatest_declared-declared.ensures)
    (rw c.as_slice-2.ensures at c.greatest_bound-bound.ensures)
    c.max-found.ensures
    (omega (arith, c.if-found-gt0.true))

pub size_of-requires-clause-typed : goal.size_of-requires-clause-typed
size_of-requires-clause-typed c =
    subst (λ types. IsType c.args.normal.now.signature 0 (type.Apply 0 types)) (sym c.new.ensures)
    (type_apply 0 individuals [] c.requires.sound.signature.first refl no_types)

pub returns : goal.returns
returns c =
    c.size_of.ensures
    ∙ ap (λ types. size_in c.args.model.now [] (type.Apply 0 types)) c.new.ensures
    ∙ individuals_alone c.args.normal.now c.requires.monomorphic c.requires.sound c.args.model.now
    c.requires.ready c.greatest_declared-declared.result c.greatest_bound-bound.result
    c.max-found.result
    (rw c.as_slice.ensures at c.greatest_declared-declared.ensures)
    (rw c.as_slice-2.ensures at c.greatest_bound-bound.ensures)
    c.max-found.ensures
    (omega (arith, c.if-found-gt0.false))
