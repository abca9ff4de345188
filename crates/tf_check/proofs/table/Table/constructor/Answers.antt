use Rattle.std.proofs.Common.{arith, refl, sym}
use Rattle.std.proofs.lemmas.Option.{slice_get_within}
use Rattle.tf_core.specs.declared.signature.Constructor.{Constructor}
use Rattle.tf_check.specs.Table.{listed_constructor}
use Rattle.tf_check.proofs.TableLemmas.{found_none, found_entry}
use Rattle.tf_check.proofs.table.Table.constructor.Goals as goal

pub returns-in-None-clause-exact : goal.returns-in-None-clause-exact
returns-in-None-clause-exact c =
    let seen = found_none listed_constructor (λ (k : Constructor). k.name) (λ entry. refl)
    c.args.name.now
    c.self.inside.constructors.entries c.in-None.ensures.index in
    rw (sym c.self.view_is, seen) refl

pub returns-in-Some-clause-exact : goal.returns-in-Some-clause-exact
returns-in-Some-clause-exact c =
    let seen = found_entry listed_constructor (λ (k : Constructor). k.name) (λ entry. refl)
    c.args.name.now
    c.self.inside.constructors.entries c.in-Some.place
    (c.in-Some.field-0-1.now, c.in-Some.arity.now)
    c.in-Some.ensures.index c.in-Some.ensures.entry in
    rw (sym c.self.view_is, seen) refl

pub returns-in-Some-clause-within : goal.returns-in-Some-clause-within
returns-in-Some-clause-within c =
    omega (
      arith,
      slice_get_within c.self.inside.constructors.entries c.in-Some.place
          (c.in-Some.field-0-1.now, c.in-Some.arity.now) c.in-Some.ensures.entry,
      c.self.invariant.few,
    )
