use Rattle.std.proofs.Common.{rules, refl, ap, not, eqb, ℕ, true, false, arith}
use Rattle.std.proofs.lemmas.List.{length-append}
use Rattle.tf_core.specs.declared.formula.Formula.TheViews.{the_lemmas}
use Rattle.tf_core.specs.Counts.{depth}
use Rattle.tf_models.proofs.Entries.{constructors_fit}
use Rattle.tf_models.proofs.FormulaParts.{not_typed, and_typed, or_typed, implies_typed, if_typed, iff_typed, xor_typed, nand_typed, nor_typed, for_all_typed, exists_typed, not_depth, and_depth, or_depth, implies_depth, if_depth, iff_depth, xor_depth, nand_depth, nor_depth, for_all_depth, exists_depth, true_is, false_is, atom_is, equal_is, not_is, and_is, or_is, for_all_is, exists_is, implies_decided, implies_open, if_decided, if_open, iff_is, xor_is, nand_decided, nand_open, nor_decided, nor_open, formula_at, at_most_greatest, beq-iff, body_typed, each_fails, some_holds_of}
use Rattle.tf_models.proofs.structure.TypedStructure.+holds.Goals as goal

pub all_hold-holds-requires : goal.all_hold-holds-requires
all_hold-holds-requires t c = (
  search (rules, the_lemmas),
  (
    c.requires.ready,
    (
      rw c.loop-part.invariant.kept
          (formula_at c.args.signature.now c.args.self.now c.args.env.now c.args.parts.now
          c.loop-part.part-index c.part-item.result c.requires.parts c.loop-part-test.true
          c.part-item.is),
      rw c.loop-part.invariant.kept
          (omega (
            arith,
            c.requires.room,
            at_most_greatest depth c.args.parts.now c.loop-part.part-index c.part-item.result
                c.loop-part-test.true c.part-item.is,
          )),
    ),
  ),
)

pub some_holds-holds-requires : goal.some_holds-holds-requires
some_holds-holds-requires t c = (
  search (rules, the_lemmas),
  (
    c.requires.ready,
    (
      rw c.loop-part.invariant.kept
          (formula_at c.args.signature.now c.args.self.now c.args.env.now c.args.parts.now
          c.loop-part.part-index c.part-item.result c.requires.parts c.loop-part-test.true
          c.part-item.is),
      rw c.loop-part.invariant.kept
          (omega (
            arith,
            c.requires.room,
            at_most_greatest depth c.args.parts.now c.loop-part.part-index c.part-item.result
                c.loop-part-test.true c.part-item.is,
          )),
    ),
  ),
)

pub holds-holds-requires : goal.holds-holds-requires
holds-holds-requires t c = (
  search (rules, the_lemmas),
  (
    c.requires.ready,
    (
      rw c.get.ensures (not_typed c.args.signature.now c.args.self.now c.args.env.now
          c.args.formula.now c.requires.formula c.in-Not.a c.in-Not.is),
      rw c.get.ensures (omega (
        arith,
        c.requires.room,
        not_depth c.args.formula.now c.in-Not.a
            c.in-Not.is,
      )),
    ),
  ),
)

pub holds-all_hold-requires : goal.holds-all_hold-requires
holds-all_hold-requires t c = (
  search (rules, the_lemmas),
  (
    c.requires.ready,
    (
      rw c.as_slice-in-And.ensures (and_typed c.args.signature.now c.args.self.now c.args.env.now
          c.args.formula.now c.requires.formula c.in-And.parts c.in-And.is),
      rw c.as_slice-in-And.ensures
          (omega (arith, c.requires.room, and_depth c.args.formula.now c.in-And.parts c.in-And.is)),
    ),
  ),
)

pub holds-some_holds-requires : goal.holds-some_holds-requires
holds-some_holds-requires t c = (
  search (rules, the_lemmas),
  (
    c.requires.ready,
    (
      rw c.as_slice-in-Or.ensures (or_typed c.args.signature.now c.args.self.now c.args.env.now
          c.args.formula.now c.requires.formula c.in-Or.parts c.in-Or.is),
      rw c.as_slice-in-Or.ensures
          (omega (arith, c.requires.room, or_depth c.args.formula.now c.in-Or.parts c.in-Or.is)),
    ),
  ),
)

pub holds-holds-first-requires : goal.holds-holds-first-requires
holds-holds-first-requires t c = (
  search (rules, the_lemmas),
  (
    c.requires.ready,
    (
      rw c.get-in-Iff.ensures
          ((iff_typed c.args.signature.now c.args.self.now c.args.env.now c.args.formula.now
          c.requires.formula c.in-Iff.a c.in-Iff.b c.in-Iff.is).0),
      rw c.get-in-Iff.ensures
          (omega (
            arith,
            c.requires.room,
            iff_depth c.args.formula.now c.in-Iff.a c.in-Iff.b
                c.in-Iff.is,
          )),
    ),
  ),
)

pub holds-holds-second-requires : goal.holds-holds-second-requires
holds-holds-second-requires t c = (
  search (rules, the_lemmas),
  (
    c.requires.ready,
    (
      rw (c.get-in-Iff-2.ensures, c.holds-first.ensures.kept)
          (iff_typed c.args.signature.now c.args.self.now c.args.env.now c.args.formula.now
          c.requires.formula c.in-Iff.a c.in-Iff.b c.in-Iff.is).1,
      rw (c.get-in-Iff-2.ensures, c.holds-first.ensures.kept)
          (omega (
            arith,
            c.requires.room,
            iff_depth c.args.formula.now c.in-Iff.a c.in-Iff.b
                c.in-Iff.is,
          )),
    ),
  ),
)

pub holds-holds-first-requires-in-Xor : goal.holds-holds-first-requires-in-Xor
holds-holds-first-requires-in-Xor t c = (
  search (rules, the_lemmas),
  (
    c.requires.ready,
    (
      rw c.get-in-Xor.ensures
          ((xor_typed c.args.signature.now c.args.self.now c.args.env.now c.args.formula.now
          c.requires.formula c.in-Xor.a c.in-Xor.b c.in-Xor.is).0),
      rw c.get-in-Xor.ensures
          (omega (
            arith,
            c.requires.room,
            xor_depth c.args.formula.now c.in-Xor.a c.in-Xor.b
                c.in-Xor.is,
          )),
    ),
  ),
)

pub holds-holds-second-requires-in-Xor : goal.holds-holds-second-requires-in-Xor
holds-holds-second-requires-in-Xor t c = (
  search (rules, the_lemmas),
  (
    c.requires.ready,
    (
      rw (c.get-in-Xor-2.ensures, c.holds-first-in-Xor.ensures.kept)
          (xor_typed c.args.signature.now c.args.self.now c.args.env.now c.args.formula.now
          c.requires.formula c.in-Xor.a c.in-Xor.b c.in-Xor.is).1,
      rw (c.get-in-Xor-2.ensures, c.holds-first-in-Xor.ensures.kept)
          (omega (
            arith,
            c.requires.room,
            xor_depth c.args.formula.now c.in-Xor.a c.in-Xor.b
                c.in-Xor.is,
          )),
    ),
  ),
)

pub holds-holds_of_each-requires : goal.holds-holds_of_each-requires
holds-holds_of_each-requires t c = (
  search (rules, the_lemmas),
  (
    c.requires.ready,
    (
      rw c.get-in-ForAll.ensures (for_all_typed c.args.signature.now c.args.self.now c.args.env.now
          c.args.formula.now c.requires.formula c.in-ForAll.ty c.in-ForAll.body c.in-ForAll.is),
      rw c.get-in-ForAll.ensures
          (omega (
            arith,
            c.requires.room,
            for_all_depth c.args.formula.now c.in-ForAll.ty
                c.in-ForAll.body c.in-ForAll.is,
          )),
    ),
  ),
)

pub holds-holds_of_some-requires : goal.holds-holds_of_some-requires
holds-holds_of_some-requires t c = (
  search (rules, the_lemmas),
  (
    c.requires.ready,
    (
      rw c.get-in-Exists.ensures (exists_typed c.args.signature.now c.args.self.now c.args.env.now
          c.args.formula.now c.requires.formula c.in-Exists.ty c.in-Exists.body c.in-Exists.is),
      rw c.get-in-Exists.ensures
          (omega (
            arith,
            c.requires.room,
            exists_depth c.args.formula.now c.in-Exists.ty
                c.in-Exists.body c.in-Exists.is,
          )),
    ),
  ),
)

pub holds-returns-in-True-clause-exact : goal.holds-returns-in-True-clause-exact
holds-returns-in-True-clause-exact t c =
    true_is c.args.signature.now c.args.self.now c.args.env.now c.args.formula.now true c.in-True.is

pub holds-returns-in-False-clause-exact : goal.holds-returns-in-False-clause-exact
holds-returns-in-False-clause-exact t c =
    false_is c.args.signature.now c.args.self.now c.args.env.now c.args.formula.now false
    c.in-False.is

pub holds-returns-in-Atom-clause-exact : goal.holds-returns-in-Atom-clause-exact
holds-returns-in-Atom-clause-exact t c =
    atom_is c.args.signature.now c.args.self.now c.args.env.now c.args.formula.now _ c.in-Atom.p
    c.in-Atom.types c.in-Atom.terms c.in-Atom.is
    (rw (c.as_slice.ensures, c.as_slice-in-Atom.ensures) at
    (ap (λ n. eqb n 1) c.entry.ensures.exact))

pub holds-returns-in-Equal-clause-exact : goal.holds-returns-in-Equal-clause-exact
holds-returns-in-Equal-clause-exact t c =
    equal_is c.args.signature.now c.args.self.now c.args.env.now c.args.formula.now _
    c.in-Equal.field-0 c.in-Equal.left c.in-Equal.right c.in-Equal.is
    (rw (c.value-left.ensures.exact, c.value-right.ensures.exact) refl)

pub holds-returns-in-Not-clause-exact : goal.holds-returns-in-Not-clause-exact
holds-returns-in-Not-clause-exact t c =
    not_is c.args.signature.now c.args.self.now c.args.env.now c.args.formula.now _ c.in-Not.a
    c.in-Not.is (rw c.get.ensures at c.holds.ensures.exact)

pub holds-returns-in-And-clause-exact : goal.holds-returns-in-And-clause-exact
holds-returns-in-And-clause-exact t c =
    and_is c.args.signature.now c.args.self.now c.args.env.now c.args.formula.now _ c.in-And.parts
    c.in-And.is (rw c.as_slice-in-And.ensures at c.all_hold.ensures.exact)

pub holds-returns-in-Or-clause-exact : goal.holds-returns-in-Or-clause-exact
holds-returns-in-Or-clause-exact t c =
    or_is c.args.signature.now c.args.self.now c.args.env.now c.args.formula.now _ c.in-Or.parts
    c.in-Or.is (rw c.as_slice-in-Or.ensures at c.some_holds.ensures.exact)

pub holds-returns-in-Iff-clause-exact : goal.holds-returns-in-Iff-clause-exact
holds-returns-in-Iff-clause-exact t c =
    iff_is c.args.signature.now c.args.self.now c.args.env.now c.args.formula.now c.in-Iff.a
    c.in-Iff.b c.holds-first.result c.holds-second.result _
    (rw c.get-in-Iff.ensures at c.holds-first.ensures.exact)
    (rw (c.get-in-Iff-2.ensures, c.holds-first.ensures.kept) at c.holds-second.ensures.exact)
    c.in-Iff.is (beq-iff _ _)

pub holds-returns-in-Xor-clause-exact : goal.holds-returns-in-Xor-clause-exact
holds-returns-in-Xor-clause-exact t c =
    xor_is c.args.signature.now c.args.self.now c.args.env.now c.args.formula.now c.in-Xor.a
    c.in-Xor.b c.holds-first-in-Xor.result c.holds-second-in-Xor.result _
    (rw c.get-in-Xor.ensures at c.holds-first-in-Xor.ensures.exact)
    (rw (c.get-in-Xor-2.ensures, c.holds-first-in-Xor.ensures.kept) at
    c.holds-second-in-Xor.ensures.exact) c.in-Xor.is (ap not (beq-iff _ _))

pub holds-returns-in-ForAll-clause-exact : goal.holds-returns-in-ForAll-clause-exact
holds-returns-in-ForAll-clause-exact t c =
    for_all_is c.args.signature.now c.args.self.now c.args.env.now c.args.formula.now _
    c.in-ForAll.ty c.in-ForAll.body c.in-ForAll.is
    (rw c.get-in-ForAll.ensures at c.holds_of_each.ensures.exact)

pub holds-returns-in-Exists-clause-exact : goal.holds-returns-in-Exists-clause-exact
holds-returns-in-Exists-clause-exact t c =
    exists_is c.args.signature.now c.args.self.now c.args.env.now c.args.formula.now _
    c.in-Exists.ty c.in-Exists.body c.in-Exists.is
    (rw c.get-in-Exists.ensures at c.holds_of_some.ensures.exact)

pub holds_of_each-size_of-size-requires-clause-fit :
    goal.holds_of_each-size_of-size-requires-clause-fit
holds_of_each-size_of-size-requires-clause-fit t c =
    constructors_fit c.args.signature.now c.args.self.now c.requires.ready.well_formed

pub holds_of_some-size_of-size-requires-clause-fit :
    goal.holds_of_some-size_of-size-requires-clause-fit
holds_of_some-size_of-size-requires-clause-fit t c =
    constructors_fit c.args.signature.now c.args.self.now c.requires.ready.well_formed

pub holds_of_each-returns-then-not-holds_with-clause-exact :
    goal.holds_of_each-returns-then-not-holds_with-clause-exact
holds_of_each-returns-then-not-holds_with-clause-exact t c =
    each_fails _ c.loop-element.element _ c.holds_with.result
    (rw (c.size_of-size.ensures, c.members.ensures) at c.loop-element-test.true)
    c.if-not-holds_with.true (rw c.loop-element.invariant.kept at c.holds_with.ensures.exact)

pub holds_of_some-returns-then-holds_with-clause-exact :
    goal.holds_of_some-returns-then-holds_with-clause-exact
holds_of_some-returns-then-holds_with-clause-exact t c =
    some_holds_of _ c.loop-element.element _ c.holds_with.result
    (rw (c.size_of-size.ensures, c.members.ensures) at c.loop-element-test.true)
    c.if-holds_with.true (rw c.loop-element.invariant.kept at c.holds_with.ensures.exact)

pub holds_with-holds-held-requires : goal.holds_with-holds-held-requires
holds_with-holds-held-requires t c = (
  search (rules, the_lemmas),
  (
    c.requires.ready,
    (
      rw c.bind.ensures.exact
          (body_typed c.args.signature.now c.args.self.now c.args.env.now c.args.ty.now
          c.args.body.now c.args.element c.requires.binder c.requires.below),
      rw c.bind.ensures.exact (omega (arith, c.requires.room, length-append {A = ℕ})),
    ),
  ),
)

pub holds-holds-requires-in-Implies : goal.holds-holds-requires-in-Implies
holds-holds-requires-in-Implies t c = (
  search (rules, the_lemmas),
  (
    c.requires.ready,
    (
      rw c.get-in-Implies.ensures
          ((implies_typed c.args.signature.now c.args.self.now c.args.env.now c.args.formula.now
          c.requires.formula c.in-Implies.premise c.in-Implies.conclusion c.in-Implies.is).0),
      rw c.get-in-Implies.ensures
          (omega (arith, c.requires.room, implies_depth c.args.formula.now c.in-Implies.premise c.in-Implies.conclusion c.in-Implies.is)),
    ),
  ),
)

pub holds-holds-requires-in-Implies-2 : goal.holds-holds-requires-in-Implies-2
holds-holds-requires-in-Implies-2 t c = (
  search (rules, the_lemmas),
  (
    c.requires.ready,
    (
      rw (c.get-in-Implies-2.ensures, c.holds-in-Implies.ensures.kept)
          (implies_typed c.args.signature.now c.args.self.now c.args.env.now c.args.formula.now
          c.requires.formula c.in-Implies.premise c.in-Implies.conclusion c.in-Implies.is).1,
      rw (c.get-in-Implies-2.ensures, c.holds-in-Implies.ensures.kept)
          (omega (arith, c.requires.room, implies_depth c.args.formula.now c.in-Implies.premise c.in-Implies.conclusion c.in-Implies.is)),
    ),
  ),
)

pub holds-holds-requires-in-If : goal.holds-holds-requires-in-If
holds-holds-requires-in-If t c = (
  search (rules, the_lemmas),
  (
    c.requires.ready,
    (
      rw c.get-in-If.ensures
          ((if_typed c.args.signature.now c.args.self.now c.args.env.now c.args.formula.now
          c.requires.formula c.in-If.a c.in-If.b c.in-If.is).0),
      rw c.get-in-If.ensures
          (omega (arith, c.requires.room, if_depth c.args.formula.now c.in-If.a c.in-If.b c.in-If.is)),
    ),
  ),
)

pub holds-holds-requires-in-If-2 : goal.holds-holds-requires-in-If-2
holds-holds-requires-in-If-2 t c = (
  search (rules, the_lemmas),
  (
    c.requires.ready,
    (
      rw (c.get-in-If-2.ensures, c.holds-in-If.ensures.kept)
          (if_typed c.args.signature.now c.args.self.now c.args.env.now c.args.formula.now
          c.requires.formula c.in-If.a c.in-If.b c.in-If.is).1,
      rw (c.get-in-If-2.ensures, c.holds-in-If.ensures.kept)
          (omega (arith, c.requires.room, if_depth c.args.formula.now c.in-If.a c.in-If.b c.in-If.is)),
    ),
  ),
)

pub holds-holds-requires-in-Nand : goal.holds-holds-requires-in-Nand
holds-holds-requires-in-Nand t c = (
  search (rules, the_lemmas),
  (
    c.requires.ready,
    (
      rw c.get-in-Nand.ensures
          ((nand_typed c.args.signature.now c.args.self.now c.args.env.now c.args.formula.now
          c.requires.formula c.in-Nand.a c.in-Nand.b c.in-Nand.is).0),
      rw c.get-in-Nand.ensures
          (omega (arith, c.requires.room, nand_depth c.args.formula.now c.in-Nand.a c.in-Nand.b c.in-Nand.is)),
    ),
  ),
)

pub holds-holds-requires-in-Nand-2 : goal.holds-holds-requires-in-Nand-2
holds-holds-requires-in-Nand-2 t c = (
  search (rules, the_lemmas),
  (
    c.requires.ready,
    (
      rw (c.get-in-Nand-2.ensures, c.holds-in-Nand.ensures.kept)
          (nand_typed c.args.signature.now c.args.self.now c.args.env.now c.args.formula.now
          c.requires.formula c.in-Nand.a c.in-Nand.b c.in-Nand.is).1,
      rw (c.get-in-Nand-2.ensures, c.holds-in-Nand.ensures.kept)
          (omega (arith, c.requires.room, nand_depth c.args.formula.now c.in-Nand.a c.in-Nand.b c.in-Nand.is)),
    ),
  ),
)

pub holds-holds-requires-in-Nor : goal.holds-holds-requires-in-Nor
holds-holds-requires-in-Nor t c = (
  search (rules, the_lemmas),
  (
    c.requires.ready,
    (
      rw c.get-in-Nor.ensures
          ((nor_typed c.args.signature.now c.args.self.now c.args.env.now c.args.formula.now
          c.requires.formula c.in-Nor.a c.in-Nor.b c.in-Nor.is).0),
      rw c.get-in-Nor.ensures
          (omega (arith, c.requires.room, nor_depth c.args.formula.now c.in-Nor.a c.in-Nor.b c.in-Nor.is)),
    ),
  ),
)

pub holds-holds-requires-in-Nor-2 : goal.holds-holds-requires-in-Nor-2
holds-holds-requires-in-Nor-2 t c = (
  search (rules, the_lemmas),
  (
    c.requires.ready,
    (
      rw (c.get-in-Nor-2.ensures, c.holds-in-Nor.ensures.kept)
          (nor_typed c.args.signature.now c.args.self.now c.args.env.now c.args.formula.now
          c.requires.formula c.in-Nor.a c.in-Nor.b c.in-Nor.is).1,
      rw (c.get-in-Nor-2.ensures, c.holds-in-Nor.ensures.kept)
          (omega (arith, c.requires.room, nor_depth c.args.formula.now c.in-Nor.a c.in-Nor.b c.in-Nor.is)),
    ),
  ),
)

pub holds-returns-then-not-holds-clause-exact : goal.holds-returns-then-not-holds-clause-exact
holds-returns-then-not-holds-clause-exact t c =
    implies_decided c.args.signature.now c.args.self.now c.args.env.now c.args.formula.now
    c.in-Implies.premise c.in-Implies.conclusion c.holds-in-Implies.result
    (rw c.get-in-Implies.ensures at c.holds-in-Implies.ensures.exact) c.in-Implies.is c.if-not-holds.true

pub holds-returns-else-not-holds-clause-exact : goal.holds-returns-else-not-holds-clause-exact
holds-returns-else-not-holds-clause-exact t c =
    implies_open c.args.signature.now c.args.self.now c.args.env.now c.args.formula.now
    c.in-Implies.premise c.in-Implies.conclusion c.holds-in-Implies.result
    (rw c.get-in-Implies.ensures at c.holds-in-Implies.ensures.exact) c.holds-in-Implies-2.result
    c.in-Implies.is c.if-not-holds.false
    (rw (c.get-in-Implies-2.ensures, c.holds-in-Implies.ensures.kept) at
    c.holds-in-Implies-2.ensures.exact)

pub holds-returns-then-holds-clause-exact : goal.holds-returns-then-holds-clause-exact
holds-returns-then-holds-clause-exact t c =
    if_decided c.args.signature.now c.args.self.now c.args.env.now c.args.formula.now
    c.in-If.a c.in-If.b c.holds-in-If.result
    (rw c.get-in-If.ensures at c.holds-in-If.ensures.exact) c.in-If.is c.if-holds.true

pub holds-returns-else-holds-clause-exact : goal.holds-returns-else-holds-clause-exact
holds-returns-else-holds-clause-exact t c =
    if_open c.args.signature.now c.args.self.now c.args.env.now c.args.formula.now
    c.in-If.a c.in-If.b c.holds-in-If.result
    (rw c.get-in-If.ensures at c.holds-in-If.ensures.exact) c.holds-in-If-2.result
    c.in-If.is c.if-holds.false
    (rw (c.get-in-If-2.ensures, c.holds-in-If.ensures.kept) at
    c.holds-in-If-2.ensures.exact)

pub holds-returns-then-not-holds-2-clause-exact : goal.holds-returns-then-not-holds-2-clause-exact
holds-returns-then-not-holds-2-clause-exact t c =
    nand_decided c.args.signature.now c.args.self.now c.args.env.now c.args.formula.now
    c.in-Nand.a c.in-Nand.b c.holds-in-Nand.result
    (rw c.get-in-Nand.ensures at c.holds-in-Nand.ensures.exact) c.in-Nand.is c.if-not-holds-2.true

pub holds-returns-else-not-holds-2-clause-exact : goal.holds-returns-else-not-holds-2-clause-exact
holds-returns-else-not-holds-2-clause-exact t c =
    nand_open c.args.signature.now c.args.self.now c.args.env.now c.args.formula.now
    c.in-Nand.a c.in-Nand.b c.holds-in-Nand.result
    (rw c.get-in-Nand.ensures at c.holds-in-Nand.ensures.exact) c.holds-in-Nand-2.result
    c.in-Nand.is c.if-not-holds-2.false
    (rw (c.get-in-Nand-2.ensures, c.holds-in-Nand.ensures.kept) at
    c.holds-in-Nand-2.ensures.exact)

pub holds-returns-then-holds-2-clause-exact : goal.holds-returns-then-holds-2-clause-exact
holds-returns-then-holds-2-clause-exact t c =
    nor_decided c.args.signature.now c.args.self.now c.args.env.now c.args.formula.now
    c.in-Nor.a c.in-Nor.b c.holds-in-Nor.result
    (rw c.get-in-Nor.ensures at c.holds-in-Nor.ensures.exact) c.in-Nor.is c.if-holds-2.true

pub holds-returns-else-holds-2-clause-exact : goal.holds-returns-else-holds-2-clause-exact
holds-returns-else-holds-2-clause-exact t c =
    nor_open c.args.signature.now c.args.self.now c.args.env.now c.args.formula.now
    c.in-Nor.a c.in-Nor.b c.holds-in-Nor.result
    (rw c.get-in-Nor.ensures at c.holds-in-Nor.ensures.exact) c.holds-in-Nor-2.result
    c.in-Nor.is c.if-holds-2.false
    (rw (c.get-in-Nor-2.ensures, c.holds-in-Nor.ensures.kept) at
    c.holds-in-Nor-2.ensures.exact)
