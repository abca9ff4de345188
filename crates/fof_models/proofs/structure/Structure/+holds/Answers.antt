use Rattle.std.proofs.Common.{rules, refl, true, false, ◌≡◌, ◌+◌, ◌-◌, not, length, take, sym, ap, ◌∙◌, arith}
use Rattle.fof_models.specs.Sound.{is_formula}
use Rattle.fof_models.specs.Room.{Room}
use Rattle.fof_models.specs.declared.formula.Fof.TheViews.{the_lemmas}
use Rattle.fof_models.proofs.Parts.{atom_sound, equal_sound, not_sound, and_sound, or_sound, implies_sound, not_depth, and_depth, or_depth, implies_depth, true_is, false_is, atom_is, equal_is, not_is, and_is, or_is, implies_is, implied, formula_sound_at, depth_at}
use Rattle.fof_models.proofs.PrefixCounts.{universals_depth, universals_formula, existentials_depth, existentials_formula}
use Rattle.fof_models.proofs.PrefixTruth.{universals_is, existentials_is}
use Rattle.fof_models.proofs.Tuples.{tuple_length, tuple_below, front_left, Room-same}
use Rattle.fof_models.proofs.Searching.{ready_at, beq-same, searching_first, searching_next, searching_all, left_falls}
use Rattle.fof_models.proofs.structure.Structure.+holds.Goals as goal

pub holds-holds_at-requires-clause-symbol : goal.holds-holds_at-requires-clause-symbol
holds-holds_at-requires-clause-symbol t c =
    rw c.as_slice.ensures (atom_sound _ _ _ _ _ c.in-Atom.is c.requires.sound).0

pub holds-holds_at-requires-clause-sound : goal.holds-holds_at-requires-clause-sound
holds-holds_at-requires-clause-sound t c =
    rw c.as_slice.ensures (atom_sound _ _ _ _ _ c.in-Atom.is c.requires.sound).1

pub holds-value-left-requires-clause-sound : goal.holds-value-left-requires-clause-sound
holds-value-left-requires-clause-sound t c = (equal_sound _ _ _ _ _ c.in-Equal.is c.requires.sound).0

pub holds-value-right-requires-clause-sound : goal.holds-value-right-requires-clause-sound
holds-value-right-requires-clause-sound t c = (equal_sound _ _ _ _ _ c.in-Equal.is c.requires.sound).1

pub holds-holds-requires : goal.holds-holds-requires
holds-holds-requires t c = (
  search (rules, the_lemmas),
  (
    c.requires.ready,
    (
      rw c.get.ensures (not_sound _ _ _ _ c.in-Not.is c.requires.sound),
      rw c.get.ensures (omega (arith, not_depth _ _ c.in-Not.is)),
    ),
  ),
)

pub holds-all_hold-requires : goal.holds-all_hold-requires
holds-all_hold-requires t c = (
  search (rules, the_lemmas),
  (
    c.requires.ready,
    (
      rw c.as_slice-in-And.ensures (and_sound _ _ _ _ c.in-And.is c.requires.sound),
      rw c.as_slice-in-And.ensures (omega (arith, and_depth _ _ c.in-And.is)),
    ),
  ),
)

pub holds-some_holds-requires : goal.holds-some_holds-requires
holds-some_holds-requires t c = (
  search (rules, the_lemmas),
  (
    c.requires.ready,
    (
      rw c.as_slice-in-Or.ensures (or_sound _ _ _ _ c.in-Or.is c.requires.sound),
      rw c.as_slice-in-Or.ensures (omega (arith, or_depth _ _ c.in-Or.is)),
    ),
  ),
)

pub holds-returns-in-True-clause-exact : goal.holds-returns-in-True-clause-exact
holds-returns-in-True-clause-exact t c =
    true_is c.args.self.now c.args.env.now.items c.args.formula.now true c.in-True.is

pub holds-returns-in-False-clause-exact : goal.holds-returns-in-False-clause-exact
holds-returns-in-False-clause-exact t c =
    false_is c.args.self.now c.args.env.now.items c.args.formula.now false c.in-False.is

pub holds-returns-in-Atom-clause-exact : goal.holds-returns-in-Atom-clause-exact
holds-returns-in-Atom-clause-exact t c =
    atom_is c.args.self.now c.args.env.now.items c.args.formula.now _ c.in-Atom.p c.in-Atom.terms
    c.in-Atom.is (rw c.as_slice.ensures at c.holds_at.ensures)

pub holds-returns-in-Equal-clause-exact : goal.holds-returns-in-Equal-clause-exact
holds-returns-in-Equal-clause-exact t c =
    equal_is c.args.self.now c.args.env.now.items c.args.formula.now _ c.in-Equal.left c.in-Equal.right
    c.in-Equal.is (rw (c.value-left.ensures.exact, c.value-right.ensures.exact) refl)

pub holds-returns-in-Not-clause-exact : goal.holds-returns-in-Not-clause-exact
holds-returns-in-Not-clause-exact t c =
    not_is c.args.self.now c.args.env.now.items c.args.formula.now _ c.in-Not.a c.in-Not.is
    (rw c.get.ensures at c.holds.ensures.exact)

pub holds-returns-in-And-clause-exact : goal.holds-returns-in-And-clause-exact
holds-returns-in-And-clause-exact t c =
    and_is c.args.self.now c.args.env.now.items c.args.formula.now _ c.in-And.parts c.in-And.is
    (rw c.as_slice-in-And.ensures at c.all_hold.ensures.exact)

pub holds-returns-in-Or-clause-exact : goal.holds-returns-in-Or-clause-exact
holds-returns-in-Or-clause-exact t c =
    or_is c.args.self.now c.args.env.now.items c.args.formula.now _ c.in-Or.parts c.in-Or.is
    (rw c.as_slice-in-Or.ensures at c.some_holds.ensures.exact)

pub all_hold-holds-requires : goal.all_hold-holds-requires
all_hold-holds-requires t c = (
  search (rules, the_lemmas),
  (
    rw c.loop-part.invariant.kept c.requires.ready,
    (
      rw c.loop-part.invariant.kept
          (formula_sound_at _ _ _ _ _ c.loop-part-test.true c.part-item.is c.requires.sound),
      rw c.loop-part.invariant.kept
          (omega (arith, depth_at _ _ _ c.loop-part-test.true c.part-item.is)),
    ),
  ),
)

pub some_holds-holds-requires : goal.some_holds-holds-requires
some_holds-holds-requires t c = (
  search (rules, the_lemmas),
  (
    rw c.loop-part.invariant.kept c.requires.ready,
    (
      rw c.loop-part.invariant.kept
          (formula_sound_at _ _ _ _ _ c.loop-part-test.true c.part-item.is c.requires.sound),
      rw c.loop-part.invariant.kept
          (omega (arith, depth_at _ _ _ c.loop-part-test.true c.part-item.is)),
    ),
  ),
)

pub holds-holds-requires-in-Implies : goal.holds-holds-requires-in-Implies
holds-holds-requires-in-Implies t c = (
  search (rules, the_lemmas),
  (
    c.requires.ready,
    (
      rw c.get-in-Implies.ensures (implies_sound _ _ _ _ _ c.in-Implies.is c.requires.sound).0,
      rw c.get-in-Implies.ensures (omega (arith, implies_depth _ _ _ c.in-Implies.is)),
    ),
  ),
)

pub holds-holds-requires-else-not-holds : goal.holds-holds-requires-else-not-holds
holds-holds-requires-else-not-holds t c = (
  search (rules, the_lemmas),
  (
    rw c.holds-in-Implies.ensures.kept c.requires.ready,
    (
      rw (c.get-else-not-holds.ensures, c.holds-in-Implies.ensures.kept)
          (implies_sound _ _ _ _ _ c.in-Implies.is c.requires.sound).1,
      rw (c.get-else-not-holds.ensures, c.holds-in-Implies.ensures.kept)
          (omega (arith, implies_depth _ _ _ c.in-Implies.is)),
    ),
  ),
)

pub holds-is_each-requires : goal.holds-is_each-requires
holds-is_each-requires t c =
    let count : length c.args.env.now.items + 1 + c.below_universals-more.result.0
    ≡ length c.args.env.now.items + (1 + c.below_universals-more.result.0) =
    omega arith in (
      search (rules, the_lemmas),
      (
        c.requires.ready,
        (
          ap (is_formula c.args.signature.now c.below_universals-more.result.1.now) (sym count)
              ∙ sym (universals_formula c.args.formula.now c.in-ForAll.inner c.get-in-ForAll.result.now
              c.below_universals-more.result.1.now c.below_universals-more.result.0 c.in-ForAll.is
              c.get-in-ForAll.ensures c.below_universals-more.ensures.whole
              c.args.signature.now (length c.args.env.now.items))
              ∙ c.requires.sound,
          omega (
            arith,
            c.requires.room,
            universals_depth c.args.formula.now c.in-ForAll.inner c.get-in-ForAll.result.now
                c.below_universals-more.result.1.now c.below_universals-more.result.0 c.in-ForAll.is
                c.get-in-ForAll.ensures c.below_universals-more.ensures.whole,
          ),
        ),
      ),
    )

pub holds-is_each-requires-in-Exists : goal.holds-is_each-requires-in-Exists
holds-is_each-requires-in-Exists t c =
    let count : length c.args.env.now.items + 1 + c.below_existentials-more.result.0
    ≡ length c.args.env.now.items + (1 + c.below_existentials-more.result.0) =
    omega arith in (
      search (rules, the_lemmas),
      (
        c.requires.ready,
        (
          ap (is_formula c.args.signature.now c.below_existentials-more.result.1.now) (sym count)
              ∙ sym (existentials_formula c.args.formula.now c.in-Exists.inner c.get-in-Exists.result.now
              c.below_existentials-more.result.1.now c.below_existentials-more.result.0 c.in-Exists.is
              c.get-in-Exists.ensures c.below_existentials-more.ensures.whole
              c.args.signature.now (length c.args.env.now.items))
              ∙ c.requires.sound,
          omega (
            arith,
            c.requires.room,
            existentials_depth c.args.formula.now c.in-Exists.inner c.get-in-Exists.result.now
                c.below_existentials-more.result.1.now c.below_existentials-more.result.0 c.in-Exists.is
                c.get-in-Exists.ensures c.below_existentials-more.ensures.whole,
          ),
        ),
      ),
    )

pub holds-returns-then-not-holds-clause-exact : goal.holds-returns-then-not-holds-clause-exact
holds-returns-then-not-holds-clause-exact t c =
    ap not c.if-not-holds.true
    ∙ implied c.args.self.now c.args.env.now.items c.args.formula.now c.holds-in-Implies.result
    c.in-Implies.a c.in-Implies.b c.holds-in-Implies.result c.in-Implies.is
    (rw c.get-in-Implies.ensures at c.holds-in-Implies.ensures.exact) c.if-not-holds.true

pub holds-returns-else-not-holds-clause-exact : goal.holds-returns-else-not-holds-clause-exact
holds-returns-else-not-holds-clause-exact t c =
    implies_is c.args.self.now c.args.env.now.items c.args.formula.now c.holds-in-Implies.result
    c.in-Implies.a c.in-Implies.b c.holds-in-Implies.result c.holds-else-not-holds.result
    c.in-Implies.is
    (rw c.get-in-Implies.ensures at c.holds-in-Implies.ensures.exact) c.if-not-holds.false
    (rw (c.get-else-not-holds.ensures, c.holds-in-Implies.ensures.kept)
    at c.holds-else-not-holds.ensures.exact)

pub holds-returns-in-ForAll-clause-exact : goal.holds-returns-in-ForAll-clause-exact
holds-returns-in-ForAll-clause-exact t c =
    universals_is c.args.self.now c.args.env.now.items c.args.formula.now c.in-ForAll.inner c.get-in-ForAll.result.now
    c.below_universals-more.result.1.now c.below_universals-more.result.0
    c.is_each.result c.get-in-ForAll.ensures c.in-ForAll.is c.below_universals-more.ensures.whole
    c.is_each.ensures.exact

pub holds-returns-in-Exists-clause-exact : goal.holds-returns-in-Exists-clause-exact
holds-returns-in-Exists-clause-exact t c =
    existentials_is c.args.self.now c.args.env.now.items c.args.formula.now c.in-Exists.inner c.get-in-Exists.result.now
    c.below_existentials-more.result.1.now c.below_existentials-more.result.0
    c.is_each-in-Exists.result c.get-in-Exists.ensures c.in-Exists.is c.below_existentials-more.ensures.whole
    c.is_each-in-Exists.ensures.exact

pub is_each-loop-env-init : goal.is_each-loop-env-init
is_each-loop-env-init t c =
    record {
      room = c.bind_zeros.ensures.kept;
      searching = searching_first c.args.self.now c.args.body.now c.args.value c.args.count
          c.args.env.now.items c.bind_zeros.new.self.items c.requires.ready.well_formed.inhabited
          c.bind_zeros.ensures.exact;
    }

pub is_each-holds-requires : goal.is_each-holds-requires
is_each-holds-requires t c =
    let searching = c.loop-env.invariant.searching in
    let long = tuple_length c.args.self.now.size c.args.count searching.number c.args.env.now.items
    c.loop-env.env.items searching.tuple in (
      search (rules, the_lemmas),
      (
        ready_at c.args.signature.now c.args.self.now c.args.count searching.number
            c.args.env.now.items c.loop-env.env.items c.requires.ready searching.tuple,
        (
          ap (is_formula c.args.signature.now c.args.body.now) long ∙ c.requires.sound,
          omega (arith, c.requires.room, long, c.loop-env.invariant.room),
        ),
      ),
    )

pub is_each-next_tuple-requires-clause-there : goal.is_each-next_tuple-requires-clause-there
is_each-next_tuple-requires-clause-there t c =
    let searching = c.loop-env.invariant.searching in
    rw c.holds.ensures.kept
    (omega (
      arith,
      tuple_length c.args.self.now.size c.args.count searching.number c.args.env.now.items
          c.loop-env.env.items searching.tuple,
    ))

pub is_each-next_tuple-requires-clause-below : goal.is_each-next_tuple-requires-clause-below
is_each-next_tuple-requires-clause-below t c =
    let searching = c.loop-env.invariant.searching in
    rw c.holds.ensures.kept
    (tuple_below c.args.self.now.size c.args.count searching.number c.args.env.now.items
    c.loop-env.env.items searching.tuple)

pub is_each-returns-then-not-next_tuple-clause-exact : goal.is_each-returns-then-not-next_tuple-clause-exact
is_each-returns-then-not-next_tuple-clause-exact t c =
    let searching = c.loop-env.invariant.searching in
    let ends = c.next_tuple.ensures.last c.if-not-next_tuple.true c.args.env.now.items
    searching.number (rw c.holds.ensures.kept searching.tuple) in (
      λ holds. searching_all c.args.self.now c.args.body.now c.args.value c.args.count c.args.env.now.items
          c.loop-env.env.items c.holds.result searching c.holds.ensures.exact
          (beq-same _ _ c.loop-env-test.true) ends.1,
      λ each. refl,
    )

pub is_each-returns-then-not-next_tuple-clause-kept : goal.is_each-returns-then-not-next_tuple-clause-kept
is_each-returns-then-not-next_tuple-clause-kept t c =
    let searching = c.loop-env.invariant.searching in
    let ends = c.next_tuple.ensures.last c.if-not-next_tuple.true c.args.env.now.items
    searching.number (rw c.holds.ensures.kept searching.tuple) in
    Room-same c.next_tuple.new.self c.args.env.now ends.0
    (c.next_tuple.ensures.kept ∙ ap (λ (env : Room). env.room) c.holds.ensures.kept
    ∙ c.loop-env.invariant.room)

pub is_each-loop-env-smaller : goal.is_each-loop-env-smaller
is_each-loop-env-smaller t c =
    let searching = c.loop-env.invariant.searching in
    left_falls c.args.self.now c.args.body.now c.args.value c.args.count c.args.env.now.items
    c.loop-env.env.items c.next_tuple.new.self.items searching.number searching.tuple
    (c.next_tuple.ensures.next c.if-not-next_tuple.false c.args.env.now.items searching.number
    (rw c.holds.ensures.kept searching.tuple))

pub is_each-loop-env-preserved : goal.is_each-loop-env-preserved
is_each-loop-env-preserved t c =
    let searching = c.loop-env.invariant.searching in
    record {
      room = c.next_tuple.ensures.kept ∙ ap (λ (env : Room). env.room) c.holds.ensures.kept
          ∙ c.loop-env.invariant.room;
      searching = searching_next c.args.self.now c.args.body.now c.args.value c.args.count c.args.env.now.items
          c.loop-env.env.items c.holds.result searching c.holds.ensures.exact
          (beq-same _ _ c.loop-env-test.true) c.next_tuple.new.self.items
          (λ number is.
          c.next_tuple.ensures.next c.if-not-next_tuple.false c.args.env.now.items number
          (rw c.holds.ensures.kept is));
    }

pub is_each-unbind_last-requires : goal.is_each-unbind_last-requires
is_each-unbind_last-requires t c =
    let searching = c.loop-env.invariant.searching in
    record {
      some = rw c.holds.ensures.kept
          (omega (
            arith,
            tuple_length c.args.self.now.size c.args.count searching.number c.args.env.now.items
                c.loop-env.env.items searching.tuple,
          ));
    }

pub is_each-returns-clause-kept : goal.is_each-returns-clause-kept
is_each-returns-clause-kept t c =
    let searching = c.loop-env.invariant.searching in
    Room-same c.unbind_last.new.self c.args.env.now
    (c.unbind_last.ensures.exact
    ∙ ap (λ (env : Room). take (length env.items - c.args.count) env.items) c.holds.ensures.kept
    ∙ front_left c.args.self.now.size c.args.count searching.number c.args.env.now.items
    c.loop-env.env.items searching.tuple)
    (c.unbind_last.ensures.kept ∙ ap (λ (env : Room). env.room) c.holds.ensures.kept
    ∙ c.loop-env.invariant.room)
