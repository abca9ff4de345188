use Rattle.std.proofs.Common.{refl, ◌∙◌, arith}
use Rattle.std.proofs.lemmas.Option.{slice_get_within}
use Rattle.enc_marks.specs.declared.mark.Mark.TheVariants as mark
use Rattle.enc_models.specs.Calls.Collapsing.{parts_of}
use Rattle.enc_models.proofs.CollapsedMarks.{symbol_of, symbol_for, symbol_gives, constructor_for, constructor_gives, never_guard, never_tag, guard_within, tag_within, guard_one, tag_one, guard_gives, tag_gives}
use Rattle.enc_models.proofs.collapsing.CollapsingUntypedSource.value.Goals as goal

pub bounds-as_slice-symbol : goal.bounds-as_slice-symbol
bounds-as_slice-symbol g c =
    let m = (parts_of g.C.Choices.choices c.args.self.now) in
    let of = symbol_of m c.requires.ready c.args.symbol c.args.elements.now c.requires.within in
    rw c.as_slice.ensures
    (slice_get_within c.args.self.now.encoded.now.marks c.args.symbol of.one.mark of.mark_at)

pub symbol_value-requires-clause-symbol : goal.symbol_value-requires-clause-symbol
symbol_value-requires-clause-symbol g c =
    let m = (parts_of g.C.Choices.choices c.args.self.now) in
    let of = symbol_of m c.requires.ready c.args.symbol c.args.elements.now c.requires.within in
    symbol_for m c.requires.ready c.args.symbol c.args.elements.now of
    c.as_slice.result.now c.as_slice.ensures (mark.Symbol c.in-Symbol.f) (mark.Symbol 0) c.in-Symbol.is c.in-Symbol.f refl

pub constructor_value-requires-clause-constructor : goal.constructor_value-requires-clause-constructor
constructor_value-requires-clause-constructor g c =
    let m = (parts_of g.C.Choices.choices c.args.self.now) in
    let of = symbol_of m c.requires.ready c.args.symbol c.args.elements.now c.requires.within in
    constructor_for m c.requires.ready c.args.symbol c.args.elements.now of
    c.as_slice.result.now c.as_slice.ensures (mark.Constructor c.in-Constructor.c) (mark.Symbol 0) c.in-Constructor.is c.in-Constructor.c refl

pub unreachable-requires : goal.unreachable-requires
unreachable-requires g c =
    let m = (parts_of g.C.Choices.choices c.args.self.now) in
    let of = symbol_of m c.requires.ready c.args.symbol c.args.elements.now c.requires.within in
    never_guard m c.requires.ready c.args.symbol c.args.elements.now of
    c.as_slice.result.now c.as_slice.ensures (mark.Guard) (mark.Symbol 0) c.in-Guard.is refl

pub unreachable-requires-in-Tag : goal.unreachable-requires-in-Tag
unreachable-requires-in-Tag g c =
    let m = (parts_of g.C.Choices.choices c.args.self.now) in
    let of = symbol_of m c.requires.ready c.args.symbol c.args.elements.now c.requires.within in
    never_tag m c.requires.ready c.args.symbol c.args.elements.now of
    c.as_slice.result.now c.as_slice.ensures (mark.Tag) (mark.Symbol 0) c.in-Tag.is refl

pub returns-in-Symbol : goal.returns-in-Symbol
returns-in-Symbol g c =
    let m = (parts_of g.C.Choices.choices c.args.self.now) in
    let of = symbol_of m c.requires.ready c.args.symbol c.args.elements.now c.requires.within in
    c.symbol_value.ensures.exact
    ∙ symbol_gives m c.requires.ready c.args.symbol c.args.elements.now of
    c.as_slice.result.now c.as_slice.ensures (mark.Symbol c.in-Symbol.f) (mark.Symbol 0) c.in-Symbol.is c.in-Symbol.f refl

pub returns-in-Constructor : goal.returns-in-Constructor
returns-in-Constructor g c =
    let m = (parts_of g.C.Choices.choices c.args.self.now) in
    let of = symbol_of m c.requires.ready c.args.symbol c.args.elements.now c.requires.within in
    c.constructor_value.ensures.exact
    ∙ constructor_gives m c.requires.ready c.args.symbol c.args.elements.now of
    c.as_slice.result.now c.as_slice.ensures (mark.Constructor c.in-Constructor.c) (mark.Symbol 0) c.in-Constructor.is c.in-Constructor.c refl

pub guard_value-requires : goal.guard_value-requires
guard_value-requires g c =
    let m = (parts_of g.C.Choices.choices c.args.self.now) in
    let of = symbol_of m c.requires.ready c.args.symbol c.args.elements.now c.requires.within in
    record {
      sort = guard_within m c.requires.ready c.args.symbol c.args.elements.now of c.as_slice.result.now
          c.as_slice.ensures (mark.SortGuard c.in-SortGuard.s) (mark.Symbol 0) c.in-SortGuard.is c.in-SortGuard.s refl;
    }

pub tag_value-requires : goal.tag_value-requires
tag_value-requires g c =
    let m = (parts_of g.C.Choices.choices c.args.self.now) in
    let of = symbol_of m c.requires.ready c.args.symbol c.args.elements.now c.requires.within in
    record {
      sort = tag_within m c.requires.ready c.args.symbol c.args.elements.now of c.as_slice.result.now
          c.as_slice.ensures (mark.SortTag c.in-SortTag.s) (mark.Symbol 0) c.in-SortTag.is c.in-SortTag.s refl;
    }

pub bounds-elements-0 : goal.bounds-elements-0
bounds-elements-0 g c =
    let m = (parts_of g.C.Choices.choices c.args.self.now) in
    let of = symbol_of m c.requires.ready c.args.symbol c.args.elements.now c.requires.within in
    let one = guard_one m c.requires.ready c.args.symbol c.args.elements.now of
    c.as_slice.result.now c.as_slice.ensures (mark.SortGuard c.in-SortGuard.s) (mark.Symbol 0) c.in-SortGuard.is c.in-SortGuard.s refl in
    omega (arith, one)

pub bounds-elements-0-in-SortTag : goal.bounds-elements-0-in-SortTag
bounds-elements-0-in-SortTag g c =
    let m = (parts_of g.C.Choices.choices c.args.self.now) in
    let of = symbol_of m c.requires.ready c.args.symbol c.args.elements.now c.requires.within in
    let one = tag_one m c.requires.ready c.args.symbol c.args.elements.now of
    c.as_slice.result.now c.as_slice.ensures (mark.SortTag c.in-SortTag.s) (mark.Symbol 0) c.in-SortTag.is c.in-SortTag.s refl in
    omega (arith, one)

pub returns-in-SortGuard : goal.returns-in-SortGuard
returns-in-SortGuard g c =
    let m = (parts_of g.C.Choices.choices c.args.self.now) in
    let of = symbol_of m c.requires.ready c.args.symbol c.args.elements.now c.requires.within in
    c.guard_value.ensures.exact
    ∙ guard_gives m c.requires.ready c.args.symbol c.args.elements.now of
    c.as_slice.result.now c.as_slice.ensures (mark.SortGuard c.in-SortGuard.s) (mark.Symbol 0) c.in-SortGuard.is c.in-SortGuard.s refl

pub returns-in-SortTag : goal.returns-in-SortTag
returns-in-SortTag g c =
    let m = (parts_of g.C.Choices.choices c.args.self.now) in
    let of = symbol_of m c.requires.ready c.args.symbol c.args.elements.now c.requires.within in
    c.tag_value.ensures.exact
    ∙ tag_gives m c.requires.ready c.args.symbol c.args.elements.now of
    c.as_slice.result.now c.as_slice.ensures (mark.SortTag c.in-SortTag.s) (mark.Symbol 0) c.in-SortTag.is c.in-SortTag.s refl
