use Rattle.std.proofs.Common.{refl, sym, ap, ◌∙◌}
use Rattle.std.proofs.lemmas.Option.{slice_get_within}
use Rattle.enc_marks.specs.declared.mark.Mark.TheVariants as mark
use Rattle.enc_marks.specs.declared.choices.Binding.TheVariants.{ByGuard, ByTag}
use Rattle.enc_laws.specs.MergedStructure.{merged_mark}
use Rattle.enc_models.specs.Calls.Merging.{parts_of, typed_in}
use Rattle.enc_models.proofs.Marks.{symbol_of, symbol_for, symbol_gives, constructor_for, constructor_gives, guard_arity, guard_two, guard_gives, tag_arity, tag_two, tag_gives, never_sort_guard, never_sort_tag, two_below}
use Rattle.enc_models.proofs.merging.MergingUntypedSource.value.Goals as goal

pub bounds-as_slice-symbol : goal.bounds-as_slice-symbol
bounds-as_slice-symbol g c =
    let of = symbol_of (parts_of g.C.Choices.choices c.args.self.now) c.requires.ready c.args.symbol c.args.elements.now
    c.requires.within in
    rw c.as_slice.ensures
    (slice_get_within c.args.self.now.encoded.now.marks c.args.symbol of.one.mark of.mark_at)

pub symbol_value-requires-clause-symbol : goal.symbol_value-requires-clause-symbol
symbol_value-requires-clause-symbol g c =
    let of = symbol_of (parts_of g.C.Choices.choices c.args.self.now) c.requires.ready c.args.symbol c.args.elements.now
    c.requires.within in
    symbol_for (parts_of g.C.Choices.choices c.args.self.now) c.args.symbol c.args.elements.now of c.as_slice.result.now
    c.as_slice.ensures (mark.Symbol c.in-Symbol.f) (mark.Symbol 0) c.in-Symbol.is c.in-Symbol.f refl

pub constructor_value-requires-clause-constructor : goal.constructor_value-requires-clause-constructor
constructor_value-requires-clause-constructor g c =
    let of = symbol_of (parts_of g.C.Choices.choices c.args.self.now) c.requires.ready c.args.symbol c.args.elements.now
    c.requires.within in
    constructor_for (parts_of g.C.Choices.choices c.args.self.now) c.args.symbol c.args.elements.now of c.as_slice.result.now
    c.as_slice.ensures (mark.Constructor c.in-Constructor.c) (mark.Symbol 0) c.in-Constructor.is c.in-Constructor.c refl

pub two_of-member-requires : goal.two_of-member-requires
two_of-member-requires g c =
    let of = symbol_of (parts_of g.C.Choices.choices c.args.self.now) c.requires.ready c.args.symbol c.args.elements.now
    c.requires.within in
    guard_two (parts_of g.C.Choices.choices c.args.self.now) c.args.symbol c.args.elements.now of c.as_slice.result.now
    c.as_slice.ensures (mark.Guard) (mark.Symbol 0) c.in-Guard.is refl

pub two_of-member-requires-in-Tag : goal.two_of-member-requires-in-Tag
two_of-member-requires-in-Tag g c =
    let of = symbol_of (parts_of g.C.Choices.choices c.args.self.now) c.requires.ready c.args.symbol c.args.elements.now
    c.requires.within in
    tag_two (parts_of g.C.Choices.choices c.args.self.now) c.args.symbol c.args.elements.now of c.as_slice.result.now
    c.as_slice.ensures (mark.Tag) (mark.Symbol 0) c.in-Tag.is refl

pub guard_value-requires-clause-member : goal.guard_value-requires-clause-member
guard_value-requires-clause-member g c =
    let of = symbol_of (parts_of g.C.Choices.choices c.args.self.now) c.requires.ready c.args.symbol c.args.elements.now
    c.requires.within in
    (two_below (parts_of g.C.Choices.choices c.args.self.now) c.args.symbol c.args.elements.now of c.as_slice.result.now
    c.as_slice.ensures (mark.Guard) (mark.Symbol 0) c.in-Guard.is
    c.two_of-member.result.0 c.two_of-member.result.1 of.one.symbol.arity
    c.two_of-member.ensures of.below (guard_arity (parts_of g.C.Choices.choices c.args.self.now) c.args.symbol c.args.elements.now of c.as_slice.result.now
    c.as_slice.ensures (mark.Guard) (mark.Symbol 0) c.in-Guard.is refl)).0

pub guard_value-requires-clause-number : goal.guard_value-requires-clause-number
guard_value-requires-clause-number g c =
    let of = symbol_of (parts_of g.C.Choices.choices c.args.self.now) c.requires.ready c.args.symbol c.args.elements.now
    c.requires.within in
    (two_below (parts_of g.C.Choices.choices c.args.self.now) c.args.symbol c.args.elements.now of c.as_slice.result.now
    c.as_slice.ensures (mark.Guard) (mark.Symbol 0) c.in-Guard.is
    c.two_of-member.result.0 c.two_of-member.result.1 of.one.symbol.arity
    c.two_of-member.ensures of.below (guard_arity (parts_of g.C.Choices.choices c.args.self.now) c.args.symbol c.args.elements.now of c.as_slice.result.now
    c.as_slice.ensures (mark.Guard) (mark.Symbol 0) c.in-Guard.is refl)).1

pub tag_value-requires-clause-member : goal.tag_value-requires-clause-member
tag_value-requires-clause-member g c =
    let of = symbol_of (parts_of g.C.Choices.choices c.args.self.now) c.requires.ready c.args.symbol c.args.elements.now
    c.requires.within in
    (two_below (parts_of g.C.Choices.choices c.args.self.now) c.args.symbol c.args.elements.now of c.as_slice.result.now
    c.as_slice.ensures (mark.Tag) (mark.Symbol 0) c.in-Tag.is
    c.two_of-member-in-Tag.result.0 c.two_of-member-in-Tag.result.1 of.one.symbol.arity
    c.two_of-member-in-Tag.ensures of.below (tag_arity (parts_of g.C.Choices.choices c.args.self.now) c.args.symbol c.args.elements.now of c.as_slice.result.now
    c.as_slice.ensures (mark.Tag) (mark.Symbol 0) c.in-Tag.is refl)).0

pub tag_value-requires-clause-number : goal.tag_value-requires-clause-number
tag_value-requires-clause-number g c =
    let of = symbol_of (parts_of g.C.Choices.choices c.args.self.now) c.requires.ready c.args.symbol c.args.elements.now
    c.requires.within in
    (two_below (parts_of g.C.Choices.choices c.args.self.now) c.args.symbol c.args.elements.now of c.as_slice.result.now
    c.as_slice.ensures (mark.Tag) (mark.Symbol 0) c.in-Tag.is
    c.two_of-member-in-Tag.result.0 c.two_of-member-in-Tag.result.1 of.one.symbol.arity
    c.two_of-member-in-Tag.ensures of.below (tag_arity (parts_of g.C.Choices.choices c.args.self.now) c.args.symbol c.args.elements.now of c.as_slice.result.now
    c.as_slice.ensures (mark.Tag) (mark.Symbol 0) c.in-Tag.is refl)).1

pub unreachable-requires : goal.unreachable-requires
unreachable-requires g c =
    let of = symbol_of (parts_of g.C.Choices.choices c.args.self.now) c.requires.ready c.args.symbol c.args.elements.now
    c.requires.within in
    never_sort_guard (parts_of g.C.Choices.choices c.args.self.now) c.args.symbol c.args.elements.now of c.as_slice.result.now
    c.as_slice.ensures (mark.SortGuard c.in-SortGuard.field-0) (mark.Symbol 0) c.in-SortGuard.is c.in-SortGuard.field-0 refl

pub unreachable-requires-in-SortTag : goal.unreachable-requires-in-SortTag
unreachable-requires-in-SortTag g c =
    let of = symbol_of (parts_of g.C.Choices.choices c.args.self.now) c.requires.ready c.args.symbol c.args.elements.now
    c.requires.within in
    never_sort_tag (parts_of g.C.Choices.choices c.args.self.now) c.args.symbol c.args.elements.now of c.as_slice.result.now
    c.as_slice.ensures (mark.SortTag c.in-SortTag.field-0) (mark.Symbol 0) c.in-SortTag.is c.in-SortTag.field-0 refl

pub returns-in-Symbol : goal.returns-in-Symbol
returns-in-Symbol g c =
    let of = symbol_of (parts_of g.C.Choices.choices c.args.self.now) c.requires.ready c.args.symbol c.args.elements.now
    c.requires.within in
    c.symbol_value.ensures.exact
    ∙ symbol_gives (parts_of g.C.Choices.choices c.args.self.now) c.args.symbol c.args.elements.now of c.as_slice.result.now
    c.as_slice.ensures (mark.Symbol c.in-Symbol.f) (mark.Symbol 0) c.in-Symbol.is c.in-Symbol.f refl

pub returns-in-Constructor : goal.returns-in-Constructor
returns-in-Constructor g c =
    let of = symbol_of (parts_of g.C.Choices.choices c.args.self.now) c.requires.ready c.args.symbol c.args.elements.now
    c.requires.within in
    c.constructor_value.ensures.exact
    ∙ constructor_gives (parts_of g.C.Choices.choices c.args.self.now) c.args.symbol c.args.elements.now of c.as_slice.result.now
    c.as_slice.ensures (mark.Constructor c.in-Constructor.c) (mark.Symbol 0) c.in-Constructor.is c.in-Constructor.c refl

pub returns-in-Guard : goal.returns-in-Guard
returns-in-Guard g c =
    let of = symbol_of (parts_of g.C.Choices.choices c.args.self.now) c.requires.ready c.args.symbol c.args.elements.now
    c.requires.within in
    c.guard_value.ensures.exact
    ∙ ap (merged_mark (typed_in (parts_of g.C.Choices.choices c.args.self.now)) ByGuard) (sym c.two_of-member.ensures)
    ∙ guard_gives (parts_of g.C.Choices.choices c.args.self.now) c.args.symbol c.args.elements.now of c.as_slice.result.now
    c.as_slice.ensures (mark.Guard) (mark.Symbol 0) c.in-Guard.is refl

pub returns-in-Tag : goal.returns-in-Tag
returns-in-Tag g c =
    let of = symbol_of (parts_of g.C.Choices.choices c.args.self.now) c.requires.ready c.args.symbol c.args.elements.now
    c.requires.within in
    c.tag_value.ensures.exact
    ∙ ap (merged_mark (typed_in (parts_of g.C.Choices.choices c.args.self.now)) ByTag) (sym c.two_of-member-in-Tag.ensures)
    ∙ tag_gives (parts_of g.C.Choices.choices c.args.self.now) c.args.symbol c.args.elements.now of c.as_slice.result.now
    c.as_slice.ensures (mark.Tag) (mark.Symbol 0) c.in-Tag.is refl
