use Rattle.std.proofs.Common.{◌≡◌, ◌≤◌, ◌<◌, ◌++◌, ◌∷◌, [], Bool, List, map, min, take, ap, sym, ◌∙◌, length, get_or, false, append_assoc, arith}
use Rattle.std.specs.Prelude.{Option, Some}
use Rattle.std.proofs.lemmas.List.{append-nil, get_or-map, length-map}
use Rattle.tf_core.specs.declared.ty.Ty.{Ty}
use Rattle.tf_core.specs.declared.term.Term.{Term}
use Rattle.tf_core.specs.declared.signature.Symbol.{Symbol}
use Rattle.tf_core.specs.Types.{instantiate}
use Rattle.tf_naked.specs.Covers.{covers}
use Rattle.tf_naked.specs.declared.position.Position.TheVariants.{Argument}
use Rattle.fof_models.specs.declared.formula.FofTerm.{FofTerm}
use Rattle.enc_marks.specs.Encoded.{all_numbers}
use Rattle.enc_marks.specs.Translation as specs
use Rattle.enc_marks.specs.Translation.{Bare}
use Rattle.enc_marks.specs.Calls.Writing.{arguments_in, bare_in, placed_in, type_term_in}
use Rattle.enc_marks.proofs.Translation.{bare-variable, bare-apply}
use Rattle.enc_marks.proofs.Results.{ok_with}
use Rattle.enc_marks.proofs.Places.{placed_all-more, placed_all-none, placed_all-take}
use Rattle.enc_marks.specs.declared.slot.Slot.{Slot}
use Rattle.enc_marks.specs.Calls.Slots.{no_slot, slot_in, IsGround}
use Rattle.enc_marks.proofs.ArgumentPlaces.{ground-at, slots_in-at}
use Rattle.enc_marks.proofs.CoverCount.{length-covers}
use Rattle.enc_marks.proofs.Symbols.{slice_get-within, same_at}
use Rattle.enc_marks.proofs.writer.Writer.+term.Goals as goal

pub applied-loop-i-init : goal.applied-loop-i-init
applied-loop-i-init g t c =
    let choices = g.C.Choices.choices c.args.self.now.choices.now in
    let normal = c.args.self.now.types.normal.now in
    let symbol = c.args.shape.now.symbol.now in
    sym (ap (λ (more : List FofTerm). c.in_ok-made.made ++ more)
    (placed_all-none choices (all_numbers normal) normal.signature c.args.depth (covers symbol)
    (map (instantiate c.args.types.now) symbol.arguments)
    (map (bare_in choices normal c.args.depth c.args.kinds.now) c.args.terms.now))
    ∙ append-nil c.in_ok-made.made)

pub applied-loop-i-preserved : goal.applied-loop-i-preserved
applied-loop-i-preserved g t c =
    let choices = g.C.Choices.choices c.args.self.now.choices.now in
    let normal = c.args.self.now.types.normal.now in
    let depth = c.args.depth in
    let symbol = c.args.shape.now.symbol.now in
    let one = instantiate c.args.types.now in
    let bare = bare_in choices normal depth c.args.kinds.now in
    let place = λ (cover : Bool) (ty : Ty) (term : Bare). placed_in choices normal depth (Argument
    cover) ty term in
    let i = c.loop-i.i in
    let tests = covers symbol in
    let types = map one symbol.arguments in
    let terms = map bare c.args.terms.now in
    let ty = c.index-declared-i.result in
    let term = c.index-terms-i.result in
    let before = c.in_ok-made.made in
    let front = specs.placed_all choices (all_numbers normal) normal.signature depth tests (take i
    types) (take i terms) in
    let count = ap (λ (items : List Ty). length items) c.as_slice-declared.ensures in
    let covered = length-covers symbol in
    let all_types = length-map symbol.arguments one in
    let all_terms = length-map c.args.terms.now bare in
    let here : i < length symbol.arguments =
    omega (arith, c.loop-i-test.true, c.min-count.ensures, count) in
    let there : i < length c.args.terms.now =
    omega (arith, c.loop-i-test.true, c.min-count.ensures) in
    let declared : ty ≡ get_or symbol.arguments i ty =
    c.index-declared-i.is ∙ ap (λ (items : List Ty). get_or items i ty) c.as_slice-declared.ensures
    in
    let found = c.slot_at-slot.ensures ∙ ap (λ (slots : List Slot). get_or slots i no_slot)
    c.requires.shape.slots_are
    ∙ slots_in-at choices normal tests symbol.arguments i no_slot ty (omega (arith, here, covered))
    here in
    let flag : c.slot_at-slot.result.cover ≡ get_or tests i false = ap (λ (s : Slot). s.cover) found
    in
    let same : c.slot_at-slot.result ≡ slot_in choices normal c.slot_at-slot.result.cover ty =
    found ∙ ap (λ (t : Ty). slot_in choices normal (get_or tests i false) t) (sym declared)
    ∙ ap (λ (cover : Bool). slot_in choices normal cover ty) (sym flag) in
    let ground : IsGround choices.marking ty = slice_get-within symbol.arguments i here
    (λ one at is. ground-at choices.marking symbol.arguments i ty c.requires.shape.ground
    (at ∙ ap Some (same_at symbol.arguments i here one ty is declared))) in
    c.in_ok-push.ensures.ok
    ∙ ap (λ (made : List FofTerm). made ++ c.in_ok-term.term ∷ []) c.loop-i.invariant
    ∙ ap (λ t. (before ++ front) ++ t ∷ [])
    (c.in_ok-term.ensures ground same
    ∙ ap (λ b. place b (one ty) (bare term)) flag
    ∙ ap (λ t. place (get_or tests i false) (one t) (bare term)) declared
    ∙ ap (λ t. place (get_or tests i false) t (bare term))
    (sym (get_or-map one symbol.arguments i ty (one ty) here))
    ∙ ap (λ t. place (get_or tests i false) (get_or types i (one ty)) (bare t)) c.index-terms-i.is
    ∙ ap (place (get_or tests i false) (get_or types i (one ty)))
    (sym (get_or-map bare c.args.terms.now i term (bare term) there)))
    ∙ append_assoc before front _
    ∙ ap (λ (made : List FofTerm). before ++ made)
    (sym (placed_all-more choices (all_numbers normal) normal.signature depth tests types terms i
    (one ty) (bare term)
    (omega (arith, here, covered)) (omega (arith, here, all_types)) (omega (
      arith,
      there,
      all_terms,
    ))))

pub applied-returns : goal.applied-returns
applied-returns g t c =
    let choices = g.C.Choices.choices c.args.self.now.choices.now in
    let normal = c.args.self.now.types.normal.now in
    let depth = c.args.depth in
    let symbol = c.args.shape.now.symbol.now in
    let one = instantiate c.args.types.now in
    let bare = bare_in choices normal depth c.args.kinds.now in
    let i = c.loop-i.i in
    let tests = covers symbol in
    let types = map one symbol.arguments in
    let terms = map bare c.args.terms.now in
    let taken = specs.placed_all choices (all_numbers normal) normal.signature depth tests (take i
    types) (take i terms) in
    let count = ap (λ (items : List Ty). length items) c.as_slice-declared.ensures in
    let all_types = length-map symbol.arguments one in
    let all_terms = length-map c.args.terms.now bare in
    let enough : min (length types) (length terms) ≤ i =
    omega (arith, c.loop-i-test.false, c.min-count.ensures, count, all_types, all_terms) in
    let kept = λ (flags : List Bool). map (type_term_in normal depth) (specs.selected flags
    c.args.types.now) in
    record {
      exact = c.loop-i.invariant
          ∙ ap (λ (made : List FofTerm). made ++ taken) c.in_ok-made.ensures
          ∙ ap (λ (flags : List Bool). kept flags ++ taken) c.requires.shape.kept_are
          ∙ ap (λ (made : List FofTerm). kept (choices.keeps symbol) ++ made)
          (placed_all-take choices (all_numbers normal) normal.signature depth tests types terms i
          enough);
    }

pub arguments-returns-in-Some : goal.arguments-returns-in-Some
arguments-returns-in-Some g t c =
    let choices = g.C.Choices.choices c.args.self.now.choices.now in
    let normal = c.args.self.now.types.normal.now in
    ok_with c.applied.result
    (λ made promised. promised
    ∙ ap (λ (symbol : Option Symbol). arguments_in choices normal c.args.depth c.args.kinds.now
    symbol
    c.args.types.now c.args.terms.now) (sym c.in-Some.ensures.symbol_is))
    c.applied.ensures.exact

pub arguments-returns-in-None : goal.arguments-returns-in-None
arguments-returns-in-None g t c =
    let choices = g.C.Choices.choices c.args.self.now.choices.now in
    let normal = c.args.self.now.types.normal.now in
    c.new.ensures
    ∙ ap (λ (symbol : Option Symbol). arguments_in choices normal c.args.depth c.args.kinds.now
    symbol
    c.args.types.now c.args.terms.now) (sym c.in-None.ensures)

pub term-returns-in-Var : goal.term-returns-in-Var
term-returns-in-Var g t c =
    let choices = g.C.Choices.choices c.args.self.now.choices.now in
    let normal = c.args.self.now.types.normal.now in
    sym (ap (λ (t : Term). (bare_in choices normal c.args.depth c.args.kinds.now t).term)
    c.in-Var.is
    ∙ ap (λ (b : Bare). b.term) (bare-variable choices (all_numbers normal) normal.signature
    c.args.depth c.args.kinds.now c.in-Var.i))

pub term-returns-in_ok-arguments-in-Apply : goal.term-returns-in_ok-arguments-in-Apply
term-returns-in_ok-arguments-in-Apply g t c =
    let choices = g.C.Choices.choices c.args.self.now.choices.now in
    let normal = c.args.self.now.types.normal.now in
    let promised = c.in_ok-arguments-in-Apply.ensures in
    let layer = ap (λ (b : Bare). b.term) (bare-apply choices (all_numbers normal) normal.signature
    c.args.depth c.args.kinds.now c.in-Apply.f c.in-Apply.types c.in-Apply.terms) in
    cc (promised, layer, c.in-Apply.is, c.as_slice.ensures, c.as_slice-in-Apply.ensures)
