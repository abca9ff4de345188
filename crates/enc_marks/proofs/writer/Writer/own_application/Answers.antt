use Rattle.std.proofs.Common.{◌≡◌, ◌≤◌, ◌<◌, ◌-◌, ◌++◌, ◌∷◌, [], Bool, List, map, min, take, length, get_or, false, append_assoc, ap, sym, ◌∙◌, arith}
use Rattle.std.proofs.lemmas.List.{append-nil}
use Rattle.tf_core.specs.declared.ty.Ty.{Ty}
use Rattle.fof_models.specs.declared.formula.FofTerm.{FofTerm}
use Rattle.fof_models.specs.declared.formula.FofTerm.TheVariants.{Var, Apply}
use Rattle.tf_naked.specs.Covers.{covers}
use Rattle.tf_naked.specs.declared.position.Position.TheVariants.{Argument}
use Rattle.tf_naked.specs.declared.position.Kind.TheVariants.{Universal}
use Rattle.enc_marks.specs.Axioms.{own_types, own_variables}
use Rattle.enc_marks.specs.Encoded.{all_numbers}
use Rattle.enc_marks.specs.Translation.{Bare, placed_all, selected}
use Rattle.enc_marks.specs.Calls.Writing.{placed_in, type_term_in}
use Rattle.enc_marks.proofs.Places.{placed_all-more, placed_all-none, placed_all-take}
use Rattle.enc_marks.proofs.CoverCount.{length-covers}
use Rattle.enc_marks.proofs.Guarded.{length-own_variables, get_or-own_variables}
use Rattle.enc_marks.proofs.writer.Writer.own_application.Goals as goal

pub loop-i-init : goal.loop-i-init
loop-i-init g c =
    let choices = g.C.Choices.choices c.args.self.now.choices.now in
    let normal = c.args.self.now.types.normal.now in
    let symbol = c.args.shape.now.symbol.now in
    sym (ap (λ (more : List FofTerm). c.in_ok-arguments.arguments ++ more)
    (placed_all-none choices (all_numbers normal) normal.signature c.args.depth (covers symbol)
    symbol.arguments (own_variables (length symbol.arguments)))
    ∙ append-nil c.in_ok-arguments.arguments)

pub loop-i-preserved : goal.loop-i-preserved
loop-i-preserved g c =
    let choices = g.C.Choices.choices c.args.self.now.choices.now in
    let normal = c.args.self.now.types.normal.now in
    let depth = c.args.depth in
    let symbol = c.args.shape.now.symbol.now in
    let types = symbol.arguments in
    let tests = covers symbol in
    let i = c.loop-i.i in
    let ty = c.index-types-i.result in
    let variables = own_variables (length types) in
    let nearest : Bare = record { kind = Universal; term = Var 0 } in
    let place = λ (cover : Bool) (ty : Ty) (t : Bare). placed_in choices normal depth (Argument
    cover) ty t in
    let before = c.in_ok-arguments.arguments in
    let front = placed_all choices (all_numbers normal) normal.signature depth tests (take i types)
    (take i variables) in
    let count = ap (λ (items : List Ty). length items) c.as_slice-types.ensures in
    let within : i < length types = omega (arith, c.loop-i-test.true, c.in_ok-count.ensures, count)
    in
    let index = (c.in_ok-count.count - 1) - i in
    let own : Bare = record { kind = Universal; term = Var index } in
    let flag : c.flag_at-cover.result ≡ get_or tests i false =
    c.flag_at-cover.ensures ∙ ap (λ (flags : List Bool). get_or flags i false)
    c.requires.shape.covers_are in
    let declared : ty ≡ get_or types i ty =
    c.index-types-i.is ∙ ap (λ (items : List Ty). get_or items i ty) c.as_slice-types.ensures in
    let variable : own ≡ get_or variables i nearest =
    sym (get_or-own_variables (length types) i index nearest within
    (omega (arith, within, c.in_ok-count.ensures, count))) in
    c.in_ok-push.ensures.ok
    ∙ ap (λ (made : List FofTerm). made ++ c.in_ok-typed.field-0 ∷ []) c.loop-i.invariant
    ∙ ap (λ (t : FofTerm). (before ++ front) ++ t ∷ []) (c.in_ok-typed.ensures
    ∙ ap (λ b. place b ty own) flag
    ∙ ap (λ t. place (get_or tests i false) t own) declared
    ∙ ap (place (get_or tests i false) (get_or types i ty)) variable)
    ∙ append_assoc before front _
    ∙ ap (λ (made : List FofTerm). before ++ made)
    (sym (placed_all-more choices (all_numbers normal) normal.signature depth tests types variables
    i ty nearest
    (omega (arith, within, length-covers symbol)) within
    (omega (arith, within, length-own_variables (length types)))))

pub returns : goal.returns
returns g c =
    let choices = g.C.Choices.choices c.args.self.now.choices.now in
    let normal = c.args.self.now.types.normal.now in
    let depth = c.args.depth in
    let symbol = c.args.shape.now.symbol.now in
    let types = symbol.arguments in
    let i = c.loop-i.i in
    let variables = own_variables (length types) in
    let taken = placed_all choices (all_numbers normal) normal.signature depth (covers symbol)
    (take i types) (take i variables) in
    let count = ap (λ (items : List Ty). length items) c.as_slice-types.ensures in
    let enough : min (length types) (length variables) ≤ i =
    omega (
      arith,
      c.loop-i-test.false,
      c.in_ok-count.ensures,
      count,
      length-own_variables (length
          types),
    ) in
    let kept = λ (flags : List Bool). map (type_term_in normal depth) (selected flags (own_types
    symbol)) in
    record {
      exact = ap (Apply c.args.f) (c.loop-i.invariant
          ∙ ap (λ (made : List FofTerm). made ++ taken)
          (c.in_ok-arguments.ensures (all_numbers normal).constructor)
          ∙ ap (λ (flags : List Bool). kept flags ++ taken) c.requires.shape.kept_are
          ∙ ap (λ (made : List FofTerm). kept (choices.keeps symbol) ++ made)
          (placed_all-take choices (all_numbers normal) normal.signature depth (covers symbol)
          types variables i enough));
    }
