use Rattle.std.proofs.Common.{◌≡◌, ◌≤◌, ◌<◌, ◌-◌, ◌++◌, ◌∷◌, [], ℕ, Bool, List, take, length, get_or, cond, false, ap, sym, ◌∙◌, arith}
use Rattle.std.proofs.lemmas.List.{take_all}
use Rattle.tf_core.specs.declared.ty.Ty.{Ty}
use Rattle.fof_models.specs.declared.formula.FofTerm.TheVariants.{Var}
use Rattle.fof_models.specs.declared.formula.Fof.{Fof}
use Rattle.tf_naked.specs.Covers.{covers}
use Rattle.enc_marks.specs.Encoded.{all_numbers}
use Rattle.enc_marks.specs.Calls.Writing.{bind_in, premises_in}
use Rattle.enc_marks.proofs.Places.{premises-more, premises-none}
use Rattle.enc_marks.proofs.CoverCount.{length-covers}
use Rattle.enc_marks.proofs.writer.Writer.premises.Goals as goal

pub loop-i-init : goal.loop-i-init
loop-i-init g c =
    let normal = c.args.self.now.types.normal.now in
    let symbol = c.args.shape.now.symbol.now in
    c.new-made.ensures
    ∙ sym (premises-none (g.C.Choices.choices c.args.self.now.choices.now) (all_numbers normal)
    normal.signature
    c.args.depth (covers symbol) symbol.arguments (length symbol.arguments))

pub loop-i-preserved : goal.loop-i-preserved
loop-i-preserved g c =
    let choices = g.C.Choices.choices c.args.self.now.choices.now in
    let normal = c.args.self.now.types.normal.now in
    let depth = c.args.depth in
    let symbol = c.args.shape.now.symbol.now in
    let types = symbol.arguments in
    let tests = covers symbol in
    let i = c.loop-i.i in
    let ty = c.index-types-i.result in
    let more = λ (cover : Bool) (t : Ty) (n : ℕ). cond (choices.premise cover t)
    (bind_in choices normal depth t (Var n) ∷ []) [] in
    let count = ap (λ (items : List Ty). length items) c.as_slice-types.ensures in
    let within : i < length types = omega (arith, c.loop-i-test.true, c.in_ok-count.ensures, count)
    in
    let front = premises_in choices normal depth tests (take i types) (length types) in
    let index : (c.in_ok-count.count - 1) - i ≡ (length types - i) - 1 =
    omega (arith, c.in_ok-count.ensures, count) in
    let flag : c.flag_at-cover.result ≡ get_or tests i false =
    c.flag_at-cover.ensures ∙ ap (λ (flags : List Bool). get_or flags i false)
    c.requires.shape.covers_are in
    let declared : ty ≡ get_or types i ty =
    c.index-types-i.is ∙ ap (λ (items : List Ty). get_or items i ty) c.as_slice-types.ensures in
    c.in_ok-add_premise.ensures
    ∙ ap (λ (made : List Fof). made ++ more c.flag_at-cover.result ty ((c.in_ok-count.count - 1) -
    i)) c.loop-i.invariant
    ∙ ap (λ (list : List Fof). front ++ list)
    (ap (λ b. more b ty ((c.in_ok-count.count - 1) - i)) flag
    ∙ ap (λ t. more (get_or tests i false) t ((c.in_ok-count.count - 1) - i)) declared
    ∙ ap (more (get_or tests i false) (get_or types i ty)) index)
    ∙ sym (premises-more choices (all_numbers normal) normal.signature depth tests types i ty
    (length types)
    (omega (arith, within, length-covers symbol)) within)

pub returns : goal.returns
returns g c =
    let choices = g.C.Choices.choices c.args.self.now.choices.now in
    let normal = c.args.self.now.types.normal.now in
    let symbol = c.args.shape.now.symbol.now in
    let types = symbol.arguments in
    let i = c.loop-i.i in
    let count = ap (λ (items : List Ty). length items) c.as_slice-types.ensures in
    let enough : length types ≤ i = omega (
      arith,
      c.loop-i-test.false,
      c.in_ok-count.ensures,
      count,
    ) in
    record {
      exact = c.loop-i.invariant
          ∙ ap (λ (items : List Ty). premises_in choices normal c.args.depth (covers symbol) items
          (length types))
          (take_all i types enough)
          ∙ ap (λ (flags : List Bool). premises_in choices normal c.args.depth flags types (length
          types))
          (sym c.requires.shape.covers_are);
    }
