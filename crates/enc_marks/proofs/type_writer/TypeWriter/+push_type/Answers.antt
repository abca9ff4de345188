use Rattle.std.proofs.Common.{◌++◌, List, ℕ, append_assoc, codes, flat_map, ap, sym, ◌∙◌}
use Rattle.std.specs.Prelude.{slice_get}
use Rattle.std.proofs.lemmas.List.{append-nil}
use Rattle.tf_core.specs.declared.ty.Ty.{Ty}
use Rattle.enc_marks.specs.Names.{flat_constructor, flat_name}
use Rattle.enc_marks.proofs.Names.{flat_name-variable, flat_name-apply}
use Rattle.enc_marks.proofs.Results.{on_ok}
use Rattle.enc_marks.proofs.type_writer.TypeWriter.+push_type.Goals as goal

pub push_type-returns-in-Var : goal.push_type-returns-in-Var
push_type-returns-in-Var t c =
    let normal = c.args.self.now.normal.now in
    let name = c.args.name.now.items in
    sym (ap (λ (more : List ℕ). name ++ more)
    (ap (flat_name normal) c.in-Var.is ∙ flat_name-variable normal c.in-Var.field-0)
    ∙ append-nil name)

pub push_type-returns-in_ok-push_constructor-in-Apply :
    goal.push_type-returns-in_ok-push_constructor-in-Apply
push_type-returns-in_ok-push_constructor-in-Apply t c =
    let normal = c.args.self.now.normal.now in
    let name = c.args.name.now.items in
    let constructor = flat_constructor normal c.in-Apply.c
    (slice_get normal.signature.constructors c.in-Apply.c) in
    let behind = λ (types : List Ty). flat_map
    (λ argument. codes "_" ++ flat_name normal argument) types in
    on_ok c.push_types.result
    (λ pushed. pushed
    ∙ ap (λ (front : List ℕ). front ++ behind c.as_slice.result.now)
    c.in_ok-push_constructor-in-Apply.ensures
    ∙ ap (λ (types : List Ty). (name ++ constructor) ++ behind types) c.as_slice.ensures
    ∙ append_assoc name constructor (behind c.in-Apply.arguments)
    ∙ ap (λ (more : List ℕ). name ++ more)
    (sym (ap (flat_name normal) c.in-Apply.is
    ∙ flat_name-apply normal c.in-Apply.c c.in-Apply.arguments)))
    c.push_types.ensures
