use Rattle.std.proofs.lemmas.Result.{err_from_is_err_and}
use Rattle.tf_models.specs.Reading.{tables}
use Rattle.enc_laws.proofs.SoundNormal.{normal_typed}
use Rattle.enc_feather.proofs.OfTwo.{is_monomorphic_by, refused_large, memory_refused}
use Rattle.enc_feather.proofs.lowering.lower.Goals as goal

pub refuse_large-requires-clause-monomorphic : goal.refuse_large-requires-clause-monomorphic
refuse_large-requires-clause-monomorphic c =
    is_monomorphic_by c.args.which c.args.normal.now c.requires.scheme c.requires.applies

pub returns-in_err-refuse_large-clause-refused : goal.returns-in_err-refuse_large-clause-refused
returns-in_err-refuse_large-clause-refused c =
    let p = err_from_is_err_and c.from_residual.result c.from_residual.ensures.1 in
    rw (p.1, p.2)
    (refused_large c.args.which c.args.normal.now c.requires.scheme c.args.encoded.now
    (tables c.args.model.now) c.requires.encoded c.in_err-refuse_large.field-0.0
    c.in_err-refuse_large.ensures.refused)

pub new-requires : goal.new-requires
new-requires c = record { typed = normal_typed c.args.normal.now c.requires.sound }

pub returns-in_err-free-clause-refused : goal.returns-in_err-free-clause-refused
returns-in_err-free-clause-refused c =
    let p = err_from_is_err_and c.from_residual-in_err-free.result
    c.from_residual-in_err-free.ensures.1 in
    rw (p.1, p.2)
    (memory_refused c.args.which c.args.normal.now c.requires.scheme c.args.encoded.now
    (tables c.args.model.now) c.requires.encoded c.in_ok-refuse_large.ensures.within)

pub returns-in-GuardsFeather-clause-exact : goal.returns-in-GuardsFeather-clause-exact
returns-in-GuardsFeather-clause-exact c = rw c.in-GuardsFeather.is c.lower_collapsed_by.ensures.exact

pub returns-in-TagsFeather-clause-exact : goal.returns-in-TagsFeather-clause-exact
returns-in-TagsFeather-clause-exact c = rw c.in-TagsFeather.is c.lower_collapsed_by-in-TagsFeather.ensures.exact
