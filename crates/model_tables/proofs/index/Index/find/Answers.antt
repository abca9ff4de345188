use Rattle.std.proofs.Common.{sym, ◌∙◌, subst}
use Rattle.std.specs.HashMap as hash
use Rattle.std.specs.Str.{bytes_eq}
use Rattle.model_tables.specs.Held.{IsPlace}
use Rattle.model_tables.proofs.index.Index.find.Goals as goal

pub returns : goal.returns
returns c =
    subst (IsPlace c.args.self.now c.args.name.now) (sym (c.copied.ensures ∙ c.get.ensures.value))
    (subst (λ names. IsPlace names c.args.name.now
    (hash.get_by (λ k. bytes_eq c.args.name.now k.now) c.self.inside.places)) c.self.view_is
    (c.self.invariant.places c.args.name.now))
