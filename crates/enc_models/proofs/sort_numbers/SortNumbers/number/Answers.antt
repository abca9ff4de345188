use Rattle.std.proofs.Common.{◌∙◌, ap, length, get_or}
use Rattle.std.proofs.lemmas.Option.{slice_get_within}
use Rattle.enc_models.proofs.SortNumbers.{numbered-grown, number-found}
use Rattle.enc_models.proofs.sort_numbers.SortNumbers.number.Goals as goal

pub returns-clause-exact : goal.returns-clause-exact
returns-clause-exact c listed i are at =
    c.number_at.ensures
    ∙ ap (λ numbers. get_or numbers c.in_ok-id.id.index 0) c.as_slice.ensures.value
    ∙ number-found c.number_of.new.self c.args.self.now.sorts.items listed c.in_ok-id.id
    c.args.ty.now i c.in_ok-id.ensures.denoted at (slice_get_within listed i c.args.ty.now at)
    (numbered-grown c.args.self.now.types c.number_of.new.self c.args.self.now.sorts.items
    (length listed) listed c.number_of.ensures.kept c.number_of.ensures.one_to_one are)

pub returns-clause-kept : goal.returns-clause-kept
returns-clause-kept c listed are =
    numbered-grown c.args.self.now.types c.number_of.new.self c.args.self.now.sorts.items
    (length listed) listed c.number_of.ensures.kept c.number_of.ensures.one_to_one are
