use Rattle.std.proofs.Common.{rules}
use Rattle.enc_mono.proofs.Partials.{IsPut-inserted, partials_decide}
use Rattle.enc_mono.proofs.partial.put.Goals as goal

pub returns-clause-put : goal.returns-clause-put
returns-clause-put c =
    IsPut-inserted (λ key. key.items) _ (λ a b. partials_decide a.items b.items)
    c.args.set.now.keys c.insert_full.new.self.keys c.in_ok-key.key c.args.bound.now
    (c.in_ok-key.ensures.items_if_clones_equal (search rules)) c.in_ok-added.added
    c.in_ok-added.ensures.added c.in_ok-added.ensures.keys
