use Rattle.std.proofs.Common.{arith, ap, sym, subst, ◌∙◌, ℕ, List, map, min}
use Rattle.std.proofs.lemmas.List.{take_all}
use Rattle.tf_collapse.specs.Domain.{CollapsedDomain, IsDomain}
use Rattle.enc_models.proofs.CollapsedSizes.{domain_formed}
use Rattle.enc_models.proofs.to_collapsed.collapsed_domain.Goals as goal

pub new-requires : goal.new-requires
new-requires c =
    let whole = c.loop-own.invariant
    ∙ ap (λ (sizes : List ℕ). map (λ own. min own c.args.size) sizes)
    (take_all c.loop-own.own-index c.args.sizes.now (omega (arith, c.loop-own-test.false))) in
    record {
      domain = subst (λ (sizes : List ℕ). IsDomain (record { big = c.args.size; sizes = sizes }))
          (sym whole)
          (domain_formed c.args.size c.args.sizes.now c.requires.some c.requires.inhabited);
    }
