use Rattle.std.proofs.Common.{[], ◌∷◌, sym, ◌∙◌, arith, length-append}
use Rattle.model_tables.proofs.SizeSteps.{size_goes, size_positive, positive_more}
use Rattle.model_tables.proofs.sizes.more_sizes.Goals as goal

pub sizes-preserved : goal.sizes-preserved
sizes-preserved c = record {
  goes = λ g total.
      c.sizes.invariant.goes g total
      ∙ size_goes g total c.sizes.sizes c.sizes.reader c.advance.new.self c.in-Some.size
      c.push-in-Some.new.self c.sizes.invariant.inhabited.each (sym c.in-Some.ensures)
      c.advance.ensures c.in_ok-check_size-2.ensures c.in_ok-push-2.ensures.ok;
  inhabited =
      let each = positive_more c.sizes.sizes c.in-Some.size c.sizes.invariant.inhabited.each
      (size_positive c.in-Some.size _ c.in_ok-check_size-2.ensures) in
      record {
        some =
            rw c.in_ok-push-2.ensures.ok
            (omega (arith, length-append c.sizes.sizes (c.in-Some.size ∷ [])));
        each = rw c.in_ok-push-2.ensures.ok each;
      };
}
