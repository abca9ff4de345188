use Rattle.std.proofs.Common.{ap, arith, length, map}
use Rattle.tf_core.specs.Sorts.{joined}
use Rattle.enc_cover.specs.Undercover.{undercover_binders}
use Rattle.enc_cover.proofs.Binders.{undercover_binders-and, undercover_binders-or, undercover_binders-for_all, undercover_binders-exists}
use Rattle.tfenc_cases.proofs.binders.+binders.Goals as goal

pub binders_in-returns-in-And : goal.binders_in-returns-in-And
binders_in-returns-in-And t c = λ g.
    omega (
      arith,
      c.binders_in_parts.ensures g,
      ap (λ parts. length (joined (map (undercover_binders g) parts))) c.as_slice.ensures,
      ap (λ formula. length (undercover_binders g formula)) c.in-And.is,
      ap length (undercover_binders-and g c.in-And.parts),
    )

pub binders_in-returns-in-Or : goal.binders_in-returns-in-Or
binders_in-returns-in-Or t c = λ g.
    omega (
      arith,
      c.binders_in_parts-in-Or.ensures g,
      ap (λ parts. length (joined (map (undercover_binders g) parts))) c.as_slice-in-Or.ensures,
      ap (λ formula. length (undercover_binders g formula)) c.in-Or.is,
      ap length (undercover_binders-or g c.in-Or.parts),
    )

pub binders_in-returns-in-ForAll : goal.binders_in-returns-in-ForAll
binders_in-returns-in-ForAll t c = λ g.
    omega (
      arith,
      c.saturating_add.ensures,
      c.binders_in.ensures g,
      ap (λ formula. length (undercover_binders g formula)) c.get.ensures,
      ap (λ formula. length (undercover_binders g formula)) c.in-ForAll.is,
      ap length (undercover_binders-for_all g c.in-ForAll.field-0 c.in-ForAll.body),
    )

pub binders_in-returns-in-Exists : goal.binders_in-returns-in-Exists
binders_in-returns-in-Exists t c = λ g.
    omega (
      arith,
      c.saturating_add-in-Exists.ensures,
      c.binders_in-in-Exists.ensures g,
      ap (λ formula. length (undercover_binders g formula)) c.get-in-Exists.ensures,
      ap (λ formula. length (undercover_binders g formula)) c.in-Exists.is,
      ap length (undercover_binders-exists g c.in-Exists.field-0 c.in-Exists.body),
    )
