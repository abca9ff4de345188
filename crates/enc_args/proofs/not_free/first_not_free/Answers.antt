use Rattle.std.proofs.Common.{sym, ap, ◌∙◌, eqb, length}
use Rattle.std.proofs.lemmas.Bool.{false≢true, eqb-true}
use Rattle.std.proofs.lemmas.Bool.Decides.{Decides-eqb}
use Rattle.enc_args.proofs.NotFree.{alone_taken, first_of_several, none_refused}
use Rattle.enc_args.proofs.not_free.first_not_free.Goals as goal

pub returns-in_default : goal.returns-in_default
returns-in_default c = record {
  exact = sym (none_refused c.args.normal.now c.requires.sound (sym c.in_default.ensures.exact));
}

pub returns-then-is_one : goal.returns-then-is_one
returns-then-is_one c = record {
  exact = sym (alone_taken c.args.normal.now c.requires.sound
      (ap length (sym c.in_ok-sorts.ensures.exact ∙ sym c.as_slice-2.ensures)
      ∙ eqb-true (length c.as_slice-2.result.now) 1 (sym c.is_one.ensures ∙ c.if-is_one.true)));
}

pub returns : goal.returns
returns c = record {
  exact = c.in-Some.ensures.exact
      ∙ sym (first_of_several c.args.normal.now c.requires.sound
      (λ one. false≢true (sym c.if-is_one.false ∙ c.is_one.ensures
      ∙ (Decides-eqb (length c.as_slice-2.result.now) 1).1
      (ap length (c.as_slice-2.ensures ∙ c.in_ok-sorts.ensures.exact) ∙ one))));
}
