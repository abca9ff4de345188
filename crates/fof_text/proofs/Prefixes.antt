-- The quantifiers that a formula begins with, put one after another.
use Rattle.std.proofs.Common.{◌≡◌, ◌+◌, ℕ, List, [], ◌++◌, Option, refl, sym, ap, ◌∙◌}
use Rattle.std.proofs.Common.{append_assoc}
use Rattle.enc_base.specs.Pending.{Waiting, Put}
use Rattle.enc_base.proofs.Puts.{then_put, put_as, put_none}
use Rattle.fof_models.specs.declared.formula.Fof.{Fof}
use Rattle.fof_text.specs.Pieces.{PutBinders, IsQuantified, binder_text}
use Rattle.fof_text.proofs.Parts.{formula_part}

-- no quantifier so far
pub binders_none : (u : Waiting) (a : Option (List ℕ)) (f : ℕ) (formula : Fof) (depth : ℕ)
    → PutBinders u u a a f f formula depth formula depth
binders_none u a f formula depth = record {
  piece = [];
  put = put_none u a f;
  front = λ names. refl;
}

-- one more
pub binders_more : {u v w : Waiting} {a b c : Option (List ℕ)} {f g h : ℕ} {formula : Fof}
    {depth : ℕ} {inner : Fof} {under : ℕ} {piece : List ℕ} {body : Fof}
    → PutBinders u v a b f g formula depth inner under → IsQuantified inner piece body
    → Put v w b c g h (binder_text piece under)
    → PutBinders u w a c f h formula depth body (under + 1)
binders_more {u} {v} {w} {a} {b} {c} {f} {g} {h} {formula} {depth} {inner} {under} {piece} {body}
    so_far quantified more = record {
      piece = so_far.piece ++ binder_text piece under;
      put = then_put so_far.put more;
      front = λ names. so_far.front names
          ∙ ap (λ z. so_far.piece ++ z) (quantified.front names under)
          ∙ sym (append_assoc so_far.piece (binder_text piece under)
          (formula_part names (under + 1) body));
    }

-- and then the formula under them
pub under_binders : {u v w : Waiting} {a b c : Option (List ℕ)} {f g h : ℕ} {formula : Fof}
    {depth : ℕ} {inner : Fof} {under : ℕ} {piece : List ℕ} (names : List (List ℕ))
    → PutBinders u v a b f g formula depth inner under → formula_part names under inner ≡ piece
    → Put v w b c g h piece → Put u w a c f h (formula_part names depth formula)
under_binders names so_far is more =
    put_as (sym (so_far.front names ∙ ap (λ z. so_far.piece ++ z) is)) (then_put so_far.put more)
