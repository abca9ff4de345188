-- Typing axioms of more and more symbols, and last axioms of more and more sorts.
use Rattle.std.proofs.Common.{ℕ, suc, ◌≡◌, ◌+◌, Bool, true, false, cond, List, [], ◌∷◌, ◌++◌, length, refl, sym, ap, ◌∙◌, append_assoc, arith}
use Rattle.tf_core.specs.declared.ty.Ty.{Ty}
use Rattle.tf_core.specs.declared.signature.Symbol.{Symbol}
use Rattle.tf_core.specs.declared.normal.Normal.{Normal}
use Rattle.fof_models.specs.declared.problem.FofFormula.{FofFormula}
use Rattle.enc_marks.specs.Choices.{Choices}
use Rattle.enc_marks.specs.Axioms.{last_axiom}
use Rattle.enc_marks.specs.Names.{sort_last_name}
use Rattle.enc_marks.specs.Encoded.{all_numbers, axiom_named, typing_of, typing_axioms, sort_axioms}

pub typing_axioms-push : (c : Choices) (normal : Normal) (f : ℕ) (symbols : List Symbol) (symbol :
    Symbol) →
    typing_axioms c normal f (symbols ++ symbol ∷ [])
    ≡ typing_axioms c normal f symbols ++ typing_of c normal (f + length symbols) symbol
    symbol.result
typing_axioms-push c normal f [] symbol =
    let here : f + 0 ≡ f = omega arith in
    append-nothing (typing_of c normal f symbol symbol.result)
    ∙ sym (ap (λ n. typing_of c normal n symbol symbol.result) here)
  where
    append-nothing : (items : List FofFormula) → items ++ [] ≡ items
    append-nothing [] = refl
    append-nothing (item ∷ items) = ap (λ rest. item ∷ rest) (append-nothing items)
typing_axioms-push c normal f (other ∷ symbols) symbol =
    let first = typing_of c normal f other other.result in
    let next : f + 1 + length symbols ≡ f + suc (length symbols) = omega arith in
    ap (λ (rest : List FofFormula). first ++ rest) (typing_axioms-push c normal (f + 1) symbols
    symbol
    ∙ ap (λ n. typing_axioms c normal (f + 1) symbols ++ typing_of c normal n symbol symbol.result)
    next)
    ∙ sym (append_assoc first (typing_axioms c normal (f + 1) symbols) _)

-- last axioms of two lists of sorts
pub sort_axioms-append : (c : Choices) (normal : Normal) (sorts others : List Ty) →
    sort_axioms c normal (sorts ++ others) ≡ sort_axioms c normal sorts ++ sort_axioms c normal others
sort_axioms-append c normal [] others = refl
sort_axioms-append c normal (sort ∷ sorts) others =
    by (c.last sort) (sort_axioms-append c normal sorts others)
  where
    one : FofFormula
    one = axiom_named (sort_last_name normal c.binding sort)
        (last_axiom c (all_numbers normal) normal.signature c.binding 0 sort)

    by : (b : Bool) →
        sort_axioms c normal (sorts ++ others) ≡ sort_axioms c normal sorts ++ sort_axioms c normal others →
        cond b (one ∷ sort_axioms c normal (sorts ++ others)) (sort_axioms c normal (sorts ++ others))
        ≡ cond b (one ∷ sort_axioms c normal sorts) (sort_axioms c normal sorts)
        ++ sort_axioms c normal others
    by true rest = ap (λ (list : List FofFormula). one ∷ list) rest
    by false rest = rest
