-- Occurrence and renumbering below outermost quantifiers, and lists of formulas with such.
use Rattle.std.proofs.Common.{ℕ, zero, suc, ◌≡◌, ◌+◌, ◌||◌, List, [], ◌∷◌, ◌++◌, refl, sym, ap, ◌∙◌, arith}
use Rattle.std.specs.List.{list_any}
use Rattle.std.proofs.lemmas.List.{map-append}
use Rattle.fof_models.specs.declared.formula.Fof.{Fof}
use Rattle.fof_models.specs.declared.formula.Fof.TheVariants.{ForAll}
use Rattle.enc_marks.specs.declared.open_formula.OpenFormula.{OpenFormula}
use Rattle.enc_marks.specs.Axioms.{closed}
use Rattle.enc_marks.specs.Calls.Closures.{closure_of, closures}
use Rattle.enc_marks.specs.Encoded.{is_present}
use Rattle.enc_marks.specs.Calls.Flags.{renumbered_by}
use Rattle.enc_marks.specs.Occurrence.{occurs, renumber}
use Rattle.enc_marks.proofs.Occurrence.{occurs-for_all, renumber-for_all}

pub closed-add : (first second : ℕ) (p : Fof) →
    closed (first + second) p ≡ closed first (closed second p)
closed-add zero second p = let same : 0 + second ≡ second = omega arith in ap (λ n. closed n p) same
closed-add (suc first) second p =
    let more : suc first + second ≡ suc (first + second) = omega arith in
    ap (λ n. closed n p) more ∙ ap ForAll (closed-add first second p)

pub occurs-closed : (m count : ℕ) (p : Fof) → occurs m (closed count p) ≡ occurs m p
occurs-closed m zero p = refl
occurs-closed m (suc count) p = occurs-for_all m (closed count p) ∙ occurs-closed m count p

pub renumber-closed : (number : ℕ → ℕ) (count : ℕ) (p : Fof) →
    renumber number (closed count p) ≡ closed count (renumber number p)
renumber-closed number zero p = refl
renumber-closed number (suc count) p =
    renumber-for_all number (closed count p) ∙ ap ForAll (renumber-closed number count p)

pub closures-push : (formulas : List OpenFormula) (formula : OpenFormula) →
    closures (formulas ++ formula ∷ []) ≡ closures formulas ++ closure_of formula ∷ []
closures-push formulas formula = map-append closure_of formulas (formula ∷ [])

pub is_present-closures : (m : ℕ) (formulas : List OpenFormula) →
    is_present (closures formulas) m ≡ list_any (λ formula. occurs m formula.body) formulas
is_present-closures m [] = refl
is_present-closures m (formula ∷ formulas) =
    ap (λ b. b || is_present (closures formulas) m)
    (occurs-closed m formula.binders formula.body)
    ∙ ap (λ b. occurs m formula.body || b) (is_present-closures m formulas)

pub renumbered_by-closure : (number : ℕ → ℕ) (formula : OpenFormula) →
    closure_of (record formula { body = renumber number formula.body })
    ≡ renumbered_by number (closure_of formula)
renumbered_by-closure number formula =
    ap (λ (body : Fof). record { name = formula.name; role = formula.role; body = body })
    (sym (renumber-closed number formula.binders formula.body))
