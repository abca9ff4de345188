-- Binders that are read part by part.
use Rattle.std.proofs.Common.{ℕ, ◌≡◌, ◌≤◌, ◌<◌, ◌+◌, List, [], ◌∷◌, ◌++◌, length, drop, map, get_or, append_assoc, sym, ap, ◌∙◌}
use Rattle.std.proofs.lemmas.List.{drop_all, drop_more}
use Rattle.tf_core.specs.declared.nnf.Nnf.{Nnf}
use Rattle.tf_core.specs.Sorts.{joined}
use Rattle.tf_naked.specs.declared.binder.Binder.{Binder}
use Rattle.enc_marks.specs.Calls.Writing.{AfterReading}

-- nothing is read
pub after_nothing : (binders before : List Binder) (Fact : Type 0) → binders ≡ [] → Fact →
    AfterReading binders before before Fact
after_nothing binders before Fact none fact = λ rest is.
    (is ∙ ap (λ (items : List Binder). items ++ rest) none, fact)

-- the binders are those of another list, and what holds follows from what held
pub after_same : (binders others before after : List Binder) (Fact Other : Type 0) →
    binders ≡ others → (Other → Fact) → AfterReading others before after Other →
    AfterReading binders before after Fact
after_same binders others before after Fact Other same follows reads = λ rest is.
    let read = reads rest (is ∙ ap (λ (items : List Binder). items ++ rest) same) in
    (read.0, follows read.1)

-- the binders of the parts from the i-th on: those of the i-th, then the others
pub joined-rest : (binders_in : Nnf → List Binder) (parts : List Nnf) (i : ℕ) (part : Nnf)
    (rest : List Binder) → i < length parts → part ≡ get_or parts i part →
    joined (map binders_in (drop i parts)) ++ rest
    ≡ binders_in part ++ (joined (map binders_in (drop (i + 1) parts)) ++ rest)
joined-rest binders_in parts i part rest within is =
    ap (λ (items : List Nnf). joined (map binders_in items) ++ rest)
    (drop_more parts i part within ∙ ap (λ p. p ∷ drop (i + 1) parts) (sym is))
    ∙ append_assoc (binders_in part) (joined (map binders_in (drop (i + 1) parts))) rest

pub joined-last : (binders_in : Nnf → List Binder) (parts : List Nnf) (i : ℕ) (rest : List Binder) →
    length parts ≤ i → joined (map binders_in (drop i parts)) ++ rest ≡ rest
joined-last binders_in parts i rest ends =
    ap (λ (items : List Nnf). joined (map binders_in items) ++ rest) (drop_all i parts ends)
