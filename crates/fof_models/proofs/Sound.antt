-- The equations of soundness and of counts, one a variant, in their order.
use Rattle.std.specs.Prelude.{ℕ, ◌+◌, ◌≡◌, Bool, true, false, ◌&&◌, List, map, length, leb, ltb, max, sum, slice_get}
use Rattle.std.specs.List.{list_all}
use Rattle.std.proofs.Common.{sym, ap, ◌∙◌}
use Rattle.std.proofs.lemmas.List.{length-map}
use Rattle.std.proofs.lemmas.List.Folds.{list_all-map}
use Rattle.fof_models.specs.declared.formula.FofTerm.{FofTerm, roll-FofTerm}
use Rattle.fof_models.specs.declared.formula.FofTerm.TheVariants as term
use Rattle.fof_models.specs.declared.formula.FofTerm.TheOpen.{FofTerm-F}
use Rattle.fof_models.specs.declared.formula.FofTerm.TheOpen as term_layer
use Rattle.fof_models.specs.declared.formula.FofTerm.TheFolds.{fold-roll-FofTerm, map-FofTerm}
use Rattle.fof_models.specs.declared.formula.Fof.{Fof, roll-Fof}
use Rattle.fof_models.specs.declared.formula.Fof.TheVariants as formula
use Rattle.fof_models.specs.declared.formula.Fof.TheOpen.{Fof-F}
use Rattle.fof_models.specs.declared.formula.Fof.TheOpen as layer
use Rattle.fof_models.specs.declared.formula.Fof.TheFolds.{fold-roll-Fof, map-Fof}
use Rattle.fof_models.specs.declared.problem.FofSymbol.{FofSymbol}
use Rattle.fof_models.specs.Sound.{is_symbol, is_term, is_term_step, are_terms, is_formula, is_formula_step, has_pairs, has_pairs_step, binder_count, binder_count_step, greatest, depth, depth_step}

is_term-roll : (signature : List FofSymbol) (x : FofTerm-F FofTerm) (binders : ℕ) →
    is_term signature (roll-FofTerm x) binders
    ≡ is_term_step signature (map-FofTerm FofTerm (ℕ → Bool) (is_term signature) x) binders
unfolding is_term
is_term-roll signature x binders =
    ap (λ (test : ℕ → Bool). test binders) (fold-roll-FofTerm (ℕ → Bool) (is_term_step signature) x)

pub is_term-variable : (signature : List FofSymbol) (i : ℕ) (binders : ℕ) →
    is_term signature (term.Var i) binders
    ≡ ltb i binders
is_term-variable signature i binders =
    ap (λ x. is_term signature x binders) (sym (term.rolls-Var i)) ∙ is_term-roll signature (term_layer.Var i) binders

pub is_term-apply : (signature : List FofSymbol) (f : ℕ) (terms : List FofTerm) (binders : ℕ) →
    is_term signature (term.Apply f terms) binders
    ≡ (is_symbol (slice_get signature f) false (length terms) && are_terms signature terms binders)
is_term-apply signature f terms binders =
    ap (λ x. is_term signature x binders) (sym (term.rolls-Apply f terms)) ∙ is_term-roll signature (term_layer.Apply f terms) binders
    ∙ ap (λ n. is_symbol (slice_get signature f) false n && list_all (λ test. test binders) (map (is_term signature) terms))
    (length-map terms (is_term signature))
    ∙ ap (λ b. is_symbol (slice_get signature f) false (length terms) && b)
    (list_all-map (λ (test : ℕ → Bool). test binders) (is_term signature) terms)

is_formula-roll : (signature : List FofSymbol) (x : Fof-F Fof) (binders : ℕ) →
    is_formula signature (roll-Fof x) binders
    ≡ is_formula_step signature (map-Fof Fof (ℕ → Bool) (is_formula signature) x) binders
unfolding is_formula
is_formula-roll signature x binders =
    ap (λ (test : ℕ → Bool). test binders) (fold-roll-Fof (ℕ → Bool) (is_formula_step signature) x)

pub is_formula-true : (signature : List FofSymbol) (binders : ℕ) →
    is_formula signature formula.True binders
    ≡ true
is_formula-true signature binders =
    ap (λ x. is_formula signature x binders) (sym formula.rolls-True) ∙ is_formula-roll signature layer.True binders

pub is_formula-false : (signature : List FofSymbol) (binders : ℕ) →
    is_formula signature formula.False binders
    ≡ true
is_formula-false signature binders =
    ap (λ x. is_formula signature x binders) (sym formula.rolls-False) ∙ is_formula-roll signature layer.False binders

pub is_formula-atom : (signature : List FofSymbol) (p : ℕ) (terms : List FofTerm) (binders : ℕ) →
    is_formula signature (formula.Atom p terms) binders
    ≡ (is_symbol (slice_get signature p) true (length terms) && are_terms signature terms binders)
is_formula-atom signature p terms binders =
    ap (λ x. is_formula signature x binders) (sym (formula.rolls-Atom p terms)) ∙ is_formula-roll signature (layer.Atom p terms) binders

pub is_formula-equal : (signature : List FofSymbol) (left right : FofTerm) (binders : ℕ) →
    is_formula signature (formula.Equal left right) binders
    ≡ (is_term signature left binders && is_term signature right binders)
is_formula-equal signature left right binders =
    ap (λ x. is_formula signature x binders) (sym (formula.rolls-Equal left right)) ∙ is_formula-roll signature (layer.Equal left right) binders

pub is_formula-not : (signature : List FofSymbol) (a : Fof) (binders : ℕ) →
    is_formula signature (formula.Not a) binders
    ≡ is_formula signature a binders
is_formula-not signature a binders =
    ap (λ x. is_formula signature x binders) (sym (formula.rolls-Not a)) ∙ is_formula-roll signature (layer.Not a) binders

pub is_formula-and : (signature : List FofSymbol) (parts : List Fof) (binders : ℕ) →
    is_formula signature (formula.And parts) binders
    ≡ list_all (λ part. is_formula signature part binders) parts
is_formula-and signature parts binders =
    ap (λ x. is_formula signature x binders) (sym (formula.rolls-And parts)) ∙ is_formula-roll signature (layer.And parts) binders
    ∙ list_all-map (λ (test : ℕ → Bool). test binders) (is_formula signature) parts

pub is_formula-or : (signature : List FofSymbol) (parts : List Fof) (binders : ℕ) →
    is_formula signature (formula.Or parts) binders
    ≡ list_all (λ part. is_formula signature part binders) parts
is_formula-or signature parts binders =
    ap (λ x. is_formula signature x binders) (sym (formula.rolls-Or parts)) ∙ is_formula-roll signature (layer.Or parts) binders
    ∙ list_all-map (λ (test : ℕ → Bool). test binders) (is_formula signature) parts

pub is_formula-implies : (signature : List FofSymbol) (a b : Fof) (binders : ℕ) →
    is_formula signature (formula.Implies a b) binders
    ≡ (is_formula signature a binders && is_formula signature b binders)
is_formula-implies signature a b binders =
    ap (λ x. is_formula signature x binders) (sym (formula.rolls-Implies a b)) ∙ is_formula-roll signature (layer.Implies a b) binders

pub is_formula-for_all : (signature : List FofSymbol) (body : Fof) (binders : ℕ) →
    is_formula signature (formula.ForAll body) binders
    ≡ is_formula signature body (binders + 1)
is_formula-for_all signature body binders =
    ap (λ x. is_formula signature x binders) (sym (formula.rolls-ForAll body)) ∙ is_formula-roll signature (layer.ForAll body) binders

pub is_formula-exists : (signature : List FofSymbol) (body : Fof) (binders : ℕ) →
    is_formula signature (formula.Exists body) binders
    ≡ is_formula signature body (binders + 1)
is_formula-exists signature body binders =
    ap (λ x. is_formula signature x binders) (sym (formula.rolls-Exists body)) ∙ is_formula-roll signature (layer.Exists body) binders

has_pairs-roll : (x : Fof-F Fof) →
    has_pairs (roll-Fof x) ≡ has_pairs_step (map-Fof Fof Bool has_pairs x)
unfolding has_pairs
has_pairs-roll x = fold-roll-Fof Bool has_pairs_step x

pub has_pairs-true : has_pairs formula.True
    ≡ true
has_pairs-true =
    ap has_pairs (sym formula.rolls-True) ∙ has_pairs-roll layer.True

pub has_pairs-false : has_pairs formula.False
    ≡ true
has_pairs-false =
    ap has_pairs (sym formula.rolls-False) ∙ has_pairs-roll layer.False

pub has_pairs-atom : (p : ℕ) (terms : List FofTerm) → has_pairs (formula.Atom p terms)
    ≡ true
has_pairs-atom p terms =
    ap has_pairs (sym (formula.rolls-Atom p terms)) ∙ has_pairs-roll (layer.Atom p terms)

pub has_pairs-equal : (left right : FofTerm) → has_pairs (formula.Equal left right)
    ≡ true
has_pairs-equal left right =
    ap has_pairs (sym (formula.rolls-Equal left right)) ∙ has_pairs-roll (layer.Equal left right)

pub has_pairs-not : (a : Fof) → has_pairs (formula.Not a)
    ≡ has_pairs a
has_pairs-not a =
    ap has_pairs (sym (formula.rolls-Not a)) ∙ has_pairs-roll (layer.Not a)

pub has_pairs-and : (parts : List Fof) → has_pairs (formula.And parts)
    ≡ (leb 2 (length parts) && list_all has_pairs parts)
has_pairs-and parts =
    ap has_pairs (sym (formula.rolls-And parts)) ∙ has_pairs-roll (layer.And parts)
    ∙ ap (λ n. leb 2 n && list_all (λ part. part) (map has_pairs parts)) (length-map parts has_pairs)
    ∙ ap (λ b. leb 2 (length parts) && b) (list_all-map (λ (b : Bool). b) has_pairs parts)

pub has_pairs-or : (parts : List Fof) → has_pairs (formula.Or parts)
    ≡ (leb 2 (length parts) && list_all has_pairs parts)
has_pairs-or parts =
    ap has_pairs (sym (formula.rolls-Or parts)) ∙ has_pairs-roll (layer.Or parts)
    ∙ ap (λ n. leb 2 n && list_all (λ part. part) (map has_pairs parts)) (length-map parts has_pairs)
    ∙ ap (λ b. leb 2 (length parts) && b) (list_all-map (λ (b : Bool). b) has_pairs parts)

pub has_pairs-implies : (a b : Fof) → has_pairs (formula.Implies a b)
    ≡ (has_pairs a && has_pairs b)
has_pairs-implies a b =
    ap has_pairs (sym (formula.rolls-Implies a b)) ∙ has_pairs-roll (layer.Implies a b)

pub has_pairs-for_all : (body : Fof) → has_pairs (formula.ForAll body)
    ≡ has_pairs body
has_pairs-for_all body =
    ap has_pairs (sym (formula.rolls-ForAll body)) ∙ has_pairs-roll (layer.ForAll body)

pub has_pairs-exists : (body : Fof) → has_pairs (formula.Exists body)
    ≡ has_pairs body
has_pairs-exists body =
    ap has_pairs (sym (formula.rolls-Exists body)) ∙ has_pairs-roll (layer.Exists body)

binder_count-roll : (x : Fof-F Fof) →
    binder_count (roll-Fof x) ≡ binder_count_step (map-Fof Fof ℕ binder_count x)
unfolding binder_count
binder_count-roll x = fold-roll-Fof ℕ binder_count_step x

pub binder_count-true : binder_count formula.True
    ≡ 0
binder_count-true =
    ap binder_count (sym formula.rolls-True) ∙ binder_count-roll layer.True

pub binder_count-false : binder_count formula.False
    ≡ 0
binder_count-false =
    ap binder_count (sym formula.rolls-False) ∙ binder_count-roll layer.False

pub binder_count-atom : (p : ℕ) (terms : List FofTerm) → binder_count (formula.Atom p terms)
    ≡ 0
binder_count-atom p terms =
    ap binder_count (sym (formula.rolls-Atom p terms)) ∙ binder_count-roll (layer.Atom p terms)

pub binder_count-equal : (left right : FofTerm) → binder_count (formula.Equal left right)
    ≡ 0
binder_count-equal left right =
    ap binder_count (sym (formula.rolls-Equal left right)) ∙ binder_count-roll (layer.Equal left right)

pub binder_count-not : (a : Fof) → binder_count (formula.Not a)
    ≡ binder_count a
binder_count-not a =
    ap binder_count (sym (formula.rolls-Not a)) ∙ binder_count-roll (layer.Not a)

pub binder_count-and : (parts : List Fof) → binder_count (formula.And parts)
    ≡ sum (map binder_count parts)
binder_count-and parts =
    ap binder_count (sym (formula.rolls-And parts)) ∙ binder_count-roll (layer.And parts)

pub binder_count-or : (parts : List Fof) → binder_count (formula.Or parts)
    ≡ sum (map binder_count parts)
binder_count-or parts =
    ap binder_count (sym (formula.rolls-Or parts)) ∙ binder_count-roll (layer.Or parts)

pub binder_count-implies : (a b : Fof) → binder_count (formula.Implies a b)
    ≡ binder_count a + binder_count b
binder_count-implies a b =
    ap binder_count (sym (formula.rolls-Implies a b)) ∙ binder_count-roll (layer.Implies a b)

pub binder_count-for_all : (body : Fof) → binder_count (formula.ForAll body)
    ≡ binder_count body + 1
binder_count-for_all body =
    ap binder_count (sym (formula.rolls-ForAll body)) ∙ binder_count-roll (layer.ForAll body)

pub binder_count-exists : (body : Fof) → binder_count (formula.Exists body)
    ≡ binder_count body + 1
binder_count-exists body =
    ap binder_count (sym (formula.rolls-Exists body)) ∙ binder_count-roll (layer.Exists body)

depth-roll : (x : Fof-F Fof) →
    depth (roll-Fof x) ≡ depth_step (map-Fof Fof ℕ depth x)
unfolding depth
depth-roll x = fold-roll-Fof ℕ depth_step x

pub depth-true : depth formula.True
    ≡ 0
depth-true =
    ap depth (sym formula.rolls-True) ∙ depth-roll layer.True

pub depth-false : depth formula.False
    ≡ 0
depth-false =
    ap depth (sym formula.rolls-False) ∙ depth-roll layer.False

pub depth-atom : (p : ℕ) (terms : List FofTerm) → depth (formula.Atom p terms)
    ≡ 0
depth-atom p terms =
    ap depth (sym (formula.rolls-Atom p terms)) ∙ depth-roll (layer.Atom p terms)

pub depth-equal : (left right : FofTerm) → depth (formula.Equal left right)
    ≡ 0
depth-equal left right =
    ap depth (sym (formula.rolls-Equal left right)) ∙ depth-roll (layer.Equal left right)

pub depth-not : (a : Fof) → depth (formula.Not a)
    ≡ depth a
depth-not a =
    ap depth (sym (formula.rolls-Not a)) ∙ depth-roll (layer.Not a)

pub depth-and : (parts : List Fof) → depth (formula.And parts)
    ≡ greatest (map depth parts)
depth-and parts =
    ap depth (sym (formula.rolls-And parts)) ∙ depth-roll (layer.And parts)

pub depth-or : (parts : List Fof) → depth (formula.Or parts)
    ≡ greatest (map depth parts)
depth-or parts =
    ap depth (sym (formula.rolls-Or parts)) ∙ depth-roll (layer.Or parts)

pub depth-implies : (a b : Fof) → depth (formula.Implies a b)
    ≡ max (depth a) (depth b)
depth-implies a b =
    ap depth (sym (formula.rolls-Implies a b)) ∙ depth-roll (layer.Implies a b)

pub depth-for_all : (body : Fof) → depth (formula.ForAll body)
    ≡ depth body + 1
depth-for_all body =
    ap depth (sym (formula.rolls-ForAll body)) ∙ depth-roll (layer.ForAll body)

pub depth-exists : (body : Fof) → depth (formula.Exists body)
    ≡ depth body + 1
depth-exists body =
    ap depth (sym (formula.rolls-Exists body)) ∙ depth-roll (layer.Exists body)
