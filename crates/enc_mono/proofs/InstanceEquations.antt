-- The equations of symbol instances and of renumbering, one a variant, in their order.
use Rattle.std.specs.Prelude.{ℕ, ◌≡◌, Bool, List, [], ◌∷◌, ◌++◌, map}
use Rattle.std.proofs.Common.{sym, ap, ◌∙◌}
use Rattle.tf_core.specs.declared.ty.Ty.{Ty}
use Rattle.tf_core.specs.declared.term.Term.{Term, roll-Term}
use Rattle.tf_core.specs.declared.term.Term.TheVariants as term
use Rattle.tf_core.specs.declared.term.Term.TheOpen.{Term-F}
use Rattle.tf_core.specs.declared.term.Term.TheOpen as term_layer
use Rattle.tf_core.specs.declared.term.Term.TheFolds.{fold-roll-Term, map-Term}
use Rattle.tf_core.specs.declared.nnf.Nnf.{Nnf, roll-Nnf}
use Rattle.tf_core.specs.declared.nnf.Nnf.TheVariants as nnf
use Rattle.tf_core.specs.declared.nnf.Nnf.TheOpen.{Nnf-F}
use Rattle.tf_core.specs.declared.nnf.Nnf.TheOpen as layer
use Rattle.tf_core.specs.declared.nnf.Nnf.TheFolds.{fold-roll-Nnf, map-Nnf}
use Rattle.tf_core.specs.Sorts.{joined}
use Rattle.enc_mono.specs.declared.instances.Origin.{Origin}
use Rattle.enc_mono.specs.Instances.{term_instances, term_instances_step, symbol_instances, instances_step}
use Rattle.enc_mono.specs.Monomorphised.{number_among, renumbered_term, renumbered_term_step, renumbered, renumbered_step}

term_instances-roll : (x : Term-F Term) →
    term_instances (roll-Term x)
    ≡ term_instances_step (map-Term Term (List Origin) term_instances x)
unfolding term_instances
term_instances-roll x = fold-roll-Term (List Origin) term_instances_step x

pub term_instances-variable : (i : ℕ) → term_instances (term.Var i) ≡ []
term_instances-variable i =
    ap term_instances (sym (term.rolls-Var i)) ∙ term_instances-roll (term_layer.Var i)

pub term_instances-apply : (f : ℕ) (types : List Ty) (terms : List Term) →
    term_instances (term.Apply f types terms)
    ≡ record { symbol = f; types = types } ∷ joined (map term_instances terms)
term_instances-apply f types terms =
    ap term_instances (sym (term.rolls-Apply f types terms))
    ∙ term_instances-roll (term_layer.Apply f types terms)

symbol_instances-roll : (x : Nnf-F Nnf) →
    symbol_instances (roll-Nnf x) ≡ instances_step (map-Nnf Nnf (List Origin) symbol_instances x)
unfolding symbol_instances
symbol_instances-roll x = fold-roll-Nnf (List Origin) instances_step x

pub symbol_instances-true : symbol_instances nnf.True
    ≡ []
symbol_instances-true =
    ap symbol_instances (sym nnf.rolls-True) ∙ symbol_instances-roll layer.True

pub symbol_instances-false : symbol_instances nnf.False
    ≡ []
symbol_instances-false =
    ap symbol_instances (sym nnf.rolls-False) ∙ symbol_instances-roll layer.False

pub symbol_instances-atom : (positive : Bool) (f : ℕ) (types : List Ty) (terms : List Term) →
    symbol_instances (nnf.Atom positive f types terms)
    ≡ record { symbol = f; types = types } ∷ joined (map term_instances terms)
symbol_instances-atom positive f types terms =
    ap symbol_instances (sym (nnf.rolls-Atom positive f types terms))
    ∙ symbol_instances-roll (layer.Atom positive f types terms)

pub symbol_instances-equation : (positive : Bool) (ty : Ty) (left : Term) (right : Term) →
    symbol_instances (nnf.Equation positive ty left right)
    ≡ term_instances left ++ term_instances right
symbol_instances-equation positive ty left right =
    ap symbol_instances (sym (nnf.rolls-Equation positive ty left right))
    ∙ symbol_instances-roll (layer.Equation positive ty left right)

pub symbol_instances-and : (parts : List Nnf) →
    symbol_instances (nnf.And parts)
    ≡ joined (map symbol_instances parts)
symbol_instances-and parts =
    ap symbol_instances (sym (nnf.rolls-And parts)) ∙ symbol_instances-roll (layer.And parts)

pub symbol_instances-or : (parts : List Nnf) →
    symbol_instances (nnf.Or parts)
    ≡ joined (map symbol_instances parts)
symbol_instances-or parts =
    ap symbol_instances (sym (nnf.rolls-Or parts)) ∙ symbol_instances-roll (layer.Or parts)

pub symbol_instances-for_all : (ty : Ty) (body : Nnf) →
    symbol_instances (nnf.ForAll ty body)
    ≡ symbol_instances body
symbol_instances-for_all ty body =
    ap symbol_instances (sym (nnf.rolls-ForAll ty body))
    ∙ symbol_instances-roll (layer.ForAll ty body)

pub symbol_instances-exists : (ty : Ty) (body : Nnf) →
    symbol_instances (nnf.Exists ty body)
    ≡ symbol_instances body
symbol_instances-exists ty body =
    ap symbol_instances (sym (nnf.rolls-Exists ty body))
    ∙ symbol_instances-roll (layer.Exists ty body)

renumbered_term-roll : (origins : List Origin) (x : Term-F Term) →
    renumbered_term origins (roll-Term x)
    ≡ renumbered_term_step origins (map-Term Term Term (renumbered_term origins) x)
unfolding renumbered_term
renumbered_term-roll origins x = fold-roll-Term Term (renumbered_term_step origins) x

pub renumbered_term-variable : (origins : List Origin) (i : ℕ) →
    renumbered_term origins (term.Var i) ≡ term.Var i
renumbered_term-variable origins i =
    ap (renumbered_term origins) (sym (term.rolls-Var i))
    ∙ renumbered_term-roll origins (term_layer.Var i)

pub renumbered_term-apply : (origins : List Origin) (f : ℕ) (types : List Ty) (terms : List Term) →
    renumbered_term origins (term.Apply f types terms)
    ≡ term.Apply (number_among origins f types) [] (map (renumbered_term origins) terms)
renumbered_term-apply origins f types terms =
    ap (renumbered_term origins) (sym (term.rolls-Apply f types terms))
    ∙ renumbered_term-roll origins (term_layer.Apply f types terms)

renumbered-roll : (origins : List Origin) (x : Nnf-F Nnf) →
    renumbered origins (roll-Nnf x) ≡ renumbered_step origins (map-Nnf Nnf Nnf
    (renumbered origins) x)
unfolding renumbered
renumbered-roll origins x = fold-roll-Nnf Nnf (renumbered_step origins) x

pub renumbered-true : (origins : List Origin) →
    renumbered origins nnf.True
    ≡ nnf.True
renumbered-true origins =
    ap (renumbered origins) (sym nnf.rolls-True) ∙ renumbered-roll origins layer.True

pub renumbered-false : (origins : List Origin) →
    renumbered origins nnf.False
    ≡ nnf.False
renumbered-false origins =
    ap (renumbered origins) (sym nnf.rolls-False) ∙ renumbered-roll origins layer.False

pub renumbered-atom : (origins : List Origin) (positive : Bool) (f : ℕ) (types : List Ty)
    (terms : List Term) →
    renumbered origins (nnf.Atom positive f types terms)
    ≡ nnf.Atom positive (number_among origins f types) []
    (map (renumbered_term origins) terms)
renumbered-atom origins positive f types terms =
    ap (renumbered origins) (sym (nnf.rolls-Atom positive f types terms))
    ∙ renumbered-roll origins (layer.Atom positive f types terms)

pub renumbered-equation : (origins : List Origin) (positive : Bool) (ty : Ty) (left : Term)
    (right : Term) →
    renumbered origins (nnf.Equation positive ty left right)
    ≡ nnf.Equation positive ty (renumbered_term origins left) (renumbered_term origins right)
renumbered-equation origins positive ty left right =
    ap (renumbered origins) (sym (nnf.rolls-Equation positive ty left right))
    ∙ renumbered-roll origins (layer.Equation positive ty left right)

pub renumbered-and : (origins : List Origin) (parts : List Nnf) →
    renumbered origins (nnf.And parts)
    ≡ nnf.And (map (renumbered origins) parts)
renumbered-and origins parts =
    ap (renumbered origins) (sym (nnf.rolls-And parts)) ∙ renumbered-roll origins (layer.And parts)

pub renumbered-or : (origins : List Origin) (parts : List Nnf) →
    renumbered origins (nnf.Or parts)
    ≡ nnf.Or (map (renumbered origins) parts)
renumbered-or origins parts =
    ap (renumbered origins) (sym (nnf.rolls-Or parts)) ∙ renumbered-roll origins (layer.Or parts)

pub renumbered-for_all : (origins : List Origin) (ty : Ty) (body : Nnf) →
    renumbered origins (nnf.ForAll ty body)
    ≡ nnf.ForAll ty (renumbered origins body)
renumbered-for_all origins ty body =
    ap (renumbered origins) (sym (nnf.rolls-ForAll ty body))
    ∙ renumbered-roll origins (layer.ForAll ty body)

pub renumbered-exists : (origins : List Origin) (ty : Ty) (body : Nnf) →
    renumbered origins (nnf.Exists ty body)
    ≡ nnf.Exists ty (renumbered origins body)
renumbered-exists origins ty body =
    ap (renumbered origins) (sym (nnf.rolls-Exists ty body))
    ∙ renumbered-roll origins (layer.Exists ty body)
