-- The equations of kinds, and of the nodes of type expressions.
use Rattle.std.proofs.Common.{◌≡◌, ℕ, List, map, sym, ap, ◌∙◌}
use Rattle.tptp_syntax.specs.declared.types.TypeExpr.{TypeExpr}
use Rattle.tptp_syntax.specs.declared.types.Bound.{Bound}
use Rattle.tptp_syntax.specs.declared.types.TypeExpr.TheVariants as e
use Rattle.tptp_syntax.specs.declared.types.TypeExpr.TheOpen as layer
use Rattle.tptp_syntax.specs.declared.types.TypeExpr.TheFolds.{fold-Bound, fold-roll-TypeExpr}
use Rattle.tf_check.specs.Kinds.{Kind, kind, kind_step}
use Rattle.tptp_syntax.specs.FileSizes.{type_nodes, type_nodes_at, bound_nodes_at}

-- ---- kinds

pub kind-variable : (name : List ℕ) →
    kind (e.Variable name) ≡ kind_step (layer.Variable name)
unfolding kind
kind-variable name =
    ap kind (sym (e.rolls-Variable name))
    ∙ fold-roll-TypeExpr Kind (Unit {0}) kind_step (λ bound. tt) (layer.Variable name)

pub kind-apply : (name : List ℕ) (parts : List TypeExpr) →
    kind (e.Apply name parts) ≡ kind_step (layer.Apply name (map kind parts))
unfolding kind
kind-apply name parts =
    ap kind (sym (e.rolls-Apply name parts))
    ∙ fold-roll-TypeExpr Kind (Unit {0}) kind_step (λ bound. tt) (layer.Apply name parts)

pub kind-individuals : kind e.Individuals ≡ kind_step layer.Individuals
unfolding kind
kind-individuals =
    ap kind (sym e.rolls-Individuals)
    ∙ fold-roll-TypeExpr Kind (Unit {0}) kind_step (λ bound. tt) layer.Individuals

pub kind-truth : kind e.Truth ≡ kind_step layer.Truth
unfolding kind
kind-truth =
    ap kind (sym e.rolls-Truth)
    ∙ fold-roll-TypeExpr Kind (Unit {0}) kind_step (λ bound. tt) layer.Truth

pub kind-types : kind e.Types ≡ kind_step layer.Types
unfolding kind
kind-types =
    ap kind (sym e.rolls-Types)
    ∙ fold-roll-TypeExpr Kind (Unit {0}) kind_step (λ bound. tt) layer.Types

pub kind-product : (parts : List TypeExpr) →
    kind (e.Product parts) ≡ kind_step (layer.Product (map kind parts))
unfolding kind
kind-product parts =
    ap kind (sym (e.rolls-Product parts))
    ∙ fold-roll-TypeExpr Kind (Unit {0}) kind_step (λ bound. tt) (layer.Product parts)

pub kind-map : (left : TypeExpr) (right : TypeExpr) →
    kind (e.Map left right) ≡ kind_step (layer.Map (kind left) (kind right))
unfolding kind
kind-map left right =
    ap kind (sym (e.rolls-Map left right))
    ∙ fold-roll-TypeExpr Kind (Unit {0}) kind_step (λ bound. tt) (layer.Map left right)

pub kind-quantified : (bounds : List Bound) (body : TypeExpr) →
    kind (e.Quantified bounds body) ≡ kind_step (layer.Quantified (map (λ bound. tt) bounds) (kind body))
unfolding kind
kind-quantified bounds body =
    ap kind (sym (e.rolls-Quantified bounds body))
    ∙ fold-roll-TypeExpr Kind (Unit {0}) kind_step (λ bound. tt) (layer.Quantified bounds body)

-- ---- nodes

-- the nodes of a bound variable
abbrev pub nodes_of_bound : Bound → ℕ
nodes_of_bound = fold-Bound ℕ ℕ type_nodes_at bound_nodes_at

pub type_nodes-variable : (name : List ℕ) →
    type_nodes (e.Variable name) ≡ type_nodes_at (layer.Variable name)
unfolding type_nodes
type_nodes-variable name =
    ap type_nodes (sym (e.rolls-Variable name))
    ∙ fold-roll-TypeExpr ℕ ℕ type_nodes_at bound_nodes_at (layer.Variable name)

pub type_nodes-apply : (name : List ℕ) (parts : List TypeExpr) →
    type_nodes (e.Apply name parts) ≡ type_nodes_at (layer.Apply name (map type_nodes parts))
unfolding type_nodes
type_nodes-apply name parts =
    ap type_nodes (sym (e.rolls-Apply name parts))
    ∙ fold-roll-TypeExpr ℕ ℕ type_nodes_at bound_nodes_at (layer.Apply name parts)

pub type_nodes-individuals : type_nodes e.Individuals ≡ type_nodes_at layer.Individuals
unfolding type_nodes
type_nodes-individuals =
    ap type_nodes (sym e.rolls-Individuals)
    ∙ fold-roll-TypeExpr ℕ ℕ type_nodes_at bound_nodes_at layer.Individuals

pub type_nodes-truth : type_nodes e.Truth ≡ type_nodes_at layer.Truth
unfolding type_nodes
type_nodes-truth =
    ap type_nodes (sym e.rolls-Truth)
    ∙ fold-roll-TypeExpr ℕ ℕ type_nodes_at bound_nodes_at layer.Truth

pub type_nodes-types : type_nodes e.Types ≡ type_nodes_at layer.Types
unfolding type_nodes
type_nodes-types =
    ap type_nodes (sym e.rolls-Types)
    ∙ fold-roll-TypeExpr ℕ ℕ type_nodes_at bound_nodes_at layer.Types

pub type_nodes-product : (parts : List TypeExpr) →
    type_nodes (e.Product parts) ≡ type_nodes_at (layer.Product (map type_nodes parts))
unfolding type_nodes
type_nodes-product parts =
    ap type_nodes (sym (e.rolls-Product parts))
    ∙ fold-roll-TypeExpr ℕ ℕ type_nodes_at bound_nodes_at (layer.Product parts)

pub type_nodes-map : (left : TypeExpr) (right : TypeExpr) →
    type_nodes (e.Map left right) ≡ type_nodes_at (layer.Map (type_nodes left) (type_nodes right))
unfolding type_nodes
type_nodes-map left right =
    ap type_nodes (sym (e.rolls-Map left right))
    ∙ fold-roll-TypeExpr ℕ ℕ type_nodes_at bound_nodes_at (layer.Map left right)

pub type_nodes-quantified : (bounds : List Bound) (body : TypeExpr) →
    type_nodes (e.Quantified bounds body) ≡ type_nodes_at (layer.Quantified (map nodes_of_bound bounds) (type_nodes body))
unfolding type_nodes
type_nodes-quantified bounds body =
    ap type_nodes (sym (e.rolls-Quantified bounds body))
    ∙ fold-roll-TypeExpr ℕ ℕ type_nodes_at bound_nodes_at (layer.Quantified bounds body)
