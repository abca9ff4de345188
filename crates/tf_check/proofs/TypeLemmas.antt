-- The equations of the readings of type expressions.
use Rattle.std.proofs.Common.{◌≡◌, ℕ, List, map, sym, ap, ◌∙◌, Option, Some, None, true, option_map}
use Rattle.tptp_syntax.specs.declared.types.TypeExpr.{TypeExpr}
use Rattle.tptp_syntax.specs.declared.types.Bound.{Bound}
use Rattle.tptp_syntax.specs.declared.types.TypeExpr.TheVariants as e
use Rattle.tptp_syntax.specs.declared.types.TypeExpr.TheOpen as layer
use Rattle.tptp_syntax.specs.declared.types.TypeExpr.TheFolds.{fold-roll-Bound, fold-roll-TypeExpr}
use Rattle.tf_core.specs.declared.signature.Constructor.{Constructor}
use Rattle.tf_check.specs.Types.{Reading, BoundReading, reading, reading_step, bound_reading, bound_step, is_bound_type}

pub reading-variable : (entry : ℕ) (constructors : List Constructor) (name : List ℕ) →
    reading entry constructors (e.Variable name) ≡ reading_step entry constructors (layer.Variable name)
unfolding reading
reading-variable entry constructors name =
    ap (reading entry constructors) (sym (e.rolls-Variable name))
    ∙ fold-roll-TypeExpr Reading BoundReading (reading_step entry constructors) bound_step (layer.Variable name)

pub reading-apply : (entry : ℕ) (constructors : List Constructor) (name : List ℕ) (parts : List TypeExpr) →
    reading entry constructors (e.Apply name parts) ≡ reading_step entry constructors (layer.Apply name (map (reading entry constructors) parts))
unfolding reading
reading-apply entry constructors name parts =
    ap (reading entry constructors) (sym (e.rolls-Apply name parts))
    ∙ fold-roll-TypeExpr Reading BoundReading (reading_step entry constructors) bound_step (layer.Apply name parts)

pub reading-individuals : (entry : ℕ) (constructors : List Constructor) →
    reading entry constructors e.Individuals ≡ reading_step entry constructors layer.Individuals
unfolding reading
reading-individuals entry constructors =
    ap (reading entry constructors) (sym e.rolls-Individuals)
    ∙ fold-roll-TypeExpr Reading BoundReading (reading_step entry constructors) bound_step layer.Individuals

pub reading-truth : (entry : ℕ) (constructors : List Constructor) →
    reading entry constructors e.Truth ≡ reading_step entry constructors layer.Truth
unfolding reading
reading-truth entry constructors =
    ap (reading entry constructors) (sym e.rolls-Truth)
    ∙ fold-roll-TypeExpr Reading BoundReading (reading_step entry constructors) bound_step layer.Truth

pub reading-types : (entry : ℕ) (constructors : List Constructor) →
    reading entry constructors e.Types ≡ reading_step entry constructors layer.Types
unfolding reading
reading-types entry constructors =
    ap (reading entry constructors) (sym e.rolls-Types)
    ∙ fold-roll-TypeExpr Reading BoundReading (reading_step entry constructors) bound_step layer.Types

pub reading-product : (entry : ℕ) (constructors : List Constructor) (parts : List TypeExpr) →
    reading entry constructors (e.Product parts) ≡ reading_step entry constructors (layer.Product (map (reading entry constructors) parts))
unfolding reading
reading-product entry constructors parts =
    ap (reading entry constructors) (sym (e.rolls-Product parts))
    ∙ fold-roll-TypeExpr Reading BoundReading (reading_step entry constructors) bound_step (layer.Product parts)

pub reading-map : (entry : ℕ) (constructors : List Constructor) (left : TypeExpr) (right : TypeExpr) →
    reading entry constructors (e.Map left right) ≡ reading_step entry constructors (layer.Map (reading entry constructors left) (reading entry constructors right))
unfolding reading
reading-map entry constructors left right =
    ap (reading entry constructors) (sym (e.rolls-Map left right))
    ∙ fold-roll-TypeExpr Reading BoundReading (reading_step entry constructors) bound_step (layer.Map left right)

pub reading-quantified : (entry : ℕ) (constructors : List Constructor) (bounds : List Bound) (body : TypeExpr) →
    reading entry constructors (e.Quantified bounds body) ≡ reading_step entry constructors (layer.Quantified (map (bound_reading entry constructors) bounds) (reading entry constructors body))
unfolding reading
reading-quantified entry constructors bounds body =
    ap (reading entry constructors) (sym (e.rolls-Quantified bounds body))
    ∙ fold-roll-TypeExpr Reading BoundReading (reading_step entry constructors) bound_step (layer.Quantified bounds body)

-- ---- bound variables

pub bound_reading-record : (entry : ℕ) (constructors : List Constructor) (name : List ℕ)
    (kind : Option TypeExpr) →
    bound_reading entry constructors (record { name = name; kind = kind })
    ≡ record { name = name; is_type = is_bound_type (option_map (reading entry constructors) kind) }
unfolding reading
bound_reading-record entry constructors name None =
    fold-roll-Bound Reading BoundReading (reading_step entry constructors) bound_step
    (record { name = name; kind = None })
bound_reading-record entry constructors name (Some expression) =
    fold-roll-Bound Reading BoundReading (reading_step entry constructors) bound_step
    (record { name = name; kind = Some expression })

pub bound_reading-type : (entry : ℕ) (constructors : List Constructor) (name : List ℕ) →
    bound_reading entry constructors (record { name = name; kind = Some e.Types })
    ≡ record { name = name; is_type = true }
bound_reading-type entry constructors name =
    bound_reading-record entry constructors name (Some e.Types)
    ∙ ap (λ (r : Reading). record { name = name; is_type = r.is_types })
    (reading-types entry constructors)
