-- A node put into the table, and what the table is then.
use Rattle.std.specs.Prelude.{ℕ, ◌≡◌, Bool, true, List, slice_get, Option, Some, None, IfSome}
use Rattle.std.specs.Map.{lookup}
use Rattle.std.proofs.Common.{sym, ap, subst, ◌∙◌}
use Rattle.indexmap.specs.IndexSet.{insert_key}
use Rattle.tf_core.specs.declared.ty.Ty.{Ty}
use Rattle.tf_types.specs.declared.node.TypeId.{TypeId}
use Rattle.tf_types.specs.declared.node.Node.{Node}
use Rattle.tf_types.specs.declared.node.Asked.{Asked}
use Rattle.tf_types.specs.Numbers.{Extends}
use Rattle.tf_types.specs.Nodes.{given, types_of, IsFormed, AreNumbered}
use Rattle.tf_types.specs.Instances.{IsInstance, AreInstances, AreGround}
use Rattle.tf_types.proofs.EqualKeys.{eq_node, same_node, node_itself, eq_asked, same_asked}
use Rattle.tf_types.proofs.Nodes.{IsInserted, IsInserted-insert_key}
use Rattle.tf_types.proofs.Ground.{AreGround-extended}
use Rattle.tf_types.proofs.Instances.{AreInstances-extended, IsInstance-found}

module _ (nodes new : List Node) (types : List Ty) (node : Node) (view : types_of nodes ≡ types)
    (numbered : AreNumbered nodes (types_of nodes)) (formed : IsFormed types node)
    (inserted : new ≡ insert_key eq_node nodes node)
  where
    pub added : IsInserted nodes node new
    added =
        subst (IsInserted nodes node) (sym inserted)
        (IsInserted-insert_key eq_node node_itself nodes node numbered
        (subst (λ known. IsFormed known node) (sym view) formed))

    pub added_kept : Extends types (types_of new)
    added_kept = subst (λ known. Extends known (types_of new)) view added.grows

    pub added_given : (index : ℕ) →
        (stored : Node) × (slice_get new index ≡ Some stored) × (eq_node node stored ≡ true) →
        slice_get (types_of new) index ≡ Some (given types node)
    added_given index there =
        added.gives index (there.1 ∙ ap Some (sym (same_node node there.0 there.2)))
        ∙ ap (λ known. Some (given known node)) view

    pub added_instances : (entries : List (Asked × TypeId)) →
        AreInstances (types_of nodes) entries →
        AreInstances (types_of new) entries
    added_instances entries instances =
        AreInstances-extended (types_of nodes) (types_of new) added.grows entries instances

    pub added_ground : (noted : List Bool) → AreGround (types_of nodes) noted →
        AreGround (types_of new) noted
    added_ground noted ground =
        AreGround-extended (types_of nodes) noted ground (types_of new) added.grows

pub IfSome-IsInstance : (types : List Ty) (asked : Asked) (entries : List (Asked × TypeId)) →
    AreInstances types entries → (found : Option TypeId) →
    found ≡ lookup (eq_asked asked) entries → IfSome found (IsInstance types asked)
IfSome-IsInstance types asked entries instances None is = tt
IfSome-IsInstance types asked entries instances (Some made) is =
    IsInstance-found eq_asked same_asked types asked made entries instances (sym is)
