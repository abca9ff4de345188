-- Typing of formulas that is kept where types are put in place of type variables.
use Rattle.std.specs.Prelude.{ℕ, ◌≡◌, List, ◌∷◌, map, length, None}
use Rattle.std.proofs.Common.{sym, subst}
use Rattle.tf_core.specs.declared.ty.Ty.{Ty}
use Rattle.tf_core.specs.declared.nnf.Nnf.{Nnf}
use Rattle.tf_core.specs.declared.signature.Signature.{Signature}
use Rattle.tf_core.specs.Types.{instantiate}
use Rattle.tf_core.specs.Substitution.{substitute_term, substitute_types}
use Rattle.tf_core.specs.Typing.{AreTypes, HaveTypes, IsNnf, nnf_true, nnf_false, nnf_atom, nnf_equation, nnf_and, nnf_or, nnf_for_all, nnf_exists, AreNnf, no_parts, more_parts, IsSignature}
use Rattle.tf_core.proofs.Substitution.{substitute_types-true, substitute_types-false, substitute_types-atom, substitute_types-equation, substitute_types-and, substitute_types-or, substitute_types-for_all, substitute_types-exists}
use Rattle.tf_core.proofs.TypingKept.{type-substituted, term-substituted, terms-substituted, instance-substituted, arguments-substituted}

module _ (g : Signature) (variables others : ℕ) (instances : List Ty)
    (formed : AreTypes g others instances) (all : length instances ≡ variables)
    (typed : IsSignature g) where
  mutual
    pub nnf-substituted : (context : List Ty) (p : Nnf) → IsNnf g variables context p →
        IsNnf g others (map (instantiate instances) context) (substitute_types instances p)
    nnf-substituted context p (nnf_true c) =
        subst (IsNnf g others (map (instantiate instances) context))
        (sym (substitute_types-true instances)) (nnf_true (map (instantiate instances) context))
    nnf-substituted context p (nnf_false c) =
        subst (IsNnf g others (map (instantiate instances) context))
        (sym (substitute_types-false instances)) (nnf_false (map (instantiate instances) context))
    nnf-substituted context p (nnf_atom c positive f symbol types terms atom) =
        subst (IsNnf g others (map (instantiate instances) context))
        (sym (substitute_types-atom instances positive f types terms))
        (nnf_atom (map (instantiate instances) context) positive f symbol
        (map (instantiate instances) types) (map (substitute_term instances) terms)
        (record {
          predicate = instance-substituted g variables others instances formed all f symbol None types atom.predicate;
          arguments = subst (HaveTypes g others (map (instantiate instances) context)
              (map (substitute_term instances) terms))
              (arguments-substituted g variables others instances formed all typed f symbol None types atom.predicate)
              (terms-substituted g variables others instances formed all typed context terms (map (instantiate types) symbol.arguments) atom.arguments);
        }))
    nnf-substituted context p (nnf_equation c positive ty left right equation) =
        subst (IsNnf g others (map (instantiate instances) context))
        (sym (substitute_types-equation instances positive ty left right))
        (nnf_equation (map (instantiate instances) context) positive (instantiate instances ty)
        (substitute_term instances left) (substitute_term instances right)
        (record {
          formed = type-substituted g variables others instances formed all ty equation.formed;
          left_side = term-substituted g variables others instances formed all typed context left ty equation.left_side;
          right_side = term-substituted g variables others instances formed all typed context right ty equation.right_side;
        }))
    nnf-substituted context p (nnf_and c parts are) =
        subst (IsNnf g others (map (instantiate instances) context))
        (sym (substitute_types-and instances parts))
        (nnf_and (map (instantiate instances) context) (map (substitute_types instances) parts)
        (parts-substituted context parts are))
    nnf-substituted context p (nnf_or c parts are) =
        subst (IsNnf g others (map (instantiate instances) context))
        (sym (substitute_types-or instances parts))
        (nnf_or (map (instantiate instances) context) (map (substitute_types instances) parts)
        (parts-substituted context parts are))
    nnf-substituted context p (nnf_for_all c ty body is_type is) =
        subst (IsNnf g others (map (instantiate instances) context))
        (sym (substitute_types-for_all instances ty body))
        (nnf_for_all (map (instantiate instances) context) (instantiate instances ty)
        (substitute_types instances body) (type-substituted g variables others instances formed all ty is_type)
        (nnf-substituted (ty ∷ context) body is))
    nnf-substituted context p (nnf_exists c ty body is_type is) =
        subst (IsNnf g others (map (instantiate instances) context))
        (sym (substitute_types-exists instances ty body))
        (nnf_exists (map (instantiate instances) context) (instantiate instances ty)
        (substitute_types instances body) (type-substituted g variables others instances formed all ty is_type)
        (nnf-substituted (ty ∷ context) body is))

    pub parts-substituted : (context : List Ty) (parts : List Nnf) → AreNnf g variables context parts →
        AreNnf g others (map (instantiate instances) context) (map (substitute_types instances) parts)
    parts-substituted context parts (no_parts c) = no_parts (map (instantiate instances) context)
    parts-substituted context parts (more_parts c part rest is are) =
        more_parts (map (instantiate instances) context) (substitute_types instances part)
        (map (substitute_types instances) rest) (nnf-substituted context part is)
        (parts-substituted context rest are)
