-- The symbol instances of well-typed terms and formulas are of symbols, with types that are formed.
use Rattle.std.specs.Prelude.{ℕ, List, ◌∷◌, map, Option, Some, None}
use Rattle.std.specs.List.{AllByRecursion}
use Rattle.std.proofs.Common.{sym, subst}
use Rattle.tf_core.specs.declared.ty.Ty.{Ty}
use Rattle.tf_core.specs.declared.term.Term.{Term}
use Rattle.tf_core.specs.declared.nnf.Nnf.{Nnf}
use Rattle.tf_core.specs.declared.signature.Symbol.{Symbol}
use Rattle.tf_core.specs.declared.signature.Signature.{Signature}
use Rattle.tf_core.specs.Sorts.{joined}
use Rattle.tf_core.specs.Typing.{IsInstance, HasType, of_variable, of_apply, HaveTypes, no_terms, more_terms, IsNnf, nnf_true, nnf_false, nnf_atom, nnf_equation, nnf_and, nnf_or, nnf_for_all, nnf_exists, AreNnf, no_parts, more_parts}
use Rattle.enc_mono.specs.declared.instances.Origin.{Origin}
use Rattle.enc_mono.specs.Instances.{term_instances, symbol_instances}
use Rattle.enc_mono.specs.Origins.{IsOriginOf}
use Rattle.enc_mono.proofs.InstanceEquations.{term_instances-variable, term_instances-apply, symbol_instances-true, symbol_instances-false, symbol_instances-atom, symbol_instances-equation, symbol_instances-and, symbol_instances-or, symbol_instances-for_all, symbol_instances-exists}
use Rattle.enc_mono.proofs.Listed.{all-append}

module _ (g : Signature) (variables : ℕ) where
  abbrev AreOf : List Origin → Type 0
  AreOf = AllByRecursion (IsOriginOf g variables)

  of_instance : (f : ℕ) (symbol : Symbol) (result : Option Ty) (types : List Ty) →
      IsInstance g variables f symbol result types →
      IsOriginOf g variables (record { symbol = f; types = types })
  of_instance f symbol result types is = record {
    declared = symbol;
    at = is.at;
    count = is.count;
    formed = is.formed;
  }

  mutual
    pub term_instances-typed : (context : List Ty) (t : Term) (ty : Ty) →
        HasType g variables context t ty → AreOf (term_instances t)
    term_instances-typed context t ty (of_variable i declared at) =
        subst AreOf (sym (term_instances-variable i)) tt
    term_instances-typed context t ty (of_apply f symbol result types terms is typed) =
        subst AreOf (sym (term_instances-apply f types terms)) (
          of_instance f symbol (Some result) types is,
          terms_instances-typed context terms _ typed,
        )

    pub terms_instances-typed : (context : List Ty) (terms : List Term) (types : List Ty) →
        HaveTypes g variables context terms types → AreOf (joined (map term_instances terms))
    terms_instances-typed context terms types no_terms = tt
    terms_instances-typed context terms types (more_terms t ty others rest first more) =
        all-append (IsOriginOf g variables) (term_instances t) (joined (map term_instances others))
        (term_instances-typed context t ty first)
        (terms_instances-typed context others rest more)

  mutual
    pub symbol_instances-typed : (context : List Ty) (p : Nnf) → IsNnf g variables context p →
        AreOf (symbol_instances p)
    symbol_instances-typed context p (nnf_true c) = subst AreOf (sym symbol_instances-true) tt
    symbol_instances-typed context p (nnf_false c) = subst AreOf (sym symbol_instances-false) tt
    symbol_instances-typed context p (nnf_atom c positive f symbol types terms atom) =
        subst AreOf (sym (symbol_instances-atom positive f types terms)) (
          of_instance f symbol None types atom.predicate,
          terms_instances-typed context terms _ atom.arguments,
        )
    symbol_instances-typed context p (nnf_equation c positive ty left right equation) =
        subst AreOf (sym (symbol_instances-equation positive ty left right))
        (all-append (IsOriginOf g variables) (term_instances left) (term_instances right)
        (term_instances-typed context left ty equation.left_side)
        (term_instances-typed context right ty equation.right_side))
    symbol_instances-typed context p (nnf_and c parts are) =
        subst AreOf (sym (symbol_instances-and parts)) (parts_instances-typed context parts are)
    symbol_instances-typed context p (nnf_or c parts are) =
        subst AreOf (sym (symbol_instances-or parts)) (parts_instances-typed context parts are)
    symbol_instances-typed context p (nnf_for_all c ty body is_type is) =
        subst AreOf (sym (symbol_instances-for_all ty body))
        (symbol_instances-typed (ty ∷ context) body is)
    symbol_instances-typed context p (nnf_exists c ty body is_type is) =
        subst AreOf (sym (symbol_instances-exists ty body))
        (symbol_instances-typed (ty ∷ context) body is)

    pub parts_instances-typed : (context : List Ty) (parts : List Nnf) →
        AreNnf g variables context parts → AreOf (joined (map symbol_instances parts))
    parts_instances-typed context parts (no_parts c) = tt
    parts_instances-typed context parts (more_parts c part rest is are) =
        all-append (IsOriginOf g variables) (symbol_instances part)
        (joined (map symbol_instances rest))
        (symbol_instances-typed context part is) (parts_instances-typed context rest are)
