-- Lists of symbol instances as they grow.
use Rattle.std.specs.Prelude.{ℕ, ◌≡◌, ◌<◌, ◌≤◌, ◌+◌, List, [], ◌∷◌, ◌++◌, map, length, take, get_or}
use Rattle.std.proofs.Common.{sym, ap, subst, ◌∙◌}
use Rattle.std.proofs.lemmas.List.{append_assoc, append-nil, take_more, take_all, map-append}
use Rattle.tf_core.specs.declared.ty.Ty.{Ty}
use Rattle.tf_core.specs.declared.term.Term.{Term}
use Rattle.tf_core.specs.Sorts.{joined}
use Rattle.enc_mono.specs.declared.instances.Origin.{Origin}
use Rattle.enc_mono.specs.Instances.{term_instances}
use Rattle.enc_mono.specs.Calls.Numbered.{as_type, Lists}

pub Lists-nothing : (origins : List Origin) (list : List Ty) → origins ≡ [] →
    Lists origins list list
Lists-nothing origins list none =
    sym (append-nil list) ∙ ap (λ more. list ++ map as_type more) (sym none)

pub Lists-twice : (first second : List Origin) (old mid new : List Ty) → Lists first old mid →
    Lists second mid new → Lists (first ++ second) old new
Lists-twice first second old mid new once again =
    again ∙ ap (λ front. front ++ map as_type second) once
    ∙ append_assoc old (map as_type first) (map as_type second)
    ∙ ap (λ more. old ++ more) (sym (map-append as_type first second))

module _ {A : Type 0} (instances : A → List Origin) where
  joined-push : (items : List A) (last : A) →
      joined (map instances (items ++ last ∷ [])) ≡ joined (map instances items) ++ instances last
  joined-push [] last = append-nil (instances last)
  joined-push (item ∷ items) last =
      ap (λ rest. instances item ++ rest) (joined-push items last)
      ∙ sym (append_assoc (instances item) (joined (map instances items)) (instances last))

  -- one item more of a list, as a loop reads it
  pub Lists-next : (items : List A) (k : ℕ) (item : A) (old mid new : List Ty) →
      k < length items → item ≡ get_or items k item →
      Lists (joined (map instances (take k items))) old mid → Lists (instances item) mid new →
      Lists (joined (map instances (take (k + 1) items))) old new
  Lists-next items k item old mid new within is so_far more =
      subst (λ origins. Lists origins old new)
      (sym (ap (λ front. joined (map instances front))
      (take_more items k item within ∙ ap (λ last. take k items ++ last ∷ []) (sym is))
      ∙ joined-push (take k items) item))
      (Lists-twice (joined (map instances (take k items))) (instances item) old mid new so_far more)

  pub Lists-all : (items : List A) (k : ℕ) (old new : List Ty) → length items ≤ k →
      Lists (joined (map instances (take k items))) old new →
      Lists (joined (map instances items)) old new
  Lists-all items k old new all =
      subst (λ front. Lists (joined (map instances front)) old new) (take_all k items all)

pub Lists-same : (origins others : List Origin) (old new : List Ty) → others ≡ origins →
    Lists origins old new → Lists others old new
Lists-same origins others old new same =
    subst (λ list. Lists list old new) (sym same)

-- a symbol with types and then what it is applied to
pub Lists-application : (f : ℕ) (types : List Ty) (terms : List Term) (read_types : List Ty)
    (read_terms : List Term) → read_types ≡ types → read_terms ≡ terms →
    (origins : List Origin) →
    origins ≡ record { symbol = f; types = types } ∷ joined (map term_instances terms) →
    (old mid new : List Ty) → Lists (record { symbol = f; types = read_types } ∷ []) old mid →
    Lists (joined (map term_instances read_terms)) mid new → Lists origins old new
Lists-application f types terms read_types read_terms same_types same_terms origins are old mid new
    first rest =
    Lists-same _ origins old new
    (are
    ∙ ap (λ ts. record { symbol = f; types = ts } ∷ joined (map term_instances terms))
    (sym same_types)
    ∙ ap (λ ts. record { symbol = f; types = read_types } ∷ joined (map term_instances ts))
    (sym same_terms))
    (Lists-twice (record { symbol = f; types = read_types } ∷ [])
    (joined (map term_instances read_terms)) old mid new first rest)
