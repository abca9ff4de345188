-- The greatest of some sizes, found from the left, and what a collapsed domain is made of.
use Rattle.std.specs.Prelude.{ℕ, zero, suc, ◌≡◌, ◌<◌, ◌≤◌, ◌+◌, List, [], ◌∷◌, ◌++◌, map, length, max, min, take, get_or, slice_index}
use Rattle.std.proofs.Common.{refl, sym, ap, ◌∙◌, arith}
use Rattle.std.proofs.lemmas.List.{take_more, length-map}
use Rattle.enc_laws.specs.CollapsedStructure.{greatest}
use Rattle.tf_collapse.specs.Domain.{IsDomain}
use Rattle.tf_collapse.proofs.PulledBack.{slice_index-min}
use Rattle.enc_models.specs.Calls.Collapsing.{domain_of}

pub greatest-append : (sizes others : List ℕ) →
    greatest (sizes ++ others) ≡ max (greatest sizes) (greatest others)
greatest-append [] others = omega arith
greatest-append (first ∷ sizes) others =
    let rest = greatest-append sizes others in
    omega (arith, rest)

pub greatest-next : (sizes : List ℕ) (i size before after : ℕ) → i < length sizes →
    before ≡ max (length sizes) (greatest (take i sizes)) →
    size ≡ get_or sizes i 0 → after ≡ max before size →
    after ≡ max (length sizes) (greatest (take (i + 1) sizes))
greatest-next sizes i size before after within so_far is larger =
    let more = ap greatest (take_more sizes i 0 within)
    ∙ greatest-append (take i sizes) (get_or sizes i 0 ∷ []) in
    omega (arith, so_far, is, larger, more)

pub domain_formed : (size : ℕ) (sizes : List ℕ) → 0 < size →
    ((m : ℕ) → m < length sizes → 0 < slice_index sizes m) → IsDomain (domain_of size sizes)
domain_formed size sizes some inhabited = record {
  inhabited = λ m within.
      let same : length (map (λ own. min own size) sizes) ≡ length sizes = length-map _ _ in
      omega (
        arith,
        slice_index-min sizes size m,
        some,
        inhabited m (omega (arith, within, same)),
      );
  within = λ m within. omega (arith, slice_index-min sizes size m);
}
