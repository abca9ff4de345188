-- The schemes that lower to the collapsed domain have choices whose tables are made.
use Rattle.std.specs.Prelude.{ℕ, zero, suc, ◌≡◌, Bool, true, List, [], ◌∷◌, length, count_by, replicate}
use Rattle.std.proofs.Common.{refl, sym, ap, ◌∙◌, arith}
use Rattle.std.proofs.lemmas.List.{length-replicate}
use Rattle.tf_core.specs.declared.normal.Normal.{Normal}
use Rattle.enc_marks.specs.declared.choices.Marking.TheVariants.{ByType}
use Rattle.enc_marks.specs.declared.choices.Domain.TheVariants.{Collapsed}
use Rattle.enc_marks.specs.declared.scheme.Scheme.{Scheme}
use Rattle.enc_marks.specs.declared.scheme.Scheme.TheVariants as scheme
use Rattle.enc_marks.specs.Schemes.{choices_of}
use Rattle.enc_marks.specs.Translation.{selected}
use Rattle.enc_laws.proofs.Stamped.{length-selected}
use Rattle.enc_models.specs.Bare.{WritesTypeArguments}

selected-all : {A : Type 0} (items : List A) (n : ℕ) → length items ≡ n →
    selected (replicate n true) items ≡ items
selected-all [] zero all = refl
selected-all [] (suc n) all = absurd (omega (arith, all))
selected-all (item ∷ items) zero all = absurd (omega (arith, all))
selected-all (item ∷ items) (suc n) all =
    ap (λ l. item ∷ l) (selected-all items n (omega (arith, all)))

count-all : (n : ℕ) → count_by (λ (keeps : Bool). keeps) (replicate n true) ≡ n
count-all n =
    let all : List Bool = replicate n true in
    sym (length-selected all all refl)
    ∙ ap (λ (l : List Bool). length l) (selected-all all n (length-replicate n true))
    ∙ length-replicate n true

-- `args` alone has a mark that all types share
pub types_written : (which : Scheme) (normal : Normal) →
    (choices_of which normal).domain ≡ Collapsed → (choices_of which normal).marking ≡ ByType →
    WritesTypeArguments (choices_of which normal)
types_written scheme.Guards normal collapsed by_type = cc
types_written scheme.Tags normal collapsed by_type = cc
types_written scheme.GuardsCover normal collapsed by_type = cc
types_written scheme.TagsCover normal collapsed by_type = cc
types_written scheme.Args normal collapsed by_type = record {
  bare = record {
    tagged = λ position kind ty. refl;
    universal = λ undercover naked ty. refl;
    existential = λ ty. refl;
    typing = λ ty. refl;
    last = λ ty. refl;
  };
  all_kept = λ symbol. count-all symbol.parameters;
}
types_written scheme.Erase normal collapsed by_type = cc
types_written scheme.GuardsLight normal collapsed by_type = cc
types_written scheme.TagsLight normal collapsed by_type = cc
types_written scheme.GuardsFeather normal collapsed by_type = cc
types_written scheme.TagsFeather normal collapsed by_type = cc
