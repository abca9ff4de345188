-- Schemes whose marks are of sorts apply to problems without type variables alone.
use Rattle.std.specs.Prelude.{◌≡◌, IsTrue}
use Rattle.tf_core.specs.declared.normal.Normal.{Normal}
use Rattle.tf_core.specs.Sound.{is_monomorphic}
use Rattle.enc_marks.specs.declared.choices.Marking.TheVariants.{BySort}
use Rattle.enc_marks.specs.declared.scheme.Scheme.{Scheme}
use Rattle.enc_marks.specs.declared.scheme.Scheme.TheVariants as scheme
use Rattle.enc_marks.specs.Applies.{Applies}
use Rattle.enc_marks.specs.Schemes.{choices_of}

pub sorts_monomorphic : (which : Scheme) (normal : Normal) → Applies which normal →
    (choices_of which normal).marking ≡ BySort → IsTrue (is_monomorphic normal)
sorts_monomorphic scheme.Guards normal applies by_sort = cc
sorts_monomorphic scheme.Tags normal applies by_sort = cc
sorts_monomorphic scheme.GuardsCover normal applies by_sort = cc
sorts_monomorphic scheme.TagsCover normal applies by_sort = cc
sorts_monomorphic scheme.Args normal applies by_sort = cc
sorts_monomorphic scheme.Erase normal applies by_sort = applies.0
sorts_monomorphic scheme.GuardsLight normal applies by_sort = applies
sorts_monomorphic scheme.TagsLight normal applies by_sort = applies
sorts_monomorphic scheme.GuardsFeather normal applies by_sort = applies
sorts_monomorphic scheme.TagsFeather normal applies by_sort = applies
