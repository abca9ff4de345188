-- What `Applies` promises: a scheme applies exactly where nothing is there for which it is refused.
-- So does the name of the first that has type variables.
use Rattle.std.specs.Prelude.{◌≡◌, ◌↔◌, None, IsTrue}
use Rattle.tf_core.specs.declared.normal.Normal.{Normal}
use Rattle.tf_core.specs.Typing.{IsNormal}
use Rattle.tf_core.specs.Sound.{is_monomorphic}
use Rattle.enc_marks.specs.declared.scheme.Scheme.{Scheme}
use Rattle.enc_marks.specs.Applies.{Applies, asks_monomorphic, first_polymorphic, refused_place}

-- Where the scheme asks for it there are no type variables, and there is no place that it can't
-- take.
abbrev pub AppliesExactly : Type 0
AppliesExactly = (which : Scheme) (normal : Normal) → IsNormal normal →
    (Applies which normal
    ↔ ((IsTrue (asks_monomorphic which) → IsTrue (is_monomorphic normal))
    × (refused_place which normal ≡ None)))

-- there is no such name exactly where no symbol and no formula has a type variable
abbrev pub NamesTellPolymorphic : Type 0
NamesTellPolymorphic = (normal : Normal) →
    (first_polymorphic normal ≡ None ↔ IsTrue (is_monomorphic normal))
