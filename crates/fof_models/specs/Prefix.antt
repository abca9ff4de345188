-- Prefixes of a formula: quantifiers of one kind, each right below the one before.
use Rattle.std.specs.Prelude.{ℕ}
use Rattle.std.specs.Fn.{iterate}
use Rattle.fof_models.specs.declared.formula.Fof.{Fof}
use Rattle.fof_models.specs.declared.formula.Fof.TheVariants.{ForAll, Exists}

-- a formula under so many universal quantifiers
unfoldable pub under_universals : ℕ → Fof → Fof
under_universals = iterate (λ body. ForAll body)

-- a formula under so many existential quantifiers
unfoldable pub under_existentials : ℕ → Fof → Fof
under_existentials = iterate (λ body. Exists body)
