-- What is written for a problem by a scheme.
use Rattle.std.specs.Prelude.{ℕ, List, ◌++◌, codes}
use Rattle.tf_core.specs.declared.problem.Problem.{Problem}
use Rattle.tf_nnf.specs.NormalForm.{normal_of}
use Rattle.fof_models.specs.declared.problem.FofProblem.{FofProblem}
use Rattle.fof_text.specs.Names.{chosen_names}
use Rattle.fof_text.specs.Written.{text_of}
use Rattle.enc_marks.specs.declared.scheme.Scheme.{Scheme}
use Rattle.enc_marks.specs.declared.scheme.Scheme.TheVariants as scheme
use Rattle.enc_marks.specs.declared.encoded.Encoded.{Encoded}
use Rattle.enc_marks.specs.Encoded.{encoded}
use Rattle.enc_marks.specs.Schemes.{choices_of}
use Rattle.enc_pipeline.specs.Way.{Preparation}

-- a scheme's name on the command line and in the output
abbrev pub scheme_name : Scheme → List ℕ
scheme_name scheme.Guards = codes "guards"
scheme_name scheme.Tags = codes "tags"
scheme_name scheme.GuardsCover = codes "guards_cover"
scheme_name scheme.TagsCover = codes "tags_cover"
scheme_name scheme.Args = codes "args"
scheme_name scheme.Erase = codes "erase"
scheme_name scheme.GuardsLight = codes "guards_light"
scheme_name scheme.TagsLight = codes "tags_light"
scheme_name scheme.GuardsFeather = codes "guards_feather"
scheme_name scheme.TagsFeather = codes "tags_feather"

-- the first line: a comment that names the scheme
unfoldable pub first_line : Scheme → List ℕ
first_line which = codes "% tfenc " ++ (scheme_name which ++ codes " complete\n")

-- the first line, and then the text of the problem under the names that its symbols get
abbrev pub output_of : Scheme → FofProblem → List ℕ
output_of which problem = first_line which ++ text_of (chosen_names problem.signature) problem

-- the translation of a problem by a scheme: that of its normal problem
abbrev pub translated : Scheme → Problem → Encoded
translated which problem = encoded (choices_of which (normal_of problem)) (normal_of problem)

-- what is written for a prepared problem
abbrev pub output : Preparation → List ℕ
output p = output_of p.how.scheme (translated p.how.scheme p.problem).problem
