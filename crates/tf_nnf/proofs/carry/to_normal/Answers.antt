use Rattle.std.proofs.Common.{ℕ, ◌≡◌, List, [], ◌∷◌, ◌++◌, map, sym, ap, subst, ◌∙◌}
use Rattle.std.specs.Prelude.{None}
use Rattle.tf_core.specs.declared.normal.Normal.{Normal}
use Rattle.tf_models.specs.declared.structure.TypedStructure.{TypedStructure}
use Rattle.tf_models.specs.Reading.{tables}
use Rattle.tf_nnf.specs.NormalForm.{conjecture_of, variables_of, fresh_count}
use Rattle.tf_nnf.specs.Extension.{IsExtension}
use Rattle.tf_nnf.proofs.Extended.{unextended, extended_by, tables_added, extension_of}
use Rattle.tf_nnf.proofs.carry.to_normal.Goals as goal
use Rattle.tf_nnf.proofs.carry.to_normal.Goals.{in-Some+in_ok-members+in_ok-add_members, in_default}

pub returns-then-normal-eq0-clause-exact : goal.returns-then-normal-eq0-clause-exact
returns-then-normal-eq0-clause-exact c =
    let none : fresh_count c.args.problem.now ≡ 0 =
    sym (ap (λ (n : Normal). n.fresh) c.requires.normal) ∙ c.if-normal-eq0.true in
    subst (λ (s : TypedStructure). IsExtension c.args.problem.now (tables c.args.structure.now) (tables s))
    (sym c.in_ok-extension.ensures)
    (unextended c.args.problem.now (tables c.args.structure.now) c.requires.model none)

pub returns-then-normal-eq0-clause-model : goal.returns-then-normal-eq0-clause-model
returns-then-normal-eq0-clause-model c =
    extension_of c.args.problem.now c.args.normal.now (tables c.args.structure.now)
    (tables c.in_ok-extension.extension) c.requires.sound c.requires.normal c.requires.model
    (returns-then-normal-eq0-clause-exact c)

pub returns-clause-exact : goal.returns-clause-exact
returns-clause-exact c =
    elim c.match-conjecture.branch [
      | in-Some+in_ok-members+in_ok-add_members w ↦
          extended_by c.args.problem.now (tables c.args.structure.now)
          (tables c.match-conjecture.extension) w.in-Some.stated.now w.in_ok-members.members.items
          (ap conjecture_of (sym c.as_slice.ensures) ∙ w.in-Some.ensures)
          w.in_ok-members.ensures
          (tables_added c.args.structure.now c.in_ok-extension.extension c.match-conjecture.extension
          w.add_members.new.constructors w.in_ok-members.members.items c.in_ok-extension.ensures
          (w.in_ok-add_members.ensures
          ∙ ap
          (λ (members : List ℕ).
          c.in_ok-extension.extension.constructors ++ map (λ (member : ℕ). member ∷ []) members)
          w.deref.ensures.value)
          w.extension-is)
      | in_default w ↦
          let none : conjecture_of c.args.problem.now.formulas ≡ None =
          ap conjecture_of (sym c.as_slice.ensures) ∙ w.in_default.ensures in
          let fresh : c.args.normal.now.fresh ≡ 0 =
          ap (λ (n : Normal). n.fresh) c.requires.normal ∙ ap variables_of none in
          absurd (c.if-normal-eq0.false fresh)
    ]

pub returns-clause-model : goal.returns-clause-model
returns-clause-model c =
    extension_of c.args.problem.now c.args.normal.now (tables c.args.structure.now)
    (tables c.match-conjecture.extension) c.requires.sound c.requires.normal c.requires.model
    (returns-clause-exact c)
