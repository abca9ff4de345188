use Rattle.std.proofs.Common.{◌≡◌, List, None, refl, sym, ap, ◌∙◌}
use Rattle.tf_core.specs.declared.signature.Constructor.{Constructor}
use Rattle.tf_core.specs.declared.signature.Signature.{Signature}
use Rattle.tf_check.specs.Table.{listed_constructor, listed_constructors, listed_symbols}
use Rattle.tf_check.specs.Types.{constructor_named}
use Rattle.tf_check.proofs.TableLemmas.{insert_listed}
use Rattle.tf_check.proofs.table.Table.add_constructor.Goals as goal
use Rattle.tf_check.proofs.table.Table.add_constructor.Goals.{in-Ok, in-Err}

pub returns : goal.returns
returns c =
    let absent : constructor_named c.args.name.now
    (listed_constructors c.self.inside.constructors.entries) ≡ None =
    ap (λ (g : Signature). constructor_named c.args.name.now g.constructors) c.self.view_is
    ∙ c.requires.absent in
    elim c.match-insert.branch [
      | in-Ok w ↦
          rw (w.result-is, sym c.self.view_is)
          (ap (λ (cs : List Constructor). record {
            constructors = cs;
            symbols = listed_symbols c.self.inside.symbols.entries;
          })
          (ap listed_constructors w.in-Ok.ensures.entries
          ∙ insert_listed listed_constructor (λ (k : Constructor). k.name) (λ e. refl)
          c.args.name c.args.arity c.self.inside.constructors.entries absent))
      | in-Err w ↦ rw w.result-is tt
    ]
