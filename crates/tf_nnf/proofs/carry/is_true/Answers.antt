use Rattle.std.proofs.Common.{ℕ, ◌+◌, ◌≤◌, List, [], length, reverse, sym, ap, subst, arith}
use Rattle.enc_base.specs.Tables.{EachBelow}
use Rattle.enc_base.proofs.Tables.{EachBelow-length}
use Rattle.tf_core.specs.Counts.{depth}
use Rattle.tf_core.specs.Sound.{IsSoundStated}
use Rattle.tf_core.specs.Typing.{IsFormula}
use Rattle.tf_models.specs.Assignment.{Assignment}
use Rattle.tf_models.specs.Evaluation.{IsTrueOrFalse}
use Rattle.tf_nnf.proofs.Extended.{conjecture_within, conjecture_all}
use Rattle.tf_nnf.proofs.NextTuple.{over_its_length}
use Rattle.tf_nnf.proofs.carry.is_true.Goals as goal

pub set_types-requires : goal.set_types-requires
set_types-requires c =
    let long = EachBelow-length c.args.stated.now.type_variables (length c.args.structure.now.sizes)
    c.args.members.now c.requires.below in
    let most = conjecture_within (λ stated. stated.type_variables) c.args.problem.now.formulas
    c.args.stated.now c.requires.refuted.found in
    record { room = omega (arith, long, most, c.requires.room.members) }

pub holds-requires-clause-formula : goal.holds-requires-clause-formula
holds-requires-clause-formula c =
    let count : ℕ = c.args.stated.now.type_variables in
    let bound : ℕ = length c.args.structure.now.sizes in
    let sound = conjecture_all (IsSoundStated c.args.problem.now.signature) c.args.problem.now.formulas
    c.args.stated.now c.requires.refuted.sound.formulas c.requires.refuted.found in
    subst
    (λ (env : Assignment).
    IsTrueOrFalse c.args.problem.now.signature c.args.structure.now env c.args.stated.now.body)
    (sym c.set_types.ensures.exact)
    (record {
      context = [];
      typed =
          subst
          (λ n. IsFormula c.args.problem.now.signature n [] c.args.stated.now.body)
          (EachBelow-length count bound c.args.members.now c.requires.below) sound.typed;
      assigned = record {
        members =
            subst (λ (bounds : List ℕ). EachBelow bounds c.args.members.now)
            (sym (over_its_length count bound c.args.members.now c.requires.below))
            c.requires.below;
        elements =
            subst (λ (elements : List ℕ). EachBelow [] (reverse elements))
            (sym c.requires.room.none) tt;
      };
    })

pub holds-requires-clause-room : goal.holds-requires-clause-room
holds-requires-clause-room c =
    let most = conjecture_within (λ stated. depth stated.body) c.args.problem.now.formulas
    c.args.stated.now c.requires.refuted.found in
    let room = c.requires.room.elements in
    let none = ap length c.requires.room.none in
    let fits : length c.args.env.now.elements + depth c.args.stated.now.body
    ≤ c.args.env.now.elements_room = omega arith in
    subst
    (λ (env : Assignment).
    length env.elements + depth c.args.stated.now.body ≤ env.elements_room)
    (sym c.set_types.ensures.exact) fits
