-- The equations of the readings of terms.
use Rattle.std.proofs.Common.{◌≡◌, ℕ, List, map, sym, ap, ◌∙◌}
use Rattle.tptp_syntax.specs.declared.term.RawTerm.{RawTerm}
use Rattle.tptp_syntax.specs.declared.term.RawTerm.TheVariants as t
use Rattle.tptp_syntax.specs.declared.term.RawTerm.TheOpen as layer
use Rattle.tptp_syntax.specs.declared.term.RawTerm.TheFolds.{fold-roll-RawTerm}
use Rattle.tf_core.specs.declared.signature.Signature.{Signature}
use Rattle.tf_check.specs.Terms.{TermReading, term_reading, term_step}
use Rattle.tf_check.specs.Names.{Occurrence, names_of_term, names_of_term_at}
use Rattle.tptp_syntax.specs.FileSizes.{term_nodes, term_nodes_at}

-- ---- readings

pub term_reading-variable : (entry : ℕ) (signature : Signature) (name : List ℕ) →
    term_reading entry signature (t.Variable name) ≡ term_step entry signature (layer.Variable name)
unfolding term_reading
term_reading-variable entry signature name =
    ap (term_reading entry signature) (sym (t.rolls-Variable name))
    ∙ fold-roll-RawTerm TermReading (term_step entry signature) (layer.Variable name)

pub term_reading-apply : (entry : ℕ) (signature : Signature) (name : List ℕ) (parts : List RawTerm) →
    term_reading entry signature (t.Apply name parts) ≡ term_step entry signature (layer.Apply name (map (term_reading entry signature) parts))
unfolding term_reading
term_reading-apply entry signature name parts =
    ap (term_reading entry signature) (sym (t.rolls-Apply name parts))
    ∙ fold-roll-RawTerm TermReading (term_step entry signature) (layer.Apply name parts)

pub term_reading-individuals : (entry : ℕ) (signature : Signature) →
    term_reading entry signature t.Individuals ≡ term_step entry signature layer.Individuals
unfolding term_reading
term_reading-individuals entry signature =
    ap (term_reading entry signature) (sym t.rolls-Individuals)
    ∙ fold-roll-RawTerm TermReading (term_step entry signature) layer.Individuals

-- ---- names

pub names_of_term-variable : (parameters : List ℕ → ℕ) (name : List ℕ) →
    names_of_term parameters (t.Variable name) ≡ names_of_term_at parameters (layer.Variable name)
unfolding names_of_term
names_of_term-variable parameters name =
    ap (names_of_term parameters) (sym (t.rolls-Variable name))
    ∙ fold-roll-RawTerm (List Occurrence) (names_of_term_at parameters) (layer.Variable name)

pub names_of_term-apply : (parameters : List ℕ → ℕ) (name : List ℕ) (parts : List RawTerm) →
    names_of_term parameters (t.Apply name parts) ≡ names_of_term_at parameters (layer.Apply name (map (names_of_term parameters) parts))
unfolding names_of_term
names_of_term-apply parameters name parts =
    ap (names_of_term parameters) (sym (t.rolls-Apply name parts))
    ∙ fold-roll-RawTerm (List Occurrence) (names_of_term_at parameters) (layer.Apply name parts)

pub names_of_term-individuals : (parameters : List ℕ → ℕ) →
    names_of_term parameters t.Individuals ≡ names_of_term_at parameters layer.Individuals
unfolding names_of_term
names_of_term-individuals parameters =
    ap (names_of_term parameters) (sym t.rolls-Individuals)
    ∙ fold-roll-RawTerm (List Occurrence) (names_of_term_at parameters) layer.Individuals

-- ---- nodes

pub term_nodes-variable : (name : List ℕ) →
    term_nodes (t.Variable name) ≡ term_nodes_at (layer.Variable name)
unfolding term_nodes
term_nodes-variable name =
    ap term_nodes (sym (t.rolls-Variable name))
    ∙ fold-roll-RawTerm ℕ term_nodes_at (layer.Variable name)

pub term_nodes-apply : (name : List ℕ) (parts : List RawTerm) →
    term_nodes (t.Apply name parts) ≡ term_nodes_at (layer.Apply name (map term_nodes parts))
unfolding term_nodes
term_nodes-apply name parts =
    ap term_nodes (sym (t.rolls-Apply name parts))
    ∙ fold-roll-RawTerm ℕ term_nodes_at (layer.Apply name parts)

pub term_nodes-individuals : term_nodes t.Individuals ≡ term_nodes_at layer.Individuals
unfolding term_nodes
term_nodes-individuals =
    ap term_nodes (sym t.rolls-Individuals)
    ∙ fold-roll-RawTerm ℕ term_nodes_at layer.Individuals
