use Rattle.std.proofs.Common.{ℕ, ◌≡◌, ◌≢◌, List, codes}
use Rattle.std.proofs.lemmas.Bool.Decides.{Decides-eqb}
use Rattle.std.proofs.lemmas.Slice.Eq.{slice_eq-Decides}
use Rattle.sok_entry.specs.declared.version.Version.{Version}
use Rattle.sok_entry.specs.declared.version.Version.TheVariants.{One, Two}
use Rattle.sok_entry.specs.Text.{header}
use Rattle.sok_entry.proofs.grammar.version_of_line.Goals as goal

pub returns-then-eq : goal.returns-then-eq
unfolding header
returns-then-eq c = (slice_eq-Decides Decides-eqb c.args.line.now (codes "sokoban-certificate 1") c.eq.result c.eq.ensures).0 c.if-eq.true

pub returns-then-eq-2 : goal.returns-then-eq-2
unfolding header
returns-then-eq-2 c = (slice_eq-Decides Decides-eqb c.args.line.now (codes "sokoban-certificate 2") c.eq-2.result c.eq-2.ensures).0 c.if-eq-2.true

-- a line that is neither
neither : (line : List ℕ) → line ≢ codes "sokoban-certificate 1" → line ≢ codes "sokoban-certificate 2" → (version : Version) → line ≡ header version → ⊥
unfolding header
neither line one two One is = one is
neither line one two Two is = two is

pub returns : goal.returns
returns c =
    let line = c.args.line.now in
    let first = (slice_eq-Decides Decides-eqb line (codes "sokoban-certificate 1") c.eq.result c.eq.ensures).1 in
    let second = (slice_eq-Decides Decides-eqb line (codes "sokoban-certificate 2") c.eq-2.result c.eq-2.ensures).1 in
    neither line (λ same. let yes = first same in cc) (λ same. let yes = second same in cc)
