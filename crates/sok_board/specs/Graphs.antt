-- Graphs with numbered nodes, one of which is the start, and the fewest letters that lead from the start to each node.
use Rattle.std.specs.Prelude.{ℕ, ◌≡◌, ◌≤◌, List, [], ◌∷◌, Option, Some, None, IfSome, Vec, length, slice_index_or}
use Rattle.std.specs.Option.{option_and_then}
use Rattle.sok_rules.specs.declared.cell.Dir.{Dir}

-- the number of nodes, the start, and the node to which a letter leads from a node, if it leads anywhere
pub record Graph : Type 0 where
  pub nodes : ℕ
  pub start : ℕ
  pub way : Dir → ℕ → Option ℕ

-- the node to which a list of letters leads from a node
abbrev pub follow : Graph → ℕ → List Dir → Option ℕ
follow g s [] = Some s
follow g s (d ∷ w) = option_and_then (λ t. follow g t w) (g.way d s)

-- a shortest list of letters that leads from the start to a node
pub record IsShortest (g : Graph) (s : ℕ) (w : List Dir) : Type 0 where
  pub lead : follow g g.start w ≡ Some s
  pub least : (v : List Dir) → follow g g.start v ≡ Some s → length w ≤ length v

-- the depth of a node: the length of a shortest list of letters that leads there, or None if none does
abbrev pub TellsDepth : Graph → ℕ → Option ℕ → Type 0
TellsDepth g s None = (v : List Dir) → follow g g.start v ≡ Some s → ⊥
TellsDepth g s (Some n) = (w : List Dir) × IsShortest g s w × (length w ≡ n)

-- a table of the depths of all nodes, none of which is above the number of nodes
pub record AreDepths (g : Graph) (depths : List (Option ℕ)) : Type 0 where
  pub whole : length depths ≡ g.nodes
  pub exact : (s : ℕ) → TellsDepth g s (slice_index_or depths s None)
  pub bounded : (s : ℕ) → IfSome (slice_index_or depths s None) (λ n. n ≤ g.nodes)

-- a shortest list of letters that leads to a node, or None if none does
abbrev pub TellsLetters : {A : Type 0} → Graph → ℕ → Option (Vec Dir A) → Type 0
TellsLetters g s None = (v : List Dir) → follow g g.start v ≡ Some s → ⊥
TellsLetters g s (Some w) = IsShortest g s w.items
