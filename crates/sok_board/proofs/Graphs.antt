-- What a depth tells: whether letters lead to a node.
use Rattle.std.proofs.Common.{ℕ, ◌≡◌, refl, sym, true, true≢false, List, Option, Some, None, is_some}
use Rattle.sok_rules.specs.declared.cell.Dir.{Dir}
use Rattle.sok_board.specs.Graphs.{Graph, follow, TellsDepth}

pub leads-told : (g : Graph) (s : ℕ) (o : Option ℕ) → TellsDepth g s o → is_some o ≡ true → (w : List Dir) × (follow g g.start w ≡ Some s)
leads-told g s (Some n) (w, shortest, long) some = (w, shortest.lead)
leads-told g s None none some = absurd (true≢false (sym some))

pub told-leads : (g : Graph) (s : ℕ) (o : Option ℕ) → TellsDepth g s o → (w : List Dir) → follow g g.start w ≡ Some s → is_some o ≡ true
told-leads g s (Some n) told w leads = refl
told-leads g s None none w leads = absurd (none w leads)
