-- A normalizer, which makes keys: it keeps the area of a board.
use Rattle.std.specs.Prelude.{◌<◌, length}
use Rattle.sok_board.specs.Area.{BoardView}
use Rattle.sok_field.specs.Numbers.{Draws}
use Rattle.sok_state.specs.declared.normalizer.Normalizer.{Normalizer}

abbrev pub Normalizes : BoardView → Normalizer → Type 0
Normalizes b normalizer = Draws b (λ n. n < length b.area) normalizer.area
